-- What a refusal of a merge leaves, by its number: document 01's refusal table.
-- Assumes nothing.
use Rattle.std.specs.Prelude.{ℕ, ◌/◌, ◌<◌, ◌≡◌, refl, Bool, true, false, cond, List, [], ◌∷◌, ◌≢◌, eqb, ltb, length, Err}
use Rattle.std.proofs.Common.{arith, sym, ap, ◌∙◌, subst}
use Rattle.std.proofs.lemmas.Bool.{false≢true}
use borrow.Author.Tests.{eqb-true, eqb-false, eq-eqb, ne_eqb}
use Rattle.cells.specs.Proof.Split.{by-test}
use Rattle.byte_slices.specs.Proof.Ways.{pick}
use Rattle.link.specs.declared.Link.{Link}
use Rattle.link.specs.declared.Lent.{Lent}
use Rattle.link.specs.declared.cause.Refusal.{Refusal}
use Rattle.link.specs.Judge.{refused, none, broken_of, change_of}
use Rattle.link.specs.Judge as Link
use Rattle.link.specs.Proof.Passed.{judge-gives}
use Rattle.elf_object.specs.Rows.{rows_in}
use Rattle.elf_object.specs.Judge as Elf
use Rattle.merge_sections.specs.Reserve as Reserve
use Rattle.section_groups.specs.Group as Group
use Rattle.merge_symbols.specs.Plan.{place_of}
use Rattle.merge_symbols.specs.Stage as Symbols
use Rattle.merge_build.specs.Build as Build
use Rattle.merge_build.specs.Finish.{after_build}
use Rattle.merge_stages.specs.Stages.{All, Object, stop, put_symbols, group_object, after_groups, after_sections}
use Rattle.merge_elf.specs.Merge.{leave, work_refusal, rows_refusal, check_of, head_in, lent, ended_as, merge_of, finished_of}
use Rattle.merge_laws.proofs.Placed.{from-beside}
use Rattle.merge_laws.proofs.Issue.{keep-symbols}
use Rattle.merge_laws.proofs.GroupStageLemmas.{groups-count}
use Rattle.merge_laws.specs.MergeSteps.{group_first, reserve_first}
use Rattle.merge_laws.proofs.Whole.{passed}
use Rattle.merge_laws.proofs.Unbroken.{stages-broken}
use Rattle.merge_laws.specs.Refusals.{symbol_name, section_name}
use Rattle.merge_laws.proofs.Refusals.{SymbolLeft, place_other, BuildLeft}
use Rattle.merge_laws.proofs.Refusals as Refusals
use Rattle.merge_laws.specs.Stops.{object, prepared, marked, symbol_reader, with_added, builder, sections_to, groups_to, symbols_to, uninitialized_to, program_to, before2, before1, with_build, end, number}
use Rattle.merge_laws.proofs.Stops.{Stops, in-sections, in-groups, in-filter, in-symbols, in-uninitialized, in-program, in-input, stops}
use Rattle.merge_laws.specs.Table.{one_of, section_causes, filter_causes, early_causes, group_numbers, new_numbers, symbol_numbers, built_numbers, relocation_causes, merge_head_numbers}
use Rattle.merge_laws.specs.ByNumber.{HeadLeaves, id_in, named, MergeLeaves, symbols_at, program_at, Between, filter, groups, input, program, sections, symbols, uninitialized, all_left, place_at, elements, name_at, Met, Leaves, all, but-its-name, SymbolsLeft, NamesLeft}

-- ---- numbers that no list shares

abbrev pub disjoint : List ℕ → List ℕ → Bool
disjoint [] ys = true
disjoint (x ∷ xs) ys = cond (one_of x ys) false (disjoint xs ys)

pub apart : (n : ℕ) (xs ys : List ℕ) → disjoint xs ys ≡ true → one_of n xs ≡ true → one_of n ys ≡ true → ⊥
apart n [] ys d a b = false≢true a
apart n (x ∷ xs) ys d a b =
    by-test (one_of x ys) (λ t. false≢true (rw t at d))
    (λ t.
    by-test (eqb n x) (λ e. false≢true (sym t ∙ ap (λ (k : ℕ). one_of k ys) (sym (eqb-true _ _ e)) ∙ b))
    (λ e. apart n xs ys (rw t at d) (rw e at a) b))

-- ---- the head

work-gives : (P : Refusal → Type 0) → ((k : ℕ) → P (refused 2 k)) → P none → (headers entries : List ℕ) (work ids : ℕ) → P (work_refusal headers entries work ids)
unfolding work_refusal
work-gives P two fine headers entries work ids =
    by-test (ltb (work / 8) (rows_in headers)) (λ t. rw t (two 0))
    (λ t. by-test (ltb ids (rows_in entries)) (λ u. rw (t, u) (two 0)) (λ u. rw (t, u) fine))

pub elf-gives : (P : Refusal → Type 0) → ((k : ℕ) → P (refused 1 k)) → P none → (headers entries : List ℕ) (contents file : ℕ) → P (Elf.judge_of headers entries contents file)
unfolding Elf.judge_of
elf-gives P one fine headers entries contents file =
    by-test (ltb (Elf.bad_header headers (rows_in entries) contents file) (rows_in headers)) (λ t. rw t (one _))
    (λ t. by-test (ltb (Elf.bad_entry entries) (rows_in entries)) (λ u. rw (t, u) (one _)) (λ u. rw (t, u) fine))

pub changed : (P : Refusal → Type 0) → P (refused 22 0) → ((k : ℕ) → P (refused 1 k)) → P none → (l : Link) (n : Lent) → P (change_of l n)
unfolding change_of
changed P broken one fine l n = pick P l.broken (refused 22 0) (Link.judge_of l n) (λ t. broken) (λ t. judge-gives P one fine l n)

change-broken : (l : Link) (n : Lent) → l.broken ≡ true → change_of l n ≡ refused 22 0
unfolding change_of
change-broken l n e = ap (λ (b : Bool). cond b (refused 22 0) (Link.judge_of l n)) e

-- 22, 1, 2
head-numbers : (o : Object) (a : All) → (head_in o a).number ≢ 0 → one_of (head_in o a).number merge_head_numbers ≡ true
unfolding check_of rows_refusal
head-numbers o a u =
    let change : Refusal = change_of a.stage.link (lent a) in
    let rows : Refusal = Elf.judge_of o.headers o.entries (length o.contents) (length o.image) in
    by-test (eqb change.number 0)
    (λ c.
    by-test (eqb rows.number 0)
    (λ r.
    rw (c, r)
    (work-gives P (λ k v. refl) (λ v. absurd (v refl)) o.headers o.entries (length a.work) (length a.ids) (rw (c, r) at u)))
    (λ r. rw (c, r) (elf-gives P (λ k v. refl) (λ v. absurd (v refl)) o.headers o.entries (length o.contents) (length o.image) (eqb-false _ _ r))))
    (λ c. rw c (change-gives a.stage.link (lent a) (eqb-false _ _ c)))
  where
    P : Refusal → Type 0
    P r = r.number ≢ 0 → one_of r.number merge_head_numbers ≡ true

    change-gives : (l : Link) (n : Lent) → P (change_of l n)
    change-gives l n = changed P (λ v. refl) (λ k v. refl) (λ v. absurd (v refl)) l n

pub head-leaves : (o : Object) (a : All) → (head_in o a).number ≢ 0 → HeadLeaves o a
unfolding merge_of finished_of
head-leaves o a u = record { number = head-numbers o a u; all = rw (ne_eqb (head_in o a).number 0 u) }

-- 22 comes first
pub broken-refused : (o : Object) (a : All) → a.stage.link.broken ≡ true → merge_of o a ≡ leave a a.stage.link (Err (refused 22 0))
unfolding merge_of finished_of check_of
broken-refused o a b =
    let e : change_of a.stage.link (lent a) ≡ refused 22 0 = change-broken a.stage.link (lent a) b in
    rw e

-- ---- behind the head

module _ (o : Object) (a : All) where
  pub refused-breaks : (head_in o a).number ≡ 0 → number o a ≢ 0
      → merge_of o a ≡ leave (end o a) (broken_of (end o a).stage.link) (Err (refused (number o a) (end o a).stage.place))
  unfolding merge_of finished_of ended_as
  refused-breaks h u = rw (eq-eqb (head_in o a).number 0 h, ne_eqb (number o a) 0 u)

  pub accepted-stays : (head_in o a).number ≡ 0 → number o a ≡ 0 → MergeLeaves o a
  unfolding merge_of finished_of ended_as
  accepted-stays h z =
      record { all = rw (eq-eqb (head_in o a).number 0 h, eq-eqb (number o a) 0 z); whole = stages-broken o a ∙ (passed o a h).whole }

  -- ---- between two elements: what those before have left

  -- a refused state has its own number
  whole : (b : All) (p : ℕ → ℕ) (k : ℕ) → end o a ≡ stop b k (p k) → end o a ≡ stop b (number o a) (p (number o a))
  whole b p k e = e ∙ ap (λ (k : ℕ). stop b k (p k)) (sym (ap (λ (t : All). t.stage.number) e))

  -- where 21 isn't met
  as-all : (b : All) (at : Between o a b) (k : ℕ) → Met o a at → one_of 21 (all_left o a at) ≡ false → one_of k (all_left o a at) ≡ true → end o a ≡ stop b k (place_at o a at) → Leaves o a
  as-all b at k m d h e =
      let q : number o a ≡ k = ap (λ (t : All). t.stage.number) e in
      let place : (n : ℕ) → ℕ = λ n. place_of n (id_in b (name_at o a at).name) (place_at o a at) in
      all b at m (rw q h) (whole b place k (e ∙ ap (stop b k) (sym (place_other k (all_left o a at) (id_in b (name_at o a at).name) (place_at o a at) d h))))

  symbol-left-at : (i : ℕ) (t : Symbols.State) → Met o a (symbols i) → SymbolLeft (symbol_reader o a) (symbols_to o a i) t i → end o a ≡ put_symbols (marked o a) (with_added o a t) → Leaves o a
  symbol-left-at i t m (Refusals.as_it_was k q) e =
      let f = e ∙ ap (λ (t : Symbols.State). put_symbols (marked o a) (with_added o a t)) q in
      all _ (symbols i) m (rw (ap (λ (t : All). t.stage.number) e) k)
      (whole (symbols_at o a i) (λ k. place_of k (id_in (symbols_at o a i) (symbol_name (symbol_reader o a) i).name) i) _ f)
  symbol-left-at i t m (Refusals.but-its-name found k q) e =
      let f = e ∙ ap (λ (t : Symbols.State). put_symbols (marked o a) (with_added o a t)) q in
      but-its-name _ (symbols i) found m (rw (ap (λ (t : All). t.stage.number) e) k) (whole (named (symbols_at o a i) (symbol_name (symbol_reader o a) i).name) (λ k. i) _ f)

  uninitialized-left-at : (n : ℕ) (t : Build.State) → Met o a (uninitialized n) → BuildLeft (builder o a) 2 (uninitialized_to o a n) t n → end o a ≡ with_build o a (after_build (before2 o a) t) → Leaves o a
  uninitialized-left-at n t m (Refusals.as_it_was k q) e =
      as-all _ (uninitialized n) t.stage.number m refl k (e ∙ ap (λ (t : Build.State). with_build o a (after_build (before2 o a) t)) q)
  uninitialized-left-at n t m (Refusals.but-its-name one found k q) e = absurd (omega arith)

  program-left-at : (n : ℕ) (t : Build.State) → Met o a (program n) → BuildLeft (builder o a) 1 (program_to o a n) t n → end o a ≡ with_build o a (after_build (before1 o a) t) → Leaves o a
  program-left-at n t m (Refusals.as_it_was k q) e =
      as-all _ (program n) t.stage.number m refl k (e ∙ ap (λ (t : Build.State). with_build o a (after_build (before1 o a) t)) q)
  program-left-at n t m (Refusals.but-its-name one found k q) e =
      let f = e ∙ ap (λ (t : Build.State). with_build o a (after_build (before1 o a) t)) q in
      but-its-name _ (program n) found m (rw (ap (λ (t : All). t.stage.number) e ∙ k)) (whole (named (program_at o a n) (section_name (builder o a) n).name) (λ k. n) 19 f)

  met : {b : All} (at : Between o a b) → place_at o a at < elements o a at → b.stage.number ≡ 0 → Met o a at
  met at h z = record { below = h; accepted = z }

  left_at : Stops o a → Leaves o a
  left_at (in-sections n h z k e) = as-all _ (sections n) (number o a) (met (sections n) h z) refl k e
  left_at (in-groups n h z k e) = as-all _ (groups n) (number o a) (met (groups n) h z) refl k e
  left_at (in-filter h z e) = as-all _ filter 8 (met filter h z) refl refl e
  left_at (in-symbols i t _ _ _ h z q l e) = symbol-left-at i t (met (symbols i) h z) l e
  left_at (in-uninitialized n t h z l e) = uninitialized-left-at n t (met (uninitialized n) h z) l e
  left_at (in-program n t h z l e) = program-left-at n t (met (program n) h z) l e
  left_at (in-input z e) = as-all _ input 2 (met input (omega arith) z) refl refl e

  pub refused-leaves : number o a ≢ 0 → Leaves o a
  refused-leaves u = left_at (stops o a u)

  -- ---- before any symbol: 3 to 8, 24

  sections-names : (n : ℕ) → NamesLeft o a (after_sections a (sections_to o a n))
  sections-names n =
      let e = from-beside o.headers n 0 (reserve_first a) in
      record {
        bytes = refl;
        names = refl;
        names-count = sym (ap (λ (l : Link). l.names) e.counts);
        bytes_count = sym (ap (λ (l : Link). l.bytes) e.counts);
        symbols = record { rows = refl; count = sym (ap (λ (l : Link). l.symbols) e.counts); long = e.long; behind = e.behind };
      }

  reserved-symbols : SymbolsLeft o a (prepared o a)
  unfolding Reserve.reserve_all_of
  reserved-symbols =
      let e = (sections-names (rows_in o.headers)).symbols in
      record { rows = refl; count = e.count; long = e.long; behind = e.behind }

  groups-symbols : (n : ℕ) → SymbolsLeft o a (after_groups (prepared o a) (groups_to o a n))
  groups-symbols n =
      let e = reserved-symbols in
      record {
        rows = refl;
        count = groups-count (λ (l : Link). l.symbols) keep-symbols (group_object (object o a)) n (group_first (prepared o a)) ∙ e.count;
        long = e.long;
        behind = e.behind;
      }

  filter-symbols : SymbolsLeft o a (marked o a)
  unfolding Group.groups_of
  filter-symbols = groups-symbols (rows_in o.headers)

  stopped-symbols : (b : All) (k p : ℕ) → end o a ≡ stop b k p → SymbolsLeft o a b → SymbolsLeft o a (end o a)
  stopped-symbols b k p e s = subst (SymbolsLeft o a) (sym e) (record { rows = s.rows; count = s.count; long = s.long; behind = s.behind })

  never : {P : Type 0} (xs ys : List ℕ) → disjoint xs ys ≡ true → one_of (number o a) xs ≡ true → one_of (number o a) ys ≡ true → P
  never xs ys d k h = absurd (apart (number o a) xs ys d k h)

  early-left : Leaves o a → one_of (number o a) early_causes ≡ true → SymbolsLeft o a (end o a)
  early-left (all b (sections n) z k e) h = stopped-symbols _ _ _ e (sections-names n).symbols
  early-left (all b (groups n) z k e) h = stopped-symbols _ _ _ e (groups-symbols n)
  early-left (all b filter z k e) h = stopped-symbols _ _ _ e filter-symbols
  early-left (all b (symbols i) z k e) h = never symbol_numbers early_causes refl k h
  early-left (all b (uninitialized n) z k e) h = never built_numbers early_causes refl k h
  early-left (all b (program n) z k e) h = never built_numbers early_causes refl k h
  early-left (all b input z k e) h = never (2 ∷ []) early_causes refl k h
  early-left (but-its-name b (sections n) x z k e) h = never [] early_causes refl k h
  early-left (but-its-name b (groups n) x z k e) h = never [] early_causes refl k h
  early-left (but-its-name b filter x z k e) h = never [] early_causes refl k h
  early-left (but-its-name b (symbols i) x z k e) h = never new_numbers early_causes refl k h
  early-left (but-its-name b (uninitialized n) x z k e) h = never [] early_causes refl k h
  early-left (but-its-name b (program n) x z k e) h = never relocation_causes early_causes refl k h
  early-left (but-its-name b input x z k e) h = never [] early_causes refl k h

  pub symbols-left : number o a ≢ 0 → one_of (number o a) early_causes ≡ true → SymbolsLeft o a (end o a)
  symbols-left u h = early-left (refused-leaves u) h

  -- ---- 3 and 24

  stopped-names : (b : All) (k p : ℕ) → end o a ≡ stop b k p → NamesLeft o a b → NamesLeft o a (end o a)
  stopped-names b k p e s =
      subst (NamesLeft o a) (sym e)
      (record {
        bytes = s.bytes;
        names = s.names;
        names-count = s.names-count;
        bytes_count = s.bytes_count;
        symbols = record { rows = s.symbols.rows; count = s.symbols.count; long = s.symbols.long; behind = s.symbols.behind };
      })

  first-left : Leaves o a → one_of (number o a) section_causes ≡ true → NamesLeft o a (end o a)
  first-left (all b (sections n) z k e) h = stopped-names _ _ _ e (sections-names n)
  first-left (all b (groups n) z k e) h = never group_numbers section_causes refl k h
  first-left (all b filter z k e) h = never filter_causes section_causes refl k h
  first-left (all b (symbols i) z k e) h = never symbol_numbers section_causes refl k h
  first-left (all b (uninitialized n) z k e) h = never built_numbers section_causes refl k h
  first-left (all b (program n) z k e) h = never built_numbers section_causes refl k h
  first-left (all b input z k e) h = never (2 ∷ []) section_causes refl k h
  first-left (but-its-name b (sections n) x z k e) h = never [] section_causes refl k h
  first-left (but-its-name b (groups n) x z k e) h = never [] section_causes refl k h
  first-left (but-its-name b filter x z k e) h = never [] section_causes refl k h
  first-left (but-its-name b (symbols i) x z k e) h = never new_numbers section_causes refl k h
  first-left (but-its-name b (uninitialized n) x z k e) h = never [] section_causes refl k h
  first-left (but-its-name b (program n) x z k e) h = never relocation_causes section_causes refl k h
  first-left (but-its-name b input x z k e) h = never [] section_causes refl k h

  pub names-left : number o a ≢ 0 → one_of (number o a) section_causes ≡ true → NamesLeft o a (end o a)
  names-left u h = first-left (refused-leaves u) h
