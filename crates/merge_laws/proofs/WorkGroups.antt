-- The work rows behind the groups, said of the object: each section's row, its marks, the last relocation table that applies to it; and the symbol table
-- that is loaded, with its names.
-- Assumes nothing.
use Prim.Native.Nat.{ℕ, zero, suc, ◌+◌, ◌-◌, ◌*◌, ◌/◌, ◌<◌, ◌≤◌}
use Rattle.std.proofs.Common.{arith, le_refl, zero-add, sym, ◌∙◌, length-set, get_or-set_same, get_or-set_other}
use Rattle.std.proofs.Math.Path.{◌≡◌, refl, ap}
use Rattle.std.proofs.Math.Bool.{Bool, true, false, cond}
use Rattle.std.specs.Prelude.{◌&&◌, ◌||◌, ◌≢◌, ltb, leb, get_or, set}
use Rattle.std.proofs.lemmas.Bool.{false≢true}
use mathlib.Core.List.{List, [], ◌∷◌, ◌++◌, append-nil, append_assoc}
use Rattle.std.proofs.Math.Dec.{eqb}
use Rattle.std.proofs.Math.ListN.{length}
use borrow.Author.Tests.{eqb-true, eqb-false, ltb-true, ltb-false, leb-false, ne_eqb, lt-ltb, le-ltb}
use Rattle.cells.specs.Proof.Split.{by-test}
use Rattle.cells.specs.Search.{any_from}
use Rattle.gabi.specs.StringTable.{has_name, name_at, among}
use Rattle.gabi.proofs.StringTableLaws.{name-empty}
use Rattle.link.specs.Judge.{change_of}
use Rattle.strings.specs.Lookup.{Looked}
use Rattle.elf_object.specs.Rows as Elf
use Rattle.elf_object.specs.Rows.{rows_in, field, link_at, info_at, first_at, mark_at, is_loaded, name_in, table_entries, entries_from, section_of}
use Rattle.elf_object.specs.Judge as Judge
use Rattle.section_groups.specs.Group.{Plan}
use Rattle.section_groups.specs.Group as Group
use Rattle.section_groups.specs.Group.{listed_in, all_fresh, all_marked, shape_of, signature_of, mark_group_of, mark_one, mark_from, mark_all, plan_of, group_section_of, group_of, shaped_of, signed_of, group_named, decided_of, commit_group_of, groups_of}
use Rattle.merge_sections.specs.Reserve.{class_of, conversion_of}
use Rattle.merge_build.specs.Relocations.{relocations_of}
use Rattle.merge_stages.specs.Stages.{All, Object}
use Rattle.merge_elf.specs.Merge.{head_in, check_of, rows_refusal, lent}
use Rattle.symbol_laws.specs.ObjectWords.{loaded_as, symbol_table, string_table, group, strings_of, link_of}
use Rattle.merge_laws.specs.MergeWords.{rowed_below, named_by, entries_to, symbol_names, has_names, symbols_of, Bears, group_signature, group_sections, is_listed, own_signatures, is_removed}
use Rattle.merge_laws.proofs.Loop.{loop, loop-holds, loop-next}
use Rattle.merge_laws.specs.MergeSteps.{group_first, reserve_first}
use Rattle.merge_laws.proofs.WorkRows.{loaded-same, table_to, NotedTo, reserve-noted}
use Rattle.merge_laws.proofs.WorkNotes.{done-cell, done-names, done-past, done-long}
use Rattle.merge_laws.specs.GroupStage.{number_of}
use Rattle.merge_laws.proofs.GroupStageLemmas.{groups-loop}
use Rattle.merge_laws.specs.SymbolIds.{name_of}
use Rattle.merge_laws.specs.Marked.{Marked}
use Rattle.merge_laws.proofs.GroupMarks.{one-length, each-holds, group-marks, marks-lent}
use Rattle.merge_laws.specs.Accepted.{signatures_to}
use Rattle.merge_laws.proofs.Accepted.{going, next-going}
use Rattle.merge_laws.specs.FirstKept.{reader, signature, listed, met_to}
use Rattle.merge_laws.proofs.FirstKept.{to-marked, met-group, met-other}
use Rattle.merge_laws.specs.Whole.{table_in}
use Rattle.merge_laws.proofs.Whole.{passed}
use Rattle.merge_laws.specs.Stops.{reserved, object, prepared, grouped, marked, symbol_reader, groups_to}

-- ---- what a head that passes says of the object

bad-none : (ok : ℕ → Bool) (n i j : ℕ) → ltb (Judge.first_bad ok i n) (i + n) ≡ false → i ≤ j → j < i + n → ok j ≡ true
unfolding Judge.first_bad
bad-none ok zero i j e h g = absurd (omega arith)
bad-none ok (suc n) i j e h g =
    by-test (ok i)
    (λ a.
    let s : i + suc n ≡ i + 1 + n = omega arith in
    let r : ltb (Judge.first_bad ok (i + 1) n) (i + 1 + n) ≡ false = rw s at (rw a at e) in
    by-test (eqb i j) (λ b. ap ok (sym (eqb-true i j b)) ∙ a)
    (λ b. let u : i ≢ j = eqb-false _ _ b in bad-none ok n (i + 1) j r (omega arith) (omega arith)))
    (λ a. let k : i + suc n ≤ i = ltb-false _ _ (rw a at e) in absurd (omega arith))

module _ (headers entries : List ℕ) (contents file : ℕ) (ok : (Judge.judge_of headers entries contents file).number ≡ 0) where
  headers-right : ltb (Judge.bad_header headers (rows_in entries) contents file) (rows_in headers) ≡ false
  unfolding Judge.judge_of
  headers-right =
      by-test (ltb (Judge.bad_header headers (rows_in entries) contents file) (rows_in headers)) (λ a. let z : ◌≡◌ {A = ℕ} 1 0 = rw a at ok in absurd (omega arith)) (λ a. a)

  pub few-sections : rows_in headers ≤ 65280
  unfolding Judge.bad_header Judge.header_ok
  few-sections =
      by-test (ltb 65280 (rows_in headers))
      (λ a. absurd (false≢true (bad-none (Judge.header_ok headers (rows_in entries) contents file) (rows_in headers) 0 65280 (rw (zero-add (rows_in headers)) headers-right) (omega arith) (omega (arith, ltb-true 65280 (rows_in headers) a)))))
      (λ a. ltb-false _ _ a)

module _ (o : Object) (a : All) where
  pub object-judged : (head_in o a).number ≡ 0 → (Judge.judge_of o.headers o.entries (length o.contents) (length o.image)).number ≡ 0
  unfolding check_of rows_refusal
  object-judged e =
      by-test (eqb (change_of a.stage.link (lent a)).number 0)
      (λ c.
      by-test (eqb (Judge.judge_of o.headers o.entries (length o.contents) (length o.image)).number 0) (λ d. eqb-true _ _ d)
      (λ d. absurd (eqb-false _ _ d (rw (c, d) at e))))
      (λ c. absurd (eqb-false _ _ c (rw c at e)))

-- ---- the loaded symbol table

pub table-entries : (headers entries : List ℕ) (k : ℕ) → table_entries headers entries (table_to headers k) ≡ entries_to headers entries k
unfolding table_entries entries_from section_of entries_to
table-entries headers entries zero = refl
table-entries headers entries (suc t) =
    let e : t + 1 - 1 ≡ t = omega arith in
    by-test (loaded_as headers t symbol_table) (λ a. rw (a, ne_eqb (t + 1) 0 (λ q. omega arith), e)) (λ a. rw a (table-entries headers entries t))

pub name-same : (headers file : List ℕ) (n o : ℕ) → (name_in headers file n o).name ≡ name_at (strings_of headers file (loaded_as headers n string_table) n) o
unfolding name_in strings_of
name-same headers file n o =
    rw (loaded-same headers n 4) (by-test (loaded_as headers n string_table) (λ a. rw a) (λ a. rw (a, name-empty o)))

pub table-names : (headers file : List ℕ) (k o : ℕ) → table_to headers k ≢ 0 → (name_in headers file (link_at headers (section_of (table_to headers k))) o).name ≡ name_at (symbol_names headers file k) o
unfolding section_of symbol_names
table-names headers file zero o u = absurd (u refl)
table-names headers file (suc t) o u =
    let e : t + 1 - 1 ≡ t = omega arith in
    by-test (loaded_as headers t symbol_table)
    (λ a. rw (a, ne_eqb (t + 1) 0 (λ q. omega arith), e) (name-same headers file (link_of headers t) o))
    (λ a. rw a (table-names headers file t o (rw a at u)))

found-same : (headers file : List ℕ) (n o : ℕ) → (name_in headers file n o).found ≡ loaded_as headers n string_table && has_name (strings_of headers file (loaded_as headers n string_table) n) o
unfolding name_in strings_of
found-same headers file n o = rw (loaded-same headers n 4) (by-test (loaded_as headers n string_table) (λ a. rw a) (λ a. rw a))

pub table-found : (headers file : List ℕ) (k o : ℕ) → table_to headers k ≢ 0
    → (name_in headers file (link_at headers (section_of (table_to headers k))) o).found ≡ has_names headers k && has_name (symbol_names headers file k) o
unfolding section_of symbol_names has_names
table-found headers file zero o u = absurd (u refl)
table-found headers file (suc t) o u =
    let e : t + 1 - 1 ≡ t = omega arith in
    by-test (loaded_as headers t symbol_table)
    (λ a. rw (a, ne_eqb (t + 1) 0 (λ q. omega arith), e) (found-same headers file (link_of headers t) o))
    (λ a. rw a (table-found headers file t o (rw a at u)))

pub no-entries : (headers entries : List ℕ) (k : ℕ) → table_to headers k ≡ 0 → entries_to headers entries k ≡ []
unfolding entries_to
no-entries headers entries zero e = refl
no-entries headers entries (suc t) e =
    by-test (loaded_as headers t symbol_table) (λ a. let z : t + 1 ≡ 0 = rw a at e in absurd (omega arith)) (λ a. rw a (no-entries headers entries t (rw a at e)))

-- ---- a group writes marks only

pub group-cell : (w : List ℕ) (n m f : ℕ) → f < 8 → f ≢ 1 → get_or (mark_group_of w n) (m * 8 + f) 0 ≡ get_or w (m * 8 + f) 0
unfolding mark_group_of
group-cell w n m f h u =
    by-test (eqb (mark_at w n) 2) (λ t. rw t) (λ t. rw t (get_or-set_other w (n * 8 + 1) (m * 8 + f) 1 0 (λ e. u (omega arith))))

one-cell : (w : List ℕ) (b : Bool) (n m f : ℕ) → f < 8 → f ≢ 1 → f ≢ 3 → get_or (mark_one w b n) (m * 8 + f) 0 ≡ get_or w (m * 8 + f) 0
unfolding mark_one
one-cell w true n m f h u v =
    get_or-set_other (set w (n * 8 + 1) 2) (n * 8 + 3) (m * 8 + f) 1 0 (λ e. v (omega arith)) ∙ get_or-set_other w (n * 8 + 1) (m * 8 + f) 2 0 (λ e. u (omega arith))
one-cell w false n m f h u v = get_or-set_other w (n * 8 + 3) (m * 8 + f) 1 0 (λ e. v (omega arith))

pub listed-cell : (b : Bool) (xs : List ℕ) (m f : ℕ) → f < 8 → f ≢ 1 → f ≢ 3 → (i n : ℕ) (w : List ℕ) → get_or (mark_from b xs i n w) (m * 8 + f) 0 ≡ get_or w (m * 8 + f) 0
unfolding mark_from
listed-cell b xs m f h u v i zero w = refl
listed-cell b xs m f h u v i (suc n) w = listed-cell b xs m f h u v (i + 1) n (mark_one w b (get_or xs i 0)) ∙ one-cell w b (get_or xs i 0) m f h u v

listed-long : (b : Bool) (xs : List ℕ) (i n : ℕ) (w : List ℕ) → length (mark_from b xs i n w) ≡ length w
unfolding mark_from
listed-long b xs i zero w = refl
listed-long b xs i (suc n) w = listed-long b xs (i + 1) n (mark_one w b (get_or xs i 0)) ∙ one-length w b (get_or xs i 0)

pub group-long : (w : List ℕ) (b : Bool) (n : ℕ) (xs : List ℕ) → length (mark_all (mark_group_of w n) b xs) ≡ length w
unfolding mark_group_of
group-long w b n xs =
    listed-long b xs 0 (length xs) (cond (eqb (mark_at w n) 2) w (set w (n * 8 + 1) 1))
    ∙ by-test (eqb (mark_at w n) 2) (λ t. rw t) (λ t. rw t (length-set w (n * 8 + 1) 1))

section-cell : (o : Group.Object) (s : Group.Step) (n m f : ℕ) → f < 8 → f ≢ 1 → f ≢ 3 → get_or (group_section_of o s n).work (m * 8 + f) 0 ≡ get_or s.work (m * 8 + f) 0
unfolding group_section_of group_of shaped_of signed_of group_named decided_of commit_group_of
section-cell o s n m f h u v =
    let x : Looked = signature_of o.headers o.entries o.image o.table n in
    let k : List ℕ = listed_in o n in
    let q : Plan = plan_of s.stage.link s.bytes s.names (length s.work / 8) x.name k in
    by-test (is_loaded o.headers n 7)
    (λ a.
    by-test (eqb (shape_of o s.work n) 0)
    (λ b.
    by-test x.found
    (λ c.
    by-test (eqb q.number 0) (λ d. rw (a, b, c, d) (listed-cell q.repeated k m f h u v 0 (length k) (mark_group_of s.work n) ∙ group-cell s.work n m f h u)) (λ d. rw (a, b, c, d)))
    (λ c. rw (a, b, c)))
    (λ b. rw (a, b)))
    (λ a. rw a)

groups-cell : (o : Group.Object) (s : Group.Step) (m f : ℕ) → f < 8 → f ≢ 1 → f ≢ 3 → get_or (groups_of o s).work (m * 8 + f) 0 ≡ get_or s.work (m * 8 + f) 0
unfolding groups_of
groups-cell o s m f h u v =
    rw (groups-loop o (rows_in o.headers) 0 s)
    (loop-holds number_of (group_section_of o) (λ t. get_or t.work (m * 8 + f) 0 ≡ get_or s.work (m * 8 + f) 0) (λ t n e. section-cell o t n m f h u v ∙ e)
    (rows_in o.headers) 0 s refl)

skipped : (o : Group.Object) (s : Group.Step) (n : ℕ) → is_loaded o.headers n 7 ≡ false → (group_section_of o s n).work ≡ s.work
unfolding group_section_of
skipped o s n l = rw l

-- an accepted group's signature symbol is in the loaded table
group-inside : (o : Group.Object) (s : Group.Step) (n : ℕ) → is_loaded o.headers n 7 ≡ true → (group_section_of o s n).stage.number ≡ 0
    → info_at o.headers n < rows_in o.entries
unfolding group_section_of group_of shaped_of shape_of
group-inside o s n l z =
    by-test (eqb (Elf.comdat_at o.headers n) 0) (λ a. let q : ◌≡◌ {A = ℕ} 4 0 = rw (l, a) at z in absurd (omega arith))
    (λ a.
    by-test (eqb (Elf.count_at o.headers n) 0) (λ b. let q : ◌≡◌ {A = ℕ} 5 0 = rw (l, a, b) at z in absurd (omega arith))
    (λ b.
    by-test (all_fresh s.work (rows_in o.headers) (listed_in o n))
    (λ e.
    by-test (eqb (link_at o.headers n) o.table)
    (λ c.
    by-test (leb (rows_in o.entries) (info_at o.headers n)) (λ d. let q : ◌≡◌ {A = ℕ} 6 0 = rw (l, a, b, e, c, d) at z in absurd (omega arith)) (λ d. leb-false _ _ d))
    (λ c. let q : ◌≡◌ {A = ℕ} 6 0 = rw (l, a, b, e, c) at z in absurd (omega arith)))
    (λ e. let q : ◌≡◌ {A = ℕ} 29 0 = rw (l, a, b, e) at z in absurd (omega arith))))

-- ---- one more group, by its marks

-- of the k of a list from the i-th on those are marked that m is one of
module _ (xs : List ℕ) (m : ℕ) where
  abbrev pub in_from : ℕ → ℕ → Bool
  in_from i k = any_from (λ j. eqb (get_or xs j 0) m) i k

  one-mark : (x : ℕ) (w : List ℕ) → x < length w / 8 → mark_at (mark_one w true x) m ≡ cond (eqb x m) 2 (mark_at w m)
  unfolding mark_one
  one-mark x w h =
      get_or-set_other (set w (x * 8 + 1) 2) (x * 8 + 3) (m * 8 + 1) 1 0 (λ e. omega arith)
      ∙ by-test (eqb x m) (λ c. let e : x ≡ m = eqb-true _ _ c in rw c (rw (← e) (get_or-set_same w (x * 8 + 1) 2 0 (omega arith))))
      (λ c. let u : x ≢ m = eqb-false _ _ c in rw c (get_or-set_other w (x * 8 + 1) (m * 8 + 1) 2 0 (λ e. u (omega arith))))

  later : (p q : Bool) (z : ℕ) → cond q 2 (cond p 2 z) ≡ cond (cond p true q) 2 z
  later true true z = refl
  later true false z = refl
  later false true z = refl
  later false false z = refl

  marks-from : (k i : ℕ) (w : List ℕ) → ((j : ℕ) → i ≤ j → j < i + k → get_or xs j 0 < length w / 8) → mark_at (mark_from true xs i k w) m ≡ cond (in_from i k) 2 (mark_at w m)
  unfolding mark_from any_from
  marks-from zero i w lent = refl
  marks-from (suc k) i w lent =
      let here : get_or xs i 0 < length w / 8 = lent i (omega arith) (omega arith) in
      marks-from k (i + 1) (mark_one w true (get_or xs i 0)) (λ j g h. omega (arith, lent j (omega arith) (omega arith), one-length w true (get_or xs i 0)))
      ∙ ap (λ (z : ℕ). cond (in_from (i + 1) k) 2 z) (one-mark (get_or xs i 0) w here)
      ∙ later (eqb (get_or xs i 0) m) (in_from (i + 1) k) (mark_at w m)

  none-from : (k i : ℕ) (w : List ℕ) → mark_at (mark_from false xs i k w) m ≡ mark_at w m
  unfolding mark_from mark_one
  none-from zero i w = refl
  none-from (suc k) i w = none-from k (i + 1) (mark_one w false (get_or xs i 0)) ∙ get_or-set_other w (get_or xs i 0 * 8 + 3) (m * 8 + 1) 1 0 (λ e. omega arith)

-- the mark after an accepted group at section n that lists these, and is repeated or not
module _ (w : List ℕ) (n : ℕ) (xs : List ℕ) (m : ℕ) (repeated : Bool) (room : n < length w / 8) (lent : repeated ≡ true → (j : ℕ) → j < length xs → get_or xs j 0 < length w / 8) where
  abbrev after : List ℕ
  after = mark_all (mark_group_of w n) repeated xs

  own-mark : m ≡ n → mark_at (mark_group_of w n) m ≡ cond (eqb (mark_at w m) 2) 2 1
  unfolding mark_group_of
  own-mark e =
      rw e
      (by-test (eqb (mark_at w n) 2) (λ a. rw a (eqb-true _ _ a)) (λ a. rw a (get_or-set_same w (n * 8 + 1) 1 0 (omega arith))))

  other-mark : m ≢ n → mark_at (mark_group_of w n) m ≡ mark_at w m
  unfolding mark_group_of
  other-mark u = by-test (eqb (mark_at w n) 2) (λ a. rw a) (λ a. rw a (get_or-set_other w (n * 8 + 1) (m * 8 + 1) 1 0 (λ e. u (omega arith))))

  group-length : length (mark_group_of w n) ≡ length w
  unfolding mark_group_of
  group-length = by-test (eqb (mark_at w n) 2) (λ a. rw a) (λ a. rw a (length-set w (n * 8 + 1) 1))

  pub mark-after : mark_at after m ≡ cond (repeated && is_listed m xs) 2 (cond (eqb m n) (cond (eqb (mark_at w m) 2) 2 1) (mark_at w m))
  mark-after =
      let before : mark_at (mark_group_of w n) m ≡ cond (eqb m n) (cond (eqb (mark_at w m) 2) 2 1) (mark_at w m) =
      by-test (eqb m n) (λ a. rw a (own-mark (eqb-true _ _ a))) (λ a. rw a (other-mark (eqb-false _ _ a))) in
      by-test repeated
      (λ r.
      rw r
      (marks-from xs m (length xs) 0 (mark_group_of w n) (λ j g h. omega (arith, lent r j (omega arith), group-length))
      ∙ ap (λ (z : ℕ). cond (is_listed m xs) 2 z) before))
      (λ r. rw r (none-from xs m (length xs) 0 (mark_group_of w n) ∙ before))

-- the mark that is told of one section more: 2 where x or y says so, else 1 where a test holds
module _ (g : ℕ → Bool) (m n : ℕ) where
  abbrev pub told : ℕ → Bool → ℕ
  told k x = cond x 2 (cond (ltb m k && g m) 1 0)

  below_next : ltb m (suc n) ≡ cond (eqb m n) true (ltb m n)
  below_next =
      by-test (eqb m n) (λ a. rw a (lt-ltb m (suc n) (omega (arith, eqb-true m n a))))
      (λ a.
      let u : m ≢ n = eqb-false _ _ a in
      by-test (ltb m n) (λ b. rw (a, b) (lt-ltb m (suc n) (omega (arith, ltb-true m n b)))) (λ b. rw (a, b) (le-ltb m (suc n) (omega (arith, ltb-false m n b)))))

  own : (b : Bool) → g n ≡ b → eqb m n ≡ true → g m ≡ b
  own b t e = ap g (eqb-true m n e) ∙ t

  pub told_more : g n ≡ true → (x y : Bool) → cond y 2 (cond (eqb m n) (cond (eqb (told n x) 2) 2 1) (told n x)) ≡ told (suc n) (x || y)
  told_more t true true = refl
  told_more t true false = by-test (eqb m n) (λ a. rw a) (λ a. rw a)
  told_more t false true = refl
  told_more t false false =
      rw below_next
      (by-test (eqb m n) (λ a. rw (a, own true t a) (by-test (ltb m n) (λ b. rw b) (λ b. rw b))) (λ a. rw a))

  pub told_same : g n ≡ false → (x : Bool) → told n x ≡ told (suc n) (x || false)
  told_same t true = refl
  told_same t false =
      rw below_next
      (by-test (eqb m n) (λ a. rw (a, own false t a) (by-test (ltb m n) (λ b. rw b) (λ b. rw b))) (λ a. rw a))

-- one group more
module _ (o : Object) (a : All) (passes : (grouped o a).stage.number ≡ 0) where
  pub groups-next : (n : ℕ) → n < rows_in o.headers → groups_to o a (suc n) ≡ group_section_of (reader o a) (groups_to o a n) n
  groups-next n h =
      let first : Group.Step = group_first (prepared o a) in
      let e : groups_to o a n ≡ loop number_of (group_section_of (reader o a)) n 0 first = groups-loop (reader o a) n 0 first in
      groups-loop (reader o a) (suc n) 0 first
      ∙ loop-next number_of (group_section_of (reader o a)) n 0 first (ap number_of (sym e) ∙ going o a passes n (omega arith))
      ∙ ap (λ (j : ℕ). group_section_of (reader o a) (loop number_of (group_section_of (reader o a)) n 0 first) j) (zero-add n)
      ∙ ap (λ (s : Group.Step). group_section_of (reader o a) s n) (sym e)

-- ---- a merge that passes its groups

module _ (o : Object) (a : All) (head : (head_in o a).number ≡ 0) (goes : (reserved o a).reserved.number ≡ 0) where
  abbrev headers : List ℕ
  headers = o.headers

  abbrev rows : ℕ
  rows = rows_in headers

  abbrev count : ℕ
  count = a.stage.link.sections

  pub few-rows : rows ≤ 65280
  few-rows = few-sections headers o.entries (length o.contents) (length o.image) (object-judged o a head)

  pub noted : NotedTo headers count rows (reserved o a)
  noted = reserve-noted headers (reserve_first a) few-rows (passed o a head).work refl goes

  pub untabled : (m : ℕ) → m < rows → Elf.relocations_at (reserved o a).work m ≡ 0
  untabled m h = noted.clean m 2 h (omega arith) (omega arith)

  pub prepared-long : rows ≤ length (prepared o a).work / 8
  prepared-long = omega (arith, noted.room, done-long headers o.entries few-rows (reserved o a).work noted.room untabled)

  -- ---- symbols

  pub symbols-are : (object o a).entries ≡ symbols_of headers o.entries o.contents o.image
  symbols-are = ap (table_entries headers o.entries) noted.table ∙ table-entries headers o.entries rows

  tabled : (i : ℕ) → i < rows_in (object o a).entries → table_to headers rows ≢ 0
  tabled i h z = none (ap (λ (l : List ℕ). rows_in l) (symbols-are ∙ no-entries headers o.entries rows z))
    where
      none : rows_in (object o a).entries ≡ 0 → ⊥
      none e = omega arith

  pub names-are : (i off : ℕ) → i < rows_in (object o a).entries → (name_in headers o.image (link_at headers (object o a).table) off).name ≡ name_at (symbol_names headers o.image rows) off
  names-are i off h =
      ap (λ (t : ℕ). (name_in headers o.image (link_at headers (section_of t)) off).name) noted.table
      ∙ table-names headers o.image rows off (tabled i h)

  -- and which aren't missing
  found-are : (i off : ℕ) → i < rows_in (object o a).entries
      → (name_in headers o.image (link_at headers (object o a).table) off).found ≡ has_names headers rows && has_name (symbol_names headers o.image rows) off
  found-are i off h =
      ap (λ (t : ℕ). (name_in headers o.image (link_at headers (section_of t)) off).found) noted.table ∙ table-found headers o.image rows off (tabled i h)

  -- of symbol i of the object's own table
  pub bears-own : (i : ℕ) → i < rows_in (object o a).entries → (name_of (symbol_reader o a) i).found ≡ true
      → Bears headers o.entries o.contents o.image i (name_of (symbol_reader o a) i).name
  bears-own i h f =
      let off : ℕ = field (object o a).entries i 0 in
      record {
        found =
            ap (λ (l : List ℕ). has_names headers rows && has_name (symbol_names headers o.image rows) (field l i 0)) (sym symbols-are)
            ∙ sym (found-are i off h) ∙ f;
        bytes = ap (λ (l : List ℕ). name_at (symbol_names headers o.image rows) (field l i 0)) (sym symbols-are) ∙ sym (names-are i off h);
      }

  -- ---- rows

  pub cell-stands : (m f : ℕ) → m < rows → f < 8 → f ≢ 1 → f ≢ 2 → f ≢ 3 → get_or (marked o a).work (m * 8 + f) 0 ≡ get_or (reserved o a).work (m * 8 + f) 0
  cell-stands m f h g u v w =
      groups-cell (reader o a) (group_first (prepared o a)) m f g u w ∙ done-cell headers o.entries few-rows (reserved o a).work noted.room untabled m h f g v

  pub conversion-is : (m : ℕ) → m < rows → Elf.conversion_at (marked o a).work m ≡ conversion_of (class_of headers m) (count + rowed_below headers m)
  conversion-is m h = cell-stands m 0 h (omega arith) (λ e. omega arith) (λ e. omega arith) (λ e. omega arith) ∙ noted.cells m h

  -- a section number that a symbol has and the object hasn't
  pub conversion-none : (i m : ℕ) → i < rows_in o.entries → field o.entries i 4 ≡ m → rows ≤ m → Elf.conversion_at (marked o a).work m ≡ 0
  conversion-none i m h e p =
      groups-cell (reader o a) (group_first (prepared o a)) m 0 (omega arith) (λ e. omega arith) (λ e. omega arith) ∙ done-past headers o.entries few-rows (reserved o a).work noted.room untabled i m 0 h e p (omega arith)

  pub relocations-are : (m : ℕ) → m < rows → relocations_of headers o.contents (Elf.relocations_at (marked o a).work m) ≡ named_by headers o.contents m rows
  relocations-are m h =
      ap (relocations_of headers o.contents) (groups-cell (reader o a) (group_first (prepared o a)) m 2 (omega arith) (λ e. omega arith) (λ e. omega arith))
      ∙ done-names headers o.entries few-rows (reserved o a).work noted.room untabled m h o.contents

  -- ---- marks

  module _ (passes : (grouped o a).stage.number ≡ 0) (met : List (List ℕ)) (known : Marked (table_in a) met) where
    abbrev ours : ℕ → List (List ℕ)
    ours = own_signatures headers o.entries o.contents o.image

    abbrev removed : ℕ → ℕ → Bool
    removed = is_removed headers o.entries o.contents o.image met

    signature-is : (g : ℕ) → g < rows → is_loaded headers g 7 ≡ true → signature o a g ≡ group_signature headers o.entries o.contents o.image g
    unfolding signature_of
    signature-is g h l =
        names-are (info_at headers g) (field (object o a).entries (info_at headers g) 0) (group-inside (reader o a) (groups_to o a g) g l (next-going o a passes g h))
        ∙ ap (λ (l : List ℕ). name_at (symbol_names headers o.image rows) (field l (info_at headers g) 0)) symbols-are

    pub met-is : (n : ℕ) → n ≤ rows → met_to o a met n ≡ met ++ ours n
    unfolding own_signatures
    met-is zero h = refl
    met-is (suc g) h =
        by-test (loaded_as headers g group)
        (λ t.
        let l : is_loaded headers g 7 ≡ true = loaded-same headers g 7 ∙ t in
        met-group o a met known g (going o a passes g (omega arith)) l (next-going o a passes g (omega arith))
        ∙ ap (λ (x : List ℕ). met_to o a met g ++ (x ∷ [])) (signature-is g (omega arith) l)
        ∙ ap (λ (x : List (List ℕ)). x ++ (group_signature headers o.entries o.contents o.image g ∷ [])) (met-is g (omega arith))
        ∙ append_assoc met (ours g) _ ∙ rw t)
        (λ t.
        let l : is_loaded headers g 7 ≡ false = loaded-same headers g 7 ∙ t in
        met-other o a met known g (going o a passes g (omega arith)) l ∙ met-is g (omega arith) ∙ ap (◌++◌ met) (sym (append-nil (ours g))) ∙ rw t)

    -- so an accepted merge meets these
    pub signatures-are : (n : ℕ) → n ≤ rows → signatures_to o a n ≡ ours n
    unfolding own_signatures
    signatures-are zero h = refl
    signatures-are (suc g) h =
        by-test (loaded_as headers g group)
        (λ t.
        let l : is_loaded headers g 7 ≡ true = loaded-same headers g 7 ∙ t in
        rw (t, l) (ap (λ (x : List ℕ). signatures_to o a g ++ (x ∷ [])) (signature-is g (omega arith) l) ∙ ap (λ (x : List (List ℕ)). x ++ (group_signature headers o.entries o.contents o.image g ∷ [])) (signatures-are g (omega arith))))
        (λ t. let l : is_loaded headers g 7 ≡ false = loaded-same headers g 7 ∙ t in rw (t, l) (ap (λ (x : List (List ℕ)). x ++ []) (signatures-are g (omega arith))))

    -- 2 removed; 1 a group's section
    abbrev mark_to : ℕ → ℕ → ℕ
    mark_to n m = cond (removed n m) 2 (cond (ltb m n && loaded_as headers m group) 1 0)

    work-next : (n : ℕ) → n < rows
        → (groups_to o a (suc n)).work
        ≡ cond (loaded_as headers n group)
        (mark_all (mark_group_of (groups_to o a n).work n) (among (group_signature headers o.entries o.contents o.image n) (met ++ ours n)) (group_sections headers o.entries o.contents o.image n))
        (groups_to o a n).work
    work-next n h =
        ap (λ (s : Group.Step). s.work) (groups-next o a passes n h)
        ∙ by-test (loaded_as headers n group)
        (λ t.
        let l : is_loaded headers n 7 ≡ true = loaded-same headers n 7 ∙ t in
        rw t
        (group-marks a.symbols (reserved o a).sections (reader o a) (groups_to o a n) (met_to o a met n) (to-marked o a met known n) n l (next-going o a passes n h)
        ∙ ap (λ (x : List ℕ). mark_all (mark_group_of (groups_to o a n).work n) (among x (met_to o a met n)) (listed o a n)) (signature-is n h l)
        ∙ ap (λ (x : List (List ℕ)). mark_all (mark_group_of (groups_to o a n).work n) (among (group_signature headers o.entries o.contents o.image n) x) (listed o a n)) (met-is n (omega arith))))
        (λ t. rw t (skipped (reader o a) (groups_to o a n) n (loaded-same headers n 7 ∙ t)))

    mark-room : (n : ℕ) → n < rows → loaded_as headers n group ≡ true → among (group_signature headers o.entries o.contents o.image n) (met ++ ours n) ≡ true
        → (j : ℕ) → j < length (group_sections headers o.entries o.contents o.image n) → get_or (group_sections headers o.entries o.contents o.image n) j 0 < length (groups_to o a n).work / 8
    unfolding all_marked
    mark-room n h t r j low =
        let l : is_loaded headers n 7 ≡ true = loaded-same headers n 7 ∙ t in
        ltb-true _ _
        (each-holds (λ x. ltb x (length (groups_to o a n).work / 8)) (listed o a n) j low
        (marks-lent a.symbols (reserved o a).sections (reader o a) (groups_to o a n) (met_to o a met n) (to-marked o a met known n) n l (next-going o a passes n h)
        (ap (λ (x : List ℕ). among x (met_to o a met n)) (signature-is n h l)
        ∙ ap (among (group_signature headers o.entries o.contents o.image n)) (met-is n (omega arith)) ∙ r)))

    work-long : (n : ℕ) → n ≤ rows → rows ≤ length (groups_to o a n).work / 8
    unfolding Group.groups_from
    work-long zero h = prepared-long
    work-long (suc n) h =
        let r = work-long n (omega arith) in
        let e = work-next n (omega arith) in
        by-test (loaded_as headers n group)
        (λ t. omega (arith, ap length (rw t at e), group-long (groups_to o a n).work (among (group_signature headers o.entries o.contents o.image n) (met ++ ours n)) n (group_sections headers o.entries o.contents o.image n)))
        (λ t. omega (arith, ap length (rw t at e)))

    -- behind the groups, of a section that has no mark before them
    module _ (m : ℕ) (clean : mark_at (prepared o a).work m ≡ 0) where
      mark-to : (n : ℕ) → n ≤ rows → mark_at (groups_to o a n).work m ≡ mark_to n m
      unfolding is_removed Group.groups_from
      mark-to zero h = rw (le-ltb m 0 (omega arith)) clean
      mark-to (suc n) h =
          let before : mark_at (groups_to o a n).work m ≡ mark_to n m = mark-to n (omega arith) in
          let repeated : Bool = among (group_signature headers o.entries o.contents o.image n) (met ++ ours n) in
          let k : List ℕ = group_sections headers o.entries o.contents o.image n in
          ap (λ (w : List ℕ). mark_at w m) (work-next n (omega arith))
          ∙ by-test (loaded_as headers n group)
          (λ t.
          rw t
          (mark-after (groups_to o a n).work n k m repeated (omega (arith, work-long n (omega arith))) (mark-room n (omega arith) t)
          ∙ ap (λ (x : ℕ). cond (repeated && is_listed m k) 2 (cond (eqb m n) (cond (eqb x 2) 2 1) x)) before
          ∙ told_more (λ j. loaded_as headers j group) m n t (removed n m) (repeated && is_listed m k)))
          (λ t. rw t (before ∙ told_same (λ j. loaded_as headers j group) m n t (removed n m)))

      pub mark-is : mark_at (marked o a).work m ≡ cond (removed rows m) 2 (cond (loaded_as headers m group) 1 0)
      unfolding groups_of loaded_as
      mark-is = mark-to rows (le_refl _) ∙ by-test (ltb m rows) (λ b. rw b) (λ b. rw b)

    pub clean-section : (m : ℕ) → m < rows → mark_at (prepared o a).work m ≡ 0
    clean-section m h =
        done-cell headers o.entries few-rows (reserved o a).work noted.room untabled m h 1 (omega arith) (λ e. omega arith) ∙ noted.clean m 1 h (omega arith) (omega arith)

    pub clean-past : (i m : ℕ) → i < rows_in o.entries → field o.entries i 4 ≡ m → rows ≤ m → mark_at (prepared o a).work m ≡ 0
    clean-past i m h e p = done-past headers o.entries few-rows (reserved o a).work noted.room untabled i m 1 h e p (omega arith)
