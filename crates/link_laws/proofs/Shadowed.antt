-- Which entries `archive_shadowed` tells, by lookups of their names and by the members that the walk has offered.
-- Assumes nothing.
use Prim.Native.Nat.{ℕ, zero, suc, ◌+◌, ◌/◌, ◌<◌, ◌≤◌}
use native.Mathlib.Omega.{arith}
use Rattle.std.proofs.Common.{sym, ap, ◌∙◌, subst, add-zero, zero-add, add-one, append-nil, append_assoc, length-append, not-suc-le-zero}
use Rattle.std.specs.Prelude.{◌≡◌, refl, Bool, true, false, cond, not, ◌&&◌, List, [], ◌∷◌, ◌++◌, eqb, ltb, length, drop, Result, Ok, Err}
use Rattle.std.proofs.lemmas.List.Edits.{sets, sets-eq}
use borrow.Author.Tests.{eqb-true, eqb-false, eq-eqb, ne_eqb, lt-ltb, le-ltb, ltb-true, ltb-false}
use Rattle.cells.specs.Search.{any_from}
use Rattle.cells.specs.Proof.Split.{by-test}
use Rattle.byte_slices.specs.Proof.Ways.{pick, apart}
use Rattle.link.specs.declared.Interned.{Interned}
use Rattle.link.specs.declared.cause.Refusal.{Refusal}
use Rattle.symbol.specs.declared.Symbol.{Symbol}
use Rattle.symbol.specs.Row.{symbol_at, value_words_at, scope_at, kind_at}
use Rattle.symbol.specs.Codes.{visibility_at}
use Rattle.symbol.specs.Hidden.{weak_in}
use Rattle.symbol.specs.declared.SymbolVisibility.{SymbolVisibility}
use Rattle.symbol.specs.declared.SymbolVisibility.TheVariants.{Local, Global}
use Rattle.symbol_resolution.specs.Decide.{weak_of}
use Rattle.symbol_resolution.specs.declared.rows.Holder.{Holder}
use Rattle.symbol_resolution.specs.declared.rows.Holder.TheVariants.{Unissued, Nobody, Removed, Known}
use Rattle.symbol_resolution.specs.Proof.DecideWays.{weak_same}
use Rattle.symbols.specs.Lookup.{held_of}
use Rattle.archive_index.specs.Archives.{Archives, entries_in, name_in, key_in}
use Rattle.archive_index.specs.Rows.{member_at, queue_at}
use Rattle.archive_walk.specs.Look as Look
use Rattle.archive_walk.specs.Look.{judge_table, name_holder, tied_name}
use Rattle.archive_walk.specs.Walk.{begun_number, start_of}
use Rattle.archive_laws.specs.Members.{among, is_first, fresh}
use Rattle.archive_laws.specs.Counts.{Below, one_more}
use Rattle.archive_laws.proofs.Counts.{first_one, once-members, cnt-le}
use Rattle.archive_laws.proofs.RoundLaws.{Kept, kept_fresh}
use Rattle.archive_laws.proofs.Pass.{queue-length}
use Rattle.archive_laws.specs.Runs.{queue_list, views_by, Run, history, start_run, seen}
use Rattle.archive_laws.proofs.AcceptedStart.{accepted, walk_fine}
use Rattle.archive_laws.proofs.Terms.{walked}
use Rattle.archive_laws.specs.Steps.{Fine}
use Rattle.archive_laws.proofs.Steps.{long-enough}
use Rattle.shadowed_members.specs.Shadowed as Shadowed
use Rattle.shadowed_members.specs.Shadowed.{offered_among, weak_definition, told_row, told_holder, told_name, told_at, those, listed, told_of, fits_index, shadowed_of}
use Rattle.shadowed_members.specs.Proof.Ways.{any-more}
use Rattle.symbol_laws.specs.Within.{Within}
use Rattle.symbol_laws.proofs.Within.{Fits}
use Rattle.load_laws.proofs.Own as Need
use Rattle.merge_laws.specs.Marked.{Marked}
use Rattle.merge_laws.specs.Calls.{Linked}
use Rattle.link_laws.specs.Calls.{archive_shadowed, view_in, call_left, call_number}
use Rattle.extraction_laws.proofs.Answer.{history-snoc}
use Rattle.link_laws.specs.Walks.{next_in}
use Rattle.link_laws.proofs.ArchiveIndexed.{opened}
use Rattle.link_laws.proofs.Walks.{next-is}
use Rattle.link_laws.proofs.NeverRemoved.{table-judged, rounds-kept}
use Rattle.link_laws.specs.Words.{id_of, lookup, is_undefined, undefined, strong, ties}
use Rattle.link_laws.proofs.Words.{held-answers, ties-held}
use Rattle.link_laws.specs.Shadowed.{is_definition, is_weak_binding, is_weak, weakly_defined, strongly_defined, is_row, knows, told_by, told, Settled, strongly, weakly, refers_weakly, those_below, Tells}

-- ---- a name, by its lookup

module _ (symbols : List ℕ) (name : Interned) where
  neither : (o : Bool) → cond o false (false && false) ≡ false
  neither true = refl
  neither false = refl

  pub same-binding : (v : SymbolVisibility) → is_weak_binding v ≡ weak_in v
  same-binding Local = refl
  same-binding (Global weak hidden) = refl

  defined-weak : (u w : Bool) → cond u false w ≡ not u && w
  defined-weak true w = refl
  defined-weak false w = refl

  holder-told : (o : Bool) (h : Holder)
      → told_holder symbols o h ≡ cond o (is_undefined (held_of symbols name h)) (is_definition (held_of symbols name h) && is_weak (held_of symbols name h))
  unfolding told_row weak_definition symbol_at
  holder-told o Unissued = sym (neither o)
  holder-told o Nobody = sym (neither o)
  holder-told o Removed = sym (neither o)
  holder-told true (Known id) = sym (Need.undefined-code (value_words_at symbols id.0))
  holder-told false (Known id) =
      let a = Need.undefined-code (value_words_at symbols id.0) in
      let b : is_weak_binding (visibility_at (scope_at symbols id.0)) ≡ weak_of (scope_at symbols id.0) =
      same-binding (visibility_at (scope_at symbols id.0)) ∙ weak_same (scope_at symbols id.0) in
      rw (a, b) (defined-weak (eqb (kind_at symbols id.0) 7) (weak_of (scope_at symbols id.0)))

module _ (s : Linked) (f : Fits s.table) (w : Within s.table.link s.table.names) where
  told-lookup : (o : Bool) (b : List ℕ) → told_name (view_in s.table) o b ≡ cond o (undefined b s) (weakly_defined b s)
  unfolding told_name
  told-lookup o b =
      holder-told s.table.symbols (id_of b s) o (name_holder (view_in s.table) b)
      ∙ ap (λ (a : Result Symbol Refusal). cond o (is_undefined a) (is_definition a && is_weak a)) (sym (held-answers s f w b))

-- ---- the members that were offered

module _ (key : ℕ) (archives : Archives) (keys : ℕ → ℕ) (named : ℕ → List ℕ) (c : ℕ) (r : Run) (fine : Fine key archives keys named c r) (few : c ≤ 65535) where
  -- entries of one member have one representative, and no others have
  same-member : (j k : ℕ) → j < c → k < c → eqb (member_at r.cells j) (member_at r.cells k) ≡ eqb (keys j) (keys k)
  same-member j k h g =
      let a = fine.sound.rows.member j h in
      let b = fine.sound.rows.member k g in
      by-test (eqb (keys j) (keys k))
      (λ e. eq-eqb _ _ (first_one keys _ _ a.first b.first (a.same ∙ eqb-true _ _ e ∙ sym b.same)) ∙ sym e)
      (λ e. ne_eqb _ _ (λ z. eqb-false _ _ e (sym a.same ∙ ap keys z ∙ b.same)) ∙ sym e)

  below-at : (m i : ℕ) → Below keys c (queue_list r.cells m) → i < m → queue_at r.cells i < c
  unfolding queue_list
  below-at zero i b h = absurd (not-suc-le-zero h)
  below-at (suc m) i (one_more g b) h =
      by-test (ltb i m) (λ a. below-at m i b (ltb-true _ _ a))
      (λ a. let z : i ≡ m = omega (arith, ltb-false i m a) in subst (λ (x : ℕ). queue_at r.cells x < c) (sym z) g)

  either : (a b : Bool) → cond a true b ≡ cond b true a
  either true true = refl
  either true false = refl
  either false true = refl
  either false false = refl

  queued-is : (k n : ℕ) → k < c → ((i : ℕ) → i < n → queue_at r.cells i < c)
      → any_from (λ i. eqb (member_at r.cells (queue_at r.cells i)) (member_at r.cells k)) 0 n ≡ among keys k (queue_list r.cells n)
  unfolding any_from queue_list among
  queued-is k zero h b = refl
  queued-is k (suc n) h b =
      any-more (λ i. eqb (member_at r.cells (queue_at r.cells i)) (member_at r.cells k)) 0 n
      ∙ rw (zero-add n, same-member (queue_at r.cells n) k (b n (omega arith)) h, queued-is k n h (λ i g. b i (omega arith)))
      (either (among keys k (queue_list r.cells n)) (eqb (keys (queue_at r.cells n)) (keys k)))

  module _ (going : r.walk.offered ≤ r.walk.queued) where
    offered-is : (k : ℕ) → k < c → offered_among r.cells r.walk.offered (member_at r.cells k) ≡ among keys k r.offers
    unfolding offered_among
    offered-is k h =
        let low : member_at r.cells k ≤ k = (fine.sound.rows.member k h).low in
        let q = queued-is k r.walk.offered h (λ i g. below-at r.walk.queued i fine.sound.marks.below (omega arith)) in
        rw (lt-ltb (member_at r.cells k) 65535 (omega arith)) (q ∙ ap (among keys k) (sym fine.sent))

    module _ (s : Linked) (f : Fits s.table) (w : Within s.table.link s.table.names) where
      abbrev tells : ℕ → Bool
      tells = told_at archives.bytes r.cells (view_in s.table) (offered_among r.cells r.walk.offered)

      entry-told : (k : ℕ) → k < c → tells k ≡ told_by keys named r.offers s k
      unfolding told_at
      entry-told k h =
          rw (offered-is k h, fine.sound.rows.name k h) (told-lookup s f w (among keys k r.offers) (named k))

-- ---- the list of them

module _ (p q : ℕ → Bool) where
  those-few : (n k : ℕ) → length (those p k n) ≤ n
  unfolding those
  those-few zero k = omega arith
  those-few (suc n) k = by-test (p k) (λ a. rw a (omega (arith, those-few n (k + 1)))) (λ a. rw a (omega (arith, those-few n (k + 1))))

  those-on : (n k : ℕ) → ((j : ℕ) → k ≤ j → j < k + n → p j ≡ q j) → those_below q k ++ those p k n ≡ those_below q (k + n)
  unfolding those
  those-on zero k e = append-nil (those_below q k) ∙ ap (those_below q) (sym (add-zero k))
  those-on (suc n) k e =
      let z : k + suc n ≡ k + 1 + n = omega arith in
      rw (e k (omega arith) (omega arith), z)
      (front (q k) refl ∙ those-on n (k + 1) (λ j g h. e j (omega arith) (omega arith)))
    where
      t : List ℕ
      t = those p (k + 1) n

      spread : (b : Bool) → cond b (k ∷ []) [] ++ t ≡ cond b (k ∷ t) t
      spread true = refl
      spread false = refl

      front : (b : Bool) → q k ≡ b → those_below q k ++ cond b (k ∷ t) t ≡ those_below q (k + 1) ++ t
      front b e =
          sym
          (ap (λ (x : List ℕ). x ++ t) (ap (those_below q) (add-one k) ∙ ap (λ (d : Bool). those_below q k ++ cond d (k ∷ []) []) e)
          ∙ append_assoc (those_below q k) (cond b (k ∷ []) []) t
          ∙ ap (λ (x : List ℕ). those_below q k ++ x) (spread b))

  pub those-are : (n : ℕ) → ((j : ℕ) → j < n → p j ≡ q j) → those p 0 n ≡ those_below q n
  those-are n e = those-on n 0 (λ j g h. e j (omega arith)) ∙ ap (those_below q) (zero-add n)

-- ---- the call

module _ (key : ℕ) (archives : Archives) (keys : ℕ → ℕ) (named : ℕ → List ℕ) (c : ℕ) (r : Run) (fine : Fine key archives keys named c r) (few : c ≤ 65535) (going : r.walk.offered ≤ r.walk.queued)
    (s : Linked) (f : Fits s.table) (w : Within s.table.link s.table.names) (cells : List ℕ) where
  abbrev positions : List ℕ
  positions = those_below (told_by keys named r.offers s) c

  listed-tells : r.walk.entries ≤ length cells → Tells positions cells (listed cells (told_of archives.bytes r.cells r.walk (view_in s.table)))
  listed-tells room =
      let test : ℕ → Bool = tells key archives keys named c r fine few going s f w in
      let a : told_of archives.bytes r.cells r.walk (view_in s.table) ≡ positions =
      ap (those test 0) fine.entries
      ∙ those-are test (told_by keys named r.offers s) c (λ j h. entry-told key archives keys named c r fine few going s f w j h) in
      let b : length positions ≤ length cells = omega (arith, ap length a, those-few test test r.walk.entries 0) in
      record {
        answer = ap (λ (x : List ℕ). Ok (length x)) a;
        cells-left = ap (sets cells 0) a ∙ sets-eq positions cells 0 (omega arith) ∙ ap (λ (n : ℕ). positions ++ drop n cells) (zero-add (length positions));
      }

  pub tells-them : call_number (archive_shadowed archives.bytes r.cells r.walk cells) s ≡ 0
      → Tells positions cells (call_left (archive_shadowed archives.bytes r.cells r.walk cells) s)
  unfolding shadowed_of
  tells-them =
      pick P (eqb (judge_table (view_in s.table)).number 0) _ _
      (λ a.
      pick P (fits_index archives.bytes r.cells r.walk) _ _
      (λ b.
      pick P (ltb (length cells) r.walk.entries) _ _ (λ d e. absurd (omega (arith, e)))
      (λ d e. listed-tells (ltb-false _ _ d)))
      (λ b e. absurd (omega (arith, e))))
      (λ a e. absurd (eqb-false _ _ a e))
    where
      P : Shadowed.Left → Type 0
      P x = begun_number x.answer ≡ 0 → Tells positions cells x

  -- it is accepted where cells are lent for all entries
  pub tells-goes : (met : List (List ℕ)) → Marked s.table met → r.walk.queued ≤ c → c ≤ length cells → call_number (archive_shadowed archives.bytes r.cells r.walk cells) s ≡ 0
  unfolding shadowed_of fits_index
  tells-goes met marked short room =
      rw (
        table-judged s.table f met marked w,
        le-ltb _ _ (long-enough archives r.walk.length fine.lent),
        le-ltb (length r.cells / 8) r.walk.entries (omega (arith, fine.entries, fine.sound.rows.room)),
        le-ltb r.walk.entries r.walk.queued (omega (arith, fine.entries)),
        le-ltb _ _ going,
        le-ltb (length cells) r.walk.entries (omega (arith, fine.entries)),
      )
      refl

-- ---- where nothing is told

none-below : (test : ℕ → Bool) (n : ℕ) → length (those_below test n) ≡ 0 → (k : ℕ) → k < n → test k ≡ false
none-below test zero e k h = absurd (not-suc-le-zero h)
none-below test (suc n) e k h =
    by-test (test n) (λ a. absurd (omega (arith, length-append (those_below test n) (n ∷ []), ap (λ (b : Bool). length (those_below test n ++ cond b (n ∷ []) [])) (sym a) ∙ e)))
    (λ a.
    by-test (ltb k n) (λ b. none-below test n (fewer a) k (ltb-true _ _ b))
    (λ b. let z : k ≡ n = omega (arith, ltb-false k n b) in ap test z ∙ a))
  where
    fewer : test n ≡ false → length (those_below test n) ≡ 0
    fewer a = ap length (sym (append-nil (those_below test n))) ∙ ap (λ (b : Bool). length (those_below test n ++ cond b (n ∷ []) [])) (sym a) ∙ e

module _ (keys : ℕ → ℕ) (named : ℕ → List ℕ) (q : List ℕ) (s : Linked) (k : ℕ) where
  abbrev b : List ℕ
  b = named k

  -- a name that ties is tied to a member that was offered
  settled : told_by keys named q s k ≡ false → (ties b s ≡ true → among keys k q ≡ true) → knows b s ≡ true → Settled keys named q s k
  settled untold closed known =
      by-test (among keys k q)
      (λ a.
      let d : is_definition (lookup b s) ≡ true = defined (lookup b s) known (ap (λ (x : Bool). cond x (undefined b s) (weakly_defined b s)) (sym a) ∙ untold) in
      by-test (is_weak (lookup b s)) (λ w. weakly (rw (d, w)) a) (λ w. strongly (rw (d, w))))
      (λ a.
      let t : weakly_defined b s ≡ false = ap (λ (x : Bool). cond x (undefined b s) (weakly_defined b s)) (sym a) ∙ untold in
      by-test (undefined b s)
      (λ u.
      by-test s.table.link.gabi
      (λ g. by-test (strong b s) (λ x. absurd (apart (sym a ∙ closed (by-profile g ∙ rw (u, x))))) (λ x. refers_weakly g u x))
      (λ g. absurd (apart (sym a ∙ closed (by-profile g ∙ u)))))
      (λ u.
      let d : is_definition (lookup b s) ≡ true = defined (lookup b s) known u in
      by-test (is_weak (lookup b s)) (λ w. absurd (apart (sym t ∙ rw (d, w)))) (λ w. strongly (rw (d, w)))))
    where
      defined : (x : Result Symbol Refusal) → is_row x ≡ true → is_undefined x ≡ false → is_definition x ≡ true
      defined (Ok y) e u = rw u
      defined (Err r) e u = absurd (apart e)

      by-profile : {g : Bool} → s.table.link.gabi ≡ g → ties b s ≡ cond g (undefined b s && strong b s) (undefined b s)
      by-profile e = ap (λ (g : Bool). cond g (undefined b s && strong b s) (undefined b s)) e

module _ (key : ℕ) (archives : Archives) (keys : ℕ → ℕ) (named : ℕ → List ℕ) (c : ℕ) (r : Run) (fine : Fine key archives keys named c r) (few : c ≤ 65535) (going : r.walk.offered ≤ r.walk.queued)
    (s : Linked) (f : Fits s.table) (w : Within s.table.link s.table.names) (cells : List ℕ) where
  pub nothing-told : (call_left (archive_shadowed archives.bytes r.cells r.walk cells) s).answer ≡ Ok 0
      → ((k : ℕ) → k < c → tied_name (view_in s.table) (named k) ≡ true → among keys k r.offers ≡ true) → (k : ℕ) → k < c → knows (named k) s ≡ true → Settled keys named r.offers s k
  nothing-told e closed k h known =
      let t = tells-them key archives keys named c r fine few going s f w cells (ap begun_number e) in
      let n : length (those_below (told_by keys named r.offers s) c) ≡ 0 = ap value (sym t.answer ∙ e) in
      settled keys named r.offers s k (none-below (told_by keys named r.offers s) c n k h) (λ u. closed k h (ties-held s f w (named k) ∙ u)) known
    where
      value : Result ℕ Refusal → ℕ
      value (Ok n) = n
      value (Err r) = 0

-- ---- an archive's walk: an accepted start, then any calls, each over any table

module _ (walk_key : ℕ) (archives : Archives) (rows : List ℕ) (begun : begun_number (start_of walk_key archives rows).started.begun ≡ 0) where
  abbrev c : ℕ
  c = entries_in archives

  -- "index entries to 65,535"
  few-entries : c ≤ 65535
  few-entries = (accepted archives rows (opened walk_key archives rows begun)).bound

  module _ (ts : List Look.Table) where
    abbrev pub walk : Run
    walk = history archives ts (start_run walk_key archives rows)

    fine : Fine walk_key archives (key_in archives) (name_in archives) c walk
    fine = walk_fine walk_key archives rows begun ts

    kept : Kept (key_in archives) c (seen walk)
    kept =
        subst (Kept (key_in archives) c) (sym (walked walk_key archives rows begun ts).same-rounds)
        (rounds-kept (key_in archives) c (views_by (name_in archives) c ts) fresh (kept_fresh (key_in archives) c))

    going : walk.walk.offered ≤ walk.walk.queued
    going = omega (arith, kept.some, queue-length walk.cells walk.walk.queued)

    short : walk.walk.queued ≤ c
    short =
        omega (
          arith,
          once-members (key_in archives) c (queue_list walk.cells walk.walk.queued) kept.once kept.below,
          queue-length walk.cells walk.walk.queued,
          cnt-le (is_first (key_in archives)) c,
        )

    module _ (s : Linked) (f : Fits s.table) (w : Within s.table.link s.table.names) (cells : List ℕ) where
      pub told-exactly : call_number (archive_shadowed archives.bytes walk.cells walk.walk cells) s ≡ 0
          → Tells (those_below (told archives walk.offers s) c) cells (call_left (archive_shadowed archives.bytes walk.cells walk.walk cells) s)
      told-exactly = tells-them walk_key archives (key_in archives) (name_in archives) c walk fine few-entries going s f w cells

      pub goes : (met : List (List ℕ)) → Marked s.table met → c ≤ length cells → call_number (archive_shadowed archives.bytes walk.cells walk.walk cells) s ≡ 0
      goes met marked = tells-goes walk_key archives (key_in archives) (name_in archives) c walk fine few-entries going s f w cells met marked short

  -- one more call, over this link, ends the walk; then nothing is told over it
  module _ (ts : List Look.Table) (s : Linked) (f : Fits s.table) (w : Within s.table.link s.table.names) (cells : List ℕ) where
    abbrev pub ended : Run
    ended = next_in archives (walk ts) s

    pub all-settled : (walk ts).walk.done ≡ false → ended.walk.done ≡ true → (call_left (archive_shadowed archives.bytes ended.cells ended.walk cells) s).answer ≡ Ok 0
        → (k : ℕ) → k < c → knows (name_in archives k) s ≡ true → Settled (key_in archives) (name_in archives) ended.offers s k
    all-settled d e =
        let t : Look.Table = view_in s.table in
        let same : walk (ts ++ t ∷ []) ≡ ended = history-snoc archives ts t (start_run walk_key archives rows) ∙ sym (next-is archives (walk ts) s) in
        subst
        (λ (r : Run). (call_left (archive_shadowed archives.bytes r.cells r.walk cells) s).answer ≡ Ok 0 → (k : ℕ) → k < c → knows (name_in archives k) s ≡ true
        → Settled (key_in archives) (name_in archives) r.offers s k)
        same
        (λ told.
        nothing-told walk_key archives (key_in archives) (name_in archives) c (walk (ts ++ t ∷ [])) (fine (ts ++ t ∷ [])) few-entries (going (ts ++ t ∷ [])) s f w cells told
        (λ k h u.
        subst (λ (r : Run). among (key_in archives) k r.offers ≡ true) (sym same)
        (subst (λ (r : Run). among (key_in archives) k r.offers ≡ true) (sym (next-is archives (walk ts) s))
        ((walked walk_key archives rows begun ts).last t d (ap (λ (r : Run). r.walk.done) (sym (next-is archives (walk ts) s)) ∙ e) k h u))))

-- in the old profile a settled name whose member was not offered is held strongly
pub held-strongly : (archives : Archives) (q : List ℕ) (s : Linked) (k : ℕ) → s.table.link.gabi ≡ false → among (key_in archives) k q ≡ false
    → Settled (key_in archives) (name_in archives) q s k → strongly_defined (name_in archives k) s ≡ true
held-strongly archives q s k old free (strongly e) = e
held-strongly archives q s k old free (weakly e a) = absurd (apart (sym free ∙ a))
held-strongly archives q s k old free (refers_weakly g u e) = absurd (apart (sym old ∙ g))
