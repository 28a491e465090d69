-- The rules of a call for the next member, over a walk that a start began: the names are the indexes' own.
-- Assumes nothing.
use Prim.Native.Nat.{ℕ, zero, suc, ◌+◌, ◌*◌, ◌/◌, ◌<◌, ◌≤◌}
use Rattle.std.proofs.Common.{arith, sym, ◌∙◌}
use Rattle.std.specs.Prelude.{◌≡◌, refl, cond, List, [], ◌∷◌, ◌++◌, eqb, ltb, length}
use Rattle.std.proofs.Math.Path.{ap}
use borrow.Author.Tests.{eqb-true, eqb-false}
use Rattle.cells.specs.Proof.Split.{by-test}
use Rattle.gabi.specs.StringTable.{name_at}
use Rattle.archive_index.specs.Index.{after_of, place_of, name_of}
use Rattle.archive_index.specs.Archives.{Archives, index_at, count_at, entries_from, entries_in, name_in}
use Rattle.archive_index.specs.Open.{open_of}
use Rattle.archive_walk.specs.Look.{Table}
use Rattle.archive_walk.specs.Walk.{begun_number, begun_of, start_of}
use Rattle.archive_laws.specs.Runs.{Run, history, start_run}
use Rattle.archive_laws.proofs.AcceptedStart.{accepted, walk_fine}
use Rattle.archive_laws.proofs.EveryIndex.{named-at, within}
use Rattle.link.specs.Bounds.{not_lent}
use Rattle.symbol_laws.specs.History.{State}
use Rattle.link_laws.specs.Rules.{Rule, ◌gives◌at◌, each, each_of, lent_rows, count_rules}
use Rattle.link_laws.specs.ArchiveRules.{entry_count, name_start, own_bytes, position, is_other_walk, entry_name, is_gone, next_rules, index_name, gone_rules, indexed_rules}
use Rattle.link_laws.proofs.ArchiveExactly.{count-is, index-is, position-on, entries-on}
use Rattle.link_laws.proofs.CutShort.{names_whole}

-- ---- a rule for each of some rows, in parts

each-both : (f : ℕ → Rule) (m n i : ℕ) → each f i (m + n) ≡ each f i m ++ each f (i + m) n
each-both f zero n i = let e : 0 + n ≡ n = omega arith in let z : i + 0 ≡ i = omega arith in rw (e, z)
each-both f (suc m) n i =
    let e : suc m + n ≡ suc (m + n) = omega arith in
    let z : i + suc m ≡ i + 1 + m = omega arith in
    rw (e, z) (ap (λ (l : List Rule). f i ∷ l) (each-both f m n (i + 1)))

each-behind : (f g : ℕ → Rule) (p n i : ℕ) → ((k : ℕ) → k < i + n → f (p + k) ≡ g k) → each f (p + i) n ≡ each g i n
each-behind f g p zero i h = refl
each-behind f g p (suc n) i h =
    let e : p + i + 1 ≡ p + (i + 1) = omega arith in
    rw (h i (omega arith), e, each-behind f g p n (i + 1) (λ k l. h k (omega arith)))

module _ (key : ℕ) (archives : Archives) (cells : List ℕ) (begun : begun_number (start_of key archives cells).started.begun ≡ 0) where
  pub opened : (open_of archives cells).opened.refusal.number ≡ 0
  unfolding start_of begun_of
  opened =
      by-test (eqb (open_of archives cells).opened.refusal.number 0) (λ e. eqb-true _ _ e) (λ e. absurd (eqb-false _ _ e (rw e at begun)))

  -- the names of index j, one after the other
  place_is : (j : ℕ) → j < length archives.ends → (k : ℕ) → k ≤ count_at archives j
      → place_of (index_at archives j) (count_at archives j) k ≡ name_start (index_at archives j) (entry_count (index_at archives j)) k
  unfolding place_of after_of
  place_is j h zero l = ap (λ (n : ℕ). 4 + 4 * n) (count-is (index_at archives j))
  place_is j h (suc k) l =
      let x : List ℕ = index_at archives j in
      rw (← place_is j h k (omega arith), names_whole x 0 ((accepted archives cells opened).names j (omega arith) (omega arith)) k (omega arith))

  module _ (ts : List Table) where
    abbrev r : Run
    r = history archives ts (start_run key archives cells)

    entry-name : (j : ℕ) → j < length archives.ends → (k : ℕ) → k < count_at archives j
        → entry_name archives.bytes r.cells (position archives j + k) ≡ index_name (own_bytes archives j) k
    unfolding name_of
    entry-name j h k l =
        let z : 0 + j ≡ j = omega arith in
        let y : 0 + entries_from archives j 0 ≡ entries_from archives j 0 = omega arith in
        let first : entries_from archives j 0 ≡ position archives j = rw (z, y) at (entries-on archives j 0) in
        let low : k < count_at archives (0 + j) = rw z l in
        let inside : position archives j + k < entries_in archives = omega (arith, first, within archives j (length archives.ends) 0 h, low) in
        (walk_fine key archives cells begun ts).sound.rows.name (position archives j + k) inside
        ∙ ap (λ (p : ℕ). name_in archives (p + k)) (sym first)
        ∙ named-at archives j (length archives.ends) 0 k h low
        ∙ rw z (ap (name_at (index_at archives j)) (place_is j h k (omega arith)) ∙ rw (index-is archives j))

    module _ (t : State) where
      abbrev gone_at : ℕ → Rule
      gone_at k = is_gone t (entry_name archives.bytes r.cells k) gives 21 at k

      abbrev own : ℕ → List Rule
      own j = gone_rules t (own_bytes archives j) (position archives j)

      by_index : (n j : ℕ) → j + n ≡ length archives.ends → each gone_at (position archives j) (entries_from archives n j) ≡ each_of own j n
      unfolding entries_from
      by_index zero j e = refl
      by_index (suc n) j e =
          let p : ℕ = position archives j in
          let z : p + 0 ≡ p = omega arith in
          let c : count_at archives j ≡ entry_count (own_bytes archives j) = rw (index-is archives j) (count-is (own_bytes archives j)) in
          each-both gone_at (count_at archives j) (entries_from archives n (j + 1)) p
          ∙ ap (λ (l : List Rule). l ++ each gone_at (p + count_at archives j) (entries_from archives n (j + 1)))
          (ap (λ (q : ℕ). each gone_at q (count_at archives j)) (sym z)
          ∙ each-behind gone_at (λ k. is_gone t (index_name (own_bytes archives j) k) gives 21 at (p + k)) p (count_at archives j) 0
          (λ k l. ap (λ (x : List ℕ). is_gone t x gives 21 at (p + k)) (entry-name j (omega arith) k (omega arith)))
          ∙ ap (each (λ k. is_gone t (index_name (own_bytes archives j) k) gives 21 at (p + k)) 0) c)
          ∙ ap (λ (q : ℕ). own j ++ each gone_at q (entries_from archives n (j + 1))) (sym (position-on archives j))
          ∙ ap (◌++◌ (own j)) (by_index n (j + 1) (omega arith))

      pub next-indexed : next_rules archives r.cells r.walk t ≡ indexed_rules t archives r.cells r.walk
      next-indexed =
          ap (λ (l : List Rule). cond r.walk.done [] ((is_other_walk archives r.cells r.walk gives 1 at 0) ∷ cond (ltb r.walk.offered r.walk.queued) [] (heads ++ l)))
          (ap (each gone_at 0) (walk_fine key archives cells begun ts).entries ∙ by_index (length archives.ends) 0 (omega arith))
        where
          heads : List Rule
          heads = count_rules t.link (lent_rows (length t.names / 9) (length t.bytes) (length t.symbols) t.link.slots not_lent not_lent)
