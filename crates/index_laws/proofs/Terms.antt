-- Over every history of calls from a new table, those that remove and those that are refused too, the table with an index and the old
-- layout give equal ids, rows and refusals; and what the index holds. specs/IndexedCalls.antt says what the calls are.
-- Assumes nothing.
use Rattle.std.specs.Prelude.{ℕ, ◌*◌, ◌/◌, ◌<◌, ◌≤◌, ◌≡◌, ◌≢◌, Bool, List, [], eqb, leb, ltb, get_or, take, length}
use Rattle.std.specs.declared.cmp.Ordering.TheVariants.{Less, Equal}
use Rattle.std.proofs.Common.{arith, sym, ap, ◌∙◌, length-take-le, length-take}
use borrow.Author.Tests.{eqb-true, eqb-false, ltb-true, ltb-false, leb-true, leb-false}
use Rattle.cells.specs.Proof.Split.{by-test}
use Rattle.link.specs.declared.Interned.{Interned}
use Rattle.link.specs.Bounds.{not_lent}
use Rattle.link.specs.Said.{number_in}
use Rattle.symbol.specs.Row.{scope_at}
use Rattle.symbols.specs.New.{new_of}
use Rattle.symbol_laws.specs.History.{opened}
use Rattle.symbol_laws.specs.Within.{Within}
use Rattle.symbol_laws.proofs.Within as WithinLaws
use Rattle.symbol_laws.proofs.Start.{new-inv}
use Rattle.symbol_laws.proofs.BelowLemmas.{inv-below}
use Rattle.merge_laws.specs.Calls.{Linked, linked}
use Rattle.merge_laws.proofs.MarkedLemmas.{new-marked}
use Rattle.merge_laws.proofs.Lookups as Lookups
use Rattle.merge_laws.proofs.Lookups.{new-lists}
use Rattle.link_laws.specs.Calls.{Call, get_global, call_left, run_calls}
use Rattle.link_laws.specs.Kept.{signatures}
use Rattle.link_laws.proofs.Kept.{Lasting, lasting-within, lasting-on}
use Rattle.name_index.specs.Named.{name_of_row}
use Rattle.name_index.specs.Index.{index_of, used}
use Rattle.name_index_laws.specs.InOrder.{name_in, InOrder}
use Rattle.name_index_laws.proofs.Order.{order, itself}
use Rattle.indexed_table.specs.Indexed.{bounded}
use Rattle.index_laws.specs.Listed.{rows_at, Placed}
use Rattle.index_laws.specs.IndexedCalls.{Indexed, indexed, indexed_left, run_indexed, looked_up}
use Rattle.link_laws.specs.Growth.{run_turns}
use Rattle.index_laws.specs.IndexedTurns.{IndexedTurn, run_indexed_turns, turns_of, EachPlaced}
use Rattle.index_laws.proofs.Growth.{turns-run}
use Rattle.index_laws.proofs.Lookup.{reads-most}
use Rattle.index_laws.proofs.Histories.{After, runs, left-is, same-lookup, start-kept}

-- ---- the places read

-- at most 16 places are read, whatever the cells hold
pub reads-16 : (x : Indexed) (name : Interned) → (looked_up x name).reads ≤ 16
reads-16 x name = reads-most x.link.table.link (rows_at x.link.table) x.index name

-- ---- from a new table on, over an index that has a place for each symbol row

module _ (key : ℕ) (gabi : Bool) (bytes names symbols sections inputs lists places : List ℕ)
    (new : number_in (new_of key gabi bytes names symbols sections).said ≡ 0)
    (each : length symbols / 8 ≤ length places) where
  -- the old layout, and the new table, whose index has no name
  abbrev pub start : Linked
  start = linked (opened (new_of key gabi bytes names symbols sections)) inputs lists

  abbrev pub begun : Indexed
  begun = indexed start (index_of places 0)

  module _ (ks : List Call) where
    abbrev pub old : Linked
    old = run_calls ks start

    abbrev pub run : Indexed
    run = run_indexed ks begun

    ran : After run old
    ran = runs ks start (index_of places 0) [] (start-kept key gabi bytes names symbols sections inputs lists places new each)

    -- every lent cell and every count are as the old layout has them
    pub same-link : run.link ≡ old
    same-link = ap (λ (x : Indexed). x.link) ran.same

    -- any further call answers the same, with the same place, and leaves the same
    pub same-answer : (k : Call) → indexed_left k run ≡ call_left k old
    same-answer k = ap (indexed_left k) ran.same ∙ left-is k old run.index ran.met ran.kept

    -- each global name once, removed ones too: each row that isn't local has a place, no other row has one, and none has two
    pub has-place : (i : ℕ) → i < old.table.link.symbols → scope_at old.table.symbols i ≢ 0 → Placed run.index i
    has-place = ran.kept.listed.all

    pub only-global : (k : ℕ) → k < run.index.count → (get_or (used run.index) k 0 < old.table.link.symbols)
        × (scope_at old.table.symbols (get_or (used run.index) k 0) ≢ 0)
    only-global k h = (ran.kept.listed.counted k h, ran.kept.listed.global k h)

    -- in byte order
    pub in-order : InOrder (rows_at old.table) (used run.index)
    in-order = ran.kept.listed.sorted

    used-long : length (used run.index) ≡ run.index.count
    used-long = length-take-le run.index.count run.index.places ran.kept.listed.room

    pub once : (j k : ℕ) → j < run.index.count → k < run.index.count → get_or (used run.index) j 0 ≡ get_or (used run.index) k 0 → j ≡ k
    once j k a b e =
        by-test (eqb j k) (λ t. eqb-true _ _ t)
        (λ t.
        by-test (ltb j k) (λ u. absurd (apart j k (ltb-true j k u) b e))
        (λ u. absurd (apart k j (less (eqb-false _ _ t) (ltb-false j k u)) a (sym e))))
      where
        less : {j k : ℕ} → j ≢ k → k ≤ j → k < j
        less {j} {k} n g = by-test (ltb k j) (λ t. ltb-true k j t) (λ t. absurd (n (omega (arith, ltb-false k j t))))

        apart : (j k : ℕ) → j < k → k < run.index.count → get_or (used run.index) j 0 ≡ get_or (used run.index) k 0 → ⊥
        apart j k l h e =
            let p = in-order j k l (omega (arith, h, used-long)) in
            let q : order (name_in (rows_at old.table) (used run.index) k) (name_in (rows_at old.table) (used run.index) k) ≡ Less =
            ap (λ (i : ℕ). order (name_of_row (rows_at old.table) i) (name_in (rows_at old.table) (used run.index) k)) (sym e) ∙ p in
            let z : Less ≡ Equal = sym q ∙ itself (name_in (rows_at old.table) (used run.index) k) in
            absurd (cc)

    -- a lent list has fewer than 2^64 cells
    module _ (lent : length lists ≤ not_lent) where
      lasting : Lasting old (signatures ks start)
      lasting =
          lasting-on ks start []
          (record {
            marked = new-marked key gabi bytes names symbols sections new;
            counted = Lookups.counted start.table.link start.table.names (WithinLaws.new-within key gabi bytes names symbols sections new);
            below = inv-below start.table [] (new-inv key gabi bytes names symbols sections new);
            lent = lent;
            inside = new-lists key gabi bytes names symbols sections lists;
          })

      -- a name that is found by halving has the answer that its own row gave, a refused one too
      pub same-lookups : (name : Interned) → (looked_up run name).answer ≡ call_left (get_global name) old
      same-lookups name =
          ap (λ (x : Indexed). (looked_up x name).answer) ran.same ∙ same-lookup old run.index ran.met ran.kept (lasting-within old _ lasting) name.0

  -- where lists grow between the calls, and the index with the symbols' rows: a further cell of the index may be lent where a further row is
  module _ (ts : List IndexedTurn) (placed : EachPlaced ts start (length places)) where
    abbrev pub grown_old : Linked
    grown_old = run_turns (turns_of ts) start

    abbrev pub grown_run : Indexed
    grown_run = run_indexed_turns ts begun

    grown_ran : After grown_run grown_old
    grown_ran =
        turns-run ts start (index_of places 0) [] placed (start-kept key gabi bytes names symbols sections inputs lists places new each)

    pub grown-link : grown_run.link ≡ grown_old
    grown-link = ap (λ (x : Indexed). x.link) grown_ran.same

    pub grown-answer : (k : Call) → indexed_left k grown_run ≡ call_left k grown_old
    grown-answer k = ap (indexed_left k) grown_ran.same ∙ left-is k grown_old grown_run.index grown_ran.met grown_ran.kept

    pub grown-lookups : Within grown_old.table.link grown_old.table.names → (name : Interned)
        → (looked_up grown_run name).answer ≡ call_left (get_global name) grown_old
    grown-lookups w name =
        ap (λ (x : Indexed). (looked_up x name).answer) grown_ran.same ∙ same-lookup grown_old grown_run.index grown_ran.met grown_ran.kept w name.0

    pub grown-in-order : InOrder (rows_at grown_old.table) (used grown_run.index)
    grown-in-order = grown_ran.kept.listed.sorted

-- ---- a shorter index bounds the rows: lent a shorter index, a link uses as many rows as it has places, and so the terms above are of a link lent those alone

pub bounded-lent : (len places : ℕ) → bounded len places ≤ len
bounded-lent len places = by-test (leb (len / 8) places) (λ a. rw a (omega arith)) (λ a. rw a (omega (arith, leb-false (len / 8) places a)))

pub bounded-each : (symbols places : List ℕ) → length (take (bounded (length symbols) (length places)) symbols) / 8 ≤ length places
bounded-each symbols places =
    by-test (leb (length symbols / 8) (length places))
    (λ a. rw a (omega (arith, length-take (length symbols) symbols, leb-true (length symbols / 8) (length places) a)))
    (λ a. rw a (omega (arith, length-take (length places * 8) symbols)))
