-- An index whose places grow with the link's lists is still that of the link.
-- Assumes nothing.
use Rattle.std.specs.Prelude.{ℕ, ◌+◌, ◌*◌, ◌/◌, ◌≤◌, ◌<◌, ◌≡◌, refl, ◌≢◌, List, [], ◌∷◌, ◌++◌, get_or, drop, length}
use Rattle.std.proofs.Common.{arith, sym, ap, subst, ◌∙◌, length-append, length-drop, length-take-le}
use Rattle.std.proofs.Math.ListN.{get_or-append}
use Rattle.std.proofs.lemmas.List.{take-append-le, drop-append-le}
use Rattle.byte_slices.specs.Bytes.{part}
use Rattle.link.specs.Bounds.{lesser}
use Rattle.interner_laws.specs.Good.{cell, name}
use Rattle.symbol.specs.Layout.{scope_in}
use Rattle.symbol.specs.Row.{field, scope_at}
use Rattle.symbol_resolution.specs.Holder.{global_at}
use Rattle.symbol_laws.proofs.View.{lesser-second}
use Rattle.symbol_laws.specs.History.{State, store}
use Rattle.merge_laws.specs.Calls.{Linked}
use Rattle.link_laws.specs.Growth.{Growth, grown, grow, turn_next, run_turns}
use Rattle.link_laws.proofs.Growth.{marked-grown}
use Rattle.name_index.specs.Named.{name_of_row}
use Rattle.name_index.specs.Index.{Index, used}
use Rattle.name_index_laws.specs.InOrder.{name_in, InOrder}
use Rattle.name_index_laws.proofs.Order.{order}
use Rattle.indexed_table.specs.Indexed.{caught_up}
use Rattle.index_laws.specs.Bearing.{name_id, Bears}
use Rattle.index_laws.specs.Listed.{rows_at, Listed}
use Rattle.index_laws.specs.IndexedCalls.{Indexed, indexed}
use Rattle.index_laws.specs.IndexedTurns.{IndexedTurn, grow_index, run_indexed_turns, turns_of, EachPlaced}
use Rattle.index_laws.proofs.Kept.{Kept, kept-next, places-next}
use Rattle.index_laws.proofs.Histories.{After, next-is}

part-grown : (x y : List ℕ) (f c : ℕ) → f + c ≤ length x → part (x ++ y) f c ≡ part x f c
part-grown x y f c h =
    rw (drop-append-le f x y (omega arith)) (take-append-le c (drop f x) y (omega (arith, length-drop f x, h)))

module _ (s : Linked) (g : Growth) (more : List ℕ) (x : Index) (met : List (List ℕ)) (k : Kept s x met) where
  abbrev old : State
  old = s.table

  abbrev new : State
  new = grown s.table g

  -- of a counted row, and of an issued name, the cells
  cell-row : (i f : ℕ) → i < old.link.symbols → f < 8 → field new.symbols i f ≡ field old.symbols i f
  cell-row i f h u = let r = k.ready.room in get_or-append old.symbols g.symbols 0 (i * 8 + f) (omega arith)

  cell_name : (n f : ℕ) → n < old.link.names → f < 8 → cell (store new) n f ≡ cell (store old) n f
  cell_name n f h u = let c = k.marked.good.chained in get_or-append old.names g.names 0 (n * 8 + f) (omega (arith, h, u, c.rows_in, c.rows-lent))

  name-same : (n : ℕ) → n < old.link.names → name (store new) n ≡ name (store old) n
  name-same n h =
      let c = k.marked.good.chained in
      let l : lesser 1048576 (length old.bytes) ≤ length old.bytes = lesser-second 1048576 _ in
      ap (λ (v : ℕ). part (old.bytes ++ g.bytes) v (cell (store new) n 1)) (cell_name n 0 h (omega arith))
      ∙ ap (part (old.bytes ++ g.bytes) (cell (store old) n 0)) (cell_name n 1 h (omega arith))
      ∙ part-grown old.bytes g.bytes (cell (store old) n 0) (cell (store old) n 1) (omega (arith, c.names_in n h, c.bytes-in, l))

  scope-same : (i : ℕ) → i < old.link.symbols → scope_at new.symbols i ≡ scope_at old.symbols i
  scope-same i h = ap scope_in (cell-row i 4 h (omega arith))

  global-same : (n : ℕ) → n < old.link.names → global_at new.names n ≡ global_at old.names n
  global-same n h = cell_name n 3 h (omega arith)

  held-low : (n : ℕ) → n < old.link.names → global_at old.names n ≢ 0 → global_at old.names n < old.link.symbols
  held-low = k.ready.below.held

  bears-grown : Bears new
  bears-grown =
      record {
        some = k.bears.some;
        named = λ n h u.
            let e = global-same n h in
            let v : global_at old.names n ≢ 0 = λ z. u (e ∙ z) in
            ap (name_id new) e ∙ cell-row (global_at old.names n) 1 (held-low n h v) (omega arith) ∙ k.bears.named n h v;
        borne = λ i h u.
            let o = k.bears.borne i h (λ z. u (scope-same i h ∙ z)) in
            let e : name_id new i ≡ name_id old i = cell-row i 1 h (omega arith) in
            record {
              some = o.some;
              issued = omega (arith, e, o.issued);
              found = ap (global_at new.names) e ∙ global-same (name_id old i) o.issued ∙ o.found;
            };
      }

  row-name : (i : ℕ) → i < old.link.symbols → scope_at old.symbols i ≢ 0 → name_of_row (rows_at new) i ≡ name_of_row (rows_at old) i
  row-name i h u =
      ap (λ (n : ℕ). name (store new) n) (cell-row i 1 h (omega arith)) ∙ name-same (name_id old i) (k.bears.borne i h u).issued

  abbrev y : Index
  y = grow_index x more

  used-same : used y ≡ used x
  used-same = take-append-le x.count x.places more k.listed.room

  listed-grown : Listed new y
  listed-grown =
      let l = k.listed in
      let at : (j : ℕ) → get_or (used y) j 0 ≡ get_or (used x) j 0 = λ j. ap (λ (u : List ℕ). get_or u j 0) used-same in
      record {
        room = let r = l.room in omega (arith, length-append x.places more);
        few = l.few;
        counted = λ j h. let c = l.counted j h in omega (arith, at j, c);
        global = λ j h.
            subst (λ (i : ℕ). scope_at new.symbols i ≢ 0) (sym (at j)) (λ z. l.global j h (sym (scope-same (get_or (used x) j 0) (l.counted j h)) ∙ z));
        sorted =
            subst (InOrder (rows_at new)) (sym used-same)
            (λ i j a h.
            let low : j < x.count = omega (arith, h, length-take-le x.count x.places l.room) in
            let p : name_in (rows_at new) (used x) i ≡ name_in (rows_at old) (used x) i =
            row-name (get_or (used x) i 0) (l.counted i (omega arith)) (l.global i (omega arith)) in
            let q : name_in (rows_at new) (used x) j ≡ name_in (rows_at old) (used x) j = row-name (get_or (used x) j 0) (l.counted j low) (l.global j low) in
            ap (λ (n : List ℕ). order n (name_in (rows_at new) (used x) j)) p ∙ ap (λ (n : List ℕ). order (name_in (rows_at old) (used x) i) n) q
            ∙ l.sorted i j a h);
        all = λ i h u.
            let p = l.all i h (λ z. u (scope-same i h ∙ z)) in
            record { place = p.place; low = p.low; is = at p.place ∙ p.is };
      }

  pub kept-grown : length new.symbols / 8 ≤ length more + length x.places → Kept (grow g s) y met
  kept-grown each =
      record {
        marked = marked-grown s.table g met k.marked;
        ready =
            record {
              below =
                  record {
                    few = k.ready.below.few;
                    held = λ n h u. let e = global-same n h in let v = held-low n h (λ z. u (e ∙ z)) in omega (arith, e, v);
                  };
              room = let r = k.ready.room in omega (arith, length-append old.symbols g.symbols);
            };
        shown = λ n h u.
            let e = global-same n h in
            let v : global_at old.names n ≢ 0 = λ z. u (e ∙ z) in
            subst (λ (i : ℕ). scope_at new.symbols i ≢ 0) (sym e) (λ z. k.shown n h v (sym (scope-same (global_at old.names n) (held-low n h v)) ∙ z));
        bears = bears-grown;
        listed = listed-grown;
        places = omega (arith, each, length-append x.places more);
      }

-- ---- every such history

pub turns-run : (ts : List IndexedTurn) (s : Linked) (x : Index) (met : List (List ℕ)) → EachPlaced ts s (length x.places) → Kept s x met
    → After (run_indexed_turns ts (indexed s x)) (run_turns (turns_of ts) s)
turns-run [] s x met e g = record { same = refl; met = met; kept = g }
turns-run (t ∷ ts) s x met e g =
    let on : Linked = grow t.turn.growth s in
    let y : Index = grow_index x t.places in
    let k : Kept on y met = kept-grown s t.turn.growth t.places x met g e.0 in
    let n = next-is t.turn.call on y met k in
    let z : Index = caught_up (rows_at (turn_next t.turn s).table) y on.table.link.symbols (turn_next t.turn s).table.link.symbols in
    subst (λ (v : Indexed). After (run_indexed_turns ts v) (run_turns (turns_of ts) (turn_next t.turn s))) (sym n)
    (turns-run ts (turn_next t.turn s) z _
    (subst (EachPlaced ts (turn_next t.turn s)) (omega (arith, places-next t.turn.call on y met k, length-append x.places t.places)) e.1)
    (kept-next t.turn.call on y met k))
