-- Histories in which lists grow between calls, as the Rust crate lends them: before a call cells are put behind any of the link's lists. What holds of a link holds of it with more cells, so the demands do.
-- Assumes nothing.
use Rattle.std.specs.Prelude.{ℕ, ◌+◌, ◌-◌, ◌*◌, ◌≤◌, ◌<◌, ◌≡◌, refl, List, [], ◌∷◌, ◌++◌, eqb, ltb, get_or, length, drop}
use Rattle.std.proofs.Common.{arith, sym, ap, subst, ◌∙◌, append-nil, append_assoc, length-append, length-drop, ltb-true, ltb-false}
use Rattle.std.proofs.Math.ListN.{get_or-append}
use Rattle.std.proofs.lemmas.List.{take-append-le, drop-append-le}
use Rattle.cells.specs.Proof.Split.{by-test}
use Rattle.byte_slices.specs.Bytes.{part}
use Rattle.link.specs.Bounds.{not_lent, lesser, name_rows}
use Rattle.gabi.specs.StringTable.{among}
use Rattle.interner_laws.specs.Good.{Chained, count, cell, used, name, next, head, chain, find}
use Rattle.interner_laws.proofs.Written.{head-within, head-cell-same}
use Rattle.interner_laws.proofs.Find.{found, find-known}
use Rattle.symbol.specs.Row.{field}
use Rattle.symbol.specs.Row.{row_at}
use Rattle.symbol_laws.proofs.View.{lesser-first, lesser-second}
use Rattle.symbol_laws.specs.History.{State, Entry, store, only}
use Rattle.symbol_laws.specs.Held.{Held, Inv}
use Rattle.merge_laws.specs.Marked.{Marked}
use Rattle.merge_laws.specs.Calls.{Linked}
use Rattle.link_laws.specs.Calls.{call_notes}
use Rattle.link_laws.specs.Kept.{signatures, Reached}
use Rattle.link_laws.proofs.Kept.{reached-on}
use Rattle.link_laws.specs.Growth.{Growth, grown, grow, Turn, turn_next, turn_notes, run_turns, log_turns, Quiet}

-- ---- the histories

-- ---- names

part-grown : (x y : List ℕ) (f c : ℕ) → f + c ≤ length x → part (x ++ y) f c ≡ part x f c
part-grown x y f c h =
    rw (drop-append-le f x y (omega arith)) (take-append-le c (drop f x) y (omega (arith, length-drop f x, h)))

lesser-most : (a b n : ℕ) → n ≤ a → n ≤ b → n ≤ lesser a b
unfolding lesser
lesser-most a b n h k = by-test (ltb a b) (λ t. rw t h) (λ t. rw t k)

module _ (s : State) (g : Growth) (c : Chained (store s)) where
  abbrev t : State
  t = grown s g

  lent : used (store s) ≤ length s.bytes
  lent =
      let a : lesser 1048576 (length s.bytes) ≤ length s.bytes = lesser-second 1048576 _ in
      omega (arith, c.bytes-in)

  -- the cells of an issued name's row
  cell_same : (i f : ℕ) → i < count (store s) → f < 8 → cell (store t) i f ≡ cell (store s) i f
  cell_same i f h u = get_or-append s.names g.names 0 (i * 8 + f) (omega (arith, h, u, c.rows_in, c.rows-lent))

  name-same : (i : ℕ) → i < count (store s) → name (store t) i ≡ name (store s) i
  name-same i h =
      ap (λ (v : ℕ). part (s.bytes ++ g.bytes) v (cell (store t) i 1)) (cell_same i 0 h (omega arith))
      ∙ ap (part (s.bytes ++ g.bytes) (cell (store s) i 0)) (cell_same i 1 h (omega arith))
      ∙ part-grown s.bytes g.bytes (cell (store s) i 0) (cell (store s) i 1) (omega (arith, c.names_in i h, lent))

  lent-more : s.link.chains ≤ name_rows (length (s.names ++ g.names))
  lent-more = omega (arith, c.rows-lent, length-append s.names g.names)

  -- a chain begins where it began
  chain_same : (x : List ℕ) → chain (store t) x ≡ chain (store s) x
  chain_same x = head-cell-same s.link s.link (length (s.names ++ g.names)) (length s.names) x refl refl lent-more c.rows-lent

  head-same : (x : List ℕ) → head (store t) x ≡ head (store s) x
  head-same x =
      ap (λ (q : ℕ). get_or (s.names ++ g.names) q 0) (chain_same x)
      ∙ get_or-append s.names g.names 0 (chain (store s) x) (head-within s.link (length s.names) x c.rows-lent c.rows-some)

  next-same : (i : ℕ) → i < count (store s) → next (store t) i ≡ next (store s) i
  next-same i h = cell_same i 2 h (omega arith)

  of-name : (i : ℕ) → i < count (store s) → chain (store t) (name (store t) i) ≡ chain (store s) (name (store s) i)
  of-name i h = chain_same (name (store t) i) ∙ ap (chain (store s)) (name-same i h)

  below : (a : ℕ) → a ≤ count (store s) → (a ≡ 0 → ⊥) → a - 1 < count (store s)
  below a h u = by-test (ltb (a - 1) (count (store s))) (λ q. ltb-true _ _ q) (λ q. absurd (u (omega (arith, h, ltb-false (a - 1) (count (store s)) q))))

  chained-grown : Chained (store t)
  chained-grown =
      record {
        rows-some = c.rows-some;
        rows-lent = lent-more;
        rows_in = c.rows_in;
        bytes-in =
            let a : lesser 1048576 (length s.bytes) ≤ 1048576 = lesser-first 1048576 _ in
            lesser-most 1048576 (length (s.bytes ++ g.bytes)) (used (store s)) (omega (arith, c.bytes-in)) (omega (arith, lent, length-append s.bytes g.bytes));
        names_in = λ i h. omega (arith, c.names_in i h, cell_same i 0 h (omega arith), cell_same i 1 h (omega arith));
        distinct = λ i j h k e. c.distinct i j h k (sym (name-same i h) ∙ e ∙ name-same j k);
        head-low = λ x. omega (arith, head-same x, c.head-low x);
        head-own = λ x u.
            let v : head (store s) x ≡ 0 → ⊥ = λ z. u (head-same x ∙ z) in
            ap (λ (h : ℕ). chain (store t) (name (store t) (h - 1))) (head-same x)
            ∙ of-name (head (store s) x - 1) (below _ (c.head-low x) v) ∙ c.head-own x v ∙ sym (chain_same x);
        head-gap = λ x j h k e. c.head-gap x j (omega (arith, h, head-same x)) k (sym (of-name j k) ∙ e ∙ chain_same x);
        next_low = λ i h. omega (arith, next-same i h, c.next_low i h);
        next-own = λ i h u.
            let v : next (store s) i ≡ 0 → ⊥ = λ z. u (next-same i h ∙ z) in
            ap (λ (n : ℕ). chain (store t) (name (store t) (n - 1))) (next-same i h)
            ∙ of-name (next (store s) i - 1) (below _ (omega (arith, h, c.next_low i h)) v) ∙ c.next-own i h v ∙ sym (of-name i h);
        next-gap = λ i j h p q e.
            c.next-gap i j h (omega (arith, p, next-same i h)) q (sym (of-name j (omega (arith, h, q))) ∙ e ∙ of-name i h);
      }

  -- a name that is found stays so
  find-grown : (x : List ℕ) → find (store s) x < count (store s) → find (store t) x ≡ find (store s) x
  find-grown x h = find-known (store t) x chained-grown (find (store s) x) h (name-same (find (store s) x) h ∙ (found (store s) x c).hit h)

pub marked-grown : (s : State) (g : Growth) (met : List (List ℕ)) → Marked s met → Marked (grown s g) met
marked-grown s g met m =
    let c = m.good.chained in
    record {
      good = record { chained = chained-grown s g c; some = m.good.some; empty = name-same s g c 0 m.good.some ∙ m.good.empty };
      marks = λ n h.
          ap (λ (v : ℕ). eqb v 1) (cell_same s g c n 4 h (omega arith)) ∙ m.marks n h ∙ ap (λ (x : List ℕ). among x met) (sym (name-same s g c n h));
      known = λ x e. let h = m.known x e in rw (find-grown s g c x h) h;
    }

-- ---- symbols

field-grown : (x y : List ℕ) (i f k : ℕ) → i < k → k * 8 ≤ length x → f < 8 → field (x ++ y) i f ≡ field x i f
field-grown x y i f k h l u = get_or-append x y 0 (i * 8 + f) (omega (arith, h, l, u))

row-grown : (x y : List ℕ) (i k : ℕ) → i < k → k * 8 ≤ length x → row_at (x ++ y) i ≡ row_at x i
row-grown x y i k h l =
    rw (
      field-grown x y i 1 k h l (omega arith),
      field-grown x y i 2 k h l (omega arith),
      field-grown x y i 3 k h l (omega arith),
      field-grown x y i 4 k h l (omega arith),
      field-grown x y i 5 k h l (omega arith),
      field-grown x y i 6 k h l (omega arith),
      field-grown x y i 7 k h l (omega arith),
    )

module _ (s : State) (g : Growth) (past : List Entry) (inv : Inv s past) (c : Chained (store s)) where
  held_grown : (n : ℕ) → n < s.link.names → (l : List Entry) → Held s n l → Held (grown s g) n l
  held_grown n b [] h = cell_same s g c n 3 b (omega arith) ∙ h
  held_grown n b (x ∷ xs) h =
      record {
        found = cell_same s g c n 3 b (omega arith) ∙ h.found;
        there = field-grown s.symbols g.symbols x.id 0 s.link.symbols h.below inv.room (omega arith) ∙ h.there;
        content = row-grown s.symbols g.symbols x.id s.link.symbols h.below inv.room ∙ h.content;
        named = h.named;
        above = h.above;
        below = h.below;
      }

  inv-grown : Inv (grown s g) past
  inv-grown =
      record {
        some = inv.some;
        room = omega (arith, inv.room, length-append s.symbols g.symbols);
        few = inv.few;
        names-room = omega (arith, inv.names-room, length-append s.names g.names);
        held_by = λ n h. held_grown n h (only n past) (inv.held_by n h);
        unissued = inv.unissued;
        once = inv.once;
      }

-- ---- the link, and histories

pub reached-grown : (s : Linked) (g : Growth) (past : List Entry) (met : List (List ℕ)) → length (s.lists ++ g.lists) ≤ not_lent → Reached s past met
    → Reached (grow g s) past met
reached-grown s g past met h r =
    record {
      held = inv-grown s.table g past r.held r.marked.good.chained;
      marked = marked-grown s.table g met r.marked;
      counted =
          record {
            bytes-in = r.counted.bytes-in;
            bounded = r.counted.bounded;
            names_in = r.counted.names_in;
            chains-lent = lent-more s.table g r.marked.good.chained;
          };
      lent = h;
      inside = omega (arith, r.inside, length-append s.lists g.lists);
    }

-- what the groups of the calls were
pub record Some (s : Linked) (past : List Entry) : Type 0 where
  pub met : List (List ℕ)
  pub reached : Reached s past met

pub turns-reached : (ts : List Turn) (s : Linked) (past : List Entry) → Quiet ts s → Some s past → Some (run_turns ts s) (past ++ log_turns ts s)
turns-reached [] s past q r = subst (Some s) (sym (append-nil past)) r
turns-reached (t ∷ ts) s past q r =
    let on = grow t.growth s in
    let a : Reached on past r.met = reached-grown s t.growth past r.met q.1 r.reached in
    let m : List (List ℕ) = r.met ++ signatures (t.call ∷ []) on in
    let b = reached-on (t.call ∷ []) on past r.met (q.0, tt) a in
    let e : past ++ (call_notes t.call on ++ []) ≡ past ++ call_notes t.call on = ap (◌++◌ past) (append-nil (call_notes t.call on)) in
    subst (Some (run_turns ts (turn_next t s))) (append_assoc past (turn_notes t s) (log_turns ts (turn_next t s)))
    (turns-reached ts (turn_next t s) (past ++ turn_notes t s) q.2 (record { met = m; reached = subst (λ (l : List Entry). Reached (turn_next t s) l m) e b }))
