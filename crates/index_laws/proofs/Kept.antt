-- Every call leaves the index with just the global names, in order.
-- Assumes nothing.
use Rattle.std.specs.Prelude.{ℕ, ◌+◌, ◌-◌, ◌/◌, ◌<◌, ◌≤◌, ◌≡◌, ◌≢◌, List, [], ◌∷◌, ◌++◌, get_or, length}
use Rattle.std.proofs.Common.{arith, sym, ap, subst, ◌∙◌, length-take-le}
use Rattle.interner.specs.Names.{name_at}
use Rattle.interner_laws.specs.Good.{Stays}
use Rattle.symbol.specs.declared.Row.{Row}
use Rattle.symbol.specs.Row.{scope_at}
use Rattle.symbol_resolution.specs.Holder.{global_at}
use Rattle.symbol_laws.specs.History.{State, store}
use Rattle.merge_laws.specs.Marked.{Marked}
use Rattle.merge_laws.specs.Calls.{Linked}
use Rattle.link_laws.specs.Calls.{Call, call_next}
use Rattle.link_laws.specs.Kept.{signatures}
use Rattle.link_laws.specs.LocalRows.{Shown, Stands, Stay, same, other}
use Rattle.link_laws.proofs.Kept.{calls-marked}
use Rattle.link_laws.proofs.Removal.{Ready}
use Rattle.link_laws.proofs.LookedUp.{Later, calls-later}
use Rattle.link_laws.proofs.LocalRows as LocalRows
use Rattle.link_laws.proofs.NamesStay as NamesStay
use Rattle.link_laws.proofs.CallPast.{call-past}
use Rattle.name_index.specs.Named.{name_of_row}
use Rattle.name_index.specs.Index.{Index, used}
use Rattle.name_index_laws.specs.InOrder.{name_in}
use Rattle.name_index_laws.proofs.Order.{order}
use Rattle.indexed_table.specs.Indexed.{caught_up}
use Rattle.index_laws.specs.Bearing.{name_id, Bears}
use Rattle.index_laws.proofs.CallsBear.{calls-bear}
use Rattle.index_laws.specs.Listed.{rows_at, Lists, Listed}
use Rattle.index_laws.proofs.Listed.{Goes, put-many}

-- ---- from one state to a later one

module _ (s t : State) (bs : Bears s) (bt : Bears t) (later : Later s t) (stay : Stay s t) (names : Stays (store s) (store t)) where
  -- a global row keeps its name
  same-id : (i : ℕ) → i < s.link.symbols → scope_at s.symbols i ≢ 0 → name_id t i ≡ name_id s i
  same-id i h u =
      let o = bs.borne i h u in
      let n : ℕ = name_id s i in
      let some : global_at s.names n ≢ 0 = λ z. o.some (sym o.found ∙ z) in
      let on : global_at t.names n ≡ i = later.named n o.issued some ∙ o.found in
      let low : n < t.link.names = let a = o.issued in let b = later.names_more in omega arith in
      ap (name_id t) (sym on) ∙ bt.named n low (λ z. o.some (sym on ∙ z))

  pub same-name : (i : ℕ) → i < s.link.symbols → scope_at s.symbols i ≢ 0 → name_of_row (rows_at t) i ≡ name_of_row (rows_at s) i
  same-name i h u =
      ap (λ (n : ℕ). name_at t.bytes t.names n) (same-id i h u) ∙ names.olds (name_id s i) (bs.borne i h u).issued

  scope-on : (i : ℕ) → Stands s t i → scope_at s.symbols i ≢ 0 → scope_at t.symbols i ≢ 0
  scope-on i (same e) u z = u (sym (ap (λ (r : Row). r.scope) e) ∙ z)
  scope-on i (other a b c) u z = b z

  scope-back : (i : ℕ) → Stands s t i → scope_at t.symbols i ≢ 0 → scope_at s.symbols i ≢ 0
  scope-back i (same e) u z = u (ap (λ (r : Row). r.scope) e ∙ z)
  scope-back i (other a b c) u z = a z

  pub lists-on : (x : Index) → Listed s x → Lists t x s.link.symbols
  lists-on x l =
      record {
        room = l.room;
        few = l.few;
        counted = l.counted;
        global = λ k h. scope-on (get_or (used x) k 0) (stay.stands (get_or (used x) k 0) (l.counted k h)) (l.global k h);
        sorted = λ i j g h.
            let low : j < x.count = omega (arith, h, length-take-le x.count x.places l.room) in
            let a : name_in (rows_at t) (used x) i ≡ name_in (rows_at s) (used x) i =
            same-name (get_or (used x) i 0) (l.counted i (omega arith)) (l.global i (omega arith)) in
            let b : name_in (rows_at t) (used x) j ≡ name_in (rows_at s) (used x) j = same-name (get_or (used x) j 0) (l.counted j low) (l.global j low) in
            ap (λ (y : List ℕ). order y (name_in (rows_at t) (used x) j)) a ∙ ap (λ (y : List ℕ). order (name_in (rows_at s) (used x) i) y) b
            ∙ l.sorted i j g h;
        all = λ i h u. l.all i h (scope-back i (stay.stands i h) u);
      }

-- ---- one call

-- a link, whatever was removed from it, and its index
pub record Kept (s : Linked) (x : Index) (met : List (List ℕ)) : Type 0 where
  pub marked : Marked s.table met
  pub ready : Ready s.table
  pub shown : Shown s.table
  pub bears : Bears s.table
  pub listed : Listed s.table x
  -- a place for each symbol row
  pub places : length s.table.symbols / 8 ≤ length x.places

module _ (k : Call) (s : Linked) (x : Index) (met : List (List ℕ)) (g : Kept s x met) where
  abbrev t : State
  t = (call_next k s).table

  later : Later s.table t
  later = calls-later (k ∷ []) s g.ready

  marked : Marked t (met ++ signatures (k ∷ []) s)
  marked = calls-marked (k ∷ []) s met g.marked

  bears : Bears t
  bears = calls-bear (k ∷ []) s met g.marked g.ready g.bears

  stay : Stay s.table t
  stay = LocalRows.calls-stay (k ∷ []) s g.ready g.shown

  abbrev y : Index
  y = caught_up (rows_at t) x s.table.link.symbols t.link.symbols

  long : length t.symbols ≡ length s.table.symbols
  long = (call-past s g.ready.below k).symbols-long

  caught : Goes t bears marked.good later.ready.below.few x y (s.table.link.symbols + (t.link.symbols - s.table.link.symbols))
  caught =
      let more = later.more in
      let rows = later.ready.room in
      let places = g.places in
      put-many t bears marked.good later.ready.below.few (t.link.symbols - s.table.link.symbols) x s.table.link.symbols (omega arith) (omega (arith, long))
      (lists-on s.table t g.bears bears later stay (NamesStay.calls-stay (k ∷ []) s met g.marked) x g.listed)

  pub places-next : length y.places ≡ length x.places
  places-next = caught.long

  pub kept-next : Kept (call_next k s) y (met ++ signatures (k ∷ []) s)
  kept-next =
      let more = later.more in
      let all : s.table.link.symbols + (t.link.symbols - s.table.link.symbols) ≡ t.link.symbols = omega arith in
      record {
        marked = marked;
        ready = later.ready;
        shown = stay.shown;
        bears = bears;
        listed = subst (Lists t y) all caught.lists;
        places = let p = g.places in omega (arith, caught.long, long);
      }
