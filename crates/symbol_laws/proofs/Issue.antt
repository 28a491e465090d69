-- A name issued: it has no row, and every other name keeps its own.
-- Assumes nothing.
use Rattle.std.specs.Prelude.{ℕ, ◌+◌, ◌*◌, ◌≤◌, ◌<◌, ◌≡◌, refl, true, List, ◌≢◌, eqb, ltb, leb, get_or, length}
use Rattle.std.proofs.Common.{arith, ltb-true, ltb-false, leb-false, eqb-true}
use Rattle.std.proofs.lemmas.Bool.{false≢true, eqb-false}
use Rattle.cells.specs.Proof.Split.{by-test}
use Rattle.link.specs.declared.Interned.{Interned}
use Rattle.link.specs.Bounds.{name_rows}
use Rattle.link.specs.declared.Link.{Link}
use Rattle.interner.specs.Hash.{head_of}
use Rattle.interner.specs.Names.{Store, room_of, linked, added, keep_of}
use Rattle.interner_laws.proofs.Written.{head-behind, linked_long, row_old, row_new}
use Rattle.symbol_resolution.specs.Holder.{global_at}
use Rattle.symbol_laws.specs.History.{State, store, with_store, Entry, only}
use Rattle.symbol_laws.specs.Held.{Inv}
use Rattle.symbol_laws.proofs.Held.{held_kept}

-- a row that a new table was lent, which still is, and is free
pub record FreeRow (l : Link) (names : List ℕ) : Type 0 where
  pub lent : l.chains ≤ name_rows (length names)
  pub free : l.names < l.chains

module _ (l : Link) (names : List ℕ) (start len : ℕ) (x : List ℕ) (row : FreeRow l names) where
  abbrev head : ℕ
  head = head_of l names x

  behind : l.chains * 8 ≤ head
  behind = head-behind l (length names) x row.lent

  pub linked-new : global_at (linked names l.names start len head) l.names ≡ 0
  linked-new = row_new names l.names start len head l.chains row.lent row.free behind 3 (omega arith)

  pub linked-old : (m f : ℕ) → m < l.chains → f < 8 → m ≢ l.names → get_or (linked names l.names start len head) (m * 8 + f) 0 ≡ get_or names (m * 8 + f) 0
  linked-old m f h k u = row_old names l.names start len head l.chains row.lent row.free behind m f h u k

pub room-free : (s : Store) (n : ℕ) → room_of s n ≡ true → FreeRow s.link s.names
unfolding room_of
room-free s n e =
    by-test (ltb (name_rows (length s.names)) s.link.chains) (λ h. absurd (false≢true (rw h at e)))
    (λ h.
    by-test (leb s.link.chains s.link.names) (λ k. absurd (false≢true (rw (h, k) at e)))
    (λ k. record { lent = ltb-false _ _ h; free = leb-false _ _ k }))

module _ (s : State) (past : List Entry) (inv : Inv s past) (x : List ℕ) where
  on-added : FreeRow s.link s.names → Inv (with_store s (added (store s) x)) past
  on-added row =
      let t : State = with_store s (added (store s) x) in
      let count : ℕ = s.link.names in
      let long : length t.names ≡ length s.names = linked_long s.names count s.link.bytes (length x) (head_of s.link s.names x) in
      record {
        some = inv.some;
        room = inv.room;
        few = inv.few;
        names-room = omega (arith, row.lent, row.free);
        held_by = λ m h.
            by-test (eqb m count)
            (λ e.
            let q : m ≡ count = eqb-true _ _ e in
            rw (q, inv.unissued count (omega arith)) (linked-new s.link s.names s.link.bytes (length x) x row))
            (λ e.
            let u : m ≢ count = eqb-false _ _ e in
            let k : m < count = below m count u (omega arith) in
            held_kept s t m (only m past) (linked-old s.link s.names s.link.bytes (length x) x row m 3 (omega (arith, row.free)) (omega arith) u)
            (omega arith) refl (λ i r p. (refl, refl)) (inv.held_by m k));
        unissued = λ m h. inv.unissued m (omega arith);
        once = inv.once;
      }
    where
      below : (m c : ℕ) → m ≢ c → m ≤ c → m < c
      below m c u h = by-test (ltb m c) (λ t. ltb-true _ _ t) (λ t. absurd (u (omega (arith, ltb-false m c t))))

  pub issue-step : (id : Interned) → Inv (with_store s (keep_of (store s) id x)) past
  unfolding keep_of
  issue-step id =
      by-test (ltb id.0 s.link.names) (λ a. rw a inv)
      (λ a. by-test (room_of (store s) (length x)) (λ b. rw (a, b) (on-added (room-free (store s) (length x) b))) (λ b. rw (a, b) inv))
