-- Laws of the definitions of Below.antt.
-- Assumes nothing.
use Rattle.std.specs.Prelude.{ℕ, ◌≤◌, ◌<◌, ◌≡◌, List, [], ◌∷◌, ◌≢◌, eqb, ltb, length}
use Rattle.std.proofs.Common.{arith, ◌∙◌, eqb-true, ltb-true, ltb-false}
use Rattle.std.proofs.lemmas.Bool.{eqb-false}
use Rattle.cells.specs.Proof.Split.{by-test}
use Rattle.interner.specs.Names.{room_of, added, keep_of}
use Rattle.link.specs.declared.Interned.{Interned}
use Rattle.symbol_resolution.specs.Holder.{global_at}
use Rattle.symbol_laws.specs.History.{State, store, with_store, Entry, only, Part, issue, put, id_of, part_next}
use Rattle.symbol_laws.specs.Held.{Held, Inv}
use Rattle.symbol_laws.proofs.Issue.{FreeRow, linked-new, linked-old, room-free}
use Rattle.symbol_laws.specs.Below.{Below}
use Rattle.symbol_laws.proofs.Below.{m, put-below}

pub inv-below : (s : State) (past : List Entry) → Inv s past → Below s
inv-below s past inv = record { few = inv.few; held = λ n h z. by-list n z (only n past) (inv.held_by n h) }
  where
    by-list : (n : ℕ) → global_at s.names n ≢ 0 → (l : List Entry) → Held s n l → global_at s.names n < s.link.symbols
    by-list n z [] h = absurd (z h)
    by-list n z (x ∷ xs) h = omega (arith, h.found, h.below)

-- ---- a name issued

module _ (s : State) (b : Below s) (x : List ℕ) where
  added-below : FreeRow s.link s.names → Below (with_store s (added (store s) x))
  added-below row =
      record {
        few = b.few;
        held = λ n h z.
            by-test (eqb n s.link.names)
            (λ e.
            let q : n ≡ s.link.names = eqb-true _ _ e in
            absurd (z (rw q (linked-new s.link s.names s.link.bytes (length x) x row))))
            (λ e.
            let u : n ≢ s.link.names = eqb-false _ _ e in
            let k : n < s.link.names = less n s.link.names u (omega arith) in
            let q : global_at (added (store s) x).names n ≡ global_at s.names n =
            linked-old s.link s.names s.link.bytes (length x) x row n 3 (omega (arith, row.free)) (omega arith) u in
            rw q (b.held n k (λ y. z (q ∙ y))));
      }
    where
      less : (m c : ℕ) → m ≢ c → m ≤ c → m < c
      less m c u h = by-test (ltb m c) (λ t. ltb-true _ _ t) (λ t. absurd (u (omega (arith, ltb-false m c t))))

  issue-below : (id : Interned) → Below (with_store s (keep_of (store s) id x))
  unfolding keep_of
  issue-below id =
      by-test (ltb id.0 s.link.names) (λ a. rw a b)
      (λ a. by-test (room_of (store s) (length x)) (λ c. rw (a, c) (added-below (room-free (store s) (length x) c))) (λ c. rw (a, c) b))

pub part-below : (p : Part) (s : State) → Below s → Below (part_next p s)
part-below (issue x) s b = issue-below s b x (id_of s x)
part-below (put r from) s b = put-below s b r
