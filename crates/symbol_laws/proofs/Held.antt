-- Who holds each name: what holds of every link in which nothing was removed.
-- Assumes nothing.
use Rattle.std.specs.Prelude.{ℕ, ◌≤◌, ◌≡◌, refl, Bool, true, false, List, [], ◌∷◌, ◌++◌, ◌≢◌, eqb}
use Rattle.std.proofs.Common.{arith, sym, ap, ◌∙◌}
use Rattle.cells.specs.Proof.Split.{by-test}
use Rattle.symbol.specs.declared.Row.{Row}
use Rattle.symbol.specs.Row.{state_at}
use Rattle.symbol_resolution.specs.Holder.{global_at}
use Rattle.symbol_laws.specs.Standing.{standing, row_after}
use Rattle.symbol_laws.proofs.Standing as StandingLaws
use Rattle.symbol.specs.Row.{row_at}
use Rattle.symbol_laws.specs.History.{State, Entry, only, rows}
use Rattle.symbol_laws.specs.Held.{Holds, Held}

-- ---- who holds a name

-- ---- one more entry

pub only_same : (n : ℕ) (l : List Entry) (x : Entry) → eqb x.name n ≡ true → only n (l ++ (x ∷ [])) ≡ only n l ++ (x ∷ [])
only_same n [] x h = rw h
only_same n (z ∷ zs) x h = by-test (eqb z.name n) (λ t. rw t (ap (◌∷◌ z) (only_same n zs x h))) (λ t. rw t (only_same n zs x h))

pub only-other : (n : ℕ) (l : List Entry) (x : Entry) → eqb x.name n ≡ false → only n (l ++ (x ∷ [])) ≡ only n l
only-other n [] x h = rw h
only-other n (z ∷ zs) x h = by-test (eqb z.name n) (λ t. rw t (ap (◌∷◌ z) (only-other n zs x h))) (λ t. rw t (only-other n zs x h))

pub rows_snoc : (l : List Entry) (x : Entry) → rows (l ++ (x ∷ [])) ≡ rows l ++ (x.row ∷ [])
rows_snoc [] x = refl
rows_snoc (z ∷ zs) x = ap (◌∷◌ z.row) (rows_snoc zs x)

pub after-snoc : (gabi : Bool) (c : Row) (ys : List Entry) (x : Entry) → row_after gabi c (rows (ys ++ (x ∷ []))) ≡ standing gabi (row_after gabi c (rows ys)) x.row
after-snoc gabi c ys x = ap (row_after gabi c) (rows_snoc ys x) ∙ StandingLaws.after-snoc gabi c (rows ys) x.row

-- ---- a name that an add doesn't touch

pub held_kept : (s t : State) (n : ℕ) (l : List Entry) → global_at t.names n ≡ global_at s.names n → s.link.symbols ≤ t.link.symbols
    → t.link.gabi ≡ s.link.gabi → ((id : ℕ) (r : Row) → Holds s n id r → (state_at t.symbols id ≡ state_at s.symbols id) × (row_at t.symbols id ≡ row_at s.symbols id))
    → Held s n l → Held t n l
held_kept s t n [] g k p f h = g ∙ h
held_kept s t n (x ∷ xs) g k p f h =
    rw p
    (record {
      found = g ∙ h.found;
      there = (f _ _ h).0 ∙ h.there;
      content = (f _ _ h).1 ∙ h.content;
      named = h.named;
      above = h.above;
      below = omega (arith, h.below);
    })

-- two names have two rows
pub apart : (s : State) (n m i j : ℕ) (c d : Row) → n ≢ m → Holds s n i c → Holds s m j d → i ≢ j
apart s n m i j c d u p q e =
    u (sym p.named ∙ ap (λ (r : Row). r.name.0) (sym p.content ∙ ap (row_at s.symbols) e ∙ q.content) ∙ q.named)

pub none-held : (s : State) (n : ℕ) (l : List Entry) → Held s n l → global_at s.names n ≡ 0 → l ≡ []
none-held s n [] h z = refl
none-held s n (y ∷ ys) h z = absurd (omega (arith, h.above, h.found, z))
