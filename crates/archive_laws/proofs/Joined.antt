-- Index j of indexes one behind the other is the j-th of them: none reads what stands behind it.
-- Assumes nothing.
use Prim.Native.Nat.{ℕ, zero, suc, ◌+◌, ◌-◌}
use Rattle.std.proofs.Common.{arith, ap, ◌∙◌, take_at, length-append, append_assoc}
use Rattle.std.specs.Prelude.{◌≡◌, refl, get_or}
use mathlib.Core.List.{List, [], ◌∷◌, ◌++◌}
use Rattle.std.proofs.Math.ListN.{length}
use Rattle.std.proofs.Math.Seq.{drop_at}
use borrow.Author.Tests.{ne_eqb}
use Rattle.byte_slices.specs.Bytes.{part}
use Rattle.archive_index.specs.Archives.{start_at, index_at}
use Rattle.archive_laws.specs.Joined.{joined, ends_from, archives_joined}

-- where the j-th begins, the first at b
abbrev start : ℕ → List (List ℕ) → ℕ → ℕ
start b xs zero = b
start b xs (suc j) = get_or (ends_from b xs) j 0

on : (b : ℕ) (x : List ℕ) (xs : List (List ℕ)) (j : ℕ) → start b (x ∷ xs) (suc j) ≡ start (b + length x) xs j
on b x xs zero = refl
on b x xs (suc j) = refl

none : (j : ℕ) → ◌≡◌ {A = List ℕ} [] (get_or [] j [])
none zero = refl
none (suc j) = refl

no-end : (j : ℕ) → get_or {A = ℕ} [] j 0 ≡ 0
no-end zero = refl
no-end (suc j) = refl

piece : (xs : List (List ℕ)) (pre : List ℕ) (b : ℕ) → length pre ≡ b → (j : ℕ)
    → part (pre ++ joined xs) (start b xs j) (get_or (ends_from b xs) j 0 - start b xs j) ≡ get_or xs j []
piece [] pre b e j = let z : get_or {A = ℕ} [] j 0 - start b [] j ≡ 0 = omega (arith, no-end j) in rw z (none j)
piece (x ∷ xs) pre b e zero =
    let z : b + length x - b ≡ length x = omega arith in
    rw (z, drop_at pre (x ++ joined xs) b e) (take_at x (joined xs) (length x) refl)
piece (x ∷ xs) pre b e (suc j) =
    rw (on b x xs j, ← append_assoc pre x (joined xs)) (piece xs (pre ++ x) (b + length x) (length-append pre x ∙ ap (λ (n : ℕ). n + length x) e) j)

pub index-joined : (xs : List (List ℕ)) (j : ℕ) → index_at (archives_joined xs) j ≡ get_or xs j []
unfolding index_at start_at
index-joined xs zero = piece xs [] 0 refl zero
index-joined xs (suc j) =
    let z : suc j - 1 ≡ j = omega arith in
    rw (ne_eqb (suc j) 0 (λ e. omega arith), z) (piece xs [] 0 refl (suc j))
