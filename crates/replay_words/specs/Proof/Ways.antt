-- The ways through the functions of Spelled and Order.
-- Assumes nothing.
use Rattle.std.specs.Prelude.{◌≡◌, ℕ, suc, ◌+◌, ◌-◌, ◌/◌, ◌%◌, ◌^◌, ◌<◌, ◌≤◌, List, length, slice_set}
use native.Mathlib.Omega.{arith}
use Rattle.std.proofs.Common.{ap, ◌∙◌}
use Rattle.replay_words.specs.Spelled.{spelled_of, put_from, Spelled, spelled, put_bytes}

module _ (to₀ : List ℕ) (at : ℕ) (word : List ℕ) (count : ℕ) where
  pub put-start : put_from count to₀ at word 0 ≡ put_from (count - 0) to₀ at word 0
  put-start = ap (λ (n : ℕ). put_from n to₀ at word 0) (omega arith)

  module _ (to : List ℕ) (k : ℕ) where
    pub put-more : (place v : ℕ) (m : List ℕ) → k < count → place ≡ (at + k) % 2 ^ 64 → v ≡ spelled_of word k → m ≡ slice_set to place v
        → put_from count to₀ at word 0 ≡ put_from (count - k) to at word k
        → put_from count to₀ at word 0 ≡ put_from (count - (k + 1)) m at word (k + 1)
    unfolding put_from
    put-more place v m h e f q w =
        let n : count - k ≡ suc (count - (k + 1)) = omega arith in
        w ∙ rw n (simp (q, e, f))

    pub put-end : (t : Spelled) → count ≡ length word / 2 → count ≤ k → put_from count to₀ at word 0 ≡ put_from (count - k) to at word k → t ≡ spelled to count
        → t ≡ put_bytes to₀ at word
    unfolding put_bytes put_from
    put-end t e h w q =
        let n : count - k ≡ 0 = omega arith in
        let z : put_from count to₀ at word 0 ≡ to = w ∙ rw n in
        simp (q, ← e, z)
