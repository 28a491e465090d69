-- The loops of a section's LIST and of the conversion.
-- Assumes nothing.
use Rattle.std.specs.Prelude.{◌≡◌, ℕ, suc, ◌+◌, ◌-◌, ◌<◌, ◌≤◌, List, slice_set}
use native.Mathlib.Omega.{arith}
use Rattle.std.proofs.Math.Path.{refl, sym}
use Rattle.std.proofs.Common.{ap, ◌∙◌}
use borrow.Author.Tests.{lt-ltb, le-ltb}
use Rattle.text.specs.Fields.{field_of}
use Rattle.replay_object.specs.Told.{listed_of, list_from, put_list_of}
use Rattle.replay_object.specs.Conversion.{cell_of, convert_from, convert_of}

module _ (c₀ : List ℕ) (at : ℕ) (line : List ℕ) (count : ℕ) where
  pub list-start : list_from count c₀ at line 0 ≡ list_from (count - 0) c₀ at line 0
  list-start = ap (λ (n : ℕ). list_from n c₀ at line 0) (omega arith)

  pub list-long : (t : List ℕ) → 2048 < count → t ≡ c₀ → t ≡ put_list_of c₀ at line count
  unfolding put_list_of
  list-long t h q = simp (q, lt-ltb _ _ h)

  module _ (c : List ℕ) (j : ℕ) (t : List ℕ) where
    pub list-more : j < count → t ≡ listed_of c at line j → list_from count c₀ at line 0 ≡ list_from (count - j) c at line j
        → list_from count c₀ at line 0 ≡ list_from (count - (j + 1)) t at line (j + 1)
    unfolding list_from
    list-more h e w = let n : count - j ≡ suc (count - (j + 1)) = omega arith in w ∙ rw n (simp (e))

    pub list-end : count ≤ 2048 → count ≤ j → list_from count c₀ at line 0 ≡ list_from (count - j) c at line j → t ≡ c → t ≡ put_list_of c₀ at line count
    unfolding put_list_of list_from
    list-end g h w q = let n : count - j ≡ 0 = omega arith in let z : list_from count c₀ at line 0 ≡ c = w ∙ rw n in simp (q, le-ltb _ _ g, z)

-- ---- the conversion

module _ (c₀ line c : List ℕ) (i : ℕ) where
  pub convert-start : convert_of c₀ line ≡ convert_from (64 - 0) c₀ line 0
  unfolding convert_of
  convert-start = refl

  pub convert-more : (x d : List ℕ) (v : ℕ) → i < 64 → x ≡ field_of line (i + 1) → v ≡ cell_of x → d ≡ slice_set c (6144 + i) v
      → convert_of c₀ line ≡ convert_from (64 - i) c line i → convert_of c₀ line ≡ convert_from (64 - (i + 1)) d line (i + 1)
  unfolding convert_from
  convert-more x d v h e f q w = let n : 64 - i ≡ suc (64 - (i + 1)) = omega arith in w ∙ rw n (simp (q, f, e))

  pub convert-end : 64 ≤ i → convert_of c₀ line ≡ convert_from (64 - i) c line i → c ≡ convert_of c₀ line
  unfolding convert_from
  convert-end h w = let n : 64 - i ≡ 0 = omega arith in sym (w ∙ rw n)
