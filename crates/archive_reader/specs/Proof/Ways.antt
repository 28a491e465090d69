-- The ways through the functions.
-- Assumes nothing.
use Rattle.std.specs.Prelude.{ℕ, ◌+◌, ◌*◌, ◌≡◌, List, Option, unwrap_or}
use Rattle.std.proofs.Common.{add-one, refl, ◌∙◌}
use Rattle.archive_index.specs.Index.{after_in, place_of}
use Rattle.archive_index.specs.Proof.Ways.{after-or}

module _ (s : List ℕ) (c : ℕ) where
  pub place-first : 4 + 4 * c ≡ place_of s c 0
  unfolding place_of
  place-first = refl

  pub place-next : (i at : ℕ) (t : Option ℕ) → at ≡ place_of s c i → t ≡ after_in s at → unwrap_or t 0 ≡ place_of s c (i + 1)
  unfolding place_of
  place-next i at t e q = after-or s at t q ∙ rw (e, add-one)
