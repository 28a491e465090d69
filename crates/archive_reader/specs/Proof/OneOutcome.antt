-- "that its contract admits no second outcome" (document 01, acceptance a), of the archive index' reader: the struct is the slice and the number given,
-- an offset is one number, a name one list of bytes. Where in the slice a name lies is not said (docs/LOOSE.md).
-- Assumes nothing.
use Rattle.std.specs.Prelude.{ℕ, ◌≡◌, List}
use Rattle.std.proofs.Common.{sym, ◌∙◌}
use Rattle.std.specs.Borrow.{Bor}
use Rattle.archive_reader.specs.Contract.{ReaderMeets, OffsetMeets, NameMeets}

module _ (bytes : Bor (List ℕ)) (entries : ℕ) where
  pub reader-one-outcome : (b c : Bor (List ℕ)) (n m : ℕ) → ReaderMeets bytes entries b n → ReaderMeets bytes entries c m → (b ≡ c) × (n ≡ m)
  reader-one-outcome b c n m e f = (e.0 ∙ sym f.0, e.1 ∙ sym f.1)

  pub offset-one-outcome : (k x y : ℕ) → OffsetMeets bytes.now entries k x → OffsetMeets bytes.now entries k y → x ≡ y
  offset-one-outcome k x y e f = e ∙ sym f

  pub name-one-outcome : (k : ℕ) (x y : Bor (List ℕ)) → NameMeets bytes entries k x → NameMeets bytes entries k y → (x.now ≡ y.now) × (x.ref_ptr.0 ≡ y.ref_ptr.0)
  name-one-outcome k x y e f = (e.0 ∙ sym f.0, e.1 ∙ sym f.1)
