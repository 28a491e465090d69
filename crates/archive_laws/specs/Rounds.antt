-- The words of Members.antt for archives: an entry's member is known by archive and offset, as one number (key_in).
-- Assumes nothing.
use Rattle.std.specs.Prelude.{ℕ, ◌≡◌, Bool, List, ◌∷◌}
use Rattle.archive_index.specs.declared.several.Member.{Member}
use Rattle.archive_index.specs.Archives.{Archives, member_of, key_in}
use Rattle.archive_laws.specs.Members as Members

-- one of the entries q is of entry k's member
abbrev pub among : Archives → ℕ → List ℕ → Bool
among a = Members.among (key_in a)

-- one of the entries q is of the member m
pub data Offered (a : Archives) (m : Member) : List ℕ → Type 0 where
  here : {e : ℕ} {q : List ℕ} → member_of a e ≡ m → Offered a m (e ∷ q)
  later : {e : ℕ} {q : List ℕ} → Offered a m q → Offered a m (e ∷ q)

-- the number of members that c entries name
abbrev pub members : Archives → ℕ → ℕ
members a = Members.members (key_in a)
