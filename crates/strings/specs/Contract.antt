-- The contract of a string lookup: the bytes of the part that is handed back, if there is one, against its definition.
-- Assumes nothing.
use Rattle.std.specs.Prelude.{ℕ, ◌≡◌, Bool, true, false, List, [], Option, None, Some}
use Rattle.std.specs.Borrow.{Bor}
use Rattle.strings.specs.Lookup.{looked, look_ended, look_up}

pub record StringExit : Type 0 where
  pub result : List ℕ
  pub found : Bool

-- of an answer: a part that is handed back, or none
abbrev pub string_exit : Option (Bor (List ℕ)) → StringExit
string_exit None = record { result = []; found = false }
string_exit (Some part) = record { result = part.now; found = true }

abbrev pub StringMeets : List ℕ → ℕ → StringExit → Type 0
StringMeets table offset e = looked e.result e.found ≡ look_up table offset

-- of bytes that are no string table
abbrev pub EndedMeets : List ℕ → ℕ → StringExit → Type 0
EndedMeets bytes offset e = looked e.result e.found ≡ look_ended bytes offset
