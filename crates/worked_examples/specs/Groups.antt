-- Document 01's example of a group, P8, computed from the definition of `add_group`.
-- Assumes nothing.
use Rattle.std.specs.Prelude.{ℕ, ◌≡◌, [], ◌∷◌, replicate, Err}
use Rattle.link.specs.Judge as Judge
use Rattle.link.specs.Counts.{no_names, with_names, with_symbols}
use Rattle.section_groups.specs.Group.{Object, object_of, State, state_of}
use Rattle.section_groups.specs.AddGroup.{left_of, add_group_of}

-- an object whose section 1 is a group with these flags (8 is COMDAT) and so many sections
pub record Example : Type 0 where
  pub flags : ℕ
  pub sections : ℕ
  pub number : ℕ

abbrev pub object_with : ℕ → ℕ → Object
object_with flags sections =
    object_of (0 ∷ 0 ∷ 0 ∷ 0 ∷ 0 ∷ 0 ∷ 0 ∷ 0 ∷ 7 ∷ 0 ∷ flags ∷ 0 ∷ 0 ∷ 0 ∷ sections ∷ 0 ∷ []) [] [] [] 0

-- a new table's counts, with one name row
abbrev pub table : State
table =
    state_of [] (replicate {A = ℕ} 9 0) (replicate {A = ℕ} 16 0)
    (with_symbols (with_names (no_names 0 1) 1 0) 1)

-- refused with that number at section 1, and everything left as it was
abbrev pub Right : Example → Type 0
Right e =
    add_group_of (object_with e.flags e.sections) table 1
    ≡ left_of table.bytes table.names table.work (record { link = table.link; answer = Err (Judge.refused e.number 1) })

-- P8: non-COMDAT, zero sections: 4
abbrev pub p8 : Example
p8 = record { flags = 0; sections = 0; number = 4 }

-- P8: COMDAT: 5
abbrev pub p8_comdat : Example
p8_comdat = record { flags = 8; sections = 0; number = 5 }
