-- The contract of a read: the lent cells after it and its answer, against its definition.
-- Assumes nothing.
use Rattle.std.specs.Prelude.{◌≡◌, List, ℕ, cond, eqb, Result, Ok, Err}
use Rattle.link.specs.declared.cause.Refusal.{Refusal}
use Rattle.link.specs.Judge.{refused}
use Rattle.elf_file.specs.declared.reading.Written.{Written}
use Rattle.elf_file.specs.Read.{Reading, Done, read_of}

abbrev pub written_as : ℕ → ℕ → ℕ → ℕ → Written
written_as sections entries contents strings = record { sections = sections; entries = entries; contents = contents; strings = strings }

-- a reading as the call answers it
abbrev pub answer_of : Reading → Result Written Refusal
answer_of r = cond (eqb r.number 0) (Ok (written_as r.sections r.entries r.contents r.strings)) (Err (refused r.number r.place))

-- the lent cells and the answer
pub record Exit : Type 0 where
  pub cells : List ℕ
  pub answer : Result Written Refusal

abbrev pub exit : List ℕ → Result Written Refusal → Exit
exit l r = record { cells = l; answer = r }

abbrev pub exit_of : Done → Exit
exit_of d = exit d.cells (answer_of d.answer)

-- the file; the cells before the call and after it
abbrev pub ReadMeets : List ℕ → List ℕ → List ℕ → Result Written Refusal → Type 0
ReadMeets file before after r = exit after r ≡ exit_of (read_of file before)
