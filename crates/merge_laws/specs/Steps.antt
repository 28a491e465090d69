-- What calls write of the table, one step after the other.
-- Assumes nothing.
use Rattle.std.specs.Prelude.{ℕ, ◌*◌, ◌<◌, ◌≤◌, ◌≡◌, List, [], ◌∷◌, ◌++◌, true, get_or, take, drop, length}
use Rattle.cells.specs.Rows.{row_width}
use Rattle.link.specs.Said.{number_in}
use Rattle.link.specs.declared.Link.{Link}
use Rattle.interner.specs.Names.{fits_of}
use Rattle.link.specs.Bounds.{section_rows}
use Rattle.link.specs.Counts.{with_sections, with_inputs, with_lists, with_broken}
use Rattle.section_groups.specs.Group.{with_signature}
use Rattle.symbol_laws.specs.History.{State, store, Entry, run, log, Part, issue, put, put_of, id_of, part_next, part_notes}

pub data Step : Type 0 where
  -- a name issued, or a row added under an issued name
  part : Part → Step
  -- the mark of a group's signature, in its name's row
  mark : ℕ → Step
  -- section rows, the counts of sections, inputs and lists, and whether the link is broken
  others : List ℕ → Link → Step

-- the rows of x; what lies behind them, the sections' symbols, stays
abbrev pub rows_from : ℕ → List ℕ → List ℕ → List ℕ
rows_from slots x old = take (slots * row_width) x ++ drop (slots * row_width) old

-- the counts of names, of their bytes and of symbols stay, and the profile
abbrev pub counts_from : Link → Link → Link
counts_from l old = with_broken (with_lists (with_inputs (with_sections old l.sections) l.inputs) l.lists) l.broken

abbrev pub with_names : State → List ℕ → State
with_names s names = record { bytes = s.bytes; names = names; symbols = s.symbols; sections = s.sections; link = s.link }

abbrev pub with_others : State → List ℕ → Link → State
with_others s x l = record { bytes = s.bytes; names = s.names; symbols = s.symbols; sections = x; link = l }

abbrev pub step_next : Step → State → State
step_next (part p) s = part_next p s
step_next (mark n) s = with_names s (with_signature s.names n)
step_next (others x l) s = with_others s (rows_from s.link.slots x s.sections) (counts_from l s.link)

-- the accepted adds that aren't local
abbrev pub step_notes : Step → State → List Entry
step_notes (part p) s = part_notes p s
step_notes (mark n) s = []
step_notes (others x l) s = []

abbrev pub run_steps : List Step → State → State
run_steps = run step_next step_notes

abbrev pub log_steps : List Step → State → List Entry
log_steps = log step_next step_notes

-- ---- steps that are accepted where they are made: the name fits, the add isn't refused, the marked name is issued, and no section row past the
-- count is written

-- document 01, "Bounds", of sections and inputs
abbrev pub Bounded : Link → Type 0
Bounded l = (l.sections ≤ section_rows l.slots) × (l.inputs ≤ 4095)

abbrev pub PartGoes : Part → State → Type 0
PartGoes (issue x) s = fits_of (store s) (id_of s x) (length x) ≡ true
PartGoes (put r from) s = number_in (put_of s r).said ≡ 0

abbrev pub Goes : Step → State → Type 0
Goes (part p) s = PartGoes p s
Goes (mark n) s = n < s.link.names
Goes (others x l) s =
    (s.link.sections ≤ l.sections)
    × (length x ≡ length s.sections)
    × ((q : ℕ) → l.sections * row_width ≤ q → get_or x q 0 ≡ get_or s.sections q 0)
    × (Bounded s.link → Bounded (counts_from l s.link))

abbrev pub AllGo : List Step → State → Type 0
AllGo [] s = Unit {0}
AllGo (k ∷ ks) s = Goes k s × AllGo ks (step_next k s)

-- the steps lead from s to t, and each is accepted
pub record Makes (s : State) (ks : List Step) (t : State) : Type 0 where
  pub leads : run_steps ks s ≡ t
  pub accepted : AllGo ks s
