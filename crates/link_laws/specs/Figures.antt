-- What the figures of a title are, by the link at the end of a history and by a walk over archives: what `get` answers, what the walk's calls handed out and
-- made, and what section rows say.
-- Assumes nothing.
use Rattle.std.specs.Prelude.{ℕ, ◌+◌, ◌<◌, ◌≡◌, List, length, count_by}
use Rattle.sections.specs.Rows.{built_state, dropped_state}
use Rattle.archive_index.specs.Archives.{Archives}
use Rattle.archive_walk.specs.Look.{Table}
use Rattle.archive_laws.specs.Runs.{Run, history}
use Rattle.archive_laws.specs.PassList.{offered}
use Rattle.lot_report.specs.Count.{ids}
use Rattle.lot_report.specs.Figures.{Title}
use Rattle.report_laws.specs.Kept.{in_state, bytes_of}
use Rattle.report_laws.specs.Listed.{answers_in}
use Rattle.report_laws.specs.Lot.{figure, Sound}
use Rattle.report_laws.specs.Walks.{passes_made}
use Rattle.merge_laws.specs.Calls.{Linked}
use Rattle.link_laws.specs.Calls.{get, call_left}

-- a link as it stands and a walk, as a title
abbrev pub title_of : Linked → Run → Title
title_of s r = record { link = s.table.link; symbols = s.table.symbols; sections = s.table.sections; walk = r.walk }

-- of the ids that were given out, how many `get` answers with a symbol of that column
abbrev pub answered_in : ℕ → Linked → ℕ
answered_in c s = count_by (λ id. answers_in c (call_left (get (record { 0 = id })) s)) (ids s.table.link.symbols)

-- of a walk that calls over these tables led on from a run
module _ (s : Linked) (archives : Archives) (ts : List Table) (from : Run) where
  abbrev walk : Run
  walk = history archives ts from

  abbrev t : Title
  t = title_of s walk

  pub record FiguresAre : Type 0 where
    -- no count of the link is above what is lent
    pub sound : Sound t
    pub symbols : (c : ℕ) → c < 7 → figure c t ≡ answered_in c s
    -- the members that its calls handed out, and the calls that made a pass
    pub members : figure 7 t ≡ length (offered archives walk)
    pub passes : figure 8 t ≡ passes_made archives ts from
    pub kept : figure 9 t ≡ length (in_state s.table.sections s.table.link.sections built_state)
    pub dropped : figure 10 t ≡ length (in_state s.table.sections s.table.link.sections dropped_state)
    pub kept-bytes : figure 11 t ≡ bytes_of s.table.sections s.table.link.sections built_state
    pub dropped-bytes : figure 12 t ≡ bytes_of s.table.sections s.table.link.sections dropped_state

-- from one title to another sections and bytes go from kept to dropped or stay, and none is lost
pub record NoneLost (t u : Title) : Type 0 where
  pub sections : figure 9 u + figure 10 u ≡ figure 9 t + figure 10 t
  pub bytes : figure 11 u + figure 12 u ≡ figure 11 t + figure 12 t
