-- What is left of the input to hand out.
-- Assumes nothing.
use Rattle.std.specs.Prelude.{ℕ, Bool, false}
use Rattle.text.specs.declared.lines.Lines.{Lines}

abbrev pub lines_at : ℕ → ℕ → ℕ → Bool → Bool → Lines
lines_at start seen end over failed = record { start = start; seen = seen; end = end; over = over; failed = failed }

abbrev pub unread : Lines
unread = lines_at 0 0 0 false false
