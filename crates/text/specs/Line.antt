-- The next line of what is in the buffer.
-- Assumes nothing.
use Rattle.std.specs.Prelude.{ℕ, zero, suc, ◌+◌, ◌-◌, Bool, true, false, cond, List, eqb, ltb, leb, get_or, length, Option, Some, None}
use Rattle.text.specs.declared.lines.Lines.{Lines}
use Rattle.text.specs.declared.lines.Taken.{Taken}
use Rattle.text.specs.declared.lines.Taken.TheVariants.{Line, Long, End}
use Rattle.text.specs.Unread.{lines_at}

abbrev pub line_end : ℕ
line_end = 10

-- of k bytes from i on, the first that is a line end; the place behind them where none is
unfoldable pub end_from : List ℕ → ℕ → ℕ → ℕ
end_from b i zero = i
end_from b i (suc k) = cond (eqb (get_or b i 0) line_end) i (end_from b (i + 1) k)

abbrev pub end_in : List ℕ → ℕ → ℕ → ℕ
end_in b from to = end_from b from (to - from)

-- the bytes from a place to another, where they lie in a buffer of len bytes
unfoldable pub span_of : ℕ → ℕ → ℕ → Taken
span_of from to len = cond (ltb to from) End (cond (ltb len to) End (Line from (to - from)))

-- nothing more comes: a last line without line end, or nothing
unfoldable pub rest_of : Lines → ℕ → Taken
rest_of l len = cond (leb l.end l.start) End (span_of l.start l.end len)

-- no line end is in the buffer; none: more has to be read first
unfoldable pub unended_of : Lines → ℕ → Option Taken
unended_of l len = cond l.over (Some (rest_of l len)) (cond (eqb l.start 0) (cond (leb len l.end) (Some Long) None) None)

-- what is left behind a last line: nothing
unfoldable pub left_of : Lines → ℕ
left_of l = cond l.over l.end l.start

-- what is left of the input, and what was taken of it; none: more has to be read first
pub record Step : Type 0 where
  pub lines : Lines
  pub taken : Option Taken

abbrev pub step_of : Lines → Option Taken → Step
step_of l t = record { lines = l; taken = t }

-- at: where its line end is
unfoldable pub settled_at : ℕ → Lines → ℕ → Step
settled_at len l at =
    cond (ltb at l.end) (step_of (lines_at (at + 1) (at + 1) l.end l.over l.failed) (Some (span_of l.start at len)))
    (step_of (lines_at (left_of l) l.end l.end l.over l.failed) (unended_of l len))

unfoldable pub settle_of : List ℕ → Lines → Step
settle_of b l = settled_at (length b) l (end_in b l.seen l.end)

-- has more to be read first?
abbrev pub is_more : Option Taken → Bool
is_more (Some t) = false
is_more None = true
