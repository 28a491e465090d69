-- How a replay counts, and what is left to compare.
-- Assumes nothing.
use Rattle.std.specs.Prelude.{ℕ, ◌+◌, ◌-◌, cond, List, ltb, length}
use Rattle.byte_slices.specs.Bytes.{part}
use Rattle.symbol.specs.Codes.{successor}
use Rattle.replay_tally.specs.declared.Tally.{Tally}
use Rattle.replay_tally.specs.Answer.{first_line, meets}

abbrev pub started : Tally
started = record { line = 0; links = 0; operations = 0; answers = 0; differences = 0; from = 0; to = 0 }

abbrev pub on_line : Tally → Tally
on_line t =
    record { line = successor t.line; links = t.links; operations = t.operations; answers = t.answers; differences = t.differences; from = t.from; to = t.to }

abbrev pub on_link : Tally → Tally
on_link t =
    record { line = t.line; links = successor t.links; operations = t.operations; answers = t.answers; differences = t.differences; from = t.from; to = t.to }

-- an operation, whose answers are the first n bytes of the text
abbrev pub answered_by : Tally → ℕ → Tally
answered_by t n =
    record { line = t.line; links = t.links; operations = successor t.operations; answers = t.answers; differences = t.differences; from = 0; to = n }

abbrev pub differing : Tally → Tally
differing t =
    record { line = t.line; links = t.links; operations = t.operations; answers = t.answers; differences = successor t.differences; from = t.from; to = t.to }

-- the next answer of the text
unfoldable pub pending_of : List ℕ → ℕ → ℕ → List ℕ
pending_of text from to = part text from (to - from)

-- behind a line of n bytes and its line end, where one follows
unfoldable pub past_of : ℕ → ℕ → ℕ → ℕ
past_of from n to = cond (ltb n (to - from)) (from + n + 1) to

abbrev pub compared_of : Tally → ℕ → Tally
compared_of t n =
    record { line = t.line; links = t.links; operations = t.operations; answers = successor t.answers; differences = t.differences; from = past_of t.from n t.to; to = t.to }

abbrev pub next_answer : Tally → List ℕ → List ℕ
next_answer t text = first_line (pending_of text t.from t.to)

-- one more answer compared; a difference where it isn't what is expected
unfoldable pub compare_of : Tally → List ℕ → List ℕ → Tally
compare_of t text expected =
    cond (meets expected (next_answer t text)) (compared_of t (length (next_answer t text))) (differing (compared_of t (length (next_answer t text))))

-- answers that the list doesn't have are a difference
unfoldable pub settle_of : Tally → Tally
settle_of t = cond (ltb t.from t.to) (differing t) t
