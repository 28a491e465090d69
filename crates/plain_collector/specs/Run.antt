-- The plain collection: 22 and 1 as the first has them, 30, 2; what is reached; then the end of the first, 21 or the sweep.
-- Assumes nothing.
use Rattle.link.specs.declared.SymbolId.{SymbolId}
use Rattle.std.specs.Prelude.{ℕ, ◌+◌, cond, List, eqb, ltb, Option, Err}
use Rattle.link.specs.declared.Link.{Link}
use Rattle.link.specs.declared.cause.Refusal.{Refusal}
use Rattle.link.specs.Judge.{refused}
use Rattle.sections.specs.Rows.{is_built}
use Rattle.gc_sections.specs.Each.{each}
use Rattle.gc_sections.specs.Run.{Left, left, Lists, finish_of, judged}
use Rattle.plain_collector.specs.Visit.{Visited, reached_of}

-- "built sections not dropped": placeholders don't count either
unfoldable pub count_one : List ℕ → ℕ → ℕ → ℕ → ℕ
count_one sections n i count = cond (is_built sections n i) (count + 1) count

unfoldable pub count_built : List ℕ → ℕ → ℕ
count_built sections n = each (count_one sections n) n 0 0

-- "up to 256 built sections not dropped"
abbrev pub most_built : ℕ
most_built = 256

-- "30, more such sections than that, after 1, place 0"; so before 2
unfoldable pub judge_plain : Refusal → ℕ → Refusal
judge_plain head built =
    cond (eqb head.number 22) head (cond (eqb head.number 1) head (cond (ltb most_built built) (refused 30 0) head))

abbrev pub judged_plain : Link → Lists → List ℕ → List ℕ → List ℕ → Refusal
judged_plain l x symbols sections work = judge_plain (judged l x symbols sections work) (count_built sections l.sections)

unfoldable pub finished : Link → List ℕ → List ℕ → Visited → Left
finished l symbols sections s = finish_of l symbols sections s.work s.unbuilt

unfoldable pub plain_of : Link → Lists → List ℕ → List ℕ → Option SymbolId → List ℕ → Left
plain_of l x symbols sections entry work =
    cond (eqb (judged_plain l x symbols sections work).number 0)
    (finished l symbols sections (reached_of l x.bytes x.names symbols sections x.lists x.marks entry work))
    (left symbols sections work l (Err (judged_plain l x symbols sections work)))
