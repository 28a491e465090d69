-- Document 01's worked examples of a walk, computed: P10, P11, for both profiles with a strong name; then first-seen order, a removed name, and a
-- weak reference by profile.
-- Assumes nothing.
use Rattle.std.specs.Prelude.{ℕ, ◌≡◌, Bool, true, false, List, [], ◌∷◌, ◌++◌, replicate}
use Rattle.link.specs.Counts.{no_names, with_names, with_symbols, with_profile}
use Rattle.archive_index.specs.Archives.{Archives, archives_of, member, member_of}
use Rattle.archive_index.specs.Archives.{one as one_of}
use Rattle.archive_index.specs.Open.{judge_index, judge_of}
use Rattle.archive_walk.specs.Walk.{offer_said, next_of}
use Rattle.archive_laws.specs.Joined.{archives_joined}
use Rattle.link.specs.Judge.{refused, none}
use Rattle.archive_walk.specs.Look.{Table, table_of}
use Rattle.archive_laws.specs.Runs.{Run, history, start_run}

-- a row's codes of visibility
abbrev strong : ℕ
strong = 1

abbrev weak : ℕ
weak = 3

-- the table of a link of that profile with the names b and c, whose rows 1 and 2 have this code of visibility, state and kind of value
abbrev two_names : Bool → ℕ → ℕ → ℕ → ℕ → ℕ → Table
two_names gabi v bs bk cs ck =
    table_of (with_profile (with_symbols (with_names (no_names 0 2) 2 2) 3) gabi) (98 ∷ 99 ∷ [])
    (0 ∷ 1 ∷ 0 ∷ 1 ∷ 0 ∷ 0 ∷ 0 ∷ 0 ∷ 1 ∷ 1 ∷ 1 ∷ 2 ∷ 0 ∷ 0 ∷ 0 ∷ 0 ∷ 0 ∷ 2 ∷ [])
    (1 ∷ 0 ∷ 0 ∷ 0 ∷ 0 ∷ 0 ∷ 0 ∷ 0 ∷ bs ∷ 0 ∷ 0 ∷ 0 ∷ v ∷ bk ∷ 0 ∷ 0 ∷ cs ∷ 1 ∷ 0 ∷ 0 ∷ v ∷ ck ∷ 0 ∷ 0 ∷ [])

-- both undefined and strong, or weak; both defined since; c removed
abbrev undefined_table : Bool → Table
undefined_table gabi = two_names gabi strong 1 7 1 7

abbrev weak_table : Bool → Table
weak_table gabi = two_names gabi weak 1 7 1 7

abbrev defined_table : Bool → Table
defined_table gabi = two_names gabi strong 1 1 1 1

abbrev removed_table : Bool → Table
removed_table gabi = two_names gabi strong 1 7 2 7

-- b to A at 10 and to B at 20
abbrev both : List ℕ
both = 0 ∷ 0 ∷ 0 ∷ 2 ∷ 0 ∷ 0 ∷ 0 ∷ 10 ∷ 0 ∷ 0 ∷ 0 ∷ 20 ∷ 98 ∷ 0 ∷ 98 ∷ 0 ∷ []

-- a to A, b to B, c to A
abbrev three : List ℕ
three = 0 ∷ 0 ∷ 0 ∷ 3 ∷ 0 ∷ 0 ∷ 0 ∷ 10 ∷ 0 ∷ 0 ∷ 0 ∷ 20 ∷ 0 ∷ 0 ∷ 0 ∷ 10 ∷ 97 ∷ 0 ∷ 98 ∷ 0 ∷ 99 ∷ 0 ∷ []

-- c to A
abbrev one : List ℕ
one = 0 ∷ 0 ∷ 0 ∷ 1 ∷ 0 ∷ 0 ∷ 0 ∷ 10 ∷ 99 ∷ 0 ∷ []

-- cells that held anything before
abbrev cells : ℕ → List ℕ
cells n = replicate {A = ℕ} n 7

-- a walk: indexes, cells lent, the table at each call; the entries that were offered (last first), the passes, whether it is done
pub record Example : Type 0 where
  pub archives : Archives
  pub cells : List ℕ
  pub tables : List Table
  pub offers : List ℕ
  pub passes : ℕ
  pub done : Bool

abbrev example_of : List ℕ → List Table → List ℕ → ℕ → Bool → Example
example_of s ts o p d = record { archives = one_of s; cells = cells 24; tables = ts; offers = o; passes = p; done = d }

-- P10: a name to A and B, undefined: both are offered, the second though the name is defined since
abbrev pub p10_in : Bool → Example
p10_in gabi = example_of both (undefined_table gabi ∷ defined_table gabi ∷ []) (1 ∷ 0 ∷ []) 1 false

-- P11: one useless member: 2 passes
abbrev pub p11_in : Bool → Example
p11_in gabi = example_of one (undefined_table gabi ∷ undefined_table gabi ∷ []) (0 ∷ []) 2 true

-- first-seen order is that of the first tied entry: B before A
abbrev pub first_tied : Bool → Example
first_tied gabi = example_of three (undefined_table gabi ∷ undefined_table gabi ∷ undefined_table gabi ∷ []) (2 ∷ 1 ∷ []) 2 true

-- a removed name: no pass is counted, nothing is queued, though entry 1's name is undefined
abbrev pub removed_later : Bool → Example
removed_later gabi = example_of three (removed_table gabi ∷ []) [] 0 false

-- nothing is undefined: the last pass is the first, and done stays done
abbrev pub nothing : Bool → Example
nothing gabi = example_of three (defined_table gabi ∷ undefined_table gabi ∷ []) [] 1 true

-- a weak reference ties its member in the old profile, and none in the gABI's, where the first pass is the last
abbrev pub weak_ties : Example
weak_ties = example_of one (weak_table false ∷ weak_table false ∷ []) (0 ∷ []) 2 true

abbrev pub weak_ties_none : Example
weak_ties_none = example_of one (weak_table true ∷ []) [] 1 true

-- ---- several archives

-- an archive that is given twice
abbrev pub twice : Archives
twice = archives_of (one ++ one) (10 ∷ 20 ∷ [])

abbrev pub given_twice : Bool → Example
given_twice gabi = record { archives = twice; cells = cells 24; tables = undefined_table gabi ∷ undefined_table gabi ∷ undefined_table gabi ∷ []; offers = 1 ∷ 0 ∷ []; passes = 2; done = true }

-- two archives that need each other: b to a member at 10 of the one, c to a member at 10 of the other
abbrev pub video_and_sound : Archives
video_and_sound = archives_of ((0 ∷ 0 ∷ 0 ∷ 1 ∷ 0 ∷ 0 ∷ 0 ∷ 10 ∷ 98 ∷ 0 ∷ []) ++ one) (10 ∷ 20 ∷ [])

-- b is undefined; once it is merged, c; then neither
abbrev pub each_other : Bool → Example
each_other gabi = record {
  archives = video_and_sound;
  cells = cells 24;
  tables = two_names gabi strong 1 7 1 1 ∷ two_names gabi strong 1 1 1 7 ∷ defined_table gabi ∷ [];
  offers = 1 ∷ 0 ∷ [];
  passes = 3;
  done = true;
}

-- no archives: done after one pass
abbrev pub no_archives : Bool → Example
no_archives gabi = record { archives = archives_of [] []; cells = cells 24; tables = undefined_table gabi ∷ []; offers = []; passes = 1; done = true }

-- entry 1's member
abbrev pub OfTheSecond : Archives → Type 0
OfTheSecond a = member_of a 1 ≡ member 1 10

-- what a start answers with rows enough: indexes and ends, number and place
pub record Judged : Type 0 where
  pub bytes : List ℕ
  pub ends : List ℕ
  pub number : ℕ
  pub place : ℕ

abbrev judged : List ℕ → List ℕ → ℕ → ℕ → Judged
judged s ends number place = record { bytes = s; ends = ends; number = number; place = place }

abbrev pub AllJudged : List Judged → Type 0
AllJudged [] = Unit {0}
AllJudged (j ∷ js) = (judge_of (archives_of j.bytes j.ends) 9 ≡ refused j.number j.place) × AllJudged js

abbrev pub judgements : List Judged
judgements =
    -- seventeen, of which some are wrong besides
    judged (one ++ one) (replicate {A = ℕ} 17 5) 1 16
    -- an end below the last; past the slice; a wrong end before an empty index
    ∷ judged (one ++ one) (10 ∷ 4 ∷ []) 1 1 ∷ judged one (11 ∷ []) 1 0 ∷ judged (one ++ one) (0 ∷ 10 ∷ 3 ∷ []) 1 2
    -- the first empty index, before any content
    ∷ judged one (0 ∷ 10 ∷ []) 20 0 ∷ judged one (10 ∷ 10 ∷ []) 20 1 ∷ judged one (3 ∷ 3 ∷ []) 20 1
    -- cut: a count, over all entries; offsets; a name, though the next index begins with a byte 0; a name of the second
    ∷ judged (both ++ one) (17 ∷ 20 ∷ []) 1 2 ∷ judged (both ++ one) (17 ∷ 21 ∷ []) 1 2 ∷ judged (one ++ one) (9 ∷ 20 ∷ []) 1 0 ∷ judged (one ++ one) (10 ∷ 19 ∷ []) 1 1
    -- bytes past the last end are of none; rows for all entries
    ∷ judged (one ++ (7 ∷ [])) (10 ∷ []) 0 0 ∷ judged (one ++ one) (10 ∷ 20 ∷ []) 0 0 ∷ []

-- sixteen, one after the other, with a row for each, and with one too few
abbrev sixteen : Archives
sixteen = archives_joined (replicate {A = List ℕ} 16 one)

abbrev pub SixteenAccepted : Type 0
SixteenAccepted = (judge_of sixteen 16 ≡ none) × (judge_of sixteen 15 ≡ refused 2 0)

-- the bound counts the entries of the indexes before: an index whose entry is the last of 65,535, and one whose entry is one too many
abbrev pub LastOfAll : Type 0
LastOfAll = (judge_index one 65534 ≡ none) × (judge_index one 65535 ≡ refused 1 65535) × (judge_index both 65534 ≡ refused 1 65535)

-- a call for the next member after a start over some indexes: what it is lent then, over which table, number and place
pub record Next : Type 0 where
  pub started : Archives
  pub lent : Archives
  pub table : Table
  pub number : ℕ
  pub place : ℕ

abbrev next_after : Archives → Archives → Table → ℕ → ℕ → Next
next_after a b t number place = record { started = a; lent = b; table = t; number = number; place = place }

abbrev pub AllNext : List Next → Type 0
AllNext [] = Unit {0}
AllNext (x ∷ xs) =
    (offer_said (next_of x.lent (start_run 0 x.started (cells 24)).cells (start_run 0 x.started (cells 24)).walk x.table).moved.offer
    ≡ record { number = x.number; place = x.place; values = [] })
    × AllNext xs

abbrev pub next_refusals : List Next
next_refusals =
    -- a removed name: the second index's entry is entry 1 of all
    next_after video_and_sound video_and_sound (removed_table false) 21 1
    -- fewer ends than the start's; seventeen; an end past the slice; a slice that ends too early, with its end
    ∷ next_after twice (archives_of (one ++ one) (10 ∷ [])) (undefined_table false) 1 0
    ∷ next_after twice (archives_of (one ++ one) (replicate {A = ℕ} 17 20)) (undefined_table false) 1 0
    ∷ next_after twice (archives_of (one ++ one) (10 ∷ 21 ∷ [])) (undefined_table false) 1 0
    ∷ next_after twice (archives_of one (10 ∷ 20 ∷ [])) (undefined_table false) 1 0 ∷ []

abbrev pub p10 : Example
p10 = p10_in false

abbrev pub p11 : Example
p11 = p11_in false

abbrev pub ran_example : Example → Run
ran_example e = history e.archives e.tables (start_run 0 e.archives e.cells)

abbrev pub Right : Example → Type 0
Right e = ((ran_example e).offers ≡ e.offers) × ((ran_example e).walk.passes ≡ e.passes) × ((ran_example e).walk.done ≡ e.done)

abbrev pub All : List Example → Type 0
All [] = Unit {0}
All (e ∷ es) = Right e × All es

abbrev pub in_both : (Bool → Example) → List Example → List Example
in_both e es = e false ∷ e true ∷ es
