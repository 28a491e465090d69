-- "Known places where gABI differs": those of archives, each with its smallest input, and beside them an input on which both agree; in the gABI's
-- profile (document 02, 2026-02) the same inputs, on which both agree throughout. Computed from the contracts' definitions: a walk over an index
-- that ties b to one member, and admission of that member's rows.
-- Assumes nothing.
use Rattle.link.specs.declared.cause.Refusal.{Refusal}
use Rattle.std.specs.Prelude.{ℕ, ◌≡◌, Bool, true, false, List, [], ◌∷◌, replicate, Result, Ok}
use Rattle.gabi.specs.StringTable as Strings
use Rattle.gabi.specs.Archive.{wants, extracts}
use Rattle.link.specs.Counts.{no_names, with_names, with_symbols, with_profile}
use Rattle.upcoming_symbol.specs.declared.Conversion.TheVariants as To
use Rattle.upcoming_symbol.specs.Upcoming.{elf_row_of}
use Rattle.symbol.specs.Row.{row_at}
use Rattle.symbol_laws.specs.Gabi.{sym_of}
use Rattle.symbol_laws.specs.Differences.{elf}
use Rattle.archive_walk.specs.Look.{Table, table_of}
use Rattle.archive_index.specs.Archives.{one}
use Rattle.archive_laws.specs.Runs.{Run, history, start_run}
use Rattle.object_requirement.specs.Matches as Admits
use Rattle.extraction_laws.specs.Member.{member_of}

abbrev b : List ℕ
b = 98 ∷ []

-- a table of one name, b, with this code of visibility and this second word of an undefined value, of a link of this profile
abbrev table_with : Bool → ℕ → ℕ → Table
table_with gabi v a =
    table_of (with_profile (with_symbols (with_names (no_names 0 1) 1 1) 2) gabi) b
    (0 ∷ 1 ∷ 0 ∷ 1 ∷ 0 ∷ 0 ∷ 0 ∷ 0 ∷ 1 ∷ []) (1 ∷ 0 ∷ 0 ∷ 0 ∷ 0 ∷ 0 ∷ 0 ∷ 0 ∷ 1 ∷ 0 ∷ 0 ∷ 0 ∷ v ∷ 7 ∷ a ∷ 0 ∷ [])

abbrev pub strongly : Bool → Table
strongly gabi = table_with gabi 1 0

abbrev pub weakly : Bool → Table
weakly gabi = table_with gabi 3 1

-- b to the member at 10
abbrev index : List ℕ
index = 0 ∷ 0 ∷ 0 ∷ 1 ∷ 0 ∷ 0 ∷ 0 ∷ 10 ∷ 98 ∷ 0 ∷ []

-- one call over the table
abbrev pub ran : Table → Run
ran t = history (one index) (t ∷ []) (start_run 0 (one index) (replicate {A = ℕ} 8 7))

-- an object with a symbol b of that binding in that section: no section, a symbol table, its string table
abbrev headers : List ℕ
headers = 0 ∷ 0 ∷ 0 ∷ 0 ∷ 0 ∷ 0 ∷ 0 ∷ 0 ∷ 3 ∷ 0 ∷ 0 ∷ 2 ∷ 0 ∷ 0 ∷ 1 ∷ 0 ∷ 4 ∷ 0 ∷ 0 ∷ 0 ∷ 0 ∷ 0 ∷ 3 ∷ 0 ∷ []

abbrev entries : ℕ → ℕ → List ℕ
entries binding section = 1 ∷ binding ∷ 0 ∷ 0 ∷ section ∷ 0 ∷ 0 ∷ 0 ∷ []

abbrev file : List ℕ
file = 0 ∷ 98 ∷ 0 ∷ []

-- table, the binding of b's reference in it, the wanted names; binding and section of the member's symbol, which is undefined in section 0; whether the gABI
-- extracts the member, what the walk offers, what admission says
pub record Case : Type 0 where
  pub table : Table
  pub reference : ℕ
  pub wanted : List (List ℕ)
  pub binding : ℕ
  pub section : ℕ
  pub extracted : Bool
  pub offers : List ℕ
  pub admitted : Result Bool Refusal

abbrev case_of : Table → ℕ → List (List ℕ) → ℕ → ℕ → Bool → List ℕ → Result Bool Refusal → Case
case_of t r w d s x o a = record { table = t; reference = r; wanted = w; binding = d; section = s; extracted = x; offers = o; admitted = a }

-- the member is offered, by entry 0
abbrev offered : List ℕ
offered = 0 ∷ []

abbrev pub Right : Case → Type 0
Right c =
    -- the table's row is that of the reference
    (row_at c.table.symbols 1 ≡ elf_row_of (To.Section (record { 0 = 1 })) (elf c.reference 0 0) (record { 0 = 0 }) false 0)
    -- the gABI wants b just if it is among the wanted names
    × (wants (sym_of (elf c.reference 0 0) ∷ []) ≡ Strings.among b c.wanted)
    × (extracts (member_of headers (entries c.binding c.section) file) c.wanted ≡ c.extracted)
    × ((ran c.table).offers ≡ c.offers)
    × (Admits.matches_of c.table.link headers (entries c.binding c.section) [] file index (ran c.table).cells (ran c.table).walk 0 ≡ c.admitted)

-- strong reference, strong definition: both take the member
abbrev pub agreeing : Bool → Case
agreeing gabi = case_of (strongly gabi) 1 (b ∷ []) 1 1 true offered (Ok true)

-- "Weak references pull members"
abbrev pub weak_reference : Case
weak_reference = case_of (weakly false) 2 [] 1 1 false offered (Ok true)

-- "a weak definition doesn't admit one"
abbrev pub weak_definition : Case
weak_definition = case_of (strongly false) 1 (b ∷ []) 2 1 true offered (Ok false)

-- "some symbol of binding 1, defined or not": a member that only refers to b, by an index that ties b to it all the same
abbrev pub member_refers : Case
member_refers = case_of (strongly false) 1 (b ∷ []) 1 0 false offered (Ok true)

-- the gABI's profile: "a weak reference ties no member"
abbrev pub weak_ties_none : Case
weak_ties_none = case_of (weakly true) 2 [] 1 1 false [] (Ok false)

-- "a weak or global definition, and nothing else, admits one": a weak one; then a member that the index lies about, as it only refers to b, or has
-- a local b
abbrev pub weak_admits : Case
weak_admits = case_of (strongly true) 1 (b ∷ []) 2 1 true offered (Ok true)

abbrev pub reference_admits_not : Case
reference_admits_not = case_of (strongly true) 1 (b ∷ []) 1 0 false offered (Ok false)

abbrev pub local_admits_not : Case
local_admits_not = case_of (strongly true) 1 (b ∷ []) 0 1 false offered (Ok false)

abbrev pub cases : List Case
cases =
    agreeing false ∷ weak_reference ∷ weak_definition ∷ member_refers
    -- the gABI's profile
    ∷ agreeing true ∷ weak_ties_none ∷ weak_admits ∷ reference_admits_not ∷ local_admits_not ∷ []

pub data All : List Case → Type 0 where
  none : All []
  also : {c : Case} {cs : List Case} → Right c → All cs → All (c ∷ cs)
