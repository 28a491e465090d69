-- Document 01, "Objects": symbols (9, then add). What is decided on one symbol whose name is found; nothing is written.
-- Assumes nothing.
use Rattle.std.specs.Prelude.{ℕ, ◌≢◌, Bool, true, false, cond, List, eqb, leb, length, Result, IfErr}
use Rattle.link.specs.declared.Link.{Link}
use Rattle.link.specs.declared.Interned.{Interned}
use Rattle.interner.specs.Names.{store_of, find_of, fits_of}
use Rattle.symbol.specs.declared.Row.{Row}
use Rattle.symbol.specs.Codes.{successor}
use Rattle.upcoming_symbol.specs.declared.ElfSymbol.{ElfSymbol}
use Rattle.upcoming_symbol.specs.Upcoming.{conversion_from, elf_row_of}
use Rattle.symbol_resolution.specs.declared.rows.Resolution.{Resolution}
use Rattle.symbol_resolution.specs.Decision.{Decision, Refuse, Nothing, Keep}
use Rattle.symbol_resolution.specs.Holder.{holder_of}
use Rattle.symbol_resolution.specs.Decide.{decision_of, decide_of}
use Rattle.gabi.specs.SymbolTable.{stt_notype, stt_file, shn_undef, shn_loreserve}
use Rattle.elf_object.specs.Rows.{binding_at, type_at, visibility_at, section_at, value_at, size_at, conversion_at, mark_at, group_mark}
use Rattle.section_groups.specs.Filter.{section_after}
use Rattle.cells.specs.Slice.{Slice}
use Rattle.merge_symbols.specs.declared.Symbols.{Symbols}
use Rattle.merge_symbols.specs.declared.plan.Plan.{Plan}

-- a symbol of a removed section is undefined by now
abbrev pub filtered_at : List ℕ → List ℕ → ℕ → ElfSymbol
filtered_at entries work i =
    record {
      binding = binding_at entries i;
      visibility = visibility_at entries i;
      kind = type_at entries i;
      section = section_after work (section_at entries i);
      value = value_at entries i;
      size = size_at entries i;
    }

-- "The first symbol, if named empty, undefined and of type 0, maps to id 0 whatever its binding and visibility"
unfoldable pub is_first : ℕ → Bool → ElfSymbol → Bool
is_first i empty e = cond (eqb i 0) (cond (eqb e.section shn_undef) (cond (eqb e.kind stt_notype) empty false) false) false

-- only numbers from 1 below SHN_LORESERVE are sections
unfoldable pub defines_of : List ℕ → ℕ → Bool
defines_of work s =
    cond (eqb s shn_undef) false (cond (leb shn_loreserve s) false (cond (eqb (mark_at work s) group_mark) true false))

-- first symbol; "Type 4 sets the file name"; "Symbols of group-defining sections get no id"; then add, under the name's holder
unfoldable pub rule_of : Link → List ℕ → List ℕ → List ℕ → List ℕ → ℕ → Bool → ElfSymbol → Row → Decision
rule_of l names symbols sections work i empty e r =
    cond (is_first i empty e) (Keep (record { 0 = 0 }))
    (cond (eqb e.kind stt_file) Nothing
    (cond (defines_of work e.section) Nothing (decide_of l symbols sections r (holder_of l names symbols r.name))))

-- the link as it is read; the table's entries and the sections' work rows
pub record View : Type 0 where
  pub bytes : List ℕ
  pub names : List ℕ
  pub symbols : List ℕ
  pub sections : List ℕ
  pub link : Link

abbrev pub view_of : List ℕ → List ℕ → List ℕ → List ℕ → Link → View
view_of b n s x l = record { bytes = b; names = n; symbols = s; sections = x; link = l }

-- as it is lent
abbrev pub view_in : Slice → Slice → Slice → Slice → Link → View
view_in b n s x l = view_of b.entry.now n.entry.now s.entry.now x.entry.now l

abbrev pub view_now : Symbols → View
view_now s = view_of s.bytes.now s.names.now s.symbols.now s.sections.now s.link

pub record Input : Type 0 where
  pub entries : List ℕ
  pub work : List ℕ

abbrev pub input_of : List ℕ → List ℕ → Input
input_of e w = record { entries = e; work = w }

-- "A name is interned (2) once found, before later checks"
unfoldable pub judged_of : View → List ℕ → ℕ → ℕ → ElfSymbol → Row → Decision
judged_of v work i n e r =
    cond (fits_of (store_of v.bytes v.names v.link) r.name n)
    (rule_of v.link v.names v.symbols v.sections work i (eqb n 0) e r) (Refuse 2)

-- what is to be done with a symbol, under a name that has or would get this id
pub record Planned : Type 0 where
  pub id : Interned
  pub kind : ℕ
  pub row : Row
  pub decision : Decision

-- as it is planned
abbrev pub planned_as : Plan → Planned
planned_as p = record { id = p.id; kind = p.kind; row = p.row; decision = decision_of p.resolution }

-- a refusal has a number
abbrev pub Numbered : Result Resolution ℕ → Type 0
Numbered r = IfErr r (λ n. n ≢ 0)

abbrev pub planned : Interned → ElfSymbol → Row → Decision → Planned
planned id e r d = record { id = id; kind = e.kind; row = r; decision = d }

unfoldable pub rowed_of : View → Input → List ℕ → ℕ → Interned → ElfSymbol → Row → Planned
rowed_of v o x i id e r = planned id e r (judged_of v o.work i (length x) e r)

unfoldable pub read_of : View → Input → List ℕ → ℕ → ℕ → Interned → ElfSymbol → Planned
read_of v o x i file id e = rowed_of v o x i id e (elf_row_of (conversion_from (conversion_at o.work e.section)) e id (eqb (length x) 0) file)

-- the name's id, known or to come; the row that the symbol would become; the decision
unfoldable pub planned_of : View → Input → List ℕ → ℕ → ℕ → Planned
planned_of v o x i file =
    read_of v o x i file (record { 0 = find_of v.bytes v.names v.link x }) (filtered_at o.entries o.work i)

-- "21's id: the name's for an add"
unfoldable pub place_of : ℕ → Interned → ℕ → ℕ
place_of number id i = cond (eqb number 21) id.0 i

-- "Type 4 sets the file name of the symbols after it"; the name's id and 1
unfoldable pub file_after : ℕ → ℕ → Interned → ℕ
file_after file kind id = cond (eqb kind stt_file) (successor id.0) file
