-- "Refused, though the gABI allows or reserves it" (docs/DIFFERENCES.md): one list of smallest inputs with their numbers, and one theorem. Beside each kind
-- of input stands one that is accepted.
-- Assumes nothing.
use Rattle.std.specs.Prelude.{ℕ, false, List, [], ◌∷◌, replicate}
use Rattle.gabi.specs.SymbolTable.{stb_local, stb_global, stt_func, stt_common, stt_tls, stv_default, stv_internal, stv_hidden, stv_protected, shn_common}
use Rattle.link.specs.declared.Link.{Link}
use Rattle.link.specs.Counts.{no_names, with_names, with_symbols, with_slots}
use Rattle.symbol_resolution.specs.declared.rows.Holder.TheVariants.{Nobody}
use Rattle.symbol_resolution.specs.Decide as Symbols
use Rattle.symbol_resolution.specs.Decide.{decide_of}
use Rattle.upcoming_symbol.specs.declared.Conversion.TheVariants as To
use Rattle.upcoming_symbol.specs.Upcoming.{elf_row_of}
use Rattle.merge_sections.specs.Reserve as Reserve
use Rattle.merge_sections.specs.Reserve.{class_of}
use Rattle.section_groups.specs.Group.{object_of, shape_of}

-- a link with one name, a free symbol row and a free section row
abbrev link : Link
link = with_slots (with_symbols (with_names (no_names 0 1) 1 0) 1) 1

-- what is answered to a symbol of that binding, visibility, type and section, under a name that nobody holds; section 1 has an id
abbrev pub symbol : ℕ → ℕ → ℕ → ℕ → ℕ
symbol b v k s =
    Symbols.refusal_of
    (decide_of link (replicate {A = ℕ} 16 0) []
    (elf_row_of (To.Section (record { 0 = 1 })) (record { binding = b; visibility = v; kind = k; section = s; value = 0; size = 0 }) (record { 0 = 0 }) false 0) Nobody)

-- to a group with these flags (8 is COMDAT) and so many sections; its signature is symbol 0 of table 1
abbrev pub group : ℕ → ℕ → ℕ
group flags count = shape_of (object_of (7 ∷ 0 ∷ flags ∷ 1 ∷ 0 ∷ 0 ∷ count ∷ 0 ∷ []) (replicate {A = ℕ} 8 0) (9 ∷ 10 ∷ []) [] 1) [] 0

-- to a section of an object, by its kind
abbrev pub section : ℕ → ℕ
section kind = Reserve.reserve_number link (replicate {A = ℕ} 16 0) (class_of (kind ∷ 0 ∷ 0 ∷ 0 ∷ 0 ∷ 0 ∷ 0 ∷ 0 ∷ []) 0) 0

pub record Case : Type 0 where
  pub answered : ℕ
  pub number : ℕ

abbrev case : ℕ → ℕ → Case
case a n = record { answered = a; number = n }

-- the columns of a list
abbrev pub answers : List Case → List ℕ
answers [] = []
answers (c ∷ cs) = c.answered ∷ answers cs

abbrev pub numbers : List Case → List ℕ
numbers [] = []
numbers (c ∷ cs) = c.number ∷ numbers cs

abbrev pub cases : List Case
cases =
    -- dynamic symbol table, .eh_frame_hdr, dynamic section, unknown type; a program section is accepted
    case (section 10) 3
    ∷ case (section 11) 3
    ∷ case (section 12) 3
    ∷ case (section 13) 3
    ∷ case (section 1) 0
    -- a group that isn't COMDAT; COMDAT groups of no section; of two and of one it is accepted
    ∷ case (group 0 1) 4
    ∷ case (group 8 0) 5
    ∷ case (group 8 2) 0
    ∷ case (group 8 1) 0
    -- internal and protected
    ∷ case (symbol stb_global stv_internal stt_func 1) 10
    ∷ case (symbol stb_global stv_protected stt_func 1) 10
    -- a hidden local
    ∷ case (symbol stb_local stv_hidden stt_func 1) 11
    -- bindings that are left to the system (10) and to the processor (13)
    ∷ case (symbol 10 stv_default stt_func 1) 12
    ∷ case (symbol 13 stv_default stt_func 1) 12
    -- a local common symbol
    ∷ case (symbol stb_local stv_default stt_func shn_common) 13
    -- types common and thread-local, and one that is left to the system (10)
    ∷ case (symbol stb_global stv_default stt_common 1) 16
    ∷ case (symbol stb_global stv_default stt_tls 1) 16
    ∷ case (symbol stb_global stv_default 10 1) 16
    -- a function and a hidden one are accepted
    ∷ case (symbol stb_global stv_default stt_func 1) 0
    ∷ case (symbol stb_global stv_hidden stt_func 1) 0
    ∷ []
