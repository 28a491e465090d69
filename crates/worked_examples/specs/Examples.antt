-- Document 01, "Marked for proof", with the add sheet and the example of "Bounds": rows of one list. Groups, and the
-- crates of the laws of walks and collections, say what their rows mean.
-- Assumes nothing.
use Rattle.link.specs.declared.cause.Refusal.{Refusal}
use Rattle.std.specs.Prelude.{ℕ, zero, suc, ◌+◌, ◌*◌, ◌-◌, ◌^◌, ◌≡◌, Bool, true, false, List, [], ◌∷◌, ℤ, pos, negsuc, length, replicate, Result, None, Ok}
use Rattle.link.specs.Said.{Said, accepted, refusing}
use Rattle.link.specs.Judge as Judge
use Rattle.gabi.specs.SymbolTable.{shn_common}
use Rattle.symbol.specs.declared.Symbol.{Symbol}
use Rattle.symbol.specs.declared.SymbolType.{SymbolType}
use Rattle.symbol.specs.declared.SymbolType.TheVariants as Ty
use Rattle.symbol.specs.declared.SymbolVisibility.{SymbolVisibility}
use Rattle.symbol.specs.declared.SymbolVisibility.TheVariants.{Local, Global}
use Rattle.symbol.specs.declared.SymbolValue.{SymbolValue}
use Rattle.symbol.specs.declared.SymbolValue.TheVariants as Val
use Rattle.symbol.specs.Offset.{offset_of}
use Rattle.upcoming_symbol.specs.declared.UpcomingSymbol.{UpcomingSymbol}
use Rattle.upcoming_symbol.specs.declared.UpcomingSymbol.TheVariants.{Elf, ExternallyDefined}
use Rattle.symbols.specs.Calls.{Left}
use Rattle.symbols.specs.New.{new_of}
use Rattle.symbols.specs.Lookup.{get_of}
use Rattle.archive_laws.specs.Examples as Walks
use Rattle.gc_laws.specs.Examples as Collections
use Rattle.plain_laws.specs.Examples as PlainCollections
use Rattle.worked_examples.specs.Groups as Groups
use Rattle.symbol_laws.specs.History.{State, with_table, opened, call_next, intern, add_to}

-- ---- the table that the examples start from

-- so many symbol rows lent; the names mute and clear have ids 1 and 2
abbrev pub mute : List ℕ
mute = 109 ∷ 117 ∷ 116 ∷ 101 ∷ []

abbrev pub clear : List ℕ
clear = 99 ∷ 108 ∷ 101 ∷ 97 ∷ 114 ∷ []

unfoldable pub start : Bool → ℕ → State
start profile n =
    call_next (intern clear)
    (call_next (intern mute)
    (opened (new_of 0 profile (replicate {A = ℕ} 16 0) (replicate {A = ℕ} 27 0) (replicate {A = ℕ} (n * 8) 0) (replicate {A = ℕ} 90 0))))

-- the profiles
abbrev pub old : Bool
old = false

abbrev pub gabi : Bool
gabi = true

-- ---- a line of a sheet

-- name, binding, visibility, type, section, value
abbrev pub line : ℕ → ℕ → ℕ → ℕ → ℕ → ℕ → UpcomingSymbol
line n b v k s x = Elf (record { binding = b; visibility = v; kind = k; section = s; value = x; size = 0 }) (record { 0 = n }) None

-- a common: name, binding, visibility, type, alignment, size
abbrev pub common : ℕ → ℕ → ℕ → ℕ → ℕ → ℕ → UpcomingSymbol
common n b v k alignment size = Elf (record { binding = b; visibility = v; kind = k; section = shn_common; value = alignment; size = size }) (record { 0 = n }) None

-- what a shared object defines: name, binding, visibility
abbrev pub shared : ℕ → ℕ → ℕ → UpcomingSymbol
shared n b v = ExternallyDefined (record { 0 = n }) v b

-- "Sections 1 to 9 have ids 1 to 9"; section 10 isn't loaded
abbrev pub sections : List ℕ
sections = 0 ∷ 3 ∷ 4 ∷ 5 ∷ 6 ∷ 7 ∷ 8 ∷ 9 ∷ 10 ∷ 11 ∷ 1 ∷ []

abbrev pub added : UpcomingSymbol → State → Left
added u s = add_to s sections u

-- what each line answers, and the table at the end, row by row
abbrev pub answers : List UpcomingSymbol → State → List Said
answers [] s = []
answers (u ∷ us) s = (added u s).said ∷ answers us (with_table s (added u s).table)

abbrev pub after : List UpcomingSymbol → State → State
after [] s = s
after (u ∷ us) s = after us (with_table s (added u s).table)

abbrev pub rows_from : ℕ → ℕ → State → List (Result Symbol Refusal)
rows_from i zero s = []
rows_from i (suc n) s = get_of s.link s.symbols (record { 0 = i }) ∷ rows_from (i + 1) n s

abbrev pub found : List Symbol → List (Result Symbol Refusal)
found [] = []
found (x ∷ xs) = Ok x ∷ found xs

-- ---- the list

pub data Case : Type 0 where
  -- profile, symbol rows lent, the sheet, its answers, and the whole table then
  adds : Bool → ℕ → List UpcomingSymbol → List Said → List Symbol → Case
  -- the same in both profiles
  both : ℕ → List UpcomingSymbol → List Said → List Symbol → Case
  -- a value in a section, and its offset
  offset : ℕ → ℤ → Case
  group : Groups.Example → Case
  walk : Walks.Example → Case
  collection : Collections.Example → Case
  plain_collection : Collections.Example → Case

abbrev pub Adds : Bool → ℕ → List UpcomingSymbol → List Said → List Symbol → Type 0
Adds profile n us said table =
    (answers us (start profile n) ≡ said) × ((after us (start profile n)).link.symbols ≡ length table) × (rows_from 0 (length table) (after us (start profile n)) ≡ found table)

abbrev pub Right : Case → Type 0
Right (adds profile n us said table) = Adds profile n us said table
Right (both n us said table) = Adds old n us said table × Adds gabi n us said table
Right (offset v z) = offset_of v ≡ z
Right (group e) = Groups.Right e
Right (walk e) = Walks.Right e
Right (collection e) = Collections.Right e
Right (plain_collection e) = PlainCollections.Right e

abbrev pub symbol : ℕ → ℕ → SymbolType → SymbolVisibility → SymbolValue → Symbol
symbol i n k w v = record { id = record { 0 = i }; name = record { 0 = n }; kind = k; file = None; visibility = w; value = v; size = 0 }

-- a common of that alignment and size
abbrev pub common_row : ℕ → ℕ → SymbolType → SymbolVisibility → ℕ → ℕ → Symbol
common_row i n k w alignment size = record { id = record { 0 = i }; name = record { 0 = n }; kind = k; file = None; visibility = w; value = Val.Common alignment; size = size }

abbrev pub null : Symbol
null = symbol 0 0 Ty.NoType Local Val.Null

abbrev pub strong : SymbolVisibility
strong = Global false false

abbrev pub weak : SymbolVisibility
weak = Global true false

abbrev pub hidden : SymbolVisibility
hidden = Global false true

abbrev pub relative : ℕ → ℕ → SymbolValue
relative s x = Val.SectionRelative (record { 0 = s }) (pos x)

abbrev pub refused : ℕ → Said
refused n = refusing (Judge.refused n 0)

abbrev pub cases : List Case
cases =
    -- P1: the sheet's rows 1 and 2
    both 4 (line 1 2 0 2 1 16 ∷ line 1 1 0 2 2 0 ∷ []) (accepted 1 ∷ accepted 1 ∷ []) (null ∷ symbol 1 1 Ty.Function strong (relative 2 0) ∷ [])
    -- P2: strong then weak, not hidden, no two commons: unchanged
    ∷ both 4 (line 1 1 0 2 2 0 ∷ line 1 2 0 2 1 16 ∷ []) (accepted 1 ∷ accepted 1 ∷ []) (null ∷ symbol 1 1 Ty.Function strong (relative 2 0) ∷ [])
    -- P3: the offset of 2^63 is -2^63
    ∷ offset (2 ^ 63) (negsuc (2 ^ 63 - 1))
    -- P4: the offset of 2^63 - 1 is itself
    ∷ offset (2 ^ 63 - 1) (pos (2 ^ 63 - 1))
    -- P5: local internal
    ∷ both 4 (line 1 0 1 0 1 0 ∷ []) (refused 10 ∷ []) (null ∷ [])
    -- P6: local hidden
    ∷ both 4 (line 1 0 2 0 1 0 ∷ []) (refused 11 ∷ []) (null ∷ [])
    -- P7: weak then strong reference: weak
    ∷ adds old 4 (line 1 2 0 0 0 0 ∷ line 1 1 0 0 0 0 ∷ []) (accepted 1 ∷ accepted 1 ∷ []) (null ∷ symbol 1 1 Ty.NoType weak (Val.Undefined true) ∷ [])
    -- 2026-07: strong, with all of its content; a further weak reference, or a strong one, changes nothing
    ∷ adds gabi 4 (line 1 2 0 0 0 0 ∷ line 1 1 0 2 0 0 ∷ line 1 2 0 0 0 0 ∷ line 1 1 0 1 0 0 ∷ []) (accepted 1 ∷ accepted 1 ∷ accepted 1 ∷ accepted 1 ∷ [])
    (null ∷ symbol 1 1 Ty.Function strong (Val.Undefined false) ∷ [])
    -- the add's hidden with it
    ∷ adds gabi 4 (line 1 2 0 0 0 0 ∷ line 1 1 2 0 0 0 ∷ []) (accepted 1 ∷ accepted 1 ∷ []) (null ∷ symbol 1 1 Ty.NoType hidden (Val.Undefined false) ∷ [])
    -- a weak definition stays
    ∷ both 4 (line 1 2 0 2 1 0 ∷ line 1 1 0 0 0 0 ∷ []) (accepted 1 ∷ accepted 1 ∷ []) (null ∷ symbol 1 1 Ty.Function weak (relative 1 0) ∷ [])
    -- P8: non-COMDAT, zero sections: 4; COMDAT: 5
    ∷ group Groups.p8
    ∷ group Groups.p8_comdat
    -- P9: undefined of type 4 under a known name is accepted; new: 15
    ∷ both 4 (line 1 1 0 2 1 0 ∷ line 1 1 0 4 0 0 ∷ line 2 1 0 4 0 0 ∷ []) (accepted 1 ∷ accepted 1 ∷ refused 15 ∷ [])
    (null ∷ symbol 1 1 Ty.Function strong (relative 1 0) ∷ [])
    -- but for "a strong type 4 reference to a weak undefined name, which gets 15" in the gABI profile; above 4: 16
    ∷ adds old 4 (line 1 2 0 0 0 0 ∷ line 1 1 0 4 0 0 ∷ line 1 1 0 10 0 0 ∷ []) (accepted 1 ∷ accepted 1 ∷ accepted 1 ∷ []) (null ∷ symbol 1 1 Ty.NoType weak (Val.Undefined true) ∷ [])
    ∷ adds gabi 4 (line 1 2 0 0 0 0 ∷ line 1 1 0 4 0 0 ∷ line 1 1 0 10 0 0 ∷ []) (accepted 1 ∷ refused 15 ∷ refused 16 ∷ []) (null ∷ symbol 1 1 Ty.NoType weak (Val.Undefined true) ∷ [])
    -- P10: one name to A and B, undefined: both are offered
    ∷ walk Walks.p10
    ∷ walk (Walks.p10_in true)
    -- P11: one useless member: 2 passes
    ∷ walk Walks.p11
    ∷ walk (Walks.p11_in true)
    -- a weak reference: in the old profile it ties its member, in the gABI profile none
    ∷ walk Walks.weak_ties
    ∷ walk Walks.weak_ties_none
    -- P12: two unrooted sections naming each other: both dropped
    ∷ collection Collections.p12
    -- and by the plain collector
    ∷ plain_collection Collections.p12
    -- the add sheet
    ∷ both 4 (line 1 2 0 2 1 16 ∷ line 1 1 0 2 2 0 ∷ line 1 1 0 2 0 0 ∷ line 2 2 0 0 0 0 ∷ line 1 1 0 2 3 0 ∷ [])
    (accepted 1 ∷ accepted 1 ∷ accepted 1 ∷ accepted 2 ∷ refused 17 ∷ [])
    (null ∷ symbol 1 1 Ty.Function strong (relative 2 0) ∷ symbol 2 2 Ty.NoType weak (Val.Undefined true) ∷ [])
    -- "hidden isn't passed on to another holder"; in the gABI profile it is
    ∷ adds old 4 (line 1 2 2 2 1 0 ∷ line 1 1 0 2 2 0 ∷ []) (accepted 1 ∷ accepted 1 ∷ []) (null ∷ symbol 1 1 Ty.Function strong (relative 2 0) ∷ [])
    ∷ adds gabi 4 (line 1 2 2 2 1 0 ∷ line 1 1 0 2 2 0 ∷ []) (accepted 1 ∷ accepted 1 ∷ []) (null ∷ symbol 1 1 Ty.Function hidden (relative 2 0) ∷ [])
    -- ruled out: "checking type before the duplicate"
    ∷ both 4 (line 1 1 0 2 1 0 ∷ line 1 1 0 4 2 0 ∷ []) (accepted 1 ∷ refused 17 ∷ []) (null ∷ symbol 1 1 Ty.Function strong (relative 1 0) ∷ [])
    -- ruled out: "reading "not loaded" as undefined"
    ∷ both 4 (line 1 1 0 2 10 0 ∷ line 1 1 0 2 1 0 ∷ []) (accepted 1 ∷ refused 17 ∷ []) (null ∷ symbol 1 1 Ty.Function strong Val.SectionNotLoaded ∷ [])
    -- "Two rows lent: null and one undefined name fit, a second name gets 2, a definition of the first name is accepted"
    ∷ both 2 (line 1 1 0 0 0 0 ∷ line 2 1 0 0 0 0 ∷ line 1 1 0 2 1 0 ∷ []) (accepted 1 ∷ refused 2 ∷ accepted 1 ∷ [])
    (null ∷ symbol 1 1 Ty.Function strong (relative 1 0) ∷ [])
    -- hidden: a hidden reference, then a definition that isn't
    ∷ adds old 4 (line 1 1 2 0 0 0 ∷ line 1 1 0 2 2 0 ∷ []) (accepted 1 ∷ accepted 1 ∷ []) (null ∷ symbol 1 1 Ty.Function strong (relative 2 0) ∷ [])
    ∷ adds gabi 4 (line 1 1 2 0 0 0 ∷ line 1 1 0 2 2 0 ∷ []) (accepted 1 ∷ accepted 1 ∷ []) (null ∷ symbol 1 1 Ty.Function hidden (relative 2 0) ∷ [])
    -- a definition, then a hidden weak one: unchanged, but in the gABI profile hidden
    ∷ adds old 4 (line 1 1 0 2 2 0 ∷ line 1 2 2 2 1 0 ∷ []) (accepted 1 ∷ accepted 1 ∷ []) (null ∷ symbol 1 1 Ty.Function strong (relative 2 0) ∷ [])
    ∷ adds gabi 4 (line 1 1 0 2 2 0 ∷ line 1 2 2 2 1 0 ∷ []) (accepted 1 ∷ accepted 1 ∷ []) (null ∷ symbol 1 1 Ty.Function hidden (relative 2 0) ∷ [])
    -- a shared object's hidden definition, of a new name
    ∷ adds old 4 (shared 1 1 2 ∷ []) (accepted 1 ∷ []) (null ∷ symbol 1 1 Ty.NoType hidden Val.ExternallyDefined ∷ [])
    ∷ adds gabi 4 (shared 1 1 2 ∷ []) (accepted 1 ∷ []) (null ∷ symbol 1 1 Ty.NoType strong Val.ExternallyDefined ∷ [])
    -- an object's hidden reference, then a shared object's definition
    ∷ adds old 4 (line 1 1 2 0 0 0 ∷ shared 1 1 0 ∷ []) (accepted 1 ∷ accepted 1 ∷ []) (null ∷ symbol 1 1 Ty.NoType strong Val.ExternallyDefined ∷ [])
    ∷ adds gabi 4 (line 1 1 2 0 0 0 ∷ shared 1 1 0 ∷ []) (accepted 1 ∷ accepted 1 ∷ []) (null ∷ symbol 1 1 Ty.NoType hidden Val.ExternallyDefined ∷ [])
    -- a refused add hides nothing
    ∷ both 4 (line 1 1 0 2 1 0 ∷ line 1 1 2 2 2 0 ∷ []) (accepted 1 ∷ refused 17 ∷ []) (null ∷ symbol 1 1 Ty.Function strong (relative 1 0) ∷ [])
    -- 2026-06, commons. Two: "the first common's other content, the larger size and the larger alignment"; the second's type, 9, isn't checked
    ∷ both 4 (common 1 1 0 1 4 4 ∷ common 1 1 0 9 2 8 ∷ []) (accepted 1 ∷ accepted 1 ∷ []) (null ∷ common_row 1 1 Ty.Object strong 4 8 ∷ [])
    -- "it displaces a weak one", its type checked
    ∷ both 4 (line 1 2 0 2 1 0 ∷ common 1 1 0 9 8 4 ∷ common 1 1 0 1 8 4 ∷ []) (accepted 1 ∷ refused 16 ∷ accepted 1 ∷ []) (null ∷ common_row 1 1 Ty.Object strong 8 4 ∷ [])
    -- "alignment zero or no power of two" 28, under any holder
    ∷ both 4 (line 1 2 0 2 1 0 ∷ common 1 1 0 1 3 4 ∷ common 1 2 0 1 0 4 ∷ common 2 1 0 1 0 4 ∷ []) (accepted 1 ∷ refused 28 ∷ refused 28 ∷ refused 28 ∷ [])
    (null ∷ symbol 1 1 Ty.Function weak (relative 1 0) ∷ [])
    -- "a weak definition doesn't displace it", nor does a reference of any type
    ∷ both 4 (common 1 1 0 1 4 4 ∷ line 1 2 0 2 1 0 ∷ line 1 1 0 9 0 0 ∷ []) (accepted 1 ∷ accepted 1 ∷ accepted 1 ∷ []) (null ∷ common_row 1 1 Ty.Object strong 4 4 ∷ [])
    -- a definition that is no common takes its row; under it a common "is accepted unchanged", whatever its type
    ∷ both 4 (common 1 1 0 1 4 4 ∷ line 1 1 0 2 1 0 ∷ common 1 1 0 9 64 64 ∷ line 1 1 0 2 2 0 ∷ []) (accepted 1 ∷ accepted 1 ∷ accepted 1 ∷ refused 17 ∷ [])
    (null ∷ symbol 1 1 Ty.Function strong (relative 1 0) ∷ [])
    -- but 28 comes first
    ∷ both 4 (line 1 1 0 2 1 0 ∷ common 1 1 0 1 0 4 ∷ []) (accepted 1 ∷ refused 28 ∷ []) (null ∷ symbol 1 1 Ty.Function strong (relative 1 0) ∷ [])
    -- "global or weak common": one rank, and the row stays weak
    ∷ both 4 (common 1 2 0 0 1 1 ∷ common 1 1 0 0 2 2 ∷ []) (accepted 1 ∷ accepted 1 ∷ []) (null ∷ common_row 1 1 Ty.NoType weak 2 2 ∷ [])
    ∷ both 4 (line 1 2 0 2 1 0 ∷ common 1 2 0 1 4 4 ∷ []) (accepted 1 ∷ accepted 1 ∷ []) (null ∷ common_row 1 1 Ty.Object weak 4 4 ∷ [])
    -- a local one 13, after the binding
    ∷ both 4 (common 1 0 0 1 4 4 ∷ common 1 3 0 1 4 4 ∷ common 1 1 0 1 16 4 ∷ []) (refused 13 ∷ refused 12 ∷ accepted 1 ∷ []) (null ∷ common_row 1 1 Ty.Object strong 16 4 ∷ [])
    -- under a shared object's definition
    ∷ both 4 (shared 1 1 0 ∷ common 1 1 0 1 4 4 ∷ []) (accepted 1 ∷ accepted 1 ∷ []) (null ∷ symbol 1 1 Ty.NoType strong Val.ExternallyDefined ∷ [])
    -- "Hidden passes as before"
    ∷ adds old 4 (common 1 1 0 1 4 4 ∷ common 1 1 2 1 8 8 ∷ []) (accepted 1 ∷ accepted 1 ∷ []) (null ∷ common_row 1 1 Ty.Object strong 8 8 ∷ [])
    ∷ adds gabi 4 (common 1 1 0 1 4 4 ∷ common 1 1 2 1 8 8 ∷ []) (accepted 1 ∷ accepted 1 ∷ []) (null ∷ common_row 1 1 Ty.Object hidden 8 8 ∷ [])
    ∷ []

abbrev pub All : (Case → Type 0) → List Case → Type 0
All P [] = Unit {0}
All P (x ∷ xs) = P x × All P xs
