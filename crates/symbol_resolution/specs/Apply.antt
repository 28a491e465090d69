-- What a decision writes: the row, the name's global symbol, the section's symbol.
-- Assumes nothing.
use Rattle.std.specs.Prelude.{ℕ, ◌+◌, ◌*◌, Bool, cond, List, eqb, set, length, max}
use Rattle.cells.specs.Rows.{row_width}
use Rattle.link.specs.declared.Link.{Link}
use Rattle.link.specs.declared.SymbolId.{SymbolId}
use Rattle.link.specs.Counts.{with_symbols}
use Rattle.symbol.specs.declared.Row.{Row}
use Rattle.symbol.specs.Codes.{successor, words_are}
use Rattle.symbol.specs.Row.{scope_at, row_at, set_row, is_common}
use Rattle.symbol.specs.Hidden.{pass_hidden}
use Rattle.symbol.specs.Layout.{local, section_kind, symbol_cell}
use Rattle.symbol_resolution.specs.Decision.{Decision, Refuse, Nothing, Keep, Append, Replace, Amend}
use Rattle.symbol_resolution.specs.Decide.{section_cell}

-- the lent cells that an add may write, and the counts
pub record Table : Type 0 where
  pub names : List ℕ
  pub symbols : List ℕ
  pub sections : List ℕ
  pub link : Link

abbrev pub table_of : List ℕ → List ℕ → List ℕ → Link → Table
table_of n s x l = record { names = n; symbols = s; sections = x; link = l }

unfoldable pub note_name : List ℕ → Row → ℕ → List ℕ
note_name names r id = cond (eqb r.scope local) names (set names (r.name.0 * row_width + symbol_cell) id)

-- the symbol of section s, 0 for none; nothing is written where it has no cell
unfoldable pub set_section_symbol : Link → List ℕ → ℕ → ℕ → List ℕ
set_section_symbol l sections s symbol = set sections (section_cell l (length sections) s) symbol

-- "A local `Section` row becomes its section's symbol, the last one winning"
unfoldable pub note_section : Link → List ℕ → Row → ℕ → List ℕ
note_section l sections r id =
    cond (eqb r.scope local) (cond (eqb r.value.kind section_kind) (set_section_symbol l sections r.value.a id) sections) sections

unfoldable pub append_of : Table → Row → Table
append_of t r =
    table_of (note_name t.names r t.link.symbols) (set_row t.symbols (record { 0 = t.link.symbols }) r)
    (note_section t.link t.sections r t.link.symbols) (with_symbols t.link (successor t.link.symbols))

-- the add in the row's place, hidden too if the row was and hidden passes
unfoldable pub replaced_in : Bool → List ℕ → Row → SymbolId → List ℕ
replaced_in gabi symbols r id = set_row symbols id (pass_hidden gabi (scope_at symbols id.0) r)

-- "Two commons under a name keep the row's id, the first common's other content, the larger size and the larger alignment"
abbrev pub with_larger : Row → Row → Row
with_larger r add =
    record {
      name = r.name;
      kind = r.kind;
      file = r.file;
      scope = r.scope;
      value = words_are r.value.kind (max r.value.a add.value.a) r.value.b;
      size = max r.size add.size;
    }

unfoldable pub joined : Row → Row → Row
joined r add = cond (is_common r) (cond (is_common add) (with_larger r add) r) r

-- the row as it is, joined with the add if both are common; hidden too if the add is and hidden passes
unfoldable pub amended_in : Bool → List ℕ → Row → SymbolId → List ℕ
amended_in gabi symbols r id = set_row symbols id (pass_hidden gabi r.scope (joined (row_at symbols id.0) r))

abbrev pub applied : Table → Row → Decision → Table
applied t r (Refuse n) = t
applied t r Nothing = t
applied t r (Keep id) = t
applied t r Append = append_of t r
applied t r (Replace id) = table_of t.names (replaced_in t.link.gabi t.symbols r id) t.sections t.link
applied t r (Amend id) = table_of t.names (amended_in t.link.gabi t.symbols r id) t.sections t.link

unfoldable pub apply_of : Table → Row → Decision → Table
apply_of t r d = applied t r d
