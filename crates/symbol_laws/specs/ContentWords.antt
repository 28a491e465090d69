-- What a symbol's entry says of the row that it becomes, in document 01's words: type, weak and hidden, value. Words for statements, and what accepted rows
-- have of them.
-- Assumes nothing.
use Rattle.std.specs.Prelude.{ℕ, suc, ◌-◌, ◌^◌, ◌<◌, ◌≤◌, ◌≡◌, Bool, cond, not, ℤ, pos, negsuc, eqb}
use Rattle.gabi.specs.SymbolTable.{Sym, stb_global, stb_weak, stt_notype, stt_object, stt_func, stt_section, stt_file, stv_default, stv_hidden, shn_abs, shn_common}
use Rattle.symbol.specs.declared.SymbolType.{SymbolType}
use Rattle.symbol.specs.declared.SymbolType.TheVariants as Ty
use Rattle.symbol.specs.declared.SymbolVisibility.{SymbolVisibility}
use Rattle.symbol.specs.declared.SymbolVisibility.TheVariants.{Global}

-- ---- words

-- gABI's types 0 to 3. No row has another one (15, 16), though an add of one may be accepted that changes nothing
pub data IsType : ℕ → SymbolType → Type 0 where
  notype : IsType stt_notype Ty.NoType
  object : IsType stt_object Ty.Object
  function : IsType stt_func Ty.Function
  section : IsType stt_section Ty.Section
  other : {n : ℕ} {t : SymbolType} → stt_file ≤ n → IsType n t

-- "v below 2^63 stays v, others become v − 2^64"
pub data IsOffset (v : ℕ) : ℤ → Type 0 where
  stays : v < 2 ^ 63 → IsOffset v (pos v)
  becomes : 2 ^ 63 ≤ v → IsOffset v (negsuc (2 ^ 64 - suc v))

-- weak by its binding, hidden by its visibility
abbrev pub shows : Sym → SymbolVisibility
shows e = Global (eqb e.binding stb_weak) (eqb e.visibility stv_hidden)

-- an entry of a shared object. Each becomes external, so that a common one counts as any other definition. By the profile: "Adds from shared objects hide no
-- row", so in gABI's its visibility counts as the default
abbrev pub shared_entry : Bool → Sym → Sym
shared_entry gabi e =
    record {
      binding = e.binding;
      type = e.type;
      visibility = cond gabi stv_default e.visibility;
      section = cond (eqb e.section shn_common) shn_abs e.section;
      value = e.value;
    }

-- "visibility: 0 and 2 pass", and of an add that isn't local the binding is 1 or 2
pub record Admitted (e : Sym) : Type 0 where
  pub bound : eqb e.binding stb_global ≡ not (eqb e.binding stb_weak)
  pub seen : eqb e.visibility stv_default ≡ not (eqb e.visibility stv_hidden)
