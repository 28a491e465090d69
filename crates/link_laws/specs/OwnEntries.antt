-- The gABI symbols that the inputs' own entries are: of an object, a library or a direct add from which a row of a history's log is.
-- Assumes nothing.
use Prim.Native.Nat.{ℕ}
use Rattle.std.specs.Prelude.{Bool, cond, ◌&&◌, ltb}
use mathlib.Core.List.{List, [], ◌∷◌, ◌++◌}
use Rattle.gabi.specs.SymbolTable.{Sym, stb_global, stv_default, stv_hidden, shn_undef, shn_abs, shn_common, shn_loreserve}
use Rattle.gabi.specs.Groups.{undefine}
use Rattle.symbol.specs.declared.Row.{Row}
use Rattle.upcoming_symbol.specs.declared.UpcomingSymbol.{UpcomingSymbol}
use Rattle.symbol_laws.specs.Rank as Rank
use Rattle.symbol_laws.specs.ObjectWords.{entry}
use Rattle.symbol_laws.specs.ContentWords.{shared_entry}
use Rattle.symbol_laws.specs.DirectContents as Direct
use Rattle.symbol_laws.specs.DirectContents.{FromAdd, is_undefined, is_common_value, symbol_of}
use Rattle.merge_stages.specs.Stages as Stages
use Rattle.merge_laws.specs.MergeWords as Words
use Rattle.merge_laws.specs.ObjectContents as Objects
use Rattle.merge_laws.specs.Calls.{Linked, all_in}
use Rattle.link_laws.specs.Calls.{Call, intern, add, remove, add_group, merge, merge_file, load, collect, plain_collect, call_next, reads, add_list}
use Rattle.elf_laws.specs.Object as ElfFile
use Rattle.link_laws.specs.Kept.{signatures}
use Rattle.link_laws.specs.Contents.{FromCall, FromCalls, here, later}

-- of an object: undefined by now, as the gABI has it, if a repeated group lists its section
abbrev pub object_entry : (o : Stages.Object) (a : Stages.All) (met : List (List ℕ)) → ℕ → Sym
object_entry o a met i =
    let table = Words.symbols_of o.headers o.entries o.contents o.image in
    cond (ltb (entry table i).section shn_loreserve && Objects.is_discarded o.headers o.entries o.contents o.image a.stage.link.sections met table i) (undefine (entry table i)) (entry table i)

-- of a direct add, ExternallyDefined as a shared object's: a definition other than an Elf symbol's counts as absolute, if it isn't common
abbrev pub add_entry : {gabi : Bool} {conversion : List ℕ} {empty : Bool} {r : Row} {u : UpcomingSymbol} → FromAdd gabi conversion empty r u → Sym
add_entry (Direct.unknown name a b c d) = symbol_of stb_global 0 stv_default shn_undef 0
add_entry (Direct.hidden name value a b c d e f) = symbol_of stb_global 0 stv_hidden (cond (is_undefined value) shn_undef (cond (is_common_value value) shn_common shn_abs)) 0
add_entry {gabi} (Direct.external name visibility binding p a b c d) = shared_entry gabi (symbol_of binding 0 visibility shn_abs 0)
add_entry (Direct.elf e name file p a b c d) = symbol_of e.binding e.kind e.visibility e.section e.value

abbrev pub call_entry : (k : Call) (s : Linked) (met : List (List ℕ)) (r : Row) → FromCall k s met r → Sym
call_entry (intern x) s met r p = absurd p
call_entry (reads k) s met r p = absurd p
call_entry (add conversion u) s met r p = add_entry p
call_entry (add_list conversion adds ids) s met r p = add_entry p.from
call_entry (remove id) s met r p = absurd p
call_entry (add_group o work n) s met r p = absurd p
call_entry (merge o work ids) s met r p = object_entry o (all_in s work ids) met p.number
call_entry (merge_file file cells work ids) s met r p = object_entry (ElfFile.rows_of file) (all_in s work ids) met p.1.number
call_entry (load o marks) s met r p = shared_entry s.table.link.gabi (entry o.entries p.number)
call_entry (collect marks entry work) s met r p = absurd p
call_entry (plain_collect marks entry work) s met r p = absurd p

-- the entry that a row is from
abbrev pub entry_of : (r : Row) (ks : List Call) (s : Linked) (met : List (List ℕ)) → FromCalls r ks s met → Sym
entry_of r [] s met p = elim p [ ]
entry_of r (k ∷ ks) s met (here p) = call_entry k s met r p
entry_of r (k ∷ ks) s met (later p) = entry_of r ks (call_next k s) (met ++ signatures (k ∷ []) s) p

module _ (ks : List Call) (s : Linked) (met : List (List ℕ)) where
  abbrev pub AllFrom : List Row → Type 0
  AllFrom rs = Rank.All (λ r. FromCalls r ks s met) rs

  -- the entries of several
  abbrev pub entries_of : (rs : List Row) → AllFrom rs → List Sym
  entries_of [] p = []
  entries_of (r ∷ rs) p = entry_of r ks s met p.0 ∷ entries_of rs p.1
