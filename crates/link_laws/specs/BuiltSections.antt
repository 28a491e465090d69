-- A built section as a link's row has it, and which calls let it stand: all but a collection that doesn't reach it.
-- Assumes nothing.
use Rattle.link.specs.declared.SymbolId.{SymbolId}
use Rattle.std.specs.Prelude.{ℕ, ◌≡◌, List, [], ◌∷◌, Option, Ok}
use Rattle.gc_laws.specs.Reached as Relocations
use Rattle.merge_laws.specs.BuiltRow.{BuiltAs}
use Rattle.merge_laws.specs.Calls.{Linked}
use Rattle.link_laws.specs.Calls.{Call, intern, add, remove, add_group, merge, merge_file, load, collect, plain_collect, lists_in, call_left, call_next, reads, add_list}
use Rattle.gc_sections.specs.Run.{dropped}

-- row r of a link is a built section of that name, kind, flags, size, and names these symbols
abbrev pub SectionIn : Linked → ℕ → List ℕ → ℕ → ℕ → ℕ → ℕ → List ℕ → Type 0
SectionIn t r x kind retain read size ids =
    BuiltAs t.table.bytes t.table.names t.table.sections t.lists t.table.link r x kind retain read size ids

-- what a collection over the link reaches
abbrev pub ReachedIn : Linked → List ℕ → Option SymbolId → ℕ → Type 0
ReachedIn s marks entry r = Relocations.Reached s.table.link (lists_in s marks) s.table.symbols s.table.sections entry r

-- a collection that isn't refused reaches section r; other calls drop none
abbrev pub Spares : Call → Linked → ℕ → Type 0
Spares (intern x) s r = Unit {0}
Spares (reads k) s r = Unit {0}
Spares (add conversion u) s r = Unit {0}
Spares (add_list conversion adds ids) s r = Unit {0}
Spares (remove id) s r = Unit {0}
Spares (add_group o work n) s r = Unit {0}
Spares (merge o work ids) s r = Unit {0}
Spares (merge_file file cells work ids) s r = Unit {0}
Spares (load o marks) s r = Unit {0}
Spares (collect marks entry work) s r = (a b : ℕ) → (call_left (collect marks entry work) s).answer ≡ Ok (dropped a b) → ReachedIn s marks entry r
Spares (plain_collect marks entry work) s r = (a b : ℕ) → (call_left (plain_collect marks entry work) s).answer ≡ Ok (dropped a b) → ReachedIn s marks entry r

abbrev pub SparesAll : List Call → Linked → ℕ → Type 0
SparesAll [] s r = Unit {0}
SparesAll (k ∷ ks) s r = Spares k s r × SparesAll ks (call_next k s) r
