-- The Rust drops one section after the other, by ascending id, and scans all symbols for each. One pass over the symbols leaves the same in every cell.
-- Assumes nothing.
use Prim.Native.Nat.{ℕ}
use Rattle.std.specs.Prelude.{eqb}
use Rattle.std.proofs.Math.Bool.{Bool, cond}
use Rattle.link.specs.declared.Link.{Link}
use Rattle.symbols.specs.Remove.{Rows, rows_of}
use Rattle.sections.specs.Rows.{dropped_of}
use Rattle.gc_sections.specs.Each.{each}
use Rattle.gc_sections.specs.Roots.{section_id}
use Rattle.gc_laws.specs.Proof.Swept.{remove_if}

-- the symbols of section y, by ascending id
unfoldable pub purge_section : Link → ℕ → Rows → Rows
purge_section l y x = each (remove_if (λ (z : ℕ). eqb z y) l) l.symbols 0 x

-- section y, unless it is to be saved
unfoldable pub remove_section : Link → (ℕ → Bool) → ℕ → Rows → Rows
remove_section l unsaved y x = cond (unsaved y) (purge_section l y (rows_of x.symbols (dropped_of x.sections (section_id y)))) x

unfoldable pub by_section : Link → (ℕ → Bool) → Rows → Rows
by_section l unsaved x = each (remove_section l unsaved) l.sections 0 x
