-- The two passes of the sweep as loops that write one value: which cells they write is settled before they begin.
-- Assumes nothing.
use Rattle.link.specs.declared.SectionId.{SectionId}
use Prim.Native.Nat.{ℕ, ◌+◌, ◌*◌}
use Rattle.std.specs.Prelude.{Bool, List, eqb, ltb, get_or, Option, None, Some}
use Rattle.std.proofs.Math.Bool.{false, cond}
use Rattle.link.specs.declared.Link.{Link}
use Rattle.symbol.specs.Row as Symbol
use Rattle.symbols.specs.Remove.{Rows, remove_row_of}
use Rattle.sections.specs.Rows.{is_built}
use Rattle.gc_sections.specs.Each.{each}
use Rattle.gc_sections.specs.Roots.{symbol_id, lead_of}
use Rattle.gc_sections.specs.Sweep.{Swept, swept_of, Purged, purged_of}
use Rattle.gc_laws.specs.Proof.Paint.{paint, picked}

abbrev pub state_cell : ℕ → ℕ
state_cell i = i * 8 + 0

abbrev pub itself : ℕ → ℕ
itself i = i

-- ---- the pass over the sections

-- built and not reached, before the pass
unfoldable pub doomed : ℕ → List ℕ → List ℕ → ℕ → Bool
doomed n sections work i = cond (is_built sections n i) (eqb (get_or work i 0) 0) false

abbrev pub sections_after : (ℕ → Bool) → ℕ → ℕ → Swept → Swept
sections_after p k i s =
    swept_of (each (paint p state_cell 3) k i s.sections) (each (paint p itself 2) k i s.work) (s.count + picked p k i)

-- ---- the pass over the symbols

-- a symbol goes if p takes the section that it lies in
abbrev pub taken : (ℕ → Bool) → Option SectionId → Bool
taken p None = false
taken p (Some x) = p x.0

unfoldable pub gone : (ℕ → Bool) → List ℕ → ℕ → ℕ → Bool
gone p symbols count i = taken p (lead_of symbols count (symbol_id i))

-- and takes its section's symbol with it
unfoldable pub takes_symbol : List ℕ → ℕ → ℕ → Bool
takes_symbol symbols cells i = cond (eqb (Symbol.field symbols i 5) 2) (ltb (Symbol.field symbols i 6) cells) false

unfoldable pub freed : (ℕ → Bool) → List ℕ → ℕ → ℕ → ℕ → Bool
freed p symbols count cells i = cond (gone p symbols count i) (takes_symbol symbols cells i) false

abbrev pub symbol_cell : List ℕ → ℕ → ℕ → ℕ
symbol_cell symbols cells i = cells * 8 + Symbol.field symbols i 6

-- symbol i is removed if p takes the section that it lies in; and without counting
unfoldable pub purge_if : (ℕ → Bool) → Link → ℕ → Purged → Purged
purge_if p l i s =
    cond (taken p (lead_of s.rows.symbols l.symbols (symbol_id i))) (purged_of (remove_row_of l s.rows (symbol_id i)) (s.count + 1)) s

unfoldable pub remove_if : (ℕ → Bool) → Link → ℕ → Rows → Rows
remove_if p l i x = cond (taken p (lead_of x.symbols l.symbols (symbol_id i))) (remove_row_of l x (symbol_id i)) x

module _ (l : Link) (symbols : List ℕ) (p : ℕ → Bool) where
  abbrev pub cells : ℕ
  cells = l.slots
