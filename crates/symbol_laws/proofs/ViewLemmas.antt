-- Laws of the definitions of View.antt.
-- Assumes nothing.
use Rattle.std.proofs.Common.{arith}
use Rattle.std.specs.Prelude.{◌≡◌, refl, true}
use Rattle.cells.specs.Proof.Split.{by-test}
use Rattle.symbol.specs.declared.Row.{Row}
use Rattle.symbol.specs.Row.{scope_refused, scope_refusal}
use Rattle.symbol_resolution.specs.declared.rows.Holder.{Holder}
use Rattle.symbol_resolution.specs.declared.rows.Holder.TheVariants.{Unissued}
use Rattle.symbol_resolution.specs.Decide.{decide_of}
use Rattle.symbol_resolution.specs.Proof.Outcomes.{absent_under, is_local_row, scope-refused, name-absent, scope-number}
use Rattle.symbol_resolution.specs.Apply.{Table}
use Rattle.symbol_laws.proofs.View.{Refuses}

-- a scope that is refused, or an absent name
pub absent-refused : (t : Table) (r : Row) (h : Holder) → absent_under (is_local_row r) h ≡ true → Refuses (decide_of t.link t.symbols t.sections r h)
absent-refused t r h a =
    by-test (scope_refused r)
    (λ v.
    record {
      number = scope_refusal r;
      is = scope-refused t.link t.symbols t.sections r h v;
      real = scope-number t.link t.symbols t.sections r v;
    })
    (λ v. record { number = 21; is = name-absent t.link t.symbols t.sections r v h a; real = λ z. omega arith })

-- an unissued name is refused, whatever the row
pub unissued-refused : (t : Table) (r : Row) → Refuses (decide_of t.link t.symbols t.sections r Unissued)
unissued-refused t r = absent-refused t r Unissued refl
