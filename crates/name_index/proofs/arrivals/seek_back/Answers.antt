use Rattle.std.proofs.Common.{sym, ap, ◌∙◌, ◌-◌, ◌≡◌, ℕ, List, get_or}
use Rattle.std.specs.declared.cmp.Ordering.{Ordering}
use Rattle.name_index.specs.Named.{Rows, rows_in, name_of_row}
use Rattle.name_index.specs.Proof.Order.{order}
use Rattle.name_index.specs.Proof.Finding.{past-more, past-less}
use Rattle.name_index.proofs.arrivals.seek_back.Goals as goal

stood : (r : Rows) (i : ℕ) (x name : List ℕ) (o p : Ordering) → x ≡ name_of_row r i → p ≡ order x name → p ≡ o → order (name_of_row r i) name ≡ o
stood r i x name o p e f g = sym (ap (λ (n : List ℕ). order n name) e) ∙ sym f ∙ g

pub loop-step-preserved : goal.loop-step-preserved
loop-step-preserved c =
    past-more (rows_in c.args.rows) c.args.places.now c.args.name.now c.requires.sorted _ _ c.loop-step.invariant c.loop-step-test.true
    (stood (rows_in c.args.rows) (get_or c.args.places.now (c.loop-step.high - c.loop-step.step) 0) _ c.args.name.now _ _ c.name_at.ensures c.cmp.ensures
    c.in-Greater.is)

pub seek_from-requires-clause-part : goal.seek_from-requires-clause-part
seek_from-requires-clause-part c =
    past-less (rows_in c.args.rows) c.args.places.now c.args.name.now c.requires.sorted _ _ c.loop-step.invariant c.loop-step-test.true
    (stood (rows_in c.args.rows) (get_or c.args.places.now (c.loop-step.high - c.loop-step.step) 0) _ c.args.name.now _ _ c.name_at.ensures c.cmp.ensures
    c.in-Less.is)
