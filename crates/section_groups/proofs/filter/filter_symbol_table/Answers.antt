use Rattle.std.proofs.Common.{◌≡◌, ◌∙◌, arith}
use Rattle.elf_object.specs.Rows.{rows_in}
use Rattle.elf_object.specs.Proof.Ways.{first-start, first_on, first-stop, first-end}
use Rattle.section_groups.specs.Filter.{filter_of}
use Rattle.section_groups.proofs.filter.filter_symbol_table.Goals as goal

pub loop-i-init : goal.loop-i-init
unfolding filter_of
loop-i-init c = first-start _ _

pub returns-then-not-symbol_ok-clause-first : goal.returns-then-not-symbol_ok-clause-first
returns-then-not-symbol_ok-clause-first c = search first-stop

pub loop-i-preserved : goal.loop-i-preserved
loop-i-preserved c = search first_on

pub returns-clause-first : goal.returns-clause-first
returns-clause-first c =
    let e : rows_in c.args.entries.now ≡ c.loop-i.i = omega arith in
    e ∙ first-end _ _ _ _ c.loop-i.invariant (omega arith)
