use Rattle.lot_report.proofs.Title.judge.Goals as goal

pub returns : goal.returns
returns c = rw c.section_slots.ensures at c.judge.ensures
