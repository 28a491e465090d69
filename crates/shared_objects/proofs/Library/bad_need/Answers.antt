use Rattle.std.proofs.Common.{◌∙◌, sym, ap, rules, tests, not, length}
use Rattle.std.proofs.lemmas.Iterator.{YieldsList-from_slice}
use Rattle.std.proofs.lemmas.Iterator.Search.{position_from_yields_List}
use Rattle.gabi.specs.StringTable.{has_name}
use Rattle.elf_object.specs.Judge.{found_below}
use Rattle.shared_objects.specs.Proof.Ways.{need-position}
use Rattle.shared_objects.proofs.Library.bad_need.Goals as goal

pub returns : goal.returns
returns c =
    let o = c.args.self.now in
    position_from_yields_List (λ offset. not (has_name o.file.now offset)) _ _ c.position.result c.position.ensures.ran
    (YieldsList-from_slice o.needs.now cc) (λ x b q k. search (rules, tests))
    ∙ sym (ap (found_below (length o.needs.now)) (need-position o.file.now o.needs.now))
