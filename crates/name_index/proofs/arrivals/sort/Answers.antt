use Rattle.std.proofs.Common.{sym, subst, ◌∙◌, ℕ, List, take, map, length, IsPermutation}
use Rattle.std.proofs.lemmas.List.{take-map}
use Rattle.std.proofs.lemmas.List.Sorted.{IsPermutation-map}
use Rattle.name_index.specs.declared.arrivals.Keyed.{Keyed}
use Rattle.name_index.proofs.arrivals.sort.Goals as goal

abbrev id_of : Keyed → ℕ
id_of k = k.id

pub returns : goal.returns
returns c =
    subst (λ (l : List ℕ). IsPermutation l c.take_ids.new.ids) (sym (take-map id_of (length c.args.ids.now) c.add_keys.new.keyed) ∙ c.add_keys.ensures.ids)
    (subst (IsPermutation (map id_of (take (length c.args.ids.now) c.add_keys.new.keyed))) (sym c.take_ids.ensures)
    (IsPermutation-map id_of (take (length c.args.ids.now) c.add_keys.new.keyed) c.sort_unstable_by.new.self c.sort_unstable_by.ensures.permutation))
