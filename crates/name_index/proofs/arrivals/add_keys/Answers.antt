use Rattle.std.proofs.Common.{arith, refl, sym, ap, ◌∙◌, ◌≡◌, ◌<◌, ◌+◌, ◌++◌, ◌∷◌, [], ℕ, List, take, map, set, get_or, length}
use Rattle.std.proofs.lemmas.List.{map-set, take_more, take_more_set, length-map}
use Rattle.name_index.specs.declared.arrivals.Keyed.{Keyed}
use Rattle.name_index.proofs.arrivals.add_keys.Goals as goal

abbrev id_of : Keyed → ℕ
id_of k = k.id

one-more : (keyed : List Keyed) (ids : List ℕ) (k : ℕ) (x : Keyed) → k < length keyed → k < length ids → x.id ≡ get_or ids k 0
    → take k (map id_of keyed) ≡ take k ids
    → take (k + 1) (map id_of (set keyed k x)) ≡ take (k + 1) ids
one-more keyed ids k x h g e i =
    ap (take (k + 1)) (map-set id_of keyed k x) ∙ take_more_set (map id_of keyed) k x.id (omega (arith, h, length-map keyed id_of))
    ∙ ap (λ (l : List ℕ). l ++ x.id ∷ []) i ∙ ap (λ (n : ℕ). take k ids ++ n ∷ []) e ∙ sym (take_more ids k 0 g)

pub loop-k-preserved : goal.loop-k-preserved
loop-k-preserved c =
    let r = c.requires in
    let a = c.loop-k.auto.keyed in
    let t = c.loop-k-test.true in
    one-more c.loop-k.keyed c.args.ids.now c.loop-k.k _ (omega (arith, r, a, t)) t refl c.loop-k.invariant
