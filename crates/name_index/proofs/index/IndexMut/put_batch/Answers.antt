use Rattle.std.proofs.Common.{arith, refl, ap, subst, ◌∙◌, ◌-◌, ◌≡◌, ◌≤◌, List, ℕ, length, length-take-le, take, IsPermutation}
use Rattle.std.proofs.lemmas.List.Sorted.{length_permutation}
use Rattle.name_index.specs.Named.{rows_in}
use Rattle.name_index.specs.Proof.Same.{found-rises, together}
use Rattle.name_index.proofs.index.IndexMut.put_batch.Goals as goal

short : (all ids sorted found : List ℕ) (n : ℕ) → length all ≡ 4096 → n ≤ length all → ids ≡ take n all → IsPermutation ids sorted → length found ≡ 4096
    → length sorted ≤ length found
short all ids sorted found n a h i p f =
    let e : length ids ≡ n = ap length i ∙ length-take-le n all h in
    omega (arith, a, h, f, e, length_permutation ids sorted p)

pub put_together-requires-clause-rising : goal.put_together-requires-clause-rising
put_together-requires-clause-rising c = found-rises _ _ _ _ (c.if-find_places.ensures.found refl)
    (short c.gather-count.new.ids _ c.sort.new.ids c.find_places.new.found c.gather-count.result c.gather-count.ensures.lent c.gather-count.ensures.within
    refl c.sort.ensures c.find_places.ensures.lent)

pub returns-then-find_places-clause-put : goal.returns-then-find_places-clause-put
returns-then-find_places-clause-put c =
    let f = c.if-find_places.ensures.found refl in
    let r = c.requires in
    c.put_together.ensures.put
    ∙ together (rows_in c.args.rows) _ c.args.from (c.args.to - c.args.from) _ _ r.orderly.sorted f.ranks
    (subst (λ (l : List ℕ). IsPermutation l c.sort.new.ids) c.gather-count.ensures.gathered c.sort.ensures) f.room
    (let o = r.forward in let n = r.small in omega (arith, o, n))
    (short c.gather-count.new.ids _ c.sort.new.ids c.find_places.new.found c.gather-count.result c.gather-count.ensures.lent c.gather-count.ensures.within
    refl c.sort.ensures c.find_places.ensures.lent) f.goes
