use Rattle.std.proofs.Common.{arith, refl, subst, ◌+◌, ◌-◌, ◌≡◌, ℕ, List, take}
use Rattle.name_index.specs.Named.{rows_in}
use Rattle.name_index.specs.Proof.Together.{Goes}
use Rattle.name_index.specs.Proof.Finding.{FoundFrom, finding-more}
use Rattle.name_index.proofs.arrivals.find_places.Goals as goal

pub loop-left-preserved : goal.loop-left-preserved
loop-left-preserved c =
    let l = c.loop-left-test.true in
    let r = rows_in c.args.rows in
    let places = c.args.places.now in
    let high = c.loop-left.high in
    let e : c.loop-left.left ≡ c.loop-left.left - 1 + 1 = omega (arith, l) in
    let f = subst (FoundFrom r places c.args.ids.now c.loop-left.found high) e c.loop-left.invariant in
    finding-more r places c.args.ids.now c.loop-left.found c.requires.ranks high (c.loop-left.left - 1) c.in-Some.place f
    (subst (λ (n : List ℕ). Goes r (take high places) n c.in-Some.place) c.name_at.ensures (c.in-Some.ensures _ refl))
