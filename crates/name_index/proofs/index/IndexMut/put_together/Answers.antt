use Rattle.std.proofs.Common.{arith, subst, sym, ap, ◌∙◌, ◌+◌, ◌-◌, ◌≡◌, ℕ, List, length, get_or, set}
use Rattle.std.specs.List.{copy_within}
use Rattle.name_index.specs.Index.{index_of}
use Rattle.name_index.specs.Proof.Moves.{Moved, moved-more, moved-all}
use Rattle.name_index.proofs.index.IndexMut.put_together.Goals as goal

pub loop-left-preserved : goal.loop-left-preserved
loop-left-preserved c =
    let l = c.loop-left-test.true in
    let e : c.loop-left.left ≡ c.loop-left.left - 1 + 1 = omega (arith, l) in
    let m = subst (Moved c.args.self.now.places.now c.args.self.now.count c.args.ids.now c.args.found.now c.loop-left.self.places.now c.loop-left.high) e
    c.loop-left.invariant.2 in
    let k = c.loop-left.left - 1 in
    let old = c.args.self.now.places.now in
    let count = c.args.self.now.count in
    let now = c.loop-left.self.places.now in
    let place = get_or c.args.found.now k 0 in
    let a : c.copy_within.new.self ≡ copy_within now place c.loop-left.high (place + (k + 1)) =
    c.copy_within.ensures.after ∙ ap (λ (n : ℕ). copy_within now place c.loop-left.high (place + n)) e in (
      c.loop-left.invariant.0,
      c.loop-left.invariant.1,
      subst (λ (l : List ℕ). Moved old count c.args.ids.now c.args.found.now (set l (place + k) (get_or c.args.ids.now k 0)) place k) (sym a)
          (moved-more old count c.args.ids.now c.args.found.now c.requires.room c.requires.rising now c.loop-left.high k m),
    )

pub returns-clause-put : goal.returns-clause-put
returns-clause-put c =
    let e : c.loop-left.left ≡ 0 = let t = c.loop-left-test.false in omega (arith, t) in
    let old = c.args.self.now.places.now in
    let count = c.args.self.now.count in
    let m = subst (Moved old count c.args.ids.now c.args.found.now c.loop-left.self.places.now c.loop-left.high) e c.loop-left.invariant.2 in
    ap (λ (n : ℕ). index_of c.loop-left.self.places.now (n + length c.args.ids.now)) c.loop-left.invariant.1
    ∙ moved-all old count c.args.ids.now c.args.found.now c.requires.room c.requires.rising c.loop-left.self.places.now c.loop-left.high m
