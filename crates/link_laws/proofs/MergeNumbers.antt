-- The refusals of a merge.
-- Assumes nothing.
use Rattle.std.specs.Prelude.{◌≡◌, refl, true, ◌∷◌, eqb}
use Rattle.std.proofs.Common.{ap, eqb-true}
use Rattle.std.proofs.lemmas.Bool.{eqb-false}
use Rattle.cells.specs.Proof.Split.{by-test}
use Rattle.merge_stages.specs.Stages as Stages
use Rattle.merge_elf.specs.Merge as Merge
use Rattle.merge_elf.specs.Merge.{merge_of}
use Rattle.merge_laws.specs.Stops as Stops
use Rattle.merge_laws.specs.ByNumber as ByNumber
use Rattle.merge_laws.specs.ByNumber.{Between, Leaves, all_left, name_stays}
use Rattle.merge_laws.proofs.ByNumber.{head-leaves, refused-leaves, refused-breaks, accepted-stays}
use Rattle.link_laws.proofs.Among.{one-within, Among}
use Rattle.merge_laws.specs.Table.{within, merge_head_numbers}
use Rattle.link_laws.specs.Table.{merge_numbers}

module _ (o : Stages.Object) (a : Stages.All) where
  all-within : {b : Stages.All} (at : Between o a b) → within (all_left o a at) (0 ∷ merge_numbers) ≡ true
  all-within (ByNumber.sections n) = refl
  all-within (ByNumber.groups n) = refl
  all-within ByNumber.filter = refl
  all-within (ByNumber.symbols i) = refl
  all-within (ByNumber.uninitialized n) = refl
  all-within (ByNumber.program n) = refl
  all-within ByNumber.input = refl

  names-within : {b : Stages.All} (at : Between o a b) → within (name_stays o a at) (0 ∷ merge_numbers) ≡ true
  names-within (ByNumber.sections n) = refl
  names-within (ByNumber.groups n) = refl
  names-within ByNumber.filter = refl
  names-within (ByNumber.symbols i) = refl
  names-within (ByNumber.uninitialized n) = refl
  names-within (ByNumber.program n) = refl
  names-within ByNumber.input = refl

  stage-numbers : Leaves o a → Among merge_numbers (Stops.number o a)
  stage-numbers (ByNumber.all b at z k e) = one-within (Stops.number o a) (all_left o a at) (0 ∷ merge_numbers) (all-within at) k
  stage-numbers (ByNumber.but-its-name b at x z k e) = one-within (Stops.number o a) (name_stays o a at) (0 ∷ merge_numbers) (names-within at) k

  pub merge-numbers : Among merge_numbers (merge_of o a).said.number
  merge-numbers =
      by-test (eqb (Merge.head_in o a).number 0)
      (λ h.
      by-test (eqb (Stops.number o a) 0)
      (λ z. rw (ap (λ (x : Merge.Left). x.said.number) (accepted-stays o a (eqb-true _ _ h) (eqb-true _ _ z)).all))
      (λ z.
      rw (ap (λ (x : Merge.Left). x.said.number) (refused-breaks o a (eqb-true _ _ h) (eqb-false _ _ z)))
      (stage-numbers (refused-leaves o a (eqb-false _ _ z)))))
      (λ h.
      let e = head-leaves o a (eqb-false _ _ h) in
      rw (ap (λ (x : Merge.Left). x.said.number) e.all)
      (one-within (Merge.head_in o a).number merge_head_numbers (0 ∷ merge_numbers) refl e.number))
