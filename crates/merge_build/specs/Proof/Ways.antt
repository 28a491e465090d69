-- The ways through the functions.
-- Assumes nothing.
use Rattle.std.specs.Prelude.{◌≡◌}
use borrow.Author.Tests.{eq-eqb, ne_eqb}
use Rattle.elf_object.specs.Kinds.{program, uninitialized}
use Rattle.merge_build.specs.Build as Build
use Rattle.merge_build.specs.Finish.{BuildLinks, building, after_build, input_stage, program_stage, built_of}

module _ (o : Build.Object) (s t : BuildLinks) (b : Build.State) where
  pub first-stopped : b ≡ Build.build_of o (building s) uninitialized → (b.stage.number ≡ 0 → ⊥) → t ≡ after_build s b → t ≡ built_of o s
  unfolding built_of program_stage
  first-stopped e n q = simp (q, ← e, ne_eqb _ _ n)

  module _ (p : Build.State) where
    pub second-stopped : b ≡ Build.build_of o (building s) uninitialized → b.stage.number ≡ 0 → p ≡ Build.build_of o (building (after_build s b)) program
        → (p.stage.number ≡ 0 → ⊥) → t ≡ after_build (after_build s b) p → t ≡ built_of o s
    unfolding built_of program_stage input_stage
    second-stopped e z f n q = simp (q, ← e, eq-eqb _ _ z, ← f, ne_eqb _ _ n)

    pub both-built : b ≡ Build.build_of o (building s) uninitialized → b.stage.number ≡ 0 → p ≡ Build.build_of o (building (after_build s b)) program
        → t ≡ input_stage (after_build (after_build s b) p) → t ≡ built_of o s
    unfolding built_of program_stage
    both-built e z f q = simp (q, ← e, eq-eqb _ _ z, ← f)
