use Rattle.std.proofs.Common.{◌∙◌, ap, rules}
use Rattle.interner.specs.Names.{Store}
use Rattle.merge_build.specs.Proof.BuildWays.{keep-lists}
use Rattle.merge_build.proofs.Builder.build_named.Goals as goal
use Rattle.merge_build.proofs.Builder.build_named.Goals.{else-known-via-then-known+else-not-lists_fit, else-known-via-else-known}

pub build_row-requires : goal.build_row-requires
build_row-requires c =
    rw (ap (λ (s : Store). s.link.lists) c.keep_at.ensures.kept ∙ keep-lists _ _ _ _)
    (elim c.else-known.branch [
      | else-known-via-then-known+else-not-lists_fit w ↦ search rules
      | else-known-via-else-known w ↦ search rules
    ])
