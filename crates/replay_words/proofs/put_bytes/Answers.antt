use Rattle.std.proofs.Common.{refl, rules, sym, ◌∙◌}
use lib.Seq.{set_out}
use Rattle.replay_words.specs.Proof.Ways.{put-start, put-more, put-end}
use Rattle.replay_words.proofs.put_bytes.Goals as goal
use Rattle.replay_words.proofs.put_bytes.Goals.{then-place-to, else-place-to}

pub loop-k-init : goal.loop-k-init
loop-k-init c = (put-start _ _ _ _, search rules)

pub loop-k-preserved : goal.loop-k-preserved
loop-k-preserved c =
    elim c.if-place-to.branch [
      | then-place-to w ↦ (put-more _ _ _ _ _ _ _ _ _ c.loop-k-test.true refl w.spelled.ensures w.to-is c.loop-k.invariant.0, search rules)
      | else-place-to w ↦
          (put-more _ _ _ _ _ _ _ _ _ c.loop-k-test.true refl refl (w.to-is ∙ sym (set_out _ _ _ w.if-place-to.false)) c.loop-k.invariant.0, search rules)
    ]

pub returns : goal.returns
returns c = search put-end
