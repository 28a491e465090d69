use Rattle.text.specs.Proof.WritingWays.{puts_then}
use Rattle.replay_text.specs.RepliesAnswers.{pair_text, end_text, front_text, back_text, counts_text}
use Rattle.replay_text.proofs.replies.put_counts.Goals as goal

pub returns : goal.returns
unfolding counts_text front_text back_text pair_text end_text
returns c =
    puts_then _ _ _ _ _
    (puts_then _ _ _ _ _ c.put_numbered.ensures (puts_then _ _ _ _ _ c.put_numbered-2.ensures c.put_numbered-3.ensures))
    (puts_then _ _ _ _ _ (puts_then _ _ _ _ _ c.put_numbered-4.ensures c.put_numbered-5.ensures)
    (puts_then _ _ _ _ _ c.put_numbered-6.ensures c.put_broken.ensures))
