use Rattle.text.specs.Proof.WritingWays.{puts_then}
use Rattle.replay_text.specs.Answers.{symbol_text, head_text, kind_text, held_text}
use Rattle.replay_text.proofs.put_symbol.Goals as goal

pub returns : goal.returns
unfolding symbol_text head_text kind_text held_text
returns c =
    puts_then _ _ _ _ _ (puts_then _ _ _ _ _ c.put_numbered.ensures (puts_then _ _ _ _ _ c.put.ensures c.put_name.ensures))
    (puts_then _ _ _ _ _ (puts_then _ _ _ _ _ c.put_visibility.ensures c.put_type.ensures) (puts_then _ _ _ _ _ c.put_file.ensures (puts_then _ _ _ _ _ c.put_value.ensures c.put_size.ensures)))
