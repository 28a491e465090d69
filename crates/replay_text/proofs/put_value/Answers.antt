use Rattle.std.specs.Prelude.{◌≡◌, ℕ, ℤ}
use Rattle.std.proofs.Common.{rules}
use Rattle.symbol.specs.Offset.{word_of}
use Rattle.text.specs.Writing.{Puts}
use Rattle.text.specs.declared.out.Writer.{Writer}
use Rattle.text.specs.Proof.WritingWays.{puts_then}
use Rattle.replay_text.specs.Answers.{value_text, signed_text}
use Rattle.replay_text.proofs.put_value.Goals as goal

offset-put : (a b : Writer) (w : ℕ) (y z : ℤ) → w ≡ word_of y → y ≡ z → Puts a b (signed_text w) → Puts a b (signed_text (word_of z))
offset-put a b w y z e f p = rw (← f, ← e) p

pub returns-in-SectionRelative : goal.returns-in-SectionRelative
unfolding value_text
returns-in-SectionRelative c =
    rw c.in-SectionRelative.is (puts_then _ _ _ _ _ c.put_numbered-in-SectionRelative.ensures (offset-put _ _ _ _ _ c.word_of.ensures (search rules) c.put_offset.ensures))

pub returns-in-SectionVirtualAddress : goal.returns-in-SectionVirtualAddress
unfolding value_text
returns-in-SectionVirtualAddress c =
    rw c.in-SectionVirtualAddress.is
    (puts_then _ _ _ _ _ c.put_numbered-in-SectionVirtualAddress.ensures c.put_numbered-in-SectionVirtualAddress-2.ensures)
