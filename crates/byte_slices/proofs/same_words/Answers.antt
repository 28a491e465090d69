use Rattle.std.proofs.Common.{arith, sym}
use Rattle.byte_slices.specs.Proof.Words.{alike-none, alike-on, words-differ, words-decide}
use Rattle.byte_slices.proofs.same_words.Goals as goal

pub loop-k-init : goal.loop-k-init
loop-k-init c = alike-none _ _

pub returns-then-long_word : goal.returns-then-long_word
returns-then-long_word c = sym (words-differ _ _ _ _ _ c.long_word.ensures.value c.long_word-in-loop-k.ensures.value c.if-long_word.true)

pub loop-k-preserved : goal.loop-k-preserved
loop-k-preserved c = alike-on _ _ _ _ _ c.loop-k.invariant (c.long_word.ensures.value, c.long_word.ensures.low, c.long_word.ensures.high) (c.long_word-in-loop-k.ensures.value, c.long_word-in-loop-k.ensures.low, c.long_word-in-loop-k.ensures.high) c.if-long_word.false

pub returns : goal.returns
returns c = words-decide _ _ _ _ _ c.requires.same_length c.requires.whole (omega arith) c.loop-k.invariant (c.long_word-2.ensures.value, c.long_word-2.ensures.low, c.long_word-2.ensures.high) (c.long_word-3.ensures.value, c.long_word-3.ensures.low, c.long_word-3.ensures.high)
