use Rattle.std.proofs.Common.{arith}
use Rattle.byte_slices.specs.Proof.Copies.{copied-none, copied-word, copied-all}
use Rattle.byte_slices.proofs.copy_words.Goals as goal

pub loop-k-init : goal.loop-k-init
loop-k-init c = copied-none c.args.dst.now c.args.at c.args.x.now

pub loop-k-preserved : goal.loop-k-preserved
loop-k-preserved c =
    copied-word c.args.dst.now c.args.at c.args.x.now c.loop-k.dst c.copy_word.new.dst c.loop-k.k c.loop-k.invariant c.copy_word.ensures c.requires.room
    (omega arith)

pub returns : goal.returns
returns c =
    copied-all c.args.dst.now c.args.at c.args.x.now c.loop-k.dst c.copy_word-2.new.dst c.loop-k.k c.loop-k.invariant c.copy_word-2.ensures c.requires.room
    (omega arith) (omega arith) c.requires.whole
