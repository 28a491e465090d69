-- What is put past the end of the lent bytes is left out.
-- Assumes nothing.
use Rattle.std.specs.Prelude.{◌≡◌, ℕ, ◌%◌, ◌≤◌, List, length}
use Rattle.std.proofs.Math.Path.{sym}
use Rattle.std.proofs.Common.{◌∙◌}
use Rattle.std.proofs.Math.Seq.{set_out}
use Rattle.replay_archive.specs.Index.{put_byte}

pub byte-out : (file t : List ℕ) (i v : ℕ) → length file ≤ i → t ≡ file → t ≡ put_byte file i v
unfolding put_byte
byte-out file t i v h q = q ∙ sym (set_out file i (v % 256) h)
