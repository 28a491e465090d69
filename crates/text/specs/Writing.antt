-- Text that is put together in lent bytes, piece by piece.
-- Assumes nothing.
use Rattle.std.specs.Prelude.{◌≡◌, ℕ, List, [], ◌∷◌}
use Rattle.text.specs.Text.{Text, text_of, put_of}
use Rattle.text.specs.declared.out.Writer.{Writer}

abbrev pub Pieces : Type 0
Pieces = List (List ℕ)

-- each behind those before it; one that doesn't have room whole is left out
unfoldable pub put_all : Text → Pieces → Text
put_all t [] = t
put_all t (x ∷ l) = put_all (put_of t.bytes t.len x) l

abbrev pub written : Writer → Text
written w = text_of w.bytes.now w.len

-- the same lent bytes, with those pieces behind the text that stood there
pub record Puts (w w' : Writer) (x : Pieces) : Type 0 where
  pub same : w'.bytes.ghost_name ≡ w.bytes.ghost_name
  pub text : written w' ≡ put_all (written w) x
