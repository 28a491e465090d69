-- The text of a name behind a space.
-- Assumes nothing.
use Rattle.std.specs.Prelude.{ℕ, List, [], ◌∷◌}
use Rattle.replay_text.specs.Answers.{Pieces, space_word, shown}

-- ---- texts

abbrev pub spaced_name : List ℕ → Pieces
spaced_name x = space_word ∷ shown x ∷ []
