-- Who holds each name, read off what holds after every history.
-- Assumes nothing.
use Rattle.std.specs.Prelude.{ℕ, ◌≤◌, ◌<◌, ◌≡◌, Bool, List, ◌∷◌}
use Rattle.symbol.specs.declared.Row.{Row}
use Rattle.symbol.specs.Row.{state_at}
use Rattle.symbol_resolution.specs.Holder.{global_at}
use Rattle.symbol_laws.specs.Rank.{ranked, FirstOfGreatestRank, first_by_rank, joined_in}
use Rattle.symbol_laws.specs.Standing.{hidden_by}
use Rattle.symbol.specs.Row.{row_at}
use Rattle.symbol_laws.specs.History.{State, Entry, rows}

-- a row holds the name of rows l: it is the first of the greatest rank, and if that is common all commons are joined in it
pub record HeldBy (rank : Row → ℕ) (l : List Row) (r : Row) : Type 0 where
  pub holder : Row
  pub first : FirstOfGreatestRank rank l holder
  pub is : r ≡ joined_in l holder

-- the row of a name whose accepted adds are x and then xs, in that profile
pub record Resolved (gabi : Bool) (s : State) (n : ℕ) (x : Entry) (xs : List Entry) : Type 0 where
  pub issued : n < s.link.names
  -- "the id of its first accepted add"
  pub id : global_at s.names n ≡ x.id
  pub real : 1 ≤ x.id
  pub counted : x.id < s.link.symbols
  pub present : state_at s.symbols x.id ≡ 1
  pub bears : (row_at s.symbols x.id).name.0 ≡ n
  -- "the content of its first accepted strong definition, else weak definition, else add"; 2026-06: "else the commons joined" after the strong
  -- definition; in the gABI profile a strong reference comes before other references, and the row is hidden if one of the adds is
  pub terms : row_at s.symbols x.id ≡ hidden_by gabi (rows (x ∷ xs)) (joined_in (rows (x ∷ xs)) (first_by_rank gabi x.row (rows xs)))
  -- the one that holds the name is the first accepted add of the greatest rank
  pub content : FirstOfGreatestRank (ranked gabi) (rows (x ∷ xs)) (first_by_rank gabi x.row (rows xs))
