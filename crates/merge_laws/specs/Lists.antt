-- Inputs and lists of two links, one after the other: what is counted before stands as it stood, and what isn't counted after.
-- Assumes nothing.
use Prim.Native.Nat.{ℕ, ◌*◌, ◌<◌, ◌≤◌}
use Rattle.std.specs.Prelude.{◌≡◌, get_or, length}
use mathlib.Core.List.{List}
use Rattle.link.specs.declared.Link.{Link}
use Rattle.link.specs.Bounds.{input_rows}

-- lists past the later count stand as they stood
pub record ListsPast (x : List ℕ) (k : Link) (y : List ℕ) (l : Link) : Type 0 where
  pub more : k.lists ≤ l.lists
  pub past : (q : ℕ) → l.lists ≤ q → get_or y q 0 ≡ get_or x q 0
  pub long : length y ≡ length x
  -- no more are counted than are lent
  pub inside : k.lists ≤ length x → l.lists ≤ length y

pub record Listed (i x : List ℕ) (k : Link) (j y : List ℕ) (l : Link) : Type 0 where
  pub lists : ListsPast x k y l
  -- those that are counted before stand as they stood
  pub lists-below : (q : ℕ) → q < k.lists → get_or y q 0 ≡ get_or x q 0
  pub inputs-past : (q : ℕ) → l.inputs * 8 ≤ q → get_or j q 0 ≡ get_or i q 0
  pub inputs-below : (q : ℕ) → q < k.inputs * 8 → get_or j q 0 ≡ get_or i q 0
  pub inputs-more : k.inputs ≤ l.inputs
  pub inputs_long : length j ≡ length i
  pub inputs_in : k.inputs ≤ input_rows (length i) → l.inputs ≤ input_rows (length j)
