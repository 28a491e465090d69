-- A section row that is built, and the symbols that it names.
-- Assumes nothing.
use Prim.Native.Nat.{ℕ, ◌+◌, ◌<◌, ◌≤◌}
use Rattle.std.proofs.Math.Path.{◌≡◌}
use mathlib.Core.List.{List}
use Rattle.byte_slices.specs.Bytes.{part}
use Rattle.link.specs.declared.Link.{Link}
use Rattle.interner.specs.Names.{store_of}
use Rattle.interner_laws.specs.Good.{Issued}
use Rattle.sections.specs.Rows as Sections
use Rattle.sections.specs.Rows.{state_at, name_id_at, first_at, count_at}

-- the kind of a section row
abbrev pub kind_at : List ℕ → ℕ → ℕ
kind_at sections r = Sections.field sections r 2

-- the symbols that a built section names, by its list cells
abbrev pub names_at : List ℕ → List ℕ → ℕ → List ℕ
names_at sections lists r = part lists (first_at sections r) (count_at sections r)

-- row r is a built section of that name, kind, flags, size, and names these symbols
pub record BuiltAs (bytes names sections lists : List ℕ) (l : Link) (r : ℕ) (x : List ℕ) (kind retain read size : ℕ) (ids : List ℕ) : Type 0 where
  pub counted : r < l.sections
  pub built : state_at sections r ≡ 2
  pub named : Issued (store_of bytes names l) (name_id_at sections r) x
  pub kind-is : kind_at sections r ≡ kind
  pub retains : Sections.retain_at sections r ≡ retain
  pub reads : Sections.read_at sections r ≡ read
  pub sized : Sections.size_at sections r ≡ size
  pub inside : first_at sections r + count_at sections r ≤ l.lists
  pub ids-are : names_at sections lists r ≡ ids
