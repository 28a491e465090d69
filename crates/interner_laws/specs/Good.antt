-- What holds of every table made by calls.
-- Assumes nothing.
use Rattle.std.specs.Prelude.{ℕ, ◌+◌, ◌*◌, ◌-◌, ◌<◌, ◌≤◌, ◌≡◌, List, [], get_or, length}
use Rattle.link.specs.declared.Link.{Link}
use Rattle.link.specs.Bounds.{name_rows, name_bytes}
use Rattle.link.specs.Counts.{with_names}
use Rattle.interner.specs.Hash.{head_of}
use Rattle.interner.specs.Names.{Store, name_at, next_at, find_of}
use Rattle.interner_laws.specs.Histories.{IssuedIn, StaysIn}

-- ---- the parts of a store

abbrev pub count : Store → ℕ
count s = s.link.names

abbrev pub used : Store → ℕ
used s = s.link.bytes

-- those that a new table was lent
abbrev pub name_rows_in : Store → ℕ
name_rows_in s = s.link.chains

abbrev pub cell : Store → ℕ → ℕ → ℕ
cell s i f = get_or s.names (i * 8 + f) 0

abbrev pub name : Store → ℕ → List ℕ
name s i = name_at s.bytes s.names i

abbrev pub next : Store → ℕ → ℕ
next s i = next_at s.names i

-- a chain is told by the cell of its head
abbrev pub chain : Store → List ℕ → ℕ
chain s x = head_of s.link s.names x

abbrev pub head : Store → List ℕ → ℕ
head s x = get_or s.names (chain s x) 0

abbrev pub find : Store → List ℕ → ℕ
find s x = find_of s.bytes s.names s.link x

-- ---- tables

pub record Chained (s : Store) : Type 0 where
  pub rows-some : 0 < name_rows_in s
  pub rows-lent : name_rows_in s ≤ name_rows (length s.names)
  pub rows_in : count s ≤ name_rows_in s
  pub bytes-in : used s ≤ name_bytes (length s.bytes)
  pub names_in : (i : ℕ) → i < count s → cell s i 0 + cell s i 1 ≤ used s
  pub distinct : (i j : ℕ) → i < count s → j < count s → name s i ≡ name s j → i ≡ j
  -- a head is its chain's last name, and no later name is of the chain
  pub head-low : (x : List ℕ) → head s x ≤ count s
  pub head-own : (x : List ℕ) → (head s x ≡ 0 → ⊥) → chain s (name s (head s x - 1)) ≡ chain s x
  pub head-gap : (x : List ℕ) (j : ℕ) → head s x ≤ j → j < count s → chain s (name s j) ≡ chain s x → ⊥
  -- a link leads to the name before it in its chain, and no name between is of the chain
  pub next_low : (i : ℕ) → i < count s → next s i ≤ i
  pub next-own : (i : ℕ) → i < count s → (next s i ≡ 0 → ⊥) → chain s (name s (next s i - 1)) ≡ chain s (name s i)
  pub next-gap : (i j : ℕ) → i < count s → next s i ≤ j → j < i → chain s (name s j) ≡ chain s (name s i) → ⊥

-- name 0 is the empty one; nothing is said of the link's other counts, nor whether it is broken
pub record Good (s : Store) : Type 0 where
  pub chained : Chained s
  pub some : 0 < count s
  pub empty : name s 0 ≡ []

-- ---- between two tables

-- i is the id of x
abbrev pub Issued : Store → ℕ → List ℕ → Type 0
Issued s i x = IssuedIn count name s i x

-- every id goes on standing for its name
abbrev pub Stays : Store → Store → Type 0
Stays s t = StaysIn count name s t

-- the counts that interning leaves alone
abbrev pub rest : Link → Link
rest l = with_names l 0 0

-- only rows and bytes between the counts were written, and heads of chains
pub record Untouched (s t : Store) : Type 0 where
  pub rows_same : length t.names ≡ length s.names
  pub bytes_same : length t.bytes ≡ length s.bytes
  pub more-names : count s ≤ count t
  pub more_bytes : used s ≤ used t
  pub old-rows : (i f : ℕ) → i < count s → i < name_rows_in s → f < 8 → cell t i f ≡ cell s i f
  pub free-rows : (i f : ℕ) → count t ≤ i → i < name_rows_in s → f < 8 → cell t i f ≡ cell s i f
  pub old-bytes : (k : ℕ) → k < used s → get_or t.bytes k 0 ≡ get_or s.bytes k 0
  pub free_bytes : (k : ℕ) → used t ≤ k → get_or t.bytes k 0 ≡ get_or s.bytes k 0
  pub others : rest t.link ≡ rest s.link

-- t differs from s at most in cells 3 to 7 of rows, in rows not issued, and in other counts
pub record Alike (s t : Store) : Type 0 where
  pub bytes : t.bytes ≡ s.bytes
  pub long : length t.names ≡ length s.names
  pub cells : (i f : ℕ) → i < count s → f < 3 → cell t i f ≡ cell s i f
  pub heads : (q : ℕ) → name_rows_in s * 8 ≤ q → q < length s.names → get_or t.names q 0 ≡ get_or s.names q 0
  pub chains : t.link.chains ≡ s.link.chains
  pub key : t.link.key ≡ s.link.key
  pub counted : count t ≡ count s
  pub filled : used t ≡ used s
