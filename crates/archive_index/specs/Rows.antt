-- An entry's row of lent cells, and the tree of members in the rows. A member is known by its key (Archives.antt).
-- Assumes nothing.
use Rattle.std.specs.Prelude.{ℕ, zero, suc, ◌+◌, ◌*◌, ◌-◌, ◌/◌, ◌%◌, cond, List, [], ◌∷◌, eqb, get_or, set, length}
use Rattle.cells.specs.Rows.{put_row, row_width}
use Rattle.byte_slices.specs.Bytes.{part}
use Rattle.archive_index.specs.declared.opening.Spot.{Spot}
use Rattle.archive_index.specs.declared.opening.Spot.TheVariants.{Known, Free}
use Rattle.archive_index.specs.Index.{offset_of, after_of, names_at}
use Rattle.archive_index.specs.Archives.{Archives, start_at, index_at, count_at, key_of}
use Rattle.link.specs.Bounds.{lesser}

-- ---- the cells of a row

-- 1 where the entry's name is required of its member
abbrev pub required_field : ℕ
required_field = 0

-- the member's representative, which is its first entry
abbrev pub member_field : ℕ
member_field = 1

-- while the index is opened, a representative's two children in the tree of members (entry and 1, 0 for none)
abbrev pub even_field : ℕ
even_field = 2

abbrev pub odd_field : ℕ
odd_field = 3

-- from then on the entry's link in a chain of required names, and the head of the chain that has the entry's number
abbrev pub link_field : ℕ
link_field = even_field

abbrev pub head_field : ℕ
head_field = odd_field

-- where its name starts and how long it is
abbrev pub start_field : ℕ
start_field = 4

abbrev pub length_field : ℕ
length_field = 5

-- for a representative the pass that queued its member (0 for none)
abbrev pub pass_field : ℕ
pass_field = 6

-- while the indexes are opened the key of the entry's member
abbrev pub key_field : ℕ
key_field = 7

-- from then on of entry k the k-th entry of the queue
abbrev pub queue_field : ℕ
queue_field = key_field

-- how many rows are lent
abbrev pub rows_in : List ℕ → ℕ
rows_in l = length l / row_width

-- the cell of a field in row k
abbrev pub cell_of : ℕ → ℕ → ℕ
cell_of k f = k * row_width + f

abbrev pub field_at : List ℕ → ℕ → ℕ → ℕ
field_at l k f = get_or l (cell_of k f) 0

abbrev pub required_at : List ℕ → ℕ → ℕ
required_at l k = field_at l k required_field

abbrev pub member_at : List ℕ → ℕ → ℕ
member_at l k = field_at l k member_field

-- once the index is opened: the next entry of a chain of names, and the head of chain k
abbrev pub next_at : List ℕ → ℕ → ℕ
next_at l k = field_at l k link_field

abbrev pub head_at : List ℕ → ℕ → ℕ
head_at l k = field_at l k head_field

abbrev pub pass_at : List ℕ → ℕ → ℕ
pass_at l k = field_at l k pass_field

abbrev pub key_at : List ℕ → ℕ → ℕ
key_at l k = field_at l k key_field

abbrev pub queue_at : List ℕ → ℕ → ℕ
queue_at l k = field_at l k queue_field

-- entry k's name, read by its row
abbrev pub stored_name : List ℕ → List ℕ → ℕ → List ℕ
stored_name s l k = part s (field_at l k start_field) (field_at l k length_field)

-- the tree of members, a digital search tree: the root is entry 0; the lowest bit of a member's key says on which side of the root its representative
-- lies, the next bit on which side of the one met there, and so on. Keys have 36 bits, those of one archive 32, so whoever chose them, 37 or 33 steps find a
-- member (archive_laws, Depth)

abbrev pub child_at : List ℕ → ℕ → ℕ → ℕ
child_at l k f = field_at l k f

-- the field of the child on the side of the key's lowest bit
abbrev pub side_of : ℕ → ℕ
side_of q = even_field + q % 2

-- from entry at on, at most n steps down by what is left of the key, q: the representative of the member with key x, else the empty cell of a child;
-- k where the steps end, which they don't
unfoldable pub descend : List ℕ → ℕ → ℕ → ℕ → ℕ → ℕ → Spot
descend l x k at q zero = Known k
descend l x k at q (suc n) =
    cond (eqb (key_at l at) x) (Known at)
    (cond (eqb (child_at l at (side_of q)) 0) (Free at (side_of q)) (descend l x k (child_at l at (side_of q) - 1) (q / 2) n))

-- entry k's, of the member with key x: a member's entries mostly stand together, so the one before is asked first; a child is later than its parent, so k
-- steps suffice
unfoldable pub spot_of : List ℕ → ℕ → ℕ → Spot
spot_of l k x =
    cond (eqb k 0) (Known k)
    (cond (eqb (key_at l (k - 1)) x) (Known (member_at l (k - 1))) (descend l x k 0 x k))

abbrev pub row_of : List ℕ → ℕ → ℕ → ℕ → ℕ → ℕ → List ℕ
row_of l k r p n x = put_row l k (0 ∷ r ∷ 0 ∷ 0 ∷ p ∷ n ∷ 0 ∷ x ∷ [])

-- entry k, its name the n bytes from p on, its member's key x; itself its member's representative where that has none
abbrev pub entered : List ℕ → ℕ → Spot → ℕ → ℕ → ℕ → List ℕ
entered l k (Known r) p n x = row_of l k r p n x
entered l k (Free a f) p n x = row_of (set l (cell_of a f) (k + 1)) k k p n x

-- entry k, its name the n bytes from p on
unfoldable pub enter_of : List ℕ → ℕ → ℕ → ℕ → ℕ → List ℕ
enter_of l k x p n = entered l k (spot_of l k x) p n x

-- of archive j with index s, which begins at place o: the n entries from its entry i on, the first of them entry k of all, its name at place p of the index
unfoldable pub enter_all : ℕ → List ℕ → ℕ → ℕ → ℕ → ℕ → ℕ → List ℕ → List ℕ
enter_all j s o zero k i p l = l
enter_all j s o (suc n) k i p l =
    enter_all j s o n (k + 1) (i + 1) (after_of s p) (enter_of l k (key_of j (offset_of s i)) (o + p) (after_of s p - (p + 1)))

-- where index j begins, in the slice
abbrev pub place_at : Archives → ℕ → ℕ
place_at a j = lesser (start_at a j) (length a.bytes)

-- the entries of index j, of which the first is entry b of all
abbrev pub enter_index : Archives → ℕ → ℕ → List ℕ → List ℕ
enter_index a j b l = enter_all j (index_at a j) (place_at a j) (count_at a j) b 0 (names_at (count_at a j)) l

-- the rows of the entries of the n indexes from j on, the first of them entry b, whatever the cells held before
unfoldable pub rows_from : Archives → ℕ → ℕ → ℕ → List ℕ → List ℕ
rows_from a zero j b l = l
rows_from a (suc n) j b l = rows_from a n (j + 1) (b + count_at a j) (enter_index a j b l)

abbrev pub rows_of : Archives → List ℕ → List ℕ
rows_of a l = rows_from a (length a.ends) 0 0 l

-- no chain of names has a head, and no place of the queue an entry: a key stood there
unfoldable pub no_heads : ℕ → List ℕ → List ℕ
no_heads zero l = l
no_heads (suc n) l = set (set (no_heads n l) (cell_of n head_field) 0) (cell_of n queue_field) 0
