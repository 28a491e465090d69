-- The names required of an archive's members, chained by a keyed hash of member and name, so that admission asks for one without a look at every entry.
-- The chains lie in the cells in which the index had the tree of members while it was opened: entry k's link and the head of chain k. A start leaves them empty; a pass chains an entry when it marks its name as required, once for each member and name: so neither entries that no
-- pass marked nor copies of one name make a chain longer.
-- Assumes nothing.
use Rattle.std.specs.Prelude.{ℕ, zero, suc, ◌+◌, ◌-◌, ◌%◌, Bool, true, false, cond, List, eqb, ltb, set}
use Rattle.byte_slices.specs.Bytes.{same}
use Rattle.keyed_hash.specs.Keyed.{hash_of, hash_bound}
use Rattle.archive_index.specs.Rows.{required_at, member_at, next_at, head_at, stored_name, required_field, link_field, head_field, rows_in, cell_of}
use Rattle.archive_walk.specs.declared.Walk.{Walk}

-- the chain of the name x of the member that r represents, among c chains
unfoldable pub name_chain : ℕ → ℕ → ℕ → List ℕ → ℕ
name_chain key c r x = cond (eqb c 0) 0 ((hash_of key x + r % hash_bound) % c)

-- f holds of one of at most n entries along the links from at on
unfoldable pub along : List ℕ → (ℕ → Bool) → ℕ → ℕ → Bool
along l f at zero = false
along l f at (suc n) = cond (eqb at 0) false (cond (f (at - 1)) true (along l f (next_at l (at - 1)) n))

-- entry k bears the name x, and it was undefined in the pass that queued the member represented by r
unfoldable pub bears_of : List ℕ → List ℕ → ℕ → List ℕ → ℕ → Bool
bears_of s l r x k = cond (eqb (required_at l k) 1) (cond (eqb (member_at l k) r) (same (stored_name s l k) x) false) false

-- an entry from this head on bears the name x; no chain is longer than there are rows
unfoldable pub borne_from : List ℕ → List ℕ → ℕ → List ℕ → ℕ → Bool
borne_from s l r x head = along l (bears_of s l r x) head (rows_in l)

-- one in the chain of that name and member does
unfoldable pub chained : ℕ → ℕ → List ℕ → List ℕ → ℕ → List ℕ → Bool
chained key c s l r x = borne_from s l r x (head_at l (name_chain key c r x))

-- ---- a pass marks entry k

-- the chain of entry k
abbrev pub chain_at : ℕ → ℕ → List ℕ → List ℕ → ℕ → ℕ
chain_at key c s l k = name_chain key c (member_at l k) (stored_name s l k)

abbrev pub required_in : List ℕ → ℕ → List ℕ
required_in l k = set l (cell_of k required_field) 1

-- marked, and at the head of chain b; only marked where its row isn't lent
unfoldable pub headed_of : List ℕ → ℕ → ℕ → List ℕ
headed_of l k b =
    cond (ltb k (rows_in l)) (set (set (required_in l k) (cell_of k link_field) (head_at l b)) (cell_of b head_field) (k + 1)) (required_in l k)

-- marked; in its chain unless another entry there bears the same name of the same member
unfoldable pub noted_of : ℕ → ℕ → List ℕ → List ℕ → ℕ → List ℕ
noted_of key c s l k =
    cond (chained key c s l (member_at l k) (stored_name s l k)) (required_in l k) (headed_of l k (chain_at key c s l k))

-- ---- the names that admission asks for

-- the name x is required of the member that was offered by entry e
unfoldable pub required_of : List ℕ → List ℕ → Walk → ℕ → List ℕ → Bool
required_of s l w e x = chained w.key w.entries s l (member_at l e) x
