-- The rules for a walk over archives and for admission. They change no link, so none gives 22.
-- Assumes nothing.
use Rattle.std.specs.Prelude.{ℕ, zero, suc, ◌+◌, ◌*◌, ◌/◌, Bool, cond, not, ◌&&◌, ◌||◌, List, [], ◌∷◌, ◌++◌, eqb, ltb, get_or, take, drop, length}
use Rattle.byte_slices.specs.Bytes.{part}
use Rattle.gabi.specs.StringTable.{ended, name_at}
use Rattle.link.specs.Bounds.{not_lent}
use Rattle.archive_index.specs.Archives.{Archives}
use Rattle.archive_walk.specs.declared.Walk.{Walk}
use Rattle.symbol_laws.specs.History.{State}
use Rattle.link_laws.specs.Rules.{Rule, ◌gives◌at◌, each, each_of, lent_rows, count_rules}
use Rattle.link_laws.specs.TableRules.{is_removed, row_of, is_known, id_in}
use Rattle.link_laws.specs.ObjectRules.{cell_at, object_rules}
use Rattle.merge_laws.specs.MergeWords.{symbols_of}

-- ---- an index: a count and as many offsets of members, each of 32 bits, the greatest byte first; then as many zero-ended names

abbrev pub word : List ℕ → ℕ → ℕ
word index i = ((get_or index i 0 * 256 + get_or index (i + 1) 0) * 256 + get_or index (i + 2) 0) * 256 + get_or index (i + 3) 0

abbrev pub entry_count : List ℕ → ℕ
entry_count index = word index 0

-- where the k-th name starts, behind c offsets
abbrev pub name_start : List ℕ → ℕ → ℕ → ℕ
name_start index c zero = 4 + 4 * c
name_start index c (suc k) = name_start index c k + length (name_at index (name_start index c k)) + 1

-- "the first entry whose offset, else whose name, is cut short"
abbrev pub is_offset_cut : List ℕ → ℕ → Bool
is_offset_cut index k = ltb (length index) (4 + 4 * k + 4)

abbrev pub is_name_cut : List ℕ → ℕ → Bool
is_name_cut index k = not (ended index (name_start index (entry_count index) k))

-- ---- some indexes in one slice: of each where it ends; it begins where the one before it ends

abbrev pub first_byte : Archives → ℕ → ℕ
first_byte archives zero = 0
first_byte archives (suc j) = get_or archives.ends j 0

abbrev pub own_bytes : Archives → ℕ → List ℕ
own_bytes archives j = drop (first_byte archives j) (take (get_or archives.ends j 0) archives.bytes)

-- the position of the first entry of index j: how many entries the indexes before it have
abbrev pub position : Archives → ℕ → ℕ
position archives zero = 0
position archives (suc j) = position archives j + entry_count (own_bytes archives j)

abbrev pub all_entries : Archives → ℕ
all_entries archives = position archives (length archives.ends)

-- ---- the start: a seventeenth index before all else; an end below the one before it, or past the slice; an empty index; then index by index, at positions
-- among all entries; then the cells

module _ (archives : Archives) where
  abbrev pub is_end_wrong : ℕ → Bool
  is_end_wrong j = ltb (get_or archives.ends j 0) (first_byte archives j) || ltb (length archives.bytes) (get_or archives.ends j 0)

  abbrev pub end_rules : List Rule
  end_rules = each (λ j. is_end_wrong j gives 1 at j) 0 (length archives.ends)

  abbrev pub empty_rules : List Rule
  empty_rules = each (λ j. eqb (length (own_bytes archives j)) 0 gives 20 at j) 0 (length archives.ends)

-- an index of which the first entry has position p: shorter than its count; the first entry past the bound of all, or whose offset is cut; whose name is
module _ (index : List ℕ) (p : ℕ) where
  abbrev pub count_rules_of : List Rule
  count_rules_of = (ltb (length index) 4 gives 1 at p) ∷ []

  abbrev pub offset_rules : List Rule
  offset_rules = each (λ k. not (ltb (p + k) 65535) || is_offset_cut index k gives 1 at (p + k)) 0 (entry_count index)

  abbrev pub name_rules : List Rule
  name_rules = each (λ k. is_name_cut index k gives 1 at (p + k)) 0 (entry_count index)

  abbrev pub content_rules : List Rule
  content_rules = count_rules_of ++ (offset_rules ++ name_rules)

module _ (archives : Archives) (cells : List ℕ) where
  abbrev pub contents_rules : List Rule
  contents_rules = each_of (λ j. content_rules (own_bytes archives j) (position archives j)) 0 (length archives.ends)

  abbrev pub cell_rules : List Rule
  cell_rules = (ltb (length cells / 8) (all_entries archives) gives 2 at 0) ∷ []

  abbrev pub start_rules : List Rule
  start_rules = (ltb 16 (length archives.ends) gives 1 at 16) ∷ (end_rules archives ++ (empty_rules archives ++ (contents_rules ++ cell_rules)))

-- ---- a call for the next member

-- other ends than the start's, so far as they are judged; fewer rows than at the start; counts that no walk has
abbrev pub is_other_walk : Archives → List ℕ → Walk → Bool
is_other_walk archives cells w =
    ltb 16 (length archives.ends) || ltb (length archives.bytes) (first_byte archives (length archives.ends)) || ltb (first_byte archives (length archives.ends)) w.length
    || ltb (length cells / 8) w.entries || ltb w.entries w.queued || ltb w.queued w.offered || ltb w.queued w.passes

-- the k-th entry's name: its row has where it starts, and its length
abbrev pub entry_name : List ℕ → List ℕ → ℕ → List ℕ
entry_name index cells k = part index (cell_at cells k 4) (cell_at cells k 5)

-- a name that was issued, and whose row was removed
abbrev pub is_gone : State → List ℕ → Bool
is_gone t x = is_known t (id_in t x) && is_removed t (row_of t (id_in t x))

module _ (archives : Archives) (cells : List ℕ) (w : Walk) (t : State) where
  -- "A pass that meets a name whose row was removed gives 21", at "the entry's position"
  abbrev pub pass_rules : List Rule
  pass_rules =
      count_rules t.link (lent_rows (length t.names / 9) (length t.bytes) (length t.symbols) t.link.slots not_lent not_lent)
      ++ each (λ k. is_gone t (entry_name archives.bytes cells k) gives 21 at k) 0 w.entries

  -- "After "done" it stays done"; "A pass is made only at a call for the next member that finds none queued, over the table lent to that call"
  abbrev pub next_rules : List Rule
  next_rules =
      cond w.done []
      ((is_other_walk archives cells w gives 1 at 0) ∷ cond (ltb w.offered w.queued) [] pass_rules)

-- ---- which entries a walk passed by, a call of our own: the link's counts and the walk (1), then cells for as many as there are (2)

-- the same, whatever the passes: a walk that is done may have made one more than it queued members
abbrev pub is_strange_walk : List ℕ → List ℕ → Walk → Bool
is_strange_walk index rows w =
    ltb (length index) w.length || ltb (length rows / 8) w.entries || ltb w.entries w.queued || ltb w.queued w.offered

abbrev pub shadowed_rules : List ℕ → List ℕ → Walk → State → List ℕ → List Rule
shadowed_rules index rows w t cells =
    count_rules t.link (lent_rows (length t.names / 9) (length t.bytes) (length t.symbols) t.link.slots not_lent not_lent)
    ++ ((is_strange_walk index rows w gives 1 at 0) ∷ (ltb (length cells) w.entries gives 2 at 0) ∷ [])

-- of a walk that a start began, the rows say what the indexes say: the same rules with the indexes' own names, index by index
abbrev pub index_name : List ℕ → ℕ → List ℕ
index_name index k = name_at index (name_start index (entry_count index) k)

module _ (t : State) where
  abbrev pub gone_rules : List ℕ → ℕ → List Rule
  gone_rules index p = each (λ k. is_gone t (index_name index k) gives 21 at (p + k)) 0 (entry_count index)

  abbrev pub indexed_rules : Archives → List ℕ → Walk → List Rule
  indexed_rules archives cells w =
      cond w.done []
      ((is_other_walk archives cells w gives 1 at 0)
      ∷ cond (ltb w.offered w.queued) []
      (count_rules t.link (lent_rows (length t.names / 9) (length t.bytes) (length t.symbols) t.link.slots not_lent not_lent)
      ++ each_of (λ j. gone_rules (own_bytes archives j) (position archives j)) 0 (length archives.ends)))

-- ---- admission: the object's rows; an entry of the walk's index, which is lent with its rows

abbrev pub is_no_entry : List ℕ → List ℕ → Walk → ℕ → Bool
is_no_entry index cells w e = ltb (length index) w.length || ltb (length cells / 8) w.entries || not (ltb e w.entries)

abbrev pub matches_rules : List ℕ → List ℕ → List ℕ → List ℕ → List ℕ → List ℕ → Walk → ℕ → List Rule
matches_rules headers entries contents file index cells w e =
    object_rules headers entries contents file ++ ((is_no_entry index cells w e gives 1 at 0) ∷ [])

-- ---- what a member that was not taken would have defined, a call of our own: the link's counts, the object's rows, then two cells for each symbol that a
-- merge would load

abbrev pub would_rules : List ℕ → List ℕ → List ℕ → List ℕ → State → List ℕ → List Rule
would_rules headers entries contents file t cells =
    (count_rules t.link (lent_rows (length t.names / 9) (length t.bytes) (length t.symbols) t.link.slots not_lent not_lent)
    ++ object_rules headers entries contents file)
    ++ ((ltb (length cells / 2) (length (symbols_of headers entries contents file) / 8) gives 2 at 0) ∷ [])
