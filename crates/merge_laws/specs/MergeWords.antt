-- What an object gives a merge, in document 01's words: which of its sections get rows, what its relocation tables name, its loaded symbol table. Words
-- for statements: no function and no contract has them.
-- Assumes nothing.
use Rattle.std.specs.Prelude.{ℕ, zero, suc, ◌≡◌, Bool, true, false, cond, not, ◌&&◌, ◌||◌, List, [], ◌∷◌, ◌++◌, eqb, ltb, get_or, length, ◌+◌, ◌*◌}
use Rattle.cells.specs.Search.{any_from}
use Rattle.gabi.specs.StringTable.{has_name, name_at, among}
use Rattle.gabi.specs.SymbolTable.{stb_local, stt_file, shn_undef, shn_loreserve}
use Rattle.symbol_laws.specs.ObjectWords.{part_from, sections_in, program, uninitialized, symbol_table, string_table, rel, rela, group, info_of, first_entry_row, count_of, link_of, loaded_as, strings_of, entries_of, entry, entry_name}

-- the number m is in the list
abbrev pub is_listed : ℕ → List ℕ → Bool
is_listed m xs = any_from (λ i. eqb (get_or xs i 0) m) 0 (length xs)

-- how many bytes section n has
abbrev pub size_of : List ℕ → ℕ → ℕ
size_of headers n = get_or headers (n * 8 + 7) 0

module _ (headers : List ℕ) where
  -- a program or an uninitialized section
  unfoldable pub is_rowed : ℕ → Bool
  is_rowed n = loaded_as headers n program || loaded_as headers n uninitialized

  -- how many of the first n sections are
  unfoldable pub rowed_below : ℕ → ℕ
  rowed_below zero = 0
  rowed_below (suc n) = cond (is_rowed n) (suc (rowed_below n)) (rowed_below n)

  -- table t applies to section m
  unfoldable pub relocates : ℕ → ℕ → Bool
  relocates t m = (loaded_as headers t rel || loaded_as headers t rela) && eqb (info_of headers t) m

  -- "Of several relocation tables for a section the last counts. Only a relocation's symbol is taken": the symbols that the last of the first k
  -- sections that is such a table of section m names, in order
  unfoldable pub named_by : List ℕ → ℕ → ℕ → List ℕ
  named_by contents m zero = []
  named_by contents m (suc t) = cond (relocates t m) (part_from contents (first_entry_row headers t) (count_of headers t)) (named_by contents m t)

  -- the entries of the loaded symbol table among the first k sections; a second one gives 24
  unfoldable pub entries_to : List ℕ → ℕ → List ℕ
  entries_to entries zero = []
  entries_to entries (suc t) = cond (loaded_as headers t symbol_table) (entries_of headers entries t) (entries_to entries t)

  -- and the bytes of its string section, none where that isn't loaded
  unfoldable pub symbol_names : List ℕ → ℕ → List ℕ
  symbol_names file zero = []
  symbol_names file (suc t) =
      cond (loaded_as headers t symbol_table) (strings_of headers file (loaded_as headers (link_of headers t) string_table) (link_of headers t)) (symbol_names file t)

  -- whether that is loaded: if not every name is missing
  unfoldable pub has_names : ℕ → Bool
  has_names zero = false
  has_names (suc t) = cond (loaded_as headers t symbol_table) (loaded_as headers (link_of headers t) string_table) (has_names t)

-- ---- groups

module _ (headers entries contents file : List ℕ) where
  -- the entries of the loaded symbol table, and the name of symbol i of it, empty where it is missing
  abbrev pub symbols_of : List ℕ
  symbols_of = entries_to headers entries (sections_in headers)

  abbrev pub symbol_name : ℕ → List ℕ
  symbol_name i = name_at (symbol_names headers file (sections_in headers)) (entry_name symbols_of i)

  abbrev pub is_named : ℕ → Bool
  is_named i = has_names headers (sections_in headers) && has_name (symbol_names headers file (sections_in headers)) (entry_name symbols_of i)

  -- symbol i bears the name b, which isn't missing
  pub record Bears (i : ℕ) (b : List ℕ) : Type 0 where
    pub found : is_named i ≡ true
    pub bytes : symbol_name i ≡ b

  -- of the group at section g the name of its signature symbol, and the sections that it lists
  abbrev pub group_signature : ℕ → List ℕ
  group_signature g = symbol_name (info_of headers g)

  -- the sections that it lists
  abbrev pub group_sections : ℕ → List ℕ
  group_sections g = part_from contents (first_entry_row headers g) (count_of headers g)

  -- the signatures of the groups among the first k sections
  unfoldable pub own_signatures : ℕ → List (List ℕ)
  own_signatures zero = []
  own_signatures (suc g) = own_signatures g ++ cond (loaded_as headers g group) (group_signature g ∷ []) []

  -- one of the groups among the first k sections lists section m
  unfoldable pub is_listed_below : ℕ → ℕ → Bool
  is_listed_below zero m = false
  is_listed_below (suc g) m = is_listed_below g m || (loaded_as headers g group && is_listed m (group_sections g))

  -- group g lists a section of the object that a group before it lists too
  abbrev pub lists_again : ℕ → Bool
  lists_again g =
      any_from (λ i. ltb (get_or (group_sections g) i 0) (sections_in headers) && is_listed_below g (get_or (group_sections g) i 0)) 0 (length (group_sections g))

  -- one of the groups among the first k sections lists section m, and its signature is among those met by earlier calls and by the object's own groups before
  -- it
  unfoldable pub is_removed : List (List ℕ) → ℕ → ℕ → Bool
  is_removed met zero m = false
  is_removed met (suc g) m =
      is_removed met g m || (loaded_as headers g group && (among (group_signature g) (met ++ own_signatures g) && is_listed m (group_sections g)))

  -- symbol i is local and of a removed section
  abbrev pub is_lost : List (List ℕ) → ℕ → Bool
  is_lost met i =
      eqb (entry symbols_of i).binding stb_local && not (eqb (entry symbols_of i).section shn_undef)
      && (ltb (entry symbols_of i).section shn_loreserve && is_removed met (sections_in headers) (entry symbols_of i).section)

  -- it names the file of the symbols behind it: of type 4, and not dropped in the gABI's profile
  abbrev pub names_file : Bool → List (List ℕ) → ℕ → Bool
  names_file gabi met i = not (gabi && is_lost met i) && eqb (entry symbols_of i).type stt_file
