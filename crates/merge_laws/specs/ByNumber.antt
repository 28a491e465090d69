-- What a merge leaves: refused at its head, refused at an element, by the refusal's number, or accepted.
-- Assumes nothing.
use Rattle.std.specs.Prelude.{ℕ, ◌*◌, ◌<◌, ◌≡◌, true, false, List, [], ◌∷◌, drop, length, Ok, Err}
use Rattle.link.specs.declared.Interned.{Interned}
use Rattle.link.specs.Judge as Link
use Rattle.strings.specs.Lookup.{Looked, looked}
use Rattle.interner.specs.Names.{Store, store_of, find_of, keep_of}
use Rattle.elf_object.specs.Rows.{rows_in}
use Rattle.section_groups.specs.Filter.{filter_of}
use Rattle.merge_symbols.specs.Plan.{place_of}
use Rattle.merge_build.specs.Finish.{after_build}
use Rattle.merge_stages.specs.Stages.{All, all_of, Object, stop, put_symbols, after_groups, after_sections}
use Rattle.merge_elf.specs.Merge.{leave, head_in, merge_of}
use Rattle.merge_laws.specs.Refusals.{symbol_name, section_name}
use Rattle.merge_laws.specs.Stops.{object, prepared, marked, symbol_reader, with_added, builder, sections_to, groups_to, symbols_to, uninitialized_to, program_to, before2, before1, before0, with_build, end, number}
use Rattle.merge_laws.specs.Table.{one_of, filter_causes, section_numbers, group_numbers, new_numbers, symbol_left_numbers, built_numbers, relocation_causes, merge_head_numbers}

pub record HeadLeaves (o : Object) (a : All) : Type 0 where
  pub number : one_of (head_in o a).number merge_head_numbers ≡ true
  -- every cell and the link, not broken by it
  pub all : merge_of o a ≡ leave a a.stage.link (Err (head_in o a))

abbrev pub with_store : All → Store → All
with_store b k = all_of k.bytes k.names b.symbols b.sections b.inputs b.lists b.work b.ids (Link.going_of k.link)

abbrev pub id_in : All → List ℕ → Interned
id_in b x = record { 0 = find_of b.bytes b.names b.stage.link x }

-- where no refusal leaves a name issued
abbrev pub nameless : Looked
nameless = looked [] false

-- the name x issued
abbrev pub named : All → List ℕ → All
named b x = with_store b (keep_of (store_of b.bytes b.names b.stage.link) (id_in b x) x)

module _ (o : Object) (a : All) where
  -- what an accepted merge leaves
  pub record MergeLeaves : Type 0 where
    pub all : merge_of o a ≡ leave (end o a) (end o a).stage.link (Ok tt)
    pub whole : (end o a).stage.link.broken ≡ false

  abbrev pub symbols_at : ℕ → All
  symbols_at i = put_symbols (marked o a) (with_added o a (symbols_to o a i))

  abbrev pub uninitialized_at : ℕ → All
  uninitialized_at n = with_build o a (after_build (before2 o a) (uninitialized_to o a n))

  abbrev pub program_at : ℕ → All
  program_at n = with_build o a (after_build (before1 o a) (program_to o a n))

  pub data Between : All → Type 0 where
    sections : (n : ℕ) → Between (after_sections a (sections_to o a n))
    groups : (n : ℕ) → Between (after_groups (prepared o a) (groups_to o a n))
    -- after all groups
    filter : Between (marked o a)
    symbols : (i : ℕ) → Between (symbols_at i)
    uninitialized : (n : ℕ) → Between (uninitialized_at n)
    program : (n : ℕ) → Between (program_at n)
    input : Between (with_build o a (before0 o a))

  -- the refusals that are met there: those that leave all, and those that leave all but the element's name
  abbrev pub all_left : {b : All} → Between b → List ℕ
  all_left (sections n) = section_numbers
  all_left (groups n) = group_numbers
  all_left filter = filter_causes
  all_left (symbols i) = symbol_left_numbers
  all_left (uninitialized n) = built_numbers
  all_left (program n) = built_numbers
  all_left input = 2 ∷ []

  abbrev pub name_stays : {b : All} → Between b → List ℕ
  name_stays (sections n) = []
  name_stays (groups n) = []
  name_stays filter = []
  name_stays (symbols i) = new_numbers
  name_stays (uninitialized n) = []
  name_stays (program n) = relocation_causes
  name_stays input = []

  -- the element
  abbrev pub place_at : {b : All} → Between b → ℕ
  place_at (sections n) = n
  place_at (groups n) = n
  place_at filter = filter_of (marked o a).stage.link.gabi (marked o a).work (object o a).entries
  place_at (symbols i) = i
  place_at (uninitialized n) = n
  place_at (program n) = n
  place_at input = 0

  -- the elements of its stage
  abbrev pub elements : {b : All} → Between b → ℕ
  elements (sections n) = rows_in o.headers
  elements (groups n) = rows_in o.headers
  elements filter = rows_in (object o a).entries
  elements (symbols i) = rows_in (object o a).entries
  elements (uninitialized n) = rows_in o.headers
  elements (program n) = rows_in o.headers
  elements input = 1

  -- what the string table says of the name that a refusal may leave issued, the element's own
  abbrev pub name_at : {b : All} → Between b → Looked
  name_at (sections n) = nameless
  name_at (groups n) = nameless
  name_at filter = nameless
  name_at (symbols i) = symbol_name (symbol_reader o a) i
  name_at (uninitialized n) = nameless
  name_at (program n) = section_name (builder o a) n
  name_at input = nameless

  -- the refusal is met at one of the elements, and all before it were accepted
  pub record Met {b : All} (at : Between b) : Type 0 where
    pub below : place_at at < elements at
    pub accepted : b.stage.number ≡ 0

  pub data Leaves : Type 0 where
    -- the place of 21 is the name's id
    all : (b : All) (at : Between b) → Met at → one_of (number o a) (all_left at) ≡ true
        → end o a ≡ stop b (number o a) (place_of (number o a) (id_in b (name_at at).name) (place_at at)) → Leaves
    but-its-name : (b : All) (at : Between b) → (name_at at).found ≡ true → Met at → one_of (number o a) (name_stays at) ≡ true
        → end o a ≡ stop (named b (name_at at).name) (number o a) (place_at at) → Leaves

  -- symbol rows, their count and the sections' symbols as they were before the call
  pub record SymbolsLeft (b : All) : Type 0 where
    pub rows : b.symbols ≡ a.symbols
    pub count : b.stage.link.symbols ≡ a.stage.link.symbols
    pub long : length b.sections ≡ length a.sections
    pub behind : drop (a.stage.link.slots * 8) b.sections ≡ drop (a.stage.link.slots * 8) a.sections

  -- and names
  pub record NamesLeft (b : All) : Type 0 where
    pub bytes : b.bytes ≡ a.bytes
    pub names : b.names ≡ a.names
    pub names-count : b.stage.link.names ≡ a.stage.link.names
    pub bytes_count : b.stage.link.bytes ≡ a.stage.link.bytes
    pub symbols : SymbolsLeft b
