-- What a refused merge or load leaves: at its head all; at an element what the elements before it left, for some numbers with that element's name issued, and the link
-- broken. Document 01's refusal table, "Left as it was", over the elements of merge_laws and load_laws.
-- Assumes nothing.
use Rattle.std.specs.Prelude.{ℕ, ◌≡◌, true, List}
use Rattle.strings.specs.Lookup.{Looked}
use Rattle.link.specs.declared.Interned.{Interned}
use Rattle.link.specs.Judge.{refused, broken_of}
use Rattle.merge_symbols.specs.Plan.{place_of}
use Rattle.merge_stages.specs.Stages as Stages
use Rattle.merge_elf.specs.Merge as Merge
use Rattle.shared_objects.specs.Stages.{Links}
use Rattle.shared_objects.specs.Load as Shared
use Rattle.merge_laws.specs.ByNumber.{Between, Met, all_left, name_stays, name_at, place_at, id_in, named}
use Rattle.merge_laws.specs.Calls.{Linked, linked, all_in}
use Rattle.load_laws.specs.Stops as Loading
use Rattle.link_laws.specs.Calls.{merge, load, library_in, call_refusal, call_number, call_next}
use Rattle.merge_laws.specs.Table.{one_of, merge_head_numbers, load_head_numbers}

-- what elements left, the link broken
abbrev pub broken_at : Stages.All → Linked
broken_at b =
    linked (record { bytes = b.bytes; names = b.names; symbols = b.symbols; sections = b.sections; link = broken_of b.stage.link }) b.inputs b.lists

module _ (o : Stages.Object) (work ids : List ℕ) (s : Linked) where
  abbrev pub lent_to : Stages.All
  lent_to = all_in s work ids

  abbrev pub number : ℕ
  number = call_number (merge o work ids) s

  -- "Left as it was", by number
  pub data MergeLeft : Type 0 where
    -- all: 22, 1, and 2 where the work cells are too few
    at_head : call_refusal (merge o work ids) s ≡ Merge.head_in o lent_to → one_of number merge_head_numbers ≡ true → call_next (merge o work ids) s ≡ s → MergeLeft
    -- all at that element: every cell as the elements before it left it. The place of 21 is the name's id
    at-element : (b : Stages.All) (at : Between o lent_to b) → Met o lent_to at → one_of number (all_left o lent_to at) ≡ true
        → call_refusal (merge o work ids) s ≡ refused number (place_of number (id_in b (name_at o lent_to at).name) (place_at o lent_to at))
        → call_next (merge o work ids) s ≡ broken_at b → MergeLeft
    -- and that one's name issued besides
    but-its-name : (b : Stages.All) (at : Between o lent_to b) → (name_at o lent_to at).found ≡ true → Met o lent_to at → one_of number (name_stays o lent_to at) ≡ true
        → call_refusal (merge o work ids) s ≡ refused number (place_at o lent_to at)
        → call_next (merge o work ids) s ≡ broken_at (named b (name_at o lent_to at).name) → MergeLeft

-- what elements left, the link broken
abbrev pub broken_links : Links → Linked
broken_links b =
    linked (record { bytes = b.bytes; names = b.names; symbols = b.symbols; sections = b.sections; link = broken_of b.stage.link }) b.inputs b.lists

module _ (o : Shared.Input) (marks : List ℕ) (s : Linked) where
  abbrev pub lent_load : Shared.All
  lent_load = library_in s marks

  abbrev pub load_number : ℕ
  load_number = call_number (load o marks) s

  -- an element of the library, and what is said of it
  abbrev pub Element : Links → Type 0
  Element = Loading.Between o.entries o.image o.needs (Shared.links_in lent_load) (Shared.name_of o)

  abbrev pub MetAt : {b : Links} → Element b → Type 0
  MetAt at = Loading.Met o.entries o.image o.needs (Shared.links_in lent_load) (Shared.name_of o) at

  abbrev pub numbers_at : {b : Links} → Element b → List ℕ
  numbers_at at = Loading.all_left o.entries o.image o.needs (Shared.links_in lent_load) (Shared.name_of o) at

  abbrev pub named_at : {b : Links} → Element b → List ℕ
  named_at at = Loading.name_stays o.entries o.image o.needs (Shared.links_in lent_load) (Shared.name_of o) at

  abbrev pub row_at : {b : Links} → Element b → ℕ
  row_at at = Loading.place_at o.entries o.image o.needs (Shared.links_in lent_load) (Shared.name_of o) at

  abbrev pub name_in : {b : Links} → Element b → Looked
  name_in at = Loading.name_at o.entries o.image o.needs (Shared.links_in lent_load) (Shared.name_of o) at

  abbrev pub id_at : Links → List ℕ → Interned
  id_at = Loading.link_id o.entries o.image o.needs (Shared.links_in lent_load) (Shared.name_of o)

  -- the name issued
  abbrev pub with_name : Links → List ℕ → Links
  with_name = Loading.named o.entries o.image o.needs (Shared.links_in lent_load) (Shared.name_of o)

  -- "Left as it was", by number
  pub data LoadLeft : Type 0 where
    -- all: 22, 1, 25, and 2 where the marks are too few
    at_head : call_refusal (load o marks) s ≡ Shared.head_in o lent_load → one_of load_number load_head_numbers ≡ true → call_next (load o marks) s ≡ s → LoadLeft
    -- all at that element: every cell as the elements before it left it. The place of 21 is the name's id
    at-element : (b : Links) (at : Element b) → MetAt at → one_of load_number (numbers_at at) ≡ true
        → call_refusal (load o marks) s ≡ refused load_number (place_of load_number (id_at b (name_in at).name) (row_at at))
        → call_next (load o marks) s ≡ broken_links b → LoadLeft
    -- and that one's name issued besides
    but-its-name : (b : Links) (at : Element b) → (name_in at).found ≡ true → MetAt at → one_of load_number (named_at at) ≡ true
        → call_refusal (load o marks) s ≡ refused load_number (row_at at) → call_next (load o marks) s ≡ broken_links (with_name b (name_in at).name) → LoadLeft
