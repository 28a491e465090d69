-- What a link that owns its cells does, in the terms of the calls that it lends them to.
-- Assumes nothing.
use Rattle.std.specs.Prelude.{ℕ, ◌+◌, ◌*◌, ◌/◌, ◌≤◌, ◌≡◌, Bool, List, Option, Result, Ok, Err, OnOk, OnErr, get_or, length}
use Rattle.archive_walk.specs.declared.Walk.{Walk}
use Rattle.elf_file.specs.Contract.{answer_of}
use Rattle.elf_file.specs.Read.{Done, read_of}
use Rattle.elf_file.specs.declared.reading.Written.{Written}
use Rattle.gc_sections.specs.declared.Dropped.{Dropped}
use Rattle.gc_sections.specs.Run as Collection
use Rattle.interner.specs.Names.{find_of}
use Rattle.link.specs.Counts.{no_rows}
use Rattle.link.specs.declared.Link.{Link}
use Rattle.link.specs.declared.SymbolId.{SymbolId}
use Rattle.merge_stages.specs.Stages.{Object}
use Rattle.object_requirement.specs.Matches.{matches_of}
use Rattle.symbol.specs.declared.Symbol.{Symbol}
use Rattle.symbols.specs.Calls.{made_of}
use Rattle.symbols.specs.Lookup.{get_global_of}
use Rattle.symbols.specs.New.{new_outcome, new_of}
use Rattle.symbols.specs.Outcome.{Outcome}
use Rattle.gabi.specs.File.{bytes_at}
use Rattle.link.specs.declared.cause.Refusal.{Refusal}
use Rattle.merge_stages.specs.Stages.{All, all_of}
use Rattle.merge_elf.specs.Merge.{leave}
use Rattle.merge_file.specs.MergeFile.{file_left, merge_file_of, cut_of, reading_of}
use Rattle.merge_stages.specs.Stages as Stages
use Rattle.owned_link.specs.declared.OwnedLink.{OwnedLink}

-- ---- what is held

-- no link yet, and that many cells
pub record Roomy (t : OwnedLink) : Type 0 where
  pub link : t.link ≡ no_rows
  pub bytes : length t.bytes.items ≡ 1048576
  pub names : length t.names.items ≡ 589824
  pub symbols : length t.symbols.items ≡ 524280
  pub sections : length t.sections.items ≡ 589815
  pub inputs : length t.inputs.items ≡ 32760
  pub lists : length t.lists.items ≡ 4194304
  pub work : length t.work.items ≡ 524280
  pub ids : length t.ids.items ≡ 65535
  pub rows : length t.rows.items ≡ 4194304
  pub marks : length t.marks.items ≡ 65535

-- ---- a new link

abbrev pub made_as : Link → Result Unit Refusal → Outcome
made_as l (Ok u) = made_of (Ok (record { link = l }))
made_as l (Err r) = made_of (Err r)

-- the rows that a new link is made of, the link and the answer; a refusal leaves the link, and nothing else is written
pub record Begins (key : ℕ) (gabi : Bool) (old new : OwnedLink) (answer : Result Unit Refusal) : Type 0 where
  pub made : new_outcome new.bytes.items new.names.items new.symbols.items new.sections.items (made_as new.link answer)
      ≡ new_of key gabi old.bytes.items old.names.items old.symbols.items old.sections.items
  pub link : OnErr answer (new.link ≡ old.link)
  pub inputs : new.inputs.items ≡ old.inputs.items
  pub lists : new.lists.items ≡ old.lists.items
  pub work : new.work.items ≡ old.work.items
  pub ids : new.ids.items ≡ old.ids.items
  pub rows : new.rows.items ≡ old.rows.items
  pub marks : new.marks.items ≡ old.marks.items

-- ---- merges

-- all that a merge may write
abbrev pub all_in : OwnedLink → All
all_in t =
    (Stages.link_before
    (record {
      entry = Stages.cells_of t.bytes.items t.names.items t.symbols.items t.sections.items t.inputs.items t.lists.items t.work.items t.ids.items;
      exit = Stages.cells_of t.bytes.items t.names.items t.symbols.items t.sections.items t.inputs.items t.lists.items t.work.items t.ids.items;
    })
    t.link)

-- the merge of a file: every cell that it may write, the link and the answer; the marks stay
pub record MergesFile (old : OwnedLink) (image : List ℕ) (new : OwnedLink) (answer : Result Unit Refusal) : Type 0 where
  pub merged : file_left new.rows.items (leave (all_in new) new.link answer) ≡ merge_file_of image old.rows.items (all_in old)
  pub marks : new.marks.items ≡ old.marks.items

-- part k of a file, by a list of places: where each starts, and how many bytes it has
abbrev pub part_at : List ℕ → List ℕ → ℕ → List ℕ
part_at file places k = bytes_at file (get_or places (k * 2) 0) (get_or places (k * 2 + 1) 0)

-- so many parts, merged in order: each in the link that the one before left, none behind a refusal
pub data MergesAll (file places : List ℕ) (old : OwnedLink) : ℕ → OwnedLink → Result Unit Refusal → Type 0 where
  none : MergesAll file places old 0 old (Ok tt)
  more : {k : ℕ} {new : OwnedLink} {answer : Result Unit Refusal} → (mid : OwnedLink) → MergesAll file places old k mid (Ok tt)
      → MergesFile mid (part_at file places k) new answer → MergesAll file places old (k + 1) new answer

-- as many as there are, unless one is refused: that is the last
pub record RunsAll (file places : List ℕ) (old new : OwnedLink) (answer : Result Unit Refusal) : Type 0 where
  pub count : ℕ
  pub within : count ≤ length places / 2
  pub merged : MergesAll file places old count new answer
  pub whole : OnOk answer (count ≡ length places / 2)

-- ---- what is looked up

abbrev pub Finds : OwnedLink → List ℕ → Result Symbol Refusal → Type 0
Finds t name answer = answer ≡ get_global_of t.link t.names.items t.symbols.items (record { 0 = find_of t.bytes.items t.names.items t.link name })

-- ---- admission of an object's file

-- the file isn't read, or what it says
abbrev pub admitted : Link → List ℕ → Walk → List ℕ → List ℕ → ℕ → List ℕ → Result Written Refusal → Result Bool Refusal
admitted l image walk index cells entry rows (Err r) = Err r
admitted l image walk index cells entry rows (Ok w) =
    matches_of l (cut_of image rows (reading_of w)).headers (cut_of image rows (reading_of w)).entries (cut_of image rows (reading_of w)).contents (cut_of image rows (reading_of w)).image index cells walk entry

abbrev pub admitted_by : Link → List ℕ → Walk → List ℕ → List ℕ → ℕ → Done → Result Bool Refusal
admitted_by l image walk index cells entry d = admitted l image walk index cells entry d.cells (answer_of d.answer)

-- the rows are those that a read of the file leaves; of the link nothing is written
pub record Admits (old : OwnedLink) (image : List ℕ) (walk : Walk) (index cells : List ℕ) (entry : ℕ) (new : OwnedLink) (answer : Result Bool Refusal) : Type 0 where
  pub answers : answer ≡ admitted_by old.link image walk index cells entry (read_of image old.rows.items)
  pub rows : new.rows.items ≡ (read_of image old.rows.items).cells
  pub link : all_in new ≡ all_in old
  pub marks : new.marks.items ≡ old.marks.items

-- ---- a collection

-- of the link as it is held; nothing but what a collection writes is written
pub record Collects (old : OwnedLink) (entry : Option SymbolId) (new : OwnedLink) (answer : Result Dropped Refusal) : Type 0 where
  pub collected : Collection.left new.symbols.items new.sections.items new.work.items new.link answer
      ≡ Collection.run_of old.link (Collection.lists_of old.bytes.items old.names.items old.lists.items old.marks.items) old.symbols.items old.sections.items entry old.work.items
  pub bytes : new.bytes.items ≡ old.bytes.items
  pub names : new.names.items ≡ old.names.items
  pub inputs : new.inputs.items ≡ old.inputs.items
  pub lists : new.lists.items ≡ old.lists.items
  pub ids : new.ids.items ≡ old.ids.items
  pub rows : new.rows.items ≡ old.rows.items
  pub marks : new.marks.items ≡ old.marks.items
