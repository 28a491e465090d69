-- The merge of the object that was told, with what is lent of each store.
-- Assumes nothing.
use Rattle.link.specs.declared.cause.Refusal.{Refusal}
use Rattle.std.specs.Prelude.{ℕ, List, length, take, Result, Ok, Err}
use denote.Triple.Both.{Both}
use Rattle.byte_slices.specs.Bytes.{part}
use Rattle.link.specs.declared.Link.{Link}
use Rattle.merge_stages.specs.Stages.{All, all_of, Cells, cells_of}
use Rattle.merge_stages.specs.Stages as Stages
use Rattle.merge_elf.specs.Merge.{Left, merge_of}
use Rattle.replay_stores.specs.declared.Stores.{Stores}
use Rattle.replay_text.specs.declared.replies.Reply.{Reply}
use Rattle.replay_text.specs.declared.replies.Changed.{Changed}
use Rattle.replay_words.specs.declared.lend.Lend.{Lend}
use Rattle.replay_words.specs.Part as Part
use Rattle.replay_words.specs.Part.{rest_after}
use Rattle.replay_object.specs.declared.Object.{Object}
use Rattle.replay_object.specs.Told.{headers_in, entries_in, contents_in}

-- ---- the answer

abbrev pub reply_of : Result Unit Refusal → Result Reply Refusal
reply_of (Ok tt) = Ok Reply.Merged
reply_of (Err r) = Err r

unfoldable pub changed_as : Link → Result Unit Refusal → Changed
changed_as l answer = record { table = record { link = l }; reply = reply_of answer }

-- ---- the merge

abbrev pub object_in : Object → List ℕ → List ℕ → Stages.Object
object_in o rows file = Stages.object_of (headers_in rows o) (entries_in rows o) (contents_in rows o) (part file 0 o.bytes) o.strings

pub record Done : Type 0 where
  pub bytes : List ℕ
  pub names : List ℕ
  pub symbols : List ℕ
  pub sections : List ℕ
  pub inputs : List ℕ
  pub lists : List ℕ
  pub work : List ℕ
  pub ids : List ℕ
  pub changed : Changed

abbrev pub done_of : List ℕ → List ℕ → List ℕ → List ℕ → List ℕ → List ℕ → List ℕ → List ℕ → Changed → Done
done_of b n s x i l w d c =
    record { bytes = b; names = n; symbols = s; sections = x; inputs = i; lists = l; work = w; ids = d; changed = c }

-- the stores' cells before the call and after it
abbrev pub cells_of_stores : Stores → Stores → Both Cells Cells
cells_of_stores s t =
    record {
      entry = cells_of s.bytes.now s.names.now s.symbols.now s.sections.now s.inputs.now s.lists.now s.work.now s.ids.now;
      exit = cells_of t.bytes.now t.names.now t.symbols.now t.sections.now t.inputs.now t.lists.now t.work.now t.ids.now;
    }

-- with the cells after the call
abbrev pub done_after : Both Cells Cells → Changed → Done
done_after c r =
    done_of c.exit.bytes c.exit.names c.exit.symbols c.exit.sections c.exit.inputs c.exit.lists c.exit.work c.exit.ids r

abbrev pub left_as : Left → Done
left_as t =
    done_of t.cells.bytes t.cells.names t.cells.symbols t.cells.sections t.cells.inputs t.cells.lists
    t.cells.work t.cells.ids (changed_as t.cells.stage.link t.answer)

unfoldable pub merge_all : Object → List ℕ → List ℕ → All → Done
merge_all o rows file a = left_as (merge_of (object_in o rows file) a)

-- ---- what is lent: the first cells of each store; the others stay

-- of inputs, lists and work cells
abbrev pub lent_lists : Lend → All → All
lent_lists d a =
    all_of a.bytes a.names a.symbols a.sections (take (Part.rows_of d.inputs (length a.inputs)) a.inputs)
    (take (Part.cells_of d.lists (length a.lists)) a.lists) (take (Part.rows_of d.work (length a.work)) a.work)
    (take (Part.cells_of d.ids (length a.ids)) a.ids) a.stage

abbrev pub back_lists : Lend → All → Done → Done
back_lists d a t =
    done_of t.bytes t.names t.symbols t.sections
    (rest_after t.inputs (Part.rows_of d.inputs (length a.inputs)) a.inputs)
    (rest_after t.lists (Part.cells_of d.lists (length a.lists)) a.lists)
    (rest_after t.work (Part.rows_of d.work (length a.work)) a.work)
    (rest_after t.ids (Part.cells_of d.ids (length a.ids)) a.ids) t.changed

unfoldable pub merge_lists : Lend → Object → List ℕ → List ℕ → All → Done
merge_lists d o rows file a = back_lists d a (merge_all o rows file (lent_lists d a))

-- and of the other stores
abbrev pub lent_stores : Lend → All → All
lent_stores d a =
    all_of (take (Part.cells_of d.bytes (length a.bytes)) a.bytes) (take (Part.wide_rows_of d.names (length a.names)) a.names)
    (take (Part.rows_of d.symbols (length a.symbols)) a.symbols)
    (take (Part.wide_rows_of d.sections (length a.sections)) a.sections) a.inputs a.lists a.work a.ids a.stage

abbrev pub back_stores : Lend → All → Done → Done
back_stores d a t =
    done_of (rest_after t.bytes (Part.cells_of d.bytes (length a.bytes)) a.bytes)
    (rest_after t.names (Part.wide_rows_of d.names (length a.names)) a.names)
    (rest_after t.symbols (Part.rows_of d.symbols (length a.symbols)) a.symbols)
    (rest_after t.sections (Part.wide_rows_of d.sections (length a.sections)) a.sections) t.inputs t.lists t.work t.ids
    t.changed

unfoldable pub merge_lent : Lend → Object → List ℕ → List ℕ → All → Done
merge_lent d o rows file a = back_stores d a (merge_lists d o rows file (lent_stores d a))
