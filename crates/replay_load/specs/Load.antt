-- The load of the shared object that was told, with what is lent of each store.
-- Assumes nothing.
use Rattle.shared_objects.specs.declared.Load.TheVariants.{NotNeeded, Loaded}
use Rattle.link.specs.declared.cause.Refusal.{Refusal}
use Rattle.shared_objects.specs.declared.Load.{Load}
use Rattle.std.specs.Prelude.{ℕ, ◌-◌, ◌*◌, cond, List, length, take, nat_lt, Result, Ok, Err}
use denote.Triple.Both.{Both}
use Rattle.byte_slices.specs.Bytes.{part}
use Rattle.link.specs.declared.Link.{Link}
use Rattle.shared_objects.specs.Load.{All, all_of, Input, input_as, Left, load_of, Cells, cells_of}
use Rattle.replay_stores.specs.declared.Stores.{Stores}
use Rattle.replay_text.specs.declared.replies.Reply.{Reply}
use Rattle.replay_text.specs.declared.replies.Changed.{Changed}
use Rattle.replay_words.specs.declared.lend.Lend.{Lend}
use Rattle.replay_words.specs.Part as Part
use Rattle.replay_words.specs.Part.{rest_after}
use Rattle.replay_load.specs.declared.Library.{Library}

-- ---- the answer

abbrev pub reply_of : Result Load Refusal → Result Reply Refusal
reply_of (Ok Loaded) = Ok Reply.Loaded
reply_of (Ok NotNeeded) = Ok Reply.NotNeeded
reply_of (Err r) = Err r

unfoldable pub changed_as : Link → Result Load Refusal → Changed
changed_as l answer = record { table = record { link = l }; reply = reply_of answer }

-- ---- the shared object

-- cells of symbol rows, of which 256 have room
unfoldable pub entry_cells : ℕ → ℕ
entry_cells n = cond (nat_lt n 256) (n * 8) 2048

-- its string table begins with the soname
abbrev pub input_of : Library → List ℕ → List ℕ → Input
input_of o rows file =
    input_as (part rows 0 (entry_cells o.entries)) (part file o.path (o.bytes - o.path)) (part rows 2048 o.needs)
    (part file 0 o.path) o.archived o.sonamed 0 o.asneeded

-- ---- the load

pub record Done : Type 0 where
  pub bytes : List ℕ
  pub names : List ℕ
  pub symbols : List ℕ
  pub sections : List ℕ
  pub inputs : List ℕ
  pub lists : List ℕ
  pub marks : List ℕ
  pub changed : Changed

abbrev pub done_of : List ℕ → List ℕ → List ℕ → List ℕ → List ℕ → List ℕ → List ℕ → Changed → Done
done_of b n s x i l m c = record { bytes = b; names = n; symbols = s; sections = x; inputs = i; lists = l; marks = m; changed = c }

-- the stores' cells before the call and after it
abbrev pub cells_of_stores : Stores → Stores → Both Cells Cells
cells_of_stores s t =
    record {
      entry = cells_of s.bytes.now s.names.now s.symbols.now s.sections.now s.inputs.now s.lists.now s.ids.now;
      exit = cells_of t.bytes.now t.names.now t.symbols.now t.sections.now t.inputs.now t.lists.now t.ids.now;
    }

-- with the cells after the call
abbrev pub done_after : Both Cells Cells → Changed → Done
done_after c r = done_of c.exit.bytes c.exit.names c.exit.symbols c.exit.sections c.exit.inputs c.exit.lists c.exit.marks r

abbrev pub left_as : Left → Done
left_as t =
    done_of t.cells.bytes t.cells.names t.cells.symbols t.cells.sections t.cells.inputs t.cells.lists
    t.cells.marks (changed_as t.cells.link t.answer)

unfoldable pub load_all : Library → List ℕ → List ℕ → All → Done
load_all o rows file a = left_as (load_of (input_of o rows file) a)

-- ---- what is lent: the first cells of each store; the others stay

-- of inputs, lists and marks
abbrev pub lent_lists : Lend → All → All
lent_lists d a =
    all_of a.bytes a.names a.symbols a.sections (take (Part.rows_of d.inputs (length a.inputs)) a.inputs)
    (take (Part.cells_of d.lists (length a.lists)) a.lists) (take (Part.cells_of d.ids (length a.marks)) a.marks) a.link

abbrev pub back_lists : Lend → All → Done → Done
back_lists d a t =
    done_of t.bytes t.names t.symbols t.sections
    (rest_after t.inputs (Part.rows_of d.inputs (length a.inputs)) a.inputs)
    (rest_after t.lists (Part.cells_of d.lists (length a.lists)) a.lists)
    (rest_after t.marks (Part.cells_of d.ids (length a.marks)) a.marks) t.changed

unfoldable pub load_lists : Lend → Library → List ℕ → List ℕ → All → Done
load_lists d o rows file a = back_lists d a (load_all o rows file (lent_lists d a))

-- and of the other stores
abbrev pub lent_stores : Lend → All → All
lent_stores d a =
    all_of (take (Part.cells_of d.bytes (length a.bytes)) a.bytes) (take (Part.wide_rows_of d.names (length a.names)) a.names)
    (take (Part.rows_of d.symbols (length a.symbols)) a.symbols)
    (take (Part.wide_rows_of d.sections (length a.sections)) a.sections) a.inputs a.lists a.marks a.link

abbrev pub back_stores : Lend → All → Done → Done
back_stores d a t =
    done_of (rest_after t.bytes (Part.cells_of d.bytes (length a.bytes)) a.bytes)
    (rest_after t.names (Part.wide_rows_of d.names (length a.names)) a.names)
    (rest_after t.symbols (Part.rows_of d.symbols (length a.symbols)) a.symbols)
    (rest_after t.sections (Part.wide_rows_of d.sections (length a.sections)) a.sections) t.inputs t.lists t.marks t.changed

unfoldable pub load_lent : Lend → Library → List ℕ → List ℕ → All → Done
load_lent d o rows file a = back_stores d a (load_lists d o rows file (lent_stores d a))
