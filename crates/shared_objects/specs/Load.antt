-- Document 01, "Shared objects": "Under as-needed, an unneeded library answers "not needed" and changes nothing".
-- Assumes nothing.
use Rattle.shared_objects.specs.declared.Load.TheVariants.{NotNeeded, Loaded}
use Rattle.shared_objects.specs.declared.Load.{Load}
use Rattle.std.specs.Prelude.{ℕ, Bool, true, cond, List, eqb, length, Result, Ok, Err}
use denote.Triple.Both.{Both}
use Rattle.link.specs.declared.Link.{Link}
use Rattle.link.specs.declared.cause.Refusal.{Refusal}
use Rattle.link.specs.Stage.{Stage}
use Rattle.link.specs.Said.{Said, accepted, refusing}
use Rattle.link.specs.Judge.{refused, going_of, broken_of}
use Rattle.link.specs.Counts.{lent_of}
use Rattle.shared_objects.specs.Head.{check_of}
use Rattle.shared_objects.specs.Need.{Judged, judged_as, need_of, library_name}
use Rattle.cells.specs.Slice.{Slice, SliceMut}
use Rattle.shared_objects.specs.declared.Outcome.{Outcome}
use Rattle.shared_objects.specs.Stages.{Links, links_of, library_of}

-- every lent cell that a load may write, and the link
pub record All : Type 0 where
  pub bytes : List ℕ
  pub names : List ℕ
  pub symbols : List ℕ
  pub sections : List ℕ
  pub inputs : List ℕ
  pub lists : List ℕ
  pub marks : List ℕ
  pub link : Link

abbrev pub all_of : List ℕ → List ℕ → List ℕ → List ℕ → List ℕ → List ℕ → List ℕ → Link → All
all_of b n s x i l m k = record { bytes = b; names = n; symbols = s; sections = x; inputs = i; lists = l; marks = m; link = k }

-- the cells that a load may write
pub record Cells : Type 0 where
  pub bytes : List ℕ
  pub names : List ℕ
  pub symbols : List ℕ
  pub sections : List ℕ
  pub inputs : List ℕ
  pub lists : List ℕ
  pub marks : List ℕ

abbrev pub cells_of : List ℕ → List ℕ → List ℕ → List ℕ → List ℕ → List ℕ → List ℕ → Cells
cells_of b n s x i l m = record { bytes = b; names = n; symbols = s; sections = x; inputs = i; lists = l; marks = m }

-- before the call and after it
abbrev pub cells_in : SliceMut → SliceMut → SliceMut → SliceMut → SliceMut → SliceMut → SliceMut → Both Cells Cells
cells_in b n s x i l m =
    record {
      entry = cells_of b.entry.now n.entry.now s.entry.now x.entry.now i.entry.now l.entry.now m.entry.now;
      exit = cells_of b.exit.now n.exit.now s.exit.now x.exit.now i.exit.now l.exit.now m.exit.now;
    }

-- with the cells before the call
abbrev pub link_before : Both Cells Cells → Link → All
link_before c l = all_of c.entry.bytes c.entry.names c.entry.symbols c.entry.sections c.entry.inputs c.entry.lists c.entry.marks l

-- the library: symbols, strings, offsets of the dependencies' names, the library name, unless archived, the soname's offset, if it has one
pub record Input : Type 0 where
  pub entries : List ℕ
  pub image : List ℕ
  pub needs : List ℕ
  pub path : List ℕ
  pub archived : Bool
  pub sonamed : Bool
  pub soname : ℕ
  pub asneeded : Bool

abbrev pub input_as : List ℕ → List ℕ → List ℕ → List ℕ → Bool → Bool → ℕ → Bool → Input
input_as e f n p a h s d =
    record { entries = e; image = f; needs = n; path = p; archived = a; sonamed = h; soname = s; asneeded = d }

-- as it is lent
abbrev pub library_in : Slice → Slice → Slice → Slice → Bool → Bool → ℕ → Bool → Input
library_in e f n p a h s d = input_as e.entry.now f.entry.now n.entry.now p.entry.now a h s d

-- what the answer says, in document 01's terms: loaded has the value 1, "not needed" 0
abbrev pub said_of : Result Load Refusal → Said
said_of (Ok Loaded) = accepted 1
said_of (Ok NotNeeded) = accepted 0
said_of (Err r) = refusing r

-- every lent cell, the link, the answer and what it says
pub record Left : Type 0 where
  pub cells : All
  pub answer : Result Load Refusal
  pub said : Said

abbrev pub left : All → Result Load Refusal → Left
left a answer = record { cells = a; answer = answer; said = said_of answer }

abbrev pub outcome : List ℕ → List ℕ → List ℕ → List ℕ → List ℕ → List ℕ → List ℕ → Outcome → Left
outcome b n s x i l m r = left (all_of b n s x i l m r.link) r.answer

-- with the cells after the call
abbrev pub outcome_after : Both Cells Cells → Outcome → Left
outcome_after c r = outcome c.exit.bytes c.exit.names c.exit.symbols c.exit.sections c.exit.inputs c.exit.lists c.exit.marks r

-- ---- whether it is loaded

-- need is judged under as-needed only; the marks hold what it marked
unfoldable pub want_of : Bool → Link → List ℕ → List ℕ → List ℕ → List ℕ → List ℕ → List ℕ → List ℕ → List ℕ → List ℕ → Judged
want_of asneeded l bytes names symbols inputs lists marks entries image x =
    cond asneeded (need_of l bytes names symbols inputs lists marks entries image x) (judged_as marks true)

-- ---- what is left

-- a starred refusal breaks the link; "that call's earlier elements stay merged"
unfoldable pub ended_as : Stage → Outcome
ended_as s =
    cond (eqb s.number 0) (record { link = s.link; answer = (Ok Loaded) })
    (record { link = broken_of s.link; answer = Err (refused s.number s.place) })

abbrev pub leave_links : List ℕ → Links → Outcome → Left
leave_links marks s r = outcome s.bytes s.names s.symbols s.sections s.inputs s.lists marks r

abbrev pub leave_loaded : List ℕ → Links → Left
leave_loaded marks s = leave_links marks s (ended_as s.stage)

abbrev pub links_in : All → Links
links_in a = links_of a.bytes a.names a.symbols a.sections a.inputs a.lists (going_of a.link)

abbrev pub marked : All → List ℕ → All
marked a marks = all_of a.bytes a.names a.symbols a.sections a.inputs a.lists marks a.link

unfoldable pub wanted_of : List ℕ → List ℕ → List ℕ → All → List ℕ → Judged → Left
wanted_of entries image needs a x j =
    cond j.needed (leave_loaded j.marks (library_of entries image needs (links_in a) x)) (left (marked a j.marks) (Ok NotNeeded))

-- the library named x
unfoldable pub library_named : List ℕ → List ℕ → List ℕ → Bool → All → List ℕ → Left
library_named entries image needs asneeded a x =
    wanted_of entries image needs a x
    (want_of asneeded a.link a.bytes a.names a.symbols a.inputs a.lists a.marks entries image x)

-- ---- the call

abbrev pub head_in : Input → All → Refusal
head_in o a =
    check_of a.link
    (lent_of (length a.names) (length a.bytes) (length a.symbols) (length a.sections) (length a.inputs) (length a.lists))
    o.entries o.image o.needs o.archived o.sonamed o.soname o.asneeded (length a.marks)

abbrev pub name_of : Input → List ℕ
name_of o = library_name o.image o.path o.sonamed o.soname

-- 22, 1, 25 and too few marks leave all
unfoldable pub load_of : Input → All → Left
load_of o a =
    cond (eqb (head_in o a).number 0) (library_named o.entries o.image o.needs o.asneeded a (name_of o)) (left a (Err (head_in o a)))
