-- What the calls return, and every lent cell after them.
-- Assumes nothing.
use Rattle.std.specs.Prelude.{ℕ, cond, List}
use Rattle.link.specs.declared.Link.{Link}
use Rattle.link.specs.Judge.{going_of}
use Rattle.section_groups.specs.Group as Group
use Rattle.section_groups.specs.AddGroup as AddGroup
use Rattle.merge_stages.specs.Stages.{All, all_of, Object}
use Rattle.merge_elf.specs.Merge.{Left, merge_of}
use Rattle.ffi_cells.specs.Header.{is_short, link_in, refused_of, Told, told, tell_of}

-- ---- a group

pub record GroupLeft : Type 0 where
  pub told : Told
  pub bytes : List ℕ
  pub names : List ℕ
  pub work : List ℕ

abbrev pub group_left : Told → List ℕ → List ℕ → List ℕ → GroupLeft
group_left t b n w = record { told = t; bytes = b; names = n; work = w }

abbrev pub group_told : List ℕ → AddGroup.Left → GroupLeft
group_told h w = group_left (tell_of h w.outcome.link (refused_of w.said)) w.bytes w.names w.work

unfoldable pub group_call : List ℕ → Group.Object → List ℕ → List ℕ → List ℕ → ℕ → GroupLeft
group_call h o b n w section =
    cond (is_short h) (group_left (told 1 h) b n w) (group_told h (AddGroup.add_group_of o (AddGroup.state_of b n w (link_in h)) section))

-- ---- an object

-- the lent cells that a merge may write
pub record Rows : Type 0 where
  pub bytes : List ℕ
  pub names : List ℕ
  pub symbols : List ℕ
  pub sections : List ℕ
  pub inputs : List ℕ
  pub lists : List ℕ
  pub work : List ℕ
  pub ids : List ℕ

abbrev pub rows_of : List ℕ → List ℕ → List ℕ → List ℕ → List ℕ → List ℕ → List ℕ → List ℕ → Rows
rows_of b n s x i l w d = record { bytes = b; names = n; symbols = s; sections = x; inputs = i; lists = l; work = w; ids = d }

abbrev pub rows_in : All → Rows
rows_in a = rows_of a.bytes a.names a.symbols a.sections a.inputs a.lists a.work a.ids

abbrev pub with_link : Rows → Link → All
with_link r l = all_of r.bytes r.names r.symbols r.sections r.inputs r.lists r.work r.ids (going_of l)

pub record MergeLeft : Type 0 where
  pub told : Told
  pub rows : Rows

abbrev pub merge_left : Told → Rows → MergeLeft
merge_left t r = record { told = t; rows = r }

abbrev pub merge_told : List ℕ → Left → MergeLeft
merge_told h w = merge_left (tell_of h w.cells.stage.link (refused_of w.said)) (rows_in w.cells)

unfoldable pub merge_call : List ℕ → Object → Rows → MergeLeft
merge_call h o r = cond (is_short h) (merge_left (told 1 h) r) (merge_told h (merge_of o (with_link r (link_in h))))
