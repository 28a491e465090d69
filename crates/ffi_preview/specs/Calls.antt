-- What the call returns, and every lent cell after it.
-- Assumes nothing.
use Rattle.std.specs.Prelude.{ℕ, ◌||◌, cond, List}
use Rattle.link.specs.declared.Link.{Link}
use Rattle.link.specs.Judge.{going_of}
use Rattle.merge_stages.specs.Stages.{All, all_of, Object}
use Rattle.merge_elf.specs.Merge.{Left}
use Rattle.preview.specs.Preview.{Tables, preview_of}
use Rattle.ffi_cells.specs.Header.{is_short, link_in, refused_of, Told, told, tell_of, answer_of}
use Rattle.ffi_merge.specs.Calls.{Rows, rows_of, rows_in, with_link}

pub record PreviewLeft : Type 0 where
  pub told : Told
  pub copy : List ℕ
  pub rows : Rows

abbrev pub preview_left : Told → List ℕ → Rows → PreviewLeft
preview_left t c r = record { told = t; copy = c; rows = r }

abbrev pub with_header : List ℕ → Tables → Tables
with_header h t =
    record { bytes = t.bytes; names = t.names; symbols = t.symbols; sections = t.sections; inputs = t.inputs; lists = t.lists; link = link_in h }

-- the answer in both headers; of the link's nothing else
abbrev pub preview_told : List ℕ → List ℕ → Left → PreviewLeft
preview_told h c w =
    preview_left (answer_of h (refused_of w.said)) (tell_of c w.cells.stage.link (refused_of w.said)).header (rows_in w.cells)

unfoldable pub preview_call : List ℕ → List ℕ → Object → Tables → Rows → PreviewLeft
preview_call h c o t r =
    cond (is_short h || is_short c) (preview_left (told 1 h) c r) (preview_told h c (preview_of o (with_header h t) (with_link r (link_in c))))
