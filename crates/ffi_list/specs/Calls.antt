-- What the call returns, and every lent cell after it.
-- Assumes nothing.
use Rattle.std.specs.Prelude.{ℕ, cond, List}
use Rattle.link.specs.declared.cause.Refusal.{Refusal}
use Rattle.symbol_resolution.specs.Apply.{table_of}
use Rattle.add_list.specs.AddList as Adds
use Rattle.add_list.specs.AddList.{items_of, add_list_of}
use Rattle.ffi_cells.specs.declared.header.Reply.{Reply}
use Rattle.ffi_cells.specs.Header.{is_short, link_in, Told, told, tell_of}

-- "that add's position is returned", beside number and place
abbrev pub reply_of : Refusal → ℕ → Reply
reply_of r position = record { number = r.number; place = r.place; first = position; second = 0; third = 0; fourth = 0 }

pub record ListLeft : Type 0 where
  pub told : Told
  pub names : List ℕ
  pub symbols : List ℕ
  pub sections : List ℕ
  pub ids : List ℕ

abbrev pub list_left : Told → List ℕ → List ℕ → List ℕ → List ℕ → ListLeft
list_left t n s x ids = record { told = t; names = n; symbols = s; sections = x; ids = ids }

abbrev pub list_told : List ℕ → Adds.ListLeft → ListLeft
list_told h w =
    list_left (tell_of h w.table.link (reply_of w.refusal w.position)) w.table.names w.table.symbols w.table.sections w.ids

unfoldable pub list_call : List ℕ → List ℕ → List ℕ → List ℕ → List ℕ → List ℕ → List ℕ → ListLeft
list_call h n s x conversion adds ids =
    cond (is_short h) (list_left (told 1 h) n s x ids) (list_told h (add_list_of conversion (items_of adds) (table_of n s x (link_in h)) ids))
