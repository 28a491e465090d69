-- What a collection returns, and every lent cell after it.
-- Assumes nothing.
use Rattle.link.specs.declared.SymbolId.{SymbolId}
use Rattle.std.specs.Prelude.{ℕ, Bool, cond, List, Option, None, Some}
use Rattle.gc_sections.specs.Run.{Said, Left, Lists, run_of}
use Rattle.plain_collector.specs.Run.{plain_of}
use Rattle.ffi_cells.specs.declared.header.Reply.{Reply}
use Rattle.ffi_cells.specs.Header.{is_short, link_in, Told, told, tell_of}

abbrev pub collected_reply : Said → Reply
collected_reply s =
    record { number = s.number; place = s.place; first = s.sections; second = s.symbols; third = 0; fourth = 0 }

unfoldable pub entry_of : Bool → ℕ → Option SymbolId
entry_of entered entry = cond entered (Some (record { 0 = entry })) None

pub record RunLeft : Type 0 where
  pub told : Told
  pub symbols : List ℕ
  pub sections : List ℕ
  pub work : List ℕ

abbrev pub run_left : Told → List ℕ → List ℕ → List ℕ → RunLeft
run_left t s x w = record { told = t; symbols = s; sections = x; work = w }

abbrev pub run_told : List ℕ → Left → RunLeft
run_told h w = run_left (tell_of h w.link (collected_reply w.said)) w.symbols w.sections w.work

unfoldable pub run_call : List ℕ → Lists → List ℕ → List ℕ → Option SymbolId → List ℕ → RunLeft
run_call h lists s x entry w = cond (is_short h) (run_left (told 1 h) s x w) (run_told h (run_of (link_in h) lists s x entry w))

unfoldable pub plain_call : List ℕ → Lists → List ℕ → List ℕ → Option SymbolId → List ℕ → RunLeft
plain_call h lists s x entry w = cond (is_short h) (run_left (told 1 h) s x w) (run_told h (plain_of (link_in h) lists s x entry w))
