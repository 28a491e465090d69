-- The ways through admission.
-- Assumes nothing.
use Rattle.std.specs.Prelude.{ℕ, ◌≡◌, Bool, List, Result, Ok, Err}
use Rattle.std.proofs.Common.{sym, ap, ◌∙◌}
use Rattle.link.specs.declared.Link.{Link}
use Rattle.link.specs.declared.cause.Refusal.{Refusal}
use Rattle.archive_walk.specs.declared.Walk.{Walk}
use Rattle.elf_file.specs.Contract.{Exit, exit, exit_of, answer_of}
use Rattle.elf_file.specs.Read.{Done, read_of}
use Rattle.elf_file.specs.declared.reading.Written.{Written}
use Rattle.merge_stages.specs.Stages.{Object}
use Rattle.merge_file.specs.MergeFile.{cut_of, reading_of}
use Rattle.object_requirement.specs.Matches.{matches_of}
use Rattle.owned_link.specs.Owned.{admitted, admitted_by}

module _ (l : Link) (image : List ℕ) (walk : Walk) (index cells : List ℕ) (entry : ℕ) (d : Done) (rows : List ℕ) where
  pub cells-left : (r : Result Written Refusal) → exit rows r ≡ exit_of d → rows ≡ d.cells
  cells-left r e = ap (λ (x : Exit). x.cells) e

  by-answer : (r : Result Written Refusal) → exit rows r ≡ exit_of d → admitted l image walk index cells entry rows r ≡ admitted_by l image walk index cells entry d
  by-answer r e = ap (λ (x : Exit). admitted l image walk index cells entry x.cells x.answer) e

  pub unread : (q : Refusal) → exit rows (Err q) ≡ exit_of d → ◌≡◌ {A = Result Bool Refusal} (Err q) (admitted_by l image walk index cells entry d)
  unread q e = by-answer (Err q) e

  pub read : (w : Written) (a : Result Bool Refusal) (o : Object) → exit rows (Ok w) ≡ exit_of d → o ≡ cut_of image rows (reading_of w)
      → a ≡ matches_of l o.headers o.entries o.contents o.image index cells walk entry → a ≡ admitted_by l image walk index cells entry d
  read w a o e k q = q ∙ ap (λ (x : Object). matches_of l x.headers x.entries x.contents x.image index cells walk entry) k ∙ by-answer (Ok w) e
