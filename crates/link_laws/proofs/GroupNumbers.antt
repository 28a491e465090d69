-- The refusals of a group that is added by itself.
-- Assumes nothing.
use Rattle.std.specs.Prelude.{ℕ, ◌/◌, List, ◌∷◌, eqb, ltb, length}
use Rattle.std.proofs.Math.Path.{refl}
use Rattle.std.proofs.Common.{subst, eqb-true}
use Rattle.std.proofs.lemmas.Bool.{eqb-false}
use Rattle.cells.specs.Proof.Split.{by-test}
use Rattle.byte_slices.specs.Proof.Ways.{pick}
use Rattle.link.specs.Judge as Answer
use Rattle.link.specs.declared.cause.Refusal.{Refusal}
use Rattle.link.specs.Stage.{Stage}
use Rattle.link.specs.Judge.{change_of}
use Rattle.elf_object.specs.Rows.{rows_in, is_loaded}
use Rattle.elf_object.specs.Judge as Elf
use Rattle.section_groups.specs.Group as Group
use Rattle.section_groups.specs.Group.{group_of, group_section_of, go}
use Rattle.section_groups.specs.AddGroup as AddGroup
use Rattle.section_groups.specs.AddGroup.{check_of, head_in, rows_refusal, marks_refusal, answer_of, loaded_in, add_group_of}
use Rattle.symbol_laws.specs.History.{State}
use Rattle.merge_laws.proofs.Refusals.{group-left}
use Rattle.link_laws.specs.Calls.{group_in}
use Rattle.link_laws.proofs.CallSteps.{head-loaded, section-is}
use Rattle.merge_laws.proofs.ByNumber.{changed, elf-gives}
use Rattle.link_laws.proofs.Among.{one-within, Among}
use Rattle.merge_laws.specs.Table.{group_numbers}
use Rattle.link_laws.specs.Table.{add_group_numbers}

module _ (o : Group.Object) (t : State) (work : List ℕ) (n : ℕ) where
  abbrev at : Group.State
  at = group_in t work

  abbrev InGroup : ℕ → Type 0
  InGroup = Among add_group_numbers

  group-head : InGroup (head_in o at n).number
  unfolding check_of rows_refusal marks_refusal
  group-head =
      pick P (eqb (change_of t.link (AddGroup.lent at)).number 0) _ _
      (λ a.
      pick P (eqb (Elf.judge_of o.headers o.entries (length o.contents) (length o.image)).number 0) _ _
      (λ b.
      pick P (is_loaded o.headers n 7) _ _ (λ c. pick P (ltb (length work / 8) (rows_in o.headers)) _ _ (λ d. refl) (λ d. refl)) (λ c. refl))
      (λ b. elf-gives P (λ k. refl) refl o.headers o.entries (length o.contents) (length o.image)))
      (λ a. changed P refl (λ k. refl) refl t.link (AddGroup.lent at))
    where
      P : Refusal → Type 0
      P r = InGroup r.number

  answered-number : (s : Stage) → InGroup s.number → InGroup (Answer.refusal_in (answer_of s).answer).number
  unfolding answer_of
  answered-number s e = by-test (eqb s.number 0) (λ a. rw a) (λ a. rw a e)

  section-number : InGroup (group_section_of (loaded_in o) (go at) n).stage.number
  section-number =
      by-test (eqb (group_section_of (loaded_in o) (go at) n).stage.number 0) (λ a. rw a)
      (λ a.
      one-within (group_section_of (loaded_in o) (go at) n).stage.number group_numbers (0 ∷ add_group_numbers) refl
      (group-left (loaded_in o) (go at) n refl (eqb-false _ _ a)).number)

  pub group-numbers : InGroup (add_group_of o at n).said.number
  unfolding add_group_of
  group-numbers =
      by-test (eqb (head_in o at n).number 0)
      (λ a.
      rw a
      (answered-number (group_of (loaded_in o) at n).stage
      (subst (λ (g : Group.Step). InGroup g.stage.number) (section-is o t work n (head-loaded o t work n (eqb-true _ _ a))) section-number)))
      (λ a. rw a group-head)
