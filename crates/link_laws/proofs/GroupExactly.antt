-- Of `add_group` as a call of its own: the answer is that of the first rule that holds.
-- Assumes nothing.
use Rattle.std.specs.Prelude.{ℕ, ◌/◌, ◌≡◌, Bool, true, not, cond, List, [], ◌∷◌, ◌++◌, eqb, ltb, length}
use Rattle.std.proofs.Math.Path.{refl, ap}
use Rattle.std.proofs.Common.{sym, ◌∙◌}
use Rattle.cells.specs.Proof.Split.{by-test}
use Rattle.link.specs.Judge as Answer
use Rattle.link.specs.declared.cause.Refusal.{Refusal}
use Rattle.link.specs.Stage.{Stage}
use Rattle.link.specs.Judge.{refused, change_of, going_of}
use Rattle.elf_object.specs.Judge as Object
use Rattle.section_groups.specs.Group as Group
use Rattle.section_groups.specs.declared.alone.Outcome.{Outcome}
use Rattle.section_groups.specs.AddGroup as AddGroup
use Rattle.section_groups.specs.AddGroup.{marks_refusal, rows_refusal, check_of, head_in, answer_of, add_group_of}
use Rattle.interner_laws.specs.Good.{Chained}
use Rattle.symbol_laws.specs.History.{State, store}
use Rattle.merge_laws.specs.Calls.{Linked}
use Rattle.link_laws.specs.Calls.{add_group, group_in, call_refusal}
use Rattle.link_laws.specs.Rules.{Rule, ◌gives◌at◌, first_refusal, head_rules, numbered}
use Rattle.link_laws.proofs.Rules.{numbered-both, first-none, taken, left_out, headed, head-rules}
use Rattle.link_laws.specs.ObjectRules.{is_section, object_rules}
use Rattle.link_laws.proofs.ObjectExactly.{object-exactly, object-numbered}
use Rattle.link_laws.specs.GroupRules.{alone, is_noted, own_group_rules, group_head}
use Rattle.link_laws.proofs.MergeGroups.{loaded-is, group-exactly}

-- a result has place 0
answer-said : (s : Stage) (r : Refusal) → refused s.number s.place ≡ r → (eqb r.number 0 ≡ true → r ≡ refused 0 0) → Answer.refusal_in (answer_of s).answer ≡ r
unfolding answer_of
answer-said s r e q =
    by-test (eqb s.number 0)
    (λ a. ap (λ (x : Outcome). Answer.refusal_in x.answer) (taken _ _ a) ∙ sym (q (ap (λ (x : Refusal). eqb x.number 0) (sym e) ∙ a)))
    (λ a. ap (λ (x : Outcome). Answer.refusal_in x.answer) (left_out _ _ a) ∙ e)

module _ (o : Group.Object) (work : List ℕ) (n : ℕ) (s : Linked) where
  abbrev t : State
  t = s.table

  abbrev marks : ℕ
  marks = length work / 8

  abbrev rows : List Rule
  rows = object_rules o.headers o.entries o.contents o.image

  abbrev marks_rules : List Rule
  marks_rules = (not (is_section o.headers n 7) gives 1 at n) ∷ (ltb marks (length o.headers / 8) gives 2 at 0) ∷ []

  marks-exactly : marks_refusal o.headers (length work) n ≡ first_refusal marks_rules
  unfolding marks_refusal
  marks-exactly = rw (loaded-is o.headers n 7) (by-test (is_section o.headers n 7) (λ a. rw a) (λ a. rw a))

  own : rows_refusal o.headers (length work) n (Object.judge_of o.headers o.entries (length o.contents) (length o.image)) ≡ first_refusal (rows ++ marks_rules)
  unfolding rows_refusal
  own =
      headed marks_rules (λ (r : Refusal). r) rows (Object.judge_of o.headers o.entries (length o.contents) (length o.image)) _ _
      (object-numbered o.headers o.entries o.contents o.image) (object-exactly o.headers o.entries o.contents o.image) refl
      (λ e. marks-exactly)

  head-exactly : head_in o (group_in t work) n ≡ first_refusal (group_head o n t marks)
  unfolding check_of
  head-exactly =
      headed (rows ++ marks_rules) (λ (r : Refusal). r) (head_rules t.link (AddGroup.lent (group_in t work))) (change_of t.link (AddGroup.lent (group_in t work))) _ _ refl
      (head-rules t.link (AddGroup.lent (group_in t work))) refl (λ e. own)

  pub head-numbered : numbered (group_head o n t marks) ≡ true
  head-numbered = numbered-both rows marks_rules (object-numbered o.headers o.entries o.contents o.image) refl

  loaded-alone : AddGroup.loaded_in o ≡ alone o
  unfolding AddGroup.table_in
  loaded-alone =
      ap (λ (b : Bool). Group.object_of o.headers (cond b o.entries []) o.contents o.image o.table) (loaded-is o.headers o.table 3)

  pub add-group-exactly : Chained (store t) → call_refusal (add_group o work n) s ≡ first_refusal (group_head o n t marks ++ own_group_rules (alone o) n (is_noted work) t marks)
  unfolding add_group_of
  add-group-exactly c =
      let here = Group.step_of t.bytes t.names work (going_of t.link) in
      headed (own_group_rules (alone o) n (is_noted work) t marks) (λ (x : AddGroup.Left). x.said) (group_head o n t marks) (head_in o (group_in t work) n) _ _ head-numbered head-exactly refl
      (λ e.
      answer-said _ (first_refusal (own_group_rules (alone o) n (is_noted work) t marks))
      (group-exactly (AddGroup.loaded_in o) here n c (is_noted work) (λ m l. refl)
      ∙ ap (λ (x : Group.Object). first_refusal (own_group_rules x n (is_noted work) t marks)) loaded-alone)
      (λ z. first-none (own_group_rules (alone o) n (is_noted work) t marks) refl z))
