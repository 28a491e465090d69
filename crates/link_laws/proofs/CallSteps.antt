-- What each call writes of the table, as steps that are accepted one by one; a call that removes nothing is its steps.
-- Assumes nothing.
use Prim.Native.Nat.{ℕ, ◌/◌}
use Rattle.std.proofs.Common.{arith, ◌∙◌, subst, eqb-true}
use Rattle.std.proofs.Math.Path.{◌≡◌, sym, ap}
use Rattle.std.specs.Prelude.{true, List, [], eqb, length}
use Rattle.std.proofs.lemmas.Bool.{eqb-false}
use Rattle.cells.specs.Proof.Split.{by-test}
use Rattle.link.specs.declared.Link.{Link}
use Rattle.link.specs.declared.Interned.{Interned}
use Rattle.link.specs.declared.cause.Refusal.{Refusal}
use Rattle.link.specs.Stage.{Stage}
use Rattle.link.specs.Judge.{change_of}
use Rattle.strings.specs.Lookup.{Looked}
use Rattle.interner.specs.Names.{Store, store_of, keep_of}
use Rattle.symbols.specs.Remove.{Rows}
use Rattle.elf_object.specs.Rows.{is_loaded}
use Rattle.elf_object.specs.Judge as Elf
use Rattle.section_groups.specs.Group as Group
use Rattle.section_groups.specs.Group.{Plan}
use Rattle.section_groups.specs.Group.{shape_of, signature_of, plan_of, commit_group_of, decided_of, group_named, signed_of, shaped_of, group_of, group_section_of, go}
use Rattle.section_groups.specs.AddGroup as AddGroup
use Rattle.section_groups.specs.AddGroup.{check_of, head_in, lent, rows_refusal, marks_refusal, answer_of, table_in, loaded_in, add_group_of}
use Rattle.symbol_laws.specs.History.{State, with_rows}
use Rattle.merge_laws.specs.Steps.{Step, log_steps, Makes}
use Rattle.merge_laws.proofs.Steps.{makes_none}
use Rattle.merge_laws.specs.MergeSteps.{signed_steps, group_section_steps}
use Rattle.merge_laws.proofs.GroupStage.{section-makes}
use Rattle.link_laws.specs.CallSteps.{at, group_steps}

-- ---- a list of adds

-- ---- a group added by itself

module _ (o : Group.Object) (t : State) (work : List ℕ) (n : ℕ) where
  abbrev pub head_number : ℕ
  head_number = (head_in o (at o t work n) n).number

  pub head-loaded : (head_in o (at o t work n) n).number ≡ 0 → is_loaded o.headers n 7 ≡ true
  unfolding check_of rows_refusal marks_refusal
  head-loaded e =
      let change : Refusal = change_of (at o t work n).link (lent (at o t work n)) in
      let rows : Refusal = Elf.judge_of o.headers o.entries (length o.contents) (length o.image) in
      by-test (eqb change.number 0)
      (λ a.
      by-test (eqb rows.number 0)
      (λ b.
      by-test (is_loaded o.headers n 7) (λ c. c) (λ c. let q : ◌≡◌ {A = ℕ} 1 0 = rw (a, b, c) at e in absurd (omega arith)))
      (λ b. absurd (eqb-false _ _ b (rw (a, b) at e))))
      (λ a. absurd (eqb-false _ _ a (rw a at e)))

  pub section-is : is_loaded o.headers n 7 ≡ true → group_section_of (loaded_in o) (go (at o t work n)) n ≡ group_of (loaded_in o) (at o t work n) n
  unfolding group_section_of
  section-is e = rw e

  answer-link : (s : Stage) → (answer_of s).link ≡ s.link
  unfolding answer_of
  answer-link s = by-test (eqb s.number 0) (λ a. rw a) (λ a. rw a)

  abbrev pub grouped : AddGroup.Left → State
  grouped x = record { bytes = x.bytes; names = x.names; symbols = t.symbols; sections = t.sections; link = x.outcome.link }

  abbrev stepped : Group.Step → State
  stepped g = record { bytes = g.bytes; names = g.names; symbols = t.symbols; sections = t.sections; link = g.stage.link }

  pub answered-is : (g : Group.Step) → grouped (AddGroup.answered g) ≡ stepped g
  answered-is g =
      ap (λ (l : Link). record { bytes = g.bytes; names = g.names; symbols = t.symbols; sections = t.sections; link = l }) (answer-link g.stage)

  pub group-makes : Makes t (group_steps o t work n) (grouped (add_group_of o (at o t work n) n))
  unfolding add_group_of
  group-makes =
      by-test (eqb (head_in o (at o t work n) n).number 0)
      (λ a.
      let e : stepped (group_section_of (loaded_in o) (go (at o t work n)) n) ≡ grouped (AddGroup.answered (group_of (loaded_in o) (at o t work n) n)) =
      ap stepped (section-is (head-loaded (eqb-true _ _ a))) ∙ sym (answered-is (group_of (loaded_in o) (at o t work n) n)) in
      rw a (subst (Makes t (group_section_steps (loaded_in o) (go (at o t work n)) n)) e (section-makes t.symbols t.sections (loaded_in o) (go (at o t work n)) n)))
      (λ a. rw a (makes_none t))

  -- no row is added
  section-log : (g : Group.Step) → log_steps (group_section_steps (loaded_in o) g n) t ≡ []
  unfolding group_section_steps signed_steps
  section-log g =
      by-test (is_loaded o.headers n 7)
      (λ a. by-test (eqb (group_section_of (loaded_in o) g n).stage.number 0) (λ b. rw (a, b)) (λ b. rw (a, b))) (λ a. rw a)

  pub group-log : [] ≡ log_steps (group_steps o t work n) t
  group-log = by-test (eqb (head_in o (at o t work n) n).number 0) (λ a. rw a (sym (section-log (go (at o t work n))))) (λ a. rw a)

  -- what names don't touch of the link stays
  module _ {A : Type 0} (count : Link → A) (same : (s : Store) (id : Interned) (x : List ℕ) → count (keep_of s id x).link ≡ count s.link) where
    group-same : count (group_of (loaded_in o) (at o t work n) n).stage.link ≡ count t.link
    unfolding group_of shaped_of signed_of group_named decided_of commit_group_of
    group-same =
        let x : Looked = signature_of o.headers (table_in o.headers o.entries o.table) o.image o.table n in
        let listed : List ℕ = Group.listed_in o n in
        let p : Plan = plan_of t.link t.bytes t.names (length work / 8) x.name listed in
        by-test (eqb (shape_of (loaded_in o) work n) 0)
        (λ a.
        by-test x.found
        (λ b.
        by-test (eqb p.number 0) (λ c. rw (a, b, c) (same (store_of t.bytes t.names t.link) p.signature x.name)) (λ c. rw (a, b, c)))
        (λ b. rw (a, b)))
        (λ a. rw a)

    pub group-count : count (add_group_of o (at o t work n) n).outcome.link ≡ count t.link
    unfolding add_group_of
    group-count =
        by-test (eqb (head_in o (at o t work n) n).number 0) (λ a. rw a (ap count (answer-link (group_of (loaded_in o) (at o t work n) n).stage) ∙ group-same)) (λ a. rw a)

-- ---- every call

-- ---- every call, removing ones too

-- it is its steps, or writes symbol rows and section rows alone and leaves the counts
pub data Leads (s : State) (ks : List Step) (t : State) : Type 0 where
  made : Makes s ks t → Leads s ks t
  cleared : (x : Rows) → ks ≡ [] → t ≡ with_rows s x s.link → Leads s ks t
