-- A group that is added by itself: of several of one signature the first is kept.
-- Assumes nothing.
use Rattle.std.specs.Prelude.{ℕ, ◌≡◌, refl, ◌≢◌, Bool, false, not, List, [], ◌∷◌, ◌++◌, eqb, length}
use Rattle.std.proofs.Common.{arith, sym, ap, ◌∙◌}
use Rattle.std.proofs.Math.Bool.{true}
use Rattle.std.proofs.Math.Dec.{leb}
use borrow.Author.Tests.{eqb-true, eqb-false, eq-eqb, ne_eqb, le-leb}
use Rattle.cells.specs.Proof.Split.{by-test}
use Rattle.gabi.specs.StringTable.{among}
use Rattle.gabi.specs.Groups as Gabi
use Rattle.link.specs.Judge as Answer
use Rattle.link.specs.Stage.{Stage}
use Rattle.link.specs.Judge.{refused}
use Rattle.elf_object.specs.Rows.{rows_in, comdat_at, link_at, info_at, count_at, is_loaded}
use Rattle.section_groups.specs.Group as Group
use Rattle.section_groups.specs.Group.{all_fresh, listed_in, mark_group_of, mark_all, shape_of, shaped_of, group_of, group_section_of, go}
use Rattle.section_groups.specs.AddGroup.{head_in, answer_of, table_in, loaded_in, add_group_of}
use Rattle.symbol_laws.specs.History.{State}
use Rattle.merge_laws.specs.Marked.{marks_of, Marked}
use Rattle.merge_laws.proofs.GroupMarks.{kept_new, group-marks, group-signature}
use Rattle.link_laws.specs.Calls.{group_in}
use Rattle.link_laws.specs.CallSteps.{group_steps}
use Rattle.link_laws.proofs.CallSteps.{head-loaded, section-is}
use Rattle.link_laws.specs.GroupRules.{is_noted, lists_again}
use Rattle.link_laws.proofs.MergeGroups.{fresh-some}
use Rattle.link_laws.specs.GroupAlone.{signature, listed}

not-not : (b : Bool) → not (not b) ≡ b
not-not true = refl
not-not false = refl

module _ (o : Group.Object) (t : State) (work : List ℕ) (n : ℕ) where
  abbrev at : Group.State
  at = group_in t work

  accepted-stage : (s : Stage) → (Answer.refusal_in (answer_of s).answer).number ≡ 0 → s.number ≡ 0
  unfolding answer_of
  accepted-stage s e = by-test (eqb s.number 0) (λ a. eqb-true _ _ a) (λ a. absurd (eqb-false _ _ a (rw a at e)))

  -- an accepted one passes the head, and its section is accepted
  accepted-group : (add_group_of o at n).said.number ≡ 0
      → ((head_in o at n).number ≡ 0) × ((group_of (loaded_in o) at n).stage.number ≡ 0) × ((add_group_of o at n).work ≡ (group_of (loaded_in o) at n).work)
  unfolding add_group_of
  accepted-group e =
      by-test (eqb (head_in o at n).number 0) (λ a. rw a (eqb-true _ _ a, accepted-stage (group_of (loaded_in o) at n).stage (rw a at e), refl))
      (λ a. absurd (eqb-false _ _ a (rw a at e)))

  -- without entries of a loaded table its signature's symbol is missing
  shapeless : table_in o.headers o.entries o.table ≡ [] → (group_of (loaded_in o) at n).stage.number ≢ 0
  unfolding group_of shaped_of shape_of
  shapeless e =
      let none : leb 0 (info_at o.headers n) ≡ true = le-leb 0 (info_at o.headers n) (omega arith) in
      by-test (eqb (comdat_at o.headers n) 0) (λ a. rw (e, a) (eqb-false 4 0 refl))
      (λ a.
      by-test (eqb (count_at o.headers n) 0) (λ b. rw (e, a, b) (eqb-false 5 0 refl))
      (λ b.
      by-test (all_fresh work (rows_in o.headers) (listed_in o n))
      (λ f.
      by-test (eqb (link_at o.headers n) o.table) (λ c. rw (e, a, b, f, c, none) (eqb-false 6 0 refl)) (λ c. rw (e, a, b, f, c) (eqb-false 6 0 refl)))
      (λ f. rw (e, a, b, f) (eqb-false 29 0 refl))))

  loaded-is : (group_of (loaded_in o) at n).stage.number ≡ 0 → loaded_in o ≡ o
  unfolding table_in
  loaded-is z =
      by-test (is_loaded o.headers o.table 3) (λ a. rw a) (λ a. absurd (shapeless (rw a) z))

  -- one that lists sections, none of them again, in an object whose symbol table is excluded or isn't of kind 3: 6
  pub alone-unloaded : (head_in o at n).number ≡ 0 → comdat_at o.headers n ≢ 0 → count_at o.headers n ≢ 0
      → lists_again o n (is_noted work) ≡ false → is_loaded o.headers o.table 3 ≡ false
      → (add_group_of o at n).said ≡ refused 6 n
  unfolding add_group_of group_of shaped_of shape_of table_in answer_of
  alone-unloaded h comdat some once e =
      let fresh : all_fresh work (rows_in o.headers) (listed_in o n) ≡ true = fresh-some work (rows_in o.headers) (is_noted work) (listed_in o n) (λ m l. refl) ∙ ap not once in
      let none : leb 0 (info_at o.headers n) ≡ true = le-leb 0 (info_at o.headers n) (omega arith) in
      by-test (eqb (link_at o.headers n) o.table) (λ c. simp (eq-eqb _ _ h, ne_eqb _ _ comdat, ne_eqb _ _ some, fresh, e, c, none))
      (λ c. simp (eq-eqb _ _ h, ne_eqb _ _ comdat, ne_eqb _ _ some, fresh, e, c))

  pub alone-kept : (met : List (List ℕ)) → Marked t met → (add_group_of o at n).said.number ≡ 0 → (later : List (List ℕ))
      → (add_group_of o at n).work ≡ mark_all (mark_group_of work n) (not (Gabi.kept (met ++ signature o n ∷ later) (length met))) (listed o n)
  alone-kept met m e later =
      let (h, z, w) = accepted-group e in
      let l = head-loaded o t work n h in
      let q : group_section_of (loaded_in o) (go at) n ≡ group_of (loaded_in o) at n = section-is o t work n l in
      w ∙ ap (λ (g : Group.Step). g.work) (sym q)
      ∙ group-marks t.symbols t.sections (loaded_in o) (go at) met m n l (ap (λ (g : Group.Step). g.stage.number) q ∙ z)
      ∙ ap (λ (y : Group.Object). mark_all (mark_group_of work n) (among (signature y n) met) (listed y n)) (loaded-is z)
      ∙ ap (λ (b : Bool). mark_all (mark_group_of work n) b (listed o n))
      (sym (ap not (kept_new met (signature o n) later) ∙ not-not (among (signature o n) met)))

  -- its signature is the one more that is met
  pub alone-signature : (met : List (List ℕ)) → Marked t met → (add_group_of o at n).said.number ≡ 0 → marks_of (group_steps o t work n) t ≡ signature o n ∷ []
  alone-signature met m e =
      let (h, z, w) = accepted-group e in
      let l = head-loaded o t work n h in
      let q : group_section_of (loaded_in o) (go at) n ≡ group_of (loaded_in o) at n = section-is o t work n l in
      rw (eq-eqb (head_in o at n).number 0 h)
      (group-signature t.symbols t.sections (loaded_in o) (go at) met m n l (ap (λ (g : Group.Step). g.stage.number) q ∙ z)
      ∙ ap (λ (y : Group.Object). signature y n ∷ []) (loaded-is z))
