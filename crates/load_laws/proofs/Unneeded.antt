-- How a load ends, by its head and its need: refused at the head, "not needed", loaded, or refused after the head.
-- Assumes nothing.
use Rattle.shared_objects.specs.declared.Load.{Load}
use Rattle.shared_objects.specs.declared.Load.TheVariants.{NotNeeded, Loaded}
use Rattle.std.specs.Prelude.{ℕ, ◌≤◌, refl, Bool, true, false, List, eqb, ltb, length, Result, Ok, Err}
use native.Mathlib.Omega.{arith}
use Rattle.std.proofs.Math.Path.{◌≡◌}
use Rattle.std.proofs.Common.{sym, ap, ◌∙◌}
use borrow.Author.Tests.{eq-eqb, ne_eqb, eqb-true, eqb-false, ltb-false}
use Rattle.cells.specs.Proof.Split.{by-test}
use Rattle.byte_slices.specs.Proof.Ways.{pick, apart}
use Rattle.link.specs.declared.Link.{Link}
use Rattle.link.specs.declared.Lent.{Lent}
use Rattle.link.specs.declared.cause.Refusal.{Refusal}
use Rattle.link.specs.Stage.{Stage}
use Rattle.link.specs.Judge.{change_of}
use Rattle.shared_objects.specs.Head.{rows_of, unnamed_of, marks_short, name_refusal, after_rows, check_of}
use Rattle.shared_objects.specs.Need.{Judged, need_of}
use Rattle.shared_objects.specs.declared.Outcome.{Outcome}
use Rattle.shared_objects.specs.Load.{All, Input, Left, left, want_of, ended_as, marked, wanted_of, library_named, head_in, name_of, load_of}
use Rattle.load_laws.specs.Needed.{Needed}
use Rattle.load_laws.proofs.Exact.{needed-sound, needed-complete}

-- ---- what the head lets through has a mark for each name

module _ (l : Link) (archived sonamed : Bool) (soname : ℕ) (marks : ℕ) where
  named-marks : (name_refusal l archived sonamed true marks).number ≡ 0 → l.names ≤ marks
  unfolding name_refusal marks_short
  named-marks =
      pick (λ (r : Refusal). r.number ≡ 0 → l.names ≤ marks) (unnamed_of archived sonamed) _ _ (λ t e. absurd (omega arith))
      (λ t.
      by-test (ltb marks l.names) (λ u e. absurd (omega (arith, simp u at e)))
      (λ u e. ltb-false _ _ u))

  pub head-marks : (n : Lent) (entries file needs : List ℕ) → (check_of l n entries file needs archived sonamed soname true marks).number ≡ 0 → l.names ≤ marks
  unfolding check_of after_rows
  head-marks n entries file needs =
      pick (λ (r : Refusal). r.number ≡ 0 → l.names ≤ marks) (eqb (change_of l n).number 0) _ _
      (λ t.
      pick (λ (r : Refusal). r.number ≡ 0 → l.names ≤ marks) (eqb (rows_of entries file needs sonamed soname).number 0) _ _ (λ u. named-marks)
      (λ u e. absurd (eqb-false _ _ u e)))
      (λ t e. absurd (eqb-false _ _ t e))

-- ---- a library that is loaded isn't answered so

differ : (r : Refusal) → Err r ≡ Ok NotNeeded → ⊥
differ r e = let z : ◌≡◌ {A = ℕ} 0 1 = cc in omega arith

loaded : ◌≡◌ {A = Result Load Refusal} (Ok Loaded) (Ok NotNeeded) → ⊥
loaded e = let z : ◌≡◌ {A = ℕ} 0 1 = cc in omega arith

ended-other : (s : Stage) → (ended_as s).answer ≡ Ok NotNeeded → ⊥
unfolding ended_as
ended-other s =
    pick (λ (r : Outcome). r.answer ≡ Ok NotNeeded → ⊥) (eqb s.number 0) _ _ (λ t e. loaded e) (λ t e. differ _ e)

module _ (o : Input) (a : All) where
  abbrev after : Left
  after = load_of o a

  abbrev want : Judged
  want = want_of o.asneeded a.link a.bytes a.names a.symbols a.inputs a.lists a.marks o.entries o.image (name_of o)

  abbrev IsNeeded : Type 0
  IsNeeded = Needed a.link a.bytes a.names a.symbols a.inputs a.lists o.entries o.image (name_of o)

  -- the link, and every cell but the marks
  pub not-needed-leaves : after.answer ≡ Ok NotNeeded → after.cells ≡ marked a after.cells.marks
  unfolding load_of library_named wanted_of
  not-needed-leaves =
      pick (λ (t : Left). t.answer ≡ Ok NotNeeded → t.cells ≡ marked a t.cells.marks) (eqb (head_in o a).number 0) _ _
      (λ t.
      pick (λ (t : Left). t.answer ≡ Ok NotNeeded → t.cells ≡ marked a t.cells.marks) want.needed _ _ (λ u e. absurd (ended-other _ e))
      (λ u e. refl))
      (λ t e. absurd (differ _ e))

  pub head-leaves : ((head_in o a).number ≡ 0 → ⊥) → after ≡ left a (Err (head_in o a))
  unfolding load_of
  head-leaves n = simp (ne_eqb _ _ n)

  -- ---- exactly the unneeded ones

  unwanted : after.answer ≡ Ok NotNeeded → ((head_in o a).number ≡ 0) × (want.needed ≡ false)
  unfolding load_of library_named wanted_of
  unwanted =
      pick (λ (t : Left). t.answer ≡ Ok NotNeeded → ((head_in o a).number ≡ 0) × (want.needed ≡ false)) (eqb (head_in o a).number 0) _ _
      (λ t.
      pick (λ (s : Left). s.answer ≡ Ok NotNeeded → ((head_in o a).number ≡ 0) × (want.needed ≡ false)) want.needed _ _
      (λ u e. absurd (ended-other _ e)) (λ u e. (eqb-true _ _ t, u)))
      (λ t e. absurd (differ _ e))

  asked : want.needed ≡ false → o.asneeded ≡ true
  unfolding want_of
  asked e = by-test o.asneeded (λ t. t) (λ t. absurd (apart (sym (simp t at e))))

  judged : o.asneeded ≡ true → want ≡ need_of a.link a.bytes a.names a.symbols a.inputs a.lists a.marks o.entries o.image (name_of o)
  unfolding want_of
  judged e = simp e

  room : (head_in o a).number ≡ 0 → o.asneeded ≡ true → a.link.names ≤ length a.marks
  room h e = head-marks a.link o.archived o.sonamed o.soname (length a.marks) _ o.entries o.image o.needs (rw e at h)

  pub not-needed-only : after.answer ≡ Ok NotNeeded → ((head_in o a).number ≡ 0) × (o.asneeded ≡ true) × (IsNeeded → ⊥)
  not-needed-only e =
      let u = unwanted e in
      let q = asked u.1 in (
        u.0,
        q,
        λ n. apart (sym u.1 ∙ ap (λ (j : Judged). j.needed) (judged q)
            ∙ needed-complete a.link a.bytes a.names a.symbols a.inputs a.lists a.marks o.entries o.image (name_of o) (room u.0 q) n),
      )

  pub not-needed-all : (head_in o a).number ≡ 0 → o.asneeded ≡ true → (IsNeeded → ⊥) → after.answer ≡ Ok NotNeeded
  unfolding load_of library_named wanted_of
  not-needed-all h q n =
      rw (eq-eqb _ _ h) (
      pick (λ (t : Left). t.answer ≡ Ok NotNeeded) want.needed _ _
      (λ u.
      absurd (n (needed-sound a.link a.bytes a.names a.symbols a.inputs a.lists a.marks o.entries o.image (name_of o) (room h q)
      (sym (ap (λ (j : Judged). j.needed) (judged q)) ∙ u))))
      (λ u. refl)
      )

  -- ---- a refusal inside the library

  ended-breaks : (s : Stage) (r : Refusal) → (ended_as s).answer ≡ Err r → (ended_as s).link.broken ≡ true
  unfolding ended_as
  ended-breaks s r =
      pick (λ (t : Outcome). t.answer ≡ Err r → t.link.broken ≡ true) (eqb s.number 0) _ _ (λ t e. absurd (no-refusal e)) (λ t e. refl)
    where
      no-refusal : (Ok Loaded) ≡ Err r → ⊥
      no-refusal e = let z : ◌≡◌ {A = ℕ} 0 1 = cc in omega arith

  pub refusal-breaks : (r : Refusal) → (head_in o a).number ≡ 0 → after.answer ≡ Err r → after.cells.link.broken ≡ true
  unfolding load_of library_named wanted_of
  refusal-breaks r h =
      rw (eq-eqb _ _ h) (
      pick (λ (t : Left). t.answer ≡ Err r → t.cells.link.broken ≡ true) want.needed _ _ (λ u e. ended-breaks _ r e)
      (λ u e. absurd (differ r (sym e)))
      )
