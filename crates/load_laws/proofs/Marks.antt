-- Of the names whose marks were cleared, those are marked that an earlier library records.
-- Assumes nothing.
use Prim.Native.Nat.{ℕ, zero, suc, ◌+◌, ◌<◌, ◌≤◌}
use Rattle.std.proofs.Common.{arith, sym, ◌∙◌, length-set, get_or-set_same, get_or-set_other}
use Rattle.std.specs.Prelude.{◌≡◌, refl, ◌⊎◌, eqb, get_or, set}
use mathlib.Core.List.{List, [], ◌∷◌}
use Rattle.std.proofs.Math.Logic.{inl, inr, ⊎_elim}
use Rattle.std.proofs.Math.ListN.{length}
use borrow.Author.Tests.{eqb-true, eqb-false, eq-eqb}
use Rattle.cells.specs.Proof.Split.{by-test}
use Rattle.byte_slices.specs.Proof.Ways.{pick}
use Rattle.shared_objects.specs.Need.{input_kind_at, dependencies_at, undefined_at, depends_on, mark_names, mark_library, mark_from, mark_all}
use Rattle.load_laws.specs.Needed.{Holds, Records}
use Rattle.load_laws.proofs.LawsLists.{here, later, none, head-or, depends-not, depends-so}

abbrev IsMarked : List ℕ → ℕ → Type 0
IsMarked marks id = get_or marks id 0 ≡ 1

pub length-names : (part marks : List ℕ) → length (mark_names marks part) ≡ length marks
unfolding mark_names
length-names [] marks = refl
length-names (n ∷ part) marks = length-names part (set marks n 1) ∙ length-set marks n 1

-- ---- one list of names

set-kept : (marks : List ℕ) (n id : ℕ) → id < length marks → IsMarked marks id → IsMarked (set marks n 1) id
set-kept marks n id h e =
    by-test (eqb id n) (λ t. rw (eqb-true id n t) (get_or-set_same marks n 1 0 (rw (eqb-true id n t) at h)))
    (λ t. get_or-set_other marks n id 1 0 (eqb-false id n t) ∙ e)

pub names-kept : (part marks : List ℕ) (id : ℕ) → id < length marks → IsMarked marks id → IsMarked (mark_names marks part) id
unfolding mark_names
names-kept [] marks id h e = e
names-kept (n ∷ part) marks id h e = names-kept part (set marks n 1) id (rw (length-set marks n 1) h) (set-kept marks n id h e)

pub names-held : (part marks : List ℕ) (id : ℕ) → id < length marks → Holds part id → IsMarked (mark_names marks part) id
unfolding mark_names
names-held [] marks id h k = absurd (none id k)
names-held (n ∷ part) marks id h k =
    let g : id < length (set marks n 1) = rw (length-set marks n 1) h in
    head-or part n id k (λ e. names-kept part (set marks n 1) id g (rw e (get_or-set_same marks id 1 0 h))) (λ m. names-held part (set marks n 1) id g m)

pub names-only : (part marks : List ℕ) (id : ℕ) → IsMarked (mark_names marks part) id → IsMarked marks id ⊎ Holds part id
unfolding mark_names
names-only [] marks id e = inl e
names-only (n ∷ part) marks id e =
    ⊎_elim
    (λ (m : IsMarked (set marks n 1) id).
    by-test (eqb n id) (λ t. inr (here part n id (eqb-true n id t)))
    (λ t. inl (sym (get_or-set_other marks n id 1 0 (λ q. eqb-false n id t (sym q))) ∙ m)))
    (λ h. inr (later part n id h)) (names-only part (set marks n 1) id e)

-- ---- one input

module _ (inputs lists : List ℕ) (self count : ℕ) where
  pub length-library : (k : ℕ) (marks : List ℕ) → length (mark_library inputs lists self count k marks) ≡ length marks
  unfolding mark_library
  length-library k marks =
      pick (λ (m : List ℕ). length m ≡ length marks) (eqb (input_kind_at inputs k) 2) _ _
      (λ t.
      pick (λ (m : List ℕ). length m ≡ length marks) (depends_on (dependencies_at inputs lists k) self count) _ _ (λ u. refl)
      (λ u. length-names (undefined_at inputs lists k) marks))
      (λ t. refl)

  module _ (k : ℕ) (marks : List ℕ) (id : ℕ) where
    pub library-kept : id < length marks → IsMarked marks id → IsMarked (mark_library inputs lists self count k marks) id
    unfolding mark_library
    library-kept h e =
        pick (λ (m : List ℕ). IsMarked m id) (eqb (input_kind_at inputs k) 2) _ _
        (λ t.
        pick (λ (m : List ℕ). IsMarked m id) (depends_on (dependencies_at inputs lists k) self count) _ _ (λ u. e)
        (λ u. names-kept (undefined_at inputs lists k) marks id h e))
        (λ t. e)

    pub library-recorded : id < length marks → Records inputs lists count self k id → IsMarked (mark_library inputs lists self count k marks) id
    unfolding mark_library
    library-recorded h r =
        rw (eq-eqb (input_kind_at inputs k) 2 r.library) (pick (λ (m : List ℕ). IsMarked m id) (depends_on (dependencies_at inputs lists k) self count) _ _
        (λ u. let d = depends-so _ _ _ u in absurd (r.unlisted d.0 d.1))
        (λ u. names-held (undefined_at inputs lists k) marks id h r.recorded))

    pub library-only : IsMarked (mark_library inputs lists self count k marks) id → IsMarked marks id ⊎ Records inputs lists count self k id
    unfolding mark_library
    library-only =
        pick (λ (m : List ℕ). IsMarked m id → IsMarked marks id ⊎ Records inputs lists count self k id) (eqb (input_kind_at inputs k) 2) _ _
        (λ t.
        pick (λ (m : List ℕ). IsMarked m id → IsMarked marks id ⊎ Records inputs lists count self k id)
        (depends_on (dependencies_at inputs lists k) self count) _ _ (λ u e. inl e)
        (λ u e.
        ⊎_elim (λ m. inl m) (λ h. inr (record { library = eqb-true _ _ t; unlisted = depends-not _ _ _ u; recorded = h }))
        (names-only (undefined_at inputs lists k) marks id e)))
        (λ t e. inl e)

  -- ---- n inputs from the k-th on

  pub record Recorded (id k n : ℕ) : Type 0 where
    pub one : ℕ
    pub from : k ≤ one
    pub below : one < k + n
    pub records : Records inputs lists count self one id

  pub from-kept : (n k : ℕ) (marks : List ℕ) (id : ℕ) → id < length marks → IsMarked marks id → IsMarked (mark_from inputs lists self count n k marks) id
  unfolding mark_from
  from-kept zero k marks id h e = e
  from-kept (suc n) k marks id h e =
      from-kept n (k + 1) (mark_library inputs lists self count k marks) id (rw (length-library k marks) h) (library-kept k marks id h e)

  pub from-recorded : (n k : ℕ) (marks : List ℕ) (id one : ℕ) → id < length marks → k ≤ one → one < k + n → Records inputs lists count self one id
      → IsMarked (mark_from inputs lists self count n k marks) id
  unfolding mark_from
  from-recorded zero k marks id one h a b r = absurd (omega arith)
  from-recorded (suc n) k marks id one h a b r =
      let g : id < length (mark_library inputs lists self count k marks) = rw (length-library k marks) h in
      by-test (eqb one k)
      (λ t. from-kept n (k + 1) (mark_library inputs lists self count k marks) id g (library-recorded k marks id h (rw (eqb-true one k t) at r)))
      (λ t. from-recorded n (k + 1) (mark_library inputs lists self count k marks) id one g (omega (arith, eqb-false one k t)) (omega arith) r)

  pub from-only : (n k : ℕ) (marks : List ℕ) (id : ℕ) → IsMarked (mark_from inputs lists self count n k marks) id → IsMarked marks id ⊎ Recorded id k n
  unfolding mark_from
  from-only zero k marks id e = inl e
  from-only (suc n) k marks id e =
      ⊎_elim
      (λ m.
      ⊎_elim (λ q. inl q) (λ r. inr (record { one = k; from = omega arith; below = omega arith; records = r })) (library-only k marks id m))
      (λ (r : Recorded id (k + 1) n).
      inr (record { one = r.one; from = omega (arith, r.from); below = omega (arith, r.below); records = r.records }))
      (from-only n (k + 1) (mark_library inputs lists self count k marks) id e)

  -- ---- all inputs, over these cells

  module _ (rows : ℕ) (marks : List ℕ) (id : ℕ) where
    pub marked-recorded : (k : ℕ) → id < length marks → k < rows → Records inputs lists count self k id
        → get_or (mark_all inputs lists self count rows marks) id 0 ≡ 1
    unfolding mark_all
    marked-recorded k h g r = from-recorded rows 0 marks id k h (omega arith) (omega arith) r

    pub marked-only : get_or marks id 0 ≡ 0 → get_or (mark_all inputs lists self count rows marks) id 0 ≡ 1 → Recorded id 0 rows
    unfolding mark_all
    marked-only z e = ⊎_elim (λ m. absurd (omega (arith, z, m))) (λ r. r) (from-only rows 0 marks id e)
