-- The ways through the functions.
-- Assumes nothing.
use Rattle.std.specs.Prelude.{ℕ, ◌+◌, ◌-◌, ◌<◌, ◌≤◌, ◌≡◌, Bool, true, false, List, get_or, length}
use Rattle.std.proofs.Math.Nat.{sub-zero}
use native.Mathlib.Omega.{arith}
use Rattle.std.proofs.Math.Path.{sym, refl}
use Rattle.std.proofs.Common.{◌∙◌}
use borrow.Author.Tests.{eq-eqb, ne_eqb, le-leb, lt-leb}
use Rattle.elf_object.specs.Judge.{first_bad}
use Rattle.elf_object.specs.Proof.Ways.{one_less, first-start, first-stop, first_on, first-end}
use Rattle.section_groups.specs.Group.{Object, Step, each, mark_one, mark_from, group_section_of, groups_from}

-- the loop: what it gives from the n-th section on is what it gives from the start
module _ (o : Object) (rows : ℕ) where
  pub groups-start : (s : Step) → groups_from o rows 0 s ≡ groups_from o (rows - 0) 0 s
  groups-start s = rw (sub-zero rows)

  module _ (w s : Step) (n : ℕ) where
    pub groups-end : w ≡ groups_from o (rows - n) n s → rows ≤ n → s ≡ w
    unfolding groups_from
    groups-end q h = let z : rows - n ≡ 0 = omega arith in sym (q ∙ rw z)

    module _ (t : Step) where
      pub groups-stop : w ≡ groups_from o (rows - n) n s → n < rows → t ≡ group_section_of o s n → (t.stage.number ≡ 0 → ⊥) → t ≡ w
      unfolding groups_from
      groups-stop q h e f = sym (q ∙ rw (one_less rows n h) (simp (← e, ne_eqb _ _ f)))

      pub groups-on : w ≡ groups_from o (rows - n) n s → n < rows → t ≡ group_section_of o s n → t.stage.number ≡ 0 → w ≡ groups_from o (rows - (n + 1)) (n + 1) t
      unfolding groups_from
      groups-on q h e f = q ∙ rw (one_less rows n h) (simp (← e, eq-eqb _ _ f))

-- ---- the sections that a group lists

module _ (f : ℕ → Bool) (xs : List ℕ) where
  abbrev here : ℕ → Bool
  here i = f (get_or xs i 0)

  abbrev pub Reached : ℕ → Type 0
  Reached i = first_bad here 0 (length xs) ≡ first_bad here i (length xs - i)

  pub each-start : Reached 0
  each-start = first-start here (length xs)

  module _ (i : ℕ) (q : Reached i) where
    pub each-on : (x : ℕ) (b : Bool) → i < length xs → x ≡ get_or xs i 0 → b ≡ f x → b ≡ true → Reached (i + 1)
    each-on x b h g e t = first_on here (length xs) (first_bad here 0 (length xs)) i b q h (rw g at e) t

    pub each-stop : (x : ℕ) (b : Bool) → i < length xs → x ≡ get_or xs i 0 → b ≡ f x → b ≡ false → false ≡ each f xs
    each-stop x b h g e t = let z : i ≡ first_bad here 0 (length xs) = first-stop here (length xs) (first_bad here 0 (length xs)) i b q h (rw g at e) t in rw (← z) (sym (lt-leb (length xs) i h))

    pub each-end : length xs ≤ i → true ≡ each f xs
    each-end h = let z : i ≡ first_bad here 0 (length xs) = first-end here (length xs) (first_bad here 0 (length xs)) i q h in rw (← z) (sym (le-leb (length xs) i h))

module _ (repeated : Bool) (xs v w : List ℕ) where
  pub mark-start : v ≡ mark_from repeated xs 0 (length xs) w → v ≡ mark_from repeated xs 0 (length xs - 0) w
  mark-start q = rw (sub-zero (length xs)) q

  pub mark-on : (i x : ℕ) (m : List ℕ) → i < length xs → x ≡ get_or xs i 0 → m ≡ mark_one w repeated x → v ≡ mark_from repeated xs i (length xs - i) w
      → v ≡ mark_from repeated xs (i + 1) (length xs - (i + 1)) m
  unfolding mark_from
  mark-on i x m h g e q = q ∙ rw (one_less (length xs) i h) (rw (e, g) refl)

  pub mark-end : (i : ℕ) → length xs ≤ i → v ≡ mark_from repeated xs i (length xs - i) w → w ≡ v
  unfolding mark_from
  mark-end i h q = let z : length xs - i ≡ 0 = omega arith in sym (q ∙ rw z)
