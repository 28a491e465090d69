-- The ways through the functions of Build.
-- Assumes nothing.
use Rattle.std.specs.Prelude.{ℕ, ◌+◌, ◌-◌, ◌<◌, ◌≤◌, ◌≡◌, Bool, true, false, cond, List, ltb, length, refl}
use Rattle.std.proofs.Math.Nat.{sub-zero}
use native.Mathlib.Omega.{arith}
use Rattle.std.proofs.Math.Path.{sym}
use Rattle.std.proofs.Common.{◌∙◌, Fits}
use borrow.Author.Tests.{eq-eqb, ne_eqb, ltb-false}
use Rattle.std.specs.Int.{w64}
use Rattle.cells.specs.Proof.Split.{by-test}
use Rattle.byte_slices.specs.Proof.Ways.{apart}
use Rattle.link.specs.declared.Interned.{Interned}
use Rattle.interner.specs.Names.{Store, room_of, keep_at, added_at}
use Rattle.elf_object.specs.Judge.{range_ok}
use Rattle.elf_object.specs.Rows.{rows_in}
use Rattle.elf_object.specs.Proof.Ways.{one_less}
use Rattle.merge_build.specs.Build.{Object, State, lists_fit, section_of, build_from, build_of}

-- ---- what is planned

-- a name that is issued leaves the lists
pub keep-lists : (s : Store) (id : Interned) (head : ℕ) (x : List ℕ) → (keep_at s id head x).link.lists ≡ s.link.lists
unfolding keep_at
keep-lists s id head x = go (ltb id.0 s.link.names) (room_of s (length x))
  where
    go : (a b : Bool) → (cond a s (cond b (added_at s head x) s)).link.lists ≡ s.link.lists
    go true b = refl
    go false true = refl
    go false false = refl

module _ (used all more : ℕ) (b : Bool) where
  pub lists-within : b ≡ lists_fit used all more → b ≡ true → used + more ≤ all
  unfolding range_ok
  lists-within e f =
      by-test (ltb all used)
      (λ t. absurd (apart (sym (e ∙ rw t) ∙ f)))
      (λ t.
      by-test (ltb (all - used) more)
      (λ u. absurd (apart (sym (e ∙ rw (t, u)) ∙ f)))
      (λ u. omega (arith, ltb-false all used t, ltb-false (all - used) more u)))

  -- there is a number for as many
  pub lists-sum : b ≡ lists_fit used all more → b ≡ true → Fits w64 all → Fits w64 (used + more)
  lists-sum e f g = let h : used + more ≤ all = lists-within e f in omega arith

-- the loop: s is what n sections left of s₀, and the rest gives from s what all give from s₀. Shut, so that a search tells two of them apart at once
unfoldable pub Reached : ℕ → Object → ℕ → ℕ → State → State → Type 0
Reached n o kind rows s₀ s = build_of o s₀ kind ≡ build_from o kind (rows - n) n s

module _ (o : Object) (kind : ℕ) (s₀ : State) where
  pub reached-start : Reached 0 o kind (rows_in o.headers) s₀ s₀
  unfolding Reached build_of
  reached-start = rw (sub-zero (rows_in o.headers))

  module _ (rows n : ℕ) (s : State) where
    pub reached-end : Reached n o kind rows s₀ s → rows ≤ n → s ≡ build_of o s₀ kind
    unfolding Reached build_from
    reached-end q h = let z : rows - n ≡ 0 = omega arith in sym (q ∙ rw z)

    module _ (t : State) where
      pub reached-stop : Reached n o kind rows s₀ s → n < rows → t ≡ section_of o s n kind → (t.stage.number ≡ 0 → ⊥) → t ≡ build_of o s₀ kind
      unfolding Reached build_from
      reached-stop q h e f = sym (q ∙ rw (one_less rows n h) (simp (← e, ne_eqb _ _ f)))

      pub reached-on : Reached n o kind rows s₀ s → n < rows → t ≡ section_of o s n kind → t.stage.number ≡ 0 → Reached (n + 1) o kind rows s₀ t
      unfolding Reached build_from
      reached-on q h e f = q ∙ rw (one_less rows n h) (simp (← e, eq-eqb _ _ f))
