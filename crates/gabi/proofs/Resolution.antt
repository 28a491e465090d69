-- Laws of the definitions of Resolution.antt.
-- Assumes nothing.
use Prim.Native.Nat.{ℕ, suc, ◌+◌, ◌<◌, suc-le-suc}
use Rattle.std.specs.Prelude.{◌≡◌, Bool, true, false, not, ◌&&◌, ◌||◌, ltb, length, get_or}
use Rattle.std.proofs.Common.{sym, ap, ◌∙◌, not-suc-le-zero}
use mathlib.Core.List.{List, [], ◌∷◌, ◌++◌}
use native.Mathlib.Omega.{arith}
use borrow.Author.Tests.{ltb-true, lt-ltb, eqb-true}
use Rattle.gabi.proofs.Split.{by-test, both}
use Rattle.gabi.specs.SymbolTable.{Sym, stb_weak, shn_undef, is_global, is_weak, is_reference, is_definition, is_common}
use Rattle.gabi.specs.Resolution.{is_global_definition, is_weak_definition, is_common_definition, is_global_reference, count, has, first, Resolution, resolve, Found, defined, common, duplicate, unresolved, zero_value, by-global, by_weak}

-- ---- laws: counting

module _ (p : Sym → Bool) where
  count-append : (a b : List Sym) → count p (a ++ b) ≡ count p a + count p b
  unfolding count
  count-append [] b = omega arith
  count-append (s ∷ a) b = let r = count-append a b in by-test (p s) (λ t. rw t (omega arith)) (λ t. rw t r)

  first-after : (a b : List Sym) (s : Sym) → count p a ≡ 0 → p s ≡ true → first p (a ++ s ∷ b) ≡ length a
  unfolding count first
  first-after [] b s e t = rw t
  first-after (x ∷ a) b s e t = by-test (p x) (λ h. absurd (not-suc (rw h at e))) (λ h. rw h (ap suc (first-after a b s (rw h at e) t)))
    where
      not-suc : {n : ℕ} → suc n ≡ 0 → ⊥
      not-suc q = omega arith

  first-append : (a b : List Sym) → 0 < count p a → first p (a ++ b) ≡ first p a
  unfolding count first
  first-append [] b h = absurd (not-suc-le-zero h)
  first-append (x ∷ a) b h = by-test (p x) (λ t. rw t) (λ t. rw t (ap suc (first-append a b (rw t at h))))

  first-inside : (l : List Sym) → 0 < count p l → first p l < length l
  unfolding count first
  first-inside [] h = absurd (not-suc-le-zero h)
  first-inside (x ∷ l) h = by-test (p x) (λ t. rw t (omega arith)) (λ t. rw t (suc-le-suc (first-inside l (rw t at h))))

  pub first_passes : (l : List Sym) (d : Sym) → 0 < count p l → p (get_or l (first p l) d) ≡ true
  unfolding count first
  first_passes [] d h = absurd (not-suc-le-zero h)
  first_passes (x ∷ l) d h = by-test (p x) (λ t. rw t t) (λ t. rw t (first_passes l d (rw t at h)))

  has-append : (a b : List Sym) → has p a ≡ true → has p (a ++ b) ≡ true
  unfolding has
  has-append a b h =
      let k : 0 < count p (a ++ b) = omega (arith, ltb-true, count-append a b) in
      lt-ltb _ _ k

  count-other : (a : List Sym) (s : Sym) → p s ≡ false → count p (a ++ (s ∷ [])) ≡ count p a
  unfolding count
  count-other a s f = count-append a (s ∷ []) ∙ rw f (omega arith)

-- ---- laws: one global definition

count-one : (a b : List Sym) (s : Sym) → is_global_definition s ≡ true → count is_global_definition a ≡ 0 → count is_global_definition b ≡ 0
    → count is_global_definition (a ++ s ∷ b) ≡ 1
unfolding count
count-one a b s t ea eb = count-append is_global_definition a (s ∷ b) ∙ rw t (omega arith)

-- a name with one global definition has that one, wherever it stands and whatever else there is
pub one-global : (a b : List Sym) (s : Sym) → is_global_definition s ≡ true → count is_global_definition a ≡ 0 → count is_global_definition b ≡ 0
    → resolve (a ++ s ∷ b) ≡ defined (length a)
unfolding resolve has
one-global a b s t ea eb = rw (count-one a b s t ea eb) (ap defined (first-after is_global_definition a b s ea t))

same_place : {r : Resolution} {j k : ℕ} → r ≡ defined j → r ≡ defined k → j ≡ k
same_place p q = cc

other : {A : Type 0} {r o : Resolution} {k : ℕ} → (o ≡ defined k → ⊥) → r ≡ o → r ≡ defined k → A
other n p q = absurd (n (sym p ∙ q))

not-duplicate : (k : ℕ) → duplicate ≡ defined k → ⊥
not-duplicate k e = let z : ◌≡◌ {A = ℕ} 0 1 = cc in omega arith

not-common : (k j : ℕ) → common j ≡ defined k → ⊥
not-common k j e = let z : ◌≡◌ {A = ℕ} 0 1 = cc in omega arith

not-unresolved : (k : ℕ) → unresolved ≡ defined k → ⊥
not-unresolved k e = let z : ◌≡◌ {A = ℕ} 0 1 = cc in omega arith

not-zero : (k : ℕ) → zero_value ≡ defined k → ⊥
not-zero k e = let z : ◌≡◌ {A = ℕ} 0 1 = cc in omega arith

global-defines : (s : Sym) → is_global_definition s ≡ true → is_definition s ≡ true
unfolding is_global_definition
global-defines s h = (both (is_definition s) (not (is_common s)) (both (is_global s) (is_definition s && not (is_common s)) h).1).0

weak-defines : (s : Sym) → is_weak_definition s ≡ true → is_definition s ≡ true
unfolding is_weak_definition
weak-defines s h = (both (is_definition s) (not (is_common s)) (both (is_weak s) (is_definition s && not (is_common s)) h).1).0

module _ (l : List Sym) (k : ℕ) where
  found : resolve l ≡ defined k → Found l k
  unfolding resolve
  found e =
      by-test (ltb 1 (count is_global_definition l)) (λ a. other (not-duplicate k) (rw a) e)
      (λ a.
      by-test (has is_global_definition l) (λ b. by-global a b (same_place (rw (a, b)) e))
      (λ b.
      by-test (has is_common_definition l) (λ m. other (not-common k (first is_common_definition l)) (rw (a, b, m)) e)
      (λ m.
      by-test (has is_weak_definition l) (λ c. by_weak a b m c (same_place (rw (a, b, m, c)) e))
      (λ c.
      by-test (has is_global_reference l) (λ d. other (not-unresolved k) (rw (a, b, m, c, d)) e)
      (λ d. other (not-zero k) (rw (a, b, m, c, d)) e)))))

  -- the place is in the list, and a definition stands there
  placed : (d : Sym) → Found l k → (k < length l) × (is_definition (get_or l k d) ≡ true)
  unfolding has
  placed d (by-global a b e) =
      (rw e at (first-inside is_global_definition l (ltb-true _ _ b)), rw e at (global-defines _ (first_passes is_global_definition l d (ltb-true _ _ b))))
  placed d (by_weak a b m c e) =
      (rw e at (first-inside is_weak_definition l (ltb-true _ _ c)), rw e at (weak-defines _ (first_passes is_weak_definition l d (ltb-true _ _ c))))

  pub defined-there : (d : Sym) → resolve l ≡ defined k → (k < length l) × (is_definition (get_or l k d) ≡ true)
  defined-there d e = placed d (found e)

  module _ (s : Sym) (n : is_global_definition s ≡ false) (o : is_common_definition s ≡ false) where
    still : Found l k → resolve (l ++ (s ∷ [])) ≡ defined k
    unfolding resolve has
    still (by-global a b e) =
        rw (count-other is_global_definition l s n, a, b) (ap defined (first-append is_global_definition l (s ∷ []) (ltb-true _ _ b) ∙ e))
    still (by_weak a b m c e) =
        rw (count-other is_global_definition l s n, a, b, count-other is_common_definition l s o, m, has-append is_weak_definition l (s ∷ []) c)
        (ap defined (first-append is_weak_definition l (s ∷ []) (ltb-true _ _ c) ∙ e))

    -- a symbol that is neither a global definition nor a common one never takes a defined name over
    pub later : resolve l ≡ defined k → resolve (l ++ (s ∷ [])) ≡ defined k
    later e = still (found e)

no-common : (s : Sym) → is_common s ≡ false → is_common_definition s ≡ false
unfolding is_common_definition
no-common s e = rw e (by-test (is_global s || is_weak s) (λ t. rw t) (λ t. rw t))

-- such are the weak symbols that are not common, and the references
pub weak-later : (l : List Sym) (k : ℕ) (s : Sym) → is_weak s ≡ true → is_common s ≡ false → resolve l ≡ defined k → resolve (l ++ (s ∷ [])) ≡ defined k
unfolding is_global_definition is_weak is_global
weak-later l k s w o = later l k s (rw (eqb-true s.binding stb_weak w)) (no-common s o)

pub reference-later : (l : List Sym) (k : ℕ) (s : Sym) → is_reference s ≡ true → resolve l ≡ defined k → resolve (l ++ (s ∷ [])) ≡ defined k
unfolding is_global_definition is_definition is_reference is_common
reference-later l k s w =
    later l k s (rw w (by-test (is_global s) (λ t. rw t) (λ t. rw t))) (no-common s (rw (eqb-true s.section shn_undef w)))
