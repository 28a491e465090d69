-- What is found in a list, and among ascending numbers.
-- Assumes nothing.
use Prim.Native.Nat.{ℕ, zero, suc, ◌+◌, ◌<◌, ◌≤◌}
use Rattle.std.proofs.Common.{arith, sym, ◌∙◌, eq-eqb, eqb-true, leb-false}
use Rattle.std.specs.Prelude.{◌≡◌, refl, Bool, false, List, [], ◌∷◌, eqb, leb, get_or, length}
use Rattle.std.proofs.Math.Bool.{true}
use Rattle.std.proofs.lemmas.Bool.{lt-leb}
use Rattle.byte_slices.specs.Proof.Ways.{pick, apart}
use Rattle.cells.specs.Search.{any_from}
use Rattle.shared_objects.specs.Lists.{has_id}
use Rattle.shared_objects.specs.Need.{depends_on}
use Rattle.load_laws.specs.Needed.{Holds}

pub here : (l : List ℕ) (a id : ℕ) → a ≡ id → Holds (a ∷ l) id
here l a id e = record { at = 0; within = omega arith; same = e }

pub later : (l : List ℕ) (a id : ℕ) → Holds l id → Holds (a ∷ l) id
later l a id h = record { at = suc h.at; within = omega (arith, h.within); same = h.same }

pub none : (id : ℕ) → Holds [] id → ⊥
none id h = omega (arith, h.within)

-- the first, or one of the rest
pub head-or : {P : Type 0} (l : List ℕ) (a id : ℕ) → Holds (a ∷ l) id → (a ≡ id → P) → (Holds l id → P) → P
head-or {P} l a id h f g = from h.at h.within h.same
  where
    from : (k : ℕ) → k < length (a ∷ l) → get_or (a ∷ l) k 0 ≡ id → P
    from zero w e = f e
    from (suc k) w e = g (record { at = k; within = omega arith; same = e })

pub has-holds : (l : List ℕ) (id : ℕ) → has_id l id ≡ true → Holds l id
unfolding has_id
has-holds [] id = λ e. absurd (apart e)
has-holds (a ∷ l) id =
    pick (λ (b : Bool). b ≡ true → Holds (a ∷ l) id) (eqb a id) _ _ (λ t e. here l a id (eqb-true _ _ t)) (λ t e. later l a id (has-holds l id e))

pub holds_has : (l : List ℕ) (id : ℕ) → Holds l id → has_id l id ≡ true
unfolding has_id
holds_has [] id h = absurd (none id h)
holds_has (a ∷ l) id h =
    head-or l a id h (λ e. simp (eq-eqb _ _ e))
    (λ k. pick (λ (b : Bool). b ≡ true) (eqb a id) _ _ (λ t. refl) (λ t. holds_has l id k))

module _ (l : List ℕ) (id count : ℕ) where
  pub depends-not : depends_on l id count ≡ false → id < count → Holds l id → ⊥
  unfolding depends_on
  depends-not e h k = apart (sym (simp (lt-leb _ _ h) at e) ∙ holds_has l id k)

  pub depends-so : depends_on l id count ≡ true → (id < count) × Holds l id
  unfolding depends_on
  depends-so =
      pick (λ (b : Bool). b ≡ true → (id < count) × Holds l id) (leb count id) _ _ (λ t e. absurd (apart e))
      (λ t e. (leb-false _ _ t, has-holds l id e))

-- one of n numbers from i on
pub record Among (p : ℕ → Bool) (i n : ℕ) : Type 0 where
  pub one : ℕ
  pub from : i ≤ one
  pub below : one < i + n
  pub so : p one ≡ true

module _ (p : ℕ → Bool) where
  pub any-among : (i n : ℕ) → any_from p i n ≡ true → Among p i n
  unfolding any_from
  any-among i zero = λ e. absurd (apart e)
  any-among i (suc n) =
      pick (λ (b : Bool). b ≡ true → Among p i (suc n)) (p i) _ _
      (λ t e. record { one = i; from = omega arith; below = omega arith; so = t })
      (λ t e.
      let k = any-among (i + 1) n e in
      record { one = k.one; from = omega (arith, k.from); below = omega (arith, k.below); so = k.so })

  pub among-any : (i n k : ℕ) → i ≤ k → k < i + n → p k ≡ true → any_from p i n ≡ true
  unfolding any_from
  among-any i zero k h g e = absurd (omega arith)
  among-any i (suc n) k h g e =
      pick (λ (b : Bool). b ≡ true) (p i) _ _ (λ t. refl)
      (λ t. among-any (i + 1) n k (omega (arith, other t)) (omega arith) e)
    where
      same : k ≡ i → p i ≡ true
      same q = rw q at e

      other : p i ≡ false → k ≡ i → ⊥
      other t q = apart (sym t ∙ same q)
