-- Laws of the definitions of Groups.antt.
-- Assumes nothing.
use Rattle.std.specs.Prelude.{ℕ, zero, suc, ◌<◌, ◌≡◌, refl, true, false, List, [], ◌∷◌, ltb, length, get_or, take}
use Rattle.std.proofs.Common.{sym, ap, ◌∙◌, arith, not-suc-le-zero, le_of_suc-le-suc, length-take, get_or-take, take-take}
use Rattle.std.proofs.lemmas.Bool.{false≢true}
use borrow.Author.Tests.{ltb-true, lt-ltb, not-true}
use Rattle.gabi.proofs.Split.{by-test, both}
use Rattle.gabi.specs.StringTable.{same_name, among}
use Rattle.gabi.proofs.StringTableLaws.{same-eq, same_refl}
use Rattle.gabi.specs.SymbolTable.{Sym, is_reference}
use Rattle.gabi.specs.Groups.{kept, undefine, First, Keeps}

-- ---- laws

pub undefined-reference : (s : Sym) → is_reference (undefine s) ≡ true
unfolding is_reference undefine
undefined-reference s = refl

among-not : (n : List ℕ) (l : List (List ℕ)) (j : ℕ) → among n l ≡ false → j < length l → get_or l j [] ≡ n → ⊥
unfolding among
among-not n [] j f h e = not-suc-le-zero h
among-not n (x ∷ l) zero f h e = false≢true (sym f ∙ rw (ap (same_name x) (sym e) ∙ same_refl x))
among-not n (x ∷ l) (suc j) f h e =
    by-test (same_name x n) (λ t. false≢true (sym f ∙ rw t)) (λ t. among-not n l j (rw t at f) (le_of_suc-le-suc h) e)

module _ (l : List (List ℕ)) where
  kept-inside : (k : ℕ) → kept l k ≡ true → k < length l
  unfolding kept
  kept-inside k h = ltb-true _ _ (both _ _ h).0

  kept_new : (k : ℕ) → kept l k ≡ true → among (get_or l k []) (take k l) ≡ false
  unfolding kept
  kept_new k h = not-true _ (both (ltb k (length l)) _ h).1

  kept-before : (j k : ℕ) → kept l k ≡ true → get_or l j [] ≡ get_or l k [] → j < k → ⊥
  kept-before j k h e b =
      let i = kept-inside k h in
      among-not (get_or l k []) (take k l) j (kept_new k h) (omega (arith, length-take k l)) (get_or-take k l j [] b ∙ e)

  -- of the groups of one signature no two are kept
  pub kept-once : (j k : ℕ) → kept l j ≡ true → kept l k ≡ true → get_or l j [] ≡ get_or l k [] → j ≡ k
  kept-once j k a b e =
      let n : j < k → ⊥ = kept-before j k b e in
      let m : k < j → ⊥ = kept-before k j a (sym e) in
      omega arith

first-of : (n : List ℕ) (l : List (List ℕ)) → among n l ≡ true → First n l
unfolding among
first-of n [] e = absurd (false≢true e)
first-of n (x ∷ l) e =
    by-test (same_name x n) (λ t. record { place = 0; inside = omega arith; is = same-eq x n t; new = refl })
    (λ t.
    let r = first-of n l (rw t at e) in
    record { place = suc r.place; inside = omega (arith, r.inside); is = r.is; new = rw t r.new })

pub kept-one : (l : List (List ℕ)) (k : ℕ) → k < length l → Keeps l k
unfolding kept
kept-one l k h =
    by-test (among (get_or l k []) (take k l))
    (λ t.
    let r = first-of (get_or l k []) (take k l) t in
    let b : r.place < k = omega (arith, r.inside, length-take k l) in
    let i : r.place < length l = omega arith in
    let e : get_or l r.place [] ≡ get_or l k [] = sym (get_or-take k l r.place [] b) ∙ r.is in
    let n : among (get_or l k []) (take r.place l) ≡ false = rw (← (take-take r.place k l (omega arith))) r.new in
    record { place = r.place; first = omega arith; same = e; stays = rw (lt-ltb _ _ i, e, n) })
    (λ t. record { place = k; first = omega arith; same = refl; stays = rw (lt-ltb _ _ h, t) })
