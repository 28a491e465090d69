-- Laws of `some`, and of the truth values that tests are made of.
-- Assumes nothing.
use Rattle.std.specs.Prelude.{◌≡◌, refl, Bool, true, false, cond, ◌&&◌, ◌||◌, List, [], ◌∷◌, ◌++◌}
use Rattle.std.proofs.Common.{sym, ap, ◌∙◌}
use Rattle.std.proofs.lemmas.Bool.{false≢true}
use Rattle.gabi.specs.Archive.{Named}
use Rattle.extraction_laws.specs.Some.{In, some, here, there}

pub clash : {P : Type 0} (a : Bool) → a ≡ true → a ≡ false → P
clash true p q = absurd (false≢true (sym q))
clash false p q = absurd (false≢true p)

pub and_in : (a b : Bool) → a ≡ true → b ≡ true → a && b ≡ true
and_in a b p q = rw (p, q)

pub and_left : (a b : Bool) → a && b ≡ true → a ≡ true
and_left true b p = refl
and_left false b p = p

pub and_right : (a b : Bool) → a && b ≡ true → b ≡ true
and_right true b p = p
and_right false b p = clash false p refl

pub or_left : (a b : Bool) → a ≡ true → a || b ≡ true
or_left a b p = rw p

pub or_right : (a b : Bool) → b ≡ true → a || b ≡ true
or_right true b p = refl
or_right false b p = p

pub or-out : {P : Type 0} (a b : Bool) → a || b ≡ true → (a ≡ true → P) → (b ≡ true → P) → P
or-out true b p f g = f refl
or-out false b p f g = g p

pub or-none : (a b : Bool) → b ≡ false → a || b ≡ a
or-none true b p = refl
or-none false b p = p

pub and-cond : (a b : Bool) → cond a b false ≡ a && b
and-cond true b = refl
and-cond false b = refl

-- two tests that imply one another
pub both_ways : (a b : Bool) → (a ≡ true → b ≡ true) → (b ≡ true → a ≡ true) → a ≡ b
both_ways true true f g = refl
both_ways true false f g = sym (f refl)
both_ways false true f g = g refl
both_ways false false f g = refl

pub some_in : (p : Named → Bool) (m : List Named) (e : Named) → In e m → p e ≡ true → some p m ≡ true
unfolding some
some_in p [] e i h = elim i [ ]
some_in p (d ∷ m) e (here q) h = rw (ap p q ∙ h)
some_in p (d ∷ m) e (there i) h = go (p d) (some_in p m e i h)
  where
    go : (b : Bool) → some p m ≡ true → cond b true (some p m) ≡ true
    go true r = refl
    go false r = r

pub some_out : (p : Named → Bool) (m : List Named) → some p m ≡ true → (e : Named) × In e m × (p e ≡ true)
unfolding some
some_out p [] h = clash false h refl
some_out p (d ∷ m) h = go (p d) refl h (λ w. some_out p m w)
  where
    later : ((e : Named) × In e m × (p e ≡ true)) → (e : Named) × In e (d ∷ m) × (p e ≡ true)
    later (e, i, q) = (e, there i, q)

    go : (b : Bool) → p d ≡ b → cond b true (some p m) ≡ true → (some p m ≡ true → (e : Named) × In e m × (p e ≡ true)) → (e : Named) × In e (d ∷ m) × (p e ≡ true)
    go true q w r = (d, here refl, q)
    go false q w r = later (r w)

pub some_same : (p q : Named → Bool) (m : List Named) → ((e : Named) → p e ≡ q e) → some p m ≡ some q m
unfolding some
some_same p q [] h = refl
some_same p q (e ∷ m) h = rw (h e, some_same p q m h)

pub some-append : (p : Named → Bool) (a b : List Named) → some p (a ++ b) ≡ cond (some p a) true (some p b)
unfolding some
some-append p [] b = refl
some-append p (e ∷ a) b = go (p e) (some-append p a b)
  where
    go : (t : Bool) → some p (a ++ b) ≡ cond (some p a) true (some p b) → cond t true (some p (a ++ b)) ≡ cond (cond t true (some p a)) true (some p b)
    go true r = refl
    go false r = r
