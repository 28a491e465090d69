-- Numbers by their bits, the lowest first.
-- Assumes nothing.
use Rattle.std.specs.Prelude.{ℕ, zero, suc, ◌+◌, ◌/◌, ◌%◌, ◌<◌, ◌≡◌, refl}
use Rattle.std.proofs.Common.{arith, sym, ◌∙◌}

-- without its n lowest bits
unfoldable pub half : ℕ → ℕ → ℕ
half zero a = a
half (suc n) a = half n (a / 2)

-- the n lowest bits of both are the same
unfoldable pub Agree : ℕ → ℕ → ℕ → Type 0
Agree zero a b = Unit {0}
Agree (suc n) a b = (a % 2 ≡ b % 2) × Agree n (a / 2) (b / 2)

pub half-more : (n a : ℕ) → half (suc n) a ≡ half n a / 2
unfolding half
half-more zero a = refl
half-more (suc n) a = half-more n (a / 2)

pub agree-none : (a b : ℕ) → Agree 0 a b
unfolding Agree
agree-none a b = tt

pub agree-back : (n a b : ℕ) → Agree n a b → Agree n b a
unfolding Agree
agree-back zero a b g = tt
agree-back (suc n) a b (e, g) = (sym e, agree-back n (a / 2) (b / 2) g)

pub agree_on : (n a b c : ℕ) → Agree n a b → Agree n b c → Agree n a c
unfolding Agree
agree_on zero a b c g h = tt
agree_on (suc n) a b c (e, g) (f, h) = (e ∙ f, agree_on n (a / 2) (b / 2) (c / 2) g h)

-- one bit more
pub agree-more : (n a b : ℕ) → Agree n a b → half n a % 2 ≡ half n b % 2 → Agree (suc n) a b
unfolding Agree half
agree-more zero a b g e = (e, tt)
agree-more (suc n) a b (f, g) e = (f, agree-more n (a / 2) (b / 2) g e)

pub agree-all : (n a b : ℕ) → Agree n a b → half n a ≡ 0 → half n b ≡ 0 → a ≡ b
unfolding Agree half
agree-all zero a b g e f = e ∙ sym f
agree-all (suc n) a b (h, g) e f = let i : a / 2 ≡ b / 2 = agree-all n (a / 2) (b / 2) g e f in omega arith

-- 2^n
unfoldable power : ℕ → ℕ
power zero = 1
power (suc n) = power n + power n

half-none : (n a : ℕ) → a < power n → half n a ≡ 0
unfolding half power
half-none zero a h = omega arith
half-none (suc n) a h = half-none n (a / 2) (omega arith)

pub half-word : (a : ℕ) → a < 0x100000000 → half 32 a ≡ 0
unfolding power
half-word a h = half-none 32 a h

-- a key of one of 16 archives
pub half-key : (a : ℕ) → a < 0x1000000000 → half 36 a ≡ 0
unfolding power
half-key a h = half-none 36 a h
