-- What is read of a field is the text that was put into it.
-- Assumes nothing.
use Rattle.std.specs.Prelude.{ℕ, zero, suc, ◌+◌, ◌-◌, ◌^◌, ◌<◌, ◌≤◌, ◌≡◌, refl, true, false, cond, List, [], ◌∷◌, ◌++◌, eqb, ltb, get_or, length, take, drop, replicate, Option, Some, None}
use Rattle.std.proofs.Common.{arith, sym, ap, ◌∙◌, append_assoc}
use Rattle.std.proofs.Math.Seq.{drop-append_seam, take-append_seam, get_or-append_seam}
use Rattle.std.proofs.lemmas.List.{length-append, length-replicate, take_all, append-nil}
use borrow.Author.Tests.{lt-ltb, eq-eqb}
use Rattle.text.specs.Decimal.{decimal_of}
use Rattle.archive_file.specs.Members.{until, without_slash, short_name, long_name, long_place}
use Rattle.archive_file.specs.Writer.{padded, digits, Without, short_text, long_text, long_line}
use Rattle.archive_file.proofs.Digits.{digits-read, digits-without, digits-short}

-- what follows the first such byte isn't looked at
pub until-first : (b : ℕ) (x rest : List ℕ) → Without b x → until b (x ++ b ∷ rest) ≡ x
unfolding until
until-first b [] rest w = rw (eq-eqb b b refl)
until-first b (x ∷ xs) rest w = rw w.0 (ap (λ (l : List ℕ). x ∷ l) (until-first b xs rest w.1))

until-whole : (b : ℕ) (x : List ℕ) → Without b x → until b x ≡ x
unfolding until
until-whole b [] w = refl
until-whole b (x ∷ xs) w = rw w.0 (ap (λ (l : List ℕ). x ∷ l) (until-whole b xs w.1))

pub until-blanks : (x : List ℕ) (k : ℕ) → Without 32 x → until 32 (x ++ replicate k 32) ≡ x
until-blanks x (suc k) w = until-first 32 x (replicate k 32) w
until-blanks x zero w = rw (append-nil x) (until-whole 32 x w)

pub padded-long : (n : ℕ) (x : List ℕ) → length x ≤ n → length (padded n x) ≡ n
padded-long n x h = omega (arith, h, length-append x (replicate (n - length x) 32), length-replicate {A = ℕ} (n - length x) 32)

-- a number in a field
pub number-read : (k n : ℕ) → n < 2 ^ 64 → decimal_of (until 32 (padded k (digits n))) ≡ Some n
number-read k n l = rw (until-blanks (digits n) (k - length (digits n)) (digits-without 32 n (omega arith))) (digits-read n l)

-- ---- names

module _ (x : List ℕ) (w : Without 47 x) (h : length x ≤ 15) where
  abbrev field : List ℕ
  field = padded 16 (short_text x)

  field-long : length field ≡ 16
  field-long = padded-long 16 (short_text x) (omega (arith, h, length-append x (47 ∷ [])))

  before-slash : until 47 field ≡ x
  before-slash = rw (append_assoc x (47 ∷ []) (replicate (16 - length (short_text x)) 32)) (until-first 47 x (replicate (16 - length (short_text x)) 32) w)

  pub short-read : short_name field ≡ x
  unfolding short_name
  short-read = rw (before-slash, lt-ltb (length x) (length field) (omega (arith, field-long, h))) refl

pub short-place : (x : List ℕ) → Without 47 x → long_place (padded 16 (short_text x)) ≡ None
unfolding long_place until decimal_of
short-place [] w = refl
short-place (b ∷ bs) w = rw w.0 refl

module _ (a x b : List ℕ) (w : Without 10 x) where
  line-end : Without 10 (x ++ 47 ∷ [])
  line-end = more x w
    where
      more : (y : List ℕ) → Without 10 y → Without 10 (y ++ 47 ∷ [])
      more [] v = (refl, tt)
      more (c ∷ cs) v = (v.0, more cs v.1)

  closed : without_slash (x ++ 47 ∷ []) ≡ x
  unfolding without_slash
  closed =
      let n : length (x ++ 47 ∷ []) - 1 ≡ length x = omega (arith, length-append x (47 ∷ [])) in
      rw (n, get_or-append_seam x 47 [] 0) (take-append_seam x (47 ∷ []))

  pub long-read : long_name (a ++ (long_line x ++ b)) (length a) ≡ x
  unfolding long_name
  long-read =
      let e : long_line x ++ b ≡ (x ++ 47 ∷ []) ++ 10 ∷ b = append_assoc x (47 ∷ 10 ∷ []) b ∙ sym (append_assoc x (47 ∷ []) (10 ∷ b)) in
      rw (drop-append_seam a (long_line x ++ b), e, until-first 10 (x ++ 47 ∷ []) b line-end) closed

pub long-place : (k : ℕ) → k < 10 ^ 15 → long_place (padded 16 (long_text k)) ≡ Some k
unfolding long_place
long-place k h =
    let n : length (digits k) ≤ 15 = digits-short 15 k (omega arith) h in
    let s : 16 - suc (length (digits k)) ≡ 15 - length (digits k) = omega arith in
    let t : take 15 (digits k ++ replicate (15 - length (digits k)) 32) ≡ digits k ++ replicate (15 - length (digits k)) 32 =
    take_all 15 (padded 15 (digits k)) (omega (arith, padded-long 15 (digits k) n)) in
    rw (s, t) (number-read 15 k (omega (arith, h)))
