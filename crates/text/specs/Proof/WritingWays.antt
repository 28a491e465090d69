-- Pieces that are put one behind the other.
-- Assumes nothing.
use Rattle.std.specs.Prelude.{ℕ, ◌+◌, ◌-◌, ◌<◌, ◌≤◌, ◌≡◌, refl, true, false, leb, List, [], ◌∷◌, ◌++◌, length}
use Rattle.std.proofs.Common.{ap, ◌∙◌, sym, arith}
use borrow.Author.Tests.{lt-leb, leb-false}
use Rattle.io.specs.Digits.{last_digits, IsDigitCount}
use Rattle.cells.specs.Proof.Split.{by-test}
use Rattle.byte_slices.specs.Bytes.{copied}
use Rattle.text.specs.Text.{Text, text_of, put_of, PutDecimal}
use Rattle.text.specs.Digits.{decimal}
use Rattle.text.specs.Proof.DigitsWays.{put_is}
use Rattle.text.specs.Writing.{Pieces, put_all, written, Puts}
use Rattle.text.specs.declared.out.Writer.{Writer}

module _ (b x : List ℕ) (n : ℕ) where
  put-short : length b - n < length x → text_of b n ≡ put_of b n x
  unfolding put_of
  put-short h = sym (simp (lt-leb (n + length x) (length b) (omega arith)))

  -- where the text is longer than its bytes, nothing is put there
  put_whole : length x ≤ length b - n → text_of (copied b n x) (n + length x) ≡ put_of b n x
  unfolding put_of copied
  put_whole h =
      by-test (leb (n + length x) (length b)) (λ e. rw e)
      (λ e. rw e (let none : length x ≡ 0 = omega (arith, leb-false _ _ e) in let z : n + length x ≡ n = omega arith in rw z))

pub put-more : (t : Text) (x y : Pieces) → put_all (put_all t x) y ≡ put_all t (x ++ y)
unfolding put_all
put-more t [] y = refl
put-more t (p ∷ x) y = put-more (put_of t.bytes t.len p) x y

module _ (a b : Writer) (x : List ℕ) (same : b.bytes.ghost_name ≡ a.bytes.ghost_name) where
  pub puts_short : length a.bytes.now - a.len < length x → written b ≡ written a → Puts a b (x ∷ [])
  unfolding put_all
  puts_short h q = record { same = same; text = q ∙ put-short a.bytes.now x a.len h }

  pub puts_whole : length x ≤ length a.bytes.now - a.len → b.bytes.now ≡ copied a.bytes.now a.len x → b.len ≡ a.len + length x → Puts a b (x ∷ [])
  unfolding put_all
  puts_whole h e l =
      record { same = same; text = ap (λ (y : List ℕ). text_of y b.len) e ∙ ap (text_of (copied a.bytes.now a.len x)) l ∙ put_whole a.bytes.now x a.len h }

module _ (a b : Writer) (v k : ℕ) (x : List ℕ) (is : x ≡ last_digits 10 k v) (fewest : IsDigitCount 10 1 v k) (put : Puts a b (x ∷ [])) where
  pub decimal-put : PutDecimal a.bytes.now a.len v (written b)
  unfolding put_all
  decimal-put = record { count = k; fewest = fewest; put = put.text ∙ ap (put_of a.bytes.now a.len) is }

  pub puts_decimal : Puts a b (decimal v ∷ [])
  unfolding put_all
  puts_decimal = record { same = put.same; text = put_is _ _ _ _ decimal-put }

pub puts_none : (a : Writer) → Puts a a []
unfolding put_all
puts_none a = record { same = refl; text = refl }

pub puts_then : (a b c : Writer) (x y : Pieces) → Puts a b x → Puts b c y → Puts a c (x ++ y)
puts_then a b c x y p q =
    record { same = q.same ∙ p.same; text = q.text ∙ ap (λ (t : Text). put_all t y) p.text ∙ put-more (written a) x y }
