-- The first dependency without a name, by the list's own word.
-- Assumes nothing.
use Rattle.std.specs.Prelude.{ℕ, suc, ◌+◌, ◌<◌, ◌≡◌, Bool, true, false, cond, not, List, [], ◌∷◌, get_or, length}
use Rattle.std.specs.List.{position_or_len}
use Rattle.std.proofs.Common.{ap, ◌∙◌, arith}
use Rattle.gabi.specs.StringTable.{has_name}
use Rattle.elf_object.specs.Judge.{first_bad}
use Rattle.shared_objects.specs.Head.{dependencies_ok, bad_need}

-- of rows that are a list's elements, the first that isn't right
first-position : (p : ℕ → Bool) (ok : ℕ → Bool) (i : ℕ) (l : List ℕ) → ((k : ℕ) → k < length l → ok (i + k) ≡ p (get_or l k 0))
    → first_bad ok i (length l) ≡ i + position_or_len (λ y. not (p y)) l
unfolding first_bad
first-position p ok i [] e = omega arith
first-position p ok i (x ∷ l) e =
    let n : i ≡ i + 0 = omega arith in
    let z : ok i ≡ p x = ap ok n ∙ e 0 (omega arith) in
    rw z (go (p x) (first-position p ok (i + 1) l (λ k h. ap ok (shift k) ∙ e (suc k) (omega arith))))
  where
    shift : (k : ℕ) → i + 1 + k ≡ i + suc k
    shift k = omega arith

    go : (b : Bool) → first_bad ok (i + 1) (length l) ≡ i + 1 + position_or_len (λ y. not (p y)) l
        → cond b (first_bad ok (i + 1) (length l)) i ≡ i + cond (not (not b)) (1 + position_or_len (λ y. not (p y)) l) 0
    go true more = omega (arith, more)
    go false more = omega arith

pub need-position : (file needs : List ℕ) → bad_need file needs ≡ position_or_len (λ offset. not (has_name file offset)) needs
unfolding bad_need dependencies_ok
need-position file needs =
    first-position (has_name file) (dependencies_ok file needs) 0 needs (λ k h. ap (dependencies_ok file needs) (plain k)) ∙ plain _
  where
    plain : (k : ℕ) → 0 + k ≡ k
    plain k = omega arith
