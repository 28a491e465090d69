-- The values that `resolve` answers lie in the bytes, and the part that they name is the name. The id that `find` answers is the one that
-- interning the same bytes answers.
-- Assumes nothing.
use Rattle.std.specs.Prelude.{ℕ, zero, suc, ◌+◌, ◌*◌, ◌<◌, ◌≤◌, ◌≡◌, refl, Bool, true, false, cond, List, [], ◌∷◌, ltb, get_or, length, take, drop}
use Rattle.std.proofs.Common.{arith, sym, ap, ◌∙◌, drop_of_length-le, ltb-true, ltb-false, eq-eqb, lt-ltb}
use Rattle.link.specs.Bounds.{lesser}
use Rattle.link.specs.Judge.{change_of}
use Rattle.link.specs.Said.{accepted}
use Rattle.interner.specs.Names.{Store, name_at, find_of, fits_of, keep_of}
use Rattle.interner.specs.Calls.{left, lent, issue_of, intern_of}
use Rattle.ffi_names.specs.Calls.{first_byte}

-- the two cases of a test
pub pick : {A : Type 0} (P : A → Type 0) (t : Bool) (a b : A) → (t ≡ true → P a) → (t ≡ false → P b) → P (cond t a b)
pick P true a b f g = f refl
pick P false a b f g = g refl

take-taken : (k : ℕ) (l : List ℕ) → take (length (take k l)) l ≡ take k l
take-taken zero l = refl
take-taken (suc k) [] = refl
take-taken (suc k) (x ∷ l) = ap (◌∷◌ x) (take-taken k l)

same_from : (b : List ℕ) (s : ℕ) → drop (lesser s (length b)) b ≡ drop s b
unfolding lesser
same_from b s =
    pick (λ (k : ℕ). drop k b ≡ drop s b) (ltb s (length b)) s (length b) (λ t. refl)
    (λ t. let h : length b ≤ length b = omega arith in drop_of_length-le b h ∙ sym (drop_of_length-le b (ltb-false _ _ t)))

pub part-named : (b n : List ℕ) (id : ℕ) → take (length (name_at b n id)) (drop (first_byte n id (length b)) b) ≡ name_at b n id
unfolding first_byte
part-named b n id =
    ap (take (length (name_at b n id))) (same_from b (get_or n (id * 8 + 0) 0)) ∙ take-taken (get_or n (id * 8 + 1) 0) (drop (get_or n (id * 8 + 0) 0) b)

pub first-within : (b n : List ℕ) (id : ℕ) → first_byte n id (length b) ≤ length b
unfolding first_byte lesser
first-within b n id =
    pick (λ (k : ℕ). k ≤ length b) (ltb (get_or n (id * 8 + 0) 0) (length b)) (get_or n (id * 8 + 0) 0) (length b)
    (λ t. omega (arith, ltb-true (get_or n (id * 8 + 0) 0) (length b) t)) (λ t. omega arith)

-- an issued name, where intern isn't refused: its id, and nothing changes
pub found-interned : (s : Store) (x : List ℕ) → find_of s.bytes s.names s.link x < s.link.names → (change_of s.link (lent s)).number ≡ 0
    → intern_of s x ≡ left s (accepted (find_of s.bytes s.names s.link x))
unfolding intern_of issue_of fits_of keep_of
found-interned s x h z = simp (eq-eqb _ _ z, lt-ltb _ _ h)
