-- Copies put together: one that goes on from, or over, what an earlier one wrote.
-- Assumes nothing.
use Rattle.std.specs.Prelude.{ℕ, ◌+◌, ◌-◌, ◌*◌, ◌<◌, ◌≤◌, ◌≡◌, zero, suc, List, ltb, get_or, drop, length}
use Rattle.std.proofs.Common.{arith, sym, ap, ◌∙◌}
use Rattle.std.proofs.Math.Seq.{paste, paste-suc, paste-zero}
use Rattle.std.proofs.lemmas.List.{ext_get_or, get_or-drop, get_or-set_other, length-drop}
use Rattle.std.proofs.lemmas.List.Edits.{length-paste}
use Rattle.std.proofs.lemmas.Grind.{get_or-set_at}
use borrow.Author.Tests.{ltb-true, ltb-false}
use Rattle.cells.specs.Proof.Split.{by-test}

-- outside of what is written
beside : (d : List ℕ) (at : ℕ) (s : List ℕ) (n j : ℕ) → at + n ≤ length d → n ≤ length s → (at ≤ j → j < at + n → ⊥) → get_or (paste d at s n) j 0 ≡ get_or d j 0
beside d at s zero j f g out = ap (λ (l : List ℕ). get_or l j 0) (sym (paste-zero d at s))
beside d at s (suc n) j f g out =
    ap (λ (l : List ℕ). get_or l j 0) (sym (paste-suc d at s n 0 (omega arith) (omega arith)))
    ∙ get_or-set_other (paste d at s n) (at + n) j (get_or s n 0) 0 (λ e. out (omega (arith, e)) (omega (arith, e)))
    ∙ beside d at s n j (omega arith) (omega arith) (λ a b. out a (omega arith))

-- inside
within : (d : List ℕ) (at : ℕ) (s : List ℕ) (n j : ℕ) → at + n ≤ length d → n ≤ length s → j < n → get_or (paste d at s n) (at + j) 0 ≡ get_or s j 0
within d at s zero j f g h = absurd (omega arith)
within d at s (suc n) j f g h =
    ap (λ (l : List ℕ). get_or l (at + j) 0) (sym (paste-suc d at s n 0 (omega arith) (omega arith)))
    ∙ by-test (ltb j n)
    (λ t.
    get_or-set_other (paste d at s n) (at + n) (at + j) (get_or s n 0) 0 (λ e. omega (arith, e, ltb-true j n t))
    ∙ within d at s n j (omega arith) (omega arith) (ltb-true j n t))
    (λ t.
    let e : j ≡ n = omega (arith, ltb-false j n t) in
    get_or-set_at (paste d at s n) (at + n) (at + j) (get_or s n 0) 0 (omega (arith, e)) (omega (arith, length-paste d at s n (omega arith) (omega arith)))
    ∙ ap (λ (k : ℕ). get_or s k 0) (sym e))

-- the first n, then m from i on, where i is no further than n
pub copied-on : (d : List ℕ) (at : ℕ) (s : List ℕ) (n i m : ℕ) → i ≤ n → n ≤ i + m → at + (i + m) ≤ length d → i + m ≤ length s
    → paste (paste d at s n) (at + i) (drop i s) m ≡ paste d at s (i + m)
copied-on d at s n i m h k f g =
    ext_get_or 0 _ _ (long ∙ sym whole) each
  where
    first : length (paste d at s n) ≡ length d
    first = length-paste d at s n (omega arith) (omega arith)

    rest : m ≤ length (drop i s)
    rest = omega (arith, length-drop i s)

    long : length (paste (paste d at s n) (at + i) (drop i s) m) ≡ length d
    long = length-paste (paste d at s n) (at + i) (drop i s) m (omega (arith, first)) rest ∙ first

    whole : length (paste d at s (i + m)) ≡ length d
    whole = length-paste d at s (i + m) f g

    out : (j : ℕ) → (at + i ≤ j → j < at + i + m → ⊥) → get_or (paste (paste d at s n) (at + i) (drop i s) m) j 0 ≡ get_or (paste d at s n) j 0
    out j o = beside (paste d at s n) (at + i) (drop i s) m j (omega (arith, first)) rest o

    -- the place of s that stands at j
    early : (j l : ℕ) → j ≡ at + l → l < i → get_or (paste (paste d at s n) (at + i) (drop i s) m) j 0 ≡ get_or (paste d at s (i + m)) j 0
    early j l e b =
        out j (λ p q. omega (arith, e))
        ∙ ap (λ (z : ℕ). get_or (paste d at s n) z 0) e
        ∙ within d at s n l (omega arith) (omega arith) (omega arith)
        ∙ sym (within d at s (i + m) l f g (omega arith))
        ∙ ap (λ (z : ℕ). get_or (paste d at s (i + m)) z 0) (sym e)

    late : (j l : ℕ) → j ≡ at + i + l → l < m → get_or (paste (paste d at s n) (at + i) (drop i s) m) j 0 ≡ get_or (paste d at s (i + m)) j 0
    late j l e b =
        ap (λ (z : ℕ). get_or (paste (paste d at s n) (at + i) (drop i s) m) z 0) e
        ∙ within (paste d at s n) (at + i) (drop i s) m l (omega (arith, first)) rest b
        ∙ get_or-drop i s l 0
        ∙ sym (within d at s (i + m) (i + l) f g (omega arith))
        ∙ ap (λ (z : ℕ). get_or (paste d at s (i + m)) z 0) (omega (arith, e))

    each : (j : ℕ) → j < length (paste (paste d at s n) (at + i) (drop i s) m)
        → get_or (paste (paste d at s n) (at + i) (drop i s) m) j 0 ≡ get_or (paste d at s (i + m)) j 0
    each j b =
        by-test (ltb j at)
        (λ t.
        out j (λ p q. omega (arith, ltb-true j at t))
        ∙ beside d at s n j (omega arith) (omega arith) (λ p q. omega (arith, ltb-true j at t))
        ∙ sym (beside d at s (i + m) j f g (λ p q. omega (arith, ltb-true j at t))))
        (λ t.
        by-test (ltb j (at + i)) (λ u. early j (j - at) (omega (arith, ltb-false j at t)) (omega (arith, ltb-false j at t, ltb-true j (at + i) u)))
        (λ u.
        by-test (ltb j (at + i + m)) (λ v. late j (j - (at + i)) (omega (arith, ltb-false j (at + i) u)) (omega (arith, ltb-false j (at + i) u, ltb-true j (at + i + m) v)))
        (λ v.
        out j (λ p q. omega (arith, ltb-false j (at + i + m) v))
        ∙ beside d at s n j (omega arith) (omega arith) (λ p q. omega (arith, ltb-false j (at + i + m) v))
        ∙ sym (beside d at s (i + m) j f g (λ p q. omega (arith, ltb-false j (at + i + m) v))))))

-- ---- by words of eight bytes

pub copied-none : (d : List ℕ) (at : ℕ) (s : List ℕ) → d ≡ paste d at s (0 * 8)
copied-none d at s = paste-zero d at s

-- one word more
pub copied-word : (d : List ℕ) (at : ℕ) (s t u : List ℕ) (k : ℕ) → t ≡ paste d at s (k * 8) → u ≡ paste t (at + k * 8) (drop (k * 8) s) 8
    → at + length s ≤ length d → k * 8 + 8 ≤ length s → u ≡ paste d at s ((k + 1) * 8)
copied-word d at s t u k p q f g =
    q
    ∙ ap (λ (l : List ℕ). paste l (at + k * 8) (drop (k * 8) s) 8) p
    ∙ copied-on d at s (k * 8) (k * 8) 8 (omega arith) (omega arith) (omega arith) g
    ∙ ap (paste d at s) (omega arith)

-- the last word
pub copied-all : (d : List ℕ) (at : ℕ) (s t u : List ℕ) (k : ℕ) → t ≡ paste d at s (k * 8) → u ≡ paste t (at + (length s - 8)) (drop (length s - 8) s) 8
    → at + length s ≤ length d → length s - 8 ≤ k * 8 → k * 8 ≤ length s → 8 ≤ length s → u ≡ paste d at s (length s)
copied-all d at s t u k p q f g h w =
    q
    ∙ ap (λ (l : List ℕ). paste l (at + (length s - 8)) (drop (length s - 8) s) 8) p
    ∙ copied-on d at s (k * 8) (length s - 8) 8 g (omega arith) (omega arith) (omega arith)
    ∙ ap (paste d at s) (omega arith)
