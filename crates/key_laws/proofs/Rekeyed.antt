-- Theorems over specs/Rekeyed.antt.
-- Assumes nothing.
use Rattle.std.specs.Prelude.{ℕ, ◌+◌, ◌*◌, ◌<◌, ◌≤◌, ◌≡◌, List, [], ◌∷◌, ◌≢◌, eqb, length, get_or, set}
use Rattle.std.proofs.Common.{sym, ◌∙◌, get_or-set_other, eqb-true}
use Rattle.std.proofs.lemmas.Bool.{eqb-false}
use Rattle.cells.specs.Proof.Split.{by-test}
use Rattle.link.specs.Bounds.{name_rows}
use Rattle.interner.specs.Hash.{head_of}
use Rattle.interner.specs.Names.{Store, added}
use Rattle.interner_laws.specs.Good.{count, used, name_rows_in, cell}
use Rattle.interner_laws.proofs.Written.{head-behind, linked_long, row_old, row_new}
use Rattle.symbol_laws.proofs.Issue.{FreeRow}
use Rattle.key_laws.specs.Rekeyed.{keyed, rekeyed}

-- ---- a name issued

-- rows that differ in cell 2 alone
row_same : (a b c d f : ℕ) → f ≢ 2 → get_or (a ∷ b ∷ c ∷ 0 ∷ 0 ∷ 0 ∷ 0 ∷ 0 ∷ []) f 0 ≡ get_or (a ∷ b ∷ d ∷ 0 ∷ 0 ∷ 0 ∷ 0 ∷ 0 ∷ []) f 0
row_same a b c d f u =
    let l : List ℕ = a ∷ b ∷ 0 ∷ 0 ∷ 0 ∷ 0 ∷ 0 ∷ 0 ∷ [] in
    let same : (c : ℕ) → get_or (set l 2 c) f 0 ≡ get_or l f 0 = λ c. get_or-set_other l 2 f c 0 u in
    same c ∙ sym (same d)

module _ (k : ℕ) (s : Store) (n : List ℕ) (long : length n ≡ length s.names)
    (cells : (i f : ℕ) → i < name_rows_in s → f < 8 → f ≢ 2 → get_or n (i * 8 + f) 0 ≡ cell s i f) (x : List ℕ) where
  pub added-long : length (added (rekeyed k n s) x).names ≡ length (added s x).names
  added-long =
      linked_long n (count s) (used s) (length x) (head_of (keyed k s.link) n x) ∙ long
      ∙ sym (linked_long s.names (count s) (used s) (length x) (head_of s.link s.names x))

  module _ (r : FreeRow s.link s.names) where
    abbrev at : ℕ
    at = head_of s.link s.names x

    abbrev at' : ℕ
    at' = head_of (keyed k s.link) n x

    lent' : name_rows_in s ≤ name_rows (length n)
    lent' = rw long r.lent

    low : name_rows_in s * 8 ≤ at
    low = head-behind s.link (length s.names) x r.lent

    low' : name_rows_in s * 8 ≤ at'
    low' = head-behind (keyed k s.link) (length n) x lent'

    pub added-cells : (i f : ℕ) → i < name_rows_in s → f < 8 → f ≢ 2 → get_or (added (rekeyed k n s) x).names (i * 8 + f) 0 ≡ get_or (added s x).names (i * 8 + f) 0
    added-cells i f h l u =
        by-test (eqb i (count s))
        (λ b.
        let z : i ≡ count s = eqb-true _ _ b in
        rw z
        (row_new n (count s) (used s) (length x) at' (name_rows_in s) lent' r.free low' f l
        ∙ row_same (used s) (length x) (get_or n at' 0) (get_or s.names at 0) f u
        ∙ sym (row_new s.names (count s) (used s) (length x) at (name_rows_in s) r.lent r.free low f l)))
        (λ b.
        let z : i ≢ count s = eqb-false _ _ b in
        row_old n (count s) (used s) (length x) at' (name_rows_in s) lent' r.free low' i f h z l
        ∙ cells i f h l u
        ∙ sym (row_old s.names (count s) (used s) (length x) at (name_rows_in s) r.lent r.free low i f h z l))
