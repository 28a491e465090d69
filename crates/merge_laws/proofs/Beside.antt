-- Section rows and counts that change beside the table: neither a name, nor a symbol, nor a section's symbol is written.
-- Assumes nothing.
use Rattle.std.specs.Prelude.{ℕ, suc, ◌+◌, ◌*◌, ◌<◌, ◌≤◌, ◌≡◌, refl, List, [], ◌∷◌, ◌++◌, get_or, set, length, take, drop}
use Rattle.std.proofs.Common.{arith, le_refl, le_trans, sym, ap, ◌∙◌, subst, take-append-drop, drop-set-lt, get_or-set_other}
use Rattle.std.proofs.lemmas.List.Edits.{sets}
use Rattle.cells.specs.Rows.{put_row}
use Rattle.cells.specs.Proof.Rows.{length-put_row}
use Rattle.link.specs.declared.Link.{Link}
use Rattle.symbol_laws.specs.History.{State}
use Rattle.merge_laws.specs.Steps.{others, rows_from, counts_from, with_others, Bounded, Makes}

-- from the rows x and the counts k to y and l
pub record Beside (x : List ℕ) (k : Link) (y : List ℕ) (l : Link) : Type 0 where
  pub long : length y ≡ length x
  pub behind : drop (k.slots * 8) y ≡ drop (k.slots * 8) x
  pub counts : counts_from l k ≡ l
  -- no row past the count is written
  pub more : k.sections ≤ l.sections
  pub past : (q : ℕ) → l.sections * 8 ≤ q → get_or y q 0 ≡ get_or x q 0
  pub bounded : Bounded k → Bounded l

pub beside_none : (x : List ℕ) (k : Link) → Beside x k x k
beside_none x k = record { long = refl; behind = refl; counts = refl; more = le_refl _; past = λ q h. refl; bounded = λ b. b }

pub beside-both : (x y z : List ℕ) (k l m : Link) → Beside x k y l → Beside y l z m → Beside x k z m
beside-both x y z k l m p q =
    record {
      long = q.long ∙ p.long;
      behind =
          subst (λ (n : ℕ). drop (n * 8) z ≡ drop (n * 8) y) (sym (ap (λ (l : Link). l.slots) p.counts)) q.behind ∙ p.behind;
      counts = ap (counts_from m) p.counts ∙ q.counts;
      more = le_trans p.more q.more;
      past = λ i h. q.past i h ∙ p.past i (omega (arith, q.more));
      bounded = λ b. q.bounded (p.bounded b);
    }

pub others-make : (s : State) (y : List ℕ) (l : Link) → Beside s.sections s.link y l → Makes s (others y l ∷ []) (with_others s y l)
others-make s y l b =
    let n : ℕ = s.link.slots * 8 in
    let e : rows_from s.link.slots y s.sections ≡ y = ap (◌++◌ (take n y)) (sym b.behind) ∙ take-append-drop n y in
    record {
      leads =
          ap (λ (x : List ℕ). with_others s x (counts_from l s.link)) e ∙ ap (with_others s y) b.counts;
      accepted = ((b.more, b.long, b.past, λ p. subst Bounded (sym b.counts) (b.bounded p)), tt);
    }

-- ---- a row stored among the rows

drop-sets : (vs l : List ℕ) (a n : ℕ) → a + length vs ≤ n → drop n (sets l a vs) ≡ drop n l
drop-sets [] l a n h = refl
drop-sets (v ∷ vs) l a n h = drop-sets vs (sets l a (v ∷ [])) (suc a) n (omega arith) ∙ drop-set-lt n l a v (omega arith)

pub sets-past : (vs l : List ℕ) (a q : ℕ) → a + length vs ≤ q → get_or (sets l a vs) q 0 ≡ get_or l q 0
sets-past [] l a q h = refl
sets-past (v ∷ vs) l a q h = sets-past vs (set l a v) (suc a) q (omega arith) ∙ get_or-set_other l a q v 0 (λ e. omega arith)

pub row-beside : (x : List ℕ) (i : ℕ) (vs : List ℕ) (k l : Link) → length vs ≡ 8 → i < k.slots → i < l.sections → k.sections ≤ l.sections
    → counts_from l k ≡ l → (Bounded k → Bounded l) → Beside x k (put_row x i vs) l
unfolding put_row
row-beside x i vs k l e h f m c b =
    record {
      long = length-put_row x i vs;
      behind = drop-sets vs x (i * 8) (k.slots * 8) (omega arith);
      counts = c;
      more = m;
      past = λ q g. sets-past vs x (i * 8) q (omega arith);
      bounded = b;
    }
