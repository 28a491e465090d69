-- One archive alone: what several indexes are (Archives.antt), of one.
-- Assumes nothing.
use Prim.Native.Nat.{ℕ, ◌-◌, ◌<◌}
use Rattle.std.proofs.Common.{arith}
use Rattle.std.specs.Prelude.{◌≡◌, refl, Bool, true, false, cond, List, eqb, ltb, length}
use Rattle.std.proofs.lemmas.List.{take_all}
use Rattle.std.proofs.Math.Decide.{ℕ_discrete}
use borrow.Author.Tests.{ne_eqb, lt-ltb, le-leb}
use Rattle.link.specs.declared.cause.Refusal.{Refusal}
use Rattle.link.specs.Judge.{none, refused}
use Rattle.link.specs.Proof.Judged.{first}
use Rattle.archive_index.specs.Index.{count_of, offset_of, name_of}
use Rattle.archive_index.specs.Archives.{one, start_at, index_at, entries_from, entries_in, member, member_from, member_of, name_from, name_in, key_in}
use Rattle.archive_index.specs.Open.{first_not, judge_each, end_fits, is_filled, judge_index, judge_from, judge_rows, judge_archives, judge_of}

module _ (s : List ℕ) where
  pub index-one : index_at (one s) 0 ≡ s
  unfolding index_at start_at
  index-one = let z : length s - 0 ≡ length s = omega arith in rw z (take_all (length s) s (omega arith))

  pub entries-one : entries_in (one s) ≡ count_of s
  unfolding entries_from
  entries-one = rw index-one (omega arith)

  pub name-one : (e : ℕ) → e < count_of s → name_in (one s) e ≡ name_of s (count_of s) e
  unfolding name_from
  name-one e h = rw (index-one, lt-ltb e (count_of s) h)

  module _ (e : ℕ) where
    pub member-one : member_of (one s) e ≡ member 0 (offset_of s e)
    unfolding member_from
    member-one = rw index-one

    -- its key is its offset
    pub key-one : key_in (one s) e ≡ offset_of s e
    key-one = rw member-one (omega arith)

  fits-one : end_fits (one s) 0 ≡ true
  unfolding end_fits start_at
  fits-one = rw (le-leb 0 (length s) (omega arith), le-leb (length s) (length s) (omega arith))

  ends-one : judge_each (end_fits (one s)) 1 1 ≡ none
  unfolding judge_each first_not
  ends-one = rw fits-one

  filled-one : judge_each (is_filled (one s)) 1 20 ≡ cond (eqb (length s) 0) (refused 20 0) none
  unfolding judge_each first_not is_filled
  filled-one = rw index-one (go (ℕ_discrete (length s) 0))
    where
      go : Dec (length s ≡ 0) → cond (ltb (cond (ltb 0 (length s)) 1 0) 1) (refused 20 (cond (ltb 0 (length s)) 1 0)) none ≡ cond (eqb (length s) 0) (refused 20 0) none
      go (yes e) = rw e
      go (no e) = rw (ne_eqb (length s) 0 e, lt-ltb 0 (length s) (omega arith))

  none-last : (x : Refusal) → first x none ≡ cond (eqb x.number 0) none x
  none-last x = refl

  from-one : judge_from (one s) 1 0 0 ≡ cond (eqb (judge_index s 0).number 0) none (judge_index s 0)
  unfolding judge_from
  from-one = rw index-one

  again : (x y : Refusal) → first (cond (eqb x.number 0) none x) y ≡ first x y
  again x y = go (eqb x.number 0) refl
    where
      go : (b : Bool) → eqb x.number 0 ≡ b → first (cond b none x) y ≡ cond b y x
      go true e = refl
      go false e = rw e

  -- what is judged: 20; 1; 2
  pub judge-one : (rows : ℕ) → judge_of (one s) rows ≡ cond (eqb (length s) 0) (refused 20 0) (first (judge_index s 0) (judge_rows rows (count_of s)))
  unfolding judge_of judge_archives
  judge-one rows = rw (ends-one, filled-one, from-one, entries-one, again (judge_index s 0) (judge_rows rows (count_of s))) (go (eqb (length s) 0))
    where
      go : (b : Bool) → first (cond b (refused 20 0) none) (first (judge_index s 0) (judge_rows rows (count_of s))) ≡ cond b (refused 20 0) (first (judge_index s 0) (judge_rows rows (count_of s)))
      go true = refl
      go false = refl
