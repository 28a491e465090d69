-- What holds of each refusal that a start can give: 1 at a place, 20 at the first empty index, 2 at 0; and of none.
-- Assumes nothing.
use Rattle.std.specs.Prelude.{ℕ, zero, suc, ◌+◌, ◌/◌, ◌≡◌, Bool, List, eqb, ltb, length}
use borrow.Author.Tests.{eqb-true}
use Rattle.byte_slices.specs.Proof.Ways.{pick}
use Rattle.link.specs.declared.cause.Refusal.{Refusal}
use Rattle.link.specs.Bounds.{lesser}
use Rattle.link.specs.Judge.{refused, none}
use Rattle.link.specs.Proof.Judged.{first}
use Rattle.archive_index.specs.Archives.{Archives, index_at, count_at, entries_in}
use Rattle.archive_index.specs.Index.{count_of}
use Rattle.archive_index.specs.Open as Open
use Rattle.archive_index.specs.Open.{first_not, judge_each, end_fits, is_filled, offsets_in, cut_in, judge_index, judge_from, judge_archives, judge_of, open_of}

module _ (P : Refusal → Type 0) where
  -- of two judgements
  pub first-gives : (x y : Refusal) → P x → P y → P (first x y)
  first-gives x y a b = pick P (eqb x.number 0) _ _ (λ e. b) (λ e. a)

  -- the second where the first refuses nothing
  pub then-gives : (x y : Refusal) → P x → (x.number ≡ 0 → P y) → P (first x y)
  then-gives x y a b = pick P (eqb x.number 0) _ _ (λ e. b (eqb-true _ _ e)) (λ e. a)

  module _ (one : (k : ℕ) → P (refused 1 k)) (fine : P none) where
    pub each-gives : (f : ℕ → Bool) (n number : ℕ) → P (refused number (first_not f n 0)) → P (judge_each f n number)
    unfolding judge_each
    each-gives f n number h = pick P (ltb (first_not f n 0) n) _ _ (λ e. h) (λ e. fine)

    pub index-gives : (s : List ℕ) (b : ℕ) → P (judge_index s b)
    unfolding judge_index
    index-gives s b =
        pick P (ltb (length s) 4) _ _ (λ e. one b)
        (λ e.
        pick P (ltb (offsets_in (length s)) (count_of s)) _ _ (λ d. one (lesser 65535 (b + offsets_in (length s))))
        (λ d. pick P (ltb 65535 (b + count_of s)) _ _ (λ g. one 65535) (λ g. pick P (ltb (cut_in s) (count_of s)) _ _ (λ h. one (b + cut_in s)) (λ h. fine))))

    module _ (a : Archives) where
      pub from-gives : (n j b : ℕ) → P (judge_from a n j b)
      unfolding judge_from
      from-gives zero j b = fine
      from-gives (suc n) j b = first-gives (judge_index (index_at a j) b) (judge_from a n (j + 1) (b + count_at a j)) (index-gives (index_at a j) b) (from-gives n (j + 1) (b + count_at a j))

      module _ (empty : P (judge_each (is_filled a) (length a.ends) 20)) (short : P (refused 2 0)) where
        pub judge-gives : (rows : ℕ) → P (judge_of a rows)
        unfolding judge_of judge_archives
        judge-gives rows =
            first-gives _ _ (pick P (ltb 16 (length a.ends)) _ _ (λ e. one 16) (λ e. fine))
            (first-gives _ _ (each-gives (end_fits a) (length a.ends) 1 (one (first_not (end_fits a) (length a.ends) 0)))
            (first-gives _ _ empty
            (first-gives _ _ (from-gives (length a.ends) 0 0) (pick P (ltb rows (entries_in a)) _ _ (λ e. short) (λ e. fine)))))

        pub open-gives : (l : List ℕ) → P (open_of a l).opened.refusal
        unfolding open_of
        open-gives l = pick (λ (o : Open.Left). P o.opened.refusal) (eqb (judge_of a (length l / 8)).number 0) _ _ (λ e. fine) (λ e. judge-gives (length l / 8))
