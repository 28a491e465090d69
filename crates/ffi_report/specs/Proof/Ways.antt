-- The cells of figures, one after the other.
-- Assumes nothing.
use Rattle.std.specs.Prelude.{ℕ, suc, ◌+◌, ◌<◌, ◌≤◌, ◌≡◌, refl, List, [], ◌∷◌, get_or, set, drop, length}
use Rattle.std.proofs.Common.{arith, sym, ap, ◌∙◌, drop-cons, add-one}
use Rattle.std.proofs.lemmas.List.{drop_all}
use Rattle.ffi_report.specs.Calls.{put_from}

module _ (old xs : List ℕ) (at : ℕ) where
  pub put-start : put_from old (at + 0) (drop 0 xs) ≡ put_from old at xs
  put-start = let e : at + 0 ≡ at = omega arith in rw e refl

  pub put-on : (now : List ℕ) (i : ℕ) → i < length xs → put_from now (at + i) (drop i xs) ≡ put_from old at xs
      → put_from (set now (at + i) (get_or xs i 0)) (at + (i + 1)) (drop (i + 1) xs) ≡ put_from old at xs
  unfolding put_from
  put-on now i h e =
      let d : drop i xs ≡ get_or xs i 0 ∷ drop (suc i) xs = drop-cons xs i 0 h in
      let s : at + (i + 1) ≡ at + i + 1 = omega arith in
      rw (s, add-one i) (rw d at e)

  pub put-end : (now : List ℕ) (i : ℕ) → length xs ≤ i → put_from now (at + i) (drop i xs) ≡ put_from old at xs → now ≡ put_from old at xs
  unfolding put_from
  put-end now i h e = let d : drop i xs ≡ [] = drop_all i xs h in rw d at e
