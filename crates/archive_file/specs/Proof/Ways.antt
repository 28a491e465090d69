-- What stands before a byte, as it is looked for.
-- Assumes nothing.
use Rattle.std.proofs.Math.Seq.{take-suc}
use Rattle.std.proofs.lemmas.List.{append-nil, take_all, drop_all}
use Rattle.byte_slices.specs.Bytes.{same}
use Rattle.archive_file.specs.declared.Member.{Member}
use Rattle.std.specs.Prelude.{ℕ, suc, ◌+◌, ◌<◌, ◌≤◌, ◌≡◌, refl, true, false, cond, List, [], ◌∷◌, ◌++◌, eqb, get_or, take, drop, length, Option, None}
use Rattle.std.proofs.Common.{arith, sym, ap, ◌∙◌, drop-cons, append_assoc, add-one}
use Rattle.archive_file.specs.Members.{until, has_end, member_of}

module _ (end : ℕ) (x : List ℕ) where
  pub until-stop : (k : ℕ) → k < length x → eqb (get_or x k 0) end ≡ true → until end x ≡ take k x ++ until end (drop k x) → take k x ≡ until end x
  unfolding until
  until-stop k h e q =
      let d : drop k x ≡ get_or x k 0 ∷ drop (suc k) x = drop-cons x k 0 h in
      sym (q ∙ rw (d, e) (append-nil (take k x)))

  pub until-on : (k : ℕ) → k < length x → eqb (get_or x k 0) end ≡ false → until end x ≡ take k x ++ until end (drop k x)
      → until end x ≡ take (k + 1) x ++ until end (drop (k + 1) x)
  unfolding until
  until-on k h e q =
      let d : drop k x ≡ get_or x k 0 ∷ drop (suc k) x = drop-cons x k 0 h in
      let t : take (suc k) x ≡ take k x ++ (get_or x k 0 ∷ []) = take-suc x k 0 h in
      let u : until end (drop k x) ≡ get_or x k 0 ∷ until end (drop (suc k) x) = rw (d, e) refl in
      let p : take k x ++ until end (drop k x) ≡ take (suc k) x ++ until end (drop (suc k) x) =
      rw (u, t) (sym (append_assoc (take k x) (get_or x k 0 ∷ []) (until end (drop (suc k) x)))) in
      q ∙ rw (add-one k) p

  pub until-all : (k : ℕ) → length x ≤ k → until end x ≡ take k x ++ until end (drop k x) → x ≡ until end x
  unfolding until
  until-all k h q = sym (q ∙ rw (take_all k x h, drop_all k x h) (append-nil x))

-- a place past the end has no header
pub past-end : (file : List ℕ) (at : ℕ) → length file < at → ◌≡◌ {A = Option Member} None (member_of file at)
unfolding member_of has_end same
past-end file at h = rw (drop_all (at + 58) file (omega (arith, h)))
