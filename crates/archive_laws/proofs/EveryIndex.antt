-- What several indexes' entries are, index by index: the closing fact of every index, and that a member's key is its archive and its offset.
-- Assumes nothing.
use Prim.Native.Nat.{ℕ, zero, suc, ◌+◌, ◌*◌, ◌-◌, ◌<◌, ◌≤◌}
use Rattle.std.proofs.Common.{arith, ap, sym, subst, ◌∙◌, get_or-drop, ltb-true, ltb-false}
use Rattle.std.specs.Prelude.{◌≡◌, refl, Bool, true, false, ◌||◌, List, [], ◌∷◌, eqb, ltb, get_or, drop, length}
use Rattle.std.proofs.lemmas.List.{get_or-take, length-take}
use Rattle.std.proofs.Math.ListN.{get_or-eq_default}
use borrow.Author.Tests.{lt-ltb, le-ltb, eqb-true, eqb-false, ne_eqb}
use Rattle.byte_slices.specs.Proof.Ways.{apart}
use Rattle.cells.specs.Proof.Split.{by-test}
use Rattle.byte_slices.specs.Bytes.{part}
use Rattle.archive_index.specs.declared.several.Member.{Member}
use Rattle.archive_index.specs.Index.{offset_of, name_of}
use Rattle.archive_index.specs.Archives.{Archives, start_at, end_at, index_at, count_at, entries_from, member, member_from, member_of, name_from, key_of, key_in}
use Rattle.archive_walk.specs.Look.{Table, tied_name}
use Rattle.archive_laws.specs.Members as Members
use Rattle.archive_laws.specs.Rounds.{among, Offered, here, later}
use Rattle.archive_laws.specs.Runs.{Run, step_run}
use Rattle.archive_laws.specs.Walked.{Walked}

-- ---- entry i of index j

pub or-true : (b : Bool) → b || true ≡ true
or-true true = refl
or-true false = refl

module _ (a : Archives) where
  pub named-at : (m n j i : ℕ) → m < n → i < count_at a (j + m) → name_from a n j (entries_from a m j + i) ≡ name_of (index_at a (j + m)) (count_at a (j + m)) i
  unfolding name_from entries_from
  named-at m zero j i h g = absurd (omega arith)
  named-at zero (suc n) j i h g =
      let z : 0 + i ≡ i = omega arith in
      let y : j + 0 ≡ j = omega arith in
      rw (z, y, lt-ltb i (count_at a j) (rw y at g)) refl
  named-at (suc m) (suc n) j i h g =
      let z : count_at a j + entries_from a m (j + 1) + i - count_at a j ≡ entries_from a m (j + 1) + i = omega arith in
      let y : j + suc m ≡ j + 1 + m = omega arith in
      rw (le-ltb (count_at a j + entries_from a m (j + 1) + i) (count_at a j) (omega arith), z, y) (named-at m n (j + 1) i (omega arith) (rw y at g))

  member-at : (m n j i : ℕ) → m < n → i < count_at a (j + m) → member_from a n j (entries_from a m j + i) ≡ member (j + m) (offset_of (index_at a (j + m)) i)
  unfolding member_from entries_from
  member-at m zero j i h g = absurd (omega arith)
  member-at zero (suc n) j i h g =
      let z : 0 + i ≡ i = omega arith in
      let y : j + 0 ≡ j = omega arith in
      rw (z, y, lt-ltb i (count_at a j) (rw y at g), or-true (eqb n 0)) refl
  member-at (suc m) (suc n) j i h g =
      let z : count_at a j + entries_from a m (j + 1) + i - count_at a j ≡ entries_from a m (j + 1) + i = omega arith in
      let y : j + suc m ≡ j + 1 + m = omega arith in
      rw (le-ltb (count_at a j + entries_from a m (j + 1) + i) (count_at a j) (omega arith), ne_eqb n 0 (λ (x : n ≡ 0). omega arith), z, y)
      (member-at m n (j + 1) i (omega arith) (rw y at g))

  pub within : (m n j : ℕ) → m < n → entries_from a m j + count_at a (j + m) ≤ entries_from a n j
  unfolding entries_from
  within m zero j h = absurd (omega arith)
  within zero (suc n) j h = let y : j + 0 ≡ j = omega arith in rw y (omega arith)
  within (suc m) (suc n) j h = let y : j + suc m ≡ j + 1 + m = omega arith in rw y (omega (arith, within m n (j + 1) (omega arith)))

  -- the closing fact of each index: where the call over t ends the walk, a name of an entry of index j that ties in t is tied to an offered member
  pub every-index : (ts : List Table) (r : Run) → Walked a ts r → (t : Table) → r.walk.done ≡ false → (step_run a t r).walk.done ≡ true → (j i : ℕ) → j < length a.ends → i < count_at a j
      → tied_name t (name_of (index_at a j) (count_at a j) i) ≡ true → among a (entries_from a j 0 + i) (step_run a t r).offers ≡ true
  every-index ts r w t d e j i h g u =
      let y : 0 + j ≡ j = omega arith in
      let low : i < count_at a (0 + j) = rw y g in
      w.last t d e (entries_from a j 0 + i) (omega (arith, within j (length a.ends) 0 h, low))
      (ap (tied_name t) (named-at j (length a.ends) 0 i h low ∙ rw y refl) ∙ u)

-- ---- keys

-- archive and offset are told by it
pub keys-apart : (j o k p : ℕ) → o < 0x100000000 → p < 0x100000000 → key_of j o ≡ key_of k p → (j ≡ k) × (o ≡ p)
keys-apart j o k p h g e = (omega arith, omega arith)

pub offset-small : (s : List ℕ) → ((i : ℕ) → get_or s i 0 < 256) → (k : ℕ) → offset_of s k < 0x100000000
unfolding offset_of
offset-small s b k = let at : ℕ = 4 + 4 * k in omega (arith, b at, b (at + 1), b (at + 2), b (at + 3))

part-bytes : (s : List ℕ) → ((i : ℕ) → get_or s i 0 < 256) → (o m i : ℕ) → get_or (part s o m) i 0 < 256
part-bytes s b o m i =
    by-test (ltb i m) (λ t. rw (get_or-take m (drop o s) i 0 (ltb-true i m t), get_or-drop o s i 0) (b (o + i)))
    (λ t. let z : get_or (part s o m) i 0 ≡ 0 = get_or-eq_default (part s o m) 0 {n = i} (omega (arith, ltb-false i m t, length-take m (drop o s))) in omega arith)

module _ (a : Archives) (bytes : (i : ℕ) → get_or a.bytes i 0 < 256) where
  member-small : (n j e : ℕ) → (member_from a n j e).offset < 0x100000000
  unfolding member_from index_at
  member-small zero j e = omega arith
  member-small (suc n) j e =
      by-test (eqb n 0 || ltb e (count_at a j)) (λ t. rw t (offset-small (index_at a j) (λ i. part-bytes a.bytes bytes (start_at a j) (end_at a j - start_at a j) i) e))
      (λ t. rw t (member-small n (j + 1) (e - count_at a j)))

  archive-low : (n j e : ℕ) → (member_from a n j e).archive ≤ j + (n - 1)
  unfolding member_from
  archive-low zero j e = omega arith
  archive-low (suc n) j e =
      by-test (eqb n 0 || ltb e (count_at a j)) (λ t. rw t (omega arith))
      (λ t. by-test (eqb n 0) (λ u. absurd (apart (sym t ∙ rw u refl))) (λ u. rw t (omega (arith, eqb-false _ _ u, archive-low n (j + 1) (e - count_at a j)))))

  -- a key has 36 bits
  pub key-small : length a.ends ≤ 16 → (e : ℕ) → key_in a e < 0x1000000000
  key-small few e = omega (arith, few, archive-low (length a.ends) 0 e, member-small (length a.ends) 0 e)

  -- of bytes, one key is one member
  pub one-member : (e f : ℕ) → key_in a e ≡ key_in a f → member_of a e ≡ member_of a f
  one-member e f q =
      let (p, r) = keys-apart (member_of a e).archive (member_of a e).offset (member_of a f).archive (member_of a f).offset (member-small (length a.ends) 0 e) (member-small (length a.ends) 0 f) q in
      ap (λ (j : ℕ). member j (member_of a e).offset) p ∙ ap (member (member_of a f).archive) r

  -- of the entries q one is of entry k's member, by archive and offset
  offered : (k : ℕ) (q : List ℕ) → among a k q ≡ true → Offered a (member_of a k) q
  unfolding Members.among
  offered k [] e = absurd (apart e)
  offered k (j ∷ q) e =
      by-test (eqb (key_in a j) (key_in a k)) (λ t. here (one-member j k (eqb-true _ _ t))) (λ t. later (offered k q (rw t at e)))

  -- the closing fact by archive and offset
  pub every-member : (ts : List Table) (r : Run) → Walked a ts r → (t : Table) → r.walk.done ≡ false → (step_run a t r).walk.done ≡ true → (j i : ℕ) → j < length a.ends → i < count_at a j
      → tied_name t (name_of (index_at a j) (count_at a j) i) ≡ true → Offered a (member j (offset_of (index_at a j) i)) (step_run a t r).offers
  every-member ts r w t d e j i h g u =
      let y : 0 + j ≡ j = omega arith in
      let low : i < count_at a (0 + j) = rw y g in
      subst (λ (m : Member). Offered a m (step_run a t r).offers) (member-at a j (length a.ends) 0 i h low ∙ rw y refl)
      (offered (entries_from a j 0 + i) (step_run a t r).offers (every-index a ts r w t d e j i h g u))
