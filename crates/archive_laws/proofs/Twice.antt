-- An archive that is given twice has twice the members.
-- Assumes nothing.
use Prim.Native.Nat.{ℕ, zero, suc, ◌+◌, ◌*◌, ◌-◌, ◌<◌}
use Rattle.std.proofs.Common.{arith, ap, ◌∙◌}
use Rattle.std.specs.Prelude.{◌≡◌, refl, Bool, false, not, List, [], ◌∷◌, eqb, get_or}
use borrow.Author.Tests.{ne_eqb, lt-ltb, le-ltb, eqb-true, eqb-false, eq-eqb}
use Rattle.cells.specs.Proof.Split.{by-test}
use Rattle.archive_index.specs.Index.{count_of, offset_of}
use Rattle.archive_index.specs.Archives.{Archives, one, entries_from, entries_in, member_from, key_in}
use Rattle.archive_laws.specs.Members.{cnt, any_below, is_first}
use Rattle.archive_laws.specs.Rounds.{members}
use Rattle.archive_laws.specs.Joined.{archives_joined}
use Rattle.archive_laws.proofs.Joined.{index-joined}
use Rattle.archive_laws.proofs.One.{key-one}
use Rattle.archive_laws.proofs.EveryIndex.{offset-small}

-- ---- how many of c + n, and some of c + n

cnt-both : (f : ℕ → Bool) (c n : ℕ) → cnt f (c + n) ≡ cnt f c + cnt (λ i. f (c + i)) n
unfolding cnt
cnt-both f c zero = let z : c + 0 ≡ c = omega arith in let y : cnt f c + 0 ≡ cnt f c = omega arith in rw (z, y)
cnt-both f c (suc n) =
    let z : c + suc n ≡ suc (c + n) = omega arith in
    let y : cnt f c + suc (cnt (λ i. f (c + i)) n) ≡ suc (cnt f c + cnt (λ i. f (c + i)) n) = omega arith in
    rw (z, cnt-both f c n) (by-test (f (c + n)) (λ t. rw (t, y)) (λ t. rw t))

cnt-same : (f g : ℕ → Bool) (n : ℕ) → ((i : ℕ) → i < n → f i ≡ g i) → cnt f n ≡ cnt g n
unfolding cnt
cnt-same f g zero h = refl
cnt-same f g (suc n) h = rw (h n (omega arith), cnt-same f g n (λ i l. h i (omega arith)))

any-both : (f : ℕ → Bool) (c n : ℕ) → ((i : ℕ) → i < c → f i ≡ false) → any_below f (c + n) ≡ any_below (λ i. f (c + i)) n
unfolding any_below
any-both f zero zero h = refl
any-both f (suc c) zero h =
    let z : suc c + 0 ≡ suc c = omega arith in
    let y : c + 0 ≡ c = omega arith in
    rw (z, h c (omega arith)) (rw y at (any-both f c zero (λ i l. h i (omega arith))))
any-both f c (suc n) h = let z : c + suc n ≡ suc (c + n) = omega arith in rw (z, any-both f c n h)

any-same : (f g : ℕ → Bool) (n : ℕ) → ((i : ℕ) → i < n → f i ≡ g i) → any_below f n ≡ any_below g n
unfolding any_below
any-same f g zero h = refl
any-same f g (suc n) h = rw (h n (omega arith), any-same f g n (λ i l. h i (omega arith)))

-- ---- the second time each entry has its archive's number in its key

module _ (s : List ℕ) (bytes : (i : ℕ) → get_or s i 0 < 256) where
  abbrev twice : Archives
  twice = archives_joined (s ∷ s ∷ [])

  abbrev c : ℕ
  c = count_of s

  entries-twice : entries_in twice ≡ c + c
  unfolding entries_from
  entries-twice = rw (index-joined (s ∷ s ∷ []) 0, index-joined (s ∷ s ∷ []) 1) (omega arith)

  first-key : (e : ℕ) → e < c → key_in twice e ≡ offset_of s e
  unfolding member_from
  first-key e h = rw (index-joined (s ∷ s ∷ []) 0, lt-ltb e c h) (omega arith)

  second-key : (e : ℕ) → e < c → key_in twice (c + e) ≡ 0x100000000 + offset_of s e
  unfolding member_from
  second-key e h =
      let z : c + e - c ≡ e = omega arith in
      rw (index-joined (s ∷ s ∷ []) 0, le-ltb (c + e) c (omega arith), index-joined (s ∷ s ∷ []) 1, z) (omega arith)

  firsts : (e : ℕ) → e < c → is_first (key_in twice) e ≡ is_first (key_in (one s)) e
  unfolding is_first
  firsts e h =
      ap not
      (any-same (λ j. eqb (key_in twice j) (key_in twice e)) (λ j. eqb (key_in (one s) j) (key_in (one s) e)) e
      (λ j l. rw (first-key j (omega arith), first-key e h, key-one s j, key-one s e)))

  seconds : (e : ℕ) → e < c → is_first (key_in twice) (c + e) ≡ is_first (key_in (one s)) e
  unfolding is_first
  seconds e h =
      ap not
      (any-both (λ j. eqb (key_in twice j) (key_in twice (c + e))) c e (λ j l. rw (first-key j l, second-key e h) (ne_eqb _ _ (λ z. omega (arith, z, offset-small s bytes j))))
      ∙ any-same (λ j. eqb (key_in twice (c + j)) (key_in twice (c + e))) (λ j. eqb (key_in (one s) j) (key_in (one s) e)) e
      (λ j l. rw (second-key j (omega arith), second-key e h, key-one s j, key-one s e) (plus (offset_of s j) (offset_of s e))))
    where
      plus : (x y : ℕ) → eqb (0x100000000 + x) (0x100000000 + y) ≡ eqb x y
      plus x y =
          by-test (eqb x y) (λ t. rw (eqb-true x y t, eq-eqb y y refl, eq-eqb (0x100000000 + y) (0x100000000 + y) refl))
          (λ t. let d : x ≡ y → ⊥ = eqb-false x y t in rw (t, ne_eqb (0x100000000 + x) (0x100000000 + y) (λ z. d (omega arith))))

  pub given-twice : members twice (entries_in twice) ≡ 2 * members (one s) (count_of s)
  given-twice =
      let m : ℕ = members (one s) c in
      let a : cnt (is_first (key_in twice)) c ≡ m = cnt-same (is_first (key_in twice)) (is_first (key_in (one s))) c firsts in
      let b : cnt (λ i. is_first (key_in twice) (c + i)) c ≡ m = cnt-same (λ i. is_first (key_in twice) (c + i)) (is_first (key_in (one s))) c seconds in
      rw (entries-twice, cnt-both (is_first (key_in twice)) c c, a, b) (omega arith)
