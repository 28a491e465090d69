-- The ways through the functions over names.
-- Assumes nothing.
use Rattle.std.specs.Prelude.{ℕ, suc, ◌+◌, ◌*◌, ◌-◌, ◌/◌, ◌<◌, ◌≤◌, ◌≡◌, refl, Bool, List, ltb, leb, length, get_or}
use native.Mathlib.Omega.{arith}
use Rattle.std.proofs.Common.{mul-le-mul_right, ◌∙◌, Fits}
use Rattle.std.proofs.Math.Path.{sym}
use Rattle.std.proofs.Math.Bool.{true, false, cond}
use Rattle.std.specs.Int.{w64}
use borrow.Author.Tests.{eq-eqb, ne_eqb, lt-ltb, le-ltb, ltb-true, ltb-false, leb-false}
use Rattle.byte_slices.specs.Bytes.{same}
use Rattle.byte_slices.specs.Proof.Ways.{pick, apart}
use Rattle.link.specs.declared.Link.{Link}
use Rattle.link.specs.Bounds.{lesser, name_rows, name_bytes}
use Rattle.keyed_hash.specs.Keyed.{hash_of}
use Rattle.interner.specs.Hash.{spread, head_cell}
use Rattle.interner.specs.Names.{store_of, name_at, next_at, chase, seek_of, room_of}

-- ---- the cell of a chain's head

module _ (n h : ℕ) (small : h < 0x100000000) where
  most : h * lesser n 0x100000000 ≤ 0xffffffff * lesser n 0x100000000
  most = mul-le-mul_right _ (omega arith)

  lesser-low : (lesser n 0x100000000 ≤ n) × (lesser n 0x100000000 ≤ 0x100000000)
  unfolding lesser
  lesser-low =
      pick (λ (k : ℕ). (k ≤ n) × (k ≤ 0x100000000)) (ltb n 0x100000000) n 0x100000000
      (λ t. let l : n < 0x100000000 = ltb-true _ _ t in (omega arith, omega arith))
      (λ t. let l : 0x100000000 ≤ n = ltb-false _ _ t in (omega arith, omega arith))

  module _ (m : ℕ) (is : m ≡ lesser n 0x100000000) where
    pub spread-fits : Fits w64 (h * m)
    spread-fits = rw is (omega (arith, most, lesser-low.1))

    pub spread-is : (t : ℕ) → t ≡ h * m / 0x100000000 → t ≡ spread n h
    unfolding spread
    spread-is t q = simp (q, is)

    pub spread-most : (t : ℕ) → t ≡ h * m / 0x100000000 → t ≤ n
    spread-most t q = let p : h * m ≤ 0xffffffff * m = mul-le-mul_right _ (omega arith) in let l : m ≤ n = rw is lesser-low.0 in omega (arith, q, p, l)

  pub spread-below : 0 < n → spread n h < n
  unfolding spread
  spread-below s = omega (arith, most, lesser-low.0)

module _ (l : Link) (n : ℕ) (x : List ℕ) (t k h v : ℕ) where
  pub head-short : k ≡ name_rows n → k < l.chains → t ≡ n → t ≡ head_cell l n x
  unfolding head_cell
  head-short e z q = simp (q, ← e, lt-ltb _ _ z)

  pub head_at : k ≡ name_rows n → l.chains ≤ k → h ≡ hash_of l.key x → v ≡ spread l.chains h → t ≡ l.chains * 8 + v → t ≡ head_cell l n x
  unfolding head_cell
  head_at e z f g q = simp (q, g, f, ← e, le-ltb _ _ z)

  pub head-eight : k ≡ name_rows n → l.chains ≤ k → Fits w64 n → Fits w64 (l.chains * 8)
  head-eight e z f = omega arith

  pub head-fits : k ≡ name_rows n → l.chains ≤ k → Fits w64 n → v ≤ l.chains → Fits w64 (l.chains * 8 + v)
  head-fits e z f g = omega arith

-- ---- along a chain: how a search goes on, and what it ends with

module _ (bytes names : List ℕ) (count : ℕ) (x : List ℕ) (at n w : ℕ) (q : w ≡ chase bytes names count x at n) where
  pub chase-out : n ≡ 0 → count ≡ w
  unfolding chase
  chase-out e = sym (q ∙ rw e)

  module _ (m : ℕ) (more : n ≡ suc m) where
    pub chase-end : at ≡ 0 → count ≡ w
    unfolding chase
    chase-end e = sym (q ∙ rw more (simp (eq-eqb _ _ e)))

    module _ (p : List ℕ) (b : Bool) (some : at ≡ 0 → ⊥) (name : p ≡ name_at bytes names (at - 1)) (test : b ≡ same p x) where
      pub chase-hit : b ≡ true → at - 1 ≡ w
      unfolding chase
      chase-hit t = sym (q ∙ rw more (simp (ne_eqb _ _ some, ← name, ← test, t)))

      pub chase-on : (k : ℕ) → b ≡ false → k ≡ next_at names (at - 1) → w ≡ chase bytes names count x k m
      unfolding chase
      chase-on k t e = q ∙ rw more (simp (ne_eqb _ _ some, ← name, ← test, t, e))

pub seek-start : (bytes names : List ℕ) (count head : ℕ) (x : List ℕ) (k t : ℕ) → t ≡ get_or names head 0 → k ≡ name_rows (length names)
    → seek_of bytes names count head x ≡ chase bytes names count x t k
unfolding seek_of
seek-start bytes names count head x k t e f = rw (e, f)

-- ---- what room gives
most_bytes : (n : ℕ) → name_bytes n ≤ 1048576
unfolding lesser
most_bytes n = pick (λ (r : ℕ). r ≤ 1048576) (ltb 1048576 n) 1048576 n (λ e. omega arith) (λ e. ltb-false _ _ e)

neither : (a b : Bool) → cond a false b ≡ true → (a ≡ false) × (b ≡ true)
neither true b e = absurd (apart e)
neither false b e = (refl, e)

module _ (bytes names : List ℕ) (l : Link) (n : ℕ) (b : Bool) (e : b ≡ room_of (store_of bytes names l) n) (h : b ≡ true) where
  room-parts : (l.names < l.chains) × (l.chains ≤ name_rows (length names)) × (l.bytes + n ≤ name_bytes (length bytes))
  unfolding room_of
  room-parts =
      let most = name_bytes (length bytes) in
      let short = cond (ltb (most - l.bytes) n) false true in
      let over = cond (ltb most l.bytes) false short in
      let full = cond (leb l.chains l.names) false over in
      let w = neither (ltb (name_rows (length names)) l.chains) full (sym e ∙ h) in
      let p = neither (leb l.chains l.names) over w.1 in
      let q = neither (ltb most l.bytes) short p.1 in
      let r = neither (ltb (most - l.bytes) n) true q.1 in
      (leb-false _ _ p.0, ltb-false _ _ w.0, (let v : l.bytes ≤ most = ltb-false _ _ q.0 in let y : n ≤ most - l.bytes = ltb-false _ _ r.0 in omega arith))

  pub room-names : Fits w64 (length names) → l.names < 18446744073709551615
  room-names f = omega (arith, room-parts.0, room-parts.1)

  pub room_next : Fits w64 (length names) → Fits w64 (l.names + 1)
  room_next f = omega (arith, room-parts.0, room-parts.1)

  pub room-sum : Fits w64 (l.bytes + n)
  room-sum = omega (arith, room-parts.2, most_bytes (length bytes))
