-- The reading of an index is right: of the bytes of any list of entries (the System V format, gabi/specs/ArchiveIndex.antt), whatever stands behind them, the
-- count, each offset and each name are the list's, and they are refused for too many entries alone.
-- Assumes nothing.
use Prim.Native.Nat.{ℕ, suc, ◌+◌, ◌*◌, ◌/◌, ◌%◌, ◌<◌, ◌≤◌}
use Rattle.std.proofs.Math.Nat.{div-div-eq-div-mul}
use Rattle.std.proofs.Common.{div-add-mod', mod-eq_of_lt, sym, ◌∙◌, get_or-drop, drop-drop, take_at}
use native.Mathlib.Omega.{arith}
use Rattle.std.specs.Prelude.{◌≡◌, refl, true, cond, ltb, get_or}
use Rattle.std.proofs.Math.Path.{ap}
use mathlib.Core.List.{List, [], ◌∷◌, ◌++◌, append_assoc}
use Rattle.std.proofs.Math.ListN.{drop, length, length-append}
use Rattle.std.proofs.Math.Seq.{drop_at}
use borrow.Author.Tests.{lt-ltb, le-ltb, ne_eqb}
use Rattle.gabi.specs.StringTable.{before_zero, ended, name_at}
use Rattle.gabi.specs.ArchiveIndex.{Entry, word, offsets, names, index_bytes, NoZero, AllFit}
use Rattle.archive_index.specs.Open.{offsets_in, judge_index}
use Rattle.link.specs.Judge.{refused, none}
use Rattle.archive_index.specs.Index.{word_at, count_of, offset_of, after_of, names_at, place_of, name_of, cut_of}
use Rattle.archive_laws.specs.StartRead.{bytes_of}

-- ---- numbers

-- four digits to the base 256
four : (n : ℕ) → n < 4294967296
    → n / 16777216 % 256 * 16777216 + n / 65536 % 256 * 65536 + n / 256 % 256 * 256 + n % 256 ≡ n
four n h =
    let e2 : n / 256 / 256 ≡ n / 65536 = div-div-eq-div-mul n 256 256 in
    let e3 : n / 65536 / 256 ≡ n / 16777216 = div-div-eq-div-mul n 65536 256 in
    let a : n / 256 * 256 + n % 256 ≡ n = div-add-mod' n 256 in
    let b : n / 65536 * 256 + n / 256 % 256 ≡ n / 256 = ap (λ (k : ℕ). k * 256 + n / 256 % 256) (sym e2) ∙ div-add-mod' (n / 256) 256 in
    let c : n / 16777216 * 256 + n / 65536 % 256 ≡ n / 65536 = ap (λ (k : ℕ). k * 256 + n / 65536 % 256) (sym e3) ∙ div-add-mod' (n / 65536) 256 in
    let l : n / 16777216 < 256 = omega arith in
    let d : n / 16777216 % 256 ≡ n / 16777216 = mod-eq_of_lt l in
    digits (n / 16777216) (n / 65536) (n / 256) n _ _ _ _ d c b a
  where
    digits : (x y z n p q r s : ℕ) → p ≡ x → x * 256 + q ≡ y → y * 256 + r ≡ z → z * 256 + s ≡ n → p * 16777216 + q * 65536 + r * 256 + s ≡ n
    digits x y z n p q r s d c b a = omega arith

word_read : (s b : List ℕ) (p n : ℕ) → n < 4294967296 → drop p s ≡ word n ++ b → word_at s p ≡ n
unfolding word
word_read s b p n h e =
    let z : p + 0 ≡ p = omega arith in
    bytes (get_or s p 0) (get_or s (p + 1) 0) (get_or s (p + 2) 0) (get_or s (p + 3) 0) (ap (λ (k : ℕ). get_or s k 0) (sym z) ∙ at 0) (at 1) (at 2) (at 3)
  where
    at : (i : ℕ) → get_or s (p + i) 0 ≡ get_or (n / 16777216 % 256 ∷ n / 65536 % 256 ∷ n / 256 % 256 ∷ n % 256 ∷ b) i 0
    at i = sym (get_or-drop p s i 0) ∙ ap (λ (l : List ℕ). get_or l i 0) e

    bytes : (x y z w : ℕ) → x ≡ n / 16777216 % 256 → y ≡ n / 65536 % 256 → z ≡ n / 256 % 256 → w ≡ n % 256 → x * 16777216 + y * 65536 + z * 256 + w ≡ n
    bytes x y z w a b c d = rw (a, b, c, d) (four n h)

offsets-append : (a b : List Entry) → offsets (a ++ b) ≡ offsets a ++ offsets b
unfolding offsets
offsets-append [] b = refl
offsets-append (e ∷ a) b = ap (◌++◌ (word e.offset)) (offsets-append a b) ∙ sym (append_assoc (word e.offset) (offsets a) (offsets b))

length-offsets : (es : List Entry) → length (offsets es) ≡ 4 * length es
unfolding offsets word
length-offsets [] = refl
length-offsets (e ∷ es) = let r = length-offsets es in omega arith

-- ---- names

before-end : (n m : List ℕ) → NoZero n → before_zero (n ++ 0 ∷ m) ≡ length n
unfolding before_zero
before-end [] m z = refl
before-end (x ∷ n) m (z, zs) = rw (ne_eqb x 0 z) (ap suc (before-end n m zs))

-- a name that stands at place p, with its zero byte
module _ (s n m : List ℕ) (p : ℕ) (z : NoZero n) (e : drop p s ≡ n ++ 0 ∷ m) where
  has-it : ended s p ≡ true
  unfolding ended
  has-it =
      let l : length n < length (n ++ 0 ∷ m) = omega (arith, length-append n (0 ∷ m)) in
      rw (e, before-end n m z) (lt-ltb (length n) (length (n ++ 0 ∷ m)) l)

  name-it : name_at s p ≡ n
  unfolding name_at
  name-it = rw (has-it, e, before-end n m z) (take_at n (0 ∷ m) (length n) refl)

  after-it : after_of s p ≡ p + length n + 1
  unfolding after_of
  after-it = rw (has-it, name-it)

  rest-it : drop (after_of s p) s ≡ m
  rest-it =
      let k : p + length n + 1 ≡ p + (length n + 1) = omega arith in
      let l : length (n ++ 0 ∷ []) ≡ length n + 1 = length-append n (0 ∷ []) in
      ap (λ (q : ℕ). drop q s) (after-it ∙ k) ∙ sym (drop-drop (length n + 1) p s) ∙ ap (drop (length n + 1)) (e ∙ sym (append_assoc n (0 ∷ []) m))
      ∙ drop_at (n ++ 0 ∷ []) m (length n + 1) l

module _ (s rest : List ℕ) (c : ℕ) where
  -- the places of names one after the other
  place-names : (a b : List Entry) (k : ℕ) → AllFit a → drop (place_of s c k) s ≡ names (a ++ b) ++ rest
      → drop (place_of s c (k + length a)) s ≡ names b ++ rest
  unfolding names place_of
  place-names [] b k f e = let z : k + 0 ≡ k = omega arith in ap (λ (i : ℕ). drop (place_of s c i) s) z ∙ e
  place-names (x ∷ a) b k (o, z, f) e =
      let q : k + suc (length a) ≡ suc k + length a = omega arith in
      ap (λ (i : ℕ). drop (place_of s c i) s) q
      ∙ place-names a b (suc k) f (rest-it s x.name (names (a ++ b) ++ rest) (place_of s c k) z (e ∙ append_assoc x.name (0 ∷ names (a ++ b)) rest))

  -- none is cut short
  none-cut : (es : List Entry) (k p : ℕ) → AllFit es → drop p s ≡ names es ++ rest → cut_of s p (length es) k ≡ k + length es
  unfolding names cut_of
  none-cut [] k p f e = omega arith
  none-cut (x ∷ es) k p (o, z, f) e =
      let here : drop p s ≡ x.name ++ 0 ∷ (names es ++ rest) = e ∙ append_assoc x.name (0 ∷ names es) rest in
      let a : after_of s p ≡ p + length x.name + 1 = after-it s x.name (names es ++ rest) p z here in
      let q : k + 1 + length es ≡ k + suc (length es) = omega arith in
      rw (ne_eqb (after_of s p) 0 (λ (i : after_of s p ≡ 0). omega arith))
      (none-cut es (k + 1) (after_of s p) f (rest-it s x.name (names es ++ rest) p z here) ∙ q)

-- ---- the index

all-fit-left : (a b : List Entry) → AllFit (a ++ b) → AllFit a
all-fit-left [] b f = tt
all-fit-left (e ∷ a) b (o, z, f) = (o, z, all-fit-left a b f)

module _ (es : List Entry) (rest : List ℕ) where
  abbrev bytes : List ℕ
  bytes = bytes_of es rest

  after-count : drop 4 bytes ≡ offsets es ++ (names es ++ rest)
  unfolding index_bytes word
  after-count = append_assoc (offsets es) (names es) rest

  after-offsets : drop (names_at (length es)) bytes ≡ names es ++ rest
  after-offsets =
      sym (drop-drop (4 * length es) 4 bytes) ∙ ap (drop (4 * length es)) after-count
      ∙ drop_at (offsets es) (names es ++ rest) (4 * length es) (length-offsets es)

  long : 4 + 4 * length es ≤ length bytes
  unfolding index_bytes word
  long =
      omega (arith, length-offsets es, length-append (word (length es) ++ (offsets es ++ names es)) rest, length-append (offsets es) (names es))

  counted : length es < 4294967296 → count_of bytes ≡ length es
  unfolding count_of index_bytes
  counted many = word_read bytes ((offsets es ++ names es) ++ rest) 0 (length es) many (append_assoc (word (length es)) (offsets es ++ names es) rest)

  pub count-read : length es < 4294967296 → count_of bytes ≡ length es
  unfolding count_of index_bytes
  count-read many = word_read bytes ((offsets es ++ names es) ++ rest) 0 (length es) many (append_assoc (word (length es)) (offsets es ++ names es) rest)

  -- as an index whose first entry is entry b of all they are refused for their number, and for nothing else
  pub index-read : length es < 4294967296 → AllFit es → (b : ℕ) → judge_index bytes b ≡ cond (ltb 65535 (b + length es)) (refused 1 65535) none
  unfolding judge_index
  index-read many fit b =
      let z : 0 + length es ≡ length es = omega arith in
      let l : 4 + 4 * length es ≤ length bytes = long in
      let c : cut_of bytes (names_at (length es)) (length es) 0 ≡ length es = none-cut bytes rest (length es) es 0 (names_at (length es)) fit after-offsets ∙ z in
      rw (le-ltb (length bytes) 4 (omega arith), counted many, le-ltb (offsets_in (length bytes)) (length es) (omega arith), c, le-ltb (length es) (length es) (omega arith))

  pub some-bytes : length bytes ≡ 0 → ⊥
  some-bytes z = let l : 4 + 4 * length es ≤ length bytes = long in omega arith

-- the entry e behind those of a
module _ (a b : List Entry) (e : Entry) (rest : List ℕ) (fit : AllFit (a ++ e ∷ b)) where
  abbrev all : List Entry
  all = a ++ e ∷ b

  offset-here : offsets (e ∷ b) ++ (names all ++ rest) ≡ word e.offset ++ (offsets b ++ (names all ++ rest))
  unfolding offsets
  offset-here = append_assoc (word e.offset) (offsets b) (names all ++ rest)

  pub offset_read : offset_of (bytes_of all rest) (length a) ≡ e.offset
  unfolding offset_of
  offset_read =
      word_read (bytes_of all rest) (offsets b ++ (names all ++ rest)) (4 + 4 * length a) e.offset (fits a fit)
      (sym (drop-drop (4 * length a) 4 (bytes_of all rest)) ∙ ap (drop (4 * length a)) there
      ∙ drop_at (offsets a) (word e.offset ++ (offsets b ++ (names all ++ rest))) (4 * length a) (length-offsets a))
    where
      fits : (a : List Entry) → AllFit (a ++ e ∷ b) → e.offset < 4294967296
      fits [] (o, z, f) = o
      fits (x ∷ a) (o, z, f) = fits a f

      there : drop 4 (bytes_of all rest) ≡ offsets a ++ (word e.offset ++ (offsets b ++ (names all ++ rest)))
      there =
          after-count all rest ∙ ap (λ (l : List ℕ). l ++ (names all ++ rest)) (offsets-append a (e ∷ b))
          ∙ append_assoc (offsets a) (offsets (e ∷ b)) (names all ++ rest) ∙ ap (◌++◌ (offsets a)) offset-here

  pub name-read : name_of (bytes_of all rest) (length all) (length a) ≡ e.name
  unfolding name_of names place_of
  name-read = name-it (bytes_of all rest) e.name (names b ++ rest) (place_of (bytes_of all rest) (length all) (length a)) (clean a fit) there
    where
      clean : (a : List Entry) → AllFit (a ++ e ∷ b) → NoZero e.name
      clean [] (o, z, f) = z
      clean (x ∷ a) (o, z, f) = clean a f

      there : drop (place_of (bytes_of all rest) (length all) (length a)) (bytes_of all rest) ≡ e.name ++ 0 ∷ (names b ++ rest)
      there =
          let z : 0 + length a ≡ length a = omega arith in
          ap (λ (i : ℕ). drop (place_of (bytes_of all rest) (length all) i) (bytes_of all rest)) (sym z)
          ∙ place-names (bytes_of all rest) rest (length all) a (e ∷ b) 0 (all-fit-left a (e ∷ b) fit) (after-offsets all rest)
          ∙ append_assoc e.name (0 ∷ names b) rest
