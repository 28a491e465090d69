-- What is read of an archive that was written is what was written: each member where it begins, its bytes, its name, and where the next one begins.
-- Assumes nothing.
use Rattle.std.specs.Prelude.{ℕ, ◌+◌, ◌-◌, ◌%◌, ◌^◌, ◌<◌, ◌≤◌, ◌≡◌, refl, true, false, cond, List, [], ◌∷◌, ◌++◌, eqb, leb, ltb, length, take, drop, replicate, Option, Some}
use Rattle.std.proofs.Common.{arith, sym, ap, ◌∙◌, append_assoc, drop-drop}
use Rattle.std.proofs.Math.Seq.{drop-append_seam, take-append_seam}
use Rattle.std.proofs.lemmas.List.{length-append, length-drop}
use Rattle.std.proofs.lemmas.Bool.{eqb-false}
use borrow.Author.Tests.{eqb-true, le-leb}
use Rattle.cells.specs.Proof.Split.{by-test}
use Rattle.gabi.specs.File.{bytes_at}
use Rattle.byte_slices.specs.Bytes.{same}
use Rattle.archive_file.specs.Members.{magic, name_field, size_field, has_end, sized, member_as, member_of, after_of, next_of, short_name, long_name, long_place, name_of}
use Rattle.archive_file.specs.Writer.{Written, padded, digits, fill, member_then, members, archive_bytes, Fits, AllFit, Without, short_text, long_text, long_line}
use Rattle.archive_file.proofs.Digits.{digits-short}
use Rattle.archive_file.proofs.Texts.{padded-long, number-read, short-read, short-place, long-read, long-place}

-- ---- parts, one behind the other

module _ (file : List ℕ) (i n : ℕ) (x y : List ℕ) (d : drop i file ≡ x ++ y) (l : length x ≡ n) where
  pub here : bytes_at file i n ≡ x
  here = rw (d, sym l) (take-append_seam x y)

  pub behind : drop (i + n) file ≡ y
  behind = sym (drop-drop n i file) ∙ rw (d, sym l) (drop-append_seam x y)

move : (file y : List ℕ) (i j : ℕ) → i ≡ j → drop i file ≡ y → drop j file ≡ y
move file y i j e d = rw (sym e) d

-- ---- a member behind anything, before anything

module _ (a rest : List ℕ) (m : Written) (f : Fits m) where
  abbrev file : List ℕ
  file = a ++ member_then m rest

  abbrev at : ℕ
  at = length a

  abbrev n : ℕ
  n = length m.bytes

  abbrev tail : List ℕ
  tail = m.bytes ++ (fill n ++ rest)

  abbrev name : List ℕ
  name = padded 16 m.name

  abbrev size : List ℕ
  size = padded 10 (digits n)

  size-long : length size ≡ 10
  size-long = padded-long 10 (digits n) (digits-short 10 n (omega arith) f.bytes)

  at-name : drop at file ≡ name ++ (m.middle ++ (size ++ ((96 ∷ 10 ∷ []) ++ tail)))
  at-name = drop-append_seam a (member_then m rest)

  at-middle : drop (at + 16) file ≡ m.middle ++ (size ++ ((96 ∷ 10 ∷ []) ++ tail))
  at-middle = behind file at 16 name (m.middle ++ (size ++ ((96 ∷ 10 ∷ []) ++ tail))) at-name (padded-long 16 m.name f.name)

  at-size : drop (at + 48) file ≡ size ++ ((96 ∷ 10 ∷ []) ++ tail)
  at-size =
      move file (size ++ ((96 ∷ 10 ∷ []) ++ tail)) (at + 16 + 32) (at + 48) (omega arith)
      (behind file (at + 16) 32 m.middle (size ++ ((96 ∷ 10 ∷ []) ++ tail)) at-middle f.middle)

  at-end : drop (at + 58) file ≡ (96 ∷ 10 ∷ []) ++ tail
  at-end = move file ((96 ∷ 10 ∷ []) ++ tail) (at + 48 + 10) (at + 58) (omega arith) (behind file (at + 48) 10 size ((96 ∷ 10 ∷ []) ++ tail) at-size size-long)

  at-bytes : drop (at + 60) file ≡ tail
  at-bytes = move file tail (at + 58 + 2) (at + 60) (omega arith) (behind file (at + 58) 2 (96 ∷ 10 ∷ []) tail at-end refl)

  pub field-back : name_field file at ≡ name
  unfolding name_field
  field-back = here file at 16 name (m.middle ++ (size ++ ((96 ∷ 10 ∷ []) ++ tail))) at-name (padded-long 16 m.name f.name)

  pub bytes-back : bytes_at file (at + 60) n ≡ m.bytes
  bytes-back = here file (at + 60) n m.bytes (fill n ++ rest) at-bytes refl

  ends : has_end file at ≡ true
  unfolding has_end same
  ends = rw (here file (at + 58) 2 (96 ∷ 10 ∷ []) tail at-end refl) refl

  sizes : size_field file at ≡ Some n
  unfolding size_field
  sizes = rw (here file (at + 48) 10 size ((96 ∷ 10 ∷ []) ++ tail) at-size size-long) (number-read 10 n (omega (arith, f.bytes)))

  room : (at + 60 ≤ length file) × (n ≤ length file - (at + 60))
  room =
      let e : length file - (at + 58) ≡ 2 + length tail = omega (arith, length-drop (at + 58) file, ap length at-end) in
      let b : length file - (at + 60) ≡ length tail = sym (length-drop (at + 60) file) ∙ ap length at-bytes in
      let t : length tail ≡ n + length (fill n ++ rest) = length-append m.bytes (fill n ++ rest) in
      (omega (arith, e), omega (arith, b, t))

  pub member-back : member_of file at ≡ Some (member_as (at + 60) n)
  unfolding member_of sized
  member-back = rw (ends, sizes, le-leb (at + 60) (length file) room.0, le-leb n (length file - (at + 60)) room.1) refl

  filled : at % 2 ≡ 0 → (at + 60 + n) % 2 ≡ length (fill n)
  filled e =
      by-test (eqb (n % 2) 0) (λ t. rw t (omega (arith, e, eqb-true _ _ t)))
      (λ t. rw t (omega (arith, e, eqb-false _ _ t)))

  pub next-back : at % 2 ≡ 0 → next_of file at ≡ Some (at + 60 + n + length (fill n))
  unfolding next_of after_of
  next-back e = rw (member-back, filled e) refl

-- ---- a member among others

then-append : (m : Written) (x y : List ℕ) → member_then m (x ++ y) ≡ member_then m x ++ y
then-append m x y =
    sym
    (append_assoc (padded 16 m.name) (m.middle ++ (padded 10 (digits (length m.bytes)) ++ ((96 ∷ 10 ∷ []) ++ (m.bytes ++ (fill (length m.bytes) ++ x))))) y
    ∙ rw (
      append_assoc m.middle (padded 10 (digits (length m.bytes)) ++ ((96 ∷ 10 ∷ []) ++ (m.bytes ++ (fill (length m.bytes) ++ x)))) y,
      append_assoc (padded 10 (digits (length m.bytes))) ((96 ∷ 10 ∷ []) ++ (m.bytes ++ (fill (length m.bytes) ++ x))) y,
      append_assoc m.bytes (fill (length m.bytes) ++ x) y,
      append_assoc (fill (length m.bytes)) x y,
    )
    refl)

then-long : (m : Written) (rest : List ℕ) → Fits m → length (member_then m rest) ≡ 60 + length m.bytes + length (fill (length m.bytes)) + length rest
then-long m rest f =
    let n : ℕ = length m.bytes in
    let s : List ℕ = padded 10 (digits n) in
    omega (
      arith,
      length-append (padded 16 m.name) (m.middle ++ (s ++ ((96 ∷ 10 ∷ []) ++ (m.bytes ++ (fill n ++ rest))))),
      length-append m.middle (s ++ ((96 ∷ 10 ∷ []) ++ (m.bytes ++ (fill n ++ rest)))),
      length-append s ((96 ∷ 10 ∷ []) ++ (m.bytes ++ (fill n ++ rest))),
      length-append m.bytes (fill n ++ rest),
      length-append (fill n) rest,
      padded-long 16 m.name f.name,
      padded-long 10 (digits n) (digits-short 10 n (omega arith) f.bytes),
      f.middle,
    )

members-append : (xs ys : List Written) → members (xs ++ ys) ≡ members xs ++ members ys
unfolding members
members-append [] ys = refl
members-append (x ∷ xs) ys = ap (member_then x) (members-append xs ys) ∙ then-append x (members xs) (members ys)

fill-even : (n : ℕ) → (n + length (fill n)) % 2 ≡ 0
fill-even n = by-test (eqb (n % 2) 0) (λ t. rw t (omega (arith, eqb-true _ _ t))) (λ t. rw t (omega (arith, eqb-false _ _ t)))

members-even : (xs : List Written) → AllFit xs → length (members xs) % 2 ≡ 0
unfolding members
members-even [] f = refl
members-even (x ∷ xs) f = omega (arith, then-long x (members xs) f.0, members-even xs f.1, fill-even (length x.bytes))

-- what is read at a place of a file
pub record Reads (file : List ℕ) (at : ℕ) (m : Written) (end : ℕ) : Type 0 where
  pub member : member_of file at ≡ Some (member_as (at + 60) (length m.bytes))
  pub bytes : bytes_at file (at + 60) (length m.bytes) ≡ m.bytes
  pub next : next_of file at ≡ Some end
  -- a name in its header, and one of the long names
  pub short : (names x : List ℕ) → m.name ≡ short_text x → Without 47 x → length x ≤ 15 → name_of file names at ≡ x
  pub long : (before x after : List ℕ) → m.name ≡ long_text (length before) → Without 10 x → length before < 10 ^ 15
      → name_of file (before ++ (long_line x ++ after)) at ≡ x

module _ (before after : List Written) (m : Written) (f : AllFit before) (g : Fits m) where
  abbrev start : List ℕ
  start = archive_bytes before

  whole : archive_bytes (before ++ m ∷ after) ≡ start ++ member_then m (members after)
  unfolding members
  whole = ap (λ (l : List ℕ). magic ++ l) (members-append before (m ∷ after)) ∙ sym (append_assoc magic (members before) (member_then m (members after)))

  even : length start % 2 ≡ 0
  even = omega (arith, members-even before f, length-append magic (members before))

  behind-it : length (archive_bytes (before ++ m ∷ [])) ≡ length start + 60 + length m.bytes + length (fill (length m.bytes))
  unfolding members
  behind-it =
      omega (
        arith,
        ap length (members-append before (m ∷ [])),
        length-append (members before) (member_then m []),
        then-long m [] g,
        length-append magic (members (before ++ m ∷ [])),
        length-append magic (members before),
      )

  pub read-back : Reads (archive_bytes (before ++ m ∷ after)) (length start) m (length (archive_bytes (before ++ m ∷ [])))
  unfolding name_of
  read-back =
      rw (whole, behind-it)
      (record {
        member = member-back start (members after) m g;
        bytes = bytes-back start (members after) m g;
        next = next-back start (members after) m g even;
        short = λ names x e w h. rw (field-back start (members after) m g, e, short-place x w) (short-read x w h);
        long = λ xs x ys e w h. rw (field-back start (members after) m g, e, long-place (length xs) h) (long-read xs x ys w);
      })
