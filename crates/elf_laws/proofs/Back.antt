-- Laws of the definitions of Back.antt.
-- Assumes nothing.
use Rattle.std.specs.Prelude.{ℕ, zero, suc, ◌+◌, ◌*◌, ◌/◌, ◌%◌, ◌<◌, ◌≡◌, List, [], ◌∷◌, ◌++◌, length, get_or, take, drop}
use Rattle.std.proofs.Common.{arith, suc-mul, zero-mul, add_comm, not-suc-le-zero, le_of_suc-le-suc, sym, ap, ◌∙◌, length-append, take_at, drop_at, drop-drop}
use Rattle.byte_slices.specs.Bytes.{word, part}
use Rattle.gabi.specs.File.{word_at}
use Rattle.elf_file.specs.declared.Header.{Header}
use Rattle.gabi.specs.File.{half_at, xword_at}
use Rattle.elf_file.specs.File.{header_of}
use Rattle.elf_file.specs.Read.{symbol_row}
use Rattle.elf_laws.specs.Back.{header_bytes, Fields, symbol_bytes, Sized, joined}

pub half_back : (v : ℕ) → v < 0x10000 → v % 0x100 + v / 0x100 % 0x100 * 0x100 ≡ v
half_back v h = omega arith

pub word_back : (v : ℕ) → v < 0x100000000 → word (v % 0x100) (v / 0x100 % 0x100) (v / 0x100 / 0x100 % 0x100) (v / 0x100 / 0x100 / 0x100 % 0x100) ≡ v
word_back v h = omega arith

pub xword-back : (v : ℕ) → v < 0x10000000000000000
    → word (v % 0x100000000 % 0x100) (v % 0x100000000 / 0x100 % 0x100) (v % 0x100000000 / 0x100 / 0x100 % 0x100) (v % 0x100000000 / 0x100 / 0x100 / 0x100 % 0x100)
    + word (v / 0x100000000 % 0x100) (v / 0x100000000 / 0x100 % 0x100) (v / 0x100000000 / 0x100 / 0x100 % 0x100) (v / 0x100000000 / 0x100 / 0x100 / 0x100 % 0x100) * 0x100000000
    ≡ v
xword-back v h =
    let lo : v % 0x100000000 < 0x100000000 = omega arith in
    let hi : v / 0x100000000 < 0x100000000 = omega arith in
    let a = word_back (v % 0x100000000) lo in
    let b = word_back (v / 0x100000000) hi in
    rw (a, b) (omega arith)

pub header-back : (h : Header) → Fields h → header_of (header_bytes h) ≡ h
unfolding header_of word_at xword_at
header-back h f =
    rw (
      word_back h.name f.name,
      word_back h.kind f.kind,
      xword-back h.flags f.flags,
      xword-back h.offset f.offset,
      xword-back h.size f.size,
      word_back h.link f.link,
      word_back h.info f.info,
    )

pub symbol-back : (name bind type visibility section value size : ℕ) → name < 0x100000000 → bind < 16 → type < 16 → visibility < 4 → section < 0x10000
    → value < 0x10000000000000000 → size < 0x10000000000000000
    → symbol_row (symbol_bytes name bind type visibility section value size) ≡ name ∷ bind ∷ type ∷ visibility ∷ section ∷ value ∷ size ∷ 0 ∷ []
unfolding symbol_row word_at half_at xword_at
symbol-back name bind type visibility section value size a b c d e f g =
    let p : (bind * 16 + type) / 16 ≡ bind = omega arith in
    let q : (bind * 16 + type) % 16 ≡ type = omega arith in
    let r : visibility % 4 ≡ visibility = omega arith in
    rw (word_back name a, p, q, r, half_back section e, xword-back value f, xword-back size g)

pub entry-back : {s : ℕ} (xs : List (Sized s)) (x : Sized s) (i : ℕ) → i < length xs → part (joined xs) (i * s) s ≡ (get_or xs i x).bytes
unfolding joined
entry-back [] x i h = absurd (not-suc-le-zero h)
entry-back {s} (y ∷ xs) x zero h =
    let z : 0 * s ≡ 0 = omega arith in
    ap (λ (p : ℕ). take s (drop p (y.bytes ++ joined xs))) z ∙ take_at y.bytes (joined xs) s y.is
entry-back {s} (y ∷ xs) x (suc i) h =
    ap (λ (p : ℕ). take s (drop p (y.bytes ++ joined xs))) (suc-mul i s ∙ add_comm (i * s) s)
    ∙ ap (take s) (sym (drop-drop (i * s) s (y.bytes ++ joined xs)))
    ∙ ap (λ (l : List ℕ). take s (drop (i * s) l)) (drop_at y.bytes (joined xs) s y.is)
    ∙ entry-back xs x i (le_of_suc-le-suc h)

pub length-joined : {s : ℕ} (xs : List (Sized s)) → length (joined xs) ≡ length xs * s
unfolding joined
length-joined {s} [] = sym (zero-mul s)
length-joined {s} (x ∷ xs) =
    length-append x.bytes (joined xs)
    ∙ ap (λ (k : ℕ). k + length (joined xs)) x.is
    ∙ ap (◌+◌ s) (length-joined xs)
    ∙ add_comm s (length xs * s)
    ∙ sym (suc-mul (length xs) s)
