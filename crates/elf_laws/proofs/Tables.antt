-- A writer of whole tables: symbols, relocations and groups, written entry after entry, are read back as their rows.
-- Assumes nothing.
use Rattle.std.specs.Prelude.{ℕ, zero, suc, ◌+◌, ◌*◌, ◌/◌, ◌%◌, ◌<◌, ◌≡◌, refl, List, [], ◌∷◌, ◌++◌, length, get_or, take, drop}
use Rattle.std.proofs.Common.{arith, zero-mul, suc-mul, add_comm, sym, ap, ap₂, ◌∙◌, take_at}
use Rattle.std.proofs.Math.Seq.{drop-append-add}
use Rattle.gabi.specs.File.{word_at, bytes_at, r_sym, member_at, xword_at}
use Rattle.elf_file.specs.Read.{symbol_row, element_at}
use Rattle.elf_laws.specs.Object.{symbols_from, elements_from}
use Rattle.elf_laws.specs.Back.{le4, Sized, joined}
use Rattle.elf_laws.proofs.Back.{symbol-back, word_back, xword-back}
use Rattle.elf_laws.specs.Tables.{Symbol, symbol_entry, symbol_entries, symbol_rows, Relocation, info_of, rel_entry, rela_entry, rel_entries, rela_entries, symbols_of, Member, member_bytes, group_bytes, member_numbers}

-- entry i + 1 behind an entry of that size is entry i of the rest
entry-behind : (n : ℕ) (x : Sized n) (l : List ℕ) (i : ℕ) → bytes_at (x.bytes ++ l) ((i + 1) * n) n ≡ bytes_at l (i * n) n
entry-behind n x l i =
    let e : (i + 1) * n ≡ length x.bytes + i * n = suc-times i n ∙ ap (λ (k : ℕ). k + i * n) (sym x.is) in
    ap (λ (k : ℕ). take n (drop k (x.bytes ++ l))) e ∙ ap (take n) (drop-append-add x.bytes l (i * n))
  where
    suc-times : (i n : ℕ) → (i + 1) * n ≡ n + i * n
    suc-times i n = let p : i + 1 ≡ suc i = omega arith in ap (λ (k : ℕ). k * n) p ∙ suc-mul i n ∙ add_comm (i * n) n

entry_first : (n : ℕ) (x : Sized n) (l : List ℕ) → bytes_at (x.bytes ++ l) (0 * n) n ≡ x.bytes
entry_first n x l = ap (λ (k : ℕ). take n (drop k (x.bytes ++ l))) (zero-mul n) ∙ take_at x.bytes l n x.is

-- ---- symbols

symbols-behind : (x : Sized 24) (l : List ℕ) (k j : ℕ) → symbols_from (x.bytes ++ l) (j + 1) k ≡ symbols_from l j k
unfolding symbols_from
symbols-behind x l zero j = refl
symbols-behind x l (suc k) j = ap₂ ◌++◌ (ap symbol_row (entry-behind 24 x l j)) (symbols-behind x l k (j + 1))

pub symbols-back : (xs : List Symbol) → symbols_from (joined (symbol_entries xs)) 0 (length xs) ≡ symbol_rows xs
unfolding symbols_from joined
symbols-back [] = refl
symbols-back (x ∷ xs) =
    ap₂ ◌++◌
    (ap symbol_row (entry_first 24 (symbol_entry x) (joined (symbol_entries xs)))
    ∙ symbol-back x.name x.bind x.kind x.visibility x.section x.value x.size x.name-fits x.bind-fits x.kind_fits x.visibility-fits x.section-fits x.value-fits x.size-fits)
    (symbols-behind (symbol_entry x) (joined (symbol_entries xs)) (length xs) 0 ∙ symbols-back xs)

-- ---- relocations: of each its symbol; the place, the type and the addend are whatever the writer gives

info-symbol : (x : Relocation) → info_of x / 0x100000000 ≡ x.symbol
info-symbol x = omega (arith, x.kind_fits)

info-fits : (x : Relocation) → info_of x < 0x10000000000000000
info-fits x = omega (arith, x.kind_fits, x.symbol-fits)

rel-symbol : (x : Relocation) → r_sym (rel_entry x).bytes ≡ x.symbol
unfolding r_sym xword_at word_at
rel-symbol x = rw (xword-back (info_of x) (info-fits x)) (info-symbol x)

rela-symbol : (x : Relocation) → r_sym (rela_entry x).bytes ≡ x.symbol
unfolding r_sym xword_at word_at
rela-symbol x = rw (xword-back (info_of x) (info-fits x)) (info-symbol x)

rels-behind : (x : Sized 16) (l : List ℕ) (k j : ℕ) → elements_from 9 (x.bytes ++ l) (j + 1) k ≡ elements_from 9 l j k
unfolding elements_from element_at
rels-behind x l zero j = refl
rels-behind x l (suc k) j = ap₂ ◌∷◌ (ap r_sym (entry-behind 16 x l j)) (rels-behind x l k (j + 1))

pub rels-back : (xs : List Relocation) → elements_from 9 (joined (rel_entries xs)) 0 (length xs) ≡ symbols_of xs
unfolding elements_from element_at joined
rels-back [] = refl
rels-back (x ∷ xs) =
    ap₂ ◌∷◌ (ap r_sym (entry_first 16 (rel_entry x) (joined (rel_entries xs))) ∙ rel-symbol x)
    (rels-behind (rel_entry x) (joined (rel_entries xs)) (length xs) 0 ∙ rels-back xs)

relas-behind : (x : Sized 24) (l : List ℕ) (k j : ℕ) → elements_from 4 (x.bytes ++ l) (j + 1) k ≡ elements_from 4 l j k
unfolding elements_from element_at
relas-behind x l zero j = refl
relas-behind x l (suc k) j = ap₂ ◌∷◌ (ap r_sym (entry-behind 24 x l j)) (relas-behind x l k (j + 1))

pub relas-back : (xs : List Relocation) → elements_from 4 (joined (rela_entries xs)) 0 (length xs) ≡ symbols_of xs
unfolding elements_from element_at joined
relas-back [] = refl
relas-back (x ∷ xs) =
    ap₂ ◌∷◌ (ap r_sym (entry_first 24 (rela_entry x) (joined (rela_entries xs))) ∙ rela-symbol x)
    (relas-behind (rela_entry x) (joined (rela_entries xs)) (length xs) 0 ∙ relas-back xs)

-- ---- groups: the flags, then the members

number : (v : ℕ) (l : List ℕ) → v < 0x100000000 → word_at (le4 v l) (0 * 4) ≡ v
unfolding word_at
number v l h = word_back v h

byte-behind : (a b c d : ℕ) (l : List ℕ) (m n : ℕ) → m ≡ suc (suc (suc (suc n))) → get_or (a ∷ b ∷ c ∷ d ∷ l) m 0 ≡ get_or l n 0
byte-behind a b c d l m n e = ap (λ (k : ℕ). get_or (a ∷ b ∷ c ∷ d ∷ l) k 0) e

-- a word behind four bytes
word-behind : (a b c d : ℕ) (l : List ℕ) (i : ℕ) → word_at (a ∷ b ∷ c ∷ d ∷ l) (i * 4 + 4) ≡ word_at l (i * 4)
unfolding word_at
word-behind a b c d l i =
    rw (
      byte-behind a b c d l (i * 4 + 4) (i * 4) (omega arith),
      byte-behind a b c d l (i * 4 + 4 + 1) (i * 4 + 1) (omega arith),
      byte-behind a b c d l (i * 4 + 4 + 2) (i * 4 + 2) (omega arith),
      byte-behind a b c d l (i * 4 + 4 + 3) (i * 4 + 3) (omega arith),
    )

members-behind : (a b c d : ℕ) (l : List ℕ) (k j : ℕ) → elements_from 17 (a ∷ b ∷ c ∷ d ∷ l) (j + 1) k ≡ elements_from 17 l j k
unfolding elements_from element_at member_at
members-behind a b c d l zero j = refl
members-behind a b c d l (suc k) j =
    let e : (j + 1) * 4 ≡ j * 4 + 4 = omega arith in
    ap₂ ◌∷◌ (word-behind a b c d l (j + 1) ∙ ap (word_at l) e) (members-behind a b c d l k (j + 1))

pub members-back : (flags : ℕ) (xs : List Member) → elements_from 17 (group_bytes flags xs) 0 (length xs) ≡ member_numbers xs
unfolding elements_from element_at member_at
members-back flags [] = refl
members-back flags (x ∷ xs) =
    ap₂ ◌∷◌ (first x.number (member_bytes xs) x.fits)
    (members-behind (flags % 0x100) (flags / 0x100 % 0x100) (flags / 0x100 / 0x100 % 0x100) (flags / 0x100 / 0x100 / 0x100 % 0x100) (le4 x.number (member_bytes xs)) (length xs) 0
    ∙ members-back x.number xs)
  where
    first : (v : ℕ) (l : List ℕ) → v < 0x100000000 → word_at (le4 flags (le4 v l)) (0 * 4 + 4) ≡ v
    first v l h = word-behind (flags % 0x100) (flags / 0x100 % 0x100) (flags / 0x100 / 0x100 % 0x100) (flags / 0x100 / 0x100 / 0x100 % 0x100) (le4 v l) 0 ∙ number v l h
