-- What the reader writes cell by cell is its rows, one after the other.
-- Assumes nothing.
use Rattle.std.specs.Prelude.{ℕ, zero, suc, ◌+◌, ◌*◌, ◌≡◌, refl, List, [], ◌∷◌, ◌++◌, length, set}
use Rattle.std.proofs.Common.{arith, add-zero, add-suc, suc-add, sym, ap, ◌∙◌, length-append}
use Rattle.std.proofs.lemmas.List.Edits.{sets}
use Rattle.cells.specs.Rows.{put_row}
use Rattle.elf_file.specs.declared.Header.{Header}
use Rattle.gabi.specs.File.{symbol_at}
use Rattle.elf_file.specs.File.{header_at}
use Rattle.elf_file.specs.Rows.{entries_in, contents_in, entry_count, content_count, header_row_of}
use Rattle.elf_file.specs.Read.{headers_into, symbol_row, bytes_of, symbols_into, all_symbols_into, element_at, elements_into, all_elements_into, written_of}
use Rattle.elf_laws.specs.Object.{headers_from, symbols_from, all_symbols_from, elements_from, all_elements_from}

sets-append : (xs ys l : List ℕ) (a : ℕ) → sets l a (xs ++ ys) ≡ sets (sets l a xs) (a + length xs) ys
sets-append [] ys l a = ap (λ (p : ℕ). sets l p ys) (sym (add-zero a))
sets-append (x ∷ xs) ys l a =
    sets-append xs ys (set l a x) (suc a) ∙ ap (λ (p : ℕ). sets (sets l a (x ∷ xs)) p ys) (suc-add a (length xs) ∙ sym (add-suc a (length xs)))

-- xs, then ys from the place right behind
two : (xs ys l : List ℕ) (a p n : ℕ) → length xs ≡ n → p ≡ a + n → sets (sets l a xs) p ys ≡ sets l a (xs ++ ys)
two xs ys l a p n e q = ap (λ (k : ℕ). sets (sets l a xs) k ys) (q ∙ ap (◌+◌ a) (sym e)) ∙ sym (sets-append xs ys l a)

-- ---- lengths

pub header-eight : (file names : List ℕ) (h : Header) (e c : ℕ) → length (header_row_of file names h e c) ≡ 8
unfolding header_row_of
header-eight file names h e c = refl

symbol-eight : (x : List ℕ) → length (symbol_row x) ≡ 8
unfolding symbol_row
symbol-eight x = refl

pub length-headers : (file names table : List ℕ) (i e c k : ℕ) → length (headers_from file names table i e c k) ≡ k * 8
unfolding headers_from
length-headers file names table i e c zero = omega arith
length-headers file names table i e c (suc k) =
    let h = header_at table i in
    let r = header_row_of file names h e c in
    let s = headers_from file names table (i + 1) (e + entries_in h) (c + contents_in h) k in
    length-append r s ∙ omega (arith, header-eight file names h e c, length-headers file names table (i + 1) (e + entries_in h) (c + contents_in h) k)

length_symbols : (bytes : List ℕ) (j k : ℕ) → length (symbols_from bytes j k) ≡ k * 8
unfolding symbols_from
length_symbols bytes j zero = omega arith
length_symbols bytes j (suc k) =
    length-append (symbol_row (symbol_at bytes j)) (symbols_from bytes (j + 1) k)
    ∙ omega (arith, symbol-eight (symbol_at bytes j), length_symbols bytes (j + 1) k)

pub length-all-symbols : (file table : List ℕ) (i k : ℕ) → length (all_symbols_from file table i k) ≡ entry_count table i k * 8
unfolding all_symbols_from entry_count
length-all-symbols file table i zero = omega arith
length-all-symbols file table i (suc k) =
    let h = header_at table i in
    length-append (symbols_from (bytes_of file h) 0 (entries_in h)) (all_symbols_from file table (i + 1) k)
    ∙ omega (arith, length_symbols (bytes_of file h) 0 (entries_in h), length-all-symbols file table (i + 1) k)

length-elements : (type : ℕ) (bytes : List ℕ) (j k : ℕ) → length (elements_from type bytes j k) ≡ k
unfolding elements_from
length-elements type bytes j zero = refl
length-elements type bytes j (suc k) = ap suc (length-elements type bytes (j + 1) k)

pub length-all-elements : (file table : List ℕ) (i k : ℕ) → length (all_elements_from file table i k) ≡ content_count table i k
unfolding all_elements_from content_count
length-all-elements file table i zero = refl
length-all-elements file table i (suc k) =
    let h = header_at table i in
    length-append (elements_from h.kind (bytes_of file h) 0 (contents_in h)) (all_elements_from file table (i + 1) k)
    ∙ omega (arith, length-elements h.kind (bytes_of file h) 0 (contents_in h), length-all-elements file table (i + 1) k)

-- ---- what is written

headers-written : (file names table l : List ℕ) (i e c k : ℕ) → headers_into file names table l i e c k ≡ sets l (i * 8) (headers_from file names table i e c k)
unfolding headers_into headers_from put_row
headers-written file names table l i e c zero = refl
headers-written file names table l i e c (suc k) =
    let h = header_at table i in
    let r = header_row_of file names h e c in
    headers-written file names table (put_row l i r) (i + 1) (e + entries_in h) (c + contents_in h) k
    ∙ two r (headers_from file names table (i + 1) (e + entries_in h) (c + contents_in h) k) l (i * 8) ((i + 1) * 8) 8 (header-eight file names h e c) (omega arith)

symbols-written : (bytes l : List ℕ) (at j k : ℕ) → symbols_into bytes l at j k ≡ sets l ((at + j) * 8) (symbols_from bytes j k)
unfolding symbols_into symbols_from put_row
symbols-written bytes l at j zero = refl
symbols-written bytes l at j (suc k) =
    let r = symbol_row (symbol_at bytes j) in
    symbols-written bytes (put_row l (at + j) r) at (j + 1) k
    ∙ two r (symbols_from bytes (j + 1) k) l ((at + j) * 8) ((at + (j + 1)) * 8) 8 (symbol-eight (symbol_at bytes j)) (omega arith)

all-symbols-written : (file table l : List ℕ) (at i k : ℕ) → all_symbols_into file table l at i k ≡ sets l (at * 8) (all_symbols_from file table i k)
unfolding all_symbols_into all_symbols_from
all-symbols-written file table l at i zero = refl
all-symbols-written file table l at i (suc k) =
    let h = header_at table i in
    let b = bytes_of file h in
    let x = entries_in h in
    let xs = symbols_from b 0 x in
    let ys = all_symbols_from file table (i + 1) k in
    let e : (at + 0) * 8 ≡ at * 8 = omega arith in
    all-symbols-written file table (symbols_into b l at 0 x) (at + x) (i + 1) k
    ∙ ap (λ (m : List ℕ). sets m ((at + x) * 8) ys) (symbols-written b l at 0 x ∙ ap (λ (p : ℕ). sets l p xs) e)
    ∙ two xs ys l (at * 8) ((at + x) * 8) (x * 8) (length_symbols b 0 x) (omega arith)

elements-written : (type : ℕ) (bytes l : List ℕ) (at j k : ℕ) → elements_into type bytes l at j k ≡ sets l (at + j) (elements_from type bytes j k)
unfolding elements_into elements_from
elements-written type bytes l at j zero = refl
elements-written type bytes l at j (suc k) =
    let x = element_at type bytes j in
    let e : at + (j + 1) ≡ suc (at + j) = omega arith in
    elements-written type bytes (set l (at + j) x) at (j + 1) k ∙ ap (λ (p : ℕ). sets (set l (at + j) x) p (elements_from type bytes (j + 1) k)) e

all-elements-written : (file table l : List ℕ) (at i k : ℕ) → all_elements_into file table l at i k ≡ sets l at (all_elements_from file table i k)
unfolding all_elements_into all_elements_from
all-elements-written file table l at i zero = refl
all-elements-written file table l at i (suc k) =
    let h = header_at table i in
    let b = bytes_of file h in
    let x = contents_in h in
    let xs = elements_from h.kind b 0 x in
    let ys = all_elements_from file table (i + 1) k in
    all-elements-written file table (elements_into h.kind b l at 0 x) (at + x) (i + 1) k
    ∙ ap (λ (m : List ℕ). sets m (at + x) ys) (elements-written h.kind b l at 0 x ∙ ap (λ (p : ℕ). sets l p xs) (add-zero at))
    ∙ two xs ys l at (at + x) x (length-elements h.kind b 0 x) refl

pub all-written : (file names table l : List ℕ) (n e : ℕ) → e ≡ entry_count table 0 n
    → written_of file names table l n e ≡ sets l 0 ((headers_from file names table 0 0 0 n ++ all_symbols_from file table 0 n) ++ all_elements_from file table 0 n)
unfolding written_of
all-written file names table l n e q =
    let hs = headers_from file names table 0 0 0 n in
    let ss = all_symbols_from file table 0 n in
    let xs = all_elements_from file table 0 n in
    let a : headers_into file names table l 0 0 0 n ≡ sets l 0 hs = headers-written file names table l 0 0 0 n in
    let b : all_symbols_into file table (sets l 0 hs) n 0 n ≡ sets l 0 (hs ++ ss) =
    all-symbols-written file table (sets l 0 hs) n 0 n ∙ two hs ss l 0 (n * 8) (n * 8) (length-headers file names table 0 0 0 n) (omega arith) in
    let c : all_elements_into file table (sets l 0 (hs ++ ss)) ((n + e) * 8) 0 n ≡ sets l 0 ((hs ++ ss) ++ xs) =
    all-elements-written file table (sets l 0 (hs ++ ss)) ((n + e) * 8) 0 n
    ∙ two (hs ++ ss) xs l 0 ((n + e) * 8) ((n + e) * 8)
    (length-append hs ss ∙ omega (arith, q, length-headers file names table 0 0 0 n, length-all-symbols file table 0 n))
    (omega arith) in
    ap (λ (m : List ℕ). all_elements_into file table (all_symbols_into file table m n 0 n) ((n + e) * 8) 0 n) a
    ∙ ap (λ (m : List ℕ). all_elements_into file table m ((n + e) * 8) 0 n) b
    ∙ c
