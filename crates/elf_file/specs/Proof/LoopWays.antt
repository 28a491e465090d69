-- The ways through the loops that write rows, and through the room that they need.
-- Assumes nothing.
use Rattle.std.specs.Prelude.{◌≡◌, ℕ, ◌+◌, ◌*◌, ◌-◌, ◌<◌, ◌≤◌, leb, List, set, Some, None}
use native.Mathlib.Omega.{arith}
use Rattle.std.proofs.Common.{ap, sym, ◌∙◌, Fits}
use Rattle.std.proofs.Math.Nat.{sub-zero}
use Rattle.std.specs.Int.{w64}
use borrow.Author.Tests.{le-leb, lt-leb, leb-true, leb-false}
use Rattle.cells.specs.Proof.Split.{by-test}
use Rattle.cells.specs.Rows.{put_row}
use Rattle.byte_slices.specs.Bytes.{part}
use Rattle.elf_object.specs.Proof.Ways.{one_less}
use Rattle.elf_file.specs.declared.Header.{Header}
use Rattle.elf_file.specs.declared.rows.Room.{Room}
use Rattle.elf_file.specs.File.{header_at}
use Rattle.elf_file.specs.Rows.{entries_in, contents_in, entry_count, content_count, room_as, left_after, room_of, header_row_of}
use Rattle.elf_file.specs.Read.{headers_into, symbol_row, symbols_into, all_symbols_into, element_at, elements_into, all_elements_into}

-- ---- sums: what is counted from header i on

module _ (table : List ℕ) (n i : ℕ) where
  pub entries-step : i < n → entry_count table i (n - i) ≡ entries_in (header_at table i) + entry_count table (i + 1) (n - (i + 1))
  unfolding entry_count
  entries-step h = rw (one_less n i h)

  pub contents-step : i < n → content_count table i (n - i) ≡ contents_in (header_at table i) + content_count table (i + 1) (n - (i + 1))
  unfolding content_count
  contents-step h = rw (one_less n i h)

  pub entries-end : n ≤ i → entry_count table i (n - i) ≡ 0
  unfolding entry_count
  entries-end h = let z : n - i ≡ 0 = omega arith in rw z

  pub contents-end : n ≤ i → content_count table i (n - i) ≡ 0
  unfolding content_count
  contents-end h = let z : n - i ≡ 0 = omega arith in rw z

-- ---- headers

-- what the loop keeps, and with it what is written
abbrev pub Sums : List ℕ → ℕ → ℕ → ℕ → ℕ → Type 0
Sums table n i e c = (e + entry_count table i (n - i) ≡ entry_count table 0 n) × (c + content_count table i (n - i) ≡ content_count table 0 n)

pub sums-start : (table : List ℕ) (n : ℕ) → Sums table n 0 0 0
sums-start table n = let z : n - 0 ≡ n = omega arith in (rw z (omega arith), rw z (omega arith))

module _ (table : List ℕ) (n i e c x y : ℕ) (h : Header) where
  pub entries-add : Sums table n i e c → i < n → h ≡ header_at table i → x ≡ entries_in h → entry_count table 0 n + content_count table 0 n ≤ 0x1000000000000000
      → Fits w64 (e + x)
  entries-add (p, q) l g u m =
      let a : x ≡ entries_in (header_at table i) = u ∙ ap entries_in g in
      omega (arith, p, a, m, entries-step table n i l)

  pub contents-add : Sums table n i e c → i < n → h ≡ header_at table i → y ≡ contents_in h → entry_count table 0 n + content_count table 0 n ≤ 0x1000000000000000
      → Fits w64 (c + y)
  contents-add (p, q) l g u m =
      let a : y ≡ contents_in (header_at table i) = u ∙ ap contents_in g in
      omega (arith, q, a, m, contents-step table n i l)

  pub sums_on : Sums table n i e c → i < n → h ≡ header_at table i → x ≡ entries_in h → y ≡ contents_in h → Sums table n (i + 1) (e + x) (c + y)
  sums_on (p, q) l g u v =
      let a : x ≡ entries_in (header_at table i) = u ∙ ap entries_in g in
      let b : y ≡ contents_in (header_at table i) = v ∙ ap contents_in g in
      (omega (arith, p, a, entries-step table n i l), omega (arith, q, b, contents-step table n i l))

module _ (file names table w l : List ℕ) (n : ℕ) where
  pub headers-start : headers_into file names table l 0 0 0 n ≡ headers_into file names table l 0 0 0 (n - 0)
  headers-start = rw (sub-zero n)

  module _ (i e c : ℕ) where
    pub headers-on : (t : List ℕ) (h : Header) (x y : ℕ) → w ≡ headers_into file names table l i e c (n - i) → i < n → h ≡ header_at table i
        → t ≡ put_row l i (header_row_of file names h e c) → x ≡ entries_in h → y ≡ contents_in h
        → w ≡ headers_into file names table t (i + 1) (e + x) (c + y) (n - (i + 1))
    unfolding headers_into
    headers-on t h x y q k g p u v = q ∙ rw (one_less n i k) (simp (p, u, v, g))

    pub headers-end : w ≡ headers_into file names table l i e c (n - i) → n ≤ i → l ≡ w
    unfolding headers_into
    headers-end q k = let z : n - i ≡ 0 = omega arith in sym (q ∙ rw z)

-- ---- symbols

module _ (bytes w l : List ℕ) (at n : ℕ) where
  pub symbols-start : symbols_into bytes l at 0 n ≡ symbols_into bytes l at 0 (n - 0)
  symbols-start = rw (sub-zero n)

  module _ (j : ℕ) where
    pub symbols-on : (t e : List ℕ) → w ≡ symbols_into bytes l at j (n - j) → j < n → e ≡ part bytes (j * 24) 24 → t ≡ put_row l (at + j) (symbol_row e)
        → w ≡ symbols_into bytes t at (j + 1) (n - (j + 1))
    unfolding symbols_into
    symbols-on t e q k g p = q ∙ rw (one_less n j k) (simp (p, g))

    pub symbols-end : w ≡ symbols_into bytes l at j (n - j) → n ≤ j → l ≡ w
    unfolding symbols_into
    symbols-end q k = let z : n - j ≡ 0 = omega arith in sym (q ∙ rw z)

module _ (file table w l : List ℕ) (n : ℕ) where
  pub all-symbols-start : (at : ℕ) → all_symbols_into file table l at 0 n ≡ all_symbols_into file table l at 0 (n - 0)
  all-symbols-start at = rw (sub-zero n)

  pub all-elements-start : (at : ℕ) → all_elements_into file table l at 0 n ≡ all_elements_into file table l at 0 (n - 0)
  all-elements-start at = rw (sub-zero n)

  module _ (at i : ℕ) where
    pub all-symbols-on : (t b : List ℕ) (h : Header) (x : ℕ) → w ≡ all_symbols_into file table l at i (n - i) → i < n → h ≡ header_at table i → x ≡ entries_in h
        → b ≡ part file h.offset h.size → t ≡ symbols_into b l at 0 x → w ≡ all_symbols_into file table t (at + x) (i + 1) (n - (i + 1))
    unfolding all_symbols_into
    all-symbols-on t b h x q k g u v p = q ∙ rw (one_less n i k) (simp (p, u, v, g))

    pub all-symbols-end : w ≡ all_symbols_into file table l at i (n - i) → n ≤ i → l ≡ w
    unfolding all_symbols_into
    all-symbols-end q k = let z : n - i ≡ 0 = omega arith in sym (q ∙ rw z)

    pub all-elements-on : (t b : List ℕ) (h : Header) (x : ℕ) → w ≡ all_elements_into file table l at i (n - i) → i < n → h ≡ header_at table i → x ≡ contents_in h
        → b ≡ part file h.offset h.size → t ≡ elements_into h.kind b l at 0 x → w ≡ all_elements_into file table t (at + x) (i + 1) (n - (i + 1))
    unfolding all_elements_into
    all-elements-on t b h x q k g u v p = q ∙ rw (one_less n i k) (simp (p, u, v, g))

    pub all-elements-end : w ≡ all_elements_into file table l at i (n - i) → n ≤ i → l ≡ w
    unfolding all_elements_into
    all-elements-end q k = let z : n - i ≡ 0 = omega arith in sym (q ∙ rw z)

-- the row or cell after those of the sections before i, with those from i on, is what was asked for
module _ (table : List ℕ) (n start at i x : ℕ) (h : Header) where
  abbrev pub EntriesLeft : Type 0
  EntriesLeft = at + entry_count table i (n - i) ≡ start + entry_count table 0 n

  abbrev pub ContentsLeft : Type 0
  ContentsLeft = at + content_count table i (n - i) ≡ start + content_count table 0 n

  pub entries_fit : (m k : ℕ) → EntriesLeft → i < n → h ≡ header_at table i → x ≡ entries_in h → start + entry_count table 0 n ≤ m → k ≡ m → at + x ≤ k
  entries_fit m k p l g u v w = let a : x ≡ entries_in (header_at table i) = u ∙ ap entries_in g in omega (arith, p, a, v, w, entries-step table n i l)

  pub entries-past : EntriesLeft → i < n → h ≡ header_at table i → x ≡ entries_in h → start + entry_count table 0 n ≤ 0x1000000000000000 → Fits w64 (at + x)
  entries-past p l g u v = let a : x ≡ entries_in (header_at table i) = u ∙ ap entries_in g in omega (arith, p, a, v, entries-step table n i l)

  pub contents-fit : (m k : ℕ) → ContentsLeft → i < n → h ≡ header_at table i → x ≡ contents_in h → start + content_count table 0 n ≤ m → k ≡ m → at + x ≤ k
  contents-fit m k p l g u v w = let a : x ≡ contents_in (header_at table i) = u ∙ ap contents_in g in omega (arith, p, a, v, w, contents-step table n i l)

  pub contents-past : ContentsLeft → i < n → h ≡ header_at table i → x ≡ contents_in h → start + content_count table 0 n ≤ 0x1000000000000000 → Fits w64 (at + x)
  contents-past p l g u v = let a : x ≡ contents_in (header_at table i) = u ∙ ap contents_in g in omega (arith, p, a, v, contents-step table n i l)

  pub entries-left-on : EntriesLeft → i < n → h ≡ header_at table i → x ≡ entries_in h → at + x + entry_count table (i + 1) (n - (i + 1)) ≡ start + entry_count table 0 n
  entries-left-on p l g u = let a : x ≡ entries_in (header_at table i) = u ∙ ap entries_in g in omega (arith, p, a, entries-step table n i l)

  pub contents-left-on : ContentsLeft → i < n → h ≡ header_at table i → x ≡ contents_in h → at + x + content_count table (i + 1) (n - (i + 1)) ≡ start + content_count table 0 n
  contents-left-on p l g u = let a : x ≡ contents_in (header_at table i) = u ∙ ap contents_in g in omega (arith, p, a, contents-step table n i l)

pub entries-left-start : (table : List ℕ) (n start : ℕ) → start + entry_count table 0 (n - 0) ≡ start + entry_count table 0 n
entries-left-start table n start = rw (sub-zero n)

pub contents-left-start : (table : List ℕ) (n start : ℕ) → start + content_count table 0 (n - 0) ≡ start + content_count table 0 n
contents-left-start table n start = rw (sub-zero n)

-- ---- elements

module _ (kind : ℕ) (bytes w l : List ℕ) (at n : ℕ) where
  pub elements-start : elements_into kind bytes l at 0 n ≡ elements_into kind bytes l at 0 (n - 0)
  elements-start = rw (sub-zero n)

  module _ (j : ℕ) where
    pub elements-on : (t : List ℕ) (x : ℕ) → w ≡ elements_into kind bytes l at j (n - j) → j < n → x ≡ element_at kind bytes j → t ≡ set l (at + j) x
        → w ≡ elements_into kind bytes t at (j + 1) (n - (j + 1))
    unfolding elements_into
    elements-on t x q k g p = q ∙ rw (one_less n j k) (simp (p, g))

    pub elements-end : w ≡ elements_into kind bytes l at j (n - j) → n ≤ j → l ≡ w
    unfolding elements_into
    elements-end q k = let z : n - j ≡ 0 = omega arith in sym (q ∙ rw z)

-- ---- the room

module _ (left rows cells : ℕ) where
  pub left-some : (x : ℕ) → Some x ≡ left_after left rows cells → rows * 8 + cells + x ≡ left
  unfolding left_after
  left-some x q = by-test (leb (rows * 8 + cells) left)
      (λ t. let e : Some x ≡ Some (left - (rows * 8 + cells)) = rw t at q in let d : x ≡ left - (rows * 8 + cells) = cc in omega (arith, leb-true _ _ t))
      (λ t. let e : Some x ≡ None = rw t at q in cc)

  pub left-none : None ≡ left_after left rows cells → left < rows * 8 + cells
  unfolding left_after
  left-none q = by-test (leb (rows * 8 + cells) left)
      (λ t. let e : None ≡ Some (left - (rows * 8 + cells)) = rw t at q in cc)
      (λ t. leb-false _ _ t)

-- what the loop keeps: cells taken and left, and the sums
abbrev pub Kept : ℕ → List ℕ → ℕ → ℕ → ℕ → Room → Type 0
Kept cells table n i left r =
    (n * 8 + r.entries * 8 + r.contents + left ≡ cells) × (r.entries + entry_count table i (n - i) ≡ entry_count table 0 n)
    × (r.contents + content_count table i (n - i) ≡ content_count table 0 n)

module _ (cells : ℕ) (table : List ℕ) (n : ℕ) where
  pub kept-start : (left : ℕ) → Some left ≡ left_after cells n 0 → Kept cells table n 0 left (room_as 0 0)
  kept-start left q =
      let z : n - 0 ≡ n = omega arith in
      let k = left-some cells n 0 left q in
      (omega (arith, k), rw z (omega arith), rw z (omega arith))

  full : cells < n * 8 + entry_count table 0 n * 8 + content_count table 0 n → None ≡ room_of cells table n
  unfolding room_of
  full h = simp (lt-leb _ _ h)

  pub room-short : None ≡ left_after cells n 0 → None ≡ room_of cells table n
  room-short q = full (omega (arith, left-none cells n 0 q))

  module _ (i left x y : ℕ) (r : Room) (h : Header) where
    pub room-past : Kept cells table n i left r → i < n → h ≡ header_at table i → x ≡ entries_in h → y ≡ contents_in h → None ≡ left_after left x y
        → None ≡ room_of cells table n
    room-past (k, ke, kc) l q u v g =
        let s = entries-step table n i l in
        let t = contents-step table n i l in
        let a : x ≡ entries_in (header_at table i) = u ∙ ap entries_in q in
        let b : y ≡ contents_in (header_at table i) = v ∙ ap contents_in q in
        full (omega (arith, k, ke, kc, s, t, a, b, left-none left x y g))

    pub kept_on : (rest : ℕ) → Kept cells table n i left r → i < n → h ≡ header_at table i → x ≡ entries_in h → y ≡ contents_in h → Some rest ≡ left_after left x y
        → Kept cells table n (i + 1) rest (room_as (r.entries + x) (r.contents + y))
    kept_on rest (k, ke, kc) l q u v g =
        let s = entries-step table n i l in
        let t = contents-step table n i l in
        let a : x ≡ entries_in (header_at table i) = u ∙ ap entries_in q in
        let b : y ≡ contents_in (header_at table i) = v ∙ ap contents_in q in
        (omega (arith, k, left-some left x y rest g), omega (arith, ke, s, a), omega (arith, kc, t, b))

  module _ (i left x y rest : ℕ) (r : Room) where
    pub entries_room : Kept cells table n i left r → Some rest ≡ left_after left x y → Fits w64 cells → Fits w64 (r.entries + x)
    entries_room (k, ke, kc) g m = omega (arith, k, left-some left x y rest g, m)

    pub contents_room : Kept cells table n i left r → Some rest ≡ left_after left x y → Fits w64 cells → Fits w64 (r.contents + y)
    contents_room (k, ke, kc) g m = omega (arith, k, left-some left x y rest g, m)

  pub room_fits : (i left : ℕ) (r : Room) → Kept cells table n i left r → n ≤ i → Some r ≡ room_of cells table n
  unfolding room_of
  room_fits i left r (k, ke, kc) h =
      let a : r.entries ≡ entry_count table 0 n = omega (arith, ke, entries-end table n i h) in
      let b : r.contents ≡ content_count table 0 n = omega (arith, kc, contents-end table n i h) in
      let f : n * 8 + entry_count table 0 n * 8 + content_count table 0 n ≤ cells = omega (arith, k, a, b) in
      sym (simp (le-leb _ _ f, ← a, ← b))

  -- a room that was found has the sum of the entries, and its rows and cells fit
  module _ (m : Room) where
    room-cases : Some m ≡ room_of cells table n → (m.entries ≡ entry_count table 0 n) × (n * 8 + entry_count table 0 n * 8 + content_count table 0 n ≤ cells)
    unfolding room_of
    room-cases q =
        by-test (leb (n * 8 + entry_count table 0 n * 8 + content_count table 0 n) cells)
        (λ t.
        let e : Some m ≡ Some (room_as (entry_count table 0 n) (content_count table 0 n)) = rw t at q in
        let d : m ≡ room_as (entry_count table 0 n) (content_count table 0 n) = cc in
        (ap (λ (r : Room). r.entries) d, leb-true _ _ t))
        (λ t. let e : Some m ≡ None = rw t at q in cc)

    pub fits-entries : Some m ≡ room_of cells table n → m.entries ≡ entry_count table 0 n
    fits-entries q = (room-cases q).0

    pub fits-cells : Some m ≡ room_of cells table n → n * 8 + m.entries * 8 + content_count table 0 n ≤ cells
    fits-cells q = omega (arith, (room-cases q).0, (room-cases q).1)
