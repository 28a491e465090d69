-- Request 2026-01: the reader answers exactly the rows of the file, or refuses and leaves everything; its rows are in range, those of a written file its
-- sections' own; cases. The longer proofs stand in the other files.
-- Assumes nothing.
use Rattle.std.specs.Prelude.{ℕ, ◌+◌, ◌*◌, ◌<◌, ◌≤◌, ◌≡◌, true, List, [], ◌∷◌, ◌++◌, eqb, leb, max, get_or, take, Result, Ok, Err}
use native.Mathlib.Omega.{arith}
use Rattle.std.proofs.Common.{⊎_elim, zero-add, sym, ◌∙◌, append_assoc, take_at, drop_at}
use Rattle.std.proofs.Math.Path.{refl, ap}
use Rattle.std.proofs.Math.ListN.{length, drop, length-append}
use Rattle.std.proofs.Math.Seq.{sets-eq}
use borrow.Author.Tests.{eq-eqb, ne_eqb, eqb-true, le-leb, lt-leb, leb-true, leb-false}
use Rattle.cells.specs.Proof.Split.{by-test}
use Rattle.byte_slices.specs.Proof.Ways.{apart}
use Rattle.byte_slices.specs.Bytes.{same}
use Rattle.gabi.specs.StringTable.{before_zero, ended, name_at}
use Rattle.gabi.specs.File.{word_at, half_at, xword_at, section_count, header_table, name_section, r_sym}
use Rattle.link.specs.Judge.{refused}
use Rattle.elf_object.specs.Rows.{name_in}
use Rattle.elf_object.specs.Judge.{first_bad, header_ok}
use Rattle.elf_file.specs.File.{header_of, header_at}
use Rattle.elf_file.specs.Check.{is_object, headers_fit, excluded, entry_size, entries_ok, section_ok, table_ok, bad_table, file_refusal}
use Rattle.elf_file.specs.Rows.{entries_in, contents_in, entry_count, content_count, room_of, kind_of, named_kind, names_of, comdat_of, flags_of, first_row_of, count_of, header_row_of}
use Rattle.link.specs.declared.cause.Refusal.{Refusal}
use Rattle.elf_file.specs.declared.reading.Written.{Written}
use Rattle.elf_file.specs.declared.counts.Counts.{Counts}
use Rattle.elf_file.specs.Contract.{Exit, ReadMeets, answer_of, written_as}
use Rattle.elf_file.specs.Counts.{counted_of}
use Rattle.elf_file.specs.Proof.CountWays.{contents-are}
use Rattle.elf_file.specs.Read.{written_of, Done, done, read_as, roomed_of, read_of}
use Rattle.elf_laws.specs.Object.{headers_from, symbols_from, all_symbols_from, elements_from, all_elements_from, rows_of, cells_of, laid}
use Rattle.elf_laws.specs.Counted.{taken, IsListed}
use Rattle.elf_laws.specs.Back.{le8, joined}
use Rattle.elf_laws.specs.Tables.{Symbol, symbol_entries, symbol_rows, Relocation, rel_entries, rela_entries, symbols_of, Member, group_bytes, member_numbers}
use Rattle.elf_laws.specs.Writer.{Section, file_of}
use Rattle.elf_laws.specs.Trip.{Fit, Whole, no_section, own_rows}
use Rattle.elf_laws.specs.Examples.{numbered, files, file_answers, file_refusals, tables, tables_judged, tables_pass, header_rows, rows_read, rows_wanted, frame_header_kind, kinds_of, types}
use Rattle.elf_laws.proofs.Counted as Counted
use Rattle.elf_laws.proofs.Counted.{counted-fine, counted-cells, uncounted, refusal-answered}
use Rattle.elf_laws.proofs.Names as Names
use Rattle.elf_laws.proofs.Ranges as Ranges
use Rattle.elf_laws.proofs.Tables as Tables
use Rattle.elf_laws.proofs.Accepted as Accepted
use Rattle.elf_laws.proofs.Trip as Trip
use Rattle.elf_laws.proofs.Written.{all-written, length-headers, length-all-symbols, length-all-elements}

-- ---- the regions

module _ (hs ss xs r : List ℕ) where
  pub part-headers : (a : ℕ) → length hs ≡ a → take a (((hs ++ ss) ++ xs) ++ r) ≡ hs
  part-headers a e = ap (take a) (append_assoc (hs ++ ss) xs r ∙ append_assoc hs ss (xs ++ r)) ∙ take_at hs (ss ++ (xs ++ r)) a e

  pub part-entries : (a b : ℕ) → length hs ≡ a → length ss ≡ b → take b (drop a (((hs ++ ss) ++ xs) ++ r)) ≡ ss
  part-entries a b e f =
      ap (λ (l : List ℕ). take b (drop a l)) (append_assoc (hs ++ ss) xs r ∙ append_assoc hs ss (xs ++ r))
      ∙ ap (take b) (drop_at hs (ss ++ (xs ++ r)) a e)
      ∙ take_at ss (xs ++ r) b f

  pub part-contents : (b c : ℕ) → length (hs ++ ss) ≡ b → length xs ≡ c → take c (drop b (((hs ++ ss) ++ xs) ++ r)) ≡ xs
  part-contents b c e f =
      ap (λ (l : List ℕ). take c (drop b l)) (append_assoc (hs ++ ss) xs r) ∙ ap (take c) (drop_at (hs ++ ss) (xs ++ r) b e) ∙ take_at xs r c f

module _ (file l : List ℕ) where
  -- what is answered, by its three cases
  pub read-refused : ((file_refusal file).number ≡ 0 → ⊥) → read_of file l ≡ done l (read_as (file_refusal file).number (file_refusal file).place 0 0 0 0)
  unfolding read_of
  read-refused h = simp (ne_eqb _ _ h)

  pub read_short : (file_refusal file).number ≡ 0 → length l < cells_of file → read_of file l ≡ done l (read_as 2 0 0 0 0 0)
  unfolding read_of cells_of room_of roomed_of
  read_short z h = simp (eq-eqb _ _ z, lt-leb _ _ h)

  pub read-rows : (file_refusal file).number ≡ 0 → cells_of file ≤ length l
      → read_of file l
      ≡ done (laid (rows_of file) l)
      (read_as 0 0 (section_count file) (entry_count (header_table file) 0 (section_count file)) (content_count (header_table file) 0 (section_count file))
      (rows_of file).section_names)
  unfolding read_of cells_of room_of roomed_of rows_of
  read-rows z h =
      let m = section_count file in
      let table = header_table file in
      let names = names_of file table (name_section file) m in
      let hs = headers_from file names table 0 0 0 m in
      let ss = all_symbols_from file table 0 m in
      let xs = all_elements_from file table 0 m in
      let long : length ((hs ++ ss) ++ xs) ≡ cells_of file =
      length-append (hs ++ ss) xs
      ∙ omega (arith, length-append hs ss, length-headers file names table 0 0 0 m, length-all-symbols file table 0 m, length-all-elements file table 0 m) in
      let fits : 0 + length ((hs ++ ss) ++ xs) ≤ length l = omega (arith, long) in
      let w : written_of file names table l m (entry_count table 0 m) ≡ ((hs ++ ss) ++ xs) ++ drop (length ((hs ++ ss) ++ xs)) l =
      all-written file names table l m (entry_count table 0 m) refl ∙ sets-eq ((hs ++ ss) ++ xs) l 0 fits ∙ ap (λ (p : ℕ). ((hs ++ ss) ++ xs) ++ drop p l) (zero-add (length ((hs ++ ss) ++ xs))) in
      simp (eq-eqb _ _ z, le-leb _ _ h, w)

  -- "all leave everything": whatever is refused leaves the lent cells
  pub refused-leaves : ((read_of file l).answer.number ≡ 0 → ⊥) → (read_of file l).cells ≡ l
  refused-leaves h =
      by-test (eqb (file_refusal file).number 0)
      (λ a.
      let z = eqb-true _ _ a in
      by-test (leb (cells_of file) (length l)) (λ b. absurd (h (ap (λ (d : Done). d.answer.number) (read-rows z (leb-true _ _ b)))))
      (λ b. ap (λ (d : Done). d.cells) (read_short z (leb-false _ _ b))))
      (λ a. ap (λ (d : Done). d.cells) (read-refused (λ e. absurd (apart (sym a ∙ eq-eqb _ _ e)))))

-- its contract admits no second outcome
pub one-outcome : (file l a b : List ℕ) (r q : Result Written Refusal) → ReadMeets file l a r → ReadMeets file l b q → (a ≡ b) × (r ≡ q)
one-outcome file l a b r q e f = let h = e ∙ sym f in (ap (λ (d : Exit). d.cells) h, ap (λ (d : Exit). d.answer) h)

-- ---- what has to be lent

module _ (file before after : List ℕ) (r : Result Written Refusal) (m : ReadMeets file before after r) where
  answered : r ≡ answer_of (read_of file before).answer
  answered = ap (λ (e : Exit). e.answer) m

  module _ (c : Counts) (q : counted_of file ≡ Ok c) where
    -- the cells of its rows, as counted, or more: it is read, and has as many of each sort
    pub counted-read : taken c ≤ length before → r ≡ Ok (written_as c.sections c.symbols (c.relocations + c.listed) (rows_of file).section_names)
    counted-read h =
        let (z, e) = counted-fine file c q in
        let l : cells_of file ≤ length before = omega (arith, h, counted-cells file c q) in
        answered ∙ ap (λ (d : Done). answer_of d.answer) (read-rows file before z l)
        ∙ rw (e, contents-are (header_table file) 0 (section_count file)) refl

    -- a cell fewer, and so a row fewer of any sort: 2
    pub counted-short : length before < taken c → r ≡ Err (refused 2 0)
    counted-short h =
        let (z, e) = counted-fine file c q in
        let l : length before < cells_of file = omega (arith, h, counted-cells file c q) in
        answered ∙ ap (λ (d : Done). answer_of d.answer) (read_short file before z l)

  -- what isn't counted isn't read either, of no more cells than the bound
  pub uncounted-refused : (x : Refusal) → counted_of file ≡ Err x → length before ≤ max (length file) 0x1000000 → r ≡ Err x
  uncounted-refused x q h =
      answered
      ∙ ⊎_elim
      (λ (n, e). ap (λ (d : Done). answer_of d.answer) (read-refused file before n) ∙ refusal-answered file n ∙ ap Err (sym e))
      (λ (z, l, e). ap (λ (d : Done). answer_of d.answer) (read_short file before z (omega (arith, l, h))) ∙ ap Err (sym e))
      (uncounted file x q)

module _ (file : List ℕ) (c : Counts) (q : counted_of file ≡ Ok c) where
  -- what is counted takes no more cells than the file has bytes, or than 2^24
  pub counted-bounded : taken c ≤ max (length file) 0x1000000
  counted-bounded = Counted.counted-bounded file c q

  -- a work row for each section that an object may have, and for each that a group lists; no more of them
  pub sections-marked : (s : ℕ) → s < section_count file → s < 65280 → s < c.work_rows
  sections-marked = Counted.sections-marked file c q

  pub listed-marked : (s : ℕ) → IsListed file s → s < 65280 → s < c.work_rows
  listed-marked = Counted.listed-marked file c q

  pub marks-least : (b : ℕ) → ((s : ℕ) → s < section_count file → s < 65280 → s < b) → ((s : ℕ) → IsListed file s → s < 65280 → s < b) → c.work_rows ≤ b
  marks-least = Counted.marks-least file c q

-- what a caller hands to a merge: `&rows[..a]`, `&rows[a..b]`, `&rows[b..]`, cut by the answer's numbers
module _ (file l : List ℕ) where
  pub headers-part : take (section_count file * 8) (laid (rows_of file) l) ≡ (rows_of file).headers
  unfolding rows_of
  headers-part =
      let n = section_count file in
      let table = header_table file in
      let names = names_of file table (name_section file) n in
      let hs = headers_from file names table 0 0 0 n in
      let ss = all_symbols_from file table 0 n in
      let xs = all_elements_from file table 0 n in
      part-headers hs ss xs (drop (length ((hs ++ ss) ++ xs)) l) (n * 8) (length-headers file names table 0 0 0 n)

  pub entries-part : take (entry_count (header_table file) 0 (section_count file) * 8) (drop (section_count file * 8) (laid (rows_of file) l)) ≡ (rows_of file).entries
  unfolding rows_of
  entries-part =
      let n = section_count file in
      let table = header_table file in
      let names = names_of file table (name_section file) n in
      let hs = headers_from file names table 0 0 0 n in
      let ss = all_symbols_from file table 0 n in
      let xs = all_elements_from file table 0 n in
      part-entries hs ss xs (drop (length ((hs ++ ss) ++ xs)) l) (n * 8) (entry_count table 0 n * 8) (length-headers file names table 0 0 0 n)
      (length-all-symbols file table 0 n)

  pub contents-part : take (content_count (header_table file) 0 (section_count file))
      (drop ((section_count file + entry_count (header_table file) 0 (section_count file)) * 8) (laid (rows_of file) l))
      ≡ (rows_of file).contents
  unfolding rows_of
  contents-part =
      let n = section_count file in
      let table = header_table file in
      let names = names_of file table (name_section file) n in
      let hs = headers_from file names table 0 0 0 n in
      let ss = all_symbols_from file table 0 n in
      let xs = all_elements_from file table 0 n in
      part-contents hs ss xs (drop (length ((hs ++ ss) ++ xs)) l) ((n + entry_count table 0 n) * 8) (content_count table 0 n)
      (length-append hs ss ∙ omega (arith, length-headers file names table 0 0 0 n, length-all-symbols file table 0 n))
      (length-all-elements file table 0 n)

  -- the lent cells hold at least what the rows need
  pub laid-long : cells_of file ≤ length (laid (rows_of file) l)
  unfolding cells_of rows_of
  laid-long =
      let n = section_count file in
      let table = header_table file in
      let names = names_of file table (name_section file) n in
      let hs = headers_from file names table 0 0 0 n in
      let ss = all_symbols_from file table 0 n in
      let xs = all_elements_from file table 0 n in
      omega (
        arith,
        length-append ((hs ++ ss) ++ xs) (drop (length ((hs ++ ss) ++ xs)) l),
        length-append (hs ++ ss) xs,
        length-append hs ss,
        length-headers file names table 0 0 0 n,
        length-all-symbols file table 0 n,
        length-all-elements file table 0 n,
      )

module _ (file : List ℕ) where
  -- the names by which kind 11 is told are those that a merge of the rows looks up
  pub names-agree : (o : ℕ) → (name_in (rows_of file).headers file (rows_of file).section_names o).name
      ≡ name_at (names_of file (header_table file) (name_section file) (section_count file)) o
  names-agree = Names.names-agree file

  -- of a file that isn't refused every header row below 65,280 is in range, as a merge judges it
  pub file-in-range : (j : ℕ) → (file_refusal file).number ≡ 0 → j < section_count file → j < 65280
      → header_ok (rows_of file).headers (entry_count (header_table file) 0 (section_count file)) (content_count (header_table file) 0 (section_count file))
      (length file)
      j
      ≡ true
  file-in-range = Ranges.file-in-range file

-- ---- tables, entry by entry: what a writer put into them is had back, of relocations their symbols

pub symbols-back : (xs : List Symbol) → symbols_from (joined (symbol_entries xs)) 0 (length xs) ≡ symbol_rows xs
symbols-back = Tables.symbols-back

pub rels-back : (xs : List Relocation) → elements_from 9 (joined (rel_entries xs)) 0 (length xs) ≡ symbols_of xs
rels-back = Tables.rels-back

pub relas-back : (xs : List Relocation) → elements_from 4 (joined (rela_entries xs)) 0 (length xs) ≡ symbols_of xs
relas-back = Tables.relas-back

pub members-back : (flags : ℕ) (xs : List Member) → elements_from 17 (group_bytes flags xs) 0 (length xs) ≡ member_numbers xs
members-back = Tables.members-back

-- ---- a file that is written from sections

module _ (s : ℕ) (xs : List Section) (some : length xs ≡ 0 → ⊥) (few : length xs < 0x10000) (fit : Fit xs) where
  -- it isn't refused, if each section's bytes are whole entries: so what is said of files that are read is said of some
  pub written-accepted : ((x : Section) (i : ℕ) → i < length xs → Whole (get_or xs i x)) → file_refusal (file_of s xs) ≡ refused 0 0
  written-accepted whole = Accepted.written-accepted s xs some few fit whole no_section

  -- its rows are its sections' own rows
  pub written-rows : s < 0xffff → rows_of (file_of s xs) ≡ own_rows s xs
  written-rows = Trip.written-rows s xs some few fit

-- ---- cases

pub files-answered : file_answers files ≡ file_refusals files
unfolding file_refusal is_object word_at half_at xword_at section_count headers_fit bad_table first_bad table_ok section_ok header_at header_of header_table excluded entry_size
files-answered = refl

pub numbers-in-header-0 : (section_count numbered ≡ 3) × (name_section numbered ≡ 2)
unfolding word_at half_at xword_at section_count name_section
numbers-in-header-0 = (refl, refl)

pub tables-right : tables_judged tables ≡ tables_pass tables
unfolding section_ok excluded entry_size entries_ok
tables-right = refl

pub rows-right : rows_read header_rows ≡ rows_wanted header_rows
unfolding header_row_of named_kind kind_of flags_of comdat_of first_row_of count_of entries_in contents_in excluded word_at
rows-right = refl

pub kinds-of-types :
    kinds_of types ≡ 0 ∷ 1 ∷ 3 ∷ 4 ∷ 6 ∷ 8 ∷ 12 ∷ 14 ∷ 2 ∷ 5 ∷ 13 ∷ 10 ∷ 13 ∷ 13 ∷ 1 ∷ 1 ∷ 1 ∷ 7 ∷ 13 ∷ 13 ∷ 9 ∷ 13 ∷ []
unfolding kind_of
kinds-of-types = refl

-- of that name a section of type 1 is of kind 11, one of type 14 isn't
pub frame-header : (frame_header_kind 1 ≡ 11) × (frame_header_kind 14 ≡ 1)
unfolding named_kind kind_of same name_at ended before_zero
frame-header = (refl, refl)

pub relocation-symbol : r_sym (le8 0 (le8 0x0000000500000002 [])) ≡ 5
unfolding r_sym xword_at word_at
relocation-symbol = refl
