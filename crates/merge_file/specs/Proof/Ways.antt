-- The ways through the functions.
-- Assumes nothing.
use Rattle.std.specs.Prelude.{ℕ, ◌+◌, ◌*◌, ◌≤◌, ◌≡◌, refl, Bool, true, false, cond, List, eqb, leb, ltb, Result, Ok, Err}
use Rattle.std.proofs.Common.{arith, ◌∙◌}
use Rattle.std.proofs.Math.Path.{sym, ap}
use Rattle.std.proofs.Math.ListN.{length}
use borrow.Author.Tests.{eq-eqb, ne_eqb, eqb-true, ltb-true, ltb-false, leb-true, leb-false}
use Rattle.cells.specs.Proof.Split.{by-test}
use Rattle.byte_slices.specs.Proof.Ways.{apart}
use Rattle.link.specs.Judge.{refused}
use Rattle.link.specs.declared.cause.Refusal.{Refusal}
use Rattle.merge_stages.specs.Stages.{All, Object, object_of}
use Rattle.merge_elf.specs.Merge.{Left, leave, merge_of}
use Rattle.gabi.specs.File.{section_count, header_table}
use Rattle.elf_file.specs.Check.{file_refusal}
use Rattle.elf_file.specs.Rows.{entry_count, content_count}
use Rattle.elf_file.specs.Read.{Reading, Done, done, read_as, read_of}
use Rattle.elf_file.specs.declared.reading.Written.{Written}
use Rattle.elf_file.specs.Contract.{Exit, exit, exit_of, answer_of, written_as}
use Rattle.elf_laws.specs.Object.{rows_of, cells_of, laid}
use Rattle.elf_laws.proofs.Terms.{read-refused, read_short, read-rows, laid-long, headers-part, entries-part, contents-part}
use Rattle.merge_file.specs.MergeFile.{FileLeft, file_left, unread, file_head_of, merge_file_of, cut_of, reading_of, merge_read_of}

-- ---- the rows that a read wrote

module _ (file rows l : List ℕ) (r : Reading) where
  refused-room : (d : Done) (number place : ℕ) → done l r ≡ d → d ≡ done rows (read_as number place 0 0 0 0) → r.sections * 8 + r.entries * 8 + r.contents ≤ length l
  refused-room d number place p q =
      let e : r.sections ≡ 0 = ap (λ (x : Done). x.answer.sections) (p ∙ q) in
      let f : r.entries ≡ 0 = ap (λ (x : Done). x.answer.entries) (p ∙ q) in
      let g : r.contents ≡ 0 = ap (λ (x : Done). x.answer.contents) (p ∙ q) in
      omega (arith, e, f, g)

  pub read-room : done l r ≡ read_of file rows → r.sections * 8 + r.entries * 8 + r.contents ≤ length l
  unfolding cells_of
  read-room p =
      by-test (eqb (file_refusal file).number 0)
      (λ a.
      let z = eqb-true _ _ a in
      by-test (leb (cells_of file) (length rows))
      (λ b.
      let q = p ∙ read-rows file rows z (leb-true _ _ b) in
      let e : r.sections ≡ section_count file = ap (λ (x : Done). x.answer.sections) q in
      let f : r.entries ≡ entry_count (header_table file) 0 (section_count file) = ap (λ (x : Done). x.answer.entries) q in
      let g : r.contents ≡ content_count (header_table file) 0 (section_count file) = ap (λ (x : Done). x.answer.contents) q in
      let n : length l ≡ length (laid (rows_of file) rows) = ap (λ (x : Done). length x.cells) q in
      omega (arith, e, f, g, n, laid-long file rows))
      (λ b. refused-room (read_of file rows) 2 0 p (read_short file rows z (leb-false _ _ b))))
      (λ a. refused-room (read_of file rows) (file_refusal file).number (file_refusal file).place p (read-refused file rows (λ e. absurd (apart (sym a ∙ eq-eqb _ _ e)))))

-- the parts of the cells that the counts cut are the file's rows

same_object : (h i e f c d file : List ℕ) (s : ℕ) → h ≡ i → e ≡ f → c ≡ d → object_of h e c file s ≡ object_of i f d file s
same_object h i e f c d file s p q r = simp (p, q, r)

whole : (file : List ℕ) → object_of (rows_of file).headers (rows_of file).entries (rows_of file).contents file (rows_of file).section_names ≡ rows_of file
unfolding rows_of
whole file = refl

module _ (file rows : List ℕ) where
  abbrev counts : Reading
  counts =
      read_as 0 0 (section_count file) (entry_count (header_table file) 0 (section_count file)) (content_count (header_table file) 0 (section_count file))
      (rows_of file).section_names

  cut-rows : cut_of file (laid (rows_of file) rows) counts ≡ rows_of file
  cut-rows =
      same_object _ _ _ _ _ _ file (rows_of file).section_names (headers-part file rows) (entries-part file rows) (contents-part file rows) ∙ whole file

-- ---- what a read answered

ok-answer : (r : Reading) (w : Written) → Ok w ≡ answer_of r → (r.number ≡ 0) × (w ≡ written_as r.sections r.entries r.contents r.strings)
ok-answer r w e = go (eqb r.number 0) refl e
  where
    go : (t : Bool) → eqb r.number 0 ≡ t
        → Ok w ≡ cond {A = Result Written Refusal} t (Ok (written_as r.sections r.entries r.contents r.strings)) (Err (refused r.number r.place))
        → (r.number ≡ 0) × (w ≡ written_as r.sections r.entries r.contents r.strings)
    go true d f = (eqb-true _ _ d, cc)
    go false d f = absurd (cc)

err-answer : (r : Reading) (e : Refusal) → Err e ≡ answer_of r → (r.number ≡ 0 → ⊥) × (e ≡ refused r.number r.place)
err-answer r e q = go (eqb r.number 0) refl q
  where
    go : (t : Bool) → eqb r.number 0 ≡ t
        → Err e ≡ cond {A = Result Written Refusal} t (Ok (written_as r.sections r.entries r.contents r.strings)) (Err (refused r.number r.place))
        → (r.number ≡ 0 → ⊥) × (e ≡ refused r.number r.place)
    go true d f = absurd (cc)
    go false d f = (λ z. apart (sym d ∙ eq-eqb _ _ z), cc)

ok-read : (d : Done) (l : List ℕ) (w : Written) → exit l (Ok w) ≡ exit_of d
    → (l ≡ d.cells) × ((d.answer.number ≡ 0) × (w ≡ written_as d.answer.sections d.answer.entries d.answer.contents d.answer.strings))
ok-read d l w p = (ap (λ (e : Exit). e.cells) p, ok-answer d.answer w (ap (λ (e : Exit). e.answer) p))

err-read : (d : Done) (l : List ℕ) (e : Refusal) → exit l (Err e) ≡ exit_of d → (l ≡ d.cells) × ((d.answer.number ≡ 0 → ⊥) × (e ≡ refused d.answer.number d.answer.place))
err-read d l e p = (ap (λ (x : Exit). x.cells) p, err-answer d.answer e (ap (λ (x : Exit). x.answer) p))

-- the parts that the counts cut lie in the cells
pub written-room : (file rows l : List ℕ) (w : Written) → exit l (Ok w) ≡ exit_of (read_of file rows) → w.sections * 8 + w.entries * 8 + w.contents ≤ length l
written-room file rows l w p =
    let k = ok-read (read_of file rows) l w p in
    rw (k.1.1) (read-room file rows l (read_of file rows).answer (ap (λ (x : List ℕ). done x (read_of file rows).answer) k.0))

merged-same : (file l : List ℕ) (w : Written) (r : Reading) (a : All) → r.number ≡ 0 → w ≡ written_as r.sections r.entries r.contents r.strings
    → merge_of (cut_of file l (reading_of w)) a ≡ merge_read_of file l r a
unfolding merge_read_of
merged-same file l w r a z e = rw e (simp (eq-eqb _ _ z))

unread-same : (file l : List ℕ) (e : Refusal) (r : Reading) (a : All) → (r.number ≡ 0 → ⊥) → e ≡ refused r.number r.place
    → leave a a.stage.link (Err e) ≡ merge_read_of file l r a
unfolding merge_read_of
unread-same file l e r a n q = rw q (simp (ne_eqb _ _ n))

-- ---- the call

module _ (file rows : List ℕ) (a : All) where
  abbrev after : Done → FileLeft
  after d = file_left d.cells (merge_read_of file d.cells d.answer a)

  stopped-is : (n p : ℕ) → (n ≡ 0 → ⊥) → after (done rows (read_as n p 0 0 0 0)) ≡ unread rows a (refused n p)
  unfolding merge_read_of
  stopped-is n p h = rw (ne_eqb n 0 h)

  merged-is : after (done (laid (rows_of file) rows) (counts file rows)) ≡ file_left (laid (rows_of file) rows) (merge_of (rows_of file) a)
  unfolding merge_read_of
  merged-is = ap (λ (o : Object). file_left (laid (rows_of file) rows) (merge_of o a)) (cut-rows file rows)

  read_is : a.stage.link.broken ≡ false → after (read_of file rows) ≡ merge_file_of file rows a
  unfolding merge_file_of file_head_of
  read_is b =
      by-test (eqb (file_refusal file).number 0)
      (λ c.
      let z = eqb-true _ _ c in
      by-test (ltb (length rows) (cells_of file))
      (λ d. ap after (read_short file rows z (ltb-true _ _ d)) ∙ stopped-is 2 0 (λ e. omega (arith, e)) ∙ sym (rw (b, c, d)))
      (λ d. ap after (read-rows file rows z (ltb-false _ _ d)) ∙ merged-is ∙ sym (rw (b, c, d))))
      (λ c.
      let h : (file_refusal file).number ≡ 0 → ⊥ = λ e. apart (sym c ∙ eq-eqb _ _ e) in
      ap after (read-refused file rows h) ∙ stopped-is (file_refusal file).number (file_refusal file).place h ∙ sym (rw (b, c, c)))

  pub file-broken : a.stage.link.broken ≡ true → unread rows a (refused 22 0) ≡ merge_file_of file rows a
  unfolding merge_file_of file_head_of
  file-broken b = simp b

  file-read : (l : List ℕ) (r : Reading) → a.stage.link.broken ≡ false → done l r ≡ read_of file rows → file_left l (merge_read_of file l r a) ≡ merge_file_of file rows a
  file-read l r b p = ap after p ∙ read_is b

  module _ (l : List ℕ) (b : a.stage.link.broken ≡ false) where
    pub file-merged : (w : Written) (m : Left) → exit l (Ok w) ≡ exit_of (read_of file rows) → m ≡ merge_of (cut_of file l (reading_of w)) a
        → file_left l m ≡ merge_file_of file rows a
    file-merged w m p q =
        let k = ok-read (read_of file rows) l w p in
        ap (file_left l) (q ∙ merged-same file l w (read_of file rows).answer a k.1.0 k.1.1)
        ∙ file-read l (read_of file rows).answer b (ap (λ (x : List ℕ). done x (read_of file rows).answer) k.0)

    pub file-unread : (e : Refusal) → exit l (Err e) ≡ exit_of (read_of file rows) → unread l a e ≡ merge_file_of file rows a
    file-unread e p =
        let k = err-read (read_of file rows) l e p in
        ap (file_left l) (unread-same file l e (read_of file rows).answer a k.1.0 k.1.1)
        ∙ file-read l (read_of file rows).answer b (ap (λ (x : List ℕ). done x (read_of file rows).answer) k.0)
