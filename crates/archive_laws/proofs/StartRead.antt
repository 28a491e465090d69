-- The call `start` on the bytes of any list of entries: its answer, its walk and its rows, from the reading of these bytes (Format.antt).
-- Assumes nothing.
use Rattle.std.specs.Prelude.{ℕ, ◌+◌, ◌/◌, ◌<◌, refl, ◌≢◌, cond, ltb}
use Rattle.std.proofs.Common.{arith, ◌∙◌}
use Rattle.std.proofs.Math.Path.{◌≡◌, ap}
use Rattle.std.proofs.Math.Bool.{false}
use mathlib.Core.List.{List, [], ◌∷◌, ◌++◌}
use Rattle.std.proofs.Math.ListN.{length, length-append}
use Rattle.cells.specs.Proof.Split.{by-test}
use Rattle.gabi.specs.ArchiveIndex.{Entry, AllFit}
use Rattle.archive_index.specs.Rows.{no_heads}
use Rattle.archive_index.specs.Index.{count_of, name_of}
use Rattle.archive_index.specs.Open.{judge_rows, judge_of, open_of}
use Rattle.archive_index.specs.Archives.{start_at, one, entries_in, member}
use Rattle.link.specs.declared.cause.Refusal.{Refusal}
use Rattle.link.specs.Judge.{refused, none}
use Rattle.link.specs.Proof.Judged.{first}
use borrow.Author.Tests.{ne_eqb}
use Rattle.archive_walk.specs.declared.Walk.{Walk}
use Rattle.archive_walk.specs.Walk.{Start, begun_number, begun_said, fresh_walk, begun_of, start_of}
use Rattle.archive_laws.proofs.Format.{count-read, offset_read, name-read, index-read, some-bytes}
use Rattle.archive_laws.proofs.One.{judge-one, entries-one, name-one, member-one}
use Rattle.archive_laws.specs.Runs.{queue_list, start_run, history}
use Rattle.archive_laws.specs.Members as Members
use Rattle.archive_laws.specs.Rounds.{among}
use Rattle.archive_laws.proofs.AcceptedStart.{walk_fine, start-empty}
use Rattle.archive_laws.specs.StartRead.{bytes_of, start_said, StartRow}

-- ---- the answer

module _ (es : List Entry) (rest : List ℕ) (many : length es < 4294967296) (fit : AllFit es) (key : ℕ) (cells : List ℕ) where
  abbrev bytes : List ℕ
  bytes = bytes_of es rest

  abbrev pub started : Start
  started = start_of key (one bytes) cells

  abbrev judged : Refusal
  judged = first (cond (ltb 65535 (length es)) (refused 1 65535) none) (judge_rows (length cells / 8) (length es))

  judged-is : judge_of (one bytes) (length cells / 8) ≡ judged
  judged-is =
      let z : 0 + length es ≡ length es = omega arith in
      judge-one bytes (length cells / 8) ∙ rw (ne_eqb (length bytes) 0 (some-bytes es rest), index-read es rest many fit 0, z, count-read es rest many)

  entries-is : entries_in (one bytes) ≡ length es
  entries-is = entries-one bytes ∙ count-read es rest many

  pub start-answer : begun_said started.started.begun ≡ start_said (length es) (length cells / 8)
  unfolding start_of begun_of open_of
  start-answer =
      rw (judged-is, entries-is)
      (by-test (ltb 65535 (length es)) (λ a. rw a) (λ a. by-test (ltb (length cells / 8) (length es)) (λ b. rw (a, b)) (λ b. rw (a, b))))

  -- a refused one leaves every cell
  pub start_left : begun_number started.started.begun ≢ 0 → started.cells ≡ cells
  unfolding start_of begun_of open_of no_heads
  start_left u =
      rw judged-is
      (by-test (ltb 65535 (length es)) (λ a. rw a)
      (λ a. by-test (ltb (length cells / 8) (length es)) (λ b. rw (a, b)) (λ b. absurd ((rw (judged-is, a, b) at u) refl))))

  -- else the walk is at its beginning: no pass, nothing queued, nothing offered
  module _ (ready : begun_number started.started.begun ≡ 0) where
    pub start-walk : started.started.walk ≡ fresh_walk key (length es) (length bytes)
    unfolding start_of begun_of open_of start_at
    start-walk =
        rw (judged-is, entries-is)
        (by-test (ltb 65535 (length es)) (λ a. let z : ◌≡◌ {A = ℕ} 1 0 = rw (judged-is, a) at ready in absurd (omega arith))
        (λ a. by-test (ltb (length cells / 8) (length es)) (λ b. let z : ◌≡◌ {A = ℕ} 2 0 = rw (judged-is, a, b) at ready in absurd (omega arith)) (λ b. rw (a, b))))

-- ---- the rows: of entry e, behind those of a

module _ (a b : List Entry) (e : Entry) (rest : List ℕ) (many : length (a ++ e ∷ b) < 4294967296) (fit : AllFit (a ++ e ∷ b)) (key : ℕ) (cells : List ℕ)
    (ready : begun_number (started (a ++ e ∷ b) rest many fit key cells).started.begun ≡ 0) where
  abbrev all : List Entry
  all = a ++ e ∷ b

  abbrev index : List ℕ
  index = bytes_of all rest

  abbrev left : List ℕ
  left = (started all rest many fit key cells).cells

  abbrev k : ℕ
  k = length a

  pub start-row : StartRow index left k e
  unfolding start_run history start_of begun_of queue_list Members.among open_of
  start-row =
      let c : count_of index ≡ length all = count-read all rest many in
      let low : k < count_of index = omega (arith, c, length-append a (e ∷ b)) in
      let in-all : k < entries_in (one index) = omega (arith, low, entries-one index) in
      let fine = walk_fine key (one index) cells ready [] in
      let none : (start_run key (one index) cells).walk.queued ≡ 0 = ap (λ (w : Walk). w.queued) (start-walk all rest many fit key cells ready) in
      let free : among (one index) k (queue_list left (start_run key (one index) cells).walk.queued) ≡ false = rw none in
      record {
        name = fine.sound.rows.name k in-all ∙ name-one index k low ∙ ap (λ (n : ℕ). name_of index n k) c ∙ name-read a b e rest fit;
        offset = member-one index k ∙ ap (member 0) (offset_read a b e rest fit);
        member = fine.sound.rows.member k in-all;
        unrequired = fine.sound.marks.unmarked k in-all free;
        unqueued = fine.sound.marks.mark k in-all ∙ rw free;
        empty = start-empty key (one index) cells ready k in-all;
      }
