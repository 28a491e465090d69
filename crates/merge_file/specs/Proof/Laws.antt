-- Document 02, 2026-01: what the merge of a file is, by its cases.
-- Assumes nothing.
use Rattle.std.specs.Prelude.{ℕ, ◌<◌, ◌≤◌, ◌≡◌, true, false, List, length, get_or}
use Rattle.std.proofs.Common.{ap, ◌∙◌}
use borrow.Author.Tests.{eq-eqb, ne_eqb, lt-ltb, le-ltb}
use Rattle.link.specs.declared.cause.Refusal.{Refusal}
use Rattle.link.specs.Judge.{refused}
use Rattle.merge_stages.specs.Stages.{All, Object}
use Rattle.merge_elf.specs.Merge.{merge_of}
use Rattle.elf_file.specs.Check.{file_refusal}
use Rattle.elf_laws.specs.Object.{rows_of, cells_of, laid}
use Rattle.elf_laws.specs.Writer.{Section, file_of}
use Rattle.elf_laws.specs.Trip.{Fit, Whole, own_rows}
use Rattle.elf_laws.proofs.Trip.{written-rows}
use Rattle.elf_laws.proofs.Accepted.{written-accepted}
use Rattle.merge_file.specs.MergeFile.{file_left, unread, file_head_of, merge_file_of}

module _ (image rows : List ℕ) (a : All) where
  pub broken-left : a.stage.link.broken ≡ true → merge_file_of image rows a ≡ unread rows a (refused 22 0)
  unfolding merge_file_of file_head_of
  broken-left b = rw b

  module _ (b : a.stage.link.broken ≡ false) where
    -- 26 and 27 leave everything, the lent rows too, the link unbroken
    pub refused-left : ((file_refusal image).number ≡ 0 → ⊥) → merge_file_of image rows a ≡ unread rows a (file_refusal image)
    unfolding merge_file_of file_head_of
    refused-left h = let f = ne_eqb _ _ h in rw (b, f, f)

    -- and so do too few lent rows
    pub short-left : (file_refusal image).number ≡ 0 → length rows < cells_of image → merge_file_of image rows a ≡ unread rows a (refused 2 0)
    unfolding merge_file_of file_head_of
    short-left z h = rw (b, eq-eqb _ _ z, lt-ltb _ _ h)

    -- "A file read and merged must equal its rows merged by hand": the answer, every cell, every count
    pub file-is-rows : (file_refusal image).number ≡ 0 → cells_of image ≤ length rows
        → merge_file_of image rows a ≡ file_left (laid (rows_of image) rows) (merge_of (rows_of image) a)
    unfolding merge_file_of file_head_of
    file-is-rows z h = rw (b, eq-eqb _ _ z, le-ltb _ _ h)

-- so that this isn't said of no file: one that is written from sections whose bytes are whole entries is merged as the sections' own rows
pub written-merges : (s : ℕ) (xs : List Section) (z : length xs ≡ 0 → ⊥) (m : length xs < 0x10000) (fit : Fit xs)
    → ((x : Section) (i : ℕ) → i < length xs → Whole (get_or xs i x)) → Section → s < 0xffff → (rows : List ℕ) (a : All) → a.stage.link.broken ≡ false
    → cells_of (file_of s xs) ≤ length rows → merge_file_of (file_of s xs) rows a ≡ file_left (laid (own_rows s xs) rows) (merge_of (own_rows s xs) a)
written-merges s xs z m fit whole x h rows a b room =
    file-is-rows (file_of s xs) rows a b (ap (λ (r : Refusal). r.number) (written-accepted s xs z m fit whole x)) room
    ∙ ap (λ (o : Object). file_left (laid o rows) (merge_of o a)) (written-rows s xs z m fit h)
