-- A preview answers and shows what a merge into the link would. Of any cells, and so of the end of any sequence of calls.
-- Assumes nothing.
use Rattle.std.specs.Prelude.{ℕ, ◌≡◌, ◌≢◌, refl, true, false, List, ◌++◌, drop, eqb, length, Err}
use borrow.Author.Tests.{le-ltb}
use Rattle.std.proofs.Math.Seq.{drop-append_seam}
use Rattle.cells.specs.Proof.Split.{by-test}
use Rattle.link.specs.declared.cause.Refusal.{Refusal}
use Rattle.link.specs.Judge.{refused}
use Rattle.merge_stages.specs.Stages.{All, Object}
use Rattle.merge_elf.specs.Merge.{leave, merge_of}
use Rattle.merge_laws.specs.Calls.{Linked, all_in, link_in, merge, call_next}
use Rattle.merge_laws.specs.Past.{TablePast}
use Rattle.merge_laws.specs.Lists.{Listed}
use Rattle.merge_laws.proofs.Terms.{lists-past}
use Rattle.preview.specs.Preview.{is_short, head_of, preview_of}
use Rattle.preview.specs.Proof.Laws as Laws
use Rattle.preview_laws.specs.Shown.{tables_of, previewed, Enough, ShowsLink, SameBehind}

module _ (o : Object) (work ids : List ℕ) (s p : Linked) where
  abbrev cells : All
  cells = all_in p work ids

  -- 22 on a broken link; 1 of the link or of the object
  abbrev pub head : Refusal
  head = Laws.first o (tables_of s) cells

  long-enough : Enough s p → is_short (tables_of s) cells ≡ false
  unfolding is_short
  long-enough e =
      rw (le-ltb _ _ e.bytes, le-ltb _ _ e.names, le-ltb _ _ e.symbols, le-ltb _ _ e.sections, le-ltb _ _ e.inputs, le-ltb _ _ e.lists)

  -- they leave the preview cells
  pub preview-head : head.number ≢ 0 → previewed o work ids s p ≡ leave cells p.table.link (Err head)
  preview-head = Laws.preview-first o (tables_of s) cells

  -- fewer preview cells of some sort than the link was lent: 2 at 0, behind these, and the cells stay
  pub preview-two : head.number ≡ 0 → is_short (tables_of s) cells ≡ true → previewed o work ids s p ≡ leave cells p.table.link (Err (refused 2 0))
  preview-two = Laws.preview-short o (tables_of s) cells

  -- what lies behind the copy stays, whatever the answer: of a link that stays as long in a merge, as each does after any calls
  pub preview-behind : TablePast s.table (call_next (merge o work ids) s).table → SameBehind s p (link_in (previewed o work ids s p).cells)
  unfolding preview_of
  preview-behind long =
      by-test (eqb (head_of o (tables_of s) cells).number 0)
      (λ e.
      rw e
      (record {
        bytes = behind _ _ _ long.bytes-long;
        names = behind _ _ _ long.names-long;
        symbols = behind _ _ _ long.symbols-long;
        sections = behind _ _ _ long.sections-long;
        inputs = behind _ _ _ listed.inputs_long;
        lists = behind _ _ _ listed.lists.long;
      }))
      (λ e. rw e (record { bytes = refl; names = refl; symbols = refl; sections = refl; inputs = refl; lists = refl }))
    where
      behind : (xs ys : List ℕ) (n : ℕ) → length xs ≡ n → drop n (xs ++ ys) ≡ ys
      behind xs ys n e = rw (← e) (drop-append_seam xs ys)

      listed : Listed s.inputs s.lists (all_in s work ids).stage.link (merge_of o (all_in s work ids)).cells.inputs (merge_of o (all_in s work ids)).cells.lists
          (merge_of o (all_in s work ids)).cells.stage.link
      listed = lists-past o (all_in s work ids)

  module _ (e : Enough s p) where
    -- the answer is what the merge into the link would answer, also where that is 22 or 1
    pub preview-answers : (previewed o work ids s p).answer ≡ (merge_of o (all_in s work ids)).answer
    preview-answers = Laws.preview-answer o (tables_of s) cells (long-enough e)

    -- rows and counts are those of the link after that merge
    pub preview-shows : head.number ≡ 0 → ShowsLink (call_next (merge o work ids) s) (link_in (previewed o work ids s p).cells)
    preview-shows z =
        let x = Laws.preview-rows o (tables_of s) cells (long-enough e) z in
        record { bytes = x.bytes; names = x.names; symbols = x.symbols; sections = x.sections; inputs = x.inputs; lists = x.lists; counts = x.link }
