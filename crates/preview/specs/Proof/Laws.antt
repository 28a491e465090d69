-- What a preview answers and writes, by its cases, for any cells.
-- Assumes nothing.
use Rattle.std.specs.Prelude.{◌≡◌, ◌≢◌, refl, Bool, true, false, cond, take, eqb, length, Err}
use Rattle.std.proofs.Common.{sym, ap, ◌∙◌, eq-eqb}
use borrow.Author.Tests.{ne_eqb}
use Rattle.std.proofs.Math.Seq.{take-append_seam}
use Rattle.cells.specs.Proof.Split.{by-test}
use Rattle.link.specs.declared.cause.Refusal.{Refusal}
use Rattle.link.specs.Judge as Link
use Rattle.elf_object.specs.Judge as Elf
use Rattle.merge_stages.specs.Stages.{All, Object}
use Rattle.merge_elf.specs.Merge.{leave, rows_refusal, check_of, head_in, finished_of, merge_of}
use Rattle.preview.specs.Preview.{Tables, copy_of, is_short, room_refusal, lent, judged_of, head_of, preview_of}

-- the tables that a preview leaves, in front of what lay behind: those of x
pub record Shows (x after : All) : Type 0 where
  pub bytes : take (length x.bytes) after.bytes ≡ x.bytes
  pub names : take (length x.names) after.names ≡ x.names
  pub symbols : take (length x.symbols) after.symbols ≡ x.symbols
  pub sections : take (length x.sections) after.sections ≡ x.sections
  pub inputs : take (length x.inputs) after.inputs ≡ x.inputs
  pub lists : take (length x.lists) after.lists ≡ x.lists
  pub work : after.work ≡ x.work
  pub ids : after.ids ≡ x.ids
  pub link : after.stage.link ≡ x.stage.link

-- what a merge says is its answer's refusal
merge-said : (o : Object) (a : All) → (merge_of o a).said ≡ Link.refusal_in (merge_of o a).answer
unfolding merge_of finished_of
merge-said o a = by-test (eqb (head_in o a).number 0) (λ e. rw e) (λ e. rw e)

module _ (o : Object) (t : Tables) (p : All) where
  -- 22, or 1 of the link or the object
  abbrev pub first : Refusal
  first =
      cond (eqb (Link.change_of t.link (lent t)).number 0) (Elf.judge_of o.headers o.entries (length o.contents) (length o.image))
      (Link.change_of t.link (lent t))

  -- 22 and 1 leave the preview cells
  pub preview-first : first.number ≢ 0 → preview_of o t p ≡ leave p p.stage.link (Err first)
  unfolding preview_of head_of judged_of
  preview-first h =
      by-test (eqb (Link.change_of t.link (lent t)).number 0)
      (λ a.
      let k : eqb (Elf.judge_of o.headers o.entries (length o.contents) (length o.image)).number 0 ≡ false = ne_eqb _ _ (rw a at h) in
      rw (a, k, k))
      (λ a. rw (a, a))

  -- then 2 at 0 where the cells are too few, and they stay
  pub preview-short : first.number ≡ 0 → is_short t p ≡ true → preview_of o t p ≡ leave p p.stage.link (Err (Link.refused 2 0))
  unfolding preview_of head_of judged_of room_refusal
  preview-short z e =
      by-test (eqb (Link.change_of t.link (lent t)).number 0)
      (λ a.
      let k : eqb (Elf.judge_of o.headers o.entries (length o.contents) (length o.image)).number 0 ≡ true = eq-eqb _ _ (rw a at z) in
      rw (a, k, e))
      (λ a. absurd (let f : ◌≡◌ {A = Bool} false true = sym a ∙ eq-eqb _ _ (rw a at z) in cc))

  said-is : (preview_of o t p).said ≡ Link.refusal_in (preview_of o t p).answer
  unfolding preview_of
  said-is = by-test (eqb (head_of o t p).number 0) (λ a. rw a) (λ a. rw a)

  module _ (e : is_short t p ≡ false) where
    -- the answer is that of the merge into the copy, 22 and 1 too
    pub preview-answer : (preview_of o t p).answer ≡ (merge_of o (copy_of t p)).answer
    unfolding preview_of head_of judged_of room_refusal merge_of check_of rows_refusal
    preview-answer =
        by-test (eqb (Link.change_of t.link (lent t)).number 0)
        (λ a.
        by-test (eqb (Elf.judge_of o.headers o.entries (length o.contents) (length o.image)).number 0) (λ b. rw (a, b, e) refl) (λ b. rw (a, b, b) refl))
        (λ a. rw (a, a) refl)

    -- the same, by number and place
    pub preview-said : (preview_of o t p).said ≡ (merge_of o (copy_of t p)).said
    preview-said = said-is ∙ ap Link.refusal_in preview-answer ∙ sym (merge-said o (copy_of t p))

    -- the rows of every sort are, and the counts
    pub preview-rows : first.number ≡ 0 → Shows (merge_of o (copy_of t p)).cells (preview_of o t p).cells
    unfolding preview_of head_of judged_of room_refusal
    preview-rows z =
        by-test (eqb (Link.change_of t.link (lent t)).number 0)
        (λ a.
        let k : eqb (Elf.judge_of o.headers o.entries (length o.contents) (length o.image)).number 0 ≡ true = eq-eqb _ _ (rw a at z) in
        rw (a, k, e)
        (record {
          bytes = take-append_seam _ _;
          names = take-append_seam _ _;
          symbols = take-append_seam _ _;
          sections = take-append_seam _ _;
          inputs = take-append_seam _ _;
          lists = take-append_seam _ _;
          work = refl;
          ids = refl;
          link = refl;
        }))
        (λ a. absurd (let f : ◌≡◌ {A = Bool} false true = sym a ∙ eq-eqb _ _ (rw a at z) in cc))
