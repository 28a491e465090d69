-- Of a preview: number and place are those of the first of its rules that holds.
-- Assumes nothing.
use Rattle.std.specs.Prelude.{ℕ, ◌≡◌, refl, Bool, true, false, not, ◌&&◌, List, [], ◌∷◌, ◌++◌, eqb}
use Rattle.std.proofs.Common.{sym, ap, ◌∙◌, eqb-true}
use Rattle.std.proofs.lemmas.Bool.{false≢true, eqb-false}
use mathlib.Core.List.{append_assoc}
use Rattle.cells.specs.Proof.Split.{by-test}
use Rattle.link.specs.declared.cause.Refusal.{Refusal}
use Rattle.link.specs.Judge.{change_of}
use Rattle.merge_stages.specs.Stages.{All, Object}
use Rattle.merge_elf.specs.Merge.{Left, lent, merge_of}
use Rattle.preview.specs.Preview.{is_short}
use Rattle.preview.specs.Proof.Laws as Laws
use Rattle.preview_laws.specs.Shown.{tables_of, previewed}
use Rattle.merge_laws.specs.Marked.{Marked}
use Rattle.merge_laws.specs.Calls.{Linked, all_in}
use Rattle.link_laws.specs.Rules.{Rule, ◌gives◌at◌, first_refusal, numbered}
use Rattle.link_laws.proofs.Rules.{numbered-both, past, headed, head-rules, follows}
use Rattle.link_laws.specs.ObjectRules.{object_rules}
use Rattle.link_laws.proofs.ObjectExactly.{object-exactly, object-numbered}
use Rattle.link_laws.specs.MergeRules.{change_rules, work_rules, stage_list, merge_rules}
use Rattle.link_laws.proofs.MergeWhole.{merge-exactly, merge-numbered}
use Rattle.link_laws.specs.PreviewRules.{lacks_cells, preview_rules}

module _ (o : Object) (work ids : List ℕ) (s p : Linked) where
  abbrev a : All
  a = all_in s work ids

  abbrev cells : All
  cells = all_in p work ids

  abbrev rows : List Rule
  rows = object_rules o.headers o.entries o.contents o.image

  abbrev first_rules : List Rule
  first_rules = change_rules o a ++ rows

  abbrev later : List Rule
  later = work_rules o a ++ stage_list o a

  first-numbered : numbered first_rules ≡ true
  first-numbered = numbered-both (change_rules o a) rows refl (object-numbered o.headers o.entries o.contents o.image)

  first-is : Laws.first o (tables_of s) cells ≡ first_refusal first_rules
  first-is =
      headed rows (λ (r : Refusal). r) (change_rules o a) (change_of a.stage.link (lent a)) _ _ refl (head-rules a.stage.link (lent a)) refl
      (λ e. object-exactly o.headers o.entries o.contents o.image)

  -- the rules of the merge, with those of 22 and 1 together
  merge-list : merge_rules o a ≡ first_rules ++ later
  merge-list =
      ap (λ (xs : List Rule). xs ++ stage_list o a) (sym (append_assoc (change_rules o a) rows (work_rules o a)))
      ∙ append_assoc first_rules (work_rules o a) (stage_list o a)

  pub short : {b : Bool} → lacks_cells s p ≡ b → is_short (tables_of s) cells ≡ b
  unfolding is_short
  short e = e

  module _ (met : List (List ℕ)) (m : Marked s.table met) where
    merged : eqb (Laws.first o (tables_of s) cells).number 0 ≡ true → (merge_of o a).said ≡ first_refusal later
    merged z =
        merge-exactly o a met m ∙ ap first_refusal merge-list
        ∙ past later first_rules first-numbered (ap (λ (r : Refusal). eqb r.number 0) (sym first-is) ∙ z)

    roomed : eqb (Laws.first o (tables_of s) cells).number 0 ≡ true
        → (previewed o work ids s p).said ≡ first_refusal ((lacks_cells s p gives 2 at 0) ∷ later)
    roomed z =
        by-test (lacks_cells s p)
        (λ e. rw e (ap (λ (x : Left). x.said) (Laws.preview-short o (tables_of s) cells (eqb-true _ _ z) (short e))))
        (λ e. rw e (Laws.preview-said o (tables_of s) cells (short e) ∙ merged z))

    pub preview-exactly : (previewed o work ids s p).said ≡ first_refusal (preview_rules o work ids s p)
    preview-exactly =
        follows first_rules ((lacks_cells s p gives 2 at 0) ∷ later) (Laws.first o (tables_of s) cells) (previewed o work ids s p).said first-numbered first-is
        (λ e. ap (λ (x : Left). x.said) (Laws.preview-first o (tables_of s) cells (eqb-false _ _ e)))
        roomed
        ∙ ap first_refusal (append_assoc (change_rules o a) rows ((lacks_cells s p gives 2 at 0) ∷ later))

  numbered-end : (xs ys : List Rule) → numbered (xs ++ ys) ≡ true → numbered ys ≡ true
  numbered-end [] ys n = n
  numbered-end (x ∷ xs) ys n = numbered-end xs ys (both (not (eqb x.number 0)) n)
    where
      both : (c : Bool) → c && numbered (xs ++ ys) ≡ true → numbered (xs ++ ys) ≡ true
      both true e = e
      both false e = absurd (false≢true e)

  pub preview-numbered : numbered (preview_rules o work ids s p) ≡ true
  preview-numbered =
      numbered-both (change_rules o a) (rows ++ ((lacks_cells s p gives 2 at 0) ∷ later)) refl
      (numbered-both rows ((lacks_cells s p gives 2 at 0) ∷ later) (object-numbered o.headers o.entries o.contents o.image)
      (numbered-end first_rules later (ap numbered (sym merge-list) ∙ merge-numbered o a)))
