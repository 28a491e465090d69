-- The merge of a file is the merge of its rows where it is read; else it leaves all, the cells for the rows too.
-- Assumes nothing.
use Rattle.std.specs.Prelude.{ℕ, ◌≡◌, refl, Bool, true, false, cond, List, [], ◌∷◌, eqb, ltb, length}
use Rattle.std.proofs.Common.{sym, ap, subst}
use Rattle.cells.specs.Proof.Split.{by-test}
use Rattle.byte_slices.specs.Proof.Ways.{pick}
use Rattle.link.specs.declared.cause.Refusal.{Refusal}
use Rattle.link.specs.Judge.{refused}
use Rattle.elf_file.specs.Check.{is_object, headers_fit, bad_table, file_refusal}
use Rattle.gabi.specs.File.{e_shoff, section_count, header_table}
use Rattle.elf_laws.specs.Object.{rows_of, cells_of, laid}
use Rattle.merge_file.specs.MergeFile.{FileLeft, file_left, unread, file_head_of, merge_file_of}
use Rattle.merge_laws.specs.Steps.{log_steps}
use Rattle.merge_laws.specs.MergeSteps.{merge_steps}
use Rattle.merge_laws.specs.Calls.{Linked, all_in, link_in}
use Rattle.link_laws.specs.Calls.{Call, merge, merge_file, call_left, call_refusal, call_next, call_notes, file_head, is_read}
use Rattle.merge_laws.specs.Table.{one_of, file_head_numbers}

module _ (file cells work ids : List ℕ) (s : Linked) where
  abbrev file_call : Call
  file_call = merge_file file cells work ids

  -- the merge of its rows by hand
  abbrev pub by_hand : Call
  by_hand = merge (rows_of file) work ids

  pub left-read : is_read file cells s ≡ true → call_left file_call s ≡ file_left (laid (rows_of file) cells) (call_left by_hand s)
  unfolding merge_file_of
  left-read t = rw t

  pub left-unread : is_read file cells s ≡ false → call_left file_call s ≡ unread cells (all_in s work ids) (file_head file cells s)
  unfolding merge_file_of
  left-unread t = rw t

  pub next-read : is_read file cells s ≡ true → call_next file_call s ≡ call_next by_hand s
  next-read t = ap (λ (x : FileLeft). link_in x.merged.cells) (left-read t)

  pub next-unread : is_read file cells s ≡ false → call_next file_call s ≡ s
  next-unread t = ap (λ (x : FileLeft). link_in x.merged.cells) (left-unread t)

  pub refusal-read : is_read file cells s ≡ true → call_refusal file_call s ≡ call_refusal by_hand s
  refusal-read t = ap (λ (x : FileLeft). x.merged.said) (left-read t)

  pub refusal-unread : is_read file cells s ≡ false → call_refusal file_call s ≡ file_head file cells s
  refusal-unread t = ap (λ (x : FileLeft). x.merged.said) (left-unread t)

  pub notes-read : is_read file cells s ≡ true → call_notes file_call s ≡ call_notes by_hand s
  notes-read t = ap (λ (b : Bool). log_steps (cond b (merge_steps (rows_of file) (all_in s work ids)) []) s.table) t

  pub notes-unread : is_read file cells s ≡ false → call_notes file_call s ≡ []
  notes-unread t = ap (λ (b : Bool). log_steps (cond b (merge_steps (rows_of file) (all_in s work ids)) []) s.table) t

  -- what holds of the link after the merge by hand, and of the link before it, holds after the merge of the file
  pub by-file : (P : Linked → Type 0) → P (call_next by_hand s) → P s → P (call_next file_call s)
  by-file P p q = by-test (is_read file cells s) (λ t. subst P (sym (next-read t)) p) (λ t. subst P (sym (next-unread t)) q)

-- ---- the refusals of a file that isn't read

-- of an unbroken link: 26, 27 or 2
pub whole-gives : (P : Refusal → Type 0) → P (refused 26 0) → ((i : ℕ) → P (refused 27 i)) → P (refused 2 0) → P (refused 0 0) → (file : List ℕ) (cells : ℕ)
    → P (file_head_of false file cells)
unfolding file_head_of file_refusal
whole-gives P b c d e file cells =
    pick P (eqb (file_refusal file).number 0) _ _ (λ u. pick P (ltb cells (cells_of file)) _ _ (λ v. d) (λ v. e))
    (λ u.
    pick P (is_object file) _ _
    (λ v.
    pick P (headers_fit (length file) (e_shoff file) (section_count file)) _ _
    (λ w.
    pick P (ltb (bad_table (length file) (header_table file) (section_count file)) (section_count file)) _ _ (λ x. c _) (λ x. e))
    (λ w. c 0))
    (λ v. b))

pub head-gives : (P : Refusal → Type 0) → P (refused 22 0) → P (refused 26 0) → ((i : ℕ) → P (refused 27 i)) → P (refused 2 0) → P (refused 0 0)
    → (broken : Bool) (file : List ℕ) (cells : ℕ) → P (file_head_of broken file cells)
unfolding file_head_of
head-gives P a b c d e true file cells = a
head-gives P a b c d e false file cells = whole-gives P b c d e file cells

pub head-numbers : (file cells : List ℕ) (s : Linked) → one_of (file_head file cells s).number (0 ∷ file_head_numbers) ≡ true
head-numbers file cells s =
    head-gives (λ (r : Refusal). one_of r.number (0 ∷ file_head_numbers) ≡ true) refl refl (λ i. refl) refl refl s.table.link.broken file (length cells)
