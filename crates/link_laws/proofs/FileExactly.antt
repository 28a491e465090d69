-- The merge of a file is refused as the first of its rules says: those of the file, then those of the merge of its rows.
-- Assumes nothing.
use Rattle.std.specs.Prelude.{ℕ, ◌+◌, ◌*◌, ◌%◌, ◌≡◌, refl, Bool, true, false, cond, not, ◌&&◌, ◌||◌, List, [], ◌∷◌, ◌++◌, eqb, ltb, length}
use Rattle.std.proofs.Common.{sym, ap, ◌∙◌}
use Rattle.cells.specs.Proof.Split.{by-test}
use Rattle.link.specs.declared.cause.Refusal.{Refusal}
use Rattle.link.specs.Judge.{refused}
use Rattle.gabi.specs.File.{e_magic, elf_magic, e_class, elf_class64, e_data, elf_data2_lsb, e_type, et_rel, e_shoff, section_count, header_table, sht_group}
use Rattle.elf_file.specs.declared.Header.{Header}
use Rattle.elf_file.specs.File.{header_at}
use Rattle.elf_file.specs.Check.{is_object, headers_fit, excluded, entry_size, entries_ok, section_ok, table_ok, bad_table, file_refusal}
use Rattle.elf_laws.specs.Object.{rows_of, cells_of}
use Rattle.merge_file.specs.MergeFile.{file_head_of}
use Rattle.merge_laws.specs.Marked.{Marked}
use Rattle.merge_laws.specs.Calls.{Linked, all_in}
use Rattle.link_laws.specs.Calls.{merge_file, call_refusal, file_head}
use Rattle.link_laws.proofs.FileCall.{refusal-read, refusal-unread}
use Rattle.link_laws.specs.Rules.{◌gives◌at◌, first_refusal, numbered}
use Rattle.link_laws.proofs.Rules.{numbered-both, each-numbered, past, stop, follows}
use Rattle.link_laws.proofs.ObjectExactly.{from_zero}
use Rattle.link_laws.specs.MergeRules.{merge_rules}
use Rattle.link_laws.proofs.MergeWhole.{merge-exactly}
use Rattle.link_laws.specs.FileRules.{is_no_object, is_headers_cut, is_bad_section, is_bad_table, table_rules, file_rules}

five : (a b c d e : Bool) → cond a false (cond b (cond c (cond d (cond e true false) false) false) false) ≡ not (a || (not b || (not c || (not d || not e))))
five true b c d e = refl
five false false c d e = refl
five false true false d e = refl
five false true true false e = refl
five false true true true false = refl
five false true true true true = refl

object-is : (file : List ℕ) → is_object file ≡ not (is_no_object file)
unfolding is_object
object-is file =
    five (ltb (length file) 64) (eqb (e_magic file) elf_magic) (eqb (e_class file) elf_class64) (eqb (e_data file) elf_data2_lsb) (eqb (e_type file) et_rel)

three : (a b c : Bool) → cond a true (cond b false (cond c false true)) ≡ not (not a && (b || c))
three true b c = refl
three false true c = refl
three false false true = refl
three false false false = refl

headers-is : (file : List ℕ) → headers_fit (length file) (e_shoff file) (section_count file) ≡ not (is_headers_cut file)
unfolding headers_fit
headers-is file = three (eqb (e_shoff file) 0) (ltb (length file) (e_shoff file + 64)) (ltb (length file) (e_shoff file + section_count file * 64))

six : (x y p b g z : Bool) → cond x true (cond y true (cond p false (cond b (cond g (cond z false true) true) false)))
    ≡ not (not x && (not y && (p || (not b || (g && z)))))
six true y p b g z = refl
six false true p b g z = refl
six false false true b g z = refl
six false false false false g z = refl
six false false false true false z = refl
six false false false true true true = refl
six false false false true true false = refl

section-is : (len : ℕ) (h : Header) → section_ok len h ≡ not (is_bad_section len h)
unfolding section_ok entries_ok
section-is len h = six (excluded h) (eqb (entry_size h.kind) 0) (ltb len (h.offset + h.size)) (eqb (h.size % entry_size h.kind) 0) (eqb h.kind sht_group) (eqb h.size 0)

tables-are : (file : List ℕ)
    → cond (ltb (bad_table (length file) (header_table file) (section_count file)) (section_count file)) (refused 27 (bad_table (length file) (header_table file) (section_count file))) (refused 0 0)
    ≡ first_refusal (table_rules file)
unfolding bad_table table_ok
tables-are file =
    from_zero (is_bad_table file) (table_ok (length file) (header_table file)) 27 (λ i. section-is (length file) (header_at (header_table file) i)) (section_count file)

tables-numbered : (file : List ℕ) → numbered (table_rules file) ≡ true
tables-numbered file = each-numbered (is_bad_table file) 27 refl (section_count file) 0

-- the refusal of the file alone, with its last rule
tables-last : (file : List ℕ) (short : Bool) (r : Refusal) → r ≡ first_refusal (table_rules file)
    → cond (eqb r.number 0) (cond short (refused 2 0) (refused 0 0)) r ≡ first_refusal (table_rules file ++ ((short gives 2 at 0) ∷ []))
tables-last file short r e =
    by-test (eqb r.number 0)
    (λ a. rw a (sym (past ((short gives 2 at 0) ∷ []) (table_rules file) (tables-numbered file) (ap (λ (q : Refusal). eqb q.number 0) (sym e) ∙ a))))
    (λ a. rw a (e ∙ sym (stop ((short gives 2 at 0) ∷ []) (table_rules file) (ap (λ (q : Refusal). eqb q.number 0) (sym e) ∙ a))))

whole-exactly : (file : List ℕ) (short : Bool)
    → cond (eqb (file_refusal file).number 0) (cond short (refused 2 0) (refused 0 0)) (file_refusal file)
    ≡ first_refusal ((is_no_object file gives 26 at 0) ∷ (is_headers_cut file gives 27 at 0) ∷ (table_rules file ++ ((short gives 2 at 0) ∷ [])))
unfolding file_refusal
whole-exactly file short =
    by-test (is_no_object file)
    (λ a. let o : is_object file ≡ false = object-is file ∙ ap not a in rw (a, o))
    (λ a.
    let o : is_object file ≡ true = object-is file ∙ ap not a in
    by-test (is_headers_cut file)
    (λ b. let f : headers_fit (length file) (e_shoff file) (section_count file) ≡ false = headers-is file ∙ ap not b in rw (a, o, b, f))
    (λ b.
    let f : headers_fit (length file) (e_shoff file) (section_count file) ≡ true = headers-is file ∙ ap not b in
    rw (a, o, b, f) (tables-last file short _ (tables-are file))))

pub head-exactly : (broken : Bool) (file : List ℕ) (cells : ℕ) → file_head_of broken file cells ≡ first_refusal (file_rules broken file cells)
unfolding file_head_of
head-exactly true file cells = refl
head-exactly false file cells = whole-exactly file (ltb cells (cells_of file))

pub file-numbered : (broken : Bool) (file : List ℕ) (cells : ℕ) → numbered (file_rules broken file cells) ≡ true
file-numbered broken file cells = numbered-both (table_rules file) ((ltb cells (cells_of file) gives 2 at 0) ∷ []) (tables-numbered file) refl

pub file-exactly : (file cells work ids : List ℕ) (s : Linked) (met : List (List ℕ)) → Marked s.table met
    → call_refusal (merge_file file cells work ids) s
    ≡ first_refusal (file_rules s.table.link.broken file (length cells) ++ merge_rules (rows_of file) (all_in s work ids))
file-exactly file cells work ids s met m =
    follows (file_rules s.table.link.broken file (length cells)) (merge_rules (rows_of file) (all_in s work ids)) (file_head file cells s)
    (call_refusal (merge_file file cells work ids) s) (file-numbered s.table.link.broken file (length cells))
    (head-exactly s.table.link.broken file (length cells)) (λ a. refusal-unread file cells work ids s a)
    (λ a. refusal-read file cells work ids s a ∙ merge-exactly (rows_of file) (all_in s work ids) met m)
