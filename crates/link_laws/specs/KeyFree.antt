-- Links that are the same but for the key of the hash and its chains, and answers that are the same on both: all that a caller sees of a call beside the names' rows.
-- Assumes nothing.
use Rattle.std.specs.Prelude.{ℕ, ◌≡◌}
use mathlib.Core.List.{List, [], ◌∷◌}
use Rattle.link.specs.declared.cause.Refusal.{Refusal}
use Rattle.link.specs.Said.{Said}
use Rattle.gc_sections.specs.Run as Collection
use Rattle.symbol_laws.specs.History.{store}
use Rattle.merge_laws.specs.Calls.{Linked, linked}
use Rattle.key_laws.specs.Rekeyed.{keyed, Rekeyed}
use Rattle.key_laws.specs.SectionNames.{Named}
use Rattle.link_laws.specs.Read.{ReadLeft}
use Rattle.link_laws.specs.Calls.{Call, intern, add, remove, add_group, merge, merge_file, load, collect, plain_collect, LeftBy, call_left, call_refusal, call_next, reads, add_list}

-- s with the cells n of names, under the key k
abbrev pub link_under : ℕ → List ℕ → Linked → Linked
link_under k n s =
    linked (record { bytes = s.table.bytes; names = n; symbols = s.table.symbols; sections = s.table.sections; link = keyed k s.table.link })
    s.inputs s.lists

-- t is s under the key k: bytes, symbols, sections, inputs, lists and every count are the same; of the names, Rekeyed says which cells are
pub record Alike (k : ℕ) (s t : Linked) : Type 0 where
  pub names : List ℕ
  pub is : t ≡ link_under k names s
  pub rows : Rekeyed k (store s.table) names
  -- no section's name is looked for behind the names' rows
  pub named : Named s.table.link s.table.sections

-- number, place and value; and the cells that a call is lent beside the link's own
abbrev pub AnswerBy : Call → Type 0
AnswerBy (intern x) = Said
AnswerBy (reads k) = ReadLeft k
AnswerBy (add conversion u) = Said
AnswerBy (add_list conversion adds ids) = List ℕ × Refusal × ℕ
AnswerBy (remove id) = Said
AnswerBy (add_group o work n) = List ℕ × Refusal
AnswerBy (merge o work ids) = List ℕ × List ℕ × Refusal
AnswerBy (merge_file file cells work ids) = List ℕ × List ℕ × List ℕ × Refusal
AnswerBy (load o marks) = List ℕ × Said
AnswerBy (collect marks entry work) = List ℕ × Collection.Said
AnswerBy (plain_collect marks entry work) = List ℕ × Collection.Said

abbrev pub answer_in : (k : Call) → LeftBy k → AnswerBy k
answer_in (intern x) o = o.said
answer_in (reads k) o = o
answer_in (add conversion u) o = o.said
answer_in (add_list conversion adds ids) o = (o.ids, o.refusal, o.position)
answer_in (remove id) o = o.said
answer_in (add_group o work n) x = (x.work, x.said)
answer_in (merge o work ids) x = (x.cells.work, x.cells.ids, x.said)
answer_in (merge_file file cells work ids) x = (x.rows, x.merged.cells.work, x.merged.cells.ids, x.merged.said)
answer_in (load o marks) x = (x.cells.marks, x.said)
answer_in (collect marks entry work) o = (o.work, o.said)
answer_in (plain_collect marks entry work) o = (o.work, o.said)

abbrev pub call_answer : (k : Call) → Linked → AnswerBy k
call_answer k s = answer_in k (call_left k s)

-- one call on both links: it answers the same, and leaves them alike
pub record Same (key : ℕ) (k : Call) (s t : Linked) : Type 0 where
  pub answer : call_answer k t ≡ call_answer k s
  pub refusal : call_refusal k t ≡ call_refusal k s
  pub next : Alike key (call_next k s) (call_next k t)

-- every answer of a history is the same on both links
abbrev pub SameAnswers : List Call → Linked → Linked → Type 0
SameAnswers [] s t = Unit {0}
SameAnswers (k ∷ ks) s t = (call_answer k t ≡ call_answer k s) × (call_refusal k t ≡ call_refusal k s) × SameAnswers ks (call_next k s) (call_next k t)
