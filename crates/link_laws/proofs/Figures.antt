-- Theorems over specs/Figures.antt: a link after any calls meets what report_laws asks of a title.
-- Assumes nothing.
use Rattle.gc_sections.specs.Run.{dropped}
use Rattle.std.specs.Prelude.{ℕ, ◌+◌, ◌/◌, ◌≤◌, ◌≡◌, refl, List, [], ◌∷◌, ltb, length, Option, Ok}
use Rattle.std.proofs.Common.{arith, sym, ap, ◌∙◌, length-append, ltb-true}
use Rattle.cells.specs.Proof.Split.{by-test}
use Rattle.link.specs.declared.SymbolId.{SymbolId}
use Rattle.link.specs.declared.cause.Refusal.{Refusal}
use Rattle.link.specs.Bounds.{not_lent, lesser, section_rows, section_slots}
use Rattle.link.specs.Judge.{none, judge_of, judge_sections, judge_names, judge_lists}
use Rattle.link.specs.Proof.Ways as Link
use Rattle.archive_index.specs.Archives.{Archives, key_in}
use Rattle.archive_walk.specs.Look.{Table}
use Rattle.archive_walk.specs.Walk.{begun_number, start_of}
use Rattle.archive_laws.specs.Runs.{Run, history, start_run}
use Rattle.archive_laws.specs.PassList.{keys_of}
use Rattle.symbols.specs.Calls.{lent_of}
use Rattle.symbol_laws.specs.History.{State}
use Rattle.symbol_laws.specs.Below.{Below}
use Rattle.symbol_laws.specs.Within.{Within}
use Rattle.symbol_laws.proofs.Within.{Fits}
use Rattle.merge_laws.specs.Steps.{Step}
use Rattle.merge_laws.proofs.More.{makes-slots}
use Rattle.merge_laws.specs.Calls.{Linked}
use Rattle.report_laws.proofs.Terms as Report
use Rattle.link_laws.specs.Calls.{Call, collect, lists_in, call_left, call_next, run_calls}
use Rattle.link_laws.specs.CallSteps.{call_steps}
use Rattle.link_laws.proofs.CallSteps.{Leads, made, cleared}
use Rattle.link_laws.proofs.CallStepsLemmas.{call-leads}
use Rattle.link_laws.proofs.CallPast.{call-past}
use Rattle.link_laws.proofs.Kept.{calls-below}
use Rattle.link_laws.proofs.NeverRemoved.{lesser-most}
use Rattle.link_laws.specs.SectionCount.{Sectioned}
use Rattle.link_laws.proofs.SectionCount.{sections-judged}
use Rattle.link_laws.specs.Figures.{title_of, FiguresAre, NoneLost}

-- ---- the section rows that a link was made with stay lent, by calls that remove too

leads-slots : (s t : State) (ks : List Step) → Leads s ks t → t.link.slots ≡ s.link.slots
leads-slots s t ks (made m) = makes-slots s t ks m
leads-slots s t ks (cleared x e q) = ap (λ (u : State). u.link.slots) q

call-lent : (k : Call) (s : Linked) → Below s.table → Sectioned s.table → Sectioned (call_next k s).table
call-lent k s b c = rw ((call-past s b k).sections-long, leads-slots s.table (call_next k s).table (call_steps k s) (call-leads k s)) c

pub calls-lent : (ks : List Call) (s : Linked) → Below s.table → Sectioned s.table → Sectioned (run_calls ks s).table
calls-lent [] s b c = c
calls-lent (k ∷ ks) s b c = calls-lent ks (call_next k s) (calls-below (k ∷ []) s b) (call-lent k s b c)

-- ---- no count is above what is lent

rows-within : (n : ℕ) → section_rows n ≤ n
unfolding lesser
rows-within n = by-test (ltb 65535 n) (λ a. rw a (omega (arith, ltb-true 65535 n a))) (λ a. rw a (omega arith))

module _ (s : State) (f : Fits s) (w : Within s.link s.names) where
  names-judged : none ≡ judge_names s.link s.link.chains not_lent
  names-judged =
      Link.names-fine s.link s.link.chains not_lent none _ (omega arith) w.names_in
      refl (lesser-most 1048576 not_lent s.link.bytes w.bytes-in (omega (arith, w.bytes-in))) refl

  lists-judged : none ≡ judge_lists s.link not_lent not_lent
  lists-judged =
      Link.lists-fine s.link not_lent not_lent none _ refl (lesser-most 4095 (not_lent / 8) s.link.inputs w.inputs_in (omega (arith, w.inputs_in))) w.lists-in refl

  judged : (slots : ℕ) → none ≡ judge_sections s.link slots → none ≡ judge_of s.link (lent_of s.link.chains (length s.symbols) slots)
  judged slots e =
      Link.over-rest s.link (lent_of s.link.chains (length s.symbols) slots) none none _ none e refl
      refl (lesser-most 65535 (length s.symbols / 8) s.link.symbols f.few (omega (arith, f.room))) names-judged refl lists-judged

  whole : none ≡ judge_of s.link (lent_of s.link.chains (length s.symbols) s.link.slots)
  whole = judged s.link.slots (Link.sections-fine s.link s.link.slots none _ (omega arith) refl w.sections-in refl)

  sound : Sectioned s → none ≡ judge_of s.link (lent_of s.link.chains (length s.symbols) (section_slots (length s.sections)))
  sound c = judged (section_slots (length s.sections)) (sections-judged s w c)

  slots-cover : s.link.sections ≤ s.link.slots
  slots-cover = omega (arith, w.sections-in, rows-within s.link.slots)

-- ---- the figures

keys-long : (keys : ℕ → ℕ) (q : List ℕ) → length (keys_of keys q) ≡ length q
keys-long keys [] = refl
keys-long keys (k ∷ q) = length-append (keys_of keys q) (keys k ∷ []) ∙ omega (arith, keys-long keys q)

number-none : (r : Refusal) → none ≡ r → r.number ≡ 0
number-none r e = ap (λ (x : Refusal). x.number) (sym e)

module _ (s : Linked) (f : Fits s.table) (w : Within s.table.link s.table.names) where
  module _ (c : Sectioned s.table) (key : ℕ) (archives : Archives) (cells : List ℕ) (begun : begun_number (start_of key archives cells).started.begun ≡ 0)
      (ts : List Table) where
    abbrev walk : Run
    walk = history archives ts (start_run key archives cells)

    pub figures-are : FiguresAre s archives ts (start_run key archives cells)
    figures-are =
        record {
          sound = number-none _ (sound s.table f w c);
          symbols = Report.columns-are (title_of s walk) (number-none _ (whole s.table f w));
          members = Report.offered-is key archives cells begun ts (title_of s walk) refl ∙ sym (keys-long (key_in archives) walk.offers);
          passes = Report.passes-are key archives cells begun ts (title_of s walk) refl;
          kept = Report.kept-are (title_of s walk);
          dropped = Report.dropped-are (title_of s walk);
          kept-bytes = Report.kept-bytes-are (title_of s walk);
          dropped-bytes = Report.dropped-bytes-are (title_of s walk);
        }

  -- a collection that isn't refused
  pub none-lost : (marks : List ℕ) (entry : Option SymbolId) (work : List ℕ) (a b : ℕ) → (call_left (collect marks entry work) s).answer ≡ Ok (dropped a b)
      → (walk : Run) → NoneLost (title_of s walk) (title_of (call_next (collect marks entry work) s) walk)
  none-lost marks entry work a b ok walk =
      record {
        sections = Report.sections-kept s.table.link (lists_in s marks) s.table.symbols s.table.sections entry work a b ok (slots-cover s.table f w) walk.walk;
        bytes = Report.bytes-kept s.table.link (lists_in s marks) s.table.symbols s.table.sections entry work a b ok (slots-cover s.table f w) walk.walk;
      }
