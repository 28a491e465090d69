-- The name of a symbol's row, by its bytes: in the link that a merge leaves, refused or not, the id under which a symbol was added has the bytes of the symbol's name.
-- Assumes nothing.
use Rattle.std.specs.Prelude.{ℕ, suc, true, false, List, [], ◌∷◌, ◌++◌, length}
use Rattle.std.proofs.Common.{arith, zero-add, sym, ap, ◌∙◌, subst, le-ltb}
use Rattle.std.proofs.Math.Path.{◌≡◌, refl}
use Rattle.cells.specs.Proof.Split.{by-test}
use Rattle.link.specs.Said.{number_in}
use Rattle.interner.specs.Names.{fits_of}
use Rattle.interner_laws.specs.Good.{Issued, find}
use Rattle.symbol.specs.declared.Row.{Row}
use Rattle.symbol_resolution.specs.Decision.{Decision}
use Rattle.symbol_resolution.specs.Decide.{refusal_of}
use Rattle.symbols.specs.Add.{committed_of, add_row_of}
use Rattle.upcoming_symbol.specs.Upcoming.{elf_row_of}
use Rattle.merge_symbols.specs.Plan.{input_of, rule_of, judged_of, rowed_of, read_of, planned_of}
use Rattle.merge_symbols.specs.Stage as Symbols
use Rattle.merge_stages.specs.Stages.{All, Object, symbols_in}
use Rattle.merge_elf.specs.Merge.{merge_of}
use Rattle.symbol_laws.proofs.View.{decided}
use Rattle.symbol_laws.specs.History.{State, table, store, issue, put, object, put_of, id_of, part_next}
use Rattle.merge_laws.specs.Steps.{Step, part, run_steps, Makes}
use Rattle.merge_laws.proofs.Loop.{loop, loop-next}
use Rattle.merge_laws.specs.MergeSteps.{symbol_first, adds, row_steps, named_steps, symbol_steps, merge_steps}
use Rattle.merge_laws.specs.Marked.{Marked, marks_of}
use Rattle.merge_laws.proofs.MarkedLemmas.{steps-marked}
use Rattle.merge_laws.specs.SymbolIds.{is_dropped, name_of, plan_of}
use Rattle.merge_laws.proofs.SymbolIds.{commit-number}
use Rattle.merge_laws.specs.SymbolStage as SymbolStage
use Rattle.merge_laws.specs.SymbolStage.{number_of}
use Rattle.merge_laws.proofs.SymbolStage.{plan-decides}
use Rattle.merge_laws.proofs.SymbolStageLemmas.{symbol-makes, symbols-loop}
use Rattle.merge_laws.specs.SymbolDuplicates.{steps_to, row_to, Comes}
use Rattle.merge_laws.proofs.SymbolDuplicates.{table_to, steps-make, Begins, steps-begin-to}
use Rattle.merge_laws.specs.Whole.{table_in}
use Rattle.merge_laws.proofs.Whole.{merge-makes}
use Rattle.merge_laws.specs.Stops.{marked, symbol_reader, symbols_to}
use Rattle.merge_laws.proofs.NamesOn.{rest-makes, issued-on}

module _ (o : Object) (a : All) (met : List (List ℕ)) (known : Marked (table_in a) met) (i : ℕ) (comes : Comes o a i) where
  abbrev reader : Symbols.Object
  reader = symbol_reader o a

  module _ (fine : (Symbols.symbol_of reader (symbols_to o a i) i).stage.number ≡ 0) (keeps : is_dropped reader (symbols_to o a i) i ≡ false) (found : (name_of reader i).found ≡ true)
      (added : adds (input_of reader.entries reader.work) (name_of reader i).name i ≡ true) where
    abbrev x : List ℕ
    x = (name_of reader i).name

    abbrev before : State
    before = table_to o a i

    abbrev r : Row
    r = row_to o a i

    pub decision : refusal_of (plan_of reader (symbols_to o a i) i).decision ≡ 0
    unfolding Symbols.symbol_of Symbols.looked_of
    decision = commit-number (input_of reader.entries reader.work) (symbols_to o a i) x i (rw (keeps, found) at fine)

    pub decided-zero : refusal_of (decided (table (part_next (issue x) before)) r) ≡ 0
    decided-zero =
        ap (λ (d : Decision). refusal_of d) (plan-decides (input_of reader.entries reader.work) (symbols_to o a i) x i added decision) ∙ decision

    its-steps : symbol_steps reader (symbols_to o a i) i ≡ part (issue x) ∷ part (put r object) ∷ []
    unfolding symbol_steps named_steps row_steps
    its-steps = rw (keeps, found, decision, added)

    -- the state behind the symbol: its name issued, its row added
    abbrev pub then : State
    then = part_next (put r object) (part_next (issue x) before)

    next-is : symbols_to o a (suc i) ≡ Symbols.symbol_of reader (symbols_to o a i) i
    next-is =
        let first : Symbols.State = symbol_first (symbols_in (marked o a)) in
        let next : Symbols.State → ℕ → Symbols.State = Symbols.symbol_of reader in
        let e = symbols-loop reader i 0 first in
        let z : number_of (loop number_of next i 0 first) ≡ 0 = ap number_of (sym e) ∙ comes.going in
        symbols-loop reader (suc i) 0 first ∙ loop-next number_of next i 0 first z ∙ ap (next (loop number_of next i 0 first)) (zero-add i) ∙ ap (λ (t : Symbols.State). next t i) (sym e)

    pub leads-then : table_to o a (suc i) ≡ then
    leads-then =
        ap SymbolStage.table_in next-is ∙ sym (symbol-makes reader (symbols_to o a i) i).leads ∙ ap (λ (l : List Step). run_steps l before) its-steps

    pub begins : Begins o a (suc i)
    begins =
        steps-begin-to o a (suc i) comes.head comes.sections comes.groups (le-ltb _ _ comes.filter) (omega (arith, comes.below))
        (ap number_of next-is ∙ fine)

    -- the merge's further steps
    pub on-makes : Makes then begins.rest (table_in (merge_of o a).cells)
    on-makes =
        rest-makes (table_in a) then (table_in (merge_of o a).cells) (steps_to o a (suc i)) (merge_steps o a) begins.rest
        (subst (Makes (table_in a) (steps_to o a (suc i))) leads-then (steps-make o a (suc i))) begins.is (merge-makes o a)

    pub fits : fits_of (store before) (id_of before x) (length x) ≡ true
    unfolding planned_of read_of rowed_of judged_of rule_of elf_row_of
    fits = by-test (fits_of (store before) (id_of before x) (length x)) (λ t. t) (λ t. let z : ◌≡◌ {A = ℕ} 2 0 = rw t at decision in absurd (omega arith))

    pub own-id : r.name.0 ≡ find (store before) x
    unfolding planned_of read_of rowed_of elf_row_of
    own-id = refl

    pub put-goes : number_in (put_of (part_next (issue x) before) r).said ≡ 0
    unfolding add_row_of committed_of
    put-goes = rw decided-zero

    before-marked : Marked before (met ++ marks_of (steps_to o a i) (table_in a))
    before-marked =
        let m = steps-make o a i in
        subst (λ (t : State). Marked t (met ++ marks_of (steps_to o a i) (table_in a))) m.leads (steps-marked (steps_to o a i) (table_in a) met m.accepted known)

    pub row_named : Issued (store (table_in (merge_of o a).cells)) r.name.0 x
    row_named = issued-on before _ before-marked x r object fits own-id put-goes begins.rest (table_in (merge_of o a).cells) on-makes
