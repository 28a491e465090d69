-- Laws of the definitions of SectionCount.antt.
-- Assumes nothing.
use Rattle.std.specs.Prelude.{ℕ, ◌-◌, ◌*◌, ◌≡◌, refl, Bool, List, [], ◌∷◌, ◌++◌, eqb, length, take, replicate}
use Rattle.std.proofs.Common.{arith, ◌∙◌, length-append, length-take-le}
use Rattle.std.proofs.lemmas.List.{length-replicate}
use Rattle.cells.specs.Proof.Split.{by-test}
use Rattle.link.specs.Bounds.{section_slots, symbol_rows}
use Rattle.link.specs.Judge.{none, judge_sections}
use Rattle.link.specs.Proof.Ways as Ways
use Rattle.link.specs.Said.{number_in}
use Rattle.interner.specs.Names.{Store}
use Rattle.interner.specs.Calls as Names
use Rattle.symbols.specs.New.{clear_symbols, null_of, new_of}
use Rattle.symbol_laws.specs.History.{State, Entry, opened}
use Rattle.symbol_laws.specs.Held.{Inv}
use Rattle.symbol_laws.proofs.BelowLemmas.{inv-below}
use Rattle.symbol_laws.specs.Within.{Within}
use Rattle.merge_laws.proofs.More.{makes-slots}
use Rattle.merge_laws.specs.Calls.{Linked}
use Rattle.link_laws.specs.Calls.{Call, call_next, call_notes, run_calls, Removes, RemovesNothing}
use Rattle.link_laws.specs.CallSteps.{call_steps}
use Rattle.link_laws.proofs.CallStepsLemmas.{call-makes}
use Rattle.link_laws.proofs.CallPast.{call-past}
use Rattle.link_laws.proofs.Kept.{call-keep}
use Rattle.link_laws.specs.SectionCount.{Sectioned}

call-sectioned : (k : Call) (s : Linked) (past : List Entry) → (Removes k s → ⊥) → Inv s.table past → Sectioned s.table → Sectioned (call_next k s).table
call-sectioned k s past q i c =
    rw ((call-past s (inv-below s.table past i) k).sections-long, makes-slots s.table (call_next k s).table (call_steps k s) (call-makes k s q)) c

pub calls-sectioned : (ks : List Call) (s : Linked) (past : List Entry) → RemovesNothing ks s → Inv s.table past → Sectioned s.table
    → Sectioned (run_calls ks s).table
calls-sectioned [] s past q i c = c
calls-sectioned (k ∷ ks) s past q i c =
    calls-sectioned ks (call_next k s) (past ++ call_notes k s) q.1 (call-keep k s past q.0 i) (call-sectioned k s past q.0 i c)

-- ---- a new table

cleared-long : (sections : List ℕ) → length (clear_symbols sections) ≡ length sections
unfolding clear_symbols
cleared-long sections =
    let n : ℕ = section_slots (length sections) * 8 in
    length-append (take n sections) (replicate (length sections - n) 0)
    ∙ omega (arith, length-take-le n sections (omega arith), length-replicate {A = ℕ} (length sections - n) 0)

null-sectioned : (gabi : Bool) (symbols sections : List ℕ) (s : Store) → number_in (null_of gabi symbols sections s).said ≡ 0 → Sectioned (opened (null_of gabi symbols sections s))
unfolding null_of
null-sectioned gabi symbols sections s e =
    by-test (eqb s.link.names 0) (λ a. let q : ◌≡◌ {A = ℕ} 2 0 = rw a at e in absurd (omega arith))
    (λ a. rw a (omega (arith, cleared-long sections)))

pub new-sectioned : (key : ℕ) (gabi : Bool) (bytes names symbols sections : List ℕ) → number_in (new_of key gabi bytes names symbols sections).said ≡ 0
    → Sectioned (opened (new_of key gabi bytes names symbols sections))
unfolding new_of
new-sectioned key gabi bytes names symbols sections e =
    by-test (eqb (symbol_rows (length symbols)) 0) (λ a. let q : ◌≡◌ {A = ℕ} 2 0 = rw a at e in absurd (omega arith))
    (λ a. rw a (null-sectioned gabi symbols sections (Names.new_of key bytes names).store (rw a at e)))

-- ---- so the head finds them

pub sections-judged : (s : State) → Within s.link s.names → Sectioned s → none ≡ judge_sections s.link (section_slots (length s.sections))
sections-judged s w c = Ways.sections-fine s.link (section_slots (length s.sections)) none _ c refl w.sections-in refl
