-- Names are never moved by the steps of a call: an id once given stands for its bytes.
-- Assumes nothing.
use Rattle.std.specs.Prelude.{ℕ, ◌+◌, ◌*◌, ◌<◌, ◌≡◌, refl, true, List, [], ◌∷◌, ◌++◌, eqb, get_or, length, None}
use Rattle.std.proofs.Common.{arith, le_refl, sym, ap, ◌∙◌, subst, get_or-set_other}
use Rattle.link.specs.Said.{number_in}
use Rattle.interner.specs.Names.{fits_of}
use Rattle.cells.specs.Proof.Split.{by-test}
use Rattle.byte_slices.specs.Bytes as Bytes
use Rattle.interner_laws.specs.Good.{Good, Issued, Stays, count, name, find}
use Rattle.interner_laws.proofs.Histories.{stays-none, stays-both, issued-stays}
use Rattle.interner_laws.proofs.Interns.{keep-stays, keep-issued}
use Rattle.symbol.specs.declared.Row.{Row}
use Rattle.symbol_resolution.specs.Decision.{Decision}
use Rattle.symbol_resolution.specs.Apply.{Table, note_name, append_of, apply_of}
use Rattle.symbol_resolution.specs.Proof.Outcomes.{row_written, decision-left}
use Rattle.symbols.specs.Add.{add_row_of, decided_of}
use Rattle.symbols.specs.Proof.AddOutcomes.{added-left}
use Rattle.symbol_laws.specs.History.{State, Source, table, store, issue, put, put_of, id_of, part_next}
use Rattle.symbol_laws.proofs.History.{run-append}
use Rattle.merge_laws.specs.Steps.{Step, part, mark, others, step_next, step_notes, run_steps, AllGo, Makes}
use Rattle.merge_laws.specs.Marked.{marks_of, Marked}
use Rattle.merge_laws.proofs.MarkedLemmas.{steps-marked}

-- ---- a step leaves where issued names lie

-- rows of names whose first two cells stay
record Lies (s t : State) : Type 0 where
  bytes : t.bytes ≡ s.bytes
  cells : (i f : ℕ) → f < 2 → get_or t.names (i * 8 + f) 0 ≡ get_or s.names (i * 8 + f) 0
  counted : t.link.names ≡ s.link.names

lies-stays : (s t : State) → Lies s t → Stays (store s) (store t)
lies-stays s t l =
    record {
      grows = rw l.counted (le_refl _);
      olds = λ i h.
          ap (λ (n : ℕ). Bytes.part t.bytes n (get_or t.names (i * 8 + 1) 0)) (l.cells i 0 (omega arith))
          ∙ ap (Bytes.part t.bytes (get_or s.names (i * 8 + 0) 0)) (l.cells i 1 (omega arith))
          ∙ ap (λ (b : List ℕ). Bytes.part b (get_or s.names (i * 8 + 0) 0) (get_or s.names (i * 8 + 1) 0)) l.bytes;
    }

record RowLies (t u : Table) : Type 0 where
  cells : (i f : ℕ) → f < 2 → get_or u.names (i * 8 + f) 0 ≡ get_or t.names (i * 8 + f) 0
  counted : u.link.names ≡ t.link.names

row_same : (t u : Table) → u.names ≡ t.names → u.link.names ≡ t.link.names → RowLies t u
row_same t u e c = record { cells = λ i f h. ap (λ (n : List ℕ). get_or n (i * 8 + f) 0) e; counted = c }

applied-lies : (t : Table) (r : Row) (d : Decision) → RowLies t (apply_of t r d)
unfolding append_of note_name
applied-lies t r d =
    decision-left (RowLies t) t r (row_same t t refl refl)
    (record {
      cells = λ i f h.
          by-test (eqb r.scope 0) (λ a. rw a)
          (λ a. rw a (get_or-set_other t.names (r.name.0 * 8 + 3) (i * 8 + f) t.link.symbols 0 (λ e. omega arith)));
      counted = refl;
    })
    (λ id x. row_same t (row_written t id x) refl refl) d

put-lies : (t : Table) (r : Row) → RowLies t (add_row_of t r None).table
put-lies t r = added-left t r None (RowLies t) (row_same t t refl refl) (applied-lies t r (decided_of t r None))

step_stays : (k : Step) (s : State) → Good (store s) → Stays (store s) (store (step_next k s))
step_stays (part (issue x)) s g = keep-stays (store s) x g (id_of s x)
step_stays (part (put r from)) s g =
    let l = put-lies (table s) r in
    lies-stays s (part_next (put r from) s) (record { bytes = refl; cells = l.cells; counted = l.counted })
step_stays (mark n) s g =
    lies-stays s (step_next (mark n) s)
    (record { bytes = refl; cells = λ i f h. get_or-set_other s.names (n * 8 + 4) (i * 8 + f) 1 0 (λ e. omega arith); counted = refl })
step_stays (others x l) s g = lies-stays s (step_next (others x l) s) (record { bytes = refl; cells = λ i f h. refl; counted = refl })

pub steps-stay : (ks : List Step) (s : State) (met : List (List ℕ)) → AllGo ks s → Marked s met → Stays (store s) (store (run_steps ks s))
steps-stay [] s met g m = stays-none count name (store s)
steps-stay (k ∷ ks) s met g m =
    stays-both count name (store s) (store (step_next k s)) (store (run_steps ks (step_next k s))) (step_stays k s m.good)
    (steps-stay ks (step_next k s) (met ++ marks_of (k ∷ []) s) g.1 (steps-marked (k ∷ []) s met (g.0, tt) m))

-- ---- a name issued, a row added under it, and further steps: the row's name has those bytes

go-behind : (ks ls : List Step) (s : State) → AllGo (ks ++ ls) s → AllGo ls (run_steps ks s)
go-behind [] ls s g = g
go-behind (k ∷ ks) ls s g = go-behind ks ls (step_next k s) g.1

pub rest-makes : (s t u : State) (ks ls rest : List Step) → Makes s ks t → ls ≡ ks ++ rest → Makes s ls u → Makes t rest u
rest-makes s t u ks ls rest a e b =
    record {
      leads = ap (run_steps rest) (sym a.leads) ∙ sym (run-append step_next step_notes ks rest s) ∙ ap (λ (l : List Step). run_steps l s) (sym e) ∙ b.leads;
      accepted = subst (AllGo rest) a.leads (go-behind ks rest s (subst (λ (l : List Step). AllGo l s) e b.accepted));
    }

module _ (s : State) (met : List (List ℕ)) (m : Marked s met) (x : List ℕ) (r : Row) (from : Source) where
  abbrev pub issued_row : List Step
  issued_row = part (issue x) ∷ part (put r from) ∷ []

  pub issued-on : fits_of (store s) (id_of s x) (length x) ≡ true → r.name.0 ≡ find (store s) x → number_in (put_of (part_next (issue x) s) r).said ≡ 0
      → (rest : List Step) (u : State) → Makes (run_steps issued_row s) rest u → Issued (store u) r.name.0 x
  issued-on fits e goes rest u k =
      let named : State = part_next (issue x) s in
      rw e
      (issued-stays count name (store named) (store u) (find (store s) x) x
      (subst (λ (u : State). Stays (store named) (store u)) k.leads
      (steps-stay (part (put r from) ∷ rest) named _ (goes, k.accepted) (steps-marked (part (issue x) ∷ []) s met (fits, tt) m)))
      (keep-issued (store s) x m.good fits))

go-front : (ks ls : List Step) (s : State) → AllGo (ks ++ ls) s → AllGo ks s
go-front [] ls s g = tt
go-front (k ∷ ks) ls s g = (g.0, go-front ks ls (step_next k s) g.1)

-- the same among the steps of a call
pub issued-in : (s u : State) (met : List (List ℕ)) → Marked s met → (ks all rest : List Step) (x : List ℕ) (r : Row) (from : Source)
    → all ≡ ks ++ (part (issue x) ∷ part (put r from) ∷ rest) → Makes s all u → r.name.0 ≡ find (store (run_steps ks s)) x → Issued (store u) r.name.0 x
issued-in s u met m ks all rest x r from e k name =
    let ls : List Step = part (issue x) ∷ part (put r from) ∷ rest in
    let g : AllGo (ks ++ ls) s = subst (λ (l : List Step). AllGo l s) e k.accepted in
    let b = go-behind ks ls s g in
    issued-on (run_steps ks s) _ (steps-marked ks s met (go-front ks ls s g) m) x r from b.0 name b.1.0 rest u
    (record {
      leads = sym (run-append step_next step_notes ks ls s) ∙ ap (λ (l : List Step). run_steps l s) (sym e) ∙ k.leads;
      accepted = b.1.1;
    })
