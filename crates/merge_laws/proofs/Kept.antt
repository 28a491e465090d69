-- Laws of the definitions of Kept.antt.
-- Assumes nothing.
use Rattle.std.specs.Prelude.{ℕ, ◌+◌, ◌*◌, ◌≡◌, refl, List, [], ◌∷◌, ◌++◌, eqb, length}
use Rattle.std.proofs.Common.{arith, sym, ap, ◌∙◌, subst, append-nil, length-set, get_or-set_other, eq-eqb}
use Rattle.cells.specs.Proof.Split.{by-test}
use Rattle.link.specs.Said.{number_in}
use Rattle.symbol.specs.declared.Row.{Row}
use Rattle.symbol_resolution.specs.Holder.{global_at}
use Rattle.symbol_laws.specs.History.{State, Entry, noted, only, rows, Part, issue, put, put_of, part_notes}
use Rattle.symbol_laws.proofs.History.{kept}
use Rattle.symbol_laws.specs.Held.{Inv}
use Rattle.symbol_laws.proofs.Held.{held_kept}
use Rattle.symbol_laws.proofs.Calls.{parts-keep}
use Rattle.merge_laws.specs.Steps.{Step, part, mark, others, step_next, step_notes, run_steps, log_steps, PartGoes, AllGo}
use Rattle.merge_laws.specs.Kept.{part_rows, added_rows}

-- a state with the same names but for marks, the same symbols and the same counts of both
inv-same : (s t : State) (past : List Entry) → Inv s past → t.symbols ≡ s.symbols → t.link.symbols ≡ s.link.symbols
    → t.link.names ≡ s.link.names → t.link.gabi ≡ s.link.gabi → length t.names ≡ length s.names → ((n : ℕ) → global_at t.names n ≡ global_at s.names n) → Inv t past
inv-same s t past i a b c g d e =
    record {
      some = rw b i.some;
      room = rw (a, b) i.room;
      few = rw b i.few;
      names-room = rw (c, d) i.names-room;
      held_by = λ n h.
          held_kept s t n (only n past) (e n) (omega arith) g (λ id r p. (rw a, rw a)) (i.held_by n (omega arith));
      unissued = λ n h. i.unissued n (omega arith);
      once = i.once;
    }

pub step-keep : (k : Step) (s : State) (past : List Entry) → Inv s past → Inv (step_next k s) (past ++ step_notes k s)
step-keep (part p) s past i =
    subst (λ (l : List Entry). Inv (step_next (part p) s) (past ++ l)) (append-nil (part_notes p s)) (parts-keep (p ∷ []) s past i)
step-keep (mark n) s past i =
    subst (Inv (step_next (mark n) s)) (sym (append-nil past))
    (inv-same s (step_next (mark n) s) past i refl refl refl refl (length-set s.names (n * 8 + 4) 1)
    (λ m. get_or-set_other s.names (n * 8 + 4) (m * 8 + 3) 1 0 (λ e. omega arith)))
step-keep (others x l) s past i =
    subst (Inv (step_next (others x l) s)) (sym (append-nil past)) (inv-same s (step_next (others x l) s) past i refl refl refl refl refl (λ m. refl))

pub steps-keep : (ks : List Step) (s : State) (past : List Entry) → Inv s past → Inv (run_steps ks s) (past ++ log_steps ks s)
steps-keep = kept step_next step_notes Inv step-keep

rows_append : (a b : List Entry) → rows (a ++ b) ≡ rows a ++ rows b
rows_append [] b = refl
rows_append (x ∷ a) b = ap (◌∷◌ x.row) (rows_append a b)

part-rows : (p : Part) (s : State) → PartGoes p s → rows (part_notes p s) ≡ part_rows p
unfolding noted
part-rows (issue x) s g = refl
part-rows (put r from) s g =
    by-test (eqb r.scope 0) (λ t. rw t) (λ t. rw (t, eq-eqb (number_in (put_of s r).said) 0 g))

pub log-rows : (ks : List Step) (s : State) → AllGo ks s → rows (log_steps ks s) ≡ added_rows ks
log-rows [] s g = refl
log-rows (part p ∷ ks) s g =
    rows_append (part_notes p s) (log_steps ks (step_next (part p) s))
    ∙ ap (λ (l : List Row). l ++ rows (log_steps ks (step_next (part p) s))) (part-rows p s g.0)
    ∙ ap (◌++◌ (part_rows p)) (log-rows ks (step_next (part p) s) g.1)
log-rows (mark n ∷ ks) s g = log-rows ks (step_next (mark n) s) g.1
log-rows (others x l ∷ ks) s g = log-rows ks (step_next (others x l) s) g.1
