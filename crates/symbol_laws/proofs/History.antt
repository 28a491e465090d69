-- Theorems over specs/History.antt.
-- Assumes nothing.
use Rattle.std.specs.Prelude.{◌≡◌, refl, List, [], ◌∷◌, ◌++◌}
use Rattle.std.proofs.Common.{sym, ap, ◌∙◌, subst, append_assoc, append-nil}
use Rattle.symbol_laws.specs.History.{Entry}
use Rattle.symbol_laws.specs.History as Base

-- ---- histories, over any calls and states

module _ {S C : Type 0} (next : C → S → S) (notes : C → S → List Entry) where
  abbrev run : List C → S → S
  run = Base.run {S = S} {C = C} next notes

  abbrev log : List C → S → List Entry
  log = Base.log {S = S} {C = C} next notes

  pub run-append : (ks ls : List C) (s : S) → run (ks ++ ls) s ≡ run ls (run ks s)
  run-append [] ls s = refl
  run-append (k ∷ ks) ls s = run-append ks ls (next k s)

  pub log-append : (ks ls : List C) (s : S) → log (ks ++ ls) s ≡ log ks s ++ log ls (run ks s)
  log-append [] ls s = refl
  log-append (k ∷ ks) ls s = ap (◌++◌ (notes k s)) (log-append ks ls (next k s)) ∙ sym (append_assoc (notes k s) (log ks (next k s)) (log ls (run ks (next k s))))

  -- what each call keeps of a state and its past, every history keeps
  pub kept : (Inv : S → List Entry → Type 0) → ((k : C) (s : S) (past : List Entry) → Inv s past → Inv (next k s) (past ++ notes k s))
      → (ks : List C) (s : S) (past : List Entry) → Inv s past → Inv (run ks s) (past ++ log ks s)
  kept Inv step [] s past i = subst (Inv s) (sym (append-nil past)) i
  kept Inv step (k ∷ ks) s past i =
      subst (Inv (run ks (next k s))) (append_assoc past (notes k s) (log ks (next k s)))
      (kept Inv step ks (next k s) (past ++ notes k s) (step k s past i))
