-- A name that a pass finds undefined, by the accepted adds of that name.
-- Assumes nothing.
use Rattle.std.specs.Prelude.{ℕ, ◌≡◌, Bool, false, ◌||◌, List, [], ◌∷◌, eqb}
use Rattle.std.proofs.Math.Path.{refl, ap}
use Rattle.std.proofs.Common.{sym, ◌∙◌}
use Rattle.gabi.specs.SymbolTable.{Sym}
use Rattle.gabi.specs.Resolution as Resolution
use Rattle.gabi.specs.Resolution.{has}
use Rattle.gabi.specs.Archive.{is_unresolved, wants}
use Rattle.symbol.specs.declared.Words.{Words}
use Rattle.interner_laws.specs.Good.{find}
use Rattle.archive_walk.specs.Look.{is_undefined, name_holder, undefined_name}
use Rattle.symbol_laws.proofs.Standing.{joined-stays}
use Rattle.symbol_laws.specs.Rank.{first_by_rank}
use Rattle.symbol.specs.Row.{row_at}
use Rattle.symbol_laws.specs.History.{State, store, Entry, only, rows}
use Rattle.symbol_laws.specs.Held.{Inv}
use Rattle.symbol_laws.proofs.Demand.{content-apart, resolved, holder_known, holder-none}
use Rattle.symbol_laws.specs.Gabi.{AllMean, syms_of}
use Rattle.symbol_laws.proofs.Gabi.{all-mean-own}
use Rattle.symbol_laws.proofs.Agreement as AgreementLaws
use Rattle.extraction_laws.specs.Wanted.{weak_only}
use Rattle.extraction_laws.proofs.Wanted.{row-undefined}
use Rattle.link_laws.specs.Calls.{view_in}
use Rattle.link_laws.specs.Undefined.{is_undefined_row, symbols_under, weak_references}

module _ (s : State) (past : List Entry) (inv : Inv s past) (b : List ℕ) where
  -- whether a row is undefined is no matter of hidden
  content : (x : Entry) (xs : List Entry) → only (find (store s) b) past ≡ x ∷ xs → is_undefined_row (row_at s.symbols x.id) ≡ is_undefined_row (first_by_rank s.link.gabi x.row (rows xs))
  content x xs e =
      ap (λ (w : Words). eqb w.kind 7) (content-apart s (find (store s) b) x xs s.link.gabi (resolved s past inv (find (store s) b) x xs e)).value
      ∙ joined-stays Bool is_undefined_row (λ r s a. refl) (rows (x ∷ xs)) (first_by_rank s.link.gabi x.row (rows xs))

  pub undefined-name : (x : Entry) (xs : List Entry) → only (find (store s) b) past ≡ x ∷ xs
      → undefined_name (view_in s) b ≡ is_undefined_row (first_by_rank s.link.gabi x.row (rows xs))
  unfolding undefined_name name_holder
  undefined-name x xs e =
      ap (is_undefined s.symbols) (holder_known s past inv (find (store s) b) x xs e)
      ∙ content x xs e

  pub undefined-none : only (find (store s) b) past ≡ [] → undefined_name (view_in s) b ≡ false
  unfolding undefined_name name_holder
  undefined-none e = ap (is_undefined s.symbols) (holder-none s past inv (find (store s) b) e)

  -- ---- in the gABI's terms

  pub undefined-wanted : (x : Entry) (xs : List Entry) → only (find (store s) b) past ≡ x ∷ xs → (g : Sym) (gs : List Sym) → AllMean (rows (x ∷ xs)) (g ∷ gs)
      → undefined_name (view_in s) b ≡ wants (g ∷ gs) || weak_only (g ∷ gs)
  unfolding undefined_name name_holder wants weak_only
  undefined-wanted x xs e g gs m =
      ap (is_undefined s.symbols) (holder_known s past inv (find (store s) b) x xs e)
      ∙ row-undefined s.link.gabi x.row (rows xs) g gs (row_at s.symbols x.id) (Resolution.resolve (g ∷ gs))
      (AgreementLaws.accepted s past inv (find (store s) b) x xs e g gs m)

  nothing-wanted : wants [] || weak_references [] ≡ false
  unfolding wants is_unresolved Resolution.resolve has Resolution.count
  nothing-wanted = refl

  pub undefined-is : undefined_name (view_in s) b ≡ wants (symbols_under s past b) || weak_references (symbols_under s past b)
  undefined-is = by (only (find (store s) b) past) refl
    where
      by : (l : List Entry) → only (find (store s) b) past ≡ l → undefined_name (view_in s) b ≡ wants (syms_of (rows l)) || weak_references (syms_of (rows l))
      by [] e = undefined-none e ∙ sym nothing-wanted
      by (x ∷ xs) e = undefined-wanted x xs e _ _ (all-mean-own (rows (x ∷ xs)))
