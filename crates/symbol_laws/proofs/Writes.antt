-- Theorems over specs/Writes.antt.
-- Assumes nothing.
use Rattle.std.specs.Prelude.{ℕ, zero, suc, ◌+◌, ◌*◌, ◌≤◌, ◌<◌, ◌≡◌, refl, Bool, List, ◌≢◌, eqb, get_or, length, Option, None}
use Rattle.std.proofs.Common.{arith, sym, ◌∙◌, eqb-true}
use Rattle.std.proofs.Math.Path.{ap, subst}
use Rattle.std.proofs.lemmas.Bool.{eqb-false}
use Rattle.link.specs.Said.{number_in, value_in}
use Rattle.cells.specs.Proof.Split.{by-test}
use Rattle.link.specs.declared.SymbolId.{SymbolId}
use Rattle.link.specs.declared.Interned.{Interned}
use Rattle.symbol.specs.Proof.RowLaws.{field-same, field-other}
use Rattle.symbol.specs.declared.Row.{Row}
use Rattle.symbol.specs.declared.Words.{Words}
use Rattle.symbol.specs.Row.{field, state_at, row_at, cells_of}
use Rattle.symbol.specs.Hidden.{pass_hidden}
use Rattle.symbol_resolution.specs.Decision.{Decision, Refuse}
use Rattle.symbol_resolution.specs.Apply.{Table, append_of, replaced_in, joined, amended_in, apply_of}
use Rattle.symbols.specs.Calls.{Left}
use Rattle.symbols.specs.Add.{committed_of, add_row_of}
use Rattle.symbol_laws.proofs.View.{View, refused, kept, amended, replaced, appended, local, view, decided}
use Rattle.symbol_laws.proofs.Refused.{commit-refused, row-refused, row-accepted}
use Rattle.symbol_laws.specs.Standing.{SameButHidden}
use Rattle.symbol_laws.proofs.Standing.{pass-rest, Rest, joined-rest}

module _ (t : Table) (r : Row) where
  abbrev OneRow : Left → Type 0
  OneRow o = (j f : ℕ) → f < 8 → j ≢ value_in o.said → field o.table.symbols j f ≡ field t.symbols j f

  decides : (d : Decision) → decided t r ≡ d → OneRow (committed_of t r None d) → OneRow (add_row_of t r None)
  unfolding add_row_of
  decides d e g = subst (λ (d : Decision). OneRow (committed_of t r None d)) (sym e) g

  viewed : View t r → OneRow (add_row_of t r None)
  unfolding committed_of apply_of append_of replaced_in amended_in
  viewed (refused n e z) =
      decides (Refuse n) e (λ j f h u. ap (λ (t : Table). field t.symbols j f) (commit-refused t r None n z).0)
  viewed (kept e k z o w p) = decides _ e (λ j f h u. refl)
  viewed (amended e k z o w) = decides _ e (λ j f h u. field-other t.symbols _ _ j f h u)
  viewed (replaced e k z o) = decides _ e (λ j f h u. field-other t.symbols _ _ j f h u)
  viewed (appended e f k z) = decides _ e (λ j f h u. field-other t.symbols _ r j f h u)
  viewed (local e f v) = decides _ e (λ j f h u. field-other t.symbols _ r j f h u)

  -- an add writes no symbol row but the one whose id it answers
  pub one-row : (file : Option Interned) → OneRow (add_row_of t r file)
  one-row file =
      by-test (eqb (number_in (add_row_of t r file).said) 0)
      (λ a. subst OneRow (sym (row-accepted t r file (eqb-true _ _ a))) (viewed (view t r)))
      (λ a j f h u. ap (λ (t : Table). field t.symbols j f) (row-refused t r file (eqb-false _ _ a)))

-- of a present row that stays no cell changes but that of its scope, and of a common that is joined its size and its alignment
module _ (gabi : Bool) (symbols : List ℕ) (r : Row) (id : SymbolId) (present : state_at symbols id.0 ≡ 1) where
  abbrev amended-row : Row
  amended-row = pass_hidden gabi r.scope (joined (row_at symbols id.0) r)

  abbrev passed : SameButHidden amended-row (joined (row_at symbols id.0) r)
  passed = pass-rest gabi r.scope (joined (row_at symbols id.0) r)

  abbrev rest : Rest (joined (row_at symbols id.0) r) (row_at symbols id.0)
  rest = joined-rest (row_at symbols id.0) r

  amended-cell : (f : ℕ) → f < 8 → f ≢ 2 → f ≢ 4 → f ≢ 6 → get_or (cells_of amended-row) f 0 ≡ field symbols id.0 f
  amended-cell zero h t u v = sym present
  amended-cell (suc zero) h t u v = ap (λ (n : Interned). n.0) (passed.name ∙ rest.name)
  amended-cell (suc (suc zero)) h t u v = absurd (t refl)
  amended-cell (suc (suc (suc zero))) h t u v = passed.file ∙ rest.file
  amended-cell (suc (suc (suc (suc zero)))) h t u v = absurd (u refl)
  amended-cell (suc (suc (suc (suc (suc zero))))) h t u v = ap (λ (w : Words). w.kind) passed.value ∙ rest.kind
  amended-cell (suc (suc (suc (suc (suc (suc zero)))))) h t u v = absurd (v refl)
  amended-cell (suc (suc (suc (suc (suc (suc (suc zero))))))) h t u v = ap (λ (w : Words). w.b) passed.value ∙ rest.b
  amended-cell (suc (suc (suc (suc (suc (suc (suc (suc f)))))))) h t u v = absurd (omega arith)

  pub amend-one-cell : id.0 * 8 + 8 ≤ length symbols → (f : ℕ) → f < 8 → f ≢ 2 → f ≢ 4 → f ≢ 6 → field (amended_in gabi symbols r id) id.0 f ≡ field symbols id.0 f
  unfolding amended_in
  amend-one-cell g f h t u v = field-same symbols id amended-row f h g ∙ amended-cell f h t u v
