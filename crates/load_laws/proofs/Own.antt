-- The tests of the judgement of need say what Needed.antt says in its own words.
-- Assumes nothing.
use Rattle.std.specs.Prelude.{ℕ, ◌≡◌, false, cond, List}
use Rattle.std.proofs.Math.Path.{sym, ap}
use Rattle.std.proofs.Common.{◌∙◌, eqb-true}
use Rattle.std.proofs.Math.Bool.{true}
use Rattle.std.proofs.Math.Dec.{eqb}
use Rattle.cells.specs.Proof.Split.{by-test}
use Rattle.byte_slices.specs.Proof.Ways.{apart}
use Rattle.link.specs.declared.SymbolId.{SymbolId}
use Rattle.symbol.specs.declared.Words.{Words}
use Rattle.symbol.specs.declared.SymbolVisibility.TheVariants.{Global}
use Rattle.symbol.specs.declared.SymbolValue.TheVariants as Val
use Rattle.symbol.specs.Codes.{visibility_at, value_at}
use Rattle.symbol.specs.Row.{field, scope_at, value_words_at, symbol_at}
use Rattle.symbol_resolution.specs.RowsUndefined.{strong_undefined}
use Rattle.load_laws.specs.Needed.{StrongUndefined}
use Rattle.load_laws.specs.Own.{is_undefined, is_strong}

-- ---- an undefined strong row

pub undefined-code : (w : Words) → is_undefined (value_at w) ≡ eqb w.kind 7
unfolding value_at
undefined-code w =
    by-test (eqb w.kind 1) (λ a. rw (a, eqb-true w.kind 1 a))
    (λ a.
    by-test (eqb w.kind 2) (λ b. rw (a, b, eqb-true w.kind 2 b))
    (λ b.
    by-test (eqb w.kind 3) (λ c. rw (a, b, c, eqb-true w.kind 3 c))
    (λ c.
    by-test (eqb w.kind 4) (λ d. rw (a, b, c, d, eqb-true w.kind 4 d))
    (λ d.
    by-test (eqb w.kind 5) (λ e. rw (a, b, c, d, e, eqb-true w.kind 5 e))
    (λ e.
    by-test (eqb w.kind 6) (λ f. rw (a, b, c, d, e, f, eqb-true w.kind 6 f))
    (λ f.
    by-test (eqb w.kind 7) (λ g. rw (a, b, c, d, e, f, g))
    (λ g. by-test (eqb w.kind 8) (λ h. rw (a, b, c, d, e, f, g, h)) (λ h. rw (a, b, c, d, e, f, g, h)))))))))

pub strong-code : (k : ℕ) → is_strong (visibility_at k) ≡ cond (eqb k 1) true (cond (eqb k 2) true false)
unfolding visibility_at
strong-code k =
    by-test (eqb k 1) (λ a. rw a)
    (λ a.
    by-test (eqb k 2) (λ b. rw (a, b))
    (λ b. by-test (eqb k 3) (λ c. rw (a, b, c)) (λ c. by-test (eqb k 4) (λ d. rw (a, b, c, d)) (λ d. rw (a, b, c, d)))))

module _ (symbols : List ℕ) (id : SymbolId) where
  abbrev code : ℕ
  code = scope_at symbols id.0

  undefined-own : field symbols id.0 5 ≡ 7 → value_at (value_words_at symbols id.0) ≡ Val.Undefined (eqb (field symbols id.0 6) 1)
  unfolding value_at
  undefined-own e = rw e

  strong-own : code ≡ 1 → visibility_at code ≡ Global false false
  unfolding visibility_at
  strong-own e = rw e

  hidden-own : code ≡ 2 → visibility_at code ≡ Global false true
  unfolding visibility_at
  hidden-own e = rw e

  pub lacking-own : strong_undefined symbols id ≡ true → StrongUndefined (symbol_at symbols id)
  unfolding strong_undefined symbol_at
  lacking-own e =
      by-test (eqb (field symbols id.0 5) 7)
      (λ t.
      by-test (eqb code 1)
      (λ u. record { zero = _; hidden = _; undefined = undefined-own (eqb-true _ _ t); strong = strong-own (eqb-true _ _ u) })
      (λ u.
      by-test (eqb code 2)
      (λ v. record { zero = _; hidden = _; undefined = undefined-own (eqb-true _ _ t); strong = hidden-own (eqb-true _ _ v) })
      (λ v. absurd (apart (rw (t, u, v) at e)))))
      (λ t. absurd (apart (rw t at e)))

  pub own-lacking : StrongUndefined (symbol_at symbols id) → strong_undefined symbols id ≡ true
  unfolding strong_undefined symbol_at
  own-lacking s =
      let a : eqb (field symbols id.0 5) 7 ≡ true = sym (undefined-code (value_words_at symbols id.0)) ∙ ap is_undefined s.undefined in
      rw a (sym (strong-code code) ∙ ap is_strong s.strong)
