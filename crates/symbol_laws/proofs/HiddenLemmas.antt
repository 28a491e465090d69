-- Theorems over specs/Hidden.antt.
-- Assumes nothing.
use Rattle.std.specs.Prelude.{ℕ, ◌≡◌, refl, Bool, true, false, cond, not, ◌||◌, List, [], ◌∷◌, ◌++◌, eqb}
use Rattle.std.proofs.Common.{sym, ap, ◌∙◌, eqb-true}
use Rattle.cells.specs.Proof.Split.{by-test}
use Rattle.gabi.specs.SymbolTable.{Sym, stv_default, stv_hidden}
use Rattle.gabi.specs.Visibility.{rank, combine, combined}
use Rattle.symbol.specs.declared.Row.{Row}
use Rattle.symbol_laws.specs.Rank.{ranked, FirstOfGreatestRank}
use Rattle.symbol_laws.specs.Hidden.{AllShow, attribute, is_hidden, not_passed_on, some_hidden}

visible : (v : ℕ) → eqb v stv_default ≡ not (eqb v stv_hidden) → v ≡ attribute (eqb v stv_hidden)
visible v e =
    by-test (eqb v stv_hidden) (λ a. rw a (eqb-true _ _ a)) (λ a. rw a (eqb-true v stv_default (e ∙ rw a)))

both : (a b : Bool) → combine (attribute a) (attribute b) ≡ attribute (a || b)
unfolding combine rank
both true true = refl
both true false = refl
both false true = refl
both false false = refl

-- the gABI's attribute of a name: hidden just if one of its symbols is
pub combined-is : (rs : List Row) (ss : List Sym) → AllShow rs ss → combined ss ≡ cond (some_hidden rs) stv_hidden stv_default
unfolding combined
combined-is [] [] p = refl
combined-is [] (s ∷ ss) p = absurd p
combined-is (r ∷ rs) [] p = absurd p
combined-is (r ∷ rs) (s ∷ ss) (h, v, p) =
    ap (λ (x : ℕ). combine x (combined ss)) (visible s.visibility v ∙ ap attribute (sym h))
    ∙ ap (combine (attribute (is_hidden r))) (combined-is rs ss p) ∙ both (is_hidden r) (some_hidden rs)

hidden-apart : (a : List Row) (r : Row) (b : List Row) → some_hidden (a ++ r ∷ b) ≡ is_hidden r || some_hidden (a ++ b)
hidden-apart [] r b = refl
hidden-apart (x ∷ a) r b = ap (λ (t : Bool). is_hidden x || t) (hidden-apart a r b) ∙ swap (is_hidden x) (is_hidden r) (some_hidden (a ++ b))
  where
    swap : (x y z : Bool) → x || (y || z) ≡ y || (x || z)
    swap true true z = refl
    swap true false z = refl
    swap false true z = refl
    swap false false z = refl

pub hidden-differs : (rs : List Row) (ss : List Sym) → AllShow rs ss → (r : Row) (f : FirstOfGreatestRank (ranked false) rs r)
    → combined ss ≡ cond (is_hidden r || not_passed_on f) stv_hidden stv_default
hidden-differs rs ss p r f =
    combined-is rs ss p ∙ ap (λ (l : List Row). cond (some_hidden l) stv_hidden stv_default) f.place
    ∙ ap (λ (b : Bool). cond b stv_hidden stv_default) (hidden-apart f.before r f.after)
