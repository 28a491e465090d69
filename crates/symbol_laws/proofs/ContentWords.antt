-- Theorems over specs/ContentWords.antt.
-- Assumes nothing.
use Rattle.std.specs.Prelude.{ℕ, zero, suc, ◌^◌, ◌<◌, ◌≤◌, ◌≡◌, refl, Bool, true, false, List, ◌≢◌, eqb, ltb}
use Rattle.std.proofs.Common.{arith, sym, ap, ◌∙◌, eqb-true, ne_eqb, ltb-true, ltb-false}
use Rattle.std.proofs.lemmas.Bool.{false≢true, eqb-false}
use Rattle.cells.specs.Proof.Split.{by-test}
use Rattle.gabi.specs.SymbolTable.{Sym, stb_weak, stv_hidden}
use Rattle.link.specs.declared.Link.{Link}
use Rattle.symbol.specs.declared.Row.{Row}
use Rattle.symbol.specs.declared.SymbolVisibility.TheVariants.{Global}
use Rattle.symbol.specs.Codes.{type_at, visibility_at}
use Rattle.symbol.specs.Hidden.{passes}
use Rattle.symbol.specs.Offset.{offset_of}
use Rattle.symbol.specs.Proof.Offset.{offset-low, offset-high}
use Rattle.symbol.specs.Layout.{refuses_scope}
use Rattle.symbol.specs.Row.{scope_refused, value_refused}
use Rattle.symbol_resolution.specs.declared.rows.Holder.{Holder}
use Rattle.symbol_resolution.specs.Decide.{refusal_of, decide_of}
use Rattle.symbol_resolution.specs.Proof.Outcomes.{Passing, accepted-passing}
use Rattle.upcoming_symbol.specs.Judge.{shown_of, hidden_of, judge_of}
use Rattle.upcoming_symbol.specs.Upcoming.{library_code}
use Rattle.symbol_laws.specs.Standing.{unhidden}
use Rattle.symbol_laws.proofs.Standing.{library-visible, library-refused, library-local}
use Rattle.symbol_laws.specs.ContentWords.{Admitted, IsOffset, IsType, becomes, function, notype, object, other, section, shared_entry, shows, stays}

-- ---- laws

pub type-is : (k : ℕ) → IsType k (type_at k)
unfolding type_at
type-is k =
    by-test (eqb k 1) (λ a. let e : k ≡ 1 = eqb-true _ _ a in rw e object)
    (λ a.
    by-test (eqb k 2) (λ b. let e : k ≡ 2 = eqb-true _ _ b in rw e function)
    (λ b.
    by-test (eqb k 3) (λ c. let e : k ≡ 3 = eqb-true _ _ c in rw e section)
    (λ c.
    by-test (eqb k 0) (λ d. let e : k ≡ 0 = eqb-true _ _ d in rw e notype)
    (λ d.
    let u1 : k ≢ 1 = eqb-false _ _ a in
    let u2 : k ≢ 2 = eqb-false _ _ b in
    let u3 : k ≢ 3 = eqb-false _ _ c in
    let u0 : k ≢ 0 = eqb-false _ _ d in
    other (high k u0 u1 u2 u3)))))
  where
    high : (k : ℕ) → k ≢ 0 → k ≢ 1 → k ≢ 2 → k ≢ 3 → 4 ≤ k
    high k a b c d = by-test (ltb k 4) (λ t. absurd (small k (ltb-true _ _ t) a b c d)) (λ t. ltb-false _ _ t)
      where
        small : (k : ℕ) → k < 4 → k ≢ 0 → k ≢ 1 → k ≢ 2 → k ≢ 3 → ⊥
        small zero h a b c d = a refl
        small (suc zero) h a b c d = b refl
        small (suc (suc zero)) h a b c d = c refl
        small (suc (suc (suc zero))) h a b c d = d refl
        small (suc (suc (suc (suc k)))) h a b c d = omega arith

pub offset-is : (v : ℕ) → IsOffset v (offset_of v)
offset-is v =
    by-test (ltb v (2 ^ 63)) (λ t. rw (offset-low v (ltb-true _ _ t)) (stays (ltb-true _ _ t)))
    (λ t. rw (offset-high v (ltb-false _ _ t)) (becomes (ltb-false _ _ t)))

-- a row's visibility, of one that isn't local and passes
pub shown-is : (b v : ℕ) → judge_of b v ≢ 0 → refuses_scope (judge_of b v) ≡ false → visibility_at (judge_of b v) ≡ Global (eqb b stb_weak) (eqb v stv_hidden)
unfolding judge_of shown_of hidden_of visibility_at
shown-is b v z p =
    by-test (eqb v 0)
    (λ a.
    let e : v ≡ 0 = eqb-true _ _ a in
    by-test (eqb b 0) (λ c. absurd ((rw (a, c) at z) refl))
    (λ c.
    by-test (eqb b 1) (λ d. let f : b ≡ 1 = eqb-true _ _ d in rw (e, f))
    (λ d. by-test (eqb b 2) (λ g. let f : b ≡ 2 = eqb-true _ _ g in rw (e, f)) (λ g. absurd (false≢true (sym (rw (a, c, d, g) at p)))))))
    (λ a.
    by-test (eqb v 2)
    (λ h.
    let e : v ≡ 2 = eqb-true _ _ h in
    by-test (eqb b 0) (λ c. absurd (false≢true (sym (rw (a, h, c) at p))))
    (λ c.
    by-test (eqb b 1) (λ d. let f : b ≡ 1 = eqb-true _ _ d in rw (e, f))
    (λ d. by-test (eqb b 2) (λ g. let f : b ≡ 2 = eqb-true _ _ g in rw (e, f)) (λ g. absurd (false≢true (sym (rw (a, h, c, d, g) at p)))))))
    (λ h. absurd (false≢true (sym (rw (a, h) at p)))))

pub admitted-is : (e : Sym) → judge_of e.binding e.visibility ≢ 0 → refuses_scope (judge_of e.binding e.visibility) ≡ false → Admitted e
unfolding judge_of shown_of hidden_of
admitted-is e z p =
    let b : ℕ = e.binding in
    let v : ℕ = e.visibility in
    by-test (eqb v 0)
    (λ a.
    let f : v ≡ 0 = eqb-true _ _ a in
    by-test (eqb b 0) (λ c. absurd ((rw (a, c) at z) refl))
    (λ c.
    by-test (eqb b 1) (λ d. let g : b ≡ 1 = eqb-true _ _ d in record { bound = rw g; seen = rw f })
    (λ d. by-test (eqb b 2) (λ h. let g : b ≡ 2 = eqb-true _ _ h in record { bound = rw g; seen = rw f }) (λ h. absurd (false≢true (sym (rw (a, c, d, h) at p)))))))
    (λ a.
    by-test (eqb v 2)
    (λ k.
    let f : v ≡ 2 = eqb-true _ _ k in
    by-test (eqb b 0) (λ c. absurd (false≢true (sym (rw (a, k, c) at p))))
    (λ c.
    by-test (eqb b 1) (λ d. let g : b ≡ 1 = eqb-true _ _ d in record { bound = rw g; seen = rw f })
    (λ d. by-test (eqb b 2) (λ h. let g : b ≡ 2 = eqb-true _ _ h in record { bound = rw g; seen = rw f }) (λ h. absurd (false≢true (sym (rw (a, k, c, d, h) at p)))))))
    (λ k. absurd (false≢true (sym (rw (a, k) at p)))))

-- of a shared object's entry
shared-shows : (gabi : Bool) (e : Sym) (k : ℕ) → visibility_at k ≡ shows e → visibility_at (library_code gabi k) ≡ shows (shared_entry gabi e)
unfolding library_code passes
shared-shows false e k p = p
shared-shows true e k p = library-visible k ∙ ap unhidden p

pub shared-is : (gabi : Bool) (e : Sym) → library_code gabi (judge_of e.binding e.visibility) ≢ 0 → refuses_scope (library_code gabi (judge_of e.binding e.visibility)) ≡ false
    → Admitted e × (visibility_at (library_code gabi (judge_of e.binding e.visibility)) ≡ shows (shared_entry gabi e))
shared-is gabi e z p =
    let k : ℕ = judge_of e.binding e.visibility in
    let n : k ≢ 0 = eqb-false _ _ (sym (library-local gabi k) ∙ ne_eqb _ _ z) in
    let q : refuses_scope k ≡ false = sym (library-refused gabi k) ∙ p in
    (admitted-is e n q, shared-shows gabi e k (shown-is e.binding e.visibility n q))

-- what is accepted has a visibility and a value that pass
pub decided-passes : (l : Link) (symbols sections : List ℕ) (r : Row) (h : Holder) → refusal_of (decide_of l symbols sections r h) ≡ 0
    → (scope_refused r ≡ false) × (value_refused r ≡ false)
decided-passes l symbols sections r h z = let p : Passing r = accepted-passing l symbols sections r h z in (p.scope, p.value)
