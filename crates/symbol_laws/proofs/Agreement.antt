-- Theorems over specs/Agreement.antt.
-- Assumes nothing.
use Rattle.std.specs.Prelude.{ℕ, suc, ◌≤◌, ◌<◌, ◌≡◌, Bool, false, not, ◌&&◌, ◌||◌, eqb, ltb, get_or}
use Rattle.std.proofs.Common.{arith, not-suc-le-zero, sym, ◌∙◌, subst}
use Rattle.std.proofs.Math.Path.{refl, ap}
use Rattle.std.proofs.Math.Bool.{true}
use Rattle.std.proofs.lemmas.Bool.{false≢true}
use mathlib.Core.List.{List, [], ◌∷◌}
use borrow.Author.Tests.{ltb-true, ltb-false, le-ltb, eqb-true}
use Rattle.cells.specs.Proof.Split.{by-test}
use Rattle.gabi.specs.SymbolTable.{Sym, stb_global, is_global, is_weak, is_reference, is_definition, is_common}
use Rattle.gabi.specs.Resolution as Gabi
use Rattle.gabi.proofs.Resolution as GabiLaws
use Rattle.gabi.specs.Resolution.{defined, common, zero_value, is_global_definition, is_common_definition, is_weak_definition, is_global_reference, has, resolve}
use Rattle.symbol.specs.declared.Row.{Row}
use Rattle.symbol.specs.declared.Words.{Words}
use Rattle.symbol_laws.specs.Rank.{defines, weak, plain, strong_definition, weak_definition, strong_reference, weak_reference, first, reference_of, first_by_rank, count, joined_in}
use Rattle.symbol_laws.specs.Rank as Rank
use Rattle.symbol.specs.Row.{row_at}
use Rattle.symbol_laws.specs.Standing.{hidden_by}
use Rattle.symbol_laws.proofs.Standing.{same_by, joined-plain}
use Rattle.symbol_laws.proofs.Rank.{undefined-not-common}
use Rattle.symbol_laws.specs.History.{State, Entry, only, rows}
use Rattle.symbol_laws.specs.Held.{Inv}
use Rattle.symbol_laws.proofs.Demand.{resolved}
use Rattle.symbol_laws.specs.Gabi.{Means, AllMean, sym_of_row, syms_of}
use Rattle.symbol_laws.proofs.Gabi.{means-own, Match, counts, place, first_passes, first-none}
use Rattle.symbol_laws.specs.Agreement.{Agrees, Unresolved}

-- ---- definitions on both sides

swap : (a b : Bool) → (a && b) ≡ (b && a)
swap true true = refl
swap true false = refl
swap false true = refl
swap false false = refl

strong-same : (r : Row) (s : Sym) → Means r s → strong_definition r ≡ is_global_definition s
unfolding is_global_definition is_definition
strong-same r s m = rw (m.refers, m.commonly, m.weakly, m.bound) (swap (not (is_reference s) && not (is_common s)) (not (is_weak s)))

weak-same : (r : Row) (s : Sym) → Means r s → weak_definition r ≡ is_weak_definition s
unfolding is_weak_definition is_definition
weak-same r s m = rw (m.refers, m.commonly, m.weakly) (swap (not (is_reference s) && not (is_common s)) (is_weak s))

common-same : (r : Row) (s : Sym) → Means r s → Rank.common r ≡ is_common_definition s
unfolding is_common_definition
common-same r s m = rw (m.commonly, m.bound) (either (is_weak s) (is_common s))
  where
    either : (w c : Bool) → c ≡ ((not w || w) && c)
    either true c = refl
    either false c = refl

reference-same : (r : Row) (s : Sym) → Means r s → strong_reference r ≡ is_global_reference s
unfolding is_global_reference
reference-same r s m = rw (m.refers, m.weakly, m.bound) (twice (is_reference s) (not (is_weak s)))
  where
    twice : (a b : Bool) → (not (not a) && b) ≡ (b && a)
    twice true b = swap true b
    twice false b = swap false b

matched : (p : Row → Bool) (g : Sym → Bool) → ((r : Row) (s : Sym) → Means r s → p r ≡ g s) → (rs : List Row) (ss : List Sym) → AllMean rs ss → Match p g rs ss
matched p g f [] [] m = tt
matched p g f [] (s ∷ ss) m = absurd m
matched p g f (r ∷ rs) [] m = absurd m
matched p g f (r ∷ rs) (s ∷ ss) m = (f r s m.0, matched p g f rs ss m.1)

pub strong-match : (rs : List Row) (ss : List Sym) → AllMean rs ss → Match strong_definition is_global_definition rs ss
strong-match = matched strong_definition is_global_definition strong-same

weak-match : (rs : List Row) (ss : List Sym) → AllMean rs ss → Match weak_definition is_weak_definition rs ss
weak-match = matched weak_definition is_weak_definition weak-same

common-match : (rs : List Row) (ss : List Sym) → AllMean rs ss → Match Rank.common is_common_definition rs ss
common-match = matched Rank.common is_common_definition common-same

reference-match : (rs : List Row) (ss : List Sym) → AllMean rs ss → Match strong_reference is_global_reference rs ss
reference-match = matched strong_reference is_global_reference reference-same

-- ---- whichever symbols the rows mean, the gABI makes the same of them

module _ (p : Sym → Bool) (same : (r : Row) (s : Sym) → Means r s → p s ≡ p (sym_of_row r)) where
  count-own : (rs : List Row) (ss : List Sym) → AllMean rs ss → Gabi.count p ss ≡ Gabi.count p (syms_of rs)
  unfolding Gabi.count
  count-own [] [] m = refl
  count-own [] (s ∷ ss) m = absurd m
  count-own (r ∷ rs) [] m = absurd m
  count-own (r ∷ rs) (s ∷ ss) m = rw (same r s m.0, count-own rs ss m.1)

  first-own : (rs : List Row) (ss : List Sym) → AllMean rs ss → Gabi.first p ss ≡ Gabi.first p (syms_of rs)
  unfolding Gabi.first
  first-own [] [] m = refl
  first-own [] (s ∷ ss) m = absurd m
  first-own (r ∷ rs) [] m = absurd m
  first-own (r ∷ rs) (s ∷ ss) m = rw (same r s m.0, first-own rs ss m.1)

pub resolve-own : (rs : List Row) (ss : List Sym) → AllMean rs ss → resolve ss ≡ resolve (syms_of rs)
unfolding resolve has
resolve-own rs ss m =
    rw (
      count-own is_global_definition strong rs ss m,
      first-own is_global_definition strong rs ss m,
      count-own is_common_definition shared rs ss m,
      first-own is_common_definition shared rs ss m,
      count-own is_weak_definition weakly rs ss m,
      first-own is_weak_definition weakly rs ss m,
      count-own is_global_reference refers rs ss m,
    )
  where
    strong : (r : Row) (s : Sym) → Means r s → is_global_definition s ≡ is_global_definition (sym_of_row r)
    strong r s m = sym (strong-same r s m) ∙ strong-same r (sym_of_row r) (means-own r)

    shared : (r : Row) (s : Sym) → Means r s → is_common_definition s ≡ is_common_definition (sym_of_row r)
    shared r s m = sym (common-same r s m) ∙ common-same r (sym_of_row r) (means-own r)

    weakly : (r : Row) (s : Sym) → Means r s → is_weak_definition s ≡ is_weak_definition (sym_of_row r)
    weakly r s m = sym (weak-same r s m) ∙ weak-same r (sym_of_row r) (means-own r)

    refers : (r : Row) (s : Sym) → Means r s → is_global_reference s ≡ is_global_reference (sym_of_row r)
    refers r s m = sym (reference-same r s m) ∙ reference-same r (sym_of_row r) (means-own r)

definition : (r : Row) (w : Bool) → (plain r && w) ≡ true → defines r ≡ true
definition r w e = by-test (defines r) (λ t. t) (λ t. absurd (false≢true (rw t at e)))

no-common : (r : Row) (w : Bool) → (plain r && w) ≡ true → Rank.common r ≡ false
no-common r w e = by-test (Rank.common r) (λ c. absurd (by-test (defines r) (λ t. false≢true (rw (t, c) at e)) (λ t. false≢true (rw t at e)))) (λ c. c)

no-definition : (r : Row) → strong_definition r ≡ false → Rank.common r ≡ false → weak_definition r ≡ false → defines r ≡ false
no-definition r a c b =
    by-test (defines r)
    (λ t. by-test (weak r) (λ w. absurd (false≢true (sym (rw (t, c, w) at b)))) (λ w. absurd (false≢true (sym (rw (t, c, w) at a)))))
    (λ t. t)

-- a row that refers isn't common
refers-plainly : (r : Row) → defines r ≡ false → Rank.common r ≡ false
refers-plainly r d = by-test (eqb r.value.kind 7) (λ u. undefined-not-common r.value.kind u) (λ u. absurd (false≢true (sym (rw u at d))))

strong-refers : (r : Row) → strong_reference r ≡ true → defines r ≡ false
strong-refers r e = by-test (defines r) (λ t. absurd (false≢true (rw t at e))) (λ t. t)

common-joined : (l : List Row) (r : Row) → Rank.common (joined_in l r) ≡ Rank.common r
common-joined l r = by-test (Rank.common r) (λ c. rw (c, c)) (λ c. rw (c, c))

global-strong : (s : Sym) → is_global_reference s ≡ true → (is_reference s ≡ true) × (is_weak s ≡ false)
unfolding is_global_reference is_global is_weak
global-strong s e =
    by-test (eqb s.binding stb_global)
    (λ a. by-test (is_reference s) (λ b. (b, rw (eqb-true s.binding stb_global a))) (λ b. absurd (false≢true (rw (a, b) at e))))
    (λ a. absurd (false≢true (rw a at e)))

no-strong-reference : (gabi : Bool) (c : Row) (cs : List Row) → count strong_reference (c ∷ cs) ≡ 0 → reference_of gabi c cs ≡ c
no-strong-reference false c cs z = refl
no-strong-reference true c cs z = first-none strong_reference is_global_reference (c ∷ cs) c z

hidden-reference : (gabi : Bool) (l : List Row) (r : Row) → strong_reference (hidden_by gabi l r) ≡ strong_reference r
hidden-reference gabi l r = let h = same_by gabi l r in rw (h.value, h.weakness)

module _ (gabi : Bool) (c : Row) (cs : List Row) (s : Sym) (ss : List Sym) (m : AllMean (c ∷ cs) (s ∷ ss)) where
  abbrev strongs : ℕ
  strongs = count strong_definition (c ∷ cs)

  abbrev weaks : ℕ
  weaks = count weak_definition (c ∷ cs)

  abbrev references : ℕ
  references = count strong_reference (c ∷ cs)

  strong-count : Gabi.count is_global_definition (s ∷ ss) ≡ strongs
  strong-count = counts strong_definition is_global_definition (c ∷ cs) (s ∷ ss) (strong-match (c ∷ cs) (s ∷ ss) m)

  weak-count : Gabi.count is_weak_definition (s ∷ ss) ≡ weaks
  weak-count = counts weak_definition is_weak_definition (c ∷ cs) (s ∷ ss) (weak-match (c ∷ cs) (s ∷ ss) m)

  abbrev commons : ℕ
  commons = count Rank.common (c ∷ cs)

  common-count : Gabi.count is_common_definition (s ∷ ss) ≡ commons
  common-count = counts Rank.common is_common_definition (c ∷ cs) (s ∷ ss) (common-match (c ∷ cs) (s ∷ ss) m)

  reference-count : Gabi.count is_global_reference (s ∷ ss) ≡ references
  reference-count = counts strong_reference is_global_reference (c ∷ cs) (s ∷ ss) (reference-match (c ∷ cs) (s ∷ ss) m)

  abbrev row : Row
  row = hidden_by gabi (c ∷ cs) (first_by_rank gabi c cs)

  -- and with the commons joined in it
  abbrev whole : Row
  whole = hidden_by gabi (c ∷ cs) (joined_in (c ∷ cs) (first_by_rank gabi c cs))

  wholly : {r : Row} → first_by_rank gabi c cs ≡ r → Rank.common r ≡ false → row ≡ whole
  wholly e p = sym (ap (hidden_by gabi (c ∷ cs)) (joined-plain (c ∷ cs) (first_by_rank gabi c cs) (ap Rank.common e ∙ p)))

  shown : {r : Row} → first_by_rank gabi c cs ≡ r → row ≡ hidden_by gabi (c ∷ cs) r
  shown e = ap (hidden_by gabi (c ∷ cs)) e

  same-value : {r : Row} → first_by_rank gabi c cs ≡ r → row.value ≡ r.value
  same-value e = (same_by gabi (c ∷ cs) (first_by_rank gabi c cs)).value ∙ ap (λ (r : Row). r.value) e

  same-defines : {r : Row} {b : Bool} → first_by_rank gabi c cs ≡ r → defines r ≡ b → defines row ≡ b
  same-defines e d = ap (λ (v : Words). not (eqb v.kind 7)) (same-value e) ∙ d

  same-weak : {r : Row} → first_by_rank gabi c cs ≡ r → defines r ≡ false → weak r ≡ true → weak_reference row ≡ true
  same-weak e d w = rw (same-defines e d, (same_by gabi (c ∷ cs) (first_by_rank gabi c cs)).weakness ∙ ap weak e ∙ w)

  by_strong : 0 < strongs → Agrees gabi c cs s ss whole (defined (Gabi.first is_global_definition (s ∷ ss)))
  by_strong h =
      let passes = first_passes strong_definition is_global_definition (c ∷ cs) _ h in
      subst (λ (r : Row). Agrees gabi c cs s ss r (defined (Gabi.first is_global_definition (s ∷ ss))))
      (wholly refl (no-common (first_by_rank gabi c cs) _ passes)) (
        shown (place strong_definition is_global_definition (c ∷ cs) (s ∷ ss) _ c (strong-match (c ∷ cs) (s ∷ ss) m) h),
        same-defines refl (definition (first_by_rank gabi c cs) _ passes),
      )

  module _ (none : strongs ≡ 0) where
    abbrev weakly : Row
    weakly = first weak_definition (c ∷ cs) (reference_of gabi c cs)

    yet : first_by_rank gabi c cs ≡ first Rank.common (c ∷ cs) weakly
    yet = first-none strong_definition is_global_definition (c ∷ cs) _ none

    by_common : 0 < commons → Agrees gabi c cs s ss whole (common (Gabi.first is_common_definition (s ∷ ss)))
    by_common h =
        let e = yet ∙ place Rank.common is_common_definition (c ∷ cs) (s ∷ ss) weakly c (common-match (c ∷ cs) (s ∷ ss) m) h in (
          ap (λ (r : Row). hidden_by gabi (c ∷ cs) (joined_in (c ∷ cs) r)) e,
          ap (λ (v : Words). eqb v.kind 8) (same_by gabi (c ∷ cs) (joined_in (c ∷ cs) (first_by_rank gabi c cs))).value
              ∙ common-joined (c ∷ cs) (first_by_rank gabi c cs)
              ∙ ap Rank.common yet ∙ first_passes Rank.common is_common_definition (c ∷ cs) weakly h,
        )

    module _ (unshared : commons ≡ 0) where
      then : first_by_rank gabi c cs ≡ weakly
      then = yet ∙ first-none Rank.common is_common_definition (c ∷ cs) _ unshared

      by_weak : 0 < weaks → Agrees gabi c cs s ss whole (defined (Gabi.first is_weak_definition (s ∷ ss)))
      by_weak h =
          let passes = first_passes weak_definition is_weak_definition (c ∷ cs) _ h in
          subst (λ (r : Row). Agrees gabi c cs s ss r (defined (Gabi.first is_weak_definition (s ∷ ss)))) (wholly then (no-common weakly _ passes)) (
            shown (then ∙ place weak_definition is_weak_definition (c ∷ cs) (s ∷ ss) _ c (weak-match (c ∷ cs) (s ∷ ss) m) h),
            same-defines then (definition weakly _ passes),
          )

      module _ (nor : weaks ≡ 0) where
        it : first_by_rank gabi c cs ≡ reference_of gabi c cs
        it = then ∙ first-none weak_definition is_weak_definition (c ∷ cs) _ nor

        undefined : defines c ≡ false
        undefined =
            no-definition c (by-test (strong_definition c) (λ t. absurd (never (rw t at none))) (λ t. t))
            (by-test (Rank.common c) (λ t. absurd (never (rw t at unshared))) (λ t. t))
            (by-test (weak_definition c) (λ t. absurd (never (rw t at nor))) (λ t. t))
          where
            never : {n : ℕ} → suc n ≡ 0 → ⊥
            never q = omega arith

        reference : is_reference s ≡ true
        reference = by-test (is_reference s) (λ t. t) (λ t. absurd (false≢true (sym (rw (m.0.refers, t) at undefined))))

        by_zero : has is_global_reference (s ∷ ss) ≡ false → Agrees gabi c cs s ss whole zero_value
        unfolding has Gabi.count is_global_reference
        by_zero h =
            let k : Gabi.count is_global_reference (s ∷ ss) ≤ 0 = ltb-false _ _ h in
            let w : is_weak s ≡ true = by-test (is_weak s) (λ t. t) (λ t. absurd (not-suc-le-zero (rw (m.0.bound, t, reference) at k))) in
            let e : first_by_rank gabi c cs ≡ c = it ∙ no-strong-reference gabi c cs (omega (arith, k, reference-count)) in
            subst (λ (r : Row). Agrees gabi c cs s ss r zero_value) (wholly e (refers-plainly c undefined))
            (shown e, same-weak e undefined (m.0.weakly ∙ w), λ z. ap (λ (v : Words). v.a) (same-value e) ∙ z reference ∙ rw w)

-- unresolved, by profile
module _ (c : Row) (cs : List Row) (s : Sym) (ss : List Sym) (m : AllMean (c ∷ cs) (s ∷ ss)) (none : count strong_definition (c ∷ cs) ≡ 0)
    (unshared : count Rank.common (c ∷ cs) ≡ 0) (nor : count weak_definition (c ∷ cs) ≡ 0) (some : 0 < count strong_reference (c ∷ cs)) where
  by-reference : (gabi : Bool) → Unresolved gabi c cs s ss (hidden_by gabi (c ∷ cs) (joined_in (c ∷ cs) (first_by_rank gabi c cs)))
  by-reference false =
      let e : first_by_rank false c cs ≡ c = it false c cs s ss m none unshared nor in
      let u = undefined false c cs s ss m none unshared nor in
      subst (Unresolved false c cs s ss) (wholly false c cs s ss m e (refers-plainly c u))
      (e, ap defines e ∙ u, λ z. ap (λ (r : Row). r.value.a) e ∙ z (reference false c cs s ss m none unshared nor))
  by-reference true =
      let k : ℕ = Gabi.first is_global_reference (s ∷ ss) in
      let e : first_by_rank true c cs ≡ first strong_reference (c ∷ cs) c = it true c cs s ss m none unshared nor in
      let strong = first_passes strong_reference is_global_reference (c ∷ cs) c some in
      let at : first_by_rank true c cs ≡ get_or (c ∷ cs) k c =
      e ∙ place strong_reference is_global_reference (c ∷ cs) (s ∷ ss) c c (reference-match (c ∷ cs) (s ∷ ss) m) some in
      let g : (is_reference (get_or (s ∷ ss) k s) ≡ true) × (is_weak (get_or (s ∷ ss) k s) ≡ false) =
      global-strong _ (GabiLaws.first_passes is_global_reference (s ∷ ss) s (omega (arith, some, reference-count true c cs s ss m))) in
      subst (Unresolved true c cs s ss) (wholly true c cs s ss m e (refers-plainly (first strong_reference (c ∷ cs) c) (strong-refers (first strong_reference (c ∷ cs) c) strong))) (
        ap (hidden_by true (c ∷ cs)) at,
        hidden-reference true (c ∷ cs) (first_by_rank true c cs) ∙ ap strong_reference e ∙ strong,
        λ z. ap (λ (v : Words). v.a) (same-value true c cs s ss m at) ∙ z g.0 ∙ rw g.1,
      )

pub agrees : (gabi : Bool) (c : Row) (cs : List Row) (s : Sym) (ss : List Sym) → AllMean (c ∷ cs) (s ∷ ss) → count strong_definition (c ∷ cs) ≤ 1
    → Agrees gabi c cs s ss (hidden_by gabi (c ∷ cs) (joined_in (c ∷ cs) (first_by_rank gabi c cs))) (resolve (s ∷ ss))
unfolding resolve has
agrees gabi c cs s ss m one =
    let strongs : ℕ = count strong_definition (c ∷ cs) in
    let weaks : ℕ = count weak_definition (c ∷ cs) in
    rw (strong-count gabi c cs s ss m, le-ltb 1 strongs one)
    (by-test (ltb 0 strongs) (λ a. rw a (by_strong gabi c cs s ss m (ltb-true _ _ a)))
    (λ a.
    let none : strongs ≡ 0 = omega (arith, ltb-false 0 strongs a) in
    let commons : ℕ = count Rank.common (c ∷ cs) in
    rw (a, common-count gabi c cs s ss m)
    (by-test (ltb 0 commons) (λ b. rw b (by_common gabi c cs s ss m none (ltb-true _ _ b)))
    (λ j.
    let unshared : commons ≡ 0 = omega (arith, ltb-false 0 commons j) in
    rw (j, weak-count gabi c cs s ss m)
    (by-test (ltb 0 weaks) (λ b. rw b (by_weak gabi c cs s ss m none unshared (ltb-true _ _ b)))
    (λ b.
    let nor : weaks ≡ 0 = omega (arith, ltb-false 0 weaks b) in
    rw b
    (by-test (ltb 0 (Gabi.count is_global_reference (s ∷ ss)))
    (λ d. rw d (by-reference c cs s ss m none unshared nor (omega (arith, ltb-true 0 (Gabi.count is_global_reference (s ∷ ss)) d, reference-count gabi c cs s ss m)) gabi))
    (λ d. rw d (by_zero gabi c cs s ss m none unshared nor d)))))))))

-- the row of a name that is held
pub accepted : (t : State) (past : List Entry) → Inv t past → (n : ℕ) (x : Entry) (xs : List Entry) → only n past ≡ x ∷ xs
    → (s : Sym) (ss : List Sym) → AllMean (rows (x ∷ xs)) (s ∷ ss) → Agrees t.link.gabi x.row (rows xs) s ss (row_at t.symbols x.id) (resolve (s ∷ ss))
accepted t past inv n x xs e s ss m =
    let one : count strong_definition (rows (x ∷ xs)) ≤ 1 = subst (λ (l : List Entry). count strong_definition (rows l) ≤ 1) e (inv.once n) in
    rw (resolved t past inv n x xs e).terms (agrees t.link.gabi x.row (rows xs) s ss m one)
