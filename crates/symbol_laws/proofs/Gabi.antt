-- Theorems over specs/Gabi.antt.
-- Assumes nothing.
use Prim.Native.Nat.{ℕ, suc, ◌<◌}
use Rattle.std.proofs.Common.{arith, not-suc-le-zero, ◌∙◌}
use Rattle.std.specs.Int.{is_power_of_two}
use Rattle.std.specs.Prelude.{◌≡◌, Bool, true, false, not, ◌≢◌, eqb, get_or}
use Rattle.std.proofs.Math.Path.{refl, sym, ap}
use Rattle.std.proofs.Math.Bool.{cond, false≢true}
use mathlib.Core.List.{List, [], ◌∷◌}
use borrow.Author.Tests.{eqb-true, eq-eqb}
use Rattle.cells.specs.Proof.Split.{by-test}
use Rattle.link.specs.declared.Interned.{Interned}
use Rattle.gabi.specs.SymbolTable.{Sym, stb_global, stb_weak, stv_default, stv_hidden, shn_undef, shn_abs, shn_common, is_global, is_weak, is_reference, is_common}
use Rattle.gabi.specs.Resolution as Gabi
use Rattle.gabi.specs.Visibility.{combined}
use Rattle.symbol.specs.declared.Row.{Row}
use Rattle.symbol.specs.Layout.{refuses_scope}
use Rattle.symbol.specs.Row.{scope_refused, value_refused}
use Rattle.symbol_resolution.specs.Decide.{weak_of}
use Rattle.upcoming_symbol.specs.declared.ElfSymbol.{ElfSymbol}
use Rattle.upcoming_symbol.specs.Judge.{shown_of, hidden_of, judge_of}
use Rattle.upcoming_symbol.specs.declared.Conversion.{Conversion}
use Rattle.upcoming_symbol.specs.declared.Conversion.TheVariants as To
use Rattle.upcoming_symbol.specs.Upcoming.{in_section, converted_of, undefined_of, common_of, common_by_binding, value_of, elf_row_of, external_row_of}
use Rattle.symbol_laws.specs.Rank.{weak, common, first, count}
use Rattle.symbol_laws.proofs.Rank.{undefined-not-common}
use Rattle.symbol_laws.specs.ContentWords.{shared_entry}
use Rattle.symbol_laws.specs.Hidden.{is_hidden, some_hidden, AllShow, attribute}
use Rattle.symbol_laws.proofs.HiddenLemmas.{combined-is}
use Rattle.symbol_laws.proofs.Standing.{library-refused, library-local, library-weak}
use Rattle.symbol_laws.specs.Gabi.{AllMean, Means, Zeroes, sym_of, sym_of_row, syms_of}

pub means-own : (r : Row) → Means r (sym_of_row r)
unfolding is_reference is_common is_weak is_global
means-own r =
    record {
      refers = referred (eqb r.value.kind 7) (common r);
      commonly = by-test (eqb r.value.kind 7) (λ u. rw (u, undefined-not-common r.value.kind u)) (λ u. rw u (commoned (common r)));
      weakly = weakened (weak r);
      bound = bounded (weak r);
    }
  where
    referred : (b c : Bool) → b ≡ eqb (cond b shn_undef (cond c shn_common shn_abs)) shn_undef
    referred true c = refl
    referred false true = refl
    referred false false = refl

    commoned : (c : Bool) → c ≡ eqb (cond c shn_common shn_abs) shn_common
    commoned true = refl
    commoned false = refl

    weakened : (b : Bool) → b ≡ eqb (cond b stb_weak stb_global) stb_weak
    weakened true = refl
    weakened false = refl

    bounded : (b : Bool) → eqb (cond b stb_weak stb_global) stb_global ≡ not (eqb (cond b stb_weak stb_global) stb_weak)
    bounded true = refl
    bounded false = refl

pub all-mean-own : (rs : List Row) → AllMean rs (syms_of rs)
all-mean-own [] = tt
all-mean-own (r ∷ rs) = (means-own r, all-mean-own rs)

-- ---- hidden: "the most constraining" of the visibilities of a name's symbols

all-show-own : (l : List Row) → AllShow l (syms_of l)
all-show-own [] = tt
all-show-own (r ∷ l) = (shown (is_hidden r), seen (is_hidden r), all-show-own l)
  where
    shown : (h : Bool) → h ≡ eqb (attribute h) stv_hidden
    shown true = refl
    shown false = refl

    seen : (h : Bool) → eqb (attribute h) stv_default ≡ not (eqb (attribute h) stv_hidden)
    seen true = refl
    seen false = refl

pub combined-rows : (l : List Row) → combined (syms_of l) ≡ attribute (some_hidden l)
combined-rows l = combined-is l (syms_of l) (all-show-own l)

module _ (to : Conversion) (e : ElfSymbol) (name : Interned) (empty : Bool) (file : ℕ) where
  abbrev row : Row
  row = elf_row_of to e name empty file

  section-kind : (s v : ℕ) → eqb (in_section s empty v).kind 7 ≡ false
  unfolding in_section
  section-kind s v = by-test empty (λ a. by-test (eqb v 0) (λ b. rw (a, b)) (λ b. rw (a, b))) (λ a. rw a)

  converted-kind : (c : Conversion) (v : ℕ) → eqb (converted_of c empty v).kind 7 ≡ false
  unfolding converted_of
  converted-kind To.Nothing v = refl
  converted-kind To.NotLoaded v = refl
  converted-kind (To.Section id) v = section-kind id.0 v

  reference-kind : eqb row.value.kind 7 ≡ is_reference (sym_of e)
  unfolding elf_row_of value_of undefined_of common_by_binding common_of is_reference
  reference-kind =
      by-test (eqb e.section 0) (λ a. by-test (eqb e.binding 2) (λ b. rw (a, b)) (λ b. rw (a, b)))
      (λ a.
      by-test (eqb e.section 0xfff1) (λ b. rw (a, b))
      (λ b.
      by-test (eqb e.section 0xfff2)
      (λ c. by-test (eqb e.binding 0) (λ d. rw (a, b, c, d)) (λ d. by-test (is_power_of_two e.value) (λ f. rw (a, b, c, d, f)) (λ f. rw (a, b, c, d, f))))
      (λ c. rw (a, b, c) (converted-kind _ e.value))))

  common-in : (s v : ℕ) → eqb (in_section s empty v).kind 8 ≡ false
  unfolding in_section
  common-in s v = by-test empty (λ a. by-test (eqb v 0) (λ b. rw (a, b)) (λ b. rw (a, b))) (λ a. rw a)

  common-converted : (c : Conversion) (v : ℕ) → eqb (converted_of c empty v).kind 8 ≡ false
  unfolding converted_of
  common-converted To.Nothing v = refl
  common-converted To.NotLoaded v = refl
  common-converted (To.Section id) v = common-in id.0 v

  -- a common whose value passes
  common-kind : value_refused row ≡ false → common row ≡ is_common (sym_of e)
  unfolding elf_row_of value_of undefined_of common_by_binding common_of is_common
  common-kind p =
      by-test (eqb e.section 0)
      (λ a. let q : e.section ≡ 0 = eqb-true _ _ a in by-test (eqb e.binding 2) (λ b. rw (q, b)) (λ b. rw (q, b)))
      (λ a.
      by-test (eqb e.section 0xfff1) (λ b. let q : e.section ≡ 0xfff1 = eqb-true _ _ b in rw q)
      (λ b.
      by-test (eqb e.section 0xfff2)
      (λ c.
      by-test (eqb e.binding 0) (λ d. absurd (false≢true (sym (rw (a, b, c, d) at p))))
      (λ d. by-test (is_power_of_two e.value) (λ f. rw (a, b, c, d, f)) (λ f. absurd (false≢true (sym (rw (a, b, c, d, f) at p))))))
      (λ c. rw (a, b, c) (common-converted _ e.value))))

  pub elf-zeroes : Zeroes row (sym_of e)
  unfolding elf_row_of value_of undefined_of is_reference is_weak
  elf-zeroes a = by-test (eqb e.binding 2) (λ b. rw (a, b)) (λ b. rw (a, b))

  -- what a visibility that passes says of the binding
  record Bound (code : ℕ) : Type 0 where
    weak-code : weak_of code ≡ is_weak (sym_of e)
    one_of : is_global (sym_of e) ≡ not (is_weak (sym_of e))

  abbrev code : ℕ → ℕ → ℕ → ℕ
  code x y z = cond (eqb e.binding 0) x (cond (eqb e.binding 1) y (cond (eqb e.binding 2) z 12))

  bound-code : (x y z : ℕ) → (x ≢ 0 → refuses_scope x ≡ false → ⊥) → weak_of y ≡ false → weak_of z ≡ true
      → code x y z ≢ 0 → refuses_scope (code x y z) ≡ false → Bound (code x y z)
  unfolding is_weak is_global
  bound-code x y z f g h n p =
      by-test (eqb e.binding 0) (λ a. absurd (f (rw a at n) (rw a at p)))
      (λ a.
      by-test (eqb e.binding 1) (λ b. let q : e.binding ≡ 1 = eqb-true _ _ b in rw q (record { weak-code = g; one_of = refl }))
      (λ b.
      by-test (eqb e.binding 2) (λ c. let q : e.binding ≡ 2 = eqb-true _ _ c in rw q (record { weak-code = h; one_of = refl }))
      (λ c. absurd (false≢true (sym (rw (a, b, c) at p))))))

  bound-judged : judge_of e.binding e.visibility ≢ 0 → refuses_scope (judge_of e.binding e.visibility) ≡ false → Bound (judge_of e.binding e.visibility)
  unfolding judge_of shown_of hidden_of weak_of
  bound-judged n p =
      by-test (eqb e.visibility 0) (λ a. rw a (bound-code 0 1 3 (λ z q. z refl) refl refl (rw a at n) (rw a at p)))
      (λ a.
      by-test (eqb e.visibility 2)
      (λ b. rw (a, b) (bound-code 11 2 4 (λ z q. false≢true (sym q)) refl refl (rw (a, b) at n) (rw (a, b) at p)))
      (λ b. absurd (false≢true (sym (rw (a, b) at p)))))

  -- an Elf symbol that isn't local, and whose visibility and value pass
  pub elf-means : row.scope ≢ 0 → scope_refused row ≡ false → value_refused row ≡ false → Means row (sym_of e)
  unfolding elf_row_of
  elf-means z p v =
      let b : Bound (judge_of e.binding e.visibility) = bound-judged z p in
      record { refers = reference-kind; commonly = common-kind v; weakly = b.weak-code; bound = b.one_of }

  -- a shared object's definition, which becomes a row without type and value, a common one too
  pub external-means : (gabi profile : Bool) → eqb e.section 0 ≡ false → (external_row_of gabi name e.binding e.visibility).scope ≢ 0
      → scope_refused (external_row_of gabi name e.binding e.visibility) ≡ false → Means (external_row_of gabi name e.binding e.visibility) (shared_entry profile (sym_of e))
  unfolding external_row_of is_reference is_common is_weak is_global
  external-means gabi profile d z p =
      let k : ℕ = judge_of e.binding e.visibility in
      let b : Bound k = bound-judged (λ q. z (eqb-true _ _ (library-local gabi k ∙ eq-eqb k 0 q))) (sym (library-refused gabi k) ∙ p) in
      record {
        refers = by-test (eqb e.section 0xfff2) (λ c. rw c) (λ c. rw (c, d));
        commonly = by-test (eqb e.section 0xfff2) (λ c. rw c) (λ c. rw (c, c));
        weakly = library-weak gabi k ∙ b.weak-code;
        bound = b.one_of;
      }

-- ---- lists: a test on rows and the same test on symbols

module _ (p : Row → Bool) (g : Sym → Bool) where
  abbrev pub Match : List Row → List Sym → Type 0
  Match [] [] = Unit {0}
  Match [] (s ∷ ss) = ⊥
  Match (r ∷ rs) [] = ⊥
  Match (r ∷ rs) (s ∷ ss) = (p r ≡ g s) × Match rs ss

  pub counts : (rs : List Row) (ss : List Sym) → Match rs ss → Gabi.count g ss ≡ count p rs
  unfolding Gabi.count
  counts [] [] m = refl
  counts [] (s ∷ ss) m = absurd m
  counts (r ∷ rs) [] m = absurd m
  counts (r ∷ rs) (s ∷ ss) m = let i = counts rs ss m.1 in rw m.0 (ap (cond (g s) (suc (Gabi.count g ss))) i ∙ ap (λ (k : ℕ). cond (g s) (suc k) (count p rs)) i)

  pub place : (rs : List Row) (ss : List Sym) (d c : Row) → Match rs ss → 0 < count p rs → first p rs d ≡ get_or rs (Gabi.first g ss) c
  unfolding Gabi.first
  place [] ss d c m h = absurd (not-suc-le-zero h)
  place (r ∷ rs) [] d c m h = absurd m
  place (r ∷ rs) (s ∷ ss) d c m h =
      by-test (g s) (λ t. rw (m.0, t)) (λ t. rw (m.0, t) (place rs ss d c m.1 (rw (m.0, t) at h)))

  pub first_passes : (rs : List Row) (d : Row) → 0 < count p rs → p (first p rs d) ≡ true
  first_passes [] d h = absurd (not-suc-le-zero h)
  first_passes (r ∷ rs) d h = by-test (p r) (λ t. rw t t) (λ t. rw t (first_passes rs d (rw t at h)))

  pub first-none : (rs : List Row) (d : Row) → count p rs ≡ 0 → first p rs d ≡ d
  first-none [] d h = refl
  first-none (r ∷ rs) d h = by-test (p r) (λ t. absurd (never (rw t at h))) (λ t. rw t (first-none rs d (rw t at h)))
    where
      never : {n : ℕ} → suc n ≡ 0 → ⊥
      never q = omega arith
