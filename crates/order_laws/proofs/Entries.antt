-- The row that an add of the list would become: it passes, and it is what its entry says.
-- Assumes nothing.
use Rattle.std.specs.Prelude.{ℕ, zero, suc, ◌+◌, ◌-◌, ◌*◌, ◌<◌, ◌≤◌, ◌≡◌, refl, Bool, true, false, cond, not, ◌&&◌, List, ◌≢◌, eqb, ltb, get_or, length, Option}
use Rattle.std.proofs.Common.{arith, sym, ap, ◌∙◌, subst, eqb-true, eq-eqb, ne_eqb, lt-ltb, le-ltb}
use Rattle.std.proofs.lemmas.Bool.{false≢true, eqb-false}
use Rattle.cells.specs.Proof.Split.{by-test}
use Rattle.gabi.specs.SymbolTable.{stv_hidden, is_local, is_global, is_reference, is_definition}
use Rattle.link.specs.declared.Link.{Link}
use Rattle.link.specs.declared.Interned.{Interned}
use Rattle.link.specs.declared.SectionId.{SectionId}
use Rattle.link.specs.Bounds.{section_slots}
use Rattle.symbol.specs.declared.Row.{Row}
use Rattle.symbol.specs.declared.Words.{Words}
use Rattle.symbol.specs.declared.SymbolValue.TheVariants as Val
use Rattle.symbol.specs.Hidden.{hide_code}
use Rattle.symbol.specs.declared.SymbolVisibility.TheVariants.{Global}
use Rattle.symbol.specs.Codes.{visibility_at}
use Rattle.symbol.specs.Layout.{refuses_scope, refuses_value}
use Rattle.symbol.specs.Row.{scope_refused, value_refused}
use Rattle.symbol_resolution.specs.Decide.{weak_of, type_refusal, section_cell, section_room}
use Rattle.symbol_resolution.specs.Proof.Outcomes.{is_local_row}
use Rattle.upcoming_symbol.specs.declared.ElfSymbol.{ElfSymbol}
use Rattle.upcoming_symbol.specs.declared.UpcomingSymbol.TheVariants.{Elf}
use Rattle.upcoming_symbol.specs.Judge.{section_in_range, elf_in_range, shown_of, hidden_of, judge_of}
use Rattle.upcoming_symbol.specs.Upcoming.{in_section, conversion_from, converted_of, undefined_of, value_of, elf_row_of, row_of}
use Rattle.symbol_laws.specs.DirectContents.{ElfValue}
use Rattle.symbol_laws.specs.Gabi.{sym_of}
use Rattle.symbol_laws.specs.Hidden.{hides, is_hidden}
use Rattle.symbol_laws.specs.Rank as Rank
use Rattle.order_laws.specs.Premises.{TypeInRange, ScopePasses, shown, hidden, SectionPasses, undefined, absolute, converted, is_strong_definition}
use Rattle.order_laws.specs.Order.{is_hidden_global}

-- ---- binding and visibility

-- five pairs pass
module _ (P : ℕ → ℕ → Type 0) (l : P 0 0) (g : P 1 0) (w : P 2 0) (gh : P 1 2) (wh : P 2 2) where
  low : (b : ℕ) → b ≤ 2 → P b 0
  low zero h = l
  low (suc zero) h = g
  low (suc (suc zero)) h = w
  low (suc (suc (suc b))) h = absurd (omega arith)

  seen : (b : ℕ) → b ≤ 2 → b ≢ 0 → P b 2
  seen zero h u = absurd (u refl)
  seen (suc zero) h u = gh
  seen (suc (suc zero)) h u = wh
  seen (suc (suc (suc b))) h u = absurd (omega arith)

  scope-by : (e : ElfSymbol) → ScopePasses e → P e.binding e.visibility
  scope-by e (shown v b) = subst (P e.binding) (sym v) (low e.binding b)
  scope-by e (hidden v b u) = subst (P e.binding) (sym v) (seen e.binding b u)

module _ (e : ElfSymbol) (p : ScopePasses e) where
  abbrev code : ℕ
  code = judge_of e.binding e.visibility

  code-passes : refuses_scope code ≡ false
  unfolding judge_of shown_of hidden_of
  code-passes = scope-by (λ b v. refuses_scope (judge_of b v) ≡ false) refl refl refl refl refl e p

  code-local : eqb code 0 ≡ is_local (sym_of e)
  unfolding judge_of shown_of hidden_of is_local
  code-local = scope-by (λ b v. eqb (judge_of b v) 0 ≡ eqb b 0) refl refl refl refl refl e p

  code-weak : is_local (sym_of e) ≡ false → not (weak_of code) ≡ is_global (sym_of e)
  unfolding judge_of shown_of hidden_of is_local is_global weak_of
  code-weak =
      scope-by (λ b v. eqb b 0 ≡ false → not (weak_of (judge_of b v)) ≡ eqb b 1) (λ z. absurd (false≢true (sym z))) (λ z. refl) (λ z. refl)
      (λ z. refl) (λ z. refl) e p

  code-shown : is_global (sym_of e) ≡ true → visibility_at code ≡ Global false (eqb e.visibility 2)
  unfolding judge_of shown_of hidden_of is_global visibility_at
  code-shown =
      scope-by (λ b v. eqb b 1 ≡ true → visibility_at (judge_of b v) ≡ Global false (eqb v 2)) (λ z. absurd (false≢true z)) (λ z. refl) (λ z. absurd (false≢true z))
      (λ z. refl) (λ z. absurd (false≢true z)) e p

  code-hides : is_global (sym_of e) ≡ true → visibility_at (hide_code code) ≡ Global false true
  unfolding judge_of shown_of hidden_of is_global visibility_at hide_code
  code-hides =
      scope-by (λ b v. eqb b 1 ≡ true → visibility_at (hide_code (judge_of b v)) ≡ Global false true) (λ z. absurd (false≢true z)) (λ z. refl) (λ z. absurd (false≢true z))
      (λ z. refl) (λ z. absurd (false≢true z)) e p

  code-hidden : hides (visibility_at code) ≡ is_hidden_global e
  unfolding judge_of shown_of hidden_of is_local visibility_at
  code-hidden = scope-by (λ b v. hides (visibility_at (judge_of b v)) ≡ (not (eqb b 0) && eqb v 2)) refl refl refl refl refl e p

  scope-in : (ltb 15 e.binding ≡ false) × (ltb 3 e.visibility ≡ false)
  scope-in = scope-by (λ b v. (ltb 15 b ≡ false) × (ltb 3 v ≡ false)) (refl, refl) (refl, refl) (refl, refl) (refl, refl) (refl, refl) e p

-- ---- type and section

module _ (conversion : List ℕ) (e : ElfSymbol) (empty : Bool) where
  abbrev cell : ℕ
  cell = get_or conversion e.section 0

  abbrev value : Words
  value = value_of (conversion_from cell) e empty

  -- undefined, absolute, not loaded, the section itself or in it
  data Value : Type 0 where
    reference : eqb e.section 0 ≡ true → value.kind ≡ 7 → Value
    definition : (k : ℕ) → eqb e.section 0 ≡ false → value.kind ≡ k → k < 7 → k ≢ 2 → Value
    whole : eqb e.section 0 ≡ false → value.kind ≡ 2 → ElfValue conversion empty e (Val.Section (record { 0 = value.a })) → Value

  referred : eqb e.section 0 ≡ true → Value
  unfolding value_of undefined_of
  referred a = by-test (eqb e.binding 2) (λ b. reference a (rw (a, b))) (λ b. reference a (rw (a, b)))

  two-more : (n : ℕ) → n ≢ 0 → n ≢ 1 → n ≡ n - 2 + 2
  two-more zero u v = absurd (u refl)
  two-more (suc zero) u v = absurd (v refl)
  two-more (suc (suc n)) u v = omega arith

  module _ (a : eqb e.section 0 ≡ false) (b : eqb e.section 0xfff1 ≡ false) (c : eqb e.section 0xfff2 ≡ false) (z : eqb cell 0 ≡ false) where
    in-section : eqb cell 1 ≡ false → Value
    unfolding value_of converted_of conversion_from in_section
    in-section d =
        by-test empty
        (λ x.
        by-test (eqb e.value 0)
        (λ y.
        let q : value.a ≡ cell - 2 = rw (a, b, c, z, d, x, y) in
        whole a (rw (a, b, c, z, d, x, y))
        (subst (λ (i : ℕ). ElfValue conversion empty e (Val.Section (record { 0 = i }))) (sym q)
        (ElfValue.whole (cell - 2) (eqb-false _ _ a) (eqb-false _ _ c) (two-more cell (eqb-false _ _ z) (eqb-false _ _ d)) (rw (x, y)))))
        (λ y. definition 3 a (rw (a, b, c, z, d, x, y)) (omega arith) (λ q. omega arith)))
        (λ x. definition 3 a (rw (a, b, c, z, d, x)) (omega arith) (λ q. omega arith))

    converted-is : Value
    unfolding value_of converted_of conversion_from
    converted-is =
        by-test (eqb cell 1) (λ d. definition 5 a (rw (a, b, c, z, d)) (omega arith) (λ q. omega arith)) in-section

  value-is : SectionPasses conversion e → Value
  unfolding value_of
  value-is (undefined q) = referred (eq-eqb _ _ q)
  value-is (absolute q) =
      definition 1 (ne_eqb _ _ (λ z. omega arith)) (rw (ne_eqb e.section 0 (λ z. omega arith), eq-eqb _ _ q)) (omega arith) (λ q. omega arith)
  value-is (converted h n) =
      by-test (eqb e.section 0) referred
      (λ a. converted-is a (ne_eqb _ _ (λ q. omega arith)) (ne_eqb _ _ (λ q. omega arith)) (ne_eqb _ _ n))

-- no number of a refusal
kind-low : (n : ℕ) → n < 7 → refuses_value n ≡ false
kind-low n h =
    by-test (eqb n 0) (λ a. rw (eqb-true n 0 a))
    (λ a.
    by-test (eqb n 1) (λ b. rw (eqb-true n 1 b))
    (λ b.
    by-test (eqb n 2) (λ c. rw (eqb-true n 2 c))
    (λ c.
    by-test (eqb n 3) (λ d. rw (eqb-true n 3 d))
    (λ d.
    by-test (eqb n 4) (λ e. rw (eqb-true n 4 e))
    (λ e.
    by-test (eqb n 5) (λ f. rw (eqb-true n 5 f))
    (λ f. let q : n ≡ 6 = six n h (eqb-false _ _ a) (eqb-false _ _ b) (eqb-false _ _ c) (eqb-false _ _ d) (eqb-false _ _ e) (eqb-false _ _ f) in rw q))))))
  where
    six : (n : ℕ) → n < 7 → n ≢ 0 → n ≢ 1 → n ≢ 2 → n ≢ 3 → n ≢ 4 → n ≢ 5 → n ≡ 6
    six n h a b c d e f = omega (arith, a, b, c, d, e, f)

-- ---- the row

module _ (gabi : Bool) (conversion : List ℕ) (e : ElfSymbol) (name : Interned) (file : Option Interned) (empty : Bool) where
  abbrev pub row : Row
  row = row_of gabi conversion (Elf e name file) empty

  pub named-as : row.name ≡ name
  unfolding elf_row_of
  named-as = refl

  module _ (p : ScopePasses e) where
    pub scope-passes : scope_refused row ≡ false
    unfolding elf_row_of
    scope-passes = code-passes e p

    pub local-is : is_local_row row ≡ is_local (sym_of e)
    unfolding elf_row_of
    local-is = code-local e p

    pub hidden-is : is_hidden row ≡ is_hidden_global e
    unfolding elf_row_of
    hidden-is = code-hidden e p

    pub shown-is : is_global (sym_of e) ≡ true → visibility_at row.scope ≡ Global false (eqb e.visibility stv_hidden)
    unfolding elf_row_of
    shown-is = code-shown e p

    pub hides-is : is_global (sym_of e) ≡ true → visibility_at (hide_code row.scope) ≡ Global false true
    unfolding elf_row_of
    hides-is = code-hides e p

  pub type-passes : TypeInRange e → eqb (type_refusal row.kind) 0 ≡ true
  unfolding elf_row_of type_refusal
  type-passes h = rw (lt-ltb e.kind 4 (omega arith))

  module _ (q : SectionPasses conversion e) where
    pub value-passes : value_refused row ≡ false
    unfolding elf_row_of
    value-passes = by (value-is conversion e empty q)
      where
        by : Value conversion e empty → refuses_value (value conversion e empty).kind ≡ false
        by (reference a k) = rw k
        by (definition n a k h u) = rw k (kind-low n h)
        by (whole a k v) = rw k

    pub common-is : Rank.common row ≡ false
    unfolding elf_row_of
    common-is = by (value-is conversion e empty q)
      where
        by : Value conversion e empty → eqb (value conversion e empty).kind 8 ≡ false
        by (reference a k) = rw k
        by (definition n a k h u) = rw k (ne_eqb n 8 (λ z. omega arith))
        by (whole a k v) = rw k

    pub reference-is : eqb row.value.kind 7 ≡ is_reference (sym_of e)
    unfolding elf_row_of is_reference
    reference-is = by (value-is conversion e empty q)
      where
        by : Value conversion e empty → eqb (value conversion e empty).kind 7 ≡ eqb e.section 0
        by (reference a k) = rw (k, a)
        by (definition n a k h u) = rw (k, a) (ne_eqb n 7 (λ z. omega arith))
        by (whole a k v) = rw (k, a)

    -- a local section symbol has its section's cell
    pub section-fits : (l : Link) (sections : List ℕ) → l.slots ≡ section_slots (length sections)
        → (is_local (sym_of e) ≡ true → (id : SectionId) → ElfValue conversion empty e (Val.Section id) → id.0 < l.slots) → ScopePasses e
        → section_room l sections row ≡ true
    unfolding section_room section_cell elf_row_of
    section-fits l sections lent fits p =
        by-test (is_local (sym_of e))
        (λ a. rw (code-local e p ∙ a) (by (value-is conversion e empty q) (fits a))) (λ a. rw (code-local e p ∙ a))
      where
        by : Value conversion e empty → ((id : SectionId) → ElfValue conversion empty e (Val.Section id) → id.0 < l.slots)
            → cond (eqb (value conversion e empty).kind 2) (cond (ltb (section_cell l (length sections) (value conversion e empty).a) (length sections)) true false) true ≡ true
        by (reference a k) c = rw k
        by (definition n a k h u) c = rw (k, ne_eqb n 2 u)
        by (whole a k v) c =
            let h : (value conversion e empty).a < l.slots = c (record { 0 = (value conversion e empty).a }) v in
            rw (k, le-ltb (section_slots (length sections)) l.slots (omega arith), lt-ltb _ _ h, lt-ltb (l.slots * 8 + (value conversion e empty).a) (length sections) (omega arith))

    -- of a definition not local
    pub strong-is : ScopePasses e → is_local (sym_of e) ≡ false → Rank.strong_definition row ≡ is_strong_definition e
    unfolding is_definition elf_row_of
    strong-is p n =
        ap (λ (b : Bool). (not b && not (Rank.common row)) && not (weak_of row.scope)) reference-is
        ∙ ap (λ (c : Bool). (not (is_reference (sym_of e)) && not c) && not (weak_of row.scope)) common-is
        ∙ ap (λ (b : Bool). b && not (weak_of row.scope)) (alone (not (is_reference (sym_of e))))
        ∙ ap (λ (b : Bool). not (is_reference (sym_of e)) && b) (code-weak e p n) ∙ both (not (is_reference (sym_of e))) (is_global (sym_of e))
      where
        alone : (a : Bool) → (a && not false) ≡ a
        alone true = refl
        alone false = refl

        both : (a b : Bool) → (a && b) ≡ (b && a)
        both true true = refl
        both true false = refl
        both false true = refl
        both false false = refl

-- ---- the fields' ranges

pub in-range : (conversion : List ℕ) (e : ElfSymbol) → TypeInRange e → ScopePasses e → SectionPasses conversion e → elf_in_range e ≡ true
unfolding elf_in_range section_in_range
in-range conversion e t p q =
    rw ((scope-in e p).0, le-ltb 15 e.kind (omega arith), (scope-in e p).1) (by q)
  where
    by : SectionPasses conversion e → section_in_range e.section ≡ true
    by (undefined z) = rw z
    by (absolute z) = rw z
    by (converted h n) = rw (lt-ltb e.section 0xff00 h)
