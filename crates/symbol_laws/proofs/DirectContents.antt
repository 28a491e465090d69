-- Theorems over specs/DirectContents.antt.
-- Assumes nothing.
use Prim.Native.Nat.{ℕ, zero, suc, ◌+◌, ◌-◌, ◌<◌, ◌≤◌}
use native.Mathlib.Omega.{arith}
use Rattle.std.specs.Prelude.{◌≡◌, Bool, true, false, ◌&&◌, List, ◌≢◌, ℤ, eqb, leb, get_or, Option, None, Some}
use Rattle.std.proofs.Math.Path.{refl}
use Rattle.std.specs.Int.{is_power_of_two}
use Rattle.std.proofs.Common.{cond, ◌∙◌, sym, ap}
use Rattle.std.proofs.lemmas.Bool.{false≢true}
use borrow.Author.Tests.{eqb-true, eqb-false, leb-true, leb-false, lt-ltb, ne_eqb}
use Rattle.cells.specs.Proof.Split.{by-test}
use Rattle.gabi.specs.SymbolTable.{stb_weak, shn_undef, shn_abs, shn_common}
use Rattle.link.specs.declared.Interned.{Interned}
use Rattle.link.specs.Said.{number_in}
use Rattle.symbol.specs.declared.Row.{Row}
use Rattle.symbol.specs.declared.SymbolValue.{SymbolValue}
use Rattle.symbol.specs.declared.Words.{Words}
use Rattle.symbol.specs.declared.SymbolValue.TheVariants as Val
use Rattle.symbol.specs.Codes.{type_at, visibility_at, value_at, words_are, words_of, successor, file_at, file_cell}
use Rattle.symbol.specs.Proof.Offset.{offset_word}
use Rattle.symbol.specs.Layout.{refuses_value}
use Rattle.symbol.specs.Row.{scope_refused, value_refused}
use Rattle.symbol_resolution.specs.Decision.{Decision}
use Rattle.symbol_resolution.specs.Decide.{refusal_of}
use Rattle.symbol_resolution.specs.Apply.{Table}
use Rattle.upcoming_symbol.specs.declared.ElfSymbol.{ElfSymbol}
use Rattle.upcoming_symbol.specs.declared.UpcomingSymbol.{UpcomingSymbol}
use Rattle.upcoming_symbol.specs.declared.UpcomingSymbol.TheVariants as Up
use Rattle.upcoming_symbol.specs.Upcoming.{in_section, conversion_from, converted_of, undefined_of, common_of, common_by_binding, value_of, elf_row_of, external_row_of, given_words, row_of}
use Rattle.symbols.specs.Add.{committed_of, add_row_of, decided_of, direct_holder_of}
use Rattle.symbol_laws.specs.ContentWords.{IsOffset}
use Rattle.symbol_laws.proofs.ContentWords.{type-is, offset-is, shown-is, admitted-is, shared-is, decided-passes}
use Rattle.symbol_laws.proofs.Alignment.{power-alignment}
use Rattle.symbol_laws.specs.DirectContents.{ElfValue, FileFits, Fitting, FromAdd, Labelled, absolute, common, elf, external, hidden, is_undefined, is_common_value, symbol_of, undefined, unknown, unloaded, whole, within}

-- ---- laws

value-back : (v : SymbolValue) → Fitting v → value_at (words_of v) ≡ v
unfolding value_at
value-back Val.Null f = refl
value-back (Val.Absolute v) f = refl
value-back (Val.Section s) f = refl
value-back (Val.SectionRelative s z) f = ap (λ (z : ℤ). Val.SectionRelative s z) (offset_word z f)
value-back (Val.SectionVirtualAddress s v) f = refl
value-back Val.SectionNotLoaded f = refl
value-back Val.ExternallyDefined f = refl
value-back (Val.Undefined true) f = refl
value-back (Val.Undefined false) f = refl
value-back (Val.Common alignment) f = refl

undefined-back : (v : SymbolValue) → is_undefined (value_at (words_of v)) ≡ is_undefined v
unfolding value_at
undefined-back Val.Null = refl
undefined-back (Val.Absolute v) = refl
undefined-back (Val.Section s) = refl
undefined-back (Val.SectionRelative s z) = refl
undefined-back (Val.SectionVirtualAddress s v) = refl
undefined-back Val.SectionNotLoaded = refl
undefined-back Val.ExternallyDefined = refl
undefined-back (Val.Undefined true) = refl
undefined-back (Val.Undefined false) = refl
undefined-back (Val.Common alignment) = refl

common-back : (v : SymbolValue) → is_common_value (value_at (words_of v)) ≡ is_common_value v
unfolding value_at
common-back Val.Null = refl
common-back (Val.Absolute v) = refl
common-back (Val.Section s) = refl
common-back (Val.SectionRelative s z) = refl
common-back (Val.SectionVirtualAddress s v) = refl
common-back Val.SectionNotLoaded = refl
common-back Val.ExternallyDefined = refl
common-back (Val.Undefined true) = refl
common-back (Val.Undefined false) = refl
common-back (Val.Common alignment) = refl

pub file-back : (file : Option Interned) → FileFits file → file_at (file_cell file) ≡ file
unfolding file_at successor
file-back None h = refl
file-back (Some id) h =
    let p : id.0 + 1 ≢ 0 = λ z. omega arith in
    let q : id.0 + 1 - 1 ≡ id.0 = omega arith in
    rw (lt-ltb id.0 0xffffffffffffffff h, ne_eqb (id.0 + 1) 0 p, q)

no-file : (r : Row) (name : Interned) → r.name ≡ name → r.file ≡ 0 → r.size ≡ 0 → Labelled r name None 0
unfolding file_at
no-file r name e z s = record { named = e; filed = λ h. rw z; sized = s }

committed-passes : (t : Table) (r : Row) (d : Decision) → number_in (committed_of t r None d).said ≡ 0 → refusal_of d ≡ 0
unfolding committed_of
committed-passes t r d z =
    by-test (eqb (refusal_of d) 21) (λ a. let q : ◌≡◌ {A = ℕ} 21 0 = rw a at z in absurd (omega arith))
    (λ a. by-test (eqb (refusal_of d) 0) (λ b. eqb-true _ _ b) (λ b. rw (a, b) at z))

pub row-passes : (t : Table) (r : Row) → number_in (add_row_of t r None).said ≡ 0 → (scope_refused r ≡ false) × (value_refused r ≡ false)
unfolding add_row_of decided_of
row-passes t r z =
    decided-passes t.link t.symbols t.sections r (direct_holder_of t.link t.names t.symbols r.name None)
    (committed-passes t r (decided_of t r None) z)

-- a value that is handed in and passes is the row's
given-own : (v : SymbolValue) → refuses_value (given_words v).kind ≡ false → given_words v ≡ words_of v
unfolding given_words common_of
given-own v p =
    by-test (eqb (words_of v).kind 8)
    (λ c. by-test (is_power_of_two (words_of v).a) (λ a. common-words v c a) (λ a. absurd (false≢true (sym (rw (c, a) at p)))))
    (λ c. rw c)
  where
    common-words : (v : SymbolValue) → eqb (words_of v).kind 8 ≡ true → is_power_of_two (words_of v).a ≡ true
        → cond (eqb (words_of v).kind 8) (cond (is_power_of_two (words_of v).a) (words_are 8 (words_of v).a 0) (words_are 28 0 0)) (words_of v) ≡ words_of v
    common-words Val.Null c a = absurd (false≢true c)
    common-words (Val.Absolute v) c a = absurd (false≢true c)
    common-words (Val.Section s) c a = absurd (false≢true c)
    common-words (Val.SectionRelative s z) c a = absurd (false≢true c)
    common-words (Val.SectionVirtualAddress s v) c a = absurd (false≢true c)
    common-words Val.SectionNotLoaded c a = absurd (false≢true c)
    common-words Val.ExternallyDefined c a = absurd (false≢true c)
    common-words (Val.Undefined true) c a = absurd (false≢true c)
    common-words (Val.Undefined false) c a = absurd (false≢true c)
    common-words (Val.Common x) c a = rw a

reference-value : (b : ℕ) → value_at (undefined_of b) ≡ Val.Undefined (eqb b stb_weak)
unfolding undefined_of value_at
reference-value b = by-test (eqb b 2) (λ a. rw a) (λ a. rw a)

section-value : (id v : ℕ) (empty : Bool) → (P : SymbolValue → Type 0) → (empty && eqb v 0 ≡ true → P (Val.Section (record { 0 = id })))
    → (empty && eqb v 0 ≡ false → (z : ℤ) → IsOffset v z → P (Val.SectionRelative (record { 0 = id }) z)) → P (value_at (in_section id empty v))
unfolding in_section value_at
section-value id v true P f g = by-test (eqb v 0) (λ a. rw a (f a)) (λ a. rw a (g a _ (offset-is v)))
section-value id v false P f g = g refl _ (offset-is v)

module _ (conversion : List ℕ) (empty : Bool) (e : ElfSymbol) where
  abbrev cell : ℕ
  cell = get_or conversion e.section 0

  converted-value : e.section ≢ shn_undef → e.section ≢ shn_common → refuses_value (converted_of (conversion_from cell) empty e.value).kind ≡ false → ElfValue conversion empty e (value_at (converted_of (conversion_from cell) empty e.value))
  unfolding converted_of conversion_from value_at
  converted-value n o p =
      by-test (eqb cell 0) (λ a. absurd (false≢true (sym (rw a at p))))
      (λ a.
      by-test (eqb cell 1) (λ b. rw (a, b) (unloaded n o (eqb-true _ _ b)))
      (λ b.
      let u : cell ≢ 0 = eqb-false _ _ a in
      let v : cell ≢ 1 = eqb-false _ _ b in
      let w : cell ≡ cell - 2 + 2 = more cell u v in
      rw (a, b) (section-value (cell - 2) e.value empty (ElfValue conversion empty e) (λ q. whole (cell - 2) n o w q) (λ q z x. within (cell - 2) z n o w q x))))
    where
      more : (n : ℕ) → n ≢ 0 → n ≢ 1 → n ≡ n - 2 + 2
      more n u v = by-test (leb n 1) (λ t. absurd (small n (leb-true _ _ t) u v)) (λ t. let h : 1 < n = leb-false _ _ t in omega arith)
        where
          small : (n : ℕ) → n ≤ 1 → n ≢ 0 → n ≢ 1 → ⊥
          small zero h u v = u refl
          small (suc zero) h u v = v refl
          small (suc (suc n)) h u v = omega arith

  elf-value : refuses_value (value_of (conversion_from cell) e empty).kind ≡ false → ElfValue conversion empty e (value_at (value_of (conversion_from cell) e empty))
  unfolding value_of common_by_binding common_of value_at
  elf-value p =
      by-test (eqb e.section 0) (λ a. rw (a, reference-value e.binding) (undefined (eqb-true _ _ a)))
      (λ a.
      by-test (eqb e.section 0xfff1) (λ b. rw (a, b) (absolute (eqb-true _ _ b)))
      (λ b.
      by-test (eqb e.section 0xfff2)
      (λ c.
      by-test (eqb e.binding 0) (λ d. absurd (false≢true (sym (rw (a, b, c, d) at p))))
      (λ d.
      by-test (is_power_of_two e.value)
      (λ f. rw (a, b, c, d, f) (common (eqb-true _ _ c) (eqb-false _ _ d) (λ w. power-alignment e.value w f)))
      (λ f. absurd (false≢true (sym (rw (a, b, c, d, f) at p))))))
      (λ c. rw (a, b, c) (converted-value (eqb-false _ _ a) (eqb-false _ _ c) (rw (a, b, c) at p)))))

-- an accepted add that isn't local
module _ (t : Table) (gabi : Bool) (conversion : List ℕ) (empty : Bool) where
  pub from-add : (u : UpcomingSymbol) → number_in (add_row_of t (row_of gabi conversion u empty) None).said ≡ 0 → (row_of gabi conversion u empty).scope ≢ 0
      → FromAdd gabi conversion empty (row_of gabi conversion u empty) u
  unfolding external_row_of elf_row_of type_at value_at visibility_at
  from-add Up.Null z g = absurd (g refl)
  from-add (Up.Section s) z g = absurd (g refl)
  from-add (Up.GlobalUnknown name) z g = unknown name (no-file _ name refl refl refl) refl refl refl
  from-add (Up.GlobalHidden name value) z g =
      let p = given-own value (row-passes t (row_of gabi conversion (Up.GlobalHidden name value) empty) z).1 in
      hidden name value (no-file _ name refl refl refl) refl refl (λ f. ap value_at p ∙ value-back value f) (ap (λ (w : Words). is_undefined (value_at w)) p ∙ undefined-back value)
      (ap (λ (w : Words). is_common_value (value_at w)) p ∙ common-back value)
  from-add (Up.ExternallyDefined name visibility binding) z g =
      let (p, q) = shared-is gabi (symbol_of binding 0 visibility shn_abs 0) g (row-passes t _ z).0 in
      external name visibility binding p (no-file _ name refl refl refl) refl q refl
  from-add (Up.Elf e name file) z g =
      let (p, q) = row-passes t (row_of gabi conversion (Up.Elf e name file) empty) z in
      elf e name file (admitted-is (symbol_of e.binding e.kind e.visibility e.section e.value) g p) (record { named = refl; filed = file-back file; sized = refl }) (type-is e.kind) (shown-is e.binding e.visibility g p) (elf-value conversion empty e q)
