-- Which refusals an add can give, by the row that is added.
-- Assumes nothing.
use Prim.Native.Nat.{ℕ}
use Rattle.std.specs.Prelude.{◌≡◌, Bool, false, List, eqb, ltb, get_or}
use Rattle.std.proofs.Math.Bool.{true}
use Rattle.std.proofs.lemmas.Bool.{false≢true}
use Rattle.byte_slices.specs.Proof.Ways.{pick}
use Rattle.link.specs.declared.Link.{Link}
use Rattle.link.specs.declared.Interned.{Interned}
use Rattle.symbol.specs.declared.Row.{Row}
use Rattle.symbol.specs.declared.Words.{Words}
use Rattle.symbol.specs.declared.SymbolValue.{SymbolValue}
use Rattle.symbol.specs.declared.SymbolValue.TheVariants as Val
use Rattle.symbol.specs.Layout.{refuses_scope, refuses_value}
use Rattle.symbol.specs.Row.{scope_refused, scope_refusal, value_refused, value_refusal}
use Rattle.upcoming_symbol.specs.declared.ElfSymbol.{ElfSymbol}
use Rattle.upcoming_symbol.specs.declared.UpcomingSymbol.{UpcomingSymbol}
use Rattle.upcoming_symbol.specs.declared.UpcomingSymbol.TheVariants.{Null, GlobalUnknown, GlobalHidden, Section, ExternallyDefined, Elf}
use Rattle.upcoming_symbol.specs.Judge.{shown_of, hidden_of, judge_of}
use Rattle.upcoming_symbol.specs.declared.Conversion.{Conversion}
use Rattle.upcoming_symbol.specs.declared.Conversion.TheVariants as To
use Rattle.std.specs.Int.{is_power_of_two}
use Rattle.upcoming_symbol.specs.Upcoming.{in_section, conversion_from, converted_of, undefined_of, value_of, elf_row_of, external_row_of, row_of, common_of, common_by_binding, given_words}
use Rattle.symbol_resolution.specs.declared.rows.Holder.{Holder}
use Rattle.symbol_resolution.specs.Decision.{Decision}
use Rattle.symbol_resolution.specs.Decide.{type_refusal, decide_of, refusal_of}
use Rattle.symbol_resolution.specs.Proof.Outcomes.{decision-number}
use Rattle.symbol_laws.proofs.Standing.{library-holds}

apart : {P : Type 0} → false ≡ true → P
apart e = absurd (false≢true e)

-- of some numbers, 0, 2, 17 and 21 among them
module _ (In : ℕ → Type 0) (in0 : In 0) (in2 : In 2) (in17 : In 17) (in21 : In 21) where
  abbrev Decided : Decision → Type 0
  Decided d = In (refusal_of d)

  -- a row's fields may hold the number of a refusal
  pub record Fields (r : Row) : Type 0 where
    pub shown : scope_refused r ≡ true → In (scope_refusal r)
    pub valued : value_refused r ≡ true → In (value_refusal r)
    pub typed : In (type_refusal r.kind)

  pub decide-numbers : (l : Link) (symbols sections : List ℕ) (r : Row) → Fields r → (h : Holder) → Decided (decide_of l symbols sections r h)
  decide-numbers l symbols sections r f h =
      decision-number l symbols sections r In h in0 in2 (λ a. in21) (λ id p m. in17) f.shown f.valued f.typed

  -- ---- binding and visibility: 10, 11, 12

  module _ (in10 : In 10) (in11 : In 11) (in12 : In 12) where
    judged-shown : (b v : ℕ) → refuses_scope (judge_of b v) ≡ true → In (judge_of b v)
    unfolding judge_of shown_of hidden_of
    judged-shown b v =
        pick P (eqb v 0) _ _
        (λ t. pick P (eqb b 0) _ _ (λ t e. apart e) (λ t. pick P (eqb b 1) _ _ (λ t e. apart e) (λ t. pick P (eqb b 2) _ _ (λ t e. apart e) (λ t e. in12))))
        (λ t.
        pick P (eqb v 2) _ _
        (λ t. pick P (eqb b 0) _ _ (λ t e. in11) (λ t. pick P (eqb b 1) _ _ (λ t e. apart e) (λ t. pick P (eqb b 2) _ _ (λ t e. apart e) (λ t e. in12))))
        (λ t e. in10))
      where
        P : ℕ → Type 0
        P k = refuses_scope k ≡ true → In k

    -- a symbol of a shared object
    pub external-fields : (gabi : Bool) (name : Interned) (binding visibility : ℕ) → Fields (external_row_of gabi name binding visibility)
    unfolding external_row_of type_refusal
    external-fields gabi name binding visibility =
        record { shown = library-holds In gabi (judge_of binding visibility) (judged-shown binding visibility); valued = λ e. apart e; typed = in0 }

    -- ---- values and types: 13, 28, 14, 15, 16

    module _ (in13 : In 13) (in28 : In 28) (in14 : In 14) (in15 : In 15) (in16 : In 16) where
      abbrev Valued : Words → Type 0
      Valued w = refuses_value w.kind ≡ true → In w.kind

      judged-converted : (c : Conversion) (empty : Bool) (v : ℕ) → Valued (converted_of c empty v)
      unfolding converted_of in_section
      judged-converted To.Nothing empty v = λ e. in14
      judged-converted To.NotLoaded empty v = λ e. apart e
      judged-converted (To.Section id) empty v =
          pick Valued empty _ _ (λ t. pick Valued (eqb v 0) _ _ (λ t e. apart e) (λ t e. apart e)) (λ t e. apart e)

      judged-valued : (c : Conversion) (e : ElfSymbol) (empty : Bool) → Valued (value_of c e empty)
      unfolding value_of undefined_of common_by_binding common_of
      judged-valued c e empty =
          pick Valued (eqb e.section 0) _ _ (λ t. pick Valued (eqb e.binding 2) _ _ (λ t e. apart e) (λ t e. apart e))
          (λ t.
          pick Valued (eqb e.section 0xfff1) _ _ (λ t e. apart e)
          (λ t.
          pick Valued (eqb e.section 0xfff2) _ _
          (λ t. pick Valued (eqb e.binding 0) _ _ (λ t e. in13) (λ t. pick Valued (is_power_of_two e.value) _ _ (λ t e. apart e) (λ t e. in28)))
          (λ t. judged-converted c empty e.value)))

      typed-numbers : (k : ℕ) → In (type_refusal k)
      unfolding type_refusal
      typed-numbers k = pick In (ltb k 4) _ _ (λ t. in0) (λ t. pick In (eqb k 4) _ _ (λ t. in15) (λ t. in16))

      common-valued : (a : ℕ) → Valued (common_of a)
      unfolding common_of
      common-valued a = pick Valued (is_power_of_two a) _ _ (λ t e. apart e) (λ t e. in28)

      words-valued : (v : SymbolValue) → Valued (given_words v)
      unfolding given_words common_of
      words-valued Val.Null e = apart e
      words-valued (Val.Absolute v) e = apart e
      words-valued (Val.Section s) e = apart e
      words-valued (Val.SectionRelative s z) e = apart e
      words-valued (Val.SectionVirtualAddress s v) e = apart e
      words-valued Val.SectionNotLoaded e = apart e
      words-valued Val.ExternallyDefined e = apart e
      words-valued (Val.Undefined zero) e = apart e
      words-valued (Val.Common a) e = common-valued a e

      -- a symbol that is added directly
      pub upcoming-fields : (gabi : Bool) (conversion : List ℕ) (u : UpcomingSymbol) (empty : Bool) → Fields (row_of gabi conversion u empty)
      unfolding elf_row_of
      upcoming-fields gabi conversion Null empty = record { shown = λ e. apart e; valued = λ e. apart e; typed = typed-numbers 0 }
      upcoming-fields gabi conversion (GlobalUnknown name) empty = record { shown = λ e. apart e; valued = λ e. apart e; typed = typed-numbers 0 }
      upcoming-fields gabi conversion (GlobalHidden name value) empty = record { shown = λ e. apart e; valued = words-valued value; typed = typed-numbers 0 }
      upcoming-fields gabi conversion (Section section) empty = record { shown = λ e. apart e; valued = λ e. apart e; typed = typed-numbers 3 }
      upcoming-fields gabi conversion (ExternallyDefined name visibility binding) empty = external-fields gabi name binding visibility
      upcoming-fields gabi conversion (Elf elf name file) empty =
          record {
            shown = judged-shown elf.binding elf.visibility;
            valued = judged-valued (conversion_from (get_or conversion elf.section 0)) elf empty;
            typed = typed-numbers elf.kind;
          }
