-- The adds of a list, one by one.
-- Assumes nothing.
use Rattle.std.specs.Prelude.{ℕ, ◌+◌, ◌-◌, ◌<◌, ◌≤◌, ◌≡◌, refl, List, [], ◌∷◌, Option, eqb}
use Rattle.std.proofs.Math.Nat.{sub-zero}
use Rattle.std.proofs.Common.{arith, sym, subst, ◌∙◌, eq-eqb, ne_eqb}
use Rattle.std.proofs.lemmas.Bool.{eqb-false}
use Rattle.cells.specs.Proof.Split.{by-test}
use Rattle.link.specs.declared.Interned.{Interned}
use Rattle.link.specs.Judge.{none}
use Rattle.link.specs.Said.{Said, accepted, refusing}
use Rattle.symbol.specs.declared.Row.{Row}
use Rattle.symbol_resolution.specs.Decision.{Decision}
use Rattle.symbol_resolution.specs.Decide.{refusal_of}
use Rattle.symbol_resolution.specs.Apply.{Table}
use Rattle.symbols.specs.Add.{judge_add_of, committed_of, add_row_of, lent, add_of}
use Rattle.upcoming_symbol.specs.declared.UpcomingSymbol.{UpcomingSymbol}
use Rattle.elf_object.specs.Rows.{rows_in}
use Rattle.elf_object.specs.Proof.Ways.{one_less}
use Rattle.add_list.specs.AddList.{item_at, items_from, items_of, ListLeft, list_left, turn_of, adds_of}

-- a refusal has a number
abbrev pub Numbered : Said → Type 0
Numbered (accepted v) = Unit {0}
Numbered (refusing r) = r.number ≡ 0 → ⊥

committed-numbered : (t : Table) (r : Row) (file : Option Interned) (d : Decision) → Numbered (committed_of t r file d).said
unfolding committed_of
committed-numbered t r file d =
    by-test (eqb (refusal_of d) 21) (λ a. rw a (λ e. omega arith))
    (λ a. by-test (eqb (refusal_of d) 0) (λ b. rw (a, b) tt) (λ b. rw (a, b) (eqb-false _ _ b)))

pub added-numbered : (t : Table) (conversion : List ℕ) (u : UpcomingSymbol) → Numbered (add_of t conversion u).said
unfolding add_of add_row_of
added-numbered t conversion u =
    by-test (eqb (judge_add_of t.link (lent t) u).number 0) (λ a. rw a (committed-numbered _ _ _ _)) (λ a. rw a (eqb-false _ _ a))

-- the loop: at position k the rest gives from here what all give from the start. Shut, so that a search tells two of them apart at once
unfoldable pub Reached : ℕ → List ℕ → List ℕ → ℕ → ListLeft → ListLeft → Type 0
Reached k conversion adds rows s₀ s = adds_of conversion (items_of adds) s₀ 0 ≡ adds_of conversion (items_from adds (rows - k) k) s k

-- the adds do not read what was answered before them
adds-same : (conversion : List ℕ) (us : List UpcomingSymbol) (s : ListLeft) (k : ℕ) → adds_of conversion us s k ≡ adds_of conversion us (list_left s.table s.ids none 0) k
unfolding adds_of turn_of
adds-same conversion [] s k = refl
adds-same conversion (u ∷ us) s k = refl

module _ (conversion adds : List ℕ) (s₀ : ListLeft) where
  pub reached-start : Reached 0 conversion adds (rows_in adds) s₀ s₀
  unfolding Reached items_of
  reached-start = rw (sub-zero (rows_in adds))

  -- all are added
  module _ (rows k : ℕ) (s : ListLeft) where
    pub reached-end : Reached k conversion adds rows s₀ s → rows ≤ k → k ≤ rows → list_left s.table s.ids none rows ≡ adds_of conversion (items_of adds) s₀ 0
    unfolding Reached items_from adds_of
    reached-end q h g =
        let n : rows - k ≡ 0 = omega arith in
        let all : k ≡ rows = omega arith in
        subst (λ (j : ℕ). list_left s.table s.ids none j ≡ adds_of conversion (items_of adds) s₀ 0) all (sym (q ∙ rw n))

    -- an add does not read the last one's answer
    module _ (w : ListLeft) (more : k < rows) (e : w ≡ turn_of conversion (item_at adds k) (list_left s.table s.ids none 0) k) where
      turned : w ≡ turn_of conversion (item_at adds k) s k
      unfolding turn_of
      turned = e

      pub reached-stop : Reached k conversion adds rows s₀ s → (w.refusal.number ≡ 0 → ⊥) → w ≡ adds_of conversion (items_of adds) s₀ 0
      unfolding Reached items_from adds_of
      reached-stop q f = sym (q ∙ rw (one_less rows k more) (simp (← turned, ne_eqb _ _ f)))

      pub reached-on : Reached k conversion adds rows s₀ s → w.refusal.number ≡ 0 → Reached (k + 1) conversion adds rows s₀ (list_left w.table w.ids none 0)
      unfolding Reached items_from adds_of
      reached-on q f =
          q ∙ rw (one_less rows k more) (simp (← turned, eq-eqb _ _ f)) ∙ adds-same conversion (items_from adds (rows - (k + 1)) (k + 1)) w (k + 1)
