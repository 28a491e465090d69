-- The symbol stage is its steps.
-- Assumes nothing.
use Rattle.std.specs.Prelude.{ℕ, ◌≡◌, refl, Bool, true, false, cond, List, eqb, length, None}
use Rattle.std.proofs.Common.{sym, ◌∙◌, subst}
use Rattle.std.proofs.lemmas.Bool.{false≢true}
use Rattle.cells.specs.Proof.Split.{by-test}
use Rattle.link.specs.declared.Interned.{Interned}
use Rattle.interner.specs.Names.{store_of, find_of, fits_of, keep_of}
use Rattle.symbol.specs.declared.Row.{Row}
use Rattle.upcoming_symbol.specs.Upcoming.{elf_row_of}
use Rattle.symbol_resolution.specs.Decision.{Decision, Refuse, Nothing, Keep}
use Rattle.symbol_resolution.specs.Decide.{refusal_of}
use Rattle.symbol_resolution.specs.Apply.{Table, apply_of}
use Rattle.symbols.specs.Add.{decided_of}
use Rattle.merge_symbols.specs.Plan.{Planned}
use Rattle.merge_symbols.specs.Plan.{Input, is_first, defines_of, filtered_at, rule_of, judged_of, rowed_of, read_of, planned_of}
use Rattle.merge_symbols.specs.Stage.{accept_row, kept_of, commit_of, view, symbol_named}
use Rattle.merge_symbols.specs.Stage as Symbols
use Rattle.symbol_laws.specs.History.{table, with_store, issue, object, part_next}
use Rattle.merge_laws.specs.Steps.{Makes}
use Rattle.merge_laws.proofs.Committed.{Fair, same, committed, committed-makes}
use Rattle.merge_laws.specs.MergeSteps.{adds_of, adds, planned_steps, named_steps}
use Rattle.merge_laws.specs.SymbolStage.{table_in}

-- what a plan decides, by its tests: fits, first, file, group
abbrev pub chosen : Bool → Bool → Bool → Bool → Decision → Decision
chosen w f g h d = cond w (cond f (Keep (record { 0 = 0 })) (cond g Nothing (cond h Nothing d))) (Refuse 2)

pub chosen-fits : (w f g h : Bool) (d : Decision) → eqb (refusal_of (chosen w f g h d)) 2 ≡ false → w ≡ true
chosen-fits false f g h d e = absurd (false≢true (sym e))
chosen-fits true f g h d e = refl

pub chosen-add : (w f g h : Bool) (d : Decision) → adds_of f g h ≡ true → eqb (refusal_of (chosen w f g h d)) 2 ≡ false → chosen w f g h d ≡ d
unfolding adds_of
chosen-add false f g h d a e = absurd (false≢true (sym e))
chosen-add true true g h d a e = absurd (false≢true a)
chosen-add true false true h d a e = absurd (false≢true a)
chosen-add true false false true d a e = absurd (false≢true a)
chosen-add true false false false d a e = refl

chosen-no : (w f g h : Bool) (d : Decision) → adds_of f g h ≡ false → eqb (refusal_of (chosen w f g h d)) 2 ≡ false
    → (t : Table) (r : Row) → apply_of t r (chosen w f g h d) ≡ t
unfolding adds_of apply_of
chosen-no false f g h d a e t r = absurd (false≢true (sym e))
chosen-no true true g h d a e t r = refl
chosen-no true false true h d a e t r = refl
chosen-no true false false true d a e t r = refl
chosen-no true false false false d a e t r = absurd (false≢true (sym a))

-- one planned symbol: a says whether it is added
module _ (s : Symbols.State) (x : List ℕ) (p : Planned) (i : ℕ) (a : Bool) where
  committed-is : committed (table_in s) x p.id p.row p.decision ≡ table_in (commit_of s x p i)
  unfolding commit_of kept_of accept_row
  committed-is =
      by-test (eqb (refusal_of p.decision) 2) (λ t. rw t)
      (λ t. by-test (eqb (refusal_of p.decision) 0) (λ z. rw (t, z)) (λ z. rw (t, z)))

  commit-makes : Fair (table_in s) x p.id p.row p.decision a → Makes (table_in s) (planned_steps a x p) (table_in (commit_of s x p i))
  commit-makes f =
      subst (Makes (table_in s) (planned_steps a x p)) committed-is
      (committed-makes (table_in s) x p.id p.row p.decision a object f)

-- the stage's own plan is fair
module _ (o : Input) (s : Symbols.State) (x : List ℕ) (i : ℕ) where
  abbrev plan : Planned
  plan = planned_of (view s) o x i s.stage.file

  abbrev pub id : Interned
  id = record { 0 = find_of s.bytes s.names s.stage.link x }

  abbrev room : Bool
  room = fits_of (store_of s.bytes s.names s.stage.link) id (length x)

  abbrev first : Bool
  first = is_first i (eqb (length x) 0) (filtered_at o.entries o.work i)

  abbrev pub file : Bool
  file = eqb (filtered_at o.entries o.work i).kind 4

  abbrev group : Bool
  group = defines_of o.work (filtered_at o.entries o.work i).section

  fair : Fair (table_in s) x plan.id plan.row plan.decision (adds o x i)
  unfolding planned_of read_of rowed_of judged_of rule_of elf_row_of
  fair =
      record {
        found = refl;
        own = refl;
        fits = chosen-fits room first file group _;
        added = chosen-add room first file group _;
        idle = λ b e t. chosen-no room first file group _ b e t _;
      }

  pub plan-id : plan.id ≡ id
  plan-id = fair.found

  -- what a symbol that is added is decided on, before its name is issued and after
  pub plan-decides : adds o x i ≡ true → refusal_of plan.decision ≡ 0 → decided_of (table (part_next (issue x) (table_in s))) plan.row None ≡ plan.decision
  plan-decides b z =
      let two : eqb (refusal_of plan.decision) 2 ≡ false = rw z in
      subst
      (λ (k : Interned). decided_of (table (with_store (table_in s) (keep_of (store_of s.bytes s.names s.stage.link) k x))) plan.row None ≡ plan.decision)
      plan-id
      (same (table_in s) x plan.id plan.row plan.decision (adds o x i) fair two ∙ sym (fair.added b two))

  pub named-makes : Makes (table_in s) (named_steps o s x i) (table_in (symbol_named o s x i))
  unfolding symbol_named named_steps
  named-makes = commit-makes s x plan i (adds o x i) fair
