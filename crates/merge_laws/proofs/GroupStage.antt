-- The group stage is its steps.
-- Assumes nothing.
use Rattle.std.specs.Prelude.{ℕ, ◌+◌, ◌*◌, ◌/◌, true, cond, List, [], eqb, set, length}
use Rattle.std.proofs.Common.{arith, sym, eqb-true}
use Rattle.std.proofs.Math.Path.{◌≡◌, ap}
use Rattle.cells.specs.Proof.Split.{by-test}
use Rattle.link.specs.declared.Link.{Link}
use Rattle.link.specs.declared.Interned.{Interned}
use Rattle.strings.specs.Lookup.{Looked}
use Rattle.interner.specs.Names.{Store, store_of, find_of, fits_of, keep_of}
use Rattle.interner_laws.proofs.Find.{find-low}
use Rattle.elf_object.specs.Rows.{is_loaded}
use Rattle.section_groups.specs.Group.{Plan}
use Rattle.section_groups.specs.Group.{Object, State, listed_in, shape_of, signature_of, repeated_of, plan_with, plan_of, commit_group_of, decided_of, group_named, signed_of, shaped_of, group_of, group_section_of}
use Rattle.section_groups.specs.Group as Group
use Rattle.symbol_laws.specs.History as History
use Rattle.merge_laws.specs.Steps.{Makes}
use Rattle.merge_laws.proofs.Steps.{makes_none}
use Rattle.merge_laws.proofs.Issue.{keep_low}
use Rattle.merge_laws.specs.MergeSteps.{signed_steps, group_section_steps}

module _ (l : Link) (bytes names : List ℕ) (marks : ℕ) (x listed : List ℕ) where
  abbrev pub id : Interned
  id = record { 0 = find_of bytes names l x }

  abbrev plan : Plan
  plan = plan_of l bytes names marks x listed

  pub plan-signature : plan.signature ≡ id
  unfolding plan_of plan_with
  plan-signature = by-test (fits_of (store_of bytes names l) id (length x)) (λ t. rw t) (λ t. rw t)

  pub plan-repeated : plan.repeated ≡ repeated_of names l.names (find_of bytes names l x)
  unfolding plan_of plan_with
  plan-repeated = by-test (fits_of (store_of bytes names l) id (length x)) (λ t. rw t) (λ t. rw t)

  pub plan-fits : plan.number ≡ 0 → fits_of (store_of bytes names l) id (length x) ≡ true
  unfolding plan_of plan_with
  plan-fits e =
      by-test (fits_of (store_of bytes names l) id (length x)) (λ t. t) (λ t. let z : ◌≡◌ {A = ℕ} 2 0 = rw t at e in absurd (omega arith))

-- ---- one section

module _ (symbols sections : List ℕ) where
  -- the table, with the symbols and sections that the stage leaves alone
  abbrev pub table_in : Group.Step → History.State
  table_in s = record { bytes = s.bytes; names = s.names; symbols = symbols; sections = sections; link = s.stage.link }

  abbrev table_at : State → History.State
  table_at s = record { bytes = s.bytes; names = s.names; symbols = symbols; sections = sections; link = s.link }

  module _ (s : State) (x : List ℕ) (n : ℕ) (listed : List ℕ) where
    abbrev p : Plan
    p = plan_of s.link s.bytes s.names (length s.work / 8) x listed

    committed-makes : p.number ≡ 0 → Makes (table_at s) (signed_steps s.bytes s.names s.link x) (table_at (commit_group_of s x p n listed))
    unfolding commit_group_of signed_steps
    committed-makes e =
        record {
          leads =
              ap
              (λ (i : Interned).
              table_at
              (Group.state_of (keep_of (store_of s.bytes s.names s.link) i x).bytes
              (set (keep_of (store_of s.bytes s.names s.link) i x).names (i.0 * 8 + 4) 1) s.work
              (keep_of (store_of s.bytes s.names s.link) i x).link))
              (sym (plan-signature s.link s.bytes s.names (length s.work / 8) x listed));
          accepted =
              let f = plan-fits s.link s.bytes s.names (length s.work / 8) x listed e in
              let st : Store = store_of s.bytes s.names s.link in
              (f, (keep_low st (id s.link s.bytes s.names (length s.work / 8) x listed) x f (find-low st x), tt));
        }

    abbrev NamedMakes : Group.Step → Type 0
    NamedMakes t = Makes (table_at s) (cond (eqb t.stage.number 0) (signed_steps s.bytes s.names s.link x) []) (table_in t)

    named-makes : NamedMakes (group_named s x n listed)
    unfolding group_named decided_of
    named-makes =
        by-test (eqb p.number 0) (λ t. rw t (committed-makes (eqb-true _ _ t))) (λ t. rw (t, t) (makes_none (table_at s)))

  module _ (o : Object) where
    abbrev GroupMakes : State → Looked → Group.Step → Type 0
    GroupMakes s x t = Makes (table_at s) (cond (eqb t.stage.number 0) (signed_steps s.bytes s.names s.link x.name) []) (table_in t)

    signed-makes : (s : State) (n : ℕ) (x : Looked) → GroupMakes s x (signed_of o s n x)
    unfolding signed_of
    signed-makes s n x =
        by-test x.found (λ t. rw t (named-makes s x.name n (listed_in o n))) (λ t. rw t (makes_none (table_at s)))

    group-makes : (s : State) (n : ℕ) → GroupMakes s (signature_of o.headers o.entries o.image o.table n) (group_of o s n)
    unfolding group_of shaped_of
    group-makes s n =
        by-test (eqb (shape_of o s.work n) 0)
        (λ t. rw t (signed-makes s n (signature_of o.headers o.entries o.image o.table n))) (λ t. rw (t, t) (makes_none (table_at s)))

    pub section-makes : (s : Group.Step) (n : ℕ) → Makes (table_in s) (group_section_steps o s n) (table_in (group_section_of o s n))
    unfolding group_section_of group_section_steps
    section-makes s n =
        by-test (is_loaded o.headers n 7)
        (λ t. rw t (group-makes (Group.state_of s.bytes s.names s.work s.stage.link) n)) (λ t. rw t (makes_none (table_in s)))
