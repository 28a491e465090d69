-- Of the plain collection: the answer is that of the first rule that holds.
-- Assumes nothing.
use Rattle.link.specs.declared.SymbolId.{SymbolId}
use Rattle.std.specs.Prelude.{ℕ, ◌/◌, ◌<◌, ◌≡◌, refl, Bool, true, false, cond, List, [], ◌∷◌, ◌++◌, eqb, ltb, length, Option}
use Rattle.std.proofs.Common.{sym, ap, ◌∙◌, eqb-true, ltb-true, ltb-false}
use Rattle.std.proofs.lemmas.Bool.{eqb-false}
use Rattle.cells.specs.Proof.Split.{by-test}
use Rattle.link.specs.declared.cause.Refusal.{Refusal}
use Rattle.link.specs.Bounds.{not_lent}
use Rattle.link.specs.Judge.{refused}
use Rattle.gc_sections.specs.Run.{Left, Said, judged}
use Rattle.plain_laws.specs.BuiltRows.{built_rows}
use Rattle.plain_laws.proofs.Terms.{plain-agrees, plain-broken, plain-short, plain-thirty}
use Rattle.symbol_laws.specs.History.{State}
use Rattle.merge_laws.specs.Calls.{Linked}
use Rattle.link_laws.specs.Calls.{plain_collect, lists_in, call_refusal}
use Rattle.link_laws.proofs.PlainCalls.{many-refusal}
use Rattle.link_laws.specs.Rules.{Rule, ◌gives◌at◌, lent_rows, head_rules, first_refusal}
use Rattle.link_laws.specs.CollectRules.{reached_rules, plain_rules}
use Rattle.link_laws.proofs.CollectExactly.{head-exactly, collect-exactly}

-- a rule that doesn't hold
module _ (a b : Rule) (ys zs : List Rule) (e : b.holds ≡ false) where
  skipped : (xs : List Rule) → first_refusal ((xs ++ (a ∷ b ∷ ys)) ++ zs) ≡ first_refusal ((xs ++ (a ∷ ys)) ++ zs)
  skipped [] = by-test a.holds (λ t. rw t) (λ t. rw (t, e))
  skipped (x ∷ xs) = by-test x.holds (λ t. rw t) (λ t. rw t (skipped xs))

-- 22 and 1
abbrev early : List Rule → Bool
early [] = true
early (x ∷ xs) = cond (eqb x.number 22) (early xs) (cond (eqb x.number 1) (early xs) false)

-- 30 before whatever is neither
abbrev thirty_for : Refusal → Refusal
thirty_for r = cond (eqb r.number 22) r (cond (eqb r.number 1) r (refused 30 0))

module _ (p q b : Bool) (here : ℕ) (zs : List Rule) (e : b ≡ true) where
  tail : first_refusal (((p gives 1 at here) ∷ (b gives 30 at 0) ∷ (q gives 2 at 0) ∷ []) ++ zs) ≡ thirty_for (first_refusal ((p gives 1 at here) ∷ (q gives 2 at 0) ∷ []))
  tail = by-test p (λ t. rw t) (λ t. rw (t, e) (by-test q (λ u. rw u) (λ u. rw u)))

  first-thirty : (xs : List Rule) → early xs ≡ true
      → first_refusal ((xs ++ ((p gives 1 at here) ∷ (b gives 30 at 0) ∷ (q gives 2 at 0) ∷ [])) ++ zs) ≡ thirty_for (first_refusal (xs ++ ((p gives 1 at here) ∷ (q gives 2 at 0) ∷ [])))
  first-thirty [] h = tail
  first-thirty (x ∷ xs) h =
      by-test x.holds (λ t. rw t (one (eqb x.number 22) (eqb x.number 1) h)) (λ t. rw t (first-thirty xs (rest (eqb x.number 22) (eqb x.number 1) h)))
    where
      rest : (c d : Bool) → cond c (early xs) (cond d (early xs) false) ≡ true → early xs ≡ true
      rest true d k = k
      rest false true k = k
      rest false false k = absurd (never k)
        where
          never : false ≡ true → ⊥
          never k = let z : ◌≡◌ {A = ℕ} 0 1 = cc in eqb-false 0 1 refl z

      one : (c d : Bool) → cond c (early xs) (cond d (early xs) false) ≡ true
          → refused x.number x.place ≡ cond c (refused x.number x.place) (cond d (refused x.number x.place) (refused 30 0))
      one true d k = refl
      one false true k = refl
      one false false k = absurd (never k)
        where
          never : false ≡ true → ⊥
          never k = let z : ◌≡◌ {A = ℕ} 0 1 = cc in eqb-false 0 1 refl z

module _ (marks : List ℕ) (entry : Option SymbolId) (work : List ℕ) (s : Linked) where
  abbrev t : State
  t = s.table

  abbrev head : Refusal
  head = judged t.link (lists_in s marks) t.symbols t.sections work

  abbrev rules_of_head : List Rule
  rules_of_head = head_rules t.link (lent_rows (length t.names / 9) (length t.bytes) (length t.symbols) (length t.sections / 9) not_lent (length s.lists))

  thirty : 256 < built_rows t.link t.sections → call_refusal (plain_collect marks entry work) s ≡ thirty_for head
  thirty m =
      by-test (eqb head.number 22)
      (λ a. rw a (ap said (plain-broken t.link (lists_in s marks) t.symbols t.sections entry work m (eqb-true _ _ a))))
      (λ a.
      by-test (eqb head.number 1)
      (λ b. rw (a, b) (ap said (plain-short t.link (lists_in s marks) t.symbols t.sections entry work m (eqb-true _ _ b))))
      (λ b. rw (a, b) (many-refusal marks entry work s (plain-thirty t.link (lists_in s marks) t.symbols t.sections entry work m (eqb-false _ _ a) (eqb-false _ _ b)))))
    where
      said : Left → Refusal
      said o = refused o.said.number o.said.place

  pub plain-exactly : call_refusal (plain_collect marks entry work) s ≡ first_refusal (plain_rules t s.lists marks entry work)
  plain-exactly =
      by-test (ltb 256 (built_rows t.link t.sections))
      (λ e.
      thirty (ltb-true _ _ e) ∙ ap thirty_for (head-exactly marks entry work s)
      ∙ sym (first-thirty (ltb (length marks) t.link.symbols) (ltb (length work / 2) t.link.sections) (ltb 256 (built_rows t.link t.sections)) (length marks) (reached_rules t s.lists marks entry) e rules_of_head refl))
      (λ e.
      ap (λ (q : Said). refused q.number q.place) (plain-agrees t.link (lists_in s marks) t.symbols t.sections entry work (ltb-false _ _ e)).said
      ∙ collect-exactly marks entry work s
      ∙ sym (skipped (ltb (length marks) t.link.symbols gives 1 at length marks) (ltb 256 (built_rows t.link t.sections) gives 30 at 0) ((ltb (length work / 2) t.link.sections gives 2 at 0) ∷ []) (reached_rules t s.lists marks entry) e rules_of_head))
