-- The plain collection as a call: it leaves and answers what the first one does, or is refused with 30.
-- Assumes nothing.
use Rattle.link.specs.declared.SectionId.{SectionId}
use Rattle.link.specs.declared.SymbolId.{SymbolId}
use Rattle.std.specs.Prelude.{ℕ, ◌<◌, ◌≡◌, refl, List, ◌≢◌, eqb, ltb, Option, None, Some, Err}
use Rattle.std.proofs.Common.{sym, ap, subst, ◌∙◌, eqb-true, ne_eqb, ltb-true, ltb-false}
use Rattle.std.proofs.lemmas.Bool.{eqb-false}
use Rattle.cells.specs.Proof.Split.{by-test}
use Rattle.byte_slices.specs.Proof.Ways.{pick}
use Rattle.link.specs.declared.Link.{Link}
use Rattle.link.specs.declared.cause.Refusal.{Refusal}
use Rattle.link.specs.Judge.{refused}
use Rattle.symbols.specs.Remove.{rows_of}
use Rattle.gc_sections.specs.Run.{Left, left, Lists, Said, judged, finish_of, sweep_of, purge_of, run_of}
use Rattle.plain_collector.specs.Visit.{Visited, reached_of}
use Rattle.plain_collector.specs.Run.{judged_plain, finished, plain_of}
use Rattle.plain_laws.specs.Agrees.{Agrees}
use Rattle.plain_laws.proofs.AgreesLemmas.{agrees-same}
use Rattle.plain_laws.specs.BuiltRows.{built_rows}
use Rattle.plain_laws.proofs.Terms.{plain-agrees, plain-broken, plain-short, plain-thirty}
use Rattle.symbol_laws.specs.History.{with_rows}
use Rattle.merge_laws.specs.Calls.{Linked, linked}
use Rattle.link_laws.specs.Calls.{collect, plain_collect, lists_in, Drops, call_left, call_refusal, call_next}

-- no collection changes the counts
linked-plain : (l : Link) (x : Lists) (symbols sections : List ℕ) (entry : Option SymbolId) (work : List ℕ) → (plain_of l x symbols sections entry work).link ≡ l
unfolding plain_of finished sweep_of purge_of
linked-plain l x symbols sections entry work =
    pick (λ (o : Left). o.link ≡ l) (eqb (judged_plain l x symbols sections work).number 0) _ _ (λ a. go v.unbuilt) (λ a. refl)
  where
    v : Visited
    v = reached_of l x.bytes x.names symbols sections x.lists x.marks entry work

    go : (u : Option SectionId) → (finish_of l symbols sections v.work u).link ≡ l
    go None = refl
    go (Some id) = refl

first-refused : (l : Link) (x : Lists) (symbols sections : List ℕ) (entry : Option SymbolId) (work : List ℕ) → (judged l x symbols sections work).number ≢ 0
    → run_of l x symbols sections entry work ≡ left symbols sections work l (Err (judged l x symbols sections work))
unfolding run_of
first-refused l x symbols sections entry work ne = rw (ne_eqb _ _ ne)

module _ (marks : List ℕ) (entry : Option SymbolId) (work : List ℕ) (s : Linked) where
  abbrev l : Link
  l = s.table.link

  abbrev symbols : List ℕ
  symbols = s.table.symbols

  abbrev sections : List ℕ
  sections = s.table.sections

  abbrev head : Refusal
  head = judged l (lists_in s marks) symbols sections work

  abbrev first : Left
  first = call_left (collect marks entry work) s

  abbrev second : Left
  second = call_left (plain_collect marks entry work) s

  abbrev Thirty : Type 0
  Thirty = second ≡ left symbols sections work l (Err (refused 30 0))

  pub data Compared : Type 0 where
    alike : call_refusal (plain_collect marks entry work) s ≡ call_refusal (collect marks entry work) s
        → call_next (plain_collect marks entry work) s ≡ call_next (collect marks entry work) s → second.answer ≡ first.answer → Compared
    many : 256 < built_rows l sections → head.number ≢ 22 → head.number ≢ 1 → Thirty → Compared

  pub plain-link : second.link ≡ l
  plain-link = linked-plain l (lists_in s marks) symbols sections entry work

  agree : Agrees l.sections second first → Compared
  agree a =
      alike (ap (λ (q : Said). refused q.number q.place) a.said)
      (ap (λ (y : List ℕ). linked (with_rows s.table (rows_of y second.sections) second.link) s.inputs s.lists) a.symbols
      ∙ ap (λ (y : List ℕ). linked (with_rows s.table (rows_of first.symbols y) second.link) s.inputs s.lists) a.sections
      ∙ ap (λ (k : Link). linked (with_rows s.table (rows_of first.symbols first.sections) k) s.inputs s.lists) a.link)
      a.answer

  same_head : (n : ℕ) → head.number ≡ n → n ≢ 0 → second ≡ left symbols sections work l (Err head) → Compared
  same_head n e ne q =
      agree (agrees-same l.sections second first (q ∙ sym (first-refused l (lists_in s marks) symbols sections entry work (λ z. ne (sym e ∙ z)))))

  pub compared : Compared
  compared =
      by-test (ltb 256 (built_rows l sections))
      (λ t.
      let m : 256 < built_rows l sections = ltb-true _ _ t in
      by-test (eqb head.number 22) (λ a. same_head 22 (eqb-true _ _ a) (eqb-false 22 0 refl) (plain-broken l (lists_in s marks) symbols sections entry work m (eqb-true _ _ a)))
      (λ a.
      by-test (eqb head.number 1) (λ b. same_head 1 (eqb-true _ _ b) (eqb-false 1 0 refl) (plain-short l (lists_in s marks) symbols sections entry work m (eqb-true _ _ b)))
      (λ b. many m (eqb-false _ _ a) (eqb-false _ _ b) (plain-thirty l (lists_in s marks) symbols sections entry work m (eqb-false _ _ a) (eqb-false _ _ b)))))
      (λ t. agree (plain-agrees l (lists_in s marks) symbols sections entry work (ltb-false _ _ t)))

  -- refused with 30

  pub many-refusal : Thirty → call_refusal (plain_collect marks entry work) s ≡ refused 30 0
  many-refusal e = ap (λ (o : Left). refused o.said.number o.said.place) e

  pub many-next : Thirty → call_next (plain_collect marks entry work) s ≡ s
  many-next e = ap (λ (o : Left). linked (with_rows s.table (rows_of o.symbols o.sections) o.link) s.inputs s.lists) e

  pub many-drops : Thirty → Drops second.answer → ⊥
  many-drops e d = subst Drops (ap (λ (o : Left). o.answer) e) d
