-- The plain collection under another key: the same answer and the same cells.
-- Assumes nothing.
use Rattle.link.specs.declared.SectionId.{SectionId}
use Rattle.link.specs.declared.SymbolId.{SymbolId}
use Prim.Native.Nat.{ℕ, zero, suc, ◌-◌, ◌<◌}
use Rattle.std.specs.Prelude.{◌≡◌, true, List, eqb, Option, None, Some}
use Rattle.std.proofs.Math.Path.{refl, ap}
use Rattle.std.proofs.Common.{◌∙◌, eqb-true}
use Rattle.cells.specs.Proof.Split.{by-test}
use Rattle.link.specs.declared.Link.{Link}
use Rattle.link.specs.declared.cause.Refusal.{Refusal}
use Rattle.interner.specs.Names.{Store}
use Rattle.sections.specs.Rows.{first_at, count_at, is_built, name_id_at}
use Rattle.gc_sections.specs.Each.{each}
use Rattle.gc_sections.specs.Reach.{end_of, clear_cell}
use Rattle.gc_sections.specs.Run as Run
use Rattle.gc_sections.specs.Run.{lists_of}
use Rattle.plain_collector.specs.Visit.{Visited, visited_of, unvisited, target_of, enter_lead, visit_of, visited, marked_lead, root_lead, entry_lead, root_symbol, root_section, reached_of}
use Rattle.plain_collector.specs.Run.{count_built, judge_plain, judged_plain, finished, plain_of}
use Rattle.plain_collector.specs.Proof.Head.{judge-passed}
use Rattle.key_laws.specs.SectionNames.{Named}
use Rattle.key_laws.specs.Rekeyed.{keyed, Rekeyed}
use Rattle.key_laws.proofs.ReadsLemmas.{collect_under, judged-built, each_same, finish-keyed, is-root-same, judged-same}
use Rattle.key_laws.proofs.SectionCalls.{finish-named}

enter-same : (sections : List ℕ) (n : ℕ) (f g : ℕ → Visited → Visited) → ((y : ℕ) (t : Visited) → f y t ≡ g y t) → (k : Option SectionId) (s : Visited)
    → enter_lead sections n f k s ≡ enter_lead sections n g k s
enter-same sections n f g q None s = refl
enter-same sections n f g q (Some id) s = rw (q id.0 _)

module _ (k : ℕ) (l : Link) (symbols sections lists : List ℕ) where
  visit-keyed : (depth : ℕ) (x : Option SectionId) (s : Visited) → visit_of (keyed k l) symbols sections lists depth x s ≡ visit_of l symbols sections lists depth x s
  unfolding visit_of
  visit-keyed zero x s = refl
  visit-keyed (suc depth) x s =
      enter-same sections l.sections
      (λ y t. each (λ j. visit_of (keyed k l) symbols sections lists depth (target_of l symbols lists j)) (end_of l.lists (first_at sections y) (count_at sections y) - first_at sections y) (first_at sections y) t)
      (λ y t. each (λ j. visit_of l symbols sections lists depth (target_of l symbols lists j)) (end_of l.lists (first_at sections y) (count_at sections y) - first_at sections y) (first_at sections y) t)
      (λ y t.
      each_same (λ j. visit_of (keyed k l) symbols sections lists depth (target_of l symbols lists j)) (λ j. visit_of l symbols sections lists depth (target_of l symbols lists j))
      (λ j u. visit-keyed depth (target_of l symbols lists j) u) _ _ t)
      x s

  visited-keyed : (x : Option SectionId) (s : Visited) → visited (keyed k l) symbols sections lists x s ≡ visited l symbols sections lists x s
  unfolding visited
  visited-keyed x s = visit-keyed (unvisited l.sections s.work) x s

  symbol-keyed : (marks : List ℕ) (i : ℕ) (s : Visited) → root_symbol (keyed k l) symbols sections lists marks i s ≡ root_symbol l symbols sections lists marks i s
  unfolding root_symbol
  symbol-keyed marks i s = visited-keyed (marked_lead symbols l.symbols marks i) s

  entry-keyed : (e : Option SymbolId) → entry_lead symbols (keyed k l).symbols e ≡ entry_lead symbols l.symbols e
  entry-keyed None = refl
  entry-keyed (Some id) = refl

module _ (k : ℕ) (s : Store) (n : List ℕ) (e : Rekeyed k s n) (symbols sections lists marks : List ℕ) where
  abbrev l : Link
  l = s.link

  module _ (named : (i : ℕ) → is_built sections l.sections i ≡ true → name_id_at sections i < l.chains) where
    lead-same : (i : ℕ) → root_lead s.bytes n sections l.sections i ≡ root_lead s.bytes s.names sections l.sections i
    unfolding root_lead
    lead-same i = rw (is-root-same k s n e symbols sections lists marks named i)

    section-same : (i : ℕ) (v : Visited) → root_section (keyed k l) s.bytes n symbols sections lists i v ≡ root_section l s.bytes s.names symbols sections lists i v
    unfolding root_section
    section-same i v =
        visited-keyed k l symbols sections lists (root_lead s.bytes n sections l.sections i) v
        ∙ ap (λ (x : Option SectionId). visited l symbols sections lists x v) (lead-same i)

    reached-same : (entry : Option SymbolId) (work : List ℕ)
        → reached_of (keyed k l) s.bytes n symbols sections lists marks entry work ≡ reached_of l s.bytes s.names symbols sections lists marks entry work
    unfolding reached_of
    reached-same entry work =
        let start : Visited = visited_of (each clear_cell l.sections 0 work) None in
        let a = each_same (root_symbol (keyed k l) symbols sections lists marks) (root_symbol l symbols sections lists marks) (symbol-keyed k l symbols sections lists marks) l.symbols 0 start in
        let r : Visited = each (root_symbol l symbols sections lists marks) l.symbols 0 start in
        let b = each_same (root_section (keyed k l) s.bytes n symbols sections lists) (root_section l s.bytes s.names symbols sections lists) section-same l.sections 0 r in
        let q : Visited = each (root_section l s.bytes s.names symbols sections lists) l.sections 0 r in
        rw (a, b, entry-keyed k l symbols sections lists entry) (visited-keyed k l symbols sections lists (entry_lead symbols l.symbols entry) q)

  head-same : (work : List ℕ) → judged_plain (keyed k l) (lists_of s.bytes n lists marks) symbols sections work
      ≡ judged_plain l (lists_of s.bytes s.names lists marks) symbols sections work
  head-same work = ap (λ (h : Refusal). judge_plain h (count_built sections l.sections)) (judged-same k s n e symbols sections lists marks work)

  pub plain-same : Named l sections → (entry : Option SymbolId) (work : List ℕ) → plain_of (keyed k l) (lists_of s.bytes n lists marks) symbols sections entry work
      ≡ collect_under k (plain_of l (lists_of s.bytes s.names lists marks) symbols sections entry work)
  unfolding plain_of finished
  plain-same named entry work =
      let v : Visited = reached_of l s.bytes s.names symbols sections lists marks entry work in
      let x : Run.Lists = lists_of s.bytes s.names lists marks in
      rw (head-same work)
      (by-test (eqb (judged_plain l x symbols sections work).number 0)
      (λ a. rw (a, reached-same (judged-built l x symbols sections work (judge-passed (Run.judged l x symbols sections work) (count_built sections l.sections) (eqb-true _ _ a)).0 named) entry work)
      (finish-keyed k l symbols sections v.work v.unbuilt)) (λ a. rw a))

pub plain-named : (l : Link) (x : Run.Lists) (symbols sections : List ℕ) (entry : Option SymbolId) (work : List ℕ) → Named l sections
    → Named l (plain_of l x symbols sections entry work).sections
unfolding plain_of finished
plain-named l x symbols sections entry work h =
    let v : Visited = reached_of l x.bytes x.names symbols sections x.lists x.marks entry work in
    by-test (eqb (judged_plain l x symbols sections work).number 0) (λ a. rw a (finish-named l symbols sections v.work v.unbuilt h)) (λ a. rw a h)
