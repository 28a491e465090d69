-- What a call that passes its head has: as many rows, marks and work cells as it needs.
-- Assumes nothing.
use Rattle.link.specs.declared.SymbolId.{SymbolId}
use Rattle.std.specs.Prelude.{ℕ, ◌+◌, ◌*◌, ◌/◌, ◌<◌, ◌≤◌, ◌≡◌, refl, cond, List, eqb, ltb, length, Option}
use Rattle.std.proofs.Common.{arith}
use borrow.Author.Tests.{eq-eqb, eqb-false, ltb-true, ltb-false}
use Rattle.cells.specs.Proof.Split.{by-test}
use Rattle.link.specs.declared.Link.{Link}
use Rattle.link.specs.declared.Lent.{Lent}
use Rattle.link.specs.Bounds.{lesser, section_slots}
use Rattle.link.specs.Judge.{refused, change_of}
use Rattle.gc_sections.specs.Reach.{Walk, walked}
use Rattle.gc_sections.specs.Run.{Lists, lent_of, judge_cells, judge_of, judged, finish_of, finished, collect_of, run_of}
use Rattle.gc_sections.specs.Proof.RunWays.{never, counts-lent}

lesser-right : (a b : ℕ) → lesser a b ≤ b
unfolding lesser
lesser-right a b = by-test (ltb a b) (λ t. rw t (let h : a < b = ltb-true _ _ t in omega arith)) (λ t. rw t (omega arith))

cells-pass : (l : Link) (n : Lent) (marks work : ℕ) → (judge_of l n marks work).number ≡ 0 → (judge_cells l marks work).number ≡ 0
unfolding judge_of
cells-pass l n marks work e =
    by-test (eqb (change_of l n).number 0) (λ t. rw t at e) (λ t. absurd (eqb-false _ _ t (rw t at e)))

module _ (l : Link) (marks work : ℕ) (e : (judge_cells l marks work).number ≡ 0) where
  cells-enough : (l.symbols ≤ marks) × (l.sections ≤ work / 2)
  unfolding judge_cells
  cells-enough =
      let a = never (ltb marks l.symbols) (refused 1 marks) (cond (ltb (work / 2) l.sections) (refused 2 0) (refused 0 0)) (λ q. omega arith) e in
      let b = never (ltb (work / 2) l.sections) (refused 2 0) (refused 0 0) (λ q. omega arith) a.1 in
      (ltb-false _ _ a.0, ltb-false _ _ b.0)

module _ (l : Link) (x : Lists) (symbols sections work : List ℕ) (ok : (judged l x symbols sections work).number ≡ 0) where
  abbrev lent : Lent
  lent = lent_of (length x.bytes) (length x.names) (length symbols) (length sections) (length x.lists)

  counts : (l.sections ≤ lesser 65535 l.slots) × (l.slots ≤ length sections / 9) × (l.symbols ≤ lesser 65535 (length symbols / 8))
  counts = counts-lent l lent (length x.marks) (length work) (judged l x symbols sections work) refl ok

  pub sections-fit : l.sections ≤ l.slots
  sections-fit = omega (arith, counts.0, lesser-right 65535 l.slots)

  -- a row of 8 cells and a cell behind the rows for each of them
  pub slots-fit : l.slots ≤ section_slots (length sections)
  slots-fit = counts.1

  pub symbols-fit : l.symbols * 8 ≤ length symbols
  symbols-fit = omega (arith, counts.2, lesser-right 65535 (length symbols / 8))

  pub work-fits : l.sections + l.sections ≤ length work
  work-fits = omega (arith, (cells-enough l (length x.marks) (length work) (cells-pass l lent (length x.marks) (length work) ok)).1)

  module _ (entry : Option SymbolId) where
    abbrev w : Walk
    w = walked l x.bytes x.names symbols sections x.lists x.marks entry work

    pub run_is : run_of l x symbols sections entry work ≡ finish_of l symbols sections w.work w.visitor.unbuilt
    unfolding run_of collect_of finished
    run_is = rw (eq-eqb _ _ ok)
