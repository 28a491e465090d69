-- Request 2026-12: "prove that for every table of up to 256 built sections not dropped and every root list it keeps the same sections and rows as the
-- first, or refuses with the same number and place". Of any call, whatever the cells hold. The work cells of the sections are equal too; those behind
-- them, where the first has its queue and the second writes nothing, aren't. Statements only, each proved by citing the file where its proof stands.
-- Assumes nothing.
use Rattle.std.specs.Prelude.{ℕ, ◌<◌, ◌≤◌, ◌≡◌, ◌↔◌, ◌≢◌, List, length, Option, Ok, Err}
use Rattle.link.specs.declared.Link.{Link}
use Rattle.link.specs.declared.SymbolId.{SymbolId}
use Rattle.link.specs.declared.cause.Refusal.{Refusal}
use Rattle.link.specs.Judge.{refused}
use Rattle.gc_sections.specs.Run.{Left, left, Lists, judged, run_of, dropped}
use Rattle.plain_collector.specs.Visit.{reached_of}
use Rattle.plain_collector.specs.Run.{plain_of}
use Rattle.gc_laws.specs.Reached.{Built, Reached}
use Rattle.plain_laws.specs.BuiltRows.{built_rows, FewBuilt}
use Rattle.plain_laws.specs.Agrees.{Agrees}
use Rattle.plain_laws.specs.Visits.{Exact}
use Rattle.plain_laws.proofs.Visits as Visits
use Rattle.plain_laws.proofs.Compared as Compared

module _ (l : Link) (x : Lists) (symbols sections : List ℕ) (entry : Option SymbolId) (work : List ℕ) where
  abbrev head : Refusal
  head = judged l x symbols sections work

  abbrev first : Left
  first = run_of l x symbols sections entry work

  abbrev second : Left
  second = plain_of l x symbols sections entry work

  -- up to 256 built sections: the same
  pub plain-agrees : FewBuilt l sections → Agrees l.sections second first
  plain-agrees = Compared.plain-agrees l x symbols sections entry work

  -- more: 22 and 1 as the first has them, else 30 at place 0; everything is left, and the link isn't broken
  module _ (many : 256 < built_rows l sections) where
    pub plain-broken : head.number ≡ 22 → second ≡ left symbols sections work l (Err head)
    plain-broken = Compared.plain-broken l x symbols sections entry work many

    pub plain-short : head.number ≡ 1 → second ≡ left symbols sections work l (Err head)
    plain-short = Compared.plain-short l x symbols sections entry work many

    pub plain-thirty : head.number ≢ 22 → head.number ≢ 1 → second ≡ left symbols sections work l (Err (refused 30 0))
    plain-thirty = Compared.plain-thirty l x symbols sections entry work many

  -- demand 3 of the second collector: not refused, a section is there after the call exactly if it is reached
  pub plain-keeps : (a b : ℕ) → second.answer ≡ Ok (dropped a b) → (y : ℕ) → Built l x second.symbols second.sections y ↔ Reached l x symbols sections entry y
  plain-keeps = Compared.plain-keeps l x symbols sections entry work

  -- its visits find exactly what is reached, if there is a work cell for each section
  pub exact : l.sections ≤ length work → Exact l x symbols sections entry (reached_of l x.bytes x.names symbols sections x.lists x.marks entry work)
  exact = Visits.exact l x symbols sections entry work
