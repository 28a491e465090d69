-- A remove and a collection write no row past the counts, and leave the counts.
-- Assumes nothing.
use Rattle.link.specs.declared.SectionId.{SectionId}
use Rattle.std.specs.Prelude.{ℕ, ◌+◌, ◌*◌, ◌<◌, ◌≤◌, ◌≡◌, List, eqb, leb, get_or, length, Option, None, Some}
use Rattle.std.proofs.Common.{arith, sym, ap, ◌∙◌, subst, length-set, eqb-true}
use Rattle.std.proofs.Math.Path.{refl}
use Rattle.cells.specs.Proof.Split.{by-test}
use Rattle.byte_slices.specs.Proof.Ways.{pick}
use Rattle.link.specs.declared.Link.{Link}
use Rattle.link.specs.declared.SymbolId.{SymbolId}
use Rattle.link.specs.Bounds.{section_slots}
use Rattle.link.specs.Judge.{change_of}
use Rattle.symbol.specs.Row.{field, state_at}
use Rattle.symbol_resolution.specs.Decide.{section_cell}
use Rattle.symbol_resolution.specs.Apply.{set_section_symbol}
use Rattle.symbols.specs.Calls.{lent_of}
use Rattle.symbols.specs.Remove.{Rows, rows_of, drop_section, remove_row_of, remove_of}
use Rattle.gc_sections.specs.Reach.{Walk, walked}
use Rattle.gc_sections.specs.Sweep.{Swept, Purged, dropped_now, sweep_sections, purge_symbols}
use Rattle.gc_sections.specs.Run.{Left, Lists, judged, purge_of, sweep_of, finish_of, finished, collect_of, run_of}
use Rattle.gc_laws.proofs.Head.{slots-fit}
use Rattle.gc_laws.proofs.Paint.{length-painted, paint-miss}
use Rattle.gc_laws.specs.Proof.Swept.{state_cell, doomed, gone, freed, symbol_cell}
use Rattle.gc_laws.proofs.Swept.{swept-is, purged-is}
use Rattle.symbol_laws.specs.History as History
use Rattle.symbol_laws.specs.History.{State, with_rows}
use Rattle.symbol_laws.proofs.WritesLemmas as WritesLaws
use Rattle.merge_laws.specs.Past.{TablePast}
use Rattle.link_laws.specs.CollectPast.{Past}

-- ---- a collection

module _ (l : Link) (symbols sections : List ℕ) where
  swept-long : (work : List ℕ) → length (sweep_sections l.sections sections work).sections ≡ length sections
  swept-long work =
      ap (λ (s : Swept). length s.sections) (swept-is l.sections sections work)
      ∙ length-painted (doomed l.sections sections work) state_cell 3 l.sections 0 sections

  swept-past : (work : List ℕ) (q : ℕ) → l.sections * 8 ≤ q → get_or (sweep_sections l.sections sections work).sections q 0 ≡ get_or sections q 0
  swept-past work q h =
      ap (λ (s : Swept). get_or s.sections q 0) (swept-is l.sections sections work)
      ∙ paint-miss (doomed l.sections sections work) state_cell 3 l.sections 0 sections q (λ j a b e d. omega arith)

  module _ (work rows : List ℕ) (room : l.slots ≤ section_slots (length rows)) where
    abbrev cells : ℕ
    cells = l.slots

    abbrev p : Purged
    p = purge_symbols l work (rows_of symbols rows)

    purged-symbols : (q : ℕ) → l.symbols * 8 ≤ q → get_or p.rows.symbols q 0 ≡ get_or symbols q 0
    purged-symbols q h =
        ap (λ (s : Purged). get_or s.rows.symbols q 0) (purged-is l work symbols rows room)
        ∙ paint-miss (gone (dropped_now work l.sections) symbols l.symbols) state_cell 2 l.symbols 0 symbols q (λ j a b e d. omega arith)

    purged-sections : (q : ℕ) → q < cells * 8 → get_or p.rows.sections q 0 ≡ get_or rows q 0
    purged-sections q h =
        ap (λ (s : Purged). get_or s.rows.sections q 0) (purged-is l work symbols rows room)
        ∙ paint-miss (freed (dropped_now work l.sections) symbols l.symbols cells) (symbol_cell symbols cells) 0 l.symbols 0 rows q (λ j a b e d. omega arith)

    purged-symbols-long : length p.rows.symbols ≡ length symbols
    purged-symbols-long =
        ap (λ (s : Purged). length s.rows.symbols) (purged-is l work symbols rows room)
        ∙ length-painted (gone (dropped_now work l.sections) symbols l.symbols) state_cell 2 l.symbols 0 symbols

    purged-long : length p.rows.sections ≡ length rows
    purged-long =
        ap (λ (s : Purged). length s.rows.sections) (purged-is l work symbols rows room)
        ∙ length-painted (freed (dropped_now work l.sections) symbols l.symbols cells) (symbol_cell symbols cells) 0 l.symbols 0 rows

  sweep-past : l.slots ≤ section_slots (length sections) → (work : List ℕ) → Past l symbols sections (sweep_of l symbols sections work)
  unfolding sweep_of purge_of
  sweep-past room work =
      let s : Swept = sweep_sections l.sections sections work in
      let r : l.slots ≤ section_slots (length s.sections) = rw (swept-long work) room in
      record {
        link = refl;
        symbols-past = λ q h. purged-symbols s.work s.sections r q h;
        sections-past = λ q h k. purged-sections s.work s.sections r q k ∙ swept-past work q h;
        symbols-long = purged-symbols-long s.work s.sections r;
        sections-long = purged-long s.work s.sections r ∙ swept-long work;
      }

  module _ (x : Lists) (entry : Option SymbolId) (work : List ℕ) where
    abbrev w : Walk
    w = walked l x.bytes x.names symbols sections x.lists x.marks entry work

    pub run_past : Past l symbols sections (run_of l x symbols sections entry work)
    unfolding run_of collect_of finished
    run_past =
        pick (Past l symbols sections) (eqb (judged l x symbols sections work).number 0) _ _ (λ t. go (slots-fit l x symbols sections work (eqb-true _ _ t)) w.visitor.unbuilt)
        (λ t. record { link = refl; symbols-past = λ q h. refl; sections-past = λ q h k. refl; symbols-long = refl; sections-long = refl })
      where
        go : l.slots ≤ section_slots (length sections) → (u : Option SectionId) → Past l symbols sections (finish_of l symbols sections w.work u)
        go room None = sweep-past room w.work
        go room (Some id) = record { link = refl; symbols-past = λ q h. refl; sections-past = λ q h k. refl; symbols-long = refl; sections-long = refl }

pub collect-past : (s : State) (x : Lists) (entry : Option SymbolId) (work : List ℕ)
    → let r = run_of s.link x s.symbols s.sections entry work in
    TablePast s (with_rows s (rows_of r.symbols r.sections) r.link)
collect-past s x entry work =
    let r : Left = run_of s.link x s.symbols s.sections entry work in
    let p = run_past s.link s.symbols s.sections x entry work in
    subst (λ (k : Link). TablePast s (with_rows s (rows_of r.symbols r.sections) k)) (sym p.link)
    (record {
      symbols = p.symbols-past;
      names = λ q h k. refl;
      bytes = λ q h. refl;
      sections = p.sections-past;
      symbols-long = p.symbols-long;
      names-long = refl;
      bytes-long = refl;
      sections-long = p.sections-long;
    })

-- ---- a remove

dropped-long : (l : Link) (sections : List ℕ) (kind n : ℕ) → length (drop_section l sections kind n) ≡ length sections
unfolding drop_section set_section_symbol
dropped-long l sections kind n = by-test (eqb kind 2) (λ a. rw a (length-set sections (section_cell l (length sections) n) 0)) (λ a. rw a)

abbrev SameLengths : Rows → Rows → Type 0
SameLengths x y = (length x.symbols ≡ length y.symbols) × (length x.sections ≡ length y.sections)

removed-long : (l : Link) (x : Rows) (id : SymbolId) → SameLengths (remove_row_of l x id) x
unfolding remove_row_of
removed-long l x id =
    by-test (eqb (state_at x.symbols id.0) 2) (λ a. rw a (refl, refl))
    (λ a. rw a (length-set x.symbols (id.0 * 8 + 0) 2, dropped-long l x.sections (field x.symbols id.0 5) (field x.symbols id.0 6)))

remove-long : (l : Link) (x : Rows) (id : SymbolId) → SameLengths (remove_of l x id).rows x
unfolding remove_of
remove-long l x id =
    by-test (eqb (change_of l (lent_of l.chains (length x.symbols) (section_slots (length x.sections)))).number 0)
    (λ a. by-test (leb l.symbols id.0) (λ b. rw (a, b) (refl, refl)) (λ b. rw (a, b) (removed-long l x id))) (λ a. rw a (refl, refl))

pub remove-past : (s : State) (id : SymbolId) → TablePast s (History.call_next (History.remove id) s)
remove-past s id =
    let u = WritesLaws.remove-past s id in
    record {
      symbols = u.symbols;
      names = u.names;
      bytes = λ q h. refl;
      sections = λ q h k. u.sections q k;
      symbols-long = (remove-long s.link (rows_of s.symbols s.sections) id).0;
      names-long = refl;
      bytes-long = refl;
      sections-long = (remove-long s.link (rows_of s.symbols s.sections) id).1;
    }
