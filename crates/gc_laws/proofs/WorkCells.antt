-- What the lent work cells held before a call doesn't matter: nothing is read there before the call wrote it.
-- Assumes nothing.
use Rattle.link.specs.declared.SymbolId.{SymbolId}
use Rattle.std.specs.Prelude.{ℕ, zero, suc, ◌+◌, ◌≡◌, refl, Bool, true, List, Option, Err}
use Rattle.std.proofs.Common.{arith, sym, ◌∙◌}
use Rattle.std.proofs.Math.Path.{ap}
use Rattle.cells.specs.Proof.Split.{by-test}
use Rattle.byte_slices.specs.Proof.Ways.{apart}
use Rattle.link.specs.declared.Link.{Link}
use Rattle.link.specs.Judge.{refused}
use Rattle.sections.specs.Rows.{is_built}
use Rattle.gc_sections.specs.Each.{each}
use Rattle.gc_sections.specs.Sweep.{dropped_now}
use Rattle.gc_sections.specs.Run.{Left, Lists, judged, run_of}
use Rattle.gc_laws.specs.Reached.{Reached}
use Rattle.gc_laws.specs.Proof.Paint.{paint, picked}
use Rattle.gc_laws.proofs.Paint.{paint-same}
use Rattle.gc_laws.specs.Proof.Swept.{state_cell, symbol_cell, gone, freed}
use Rattle.gc_laws.proofs.BySection.{gone_same, freed-same}
use Rattle.gc_laws.proofs.Collected as C

pub picked_same : (p q : ℕ → Bool) → ((i : ℕ) → p i ≡ q i) → (k i : ℕ) → picked p k i ≡ picked q k i
unfolding picked
picked_same p q f zero i = refl
picked_same p q f (suc k) i = rw (f i, picked_same p q f k (i + 1))

module _ (l : Link) (x : Lists) (symbols sections : List ℕ) (entry : Option SymbolId) (work other : List ℕ) (ok : (judged l x symbols sections work).number ≡ 0)
    (okay : (judged l x symbols sections other).number ≡ 0) where
  abbrev R : ℕ → Type 0
  R = Reached l x symbols sections entry

  abbrev r : Left
  r = run_of l x symbols sections entry work

  abbrev s : Left
  s = run_of l x symbols sections entry other

  -- refused at the same place
  pub same-refusal : (k : ℕ) → r.answer ≡ Err (refused 21 k) → s.answer ≡ Err (refused 21 k)
  same-refusal k e =
      let a = C.refused-lowest l x symbols sections entry work ok k e in
      let f = C.unbuilt-refused l x symbols sections entry other okay k a.0 a.1 in
      let b = C.refused-lowest l x symbols sections entry other okay f.0 f.1 in
      let same : f.0 ≡ k = omega (arith, a.2 f.0 b.0 b.1, b.2 k a.0 a.1) in
      f.1 ∙ ap (λ (m : ℕ). Err (refused 21 m)) same

  module _ (whole : (y : ℕ) → R y → is_built sections l.sections y ≡ true) where
    abbrev D : ℕ → Bool
    D = C.D l x symbols sections entry work ok whole

    abbrev E : ℕ → Bool
    E = C.D l x symbols sections entry other okay whole

    same-doom : (y : ℕ) → D y ≡ E y
    same-doom y =
        by-test (D y)
        (λ t. let d = C.doomed-no l x symbols sections entry work ok whole y t in t ∙ sym (C.doomed-yes l x symbols sections entry other okay whole y d.0 d.1))
        (λ t. t ∙ sym (C.spared l x symbols sections entry other okay whole y
        (λ u. let d = C.doomed-no l x symbols sections entry other okay whole y u in
        apart (sym t ∙ C.doomed-yes l x symbols sections entry work ok whole y d.0 d.1))))

    abbrev now : ℕ → Bool
    now y = dropped_now (C.work₁ l x symbols sections entry work ok whole) l.sections y

    abbrev then : ℕ → Bool
    then y = dropped_now (C.work₁ l x symbols sections entry other okay whole) l.sections y

    same-now : (y : ℕ) → now y ≡ then y
    same-now y = C.now-doomed l x symbols sections entry work ok whole y ∙ same-doom y ∙ sym (C.now-doomed l x symbols sections entry other okay whole y)

    abbrev cells : ℕ
    cells = l.slots

    goes_same : (i : ℕ) → gone now symbols l.symbols i ≡ gone then symbols l.symbols i
    goes_same = gone_same symbols l.symbols cells now then same-now

    pub same_rows : (r.symbols ≡ s.symbols) × (r.sections ≡ s.sections) × (r.answer ≡ s.answer)
    unfolding C.result
    same_rows =
        rw (C.run-result l x symbols sections entry work ok whole, C.run-result l x symbols sections entry other okay whole) (
          paint-same (gone now symbols l.symbols) (gone then symbols l.symbols) state_cell state_cell 2 goes_same (λ i. refl) l.symbols 0 symbols,
          (paint-same (freed now symbols l.symbols cells) (freed then symbols l.symbols cells) (symbol_cell symbols cells) (symbol_cell symbols cells) 0
              (freed-same symbols l.symbols cells now then same-now) (λ i. refl) l.symbols 0 (each (paint D state_cell 3) l.sections 0 sections)
              ∙ ap (each (paint (freed then symbols l.symbols cells) (symbol_cell symbols cells) 0) l.symbols 0)
              (paint-same D E state_cell state_cell 3 same-doom (λ i. refl) l.sections 0 sections)),
          rw (picked_same D E same-doom l.sections 0, picked_same (gone now symbols l.symbols) (gone then symbols l.symbols) goes_same l.symbols 0),
        )
