-- What two collections have in common whose work cells agree for each section.
-- Assumes nothing.
use Rattle.link.specs.declared.SectionId.{SectionId}
use Rattle.std.specs.Prelude.{ℕ, ◌+◌, ◌<◌, ◌≤◌, ◌≡◌, Bool, false, ltb, get_or, length, Option, None, Some, Ok}
use Rattle.std.proofs.Common.{arith, sym, ◌∙◌, ltb-true}
use Rattle.std.proofs.Math.Path.{refl, ap}
use mathlib.Core.List.{List, []}
use Rattle.cells.specs.Proof.Split.{by-test}
use Rattle.byte_slices.specs.Proof.Ways.{apart}
use Rattle.link.specs.declared.Link.{Link}
use Rattle.symbols.specs.Remove.{Rows, rows_of}
use Rattle.sections.specs.Rows.{is_built}
use Rattle.gc_sections.specs.Each.{each}
use Rattle.gc_sections.specs.Roots.{symbol_id, lead_of}
use Rattle.gc_sections.specs.Sweep.{Purged, dropped_now, purge_lead, purge_symbol, purge_symbols}
use Rattle.gc_sections.specs.Run.{Left, left, purge_of, sweep_of, finish_of, dropped}
use Rattle.plain_collector.specs.Proof.Depth.{built-below}
use Rattle.gc_laws.specs.Proof.Paint.{paint, picked}
use Rattle.gc_laws.proofs.Paint.{paint-hit, paint-miss, paint-same}
use Rattle.gc_laws.specs.Proof.Swept.{state_cell, itself, doomed}
use Rattle.gc_laws.proofs.Swept.{swept-is, each_same}
use Rattle.gc_laws.proofs.WorkCells.{picked_same}
use Rattle.plain_laws.specs.Agrees.{Agrees}

module _ (l : Link) (symbols sections : List ℕ) where
  abbrev pub n : ℕ
  n = l.sections

  module _ (w v : List ℕ) (agree : (y : ℕ) → y < n → get_or w y 0 ≡ get_or v y 0) (long : n ≤ length w) (wide : n ≤ length v) where
    abbrev D : ℕ → Bool
    D = doomed n sections w

    abbrev E : ℕ → Bool
    E = doomed n sections v

    doomed-same : (y : ℕ) → D y ≡ E y
    unfolding doomed
    doomed-same y = by-test (is_built sections n y) (λ t. rw (t, agree y (built-below sections n y t))) (λ t. rw t)

    abbrev w₁ : List ℕ
    w₁ = each (paint D itself 2) n 0 w

    abbrev v₁ : List ℕ
    v₁ = each (paint E itself 2) n 0 v

    missed : (p : ℕ → Bool) (u : List ℕ) (y : ℕ) → p y ≡ false → get_or (each (paint p itself 2) n 0 u) y 0 ≡ get_or u y 0
    missed p u y f = paint-miss p itself 2 n 0 u y (λ j a b e d. apart (sym f ∙ sym (ap p d) ∙ e))

    cell_same : (y : ℕ) → y < n → get_or w₁ y 0 ≡ get_or v₁ y 0
    cell_same y h =
        by-test (D y)
        (λ t. paint-hit D itself 2 n 0 w y (omega arith) (omega arith) t (omega arith) ∙ sym (paint-hit E itself 2 n 0 v y (omega arith) (omega arith) (sym (doomed-same y) ∙ t) (omega arith)))
        (λ t. missed D w y t ∙ agree y h ∙ sym (missed E v y (sym (doomed-same y) ∙ t)))

    now-same : (y : ℕ) → dropped_now w₁ n y ≡ dropped_now v₁ n y
    unfolding dropped_now
    now-same y = by-test (ltb y n) (λ t. rw (t, cell_same y (ltb-true _ _ t))) (λ t. rw t)

    purge-same : (i : ℕ) (s : Purged) → purge_symbol l w₁ i s ≡ purge_symbol l v₁ i s
    unfolding purge_symbol
    purge-same i s = go (lead_of s.rows.symbols l.symbols (symbol_id i))
      where
        go : (k : Option SectionId) → purge_lead l w₁ i k s ≡ purge_lead l v₁ i k s
        go None = refl
        go (Some x) = rw (now-same x.0)

    purged-same : (rows : Rows) → purge_symbols l w₁ rows ≡ purge_symbols l v₁ rows
    unfolding purge_symbols
    purged-same rows = each_same (purge_symbol l w₁) (purge_symbol l v₁) purge-same l.symbols 0 _

    abbrev out : List ℕ → List ℕ → ℕ → Left
    out rows u c =
        left (purge_symbols l u (rows_of symbols rows)).rows.symbols (purge_symbols l u (rows_of symbols rows)).rows.sections u l
        (Ok (dropped c (purge_symbols l u (rows_of symbols rows)).count))

    abbrev rows₁ : List ℕ
    rows₁ = each (paint D state_cell 3) n 0 sections

    first : sweep_of l symbols sections w ≡ out rows₁ w₁ (0 + picked D n 0)
    unfolding sweep_of purge_of
    first = ap (purge_of l symbols) (swept-is n sections w)

    second : sweep_of l symbols sections v ≡ out rows₁ v₁ (0 + picked D n 0)
    unfolding sweep_of purge_of
    second =
        ap (purge_of l symbols) (swept-is n sections v)
        ∙ ap (λ (c : ℕ). out (each (paint E state_cell 3) n 0 sections) v₁ (0 + c)) (sym (picked_same D E doomed-same n 0))
        ∙ ap (λ (r : List ℕ). out r v₁ (0 + picked D n 0)) (sym (paint-same D E state_cell state_cell 3 doomed-same (λ i. refl) n 0 sections))

    out-same : Agrees n (out rows₁ w₁ (0 + picked D n 0)) (out rows₁ v₁ (0 + picked D n 0))
    out-same =
        let e = purged-same (rows_of symbols rows₁) in
        record {
          symbols = ap (λ (p : Purged). p.rows.symbols) e;
          sections = ap (λ (p : Purged). p.rows.sections) e;
          link = refl;
          answer = ap (λ (p : Purged). Ok (dropped (0 + picked D n 0) p.count)) e;
          said = ap (λ (p : Purged). (left [] [] [] l (Ok (dropped (0 + picked D n 0) p.count))).said) e;
          work = cell_same;
        }

    sweep-same : Agrees n (sweep_of l symbols sections w) (sweep_of l symbols sections v)
    sweep-same = rw (first, second) out-same

    pub finish-same : (u : Option SectionId) → Agrees n (finish_of l symbols sections w u) (finish_of l symbols sections v u)
    finish-same None = sweep-same
    finish-same (Some id) = record { symbols = refl; sections = refl; link = refl; answer = refl; said = refl; work = agree }
