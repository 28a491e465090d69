-- Theorems over specs/Proof/Swept.antt.
-- Assumes nothing.
use Rattle.link.specs.declared.SectionId.{SectionId}
use Prim.Native.Nat.{ℕ, zero, suc, ◌+◌, ◌*◌, ◌<◌, ◌≤◌}
use native.Mathlib.Omega.{arith}
use Rattle.std.proofs.Common.{add-zero, sym, ◌∙◌, get_or-set_other, le-ltb}
use Rattle.std.proofs.Math.Path.{◌≡◌, refl, ap}
use Rattle.std.specs.Prelude.{Bool, List, eqb, ltb, leb, get_or, set, Option, None, Some}
use Rattle.std.proofs.Math.Bool.{true, false, cond}
use Rattle.std.proofs.Math.ListN.{length, length-set}
use Rattle.std.proofs.Math.Seq.{set_out}
use Rattle.cells.specs.Proof.Split.{by-test}
use Rattle.link.specs.declared.Link.{Link}
use Rattle.link.specs.Bounds.{section_slots}
use Rattle.symbol.specs.Row as Symbol
use Rattle.symbol_resolution.specs.Decide.{section_cell}
use Rattle.symbol_resolution.specs.Apply.{set_section_symbol}
use Rattle.symbols.specs.Remove.{Rows, rows_of, drop_section, remove_row_of}
use Rattle.sections.specs.Rows.{is_built}
use Rattle.gc_sections.specs.Each.{each}
use Rattle.gc_sections.specs.Roots.{symbol_id, lead_of}
use Rattle.gc_sections.specs.Sweep.{Swept, swept_of, Purged, purged_of, drop_unreached, dropped_now, purge_lead, purge_symbol, sweep_sections, purge_symbols}
use Rattle.gc_laws.specs.Proof.Paint.{paint, picked}
use Rattle.gc_laws.specs.Proof.Swept.{doomed, freed, gone, itself, purge_if, remove_if, sections_after, state_cell, symbol_cell, taken, takes_symbol}
use Rattle.gc_laws.specs.Proof.Swept as Base

module _ (n : ℕ) (sections work : List ℕ) where
  -- what stands from section i on is as before the pass
  record Same (i : ℕ) (s : Swept) : Type 0 where
    built : (j : ℕ) → i ≤ j → is_built s.sections n j ≡ is_built sections n j
    cell : (j : ℕ) → i ≤ j → get_or s.work j 0 ≡ get_or work j 0

  abbrev turned : ℕ → Swept → Swept
  turned i s = swept_of (paint (doomed n sections work) state_cell 3 i s.sections) (paint (doomed n sections work) itself 2 i s.work) (s.count + cond (doomed n sections work i) 1 0)

  drop-turn : (i : ℕ) (s : Swept) → Same i s → drop_unreached n i s ≡ turned i s
  unfolding drop_unreached paint doomed
  drop-turn i s a = rw (a.built i (omega arith), a.cell i (omega arith)) (go (is_built sections n i) (eqb (get_or work i 0) 0))
    where
      go : (b c : Bool)
          → cond b (cond c (swept_of (set s.sections (i * 8 + 0) 3) (set s.work i 2) (s.count + 1)) s) s
          ≡ swept_of (cond (cond b c false) (set s.sections (i * 8 + 0) 3) s.sections) (cond (cond b c false) (set s.work i 2) s.work) (s.count + cond (cond b c false) 1 0)
      go true true = refl
      go true false = ap (λ (m : ℕ). swept_of s.sections s.work m) (sym (add-zero s.count))
      go false c = ap (λ (m : ℕ). swept_of s.sections s.work m) (sym (add-zero s.count))

  still-built : (i j : ℕ) (rows : List ℕ) (b : Bool) → (j ≡ i → ⊥) → is_built (cond b (set rows (i * 8 + 0) 3) rows) n j ≡ is_built rows n j
  unfolding is_built
  still-built i j rows true ne = rw (get_or-set_other rows (i * 8 + 0) (j * 8 + 0) 3 0 (λ e. ne (omega arith)))
  still-built i j rows false ne = refl

  still-cell : (i j : ℕ) (cells : List ℕ) (b : Bool) → (j ≡ i → ⊥) → get_or (cond b (set cells i 2) cells) j 0 ≡ get_or cells j 0
  still-cell i j cells true ne = get_or-set_other cells i j 2 0 ne
  still-cell i j cells false ne = refl

  same-turned : (i : ℕ) (s : Swept) → Same i s → Same (i + 1) (turned i s)
  unfolding paint
  same-turned i s a = record {
    built = λ j h. still-built i j s.sections (doomed n sections work i) (λ e. omega arith) ∙ a.built j (omega arith);
    cell = λ j h. still-cell i j s.work (doomed n sections work i) (λ e. omega arith) ∙ a.cell j (omega arith);
  }

  drop-loop : (k i : ℕ) (s : Swept) → Same i s → each (drop_unreached n) k i s ≡ sections_after (doomed n sections work) k i s
  unfolding each picked
  drop-loop zero i s a = ap (λ (m : ℕ). swept_of s.sections s.work m) (sym (add-zero s.count))
  drop-loop (suc k) i s a =
      rw (drop-turn i s a)
      (drop-loop k (i + 1) (turned i s) (same-turned i s a)
      ∙ ap (λ (m : ℕ). swept_of (each (paint (doomed n sections work) state_cell 3) k (i + 1) (paint (doomed n sections work) state_cell 3 i s.sections))
      (each (paint (doomed n sections work) itself 2) k (i + 1) (paint (doomed n sections work) itself 2 i s.work)) m) (omega arith))

  pub swept-is : sweep_sections n sections work ≡ sections_after (doomed n sections work) n 0 (swept_of sections work 0)
  unfolding sweep_sections
  swept-is = drop-loop n 0 (swept_of sections work 0) (record { built = λ j h. refl; cell = λ j h. refl })

module _ (l : Link) (symbols : List ℕ) (p : ℕ → Bool) where
  abbrev cells : ℕ
  cells = Base.cells l symbols p

  abbrev goes : ℕ → Bool
  goes = gone p symbols l.symbols

  abbrev frees : ℕ → Bool
  frees = freed p symbols l.symbols cells

  abbrev purged_after : ℕ → ℕ → Purged → Purged
  purged_after k i s =
      purged_of (rows_of (each (paint goes state_cell 2) k i s.rows.symbols) (each (paint frees (symbol_cell symbols cells) 0) k i s.rows.sections))
      (s.count + picked goes k i)

  -- the rows from i on are as before the pass
  record Rest (i : ℕ) (s : Purged) : Type 0 where
    field : (j f : ℕ) → i ≤ j → f < 8 → Symbol.field s.rows.symbols j f ≡ Symbol.field symbols j f
    room : cells ≤ section_slots (length s.rows.sections)

  lead-same : (i : ℕ) (s : Purged) → Rest i s → lead_of s.rows.symbols l.symbols (symbol_id i) ≡ lead_of symbols l.symbols (symbol_id i)
  unfolding lead_of
  lead-same i s a = rw (a.field i 0 (omega arith) (omega arith), a.field i 5 (omega arith) (omega arith), a.field i 6 (omega arith) (omega arith))

  lead-there : (i : ℕ) (x : _) → lead_of symbols l.symbols (symbol_id i) ≡ Some x → eqb (Symbol.field symbols i 0) 2 ≡ false
  unfolding lead_of
  lead-there i x e =
      by-test (leb l.symbols i) (λ t. absurd (elsewhere (rw t at e)))
      (λ t. by-test (eqb (Symbol.field symbols i 0) 2) (λ u. absurd (elsewhere (rw (t, u) at e))) (λ u. u))
    where
      elsewhere : None ≡ Some x → ⊥
      elsewhere d = let z : ◌≡◌ {A = ℕ} 0 1 = cc in omega arith

  abbrev row_turned : ℕ → Bool → Purged → Purged
  row_turned i b s =
      purged_of (rows_of (cond b (set s.rows.symbols (state_cell i) 2) s.rows.symbols)
      (cond (cond b (takes_symbol symbols cells i) false) (set s.rows.sections (symbol_cell symbols cells i) 0) s.rows.sections))
      (s.count + cond b 1 0)

  section-freed : (i : ℕ) (s : Purged) → Rest i s
      → drop_section l s.rows.sections (Symbol.field symbols i 5) (Symbol.field symbols i 6)
      ≡ cond (takes_symbol symbols cells i) (set s.rows.sections (symbol_cell symbols cells i) 0) s.rows.sections
  unfolding drop_section set_section_symbol section_cell takes_symbol
  section-freed i s a =
      rw (le-ltb (section_slots (length s.rows.sections)) cells a.room) (go (eqb (Symbol.field symbols i 5) 2) (ltb (Symbol.field symbols i 6) cells))
    where
      go : (b c : Bool)
          → cond b (set s.rows.sections (cond c (cells * 8 + Symbol.field symbols i 6) (length s.rows.sections)) 0) s.rows.sections
          ≡ cond (cond b c false) (set s.rows.sections (cells * 8 + Symbol.field symbols i 6) 0) s.rows.sections
      go true true = refl
      go true false = set_out s.rows.sections (length s.rows.sections) 0 (omega arith)
      go false c = refl

  row-gone : (i : ℕ) (s : Purged) (x : _) → Rest i s → lead_of symbols l.symbols (symbol_id i) ≡ Some x
      → purged_of (remove_row_of l s.rows (symbol_id i)) (s.count + 1) ≡ row_turned i true s
  unfolding remove_row_of
  row-gone i s x a e =
      rw (a.field i 0 (omega arith) (omega arith), lead-there i x e, a.field i 5 (omega arith) (omega arith), a.field i 6 (omega arith) (omega arith), section-freed i s a)

  lead-turn : (i : ℕ) (s : Purged) → Rest i s → (k : Option SectionId) → lead_of symbols l.symbols (symbol_id i) ≡ k
      → cond (taken p k) (purged_of (remove_row_of l s.rows (symbol_id i)) (s.count + 1)) s ≡ row_turned i (taken p k) s
  lead-turn i s a None e = ap (λ (m : ℕ). purged_of s.rows m) (sym (add-zero s.count))
  lead-turn i s a (Some x) e = go (p x.0)
    where
      go : (b : Bool) → cond b (purged_of (remove_row_of l s.rows (symbol_id i)) (s.count + 1)) s ≡ row_turned i b s
      go true = row-gone i s x a e
      go false = ap (λ (m : ℕ). purged_of s.rows m) (sym (add-zero s.count))

  abbrev purge_turned : ℕ → Purged → Purged
  purge_turned i s =
      purged_of (rows_of (paint goes state_cell 2 i s.rows.symbols) (paint frees (symbol_cell symbols cells) 0 i s.rows.sections)) (s.count + cond (goes i) 1 0)

  purge-turn : (i : ℕ) (s : Purged) → Rest i s → purge_if p l i s ≡ purge_turned i s
  unfolding purge_if paint freed gone
  purge-turn i s a = rw (lead-same i s a) (lead-turn i s a (lead_of symbols l.symbols (symbol_id i)) refl)

  still-field : (i j f : ℕ) (rows : List ℕ) (b : Bool) → i + 1 ≤ j → f < 8 → Symbol.field (cond b (set rows (state_cell i) 2) rows) j f ≡ Symbol.field rows j f
  still-field i j f rows true h g = get_or-set_other rows (i * 8 + 0) (j * 8 + f) 2 0 (λ e. omega arith)
  still-field i j f rows false h g = refl

  rest-turned : (i : ℕ) (s : Purged) → Rest i s → Rest (i + 1) (purge_turned i s)
  unfolding paint
  rest-turned i s a = record {
    field = λ j f h g. still-field i j f s.rows.symbols (goes i) h g ∙ a.field j f (omega arith) g;
    room = rw (length-freed (frees i)) a.room;
  }
    where
      length-freed : (b : Bool) → length (cond b (set s.rows.sections (symbol_cell symbols cells i) 0) s.rows.sections) ≡ length s.rows.sections
      length-freed true = length-set s.rows.sections (symbol_cell symbols cells i) 0
      length-freed false = refl

  purge-loop : (k i : ℕ) (s : Purged) → Rest i s → each (purge_if p l) k i s ≡ purged_after k i s
  unfolding each picked
  purge-loop zero i s a = ap (λ (m : ℕ). purged_of s.rows m) (sym (add-zero s.count))
  purge-loop (suc k) i s a =
      rw (purge-turn i s a)
      (purge-loop k (i + 1) (purge_turned i s) (rest-turned i s a)
      ∙ ap (λ (m : ℕ). purged_of (rows_of (each (paint goes state_cell 2) k (i + 1) (paint goes state_cell 2 i s.rows.symbols))
      (each (paint frees (symbol_cell symbols cells) 0) k (i + 1) (paint frees (symbol_cell symbols cells) 0 i s.rows.sections))) m) (omega arith))

  if-rows : (i : ℕ) (s : Purged) → (purge_if p l i s).rows ≡ remove_if p l i s.rows
  unfolding purge_if remove_if
  if-rows i s = go (taken p (lead_of s.rows.symbols l.symbols (symbol_id i)))
    where
      go : (b : Bool) → (cond b (purged_of (remove_row_of l s.rows (symbol_id i)) (s.count + 1)) s).rows ≡ cond b (remove_row_of l s.rows (symbol_id i)) s.rows
      go true = refl
      go false = refl

  loop-rows : (k i : ℕ) (s : Purged) → each (remove_if p l) k i s.rows ≡ (each (purge_if p l) k i s).rows
  unfolding each
  loop-rows zero i s = refl
  loop-rows (suc k) i s = ap (λ (x : Rows). each (remove_if p l) k (i + 1) x) (sym (if-rows i s)) ∙ loop-rows k (i + 1) (purge_if p l i s)

  pub purged-if : (sections : List ℕ) → cells ≤ section_slots (length sections) → each (purge_if p l) l.symbols 0 (purged_of (rows_of symbols sections) 0)
      ≡ purged_of (rows_of (each (paint goes state_cell 2) l.symbols 0 symbols) (each (paint frees (symbol_cell symbols cells) 0) l.symbols 0 sections))
      (0 + picked goes l.symbols 0)
  purged-if sections h = purge-loop l.symbols 0 (purged_of (rows_of symbols sections) 0) (record { field = λ j f h g. refl; room = h })

  pub removed-is : (sections : List ℕ) → cells ≤ section_slots (length sections) → each (remove_if p l) l.symbols 0 (rows_of symbols sections)
      ≡ rows_of (each (paint goes state_cell 2) l.symbols 0 symbols) (each (paint frees (symbol_cell symbols cells) 0) l.symbols 0 sections)
  removed-is sections h = loop-rows l.symbols 0 (purged_of (rows_of symbols sections) 0) ∙ ap (λ (s : Purged). s.rows) (purged-if sections h)

pub each_same : {S : Type 0} (f g : ℕ → S → S) → ((i : ℕ) (s : S) → f i s ≡ g i s) → (k i : ℕ) (s : S) → each f k i s ≡ each g k i s
unfolding each
each_same f g h zero i s = refl
each_same f g h (suc k) i s = ap (each f k (i + 1)) (h i s) ∙ each_same f g h k (i + 1) (g i s)

-- the code's test is one such
module _ (l : Link) (work symbols : List ℕ) where
  abbrev now : ℕ → Bool
  now x = dropped_now work l.sections x

  purge-now : (i : ℕ) (s : Purged) → purge_symbol l work i s ≡ purge_if now l i s
  unfolding purge_symbol purge_if
  purge-now i s = go (lead_of s.rows.symbols l.symbols (symbol_id i))
    where
      go : (k : Option SectionId) → purge_lead l work i k s ≡ cond (taken now k) (purged_of (remove_row_of l s.rows (symbol_id i)) (s.count + 1)) s
      go None = refl
      go (Some x) = refl

  pub purged-is : (sections : List ℕ) → l.slots ≤ section_slots (length sections)
      → purge_symbols l work (rows_of symbols sections)
      ≡ purged_of (rows_of (each (paint (gone now symbols l.symbols) state_cell 2) l.symbols 0 symbols)
      (each (paint (freed now symbols l.symbols l.slots) (symbol_cell symbols l.slots) 0) l.symbols 0 sections)) (0 + picked (gone now symbols l.symbols) l.symbols 0)
  unfolding purge_symbols
  purged-is sections h =
      each_same (purge_symbol l work) (purge_if now l) purge-now l.symbols 0 (purged_of (rows_of symbols sections) 0) ∙ purged-if l symbols now sections h
