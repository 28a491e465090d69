-- New tables under two keys of the hash.
-- Assumes nothing.
use Rattle.std.specs.Prelude.{ℕ, ◌<◌, Bool, ◌≢◌, length}
use Rattle.std.proofs.Common.{arith, ◌∙◌}
use Rattle.std.proofs.Math.Path.{◌≡◌, refl, ap}
use Rattle.std.proofs.Math.Bool.{true, false}
use mathlib.Core.List.{List, []}
use Rattle.std.proofs.Math.Dec.{eqb}
use Rattle.std.proofs.lemmas.Bool.{eqb-false}
use Rattle.cells.specs.Proof.Split.{by-test}
use Rattle.link.specs.declared.Link.{Link}
use Rattle.link.specs.Bounds.{name_rows, symbol_rows, section_slots}
use Rattle.link.specs.Said.{number_in, accepted}
use Rattle.link.specs.Counts.{no_names}
use Rattle.interner.specs.Names.{Store, store_of, room_of, added, keep_of}
use Rattle.interner.specs.Calls as Names
use Rattle.interner.specs.Calls.{clear_heads}
use Rattle.interner_laws.specs.Good.{Good}
use Rattle.interner_laws.proofs.Interns as Interns
use Rattle.symbol_resolution.specs.Apply.{table_of}
use Rattle.symbols.specs.New.{NewLeft, new_left, null_row, one_symbol, clear_symbols, null_of, new_of}
use Rattle.symbol.specs.Row.{set_row}
use Rattle.symbol_laws.proofs.Issue.{room-free}
use Rattle.key_laws.specs.Rekeyed.{rekeyed, Moved}
use Rattle.key_laws.proofs.Rekeyed.{added-long, added-cells}
use Rattle.key_laws.proofs.RekeyedLemmas.{with-counts}
use Rattle.key_laws.proofs.Tables.{table_under}
use Rattle.key_laws.specs.SectionNames.{Named}
use Rattle.key_laws.proofs.SectionNames.{keep_shape}

module _ (key other : ℕ) (bytes names : List ℕ) where
  abbrev blank : Store
  blank = store_of bytes (clear_heads names) (no_names key (name_rows (length names)))

  room-same : room_of (rekeyed other (clear_heads names) blank) 0 ≡ room_of blank 0
  unfolding room_of
  room-same = refl

  names-said : (Names.new_of other bytes names).said ≡ (Names.new_of key bytes names).said
  unfolding Names.new_of
  names-said = by-test (eqb (name_rows (length names)) 0) (λ a. rw a) (λ a. rw a)

  names-count : (Names.new_of other bytes names).store.link.names ≡ (Names.new_of key bytes names).store.link.names
  unfolding Names.new_of keep_of
  names-count =
      by-test (eqb (name_rows (length names)) 0) (λ a. rw a)
      (λ a. by-test (room_of blank 0) (λ b. rw (a, b, room-same ∙ b)) (λ b. rw (a, b, room-same ∙ b)))

  -- the empty name alone
  names-moved : number_in (Names.new_of key bytes names).said ≡ 0 → number_in (Names.new_of other bytes names).said ≡ 0
      → Moved (λ s. s) (rekeyed other) other (Names.new_of key bytes names).store (Names.new_of other bytes names).store
  unfolding Names.new_of keep_of
  names-moved ok ok' =
      let g : Good (Names.new_of key bytes names).store = Interns.new-good key bytes names ok in
      let g' : Good (Names.new_of other bytes names).store = Interns.new-good other bytes names ok' in
      by-test (eqb (name_rows (length names)) 0) (λ a. let z : ◌≡◌ {A = ℕ} 2 0 = rw a at ok in absurd (omega arith))
      (λ a.
      by-test (room_of blank 0)
      (λ b.
      let b' : room_of (rekeyed other (clear_heads names) blank) 0 ≡ true = room-same ∙ b in
      rw (a, b, b')
      (record {
        names = (added (rekeyed other (clear_heads names) blank) []).names;
        is = refl;
        alike = record {
          long = added-long other blank (clear_heads names) refl (λ i f h l u. refl) [];
          cells = added-cells other blank (clear_heads names) refl (λ i f h l u. refl) [] (room-free blank 0 b);
          good = rw (a, b) at g;
          other = rw (a, b') at g';
        };
      }))
      (λ b. let z : 0 < 0 = rw (a, b) at g.some in absurd (omega arith)))

abbrev pub new_under : ℕ → List ℕ → NewLeft → NewLeft
new_under k n o = new_left o.bytes (table_under k n o.table) o.said

abbrev pub new_store : NewLeft → Store
new_store o = store_of o.bytes o.table.names o.table.link

module _ (key other : ℕ) (gabi : Bool) (bytes names symbols sections : List ℕ) where
  pub new-said : (new_of other gabi bytes names symbols sections).said ≡ (new_of key gabi bytes names symbols sections).said
  unfolding new_of null_of
  new-said =
      rw (names-count key other bytes names)
      (by-test (eqb (symbol_rows (length symbols)) 0) (λ a. rw a)
      (λ a. by-test (eqb (Names.new_of key bytes names).store.link.names 0) (λ b. rw (a, b)) (λ b. rw (a, b))))

  -- without a name's row the table of names was refused
  names-accepted : (Names.new_of key bytes names).store.link.names ≢ 0 → number_in (Names.new_of key bytes names).said ≡ 0
  unfolding Names.new_of
  names-accepted z = by-test (eqb (name_rows (length names)) 0) (λ a. absurd (z (rw a))) (λ a. rw a)

  -- the null symbol beside the names
  abbrev nulled : Store → NewLeft
  nulled s =
      new_left s.bytes
      (table_of s.names (set_row symbols (record { 0 = 0 }) null_row) (clear_symbols sections) (one_symbol gabi s.link (section_slots (length sections)))) (accepted 0)

  pub new-moved : number_in (new_of key gabi bytes names symbols sections).said ≡ 0
      → Moved new_store (new_under other) other (new_of key gabi bytes names symbols sections) (new_of other gabi bytes names symbols sections)
  unfolding new_of null_of
  new-moved ok =
      by-test (eqb (symbol_rows (length symbols)) 0) (λ a. let z : ◌≡◌ {A = ℕ} 2 0 = rw a at ok in absurd (omega arith))
      (λ a.
      by-test (eqb (Names.new_of key bytes names).store.link.names 0) (λ b. let z : ◌≡◌ {A = ℕ} 2 0 = rw (a, b) at ok in absurd (omega arith))
      (λ b.
      let fine : number_in (Names.new_of key bytes names).said ≡ 0 = names-accepted (eqb-false _ _ b) in
      let t = names-moved key other bytes names fine (ap number_in (names-said key other bytes names) ∙ fine) in
      let b' : eqb (Names.new_of other bytes names).store.link.names 0 ≡ false = ap (λ (c : ℕ). eqb c 0) (names-count key other bytes names) ∙ b in
      rw (a, b, b')
      (record {
        names = t.names;
        is = ap nulled t.is;
        alike = with-counts other (Names.new_of key bytes names).store t.names t.alike _ refl refl refl refl;
      })))

  -- no section is counted
  names-none : (Names.new_of key bytes names).store.link.sections ≡ 0
  unfolding Names.new_of
  names-none =
      by-test (eqb (name_rows (length names)) 0) (λ a. rw a)
      (λ a. rw a (ap (λ (l : Link). l.sections) (keep_shape (store_of bytes (clear_heads names) (no_names key (name_rows (length names)))) (record { 0 = 0 }) [])))

  no-sections : (new_of key gabi bytes names symbols sections).table.link.sections ≡ 0
  unfolding new_of null_of
  no-sections =
      by-test (eqb (symbol_rows (length symbols)) 0) (λ a. rw a)
      (λ a.
      by-test (eqb (Names.new_of key bytes names).store.link.names 0) (λ b. rw (a, b) names-none) (λ b. rw (a, b) names-none))

  pub new-named : Named (new_of key gabi bytes names symbols sections).table.link (new_of key gabi bytes names symbols sections).table.sections
  new-named i a = absurd (omega (arith, no-sections))
