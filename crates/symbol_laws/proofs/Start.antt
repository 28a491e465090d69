-- A new table holds no name.
-- Assumes nothing.
use Rattle.std.specs.Prelude.{ℕ, ◌/◌, ◌≤◌, refl, Bool, List, [], ◌≢◌, eqb}
use Rattle.std.proofs.Common.{arith, subst}
use Rattle.std.proofs.Math.Path.{◌≡◌}
use Rattle.std.proofs.Math.ListN.{length}
use Rattle.std.proofs.lemmas.Bool.{eqb-false}
use Rattle.symbol.specs.Proof.RowLaws.{length-set_row}
use Rattle.link.specs.Said.{number_in}
use Rattle.cells.specs.Proof.Split.{by-test}
use Rattle.link.specs.Bounds.{lesser, name_rows, symbol_rows}
use Rattle.link.specs.Counts.{no_names}
use Rattle.interner.specs.Hash.{head_of}
use Rattle.interner.specs.Names.{Store, store_of, room_of, added, keep_of}
use Rattle.interner.specs.Calls as Names
use Rattle.interner_laws.proofs.Written.{linked_long}
use Rattle.symbol_resolution.specs.Holder.{global_at}
use Rattle.symbols.specs.New.{null_row, null_of, new_of}
use Rattle.symbol_laws.proofs.View.{lesser-second}
use Rattle.symbol_laws.specs.History.{opened}
use Rattle.symbol_laws.specs.Held.{Inv}
use Rattle.symbol_laws.proofs.Issue.{FreeRow, linked-new, room-free}

-- only the empty name, without a row
record Blank (s : Store) : Type 0 where
  one : s.link.names ≡ 1
  long : 9 ≤ length s.names
  none : global_at s.names 0 ≡ 0

added-blank : (s : Store) → s.link.names ≡ 0 → FreeRow s.link s.names → Blank (added s [])
added-blank s z row =
    let long : length (added s []).names ≡ length s.names = linked_long s.names s.link.names s.link.bytes 0 (head_of s.link s.names []) in
    record {
      one = omega arith;
      long = omega (arith, row.lent, row.free);
      none = subst (λ (n : ℕ). global_at (added s []).names n ≡ 0) z (linked-new s.link s.names s.link.bytes 0 [] row);
    }

names-blank : (key : ℕ) (bytes names : List ℕ) → (Names.new_of key bytes names).store.link.names ≢ 0 → Blank (Names.new_of key bytes names).store
unfolding Names.new_of keep_of
names-blank key bytes names z =
    by-test (eqb (name_rows (length names)) 0) (λ a. absurd (z (rw a)))
    (λ a.
    let s : Store = store_of bytes (Names.clear_heads names) (no_names key (name_rows (length names))) in
    by-test (room_of s 0) (λ b. rw (a, b) (added-blank s refl (room-free s 0 b))) (λ b. absurd (z (rw (a, b)))))

module _ (gabi : Bool) (symbols sections : List ℕ) (s : Store) (some : symbol_rows (length symbols) ≢ 0) where
  null-inv : (s.link.names ≢ 0 → Blank s) → number_in (null_of gabi symbols sections s).said ≡ 0 → Inv (opened (null_of gabi symbols sections s)) []
  unfolding null_of
  null-inv blank e =
      by-test (eqb s.link.names 0) (λ a. let q : ◌≡◌ {A = ℕ} 2 0 = rw a at e in absurd (omega arith))
      (λ a.
      let b : Blank s = blank (eqb-false _ _ a) in
      let h : lesser 65535 (length symbols / 8) ≤ length symbols / 8 = lesser-second 65535 _ in
      rw a
      (record {
        some = omega arith;
        room = omega (arith, length-set_row symbols (record { 0 = 0 }) null_row, some, h);
        few = omega arith;
        names-room = omega (arith, b.one, b.long);
        held_by = λ n k. let q : n ≡ 0 = omega (arith, b.one, k) in rw q b.none;
        unissued = λ n k. refl;
        once = λ n. omega arith;
      }))

module _ (key : ℕ) (gabi : Bool) (bytes names symbols sections : List ℕ) where
  pub new-inv : number_in (new_of key gabi bytes names symbols sections).said ≡ 0 → Inv (opened (new_of key gabi bytes names symbols sections)) []
  unfolding new_of
  new-inv e =
      by-test (eqb (symbol_rows (length symbols)) 0) (λ a. let q : ◌≡◌ {A = ℕ} 2 0 = rw a at e in absurd (omega arith))
      (λ a. rw a (null-inv gabi symbols sections (Names.new_of key bytes names).store (eqb-false _ _ a) (names-blank key bytes names) (rw a at e)))
