-- What an add leaves of a link: the profile, the names and whether they are empty, the sections' slots, what is lent.
-- Assumes nothing.
use Rattle.std.specs.Prelude.{ℕ, ◌+◌, ◌*◌, ◌≡◌, refl, false, List, eqb, length, None}
use Rattle.std.proofs.Common.{arith, sym, ap, ◌∙◌, subst, length-set, get_or-set_other}
use Rattle.cells.specs.Proof.Split.{by-test}
use Rattle.link.specs.declared.Link.{Link}
use Rattle.link.specs.declared.Interned.{Interned}
use Rattle.link.specs.declared.SymbolId.{SymbolId}
use Rattle.link.specs.Bounds.{name_rows, section_slots}
use Rattle.link.specs.Judge.{none, judge_of, change_of}
use Rattle.link.specs.Proof.Ways as Link
use Rattle.symbol.specs.Proof.RowLaws.{length-set_row}
use Rattle.symbol.specs.declared.Row.{Row}
use Rattle.symbol_resolution.specs.Decide.{section_cell}
use Rattle.symbol_resolution.specs.Apply.{Table, note_name, set_section_symbol, note_section, append_of}
use Rattle.symbol_resolution.specs.Proof.Outcomes.{row_written, decision-left}
use Rattle.symbols.specs.Calls.{lent_of}
use Rattle.symbols.specs.Add.{empty_at, lent, decided_of, add_row_of}
use Rattle.symbols.specs.Proof.AddOutcomes.{added-left}
use Rattle.symbol_laws.specs.History.{State, table, Entry}
use Rattle.symbol_laws.specs.Held.{Inv}
use Rattle.symbol_laws.specs.Within.{Within}
use Rattle.symbol_laws.proofs.Within.{inv-fits, judged}

pub record Kept (s t : Table) : Type 0 where
  pub whole : t.link.broken ≡ false
  pub gabi : t.link.gabi ≡ s.link.gabi
  pub names : t.link.names ≡ s.link.names
  pub slots : t.link.slots ≡ s.link.slots
  pub cells : t.link.slots ≡ section_slots (length t.sections)
  pub rows : length t.symbols ≡ length s.symbols
  pub empty : (n : Interned) → empty_at t.names n ≡ empty_at s.names n

pub kept-all : (t : Table) → t.link.broken ≡ false → t.link.slots ≡ section_slots (length t.sections) → Kept t t
kept-all t b c =
    record { whole = b; gabi = refl; names = refl; slots = refl; cells = c; rows = refl; empty = λ n. refl }

section-long : (l : Link) (sections : List ℕ) (r : Row) (id : ℕ) → length (note_section l sections r id) ≡ length sections
unfolding note_section set_section_symbol
section-long l sections r id =
    by-test (eqb r.scope 0)
    (λ a. by-test (eqb r.value.kind 2) (λ b. rw (a, b) (length-set sections (section_cell l (length sections) r.value.a) id)) (λ b. rw (a, b)))
    (λ a. rw a)

name-empty : (names : List ℕ) (r : Row) (id : ℕ) (n : Interned) → empty_at (note_name names r id) n ≡ empty_at names n
unfolding note_name
name-empty names r id n =
    by-test (eqb r.scope 0) (λ a. rw a)
    (λ a. rw a (ap (λ (k : ℕ). eqb k 0) (get_or-set_other names (r.name.0 * 8 + 3) (n.0 * 8 + 1) id 0 (λ q. omega arith))))

module _ (s t : Table) (r : Row) (k : Kept s t) where
  appended-kept : Kept s (append_of t r)
  unfolding append_of
  appended-kept =
      record {
        whole = k.whole;
        gabi = k.gabi;
        names = k.names;
        slots = k.slots;
        cells = k.cells ∙ ap section_slots (sym (section-long t.link t.sections r t.link.symbols));
        rows = length-set_row t.symbols (record { 0 = t.link.symbols }) r ∙ k.rows;
        empty = λ n. name-empty t.names r t.link.symbols n ∙ k.empty n;
      }

  written-kept : (id : SymbolId) (x : Row) → Kept s (row_written t id x)
  written-kept id x =
      record {
        whole = k.whole;
        gabi = k.gabi;
        names = k.names;
        slots = k.slots;
        cells = k.cells;
        rows = length-set_row t.symbols id x ∙ k.rows;
        empty = k.empty;
      }

  pub added-kept : Kept s (add_row_of t r None).table
  added-kept =
      added-left t r None (λ (u : Table). Kept s u) k
      (decision-left (λ (u : Table). Kept s u) t r k appended-kept written-kept (decided_of t r None))

-- ---- neither 22 nor 1

pub change-fine : (t : State) (past : List Entry) → Inv t past → Within t.link t.names → t.link.broken ≡ false → t.link.slots ≡ section_slots (length t.sections)
    → none ≡ change_of t.link (lent (table t))
change-fine t past inv w whole cells =
    Link.change-judged t.link (lent (table t)) none whole
    (subst (λ (n : ℕ). none ≡ judge_of t.link (lent_of (name_rows (length t.names)) (length t.symbols) n)) cells (judged t (inv-fits t past inv) w))
