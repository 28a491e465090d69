-- Which names are undefined in a table: those that the gABI wants from an archive, and those that have weak references only.
-- Assumes nothing.
use Rattle.std.specs.Prelude.{ℕ, ◌<◌, ◌≡◌, refl, Bool, true, false, not, ◌&&◌, ◌||◌, List, [], ◌∷◌, eqb, leb}
use Rattle.std.proofs.Common.{arith, sym, ◌∙◌}
use Rattle.std.proofs.lemmas.Bool.{false≢true}
use borrow.Author.Tests.{eqb-true, lt-leb, ne_eqb, leb-false}
use Rattle.cells.specs.Proof.Split.{by-test}
use Rattle.link.specs.Said.{number_in}
use Rattle.gabi.specs.SymbolTable.{Sym}
use Rattle.gabi.specs.Resolution.{Resolution, defined, common, duplicate, unresolved, zero_value, resolve}
use Rattle.gabi.specs.Archive.{is_unresolved, wants}
use Rattle.interner.specs.Names.{find_of}
use Rattle.symbol.specs.declared.Row.{Row}
use Rattle.symbol_resolution.specs.Holder.{global_at, held_by, holder_of}
use Rattle.symbols.specs.New.{new_of}
use Rattle.symbol_laws.specs.Rank.{weak}
use Rattle.symbol.specs.Row.{row_at}
use Rattle.symbol_laws.specs.History.{State, Entry, rows, Call, RemovesNothing}
use Rattle.symbol_laws.specs.Demand.{Resolved}
use Rattle.symbol_laws.specs.Gabi.{AllMean}
use Rattle.symbol_laws.specs.Agreement.{Agrees}
use Rattle.symbol_laws.proofs.Terms as Terms
use Rattle.archive_walk.specs.Look.{Table, table_of, name_holder, undefined_name}
use Rattle.extraction_laws.specs.Wanted.{is_zero_value, weak_only}

refers : (b w : Bool) → not (not b) && w ≡ true → b ≡ true
refers true w q = refl
refers false w q = q

common-not : (kind : ℕ) → eqb kind 8 ≡ true → eqb kind 7 ≡ false
common-not kind e = let q : kind ≡ 8 = eqb-true _ _ e in rw q

-- what agrees with the gABI's resolution is undefined just there
pub row-undefined : (gabi : Bool) (c : Row) (cs : List Row) (g : Sym) (gs : List Sym) (row : Row) (v : Resolution) → Agrees gabi c cs g gs row v
    → eqb row.value.kind 7 ≡ is_unresolved v || is_zero_value v
unfolding is_unresolved
row-undefined gabi c cs g gs row (defined k) a = defined-not (eqb row.value.kind 7) a.1
  where
    defined-not : (b : Bool) → not b ≡ true → b ≡ false
    defined-not true q = sym q
    defined-not false q = refl
row-undefined gabi c cs g gs row (common k) a = common-not row.value.kind a.1
row-undefined gabi c cs g gs row duplicate a = absurd a
row-undefined false c cs g gs row unresolved a = undefined-is (eqb row.value.kind 7) a.1
  where
    undefined-is : (b : Bool) → not b ≡ false → b ≡ true
    undefined-is true q = refl
    undefined-is false q = sym q
row-undefined true c cs g gs row unresolved a = refers (eqb row.value.kind 7) _ a.1
row-undefined gabi c cs g gs row zero_value a = refers (eqb row.value.kind 7) _ a.1

-- and in the gABI profile undefined and strong just where the name is unresolved
pub row-strong : (c : Row) (cs : List Row) (g : Sym) (gs : List Sym) (row : Row) (v : Resolution) → Agrees true c cs g gs row v
    → eqb row.value.kind 7 && not (weak row) ≡ is_unresolved v
unfolding is_unresolved
row-strong c cs g gs row (defined k) a = defined-not (eqb row.value.kind 7) (not (weak row)) a.1
  where
    defined-not : (b w : Bool) → not b ≡ true → b && w ≡ false
    defined-not true w q = absurd (false≢true q)
    defined-not false w q = refl
row-strong c cs g gs row duplicate a = absurd a
row-strong c cs g gs row (common k) a = rw (common-not row.value.kind a.1)
row-strong c cs g gs row unresolved a = refers-so (eqb row.value.kind 7) (weak row) a.1
  where
    refers-so : (b w : Bool) → not (not b) && not w ≡ true → b && not w ≡ true
    refers-so true w q = q
    refers-so false w q = q
row-strong c cs g gs row zero_value a = weak-not (eqb row.value.kind 7) (weak row) a.1
  where
    weak-not : (b w : Bool) → not (not b) && w ≡ true → b && not w ≡ false
    weak-not true true q = refl
    weak-not true false q = absurd (false≢true q)
    weak-not false w q = refl

-- the link and the rows that a pass is lent
abbrev pub lent_table : State → Table
lent_table s = table_of s.link s.bytes s.names s.symbols

abbrev pub id_of : State → List ℕ → ℕ
id_of s x = find_of s.bytes s.names s.link x

module _ (s : State) (x : List ℕ) where
  undefined-held : (gabi : Bool) (y : Entry) (ys : List Entry) → Resolved gabi s (id_of s x) y ys → undefined_name (lent_table s) x ≡ eqb (row_at s.symbols y.id).value.kind 7
  unfolding undefined_name name_holder holder_of held_by
  undefined-held gabi y ys h =
      rw (lt-leb s.link.names (id_of s x) h.issued, h.id, ne_eqb y.id 0 (λ q. omega (arith, h.real)), lt-leb s.link.symbols y.id h.counted, h.present)

  undefined-nobody : (id_of s x < s.link.names → global_at s.names (id_of s x) ≡ 0) → undefined_name (lent_table s) x ≡ false
  unfolding undefined_name name_holder holder_of held_by
  undefined-nobody h = by-test (leb s.link.names (id_of s x)) (λ t. rw t) (λ t. rw (t, h (leb-false s.link.names (id_of s x) t)))

-- after a new table and any sequence of calls that removes nothing
module _ (key : ℕ) (gabi : Bool) (bytes names symbols sections : List ℕ) (new : number_in (new_of key gabi bytes names symbols sections).said ≡ 0)
    (ks : List Call) (quiet : RemovesNothing ks (Terms.start key gabi bytes names symbols sections new)) (x : List ℕ) where
  abbrev end : State
  end = Terms.end key gabi bytes names symbols sections new ks quiet

  abbrev adds : List Entry
  adds = Terms.adds key gabi bytes names symbols sections new ks quiet (id_of end x)

  -- a name under which g and gs were accepted is undefined just where the gABI wants it from an archive, or it has weak references only
  pub undefined-wanted : (y : Entry) (ys : List Entry) → adds ≡ y ∷ ys → (g : Sym) (gs : List Sym) → AllMean (rows (y ∷ ys)) (g ∷ gs)
      → undefined_name (lent_table end) x ≡ wants (g ∷ gs) || weak_only (g ∷ gs)
  unfolding wants weak_only
  undefined-wanted y ys e g gs m =
      undefined-held end x gabi y ys (Terms.demand-3a key gabi bytes names symbols sections new ks quiet (id_of end x) y ys e)
      ∙ row-undefined gabi y.row (rows ys) g gs (row_at end.symbols y.id) (resolve (g ∷ gs))
      (Terms.gabi-agrees-any key gabi bytes names symbols sections new ks quiet (id_of end x) y ys e g gs m)

  -- a name under which nothing was accepted isn't
  pub undefined-none : adds ≡ [] → undefined_name (lent_table end) x ≡ false
  undefined-none e = undefined-nobody end x (λ i. Terms.no_row key gabi bytes names symbols sections new ks quiet (id_of end x) e i)
