-- A row for the null symbol and one for each add are enough.
-- Assumes nothing.
use Rattle.std.specs.Prelude.{ℕ, suc, ◌+◌, ◌≤◌, refl, cond, List, [], ◌∷◌, length, All, Contains, count_by}
use Rattle.std.proofs.Common.{arith}
use Rattle.std.specs.List.{AllByRecursion}
use Rattle.std.proofs.lemmas.List.Elements.{All-from_recursion}
use Rattle.cells.specs.Proof.Split.{by-test}
use Rattle.gabi.specs.SymbolTable.{is_local}
use Rattle.link.specs.Bounds.{symbol_rows}
use Rattle.upcoming_symbol.specs.declared.UpcomingSymbol.{UpcomingSymbol}
use Rattle.upcoming_symbol.specs.declared.UpcomingSymbol.TheVariants.{Null, GlobalUnknown, GlobalHidden, Section, ExternallyDefined, Elf}
use Rattle.symbol_laws.specs.Gabi.{sym_of}
use Rattle.symbol_laws.specs.History.{State}
use Rattle.order_laws.specs.Premises.{Passes, is_local_add, RowsEnough}
use Rattle.order_laws.proofs.Named.{count-cons}
use Rattle.order_laws.proofs.Run.{by-row, Among}

-- the names of the adds that aren't local
abbrev names_of : List UpcomingSymbol → List ℕ
names_of [] = []
names_of (Elf e name file ∷ us) = cond (is_local (sym_of e)) (names_of us) (name.0 ∷ names_of us)
names_of (Null ∷ us) = names_of us
names_of (GlobalUnknown n ∷ us) = names_of us
names_of (GlobalHidden n value ∷ us) = names_of us
names_of (Section section ∷ us) = names_of us
names_of (ExternallyDefined n visibility binding ∷ us) = names_of us

module _ (s : State) (conversion : List ℕ) where
  -- no more than adds
  few : (us : List UpcomingSymbol) → All (Passes s conversion) us → count_by is_local_add us + length (names_of us) ≤ length us
  few =
      by-row s conversion (λ us. count_by is_local_add us + length (names_of us) ≤ length us) (omega arith)
      (λ e name file us p i.
      rw (count-cons is_local_add (Elf e name file) us) (by-test (is_local (sym_of e)) (λ a. rw a (omega (arith, i))) (λ a. rw a (omega (arith, i)))))

  -- each is among them, so among whatever has all of them
  abbrev In : List UpcomingSymbol → Type 0
  In us = (ns : List ℕ) → ((n : ℕ) → Contains (names_of us) n → Contains ns n) → AllByRecursion (Among s conversion ns) us

  named-in : (us : List UpcomingSymbol) → All (Passes s conversion) us → In us
  named-in =
      by-row s conversion In (λ ns f. tt)
      (λ e name file us p i ns f. (
        (λ a. f name.0 (rw a (0, omega arith, refl))),
        i ns (λ n c. f n (by-test (is_local (sym_of e)) (λ a. rw a c) (λ a. rw a (suc c.0, omega (arith, c.1), c.2)))),
      ))

  pub row-each : (us : List UpcomingSymbol) → All (Passes s conversion) us → 1 + length us ≤ symbol_rows (length s.symbols) → RowsEnough s us
  row-each us h m =
      record {
        names = names_of us;
        among = All-from_recursion (Among s conversion (names_of us)) us (named-in us h (names_of us) (λ n c. c));
        enough = omega (arith, few us h, m);
      }
