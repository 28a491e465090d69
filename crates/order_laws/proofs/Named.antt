-- The rows of a name: in the log, and what an add of the list adds to them.
-- Assumes nothing.
use Rattle.std.specs.Prelude.{ℕ, ◌+◌, ◌≤◌, ◌≡◌, refl, Bool, true, false, cond, ◌||◌, List, [], ◌∷◌, ◌++◌, eqb, Option, count_by}
use Rattle.std.proofs.Common.{arith, sym, ap, ◌∙◌, append-nil, eqb-true, eq-eqb}
use Rattle.std.proofs.lemmas.Bool.{false≢true, eqb-false}
use Rattle.std.proofs.lemmas.List.Sums.{sum_by-cons}
use Rattle.cells.specs.Proof.Split.{by-test}
use Rattle.gabi.specs.SymbolTable.{is_local, is_global}
use Rattle.link.specs.declared.Interned.{Interned}
use Rattle.link.specs.Said.{accepted}
use Rattle.symbol.specs.declared.Row.{Row}
use Rattle.symbol_resolution.specs.Proof.Outcomes.{is_local_row}
use Rattle.upcoming_symbol.specs.declared.ElfSymbol.{ElfSymbol}
use Rattle.upcoming_symbol.specs.declared.UpcomingSymbol.{UpcomingSymbol}
use Rattle.upcoming_symbol.specs.declared.UpcomingSymbol.TheVariants.{Elf}
use Rattle.symbol_laws.specs.Gabi.{sym_of}
use Rattle.symbol_laws.specs.Hidden.{some_hidden}
use Rattle.symbol_laws.specs.Rank.{count, strong_definition}
use Rattle.symbol_laws.specs.History.{direct, Entry, noted, only, rows}
use Rattle.symbol_laws.proofs.Held.{only_same, only-other, rows_snoc}
use Rattle.symbol_laws.proofs.Put.{noted-local, noted-global}
use Rattle.order_laws.specs.Premises.{ScopePasses, SectionPasses, is_strong_definition, adds_to}
use Rattle.order_laws.specs.Order.{is_hidden_global}
use Rattle.order_laws.proofs.Entries as Entries

-- ---- counts

pub count-cons : (p : UpcomingSymbol → Bool) (u : UpcomingSymbol) (us : List UpcomingSymbol) → count_by p (u ∷ us) ≡ cond (p u) 1 0 + count_by p us
count-cons p u us = sum_by-cons (λ x. cond (p x) 1 0) u us

-- ---- the rows of a name: an add's, if it isn't local

abbrev pub named : ℕ → Row → List Row
named m r = cond (eqb r.scope 0) [] (cond (eqb r.name.0 m) (r ∷ []) [])

abbrev entry : Row → ℕ → Entry
entry r id = record { name = r.name.0; id = id; row = r; from = direct }

pub noted-rows : (m : ℕ) (past : List Entry) (r : Row) (id : ℕ) → rows (only m (past ++ noted r direct (accepted id))) ≡ rows (only m past) ++ named m r
noted-rows m past r id =
    by-test (eqb r.scope 0)
    (λ v.
    rw v
    (ap (λ (l : List Entry). rows (only m (past ++ l))) (noted-local r direct (accepted id) (eqb-true _ _ v))
    ∙ ap (λ (l : List Entry). rows (only m l)) (append-nil past) ∙ sym (append-nil (rows (only m past)))))
    (λ v.
    rw v
    (ap (λ (l : List Entry). rows (only m (past ++ l))) (noted-global r direct id (eqb-false _ _ v))
    ∙ by-test (eqb r.name.0 m)
    (λ e.
    rw e (ap rows (only_same m past (entry r id) e) ∙ rows_snoc (only m past) (entry r id)))
    (λ e.
    rw e (ap rows (only-other m past (entry r id) e) ∙ sym (append-nil (rows (only m past)))))))

pub not-local : (e : ElfSymbol) → is_strong_definition e ≡ true → is_local (sym_of e) ≡ false
unfolding is_local is_global
not-local e k = by-test (eqb e.binding 1) (λ a. let q : e.binding ≡ 1 = eqb-true _ _ a in rw q) (λ a. absurd (false≢true (rw a at k)))

module _ (gabi : Bool) (conversion : List ℕ) (e : ElfSymbol) (name : Interned) (file : Option Interned) (empty : Bool) (p : ScopePasses e) (q : SectionPasses conversion e) where
  abbrev u : UpcomingSymbol
  u = Elf e name file

  abbrev r : Row
  r = Entries.row gabi conversion e name file empty

  name-test : (m : ℕ) → eqb r.name.0 m ≡ eqb name.0 m
  name-test m = ap (λ (i : Interned). eqb i.0 m) (Entries.named-as gabi conversion e name file empty)

  local : is_local_row r ≡ is_local (sym_of e)
  local = Entries.local-is gabi conversion e name file empty p

  -- one strong definition more, if it is one of that name
  pub counted-named : (m : Interned) → count strong_definition (named m.0 r) ≤ cond (adds_to m is_strong_definition u) 1 0
  counted-named m =
      by-test (is_local (sym_of e)) (λ a. rw (local ∙ a) (omega arith))
      (λ a.
      by-test (eqb name.0 m.0)
      (λ t. rw (local ∙ a, name-test m.0 ∙ t, t, Entries.strong-is gabi conversion e name file empty q p a) (omega arith))
      (λ t. rw (local ∙ a, name-test m.0 ∙ t, t) (omega arith)))

  -- a hidden row more
  pub hidden-named : (m : Interned) → some_hidden (named m.0 r) ≡ adds_to m is_hidden_global u
  hidden-named m =
      by-test (eqb name.0 m.0)
      (λ t.
      by-test (is_local (sym_of e))
      (λ a. rw (local ∙ a, t, a))
      (λ a. rw (local ∙ a, name-test m.0 ∙ t, t, Entries.hidden-is gabi conversion e name file empty p) (or-none (is_hidden_global e))))
      (λ t. by-test (is_local (sym_of e)) (λ a. rw (local ∙ a, t)) (λ a. rw (local ∙ a, name-test m.0 ∙ t, t)))
    where
      or-none : (b : Bool) → (b || false) ≡ b
      or-none true = refl
      or-none false = refl

  -- a strong definition is one of its name's rows
  pub named-own : is_strong_definition e ≡ true → named name.0 r ≡ r ∷ []
  named-own k = rw (local ∙ not-local e k, name-test name.0 ∙ eq-eqb name.0 name.0 refl)
