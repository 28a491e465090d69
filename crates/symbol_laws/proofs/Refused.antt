-- What a refusal leaves: everything.
-- Assumes nothing.
use Rattle.std.specs.Prelude.{ℕ, refl, true, false, List, ◌≢◌, eqb, leb, length, Option, None}
use Rattle.std.proofs.Common.{arith, sym, ◌∙◌}
use Rattle.std.proofs.Math.Path.{◌≡◌, ap}
use Rattle.std.proofs.lemmas.Bool.{false≢true}
use borrow.Author.Tests.{eqb-false, ne_eqb}
use Rattle.link.specs.Bounds.{section_slots}
use Rattle.link.specs.Said.{number_in}
use Rattle.cells.specs.Proof.Split.{by-test}
use Rattle.link.specs.declared.Link.{Link}
use Rattle.link.specs.declared.SymbolId.{SymbolId}
use Rattle.link.specs.declared.Interned.{Interned}
use Rattle.link.specs.declared.cause.Refusal.{Refusal}
use Rattle.link.specs.Judge.{change_of}
use Rattle.interner.specs.Names.{Store, find_of, fits_of, keep_of}
use Rattle.interner.specs.Calls as Names
use Rattle.symbol.specs.declared.Row.{Row}
use Rattle.upcoming_symbol.specs.declared.UpcomingSymbol.{UpcomingSymbol}
use Rattle.symbol_resolution.specs.declared.rows.Holder.TheVariants.{Unissued}
use Rattle.symbol_resolution.specs.Decision.{Decision, Refuse}
use Rattle.symbol_resolution.specs.Decide.{decide_of, refusal_of}
use Rattle.symbol_resolution.specs.Apply.{Table}
use Rattle.symbols.specs.Calls.{lent_of}
use Rattle.upcoming_symbol.specs.Upcoming.{name_of, row_of}
use Rattle.symbols.specs.Add.{empty_at, file_of, issued_of, direct_holder_of, decided_of, committed_of, add_row_of, add_of, judge_add_of, lent}
use Rattle.symbols.specs.Remove.{Rows, remove_of}
use Rattle.symbol_laws.proofs.View.{Refuses}
use Rattle.symbol_laws.proofs.ViewLemmas.{unissued-refused}

-- ---- adds

module _ (t : Table) (r : Row) (file : Option Interned) where
  pub commit-refused : (n : ℕ) → n ≢ 0 → ((committed_of t r file (Refuse n)).table ≡ t) × (number_in (committed_of t r file (Refuse n)).said ≢ 0)
  unfolding committed_of
  commit-refused n z =
      by-test (eqb n 21) (λ a. rw a (refl, λ q. omega arith)) (λ a. rw (a, ne_eqb n 0 z) (refl, z))

  commit-leaves : (d : Decision) → number_in (committed_of t r file d).said ≢ 0 → (committed_of t r file d).table ≡ t
  unfolding committed_of
  commit-leaves d z =
      by-test (eqb (refusal_of d) 21) (λ a. rw a)
      (λ a. by-test (eqb (refusal_of d) 0) (λ b. absurd (z (rw (a, b)))) (λ b. rw (a, b)))

  pub row-refused : number_in (add_row_of t r file).said ≢ 0 → (add_row_of t r file).table ≡ t
  unfolding add_row_of
  row-refused z = commit-leaves (decided_of t r file) z

  -- an accepted add doesn't look at its file
  commit-accepted : (d : Decision) → number_in (committed_of t r file d).said ≡ 0 → committed_of t r file d ≡ committed_of t r None d
  unfolding committed_of
  commit-accepted d e =
      by-test (eqb (refusal_of d) 21) (λ a. let q : ◌≡◌ {A = ℕ} 21 0 = rw a at e in absurd (omega arith)) (λ a. rw a)

  issued : issued_of t.link r.name file ≡ true → issued_of t.link r.name None ≡ true
  unfolding issued_of
  issued e = by-test (leb t.link.names r.name.0) (λ a. absurd (false≢true (rw a at e))) (λ a. rw a)

  decided-same : issued_of t.link r.name file ≡ true → decided_of t r file ≡ decided_of t r None
  unfolding decided_of direct_holder_of
  decided-same e = rw (e, issued e)

  decided-not : issued_of t.link r.name file ≡ false → decided_of t r file ≡ decide_of t.link t.symbols t.sections r Unissued
  unfolding decided_of direct_holder_of
  decided-not e = rw e

  pub row-accepted : number_in (add_row_of t r file).said ≡ 0 → add_row_of t r file ≡ add_row_of t r None
  unfolding add_row_of
  row-accepted e =
      by-test (issued_of t.link r.name file)
      (λ a. commit-accepted (decided_of t r file) e ∙ ap (committed_of t r None) (decided-same a))
      (λ a.
      let no : Refuses (decide_of t.link t.symbols t.sections r Unissued) = unissued-refused t r in
      absurd ((commit-refused no.number no.real).1 (ap (λ (d : Decision). number_in (committed_of t r file d).said) (sym (decided-not a ∙ no.is)) ∙ e)))

-- ---- calls

module _ (t : Table) (conversion : List ℕ) (u : UpcomingSymbol) where
  abbrev row : Row
  row = row_of t.link.gabi conversion u (empty_at t.names (name_of u))

  pub add-refused : number_in (add_of t conversion u).said ≢ 0 → (add_of t conversion u).table ≡ t
  unfolding add_of
  add-refused z =
      by-test (eqb (judge_add_of t.link (lent t) u).number 0) (λ a. rw a (row-refused t row (file_of u) (rw a at z))) (λ a. rw a)

  -- an accepted add is the add of its row
  pub add-accepted : number_in (add_of t conversion u).said ≡ 0 → add_of t conversion u ≡ add_row_of t row None
  unfolding add_of
  add-accepted e =
      by-test (eqb (judge_add_of t.link (lent t) u).number 0) (λ a. rw a (row-accepted t row (file_of u) (rw a at e)))
      (λ a. absurd (eqb-false _ _ a (rw a at e)))

module _ (s : Store) (x : List ℕ) where
  abbrev id : Interned
  id = record { 0 = find_of s.bytes s.names s.link x }

  pub intern-refused : number_in (Names.intern_of s x).said ≢ 0 → (Names.intern_of s x).store ≡ s
  unfolding Names.intern_of Names.issue_of
  intern-refused z =
      by-test (eqb (change_of s.link (Names.lent s)).number 0)
      (λ a. by-test (fits_of s id (length x)) (λ b. absurd (z (rw (a, b)))) (λ b. rw (a, b))) (λ a. rw a)

  pub intern-accepted : number_in (Names.intern_of s x).said ≡ 0 → (Names.intern_of s x).store ≡ keep_of s id x
  unfolding Names.intern_of Names.issue_of
  intern-accepted e =
      by-test (eqb (change_of s.link (Names.lent s)).number 0)
      (λ a.
      by-test (fits_of s id (length x)) (λ b. rw (a, b)) (λ b. let q : ◌≡◌ {A = ℕ} 2 0 = rw (a, b) at e in absurd (omega arith)))
      (λ a. absurd (eqb-false _ _ a (rw a at e)))

module _ (l : Link) (x : Rows) (id : SymbolId) where
  abbrev judged : Refusal
  judged = change_of l (lent_of l.chains (length x.symbols) (section_slots (length x.sections)))

  pub remove-refused : number_in (remove_of l x id).said ≢ 0 → (remove_of l x id).rows ≡ x
  unfolding remove_of
  remove-refused z =
      by-test (eqb judged.number 0) (λ a. by-test (leb l.symbols id.0) (λ b. rw (a, b)) (λ b. absurd (z (rw (a, b))))) (λ a. rw a)

  pub remove-link : (remove_of l x id).link ≡ l
  unfolding remove_of
  remove-link = by-test (eqb judged.number 0) (λ a. by-test (leb l.symbols id.0) (λ b. rw (a, b)) (λ b. rw (a, b))) (λ a. rw a)
