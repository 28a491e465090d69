-- A new table with names issued: nothing is added yet.
-- Assumes nothing.
use Rattle.std.specs.Prelude.{ℕ, ◌*◌, ◌-◌, ◌≡◌, refl, Bool, false, List, [], ◌∷◌, eqb, length, take, replicate, map}
use Rattle.std.proofs.Common.{arith, sym, ap, ◌∙◌, subst}
use Rattle.std.proofs.Math.ListN.{length-append, length-replicate}
use Rattle.std.proofs.Math.Seq.{length-take-le}
use Rattle.cells.specs.Proof.Split.{by-test}
use Rattle.link.specs.declared.Link.{Link}
use Rattle.link.specs.Bounds.{name_rows, symbol_rows, section_slots}
use Rattle.link.specs.Counts.{no_names}
use Rattle.link.specs.Said.{number_in}
use Rattle.interner.specs.Names.{Store, store_of}
use Rattle.interner.specs.Calls as Names
use Rattle.interner_laws.proofs.Interns.{keeps, intern-untouched}
use Rattle.symbols.specs.New.{clear_symbols, null_of, new_of}
use Rattle.symbol_laws.specs.History.{State, table, store, opened, intern, call_next, log_calls, RemovesNothing}
use Rattle.symbol_laws.specs.Held.{Inv}
use Rattle.symbol_laws.proofs.Start.{new-inv}
use Rattle.symbol_laws.proofs.Calls.{calls-keep}
use Rattle.symbol_laws.proofs.Profile.{calls-profile, new-profile}
use Rattle.symbol_laws.proofs.Within.{calls-within, new-within}
use Rattle.order_laws.specs.Order.{names_issued}
use Rattle.order_laws.proofs.Kept.{kept-all}
use Rattle.order_laws.proofs.Step.{Going}

-- not broken, a cell for each section that was lent, no symbol but the null one
pub record Fresh (s : State) : Type 0 where
  pub whole : s.link.broken ≡ false
  pub cells : s.link.slots ≡ section_slots (length s.sections)
  pub one : s.link.symbols ≡ 1

cleared-long : (sections : List ℕ) → length (clear_symbols sections) ≡ length sections
unfolding clear_symbols
cleared-long sections =
    let n : ℕ = length sections in
    let m : ℕ = section_slots n * 8 in
    length-append (take m sections) (replicate {A = ℕ} (n - m) 0)
    ∙ rw (length-take-le m sections (omega arith), length-replicate {A = ℕ} (n - m) 0) (omega arith)

names-whole : (key : ℕ) (bytes names : List ℕ) → (Names.new_of key bytes names).store.link.broken ≡ false
unfolding Names.new_of
names-whole key bytes names =
    by-test (eqb (name_rows (length names)) 0) (λ a. rw a)
    (λ a.
    rw a
    (keeps (λ (k : Store). k.link.broken ≡ false) (store_of bytes (Names.clear_heads names) (no_names key (name_rows (length names)))) (record { 0 = 0 }) []
    refl (λ h r. refl)))

new-fresh : (key : ℕ) (gabi : Bool) (bytes names symbols sections : List ℕ) → number_in (new_of key gabi bytes names symbols sections).said ≡ 0
    → Fresh (opened (new_of key gabi bytes names symbols sections))
unfolding new_of null_of
new-fresh key gabi bytes names symbols sections e =
    by-test (eqb (symbol_rows (length symbols)) 0) (λ a. let q : ◌≡◌ {A = ℕ} 2 0 = rw a at e in absurd (omega arith))
    (λ a.
    by-test (eqb (Names.new_of key bytes names).store.link.names 0) (λ b. let q : ◌≡◌ {A = ℕ} 2 0 = rw (a, b) at e in absurd (omega arith))
    (λ b.
    rw (a, b)
    (record { whole = names-whole key bytes names; cells = ap section_slots (sym (cleared-long sections)); one = refl })))

intern-fresh : (s : State) (x : List ℕ) → Fresh s → Fresh (call_next (intern x) s)
intern-fresh s x f =
    let u = intern-untouched (store s) x in
    record {
      whole = ap (λ (l : Link). l.broken) u.others ∙ f.whole;
      cells = ap (λ (l : Link). l.slots) u.others ∙ f.cells;
      one = ap (λ (l : Link). l.symbols) u.others ∙ f.one;
    }

-- interns alone: nothing is removed and nothing added
issued-fresh : (names : List (List ℕ)) (s : State) → Fresh s → Fresh (names_issued names s)
issued-fresh [] s f = f
issued-fresh (x ∷ names) s f = issued-fresh names (call_next (intern x) s) (intern-fresh s x f)

issued-quiet : (names : List (List ℕ)) (s : State) → RemovesNothing (map intern names) s
issued-quiet [] s = tt
issued-quiet (x ∷ names) s = ((λ (z : ⊥). z), issued-quiet names (call_next (intern x) s))

issued-log : (names : List (List ℕ)) (s : State) → log_calls (map intern names) s ≡ []
issued-log [] s = refl
issued-log (x ∷ names) s = issued-log names (call_next (intern x) s)

module _ (key : ℕ) (gabi : Bool) (bytes names symbols sections : List ℕ) (new : number_in (new_of key gabi bytes names symbols sections).said ≡ 0) (issued : List (List ℕ)) where
  abbrev first : State
  first = opened (new_of key gabi bytes names symbols sections)

  abbrev pub start : State
  start = names_issued issued first

  pub fresh : Fresh start
  fresh = issued-fresh issued first (new-fresh key gabi bytes names symbols sections new)

  pub profile : start.link.gabi ≡ gabi
  profile = calls-profile (map intern issued) first ∙ new-profile key gabi bytes names symbols sections new

  pub going : Going start start []
  going =
      record {
        inv =
            subst (Inv start) (issued-log issued first)
            (calls-keep (map intern issued) first [] (issued-quiet issued first) (new-inv key gabi bytes names symbols sections new));
        within = calls-within (map intern issued) first (issued-quiet issued first) (new-within key gabi bytes names symbols sections new);
        kept = kept-all (table start) fresh.whole fresh.cells;
      }
