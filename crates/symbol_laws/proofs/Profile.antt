-- No call changes a link's profile.
-- Assumes nothing.
use Rattle.std.specs.Prelude.{ℕ, ◌≡◌, refl, Bool, List, [], ◌∷◌, eqb, ltb, length, None}
use Rattle.std.proofs.Common.{arith, ap, ◌∙◌, eqb-true}
use Rattle.std.proofs.lemmas.Bool.{eqb-false}
use Rattle.cells.specs.Proof.Split.{by-test}
use Rattle.link.specs.declared.Link.{Link}
use Rattle.link.specs.declared.Interned.{Interned}
use Rattle.link.specs.Said.{number_in}
use Rattle.link.specs.Bounds.{symbol_rows}
use Rattle.interner.specs.Names.{Store, room_of, keep_of}
use Rattle.interner.specs.Calls as Names
use Rattle.symbol.specs.declared.Row.{Row}
use Rattle.symbol_resolution.specs.Decision.{Decision}
use Rattle.symbol_resolution.specs.Apply.{Table, append_of, apply_of}
use Rattle.symbol_resolution.specs.Proof.Outcomes.{decision-left}
use Rattle.symbols.specs.Add.{decided_of, add_row_of}
use Rattle.symbols.specs.Proof.AddOutcomes.{added-left}
use Rattle.symbols.specs.New.{null_of, new_of}
use Rattle.symbols.specs.Calls.{Left}
use Rattle.symbols.specs.Remove.{rows_of}
use Rattle.symbol_laws.specs.History.{State, table, store, opened, upcoming, add_to, intern_in, Part, issue, put, id_of, part_next, run_parts, Call, add, intern, remove, call_next, run_calls}
use Rattle.symbol_laws.proofs.Refused.{add-refused, add-accepted, intern-refused, intern-accepted, remove-link}

pub applied-profile : (t : Table) (r : Row) (d : Decision) → (apply_of t r d).link.gabi ≡ t.link.gabi
unfolding append_of
applied-profile t r d = decision-left (λ (u : Table). u.link.gabi ≡ t.link.gabi) t r refl refl (λ id x. refl) d

put-profile : (t : Table) (r : Row) → (add_row_of t r None).table.link.gabi ≡ t.link.gabi
put-profile t r = added-left t r None (λ (u : Table). u.link.gabi ≡ t.link.gabi) refl (applied-profile t r (decided_of t r None))

pub keep-profile : (s : Store) (id : Interned) (x : List ℕ) → (keep_of s id x).link.gabi ≡ s.link.gabi
unfolding keep_of
keep-profile s id x =
    by-test (ltb id.0 s.link.names) (λ a. rw a) (λ a. by-test (room_of s (length x)) (λ b. rw (a, b)) (λ b. rw (a, b)))

part-profile : (p : Part) (s : State) → (part_next p s).link.gabi ≡ s.link.gabi
part-profile (issue x) s = keep-profile (store s) (id_of s x) x
part-profile (put r from) s = put-profile (table s) r

pub parts-profile : (ps : List Part) (s : State) → (run_parts ps s).link.gabi ≡ s.link.gabi
parts-profile [] s = refl
parts-profile (p ∷ ps) s = parts-profile ps (part_next p s) ∙ part-profile p s

pub new-profile : (key : ℕ) (gabi : Bool) (bytes names symbols sections : List ℕ) → number_in (new_of key gabi bytes names symbols sections).said ≡ 0
    → (opened (new_of key gabi bytes names symbols sections)).link.gabi ≡ gabi
unfolding new_of null_of
new-profile key gabi bytes names symbols sections e =
    by-test (eqb (symbol_rows (length symbols)) 0) (λ a. let q : ◌≡◌ {A = ℕ} 2 0 = rw a at e in absurd (omega arith))
    (λ a.
    by-test (eqb (Names.new_of key bytes names).store.link.names 0) (λ b. let q : ◌≡◌ {A = ℕ} 2 0 = rw (a, b) at e in absurd (omega arith))
    (λ b. rw (a, b)))

-- a remove too
pub call-profile : (k : Call) (s : State) → (call_next k s).link.gabi ≡ s.link.gabi
call-profile (add conversion u) s =
    by-test (eqb (number_in (add_to s conversion u).said) 0)
    (λ a. ap (λ (o : Left). o.table.link.gabi) (add-accepted (table s) conversion u (eqb-true _ _ a)) ∙ put-profile (table s) (upcoming s conversion u))
    (λ a. ap (λ (t : Table). t.link.gabi) (add-refused (table s) conversion u (eqb-false _ _ a)))
call-profile (intern x) s =
    by-test (eqb (number_in (intern_in s x).said) 0)
    (λ a. ap (λ (t : Store). t.link.gabi) (intern-accepted (store s) x (eqb-true _ _ a)) ∙ keep-profile (store s) (id_of s x) x)
    (λ a. ap (λ (t : Store). t.link.gabi) (intern-refused (store s) x (eqb-false _ _ a)))
call-profile (remove id) s = ap (λ (l : Link). l.gabi) (remove-link s.link (rows_of s.symbols s.sections) id)

pub calls-profile : (ks : List Call) (s : State) → (run_calls ks s).link.gabi ≡ s.link.gabi
calls-profile [] s = refl
calls-profile (k ∷ ks) s = calls-profile ks (call_next k s) ∙ call-profile k s
