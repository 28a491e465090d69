-- Of the calls without elements: the answer is that of the first rule that holds.
-- Assumes nothing.
use Rattle.std.specs.Prelude.{ℕ, ◌≡◌, Bool, true, false, cond, not, ◌&&◌, ◌++◌, eqb, ltb}
use Rattle.std.proofs.Math.Path.{refl}
use Rattle.cells.specs.Proof.Split.{by-test}
use Rattle.link.specs.declared.Interned.{Interned}
use Rattle.link.specs.declared.SymbolId.{SymbolId}
use Rattle.interner.specs.Calls as Names
use Rattle.interner.specs.Calls.{resolve_of}
use Rattle.symbol_resolution.specs.declared.rows.Holder.{Holder}
use Rattle.symbol_resolution.specs.declared.rows.Holder.TheVariants.{Nobody, Removed, Known}
use Rattle.symbol_resolution.specs.Holder.{held_by, holder_of}
use Rattle.symbols.specs.Remove.{RemoveLeft, remove_of}
use Rattle.symbols.specs.Lookup as Lookup
use Rattle.symbols.specs.Lookup.{found_at, get_of, get_global_of}
use Rattle.symbol_laws.specs.History.{State}
use Rattle.merge_laws.specs.Calls.{Linked}
use Rattle.link_laws.specs.Calls.{resolve, remove, get, get_global, refusal_by, call_refusal}
use Rattle.link_laws.specs.Rules.{first_refusal}
use Rattle.link_laws.proofs.Rules.{headed, first-is, not-below, count-rules, head-rules}
use Rattle.link_laws.specs.TableRules.{is_issued, is_known, is_removed, row_of, get_head, present_rules, get_global_head, global_rules, remove_head, absent_rules, resolve_head, issued_alone}

-- who holds a name, in the rules' words
pub holder-is : (t : State) (name : ℕ) → holder_of t.link t.names t.symbols (record { 0 = name })
    ≡ cond (is_known t name) (cond (is_removed t (row_of t name)) Removed (Known (record { 0 = row_of t name }))) Nobody
unfolding holder_of held_by
holder-is t name =
    rw (not-below name t.link.names, not-below (row_of t name) t.link.symbols)
    (tree (is_issued t name) (eqb (row_of t name) 0) (ltb (row_of t name) t.link.symbols) (cond (is_removed t (row_of t name)) Removed (Known (record { 0 = row_of t name }))))
  where
    tree : (i z l : Bool) (h : Holder) → cond (not i) Nobody (cond z Nobody (cond (not l) Nobody h)) ≡ cond (i && (not z && l)) h Nobody
    tree true true l h = refl
    tree true false true h = refl
    tree true false false h = refl
    tree false z l h = refl

module _ (s : Linked) where
  abbrev t : State
  t = s.table

  pub get-exactly : (id : SymbolId) → call_refusal (get id) s ≡ first_refusal (get_head t ++ present_rules t id.0)
  unfolding get_of found_at
  get-exactly id =
      headed (present_rules t id.0) Lookup.refusal_of (get_head t) _ _ _ refl (count-rules t.link _) refl
      (λ a. first-is (not (ltb id.0 t.link.symbols)) _ _ (λ e. rw (not-below id.0 t.link.symbols, e)) (λ e. rw (not-below id.0 t.link.symbols, e) (first-is (is_removed t id.0) _ _ (λ f. rw f) (λ f. rw f))))

  pub global-exactly : (name : Interned) → call_refusal (get_global name) s ≡ first_refusal (get_global_head t ++ global_rules t name.0)
  unfolding get_global_of
  global-exactly name =
      headed (global_rules t name.0) Lookup.refusal_of (get_global_head t) _ _ _ refl (count-rules t.link _) refl
      (λ a.
      rw (holder-is t name.0)
      (by-test (is_issued t name.0)
      (λ e. by-test (is_known t name.0) (λ f. by-test (is_removed t (row_of t name.0)) (λ g. rw (f, g, e)) (λ g. rw (f, g, e))) (λ f. rw (f, e)))
      (λ e. rw e)))

  pub remove-exactly : (id : SymbolId) → call_refusal (remove id) s ≡ first_refusal (remove_head t ++ absent_rules t id.0)
  unfolding remove_of
  remove-exactly id =
      headed (absent_rules t id.0) (λ (o : RemoveLeft). refusal_by o.said) (remove_head t) _ _ _ refl (head-rules t.link _)
      refl (λ a. rw (not-below id.0 t.link.symbols) (by-test (ltb id.0 t.link.symbols) (λ e. rw e) (λ e. rw e)))

  pub resolve-exactly : (id : Interned) → call_refusal (resolve id) s ≡ first_refusal (resolve_head t ++ issued_alone t id.0)
  unfolding resolve_of
  resolve-exactly id =
      headed (issued_alone t id.0) (λ (o : Names.Resolved). o.refusal) (resolve_head t) _ _ _ refl (count-rules t.link _) refl
      (λ a. by-test (is_issued t id.0) (λ e. rw e) (λ e. rw e))
