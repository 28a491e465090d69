-- Laws of the definitions of Refusals.antt.
-- Assumes nothing.
use Prim.Native.Nat.{ℕ}
use Rattle.std.specs.Prelude.{◌≡◌, true, List, [], ◌∷◌, ◌++◌, ◌≢◌, eqb, ltb, leb, get_or, length}
use Rattle.std.proofs.Math.Path.{refl}
use Rattle.std.proofs.Common.{sym, ◌∙◌, ltb-false, le-leb}
use Rattle.std.proofs.lemmas.Bool.{false≢true, eqb-false}
use Rattle.cells.specs.Proof.Split.{by-test}
use Rattle.byte_slices.specs.Proof.Ways.{pick}
use Rattle.strings.specs.Lookup.{Looked, look_up}
use Rattle.link.specs.Judge.{going_of}
use Rattle.interner.specs.Names.{find_of, keep_of}
use Rattle.symbol_resolution.specs.Decide.{refusal_of}
use Rattle.elf_object.specs.Rows.{field}
use Rattle.merge_symbols.specs.Plan.{View, place_of}
use Rattle.shared_objects.specs.Record.{Recorded, record_fits, keep_name, record_as, record_of, dependency_of}
use Rattle.shared_objects.specs.Define.{Definition}
use Rattle.shared_objects.specs.Define.{rowed_of, external_of, plan_of, accept_of, kept_of, commit_of, view, define_of}
use Rattle.shared_objects.specs.SymbolsLoad.{State, with_added, with_recorded, staged, library_symbol_named, looked_of, symbol_of}
use Rattle.merge_laws.proofs.Refusals.{one-back, one-behind, DecidedIn, place_other}
use Rattle.load_laws.specs.LoadSteps.{recording, adding}
use Rattle.merge_laws.specs.Table.{one_of, binding_causes, known_numbers}
use Rattle.load_laws.specs.Elements.{symbol_name}
use Rattle.load_laws.proofs.Refusals.{id_in, SymbolLeft, plan-decided, plan_new, DependencyLeft, as_it_was, but-its-name}

plan-id : (v : View) (x : List ℕ) (binding visibility : ℕ) → (plan_of v x binding visibility).id ≡ record { 0 = find_of v.bytes v.names v.link x }
unfolding plan_of external_of rowed_of
plan-id v x binding visibility = refl

module _ (x : Looked) (s : State) (i : ℕ) (found : x.found ≡ true) where
  commit-left : (p : Definition) → p.id ≡ id_in s x.name → DecidedIn (binding_causes ++ known_numbers) p.decision
      → (leb s.stage.link.names (id_in s x.name).0 ≡ true → DecidedIn binding_causes p.decision)
      → (commit_of (adding s) x.name p i).stage.number ≢ 0 → SymbolLeft x s (with_added s (commit_of (adding s) x.name p i)) i
  unfolding commit_of kept_of accept_of keep_of place_of
  commit-left p e d n u =
      let k : ℕ = refusal_of p.decision in
      by-test (eqb k 2) (λ t. rw t (as_it_was refl refl))
      (λ t.
      by-test (eqb k 0) (λ z. absurd (u (rw (t, z))))
      (λ z.
      by-test (one_of k binding_causes) (λ a. rw (t, z, e, place_other k binding_causes (id_in s x.name) i refl a) (but-its-name found a refl))
      (λ a.
      by-test (ltb (id_in s x.name).0 s.stage.link.names)
      (λ h.
      rw (t, z, e, h) (as_it_was (one-behind k (2 ∷ 9 ∷ []) known_numbers (one-back k binding_causes known_numbers (d (eqb-false _ _ z) (eqb-false _ _ t)) a)) refl))
      (λ h. absurd (false≢true (sym a ∙ n (le-leb s.stage.link.names (id_in s x.name).0 (ltb-false _ _ h)) (eqb-false _ _ z) (eqb-false _ _ t)))))))

  record-left : (record_of (recording s) x.name i).stage.number ≢ 0 → SymbolLeft x s (with_recorded s (record_of (recording s) x.name i)) i
  unfolding record_of record_as keep_name place_of
  record-left u =
      by-test (record_fits s.stage.link s.bytes s.names (length s.lists) (id_in s x.name) (length x.name)) (λ t. absurd (u (rw t)))
      (λ t. rw t (as_it_was refl refl))

  named-left : (entries : List ℕ) → (library_symbol_named entries s x.name i).stage.number ≢ 0 → SymbolLeft x s (library_symbol_named entries s x.name i) i
  unfolding library_symbol_named define_of
  named-left entries u =
      let v : View = view (adding s) in
      let binding : ℕ = field entries i 1 in
      let visibility : ℕ = field entries i 3 in
      by-test (eqb (field entries i 4) 0)
      (λ a.
      by-test (eqb (field entries i 1) 1) (λ b. rw (a, b) (record-left (rw (a, b) at u))) (λ b. absurd (u (rw (a, b)))))
      (λ a.
      rw a
      (commit-left (plan_of v x.name binding visibility) (plan-id v x.name binding visibility) (plan-decided v x.name binding visibility)
      (plan_new v x.name binding visibility) (rw a at u)))

-- the stage's own number and place don't matter
restaged : (x : Looked) (s t : State) (i : ℕ) → SymbolLeft x (staged s (going_of s.stage.link)) t i → SymbolLeft x s t i
restaged x s t i (as_it_was k e) = as_it_was k e
restaged x s t i (but-its-name f k e) = but-its-name f k e

looked-left : (entries : List ℕ) (s : State) (i : ℕ) (x : Looked) → (looked_of entries s i x).stage.number ≢ 0 → SymbolLeft x s (looked_of entries s i x) i
unfolding looked_of place_of
looked-left entries s i x u =
    let t : State = staged s (going_of s.stage.link) in
    pick (λ (k : State). k.stage.number ≢ 0 → SymbolLeft x s k i) x.found _ _
    (λ a u. restaged x s (library_symbol_named entries t x.name i) i (named-left x t i a entries u)) (λ a u. as_it_was refl refl) u

pub symbol-left : (entries file : List ℕ) (s : State) (i : ℕ) → (symbol_of entries file s i).stage.number ≢ 0
    → SymbolLeft (symbol_name entries file i) s (symbol_of entries file s i) i
unfolding symbol_of
symbol-left entries file s i u = looked-left entries s i (symbol_name entries file i) u

pub dependency-left : (file needs : List ℕ) (s : Recorded) (j : ℕ) → (dependency_of file needs s j).stage.number ≢ 0 → DependencyLeft s (dependency_of file needs s j) j
unfolding dependency_of record_of record_as keep_name
dependency-left file needs s j u =
    let x : List ℕ = (look_up file (get_or needs j 0)).name in
    by-test (record_fits s.stage.link s.bytes s.names (length s.lists) (record { 0 = find_of s.bytes s.names s.stage.link x }) (length x))
    (λ t. absurd (u (rw t))) (λ t. rw t (record { as_it_was = refl }))
