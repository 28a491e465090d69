-- The names that a load records, one by one; specs/LawsRecorded.antt has the words.
-- Assumes nothing.
use Prim.Native.Nat.{ℕ, zero, suc, ◌+◌, ◌<◌, ◌≤◌}
use Rattle.std.proofs.Common.{arith, ap, ◌∙◌, eqb-true, ltb-true, lt-ltb}
use Rattle.std.specs.Prelude.{◌≡◌, refl, Bool, true, List, [], ◌∷◌, ◌++◌, eqb, ltb, get_or, length}
use Rattle.std.proofs.lemmas.Bool.{eqb-false}
use Rattle.cells.specs.Proof.Split.{by-test}
use Rattle.byte_slices.specs.Proof.Ways.{pick, apart}
use Rattle.gabi.specs.StringTable.{has_name, name_at}
use Rattle.link.specs.declared.Link.{Link}
use Rattle.link.specs.declared.Interned.{Interned}
use Rattle.link.specs.Judge.{going_of}
use Rattle.interner.specs.Names.{Store, store_of, fits_of, keep_of}
use Rattle.interner_laws.proofs.Terms.{untouched-by-keep}
use Rattle.symbol.specs.declared.Row.{Row}
use Rattle.symbol.specs.Codes.{successor}
use Rattle.symbol_resolution.specs.Decision.{Decision}
use Rattle.symbol_resolution.specs.Decide.{refusal_of}
use Rattle.symbol_resolution.specs.Apply.{Table, table_of, append_of, apply_of}
use Rattle.symbol_resolution.specs.Proof.Outcomes.{decision-left}
use Rattle.elf_object.specs.Rows.{field}
use Rattle.shared_objects.specs.Define.{Definition}
use Rattle.shared_objects.specs.Record.{Recorded, recorded_of, record_fits, keep_name, record_as, record_of, dependency_of, dependencies_from}
use Rattle.shared_objects.specs.Define.{Added, accept_of, kept_of, commit_of, define_of}
use Rattle.shared_objects.specs.SymbolsLoad.{State, library_symbol_named, looked_of, symbol_of, symbols_from}
use Rattle.load_laws.proofs.Grown.{Grown, grown-none, grown-one, grown-both}
use Rattle.load_laws.specs.LawsRecorded.{most, id_in, dependency_ids, new_ids, undefined_ids}

next-is : (n m : ℕ) → n < m → m ≤ most → successor n ≡ n + 1
unfolding successor
next-is n m h g = simp (lt-ltb n most (omega arith))

-- ---- one name

pub keep-lists : (s : Store) (id : Interned) (x : List ℕ) → (keep_of s id x).link.lists ≡ s.link.lists
keep-lists s id x = ap (λ (l : Link). l.lists) (untouched-by-keep s id x).others

fits-cell : (l : Link) (bytes names : List ℕ) (lists : ℕ) (id : Interned) (n : ℕ) → record_fits l bytes names lists id n ≡ true → l.lists < lists
unfolding record_fits
fits-cell l bytes names lists id n =
    pick (λ (b : Bool). b ≡ true → l.lists < lists) (fits_of (store_of bytes names l) id n) _ _
    (λ t. pick (λ (b : Bool). b ≡ true → l.lists < lists) (ltb l.lists lists) _ _ (λ u e. ltb-true _ _ u) (λ u e. absurd (apart e)))
    (λ t e. absurd (apart e))

module _ (s : Recorded) (x : List ℕ) (place : ℕ) (fit : length s.lists ≤ most) where
  pub record-grown : (record_of s x place).stage.number ≡ 0
      → Grown s.lists s.stage.link.lists (record_of s x place).lists (record_of s x place).stage.link.lists (id_in s.bytes s.names s.stage.link x ∷ [])
  unfolding record_of record_as keep_name
  record-grown =
      pick (λ (r : Recorded). r.stage.number ≡ 0 → Grown s.lists s.stage.link.lists r.lists r.stage.link.lists (id_in s.bytes s.names s.stage.link x ∷ []))
      (record_fits s.stage.link s.bytes s.names (length s.lists) (record { 0 = id_in s.bytes s.names s.stage.link x }) (length x)) _ _
      (λ t e.
      let h = fits-cell s.stage.link s.bytes s.names (length s.lists) _ (length x) t in
      rw (next-is s.stage.link.lists (length s.lists) h fit) (grown-one s.lists s.stage.link.lists (id_in s.bytes s.names s.stage.link x) h))
      (λ t e. absurd (omega arith))

module _ (file needs : List ℕ) where
  dependency-grown : (s : Recorded) (j : ℕ) → length s.lists ≤ most → (dependency_of file needs s j).stage.number ≡ 0
      → Grown s.lists s.stage.link.lists (dependency_of file needs s j).lists (dependency_of file needs s j).stage.link.lists
      (id_in s.bytes s.names s.stage.link (name_at file (get_or needs j 0)) ∷ [])
  unfolding dependency_of
  dependency-grown s j fit e =
      record-grown (recorded_of s.bytes s.names s.lists (going_of s.stage.link)) (name_at file (get_or needs j 0)) j fit e

  pub dependencies-grown : (n j : ℕ) (s : Recorded) → length s.lists ≤ most → s.stage.link.lists ≤ length s.lists
      → (dependencies_from file needs n j s).stage.number ≡ 0
      → Grown s.lists s.stage.link.lists (dependencies_from file needs n j s).lists (dependencies_from file needs n j s).stage.link.lists
      (dependency_ids file needs n j s)
  unfolding dependencies_from dependency_ids
  dependencies-grown zero j s fit low = λ e. grown-none s.lists s.stage.link.lists low
  dependencies-grown (suc n) j s fit low =
      pick (λ (r : Recorded). r.stage.number ≡ 0 → Grown s.lists s.stage.link.lists r.lists r.stage.link.lists
      ((id_in s.bytes s.names s.stage.link (name_at file (get_or needs j 0)) ∷ []) ++ dependency_ids file needs n (j + 1) (dependency_of file needs s j)))
      (eqb (dependency_of file needs s j).stage.number 0) _ _
      (λ t e.
      let g = dependency-grown s j fit (eqb-true _ _ t) in
      grown-both _ _ _ _ _ _ _ _ g (dependencies-grown n (j + 1) (dependency_of file needs s j) (rw g.long fit) g.within e))
      (λ t e. absurd (eqb-false _ _ t e))

-- ---- symbols

apply-lists : (t : Table) (r : Row) (d : Decision) → (apply_of t r d).link.lists ≡ t.link.lists
unfolding append_of
apply-lists t r d = decision-left (λ (u : Table). u.link.lists ≡ t.link.lists) t r refl refl (λ id x. refl) d

commit-lists : (s : Added) (x : List ℕ) (p : Definition) (i : ℕ) → (commit_of s x p i).stage.link.lists ≡ s.stage.link.lists
unfolding commit_of kept_of accept_of
commit-lists s x p i =
    let k = keep_of (store_of s.bytes s.names s.stage.link) p.id x in
    let e : k.link.lists ≡ s.stage.link.lists = keep-lists (store_of s.bytes s.names s.stage.link) p.id x in
    pick (λ (r : Added). r.stage.link.lists ≡ s.stage.link.lists) (eqb (refusal_of p.decision) 2) _ _ (λ t. refl)
    (λ t.
    pick (λ (r : Added). r.stage.link.lists ≡ s.stage.link.lists) (eqb (refusal_of p.decision) 0) _ _
    (λ u. apply-lists (table_of k.names s.symbols s.sections k.link) p.row p.decision ∙ e) (λ u. e))

module _ (entries file : List ℕ) where
  symbol-grown : (s : State) (i : ℕ) → length s.lists ≤ most → s.stage.link.lists ≤ length s.lists → (symbol_of entries file s i).stage.number ≡ 0
      → Grown s.lists s.stage.link.lists (symbol_of entries file s i).lists (symbol_of entries file s i).stage.link.lists (new_ids entries file s i)
  unfolding symbol_of looked_of library_symbol_named new_ids define_of
  symbol-grown s i fit low =
      pick (λ (t : State). t.stage.number ≡ 0 → Grown s.lists s.stage.link.lists t.lists t.stage.link.lists (new_ids entries file s i))
      (has_name file (field entries i 0)) _ _
      (λ f.
      by-test (eqb (field entries i 4) 0)
      (λ t.
      by-test (eqb (field entries i 1) 1)
      (λ u. rw (t, u) (record-grown (recorded_of s.bytes s.names s.lists (going_of s.stage.link)) (name_at file (field entries i 0)) i fit))
      (λ u. rw (t, u) (λ e. grown-none s.lists s.stage.link.lists low)))
      (λ t.
      rw t (λ e. rw (commit-lists _ (name_at file (field entries i 0)) _ i) (grown-none s.lists s.stage.link.lists low))))
      (λ f e. absurd (omega arith))

  pub symbols-grown : (n i : ℕ) (s : State) → length s.lists ≤ most → s.stage.link.lists ≤ length s.lists
      → (symbols_from entries file n i s).stage.number ≡ 0
      → Grown s.lists s.stage.link.lists (symbols_from entries file n i s).lists (symbols_from entries file n i s).stage.link.lists
      (undefined_ids entries file n i s)
  unfolding symbols_from undefined_ids
  symbols-grown zero i s fit low = λ e. grown-none s.lists s.stage.link.lists low
  symbols-grown (suc n) i s fit low =
      pick (λ (r : State). r.stage.number ≡ 0 → Grown s.lists s.stage.link.lists r.lists r.stage.link.lists
      (new_ids entries file s i ++ undefined_ids entries file n (i + 1) (symbol_of entries file s i)))
      (eqb (symbol_of entries file s i).stage.number 0) _ _
      (λ t e.
      let g = symbol-grown s i fit low (eqb-true _ _ t) in
      grown-both _ _ _ _ _ _ _ _ g (symbols-grown n (i + 1) (symbol_of entries file s i) (rw g.long fit) g.within e))
      (λ t e. absurd (eqb-false _ _ t e))
