-- Of a library's stages none but the last, which takes its row, changes the count of inputs; and none that of sections.
-- Assumes nothing.
use Prim.Native.Nat.{ℕ, zero, suc, ◌+◌}
use Rattle.std.specs.Prelude.{◌≡◌, List, eqb, get_or, length}
use Rattle.std.proofs.Math.Path.{refl}
use Rattle.std.proofs.Common.{ap, ◌∙◌}
use Rattle.byte_slices.specs.Proof.Ways.{pick}
use Rattle.gabi.specs.StringTable.{has_name, name_at}
use Rattle.link.specs.declared.Link.{Link}
use Rattle.link.specs.declared.Interned.{Interned}
use Rattle.link.specs.Judge.{going_of}
use Rattle.link.specs.Counts.{with_symbols, with_lists}
use Rattle.interner.specs.Names.{Store, store_of, find_of, keep_of}
use Rattle.interner_laws.proofs.Terms.{untouched-by-keep}
use Rattle.symbol.specs.declared.Row.{Row}
use Rattle.symbol_resolution.specs.Decision.{Decision}
use Rattle.symbol_resolution.specs.Decide.{refusal_of}
use Rattle.symbol_resolution.specs.Apply.{Table, table_of, append_of, apply_of}
use Rattle.symbol_resolution.specs.Proof.Outcomes.{decision-left}
use Rattle.elf_object.specs.Rows.{field}
use Rattle.shared_objects.specs.Define.{Definition}
use Rattle.shared_objects.specs.Record.{Recorded, recorded_of, record_fits, keep_name, record_as, record_of, dependency_of, dependencies_from}
use Rattle.shared_objects.specs.Define.{Added, accept_of, kept_of, commit_of, define_of}
use Rattle.shared_objects.specs.SymbolsLoad.{State, library_symbol_named, looked_of, symbol_of, symbols_from}

pub keep-inputs : (s : Store) (id : Interned) (x : List ℕ) → (keep_of s id x).link.inputs ≡ s.link.inputs
keep-inputs s id x = ap (λ (l : Link). l.inputs) (untouched-by-keep s id x).others

-- a count that neither names, nor symbols, nor lists change
module _ (count : Link → ℕ) (keep : (s : Store) (id : Interned) (x : List ℕ) → count (keep_of s id x).link ≡ count s.link)
    (more : (l : Link) (n : ℕ) → count (with_symbols l n) ≡ count l) (list : (l : Link) (n : ℕ) → count (with_lists l n) ≡ count l) where
  record-count : (s : Recorded) (x : List ℕ) (place : ℕ) → count (record_of s x place).stage.link ≡ count s.stage.link
  unfolding record_of record_as keep_name
  record-count s x place =
      pick (λ (r : Recorded). count r.stage.link ≡ count s.stage.link)
      (record_fits s.stage.link s.bytes s.names (length s.lists) (record { 0 = find_of s.bytes s.names s.stage.link x }) (length x)) _ _
      (λ t. list (keep_of (store_of s.bytes s.names s.stage.link) _ x).link _ ∙ keep (store_of s.bytes s.names s.stage.link) _ x) (λ t. refl)

  module _ (file needs : List ℕ) where
    dependency-count : (s : Recorded) (j : ℕ) → count (dependency_of file needs s j).stage.link ≡ count s.stage.link
    unfolding dependency_of
    dependency-count s j = record-count (recorded_of s.bytes s.names s.lists (going_of s.stage.link)) (name_at file (get_or needs j 0)) j

    pub dependencies-count : (n j : ℕ) (s : Recorded) → count (dependencies_from file needs n j s).stage.link ≡ count s.stage.link
    unfolding dependencies_from
    dependencies-count zero j s = refl
    dependencies-count (suc n) j s =
        pick (λ (r : Recorded). count r.stage.link ≡ count s.stage.link) (eqb (dependency_of file needs s j).stage.number 0) _ _
        (λ t. dependencies-count n (j + 1) (dependency_of file needs s j) ∙ dependency-count s j) (λ t. dependency-count s j)

  apply-count : (t : Table) (r : Row) (d : Decision) → count (apply_of t r d).link ≡ count t.link
  unfolding append_of
  apply-count t r d = decision-left (λ (u : Table). count u.link ≡ count t.link) t r refl (more t.link _) (λ id x. refl) d

  commit-count : (s : Added) (x : List ℕ) (p : Definition) (i : ℕ) → count (commit_of s x p i).stage.link ≡ count s.stage.link
  unfolding commit_of kept_of accept_of
  commit-count s x p i =
      let k = keep_of (store_of s.bytes s.names s.stage.link) p.id x in
      let e : count k.link ≡ count s.stage.link = keep (store_of s.bytes s.names s.stage.link) p.id x in
      pick (λ (r : Added). count r.stage.link ≡ count s.stage.link) (eqb (refusal_of p.decision) 2) _ _ (λ t. refl)
      (λ t.
      pick (λ (r : Added). count r.stage.link ≡ count s.stage.link) (eqb (refusal_of p.decision) 0) _ _
      (λ u. apply-count (table_of k.names s.symbols s.sections k.link) p.row p.decision ∙ e) (λ u. e))

  module _ (entries file : List ℕ) where
    symbol-count : (s : State) (i : ℕ) → count (symbol_of entries file s i).stage.link ≡ count s.stage.link
    unfolding symbol_of looked_of library_symbol_named define_of
    symbol-count s i =
        pick (λ (t : State). count t.stage.link ≡ count s.stage.link) (has_name file (field entries i 0)) _ _
        (λ f.
        pick (λ (t : State). count t.stage.link ≡ count s.stage.link) (eqb (field entries i 4) 0) _ _
        (λ t.
        pick (λ (t : State). count t.stage.link ≡ count s.stage.link) (eqb (field entries i 1) 1) _ _
        (λ u. record-count (recorded_of s.bytes s.names s.lists (going_of s.stage.link)) (name_at file (field entries i 0)) i) (λ u. refl))
        (λ t. commit-count _ (name_at file (field entries i 0)) _ i))
        (λ f. refl)

    pub symbols-count : (n i : ℕ) (s : State) → count (symbols_from entries file n i s).stage.link ≡ count s.stage.link
    unfolding symbols_from
    symbols-count zero i s = refl
    symbols-count (suc n) i s =
        pick (λ (r : State). count r.stage.link ≡ count s.stage.link) (eqb (symbol_of entries file s i).stage.number 0) _ _
        (λ t. symbols-count n (i + 1) (symbol_of entries file s i) ∙ symbol-count s i) (λ t. symbol-count s i)
