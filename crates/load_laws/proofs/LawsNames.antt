-- Laws of the definitions of Names.antt.
-- Assumes nothing.
use Prim.Native.Nat.{ℕ, zero, suc, ◌+◌, ◌*◌, ◌<◌}
use Rattle.std.proofs.Common.{arith, sym, length-set, get_or-set_other, eqb-true}
use Rattle.std.specs.Prelude.{◌≡◌, refl, Bool, true, false, List, [], ◌∷◌, ◌++◌, eqb, get_or, set, length}
use Rattle.std.proofs.lemmas.Bool.{eqb-false}
use Rattle.cells.specs.Proof.Split.{by-test}
use Rattle.byte_slices.specs.Proof.Ways.{pick, apart}
use Rattle.gabi.specs.StringTable.{has_name, name_at}
use Rattle.link.specs.declared.Link.{Link}
use Rattle.link.specs.declared.Interned.{Interned}
use Rattle.link.specs.Judge.{going_of}
use Rattle.interner.specs.Names.{Store, store_of, fits_of, keep_of}
use Rattle.interner_laws.specs.Good.{Good, Issued, Stays, Alike, count, name}
use Rattle.interner_laws.proofs.Histories.{stays-none, stays-both, issued-stays}
use Rattle.interner_laws.proofs.Terms.{keeps-good, keeps-names, keeps-issued, same_good, same_names}
use Rattle.symbol.specs.declared.Row.{Row}
use Rattle.symbol_resolution.specs.Decision.{Decision}
use Rattle.symbol_resolution.specs.Decide.{refusal_of}
use Rattle.symbol_resolution.specs.Apply.{Table, table_of, note_name, append_of, apply_of}
use Rattle.symbol_resolution.specs.Proof.Outcomes.{decision-left}
use Rattle.upcoming_symbol.specs.Upcoming.{external_row_of}
use Rattle.elf_object.specs.Rows.{field}
use Rattle.merge_symbols.specs.Plan.{View}
use Rattle.shared_objects.specs.Record.{Recorded, recorded_of, record_fits, keep_name, record_as, record_of, dependency_of, dependencies_from}
use Rattle.shared_objects.specs.Define.{judged_of, rowed_of, external_of, plan_of, Added, added_of, accept_of, kept_of, commit_of, view, define_of}
use Rattle.shared_objects.specs.SymbolsLoad.{State, library_symbol_named, looked_of, symbol_of, symbols_from}
use Rattle.load_laws.specs.LawsRecorded.{id_in, dependency_ids, new_ids, undefined_ids}
use Rattle.load_laws.specs.Names.{Kept, Each, record_store, dependency_names, added_store, state_store, new_names, undefined_names, none, one}

kept-none : (s : Store) → Good s → Kept s s
kept-none s g = record { good = g; stays = stays-none count name s }

pub kept-both : (s t u : Store) → Kept s t → Kept t u → Kept s u
kept-both s t u p q = record { good = q.good; stays = stays-both count name s t u p.stays q.stays }

alike-kept : (s t : Store) → Good s → Alike s t → Kept s t
alike-kept s t g a = record { good = same_good s g t a; stays = same_names s g t a }

-- other counts
pub relinked : (bytes names : List ℕ) (l m : Link) → m.names ≡ l.names → m.bytes ≡ l.bytes → m.chains ≡ l.chains → m.key ≡ l.key
    → Good (store_of bytes names l) → Kept (store_of bytes names l) (store_of bytes names m)
relinked bytes names l m e f c k g =
    alike-kept (store_of bytes names l) (store_of bytes names m) g
    (record { bytes = refl; long = refl; cells = λ i f h g. refl; heads = λ q h g. refl; chains = c; key = k; counted = e; filled = f })

-- a name's global symbol
noted : (bytes names : List ℕ) (l m : Link) (n v : ℕ) → m.names ≡ l.names → m.bytes ≡ l.bytes → m.chains ≡ l.chains → m.key ≡ l.key
    → n < l.chains → Good (store_of bytes names l)
    → Kept (store_of bytes names l) (store_of bytes (set names (n * 8 + 3) v) m)
noted bytes names l m n v e f c k h g =
    alike-kept (store_of bytes names l) (store_of bytes (set names (n * 8 + 3) v) m) g
    (record {
      bytes = refl;
      long = length-set names (n * 8 + 3) v;
      cells = λ i f a b. get_or-set_other names (n * 8 + 3) (i * 8 + f) v 0 (λ q. omega arith);
      heads = λ q a b. get_or-set_other names (n * 8 + 3) q v 0 (λ z. omega arith);
      chains = c;
      key = k;
      counted = e;
      filled = f;
    })

each_both : (s : Store) (is js : List ℕ) (xs ys : List (List ℕ)) → Each s is xs → Each s js ys → Each s (is ++ js) (xs ++ ys)
each_both s [] js [] ys none q = q
each_both s [] js (x ∷ xs) ys p q = elim p [ ]
each_both s (i ∷ is) js [] ys p q = elim p [ ]
each_both s (i ∷ is) js (x ∷ xs) ys (one h p) q = one h (each_both s is js xs ys p q)

pub each-stays : (s t : Store) (is : List ℕ) (xs : List (List ℕ)) → Stays s t → Each s is xs → Each t is xs
each-stays s t [] [] k none = none
each-stays s t [] (x ∷ xs) k e = elim e [ ]
each-stays s t (i ∷ is) [] k e = elim e [ ]
each-stays s t (i ∷ is) (x ∷ xs) k (one h p) = one (issued-stays count name s t i x k h) (each-stays s t is xs k p)

fits-name : (l : Link) (bytes names : List ℕ) (lists : ℕ) (id : Interned) (n : ℕ) → record_fits l bytes names lists id n ≡ true
    → fits_of (store_of bytes names l) id n ≡ true
unfolding record_fits
fits-name l bytes names lists id n =
    pick (λ (b : Bool). b ≡ true → fits_of (store_of bytes names l) id n ≡ true) (fits_of (store_of bytes names l) id n) _ _ (λ t e. t) (λ t e. absurd (apart e))

record-names : (s : Recorded) (x : List ℕ) (place : ℕ) → Good (record_store s) → (record_of s x place).stage.number ≡ 0
    → Kept (record_store s) (record_store (record_of s x place)) × Issued (record_store (record_of s x place)) (id_in s.bytes s.names s.stage.link x) x
unfolding record_of record_as keep_name
record-names s x place g =
    pick (λ (r : Recorded). r.stage.number ≡ 0 → Kept (record_store s) (record_store r) × Issued (record_store r) (id_in s.bytes s.names s.stage.link x) x)
    (record_fits s.stage.link s.bytes s.names (length s.lists) (record { 0 = id_in s.bytes s.names s.stage.link x }) (length x)) _ _
    (λ t e.
    let f = fits-name s.stage.link s.bytes s.names (length s.lists) _ (length x) t in
    let k = keep_of (record_store s) (record { 0 = id_in s.bytes s.names s.stage.link x }) x in
    let p : Kept (record_store s) k = record { good = keeps-good (record_store s) g x; stays = keeps-names (record_store s) g x _ } in
    let q = relinked k.bytes k.names k.link _ refl refl refl refl p.good in
    (kept-both (record_store s) k _ p q, issued-stays count name k _ _ x q.stays (keeps-issued (record_store s) g x f)))
    (λ t e. absurd (omega arith))

module _ (file needs : List ℕ) where
  dependency-names : (s : Recorded) (j : ℕ) → Good (record_store s) → (dependency_of file needs s j).stage.number ≡ 0
      → Kept (record_store s) (record_store (dependency_of file needs s j))
      × Issued (record_store (dependency_of file needs s j)) (id_in s.bytes s.names s.stage.link (name_at file (get_or needs j 0))) (name_at file (get_or needs j 0))
  unfolding dependency_of
  dependency-names s j g e = record-names (recorded_of s.bytes s.names s.lists (going_of s.stage.link)) (name_at file (get_or needs j 0)) j g e

  pub dependencies-names : (n j : ℕ) (s : Recorded) → Good (record_store s) → (dependencies_from file needs n j s).stage.number ≡ 0
      → Kept (record_store s) (record_store (dependencies_from file needs n j s))
      × Each (record_store (dependencies_from file needs n j s)) (dependency_ids file needs n j s) (dependency_names file needs n j)
  unfolding dependencies_from dependency_ids dependency_names
  dependencies-names zero j s g = λ e. (kept-none (record_store s) g, none)
  dependencies-names (suc n) j s g =
      pick (λ (r : Recorded). r.stage.number ≡ 0 → Kept (record_store s) (record_store r)
      × Each (record_store r)
      ((id_in s.bytes s.names s.stage.link (name_at file (get_or needs j 0)) ∷ []) ++ dependency_ids file needs n (j + 1) (dependency_of file needs s j))
      ((name_at file (get_or needs j 0) ∷ []) ++ dependency_names file needs n (j + 1)))
      (eqb (dependency_of file needs s j).stage.number 0) _ _
      (λ t e.
      let p = dependency-names s j g (eqb-true _ _ t) in
      let q = dependencies-names n (j + 1) (dependency_of file needs s j) p.0.good e in (
        kept-both (record_store s) (record_store (dependency_of file needs s j)) _ p.0 q.0,
        one (issued-stays count name (record_store (dependency_of file needs s j)) _ _ _ q.0.stays p.1) q.1,
      ))
      (λ t e. absurd (eqb-false _ _ t e))

-- ---- symbols

apply-names : (bytes : List ℕ) (t : Table) (r : Row) (d : Decision) → r.name.0 < t.link.chains → Good (store_of bytes t.names t.link)
    → Kept (store_of bytes t.names t.link) (store_of bytes (apply_of t r d).names (apply_of t r d).link)
unfolding append_of note_name
apply-names bytes t r d h g =
    decision-left (λ (u : Table). Kept (store_of bytes t.names t.link) (store_of bytes u.names u.link)) t r (kept-none _ g)
    (pick (λ (names : List ℕ). Kept (store_of bytes t.names t.link) (store_of bytes names (append_of t r).link)) (eqb r.scope 0) _ _
    (λ u. relinked bytes t.names t.link _ refl refl refl refl g) (λ u. noted bytes t.names t.link _ r.name.0 _ refl refl refl refl h g))
    (λ id x. kept-none _ g) d

judged-fits : (v : View) (n : ℕ) (r : Row) → eqb (refusal_of (judged_of v n r)) 2 ≡ false → fits_of (store_of v.bytes v.names v.link) r.name n ≡ true
unfolding judged_of
judged-fits v n r e =
    by-test (fits_of (store_of v.bytes v.names v.link) r.name n) (λ t. t) (λ t. absurd (apart (sym (simp t at e))))

define-names : (s : Added) (x : List ℕ) (binding visibility i : ℕ) → Good (added_store s) → (define_of s x binding visibility i).stage.number ≡ 0
    → Kept (added_store s) (added_store (define_of s x binding visibility i))
unfolding define_of plan_of external_of rowed_of commit_of kept_of accept_of external_row_of
define-names s x binding visibility i g =
    let id = id_in s.bytes s.names s.stage.link x in
    let row = external_row_of s.stage.link.gabi (record { 0 = id }) binding visibility in
    let d = judged_of (view s) (length x) row in
    let k = keep_of (added_store s) (record { 0 = id }) x in
    pick (λ (r : Added). r.stage.number ≡ 0 → Kept (added_store s) (added_store r)) (eqb (refusal_of d) 2) _ _ (λ t e. absurd (omega arith))
    (λ t.
    pick (λ (r : Added). r.stage.number ≡ 0 → Kept (added_store s) (added_store r)) (eqb (refusal_of d) 0) _ _
    (λ u e.
    let f = judged-fits (view s) (length x) row t in
    let p : Kept (added_store s) k = record { good = keeps-good (added_store s) g x; stays = keeps-names (added_store s) g x _ } in
    let m = keeps-issued (added_store s) g x f in
    let h : id < k.link.chains = omega (arith, m.low, p.good.chained.rows_in) in
    kept-both (added_store s) k _ p (apply-names k.bytes (table_of k.names s.symbols s.sections k.link) row d h p.good))
    (λ u e. absurd (eqb-false _ _ u e)))

module _ (entries file : List ℕ) where
  symbol-names : (s : State) (i : ℕ) → Good (state_store s) → (symbol_of entries file s i).stage.number ≡ 0
      → Kept (state_store s) (state_store (symbol_of entries file s i)) × Each (state_store (symbol_of entries file s i)) (new_ids entries file s i) (new_names entries file i)
  unfolding symbol_of looked_of library_symbol_named new_ids new_names
  symbol-names s i g =
      pick (λ (t : State). t.stage.number ≡ 0 → Kept (state_store s) (state_store t) × Each (state_store t) (new_ids entries file s i) (new_names entries file i))
      (has_name file (field entries i 0)) _ _
      (λ f.
      by-test (eqb (field entries i 4) 0)
      (λ t.
      by-test (eqb (field entries i 1) 1)
      (λ u.
      rw (t, u) (λ e.
      let p = record-names (recorded_of s.bytes s.names s.lists (going_of s.stage.link)) (name_at file (field entries i 0)) i g e in (p.0, one p.1 none)))
      (λ u. rw (t, u) (λ e. (kept-none (state_store s) g, none))))
      (λ t.
      rw t (λ e. (
        define-names (added_of s.bytes s.names s.symbols s.sections (going_of s.stage.link)) (name_at file (field entries i 0)) (field entries i 1)
            (field entries i 3) i g e,
        none,
      ))))
      (λ f e. absurd (omega arith))

  pub symbols-names : (n i : ℕ) (s : State) → Good (state_store s) → (symbols_from entries file n i s).stage.number ≡ 0
      → Kept (state_store s) (state_store (symbols_from entries file n i s))
      × Each (state_store (symbols_from entries file n i s)) (undefined_ids entries file n i s) (undefined_names entries file n i)
  unfolding symbols_from undefined_ids undefined_names
  symbols-names zero i s g = λ e. (kept-none (state_store s) g, none)
  symbols-names (suc n) i s g =
      pick (λ (r : State). r.stage.number ≡ 0 → Kept (state_store s) (state_store r)
      × Each (state_store r) (new_ids entries file s i ++ undefined_ids entries file n (i + 1) (symbol_of entries file s i))
      (new_names entries file i ++ undefined_names entries file n (i + 1)))
      (eqb (symbol_of entries file s i).stage.number 0) _ _
      (λ t e.
      let p = symbol-names s i g (eqb-true _ _ t) in
      let q = symbols-names n (i + 1) (symbol_of entries file s i) p.0.good e in (
        kept-both (state_store s) (state_store (symbol_of entries file s i)) _ p.0 q.0,
        each_both _ (new_ids entries file s i) _ (new_names entries file i) _ (each-stays (state_store (symbol_of entries file s i)) _ _ _ q.0.stays p.1) q.1,
      ))
      (λ t e. absurd (eqb-false _ _ t e))
