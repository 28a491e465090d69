-- Names, symbols and lookups under another key of the hash: the same answers, and tables that are alike again.
-- Assumes nothing.
use Rattle.std.specs.Prelude.{ℕ, ◌<◌, ◌≡◌, true, cond, List, eqb, ltb, leb, length, Option, None, Some}
use Rattle.std.proofs.Common.{arith, ◌∙◌}
use Rattle.std.proofs.Math.Path.{refl, ap, sym}
use Rattle.std.proofs.Math.Bool.{Bool}
use borrow.Author.Tests.{ltb-true, leb-false, ne_eqb}
use Rattle.cells.specs.Proof.Split.{by-test}
use Rattle.link.specs.declared.Link.{Link}
use Rattle.link.specs.declared.Lent.{Lent}
use Rattle.link.specs.declared.Interned.{Interned}
use Rattle.link.specs.declared.SymbolId.{SymbolId}
use Rattle.link.specs.declared.SectionId.{SectionId}
use Rattle.link.specs.Bounds.{name_rows, section_slots}
use Rattle.link.specs.Judge.{refused, judge_sections, judge_names, judge_lists, after_symbols, after_sections, judge_of, change_of}
use Rattle.link.specs.Said.{accepted, refusing}
use Rattle.interner.specs.Names.{Store, store_of, fits_of}
use Rattle.interner.specs.Calls as Names
use Rattle.interner.specs.Calls.{issue_of, intern_of, resolve_of}
use Rattle.interner_laws.specs.Good.{count}
use Rattle.interner_laws.specs.Interns.{id_of}
use Rattle.symbol.specs.declared.Row.{Row}
use Rattle.symbol.specs.Layout.{refuses_scope}
use Rattle.symbol.specs.Row.{scope_refused}
use Rattle.upcoming_symbol.specs.declared.UpcomingSymbol.{UpcomingSymbol}
use Rattle.upcoming_symbol.specs.declared.UpcomingSymbol.TheVariants.{Null, GlobalUnknown, GlobalHidden, Section, ExternallyDefined, Elf}
use Rattle.upcoming_symbol.specs.Upcoming.{name_of, row_of, elf_row_of, external_row_of}
use Rattle.symbol_resolution.specs.declared.rows.Holder.{Holder}
use Rattle.symbol_resolution.specs.declared.rows.Holder.TheVariants.{Unissued}
use Rattle.symbol_resolution.specs.Decision.{Decision, Refuse, Nothing, Keep, Append, Replace, Amend}
use Rattle.symbol_resolution.specs.Holder.{holder_of}
use Rattle.symbol_resolution.specs.Decide as Rows
use Rattle.symbol_resolution.specs.Decide.{section_cell, decide_of, refusal_of}
use Rattle.symbol_resolution.specs.Proof.Outcomes.{scope-refused, name-absent, scope-number, decision-alike}
use Rattle.symbol_resolution.specs.Apply.{Table, table_of, note_name, set_section_symbol, note_section, append_of, apply_of}
use Rattle.symbols.specs.Calls as Symbols
use Rattle.symbols.specs.Add.{file_of, issued_of, direct_holder_of, place_of, decided_of, committed_of, add_row_of, judge_add_of, add_of, empty_at, lent}
use Rattle.symbols.specs.Remove.{Rows, drop_section, remove_row_of, RemoveLeft, remove_left, remove_of}
use Rattle.symbols.specs.Lookup.{get_of, get_global_of, section_symbol_of}
use Rattle.key_laws.specs.Rekeyed.{keyed, rekeyed, Rekeyed, Moved}
use Rattle.key_laws.proofs.RekeyedLemmas.{moved, moved_cond, cell_same, name-same, find-same, fits-same, keep-moved, with-counts, with_cell}

-- ---- the head of a call

pub judge-keyed : (k : ℕ) (l : Link) (n : Lent) → judge_of (keyed k l) n ≡ judge_of l n
unfolding judge_of after_sections judge_sections after_symbols judge_names judge_lists
judge-keyed k l n = refl

pub change-keyed : (k : ℕ) (l : Link) (n : Lent) → change_of (keyed k l) n ≡ change_of l n
unfolding change_of
change-keyed k l n = rw (judge-keyed k l n)

-- ---- decisions read no key

pub decide-keyed : (k : ℕ) (l : Link) (symbols sections : List ℕ) (r : Row) (h : Holder) → decide_of (keyed k l) symbols sections r h ≡ decide_of l symbols sections r h
decide-keyed k l symbols sections r h = decision-alike (keyed k l) l symbols sections sections r refl refl refl refl h

section-keyed : (k : ℕ) (l : Link) (sections : List ℕ) (r : Row) (id : ℕ) → note_section (keyed k l) sections r id ≡ note_section l sections r id
unfolding note_section set_section_symbol section_cell
section-keyed k l sections r id = refl

-- ---- names

abbrev pub names_under : ℕ → List ℕ → Names.Left → Names.Left
names_under k n o = Names.left (rekeyed k n o.store) o.said

module _ (k : ℕ) (s : Store) (n : List ℕ) (e : Rekeyed k s n) where
  pub holder-same : (symbols : List ℕ) (name : Interned) → holder_of (keyed k s.link) n symbols name ≡ holder_of s.link s.names symbols name
  unfolding holder_of
  holder-same symbols name =
      by-test (leb (count s) name.0) (λ a. rw a) (λ a. rw (a, cell_same k s n e name.0 3 (leb-false _ _ a) (omega arith) (λ z. omega arith)))

  issue-moved : (x : List ℕ) → Moved (λ o. o.store) (names_under k) k (issue_of s x (id_of s x)) (issue_of (rekeyed k n s) x (id_of s x))
  unfolding issue_of
  issue-moved x =
      let t = keep-moved k s n e x (id_of s x) refl in
      rw (fits-same k s n e (id_of s x) (length x))
      (moved_cond (λ o. o.store) (names_under k) k (fits_of s (id_of s x) (length x)) _ _ _ _
      (λ a. record { names = t.names; is = ap (λ (u : Store). Names.left u (accepted (id_of s x).0)) t.is; alike = t.alike })
      (λ a. moved (λ o. o.store) (names_under k) k (Names.left s (refusing (refused 2 0))) n e))

  pub intern-moved : (x : List ℕ) → Moved (λ o. o.store) (names_under k) k (intern_of s x) (intern_of (rekeyed k n s) x)
  unfolding intern_of
  intern-moved x =
      rw (e.long, change-keyed k s.link (Names.lent s), find-same k s n e x)
      (moved_cond (λ o. o.store) (names_under k) k (eqb (change_of s.link (Names.lent s)).number 0) _ _ _ _
      (λ a. issue-moved x)
      (λ a. moved (λ o. o.store) (names_under k) k (Names.left s (refusing (change_of s.link (Names.lent s)))) n e))

  pub resolve_same : (id : Interned) → resolve_of (rekeyed k n s) id ≡ resolve_of s id
  unfolding resolve_of
  resolve_same id =
      rw (e.long, judge-keyed k s.link (Names.lent s))
      (by-test (ltb id.0 (count s)) (λ a. rw (a, name-same k s n e id.0 (ltb-true _ _ a))) (λ a. rw a))

-- ---- symbols, beside the names' bytes

abbrev pub table_store : List ℕ → Table → Store
table_store b t = store_of b t.names t.link

abbrev pub table_under : ℕ → List ℕ → Table → Table
table_under k n t = table_of n t.symbols t.sections (keyed k t.link)

abbrev pub add_under : ℕ → List ℕ → Symbols.Left → Symbols.Left
add_under k n o = Symbols.left (table_under k n o.table) o.said

abbrev pub add_store : List ℕ → Symbols.Left → Store
add_store b o = table_store b o.table

module _ (k : ℕ) (b : List ℕ) (t : Table) (n : List ℕ) (e : Rekeyed k (table_store b t) n) where
  append-moved : (r : Row) → r.name.0 < t.link.chains → Moved (table_store b) (table_under k) k (append_of t r) (append_of (table_under k n t) r)
  unfolding append_of note_name
  append-moved r h =
      let l : Link = (append_of t r).link in
      by-test (eqb r.scope 0)
      (λ a.
      rw (a, section-keyed k t.link t.sections r t.link.symbols)
      (record { names = n; is = refl; alike = with-counts k (table_store b t) n e l refl refl refl refl }))
      (λ a.
      let c = with_cell k (table_store b t) n e r.name.0 3 t.link.symbols h (omega arith) (omega arith) in
      rw (a, section-keyed k t.link t.sections r t.link.symbols)
      (record { names = _; is = refl; alike = with-counts k _ _ c l refl refl refl refl }))

  pub apply-moved : (r : Row) (d : Decision) → r.name.0 < t.link.chains → Moved (table_store b) (table_under k) k (apply_of t r d) (apply_of (table_under k n t) r d)
  unfolding apply_of
  apply-moved r (Refuse m) h = moved (table_store b) (table_under k) k t n e
  apply-moved r Nothing h = moved (table_store b) (table_under k) k t n e
  apply-moved r (Keep id) h = moved (table_store b) (table_under k) k t n e
  apply-moved r Append h = append-moved r h
  apply-moved r (Replace id) h = record { names = n; is = refl; alike = e }
  apply-moved r (Amend id) h = record { names = n; is = refl; alike = e }

  abbrev Fine : Symbols.Left → Symbols.Left → Type 0
  Fine = Moved (add_store b) (add_under k) k

  place-keyed : (name : Interned) (file : Option Interned) → place_of (keyed k t.link) name file ≡ place_of t.link name file
  unfolding place_of
  place-keyed name None = refl
  place-keyed name (Some id) = refl

  issued-keyed : (name : Interned) (file : Option Interned) → issued_of (keyed k t.link) name file ≡ issued_of t.link name file
  unfolding issued_of
  issued-keyed name None = refl
  issued-keyed name (Some id) = refl

  decided-same : (r : Row) (file : Option Interned) → decided_of (table_under k n t) r file ≡ decided_of t r file
  unfolding decided_of direct_holder_of
  decided-same r file =
      rw (issued-keyed r.name file, holder-same k (table_store b t) n e t.symbols r.name) (decide-keyed k t.link t.symbols t.sections r _)

  committed-moved : (r : Row) (file : Option Interned) (d : Decision) → r.name.0 < t.link.chains → Fine (committed_of t r file d) (committed_of (table_under k n t) r file d)
  unfolding committed_of
  committed-moved r file d h =
      let a = apply-moved r d h in
      rw (place-keyed r.name file)
      (moved_cond (add_store b) (add_under k) k (eqb (refusal_of d) 21) _ _ _ _
      (λ q. moved (add_store b) (add_under k) k (Symbols.left t _) n e)
      (λ q.
      moved_cond (add_store b) (add_under k) k (eqb (refusal_of d) 0) _ _ _ _
      (λ z. record { names = a.names; is = ap (λ (u : Table). Symbols.left u (accepted (Rows.id_of d t.link.symbols).0)) a.is; alike = a.alike })
      (λ z. moved (add_store b) (add_under k) k (Symbols.left t _) n e)))

  row_moved : (r : Row) (file : Option Interned) → r.name.0 < t.link.names → Fine (add_row_of t r file) (add_row_of (table_under k n t) r file)
  unfolding add_row_of
  row_moved r file h = rw (decided-same r file) (committed-moved r file (decided_of t r file) (omega (arith, e.good.chained.rows_in)))

  -- under a name that isn't issued a row is refused by its visibility and name alone
  abbrev refused_row : Table → ℕ → ℕ → Symbols.Left
  refused_row u v place =
      cond (refuses_scope v) (cond (eqb v 21) (Symbols.left u (refusing (refused 21 place))) (Symbols.left u (refusing (refused v 0))))
      (Symbols.left u (refusing (refused 21 place)))

  unissued-is : (u : Table) (r : Row) (file : Option Interned) → leb u.link.names r.name.0 ≡ true
      → add_row_of u r file ≡ refused_row u r.scope (place_of u.link r.name file)
  unfolding add_row_of decided_of direct_holder_of issued_of committed_of
  unissued-is u r file h =
      by-test (scope_refused r)
      (λ a.
      rw (
        h,
        scope-refused u.link u.symbols u.sections r Unissued a,
        a,
        ne_eqb r.scope 0 (scope-number u.link u.symbols u.sections r a),
      ))
      (λ a. rw (h, name-absent u.link u.symbols u.sections r a Unissued refl, a))

  refused-moved : (v place : ℕ) → Fine (refused_row t v place) (refused_row (table_under k n t) v place)
  refused-moved v place =
      moved_cond (add_store b) (add_under k) k (refuses_scope v) _ _ _ _
      (λ a.
      moved_cond (add_store b) (add_under k) k (eqb v 21) _ _ _ _
      (λ q. moved (add_store b) (add_under k) k (Symbols.left t _) n e) (λ q. moved (add_store b) (add_under k) k (Symbols.left t _) n e))
      (λ a. moved (add_store b) (add_under k) k (Symbols.left t _) n e)

  -- rows that differ at most in their value, which is not read under such a name
  rows-moved : (r r' : Row) (file : Option Interned) → r'.name ≡ r.name → r'.scope ≡ r.scope → (r.name.0 < t.link.names → r' ≡ r)
      → Fine (add_row_of t r file) (add_row_of (table_under k n t) r' file)
  rows-moved r r' file a v same =
      by-test (leb t.link.names r.name.0)
      (λ h.
      let h' : leb t.link.names r'.name.0 ≡ true = ap (λ (i : Interned). leb t.link.names i.0) a ∙ h in
      let q : add_row_of (table_under k n t) r' file ≡ refused_row (table_under k n t) r.scope (place_of t.link r.name file) =
      unissued-is (table_under k n t) r' file h'
      ∙ ap (λ (v : ℕ). refused_row (table_under k n t) v (place_of (keyed k t.link) r'.name file)) v
      ∙ ap (refused_row (table_under k n t) r.scope) (place-keyed r'.name file ∙ ap (λ (i : Interned). place_of t.link i file) a) in
      rw (unissued-is t r file h, q) (refused-moved r.scope (place_of t.link r.name file)))
      (λ h. let i : r.name.0 < t.link.names = leb-false _ _ h in rw (same i) (row_moved r file i))

  row-name : (conversion : List ℕ) (u : UpcomingSymbol) (empty : Bool) → (row_of t.link.gabi conversion u empty).name ≡ name_of u
  unfolding elf_row_of external_row_of
  row-name conversion Null empty = refl
  row-name conversion (GlobalUnknown name) empty = refl
  row-name conversion (GlobalHidden name value) empty = refl
  row-name conversion (Section section) empty = refl
  row-name conversion (ExternallyDefined name visibility binding) empty = refl
  row-name conversion (Elf elf name file) empty = refl

  row-scope : (conversion : List ℕ) (u : UpcomingSymbol) (empty empty' : Bool) → (row_of t.link.gabi conversion u empty').scope ≡ (row_of t.link.gabi conversion u empty).scope
  unfolding elf_row_of external_row_of
  row-scope conversion Null empty empty' = refl
  row-scope conversion (GlobalUnknown name) empty empty' = refl
  row-scope conversion (GlobalHidden name value) empty empty' = refl
  row-scope conversion (Section section) empty empty' = refl
  row-scope conversion (ExternallyDefined name visibility binding) empty empty' = refl
  row-scope conversion (Elf elf name file) empty empty' = refl

  judge-add-keyed : (l : Lent) (u : UpcomingSymbol) → judge_add_of (keyed k t.link) l u ≡ judge_add_of t.link l u
  unfolding judge_add_of
  judge-add-keyed l u = rw (change-keyed k t.link l)

  pub add-moved : (conversion : List ℕ) (u : UpcomingSymbol) → Fine (add_of t conversion u) (add_of (table_under k n t) conversion u)
  unfolding add_of
  add-moved conversion u =
      let empty : Bool = empty_at t.names (name_of u) in
      let empty' : Bool = empty_at n (name_of u) in
      let r : Row = row_of t.link.gabi conversion u empty in
      let same : r.name.0 < t.link.names → row_of t.link.gabi conversion u empty' ≡ r = λ h.
      let i : (name_of u).0 < t.link.names = rw (row-name conversion u empty) at h in
      ap (λ (c : ℕ). row_of t.link.gabi conversion u (eqb c 0)) (cell_same k (table_store b t) n e (name_of u).0 1 i (omega arith) (λ z. omega arith)) in
      rw (e.long, judge-add-keyed (lent t) u)
      (moved_cond (add_store b) (add_under k) k (eqb (judge_add_of t.link (lent t) u).number 0) _ _ _ _
      (λ a. rows-moved r (row_of t.link.gabi conversion u empty') (file_of u) (row-name conversion u empty' ∙ sym (row-name conversion u empty)) (row-scope conversion u empty empty') same)
      (λ a. moved (add_store b) (add_under k) k (Symbols.left t _) n e))

-- ---- a removal, and lookups: they read no names but who holds one

pub remove-row-keyed : (k : ℕ) (l : Link) (x : Rows) (id : SymbolId) → remove_row_of (keyed k l) x id ≡ remove_row_of l x id
unfolding remove_row_of drop_section set_section_symbol section_cell
remove-row-keyed k l x id = refl

abbrev pub remove_under : ℕ → RemoveLeft → RemoveLeft
remove_under k o = remove_left o.rows (keyed k o.link) o.said

pub remove-keyed : (k : ℕ) (l : Link) (x : Rows) (id : SymbolId) → remove_of (keyed k l) x id ≡ remove_under k (remove_of l x id)
unfolding remove_of
remove-keyed k l x id =
    let n : Lent = Symbols.lent_of l.chains (length x.symbols) (section_slots (length x.sections)) in
    rw (change-keyed k l n, remove-row-keyed k l x id)
    (by-test (eqb (change_of l n).number 0) (λ a. by-test (leb l.symbols id.0) (λ c. rw (a, c)) (λ c. rw (a, c))) (λ a. rw a))

pub remove-link : (l : Link) (x : Rows) (id : SymbolId) → (remove_of l x id).link ≡ l
unfolding remove_of
remove-link l x id =
    let n : Lent = Symbols.lent_of l.chains (length x.symbols) (section_slots (length x.sections)) in
    by-test (eqb (change_of l n).number 0) (λ a. by-test (leb l.symbols id.0) (λ c. rw (a, c)) (λ c. rw (a, c))) (λ a. rw a)

pub get-keyed : (k : ℕ) (l : Link) (symbols : List ℕ) (id : SymbolId) → get_of (keyed k l) symbols id ≡ get_of l symbols id
unfolding get_of
get-keyed k l symbols id = rw (judge-keyed k l (Symbols.lent_of l.chains (length symbols) l.slots))

pub section-symbol-keyed : (k : ℕ) (l : Link) (sections : List ℕ) (id : SectionId) → section_symbol_of (keyed k l) sections id ≡ section_symbol_of l sections id
unfolding section_symbol_of section_cell
section-symbol-keyed k l sections id = refl

pub global-same : (k : ℕ) (s : Store) (n symbols : List ℕ) → Rekeyed k s n → (name : Interned)
    → get_global_of (keyed k s.link) n symbols name ≡ get_global_of s.link s.names symbols name
unfolding get_global_of
global-same k s n symbols e name =
    rw (
      e.long,
      judge-keyed k s.link (Symbols.lent_of (name_rows (length s.names)) (length symbols) s.link.slots),
      holder-same k s n e symbols name,
    )
