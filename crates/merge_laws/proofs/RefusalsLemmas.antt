-- Laws of the definitions of Refusals.antt.
-- Assumes nothing.
use Rattle.std.specs.Prelude.{ℕ, ◌≡◌, refl, true, false, List, ◌≢◌, eqb, length}
use Rattle.std.proofs.Common.{sym, eqb-true}
use Rattle.std.proofs.lemmas.Bool.{false≢true, eqb-false}
use Rattle.cells.specs.Proof.Split.{by-test}
use Rattle.byte_slices.specs.Proof.Ways.{pick}
use Rattle.link.specs.declared.Link.{Link}
use Rattle.link.specs.declared.Interned.{Interned}
use Rattle.strings.specs.Lookup.{Looked}
use Rattle.interner.specs.Names.{store_of, find_of, fits_of}
use Rattle.sections.specs.Rows as Sections
use Rattle.merge_sections.specs.Reserve as Reserve
use Rattle.merge_symbols.specs.Plan.{View, Input, input_of, rowed_of, read_of, planned_of, place_of}
use Rattle.merge_symbols.specs.Stage as Symbols
use Rattle.merge_build.specs.Relocations.{table_for, limit_of, relocations_of, symbols_ok}
use Rattle.merge_build.specs.Build as Build
use Rattle.merge_laws.specs.Table.{one_of, section_numbers}
use Rattle.merge_laws.specs.Refusals.{symbol_name, section_name}
use Rattle.section_groups.specs.Filter.{dropped_at}
use Rattle.merge_laws.proofs.Refusals.{SectionLeft, e, planned-numbers, planned-new, SymbolLeft, commit-left, BuildLeft, as_it_was, but-its-name}

reserve-numbers : (l : Link) (sections : List ℕ) (class table : ℕ) → Reserve.reserve_number l sections class table ≢ 0
    → one_of (Reserve.reserve_number l sections class table) section_numbers ≡ true
unfolding Reserve.reserve_number
reserve-numbers l sections class table =
    pick P (eqb class 4) _ _ (λ t u. refl)
    (λ t.
    pick P (eqb class 3) _ _ (λ t. pick P (eqb table 0) 0 24 (λ t u. absurd (u refl)) (λ t u. refl))
    (λ t. pick P (eqb class 2) _ _ (λ t. pick P (Sections.room_of l sections) 0 2 (λ t u. absurd (u refl)) (λ t u. refl)) (λ t u. absurd (u refl))))
  where
    P : ℕ → Type 0
    P k = k ≢ 0 → one_of k section_numbers ≡ true

pub section-left : (headers : List ℕ) (s : Reserve.State) (n : ℕ) → (Reserve.reserve_one_of headers s n).reserved.number ≢ 0
    → SectionLeft s (Reserve.reserve_one_of headers s n) n
unfolding Reserve.reserve_one_of Reserve.reserve_class_of
section-left headers s n u =
    let k : ℕ = Reserve.reserve_number s.reserved.link s.sections (Reserve.class_of headers n) s.reserved.table in
    by-test (eqb k 0) (λ t. absurd (u (rw t)))
    (λ t. rw t (record { number = reserve-numbers s.reserved.link s.sections (Reserve.class_of headers n) s.reserved.table (eqb-false _ _ t); as_it_was = refl }))

planned-id : (v : View) (o : Input) (x : List ℕ) (i file : ℕ) → (planned_of v o x i file).id ≡ record { 0 = find_of v.bytes v.names v.link x }
unfolding planned_of read_of rowed_of
planned-id v o x i file = refl

pub symbol-left : (o : Symbols.Object) (s : Symbols.State) (i : ℕ) → (Symbols.symbol_of o s i).stage.number ≢ 0 → SymbolLeft o s (Symbols.symbol_of o s i) i
unfolding Symbols.symbol_of Symbols.looked_of Symbols.symbol_named place_of
symbol-left o s i u =
    let x : Looked = symbol_name o i in
    let q : Input = input_of o.entries o.work in
    let v : View = Symbols.view s in
    by-test (dropped_at s.stage.link.gabi o.work o.entries i) (λ d. absurd (u (rw d)))
    (λ d.
    by-test x.found
    (λ t.
    rw (d, t)
    (commit-left o s i t (planned_of v q x.name i s.stage.file) (planned-id v q x.name i s.stage.file)
    (planned-numbers v q x.name i s.stage.file) (planned-new v q x.name i s.stage.file) (rw (d, t) at u)))
    (λ t. rw (d, t) (as_it_was refl refl)))

-- ---- sections built

build-numbers : (l : Link) (bytes names : List ℕ) (lists : ℕ) (ids : List ℕ) (limit : ℕ) (relocations x : List ℕ)
    → let p = Build.plan_of l bytes names lists ids limit relocations x in
    (p.id ≡ record { 0 = find_of bytes names l x }) × (p.number ≢ 0 → p.number ≢ 2 → (p.number ≡ 19) × (symbols_ok ids limit relocations ≡ false))
unfolding Build.plan_of Build.plan_with
build-numbers l bytes names lists ids limit relocations x =
    pick P (fits_of (store_of bytes names l) id (length x)) _ _
    (λ t.
    pick P (symbols_ok ids limit relocations) _ _
    (λ t.
    pick P (Build.lists_fit l.lists lists (length relocations)) _ _ (λ t. (refl, λ u w. absurd (u refl))) (λ t. (refl, λ u w. absurd (w refl))))
    (λ t. (refl, λ u w. (refl, t))))
    (λ t. (refl, λ u w. absurd (w refl)))
  where
    id : Interned
    id = record { 0 = find_of bytes names l x }

    P : Build.Plan → Type 0
    P p = (p.id ≡ id) × (p.number ≢ 0 → p.number ≢ 2 → (p.number ≡ 19) × (symbols_ok ids limit relocations ≡ false))

-- a section without relocations has no 19
none-without : (headers contents work ids : List ℕ) (limit n kind : ℕ)
    → symbols_ok ids limit (relocations_of headers contents (table_for work n kind)) ≡ false → kind ≡ 1
unfolding table_for relocations_of symbols_ok
none-without headers contents work ids limit n kind e = by-test (eqb kind 1) (λ t. eqb-true _ _ t) (λ t. absurd (false≢true (sym (rw t at e))))

build-commit-left : (o : Build.Object) (headers work ids : List ℕ) (s : Build.State) (relocations x : List ℕ) (n kind : ℕ) (p : Build.Plan)
    → (section_name o n).found ≡ true → x ≡ (section_name o n).name → p.id ≡ record { 0 = find_of s.bytes s.names s.stage.link x } → (p.number ≢ 0 → p.number ≢ 2 → (p.number ≡ 19) × (kind ≡ 1))
    → (Build.commit_of headers work ids (Build.linked s) relocations x n kind p).stage.number ≢ 0
    → BuildLeft o kind s (Build.commit_of headers work ids (Build.linked s) relocations x n kind p) n
unfolding Build.commit_of Build.kept_of
build-commit-left o headers work ids s relocations x n kind p found g e d u =
    by-test (eqb p.number 2) (λ t. rw t (as_it_was refl refl))
    (λ t.
    by-test (eqb p.number 0) (λ z. absurd (u (rw (t, z))))
    (λ z.
    let k = d (eqb-false _ _ z) (eqb-false _ _ t) in
    rw (t, z, e, k.0, g) (but-its-name k.1 found refl refl)))

pub build-left : (o : Build.Object) (s : Build.State) (n kind : ℕ) → s.stage.number ≡ 0 → (Build.section_of o s n kind).stage.number ≢ 0
    → BuildLeft o kind s (Build.section_of o s n kind) n
unfolding Build.section_of Build.looked_of Build.section_named Build.tabled_of
build-left o s n kind z u =
    let x : Looked = section_name o n in
    let table : ℕ = table_for o.work n kind in
    let relocations : List ℕ = relocations_of o.headers o.contents table in
    let limit : ℕ = limit_of o.headers table o.table o.symbols in
    let p : Build.Plan = Build.plan_of s.stage.link s.bytes s.names (length s.lists) o.ids limit relocations x.name in
    let k = build-numbers s.stage.link s.bytes s.names (length s.lists) o.ids limit relocations x.name in
    let only : p.number ≢ 0 → p.number ≢ 2 → (p.number ≡ 19) × (kind ≡ 1) =
    λ v w. ((k.1 v w).0, none-without o.headers o.contents o.work o.ids limit n kind (k.1 v w).1) in
    by-test (Build.built_from o.headers o.work n kind)
    (λ a.
    by-test x.found
    (λ b.
    simp (a, b)
    (build-commit-left o o.headers o.work o.ids s relocations x.name n kind p b refl k.0 only (simp (a, b) at u)))
    (λ b. simp (a, b) (as_it_was refl refl)))
    (λ a. absurd (u (simp a z)))
