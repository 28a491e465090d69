-- A section that is built has a name within the names' rows, over every call. So a collection, which compares sections' names, reads no head of a chain.
-- Assumes nothing.
use Rattle.std.specs.Prelude.{ℕ, ◌+◌, ◌*◌, ◌<◌, ◌≤◌, ◌≡◌, refl, true, false, List, [], ◌∷◌, ◌≢◌, eqb, ltb, length, get_or, set}
use Rattle.std.proofs.Common.{arith, ap, sym, subst, ◌∙◌, length-set, get_or-set_same, get_or-set_other, eqb-true, ltb-true, ltb-false}
use Rattle.std.proofs.lemmas.Bool.{false≢true, eqb-false}
use Rattle.std.proofs.Math.Seq.{set_out}
use Rattle.cells.specs.Proof.Split.{by-test}
use Rattle.cells.specs.Rows.{put_row}
use Rattle.cells.specs.Proof.Rows.{length-put_row, row_same, row_other}
use Rattle.link.specs.declared.Link.{Link}
use Rattle.link.specs.declared.Interned.{Interned}
use Rattle.link.specs.declared.SymbolId.{SymbolId}
use Rattle.link.specs.Bounds.{section_slots}
use Rattle.link.specs.Counts.{no_names, with_sections, with_slots, more_sections}
use Rattle.strings.specs.Lookup.{Looked}
use Rattle.interner.specs.Names.{Store, store_of, room_of, fits_of, keep_of}
use Rattle.interner_laws.specs.Good.{find}
use Rattle.interner_laws.proofs.Find.{find-low}
use Rattle.interner_laws.specs.Interns.{id_of}
use Rattle.interner_laws.proofs.Interns.{keeps}
use Rattle.symbol.specs.declared.Row.{Row}
use Rattle.symbol_resolution.specs.Decision.{Decision}
use Rattle.symbol_resolution.specs.Decide.{section_cell, refusal_of}
use Rattle.symbol_resolution.specs.Apply.{Table, table_of, set_section_symbol, note_section, append_of, apply_of}
use Rattle.symbol_resolution.specs.Proof.Outcomes.{decision-left}
use Rattle.sections.specs.Rows as Sections
use Rattle.sections.specs.Rows.{state_at, name_id_at, reserve_of}
use Rattle.symbols.specs.Remove.{Rows, drop_section, remove_row_of}
use Rattle.elf_object.specs.Rows.{rows_in, field, name_offset_at, retain_at, read_at, section_size_at, name_in, conversion_at}
use Rattle.merge_sections.specs.Reserve as Reserve
use Rattle.merge_sections.specs.Reserve.{take_row_of, reserve_class_of, reserve_one_of, reserve_all_of}
use Rattle.section_groups.specs.Filter.{dropped_at}
use Rattle.merge_symbols.specs.Plan.{Planned}
use Rattle.merge_symbols.specs.Plan.{input_of, planned_of}
use Rattle.merge_symbols.specs.Stage as Symbols
use Rattle.merge_symbols.specs.Stage.{accept_row, kept_of, commit_of, view, symbol_named, looked_of, symbol_of, symbols_of}
use Rattle.merge_build.specs.Build.{Plan}
use Rattle.merge_build.specs.Relocations.{table_for, limit_of, relocations_of, symbols_ok}
use Rattle.merge_build.specs.Build as Build
use Rattle.merge_build.specs.Build.{lists_fit, plan_with, plan_of, section_id_of, build_row_of, tabled_of, built_from, section_of, build_of}
use Rattle.symbol_laws.proofs.Issue.{room-free}
use Rattle.symbol_laws.proofs.WritesLemmas.{section-behind}
use Rattle.merge_laws.proofs.Loop.{loop-holds}
use Rattle.merge_laws.proofs.Placed.{reserve-loop}
use Rattle.merge_laws.proofs.SymbolStageLemmas.{symbols-loop, noted-long}
use Rattle.merge_laws.proofs.BuildStage.{build-loop}
use Rattle.key_laws.specs.SectionNames.{Named}

-- of a link it depends on these counts alone
abbrev pub shape : Link → Link
shape l = with_slots (with_sections (no_names 0 l.chains) l.sections) l.slots

pub named-shape : (l m : Link) (rows : List ℕ) → shape m ≡ shape l → Named l rows → Named m rows
named-shape l m rows e h = subst (λ (z : Link). Named z rows) (sym e) h

pub keep_shape : (s : Store) (id : Interned) (x : List ℕ) → shape (keep_of s id x).link ≡ shape s.link
keep_shape s id x = keeps (λ (k : Store). shape k.link ≡ shape s.link) s id x refl (λ h r. refl)

-- ---- what is written

-- behind the rows
named-rows : (l : Link) (rows old : List ℕ) → length rows ≡ length old → ((q : ℕ) → q < l.slots * 8 → get_or rows q 0 ≡ get_or old q 0) → Named l old → Named l rows
named-rows l rows old n e h i a b c d =
    let z : state_at old i ≡ 2 = sym (e (i * 8 + 0) (omega arith)) ∙ d in
    let y : name_id_at rows i ≡ name_id_at old i = e (i * 8 + 1) (omega arith) in
    omega (arith, y, h i a b (omega (arith, n)) z)

-- a row reserved
reserve-named : (l : Link) (rows : List ℕ) → Named l rows → Named (more_sections l) (put_row rows l.sections (1 ∷ 0 ∷ 0 ∷ 0 ∷ 0 ∷ 0 ∷ 0 ∷ 0 ∷ []))
reserve-named l rows h i a b c d =
    let row : List ℕ = 1 ∷ 0 ∷ 0 ∷ 0 ∷ 0 ∷ 0 ∷ 0 ∷ 0 ∷ [] in
    let n : ℕ = l.sections in
    let c' : i * 8 + 8 ≤ length rows = omega (arith, length-put_row rows n row) in
    by-test (eqb i n)
    (λ t.
    let e : i ≡ n = eqb-true _ _ t in
    let f : state_at (put_row rows n row) n ≡ 1 = row_same rows n row 0 refl (omega arith) (omega arith) in
    let g : state_at (put_row rows n row) n ≡ 2 = subst (λ (j : ℕ). state_at (put_row rows n row) j ≡ 2) e d in
    absurd (omega (arith, f, g)))
    (λ t.
    let u : i ≢ n = eqb-false _ _ t in
    let z : state_at rows i ≡ 2 = sym (row_other rows n row i 0 refl (omega arith) u) ∙ d in
    let low : i < n = lower i n u (omega arith) in
    omega (arith, row_other rows n row i 1 refl (omega arith) u, h i low b c' z))
  where
    lower : (i n : ℕ) → i ≢ n → i ≤ n → i < n
    lower i n u h = by-test (ltb i n) (λ t. ltb-true i n t) (λ t. absurd (u (omega (arith, ltb-false i n t))))

-- a row built
built-named : (l : Link) (rows : List ℕ) (id name a2 a3 a4 a5 a6 a7 : ℕ) → name < l.chains → Named l rows
    → Named l (put_row rows id (2 ∷ name ∷ a2 ∷ a3 ∷ a4 ∷ a5 ∷ a6 ∷ a7 ∷ []))
built-named l rows id name a2 a3 a4 a5 a6 a7 low h i a b c d =
    let row : List ℕ = 2 ∷ name ∷ a2 ∷ a3 ∷ a4 ∷ a5 ∷ a6 ∷ a7 ∷ [] in
    let c' : i * 8 + 8 ≤ length rows = omega (arith, length-put_row rows id row) in
    by-test (eqb i id)
    (λ t.
    let e : i ≡ id = eqb-true _ _ t in
    let f : name_id_at (put_row rows id row) id ≡ name = row_same rows id row 1 refl (omega arith) (omega arith) in
    subst (λ (j : ℕ). name_id_at (put_row rows id row) j < l.chains) (sym e) (omega (arith, f)))
    (λ t.
    let u : i ≢ id = eqb-false _ _ t in
    let z : state_at rows i ≡ 2 = sym (row_other rows id row i 0 refl (omega arith) u) ∙ d in
    omega (arith, row_other rows id row i 1 refl (omega arith) u, h i a b c' z))

-- a row dropped
pub dropped-named : (l : Link) (rows : List ℕ) (id : ℕ) → Named l rows → Named l (set rows (id * 8 + 0) 3)
dropped-named l rows id h i a b c d =
    let c' : i * 8 + 8 ≤ length rows = omega (arith, length-set rows (id * 8 + 0) 3) in
    let y : name_id_at (set rows (id * 8 + 0) 3) i ≡ name_id_at rows i = get_or-set_other rows (id * 8 + 0) (i * 8 + 1) 3 0 (λ e. omega arith) in
    by-test (eqb i id)
    (λ t.
    let e : i ≡ id = eqb-true _ _ t in
    let f : get_or (set rows (id * 8 + 0) 3) (id * 8 + 0) 0 ≡ 3 = get_or-set_same rows (id * 8 + 0) 3 0 (omega arith) in
    let g : state_at (set rows (id * 8 + 0) 3) id ≡ 2 = subst (λ (j : ℕ). state_at (set rows (id * 8 + 0) 3) j ≡ 2) e d in
    absurd (omega (arith, f, g)))
    (λ t.
    let u : i ≢ id = eqb-false _ _ t in
    let z : state_at rows i ≡ 2 = sym (get_or-set_other rows (id * 8 + 0) (i * 8 + 0) 3 0 (λ e. u (omega arith))) ∙ d in
    omega (arith, y, h i a b c' z))

-- ---- a section's symbol

symbol-behind : (l : Link) (rows : List ℕ) (s id q : ℕ) → q < l.slots * 8 → get_or (set_section_symbol l rows s id) q 0 ≡ get_or rows q 0
unfolding set_section_symbol section_cell
symbol-behind l rows s id q h =
    by-test (ltb (section_slots (length rows)) l.slots) (λ t. rw t (ap (λ (m : List ℕ). get_or m q 0) (set_out rows (length rows) id (omega arith))))
    (λ t.
    by-test (ltb s l.slots) (λ u. rw (t, u) (get_or-set_other rows _ q id 0 (λ e. omega arith)))
    (λ u. rw (t, u) (ap (λ (m : List ℕ). get_or m q 0) (set_out rows (length rows) id (omega arith)))))

symbol-long : (l : Link) (rows : List ℕ) (s id : ℕ) → length (set_section_symbol l rows s id) ≡ length rows
unfolding set_section_symbol
symbol-long l rows s id = length-set rows _ id

pub remove-row-named : (l : Link) (x : Rows) (id : SymbolId) → Named l x.sections → Named l (remove_row_of l x id).sections
unfolding remove_row_of drop_section
remove-row-named l x id h =
    let kind : ℕ = get_or x.symbols (id.0 * 8 + 5) 0 in
    let s : ℕ = get_or x.symbols (id.0 * 8 + 6) 0 in
    by-test (eqb (get_or x.symbols (id.0 * 8 + 0) 0) 2) (λ a. rw a h)
    (λ a.
    by-test (eqb kind 2)
    (λ b. rw (a, b) (named-rows l (set_section_symbol l x.sections s 0) x.sections (symbol-long l x.sections s 0) (symbol-behind l x.sections s 0) h))
    (λ b. rw (a, b) h))

-- with the names' own bound, by which a name that is found has a row
pub record BuiltNamed (l : Link) (rows : List ℕ) : Type 0 where
  pub named : Named l rows
  pub low : l.names ≤ l.chains

pub applied-named : (t : Table) (r : Row) (d : Decision) → Named t.link t.sections → Named (apply_of t r d).link (apply_of t r d).sections
unfolding append_of
applied-named t r d h =
    decision-left (λ (u : Table). Named u.link u.sections) t r h
    (named-rows t.link (note_section t.link t.sections r t.link.symbols) t.sections (noted-long t.link t.sections r t.link.symbols)
    (section-behind t.link t.sections r t.link.symbols) h)
    (λ id x. h) d

applied-low : (t : Table) (r : Row) (d : Decision) → t.link.names ≤ t.link.chains → (apply_of t r d).link.names ≤ (apply_of t r d).link.chains
unfolding append_of
applied-low t r d h = decision-left (λ (u : Table). u.link.names ≤ u.link.chains) t r h h (λ id x. h) d

-- ---- sections reserved

one-named : (headers : List ℕ) (s : Reserve.State) (n : ℕ) → Named s.reserved.link s.sections
    → Named (reserve_one_of headers s n).reserved.link (reserve_one_of headers s n).sections
unfolding reserve_one_of reserve_class_of take_row_of reserve_of
one-named headers s n h =
    let class : ℕ = Reserve.class_of headers n in
    by-test (eqb (Reserve.reserve_number s.reserved.link s.sections class s.reserved.table) 0)
    (λ a.
    by-test (eqb class 2)
    (λ b. by-test (Sections.room_of s.reserved.link s.sections) (λ c. rw (a, b, c) (reserve-named s.reserved.link s.sections h)) (λ c. rw (a, b, c) h))
    (λ b. rw (a, b) h))
    (λ a. rw a h)

pub reserved-named : (headers : List ℕ) (s : Reserve.State) → Named s.reserved.link s.sections
    → Named (reserve_all_of headers s).reserved.link (reserve_all_of headers s).sections
unfolding reserve_all_of
reserved-named headers s h =
    rw (reserve-loop headers (rows_in headers) 0 s)
    (loop-holds (λ t. t.reserved.number) (reserve_one_of headers) (λ t. Named t.reserved.link t.sections) (λ t n e. one-named headers t n e) (rows_in headers) 0 s h)

-- ---- symbols

keep_low : (s : Store) (id : Interned) (x : List ℕ) → s.link.names ≤ s.link.chains → (keep_of s id x).link.names ≤ (keep_of s id x).link.chains
keep_low s id x h = keeps (λ (k : Store). k.link.names ≤ k.link.chains) s id x h (λ g r. omega (arith, (room-free s (length x) r).free))

symbol-named : (o : Symbols.Object) (s : Symbols.State) (i : ℕ) → BuiltNamed s.stage.link s.sections
    → BuiltNamed (symbol_of o s i).stage.link (symbol_of o s i).sections
unfolding symbol_of looked_of symbol_named commit_of kept_of accept_row
symbol-named o s i h =
    let x : Looked = name_in o.headers o.image o.symbol_names (field o.entries i 0) in
    let p : Planned = planned_of (view s) (input_of o.entries o.work) x.name i s.stage.file in
    let st : Store = store_of s.bytes s.names s.stage.link in
    let k : Store = keep_of st p.id x.name in
    let t : Table = table_of k.names s.symbols s.sections k.link in
    let g : Named k.link s.sections = named-shape s.stage.link k.link s.sections (keep_shape st p.id x.name) h.named in
    let low : k.link.names ≤ k.link.chains = keep_low st p.id x.name h.low in
    by-test (dropped_at s.stage.link.gabi o.work o.entries i) (λ d. rw d h)
    (λ d.
    by-test x.found
    (λ a.
    by-test (eqb (refusal_of p.decision) 2) (λ b. rw (d, a, b) h)
    (λ b.
    by-test (eqb (refusal_of p.decision) 0)
    (λ c. rw (d, a, b, c) (record { named = applied-named t p.row p.decision g; low = applied-low t p.row p.decision low }))
    (λ c. rw (d, a, b, c) (record { named = g; low = low }))))
    (λ a. rw (d, a) h))

pub symbols-named : (o : Symbols.Object) (s : Symbols.State) → BuiltNamed s.stage.link s.sections
    → BuiltNamed (symbols_of o s).stage.link (symbols_of o s).sections
unfolding symbols_of
symbols-named o s h =
    rw (symbols-loop o (rows_in o.entries) 0 s)
    (loop-holds (λ (t : Symbols.State). t.stage.number) (symbol_of o) (λ (t : Symbols.State). BuiltNamed t.stage.link t.sections)
    (λ t i e. symbol-named o t i e) (rows_in o.entries) 0 s h)

-- ---- sections built

-- a name that fits has a row
fits_low : (s : Store) (x : List ℕ) → s.link.names ≤ s.link.chains → fits_of s (id_of s x) (length x) ≡ true → find s x < s.link.chains
unfolding fits_of
fits_low s x low f =
    by-test (ltb (find s x) s.link.names) (λ a. omega (arith, ltb-true (find s x) s.link.names a))
    (λ a.
    let r : room_of s (length x) ≡ true = rw a at f in
    omega (arith, (room-free s (length x) r).free, find-low s x))

plan-low : (s : Store) (lists : ℕ) (ids : List ℕ) (limit : ℕ) (relocations x : List ℕ) → s.link.names ≤ s.link.chains
    → eqb (plan_of s.link s.bytes s.names lists ids limit relocations x).number 2 ≡ false
    → (plan_of s.link s.bytes s.names lists ids limit relocations x).id.0 < s.link.chains
unfolding plan_of plan_with
plan-low s lists ids limit relocations x low z =
    by-test (fits_of s (id_of s x) (length x))
    (λ a.
    by-test (symbols_ok ids limit relocations)
    (λ b. by-test (lists_fit s.link.lists lists (length relocations)) (λ c. rw (a, b, c) (fits_low s x low a)) (λ c. rw (a, b, c) (fits_low s x low a)))
    (λ b. rw (a, b) (fits_low s x low a)))
    (λ a. absurd (false≢true (sym (rw a at z))))

section-named : (o : Build.Object) (kind : ℕ) (s : Build.State) (n : ℕ) → BuiltNamed s.stage.link s.sections
    → BuiltNamed (section_of o s n kind).stage.link (section_of o s n kind).sections
unfolding section_of Build.looked_of Build.section_named tabled_of Build.commit_of Build.kept_of build_row_of Sections.built_of
section-named o kind s n h =
    let x : Looked = name_in o.headers o.image o.section_names (name_offset_at o.headers n) in
    let relocations : List ℕ = relocations_of o.headers o.contents (table_for o.work n kind) in
    let limit : ℕ = limit_of o.headers (table_for o.work n kind) o.table o.symbols in
    let st : Store = store_of s.bytes s.names s.stage.link in
    let q : Plan = plan_of s.stage.link s.bytes s.names (length s.lists) o.ids limit relocations x.name in
    let k : Store = keep_of st q.id x.name in
    let e : shape k.link ≡ shape s.stage.link = keep_shape st q.id x.name in
    let g : BuiltNamed k.link s.sections =
    record { named = named-shape s.stage.link k.link s.sections e h.named; low = keep_low st q.id x.name h.low } in
    by-test (built_from o.headers o.work n kind)
    (λ a.
    by-test x.found
    (λ b.
    by-test (eqb q.number 2) (λ c. rw (a, b, c) h)
    (λ c.
    by-test (eqb q.number 0)
    (λ d.
    by-test (lists_fit k.link.lists (length s.lists) (length relocations))
    (λ f.
    let c' : k.link.chains ≡ s.stage.link.chains = ap (λ (l : Link). l.chains) e in
    let low : q.id.0 < k.link.chains = omega (arith, plan-low st (length s.lists) o.ids limit relocations x.name h.low c, c') in
    rw (a, b, c, d, f)
    (record {
      named = built-named k.link s.sections (section_id_of (conversion_at o.work n)).0 q.id.0 kind (retain_at o.headers n) (read_at o.headers n)
          k.link.lists (length relocations) (section_size_at o.headers n) low g.named;
      low = g.low;
    }))
    (λ f. rw (a, b, c, d, f) g))
    (λ d. rw (a, b, c, d) g)))
    (λ b. rw (a, b) h))
    (λ a. rw a h)

pub build-named : (o : Build.Object) (kind : ℕ) (s : Build.State) → BuiltNamed s.stage.link s.sections
    → BuiltNamed (build_of o s kind).stage.link (build_of o s kind).sections
unfolding build_of
build-named o kind s h =
    rw (build-loop o kind (rows_in o.headers) 0 s)
    (loop-holds (λ (t : Build.State). t.stage.number) (λ (t : Build.State) (n : ℕ). section_of o t n kind) (λ (t : Build.State). BuiltNamed t.stage.link t.sections)
    (λ t n e. section-named o kind t n e) (rows_in o.headers) 0 s h)
