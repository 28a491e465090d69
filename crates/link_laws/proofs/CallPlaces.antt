-- The refusal table's column "Returned": the place that comes with a number, for each call. A merge's and a load's elements are in Elements.antt.
-- Assumes nothing.
use Rattle.gc_sections.specs.declared.Dropped.{Dropped}
use Rattle.symbol.specs.declared.Symbol.{Symbol}
use Rattle.link.specs.declared.SectionId.{SectionId}
use Prim.Native.Nat.{ℕ, zero, suc, ◌+◌, ◌/◌, ◌<◌, ◌≤◌}
use Rattle.std.specs.Prelude.{◌≡◌, Bool, true, List, ◌∷◌, ◌≢◌, eqb, ltb, leb, length, Option, Result, None, Some, Ok, Err}
use Rattle.std.proofs.Math.Path.{refl}
use Rattle.std.proofs.Common.{sym, ap, ◌∙◌, subst}
use Rattle.std.proofs.Math.Bool.{false}
use Rattle.std.proofs.lemmas.Bool.{false≢true}
use borrow.Author.Tests.{eqb-true, eqb-false, ltb-true, leb-false, lt-leb, le-leb, eq-eqb, ne_eqb}
use Rattle.cells.specs.Proof.Split.{by-test}
use Rattle.byte_slices.specs.Proof.Ways.{pick}
use Rattle.link.specs.declared.Link.{Link}
use Rattle.link.specs.declared.Lent.{Lent}
use Rattle.link.specs.declared.Interned.{Interned}
use Rattle.link.specs.declared.SymbolId.{SymbolId}
use Rattle.link.specs.declared.cause.Refusal.{Refusal}
use Rattle.link.specs.Bounds.{section_slots, name_rows}
use Rattle.link.specs.Judge.{refused, change_of}
use Rattle.link.specs.Judge as Link
use Rattle.link.specs.Proof.Passed.{judge-gives}
use Rattle.link.specs.Said.{number_in, place_in}
use Rattle.interner.specs.Names.{Store, find_of, fits_of}
use Rattle.interner.specs.Calls as Names
use Rattle.interner.specs.Calls.{intern_of, issue_of, resolve_of}
use Rattle.symbol.specs.Row.{state_at}
use Rattle.symbol_resolution.specs.declared.rows.Holder.{Holder}
use Rattle.symbol_resolution.specs.declared.rows.Holder.TheVariants.{Unissued, Nobody, Removed, Known}
use Rattle.symbol_resolution.specs.Holder.{holder_of}
use Rattle.symbols.specs.Calls.{lent_of}
use Rattle.upcoming_symbol.specs.declared.UpcomingSymbol.{UpcomingSymbol}
use Rattle.upcoming_symbol.specs.declared.UpcomingSymbol.TheVariants as Upcoming
use Rattle.upcoming_symbol.specs.Judge.{in_range}
use Rattle.upcoming_symbol.specs.Upcoming.{name_of, external_row_of, elf_row_of, row_of}
use Rattle.symbol.specs.declared.Row.{Row}
use Rattle.symbol_resolution.specs.Decision.{Decision}
use Rattle.symbol_resolution.specs.Decide.{refusal_of}
use Rattle.symbol_resolution.specs.Apply as SymbolRows
use Rattle.symbols.specs.Calls as Symbols
use Rattle.symbols.specs.Add as Add
use Rattle.symbols.specs.Add.{empty_at, file_of, file_issued, unissued_file, decided_of, committed_of, add_row_of, judge_add_of, add_of}
use Rattle.symbols.specs.Remove.{Rows, RemoveLeft, remove_of}
use Rattle.symbols.specs.Lookup as Lookup
use Rattle.symbols.specs.Lookup.{found_at, get_of, held_of, get_global_of}
use Rattle.archive_index.specs.Archives.{Archives, last_end}
use Rattle.archive_index.specs.Rows.{stored_name}
use Rattle.archive_index.specs.Open.{Opened, first_not, judge_each, is_filled, open_of}
use Rattle.archive_walk.specs.declared.Walk.{Walk}
use Rattle.archive_walk.specs.Walk.{Started}
use Rattle.archive_walk.specs.Look.{judge_table, removed_name}
use Rattle.archive_walk.specs.Look as Look
use Rattle.archive_walk.specs.Walk.{Step, begun_number, begun_place, number_of, place_of, begun_of, start_of, removed_of, make_of, search_of, pass_of, walk_fits, go_of, next_of}
use Rattle.elf_object.specs.Rows.{rows_in, is_loaded}
use Rattle.elf_object.specs.Judge as Elf
use Rattle.section_groups.specs.Group as Group
use Rattle.section_groups.specs.Group.{group_of, group_section_of, go}
use Rattle.section_groups.specs.AddGroup as AddGroup
use Rattle.section_groups.specs.AddGroup.{answer_of, loaded_in, add_group_of}
use Rattle.link.specs.Stage.{Stage}
use Rattle.gc_sections.specs.Reach as Reach
use Rattle.gc_sections.specs.Run as Collection
use Rattle.gc_sections.specs.Run.{judge_cells, judged, purge_of, sweep_of, finish_of, finished, collect_of, run_of}
use Rattle.elf_object.specs.Judge.{first_bad}
use Rattle.gc_laws.proofs.Terms as DemandLaws
use Rattle.symbol_laws.specs.History.{State, store, table}
use Rattle.merge_laws.proofs.Refusals.{group-left}
use Rattle.merge_laws.proofs.ByNumber.{changed, elf-gives}
use Rattle.merge_laws.specs.Calls.{Linked}
use Rattle.link_laws.specs.Calls.{intern, resolve, add, remove, get, get_global, add_group, archive_start, archive_next, collect, view_in, lists_in, group_in, call_refusal, call_number}
use Rattle.link_laws.specs.FirstRow.{First}
use Rattle.link_laws.proofs.FirstRow.{first-bad}
use Rattle.link_laws.proofs.NeverRemoved.{offered-number}
use Rattle.link_laws.proofs.CallSteps.{head-loaded, section-is}
use Rattle.merge_laws.specs.Table.{one_of, group_causes, group_numbers}
use Rattle.link_laws.specs.CallPlaces.{has_bytes, not_removed, collect_lent}
use Rattle.link_laws.proofs.ArchiveGives.{each-gives, open-gives}

-- two numbers
pub differ : {P : Type 0} (m n : ℕ) → eqb m n ≡ false → m ≡ n → P
differ m n d e = absurd (eqb-false _ _ d e)

-- ---- names

-- 2 and 22 at 0
pub intern-place : (x : List ℕ) (s : Linked) → call_number (intern x) s ≢ 1 → (call_refusal (intern x) s).place ≡ 0
unfolding intern_of issue_of
intern-place x s = go (store s.table)
  where
    P : Names.Left → Type 0
    P o = number_in o.said ≢ 1 → place_in o.said ≡ 0

    go : (t : Store) → P (intern_of t x)
    go t =
        pick P (eqb (change_of t.link (Names.lent t)).number 0) _ _
        (λ a. pick P (fits_of t (record { 0 = find_of t.bytes t.names t.link x }) (length x)) _ _ (λ b u. refl) (λ b u. refl))
        (λ a. changed (λ (r : Refusal). r.number ≢ 1 → r.place ≡ 0) (λ u. refl) (λ k u. absurd (u refl)) (λ u. refl) t.link (Names.lent t))

pub resolve-place : (id : Interned) (s : Linked) → call_number (resolve id) s ≢ 1 → (call_refusal (resolve id) s).place ≡ 0
unfolding resolve_of
resolve-place id s = go (store s.table)
  where
    P : Names.Resolved → Type 0
    P o = o.refusal.number ≢ 1 → o.refusal.place ≡ 0

    go : (t : Store) → P (resolve_of t id)
    go t =
        pick P (eqb (Link.judge_of t.link (Names.lent t)).number 0) _ _
        (λ a. pick P (ltb id.0 t.link.names) _ _ (λ b u. refl) (λ b u. refl))
        (λ a. judge-gives (λ (r : Refusal). r.number ≢ 1 → r.place ≡ 0) (λ k u. absurd (u refl)) (λ u. refl) t.link (Names.lent t))

-- ---- "21's id: [..] the symbol's for `get` and `remove`"

module _ (l : Link) (id : SymbolId) where
  remove-at : (x : Rows) → number_in (remove_of l x id).said ≡ 21 → place_in (remove_of l x id).said ≡ id.0
  unfolding remove_of
  remove-at x =
      pick P (eqb (change_of l (lent_of l.chains (length x.symbols) (section_slots (length x.sections)))).number 0) _ _
      (λ a. pick P (leb l.symbols id.0) _ _ (λ b e. refl) (λ b e. differ 0 21 refl e))
      (λ a.
      changed (λ (r : Refusal). r.number ≡ 21 → r.place ≡ id.0) (λ e. differ 22 21 refl e) (λ k e. differ 1 21 refl e) (λ e. differ 0 21 refl e) l _)
    where
      P : RemoveLeft → Type 0
      P o = number_in o.said ≡ 21 → place_in o.said ≡ id.0

  get_at : (symbols : List ℕ) → (Lookup.refusal_of (get_of l symbols id)).number ≡ 21 → (Lookup.refusal_of (get_of l symbols id)).place ≡ id.0
  unfolding get_of found_at
  get_at symbols =
      pick P (eqb (Link.judge_of l (lent_of l.chains (length symbols) l.slots)).number 0) _ _
      (λ a.
      pick P (leb l.symbols id.0) _ _ (λ b e. refl) (λ b. pick P (eqb (state_at symbols id.0) 2) _ _ (λ c e. refl) (λ c e. differ 0 21 refl e)))
      (λ a. judge-gives (λ (r : Refusal). r.number ≡ 21 → r.place ≡ id.0) (λ k e. differ 1 21 refl e) (λ e. differ 0 21 refl e) l _)
    where
      P : Result Symbol Refusal → Type 0
      P f = (Lookup.refusal_of f).number ≡ 21 → (Lookup.refusal_of f).place ≡ id.0

pub remove-place : (id : SymbolId) (s : Linked) → call_number (remove id) s ≡ 21 → (call_refusal (remove id) s).place ≡ id.0
remove-place id s = remove-at s.table.link id _

pub get-place : (id : SymbolId) (s : Linked) → call_number (get id) s ≡ 21 → (call_refusal (get id) s).place ≡ id.0
get-place id s = get_at s.table.link id s.table.symbols

-- ---- "the name's for an add or name lookup"; 23 at 0

module _ (l : Link) (names symbols : List ℕ) (name : Interned) where
  abbrev NameAt : Refusal → Type 0
  NameAt r = (r.number ≡ 21 → r.place ≡ name.0) × (r.number ≡ 23 → r.place ≡ 0)

  held_at : (h : Holder) → NameAt (Lookup.refusal_of (held_of symbols name h))
  held_at Unissued = (λ e. differ 23 21 refl e, λ e. refl)
  held_at Nobody = (λ e. differ 23 21 refl e, λ e. refl)
  held_at Removed = (λ e. refl, λ e. differ 21 23 refl e)
  held_at (Known id) = (λ e. differ 0 21 refl e, λ e. refl)

  pub global-at : NameAt (Lookup.refusal_of (get_global_of l names symbols name))
  unfolding get_global_of
  global-at =
      pick (λ (f : Result Symbol Refusal). NameAt (Lookup.refusal_of f)) (eqb (Link.judge_of l (lent_of (name_rows (length names)) (length symbols) l.slots)).number 0) _ _
      (λ a. held_at (holder_of l names symbols name))
      (λ a. judge-gives NameAt (λ k. (λ e. differ 1 21 refl e, λ e. differ 1 23 refl e)) (λ e. differ 0 21 refl e, λ e. refl) l _)

pub global-place : (name : Interned) (s : Linked) → call_number (get_global name) s ≡ 21 → (call_refusal (get_global name) s).place ≡ name.0
global-place name s = (global-at s.table.link s.table.names s.table.symbols name).0

judge-add-21 : (l : Link) (n : Lent) (u : UpcomingSymbol) → (judge_add_of l n u).number ≢ 21
unfolding judge_add_of
judge-add-21 l n u =
    pick P (eqb (change_of l n).number 0) _ _
    (λ a. pick P (in_range u) _ _ (λ b e. differ 0 21 refl (sym (eqb-true _ _ a) ∙ e)) (λ b e. differ 1 21 refl e))
    (λ a. changed (λ (r : Refusal). P (refused r.number 0)) (λ e. differ 22 21 refl e) (λ k e. differ 1 21 refl e) (λ e. differ 0 21 refl e) l n)
  where
    P : Refusal → Type 0
    P r = r.number ≢ 21

commit-21 : (t : SymbolRows.Table) (r : Row) (file : Option Interned) (d : Decision) → number_in (committed_of t r file d).said ≡ 21
    → place_in (committed_of t r file d).said ≡ Add.place_of t.link r.name file
unfolding committed_of
commit-21 t r file d =
    pick P (eqb (refusal_of d) 21) _ _ (λ a e. refl)
    (λ a. pick P (eqb (refusal_of d) 0) _ _ (λ b e. differ 0 21 refl e) (λ b e. differ (refusal_of d) 21 a e))
  where
    P : Symbols.Left → Type 0
    P x = number_in x.said ≡ 21 → place_in x.said ≡ Add.place_of t.link r.name file

row-name : (gabi : Bool) (conversion : List ℕ) (u : UpcomingSymbol) (empty : Bool) → (row_of gabi conversion u empty).name ≡ name_of u
unfolding external_row_of elf_row_of
row-name gabi conversion Upcoming.Null empty = refl
row-name gabi conversion (Upcoming.GlobalUnknown name) empty = refl
row-name gabi conversion (Upcoming.GlobalHidden name value) empty = refl
row-name gabi conversion (Upcoming.Section section) empty = refl
row-name gabi conversion (Upcoming.ExternallyDefined name visibility binding) empty = refl
row-name gabi conversion (Upcoming.Elf elf name file) empty = refl

add_at : (t : SymbolRows.Table) (conversion : List ℕ) (u : UpcomingSymbol) → number_in (add_of t conversion u).said ≡ 21
    → place_in (add_of t conversion u).said ≡ Add.place_of t.link (name_of u) (file_of u)
unfolding add_of add_row_of
add_at t conversion u =
    let r : Row = row_of t.link.gabi conversion u (empty_at t.names (name_of u)) in
    pick (λ (x : Symbols.Left). number_in x.said ≡ 21 → place_in x.said ≡ Add.place_of t.link (name_of u) (file_of u))
    (eqb (judge_add_of t.link (Add.lent t) u).number 0) _ _
    (λ a e.
    commit-21 t r (file_of u) (decided_of t r (file_of u)) e
    ∙ ap (λ (n : Interned). Add.place_of t.link n (file_of u)) (row-name t.link.gabi conversion u (empty_at t.names (name_of u))))
    (λ a e. absurd (judge-add-21 t.link (Add.lent t) u e))

-- the name's, and its file's where only that isn't issued
module _ (l : Link) (name : Interned) where
  named-file : (file : Option Interned) → file_issued l file ≡ true → unissued_file l name file ≡ name.0
  named-file None e = refl
  named-file (Some id) e = by-test (leb l.names id.0) (λ a. absurd (false≢true (rw a at e))) (λ a. rw a)

  place-name : (file : Option Interned) → (name.0 < l.names → file_issued l file ≡ true) → Add.place_of l name file ≡ name.0
  unfolding Add.place_of
  place-name file f =
      by-test (leb l.names name.0) (λ a. rw a) (λ a. rw a (named-file file (f (leb-false _ _ a))))

  place-file : (file : Option Interned) (id : Interned) → name.0 < l.names → file ≡ Some id → l.names ≤ id.0 → Add.place_of l name file ≡ id.0
  unfolding Add.place_of
  place-file file id a e b = rw (e, lt-leb _ _ a, le-leb _ _ b)

pub add-name-place : (conversion : List ℕ) (u : UpcomingSymbol) (s : Linked) → call_number (add conversion u) s ≡ 21
    → ((name_of u).0 < s.table.link.names → file_issued s.table.link (file_of u) ≡ true) → (call_refusal (add conversion u) s).place ≡ (name_of u).0
add-name-place conversion u s e f = add_at (table s.table) conversion u e ∙ place-name s.table.link (name_of u) (file_of u) f

pub add-file-place : (conversion : List ℕ) (u : UpcomingSymbol) (s : Linked) (id : Interned) → call_number (add conversion u) s ≡ 21
    → (name_of u).0 < s.table.link.names → file_of u ≡ Some id → s.table.link.names ≤ id.0 → (call_refusal (add conversion u) s).place ≡ id.0
add-file-place conversion u s id e a f b = add_at (table s.table) conversion u e ∙ place-file s.table.link (name_of u) (file_of u) id a f b

-- ---- archives

pub first-is-bad : (f : ℕ → Bool) (n k : ℕ) → first_not f n k ≡ first_bad f k n
unfolding first_not first_bad
first-is-bad f zero k = refl
first-is-bad f (suc n) k = by-test (f k) (λ a. rw a (first-is-bad f n (k + 1))) (λ a. rw a)

pub begun-gives : (P : Refusal → Type 0) → P (refused 0 0) → (key n : ℕ) (o : Opened) → P o.refusal → P (refused (begun_number (begun_of key n o).begun) (begun_place (begun_of key n o).begun))
unfolding begun_of
begun-gives P fine key n o h = pick (λ (x : Started). P (refused (begun_number x.begun) (begun_place x.begun))) (eqb o.refusal.number 0) _ _ (λ a. fine) (λ a. h)

module _ (key : ℕ) (archives : Archives) (cells : List ℕ) (s : Linked) where
  -- what holds of the refusals that there are holds of the start's
  start-gives : (P : Refusal → Type 0) → ((k : ℕ) → P (refused 1 k)) → P (refused 0 0) → P (judge_each (is_filled archives) (length archives.ends) 20) → P (refused 2 0)
      → P (call_refusal (archive_start key archives cells) s)
  unfolding start_of
  start-gives P one fine empty short =
      begun-gives P fine key (last_end archives) (open_of archives cells).opened (open-gives P one fine archives empty short cells)

  -- 2 at 0
  pub start-place : call_number (archive_start key archives cells) s ≡ 2 → (call_refusal (archive_start key archives cells) s).place ≡ 0
  start-place =
      start-gives P (λ k e. differ 1 2 refl e) (λ e. differ 0 2 refl e)
      (each-gives P (λ k e. differ 1 2 refl e) (λ e. differ 0 2 refl e) (is_filled archives) (length archives.ends) 20 (λ e. differ 20 2 refl e)) (λ e. refl)
    where
      P : Refusal → Type 0
      P r = r.number ≡ 2 → r.place ≡ 0

  -- 20 at the first empty index
  pub start-empty : call_number (archive_start key archives cells) s ≡ 20 → First (has_bytes archives) (length archives.ends) (call_refusal (archive_start key archives cells) s).place
  unfolding judge_each is_filled
  start-empty =
      start-gives P (λ k e. differ 1 20 refl e) (λ e. differ 0 20 refl e)
      (pick P (ltb (first_not (has_bytes archives) n 0) n) _ _ (λ t e. found (ltb-true _ _ t)) (λ t e. differ 0 20 refl e)) (λ e. differ 2 20 refl e)
    where
      n : ℕ
      n = length archives.ends

      P : Refusal → Type 0
      P r = r.number ≡ 20 → First (has_bytes archives) (length archives.ends) r.place

      found : first_not (has_bytes archives) n 0 < n → First (has_bytes archives) n (first_not (has_bytes archives) n 0)
      found h =
          let q = first-is-bad (has_bytes archives) n 0 in
          subst (First (has_bytes archives) n) (sym q) (first-bad (has_bytes archives) n (subst (λ (p : ℕ). p < n) q h))

-- "the entry's position for a pass": of the walk's entries the first whose name's row was removed
module _ (archives : Archives) (cells : List ℕ) (t : Look.Table) where
  removed-first : (n k : ℕ) → removed_of archives.bytes cells t n k ≡ first_bad (not_removed archives.bytes cells t) k n
  unfolding removed_of first_bad
  removed-first zero k = refl
  removed-first (suc n) k =
      by-test (removed_name t (stored_name archives.bytes cells k)) (λ a. rw a) (λ a. rw (a, removed-first n (k + 1)))

  pass-at : (w : Walk) → number_of (next_of archives cells w t).moved.offer ≡ 21 → First (not_removed archives.bytes cells t) w.entries (place_of (next_of archives cells w t).moved.offer)
  unfolding next_of go_of pass_of search_of make_of judge_table
  pass-at w =
      pick P w.done _ _ (λ a e. differ 0 21 refl e)
      (λ a.
      pick P (walk_fits archives cells w) _ _
      (λ a.
      pick P (ltb w.offered w.queued) _ _ (λ a e. differ 0 21 refl (sym (offered-number archives cells w) ∙ e))
      (λ a.
      pick P (eqb (judge_table t).number 0) _ _
      (λ a.
      pick P (ltb (removed_of archives.bytes cells t w.entries 0) w.entries) _ _ (λ b e. found (ltb-true _ _ b))
      (λ b e. differ 0 21 refl (sym (offered-number archives _ _) ∙ e)))
      (λ a. judge-gives (λ (r : Refusal). r.number ≡ 21 → First (not_removed archives.bytes cells t) w.entries r.place) (λ k e. differ 1 21 refl e) (λ e. differ 0 21 refl e) t.link _)))
      (λ a e. differ 1 21 refl e))
    where
      P : Step → Type 0
      P x = number_of x.moved.offer ≡ 21 → First (not_removed archives.bytes cells t) w.entries (place_of x.moved.offer)

      found : removed_of archives.bytes cells t w.entries 0 < w.entries → First (not_removed archives.bytes cells t) w.entries (removed_of archives.bytes cells t w.entries 0)
      found h =
          let q = removed-first w.entries 0 in
          subst (First (not_removed archives.bytes cells t) w.entries) (sym q) (first-bad (not_removed archives.bytes cells t) w.entries (subst (λ (p : ℕ). p < w.entries) q h))

pub pass-place : (archives : Archives) (cells : List ℕ) (w : Walk) (s : Linked) → call_number (archive_next archives cells w) s ≡ 21
    → First (not_removed archives.bytes cells (view_in s.table)) w.entries (call_refusal (archive_next archives cells w) s).place
pass-place archives cells w s = pass-at archives cells (view_in s.table) w

-- ---- collection: 1 of the link's own, then at the first symbol without a mark; 2 at 0

module _ (l : Link) (x : Collection.Lists) (symbols sections : List ℕ) (entry : Option SymbolId) (work : List ℕ) where
  abbrev lent_all : Lent
  lent_all = Collection.lent_of (length x.bytes) (length x.names) (length symbols) (length sections) (length x.lists)

  abbrev said_by : Collection.Left → Refusal
  said_by o = refused o.said.number o.said.place

  collect-own : (change_of l lent_all).number ≢ 0 → said_by (run_of l x symbols sections entry work) ≡ change_of l lent_all
  unfolding run_of Collection.judge_of
  collect-own u = rw (ne_eqb _ _ u, ne_eqb _ _ u)

  abbrev Short : Refusal → Type 0
  Short r = (r.number ≡ 1 → (length x.marks < l.symbols) × (r.place ≡ length x.marks)) × (r.number ≡ 2 → r.place ≡ 0)

  cells-short : Short (judge_cells l (length x.marks) (length work))
  unfolding judge_cells
  cells-short =
      pick Short (ltb (length x.marks) l.symbols) _ _ (λ a. (λ e. (ltb-true _ _ a, refl), λ e. differ 1 2 refl e))
      (λ a.
      pick Short (ltb (length work / 2) l.sections) _ _ (λ b. (λ e. differ 2 1 refl e, λ e. refl)) (λ b. (λ e. differ 0 1 refl e, λ e. refl)))

  collect-short : (change_of l lent_all).number ≡ 0 → Short (said_by (run_of l x symbols sections entry work))
  unfolding run_of collect_of finished sweep_of purge_of Collection.judge_of
  collect-short z =
      pick (λ (o : Collection.Left). Short (said_by o)) (eqb (judged l x symbols sections work).number 0) _ _ (λ a. go w.visitor.unbuilt)
      (λ a. rw (eq-eqb _ _ z) cells-short)
    where
      w : Reach.Walk
      w = Reach.walked l x.bytes x.names symbols sections x.lists x.marks entry work

      go : (u : Option SectionId) → Short (said_by (finish_of l symbols sections w.work u))
      go None = (λ e. differ 0 1 refl e, λ e. refl)
      go (Some id) = (λ e. differ 21 1 refl e, λ e. differ 21 2 refl e)

  collect-said : (run_of l x symbols sections entry work).said ≡ Collection.said_of (run_of l x symbols sections entry work).answer
  unfolding run_of collect_of finished sweep_of purge_of
  collect-said =
      pick (λ (o : Collection.Left). o.said ≡ Collection.said_of o.answer) (eqb (judged l x symbols sections work).number 0) _ _
      (λ a. end w.visitor.unbuilt) (λ a. refl)
    where
      w : Reach.Walk
      w = Reach.walked l x.bytes x.names symbols sections x.lists x.marks entry work

      end : (u : Option SectionId) → (finish_of l symbols sections w.work u).said ≡ Collection.said_of (finish_of l symbols sections w.work u).answer
      end None = refl
      end (Some id) = refl

  collect-lowest : (a : Result Dropped Refusal) → (run_of l x symbols sections entry work).answer ≡ a → Collection.number_of a ≡ 21
      → DemandLaws.Lowest l x symbols sections entry work (Collection.place_of a)
  collect-lowest (Ok d) e q = differ 0 21 refl q
  collect-lowest (Err r) e q =
      DemandLaws.refuses l x symbols sections entry work r.place (e ∙ ap (λ (n : ℕ). Err (refused n r.place)) q)

module _ (marks : List ℕ) (entry : Option SymbolId) (work : List ℕ) (s : Linked) where
  -- "the section's for collection": the lowest that is reached but not built
  pub collect-section-place : call_number (collect marks entry work) s ≡ 21
      → DemandLaws.Lowest s.table.link (lists_in s marks) s.table.symbols s.table.sections entry work (call_refusal (collect marks entry work) s).place
  collect-section-place e =
      let said = collect-said s.table.link (lists_in s marks) s.table.symbols s.table.sections entry work in
      subst (DemandLaws.Lowest s.table.link (lists_in s marks) s.table.symbols s.table.sections entry work)
      (sym (ap (λ (x : Collection.Said). x.place) said))
      (collect-lowest s.table.link (lists_in s marks) s.table.symbols s.table.sections entry work _ refl
      (sym (ap (λ (x : Collection.Said). x.number) said) ∙ e))

  pub collect-link-place : (change_of s.table.link (collect_lent s)).number ≢ 0
      → call_refusal (collect marks entry work) s ≡ change_of s.table.link (collect_lent s)
  collect-link-place u = collect-own s.table.link (lists_in s marks) s.table.symbols s.table.sections entry work u

  pub collect-marks-place : (change_of s.table.link (collect_lent s)).number ≡ 0 → call_number (collect marks entry work) s ≡ 1
      → (length marks < s.table.link.symbols) × ((call_refusal (collect marks entry work) s).place ≡ length marks)
  collect-marks-place z = (collect-short s.table.link (lists_in s marks) s.table.symbols s.table.sections entry work z).0

  pub collect-work-place : call_number (collect marks entry work) s ≡ 2 → (call_refusal (collect marks entry work) s).place ≡ 0
  collect-work-place e =
      by-test (eqb (change_of s.table.link (collect_lent s)).number 0)
      (λ a. (collect-short s.table.link (lists_in s marks) s.table.symbols s.table.sections entry work (eqb-true _ _ a)).1 e)
      (λ a.
      absurd (changed (λ (r : Refusal). r.number ≢ 2) (λ q. differ 22 2 refl q) (λ k q. differ 1 2 refl q) (λ q. differ 0 2 refl q) s.table.link (collect_lent s)
      (sym (ap (λ (r : Refusal). r.number) (collect-link-place (eqb-false _ _ a))) ∙ e)))

-- ---- groups: 4 to 7 at the group's section

module _ (o : Group.Object) (t : State) (work : List ℕ) (n : ℕ) where
  abbrev at : Group.State
  at = group_in t work

  answered-said : (x : Stage) → x.number ≢ 0 → Link.refusal_in (answer_of x).answer ≡ refused x.number x.place
  unfolding answer_of
  answered-said x u = rw (ne_eqb _ _ u)

  answered-zero : (x : Stage) → x.number ≡ 0 → (Link.refusal_in (answer_of x).answer).number ≡ 0
  unfolding answer_of
  answered-zero x z = rw (eq-eqb _ _ z)

  group-head : (AddGroup.head_in o at n).number ≢ 0 → (add_group_of o at n).said ≡ AddGroup.head_in o at n
  unfolding add_group_of
  group-head u = rw (ne_eqb _ _ u)

  group-past : (AddGroup.head_in o at n).number ≡ 0 → (add_group_of o at n).said ≡ Link.refusal_in (answer_of (group_of (loaded_in o) at n).stage).answer
  unfolding add_group_of
  group-past z = rw (eq-eqb _ _ z)

  -- past the head
  record Sectioned : Type 0 where
    number : one_of (add_group_of o at n).said.number group_numbers ≡ true
    place : (add_group_of o at n).said.place ≡ n

  group-element : (AddGroup.head_in o at n).number ≡ 0 → (add_group_of o at n).said.number ≢ 0 → Sectioned
  group-element z u =
      let same : group_section_of (loaded_in o) (go at) n ≡ group_of (loaded_in o) at n = section-is o t work n (head-loaded o t work n z) in
      let v : (group_of (loaded_in o) at n).stage.number ≢ 0 = λ y. u (ap (λ (r : Refusal). r.number) (group-past z) ∙ answered-zero (group_of (loaded_in o) at n).stage y) in
      let said = group-past z ∙ answered-said (group_of (loaded_in o) at n).stage v in
      let e = group-left (loaded_in o) (go at) n refl (λ y. v (sym (ap (λ (g : Group.Step). g.stage.number) same) ∙ y)) in
      record {
        number =
            ap (λ (r : Refusal). one_of r.number group_numbers) said
            ∙ sym (ap (λ (g : Group.Step). one_of g.stage.number group_numbers) same) ∙ e.number;
        place = ap (λ (r : Refusal). r.place) said ∙ ap (λ (g : Group.Step). g.stage.place) (sym same ∙ e.as_it_was);
      }

  -- a number that no section gives is the head's
  pub group-of-head : (m : ℕ) → one_of m (0 ∷ group_numbers) ≡ false → (add_group_of o at n).said.number ≡ m → (add_group_of o at n).said ≡ AddGroup.head_in o at n
  group-of-head m d e =
      by-test (eqb (AddGroup.head_in o at n).number 0)
      (λ a.
      by-test (eqb (add_group_of o at n).said.number 0) (λ b. absurd (none (rw b)))
      (λ b. absurd (none (rw (b, (group-element (eqb-true _ _ a) (eqb-false _ _ b)).number)))))
      (λ a. group-head (eqb-false _ _ a))
    where
      none : one_of (add_group_of o at n).said.number (0 ∷ group_numbers) ≡ true → ⊥
      none h = false≢true (sym d ∙ ap (λ (k : ℕ). one_of k (0 ∷ group_numbers)) (sym e) ∙ h)

  head-four : one_of (AddGroup.head_in o at n).number group_causes ≡ false
  unfolding AddGroup.check_of AddGroup.rows_refusal AddGroup.marks_refusal
  head-four =
      pick P (eqb (change_of t.link (AddGroup.lent at)).number 0) _ _
      (λ a.
      pick P (eqb (Elf.judge_of o.headers o.entries (length o.contents) (length o.image)).number 0) _ _
      (λ b.
      pick P (is_loaded o.headers n 7) _ _ (λ c. pick P (ltb (length work / 8) (rows_in o.headers)) _ _ (λ d. refl) (λ d. refl)) (λ c. refl))
      (λ b. elf-gives P (λ k. refl) refl o.headers o.entries (length o.contents) (length o.image)))
      (λ a. changed P refl (λ k. refl) refl t.link (AddGroup.lent at))
    where
      P : Refusal → Type 0
      P r = one_of r.number group_causes ≡ false

  group_at : one_of (add_group_of o at n).said.number group_causes ≡ true → (add_group_of o at n).said.place ≡ n
  group_at h =
      by-test (eqb (AddGroup.head_in o at n).number 0)
      (λ a. (group-element (eqb-true _ _ a) (λ z. false≢true (ap (λ (k : ℕ). one_of k group_causes) (sym z) ∙ h))).place)
      (λ a. absurd (false≢true (sym head-four ∙ sym (ap (λ (r : Refusal). one_of r.number group_causes) (group-head (eqb-false _ _ a))) ∙ h)))

pub group-place : (o : Group.Object) (work : List ℕ) (n : ℕ) (s : Linked) → one_of (call_number (add_group o work n) s) group_causes ≡ true
    → (call_refusal (add_group o work n) s).place ≡ n
group-place o work n s = group_at o s.table work n

-- and 2 for its name or its mark
pub group-element-place : (o : Group.Object) (work : List ℕ) (n : ℕ) (s : Linked) → (AddGroup.head_in o (group_in s.table work) n).number ≡ 0
    → call_number (add_group o work n) s ≢ 0 → (call_refusal (add_group o work n) s).place ≡ n
group-element-place o work n s z u = (group-element o s.table work n z u).place
