-- A section that is built: what its row and its list cells hold, and that later sections leave them.
-- Assumes nothing.
use Prim.Native.Nat.{ℕ, zero, suc, ◌+◌, ◌-◌, ◌*◌, ◌<◌, ◌≤◌}
use Rattle.std.proofs.Common.{arith, add-zero, sym, ◌∙◌, length-set, length-drop, get_or-set_same, get_or-set_other, length-take-le, get_or-take, get_or-drop, ext_get_or, eqb-true, ltb-false}
use Rattle.std.proofs.Math.Path.{◌≡◌, refl, ap}
use Rattle.std.proofs.Math.Bool.{true}
use Rattle.std.specs.Prelude.{false, ◌≢◌, eqb, ltb, set, drop}
use Rattle.std.proofs.lemmas.Bool.{false≢true, eqb-false}
use mathlib.Core.List.{List, [], ◌∷◌}
use Rattle.std.proofs.Math.ListN.{get_or, length}
use Rattle.cells.specs.Proof.Split.{by-test}
use Rattle.cells.specs.Proof.Rows.{length-put_row, row_same, row_other}
use Rattle.byte_slices.specs.Bytes.{part}
use Rattle.link.specs.declared.Link.{Link}
use Rattle.link.specs.declared.Interned.{Interned}
use Rattle.link.specs.Counts.{more_lists}
use Rattle.strings.specs.Lookup.{Looked}
use Rattle.interner.specs.Names.{Store, store_of, find_of, fits_of, keep_of}
use Rattle.interner_laws.specs.Good.{Good, Stays}
use Rattle.interner_laws.specs.Good as Good
use Rattle.interner_laws.proofs.Histories.{issued-stays}
use Rattle.interner_laws.proofs.Terms.{keeps-good, keeps-names, keeps-issued, same_good, same_names}
use Rattle.sections.specs.Rows as Sections
use Rattle.sections.specs.Rows.{first_at, count_at, built_of}
use Rattle.elf_object.specs.Rows.{name_offset_at, retain_at, read_at, section_size_at, name_in, conversion_at}
use Rattle.elf_object.specs.Judge.{range_ok}
use Rattle.merge_build.specs.Build.{Plan}
use Rattle.merge_build.specs.Relocations.{table_for, limit_of, relocations_of, symbols_ok, id_in, append_from}
use Rattle.merge_build.specs.Build as Build
use Rattle.merge_build.specs.Build.{State, Object, lists_fit, plan_with, plan_of, build_row_of, kept_of, commit_of, tabled_of, section_named, looked_of, built_from, section_of}
use Rattle.merge_laws.specs.Placed.{row_of}
use Rattle.merge_laws.proofs.Issue.{keep-sections}
use Rattle.merge_laws.proofs.Lists.{keep-lists}
use Rattle.merge_laws.specs.BuiltRow.{BuiltAs}

-- ---- the statement

-- ---- list cells

pub part-long : (x : List ℕ) (f c : ℕ) → f + c ≤ length x → length (part x f c) ≡ c
part-long x f c h = length-take-le c (drop f x) (omega (arith, length-drop f x))

pub part_at : (x : List ℕ) (f c i : ℕ) → i < c → get_or (part x f c) i 0 ≡ get_or x (f + i) 0
part_at x f c i h = get_or-take c (drop f x) i 0 h ∙ get_or-drop f x i 0

pub part_same : (x y : List ℕ) (f c m : ℕ) → f + c ≤ m → m ≤ length x → length y ≡ length x → ((q : ℕ) → q < m → get_or y q 0 ≡ get_or x q 0) → part y f c ≡ part x f c
part_same x y f c m h l e same =
    let a : length (part x f c) ≡ c = part-long x f c (omega arith) in
    let b : length (part y f c) ≡ c = part-long y f c (omega arith) in
    ext_get_or 0 (part y f c) (part x f c) (b ∙ sym a)
    (λ i k. part_at y f c i (omega (arith, b)) ∙ same (f + i) (omega (arith, b)) ∙ sym (part_at x f c i (omega (arith, b))))

abbrev pub ids_of : List ℕ → List ℕ → List ℕ
ids_of ids [] = []
ids_of ids (k ∷ ks) = id_in ids k ∷ ids_of ids ks

ids-long : (ids ks : List ℕ) → length (ids_of ids ks) ≡ length ks
ids-long ids [] = refl
ids-long ids (k ∷ ks) = ap suc (ids-long ids ks)

append-long : (ids ks lists : List ℕ) (at : ℕ) → length (append_from ids lists at ks) ≡ length lists
unfolding append_from
append-long ids [] lists at = refl
append-long ids (k ∷ ks) lists at = append-long ids ks (set lists at (id_in ids k)) (at + 1) ∙ length-set lists at (id_in ids k)

append-below : (ids ks lists : List ℕ) (at q : ℕ) → q < at → get_or (append_from ids lists at ks) q 0 ≡ get_or lists q 0
unfolding append_from
append-below ids [] lists at q h = refl
append-below ids (k ∷ ks) lists at q h =
    append-below ids ks (set lists at (id_in ids k)) (at + 1) q (omega arith) ∙ get_or-set_other lists at q (id_in ids k) 0 (λ e. omega arith)

append-in : (ids ks lists : List ℕ) (at i : ℕ) → i < length ks → at + length ks ≤ length lists → get_or (append_from ids lists at ks) (at + i) 0 ≡ get_or (ids_of ids ks) i 0
unfolding append_from
append-in ids [] lists at i h g = absurd (omega arith)
append-in ids (k ∷ ks) lists at zero h g =
    ap (λ (j : ℕ). get_or (append_from ids (set lists at (id_in ids k)) (at + 1) ks) j 0) (add-zero at)
    ∙ append-below ids ks (set lists at (id_in ids k)) (at + 1) at (omega arith) ∙ get_or-set_same lists at (id_in ids k) 0 (omega arith)
append-in ids (k ∷ ks) lists at (suc i) h g =
    let e : at + suc i ≡ at + 1 + i = omega arith in
    ap (λ (j : ℕ). get_or (append_from ids (set lists at (id_in ids k)) (at + 1) ks) j 0) e
    ∙ append-in ids ks (set lists at (id_in ids k)) (at + 1) i (omega arith) (omega (arith, length-set lists at (id_in ids k)))

appended : (ids ks lists : List ℕ) (at : ℕ) → at + length ks ≤ length lists → part (append_from ids lists at ks) at (length ks) ≡ ids_of ids ks
appended ids ks lists at h =
    let y : List ℕ = append_from ids lists at ks in
    let b : length (part y at (length ks)) ≡ length ks = part-long y at (length ks) (omega (arith, append-long ids ks lists at)) in
    ext_get_or 0 (part y at (length ks)) (ids_of ids ks) (b ∙ sym (ids-long ids ks))
    (λ i k. part_at y at (length ks) i (omega (arith, b)) ∙ append-in ids ks lists at i (omega (arith, b)) h)

fits-within : (used all more : ℕ) → lists_fit used all more ≡ true → used + more ≤ all
unfolding range_ok
fits-within used all more e =
    by-test (ltb all used) (λ t. absurd (false≢true (rw t at e)))
    (λ t.
    by-test (ltb (all - used) more) (λ u. absurd (false≢true (rw (t, u) at e)))
    (λ u. omega (arith, ltb-false all used t, ltb-false (all - used) more u)))

-- ---- names

abbrev pub store_in : State → Store
store_in s = store_of s.bytes s.names s.stage.link

-- another link with the same counts of names
pub relink-good : (bytes names : List ℕ) (l m : Link) → m.names ≡ l.names → m.bytes ≡ l.bytes → m.chains ≡ l.chains → m.key ≡ l.key → Good (store_of bytes names l) → Good (store_of bytes names m)
relink-good bytes names l m e f c k g =
    same_good (store_of bytes names l) g (store_of bytes names m)
    (record { bytes = refl; long = refl; cells = λ i f h g. refl; heads = λ q h g. refl; chains = c; key = k; counted = e; filled = f })

pub relink-stays : (bytes names : List ℕ) (l m : Link) → m.names ≡ l.names → m.bytes ≡ l.bytes → m.chains ≡ l.chains → m.key ≡ l.key → Good (store_of bytes names l) → Stays (store_of bytes names l) (store_of bytes names m)
relink-stays bytes names l m e f c k g =
    same_names (store_of bytes names l) g (store_of bytes names m)
    (record { bytes = refl; long = refl; cells = λ i f h g. refl; heads = λ q h g. refl; chains = c; key = k; counted = e; filled = f })

-- ---- one section

two : {P : Type 0} → ◌≡◌ {A = ℕ} 2 0 → P
two e = absurd (omega arith)

eighteen : {P : Type 0} → ◌≡◌ {A = ℕ} 18 0 → P
eighteen e = absurd (omega arith)

module _ (o : Object) (kind : ℕ) (s : State) (n : ℕ) where
  abbrev x : Looked
  x = name_in o.headers o.image o.section_names (name_offset_at o.headers n)

  abbrev relocations : List ℕ
  relocations = relocations_of o.headers o.contents (table_for o.work n kind)

  abbrev limit : ℕ
  limit = limit_of o.headers (table_for o.work n kind) o.table o.symbols

  abbrev plan : Plan
  plan = plan_of s.stage.link s.bytes s.names (length s.lists) o.ids limit relocations x.name

  abbrev own : Interned
  own = record { 0 = find_of s.bytes s.names s.stage.link x.name }

  abbrev kept : Store
  kept = keep_of (store_in s) own x.name

  plan-id : plan.id ≡ own
  unfolding plan_of plan_with
  plan-id =
      by-test (fits_of (store_in s) own (length x.name))
      (λ a. by-test (symbols_ok o.ids limit relocations) (λ b. by-test (lists_fit s.stage.link.lists (length s.lists) (length relocations)) (λ c. rw (a, b, c)) (λ c. rw (a, b, c))) (λ b. rw (a, b)))
      (λ a. rw a)

  record Planned : Type 0 where
    fits : fits_of (store_in s) own (length x.name) ≡ true
    symbols : symbols_ok o.ids limit relocations ≡ true
    lists : lists_fit s.stage.link.lists (length s.lists) (length relocations) ≡ true

  planned : plan.number ≡ 0 → Planned
  unfolding plan_of plan_with
  planned e =
      by-test (fits_of (store_in s) own (length x.name))
      (λ a.
      by-test (symbols_ok o.ids limit relocations)
      (λ b.
      by-test (lists_fit s.stage.link.lists (length s.lists) (length relocations)) (λ c. record { fits = a; symbols = b; lists = c })
      (λ c. let z : ◌≡◌ {A = ℕ} 2 0 = rw (a, b, c) at e in absurd (omega arith)))
      (λ b. let z : ◌≡◌ {A = ℕ} 19 0 = rw (a, b) at e in absurd (omega arith)))
      (λ a. let z : ◌≡◌ {A = ℕ} 2 0 = rw a at e in absurd (omega arith))

  abbrev row_cells : List ℕ
  row_cells = Sections.built_cells (Build.section_row o.headers n kind own kept.link.lists (length relocations))

  module _ (good : Good (store_in s)) where
    kept-good : Good kept
    kept-good = keeps-good (store_in s) good x.name

    kept-stays : Stays (store_in s) kept
    kept-stays = keeps-names (store_in s) good x.name own

    kept-count : kept.link.lists ≡ s.stage.link.lists
    kept-count = keep-lists (store_in s) own x.name

    -- what a section leaves: all, at most its name, or its row
    data Leaves : State → Type 0 where
      same : (t : State) → t.bytes ≡ s.bytes → t.names ≡ s.names → t.sections ≡ s.sections → t.lists ≡ s.lists → t.stage.link ≡ s.stage.link → (t.stage.number ≡ 0 → built_from o.headers o.work n kind ≡ false) → Leaves t
      name-only : (t : State) → t.bytes ≡ kept.bytes → t.names ≡ kept.names → t.sections ≡ s.sections → t.lists ≡ s.lists → t.stage.link ≡ kept.link → (t.stage.number ≡ 0 → ⊥) → Leaves t
      row : (t : State) → built_from o.headers o.work n kind ≡ true → x.found ≡ true → Planned
          → t.bytes ≡ kept.bytes → t.names ≡ kept.names → t.sections ≡ built_of s.sections (Build.section_id_of (conversion_at o.work n)) (Build.section_row o.headers n kind own kept.link.lists (length relocations))
          → t.lists ≡ append_from o.ids s.lists kept.link.lists relocations → t.stage.link ≡ more_lists kept.link (length relocations) → Leaves t

    leaves : Leaves (section_of o s n kind)
    unfolding section_of looked_of section_named tabled_of commit_of kept_of build_row_of
    leaves =
        by-test (built_from o.headers o.work n kind)
        (λ a.
        by-test x.found
        (λ b.
        by-test (eqb plan.number 2) (λ c. simp (a, b, c) (same _ refl refl refl refl refl two))
        (λ c.
        by-test (eqb plan.number 0)
        (λ d.
        let p : Planned = planned (eqb-true _ _ d) in
        let e : lists_fit kept.link.lists (length s.lists) (length relocations) ≡ true = rw kept-count p.lists in
        simp (a, b, c, d, plan-id, e) (row _ a b p refl refl refl refl refl))
        (λ d. simp (a, b, c, d, plan-id) (name-only _ refl refl refl refl refl (eqb-false _ _ d)))))
        (λ b. simp (a, b) (same _ refl refl refl refl refl eighteen)))
        (λ a. simp a (same _ refl refl refl refl refl (λ z. a)))

    -- it is built: its row and its list cells
    module _ (built : built_from o.headers o.work n kind ≡ true) (ok : (section_of o s n kind).stage.number ≡ 0)
        (room : row_of o.work n * 8 + 8 ≤ length s.sections) (low : row_of o.work n < s.stage.link.sections) where
      abbrev Built : State → Type 0
      Built t = BuiltAs t.bytes t.names t.sections t.lists t.stage.link (row_of o.work n) x.name kind (retain_at o.headers n) (read_at o.headers n) (section_size_at o.headers n) (ids_of o.ids relocations)

      row_is : Planned → (sections : List ℕ) → sections ≡ built_of s.sections (Build.section_id_of (conversion_at o.work n)) (Build.section_row o.headers n kind own kept.link.lists (length relocations))
          → (lists : List ℕ) → lists ≡ append_from o.ids s.lists kept.link.lists relocations
          → Built (Build.state_of kept.bytes kept.names sections lists (record { link = more_lists kept.link (length relocations); number = 0; place = 0 }))
      unfolding built_of
      row_is p sections e lists f =
          let r : ℕ = row_of o.work n in
          let cell : (j : ℕ) → j < 8 → Sections.field sections r j ≡ get_or row_cells j 0 = λ j h. ap (λ (l : List ℕ). Sections.field l r j) e ∙ row_same s.sections r row_cells j refl h room in
          let first : first_at sections r ≡ kept.link.lists = cell 5 (omega arith) in
          let count : count_at sections r ≡ length relocations = cell 6 (omega arith) in
          let all : kept.link.lists + length relocations ≤ length s.lists = rw kept-count (fits-within s.stage.link.lists (length s.lists) (length relocations) p.lists) in
          record {
            counted = rw (keep-sections (store_in s) own x.name) low;
            built = cell 0 (omega arith);
            named =
                rw (cell 1 (omega arith))
                (issued-stays Good.count Good.name kept _ own.0 x.name (relink-stays kept.bytes kept.names kept.link _ refl refl refl refl kept-good)
                (keeps-issued (store_in s) good x.name p.fits));
            kind-is = cell 2 (omega arith);
            retains = cell 3 (omega arith);
            reads = cell 4 (omega arith);
            sized = cell 7 (omega arith);
            inside = omega arith;
            ids-are =
                ap (λ (k : ℕ). part lists k (count_at sections r)) first ∙ ap (λ (k : ℕ). part lists kept.link.lists k) count
                ∙ ap (λ (l : List ℕ). part l kept.link.lists (length relocations)) f ∙ appended o.ids relocations s.lists kept.link.lists all;
          }

      built-by : (t : State) → t.stage.number ≡ 0 → Leaves t → Built t
      built-by t z (same _ a b c d e f) = absurd (false≢true (sym (f z) ∙ built))
      built-by t z (name-only _ a b c d e f) = absurd (f z)
      built-by t z (row _ a b p c d e f g) = rw (c, d, g) (row_is p t.sections e t.lists f)

      pub builds : Built (section_of o s n kind)
      builds = built-by (section_of o s n kind) ok leaves

      name_by : (t : State) → t.stage.number ≡ 0 → Leaves t → (x.found ≡ true) × (symbols_ok o.ids limit relocations ≡ true)
      name_by t z (same _ a b c d e f) = absurd (false≢true (sym (f z) ∙ built))
      name_by t z (name-only _ a b c d e f) = absurd (f z)
      name_by t z (row _ a b p c d e f g) = (b, p.symbols)

      -- its name is found, and each of its relocations names a symbol with an id
      pub builds-named : (x.found ≡ true) × (symbols_ok o.ids limit relocations ≡ true)
      builds-named = name_by (section_of o s n kind) ok leaves

-- ---- what each section leaves standing

-- good names, no more lists counted than lent, so many cells and so many rows of sections
pub record Stands (cells rows : ℕ) (t : State) : Type 0 where
  pub good : Good (store_in t)
  pub lent : t.stage.link.lists ≤ length t.lists
  pub long : length t.sections ≡ cells
  pub counted : t.stage.link.sections ≡ rows

module _ (o : Object) (kind : ℕ) (cells rows : ℕ) (s : State) (n : ℕ) (stands : Stands cells rows s) where
  abbrev left : State → Type 0
  left t = Leaves o kind s n stands.good t

  abbrev mine : ℕ
  mine = row_of o.work n

  stand-by : (t : State) → left t → Stands cells rows t
  unfolding built_of
  stand-by t (same _ a b c d e f) = record { good = rw (a, b, e) stands.good; lent = rw (d, e) stands.lent; long = rw c stands.long; counted = rw e stands.counted }
  stand-by t (name-only _ a b c d e f) =
      record {
        good = rw (a, b, e) (kept-good o kind s n stands.good);
        lent = rw (d, e, kept-count o kind s n stands.good) stands.lent;
        long = rw c stands.long;
        counted = rw (e, keep-sections (store_in s) (own o kind s n) (x o kind s n).name) stands.counted;
      }
  stand-by t (row _ a b p c d e f g) =
      record {
        good = rw (c, d, g) (relink-good (kept o kind s n).bytes (kept o kind s n).names (kept o kind s n).link _ refl refl refl refl (kept-good o kind s n stands.good));
        lent = rw (f, g, append-long o.ids (relocations o kind s n) s.lists (kept o kind s n).link.lists, kept-count o kind s n stands.good) (fits-within s.stage.link.lists (length s.lists) (length (relocations o kind s n)) p.lists);
        long = ap length e ∙ length-put_row s.sections mine (row_cells o kind s n) ∙ stands.long;
        counted = rw (g, keep-sections (store_in s) (own o kind s n) (x o kind s n).name) stands.counted;
      }

  pub section-stands : Stands cells rows (section_of o s n kind)
  section-stands = stand-by (section_of o s n kind) (leaves o kind s n stands.good)

  -- another row stays as it was built
  module _ (r : ℕ) (w : List ℕ) (k retain read size : ℕ) (ids : List ℕ) (apart : built_from o.headers o.work n kind ≡ true → r ≢ mine) where
    abbrev As : State → Type 0
    As t = BuiltAs t.bytes t.names t.sections t.lists t.stage.link r w k retain read size ids

    stays_by : As s → (t : State) → left t → As t
    unfolding built_of
    stays_by q t (same _ a b c d e f) = rw (a, b, c, d, e) q
    stays_by q t (name-only _ a b c d e f) =
        rw (a, b, c, d, e)
        (record {
          counted = rw (keep-sections (store_in s) (own o kind s n) (x o kind s n).name) q.counted;
          built = q.built;
          named = issued-stays Good.count Good.name (store_in s) (kept o kind s n) _ w (kept-stays o kind s n stands.good) q.named;
          kind-is = q.kind-is;
          retains = q.retains;
          reads = q.reads;
          sized = q.sized;
          inside = rw (kept-count o kind s n stands.good) q.inside;
          ids-are = q.ids-are;
        })
    stays_by q t (row _ a b p c d e f g) =
        let cell : (j : ℕ) → j < 8 → Sections.field t.sections r j ≡ Sections.field s.sections r j =
        λ j h. ap (λ (l : List ℕ). Sections.field l r j) e ∙ row_other s.sections mine (row_cells o kind s n) r j refl h (apart a) in
        let first : first_at t.sections r ≡ first_at s.sections r = cell 5 (omega arith) in
        let count : count_at t.sections r ≡ count_at s.sections r = cell 6 (omega arith) in
        let more : (kept o kind s n).link.lists ≡ s.stage.link.lists = kept-count o kind s n stands.good in
        rw (c, d, g)
        (record {
          counted = rw (keep-sections (store_in s) (own o kind s n) (x o kind s n).name) q.counted;
          built = cell 0 (omega arith) ∙ q.built;
          named =
              rw (cell 1 (omega arith))
              (issued-stays Good.count Good.name (kept o kind s n) _ _ w (relink-stays (kept o kind s n).bytes (kept o kind s n).names (kept o kind s n).link _ refl refl refl refl (kept-good o kind s n stands.good))
              (issued-stays Good.count Good.name (store_in s) (kept o kind s n) _ w (kept-stays o kind s n stands.good) q.named));
          kind-is = cell 2 (omega arith) ∙ q.kind-is;
          retains = cell 3 (omega arith) ∙ q.retains;
          reads = cell 4 (omega arith) ∙ q.reads;
          sized = cell 7 (omega arith) ∙ q.sized;
          inside = omega (arith, q.inside);
          ids-are =
              ap (λ (k : ℕ). part t.lists k (count_at t.sections r)) first ∙ ap (λ (k : ℕ). part t.lists (first_at s.sections r) k) count
              ∙ part_same s.lists t.lists (first_at s.sections r) (count_at s.sections r) s.stage.link.lists q.inside stands.lent
              (ap length f ∙ append-long o.ids (relocations o kind s n) s.lists (kept o kind s n).link.lists)
              (λ j h. ap (λ (l : List ℕ). get_or l j 0) f ∙ append-below o.ids (relocations o kind s n) s.lists (kept o kind s n).link.lists j (omega arith))
              ∙ q.ids-are;
        })

    pub section-keeps : As s → As (section_of o s n kind)
    section-keeps q = stays_by q (section_of o s n kind) (leaves o kind s n stands.good)
