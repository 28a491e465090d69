-- What a merge's stages leave for those after them, said of the object: the work rows of every section number that a rule asks for.
-- Assumes nothing.
use Rattle.std.specs.Prelude.{ℕ, zero, suc, ◌+◌, ◌*◌, ◌/◌, ◌<◌, ◌≤◌, ◌≡◌, refl, Bool, true, false, cond, not, ◌&&◌, List, eqb, ltb, get_or, take, drop, length}
use Rattle.std.proofs.Common.{arith, sym, ap, ◌∙◌, length-take, length-drop, get_or-take, get_or-drop, ltb-true, ltb-false, lt-ltb, le-ltb}
use Rattle.cells.specs.Proof.Split.{by-test}
use Rattle.elf_object.specs.Rows as Elf
use Rattle.merge_sections.specs.Notes.{note_tables_of}
use Rattle.merge_stages.specs.Stages.{All, Object, Tabled, tabled}
use Rattle.symbol_laws.specs.History.{State}
use Rattle.merge_laws.specs.Marked.{Marked}
use Rattle.merge_laws.specs.Whole.{table_in}
use Rattle.merge_laws.specs.MergeSteps.{reserve_first}
use Rattle.merge_laws.specs.Stops.{reserved, object, prepared, grouped, marked}
use Rattle.link_laws.specs.TableRules.{conversion_in}
use Rattle.link_laws.specs.ObjectRules.{cell_at, is_kind, is_section}
use Rattle.link_laws.specs.MergeRules.{Found, absent, found, last_in, number_in, loaded_table, entries_in, loaded, is_removed, conversion_of, table_of}
use Rattle.link_laws.proofs.MergeExactly.{found_in}
use Rattle.merge_laws.proofs.WorkNotes.{Noted, all_noted, Cleared, all-cleared}
use Rattle.link_laws.proofs.MergeReading.{Placed, none-placed, all_placed, table, conversions, last_found}
use Rattle.link_laws.proofs.MergeMarks.{Marks, all-marks}

-- ---- the loaded table

abbrev tabled_by : Object → Found → Tabled
tabled_by o f =
    record {
      headers = o.headers;
      entries = entries_in o.headers o.entries f;
      contents = o.contents;
      image = o.image;
      section_names = o.section_names;
      table = number_in f;
    }

tabled-is : (o : Object) (c : ℕ) → tabled o c ≡ tabled_by o (found_in c)
unfolding Elf.table_entries Elf.entries_from Elf.section_of
tabled-is o c = by-test (eqb c 0) (λ e. rw e) (λ e. rw e)

-- an entry of a part of a list is one of the list
module _ (entries : List ℕ) (from count i : ℕ) where
  abbrev part : List ℕ
  part = take (count * 8) (drop (from * 8) entries)

  short : length part ≤ count * 8
  short = rw (length-take (count * 8) (drop (from * 8) entries)) (omega arith)

  part-entry : i < length part / 8 → (from + i < length entries / 8) × (cell_at part i 4 ≡ cell_at entries (from + i) 4)
  part-entry l =
      let e : from * 8 + (i * 8 + 4) ≡ (from + i) * 8 + 4 = omega arith in (
        omega (arith, l, rest),
        get_or-take (count * 8) (drop (from * 8) entries) (i * 8 + 4) 0 (omega (arith, short, l)) ∙ get_or-drop (from * 8) entries (i * 8 + 4) 0 ∙ ap (λ (k : ℕ). get_or entries k 0) e,
      )
    where
      rest : length part + from * 8 ≤ length entries
      rest = rw (length-take (count * 8) (drop (from * 8) entries), length-drop (from * 8) entries) (omega (arith, l, length-take (count * 8) (drop (from * 8) entries), length-drop (from * 8) entries))

module _ (o : Object) (a : All) (few : length o.headers / 8 ≤ 65280) (lent : length o.headers / 8 ≤ length a.work / 8) (passed : (reserved o a).reserved.number ≡ 0) where
  abbrev rows : ℕ
  rows = length o.headers / 8

  abbrev t : State
  t = table_in a

  abbrev d : Tabled
  d = loaded o

  placed : Placed o.headers a.stage.link.sections (length a.work) a.stage.link.slots (length a.sections) (reserved o a) rows
  placed =
      all_placed o.headers a.stage.link.sections (length a.work) a.stage.link.slots (length a.sections) (reserve_first a) few
      (none-placed o.headers _ _ _ _ (reserve_first a) refl refl refl refl refl lent) passed

  pub object-is : object o a ≡ loaded o
  object-is = tabled-is o (reserved o a).reserved.table ∙ ap (tabled_by o) (table o.headers a.stage.link.sections (length a.work) a.stage.link.slots (length a.sections) (reserved o a) rows placed (omega arith))

  -- ---- before the groups

  abbrev sectioned : List ℕ
  sectioned = (reserved o a).work

  abbrev tables : List ℕ
  tables = note_tables_of o.headers sectioned

  noted : Noted o.headers few sectioned (omega (arith, lent, placed.work-long)) tables rows
  noted = all_noted o.headers few sectioned (omega (arith, lent, placed.work-long)) (λ m l. placed.noted.clean m 2 l (omega arith) (omega arith))

  cleared : Cleared rows o.entries tables (prepared o a).work (length o.entries / 8)
  cleared = all-cleared rows o.entries tables

  -- the numbers that a rule asks for: the object's sections, and those that its symbols name
  pub data Asked (s : ℕ) : Type 0 where
    section : s < rows → Asked s
    named : (j : ℕ) → j < length o.entries / 8 → cell_at o.entries j 4 ≡ s → Asked s

  by-section : {P : Type 0} (s : ℕ) → Asked s → (s < rows → P) → ((f : ℕ) → rows ≤ s → ((f : ℕ) → f < 8 → cell_at (prepared o a).work s f ≡ 0) → P) → P
  by-section s (section l) f g = f l
  by-section s (named j l e) f g =
      by-test (ltb s rows) (λ b. f (ltb-true _ _ b))
      (λ b.
      let p : rows ≤ s = ltb-false _ _ b in
      g 0 p (λ c q. ap (λ (x : ℕ). cell_at (prepared o a).work x c) (sym e) ∙ cleared.none j c l q (omega (arith, p, e))))

  before-conversion : (s : ℕ) → Asked s → conversion_in (cell_at (prepared o a).work s 0) ≡ conversion_of d t s
  before-conversion s k =
      by-section s k
      (λ l.
      ap conversion_in (cleared.others s 0 l (omega arith) ∙ noted.others s 0 (omega arith) (λ q. omega arith)) ∙ conversions o.headers a.stage.link.sections (length a.work) a.stage.link.slots (length a.sections) (reserved o a) rows placed (omega arith) s l
      ∙ rw (lt-ltb s rows l))
      (λ f p z. ap conversion_in (z 0 (omega arith)) ∙ rw (le-ltb s rows p))

  before-mark : (s : ℕ) → Asked s → cell_at (prepared o a).work s 1 ≡ 0
  before-mark s k =
      by-section s k
      (λ l. cleared.others s 1 l (omega arith) ∙ noted.others s 1 (omega arith) (λ q. omega arith) ∙ placed.noted.clean s 1 l (omega arith) (omega arith))
      (λ f p z. z 1 (omega arith))

  -- no group lists a section before the groups
  pub before-listed : (n : ℕ) → n < rows → cell_at (prepared o a).work n 3 ≡ 0
  before-listed n l =
      cleared.others n 3 l (omega arith) ∙ noted.others n 3 (omega arith) (λ q. omega arith) ∙ placed.noted.clean n 3 l (omega arith) (omega arith)

  before-table : (n : ℕ) → n < rows → found_in (cell_at (prepared o a).work n 2) ≡ table_of d t n
  before-table n l = ap found_in (cleared.others n 2 l (omega arith) ∙ noted.tables n l) ∙ last_found o.headers few n rows (omega arith)

  pub long : length (prepared o a).work ≡ length a.work
  long = cleared.long ∙ noted.long ∙ placed.work-long

  -- ---- after them

  module _ (met : List (List ℕ)) (m : Marked t met) (grouped-on : (grouped o a).stage.number ≡ 0) where
    abbrev work : List ℕ
    work = (marked o a).work

    marks : Marks o a met m grouped-on work rows
    marks = all-marks o a met m grouped-on (omega (arith, lent, long))

    pub conversion-is : (s : ℕ) → Asked s → conversion_in (cell_at work s 0) ≡ conversion_of d t s
    conversion-is s k = ap conversion_in (marks.others s 0 (omega arith) (λ q. omega arith) (λ q. omega arith)) ∙ before-conversion s k

    pub table_is : (n : ℕ) → n < rows → found_in (cell_at work n 2) ≡ table_of d t n
    table_is n l = ap found_in (marks.others n 2 (omega arith) (λ q. omega arith) (λ q. omega arith)) ∙ before-table n l

    mark-is : (s : ℕ) → Asked s → cell_at work s 1 ≡ cond (is_removed d t s) 2 (cond (is_section o.headers s 7) 1 0)
    mark-is s k =
        marks.marks s (before-mark s k)
        ∙ ap (λ (x : Tabled). cond (is_removed x t s) 2 (cond (ltb s rows && is_section o.headers s 7) 1 0)) object-is
        ∙ ap (λ (b : Bool). cond (is_removed d t s) 2 (cond b 1 0)) (inside (ltb s rows) (is_kind o.headers s 7))
      where
        inside : (b k : Bool) → b && (b && k) ≡ b && k
        inside true k = refl
        inside false k = refl

    pub removed-is : (s : ℕ) → Asked s → eqb (cell_at work s 1) 2 ≡ is_removed d t s
    removed-is s k = ap (λ (x : ℕ). eqb x 2) (mark-is s k) ∙ two (is_removed d t s) (is_section o.headers s 7)
      where
        two : (r c : Bool) → eqb (cond r 2 (cond c 1 0)) 2 ≡ r
        two true c = refl
        two false true = refl
        two false false = refl

    pub defines-is : (s : ℕ) → Asked s → eqb (cell_at work s 1) 1 ≡ is_section o.headers s 7 && not (is_removed d t s)
    defines-is s k = ap (λ (x : ℕ). eqb x 1) (mark-is s k) ∙ one (is_removed d t s) (is_section o.headers s 7)
      where
        one : (r c : Bool) → eqb (cond r 2 (cond c 1 0)) 1 ≡ c && not r
        one true true = refl
        one true false = refl
        one false true = refl
        one false false = refl

  -- ---- a symbol of the loaded table

  pub entry-asked : (i : ℕ) → i < length d.entries / 8 → Asked (cell_at d.entries i 4)
  entry-asked i = go (loaded_table o.headers)
    where
      go : (f : Found) → i < length (entries_in o.headers o.entries f) / 8 → Asked (cell_at (entries_in o.headers o.entries f) i 4)
      go absent l = absurd (omega arith)
      go (found n) l = let p = part-entry o.entries (cell_at o.headers n 5) (cell_at o.headers n 6) i l in named (cell_at o.headers n 5 + i) p.0 (sym p.1)

  last-below : (test : ℕ → Bool) (n m : ℕ) → last_in test n ≡ found m → m < n
  last-below test zero m e = absurd (apart e)
    where
      apart : absent ≡ found m → ⊥
      apart q = let z : ◌≡◌ {A = ℕ} 0 1 = cc in omega arith
  last-below test (suc n) m e =
      by-test (test n) (λ b. let q : n ≡ m = ap number_in (rw b at e) in omega arith) (λ b. let h = last-below test n m (rw b at e) in omega arith)

  -- there is a table, so there is a section
  pub zero-asked : (i : ℕ) → i < length d.entries / 8 → Asked 0
  zero-asked i l = go (loaded_table o.headers) refl l
    where
      go : (f : Found) → loaded_table o.headers ≡ f → i < length (entries_in o.headers o.entries f) / 8 → Asked 0
      go absent e l = absurd (omega arith)
      go (found n) e l = section (let h = last-below (λ n. is_kind o.headers n 3) rows n e in omega arith)
