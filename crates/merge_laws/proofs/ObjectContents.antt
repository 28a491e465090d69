-- What an object's symbol says of the row that its add makes, in document 01's words: type, weak and hidden, and the value through the object's own sections.
-- Assumes nothing.
use Prim.Native.Nat.{ℕ, ◌+◌, ◌-◌, ◌*◌, ◌/◌, ◌<◌, ◌≤◌}
use Rattle.std.specs.Int.{is_power_of_two}
use native.Mathlib.Omega.{arith}
use Rattle.std.proofs.Math.Path.{◌≡◌, sym, ap}
use Rattle.std.specs.Prelude.{refl, Bool, not, ◌&&◌, ◌≢◌, ℤ, eqb, ltb, get_or, length, take, drop}
use Rattle.std.proofs.Common.{◌∙◌, subst, length-take, length-drop, get_or-take, get_or-drop}
use Rattle.std.proofs.Math.Bool.{true, false, cond}
use Rattle.std.proofs.lemmas.Bool.{false≢true}
use mathlib.Core.List.{List}
use borrow.Author.Tests.{eqb-true, eqb-false, eq-eqb, ltb-true, ltb-false, lt-ltb, ne_eqb}
use Rattle.cells.specs.Proof.Split.{by-test}
use Rattle.gabi.specs.SymbolTable.{stb_local, stb_weak, shn_undef, shn_loreserve, shn_common}
use Rattle.interner.specs.Names.{store_of, fits_of}
use Rattle.symbol.specs.declared.Row.{Row}
use Rattle.symbol.specs.declared.Words.{Words}
use Rattle.symbol.specs.declared.SymbolVisibility.TheVariants.{Local}
use Rattle.symbol.specs.declared.SymbolValue.{SymbolValue}
use Rattle.symbol.specs.declared.SymbolValue.TheVariants as Val
use Rattle.symbol.specs.Codes.{visibility_at, value_at, successor}
use Rattle.symbol.specs.Layout.{refuses_scope, refuses_value}
use Rattle.symbol.specs.Row.{scope_refused, value_refused}
use Rattle.symbol_resolution.specs.Decide.{refusal_of}
use Rattle.symbol_resolution.specs.Holder.{holder_of}
use Rattle.upcoming_symbol.specs.Upcoming.{in_section, conversion_from, converted_of, undefined_of, common_of, common_by_binding, value_of, elf_row_of}
use Rattle.upcoming_symbol.specs.Judge.{shown_of, hidden_of, judge_of}
use Rattle.elf_object.specs.Rows as Elf
use Rattle.elf_object.specs.Rows.{rows_in, field, conversion_at, mark_at, table_entries, entries_from, section_of}
use Rattle.section_groups.specs.Filter.{section_after, discarded_at}
use Rattle.merge_sections.specs.Reserve.{class_of, conversion_of}
use Rattle.merge_symbols.specs.Plan.{input_of, is_first, defines_of, rule_of, judged_of, rowed_of, read_of, planned_of, filtered_at}
use Rattle.merge_symbols.specs.Stage as Symbols
use Rattle.merge_stages.specs.Stages.{All, Object}
use Rattle.merge_elf.specs.Merge.{head_in}
use Rattle.symbol_laws.specs.ObjectWords.{sections_in, is_excluded, loaded_as, group, entry}
use Rattle.symbol_laws.proofs.Alignment.{power-alignment}
use Rattle.symbol_laws.specs.ContentWords.{IsOffset}
use Rattle.symbol_laws.proofs.ContentWords.{type-is, offset-is, shown-is, admitted-is, decided-passes}
use Rattle.merge_laws.specs.MergeWords.{is_rowed, rowed_below, symbols_of, is_removed, is_lost}
use Rattle.merge_laws.specs.MergeSteps.{adds_of, adds}
use Rattle.merge_laws.specs.Marked.{Marked}
use Rattle.merge_laws.proofs.Placed.{few}
use Rattle.merge_laws.specs.SymbolIds.{is_dropped, name_of, plan_of}
use Rattle.merge_laws.proofs.SymbolIds.{commit-number}
use Rattle.merge_laws.specs.SymbolDuplicates.{row_to}
use Rattle.merge_laws.specs.Whole.{table_in}
use Rattle.merge_laws.specs.Stops.{reserved, object, grouped, marked, symbol_reader, symbols_to}
use Rattle.merge_laws.proofs.WorkRows.{class-rowed, next-is}
use Rattle.merge_laws.proofs.WorkGroups.{noted, few-rows, symbols-are, names-are, conversion-is, conversion-none, mark-is, clean-section, clean-past}
use Rattle.merge_laws.proofs.Built.{rowed-own, reserve-full}
use Rattle.merge_laws.specs.ObjectContents.{is_discarded, name_bytes, IsValue, absolute, common, discarded, undefined, unloaded, whole, within, Content, LocalContent, IsUndefined, nowhere, repeated, IsNull}

-- ---- the words

local-shown : visibility_at 0 ≡ Local
unfolding visibility_at
local-shown = refl

-- a row is local just if its symbol's binding is, where its visibility passes
local-is : (b v : ℕ) → judge_of b v ≡ 0 → b ≡ stb_local
unfolding judge_of shown_of hidden_of
local-is b v e =
    by-test (eqb b 0) (λ a. eqb-true _ _ a)
    (λ a.
    by-test (eqb v 0)
    (λ c.
    by-test (eqb b 1) (λ d. let z : ◌≡◌ {A = ℕ} 1 0 = rw (c, a, d) at e in absurd (omega arith))
    (λ d.
    by-test (eqb b 2) (λ f. let z : ◌≡◌ {A = ℕ} 3 0 = rw (c, a, d, f) at e in absurd (omega arith))
    (λ f. let z : ◌≡◌ {A = ℕ} 12 0 = rw (c, a, d, f) at e in absurd (omega arith))))
    (λ c.
    by-test (eqb v 2)
    (λ g.
    by-test (eqb b 1) (λ d. let z : ◌≡◌ {A = ℕ} 2 0 = rw (c, g, a, d) at e in absurd (omega arith))
    (λ d.
    by-test (eqb b 2) (λ f. let z : ◌≡◌ {A = ℕ} 4 0 = rw (c, g, a, d, f) at e in absurd (omega arith))
    (λ f. let z : ◌≡◌ {A = ℕ} 12 0 = rw (c, g, a, d, f) at e in absurd (omega arith))))
    (λ g. let z : ◌≡◌ {A = ℕ} 10 0 = rw (c, g) at e in absurd (omega arith))))

local-code : (b v : ℕ) → b ≡ stb_local → refuses_scope (judge_of b v) ≡ false → judge_of b v ≡ 0
unfolding judge_of shown_of hidden_of
local-code b v e p =
    by-test (eqb v 0) (λ c. rw (c, e)) (λ c. by-test (eqb v 2) (λ g. absurd (false≢true (sym (rw (c, g, e) at p)))) (λ g. absurd (false≢true (sym (rw (c, g) at p)))))

-- ---- an entry of the loaded table is one of the object's

part_field : (entries : List ℕ) (f c i : ℕ) → i < length (take (c * 8) (drop (f * 8) entries)) / 8
    → (f + i < rows_in entries) × (field (take (c * 8) (drop (f * 8) entries)) i 4 ≡ field entries (f + i) 4)
part_field entries f c i h =
    let l : length (take (c * 8) (drop (f * 8) entries)) ≤ length (drop (f * 8) entries) = rw (length-take (c * 8) (drop (f * 8) entries)) (omega arith) in
    let k : i * 8 + 4 < c * 8 = short in
    let e : f * 8 + (i * 8 + 4) ≡ (f + i) * 8 + 4 = omega arith in
    (omega (arith, length-drop (f * 8) entries), get_or-take (c * 8) (drop (f * 8) entries) (i * 8 + 4) 0 k ∙ get_or-drop (f * 8) entries (i * 8 + 4) 0 ∙ ap (λ (n : ℕ). get_or entries n 0) e)
  where
    short : i * 8 + 4 < c * 8
    short = omega (arith, length-take (c * 8) (drop (f * 8) entries))

entry_in : (headers entries : List ℕ) (t i : ℕ) → i < rows_in (table_entries headers entries t) → (j : ℕ) × (j < rows_in entries) × (field entries j 4 ≡ field (table_entries headers entries t) i 4)
unfolding table_entries entries_from
entry_in headers entries t i h =
    by-test (eqb t 0) (λ a. let z : i < 0 = rw a at h in absurd (omega arith))
    (λ a.
    let f : ℕ = Elf.first_at headers (section_of t) in
    let c : ℕ = Elf.count_at headers (section_of t) in
    let (p, q) = part_field entries f c i (rw a at h) in
    rw a (f + i, p, sym q))

-- ---- values, over plain variables

both : (x y : Bool) → x && y ≡ true → (x ≡ true) × (y ≡ true)
both true y q = (refl, q)
both false y q = absurd (false≢true q)

reference-value : (b : ℕ) → value_at (undefined_of b) ≡ Val.Undefined (eqb b stb_weak)
unfolding undefined_of value_at
reference-value b = by-test (eqb b 2) (λ a. rw a) (λ a. rw a)

-- in a section with a row
section-value : (id v : ℕ) (empty : Bool) → (P : SymbolValue → Type 0) → (empty && eqb v 0 ≡ true → P (Val.Section (record { 0 = id })))
    → (empty && eqb v 0 ≡ false → (z : ℤ) → IsOffset v z → P (Val.SectionRelative (record { 0 = id }) z)) → P (value_at (in_section id empty v))
unfolding in_section value_at
section-value id v true P f g = by-test (eqb v 0) (λ a. rw a (f a)) (λ a. rw a (g a _ (offset-is v)))
section-value id v false P f g = g refl _ (offset-is v)

two-more : (n : ℕ) → n < 65535 → successor (n + 1) ≡ n + 1 + 1
unfolding successor
two-more n h = rw (lt-ltb (n + 1) 0xffffffffffffffff (omega arith))

excluded-class : (headers : List ℕ) (n : ℕ) → class_of headers n ≢ 0 → is_excluded headers n ≡ false
unfolding class_of Elf.is_excluded
excluded-class headers n u = by-test (is_excluded headers n) (λ a. absurd (u (rw a))) (λ a. a)

-- ---- the symbol

module _ (o : Object) (a : All) (head : (head_in o a).number ≡ 0) (goes : (reserved o a).reserved.number ≡ 0) (passes : (grouped o a).stage.number ≡ 0)
    (met : List (List ℕ)) (known : Marked (table_in a) met) (i : ℕ) (low : i < rows_in (object o a).entries) where
  abbrev headers : List ℕ
  headers = o.headers

  abbrev rows : ℕ
  rows = sections_in headers

  abbrev t : List ℕ
  t = (object o a).entries

  abbrev work : List ℕ
  work = (marked o a).work

  abbrev sec : ℕ
  sec = field t i 4

  abbrev Value : SymbolValue → Type 0
  Value = IsValue headers o.entries o.contents o.image a.stage.link.sections met t i

  abbrev gone : Bool
  gone = is_discarded headers o.entries o.contents o.image a.stage.link.sections met t i

  mark : mark_at work sec ≡ cond gone 2 (cond (loaded_as headers sec group) 1 0)
  mark =
      let (j, h, e) = entry_in headers o.entries (reserved o a).reserved.table i low in
      by-test (ltb sec rows) (λ b. mark-is o a head goes passes met known sec (clean-section o a head goes passes met known sec (ltb-true _ _ b)))
      (λ b. mark-is o a head goes passes met known sec (clean-past o a head goes passes met known j sec h e (ltb-false _ _ b)))

  gone-mark : eqb (mark_at work sec) 2 ≡ gone
  gone-mark = ap (λ (m : ℕ). eqb m 2) mark ∙ by-test gone (λ b. rw b) (λ b. rw b (by-test (loaded_as headers sec group) (λ c. rw c) (λ c. rw c)))

  abbrev after : ℕ
  after = section_after work sec

  after-gone : ltb sec 0xff00 ≡ true → gone ≡ true → after ≡ 0
  unfolding section_after
  after-gone p q = rw (p, gone-mark, q)

  after_same : ltb sec 0xff00 && gone ≡ false → after ≡ sec
  unfolding section_after
  after_same p = by-test (ltb sec 0xff00) (λ b. rw (b, gone-mark, (rw b at p))) (λ b. rw b)

  -- the local symbol of a removed section, in words
  lost-own : discarded_at work t i ≡ eqb (field t i 1) 0 && not (eqb sec 0) && (ltb sec 0xff00 && gone)
  unfolding discarded_at section_after
  lost-own =
      by-test (eqb (field t i 1) 0)
      (λ x.
      by-test (eqb sec 0)
      (λ z.
      let e : sec ≡ 0 = eqb-true _ _ z in
      by-test (ltb sec 0xff00)
      (λ l. by-test gone (λ g. rw (x, z, l, gone-mark, g, eq-eqb 0 sec (sym e))) (λ g. rw (x, z, l, gone-mark, g, eq-eqb sec sec refl))) (λ l. rw (x, z, l, eq-eqb sec sec refl)))
      (λ z.
      let u : 0 ≢ sec = λ e. eqb-false _ _ z (sym e) in
      by-test (ltb sec 0xff00)
      (λ l. by-test gone (λ g. rw (x, z, l, gone-mark, g, ne_eqb 0 sec u)) (λ g. rw (x, z, l, gone-mark, g, eq-eqb sec sec refl))) (λ l. rw (x, z, l, eq-eqb sec sec refl))))
      (λ x. rw x)

  pub lost-is : discarded_at work t i ≡ is_lost headers o.entries o.contents o.image met i
  lost-is =
      lost-own
      ∙ ap
      (λ (l : List ℕ). eqb (entry l i).binding stb_local && not (eqb (entry l i).section shn_undef)
      && (ltb (entry l i).section shn_loreserve && is_removed headers o.entries o.contents o.image met rows (entry l i).section))
      (symbols-are o a head goes)

  abbrev empty : Bool
  empty = eqb (length (name_of (symbol_reader o a) i).name) 0

  name-is : (name_of (symbol_reader o a) i).name ≡ name_bytes headers o.entries o.contents o.image a.stage.link.sections met t i
  name-is = names-are o a head goes i (field t i 0) low

  empty-is : empty ≡ eqb (length (name_bytes headers o.entries o.contents o.image a.stage.link.sections met t i)) 0
  empty-is = ap (λ (x : List ℕ). eqb (length x) 0) name-is

  -- the number that its section's row has
  id-small : is_rowed headers sec ≡ true → sec < rows → a.stage.link.sections + rowed_below headers sec < 65535
  id-small r h =
      omega (arith, (noted o a head goes).counted, reserve-full o a head goes, few (reserved o a).reserved.link.slots, rowed-own headers sec rows r h)

  converted-value : sec ≢ shn_undef → sec ≢ shn_common → ltb sec 0xff00 && gone ≡ false → refuses_value (converted_of (conversion_from (conversion_at work sec)) empty (field t i 5)).kind ≡ false → Value (value_at (converted_of (conversion_from (conversion_at work sec)) empty (field t i 5)))
  unfolding converted_of conversion_from conversion_of value_at
  converted-value n m stays p =
      let (j, h, e) = entry_in headers o.entries (reserved o a).reserved.table i low in
      by-test (ltb sec rows)
      (λ b.
      let l : sec < rows = ltb-true _ _ b in
      let g : gone ≡ false = rw (lt-ltb sec 0xff00 (omega (arith, few-rows o a head goes))) at stays in
      let id : ℕ = a.stage.link.sections + rowed_below headers sec in
      let c : conversion_at work sec ≡ cond (eqb (class_of headers sec) 0) 0 (cond (eqb (class_of headers sec) 2) (successor (successor id)) 1) = conversion-is o a head goes sec l in
      by-test (eqb (class_of headers sec) 0) (λ k. let z : conversion_at work sec ≡ 0 = c ∙ rw k in absurd (false≢true (sym (rw z at p))))
      (λ k.
      by-test (eqb (class_of headers sec) 2)
      (λ r.
      let w : is_rowed headers sec ≡ true = sym (class-rowed headers sec l) ∙ r in
      let s : id < 65535 = id-small w l in
      let z : conversion_at work sec ≡ id + 1 + 1 = c ∙ rw (k, r) (ap successor (next-is id s) ∙ two-more id s) in
      let d : id + 1 + 1 - 2 ≡ id = omega arith in
      rw (z, ne_eqb (id + 1 + 1) 0 (λ q. omega arith), ne_eqb (id + 1 + 1) 1 (λ q. omega arith), d)
      (section-value id (field t i 5) empty Value (λ q. whole n m g w (rw (← empty-is) q)) (λ q z o. within z n m g w (rw (← empty-is) q) o)))
      (λ r.
      let z : conversion_at work sec ≡ 1 = c ∙ rw (k, r) in
      rw z (unloaded n m g b (excluded-class headers sec (eqb-false _ _ k)) (sym (class-rowed headers sec l) ∙ r)))))
      (λ b.
      let z : conversion_at work sec ≡ 0 = conversion-none o a head goes j sec h e (ltb-false _ _ b) in
      absurd (false≢true (sym (rw z at p))))

  -- the value of the row: of an entry whose section is the one that the filter leaves
  abbrev words : Words
  words = value_of (conversion_from (conversion_at work after)) (filtered_at t work i) empty

  value-is : refuses_value words.kind ≡ false → Value (value_at words)
  unfolding value_of common_by_binding common_of value_at
  value-is p =
      by-test (ltb sec 0xff00 && gone)
      (λ b.
      let (u, v) = both (ltb sec 0xff00) gone b in
      let z : after ≡ 0 = after-gone u v in
      rw (z, reference-value (field t i 1)) (discarded (ltb-true _ _ u) v))
      (λ b.
      let z : after ≡ sec = after_same b in
      rw z
      (by-test (eqb sec 0) (λ c. rw (c, reference-value (field t i 1)) (undefined (eqb-true _ _ c)))
      (λ c.
      by-test (eqb sec 0xfff1) (λ d. rw (c, d) (absolute (eqb-true _ _ d)))
      (λ d.
      by-test (eqb sec 0xfff2)
      (λ f.
      by-test (eqb (field t i 1) 0) (λ g. absurd (false≢true (sym (rw (z, c, d, f, g) at p))))
      (λ g.
      by-test (is_power_of_two (field t i 5))
      (λ h. rw (c, d, f, g, h) (common (eqb-true _ _ f) (eqb-false _ _ g) (λ w. power-alignment (field t i 5) w h)))
      (λ h. absurd (false≢true (sym (rw (z, c, d, f, g, h) at p))))))
      (λ f. rw (c, d, f) (converted-value (eqb-false _ _ c) (eqb-false _ _ f) b (rw (z, c, d, f) at p)))))))

  after-zero : after ≡ 0 → IsUndefined headers o.entries o.contents o.image a.stage.link.sections met t i
  after-zero e =
      by-test (ltb sec 0xff00 && gone) (λ b. let (u, v) = both (ltb sec 0xff00) gone b in repeated (ltb-true _ _ u) v) (λ b. nowhere (sym (after_same b) ∙ e))

  null-own : is_first i empty (filtered_at t work i) ≡ true → IsNull headers o.entries o.contents o.image a.stage.link.sections met t i
  unfolding is_first
  null-own e =
      by-test (eqb i 0)
      (λ b.
      by-test (eqb after 0)
      (λ c.
      by-test (eqb (field t i 2) 0)
      (λ d.
      record {
        first = eqb-true _ _ b;
        bare = eqb-true _ _ (sym empty-is ∙ rw (b, c, d) at e);
        type = eqb-true _ _ d;
        undefined = after-zero (eqb-true _ _ c);
      })
      (λ d. absurd (false≢true (rw (b, c, d) at e))))
      (λ c. absurd (false≢true (rw (b, c) at e))))
      (λ b. absurd (false≢true (rw b at e)))

  -- the first symbol, of the object's own table
  pub null_is : is_first i empty (filtered_at t work i) ≡ true
      → IsNull headers o.entries o.contents o.image a.stage.link.sections met (symbols_of headers o.entries o.contents o.image) i
  null_is e =
      subst (λ (l : List ℕ). IsNull headers o.entries o.contents o.image a.stage.link.sections met l i) (symbols-are o a head goes) (null-own e)

  abbrev row : Row
  row = row_to o a i

  -- accepted, and to be added
  module _ (ok : (Symbols.symbol_of (symbol_reader o a) (symbols_to o a i) i).stage.number ≡ 0) (keeps : is_dropped (symbol_reader o a) (symbols_to o a i) i ≡ false) (found : (name_of (symbol_reader o a) i).found ≡ true)
      (added : adds (input_of t work) (name_of (symbol_reader o a) i).name i ≡ true) where
    decided : refusal_of (plan_of (symbol_reader o a) (symbols_to o a i) i).decision ≡ 0
    unfolding Symbols.symbol_of Symbols.looked_of
    decided = commit-number (input_of t work) (symbols_to o a i) (name_of (symbol_reader o a) i).name i (rw (keeps, found) at ok)

    row-passes : (scope_refused row ≡ false) × (value_refused row ≡ false)
    unfolding planned_of read_of rowed_of judged_of rule_of adds_of
    row-passes =
        let s : Symbols.State = symbols_to o a i in
        let x : List ℕ = (name_of (symbol_reader o a) i).name in
        by-test (fits_of (store_of s.bytes s.names s.stage.link) row.name (length x))
        (λ f.
        by-test (is_first i (eqb (length x) 0) (filtered_at t work i)) (λ b. absurd (false≢true (rw b at added)))
        (λ b.
        by-test (eqb (filtered_at t work i).kind 4) (λ c. absurd (false≢true (rw (b, c) at added)))
        (λ c.
        by-test (defines_of work (filtered_at t work i).section) (λ d. absurd (false≢true (rw (b, c, d) at added)))
        (λ d. decided-passes s.stage.link s.symbols s.sections row (holder_of s.stage.link s.names s.symbols row.name) (rw (f, b, c, d) at decided)))))
        (λ f. let z : ◌≡◌ {A = ℕ} 2 0 = rw f at decided in absurd (omega arith))

    content-own : row.scope ≢ 0 → Content headers o.entries o.contents o.image a.stage.link.sections met t i row
    unfolding planned_of read_of rowed_of elf_row_of
    content-own global =
        let (p, q) = row-passes in
        record { passed = admitted-is (entry t i) global p; type = type-is (field t i 2); shown = shown-is (field t i 1) (field t i 3) global p; value = value-is q; size = refl }

    -- of the object's own table, and not local
    pub content : row.scope ≢ 0 → Content headers o.entries o.contents o.image a.stage.link.sections met (symbols_of headers o.entries o.contents o.image) i row
    content global = subst (λ (l : List ℕ). Content headers o.entries o.contents o.image a.stage.link.sections met l i row) (symbols-are o a head goes) (content-own global)

    local-own : row.scope ≡ 0 → LocalContent headers o.entries o.contents o.image a.stage.link.sections met t i row
    unfolding planned_of read_of rowed_of elf_row_of
    local-own z =
        let (p, q) = row-passes in
        record { bound = local-is (field t i 1) (field t i 3) z; type = type-is (field t i 2); shown = ap visibility_at z ∙ local-shown; value = value-is q; size = refl }

    -- and local
    pub local-content : row.scope ≡ 0 → LocalContent headers o.entries o.contents o.image a.stage.link.sections met (symbols_of headers o.entries o.contents o.image) i row
    local-content z = subst (λ (l : List ℕ). LocalContent headers o.entries o.contents o.image a.stage.link.sections met l i row) (symbols-are o a head goes) (local-own z)

    -- which of the two, by the binding
    pub binding-local : (entry (symbols_of headers o.entries o.contents o.image) i).binding ≡ stb_local → row.scope ≡ 0
    unfolding planned_of read_of rowed_of elf_row_of
    binding-local e =
        let (p, q) = row-passes in
        local-code (field t i 1) (field t i 3) (ap (λ (l : List ℕ). (entry l i).binding) (symbols-are o a head goes) ∙ e) p
