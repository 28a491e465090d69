-- What a refused element of each stage leaves: all as it was, or all but its name.
-- Assumes nothing.
use Prim.Native.Nat.{ℕ, ◌/◌}
use Rattle.std.proofs.Common.{arith, sym, ap, ◌∙◌, eqb-true, ltb-false, le-leb}
use Rattle.std.specs.Prelude.{◌≡◌, Bool, false, List, [], ◌∷◌, ◌++◌, ◌≢◌, eqb, ltb, leb}
use Rattle.std.proofs.Math.Path.{refl}
use Rattle.std.proofs.Math.Bool.{true}
use Rattle.std.proofs.lemmas.Bool.{false≢true, eqb-false}
use Rattle.std.proofs.Math.ListN.{length}
use Rattle.cells.specs.Proof.Split.{by-test}
use Rattle.byte_slices.specs.Proof.Ways.{pick}
use Rattle.link.specs.declared.Link.{Link}
use Rattle.link.specs.declared.Interned.{Interned}
use Rattle.link.specs.declared.SymbolId.{SymbolId}
use Rattle.link.specs.Judge.{stopped_of}
use Rattle.strings.specs.Lookup.{Looked}
use Rattle.interner.specs.Names.{Store, store_of, find_of, fits_of, keep_of}
use Rattle.symbol.specs.declared.Row.{Row}
use Rattle.symbol.specs.declared.Words.{Words}
use Rattle.symbol.specs.Row.{scope_refused, scope_refusal, value_refused, value_refusal}
use Rattle.symbol.specs.Layout.{refuses_scope, refuses_value}
use Rattle.upcoming_symbol.specs.declared.ElfSymbol.{ElfSymbol}
use Rattle.upcoming_symbol.specs.Judge.{shown_of, hidden_of, judge_of}
use Rattle.upcoming_symbol.specs.declared.Conversion.{Conversion}
use Rattle.upcoming_symbol.specs.declared.Conversion.TheVariants as To
use Rattle.std.specs.Int.{is_power_of_two}
use Rattle.upcoming_symbol.specs.Upcoming.{in_section, conversion_from, converted_of, undefined_of, common_of, common_by_binding, value_of, elf_row_of}
use Rattle.symbol_resolution.specs.declared.rows.Holder.{Holder}
use Rattle.symbol_resolution.specs.declared.rows.Holder.TheVariants.{Nobody, Known}
use Rattle.symbol_resolution.specs.Decision.{Decision}
use Rattle.symbol_resolution.specs.Holder.{holder_of}
use Rattle.symbol_resolution.specs.Decide.{type_refusal, decide_of, refusal_of}
use Rattle.symbol_resolution.specs.Proof.Outcomes.{absent_under, is_local_row, Meets, decision-number}
use Rattle.elf_object.specs.Rows.{conversion_at, rows_in, is_loaded, comdat_at, count_at, link_at, info_at}
use Rattle.merge_sections.specs.Reserve as Reserve
use Rattle.section_groups.specs.Group as Group
use Rattle.merge_symbols.specs.Plan.{Planned}
use Rattle.merge_symbols.specs.Plan.{View, Input, is_first, defines_of, filtered_at, rule_of, judged_of, rowed_of, read_of, planned_of, place_of}
use Rattle.merge_symbols.specs.Stage as Symbols
use Rattle.merge_build.specs.Build as Build
use Rattle.merge_laws.specs.Table.{one_of, section_numbers, group_numbers, new_numbers, known_numbers, symbol_numbers, built_numbers}
use Rattle.merge_laws.specs.Refusals.{symbol_name, section_name}

-- all as it was at the section
pub record SectionLeft (s t : Reserve.State) (n : ℕ) : Type 0 where
  pub number : one_of t.reserved.number section_numbers ≡ true
  pub as_it_was : t ≡ Reserve.state_of s.sections s.work (Reserve.reserved_of s.reserved.link s.reserved.table t.reserved.number n)

-- ---- groups

shape-numbers : (o : Group.Object) (work : List ℕ) (n : ℕ) → Group.shape_of o work n ≢ 0 → one_of (Group.shape_of o work n) group_numbers ≡ true
unfolding Group.shape_of
shape-numbers o work n =
    pick P (eqb (comdat_at o.headers n) 0) _ _ (λ t u. refl)
    (λ t.
    pick P (eqb (count_at o.headers n) 0) _ _ (λ t u. refl)
    (λ t.
    pick P (Group.all_fresh work (rows_in o.headers) (Group.listed_in o n)) _ _
    (λ t.
    pick P (eqb (link_at o.headers n) o.table) _ _ (λ t. pick P (leb (rows_in o.entries) (info_at o.headers n)) _ _ (λ t u. refl) (λ t u. absurd (u refl))) (λ t u. refl))
    (λ t u. refl)))
  where
    P : ℕ → Type 0
    P k = k ≢ 0 → one_of k group_numbers ≡ true

plan-numbers : (l : Link) (bytes names : List ℕ) (marks : ℕ) (x listed : List ℕ) → (Group.plan_of l bytes names marks x listed).number ≢ 0
    → one_of (Group.plan_of l bytes names marks x listed).number group_numbers ≡ true
unfolding Group.plan_of Group.plan_with Group.mark_refusal
plan-numbers l bytes names marks x listed =
    let id : ℕ = find_of bytes names l x in
    pick (λ (p : Group.Plan). p.number ≢ 0 → one_of p.number group_numbers ≡ true) (fits_of (store_of bytes names l) (record { 0 = id }) (length x)) _ _
    (λ t.
    pick P (Group.repeated_of names l.names id) _ _ (λ t. pick P (Group.all_marked marks listed) _ _ (λ t u. absurd (u refl)) (λ t u. refl)) (λ t u. absurd (u refl)))
    (λ t u. refl)
  where
    P : ℕ → Type 0
    P k = k ≢ 0 → one_of k group_numbers ≡ true

-- all as it was at the group
pub record GroupLeft (s t : Group.Step) (n : ℕ) : Type 0 where
  pub number : one_of t.stage.number group_numbers ≡ true
  pub as_it_was : t ≡ Group.step_of s.bytes s.names s.work (stopped_of s.stage.link t.stage.number n)

module _ (o : Group.Object) (s : Group.Step) (n : ℕ) where
  abbrev pub at : Group.State
  at = Group.state_of s.bytes s.names s.work s.stage.link

  stopped : (number : ℕ) → one_of number group_numbers ≡ true → GroupLeft s (Group.stop at number n) n
  stopped number e = record { number = e; as_it_was = refl }

  pub group-left : s.stage.number ≡ 0 → (Group.group_section_of o s n).stage.number ≢ 0 → GroupLeft s (Group.group_section_of o s n) n
  unfolding Group.group_section_of Group.group_of Group.shaped_of Group.signed_of Group.group_named Group.decided_of
  group-left z u =
      let shape : ℕ = Group.shape_of o s.work n in
      let x : Looked = Group.signature_of o.headers o.entries o.image o.table n in
      let listed : List ℕ = Group.listed_in o n in
      let marks : ℕ = length s.work / 8 in
      let p : Group.Plan = Group.plan_of s.stage.link s.bytes s.names marks x.name listed in
      by-test (is_loaded o.headers n 7)
      (λ a.
      by-test (eqb shape 0)
      (λ b.
      by-test x.found
      (λ c.
      by-test (eqb p.number 0) (λ d. absurd (u (rw (a, b, c, d))))
      (λ d. rw (a, b, c, d) (stopped p.number (plan-numbers s.stage.link s.bytes s.names marks x.name listed (eqb-false _ _ d)))))
      (λ c. rw (a, b, c) (stopped 7 refl)))
      (λ b. rw (a, b) (stopped shape (shape-numbers o s.work n (eqb-false _ _ b)))))
      (λ a. absurd (u (rw a z)))

-- ---- symbols

pub one-front : (n : ℕ) (xs ys : List ℕ) → one_of n xs ≡ true → one_of n (xs ++ ys) ≡ true
one-front n [] ys e = absurd (false≢true e)
one-front n (x ∷ xs) ys e = by-test (eqb n x) (λ t. rw t) (λ t. rw t (one-front n xs ys (rw t at e)))

pub one-back : (n : ℕ) (xs ys : List ℕ) → one_of n (xs ++ ys) ≡ true → one_of n xs ≡ false → one_of n ys ≡ true
one-back n [] ys e f = e
one-back n (x ∷ xs) ys e f =
    by-test (eqb n x) (λ t. absurd (false≢true (sym f ∙ rw t))) (λ t. one-back n xs ys (rw t at e) (rw t at f))

pub one-behind : (n : ℕ) (xs ys : List ℕ) → one_of n ys ≡ true → one_of n (xs ++ ys) ≡ true
one-behind n [] ys e = e
one-behind n (x ∷ xs) ys e = by-test (eqb n x) (λ t. rw t) (λ t. rw t (one-behind n xs ys e))

apart : {P : Type 0} → false ≡ true → P
apart e = absurd (false≢true e)

-- 2, or one of these
module _ (numbers : List ℕ) where
  abbrev pub JudgedIn : ℕ → Type 0
  JudgedIn k = k ≢ 0 → k ≢ 2 → one_of k numbers ≡ true

  abbrev pub DecidedIn : Decision → Type 0
  DecidedIn d = JudgedIn (refusal_of d)

  -- the numbers that a row's fields may hold
  pub record Fields (r : Row) : Type 0 where
    pub shown : scope_refused r ≡ true → JudgedIn (scope_refusal r)
    pub valued : value_refused r ≡ true → JudgedIn (value_refusal r)
    pub typed : JudgedIn (type_refusal r.kind)

  module _ (l : Link) (symbols sections : List ℕ) (r : Row) (f : Fields r) where
    decided-by : (h : Holder) → (absent_under (is_local_row r) h ≡ true → JudgedIn 21) → ((id : SymbolId) → Meets r h id → JudgedIn 17) → DecidedIn (decide_of l symbols sections r h)
    decided-by h absent duplicate =
        decision-number l symbols sections r JudgedIn h (λ u w. absurd (u refl)) (λ u w. absurd (w refl)) absent (λ id p m. duplicate id m) f.shown f.valued f.typed

    -- 17 and 21 are for names that are held
    pub nobody-decided : DecidedIn (decide_of l symbols sections r Nobody)
    nobody-decided = decided-by Nobody (λ a. apart a) (λ id m. absurd (nobody-not id m.known))
      where
        nobody-not : (id : SymbolId) → Nobody ≡ Known id → ⊥
        nobody-not id q = let z : ◌≡◌ {A = ℕ} 0 1 = cc in omega arith

  pub decide-decided : one_of 17 numbers ≡ true → one_of 21 numbers ≡ true → (l : Link) (symbols sections : List ℕ) (r : Row) → Fields r → (h : Holder)
      → DecidedIn (decide_of l symbols sections r h)
  decide-decided duplicate absent l symbols sections r f h = decided-by l symbols sections r f h (λ a u w. absent) (λ id m u w. duplicate)

  pub judged-shown : one_of 10 numbers ≡ true → one_of 11 numbers ≡ true → one_of 12 numbers ≡ true → (b v : ℕ) → refuses_scope (judge_of b v) ≡ true → JudgedIn (judge_of b v)
  unfolding judge_of shown_of hidden_of
  judged-shown visibility hidden binding b v =
      pick P (eqb v 0) _ _
      (λ t.
      pick P (eqb b 0) _ _ (λ t e. apart e)
      (λ t. pick P (eqb b 1) _ _ (λ t e. apart e) (λ t. pick P (eqb b 2) _ _ (λ t e. apart e) (λ t e u w. binding))))
      (λ t.
      pick P (eqb v 2) _ _
      (λ t.
      pick P (eqb b 0) _ _ (λ t e u w. hidden)
      (λ t. pick P (eqb b 1) _ _ (λ t e. apart e) (λ t. pick P (eqb b 2) _ _ (λ t e. apart e) (λ t e u w. binding))))
      (λ t e u w. visibility))
    where
      P : ℕ → Type 0
      P k = refuses_scope k ≡ true → JudgedIn k

pub fields-more : (xs ys : List ℕ) (r : Row) → Fields xs r → Fields (xs ++ ys) r
fields-more xs ys r f =
    record {
      shown = λ t u w. one-front r.scope xs ys (f.shown t u w);
      valued = λ t u w. one-front r.value.kind xs ys (f.valued t u w);
      typed = λ u w. one-front (type_refusal r.kind) xs ys (f.typed u w);
    }

abbrev Judged : ℕ → Type 0
Judged = JudgedIn new_numbers

abbrev Valued : Words → Type 0
Valued w = refuses_value w.kind ≡ true → Judged w.kind

judged-converted : (c : Conversion) (empty : Bool) (v : ℕ) → Valued (converted_of c empty v)
unfolding converted_of in_section
judged-converted To.Nothing empty v = λ e u w. refl
judged-converted To.NotLoaded empty v = λ e. apart e
judged-converted (To.Section id) empty v =
    pick Valued empty _ _ (λ t. pick Valued (eqb v 0) _ _ (λ t e. apart e) (λ t e. apart e)) (λ t e. apart e)

judged-valued : (c : Conversion) (e : ElfSymbol) (empty : Bool) → Valued (value_of c e empty)
unfolding value_of undefined_of common_by_binding common_of
judged-valued c e empty =
    pick Valued (eqb e.section 0) _ _ (λ t. pick Valued (eqb e.binding 2) _ _ (λ t e. apart e) (λ t e. apart e))
    (λ t.
    pick Valued (eqb e.section 0xfff1) _ _ (λ t e. apart e)
    (λ t.
    pick Valued (eqb e.section 0xfff2) _ _
    (λ t.
    pick Valued (eqb e.binding 0) _ _ (λ t e u w. refl) (λ t. pick Valued (is_power_of_two e.value) _ _ (λ t e. apart e) (λ t e u w. refl)))
    (λ t. judged-converted c empty e.value)))

judged-typed : (k : ℕ) → eqb k 4 ≡ false → Judged (type_refusal k)
unfolding type_refusal
judged-typed k e =
    pick Judged (ltb k 4) _ _ (λ t u w. absurd (u refl)) (λ t. pick Judged (eqb k 4) _ _ (λ t. apart (sym e ∙ t)) (λ t u w. refl))

fields : (c : Conversion) (e : ElfSymbol) (id : Interned) (empty : Bool) (file : ℕ) → eqb e.kind 4 ≡ false → Fields new_numbers (elf_row_of c e id empty file)
unfolding elf_row_of
fields c e id empty file k =
    record { shown = judged-shown new_numbers refl refl refl e.binding e.visibility; valued = judged-valued c e empty; typed = judged-typed e.kind k }

module _ (v : View) (o : Input) (x : List ℕ) (i file : ℕ) where
  abbrev pub e : ElfSymbol
  e = filtered_at o.entries o.work i

  abbrev pub id : Interned
  id = record { 0 = find_of v.bytes v.names v.link x }

  abbrev row : Row
  row = elf_row_of (conversion_from (conversion_at o.work e.section)) e id (eqb (length x) 0) file

  -- whatever holds of a decision on a row under a name, but of type 4
  planned-decided : (numbers : List ℕ)
      → (eqb e.kind 4 ≡ false → DecidedIn numbers (decide_of v.link v.symbols v.sections row (holder_of v.link v.names v.symbols id)))
      → DecidedIn numbers (planned_of v o x i file).decision
  unfolding planned_of read_of rowed_of judged_of rule_of elf_row_of
  planned-decided numbers f =
      pick (DecidedIn numbers) (fits_of (store_of v.bytes v.names v.link) id (length x)) _ _
      (λ t.
      pick (DecidedIn numbers) (is_first i (eqb (length x) 0) e) _ _ (λ t u w. absurd (u refl))
      (λ t.
      pick (DecidedIn numbers) (eqb e.kind 4) _ _ (λ t u w. absurd (u refl))
      (λ k. pick (DecidedIn numbers) (defines_of o.work e.section) _ _ (λ t u w. absurd (u refl)) (λ t. f k))))
      (λ t u w. absurd (w refl))

  pub row-fields : eqb e.kind 4 ≡ false → Fields new_numbers row
  row-fields k = fields (conversion_from (conversion_at o.work e.section)) e id (eqb (length x) 0) file k

  pub planned-numbers : DecidedIn (new_numbers ++ known_numbers) (planned_of v o x i file).decision
  planned-numbers =
      planned-decided (new_numbers ++ known_numbers)
      (λ k.
      decide-decided (new_numbers ++ known_numbers) refl refl v.link v.symbols v.sections row (fields-more new_numbers known_numbers row (row-fields k))
      (holder_of v.link v.names v.symbols id))

  -- the name isn't issued yet
  pub planned-new : leb v.link.names id.0 ≡ true → DecidedIn new_numbers (planned_of v o x i file).decision
  unfolding holder_of
  planned-new n = planned-decided new_numbers (λ k. rw n (nobody-decided new_numbers v.link v.symbols v.sections row (row-fields k)))

abbrev pub id_in : Symbols.State → List ℕ → Interned
id_in s x = record { 0 = find_of s.bytes s.names s.stage.link x }

-- the name x issued
abbrev pub named_in : Symbols.State → List ℕ → Store
named_in s x = keep_of (store_of s.bytes s.names s.stage.link) (id_in s x) x

-- all as it was at the symbol, or all but its name; the place of 21 is the name's id
pub data SymbolLeft (o : Symbols.Object) (s t : Symbols.State) (i : ℕ) : Type 0 where
  as_it_was : one_of t.stage.number symbol_numbers ≡ true
      → t ≡ Symbols.refuse s t.stage.number (place_of t.stage.number (id_in s (symbol_name o i).name) i) → SymbolLeft o s t i
  but-its-name : (symbol_name o i).found ≡ true → one_of t.stage.number new_numbers ≡ true
      → t ≡ Symbols.refuse_named s (named_in s (symbol_name o i).name) t.stage.number i → SymbolLeft o s t i

-- the place of every other refusal than 21 is the element
pub place_other : (n : ℕ) (xs : List ℕ) (id : Interned) (i : ℕ) → one_of 21 xs ≡ false → one_of n xs ≡ true → place_of n id i ≡ i
unfolding place_of
place_other n xs id i d e = by-test (eqb n 21) (λ t. absurd (false≢true (sym d ∙ ap (λ (k : ℕ). one_of k xs) (sym (eqb-true n 21 t)) ∙ e))) (λ t. rw t)

module _ (o : Symbols.Object) (s : Symbols.State) (i : ℕ) (found : (symbol_name o i).found ≡ true) where
  abbrev pub name : List ℕ
  name = (symbol_name o i).name

  pub commit-left : (p : Planned) → p.id ≡ id_in s name → DecidedIn (new_numbers ++ known_numbers) p.decision
      → (leb s.stage.link.names (id_in s name).0 ≡ true → DecidedIn new_numbers p.decision) → (Symbols.commit_of s name p i).stage.number ≢ 0
      → SymbolLeft o s (Symbols.commit_of s name p i) i
  unfolding Symbols.commit_of Symbols.kept_of Symbols.accept_row keep_of place_of
  commit-left p e d n u =
      let k : ℕ = refusal_of p.decision in
      by-test (eqb k 2) (λ t. rw t (as_it_was refl refl))
      (λ t.
      by-test (eqb k 0) (λ z. absurd (u (rw (t, z))))
      (λ z.
      by-test (one_of k new_numbers) (λ a. rw (t, z, e, place_other k new_numbers (id_in s name) i refl a) (but-its-name found a refl))
      (λ a.
      by-test (ltb (id_in s name).0 s.stage.link.names)
      (λ h.
      rw (t, z, e, h) (as_it_was (one-behind k (2 ∷ 9 ∷ []) known_numbers (one-back k new_numbers known_numbers (d (eqb-false _ _ z) (eqb-false _ _ t)) a)) refl))
      (λ h. absurd (false≢true (sym a ∙ n (le-leb s.stage.link.names (id_in s name).0 (ltb-false _ _ h)) (eqb-false _ _ z) (eqb-false _ _ t)))))))

abbrev pub name_kept : Build.State → List ℕ → Store
name_kept s x = keep_of (store_of s.bytes s.names s.stage.link) (record { 0 = find_of s.bytes s.names s.stage.link x }) x

-- 19 at section n, every cell as it was but the name's
abbrev pub refuse_build : Build.State → Store → ℕ → Build.State
refuse_build s k n = Build.state_of k.bytes k.names s.sections s.lists (stopped_of k.link 19 n)

-- all as it was at the section, or, of a program section, all but its name
pub data BuildLeft (o : Build.Object) (kind : ℕ) (s t : Build.State) (n : ℕ) : Type 0 where
  as_it_was : one_of t.stage.number built_numbers ≡ true → t ≡ Build.stop (Build.linked s) t.stage.number n → BuildLeft o kind s t n
  but-its-name : kind ≡ 1 → (section_name o n).found ≡ true → t.stage.number ≡ 19
      → t ≡ refuse_build s (name_kept s (section_name o n).name) n → BuildLeft o kind s t n
