-- Which symbols are told is what the resolution would do: the name's row yields to the symbol's, by rank, and an add of it takes the row over.
-- Assumes nothing.
use Rattle.std.specs.Prelude.{ℕ, suc, ◌+◌, ◌*◌, ◌≤◌, ◌<◌, ◌≡◌, ◌≢◌, refl, Bool, true, false, cond, not, ◌&&◌, ◌||◌, List, eqb, ltb, leb, length, Option, None, Result, Ok, Err}
use Rattle.std.proofs.Common.{arith, sym, ap, ◌∙◌, subst, eqb-true, leb-false}
use Rattle.std.proofs.lemmas.Bool.{false≢true, eqb-false}
use Rattle.cells.specs.Proof.Split.{by-test}
use Rattle.link.specs.declared.Interned.{Interned}
use Rattle.link.specs.declared.SymbolId.{SymbolId}
use Rattle.link.specs.declared.cause.Refusal.{Refusal}
use Rattle.link.specs.Said.{number_in}
use Rattle.gabi.specs.SymbolTable.{Sym, is_global, is_weak, is_definition, is_reference, is_common}
use Rattle.gabi.specs.Archive.{offers}
use Rattle.symbol.specs.declared.Symbol.{Symbol}
use Rattle.symbol.specs.declared.Row.{Row}
use Rattle.symbol.specs.Row.{row_at, symbol_at, state_at, scope_at, kind_at, value_words_at}
use Rattle.symbol.specs.Codes.{visibility_at}
use Rattle.symbol.specs.Hidden.{pass_hidden}
use Rattle.symbol_resolution.specs.Decision.{Decision}
use Rattle.symbol_resolution.specs.Decide.{weak_of, reference_rank, rank_of}
use Rattle.symbol_resolution.specs.Holder.{global_at, held_by, holder_of}
use Rattle.symbol_resolution.specs.Apply.{Table, joined, replaced_in, amended_in, apply_of}
use Rattle.symbol_resolution.specs.Proof.DecideWays.{weak_same}
use Rattle.symbols.specs.Lookup.{held_of}
use Rattle.symbols.specs.Calls.{Left}
use Rattle.symbols.specs.Add.{decided_of, committed_of, add_row_of}
use Rattle.upcoming_symbol.specs.declared.ElfSymbol.{ElfSymbol}
use Rattle.upcoming_symbol.specs.declared.UpcomingSymbol.{UpcomingSymbol}
use Rattle.upcoming_symbol.specs.declared.UpcomingSymbol.TheVariants.{Elf}
use Rattle.upcoming_symbol.specs.Judge.{judge_of, shown_of, hidden_of}
use Rattle.upcoming_symbol.specs.Upcoming.{elf_row_of}
use Rattle.archive_walk.specs.Look.{name_holder}
use Rattle.symbol_laws.specs.Rank.{ranked}
use Rattle.symbol_laws.specs.Standing.{standing}
use Rattle.symbol_laws.specs.Gabi.{Means, sym_of}
use Rattle.symbol_laws.specs.History.{table, upcoming}
use Rattle.symbol_laws.proofs.Gabi.{elf-means}
use Rattle.symbol_laws.proofs.DirectContents.{row-passes}
use Rattle.symbol_laws.proofs.Refused.{commit-refused, add-accepted}
use Rattle.symbol_laws.proofs.Rows.{read-packs, stored_row}
use Rattle.symbol_laws.proofs.Standing.{pass-packs, joined-packs}
use Rattle.symbol_laws.proofs.View.{View, refused, kept, amended, replaced, appended, local, view, held as held_in}
use Rattle.symbol_laws.specs.Within.{Within}
use Rattle.symbol_laws.proofs.Within.{Fits}
use Rattle.load_laws.proofs.Own as Need
use Rattle.merge_laws.specs.Calls.{Linked}
use Rattle.link_laws.specs.Calls.{add, call_next, call_number}
use Rattle.link_laws.specs.Words.{id_of, lookup}
use Rattle.link_laws.proofs.Words.{held-answers}
use Rattle.link_laws.specs.Shadowed.{is_weak_binding, is_row}
use Rattle.link_laws.proofs.Shadowed.{same-binding}
use Rattle.link_laws.proofs.OwnEntries.{common-is}
use Rattle.elf_object.specs.Rows.{elf_at}
use Rattle.merge_laws.specs.MergeWords.{symbols_of, symbol_name, is_named}
use Rattle.link_laws.specs.Untaken.{gives_way, row_id, defines, would, held_id, as_added}
use Rattle.link_laws.proofs.Untaken.{ways}

-- ---- ranks

-- by a row's kind and binding, and a definition's binding and section
rank-ways : (gabi u k w g c : Bool)
    → cond u true (cond k (g && not c) (w && (c || g && not c)))
    ≡ ltb (cond u (cond gabi (cond w 0 1) 0) (cond k 3 (cond w 2 4))) (cond c 3 (cond (not g) 2 4))
rank-ways true true k true g true = refl
rank-ways true true k true true false = refl
rank-ways true true k true false false = refl
rank-ways true true k false g true = refl
rank-ways true true k false true false = refl
rank-ways true true k false false false = refl
rank-ways false true k w g true = refl
rank-ways false true k w true false = refl
rank-ways false true k w false false = refl
rank-ways gabi false true w true true = refl
rank-ways gabi false true w false true = refl
rank-ways gabi false true w true false = refl
rank-ways gabi false true w false false = refl
rank-ways gabi false false true g true = refl
rank-ways gabi false false true true false = refl
rank-ways gabi false false true false false = refl
rank-ways gabi false false false g true = refl
rank-ways gabi false false false true false = refl
rank-ways gabi false false false false false = refl

-- a row that stands for a definition
module _ (gabi : Bool) (symbols : List ℕ) (id : SymbolId) (r : Row) (e : Sym) (m : Means r e) (d : is_definition e ≡ true) where
  abbrev u : Bool
  u = eqb (kind_at symbols id.0) 7

  abbrev k : Bool
  k = eqb (kind_at symbols id.0) 8

  abbrev w : Bool
  w = weak_of (scope_at symbols id.0)

  way-is : gives_way (Ok (symbol_at symbols id)) e ≡ cond u true (cond k (is_global e && not (is_common e)) (w && (is_common e || is_global e && not (is_common e))))
  unfolding symbol_at
  way-is =
      let b : is_weak_binding (visibility_at (scope_at symbols id.0)) ≡ w =
      same-binding symbols (record { 0 = 0 }) (visibility_at (scope_at symbols id.0)) ∙ weak_same (scope_at symbols id.0) in
      rw (Need.undefined-code (value_words_at symbols id.0), common-is (value_words_at symbols id.0), b)
      (sym (ways u k w (is_global e) (is_common e)))

  -- it is no reference
  defined : eqb r.value.kind 7 ≡ false
  unfolding is_definition
  defined = m.refers ∙ by-test (is_reference e) (λ a. absurd (false≢true (rw a at d))) (λ a. a)

  rank-is : ranked gabi r ≡ cond (is_common e) 3 (cond (not (is_global e)) 2 4)
  unfolding rank_of
  rank-is = rw (defined, m.commonly, m.weakly) (ap (λ (b : Bool). cond (is_common e) 3 (cond b 2 4)) (flip (is_global e) (is_weak e) m.bound))
    where
      flip : (g w : Bool) → g ≡ not w → w ≡ not g
      flip g true e = rw e
      flip g false e = rw e

  old-is : ranked gabi (row_at symbols id.0) ≡ cond u (cond gabi (cond w 0 1) 0) (cond k 3 (cond w 2 4))
  unfolding rank_of reference_rank
  old-is = refl

  pub way-ranks : gives_way (Ok (symbol_at symbols id)) e ≡ ltb (ranked gabi (row_at symbols id.0)) (ranked gabi r)
  way-ranks = way-is ∙ rank-ways gabi u k w (is_global e) (is_common e) ∙ rw (old-is, rank-is)

-- ---- the row that a lookup answers

pub record Found (s : Linked) (n : Interned) (y : Symbol) : Type 0 where
  pub id : y.id.0 ≡ global_at s.table.names n.0
  pub some : global_at s.table.names n.0 ≢ 0
  pub counted : global_at s.table.names n.0 < s.table.link.symbols
  pub own : y ≡ symbol_at s.table.symbols y.id

module _ (s : Linked) (f : Fits s.table) (w : Within s.table.link s.table.names) (b : List ℕ) (y : Symbol) (there : lookup b s ≡ Ok y) where
  abbrev name : Interned
  name = id_of b s

  abbrev at : ℕ
  at = global_at s.table.names name.0

  abbrev symbols : List ℕ
  symbols = s.table.symbols

  held : held_of symbols name (holder_of s.table.link s.table.names symbols name) ≡ Ok y
  unfolding name_holder
  held = sym (held-answers s f w b) ∙ there

  found-at : at ≢ 0 → at < s.table.link.symbols → ◌≡◌ {A = Result Symbol Refusal} (Ok (symbol_at symbols (record { 0 = at }))) (Ok y) → Found s name y
  unfolding symbol_at
  found-at z c e =
      let q : symbol_at symbols (record { 0 = at }) ≡ y = cc in
      let i : y.id.0 ≡ at = sym (ap (λ (x : Symbol). x.id.0) q) in
      record { id = i; some = z; counted = c; own = rw (← q) }

  pub found : Found s name y
  unfolding holder_of held_by
  found =
      by-test (leb s.table.link.names name.0) (λ a. none (rw a at held))
      (λ a.
      by-test (eqb at 0) (λ c. none (rw (a, c) at held))
      (λ c.
      by-test (leb s.table.link.symbols at) (λ d. none (rw (a, c, d) at held))
      (λ d.
      by-test (eqb (state_at symbols at) 2) (λ e. none (rw (a, c, d, e) at held))
      (λ e. found-at (eqb-false _ _ c) (leb-false _ _ d) (rw (a, c, d, e) at held)))))
    where
      none : {r : Refusal} → ◌≡◌ {A = Result Symbol Refusal} (Err r) (Ok y) → Found s name y
      none q = absurd (false≢true (ap is_row q))

-- ---- an add of the symbol

module _ (s : Linked) (f : Fits s.table) (w : Within s.table.link s.table.names) (b : List ℕ) (y : Symbol) (there : lookup b s ≡ Ok y) (e : ElfSymbol) (offered : offers (sym_of e) ≡ true)
    (conversion : List ℕ) (file : Option Interned) where
  abbrev pub symbol : UpcomingSymbol
  symbol = Elf e (id_of b s) file

  module _ (ok : call_number (add conversion symbol) s ≡ 0) where
    abbrev r : Row
    r = upcoming s.table conversion symbol

    abbrev t : Table
    t = table s.table

    abbrev old : Row
    old = row_at s.table.symbols y.id.0

    accepted-row : number_in (add_row_of t r None).said ≡ 0
    accepted-row = ap (λ x. number_in x.said) (sym (add-accepted t conversion symbol ok)) ∙ ok

    some-binding : e.binding ≢ 0
    unfolding offers is_global is_weak
    some-binding z = false≢true (rw z at offered)

    not-local : r.scope ≢ 0
    unfolding elf_row_of judge_of shown_of hidden_of
    not-local z =
        by-test (eqb e.binding 0) (λ a. some-binding (eqb-true _ _ a))
        (λ a.
        by-test (eqb e.visibility 0) (λ c. shown 0 2 (rw (a, c) at z))
        (λ c. by-test (eqb e.visibility 2) (λ d. shown 1 3 (rw (a, c, d) at z)) (λ d. let q : ◌≡◌ {A = ℕ} 10 0 = rw (c, d) at z in omega arith)))
      where
        shown : (x y : ℕ) → cond (eqb e.binding 1) (suc x) (cond (eqb e.binding 2) (suc y) 12) ≡ 0 → ⊥
        shown x y q =
            by-test (eqb e.binding 1) (λ a. let q : suc x ≡ 0 = rw a at q in omega arith)
            (λ a. by-test (eqb e.binding 2) (λ c. let q : suc y ≡ 0 = rw (a, c) at q in omega arith) (λ c. let q : ◌≡◌ {A = ℕ} 12 0 = rw (a, c) at q in omega arith))

    defined-own : is_definition (sym_of e) ≡ true
    unfolding offers
    defined-own = by-test (is_definition (sym_of e)) (λ a. a) (λ a. absurd (false≢true (sym (no (is_global (sym_of e) || is_weak (sym_of e))) ∙ (rw a at offered))))
      where
        no : (g : Bool) → g && false ≡ false
        no true = refl
        no false = refl

    means : Means r (sym_of e)
    means = let p = row-passes t r accepted-row in elf-means _ e _ _ _ not-local p.0 p.1

    ranks : gives_way (lookup b s) (sym_of e) ≡ ltb (ranked s.table.link.gabi old) (ranked s.table.link.gabi r)
    ranks =
        ap (λ (x : Result Symbol Refusal). gives_way x (sym_of e)) (there ∙ ap Ok (found s f w b y there).own)
        ∙ way-ranks s.table.link.gabi s.table.symbols y.id r (sym_of e) means defined-own

    -- the id that the name has
    abbrev here : ℕ
    here = held_in t r

    here-is : here ≡ y.id.0
    unfolding elf_row_of
    here-is = sym (found s f w b y there).id

    room : here * 8 + 8 ≤ length s.table.symbols
    room = let x = found s f w b y there in omega (arith, here-is, x.id, x.counted, f.room)

    Stood : Left → Type 0
    Stood o = row_at o.table.symbols here ≡ standing s.table.link.gabi (row_at s.table.symbols here) r

    decides : (d : Decision) → decided_of t r None ≡ d → Stood (committed_of t r None d) → Stood (add_row_of t r None)
    unfolding add_row_of
    decides d q g = subst (λ (d : Decision). Stood (committed_of t r None d)) (sym q) g

    by-view : View t r → Stood (add_row_of t r None)
    unfolding Stood add_row_of committed_of apply_of replaced_in amended_in
    by-view (refused n q z) = absurd ((commit-refused t r None n z).1 (subst (λ (d : Decision). number_in (committed_of t r None d).said ≡ 0) q accepted-row))
    by-view (kept q n z o v p) = decides _ q (rw o (sym p))
    by-view (amended q n z o v) =
        decides _ q
        (rw o
        (stored_row s.table.symbols (record { 0 = here }) _
        (pass-packs s.table.link.gabi r.scope _ (joined-packs (row_at s.table.symbols here) r (read-packs s.table.symbols here))) room))
    by-view (replaced q n z o) =
        decides _ q
        (rw o.yielding
        (stored_row s.table.symbols (record { 0 = here }) _ (pass-packs s.table.link.gabi (row_at s.table.symbols here).scope r o.packs) room))
    by-view (appended q g n z) = let x = found s f w b y there in absurd (omega (arith, z (λ c. x.some (sym x.id ∙ sym here-is ∙ c)), here-is, x.id, x.counted))
    by-view (local q g v) = absurd (not-local v)

    pub stood : row_at (call_next (add conversion symbol) s).table.symbols y.id.0 ≡ standing s.table.link.gabi old r
    unfolding Stood
    stood =
        subst (λ (j : ℕ). row_at (call_next (add conversion symbol) s).table.symbols j ≡ standing s.table.link.gabi (row_at s.table.symbols j) r) here-is
        (subst Stood (sym (add-accepted t conversion symbol ok)) (by-view (view t r)))

    -- told: the row is the symbol's, hidden if in the gABI profile the row was; else it stays, joined with it if both are common, hidden if the symbol is
    pub takes-over : gives_way (lookup b s) (sym_of e) ≡ true
        → row_at (call_next (add conversion symbol) s).table.symbols y.id.0 ≡ pass_hidden s.table.link.gabi old.scope r
    takes-over g = stood ∙ rw (sym (ranks) ∙ g)

    pub stays : gives_way (lookup b s) (sym_of e) ≡ false
        → row_at (call_next (add conversion symbol) s).table.symbols y.id.0 ≡ pass_hidden s.table.link.gabi r.scope (joined old r)
    stays g = stood ∙ rw (sym (ranks) ∙ g)

-- ---- the same of symbol i of an object, whatever its add is lent

module _ (headers entries contents file : List ℕ) (s : Linked) (f : Fits s.table) (w : Within s.table.link s.table.names) (i : ℕ) (conversion : List ℕ) (source : Option Interned) where
  abbrev name_of : List ℕ
  name_of = symbol_name headers entries contents file i

  abbrev entry_of : ElfSymbol
  entry_of = elf_at (symbols_of headers entries contents file) i

  abbrev own : UpcomingSymbol
  own = as_added headers entries contents file s i source

  abbrev row : ℕ
  row = held_id headers entries contents file s i

  abbrev its_row : Row
  its_row = upcoming s.table conversion own

  module _ (ok : call_number (add conversion own) s ≡ 0) where
    parts : (n o k : Bool) → n && (o && k) ≡ true → o ≡ true
    parts true true k e = refl
    parts true false k e = absurd (false≢true e)
    parts false o k e = absurd (false≢true e)

    both : (d g : Bool) → d && g ≡ true → (d ≡ true) × (g ≡ true)
    both true g e = (refl, e)
    both false g e = absurd (false≢true e)

    offered-is : defines headers entries contents file s i ≡ true → offers (sym_of entry_of) ≡ true
    offered-is d = parts (is_named headers entries contents file i) (offers (sym_of entry_of)) (not (eqb entry_of.kind 4)) d

    -- without a row nothing gives way
    some-row : (x : Result Symbol Refusal) → gives_way x (sym_of entry_of) ≡ true → is_row x ≡ true
    some-row (Ok y) e = refl
    some-row (Err r) e = absurd (false≢true e)

    by-row : (P : Result Symbol Refusal → Type 0) → is_row (lookup name_of s) ≡ true → ((y : Symbol) → lookup name_of s ≡ Ok y → P (Ok y)) → P (lookup name_of s)
    by-row P h g = go (lookup name_of s) refl h
      where
        go : (x : Result Symbol Refusal) → lookup name_of s ≡ x → is_row x ≡ true → P x
        go (Ok y) q h = g y q
        go (Err r) q h = absurd (false≢true h)

    pub told-takes-over : would headers entries contents file s i ≡ true
        → row_at (call_next (add conversion own) s).table.symbols row ≡ pass_hidden s.table.link.gabi (row_at s.table.symbols row).scope its_row
    told-takes-over e =
        let (d, g) = both (defines headers entries contents file s i) (gives_way (lookup name_of s) (sym_of entry_of)) e in
        by-row (λ x. row_at (call_next (add conversion own) s).table.symbols (row_id x) ≡ pass_hidden s.table.link.gabi (row_at s.table.symbols (row_id x)).scope its_row)
        (some-row (lookup name_of s) g)
        (λ y q. takes-over s f w name_of y q entry_of (offered-is d) conversion source ok g)

    pub untold-stays : defines headers entries contents file s i ≡ true → is_row (lookup name_of s) ≡ true → would headers entries contents file s i ≡ false
        → row_at (call_next (add conversion own) s).table.symbols row ≡ pass_hidden s.table.link.gabi its_row.scope (joined (row_at s.table.symbols row) its_row)
    untold-stays d h e =
        by-row (λ x. row_at (call_next (add conversion own) s).table.symbols (row_id x) ≡ pass_hidden s.table.link.gabi its_row.scope (joined (row_at s.table.symbols (row_id x)) its_row))
        h
        (λ y q. stays s f w name_of y q entry_of (offered-is d) conversion source ok (rw d at e))
