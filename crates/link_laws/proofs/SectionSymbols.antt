-- Theorems over specs/SectionSymbols.antt.
-- Assumes nothing.
use Rattle.gc_sections.specs.Run.{dropped as drop_counts}
use Prim.Native.Nat.{ℕ, zero, suc, ◌+◌, ◌-◌, ◌*◌, ◌/◌, ◌≤◌, ◌<◌}
use Rattle.std.proofs.Common.{arith, sym, ap, subst, ◌∙◌, length-set, length-take-le, get_or-append-add, get_or-set_same, get_or-set_other}
use Rattle.std.specs.Prelude.{◌≡◌, refl, Bool, true, false, List, ◌≢◌, ◌↔◌, eqb, leb, ltb, length, get_or, set, take, replicate, Option, None, Some, Ok, Result}
use Rattle.std.proofs.lemmas.Bool.{false≢true}
use Rattle.std.proofs.lemmas.List.{length-replicate, get_or-replicate}
use Rattle.std.proofs.Math.ListN.{get_or-eq_default}
use borrow.Author.Tests.{eqb-true, eqb-false, eq-eqb, ne_eqb, lt-leb, leb-true, leb-false, ltb-true, ltb-false}
use Rattle.cells.specs.Proof.Split.{by-test}
use Rattle.link.specs.declared.Link.{Link}
use Rattle.link.specs.declared.cause.Refusal.{Refusal}
use Rattle.link.specs.declared.SymbolId.{SymbolId}
use Rattle.link.specs.declared.SectionId.{SectionId}
use Rattle.link.specs.Bounds.{lesser, symbol_rows, section_slots}
use Rattle.link.specs.Judge.{change_of}
use Rattle.link.specs.Said.{number_in}
use Rattle.interner.specs.Names.{Store}
use Rattle.interner.specs.Calls as Names
use Rattle.symbol.specs.declared.Row.{Row}
use Rattle.symbol.specs.declared.Words.{Words}
use Rattle.symbol.specs.declared.Symbol.{Symbol}
use Rattle.symbol.specs.declared.SymbolVisibility.TheVariants.{Local, Global}
use Rattle.symbol.specs.declared.SymbolValue.TheVariants as Val
use Rattle.symbol.specs.Codes.{visibility_at, value_at}
use Rattle.symbol.specs.Row.{field, state_at, scope_at, value_words_at, symbol_at}
use Rattle.symbol_resolution.specs.Decide.{section_cell}
use Rattle.symbol_resolution.specs.Apply.{set_section_symbol}
use Rattle.symbols.specs.Lookup.{not_found, section_symbol_at, section_symbol_of}
use Rattle.symbols.specs.Calls.{lent_of}
use Rattle.symbols.specs.Remove.{Rows, rows_of, drop_section, remove_row_of, remove_of}
use Rattle.symbols.specs.New.{null_row, clear_symbols, null_of, new_of}
use Rattle.gc_laws.proofs.Terms as CollectionLaws
use Rattle.gc_laws.specs.Reached as Roots
use Rattle.symbol_laws.proofs.Refused.{remove-link}
use Rattle.symbol.specs.Row.{row_at}
use Rattle.symbol_laws.proofs.Rows.{stored_row}
use Rattle.symbol_laws.proofs.View.{lesser-second}
use Rattle.symbol_laws.specs.History.{State, opened}
use Rattle.merge_laws.specs.Calls.{Linked}
use Rattle.link_laws.specs.Calls.{Call, get, remove, section_symbol, collect, lists_in, call_left, call_number, call_next, run_calls, RemovesNothing}
use Rattle.link_laws.proofs.CollectPast.{run_past}
use Rattle.link_laws.proofs.Kept.{Lasting}
use Rattle.link_laws.proofs.Removal.{Ready}
use Rattle.link_laws.proofs.LookedUp as LookedUp
use Rattle.link_laws.specs.LocalRows.{own_of, is_own, symbol_in, Shown, Counted, Since, none, newest, Onto}
use Rattle.link_laws.proofs.LocalRows.{calls-onto, own-parts, cell_at, cells-apart, stands-local}
use Rattle.link_laws.specs.SectionSymbols.{Fresh, LastOf, LocalSection, SectionRow, section_number, symbol_number}

-- ---- codes and what they mean

local-code : (k : ℕ) → k < 5 → visibility_at k ≡ Local → k ≡ 0
unfolding visibility_at
local-code k h e =
    by-test (eqb k 1) (λ a. absurd (differ false false (rw a at e)))
    (λ a.
    by-test (eqb k 2) (λ b. absurd (differ false true (rw (a, b) at e)))
    (λ b.
    by-test (eqb k 3) (λ c. absurd (differ true false (rw (a, b, c) at e)))
    (λ c.
    by-test (eqb k 4) (λ d. absurd (differ true true (rw (a, b, c, d) at e)))
    (λ d.
    let a1 = eqb-false k 1 a in
    let b1 = eqb-false k 2 b in
    let c1 = eqb-false k 3 c in
    let d1 = eqb-false k 4 d in
    by-test (eqb k 0) (λ z. eqb-true _ _ z) (λ z. absurd (small k h (eqb-false _ _ z) a1 b1 c1 d1))))))
  where
    differ : (w h : Bool) → Global w h ≡ Local → ⊥
    differ w h q = let z : ◌≡◌ {A = ℕ} 0 1 = cc in omega arith

    small : (k : ℕ) → k < 5 → k ≢ 0 → k ≢ 1 → k ≢ 2 → k ≢ 3 → k ≢ 4 → ⊥
    small zero h a b c d e = a refl
    small (suc zero) h a b c d e = b refl
    small (suc (suc zero)) h a b c d e = c refl
    small (suc (suc (suc zero))) h a b c d e = d refl
    small (suc (suc (suc (suc zero)))) h a b c d e = e refl
    small (suc (suc (suc (suc (suc k))))) h a b c d e = omega arith

section-code : (w : Words) (y : SectionId) → value_at w ≡ Val.Section y → (w.kind ≡ 2) × (w.a ≡ y.0)
unfolding value_at
section-code w y e =
    let q : section_number (value_at w) ≡ y.0 + 1 = ap section_number e in
    by-test (eqb w.kind 1) (λ a. absurd (no (rw a at q)))
    (λ a.
    by-test (eqb w.kind 2) (λ b. let n : w.a + 1 ≡ y.0 + 1 = rw (a, b) at q in (eqb-true _ _ b, omega (arith, n)))
    (λ b.
    by-test (eqb w.kind 3) (λ c. absurd (no (rw (a, b, c) at q)))
    (λ c.
    by-test (eqb w.kind 4) (λ d. absurd (no (rw (a, b, c, d) at q)))
    (λ d.
    by-test (eqb w.kind 5) (λ f. absurd (no (rw (a, b, c, d, f) at q)))
    (λ f.
    by-test (eqb w.kind 6) (λ g. absurd (no (rw (a, b, c, d, f, g) at q)))
    (λ g.
    by-test (eqb w.kind 7) (λ h. absurd (no (rw (a, b, c, d, f, g, h) at q)))
    (λ h. by-test (eqb w.kind 8) (λ i. absurd (no (rw (a, b, c, d, f, g, h, i) at q))) (λ i. absurd (no (rw (a, b, c, d, f, g, h, i) at q))))))))))
  where
    no : 0 ≡ y.0 + 1 → ⊥
    no e = omega (arith, e)

section-value : (w : Words) (y : ℕ) → w.kind ≡ 2 → w.a ≡ y → value_at w ≡ Val.Section (record { 0 = y })
unfolding value_at
section-value w y k a = rw (k, a)

local-visibility : (k : ℕ) → k ≡ 0 → visibility_at k ≡ Local
unfolding visibility_at
local-visibility k e = rw e

-- ---- lookups

-- what a section's cell answers
answer-none : (s : Linked) (y : SectionId) → symbol_in s.table y.0 ≡ 0 → call_left (section_symbol y) s ≡ None
unfolding section_symbol_of
answer-none s y e = rw (eq-eqb _ _ e)

answer-some : (s : Linked) (y : SectionId) (i : SymbolId) → symbol_in s.table y.0 ≡ i.0 → i.0 ≢ 0 → i.0 < s.table.link.symbols
    → call_left (section_symbol y) s ≡ Some i
unfolding section_symbol_of
answer-some s y i e u h =
    let n : symbol_in s.table y.0 ≢ 0 = λ z. u (sym e ∙ z) in
    let m : symbol_in s.table y.0 < s.table.link.symbols = omega (arith, e, h) in
    rw (ne_eqb _ _ n, lt-leb _ _ m) (ap (λ (k : ℕ). Some (record { 0 = k })) e)

-- the same cell and as many rows; or no fewer, with the id among those before
answer-same : (s t : Linked) (y : SectionId) → symbol_in t.table y.0 ≡ symbol_in s.table y.0 → t.table.link.symbols ≡ s.table.link.symbols
    → call_left (section_symbol y) t ≡ call_left (section_symbol y) s
unfolding section_symbol_of
answer-same s t y e n = rw (e, n)

answer-later : (s t : Linked) (y : SectionId) → symbol_in t.table y.0 ≡ symbol_in s.table y.0 → s.table.link.symbols ≤ t.table.link.symbols
    → symbol_in s.table y.0 < s.table.link.symbols → call_left (section_symbol y) t ≡ call_left (section_symbol y) s
unfolding section_symbol_of
answer-later s t y e n h =
    let m : symbol_in s.table y.0 < t.table.link.symbols = omega (arith, n, h) in
    rw (e, lt-leb _ _ h, lt-leb _ _ m)

-- a link whose rows can be looked up
module _ (s : Linked) (met : List (List ℕ)) (k : Lasting s met) (g : Ready s.table) where
  -- what is got is counted, present, and the row
  pub record Got (i : SymbolId) (x : Symbol) : Type 0 where
    pub counted : i.0 < s.table.link.symbols
    pub there : state_at s.table.symbols i.0 ≢ 2
    pub is : x ≡ symbol_at s.table.symbols i

  pub got-is : (i : SymbolId) (x : Symbol) → call_left (get i) s ≡ Ok x → Got i x
  got-is i x e =
      by-test (ltb i.0 s.table.link.symbols)
      (λ a.
      let h = ltb-true _ _ a in
      by-test (eqb (state_at s.table.symbols i.0) 2) (λ b. absurd (differ x i.0 (sym e ∙ LookedUp.got-removed s met k g i (eqb-true _ _ b))))
      (λ b.
      let u = eqb-false _ _ b in
      record { counted = h; there = u; is = same x _ (sym e ∙ LookedUp.got-present s met k g i h u) }))
      (λ a. absurd (differ x i.0 (sym e ∙ LookedUp.got-absent s met k g i (ltb-false _ _ a))))
    where
      differ : (x : Symbol) (n : ℕ) → Ok x ≡ not_found 21 n → ⊥
      differ x n q = let z : ◌≡◌ {A = ℕ} 0 1 = cc in omega arith

      same : (x y : Symbol) → ◌≡◌ {A = Result Symbol Refusal} (Ok x) (Ok y) → x ≡ y
      same x y q = cc

  own-of : (y : SectionId) (i : SymbolId) → scope_at s.table.symbols i.0 < 5 → LocalSection s y i → is_own s.table i.0 y.0 ≡ true
  unfolding symbol_at
  own-of y i c o =
      let p = got-is i _ o.its.got in
      let v : scope_at s.table.symbols i.0 ≡ 0 = local-code _ c (sym (ap (λ (x : Symbol). x.visibility) p.is) ∙ o.local) in
      let (a, b) = section-code (value_words_at s.table.symbols i.0) y (sym (ap (λ (x : Symbol). x.value) p.is) ∙ o.its.section) in
      rw (v, a, b) (eq-eqb y.0 y.0 refl)

  of-own : (y : SectionId) (i : SymbolId) → i.0 < s.table.link.symbols → state_at s.table.symbols i.0 ≢ 2 → is_own s.table i.0 y.0 ≡ true → LocalSection s y i
  unfolding symbol_at
  of-own y i h u o =
      let (v, a, b) = own-parts (row_at s.table.symbols i.0) y.0 o in
      record {
        its = record { row = symbol_at s.table.symbols i; got = LookedUp.got-present s met k g i h u; section = section-value (value_words_at s.table.symbols i.0) y.0 a b };
        local = local-visibility _ v;
      }

-- ---- calls that remove nothing, from any link on

module _ (s t : Linked) (met : List (List ℕ)) (k : Lasting t met) (g : Ready t.table) (o : Onto s.table t.table) (counted : Counted s.table) (y : SectionId) where
  abbrev before : ℕ
  before = s.table.link.symbols

  some : 1 ≤ before
  some = omega (arith, counted 0)

  new-of : (i : ℕ) → before ≤ i → i < t.table.link.symbols → is_own t.table i y.0 ≡ true → LocalSection t y (record { 0 = i })
  new-of i h l q = of-own t met k g y (record { 0 = i }) l (o.present i l (λ n. absurd (omega arith))) q

  own_new : (i : SymbolId) → before ≤ i.0 → LocalSection t y i → is_own t.table i.0 y.0 ≡ true
  own_new i h q = own-of t met k g y i (o.coded i.0 h (got-is t met k g i _ q.its.got).counted) q

  -- one that was added since: the last is the answer
  pub since-last : (i : SymbolId) → before ≤ i.0 → LastOf t y i → call_left (section_symbol y) t ≡ Some i
  since-last i h q = go (o.since y.0)
    where
      go : Since s.table t.table y.0 → call_left (section_symbol y) t ≡ Some i
      go (none e f) =
          absurd (false≢true (sym (f i.0 h (got-is t met k g i _ q.own.its.got).counted) ∙ own_new i h q.own))
      go (newest j l m u f e) =
          let low : j ≤ i.0 = q.last (record { 0 = j }) (new-of j l m u) in
          by-test (ltb j i.0)
          (λ c. absurd (false≢true (sym (f i.0 (ltb-true _ _ c) (got-is t met k g i _ q.own.its.got).counted) ∙ own_new i h q.own)))
          (λ c.
          let same : j ≡ i.0 = omega (arith, low, ltb-false j i.0 c) in
          answer-some t y i (e ∙ same) (λ z. omega (arith, h, z, some)) (got-is t met k g i _ q.own.its.got).counted)

  -- none: the answer is what it was
  pub since_none : ((i : SymbolId) → before ≤ i.0 → LocalSection t y i → ⊥) → call_left (section_symbol y) t ≡ call_left (section_symbol y) s
  since_none q = go (o.since y.0)
    where
      go : Since s.table t.table y.0 → call_left (section_symbol y) t ≡ call_left (section_symbol y) s
      go (none e f) = answer-later s t y e o.more (counted y.0)
      go (newest j l m u f e) = absurd (q (record { 0 = j }) l (new-of j l m u))

  -- where there was none before, and no such row: exactly
  module _ (clear : symbol_in s.table y.0 ≡ 0) (bare : (i : SymbolId) → i.0 < before → LocalSection t y i → ⊥) where
    not-old : (i : SymbolId) → LocalSection t y i → before ≤ i.0
    not-old i q = by-test (ltb i.0 before) (λ c. absurd (bare i (ltb-true _ _ c) q)) (λ c. ltb-false _ _ c)

    pub is_last : (i : SymbolId) → (call_left (section_symbol y) t ≡ Some i) ↔ LastOf t y i
    is_last i = (λ e. go e (o.since y.0), λ q. since-last i (not-old i q.own) q)
      where
        go : call_left (section_symbol y) t ≡ Some i → Since s.table t.table y.0 → LastOf t y i
        go a (none e f) = let z : 0 ≡ i.0 + 1 = ap symbol_number (sym (answer-none t y (e ∙ clear)) ∙ a) in absurd (omega (arith, z))
        go a (newest j l m u f e) =
            let z : j + 1 ≡ i.0 + 1 = ap symbol_number (sym (answer-some t y (record { 0 = j }) e (λ n. omega (arith, l, n, some)) m) ∙ a) in
            let same : j ≡ i.0 = omega (arith, z) in
            subst (λ (n : ℕ). LastOf t y (record { 0 = n })) same
            (record {
              own = new-of j l m u;
              last = λ n q.
                  by-test (leb n.0 j) (λ c. leb-true _ _ c)
                  (λ c.
                  let h : j < n.0 = leb-false _ _ c in
                  absurd (false≢true (sym (f n.0 h (got-is t met k g n _ q.its.got).counted) ∙ own_new n (not-old n q) q)));
            })

    pub is_none : (call_left (section_symbol y) t ≡ None) ↔ ((i : SymbolId) → LocalSection t y i → ⊥)
    is_none = (λ e i q. go e (o.since y.0) i q, λ q. since_none (λ i h. q i) ∙ answer-none s y clear)
      where
        go : call_left (section_symbol y) t ≡ None → Since s.table t.table y.0 → (i : SymbolId) → LocalSection t y i → ⊥
        go a (none e f) i q = false≢true (sym (f i.0 (not-old i q) (got-is t met k g i _ q.its.got).counted) ∙ own_new i (not-old i q) q)
        go a (newest j l m u f e) i q =
            let z : j + 1 ≡ 0 = ap symbol_number (sym (answer-some t y (record { 0 = j }) e (λ n. omega (arith, l, n, some)) m) ∙ a) in omega (arith, z)

-- ---- a new table: no section has a symbol, and its one row is null

zeros-at : (n i : ℕ) → get_or (replicate {A = ℕ} n 0) i 0 ≡ 0
zeros-at n i =
    by-test (ltb i n) (λ a. get_or-replicate n i 0 0 (ltb-true _ _ a))
    (λ a. get_or-eq_default (replicate {A = ℕ} n 0) 0 {n = i} (omega (arith, length-replicate {A = ℕ} n 0, ltb-false i n a)))

cleared-behind : (sections : List ℕ) (y : ℕ) → get_or (clear_symbols sections) (section_slots (length sections) * 8 + y) 0 ≡ 0
unfolding clear_symbols
cleared-behind sections y =
    let n : ℕ = section_slots (length sections) * 8 in
    let l : length (take n sections) ≡ n = length-take-le n sections (omega arith) in
    ap (λ (k : ℕ). get_or (clear_symbols sections) (k + y) 0) (sym l)
    ∙ get_or-append-add (take n sections) (replicate (length sections - n) 0) y 0 ∙ zeros-at (length sections - n) y

cleared-symbol : (l : Link) (sections : List ℕ) (y : ℕ) → l.slots ≡ section_slots (length sections) → section_symbol_at l (clear_symbols sections) y ≡ 0
cleared-symbol l sections y e =
    let n : ℕ = length (clear_symbols sections) in
    by-test (ltb (section_cell l n y) n)
    (λ a. ap (λ (q : ℕ). get_or (clear_symbols sections) q 0) (cell_at l n y (ltb-true _ _ a) ∙ ap (λ (k : ℕ). k * 8 + y) e) ∙ cleared-behind sections y)
    (λ a. get_or-eq_default (clear_symbols sections) 0 {n = section_cell l n y} (ltb-false _ _ a))

null-fresh : (gabi : Bool) (symbols sections : List ℕ) (s : Store) → symbol_rows (length symbols) ≢ 0 → number_in (null_of gabi symbols sections s).said ≡ 0
    → Fresh (opened (null_of gabi symbols sections s))
unfolding null_of
null-fresh gabi symbols sections s some e =
    by-test (eqb s.link.names 0) (λ a. let q : ◌≡◌ {A = ℕ} 2 0 = rw a at e in absurd (omega arith))
    (λ a.
    let m : lesser 65535 (length symbols / 8) ≤ length symbols / 8 = lesser-second 65535 _ in
    rw a
    (record {
      one = refl;
      clear = λ y. cleared-symbol _ sections y refl;
      null = stored_row symbols (record { 0 = 0 }) null_row (record { scope = omega arith; type = omega arith }) (omega (arith, some, m));
    }))

pub new-fresh : (key : ℕ) (gabi : Bool) (bytes names symbols sections : List ℕ) → number_in (new_of key gabi bytes names symbols sections).said ≡ 0
    → Fresh (opened (new_of key gabi bytes names symbols sections))
unfolding new_of
new-fresh key gabi bytes names symbols sections e =
    by-test (eqb (symbol_rows (length symbols)) 0) (λ a. let q : ◌≡◌ {A = ℕ} 2 0 = rw a at e in absurd (omega arith))
    (λ a. rw a (null-fresh gabi symbols sections (Names.new_of key bytes names).store (eqb-false _ _ a) (rw a at e)))

pub fresh-counted : (s : State) → Fresh s → Counted s
fresh-counted s f y = omega (arith, f.clear y, f.one)

-- ---- a history that removes nothing, from a new table on

module _ (s : Linked) (f : Fresh s.table) (ready : Ready s.table) (w : Shown s.table) (ks : List Call) (quiet : RemovesNothing ks s)
    (met : List (List ℕ)) (k : Lasting (run_calls ks s) met) (g : Ready (run_calls ks s).table) (y : SectionId) where
  abbrev end : Linked
  end = run_calls ks s

  onto : Onto s.table end.table
  onto = calls-onto ks s quiet ready w

  -- the null row
  bare : (i : SymbolId) → i.0 < s.table.link.symbols → LocalSection end y i → ⊥
  bare i h q =
      let z : i.0 ≡ 0 = omega (arith, h, f.one) in
      let v : scope_at s.table.symbols i.0 ≡ 0 = rw z (ap (λ (r : Row). r.scope) f.null) in
      let e : row_at end.table.symbols i.0 ≡ null_row =
      stands-local s.table end.table i.0 (onto.stands i.0 h) v ∙ ap (row_at s.table.symbols) z ∙ f.null in
      let c : scope_at end.table.symbols i.0 ≡ 0 = ap (λ (r : Row). r.scope) e in
      false≢true (sym (ap (λ (r : Row). own_of r y.0) e) ∙ own-of end met k g y i (omega (arith, c)) q)

  pub last_of : (i : SymbolId) → (call_left (section_symbol y) end ≡ Some i) ↔ LastOf end y i
  last_of = is_last s end met k g onto (fresh-counted s.table f) y (f.clear y.0) bare

  pub none_of : (call_left (section_symbol y) end ≡ None) ↔ ((i : SymbolId) → LocalSection end y i → ⊥)
  none_of = is_none s end met k g onto (fresh-counted s.table f) y (f.clear y.0) bare

-- ---- a removal

module _ (l : Link) (x : List ℕ) (a : ℕ) where
  abbrev n : ℕ
  n = length x

  abbrev dropped : List ℕ
  dropped = set x (section_cell l n a) 0

  cell_stays : (y : ℕ) → section_cell l (length dropped) y ≡ section_cell l n y
  cell_stays y = ap (λ (m : ℕ). section_cell l m y) (length-set x (section_cell l n a) 0)

  past : (v : List ℕ) → length v ≡ n → (y : ℕ) → n ≤ section_cell l n y → get_or v (section_cell l n y) 0 ≡ 0
  past v e y h = get_or-eq_default v 0 {n = section_cell l n y} (omega (arith, e, h))

  dropped-own : section_symbol_at l dropped a ≡ 0
  dropped-own =
      ap (λ (q : ℕ). get_or dropped q 0) (cell_stays a)
      ∙ by-test (ltb (section_cell l n a) n) (λ b. get_or-set_same x (section_cell l n a) 0 0 (ltb-true _ _ b))
      (λ b. past dropped (length-set x (section_cell l n a) 0) a (ltb-false _ _ b))

  dropped-other : (y : ℕ) → y ≢ a → section_symbol_at l dropped y ≡ section_symbol_at l x y
  dropped-other y u =
      ap (λ (q : ℕ). get_or dropped q 0) (cell_stays y)
      ∙ by-test (ltb (section_cell l n y) n)
      (λ b.
      get_or-set_other x (section_cell l n a) (section_cell l n y) 0 0 (λ e. cells-apart l n a y (ltb-true _ _ b) (λ q. u (sym q)) (sym e)))
      (λ b. past dropped (length-set x (section_cell l n a) 0) y (ltb-false _ _ b) ∙ sym (past x refl y (ltb-false _ _ b)))

module _ (s : Linked) (met : List (List ℕ)) (k : Lasting s met) (g : Ready s.table) (y : SectionId) where
  -- a row's value is `Section` of y, by its cells
  section-cells : (i : SymbolId) → SectionRow s y i → (field s.table.symbols i.0 5 ≡ 2) × (field s.table.symbols i.0 6 ≡ y.0)
  unfolding symbol_at
  section-cells i q =
      section-code (value_words_at s.table.symbols i.0) y (sym (ap (λ (x : Symbol). x.value) (got-is s met k g i _ q.got).is) ∙ q.section)

  cells-section : (i : SymbolId) → i.0 < s.table.link.symbols → state_at s.table.symbols i.0 ≢ 2 → field s.table.symbols i.0 5 ≡ 2
      → field s.table.symbols i.0 6 ≡ y.0 → SectionRow s y i
  unfolding symbol_at
  cells-section i h u a b =
      record {
        row = symbol_at s.table.symbols i;
        got = LookedUp.got-present s met k g i h u;
        section = section-value (value_words_at s.table.symbols i.0) y.0 a b;
      }

  module _ (i : SymbolId) where
    abbrev rows : Rows
    rows = rows_of s.table.symbols s.table.sections

    abbrev then : Linked
    then = call_next (remove i) s

    by-link : (P : ℕ → Type 0) → P (section_symbol_at s.table.link (remove_of s.table.link rows i).rows.sections y.0) → P (symbol_in then.table y.0)
    by-link P p =
        subst (λ (l : Link). P (section_symbol_at l (remove_of s.table.link rows i).rows.sections y.0)) (sym (remove-link s.table.link rows i)) p

    removed-cell : call_number (remove i) s ≡ 0 → SectionRow s y i → section_symbol_at s.table.link (remove_of s.table.link rows i).rows.sections y.0 ≡ 0
    unfolding remove_of remove_row_of drop_section set_section_symbol
    removed-cell ok q =
        let c = got-is s met k g i _ q.got in
        let (a, b) = section-cells i q in
        by-test (eqb (change_of s.table.link (lent_of s.table.link.chains (length s.table.symbols) (section_slots (length s.table.sections)))).number 0)
        (λ e. rw (e, lt-leb _ _ c.counted, ne_eqb _ _ c.there, a, b) (dropped-own s.table.link s.table.sections y.0))
        (λ e. absurd (eqb-false _ _ e (rw e at ok)))

    kept-cell : (SectionRow s y i → ⊥) → section_symbol_at s.table.link (remove_of s.table.link rows i).rows.sections y.0 ≡ symbol_in s.table y.0
    unfolding remove_of remove_row_of drop_section set_section_symbol
    kept-cell q =
        let kind : ℕ = field s.table.symbols i.0 5 in
        let at : ℕ = field s.table.symbols i.0 6 in
        by-test (eqb (change_of s.table.link (lent_of s.table.link.chains (length s.table.symbols) (section_slots (length s.table.sections)))).number 0)
        (λ a.
        by-test (leb s.table.link.symbols i.0) (λ b. rw (a, b))
        (λ b.
        by-test (eqb (state_at s.table.symbols i.0) 2) (λ c. rw (a, b, c))
        (λ c.
        by-test (eqb kind 2)
        (λ d.
        let u : y.0 ≢ at = λ e. q (cells-section i (leb-false _ _ b) (eqb-false _ _ c) (eqb-true _ _ d) (sym e)) in
        rw (a, b, c, d) (dropped-other s.table.link s.table.sections at y.0 u))
        (λ d. rw (a, b, c, d)))))
        (λ a. rw a)

    -- "`remove` of any `Section` row drops that entry"
    pub removed-none : call_number (remove i) s ≡ 0 → SectionRow s y i → call_left (section_symbol y) then ≡ None
    removed-none ok q = answer-none then y (by-link (λ (v : ℕ). v ≡ 0) (removed-cell ok q))

    -- and no other
    pub removed-other : (SectionRow s y i → ⊥) → call_left (section_symbol y) then ≡ call_left (section_symbol y) s
    removed-other q =
        answer-same s then y (by-link (λ (v : ℕ). v ≡ symbol_in s.table y.0) (kept-cell q)) (ap (λ (l : Link). l.symbols) (remove-link s.table.link rows i))

  -- ---- a collection

  module _ (marks : List ℕ) (entry : Option SymbolId) (work : List ℕ) (a c : ℕ) (e : (call_left (collect marks entry work) s).answer ≡ Ok (drop_counts a c)) where
    abbrev Before : Type 0
    Before = CollectionLaws.Before s.table.link (lists_in s marks) s.table.symbols s.table.sections entry work y.0

    abbrev Reached : Type 0
    Reached = Roots.Reached s.table.link (lists_in s marks) s.table.symbols s.table.sections entry y.0

    abbrev collected : Linked
    collected = call_next (collect marks entry work) s

    gone : CollectionLaws.Removed s.table.link (lists_in s marks) s.table.symbols s.table.sections entry work
    gone = CollectionLaws.removes s.table.link (lists_in s marks) s.table.symbols s.table.sections entry work a c e

    lies : (i : SymbolId) → SectionRow s y i → CollectionLaws.Lies s.table.link (lists_in s marks) s.table.symbols s.table.sections entry work i.0 y.0
    lies i q =
        let p = got-is s met k g i _ q.got in
        let (u, v) = section-cells i q in
        record { issued = p.counted; present = p.there; valued = Roots.section u; lies = v }

    -- the same cell of the same length
    same-cell : section_cell collected.table.link (length collected.table.sections) y.0 ≡ section_cell s.table.link (length s.table.sections) y.0
    same-cell =
        let p = run_past s.table.link s.table.symbols s.table.sections (lists_in s marks) entry work in
        ap (λ (l : Link). section_cell l (length collected.table.sections) y.0) p.link
        ∙ ap (λ (n : ℕ). section_cell s.table.link n y.0) p.sections-long

    long : length collected.table.sections ≡ length s.table.sections
    long = (run_past s.table.link s.table.symbols s.table.sections (lists_in s marks) entry work).sections-long

    -- the cell where it is lent, else none
    by-cell : (v : ℕ) → get_or collected.table.sections (s.table.link.slots * 8 + y.0) 0 ≡ v
        → (length s.table.sections ≤ section_cell s.table.link (length s.table.sections) y.0 → 0 ≡ v) → symbol_in collected.table y.0 ≡ v
    by-cell v p q =
        let l : Link = s.table.link in
        let n : ℕ = length s.table.sections in
        ap (λ (m : ℕ). get_or collected.table.sections m 0) same-cell
        ∙ by-test (ltb (section_cell l n y.0) n)
        (λ b. ap (λ (m : ℕ). get_or collected.table.sections m 0) (cell_at l n y.0 (ltb-true _ _ b)) ∙ p)
        (λ b.
        let h : n ≤ section_cell l n y.0 = ltb-false _ _ b in
        get_or-eq_default collected.table.sections 0 {n = section_cell l n y.0} (omega (arith, long, h)) ∙ q h)

    -- "Dropped sections go by ascending id, their symbols' rows with them"
    pub collected-none : (i : SymbolId) → SectionRow s y i → Before → (Reached → ⊥) → call_left (section_symbol y) collected ≡ None
    collected-none i q b r =
        answer-none collected y (by-cell 0 (gone.entry_dropped i.0 y.0 (lies i q) (section-cells i q).0 b r) (λ h. refl))

    pub collected-other : ((i : SymbolId) → SectionRow s y i → Before → Reached) → call_left (section_symbol y) collected ≡ call_left (section_symbol y) s
    collected-other q =
        let l : Link = s.table.link in
        let x : List ℕ = s.table.sections in
        let n : ℕ = length x in
        let stays : get_or collected.table.sections (l.slots * 8 + y.0) 0 ≡ get_or x (l.slots * 8 + y.0) 0 =
        gone.entry_stays y.0 (λ i m k. q (record { 0 = i }) (cells-section (record { 0 = i }) m.issued m.present k m.lies)) in
        answer-same s collected y
        (by-test (ltb (section_cell l n y.0) n)
        (λ b. by-cell _ (stays ∙ ap (λ (m : ℕ). get_or x m 0) (sym (cell_at l n y.0 (ltb-true _ _ b)))) (λ h. absurd (omega (arith, h, ltb-true (section_cell l n y.0) n b))))
        (λ b.
        let h : n ≤ section_cell l n y.0 = ltb-false _ _ b in
        ap (λ (m : ℕ). get_or collected.table.sections m 0) same-cell
        ∙ get_or-eq_default collected.table.sections 0 {n = section_cell l n y.0} (omega (arith, long, h))
        ∙ sym (get_or-eq_default x 0 {n = section_cell l n y.0} h)))
        (ap (λ (m : Link). m.symbols) (run_past l s.table.symbols x (lists_in s marks) entry work).link)
