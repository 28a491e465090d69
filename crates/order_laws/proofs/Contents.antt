-- The rows of a name that the list's adds would become: the strong definition among them, and whether one is hidden.
-- Assumes nothing.
use Rattle.std.specs.Prelude.{ℕ, zero, suc, ◌≤◌, ◌<◌, ◌≡◌, refl, Bool, true, false, List, [], ◌∷◌, ◌++◌, ◌≢◌, eqb, length, Option, slice_index_or, All, Contains, count_by}
use Rattle.std.specs.List.{list_any}
use Rattle.std.proofs.Common.{arith, sym, ap, ◌∙◌, subst, eq-eqb, append_assoc}
use Rattle.std.proofs.lemmas.Bool.{false≢true}
use Rattle.cells.specs.Proof.Split.{by-test}
use Rattle.gabi.specs.SymbolTable.{stv_hidden, is_global}
use Rattle.link.specs.declared.Interned.{Interned}
use Rattle.link.specs.Said.{number_in}
use Rattle.symbol.specs.declared.Row.{Row}
use Rattle.symbol.specs.declared.SymbolVisibility.TheVariants.{Global}
use Rattle.symbol.specs.Codes.{type_at, file_at, visibility_at, value_at}
use Rattle.symbol.specs.Hidden.{hide_if}
use Rattle.upcoming_symbol.specs.declared.ElfSymbol.{ElfSymbol}
use Rattle.upcoming_symbol.specs.declared.UpcomingSymbol.{UpcomingSymbol}
use Rattle.upcoming_symbol.specs.declared.UpcomingSymbol.TheVariants.{Null, GlobalUnknown, GlobalHidden, Section, ExternallyDefined, Elf}
use Rattle.symbols.specs.Add.{empty_at}
use Rattle.symbol_laws.specs.ContentWords.{IsType}
use Rattle.symbol_laws.specs.DirectContents.{ElfValue, FromAdd, Labelled}
use Rattle.symbol_laws.specs.DirectContents as Direct
use Rattle.symbol_laws.proofs.DirectContents.{from-add}
use Rattle.symbol_laws.specs.Gabi.{sym_of}
use Rattle.symbol_laws.specs.Hidden.{some_hidden}
use Rattle.symbol_laws.specs.Rank.{count, first, strong_definition}
use Rattle.symbol_laws.proofs.Rank.{count-append}
use Rattle.symbol_laws.specs.Standing.{SameButHidden, hidden_by}
use Rattle.symbol_laws.proofs.Standing.{any_append, hide-rest, same_by}
use Rattle.symbol_laws.specs.History.{State, table, put_of, upcoming}
use Rattle.order_laws.specs.Premises.{EntryPasses, Passes, adds_to, is_strong_definition}
use Rattle.order_laws.specs.Order.{is_hidden_global, hidden_among, ContentOf}
use Rattle.order_laws.proofs.Entries as Entries
use Rattle.order_laws.proofs.Named.{named, count-cons, not-local, counted-named, hidden-named, named-own}
use Rattle.order_laws.proofs.Run.{by-row, named_rows}

-- ---- the one row that passes a test

module _ (p : Row → Bool) (x : Row) (e : p x ≡ true) where
  counted : (b : List Row) → 1 ≤ count p (x ∷ b)
  counted b = rw e (omega arith)

  -- x after a; nothing else of the list passes
  pub only-one : (a b : List Row) (d : Row) → count p (a ++ x ∷ b) ≤ 1 → first p (a ++ x ∷ b) d ≡ x
  only-one [] b d h = rw e
  only-one (y ∷ a) b d h =
      by-test (p y)
      (λ t.
      let two : count p ((y ∷ a) ++ x ∷ b) ≡ suc (count p (a ++ x ∷ b)) = rw t in
      absurd (omega (arith, h, two, count-append p a (x ∷ b), counted b)))
      (λ t. let k : count p (a ++ x ∷ b) ≤ 1 = rw t at h in rw t (only-one a b d k))

-- ---- the rows of a name

-- a row of the name, hidden by these adds as the profile has it
abbrev pub settled : Bool → List UpcomingSymbol → Interned → Row → Row
settled false us name r = r
settled true us name r = hide_if (list_any (adds_to name is_hidden_global) us) r

module _ (s : State) (conversion : List ℕ) where
  -- ---- of the whole list

  module _ (m : Interned) where
    pub counted-rows : (us : List UpcomingSymbol) → All (Passes s conversion) us → count strong_definition (named_rows s conversion m.0 us) ≤ count_by (adds_to m is_strong_definition) us
    counted-rows =
        by-row s conversion (λ us. count strong_definition (named_rows s conversion m.0 us) ≤ count_by (adds_to m is_strong_definition) us) (omega arith)
        (λ e name file us p i.
        let u : UpcomingSymbol = Elf e name file in
        let sum = count-append strong_definition (named m.0 (upcoming s conversion u)) (named_rows s conversion m.0 us) in
        omega (arith, i, sum, counted-named s.link.gabi conversion e name file (empty_at s.names name) p.scope p.section m, count-cons (adds_to m is_strong_definition) u us))

    pub hidden-rows : (us : List UpcomingSymbol) → All (Passes s conversion) us → some_hidden (named_rows s conversion m.0 us) ≡ list_any (adds_to m is_hidden_global) us
    hidden-rows =
        by-row s conversion (λ us. some_hidden (named_rows s conversion m.0 us) ≡ list_any (adds_to m is_hidden_global) us) refl
        (λ e name file us p i.
        any_append (named m.0 (upcoming s conversion (Elf e name file))) (named_rows s conversion m.0 us) ∙ rw (hidden-named s.link.gabi conversion e name file (empty_at s.names name) p.scope p.section m, i) refl)

  module _ (e : ElfSymbol) (name : Interned) (file : Option Interned) (p : EntryPasses s conversion e name file) (strong : is_strong_definition e ≡ true) where
    abbrev pub own : Row
    own = upcoming s conversion (Elf e name file)

    pub record Split (us : List UpcomingSymbol) : Type 0 where
      pub before : List Row
      pub after : List Row
      pub place : named_rows s conversion name.0 us ≡ before ++ own ∷ after

    split-at : (us : List UpcomingSymbol) (k : ℕ) → k < length us → slice_index_or us k (Elf e name file) ≡ Elf e name file → Split us
    split-at [] k h q = absurd (omega arith)
    split-at (v ∷ us) zero h q =
        record {
          before = [];
          after = named_rows s conversion name.0 us;
          place =
              ap (λ (w : UpcomingSymbol). named name.0 (upcoming s conversion w) ++ named_rows s conversion name.0 us) q
              ∙ ap (λ (l : List Row). l ++ named_rows s conversion name.0 us) (named-own s.link.gabi conversion e name file (empty_at s.names name) p.scope p.section strong);
        }
    split-at (v ∷ us) (suc k) h q =
        let i = split-at us k (omega arith) q in
        let l : List Row = named name.0 (upcoming s conversion v) in
        record {
          before = l ++ i.before;
          after = i.after;
          place = ap (λ (w : List Row). l ++ w) i.place ∙ sym (append_assoc l i.before (own ∷ i.after));
        }

    pub split : (us : List UpcomingSymbol) → Contains us (Elf e name file) → Split us
    split us c = split-at us c.0 c.1 c.2

    own-strong : strong_definition own ≡ true
    own-strong =
        Entries.strong-is s.link.gabi conversion e name file (empty_at s.names name) p.section p.scope (not-local e strong) ∙ strong

    -- it is the first of its name's rows that is one
    pub first-strong : (us : List UpcomingSymbol) → All (Passes s conversion) us → count_by (adds_to name is_strong_definition) us ≤ 1
        → Contains us (Elf e name file) → (d : Row) → first strong_definition (named_rows s conversion name.0 us) d ≡ own
    first-strong us h one c d =
        let x = split us c in
        let few : count strong_definition (named_rows s conversion name.0 us) ≤ 1 = omega (arith, counted-rows name us h, one) in
        ap (λ (l : List Row). first strong_definition l d) x.place
        ∙ only-one strong_definition own own-strong x.before x.after d (subst (λ (l : List Row). count strong_definition l ≤ 1) x.place few)

    -- ---- its content

    abbrev empty_name : Bool
    empty_name = empty_at s.names name

    abbrev Says : UpcomingSymbol → Type 0
    Says (Elf e n f) = Labelled own n f e.size × IsType e.kind (type_at own.kind) × ElfValue conversion empty_name e (value_at own.value)
    Says Null = Unit {0}
    Says (GlobalUnknown n) = Unit {0}
    Says (GlobalHidden n value) = Unit {0}
    Says (Section section) = Unit {0}
    Says (ExternallyDefined n visibility binding) = Unit {0}

    said : (v : UpcomingSymbol) → FromAdd s.link.gabi conversion empty_name own v → Says v
    said v (Direct.unknown n a b c d) = tt
    said v (Direct.hidden n value a b c d q r) = tt
    said v (Direct.external n visibility binding q a b c d) = tt
    said v (Direct.elf k n f q a b c d) = (a, b, d)

    rest : (gabi : Bool) (us : List UpcomingSymbol) → SameButHidden (settled gabi us name own) own
    rest false us = same_by false [] own
    rest true us = hide-rest (list_any (adds_to name is_hidden_global) us) own

    any-own : (us : List UpcomingSymbol) (k : ℕ) → k < length us → slice_index_or us k (Elf e name file) ≡ Elf e name file
        → list_any (adds_to name is_hidden_global) us ≡ false → adds_to name is_hidden_global (Elf e name file) ≡ false
    any-own [] k h q z = absurd (omega arith)
    any-own (v ∷ us) zero h q z =
        by-test (adds_to name is_hidden_global v) (λ a. absurd (false≢true (sym (rw a at z)))) (λ a. sym (ap (adds_to name is_hidden_global) q) ∙ a)
    any-own (v ∷ us) (suc k) h q z =
        any-own us k (omega arith) q (by-test (adds_to name is_hidden_global v) (λ a. absurd (false≢true (sym (rw a at z)))) (λ a. rw a at z))

    global : is_global (sym_of e) ≡ true
    global = by-test (is_global (sym_of e)) (λ a. a) (λ a. absurd (false≢true (rw a at strong)))

    scope : (gabi : Bool) (us : List UpcomingSymbol) → Contains us (Elf e name file) → visibility_at (settled gabi us name own).scope ≡ Global false (hidden_among gabi us e name)
    unfolding hide_if
    scope false us c = Entries.shown-is s.link.gabi conversion e name file empty_name p.scope global
    scope true us c =
        by-test (list_any (adds_to name is_hidden_global) us) (λ a. rw a (Entries.hides-is s.link.gabi conversion e name file empty_name p.scope global))
        (λ a.
        let z : adds_to name is_hidden_global (Elf e name file) ≡ false = any-own us c.0 c.1 c.2 a in
        let q : eqb e.visibility stv_hidden ≡ false = rw (eq-eqb name.0 name.0 refl, not-local e strong) at z in
        rw a (Entries.shown-is s.link.gabi conversion e name file empty_name p.scope global ∙ ap (λ (b : Bool). Global false b) q))

    labelled : (x : Row) → SameButHidden x own → Labelled own name file e.size → Labelled x name file e.size
    labelled x q l = record { named = q.name ∙ l.named; filed = λ h. ap file_at q.file ∙ l.filed h; sized = q.size ∙ l.sized }

    pub content-of : (gabi : Bool) (us : List UpcomingSymbol) → Contains us (Elf e name file) → number_in (put_of s own).said ≡ 0 → ContentOf gabi s conversion us e name file (settled gabi us name own)
    content-of gabi us c accepted =
        let q = rest gabi us in
        let (l, k, v) = said (Elf e name file) (from-add (table s) s.link.gabi conversion empty_name (Elf e name file) accepted visible) in
        record {
          labelled = labelled (settled gabi us name own) q l;
          type = subst (λ (n : ℕ). IsType e.kind (type_at n)) (sym q.kind) k;
          scope = scope gabi us c;
          value = rw q.value v;
        }
      where
        visible : own.scope ≢ 0
        visible z = absurd (false≢true (sym (Entries.local-is s.link.gabi conversion e name file empty_name p.scope ∙ not-local e strong) ∙ eq-eqb _ _ z))

    -- hidden by the adds of its name in any arrangement, it is that row
    pub settled-by : (gabi : Bool) (us : List UpcomingSymbol) (l : List Row) → some_hidden l ≡ list_any (adds_to name is_hidden_global) us → hidden_by gabi l own ≡ settled gabi us name own
    settled-by false us l q = refl
    settled-by true us l q = ap (λ (h : Bool). hide_if h own) q
