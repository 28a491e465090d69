-- The statements about the symbol table: the terms of acceptance, document 02's requests, the known places where gABI differs. The longer proofs stand
-- in the other files.
-- Assumes nothing.
use Rattle.std.specs.Prelude.{ℕ, ◌^◌, ◌<◌, ◌≤◌, ◌≡◌, refl, Bool, true, false, cond, eqb, List, [], ◌∷◌, ◌++◌, ◌≢◌, Ok}
use Rattle.std.specs.Int.{is_power_of_two}
use Rattle.std.proofs.Common.{sym, ap, ◌∙◌, subst}
use Rattle.link.specs.Said.{number_in, value_in}
use Rattle.link.specs.declared.Interned.{Interned}
use Rattle.gabi.specs.SymbolTable.{Sym, stv_hidden, is_global, is_weak, is_reference, is_definition, is_common}
use Rattle.gabi.specs.Visibility.{rank, combine, combined}
use Rattle.gabi.specs.Resolution as Gabi
use Rattle.gabi.specs.Resolution.{duplicate, unresolved, is_global_definition, is_common_definition, is_weak_definition, is_global_reference, has, resolve}
use Rattle.symbol.specs.RowLaws.{symbol_of}
use Rattle.symbol.specs.declared.Row.{Row}
use Rattle.symbol.specs.declared.SymbolVisibility.TheVariants.{Global}
use Rattle.symbol.specs.declared.SymbolValue.TheVariants.{Undefined}
use Rattle.symbol.specs.declared.Words.{Words}
use Rattle.symbol.specs.Codes.{visibility_at, value_at, alignment_of}
use Rattle.symbol.specs.Hidden.{hidden_code, hide_code, passes, hide_if}
use Rattle.symbol.specs.Row.{field, scope_refused, value_refused}
use Rattle.symbol_resolution.specs.Holder.{global_at}
use Rattle.symbol_resolution.specs.Decision.{Refuse, Replace}
use Rattle.symbol_resolution.specs.Decide.{weak_of, rank_of, type_refusal, replace_of, ranked_of}
use Rattle.symbol_resolution.specs.Apply.{Table}
use Rattle.symbols.specs.New.{new_of}
use Rattle.symbols.specs.Lookup.{not_found, get_global_of}
use Rattle.upcoming_symbol.specs.declared.UpcomingSymbol.{UpcomingSymbol}
use Rattle.upcoming_symbol.specs.Judge.{shown_of, hidden_of, judge_of}
use Rattle.upcoming_symbol.specs.Upcoming.{in_section, converted_of, undefined_of, value_of, elf_row_of, library_code, external_row_of}
use Rattle.symbols.specs.Add.{add_of}
use Rattle.symbol_laws.specs.Rank.{ranked, best, highest, first_by_rank, joined_in}
use Rattle.symbol_laws.proofs.Rank as RankLaws
use Rattle.symbol.specs.Row.{row_at}
use Rattle.symbol_laws.specs.History.{State, opened, Entry, only, rows, Part, put_of, run_parts, log_parts, Call, add, intern, call_next, call_number, run_calls, log_calls, Removes, RemovesNothing}
use Rattle.symbol_laws.specs.Held.{Inv}
use Rattle.symbol_laws.proofs.Start.{new-inv}
use Rattle.symbol_laws.proofs.Calls.{call-refused, parts-keep, calls-keep}
use Rattle.symbol_laws.specs.Hidden.{is_hidden, some_hidden, attribute}
use Rattle.symbol_laws.specs.Standing.{hidden_by, SameButHidden}
use Rattle.symbol_laws.proofs.Standing as StandingLaws
use Rattle.symbol_laws.proofs.Profile as Profile
use Rattle.symbol_laws.specs.Demand as Demand
use Rattle.symbol_laws.proofs.Demand as DemandLaws
use Rattle.symbol_laws.specs.Within as Within
use Rattle.symbol_laws.proofs.Within as WithinLaws
use Rattle.symbol_laws.proofs.BelowLemmas.{inv-below}
use Rattle.symbol_laws.specs.Writes as Writes
use Rattle.symbol_laws.proofs.WritesLemmas as WritesLaws
use Rattle.symbol_laws.specs.Gabi.{Means, AllMean, sym_of_row, syms_of, sym_of}
use Rattle.symbol_laws.proofs.Gabi.{combined-rows, means-own, all-mean-own}
use Rattle.symbol_laws.specs.Agreement as Agreement
use Rattle.symbol_laws.proofs.Agreement as AgreementLaws
use Rattle.symbol_laws.proofs.Duplicate as Duplicate
use Rattle.symbol_laws.specs.BindingTable.{entry, formula}
use Rattle.symbol_laws.proofs.BindingTable as BindingTable
use Rattle.symbol_laws.specs.DirectContents.{IsAlignment}
use Rattle.symbol_laws.proofs.Alignment as Alignment
use Rattle.symbol_laws.specs.Differences.{elf, row, library_row, second}

-- of the calls only a removal removes, so adds and interns of every kind may stand in a sequence that removes nothing
pub add-removes-nothing : (conversion : List ℕ) (u : UpcomingSymbol) (s : State) → Removes (add conversion u) s → ⊥
add-removes-nothing conversion u s r = r

pub intern-removes-nothing : (x : List ℕ) (s : State) → Removes (intern x) s → ⊥
intern-removes-nothing x s r = r

-- "Let a link be a new table", in either profile
module _ (key : ℕ) (gabi : Bool) (bytes names symbols sections : List ℕ) (new : number_in (new_of key gabi bytes names symbols sections).said ≡ 0) where
  abbrev pub start : State
  start = opened (new_of key gabi bytes names symbols sections)

  -- for names issued and rows added one by one, as every call does
  pub rows-3a : (ps : List Part) (n : ℕ) (x : Entry) (xs : List Entry) → only n (log_parts ps start) ≡ x ∷ xs → Demand.Resolved gabi (run_parts ps start) n x xs
  rows-3a ps n x xs e =
      subst (λ (g : Bool). Demand.Resolved g (run_parts ps start) n x xs)
      (Profile.parts-profile ps start ∙ Profile.new-profile key gabi bytes names symbols sections new)
      (DemandLaws.resolved _ _ (parts-keep ps start [] (new-inv key gabi bytes names symbols sections new)) n x xs e)

  -- "and any sequence of calls that removes nothing"
  module _ (ks : List Call) (quiet : RemovesNothing ks start) where
    abbrev pub end : State
    end = run_calls ks start

    -- a name's accepted adds, "local adds set aside"
    abbrev pub adds : ℕ → List Entry
    adds n = only n (log_calls ks start)

    kept : Inv end (log_calls ks start)
    kept = calls-keep ks start [] quiet (new-inv key gabi bytes names symbols sections new)

    within : Within.Within end.link end.names
    within = WithinLaws.calls-within ks start quiet (WithinLaws.new-within key gabi bytes names symbols sections new)

    -- no call changes the profile
    pub profile : end.link.gabi ≡ gabi
    profile = Profile.calls-profile ks start ∙ Profile.new-profile key gabi bytes names symbols sections new

    -- "each global name has the id of its first accepted add and the content of its first accepted strong definition, else weak
    -- definition, else add"; 2026-06: "else the commons joined, else as before". In the old profile that is the whole row, in gABI's hidden is apart from it
    pub demand-3a : (n : ℕ) (x : Entry) (xs : List Entry) → adds n ≡ x ∷ xs → Demand.Resolved gabi end n x xs
    demand-3a n x xs e = subst (λ (g : Bool). Demand.Resolved g end n x xs) profile (DemandLaws.resolved end _ kept n x xs e)

    -- the row apart from hidden, in both
    pub content-3a : (n : ℕ) (x : Entry) (xs : List Entry) → adds n ≡ x ∷ xs → SameButHidden (row_at end.symbols x.id) (joined_in (rows (x ∷ xs)) (first_by_rank gabi x.row (rows xs)))
    content-3a n x xs e = DemandLaws.content-apart end n x xs gabi (demand-3a n x xs e)

    -- hidden in the gABI profile
    pub hidden-3a : (n : ℕ) (x : Entry) (xs : List Entry) → adds n ≡ x ∷ xs → gabi ≡ true → is_hidden (row_at end.symbols x.id) ≡ some_hidden (rows (x ∷ xs))
    hidden-3a n x xs e g = DemandLaws.hidden-gabi end n x xs (subst (λ (g : Bool). Demand.Resolved g end n x xs) g (demand-3a n x xs e))

    -- what a lookup by the name then answers
    pub lookup-row : (n : ℕ) (x : Entry) (xs : List Entry) → adds n ≡ x ∷ xs
        → get_global_of end.link end.names end.symbols (record { 0 = n }) ≡ Ok (symbol_of (record { 0 = x.id }) (hidden_by gabi (rows (x ∷ xs)) (joined_in (rows (x ∷ xs)) (first_by_rank gabi x.row (rows xs)))))
    lookup-row n x xs e =
        WithinLaws.lookup-row end _ kept within n x xs e
        ∙ ap (λ (g : Bool). Ok (symbol_of (record { 0 = x.id }) (hidden_by g (rows (x ∷ xs)) (joined_in (rows (x ∷ xs)) (first_by_rank g x.row (rows xs)))))) profile

    -- a name without accepted global add has no row, issued or not
    pub no_row : (n : ℕ) → adds n ≡ [] → n < end.link.names → global_at end.names n ≡ 0
    no_row n e i = DemandLaws.no_row end _ kept n e i

    pub lookup-none : (n : ℕ) → adds n ≡ [] → get_global_of end.link end.names end.symbols (record { 0 = n }) ≡ not_found 23 0
    lookup-none = WithinLaws.lookup-none end _ kept within

    -- "Rows past the count are never written": by one more call, accepted or refused, a removal too
    pub past-the-count : (k : Call) → Writes.Untouched end (call_next k end)
    past-the-count k = WritesLaws.call-past end (inv-below end _ kept) k

    -- an id once given to a name stays its own
    pub ids-stay : (ls : List Call) → RemovesNothing ls end → (n : ℕ) → n < end.link.names → global_at end.names n ≢ 0
        → Writes.Bears (run_calls ls end) n (global_at end.names n)
    ids-stay ls q n i z = WritesLaws.stays end (run_calls ls end) _ _ kept (calls-keep ls end _ q kept) n i z

    -- ---- demand 2: agreement with the gABI

    -- whichever symbols the rows mean
    pub gabi-agrees-any : (n : ℕ) (x : Entry) (xs : List Entry) → adds n ≡ x ∷ xs → (s : Sym) (ss : List Sym) → AllMean (rows (x ∷ xs)) (s ∷ ss)
        → Agreement.Agrees gabi x.row (rows xs) s ss (row_at end.symbols x.id) (resolve (s ∷ ss))
    gabi-agrees-any n x xs e s ss m =
        subst (λ (g : Bool). Agreement.Agrees g x.row (rows xs) s ss (row_at end.symbols x.id) (resolve (s ∷ ss))) profile
        (AgreementLaws.accepted end _ kept n x xs e s ss m)

    -- of the symbols that are accepted under a name the gABI resolves to the one that the row has; undefined where it has none
    pub gabi-agrees : (n : ℕ) (x : Entry) (xs : List Entry) → adds n ≡ x ∷ xs
        → Agreement.Agrees gabi x.row (rows xs) (sym_of_row x.row) (syms_of (rows xs)) (row_at end.symbols x.id) (resolve (syms_of (rows (x ∷ xs))))
    gabi-agrees n x xs e = gabi-agrees-any n x xs e _ _ (all-mean-own (rows (x ∷ xs)))

    -- and in the gABI profile the row's visibility is the one that the gABI gives to that symbol
    pub gabi-visible : (n : ℕ) (x : Entry) (xs : List Entry) → adds n ≡ x ∷ xs → gabi ≡ true → attribute (is_hidden (row_at end.symbols x.id)) ≡ combined (syms_of (rows (x ∷ xs)))
    gabi-visible n x xs e g = ap attribute (hidden-3a n x xs e g) ∙ sym (combined-rows (rows (x ∷ xs)))

    -- a further add is refused with 17 exactly where the gABI sees a duplicate
    module _ (r : Row) (x : Entry) (xs : List Entry) (e : adds r.name.0 ≡ x ∷ xs) (global : r.scope ≢ 0) (passes : scope_refused r ≡ false)
        (valued : value_refused r ≡ false) where
      abbrev own : AllMean (rows (x ∷ xs)) (syms_of (rows (x ∷ xs)))
      own = all-mean-own (rows (x ∷ xs))

      pub duplicate-refused : resolve (syms_of (rows (x ∷ xs)) ++ (sym_of_row r ∷ [])) ≡ duplicate → number_in (put_of end r).said ≡ 17
      duplicate-refused = Duplicate.duplicate-refused end _ kept r x xs e global passes valued _ _ own _ (means-own r)

      pub refused-duplicate : number_in (put_of end r).said ≡ 17 → resolve (syms_of (rows (x ∷ xs)) ++ (sym_of_row r ∷ [])) ≡ duplicate
      refused-duplicate = Duplicate.refused-duplicate end _ kept r x xs e global passes valued _ _ own _ (means-own r)

      -- whichever symbols the rows mean
      module _ (s : Sym) (ss : List Sym) (m : AllMean (rows (x ∷ xs)) (s ∷ ss)) (g : Sym) (mine : Means r g) where
        pub duplicate-refused-any : resolve ((s ∷ ss) ++ (g ∷ [])) ≡ duplicate → number_in (put_of end r).said ≡ 17
        duplicate-refused-any = Duplicate.duplicate-refused end _ kept r x xs e global passes valued s ss m g mine

        pub refused-duplicate-any : number_in (put_of end r).said ≡ 17 → resolve ((s ∷ ss) ++ (g ∷ [])) ≡ duplicate
        refused-duplicate-any = Duplicate.refused-duplicate end _ kept r x xs e global passes valued s ss m g mine

-- for any rank of rows: the first row of the greatest rank is the first of rank k, else of the rank below, and so on, if no rank is above k
pub best-highest : (rank : Row → ℕ) (c : Row) (xs : List Row) (k : ℕ) → rank (best rank c xs) ≤ k → best rank c xs ≡ highest rank k c xs
best-highest = RankLaws.best-highest

-- so of the ranks that rows have in each profile it is the documents' wording
pub best-terms : (gabi : Bool) (c : Row) (xs : List Row) → best (ranked gabi) c xs ≡ first_by_rank gabi c xs
best-terms = RankLaws.best-terms

-- "leaves behind what that table says": every refusal of these calls leaves all
pub refusals-leave-all : (k : Call) (s : State) → call_number k s ≢ 0 → call_next k s ≡ s
refusals-leave-all = call-refused

-- an add writes no symbol row but the one whose id it answers
pub one-row : (t : Table) (conversion : List ℕ) (u : UpcomingSymbol) (j f : ℕ) → f < 8 → j ≢ value_in (add_of t conversion u).said
    → field (add_of t conversion u).table.symbols j f ≡ field t.symbols j f
one-row = WritesLaws.add-one-row

-- ---- requests

-- 2026-02: "Adds from shared objects hide no row, not even one they hold"
pub library-shown : (name : Interned) (b v : ℕ) → is_hidden (external_row_of true name b v) ≡ false
library-shown = StandingLaws.library-shown

-- 2026-03: "Every pair of codes judges as before": what the contract of every add cites, `judge_of`, is the old table's entry
pub judged-before : (b v : ℕ) → b < 16 → v < 4 → judge_of b v ≡ entry b v
judged-before = BindingTable.judged-before

-- and the request's formula
pub judged-by-formula : (b v : ℕ) → b < 16 → v < 4 → judge_of b v ≡ formula b v
judged-by-formula = BindingTable.judged-by-formula

-- 2026-06: "alignment zero or no power of two": of the numbers of 64 bits the test is passed by 2 ^ k for each k up to 63, and by no other
pub power-alignment : (a : ℕ) → a < 2 ^ 64 → is_power_of_two a ≡ true → IsAlignment a
power-alignment = Alignment.power-alignment

pub alignment-power : (a : ℕ) → IsAlignment a → is_power_of_two a ≡ true
alignment-power = Alignment.alignment-power

-- 2026-06: "an alignment: a common's value field, as in gABI, else 0", of the value that a row's words hold
pub alignment-is : (w : Words) → alignment_of (value_at w) ≡ cond (eqb w.kind 8) w.a 0
alignment-is = Alignment.alignment-is

-- ---- "Known places where gABI differs": those of the symbol table, each with its smallest input

-- "a strong reference after a weak one leaves the row weak": unresolved by the gABI, zero in the table, and weak
pub weak-reference-stays :
    (resolve (sym_of (elf 2 0 0) ∷ sym_of (elf 1 0 0) ∷ []) ≡ unresolved)
    × (value_at (first_by_rank false (row (elf 2 0 0)) (row (elf 1 0 0) ∷ [])).value ≡ Undefined true)
    × (visibility_at (first_by_rank false (row (elf 2 0 0)) (row (elf 1 0 0) ∷ [])).scope ≡ Global true false)
unfolding resolve has Gabi.count is_global_definition is_common_definition is_weak_definition is_global_reference is_global is_weak is_reference is_definition is_common visibility_at value_at weak_of shown_of hidden_of judge_of in_section converted_of undefined_of value_of elf_row_of
weak-reference-stays = (refl, refl, refl)

-- in the gABI profile it turns the row strong (2026-07)
pub strong-reference-taken :
    (value_at (first_by_rank true (row (elf 2 0 0)) (row (elf 1 0 0) ∷ [])).value ≡ Undefined false)
    × (visibility_at (first_by_rank true (row (elf 2 0 0)) (row (elf 1 0 0) ∷ [])).scope ≡ Global false false)
unfolding visibility_at value_at weak_of shown_of hidden_of judge_of in_section converted_of undefined_of value_of elf_row_of
strong-reference-taken = (refl, refl)

-- "hidden isn't passed on to another holder": a hidden weak definition, then a strong one that isn't
pub hidden-not-passed-on :
    (combined (sym_of (elf 2 2 1) ∷ sym_of (elf 1 0 1) ∷ []) ≡ stv_hidden)
    × (visibility_at (first_by_rank false (row (elf 2 2 1)) (row (elf 1 0 1) ∷ [])).scope ≡ Global false false)
unfolding combined combine rank visibility_at weak_of shown_of hidden_of judge_of in_section converted_of undefined_of value_of elf_row_of
hidden-not-passed-on = (refl, refl)

-- in the gABI profile it is
pub hidden-passed-on :
    visibility_at (hidden_by true (row (elf 2 2 1) ∷ row (elf 1 0 1) ∷ []) (first_by_rank true (row (elf 2 2 1)) (row (elf 1 0 1) ∷ []))).scope ≡ Global false true
unfolding visibility_at weak_of shown_of hidden_of judge_of in_section converted_of undefined_of value_of elf_row_of hidden_code hide_code hide_if
hidden-passed-on = refl

-- ---- a shared object's definition is a definition of the link

-- beside an object's strong definition 17, in either order; an object's weak one it replaces. The gABI's chapters on dynamic linking, which gabi doesn't
-- have, see no error, and find the object's in both
pub library-defines :
    (second (row (elf 1 0 1)) (library_row 1) ≡ Refuse 17)
    × (second (library_row 1) (row (elf 1 0 1)) ≡ Refuse 17)
    × (second (row (elf 2 0 1)) (library_row 1) ≡ Replace (record { 0 = 1 }))
    × (first_by_rank false (row (elf 2 0 1)) (library_row 1 ∷ []) ≡ library_row 1)
unfolding weak_of rank_of type_refusal replace_of ranked_of shown_of hidden_of judge_of in_section converted_of undefined_of value_of elf_row_of passes library_code external_row_of
library-defines = (refl, refl, refl, refl)
