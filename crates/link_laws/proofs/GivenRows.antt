-- The ids that a merge gave the symbols of an object stand for those symbols through all calls that follow: a local's for a row with what its entry says, another's
-- for the row of its name. So what relocations name is told by the object's own symbols.
-- Assumes nothing.
use Rattle.std.specs.Prelude.{ℕ, suc, ◌+◌, ◌*◌, ◌≤◌, ◌<◌, ◌≡◌, refl, true, false, ◌≢◌, eqb, length, None}
use Rattle.std.proofs.Common.{arith, sym, ◌∙◌, get_or-set_same}
use Rattle.std.proofs.Math.Path.{ap, subst}
use mathlib.Core.List.{List, [], ◌∷◌, ◌++◌}
use Rattle.std.proofs.Math.ListN.{get_or}
use borrow.Author.Tests.{eqb-true, eqb-false, eq-eqb, ne_eqb, lt-leb, lt-ltb, ltb-false}
use Rattle.cells.specs.Proof.Split.{by-test}
use Rattle.link.specs.Said.{number_in, value_in}
use Rattle.interner.specs.Names.{fits_of}
use Rattle.interner.specs.Calls.{resolved}
use Rattle.interner_laws.specs.Good.{Issued, Stays, count, name, find}
use Rattle.interner_laws.proofs.Find.{find-known}
use Rattle.interner_laws.proofs.Histories.{stays-both, issued-stays}
use Rattle.interner_laws.proofs.Interns.{keep-issued}
use Rattle.interner_laws.proofs.Judged as Judged
use Rattle.symbol.specs.declared.Row.{Row}
use Rattle.symbol.specs.Codes.{successor}
use Rattle.symbol.specs.Row.{state_at, scope_at}
use Rattle.symbol_resolution.specs.declared.rows.Holder.TheVariants.{Removed, Known}
use Rattle.symbol_resolution.specs.Decision.{Decision}
use Rattle.symbol_resolution.specs.Holder.{global_at, held_by, holder_of}
use Rattle.symbol_resolution.specs.Decide.{refusal_of}
use Rattle.symbol_resolution.specs.Apply.{note_name, append_of, apply_of}
use Rattle.symbols.specs.Calls.{Left}
use Rattle.symbols.specs.Add.{committed_of, add_row_of}
use Rattle.elf_object.specs.Rows.{rows_in}
use Rattle.merge_symbols.specs.Plan.{input_of}
use Rattle.merge_symbols.specs.Stage as Symbols
use Rattle.merge_stages.specs.Stages as Stages
use Rattle.symbol_laws.specs.ObjectWords.{entries_in, entry}
use Rattle.symbol_laws.proofs.View.{Free, View, refused, kept, amended, replaced, appended, local, view, decided}
use Rattle.symbol.specs.Row.{row_at}
use Rattle.symbol_laws.proofs.Rows.{stored_row}
use Rattle.symbol_laws.proofs.Within as Within
use Rattle.symbol_laws.specs.History.{State, table, store, issue, put, put_of, id_of, part_next, object}
use Rattle.merge_laws.specs.Steps.{part, Makes}
use Rattle.merge_elf.specs.Merge as Merge
use Rattle.merge_elf.specs.Merge.{head_in}
use Rattle.merge_build.specs.Relocations.{id_in}
use Rattle.merge_laws.specs.MergeSteps.{adds}
use Rattle.merge_laws.specs.MergeWords as Words
use Rattle.merge_laws.specs.Marked.{Marked, marks_of}
use Rattle.merge_laws.proofs.MarkedLemmas.{steps-marked}
use Rattle.merge_laws.proofs.WorkGroups.{symbols-are, bears-own}
use Rattle.merge_laws.specs.FileNames.{IsFile}
use Rattle.merge_laws.proofs.FileNames.{file-stays, row-file}
use Rattle.merge_laws.specs.ObjectContents as Contents
use Rattle.merge_laws.proofs.ObjectContents as ContentsLaws
use Rattle.merge_laws.specs.SymbolIds.{is_dropped, name_of}
use Rattle.merge_laws.specs.SymbolDuplicates.{Comes, steps_to, row_to}
use Rattle.merge_laws.proofs.SymbolDuplicates.{table_to, steps-make, Begins}
use Rattle.merge_laws.specs.Stops as Stops
use Rattle.merge_laws.proofs.Stops as StopsLaws
use Rattle.merge_laws.specs.Stops.{marked, symbol_reader, symbols_to}
use Rattle.merge_laws.proofs.Discarded.{merge-passes, groups-pass}
use Rattle.merge_laws.proofs.ByNumber.{accepted-stays}
use Rattle.merge_laws.proofs.Accepted.{sections-going, filter_passes, symbols-going, symbol-going}
use Rattle.merge_laws.specs.GivenIds as GivenIds
use Rattle.merge_laws.proofs.BuiltNames as Names
use Rattle.merge_laws.specs.BuiltNames.{AllGive, Gives, null, answered}
use Rattle.merge_laws.specs.Calls.{Linked, all_in}
use Rattle.link_laws.specs.Calls.{Call, resolve, get_global, merge, call_left, call_number, call_next, run_calls}
use Rattle.link_laws.specs.Kept.{signatures}
use Rattle.link_laws.proofs.Kept.{Lasting, lasting-within, lasting-on}
use Rattle.merge_laws.proofs.NamesOn.{steps-stay}
use Rattle.merge_laws.proofs.SymbolNames as SymbolNames
use Rattle.link_laws.proofs.NamesStay as NamesStay
use Rattle.link_laws.proofs.Removal.{Ready, Onward, steps-onward}
use Rattle.link_laws.proofs.LookedUp as LookedUp
use Rattle.link_laws.proofs.LookedUp.{Later, calls-later}
use Rattle.link_laws.specs.LocalRows.{Shown, Onto, Stay}
use Rattle.link_laws.proofs.LocalRows.{onto-both, steps-onto, onto-stay, stay-both, stands-local, calls-stay}
use Rattle.link_laws.specs.GivenRows.{NameHas, gone, row, symbols, names_file, name_bytes, Stands, first, own, shared, AllStand}

-- ---- the words

module _ (s : State) (few : 1 ≤ s.link.symbols) (r : Row) where
  abbrev Rowed : Left → Type 0
  Rowed x = r.scope ≡ 0 → (value_in x.said < x.table.link.symbols) × (row_at x.table.symbols (value_in x.said) ≡ r)

  abbrev Named : Left → Type 0
  Named x = r.scope ≢ 0 → r.name.0 * 8 + 3 < length s.names → (global_at x.table.names r.name.0 ≡ value_in x.said) × (value_in x.said ≢ 0)

  abbrev Both : Left → Type 0
  Both x = Rowed x × Named x

  decides : (d : Decision) → decided (table s) r ≡ d → Both (committed_of (table s) r None d) → Both (put_of s r)
  unfolding add_row_of
  decides d e h = subst (λ (d : Decision). Both (committed_of (table s) r None d)) (sym e) h

  one_more : Free (table s) r → successor s.link.symbols ≡ s.link.symbols + 1
  unfolding successor
  one_more f = rw (lt-ltb s.link.symbols 0xffffffffffffffff (omega (arith, f.few)))

  given : View (table s) r → refusal_of (decided (table s) r) ≡ 0 → Both (put_of s r)
  unfolding committed_of apply_of append_of note_name
  given (refused n e z) ok = absurd (z (sym (ap (λ (d : Decision). refusal_of d) e) ∙ ok))
  given (kept e k z o q p) ok = decides _ e (λ v. absurd (k.global v), λ v l. (refl, z))
  given (amended e k z o q) ok = decides _ e (λ v. absurd (k.global v), λ v l. (refl, z))
  given (replaced e k z o) ok = decides _ e (λ v. absurd (k.global v), λ v l. (refl, z))
  given (appended e f k z) ok =
      decides _ e
      (λ v. absurd (k.global v), λ v l. (rw (ne_eqb _ _ v) (get_or-set_same s.names (r.name.0 * 8 + 3) s.link.symbols 0 l), λ q. omega (arith, few, q)))
  given (local e f v) ok =
      decides _ e (λ z. (omega (arith, one_more f), stored_row s.symbols (record { 0 = s.link.symbols }) r f.packs f.fits), λ u. absurd (u v))

  pub put-given : refusal_of (decided (table s) r) ≡ 0 → Both (put_of s r)
  put-given ok = given (view (table s) r) ok

-- ---- who holds a name

module _ (s : State) (n : ℕ) (h : n < s.link.names) (id : ℕ) (e : global_at s.names n ≡ id) (u : id ≢ 0) (low : id < s.link.symbols) where
  holder-removed : state_at s.symbols id ≡ 2 → holder_of s.link s.names s.symbols (record { 0 = n }) ≡ Removed
  unfolding holder_of held_by
  holder-removed z = rw (lt-leb _ _ h, e, ne_eqb _ _ u, lt-leb _ _ low, eq-eqb _ _ z)

  holder_known : state_at s.symbols id ≢ 2 → holder_of s.link s.names s.symbols (record { 0 = n }) ≡ Known (record { 0 = id })
  unfolding holder_of held_by
  holder_known z = rw (lt-leb _ _ h, e, ne_eqb _ _ u, lt-leb _ _ low, ne_eqb _ _ z)

-- ---- symbol k of an accepted merge, which is added

module _ (s : Linked) (met : List (List ℕ)) (g : Lasting s met) (ready : Ready s.table) (w : Shown s.table) (some : 1 ≤ s.table.link.symbols)
    (o : Stages.Object) (work ids : List ℕ) (ok : call_number (merge o work ids) s ≡ 0) where
  abbrev a : Stages.All
  a = all_in s work ids

  abbrev reader : Symbols.Object
  reader = symbol_reader o a

  head-goes : (head_in o a).number ≡ 0
  head-goes = (merge-passes o a ok).0

  whole : Stops.number o a ≡ 0
  whole = (merge-passes o a ok).1

  -- what the merge's steps before symbol k led to
  to-onto : (k : ℕ) → Onto s.table (table_to o a k)
  to-onto k = let m = steps-make o a k in subst (Onto s.table) m.leads (steps-onto (steps_to o a k) s.table ready w m.accepted)

  to-ready : (k : ℕ) → Ready (table_to o a k)
  to-ready k = let m = steps-make o a k in subst (λ (t : State). Ready t) m.leads (steps-onward (steps_to o a k) s.table ready).ready

  to-marked : (k : ℕ) → Marked (table_to o a k) (met ++ marks_of (steps_to o a k) s.table)
  to-marked k =
      let m = steps-make o a k in
      subst (λ (t : State). Marked t (met ++ marks_of (steps_to o a k) s.table)) m.leads (steps-marked (steps_to o a k) s.table met m.accepted g.marked)

  -- the link right after the merge
  abbrev merged : Linked
  merged = call_next (merge o work ids) s

  module _ (k : ℕ) (low : k < rows_in (Stops.object o a).entries) (keeps : is_dropped reader (symbols_to o a k) k ≡ false) (found : (name_of reader k).found ≡ true)
      (added : adds (input_of reader.entries reader.work) (name_of reader k).name k ≡ true)
      (fine : (Symbols.symbol_of reader (symbols_to o a k) k).stage.number ≡ 0) where
    abbrev x : List ℕ
    x = (name_of reader k).name

    -- before it, with its name issued, and with its row added
    abbrev before : State
    before = table_to o a k

    abbrev named : State
    named = part_next (issue x) before

    abbrev r : Row
    r = row_to o a k

    abbrev then : State
    then = part_next (put r object) named

    comes : Comes o a k
    comes =
        record {
          head = head-goes;
          sections = sections-going o a whole;
          groups = groups-pass o a whole;
          filter = ltb-false _ _ (filter_passes o a ok);
          below = low;
          going = symbol-going o a ok k (omega (arith, low));
        }

    decided-zero : refusal_of (decided (table named) r) ≡ 0
    decided-zero = SymbolNames.decided-zero o a met g.marked k comes fine keeps found added

    leads-then : table_to o a (suc k) ≡ then
    leads-then = SymbolNames.leads-then o a met g.marked k comes fine keeps found added

    -- the merge's further steps
    begins : Begins o a (suc k)
    begins = SymbolNames.begins o a met g.marked k comes fine keeps found added

    on-makes : Makes then begins.rest merged.table
    unfolding begins
    on-makes = SymbolNames.on-makes o a met g.marked k comes fine keeps found added

    then-onto : Onto s.table then
    then-onto = subst (Onto s.table) leads-then (to-onto (suc k))

    then_ready : Ready then
    then_ready = subst (λ (t : State). Ready t) leads-then (to-ready (suc k))

    then-marked : Marked then (met ++ marks_of (steps_to o a (suc k)) s.table)
    then-marked = subst (λ (t : State). Marked t (met ++ marks_of (steps_to o a (suc k)) s.table)) leads-then (to-marked (suc k))

    on-onto : Onto then merged.table
    on-onto = subst (Onto then) on-makes.leads (steps-onto begins.rest then then_ready then-onto.shown on-makes.accepted)

    on-onward : Onward then merged.table
    on-onward = subst (Onward then) on-makes.leads (steps-onward begins.rest then then_ready)

    -- its name
    fits : fits_of (store before) (id_of before x) (length x) ≡ true
    fits = SymbolNames.fits o a met g.marked k comes fine keeps found added

    own-id : r.name.0 ≡ find (store before) x
    own-id = SymbolNames.own-id o a met g.marked k comes fine keeps found added

    named-issued : Issued (store named) (find (store before) x) x
    named-issued = keep-issued (store before) x (to-marked k).good fits

    named-marked : Marked named ((met ++ marks_of (steps_to o a k) s.table) ++ [])
    named-marked = steps-marked (part (issue x) ∷ []) before _ (fits, tt) (to-marked k)

    name-row : r.name.0 * 8 + 3 < length named.names
    name-row =
        let c = named-marked.good.chained in
        let l : find (store before) x < named.link.names = named-issued.low in
        omega (arith, own-id, l, c.rows_in, c.rows-lent)

    put-goes : number_in (put_of named r).said ≡ 0
    put-goes = SymbolNames.put-goes o a met g.marked k comes fine keeps found added

    then-issued : Issued (store then) r.name.0 x
    then-issued =
        rw own-id
        (issued-stays count name (store named) (store then) (find (store before) x) x
        (steps-stay (part (put r object) ∷ []) named _ (put-goes, tt) named-marked) named-issued)

    abbrev id : ℕ
    id = GivenIds.answer reader (symbols_to o a k) k

    answered-row : (r.scope ≡ 0 → (id < then.link.symbols) × (row_at then.symbols id ≡ r))
        × (r.scope ≢ 0 → r.name.0 * 8 + 3 < length named.names → (global_at then.names r.name.0 ≡ id) × (id ≢ 0))
    answered-row = put-given named (omega (arith, some, named-onto.more)) r decided-zero
      where
        named-onto : Onto s.table named
        named-onto =
            onto-both s.table before named (to-onto k) (steps-onto (part (issue x) ∷ []) before (to-ready k) (to-onto k).shown (fits, tt))

    -- after any calls
    module _ (ls : List Call) where
      abbrev last : Linked
      last = run_calls ls merged

      lasting : Lasting last ((met ++ signatures (merge o work ids ∷ []) s) ++ signatures ls merged)
      lasting = lasting-on ls merged _ (lasting-on (merge o work ids ∷ []) s met g)

      later : Later merged.table last.table
      later = calls-later ls merged on-onward.ready

      stays : Stay then last.table
      stays =
          stay-both then merged.table last.table (onto-stay then merged.table on-onto)
          (calls-stay ls merged on-onward.ready on-onto.shown)

      last-issued : Issued (store last.table) r.name.0 x
      last-issued =
          issued-stays count name (store then) (store last.table) r.name.0 x
          (stays-both count name (store then) (store merged.table) (store last.table)
          (subst (λ (t : State). Stays (store then) (store t)) on-makes.leads (steps-stay begins.rest then _ on-makes.accepted then-marked))
          (NamesStay.calls-stay ls merged (met ++ signatures (merge o work ids ∷ []) s) (lasting-on (merge o work ids ∷ []) s met g).marked))
          then-issued

      resolves : call_left (resolve r.name) last ≡ resolved x 0 0
      resolves =
          let w = lasting-within last _ lasting in
          Judged.resolves (store last.table) lasting.marked.good
          (record { sections-in = w.sections-in; symbols-in = lasting.below.few; inputs_in = w.inputs_in; lists-in = w.lists-in }) r.name.0 x last-issued

      local-stays : r.scope ≡ 0 → (id < last.table.link.symbols) × (row_at last.table.symbols id ≡ r)
      local-stays v =
          let (h, e) = answered-row.0 v in
          let c : scope_at then.symbols id ≡ 0 = ap (λ (q : Row). q.scope) e ∙ v in
          (omega (arith, h, stays.more), stands-local then last.table id (stays.stands id h) c ∙ e)

      -- the name has the id
      name-id : r.scope ≢ 0 → global_at last.table.names r.name.0 ≡ id
      name-id v =
          let (e, u) = answered-row.1 v name-row in
          let n : ℕ = r.name.0 in
          let h : n < then.link.names = then-issued.low in
          let same : global_at merged.table.names n ≡ global_at then.names n = on-onward.kept.named n h (λ z. u (sym e ∙ z)) in
          let l : n < merged.table.link.names = omega (arith, h, on-onward.kept.names_more) in
          later.named n l (λ z. u (sym (same ∙ e) ∙ z)) ∙ same ∙ e

      name-has : r.scope ≢ 0 → NameHas x last (record { 0 = id })
      name-has v =
          let n : ℕ = r.name.0 in
          let t : State = last.table in
          let u = (answered-row.1 v name-row).1 in
          let k : global_at t.names n ≡ id = name-id v in
          let q : find (store t) x ≡ n = find-known (store t) x lasting.marked.good.chained n last-issued.low last-issued.right in
          let low : id < t.link.symbols = subst (λ (i : ℕ). i < t.link.symbols) k (later.ready.below.held n last-issued.low (λ z. u (sym k ∙ z))) in
          let fit : Within.Fits t = record { few = later.ready.below.few; room = later.ready.room } in
          by-test (eqb (state_at t.symbols id) 2)
          (λ c.
          gone n
          (ap (λ (i : ℕ). call_left (get_global (record { 0 = i })) last) q
          ∙ Within.looked t fit (lasting-within last _ lasting) n Removed (holder-removed t n last-issued.low id k u low (eqb-true _ _ c)))
          (LookedUp.got-removed last _ lasting later.ready (record { 0 = id }) (eqb-true _ _ c)))
          (λ c.
          row
          (ap (λ (i : ℕ). call_left (get_global (record { 0 = i })) last) q
          ∙ Within.looked t fit (lasting-within last _ lasting) n (Known (record { 0 = id })) (holder_known t n last-issued.low id k u low (eqb-false _ _ c))))

      bears : Words.Bears o.headers o.entries o.contents o.image k x
      bears = bears-own o a head-goes (sections-going o a whole) k low found

      name-own : x ≡ name_bytes o s met last k
      name-own = sym bears.bytes

      filed : IsFile (store last.table) (names_file o s met last) (Words.Bears o.headers o.entries o.contents o.image) k r.file
      filed =
          file-stays (store merged.table) (names_file o s met last) (Words.Bears o.headers o.entries o.contents o.image) k r.file (store last.table)
          (NamesStay.calls-stay ls merged (met ++ signatures (merge o work ids ∷ []) s) (lasting-on (merge o work ids ∷ []) s met g).marked)
          (row-file o a met g.marked head-goes (sections-going o a whole) (groups-pass o a whole) (filter_passes o a ok) k low comes.going)

      -- the symbol's entry
      abbrev binding : ℕ
      binding = (entry (symbols o s met last) k).binding

      stands-local-row : r.scope ≡ 0 → Stands o s met last k id
      stands-local-row v =
          let c = ContentsLaws.local-content o a head-goes (sections-going o a whole) (groups-pass o a whole) met g.marked k low fine keeps found added v in
          let (h, e) = local-stays v in
          own c.bound bears.found
          (record {
            counted = h;
            content = subst (Contents.LocalContent o.headers o.entries o.contents o.image s.table.link.sections met (symbols o s met last) k) (sym e) c;
            named =
                ap (λ (r : Row). call_left (resolve r.name) last) e ∙ resolves ∙ ap (λ (b : List ℕ). resolved b 0 0) name-own;
            filed = subst (λ (r : Row). IsFile (store last.table) (names_file o s met last) (Words.Bears o.headers o.entries o.contents o.image) k r.file) (sym e) filed;
          })

      pub answered-stands : Stands o s met last k id
      answered-stands =
          by-test (eqb r.scope 0) (λ v. stands-local-row (eqb-true _ _ v))
          (λ v.
          let u = eqb-false _ _ v in
          shared (λ b. u (ContentsLaws.binding-local o a head-goes (sections-going o a whole) (groups-pass o a whole) met g.marked k low fine keeps found added b))
          bears.found
          (subst (λ (b : List ℕ). NameHas b last (record { 0 = id })) name-own (name-has u)))

  -- ---- any symbol that has an id

  module _ (ls : List Call) where
    abbrev end : Linked
    end = run_calls ls merged

    gives-stand : (k id : ℕ) → Gives o a k id → Stands o s met end k id
    gives-stand k id (null low f e) = first (ContentsLaws.null_is o a head-goes (sections-going o a whole) (groups-pass o a whole) met g.marked k low f) e
    gives-stand k id (answered low r f d z e) = subst (Stands o s met end k) (sym e) (answered-stands k low r f d z ls)

    pub all-stand : (ks is : List ℕ) → AllGive o a ks is → AllStand o s met end ks is
    all-stand [] [] q = tt
    all-stand [] (i ∷ is) q = q
    all-stand (k ∷ ks) [] q = q
    all-stand (k ∷ ks) (i ∷ is) q = (gives-stand k i q.0, all-stand ks is q.1)

    -- the merge's cell of symbol k: its id and 1, and 0 where it has none
    merge-ids : (call_left (merge o work ids) s).cells.ids ≡ (Stops.added o a).ids
    merge-ids =
        ap (λ (x : Merge.Left). x.cells.ids) (accepted-stays o a head-goes whole).all
        ∙ ap (λ (x : Stages.All). x.ids)
        (StopsLaws.sections-pass o a (sections-going o a whole) ∙ StopsLaws.filter-pass o a (groups-pass o a whole) (filter_passes o a ok)
        ∙ ap (Stages.put_symbols (marked o a)) (StopsLaws.symbols-pass o a (symbols-going o a ok)))

    pub cell-stands : (k id : ℕ) → k < entries_in (symbols o s met end) → get_or (call_left (merge o work ids) s).cells.ids k 0 ≡ id + 1 → Stands o s met end k id
    unfolding id_in
    cell-stands k id h e =
        let c : get_or (Stops.added o a).ids k 0 ≡ id + 1 = ap (λ (l : List ℕ). get_or l k 0) (sym merge-ids) ∙ e in
        let low : k < rows_in (Stops.object o a).entries = subst (λ (l : List ℕ). k < rows_in l) (sym (symbols-are o a head-goes (sections-going o a whole))) h in
        let u : get_or (Stops.added o a).ids k 0 ≢ 0 = λ z. omega (arith, c, z) in
        let i : id_in (Stops.added o a).ids k ≡ id = rw (ne_eqb _ _ u) (omega (arith, c)) in
        gives-stand k id (subst (Gives o a k) i (Names.gives o a ok g.below k low u))
