-- The symbols of a merge under another key of the hash.
-- Assumes nothing.
use Prim.Native.Nat.{ℕ, zero, suc, ◌+◌, ◌<◌}
use Rattle.std.specs.Prelude.{◌≡◌, Bool, false, cond, List, eqb, length, set}
use Rattle.std.proofs.Math.Path.{refl, ap, subst}
use Rattle.std.proofs.Common.{sym, ◌∙◌}
use Rattle.std.proofs.lemmas.Bool.{false≢true}
use Rattle.cells.specs.Proof.Split.{by-test}
use Rattle.link.specs.declared.Interned.{Interned}
use Rattle.strings.specs.Lookup.{Looked}
use Rattle.interner.specs.Names.{Store, store_of, fits_of, keep_of}
use Rattle.interner_laws.specs.Good.{find}
use Rattle.interner_laws.specs.Interns.{id_of}
use Rattle.symbol.specs.declared.Row.{Row}
use Rattle.upcoming_symbol.specs.declared.ElfSymbol.{ElfSymbol}
use Rattle.upcoming_symbol.specs.Upcoming.{elf_row_of}
use Rattle.symbol_resolution.specs.Holder.{holder_of}
use Rattle.symbol_resolution.specs.Decide.{decide_of, refusal_of}
use Rattle.symbol_resolution.specs.Apply.{Table, table_of}
use Rattle.elf_object.specs.Rows.{field, name_in}
use Rattle.section_groups.specs.Filter.{dropped_at}
use Rattle.merge_symbols.specs.Plan.{Planned}
use Rattle.merge_symbols.specs.Plan.{View, view_of, Input, input_of, rule_of, judged_of, rowed_of, read_of, planned_of, file_after}
use Rattle.merge_symbols.specs.Stage.{State, state_of, Object, stage_of, cell_of, refuse, drop_symbol, accepting, accept_row, accept, kept_of, commit_of, view, symbol_named, looked_of, symbol_of, symbols_from, symbols_of}
use Rattle.key_laws.specs.Rekeyed.{keyed, rekeyed, Rekeyed, Moved}
use Rattle.key_laws.proofs.RekeyedLemmas.{moved, moved_cond, find-same, fits-same, keep-moved}
use Rattle.key_laws.proofs.Tables.{decide-keyed, holder-same, apply-moved}
use Rattle.key_laws.proofs.Groups.{keep-chains, fits-row}

-- ---- the decision on a symbol

abbrev pub view_store : View → Store
view_store v = store_of v.bytes v.names v.link

abbrev pub view_under : ℕ → List ℕ → View → View
view_under k n v = view_of v.bytes n v.symbols v.sections (keyed k v.link)

module _ (k : ℕ) (v : View) (n : List ℕ) (e : Rekeyed k (view_store v) n) where
  pub decision-same : (r : Row) → decide_of (keyed k v.link) v.symbols v.sections r (holder_of (keyed k v.link) n v.symbols r.name)
      ≡ decide_of v.link v.symbols v.sections r (holder_of v.link v.names v.symbols r.name)
  decision-same r =
      ap (decide_of (keyed k v.link) v.symbols v.sections r) (holder-same k (view_store v) n e v.symbols r.name)
      ∙ decide-keyed k v.link v.symbols v.sections r _

  rule-same : (work : List ℕ) (i : ℕ) (empty : Bool) (s : ElfSymbol) (r : Row)
      → rule_of (keyed k v.link) n v.symbols v.sections work i empty s r ≡ rule_of v.link v.names v.symbols v.sections work i empty s r
  unfolding rule_of
  rule-same work i empty s r = rw (decision-same r)

  judged-same : (work : List ℕ) (i m : ℕ) (s : ElfSymbol) (r : Row) → judged_of (view_under k n v) work i m s r ≡ judged_of v work i m s r
  unfolding judged_of
  judged-same work i m s r = rw (fits-same k (view_store v) n e r.name m, rule-same work i (eqb m 0) s r)

  planned-same : (o : Input) (x : List ℕ) (i file : ℕ) → planned_of (view_under k n v) o x i file ≡ planned_of v o x i file
  unfolding planned_of read_of rowed_of
  planned-same o x i file = rw (find-same k (view_store v) n e x, judged-same o.work i (length x) _ _)

  module _ (o : Input) (x : List ℕ) (i file : ℕ) where
    abbrev plan : Planned
    plan = planned_of v o x i file

    plan-id : plan.id ≡ id_of (view_store v) x
    unfolding planned_of read_of rowed_of
    plan-id = refl

    plan-name : plan.row.name ≡ id_of (view_store v) x
    unfolding planned_of read_of rowed_of elf_row_of
    plan-name = refl

    -- what isn't refused with 2 has a row for its name
    plan-row : eqb (refusal_of plan.decision) 2 ≡ false → find (view_store v) x < v.link.chains
    unfolding planned_of read_of rowed_of judged_of elf_row_of
    plan-row z =
        by-test (fits_of (view_store v) (id_of (view_store v) x) (length x)) (λ a. fits-row k (view_store v) n e x (length x) a)
        (λ a. absurd (false≢true (sym (rw a at z))))

-- ---- what is written

abbrev pub symbol_store : State → Store
symbol_store s = store_of s.bytes s.names s.stage.link

abbrev pub symbol_under : ℕ → List ℕ → State → State
symbol_under k n s =
    state_of s.bytes n s.symbols s.sections s.ids (stage_of (keyed k s.stage.link) s.stage.file s.stage.number s.stage.place)

abbrev Alike : ℕ → State → State → Type 0
Alike k = Moved symbol_store (symbol_under k) k

module _ (k : ℕ) (s : State) where
  kept-moved : (n : List ℕ) (t : Store) (m : List ℕ) → Rekeyed k t m → (p : Planned) (i : ℕ) → p.row.name.0 < t.link.chains
      → Alike k (kept_of s t p i) (kept_of (symbol_under k n s) (rekeyed k m t) p i)
  unfolding kept_of accept_row
  kept-moved n t m q p i h =
      let a = apply-moved k t.bytes (table_of t.names s.symbols s.sections t.link) m q p.row p.decision h in
      moved_cond symbol_store (symbol_under k) k (eqb (refusal_of p.decision) 0) _ _ _ _
      (λ z.
      record {
        names = a.names;
        is = ap
            (λ (u : Table). accept t.bytes (accepting u (set s.ids i (cell_of p.decision t.link.symbols)) (file_after s.stage.file p.kind p.id)))
            a.is;
        alike = a.alike;
      })
      (λ z. record { names = m; is = refl; alike = q })

  module _ (n : List ℕ) (e : Rekeyed k (symbol_store s) n) where
    refuse-moved : (number place : ℕ) → Alike k (refuse s number place) (refuse (symbol_under k n s) number place)
    refuse-moved number place = record { names = n; is = refl; alike = e }

    named-moved : (o : Input) (x : List ℕ) (i : ℕ) → Alike k (symbol_named o s x i) (symbol_named o (symbol_under k n s) x i)
    unfolding symbol_named commit_of
    named-moved o x i =
        let p : Planned = planned_of (view s) o x i s.stage.file in
        let t = keep-moved k (symbol_store s) n e x p.id (plan-id k (view s) n e o x i s.stage.file) in
        let kept : Store = keep_of (symbol_store s) p.id x in
        rw (planned-same k (view s) n e o x i s.stage.file)
        (moved_cond symbol_store (symbol_under k) k (eqb (refusal_of p.decision) 2) _ _ _ _ (λ a. refuse-moved 2 i)
        (λ a.
        let h : p.row.name.0 < kept.link.chains =
        rw (keep-chains (symbol_store s) p.id x, ap (λ (j : Interned). j.0) (plan-name k (view s) n e o x i s.stage.file))
        (plan-row k (view s) n e o x i s.stage.file a) in
        rw t.is (kept-moved n kept t.names t.alike p i h)))

    symbol-moved : (o : Object) (i : ℕ) → Alike k (symbol_of o s i) (symbol_of o (symbol_under k n s) i)
    unfolding symbol_of looked_of
    symbol-moved o i =
        let x : Looked = name_in o.headers o.image o.symbol_names (field o.entries i 0) in
        moved_cond symbol_store (symbol_under k) k (dropped_at s.stage.link.gabi o.work o.entries i) _ _ _ _
        (λ d. moved symbol_store (symbol_under k) k (drop_symbol s i) n e)
        (λ d. moved_cond symbol_store (symbol_under k) k x.found _ _ _ _ (λ f. named-moved (input_of o.entries o.work) x.name i) (λ f. refuse-moved 9 i))

module _ (k : ℕ) (o : Object) where
  from-moved : (m i : ℕ) (s : State) (n : List ℕ) → Rekeyed k (symbol_store s) n → Alike k (symbols_from o m i s) (symbols_from o m i (symbol_under k n s))
  unfolding symbols_from
  from-moved zero i s n e = moved symbol_store (symbol_under k) k s n e
  from-moved (suc m) i s n e =
      let t = symbol-moved k s n e o i in
      let g : State = symbol_of o s i in
      subst (λ (u : State). Alike k (symbols_from o (suc m) i s) (cond (eqb u.stage.number 0) (symbols_from o m (i + 1) u) u)) (sym t.is)
      (moved_cond symbol_store (symbol_under k) k (eqb g.stage.number 0) _ _ _ _
      (λ a. from-moved m (i + 1) g t.names t.alike) (λ a. moved symbol_store (symbol_under k) k g t.names t.alike))

  pub symbols-moved : (s : State) (n : List ℕ) → Rekeyed k (symbol_store s) n → Alike k (symbols_of o s) (symbols_of o (symbol_under k n s))
  unfolding symbols_of
  symbols-moved s n e = from-moved _ 0 s n e
