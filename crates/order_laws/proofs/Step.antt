-- One add of the list, to what the adds before it left: it is accepted, and what the rest needs still holds.
-- Assumes nothing.
use Rattle.std.specs.Prelude.{ℕ, ◌+◌, ◌≤◌, ◌<◌, ◌≡◌, refl, Bool, true, false, cond, List, [], ◌∷◌, ◌++◌, ◌≢◌, eqb, length, Option, None, Some, Contains, count_by}
use Rattle.std.proofs.Common.{arith, sym, ap, ◌∙◌, subst, eqb-true, eq-eqb, ne_eqb}
use Rattle.std.proofs.lemmas.Bool.{false≢true, lt-leb}
use Rattle.cells.specs.Proof.Split.{by-test}
use Rattle.gabi.specs.SymbolTable.{is_local}
use Rattle.link.specs.declared.Interned.{Interned}
use Rattle.link.specs.declared.SectionId.{SectionId}
use Rattle.link.specs.Bounds.{symbol_rows}
use Rattle.link.specs.Judge.{none}
use Rattle.link.specs.Said.{Said, accepted, refusing, number_in, value_in}
use Rattle.symbol.specs.declared.Row.{Row}
use Rattle.symbol.specs.declared.SymbolValue.TheVariants as Val
use Rattle.upcoming_symbol.specs.declared.ElfSymbol.{ElfSymbol}
use Rattle.upcoming_symbol.specs.declared.UpcomingSymbol.{UpcomingSymbol}
use Rattle.upcoming_symbol.specs.declared.UpcomingSymbol.TheVariants.{Elf}
use Rattle.symbol_resolution.specs.Decide.{strong_rank, section_room, refusal_of}
use Rattle.symbol_resolution.specs.Proof.Outcomes.{fresh_under, is_local_row, row_rank}
use Rattle.symbols.specs.Calls.{Left}
use Rattle.symbols.specs.Add.{empty_at, file_issued, decided_of, lent, judge_add_of, add_of}
use Rattle.symbols.specs.Proof.AddOutcomes.{added-number}
use Rattle.add_list.specs.Proof.Ways.{Numbered, added-numbered}
use Rattle.symbol_laws.specs.DirectContents.{ElfValue}
use Rattle.symbol_laws.specs.Gabi.{sym_of}
use Rattle.symbol_laws.specs.Rank.{count, strong_definition}
use Rattle.symbol_laws.proofs.Rank.{count-append, rank-strong}
use Rattle.symbol_laws.specs.History.{State, table, with_table, direct, Entry, noted, only, rows, put, put_of, upcoming}
use Rattle.symbol_laws.proofs.Refused.{add-accepted}
use Rattle.symbol_laws.specs.Held.{Inv}
use Rattle.symbol_laws.proofs.Demand as Demand
use Rattle.symbol_laws.proofs.Put.{put_step}
use Rattle.symbol_laws.specs.Within.{Within}
use Rattle.symbol_laws.proofs.Within.{parts_within}
use Rattle.order_laws.specs.Premises.{EntryPasses, FileIssued, is_strong_definition, adds_to}
use Rattle.order_laws.specs.Premises as Premises
use Rattle.order_laws.proofs.Entries as Entries
use Rattle.order_laws.proofs.Named as Named
use Rattle.order_laws.proofs.Named.{count-cons, named, noted-rows}
use Rattle.order_laws.proofs.Accepted.{holder, decided-accepts, has-room, HeldBy, nobody, known, held-by, present, displaces}
use Rattle.order_laws.proofs.Kept.{Kept, kept-all, added-kept, change-fine}
use Rattle.order_laws.proofs.Used.{unheld, some-unheld, rows-used}

is-accepted : (a : Said) → Numbered a → number_in a ≡ 0 → a ≡ accepted (value_in a)
is-accepted (accepted v) n z = refl
is-accepted (refusing r) n z = absurd (n z)

-- ---- the state between two adds; s is the link before all of them

pub record Going (s t : State) (past : List Entry) : Type 0 where
  pub inv : Inv t past
  pub within : Within t.link t.names
  pub kept : Kept (table s) (table t)

-- what the adds still to come need
pub record Rest (t : State) (past : List Entry) (ns : List ℕ) (us : List UpcomingSymbol) : Type 0 where
  pub once : (name : Interned) → count strong_definition (rows (only name.0 past)) + count_by (adds_to name is_strong_definition) us ≤ 1
  pub room : t.link.symbols + (count_by Premises.is_local_add us + unheld t.names ns) ≤ symbol_rows (length t.symbols)

module _ (s t : State) (past : List Entry) (go : Going s t past) (conversion : List ℕ) (e : ElfSymbol) (name : Interned) (file : Option Interned)
    (p : EntryPasses s conversion e name file) (ns : List ℕ) (among : is_local (sym_of e) ≡ false → Contains ns name.0) (us : List UpcomingSymbol)
    (rest : Rest t past ns (Elf e name file ∷ us)) where
  abbrev u : UpcomingSymbol
  u = Elf e name file

  abbrev g : Bool
  g = t.link.gabi

  abbrev empty : Bool
  empty = empty_at t.names name

  abbrev r : Row
  r = upcoming t conversion u

  issued : r.name.0 < t.link.names
  issued = rw (Entries.named-as g conversion e name file empty, go.kept.names) p.named

  filed : (f : Option Interned) → FileIssued s f → file_issued t.link f ≡ true
  filed None h = refl
  filed (Some id) h = rw (lt-leb t.link.names id.0 (omega (arith, go.kept.names, h)))

  held : HeldBy t past go.inv r file
  held = held-by t past go.inv r file issued (filed file p.filed)

  local : is_local_row r ≡ is_local (sym_of e)
  local = Entries.local-is g conversion e name file empty p.scope

  -- ---- accepted

  cells : section_room t.link t.sections r ≡ true
  unfolding is_local
  cells =
      Entries.section-fits g conversion e name file empty p.section t.link t.sections go.kept.cells fits p.scope
    where
      fits : is_local (sym_of e) ≡ true → (id : SectionId) → ElfValue conversion empty e (Val.Section id) → id.0 < t.link.slots
      fits a id v =
          rw go.kept.slots
          (p.cell (eqb-true _ _ a) id (subst (λ (b : Bool). ElfValue conversion b e (Val.Section id)) (go.kept.empty name) v))

  locals : count_by Premises.is_local_add (u ∷ us) ≡ cond (is_local (sym_of e)) 1 0 + count_by Premises.is_local_add us
  locals = count-cons Premises.is_local_add u us

  free : fresh_under (is_local_row r) (holder t past go.inv r file) ≡ true → t.link.symbols < symbol_rows (length t.symbols)
  free f =
      by-test (is_local (sym_of e))
      (λ a.
      let one : ◌≡◌ {A = ℕ} (cond (is_local (sym_of e)) 1 0) 1 = rw a in
      omega (arith, rest.room, locals, one))
      (λ a. by a held)
    where
      by : is_local (sym_of e) ≡ false → HeldBy t past go.inv r file → t.link.symbols < symbol_rows (length t.symbols)
      by a (nobody q h) =
          let z = Demand.no_row t past go.inv r.name.0 q issued in
          let some : 1 ≤ unheld t.names ns = some-unheld t.names r.name.0 z ns (rw (Entries.named-as g conversion e name file empty) (among a)) in
          omega (arith, rest.room, some)
      by a (known x xs q h) = absurd (false≢true (rw (h, local ∙ a) at f))

  none-before : eqb (row_rank r g) strong_rank ≡ true → is_local (sym_of e) ≡ false → count strong_definition (rows (only r.name.0 past)) ≡ 0
  none-before k a =
      let strong : is_strong_definition e ≡ true = sym (Entries.strong-is g conversion e name file empty p.section p.scope a) ∙ rank-strong r g (eqb-true _ _ k) in
      let one : ◌≡◌ {A = ℕ} (cond (adds_to name is_strong_definition u) 1 0) 1 = rw (eq-eqb name.0 name.0 refl, strong) in
      rw (Entries.named-as g conversion e name file empty)
      (omega (arith, rest.once name, count-cons (adds_to name is_strong_definition) u us, one))

  passes : refusal_of (decided_of (table t) r file) ≡ 0
  unfolding decided_of
  passes =
      decided-accepts t.link t.symbols t.sections r (holder t past go.inv r file) (present t past go.inv r file held)
      (Entries.scope-passes g conversion e name file empty p.scope) (Entries.value-passes g conversion e name file empty p.section)
      (Entries.type-passes g conversion e name file empty p.type) (λ f. has-room t.link t.symbols t.sections r (free f) cells)
      (λ id m k. displaces t past go.inv r file (none-before k (sym local ∙ m.global)) held issued id m k)

  judged : judge_add_of t.link (lent (table t)) u ≡ none
  unfolding judge_add_of
  judged = rw (← change-fine t past go.inv go.within go.kept.whole go.kept.cells, Entries.in-range conversion e p.type p.scope p.section)

  pub accepts : number_in (add_of (table t) conversion u).said ≡ 0
  unfolding add_of
  accepts = rw judged (added-number (table t) r file ∙ passes)

  -- ---- what it leaves

  pub record Next (o : Left) : Type 0 where
    pub said : o.said ≡ accepted (value_in o.said)
    pub going : Going s (with_table t o.table) (past ++ noted r direct o.said)
    pub others : Rest (with_table t o.table) (past ++ noted r direct o.said) ns us

  abbrev o : Left
  o = put_of t r

  pub alike : add_of (table t) conversion u ≡ o
  alike = add-accepted (table t) conversion u accepts

  answered : o.said ≡ accepted (value_in o.said)
  answered =
      subst (λ (x : Left). x.said ≡ accepted (value_in x.said)) alike
      (is-accepted (add_of (table t) conversion u).said (added-numbered (table t) conversion u) accepts)

  going-on : Going s (with_table t o.table) (past ++ noted r direct o.said)
  going-on =
      record {
        inv = put_step t past go.inv r direct;
        within = parts_within (put r direct ∷ []) t go.within;
        kept = added-kept (table s) (table t) r go.kept;
      }

  once-more : (m : Interned) → count strong_definition (rows (only m.0 (past ++ noted r direct o.said))) + count_by (adds_to m is_strong_definition) us ≤ 1
  once-more m =
      let more : rows (only m.0 (past ++ noted r direct o.said)) ≡ rows (only m.0 past) ++ named m.0 r =
      ap (λ (a : Said). rows (only m.0 (past ++ noted r direct a))) answered ∙ noted-rows m.0 past r (value_in o.said) in
      let sum = ap (count strong_definition) more ∙ count-append strong_definition (rows (only m.0 past)) (named m.0 r) in
      omega
      (arith, rest.once m, count-cons (adds_to m is_strong_definition) u us, sum, Named.counted-named g conversion e name file empty p.scope p.section m)

  more-room : (with_table t o.table).link.symbols + (count_by Premises.is_local_add us + unheld (with_table t o.table).names ns) ≤ symbol_rows (length (with_table t o.table).symbols)
  more-room =
      let used = rows-used t past go.inv r ns is-among in
      let own : ◌≡◌ {A = ℕ} (cond (eqb r.scope 0) 1 0) (cond (is_local (sym_of e)) 1 0) = rw local in
      let long : length (with_table t o.table).symbols ≡ length t.symbols = (added-kept (table t) (table t) r (kept-all (table t) go.kept.whole go.kept.cells)).rows in
      rw long (omega (arith, rest.room, locals, used, own))
    where
      is-among : r.scope ≢ 0 → Contains ns r.name.0
      is-among v = rw (Entries.named-as g conversion e name file empty) (among (sym local ∙ ne_eqb _ _ v))

  put-next : Next o
  put-next = record { said = answered; going = going-on; others = record { once = once-more; room = more-room } }

  pub next : Next (add_of (table t) conversion u)
  next = subst Next (sym alike) put-next
