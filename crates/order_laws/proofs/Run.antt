-- All adds of the list, one after another.
-- Assumes nothing.
use Rattle.std.specs.Prelude.{ℕ, suc, ◌+◌, ◌≡◌, refl, false, List, [], ◌∷◌, ◌++◌, set, length, Option, All, Contains}
use Rattle.std.proofs.Common.{arith, sym, ap, ◌∙◌, subst, append_assoc, append-nil}
use Rattle.gabi.specs.SymbolTable.{is_local}
use Rattle.link.specs.declared.Interned.{Interned}
use Rattle.link.specs.Judge.{none}
use Rattle.link.specs.Said.{Said, value_in}
use Rattle.symbol.specs.declared.Row.{Row}
use Rattle.upcoming_symbol.specs.declared.ElfSymbol.{ElfSymbol}
use Rattle.upcoming_symbol.specs.declared.UpcomingSymbol.{UpcomingSymbol}
use Rattle.upcoming_symbol.specs.declared.UpcomingSymbol.TheVariants.{Null, GlobalUnknown, GlobalHidden, Section, ExternallyDefined, Elf}
use Rattle.upcoming_symbol.specs.Upcoming.{name_of}
use Rattle.symbols.specs.Calls.{Left}
use Rattle.symbols.specs.Add.{add_of}
use Rattle.add_list.specs.AddList.{ListLeft, list_left, noted_of, turn_of, adds_of}
use Rattle.symbol_laws.specs.Gabi.{sym_of}
use Rattle.symbol_laws.specs.History.{State, table, with_table, direct, Entry, noted, only, rows, upcoming}
use Rattle.order_laws.specs.Premises.{EntryPasses, RowIs, Passes}
use Rattle.order_laws.proofs.Kept.{Kept}
use Rattle.order_laws.proofs.Step.{Going, Rest, Next, next}
use Rattle.order_laws.proofs.Named.{named, noted-rows}

-- ---- of all elements, the first and the others

pub all-head : (P : UpcomingSymbol → Type 0) (u : UpcomingSymbol) (us : List UpcomingSymbol) → All P (u ∷ us) → P u
all-head P u us h = h 0 u (omega arith)

pub all-tail : (P : UpcomingSymbol → Type 0) (u : UpcomingSymbol) (us : List UpcomingSymbol) → All P (u ∷ us) → All P us
all-tail P u us h = λ k d l. h (suc k) d (omega arith)

pub all-in : (P : UpcomingSymbol → Type 0) (us : List UpcomingSymbol) (u : UpcomingSymbol) → Contains us u → All P us → P u
all-in P us u c h = subst P c.2 (h c.0 u c.1)

module _ (s : State) (conversion : List ℕ) where
  -- row by row: no other kind of add passes
  pub by-row : (P : List UpcomingSymbol → Type 0) → P []
      → ((e : ElfSymbol) (name : Interned) (file : Option Interned) (us : List UpcomingSymbol) → EntryPasses s conversion e name file → P us → P (Elf e name file ∷ us))
      → (us : List UpcomingSymbol) → All (Passes s conversion) us → P us
  by-row P z f [] h = z
  by-row P z f (Elf e name file ∷ us) h =
      let u : UpcomingSymbol = Elf e name file in
      f e name file us (all-head (Passes s conversion) u us h) (by-row P z f us (all-tail (Passes s conversion) u us h))
  by-row P z f (Null ∷ us) h = absurd (all-head (Passes s conversion) Null us h)
  by-row P z f (GlobalUnknown n ∷ us) h = absurd (all-head (Passes s conversion) (GlobalUnknown n) us h)
  by-row P z f (GlobalHidden n value ∷ us) h = absurd (all-head (Passes s conversion) (GlobalHidden n value) us h)
  by-row P z f (Section section ∷ us) h = absurd (all-head (Passes s conversion) (Section section) us h)
  by-row P z f (ExternallyDefined n visibility binding ∷ us) h = absurd (all-head (Passes s conversion) (ExternallyDefined n visibility binding) us h)

  -- the rows that the adds of a name would become, in the list's order
  abbrev pub named_rows : ℕ → List UpcomingSymbol → List Row
  named_rows m [] = []
  named_rows m (u ∷ us) = named m (upcoming s conversion u) ++ named_rows m us

  pub upcoming-same : (t : State) → Kept (table s) (table t) → (u : UpcomingSymbol) → upcoming t conversion u ≡ upcoming s conversion u
  upcoming-same t k u = rw (k.gabi, k.empty (name_of u))

  module _ (ns : List ℕ) where
    abbrev pub Among : UpcomingSymbol → Type 0
    Among = RowIs (λ e name file. is_local (sym_of e) ≡ false → Contains ns name.0)

    -- after the adds from place k on, to what those before them left
    pub record Done (t : State) (past : List Entry) (us : List UpcomingSymbol) (k : ℕ) (o : ListLeft) : Type 0 where
      pub result : o.refusal ≡ none
      pub all : o.position ≡ k + length us
      pub after : List Entry
      pub going : Going s (with_table t o.table) after
      pub found : (m : ℕ) → rows (only m after) ≡ rows (only m past) ++ named_rows m us

    module _ (t : State) (past : List Entry) (go : Going s t past) (e : ElfSymbol) (name : Interned) (file : Option Interned) (p : EntryPasses s conversion e name file)
        (among : is_local (sym_of e) ≡ false → Contains ns name.0) (us : List UpcomingSymbol) (rest : Rest t past ns (Elf e name file ∷ us)) where
      abbrev u : UpcomingSymbol
      u = Elf e name file

      abbrev o : Left
      o = add_of (table t) conversion u

      step : Next s t past go conversion e name file p ns among us rest o
      step = next s t past go conversion e name file p ns among us rest

      abbrev v : ℕ
      v = value_in o.said

      abbrev later : List Entry
      later = past ++ noted (upcoming t conversion u) direct o.said

      turned : (ids : List ℕ) (j k : ℕ) → turn_of conversion u (list_left (table t) ids none j) k ≡ list_left o.table (set ids k v) none k
      unfolding turn_of
      turned ids j k = ap (λ (a : Said). noted_of a o.table ids k) step.said

      added-first : (ids : List ℕ) (j k : ℕ)
          → adds_of conversion (u ∷ us) (list_left (table t) ids none j) k ≡ adds_of conversion us (list_left o.table (set ids k v) none k) (k + 1)
      unfolding adds_of
      added-first ids j k = rw (turned ids j k)

      more-found : (m : ℕ) → rows (only m later) ≡ rows (only m past) ++ named m (upcoming s conversion u)
      more-found m =
          ap (λ (a : Said). rows (only m (past ++ noted (upcoming t conversion u) direct a))) step.said
          ∙ noted-rows m past (upcoming t conversion u) v ∙ ap (λ (r : Row). rows (only m past) ++ named m r) (upcoming-same t go.kept u)

      done-first : (ids : List ℕ) (j k : ℕ) → Done (with_table t o.table) later us (k + 1) (adds_of conversion us (list_left o.table (set ids k v) none k) (k + 1))
          → Done t past (u ∷ us) k (adds_of conversion (u ∷ us) (list_left (table t) ids none j) k)
      done-first ids j k d =
          subst (Done t past (u ∷ us) k) (sym (added-first ids j k))
          (record {
            result = d.result;
            all = d.all ∙ omega arith;
            after = d.after;
            going = d.going;
            found = λ m.
                d.found m ∙ ap (λ (l : List Row). l ++ named_rows m us) (more-found m)
                ∙ append_assoc (rows (only m past)) (named m (upcoming s conversion u)) (named_rows m us);
          })

    -- the rest of a list, from any state between two adds
    abbrev Goes : List UpcomingSymbol → Type 0
    Goes us =
        (t : State) (past : List Entry) → Going s t past → All Among us → Rest t past ns us → (ids : List ℕ) (j k : ℕ)
        → Done t past us k (adds_of conversion us (list_left (table t) ids none j) k)

    pub done : (us : List UpcomingSymbol) → All (Passes s conversion) us → Goes us
    unfolding adds_of
    done =
        by-row Goes
        (λ t past go among rest ids j k.
        record { result = refl; all = omega arith; after = past; going = go; found = λ m. sym (append-nil (rows (only m past))) })
        (λ e name file us p goes t past go among rest ids j k.
        let u : UpcomingSymbol = Elf e name file in
        let a = all-head Among u us among in
        let n = step t past go e name file p a us rest in
        done-first t past go e name file p a us rest ids j k
        (goes (with_table t (add_of (table t) conversion u).table) _ n.going (all-tail Among u us among) n.others _ k (k + 1)))
