-- What a refused symbol or dependency of a library leaves: all as it was, or all but its name.
-- Assumes nothing.
use Rattle.std.specs.Prelude.{ℕ, ◌≡◌, refl, Bool, true, List, ◌++◌, leb, length}
use Rattle.std.proofs.lemmas.Bool.{false≢true}
use Rattle.byte_slices.specs.Proof.Ways.{pick}
use Rattle.strings.specs.Lookup.{Looked}
use Rattle.link.specs.declared.Interned.{Interned}
use Rattle.link.specs.Judge.{stopped_of}
use Rattle.interner.specs.Names.{Store, store_of, find_of, fits_of, keep_of}
use Rattle.symbol.specs.declared.Row.{Row}
use Rattle.upcoming_symbol.specs.Judge.{judge_of}
use Rattle.upcoming_symbol.specs.Upcoming.{external_row_of}
use Rattle.symbol_laws.proofs.Standing.{library-holds}
use Rattle.symbol_resolution.specs.Holder.{holder_of}
use Rattle.symbol_resolution.specs.Decide.{type_refusal, decide_of}
use Rattle.merge_symbols.specs.Plan.{View, place_of}
use Rattle.shared_objects.specs.Record.{Recorded, recorded_of}
use Rattle.shared_objects.specs.Define.{judged_of, rowed_of, external_of, plan_of}
use Rattle.shared_objects.specs.SymbolsLoad.{State, state_of, staged}
use Rattle.merge_laws.proofs.Refusals.{DecidedIn, Fields, nobody-decided, decide-decided, JudgedIn, judged-shown, fields-more}
use Rattle.merge_laws.specs.Table.{one_of, binding_causes, known_numbers, symbol_numbers}

abbrev pub id_in : State → List ℕ → Interned
id_in s x = record { 0 = find_of s.bytes s.names s.stage.link x }

-- the name x issued
abbrev pub named_in : State → List ℕ → Store
named_in s x = keep_of (store_of s.bytes s.names s.stage.link) (id_in s x) x

abbrev pub refuse : State → ℕ → ℕ → State
refuse s number place = staged s (stopped_of s.stage.link number place)

abbrev pub refuse_named : State → Store → ℕ → ℕ → State
refuse_named s k number place = state_of k.bytes k.names s.symbols s.sections s.lists (stopped_of k.link number place)

-- all as it was at the symbol, which bears the name x, or all but that name; the place of 21 is the name's id
pub data SymbolLeft (x : Looked) (s t : State) (i : ℕ) : Type 0 where
  as_it_was : one_of t.stage.number symbol_numbers ≡ true
      → t ≡ refuse s t.stage.number (place_of t.stage.number (id_in s x.name) i) → SymbolLeft x s t i
  but-its-name : x.found ≡ true → one_of t.stage.number binding_causes ≡ true
      → t ≡ refuse_named s (named_in s x.name) t.stage.number i → SymbolLeft x s t i

pub external-fields : (gabi : Bool) (id : Interned) (binding visibility : ℕ) → Fields binding_causes (external_row_of gabi id binding visibility)
unfolding external_row_of type_refusal
external-fields gabi id binding visibility =
    record {
      shown = library-holds (JudgedIn binding_causes) gabi (judge_of binding visibility) (judged-shown binding_causes refl refl refl binding visibility);
      valued = λ e. absurd (false≢true e);
      typed = λ u. absurd (u refl);
    }

module _ (v : View) (x : List ℕ) (binding visibility : ℕ) where
  abbrev pub id : Interned
  id = record { 0 = find_of v.bytes v.names v.link x }

  abbrev row : Row
  row = external_row_of v.link.gabi id binding visibility

  -- whatever holds of a decision on the row under its name
  judged-decided : (numbers : List ℕ) → DecidedIn numbers (decide_of v.link v.symbols v.sections row (holder_of v.link v.names v.symbols id))
      → DecidedIn numbers (plan_of v x binding visibility).decision
  unfolding plan_of external_of rowed_of judged_of external_row_of
  judged-decided numbers f =
      pick (DecidedIn numbers) (fits_of (store_of v.bytes v.names v.link) id (length x)) _ _ (λ t. f) (λ t u w. absurd (w refl))

  pub plan-decided : DecidedIn (binding_causes ++ known_numbers) (plan_of v x binding visibility).decision
  plan-decided =
      judged-decided (binding_causes ++ known_numbers)
      (decide-decided (binding_causes ++ known_numbers) refl refl v.link v.symbols v.sections row
      (fields-more binding_causes known_numbers row (external-fields v.link.gabi id binding visibility)) (holder_of v.link v.names v.symbols id))

  -- the name isn't issued yet
  pub plan_new : leb v.link.names id.0 ≡ true → DecidedIn binding_causes (plan_of v x binding visibility).decision
  unfolding holder_of
  plan_new n = judged-decided binding_causes (rw n (nobody-decided binding_causes v.link v.symbols v.sections row (external-fields v.link.gabi id binding visibility)))

-- ---- a dependency

-- all as it was
pub record DependencyLeft (s t : Recorded) (j : ℕ) : Type 0 where
  pub as_it_was : t ≡ recorded_of s.bytes s.names s.lists (stopped_of s.stage.link 2 j)
