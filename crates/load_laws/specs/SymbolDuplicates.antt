-- A load at a symbol of the library: the accepted adds before it, the row that it would become, its refusal with 17.
-- Assumes nothing.
use Prim.Native.Nat.{ℕ, ◌<◌}
use Rattle.std.proofs.Math.Path.{◌≡◌}
use Rattle.std.specs.Prelude.{true, eqb}
use Rattle.std.proofs.Math.Bool.{false}
use mathlib.Core.List.{List, ◌∷◌, ◌++◌}
use Rattle.symbol.specs.declared.Row.{Row}
use Rattle.elf_object.specs.Rows.{rows_in, field}
use Rattle.shared_objects.specs.Define.{Definition}
use Rattle.shared_objects.specs.Define.{plan_of, view}
use Rattle.shared_objects.specs.SymbolsLoad.{State, symbol_of}
use Rattle.shared_objects.specs.Load.{All, Input, links_in, head_in, name_of}
use Rattle.symbol_laws.specs.History.{Entry, issue}
use Rattle.merge_laws.specs.Steps.{Step, part, log_steps}
use Rattle.merge_laws.specs.Loop.{loop_steps}
use Rattle.load_laws.specs.LoadSteps.{adding, symbol_steps, load_steps}
use Rattle.load_laws.specs.Whole.{table_in, number_of}
use Rattle.load_laws.specs.Elements.{symbol_name, past_with}
use Rattle.load_laws.specs.Stops as Stops
use Rattle.load_laws.specs.Stops.{want}

module _ (entries file : List ℕ) (s : State) (i : ℕ) where
  abbrev pub plan_at : Definition
  plan_at = plan_of (view (adding s)) (symbol_name entries file i).name (field entries i 1) (field entries i 3)

module _ (o : Input) (a : All) where
  abbrev pub first : State
  first = Stops.first o.entries o.image o.needs (links_in a) (name_of o)

  abbrev pub symbols_to : ℕ → State
  symbols_to i = Stops.symbols_to o.entries o.image o.needs (links_in a) (name_of o) i

  -- its own name, the symbols before i
  abbrev pub steps_to : ℕ → List Step
  steps_to i = part (issue (name_of o)) ∷ loop_steps number_of (symbol_of o.entries o.image) (symbol_steps o.entries o.image) i 0 first

  -- the accepted adds before symbol i
  abbrev pub past_to : List Entry → ℕ → List Entry
  past_to past i = past_with past (log_steps (steps_to i) (table_in a))

  abbrev pub symbol_number : ℕ → ℕ
  symbol_number i = (symbol_of o.entries o.image (symbols_to i) i).stage.number

  -- the row that symbol i would become
  abbrev pub row_to : ℕ → Row
  row_to i = (plan_at o.entries o.image (symbols_to i) i).row

  -- its name is found, and it is to be added: it is no reference
  pub record Adds (i : ℕ) : Type 0 where
    pub found : (symbol_name o.entries o.image i).found ≡ true
    pub defines : eqb (field o.entries i 4) 0 ≡ false

  -- the load comes to symbol i, and nothing before it is refused
  pub record Comes (i : ℕ) : Type 0 where
    pub head : (head_in o a).number ≡ 0
    pub needed : (want o a).needed ≡ true
    pub named : Stops.fits o.entries o.image o.needs (links_in a) (name_of o) ≡ true
    pub below : i < rows_in o.entries
    pub going : (symbols_to i).stage.number ≡ 0

  pub record RefusedAt (i : ℕ) : Type 0 where
    pub comes : Comes i
    pub refuses : symbol_number i ≡ 17
    pub adds : Adds i

  pub record LogBegins (i : ℕ) : Type 0 where
    pub rest : List Entry
    pub is : log_steps (load_steps o a) (table_in a) ≡ log_steps (steps_to i) (table_in a) ++ rest
