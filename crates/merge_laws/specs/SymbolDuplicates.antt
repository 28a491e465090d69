-- A merge at a symbol of the object: the accepted adds before it, the row that it would become, its refusal with 17.
-- Assumes nothing.
use Prim.Native.Nat.{ℕ, ◌<◌, ◌≤◌}
use Rattle.std.proofs.Math.Path.{◌≡◌}
use Rattle.std.specs.Prelude.{true, false}
use mathlib.Core.List.{List, [], ◌∷◌, ◌++◌}
use Rattle.symbol.specs.declared.Row.{Row}
use Rattle.upcoming_symbol.specs.declared.ElfSymbol.{ElfSymbol}
use Rattle.elf_object.specs.Rows.{rows_in}
use Rattle.section_groups.specs.Filter.{filter_of}
use Rattle.merge_symbols.specs.Plan.{Input, input_of, filtered_at}
use Rattle.merge_symbols.specs.Stage as Symbols
use Rattle.merge_symbols.specs.Stage.{symbol_of}
use Rattle.merge_stages.specs.Stages.{All, Object, group_object, symbols_in}
use Rattle.merge_elf.specs.Merge.{head_in}
use Rattle.symbol_laws.specs.History.{Entry}
use Rattle.merge_laws.specs.Past.{past_with}
use Rattle.merge_laws.specs.Steps.{Step, others, log_steps}
use Rattle.merge_laws.specs.Loop.{loop_steps}
use Rattle.merge_laws.specs.MergeSteps.{adds, symbol_steps, groups_steps, symbol_first, group_first, merge_steps}
use Rattle.merge_laws.specs.SymbolStage.{number_of}
use Rattle.merge_laws.specs.SymbolIds.{is_dropped, name_of, plan_of}
use Rattle.merge_laws.specs.Whole.{table_in}
use Rattle.merge_laws.specs.Stops.{reserved, object, prepared, grouped, marked, symbol_reader, symbols_to}

abbrev pub input : Symbols.Object → Input
input o = input_of o.entries o.work

module _ (o : Object) (a : All) where
  -- the sections' rows, the groups, the symbols before i
  abbrev pub steps_to : ℕ → List Step
  steps_to i =
      (others (reserved o a).sections (reserved o a).reserved.link ∷ [])
      ++ (groups_steps (group_object (object o a)) (group_first (prepared o a))
      ++ loop_steps number_of (symbol_of (symbol_reader o a)) (symbol_steps (symbol_reader o a)) i 0 (symbol_first (symbols_in (marked o a))))

  -- the accepted adds before symbol i
  abbrev pub past_to : List Entry → ℕ → List Entry
  past_to past i = past_with past (log_steps (steps_to i) (table_in a))

  abbrev pub symbol_number : ℕ → ℕ
  symbol_number i = (symbol_of (symbol_reader o a) (symbols_to o a i) i).stage.number

  -- the row that symbol i would become
  abbrev pub row_to : ℕ → Row
  row_to i = (plan_of (symbol_reader o a) (symbols_to o a i) i).row

  -- its entry, undefined by now if its section is removed
  abbrev pub entry_to : ℕ → ElfSymbol
  entry_to i = filtered_at (object o a).entries (marked o a).work i

  -- it isn't dropped, its name is found, and it is to be added: it is neither the first symbol, nor a file's, nor of a section that defines a group
  pub record Adds (i : ℕ) : Type 0 where
    pub kept : is_dropped (symbol_reader o a) (symbols_to o a i) i ≡ false
    pub found : (name_of (symbol_reader o a) i).found ≡ true
    pub added : adds (input (symbol_reader o a)) (name_of (symbol_reader o a) i).name i ≡ true

  -- the merge comes to symbol i, and nothing before it is refused
  pub record Comes (i : ℕ) : Type 0 where
    pub head : (head_in o a).number ≡ 0
    pub sections : (reserved o a).reserved.number ≡ 0
    pub groups : (grouped o a).stage.number ≡ 0
    pub filter : rows_in (object o a).entries ≤ filter_of (marked o a).stage.link.gabi (marked o a).work (object o a).entries
    pub below : i < rows_in (object o a).entries
    pub going : (symbols_to o a i).stage.number ≡ 0

  pub record RefusedAt (i : ℕ) : Type 0 where
    pub comes : Comes i
    pub refuses : symbol_number i ≡ 17
    pub adds : Adds i

  -- so the accepted adds before it are the first of the merge's
  pub record LogBegins (i : ℕ) : Type 0 where
    pub rest : List Entry
    pub is : log_steps (merge_steps o a) (table_in a) ≡ log_steps (steps_to i) (table_in a) ++ rest
