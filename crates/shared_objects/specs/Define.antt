-- A symbol that a shared object defines: added as `ExternallyDefined`: 2 of its name, then 10, 11, 12, 21, 2 of its row, 17. Its type, section and value are not judged.
-- Assumes nothing.
use Rattle.std.specs.Prelude.{ℕ, cond, List, eqb, length, Result}
use Rattle.link.specs.Stage.{Stage}
use Rattle.link.specs.declared.Interned.{Interned}
use Rattle.link.specs.declared.cause.Refusal.{Refusal}
use Rattle.link.specs.Judge.{going_of, stopped_of, stage_as}
use Rattle.interner.specs.Names.{Store, store_of, find_of, fits_of, keep_of}
use Rattle.symbol.specs.declared.Row.{Row}
use Rattle.upcoming_symbol.specs.Upcoming.{external_row_of}
use Rattle.symbol_resolution.specs.Decision.{Decision}
use Rattle.symbol_resolution.specs.Decision.{Refuse}
use Rattle.symbol_resolution.specs.Holder.{holder_of}
use Rattle.symbol_resolution.specs.Decide.{decision_of, decide_of, refusal_of}
use Rattle.symbol_resolution.specs.Apply.{Table, table_of, apply_of}
use Rattle.merge_symbols.specs.Plan.{View, view_of, place_of}
use Rattle.shared_objects.specs.declared.Loading.{Loading}
use Rattle.shared_objects.specs.declared.symbols.Definition.{Definition as Planned}

-- "A name is interned (2) once found, before later checks"
unfoldable pub judged_of : View → ℕ → Row → Decision
judged_of v n r =
    cond (fits_of (store_of v.bytes v.names v.link) r.name n)
    (decide_of v.link v.symbols v.sections r (holder_of v.link v.names v.symbols r.name)) (Refuse 2)

-- what is to be done with a symbol, under a name that has or would get this id
pub record Definition : Type 0 where
  pub id : Interned
  pub row : Row
  pub decision : Decision

-- as it is planned
abbrev pub definition_as : Planned → Definition
definition_as p = record { id = p.id; row = p.row; decision = decision_of p.resolution }

abbrev pub definition : Interned → Row → Decision → Definition
definition id r d = record { id = id; row = r; decision = d }

unfoldable pub rowed_of : View → List ℕ → Interned → Row → Definition
rowed_of v x id r = definition id r (judged_of v (length x) r)

unfoldable pub external_of : View → List ℕ → ℕ → ℕ → Interned → Definition
external_of v x binding visibility id = rowed_of v x id (external_row_of v.link.gabi id binding visibility)

-- the name's id, known or to come; the row that the symbol would become; the decision
unfoldable pub plan_of : View → List ℕ → ℕ → ℕ → Definition
plan_of v x binding visibility = external_of v x binding visibility (record { 0 = find_of v.bytes v.names v.link x })

-- the lent cells that an add writes, and the stage
pub record Added : Type 0 where
  pub bytes : List ℕ
  pub names : List ℕ
  pub symbols : List ℕ
  pub sections : List ℕ
  pub stage : Stage

abbrev pub added_of : List ℕ → List ℕ → List ℕ → List ℕ → Stage → Added
added_of b n s x st = record { bytes = b; names = n; symbols = s; sections = x; stage = st }

-- what is lent before a call, and after it with its answer
abbrev pub added_before : Loading → Added
added_before s = added_of s.bytes.now s.names.now s.symbols.now s.sections.now (going_of s.link)

abbrev pub added_after : Loading → Result Unit Refusal → Added
added_after s r = added_of s.bytes.now s.names.now s.symbols.now s.sections.now (stage_as s.link r)

-- those that its row writes
pub record Rowed : Type 0 where
  pub names : List ℕ
  pub symbols : List ℕ
  pub sections : List ℕ
  pub stage : Stage

abbrev pub rowed_as : List ℕ → List ℕ → List ℕ → Stage → Rowed
rowed_as n s x st = record { names = n; symbols = s; sections = x; stage = st }

-- of what is lent
abbrev pub rowed_in : Loading → Rowed
rowed_in s = rowed_as s.names.now s.symbols.now s.sections.now (going_of s.link)

abbrev pub table_in : Loading → Table
table_in s = table_of s.names.now s.symbols.now s.sections.now s.link

abbrev pub view_in : Loading → View
view_in s = view_of s.bytes.now s.names.now s.symbols.now s.sections.now s.link

abbrev pub tabled : Table → Rowed
tabled t = rowed_as t.names t.symbols t.sections (going_of t.link)

unfoldable pub accept_of : Table → Row → Decision → Rowed
accept_of t r d = tabled (apply_of t r d)

abbrev pub with_row : List ℕ → Rowed → Added
with_row bytes r = added_of bytes r.names r.symbols r.sections r.stage

-- the name is issued: the refusal, or the row
unfoldable pub kept_of : Added → Store → Definition → ℕ → Added
kept_of s k p i =
    cond (eqb (refusal_of p.decision) 0)
    (with_row k.bytes (accept_of (table_of k.names s.symbols s.sections k.link) p.row p.decision))
    (added_of k.bytes k.names s.symbols s.sections
    (stopped_of k.link (refusal_of p.decision) (place_of (refusal_of p.decision) p.id i)))

-- 2 leaves "all at that element"; else the name is issued
unfoldable pub commit_of : Added → List ℕ → Definition → ℕ → Added
commit_of s x p i =
    cond (eqb (refusal_of p.decision) 2) (added_of s.bytes s.names s.symbols s.sections (stopped_of s.stage.link 2 i))
    (kept_of s (keep_of (store_of s.bytes s.names s.stage.link) p.id x) p i)

abbrev pub view : Added → View
view s = view_of s.bytes s.names s.symbols s.sections s.stage.link

-- judged on the state as it stands
unfoldable pub define_of : Added → List ℕ → ℕ → ℕ → ℕ → Added
define_of s x binding visibility i = commit_of s x (plan_of (view s) x binding visibility) i
