-- The calls that leave a link as it is: "Lookups and walks don't change a link". What each answers is the right side of its contract.
-- Assumes nothing.
use Rattle.symbol.specs.declared.Symbol.{Symbol}
use Rattle.std.specs.Prelude.{ℕ, List, Option, Result, Bool}
use Rattle.link.specs.declared.Interned.{Interned}
use Rattle.link.specs.declared.SymbolId.{SymbolId}
use Rattle.link.specs.declared.SectionId.{SectionId}
use Rattle.link.specs.declared.cause.Refusal.{Refusal}
use Rattle.link.specs.Judge.{refused}
use Rattle.link.specs.Said.{SaidWith}
use Rattle.interner.specs.Calls as Names
use Rattle.interner.specs.Calls.{resolve_of}
use Rattle.symbols.specs.Lookup as Lookup
use Rattle.symbols.specs.Lookup.{get_of, get_global_of, section_symbol_of}
use Rattle.archive_index.specs.Archives.{Archives}
use Rattle.archive_walk.specs.declared.Walk.{Walk}
use Rattle.archive_walk.specs.Look as Look
use Rattle.archive_walk.specs.Walk as Archive
use Rattle.archive_walk.specs.Walk.{start_of, next_of}
use Rattle.shadowed_members.specs.Shadowed as Shadowed
use Rattle.shadowed_members.specs.Shadowed.{shadowed_of}
use Rattle.untaken_member.specs.Untaken as Untaken
use Rattle.untaken_member.specs.Untaken.{would_of}
use Rattle.object_requirement.specs.Matches as Matches
use Rattle.object_requirement.specs.Matches.{matches_of}
use Rattle.symbol_laws.specs.History.{State, store}

pub data ReadCall : Type 0 where
  resolve : Interned → ReadCall
  get : SymbolId → ReadCall
  get_global : Interned → ReadCall
  section_symbol : SectionId → ReadCall
  -- the indexes, and cells for their entries
  archive_start : ℕ → Archives → List ℕ → ReadCall
  archive_next : Archives → List ℕ → Walk → ReadCall
  -- the indexes' bytes, their rows, the walk, and cells for the entries that are told
  archive_shadowed : List ℕ → List ℕ → Walk → List ℕ → ReadCall
  -- headers, entries, contents and bytes of the object; the indexes' bytes, cells, walk; the entry that was offered
  matches : List ℕ → List ℕ → List ℕ → List ℕ → List ℕ → List ℕ → Walk → ℕ → ReadCall
  -- of an object the same; cells for the symbols that are told, and their rows
  would_define : List ℕ → List ℕ → List ℕ → List ℕ → List ℕ → ReadCall

-- what a call for the next member is lent of a link
abbrev pub view_in : State → Look.Table
view_in t = Look.table_of t.link t.bytes t.names t.symbols

abbrev pub refusal_with : {A : Type 0} → SaidWith A → Refusal
refusal_with a = refused a.number a.place

-- the outcome of which its contract speaks
abbrev pub ReadLeft : ReadCall → Type 0
ReadLeft (resolve id) = Names.Resolved
ReadLeft (get id) = (Result Symbol Refusal)
ReadLeft (get_global name) = (Result Symbol Refusal)
ReadLeft (section_symbol section) = (Option SymbolId)
ReadLeft (archive_start key archives cells) = Archive.Start
ReadLeft (archive_next archives cells w) = Archive.Step
ReadLeft (archive_shadowed index rows w cells) = Shadowed.Left
ReadLeft (matches headers entries contents file index cells w e) = (Result Bool Refusal)
ReadLeft (would_define headers entries contents file cells) = Untaken.Left

-- its contract: the outcome is this
abbrev pub read_left : (k : ReadCall) → State → ReadLeft k
read_left (resolve id) t = resolve_of (store t) id
read_left (get id) t = get_of t.link t.symbols id
read_left (get_global name) t = get_global_of t.link t.names t.symbols name
read_left (section_symbol section) t = section_symbol_of t.link t.sections section
read_left (archive_start key archives cells) t = start_of key archives cells
read_left (archive_next archives cells w) t = next_of archives cells w (view_in t)
read_left (archive_shadowed index rows w cells) t = shadowed_of index rows w (view_in t) cells
read_left (matches headers entries contents file index cells w e) t = matches_of t.link headers entries contents file index cells w e
read_left (would_define headers entries contents file cells) t = would_of headers entries contents file (view_in t) cells

-- number and place, 0 and 0 for a result
abbrev pub read_refusal : (k : ReadCall) → ReadLeft k → Refusal
read_refusal (resolve id) o = o.refusal
read_refusal (get id) o = refusal_with (Lookup.said o)
read_refusal (get_global name) o = refusal_with (Lookup.said o)
read_refusal (section_symbol section) o = refusal_with (Lookup.section_symbol_said o)
read_refusal (archive_start key archives cells) o = refusal_with (Archive.begun_said o.started.begun)
read_refusal (archive_next archives cells w) o = refusal_with (Archive.offer_said o.moved.offer)
read_refusal (archive_shadowed index rows w cells) o = refusal_with (Archive.begun_said o.answer)
read_refusal (matches headers entries contents file index cells w e) o = refusal_with (Matches.said o)
read_refusal (would_define headers entries contents file cells) o = refusal_with (Archive.begun_said o.answer)
