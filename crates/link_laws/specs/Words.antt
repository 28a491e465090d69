-- Names by their bytes, as the page has them (proofs/Page.antt): what a lookup answers for one, its accepted adds, and which names tie members of an archive.
-- Assumes nothing.
use Rattle.link.specs.declared.cause.Refusal.{Refusal}
use Rattle.symbol.specs.declared.Symbol.{Symbol}
use Rattle.std.specs.Prelude.{ℕ, Bool, false, cond, ◌&&◌, List, Result, Ok, Err}
use Rattle.link.specs.declared.Interned.{Interned}
use Rattle.interner_laws.specs.Good.{find}
use Rattle.archive_index.specs.Archives.{Archives, entries_in, name_in}
use Rattle.archive_laws.specs.PassList.{members_from}
use Rattle.load_laws.specs.Own as Need
use Rattle.symbol_laws.specs.History.{Entry, store, only}
use Rattle.merge_laws.specs.Calls.{Linked}
use Rattle.link_laws.specs.Calls.{Call, get_global, call_left, run_calls, log_calls}

-- the id of a name's bytes in a link, where it has none the next one
abbrev pub id_of : List ℕ → Linked → Interned
id_of b s = record { 0 = find (store s.table) b }

-- what get_global answers for the bytes b
abbrev pub lookup : List ℕ → Linked → Result Symbol Refusal
lookup b s = call_left (get_global (id_of b s)) s

-- a row, and its value is `Undefined`
abbrev pub is_undefined : Result Symbol Refusal → Bool
is_undefined (Ok y) = Need.is_undefined y.value
is_undefined (Err r) = false

abbrev pub undefined : List ℕ → Linked → Bool
undefined b s = is_undefined (lookup b s)

-- a row, and it is global and not weak
abbrev pub is_strong : Result Symbol Refusal → Bool
is_strong (Ok y) = Need.is_strong y.visibility
is_strong (Err r) = false

abbrev pub strong : List ℕ → Linked → Bool
strong b s = is_strong (lookup b s)

-- a name that ties members: undefined; in the gABI's profile undefined and strong
abbrev pub ties : List ℕ → Linked → Bool
ties b s = cond s.table.link.gabi (undefined b s && strong b s) (undefined b s)

-- the accepted adds of the name b that aren't local, oldest first, in the history ks from s on
abbrev pub adds : List ℕ → List Call → Linked → List Entry
adds b ks s = only (find (store (run_calls ks s).table) b) (log_calls ks s)

-- ---- an archive's index

-- the members, by their keys, of those entries whose name ties in s, in the order of the entries
abbrev pub tied : Archives → Linked → List ℕ
tied archives s = members_from archives (λ k. ties (name_in archives k) s) (entries_in archives) 0
