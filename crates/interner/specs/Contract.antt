-- The contracts of the calls on names: what a caller sees of a call, its result and every cell that it lent to be written, against the call's
-- definition.
-- Assumes nothing.
use Rattle.std.specs.Prelude.{ℕ, ◌≡◌, List, [], Result, Ok, Err}
use Rattle.std.specs.Borrow.{Bor}
use Rattle.cells.specs.Slice.{SliceMut}
use Rattle.link.specs.declared.Interned.{Interned}
use Rattle.link.specs.declared.Link.{Link}
use Rattle.link.specs.declared.cause.Refusal.{Refusal}
use Rattle.interner.specs.declared.NamesMut.{NamesMut}
use Rattle.interner.specs.Outcome.{Outcome}
use Rattle.link.specs.Counts.{no_rows}
use Rattle.interner.specs.Names.{Store}
use Rattle.interner.specs.Calls.{outcome, intern_of, new_of, resolved, resolve_of}

-- ---- `intern`, and a new table's names

pub record Exit : Type 0 where
  pub bytes : List ℕ
  pub names : List ℕ
  pub result : Outcome

abbrev pub names_exit : NamesMut → Result Interned Refusal → Exit
names_exit n r = record { bytes = n.bytes.now; names = n.cells.now; result = record { link = n.link; answer = r } }

abbrev pub InternMeets : Store → List ℕ → Exit → Type 0
InternMeets s x e = outcome e.bytes e.names e.result ≡ intern_of s x

-- the empty name's id, in that link, or no link
abbrev pub made : Result Link Refusal → Outcome
made (Ok l) = record { link = l; answer = Ok (record { 0 = 0 }) }
made (Err r) = record { link = no_rows; answer = Err r }

abbrev pub new_exit : SliceMut → SliceMut → Result Link Refusal → Exit
new_exit bytes cells r = record { bytes = bytes.exit.now; names = cells.exit.now; result = made r }

abbrev pub NewNamesMeets : ℕ → List ℕ → List ℕ → Exit → Type 0
NewNamesMeets key bytes names e = outcome e.bytes e.names e.result ≡ new_of key bytes names

-- ---- `resolve`

-- the bytes of the part that is handed back, and the two lent numbers
pub record ResolveExit : Type 0 where
  pub result : List ℕ
  pub number : ℕ
  pub place : ℕ

abbrev pub resolve_exit : Result (Bor (List ℕ)) Refusal → ResolveExit
resolve_exit (Ok x) = record { result = x.now; number = 0; place = 0 }
resolve_exit (Err r) = record { result = []; number = r.number; place = r.place }

abbrev pub ResolveMeets : Store → Interned → ResolveExit → Type 0
ResolveMeets s id e = resolved e.result e.number e.place ≡ resolve_of s id
