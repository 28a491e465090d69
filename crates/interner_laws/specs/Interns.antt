-- An intern: the id that the name has or gets, whether it is accepted and with which id; what a history of interns leaves.
-- Assumes nothing.
use Rattle.std.specs.Prelude.{ℕ, ◌≡◌, List}
use Rattle.link.specs.declared.Interned.{Interned}
use Rattle.link.specs.Said.{number_in, value_in}
use Rattle.interner.specs.Names.{Store}
use Rattle.interner.specs.Calls.{Left, intern_of}
use Rattle.interner_laws.specs.HistoriesWords.{history}
use Rattle.interner_laws.specs.Good.{find}

abbrev pub id_of : Store → List ℕ → Interned
id_of s x = record { 0 = find s x }

abbrev pub number : Left → ℕ
number o = number_in o.said

abbrev pub Accepted : Left → Type 0
Accepted o = number o ≡ 0

abbrev pub id : Left → ℕ
id o = value_in o.said

abbrev pub after : List (List ℕ) → Store → Store
after xs s = history (λ (s : Store) (x : List ℕ). (intern_of s x).store) xs s
