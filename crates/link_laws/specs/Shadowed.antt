-- Words for what a walk over an archive passed by: an entry of its index, judged by what a lookup of its name answers and by whether a call of the walk has
-- offered its member.
-- Assumes nothing.
use Rattle.std.specs.Prelude.{ℕ, zero, suc, ◌≡◌, Bool, true, false, cond, not, ◌&&◌, List, [], ◌∷◌, ◌++◌, drop, length, Result, Ok, Err}
use Rattle.link.specs.declared.cause.Refusal.{Refusal}
use Rattle.symbol.specs.declared.Symbol.{Symbol}
use Rattle.symbol.specs.declared.SymbolVisibility.{SymbolVisibility}
use Rattle.symbol.specs.declared.SymbolVisibility.TheVariants.{Local, Global}
use Rattle.archive_index.specs.Archives.{Archives, name_in, key_in}
use Rattle.archive_laws.specs.Members.{among}
use Rattle.load_laws.specs.Own as Need
use Rattle.shadowed_members.specs.Shadowed.{Left}
use Rattle.merge_laws.specs.Calls.{Linked}
use Rattle.link_laws.specs.Words.{lookup, undefined, strong}

-- ---- a name, by its lookup

-- a row, and "A definition is any value but `Undefined`"
abbrev pub is_definition : Result Symbol Refusal → Bool
is_definition (Ok y) = not (Need.is_undefined y.value)
is_definition (Err r) = false

abbrev pub is_weak_binding : SymbolVisibility → Bool
is_weak_binding Local = false
is_weak_binding (Global weak hidden) = weak

-- a row, and it is weak
abbrev pub is_weak : Result Symbol Refusal → Bool
is_weak (Ok y) = is_weak_binding y.visibility
is_weak (Err r) = false

-- what holds the name b: a weak definition, or one that isn't, a global common too
abbrev pub weakly_defined : List ℕ → Linked → Bool
weakly_defined b s = is_definition (lookup b s) && is_weak (lookup b s)

abbrev pub strongly_defined : List ℕ → Linked → Bool
strongly_defined b s = is_definition (lookup b s) && not (is_weak (lookup b s))

-- the link knows it: a row holds it
abbrev pub is_row : Result Symbol Refusal → Bool
is_row (Ok y) = true
is_row (Err r) = false

abbrev pub knows : List ℕ → Linked → Bool
knows b s = is_row (lookup b s)

-- ---- the entries, whatever they are the entries of: entry k's name is `named k`, its member is known by the key `keys k`, and members were offered by the
-- entries q

module _ (keys : ℕ → ℕ) (named : ℕ → List ℕ) (q : List ℕ) (s : Linked) where
  -- the name of a member that was offered is undefined; that of another is a weak definition
  abbrev pub told_by : ℕ → Bool
  told_by k = cond (among keys k q) (undefined (named k) s) (weakly_defined (named k) s)

  -- how a known name may be held where nothing is left to tell: strongly; weakly, where the walk has offered the entry's member; in the gABI's
  -- profile also by a weak reference, which "ties no member"
  pub data Settled (k : ℕ) : Type 0 where
    strongly : strongly_defined (named k) s ≡ true → Settled k
    weakly : weakly_defined (named k) s ≡ true → among keys k q ≡ true → Settled k
    refers_weakly : s.table.link.gabi ≡ true → undefined (named k) s ≡ true → strong (named k) s ≡ false → Settled k

-- of an archive's index
abbrev pub told : Archives → List ℕ → Linked → ℕ → Bool
told archives = told_by (key_in archives) (name_in archives)

-- ---- the answer

-- the numbers below n that pass the test, in their order
abbrev pub those_below : (ℕ → Bool) → ℕ → List ℕ
those_below test zero = []
those_below test (suc n) = those_below test n ++ cond (test n) (n ∷ []) []

-- the positions stand in the first cells, and the others are as they were; the answer is how many they are
pub record Tells (positions cells : List ℕ) (x : Left) : Type 0 where
  pub answer : x.answer ≡ Ok (length positions)
  pub cells-left : x.cells ≡ positions ++ drop (length positions) cells
