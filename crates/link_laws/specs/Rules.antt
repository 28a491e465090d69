-- "exactly where document 01's rules in their order give it": a rule is a test in document 01's words, with the number and the place that it gives;
-- of a list of rules the first that holds gives the answer.
-- Assumes nothing.
use Rattle.std.specs.Prelude.{ℕ, zero, suc, ◌+◌, ◌/◌, Bool, true, false, cond, not, ◌&&◌, ◌||◌, List, [], ◌∷◌, ◌++◌, eqb, ltb}
use Rattle.link.specs.declared.Link.{Link}
use Rattle.link.specs.declared.Lent.{Lent}
use Rattle.link.specs.declared.cause.Refusal.{Refusal}
use Rattle.link.specs.Judge.{refused}
pub use Rattle.link.specs.Counts.{lent_rows}

pub record Rule : Type 0 where
  pub holds : Bool
  pub number : ℕ
  pub place : ℕ

infix 5 ◌gives◌at◌
abbrev pub ◌gives◌at◌ : Bool → ℕ → ℕ → Rule
◌gives◌at◌ b n p = record { holds = b; number = n; place = p }

-- number and place of the first that holds; 0 where none does: a result
abbrev pub first_refusal : List Rule → Refusal
first_refusal [] = refused 0 0
first_refusal (r ∷ rs) = cond r.holds (refused r.number r.place) (first_refusal rs)

-- "else 0, as for a direct add"
abbrev pub placeless : List Rule → List Rule
placeless [] = []
placeless (r ∷ rs) = (r.holds gives r.number at 0) ∷ placeless rs

-- one of n numbers from i on passes the test
abbrev pub some : (ℕ → Bool) → ℕ → ℕ → Bool
some test i zero = false
some test i (suc n) = test i || some test (i + 1) n

-- a rule for each of n rows from the i-th on
abbrev pub each : (ℕ → Rule) → ℕ → ℕ → List Rule
each rule i zero = []
each rule i (suc n) = rule i ∷ each rule (i + 1) n

-- the rules of each of n rows from the i-th on
abbrev pub each_of : (ℕ → List Rule) → ℕ → ℕ → List Rule
each_of rules i zero = []
each_of rules i (suc n) = rules i ++ each_of rules (i + 1) n

-- element by element: the rules of n elements from the i-th on, each over what those before it left; next is what an element leaves
module _ {S : Type 0} (rules : S → ℕ → List Rule) (next : S → ℕ → S) where
  abbrev pub in_turn : ℕ → ℕ → S → List Rule
  in_turn zero i s = []
  in_turn (suc n) i s = rules s i ++ in_turn n (i + 1) (next s i)

-- ---- the head of a call: "22 comes first, then 1 (sections, symbols, then the rest)"

-- the lesser
abbrev pub least : ℕ → ℕ → ℕ
least a b = cond (ltb a b) a b

-- 1 for rows fewer than the new table was lent, and for counts that what is lent can't have, at the first row past it
module _ (l : Link) (n : Lent) where
  abbrev pub count_rules : List Rule
  count_rules =
      (ltb n.sections l.slots gives 1 at n.sections)
      ∷ (ltb 65535 l.sections || ltb l.slots l.sections gives 1 at least 65535 l.slots)
      ∷ (ltb 65535 l.symbols || ltb (n.symbols / 8) l.symbols gives 1 at least 65535 (n.symbols / 8))
      ∷ (ltb n.names l.chains gives 1 at n.names)
      ∷ (ltb l.chains l.names gives 1 at l.chains)
      ∷ (ltb 1048576 l.bytes || ltb n.bytes l.bytes gives 1 at least 1048576 n.bytes)
      ∷ (ltb 4095 l.inputs || ltb (n.inputs / 8) l.inputs gives 1 at least 4095 (n.inputs / 8))
      ∷ (ltb n.lists l.lists gives 1 at n.lists)
      ∷ []

  abbrev pub head_rules : List Rule
  head_rules = (l.broken gives 22 at 0) ∷ count_rules

-- ---- laws

-- every rule has a number
abbrev pub numbered : List Rule → Bool
numbered [] = true
numbered (r ∷ rs) = not (eqb r.number 0) && numbered rs

abbrev pub some_holds : List Rule → Bool
some_holds [] = false
some_holds (r ∷ rs) = r.holds || some_holds rs

abbrev pub after_two : Refusal → Bool → Refusal → Refusal → Refusal → Refusal
after_two s c k names rest = cond (eqb s.number 0) (cond c k (cond (eqb names.number 0) rest names)) s
