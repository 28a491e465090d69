-- Names issued and rows added alone, without the other steps of a merge, and what is the same after them.
-- Assumes nothing.
use Prim.Native.Nat.{ℕ, ◌+◌, ◌*◌, ◌<◌, ◌≤◌}
use Rattle.std.specs.Prelude.{◌≡◌, ◌≢◌}
use mathlib.Core.List.{List, [], ◌∷◌}
use Rattle.std.proofs.Math.ListN.{get_or, drop, length}
use Rattle.symbol_laws.specs.History.{State, Part, part_next, run_parts, log_parts}
use Rattle.merge_laws.specs.Steps.{Step, mark, others, PartGoes, log_steps}
use Rattle.merge_laws.specs.Steps as Steps

-- the parts among the steps
abbrev pub parts_in : List Step → List Part
parts_in [] = []
parts_in (Steps.part p ∷ ks) = p ∷ parts_in ks
parts_in (mark n ∷ ks) = parts_in ks
parts_in (others x l ∷ ks) = parts_in ks

-- t is s but for marks, section rows and the counts of sections, inputs and lists
pub record Seen (s t : State) : Type 0 where
  pub bytes : t.bytes ≡ s.bytes
  pub symbols : t.symbols ≡ s.symbols
  pub names-long : length t.names ≡ length s.names
  pub names : (i f : ℕ) → f < 8 → f ≢ 4 → get_or t.names (i * 8 + f) 0 ≡ get_or s.names (i * 8 + f) 0
  pub heads : (q : ℕ) → s.link.chains * 8 ≤ q → get_or t.names q 0 ≡ get_or s.names q 0
  pub sections-long : length t.sections ≡ length s.sections
  pub section-symbols : drop (s.link.slots * 8) t.sections ≡ drop (s.link.slots * 8) s.sections
  pub names-count : t.link.names ≡ s.link.names
  pub bytes_count : t.link.bytes ≡ s.link.bytes
  pub symbols-count : t.link.symbols ≡ s.link.symbols
  pub chains : t.link.chains ≡ s.link.chains
  pub key : t.link.key ≡ s.link.key
  pub slots : t.link.slots ≡ s.link.slots
  pub profile : t.link.gabi ≡ s.link.gabi

-- each name fits and each add is accepted, where it is issued or made
abbrev pub PartsGo : List Part → State → Type 0
PartsGo [] s = Unit {0}
PartsGo (p ∷ ps) s = PartGoes p s × PartsGo ps (part_next p s)

-- steps from s to t, and the parts ps made alone
pub record MadeAlone (s : State) (ks : List Step) (t : State) (ps : List Part) : Type 0 where
  pub seen : Seen (run_parts ps s) t
  pub accepted : PartsGo ps s
  pub logged : log_steps ks s ≡ log_parts ps s
