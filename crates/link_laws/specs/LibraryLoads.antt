-- A load of a history that was answered "loaded", by the input row that it took.
-- Assumes nothing.
use Rattle.shared_objects.specs.declared.Load.TheVariants.{Loaded}
use Rattle.std.specs.Prelude.{ℕ, ◌≡◌, List, ◌∷◌, ◌++◌, Ok}
use Rattle.std.proofs.Common.{ap}
use Rattle.link.specs.declared.Link.{Link}
use Rattle.shared_objects.specs.Load as Shared
use Rattle.merge_laws.specs.Calls.{Linked}
use Rattle.link_laws.specs.Calls.{Call, load, call_left, call_next, run_calls}

abbrev pub inputs : Linked → ℕ
inputs s = s.table.link.inputs

abbrev pub count : Link → ℕ
count l = l.inputs

-- the history ks, begun with link s, has a load that was answered "loaded" and took input k
pub record LoadedAt (k : ℕ) (ks : List Call) (s : Linked) : Type 0 where
  pub before : List Call
  pub library : Shared.Input
  pub marks : List ℕ
  pub behind : List Call
  pub split : ks ≡ before ++ (load library marks ∷ behind)
  pub loaded : (call_left (load library marks) (run_calls before s)).answer ≡ Ok Loaded
  pub place : (run_calls before s).table.link.inputs ≡ k

abbrev pub later : (k : ℕ) (c : Call) (cs : List Call) (s : Linked) → LoadedAt k cs (call_next c s) → LoadedAt k (c ∷ cs) s
later k c cs s r =
    record {
      before = c ∷ r.before;
      library = r.library;
      marks = r.marks;
      behind = r.behind;
      split = ap (λ (l : List Call). c ∷ l) r.split;
      loaded = r.loaded;
      place = r.place;
    }
