-- A loaded library in a history: its row and its lists stay as they were written, and every id in them stands for its name.
-- Assumes nothing.
use Rattle.shared_objects.specs.declared.Load.TheVariants.{Loaded}
use Rattle.std.specs.Prelude.{ℕ, ◌+◌, ◌*◌, ◌<◌, ◌≤◌, ◌≡◌, refl, List, [], ◌∷◌, ◌++◌, get_or, length, drop, Ok}
use Rattle.std.proofs.Common.{arith, le_refl, le_trans, sym, ap, ◌∙◌, length-drop, length-take-le, get_or-take, get_or-drop, ext_get_or}
use Rattle.byte_slices.specs.Bytes.{part}
use Rattle.link.specs.Bounds.{not_lent}
use Rattle.interner_laws.specs.Good.{Stays, count, name}
use Rattle.interner_laws.proofs.Histories.{issued-stays}
use Rattle.elf_object.specs.Rows.{field}
use Rattle.shared_objects.specs.Load as Shared
use Rattle.shared_objects.specs.Load.{name_of}
use Rattle.load_laws.proofs.LawsNames.{each-stays}
use Rattle.load_laws.specs.LibraryRow.{self, undefineds, dependencies}
use Rattle.load_laws.proofs.LibraryRow.{library-row, library-names}
use Rattle.symbol_laws.specs.History.{store}
use Rattle.merge_laws.specs.Calls.{Linked}
use Rattle.link_laws.specs.Calls.{Call, load, library_in, call_left, call_next, run_calls}
use Rattle.link_laws.proofs.Lists.{call-listed}
use Rattle.link_laws.specs.Kept.{signatures}
use Rattle.link_laws.proofs.Kept.{Lasting, lasting-on}
use Rattle.link_laws.proofs.NamesStay.{calls-stay}
use Rattle.link_laws.specs.Libraries.{Remembered, Named}

-- ---- counted inputs and lists stay, over any calls

pub record Stay (s t : Linked) : Type 0 where
  pub inputs-more : s.table.link.inputs ≤ t.table.link.inputs
  pub inputs-same : (q : ℕ) → q < s.table.link.inputs * 8 → get_or t.inputs q 0 ≡ get_or s.inputs q 0
  pub lists-more : s.table.link.lists ≤ t.table.link.lists
  pub lists-same : (q : ℕ) → q < s.table.link.lists → get_or t.lists q 0 ≡ get_or s.lists q 0
  pub lists-long : length t.lists ≡ length s.lists

pub stay_all : (ks : List Call) (s : Linked) → length s.lists ≤ not_lent → Stay s (run_calls ks s)
stay_all [] s n =
    record { inputs-more = le_refl _; inputs-same = λ q h. refl; lists-more = le_refl _; lists-same = λ q h. refl; lists-long = refl }
stay_all (k ∷ ks) s n =
    let a = call-listed k s n in
    let r = stay_all ks (call_next k s) (omega (arith, a.lists.long)) in
    record {
      inputs-more = le_trans a.inputs-more r.inputs-more;
      inputs-same = λ q h. r.inputs-same q (omega (arith, a.inputs-more)) ∙ a.inputs-below q h;
      lists-more = le_trans a.lists.more r.lists-more;
      lists-same = λ q h. r.lists-same q (omega (arith, a.lists.more)) ∙ a.lists-below q h;
      lists-long = r.lists-long ∙ a.lists.long;
    }

part-long : (x : List ℕ) (f c : ℕ) → f + c ≤ length x → length (part x f c) ≡ c
part-long x f c h = length-take-le c (drop f x) (omega (arith, length-drop f x))

part_at : (x : List ℕ) (f c i : ℕ) → i < c → get_or (part x f c) i 0 ≡ get_or x (f + i) 0
part_at x f c i h = get_or-take c (drop f x) i 0 h ∙ get_or-drop f x i 0

part_same : (x y : List ℕ) (f c m : ℕ) → f + c ≤ m → m ≤ length x → length y ≡ length x → ((q : ℕ) → q < m → get_or y q 0 ≡ get_or x q 0) → part y f c ≡ part x f c
part_same x y f c m h l e same =
    let a : length (part x f c) ≡ c = part-long x f c (omega arith) in
    let b : length (part y f c) ≡ c = part-long y f c (omega arith) in
    ext_get_or 0 (part y f c) (part x f c) (b ∙ sym a)
    (λ i k. part_at y f c i (omega (arith, b)) ∙ same (f + i) (omega (arith, b)) ∙ sym (part_at x f c i (omega (arith, b))))

-- ---- the library, as the call had it, in a later link

module _ (s : Linked) (met : List (List ℕ)) (g : Lasting s met) (o : Shared.Input) (marks : List ℕ)
    (ok : (call_left (load o marks) s).answer ≡ Ok Loaded) (ls : List Call) where
  abbrev a : Shared.All
  a = library_in s marks

  abbrev then : Linked
  then = call_next (load o marks) s

  abbrev on : Linked
  on = run_calls ls then

  after : Lasting then (met ++ signatures (load o marks ∷ []) s)
  after = lasting-on (load o marks ∷ []) s met g

  pub library-remembered : Remembered o a on
  library-remembered =
      let r = library-row o a g.lent ok in
      let k : ℕ = a.link.inputs in
      let y : Stay then on = stay_all ls then after.lent in
      let cell : (f : ℕ) → f < 8 → field on.inputs k f ≡ field then.inputs k f = λ f h. y.inputs-same (k * 8 + f) (omega (arith, r.counted)) in
      record {
        counted = omega (arith, r.counted, y.inputs-more);
        kind = cell 0 (omega arith) ∙ r.kind;
        name = cell 1 (omega arith) ∙ r.name;
        lacks =
            ap (λ (n : ℕ). part on.lists n (field on.inputs k 5)) (cell 4 (omega arith))
            ∙ ap (λ (n : ℕ). part on.lists (field then.inputs k 4) n) (cell 5 (omega arith))
            ∙ part_same then.lists on.lists (field then.inputs k 4) (field then.inputs k 5) then.table.link.lists r.lacks-in after.inside y.lists-long y.lists-same
            ∙ r.lacks;
        needs =
            ap (λ (n : ℕ). part on.lists n (field on.inputs k 3)) (cell 2 (omega arith))
            ∙ ap (λ (n : ℕ). part on.lists (field then.inputs k 2) n) (cell 3 (omega arith))
            ∙ part_same then.lists on.lists (field then.inputs k 2) (field then.inputs k 3) then.table.link.lists r.needs-in after.inside y.lists-long y.lists-same
            ∙ r.needs;
      }

  pub library-named : Named o a on
  library-named =
      let n = library-names o a g.lent ok g.marked.good in
      let y : Stays (store then.table) (store on.table) = calls-stay ls then _ after.marked in
      record {
        own = issued-stays count name (store then.table) (store on.table) (self o a) (name_of o) y n.own;
        lacked = each-stays (store then.table) (store on.table) (undefineds o a) _ y n.lacked;
        listed = each-stays (store then.table) (store on.table) (dependencies o a) _ y n.listed;
      }
