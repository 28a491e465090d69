-- Groups under another key of the hash.
-- Assumes nothing.
use Prim.Native.Nat.{ℕ, zero, suc, ◌+◌, ◌*◌, ◌/◌, ◌<◌}
use Rattle.std.proofs.Common.{arith, sym, eqb-true, ltb-true, leb-false}
use Rattle.std.proofs.Math.Path.{◌≡◌, ap, subst}
use Rattle.std.specs.Prelude.{refl, true, cond, List, eqb, ltb, leb, length}
use Rattle.std.proofs.Math.ListN.{set}
use Rattle.cells.specs.Proof.Split.{by-test}
use Rattle.link.specs.Stage.{Stage}
use Rattle.link.specs.declared.Interned.{Interned}
use Rattle.link.specs.Judge.{stopped_of}
use Rattle.strings.specs.Lookup.{Looked}
use Rattle.interner.specs.Names.{Store, store_of, fits_of, room_of, keep_of}
use Rattle.interner_laws.specs.Good.{count, find}
use Rattle.interner_laws.proofs.Find.{find-low}
use Rattle.interner_laws.specs.Interns.{id_of}
use Rattle.interner_laws.proofs.Interns.{keeps}
use Rattle.symbol_laws.proofs.Issue.{room-free}
use Rattle.elf_object.specs.Rows.{is_loaded}
use Rattle.section_groups.specs.Group.{Plan}
use Rattle.section_groups.specs.Group as Group
use Rattle.section_groups.specs.Group.{Object, State, state_of, listed_in, Step, step_of, repeated_of, plan_with, plan_of, group_committed, commit_group_of, decided_of, group_named, signature_of, signed_of, shape_of, shaped_of, group_of, group_section_of, groups_from, groups_of}
use Rattle.section_groups.specs.AddGroup as AddGroup
use Rattle.section_groups.specs.AddGroup.{check_of, answer_of, answered, add_group_of}
use Rattle.key_laws.specs.Rekeyed.{keyed, Rekeyed, Moved}
use Rattle.key_laws.proofs.RekeyedLemmas.{moved, moved_cond, cell_same, find-same, fits-same, keep-moved, with_cell}
use Rattle.key_laws.proofs.Tables.{change-keyed}

-- ---- a name that fits has a row

pub keep-chains : (s : Store) (id : Interned) (x : List ℕ) → (keep_of s id x).link.chains ≡ s.link.chains
keep-chains s id x = keeps (λ (t : Store). t.link.chains ≡ s.link.chains) s id x refl (λ h r. refl)

pub fits-row : (k : ℕ) (s : Store) (n : List ℕ) → Rekeyed k s n → (x : List ℕ) (m : ℕ) → fits_of s (id_of s x) m ≡ true → find s x < s.link.chains
unfolding fits_of
fits-row k s n e x m f =
    by-test (ltb (find s x) (count s)) (λ a. omega (arith, ltb-true (find s x) (count s) a, e.good.chained.rows_in))
    (λ a.
    let r : room_of s m ≡ true = rw a at f in
    omega (arith, (room-free s m r).free, find-low s x))

-- ---- a group

abbrev pub stage_under : ℕ → Stage → Stage
stage_under k st = stopped_of (keyed k st.link) st.number st.place

abbrev pub state_store : State → Store
state_store s = store_of s.bytes s.names s.link

abbrev pub state_under : ℕ → List ℕ → State → State
state_under k n s = state_of s.bytes n s.work (keyed k s.link)

abbrev pub step_store : Step → Store
step_store s = store_of s.bytes s.names s.stage.link

abbrev pub step_under : ℕ → List ℕ → Step → Step
step_under k n s = step_of s.bytes n s.work (stage_under k s.stage)

abbrev Alike : ℕ → Step → Step → Type 0
Alike k = Moved step_store (step_under k) k

module _ (k : ℕ) (s : State) (n : List ℕ) (e : Rekeyed k (state_store s) n) where
  abbrev st : Store
  st = state_store s

  repeated-same : (id : ℕ) → repeated_of n s.link.names id ≡ repeated_of s.names s.link.names id
  unfolding repeated_of
  repeated-same id =
      by-test (leb s.link.names id) (λ a. rw a) (λ a. rw (a, cell_same k st n e id 4 (leb-false _ _ a) (omega arith) (λ z. omega arith)))

  plan-same : (marks : ℕ) (x listed : List ℕ) → plan_of (keyed k s.link) s.bytes n marks x listed ≡ plan_of s.link s.bytes s.names marks x listed
  unfolding plan_of plan_with
  plan-same marks x listed = rw (find-same k st n e x, repeated-same (find st x), fits-same k st n e (id_of st x) (length x))

  stop-moved : (number place : ℕ) → Alike k (Group.stop s number place) (Group.stop (state_under k n s) number place)
  stop-moved number place = moved step_store (step_under k) k (Group.stop s number place) n e

  module _ (x : List ℕ) (i : ℕ) (listed : List ℕ) where
    abbrev p : Plan
    p = plan_of s.link s.bytes s.names (length s.work / 8) x listed

    plan-id : p.signature ≡ id_of st x
    unfolding plan_of plan_with
    plan-id = by-test (fits_of st (id_of st x) (length x)) (λ a. rw a) (λ a. rw a)

    plan-row : p.number ≡ 0 → find st x < s.link.chains
    unfolding plan_of plan_with
    plan-row z =
        by-test (fits_of st (id_of st x) (length x)) (λ a. fits-row k st n e x (length x) a)
        (λ a. let w : ◌≡◌ {A = ℕ} 2 0 = rw a at z in absurd (omega arith))

    commit-moved : p.number ≡ 0 → Alike k (Group.go (commit_group_of s x p i listed)) (Group.go (commit_group_of (state_under k n s) x p i listed))
    unfolding commit_group_of
    commit-moved z =
        let t = keep-moved k st n e x p.signature plan-id in
        let kept : Store = keep_of st p.signature x in
        let h : p.signature.0 < kept.link.chains =
        rw (keep-chains st p.signature x, ap (λ (i : Interned). i.0) plan-id) (plan-row z) in
        record {
          names = set t.names (p.signature.0 * 8 + 4) 1;
          is = ap (λ (q : Store). Group.go (group_committed q s.work p i listed)) t.is;
          alike = with_cell k kept t.names t.alike p.signature.0 4 1 h (omega arith) (omega arith);
        }

    named-moved : Alike k (group_named s x i listed) (group_named (state_under k n s) x i listed)
    unfolding group_named decided_of
    named-moved =
        rw (plan-same (length s.work / 8) x listed)
        (moved_cond step_store (step_under k) k (eqb p.number 0) _ _ _ _ (λ a. commit-moved (eqb-true _ _ a)) (λ a. stop-moved p.number i))

  pub group-moved : (o : Object) (i : ℕ) → Alike k (group_of o s i) (group_of o (state_under k n s) i)
  unfolding group_of shaped_of signed_of
  group-moved o i =
      let x : Looked = signature_of o.headers o.entries o.image o.table i in
      let number : ℕ = shape_of o s.work i in
      moved_cond step_store (step_under k) k (eqb number 0) _ _ _ _
      (λ a.
      moved_cond step_store (step_under k) k x.found _ _ _ _ (λ f. named-moved x.name i (listed_in o i)) (λ f. stop-moved 7 i))
      (λ a. stop-moved number i)

-- ---- all groups of an object

module _ (k : ℕ) (o : Object) where
  section-moved : (s : Step) (n : List ℕ) → Rekeyed k (step_store s) n → (i : ℕ) → Alike k (group_section_of o s i) (group_section_of o (step_under k n s) i)
  unfolding group_section_of
  section-moved s n e i =
      moved_cond step_store (step_under k) k (is_loaded o.headers i 7) _ _ _ _
      (λ a. group-moved k (state_of s.bytes s.names s.work s.stage.link) n e o i) (λ a. moved step_store (step_under k) k s n e)

  from-moved : (m i : ℕ) (s : Step) (n : List ℕ) → Rekeyed k (step_store s) n → Alike k (groups_from o m i s) (groups_from o m i (step_under k n s))
  unfolding groups_from
  from-moved zero i s n e = moved step_store (step_under k) k s n e
  from-moved (suc m) i s n e =
      let t = section-moved s n e i in
      let g : Step = group_section_of o s i in
      subst (λ (u : Step). Alike k (groups_from o (suc m) i s) (cond (eqb u.stage.number 0) (groups_from o m (i + 1) u) u)) (sym t.is)
      (moved_cond step_store (step_under k) k (eqb g.stage.number 0) _ _ _ _
      (λ a. from-moved m (i + 1) g t.names t.alike) (λ a. moved step_store (step_under k) k g t.names t.alike))

  pub groups-moved : (s : Step) (n : List ℕ) → Rekeyed k (step_store s) n → Alike k (groups_of o s) (groups_of o (step_under k n s))
  unfolding groups_of
  groups-moved s n e = from-moved _ 0 s n e

-- ---- a group added by a call of its own

abbrev pub group_store : AddGroup.Left → Store
group_store o = store_of o.bytes o.names o.outcome.link

abbrev pub group_under : ℕ → List ℕ → AddGroup.Left → AddGroup.Left
group_under k n o =
    record { bytes = o.bytes; names = n; work = o.work; outcome = record { link = keyed k o.outcome.link; answer = o.outcome.answer }; said = o.said }

module _ (k : ℕ) (s : State) (n : List ℕ) (e : Rekeyed k (state_store s) n) (o : Object) where
  head-same : (i : ℕ) → AddGroup.head_in o (state_under k n s) i ≡ AddGroup.head_in o s i
  unfolding check_of
  head-same i = rw (e.long, change-keyed k s.link (AddGroup.lent s))

  answered-moved : (g : Step) (m : List ℕ) → Rekeyed k (step_store g) m → Moved group_store (group_under k) k (answered g) (answered (step_under k m g))
  unfolding answer_of
  answered-moved g m q =
      by-test (eqb g.stage.number 0) (λ a. rw a (record { names = m; is = refl; alike = q })) (λ a. rw a (record { names = m; is = refl; alike = q }))

  pub add-group-moved : (i : ℕ) → Moved group_store (group_under k) k (add_group_of o s i) (add_group_of o (state_under k n s) i)
  unfolding add_group_of
  add-group-moved i =
      let t = group-moved k s n e (AddGroup.loaded_in o) i in
      rw (head-same i)
      (moved_cond group_store (group_under k) k (eqb (AddGroup.head_in o s i).number 0) _ _ _ _
      (λ a. rw t.is (answered-moved (group_of (AddGroup.loaded_in o) s i) t.names t.alike))
      (λ a. record { names = n; is = refl; alike = e }))
