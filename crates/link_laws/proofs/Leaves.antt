-- Theorems over specs/Leaves.antt.
-- Assumes nothing.
use Rattle.shared_objects.specs.declared.Load.TheVariants.{NotNeeded, Loaded}
use Rattle.shared_objects.specs.declared.Load.{Load}
use Rattle.std.specs.Prelude.{ℕ, ◌≡◌, true, false, List, ◌≢◌, eqb, Result, Ok, Err}
use Rattle.std.proofs.Math.Path.{refl, sym, ap}
use Rattle.std.proofs.Common.{◌∙◌, eqb-true}
use Rattle.std.proofs.lemmas.Bool.{eqb-false}
use Rattle.cells.specs.Proof.Split.{by-test}
use Rattle.byte_slices.specs.Proof.Ways.{pick, apart}
use Rattle.link.specs.Judge as Answer
use Rattle.link.specs.Said.{number_in}
use Rattle.link.specs.declared.cause.Refusal.{Refusal}
use Rattle.link.specs.Stage.{Stage}
use Rattle.section_groups.specs.Group as Group
use Rattle.section_groups.specs.Group.{group_of, group_section_of, go}
use Rattle.section_groups.specs.AddGroup as AddGroup
use Rattle.section_groups.specs.AddGroup.{answer_of, loaded_in, add_group_of}
use Rattle.merge_stages.specs.Stages as Stages
use Rattle.merge_elf.specs.Merge as Merge
use Rattle.shared_objects.specs.Load as Shared
use Rattle.shared_objects.specs.Load.{load_of}
use Rattle.symbol_laws.specs.History as History
use Rattle.symbol_laws.specs.History.{State}
use Rattle.symbol_laws.proofs.Calls.{call-refused}
use Rattle.merge_laws.specs.Stops as Stops
use Rattle.merge_laws.proofs.ByNumber as ByNumber
use Rattle.merge_laws.proofs.Refusals.{group-left}
use Rattle.merge_laws.specs.Calls.{Linked, linked, all_in, link_in}
use Rattle.load_laws.specs.Whole as Loads
use Rattle.load_laws.proofs.Unneeded as Unneeded
use Rattle.link_laws.specs.Calls.{Call, intern, add, remove, add_group, merge, merge_file, load, collect, plain_collect, group_in, library_in, lists_in, call_left, call_number, call_next, reads, add_list, earlier}
use Rattle.link_laws.proofs.PlainCalls.{Compared, alike, many, compared, many-next}
use Rattle.link_laws.proofs.Idle.{drops-nothing, refused-drops}
use Rattle.link_laws.proofs.CallSteps.{grouped, head-loaded, section-is, answered-is}
use Rattle.link_laws.proofs.ListCall.{next-is}
use Rattle.link_laws.specs.Leaves.{by_elements}

direct-leaves : (k : History.Call) (s : Linked) → History.call_number k s.table ≢ 0 → linked (History.call_next k s.table) s.inputs s.lists ≡ s
direct-leaves k s u = ap (λ (t : State). linked t s.inputs s.lists) (call-refused k s.table u)

module _ (o : Group.Object) (t : State) (work : List ℕ) (n : ℕ) where
  abbrev at : Group.State
  at = group_in t work

  -- the link, and the marks
  abbrev pub GroupLeft : AddGroup.Left → Type 0
  GroupLeft x = (grouped o t work n x ≡ t) × (x.work ≡ work)

  answered-zero : (s : Stage) → s.number ≡ 0 → (Answer.refusal_in (answer_of s).answer).number ≡ 0
  unfolding answer_of
  answered-zero s e = by-test (eqb s.number 0) (λ a. rw a) (λ a. absurd (eqb-false _ _ a e))

  pub group-refused : (add_group_of o at n).said.number ≢ 0 → GroupLeft (add_group_of o at n)
  unfolding add_group_of
  group-refused =
      pick (λ (x : AddGroup.Left). x.said.number ≢ 0 → GroupLeft x) (eqb (AddGroup.head_in o at n).number 0) _ _
      (λ a u.
      let same : group_section_of (loaded_in o) (go at) n ≡ group_of (loaded_in o) at n = section-is o t work n (head-loaded o t work n (eqb-true _ _ a)) in
      let e =
      (group-left (loaded_in o) (go at) n refl
      (λ z. u (answered-zero (group_of (loaded_in o) at n).stage (sym (ap (λ (g : Group.Step). g.stage.number) same) ∙ z)))).as_it_was in
      let f = sym same ∙ e in (
        answered-is o t work n (group_of (loaded_in o) at n)
            ∙ ap (λ (g : Group.Step). record { bytes = g.bytes; names = g.names; symbols = t.symbols; sections = t.sections; link = g.stage.link }) f,
        ap (λ (g : Group.Step). g.work) f,
      ))
      (λ a u. (refl, refl))

pub refused-leaves : (k : Call) (s : Linked) → by_elements k ≡ false → call_number k s ≢ 0 → call_next k s ≡ earlier k s
refused-leaves (intern x) s g u = direct-leaves (History.intern x) s u
refused-leaves (reads k) s g u = refl
refused-leaves (add conversion u) s g z = direct-leaves (History.add conversion u) s z
refused-leaves (add_list conversion adds ids) s g u = next-is conversion adds ids s
refused-leaves (remove id) s g u = direct-leaves (History.remove id) s u
refused-leaves (add_group o work n) s g u = ap (λ (t : State). linked t s.inputs s.lists) (group-refused o s.table work n u).0
refused-leaves (merge o work ids) s g u = absurd (apart (sym g))
refused-leaves (merge_file file cells work ids) s g u = absurd (apart (sym g))
refused-leaves (load o marks) s g u = absurd (apart (sym g))
refused-leaves (collect marks entry work) s g u =
    drops-nothing marks entry work s (refused-drops s.table.link s.table.symbols s.table.sections (lists_in s marks) entry work u)
refused-leaves (plain_collect marks entry work) s g u = go (compared marks entry work s)
  where
    go : Compared marks entry work s → call_next (plain_collect marks entry work) s ≡ s
    go (alike r t a) =
        t
        ∙ drops-nothing marks entry work s
        (refused-drops s.table.link s.table.symbols s.table.sections (lists_in s marks) entry work (λ z. u (ap (λ (x : Refusal). x.number) r ∙ z)))
    go (many m v w e) = many-next marks entry work s e

-- ---- merges and loads

-- 22, 1 and missing cells leave all; so does 25
pub merge-head : (o : Stages.Object) (work ids : List ℕ) (s : Linked) → (Merge.head_in o (all_in s work ids)).number ≢ 0 → call_next (merge o work ids) s ≡ s
merge-head o work ids s u = ap (λ (x : Merge.Left). link_in x.cells) (ByNumber.head-leaves o (all_in s work ids) u).all

pub load-head : (o : Shared.Input) (marks : List ℕ) (s : Linked) → (Shared.head_in o (library_in s marks)).number ≢ 0 → call_next (load o marks) s ≡ s
load-head o marks s u = ap (λ (x : Shared.Left). linked (Loads.table_in x.cells) x.cells.inputs x.cells.lists) (Unneeded.head-leaves o (library_in s marks) u)

-- "an unneeded library answers "not needed" and changes nothing"
pub load-unneeded : (o : Shared.Input) (marks : List ℕ) (s : Linked) → (call_left (load o marks) s).answer ≡ Ok NotNeeded → call_next (load o marks) s ≡ s
load-unneeded o marks s e =
    ap (λ (a : Shared.All). linked (Loads.table_in a) a.inputs a.lists) (Unneeded.not-needed-leaves o (library_in s marks) e)

-- every other refusal breaks the link
pub merge-breaks : (o : Stages.Object) (work ids : List ℕ) (s : Linked) → (Merge.head_in o (all_in s work ids)).number ≡ 0 → call_number (merge o work ids) s ≢ 0
    → (call_next (merge o work ids) s).table.link.broken ≡ true
merge-breaks o work ids s h u =
    by-test (eqb (Stops.number o (all_in s work ids)) 0)
    (λ z. absurd (u (ap (λ (x : Merge.Left). x.said.number) (ByNumber.accepted-stays o (all_in s work ids) h (eqb-true _ _ z)).all)))
    (λ z. ap (λ (x : Merge.Left). x.cells.stage.link.broken) (ByNumber.refused-breaks o (all_in s work ids) h (eqb-false _ _ z)))

load_said : (o : Shared.Input) (a : Shared.All) → number_in (load_of o a).said ≡ number_in (Shared.said_of (load_of o a).answer)
unfolding load_of Shared.library_named Shared.wanted_of
load_said o a =
    pick P (eqb (Shared.head_in o a).number 0) _ _
    (λ h.
    pick P (Shared.want_of o.asneeded a.link a.bytes a.names a.symbols a.inputs a.lists a.marks o.entries o.image (Shared.name_of o)).needed _ _
    (λ w. refl) (λ w. refl))
    (λ h. refl)
  where
    P : Shared.Left → Type 0
    P x = number_in x.said ≡ number_in (Shared.said_of x.answer)

pub load-breaks : (o : Shared.Input) (marks : List ℕ) (s : Linked) → (Shared.head_in o (library_in s marks)).number ≡ 0 → call_number (load o marks) s ≢ 0
    → (call_next (load o marks) s).table.link.broken ≡ true
load-breaks o marks s h u = go (load_of o (library_in s marks)).answer refl
  where
    said-is : number_in (load_of o (library_in s marks)).said ≡ number_in (Shared.said_of (load_of o (library_in s marks)).answer)
    said-is = load_said o (library_in s marks)

    go : (x : Result Load Refusal) → (load_of o (library_in s marks)).answer ≡ x → (load_of o (library_in s marks)).cells.link.broken ≡ true
    go (Ok Loaded) e = absurd (u (said-is ∙ ap (λ (a : Result Load Refusal). number_in (Shared.said_of a)) e))
    go (Ok NotNeeded) e = absurd (u (said-is ∙ ap (λ (a : Result Load Refusal). number_in (Shared.said_of a)) e))
    go (Err r) e = Unneeded.refusal-breaks o (library_in s marks) r h e
