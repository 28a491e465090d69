-- Laws of the definitions of GroupStage.antt.
-- Assumes nothing.
use Prim.Native.Nat.{ℕ, zero, suc, ◌+◌, ◌*◌, ◌/◌}
use Rattle.std.proofs.Common.{arith, ap, ◌∙◌, get_or-set_other}
use Rattle.std.specs.Prelude.{◌≡◌, refl, Bool, true, false, cond, List, eqb, length}
use Rattle.std.proofs.Math.ListN.{get_or, set}
use Rattle.cells.specs.Proof.Split.{by-test}
use Rattle.link.specs.declared.Link.{Link}
use Rattle.link.specs.declared.Interned.{Interned}
use Rattle.strings.specs.Lookup.{Looked}
use Rattle.interner.specs.Names.{Store, store_of, keep_of}
use Rattle.elf_object.specs.Rows.{rows_in, is_loaded, mark_at}
use Rattle.section_groups.specs.Group.{Plan}
use Rattle.section_groups.specs.Group.{Object, listed_in, shape_of, signature_of, plan_of, mark_group_of, mark_one, mark_from, commit_group_of, decided_of, group_named, signed_of, shaped_of, group_of, group_section_of, groups_from, groups_of}
use Rattle.section_groups.specs.Group as Group
use Rattle.merge_laws.specs.Steps.{Makes}
use Rattle.merge_laws.specs.Loop.{loop_steps}
use Rattle.merge_laws.proofs.Loop.{loop, loop-makes, loop-holds}
use Rattle.merge_laws.proofs.Placed.{Firsts}
use Rattle.merge_laws.specs.MergeSteps.{group_section_steps}
use Rattle.merge_laws.specs.GroupStage.{number_of}
use Rattle.merge_laws.proofs.GroupStage.{table_in, section-makes}

pub groups-loop : (o : Object) (k n : ℕ) (s : Group.Step) → groups_from o k n s ≡ loop number_of (group_section_of o) k n s
unfolding groups_from
groups-loop o zero n s = refl
groups-loop o (suc k) n s =
    ap (λ (t : Group.Step). cond (eqb (group_section_of o s n).stage.number 0) t (group_section_of o s n)) (groups-loop o k (n + 1) (group_section_of o s n))

-- the first k sections
pub groups-make-to : (symbols sections : List ℕ) (o : Object) (k : ℕ) (s : Group.Step)
    → Makes (table_in symbols sections s) (loop_steps number_of (group_section_of o) (group_section_steps o) k 0 s) (table_in symbols sections (groups_from o k 0 s))
groups-make-to symbols sections o k s =
    rw (groups-loop o k 0 s)
    (loop-makes number_of (group_section_of o) (group_section_steps o) (table_in symbols sections) (λ s. Unit {0}) (λ s i h. tt) (λ s i h. section-makes symbols sections o s i)
    k 0 s tt)

pub groups-make : (symbols sections : List ℕ) (o : Object) (s : Group.Step)
    → Makes (table_in symbols sections s) (loop_steps number_of (group_section_of o) (group_section_steps o) (rows_in o.headers) 0 s) (table_in symbols sections (groups_of o s))
unfolding groups_of
groups-make symbols sections o s = groups-make-to symbols sections o (rows_in o.headers) s

-- ---- a group writes no conversion

group-firsts : (rows : ℕ) (w : List ℕ) (n : ℕ) → Firsts rows w (mark_group_of w n)
unfolding mark_group_of
group-firsts rows w n m h =
    by-test (eqb (mark_at w n) 2) (λ t. rw t) (λ t. rw t (get_or-set_other w (n * 8 + 1) (m * 8 + 0) 1 0 (λ e. omega arith)))

one-firsts : (rows : ℕ) (w : List ℕ) (b : Bool) (n : ℕ) → Firsts rows w (mark_one w b n)
unfolding mark_one
one-firsts rows w true n m h =
    get_or-set_other (set w (n * 8 + 1) 2) (n * 8 + 3) (m * 8 + 0) 1 0 (λ e. omega arith) ∙ get_or-set_other w (n * 8 + 1) (m * 8 + 0) 2 0 (λ e. omega arith)
one-firsts rows w false n m h = get_or-set_other w (n * 8 + 3) (m * 8 + 0) 1 0 (λ e. omega arith)

listed-firsts : (rows : ℕ) (b : Bool) (xs : List ℕ) (i k : ℕ) (w : List ℕ) → Firsts rows w (mark_from b xs i k w)
unfolding mark_from
listed-firsts rows b xs i zero w m h = refl
listed-firsts rows b xs i (suc k) w m h = listed-firsts rows b xs (i + 1) k (mark_one w b (get_or xs i 0)) m h ∙ one-firsts rows w b (get_or xs i 0) m h

section-firsts : (o : Object) (rows : ℕ) (s : Group.Step) (n : ℕ) → Firsts rows s.work (group_section_of o s n).work
unfolding group_section_of group_of shaped_of signed_of group_named decided_of commit_group_of
section-firsts o rows s n m h =
    by-test (is_loaded o.headers n 7)
    (λ a.
    by-test (eqb (shape_of o s.work n) 0)
    (λ b.
    let x : Looked = signature_of o.headers o.entries o.image o.table n in
    by-test x.found
    (λ c.
    let listed : List ℕ = listed_in o n in
    let q : Plan = plan_of s.stage.link s.bytes s.names (length s.work / 8) x.name listed in
    by-test (eqb q.number 0)
    (λ d.
    rw (a, b, c, d)
    (listed-firsts rows q.repeated listed 0 (length listed) (mark_group_of s.work n) m h ∙ group-firsts rows s.work n m h)) (λ d. rw (a, b, c, d)))
    (λ c. rw (a, b, c)))
    (λ b. rw (a, b)))
    (λ a. rw a)

pub groups-firsts : (o : Object) (rows : ℕ) (s : Group.Step) → Firsts rows s.work (groups_of o s).work
unfolding groups_of
groups-firsts o rows s =
    rw (groups-loop o (rows_in o.headers) 0 s)
    (loop-holds number_of (group_section_of o) (λ t. Firsts rows s.work t.work) (λ t n f m h. section-firsts o rows t n m h ∙ f m h)
    (rows_in o.headers) 0 s (λ m h. refl))

-- ---- what names don't touch of the link stays

module _ {A : Type 0} (count : Link → A) (same : (s : Store) (id : Interned) (x : List ℕ) → count (keep_of s id x).link ≡ count s.link) where
  section-count : (o : Object) (s : Group.Step) (n : ℕ) → count (group_section_of o s n).stage.link ≡ count s.stage.link
  unfolding group_section_of group_of shaped_of signed_of group_named decided_of commit_group_of
  section-count o s n =
      let x : Looked = signature_of o.headers o.entries o.image o.table n in
      let listed : List ℕ = listed_in o n in
      let q : Plan = plan_of s.stage.link s.bytes s.names (length s.work / 8) x.name listed in
      by-test (is_loaded o.headers n 7)
      (λ a.
      by-test (eqb (shape_of o s.work n) 0)
      (λ b.
      by-test x.found
      (λ c.
      by-test (eqb q.number 0)
      (λ d. rw (a, b, c, d) (same (store_of s.bytes s.names s.stage.link) q.signature x.name)) (λ d. rw (a, b, c, d)))
      (λ c. rw (a, b, c)))
      (λ b. rw (a, b)))
      (λ a. rw a)

  pub groups-count : (o : Object) (k : ℕ) (s : Group.Step) → count (groups_from o k 0 s).stage.link ≡ count s.stage.link
  groups-count o k s =
      rw (groups-loop o k 0 s)
      (loop-holds number_of (group_section_of o) (λ t. count t.stage.link ≡ count s.stage.link) (λ t n e. section-count o t n ∙ e) k 0 s refl)
