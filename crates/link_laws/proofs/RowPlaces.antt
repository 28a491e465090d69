-- 1 at the "first such row" of the lists that a call is lent; where the link's own counts are past what is lent, that comes first.
-- Assumes nothing.
use Rattle.std.specs.Prelude.{ℕ, ◌/◌, ◌≡◌, true, List, ◌∷◌, ◌≢◌, eqb, ltb, length}
use Rattle.std.proofs.Math.Path.{refl}
use Rattle.std.proofs.Common.{sym, ap, ◌∙◌, subst, eq-eqb, ne_eqb, eqb-true, ltb-true, ltb-false}
use Rattle.std.proofs.lemmas.Bool.{false≢true, eqb-false}
use Rattle.byte_slices.specs.Proof.Ways.{pick}
use Rattle.link.specs.declared.cause.Refusal.{Refusal}
use Rattle.link.specs.Judge.{change_of}
use Rattle.elf_object.specs.Rows.{rows_in, is_loaded}
use Rattle.elf_object.specs.Judge.{bad_entry}
use Rattle.elf_object.specs.Judge as Elf
use Rattle.section_groups.specs.Group as Group
use Rattle.section_groups.specs.AddGroup as AddGroup
use Rattle.archive_walk.specs.declared.Walk.{Walk}
use Rattle.object_requirement.specs.Matches.{matches_of}
use Rattle.merge_stages.specs.Stages as Stages
use Rattle.merge_elf.specs.Merge as Merge
use Rattle.merge_elf.specs.Merge.{work_refusal, rows_refusal, check_of, head_in}
use Rattle.shared_objects.specs.Head as Head
use Rattle.shared_objects.specs.Head.{bad_need, soname_missing, unnamed_of, marks_short}
use Rattle.shared_objects.specs.Load as Shared
use Rattle.merge_laws.specs.Calls.{Linked, all_in}
use Rattle.link_laws.specs.Calls.{Call, add_group, merge, load, matches, group_in, library_in, call_refusal, call_number}
use Rattle.link_laws.proofs.LoadNumbers.{lent_in}
use Rattle.link_laws.specs.Leaves.{by_elements}
use Rattle.link_laws.proofs.CallPlaces.{differ, group-of-head}
use Rattle.link_laws.specs.FirstRow.{BadRow}
use Rattle.link_laws.proofs.FirstRow.{first-bad, none-bad, elf-row}
use Rattle.link_laws.specs.Starred.{head_refusal}
use Rattle.link_laws.proofs.Starred.{Stopped, at_head, at-element, stopped}
use Rattle.merge_laws.specs.Table.{one_of, starred}
use Rattle.link_laws.specs.RowPlaces.{BadObject, BadGroup, no-group, row, library_lent, BadLibrary, dependency, soname, symbol}

-- a merge's or a load's 1 is its head's
one-head : (k : Call) (s : Linked) → by_elements k ≡ true → call_number k s ≡ 1 → call_refusal k s ≡ head_refusal k s
one-head k s g e = split (stopped k s g (λ z. differ 0 1 refl (sym z ∙ e)))
  where
    split : Stopped k s → call_refusal k s ≡ head_refusal k s
    split (at_head r n q f) = r
    split (at-element n q) = absurd (false≢true (ap (λ (m : ℕ). one_of m (2 ∷ starred)) (sym e) ∙ n))

-- ---- an object

module _ (o : Stages.Object) where
  merge-head-row : (a : Stages.All) → (change_of a.stage.link (Merge.lent a)).number ≡ 0 → (head_in o a).number ≡ 1 → BadObject o (head_in o a).place
  unfolding check_of rows_refusal work_refusal
  merge-head-row a z =
      rw (eq-eqb _ _ z)
      (pick P (eqb (Elf.judge_of o.headers o.entries (length o.contents) (length o.image)).number 0) _ _
      (λ c.
      pick P (ltb (length a.work / 8) (rows_in o.headers)) _ _ (λ d e. differ 2 1 refl e)
      (λ d. pick P (ltb (length a.ids) (rows_in o.entries)) _ _ (λ f e. differ 2 1 refl e) (λ f e. differ 0 1 refl e)))
      (λ c e. elf-row o.headers o.entries (length o.contents) (length o.image) (eqb-false _ _ c)))
    where
      P : Refusal → Type 0
      P r = r.number ≡ 1 → BadObject o r.place

  pub merge-row : (work ids : List ℕ) (s : Linked) → (change_of s.table.link (Merge.lent (all_in s work ids))).number ≡ 0 → call_number (merge o work ids) s ≡ 1
      → BadObject o (call_refusal (merge o work ids) s).place
  merge-row work ids s z e =
      let r = one-head (merge o work ids) s refl e in
      subst (λ (x : Refusal). BadObject o x.place) (sym r) (merge-head-row (all_in s work ids) z (sym (ap (λ (x : Refusal). x.number) r) ∙ e))

-- an object whose member is asked for
pub matches-row : (headers entries contents file index cells : List ℕ) (w : Walk) (e : ℕ) (s : Linked)
    → (Elf.judge_of headers entries (length contents) (length file)).number ≢ 0
    → BadRow headers entries (length contents) (length file) (call_refusal (matches headers entries contents file index cells w e) s).place
unfolding matches_of
matches-row headers entries contents file index cells w e s u =
    rw (ne_eqb _ _ u) (elf-row headers entries (length contents) (length file) u)

-- a group's object, then the group's own section, if it is none
module _ (o : Group.Object) (n : ℕ) where
  group-head-row : (a : Group.State) → (change_of a.link (AddGroup.lent a)).number ≡ 0 → (AddGroup.head_in o a n).number ≡ 1 → BadGroup o n (AddGroup.head_in o a n).place
  unfolding AddGroup.check_of AddGroup.rows_refusal AddGroup.marks_refusal
  group-head-row a z =
      rw (eq-eqb _ _ z)
      (pick P (eqb (Elf.judge_of o.headers o.entries (length o.contents) (length o.image)).number 0) _ _
      (λ c.
      pick P (is_loaded o.headers n 7) _ _
      (λ d. pick P (ltb (length a.work / 8) (rows_in o.headers)) _ _ (λ f e. differ 2 1 refl e) (λ f e. differ 0 1 refl e))
      (λ d e. no-group (eqb-true _ _ c) d refl))
      (λ c e. row (elf-row o.headers o.entries (length o.contents) (length o.image) (eqb-false _ _ c))))
    where
      P : Refusal → Type 0
      P r = r.number ≡ 1 → BadGroup o n r.place

  pub group-row : (work : List ℕ) (s : Linked) → (change_of s.table.link (AddGroup.lent (group_in s.table work))).number ≡ 0
      → call_number (add_group o work n) s ≡ 1 → BadGroup o n (call_refusal (add_group o work n) s).place
  group-row work s z e =
      let r = group-of-head o s.table work n 1 refl e in
      subst (λ (x : Refusal). BadGroup o n x.place) (sym r) (group-head-row (group_in s.table work) z (sym (ap (λ (x : Refusal). x.number) r) ∙ e))

-- ---- a library: its symbols, its soname, its dependencies

module _ (o : Shared.Input) where
  abbrev InRows : Refusal → Type 0
  InRows r = r.number ≡ 1 → BadLibrary o r.place

  library-row : InRows (Head.rows_of o.entries o.image o.needs o.sonamed o.soname)
  unfolding Head.rows_of bad_entry bad_need
  library-row =
      pick InRows (ltb (bad_entry o.entries) (rows_in o.entries)) _ _ (λ a e. symbol (first-bad _ _ (ltb-true _ _ a)))
      (λ a.
      pick InRows (soname_missing o.image o.sonamed o.soname) _ _ (λ b e. soname (none-bad _ _ (ltb-false _ _ a)) b refl)
      (λ b.
      pick InRows (ltb (bad_need o.image o.needs) (length o.needs)) _ _
      (λ c e. dependency (none-bad _ _ (ltb-false _ _ a)) b (first-bad _ _ (ltb-true _ _ c))) (λ c e. differ 0 1 refl e)))

  load-head-row : (a : Shared.All) → (change_of a.link (lent_in a)).number ≡ 0 → InRows (Shared.head_in o a)
  unfolding Head.check_of Head.after_rows Head.name_refusal
  load-head-row a z =
      rw (eq-eqb _ _ z)
      (pick InRows (eqb (Head.rows_of o.entries o.image o.needs o.sonamed o.soname).number 0) _ _
      (λ b.
      pick InRows (unnamed_of o.archived o.sonamed) _ _ (λ c e. differ 25 1 refl e)
      (λ c. pick InRows (marks_short o.asneeded (length a.marks) a.link.names) _ _ (λ d e. differ 2 1 refl e) (λ d e. differ 0 1 refl e)))
      (λ b. library-row))

  pub load_row : (marks : List ℕ) (s : Linked) → (change_of s.table.link (library_lent s)).number ≡ 0 → call_number (load o marks) s ≡ 1
      → BadLibrary o (call_refusal (load o marks) s).place
  load_row marks s z e =
      let r = one-head (load o marks) s refl e in
      subst (λ (x : Refusal). BadLibrary o x.place) (sym r) (load-head-row (library_in s marks) z (sym (ap (λ (x : Refusal). x.number) r) ∙ e))
