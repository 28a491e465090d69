-- What a merge or a load leaves that is refused at its head or at one of its elements, over the call itself.
-- Assumes nothing.
use Rattle.shared_objects.specs.declared.Load.TheVariants.{NotNeeded}
use Rattle.std.specs.Prelude.{ℕ, ◌≡◌, refl, Bool, true, false, List, ◌≢◌, eqb, Ok, Err}
use Rattle.std.proofs.Common.{sym, ap, ◌∙◌, subst, eqb-true, eq-eqb}
use Rattle.std.proofs.lemmas.Bool.{false≢true, eqb-false}
use Rattle.cells.specs.Proof.Split.{by-test}
use Rattle.link.specs.declared.cause.Refusal.{Refusal}
use Rattle.link.specs.Judge.{refused, broken_of}
use Rattle.link.specs.Said.{number_in, place_in}
use Rattle.merge_symbols.specs.Plan.{place_of}
use Rattle.merge_stages.specs.Stages as Stages
use Rattle.merge_elf.specs.Merge as Merge
use Rattle.merge_elf.specs.Merge.{merge_of}
use Rattle.shared_objects.specs.Stages.{Links}
use Rattle.shared_objects.specs.Load as Shared
use Rattle.shared_objects.specs.Load.{load_of}
use Rattle.load_laws.proofs.Unneeded as Unneeded
use Rattle.merge_laws.specs.Stops as Stops
use Rattle.merge_laws.specs.ByNumber as ByNumber
use Rattle.merge_laws.proofs.ByNumber as ByNumberLaws
use Rattle.merge_laws.specs.ByNumber.{all_left, name_stays, name_at, place_at, id_in, named}
use Rattle.merge_laws.proofs.ByNumber.{disjoint}
use Rattle.merge_laws.specs.Calls.{Linked, linked, link_in}
use Rattle.load_laws.specs.Stops as Loading
use Rattle.load_laws.proofs.Stops as LoadingLaws
use Rattle.load_laws.specs.Stops.{want, ending}
use Rattle.load_laws.specs.Whole as Loads
use Rattle.load_laws.specs.Unbroken as Unbroken
use Rattle.load_laws.proofs.Unbroken as UnbrokenLaws
use Rattle.link_laws.specs.Calls.{merge, call_left, call_refusal}
use Rattle.link_laws.proofs.LoadNumbers.{head-gives}
use Rattle.merge_laws.specs.Table.{one_of, section_causes, early_causes, merge_head_numbers, load_head_numbers}
use Rattle.link_laws.specs.Elements.{lent_to, number, MergeLeft, lent_load, load_number, numbers_at, named_at, row_at, name_in, id_at, LoadLeft, at-element, at_head, but-its-name}

-- ---- merges

module _ (o : Stages.Object) (work ids : List ℕ) (s : Linked) where
  -- the ways of a merge
  pub data Merges : Type 0 where
    head : (Merge.head_in o (lent_to o work ids s)).number ≢ 0 → ByNumber.HeadLeaves o (lent_to o work ids s) → Merges
    accepted : ByNumber.MergeLeaves o (lent_to o work ids s) → Merges
    element : Stops.number o (lent_to o work ids s) ≢ 0
        → merge_of o (lent_to o work ids s) ≡ Merge.leave (Stops.end o (lent_to o work ids s)) (broken_of (Stops.end o (lent_to o work ids s)).stage.link) (Err (refused (Stops.number o (lent_to o work ids s)) (Stops.end o (lent_to o work ids s)).stage.place))
        → Merges

  pub merges : Merges
  merges =
      by-test (eqb (Merge.head_in o (lent_to o work ids s)).number 0)
      (λ h.
      by-test (eqb (Stops.number o (lent_to o work ids s)) 0) (λ z. accepted (ByNumberLaws.accepted-stays o (lent_to o work ids s) (eqb-true _ _ h) (eqb-true _ _ z)))
      (λ z. element (eqb-false _ _ z) (ByNumberLaws.refused-breaks o (lent_to o work ids s) (eqb-true _ _ h) (eqb-false _ _ z))))
      (λ h. head (eqb-false _ _ h) (ByNumberLaws.head-leaves o (lent_to o work ids s) (eqb-false _ _ h)))

  pub merge-leaves : number o work ids s ≢ 0 → MergeLeft o work ids s
  merge-leaves u = go merges
    where
      ended : Stages.All → Merge.Left
      ended t = Merge.leave t (broken_of t.stage.link) (Err (refused t.stage.number t.stage.place))

      go : Merges → MergeLeft o work ids s
      go (head n h) =
          let e : call_refusal (merge o work ids) s ≡ Merge.head_in o (lent_to o work ids s) = ap (λ (x : Merge.Left). x.said) h.all in
          at_head e (ap (λ (r : Refusal). one_of r.number merge_head_numbers) e ∙ h.number) (ap (λ (x : Merge.Left). link_in x.cells) h.all)
      go (accepted m) = absurd (u (ap (λ (x : Merge.Left). x.said.number) m.all))
      go (element z e) = left (ByNumberLaws.refused-leaves o (lent_to o work ids s) z)
        where
          same : number o work ids s ≡ Stops.number o (lent_to o work ids s)
          same = ap (λ (x : Merge.Left). x.said.number) e

          left : ByNumber.Leaves o (lent_to o work ids s) → MergeLeft o work ids s
          left (ByNumber.all b at m k f) =
              let w = e ∙ ap ended f in
              at-element b at m (ap (λ (n : ℕ). one_of n (all_left o (lent_to o work ids s) at)) same ∙ k)
              (ap (λ (x : Merge.Left). x.said) w
              ∙ sym (ap (λ (n : ℕ). refused n (place_of n (id_in b (name_at o (lent_to o work ids s) at).name) (place_at o (lent_to o work ids s) at))) same))
              (ap (λ (x : Merge.Left). link_in x.cells) w)
          left (ByNumber.but-its-name b at found m k f) =
              let w = e ∙ ap ended f in
              but-its-name b at found m (ap (λ (n : ℕ). one_of n (name_stays o (lent_to o work ids s) at)) same ∙ k)
              (ap (λ (x : Merge.Left). x.said) w ∙ sym (ap (λ (n : ℕ). refused n (place_at o (lent_to o work ids s) at)) same))
              (ap (λ (x : Merge.Left). link_in x.cells) w)

  -- a number that the head doesn't give
  staged : (xs : List ℕ) → disjoint xs merge_head_numbers ≡ true → one_of 0 xs ≡ false → one_of (number o work ids s) xs ≡ true → (P : Stages.All → Type 0)
      → (Stops.number o (lent_to o work ids s) ≢ 0 → one_of (Stops.number o (lent_to o work ids s)) xs ≡ true → P (Merge.linked_as (Stops.end o (lent_to o work ids s)) (broken_of (Stops.end o (lent_to o work ids s)).stage.link)))
      → P (call_left (merge o work ids) s).cells
  staged xs d n k P p = go merges
    where
      among : Merge.Left → Bool
      among x = one_of x.said.number xs

      go : Merges → P (call_left (merge o work ids) s).cells
      go (head u h) =
          absurd (ByNumberLaws.apart (number o work ids s) xs merge_head_numbers d k (ap (λ (x : Merge.Left). one_of x.said.number merge_head_numbers) h.all ∙ h.number))
      go (accepted m) = absurd (false≢true (sym n ∙ sym (ap among m.all) ∙ k))
      go (element z e) = subst (λ (x : Merge.Left). P x.cells) (sym e) (p z (sym (ap among e) ∙ k))

  -- 3 to 8 and 24: symbols as before the call
  pub symbols-left : one_of (number o work ids s) early_causes ≡ true → ByNumber.SymbolsLeft o (lent_to o work ids s) (call_left (merge o work ids) s).cells
  symbols-left k =
      staged early_causes refl refl k (ByNumber.SymbolsLeft o (lent_to o work ids s))
      (λ u h.
      let r = ByNumberLaws.symbols-left o (lent_to o work ids s) u h in
      record { rows = r.rows; count = r.count; long = r.long; behind = r.behind })

  -- 3 and 24: names too
  pub names-left : one_of (number o work ids s) section_causes ≡ true → ByNumber.NamesLeft o (lent_to o work ids s) (call_left (merge o work ids) s).cells
  names-left k =
      staged section_causes refl refl k (ByNumber.NamesLeft o (lent_to o work ids s))
      (λ u h.
      let n = ByNumberLaws.names-left o (lent_to o work ids s) u h in
      let r = n.symbols in
      record {
        bytes = n.bytes;
        names = n.names;
        names-count = n.names-count;
        bytes_count = n.bytes_count;
        symbols = record { rows = r.rows; count = r.count; long = r.long; behind = r.behind };
      })

-- ---- loads

module _ (o : Shared.Input) (marks : List ℕ) (s : Linked) where
  abbrev stopped : Links → Shared.Left
  stopped t =
      Shared.leave_links (want o (lent_load o marks s)).marks t
      (record { link = broken_of t.stage.link; answer = Err (refused t.stage.number t.stage.place) })

  -- the ways of a load
  pub data Ways : Type 0 where
    refuses : (Shared.head_in o (lent_load o marks s)).number ≢ 0 → load_of o (lent_load o marks s) ≡ Shared.left (lent_load o marks s) (Err (Shared.head_in o (lent_load o marks s))) → Ways
    unneeded : load_of o (lent_load o marks s) ≡ Shared.left (Shared.marked (lent_load o marks s) (want o (lent_load o marks s)).marks) (Ok NotNeeded) → Ways
    loads : Unbroken.Loads o (lent_load o marks s) → Ways
    stops : (ending o (lent_load o marks s)).stage.number ≢ 0 → load_of o (lent_load o marks s) ≡ stopped (ending o (lent_load o marks s)) → Ways

  not-wanted : (Shared.head_in o (lent_load o marks s)).number ≡ 0 → (want o (lent_load o marks s)).needed ≡ false
      → load_of o (lent_load o marks s) ≡ Shared.left (Shared.marked (lent_load o marks s) (want o (lent_load o marks s)).marks) (Ok NotNeeded)
  unfolding load_of Shared.library_named Shared.wanted_of
  not-wanted h w = rw (eq-eqb _ _ h, w)

  pub ways : Ways
  ways =
      by-test (eqb (Shared.head_in o (lent_load o marks s)).number 0)
      (λ h.
      by-test (want o (lent_load o marks s)).needed
      (λ w.
      by-test (eqb (ending o (lent_load o marks s)).stage.number 0) (λ z. loads (UnbrokenLaws.loaded-whole o (lent_load o marks s) (eqb-true _ _ h) w (eqb-true _ _ z)))
      (λ z. stops (eqb-false _ _ z) (LoadingLaws.refused-breaks o (lent_load o marks s) (eqb-true _ _ h) w (eqb-false _ _ z))))
      (λ w. unneeded (not-wanted (eqb-true _ _ h) w)))
      (λ h. refuses (eqb-false _ _ h) (Unneeded.head-leaves o (lent_load o marks s) (eqb-false _ _ h)))

  pub load-head-numbers : (Shared.head_in o (lent_load o marks s)).number ≢ 0 → one_of (Shared.head_in o (lent_load o marks s)).number load_head_numbers ≡ true
  load-head-numbers =
      head-gives (λ (r : Refusal). r.number ≢ 0 → one_of r.number load_head_numbers ≡ true) (λ k u. refl) (λ u. absurd (u refl)) (λ u. refl) (λ u. refl)
      (λ u. refl) o (lent_load o marks s)

  abbrev said : Shared.Left → Refusal
  said x = refused (number_in x.said) (place_in x.said)

  abbrev after : Shared.Left → Linked
  after x = linked (Loads.table_in x.cells) x.cells.inputs x.cells.lists

  pub load-leaves : load_number o marks s ≢ 0 → LoadLeft o marks s
  load-leaves u = go ways
    where
      go : Ways → LoadLeft o marks s
      go (refuses h e) = at_head (ap said e) (ap (λ (x : Shared.Left). one_of (number_in x.said) load_head_numbers) e ∙ load-head-numbers h) (ap after e)
      go (unneeded e) = absurd (u (ap (λ (x : Shared.Left). number_in x.said) e))
      go (loads m) = absurd (u (ap (λ (x : Shared.Left). number_in x.said) m.all))
      go (stops z e) = left (LoadingLaws.refused-leaves o.entries o.image o.needs (Shared.links_in (lent_load o marks s)) (Shared.name_of o) refl z)
        where
          same : load_number o marks s ≡ (ending o (lent_load o marks s)).stage.number
          same = ap (λ (x : Shared.Left). number_in x.said) e

          left : Loading.Leaves o.entries o.image o.needs (Shared.links_in (lent_load o marks s)) (Shared.name_of o) → LoadLeft o marks s
          left (Loading.all b at m k f) =
              let w = e ∙ ap stopped f in
              at-element b at m (ap (λ (n : ℕ). one_of n (numbers_at o marks s at)) same ∙ k)
              (ap said w ∙ sym (ap (λ (n : ℕ). refused n (place_of n (id_at o marks s b (name_in o marks s at).name) (row_at o marks s at))) same)) (ap after w)
          left (Loading.but-its-name b at found m k f) =
              let w = e ∙ ap stopped f in
              but-its-name b at found m (ap (λ (n : ℕ). one_of n (named_at o marks s at)) same ∙ k)
              (ap said w ∙ sym (ap (λ (n : ℕ). refused n (row_at o marks s at)) same)) (ap after w)
