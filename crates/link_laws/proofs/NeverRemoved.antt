-- In a link from which nothing was removed no call of a walk is refused on account of the link, and the walk ends.
-- Assumes nothing.
use Prim.Native.Nat.{ℕ, zero, suc, ◌+◌, ◌/◌, ◌<◌, ◌≤◌}
use native.Mathlib.Omega.{arith}
use Rattle.std.proofs.Common.{add-zero, ◌∙◌}
use Rattle.std.specs.Prelude.{◌≡◌, true, eqb, ltb, length}
use Rattle.std.proofs.Math.Path.{refl, sym, ap}
use Rattle.std.proofs.Math.Bool.{false}
use mathlib.Core.List.{List, [], ◌∷◌}
use borrow.Author.Tests.{eq-eqb, eqb-false, le-ltb}
use Rattle.cells.specs.Proof.Split.{by-test}
use Rattle.byte_slices.specs.Proof.Ways.{pick, apart}
use Rattle.link.specs.Bounds.{not_lent, lesser, name_rows, name_bytes}
use Rattle.link.specs.Judge.{none, judge_of, judge_sections, judge_names, judge_lists}
use Rattle.link.specs.Proof.Ways as Link
use Rattle.interner.specs.Names.{find_of}
use Rattle.symbol_resolution.specs.Holder.{holder_of}
use Rattle.archive_index.specs.Archives.{Archives}
use Rattle.archive_index.specs.Rows.{stored_name}
use Rattle.archive_walk.specs.declared.Walk.{Walk}
use Rattle.archive_walk.specs.Look.{Table, lent_of, judge_table, name_holder, was_removed, removed_name}
use Rattle.archive_walk.specs.Walk.{Step, number_of, offer_of, removed_of, make_of, search_of, pass_of, walk_fits, go_of, next_of}
use Rattle.archive_laws.specs.Members.{View, Rounds, front_of, pass_round, round, rounds, members, fresh}
use Rattle.archive_laws.proofs.Counts.{any_none, once-members}
use Rattle.archive_laws.proofs.RoundLaws.{Kept, kept_fresh, kept-did, did}
use Rattle.archive_laws.specs.Runs.{view_by, views_by, Run}
use Rattle.archive_laws.specs.ByKey.{Walked}
use Rattle.symbol_laws.specs.History.{State, Entry, only}
use Rattle.symbol_laws.specs.Held.{Inv}
use Rattle.symbol_laws.proofs.Demand.{holder_known, holder-none}
use Rattle.symbol_laws.specs.Within.{Within}
use Rattle.symbol_laws.proofs.Within.{Fits}
use Rattle.merge_laws.specs.Marked.{Marked}
use Rattle.link_laws.specs.Calls.{view_in}

-- ---- the table passes a walk's judgement

pub lesser-most : (a b n : ℕ) → n ≤ a → n ≤ b → n ≤ lesser a b
unfolding lesser
lesser-most a b n h k = by-test (ltb a b) (λ t. rw t h) (λ t. rw t k)

-- what such a walk asks of a table
pub record Whole (t : Table) : Type 0 where
  pub judged : (judge_table t).number ≡ 0
  pub kept : (x : List ℕ) → removed_name t x ≡ false

module _ (s : State) (f : Fits s) (met : List (List ℕ)) (marked : Marked s met) (w : Within s.link s.names) where
  sections-judged : none ≡ judge_sections s.link s.link.slots
  sections-judged = Link.sections-fine s.link s.link.slots none _ (omega arith) refl w.sections-in refl

  names-judged : none ≡ judge_names s.link (name_rows (length s.names)) (length s.bytes)
  names-judged =
      Link.names-fine s.link (name_rows (length s.names)) (length s.bytes) none (name_bytes (length s.bytes)) w.chains-lent w.names_in refl
      marked.good.chained.bytes-in refl

  lists-judged : none ≡ judge_lists s.link not_lent not_lent
  lists-judged =
      Link.lists-fine s.link not_lent not_lent none _ refl (lesser-most 4095 (not_lent / 8) s.link.inputs w.inputs_in (omega (arith, w.inputs_in))) w.lists-in refl

  judged : none ≡ judge_of s.link (lent_of s.link (length s.bytes) (length s.names) (length s.symbols))
  judged =
      Link.over-rest s.link (lent_of s.link (length s.bytes) (length s.names) (length s.symbols)) none none _ none sections-judged refl
      refl (lesser-most 65535 (length s.symbols / 8) s.link.symbols f.few (omega (arith, f.room))) names-judged refl lists-judged

  pub table-judged : (judge_table (view_in s)).number ≡ 0
  unfolding judge_table
  table-judged = simp (← judged)

module _ (s : State) (past : List Entry) (inv : Inv s past) (met : List (List ℕ)) (marked : Marked s met) (w : Within s.link s.names) where
  -- no holder was removed
  holds : (n : ℕ) → was_removed (holder_of s.link s.names s.symbols (record { 0 = n })) ≡ false
  holds n = go (only n past) refl
    where
      go : (l : List Entry) → only n past ≡ l → was_removed (holder_of s.link s.names s.symbols (record { 0 = n })) ≡ false
      go [] e = ap was_removed (holder-none s past inv n e)
      go (x ∷ xs) e = ap was_removed (holder_known s past inv n x xs e)

  none-removed : (x : List ℕ) → removed_name (view_in s) x ≡ false
  unfolding removed_name name_holder
  none-removed x = holds (find_of s.bytes s.names s.link x)

  pub table-whole : Whole (view_in s)
  table-whole = record { judged = table-judged s (record { few = inv.few; room = inv.room }) met marked w; kept = none-removed }

-- ---- a call for the next member

pub offered-number : (s : Archives) (l : List ℕ) (w : Walk) → number_of (offer_of s l w).moved.offer ≡ 0
unfolding offer_of
offered-number s l w = pick (λ (x : Step). number_of x.moved.offer ≡ 0) (ltb w.offered w.queued) _ _ (λ a. refl) (λ a. refl)

module _ (t : Table) (whole : Whole t) where
  removed-none : (s l : List ℕ) (n k : ℕ) → removed_of s l t n k ≡ k + n
  unfolding removed_of
  removed-none s l zero k = sym (add-zero k)
  removed-none s l (suc n) k = rw (whole.kept (stored_name s l k)) (removed-none s l n (k + 1) ∙ omega arith)

  search-number : (s : Archives) (l : List ℕ) (w : Walk) → number_of (search_of s l w t (removed_of s.bytes l t w.entries 0)).moved.offer ≡ 0
  unfolding search_of make_of
  search-number s l w = rw (removed-none s.bytes l w.entries 0, le-ltb (0 + w.entries) w.entries (omega arith)) (offered-number s _ _)

  pub next-accepted : (s : Archives) (l : List ℕ) (w : Walk) → (w.done ≡ false → walk_fits s l w ≡ true) → number_of (next_of s l w t).moved.offer ≡ 0
  unfolding next_of go_of pass_of
  next-accepted s l w fits =
      pick P w.done _ _ (λ a. refl)
      (λ a.
      pick P (walk_fits s l w) _ _
      (λ b.
      pick P (ltb w.offered w.queued) _ _ (λ c. offered-number s l w)
      (λ c. pick P (eqb (judge_table t).number 0) _ _ (λ d. search-number s l w) (λ d. absurd (eqb-false _ _ d whole.judged))))
      (λ b. absurd (apart (sym b ∙ fits a))))
    where
      P : Step → Type 0
      P x = number_of x.moved.offer ≡ 0

  pub view-accepted : (named : ℕ → List ℕ) (c : ℕ) → (view_by named c t).refused ≡ false
  view-accepted named c = rw (eq-eqb _ _ whole.judged) (any_none (λ k. removed_name t (named k)) c (λ j h. whole.kept (named j)))

-- ---- the end of a walk

module _ (keys : ℕ → ℕ) (c : ℕ) where
  abbrev Unrefused : List View → Type 0
  Unrefused [] = Unit {0}
  Unrefused (v ∷ vs) = (v.refused ≡ false) × Unrefused vs

  -- a call that isn't refused offers one more member, unless the walk is done
  front-moves : (q : List ℕ) (o p : ℕ) → (front_of q o p).done ≡ false → o + 1 ≤ (front_of q o p).offered
  unfolding front_of
  front-moves q o p =
      pick (λ (r : Rounds). r.done ≡ false → o + 1 ≤ r.offered) (ltb o (length q)) _ _ (λ a e. omega arith) (λ a e. absurd (apart (sym e)))

  round-moves : (v : View) (a : Rounds) → v.refused ≡ false → (round keys c v a).done ≡ false → a.offered + 1 ≤ (round keys c v a).offered
  unfolding round pass_round
  round-moves v a u =
      pick P a.done _ _ (λ d e. absurd (apart (sym e ∙ d)))
      (λ d.
      pick P (ltb a.offered (length a.queue)) _ _ (λ l. front-moves a.queue a.offered a.passes)
      (λ l. pick P v.refused _ _ (λ r. absurd (apart (sym u ∙ r))) (λ r. front-moves _ a.offered (a.passes + 1))))
    where
      P : Rounds → Type 0
      P r = r.done ≡ false → a.offered + 1 ≤ r.offered

  round-still : (v : View) (a : Rounds) → a.done ≡ true → (round keys c v a).done ≡ true
  unfolding round
  round-still v a d = pick (λ (r : Rounds). r.done ≡ true) a.done _ _ (λ t. d) (λ t. absurd (apart (sym t ∙ d)))

  rounds-still : (vs : List View) (a : Rounds) → a.done ≡ true → (rounds keys c vs a).done ≡ true
  unfolding rounds
  rounds-still [] a d = d
  rounds-still (v ∷ vs) a d = rounds-still vs (round keys c v a) (round-still v a d)

  rounds-move : (vs : List View) (a : Rounds) → Unrefused vs → (rounds keys c vs a).done ≡ false → a.offered + length vs ≤ (rounds keys c vs a).offered
  unfolding rounds
  rounds-move [] a u e = omega arith
  rounds-move (v ∷ vs) a u e =
      by-test (round keys c v a).done (λ d. absurd (apart (sym e ∙ rounds-still vs (round keys c v a) d)))
      (λ d. omega (arith, round-moves v a u.0 d, rounds-move vs (round keys c v a) u.1 e))

  pub rounds-kept : (vs : List View) (a : Rounds) → Kept keys c a → Kept keys c (rounds keys c vs a)
  unfolding rounds
  rounds-kept [] a k = k
  rounds-kept (v ∷ vs) a k = rounds-kept vs (round keys c v a) (kept-did keys c v a (round keys c v a) k (did keys c v a))

  rounds-end : (vs : List View) → Unrefused vs → members keys c < length vs → (rounds keys c vs fresh).done ≡ true
  rounds-end vs u h =
      by-test (rounds keys c vs fresh).done (λ d. d)
      (λ d.
      let k = rounds-kept vs fresh (kept_fresh keys c) in
      absurd (omega (arith, rounds-move vs fresh u d, k.some, once-members keys c (rounds keys c vs fresh).queue k.once k.below)))

-- over tables of which nothing was removed
abbrev pub AllWhole : List Table → Type 0
AllWhole [] = Unit {0}
AllWhole (t ∷ ts) = Whole t × AllWhole ts

-- of entries with any keys and names: a walk over more tables than there are members is done
module _ (s : Archives) (keys : ℕ → ℕ) (named : ℕ → List ℕ) (c : ℕ) where
  views-accepted : (ts : List Table) → AllWhole ts → Unrefused keys c (views_by named c ts)
  unfolding views_by
  views-accepted [] w = tt
  views-accepted (t ∷ ts) w = (view-accepted t w.0 named c, views-accepted ts w.1)

  views-long : (ts : List Table) → length (views_by named c ts) ≡ length ts
  unfolding views_by
  views-long [] = refl
  views-long (t ∷ ts) = ap suc (views-long ts)

  pub walk_ends : (ts : List Table) (r : Run) → Walked s keys named c ts r → AllWhole ts → members keys c < length ts → r.walk.done ≡ true
  walk_ends ts r w a h =
      ap (λ (x : Rounds). x.done) w.same-rounds
      ∙ rounds-end keys c (views_by named c ts) (views-accepted ts a) (omega (arith, views-long ts))
