-- Of a walk over archives and of admission: the answer is that of the first rule that holds.
-- Assumes nothing.
use Prim.Native.Nat.{ℕ, zero, suc, ◌+◌, ◌*◌, ◌-◌, ◌/◌, ◌<◌, ◌≤◌}
use native.Mathlib.Omega.{arith}
use Rattle.std.proofs.Common.{add-one, sym, ◌∙◌}
use Rattle.std.specs.Prelude.{◌≡◌, Bool, true, ◌&&◌, ◌||◌, ltb, get_or, take, Result}
use Rattle.std.proofs.Math.Path.{refl, ap}
use Rattle.std.proofs.Math.Bool.{false, cond, not}
use Rattle.std.proofs.lemmas.Bool.{false≢true}
use mathlib.Core.List.{List, [], ◌∷◌, ◌++◌}
use Rattle.std.proofs.Math.Dec.{eqb}
use Rattle.std.proofs.Math.ListN.{length}
use borrow.Author.Tests.{ltb-true, ltb-false, lt-ltb, le-ltb, ne_eqb, eqb-true, eqb-false}
use Rattle.std.proofs.lemmas.List.{length-take, drop-take, drop_all}
use Rattle.cells.specs.Proof.Split.{by-test}
use Rattle.gabi.specs.StringTable.{ended, name_at}
use Rattle.link.specs.declared.cause.Refusal.{Refusal}
use Rattle.link.specs.Bounds.{lesser, not_lent}
use Rattle.link.specs.Judge.{refused}
use Rattle.link.specs.Proof.Judged.{first}
use Rattle.archive_index.specs.Archives.{Archives, start_at, end_at, last_end, index_at, count_at, entries_from, entries_in}
use Rattle.archive_index.specs.Index.{count_of, after_of, names_at, cut_of}
use Rattle.archive_index.specs.Open.{Opened, first_not, judge_each, end_fits, is_filled, offsets_in, judge_cut, judge_index, judge_from, judge_rows, judge_archives, judge_of, open_of}
use Rattle.archive_laws.proofs.AcceptedStart.{index-bounded}
use Rattle.archive_walk.specs.declared.Walk.{Walk}
use Rattle.archive_walk.specs.Look.{judge_table, name_holder, removed_name}
use Rattle.archive_walk.specs.Walk.{Step, begun_number, begun_place, begun_of, start_of, number_of, place_of, step_moved, refused_move, offer_of, removed_of, make_of, search_of, pass_of, walk_fits, go_of, next_of}
use Rattle.merge_laws.specs.MergeWords.{symbols_of}
use Rattle.link_laws.proofs.LoadedTable.{loaded-entries}
use Rattle.untaken_member.specs.Untaken as Untaken
use Rattle.untaken_member.specs.Untaken.{loaded_of, told_of, roomed_of, head_of, would_of}
use Rattle.shadowed_members.specs.Shadowed as Shadowed
use Rattle.shadowed_members.specs.Shadowed.{fits_index, shadowed_of}
use Rattle.elf_object.specs.Judge as Elf
use Rattle.object_requirement.specs.Matches as Matches
use Rattle.object_requirement.specs.Matches.{admission, offered_in, matches_of}
use Rattle.interner_laws.specs.Good.{Chained}
use Rattle.symbol_laws.specs.History.{State, store}
use Rattle.merge_laws.specs.Calls.{Linked}
use Rattle.link_laws.specs.Calls.{archive_start, archive_next, archive_shadowed, matches, would_define, view_in, call_refusal}
use Rattle.link_laws.specs.Rules.{Rule, ◌gives◌at◌, each, first_refusal, numbered, lent_rows, count_rules, each_of}
use Rattle.link_laws.proofs.Rules.{numbered-both, each-numbered, first-none, first-is, follows, headed, taken, left_out, count-rules, not-below, each-of-numbered}
use Rattle.link_laws.proofs.AddExactly.{least-below}
use Rattle.link_laws.specs.TableRules.{is_known, is_removed, row_of, id_in}
use Rattle.link_laws.proofs.Exactly.{holder-is}
use Rattle.link_laws.specs.ObjectRules.{object_rules}
use Rattle.link_laws.proofs.ObjectExactly.{object-exactly, object-numbered}
use Rattle.link_laws.proofs.MergeSymbols.{find-is}
use Rattle.link_laws.specs.ArchiveRules.{name_start, is_offset_cut, is_name_cut, empty_rules, offset_rules, name_rules, cell_rules, start_rules, is_other_walk, entry_name, is_gone, pass_rules, next_rules, is_no_entry, is_strange_walk, shadowed_rules, matches_rules, would_rules, entry_count, first_byte, own_bytes, position, all_entries, is_end_wrong, end_rules, content_rules, contents_rules}

true≢false : true ≡ false → ⊥
true≢false e = false≢true (sym e)

-- ---- the start

pub count-is : (s : List ℕ) → count_of s ≡ entry_count s
unfolding count_of
count-is s =
    let a = get_or s 0 0 in
    let b = get_or s 1 0 in
    let c = get_or s 2 0 in
    let d = get_or s 3 0 in
    let e : a * 16777216 + b * 65536 + c * 256 + d ≡ ((a * 256 + b) * 256 + c) * 256 + d = omega arith in
    e

-- of two judgements
both : (xs ys : List Rule) (x y : Refusal) → numbered xs ≡ true → x ≡ first_refusal xs → (eqb x.number 0 ≡ true → y ≡ first_refusal ys) → first x y ≡ first_refusal (xs ++ ys)
both xs ys x y n e g = follows xs ys x (first x y) n e (λ a. rw a) (λ a. rw a (g a))

-- the first of n numbers from i on that f doesn't hold of
module _ (f bad : ℕ → Bool) (number : ℕ) (agree : (j : ℕ) → f j ≡ not (bad j)) where
  not-first : (n i : ℕ) → cond (ltb (first_not f n i) (i + n)) (refused number (first_not f n i)) (refused 0 0) ≡ first_refusal (each (λ j. bad j gives number at j) i n)
  unfolding first_not
  not-first zero i = rw (le-ltb i (i + 0) (omega arith))
  not-first (suc n) i =
      let e : i + suc n ≡ i + 1 + n = omega arith in
      rw (agree i) (by-test (bad i) (λ a. rw (a, lt-ltb i (i + suc n) (omega arith))) (λ a. rw (a, e) (not-first n (i + 1))))

  each-exactly : (n : ℕ) → judge_each f n number ≡ first_refusal (each (λ j. bad j gives number at j) 0 n)
  unfolding judge_each
  each-exactly n = let z : 0 + n ≡ n = omega arith in rw z at (not-first n 0)

-- rows that are bad from the m-th on
from_row : (bad : ℕ → Bool) (p m : ℕ) → ((j : ℕ) → bad j ≡ not (ltb j m)) → (n i : ℕ) → i ≤ m
    → cond (ltb m (i + n)) (refused 1 (p + m)) (refused 0 0) ≡ first_refusal (each (λ j. bad j gives 1 at (p + j)) i n)
from_row bad p m agree zero i h = rw (le-ltb m (i + 0) (omega arith))
from_row bad p m agree (suc n) i h =
    rw (agree i)
    (by-test (ltb i m)
    (λ a.
    let l : i < m = ltb-true _ _ a in
    let e : i + suc n ≡ i + 1 + n = omega arith in
    rw (a, e) (from_row bad p m agree n (i + 1) (omega arith)))
    (λ a.
    let l : m ≤ i = ltb-false _ _ a in
    let e : i ≡ m = omega arith in
    rw (a, e, lt-ltb m (m + suc n) (omega arith))))

-- an index of which the first entry has position p
module _ (s : List ℕ) (p : ℕ) where
  -- so many entries are within the bound, and have their offsets
  abbrev end : ℕ
  end = lesser (65535 - p) (offsets_in (length s))

  module _ (long : ltb (length s) 4 ≡ false) where
    offset-is : (k : ℕ) → not (ltb (p + k) 65535) || is_offset_cut s k ≡ not (ltb k end)
    offset-is k =
        rw (least-below (65535 - p) (offsets_in (length s)) k, bound)
        (by-test (ltb (length s) (4 + 4 * k + 4))
        (λ a.
        let l : length s < 4 + 4 * k + 4 = ltb-true _ _ a in
        let z : 4 ≤ length s = ltb-false _ _ long in
        rw (a, le-ltb k (offsets_in (length s)) (omega arith)) (or-true (ltb k (65535 - p))))
        (λ a.
        let l : 4 + 4 * k + 4 ≤ length s = ltb-false _ _ a in
        rw (a, lt-ltb k (offsets_in (length s)) (omega arith)) (or-false (ltb k (65535 - p)))))
      where
        bound : ltb (p + k) 65535 ≡ ltb k (65535 - p)
        bound =
            by-test (ltb (p + k) 65535) (λ a. let h : p + k < 65535 = ltb-true _ _ a in rw (a, lt-ltb k (65535 - p) (omega arith)))
            (λ a. let h : 65535 ≤ p + k = ltb-false _ _ a in rw (a, le-ltb k (65535 - p) (omega arith)))

        or-true : (b : Bool) → not b || true ≡ not (b && false)
        or-true true = refl
        or-true false = refl

        or-false : (b : Bool) → not b || false ≡ not (b && true)
        or-false true = refl
        or-false false = refl

  -- the lesser of two bounds
  ends : (b c : ℕ) → p ≤ 65535 → cond (ltb b c) (refused 1 (lesser 65535 (p + b))) (cond (ltb 65535 (p + c)) (refused 1 65535) (refused 0 0))
      ≡ cond (ltb (lesser (65535 - p) b) (0 + c)) (refused 1 (p + lesser (65535 - p) b)) (refused 0 0)
  unfolding lesser
  ends b c h =
      let e : 0 + c ≡ c = omega arith in
      by-test (ltb (65535 - p) b)
      (λ x.
      let g : 65535 - p < b = ltb-true _ _ x in
      let t : p + (65535 - p) ≡ 65535 = omega arith in
      rw (x, e, t, lt-ltb 65535 (p + b) (omega arith))
      (by-test (ltb b c) (λ y. let i : b < c = ltb-true _ _ y in rw (y, lt-ltb (65535 - p) c (omega arith)))
      (λ y.
      by-test (ltb (65535 - p) c) (λ z. let i : 65535 - p < c = ltb-true _ _ z in rw (y, z, lt-ltb 65535 (p + c) (omega arith)))
      (λ z. let i : c ≤ 65535 - p = ltb-false _ _ z in rw (y, z, le-ltb 65535 (p + c) (omega arith))))))
      (λ x.
      let g : b ≤ 65535 - p = ltb-false _ _ x in
      rw (x, e, le-ltb 65535 (p + b) (omega arith))
      (by-test (ltb b c) (λ y. rw y) (λ y. let i : c ≤ b = ltb-false _ _ y in rw (y, le-ltb 65535 (p + c) (omega arith)))))

  offsets-exactly : ltb (length s) 4 ≡ false → p ≤ 65535 → (c : ℕ)
      → cond (ltb (offsets_in (length s)) c) (refused 1 (lesser 65535 (p + offsets_in (length s)))) (cond (ltb 65535 (p + c)) (refused 1 65535) (refused 0 0))
      ≡ first_refusal (each (λ k. not (ltb (p + k) 65535) || is_offset_cut s k gives 1 at (p + k)) 0 c)
  offsets-exactly long h c =
      ends (offsets_in (length s)) c h ∙ from_row (λ k. not (ltb (p + k) 65535) || is_offset_cut s k) p end (offset-is long) c 0 (omega arith)

  -- names one after the other
  module _ (c : ℕ) where
    names-first : (n k q : ℕ) → q ≡ name_start s c k
        → cond (ltb (cut_of s q n k) (k + n)) (refused 1 (p + cut_of s q n k)) (refused 0 0) ≡ first_refusal (each (λ j. not (ended s (name_start s c j)) gives 1 at (p + j)) k n)
    unfolding cut_of after_of
    names-first zero k q e = rw (le-ltb k (k + 0) (omega arith))
    names-first (suc n) k q e =
        let r : k + suc n ≡ k + 1 + n = omega arith in
        by-test (ended s (name_start s c k))
        (λ h.
        rw (e, h, some (name_start s c k + length (name_at s (name_start s c k))), r)
        (names-first n (k + 1) (name_start s c k + length (name_at s (name_start s c k)) + 1) (ap (name_start s c) (sym (add-one k)))))
        (λ h. rw (e, h, lt-ltb k (k + suc n) (omega arith)))
      where
        some : (m : ℕ) → eqb (m + 1) 0 ≡ false
        some m = ne_eqb (m + 1) 0 (λ (z : m + 1 ≡ 0). omega arith)

    names-exactly : judge_cut (cut_of s (names_at c) c 0) c p ≡ first_refusal (each (λ k. not (ended s (name_start s c k)) gives 1 at (p + k)) 0 c)
    names-exactly =
        let e : 0 + c ≡ c = omega arith in
        ap (λ (m : ℕ). cond (ltb (cut_of s (names_at c) c 0) m) (refused 1 (p + cut_of s (names_at c) c 0)) (refused 0 0)) (sym e) ∙ names-first c 0 (names_at c) refl

  -- the places of the rules are those of the positions
  numbered-at : (test : ℕ → Bool) (k : ℕ) → eqb k 0 ≡ false → (n i : ℕ) → numbered (each (λ j. test j gives k at (p + j)) i n) ≡ true
  numbered-at test k z zero i = refl
  numbered-at test k z (suc n) i = rw z (numbered-at test k z n (i + 1))

  pub content-numbered : numbered (content_rules s p) ≡ true
  content-numbered =
      numbered-both (offset_rules s p) (name_rules s p) (numbered-at (λ k. not (ltb (p + k) 65535) || is_offset_cut s k) 1 refl (entry_count s) 0)
      (numbered-at (is_name_cut s) 1 refl (entry_count s) 0)

  index-exactly : p ≤ 65535 → judge_index s p ≡ first_refusal (content_rules s p)
  unfolding judge_index
  index-exactly h =
      first-is (ltb (length s) 4) _ _ (λ a. rw a)
      (λ a.
      rw (a, count-is s)
      (follows (offset_rules s p) (name_rules s p)
      (cond (ltb (offsets_in (length s)) c) (refused 1 (lesser 65535 (p + offsets_in (length s)))) (cond (ltb 65535 (p + c)) (refused 1 65535) (refused 0 0))) _
      (numbered-at (λ k. not (ltb (p + k) 65535) || is_offset_cut s k) 1 refl c 0) (offsets-exactly a h c)
      (λ z. by-test (ltb (offsets_in (length s)) c) (λ d. rw d) (λ d. by-test (ltb 65535 (p + c)) (λ g. rw (d, g)) (λ g. absurd (true≢false (rw (d, g) at z)))))
      (λ z.
      by-test (ltb (offsets_in (length s)) c) (λ d. absurd (false≢true (rw d at z)))
      (λ d. by-test (ltb 65535 (p + c)) (λ g. absurd (false≢true (rw (d, g) at z))) (λ g. rw (d, g) (names-exactly c))))))
    where
      c : ℕ
      c = entry_count s

module _ (a : Archives) where
  pub start-is : (j : ℕ) → start_at a j ≡ first_byte a j
  unfolding start_at
  start-is zero = refl
  start-is (suc j) = let e : suc j - 1 ≡ j = omega arith in rw (ne_eqb (suc j) 0 (λ z. omega arith), e)

  pub index-is : (j : ℕ) → index_at a j ≡ own_bytes a j
  unfolding index_at
  index-is j =
      rw (start-is j)
      (by-test (ltb (end_at a j) (first_byte a j))
      (λ t.
      let h : end_at a j < first_byte a j = ltb-true _ _ t in
      let e : end_at a j - first_byte a j ≡ 0 = omega arith in
      rw e (sym (drop_all (first_byte a j) (take (end_at a j) a.bytes) (omega (arith, length-take (end_at a j) a.bytes)))))
      (λ t.
      let h : first_byte a j ≤ end_at a j = ltb-false _ _ t in
      let e : first_byte a j + (end_at a j - first_byte a j) ≡ end_at a j = omega arith in
      sym (rw e at (drop-take (first_byte a j) (end_at a j - first_byte a j) a.bytes))))

  pub position-on : (j : ℕ) → position a (j + 1) ≡ position a j + count_at a j
  position-on j = ap (position a) (add-one j) ∙ rw (index-is j, count-is (own_bytes a j))

  pub entries-on : (n j : ℕ) → position a j + entries_from a n j ≡ position a (j + n)
  unfolding entries_from
  entries-on zero j = let e : j + 0 ≡ j = omega arith in let z : position a j + 0 ≡ position a j = omega arith in rw e z
  entries-on (suc n) j =
      let e : j + suc n ≡ j + 1 + n = omega arith in
      let z : position a j + (count_at a j + entries_from a n (j + 1)) ≡ position a (j + 1) + entries_from a n (j + 1) = omega (arith, position-on j) in
      rw e (z ∙ entries-on n (j + 1))

  pub entries-are : entries_in a ≡ all_entries a
  entries-are = let z : 0 + entries_in a ≡ entries_in a = omega arith in let y : 0 + length a.ends ≡ length a.ends = omega arith in rw (z, y) at (entries-on (length a.ends) 0)

  end-right : (j : ℕ) → end_fits a j ≡ not (is_end_wrong a j)
  unfolding end_fits
  end-right j =
      rw (start-is j, not-below (end_at a j) (first_byte a j), not-below (length a.bytes) (end_at a j))
      (go (ltb (end_at a j) (first_byte a j)) (ltb (length a.bytes) (end_at a j)))
    where
      go : (x y : Bool) → cond (not x) (not y) false ≡ not (x || y)
      go true y = refl
      go false y = refl

  filled : (j : ℕ) → is_filled a j ≡ not (eqb (length (own_bytes a j)) 0)
  unfolding is_filled
  filled j =
      rw (index-is j)
      (by-test (eqb (length (own_bytes a j)) 0) (λ t. let h : length (own_bytes a j) ≡ 0 = eqb-true _ _ t in rw (t, le-ltb 0 (length (own_bytes a j)) (omega arith)))
      (λ t. let h : length (own_bytes a j) ≡ 0 → ⊥ = eqb-false _ _ t in rw (t, lt-ltb 0 (length (own_bytes a j)) (omega arith))))

  abbrev own_rules : ℕ → List Rule
  own_rules j = content_rules (own_bytes a j) (position a j)

  contents-exactly : (n j : ℕ) → position a j ≤ 65535 → judge_from a n j (position a j) ≡ first_refusal (each_of own_rules j n)
  unfolding judge_from
  contents-exactly zero j h = refl
  contents-exactly (suc n) j h =
      rw (index-is j)
      (both (own_rules j) (each_of own_rules (j + 1) n) (judge_index (own_bytes a j) (position a j)) (judge_from a n (j + 1) (position a j + count_of (own_bytes a j)))
      (content-numbered (own_bytes a j) (position a j)) (index-exactly (own_bytes a j) (position a j) h)
      (λ z.
      let e : position a j + count_of (own_bytes a j) ≡ position a (j + 1) = sym (position-on j ∙ rw (index-is j)) in
      rw e (contents-exactly n (j + 1) (omega (arith, e, index-bounded (own_bytes a j) (position a j) (eqb-true _ _ z))))))

  module _ (cells : List ℕ) where
    empty-numbered : numbered (empty_rules a) ≡ true
    empty-numbered = each-numbered (λ j. eqb (length (own_bytes a j)) 0) 20 refl (length a.ends) 0

    ends-numbered : numbered (end_rules a) ≡ true
    ends-numbered = each-numbered (is_end_wrong a) 1 refl (length a.ends) 0

    contents-numbered : numbered (contents_rules a cells) ≡ true
    contents-numbered = each-of-numbered own_rules (λ j. content-numbered (own_bytes a j) (position a j)) (length a.ends) 0

    pub start-numbered : numbered (start_rules a cells) ≡ true
    start-numbered =
        numbered-both (end_rules a) (empty_rules a ++ (contents_rules a cells ++ cell_rules a cells)) ends-numbered
        (numbered-both (empty_rules a) (contents_rules a cells ++ cell_rules a cells) empty-numbered (numbered-both (contents_rules a cells) (cell_rules a cells) contents-numbered refl))

    abbrev last_rules : List Rule
    last_rules = contents_rules a cells ++ cell_rules a cells

    cells-exactly : judge_rows (length cells / 8) (entries_in a) ≡ first_refusal (cell_rules a cells)
    cells-exactly = rw entries-are

    pub judge-exactly : judge_of a (length cells / 8) ≡ first_refusal (start_rules a cells)
    unfolding judge_of judge_archives
    judge-exactly =
        both ((ltb 16 (length a.ends) gives 1 at 16) ∷ []) (end_rules a ++ (empty_rules a ++ last_rules)) _ _ refl refl
        (λ u.
        both (end_rules a) (empty_rules a ++ last_rules) _ _ ends-numbered (each-exactly (end_fits a) (is_end_wrong a) 1 end-right (length a.ends))
        (λ v.
        both (empty_rules a) last_rules _ _ empty-numbered (each-exactly (is_filled a) (λ j. eqb (length (own_bytes a j)) 0) 20 filled (length a.ends))
        (λ w.
        both (contents_rules a cells) (cell_rules a cells) _ _ contents-numbered (contents-exactly (length a.ends) 0 (omega arith)) (λ x. cells-exactly))))

    pub open-exactly : (open_of a cells).opened.refusal ≡ first_refusal (start_rules a cells)
    unfolding open_of
    open-exactly =
        by-test (eqb (judge_of a (length cells / 8)).number 0)
        (λ t. rw t (sym (first-none (start_rules a cells) start-numbered (ap (λ (r : Refusal). eqb r.number 0) (sym judge-exactly) ∙ t))))
        (λ t. rw t judge-exactly)

-- a result has place 0
begun-said : (key n : ℕ) (o : Opened) (r : Refusal) → o.refusal ≡ r → (eqb r.number 0 ≡ true → r ≡ refused 0 0)
    → refused (begun_number (begun_of key n o).begun) (begun_place (begun_of key n o).begun) ≡ r
unfolding begun_of
begun-said key n o r e q =
    by-test (eqb o.refusal.number 0) (λ a. rw a (sym (q (ap (λ (x : Refusal). eqb x.number 0) (sym e) ∙ a)))) (λ a. rw a e)

pub start-exactly : (key : ℕ) (archives : Archives) (cells : List ℕ) (s : Linked) → call_refusal (archive_start key archives cells) s ≡ first_refusal (start_rules archives cells)
unfolding start_of
start-exactly key archives cells s =
    begun-said key (last_end archives) (open_of archives cells).opened (first_refusal (start_rules archives cells)) (open-exactly archives cells)
    (λ z. first-none (start_rules archives cells) (start-numbered archives cells) z)

-- ---- a call for the next member

abbrev next_said : Step → Refusal
next_said x = refused (number_of x.moved.offer) (place_of x.moved.offer)

offer-said : (a : Archives) (l : List ℕ) (w : Walk) → next_said (offer_of a l w) ≡ refused 0 0
unfolding offer_of
offer-said a l w = by-test (ltb w.offered w.queued) (λ e. rw e) (λ e. rw e)

seven : (a b c d e f g : Bool) → cond a false (cond b false (cond c false (cond d false (cond e false (cond f false (cond g false true)))))) ≡ not (a || b || c || d || e || f || g)
seven true b c d e f g = refl
seven false true c d e f g = refl
seven false false true d e f g = refl
seven false false false true e f g = refl
seven false false false false true f g = refl
seven false false false false false true g = refl
seven false false false false false false true = refl
seven false false false false false false false = refl

fits-walk : (a : Archives) (l : List ℕ) (w : Walk) → walk_fits a l w ≡ not (is_other_walk a l w)
unfolding walk_fits
fits-walk a l w =
    rw (start-is a (length a.ends))
    (seven (ltb 16 (length a.ends)) (ltb (length a.bytes) (first_byte a (length a.ends))) (ltb (first_byte a (length a.ends)) w.length) (ltb (length l / 8) w.entries) (ltb w.entries w.queued)
    (ltb w.queued w.offered) (ltb w.queued w.passes))

module _ (t : State) (c : Chained (store t)) where
  gone-is : (x : List ℕ) → removed_name (view_in t) x ≡ is_gone t x
  unfolding removed_name name_holder
  gone-is x =
      rw (find-is t c x, holder-is t (id_in t x))
      (by-test (is_known t (id_in t x)) (λ a. by-test (is_removed t (row_of t (id_in t x))) (λ b. rw (a, b)) (λ b. rw (a, b))) (λ a. rw a))

  module _ (s l : List ℕ) where
    removed-first : (n k : ℕ)
        → cond (ltb (removed_of s l (view_in t) n k) (k + n)) (refused 21 (removed_of s l (view_in t) n k)) (refused 0 0)
        ≡ first_refusal (each (λ j. is_gone t (entry_name s l j) gives 21 at j) k n)
    unfolding removed_of
    removed-first zero k = rw (le-ltb k (k + 0) (omega arith))
    removed-first (suc n) k =
        let e : k + suc n ≡ k + 1 + n = omega arith in
        rw (gone-is (entry_name s l k))
        (by-test (is_gone t (entry_name s l k)) (λ a. rw (a, lt-ltb k (k + suc n) (omega arith))) (λ a. rw (a, e) (removed-first n (k + 1))))

  module _ (a : Archives) (l : List ℕ) where
    module _ (w : Walk) where
      abbrev gone : ℕ
      gone = removed_of a.bytes l (view_in t) w.entries 0

      search-said : (x : ℕ) → next_said (search_of a l w (view_in t) x) ≡ cond (ltb x w.entries) (refused 21 x) (refused 0 0)
      unfolding search_of make_of
      search-said x = by-test (ltb x w.entries) (λ e. rw e) (λ e. rw e (offer-said a _ _))

      pass-exactly : next_said (pass_of a l w (view_in t)) ≡ first_refusal (pass_rules a l w t)
      unfolding pass_of judge_table
      pass-exactly =
          let e : 0 + w.entries ≡ w.entries = omega arith in
          headed (each (λ k. is_gone t (entry_name a.bytes l k) gives 21 at k) 0 w.entries) next_said
          (count_rules t.link (lent_rows (length t.names / 9) (length t.bytes) (length t.symbols) t.link.slots not_lent not_lent)) _ _ _ refl (count-rules t.link _) refl
          (λ z. search-said gone ∙ ap (λ (m : ℕ). cond (ltb gone m) (refused 21 gone) (refused 0 0)) (sym e) ∙ removed-first a.bytes l w.entries 0)

      go-exactly : next_said (go_of a l w (view_in t)) ≡ first_refusal (cond (ltb w.offered w.queued) [] (pass_rules a l w t))
      unfolding go_of
      go-exactly = by-test (ltb w.offered w.queued) (λ e. rw e (offer-said a l w)) (λ e. rw e pass-exactly)

      lent-exactly : next_said (cond (walk_fits a l w) (go_of a l w (view_in t)) (step_moved l (refused_move w 1 0)))
          ≡ first_refusal ((is_other_walk a l w gives 1 at 0) ∷ cond (ltb w.offered w.queued) [] (pass_rules a l w t))
      lent-exactly = rw (fits-walk a l w) (by-test (is_other_walk a l w) (λ b. rw b) (λ b. rw b go-exactly))

      next-said : next_said (next_of a l w (view_in t)) ≡ first_refusal (next_rules a l w t)
      unfolding next_of
      next-said =
          let own : List Rule = (is_other_walk a l w gives 1 at 0) ∷ cond (ltb w.offered w.queued) [] (pass_rules a l w t) in
          by-test w.done (λ e. ap next_said (taken _ _ e) ∙ ap first_refusal (sym (taken [] own e)))
          (λ e. ap next_said (left_out _ _ e) ∙ lent-exactly ∙ ap first_refusal (sym (left_out [] own e)))

pub next-exactly : (archives : Archives) (cells : List ℕ) (w : Walk) (s : Linked) → Chained (store s.table)
    → call_refusal (archive_next archives cells w) s ≡ first_refusal (next_rules archives cells w s.table)
next-exactly archives cells w s c = next-said s.table c archives cells w

pub next-numbered : (archives : Archives) (cells : List ℕ) (w : Walk) (t : State) → numbered (next_rules archives cells w t) ≡ true
next-numbered archives cells w t =
    by-test w.done (λ a. rw a)
    (λ a. rw a (by-test (ltb w.offered w.queued) (λ b. rw b) (λ b. rw b (each-numbered (λ k. is_gone t (entry_name archives.bytes cells k)) 21 refl w.entries 0))))

-- ---- which entries a walk passed by

abbrev shadowed_said : Shadowed.Left → Refusal
shadowed_said x = refused (begun_number x.answer) (begun_place x.answer)

fits-strange : (s l : List ℕ) (w : Walk) → fits_index s l w ≡ not (is_strange_walk s l w)
unfolding fits_index
fits-strange s l w = four (ltb (length s) w.length) (ltb (length l / 8) w.entries) (ltb w.entries w.queued) (ltb w.queued w.offered)
  where
    four : (a b c d : Bool) → cond a false (cond b false (cond c false (cond d false true))) ≡ not (a || b || c || d)
    four true b c d = refl
    four false true c d = refl
    four false false true d = refl
    four false false false true = refl
    four false false false false = refl

pub shadowed-exactly : (index rows : List ℕ) (w : Walk) (cells : List ℕ) (s : Linked)
    → call_refusal (archive_shadowed index rows w cells) s ≡ first_refusal (shadowed_rules index rows w s.table cells)
unfolding shadowed_of judge_table
shadowed-exactly index rows w cells s =
    let t : State = s.table in
    headed ((is_strange_walk index rows w gives 1 at 0) ∷ (ltb (length cells) w.entries gives 2 at 0) ∷ []) shadowed_said
    (count_rules t.link (lent_rows (length t.names / 9) (length t.bytes) (length t.symbols) t.link.slots not_lent not_lent)) _ _ _ refl (count-rules t.link _) refl
    (λ a.
    rw (fits-strange index rows w)
    (by-test (is_strange_walk index rows w) (λ b. rw b) (λ b. rw b (by-test (ltb (length cells) w.entries) (λ d. rw d) (λ d. rw d)))))

-- ---- admission

module _ (headers entries contents file index cells : List ℕ) (w : Walk) (e : ℕ) where
  abbrev said : Result Bool Refusal → Refusal
  said x = refused (Matches.number_of x) (Matches.place_of x)

  -- yes and no are results
  result-number : (b : Bool) → Matches.number_of (admission b) ≡ 0
  result-number true = refl
  result-number false = refl

  result-place : (b : Bool) → Matches.place_of (admission b) ≡ 0
  result-place true = refl
  result-place false = refl

  three : (a b c : Bool) → cond a false (cond b false c) ≡ not (a || b || not c)
  three true b c = refl
  three false true c = refl
  three false false true = refl
  three false false false = refl

  offered-is : offered_in index cells w e ≡ not (is_no_entry index cells w e)
  unfolding offered_in
  offered-is = three (ltb (length index) w.length) (ltb (length cells / 8) w.entries) (ltb e w.entries)

  pub matches-exactly : (s : Linked) → call_refusal (matches headers entries contents file index cells w e) s
      ≡ first_refusal (matches_rules headers entries contents file index cells w e)
  unfolding matches_of
  matches-exactly s =
      headed ((is_no_entry index cells w e gives 1 at 0) ∷ []) said (object_rules headers entries contents file) (Elf.judge_of headers entries (length contents) (length file)) _ _
      (object-numbered headers entries contents file) (object-exactly headers entries contents file) refl
      (λ a. rw offered-is (by-test (is_no_entry index cells w e) (λ b. rw b) (λ b. rw (b, result-number, result-place))))

  pub matches-numbered : numbered (matches_rules headers entries contents file index cells w e) ≡ true
  matches-numbered = numbered-both (object_rules headers entries contents file) _ (object-numbered headers entries contents file) refl

-- ---- what a member that was not taken would have defined

module _ (headers entries contents file cells : List ℕ) where
  abbrev would_said : Untaken.Left → Refusal
  would_said x = refused (begun_number x.answer) (begun_place x.answer)

  module _ (t : State) where
    abbrev link_rules : List Rule
    link_rules = count_rules t.link (lent_rows (length t.names / 9) (length t.bytes) (length t.symbols) t.link.slots not_lent not_lent)

    abbrev head_rules : List Rule
    head_rules = link_rules ++ object_rules headers entries contents file

    head-numbered : numbered head_rules ≡ true
    head-numbered = numbered-both link_rules (object_rules headers entries contents file) refl (object-numbered headers entries contents file)

    head-exactly : head_of headers entries contents file (view_in t) ≡ first_refusal head_rules
    unfolding head_of judge_table
    head-exactly =
        headed (object_rules headers entries contents file) (λ (r : Refusal). r) link_rules _ _ _ refl (count-rules t.link _) refl
        (λ a. object-exactly headers entries contents file)

    pub would-numbered : numbered (would_rules headers entries contents file t cells) ≡ true
    would-numbered = numbered-both head_rules _ head-numbered refl

  pub would-exactly : (s : Linked) → call_refusal (would_define headers entries contents file cells) s ≡ first_refusal (would_rules headers entries contents file s.table cells)
  unfolding would_of roomed_of told_of
  would-exactly s =
      headed ((ltb (length cells / 2) (length (symbols_of headers entries contents file) / 8) gives 2 at 0) ∷ []) would_said (head_rules s.table)
      (head_of headers entries contents file (view_in s.table)) _ _ (head-numbered s.table) (head-exactly s.table) refl
      (λ a.
      rw (loaded-entries headers entries contents file)
      (by-test (ltb (length cells / 2) (length (symbols_of headers entries contents file) / 8)) (λ d. rw d) (λ d. rw d)))
