-- Where a start gives 1: at the first index too many, else the first wrong end, else the first content that is cut short.
-- Assumes nothing.
use Prim.Native.Nat.{ℕ, zero, suc, ◌+◌, ◌*◌, ◌-◌, ◌/◌, ◌<◌, ◌≤◌}
use Rattle.std.proofs.Common.{add-one, sym, ◌∙◌}
use native.Mathlib.Omega.{arith}
use Rattle.std.specs.Prelude.{◌≡◌, List, ◌≢◌, eqb, ltb}
use Rattle.std.proofs.Math.Path.{refl, ap, subst}
use Rattle.std.proofs.Math.Bool.{true, false}
use Rattle.std.proofs.Math.ListN.{length}
use borrow.Author.Tests.{eqb-true, eqb-false, ltb-true, ltb-false, ne_eqb, lt-ltb, le-ltb, le-leb, lt-leb}
use Rattle.cells.specs.Proof.Split.{by-test}
use Rattle.byte_slices.specs.Proof.Ways.{pick}
use Rattle.gabi.specs.StringTable.{ended, name_at}
use Rattle.link.specs.Bounds.{lesser}
use Rattle.elf_object.specs.Judge.{first_bad}
use Rattle.archive_index.specs.Index.{count_of, after_of, names_at, place_of, cut_of}
use Rattle.link.specs.declared.cause.Refusal.{Refusal}
use Rattle.link.specs.Judge.{refused, within}
use Rattle.link.specs.Proof.Judged.{first}
use Rattle.archive_index.specs.Archives.{Archives, last_end, entries_in}
use Rattle.archive_index.specs.Open as Open
use Rattle.archive_index.specs.Open.{Opened, first_not, judge_each, end_fits, is_filled, offsets_in, cut_in, judge_index, judge_from, judge_rows, judge_archives, judge_of, open_of}
use Rattle.archive_walk.specs.Walk.{start_of}
use Rattle.merge_laws.specs.Calls.{Linked}
use Rattle.link_laws.specs.Calls.{archive_start, call_refusal, call_number}
use Rattle.archive_laws.proofs.AcceptedStart.{each-holds, index-bounded}
use Rattle.link_laws.proofs.ArchiveGives.{then-gives}
use Rattle.link_laws.proofs.CallPlaces.{differ, first-is-bad, begun-gives}
use Rattle.link_laws.specs.FirstRow.{First}
use Rattle.link_laws.proofs.FirstRow.{first-bad, none-bad}
use Rattle.link_laws.specs.CutShort.{offset_whole, name_whole, WholeIndex, CutIndex, count, name, offset, end_right, CutShort, many, end, content}
use Rattle.link_laws.specs.ArchiveRules.{own_bytes, position}
use Rattle.link_laws.proofs.ArchiveExactly.{index-is, position-on}

module _ (index : List ℕ) (b : ℕ) where
  pub cut-first : (n k p : ℕ) → place_of index (count_of index) k ≡ p → cut_of index p n k ≡ first_bad (name_whole index b) k n
  unfolding cut_of first_bad after_of place_of
  cut-first zero k p e = refl
  cut-first (suc n) k p e =
      by-test (ended index p)
      (λ t.
      let here : name_whole index b k ≡ true = ap (ended index) e ∙ t in
      let more : p + length (name_at index p) + 1 ≢ 0 = λ z. omega arith in
      let on : place_of index (count_of index) (k + 1) ≡ p + length (name_at index p) + 1 = ap (place_of index (count_of index)) (add-one k) ∙ rw (e, t) in
      rw (t, ne_eqb _ _ more, here) (cut-first n (k + 1) (p + length (name_at index p) + 1) on))
      (λ t. let here : name_whole index b k ≡ false = ap (ended index) e ∙ t in rw (t, here))

  whole : (k : ℕ) → b + k < 65535 → 8 + 4 * k ≤ length index → offset_whole index b k ≡ true
  whole k a d = rw (lt-ltb _ _ a, le-leb _ _ d)

  short : (k : ℕ) → length index < 8 + 4 * k → offset_whole index b k ≡ false
  short k d = by-test (ltb (b + k) 65535) (λ t. rw (t, lt-leb _ _ d)) (λ t. rw t)

  over : (k : ℕ) → 65535 ≤ b + k → offset_whole index b k ≡ false
  over k d = rw (le-ltb _ _ d)

  abbrev c : ℕ
  c = count_of index

  module _ (h : 4 ≤ length index) (low : b ≤ 65535) where
    -- the offsets run past the end
    offsets-cut : offsets_in (length index) < c → CutIndex index b (lesser 65535 (b + offsets_in (length index)))
    unfolding lesser
    offsets-cut d =
        by-test (ltb 65535 (b + offsets_in (length index)))
        (λ t.
        let a : 65535 < b + offsets_in (length index) = ltb-true _ _ t in
        rw t
        (offset h (65535 - b) (record { below = omega arith; bad = over (65535 - b) (omega arith); before = λ j g. whole j (omega arith) (omega arith) }) (omega arith)))
        (λ t.
        let a : b + offsets_in (length index) ≤ 65535 = ltb-false _ _ t in
        rw t
        (offset h (offsets_in (length index)) (record { below = d; bad = short (offsets_in (length index)) (omega arith); before = λ j g. whole j (omega arith) (omega arith) }) refl))

    -- more of them than the bound
    offsets-over : c ≤ offsets_in (length index) → 65535 < b + c → CutIndex index b 65535
    offsets-over d e =
        offset h (65535 - b) (record { below = omega arith; bad = over (65535 - b) (omega arith); before = λ j g. whole j (omega arith) (omega arith) }) (omega arith)

    offsets-whole : c ≤ offsets_in (length index) → b + c ≤ 65535 → (k : ℕ) → k < c → offset_whole index b k ≡ true
    offsets-whole d e k g = whole k (omega arith) (omega arith)

  names-cut : cut_in index < c → First (name_whole index b) c (cut_in index)
  unfolding place_of
  names-cut h =
      let q = cut-first c 0 (names_at c) refl in
      subst (First (name_whole index b) c) (sym q) (first-bad (name_whole index b) c (subst (λ (p : ℕ). p < c) q h))

  pub names_whole : c ≤ cut_in index → (k : ℕ) → k < c → name_whole index b k ≡ true
  unfolding place_of
  names_whole h = none-bad (name_whole index b) c (subst (λ (p : ℕ). c ≤ p) (cut-first c 0 (names_at c) refl) h)

  -- what the judgement of an index says: 1 where it is cut short, else it is whole
  pub record Judged (r : Refusal) : Type 0 where
    pub cut : r.number ≡ 1 → CutIndex index b r.place
    pub fine : r.number ≡ 0 → WholeIndex index b
    pub either : (r.number ≡ 0 → ⊥) → r.number ≡ 1

  cut-at : (p : ℕ) → CutIndex index b p → Judged (refused 1 p)
  cut-at p d = record { cut = λ e. d; fine = λ e. absurd (omega arith); either = λ n. refl }

  pub index-judged : b ≤ 65535 → Judged (judge_index index b)
  unfolding judge_index
  index-judged low =
      pick Judged (ltb (length index) 4) _ _ (λ a. cut-at b (count (ltb-true _ _ a) refl))
      (λ a.
      let h : 4 ≤ length index = ltb-false _ _ a in
      pick Judged (ltb (offsets_in (length index)) c) _ _ (λ d. cut-at (lesser 65535 (b + offsets_in (length index))) (offsets-cut h low (ltb-true _ _ d)))
      (λ d.
      pick Judged (ltb 65535 (b + c)) _ _ (λ f. cut-at 65535 (offsets-over h low (ltb-false _ _ d) (ltb-true _ _ f)))
      (λ f.
      let w = offsets-whole h low (ltb-false _ _ d) (ltb-false _ _ f) in
      pick Judged (ltb (cut_in index) c) _ _ (λ g. cut-at (b + cut_in index) (name h w (cut_in index) (names-cut (ltb-true _ _ g)) refl))
      (λ g.
      record { cut = λ e. differ 0 1 refl e; fine = λ e. record { count = h; offsets = w; names = names_whole (ltb-false _ _ g) }; either = λ n. absurd (n refl) }))))

module _ (archives : Archives) where
  abbrev AllWhole : ℕ → ℕ → Type 0
  AllWhole j m = (i : ℕ) → j ≤ i → i < m → WholeIndex (own_bytes archives i) (position archives i)

  -- the first of n indexes from j on that is cut short
  record CutFrom (n j p : ℕ) : Type 0 where
    at : ℕ
    low : j ≤ at
    high : at < j + n
    before : AllWhole j at
    cut : CutIndex (own_bytes archives at) (position archives at) p

  later : (n j p : ℕ) → WholeIndex (own_bytes archives j) (position archives j) → CutFrom n (j + 1) p → CutFrom (suc n) j p
  later n j p w r = record {
    at = r.at;
    low = omega (arith, r.low);
    high = omega (arith, r.high);
    before = λ i g h. by-test (eqb i j) (λ e. rw (eqb-true i j e) w) (λ e. let d : i ≢ j = eqb-false i j e in r.before i (omega arith) h);
    cut = r.cut;
  }

  contents-cut : (n j : ℕ) → position archives j ≤ 65535 → (judge_from archives n j (position archives j)).number ≡ 1
      → CutFrom n j (judge_from archives n j (position archives j)).place
  unfolding judge_from
  contents-cut zero j h e = differ 0 1 refl e
  contents-cut (suc n) j h e =
      let b : ℕ = position archives j in
      let x : List ℕ = own_bytes archives j in
      let w = index-judged x b h in
      let y : b + count_of x ≡ position archives (j + 1) = sym (position-on archives j ∙ rw (index-is archives j)) in
      let u : judge_from archives (suc n) j b ≡ first (judge_index x b) (judge_from archives n (j + 1) (position archives (j + 1))) = rw (index-is archives j, y) in
      rw u
      (then-gives (λ (r : Refusal). r.number ≡ 1 → CutFrom (suc n) j r.place) (judge_index x b) (judge_from archives n (j + 1) (position archives (j + 1)))
      (λ d. record { at = j; low = omega arith; high = omega arith; before = λ i g k. absurd (omega arith); cut = w.cut d })
      (λ z d. later n j _ (w.fine z) (contents-cut n (j + 1) (omega (arith, y, index-bounded x b z)) d))
      (ap (λ (r : Refusal). r.number) (sym u) ∙ e))

  abbrev P : Refusal → Type 0
  P r = r.number ≡ 1 → CutShort archives r.place

  at-most : (within (length archives.ends) 16).number ≡ 0 → length archives.ends ≤ 16
  at-most z = by-test (ltb 16 (length archives.ends)) (λ t. absurd (omega (arith, rw t at z))) (λ t. ltb-false _ _ t)

  ends-cut : length archives.ends ≤ 16 → P (judge_each (end_fits archives) (length archives.ends) 1)
  unfolding judge_each end_fits
  ends-cut few = pick P (ltb (first_not (end_right archives) n 0) n) _ _ (λ t e. end few (found (ltb-true _ _ t))) (λ t e. differ 0 1 refl e)
    where
      n : ℕ
      n = length archives.ends

      found : first_not (end_right archives) n 0 < n → First (end_right archives) n (first_not (end_right archives) n 0)
      found h =
          let q = first-is-bad (end_right archives) n 0 in
          subst (First (end_right archives) n) (sym q) (first-bad (end_right archives) n (subst (λ (p : ℕ). p < n) q h))

  ends-right : (judge_each (end_fits archives) (length archives.ends) 1).number ≡ 0 → (j : ℕ) → j < length archives.ends → end_right archives j ≡ true
  unfolding end_fits
  ends-right z = each-holds (end_fits archives) (length archives.ends) 1 (λ q. omega arith) z

  filled-cut : P (judge_each (is_filled archives) (length archives.ends) 20)
  unfolding judge_each
  filled-cut = pick P (ltb (first_not (is_filled archives) (length archives.ends) 0) (length archives.ends)) _ _ (λ t e. differ 20 1 refl e) (λ t e. differ 0 1 refl e)

  each-filled : (judge_each (is_filled archives) (length archives.ends) 20).number ≡ 0 → (j : ℕ) → j < length archives.ends → 0 < length (own_bytes archives j)
  unfolding is_filled
  each-filled z j h =
      subst (λ (x : List ℕ). 0 < length x) (index-is archives j)
      (ltb-true _ _ (each-holds (is_filled archives) (length archives.ends) 20 (λ q. omega arith) z j h))

  judge-cut : (rows : ℕ) → P (judge_of archives rows)
  unfolding judge_of judge_archives
  judge-cut rows =
      then-gives P (within (length archives.ends) 16) (judge_archives archives rows)
      (pick P (ltb 16 (length archives.ends)) _ _ (λ t e. many (ltb-true _ _ t) refl) (λ t e. differ 0 1 refl e))
      (λ u.
      then-gives P (judge_each (end_fits archives) (length archives.ends) 1) _ (ends-cut (at-most u))
      (λ v.
      then-gives P (judge_each (is_filled archives) (length archives.ends) 20) _ filled-cut
      (λ x.
      then-gives P (judge_from archives (length archives.ends) 0 0) (judge_rows rows (entries_in archives))
      (λ e.
      let c = contents-cut (length archives.ends) 0 (omega arith) e in
      content (at-most u) (ends-right v) (each-filled x) c.at (omega (arith, c.high)) (λ i g. c.before i (omega arith) g) c.cut)
      (λ w. pick P (ltb rows (entries_in archives)) _ _ (λ t e. differ 2 1 refl e) (λ t e. differ 0 1 refl e)))))

  open-cut : (cells : List ℕ) → P (open_of archives cells).opened.refusal
  unfolding open_of
  open-cut cells =
      pick (λ (o : Open.Left). P o.opened.refusal) (eqb (judge_of archives (length cells / 8)).number 0) _ _ (λ t e. differ 0 1 refl e) (λ t. judge-cut (length cells / 8))

  pub start-row : (key : ℕ) (cells : List ℕ) (s : Linked) → call_number (archive_start key archives cells) s ≡ 1
      → CutShort archives (call_refusal (archive_start key archives cells) s).place
  unfolding start_of
  start-row key cells s = begun-gives P (λ e. differ 0 1 refl e) key (last_end archives) (open_of archives cells).opened (open-cut cells)
