-- Places moved up from behind, so that new ids stand between them.
-- Assumes nothing.
use Rattle.std.specs.Prelude.{ℕ, suc, ◌+◌, ◌-◌, ◌<◌, ◌≤◌, ◌≡◌, refl, ◌≢◌, List, [], ◌∷◌, ◌++◌, eqb, ltb, get_or, set, take, drop, length}
use Rattle.std.specs.List.{insert, copy_within}
use Rattle.std.proofs.Common.{arith, sym, ap, subst, ◌∙◌, length-take-le, length-append, length-drop, length-set, get_or-set_same, get_or-set_other}
use Rattle.std.proofs.lemmas.List.{get_or_append_left, get_or-append_right, get_or-take, get_or-drop, drop_more, ext_get_or}
use Rattle.std.proofs.lemmas.List.Edits.{length-paste, length-insert, get_or-insert_below, get_or-insert_at, get_or-insert_above}
use borrow.Author.Tests.{eqb-true, eqb-false, ltb-true, ltb-false}
use Rattle.cells.specs.Proof.Split.{by-test}
use Rattle.name_index.specs.Index.{index_of}
use Rattle.name_index.specs.Arrivals.{put_in, put_together}

-- ---- cells copied upwards

module _ (l : List ℕ) (from to at : ℕ) (h : from ≤ to) (lent : at + (to - from) ≤ length l) (up : from ≤ at) where
  abbrev m : List ℕ
  m = copy_within l from to at

  enough : to - from ≤ length (drop from l)
  enough = omega (arith, lent, up, length-drop from l)

  abbrev part : List ℕ
  part = take (to - from) (drop from l)

  head-long : length (take at l) ≡ at
  head-long = length-take-le at l (omega (arith, lent))

  part-long : length part ≡ to - from
  part-long = length-take-le (to - from) (drop from l) enough

  both-long : length (take at l ++ part) ≡ at + (to - from)
  both-long = omega (arith, length-append (take at l) part, head-long, part-long)

  pub copy-long : length m ≡ length l
  copy-long = length-paste l at (drop from l) (to - from) lent enough

  pub copy-below : (i : ℕ) → i < at → get_or m i 0 ≡ get_or l i 0
  copy-below i g =
      get_or_append_left (take at l ++ part) (drop (at + (to - from)) l) 0 i (omega (arith, g, both-long))
      ∙ get_or_append_left (take at l) part 0 i (omega (arith, g, head-long)) ∙ get_or-take at l i 0 g

  pub copy-inside : (i : ℕ) → from ≤ i → i < to → get_or m (at + (i - from)) 0 ≡ get_or l i 0
  copy-inside i a b =
      let back : at + (i - from) - at ≡ i - from = omega arith in
      let own : from + (i - from) ≡ i = omega (arith, a) in
      get_or_append_left (take at l ++ part) (drop (at + (to - from)) l) 0 (at + (i - from)) (omega (arith, a, b, both-long))
      ∙ get_or-append_right (take at l) part at (at + (i - from)) 0 head-long (omega arith)
      ∙ ap (λ (k : ℕ). get_or part k 0) back
      ∙ get_or-take (to - from) (drop from l) (i - from) 0 (omega (arith, a, b))
      ∙ get_or-drop from l (i - from) 0
      ∙ ap (λ (k : ℕ). get_or l k 0) own

  pub copy-behind : (i : ℕ) → at + (to - from) ≤ i → get_or m i 0 ≡ get_or l i 0
  copy-behind i g =
      let own : at + (to - from) + (i - (at + (to - from))) ≡ i = omega (arith, g) in
      get_or-append_right (take at l ++ part) (drop (at + (to - from)) l) (at + (to - from)) i 0 both-long g
      ∙ get_or-drop (at + (to - from)) l (i - (at + (to - from))) 0
      ∙ ap (λ (k : ℕ). get_or l k 0) own

-- ---- ids at rising places of a list

-- the places are the list's, none before an earlier one
pub record Rising (count : ℕ) (ids places : List ℕ) : Type 0 where
  pub lent : length ids ≤ length places
  pub within : (j : ℕ) → j < length ids → get_or places j 0 ≤ count
  pub climbing : (i j : ℕ) → i < j → j < length ids → get_or places i 0 ≤ get_or places j 0

put-long : (old ids places : List ℕ) → length ids ≤ length places → ((j : ℕ) → j < length ids → get_or places j 0 ≤ length old)
    → length (put_in old ids places) ≡ length old + length ids
unfolding put_in
put-long old [] places h w = omega arith
put-long old (x ∷ ids) [] h w = absurd (omega (arith, h))
put-long old (x ∷ ids) (p ∷ places) h w =
    let e = put-long old ids places (omega (arith, h)) (λ j g. w (suc j) (omega (arith, g))) in
    let f : p ≤ length old = w 0 (omega arith) in
    omega (arith, e, length-insert (put_in old ids places) p x (omega (arith, e, f)))

put-front : (old ids places : List ℕ) → length ids ≤ length places → ((j : ℕ) → j < length ids → get_or places j 0 ≤ length old) → (i : ℕ)
    → ((j : ℕ) → j < length ids → i < get_or places j 0) → get_or (put_in old ids places) i 0 ≡ get_or old i 0
unfolding put_in
put-front old [] places h w i f = refl
put-front old (x ∷ ids) [] h w i f = absurd (omega (arith, h))
put-front old (x ∷ ids) (p ∷ places) h w i f =
    let e = put-long old ids places (omega (arith, h)) (λ j g. w (suc j) (omega (arith, g))) in
    let q : p ≤ length old = w 0 (omega arith) in
    get_or-insert_below (put_in old ids places) p x 0 i (f 0 (omega arith)) (omega (arith, e, q))
    ∙ put-front old ids places (omega (arith, h)) (λ j g. w (suc j) (omega (arith, g))) i (λ j g. f (suc j) (omega (arith, g)))

-- ---- what is left to move

module _ (old : List ℕ) (count : ℕ) (ids places : List ℕ) where
  -- the places in use, with the ids from k on
  abbrev pub with : ℕ → List ℕ
  with k = put_in (take count old) (drop k ids) (drop k places)

  -- the ids from k on stand at their places, those below high are where they were; between them k places are free
  pub record Moved (now : List ℕ) (high k : ℕ) : Type 0 where
    pub few : k ≤ length ids
    pub within : high ≤ count
    pub next : (j : ℕ) → j < k → get_or places j 0 ≤ high
    pub last : (j : ℕ) → k ≤ j → j < length ids → high ≤ get_or places j 0
    pub long : length now ≡ length old
    pub below : (i : ℕ) → i < high → get_or now i 0 ≡ get_or old i 0
    pub above : (i : ℕ) → high ≤ i → i < count + (length ids - k) → get_or now (i + k) 0 ≡ get_or (with k) i 0
    pub behind : (i : ℕ) → count + length ids ≤ i → get_or now i 0 ≡ get_or old i 0

module _ (old : List ℕ) (count : ℕ) (ids places : List ℕ) (room : count + length ids ≤ length old) (rises : Rising count ids places) where
  abbrev start : List ℕ
  start = take count old

  abbrev joined : ℕ → List ℕ
  joined = with old count ids places

  abbrev Left : List ℕ → ℕ → ℕ → Type 0
  Left = Moved old count ids places

  start-long : length start ≡ count
  start-long = length-take-le count old (omega (arith, room))

  left-long : (k : ℕ) → length (drop k ids) ≡ length ids - k
  left-long k = length-drop k ids

  enough-left : (k : ℕ) → length (drop k ids) ≤ length (drop k places)
  enough-left k = let l = rises.lent in omega (arith, l, left-long k, length-drop k places)

  within-left : (k j : ℕ) → j < length (drop k ids) → get_or (drop k places) j 0 ≤ length start
  within-left k j h =
      let e = get_or-drop k places j 0 in
      let w = rises.within (k + j) (omega (arith, h, left-long k)) in
      rw e (omega (arith, w, start-long))

  with-long : (k : ℕ) → k ≤ length ids → length (joined k) ≡ count + (length ids - k)
  with-long k h = omega (arith, put-long start (drop k ids) (drop k places) (enough-left k) (within-left k), start-long, left-long k)

  with-more : (k : ℕ) → k < length ids → joined k ≡ insert (joined (k + 1)) (get_or places k 0) (get_or ids k 0)
  unfolding put_in
  with-more k h =
      let e = drop_more ids k 0 h in
      let l = rises.lent in
      let f = drop_more places k 0 (omega (arith, h, l)) in
      rw (e, f) refl

  pub moved-start : Left old count (length ids)
  moved-start =
      record {
        few = omega arith;
        within = omega arith;
        next = rises.within;
        last = λ j g h. absurd (omega (arith, g, h));
        long = refl;
        below = λ i h. refl;
        above = λ i g h. absurd (omega (arith, g, h));
        behind = λ i h. refl;
      }

  with-front : (k i high : ℕ) → high ≤ count → ((j : ℕ) → k ≤ j → j < length ids → high ≤ get_or places j 0) → i < high → get_or (joined k) i 0 ≡ get_or old i 0
  with-front k i high w last h =
      put-front start (drop k ids) (drop k places) (enough-left k) (within-left k) i
      (λ j g.
      let e = get_or-drop k places j 0 in
      let l = last (k + j) (omega arith) (omega (arith, g, left-long k)) in
      rw e (omega (arith, h, l)))
      ∙ get_or-take count old i 0 (omega (arith, w, h))

  module _ (now : List ℕ) (high k : ℕ) (h : Left now high (k + 1)) where
    abbrev place : ℕ
    place = get_or places k 0

    abbrev copied : List ℕ
    copied = copy_within now place high (place + (k + 1))

    abbrev next : List ℕ
    next = set copied (place + k) (get_or ids k 0)

    low : place ≤ high
    low = h.next k (omega arith)

    fits : place + (k + 1) + (high - place) ≤ length now
    fits = let f = h.few in let w = h.within in let e = h.long in omega (arith, f, w, e, room, low)

    pub next-place : place + k < length copied
    next-place =
        let f = h.few in
        let w = h.within in
        let e = h.long in
        omega (arith, f, w, e, room, low, copy-long now place high (place + (k + 1)) low fits (omega arith))

    same-but : (i : ℕ) → i ≢ place + k → get_or next i 0 ≡ get_or copied i 0
    same-but i n = get_or-set_other copied (place + k) i (get_or ids k 0) 0 n

    own : get_or next (place + k) 0 ≡ get_or ids k 0
    own = get_or-set_same copied (place + k) (get_or ids k 0) 0 next-place

    within-more : place ≤ length (joined (k + 1))
    within-more = let f = h.few in let w = h.within in omega (arith, f, w, low, with-long (k + 1) f)

    less : k < length ids
    less = let f = h.few in omega (arith, f)

    -- one that was at i - 1 before the id came
    moved-up : (i : ℕ) → place ≤ i → i < count + (length ids - (k + 1)) → get_or next (i + 1 + k) 0 ≡ get_or (joined (k + 1)) i 0
    moved-up i a b =
        let one : i + 1 + k ≡ i + (k + 1) = omega arith in
        same-but (i + 1 + k) (omega (arith, a)) ∙ ap (λ (j : ℕ). get_or copied j 0) one
        ∙ by-test (ltb i high)
        (λ t.
        let c : i < high = ltb-true i high t in
        let e : i + (k + 1) ≡ place + (k + 1) + (i - place) = omega (arith, a) in
        ap (λ (j : ℕ). get_or copied j 0) e ∙ copy-inside now place high (place + (k + 1)) low fits (omega arith) i a c ∙ h.below i c
        ∙ sym (with-front (k + 1) i high h.within h.last c))
        (λ t.
        let c : high ≤ i = ltb-false i high t in
        copy-behind now place high (place + (k + 1)) low fits (omega arith) (i + (k + 1)) (omega (arith, c, low)) ∙ h.above i c b)

    above-more : (i : ℕ) → place ≤ i → i < count + (length ids - k) → get_or next (i + k) 0 ≡ get_or (joined k) i 0
    above-more i a b =
        ap' i
        (by-test (eqb i place)
        (λ t.
        let e : i ≡ place = eqb-true _ _ t in
        ap (λ (j : ℕ). get_or next (j + k) 0) e ∙ own ∙ sym (get_or-insert_at (joined (k + 1)) place (get_or ids k 0) 0 within-more)
        ∙ ap (λ (j : ℕ). get_or (insert (joined (k + 1)) place (get_or ids k 0)) j 0) (sym e))
        (λ t.
        let n : i ≢ place = eqb-false _ _ t in
        let c : place < i = omega (arith, a, n) in
        let e : i - 1 + 1 ≡ i = omega (arith, c) in
        ap (λ (j : ℕ). get_or next (j + k) 0) (sym e) ∙ moved-up (i - 1) (omega (arith, c)) (omega (arith, b, c, less))
        ∙ sym (get_or-insert_above (joined (k + 1)) place (get_or ids k 0) 0 (i - 1) (omega (arith, c)) within-more)
        ∙ ap (λ (j : ℕ). get_or (insert (joined (k + 1)) place (get_or ids k 0)) j 0) e))
      where
        ap' : (i : ℕ) → get_or next (i + k) 0 ≡ get_or (insert (joined (k + 1)) place (get_or ids k 0)) i 0 → get_or next (i + k) 0 ≡ get_or (joined k) i 0
        ap' i e = e ∙ ap (λ (l : List ℕ). get_or l i 0) (sym (with-more k less))

    pub moved-more : Left next place k
    moved-more =
        record {
          few = omega (arith, less);
          within = let w = h.within in omega (arith, w, low);
          next = λ j g. rises.climbing j k g less;
          last = λ j g f. by-test (eqb k j) (λ t. let e : k ≡ j = eqb-true _ _ t in subst (λ (m : ℕ). place ≤ get_or places m 0) e (omega arith))
              (λ t. let n : k ≢ j = eqb-false _ _ t in rises.climbing k j (omega (arith, g, n)) f);
          long = length-set copied (place + k) (get_or ids k 0) ∙ copy-long now place high (place + (k + 1)) low fits (omega arith) ∙ h.long;
          below = λ i g.
              same-but i (omega (arith, g)) ∙ copy-below now place high (place + (k + 1)) low fits (omega arith) i (omega (arith, g))
              ∙ h.below i (omega (arith, g, low));
          above = above-more;
          behind = λ i g.
              same-but i (let w = h.within in omega (arith, g, w, low, less))
              ∙ copy-behind now place high (place + (k + 1)) low fits (omega arith) i (let w = h.within in omega (arith, g, w, low, less)) ∙ h.behind i g;
        }

  -- no id is left: all stand at their places
  pub moved-all : (now : List ℕ) (high : ℕ) → Left now high 0 → index_of now (count + length ids) ≡ put_together (index_of old count) ids places
  unfolding put_together
  moved-all now high h =
      let whole : length (joined 0) ≡ count + length ids = omega (arith, with-long 0 (omega arith)) in
      let rest : List ℕ = drop (count + length ids) old in
      let long : length now ≡ length (joined 0 ++ rest) =
      omega (arith, whole, h.long, room, length-append (joined 0) rest, length-drop (count + length ids) old) in
      ap (λ (l : List ℕ). index_of l (count + length ids))
      (ext_get_or 0 now (joined 0 ++ rest) long
      (λ i g.
      by-test (ltb i (count + length ids))
      (λ t.
      let b : i < count + length ids = ltb-true _ _ t in
      by-test (ltb i high)
      (λ u. let c : i < high = ltb-true _ _ u in
      h.below i c ∙ sym (get_or_append_left (joined 0) rest 0 i (omega (arith, b, whole)) ∙ with-front 0 i high h.within h.last c))
      (λ u. let c : high ≤ i = ltb-false _ _ u in
      let e : i + 0 ≡ i = omega arith in
      ap (λ (j : ℕ). get_or now j 0) (sym e) ∙ h.above i c (omega (arith, b)) ∙ sym (get_or_append_left (joined 0) rest 0 i (omega (arith, b, whole)))))
      (λ t.
      let b : count + length ids ≤ i = ltb-false _ _ t in
      let e : count + length ids + (i - (count + length ids)) ≡ i = omega (arith, b) in
      h.behind i b
      ∙ sym (get_or-append_right (joined 0) rest (count + length ids) i 0 whole b ∙ get_or-drop (count + length ids) old (i - (count + length ids)) 0
      ∙ ap (λ (j : ℕ). get_or old j 0) e))))
