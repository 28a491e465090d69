-- The ways through the functions on lines.
-- Assumes nothing.
use Prim.Native.Nat.{ℕ, zero, suc, ◌+◌, ◌-◌, ◌<◌, ◌≤◌}
use Rattle.std.proofs.Common.{subst, ◌∙◌, get_or-take, take_at, take-take, length-take-le}
use native.Mathlib.Omega.{arith}
use Rattle.std.specs.Prelude.{◌≡◌, refl, Bool, false, cond, List, ◌++◌, eqb, ltb, leb, get_or, Option, None}
use Rattle.std.proofs.Math.Path.{sym, ap}
use Rattle.std.proofs.Math.Bool.{true}
use Rattle.std.proofs.lemmas.Bool.{false≢true}
use Rattle.std.proofs.Math.ListN.{length, take}
use borrow.Author.Tests.{eq-eqb, ne_eqb, le-ltb, ltb-false, leb-false}
use Rattle.cells.specs.Proof.Split.{by-test}
use Rattle.text.specs.declared.lines.Lines.{Lines}
use Rattle.text.specs.declared.lines.Taken.{Taken}
use Rattle.text.specs.Unread.{lines_at}
use Rattle.text.specs.Line.{Step, step_of, line_end, end_from, end_in, rest_of, unended_of, left_of, settled_at, settle_of, is_more}
use Rattle.text.specs.Next.{Front, front_as, front_of, longer_of, ReadOn, ReadLine, NextBy, NextLine, past_at, past_of, Skipped}

-- ---- a line

one_less : (n i : ℕ) → i < n → n - i ≡ suc (n - (i + 1))
one_less n i h = omega arith

module _ (b : List ℕ) (to i : ℕ) where
  pub end_none : to ≤ i → end_in b i to ≡ i
  unfolding end_from
  end_none h = let z : to - i ≡ 0 = omega arith in rw z

  pub end-here : i < to → get_or b i 0 ≡ line_end → end_in b i to ≡ i
  unfolding end_from
  end-here h e = rw (one_less to i h) (simp (eq-eqb _ _ e))

  pub end_on : i < to → (get_or b i 0 ≡ line_end → ⊥) → end_in b i to ≡ end_in b (i + 1) to
  unfolding end_from
  end_on h e = rw (one_less to i h) (simp (ne_eqb _ _ e))

-- ---- reads

pub longer-grows : (end more len : ℕ) → end < len → (more ≡ 0 → ⊥) → end < longer_of end more len
unfolding longer_of
longer-grows end more len h g =
    by-test (ltb (len - end) more) (λ a. rw (le-ltb len end (omega arith), a) h)
    (λ a. rw (le-ltb len end (omega arith), a) (let p : 0 < more = omega (arith, g) in omega arith))

longer-keeps : (end more len : ℕ) → end ≤ longer_of end more len
unfolding longer_of
longer-keeps end more len =
    by-test (ltb len end) (λ a. rw a (omega arith))
    (λ a. by-test (ltb (len - end) more) (λ c. rw (a, c) (ltb-false _ _ a)) (λ c. rw (a, c) (omega arith)))

pub kept-before : (b rest : List ℕ) (n : ℕ) → n < length b → take n (take n b ++ rest) ≡ take n b
kept-before b rest n h = take_at (take n b) rest n (length-take-le n b (omega arith))

pub read-ok : (b b' : List ℕ) (l : Lines) (n more len : ℕ) → n ≡ longer_of l.end more len → l.end < len → take l.end b' ≡ take l.end b
    → ReadOn b l b' (lines_at l.start l.seen n (eqb more 0) false)
read-ok b b' l n more len k h e =
    let behind : l.end ≤ longer_of l.end more len = longer-keeps l.end more len in
    record {
      start = refl;
      seen = refl;
      before = e;
      behind = omega arith;
      grown = λ o. let g : l.end < longer_of l.end more len = longer-grows l.end more len h (λ z. false≢true (sym o ∙ eq-eqb _ _ z)) in omega arith;
    }

-- ---- a line passed over

-- before the first read nothing is there
pub skipped-none : (b : List ℕ) (over failed : Bool) → Skipped b (lines_at 0 0 0 over failed)
unfolding past_of past_at end_from
skipped-none b over failed = record { end = 0; over = over; failed = failed; past = refl }

-- ---- the next line

-- equal bytes have equal line ends
ends_same : (b b' : List ℕ) (n i k : ℕ) → i + k ≤ n → take n b' ≡ take n b → end_from b' i k ≡ end_from b i k
unfolding end_from
ends_same b b' n i zero h e = refl
ends_same b b' n i (suc k) h e =
    let x : get_or b' i 0 ≡ get_or b i 0 =
    sym (get_or-take n b' i 0 (omega arith)) ∙ ap (λ (y : List ℕ). get_or y i 0) e ∙ get_or-take n b i 0 (omega arith) in
    rw x (ap (cond (eqb (get_or b i 0) line_end) i) (ends_same b b' n (i + 1) k (omega arith) e))

-- where k bytes hold none, it is looked for behind them
ends-behind : (b : List ℕ) (i k m : ℕ) → end_from b i k ≡ i + k → end_from b i (k + m) ≡ end_from b (i + k) m
unfolding end_from
ends-behind b i zero m e = let z : i ≡ i + 0 = omega arith in let y : 0 + m ≡ m = omega arith in rw y (ap (λ (j : ℕ). end_from b j m) z)
ends-behind b i (suc k) m e =
    by-test (eqb (get_or b i 0) line_end) (λ a. let z : i ≡ i + suc k = rw a at e in absurd (omega arith))
    (λ a.
    let z : i + 1 + k ≡ i + suc k = omega arith in
    let s : suc k + m ≡ suc (k + m) = omega arith in
    rw (s, a) (ends-behind b (i + 1) k m ((rw a at e) ∙ sym z) ∙ ap (λ (j : ℕ). end_from b j m) z))

-- it is one of the k bytes, or the place behind them
ends-within : (b : List ℕ) (i k : ℕ) → end_from b i k ≤ i + k
unfolding end_from
ends-within b i zero = omega arith
ends-within b i (suc k) =
    by-test (eqb (get_or b i 0) line_end) (λ a. rw a (omega arith)) (λ a. rw a (let h = ends-within b (i + 1) k in omega arith))

-- more has to be read where there is room and no line end
record Wanting (b : List ℕ) (n end : ℕ) (over failed : Bool) (s : Step) : Type 0 where
  going : over ≡ false
  room : end < length b
  none : end ≤ end_in b n end
  lines : s.lines ≡ lines_at 0 end end false failed

module _ (b : List ℕ) (n end : ℕ) (over failed : Bool) where
  abbrev at : Lines
  at = lines_at 0 n end over failed

  wanting-at : is_more (settle_of b at).taken ≡ true → Wanting b n end over failed (settle_of b at)
  unfolding settle_of settled_at unended_of left_of
  wanting-at e =
      by-test (ltb (end_in b n end) end)
      (λ a. absurd (false≢true (rw a at e)))
      (λ a.
      by-test over (λ o. absurd (false≢true (rw (a, o) at e)))
      (λ o.
      by-test (leb (length b) end) (λ h. absurd (false≢true (rw (a, o, h) at e)))
      (λ h.
      record { going = o; room = leb-false _ _ h; none = ltb-false _ _ a; lines = rw (a, o) })))

  wanting : (s : Step) → s ≡ settle_of b at → is_more s.taken ≡ true → Wanting b n end over failed s
  wanting s q e = subst (Wanting b n end over failed) (sym q) (wanting-at (ap (λ (x : Step). is_more x.taken) (sym q) ∙ e))

-- what is looked at again changes nothing
seen-again : (b : List ℕ) (n end to : ℕ) (over failed : Bool) → end_in b n to ≡ end_in b end to
    → settle_of b (lines_at 0 end to over failed) ≡ settle_of b (lines_at 0 n to over failed)
unfolding settle_of settled_at unended_of left_of rest_of
seen-again b n end to over failed e = rw e

settle-lines : (b : List ℕ) (l : Lines) → ((settle_of b l).lines.end ≡ l.end) × ((settle_of b l).lines.over ≡ l.over)
unfolding settle_of settled_at
settle-lines b l = by-test (ltb (end_in b l.seen l.end) l.end) (λ a. rw a (refl, refl)) (λ a. rw a (refl, refl))

-- reads that are left: each brings a byte or is the last
abbrev pub reads_left : List ℕ → Step → ℕ
reads_left b s = cond s.lines.over 0 1 + (length b - s.lines.end)

module _ (b : List ℕ) (l m : Lines) (s : Step) where
  searched : m ≡ lines_at 0 l.end l.end l.over l.failed → s ≡ settle_of b m → s.lines.end ≡ l.end
  searched e q = ap (λ (x : Step). x.lines.end) q ∙ (settle-lines b m).0 ∙ ap (λ (x : Lines). x.end) e

module _ (b₀ b b' : List ℕ) (n : ℕ) (s t : Step) (r : Lines) (more : Bool) where
  pub line_on : ReadLine b₀ n b s → more ≡ is_more s.taken → more ≡ true → ReadOn b s.lines b' r → t ≡ settle_of b' r → ReadLine b₀ n b' t
  line_on i m e o q =
      let end : ℕ = i.end in
      let w = wanting b n end i.over i.failed s i.line (sym m ∙ e) in
      let was : s.lines.end ≡ end = ap (λ (x : Lines). x.end) w.lines in
      let kept : take end b' ≡ take end b = subst (λ (k : ℕ). take k b' ≡ take k b) was o.before in
      let longer : end ≤ r.end = omega arith in
      let first : r.start ≡ 0 = o.start ∙ ap (λ (x : Lines). x.start) w.lines in
      let looked : r.seen ≡ end = o.seen ∙ ap (λ (x : Lines). x.seen) w.lines in
      let within = ends-within b n (end - n) in
      let upto : n + (end - n) ≡ end = omega arith in
      let all : end - n + (r.end - end) ≡ r.end - n = omega arith in
      let none : end_from b' n (end - n) ≡ n + (end - n) = ends_same b b' end n (end - n) (omega arith) kept ∙ omega arith in
      let behind : end_in b' n r.end ≡ end_in b' end r.end =
      ap (end_from b' n) (sym all) ∙ ends-behind b' n (end - n) (r.end - end) none ∙ ap (λ (j : ℕ). end_from b' j (r.end - end)) upto in
      let is : r ≡ lines_at 0 end r.end r.over r.failed =
      ap (λ (k : ℕ). lines_at k r.seen r.end r.over r.failed) first ∙ ap (λ (k : ℕ). lines_at 0 k r.end r.over r.failed) looked in
      record {
        end = r.end;
        over = r.over;
        failed = r.failed;
        before = sym (take-take n end b' i.behind) ∙ ap (take n) kept ∙ take-take n end b i.behind ∙ i.before;
        behind = omega arith;
        line = q ∙ ap (settle_of b') is ∙ seen-again b' n end r.end r.over r.failed behind;
      }

  pub line-less : ReadLine b₀ n b s → more ≡ is_more s.taken → more ≡ true → ReadOn b s.lines b' r → length b' ≡ length b → t ≡ settle_of b' r
      → reads_left b' t < reads_left b s
  line-less i m f o e q =
      let end : ℕ = i.end in
      let w = wanting b n end i.over i.failed s i.line (sym m ∙ f) in
      let was : s.lines.end ≡ end = ap (λ (x : Lines). x.end) w.lines in
      let going : s.lines.over ≡ false = ap (λ (x : Lines). x.over) w.lines in
      let to : t.lines.end ≡ r.end = ap (λ (x : Step). x.lines.end) q ∙ (settle-lines b' r).0 in
      let over : t.lines.over ≡ r.over = ap (λ (x : Step). x.lines.over) q ∙ (settle-lines b' r).1 in
      let room : end < length b = w.room in
      let longer : s.lines.end ≤ r.end = o.behind in
      by-test r.over (λ a. rw (over, a, going) (omega arith)) (λ a. let g = o.grown a in rw (over, a, going) (omega arith))

module _ (b₀ b b' : List ℕ) (n : ℕ) (l m r : Lines) (more : Option Taken) where
  pub read-on : ReadLine b₀ n b (settle_of b l) → step_of m more ≡ settle_of b l → more ≡ None → ReadOn b m b' r → ReadLine b₀ n b' (settle_of b' r)
  read-on i e z o =
      line_on b₀ b b' n (step_of m more) (settle_of b' r) r true (subst (ReadLine b₀ n b) (sym e) i) (ap is_more (sym z)) refl o refl

  pub read-less : ReadLine b₀ n b (settle_of b l) → step_of m more ≡ settle_of b l → more ≡ None → ReadOn b m b' r → length b' ≡ length b
      → reads_left b' (settle_of b' r) < reads_left b (settle_of b l)
  read-less i e z o h =
      subst (λ (s : Step). reads_left b' (settle_of b' r) < reads_left b s) e
      (line-less b₀ b b' n (step_of m more) (settle_of b' r) r true (subst (ReadLine b₀ n b) (sym e) i) (ap is_more (sym z)) refl o h refl)

module _ (b b' : List ℕ) (l : Lines) (s r : Step) (m : Bool) where
  pub next-read : (d : List ℕ) (f : Lines) → s ≡ settle_of b l → m ≡ is_more s.taken → m ≡ true → front_as d f ≡ front_of b s.lines
      → ReadLine d f.end b' r → NextLine b l b' r
  next-read d f e g h k i =
      let front : front_as d f ≡ front_of b (settle_of b l).lines = k ∙ ap (λ (x : Step). front_of b x.lines) e in
      subst (λ (x : Bool). NextBy x b l b' r) (sym (ap (λ (x : Step). is_more x.taken) (sym e) ∙ sym g ∙ h))
      (subst (λ (x : Front). ReadLine x.bytes x.lines.end b' r) front i)
