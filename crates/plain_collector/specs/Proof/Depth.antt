-- A visit leaves no more sections unvisited than before; and any bound on the depth that isn't below their number gives the same.
-- Assumes nothing.
use Rattle.link.specs.declared.SectionId.{SectionId}
use Prim.Native.Nat.{ℕ, zero, suc, ◌+◌, ◌-◌, ◌<◌, ◌≤◌}
use Rattle.std.proofs.Math.Decide.{ℕ_discrete}
use Rattle.std.proofs.Common.{not-suc-le-zero, arith, sym, ◌∙◌, eqb-true, leb-false, length-set, get_or-set_same, get_or-set_other}
use Rattle.std.specs.Prelude.{◌≡◌, Bool, true, false, cond, List, eqb, leb, get_or, set, length, Option, None, Some}
use Rattle.std.proofs.Math.Path.{refl, ap}
use Rattle.cells.specs.Proof.Split.{by-test}
use Rattle.byte_slices.specs.Proof.Ways.{apart}
use Rattle.link.specs.declared.Link.{Link}
use Rattle.sections.specs.Rows.{first_at, count_at, is_built}
use Rattle.gc_sections.specs.Each.{each}
use Rattle.gc_sections.specs.Roots.{section_id}
use Rattle.gc_sections.specs.Reach.{lower_of, end_of}
use Rattle.plain_collector.specs.Visit.{Visited, visited_of, unvisited, target_of, enter, enter_lead, visit_of}

-- ---- a section that is marked

unvisited-past : (n : ℕ) (w : List ℕ) (k v : ℕ) → n ≤ k → unvisited n (set w k v) ≡ unvisited n w
unfolding unvisited
unvisited-past zero w k v h = refl
unvisited-past (suc n) w k v h = rw (unvisited-past n w k v (omega arith), get_or-set_other w k n v 0 (λ e. omega arith))

pub unvisited-set : (n : ℕ) (w : List ℕ) (y : ℕ) → y < n → y < length w → get_or w y 0 ≡ 0 → suc (unvisited n (set w y 1)) ≡ unvisited n w
unfolding unvisited
unvisited-set zero w y h g z = absurd (not-suc-le-zero h)
unvisited-set (suc n) w y h g z = go (λ k. unvisited-set n w y k g z) (ℕ_discrete y n)
  where
    go : (y < n → suc (unvisited n (set w y 1)) ≡ unvisited n w) → Dec (y ≡ n)
        → suc (unvisited n (set w y 1) + cond (eqb (get_or (set w y 1) n 0) 0) 1 0) ≡ unvisited n w + cond (eqb (get_or w n 0) 0) 1 0
    go r (yes e) =
        let a : get_or (set w y 1) n 0 ≡ 1 = rw (← e) (get_or-set_same w y 1 0 g) in
        let b : get_or w n 0 ≡ 0 = rw (← e) z in
        rw (a, b, unvisited-past n w y 1 (omega arith)) (omega arith)
    go r (no ne) = rw (get_or-set_other w y n 1 0 (λ e. ne (sym e)), ← r (omega arith)) (omega arith)

pub built-below : (sections : List ℕ) (n y : ℕ) → is_built sections n y ≡ true → y < n
unfolding is_built
built-below sections n y e = by-test (leb n y) (λ t. absurd (apart (rw t at e))) (λ t. leb-false _ _ t)

pub built-falls : (sections : List ℕ) (n : ℕ) (w : List ℕ) (y : ℕ) → n ≤ length w → is_built sections n y ≡ true → get_or w y 0 ≡ 0
    → suc (unvisited n (set w y 1)) ≡ unvisited n w
built-falls sections n w y h b z = let k = built-below sections n y b in unvisited-set n w y k (omega arith) z

module _ (l : Link) (symbols sections lists : List ℕ) where
  abbrev n : ℕ
  n = l.sections

  abbrev visit_to : ℕ → Option SectionId → Visited → Visited
  visit_to = visit_of l symbols sections lists

  abbrev pub relocation_to : ℕ → ℕ → Visited → Visited
  relocation_to depth j s = visit_of l symbols sections lists depth (target_of l symbols lists j) s

  abbrev through : ℕ → ℕ → Visited → Visited
  through depth y s = each (relocation_to depth) (end_of l.lists (first_at sections y) (count_at sections y) - first_at sections y) (first_at sections y) s

  -- what follows a section's mark
  abbrev pub follow : ℕ → ℕ → Visited → Visited
  follow zero y s = s
  follow (suc depth) y s = through depth y s

  pub visit-is : (depth : ℕ) (k : Option SectionId) (s : Visited) → visit_to depth k s ≡ enter_lead sections n (follow depth) k s
  unfolding visit_of
  visit-is zero k s = refl
  visit-is (suc depth) k s = refl

  -- ---- no more are unvisited

  abbrev pub Less : Visited → Visited → Type 0
  Less s t = (length t.work ≡ length s.work) × (unvisited n t.work ≤ unvisited n s.work)

  abbrev Lessens : (Visited → Visited) → Type 0
  Lessens f = (s : Visited) → n ≤ length s.work → Less s (f s)

  pub each-less : (f : ℕ → Visited → Visited) → ((j : ℕ) → Lessens (f j)) → (k i : ℕ) → Lessens (each f k i)
  unfolding each
  each-less f one zero i s h = (refl, omega arith)
  each-less f one (suc k) i s h =
      let a = one i s h in
      let b = each-less f one k (i + 1) (f i s) (omega (arith, a.0)) in
      (b.0 ∙ a.0, omega (arith, a.1, b.1))

  enter-less : (g : ℕ → Visited → Visited) → ((y : ℕ) → Lessens (g y)) → (y : ℕ) → Lessens (enter sections n g y)
  enter-less g more y s h = go (is_built sections n y) (eqb (get_or s.work y 0) 0) refl refl
    where
      marked : Visited
      marked = visited_of (set s.work y 1) s.unbuilt

      go : (b c : Bool) → is_built sections n y ≡ b → eqb (get_or s.work y 0) 0 ≡ c
          → Less s (cond b (cond c (g y marked) s) (visited_of s.work (lower_of s.unbuilt (section_id y))))
      go true true e d =
          let long = length-set s.work y 1 in
          let a = more y marked (omega (arith, long)) in
          (a.0 ∙ long, omega (arith, a.1, built-falls sections n s.work y h e (eqb-true _ _ d)))
      go true false e d = (refl, omega arith)
      go false c e d = (refl, omega arith)

  lead-less : (g : ℕ → Visited → Visited) → ((y : ℕ) → Lessens (g y)) → (k : Option SectionId) → Lessens (enter_lead sections n g k)
  lead-less g more None s h = (refl, omega arith)
  lead-less g more (Some id) s h = enter-less g more id.0 s h

  pub visit-less : (depth : ℕ) (k : Option SectionId) → Lessens (visit_to depth k)
  visit-less zero k s h = rw (visit-is zero k s) (lead-less (follow zero) (λ y t i. (refl, omega arith)) k s h)
  visit-less (suc depth) k s h =
      rw (visit-is (suc depth) k s)
      (lead-less (follow (suc depth)) (λ y t i. each-less (relocation_to depth) (λ j. visit-less depth (target_of l symbols lists j)) _ _ t i) k s h)

  -- ---- depths

  abbrev Alike : (Visited → Visited) → (Visited → Visited) → ℕ → ℕ → Type 0
  Alike f g a b = (s : Visited) → n ≤ length s.work → unvisited n s.work ≤ a → unvisited n s.work ≤ b → f s ≡ g s

  each-alike : (a b : ℕ) (f g : ℕ → Visited → Visited) → ((j : ℕ) → Lessens (f j)) → ((j : ℕ) → Alike (f j) (g j) a b) → (k i : ℕ) → Alike (each f k i) (each g k i) a b
  unfolding each
  each-alike a b f g less one zero i s h p q = refl
  each-alike a b f g less one (suc k) i s h p q =
      let c = less i s h in
      each-alike a b f g less one k (i + 1) (f i s) (omega (arith, c.0)) (omega (arith, c.1)) (omega (arith, c.1))
      ∙ ap (each g k (i + 1)) (one i s h p q)

  enter-alike : (a b : ℕ) (f g : ℕ → Visited → Visited)
      → ((y : ℕ) (s : Visited) → n ≤ length s.work → suc (unvisited n s.work) ≤ a → suc (unvisited n s.work) ≤ b → f y s ≡ g y s)
      → (y : ℕ) → Alike (enter sections n f y) (enter sections n g y) a b
  enter-alike a b f g one y s h p q = go (is_built sections n y) (eqb (get_or s.work y 0) 0) refl refl
    where
      marked : Visited
      marked = visited_of (set s.work y 1) s.unbuilt

      go : (c d : Bool) → is_built sections n y ≡ c → eqb (get_or s.work y 0) 0 ≡ d
          → cond c (cond d (f y marked) s) (visited_of s.work (lower_of s.unbuilt (section_id y)))
          ≡ cond c (cond d (g y marked) s) (visited_of s.work (lower_of s.unbuilt (section_id y)))
      go true true e z =
          let u = built-falls sections n s.work y h e (eqb-true _ _ z) in
          one y marked (omega (arith, length-set s.work y 1)) (omega arith) (omega arith)
      go true false e z = refl
      go false d e z = refl

  lead-alike : (a b : ℕ) (f g : ℕ → Visited → Visited)
      → ((y : ℕ) (s : Visited) → n ≤ length s.work → suc (unvisited n s.work) ≤ a → suc (unvisited n s.work) ≤ b → f y s ≡ g y s)
      → (k : Option SectionId) → Alike (enter_lead sections n f k) (enter_lead sections n g k) a b
  lead-alike a b f g one None s h p q = refl
  lead-alike a b f g one (Some id) s h p q = enter-alike a b f g one id.0 s h p q

  alike : (a b : ℕ) (k : Option SectionId)
      → ((y : ℕ) (s : Visited) → n ≤ length s.work → suc (unvisited n s.work) ≤ a → suc (unvisited n s.work) ≤ b → follow a y s ≡ follow b y s)
      → Alike (visit_to a k) (visit_to b k) a b
  alike a b k one s h p q = visit-is a k s ∙ lead-alike a b (follow a) (follow b) one k s h p q ∙ sym (visit-is b k s)

  pub depths : (a b : ℕ) (k : Option SectionId) → Alike (visit_to a k) (visit_to b k) a b
  depths zero b k = alike zero b k (λ y s h p q. absurd (not-suc-le-zero p))
  depths (suc a) zero k = alike (suc a) zero k (λ y s h p q. absurd (not-suc-le-zero q))
  depths (suc a) (suc b) k =
      alike (suc a) (suc b) k
      (λ y s h p q.
      each-alike a b (relocation_to a) (relocation_to b) (λ j. visit-less a (target_of l symbols lists j)) (λ j. depths a b (target_of l symbols lists j)) _ _ s h (omega arith) (omega arith))
