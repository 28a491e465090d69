-- The chains of required names are linked as they have to be after a start and after each pass (Linked, specs/ChainsWords.antt), so that a search finds who bears a name.
-- Assumes nothing.
use Prim.Native.Nat.{ℕ, zero, suc, ◌+◌, ◌*◌, ◌-◌, ◌/◌, ◌%◌, ◌<◌, ◌≤◌}
use Rattle.std.proofs.Common.{not-suc-le-zero, mod-lt, arith, ap, ◌∙◌, get_or-set_same}
use Rattle.std.proofs.Math.Decide.{ℕ_discrete}
use Rattle.std.specs.Prelude.{◌≡◌, Bool, not, List, ltb, set}
use Rattle.std.proofs.Math.Path.{refl, sym}
use Rattle.std.proofs.Math.Bool.{true, false, cond}
use Rattle.std.proofs.Math.Dec.{eqb}
use Rattle.std.proofs.Math.ListN.{get_or, length, length-set}
use Rattle.std.proofs.Math.Seq.{get_or-set_other}
use borrow.Author.Tests.{eqb-true, eq-eqb, ne_eqb, lt-ltb}
use Rattle.byte_slices.specs.Bytes.{same}
use Rattle.byte_slices.specs.Proof.Ways.{same_true, same_refl}
use Rattle.keyed_hash.specs.Keyed.{hash_of}
use Rattle.archive_index.specs.Rows.{required_at, member_at, next_at, head_at, queue_at, stored_name, no_heads}
use Rattle.archive_walk.specs.Names.{name_chain, along, bears_of, borne_from, chained, chain_at, headed_of, noted_of}
use Rattle.archive_laws.specs.Members.{cnt, any_below}
use Rattle.archive_laws.proofs.Counts.{clash, any-in, any_none, cnt-le, cnt-mono, cnt-less}
use Rattle.archive_laws.specs.Chains.{asked, repeats, unasked}
use Rattle.archive_laws.specs.ChainsWords.{Linked}

-- ---- entries below a number

pub any_same : (f g : ℕ → Bool) (n : ℕ) → ((j : ℕ) → j < n → f j ≡ g j) → any_below f n ≡ any_below g n
unfolding any_below
any_same f g zero h = refl
any_same f g (suc n) h = rw (h n (omega arith), any_same f g n (λ j e. h j (omega arith)))

-- f and g differ at k at most, where g holds if f does
any-change : (f g : ℕ → Bool) (k n : ℕ) → ((j : ℕ) → (j ≡ k → ⊥) → g j ≡ f j) → (f k ≡ true → g k ≡ true) → k < n → any_below g n ≡ cond (g k) true (any_below f n)
unfolding any_below
any-change f g k zero e i h = absurd (not-suc-le-zero h)
any-change f g k (suc n) e i h = at (ℕ_discrete n k) (λ q. any-change f g k n e i q)
  where
    both : (a b r : Bool) → (a ≡ true → b ≡ true) → cond b true r ≡ cond b true (cond a true r)
    both a true r w = refl
    both true false r w = clash false (w refl) refl
    both false false r w = refl

    swap : (a b r : Bool) → cond a true (cond b true r) ≡ cond b true (cond a true r)
    swap true true r = refl
    swap true false r = refl
    swap false b r = refl

    at : Dec (n ≡ k) → (k < n → any_below g n ≡ cond (g k) true (any_below f n)) → cond (g n) true (any_below g n) ≡ cond (g k) true (cond (f n) true (any_below f n))
    at (yes d) r = rw (d, any_same g f k (λ j q. e j (λ z. omega arith))) (both (f k) (g k) (any_below f k) i)
    at (no d) r = rw (e n d, r (omega arith)) (swap (f n) (g k) (any_below f n))

-- ---- entries along links

along-none : (l : List ℕ) (f : ℕ → Bool) (n : ℕ) → along l f 0 n ≡ false
unfolding along
along-none l f zero = refl
along-none l f (suc n) = refl

along-out : (l : List ℕ) (f : ℕ → Bool) (at : ℕ) → along l f at 0 ≡ false
unfolding along
along-out l f at = refl

along-top : (l : List ℕ) (f : ℕ → Bool) (k n : ℕ) → along l f (k + 1) (suc n) ≡ cond (f k) true (along l f (next_at l k) n)
unfolding along
along-top l f k n = let back : k + 1 - 1 ≡ k = omega arith in rw (ne_eqb (k + 1) 0 (λ z. omega arith), back)

-- links are followed alike where none of the entries met is one of p, and links and tests agree on the others
along-seen : (l m : List ℕ) (f g p : ℕ → Bool) → ((j : ℕ) → p j ≡ false → next_at m j ≡ next_at l j) → ((j : ℕ) → p j ≡ false → g j ≡ f j)
    → (n at : ℕ) → along l p at n ≡ false → along m g at n ≡ along l f at n
unfolding along
along-seen l m f g p a b zero at h = refl
along-seen l m f g p a b (suc n) at h = go (ℕ_discrete at 0) (λ v. along-seen l m f g p a b n (next_at l (at - 1)) v)
  where
    first : (x y : Bool) → cond x true y ≡ false → x ≡ false
    first true y z = z
    first false y z = refl

    rest : (x y : Bool) → cond x true y ≡ false → y ≡ false
    rest true y z = clash true refl z
    rest false y z = z

    go : Dec (at ≡ 0) → (along l p (next_at l (at - 1)) n ≡ false → along m g (next_at l (at - 1)) n ≡ along l f (next_at l (at - 1)) n)
        → cond (eqb at 0) false (cond (g (at - 1)) true (along m g (next_at m (at - 1)) n))
        ≡ cond (eqb at 0) false (cond (f (at - 1)) true (along l f (next_at l (at - 1)) n))
    go (yes z) w = rw (eq-eqb at 0 z)
    go (no z) w =
        let q : cond (p (at - 1)) true (along l p (next_at l (at - 1)) n) ≡ false = rw (ne_eqb at 0 z) at h in
        let u : p (at - 1) ≡ false = first (p (at - 1)) (along l p (next_at l (at - 1)) n) q in
        let v : along l p (next_at l (at - 1)) n ≡ false = rest (p (at - 1)) (along l p (next_at l (at - 1)) n) q in
        rw (a (at - 1) u, b (at - 1) u, w v)

-- more steps meet whom fewer meet
along-longer : (l : List ℕ) (f : ℕ → Bool) (n m at : ℕ) → n ≤ m → along l f at n ≡ true → along l f at m ≡ true
unfolding along
along-longer l f zero m at h e = clash false e refl
along-longer l f (suc n) zero at h e = absurd (not-suc-le-zero h)
along-longer l f (suc n) (suc m) at h e = go (eqb at 0) (f (at - 1)) e (λ q. along-longer l f n m (next_at l (at - 1)) (omega arith) q)
  where
    go : (a b : Bool) → cond a false (cond b true (along l f (next_at l (at - 1)) n)) ≡ true
        → (along l f (next_at l (at - 1)) n ≡ true → along l f (next_at l (at - 1)) m ≡ true) → cond a false (cond b true (along l f (next_at l (at - 1)) m)) ≡ true
    go true b q r = clash false q refl
    go false true q r = refl
    go false false q r = r q

repeats-none : (s l : List ℕ) (n : ℕ) → repeats s l 0 n ≡ false
unfolding repeats
repeats-none s l zero = refl
repeats-none s l (suc n) = refl

repeats-out : (s l : List ℕ) (at : ℕ) → repeats s l at 0 ≡ false
unfolding repeats
repeats-out s l at = refl

repeats-top : (s l : List ℕ) (k n : ℕ) → repeats s l (k + 1) (suc n) ≡ cond (along l (bears_of s l (member_at l k) (stored_name s l k)) (next_at l k) n) true (repeats s l (next_at l k) n)
unfolding repeats
repeats-top s l k n = let back : k + 1 - 1 ≡ k = omega arith in rw (ne_eqb (k + 1) 0 (λ z. omega arith), back)

-- as along-seen
repeats-seen : (s l m : List ℕ) (p : ℕ → Bool) → ((j : ℕ) → p j ≡ false → next_at m j ≡ next_at l j) → ((j : ℕ) → member_at m j ≡ member_at l j)
    → ((j : ℕ) → stored_name s m j ≡ stored_name s l j) → ((r : ℕ) (x : List ℕ) (j : ℕ) → p j ≡ false → bears_of s m r x j ≡ bears_of s l r x j)
    → (n at : ℕ) → along l p at n ≡ false → repeats s m at n ≡ repeats s l at n
unfolding along repeats
repeats-seen s l m p a d e b zero at h = refl
repeats-seen s l m p a d e b (suc n) at h = go (ℕ_discrete at 0) (λ v. repeats-seen s l m p a d e b n (next_at l (at - 1)) v)
  where
    first : (x y : Bool) → cond x true y ≡ false → x ≡ false
    first true y z = z
    first false y z = refl

    rest : (x y : Bool) → cond x true y ≡ false → y ≡ false
    rest true y z = clash true refl z
    rest false y z = z

    go : Dec (at ≡ 0) → (along l p (next_at l (at - 1)) n ≡ false → repeats s m (next_at l (at - 1)) n ≡ repeats s l (next_at l (at - 1)) n)
        → cond (eqb at 0) false (cond (along m (bears_of s m (member_at m (at - 1)) (stored_name s m (at - 1))) (next_at m (at - 1)) n) true (repeats s m (next_at m (at - 1)) n))
        ≡ cond (eqb at 0) false (cond (along l (bears_of s l (member_at l (at - 1)) (stored_name s l (at - 1))) (next_at l (at - 1)) n) true (repeats s l (next_at l (at - 1)) n))
    go (yes z) w = rw (eq-eqb at 0 z)
    go (no z) w =
        let q : cond (p (at - 1)) true (along l p (next_at l (at - 1)) n) ≡ false = rw (ne_eqb at 0 z) at h in
        let u : p (at - 1) ≡ false = first (p (at - 1)) (along l p (next_at l (at - 1)) n) q in
        let v : along l p (next_at l (at - 1)) n ≡ false = rest (p (at - 1)) (along l p (next_at l (at - 1)) n) q in
        let r : ℕ = member_at l (at - 1) in
        let x : List ℕ = stored_name s l (at - 1) in
        rw (a (at - 1) u, d (at - 1), e (at - 1), w v, along-seen l m (bears_of s l r x) (bears_of s m r x) p a (b r x) n (next_at l (at - 1)) v)

asked-one : (l : List ℕ) (j : ℕ) → unasked l j ≡ false → required_at l j ≡ 1
asked-one l j h = eqb-true (required_at l j) 1 (go (asked l j) h)
  where
    go : (b : Bool) → not b ≡ false → b ≡ true
    go true z = refl
    go false z = clash true refl z

one-asked : (l : List ℕ) (j : ℕ) → required_at l j ≡ 1 → unasked l j ≡ false
one-asked l j h = rw (eq-eqb (required_at l j) 1 h)

module _ (key : ℕ) (s : List ℕ) (c : ℕ) where
  chain-low : 0 < c → (r : ℕ) (x : List ℕ) → name_chain key c r x < c
  unfolding name_chain
  chain-low h r x = rw (ne_eqb c 0 (λ e. omega arith)) (mod-lt (hash_of key x + r % 0x100000000) h)

  -- a name is found in its chain just if a marked entry of the member bears it
  pub chained-is : (l : List ℕ) → Linked key s c l → c * 8 ≤ length l → 0 < c → (r : ℕ) (x : List ℕ) → chained key c s l r x ≡ any_below (bears_of s l r x) c
  unfolding chained borne_from
  chained-is l y room h r x = y.all h r x (length l / 8) (omega (arith, cnt-le (asked l) c))

  -- cells 0 to 5 of every row are as they were: so are the chains
  pub linked-kept : (l m : List ℕ) → ((j g : ℕ) → g < 6 → get_or m (j * 8 + g) 0 ≡ get_or l (j * 8 + g) 0) → Linked key s c l → Linked key s c m
  unfolding bears_of
  linked-kept l m e y = record {
    only = λ b g n. rw (e b 3 (omega arith)) (along-seen l m (unasked l) (unasked m) (unasked l) (λ j p. next j) (λ j p. rw (mark j)) n (head_at l b) (y.only b g n) ∙ y.only b g n);
    apart = λ b g n.
        rw (e b 3 (omega arith))
        (repeats-seen s l m (unasked l) (λ j p. next j) (λ j. e j 1 (omega arith)) (λ j. rw (e j 4 (omega arith), e j 5 (omega arith))) (λ r x j p. bears r x j) n (head_at l b) (y.only b g n) ∙ y.apart b g n);
    all = λ h r x n i.
        rw (e (name_chain key c r x) 3 (omega arith))
        (along-seen l m (bears_of s l r x) (bears_of s m r x) (unasked l) (λ j p. next j) (λ j p. bears r x j) n (head_at l (name_chain key c r x)) (y.only (name_chain key c r x) (chain-low h r x) n)
        ∙ y.all h r x n (omega (arith, i, count)) ∙ any_same (bears_of s l r x) (bears_of s m r x) c (λ j g. sym (bears r x j)));
  }
    where
      next : (j : ℕ) → next_at m j ≡ next_at l j
      next j = e j 2 (omega arith)

      mark : (j : ℕ) → required_at m j ≡ required_at l j
      mark j = e j 0 (omega arith)

      count : cnt (asked l) c ≤ cnt (asked m) c
      count = cnt-mono (asked l) (asked m) c (λ j g z. rw (mark j) z)

      bears : (r : ℕ) (x : List ℕ) (j : ℕ) → bears_of s m r x j ≡ bears_of s l r x j
      bears r x j = rw (mark j, e j 1 (omega arith), e j 4 (omega arith), e j 5 (omega arith))

  -- ---- entry k is marked

  -- what else is as it was: members, names, and the links of those chained before
  record Marked (k : ℕ) (l t : List ℕ) : Type 0 where
    here : required_at t k ≡ 1
    there : (j : ℕ) → (j ≡ k → ⊥) → required_at t j ≡ required_at l j
    member : (j : ℕ) → member_at t j ≡ member_at l j
    name : (j : ℕ) → stored_name s t j ≡ stored_name s l j
    next : (j : ℕ) → unasked l j ≡ false → next_at t j ≡ next_at l j

  module _ (k : ℕ) (l t : List ℕ) (h : k < c) (y : Linked key s c l) (m : Marked k l t) where
    mark-stays : (j : ℕ) → unasked l j ≡ false → required_at t j ≡ required_at l j
    mark-stays j p = go (ℕ_discrete j k)
      where
        go : Dec (j ≡ k) → required_at t j ≡ required_at l j
        go (yes d) = let one : required_at l k ≡ 1 = rw d at (asked-one l j p) in rw d (m.here ∙ sym one)
        go (no d) = m.there j d

    bears-stays : (r : ℕ) (x : List ℕ) (j : ℕ) → required_at t j ≡ required_at l j → bears_of s t r x j ≡ bears_of s l r x j
    unfolding bears_of
    bears-stays r x j e = rw (e, m.member j, m.name j)

    only-stays : (b : ℕ) → b < c → (n : ℕ) → along t (unasked t) (head_at l b) n ≡ false
    only-stays b g n = along-seen l t (unasked l) (unasked t) (unasked l) m.next (λ j p. rw (mark-stays j p)) n (head_at l b) (y.only b g n) ∙ y.only b g n

    apart-stays : (b : ℕ) → b < c → (n : ℕ) → repeats s t (head_at l b) n ≡ false
    apart-stays b g n =
        repeats-seen s l t (unasked l) m.next m.member m.name (λ r x j q. bears-stays r x j (mark-stays j q)) n (head_at l b) (y.only b g n) ∙ y.apart b g n

    found-stays : 0 < c → (r : ℕ) (x : List ℕ) (n : ℕ) → cnt (asked l) c ≤ n → along t (bears_of s t r x) (head_at l (name_chain key c r x)) n ≡ any_below (bears_of s l r x) c
    found-stays p r x n i =
        along-seen l t (bears_of s l r x) (bears_of s t r x) (unasked l) m.next (λ j q. bears-stays r x j (mark-stays j q)) n (head_at l (name_chain key c r x)) (y.only (name_chain key c r x) (chain-low p r x) n)
        ∙ y.all p r x n i

    -- marked entries stay marked
    more : (j : ℕ) → j < c → asked l j ≡ true → asked t j ≡ true
    more j g e = rw (mark-stays j (one-asked l j (eqb-true (required_at l j) 1 e))) e

    still : (r : ℕ) (x : List ℕ) → bears_of s l r x k ≡ true → bears_of s t r x k ≡ true
    unfolding bears_of
    still r x = go (asked l k) refl
      where
        go : (b : Bool) → asked l k ≡ b → cond b (cond (eqb (member_at l k) r) (same (stored_name s l k) x) false) false ≡ true
            → cond (asked t k) (cond (eqb (member_at t k) r) (same (stored_name s t k) x) false) false ≡ true
        go true e z = rw (eq-eqb (required_at t k) 1 m.here, m.member k, m.name k) z
        go false e z = clash false z refl

    -- one more may bear a name: entry k
    one_more : (r : ℕ) (x : List ℕ) → any_below (bears_of s t r x) c ≡ cond (bears_of s t r x k) true (any_below (bears_of s l r x) c)
    one_more r x = any-change (bears_of s l r x) (bears_of s t r x) k c (λ j d. bears-stays r x j (m.there j d)) (still r x) h

    -- its own name of its own member
    own : (r : ℕ) (x : List ℕ) → bears_of s t r x k ≡ true → (member_at l k ≡ r) × (stored_name s l k ≡ x)
    unfolding bears_of
    own r x z = go (eqb (member_at t k) r) (same (stored_name s t k) x) refl refl (rw (eq-eqb (required_at t k) 1 m.here) at z)
      where
        go : (a b : Bool) → eqb (member_at t k) r ≡ a → same (stored_name s t k) x ≡ b → cond a b false ≡ true → (member_at l k ≡ r) × (stored_name s l k ≡ x)
        go false b p q w = clash false w refl
        go true false p q w = clash false w refl
        go true true p q w = (sym (m.member k) ∙ eqb-true (member_at t k) r p, sym (m.name k) ∙ same_true (stored_name s t k) x q)

  module _ (k : ℕ) (l : List ℕ) where
    abbrev r₀ : ℕ
    r₀ = member_at l k

    abbrev x₀ : List ℕ
    x₀ = stored_name s l k

    abbrev b₀ : ℕ
    b₀ = chain_at key c s l k

    abbrev a : List ℕ
    a = set l (k * 8 + 0) 1

    abbrev m : List ℕ
    m = set a (k * 8 + 2) (head_at l b₀)

    abbrev t : List ℕ
    t = set m (b₀ * 8 + 3) (k + 1)

    a-field : (j g : ℕ) → g < 8 → (g ≡ 0 → ⊥) → get_or a (j * 8 + g) 0 ≡ get_or l (j * 8 + g) 0
    a-field j g h z = get_or-set_other l (k * 8 + 0) (j * 8 + g) 1 0 (λ e. z (omega arith))

    t-field : (j g : ℕ) → g < 8 → (g ≡ 2 → ⊥) → (g ≡ 3 → ⊥) → get_or t (j * 8 + g) 0 ≡ get_or a (j * 8 + g) 0
    t-field j g h p q =
        get_or-set_other m (b₀ * 8 + 3) (j * 8 + g) (k + 1) 0 (λ e. q (omega arith)) ∙ get_or-set_other a (k * 8 + 2) (j * 8 + g) (head_at l b₀) 0 (λ e. p (omega arith))

    t-length : length t ≡ length l
    t-length = length-set m (b₀ * 8 + 3) (k + 1) ∙ length-set a (k * 8 + 2) (head_at l b₀) ∙ length-set l (k * 8 + 0) 1

    -- neither the mark nor a chain: every other field
    pub noted-field : (j g : ℕ) → g < 8 → (g ≡ 0 → ⊥) → (g ≡ 2 → ⊥) → (g ≡ 3 → ⊥) → get_or (noted_of key c s l k) (j * 8 + g) 0 ≡ get_or l (j * 8 + g) 0
    unfolding noted_of headed_of
    noted-field j g h p q z = go (chained key c s l r₀ x₀) (ltb k (length l / 8))
      where
        go : (b f : Bool) → get_or (cond b a (cond f t a)) (j * 8 + g) 0 ≡ get_or l (j * 8 + g) 0
        go true f = a-field j g h p
        go false true = t-field j g h q z ∙ a-field j g h p
        go false false = a-field j g h p

    pub noted-length : length (noted_of key c s l k) ≡ length l
    unfolding noted_of headed_of
    noted-length = go (chained key c s l r₀ x₀) (ltb k (length l / 8))
      where
        go : (b f : Bool) → length (cond b a (cond f t a)) ≡ length l
        go true f = length-set l (k * 8 + 0) 1
        go false true = t-length
        go false false = length-set l (k * 8 + 0) 1

    pub noted-there : (j : ℕ) → (j ≡ k → ⊥) → required_at (noted_of key c s l k) j ≡ required_at l j
    unfolding noted_of headed_of
    noted-there j d = go (chained key c s l r₀ x₀) (ltb k (length l / 8))
      where
        first : required_at a j ≡ required_at l j
        first = get_or-set_other l (k * 8 + 0) (j * 8 + 0) 1 0 (λ e. d (omega arith))

        go : (b f : Bool) → required_at (cond b a (cond f t a)) j ≡ required_at l j
        go true f = first
        go false true = t-field j 0 (omega arith) (λ e. omega arith) (λ e. omega arith) ∙ first
        go false false = first

    module _ (room : c * 8 ≤ length l) (h : k < c) where
      a-here : required_at a k ≡ 1
      a-here = get_or-set_same l (k * 8 + 0) 1 0 (omega arith)

      pub noted_here : required_at (noted_of key c s l k) k ≡ 1
      unfolding noted_of headed_of
      noted_here = go (chained key c s l r₀ x₀) (ltb k (length l / 8))
        where
          go : (b f : Bool) → required_at (cond b a (cond f t a)) k ≡ 1
          go true f = a-here
          go false true = t-field k 0 (omega arith) (λ e. omega arith) (λ e. omega arith) ∙ a-here
          go false false = a-here

      some : 0 < c
      some = omega arith

      low₀ : b₀ < c
      low₀ = chain-low some r₀ x₀

      bears-own : required_at l k ≡ 1 → bears_of s l r₀ x₀ k ≡ true
      unfolding bears_of
      bears-own e = rw (eq-eqb (required_at l k) 1 e, eq-eqb r₀ r₀ refl) (same_refl x₀)

      module _ (y : Linked key s c l) where
        -- the chain has the name of another entry: only the mark is set
        known : chained key c s l r₀ x₀ ≡ true → Linked key s c a
        known e = record {
          only = λ b g n. rw (a-field b 3 (omega arith) (λ z. omega arith)) (only-stays k l a h y marks b g n);
          apart = λ b g n. rw (a-field b 3 (omega arith) (λ z. omega arith)) (apart-stays k l a h y marks b g n);
          all = λ p r x n i.
              rw (a-field (name_chain key c r x) 3 (omega arith) (λ z. omega arith))
              (found-stays k l a h y marks p r x n (omega (arith, i, cnt-mono (asked l) (asked a) c (more k l a h y marks)))
              ∙ sym (one_more k l a h y marks r x ∙ again r x (bears_of s a r x k) refl));
        }
          where
            marks : Marked k l a
            marks = record {
              here = a-here;
              there = λ j d. get_or-set_other l (k * 8 + 0) (j * 8 + 0) 1 0 (λ z. d (omega arith));
              member = λ j. a-field j 1 (omega arith) (λ z. omega arith);
              name = λ j. rw (a-field j 4 (omega arith) (λ z. omega arith), a-field j 5 (omega arith) (λ z. omega arith));
              next = λ j p. a-field j 2 (omega arith) (λ z. omega arith);
            }

            again : (r : ℕ) (x : List ℕ) (b : Bool) → bears_of s a r x k ≡ b → cond b true (any_below (bears_of s l r x) c) ≡ any_below (bears_of s l r x) c
            again r x false z = refl
            again r x true z =
                let o = own k l a h y marks r x z in
                let held : any_below (bears_of s l r₀ x₀) c ≡ true = sym (chained-is l y room some r₀ x₀) ∙ e in
                sym (rw (o.0, o.1) at held)

        -- it hasn't: the entry goes to the head
        fresh : chained key c s l r₀ x₀ ≡ false → Linked key s c t
        fresh e = record {
          only = λ b g n. only b g n (ℕ_discrete b b₀);
          apart = λ b g n. apart b g n (ℕ_discrete b b₀);
          all = λ p r x n i. all p r x n i (ℕ_discrete (name_chain key c r x) b₀);
        }
          where
            missing : any_below (bears_of s l r₀ x₀) c ≡ false
            missing = sym (chained-is l y room some r₀ x₀) ∙ e

            -- or it would bear its own name
            new : unasked l k ≡ false → ⊥
            new p = clash (any_below (bears_of s l r₀ x₀) c) (any-in (bears_of s l r₀ x₀) c k h (bears-own (asked-one l k p))) missing

            own-next : next_at t k ≡ head_at l b₀
            own-next =
                get_or-set_other m (b₀ * 8 + 3) (k * 8 + 2) (k + 1) 0 (λ z. omega arith)
                ∙ get_or-set_same a (k * 8 + 2) (head_at l b₀) 0 (omega (arith, length-set l (k * 8 + 0) 1))

            other-next : (j : ℕ) → (j ≡ k → ⊥) → next_at t j ≡ next_at l j
            other-next j d =
                get_or-set_other m (b₀ * 8 + 3) (j * 8 + 2) (k + 1) 0 (λ z. omega arith) ∙ get_or-set_other a (k * 8 + 2) (j * 8 + 2) (head_at l b₀) 0 (λ z. d (omega arith))
                ∙ a-field j 2 (omega arith) (λ z. omega arith)

            top : head_at t b₀ ≡ k + 1
            top = get_or-set_same m (b₀ * 8 + 3) (k + 1) 0 (omega (arith, low₀, length-set a (k * 8 + 2) (head_at l b₀), length-set l (k * 8 + 0) 1))

            other-head : (b : ℕ) → (b ≡ b₀ → ⊥) → head_at t b ≡ head_at l b
            other-head b d =
                get_or-set_other m (b₀ * 8 + 3) (b * 8 + 3) (k + 1) 0 (λ z. d (omega arith)) ∙ get_or-set_other a (k * 8 + 2) (b * 8 + 3) (head_at l b₀) 0 (λ z. omega arith)
                ∙ a-field b 3 (omega arith) (λ z. omega arith)

            here : required_at t k ≡ 1
            here = t-field k 0 (omega arith) (λ z. omega arith) (λ z. omega arith) ∙ a-here

            marks : Marked k l t
            marks = record {
              here = here;
              there = λ j d. t-field j 0 (omega arith) (λ z. omega arith) (λ z. omega arith) ∙ get_or-set_other l (k * 8 + 0) (j * 8 + 0) 1 0 (λ z. d (omega arith));
              member = λ j. t-field j 1 (omega arith) (λ z. omega arith) (λ z. omega arith) ∙ a-field j 1 (omega arith) (λ z. omega arith);
              name = λ j.
                  rw (t-field j 4 (omega arith) (λ z. omega arith) (λ z. omega arith), t-field j 5 (omega arith) (λ z. omega arith) (λ z. omega arith), a-field j 4 (omega arith) (λ z. omega arith), a-field j 5 (omega arith) (λ z. omega arith));
              next = λ j p. other-next j (λ d. new (rw d at p));
            }

            only : (b : ℕ) → b < c → (n : ℕ) → Dec (b ≡ b₀) → along t (unasked t) (head_at t b) n ≡ false
            only b g zero d = along-out t (unasked t) (head_at t b)
            only b g (suc n) (yes d) = rw (d, top, along-top t (unasked t) k n, one-asked t k here, own-next) (only-stays k l t h y marks b₀ low₀ n)
            only b g (suc n) (no d) = rw (other-head b d) (only-stays k l t h y marks b g (suc n))

            -- nobody in the chain is of the entry's member and name, however few steps are taken
            alone : (n : ℕ) → along t (bears_of s t r₀ x₀) (head_at l b₀) n ≡ false
            alone n = go (along t (bears_of s t r₀ x₀) (head_at l b₀) n) refl
              where
                go : (b : Bool) → along t (bears_of s t r₀ x₀) (head_at l b₀) n ≡ b → along t (bears_of s t r₀ x₀) (head_at l b₀) n ≡ false
                go false z = z
                go true z =
                    clash (along t (bears_of s t r₀ x₀) (head_at l b₀) (n + c)) (along-longer t (bears_of s t r₀ x₀) n (n + c) (head_at l b₀) (omega arith) z)
                    (found-stays k l t h y marks some r₀ x₀ (n + c) (omega (arith, cnt-le (asked l) c)) ∙ missing)

            apart : (b : ℕ) → b < c → (n : ℕ) → Dec (b ≡ b₀) → repeats s t (head_at t b) n ≡ false
            apart b g zero d = repeats-out s t (head_at t b)
            apart b g (suc n) (yes d) = rw (d, top, repeats-top s t k n, own-next, marks.member k, marks.name k, alone n) (apart-stays k l t h y marks b₀ low₀ n)
            apart b g (suc n) (no d) = rw (other-head b d) (apart-stays k l t h y marks b g (suc n))

            counted : suc (cnt (asked l) c) ≤ cnt (asked t) c
            counted = cnt-less (asked l) (asked t) c k (more k l t h y marks) h (go (asked l k) refl) (eq-eqb (required_at t k) 1 here)
              where
                go : (b : Bool) → asked l k ≡ b → asked l k ≡ false
                go false z = z
                go true z = absurd (new (one-asked l k (eqb-true (required_at l k) 1 z)))

            all : 0 < c → (r : ℕ) (x : List ℕ) (n : ℕ) → cnt (asked t) c ≤ n → Dec (name_chain key c r x ≡ b₀)
                → along t (bears_of s t r x) (head_at t (name_chain key c r x)) n ≡ any_below (bears_of s t r x) c
            all p r x zero i d = absurd (omega (arith, i, counted))
            all p r x (suc n) i (yes d) =
                rw (d, top, along-top t (bears_of s t r x) k n, own-next)
                (ap (λ (q : Bool). cond (bears_of s t r x k) true q) (ap (λ (q : ℕ). along t (bears_of s t r x) (head_at l q) n) (sym d) ∙ found-stays k l t h y marks p r x n (omega (arith, i, counted)))
                ∙ sym (one_more k l t h y marks r x))
            all p r x (suc n) i (no d) =
                rw (other-head (name_chain key c r x) d)
                (found-stays k l t h y marks p r x (suc n) (omega (arith, i, counted)) ∙ sym (one_more k l t h y marks r x ∙ none (bears_of s t r x k) refl))
              where
                none : (b : Bool) → bears_of s t r x k ≡ b → cond b true (any_below (bears_of s l r x) c) ≡ any_below (bears_of s l r x) c
                none false z = refl
                none true z = let o = own k l t h y marks r x z in absurd (d (sym (rw (o.0, o.1))))

        pub noted-linked : Linked key s c (noted_of key c s l k)
        unfolding noted_of headed_of
        noted-linked = go (chained key c s l r₀ x₀) refl
          where
            go : (b : Bool) → chained key c s l r₀ x₀ ≡ b → Linked key s c (cond b a (cond (ltb k (length l / 8)) t a))
            go true e = known e
            go false e = rw (lt-ltb k (length l / 8) (omega arith)) (fresh e)

  -- ---- a start: no chain has an entry

  pub heads-length : (n : ℕ) (l : List ℕ) → length (no_heads n l) ≡ length l
  unfolding no_heads
  heads-length zero l = refl
  heads-length (suc n) l = length-set (set (no_heads n l) (n * 8 + 3) 0) (n * 8 + 7) 0 ∙ length-set (no_heads n l) (n * 8 + 3) 0 ∙ heads-length n l

  pub heads-field : (n : ℕ) (l : List ℕ) (j g : ℕ) → g < 7 → (g ≡ 3 → ⊥) → get_or (no_heads n l) (j * 8 + g) 0 ≡ get_or l (j * 8 + g) 0
  unfolding no_heads
  heads-field zero l j g h e = refl
  heads-field (suc n) l j g h e =
      get_or-set_other (set (no_heads n l) (n * 8 + 3) 0) (n * 8 + 7) (j * 8 + g) 0 0 (λ z. omega (arith, z))
      ∙ get_or-set_other (no_heads n l) (n * 8 + 3) (j * 8 + g) 0 0 (λ z. e (omega arith)) ∙ heads-field n l j g h e

  heads-none : (n : ℕ) (l : List ℕ) → n * 8 ≤ length l → (b : ℕ) → b < n → head_at (no_heads n l) b ≡ 0
  unfolding no_heads
  heads-none zero l r b h = absurd (not-suc-le-zero h)
  heads-none (suc n) l r b h =
      get_or-set_other (set (no_heads n l) (n * 8 + 3) 0) (n * 8 + 7) (b * 8 + 3) 0 0 (λ z. omega (arith, z))
      ∙ go (ℕ_discrete b n) (λ i. heads-none n l (omega arith) b i)
    where
      go : Dec (b ≡ n) → (b < n → head_at (no_heads n l) b ≡ 0) → get_or (set (no_heads n l) (n * 8 + 3) 0) (b * 8 + 3) 0 ≡ 0
      go (yes e) i = rw e (get_or-set_same (no_heads n l) (n * 8 + 3) 0 0 (omega (arith, heads-length n l)))
      go (no e) i = get_or-set_other (no_heads n l) (n * 8 + 3) (b * 8 + 3) 0 0 (λ z. e (omega arith)) ∙ i (omega arith)

  -- nor has a place of the queue
  pub queue-none : (n : ℕ) (l : List ℕ) → n * 8 ≤ length l → (b : ℕ) → b < n → queue_at (no_heads n l) b ≡ 0
  unfolding no_heads
  queue-none zero l r b h = absurd (not-suc-le-zero h)
  queue-none (suc n) l r b h = go (ℕ_discrete b n) (λ i. queue-none n l (omega arith) b i)
    where
      go : Dec (b ≡ n) → (b < n → queue_at (no_heads n l) b ≡ 0) → get_or (set (set (no_heads n l) (n * 8 + 3) 0) (n * 8 + 7) 0) (b * 8 + 7) 0 ≡ 0
      go (yes e) i =
          rw e
          (get_or-set_same (set (no_heads n l) (n * 8 + 3) 0) (n * 8 + 7) 0 0
          (omega (arith, heads-length n l, length-set (no_heads n l) (n * 8 + 3) 0)))
      go (no e) i =
          get_or-set_other (set (no_heads n l) (n * 8 + 3) 0) (n * 8 + 7) (b * 8 + 7) 0 0 (λ z. e (omega arith))
          ∙ get_or-set_other (no_heads n l) (n * 8 + 3) (b * 8 + 7) 0 0 (λ z. omega (arith, z)) ∙ i (omega arith)

  module _ (l : List ℕ) (room : c * 8 ≤ length l) (unmarked : (j : ℕ) → j < c → required_at l j ≡ 0) where
    nobody : (r : ℕ) (x : List ℕ) (j : ℕ) → j < c → bears_of s (no_heads c l) r x j ≡ false
    unfolding bears_of
    nobody r x j g =
        let zero : required_at (no_heads c l) j ≡ 0 = heads-field c l j 0 (omega arith) (λ z. omega arith) ∙ unmarked j g in
        rw (ne_eqb (required_at (no_heads c l) j) 1 (λ z. omega (arith, z, zero)))

    pub none-linked : Linked key s c (no_heads c l)
    none-linked = record {
      only = λ b g n. rw (heads-none c l room b g) (along-none (no_heads c l) (unasked (no_heads c l)) n);
      apart = λ b g n. rw (heads-none c l room b g) (repeats-none s (no_heads c l) n);
      all = λ p r x n i.
          rw (heads-none c l room (name_chain key c r x) (chain-low p r x))
          (along-none (no_heads c l) (bears_of s (no_heads c l) r x) n ∙ sym (any_none (bears_of s (no_heads c l) r x) c (nobody r x)));
    }
