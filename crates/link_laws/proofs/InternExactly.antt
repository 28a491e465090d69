-- Of `intern`: the answer is that of the first rule that holds, over names as every link has them.
-- Assumes nothing.
use Rattle.std.specs.Prelude.{ℕ, zero, suc, ◌+◌, ◌/◌, ◌-◌, ◌<◌, ◌≤◌, ◌≡◌, refl, true, false, cond, not, ◌&&◌, ◌||◌, List, ◌++◌, ltb, leb, length}
use Rattle.std.proofs.Common.{arith, sym, ap, ◌∙◌, ltb-true, ltb-false, lt-ltb, le-ltb}
use Rattle.std.proofs.lemmas.Bool.{false≢true}
use Rattle.cells.specs.Proof.Split.{by-test}
use Rattle.byte_slices.specs.Bytes.{same}
use Rattle.byte_slices.specs.Proof.Ways.{same_refl, same_true}
use Rattle.link.specs.Bounds.{lesser}
use Rattle.interner.specs.Names.{find_of, fits_of, room_of}
use Rattle.interner.specs.Calls as Names
use Rattle.interner.specs.Calls.{issue_of, intern_of}
use Rattle.interner_laws.specs.Good.{Chained}
use Rattle.interner_laws.proofs.Find.{found}
use Rattle.symbol_laws.specs.History.{State, store}
use Rattle.merge_laws.specs.Calls.{Linked}
use Rattle.link_laws.specs.Calls.{intern, refusal_by, call_refusal}
use Rattle.link_laws.specs.Rules.{first_refusal}
use Rattle.link_laws.proofs.Rules.{headed, over-either, not-below, head-rules}
use Rattle.link_laws.specs.TableRules.{bytes_of, is_among, no_name_room, intern_head, room_rules}

-- ---- the bytes are among the names

module _ (bytes : ℕ → List ℕ) (x : List ℕ) where
  among-true : (n i r : ℕ) → i ≤ r → r < i + n → bytes r ≡ x → is_among bytes x i n ≡ true
  among-true zero i r p q e = absurd (omega arith)
  among-true (suc n) i r p q e =
      by-test (same (bytes i) x) (λ h. rw h)
      (λ h. rw h (among-true n (i + 1) r (later (λ z. false≢true (sym h ∙ rw (z, e) (same_refl x)))) (omega arith) e))
    where
      later : (i ≡ r → ⊥) → i + 1 ≤ r
      later u = by-test (ltb i r) (λ a. let b : i < r = ltb-true _ _ a in omega arith) (λ a. let b : r ≤ i = ltb-false _ _ a in absurd (u (omega arith)))

  among-false : (n i : ℕ) → ((j : ℕ) → i ≤ j → j < i + n → bytes j ≡ x → ⊥) → is_among bytes x i n ≡ false
  among-false zero i u = refl
  among-false (suc n) i u =
      by-test (same (bytes i) x) (λ h. absurd (u i (omega arith) (omega arith) (same_true _ _ h)))
      (λ h. rw h (among-false n (i + 1) (λ j p q e. u j (omega arith) (omega arith) e)))

pub among-found : (t : State) → Chained (store t) → (x : List ℕ)
    → is_among (bytes_of t) x 0 t.link.names ≡ ltb (find_of t.bytes t.names t.link x) t.link.names
among-found t c x =
    let f = found (store t) x c in
    by-test (ltb (find_of t.bytes t.names t.link x) t.link.names)
    (λ e.
    let l : find_of t.bytes t.names t.link x < t.link.names = ltb-true _ _ e in
    rw e (among-true (bytes_of t) x t.link.names 0 _ (omega arith) (omega arith) (f.hit l)))
    (λ e. rw e (among-false (bytes_of t) x t.link.names 0 (λ j p q. f.miss (ltb-false _ _ e) j (omega arith))))

-- ---- room

-- b of m are taken, and n more don't fit
pub none_more : (m b n : ℕ) → cond (ltb m b) false (cond (ltb (m - b) n) false true) ≡ not (ltb m (b + n))
none_more m b n =
    by-test (ltb m b) (λ e. let l : m < b = ltb-true _ _ e in rw (e, lt-ltb m (b + n) (omega arith)))
    (λ e.
    let l : b ≤ m = ltb-false _ _ e in
    rw e
    (by-test (ltb (m - b) n) (λ f. let k : m - b < n = ltb-true _ _ f in rw (f, lt-ltb m (b + n) (omega arith)))
    (λ f. let k : n ≤ m - b = ltb-false _ _ f in rw (f, le-ltb m (b + n) (omega arith)))))

full : (a r c m l b n : ℕ) → cond (ltb r c) false (cond (leb c a) false (cond (ltb (lesser m l) b) false (cond (ltb (lesser m l - b) n) false true)))
    ≡ not (ltb r c || not (ltb a c) || ltb m (b + n) || ltb l (b + n))
full a r c m l b n =
    by-test (ltb r c) (λ d. rw d)
    (λ d.
    by-test (ltb a c) (λ e. rw (d, e, not-below a c, e) (none_more (lesser m l) b n ∙ ap not (over-either m l (b + n))))
    (λ e. rw (d, e, not-below a c, e)))

pub fits-is : (t : State) (x : List ℕ) → Chained (store t)
    → fits_of (store t) (record { 0 = find_of t.bytes t.names t.link x }) (length x) ≡ not (not (is_among (bytes_of t) x 0 t.link.names) && no_name_room t x)
unfolding fits_of room_of
fits-is t x c =
    rw (among-found t c x)
    (by-test (ltb (find_of t.bytes t.names t.link x) t.link.names) (λ e. rw e)
    (λ e. rw e (full t.link.names (length t.names / 9) t.link.chains 1048576 (length t.bytes) t.link.bytes (length x))))

pub intern-exactly : (x : List ℕ) (s : Linked) → Chained (store s.table) → call_refusal (intern x) s ≡ first_refusal (intern_head s.table ++ room_rules s.table x)
unfolding intern_of issue_of
intern-exactly x s c =
    let t = s.table in
    headed (room_rules t x) (λ (o : Names.Left). refusal_by o.said) (intern_head t) _ _ _ refl (head-rules t.link _) refl
    (λ a.
    rw (fits-is t x c)
    (by-test (not (is_among (bytes_of t) x 0 t.link.names) && no_name_room t x) (λ e. rw e) (λ e. rw e)))
