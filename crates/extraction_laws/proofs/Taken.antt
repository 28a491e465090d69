-- Which members are taken, over their symbols: by the walk and admission, and by the gABI.
-- Assumes nothing.
use Rattle.std.specs.Prelude.{ℕ, ◌≡◌, Bool, true, ◌&&◌, ◌||◌}
use Rattle.std.proofs.Math.Path.{refl, ap}
use Rattle.std.proofs.Common.{sym, ◌∙◌}
use Rattle.std.proofs.Math.Bool.{false}
use mathlib.Core.List.{List, [], ◌∷◌}
use Rattle.cells.specs.Proof.Split.{by-test}
use Rattle.gabi.specs.StringTable.{same_name, among}
use Rattle.gabi.proofs.StringTableLaws.{same-eq, same_refl}
use Rattle.gabi.specs.SymbolTable.{Sym, is_global, is_weak, is_definition}
use Rattle.gabi.specs.Archive.{Named, offers, extracts}
use Rattle.extraction_laws.specs.Some.{In, here, there, some}
use Rattle.extraction_laws.proofs.Some.{clash, and_in, and_left, and_right, or_left, or_right, or-out, or-none, both_ways, some_in, some_out, some_same}
use Rattle.extraction_laws.specs.Member.{admitting}
use Rattle.extraction_laws.specs.Taken.{lists, taken_in, taken, weakly_defines, weak_offers, wanted_names}

-- ---- the gABI's extraction, as a test on some symbol

pub extracts-some : (member : List Named) (wanted : List (List ℕ)) → extracts member wanted ≡ some (λ e. offers e.symbol && among e.name wanted) member
unfolding extracts some
extracts-some [] wanted = refl
extracts-some (e ∷ member) wanted = rw (extracts-some member wanted)

global-offers : (s : Sym) → offers s ≡ true → is_global s ≡ false → weakly_defines s ≡ true
unfolding offers
global-offers s o g =
    let d : is_definition s ≡ true = and_right (is_global s || is_weak s) (is_definition s) o in
    let w : is_global s || is_weak s ≡ true = and_left (is_global s || is_weak s) (is_definition s) o in
    or-out (is_global s) (is_weak s) w (λ p. clash (is_global s) p g) (λ p. and_in (is_weak s) (is_definition s) p d)

weak-offers : (s : Sym) → weakly_defines s ≡ true → offers s ≡ true
unfolding offers
weak-offers s h =
    and_in (is_global s || is_weak s) (is_definition s) (or_right (is_global s) (is_weak s) (and_left (is_weak s) (is_definition s) h)) (and_right (is_weak s) (is_definition s) h)

module _ (member : List Named) where
  lists-own : (e : Named) → In e member → offers e.symbol ≡ true → lists member e.name ≡ true
  lists-own e i o = some_in (λ d. offers d.symbol && same_name d.name e.name) member e i (and_in (offers e.symbol) (same_name e.name e.name) o (same_refl e.name))

  -- ---- a weak definition doesn't admit a member: apart from that the gABI extracts what is taken for its wanted names

  module _ (undefined : List ℕ → Bool) (wanted : List (List ℕ)) (agree : (x : List ℕ) → lists member x ≡ true → undefined x ≡ among x wanted) where
    abbrev offering : Named → Bool
    offering e = offers e.symbol && among e.name wanted

    abbrev taking : Named → Bool
    taking e = is_global e.symbol && (undefined e.name && lists member e.name)

    abbrev weakly : Named → Bool
    weakly e = weakly_defines e.symbol && among e.name wanted

    extracted-then : some offering member ≡ true → some taking member || some weakly member ≡ true
    extracted-then h = go (some_out offering member h)
      where
        go : ((e : Named) × In e member × (offering e ≡ true)) → some taking member || some weakly member ≡ true
        go (e, i, q) = by (is_global e.symbol) refl
          where
            o : offers e.symbol ≡ true
            o = and_left (offers e.symbol) (among e.name wanted) q

            w : among e.name wanted ≡ true
            w = and_right (offers e.symbol) (among e.name wanted) q

            listed : lists member e.name ≡ true
            listed = lists-own e i o

            by : (b : Bool) → is_global e.symbol ≡ b → some taking member || some weakly member ≡ true
            by true g =
                or_left (some taking member) (some weakly member)
                (some_in taking member e i
                (and_in (is_global e.symbol) (undefined e.name && lists member e.name) g
                (and_in (undefined e.name) (lists member e.name) (agree e.name listed ∙ w) listed)))
            by false g =
                or_right (some taking member) (some weakly member)
                (some_in weakly member e i (and_in (weakly_defines e.symbol) (among e.name wanted) (global-offers e.symbol o g) w))

    taken_then : some taking member ≡ true → some offering member ≡ true
    taken_then h = go (some_out taking member h)
      where
        go : ((e : Named) × In e member × (taking e ≡ true)) → some offering member ≡ true
        go (e, i, q) = found (some_out (λ d. offers d.symbol && same_name d.name e.name) member listed)
          where
            rest : undefined e.name && lists member e.name ≡ true
            rest = and_right (is_global e.symbol) (undefined e.name && lists member e.name) q

            listed : lists member e.name ≡ true
            listed = and_right (undefined e.name) (lists member e.name) rest

            w : among e.name wanted ≡ true
            w = sym (agree e.name listed) ∙ and_left (undefined e.name) (lists member e.name) rest

            found : ((d : Named) × In d member × (offers d.symbol && same_name d.name e.name ≡ true)) → some offering member ≡ true
            found (d, j, o) =
                let name : d.name ≡ e.name = same-eq d.name e.name (and_right (offers d.symbol) (same_name d.name e.name) o) in
                some_in offering member d j
                (and_in (offers d.symbol) (among d.name wanted) (and_left (offers d.symbol) (same_name d.name e.name) o) (ap (λ (x : List ℕ). among x wanted) name ∙ w))

    weak-then : some weakly member ≡ true → some offering member ≡ true
    weak-then h = go (some_out weakly member h)
      where
        go : ((e : Named) × In e member × (weakly e ≡ true)) → some offering member ≡ true
        go (e, i, q) =
            some_in offering member e i
            (and_in (offers e.symbol) (among e.name wanted) (weak-offers e.symbol (and_left (weakly_defines e.symbol) (among e.name wanted) q))
            (and_right (weakly_defines e.symbol) (among e.name wanted) q))

    pub extracts-is : extracts member wanted ≡ taken undefined member || weak_offers wanted member
    extracts-is =
        extracts-some member wanted
        ∙ both_ways (some offering member) (some taking member || some weakly member) extracted-then
        (λ h. or-out (some taking member) (some weakly member) h taken_then weak-then)

    -- where no weak definition bears a wanted name both take the same members
    pub takes-as-gabi : weak_offers wanted member ≡ false → taken undefined member ≡ extracts member wanted
    takes-as-gabi h = sym (extracts-is ∙ or-none (taken undefined member) (weak_offers wanted member) h)

  pub taken-same : (gabi : Bool) (f g : List ℕ → Bool) → ((x : List ℕ) → f x ≡ g x) → taken_in gabi f member ≡ taken_in gabi g member
  taken-same gabi f g h =
      some_same (λ e. admitting gabi e.symbol && (f e.name && lists member e.name)) (λ e. admitting gabi e.symbol && (g e.name && lists member e.name))
      member (λ e. rw (h e.name))

  -- ---- in the gABI's profile what is taken for its wanted names is extracted, exactly

  module _ (tied : List ℕ → Bool) (wanted : List (List ℕ)) (agree : (x : List ℕ) → lists member x ≡ true → tied x ≡ among x wanted) where
    abbrev wanted_of : Named → Bool
    wanted_of e = offers e.symbol && among e.name wanted

    abbrev tied_of : Named → Bool
    tied_of e = offers e.symbol && (tied e.name && lists member e.name)

    pub gabi-extracts : taken_in true tied member ≡ extracts member wanted
    gabi-extracts =
        both_ways (some tied_of member) (some wanted_of member) (λ h. there-then (some_out tied_of member h)) (λ h. here-then (some_out wanted_of member h))
        ∙ sym (extracts-some member wanted)
      where
        there-then : ((e : Named) × In e member × (tied_of e ≡ true)) → some wanted_of member ≡ true
        there-then (e, i, q) =
            let o : offers e.symbol ≡ true = and_left (offers e.symbol) (tied e.name && lists member e.name) q in
            let rest = and_right (offers e.symbol) (tied e.name && lists member e.name) q in
            some_in wanted_of member e i
            (and_in (offers e.symbol) (among e.name wanted) o
            (sym (agree e.name (and_right (tied e.name) (lists member e.name) rest)) ∙ and_left (tied e.name) (lists member e.name) rest))

        here-then : ((e : Named) × In e member × (wanted_of e ≡ true)) → some tied_of member ≡ true
        here-then (e, i, q) =
            let o : offers e.symbol ≡ true = and_left (offers e.symbol) (among e.name wanted) q in
            let listed : lists member e.name ≡ true = lists-own e i o in
            some_in tied_of member e i
            (and_in (offers e.symbol) (tied e.name && lists member e.name) o
            (and_in (tied e.name) (lists member e.name) (agree e.name listed ∙ and_right (offers e.symbol) (among e.name wanted) q) listed))

  -- ---- weak references pull members: what is taken for names referred to strongly or weakly is taken for the ones or for the others

  module _ (f g h : List ℕ → Bool) (either : (x : List ℕ) → lists member x ≡ true → h x ≡ f x || g x) where
    abbrev takes : (List ℕ → Bool) → Named → Bool
    takes u e = is_global e.symbol && (u e.name && lists member e.name)

    takes-in : (u : List ℕ → Bool) (e : Named) → In e member → takes h e ≡ true → u e.name ≡ true → some (takes u) member ≡ true
    takes-in u e i q p =
        some_in (takes u) member e i
        (and_in (is_global e.symbol) (u e.name && lists member e.name) (and_left (is_global e.symbol) (h e.name && lists member e.name) q)
        (and_in (u e.name) (lists member e.name) p
        (and_right (h e.name) (lists member e.name) (and_right (is_global e.symbol) (h e.name && lists member e.name) q))))

    apart : some (takes h) member ≡ true → some (takes f) member || some (takes g) member ≡ true
    apart p = go (some_out (takes h) member p)
      where
        go : ((e : Named) × In e member × (takes h e ≡ true)) → some (takes f) member || some (takes g) member ≡ true
        go (e, i, q) =
            let rest = and_right (is_global e.symbol) (h e.name && lists member e.name) q in
            or-out (f e.name) (g e.name)
            (sym (either e.name (and_right (h e.name) (lists member e.name) rest)) ∙ and_left (h e.name) (lists member e.name) rest)
            (λ a. or_left (some (takes f) member) (some (takes g) member) (takes-in f e i q a))
            (λ a. or_right (some (takes f) member) (some (takes g) member) (takes-in g e i q a))

    together : (u : List ℕ → Bool) → ((x : List ℕ) → lists member x ≡ true → u x ≡ true → h x ≡ true) → some (takes u) member ≡ true → some (takes h) member ≡ true
    together u w p = go (some_out (takes u) member p)
      where
        go : ((e : Named) × In e member × (takes u e ≡ true)) → some (takes h) member ≡ true
        go (e, i, q) =
            let rest = and_right (is_global e.symbol) (u e.name && lists member e.name) q in
            some_in (takes h) member e i
            (and_in (is_global e.symbol) (h e.name && lists member e.name) (and_left (is_global e.symbol) (u e.name && lists member e.name) q)
            (and_in (h e.name) (lists member e.name) (w e.name (and_right (u e.name) (lists member e.name) rest) (and_left (u e.name) (lists member e.name) rest)) (and_right (u e.name) (lists member e.name) rest)))

    pub taken-either : taken h member ≡ taken f member || taken g member
    taken-either =
        both_ways (some (takes h) member) (some (takes f) member || some (takes g) member) apart
        (λ p. or-out (some (takes f) member) (some (takes g) member) p (together f (λ x l a. either x l ∙ or_left (f x) (g x) a)) (together g (λ x l a. either x l ∙ or_right (f x) (g x) a)))

-- ---- the wanted names as a list: those that the member bears

module _ (wanted : List ℕ → Bool) where
  names-wanted : (member : List Named) (x : List ℕ) → among x (wanted_names wanted member) ≡ true → wanted x ≡ true
  unfolding among
  names-wanted [] x h = clash false h refl
  names-wanted (e ∷ member) x h =
      by-test (wanted e.name)
      (λ t.
      by-test (same_name e.name x) (λ q. ap wanted (sym (same-eq e.name x q)) ∙ t) (λ q. names-wanted member x (rw (t, q) at h)))
      (λ t. names-wanted member x (rw t at h))

  names-all : (member : List Named) (e : Named) → In e member → wanted e.name ≡ true → among e.name (wanted_names wanted member) ≡ true
  unfolding among
  names-all [] e i h = elim i [ ]
  names-all (d ∷ member) e (here q) h = rw (q, h, same_refl e.name)
  names-all (d ∷ member) e (there i) h =
      by-test (wanted d.name) (λ t. by-test (same_name d.name e.name) (λ q. rw (t, q)) (λ q. rw (t, q) (names-all member e i h)))
      (λ t. rw t (names-all member e i h))

  pub wanted-names : (member : List Named) (x : List ℕ) → lists member x ≡ true → among x (wanted_names wanted member) ≡ wanted x
  wanted-names member x l =
      both_ways (among x (wanted_names wanted member)) (wanted x) (names-wanted member x)
      (λ h. go h (some_out (λ e. offers e.symbol && same_name e.name x) member l))
    where
      go : wanted x ≡ true → ((e : Named) × In e member × (offers e.symbol && same_name e.name x ≡ true)) → among x (wanted_names wanted member) ≡ true
      go h (e, i, q) =
          let n : e.name ≡ x = same-eq e.name x (and_right (offers e.symbol) (same_name e.name x) q) in
          ap (λ (y : List ℕ). among y (wanted_names wanted member)) (sym n) ∙ names-all member e i (ap wanted n ∙ h)
