-- What admission answers, over every walk: the answer of `matches` itself, yes or no, against the gABI's extraction; exact, in the old profile with
-- the two known places as terms of their own, in the gABI's without them.
-- Assumes nothing.
use Rattle.std.specs.Prelude.{ℕ, ◌+◌, ◌/◌, ◌<◌, ◌≤◌, ◌≡◌, Bool, true, false, not, ◌&&◌, ◌||◌, ltb, length, Ok}
use Rattle.std.proofs.Common.{arith, sym, ◌∙◌, subst, eq-eqb, lt-ltb, le-ltb}
use Rattle.std.proofs.Math.Path.{refl, ap}
use mathlib.Core.List.{List, [], ◌∷◌, ◌++◌}
use Rattle.cells.specs.Proof.Split.{by-test}
use Rattle.gabi.specs.StringTable as Strings
use Rattle.gabi.specs.Archive.{Named, extracts}
use Rattle.link.specs.declared.Link.{Link}
use Rattle.archive_index.specs.Archives.{Archives}
use Rattle.archive_walk.specs.declared.Walk.{Walk}
use Rattle.archive_walk.specs.Look.{Table, undefined_name, tied_name}
use Rattle.archive_walk.specs.Names.{required_of}
use Rattle.archive_laws.specs.Profiles.{strong_name}
use Rattle.archive_laws.proofs.Profiles.{tied-old, tied-gabi}
use Rattle.archive_laws.specs.Members.{among, View, pull, Rounds, front_of, pass_round, round, rounds, fresh}
use Rattle.archive_laws.proofs.RoundLaws.{pull-keeps}
use Rattle.archive_laws.specs.Runs.{view_by, views_by, Run, step_run, history, seen}
use Rattle.archive_laws.specs.ByKey.{in_index, queue_in, Pass, Walked}
use Rattle.archive_laws.specs.Steps.{Fine}
use Rattle.archive_laws.proofs.KeyedWalk.{walked_by, fine-after}
use Rattle.elf_object.specs.Judge.{judge_of}
use Rattle.object_requirement.specs.Matches.{admission, offered_in, matches_of, has_global_symbol}
use Rattle.extraction_laws.proofs.Some.{some_same}
use Rattle.extraction_laws.specs.Member.{admitting, member_of}
use Rattle.extraction_laws.proofs.Member.{object-admits}
use Rattle.extraction_laws.specs.MemberWords.{symbols_of}
use Rattle.extraction_laws.proofs.MemberWords.{member_is}
use Rattle.extraction_laws.specs.Taken.{lists, taken_in, taken}
use Rattle.extraction_laws.proofs.Taken.{taken-either, taken-same, extracts-is, gabi-extracts}
use Rattle.extraction_laws.proofs.Chosen as Chosen
use Rattle.extraction_laws.specs.Answer.{says, admitted}

-- ---- the known places, each a term

-- ---- laws

not-not : (b : Bool) → not (not b) ≡ b
not-not true = refl
not-not false = refl

both_is : (a b c : Bool) → a ≡ b || c → a && b ≡ b
both_is a true c e = rw e
both_is true false c e = refl
both_is false false c e = refl

pub admitted-is : (member : List Named) (wanted : List (List ℕ)) (weakly : List ℕ → Bool)
    → admitted wanted weakly member ≡ taken (λ x. Strings.among x wanted) member || taken weakly member
admitted-is member wanted weakly =
    let t : Bool = taken (λ x. Strings.among x wanted) member in
    ap (λ (b : Bool). (extracts member wanted && b) || taken weakly member) (not-not t)
    ∙ ap (λ (b : Bool). b || taken weakly member) (both_is (extracts member wanted) t _ (extracts-is member (λ x. Strings.among x wanted) wanted (λ x h. refl)))

-- ---- what a pass queues stays queued, and the names required of it stay

module _ (keys : ℕ → ℕ) (c : ℕ) where
  front-queue : (q : List ℕ) (o p : ℕ) → (front_of q o p).queue ≡ q
  unfolding front_of
  front-queue q o p = by-test (ltb o (length q)) (λ a. rw a) (λ a. rw a)

  round_keeps : (v : View) (a : Rounds) (j : ℕ) → among keys j a.queue ≡ true → among keys j (round keys c v a).queue ≡ true
  unfolding round pass_round
  round_keeps v a j e =
      by-test a.done (λ d. rw d e)
      (λ d.
      by-test (ltb a.offered (length a.queue)) (λ f. rw (d, f, front-queue a.queue a.offered a.passes) e)
      (λ f.
      by-test v.refused (λ g. rw (d, f, g) e)
      (λ g. rw (d, f, g, front-queue (pull keys v.tied c 0 a.queue) a.offered (a.passes + 1)) (pull-keeps keys v.tied c 0 a.queue j e))))

  rounds-snoc : (named : ℕ → List ℕ) (ts : List Table) (v : Table) (a : Rounds)
      → rounds keys c (views_by named c (ts ++ (v ∷ []))) a ≡ round keys c (view_by named c v) (rounds keys c (views_by named c ts) a)
  unfolding rounds views_by
  rounds-snoc named [] v a = refl
  rounds-snoc named (t ∷ ts) v a = rounds-snoc named ts v (round keys c (view_by named c t) a)

pub history-snoc : (s : Archives) (ts : List Table) (v : Table) (r : Run) → history s (ts ++ (v ∷ [])) r ≡ step_run s v (history s ts r)
unfolding history
history-snoc s [] v r = refl
history-snoc s (t ∷ ts) v r = history-snoc s ts v (step_run s t r)

-- calls from any run at its beginning whose rows say what its entries' keys and names are
module _ (key : ℕ) (s : Archives) (keys : ℕ → ℕ) (named : ℕ → List ℕ) (c : ℕ) (start : Run) (fine : Fine key s keys named c start) (begins : seen start ≡ fresh) where
  abbrev ran : List Table → Run
  ran ts = history s ts start

  walked : (ts : List Table) → Walked s keys named c ts (ran ts)
  walked ts = walked_by key s keys named c start fine begins ts

  queued-on : (ts : List Table) (v : Table) (j : ℕ) → among keys j (queue_in (ran ts)) ≡ true → among keys j (queue_in (ran (ts ++ (v ∷ [])))) ≡ true
  queued-on ts v j e =
      let now : seen (ran (ts ++ (v ∷ []))) ≡ round keys c (view_by named c v) (seen (ran ts)) =
      (walked (ts ++ (v ∷ []))).same-rounds ∙ rounds-snoc keys c named ts v fresh ∙ ap (round keys c (view_by named c v)) (sym (walked ts).same-rounds) in
      ap (λ (a : Rounds). among keys j a.queue) now ∙ round_keeps keys c (view_by named c v) (seen (ran ts)) j e

  pub names-on : (us ts : List Table) (e : ℕ) → e < c → among keys e (queue_in (ran ts)) ≡ true → (x : List ℕ)
      → required_of s.bytes (history s us (ran ts)).cells (history s us (ran ts)).walk e x ≡ required_of s.bytes (ran ts).cells (ran ts).walk e x
  unfolding history
  names-on [] ts e h q x = refl
  names-on (v ∷ us) ts e h q x =
      ap (λ (r : Run). required_of s.bytes (history s us r).cells (history s us r).walk e x) (sym (history-snoc s ts v start))
      ∙ names-on us (ts ++ (v ∷ [])) e h (queued-on ts v e q) x
      ∙ ap (λ (r : Run). required_of s.bytes r.cells r.walk e x) (history-snoc s ts v start)
      ∙ (walked ts).names-stay v e h q x

  pub fine-on : (us ts : List Table) → Fine key s keys named c (history s us (ran ts))
  unfolding history
  fine-on [] ts = fine-after key s keys named c start fine begins ts
  fine-on (v ∷ us) ts = rw (← history-snoc s ts v start) (fine-on us (ts ++ (v ∷ [])))

-- ---- an answer in a walk

pub matches-says : (link : Link) (headers entries contents file s l : List ℕ) (w : Walk) (e : ℕ) (b : Bool) → (judge_of headers entries (length contents) (length file)).number ≡ 0
    → w.length ≤ length s → w.entries ≤ length l / 8 → e < w.entries → has_global_symbol link.gabi headers entries file (required_of s l w e) ≡ b
    → matches_of link headers entries contents file s l w e ≡ says b
unfolding matches_of offered_in
matches-says link headers entries contents file s l w e b j a d h q =
    rw (eq-eqb _ 0 j, le-ltb (length s) w.length a, le-ltb (length l / 8) w.entries d, lt-ltb e w.entries h, q) (answer b)
  where
    answer : (b : Bool) → admission b ≡ says b
    answer true = refl
    answer false = refl

-- any calls from such a run on, then one over t that makes a pass
module _ (key : ℕ) (s : Archives) (keys : ℕ → ℕ) (named : ℕ → List ℕ) (c : ℕ) (start : Run) (fine : Fine key s keys named c start) (begins : seen start ≡ fresh)
    (ts : List Table) (t : Table) (made : (step_run s t (history s ts start)).walk.passes ≡ (history s ts start).walk.passes + 1) where
  abbrev before : Run
  before = history s ts start

  abbrev after : Run
  after = step_run s t before

  pass : Pass s keys named c t before after
  pass = (walked key s keys named c start fine begins ts).pass t made

  -- the member of entry e, not offered before, is this object, whose fields are in range; the index lists its global and weak definitions;
  -- admission is lent this link
  module _ (e : ℕ) (low : e < c) (new : among keys e before.offers ≡ false) (headers entries contents file : List ℕ)
      (ranged : (judge_of headers entries (length contents) (length file)).number ≡ 0)
      (listed : (x : List ℕ) → in_index keys named c e x ≡ lists (symbols_of headers entries file) x) (link : Link) where
    abbrev pub member : List Named
    member = symbols_of headers entries file

    listed-own : (x : List ℕ) → in_index keys named c e x ≡ lists (member_of headers entries file) x
    listed-own x = listed x ∙ ap (λ (m : List Named). lists m x) (sym (member_is headers entries file))

    abbrev pub answer : Bool
    answer = taken_in link.gabi (tied_name t) member

    asked : has_global_symbol link.gabi headers entries file (required_of s.bytes after.cells after.walk e) ≡ answer
    asked =
        Chosen.admitted link.gabi s keys named c t before after pass e low new headers entries file listed-own
        ∙ ap (taken_in link.gabi (tied_name t)) (member_is headers entries file)

    answered : (r : Run) → Fine key s keys named c r → ((x : List ℕ) → required_of s.bytes r.cells r.walk e x ≡ required_of s.bytes after.cells after.walk e x)
        → matches_of link headers entries contents file s.bytes r.cells r.walk e ≡ says answer
    answered r f same =
        matches-says link headers entries contents file s.bytes r.cells r.walk e answer ranged (omega (arith, f.lent.whole, f.lent.within))
        (omega (arith, f.entries, f.sound.rows.room)) (rw f.entries low)
        (object-admits link.gabi (required_of s.bytes r.cells r.walk e) headers entries file
        ∙ some_same (λ d. admitting link.gabi d.symbol && required_of s.bytes r.cells r.walk e d.name)
        (λ d. admitting link.gabi d.symbol && required_of s.bytes after.cells after.walk e d.name)
        (member_of headers entries file) (λ d. rw (same d.name))
        ∙ sym (object-admits link.gabi (required_of s.bytes after.cells after.walk e) headers entries file) ∙ asked)

    -- right after the pass: yes, just if a symbol that may admit the member bears a name that ties at the pass and that the member defines
    says-answer : matches_of link headers entries contents file s.bytes after.cells after.walk e ≡ says answer
    says-answer = answered after (subst (Fine key s keys named c) (history-snoc s ts t start) (fine-after key s keys named c start fine begins (ts ++ (t ∷ [])))) (λ x. refl)

    pub answer-is : matches_of link headers entries contents file s.bytes after.cells after.walk e ≡ says answer
    answer-is = answered after (subst (Fine key s keys named c) (history-snoc s ts t start) (fine-after key s keys named c start fine begins (ts ++ (t ∷ [])))) (λ x. refl)

    -- a member that is let in was queued by the pass
    pub let-in-queued : matches_of link headers entries contents file s.bytes after.cells after.walk e ≡ Ok true → among keys e (queue_in after) ≡ true
    let-in-queued y =
        Chosen.queued link.gabi s keys named c t before after pass e low new headers entries file listed-own
        (ap (taken_in link.gabi (tied_name t)) (member_is headers entries file) ∙ yes answer (sym says-answer ∙ y))
      where
        yes : (b : Bool) → says b ≡ Ok true → b ≡ true
        yes true q = refl
        yes false q = let z : ◌≡◌ {A = ℕ} 0 1 = cc in absurd (omega arith)

    -- and for a queued member the answer is the same after any further calls, over whatever tables: "a queued one is offered though its name is
    -- defined since"
    pub answer-later : among keys e (queue_in after) ≡ true → (us : List Table)
        → matches_of link headers entries contents file s.bytes (history s us after).cells (history s us after).walk e ≡ says answer
    answer-later q us =
        let same : after ≡ history s (ts ++ (t ∷ [])) start = sym (history-snoc s ts t start) in
        let q' : among keys e (queue_in (history s (ts ++ (t ∷ [])) start)) ≡ true = rw same at q in
        answered (history s us after) (rw same (fine-on key s keys named c start fine begins us (ts ++ (t ∷ []))))
        (λ x. rw same (names-on key s keys named c start fine begins us (ts ++ (t ∷ [])) e low q' x))

    -- ---- by the gABI

    -- the old profile: a symbol of binding 1 bears a name that is undefined at the pass; wanted names, and names with weak references only
    module _ (old : t.link.gabi ≡ false) (asks : link.gabi ≡ false) where
      pub answer-old : answer ≡ taken (undefined_name t) member
      answer-old = rw asks (taken-same member false (tied_name t) (undefined_name t) (λ x. tied-old t x old))

      pub by-gabi : (wanted : List (List ℕ)) (weakly : List ℕ → Bool) → ((x : List ℕ) → lists member x ≡ true → undefined_name t x ≡ Strings.among x wanted || weakly x)
          → answer ≡ admitted wanted weakly member
      by-gabi wanted weakly either =
          answer-old ∙ taken-either member (λ x. Strings.among x wanted) weakly (undefined_name t) either ∙ sym (admitted-is member wanted weakly)

    -- the gABI's: a definition, global or weak, of a name that is undefined and strong at the pass
    module _ (gabi : t.link.gabi ≡ true) (asks : link.gabi ≡ true) where
      abbrev strongly : List ℕ → Bool
      strongly x = undefined_name t x && strong_name t x

      pub answer-gabi : answer ≡ taken_in true strongly member
      answer-gabi = rw asks (taken-same member true (tied_name t) strongly (λ x. tied-gabi t x gabi))

      pub exactly-gabi : (wanted : List (List ℕ)) → ((x : List ℕ) → lists member x ≡ true → strongly x ≡ Strings.among x wanted) → answer ≡ extracts member wanted
      exactly-gabi wanted agree = answer-gabi ∙ gabi-extracts member strongly wanted agree
