-- The ways through the functions.
-- Assumes nothing.
use Rattle.std.specs.Prelude.{ℕ, ◌≡◌, ◌≤◌, refl, Bool, true, false, ◌||◌, List, ◌++◌, take, drop, eqb, ltb, length, Ok, Err}
use Rattle.std.proofs.Common.{arith, sym, ap, ◌∙◌, ltb-false, eq-eqb}
use borrow.Author.Tests.{ne_eqb}
use Rattle.std.proofs.Math.Seq.{take-append_seam, drop-append_seam}
use Rattle.cells.specs.Proof.Split.{by-test}
use Rattle.link.specs.declared.cause.Refusal.{Refusal}
use Rattle.link.specs.Judge as Link
use Rattle.link.specs.Judge.{judged}
use Rattle.link.specs.Proof.Judged.{judged-err, judged-refused, judged-fine}
use Rattle.merge_stages.specs.Stages.{All, all_of, Object}
use Rattle.merge_elf.specs.declared.Outcome.{Outcome}
use Rattle.merge_elf.specs.Merge.{leave, outcome, merge_of}
use Rattle.elf_object.specs.Judge as Elf
use Rattle.preview.specs.Preview.{Tables, is_short, room_refusal, lent, judged_of, head_of, over, laid, preview_of}

-- ---- what the head says of the room

or-first : (a b : Bool) → (a || b) ≡ false → a ≡ false
or-first true b e = e
or-first false b e = refl

or-second : (a b : Bool) → (a || b) ≡ false → b ≡ false
or-second true b e = absurd (cc)
or-second false b e = e

-- each sort has room for the copy
pub record Room (t : Tables) (p : All) : Type 0 where
  pub bytes : length t.bytes ≤ length p.bytes
  pub names : length t.names ≤ length p.names
  pub symbols : length t.symbols ≤ length p.symbols
  pub sections : length t.sections ≤ length p.sections
  pub inputs : length t.inputs ≤ length p.inputs
  pub lists : length t.lists ≤ length p.lists

module _ (t : Tables) (p : All) where
  long-enough : is_short t p ≡ false → Room t p
  unfolding is_short
  long-enough e =
      let five = or-first _ (ltb (length p.lists) (length t.lists)) e in
      let four = or-first _ (ltb (length p.inputs) (length t.inputs)) five in
      let three = or-first _ (ltb (length p.sections) (length t.sections)) four in
      let two = or-first _ (ltb (length p.symbols) (length t.symbols)) three in
      record {
        bytes = ltb-false _ _ (or-first _ (ltb (length p.names) (length t.names)) two);
        names = ltb-false _ _ (or-second (ltb (length p.bytes) (length t.bytes)) _ two);
        symbols = ltb-false _ _ (or-second _ (ltb (length p.symbols) (length t.symbols)) three);
        sections = ltb-false _ _ (or-second _ (ltb (length p.sections) (length t.sections)) four);
        inputs = ltb-false _ _ (or-second _ (ltb (length p.inputs) (length t.inputs)) five);
        lists = ltb-false _ _ (or-second _ (ltb (length p.lists) (length t.lists)) e);
      }

  enough : (room_refusal t p).number ≡ 0 → Room t p
  unfolding room_refusal
  enough e = by-test (is_short t p) (λ a. absurd (let z : 2 ≡ 0 = rw a at e in omega (arith, z))) long-enough

  passed-room : (o : Object) → (head_of o t p).number ≡ 0 → Room t p
  unfolding head_of judged_of
  passed-room o e =
      by-test (eqb (Link.change_of t.link (lent t)).number 0)
      (λ a.
      by-test (eqb (Elf.judge_of o.headers o.entries (length o.contents) (length o.image)).number 0)
      (λ b. enough (rw (a, b) at e))
      (λ b. absurd (no _ b (rw (a, b) at e))))
      (λ a. absurd (no _ a (rw a at e)))
    where
      no : (n : ℕ) → eqb n 0 ≡ false → n ≡ 0 → ⊥
      no n a z = let f : ◌≡◌ {A = Bool} false true = sym a ∙ eq-eqb n 0 z in cc

  pub head-room : (o : Object) (u : Unit) → judged (head_of o t p) ≡ Ok u → Room t p
  head-room o u e = passed-room o (judged-fine (head_of o t p) u e)

-- ---- a copy in front of what lies behind, and a merge of it

take-front : (x l y : List ℕ) → y ≡ over x (length x) l → take (length x) y ≡ x
take-front x l y e = rw e (take-append_seam x (drop (length x) l))

drop-front : (x l y : List ℕ) → y ≡ over x (length x) l → drop (length x) y ≡ drop (length x) l
drop-front x l y e = rw e (drop-append_seam x (drop (length x) l))

module _ (o : Object) (t : Tables) (p : All) where
  pub preview-refused : (r : Refusal) → judged (head_of o t p) ≡ Err r → leave p p.stage.link (Err r) ≡ preview_of o t p
  unfolding preview_of
  preview-refused r e =
      let h = judged-err (head_of o t p) r e in
      rw (ne_eqb _ _ (judged-refused (head_of o t p) r e), h) refl

  pub preview-merged : (u : Unit) → judged (head_of o t p) ≡ Ok u
      → (b n s x i l : List ℕ) → b ≡ over t.bytes (length t.bytes) p.bytes → n ≡ over t.names (length t.names) p.names
      → s ≡ over t.symbols (length t.symbols) p.symbols → x ≡ over t.sections (length t.sections) p.sections
      → i ≡ over t.inputs (length t.inputs) p.inputs → l ≡ over t.lists (length t.lists) p.lists
      → (r : Outcome) (b′ n′ s′ x′ i′ l′ w d : List ℕ)
      → outcome b′ n′ s′ x′ i′ l′ w d r
      ≡ merge_of o (all_of (take (length t.bytes) b) (take (length t.names) n) (take (length t.symbols) s) (take (length t.sections) x)
      (take (length t.inputs) i) (take (length t.lists) l) p.work p.ids (Link.going_of t.link))
      → leave (all_of (b′ ++ drop (length t.bytes) b) (n′ ++ drop (length t.names) n) (s′ ++ drop (length t.symbols) s) (x′ ++ drop (length t.sections) x)
      (i′ ++ drop (length t.inputs) i) (l′ ++ drop (length t.lists) l) w d (Link.going_of r.link)) r.link r.answer
      ≡ preview_of o t p
  unfolding preview_of
  preview-merged u ok b n s x i l eb en es ex ei el r b′ n′ s′ x′ i′ l′ w d m =
      rw (eq-eqb _ _ (judged-fine (head_of o t p) u ok))
      (rw (drop-front _ _ b eb, drop-front _ _ n en, drop-front _ _ s es, drop-front _ _ x ex, drop-front _ _ i ei, drop-front _ _ l el)
      (ap (laid t p) (rw (take-front _ _ b eb, take-front _ _ n en, take-front _ _ s es, take-front _ _ x ex, take-front _ _ i ei, take-front _ _ l el) at m)))
