-- The ways through the loops over entries.
-- Assumes nothing.
use Rattle.std.specs.Prelude.{◌≡◌, ℕ, ◌+◌, ◌-◌, ◌<◌, ◌≤◌, List, refl, Option, None, Some}
use Rattle.std.proofs.Common.{arith, sub-eq-zero_of_le, ◌∙◌}
use Rattle.std.proofs.Math.Path.{sym}
use Rattle.symbol.specs.Codes.{successor}
use Rattle.archive_index.specs.Proof.Ways.{one_more}
use Rattle.text.specs.Writing.{put_all, written, Puts}
use Rattle.text.specs.declared.out.Writer.{Writer}
use Rattle.text.specs.Text.{Text}
use Rattle.text.specs.Proof.WritingWays.{puts_then}
use Rattle.archive_index.specs.Rows.{member_at}
use Rattle.replay_text.specs.Answers.{space_word, numbered}
use Rattle.replay_archive.specs.Offer.{member_word, entry_name, nearest_of, nearest_from, next_required, count_from, required_count, names_from, required_text, member_text}
use Rattle.replay_archive.specs.OfferWays.{spaced_name}

module _ (s l : List ℕ) where
  module _ (r : ℕ) (last : Option ℕ) (c k : ℕ) (best t w : Option ℕ) where
    pub next-on : k < c → t ≡ nearest_of s l r last best k → w ≡ nearest_from s l r last (c - k) k best → w ≡ nearest_from s l r last (c - (k + 1)) (k + 1) t
    unfolding nearest_from
    next-on h e q = q ∙ rw (one_more c k h) (rw e refl)

  module _ (r : ℕ) (last : Option ℕ) (c : ℕ) where
    pub next_start : next_required s l c r last ≡ nearest_from s l r last (c - 0) 0 None
    unfolding next_required
    next_start = let e : c - 0 ≡ c = omega arith in rw e

    pub next-end : (k : ℕ) (best w : Option ℕ) → c ≤ k → w ≡ nearest_from s l r last (c - k) k best → best ≡ w
    unfolding nearest_from
    next-end k best w h q = sym (q ∙ rw (sub-eq-zero_of_le h))

  module _ (c r : ℕ) where
    pub count-start : (last : Option ℕ) → last ≡ next_required s l c r None → required_count s l c r ≡ count_from s l c r (c - 0) last 0
    unfolding required_count
    count-start last e = let z : c - 0 ≡ c = omega arith in rw (z, e)

    module _ (k : ℕ) (last : Option ℕ) (m w : ℕ) where
      pub count-out : c ≤ k → w ≡ count_from s l c r (c - k) last m → m ≡ w
      unfolding count_from
      count-out h q = sym (q ∙ rw (sub-eq-zero_of_le h))

      pub count-end : k < c → last ≡ None → w ≡ count_from s l c r (c - k) last m → m ≡ w
      unfolding count_from
      count-end h z q = sym (q ∙ rw (one_more c k h) (rw z refl))

      pub count-on : (e u : ℕ) (v : Option ℕ) → k < c → last ≡ Some e → u ≡ successor m → v ≡ next_required s l c r (Some e)
          → w ≡ count_from s l c r (c - k) last m → w ≡ count_from s l c r (c - (k + 1)) v u
      unfolding count_from
      count-on e u v h z f g q = q ∙ rw (one_more c k h) (rw (z, f, g) refl)

    -- what the text is from a name on is what it is in all
    module _ (w : Text) (n k : ℕ) (last : Option ℕ) where
      pub names-on : (u : Option ℕ) (p q : Writer) → k < n → u ≡ next_required s l c r last → Puts p q (spaced_name (entry_name s l u))
          → w ≡ put_all (written p) (names_from s l c r (n - k) last) → w ≡ put_all (written q) (names_from s l c r (n - (k + 1)) u)
      unfolding names_from put_all
      names-on u p q h e g i = i ∙ rw (one_more n k h) (rw (g.text, e) refl)

    pub names-start : (t : Text) (n : ℕ) → put_all t (names_from s l c r n None) ≡ put_all t (names_from s l c r (n - 0) None)
    names-start t n = let z : n - 0 ≡ n = omega arith in rw z

    pub names-end : (a p : Writer) (n k : ℕ) (last : Option ℕ) → n ≤ k → p.bytes.ghost_name ≡ a.bytes.ghost_name
        → put_all (written a) (names_from s l c r n None) ≡ put_all (written p) (names_from s l c r (n - k) last)
        → Puts a p (names_from s l c r n None)
    unfolding names_from put_all
    names-end a p n k last h e i = record { same = e; text = sym (i ∙ rw (sub-eq-zero_of_le h)) }

  pub member-done : (n : ℕ) (a b c d : Writer) (o e v m : ℕ) → Puts a b (numbered member_word o) → Puts b c (numbered space_word v)
      → m ≡ member_at l e → Puts c d (required_text s l n m) → Puts a d (member_text s l n o e v)
  unfolding member_text
  member-done n a b c d o e v m f g q h = rw (← q) (puts_then _ _ _ _ _ (puts_then _ _ _ _ _ f g) h)
