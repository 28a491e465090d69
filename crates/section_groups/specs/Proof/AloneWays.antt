-- The ways through a group's own call.
-- Assumes nothing.
use Rattle.std.specs.Prelude.{ℕ, ◌≡◌, ◌≢◌, refl, List, Result, Ok, Err, IfErr}
use Rattle.std.proofs.Common.{ap, ◌∙◌}
use borrow.Author.Tests.{eq-eqb, ne_eqb}
use Rattle.link.specs.declared.Link.{Link}
use Rattle.link.specs.declared.cause.Refusal.{Refusal}
use Rattle.link.specs.Judge.{judged, stage_as}
use Rattle.link.specs.Proof.Judged.{judged-err, judged-refused, judged-fine}
use Rattle.section_groups.specs.Group.{Object, State, step_of, group_of}
use Rattle.section_groups.specs.AddGroup.{left_of, answer_of, answered, head_in, loaded_in, add_group_of}

-- a refusal inside a group is answered as it is
answer-as : (l : Link) (a : Result Unit Refusal) → IfErr a (λ (r : Refusal). r.number ≢ 0) → record { link = l; answer = a } ≡ answer_of (stage_as l a)
unfolding answer_of
answer-as l (Ok tt) h = refl
answer-as l (Err r) h = simp (ne_eqb _ _ h)

module _ (o : Object) (s : State) (n : ℕ) where
  pub head-refused : (r : Refusal) → judged (head_in o s n) ≡ Err r → left_of s.bytes s.names s.work (record { link = s.link; answer = Err r }) ≡ add_group_of o s n
  unfolding add_group_of
  head-refused r e = rw (judged-err _ _ e) (simp (ne_eqb _ _ (judged-refused _ _ e)))

  pub group-taken : (u : Unit) (b m w b' m' w' : List ℕ) (l : Link) (a : Result Unit Refusal) → b ≡ b' → m ≡ m' → w ≡ w' → judged (head_in o s n) ≡ Ok u
      → step_of b' m' w' (stage_as l a) ≡ group_of (loaded_in o) s n → IfErr a (λ (r : Refusal). r.number ≢ 0)
      → left_of b m w (record { link = l; answer = a }) ≡ add_group_of o s n
  unfolding add_group_of
  group-taken u b m w b' m' w' l a eb em ew e q h =
      rw (eb, em, ew) (ap (left_of b' m' w') (answer-as l a h) ∙ ap answered q ∙ simp (eq-eqb _ _ (judged-fine _ _ e)))
