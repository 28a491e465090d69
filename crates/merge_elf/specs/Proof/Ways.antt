-- The ways through the merge of an object.
-- Assumes nothing.
use Rattle.std.specs.Prelude.{◌≡◌, ◌≢◌, refl, Result, Ok, Err, IfErr}
use Rattle.std.proofs.Common.{ap, ◌∙◌}
use borrow.Author.Tests.{eq-eqb, ne_eqb}
use Rattle.link.specs.declared.Link.{Link}
use Rattle.link.specs.declared.cause.Refusal.{Refusal}
use Rattle.link.specs.Judge.{judged, stage_as, broken_of}
use Rattle.link.specs.Proof.Judged.{judged-err, judged-refused, judged-fine}
use Rattle.merge_stages.specs.Stages.{All, Object, stages_of}
use Rattle.merge_elf.specs.Merge.{leave, ended_as, ended_of, head_in, finished_of, merge_of}

-- a refusal breaks the link
abbrev pub link_ended : Link → Result Unit Refusal → Link
link_ended l (Ok tt) = l
link_ended l (Err r) = broken_of l

ended : (a : All) (l : Link) (r : Result Unit Refusal) → a.stage ≡ stage_as l r → IfErr r (λ (e : Refusal). e.number ≢ 0) → leave a (link_ended l r) r ≡ ended_of a
unfolding ended_as
ended a l (Ok tt) e h = rw e refl
ended a l (Err r) e h = rw e (simp (ne_eqb _ _ h))

module _ (o : Object) (a : All) where
  pub head-refused : (r : Refusal) → judged (head_in o a) ≡ Err r → leave a a.stage.link (Err r) ≡ merge_of o a
  unfolding merge_of
  head-refused r e = rw (judged-err _ _ e) (simp (ne_eqb _ _ (judged-refused _ _ e)))

  pub stages-ended : (u : Unit) (b : All) (l : Link) (r : Result Unit Refusal) → judged (head_in o a) ≡ Ok u → b ≡ stages_of o a → b.stage ≡ stage_as l r
      → IfErr r (λ (e : Refusal). e.number ≢ 0) → leave b (link_ended l r) r ≡ merge_of o a
  unfolding merge_of finished_of
  stages-ended u b l r e q f h = ended b l r f h ∙ ap ended_of q ∙ simp (eq-eqb _ _ (judged-fine _ _ e))
