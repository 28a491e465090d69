-- What each answer says: the pass number is the walk's, archive and offset are the entry's; a refusal leaves the walk and the cells.
-- Assumes nothing.
use Rattle.archive_walk.specs.declared.Offer.TheVariants.{Done, Member}
use Rattle.link.specs.declared.cause.Refusal.{Refusal}
use Rattle.archive_walk.specs.declared.Offer.{Offer}
use Rattle.std.specs.Prelude.{ℕ, ◌≡◌, Bool, ◌&&◌, List, eqb, Result, Ok, Err}
use Rattle.std.proofs.Math.Bool.{true, false}
use Rattle.archive_index.specs.Archives.{Archives, member_of}
use Rattle.archive_walk.specs.declared.Walk.{Walk}
use Rattle.archive_walk.specs.Walk.{number_of, Step}

-- the passes that an answer tells, and whether it says "done"; a refusal tells what the walk says
abbrev pub passes_told : Walk → Result Offer Refusal → ℕ
passes_told w (Ok (Member j o e p)) = p
passes_told w (Ok (Done p)) = p
passes_told w (Err r) = w.passes

abbrev pub done_told : Walk → Result Offer Refusal → Bool
done_told w (Ok (Member j o e p)) = false
done_told w (Ok (Done p)) = true
done_told w (Err r) = w.done

-- a member's archive and offset are its entry's
abbrev pub member_told : Archives → Result Offer Refusal → Bool
member_told a (Ok (Member j o e p)) = eqb j (member_of a e).archive && eqb o (member_of a e).offset
member_told a (Ok (Done p)) = true
member_told a (Err r) = true

module _ (s : Archives) where
  pub record Right (l : List ℕ) (w : Walk) (x : Step) : Type 0 where
    -- "A walk's result carries its count of passes"
    pub passes : passes_told x.moved.walk x.moved.offer ≡ x.moved.walk.passes
    pub done : done_told x.moved.walk x.moved.offer ≡ x.moved.walk.done
    pub member : member_told s x.moved.offer ≡ true
    -- a refusal leaves all
    pub leaves-walk : (number_of x.moved.offer ≡ 0 → ⊥) → x.moved.walk ≡ w
    pub leaves-cells : (number_of x.moved.offer ≡ 0 → ⊥) → x.cells ≡ l
