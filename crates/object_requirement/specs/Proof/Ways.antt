-- The ways through the functions.
-- Assumes nothing.
use Rattle.std.specs.Prelude.{ℕ, zero, suc, ◌+◌, ◌-◌, ◌≡◌, ◌||◌, refl, Bool, true, false, cond, List, Ok, Err}
use Rattle.std.specs.List.{list_any, range_with_len}
use Rattle.std.proofs.Common.{◌∙◌, arith, sym}
use borrow.Author.Tests.{eq-eqb, ne_eqb}
use Rattle.cells.specs.Search.{any_from}
use Rattle.link.specs.declared.cause.Refusal.{Refusal}
use Rattle.link.specs.Judge.{refused, judged}
use Rattle.link.specs.Proof.Judged.{judged-err, judged-refused, judged-fine}
use Rattle.elf_object.specs.Rows.{link_at, first_at, count_at, entries_from, section_of, table_entries}
use Rattle.object_requirement.specs.Matches.{in_table, is_table, in_section, admission, after_judging}

-- a search by ascending number, by the library's word
pub any-listed : (p : ℕ → Bool) (i n : ℕ) → any_from p i n ≡ list_any p (range_with_len i n)
unfolding any_from
any-listed p i zero = refl
any-listed p i (suc n) = go (p i) (any-listed p (i + 1) n)
  where
    go : (b : Bool) → any_from p (i + 1) n ≡ list_any p (range_with_len (i + 1) n)
        → cond b true (any_from p (i + 1) n) ≡ (b || list_any p (range_with_len (i + 1) n))
    go true e = refl
    go false e = e

-- the entries of section n's table
module _ (gabi : Bool) (headers entries image : List ℕ) (required : List ℕ → Bool) (n : ℕ) where
  pub section-looked : (own : List ℕ) (b : Bool) → true ≡ is_table headers n → own ≡ entries_from entries (first_at headers n) (count_at headers n)
      → b ≡ in_table gabi headers image (link_at headers n) own required → b ≡ in_section gabi headers entries image required n
  unfolding in_section table_entries section_of
  section-looked own b t e f =
      let z : n + 1 ≡ 0 → ⊥ = λ q. omega (arith, q) in
      let m : n + 1 - 1 ≡ n = omega arith in
      f ∙ simp (e, ← t, ne_eqb _ _ z, m)

-- the object's rows, the walk's, and then yes or no
module _ (j : Refusal) (offered yes : Bool) where
  pub match-refused : (r : Refusal) → Err r ≡ judged j → Err r ≡ after_judging j (cond offered (admission yes) (Err (refused 1 0)))
  match-refused r e = rw (judged-err j r (sym e)) (simp (ne_eqb _ _ (judged-refused j r (sym e))))

  module _ (u : Unit) (e : Ok u ≡ judged j) where
    pub match-strange : (r : Refusal) → false ≡ offered → r ≡ refused 1 0 → Err r ≡ after_judging j (cond offered (admission yes) (Err (refused 1 0)))
    match-strange r o f = rw f (simp (eq-eqb _ _ (judged-fine j u (sym e)), ← o))

    pub match-answered : (b : Bool) → true ≡ offered → b ≡ yes → Ok b ≡ after_judging j (cond offered (admission yes) (Err (refused 1 0)))
    match-answered b o f = go b ∙ simp (eq-eqb _ _ (judged-fine j u (sym e)), ← o, f)
      where
        go : (t : Bool) → Ok t ≡ admission t
        go true = refl
        go false = refl
