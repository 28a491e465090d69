-- A direct add as a call: 22 and 1 come before its row is judged; past them it answers as its row does.
-- Assumes nothing.
use Rattle.link.specs.declared.Interned.{Interned}
use Rattle.std.specs.Prelude.{ℕ, ◌/◌, refl, true, false, List, eqb, leb, length, Option, None}
use Rattle.std.proofs.Common.{arith, ◌∙◌, eq-eqb}
use Rattle.std.proofs.Math.Path.{◌≡◌, sym, ap}
use Rattle.cells.specs.Proof.Split.{by-test}
use Rattle.byte_slices.specs.Proof.Ways.{pick}
use Rattle.link.specs.declared.cause.Refusal.{Refusal}
use Rattle.link.specs.Bounds.{not_lent, name_rows, name_bytes, section_slots}
use Rattle.link.specs.Judge.{none, judge_sections, judge_names, judge_lists, change_of}
use Rattle.link.specs.Judge as Link
use Rattle.link.specs.Proof.Ways as Ways
use Rattle.link.specs.Said.{number_in}
use Rattle.symbol.specs.declared.Row.{Row}
use Rattle.symbol.specs.Row.{scope_refused}
use Rattle.symbol_resolution.specs.declared.rows.Holder.TheVariants.{Unissued}
use Rattle.symbol_resolution.specs.Decision.{Decision}
use Rattle.symbol_resolution.specs.Decide.{refusal_of}
use Rattle.symbol_resolution.specs.Proof.Outcomes.{name-absent}
use Rattle.symbol_resolution.specs.Apply.{Table}
use Rattle.upcoming_symbol.specs.declared.UpcomingSymbol.{UpcomingSymbol}
use Rattle.upcoming_symbol.specs.Judge.{in_range}
use Rattle.symbols.specs.Add.{lent, judge_add_of, file_of, file_issued, issued_of, direct_holder_of, decided_of, add_of}
use Rattle.symbols.specs.Proof.AddOutcomes.{added-number}
use Rattle.symbol_laws.specs.History.{State, Entry, table, upcoming, put_of}
use Rattle.symbol_laws.specs.Held.{Inv}
use Rattle.symbol_laws.specs.Within.{Within}
use Rattle.symbol_laws.proofs.Duplicate.{put-number}
use Rattle.merge_laws.proofs.ByNumber.{changed}
use Rattle.link_laws.specs.AddHead.{IsWhole, IsInRange}
use Rattle.link_laws.proofs.NeverRemoved.{lesser-most}

-- ---- the row's own number, with or without a file

module _ (t : Table) (r : Row) (file : Option Interned) where
  issued-same : file_issued t.link file ≡ true → issued_of t.link r.name file ≡ issued_of t.link r.name None
  unfolding issued_of
  issued-same e = rw e

  decided-same : file_issued t.link file ≡ true → decided_of t r file ≡ decided_of t r None
  unfolding decided_of direct_holder_of
  decided-same e = rw (issued-same e)

  -- 21, where the file's name isn't issued
  unissued-not : file_issued t.link file ≡ false → issued_of t.link r.name file ≡ false
  unfolding issued_of
  unissued-not e = by-test (leb t.link.names r.name.0) (λ a. rw a) (λ a. rw (a, e))

  unissued-number : scope_refused r ≡ false → file_issued t.link file ≡ false → refusal_of (decided_of t r file) ≡ 21
  unfolding decided_of direct_holder_of
  unissued-number p e = rw (unissued-not e, name-absent t.link t.symbols t.sections r p Unissued refl)

-- ---- the call

module _ (s : State) (conversion : List ℕ) (u : UpcomingSymbol) where
  abbrev r : Row
  r = upcoming s conversion u

  abbrev judged : Refusal
  judged = judge_add_of s.link (lent (table s)) u

  abbrev number : ℕ
  number = number_in (add_of (table s) conversion u).said

  -- the head gives no 17
  head-number : judged.number ≡ 17 → ⊥
  unfolding judge_add_of
  head-number =
      pick P (eqb (change_of s.link (lent (table s))).number 0) _ _
      (λ a. pick P (in_range u) _ _ (λ b. change-not) (λ b e. omega arith)) (λ a. change-not)
    where
      P : Refusal → Type 0
      P x = x.number ≡ 17 → ⊥

      change-not : (change_of s.link (lent (table s))).number ≡ 17 → ⊥
      change-not = changed P (λ e. omega arith) (λ k e. omega arith) (λ e. omega arith) s.link (lent (table s))

  pub seventeen-row : scope_refused r ≡ false → number ≡ 17 → number_in (put_of s r).said ≡ 17
  unfolding add_of
  seventeen-row p e =
      by-test (eqb judged.number 0)
      (λ a.
      let q : refusal_of (decided_of (table s) r (file_of u)) ≡ 17 = sym (added-number (table s) r (file_of u)) ∙ (rw a at e) in
      by-test (file_issued s.link (file_of u))
      (λ b. put-number s r ∙ ap (λ (d : Decision). refusal_of d) (sym (decided-same (table s) r (file_of u) b)) ∙ q)
      (λ b. let z : ◌≡◌ {A = ℕ} 21 17 = sym (unissued-number (table s) r (file_of u) p b) ∙ q in absurd (omega arith)))
      (λ a. absurd (head-number (rw a at e)))

  -- past the head, and with a file whose name is issued
  pub row-answers : judged.number ≡ 0 → file_issued s.link (file_of u) ≡ true → number ≡ number_in (put_of s r).said
  unfolding add_of
  row-answers h f =
      rw (eq-eqb _ _ h)
      (added-number (table s) r (file_of u) ∙ ap (λ (d : Decision). refusal_of d) (decided-same (table s) r (file_of u) f) ∙ sym (put-number s r))

  -- ---- the head, of a link that a history reached: it isn't broken, the section rows of the new table are lent, and the symbol's fields are
  -- in range

  module _ (past : List Entry) (inv : Inv s past) (w : Within s.link s.names) (whole : IsWhole s.link)
      (sections : none ≡ judge_sections s.link (section_slots (length s.sections))) (ranged : IsInRange u) where
    names-judged : none ≡ judge_names s.link (name_rows (length s.names)) not_lent
    names-judged =
        Ways.names-fine s.link (name_rows (length s.names)) not_lent none (name_bytes not_lent) w.chains-lent w.names_in
        refl (lesser-most 1048576 not_lent s.link.bytes w.bytes-in (omega (arith, w.bytes-in))) refl

    lists-judged : none ≡ judge_lists s.link not_lent not_lent
    lists-judged =
        Ways.lists-fine s.link not_lent not_lent none _ refl (lesser-most 4095 (not_lent / 8) s.link.inputs w.inputs_in (omega (arith, w.inputs_in))) w.lists-in refl

    rows-judged : none ≡ Link.judge_of s.link (lent (table s))
    rows-judged =
        Ways.over-rest s.link (lent (table s)) none none _ none sections refl
        refl (lesser-most 65535 (length s.symbols / 8) s.link.symbols inv.few (omega (arith, inv.room))) names-judged refl lists-judged

    change-judged : none ≡ change_of s.link (lent (table s))
    change-judged = Ways.change-judged s.link (lent (table s)) none whole rows-judged

    pub head-passes : judged.number ≡ 0
    unfolding judge_add_of
    head-passes = rw (sym change-judged, ranged)
