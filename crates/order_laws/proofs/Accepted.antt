-- A row whose fields pass is accepted, where there is room and its name has no strong definition yet if it is one.
-- Assumes nothing.
use Rattle.std.specs.Prelude.{ℕ, ◌≤◌, ◌<◌, ◌≡◌, refl, Bool, true, false, List, [], ◌∷◌, eqb, ltb, length, Option}
use Rattle.std.proofs.Common.{arith, sym, ap, ◌∙◌, subst, eqb-true, ltb-true, ltb-false, lt-ltb}
use Rattle.std.proofs.lemmas.Bool.{false≢true, lt-leb}
use Rattle.cells.specs.Proof.Split.{by-test}
use Rattle.link.specs.declared.Link.{Link}
use Rattle.link.specs.declared.Interned.{Interned}
use Rattle.link.specs.declared.SymbolId.{SymbolId}
use Rattle.link.specs.Bounds.{symbol_rows}
use Rattle.symbol.specs.declared.Row.{Row}
use Rattle.symbol.specs.Row.{scope_refused, value_refused}
use Rattle.symbol_resolution.specs.declared.rows.Holder.{Holder}
use Rattle.symbol_resolution.specs.declared.rows.Holder.TheVariants.{Nobody, Known}
use Rattle.symbol_resolution.specs.Decision.{Decision}
use Rattle.symbol_resolution.specs.Decide.{strong_rank, type_refusal, section_room, room_of, decide_of, refusal_of}
use Rattle.symbol_resolution.specs.Proof.Outcomes.{absent_under, fresh_under, is_local_row, row_rank, held_rank, Meets, Outcome, outcome, unscoped, absent, unvalued, untyped, full, appended, twice, replaced, kept, amended}
use Rattle.symbols.specs.Add.{file_issued, issued_of, direct_holder_of}
use Rattle.symbol_laws.specs.Rank.{ranked, best, count, strong_definition}
use Rattle.symbol_laws.proofs.Rank.{rank-strong, rank_most, best-counts}
use Rattle.symbol_laws.specs.Standing.{row_after}
use Rattle.symbol_laws.proofs.Standing.{rank-after}
use Rattle.symbol.specs.Row.{row_at}
use Rattle.symbol_laws.specs.History.{State, Entry, only, rows}
use Rattle.symbol_laws.specs.Held.{Holds, Held, Inv}
use Rattle.symbol_laws.proofs.Demand.{holder_known, holder-none}

-- ---- under any holder

module _ (l : Link) (symbols sections : List ℕ) (r : Row) (h : Holder) where
  -- it isn't 21, 10 to 12, 13 or 14, 15 or 16, 2, 17
  pub decided-accepts : absent_under (is_local_row r) h ≡ false → scope_refused r ≡ false → value_refused r ≡ false → eqb (type_refusal r.kind) 0 ≡ true
      → (fresh_under (is_local_row r) h ≡ true → room_of l symbols sections r ≡ true)
      → ((id : SymbolId) → Meets r h id → eqb (row_rank r l.gabi) strong_rank ≡ true → ltb (held_rank l.gabi symbols id) (row_rank r l.gabi) ≡ true)
      → refusal_of (decide_of l symbols sections r h) ≡ 0
  decided-accepts there scope value typed room first = by _ refl (outcome l symbols sections r h)
    where
      by : (d : Decision) → decide_of l symbols sections r h ≡ d → Outcome l symbols sections r h d → refusal_of d ≡ 0
      by d e (unscoped v q) = absurd (false≢true (sym scope ∙ v))
      by d e (absent v a q) = absurd (false≢true (sym there ∙ a))
      by d e (unvalued v w q) = absurd (false≢true (sym value ∙ w))
      by d e (untyped p k q) = absurd (false≢true (sym k ∙ typed))
      by d e (full p f m q) = absurd (false≢true (sym m ∙ room f))
      by d e (appended p t f m q) = ap refusal_of q
      by d e (twice p id m y k q) = absurd (false≢true (sym y ∙ first id m k))
      by d e (replaced p t id m y q) = ap refusal_of q
      by d e (kept p id m y k j x q) = ap refusal_of q
      by d e (amended p id m y k q) = ap refusal_of q

pub has-room : (l : Link) (symbols sections : List ℕ) (r : Row) → l.symbols < symbol_rows (length symbols) → section_room l sections r ≡ true → room_of l symbols sections r ≡ true
unfolding room_of
has-room l symbols sections r h e = rw (lt-leb (symbol_rows (length symbols)) l.symbols h, e)

-- ---- under a name that was issued

module _ (s : State) (past : List Entry) (inv : Inv s past) (r : Row) (file : Option Interned) where
  abbrev n : ℕ
  n = r.name.0

  abbrev pub holder : Holder
  holder = direct_holder_of s.link s.names s.symbols r.name file

  -- nobody's before the name's first add, then that add's row
  pub data HeldBy : Type 0 where
    nobody : only n past ≡ [] → holder ≡ Nobody → HeldBy
    known : (x : Entry) (xs : List Entry) → only n past ≡ x ∷ xs → holder ≡ Known (record { 0 = x.id }) → HeldBy

  issued-holder : n < s.link.names → file_issued s.link file ≡ true → (l : List Entry) → only n past ≡ l → HeldBy
  unfolding direct_holder_of issued_of
  issued-holder i f [] e = nobody e (rw (lt-leb s.link.names n i, f) (holder-none s past inv n e))
  issued-holder i f (x ∷ xs) e = known x xs e (rw (lt-leb s.link.names n i, f) (holder_known s past inv n x xs e))

  pub held-by : n < s.link.names → file_issued s.link file ≡ true → HeldBy
  held-by i f = issued-holder i f (only n past) refl

  pub present : HeldBy → absent_under (is_local_row r) holder ≡ false
  present (nobody e q) = rw q
  present (known x xs e q) = rw q

  -- a strong definition displaces a row under which there was none
  module _ (none : count strong_definition (rows (only n past)) ≡ 0) where
    module _ (x : Entry) (xs : List Entry) (e : only n past ≡ x ∷ xs) (i : n < s.link.names) where
      abbrev g : Bool
      g = s.link.gabi

      abbrev first : Row
      first = best (ranked g) x.row (rows xs)

      row-held : ranked g (row_at s.symbols x.id) ≡ ranked g first
      row-held =
          let h : Holds s n x.id (row_after g x.row (rows xs)) = subst (Held s n) e (inv.held_by n i) in
          ap (ranked g) h.content ∙ rank-after g (x.row ∷ rows xs) first

      not-strong : ranked g first < 4
      not-strong =
          by-test (ltb (ranked g first) 4) (λ t. ltb-true _ _ t)
          (λ t.
          let four : ranked g first ≡ 4 = omega (arith, ltb-false (ranked g first) 4 t, rank_most first g) in
          let some : 1 ≤ count strong_definition (x.row ∷ rows xs) = best-counts g x.row (rows xs) (rank-strong first g four) in
          absurd (omega (arith, some, sym (ap (λ (l : List Entry). count strong_definition (rows l)) e) ∙ none)))

    pub displaces : HeldBy → n < s.link.names → (id : SymbolId) → Meets r holder id → eqb (row_rank r s.link.gabi) strong_rank ≡ true
        → ltb (held_rank s.link.gabi s.symbols id) (row_rank r s.link.gabi) ≡ true
    displaces (nobody e q) i id m k = absurd (nobody-not (sym q ∙ m.known))
      where
        nobody-not : Nobody ≡ Known id → ⊥
        nobody-not p = let z : ◌≡◌ {A = ℕ} 0 1 = cc in omega arith
    displaces (known x xs e q) i id m k =
        let p : Known (record { 0 = x.id }) ≡ Known id = sym q ∙ m.known in
        let w : record { 0 = x.id } ≡ id = cc in
        let four : row_rank r s.link.gabi ≡ 4 = eqb-true _ _ k in
        subst (λ (j : SymbolId). ltb (held_rank s.link.gabi s.symbols j) (row_rank r s.link.gabi) ≡ true) w
        (lt-ltb _ _ (omega (arith, row-held x xs e i, not-strong x xs e i, four)))
