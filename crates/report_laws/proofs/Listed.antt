-- A row is listed just where a lookup of its id answers a symbol of that column.
-- Assumes nothing.
use Rattle.std.specs.Prelude.{ℕ, zero, suc, ◌+◌, ◌<◌, ◌≡◌, refl, Bool, not, cond, List, eqb, length, count_by, Result, is_ok}
use Rattle.std.proofs.Common.{arith, sym, ap, ◌∙◌}
use borrow.Author.Tests.{eq-eqb, lt-leb}
use Rattle.cells.specs.Proof.Split.{by-test}
use Rattle.link.specs.declared.Link.{Link}
use Rattle.link.specs.Judge.{judge_of}
use Rattle.symbol.specs.Row.{state_at, kind_at, symbol_at}
use Rattle.symbol.specs.Codes.{value_at}
use Rattle.symbols.specs.Calls.{lent_of}
use Rattle.symbols.specs.Lookup.{found_at, get_of}
use Rattle.lot_report.specs.Count.{ids, count_below}
use Rattle.lot_report.specs.Figures.{Title, column_of, is_listed}
use Rattle.report_laws.specs.Listed.{seven, column_in, answers_in, looked_up, Whole}
use Rattle.report_laws.specs.Lot.{figure}
use Rattle.report_laws.proofs.Columns.{rows-are}
use Rattle.report_laws.proofs.Counts.{count-none, count-suc}

column-is : (symbols : List ℕ) (id c : ℕ) → eqb (column_of (kind_at symbols id)) c ≡ eqb (column_in (symbol_at symbols (record { 0 = id })).value) c
unfolding column_of value_at symbol_at
column-is symbols id c =
    let k : ℕ = kind_at symbols id in
    by-test (eqb k 1) (λ t. rw t)
    (λ t1.
    by-test (eqb k 2) (λ t. rw (t1, t))
    (λ t2.
    by-test (eqb k 3) (λ t. rw (t1, t2, t))
    (λ t3.
    by-test (eqb k 4) (λ t. rw (t1, t2, t3, t))
    (λ t4.
    by-test (eqb k 5) (λ t. rw (t1, t2, t3, t4, t))
    (λ t5.
    by-test (eqb k 6) (λ t. rw (t1, t2, t3, t4, t5, t))
    (λ t6.
    by-test (eqb k 7) (λ t. rw (t1, t2, t3, t4, t5, t6, t))
    (λ t7. by-test (eqb k 8) (λ t. rw (t1, t2, t3, t4, t5, t6, t7, t)) (λ t. rw (t1, t2, t3, t4, t5, t6, t7, t)))))))))

module _ (l : Link) (symbols : List ℕ) (sound : (judge_of l (lent_of l.chains (length symbols) l.slots)).number ≡ 0) (id c : ℕ) (counted : id < l.symbols) where
  pub listed-is : is_listed symbols c id ≡ answers_in c (get_of l symbols (record { 0 = id }))
  unfolding is_listed get_of found_at
  listed-is =
      rw (eq-eqb _ _ sound, lt-leb _ _ counted)
      (by-test (eqb (state_at symbols id) 2) (λ t. rw t) (λ t. rw t (column-is symbols id c)))

-- ---- the figures of a title

abbrev answers : Title → ℕ → ℕ → Bool
answers t c id = answers_in c (looked_up t id)

-- tests that agree below n count alike
counts-alike : (p q : ℕ → Bool) (n : ℕ) → ((id : ℕ) → id < n → p id ≡ q id) → count_below p n ≡ count_below q n
counts-alike p q zero h = count-none p ∙ sym (count-none q)
counts-alike p q (suc n) h =
    omega (arith, counts-alike p q n (λ id l. h id (omega (arith, l))), count-suc p n, count-suc q n, ap {B = ℕ} (λ (b : Bool). cond b 1 0) (h n (omega arith)))

column-figure : (t : Title) (c : ℕ) → c < 7 → figure c t ≡ count_below (is_listed t.symbols c) t.link.symbols
column-figure t zero h = refl
column-figure t (suc zero) h = refl
column-figure t (suc (suc zero)) h = refl
column-figure t (suc (suc (suc zero))) h = refl
column-figure t (suc (suc (suc (suc zero)))) h = refl
column-figure t (suc (suc (suc (suc (suc zero))))) h = refl
column-figure t (suc (suc (suc (suc (suc (suc zero)))))) h = refl
column-figure t (suc (suc (suc (suc (suc (suc (suc c))))))) h = absurd (omega arith)

module _ (t : Title) where
  abbrev stands : ℕ → Bool
  stands id = not (eqb (state_at t.symbols id) 2)

  pub rows-in : seven (λ c. figure c t) ≡ count_by stands (ids t.link.symbols)
  unfolding count_below
  rows-in = rows-are t.symbols t.link.symbols

  module _ (whole : Whole t) where
    pub columns-are : (c : ℕ) → c < 7 → figure c t ≡ count_by (answers t c) (ids t.link.symbols)
    unfolding count_below
    columns-are c h = column-figure t c h ∙ counts-alike (is_listed t.symbols c) (answers t c) t.link.symbols (λ id l. listed-is t.link t.symbols whole id c l)

    stands-is : (id : ℕ) → id < t.link.symbols → stands id ≡ is_ok (looked_up t id)
    unfolding get_of found_at
    stands-is id l = rw (eq-eqb _ _ whole, lt-leb _ _ l) (by-test (eqb (state_at t.symbols id) 2) (λ s. rw s) (λ s. rw s))

    pub rows-answer : seven (λ c. figure c t) ≡ count_by (λ id. is_ok (looked_up t id)) (ids t.link.symbols)
    unfolding count_below
    rows-answer = rows-in ∙ counts-alike stands (λ id. is_ok (looked_up t id)) t.link.symbols stands-is
