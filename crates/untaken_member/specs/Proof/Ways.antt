-- The ways through the functions.
-- Assumes nothing.
use Rattle.std.specs.Prelude.{ℕ, zero, Bool, suc, true, false, eqb, ◌+◌, ◌-◌, ◌/◌, ◌<◌, ◌≤◌, ◌≡◌, refl, List, [], set, length, Option, Some, None, Ok, Err}
use Rattle.std.proofs.Common.{sym, ap, ◌∙◌, arith, sub-eq-zero_of_le, add-zero, add-one}
use Rattle.std.proofs.lemmas.List.Edits.{sets}
use borrow.Author.Tests.{ne_eqb, eq-eqb, lt-ltb, le-ltb}
use Rattle.link.specs.declared.SymbolId.{SymbolId}
use Rattle.link.specs.declared.cause.Refusal.{Refusal}
use Rattle.link.specs.Judge.{refused, judged}
use Rattle.link.specs.Proof.Judged.{judged-err, judged-refused, judged-fine}
use Rattle.archive_walk.specs.Look.{Table}
use Rattle.elf_object.specs.Kinds.{symbol_table}
use Rattle.elf_object.specs.Rows.{is_loaded, rows_in, link_at, entries_from, first_at, count_at, table_entries, section_of}
use Rattle.elf_object.specs.Proof.Ways.{one_less}
use Rattle.untaken_member.specs.Untaken.{Symbols, table_below, cell_of, symbols_of, tabled_of, loaded_of, told_from, left, listed, told_of, roomed_of, head_of, would_of}

-- ---- the loaded symbol table

-- one more section
module _ (headers : List ℕ) (n : ℕ) (t u : Option ℕ) (b : Bool) (e : b ≡ is_loaded headers n symbol_table) where
  pub table-met : b ≡ true → u ≡ Some n → cell_of u ≡ table_below headers (n + 1)
  unfolding table_below
  table-met f g = rw (g, add-one n, ← e, f) (sym (add-one n))

  pub table-stays : b ≡ false → u ≡ t → cell_of t ≡ table_below headers n → cell_of u ≡ table_below headers (n + 1)
  unfolding table_below
  table-stays f g h = rw (g, add-one n, ← e, f) h

module _ (headers entries image : List ℕ) (c : ℕ) where
  pub loaded-some : (n : ℕ) (own : List ℕ) (o : Option ℕ) → o ≡ Some n → cell_of o ≡ c → own ≡ entries_from entries (first_at headers n) (count_at headers n)
      → symbols_of headers image own (link_at headers n) ≡ tabled_of headers entries image c
  unfolding table_entries section_of
  loaded-some n own o f q e =
      let g : n + 1 ≡ c = sym (ap cell_of f) ∙ q in
      let m : n + 1 - 1 ≡ n = omega arith in
      let z : eqb (n + 1) 0 ≡ false = ne_eqb _ _ (λ p. omega (arith, p)) in
      rw (← g, e, z, m)

  pub loaded-none : (o : Option ℕ) → o ≡ None → cell_of o ≡ c → symbols_of headers image [] (link_at headers 0) ≡ tabled_of headers entries image c
  unfolding table_entries section_of
  loaded-none o f q = let g : 0 ≡ c = sym (ap cell_of f) ∙ q in rw (← g)

-- ---- the list of those that are told

module _ (told : ℕ → Option SymbolId) (c i n a : ℕ) (x l m : List ℕ) (y : ℕ) (h : i < c) where
  module _ (id : SymbolId) (e : Some id ≡ told i) (f : a ≡ n + 2) (g : m ≡ set (set l n i) (n + 1) id.0) where
    pub told-take : x ≡ sets l n (told_from told i (c - i)) → x ≡ sets m a (told_from told (i + 1) (c - (i + 1)))
    unfolding told_from
    told-take q = let two : n + 2 ≡ suc (suc n) = omega arith in q ∙ rw (one_less c i h, ← e, f, two, g, add-one n)

    pub count-take : y ≡ n + length (told_from told i (c - i)) → y ≡ a + length (told_from told (i + 1) (c - (i + 1)))
    unfolding told_from
    count-take q = q ∙ rw (one_less c i h, ← e, f) (omega arith)

  module _ (e : None ≡ told i) (f : a ≡ n) (g : m ≡ l) where
    pub told-leave : x ≡ sets l n (told_from told i (c - i)) → x ≡ sets m a (told_from told (i + 1) (c - (i + 1)))
    unfolding told_from
    told-leave q = q ∙ rw (one_less c i h, ← e, f, g)

    pub count-leave : y ≡ n + length (told_from told i (c - i)) → y ≡ a + length (told_from told (i + 1) (c - (i + 1)))
    unfolding told_from
    count-leave q = q ∙ rw (one_less c i h, ← e, f)

-- by one test or by another that agrees with it
pub told_same : (p q : ℕ → Option SymbolId) (n i : ℕ) → ((j : ℕ) → p j ≡ q j) → told_from p i n ≡ told_from q i n
unfolding told_from
told_same p q zero i e = refl
told_same p q (suc n) i e = rw (e i, told_same p q n (i + 1) e)

-- of all symbols
module _ (told : ℕ → Option SymbolId) (c i a : ℕ) (l m : List ℕ) where
  pub told-end : c ≤ i → sets l 0 (told_from told 0 c) ≡ sets m a (told_from told i (c - i)) → length (told_from told 0 c) ≡ a + length (told_from told i (c - i))
      → left m (Ok (a / 2)) ≡ listed l (told_from told 0 c)
  unfolding told_from
  told-end h e f =
      let z : c - i ≡ 0 = sub-eq-zero_of_le h in
      let p : sets l 0 (told_from told 0 c) ≡ m = e ∙ rw z in
      let q : length (told_from told 0 c) ≡ a = f ∙ rw z (add-zero a) in
      rw (p, q)

-- ---- the call

module _ (headers entries contents image : List ℕ) (t : Table) (c : List ℕ) where
  pub would-judged : (r : Refusal) → Err r ≡ judged (head_of headers entries contents image t) → left c (Err r) ≡ would_of headers entries contents image t c
  unfolding would_of
  would-judged r e =
      let f : r ≡ head_of headers entries contents image t = judged-err _ r (sym e) in
      rw f (sym (rw (ne_eqb _ _ (judged-refused _ r (sym e)))))

  module _ (u : Unit {0}) (e : Ok u ≡ judged (head_of headers entries contents image t)) (o : Symbols) (f : o ≡ loaded_of headers entries image) where
    pub would-short : (r : Refusal) → length c / 2 < rows_in o.entries → r ≡ refused 2 0 → left c (Err r) ≡ would_of headers entries contents image t c
    unfolding would_of roomed_of
    would-short r h q = rw q (sym (rw (eq-eqb _ _ (judged-fine _ u (sym e)), ← f, lt-ltb _ _ h)))

    pub would-tell : (m : List ℕ) (n : ℕ) → rows_in o.entries ≤ length c / 2 → left m (Ok n) ≡ told_of o t c → left m (Ok n) ≡ would_of headers entries contents image t c
    unfolding would_of roomed_of
    would-tell m n h q = q ∙ sym (rw (eq-eqb _ _ (judged-fine _ u (sym e)), ← f, le-ltb _ _ h))
