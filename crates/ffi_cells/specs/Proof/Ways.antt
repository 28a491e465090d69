-- A header in which the answer is written, and of the link only what a call changed.
-- Assumes nothing.
use Rattle.std.specs.Prelude.{ℕ, ◌<◌, ◌≡◌, ◌≢◌, refl, List, [], ◌∷◌, get_or, set}
use Rattle.std.proofs.Common.{arith, sym, ap, ◌∙◌, get_or-set_other}
use Rattle.std.proofs.lemmas.List.{set-get_or}
use Rattle.std.proofs.lemmas.List.Edits.{sets}
use Rattle.link.specs.Counts.{with_names, with_symbols}
use Rattle.cells.specs.Rows.{put_row}
use Rattle.ffi_cells.specs.declared.header.Reply.{Reply}
use Rattle.ffi_cells.specs.Header.{is_set, flag_of, link_in, link_with, reply_in, counts_in, profile_in, header_of, told, tell_of, answer_of, answer_in, settled}

-- what stands there is written
same : (k : List ℕ) (i v : ℕ) → v ≡ get_or k i 0 → set k i v ≡ k
same k i v e = ap (λ (w : ℕ). set k i w) e ∙ set-get_or k i 0

-- another cell is written
other : (k : List ℕ) (j v i : ℕ) → i ≢ j → get_or (set k j v) i 0 ≡ get_or k i 0
other k j v i ne = get_or-set_other k j i v 0 ne

answer-key : (h : List ℕ) (r : Reply) → get_or (answer_in h r) 15 0 ≡ get_or h 15 0
answer-key h r =
    let a = set h 9 r.number in
    let b = set a 10 r.place in
    let c = set b 11 r.first in
    let d = set c 12 r.second in
    let e = set d 13 r.third in
    other e 14 r.fourth 15 (λ z. omega arith)
    ∙ other d 13 r.third 15 (λ z. omega arith)
    ∙ other c 12 r.second 15 (λ z. omega arith)
    ∙ other b 11 r.first 15 (λ z. omega arith)
    ∙ other a 10 r.place 15 (λ z. omega arith)
    ∙ other h 9 r.number 15 (λ z. omega arith)

-- cell 15 is what it was
key-kept : (h k : List ℕ) (broken : ℕ) (r : Reply) → get_or k 15 0 ≡ get_or h 15 0 → reply_in k broken (get_or h 15 0) r ≡ answer_in (set k 8 broken) r
unfolding reply_in put_row
key-kept h k broken r e = same (answer_in (set k 8 broken) r) 15 (get_or h 15 0) (sym (answer-key (set k 8 broken) r ∙ other k 8 broken 15 (λ z. omega arith) ∙ e))

pub answer_told : (h k : List ℕ) (r : Reply) → k ≡ answer_in h r → told r.number k ≡ answer_of h r
unfolding answer_of
answer_told h k r e =
    ap (told r.number) (e ∙ sym (key-kept h h (get_or h 8 0) r refl ∙ ap (λ (l : List ℕ). answer_in l r) (set-get_or h 8 0)))

-- the counts are written, cell 15 is what it was
module _ (h k : List ℕ) (r : Reply) (profile : get_or k 16 0 ≡ get_or h 16 0) (broken : get_or k 8 0 ≡ get_or h 8 0) (key : get_or k 15 0 ≡ get_or h 15 0) where
  settled-as : settled k r ≡ reply_in (set k 16 (flag_of (is_set (get_or h 16 0)))) (flag_of (is_set (get_or h 8 0))) (get_or h 15 0) r
  settled-as =
      rw (profile, broken)
      (sym (key-kept h (set k 16 (flag_of (is_set (get_or h 16 0)))) (flag_of (is_set (get_or h 8 0))) r (other k 16 _ 15 (λ z. omega arith) ∙ key)))

-- the counts behind cell 2
rest : (h k : List ℕ) → ((i : ℕ) → 2 < i → get_or h i 0 ≡ get_or k i 0)
    → sets k 3 (get_or h 3 0 ∷ get_or h 4 0 ∷ get_or h 5 0 ∷ get_or h 6 0 ∷ get_or h 7 0 ∷ []) ≡ k
rest h k kept =
    ap (λ (m : List ℕ). sets m 4 (get_or h 4 0 ∷ get_or h 5 0 ∷ get_or h 6 0 ∷ get_or h 7 0 ∷ [])) (same k 3 _ (kept 3 (omega arith)))
    ∙ ap (λ (m : List ℕ). sets m 5 (get_or h 5 0 ∷ get_or h 6 0 ∷ get_or h 7 0 ∷ [])) (same k 4 _ (kept 4 (omega arith)))
    ∙ ap (λ (m : List ℕ). sets m 6 (get_or h 6 0 ∷ get_or h 7 0 ∷ [])) (same k 5 _ (kept 5 (omega arith)))
    ∙ ap (λ (m : List ℕ). sets m 7 (get_or h 7 0 ∷ [])) (same k 6 _ (kept 6 (omega arith)))
    ∙ same k 7 _ (kept 7 (omega arith))

-- of a call that changes no count but those of names
module _ (h : List ℕ) (n b : ℕ) where
  abbrev named : List ℕ
  named = set (set h 0 n) 1 b

  name-kept : (i : ℕ) → 1 < i → get_or h i 0 ≡ get_or named i 0
  name-kept i p = sym (other (set h 0 n) 1 b i (λ e. omega arith) ∙ other h 0 n i (λ e. omega arith))

  counts-named : counts_in h (with_names (link_in h) n b) ≡ named
  unfolding counts_in put_row link_in link_with
  counts-named =
      ap (λ (k : List ℕ). sets k 3 (get_or h 3 0 ∷ get_or h 4 0 ∷ get_or h 5 0 ∷ get_or h 6 0 ∷ get_or h 7 0 ∷ [])) (same named 2 _ (name-kept 2 (omega arith)))
      ∙ rest h named (λ i p. name-kept i (omega arith))

  pub names_told : (k : List ℕ) (r : Reply) → k ≡ settled named r → told r.number k ≡ tell_of h (with_names (link_in h) n b) r
  unfolding tell_of header_of profile_in link_in link_with
  names_told k r e =
      ap (told r.number)
      (e ∙ settled-as h named r (sym (name-kept 16 (omega arith))) (sym (name-kept 8 (omega arith))) (sym (name-kept 15 (omega arith))) ∙ rw counts-named refl)

-- and none but that of symbols
module _ (h : List ℕ) (n : ℕ) where
  abbrev counted : List ℕ
  counted = set h 2 n

  symbol-kept : (i : ℕ) → 2 < i → get_or h i 0 ≡ get_or counted i 0
  symbol-kept i p = sym (other h 2 n i (λ e. omega arith))

  counts-counted : counts_in h (with_symbols (link_in h) n) ≡ counted
  unfolding counts_in put_row link_in link_with
  counts-counted =
      ap (λ (k : List ℕ). sets k 1 (get_or h 1 0 ∷ n ∷ get_or h 3 0 ∷ get_or h 4 0 ∷ get_or h 5 0 ∷ get_or h 6 0 ∷ get_or h 7 0 ∷ [])) (set-get_or h 0 0)
      ∙ ap (λ (k : List ℕ). sets k 2 (n ∷ get_or h 3 0 ∷ get_or h 4 0 ∷ get_or h 5 0 ∷ get_or h 6 0 ∷ get_or h 7 0 ∷ [])) (set-get_or h 1 0)
      ∙ rest h counted (λ i p. symbol-kept i p)

  pub symbols_told : (k : List ℕ) (r : Reply) → k ≡ settled counted r → told r.number k ≡ tell_of h (with_symbols (link_in h) n) r
  unfolding tell_of header_of profile_in link_in link_with
  symbols_told k r e =
      ap (told r.number)
      (e ∙ settled-as h counted r (sym (symbol-kept 16 (omega arith))) (sym (symbol-kept 8 (omega arith))) (sym (symbol-kept 15 (omega arith))) ∙ rw counts-counted refl)
