-- Calls on a good table whose other counts are within their bounds: no 1.
-- Assumes nothing.
use Rattle.std.specs.Prelude.{ℕ, ◌/◌, ◌≡◌, refl, false, List, length}
use Rattle.std.proofs.Common.{arith, ap, sym, ◌∙◌}
use borrow.Author.Tests.{lt-ltb}
use Rattle.link.specs.declared.Link.{Link}
use Rattle.link.specs.declared.cause.Refusal.{Refusal}
use Rattle.link.specs.Judge.{none, refused, judge_sections, judge_names, judge_lists, judge_of, change_of}
use Rattle.link.specs.Said.{accepted, refusing}
use Rattle.link.specs.Proof.Ways.{lesser-first, sections-fine, names-fine, lists-fine, over-rest, change-judged}
use Rattle.interner.specs.Names.{Store, store_of, fits_of, keep_of}
use Rattle.link.specs.Bounds.{not_lent, name_rows, name_bytes, section_rows}
use Rattle.link.specs.Counts.{no_names}
use Rattle.interner.specs.Calls.{Left, left, resolved, lent, issue_of, intern_of, resolve_of, new_of}
use Rattle.interner_laws.specs.Good.{Good, Issued, rest, count, find}
use Rattle.interner_laws.proofs.Find.{find-known}
use Rattle.interner_laws.specs.Interns.{Accepted, after}
use Rattle.interner_laws.proofs.Interns.{outcomes, after-good, after_untouched, new-good, new-rest, new-long}
use Rattle.interner_laws.specs.Judged.{Within}

pub within-rest : (s t : Store) → rest s.link ≡ rest t.link → Within t → Within s
within-rest s t e w =
    record {
      sections-in = rw (ap (λ (k : Link). k.sections) e, ap (λ (k : Link). k.slots) e) w.sections-in;
      symbols-in = rw (ap (λ (k : Link). k.symbols) e) w.symbols-in;
      inputs_in = rw (ap (λ (k : Link). k.inputs) e) w.inputs_in;
      lists-in = rw (ap (λ (k : Link). k.lists) e) w.lists-in;
    }

module _ (s : Store) (g : Good s) (w : Within s) where
  sections-judged : none ≡ judge_sections s.link s.link.slots
  sections-judged =
      sections-fine s.link s.link.slots none (section_rows s.link.slots) (omega arith) refl
      w.sections-in refl

  names-judged : none ≡ judge_names s.link (name_rows (length s.names)) (length s.bytes)
  names-judged =
      names-fine s.link (name_rows (length s.names)) (length s.bytes) none (name_bytes (length s.bytes)) g.chained.rows-lent g.chained.rows_in refl
      g.chained.bytes-in refl

  lists-judged : none ≡ judge_lists s.link not_lent not_lent
  lists-judged = lists-fine s.link not_lent not_lent none 4095 (lesser-first 4095 (not_lent / 8) 4095 (omega arith) refl) w.inputs_in w.lists-in refl

  pub judged : none ≡ judge_of s.link (lent s)
  judged =
      over-rest s.link (lent s) none none 65535 none sections-judged refl (lesser-first 65535 (not_lent / 8) 65535 (omega arith) refl) w.symbols-in
      names-judged refl lists-judged

  pub resolves : (id : ℕ) (x : List ℕ) → Issued s id x → resolve_of s (record { 0 = id }) ≡ resolved x 0 0
  unfolding resolve_of
  resolves id x i = simp (← judged, lt-ltb id (count s) i.low, i.right)

  -- interning what is there already
  pub interns-known : s.link.broken ≡ false → (id : ℕ) (x : List ℕ) → Issued s id x → intern_of s x ≡ left s (accepted id)
  unfolding intern_of issue_of fits_of keep_of
  interns-known b id x i =
      let ok : none ≡ change_of s.link (lent s) = change-judged s.link (lent s) none b judged in
      let e : find s x ≡ id = find-known s x g.chained id i.low i.right in
      simp (← ok, e, lt-ltb id (count s) i.low)

  pub refused_full : s.link.broken ≡ false → (x : List ℕ) → (Accepted (intern_of s x) → ⊥) → intern_of s x ≡ left s (refusing (refused 2 0))
  refused_full b x =
      let ok : none ≡ change_of s.link (lent s) = change-judged s.link (lent s) none b judged in
      outcomes (λ (o : Left). (Accepted o → ⊥) → o ≡ left s (refusing (refused 2 0))) s x
      (λ n z. absurd (n (sym (ap (λ (r : Refusal). r.number) ok)))) (λ f z. absurd (z refl)) (λ z. refl)

-- ---- the tables that a new one becomes

module _ (key : ℕ) (bytes names : List ℕ) (opened : Accepted (new_of key bytes names)) (us : List (List ℕ)) where
  abbrev table : Store
  table = after us (new_of key bytes names).store

  pub table-good : Good table
  table-good = after-good us (new_of key bytes names).store (new-good key bytes names opened)

  table-rest : rest table.link ≡ no_names key (name_rows (length names))
  table-rest = (after_untouched us (new_of key bytes names).store).others ∙ new-rest key bytes names opened

  table-long : length table.names ≡ length names
  table-long = (after_untouched us (new_of key bytes names).store).rows_same ∙ new-long key bytes names opened

  pub table-within : Within table
  table-within =
      within-rest table (store_of bytes names (no_names key (name_rows (length names)))) table-rest
      (record { sections-in = omega arith; symbols-in = omega arith; inputs_in = omega arith; lists-in = omega arith })

  pub table-whole : table.link.broken ≡ false
  table-whole = ap (λ (l : Link). l.broken) table-rest
