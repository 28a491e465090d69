-- The parts among steps, made alone: they leave the same names, symbols and sections' symbols.
-- Assumes nothing.
use Prim.Native.Nat.{ℕ, zero, suc, ◌+◌, ◌*◌, ◌-◌, ◌<◌, ◌≤◌}
use Rattle.std.proofs.Common.{arith, ◌∙◌, length-set, drop_of_length-le, get_or-set_same, get_or-set_other, drop_at, length-take-le, eqb-true, ltb-true, ltb-false, leb-true, leb-false}
use Rattle.std.specs.Prelude.{◌≡◌, refl, ◌≢◌, eqb, ltb, leb, take, None}
use Rattle.std.proofs.Math.Path.{sym, ap, subst}
use mathlib.Core.List.{List, [], ◌∷◌, ◌++◌}
use Rattle.std.proofs.Math.ListN.{get_or, set, drop, length, get_or-eq_default}
use Rattle.std.proofs.Math.Seq.{set_out}
use Rattle.std.proofs.lemmas.List.{drop-set-add}
use Rattle.std.proofs.lemmas.Bool.{eqb-false}
use Rattle.cells.specs.Proof.Split.{by-test}
use Rattle.link.specs.declared.Link.{Link}
use Rattle.link.specs.Said.{accepted, refusing, number_in}
use Rattle.link.specs.Judge.{refused}
use Rattle.link.specs.Bounds.{name_rows, section_slots}
use Rattle.interner.specs.Hash.{head_cell, head_of}
use Rattle.interner.specs.Names.{Store, chase, seek_of, find_from, find_of, room_of, fits_of, linked, added, keep_of, next_at}
use Rattle.interner_laws.proofs.Written.{head-behind, head-within, head-out, linked_long, row_old, row_new, head-new, head-old}
use Rattle.symbol.specs.declared.Row.{Row}
use Rattle.symbol.specs.Codes.{successor}
use Rattle.symbol_resolution.specs.declared.rows.Holder.{Holder}
use Rattle.symbol_resolution.specs.Decision.{Decision, Refuse, Nothing, Keep, Append, Replace, Amend}
use Rattle.symbol_resolution.specs.Holder.{holder_of}
use Rattle.symbol_resolution.specs.Decide.{section_cell, decide_of, refusal_of, id_of}
use Rattle.symbol_resolution.specs.Proof.Outcomes.{decision-alike}
use Rattle.symbol_resolution.specs.Apply.{Table, note_name, set_section_symbol, note_section, append_of, replaced_in, amended_in, apply_of}
use Rattle.symbols.specs.Add.{issued_of, direct_holder_of, decided_of, place_of, committed_of, add_row_of}
use Rattle.symbol_laws.proofs.Issue.{FreeRow, room-free}
use Rattle.symbol_laws.specs.History as History
use Rattle.symbol_laws.specs.History.{State, table, store, Entry, Part, issue, put, part_next, part_notes, run_parts, log_parts}
use Rattle.merge_laws.specs.Steps.{Step, mark, others, rows_from, step_next, PartGoes, Goes, AllGo, run_steps, log_steps, Makes}
use Rattle.merge_laws.specs.Steps as Steps
use Rattle.merge_laws.proofs.SymbolStageLemmas.{noted-long}
use Rattle.merge_laws.proofs.Issue.{keeps}
use Rattle.merge_laws.proofs.Past.{rows_long, rows_all}
use Rattle.merge_laws.specs.Seen.{parts_in, Seen, PartsGo, MadeAlone}

-- ---- names are found alike

module _ (s t : State) (e : Seen s t) where
  chase-same : (x : List ℕ) (n at : ℕ) → chase t.bytes t.names t.link.names x at n ≡ chase s.bytes s.names s.link.names x at n
  unfolding chase
  chase-same x zero at = e.names-count
  chase-same x (suc n) at =
      rw (
        e.names (at - 1) 2 (omega arith) (λ z. omega arith),
        chase-same x n (next_at s.names (at - 1)),
        e.names (at - 1) 0 (omega arith) (λ z. omega arith),
        e.names (at - 1) 1 (omega arith) (λ z. omega arith),
        e.bytes,
        e.names-count,
      )

  cell_same : (x : List ℕ) → head_of t.link t.names x ≡ head_of s.link s.names x
  unfolding head_cell
  cell_same x = simp (e.names-long, e.chains, e.key)

  -- behind the rows, or behind all cells
  head-same : (x : List ℕ) → get_or t.names (head_of t.link t.names x) 0 ≡ get_or s.names (head_of s.link s.names x) 0
  head-same x =
      ap (λ (k : ℕ). get_or t.names k 0) (cell_same x)
      ∙ by-test (ltb (name_rows (length s.names)) s.link.chains)
      (λ a.
      let out : head_of s.link s.names x ≡ length s.names = head-out s.link (length s.names) x (ltb-true _ _ a) in
      get_or-eq_default t.names 0 (omega (arith, out, e.names-long)) ∙ sym (get_or-eq_default s.names 0 (omega (arith, out))))
      (λ a. e.heads (head_of s.link s.names x) (head-behind s.link (length s.names) x (ltb-false _ _ a)))

  find-same : (x : List ℕ) → find_of t.bytes t.names t.link x ≡ find_of s.bytes s.names s.link x
  unfolding find_of find_from seek_of
  find-same x =
      rw (head-same x, e.names-long, chase-same x (name_rows (length s.names)) (get_or s.names (head_of s.link s.names x) 0), e.names-count)

  room-same : (n : ℕ) → room_of (store t) n ≡ room_of (store s) n
  unfolding room_of
  room-same n = rw (e.names-long, e.names-count, e.bytes, e.bytes_count, e.chains)

  -- ---- a name issued

  module _ (x : List ℕ) (r : FreeRow s.link s.names) where
    abbrev head : ℕ
    head = head_of s.link s.names x

    abbrev rows : ℕ
    rows = s.link.chains

    abbrev count : ℕ
    count = s.link.names

    abbrev row : List ℕ → List ℕ
    row names = linked names count s.link.bytes (length x) head

    low : rows * 8 ≤ head
    low = head-behind s.link (length s.names) x r.lent

    lent' : rows ≤ name_rows (length t.names)
    lent' = rw e.names-long r.lent

    row-heads : (q : ℕ) → rows * 8 ≤ q → get_or (row t.names) q 0 ≡ get_or (row s.names) q 0
    row-heads q h =
        let k : head < length s.names = head-within s.link (length s.names) x r.lent (omega (arith, r.free)) in
        by-test (eqb q head)
        (λ a.
        let z : q ≡ head = eqb-true _ _ a in
        rw z
        (head-new t.names count s.link.bytes (length x) head rows lent' r.free low (rw e.names-long k)
        ∙ sym (head-new s.names count s.link.bytes (length x) head rows r.lent r.free low k)))
        (λ a.
        let z : q ≢ head = eqb-false _ _ a in
        head-old t.names count s.link.bytes (length x) head rows lent' r.free low q h z
        ∙ e.heads q h
        ∙ sym (head-old s.names count s.link.bytes (length x) head rows r.lent r.free low q h z))

    row-cells : (i f : ℕ) → f < 8 → f ≢ 4 → get_or (row t.names) (i * 8 + f) 0 ≡ get_or (row s.names) (i * 8 + f) 0
    row-cells i f h u =
        by-test (ltb i rows)
        (λ a.
        let l : i < rows = ltb-true _ _ a in
        by-test (eqb i count)
        (λ b.
        let z : i ≡ count = eqb-true _ _ b in
        rw z
        (row_new t.names count s.link.bytes (length x) head rows lent' r.free low f h
        ∙ ap (λ (k : ℕ). get_or (s.link.bytes ∷ length x ∷ k ∷ 0 ∷ 0 ∷ 0 ∷ 0 ∷ 0 ∷ []) f 0) (e.heads head low)
        ∙ sym (row_new s.names count s.link.bytes (length x) head rows r.lent r.free low f h)))
        (λ b.
        let z : i ≢ count = eqb-false _ _ b in
        row_old t.names count s.link.bytes (length x) head rows lent' r.free low i f l z h
        ∙ e.names i f h u
        ∙ sym (row_old s.names count s.link.bytes (length x) head rows r.lent r.free low i f l z h)))
        (λ a. row-heads (i * 8 + f) (omega (arith, ltb-false i rows a)))

    added-seen : Seen (History.with_store s (added (store s) x)) (History.with_store t (added (store t) x))
    unfolding head_cell
    added-seen =
        let n : (added (store t) x).names ≡ row t.names =
        rw (e.names-count, e.bytes_count) (ap (λ (h : ℕ). linked t.names count s.link.bytes (length x) h) (cell_same x)) in
        let long : length (row s.names) ≡ length s.names = linked_long s.names count s.link.bytes (length x) head in
        record {
          bytes = rw (e.bytes, e.bytes_count);
          symbols = e.symbols;
          names-long = ap length n ∙ linked_long t.names count s.link.bytes (length x) head ∙ e.names-long ∙ sym long;
          names = λ i f h u. ap (λ (l : List ℕ). get_or l (i * 8 + f) 0) n ∙ row-cells i f h u;
          heads = λ q h. ap (λ (l : List ℕ). get_or l q 0) n ∙ row-heads q h;
          sections-long = e.sections-long;
          section-symbols = e.section-symbols;
          names-count = rw e.names-count;
          bytes_count = rw e.bytes_count;
          symbols-count = e.symbols-count;
          chains = e.chains;
          key = e.key;
          slots = e.slots;
          profile = e.profile;
        }

  known_same : (x : List ℕ) → ltb (find_of t.bytes t.names t.link x) t.link.names ≡ ltb (find_of s.bytes s.names s.link x) s.link.names
  known_same x =
      ap (λ (k : ℕ). ltb k t.link.names) (find-same x)
      ∙ ap (ltb (find_of s.bytes s.names s.link x)) e.names-count

  issue-seen : (x : List ℕ) → Seen (part_next (issue x) s) (part_next (issue x) t)
  unfolding keep_of
  issue-seen x =
      by-test (ltb (find_of s.bytes s.names s.link x) s.link.names) (λ a. rw (a, known_same x ∙ a) e)
      (λ a.
      by-test (room_of (store s) (length x))
      (λ b. rw (a, known_same x ∙ a, b, room-same (length x) ∙ b) (added-seen x (room-free (store s) (length x) b)))
      (λ b. rw (a, known_same x ∙ a, b, room-same (length x) ∙ b) e))

  -- ---- a row added

  decide-same : (r : Row) (h : Holder) → decide_of t.link t.symbols t.sections r h ≡ decide_of s.link s.symbols s.sections r h
  decide-same r h =
      rw e.symbols
      (decision-alike t.link s.link s.symbols t.sections s.sections r e.symbols-count e.slots e.profile e.sections-long h)

  holder-same : (r : Row) → direct_holder_of t.link t.names t.symbols r.name None ≡ direct_holder_of s.link s.names s.symbols r.name None
  unfolding direct_holder_of issued_of holder_of
  holder-same r = simp (e.names-count, e.symbols-count, e.symbols, e.names r.name.0 3 (omega arith) (λ z. omega arith))

  decided-same : (r : Row) → decided_of (table t) r None ≡ decided_of (table s) r None
  unfolding decided_of
  decided-same r = ap (decide_of t.link t.symbols t.sections r) (holder-same r) ∙ decide-same r _

-- a cell set alike in lists that are alike there
set-alike : (l m : List ℕ) (i v j : ℕ) → length m ≡ length l → get_or m j 0 ≡ get_or l j 0 → get_or (set m i v) j 0 ≡ get_or (set l i v) j 0
set-alike l m i v j n e =
    by-test (eqb j i)
    (λ a.
    let z : j ≡ i = eqb-true _ _ a in
    by-test (ltb i (length l))
    (λ b.
    let k : i < length l = ltb-true _ _ b in
    rw z (get_or-set_same m i v 0 (rw n k) ∙ sym (get_or-set_same l i v 0 k)))
    (λ b.
    let k : length l ≤ i = ltb-false _ _ b in
    rw (set_out m i v (rw n k), set_out l i v k) e))
    (λ a. let u : j ≢ i = eqb-false _ _ a in get_or-set_other m i j v 0 u ∙ e ∙ sym (get_or-set_other l i j v 0 u))

abbrev with_symbols : State → List ℕ → State
with_symbols s l = record { bytes = s.bytes; names = s.names; symbols = l; sections = s.sections; link = s.link }

module _ (s t : State) (e : Seen s t) (r : Row) where
  note-cell : (id j : ℕ) → get_or t.names j 0 ≡ get_or s.names j 0 → get_or (note_name t.names r id) j 0 ≡ get_or (note_name s.names r id) j 0
  unfolding note_name
  note-cell id j q = by-test (eqb r.scope 0) (λ a. rw a q) (λ a. rw a (set-alike s.names t.names (r.name.0 * 8 + 3) id j e.names-long q))

  note-long : (l : List ℕ) (id : ℕ) → length (note_name l r id) ≡ length l
  unfolding note_name
  note-long l id = by-test (eqb r.scope 0) (λ a. rw a) (λ a. rw a (length-set l (r.name.0 * 8 + 3) id))

  out-same : (n : ℕ) → length s.sections ≤ n → (id : ℕ)
      → drop (s.link.slots * 8) (set t.sections n id) ≡ drop (s.link.slots * 8) (set s.sections n id)
  out-same n h id = rw (set_out t.sections n id (rw e.sections-long h), set_out s.sections n id h) e.section-symbols

  symbol-behind : (a id : ℕ)
      → drop (s.link.slots * 8) (set_section_symbol t.link t.sections a id) ≡ drop (s.link.slots * 8) (set_section_symbol s.link s.sections a id)
  unfolding set_section_symbol section_cell
  symbol-behind a id =
      let n : ℕ = s.link.slots in
      rw (e.sections-long, e.slots)
      (by-test (ltb (section_slots (length s.sections)) n) (λ c. rw c (out-same (length s.sections) (omega arith) id))
      (λ c.
      by-test (ltb a n)
      (λ b. rw (c, b) (drop-set-add (n * 8) t.sections a id ∙ ap (λ (l : List ℕ). set l a id) e.section-symbols ∙ sym (drop-set-add (n * 8) s.sections a id)))
      (λ b. rw (c, b) (out-same (length s.sections) (omega arith) id))))

  section-behind : (id : ℕ)
      → drop (s.link.slots * 8) (note_section t.link t.sections r id) ≡ drop (s.link.slots * 8) (note_section s.link s.sections r id)
  unfolding note_section
  section-behind id =
      by-test (eqb r.scope 0)
      (λ a. by-test (eqb r.value.kind 2) (λ b. rw (a, b) (symbol-behind r.value.a id)) (λ b. rw (a, b) e.section-symbols)) (λ a. rw a e.section-symbols)

  append-seen : Seen (History.with_table s (append_of (table s) r)) (History.with_table t (append_of (table t) r))
  unfolding append_of
  append-seen =
      let id : ℕ = s.link.symbols in
      let next : ℕ = t.link.symbols in
      let named : (j : ℕ) → get_or (note_name t.names r next) j 0 ≡ get_or (note_name t.names r id) j 0 = λ j. ap (λ (k : ℕ). get_or (note_name t.names r k) j 0) e.symbols-count in
      record {
        bytes = e.bytes;
        symbols = rw (e.symbols, e.symbols-count);
        names-long = note-long t.names next ∙ e.names-long ∙ sym (note-long s.names id);
        names = λ i f h u. named (i * 8 + f) ∙ note-cell id (i * 8 + f) (e.names i f h u);
        heads = λ q h. named q ∙ note-cell id q (e.heads q h);
        sections-long = noted-long t.link t.sections r next ∙ e.sections-long ∙ sym (noted-long s.link s.sections r id);
        section-symbols = ap (λ (k : ℕ). drop (s.link.slots * 8) (note_section t.link t.sections r k)) e.symbols-count ∙ section-behind id;
        names-count = e.names-count;
        bytes_count = e.bytes_count;
        symbols-count = ap successor e.symbols-count;
        chains = e.chains;
        key = e.key;
        slots = e.slots;
        profile = e.profile;
      }

  -- the name's row written, alike
  stored-seen : (l m : List ℕ) → m ≡ l → Seen (with_symbols s l) (with_symbols t m)
  stored-seen l m q =
      record {
        bytes = e.bytes;
        symbols = q;
        names-long = e.names-long;
        names = e.names;
        heads = e.heads;
        sections-long = e.sections-long;
        section-symbols = e.section-symbols;
        names-count = e.names-count;
        bytes_count = e.bytes_count;
        symbols-count = e.symbols-count;
        chains = e.chains;
        key = e.key;
        slots = e.slots;
        profile = e.profile;
      }

  applied-seen : (d : Decision) → Seen (History.with_table s (apply_of (table s) r d)) (History.with_table t (apply_of (table t) r d))
  unfolding apply_of
  applied-seen (Refuse n) = e
  applied-seen Nothing = e
  applied-seen (Keep id) = e
  applied-seen Append = append-seen
  applied-seen (Replace id) =
      stored-seen (replaced_in s.link.gabi s.symbols r id) (replaced_in t.link.gabi t.symbols r id) (rw (e.profile, e.symbols))
  applied-seen (Amend id) =
      stored-seen (amended_in s.link.gabi s.symbols r id) (amended_in t.link.gabi t.symbols r id) (rw (e.profile, e.symbols))

  place_same : place_of t.link r.name None ≡ place_of s.link r.name None
  unfolding place_of
  place_same = simp e.names-count

  committed-seen : (d : Decision)
      → Seen (History.with_table s (committed_of (table s) r None d).table) (History.with_table t (committed_of (table t) r None d).table)
  unfolding committed_of
  committed-seen d =
      by-test (eqb (refusal_of d) 21) (λ a. rw a e) (λ a. by-test (eqb (refusal_of d) 0) (λ b. rw (a, b) (applied-seen d)) (λ b. rw (a, b) e))

  committed-said : (d : Decision) → (committed_of (table t) r None d).said ≡ (committed_of (table s) r None d).said
  unfolding committed_of
  committed-said d =
      by-test (eqb (refusal_of d) 21) (λ a. rw a (ap (λ (p : ℕ). refusing (refused 21 p)) place_same))
      (λ a. by-test (eqb (refusal_of d) 0) (λ b. rw (a, b) (ap (λ (n : ℕ). accepted (id_of d n).0) e.symbols-count)) (λ b. rw (a, b)))

  put-seen : Seen (History.with_table s (add_row_of (table s) r None).table) (History.with_table t (add_row_of (table t) r None).table)
  unfolding add_row_of
  put-seen =
      subst (λ (d : Decision). Seen (History.with_table s (committed_of (table s) r None (decided_of (table s) r None)).table) (History.with_table t (committed_of (table t) r None d).table))
      (sym (decided-same s t e r)) (committed-seen (decided_of (table s) r None))

  put-said : (add_row_of (table t) r None).said ≡ (add_row_of (table s) r None).said
  unfolding add_row_of
  put-said =
      ap (λ (d : Decision). (committed_of (table t) r None d).said) (decided-same s t e r) ∙ committed-said (decided_of (table s) r None)

-- ---- parts and steps

names-kept : (t : Table) (r : Row) (d : Decision) → (apply_of t r d).link.names ≡ t.link.names
unfolding apply_of append_of
names-kept t r (Refuse n) = refl
names-kept t r Nothing = refl
names-kept t r (Keep id) = refl
names-kept t r Append = refl
names-kept t r (Replace id) = refl
names-kept t r (Amend id) = refl

put-names : (t : Table) (r : Row) → (add_row_of t r None).table.link.names ≡ t.link.names
unfolding add_row_of committed_of
put-names t r =
    let d : Decision = decided_of t r None in
    by-test (eqb (refusal_of d) 21) (λ a. rw a)
    (λ a. by-test (eqb (refusal_of d) 0) (λ b. rw (a, b) (names-kept t r d)) (λ b. rw (a, b)))

chains-kept : (t : Table) (r : Row) (d : Decision) → (apply_of t r d).link.chains ≡ t.link.chains
unfolding apply_of append_of
chains-kept t r (Refuse n) = refl
chains-kept t r Nothing = refl
chains-kept t r (Keep id) = refl
chains-kept t r Append = refl
chains-kept t r (Replace id) = refl
chains-kept t r (Amend id) = refl

put-chains : (t : Table) (r : Row) → (add_row_of t r None).table.link.chains ≡ t.link.chains
unfolding add_row_of committed_of
put-chains t r =
    let d : Decision = decided_of t r None in
    by-test (eqb (refusal_of d) 21) (λ a. rw a)
    (λ a. by-test (eqb (refusal_of d) 0) (λ b. rw (a, b) (chains-kept t r d)) (λ b. rw (a, b)))

part-seen : (p : Part) (s t : State) → Seen s t → Seen (part_next p s) (part_next p t)
part-seen (issue x) s t e = issue-seen s t e x
part-seen (put r from) s t e = put-seen s t e r

part-notes : (p : Part) (s t : State) → Seen s t → part_notes p t ≡ part_notes p s
part-notes (issue x) s t e = refl
part-notes (put r from) s t e = ap (History.noted r from) (put-said s t e r)

put-roomy : (t : Table) (r : Row) → t.link.names ≤ t.link.chains → (add_row_of t r None).table.link.names ≤ (add_row_of t r None).table.link.chains
put-roomy t r h = omega (arith, put-chains t r, put-names t r)

fits-seen : (x : List ℕ) (s t : State) → Seen s t → fits_of (store t) (History.id_of t x) (length x) ≡ fits_of (store s) (History.id_of s x) (length x)
unfolding fits_of
fits-seen x s t e =
    by-test (ltb (find_of s.bytes s.names s.link x) s.link.names) (λ a. rw (a, known_same s t e x ∙ a))
    (λ a. rw (a, known_same s t e x ∙ a) (room-same s t e (length x)))

part-goes : (p : Part) (s t : State) → Seen s t → PartGoes p t → PartGoes p s
part-goes (issue x) s t e g = sym (fits-seen x s t e) ∙ g
part-goes (put r from) s t e g = ap number_in (sym (put-said s t e r)) ∙ g

-- as many names as rows
abbrev Roomy : State → Type 0
Roomy t = t.link.names ≤ t.link.chains

mark-seen : (s t : State) (n : ℕ) → Seen s t → n < t.link.names → Roomy t → Seen s (step_next (mark n) t)
mark-seen s t n e h r =
    record {
      bytes = e.bytes;
      symbols = e.symbols;
      names-long = length-set t.names (n * 8 + 4) 1 ∙ e.names-long;
      names = λ i f k u. get_or-set_other t.names (n * 8 + 4) (i * 8 + f) 1 0 (λ z. u (omega arith)) ∙ e.names i f k u;
      heads = λ q k. get_or-set_other t.names (n * 8 + 4) q 1 0 (λ z. omega (arith, e.chains)) ∙ e.heads q k;
      sections-long = e.sections-long;
      section-symbols = e.section-symbols;
      names-count = e.names-count;
      bytes_count = e.bytes_count;
      symbols-count = e.symbols-count;
      chains = e.chains;
      key = e.key;
      slots = e.slots;
      profile = e.profile;
    }

rows_behind : (slots : ℕ) (x old : List ℕ) → length x ≡ length old → drop (slots * 8) (rows_from slots x old) ≡ drop (slots * 8) old
rows_behind slots x old e =
    let n : ℕ = slots * 8 in
    by-test (leb n (length x)) (λ b. drop_at (take n x) (drop n old) n (length-take-le n x (leb-true _ _ b)))
    (λ b.
    let k : length x < n = leb-false _ _ b in
    let a : length x ≤ n = omega arith in
    let b : length old ≤ n = omega (arith, e) in
    ap (drop n) (rows_all slots x old e a) ∙ drop_of_length-le x a ∙ sym (drop_of_length-le old b))

others-seen : (s t : State) (x : List ℕ) (l : Link) → Seen s t → length x ≡ length t.sections → Seen s (step_next (others x l) t)
others-seen s t x l e h =
    let n : ℕ = t.link.slots * 8 in
    let k : s.link.slots * 8 ≡ n = ap (λ (n : ℕ). n * 8) (sym e.slots) in
    record {
      bytes = e.bytes;
      symbols = e.symbols;
      names-long = e.names-long;
      names = e.names;
      heads = e.heads;
      sections-long = rows_long t.link.slots x t.sections h ∙ e.sections-long;
      section-symbols =
          ap (λ (k : ℕ). drop k (rows_from t.link.slots x t.sections)) k
          ∙ rows_behind t.link.slots x t.sections h
          ∙ ap (λ (k : ℕ). drop k t.sections) (sym k)
          ∙ e.section-symbols;
      names-count = e.names-count;
      bytes_count = e.bytes_count;
      symbols-count = e.symbols-count;
      chains = e.chains;
      key = e.key;
      slots = e.slots;
      profile = e.profile;
    }

step-roomy : (k : Step) (t : State) → Goes k t → Roomy t → Roomy (step_next k t)
step-roomy (Steps.part (issue x)) t g r =
    keeps (λ (k : Store). k.link.names ≤ k.link.chains) (store t) (History.id_of t x) x r
    (λ h b. omega (arith, (room-free (store t) (length x) b).free))
step-roomy (Steps.part (put w from)) t g r = put-roomy (table t) w r
step-roomy (mark n) t g r = r
step-roomy (others x l) t g r = r

-- the parts ps made alone, from s, beside the steps ks from t: they leave the same but for marks, section rows and other counts, are accepted, and
-- have the same log
pub record Alone (ks : List Step) (t : State) (ps : List Part) (s : State) : Type 0 where
  pub seen : Seen (run_parts ps s) (run_steps ks t)
  pub accepted : PartsGo ps s
  pub logged : log_steps ks t ≡ log_parts ps s

pub parts-alone : (ks : List Step) (s t : State) → Seen s t → Roomy t → AllGo ks t → Alone ks t (parts_in ks) s
parts-alone [] s t e r g = record { seen = e; accepted = tt; logged = refl }
parts-alone (Steps.part p ∷ ks) s t e r g =
    let a = parts-alone ks (part_next p s) (part_next p t) (part-seen p s t e) (step-roomy (Steps.part p) t g.0 r) g.1 in
    record {
      seen = a.seen;
      accepted = (part-goes p s t e g.0, a.accepted);
      logged = ap (λ (l : List Entry). l ++ log_steps ks (part_next p t)) (part-notes p s t e) ∙ ap (◌++◌ (part_notes p s)) a.logged;
    }
parts-alone (mark n ∷ ks) s t e r g =
    let a = parts-alone ks s (step_next (mark n) t) (mark-seen s t n e g.0 r) (step-roomy (mark n) t g.0 r) g.1 in
    record { seen = a.seen; accepted = a.accepted; logged = a.logged }
parts-alone (others x l ∷ ks) s t e r g =
    let a = parts-alone ks s (step_next (others x l) t) (others-seen s t x l e g.0.1) (step-roomy (others x l) t g.0 r) g.1 in
    record { seen = a.seen; accepted = a.accepted; logged = a.logged }

seen_same : (s : State) → Seen s s
seen_same s =
    record {
      bytes = refl;
      symbols = refl;
      names-long = refl;
      names = λ i f h u. refl;
      heads = λ q h. refl;
      sections-long = refl;
      section-symbols = refl;
      names-count = refl;
      bytes_count = refl;
      symbols-count = refl;
      chains = refl;
      key = refl;
      slots = refl;
      profile = refl;
    }

pub makes-parts : (s t : State) (ks : List Step) → s.link.names ≤ s.link.chains → Makes s ks t → MadeAlone s ks t (parts_in ks)
makes-parts s t ks r m =
    let p = parts-alone ks s s (seen_same s) r m.accepted in
    record { seen = subst (Seen (run_parts (parts_in ks) s)) m.leads p.seen; accepted = p.accepted; logged = p.logged }
