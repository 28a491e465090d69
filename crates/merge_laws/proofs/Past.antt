-- Laws of the definitions of Past.antt.
-- Assumes nothing.
use Rattle.std.specs.Prelude.{ℕ, ◌+◌, ◌*◌, ◌<◌, ◌≤◌, ◌≡◌, refl, List, [], ◌∷◌, eqb, leb, get_or, set, take, drop, length, None}
use Rattle.std.proofs.Common.{arith, ◌∙◌, subst, ap, append-nil, length-set, length-append, length-drop, drop_of_length-le, get_or-set_other, get_or-take, length-take-le, take_all, leb-true, leb-false}
use Rattle.std.proofs.Math.ListN.{get_or-append}
use Rattle.cells.specs.Proof.Split.{by-test}
use Rattle.interner_laws.proofs.Interns.{keep-untouched}
use Rattle.symbol.specs.declared.Row.{Row}
use Rattle.symbol.specs.Proof.RowLaws.{length-set_row}
use Rattle.symbol_resolution.specs.Holder.{global_at}
use Rattle.symbol_resolution.specs.Decision.{Decision}
use Rattle.symbol_resolution.specs.Apply.{Table, note_name, append_of, apply_of}
use Rattle.symbol_resolution.specs.Proof.Outcomes.{decision-left}
use Rattle.symbols.specs.Add.{add_row_of, decided_of}
use Rattle.symbols.specs.Proof.AddOutcomes.{added-left}
use Rattle.symbol_laws.specs.History.{State, table, store, Part, issue, put, id_of, part_next}
use Rattle.symbol_laws.specs.Below.{Below}
use Rattle.symbol_laws.proofs.BelowLemmas.{part-below}
use Rattle.symbol_laws.proofs.WritesLemmas.{put-past, issue-past}
use Rattle.merge_laws.specs.Steps.{Step, part, mark, others, rows_from, step_next, Goes, AllGo, run_steps, Makes}
use Rattle.merge_laws.proofs.More.{More, step-more, steps-more}
use Rattle.merge_laws.proofs.SymbolStageLemmas.{applied-long}
use Rattle.merge_laws.specs.Past.{TablePast}

past-none : (s : State) → TablePast s s
past-none s =
    record {
      symbols = λ q h. refl;
      names = λ q h l. refl;
      bytes = λ q h. refl;
      sections = λ q h l. refl;
      symbols-long = refl;
      names-long = refl;
      bytes-long = refl;
      sections-long = refl;
    }

past-both : (s t u : State) → More s.link t.link → More t.link u.link → TablePast s t → TablePast t u → TablePast s u
past-both s t u n m a b =
    record {
      symbols = λ q h. b.symbols q h ∙ a.symbols q (omega (arith, m.symbols));
      names = λ q h l. b.names q h (rw n.chains l) ∙ a.names q (omega (arith, m.names)) l;
      bytes = λ q h. b.bytes q h ∙ a.bytes q (omega (arith, m.bytes));
      sections = λ q h l. b.sections q h (rw n.slots l) ∙ a.sections q (omega (arith, m.sections)) l;
      symbols-long = b.symbols-long ∙ a.symbols-long;
      names-long = b.names-long ∙ a.names-long;
      bytes-long = b.bytes-long ∙ a.bytes-long;
      sections-long = b.sections-long ∙ a.sections-long;
    }

-- ---- lengths

applied-names : (t : Table) (r : Row) (d : Decision) → length (apply_of t r d).names ≡ length t.names
unfolding append_of note_name
applied-names t r d =
    decision-left (λ (u : Table). length u.names ≡ length t.names) t r refl
    (by-test (eqb r.scope 0) (λ a. rw a) (λ a. rw a (length-set t.names (r.name.0 * 8 + 3) t.link.symbols))) (λ id x. refl) d

applied-symbols : (t : Table) (r : Row) (d : Decision) → length (apply_of t r d).symbols ≡ length t.symbols
unfolding append_of
applied-symbols t r d =
    decision-left (λ (u : Table). length u.symbols ≡ length t.symbols) t r refl (length-set_row t.symbols (record { 0 = t.link.symbols }) r)
    (λ id x. length-set_row t.symbols id x) d

pub put-long : (t : Table) (r : Row)
    → let u = (add_row_of t r None).table in
    (length u.names ≡ length t.names) × (length u.sections ≡ length t.sections) × (length u.symbols ≡ length t.symbols)
put-long t r =
    let d : Decision = decided_of t r None in
    added-left t r None
    (λ (u : Table). (length u.names ≡ length t.names) × (length u.sections ≡ length t.sections) × (length u.symbols ≡ length t.symbols))
    (refl, refl, refl) (applied-names t r d, applied-long t r d, applied-symbols t r d)

-- ---- a step

part-past : (p : Part) (s : State) → Below s → TablePast s (part_next p s)
part-past (issue x) s b =
    let w = issue-past s b x (id_of s x) in
    let u = keep-untouched (store s) (id_of s x) x in
    record {
      symbols = w.symbols;
      names = w.names;
      bytes = u.free_bytes;
      sections = λ q h l. w.sections q l;
      symbols-long = refl;
      names-long = u.rows_same;
      bytes-long = u.bytes_same;
      sections-long = refl;
    }
part-past (put r from) s b =
    let w = put-past s b r in
    let (x, y, z) = put-long (table s) r in
    record {
      symbols = w.symbols;
      names = w.names;
      bytes = λ q h. refl;
      sections = λ q h l. w.sections q l;
      symbols-long = z;
      names-long = x;
      bytes-long = refl;
      sections-long = y;
    }

-- more slots than rows are lent: all of x
pub rows_all : (slots : ℕ) (x old : List ℕ) → length x ≡ length old → length x ≤ slots * 8 → rows_from slots x old ≡ x
rows_all slots x old e h = rw (take_all (slots * 8) x h, drop_of_length-le old (rw e at h)) (append-nil x)

pub rows_long : (slots : ℕ) (x old : List ℕ) → length x ≡ length old → length (rows_from slots x old) ≡ length old
rows_long slots x old e =
    let n : ℕ = slots * 8 in
    by-test (leb n (length x))
    (λ b. let k : n ≤ length x = leb-true _ _ b in
    length-append (take n x) (drop n old) ∙ omega (arith, length-take-le n x k, length-drop n old))
    (λ b. let k : length x < n = leb-false _ _ b in ap length (rows_all slots x old e (omega arith)) ∙ e)

rows-front : (slots : ℕ) (x old : List ℕ) (q : ℕ) → length x ≡ length old → q < slots * 8 → get_or (rows_from slots x old) q 0 ≡ get_or x q 0
rows-front slots x old q e h =
    let n : ℕ = slots * 8 in
    by-test (leb n (length x))
    (λ b. let k : n ≤ length x = leb-true _ _ b in
    get_or-append (take n x) (drop n old) 0 q (omega (arith, length-take-le n x k)) ∙ get_or-take n x q 0 h)
    (λ b. let k : length x < n = leb-false _ _ b in ap (λ (y : List ℕ). get_or y q 0) (rows_all slots x old e (omega arith)))

step_past : (k : Step) (s : State) → Below s → Goes k s → TablePast s (step_next k s)
step_past (part p) s b g = part-past p s b
step_past (mark n) s b g =
    record {
      symbols = λ q h. refl;
      names = λ q h l. get_or-set_other s.names (n * 8 + 4) q 1 0 (λ e. omega arith);
      bytes = λ q h. refl;
      sections = λ q h l. refl;
      symbols-long = refl;
      names-long = length-set s.names (n * 8 + 4) 1;
      bytes-long = refl;
      sections-long = refl;
    }
step_past (others x l) s b g =
    record {
      symbols = λ q h. refl;
      names = λ q h l. refl;
      bytes = λ q h. refl;
      sections = λ q h k. rows-front s.link.slots x s.sections q g.1 k ∙ g.2 q h;
      symbols-long = refl;
      names-long = refl;
      bytes-long = refl;
      sections-long = rows_long s.link.slots x s.sections g.1;
    }

-- ---- what holds of the counts, whatever was removed

pub step-below : (k : Step) (s : State) → Below s → Below (step_next k s)
step-below (part p) s b = part-below p s b
step-below (mark n) s b =
    record {
      few = b.few;
      held = λ m h z.
          let q : global_at (set s.names (n * 8 + 4) 1) m ≡ global_at s.names m = get_or-set_other s.names (n * 8 + 4) (m * 8 + 3) 1 0 (λ e. omega arith) in
          rw q (b.held m h (λ y. z (q ∙ y)));
    }
step-below (others x l) s b = record { few = b.few; held = b.held }

pub steps-below : (ks : List Step) (s : State) → Below s → Below (run_steps ks s)
steps-below [] s b = b
steps-below (k ∷ ks) s b = steps-below ks (step_next k s) (step-below k s b)

steps-past : (ks : List Step) (s : State) → Below s → AllGo ks s → TablePast s (run_steps ks s)
steps-past [] s b g = past-none s
steps-past (k ∷ ks) s b g =
    past-both s (step_next k s) (run_steps ks (step_next k s)) (step-more k s g.0) (steps-more ks (step_next k s) g.1) (step_past k s b g.0)
    (steps-past ks (step_next k s) (step-below k s b) g.1)

pub makes-past : (s t : State) (ks : List Step) → Below s → Makes s ks t → TablePast s t
makes-past s t ks b m = subst (TablePast s) m.leads (steps-past ks s b m.accepted)
