-- Of a direct add: the answer is that of the first rule that holds.
-- Assumes nothing.
use Rattle.std.specs.Prelude.{ℕ, zero, suc, ◌+◌, ◌*◌, ◌/◌, ◌<◌, ◌≤◌, ◌≡◌, Bool, true, false, cond, not, ◌&&◌, ◌||◌, List, ◌++◌, eqb, ltb, leb, get_or, length, Option, None, Some}
use Rattle.std.proofs.Common.{arith, sym, ap, ◌∙◌}
use Rattle.std.proofs.Math.Path.{refl}
use Rattle.std.proofs.lemmas.Bool.{false≢true}
use borrow.Author.Tests.{eqb-true, eqb-false, ltb-true, ltb-false, lt-ltb, le-ltb, ne_eqb}
use Rattle.cells.specs.Proof.Split.{by-test}
use Rattle.link.specs.declared.Link.{Link}
use Rattle.link.specs.declared.Interned.{Interned}
use Rattle.link.specs.declared.SymbolId.{SymbolId}
use Rattle.link.specs.declared.cause.Refusal.{Refusal}
use Rattle.link.specs.Bounds.{lesser}
use Rattle.link.specs.Judge.{refused, change_of}
use Rattle.symbol.specs.declared.Words.{Words}
use Rattle.symbol.specs.declared.Row.{Row}
use Rattle.symbol.specs.declared.SymbolValue.{SymbolValue}
use Rattle.symbol.specs.declared.SymbolValue.TheVariants as Val
use Rattle.std.specs.Int.{is_power_of_two}
use Rattle.symbol.specs.Layout.{refuses_scope, refuses_value, scope_in}
use Rattle.symbol.specs.Row.{scope_refused, value_refused}
use Rattle.upcoming_symbol.specs.declared.ElfSymbol.{ElfSymbol}
use Rattle.upcoming_symbol.specs.declared.UpcomingSymbol.{UpcomingSymbol}
use Rattle.upcoming_symbol.specs.declared.UpcomingSymbol.TheVariants.{Null, GlobalUnknown, GlobalHidden, Section, ExternallyDefined, Elf}
use Rattle.upcoming_symbol.specs.Judge as Upcoming
use Rattle.upcoming_symbol.specs.Judge.{shown_of, hidden_of, section_in_range, elf_in_range, external_in_range, in_range}
use Rattle.upcoming_symbol.specs.Upcoming as Row
use Rattle.upcoming_symbol.specs.Upcoming.{in_section, conversion_from, converted_of, undefined_of, common_of, common_by_binding, value_of, elf_row_of, library_code, external_row_of, given_words, name_of}
use Rattle.symbol_resolution.specs.declared.rows.Holder.{Holder}
use Rattle.symbol_resolution.specs.declared.rows.Holder.TheVariants.{Unissued, Nobody, Removed, Known}
use Rattle.symbol_resolution.specs.Decision.{Decision}
use Rattle.symbol_resolution.specs.Holder.{holder_of}
use Rattle.symbol_resolution.specs.Decide.{weak_of, reference_rank, rank_of, joins, type_refusal, section_cell, section_room, room_of, decide_of, refusal_of}
use Rattle.symbol_resolution.specs.Proof.Outcomes.{absent_under, fresh_under, is_local_row, row_rank, Meets, held_rank, hides, scope-refused, name-absent, new-unvalued, new-untyped, new-full, new-appended, known-unvalued, known-untyped, known-replaced, known_twice, known-joined, known_kept, known-amended}
use Rattle.symbols.specs.Add.{judge_add_of, file_of, file_issued, issued_of, direct_holder_of, unissued_file, place_of, decided_of, committed_of, empty_at, add_row_of, lent, add_of}
use Rattle.symbol_laws.proofs.Standing.{library-number, library-refused, library-local, library-weak}
use Rattle.symbol_laws.specs.History.{State, table}
use Rattle.merge_laws.specs.Calls.{Linked}
use Rattle.link_laws.specs.Calls.{add, refusal_by, call_refusal}
use Rattle.link_laws.specs.Rules.{Rule, first_refusal, head_rules}
use Rattle.link_laws.proofs.Rules.{headed, first-is, not-below, head-rules, placeless-is}
use Rattle.link_laws.proofs.Exactly.{holder-is}
use Rattle.link_laws.specs.TableRules.{is_issued, is_empty, row_of, is_known, is_removed, class_of, is_weak_row, is_undefined_row, is_common_row, no_symbol_row, Value, undefined, common, sectionless, section, defined, is_undefined, is_common, is_misaligned, is_sectionless, no_section_cell, Asked, conversion_in, placed_as, elf_value, given_value, asked, is_outside, is_unissued_file, file_id, is_local, is_fresh, replaces, shown_rules, issued_rules, held_rules, add_head, add_rules}

-- ---- binding and visibility

-- a row's code that isn't refused
pub record Passes (b v : ℕ) : Type 0 where
  pub low : refuses_scope (Upcoming.judge_of b v) ≡ false
  pub local : eqb (Upcoming.judge_of b v) 0 ≡ eqb b 0
  pub weak : weak_of (Upcoming.judge_of b v) ≡ eqb b 2

shown : (b : ℕ) → b ≤ 2 → Passes b 0
unfolding Upcoming.judge_of shown_of weak_of
shown zero l = record { low = refl; local = refl; weak = refl }
shown (suc zero) l = record { low = refl; local = refl; weak = refl }
shown (suc (suc zero)) l = record { low = refl; local = refl; weak = refl }
shown (suc (suc (suc n))) l = absurd (omega arith)

hidden : (b : ℕ) → b ≤ 2 → (b ≡ 0 → ⊥) → Passes b 2
unfolding Upcoming.judge_of hidden_of weak_of
hidden zero l u = absurd (u refl)
hidden (suc zero) l u = record { low = refl; local = refl; weak = refl }
hidden (suc (suc zero)) l u = record { low = refl; local = refl; weak = refl }
hidden (suc (suc (suc n))) l u = absurd (omega arith)

-- the row's code: a refusal, or its class
module _ (b v : ℕ) where
  abbrev code : ℕ
  code = Upcoming.judge_of b v

  code-ten : not (eqb v 0 || eqb v 2) ≡ true → code ≡ 10
  unfolding Upcoming.judge_of
  code-ten e =
      by-test (eqb v 0) (λ h. absurd (false≢true (rw h at e)))
      (λ h. by-test (eqb v 2) (λ i. absurd (false≢true (rw (h, i) at e))) (λ i. rw (h, i)))

  -- 0 and 2 pass
  two-or-none : not (eqb v 0 || eqb v 2) ≡ false → eqb v 0 ≡ false → v ≡ 2
  two-or-none e z = by-test (eqb v 2) (λ i. eqb-true _ _ i) (λ i. absurd (false≢true (sym (rw (z, i) at e))))

  code-eleven : eqb b 0 && eqb v 2 ≡ true → code ≡ 11
  unfolding Upcoming.judge_of hidden_of
  code-eleven e =
      by-test (eqb b 0)
      (λ h. let z : v ≡ 2 = eqb-true v 2 (rw h at e) in rw (z, eqb-true b 0 h))
      (λ h. absurd (false≢true (rw h at e)))

  module _ (n : not (eqb v 0 || eqb v 2) ≡ false) (m : eqb b 0 && eqb v 2 ≡ false) where
    global-two : eqb v 0 ≡ false → b ≡ 0 → ⊥
    global-two z e = false≢true (sym m ∙ rw (e, two-or-none n z))

    code-twelve : ltb 2 b ≡ true → code ≡ 12
    unfolding Upcoming.judge_of hidden_of shown_of
    code-twelve l =
        let big : 2 < b = ltb-true _ _ l in
        let z = ne_eqb b 0 (λ (q : b ≡ 0). omega arith) in
        let o = ne_eqb b 1 (λ (q : b ≡ 1). omega arith) in
        let w = ne_eqb b 2 (λ (q : b ≡ 2). omega arith) in
        by-test (eqb v 0) (λ h. rw (h, z, o, w)) (λ h. rw (two-or-none n h, z, o, w))

    code-passes : ltb 2 b ≡ false → Passes b v
    code-passes l =
        let few : b ≤ 2 = ltb-false _ _ l in
        by-test (eqb v 0) (λ h. rw (eqb-true v 0 h) (shown b few))
        (λ h. rw (two-or-none n h) (hidden b few (global-two h)))

-- ---- values

-- the words of a row that a value becomes; a common's by its binding
abbrev pub Reads : ℕ → Value → Words → Type 0
Reads b undefined w = w.kind ≡ 7
Reads b (common a) w = w.kind ≡ cond (eqb b 0) 13 (cond (is_power_of_two a) 8 28)
Reads b sectionless w = w.kind ≡ 14
Reads b (section s) w = (w.kind ≡ 2) × (w.a ≡ s)
Reads b defined w = (refuses_value w.kind ≡ false) × (eqb w.kind 7 ≡ false) × (eqb w.kind 2 ≡ false) × (eqb w.kind 8 ≡ false)

converted-reads : (b cell : ℕ) (empty : Bool) (v : ℕ) → Reads b (placed_as (conversion_in cell) empty v) (converted_of (conversion_from cell) empty v)
unfolding converted_of conversion_from in_section
converted-reads o cell empty v =
    by-test (eqb cell 0) (λ a. rw a refl)
    (λ a.
    by-test (eqb cell 1) (λ b. rw (a, b) (refl, refl, refl, refl))
    (λ b. rw (a, b) (by-test empty (λ c. rw c (by-test (eqb v 0) (λ d. rw d (refl, refl)) (λ d. rw d (refl, refl, refl, refl)))) (λ c. rw c (refl, refl, refl, refl)))))

pub elf-reads : (cell : ℕ) (e : ElfSymbol) (empty : Bool) → Reads e.binding (elf_value e (conversion_in cell) empty) (value_of (conversion_from cell) e empty)
unfolding value_of undefined_of common_by_binding common_of
elf-reads cell e empty =
    by-test (eqb e.section 0) (λ a. rw a (by-test (eqb e.binding 2) (λ b. rw b refl) (λ b. rw b refl)))
    (λ a.
    by-test (eqb e.section 0xfff1) (λ b. rw (a, b) (refl, refl, refl, refl))
    (λ b.
    by-test (eqb e.section 0xfff2)
    (λ c. rw (a, b, c) (by-test (eqb e.binding 0) (λ d. rw d refl) (λ d. rw d (by-test (is_power_of_two e.value) (λ f. rw f refl) (λ f. rw f refl)))))
    (λ c. rw (a, b, c) (converted-reads e.binding cell empty e.value))))

-- handed in under a strong global name
given-reads : (x : SymbolValue) → Reads 1 (given_value x) (given_words x)
unfolding given_words common_of
given-reads Val.Null = (refl, refl, refl, refl)
given-reads (Val.Absolute v) = (refl, refl, refl, refl)
given-reads (Val.Section s) = (refl, refl)
given-reads (Val.SectionRelative s z) = (refl, refl, refl, refl)
given-reads (Val.SectionVirtualAddress s v) = (refl, refl, refl, refl)
given-reads Val.SectionNotLoaded = (refl, refl, refl, refl)
given-reads Val.ExternallyDefined = (refl, refl, refl, refl)
given-reads (Val.Undefined weak) = refl
given-reads (Val.Common a) = by-test (is_power_of_two a) (λ f. rw f refl) (λ f. rw f refl)

-- a section's symbol has a cell
cell-is : (l : Link) (n s : ℕ) → ltb (section_cell l n s) n ≡ not (ltb (n / 9) l.slots || not (ltb s l.slots))
unfolding section_cell
cell-is l n s =
    by-test (ltb (n / 9) l.slots) (λ a. rw (a, le-ltb n n (omega arith)))
    (λ a.
    let p : l.slots ≤ n / 9 = ltb-false _ _ a in
    by-test (ltb s l.slots)
    (λ b. let q : s < l.slots = ltb-true _ _ b in rw (a, b, lt-ltb (l.slots * 8 + s) n (omega arith)))
    (λ b. rw (a, b, le-ltb n n (omega arith))))

-- what the definitions ask of the words
record Valued (b : ℕ) (t : State) (x : Value) (w : Words) : Type 0 where
  refused-value : refuses_value w.kind ≡ (eqb b 0 && is_common x) || is_misaligned x || is_sectionless x
  thirteen : eqb b 0 && is_common x ≡ true → w.kind ≡ 13
  twenty-eight : eqb b 0 && is_common x ≡ false → is_misaligned x ≡ true → w.kind ≡ 28
  fourteen : is_sectionless x ≡ true → w.kind ≡ 14
  undefined-value : refuses_value w.kind ≡ false → eqb w.kind 7 ≡ is_undefined x
  common-value : refuses_value w.kind ≡ false → eqb w.kind 8 ≡ is_common x
  cell : cond (eqb w.kind 2) (cond (ltb (section_cell t.link (length t.sections) w.a) (length t.sections)) true false) true ≡ not (no_section_cell t x)

local-none : (b : ℕ) → eqb b 0 && false ≡ false
local-none b = by-test (eqb b 0) (λ e. rw e) (λ e. rw e)

-- of a value that isn't common, by its kind
module _ (b : ℕ) (t : State) (x : Value) (w : Words) (plain : is_common x ≡ false) (aligned : is_misaligned x ≡ false) where
  plainly : refuses_value w.kind ≡ is_sectionless x → (is_sectionless x ≡ true → w.kind ≡ 14) → eqb w.kind 7 ≡ is_undefined x → eqb w.kind 8 ≡ false
      → cond (eqb w.kind 2) (cond (ltb (section_cell t.link (length t.sections) w.a) (length t.sections)) true false) true ≡ not (no_section_cell t x)
      → Valued b t x w
  plainly p q u c d =
      record {
        refused-value = p ∙ sym (rw (plain, aligned, local-none b));
        thirteen = λ e. absurd (false≢true (sym (local-none b) ∙ rw plain at e));
        twenty-eight = λ n e. absurd (false≢true (sym aligned ∙ e));
        fourteen = q;
        undefined-value = λ n. u;
        common-value = λ n. c ∙ sym plain;
        cell = d;
      }

valued : (b : ℕ) (t : State) (x : Value) (w : Words) → Reads b x w → Valued b t x w
valued b t undefined w e = plainly b t undefined w refl refl (rw e) (λ q. absurd (false≢true q)) (rw e) (rw e) (rw e)
valued b t (common a) w e =
    by-test (eqb b 0)
    (λ o.
    let k : w.kind ≡ 13 = rw o at e in
    record {
      refused-value = rw (k, o);
      thirteen = λ q. k;
      twenty-eight = λ n q. absurd (false≢true (sym (rw o at n)));
      fourteen = λ q. absurd (false≢true q);
      undefined-value = λ q. rw k;
      common-value = λ q. absurd (false≢true (sym (rw k at q)));
      cell = rw k;
    })
    (λ o.
    by-test (is_power_of_two a)
    (λ p.
    let k : w.kind ≡ 8 = rw (o, p) at e in
    record {
      refused-value = rw (k, o, p);
      thirteen = λ q. absurd (false≢true (rw o at q));
      twenty-eight = λ n q. absurd (false≢true (rw p at q));
      fourteen = λ q. absurd (false≢true q);
      undefined-value = λ q. rw k;
      common-value = λ q. rw k;
      cell = rw k;
    })
    (λ p.
    let k : w.kind ≡ 28 = rw (o, p) at e in
    record {
      refused-value = rw (k, o, p);
      thirteen = λ q. absurd (false≢true (rw o at q));
      twenty-eight = λ n q. k;
      fourteen = λ q. absurd (false≢true q);
      undefined-value = λ q. rw k;
      common-value = λ q. absurd (false≢true (sym (rw k at q)));
      cell = rw k;
    }))
valued b t sectionless w e = plainly b t sectionless w refl refl (rw e) (λ q. e) (rw e) (rw e) (rw e)
valued b t (section s) w e =
    plainly b t (section s) w refl refl (rw e.0) (λ q. absurd (false≢true q)) (rw e.0) (rw e.0)
    (rw (e.0, e.1, cell-is t.link (length t.sections) s) (same (ltb (length t.sections / 9) t.link.slots || not (ltb s t.link.slots))))
  where
    same : (b : Bool) → cond (not b) true false ≡ not b
    same true = refl
    same false = refl
valued b t defined w e = plainly b t defined w refl refl e.0 (λ q. absurd (false≢true q)) e.1 e.3 (rw e.2)

-- ---- the decision on a row that stands for what is asked

-- a row's code beside the one that its binding and visibility give, hidden apart: the same refusal, local and weak alike
pub record Shown (c k : ℕ) : Type 0 where
  pub number : refuses_scope k ≡ true → c ≡ k
  pub refuses : refuses_scope c ≡ refuses_scope k
  pub local : eqb c 0 ≡ eqb k 0
  pub weak : weak_of c ≡ weak_of k

pub shown-same : (k : ℕ) → Shown k k
shown-same k = record { number = λ e. refl; refuses = refl; local = refl; weak = refl }

pub shown-library : (gabi : Bool) (k : ℕ) → Shown (library_code gabi k) k
shown-library gabi k =
    record { number = library-number gabi k; refuses = library-refused gabi k; local = library-local gabi k; weak = library-weak gabi k }

pub record Stands (r : Row) (a : Asked) : Type 0 where
  pub kinds : r.kind ≡ a.kind
  pub shows : Shown r.scope (Upcoming.judge_of a.binding a.visibility)
  pub values : Reads a.binding a.value r.value

-- number and place: 21 has its own
abbrev pub answered : ℕ → ℕ → ℕ → Refusal
answered n id place = cond (eqb n 0) (refused 0 0) (cond (eqb n 21) (refused 21 id) (refused n place))

type-is : (k : ℕ) → eqb k 4 ≡ false → ltb 4 k ≡ false → type_refusal k ≡ 0
unfolding type_refusal
type-is k e l = rw (lt-ltb k 4 (below (eqb-false _ _ e) (ltb-false _ _ l)))
  where
    below : (k ≡ 4 → ⊥) → k ≤ 4 → k < 4
    below u v = omega (arith, u, v)

type-four : (k : ℕ) → eqb k 4 ≡ true → type_refusal k ≡ 15
unfolding type_refusal
type-four k e = rw (eqb-true k 4 e)

type-above : (k : ℕ) → ltb 4 k ≡ true → type_refusal k ≡ 16
unfolding type_refusal
type-above k e = let l : 4 < k = ltb-true _ _ e in rw (le-ltb k 4 (omega arith), ne_eqb k 4 (λ (q : k ≡ 4). omega arith))

weak-is : (v : ℕ) → weak_of v ≡ eqb v 3 || eqb v 4
unfolding weak_of
weak-is v = by-test (eqb v 3) (λ e. rw e) (λ e. rw e (by-test (eqb v 4) (λ f. rw f) (λ f. rw f)))

-- every choice of truth values passes
abbrev every : (Bool → Bool) → Bool
every f = f true && f false

each : (f : Bool → Bool) → every f ≡ true → (b : Bool) → f b ≡ true
each f e true = by-test (f true) (λ h. h) (λ h. absurd (false≢true (rw h at e)))
each f e false = by-test (f true) (λ h. rw h at e) (λ h. absurd (false≢true (rw h at e)))

abbrev alike : Bool → Bool → Bool
alike true b = b
alike false b = not b

are-alike : (a b : Bool) → alike a b ≡ true → a ≡ b
are-alike true b e = sym e
are-alike false true e = absurd (false≢true e)
are-alike false false e = refl

-- ranks: undefined 0, in the gABI profile a strong reference 1; a weak definition 2, a common 3, a strong definition 4
abbrev rank-test : Bool → Bool → Bool → Bool → Bool → Bool → Bool → Bool
rank-test gabi ru rc rk un ac wk =
    alike
    (ltb (cond ru (cond gabi (cond rk 0 1) 0) (cond rc 3 (cond rk 2 4))) (cond un (cond gabi (cond wk 0 1) 0) (cond ac 3 (cond wk 2 4))))
    (not un && (ru || ac && rk && not rc || not ac && not wk && (rk || rc)) || gabi && un && not wk && ru && rk)

ranks : (gabi ru rc rk un ac wk : Bool)
    → ltb (cond ru (cond gabi (cond rk 0 1) 0) (cond rc 3 (cond rk 2 4))) (cond un (cond gabi (cond wk 0 1) 0) (cond ac 3 (cond wk 2 4)))
    ≡ not un && (ru || ac && rk && not rc || not ac && not wk && (rk || rc)) || gabi && un && not wk && ru && rk
ranks gabi ru rc rk un ac wk =
    are-alike _ _
    (each (rank-test gabi ru rc rk un ac)
    (each (λ ac. every (rank-test gabi ru rc rk un ac))
    (each (λ un. every (λ ac. every (rank-test gabi ru rc rk un ac)))
    (each (λ rk. every (λ un. every (λ ac. every (rank-test gabi ru rc rk un ac))))
    (each (λ rc. every (λ rk. every (λ un. every (λ ac. every (rank-test gabi ru rc rk un ac)))))
    (each (λ ru. every (λ rc. every (λ rk. every (λ un. every (λ ac. every (rank-test gabi ru rc rk un ac))))))
    (each (λ gabi. every (λ ru. every (λ rc. every (λ rk. every (λ un. every (λ ac. every (rank-test gabi ru rc rk un ac))))))) refl gabi) ru) rc) rk) un) ac) wk)

strongest : (gabi un ac wk : Bool) → eqb (cond un (cond gabi (cond wk 0 1) 0) (cond ac 3 (cond wk 2 4))) 4 ≡ not un && not ac && not wk
strongest true true ac true = refl
strongest true true ac false = refl
strongest false true ac wk = refl
strongest gabi false true wk = refl
strongest gabi false false true = refl
strongest gabi false false false = refl

pub least-below : (a b c : ℕ) → ltb c (lesser a b) ≡ ltb c a && ltb c b
unfolding lesser
least-below a b c =
    by-test (ltb a b)
    (λ e.
    let l : a < b = ltb-true _ _ e in
    rw e (by-test (ltb c a) (λ f. let k : c < a = ltb-true _ _ f in rw f (sym (lt-ltb c b (omega arith)))) (λ f. rw f)))
    (λ e.
    let l : b ≤ a = ltb-false _ _ e in
    rw e
    (by-test (ltb c b) (λ f. let k : c < b = ltb-true _ _ f in rw (f, lt-ltb c a (omega arith)))
    (λ f. rw f (by-test (ltb c a) (λ g. rw g) (λ g. rw g)))))

below_both : (a b c : ℕ) → leb (lesser a b) c ≡ not (ltb c a && ltb c b)
below_both a b c = not-below c (lesser a b) ∙ ap not (least-below a b c)

room-tree : (n lo c : Bool) → cond n false (cond lo (not c) true) ≡ not (n || lo && c)
room-tree true lo c = refl
room-tree false true c = refl
room-tree false false c = refl

module _ (k id place : ℕ) where
  fresh-tree : (x : Bool) → answered (cond (eqb (type_refusal k) 0) (cond x 2 0) (type_refusal k)) id place
      ≡ cond (eqb k 4) (refused 15 place) (cond (ltb 4 k) (refused 16 place) (cond x (refused 2 place) (refused 0 0)))
  fresh-tree x =
      by-test (eqb k 4) (λ e. rw (type-four k e, e))
      (λ e. by-test (ltb 4 k) (λ f. rw (type-above k f, e, f)) (λ f. rw (type-is k e f, e, f) (by-test x (λ g. rw g) (λ g. rw g))))

  stays-tree : (rp un ac wk : Bool) → answered (cond rp (type_refusal k) (cond (not un && not ac && not wk) 17 0)) id place
      ≡ cond (rp && eqb k 4) (refused 15 place) (cond (rp && ltb 4 k) (refused 16 place) (cond (not un && not ac && not rp && not wk) (refused 17 place) (refused 0 0)))
  stays-tree true un ac wk =
      by-test (eqb k 4) (λ e. rw (type-four k e, e))
      (λ e. by-test (ltb 4 k) (λ f. rw (type-above k f, e, f)) (λ f. rw (type-is k e f, e, f) (by-test un (λ g. rw g) (λ g. rw g (by-test ac (λ h. rw h) (λ h. rw h))))))
  stays-tree false true ac wk = refl
  stays-tree false false true wk = refl
  stays-tree false false false true = refl
  stays-tree false false false false = refl

-- local or not; known; removed
module _ (id : SymbolId) where
  abbrev holder : Bool → Bool → Holder
  holder known rm = cond known (cond rm Removed (Known id)) Nobody

  absent_by : (lo known rm : Bool) → not lo && known && rm ≡ true → absent_under lo (holder known rm) ≡ true
  absent_by true known rm e = absurd (false≢true e)
  absent_by false true true e = refl
  absent_by false true false e = absurd (false≢true e)
  absent_by false false rm e = absurd (false≢true e)

  fresh-by : (lo known rm : Bool) → lo || not known ≡ true → fresh_under lo (holder known rm) ≡ true
  fresh-by true true true e = refl
  fresh-by true true false e = refl
  fresh-by true false rm e = refl
  fresh-by false true rm e = absurd (false≢true e)
  fresh-by false false rm e = refl

  known_by : (lo known rm : Bool) → not lo && known && rm ≡ false → lo || not known ≡ false → (lo ≡ false) × (holder known rm ≡ Known id)
  known_by true known rm k e = absurd (false≢true (sym e))
  known_by false true true k e = absurd (false≢true (sym k))
  known_by false true false k e = (refl, refl)
  known_by false false rm k e = absurd (false≢true (sym e))

number_is : (d e : Decision) → d ≡ e → refusal_of d ≡ refusal_of e
number_is d e q = ap (λ (x : Decision). refusal_of x) q

module _ (t : State) (r : Row) (a : Asked) (st : Stands r a) where
  abbrev decided : Holder → Decision
  decided h = decide_of t.link t.symbols t.sections r h

  module _ (h : Holder) (id place : ℕ) where
    refused-shown : (n : ℕ) → r.scope ≡ n → refuses_scope n ≡ true → refusal_of (decided h) ≡ n
    refused-shown n e q = number_is _ _ (scope-refused t.link t.symbols t.sections r h (ap (refuses_scope) e ∙ q)) ∙ e

    numbered : (n : ℕ) → Upcoming.judge_of a.binding a.visibility ≡ n → refuses_scope n ≡ true → r.scope ≡ n
    numbered n e l = st.shows.number (ap (refuses_scope) e ∙ l) ∙ e

    pub shown-first : (rest : List Rule) → (Passes a.binding a.visibility → answered (refusal_of (decided h)) id place ≡ first_refusal rest)
        → answered (refusal_of (decided h)) id place ≡ first_refusal (shown_rules t a place ++ rest)
    shown-first rest f =
        first-is (not (eqb a.visibility 0 || eqb a.visibility 2)) _ _ (λ e. rw (refused-shown 10 (numbered 10 (code-ten _ _ e) refl) refl))
        (λ e.
        first-is (is_local t a && eqb a.visibility 2) _ _ (λ g. rw (refused-shown 11 (numbered 11 (code-eleven _ _ g) refl) refl))
        (λ g.
        first-is (ltb 2 a.binding) _ _ (λ i. rw (refused-shown 12 (numbered 12 (code-twelve _ _ e g i) refl) refl))
        (λ i. f (code-passes _ _ e g i))))

  -- ---- past the visibility

  abbrev held : Holder
  held = holder_of t.link t.names t.symbols (record { 0 = a.name })

  abbrev row : ℕ
  row = row_of t a.name

  module _ (p : Passes a.binding a.visibility) where
    low : scope_refused r ≡ false
    low = st.shows.refuses ∙ p.low

    local : eqb r.scope 0 ≡ is_local t a
    local = st.shows.local ∙ p.local

    weak : weak_of r.scope ≡ eqb a.binding 2
    weak = st.shows.weak ∙ p.weak

    -- a global or weak name whose row was removed
    decided-removed : not (is_local t a) && is_known t a.name && is_removed t row ≡ true → refusal_of (decided held) ≡ 21
    decided-removed e =
        number_is _ _
        (name-absent t.link t.symbols t.sections r low held
        (rw (local, holder-is t a.name) (absent_by (record { 0 = row }) (is_local t a) (is_known t a.name) (is_removed t row) e)))

    module _ (k : not (is_local t a) && is_known t a.name && is_removed t row ≡ false) where
      fresh : is_fresh t a ≡ true → fresh_under (is_local_row r) held ≡ true
      fresh e = rw (local, holder-is t a.name) (fresh-by (record { 0 = row }) (is_local t a) (is_known t a.name) (is_removed t row) e)

      meets : is_fresh t a ≡ false → Meets r held (record { 0 = row })
      meets e =
          let (lo, h) = known_by (record { 0 = row }) (is_local t a) (is_known t a.name) (is_removed t row) k e in
          record { global = local ∙ lo; known = holder-is t a.name ∙ h }

      v : Valued a.binding t a.value r.value
      v = valued a.binding t a.value r.value st.values

      -- 13 and 14, whatever the name
      value-number : (n : ℕ) → r.value.kind ≡ n → refuses_value n ≡ true → refusal_of (decided held) ≡ n
      value-number n q j =
          let w : value_refused r ≡ true = ap (refuses_value) q ∙ j in
          by-test (is_fresh t a) (λ e. number_is _ _ (new-unvalued t.link t.symbols t.sections r low held (fresh e) w) ∙ q)
          (λ e. number_is _ _ (known-unvalued t.link t.symbols t.sections r low held (record { 0 = row }) (meets e) w) ∙ q)

      module _ (c : is_local t a && is_common a.value ≡ false) (m : is_misaligned a.value ≡ false) (d : is_sectionless a.value ≡ false) where
        abbrev at : SymbolId
        at = record { 0 = row }

        typed : (b : Bool) → eqb (type_refusal a.kind) 0 ≡ b → eqb (type_refusal r.kind) 0 ≡ b
        typed b z = ap (λ (n : ℕ). eqb (type_refusal n) 0) st.kinds ∙ z

        kept : value_refused r ≡ false
        kept = v.refused-value ∙ rw (c, m, d)

        room-is : room_of t.link t.symbols t.sections r ≡ not (no_symbol_row t || is_local t a && no_section_cell t a.value)
        unfolding room_of section_room
        room-is = rw (below_both 65535 (length t.symbols / 8) t.link.symbols, local, v.cell) (room-tree (no_symbol_row t) (is_local t a) (no_section_cell t a.value))

        new-number : is_fresh t a ≡ true
            → refusal_of (decided held)
            ≡ cond (eqb (type_refusal a.kind) 0) (cond (no_symbol_row t || is_local t a && no_section_cell t a.value) 2 0) (type_refusal a.kind)
        new-number e =
            by-test (eqb (type_refusal a.kind) 0)
            (λ z.
            by-test (no_symbol_row t || is_local t a && no_section_cell t a.value)
            (λ m.
            rw (z, m)
            (number_is _ _ (new-full t.link t.symbols t.sections r low held (fresh e) kept (typed true z) (room-is ∙ ap not m))))
            (λ m.
            rw (z, m)
            (number_is _ _ (new-appended t.link t.symbols t.sections r low held (fresh e) kept (typed true z) (room-is ∙ ap not m)))))
            (λ z.
            rw z (number_is _ _ (new-untyped t.link t.symbols t.sections r low held (fresh e) kept (typed false z)) ∙ ap type_refusal st.kinds))

        -- the ranks, by what is asked
        yields-is : ltb (held_rank t.link.gabi t.symbols (record { 0 = row })) (row_rank r t.link.gabi) ≡ replaces t a
        unfolding rank_of reference_rank scope_in
        yields-is =
            rw (v.undefined-value kept, v.common-value kept, weak, weak-is (class_of t row))
            (ranks t.link.gabi (is_undefined_row t row) (is_common_row t row) (is_weak_row t row) (is_undefined a.value) (is_common a.value) (eqb a.binding 2))

        strong-is : eqb (row_rank r t.link.gabi) 4 ≡ not (is_undefined a.value) && not (is_common a.value) && not (eqb a.binding 2)
        unfolding rank_of reference_rank
        strong-is = rw (v.undefined-value kept, v.common-value kept, weak) (strongest t.link.gabi (is_undefined a.value) (is_common a.value) (eqb a.binding 2))

        known-number : is_fresh t a ≡ false
            → refusal_of (decided held) ≡ cond (replaces t a) (type_refusal a.kind) (cond (not (is_undefined a.value) && not (is_common a.value) && not (eqb a.binding 2)) 17 0)
        known-number e =
            by-test (replaces t a)
            (λ y.
            rw y
            (by-test (eqb (type_refusal a.kind) 0)
            (λ z. number_is _ _ (known-replaced t.link t.symbols t.sections r low held at (meets e) kept (yields-is ∙ y) (typed true z)) ∙ sym (eqb-true _ _ z))
            (λ z. number_is _ _ (known-untyped t.link t.symbols t.sections r low held at (meets e) kept (yields-is ∙ y) (typed false z)) ∙ ap type_refusal st.kinds)))
            (λ y.
            by-test (not (is_undefined a.value) && not (is_common a.value) && not (eqb a.binding 2))
            (λ s. rw (y, s) (number_is _ _ (known_twice t.link t.symbols t.sections r low held at (meets e) kept (yields-is ∙ y) (strong-is ∙ s))))
            (λ s.
            rw (y, s)
            (by-test (joins (held_rank t.link.gabi t.symbols at) (row_rank r t.link.gabi))
            (λ j. number_is _ _ (known-joined t.link t.symbols t.sections r low held at (meets e) kept (yields-is ∙ y) (strong-is ∙ s) j))
            (λ j.
            by-test (hides t.link.gabi t.symbols r at)
            (λ h. number_is _ _ (known-amended t.link t.symbols t.sections r low held at (meets e) kept (yields-is ∙ y) (strong-is ∙ s) j h))
            (λ h. number_is _ _ (known_kept t.link t.symbols t.sections r low held at (meets e) kept (yields-is ∙ y) (strong-is ∙ s) j h))))))

    -- a removed row, the value, then a new or a known name
    pub held_first : (place : ℕ) → answered (refusal_of (decided held)) a.name place ≡ first_refusal (held_rules t a place)
    held_first place =
        first-is (not (is_local t a) && is_known t a.name && is_removed t row) _ _ (λ e. rw (decided-removed e))
        (λ k.
        first-is (is_local t a && is_common a.value) _ _ (λ e. rw (value-number k 13 ((valued a.binding t a.value r.value st.values).thirteen e) refl))
        (λ c.
        first-is (is_misaligned a.value) _ _ (λ e. rw (value-number k 28 ((valued a.binding t a.value r.value st.values).twenty-eight c e) refl))
        (λ m.
        first-is (is_sectionless a.value) _ _ (λ e. rw (value-number k 14 ((valued a.binding t a.value r.value st.values).fourteen e) refl))
        (λ d. by-test (is_fresh t a) (λ e. rw (new-number k c m d e, e) (fresh-tree a.kind a.name place (no_symbol_row t || is_local t a && no_section_cell t a.value)))
        (λ e. rw (known-number k c m d e, e) (stays-tree a.kind a.name place (replaces t a) (is_undefined a.value) (is_common a.value) (eqb a.binding 2)))))))

    decided-unissued : refusal_of (decided Unissued) ≡ 21
    decided-unissued = number_is _ _ (name-absent t.link t.symbols t.sections r low Unissued refl)

-- ---- a direct add

range-tree : (x y z w : Bool) → cond x false (cond y false (cond z false w)) ≡ not (x || y || z || not w)
range-tree true y z w = refl
range-tree false true z w = refl
range-tree false false true w = refl
range-tree false false false true = refl
range-tree false false false false = refl

section-tree : (x y z : Bool) → cond x true (cond y true (cond z true false)) ≡ x || y || z
section-tree true y z = refl
section-tree false true z = refl
section-tree false false true = refl
section-tree false false false = refl

pair-tree : (x y : Bool) → cond x false (cond y false true) ≡ not (x || y)
pair-tree true y = refl
pair-tree false true = refl
pair-tree false false = refl

pub range-is : (u : UpcomingSymbol) → in_range u ≡ not (is_outside u)
unfolding elf_in_range external_in_range section_in_range
range-is Null = refl
range-is (GlobalUnknown name) = refl
range-is (GlobalHidden name value) = refl
range-is (Section s) = refl
range-is (ExternallyDefined name visibility binding) = pair-tree (ltb 15 binding) (ltb 3 visibility)
range-is (Elf e name file) =
    range-tree (ltb 15 e.binding) (ltb 15 e.kind) (ltb 3 e.visibility) _
    ∙ ap (λ (b : Bool). not (ltb 15 e.binding || ltb 15 e.kind || ltb 3 e.visibility || not b))
    (section-tree (ltb e.section 0xff00) (eqb e.section 0xfff1) (eqb e.section 0xfff2))

module _ (t : State) (conversion : List ℕ) where
  stands : (u : UpcomingSymbol) → Stands (Row.row_of t.link.gabi conversion u (empty_at t.names (name_of u))) (asked t conversion u)
  unfolding elf_row_of external_row_of Upcoming.judge_of shown_of hidden_of
  stands Null = record { kinds = refl; shows = shown-same _; values = (refl, refl, refl, refl) }
  stands (GlobalUnknown name) = record { kinds = refl; shows = shown-same _; values = refl }
  stands (GlobalHidden name value) = record { kinds = refl; shows = shown-same _; values = given-reads value }
  stands (Section s) = record { kinds = refl; shows = shown-same _; values = (refl, refl) }
  stands (ExternallyDefined name visibility binding) =
      record { kinds = refl; shows = shown-library t.link.gabi (Upcoming.judge_of binding visibility); values = (refl, refl, refl, refl) }
  stands (Elf e name file) =
      record {
        kinds = refl;
        shows = shown-same _;
        values = elf-reads (get_or conversion e.section 0) e (is_empty t name.0);
      }

  same_name : (u : UpcomingSymbol) → (Row.row_of t.link.gabi conversion u (empty_at t.names (name_of u))).name ≡ record { 0 = (asked t conversion u).name }
  unfolding elf_row_of external_row_of
  same_name Null = refl
  same_name (GlobalUnknown name) = refl
  same_name (GlobalHidden name value) = refl
  same_name (Section s) = refl
  same_name (ExternallyDefined name visibility binding) = refl
  same_name (Elf e name file) = refl

  same-file : (u : UpcomingSymbol) → file_of u ≡ (asked t conversion u).file
  same-file Null = refl
  same-file (GlobalUnknown name) = refl
  same-file (GlobalHidden name value) = refl
  same-file (Section s) = refl
  same-file (ExternallyDefined name visibility binding) = refl
  same-file (Elf e name file) = refl

module _ (t : State) where
  committed-is : (r : Row) (file : Option Interned) (d : Decision) → refusal_by (committed_of (table t) r file d).said ≡ answered (refusal_of d) (place_of t.link r.name file) 0
  unfolding committed_of
  committed-is r file d =
      by-test (eqb (refusal_of d) 21) (λ e. rw (e, eqb-true (refusal_of d) 21 e))
      (λ e. rw e (by-test (eqb (refusal_of d) 0) (λ f. rw f) (λ f. rw f)))

  -- the file's name
  file-issued : (file : Option Interned) → file_issued t.link file ≡ not (is_unissued_file t file)
  file-issued None = refl
  file-issued (Some id) = rw (not-below id.0 t.link.names) (by-test (ltb id.0 t.link.names) (λ e. rw e) (λ e. rw e))

  file-place : (name : Interned) (file : Option Interned) → is_unissued_file t file ≡ true → unissued_file t.link name file ≡ file_id file
  file-place name None e = absurd (false≢true e)
  file-place name (Some id) e = rw (not-below id.0 t.link.names, e)

  name-place : (name : Interned) (file : Option Interned) → is_unissued_file t file ≡ false → unissued_file t.link name file ≡ name.0
  name-place name None e = refl
  name-place name (Some id) e = rw (not-below id.0 t.link.names, e)

  module _ (r : Row) (a : Asked) (st : Stands r a) where
    named-exactly : (name : Interned) → name ≡ record { 0 = a.name }
        → answered (refusal_of (decide_of t.link t.symbols t.sections r (direct_holder_of t.link t.names t.symbols name a.file))) (place_of t.link name a.file) 0
        ≡ first_refusal (shown_rules t a 0 ++ (issued_rules t a ++ held_rules t a 0))
    unfolding direct_holder_of issued_of place_of
    named-exactly name n =
        rw n
        (shown-first t r a st _ _ 0 (issued_rules t a ++ held_rules t a 0)
        (λ p.
        first-is (not (is_issued t a.name)) _ _
        (λ e. rw (not-below a.name t.link.names, e, decided-unissued t r a st p))
        (λ e.
        first-is (is_unissued_file t a.file) _ _
        (λ f.
        rw (
          not-below a.name t.link.names,
          e,
          file-issued a.file,
          f,
          file-place (record { 0 = a.name }) a.file f,
          decided-unissued t r a st p,
        ))
        (λ f.
        rw (not-below a.name t.link.names, e, file-issued a.file, f, name-place (record { 0 = a.name }) a.file f)
        (held_first t r a st p 0)))))

    row-exactly : r.name ≡ record { 0 = a.name }
        → refusal_by (add_row_of (table t) r a.file).said ≡ first_refusal (shown_rules t a 0 ++ (issued_rules t a ++ held_rules t a 0))
    unfolding add_row_of decided_of
    row-exactly n = committed-is r a.file (decided_of (table t) r a.file) ∙ named-exactly r.name n

  -- the head, the fields, the row
  add_is : (conversion : List ℕ) (u : UpcomingSymbol)
      → refusal_by (add_of (table t) conversion u).said
      ≡ cond (eqb (change_of t.link (lent (table t))).number 0)
      (cond (is_outside u) (refused 1 0) (refusal_by (add_row_of (table t) (Row.row_of t.link.gabi conversion u (empty_at t.names (name_of u))) (file_of u)).said))
      (refused (change_of t.link (lent (table t))).number 0)
  unfolding add_of judge_add_of
  add_is conversion u =
      by-test (eqb (change_of t.link (lent (table t))).number 0)
      (λ z. rw (z, range-is u) (by-test (is_outside u) (λ o. rw o) (λ o. rw (o, z))))
      (λ z. rw (z, z))

-- the call
pub add-exactly : (conversion : List ℕ) (u : UpcomingSymbol) (s : Linked) → call_refusal (add conversion u) s
    ≡ first_refusal (add_head s.table ++ add_rules s.table conversion u)
add-exactly conversion u s =
    let t = s.table in
    let n = (change_of t.link (lent (table t))).number in
    add_is t conversion u
    ∙ headed (add_rules t conversion u) (λ (r : Refusal). r) (add_head t) (refused n 0) _ (refused n 0) refl
    (ap (λ (r : Refusal). refused r.number 0) (head-rules t.link (lent (table t))) ∙ sym (placeless-is (head_rules t.link (lent (table t))))) refl
    (λ z.
    first-is (is_outside u) _ _ (λ o. rw o)
    (λ o. rw (o, same-file t conversion u) (row-exactly t _ (asked t conversion u) (stands t conversion u) (same_name t conversion u))))
