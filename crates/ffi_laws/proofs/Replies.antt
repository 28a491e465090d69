-- Theorems over specs/Replies.antt.
-- Assumes nothing.
use Rattle.archive_walk.specs.declared.Offer.TheVariants.{Member, Done}
use Rattle.archive_walk.specs.declared.Offer.{Offer}
use Rattle.link.specs.declared.cause.Refusal.{Refusal}
use Rattle.symbol.specs.declared.Symbol.{Symbol}
use Rattle.link.specs.declared.SymbolId.{SymbolId}
use Rattle.std.specs.Prelude.{ℕ, zero, suc, ◌+◌, ◌*◌, ◌<◌, ◌≤◌, Bool, ◌||◌, List, [], ◌∷◌, ◌≢◌, eqb, ltb, get_or, set, take, drop, length, Option, Result, None, Some, Ok, Err, true, false}
use Rattle.std.proofs.Common.{arith, le_refl, sym, ap, ◌∙◌, drop_of_length-le, ext_get_or}
use Rattle.std.proofs.Math.Path.{◌≡◌, refl}
use Rattle.std.proofs.Math.Bool.{true, false}
use Rattle.std.proofs.Math.ListN.{length-set}
use Rattle.std.proofs.Math.Seq.{get_or-set_same, get_or-set_other}
use borrow.Author.Tests.{eqb-true, eqb-false, ltb-false}
use Rattle.cells.specs.Proof.Split.{by-test}
use Rattle.cells.specs.Rows.{put_row}
use Rattle.cells.specs.Proof.Rows.{length-put_row, row_same, row_other}
use Rattle.link.specs.declared.Link.{Link}
use Rattle.link.specs.Bounds.{lesser}
use Rattle.link.specs.Judge.{judge_of}
use Rattle.byte_slices.specs.Bytes.{part}
use Rattle.interner.specs.Names.{store_of, name_at}
use Rattle.interner.specs.Calls.{Resolved, lent, resolve_of}
use Rattle.symbols.specs.Lookup as Lookup
use Rattle.archive_walk.specs.Walk.{begun_said, offer_said}
use Rattle.object_requirement.specs.Matches as Matches
use Rattle.ffi_cells.specs.declared.header.Reply.{Reply}
use Rattle.ffi_cells.specs.Header.{is_set, flag_of, is_short, link_with, link_in, refusal_of, reply_in, counts_in, profile_in, header_of, tell_of, answer_of}
use Rattle.ffi_names.specs.Calls.{first_byte, part_reply, resolve_reply}
use Rattle.ffi_symbols.specs.LookupCalls.{found_left, found_of, section_symbol_reply}
use Rattle.elf_file.specs.declared.counts.Counts.{Counts}
use Rattle.ffi_merge.specs.FileCalls as FileCalls
use Rattle.ffi_archive.specs.Calls.{begun_reply, offered_reply, admitted_reply}
use Rattle.lot_report.specs.declared.Figures.{Figures}
use Rattle.lot_report.specs.declared.Report.{Report}
use Rattle.lot_report.specs.Report.{add_title_of}
use Rattle.ffi_report.specs.Calls.{title_told, title_in, title_call, report_in, figures_in, put_from, reported}
use Rattle.ffi_laws.specs.Replies.{Holds, Replies, offer_cells, some_id, symbols_out}

-- ---- the replies

pub found-reply : (h out : List ℕ) (f : Result Symbol Refusal)
    → found_of h out f ≡ found_left (answer_of h (refusal_of (Lookup.said f).number (Lookup.said f).place)) (symbols_out out (Lookup.said f).values)
found-reply h out (Ok s) = refl
found-reply h out (Err r) = refl

pub section-symbol-reply : (x : Option SymbolId) → Replies (section_symbol_reply x) (Lookup.section_symbol_said x).number (Lookup.section_symbol_said x).place (some_id (Lookup.section_symbol_said x).values)
section-symbol-reply None = record { number_is = refl; place_is = refl; values-are = refl }
section-symbol-reply (Some id) = record { number_is = refl; place_is = refl; values-are = refl }

pub begun-reply : (x : Result ℕ Refusal) → Replies (begun_reply x) (begun_said x).number (begun_said x).place (begun_said x).values
begun-reply (Ok n) = record { number_is = refl; place_is = refl; values-are = refl }
begun-reply (Err r) = record { number_is = refl; place_is = refl; values-are = refl }

pub offer-reply : (x : Result Offer Refusal) → Replies (offered_reply x) (offer_said x).number (offer_said x).place (offer_cells (offer_said x).values)
offer-reply (Ok (Member j o e p)) = record { number_is = refl; place_is = refl; values-are = refl }
offer-reply (Ok (Done p)) = record { number_is = refl; place_is = refl; values-are = refl }
offer-reply (Err r) = record { number_is = refl; place_is = refl; values-are = refl }

pub admission-reply : (x : Result Bool Refusal) → Replies (admitted_reply x) (Matches.said x).number (Matches.said x).place (Matches.said x).values
admission-reply (Ok true) = record { number_is = refl; place_is = refl; values-are = refl }
admission-reply (Ok false) = record { number_is = refl; place_is = refl; values-are = refl }
admission-reply (Err r) = record { number_is = refl; place_is = refl; values-are = refl }

-- `resolve`: number and place; the part of the lent bytes that the reply tells is the name
take_own : (k : ℕ) (l : List ℕ) → take (length (take k l)) l ≡ take k l
take_own zero [] = refl
take_own zero (x ∷ l) = refl
take_own (suc k) [] = refl
take_own (suc k) (x ∷ l) = ap (◌∷◌ x) (take_own k l)

part-own : (b n : List ℕ) (id : ℕ) → part b (first_byte n id (length b)) (length (name_at b n id)) ≡ name_at b n id
unfolding first_byte lesser
part-own b n id =
    let start : ℕ = get_or n (id * 8 + 0) 0 in
    let len : ℕ = get_or n (id * 8 + 1) 0 in
    by-test (ltb start (length b)) (λ a. rw a (take_own len (drop start b)))
    (λ a.
    let past : drop start b ≡ [] = drop_of_length-le b {i = start} (ltb-false start (length b) a) in
    let end : drop (length b) b ≡ [] = drop_of_length-le b {i = length b} (le_refl (length b)) in
    rw (a, past, end) (take_own len []))

module _ (b n : List ℕ) (id : ℕ) (l : Link) where
  abbrev answer : Resolved
  answer = resolve_of (store_of b n l) (record { 0 = id })

  abbrev reply : Reply
  reply = resolve_reply b n id answer

  pub resolve-refusal : (reply.number ≡ answer.refusal.number) × (answer.refusal.number ≢ 0 → reply.place ≡ answer.refusal.place)
  unfolding part_reply
  resolve-refusal =
      by-test (eqb answer.refusal.number 0) (λ z. rw z (sym (eqb-true _ _ z), λ u. absurd (u (eqb-true _ _ z)))) (λ z. rw z (refl, λ u. refl))

  pub resolve-reply : answer.refusal.number ≡ 0 → part b reply.first reply.second ≡ answer.name
  unfolding part_reply resolve_of
  resolve-reply z =
      by-test (eqb (judge_of l (lent (store_of b n l))).number 0)
      (λ j.
      by-test (ltb id l.names) (λ h. rw (j, h) (part-own b n id)) (λ h. let q : ◌≡◌ {A = ℕ} 23 0 = rw (j, h) at z in absurd (omega arith)))
      (λ j. absurd (eqb-false _ _ j (rw j at z)))

replied : (h : List ℕ) (broken key : ℕ) (r : Reply) → 24 ≤ length h → Holds (reply_in h broken key r) r
unfolding reply_in
replied h broken key r long =
    record {
      number = row_same h 1 cells 1 refl (omega arith) (omega arith);
      place = row_same h 1 cells 2 refl (omega arith) (omega arith);
      first = row_same h 1 cells 3 refl (omega arith) (omega arith);
      second = row_same h 1 cells 4 refl (omega arith) (omega arith);
      third = row_same h 1 cells 5 refl (omega arith) (omega arith);
      fourth = row_same h 1 cells 6 refl (omega arith) (omega arith);
    }
  where
    cells : List ℕ
    cells = broken ∷ r.number ∷ r.place ∷ r.first ∷ r.second ∷ r.third ∷ r.fourth ∷ key ∷ []

module _ (h : List ℕ) (long : is_short h ≡ false) (r : Reply) where
  room : 24 ≤ length h
  unfolding is_short
  room = ltb-false (length h) 24 long

  -- a call that doesn't change a link
  pub answer-held : Holds (answer_of h r).header r
  unfolding answer_of
  answer-held = replied h (get_or h 8 0) (get_or h 15 0) r room

  pub answer-number : (answer_of h r).number ≡ r.number
  unfolding answer_of
  answer-number = refl

  -- a changing call
  module _ (l : Link) where
    abbrev counts : List ℕ
    counts = l.names ∷ l.bytes ∷ l.symbols ∷ l.sections ∷ l.inputs ∷ l.lists ∷ l.chains ∷ l.slots ∷ []

    abbrev profiled : List ℕ
    profiled = profile_in (counts_in h l) l

    as_long : length profiled ≡ length h
    unfolding profile_in counts_in
    as_long = length-set (put_row h 0 counts) 16 (flag_of l.gabi) ∙ length-put_row h 0 counts

    tell-room : 24 ≤ length profiled
    tell-room = omega (arith, room, as_long)

    pub tell-held : Holds (tell_of h l r).header r
    unfolding tell_of header_of
    tell-held = replied profiled (flag_of l.broken) l.key r tell-room

    pub tell-number : (tell_of h l r).number ≡ r.number
    unfolding tell_of
    tell-number = refl

    abbrev reply_cells : List ℕ
    reply_cells = flag_of l.broken ∷ r.number ∷ r.place ∷ r.first ∷ r.second ∷ r.third ∷ r.fourth ∷ l.key ∷ []

    count-cell : (f : ℕ) → f < 8 → get_or (header_of h l r) (0 * 8 + f) 0 ≡ get_or counts f 0
    unfolding header_of reply_in profile_in counts_in
    count-cell f low =
        row_other profiled 1 reply_cells 0 f refl low (λ z. omega arith)
        ∙ get_or-set_other (put_row h 0 counts) 16 (0 * 8 + f) (flag_of l.gabi) 0 (λ z. omega arith) ∙ row_same h 0 counts f refl low (omega (arith, room))

    reply-cell : (f : ℕ) → f < 8 → get_or (header_of h l r) (1 * 8 + f) 0 ≡ get_or reply_cells f 0
    unfolding header_of reply_in
    reply-cell f low = row_same profiled 1 reply_cells f refl low (omega (arith, tell-room))

    profile-cell : get_or (header_of h l r) (2 * 8 + 0) 0 ≡ flag_of l.gabi
    unfolding header_of reply_in profile_in counts_in
    profile-cell =
        row_other profiled 1 reply_cells 2 0 refl (omega arith) (λ z. omega arith)
        ∙ get_or-set_same (put_row h 0 counts) 16 (flag_of l.gabi) 0 (omega (arith, room, length-put_row h 0 counts))

    flag-back : (b : Bool) → is_set (flag_of b) ≡ b
    unfolding is_set flag_of
    flag-back true = refl
    flag-back false = refl

    pub tell-link : link_in (tell_of h l r).header ≡ l
    unfolding link_in link_with tell_of
    tell-link =
        rw (
          count-cell 0 (omega arith),
          count-cell 1 (omega arith),
          count-cell 2 (omega arith),
          count-cell 3 (omega arith),
          count-cell 4 (omega arith),
          count-cell 5 (omega arith),
          count-cell 6 (omega arith),
          count-cell 7 (omega arith),
          reply-cell 0 (omega arith),
          reply-cell 7 (omega arith),
          profile-cell,
          flag-back l.broken,
          flag-back l.gabi,
        )

module _ (a : List ℕ) (room : 8 ≤ length a) where
  cell : (vs : List ℕ) (f : ℕ) → length vs ≡ 8 → f < 8 → get_or (put_row a 0 vs) f 0 ≡ get_or vs f 0
  cell vs f l b = let e : 0 * 8 + f ≡ f = omega arith in ap (λ (k : ℕ). get_or (put_row a 0 vs) k 0) (sym e) ∙ row_same a 0 vs f l b room

  pub counts-reply : (c : Counts) → let told = FileCalls.count_told a (Ok c) in
      (told.number ≡ 0) × (get_or told.answer 1 0 ≡ c.sections) × (get_or told.answer 2 0 ≡ c.symbols) × (get_or told.answer 3 0 ≡ c.relocations)
      × (get_or told.answer 4 0 ≡ c.listed) × (get_or told.answer 5 0 ≡ c.work_rows)
  unfolding FileCalls.count_told
  counts-reply c =
      let vs : List ℕ = 0 ∷ c.sections ∷ c.symbols ∷ c.relocations ∷ c.listed ∷ c.work_rows ∷ 0 ∷ 0 ∷ [] in
      (refl, cell vs 1 refl (omega arith), cell vs 2 refl (omega arith), cell vs 3 refl (omega arith), cell vs 4 refl (omega arith), cell vs 5 refl (omega arith))

  pub count-refusal : (r : Refusal) → let told = FileCalls.count_told a (Err r) in (told.number ≡ r.number) × (get_or told.answer 0 0 ≡ r.place)
  unfolding FileCalls.count_told
  count-refusal r = (refl, cell (r.place ∷ 0 ∷ 0 ∷ 0 ∷ 0 ∷ 0 ∷ 0 ∷ 0 ∷ []) 0 refl (omega arith))

-- ---- a title of a report

-- cells from a place on
put-before : (cells xs : List ℕ) (at k : ℕ) → k < at → get_or (put_from cells at xs) k 0 ≡ get_or cells k 0
unfolding put_from
put-before cells [] at k h = refl
put-before cells (x ∷ xs) at k h = put-before (set cells at x) xs (at + 1) k (omega (arith, h)) ∙ get_or-set_other cells at k x 0 (λ z. omega (arith, h, z))

put-at : (cells xs : List ℕ) (at k : ℕ) → k < length xs → at + length xs ≤ length cells → get_or (put_from cells at xs) (at + k) 0 ≡ get_or xs k 0
unfolding put_from
put-at cells [] at k h room = absurd (omega (arith, h))
put-at cells (x ∷ xs) at zero h room =
    let e : at + zero ≡ at = omega arith in
    rw e (put-before (set cells at x) xs (at + 1) at (omega arith) ∙ get_or-set_same cells at x 0 (omega (arith, room)))
put-at cells (x ∷ xs) at (suc k) h room =
    let e : at + suc k ≡ at + 1 + k = omega arith in
    rw e (put-at (set cells at x) xs (at + 1) k (omega (arith, h)) (omega (arith, room, length-set cells at x)))

module _ (h : List ℕ) where
  told-leaves : (report figures : List ℕ) (r : Report) (a : Result Figures Refusal) → (title_told h report figures r a).told.number ≢ 0
      → ((title_told h report figures r a).report ≡ report) × ((title_told h report figures r a).figures ≡ figures)
  unfolding reported answer_of
  told-leaves report figures r (Ok f) z = absurd (z refl)
  told-leaves report figures r (Err e) z = (refl, refl)

  pub title-refusal : (walk symbols sections report figures : List ℕ) → (title_call h walk symbols sections report figures).told.number ≢ 0
      → ((title_call h walk symbols sections report figures).report ≡ report) × ((title_call h walk symbols sections report figures).figures ≡ figures)
  unfolding title_call
  title-refusal walk symbols sections report figures =
      by-test (is_short h) (λ a. rw a (λ z. (refl, refl)))
      (λ a.
      by-test (ltb (length walk) 7 || (ltb (length report) 14 || ltb (length figures) 13)) (λ b. rw (a, b) (λ z. (refl, refl)))
      (λ b.
      let x = add_title_of (report_in report) (title_in h walk symbols sections) in
      rw (a, b) (told-leaves report figures x.report x.answer)))

  module _ (report figures : List ℕ) (roomy : 14 ≤ length report) (wide : 13 ≤ length figures) (r : Report) (f : Figures) (totals : length r.totals.0 ≡ 13)
      (line : length f.0 ≡ 13) where
    abbrev counted : List ℕ
    counted = set report 0 r.titles

    total-cell : (k : ℕ) → k < 13 → get_or (put_from counted 1 r.totals.0) (1 + k) 0 ≡ get_or r.totals.0 k 0
    total-cell k g = put-at counted r.totals.0 1 k (omega (arith, g, totals)) (omega (arith, roomy, totals, length-set report 0 r.titles))

    titles-cell : get_or (put_from counted 1 r.totals.0) 0 0 ≡ r.titles
    titles-cell = put-before counted r.totals.0 1 0 (omega arith) ∙ get_or-set_same report 0 r.titles 0 (omega (arith, roomy))

    -- thirteen cells, one by one
    abbrev cells : List ℕ → List ℕ
    cells xs =
        get_or xs 0 0
        ∷ get_or xs 1 0
        ∷ get_or xs 2 0
        ∷ get_or xs 3 0
        ∷ get_or xs 4 0
        ∷ get_or xs 5 0
        ∷ get_or xs 6 0
        ∷ get_or xs 7 0
        ∷ get_or xs 8 0
        ∷ get_or xs 9 0
        ∷ get_or xs 10 0
        ∷ get_or xs 11 0
        ∷ get_or xs 12 0
        ∷ []

    of-place : (xs : List ℕ) (k : ℕ) → k < 13 → get_or (cells xs) k 0 ≡ get_or xs k 0
    of-place xs zero g = refl
    of-place xs (suc zero) g = refl
    of-place xs (suc (suc zero)) g = refl
    of-place xs (suc (suc (suc zero))) g = refl
    of-place xs (suc (suc (suc (suc zero)))) g = refl
    of-place xs (suc (suc (suc (suc (suc zero))))) g = refl
    of-place xs (suc (suc (suc (suc (suc (suc zero)))))) g = refl
    of-place xs (suc (suc (suc (suc (suc (suc (suc zero))))))) g = refl
    of-place xs (suc (suc (suc (suc (suc (suc (suc (suc zero)))))))) g = refl
    of-place xs (suc (suc (suc (suc (suc (suc (suc (suc (suc zero))))))))) g = refl
    of-place xs (suc (suc (suc (suc (suc (suc (suc (suc (suc (suc zero)))))))))) g = refl
    of-place xs (suc (suc (suc (suc (suc (suc (suc (suc (suc (suc (suc zero))))))))))) g = refl
    of-place xs (suc (suc (suc (suc (suc (suc (suc (suc (suc (suc (suc (suc zero)))))))))))) g = refl
    of-place xs (suc (suc (suc (suc (suc (suc (suc (suc (suc (suc (suc (suc (suc k))))))))))))) g = absurd (omega (arith, g))

    thirteen : (xs : List ℕ) → length xs ≡ 13 → cells xs ≡ xs
    thirteen xs e = ext_get_or 0 _ _ (sym e) (of-place xs)

    pub title-report : report_in (title_told h report figures r (Ok f)).report ≡ r
    unfolding report_in figures_in reported
    title-report =
        rw (
          titles-cell,
          total-cell 0 (omega arith),
          total-cell 1 (omega arith),
          total-cell 2 (omega arith),
          total-cell 3 (omega arith),
          total-cell 4 (omega arith),
          total-cell 5 (omega arith),
          total-cell 6 (omega arith),
          total-cell 7 (omega arith),
          total-cell 8 (omega arith),
          total-cell 9 (omega arith),
          total-cell 10 (omega arith),
          total-cell 11 (omega arith),
          total-cell 12 (omega arith),
        )
        (ap {B = Report} (λ (xs : List ℕ). record { titles = r.titles; totals = record { 0 = xs } }) (thirteen r.totals.0 totals))

    pub title-figures : (k : ℕ) → k < 13 → get_or (title_told h report figures r (Ok f)).figures k 0 ≡ get_or f.0 k 0
    unfolding reported
    title-figures k g =
        let e : 0 + k ≡ k = omega arith in
        ap (λ (j : ℕ). get_or (put_from figures 0 f.0) j 0) (sym e) ∙ put-at figures f.0 0 k (omega (arith, g, line)) (omega (arith, wide, line))
