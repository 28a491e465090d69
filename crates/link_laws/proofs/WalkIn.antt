-- A walk within a history that removes nothing: none of its calls is refused on account of the link, and it ends.
-- Assumes nothing.
use Rattle.std.specs.Prelude.{ℕ, suc, ◌+◌, ◌<◌, ◌≡◌, refl, true, false, List, [], ◌∷◌, ◌++◌, get_or, length}
use Rattle.std.proofs.Common.{arith, sym, ap, subst, ◌∙◌}
use Rattle.archive_index.specs.Archives.{Archives, index_at, count_at, entries_in, name_in, key_in, member}
use Rattle.archive_index.specs.Index.{offset_of, name_of}
use Rattle.archive_walk.specs.Look.{Table, tied_name}
use Rattle.archive_walk.specs.Walk.{begun_number, start_of}
use Rattle.archive_laws.specs.Rounds.{among, members, Offered}
use Rattle.archive_laws.specs.Runs.{Run, step_run, history, start_run}
use Rattle.archive_laws.specs.Walked.{Walked}
use Rattle.archive_laws.proofs.Terms.{walked, every-member}
use Rattle.archive_laws.specs.PassList.{Over, offered, without, first_seen, tied_members}
use Rattle.archive_laws.proofs.PassList.{pass-offers}
use Rattle.symbol_laws.specs.History.{Entry}
use Rattle.merge_laws.specs.Calls.{Linked}
use Rattle.link_laws.specs.Calls.{Call, archive_next, view_in, call_next, call_number, run_calls, log_calls, RemovesNothing}
use Rattle.link_laws.specs.Kept.{signatures, Reached}
use Rattle.link_laws.proofs.Kept.{reached-within, reached-on}
use Rattle.link_laws.specs.Walks.{next_in, with_walk, walk_after, tables_at, joined}
use Rattle.link_laws.proofs.Walks.{next-is, walk_is}
use Rattle.link_laws.proofs.NeverRemoved.{Whole, table-whole, next-accepted, AllWhole, walk_ends}
use Rattle.link_laws.specs.WalkIn.{run_before, link_then, run_then, run_after}

quiet-front : (ks ls : List Call) (s : Linked) → RemovesNothing (ks ++ ls) s → RemovesNothing ks s
quiet-front [] ls s q = tt
quiet-front (k ∷ ks) ls s q = (q.0, quiet-front ks ls (call_next k s) q.1)

quiet-back : (ks ls : List Call) (s : Linked) → RemovesNothing (ks ++ ls) s → RemovesNothing ls (run_calls ks s)
quiet-back [] ls s q = q
quiet-back (k ∷ ks) ls s q = quiet-back ks ls (call_next k s) q.1

reached-whole : (s : Linked) (past : List Entry) (met : List (List ℕ)) → Reached s past met → Whole (view_in s.table)
reached-whole s past met r = table-whole s.table past r.held met r.marked (reached-within s past met r)

module _ (archives : Archives) where
  tables-whole : (kss : List (List Call)) (r : Run) (s : Linked) (past : List Entry) (met : List (List ℕ)) → RemovesNothing (with_walk archives kss r s) s → Reached s past met
      → AllWhole (tables_at kss s)
  tables-whole [] r s past met q g = tt
  tables-whole (ks ∷ kss) r s past met q g =
      let t : Linked = run_calls ks s in
      let rest : List Call = archive_next archives r.cells r.walk ∷ with_walk archives kss (next_in archives r t) t in
      let h = reached-on ks s past met (quiet-front ks rest s q) g in
      (reached-whole t _ _ h, tables-whole kss (next_in archives r t) t (past ++ log_calls ks s) (met ++ signatures ks s) (quiet-back ks rest s q).1 h)

  tables-long : (kss : List (List Call)) (s : Linked) → length (tables_at kss s) ≡ length kss
  tables-long [] s = refl
  tables-long (ks ∷ kss) s = ap suc (tables-long kss (run_calls ks s))

  module _ (key : ℕ) (cells : List ℕ) (begun : begun_number (start_of key archives cells).started.begun ≡ 0) (s : Linked) where
    -- the walk that a history makes is the walk over the tables at its calls
    pub walked-in : (kss : List (List Call)) → Walked archives (tables_at kss s) (walk_after archives kss (start_run key archives cells) s)
    walked-in kss =
        subst (Walked archives (tables_at kss s)) (sym (walk_is archives kss (start_run key archives cells) s)) (walked key archives cells begun (tables_at kss s))

    -- one pass of it: the call behind the parts kss and the calls ks makes it, those behind the parts lss make none, and then it is over
    module _ (kss : List (List Call)) (ks : List Call) (lss : List (List Call)) where
      same_after : run_after archives key cells begun s kss ks lss ≡ history archives (tables_at lss (link_then archives key cells begun s kss ks lss)) (step_run archives (view_in (link_then archives key cells begun s kss ks lss).table) (history archives (tables_at kss s) (start_run key archives cells)))
      same_after =
          walk_is archives lss (run_then archives key cells begun s kss ks lss) (link_then archives key cells begun s kss ks lss)
          ∙ ap (history archives (tables_at lss (link_then archives key cells begun s kss ks lss)))
          (next-is archives (run_before archives key cells begun s kss ks lss) (link_then archives key cells begun s kss ks lss) ∙ ap (step_run archives (view_in (link_then archives key cells begun s kss ks lss).table)) (walk_is archives kss (start_run key archives cells) s))

      same_then : run_then archives key cells begun s kss ks lss ≡ step_run archives (view_in (link_then archives key cells begun s kss ks lss).table) (history archives (tables_at kss s) (start_run key archives cells))
      same_then = next-is archives (run_before archives key cells begun s kss ks lss) (link_then archives key cells begun s kss ks lss) ∙ ap (step_run archives (view_in (link_then archives key cells begun s kss ks lss).table)) (walk_is archives kss (start_run key archives cells) s)

      pub pass-in : (run_then archives key cells begun s kss ks lss).walk.passes ≡ (run_before archives key cells begun s kss ks lss).walk.passes + 1 → (run_after archives key cells begun s kss ks lss).walk.passes ≡ (run_then archives key cells begun s kss ks lss).walk.passes → Over key archives cells begun (run_after archives key cells begun s kss ks lss)
          → offered archives (run_after archives key cells begun s kss ks lss) ≡ offered archives (run_before archives key cells begun s kss ks lss) ++ without (offered archives (run_before archives key cells begun s kss ks lss)) (first_seen (tied_members archives (view_in (link_then archives key cells begun s kss ks lss).table)))
      pass-in p q o =
          let t : Table = view_in (link_then archives key cells begun s kss ks lss).table in
          let ts : List Table = tables_at kss s in
          let us : List Table = tables_at lss (link_then archives key cells begun s kss ks lss) in
          let b : run_before archives key cells begun s kss ks lss ≡ history archives ts (start_run key archives cells) = walk_is archives kss (start_run key archives cells) s in
          subst (λ (r : Run). offered archives r ≡ offered archives (run_before archives key cells begun s kss ks lss) ++ without (offered archives (run_before archives key cells begun s kss ks lss)) (first_seen (tied_members archives t))) (sym same_after)
          (subst
          (λ (r : Run). offered archives (history archives us (step_run archives t (history archives ts (start_run key archives cells)))) ≡ offered archives r ++ without (offered archives r) (first_seen (tied_members archives t)))
          (sym b)
          (pass-offers key archives cells begun ts t us
          (ap (λ (r : Run). r.walk.passes) (sym same_then) ∙ p ∙ ap (λ (r : Run). r.walk.passes + 1) b)
          (ap (λ (r : Run). r.walk.passes) (sym same_after) ∙ q ∙ ap (λ (r : Run). r.walk.passes) same_then)
          (subst (Over key archives cells begun) same_after o)))

      -- the call that ends the walk: no entry whose name ties there is of a member that wasn't offered
      pub last-in : (run_before archives key cells begun s kss ks lss).walk.done ≡ false → (run_then archives key cells begun s kss ks lss).walk.done ≡ true → (k : ℕ) → k < entries_in archives
          → tied_name (view_in (link_then archives key cells begun s kss ks lss).table) (name_in archives k) ≡ true → among archives k (run_then archives key cells begun s kss ks lss).offers ≡ true
      last-in d e k h u =
          let t : Table = view_in (link_then archives key cells begun s kss ks lss).table in
          let b : run_before archives key cells begun s kss ks lss ≡ history archives (tables_at kss s) (start_run key archives cells) = walk_is archives kss (start_run key archives cells) s in
          subst (λ (r : Run). among archives k r.offers ≡ true) (sym same_then)
          ((walked key archives cells begun (tables_at kss s)).last t (ap (λ (r : Run). r.walk.done) (sym b) ∙ d) (ap (λ (r : Run). r.walk.done) (sym same_then) ∙ e) k h u)

      -- the same of every index by its own entries, of bytes: a member of that archive at that offset was offered
      pub every-in : ((i : ℕ) → get_or archives.bytes i 0 < 256) → (run_before archives key cells begun s kss ks lss).walk.done ≡ false → (run_then archives key cells begun s kss ks lss).walk.done ≡ true
          → (j i : ℕ) → j < length archives.ends → i < count_at archives j
          → tied_name (view_in (link_then archives key cells begun s kss ks lss).table) (name_of (index_at archives j) (count_at archives j) i) ≡ true
          → Offered archives (member j (offset_of (index_at archives j) i)) (run_then archives key cells begun s kss ks lss).offers
      every-in bytes d e j i h g u =
          let t : Table = view_in (link_then archives key cells begun s kss ks lss).table in
          let b : run_before archives key cells begun s kss ks lss ≡ history archives (tables_at kss s) (start_run key archives cells) = walk_is archives kss (start_run key archives cells) s in
          subst (λ (r : Run). Offered archives (member j (offset_of (index_at archives j) i)) r.offers) (sym same_then)
          (every-member archives bytes (tables_at kss s) (history archives (tables_at kss s) (start_run key archives cells)) (walked key archives cells begun (tables_at kss s)) t
          (ap (λ (r : Run). r.walk.done) (sym b) ∙ d) (ap (λ (r : Run). r.walk.done) (sym same_then) ∙ e) j i h g u)

    module _ (past : List Entry) (met : List (List ℕ)) (g : Reached s past met) where
      -- a call over the link reached, whatever tables the walk's calls before were lent
      -- the link of a pass, where nothing was removed
      pub reached_then : (kss : List (List Call)) (ks : List Call) (lss : List (List Call)) → RemovesNothing (joined kss ++ ks) s
          → let p = past ++ log_calls (joined kss) s in
          let m = met ++ signatures (joined kss) s in
          let t = run_calls (joined kss) s in
          Reached (link_then archives key cells begun s kss ks lss) (p ++ log_calls ks t) (m ++ signatures ks t)
      reached_then kss ks lss q =
          reached-on ks (run_calls (joined kss) s) _ _ (quiet-back (joined kss) ks s q) (reached-on (joined kss) s past met (quiet-front (joined kss) ks s q) g)

      pub next-goes : (ts : List Table) → call_number (archive_next archives (history archives ts (start_run key archives cells)).cells (history archives ts (start_run key archives cells)).walk) s ≡ 0
      next-goes ts =
          let r : Run = history archives ts (start_run key archives cells) in
          next-accepted (view_in s.table) (reached-whole s past met g) archives r.cells r.walk (walked key archives cells begun ts).fits

      pub goes_in : (kss : List (List Call))
          → call_number (archive_next archives (walk_after archives kss (start_run key archives cells) s).cells (walk_after archives kss (start_run key archives cells) s).walk) s ≡ 0
      goes_in kss =
          subst (λ (r : Run). call_number (archive_next archives r.cells r.walk) s ≡ 0) (sym (walk_is archives kss (start_run key archives cells) s)) (next-goes (tables_at kss s))

      pub walk-done : (kss : List (List Call)) → RemovesNothing (with_walk archives kss (start_run key archives cells) s) s → members archives (entries_in archives) < length kss
          → (walk_after archives kss (start_run key archives cells) s).walk.done ≡ true
      walk-done kss q h =
          walk_ends archives (key_in archives) (name_in archives) (entries_in archives) (tables_at kss s) (walk_after archives kss (start_run key archives cells) s) (walked-in kss)
          (tables-whole kss (start_run key archives cells) s past met q g) (omega (arith, tables-long kss s))
