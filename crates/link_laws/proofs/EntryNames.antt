-- The names of the inputs' own entries, by their bytes: an entry behind an accepted add of a name bears that name. Names never move, so the bytes are those at the end.
-- Assumes nothing.
use Rattle.std.specs.Prelude.{ℕ, ◌≡◌, refl, List, [], ◌∷◌, ◌++◌, eqb, ltb}
use Rattle.std.proofs.Common.{sym, ap, ◌∙◌, subst, arith, eqb-true, ltb-true, ltb-false}
use Rattle.cells.specs.Proof.Split.{by-test}
use Rattle.link.specs.Said.{Said, number_in}
use Rattle.interner_laws.specs.Good.{Chained, Issued, count, name, find}
use Rattle.interner_laws.proofs.Find.{found}
use Rattle.symbol_laws.specs.Held.{Inv}
use Rattle.interner_laws.proofs.Histories.{issued-stays}
use Rattle.symbol.specs.declared.Row.{Row}
use Rattle.upcoming_symbol.specs.Upcoming.{name_of}
use Rattle.symbol_laws.specs.History as History
use Rattle.symbol_laws.specs.History.{State, Source, Entry, store, only, rows, noted, issue, put}
use Rattle.symbol_laws.specs.DirectContents as Direct
use Rattle.symbol_laws.specs.DirectContents.{FromAdd}
use Rattle.merge_laws.specs.Steps.{Step, part, mark, others, step_next, log_steps}
use Rattle.merge_laws.specs.MergeSteps.{merge_steps}
use Rattle.merge_laws.specs.Marked.{Marked}
use Rattle.merge_laws.specs.Calls.{Linked, all_in}
use Rattle.load_laws.specs.LoadSteps.{load_steps}
use Rattle.link_laws.specs.Calls.{Call, intern, add, remove, add_group, merge, merge_file, load, collect, plain_collect, library_in, call_next, call_notes, run_calls, log_calls, file_steps, reads, add_list, list_adds}
use Rattle.link_laws.proofs.FileCall.{next-read}
use Rattle.link_laws.specs.Kept.{signatures}
use Rattle.link_laws.proofs.Kept.{calls-marked}
use Rattle.link_laws.proofs.NamesStay.{calls-stay}
use Rattle.link_laws.specs.Contents.{FromCall, FromCalls, here, later}
use Rattle.link_laws.specs.OwnEntries.{AllFrom}
use Rattle.link_laws.specs.EntryNames.{CallBears, Bears, AllBear}

-- ---- the words

-- ---- an entry's name

add-id : (gabi : _) (conversion : List ℕ) (empty : _) (r : Row) (u : _) → FromAdd gabi conversion empty r u → r.name ≡ name_of u
add-id gabi conversion empty r u (Direct.unknown name a b c d) = a.named
add-id gabi conversion empty r u (Direct.hidden name value a b c d e f) = a.named
add-id gabi conversion empty r u (Direct.external name visibility binding p a b c d) = a.named
add-id gabi conversion empty r u (Direct.elf e name file p a b c d) = a.named

module _ (b : List ℕ) (n : ℕ) (r : Row) (e : r.name.0 ≡ n) where
  -- in a later link t, where the id n stands for the bytes b
  call-bears : (k : Call) (s t : Linked) (met : List (List ℕ)) (p : FromCall k s met r) → ((x : List ℕ) → Issued (store (call_next k s).table) r.name.0 x → x ≡ b)
      → CallBears b n k s met r p
  call-bears (intern x) s t met p f = p
  call-bears (reads k) s t met p f = p
  call-bears (add conversion u) s t met p f = ap (λ (i : _). i.0) (sym (add-id _ conversion _ r u p)) ∙ e
  call-bears (add_list conversion adds ids) s t met p f = ap (λ (i : _). i.0) (sym (add-id _ conversion _ r p.symbol p.from)) ∙ e
  call-bears (remove id) s t met p f = p
  call-bears (add_group o work i) s t met p f = p
  call-bears (merge o work ids) s t met p f = record { found = p.bears.found; bytes = p.bears.bytes ∙ f _ p.named }
  call-bears (merge_file file cells work ids) s t met p f =
      let x = p.1.bytes in
      record {
        found = p.1.bears.found;
        bytes = p.1.bears.bytes ∙ f x (subst (λ (u : Linked). Issued (store u.table) r.name.0 x) (sym (next-read file cells work ids s p.0)) p.1.named);
      }
  call-bears (load o marks) s t met p f = (p.found, f _ p.named)
  call-bears (collect marks entry work) s t met p f = p
  call-bears (plain_collect marks entry work) s t met p f = p

  pub bears : (ks : List Call) (s : Linked) (met : List (List ℕ)) → Marked s.table met → Issued (store (run_calls ks s).table) n b → (p : FromCalls r ks s met)
      → Bears b n r ks s met p
  bears [] s met m i p = elim p [ ]
  bears (k ∷ ks) s met m i (here p) =
      call-bears k s s met p
      (λ x q.
      let u = issued-stays count name (store (call_next k s).table) (store (run_calls ks (call_next k s)).table) r.name.0 x
      (calls-stay ks (call_next k s) (met ++ signatures (k ∷ []) s) (calls-marked (k ∷ []) s met m)) q in
      sym u.right ∙ ap (name (store (run_calls ks (call_next k s)).table)) e ∙ i.right)
  bears (k ∷ ks) s met m i (later p) = bears ks (call_next k s) (met ++ signatures (k ∷ []) s) (calls-marked (k ∷ []) s met m) i p

-- ---- the log has each row under its name

abbrev Own : List Entry → Type 0
Own [] = Unit {0}
Own (x ∷ xs) = (x.row.name.0 ≡ x.name) × Own xs

own-append : (xs ys : List Entry) → Own xs → Own ys → Own (xs ++ ys)
own-append [] ys p q = q
own-append (x ∷ xs) ys p q = (p.0, own-append xs ys p.1 q)

noted-own : (r : Row) (from : Source) (a : Said) → Own (noted r from a)
unfolding noted
noted-own r from a = by-test (eqb r.scope 0) (λ v. rw v tt) (λ v. by-test (eqb (number_in a) 0) (λ z. rw (v, z) (refl, tt)) (λ z. rw (v, z) tt))

steps-own : (ks : List Step) (s : State) → Own (log_steps ks s)
steps-own [] s = tt
steps-own (part (issue x) ∷ ks) s = steps-own ks (step_next (part (issue x)) s)
steps-own (part (put r from) ∷ ks) s = own-append (noted r from _) _ (noted-own r from _) (steps-own ks (step_next (part (put r from)) s))
steps-own (mark n ∷ ks) s = steps-own ks (step_next (mark n) s)
steps-own (others x l ∷ ks) s = steps-own ks (step_next (others x l) s)

direct-own : (ks : List History.Call) (t : State) → Own (History.log_calls ks t)
direct-own [] t = tt
direct-own (History.add conversion u ∷ ks) t = own-append (noted _ _ _) _ (noted-own _ _ _) (direct-own ks (History.call_next (History.add conversion u) t))
direct-own (History.intern x ∷ ks) t = direct-own ks (History.call_next (History.intern x) t)
direct-own (History.remove id ∷ ks) t = direct-own ks (History.call_next (History.remove id) t)

call-own : (k : Call) (s : Linked) → Own (call_notes k s)
call-own (intern x) s = tt
call-own (reads k) s = tt
call-own (add conversion u) s = noted-own _ _ _
call-own (add_list conversion adds ids) s = direct-own (list_adds conversion adds ids s) s.table
call-own (remove id) s = tt
call-own (add_group o work i) s = tt
call-own (merge o work ids) s = steps-own (merge_steps o (all_in s work ids)) s.table
call-own (merge_file file cells work ids) s = steps-own (file_steps file cells work ids s) s.table
call-own (load o marks) s = steps-own (load_steps o (library_in s marks)) s.table
call-own (collect marks entry work) s = tt
call-own (plain_collect marks entry work) s = tt

calls-own : (ks : List Call) (s : Linked) → Own (log_calls ks s)
calls-own [] s = tt
calls-own (k ∷ ks) s = own-append (call_notes k s) (log_calls ks (call_next k s)) (call-own k s) (calls-own ks (call_next k s))

-- those of one name
abbrev Under : ℕ → List Entry → Type 0
Under n [] = Unit {0}
Under n (x ∷ xs) = (x.row.name.0 ≡ n) × Under n xs

only_under : (n : ℕ) (l : List Entry) → Own l → Under n (only n l)
only_under n [] p = tt
only_under n (x ∷ l) p = by-test (eqb x.name n) (λ t. rw t (p.0 ∙ eqb-true _ _ t, only_under n l p.1)) (λ t. rw t (only_under n l p.1))

-- ---- each of a name's accepted adds is by an entry that bears the name

module _ (b : List ℕ) (n : ℕ) (ks : List Call) (s : Linked) (met : List (List ℕ)) where
  all-bear : (xs : List Entry) → Under n xs → Marked s.table met → Issued (store (run_calls ks s).table) n b → (p : AllFrom ks s met (rows xs)) → AllBear b n ks s met xs p
  all-bear [] u m i p = tt
  all-bear (x ∷ xs) u m i p = (bears b n x.row u.0 ks s met m i p.0, all-bear xs u.1 m i p.1)

  pub adds-bear : Marked s.table met → Issued (store (run_calls ks s).table) n b → (xs : List Entry) → only n (log_calls ks s) ≡ xs → (p : AllFrom ks s met (rows xs)) → AllBear b n ks s met xs p
  adds-bear m i xs e p = all-bear xs (subst (Under n) e (only_under n (log_calls ks s) (calls-own ks s))) m i p

-- a name that has accepted adds is issued
pub issued-by : (s : State) (past : List Entry) → Inv s past → Chained (store s) → (b : List ℕ) (x : Entry) (xs : List Entry) → only (find (store s) b) past ≡ x ∷ xs
    → Issued (store s) (find (store s) b) b
issued-by s past inv c b x xs e =
    by-test (ltb (find (store s) b) s.link.names) (λ t. let h = ltb-true _ _ t in record { low = h; right = (found (store s) b c).hit h })
    (λ t. absurd (some (sym e ∙ inv.unissued (find (store s) b) (ltb-false _ _ t))))
  where
    some : x ∷ xs ≡ [] → ⊥
    some q = let z : ◌≡◌ {A = ℕ} 0 1 = cc in omega arith
