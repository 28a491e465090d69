-- Whence the row of a name is: the entry of an object, of a library, or of a direct add, with what that entry says of type, section, value, weak, hidden and file.
-- Assumes nothing.
use Rattle.std.specs.Prelude.{ℕ, ◌≡◌, refl, List, [], ◌∷◌, ◌++◌, eqb, None}
use Rattle.std.proofs.Common.{sym, ap, ◌∙◌, subst, eqb-true}
use Rattle.std.proofs.lemmas.Bool.{eqb-false}
use Rattle.cells.specs.Proof.Split.{by-test}
use Rattle.link.specs.Said.{number_in}
use Rattle.symbol.specs.declared.Row.{Row}
use Rattle.upcoming_symbol.specs.declared.UpcomingSymbol.{UpcomingSymbol}
use Rattle.upcoming_symbol.specs.Upcoming.{name_of}
use Rattle.symbols.specs.Calls as Symbols
use Rattle.symbols.specs.Add.{add_row_of, empty_at, add_of}
use Rattle.symbol_laws.specs.Rank as Rank
use Rattle.symbol_laws.specs.Rank.{first_by_rank}
use Rattle.symbol_laws.specs.History.{Entry, table, only, rows, noted, upcoming, State}
use Rattle.symbol_laws.specs.History as History
use Rattle.symbol_laws.specs.Held.{Inv}
use Rattle.symbol_laws.proofs.Demand.{resolved}
use Rattle.symbol_laws.proofs.Refused.{add-accepted}
use Rattle.symbol_laws.specs.DirectContents.{FromAdd}
use Rattle.symbol_laws.proofs.DirectContents.{from-add}
use Rattle.merge_laws.specs.MergeSteps.{merge_steps}
use Rattle.merge_laws.proofs.Whole.{merge-makes}
use Rattle.merge_laws.proofs.Kept.{log-rows}
use Rattle.merge_laws.specs.Marked.{Marked}
use Rattle.merge_laws.specs.LogContents.{FromSymbol}
use Rattle.merge_laws.proofs.LogContents.{merge-logged, all_append}
use Rattle.merge_laws.specs.Calls.{Linked, all_in, linked}
use Rattle.load_laws.specs.LoadSteps.{load_steps}
use Rattle.load_laws.proofs.Whole.{load-makes}
use Rattle.load_laws.specs.LibraryContents.{FromLibrary}
use Rattle.load_laws.proofs.LibraryContents.{load-logged}
use Rattle.link_laws.specs.Calls.{Call, intern, add, remove, add_group, merge, merge_file, load, collect, plain_collect, library_in, call_left, call_next, call_notes, run_calls, log_calls, is_read, reads, add_list, adds_up_to}
use Rattle.merge_stages.specs.Stages as Stages
use Rattle.elf_laws.specs.Object as ElfFile
use Rattle.link_laws.proofs.FileCall.{notes-read, notes-unread}
use Rattle.link_laws.specs.Kept.{signatures}
use Rattle.link_laws.proofs.Kept.{calls-marked}
use Rattle.link_laws.proofs.ListCall.{listed-adds}
use Rattle.add_list.specs.AddList.{items_of}
use Rattle.link_laws.specs.Contents.{FromList, FromCall, FromCalls, here, later}

-- ---- the words

-- ---- lists

rows_append : (a b : List Entry) → rows (a ++ b) ≡ rows a ++ rows b
rows_append [] b = refl
rows_append (x ∷ a) b = ap (◌∷◌ x.row) (rows_append a b)

all_map : (P Q : Row → Type 0) → ((x : Row) → P x → Q x) → (l : List Row) → Rank.All P l → Rank.All Q l
all_map P Q f [] p = tt
all_map P Q f (x ∷ l) p = (f x p.0, all_map P Q f l p.1)

all-only : (P : Row → Type 0) (n : ℕ) (l : List Entry) → Rank.All P (rows l) → Rank.All P (rows (only n l))
all-only P n [] p = tt
all-only P n (x ∷ l) p = by-test (eqb x.name n) (λ t. rw t (p.0, all-only P n l p.1)) (λ t. rw t (all-only P n l p.1))

all-at : (P : Row → Type 0) (a : List Row) (r : Row) (b : List Row) → Rank.All P (a ++ r ∷ b) → P r
all-at P [] r b p = p.0
all-at P (x ∷ a) r b p = all-at P a r b p.1

-- ---- one call

add-logged : (conversion : List ℕ) (u : UpcomingSymbol) (s : Linked) (x : Symbols.Left) → call_left (add conversion u) s ≡ x
    → Rank.All (λ r. FromAdd s.table.link.gabi conversion (empty_at s.table.names (name_of u)) r u) (rows (noted (upcoming s.table conversion u) History.direct x.said))
unfolding noted
add-logged conversion u s x e =
    let r : Row = upcoming s.table conversion u in
    by-test (eqb r.scope 0) (λ a. rw a tt)
    (λ a.
    by-test (eqb (number_in x.said) 0)
    (λ b.
    let z : number_in (call_left (add conversion u) s).said ≡ 0 = ap (λ (y : Symbols.Left). number_in y.said) e ∙ eqb-true _ _ b in
    let w : number_in (add_row_of (table s.table) r None).said ≡ 0 = ap (λ (y : Symbols.Left). number_in y.said) (sym (add-accepted (table s.table) conversion u z)) ∙ z in
    rw (a, b) (from-add (table s.table) s.table.link.gabi conversion (empty_at s.table.names (name_of u)) u w (eqb-false _ _ a), tt))
    (λ b. rw (a, b) tt))

adds-logged : (conversion : List ℕ) (us : List UpcomingSymbol) (t : State) → Rank.All (FromList conversion us t) (rows (History.log_calls (adds_up_to conversion us t) t))
adds-logged conversion [] t = tt
adds-logged conversion (u ∷ us) t =
    let on : State = History.call_next (History.add conversion u) t in
    let notes : List Entry = History.call_notes (History.add conversion u) t in
    let rest : List Entry = History.log_calls (adds_up_to conversion us on) on in
    by-test (eqb (History.call_number (History.add conversion u) t) 0)
    (λ a.
    rw a
    (subst (Rank.All (FromList conversion (u ∷ us) t)) (sym (rows_append notes rest))
    (all_append (FromList conversion (u ∷ us) t) (rows notes) (rows rest)
    (all_map (λ r. FromAdd t.link.gabi conversion (empty_at t.names (name_of u)) r u) (FromList conversion (u ∷ us) t) (λ r p. first-of r p) (rows notes)
    (add-logged conversion u (linked t [] []) (add_of (table t) conversion u) refl))
    (all_map (FromList conversion us on) (FromList conversion (u ∷ us) t) (λ r p. later_of r p) (rows rest) (adds-logged conversion us on)))))
    (λ a. rw a tt)
  where
    first-of : (r : Row) → FromAdd t.link.gabi conversion (empty_at t.names (name_of u)) r u → FromList conversion (u ∷ us) t r
    first-of r p = record { before = []; symbol = u; after = us; split = refl; state = t; reached = refl; from = p }

    later_of : (r : Row) → FromList conversion us (History.call_next (History.add conversion u) t) r → FromList conversion (u ∷ us) t r
    later_of r p =
        record {
          before = u ∷ p.before;
          symbol = p.symbol;
          after = p.after;
          split = ap (◌∷◌ u) p.split;
          state = p.state;
          reached = p.reached;
          from = p.from;
        }

list-logged : (conversion adds ids : List ℕ) (s : Linked)
    → Rank.All (FromList conversion (items_of adds) s.table) (rows (call_notes (add_list conversion adds ids) s))
list-logged conversion adds ids s =
    listed-adds (λ (ks : List History.Call). Rank.All (FromList conversion (items_of adds) s.table) (rows (History.log_calls ks s.table))) conversion adds ids s tt
    (adds-logged conversion (items_of adds) s.table)

object-logged : (o : Stages.Object) (work ids : List ℕ) (s : Linked) (met : List (List ℕ)) → Marked s.table met
    → Rank.All (FromSymbol o (all_in s work ids) met) (rows (call_notes (merge o work ids) s))
object-logged o work ids s met m =
    subst (Rank.All (FromSymbol o (all_in s work ids) met))
    (sym (log-rows (merge_steps o (all_in s work ids)) s.table (merge-makes o (all_in s work ids)).accepted)) (merge-logged o (all_in s work ids) met m)

call-logged : (k : Call) (s : Linked) (met : List (List ℕ)) → Marked s.table met → Rank.All (FromCall k s met) (rows (call_notes k s))
call-logged (intern x) s met m = tt
call-logged (reads k) s met m = tt
call-logged (add conversion u) s met m = add-logged conversion u s (call_left (add conversion u) s) refl
call-logged (add_list conversion adds ids) s met m = list-logged conversion adds ids s
call-logged (remove id) s met m = tt
call-logged (add_group o work n) s met m = tt
call-logged (merge o work ids) s met m = object-logged o work ids s met m
call-logged (merge_file file cells work ids) s met m =
    by-test (is_read file cells s)
    (λ t.
    subst (λ (l : List Entry). Rank.All (FromCall (merge_file file cells work ids) s met) (rows l)) (sym (notes-read file cells work ids s t))
    (all_map (FromSymbol (ElfFile.rows_of file) (all_in s work ids) met) (FromCall (merge_file file cells work ids) s met) (λ r p. (t, p)) (rows (call_notes (merge (ElfFile.rows_of file) work ids) s))
    (object-logged (ElfFile.rows_of file) work ids s met m)))
    (λ t. subst (λ (l : List Entry). Rank.All (FromCall (merge_file file cells work ids) s met) (rows l)) (sym (notes-unread file cells work ids s t)) tt)
call-logged (load o marks) s met m =
    subst (Rank.All (FromLibrary o (library_in s marks)))
    (sym (log-rows (load_steps o (library_in s marks)) s.table (load-makes o (library_in s marks)).accepted)) (load-logged o (library_in s marks) met m)
call-logged (collect marks entry work) s met m = tt
call-logged (plain_collect marks entry work) s met m = tt

-- ---- any calls

pub calls-logged : (ks : List Call) (s : Linked) (met : List (List ℕ)) → Marked s.table met → Rank.All (λ r. FromCalls r ks s met) (rows (log_calls ks s))
calls-logged [] s met m = tt
calls-logged (k ∷ ks) s met m =
    subst (Rank.All (λ r. FromCalls r (k ∷ ks) s met)) (sym (rows_append (call_notes k s) (log_calls ks (call_next k s))))
    (all_append (λ r. FromCalls r (k ∷ ks) s met) (rows (call_notes k s)) (rows (log_calls ks (call_next k s)))
    (all_map (FromCall k s met) (λ r. FromCalls r (k ∷ ks) s met) (λ r p. here p) (rows (call_notes k s)) (call-logged k s met m))
    (all_map (λ r. FromCalls r ks (call_next k s) (met ++ signatures (k ∷ []) s)) (λ r. FromCalls r (k ∷ ks) s met) (λ r p. later p) (rows (log_calls ks (call_next k s)))
    (calls-logged ks (call_next k s) (met ++ signatures (k ∷ []) s) (calls-marked (k ∷ []) s met m))))

-- the content of a name is that of one of its accepted adds
pub held-from : (ks : List Call) (s : Linked) (met : List (List ℕ)) → Marked s.table met → Inv (run_calls ks s).table (log_calls ks s)
    → (n : ℕ) (x : Entry) (xs : List Entry) → only n (log_calls ks s) ≡ x ∷ xs → FromCalls (first_by_rank (run_calls ks s).table.link.gabi x.row (rows xs)) ks s met
held-from ks s met m inv n x xs e =
    let h = (resolved (run_calls ks s).table (log_calls ks s) inv n x xs e).content in
    let all : Rank.All (λ r. FromCalls r ks s met) (rows (x ∷ xs)) = subst (λ (l : List Entry). Rank.All (λ r. FromCalls r ks s met) (rows l)) e (all-only (λ r. FromCalls r ks s met) n (log_calls ks s) (calls-logged ks s met m)) in
    all-at (λ r. FromCalls r ks s met) h.before _ h.after (subst (Rank.All (λ r. FromCalls r ks s met)) h.place all)

-- each of a name's accepted adds
pub adds-from : (ks : List Call) (s : Linked) (met : List (List ℕ)) → Marked s.table met → (n : ℕ) → Rank.All (λ r. FromCalls r ks s met) (rows (only n (log_calls ks s)))
adds-from ks s met m n = all-only (λ r. FromCalls r ks s met) n (log_calls ks s) (calls-logged ks s met m)
