-- Which names tie a member in the gABI's profile, by the accepted adds of the name: those that the gABI wants from an archive.
-- Assumes nothing.
use Rattle.std.specs.Prelude.{ℕ, ◌≡◌, refl, Bool, false, ◌&&◌, ◌||◌, List, [], ◌∷◌, eqb}
use Rattle.std.proofs.Common.{sym, ◌∙◌, eqb-true}
use Rattle.std.proofs.Math.Path.{ap, subst}
use Rattle.std.proofs.Math.Bool.{true, not}
use Rattle.std.proofs.lemmas.Bool.{false≢true}
use Rattle.cells.specs.Proof.Split.{by-test}
use Rattle.gabi.specs.SymbolTable.{Sym}
use Rattle.gabi.specs.Resolution as Resolution
use Rattle.gabi.specs.Resolution.{has}
use Rattle.gabi.specs.Archive.{is_unresolved, wants}
use Rattle.symbol.specs.declared.Row.{Row}
use Rattle.symbol.specs.declared.SymbolVisibility.{SymbolVisibility}
use Rattle.symbol.specs.declared.SymbolVisibility.TheVariants.{Local, Global}
use Rattle.symbol.specs.Codes.{visibility_at}
use Rattle.symbol.specs.Hidden.{hide_code, hide_if}
use Rattle.symbol_resolution.specs.Decide.{weak_of}
use Rattle.interner_laws.specs.Good.{find}
use Rattle.archive_walk.specs.Look.{is_undefined, name_holder, undefined_name, tied_name}
use Rattle.archive_laws.specs.Profiles.{is_strong, strong_name}
use Rattle.archive_laws.proofs.Profiles.{tied-gabi}
use Rattle.symbol_laws.proofs.Standing.{joined-stays}
use Rattle.symbol_laws.specs.Rank.{weak, first_by_rank, joined_in}
use Rattle.symbol_laws.specs.Hidden.{some_hidden}
use Rattle.symbol_laws.specs.Standing.{hidden_by}
use Rattle.symbol.specs.Row.{row_at}
use Rattle.symbol_laws.specs.History.{State, store, Entry, only, rows}
use Rattle.symbol_laws.specs.Held.{Inv}
use Rattle.symbol_laws.specs.Demand.{Resolved}
use Rattle.symbol_laws.proofs.Demand.{content-apart, resolved, holder_known}
use Rattle.symbol_laws.specs.Agreement.{Agrees}
use Rattle.symbol_laws.proofs.Agreement.{accepted}
use Rattle.symbol_laws.specs.Gabi.{AllMean, syms_of}
use Rattle.symbol_laws.proofs.Gabi.{all-mean-own}
use Rattle.symbol_laws.specs.DirectContents as Direct
use Rattle.symbol_laws.specs.DirectContents.{FromAdd}
use Rattle.upcoming_symbol.specs.declared.UpcomingSymbol.{UpcomingSymbol}
use Rattle.merge_laws.specs.Calls.{Linked}
use Rattle.extraction_laws.proofs.Wanted.{row-strong}
use Rattle.link_laws.specs.Calls.{Call, intern, add, remove, add_group, merge, merge_file, load, collect, plain_collect, view_in, call_next, reads, add_list}
use Rattle.link_laws.specs.Contents.{FromCall, FromCalls, here, later}
use Rattle.link_laws.specs.Undefined.{is_undefined_row, symbols_under}
use Rattle.link_laws.proofs.Undefined.{undefined-none}

-- ---- the row of a name is global or weak, never local

abbrev pub is_of_name : SymbolVisibility → Bool
is_of_name Local = false
is_of_name (Global weak hidden) = true

abbrev pub OfName : Row → Type 0
OfName r = is_of_name (visibility_at r.scope) ≡ true

add-of-name : {gabi : Bool} {conversion : List ℕ} {empty : Bool} (r : Row) (u : UpcomingSymbol) → FromAdd gabi conversion empty r u → OfName r
add-of-name r u (Direct.unknown name a b c d) = ap is_of_name c
add-of-name r u (Direct.hidden name value a b c d e f) = ap is_of_name c
add-of-name r u (Direct.external name visibility binding p a b c d) = ap is_of_name c
add-of-name r u (Direct.elf e name file p a b c d) = ap is_of_name c

call-of-name : (k : Call) (s : Linked) (met : List (List ℕ)) (r : Row) → FromCall k s met r → OfName r
call-of-name (intern x) s met r p = absurd p
call-of-name (reads k) s met r p = absurd p
call-of-name (add conversion u) s met r p = add-of-name r u p
call-of-name (add_list conversion adds ids) s met r p = add-of-name r p.symbol p.from
call-of-name (remove id) s met r p = absurd p
call-of-name (add_group o work n) s met r p = absurd p
call-of-name (merge o work ids) s met r p = ap is_of_name p.content.shown
call-of-name (merge_file file cells work ids) s met r p = ap is_of_name p.1.content.shown
call-of-name (load o marks) s met r p = ap is_of_name p.shown
call-of-name (collect marks entry work) s met r p = absurd p
call-of-name (plain_collect marks entry work) s met r p = absurd p

pub calls-of-name : (r : Row) (ks : List Call) (s : Linked) (met : List (List ℕ)) → FromCalls r ks s met → OfName r
calls-of-name r [] s met p = elim p [ ]
calls-of-name r (k ∷ ks) s met (here p) = call-of-name k s met r p
calls-of-name r (k ∷ ks) s met (later p) = calls-of-name r ks (call_next k s) _ p

-- ---- strong, by the row's code and by its add's

abbrev strong_code : ℕ → Bool
strong_code v = eqb v 1 || eqb v 2

code-strong : (v : ℕ) → is_of_name (visibility_at v) ≡ true → strong_code v ≡ not (weak_of v)
unfolding visibility_at weak_of
code-strong v e =
    by-test (eqb v 1) (λ a. let q : v ≡ 1 = eqb-true _ _ a in rw q)
    (λ a.
    by-test (eqb v 2) (λ b. let q : v ≡ 2 = eqb-true _ _ b in rw q)
    (λ b.
    by-test (eqb v 3) (λ c. rw (a, b, c))
    (λ c. by-test (eqb v 4) (λ d. rw (a, b, c, d)) (λ d. absurd (false≢true (rw (a, b, c, d) at e))))))

hide-strong : (v : ℕ) → strong_code (hide_code v) ≡ not (weak_of v)
unfolding weak_of hide_code
hide-strong v = by-test (eqb v 3) (λ a. rw a) (λ a. by-test (eqb v 4) (λ b. rw (a, b)) (λ b. rw (a, b)))

-- becoming hidden a row stays strong
hidden-strong : (gabi : Bool) (l : List Row) (r : Row) → OfName r → strong_code (hidden_by gabi l r).scope ≡ not (weak r)
unfolding hide_if
hidden-strong false l r o = code-strong r.scope o
hidden-strong true l r o = by-test (some_hidden l) (λ h. rw h (hide-strong r.scope)) (λ h. rw h (code-strong r.scope o))

-- ---- the names that tie

nothing-wanted : wants [] ≡ false
unfolding wants is_unresolved Resolution.resolve has Resolution.count
nothing-wanted = refl

module _ (s : State) (past : List Entry) (inv : Inv s past) (gabi : s.link.gabi ≡ true) (b : List ℕ) where
  abbrev n : ℕ
  n = find (store s) b

  -- strong: the name's row isn't weak
  strong-name : (x : Entry) (xs : List Entry) → only n past ≡ x ∷ xs → OfName (first_by_rank true x.row (rows xs)) → strong_name (view_in s) b ≡ not (weak (row_at s.symbols x.id))
  unfolding strong_name name_holder
  strong-name x xs e o =
      let r : Row = first_by_rank true x.row (rows xs) in
      let is : Resolved true s n x xs = subst (λ (g : Bool). Resolved g s n x xs) gabi (resolved s past inv n x xs e) in
      ap (is_strong s.symbols) (holder_known s past inv n x xs e)
      ∙ ap (λ (q : Row). strong_code q.scope) is.terms
      ∙ hidden-strong true (rows (x ∷ xs)) (joined_in (rows (x ∷ xs)) r) (joined-stays Bool (λ q. is_of_name (visibility_at q.scope)) (λ r s a. refl) (rows (x ∷ xs)) r ∙ o)
      ∙ ap not (sym (content-apart s n x xs true is).weakness)

  pub ties-wanted : (x : Entry) (xs : List Entry) → only n past ≡ x ∷ xs → OfName (first_by_rank true x.row (rows xs)) → (g : Sym) (gs : List Sym) → AllMean (rows (x ∷ xs)) (g ∷ gs)
      → tied_name (view_in s) b ≡ wants (g ∷ gs)
  unfolding wants undefined_name name_holder
  ties-wanted x xs e o g gs m =
      let row : Row = row_at s.symbols x.id in
      tied-gabi (view_in s) b gabi
      ∙ ap (λ (u : Bool). u && strong_name (view_in s) b) (ap (is_undefined s.symbols) (holder_known s past inv n x xs e))
      ∙ ap (λ (w : Bool). is_undefined_row row && w) (strong-name x xs e o)
      ∙ row-strong x.row (rows xs) g gs row (Resolution.resolve (g ∷ gs))
      (subst (λ (p : Bool). Agrees p x.row (rows xs) g gs row (Resolution.resolve (g ∷ gs))) gabi (accepted s past inv n x xs e g gs m))

  pub ties-is : ((x : Entry) (xs : List Entry) → only n past ≡ x ∷ xs → OfName (first_by_rank true x.row (rows xs))) → tied_name (view_in s) b ≡ wants (symbols_under s past b)
  ties-is o = by (only n past) refl
    where
      by : (l : List Entry) → only n past ≡ l → tied_name (view_in s) b ≡ wants (syms_of (rows l))
      by [] e = tied-gabi (view_in s) b gabi ∙ rw (undefined-none s past inv b e) (sym nothing-wanted)
      by (x ∷ xs) e = ties-wanted x xs e (o x xs e) _ _ (all-mean-own (rows (x ∷ xs)))
