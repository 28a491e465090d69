-- Every arrangement of a list that meets the premises is accepted whole, and names with a strong definition end with the same content.
-- Assumes nothing.
use Rattle.std.specs.Prelude.{ℕ, ◌≤◌, ◌≡◌, refl, Bool, true, false, cond, List, [], ◌∷◌, length, Option, Contains, IsPermutation, count_by, Ok}
use Rattle.std.proofs.Common.{arith, sym, ap, ◌∙◌, subst, le-ltb}
use Rattle.std.proofs.Math.ListN.{length-append}
use Rattle.std.proofs.lemmas.List.Sorted.{All-permutation, Contains-permutation, length_permutation, list_any-IsPermutation, sum_by-IsPermutation}
use Rattle.cells.specs.Proof.Split.{by-test}
use Rattle.gabi.specs.SymbolTable.{is_local}
use Rattle.link.specs.declared.Interned.{Interned}
use Rattle.link.specs.Judge.{none}
use Rattle.link.specs.Said.{number_in}
use Rattle.symbol.specs.declared.Row.{Row}
use Rattle.symbol.specs.RowLaws.{symbol_of}
use Rattle.upcoming_symbol.specs.declared.ElfSymbol.{ElfSymbol}
use Rattle.upcoming_symbol.specs.declared.UpcomingSymbol.{UpcomingSymbol}
use Rattle.upcoming_symbol.specs.declared.UpcomingSymbol.TheVariants.{Elf}
use Rattle.symbol.specs.Hidden.{hide_if}
use Rattle.symbols.specs.Calls.{Left}
use Rattle.symbols.specs.New.{new_of}
use Rattle.add_list.specs.AddList.{list_left, adds_of, add_list_of}
use Rattle.symbols.specs.Add.{empty_at}
use Rattle.symbol_laws.specs.Gabi.{sym_of}
use Rattle.symbol_laws.specs.Rank.{first, first_by_rank, reference_of, common, weak_definition, strong_definition, joined_in}
use Rattle.symbol_laws.proofs.Standing.{joined-plain}
use Rattle.symbol_laws.specs.Standing.{hidden_by}
use Rattle.symbol_laws.specs.History.{State, table, put_of, upcoming, Entry, only, rows}
use Rattle.symbol_laws.proofs.Within.{lookup-row}
use Rattle.order_laws.proofs.Entries as Entries
use Rattle.order_laws.specs.Premises.{EntryPasses, Passes, adds_to, is_strong_definition, is_local_add, Premises}
use Rattle.order_laws.specs.Order.{is_hidden_global, ContentOf, AcceptedWhole, EndsWith, AnyOrder, after}
use Rattle.order_laws.proofs.Used.{unheld-most}
use Rattle.order_laws.proofs.Named.{not-local}
use Rattle.order_laws.proofs.Step.{Going, Rest, alike, accepts}
use Rattle.order_laws.proofs.Run.{all-in, Among, named_rows, Done, done}
use Rattle.order_laws.proofs.Contents.{content-of, hidden-rows, split, first-strong, settled, settled-by}
use Rattle.order_laws.proofs.Start as Start

-- ---- the premises are the arrangement's too

module _ (s : State) (conversion : List ℕ) (us vs : List UpcomingSymbol) (same : IsPermutation us vs) where
  counts : (p : UpcomingSymbol → Bool) → count_by p vs ≡ count_by p us
  counts p = sum_by-IsPermutation (λ x. cond (p x) 1 0) us vs same

  pub arranged : Premises s conversion us → Premises s conversion vs
  arranged p =
      record {
        each = All-permutation (Passes s conversion) us vs same p.each;
        one_strong = λ name. rw (counts (adds_to name is_strong_definition)) (p.one_strong name);
        rows = record {
          names = p.rows.names;
          among = All-permutation (Among s conversion p.rows.names) us vs same p.rows.among;
          enough = rw (counts is_local_add) p.rows.enough;
        };
      }

-- ---- one arrangement

module _ (s : State) (go : Going s s []) (fresh : Start.Fresh s) (conversion : List ℕ) (us : List UpcomingSymbol) (ids : List ℕ) (p : Premises s conversion us) (lent : length us ≤ length ids) where
  abbrev ns : List ℕ
  ns = p.rows.names

  rest : Rest s [] ns us
  rest =
      record { once = λ name. omega (arith, p.one_strong name); room = omega (arith, fresh.one, unheld-most s.names ns, p.rows.enough) }

  begun : add_list_of conversion us (table s) ids ≡ adds_of conversion us (list_left (table s) ids none 0) 0
  unfolding add_list_of
  begun = rw (fresh.whole, le-ltb (length ids) (length us) lent)

  pub all-done : Done s conversion ns s [] us 0 (add_list_of conversion us (table s) ids)
  all-done = subst (Done s conversion ns s [] us 0) (sym begun) (done s conversion ns us p.each s [] go p.rows.among rest ids 0 0)

  pub accepted-whole : AcceptedWhole us (add_list_of conversion us (table s) ids)
  accepted-whole = record { result = all-done.result; all = all-done.all ∙ omega arith }

  -- ---- a name with a strong definition

  module _ (e : ElfSymbol) (name : Interned) (file : Option Interned) (c : Contains us (Elf e name file)) (strong : is_strong_definition e ≡ true) where
    passes : EntryPasses s conversion e name file
    passes = all-in (Passes s conversion) us (Elf e name file) c p.each

    abbrev pub t : State
    t = after s conversion ids us

    abbrev pub own : Row
    own = settled s.link.gabi us name (upcoming s conversion (Elf e name file))

    abbrev l : List Row
    l = named_rows s conversion name.0 us

    abbrev row : Row
    row = upcoming s conversion (Elf e name file)

    found-by : (x : Entry) (xs : List Entry) → only name.0 all-done.after ≡ x ∷ xs → EndsWith t name own
    found-by x xs q =
        let g : Bool = s.link.gabi in
        let k : rows (x ∷ xs) ≡ l = sym (ap rows q) ∙ all-done.found name.0 in
        let d : Row = first common (rows (x ∷ xs)) (first weak_definition (rows (x ∷ xs)) (reference_of g x.row (rows xs))) in
        let same : first_by_rank g x.row (rows xs) ≡ row =
        ap (λ (w : List Row). first strong_definition w d) k ∙ first-strong s conversion e name file passes strong us p.each (p.one_strong name) c d in
        record {
          id = record { 0 = x.id };
          found =
              lookup-row t all-done.after all-done.going.inv all-done.going.within name.0 x xs q
              ∙ ap (λ (r : Row). Ok (symbol_of (record { 0 = x.id }) r))
              (ap (λ (h : Bool). hidden_by h (rows (x ∷ xs)) (joined_in (rows (x ∷ xs)) (first_by_rank h x.row (rows xs)))) all-done.going.kept.gabi
              ∙ ap (λ (r : Row). hidden_by g (rows (x ∷ xs)) (joined_in (rows (x ∷ xs)) r)) same
              ∙ ap (hidden_by g (rows (x ∷ xs)))
              (joined-plain (rows (x ∷ xs)) row (Entries.common-is g conversion e name file (empty_at s.names name) passes.section))
              ∙ ap (λ (w : List Row). hidden_by g w row) k
              ∙ settled-by s conversion e name file passes strong g us l (hidden-rows s conversion name us p.each));
        }

    not-none : only name.0 all-done.after ≡ [] → ⊥
    not-none q =
        let x = split s conversion e name file passes strong us c in
        let k : length {A = Row} [] ≡ length l = ap length (sym (ap rows q) ∙ all-done.found name.0) in
        omega (arith, k, ap length x.place, length-append x.before (row ∷ x.after))

    ends-by : (w : List Entry) → only name.0 all-done.after ≡ w → EndsWith t name own
    ends-by [] q = absurd (not-none q)
    ends-by (x ∷ xs) q = found-by x xs q

    pub ends : EndsWith t name own
    ends = ends-by (only name.0 all-done.after) refl

    -- it is what the definition says
    pub content : ContentOf s.link.gabi s conversion us e name file own
    content = content-of s conversion e name file passes strong s.link.gabi us c put-accepted
      where
        alone : Rest s [] ns (Elf e name file ∷ [])
        alone =
            record {
              once = λ m. by-test (adds_to m is_strong_definition (Elf e name file)) (λ a. rw a (omega arith)) (λ a. rw a (omega arith));
              room = rw (not-local e strong) (omega (arith, fresh.one, unheld-most s.names ns, p.rows.enough));
            }

        among : is_local (sym_of e) ≡ false → Contains ns name.0
        among = all-in (Among s conversion ns) us (Elf e name file) c p.rows.among

        put-accepted : number_in (put_of s row).said ≡ 0
        put-accepted =
            subst (λ (o : Left). number_in o.said ≡ 0) (alike s s [] go conversion e name file passes ns among [] alone) (accepts s s [] go conversion e name file passes ns among [] alone)

-- ---- all of them

module _ (s : State) (go : Going s s []) (fresh : Start.Fresh s) (conversion : List ℕ) (us : List UpcomingSymbol) (ids : List ℕ) (p : Premises s conversion us) (lent : length us ≤ length ids) where
  fits : (vs : List UpcomingSymbol) → IsPermutation us vs → length vs ≤ length ids
  fits vs q = rw (length_permutation us vs q) lent

  hidden-alike : (gabi : Bool) (vs : List UpcomingSymbol) → IsPermutation us vs → (name : Interned) (r : Row) → settled gabi vs name r ≡ settled gabi us name r
  hidden-alike false vs q name r = refl
  hidden-alike true vs q name r = ap (λ (h : Bool). hide_if h r) (sym (list_any-IsPermutation (adds_to name is_hidden_global) us vs q))

  pub in-any-order : AnyOrder s conversion ids s.link.gabi us
  in-any-order =
      record {
        accepted = λ vs q. accepted-whole s go fresh conversion vs ids (arranged s conversion us vs q p) (fits vs q);
        content = λ e name file c strong. record {
          row = settled s.link.gabi us name (upcoming s conversion (Elf e name file));
          content = content s go fresh conversion us ids p lent e name file c strong;
          same = λ vs q.
              subst (EndsWith (after s conversion ids vs) name)
              (hidden-alike s.link.gabi vs q name (upcoming s conversion (Elf e name file)))
              (ends s go fresh conversion vs ids (arranged s conversion us vs q p) (fits vs q) e name file (Contains-permutation us vs (Elf e name file) q c) strong);
        };
      }

-- from a new table with names issued
module _ (key : ℕ) (gabi : Bool) (bytes names symbols sections : List ℕ) (new : number_in (new_of key gabi bytes names symbols sections).said ≡ 0) (issued : List (List ℕ)) where
  abbrev start : State
  start = Start.start key gabi bytes names symbols sections new issued

  pub ordered : (conversion : List ℕ) (us : List UpcomingSymbol) (ids : List ℕ) → Premises start conversion us → length us ≤ length ids → AnyOrder start conversion ids gabi us
  ordered conversion us ids p lent =
      subst (λ (g : Bool). AnyOrder start conversion ids g us) (Start.profile key gabi bytes names symbols sections new issued)
      (in-any-order start (Start.going key gabi bytes names symbols sections new issued) (Start.fresh key gabi bytes names symbols sections new issued) conversion us ids p lent)
