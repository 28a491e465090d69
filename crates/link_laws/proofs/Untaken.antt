-- Which symbols of an object `would_define` tells, by lookups of their names and by their entries.
-- Assumes nothing.
use Prim.Native.Nat.{ℕ, zero, suc, ◌+◌, ◌*◌, ◌/◌, ◌<◌, ◌≤◌}
use native.Mathlib.Omega.{arith}
use Rattle.std.proofs.Common.{sym, ap, ◌∙◌, subst, add-zero, zero-add, add-one, append-nil, append_assoc}
use Rattle.std.specs.Prelude.{◌≡◌, refl, Bool, true, false, cond, not, ◌&&◌, ◌||◌, List, [], ◌∷◌, ◌++◌, eqb, ltb, length, drop, Option, Some, None, Result, Ok}
use Rattle.std.proofs.lemmas.List.Edits.{sets, sets-eq}
use borrow.Author.Tests.{eqb-false, le-ltb, ltb-false}
use Rattle.byte_slices.specs.Proof.Ways.{pick}
use Rattle.link.specs.declared.Interned.{Interned}
use Rattle.link.specs.declared.SymbolId.{SymbolId}
use Rattle.link.specs.declared.cause.Refusal.{Refusal}
use Rattle.strings.specs.Lookup.{Looked}
use Rattle.symbol.specs.declared.Symbol.{Symbol}
use Rattle.symbol.specs.Row.{symbol_at, value_words_at, scope_at, kind_at}
use Rattle.symbol.specs.Codes.{visibility_at}
use Rattle.symbol_resolution.specs.Decide.{weak_of}
use Rattle.symbol_resolution.specs.declared.rows.Holder.{Holder}
use Rattle.symbol_resolution.specs.declared.rows.Holder.TheVariants.{Unissued, Nobody, Removed, Known}
use Rattle.symbol_resolution.specs.Proof.DecideWays.{weak_same}
use Rattle.symbols.specs.Lookup.{held_of}
use Rattle.gabi.specs.SymbolTable as Gabi
use Rattle.gabi.specs.SymbolTable.{Sym}
use Rattle.gabi.specs.Archive.{offers}
use Rattle.upcoming_symbol.specs.declared.ElfSymbol.{ElfSymbol}
use Rattle.elf_object.specs.Rows.{rows_in, name_in, entry_name_at, elf_at}
use Rattle.elf_object.specs.Judge as Elf
use Rattle.archive_walk.specs.Look.{name_holder}
use Rattle.archive_walk.specs.Walk.{begun_number}
use Rattle.untaken_member.specs.Untaken as Call
use Rattle.untaken_member.specs.Untaken.{table_below, loaded_of, defines, is_strong, told_holder, told_name, told_at, if_told, told_from, listed, told_of, roomed_of, head_of, would_of}
use Rattle.symbol_laws.specs.Gabi.{sym_of}
use Rattle.symbol_laws.specs.ObjectWords.{entry}
use Rattle.symbol_laws.specs.Within.{Within}
use Rattle.symbol_laws.proofs.Within.{Fits}
use Rattle.load_laws.proofs.Own as Need
use Rattle.merge_laws.specs.MergeWords.{symbols_of, symbol_name, is_named}
use Rattle.merge_laws.specs.Marked.{Marked}
use Rattle.merge_laws.specs.Calls.{Linked}
use Rattle.link_laws.specs.Calls.{would_define, view_in, call_left, call_number}
use Rattle.link_laws.proofs.NeverRemoved.{table-judged}
use Rattle.link_laws.specs.Words.{id_of, lookup}
use Rattle.link_laws.proofs.Words.{held-answers}
use Rattle.link_laws.specs.Shadowed.{is_weak_binding, those_below}
use Rattle.link_laws.proofs.Shadowed.{same-binding}
use Rattle.link_laws.proofs.OwnEntries.{common-is}
use Rattle.link_laws.proofs.LoadedTable.{loaded-entries, name-there, name-found}
use Rattle.link_laws.specs.Untaken.{gives_way, row_id, would, held_id, paired, TellsPairs}

-- ---- a name, by its lookup

-- by a row's kind and binding, and a symbol's binding and section
pub ways : (u k w g c : Bool)
    → cond u true (cond k (g && not c) (w && (c || g && not c)))
    ≡ (u || k && (g && not c) || (not u && w) && not k && (g || c))
ways true k w g c = refl
ways false true true true true = refl
ways false true true true false = refl
ways false true true false c = refl
ways false true false true true = refl
ways false true false true false = refl
ways false true false false c = refl
ways false false true true true = refl
ways false false true true false = refl
ways false false true false true = refl
ways false false true false false = refl
ways false false false g c = refl

defines-is : (e : ElfSymbol) → defines e ≡ offers (sym_of e) && not (eqb (sym_of e).type 4)
unfolding defines offers Gabi.is_global Gabi.is_weak Gabi.is_definition Gabi.is_reference
defines-is e = go (eqb e.section 0) (eqb e.kind 4) (eqb e.binding 1 || eqb e.binding 2)
  where
    go : (u f b : Bool) → not u && not f && b ≡ (b && not u) && not f
    go true f true = refl
    go true f false = refl
    go false true true = refl
    go false true false = refl
    go false false true = refl
    go false false false = refl

module _ (symbols : List ℕ) (name : Interned) (e : ElfSymbol) where
  abbrev so : Result Symbol Refusal → Option SymbolId
  so x = cond (gives_way x (sym_of e)) (Some (record { 0 = row_id x })) None

  holder-told : (h : Holder) → told_holder symbols e h ≡ so (held_of symbols name h)
  unfolding Call.gives_way is_strong Call.is_common symbol_at Gabi.is_global Gabi.is_common
  holder-told Unissued = refl
  holder-told Nobody = refl
  holder-told Removed = refl
  holder-told (Known id) =
      let a = Need.undefined-code (value_words_at symbols id.0) in
      let k = common-is (value_words_at symbols id.0) in
      let b : is_weak_binding (visibility_at (scope_at symbols id.0)) ≡ weak_of (scope_at symbols id.0) =
      same-binding symbols name (visibility_at (scope_at symbols id.0)) ∙ weak_same (scope_at symbols id.0) in
      rw (a, k, b, ← ways (eqb (kind_at symbols id.0) 7) (eqb (kind_at symbols id.0) 8) (weak_of (scope_at symbols id.0)) (eqb e.binding 1) (eqb e.section 0xfff2))
      (pack _ id)
    where
      pack : (b : Bool) (id : SymbolId) → if_told b id ≡ cond b (Some id) None
      pack true id = refl
      pack false id = refl

-- ---- the list of those that are told

module _ (f : ℕ → ℕ) where
  paired-append : (a b : List ℕ) → paired f (a ++ b) ≡ paired f a ++ paired f b
  paired-append [] b = refl
  paired-append (i ∷ is) b = ap (λ (x : List ℕ). i ∷ f i ∷ x) (paired-append is b)

  paired-length : (a : List ℕ) → length (paired f a) ≡ length a * 2
  paired-length [] = refl
  paired-length (i ∷ is) = omega (arith, paired-length is)

  module _ (p : ℕ → Option SymbolId) (q : ℕ → Bool) where
    abbrev Agrees : ℕ → Type 0
    Agrees j = p j ≡ cond (q j) (Some (record { 0 = f j })) None

    one-few : (k : ℕ) (o : Option SymbolId) (rest : List ℕ) → length (Call.with_told k o rest) ≤ 2 + length rest
    one-few k None rest = omega arith
    one-few k (Some id) rest = omega arith

    told-few : (n k : ℕ) → length (told_from p k n) ≤ n * 2
    unfolding told_from
    told-few zero k = omega arith
    told-few (suc n) k = omega (arith, one-few k (p k) (told_from p (k + 1) n), told-few n (k + 1))

    told-on : (n k : ℕ) → ((j : ℕ) → k ≤ j → j < k + n → Agrees j) → paired f (those_below q k) ++ told_from p k n ≡ paired f (those_below q (k + n))
    unfolding told_from
    told-on zero k e = append-nil (paired f (those_below q k)) ∙ ap (λ (m : ℕ). paired f (those_below q m)) (sym (add-zero k))
    told-on (suc n) k e =
        let z : k + suc n ≡ k + 1 + n = omega arith in
        rw (e k (omega arith) (omega arith), z)
        (front (q k) refl ∙ told-on n (k + 1) (λ j g h. e j (omega arith) (omega arith)))
      where
        t : List ℕ
        t = told_from p (k + 1) n

        spread : (b : Bool) → paired f (cond b (k ∷ []) []) ++ t ≡ Call.with_told k (cond b (Some (record { 0 = f k })) None) t
        spread true = refl
        spread false = refl

        front : (b : Bool) → q k ≡ b → paired f (those_below q k) ++ Call.with_told k (cond b (Some (record { 0 = f k })) None) t ≡ paired f (those_below q (k + 1)) ++ t
        front b e =
            sym
            (ap (λ (x : List ℕ). x ++ t)
            (ap (λ (m : ℕ). paired f (those_below q m)) (add-one k) ∙ ap (λ (d : Bool). paired f (those_below q k ++ cond d (k ∷ []) [])) e ∙ paired-append (those_below q k) (cond b (k ∷ []) []))
            ∙ append_assoc (paired f (those_below q k)) (paired f (cond b (k ∷ []) [])) t
            ∙ ap (λ (x : List ℕ). paired f (those_below q k) ++ x) (spread b))

    told-are : (n : ℕ) → ((j : ℕ) → j < n → Agrees j) → told_from p 0 n ≡ paired f (those_below q n)
    told-are n e = told-on n 0 (λ j g h. e j (omega arith)) ∙ ap (λ (m : ℕ). paired f (those_below q m)) (zero-add n)

-- ---- the call

module _ (headers entries contents file : List ℕ) (s : Linked) (f : Fits s.table) (w : Within s.table.link s.table.names) where
  abbrev table : List ℕ
  table = symbols_of headers entries contents file

  abbrev count : ℕ
  count = rows_in table

  abbrev told : ℕ → Option SymbolId
  told = told_at (loaded_of headers entries file) (view_in s.table)

  module _ (i : ℕ) (h : i < count) where
    abbrev e : ElfSymbol
    e = elf_at table i

    abbrev b : List ℕ
    b = symbol_name headers entries contents file i

    abbrev looked : Looked
    looked = name_in headers file (loaded_of headers entries file).names (entry_name_at (loaded_of headers entries file).entries i)

    told-own : told i ≡ told_name (view_in s.table) (elf_at (loaded_of headers entries file).entries i) looked
    unfolding told_at loaded_of
    told-own = refl

    held-told : told_holder s.table.symbols e (name_holder (view_in s.table) b) ≡ so s.table.symbols (id_of b s) e (lookup b s)
    held-told =
        holder-told s.table.symbols (id_of b s) e (name_holder (view_in s.table) b)
        ∙ ap (so s.table.symbols (id_of b s) e) (sym (held-answers s f w b))

    name-told : told_name (view_in s.table) e looked ≡ cond (would headers entries contents file s i) (Some (record { 0 = held_id headers entries contents file s i })) None
    unfolding told_name
    name-told =
        rw (name-found headers entries contents file i h, name-there headers entries contents file i h, held-told, defines-is e)
        (all-of (is_named headers entries contents file i) (offers (entry table i) && not (eqb (entry table i).type 4)) (gives_way (lookup b s) (entry table i)) (held_id headers entries contents file s i))
      where
        all-of : (n d g : Bool) (id : ℕ) → cond {A = Option SymbolId} (n && d) (cond g (Some (record { 0 = id })) None) None ≡ cond ((n && d) && g) (Some (record { 0 = id })) None
        all-of true true g id = refl
        all-of true false g id = refl
        all-of false d g id = refl

    symbol-told : told i ≡ cond (would headers entries contents file s i) (Some (record { 0 = held_id headers entries contents file s i })) None
    symbol-told =
        told-own ∙ ap (λ (l : List ℕ). told_name (view_in s.table) (elf_at l i) looked) (loaded-entries headers entries contents file) ∙ name-told

  abbrev pub numbers : List ℕ
  numbers = those_below (would headers entries contents file s) count

  module _ (cells : List ℕ) where
    listed-tells : count ≤ length cells / 2 → TellsPairs (held_id headers entries contents file s) numbers cells (listed cells (told_from told 0 count))
    listed-tells room =
        let g = held_id headers entries contents file s in
        let a : told_from told 0 count ≡ paired g numbers = told-are g told (would headers entries contents file s) count symbol-told in
        let n : length (paired g numbers) ≡ length numbers * 2 = paired-length g numbers in
        let b : length (paired g numbers) ≤ length cells = omega (arith, ap length a, told-few g told (would headers entries contents file s) count 0) in
        let h : length (paired g numbers) / 2 ≡ length numbers = omega arith in
        record {
          answer = ap (λ (x : List ℕ). Ok (length x / 2)) a ∙ ap Ok h;
          cells-left = ap (sets cells 0) a ∙ sets-eq (paired g numbers) cells 0 (omega arith) ∙ ap (λ (m : ℕ). paired g numbers ++ drop m cells) (zero-add (length (paired g numbers)));
        }

    pub tells-them : call_number (would_define headers entries contents file cells) s ≡ 0
        → TellsPairs (held_id headers entries contents file s) numbers cells (call_left (would_define headers entries contents file cells) s)
    unfolding would_of roomed_of told_of
    tells-them =
        pick P (eqb (head_of headers entries contents file (view_in s.table)).number 0) _ _
        (λ a.
        pick P (ltb (length cells / 2) (rows_in (loaded_of headers entries file).entries)) _ _ (λ b e. absurd (omega (arith, e)))
        (λ b e. of-all (ltb-false _ _ b)))
        (λ a e. absurd (eqb-false _ _ a e))
      where
        P : Call.Left → Type 0
        P x = begun_number x.answer ≡ 0 → TellsPairs (held_id headers entries contents file s) numbers cells x

        of-all : rows_in (loaded_of headers entries file).entries ≤ length cells / 2
            → TellsPairs (held_id headers entries contents file s) numbers cells (listed cells (told_from told 0 (rows_in (loaded_of headers entries file).entries)))
        of-all =
            subst (λ (m : ℕ). m ≤ length cells / 2 → TellsPairs (held_id headers entries contents file s) numbers cells (listed cells (told_from told 0 m)))
            (sym (ap rows_in (loaded-entries headers entries contents file))) listed-tells

    -- it is accepted where the object's rows are in range and two cells are lent for each symbol
    pub tells-goes : (met : List (List ℕ)) → Marked s.table met → (Elf.judge_of headers entries (length contents) (length file)).number ≡ 0 → count ≤ length cells / 2
        → call_number (would_define headers entries contents file cells) s ≡ 0
    unfolding would_of roomed_of told_of head_of
    tells-goes met marked ranged room =
        rw (table-judged s.table f met marked w, ranged, loaded-entries headers entries contents file, le-ltb (length cells / 2) count room)
        refl
