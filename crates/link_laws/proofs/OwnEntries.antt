-- The inputs' own entries behind a name's accepted adds: those of objects, of libraries and of direct adds; what the rows mean is what they say.
-- Assumes nothing.
use Prim.Native.Nat.{ℕ}
use Rattle.std.specs.Prelude.{◌≡◌, ◌≢◌, refl, Bool, true, false, cond, not, ◌&&◌, eqb, ltb}
use Rattle.std.proofs.Common.{arith, sym, ap, ◌∙◌, eqb-true, eq-eqb, ne_eqb, lt-ltb}
use Rattle.std.proofs.lemmas.Bool.{false≢true}
use mathlib.Core.List.{List, [], ◌∷◌, ◌++◌}
use Rattle.cells.specs.Proof.Split.{by-test}
use Rattle.gabi.specs.SymbolTable.{Sym, stb_global, stb_weak, stv_default, stv_hidden, shn_undef, shn_abs, shn_common, shn_loreserve, is_reference, is_common, is_weak, is_global}
use Rattle.gabi.specs.Groups.{undefine}
use Rattle.symbol.specs.declared.Row.{Row}
use Rattle.symbol.specs.declared.Words.{Words}
use Rattle.symbol.specs.declared.SymbolVisibility.{SymbolVisibility}
use Rattle.symbol.specs.declared.SymbolVisibility.TheVariants.{Local, Global}
use Rattle.symbol.specs.declared.SymbolValue.{SymbolValue}
use Rattle.symbol.specs.declared.SymbolValue.TheVariants as Val
use Rattle.symbol.specs.Codes.{visibility_at, value_at}
use Rattle.symbol_resolution.specs.Decide.{weak_of}
use Rattle.upcoming_symbol.specs.declared.ElfSymbol.{ElfSymbol}
use Rattle.upcoming_symbol.specs.declared.UpcomingSymbol.{UpcomingSymbol}
use Rattle.upcoming_symbol.specs.Upcoming.{name_of}
use Rattle.symbols.specs.Add.{empty_at}
use Rattle.symbol_laws.specs.ObjectWords.{entry}
use Rattle.symbol_laws.specs.Gabi.{Means, AllMean}
use Rattle.symbol_laws.specs.Hidden.{hides, AllShow}
use Rattle.symbol_laws.specs.ContentWords.{Admitted, shows, shared_entry}
use Rattle.symbol_laws.specs.DirectContents as Direct
use Rattle.symbol_laws.specs.DirectContents.{FromAdd, ElfValue, is_undefined, is_common_value}
use Rattle.merge_stages.specs.Stages as Stages
use Rattle.merge_laws.specs.MergeWords as Words
use Rattle.merge_laws.specs.ObjectContents as Objects
use Rattle.merge_laws.specs.LogContents.{FromSymbol}
use Rattle.merge_laws.specs.Calls.{Linked, all_in}
use Rattle.shared_objects.specs.Load as Shared
use Rattle.load_laws.specs.LibraryContents.{FromLibrary}
use Rattle.link_laws.specs.Calls.{Call, intern, add, remove, add_group, merge, merge_file, load, collect, plain_collect, library_in, call_next, reads, add_list}
use Rattle.elf_laws.specs.Object as ElfFile
use Rattle.link_laws.specs.Kept.{signatures}
use Rattle.link_laws.specs.Contents.{FromCall, FromCalls, here, later}
use Rattle.link_laws.specs.OwnEntries.{object_entry, add_entry, call_entry, entry_of, AllFrom, entries_of}

-- ---- an entry as it reaches the link

-- ---- what a row means

weakness : SymbolVisibility → Bool
weakness Local = false
weakness (Global weak hidden) = weak

weak-is : (c : ℕ) → weak_of c ≡ weakness (visibility_at c)
unfolding weak_of visibility_at weakness
weak-is c =
    by-test (eqb c 1) (λ a. let e : c ≡ 1 = eqb-true _ _ a in rw e)
    (λ a.
    by-test (eqb c 2) (λ b. let e : c ≡ 2 = eqb-true _ _ b in rw e)
    (λ b.
    by-test (eqb c 3) (λ d. let e : c ≡ 3 = eqb-true _ _ d in rw e)
    (λ d. by-test (eqb c 4) (λ f. let e : c ≡ 4 = eqb-true _ _ f in rw e) (λ f. rw (a, b, d, f)))))

undefined-is : (w : Words) → is_undefined (value_at w) ≡ eqb w.kind 7
unfolding value_at
undefined-is w =
    by-test (eqb w.kind 1) (λ a. let e : w.kind ≡ 1 = eqb-true _ _ a in rw (a, e))
    (λ a.
    by-test (eqb w.kind 2) (λ b. let e : w.kind ≡ 2 = eqb-true _ _ b in rw (a, b, e))
    (λ b.
    by-test (eqb w.kind 3) (λ c. let e : w.kind ≡ 3 = eqb-true _ _ c in rw (a, b, c, e))
    (λ c.
    by-test (eqb w.kind 4) (λ d. let e : w.kind ≡ 4 = eqb-true _ _ d in rw (a, b, c, d, e))
    (λ d.
    by-test (eqb w.kind 5) (λ f. let e : w.kind ≡ 5 = eqb-true _ _ f in rw (a, b, c, d, f, e))
    (λ f.
    by-test (eqb w.kind 6) (λ g. let e : w.kind ≡ 6 = eqb-true _ _ g in rw (a, b, c, d, f, g, e))
    (λ g.
    by-test (eqb w.kind 7) (λ h. rw (a, b, c, d, f, g, h))
    (λ h. by-test (eqb w.kind 8) (λ i. rw (a, b, c, d, f, g, h, i)) (λ i. rw (a, b, c, d, f, g, h, i)))))))))

pub common-is : (w : Words) → is_common_value (value_at w) ≡ eqb w.kind 8
unfolding value_at
common-is w =
    by-test (eqb w.kind 1) (λ a. let e : w.kind ≡ 1 = eqb-true _ _ a in rw (a, e))
    (λ a.
    by-test (eqb w.kind 2) (λ b. let e : w.kind ≡ 2 = eqb-true _ _ b in rw (a, b, e))
    (λ b.
    by-test (eqb w.kind 3) (λ c. let e : w.kind ≡ 3 = eqb-true _ _ c in rw (a, b, c, e))
    (λ c.
    by-test (eqb w.kind 4) (λ d. let e : w.kind ≡ 4 = eqb-true _ _ d in rw (a, b, c, d, e))
    (λ d.
    by-test (eqb w.kind 5) (λ f. let e : w.kind ≡ 5 = eqb-true _ _ f in rw (a, b, c, d, f, e))
    (λ f.
    by-test (eqb w.kind 6) (λ g. let e : w.kind ≡ 6 = eqb-true _ _ g in rw (a, b, c, d, f, g, e))
    (λ g.
    by-test (eqb w.kind 7) (λ h. let e : w.kind ≡ 7 = eqb-true _ _ h in rw (a, b, c, d, f, g, h, e))
    (λ h. by-test (eqb w.kind 8) (λ i. rw (a, b, c, d, f, g, h, i)) (λ i. rw (a, b, c, d, f, g, h, i)))))))))

-- weak, hidden and definedness of a row and of a symbol
pub record Stands (r : Row) (s : Sym) : Type 0 where
  pub means : Means r s
  pub hidden : hides (visibility_at r.scope) ≡ eqb s.visibility stv_hidden
  pub seen : eqb s.visibility stv_default ≡ not (eqb s.visibility stv_hidden)

stands : (r : Row) (s : Sym) → visibility_at r.scope ≡ Global (eqb s.binding stb_weak) (eqb s.visibility stv_hidden) → eqb s.binding stb_global ≡ not (eqb s.binding stb_weak)
    → eqb s.visibility stv_default ≡ not (eqb s.visibility stv_hidden) → is_undefined (value_at r.value) ≡ eqb s.section shn_undef → is_common_value (value_at r.value) ≡ eqb s.section shn_common → Stands r s
unfolding is_reference is_common is_weak is_global weakness
stands r s v b e u w =
    record {
      means = record { refers = sym (undefined-is r.value) ∙ u; commonly = sym (common-is r.value) ∙ w; weakly = weak-is r.scope ∙ ap weakness v; bound = b };
      hidden = ap hides v;
      seen = e;
    }

-- ---- of an object

module _ (o : Stages.Object) (a : Stages.All) (met : List (List ℕ)) (r : Row) where
  object-stands : (p : FromSymbol o a met r) → Stands r (object_entry o a met p.number)
  unfolding undefine
  object-stands p =
      let table : List ℕ = Words.symbols_of o.headers o.entries o.contents o.image in
      let e : Sym = entry table p.number in
      let c = p.content in
      by-test (ltb e.section shn_loreserve && gone)
      (λ t. rw t (stands r (undefine e) c.shown c.passed.bound c.passed.seen (lost t (value_at r.value) c.value) (lost-common t (value_at r.value) c.value)))
      (λ t. rw t (stands r e c.shown c.passed.bound c.passed.seen (left t (value_at r.value) c.value) (left-common t (value_at r.value) c.value)))
    where
      abbrev-table : List ℕ
      abbrev-table = Words.symbols_of o.headers o.entries o.contents o.image

      gone : Bool
      gone = Objects.is_discarded o.headers o.entries o.contents o.image a.stage.link.sections met abbrev-table p.number

      sec : ℕ
      sec = (entry abbrev-table p.number).section

      IsValue : SymbolValue → Type 0
      IsValue = Objects.IsValue o.headers o.entries o.contents o.image a.stage.link.sections met abbrev-table p.number

      out : (x y : Bool) → x && y ≡ true → y ≡ false → ⊥
      out true true q z = false≢true (sym z)
      out true false q z = false≢true q
      out false y q z = false≢true q

      low : (x y : Bool) → x && y ≡ true → x ≡ true
      low true y q = refl
      low false y q = q

      absolute-high : sec ≡ shn_abs → ltb sec shn_loreserve ≡ true → ⊥
      absolute-high q t = false≢true (sym (ap (λ (n : ℕ). ltb n shn_loreserve) q) ∙ t)

      common-high : sec ≡ shn_common → ltb sec shn_loreserve ≡ true → ⊥
      common-high q t = false≢true (sym (ap (λ (n : ℕ). ltb n shn_loreserve) q) ∙ t)

      lost : ltb sec shn_loreserve && gone ≡ true → (v : SymbolValue) → IsValue v → is_undefined v ≡ eqb shn_undef shn_undef
      lost t v (Objects.undefined q) = refl
      lost t v (Objects.discarded q g) = refl
      lost t v (Objects.absolute q) = absurd (absolute-high q (low (ltb sec shn_loreserve) gone t))
      lost t v (Objects.common q b a) = absurd (common-high q (low (ltb sec shn_loreserve) gone t))
      lost t v (Objects.unloaded n m g q x y) = absurd (out (ltb sec shn_loreserve) gone t g)
      lost t v (Objects.whole n m g q x) = absurd (out (ltb sec shn_loreserve) gone t g)
      lost t v (Objects.within z n m g q x y) = absurd (out (ltb sec shn_loreserve) gone t g)

      lost-common : ltb sec shn_loreserve && gone ≡ true → (v : SymbolValue) → IsValue v → is_common_value v ≡ eqb shn_undef shn_common
      lost-common t v (Objects.undefined q) = refl
      lost-common t v (Objects.discarded q g) = refl
      lost-common t v (Objects.absolute q) = absurd (absolute-high q (low (ltb sec shn_loreserve) gone t))
      lost-common t v (Objects.common q b a) = absurd (common-high q (low (ltb sec shn_loreserve) gone t))
      lost-common t v (Objects.unloaded n m g q x y) = absurd (out (ltb sec shn_loreserve) gone t g)
      lost-common t v (Objects.whole n m g q x) = absurd (out (ltb sec shn_loreserve) gone t g)
      lost-common t v (Objects.within z n m g q x y) = absurd (out (ltb sec shn_loreserve) gone t g)

      left : ltb sec shn_loreserve && gone ≡ false → (v : SymbolValue) → IsValue v → is_undefined v ≡ eqb sec shn_undef
      left t v (Objects.undefined q) = sym (eq-eqb sec shn_undef q)
      left t v (Objects.discarded q g) = absurd (false≢true (sym t ∙ rw (lt-ltb sec shn_loreserve q, g)))
      left t v (Objects.absolute q) = sym (ap (λ (n : ℕ). eqb n shn_undef) q)
      left t v (Objects.common q b a) = sym (ap (λ (n : ℕ). eqb n shn_undef) q)
      left t v (Objects.unloaded n m g q x y) = sym (ne_eqb sec shn_undef n)
      left t v (Objects.whole n m g q x) = sym (ne_eqb sec shn_undef n)
      left t v (Objects.within z n m g q x y) = sym (ne_eqb sec shn_undef n)

      left-common : ltb sec shn_loreserve && gone ≡ false → (v : SymbolValue) → IsValue v → is_common_value v ≡ eqb sec shn_common
      left-common t v (Objects.undefined q) = sym (ap (λ (n : ℕ). eqb n shn_common) q)
      left-common t v (Objects.discarded q g) = absurd (false≢true (sym t ∙ rw (lt-ltb sec shn_loreserve q, g)))
      left-common t v (Objects.absolute q) = sym (ap (λ (n : ℕ). eqb n shn_common) q)
      left-common t v (Objects.common q b a) = sym (eq-eqb sec shn_common q)
      left-common t v (Objects.unloaded n m g q x y) = sym (ne_eqb sec shn_common m)
      left-common t v (Objects.whole n m g q x) = sym (ne_eqb sec shn_common m)
      left-common t v (Objects.within z n m g q x y) = sym (ne_eqb sec shn_common m)

-- ---- of a library

shared-stands : (gabi : Bool) (r : Row) (e : Sym) → Admitted e → visibility_at r.scope ≡ shows (shared_entry gabi e) → value_at r.value ≡ Val.ExternallyDefined
    → e.section ≢ shn_undef → Stands r (shared_entry gabi e)
shared-stands gabi r e p v x u = stands r (shared_entry gabi e) v p.bound (seen gabi) (ap is_undefined x ∙ sym defined) (ap is_common_value x ∙ sym own)
  where
    seen : (g : Bool) → eqb (cond g stv_default e.visibility) stv_default ≡ not (eqb (cond g stv_default e.visibility) stv_hidden)
    seen true = refl
    seen false = p.seen

    defined : eqb (cond (eqb e.section shn_common) shn_abs e.section) shn_undef ≡ false
    defined = by-test (eqb e.section shn_common) (λ c. rw c) (λ c. rw (c, ne_eqb e.section shn_undef u))

    own : eqb (cond (eqb e.section shn_common) shn_abs e.section) shn_common ≡ false
    own = by-test (eqb e.section shn_common) (λ c. rw c) (λ c. rw (c, c))

library-stands : (o : Shared.Input) (a : Shared.All) (r : Row) (p : FromLibrary o a r) → Stands r (shared_entry a.link.gabi (entry o.entries p.number))
library-stands o a r p =
    shared-stands a.link.gabi r (entry o.entries p.number) p.passed p.shown p.value p.defines

-- ---- of a direct add

elf-undefined : (conversion : List ℕ) (empty : Bool) (e : ElfSymbol) (v : SymbolValue) → ElfValue conversion empty e v → is_undefined v ≡ eqb e.section shn_undef
elf-undefined conversion empty e v (Direct.undefined q) = sym (eq-eqb _ _ q)
elf-undefined conversion empty e v (Direct.absolute q) = sym (ap (λ (n : ℕ). eqb n shn_undef) q)
elf-undefined conversion empty e v (Direct.common q b a) = sym (ap (λ (n : ℕ). eqb n shn_undef) q)
elf-undefined conversion empty e v (Direct.unloaded n m q) = sym (ne_eqb _ _ n)
elf-undefined conversion empty e v (Direct.whole i n m q x) = sym (ne_eqb _ _ n)
elf-undefined conversion empty e v (Direct.within i z n m q x y) = sym (ne_eqb _ _ n)

elf-common : (conversion : List ℕ) (empty : Bool) (e : ElfSymbol) (v : SymbolValue) → ElfValue conversion empty e v → is_common_value v ≡ eqb e.section shn_common
elf-common conversion empty e v (Direct.undefined q) = sym (ap (λ (n : ℕ). eqb n shn_common) q)
elf-common conversion empty e v (Direct.absolute q) = sym (ap (λ (n : ℕ). eqb n shn_common) q)
elf-common conversion empty e v (Direct.common q b a) = sym (eq-eqb _ _ q)
elf-common conversion empty e v (Direct.unloaded n m q) = sym (ne_eqb _ _ m)
elf-common conversion empty e v (Direct.whole i n m q x) = sym (ne_eqb _ _ m)
elf-common conversion empty e v (Direct.within i z n m q x y) = sym (ne_eqb _ _ m)

add-stands : (gabi : Bool) (conversion : List ℕ) (empty : Bool) (r : Row) (u : UpcomingSymbol) (p : FromAdd gabi conversion empty r u) → Stands r (add_entry p)
add-stands gabi conversion empty r u (Direct.unknown name a b c d) = stands r _ c refl refl (ap is_undefined d) (ap is_common_value d)
add-stands gabi conversion empty r u (Direct.hidden name value a b c d e f) = stands r _ c refl refl (e ∙ back (is_undefined value) (is_common_value value)) (f ∙ shared value)
  where
    back : (b c : Bool) → b ≡ eqb (cond b shn_undef (cond c shn_common shn_abs)) shn_undef
    back true c = refl
    back false true = refl
    back false false = refl

    shared : (v : SymbolValue) → is_common_value v ≡ eqb (cond (is_undefined v) shn_undef (cond (is_common_value v) shn_common shn_abs)) shn_common
    shared Val.Null = refl
    shared (Val.Absolute v) = refl
    shared (Val.Section s) = refl
    shared (Val.SectionRelative s z) = refl
    shared (Val.SectionVirtualAddress s v) = refl
    shared Val.SectionNotLoaded = refl
    shared Val.ExternallyDefined = refl
    shared (Val.Undefined default) = refl
    shared (Val.Common alignment) = refl
add-stands gabi conversion empty r u (Direct.external name visibility binding p a b c d) = shared-stands gabi r _ p c d (λ z. omega arith)
add-stands gabi conversion empty r u (Direct.elf e name file p a b c d) = stands r _ c p.bound p.seen (elf-undefined conversion empty e (value_at r.value) d) (elf-common conversion empty e (value_at r.value) d)

-- ---- of any call

call-stands : (k : Call) (s : Linked) (met : List (List ℕ)) (r : Row) (p : FromCall k s met r) → Stands r (call_entry k s met r p)
call-stands (intern x) s met r p = absurd p
call-stands (reads k) s met r p = absurd p
call-stands (add conversion u) s met r p = add-stands s.table.link.gabi conversion (empty_at s.table.names (name_of u)) r u p
call-stands (add_list conversion adds ids) s met r p =
    add-stands p.state.link.gabi conversion (empty_at p.state.names (name_of p.symbol)) r p.symbol p.from
call-stands (remove id) s met r p = absurd p
call-stands (add_group o work n) s met r p = absurd p
call-stands (merge o work ids) s met r p = object-stands o (all_in s work ids) met r p
call-stands (merge_file file cells work ids) s met r p = object-stands (ElfFile.rows_of file) (all_in s work ids) met r p.1
call-stands (load o marks) s met r p = library-stands o (library_in s marks) r p
call-stands (collect marks entry work) s met r p = absurd p
call-stands (plain_collect marks entry work) s met r p = absurd p

entry-stands : (r : Row) (ks : List Call) (s : Linked) (met : List (List ℕ)) (p : FromCalls r ks s met) → Stands r (entry_of r ks s met p)
entry-stands r [] s met p = elim p [ ]
entry-stands r (k ∷ ks) s met (here p) = call-stands k s met r p
entry-stands r (k ∷ ks) s met (later p) = entry-stands r ks (call_next k s) (met ++ signatures (k ∷ []) s) p

module _ (ks : List Call) (s : Linked) (met : List (List ℕ)) where
  pub all-mean : (rs : List Row) (p : AllFrom ks s met rs) → AllMean rs (entries_of ks s met rs p)
  all-mean [] p = tt
  all-mean (r ∷ rs) p = ((entry-stands r ks s met p.0).means, all-mean rs p.1)

  pub all-show : (rs : List Row) (p : AllFrom ks s met rs) → AllShow rs (entries_of ks s met rs p)
  all-show [] p = tt
  all-show (r ∷ rs) p = ((entry-stands r ks s met p.0).hidden, (entry-stands r ks s met p.0).seen, all-show rs p.1)
