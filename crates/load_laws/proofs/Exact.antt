-- The judgement is exact: "needed" is answered where the library is needed, and nowhere else.
-- Assumes nothing.
use Rattle.std.specs.Prelude.{ℕ, ◌<◌, ◌≤◌, ◌≡◌, Bool, List, eqb, leb, length}
use Rattle.std.proofs.Common.{arith}
use Rattle.std.proofs.Math.Path.{refl}
use Rattle.std.proofs.Math.Bool.{true}
use Rattle.std.proofs.Math.ListN.{get_or}
use borrow.Author.Tests.{eq-eqb, eqb-true, leb-false, lt-leb}
use Rattle.byte_slices.specs.Proof.Ways.{pick, apart}
use Rattle.gabi.specs.StringTable.{has_name, name_at}
use Rattle.link.specs.declared.Link.{Link}
use Rattle.interner.specs.Names.{find_of}
use Rattle.symbol_resolution.specs.declared.rows.Holder.{Holder}
use Rattle.symbol_resolution.specs.declared.rows.Holder.TheVariants.{Unissued, Nobody, Removed, Known}
use Rattle.symbol_resolution.specs.Holder.{holder_of}
use Rattle.elf_object.specs.Rows.{rows_in, field}
use Rattle.shared_objects.specs.Need.{mark_all, clear_all, provides, lacked_by, wanted_in, view_of, name_wanted, symbol_wanted, some_wanted, marked_of, need_of}
use Rattle.load_laws.specs.Needed.{Lacked, undefined, recorded, Needed}
use Rattle.load_laws.proofs.Own.{lacking-own, own-lacking}
use Rattle.load_laws.proofs.LawsOwn.{provides-own, own-provides}
use Rattle.load_laws.proofs.LawsLists.{any-among, among-any}
use Rattle.load_laws.proofs.Marks.{marked-recorded, marked-only}
use Rattle.load_laws.proofs.Cleared.{all-length, all-at}

module _ (l : Link) (bytes names symbols inputs lists marks entries file x : List ℕ) (room : l.names ≤ length marks) where
  abbrev self : ℕ
  self = find_of bytes names l x

  abbrev clear : List ℕ
  clear = clear_all bytes names l entries file marks

  abbrev after : List ℕ
  after = mark_all inputs lists self l.names l.inputs clear

  fits : (id : ℕ) → id < l.names → id < length clear
  fits id h = rw (all-length bytes names l entries file marks) (omega (arith, room, h))

  abbrev IsLacked : ℕ → Type 0
  IsLacked id = Lacked l names symbols inputs lists self id

  abbrev holder : ℕ → Holder
  holder id = holder_of l names symbols (record { 0 = id })

  held-lacked : (id : ℕ) (h : Holder) → holder id ≡ h → lacked_by symbols h ≡ true → IsLacked id
  held-lacked id Unissued q e = absurd (apart e)
  held-lacked id Nobody q e = absurd (apart e)
  held-lacked id Removed q e = absurd (apart e)
  held-lacked id (Known row) q e = undefined row q (lacking-own symbols row e)

  wanted-lacked : (id : ℕ) → get_or clear id 0 ≡ 0 → wanted_in l names symbols after id ≡ true → (id < l.names) × IsLacked id
  unfolding wanted_in
  wanted-lacked id z =
      pick (λ (b : Bool). b ≡ true → (id < l.names) × IsLacked id) (leb l.names id) _ _ (λ t e. absurd (apart e))
      (λ t.
      let h : id < l.names = leb-false _ _ t in
      pick (λ (b : Bool). b ≡ true → (id < l.names) × IsLacked id) (eqb (get_or after id 0) 1) _ _
      (λ u e.
      let r = marked-only inputs lists self l.names l.inputs clear id z (eqb-true _ _ u) in
      (h, recorded r.one (omega (arith, r.below)) r.records))
      (λ u e. (h, held-lacked id (holder id) refl e)))

  lacked-wanted : (id : ℕ) → id < l.names → IsLacked id → wanted_in l names symbols after id ≡ true
  unfolding wanted_in
  lacked-wanted id h (undefined row q e) =
      rw (lt-leb l.names id h) (pick (λ (b : Bool). b ≡ true) (eqb (get_or after id 0) 1) _ _ (λ t. refl) (λ t. rw q (own-lacking symbols row e)))
  lacked-wanted id h (recorded k g r) =
      let m : get_or after id 0 ≡ 1 = marked-recorded inputs lists self l.names l.inputs clear id k (fits id h) g r in
      rw (lt-leb l.names id h, eq-eqb _ _ m)

  symbol-needed : (i : ℕ) → i < rows_in entries → symbol_wanted (view_of bytes names symbols after l) entries file i ≡ true
      → Needed l bytes names symbols inputs lists entries file x
  unfolding symbol_wanted name_wanted
  symbol-needed i h =
      pick (λ (b : Bool). b ≡ true → Needed l bytes names symbols inputs lists entries file x) (provides entries i) _ _
      (λ t.
      pick (λ (b : Bool). b ≡ true → Needed l bytes names symbols inputs lists entries file x) (has_name file (field entries i 0)) _ _
      (λ u e.
      let w = wanted-lacked (find_of bytes names l (name_at file (field entries i 0))) (all-at bytes names l entries file i marks h t u) e in
      record { symbol = i; within = h; defines = provides-own entries i t; found = u; issued = w.0; lacked = w.1 })
      (λ u e. absurd (apart e)))
      (λ t e. absurd (apart e))

  needed-symbol : (n : Needed l bytes names symbols inputs lists entries file x)
      → symbol_wanted (view_of bytes names symbols after l) entries file n.symbol ≡ true
  unfolding symbol_wanted name_wanted
  needed-symbol n = rw (own-provides entries n.symbol n.defines, n.found) (lacked-wanted _ n.issued n.lacked)

  pub needed-sound : (need_of l bytes names symbols inputs lists marks entries file x).needed ≡ true
      → Needed l bytes names symbols inputs lists entries file x
  unfolding need_of marked_of some_wanted
  needed-sound e =
      let k = any-among (symbol_wanted (view_of bytes names symbols after l) entries file) 0 (rows_in entries) e in
      symbol-needed k.one (omega (arith, k.below)) k.so

  pub needed-complete : Needed l bytes names symbols inputs lists entries file x
      → (need_of l bytes names symbols inputs lists marks entries file x).needed ≡ true
  unfolding need_of marked_of some_wanted
  needed-complete n =
      among-any (symbol_wanted (view_of bytes names symbols after l) entries file) 0 (rows_in entries) n.symbol (omega arith)
      (omega (arith, n.within)) (needed-symbol n)
