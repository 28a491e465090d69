-- Which name the entry of a row bears: a symbol of an object or a library by the bytes of its string, a direct add by the id that it was given.
-- Assumes nothing.
use Rattle.std.specs.Prelude.{ℕ, ◌≡◌, true, List, [], ◌∷◌, ◌++◌}
use Rattle.gabi.specs.StringTable.{has_name, name_at}
use Rattle.symbol.specs.declared.Row.{Row}
use Rattle.upcoming_symbol.specs.Upcoming.{name_of}
use Rattle.symbol_laws.specs.ObjectWords.{entry_name}
use Rattle.symbol_laws.specs.History.{Entry, rows}
use Rattle.merge_laws.specs.MergeWords as Words
use Rattle.merge_laws.specs.Calls.{Linked}
use Rattle.link_laws.specs.Calls.{Call, intern, add, remove, add_group, merge, merge_file, load, collect, plain_collect, call_next, reads, add_list}
use Rattle.elf_laws.specs.Object as ElfFile
use Rattle.link_laws.specs.Kept.{signatures}
use Rattle.link_laws.specs.Contents.{FromCall, FromCalls, here, later}
use Rattle.link_laws.specs.OwnEntries.{AllFrom}

-- the entry that the row is from bears the name b: an object's or a library's symbol by its string, which isn't missing; a direct add is by the id that the caller gave it, n
abbrev pub CallBears : List ℕ → ℕ → (k : Call) (s : Linked) (met : List (List ℕ)) (r : Row) → FromCall k s met r → Type 0
CallBears b n (intern x) s met r p = ⊥
CallBears b n (reads k) s met r p = ⊥
CallBears b n (add conversion u) s met r p = (name_of u).0 ≡ n
CallBears b n (add_list conversion adds ids) s met r p = (name_of p.symbol).0 ≡ n
CallBears b n (remove id) s met r p = ⊥
CallBears b n (add_group o work i) s met r p = ⊥
CallBears b n (merge o work ids) s met r p = Words.Bears o.headers o.entries o.contents o.image p.number b
CallBears b n (merge_file file cells work ids) s met r p =
    Words.Bears (ElfFile.rows_of file).headers (ElfFile.rows_of file).entries (ElfFile.rows_of file).contents (ElfFile.rows_of file).image p.1.number b
CallBears b n (load o marks) s met r p = (has_name o.image (entry_name o.entries p.number) ≡ true) × (name_at o.image (entry_name o.entries p.number) ≡ b)
CallBears b n (collect marks entry work) s met r p = ⊥
CallBears b n (plain_collect marks entry work) s met r p = ⊥

abbrev pub Bears : List ℕ → ℕ → (r : Row) (ks : List Call) (s : Linked) (met : List (List ℕ)) → FromCalls r ks s met → Type 0
Bears b n r [] s met p = elim p [ ]
Bears b n r (k ∷ ks) s met (here p) = CallBears b n k s met r p
Bears b n r (k ∷ ks) s met (later p) = Bears b n r ks (call_next k s) (met ++ signatures (k ∷ []) s) p

module _ (b : List ℕ) (n : ℕ) (ks : List Call) (s : Linked) (met : List (List ℕ)) where
  abbrev pub AllBear : (xs : List Entry) → AllFrom ks s met (rows xs) → Type 0
  AllBear [] p = Unit {0}
  AllBear (x ∷ xs) p = Bears b n x.row ks s met p.0 × AllBear xs p.1
