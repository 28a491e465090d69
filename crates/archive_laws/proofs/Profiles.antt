-- The names that tie a member, in the words of both profiles: undefined; undefined and strong (document 02, 2026-02).
-- Assumes nothing.
use Rattle.std.specs.Prelude.{ℕ, ◌≡◌, Bool, ◌&&◌, ◌||◌, List, eqb}
use Rattle.std.proofs.Math.Path.{refl}
use Rattle.std.proofs.Math.Bool.{true, false, cond}
use Rattle.symbol.specs.Row.{scope_at}
use Rattle.symbol.specs.Layout.{global, global_hidden}
use Rattle.symbol_resolution.specs.declared.rows.Holder.{Holder}
use Rattle.symbol_resolution.specs.declared.rows.Holder.TheVariants.{Unissued, Nobody, Removed, Known}
use Rattle.symbol_resolution.specs.RowsUndefined.{undefined_row, strong_undefined}
use Rattle.archive_walk.specs.Look.{Table, name_holder, is_undefined, undefined_name, ties_row, ties, tied_name}
use Rattle.archive_laws.specs.Profiles.{is_strong, strong_name}

module _ (t : Table) (x : List ℕ) where
  -- the old profile: weak or not
  pub tied-old : t.link.gabi ≡ false → tied_name t x ≡ undefined_name t x
  unfolding tied_name undefined_name ties_row
  tied-old e = go (name_holder t x)
    where
      go : (h : Holder) → ties t.link.gabi t.symbols h ≡ is_undefined t.symbols h
      go Unissued = refl
      go Nobody = refl
      go Removed = refl
      go (Known id) = rw e

  -- the gABI's: "undefined and strong"
  pub tied-gabi : t.link.gabi ≡ true → tied_name t x ≡ undefined_name t x && strong_name t x
  unfolding tied_name undefined_name strong_name ties_row strong_undefined
  tied-gabi e = go (name_holder t x)
    where
      tree : (a b c : Bool) → cond a (cond b true (cond c true false)) false ≡ a && (b || c)
      tree true true c = refl
      tree true false true = refl
      tree true false false = refl
      tree false b c = refl

      go : (h : Holder) → ties t.link.gabi t.symbols h ≡ is_undefined t.symbols h && is_strong t.symbols h
      go Unissued = refl
      go Nobody = refl
      go Removed = refl
      go (Known id) =
          rw e
          (tree (undefined_row t.symbols id) (eqb (scope_at t.symbols id.0) global) (eqb (scope_at t.symbols id.0) global_hidden))
