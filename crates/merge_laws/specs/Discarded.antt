-- A section of an object that is discarded: nothing is built from it, and no symbol is defined there.
-- Assumes nothing.
use Prim.Native.Nat.{ℕ, ◌<◌}
use Rattle.std.specs.Prelude.{◌≡◌}
use Rattle.elf_object.specs.Rows.{field, mark_at}
use Rattle.merge_symbols.specs.Plan.{filtered_at}
use Rattle.merge_build.specs.Build as Build
use Rattle.merge_build.specs.Build.{section_of}
use Rattle.merge_stages.specs.Stages.{All, Object}
use Rattle.merge_laws.specs.Stops.{object, marked, builder}

module _ (o : Object) (a : All) where
  pub record Discarded (m : ℕ) : Type 0 where
    -- filter, symbols and build read this mark
    pub mark : mark_at (marked o a).work m ≡ 2
    -- nothing is built from it: its name isn't read, and no row is written for it
    pub unbuilt : (s : Build.State) (kind : ℕ) → section_of (builder o a) s m kind ≡ s
    -- "Non-local symbols there become undefined": so they reach the add
    pub undefined : (i : ℕ) → field (object o a).entries i 4 ≡ m → m < 0xff00 → (filtered_at (object o a).entries (marked o a).work i).section ≡ 0
