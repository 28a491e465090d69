-- A link's stores that a call is lent.
-- Assumes nothing.
use Rattle.std.specs.Prelude.{◌≡◌}
use Rattle.replay_stores.specs.declared.Stores.{Stores}

-- the same lent cells afterwards, whatever is in them
pub record SameStores (s s' : Stores) : Type 0 where
  pub bytes : s'.bytes.ghost_name ≡ s.bytes.ghost_name
  pub names : s'.names.ghost_name ≡ s.names.ghost_name
  pub symbols : s'.symbols.ghost_name ≡ s.symbols.ghost_name
  pub sections : s'.sections.ghost_name ≡ s.sections.ghost_name
  pub inputs : s'.inputs.ghost_name ≡ s.inputs.ghost_name
  pub lists : s'.lists.ghost_name ≡ s.lists.ghost_name
  pub work : s'.work.ghost_name ≡ s.work.ghost_name
  pub ids : s'.ids.ghost_name ≡ s.ids.ghost_name
