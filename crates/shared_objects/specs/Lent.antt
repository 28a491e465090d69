-- What a load writes, as it is lent to its methods.
-- Assumes nothing.
use Rattle.std.specs.Prelude.{◌≡◌}
use Rattle.shared_objects.specs.declared.Loading.{Loading}

-- the same cells are lent
abbrev pub same_loans : Loading → Loading → Type 0
same_loans s t =
    (t.bytes.ghost_name ≡ s.bytes.ghost_name) × (t.names.ghost_name ≡ s.names.ghost_name) × (t.symbols.ghost_name ≡ s.symbols.ghost_name)
    × (t.sections.ghost_name ≡ s.sections.ghost_name) × (t.inputs.ghost_name ≡ s.inputs.ghost_name) × (t.lists.ghost_name ≡ s.lists.ghost_name)

-- ---- cells that hold what they held

abbrev pub same_rows : Loading → Loading → Type 0
same_rows s t = (t.symbols.now ≡ s.symbols.now) × (t.sections.now ≡ s.sections.now)

abbrev pub same_lists : Loading → Loading → Type 0
same_lists s t = (t.inputs.now ≡ s.inputs.now) × (t.lists.now ≡ s.lists.now)

abbrev pub same_names : Loading → Loading → Type 0
same_names s t = (t.bytes.now ≡ s.bytes.now) × (t.names.now ≡ s.names.now)
