-- Which calls go element by element, so that a refused one may leave what its earlier elements left: document 01's refusal table, "Left as it was".
-- Assumes nothing.
use Rattle.std.specs.Prelude.{Bool, true, false}
use Rattle.link_laws.specs.Calls.{Call, intern, add, remove, add_group, merge, merge_file, load, collect, plain_collect, reads, add_list}

-- those of an object or a library, which leave "that call's earlier elements"
abbrev pub by_elements : Call → Bool
by_elements (intern x) = false
by_elements (reads k) = false
by_elements (add conversion u) = false
by_elements (add_list conversion adds ids) = false
by_elements (remove id) = false
by_elements (add_group o work n) = false
by_elements (merge o work ids) = true
by_elements (merge_file file cells work ids) = true
by_elements (load o marks) = true
by_elements (collect marks entry work) = false
by_elements (plain_collect marks entry work) = false
