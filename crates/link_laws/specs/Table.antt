-- Which numbers of document 01's refusal table each call can give. Each stands once, where the first check that gives it comes in the
-- call's order; 1 and 2 may come again from later ones.
-- Assumes nothing.
use Rattle.std.specs.Prelude.{ℕ, List, [], ◌∷◌, ◌++◌}
use Rattle.link_laws.specs.Read as Read
use Rattle.link_laws.specs.Calls.{Call, intern, add, remove, add_group, merge, merge_file, load, collect, plain_collect, reads, add_list}
use Rattle.merge_laws.specs.Table.{group_causes, binding_causes, value_causes, type_causes, early_causes, relocation_causes, merge_head_numbers, load_head_numbers, file_head_numbers}

-- "Add checks in this order"
abbrev pub add_numbers : List ℕ
add_numbers = 22 ∷ 1 ∷ (binding_causes ++ (21 ∷ (value_causes ++ (15 ∷ (type_causes ++ (2 ∷ 17 ∷ []))))))

-- 2 for cells of marks before 4, and for the signature's name and a mark after 7
abbrev pub add_group_numbers : List ℕ
add_group_numbers = merge_head_numbers ++ group_causes

-- "sections (3, 24), groups, symbol filter, symbols (9, then add), uninitialized, program sections (18, then 19)"; 2 at each; a type 4 never
-- reaches an add
abbrev element_numbers : List ℕ
element_numbers = early_causes ++ (9 ∷ (binding_causes ++ (21 ∷ (value_causes ++ (type_causes ++ (17 ∷ 18 ∷ relocation_causes))))))

abbrev pub merge_numbers : List ℕ
merge_numbers = merge_head_numbers ++ element_numbers

-- a library's symbols have no value or type that is judged
abbrev pub load_numbers : List ℕ
load_numbers = load_head_numbers ++ (9 ∷ (binding_causes ++ (21 ∷ 17 ∷ [])))

abbrev pub call_numbers : Call → List ℕ
-- "22 comes first, then 1", as for every call that changes the link
call_numbers (intern x) = 22 ∷ 1 ∷ 2 ∷ []
call_numbers (reads (Read.resolve id)) = 1 ∷ 23 ∷ []
call_numbers (add conversion u) = add_numbers
-- "A broken link gives 22 to any list, then fewer cells than adds give 2"; then each add's
call_numbers (add_list conversion adds ids) = 22 ∷ 2 ∷ 1 ∷ (binding_causes ++ (21 ∷ (value_causes ++ (15 ∷ (type_causes ++ (17 ∷ []))))))
call_numbers (remove id) = 22 ∷ 1 ∷ 21 ∷ []
call_numbers (reads (Read.get id)) = 1 ∷ 21 ∷ []
call_numbers (reads (Read.get_global name)) = 1 ∷ 23 ∷ 21 ∷ []
-- "A section without a symbol answers "none""
call_numbers (reads (Read.section_symbol section)) = []
call_numbers (add_group o work n) = add_group_numbers
call_numbers (merge o work ids) = merge_numbers
-- then as the merge of its rows
call_numbers (merge_file file cells work ids) = file_head_numbers ++ (1 ∷ element_numbers)
call_numbers (load o marks) = load_numbers
-- too many indexes, and their ends, before an empty one; then their contents; then the cells
call_numbers (reads (Read.archive_start key archives cells)) = 1 ∷ 20 ∷ 2 ∷ []
call_numbers (reads (Read.archive_next archives cells w)) = 1 ∷ 21 ∷ []
-- a call of our own
call_numbers (reads (Read.archive_shadowed index rows w cells)) = 1 ∷ 2 ∷ []
call_numbers (reads (Read.matches headers entries contents file index cells w e)) = 1 ∷ []
-- a call of our own
call_numbers (reads (Read.would_define headers entries contents file cells)) = 1 ∷ 2 ∷ []
call_numbers (collect marks entry work) = 22 ∷ 1 ∷ 2 ∷ 21 ∷ []
call_numbers (plain_collect marks entry work) = 22 ∷ 1 ∷ 30 ∷ 2 ∷ 21 ∷ []
