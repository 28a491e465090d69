-- The worked examples, each list of them by one theorem: the rows of specs/ are what the calls' definitions give, by computation.
-- Assumes nothing.
use Rattle.std.specs.Prelude.{◌≡◌, [], ◌∷◌}
use Rattle.add_list.specs.AddList.{items_of}
use Rattle.worked_examples.specs.Examples.{All, Right, cases}
use Rattle.worked_examples.specs.Lists as Lists
use Rattle.worked_examples.proofs.Examples as Computed
use Rattle.worked_examples.proofs.Lists as ListsComputed

-- document 01, "Marked for proof": P1 to P12, the add sheet and the example of "Bounds"; with the rows of later requests
pub promises : All Right cases
promises = Computed.promises

-- 2026-05, lists of adds, in both profiles
pub lists : Lists.All Lists.Right Lists.cases
lists = ListsComputed.lists

-- 2026-05: what each cell of a list's row is, an object's symbol row but its name's id, and its file's name id and 1
pub listed : items_of Lists.one_row ≡ Lists.one_item ∷ []
listed = ListsComputed.listed
