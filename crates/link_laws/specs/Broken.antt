-- Which calls are changing ones, which give 22 on a broken link: all but those that only read.
-- Assumes nothing.
use Rattle.std.specs.Prelude.{Bool, true, false}
use Rattle.link_laws.specs.Calls.{Call, intern, add, remove, add_group, merge, merge_file, load, collect, plain_collect, reads, add_list}

-- the calls that may change a link
abbrev pub changes : Call → Bool
changes (intern x) = true
changes (reads k) = false
changes (add conversion u) = true
changes (add_list conversion adds ids) = true
changes (remove id) = true
changes (add_group o work n) = true
changes (merge o work ids) = true
changes (merge_file file cells work ids) = true
changes (load o marks) = true
changes (collect marks entry work) = true
changes (plain_collect marks entry work) = true
