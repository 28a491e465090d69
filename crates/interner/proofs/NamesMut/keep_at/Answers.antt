use Rattle.std.proofs.Common.{rules}
use Rattle.interner.specs.Proof.Ways.{room-names, room_next, room-sum}
use Rattle.interner.proofs.NamesMut.keep_at.Goals as goal

pub link_row-requires : goal.link_row-requires
link_row-requires c =
    let room = simp (c.read.ensures.link, c.read.ensures.bytes, c.read.ensures.cells) at c.has_room.ensures in search (rules, room-names)

pub overflow_add-self : goal.overflow_add-self
overflow_add-self c =
    let room = simp (c.read.ensures.link, c.read.ensures.bytes, c.read.ensures.cells) at c.has_room.ensures in search (rules, room_next)

pub overflow_add-self-then-has_room : goal.overflow_add-self-then-has_room
overflow_add-self-then-has_room c =
    let room = simp (c.read.ensures.link, c.read.ensures.bytes, c.read.ensures.cells) at c.has_room.ensures in search (rules, room-sum)
