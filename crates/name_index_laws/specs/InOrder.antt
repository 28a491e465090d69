-- Names in byte order at places, and what a search among places tells: the words of the statements.
-- Assumes nothing.
pub use Rattle.name_index.specs.InOrder.{name_in, InOrder, Right}
