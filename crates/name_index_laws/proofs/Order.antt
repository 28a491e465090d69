-- Byte order is a total order, in which equal names are the same.
-- Assumes nothing.
pub use Rattle.name_index.specs.Proof.Order.{cases, order, itself, equal, turned, less-less, not-after, not-before}
