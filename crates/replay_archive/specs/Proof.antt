pub mod Ways
pub mod OfferWays
