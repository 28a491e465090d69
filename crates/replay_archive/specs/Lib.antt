pub mod Index
pub mod Offer
pub mod OfferWays
pub mod Proof
