pub mod Ways
pub mod LinesWays
pub mod DigitsWays
pub mod WritingWays
