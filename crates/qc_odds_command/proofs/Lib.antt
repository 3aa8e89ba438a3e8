pub mod OddsLemmas
pub mod ForecastLemmas
pub mod PromiseLemmas
