pub mod ImageLemmas
pub mod HexTextLemmas
pub mod PieceLemmas
mod FaultLemmas
