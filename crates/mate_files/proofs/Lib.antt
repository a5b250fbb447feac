pub mod SinkLemmas
pub mod PenLemmas
mod HexPieces
mod WriteTurns
