pub mod ItemLemmas
pub mod PacketLemmas
