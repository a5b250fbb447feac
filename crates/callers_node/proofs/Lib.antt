mod NodeLemmas
mod EraLemmas
mod TurnLemmas
mod AnsweredLemmas
mod RunLemmas
