-- The waiters of a node are in the order of their invocations' numbers.
use Rattle.std.specs.Prelude.{ℕ, ◌<◌, List, [], ◌∷◌, Option, None, Some, Contains}
use Rattle.mate_num.specs.declared.id.ContextId.{ContextId}
use Rattle.lock_manager.specs.declared.claim.Claim.{Claim}
use Rattle.node_state.specs.declared.seat.Seat.{Seat}
use Rattle.node_state.specs.declared.contexts.Contexts.{Contexts}
use Rattle.node_state.specs.At.{at}

abbrev pub number_at : Option Seat → ℕ
number_at None = 0
number_at (Some s) = s.inv

-- the number of the invocation in the context, 0 for none
abbrev pub invocation_in : Contexts → ContextId → ℕ
invocation_in s c = number_at (at s c).seat

-- the number rises from each claim to each that is after it
abbrev pub NumbersRise : (ContextId → ℕ) → List Claim → Type 0
NumbersRise number [] = Unit {0}
NumbersRise number (c ∷ cs) = ((a : Claim) → Contains cs a → number c.ctx < number a.ctx) × NumbersRise number cs

pub record IsQueue (s : Contexts) : Type 0 where
  pub rises : NumbersRise (invocation_in s) s.locks.waiting
