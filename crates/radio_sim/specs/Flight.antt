-- The deliveries of a transmission.
use Rattle.std.specs.Prelude.{List, [], ◌∷◌}
use Rattle.radio_sim.specs.declared.waiting.Delivery.{Delivery}

-- the delivery that comes first, and those behind it
pub record FirstAndRest : Type 0 where
  pub first : Delivery
  pub rest : List Delivery

-- (there is one at least; for none, any would do)
abbrev pub first_and_rest : List Delivery → FirstAndRest
first_and_rest [] = record { first = record { link = 0; number = 0; bytes = record { items = [] } }; rest = [] }
first_and_rest (d ∷ ds) = record { first = d; rest = ds }
