-- The world of a number.
use Rattle.std.specs.Prelude.{ℕ, zero, suc, ◌+◌, ◌-◌, ◌*◌, ◌%◌, ◌≤◌, nat_lt, nat_le, pos, true, if◌then◌else◌, List, [], ◌∷◌, ◌++◌, length, map}
use Rattle.std.specs.Prelude.{replicate}
use Rattle.std.specs.List.{range_with_len, AllPairs}
use Rattle.vm_shape.specs.declared.description.Description.{Description}
use Rattle.script_reader.specs.Source.{source_of}
use Rattle.script_steps.specs.declared.world.World.{World}
use Rattle.script_steps.specs.declared.world.Link.{Link}
use Rattle.script_steps.specs.declared.world.Planned.{Planned}
use Rattle.script_steps.specs.declared.world.What.{What}
use Rattle.script_steps.specs.declared.world.What.TheVariants as what

-- ---- links: a ring

abbrev pub both_ways : ℕ → ℕ → ℕ → List Link
both_ways a b loss = record { from = a; to = b; loss = loss } ∷ record { from = b; to = a; loss = loss } ∷ []

-- each node is joined to the next one, up to node n
abbrev pub chain : ℕ → List Link
chain zero = []
chain (suc n) = chain n ++ both_ways n (suc n) 50

-- and the first node to the last one
abbrev pub ring : ℕ → List Link
ring nodes = chain (nodes - 1) ++ both_ways 0 (nodes - 1) 200

-- ---- events

abbrev pub planned_line : ℕ → ℕ → What → Planned
planned_line time node what = record { time = time; node = node; what = what }

abbrev pub injected : ℕ → ℕ → ℕ → ℕ → ℕ → Planned
injected time node program handler version = planned_line time node (what.Inject program (record { 0 = handler }) version)

-- version 1 of a handler; and version 2, whose programs come after those of all versions 1
abbrev pub first_injection : ℕ → ℕ → Planned
first_injection nodes h = injected (1000 * (h + 1)) (7 * h % nodes) h h 1

abbrev pub second_injection : ℕ → ℕ → ℕ → Planned
second_injection handlers nodes h = injected (300000 + 1000 * h) ((11 * h + 3) % nodes) (handlers + h) h 2

-- post number j
abbrev pub posting : ℕ → ℕ → ℕ → ℕ → Planned
posting number handlers nodes j =
    planned_line (2000 * j) ((number % nodes + 13 * j) % nodes)
    (what.Post (record { 0 = j % handlers }) (record { items = pos (j % 100) ∷ [] }))

-- all injections by handler, and then `posts` posts by number
abbrev pub unsorted : ℕ → ℕ → ℕ → ℕ → List Planned
unsorted number handlers nodes posts =
    map (first_injection nodes) (range_with_len 0 handlers)
    ++ (map (second_injection handlers nodes) (range_with_len 0 handlers) ++ map (posting number handlers nodes) (range_with_len 1 posts))

-- an event before the first one that isn't earlier
abbrev pub put : Planned → List Planned → List Planned
put e [] = e ∷ []
put e (x ∷ events) = if nat_lt x.time e.time then x ∷ put e events else e ∷ x ∷ events

-- an event before the first later one
abbrev pub put_behind : Planned → List Planned → List Planned
put_behind e [] = e ∷ []
put_behind e (x ∷ events) = if nat_le x.time e.time then x ∷ put_behind e events else e ∷ x ∷ events

-- the events by time, where those of one time keep their order; after them come others
abbrev pub sorted_onto : List Planned → List Planned → List Planned
sorted_onto [] events = events
sorted_onto (e ∷ more) events = put e (sorted_onto more events)

-- the events are in order of time
abbrev pub AreInTime : List Planned → Type 0
AreInTime events = AllPairs (λ a b. a.time ≤ b.time) events

-- ---- the world

unfoldable pub node_count : ℕ → ℕ
node_count number = 8 + number % 57

unfoldable pub plan_of : ℕ → ℕ → ℕ → ℕ → List Planned
plan_of number handlers nodes posts = sorted_onto (unsorted number handlers nodes posts) []

-- the files of a made world have no names
abbrev pub made_world : Description → ℕ → World
made_world d number = record {
  nodes = node_count number;
  random = number;
  until = 600000;
  suppress = true;
  links = ring (node_count number);
  series = [];
  events = plan_of number (length d.handlers.items) (node_count number) 200;
  files = replicate (2 * length d.handlers.items) [];
}

-- the source of each file
abbrev pub made_sources : Description → List (List ℕ)
made_sources d = replicate (length d.handlers.items) (source_of d 1) ++ replicate (length d.handlers.items) (source_of d 2)
