-- A worked example: two nodes, a message from one to the other.
use Rattle.std.proofs.Common.{◌≡◌, ◌<◌, refl, ap, arith, inl, inr, ℕ, true, false, [], ◌∷◌, ◌++◌}
use Rattle.std.specs.Prelude.{ℤ, pos, None}
use Rattle.std.specs.List.{flat_map, range_with_len}
use Rattle.arrayvec.specs.ArrayVec.{ArrayVec}
use Rattle.mate_num.specs.declared.call.End.TheVariants as end
use Rattle.vm_shape.specs.declared.description.Description.{Description}
use Rattle.vm_shape.specs.declared.handler.HandlerKind.TheVariants as kind
use Rattle.vm_shape.specs.declared.function.FunKind.TheVariants as fun
use Rattle.mate_journal.specs.Machine.{Meaning, HeldProgram}
use Rattle.mate_journal.specs.Pace.{no_pace}
use Rattle.mate_journal.specs.Described.{machine_of}
use Rattle.mate_journal.specs.Journal.{Posted, Started, Asked, Installed, Seen, Unposted, Ready}
use Rattle.mate_journal.specs.declared.air.Air.TheVariants as air
use Rattle.packet_codec.specs.declared.packet.Packet.TheVariants.{App}
use Rattle.rand_pcg.specs.Lcg.{state_after}
use Rattle.world_rules.specs.Cause.{Cause}
use Rattle.world_rules.specs.Cause as event
use Rattle.world_rules.specs.World.{World, Inject, Post}
use Rattle.world_rules.specs.State.{Moment, Scheduled, air_made, schedules, lines_from, first_of, state, world_start}
use Rattle.world_rules.specs.Run.{HaveCome}
use Rattle.mate_num.specs.Lists.{Among}
use Rattle.world_laws.proofs.OfTime.{among-un_of_time}
use Rattle.world_laws.proofs.Points.{none_is_empty}

abbrev description : Description
description = record {
  vm_id = 9;
  handlers = record { items = record { name = 103 ∷ 111 ∷ []; kind = kind.Plain; contexts = 1 } ∷ record { name = 114 ∷ 120 ∷ []; kind = kind.Receive; contexts = 1 } ∷ [] };
  functions = record { items = record { name = 115 ∷ []; kind = fun.Send; device = None; latency = 30 } ∷ [] };
  shared = record { items = (116 ∷ []) ∷ [] };
  buffers = record { items = (112 ∷ []) ∷ [] };
  devices = record { items = [] };
  turns = 100;
  quantum = 10;
  trickle = record { imin = 60000; doublings = 0; k = 1 };
  radio = record { delay = 5; gap = 50 };
  valid = refl;
}

-- what programs mean plays no part here, nor how far they come in a turn
abbrev meaning : Meaning
meaning = record { run = λ p s x a t. record { end = end.Halt; store = s; calls = [] }; uses = λ p. record { reads = λ r. false; writes = λ r. false }; mark = λ p s x a t. 1; after = λ n p s x a t. s }

abbrev go : HeldProgram
go = record { handler = record { 0 = 0 }; version = 1; image = record { items = 1 ∷ [] } }

abbrev rx : HeldProgram
rx = record { handler = record { 0 = 1 }; version = 1; image = record { items = 2 ∷ [] } }

abbrev world : World
world = record {
  description = description;
  machine = machine_of description meaning;
  nodes = 2;
  random = 5;
  until = 5000;
  suppress = true;
  links = record { from = 0; to = 1; loss = 0 } ∷ record { from = 1; to = 0; loss = 0 } ∷ [];
  series = λ n f. [];
  plan = record { time = 1000; node = 0; what = Inject go } ∷ record { time = 1000; node = 1; what = Inject rx } ∷ record { time = 2000; node = 0; what = Post (record { 0 = 0 }) (record { items = [] }) } ∷ [];
}

abbrev eight : ArrayVec ℤ
eight = record { items = pos 8 ∷ [] }

abbrev injects : Moment
injects = record { time = 1000; cause = event.Planned 0; told = Seen (record { shared = record { items = pos 0 ∷ [] }; buffers = record { items = record { items = [] } ∷ [] } }) ∷ Installed go ∷ []; pace = no_pace }

abbrev injects_other : Moment
injects_other = record injects { cause = event.Planned 1; told = Seen (record { shared = record { items = pos 0 ∷ [] }; buffers = record { items = record { items = [] } ∷ [] } }) ∷ Installed rx ∷ []; pace = no_pace }

abbrev posts : Moment
posts = record { time = 2000; cause = event.Planned 2; told = Posted 1 (record { 0 = 0 }) (record { 0 = 0 }) (record { items = [] }) ∷ Started 1 ∷ Asked 1 (record { 0 = 0 }) eight ∷ []; pace = record { line = []; counts = λ n. 1 } }

-- at 1,000 ms two lines are due, in their order
due_lines : (world_start world).due 1000 ≡ event.Planned 0 ∷ event.Planned 1 ∷ []
due_lines = refl

-- the post's event sends one message, whose bytes are known
sent : air_made world (state world (injects_other ∷ injects ∷ [])) posts ≡ air.Sent 1 (record { items = 4 ∷ 0 ∷ 0 ∷ 0 ∷ 9 ∷ 1 ∷ 0 ∷ 8 ∷ [] }) ∷ []
unfolding state_after
sent = refl

-- it arrives 5 ms later, and the answer is due 30 ms later
scheduled : schedules world (state world (injects_other ∷ injects ∷ [])) posts
    ≡ record { time = 2005; cause = event.Deliver 0 1 (App eight) } ∷ record { time = 2030; cause = event.Due 0 (record { 0 = 0 }) 1 (pos 1) } ∷ []
unfolding state_after
scheduled = refl

-- ---- the first event may come: the rules are met

first_due : (t : ℕ) → t < 1000 → (world_start world).due t ≡ []
unfolding state_after
first_due t low = none_is_empty ((world_start world).due t) (λ c a. late c (among-un_of_time t c (lines_from 0 world.plan ++ flat_map (first_of world) (range_with_len 0 world.nodes)) a)) where
  late : (c : Cause) → Among (record { time = t; cause = c }) (lines_from 0 world.plan ++ flat_map (first_of world) (range_with_len 0 world.nodes)) → ⊥
  late c (inl e) = let same : 1000 ≡ t = ap (λ (x : Scheduled). x.time) e in omega (arith, same, low)
  late c (inr (inl e)) = let same : 1000 ≡ t = ap (λ (x : Scheduled). x.time) e in omega (arith, same, low)
  late c (inr (inr (inl e))) = let same : 2000 ≡ t = ap (λ (x : Scheduled). x.time) e in omega (arith, same, low)
  late c (inr (inr (inr (inl e)))) = let same = ap (λ (x : Scheduled). x.time) e in omega (arith, same, low)
  late c (inr (inr (inr (inr (inl e))))) = let same = ap (λ (x : Scheduled). x.time) e in omega (arith, same, low)
  late c (inr (inr (inr (inr (inr (inl e)))))) = let same = ap (λ (x : Scheduled). x.time) e in omega (arith, same, low)
  late c (inr (inr (inr (inr (inr (inr (inl e))))))) = let same = ap (λ (x : Scheduled). x.time) e in omega (arith, same, low)
  late c (inr (inr (inr (inr (inr (inr (inr a))))))) = a

first_comes : HaveCome world (injects ∷ [])
first_comes = (
  tt,
  record {
    room = omega arith;
    next = record { others = event.Planned 1 ∷ []; due = refl; none_before = first_due };
    in_time = omega arith;
    makes = record {
      front = injects.told;
      rest = [];
      made = refl;
      by_first = record { seen = _; rest = []; shown = record { ready = λ at n writes is. (let clash : Unposted ≡ Ready = is in cc) }; newer = omega arith; made = refl; follows = refl };
      by_second = record { turns = []; are_turns = tt; made = refl; then = refl; empty = refl; settled = λ n e. (let clash : Unposted ≡ Ready = e in cc) };
    };
  },
)
