-- A world: the machine of its nodes, the links between them, and the lines that are planned.
use Rattle.std.specs.Prelude.{ℕ, Bool, true, false, ◌&&◌, ◌==◌, if◌then◌else◌, map, List, [], ◌∷◌, length, ℤ, Option, Some, None, slice_get}
use Rattle.std.specs.List.{filter, filter_map, range_with_len}
use Rattle.std.specs.Option.{option_map_or}
use Rattle.arrayvec.specs.ArrayVec.{ArrayVec}
use Rattle.rand_pcg.specs.Lcg.{started, increment_of, advance}
use Rattle.rand_pcg.specs.Pcg.{multiplier_64, pcg32}
use Rattle.mate_num.specs.declared.id.HandlerId.{HandlerId}
use Rattle.mate_num.specs.declared.id.FunId.{FunId}
use Rattle.vm_shape.specs.declared.description.Description.{Description}
use Rattle.vm_shape.specs.declared.handler.Handler.{Handler}
use Rattle.vm_shape.specs.declared.handler.HandlerKind.{HandlerKind}
use Rattle.vm_shape.specs.declared.handler.HandlerKind.TheVariants as kind
use Rattle.vm_shape.specs.declared.function.Function.{Function}
use Rattle.vm_shape.specs.declared.function.FunKind.{FunKind}
use Rattle.vm_shape.specs.declared.function.FunKind.TheVariants as fun
use Rattle.mate_journal.specs.Machine.{Machine, Meaning, HeldProgram}
use Rattle.mate_journal.specs.Described.{machine_of}
use Rattle.script_steps.specs.declared.world.World.{World as Script}
use Rattle.script_steps.specs.declared.world.Link.{Link}
use Rattle.script_steps.specs.declared.world.Series.{Series}
use Rattle.script_steps.specs.declared.world.Planned.{Planned}
use Rattle.script_steps.specs.declared.world.What.{What}
use Rattle.script_steps.specs.declared.world.What.TheVariants as what

-- what a line of the script wants of its node
pub data Want : Type 0 where
  Inject : (program : HeldProgram) → Want
  Post : (handler : HandlerId) (payload : ArrayVec ℤ) → Want
  Show ResetNode : Want
  Noise : (bytes : ArrayVec ℕ) → Want

pub record PlannedLine : Type 0 where
  pub time : ℕ
  pub node : ℕ
  pub what : Want

-- The description with its machine, how many nodes there are, what the random streams start from, the last time, whether
-- suppression is on, the links, the answers of each node's sensors, and the script's lines
pub record World : Type 0 where
  pub description : Description
  pub machine : Machine
  pub nodes : ℕ
  pub random : ℕ
  pub until : ℕ
  pub suppress : Bool
  pub links : List Link
  pub series : ℕ → ℕ → List ℤ
  pub plan : List PlannedLine

-- how many handlers there are
abbrev pub handlers : World → ℕ
handlers w = length w.description.handlers.items

-- word number n, from 0, of the stream s
abbrev pub stream_word : World → ℕ → ℕ → ℕ
stream_word w s n = (pcg32 (advance 64 multiplier_64 n (started 64 multiplier_64 w.random (increment_of 64 s)))).0

-- the node that a link leads to, and the one that it leaves
abbrev pub receiver : World → ℕ → ℕ
receiver w j = option_map_or (λ (l : Link). l.to) (slice_get w.links j) 0

abbrev pub leaves : World → ℕ → ℕ → Bool
leaves w node j = option_map_or (λ (l : Link). l.from) (slice_get w.links j) 0 == node

abbrev pub loss : World → ℕ → ℕ
loss w j = option_map_or (λ (l : Link). l.loss) (slice_get w.links j) 0

-- the links that leave the node, by their places
abbrev pub links_from : World → ℕ → List ℕ
links_from w node = filter (leaves w node) (range_with_len 0 (length w.links))

-- the handlers that messages go to
abbrev pub is_receiver : Option Handler → Bool
is_receiver None = false
is_receiver (Some h) = is_receive h.kind where
  is_receive : HandlerKind → Bool
  is_receive kind.Plain = false
  is_receive (kind.Timer period) = false
  is_receive kind.Receive = true
  is_receive kind.Once = false

abbrev pub handler_id : ℕ → HandlerId
handler_id h = record { 0 = h }

abbrev pub receivers : World → List HandlerId
receivers w = filter_map (λ h. if_so (is_receiver (slice_get w.description.handlers.items h)) (handler_id h))
    (range_with_len 0 (handlers w)) where
      if_so : Bool → HandlerId → Option HandlerId
      if_so true h = Some h
      if_so false h = None

-- the period of a timer handler
abbrev pub period_in : HandlerKind → Option ℕ
period_in (kind.Timer period) = Some period
period_in _ = None

abbrev pub period_of : World → ℕ → Option ℕ
period_of w h = option_map_or (λ (x : Handler). period_in x.kind) (slice_get w.description.handlers.items h) None

-- a function's kind, and the time from a call of it to its answer
abbrev pub called_kind : World → FunId → FunKind
called_kind w f = option_map_or (λ (x : Function). x.kind) (slice_get w.description.functions.items f.0) fun.Id

abbrev pub latency_of : World → FunId → ℕ
latency_of w f = option_map_or (λ (x : Function). x.latency) (slice_get w.description.functions.items f.0) 1

-- ---- the world of a script

-- `programs` gives the program of each file, by its position among those that the script names
abbrev pub want_of : (ℕ → HeldProgram) → What → Want
want_of programs (what.Inject program handler version) = Inject (programs program)
want_of programs (what.Post handler payload) = Post handler payload
want_of programs what.Show = Show
want_of programs what.Reset = ResetNode
want_of programs (what.Noise bytes) = Noise bytes

abbrev pub line_planned : (ℕ → HeldProgram) → Planned → PlannedLine
line_planned programs p = record { time = p.time; node = p.node; what = want_of programs p.what }

-- the values of a node's sensor, none if the script has no series of it
abbrev pub series_in : List Series → ℕ → ℕ → List ℤ
series_in [] node fun = []
series_in (s ∷ series) node fun = if (s.node == node) && (s.fun.0 == fun) then s.values else series_in series node fun

-- the world of a script with its programs, for a description, with what programs mean
abbrev pub world_of : Description → Meaning → Script → (ℕ → HeldProgram) → World
world_of d meaning script programs = record {
  description = d;
  machine = machine_of d meaning;
  nodes = script.nodes;
  random = script.random;
  until = script.until;
  suppress = script.suppress;
  links = script.links;
  series = series_in script.series;
  plan = map (line_planned programs) script.events;
}
