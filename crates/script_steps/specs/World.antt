-- The plan of a world of nodes, and which plans are right for a machine.
use Rattle.std.specs.Prelude.{◌≡◌, ℕ, zero, suc, ◌<◌, ◌≤◌, ℤ, List, [], ◌∷◌, ◌++◌, length, All, IsTrue, slice_get}
use Rattle.std.specs.List.{AllPairs}
use Rattle.std.specs.Option.{IsSomeAnd}
use Rattle.mate_num.specs.declared.bounds.TheConstants.{HOUR, NODES_MAX, PACKET_MAX}
use Rattle.mate_num.specs.declared.id.HandlerId.{HandlerId}
use Rattle.vm_shape.specs.declared.description.Description.{Description}
use Rattle.vm_shape.specs.declared.function.Function.{Function}
use Rattle.vm_shape.specs.declared.function.FunKind.TheVariants.{Sense}
use Rattle.packet_codec.specs.Reading.{is_noise}
use Rattle.script_steps.specs.declared.world.World.{World}
use Rattle.script_steps.specs.declared.world.Link.{Link}
use Rattle.script_steps.specs.declared.world.Series.{Series}
use Rattle.script_steps.specs.declared.world.Planned.{Planned}
use Rattle.script_steps.specs.declared.world.What.{What}
use Rattle.script_steps.specs.declared.world.What.TheVariants as what
use Rattle.script_steps.specs.Steps.{IsRightInstall, IsRightPost}

-- more values after those of the series at a place
abbrev pub with_values : ℕ → List ℤ → List Series → List Series
with_values place values [] = []
with_values zero values (s ∷ series) = record s { values = s.values ++ values } ∷ series
with_values (suc place) values (s ∷ series) = s ∷ with_values place values series

-- between two of this number of nodes
pub record IsRightLink (nodes : ℕ) (l : Link) : Type 0 where
  pub from_high : l.from < nodes
  pub to_high : l.to < nodes
  pub apart : l.from ≡ l.to → ⊥
  pub loss_high : l.loss ≤ 1000

abbrev pub AreOtherLinks : Link → Link → Type 0
AreOtherLinks l k = l.from ≡ k.from → l.to ≡ k.to → ⊥

-- some values, which a sensor of one of this number of nodes gives
pub record IsRightSeries (d : Description) (nodes : ℕ) (s : Series) : Type 0 where
  pub node_high : s.node < nodes
  pub senses : IsSomeAnd (slice_get d.functions.items s.fun.0) (λ (f : Function). f.kind ≡ Sense)
  pub some : 1 ≤ length s.values

abbrev pub AreOtherSeries : Series → Series → Type 0
AreOtherSeries s r = s.node ≡ r.node → s.fun ≡ r.fun → ⊥

-- bytes that a node may hear, and that are no packet
pub record IsRightNoise (d : Description) (bytes : List ℕ) : Type 0 where
  pub some : 1 ≤ length bytes
  pub few : length bytes ≤ PACKET_MAX
  pub noise : IsTrue (is_noise d bytes)

-- the numbers are the machine's, and the file is one of this number
abbrev pub IsRightWhat : Description → ℕ → What → Type 0
IsRightWhat d files (what.Inject program handler version) = IsRightInstall d files handler.0 version program
IsRightWhat d files (what.Post handler payload) = IsRightPost d handler.0 payload.items
IsRightWhat d files what.Show = Unit {0}
IsRightWhat d files what.Reset = Unit {0}
IsRightWhat d files (what.Noise bytes) = IsRightNoise d bytes.items

pub record IsRightPlanned (d : Description) (nodes until files : ℕ) (p : Planned) : Type 0 where
  pub time_high : p.time ≤ until
  pub node_high : p.node < nodes
  pub what : IsRightWhat d files p.what

-- what holds of the handler and the version of an injection
abbrev pub IfInjects : What → (HandlerId → ℕ → Type 0) → Type 0
IfInjects (what.Inject program handler version) P = P handler version
IfInjects _ P = Unit {0}

-- the later one isn't earlier in time, and of two injections for one handler it has the greater version
pub record Follow (p later : Planned) : Type 0 where
  pub time : p.time ≤ later.time
  pub rising : IfInjects p.what (λ handler version. IfInjects later.what (λ other newer. handler ≡ other → version < newer))

-- the links join the nodes, each direction once; each sensor of a node has one series; the events are in order
pub record IsRightWorld (d : Description) (w : World) : Type 0 where
  pub nodes_low : 1 ≤ w.nodes
  pub nodes_high : w.nodes ≤ NODES_MAX
  pub until_low : 1 ≤ w.until
  pub until_high : w.until ≤ HOUR
  pub links : All (IsRightLink w.nodes) w.links
  pub one_link : AllPairs AreOtherLinks w.links
  pub series : All (IsRightSeries d w.nodes) w.series
  pub one_series : AllPairs AreOtherSeries w.series
  pub events : All (IsRightPlanned d w.nodes w.until (length w.files)) w.events
  pub in_order : AllPairs Follow w.events
  pub few : length w.events < 4000000000
