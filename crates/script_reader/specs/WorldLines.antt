-- What a line of a world script says, by the world so far.
use Rattle.std.specs.Prelude.{ℕ, ◌^◌, ◌-◌, ◌==◌, Bool, true, false, not, ◌&&◌, if◌then◌else◌, List, length, codes, slice_index, Option}
use Rattle.std.specs.Prelude.{Some, None, Result, Ok, Err}
use Rattle.std.specs.List.{list_any}
use Rattle.std.specs.Str.{bytes_eq}
use Rattle.mate_num.specs.declared.bounds.TheConstants.{HOUR, NODES_MAX}
use Rattle.vm_shape.specs.declared.description.Description.{Description}
use Rattle.script_steps.specs.declared.fault.Cause.{Cause}
use Rattle.script_steps.specs.declared.fault.Cause.TheVariants.{Word, Range}
use Rattle.script_steps.specs.declared.world.World.{World}
use Rattle.script_steps.specs.declared.world.Link.{Link}
use Rattle.script_steps.specs.declared.world.Series.{Series}
use Rattle.script_steps.specs.declared.world.Planned.{Planned}
use Rattle.script_steps.specs.declared.world.What.{What}
use Rattle.script_steps.specs.declared.world.What.TheVariants as what
use Rattle.script_steps.specs.Words.{WordReading, ◌>>=◌, give, found, a_word, nothing_more, a_number, a_payload, a_handler, a_version}
use Rattle.script_reader.specs.declared.stage.Stage.{Stage}
use Rattle.script_reader.specs.declared.stage.Stage.TheVariants as stage
use Rattle.script_reader.specs.WorldWords.{a_node, a_time, a_sensor, some_values, some_noise}

-- what a line says; a link may be one of both directions, and an event may name a file
pub data WorldSaid : Type 0 where
  SaysNodes : (nodes : ℕ) → WorldSaid
  SaysRandom : (random : ℕ) → WorldSaid
  SaysUntil : (until : ℕ) → WorldSaid
  SaysSuppress : (on : Bool) → WorldSaid
  SaysLink : (link : Link) (both : Bool) → WorldSaid
  SaysSeries : (series : Series) → WorldSaid
  SaysPlanned : (planned : Planned) (file : Option (List ℕ)) → WorldSaid

-- which line comes next, the world so far, the last planned time, and the newest version of each handler, 0 for none
pub record WorldProgress : Type 0 where
  pub stage : Stage
  pub world : World
  pub time : ℕ
  pub newest : List ℕ

-- ---- settings

abbrev pub switch_of : List ℕ → Result Bool Cause
switch_of w =
    if bytes_eq w (codes "on") then Ok true
    else if bytes_eq w (codes "off") then Ok false
    else Err Word

-- after `suppress`
unfoldable pub a_switch : WordReading Bool
a_switch = a_word >>= (λ w. found (switch_of w))

abbrev pub is_linked : ℕ → ℕ → List Link → Bool
is_linked from to links = list_any (λ l. (l.from == from) && (l.to == to)) links

-- another node, to which no link leads yet, nor from it if both directions are meant
abbrev pub is_free : List Link → Bool → ℕ → ℕ → Bool
is_free links both from to = not (from == to) && (not (is_linked from to links) && not (both && is_linked to from links))

unfoldable pub a_far_end : World → Bool → ℕ → WordReading ℕ
a_far_end w both from = do
  to ← a_node w.nodes
  found (if is_free w.links both from to then Ok to else Err Range)

-- `link A B LOSS`, `both A B LOSS`
unfoldable pub a_link : World → Bool → WordReading WorldSaid
a_link w both = do
  from ← a_node w.nodes
  to ← a_far_end w both from
  loss ← a_number 0 1000 Range
  give (SaysLink (record { from = from; to = to; loss = loss }) both)

-- `series NODE FUN V ..`
unfoldable pub a_series : Description → World → WordReading WorldSaid
a_series d w = do
  node ← a_node w.nodes
  fun ← a_sensor d
  values ← some_values
  give (SaysSeries (record { node = node; fun = fun; values = values }))

-- ---- events

abbrev pub planned : ℕ → ℕ → What → Planned
planned time node what = record { time = time; node = node; what = what }

-- `inject NODE HANDLER VERSION FILE`
unfoldable pub an_injection : Description → WorldProgress → ℕ → WordReading WorldSaid
an_injection d p time = do
  node ← a_node p.world.nodes
  handler ← a_handler d
  version ← a_version (slice_index p.newest handler.0)
  file ← a_word
  give (SaysPlanned (planned time node (what.Inject (length p.world.files) handler version)) (Some file))

-- `post NODE HANDLER V ..`
unfoldable pub a_posting : Description → World → ℕ → WordReading WorldSaid
a_posting d w time = do
  node ← a_node w.nodes
  handler ← a_handler d
  payload ← a_payload
  give (SaysPlanned (planned time node (what.Post handler payload)) None)

-- `noise NODE HEX`
unfoldable pub a_noise : Description → World → ℕ → WordReading WorldSaid
a_noise d w time = do
  node ← a_node w.nodes
  bytes ← some_noise d
  give (SaysPlanned (planned time node (what.Noise bytes)) None)

-- `show NODE`, `reset NODE`
unfoldable pub at_node : World → ℕ → What → WordReading WorldSaid
at_node w time what = do
  node ← a_node w.nodes
  give (SaysPlanned (planned time node what) None)

unfoldable pub behind_time : Description → WorldProgress → ℕ → List ℕ → WordReading WorldSaid
behind_time d p time verb =
    if bytes_eq verb (codes "inject") then an_injection d p time
    else if bytes_eq verb (codes "post") then a_posting d p.world time
    else if bytes_eq verb (codes "show") then at_node p.world time what.Show
    else if bytes_eq verb (codes "reset") then at_node p.world time what.Reset
    else if bytes_eq verb (codes "noise") then a_noise d p.world time
    else found (Err Word)

-- after the word `at`
unfoldable pub an_event : Description → WorldProgress → WordReading WorldSaid
an_event d p = do
  time ← a_time p.world.until p.time
  verb ← a_word
  behind_time d p time verb

-- ---- a whole line

-- if the first word is the one that has to come
abbrev pub by_its_verb : {A : Type 0} → List ℕ → List ℕ → WordReading A → WordReading A
by_its_verb verb wanted reading = if bytes_eq verb wanted then reading else found (Err Word)

-- `nodes N`, `random S` and `until MS`
unfoldable pub some_nodes : List ℕ → WordReading ℕ
some_nodes verb = by_its_verb verb (codes "nodes") (a_number 1 NODES_MAX Range)

unfoldable pub a_random : List ℕ → WordReading ℕ
a_random verb = by_its_verb verb (codes "random") (a_number 0 (2 ^ 64 - 1) Range)

unfoldable pub an_until : List ℕ → WordReading ℕ
an_until verb = by_its_verb verb (codes "until") (a_number 1 HOUR Range)

unfoldable pub a_setting : Description → WorldProgress → List ℕ → WordReading WorldSaid
a_setting d p verb =
    if bytes_eq verb (codes "suppress") then (a_switch >>= (λ on. give (SaysSuppress on)))
    else if bytes_eq verb (codes "link") then a_link p.world false
    else if bytes_eq verb (codes "both") then a_link p.world true
    else if bytes_eq verb (codes "series") then a_series d p.world
    else by_its_verb verb (codes "at") (an_event d p)

-- what is after a line's first word
abbrev pub behind_verb : Description → WorldProgress → Stage → List ℕ → WordReading WorldSaid
behind_verb d p stage.Nodes verb = some_nodes verb >>= (λ nodes. give (SaysNodes nodes))
behind_verb d p stage.Random verb = a_random verb >>= (λ random. give (SaysRandom random))
behind_verb d p stage.Until verb = an_until verb >>= (λ until. give (SaysUntil until))
behind_verb d p stage.Settings verb = a_setting d p verb
behind_verb d p stage.Events verb = by_its_verb verb (codes "at") (an_event d p)

unfoldable pub a_world_line : Description → WorldProgress → WordReading WorldSaid
a_world_line d p = do
  verb ← a_word
  said ← behind_verb d p p.stage verb
  ends ← nothing_more
  give said
