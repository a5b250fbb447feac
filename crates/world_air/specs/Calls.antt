-- How a node's counts and random words agree with the functions that it called.
use Rattle.std.specs.Prelude.{◌≡◌, ℕ, ◌+◌, ◌*◌, ◌-◌, ◌/◌, ◌%◌, ◌^◌, ◌<◌, ◌==◌, min, List, length, slice_index, count_by, ℤ, pos}
use Rattle.mate_num.specs.declared.id.FunId.{FunId}
use Rattle.rand_pcg.specs.Lcg.{Lcg, started, increment_of, advance}
use Rattle.rand_pcg.specs.Pcg.{multiplier_64, pcg32}
use Rattle.script_steps.specs.declared.world.Series.{Series}
use Rattle.vm_shape.specs.declared.description.Description.{Description}
use Rattle.vm_shape.specs.declared.function.FunKind.{FunKind}
use Rattle.vm_shape.specs.declared.function.FunKind.TheVariants as kind
use Rattle.world_rules.specs.World.{World, called_kind, latency_of, series_in}
use Rattle.world_rules.specs.State.{is_rand_kind, answer_at, series_value}
use Rattle.world_air.specs.declared.calls.Calls.{Calls}
use Rattle.world_air.specs.declared.calls.CallAnswer.{CallAnswer}

-- how often the function is among the calls, as far as 64 bits count
abbrev pub times_called : List FunId → ℕ → ℕ
times_called called f = min (count_by (λ g. g.0 == f) called) (2 ^ 64 - 1)

-- how many calls took a random word
abbrev pub words_taken : World → List FunId → ℕ
words_taken w called = count_by (λ g. is_rand_kind (called_kind w g)) called

-- a count for each function, and the words that are left of the node's stream
pub record AreCallsOf (w : World) (node : ℕ) (called : List FunId) (c : Calls) : Type 0 where
  pub functions : length c.counts.items ≡ length w.description.functions.items
  pub counts : (f : ℕ) → f < length c.counts.items → slice_index c.counts.items f ≡ times_called called f
  pub words : c.words ≡ advance 64 multiplier_64 (words_taken w called) (started 64 multiplier_64 w.random (increment_of 64 (2 * node + 1)))

-- the world is of this machine, and its sensors answer by these series
pub record HasSensors (w : World) (d : Description) (values : List Series) : Type 0 where
  pub description : w.description ≡ d
  pub series : w.series ≡ series_in values

-- the answer to a call, if these were called before
abbrev pub call_answer : World → ℕ → List FunId → FunId → ℕ → CallAnswer
call_answer w node called f now = record { time = now + latency_of w f; value = answer_at w node called f (now + latency_of w f) }

-- ---- by the function's kind

-- the value of an answer, for what the sensor gives, how often the function was called before, the node, the next random word and the time
abbrev pub value_by : List ℤ → ℕ → ℕ → ℕ → ℕ → FunKind → ℤ
value_by values n node word time kind.Sense = series_value values n
value_by values n node word time (kind.Act args) = pos 0
value_by values n node word time kind.Send = pos 1
value_by values n node word time kind.Id = pos node
value_by values n node word time kind.Rand = pos (word % 32768)
value_by values n node word time kind.Clock = pos (time / 1000 % 32768)

-- the random words that are left after the answer
abbrev pub words_past : FunKind → Lcg → Lcg
words_past kind.Sense words = words
words_past (kind.Act args) words = words
words_past kind.Send words = words
words_past kind.Id words = words
words_past kind.Rand words = (pcg32 words).1
words_past kind.Clock words = words
