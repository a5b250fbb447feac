-- A world as far as some lines were read, and refusals that have to come.
use Rattle.std.specs.Prelude.{◌≡◌, ℕ, true, List, [], ◌∷◌, ◌++◌, codes, replicate, Result, Ok, Err, ◌⊎◌}
use Rattle.script_steps.specs.declared.fault.Cause.{Cause}
use Rattle.script_steps.specs.declared.fault.ScriptFault.{ScriptFault}
use Rattle.script_steps.specs.declared.fault.ScriptFault.TheVariants as fault
use Rattle.script_steps.specs.declared.world.World.{World}
use Rattle.script_reader.specs.declared.refusal.Refusal.{Refusal}
use Rattle.script_reader.specs.declared.refusal.Refusal.TheVariants as refusal
use Rattle.script_reader.specs.declared.stage.Stage.TheVariants.{Settings}
use Rattle.script_reader.specs.WorldLines.{WorldProgress}

-- 3 nodes with a link from 0 to 1, up to 9 ms, of which 5 are over
abbrev pub linked_world : WorldProgress
linked_world = record {
  stage = Settings;
  world = record {
    nodes = 3;
    random = 0;
    until = 9;
    suppress = true;
    links = record { from = 0; to = 1; loss = 0 }
        ∷ [];
    series = [];
    events = [];
    files = [];
  };
  time = 5;
  newest = replicate 8 0;
}

-- the line is refused for this cause, unless memory runs out
abbrev pub RefusesLine : Cause → Result (Unit {0}) Refusal → Type 0
RefusesLine cause (Ok said) = ⊥
RefusesLine cause (Err r) = (r ≡ refusal.Bad cause) ⊎ (r ≡ refusal.NoMemory)

-- the script is refused at this line for this cause, unless memory runs out
abbrev pub RefusesWorld : ℕ → Cause → Result World ScriptFault → Type 0
RefusesWorld line cause (Ok w) = ⊥
RefusesWorld line cause (Err f) = (f ≡ fault.BadLine line cause) ⊎ (f ≡ fault.NoMemory)

-- ---- texts

-- the three lines that come first: one node, and 9 ms
abbrev pub begun_with : List ℕ → List ℕ
begun_with lines = codes "nodes 1" ++ 10 ∷ codes "random 0" ++ 10 ∷ codes "until 9" ++ 10 ∷ lines

abbrev pub backwards : List ℕ
backwards = begun_with (codes "at 5 show 0" ++ 10 ∷ codes "at 4 show 0")

abbrev pub injected_again : List ℕ
injected_again = begun_with (codes "at 5 inject 0 h 2 f" ++ 10 ∷ codes "at 6 inject 0 h 2 f")

abbrev pub two_series : List ℕ
two_series = begun_with (codes "series 0 f 1" ++ 10 ∷ codes "series 0 g 2" ++ 10 ∷ codes "series 0 g 3")
