-- What a script is where its lines compute.
use Rattle.std.proofs.Common.{◌≡◌, inl, inr, ℕ, [], ◌∷◌, Result, Ok, Err, refl, subst}
use Rattle.std.specs.Prelude.{codes, pos, IfOk}
use Rattle.vm_shape.specs.declared.description.Description.{Description}
use Rattle.vm_shape.specs.declared.function.Function.{Function}
use Rattle.vm_shape.specs.declared.function.FunKind.TheVariants.{Sense}
use Rattle.vm_shape.specs.declared.handler.Handler.{Handler}
use Rattle.script_steps.specs.Script.{AnswersScript}
use Rattle.script_steps.specs.Words.{a_number, a_value, a_handler, a_version, handler_from}
use Rattle.script_steps.specs.declared.fault.Cause.{Cause}
use Rattle.script_steps.specs.declared.fault.Cause.TheVariants.{OldVersion, TimeBack}
use Rattle.script_steps.specs.declared.fault.ScriptFault.{ScriptFault}
use Rattle.script_steps.specs.declared.fault.ScriptFault.TheVariants.{BadLine, NoMemory}
use Rattle.script_steps.specs.declared.world.World.{World}
use Rattle.script_reader.specs.WorldLines.{some_nodes, a_random, an_until, a_series, a_setting, an_event, an_injection, behind_time, at_node, a_world_line}
use Rattle.script_reader.specs.WorldWords.{a_node, a_time, a_sensor, sensor_from}
use Rattle.script_reader.specs.WorldScript.{after_world_line, world_script_in}
use Rattle.world_rules.specs.World.{series_in}
use Rattle.callers_worlds.specs.Lines.{RefusesWorld, backwards, injected_again, two_series}

pub refused_script : (line : ℕ) (cause : Cause) (script answer : Result World ScriptFault) → script ≡ Err (BadLine line cause) → AnswersScript answer script → RefusesWorld line cause answer
refused_script line cause script (Ok w) is answers = cc
refused_script line cause script (Err (BadLine l c)) is answers = inl cc
refused_script line cause script (Err NoMemory) is answers = inr refl

-- the values of the second sensor of the first node
abbrev pub HasValues : Result World ScriptFault → Type 0
HasValues r = IfOk r (λ w. series_in w.series 0 1 ≡ pos 2 ∷ pos 3 ∷ [])

pub read_values : (script answer : Result World ScriptFault) → HasValues script → AnswersScript answer script → HasValues answer
read_values script (Ok w) values answers = subst HasValues answers values
read_values script (Err (BadLine l c)) values answers = tt
read_values script (Err NoMemory) values answers = tt

pub turned_back : (d : Description) → world_script_in d backwards ≡ Err (BadLine 5 TimeBack)
unfolding world_script_in after_world_line a_world_line some_nodes a_random an_until a_setting an_event behind_time at_node a_time a_node a_number
turned_back d = refl

pub not_newer : (d : Description) (h : Handler) → d.handlers.items ≡ h ∷ [] → h.name ≡ codes "h" → world_script_in d injected_again ≡ Err (BadLine 5 OldVersion)
unfolding world_script_in after_world_line a_world_line some_nodes a_random an_until a_setting an_event behind_time an_injection a_time a_node a_number a_handler a_version
not_newer d h one name =
    let found_h : handler_from (codes "h") 0 d.handlers.items ≡ Ok (record { 0 = 0 }) = rw (one, name) refl in
    rw (found_h, found_h) refl

pub told_values : (d : Description) (f g : Function) → d.functions.items ≡ f ∷ g ∷ [] → f.name ≡ codes "f" → g.name ≡ codes "g" → f.kind ≡ Sense → g.kind ≡ Sense
    → HasValues (world_script_in d two_series)
unfolding world_script_in after_world_line a_world_line some_nodes a_random an_until a_setting a_series a_sensor a_node a_number a_value
told_values d f g two first second senses senses' =
    let found_f : sensor_from (codes "f") 0 d.functions.items ≡ Ok (record { 0 = 0 }) = rw (two, first, senses) refl in
    let found_g : sensor_from (codes "g") 0 d.functions.items ≡ Ok (record { 0 = 1 }) = rw (two, first, second, senses') refl in
    rw (found_f, found_g, found_g) refl
