-- The source of a machine with one variable and one actuator.
use Rattle.std.proofs.Common.{◌≡◌, ℕ, List, [], ◌∷◌, None, Some, ap, ◌∙◌}
use Rattle.std.specs.Prelude.{codes, if◌then◌else◌}
use Rattle.vm_shape.specs.declared.description.Description.{Description}
use Rattle.vm_shape.specs.declared.function.Function.{Function}
use Rattle.vm_shape.specs.declared.function.FunKind.{FunKind}
use Rattle.vm_shape.specs.declared.function.FunKind.TheVariants.{Act}
use Rattle.script_reader.specs.Source.{reads_sensor, first_sensor, source_with, source_of}

pub of_actuator : (d : Description) (f : Function) → d.shared.items ≡ codes "a" ∷ [] → d.functions.items ≡ f ∷ [] → f.kind ≡ Act 1 → source_of d 3 ≡ codes "shared a; a = a + 3;"
unfolding source_of
of_actuator d f shared functions acts =
    ap (λ (fs : List Function). source_with (first_sensor fs) d.shared.items 3) functions
    ∙ ap (λ (k : FunKind). source_with (if reads_sensor k then Some f.name else None) d.shared.items 3) acts
    ∙ ap (λ (names : List (List ℕ)). source_with None names 3) shared
