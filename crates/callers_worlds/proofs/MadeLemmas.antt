-- A part of the world of the number 0.
use Rattle.std.proofs.Common.{◌≡◌, ℕ, List, [], ◌∷◌, ◌++◌, length, Some, Result, Ok, Err, refl, sym, subst, ap, ◌∙◌}
use Rattle.std.specs.Prelude.{codes, pos, replicate, slice_get, IfOk}
use Rattle.vm_shape.specs.declared.description.Description.{Description}
use Rattle.vm_shape.specs.declared.function.Function.{Function}
use Rattle.script_reader.specs.Source.{source_of, source_with, first_sensor}
use Rattle.script_steps.specs.declared.world.Planned.{Planned}
use Rattle.script_steps.specs.declared.world.What.TheVariants as what
use Rattle.script_steps.specs.declared.world.World.{World}
use Rattle.mate_num.specs.declared.no_memory.NoMemory.{NoMemory}
use Rattle.script_reader.specs.declared.made.Generated.{Generated}
use Rattle.script_reader.specs.Made.{made_world, made_sources, node_count, plan_of}

-- what holds of the world, or of the sources, holds of those that were made
pub of_world : (r : Result Generated NoMemory) (w : World) (P : World → Type 0) → P w → IfOk r (λ made. made.world ≡ w) → IfOk r (λ made. P made.world)
of_world (Ok made) w P p is = subst P (sym is) p
of_world (Err e) w P p is = tt

pub of_sources : (r : Result Generated NoMemory) (sources : List (List ℕ)) (P : List (List ℕ) → Type 0) → P sources → IfOk r (λ made. made.sources ≡ sources)
    → IfOk r (λ made. P made.sources)
of_sources (Ok made) sources P p is = subst P (sym is) p
of_sources (Err e) sources P p is = tt

-- the injection and the post at 300,000 ms
abbrev pub second_injection : Planned
second_injection = record { time = 300000; node = 3; what = what.Inject 1 (record { 0 = 0 }) 2 }

abbrev pub same_time : Planned
same_time = record { time = 300000; node = 6; what = what.Post (record { 0 = 0 }) (record { items = pos 50 ∷ [] }) }

pub at_150 : (d : Description) → length d.handlers.items ≡ 1 → slice_get (made_world d 0).events 150 ≡ Some second_injection
unfolding plan_of node_count
at_150 d one = ap (λ (n : ℕ). slice_get (plan_of 0 n 8 200) 150) one

pub at_151 : (d : Description) → length d.handlers.items ≡ 1 → slice_get (made_world d 0).events 151 ≡ Some same_time
unfolding plan_of node_count
at_151 d one = ap (λ (n : ℕ). slice_get (plan_of 0 n 8 200) 151) one

of_version_2 : (d : Description) → d.shared.items ≡ codes "a" ∷ [] → d.functions.items ≡ [] → source_of d 2 ≡ codes "shared a; a = a + 2;"
unfolding source_of
of_version_2 d shared functions =
    ap (λ (fs : List Function). source_with (first_sensor fs) d.shared.items 2) functions ∙ ap (λ (names : List (List ℕ)). source_with (first_sensor []) names 2) shared

pub second_source : (d : Description) → length d.handlers.items ≡ 1 → d.shared.items ≡ codes "a" ∷ [] → d.functions.items ≡ [] → slice_get (made_sources d) 1 ≡ Some (codes "shared a; a = a + 2;")
second_source d one shared functions =
    ap (λ (n : ℕ). slice_get (replicate n (source_of d 1) ++ replicate n (source_of d 2)) 1) one ∙ ap (λ (s : List ℕ). slice_get (source_of d 1 ∷ s ∷ []) 1) (of_version_2 d shared functions)

pub eight : (d : Description) → (made_world d 57).nodes ≡ 8
unfolding node_count
eight d = refl
