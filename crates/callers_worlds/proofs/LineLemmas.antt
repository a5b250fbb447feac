-- What a line is where its reading computes.
use Rattle.std.proofs.Common.{◌≡◌, inl, inr, ℕ, List, [], None, Result, Ok, Err, refl}
use Rattle.std.specs.Prelude.{codes, IfErr}
use Rattle.vm_shape.specs.declared.description.Description.{Description}
use Rattle.script_steps.specs.Lines.{split_words}
use Rattle.script_steps.specs.Words.{WordReading, TakenWords, a_number}
use Rattle.script_steps.specs.declared.fault.Cause.{Cause}
use Rattle.script_steps.specs.declared.fault.Cause.TheVariants.{Node, Range}
use Rattle.script_steps.specs.declared.world.What.TheVariants.{Show}
use Rattle.script_reader.specs.declared.refusal.Refusal.{Refusal}
use Rattle.script_reader.specs.declared.refusal.Refusal.TheVariants as refusal
use Rattle.script_reader.specs.Draft.{ReadsWithMemory}
use Rattle.script_reader.specs.WorldLines.{WorldSaid, SaysPlanned, a_link, a_far_end, a_setting, an_event, behind_time, at_node, a_world_line}
use Rattle.script_reader.specs.WorldWords.{a_node, a_time}
use Rattle.callers_worlds.specs.Lines.{linked_world, RefusesLine}

pub refused_line : (cause : Cause) (reading : WordReading WorldSaid) (before after : List (List ℕ)) (said : WorldSaid) (r : Result (Unit {0}) Refusal) → reading before ≡ Err cause
    → ReadsWithMemory (λ _. said) reading before r after → RefusesLine cause r
refused_line cause reading before after said (Ok c) refused reads = cc
refused_line cause reading before after said (Err (refusal.Bad why)) refused reads = inl cc
refused_line cause reading before after said (Err refusal.NoMemory) refused reads = inr refl

pub taken_line : (taken : TakenWords WorldSaid) (reading : WordReading WorldSaid) (before after : List (List ℕ)) (said : WorldSaid) (r : Result (Unit {0}) Refusal) → reading before ≡ Ok taken
    → ReadsWithMemory (λ _. said) reading before r after → IfErr r (λ why. why ≡ refusal.NoMemory)
taken_line taken reading before after said (Ok c) is reads = tt
taken_line taken reading before after said (Err (refusal.Bad why)) is reads = cc
taken_line taken reading before after said (Err refusal.NoMemory) is reads = refl

pub linked_already : (d : Description) → a_world_line d linked_world (split_words (codes "link 0 1 5")) ≡ Err Range
unfolding a_world_line a_setting a_link a_far_end a_node a_number
linked_already d = refl

pub no_node : (d : Description) → a_world_line d linked_world (split_words (codes "link 1 3 5")) ≡ Err Node
unfolding a_world_line a_setting a_link a_far_end a_node a_number
no_node d = refl

abbrev pub shown : TakenWords WorldSaid
shown = record { value = SaysPlanned (record { time = 5; node = 0; what = Show }) None; rest = [] }

pub shown_then : (d : Description) → a_world_line d linked_world (split_words (codes "at 5 show 0")) ≡ Ok shown
unfolding a_world_line a_setting an_event behind_time at_node a_time a_node a_number
shown_then d = refl
