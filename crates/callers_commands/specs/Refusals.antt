-- Refusals of a source that come for want of memory.
use Rattle.std.specs.Prelude.{◌≡◌, ◌⊎◌}
use Rattle.command_steps.specs.declared.refusal.SourceRefusal.{SourceRefusal}
use Rattle.command_steps.specs.declared.refusal.SourceRefusal.TheVariants.{Spelling, Meaning}
use Rattle.ts_parser.specs.declared.fault.SourceFault.TheVariants as spelling
use Rattle.ts_checker.specs.declared.fault.CheckFault.TheVariants as meaning

abbrev pub IsForMemory : SourceRefusal → Type 0
IsForMemory r = (r ≡ Spelling spelling.NoMemory) ⊎ (r ≡ Meaning meaning.NoMemory)
