use Rattle.std.proofs.Common.{[], ◌∷◌, true, false, codes, refl}
use Rattle.clap.specs.Faults.{flags_fault, walk_fault, defaults_fault}
use Rattle.clap.specs.Walk.{walked}
use Rattle.command_line.specs.Words.{Line, IsLine}
use Rattle.callers_commands.proofs.CommandLemmas.{brief_is}
use Rattle.callers_commands.proofs.command_lines.a_flag_is_not_told_for_another.Goals as goal

abbrev line : Line
line = record { brief = false; fold = true; command = codes "table"; args = [] }

is_line : IsLine (codes "--fold" ∷ codes "table" ∷ []) line
unfolding walked flags_fault walk_fault defaults_fault
is_line = record { taken = refl; brief = refl; fold = refl; command = refl; args = refl }

pub returns : goal.returns
returns c = brief_is _ (codes "--fold" ∷ codes "table" ∷ []) line c.read.result c.requires is_line c.read.ensures
