-- The steps of a node that install programs.
use Rattle.std.specs.Prelude.{List, [], ◌∷◌}
use Rattle.mate_num.specs.Lists.{Each}
use Rattle.mate_journal.specs.NodeScript.{Step, Install, Post, StepIn, Run, Answer, Show, ResetNode}
use Rattle.mate_journal.specs.declared.program.Program.{Program}
use Rattle.audit_rules.specs.Laws.{IsOneOf}

-- what a step installs is one of the programs
abbrev pub IsInstallOf : List Program → Step → Type 0
IsInstallOf ps (Install x) = IsOneOf ps x
IsInstallOf ps (Post h payload) = Unit {0}
IsInstallOf ps (StepIn c n) = Unit {0}
IsInstallOf ps Run = Unit {0}
IsInstallOf ps (Answer c value) = Unit {0}
IsInstallOf ps Show = Unit {0}
IsInstallOf ps ResetNode = Unit {0}

abbrev pub InstallPrograms : List Program → List Step → Type 0
InstallPrograms ps = Each (IsInstallOf ps)
