-- Why a source with procedures has no expansion, as the program reports it, apart from lack of memory.
use Rattle.std.specs.Prelude.{ℕ, List, codes}
use Rattle.ts_proc_names.specs.declared.fault.ProcFault.{ProcFault}
use Rattle.ts_proc_names.specs.declared.fault.ProcFault.TheVariants as fault
use Rattle.command_refusals.specs.LineEnds.{number_line, numbered_name_line}
use Rattle.command_refusals.specs.SpellingCauses.{spelling_words}
use Rattle.command_refusals.specs.declared.spelling_cause.SpellingCause.{SpellingCause}
use Rattle.command_refusals.specs.declared.spelling_cause.SpellingCause.TheVariants as spelling
use Rattle.command_refusals.specs.declared.expansion_cause.ExpansionCause.{ExpansionCause}
use Rattle.command_refusals.specs.declared.expansion_cause.ExpansionCause.TheVariants.{Spelling, NoProc, Params, Again, Reserved, TooLarge}
use Rattle.command_refusals.specs.declared.expansion_cause.ExpansionCause.TheVariants.{TooNested}

abbrev pub spelling_fault : SpellingCause → ProcFault
spelling_fault (spelling.BadByte place) = fault.BadByte place
spelling_fault (spelling.BigLiteral place) = fault.BigLiteral place
spelling_fault (spelling.Unexpected place) = fault.Unexpected place
spelling_fault (spelling.TooDeep place) = fault.TooDeep place

-- the fault that a cause reports
abbrev pub expansion_fault : ExpansionCause → ProcFault
expansion_fault (Spelling why) = spelling_fault why
expansion_fault (NoProc name place) = fault.NoProc name place
expansion_fault (Params place) = fault.Params place
expansion_fault (Again name place) = fault.Again name place
expansion_fault (Reserved place) = fault.Reserved place
expansion_fault (TooLarge count) = fault.TooLarge count
expansion_fault (TooNested depth) = fault.TooNested depth

abbrev pub expansion_words : ExpansionCause → List ℕ
expansion_words (Spelling why) = spelling_words why
expansion_words (NoProc name place) = numbered_name_line (codes "noproc ") name place
expansion_words (Params place) = number_line (codes "params ") place
expansion_words (Again name place) = numbered_name_line (codes "again ") name place
expansion_words (Reserved place) = number_line (codes "reserved ") place
expansion_words (TooLarge count) = number_line (codes "large ") count
expansion_words (TooNested depth) = number_line (codes "nested ") depth
