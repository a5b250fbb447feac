-- Why a description is refused, as the program reports it, apart from lack of memory.
use Rattle.std.specs.Prelude.{ℕ, List, ◌++◌, codes, decimal}
use Rattle.vm_shape.specs.Keys.{word_of}
use Rattle.vm_shape.specs.declared.fault.DescFault.{DescFault}
use Rattle.vm_shape.specs.declared.fault.DescFault.TheVariants as desc
use Rattle.command_refusals.specs.LineEnds.{name_line}
use Rattle.command_refusals.specs.declared.description_cause.DescriptionCause.{DescriptionCause}
use Rattle.command_refusals.specs.declared.description_cause.DescriptionCause.TheVariants as cause

-- the fault that a cause reports
abbrev pub fault_told : DescriptionCause → DescFault
fault_told cause.NotToml = desc.NotToml
fault_told (cause.BadField key) = desc.BadField key
fault_told (cause.OverLimit key) = desc.OverLimit key
fault_told (cause.Duplicate name) = desc.Duplicate name
fault_told (cause.SlowImax need have) = desc.SlowImax need have

abbrev pub description_words : DescriptionCause → List ℕ
description_words cause.NotToml = codes "toml\n"
description_words (cause.BadField key) = name_line (codes "field ") (word_of key)
description_words (cause.OverLimit key) = name_line (codes "limit ") (word_of key)
description_words (cause.Duplicate name) = name_line (codes "duplicate ") name
description_words (cause.SlowImax need have) = codes "slow " ++ decimal need ++ codes " " ++ decimal have ++ codes "\n"
