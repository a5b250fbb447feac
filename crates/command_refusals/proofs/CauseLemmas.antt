-- A refusal has one cause.
use Rattle.std.proofs.Common.{◌≡◌, ℕ, List, Option, Some, None, refl, sym, ap, ◌∙◌}
use Rattle.vm_shape.specs.declared.description.Description.{Description}
use Rattle.vm_shape.specs.declared.fault.DescFault.{DescFault}
use Rattle.vm_shape.specs.declared.fault.DescFault.TheVariants as desc
use Rattle.ts_trees.specs.Cut.{bad_byte, big_literal}
use Rattle.ts_checker.specs.Accepted.{TextRefusal, IsRefusedBy, by_bytes, unexpected, too_deep, by_check}
use Rattle.ts_checker.specs.declared.fault.CheckFault.TheVariants as check
use Rattle.command_refusals.specs.DescriptionCauses.{fault_told}
use Rattle.command_refusals.specs.SourceCauses.{IsBadSource}
use Rattle.command_refusals.specs.declared.description_cause.DescriptionCause.{DescriptionCause}
use Rattle.command_refusals.specs.declared.description_cause.DescriptionCause.TheVariants as description
use Rattle.command_refusals.specs.declared.source_cause.SourceCause.{SourceCause}
use Rattle.command_refusals.specs.declared.source_cause.SourceCause.TheVariants as source
use Rattle.command_refusals.specs.declared.spelling_cause.SpellingCause.{SpellingCause}
use Rattle.command_refusals.specs.declared.spelling_cause.SpellingCause.TheVariants as spelling
use Rattle.command_refusals.specs.declared.expansion_cause.ExpansionCause.{ExpansionCause}
use Rattle.command_refusals.specs.declared.expansion_cause.ExpansionCause.TheVariants as expansion
use Rattle.command_refusals.specs.ExpansionCauses.{expansion_fault}
use Rattle.ts_proc_names.specs.declared.fault.ProcFault.{ProcFault}
use Rattle.ts_proc_names.specs.declared.fault.ProcFault.TheVariants as proc

-- what tells a fault of a description, but want of memory
description_in : DescFault → Option DescriptionCause
description_in desc.NotToml = Some description.NotToml
description_in (desc.BadField key) = Some (description.BadField key)
description_in (desc.OverLimit key) = Some (description.OverLimit key)
description_in (desc.Duplicate name) = Some (description.Duplicate name)
description_in (desc.SlowImax need have) = Some (description.SlowImax need have)
description_in desc.NoMemory = None

description_in-told : (a : DescriptionCause) → description_in (fault_told a) ≡ Some a
unfolding description_in
description_in-told description.NotToml = refl
description_in-told _ = refl

pub fault_told-once : (a b : DescriptionCause) → fault_told a ≡ fault_told b → a ≡ b
fault_told-once a b e = let h : Some a ≡ Some b = sym (description_in-told a) ∙ ap description_in e ∙ description_in-told b in cc

abbrev spelling_told : SpellingCause → TextRefusal
spelling_told (spelling.BadByte place) = by_bytes (bad_byte place)
spelling_told (spelling.BigLiteral place) = by_bytes (big_literal place)
spelling_told (spelling.Unexpected place) = unexpected place
spelling_told (spelling.TooDeep place) = too_deep place

-- the refusal that a cause reports
abbrev pub refusal_told : SourceCause → TextRefusal
refusal_told (source.Spelling why) = spelling_told why
refusal_told (source.Undeclared name place) = by_check (check.Undeclared name place)
refusal_told (source.NotInVm name) = by_check (check.NotInVm name)
refusal_told (source.Twice name) = by_check (check.Twice name)
refusal_told (source.Kind place) = by_check (check.Kind place)
refusal_told (source.Arity place) = by_check (check.Arity place)
refusal_told source.TooManyPrivates = by_check check.TooManyPrivates

-- a cause is that of the refusal that it reports
pub refused-by : (d : Description) (bytes : List ℕ) (why : SourceCause) → IsBadSource d bytes why → IsRefusedBy d bytes (refusal_told why)
refused-by d bytes (source.Spelling (spelling.BadByte place)) h = h
refused-by d bytes (source.Spelling (spelling.BigLiteral place)) h = h
refused-by d bytes (source.Spelling (spelling.Unexpected place)) h = h
refused-by d bytes (source.Spelling (spelling.TooDeep place)) h = h
refused-by d bytes (source.Undeclared name place) h = h
refused-by d bytes (source.NotInVm name) h = h
refused-by d bytes (source.Twice name) h = h
refused-by d bytes (source.Kind place) h = h
refused-by d bytes (source.Arity place) h = h
refused-by d bytes source.TooManyPrivates h = h

-- what tells a refusal of a source, but want of memory
source_in : TextRefusal → Option SourceCause
source_in (by_bytes (bad_byte place)) = Some (source.Spelling (spelling.BadByte place))
source_in (by_bytes (big_literal place)) = Some (source.Spelling (spelling.BigLiteral place))
source_in (unexpected place) = Some (source.Spelling (spelling.Unexpected place))
source_in (too_deep place) = Some (source.Spelling (spelling.TooDeep place))
source_in (by_check (check.Undeclared name place)) = Some (source.Undeclared name place)
source_in (by_check (check.NotInVm name)) = Some (source.NotInVm name)
source_in (by_check (check.Twice name)) = Some (source.Twice name)
source_in (by_check (check.Kind place)) = Some (source.Kind place)
source_in (by_check (check.Arity place)) = Some (source.Arity place)
source_in (by_check check.TooManyPrivates) = Some source.TooManyPrivates
source_in (by_check check.NoMemory) = None

source_in-told : (a : SourceCause) → source_in (refusal_told a) ≡ Some a
unfolding source_in
source_in-told (source.Spelling (spelling.BadByte place)) = refl
source_in-told _ = refl

pub refusal_told-once : (a b : SourceCause) → refusal_told a ≡ refusal_told b → a ≡ b
refusal_told-once a b e = let h : Some a ≡ Some b = sym (source_in-told a) ∙ ap source_in e ∙ source_in-told b in cc

-- what tells a fault of a source with procedures, but want of memory
expansion_in : ProcFault → Option ExpansionCause
expansion_in (proc.BadByte place) = Some (expansion.Spelling (spelling.BadByte place))
expansion_in (proc.BigLiteral place) = Some (expansion.Spelling (spelling.BigLiteral place))
expansion_in (proc.Unexpected place) = Some (expansion.Spelling (spelling.Unexpected place))
expansion_in (proc.TooDeep place) = Some (expansion.Spelling (spelling.TooDeep place))
expansion_in (proc.NoProc name place) = Some (expansion.NoProc name place)
expansion_in (proc.Params place) = Some (expansion.Params place)
expansion_in (proc.Again name place) = Some (expansion.Again name place)
expansion_in (proc.Reserved place) = Some (expansion.Reserved place)
expansion_in (proc.TooLarge count) = Some (expansion.TooLarge count)
expansion_in (proc.TooNested depth) = Some (expansion.TooNested depth)
expansion_in proc.NoMemory = None

expansion_in-told : (a : ExpansionCause) → expansion_in (expansion_fault a) ≡ Some a
unfolding expansion_in
expansion_in-told (expansion.Spelling (spelling.BadByte place)) = refl
expansion_in-told _ = refl

pub expansion_fault-once : (a b : ExpansionCause) → expansion_fault a ≡ expansion_fault b → a ≡ b
expansion_fault-once a b e = let h : Some a ≡ Some b = sym (expansion_in-told a) ∙ ap expansion_in e ∙ expansion_in-told b in cc

-- a cause tells no want of memory
pub expansion_fault-told : (a : ExpansionCause) → expansion_fault a ≡ proc.NoMemory → ⊥
unfolding expansion_in
expansion_fault-told a e = let h : Some a ≡ None = sym (expansion_in-told a) ∙ ap expansion_in e in cc
