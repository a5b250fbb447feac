use Rattle.std.proofs.Common.{ap, sym, rules, FitsSigned}
use Rattle.std.specs.Int.{w16}
use Rattle.std.specs.Fmt.{signed_decimal}
use Rattle.std.proofs.lemmas.Int.{to_z-of_z}
use Rattle.report_writer.specs.Words.{spaced}
use Rattle.report_writer.proofs.ChunkLemmas.{◌⋙◌, IsInFront-by}
use Rattle.report_writer.proofs.store_words.spaced_in_front.Goals as goal

pub returns-in-Some-clause-adds : goal.returns-in-Some-clause-adds
returns-in-Some-clause-adds g c =
    let fits : FitsSigned w16 c.in-Some.first.now = search rules in
    IsInFront-by (sym (ap spaced (c.in-Some.ensures).cases.0))
    (IsInFront-by (ap signed_decimal (to_z-of_z w16 c.in-Some.first.now fits)) c.value.ensures.adds ⋙ c.values_in_front.ensures.adds)
