use Rattle.std.proofs.Common.{◌≡◌, slice_get, Some, None, ap, sym, arith}
use Rattle.std.proofs.lemmas.Grind.{common_steps}
use Rattle.std.proofs.lemmas.Option.{gets}
use Rattle.report_writer.specs.Words.{seen_words}
use Rattle.report_writer.proofs.ChunkLemmas.{IsInFront-by, IsInFront-none}
use Rattle.report_writer.proofs.entry_line.shown_in_front.Goals as goal

pub returns-in_default-clause-adds : goal.returns-in_default-clause-adds
returns-in_default-clause-adds g c =
    let none : slice_get c.args.log.now.stores c.args.store ≡ None = grind (arith, common_steps, gets, c.in_default.ensures.lookup.0, c.stores.ensures) in
    IsInFront-by (ap (seen_words c.args.desc.now) (sym none)) IsInFront-none

pub returns-in-Some-clause-adds : goal.returns-in-Some-clause-adds
returns-in-Some-clause-adds g c =
    let found : slice_get c.args.log.now.stores c.args.store ≡ Some c.in-Some.store.now = grind (arith, common_steps, gets, c.in-Some.ensures.lookup.0, c.stores.ensures) in
    IsInFront-by (ap (seen_words c.args.desc.now) (sym found)) c.store_in_front.ensures.adds
