use Rattle.std.proofs.Common.{ℕ, List, subst, sym, ap}
use Rattle.mate_files.proofs.PenLemmas.{Prints-by, Prints-all, Prints-next, Puts-finished}
use Rattle.mate_code.specs.declared.instr.Instr.{Instr}
use Rattle.mate_code.specs.declared.instr.Instr.TheVariants.{Halt}
use Rattle.mate_code.specs.Table.{AreInTable}
use Rattle.mate_code.specs.Code.{instrs_of}
use Rattle.mate_code.specs.Listing.{line, listing_text}
use Rattle.mate_code.proofs.NameLemmas.{IsNamed-at}
use Rattle.mate_code.proofs.printing.listing.Goals as goal

pub print_line-requires : goal.print_line-requires
print_line-requires g c =
    let pairs = c.as_slice-place-items.result.now in
    let P : List (ℕ × Instr) → Type 0 = λ pairs. AreInTable c.args.table.now (instrs_of pairs) in
    let in_table = subst P (sym c.as_slice-place-items.ensures.value) c.requires.in_table in
    IsNamed-at c.args.table.now c.args.desc_names.now pairs c.loop-place.place-index (0, Halt) c.requires.names in_table c.loop-place-test.true

pub loop-place-preserved : goal.loop-place-preserved
loop-place-preserved g c = Prints-next (line c.args.desc_names.now) _ _ _ c.loop-place-test.true c.loop-place.invariant c.print_line.ensures

pub returns : goal.returns
returns g c =
    let all = Prints-all (line c.args.desc_names.now) _ _ c.loop-place-test.false c.loop-place.invariant in
    Puts-finished c.new-pen.ensures c.finish.ensures (Prints-by (ap (listing_text c.args.desc_names.now) c.as_slice-place-items.ensures.value) all)
