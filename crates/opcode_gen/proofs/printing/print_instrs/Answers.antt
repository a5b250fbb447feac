use Rattle.std.proofs.Common.{◌≡◌, ℕ, List, length, ap, sym, ◌∙◌, subst}
use Rattle.mate_code.specs.declared.instr.Instr.{Instr}
use Rattle.mate_code.specs.Code.{instrs_of}
use Rattle.mate_code.specs.Listing.{listing_text}
use Rattle.mate_code.specs.Table.{Layout, table_of, AreInTable}
use Rattle.mate_files.proofs.PenLemmas.{Prints-by}
use Rattle.opcode_gen.specs.TableText.{names_of_functions}
use Rattle.opcode_gen.proofs.TableTextLemmas.{length-names_of}
use Rattle.opcode_gen.proofs.PrintingLemmas.{Prints-put, Prints-none}
use Rattle.opcode_gen.proofs.printing.print_instrs.Goals as goal

pub listing-pen-requires-clause-in_table : goal.listing-pen-requires-clause-in_table
listing-pen-requires-clause-in_table g c =
    let v = c.args.code.now in
    let same : table_of v.shape ≡ c.table.result = ap table_of c.requires ∙ sym c.table.ensures in
    let OfTable : Layout → Type 0 = λ t. AreInTable t (instrs_of v.code) in
    let OfPairs : List (ℕ × Instr) → Type 0 = λ pairs. AreInTable c.table.result (instrs_of pairs) in
    subst OfPairs (sym c.instrs.ensures.value) (subst OfTable same c.instrs.ensures.verified.are_verified.is_decoded.in_table)

pub listing-pen-requires-clause-names : goal.listing-pen-requires-clause-names
listing-pen-requires-clause-names g c =
    ap length (c.as_slice.ensures.value ∙ c.function_names-names.ensures) ∙ length-names_of c.args.desc.now ∙ sym (ap (λ (t : Layout). length t.sends) c.table.ensures)

pub returns-then-is_ok : goal.returns-then-is_ok
returns-then-is_ok g c =
    let functions = names_of_functions c.args.desc.now in
    let names = c.as_slice.ensures.value ∙ c.function_names-names.ensures in
    Prints-by (ap (λ (names : List (List ℕ)). listing_text names c.instrs.result) names ∙ ap (listing_text functions) c.instrs.ensures.value)
    (Prints-put _ _ _ _ _ _ _ (sym c.is_ok.ensures.value ∙ c.if-is_ok.true) c.listing-pen.ensures)

pub returns-else-is_ok : goal.returns-else-is_ok
returns-else-is_ok g c =
    Prints-none (g.S.Sink.written c.args.out.now) (g.S.Sink.faults c.args.out.now) c.args.pen.now.result (listing_text (names_of_functions c.args.desc.now) c.args.code.now.code) (sym c.is_ok.ensures.value ∙ c.if-is_ok.false)
