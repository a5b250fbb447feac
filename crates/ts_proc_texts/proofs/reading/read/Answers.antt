use Rattle.std.proofs.Common.{arith, ◌≤◌, length, Err, sym, subst}
use Rattle.ts_trees.specs.Seen.{procedure_source_of}
use Rattle.ts_trees.specs.Tree.{ProcedureSource}
use Rattle.ts_proc_names.specs.Heads.{parameter_count}
use Rattle.ts_proc_texts.specs.Reading.{ReadsProcedures, IsProcedureText}
use Rattle.ts_proc_texts.proofs.FewLemmas.{tokens_few, params_few}
use Rattle.ts_proc_texts.proofs.ReadingLemmas.{named_read, text_of_script, text_refused}
use Rattle.ts_proc_texts.proofs.reading.read.Goals as goal

pub new-requires : goal.new-requires
new-requires c =
    let source : ProcedureSource = procedure_source_of c.in-Ok.script in
    let text : IsProcedureText c.args.bytes.now source = text_of_script c.args.bytes.now c.in-Ok.script c.in-Ok.ensures in
    let params : parameter_count source.procs ≤ length text.tokens = params_few source text.tokens text.spells.spells in
    let tokens : length text.tokens ≤ length c.args.bytes.now = tokens_few c.args.bytes.now text.tokens text.cuts in
    omega (arith, params, tokens, c.requires)

pub returns-in-Ok : goal.returns-in-Ok
returns-in-Ok c =
    named_read c.args.bytes.now (procedure_source_of c.in-Ok.script) c.new.result (text_of_script c.args.bytes.now c.in-Ok.script c.in-Ok.ensures) c.new.ensures

pub returns-in-Err : goal.returns-in-Err
returns-in-Err c =
    subst (λ f. ReadsProcedures c.args.bytes.now (Err f)) (sym c.fault_of.ensures) (text_refused c.args.bytes.now c.in-Err.fault c.in-Err.ensures)
