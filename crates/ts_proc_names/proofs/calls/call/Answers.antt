use Rattle.std.proofs.Common.{◌∙◌, List, ap, sym, take}
use Rattle.ts_trees.specs.declared.expr.Expr.{Expr}
use Rattle.ts_trees.specs.Seen.{trees_of}
use Rattle.ts_proc_names.specs.Heads.{heads_of}
use Rattle.ts_proc_names.specs.NameFaults.{args_fault}
use Rattle.ts_proc_names.proofs.NameLemmas.{call_fits, call_fails}
use Rattle.ts_proc_names.proofs.calls.call.Goals as goal

pub returns-then-parameters-len : goal.returns-then-parameters-len
returns-then-parameters-len c =
    sym (call_fails (take c.args.count (heads_of c.args.heads.now.procs.now)) c.args.name.now c.args.args.now c.in-Some.parameters (sym c.in_ok-word.ensures)
    (sym c.in-Some.ensures) (λ e. c.if-parameters-len.true (e ∙ sym c.len.ensures)))

pub returns : goal.returns
returns c =
    c.arguments.ensures ∙ ap (λ (es : List Expr). args_fault (trees_of es)) c.as_slice.ensures
    ∙ sym (call_fits (take c.args.count (heads_of c.args.heads.now.procs.now)) c.args.name.now c.args.args.now c.in-Some.parameters (sym c.in_ok-word.ensures)
    (sym c.in-Some.ensures) (c.if-parameters-len.false ∙ c.len.ensures))
