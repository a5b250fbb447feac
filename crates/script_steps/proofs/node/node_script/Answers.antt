use Rattle.std.proofs.Common.{Ok, refl}
use Rattle.std.proofs.lemmas.Result.{err_from_is_err_and}
use Rattle.script_steps.specs.NodeReader.{progress_of}
use Rattle.script_steps.specs.NodeScript.{Progress, after_line, node_script_in}
use Rattle.script_steps.proofs.LineLemmas.{is_refused, is_over}
use Rattle.script_steps.proofs.NodeLemmas.{at_start, at_next, right_at}
use Rattle.script_steps.proofs.node.node_script.Goals as goal

pub lines-init : goal.lines-init
lines-init c = rw c.of-lines.ensures (at_start c.args.desc.now c.args.bytes.now _ c.new.ensures.steps c.new.ensures.files refl c.requires)

pub lines-preserved : goal.lines-preserved
lines-preserved c =
    at_next c.args.desc.now c.args.bytes.now c.lines.number (progress_of c.lines.reader) (progress_of c.line.new.self) c.in-Some.line.now c.lines.lines c.next.new.self
    c.lines.invariant c.in-Some.ensures.line c.in-Some.ensures.shorter c.in_ok-line.ensures.value c.in_ok-line.ensures.files c.in_ok-line.ensures.keeps

pub returns-in_err-line-clause-value : goal.returns-in_err-line-clause-value
returns-in_err-line-clause-value c =
    let e = err_from_is_err_and c.from_residual.result c.from_residual.ensures.1 in
    rw (e.1, e.2) (is_refused (after_line c.args.desc.now) (λ (number : _) (p : Progress). Ok p.script) (node_script_in c.args.desc.now c.args.bytes.now) c.lines.number (progress_of c.lines.reader) (progress_of c.line.new.self)
    c.in-Some.line.now c.lines.lines c.next.new.self _ c.lines.invariant.at c.in-Some.ensures.line c.in_err-line.ensures.value)

pub returns : goal.returns
returns c = record {
  value = is_over (after_line c.args.desc.now) (λ (number : _) (p : Progress). Ok p.script) (node_script_in c.args.desc.now c.args.bytes.now) c.lines.number (progress_of c.lines.reader) c.lines.lines c.lines.invariant.at c.in_default.ensures.line;
  right = right_at c.args.desc.now (progress_of c.lines.reader) c.lines.invariant.keeps;
}
