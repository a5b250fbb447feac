use Rattle.std.proofs.Common.{◌<◌, length, arith}
use Rattle.std.proofs.lemmas.Result.{err_from_is_err_and}
use Rattle.script_reader.specs.Draft.{world_progress_of}
use Rattle.script_reader.specs.WorldLines.{WorldProgress}
use Rattle.script_reader.specs.WorldScript.{after_world_line, world_at_end, world_script_in}
use Rattle.script_steps.proofs.LineLemmas.{is_refused, is_over}
use Rattle.script_reader.proofs.KeepsLemmas.{right_at_end, answers_at_end}
use Rattle.script_reader.proofs.LineEnd.{world_at_start, world_at_next}
use Rattle.script_reader.proofs.reader.world_script.Goals as goal

pub lines-init : goal.lines-init
lines-init c = (
  rw c.of-lines.ensures (world_at_start c.args.desc.now c.args.bytes.now (world_progress_of c.begun-draft.result) c.begun-draft.ensures.value c.requires),
  c.begun-draft.ensures.tables,
)

pub lines-preserved : goal.lines-preserved
lines-preserved c = (
  world_at_next c.args.desc.now c.args.bytes.now c.lines.number (world_progress_of c.lines.draft) (world_progress_of c.read_line.new.draft) c.in-Some.line.now c.lines.lines c.next.new.self
      c.lines.invariant.0 c.in-Some.ensures.line c.in-Some.ensures.shorter c.in_ok-read_line.ensures.value c.in_ok-read_line.ensures.count c.in_ok-read_line.ensures.files c.in_ok-read_line.ensures.keeps,
  c.in_ok-read_line.ensures.tables,
)

pub returns-in_err-read_line-clause-value : goal.returns-in_err-read_line-clause-value
returns-in_err-read_line-clause-value c =
    let e = err_from_is_err_and c.from_residual.result c.from_residual.ensures.1 in
    rw (e.1, e.2) (is_refused (after_world_line c.args.desc.now) (λ (number : _) (p : WorldProgress). world_at_end p.stage number p) (world_script_in c.args.desc.now c.args.bytes.now) c.lines.number (world_progress_of c.lines.draft) (world_progress_of c.read_line.new.draft)
    c.in-Some.line.now c.lines.lines c.next.new.self _ c.lines.invariant.0.at c.in-Some.ensures.line c.in_err-read_line.ensures.value)

pub returns : goal.returns
returns c =
    let p : WorldProgress = world_progress_of c.lines.draft in
    let over = is_over (after_world_line c.args.desc.now) (λ (number : _) (p : WorldProgress). world_at_end p.stage number p) (world_script_in c.args.desc.now c.args.bytes.now) c.lines.number p c.lines.lines c.lines.invariant.0.at c.in_default.ensures.line in
    let few : length p.world.events < 4000000000 = omega (arith, c.lines.invariant.0.before.events, c.lines.invariant.0.at.count) in
    record {
      value = rw (c.finish.ensures, over) (answers_at_end c.lines.draft.stage c.lines.number p);
      right = rw c.finish.ensures (right_at_end c.args.desc.now c.lines.draft.stage c.lines.number p c.lines.invariant.0.keeps few);
    }
