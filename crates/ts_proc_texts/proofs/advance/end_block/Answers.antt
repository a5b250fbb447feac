use Rattle.std.proofs.Common.{ap}
use Rattle.ts_proc_texts.specs.Rest.{close_tokens}
use Rattle.ts_proc_texts.proofs.ProgressLemmas.{all_left}
use Rattle.ts_proc_texts.proofs.advance.end_block.Goals as goal

pub returns-in-Nothing-clause-prints : goal.returns-in-Nothing-clause-prints
returns-in-Nothing-clause-prints g c = all_left (ap (close_tokens c.args.bodies.now.plan.heads.procs.now c.args.place) c.in-Nothing.is)
