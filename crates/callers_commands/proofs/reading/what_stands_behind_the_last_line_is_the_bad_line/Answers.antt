use Rattle.callers_commands.proofs.ReadLemmas.{only_second}
use Rattle.callers_commands.proofs.reading.what_stands_behind_the_last_line_is_the_bad_line.Goals as goal

pub returns : goal.returns
returns c =
    let laws = c.one_verdict_holds.ensures in
    only_second c.args.desc.now c.read.result (laws.bad c.args.desc.now) (laws.apart c.args.desc.now) c.read.ensures.reads
