use Rattle.std.proofs.Common.{◌≡◌, None}
use Rattle.ts_proc_names.specs.Named.{written_of}
use Rattle.ts_proc_names.specs.NameFaults.{name_fault}
use Rattle.ts_proc_laws.proofs.ProgramLemmas.{runs_as_expanded, runs_as_answered, nothing_refused}
use Rattle.ts_proc_laws.proofs.law.frame_law.Goals as goal

pub returns : goal.returns
returns c =
    let free : name_fault (written_of c.args.script.now) ≡ None = nothing_refused (name_fault (written_of c.args.script.now)) c.args.script.now.named in
    record {
      runs = runs_as_expanded (written_of c.args.script.now) free;
      answered = runs_as_answered (written_of c.args.script.now) free;
    }
