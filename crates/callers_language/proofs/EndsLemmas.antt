-- How the runs with frames give the end of the expansion.
use Rattle.std.proofs.Common.{ap, ◌∙◌}
use Rattle.mate_num.specs.declared.call.End.{End}
use Rattle.mate_num.specs.declared.outcome.Outcome.{Outcome}
use Rattle.ts_trees.specs.Tree.{ProcedureSource}
use Rattle.ts_proc_laws.specs.FrameLaw.{RunsAsExpanded}
use Rattle.callers_language.specs.Ends.{FramesEndIn, ExpansionEndsIn}

pub ends_as_frames : (source : ProcedureSource) (end : End) → RunsAsExpanded source → FramesEndIn source end → ExpansionEndsIn source end
ends_as_frames source end law frames machine tree checks store msg answers turns =
    ap (λ (o : Outcome). o.end) (law machine tree checks store msg answers turns) ∙ frames machine store msg answers turns
