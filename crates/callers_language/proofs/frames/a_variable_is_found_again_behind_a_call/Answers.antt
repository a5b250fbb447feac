use Rattle.std.proofs.Common.{refl, subst}
use Rattle.std.specs.Int.{int_wrap}
use Rattle.mate_num.specs.declared.call.End.TheVariants.{Halt}
use Rattle.ts_proc_laws.specs.FrameLaw.{RunsAsExpanded}
use Rattle.callers_language.specs.Ends.{FramesEndIn}
use Rattle.callers_language.specs.Procedures.{kept_variable}
use Rattle.callers_language.proofs.EndsLemmas.{ends_as_frames}
use Rattle.callers_language.proofs.frames.a_variable_is_found_again_behind_a_call.Goals as goal

ends : FramesEndIn kept_variable Halt
unfolding int_wrap
ends machine store msg answers turns = refl

pub returns : goal.returns
returns c =
    record {
      frames = ends;
      expansion = ends_as_frames kept_variable Halt (subst RunsAsExpanded c.requires c.frame_law.ensures.runs) ends;
    }
