use Rattle.std.proofs.Common.{refl, subst}
use Rattle.std.specs.Int.{int_wrap}
use Rattle.mate_num.specs.declared.call.End.TheVariants.{Fault}
use Rattle.mate_num.specs.declared.call.FaultKind.TheVariants.{DivZero}
use Rattle.ts_proc_laws.specs.FrameLaw.{RunsAsExpanded}
use Rattle.callers_language.specs.Ends.{FramesEndIn}
use Rattle.callers_language.specs.Procedures.{inner_call}
use Rattle.callers_language.proofs.EndsLemmas.{ends_as_frames}
use Rattle.callers_language.proofs.frames.a_frame_is_found_again_behind_a_call.Goals as goal

ends : FramesEndIn inner_call (Fault DivZero)
unfolding int_wrap
ends machine store msg answers turns = refl

pub returns : goal.returns
returns c =
    record {
      frames = ends;
      expansion = ends_as_frames inner_call (Fault DivZero) (subst RunsAsExpanded c.requires c.frame_law.ensures.runs) ends;
    }
