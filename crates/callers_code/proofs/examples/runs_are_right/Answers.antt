use Rattle.std.proofs.Common.{refl}
use Rattle.std.specs.Int.{int_wrap}
use Rattle.mate_code.specs.Run.{after}
use Rattle.callers_code.proofs.examples.runs_are_right.Goals as goal

pub returns : goal.returns
unfolding after int_wrap
returns c = record {
  counting = record { outcome = refl; marks_are = refl };
  wrapping = record { outcome = refl; marks_are = refl };
  dividing = record { outcome = refl; marks_are = refl };
  truths = record { outcome = refl; marks_are = refl };
  branching = record { outcome = refl; marks_are = refl };
  privates = record { outcome = refl; marks_are = refl };
  past = record { outcome = refl; marks_are = refl };
  appending = record { outcome = refl; marks_are = refl };
  full = record { outcome = refl; marks_are = refl };
  empty = record { outcome = refl; marks_are = refl };
  asking = record { outcome = refl; marks_are = refl };
  answered = record { outcome = refl; marks_are = refl };
}
