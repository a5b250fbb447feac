use Rattle.std.proofs.Common.{◌≡◌, ◌-◌, ◌<◌, ◌≤◌, length}
use Rattle.mate_code.specs.Run.{size_of_code}
use Rattle.mate_code.specs.Verification.{first_marks, pass, halts}
use Rattle.code_verifier.specs.Marks.{marks_in}
use Rattle.code_verifier.proofs.PassLemmas.{code_at, halts_behind}
use Rattle.code_verifier.proofs.pass.pass.Given as goal

abbrev pub invariant-instrs : goal.invariant-instrs
invariant-instrs l = record {
  so_far : pass l.shape l.code (marks_in l.marks) (code_at l.place l.code) ≡ pass l.shape l.code first_marks l.code;
  ends : halts_behind l.ends (code_at l.place l.code) ≡ halts l.code;
  within : l.place ≤ size_of_code l.code;
  room : size_of_code l.code < length l.marks;
}

abbrev pub decreases-instrs : goal.decreases-instrs
decreases-instrs l = size_of_code l.code - l.place
