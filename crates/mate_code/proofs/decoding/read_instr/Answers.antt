use Rattle.std.proofs.Common.{◌≡◌, List, ℕ, Option, Result, Ok, Err, ap, sym, subst, ◌∙◌}
use Rattle.std.specs.Prelude.{MatchResult}
use Rattle.mate_code.specs.declared.instr.Instr.{Instr}
use Rattle.mate_code.specs.declared.kind.Kind.{Kind}
use Rattle.mate_code.specs.declared.decoding.DecodeFault.{DecodeFault}
use Rattle.mate_code.specs.Code.{with_kind, instr_at}
use Rattle.mate_code.proofs.KindLemmas.{instr_at-kind}
use Rattle.mate_code.proofs.decoding.read_instr.Goals as goal

pub returns : goal.returns
returns c =
    let bytes = c.args.bytes.now in
    let is : with_kind c.args.place c.kind.result bytes ≡ instr_at c.args.table.now c.args.place c.args.opcode bytes =
    ap (λ (o : Option Kind). with_kind c.args.place o bytes) c.kind.ensures ∙ sym (instr_at-kind c.args.table.now c.args.place c.args.opcode bytes) in
    subst (λ (x : Result (Instr × List ℕ) DecodeFault). MatchResult c.read_kind.result (λ read. x ≡ Ok (read.0, read.1.now)) (λ fault. x ≡ Err fault)) is c.read_kind.ensures
