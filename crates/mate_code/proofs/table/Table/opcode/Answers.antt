use Rattle.std.proofs.Common.{◌≡◌, ap, sym, ◌∙◌, subst, arith}
use Rattle.std.proofs.lemmas.Option.{slice_get_within}
use Rattle.mate_code.specs.declared.row.Opcode.TheVariants.{Function}
use Rattle.mate_code.specs.Row as table
use Rattle.mate_code.specs.Kind.{kind_row}
use Rattle.mate_code.specs.Table.{HasOpcode}
use Rattle.mate_code.proofs.table.Table.opcode.Goals as goal

pub overflow_add-result : goal.overflow_add-result
overflow_add-result c =
    let t = c.args.self.now in
    let fun = c.in-Function.fun in
    let send = c.in-Function.field-1 in
    let is : (kind_row c.args.kind).opcode ≡ Function fun send = sym (ap (λ (r : table.Row). r.opcode) c.row.ensures) ∙ c.in-Function.is in
    let there : HasOpcode t (Function fun send) = subst (HasOpcode t) is c.requires in
    let within = slice_get_within t.sends fun.0 send there in
    omega (arith, within)
