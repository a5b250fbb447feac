use Rattle.std.proofs.Common.{◌+◌, ◌∙◌, sym, drop, arith}
use Rattle.std.proofs.lemmas.List.{take_all, length-drop}
use Rattle.slip_gateway.proofs.PieceLemmas.{all_left, left_behind}
use Rattle.slip_gateway.proofs.slip.rest_of.Goals as goal

pub returns-in-Some-clause-rest : goal.returns-in-Some-clause-rest
returns-in-Some-clause-rest c =
    let n = c.in-Some.place in
    let l = length-drop (n + 1) c.args.stream.now in
    take_all _ (drop (n + 1) c.args.stream.now) (omega (arith, l)) ∙ sym (left_behind c.args.stream.now n c.in-Some.ensures)

pub returns-in-None-clause-rest : goal.returns-in-None-clause-rest
returns-in-None-clause-rest c = sym (all_left c.args.stream.now c.in-None.ensures)
