use Rattle.std.proofs.Common.{◌≡◌, ◌+◌, length, sym, ◌∙◌, ap}
use Rattle.mate_code.specs.Table.{Layout, first_function}
use Rattle.mate_code.proofs.TableLemmas.{length-kinds_of}
use Rattle.mate_code.proofs.table.Table.len.Goals as goal

pub returns-clause-value : goal.returns-clause-value
returns-clause-value c =
    let t = c.args.self.now in
    let e : c.first_function.result + c.len.result ≡ first_function t + length t.sends =
    let first = c.first_function.ensures.value in
    let count = c.len.ensures.value in
    let seen : length c.self.inside.sends.items ≡ length t.sends = ap (λ (l : Layout). length l.sends) c.self.view_is in
    cc in
    e ∙ sym (length-kinds_of t)
