use Rattle.std.proofs.Common.{◌≡◌, ◌<◌, get_or, length, sym, ◌∙◌, rules, arith}
use Rattle.report_line_reader.proofs.NumeralLemmas.{IsLeading-first}
use Rattle.report_line_reader.proofs.numbers.first_numeral.Goals as goal
use Rattle.report_line_reader.proofs.numbers.first_numeral.Goals.{else-digits-bytes-via-then-digits-bytes+else-bytes-digits-ne32, else-digits-bytes-via-else-digits-bytes}

pub returns : goal.returns
returns c =
    let n = c.leading-numeral.result in
    let line = c.args.bytes.now in
    let ends : n.digits < length line → get_or line n.digits 0 ≡ 32 =
    elim c.else-digits-bytes.branch [
      | else-digits-bytes-via-then-digits-bytes+else-bytes-digits-ne32 w ↦ (λ less. search rules)
      | else-digits-bytes-via-else-digits-bytes w ↦ (λ less. absurd (omega arith))
    ] in
    IsLeading-first line n c.leading-numeral.ensures (sym c.has_plain_lead.ensures ∙ c.if-not-has_plain_lead.false) ends
