use Rattle.std.proofs.Common.{◌++◌, ◌∷◌, List, ℕ, length, take, sym, ap, ◌∙◌, arith}
use Rattle.report_text.proofs.TextLemmas.{no_end, cut_at}
use Rattle.report_text.proofs.text.first_line.Goals as goal

pub returns-then-length-bytes : goal.returns-then-length-bytes
returns-then-length-bytes c = no_end c.args.bytes.now c.line_len-length.result c.line_len-length.ensures.value c.if-length-bytes.true

pub returns : goal.returns
returns c =
    let bytes = c.args.bytes.now in
    let n = c.line_len-length.result in
    let within = c.line_len-length.ensures.within in
    let other = c.if-length-bytes.false in
    let cut = cut_at bytes n c.line_len-length.ensures.value (omega (arith, within, other)) in
    (cut.whole, cut.is ∙ ap (λ (x : List ℕ). take n bytes ++ 10 ∷ x) (sym c.split_at.ensures.back))
