use Rattle.std.proofs.Common.{◌≡◌, ℕ, ◌+◌, suc, List, ◌∷◌, length, ◌∙◌, ap, length-append, arith}
use Rattle.report_line_reader.specs.LightLine.{bulky_line}
use Rattle.report_text.proofs.TextLemmas.{at_first, at_next, reads_end, reads_bad, reads_failed, reads_last}
use Rattle.report_text.proofs.text.read_lines.Goals as goal

pub loop-line-init : goal.loop-line-init
loop-line-init c = at_first c.args.desc.now c.args.bytes.now c.in_ok-parts.parts c.requires (c.in_ok-parts.ensures c.args.desc.now)

pub returns-in_default-light_line_of : goal.returns-in_default-light_line_of
returns-in_default-light_line_of c =
    let at = c.loop-line.invariant in
    let cut = c.in-Some.ensures in
    reads_last c.args.desc.now c.args.bytes.now c.loop-line.left.now c.in-Some.line.now c.in-Some.behind.now c.loop-line.parts c.read_last.result at cut.1
    (c.read_last.ensures c.args.desc.now at.ls at.read (record { whole = cut.0; none = λ l s e. c.in_default-light_line_of.ensures.none l s.right s.ranges e }))

pub returns-in_err-take : goal.returns-in_err-take
returns-in_err-take c =
    let at = c.loop-line.invariant in
    let cut = c.in-Some.ensures in
    let read = c.in-Some-light_line_of.ensures in
    reads_failed c.args.desc.now c.args.bytes.now c.from_residual-in_err-take.result c.in_err-take.field-0.0 c.from_residual-in_err-take.ensures.1
    (reads_bad c.args.desc.now c.args.bytes.now c.loop-line.left.now c.in-Some.line.now c.in-Some.behind.now (bulky_line c.light_line_of.new.bulk c.in-Some-light_line_of.told) c.loop-line.parts c.take.new.self c.in_err-take.field-0.0 at
    cut.1 cut.0 read.form (record { right = read.right; ranges = read.ranges })
    (c.in_err-take.ensures c.args.desc.now at.ls at.read (record { right = read.right; ranges = read.ranges })))

pub loop-line-preserved : goal.loop-line-preserved
loop-line-preserved c =
    let at = c.loop-line.invariant in
    let cut = c.in-Some.ensures in
    let read = c.in-Some-light_line_of.ensures in
    at_next c.args.desc.now c.args.bytes.now c.loop-line.left.now c.in-Some.line.now c.in-Some.behind.now (bulky_line c.light_line_of.new.bulk c.in-Some-light_line_of.told) c.loop-line.parts c.take.new.self at cut.1 read.form
    (c.in_ok-take.ensures c.args.desc.now at.ls at.read (record { right = read.right; ranges = read.ranges }))

pub returns : goal.returns
returns c = reads_end c.args.desc.now c.args.bytes.now c.loop-line.left.now c.loop-line.parts c.bad_line.result c.bad_line.ensures c.loop-line.invariant c.in_default.ensures

pub read_last-requires : goal.read_last-requires
read_last-requires c =
    let at = c.loop-line.invariant in
    let count = at.read.count in
    let few = at.few in
    omega (arith, count, few)

pub take-requires-clause-node : goal.take-requires-clause-node
take-requires-clause-node c = c.in-Some-light_line_of.ensures.right.node

pub take-requires-clause-few : goal.take-requires-clause-few
take-requires-clause-few c =
    let at = c.loop-line.invariant in
    let cut = c.in-Some.ensures in
    let long : length c.loop-line.left.now ≡ length c.in-Some.line.now + suc (length c.in-Some.behind.now) = ap (λ (xs : List ℕ). length xs) cut.1 ∙ length-append c.in-Some.line.now (10 ∷ c.in-Some.behind.now) in
    let count = at.read.count in
    let few = at.few in
    omega (arith, long, count, few)

pub take-requires-clause-read : goal.take-requires-clause-read
take-requires-clause-read c = (c.args.desc.now, c.loop-line.invariant.ls, c.loop-line.invariant.read)

pub loop-line-smaller : goal.loop-line-smaller
loop-line-smaller c =
    let cut = c.in-Some.ensures in
    let long : length c.loop-line.left.now ≡ length c.in-Some.line.now + suc (length c.in-Some.behind.now) = ap (λ (xs : List ℕ). length xs) cut.1 ∙ length-append c.in-Some.line.now (10 ∷ c.in-Some.behind.now) in
    omega (arith, long)

pub bad_line-requires : goal.bad_line-requires
bad_line-requires c =
    let at = c.loop-line.invariant in
    let count = at.read.count in
    let few = at.few in
    omega (arith, count, few)
