use Rattle.std.proofs.Common.{◌≡◌, ◌<◌, [], length, true, false, sym, ◌∙◌}
use Rattle.report_text.proofs.TextLemmas.{nothing-told, nothing-last, last_refused, last_goes_on, last_ends, some_left, none_left}
use Rattle.report_text.proofs.text.read_last.Goals as goal

pub returns-in_default : goal.returns-in_default
returns-in_default c = λ d ls h none.
    last_refused d ls c.args.parts _ c.bad_line.result c.bad_line.ensures h (nothing-told d ls c.args.line.now c.args.behind.now none c.in_default.ensures.none)

pub returns-then-not-fits_last : goal.returns-then-not-fits_last
returns-then-not-fits_last c = λ d ls h none.
    let e = c.in-Some.ensures in
    last_refused d ls c.args.parts _ c.bad_line-then-not-fits_last.result c.bad_line-then-not-fits_last.ensures h
    (nothing-last d ls c.args.parts c.in-Some.last c.args.line.now c.args.behind.now h none e.ranges e.form (sym c.fits_last.ensures ∙ c.if-not-fits_last.true))

pub returns-then-not-is_empty : goal.returns-then-not-is_empty
returns-then-not-is_empty c = λ d ls h none.
    let e = c.in-Some.ensures in
    let some : 0 < length c.args.behind.now = some_left c.args.behind.now c.is_empty.result c.is_empty.ensures c.if-not-is_empty.true in
    last_goes_on d ls c.args.parts c.in-Some.last c.args.line.now c.args.behind.now h e.ranges (sym c.fits_last.ensures ∙ c.if-not-fits_last.false) e.form some

pub returns : goal.returns
returns c = λ d ls h none.
    let e = c.in-Some.ensures in
    let empty : c.args.behind.now ≡ [] = none_left c.args.behind.now c.is_empty.result c.is_empty.ensures c.if-not-is_empty.false in
    last_ends d ls c.args.parts c.in-Some.last c.args.line.now c.args.behind.now c.in_ok-into_report.field-0 h e.ranges (sym c.fits_last.ensures ∙ c.if-not-fits_last.false) e.form empty
    (c.in_ok-into_report.ensures d ls h)
