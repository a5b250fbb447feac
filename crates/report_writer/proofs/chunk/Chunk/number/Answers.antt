use Rattle.std.proofs.Common.{◌≡◌, ◌+◌, ◌∙◌, length, drop, arith, rules, ap, length-append}
use Rattle.std.specs.Fmt.{decimal}
use Rattle.std.proofs.lemmas.List.{length-drop}
use Rattle.report_writer.proofs.chunk.Chunk.number.Goals as goal

pub write_digits-self-inside-requires : goal.write_digits-self-inside-requires
write_digits-self-inside-requires g c =
    let now : drop c.self.inside.start c.self.inside.bytes ≡ c.args.self.now = c.self.view_is in
    let long : length c.self.inside.bytes ≡ g.row.ROOM = search rules in
    (omega (arith, long, c.requires, ap length now, length-drop c.self.inside.start c.self.inside.bytes), search rules)

pub returns-clause-fits : goal.returns-clause-fits
returns-clause-fits g c =
    let w = c.write_digits-self-inside in
    let now : drop c.self.inside.start c.self.inside.bytes ≡ c.args.self.now = c.self.view_is in
    ap length w.ensures.written ∙ length-append (decimal c.args.number) (drop c.self.inside.start c.self.inside.bytes)
    ∙ ap (λ n. length (decimal c.args.number) + n) (ap length now)
