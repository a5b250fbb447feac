use Rattle.std.proofs.Common.{◌≡◌, List, Option, Some, None, [], ap, map, sym, ◌∙◌, codes, option_map, unwrap_or, rules, Bor}
use Rattle.clap.specs.Words.{Text, found_of, matched_of, raw_values}
use Rattle.command_line.proofs.RowLemmas.{values-row}
use Rattle.command_line.proofs.words.args_in.Goals as goal

abbrev or_none : Option (List Text) → List Text
or_none o = unwrap_or o []

pub returns-in_default-clause-args : goal.returns-in_default-clause-args
returns-in_default-clause-args c =
    let none : option_map raw_values (matched_of (found_of c.args.matches.now) (codes "args")) ≡ None = search rules in
    ap (map (λ (w : Bor Text). w.now)) c.new-args.ensures.items ∙ ap or_none (sym none ∙ values-row (found_of c.args.matches.now) (codes "args"))

pub returns-clause-args : goal.returns-clause-args
returns-clause-args c =
    let some : option_map raw_values (matched_of (found_of c.args.matches.now) (codes "args")) ≡ Some (map (λ (w : Bor Text). w.now) c.in-Some.given.now) = search rules in
    let items : c.extend_from_slice.new.self.items ≡ c.in-Some.given.now = search rules in
    ap (map (λ (w : Bor Text). w.now)) items ∙ ap or_none (sym some ∙ values-row (found_of c.args.matches.now) (codes "args"))
