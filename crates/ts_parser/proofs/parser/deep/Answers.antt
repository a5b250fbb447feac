use Rattle.std.proofs.Common.{[], ◌∷◌, sym, subst, take, ◌+◌}
use Rattle.ts_trees.specs.Faults.{IsUnexpectedIn}
use Rattle.ts_trees.specs.Seen.{procedure_source_of}
use Rattle.ts_parser.proofs.ParseLemmas.{deep_read, deep_cut, deep_stops, rest_length, none_left, some_left}
use Rattle.ts_parser.proofs.parser.deep.Goals as goal

pub returns-in-Ok : goal.returns-in-Ok
returns-in-Ok c = deep_read c.args.dialect c.args.tokens.now c.args.index c.index-tokens-index.result (procedure_source_of c.in-Ok.field-0) (0 ∷ []) c.requires.first c.in-Ok.ensures

pub returns-then-is_empty : goal.returns-then-is_empty
returns-then-is_empty c =
    deep_cut c.args.dialect c.args.tokens.now c.in-Err-At.rest.now c.args.index c.index-tokens-index.result c.requires.first (rw c.in-Err-At.field-0-is at c.in-Err-At.ensures)
    (none_left c.in-Err-At.rest.now c.if-is_empty.ensures)

pub place_before-requires : goal.place_before-requires
place_before-requires c = rest_length c.args.dialect (take (c.args.index + 1) c.args.tokens.now) c.in-Err-At.rest.now (rw c.in-Err-At.field-0-is at c.in-Err-At.ensures)

pub returns : goal.returns
returns c =
    subst (λ p. IsUnexpectedIn c.args.dialect c.args.tokens.now c.args.len p) (sym c.place_before.ensures)
    (deep_stops c.args.dialect c.args.tokens.now c.in-Err-At.rest.now c.args.index c.args.len c.requires.first (rw c.in-Err-At.field-0-is at c.in-Err-At.ensures) (some_left c.in-Err-At.rest.now c.if-is_empty.ensures))
