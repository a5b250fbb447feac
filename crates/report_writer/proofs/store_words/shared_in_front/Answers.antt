use Rattle.std.proofs.Common.{◌≡◌, ◌+◌, ◌-◌, ◌<◌, length, pos, get_or, List, ℕ, ◌∙◌, ap, FitsSigned, rules, arith}
use Rattle.std.specs.Prelude.{ℤ}
use Rattle.std.specs.Int.{w16}
use Rattle.std.specs.List.{zip}
use Rattle.std.proofs.lemmas.Int.{to_z-of_z}
use Rattle.report_writer.specs.Words.{shared_word}
use Rattle.report_writer.proofs.ChunkLemmas.{IsInFront-by, IsInFront-start_pairs, IsInFront-next_pair, IsInFront-all}
use Rattle.report_writer.proofs.store_words.shared_in_front.Goals as goal

pub loop-left-init : goal.loop-left-init
loop-left-init g c = record {
  pieces = IsInFront-start_pairs shared_word c.args.names.now c.args.values.now c.min-left.result c.min-left.ensures;
  named = omega (arith, c.min-left.ensures);
  valued = omega (arith, c.min-left.ensures);
  fits = omega (arith, c.min-left.ensures);
}

pub loop-left-preserved : goal.loop-left-preserved
loop-left-preserved g c =
    let i = c.loop-left.left - 1 in
    let at : c.loop-left.left ≡ i + 1 = omega arith in
    let in_names : i < length c.args.names.now = omega arith in
    let in_values : i < length c.args.values.now = omega arith in
    let v = get_or c.args.values.now i (pos 0) in
    let fits : FitsSigned w16 v = search rules in
    let here = IsInFront-by (ap (λ (z : ℤ). shared_word (c.index-names-left.result, z)) (to_z-of_z w16 v fits) ∙ ap (λ (n : List ℕ). shared_word (n, v)) c.index-names-left.is) c.shared_word.ensures.adds in record {
      pieces = IsInFront-next_pair shared_word c.args.names.now c.args.values.now i c.loop-left.left c.index-names-left.result (pos 0) at in_names in_values
          here c.loop-left.invariant.pieces;
      named = omega arith;
      valued = omega arith;
      fits = omega arith;
    }

pub returns-clause-adds : goal.returns-clause-adds
returns-clause-adds g c = IsInFront-all shared_word (zip c.args.names.now c.args.values.now) c.loop-left.left (omega arith) c.loop-left.invariant.pieces
