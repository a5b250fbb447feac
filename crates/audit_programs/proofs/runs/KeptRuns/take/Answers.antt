use Rattle.std.proofs.Common.{◌<◌, Option, None, List, length, sym, ◌∙◌, subst, arith}
use Rattle.std.specs.Prelude.{IfSome}
use Rattle.std.proofs.lemmas.List.{get_or_default}
use Rattle.audit_programs.specs.declared.kept.KeptRun.{KeptRun}
use Rattle.audit_programs.specs.Kept.{IsKept}
use Rattle.audit_programs.proofs.KeptLemmas.{kept-set}
use Rattle.audit_programs.proofs.runs.KeptRuns.take.Goals as goal

pub returns : goal.returns
returns c = λ d all.
    let items : List (Option KeptRun) = c.args.self.now.runs.items in
    let i = c.from-place.result in
    let low = c.if-place-len.false in
    let long = c.len.ensures in
    let below : i < length items = omega (arith, low, long) in (
      subst (λ (o : Option KeptRun). IfSome o (IsKept d)) (sym (c.take.ensures.value ∙ c.index_mut.ensures.value ∙ get_or_default items i c.index_mut.result.now None below)) (all i),
      kept-set d items i c.take.new.self all (subst (λ (o : Option KeptRun). IfSome o (IsKept d)) (sym c.take.ensures.after) tt),
    )
