use Rattle.std.proofs.Common.{◌∙◌, Some, ap, sym, length}
use Rattle.ts_proc_names.proofs.PlaceLemmas.{declared_none, declared_found}
use Rattle.ts_proc_names.proofs.heads.Heads.parameters.Goals as goal

pub returns-in_err-place : goal.returns-in_err-place
returns-in_err-place c =
    c.from_residual.ensures ∙ sym (declared_none (λ p. p.name.name) (λ p. length p.params) c.args.count c.args.self.now.procs.now c.args.name.now
    (sym c.place.ensures.value ∙ c.in_err-place.was))

pub returns : goal.returns
returns c =
    ap Some (c.len.ensures ∙ ap (λ p. length p.params) (sym c.index-self-place.is))
    ∙ sym (declared_found (λ p. p.name.name) (λ p. length p.params) c.args.count c.args.self.now.procs.now c.args.name.now c.in_ok-place.place c.index-self-place.result
    (sym c.in_ok-place.ensures.value) c.in_ok-place.ensures.below c.in_ok-place.ensures.within c.index-self-place.is)
