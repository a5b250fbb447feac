use Rattle.std.proofs.Common.{◌∙◌, ap, sym, subst}
use Rattle.mate_code.specs.Run.{fetch}
use Rattle.code_verifier.specs.Verified.{VerifiedCode, IsVerifiedCode}
use Rattle.code_verifier.proofs.PassLemmas.{kept-IsRight, kept-KeepsFitting, kept-within}
use Rattle.code_verifier.proofs.verified.Verified.at.Goals as goal

pub returns-clause-right : goal.returns-clause-right
returns-clause-right c =
    let Is : VerifiedCode → Type 0 = λ v. IsVerifiedCode v in
    kept-IsRight c.args.self.now c.args.place c.at.result.now (subst Is c.self.view_is c.self.invariant)
    (ap (λ (v : VerifiedCode). fetch v.code c.args.place) (sym c.self.view_is) ∙ c.at.ensures)

pub returns-clause-fits : goal.returns-clause-fits
returns-clause-fits c =
    let Is : VerifiedCode → Type 0 = λ v. IsVerifiedCode v in
    kept-KeepsFitting c.args.self.now c.args.place c.at.result.now (subst Is c.self.view_is c.self.invariant)
    (ap (λ (v : VerifiedCode). fetch v.code c.args.place) (sym c.self.view_is) ∙ c.at.ensures)

pub returns-clause-within : goal.returns-clause-within
returns-clause-within c =
    let Is : VerifiedCode → Type 0 = λ v. IsVerifiedCode v in
    kept-within c.args.self.now c.args.place c.at.result.now (subst Is c.self.view_is c.self.invariant)
    (ap (λ (v : VerifiedCode). fetch v.code c.args.place) (sym c.self.view_is) ∙ c.at.ensures)
