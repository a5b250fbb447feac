use Rattle.std.proofs.Common.{◌≡◌, ℕ, List, Option, ◌∙◌, ap, subst}
use Rattle.std.specs.Option.{is_some}
use Rattle.std.specs.List.{position}
use Rattle.lock_manager.specs.declared.claim.Claim.{Claim}
use Rattle.lock_manager.specs.Claims.{Claims, is_of, set_of}
use Rattle.lock_manager.proofs.LockLemmas.{is_some-position}
use Rattle.lock_manager.proofs.locks.Locks.is_started.Goals as goal

pub returns : goal.returns
returns c =
    let P : Claims → Type 0 = λ s. c.is_some.result ≡ is_some (set_of s.started c.args.ctx) in
    subst P c.self.view_is
    (c.is_some.ensures
    ∙ ap (λ (o : Option ℕ). is_some o) (c.place_of.ensures ∙ ap (λ (xs : List Claim). position (is_of c.args.ctx) xs) c.as_slice.ensures.value)
    ∙ is_some-position c.self.inside.started.items c.args.ctx)
