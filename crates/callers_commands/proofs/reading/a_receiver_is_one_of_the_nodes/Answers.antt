use Rattle.std.proofs.Common.{ℕ, ◌<◌, [], ◌∙◌, subst, sym, lit<}
use Rattle.callers_commands.proofs.ReadLemmas.{loss_is_sound, five_are_too_few}
use Rattle.callers_commands.proofs.reading.a_receiver_is_one_of_the_nodes.Goals as goal

pub take-requires-clause-read : goal.take-requires-clause-read
take-requires-clause-read c = let d = c.args.desc.now in (d, [], c.in_ok-parts.ensures d)

pub take-requires-clause-few : goal.take-requires-clause-few
take-requires-clause-few c = subst (λ (n : ℕ). n < 4000000000) (sym (c.in_ok-parts.ensures c.args.desc.now).count) (lit< tt)

pub returns : goal.returns
returns c =
    let d = c.args.desc.now in
    let read = c.in_ok-take.ensures d [] (c.in_ok-parts.ensures d) (loss_is_sound d) in
    c.fits_last.ensures ∙ five_are_too_few c.take.new.self read.nodes
