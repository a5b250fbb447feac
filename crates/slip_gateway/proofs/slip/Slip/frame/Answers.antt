use Rattle.slip_gateway.proofs.FedLemmas.{ends_long, ends_whole, ends_broken}
use Rattle.slip_gateway.proofs.slip.Slip.frame.Goals as goal

pub returns-in-Whole : goal.returns-in-Whole
returns-in-Whole c = λ begun h. ends_long c.args.self.now begun c.is_full-fits.ensures.fits c.in-Whole.is c.if-self.true h

pub returns-in-Whole-2 : goal.returns-in-Whole-2
returns-in-Whole-2 c =
    λ begun h. ends_whole c.args.self.now begun c.as_slice.result.now c.as_slice.ensures.value c.is_full-fits.ensures.fits c.in-Whole-2.is c.if-self.false h

pub returns-in-Open : goal.returns-in-Open
returns-in-Open c = λ begun h. ends_broken c.args.self.now begun c.is_full-fits.ensures.fits c.in-Open.is h
