use Rattle.std.proofs.Common.{ap, sym}
use Rattle.ts_syntax.specs.Print.{head_spelled}
use Rattle.ts_syntax.proofs.PrintLemmas.{tokens_by}
use Rattle.ts_proc_renaming.specs.Renaming.{renamed}
use Rattle.ts_proc_texts.proofs.heads.for_head.Goals as goal

pub returns : goal.returns
returns g c = tokens_by (ap (λ h. head_spelled (renamed h) c.args.head.now) (sym c.hidden-hidden.ensures)) c.for_head.ensures
