use Rattle.callers_code.proofs.ListingLemmas.{table_of_sending}
use Rattle.callers_code.proofs.listings.a_width_is_that_of_the_operand_alone.Goals as goal

pub returns : goal.returns
returns g c = rw (← table_of_sending c.args.desc.now c.requires.buffers c.requires.functions) c.print_table.ensures
