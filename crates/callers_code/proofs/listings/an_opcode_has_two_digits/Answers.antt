use Rattle.callers_code.proofs.ListingLemmas.{table_of_builtin}
use Rattle.callers_code.proofs.listings.an_opcode_has_two_digits.Goals as goal

pub returns : goal.returns
returns g c = rw (← table_of_builtin c.builtin.result c.builtin.ensures) c.print_table.ensures
