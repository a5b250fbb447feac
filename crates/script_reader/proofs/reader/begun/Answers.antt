use Rattle.std.proofs.Common.{refl}
use Rattle.script_reader.proofs.SeriesLemmas.{tables_none}
use Rattle.script_reader.proofs.reader.begun.Goals as goal

pub returns-clause-tables : goal.returns-clause-tables
returns-clause-tables c = tables_none 4096 2048 c.no_links.result c.no_places.result _ c.no_links.ensures c.no_places.ensures refl refl c.new.ensures c.new-2.ensures
