use Rattle.std.proofs.Common.{◌∙◌, sym, ap}
use Rattle.std.specs.Prelude.{bytes_eq}
use Rattle.std.proofs.lemmas.Map.Text.{btree_map_updates_str}
use Rattle.ts_proc_names.specs.Numbers.{number_of_name, kept_or}
use Rattle.ts_proc_names.proofs.PlaceLemmas.{updated}
use Rattle.ts_proc_names.proofs.name_table.NameTable.add.Goals as goal

pub returns : goal.returns
returns c = λ q.
    btree_map_updates_str c.as_str-name.result.now c.args.self.now.numbers c.insert.new.self _ c.in_ok-insert.ensures.updates q
    ∙ updated (number_of_name c.args.self.now) c.as_str-name.result.now q c.args.place (sym c.contains_key.ensures ∙ c.if-contains_key.false)
    ∙ ap (λ bs. kept_or (number_of_name c.args.self.now q) (bytes_eq q bs) c.args.place) c.as_str-name.ensures.value
