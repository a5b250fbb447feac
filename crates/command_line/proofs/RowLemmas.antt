-- What was found for an argument, and its row.
use Rattle.std.proofs.Common.{◌≡◌, Option, None, Some, option_map, option_and_then, find, refl, ap, sym, ◌∙◌}
use Rattle.std.specs.Str.{bytes_eq}
use Rattle.clap.specs.Facts.{Entry}
use Rattle.clap.specs.Words.{Row, Text, matched_of, raw_values, rows_of, all_of}
use Rattle.clap.specs.Walk.{row_of}
use Rattle.clap.specs.declared.parser.matches.Found.{Found}
use Rattle.clap.proofs.WalkLemmas.{find_row}

-- where the value of an argument comes from
pub source-row : (f : Found) (id : Text) → option_and_then (λ a. a.source) (matched_of f id) ≡ option_and_then (λ (r : Row). r.source) (find (λ r. bytes_eq r.id id) (rows_of f))
source-row f id = go (find (λ e. bytes_eq e.0.now id) f.entries.items) ∙ ap (λ (o : Option Row). option_and_then (λ (r : Row). r.source) o) (sym (find_row f.entries.items id))
  where
    go : (o : Option Entry) → option_and_then (λ a. a.source) (option_map (λ e. e.1) o) ≡ option_and_then (λ (r : Row). r.source) (option_map row_of o)
    go None = refl
    go (Some e) = refl

-- the values of an argument
pub values-row : (f : Found) (id : Text) → option_map raw_values (matched_of f id) ≡ all_of id (rows_of f)
values-row f id = go (find (λ e. bytes_eq e.0.now id) f.entries.items) ∙ ap (λ (o : Option Row). option_map (λ (r : Row). r.values) o) (sym (find_row f.entries.items id))
  where
    go : (o : Option Entry) → option_map raw_values (option_map (λ e. e.1) o) ≡ option_map (λ (r : Row). r.values) (option_map row_of o)
    go None = refl
    go (Some e) = refl
