-- A line beside its image and its store.
use Rattle.report_line_reader.specs.declared.light_line.Bulk.{Bulk}
use Rattle.report_line_reader.specs.declared.light_line.LightTold.{LightTold}
use Rattle.report_line_reader.specs.declared.light_line.LightTold.TheVariants as light
use Rattle.report_line_reader.specs.declared.light_line.LightLine.{LightLine}
use Rattle.report_line_reader.specs.declared.line.Told.{Told}
use Rattle.report_line_reader.specs.declared.line.Told.TheVariants as told
use Rattle.report_line_reader.specs.declared.line.Line.{Line}

-- what happened, with the image and the store that are beside it
abbrev pub told_with : Bulk → LightTold → Told
told_with x (light.OnAir a) = told.OnAir a
told_with x (light.Made e) = told.Made e
told_with x (light.Installed h version) = told.Installed h version x.image
told_with x light.Shown = told.Shown x.store

abbrev pub bulky_line : Bulk → LightLine → Line
bulky_line x l = record { stamp = l.stamp; node = l.node; told = told_with x l.told }
