-- What holds of the line that was read, where there is one.
use Rattle.std.proofs.Common.{◌≡◌, ℕ, List, Option, Some, None, sym, ap, ◌∙◌}
use Rattle.std.specs.Prelude.{IfSome, IfNone}
use Rattle.std.specs.Option.{option_map}
use Rattle.vm_shape.specs.declared.description.Description.{Description}
use Rattle.report_line_reader.specs.declared.line.Line.{Line}
use Rattle.report_line_reader.specs.Told.{line_words, IsRightLine, HasLineRanges}
use Rattle.report_line_reader.specs.Reading.{line_in}
use Rattle.report_line_reader.specs.declared.light_line.Bulk.{Bulk}
use Rattle.report_line_reader.specs.declared.light_line.LightLine.{LightLine}
use Rattle.report_line_reader.specs.LightLine.{bulky_line}
use Rattle.report_line_reader.proofs.LineLemmas.{line_in-words}
use Rattle.report_line_reader.proofs.WrittenLines.{line_is_read}

pub form_of : (d : Description) (bytes : List ℕ) (r : Option Line) → r ≡ line_in d bytes → IfSome r (λ l. bytes ≡ line_words d l)
form_of d bytes None h = tt
form_of d bytes (Some l) h = (line_in-words d bytes l (sym h)).words

pub right_of : (d : Description) (bytes : List ℕ) (r : Option Line) → r ≡ line_in d bytes → IfSome r (λ l. IsRightLine d l)
right_of d bytes None h = tt
right_of d bytes (Some l) h = (line_in-words d bytes l (sym h)).right

pub ranges_of : (d : Description) (bytes : List ℕ) (r : Option Line) → r ≡ line_in d bytes → IfSome r (λ l. HasLineRanges l)
ranges_of d bytes None h = tt
ranges_of d bytes (Some l) h = (line_in-words d bytes l (sym h)).ranges

-- where none was read, the bytes are the words of no line
pub none_of : (d : Description) (bytes : List ℕ) (r : Option Line) → r ≡ line_in d bytes → IfNone r ((l : Line) → IsRightLine d l → HasLineRanges l → bytes ≡ line_words d l → ⊥)
none_of d bytes (Some l) h = tt
none_of d bytes None h = λ l right ranges words.
    let e : None ≡ Some l = h ∙ ap (line_in d) words ∙ (line_is_read d l right ranges).is in absurd cc

-- ---- the same of a line whose image and store stand beside it

pub light_form : (x : Bulk) (d : Description) (bytes : List ℕ) (r : Option LightLine) → option_map (bulky_line x) r ≡ line_in d bytes → IfSome r (λ l. bytes ≡ line_words d (bulky_line x l))
light_form x d bytes None h = tt
light_form x d bytes (Some l) h = form_of d bytes (Some (bulky_line x l)) h

pub light_right : (x : Bulk) (d : Description) (bytes : List ℕ) (r : Option LightLine) → option_map (bulky_line x) r ≡ line_in d bytes → IfSome r (λ l. IsRightLine d (bulky_line x l))
light_right x d bytes None h = tt
light_right x d bytes (Some l) h = right_of d bytes (Some (bulky_line x l)) h

pub light_ranges : (x : Bulk) (d : Description) (bytes : List ℕ) (r : Option LightLine) → option_map (bulky_line x) r ≡ line_in d bytes → IfSome r (λ l. HasLineRanges (bulky_line x l))
light_ranges x d bytes None h = tt
light_ranges x d bytes (Some l) h = ranges_of d bytes (Some (bulky_line x l)) h

pub light_none : (x : Bulk) (d : Description) (bytes : List ℕ) (r : Option LightLine) → option_map (bulky_line x) r ≡ line_in d bytes
    → IfNone r ((l : Line) → IsRightLine d l → HasLineRanges l → bytes ≡ line_words d l → ⊥)
light_none x d bytes (Some l) h = tt
light_none x d bytes None h = none_of d bytes None h
