-- The marks of a pass, kept in a list by place.
use Rattle.std.specs.Prelude.{List, slice_index_or}
use Rattle.mate_code.specs.Verification as verification
use Rattle.code_verifier.specs.declared.marks.Mark.{Mark}
use Rattle.code_verifier.specs.declared.marks.Mark.TheVariants.{Blank, Depth, Clash}

abbrev pub mark_in : Mark → verification.DepthMark
mark_in Blank = verification.Blank
mark_in (Depth n) = verification.Depth n
mark_in Clash = verification.Clash

-- the marks that a list holds; blank from its length on
abbrev pub marks_in : List Mark → verification.Marks
marks_in marks = λ place. mark_in (slice_index_or marks place Blank)
