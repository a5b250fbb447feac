-- The text of a listing: a line for each instruction, with its place, its name and its operand.
use Rattle.std.specs.Prelude.{ℕ, List, [], ◌++◌, codes, decimal}
use Rattle.std.specs.List.{flat_map}
use Rattle.std.specs.Int.{w16, cast_signed}
use Rattle.std.specs.Fmt.{signed_decimal}
use Rattle.mate_code.specs.declared.kind.OperandForm.{OperandForm}
use Rattle.mate_code.specs.declared.kind.OperandForm.TheVariants.{Absent, Byte, Word, SignedWord}
use Rattle.mate_code.specs.declared.instr.Instr.{Instr}
use Rattle.mate_code.specs.Kind.{kind_of, form_of, kind_name}
use Rattle.mate_code.specs.Instr.{operand_of}

-- an operand after a space, in decimal; a word with a sign as a signed number
abbrev pub operand_text : OperandForm → ℕ → List ℕ
operand_text Absent n = []
operand_text Byte n = codes " " ++ decimal n
operand_text Word n = codes " " ++ decimal n
operand_text SignedWord n = codes " " ++ signed_decimal (cast_signed w16 n)

-- the line of an instruction at its place
abbrev pub line : List (List ℕ) → ℕ × Instr → List ℕ
line functions pair =
    decimal pair.0 ++ codes " " ++ kind_name functions (kind_of pair.1) ++ operand_text (form_of (kind_of pair.1)) (operand_of pair.1)
    ++ codes "\n"

-- the lines of instructions, one after another
abbrev pub listing_text : List (List ℕ) → List (ℕ × Instr) → List ℕ
listing_text functions pairs = flat_map (line functions) pairs
