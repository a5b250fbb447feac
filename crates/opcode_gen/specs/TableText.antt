-- The text of a machine's opcode table: a line for each opcode, with its name and the number of its operand's bytes.
use Rattle.std.specs.Prelude.{ℕ, List, [], ◌∷◌, ◌++◌, map, codes, decimal}
use Rattle.std.specs.List.{flat_map, enumerate_from}
use Rattle.mate_files.specs.Pen.{encode_lower}
use Rattle.mate_code.specs.declared.kind.Kind.{Kind}
use Rattle.mate_code.specs.Kind.{form_of, kind_name}
use Rattle.mate_code.specs.Row.{width_of}
use Rattle.mate_code.specs.Table.{table_of, kinds_of}
use Rattle.vm_shape.specs.declared.description.Description.{Description}
use Rattle.vm_shape.specs.Shapes.{shape_of}

-- the names of a machine's functions, in their order
abbrev pub names_of_functions : Description → List (List ℕ)
names_of_functions desc = map (λ f. f.name) desc.functions.items

-- a line: the opcode in two hexadecimal digits, the name, and the number of operand bytes
abbrev pub table_row : List (List ℕ) → ℕ × Kind → List ℕ
table_row functions entry =
    encode_lower (entry.0 ∷ []) ++ codes " " ++ kind_name functions entry.1
    ++ codes " " ++ decimal (width_of (form_of entry.1)) ++ codes "\n"

-- the lines of the opcodes, from 0 on
abbrev pub table_rows : List (List ℕ) → List Kind → List ℕ
table_rows functions kinds = flat_map (table_row functions) (enumerate_from 0 kinds)

-- the text of a description's table
abbrev pub table_text : Description → List ℕ
table_text desc = table_rows (names_of_functions desc) (kinds_of (table_of (shape_of desc)))
