-- The kinds of a table have names.
use Rattle.std.proofs.Common.{◌≡◌, ℕ, ◌<◌, List, length, get_or, subst, arith}
use Rattle.std.proofs.lemmas.Option.{slice_get_within}
use Rattle.std.proofs.lemmas.List.{get_or-map, length-map}
use Rattle.mate_code.specs.declared.kind.Kind.{Kind}
use Rattle.mate_code.specs.declared.row.Opcode.{Opcode}
use Rattle.mate_code.specs.declared.row.Opcode.TheVariants.{Base, Group, Function}
use Rattle.mate_code.specs.declared.instr.Instr.{Instr}
use Rattle.mate_code.specs.Kind.{kind_of, HasName, IsKindNamed, kind_row}
use Rattle.mate_code.specs.Table.{Layout, HasOpcode, IsInTable, AreInTable}
use Rattle.mate_code.specs.Code.{instrs_of}

-- what has an opcode in the table has a name, where each function has one
has_name : (t : Layout) (functions : List (List ℕ)) (opcode : Opcode) → length functions ≡ length t.sends → HasOpcode t opcode → HasName functions opcode
has_name t functions (Base n) len h = tt
has_name t functions (Group n) len h = tt
has_name t functions (Function f send) len h = let within : f.0 < length t.sends = slice_get_within t.sends f.0 send h in omega arith

pub IsNamed-IsInTable : (t : Layout) (functions : List (List ℕ)) (k : Kind) → length functions ≡ length t.sends → IsInTable t k → IsKindNamed functions k
IsNamed-IsInTable t functions k len h = has_name t functions (kind_row k).opcode len h

-- the kind of each pair's instruction has a name
pub IsNamed-at : (t : Layout) (functions : List (List ℕ)) (pairs : List (ℕ × Instr)) (i : ℕ) (d : ℕ × Instr) → length functions ≡ length t.sends → AreInTable t (instrs_of pairs) → i < length pairs → IsKindNamed functions (kind_of (get_or pairs i d).1)
IsNamed-at t functions pairs i d len in_table within =
    let there : i < length (instrs_of pairs) = rw length-map within in
    let same : get_or (instrs_of pairs) i d.1 ≡ (get_or pairs i d).1 = get_or-map (λ (p : ℕ × Instr). p.1) pairs i d d.1 within in
    IsNamed-IsInTable t functions (kind_of (get_or pairs i d).1) len (subst (λ (x : Instr). IsInTable t (kind_of x)) same (in_table i d.1 there))
