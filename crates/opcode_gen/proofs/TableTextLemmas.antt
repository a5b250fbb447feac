-- The lines of a table: what is in each, and that each function has a name.
use Rattle.std.proofs.Common.{◌≡◌, ℕ, ◌+◌, ◌<◌, List, length, map, get_or, Some, sym, ap, ◌∙◌, arith}
use Rattle.std.specs.List.{enumerate_from}
use Rattle.std.proofs.lemmas.Option.{slice_get-get_or}
use Rattle.std.proofs.lemmas.List.{length-map}
use Rattle.std.proofs.lemmas.List.FromFn.{get_or-enumerate_from}
use Rattle.mate_code.specs.declared.kind.Kind.{Kind}
use Rattle.mate_code.specs.Kind.{IsKindNamed}
use Rattle.mate_code.specs.Table.{Layout, table_of, kinds_of, kind_at}
use Rattle.mate_code.proofs.OpcodeLemmas.{opcode_of-kind_at}
use Rattle.mate_code.proofs.NameLemmas.{IsNamed-IsInTable}
use Rattle.vm_shape.specs.declared.description.Description.{Description}
use Rattle.vm_shape.specs.Shapes.{shape_of, fun_shape}
use Rattle.opcode_gen.specs.TableText.{names_of_functions, table_row, table_rows}

-- there is a kind at each opcode of the table
pub kind_at-within : (t : Layout) (n : ℕ) (d : Kind) → n < length (kinds_of t) → kind_at t n ≡ Some (get_or (kinds_of t) n d)
kind_at-within t n d within = slice_get-get_or (kinds_of t) n d within

-- what stands in the line of an opcode
pub enumerated : (kinds : List Kind) (n : ℕ) (k d : Kind) → n < length kinds → k ≡ get_or kinds n d → (n, k) ≡ get_or (enumerate_from 0 kinds) n (0, d)
enumerated kinds n k d within e =
    let at : 0 + n ≡ n = omega arith in
    ap (λ (x : Kind). (n, x)) e ∙ ap (λ (m : ℕ). (m, get_or kinds n d)) (sym at) ∙ sym (get_or-enumerate_from 0 kinds n (0, d) within)

-- a function has a name
pub length-names_of : (desc : Description) → length (names_of_functions desc) ≡ length (table_of (shape_of desc)).sends
length-names_of desc = length-map desc.functions.items (λ f. f.name) ∙ sym (length-map desc.functions.items fun_shape) ∙ sym (length-map (map fun_shape desc.functions.items) (λ f. f.send))

-- the kind at an opcode has a name
pub IsNamed-kind_at : (desc : Description) (t : Layout) (names : List (List ℕ)) (n : ℕ) (k : Kind) → t ≡ table_of (shape_of desc) → names ≡ names_of_functions desc → kind_at t n ≡ Some k → IsKindNamed names k
IsNamed-kind_at desc t names n k t_is names_is e =
    let len : length names ≡ length t.sends = ap length names_is ∙ length-names_of desc ∙ sym (ap (λ (l : Layout). length l.sends) t_is) in
    IsNamed-IsInTable t names k len (opcode_of-kind_at t n k e).in_table

-- the texts of equal names and kinds
pub rows-by : (names functions : List (List ℕ)) (t s : Layout) → names ≡ functions → t ≡ s → table_rows names (kinds_of t) ≡ table_rows functions (kinds_of s)
rows-by names functions t s e f = ap (λ (x : List (List ℕ)). table_rows x (kinds_of t)) e ∙ ap (λ (l : Layout). table_rows functions (kinds_of l)) f

-- the line of an opcode, by equal names and by its kind
pub row-by : (names functions : List (List ℕ)) (kinds : List Kind) (n : ℕ) (k d : Kind) → names ≡ functions → n < length kinds → Some k ≡ Some (get_or kinds n d) → table_row names (n, k) ≡ table_row functions (get_or (enumerate_from 0 kinds) n (0, d))
row-by names functions kinds n k d e within same =
    let k_is : k ≡ get_or kinds n d = cc in
    ap (λ (x : List (List ℕ)). table_row x (n, k)) e ∙ ap (table_row functions) (enumerated kinds n k d within k_is)
