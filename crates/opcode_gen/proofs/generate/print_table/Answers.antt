use Rattle.std.proofs.Common.{ℕ, ◌<◌, ◌≤◌, length, sym, ◌∙◌, subst, arith}
use Rattle.std.specs.List.{enumerate_from}
use Rattle.std.proofs.lemmas.List.FromFn.{length-enumerate_from}
use Rattle.mate_files.proofs.PenLemmas.{Prints-by, Prints-nil, Prints-all, Prints-next, Puts-finished}
use Rattle.mate_code.specs.declared.kind.Kind.TheVariants.{Halt}
use Rattle.mate_code.specs.Table.{table_of, kinds_of}
use Rattle.vm_shape.specs.Shapes.{shape_of}
use Rattle.opcode_gen.specs.TableText.{names_of_functions, table_row}
use Rattle.opcode_gen.proofs.TableTextLemmas.{kind_at-within, row-by, rows-by, IsNamed-kind_at}
use Rattle.opcode_gen.proofs.generate.print_table.Goals as goal

pub overflow_cast-opcode : goal.overflow_cast-opcode
overflow_cast-opcode g c = omega (arith, c.loop-index-test.true, c.len-index-end.ensures.fits)

pub loop-index-init : goal.loop-index-init
loop-index-init g c = Prints-nil

pub unreachable-requires : goal.unreachable-requires
unreachable-requires g c =
    let t = c.table-table.result in
    let n = c.loop-index.index in
    let within = subst (λ (m : ℕ). n < m) c.len-index-end.ensures.value c.loop-index-test.true in
    c.in_default.not-Some _ (c.kind.ensures ∙ kind_at-within t n Halt within)

pub print_row-requires : goal.print_row-requires
print_row-requires g c =
    IsNamed-kind_at c.args.desc.now c.table-table.result c.as_slice.result.now c.loop-index.index c.in-Some.kind c.table-table.ensures
    (c.as_slice.ensures.value ∙ c.function_names-names.ensures) (sym c.kind.ensures ∙ c.in-Some.is)

pub loop-index-preserved : goal.loop-index-preserved
loop-index-preserved g c =
    let t = c.table-table.result in
    let n = c.loop-index.index in
    let names = c.function_names-names.result.items in
    let within : n < length (kinds_of t) = subst (λ (m : ℕ). n < m) c.len-index-end.ensures.value c.loop-index-test.true in
    let entry : n < length (enumerate_from 0 (kinds_of t)) = subst (λ (m : ℕ). n < m) (sym (length-enumerate_from 0 (kinds_of t))) within in
    let known = sym c.in-Some.is ∙ c.kind.ensures ∙ kind_at-within t n Halt within in
    let printed = Prints-by (row-by c.as_slice.result.now names (kinds_of t) n c.in-Some.kind Halt c.as_slice.ensures.value within known) c.print_row.ensures in
    Prints-next (table_row names) (enumerate_from 0 (kinds_of t)) n (0, Halt) entry c.loop-index.invariant printed

pub returns : goal.returns
returns g c =
    let t = c.table-table.result in
    let n = c.loop-index.index in
    let names = c.function_names-names.result.items in
    let end : length (kinds_of t) ≤ n = subst (λ (m : ℕ). m ≤ n) c.len-index-end.ensures.value c.loop-index-test.false in
    let entry : length (enumerate_from 0 (kinds_of t)) ≤ n = subst (λ (m : ℕ). m ≤ n) (sym (length-enumerate_from 0 (kinds_of t))) end in
    let all = Prints-all (table_row names) (enumerate_from 0 (kinds_of t)) n entry c.loop-index.invariant in
    Puts-finished c.new-pen.ensures c.finish.ensures
    (Prints-by (rows-by names (names_of_functions c.args.desc.now) t (table_of (shape_of c.args.desc.now)) c.function_names-names.ensures c.table-table.ensures) all)
