use Rattle.std.proofs.Common.{◌≡◌, ◌-◌, ℕ, sym, ◌∙◌, subst, arith}
use Rattle.std.specs.List.{slice_get}
use Rattle.std.specs.Option.{option_map}
use Rattle.mate_code.specs.Table.{function_kind, kind_at}
use Rattle.mate_code.proofs.TableLemmas.{kind_at-base, kind_at-group, kind_at-function}
use Rattle.mate_code.proofs.table.Table.kind.Goals as goal

pub returns-then-opcode-lt-BASE_END : goal.returns-then-opcode-lt-BASE_END
returns-then-opcode-lt-BASE_END c = kind_at-base c.args.self.now c.args.opcode _ c.if-opcode-lt-BASE_END.true

pub returns-then-opcode-first : goal.returns-then-opcode-first
returns-then-opcode-first c = kind_at-group c.args.self.now c.args.opcode _ c.if-opcode-lt-BASE_END.false (omega (arith, c.first_function-first.ensures.value))

pub returns : goal.returns
returns c =
    let t = c.args.self.now in
    let n = c.args.opcode in
    let P : ℕ → Type 0 = λ m. option_map (function_kind (n - m)) (slice_get t.sends (n - m)) ≡ kind_at t n in
    let first = c.first_function-first.ensures.value in
    c.function_kind.ensures ∙ subst P (sym first) (sym (kind_at-function t n (omega (arith, first))))
