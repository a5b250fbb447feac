use Rattle.std.proofs.Common.{ap, sym, ◌∙◌}
use Rattle.std.proofs.lemmas.List.{drop_all}
use Rattle.ts_checker.specs.Names.{names_before, declare_all}
use Rattle.ts_checker.specs.Seen.{scope_names}
use Rattle.ts_checker.proofs.CheckLemmas.{refuses_with}
use Rattle.ts_checker.proofs.DeclLemmas.{decls_refused, decls_after}
use Rattle.ts_checker.proofs.RoomLemmas.{fit_none}
use Rattle.ts_checker.proofs.scope.Scope.of.Goals as goal

pub loop-decl-init : goal.loop-decl-init
loop-decl-init c =
    (ap (λ xs. declare_all (record { machine = c.args.desc.now; declared = xs }) c.args.decls.now) (sym c.new.ensures), fit_none c.args.desc.now c.new.result.items c.new.ensures)

pub returns-in_err-declare : goal.returns-in_err-declare
returns-in_err-declare c =
    refuses_with _ c.in_err-declare.field-0.0 c.from_residual.result (declare_all (names_before c.args.desc.now) c.args.decls.now) c.from_residual.ensures.1
    (c.loop-decl.invariant.0 ∙ decls_refused (scope_names c.loop-decl.scope) c.args.decls.now c.loop-decl.decl-index c.decl-item.result c.in_err-declare.field-0.0
    c.loop-decl-test.true c.decl-item.is c.in_err-declare.ensures.value)

pub declare-requires : goal.declare-requires
declare-requires c = c.loop-decl.invariant.1

pub loop-decl-preserved : goal.loop-decl-preserved
loop-decl-preserved c = (
  c.loop-decl.invariant.0 ∙ decls_after (scope_names c.loop-decl.scope) (scope_names c.declare.new.self) c.args.decls.now c.loop-decl.decl-index c.decl-item.result c.loop-decl-test.true c.decl-item.is
      c.in_ok-declare.ensures.value,
  c.in_ok-declare.ensures.fit,
)

pub returns : goal.returns
returns c = c.loop-decl.invariant.0 ∙ ap (declare_all (scope_names c.loop-decl.scope)) (drop_all _ _ c.loop-decl-test.false)
