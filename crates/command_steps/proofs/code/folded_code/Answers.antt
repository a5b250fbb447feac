use Rattle.std.proofs.Common.{List, ℕ, ap, sym, ◌∙◌, subst}
use Rattle.mate_code.specs.Code.{AreBytes}
use Rattle.mate_code.specs.Table.{table_of}
use Rattle.ts_checked.specs.Checked.{checked_tree, checked_shape as shape_of_script}
use Rattle.vm_shape.specs.Shapes.{shape_of}
use Rattle.command_steps.proofs.CodeLemmas.{filled, folded_code, folded_no_code}
use Rattle.command_steps.proofs.code.folded_code.Goals as goal

pub compile-requires : goal.compile-requires
compile-requires c = c.table.ensures ∙ ap table_of (sym (c.in-Ok.ensures.shape ∙ c.requires))

pub returns-in-Ok-compile-clause-gives : goal.returns-in-Ok-compile-clause-gives
returns-in-Ok-compile-clause-gives c =
    let s = c.in-Ok.script in
    let code = c.in-Ok-compile.ensures in
    let shape_is = c.in-Ok.ensures.shape ∙ c.requires in
    record {
      shape_is = shape_is;
      tree_is = c.in-Ok.ensures.tree;
      code_is = folded_code (shape_of_script s) (shape_of c.args.desc.now) (checked_tree c.args.script.now) (checked_tree s) c.in-Ok-compile.code shape_is c.in-Ok.ensures.tree
          record { compiled = code.gives; bytes = subst (λ (bytes : List ℕ). AreBytes bytes) c.as_slice.ensures.value c.bytes_are_in_range.ensures; verified = code.verified };
    }

pub returns-in-Ok-compile-clause-filled : goal.returns-in-Ok-compile-clause-filled
returns-in-Ok-compile-clause-filled c = filled (shape_of_script c.in-Ok.script) (checked_tree c.in-Ok.script) c.in-Ok-compile.code c.in-Ok-compile.ensures.gives

pub returns-in-Err-clause-gives : goal.returns-in-Err-clause-gives
returns-in-Err-clause-gives c =
    folded_no_code (checked_tree c.args.script.now) (checked_tree c.in-Ok.script) c.in-Err.fault c.in-Ok.ensures.tree c.in-Err.ensures.gives
