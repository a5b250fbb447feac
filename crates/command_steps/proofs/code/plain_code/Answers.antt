use Rattle.std.proofs.Common.{List, ℕ, refl, subst}
use Rattle.mate_code.specs.Code.{AreBytes}
use Rattle.ts_checked.specs.Checked.{checked_tree, checked_shape as shape_of_script}
use Rattle.vm_shape.specs.Shapes.{shape_of}
use Rattle.command_steps.proofs.CodeLemmas.{filled, plain_code}
use Rattle.command_steps.proofs.code.plain_code.Goals as goal

pub returns-in-Ok-clause-gives : goal.returns-in-Ok-clause-gives
returns-in-Ok-clause-gives c =
    record {
      shape_is = c.requires;
      tree_is = refl;
      code_is = plain_code (shape_of_script c.args.script) (shape_of c.args.desc.now) (checked_tree c.args.script) c.in-Ok.code c.requires
          record {
            compiled = c.in-Ok.ensures.gives;
            bytes = subst (λ (bytes : List ℕ). AreBytes bytes) c.as_slice.ensures.value c.bytes_are_in_range.ensures;
            verified = c.in-Ok.ensures.verified;
          };
    }

pub returns-in-Ok-clause-filled : goal.returns-in-Ok-clause-filled
returns-in-Ok-clause-filled c = filled (shape_of_script c.args.script) (checked_tree c.args.script) c.in-Ok.code c.in-Ok.ensures.gives
