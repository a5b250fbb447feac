use Rattle.vm_shape.specs.Shapes.{shape_of}
use Rattle.code_verifier.proofs.PassLemmas.{read-Accepts}
use Rattle.code_verifier.proofs.verifier.Verifier.check.Goals as goal

pub returns : goal.returns
returns c = read-Accepts (shape_of c.args.desc.now) c.shape.result c.args.bytes.now c.read.new.code c.read.result c.shape.ensures.value c.read.ensures
