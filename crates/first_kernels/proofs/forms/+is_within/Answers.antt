use Rattle.first_kernels.specs.FirstTree.{tree_of}
use Rattle.first_kernels.proofs.FirstFormLaws.{height_some}
use Rattle.first_kernels.proofs.forms.+is_within.Goals as goal

pub returns-then-limit-eq0 : goal.returns-then-limit-eq0
returns-then-limit-eq0 t c = rw c.if-limit-eq0.true (height_some (tree_of c.args.sum.now))
