use Rattle.std.proofs.Common.{map}
use Rattle.kir.specs.Shapes.{code_of}
use Rattle.ocl_inline.specs.Shapes.{kernel_of}
use Rattle.ocl_program.specs.Shapes.{function_node}
use Rattle.structured.proofs.Sizes.{flagged_fits, normal_fits}
use Rattle.structured.proofs.kernels.passed.Goals as goal

pub normalise-requires : goal.normalise-requires
normalise-requires c = record {
  numbers = normal_fits (map function_node c.args.program.now.functions.items) c.args.program.now.typed c.args.kernel c.requires.kernel c.requires.depth
      (kernel_of c.in_ok-flat.flat) c.in_ok-flat.ensures.flat;
}

pub flags-requires : goal.flags-requires
flags-requires c = record {
  numbers = flagged_fits (map function_node c.args.program.now.functions.items) c.args.program.now.typed c.args.kernel c.requires.kernel c.requires.depth
      (kernel_of c.in_ok-flat.flat) c.in_ok-flat.ensures.flat (code_of c.in_ok-normal.normal) c.in_ok-normal.ensures.normal;
}
