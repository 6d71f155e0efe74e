use Rattle.std.proofs.Common.{map}
use Rattle.std.proofs.Math.Bridge.{le_prop}
use Rattle.std.proofs.Math.Logic.{∥∥₁_elim}
use Rattle.ocl_program.specs.Shapes.{function_node}
use Rattle.ocl_inline.specs.Shapes.{kernel_of}
use Rattle.ocl_launch.proofs.Room.{flat_room}
use Rattle.ocl_launch.proofs.launches.flat_items_of.Goals as goal

pub of-requires : goal.of-requires
of-requires c = record {
  room = λ array. ∥∥₁_elim c.args.program.now.typed le_prop
      (λ is. flat_room (map function_node c.args.program.now.functions.items) is c.args.kernel (kernel_of c.args.flat.now) c.args.bounds c.requires.flat c.requires.kinds array);
}
