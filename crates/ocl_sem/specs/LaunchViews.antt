-- Which launch the code's items are of.
use Rattle.std.specs.Prelude.{map}
use Rattle.ocl_program.specs.Shapes.{function_node}
use Rattle.ocl_sem.specs.declared.items.Items.{Items}
use Rattle.ocl_sem.specs.Launched.{Launched}

abbrev pub launch_in : Items → Launched
launch_in items = record {
  program = map function_node items.program.now;
  kernel = function_node items.kernel.now;
  range = items.range;
  bounds = items.bounds;
}
