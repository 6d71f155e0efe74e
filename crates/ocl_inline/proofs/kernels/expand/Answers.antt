use Rattle.std.proofs.Common.{map}
use Rattle.ocl_program.specs.Shapes.{function_node}
use Rattle.ocl_inline.specs.Shapes.{kernel_of}
use Rattle.program_laws.proofs.NoRecursion.{none_recursive}
use Rattle.ocl_inline.proofs.Flats.{asks_as, flat_is, no_recursion, spends_as}
use Rattle.ocl_inline.proofs.KernelLaws.{kernel_measures, kernel_sites, kernel_variables}
use Rattle.ocl_inline.proofs.kernels.expand.Goals as goal

pub returns-clause-asks : goal.returns-clause-asks
returns-clause-asks c =
    let functions = map function_node c.args.program.now.functions.items in
    let flat = kernel_of c.in_ok-flat.flat in
    asks_as functions (no_recursion functions none_recursive c.args.program.now.typed) c.args.kernel flat (flat_is functions c.args.kernel flat c.in_ok-flat.ensures)

pub returns-clause-spends : goal.returns-clause-spends
returns-clause-spends c =
    let functions = map function_node c.args.program.now.functions.items in
    let flat = kernel_of c.in_ok-flat.flat in
    spends_as functions (no_recursion functions none_recursive c.args.program.now.typed) c.args.kernel flat (flat_is functions c.args.kernel flat c.in_ok-flat.ensures)

pub returns-clause-sites : goal.returns-clause-sites
returns-clause-sites c =
    let functions = map function_node c.args.program.now.functions.items in
    let flat = kernel_of c.in_ok-flat.flat in
    kernel_sites functions c.args.program.now.typed c.args.kernel flat (flat_is functions c.args.kernel flat c.in_ok-flat.ensures)

pub returns-clause-variables : goal.returns-clause-variables
returns-clause-variables c =
    let functions = map function_node c.args.program.now.functions.items in
    let flat = kernel_of c.in_ok-flat.flat in
    kernel_variables functions c.args.program.now.typed c.args.kernel flat (flat_is functions c.args.kernel flat c.in_ok-flat.ensures)

pub returns-clause-measures : goal.returns-clause-measures
returns-clause-measures c =
    let functions = map function_node c.args.program.now.functions.items in
    let flat = kernel_of c.in_ok-flat.flat in
    kernel_measures functions c.args.program.now.typed c.args.kernel flat (flat_is functions c.args.kernel flat c.in_ok-flat.ensures)
