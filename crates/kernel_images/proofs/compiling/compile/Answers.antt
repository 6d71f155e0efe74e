use Rattle.std.proofs.Common.{◌≡◌, ◌<◌, refl, length, map, slice_get, Some, ℕ, List}
use Rattle.ocl_types.specs.Functions.{kernel_from}
use Rattle.std.proofs.lemmas.Option.{slice_get_read}
use Rattle.ocl_program.specs.Nodes.{FunctionNode}
use Rattle.ocl_program.specs.Shapes.{function_node}
use Rattle.structured.proofs.Found.{found_kernel}
use Rattle.kernel_images.specs.Refusals.{IsRefused, IsTooLarge}
use Rattle.kernel_images.specs.declared.compiling.CompileFault.{CompileFault}
use Rattle.kernel_images.specs.declared.compiling.CompileFault.TheVariants.{NoEntry, Slots, Words, Memory}
use Rattle.kernel_images.proofs.Named.{node_at}
use Rattle.kernel_images.proofs.compiling.compile.Goals as goal

-- what is too large in the kernel of a name refuses the name
refused : (program : List FunctionNode) (name : List ℕ) (number : ℕ) (kernel : FunctionNode) → kernel_from 0 name program ≡ Some number
    → slice_get program number ≡ Some kernel → (fault : CompileFault) → IsTooLarge program number kernel.name.pos fault → IsRefused program name fault
refused program name number kernel found is NoEntry none = absurd none
refused program name number kernel found is (Slots pos slots) large =
    (number, (record { kernel = kernel; found = found; is = is; here = large.0 }, large.1))
refused program name number kernel found is (Words pos words) large =
    (number, (record { kernel = kernel; found = found; is = is; here = large.0 }, large.1))
refused program name number kernel found is Memory none = absurd none

pub returns-in-Err-clause-refused : goal.returns-in-Err-clause-refused
returns-in-Err-clause-refused c =
    let program : List FunctionNode = map function_node c.args.program.now.functions.items in
    let found : kernel_from 0 c.args.entry.now program ≡ Some c.in-Some.kernel = cc in
    let within : c.in-Some.kernel < length c.args.program.now.functions.items = c.in-Some.ensures.within in
    refused program c.args.entry.now c.in-Some.kernel (function_node c.index.result.now) found
    (node_at c.args.program.now.functions.items c.in-Some.kernel c.index.result.now (slice_get_read c.args.program.now.functions.items (length c.args.program.now.functions.items) c.in-Some.kernel c.index.result.now refl within c.index.ensures)) c.in-Err.fault c.in-Err.ensures.large

pub image_of-requires-clause-kernel : goal.image_of-requires-clause-kernel
image_of-requires-clause-kernel c =
    let program : List FunctionNode = map function_node c.args.program.now.functions.items in
    let found : kernel_from 0 c.args.entry.now program ≡ Some c.in-Some.kernel = cc in
    found_kernel program c.args.entry.now c.in-Some.kernel found
