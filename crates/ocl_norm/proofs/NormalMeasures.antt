-- What the normal form keeps of a kernel's measures.
use Rattle.std.proofs.Common.{◌+◌, ◌-◌, ◌*◌, ◌≤◌, arith}
use Rattle.kir.specs.FlaggedWords.{flagged_words}
use Rattle.kir.specs.Loops.{loop_nesting}
use Rattle.kir.specs.Measures.{nesting}
use Rattle.kir.proofs.LoopLaws.{fewer_loops}
use Rattle.ocl_inline.specs.FlatMeasures.{flat_calls, flat_control, flat_nodes}
use Rattle.ocl_inline.specs.Trees.{FlatKernel}
use Rattle.ocl_norm.specs.Kept.{KeepsMeasures}
use Rattle.ocl_norm.specs.Normal.{normal_kernel}
use Rattle.ocl_norm.specs.Rooms.{stmts_room}
use Rattle.ocl_norm.proofs.BelowKept.{kernel_below}
use Rattle.ocl_norm.proofs.ChecksKept.{kernel_checked}
use Rattle.ocl_norm.proofs.DepthKept.{Within, kernel_within}
use Rattle.ocl_norm.proofs.RoomKept.{kernel_room}
use Rattle.ocl_norm.proofs.SitesKept.{kernel_counts, kernel_different}
use Rattle.ocl_norm.proofs.TypesKept.{kernel_typed}
use Rattle.ocl_norm.proofs.WordsKept.{kernel_words}

pub normal_measures : (kernel : FlatKernel) → KeepsMeasures kernel (normal_kernel kernel)
normal_measures kernel =
    let within : Within (flat_control kernel.body) (flat_calls kernel.body) (normal_kernel kernel).ops = kernel_within kernel in
    let words : flagged_words (normal_kernel kernel).ops + (stmts_room kernel.body - 1 + flat_calls kernel.body + 4 * flat_control kernel.body)
    ≤ 38 * flat_nodes kernel.body = kernel_words kernel in
    let nested : nesting (normal_kernel kernel).ops ≤ flat_control kernel.body = within.nested in
    let fewer : loop_nesting (normal_kernel kernel).ops ≤ nesting (normal_kernel kernel).ops = fewer_loops (normal_kernel kernel).ops in
    record {
      barriers = kernel_counts kernel;
      distinct = kernel_different kernel;
      nested = nested;
      branched = within.branched;
      looped = omega arith;
      called = within.called;
      counted = kernel_room kernel;
      words = omega arith;
      typed = kernel_typed kernel;
      checked = kernel_checked kernel;
      below = kernel_below kernel;
    }
