use Rattle.std.proofs.Common.{◌≡◌, ◌+◌, ◌-◌, ◌^◌, ◌≤◌, max, drop}
use Rattle.ocl_program.specs.Measures.{cut, stmts_size, stmts_depth, stmts_control}
use Rattle.ocl_program.specs.Shapes.{typed_stmts}
use Rattle.ocl_measures.specs.Sizes.{control_at, depth_at, nodes_at}
use Rattle.ocl_measures.proofs.sizes.+stmt_sizes.Given as goal

-- the statements so far beside those that are left are all of them
abbrev pub invariant-stmts_size-loop-stmt : goal.invariant-stmts_size-loop-stmt
invariant-stmts_size-loop-stmt l =
    (cut (l.total.nodes + stmts_size (nodes_at l.fn.inner) (typed_stmts (drop l.stmt-index l.fn.stmts))) ≡ cut (stmts_size (nodes_at l.fn.inner) (typed_stmts l.fn.stmts))) ×
    (cut (max l.total.depth (stmts_depth (depth_at l.fn.inner) (typed_stmts (drop l.stmt-index l.fn.stmts)))) ≡ cut (stmts_depth (depth_at l.fn.inner) (typed_stmts l.fn.stmts))) ×
    (cut (max l.total.control (stmts_control (control_at l.fn.inner) (typed_stmts (drop l.stmt-index l.fn.stmts)))) ≡ cut (stmts_control (control_at l.fn.inner) (typed_stmts l.fn.stmts))) ×
    (l.total.nodes ≤ 2 ^ 32 - 1) × (l.total.depth ≤ 2 ^ 32 - 1) × (l.total.control ≤ 2 ^ 32 - 1)
