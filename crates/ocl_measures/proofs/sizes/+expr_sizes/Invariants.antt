use Rattle.std.proofs.Common.{◌≡◌, ◌+◌, ◌-◌, ◌^◌, ◌≤◌, max, map, drop}
use Rattle.ocl_program.specs.Measures.{cut, args_nodes, args_depth, args_control}
use Rattle.ocl_program.specs.Nodes.{arg_nodes}
use Rattle.ocl_program.specs.Shapes.{argument_node}
use Rattle.ocl_measures.specs.Sizes.{control_at, depth_at, nodes_at}
use Rattle.ocl_measures.proofs.sizes.+expr_sizes.Given as goal

-- the arguments so far beside those that are left are all of them
abbrev pub invariant-args_size-loop-arg : goal.invariant-args_size-loop-arg
invariant-args_size-loop-arg l =
    (cut (l.total.nodes + args_nodes (nodes_at l.fn.inner) (arg_nodes (map argument_node (drop l.arg-index l.fn.args)))) ≡ cut (args_nodes (nodes_at l.fn.inner) (arg_nodes (map argument_node l.fn.args)))) ×
    (cut (max l.total.depth (args_depth (depth_at l.fn.inner) (arg_nodes (map argument_node (drop l.arg-index l.fn.args))))) ≡ cut (args_depth (depth_at l.fn.inner) (arg_nodes (map argument_node l.fn.args)))) ×
    (cut (max l.total.control (args_control (control_at l.fn.inner) (arg_nodes (map argument_node (drop l.arg-index l.fn.args))))) ≡ cut (args_control (control_at l.fn.inner) (arg_nodes (map argument_node l.fn.args)))) ×
    (l.total.nodes ≤ 2 ^ 32 - 1) × (l.total.depth ≤ 2 ^ 32 - 1) × (l.total.control ≤ 2 ^ 32 - 1)
