use Rattle.std.proofs.Common.{◌≡◌, ap, ◌∙◌, map, arith}
use Rattle.ocl_program.proofs.Rows.{call_node, builtin_node}
use Rattle.ocl_program.specs.Measures.{nodes, args_nodes, depth, args_depth, control, args_control}
use Rattle.ocl_program.specs.Nodes.{CallNode, BuiltinNode, arg_nodes}
use Rattle.ocl_program.specs.Shapes.{argument_node, node_of}
use Rattle.ocl_measures.proofs.Steps.{all_left}
use Rattle.ocl_measures.specs.Sizes.{control_at, depth_at, nodes_at}
use Rattle.ocl_measures.proofs.sizes.+expr_sizes.Goals as goal

pub expr_size-returns-in-Call-clause-nodes : goal.expr_size-returns-in-Call-clause-nodes
expr_size-returns-in-Call-clause-nodes t c =
    let i = nodes_at c.args.inner in
    let items : args_nodes i (arg_nodes (map argument_node c.deref-in-Call.result.now)) ≡ args_nodes i (arg_nodes (map argument_node c.in-Call.args.items)) = ap (λ xs. args_nodes i (arg_nodes (map argument_node xs))) c.deref-in-Call.ensures.value in
    let whole : nodes i (node_of c.args.expr.now) ≡ nodes i (CallNode c.in-Call.call (arg_nodes (map argument_node c.in-Call.args.items))) = ap (λ n. nodes i (node_of n)) c.in-Call.is ∙ ap (nodes i) (call_node c.in-Call.call c.in-Call.args) in
    omega (arith, items, whole, c.args_size.ensures.nodes, c.size_at.ensures.nodes, c.beside.ensures.nodes, c.over-in-Call.ensures.nodes)

pub expr_size-returns-in-Builtin-clause-nodes : goal.expr_size-returns-in-Builtin-clause-nodes
expr_size-returns-in-Builtin-clause-nodes t c =
    let i = nodes_at c.args.inner in
    let items : args_nodes i (arg_nodes (map argument_node c.deref-in-Builtin.result.now)) ≡ args_nodes i (arg_nodes (map argument_node c.in-Builtin.args.items)) = ap (λ xs. args_nodes i (arg_nodes (map argument_node xs))) c.deref-in-Builtin.ensures.value in
    let whole : nodes i (node_of c.args.expr.now) ≡ nodes i (BuiltinNode c.in-Builtin.which c.in-Builtin.unsigned (arg_nodes (map argument_node c.in-Builtin.args.items))) = ap (λ n. nodes i (node_of n)) c.in-Builtin.is ∙ ap (nodes i) (builtin_node c.in-Builtin.which c.in-Builtin.unsigned c.in-Builtin.args) in
    omega (arith, items, whole, c.args_size-in-Builtin.ensures.nodes, c.over-in-Builtin.ensures.nodes)

pub expr_size-returns-in-Call-clause-depth : goal.expr_size-returns-in-Call-clause-depth
expr_size-returns-in-Call-clause-depth t c =
    let i = depth_at c.args.inner in
    let items : args_depth i (arg_nodes (map argument_node c.deref-in-Call.result.now)) ≡ args_depth i (arg_nodes (map argument_node c.in-Call.args.items)) = ap (λ xs. args_depth i (arg_nodes (map argument_node xs))) c.deref-in-Call.ensures.value in
    let whole : depth i (node_of c.args.expr.now) ≡ depth i (CallNode c.in-Call.call (arg_nodes (map argument_node c.in-Call.args.items))) = ap (λ n. depth i (node_of n)) c.in-Call.is ∙ ap (depth i) (call_node c.in-Call.call c.in-Call.args) in
    omega (arith, items, whole, c.args_size.ensures.depth, c.size_at.ensures.depth, c.beside.ensures.depth, c.over-in-Call.ensures.depth)

pub expr_size-returns-in-Builtin-clause-depth : goal.expr_size-returns-in-Builtin-clause-depth
expr_size-returns-in-Builtin-clause-depth t c =
    let i = depth_at c.args.inner in
    let items : args_depth i (arg_nodes (map argument_node c.deref-in-Builtin.result.now)) ≡ args_depth i (arg_nodes (map argument_node c.in-Builtin.args.items)) = ap (λ xs. args_depth i (arg_nodes (map argument_node xs))) c.deref-in-Builtin.ensures.value in
    let whole : depth i (node_of c.args.expr.now) ≡ depth i (BuiltinNode c.in-Builtin.which c.in-Builtin.unsigned (arg_nodes (map argument_node c.in-Builtin.args.items))) = ap (λ n. depth i (node_of n)) c.in-Builtin.is ∙ ap (depth i) (builtin_node c.in-Builtin.which c.in-Builtin.unsigned c.in-Builtin.args) in
    omega (arith, items, whole, c.args_size-in-Builtin.ensures.depth, c.over-in-Builtin.ensures.depth)

pub expr_size-returns-in-Call-clause-control : goal.expr_size-returns-in-Call-clause-control
expr_size-returns-in-Call-clause-control t c =
    let i = control_at c.args.inner in
    let items : args_control i (arg_nodes (map argument_node c.deref-in-Call.result.now)) ≡ args_control i (arg_nodes (map argument_node c.in-Call.args.items)) = ap (λ xs. args_control i (arg_nodes (map argument_node xs))) c.deref-in-Call.ensures.value in
    let whole : control i (node_of c.args.expr.now) ≡ control i (CallNode c.in-Call.call (arg_nodes (map argument_node c.in-Call.args.items))) = ap (λ n. control i (node_of n)) c.in-Call.is ∙ ap (control i) (call_node c.in-Call.call c.in-Call.args) in
    omega (arith, items, whole, c.args_size.ensures.control, c.size_at.ensures.control, c.beside.ensures.control, c.over-in-Call.ensures.control)

pub expr_size-returns-in-Builtin-clause-control : goal.expr_size-returns-in-Builtin-clause-control
expr_size-returns-in-Builtin-clause-control t c =
    let i = control_at c.args.inner in
    let items : args_control i (arg_nodes (map argument_node c.deref-in-Builtin.result.now)) ≡ args_control i (arg_nodes (map argument_node c.in-Builtin.args.items)) = ap (λ xs. args_control i (arg_nodes (map argument_node xs))) c.deref-in-Builtin.ensures.value in
    let whole : control i (node_of c.args.expr.now) ≡ control i (BuiltinNode c.in-Builtin.which c.in-Builtin.unsigned (arg_nodes (map argument_node c.in-Builtin.args.items))) = ap (λ n. control i (node_of n)) c.in-Builtin.is ∙ ap (control i) (builtin_node c.in-Builtin.which c.in-Builtin.unsigned c.in-Builtin.args) in
    omega (arith, items, whole, c.args_size-in-Builtin.ensures.control, c.over-in-Builtin.ensures.control)

pub args_size-returns-clause-nodes : goal.args_size-returns-clause-nodes
args_size-returns-clause-nodes t c =
    let none = all_left c.args.args.now c.loop-arg.arg-index (omega arith) in
    let rest = ap (λ xs. args_nodes (nodes_at c.args.inner) (arg_nodes (map argument_node (xs)))) none in
    omega (arith, rest, c.loop-arg.invariant)

pub args_size-returns-clause-depth : goal.args_size-returns-clause-depth
args_size-returns-clause-depth t c =
    let none = all_left c.args.args.now c.loop-arg.arg-index (omega arith) in
    let rest = ap (λ xs. args_depth (depth_at c.args.inner) (arg_nodes (map argument_node (xs)))) none in
    omega (arith, rest, c.loop-arg.invariant)

pub args_size-returns-clause-control : goal.args_size-returns-clause-control
args_size-returns-clause-control t c =
    let none = all_left c.args.args.now c.loop-arg.arg-index (omega arith) in
    let rest = ap (λ xs. args_control (control_at c.args.inner) (arg_nodes (map argument_node (xs)))) none in
    omega (arith, rest, c.loop-arg.invariant)
