use Rattle.std.proofs.Common.{◌≡◌, ap, ◌∙◌, arith}
use Rattle.std.specs.Option.{option_map}
use Rattle.ocl_program.proofs.Rows.{block_node, for_node}
use Rattle.ocl_program.specs.Measures.{stmt_size, stmts_size, stmt_depth, stmts_depth, stmt_control, stmts_control}
use Rattle.ocl_program.specs.Nodes.{BlockNode, ForNode}
use Rattle.ocl_program.specs.Shapes.{node_of, stmt_node, typed_stmts}
use Rattle.ocl_measures.proofs.Steps.{all_left}
use Rattle.ocl_measures.specs.Sizes.{control_at, depth_at, nodes_at}
use Rattle.ocl_measures.proofs.sizes.+stmt_sizes.Goals as goal

pub stmt_size-returns-in-Block-clause-nodes : goal.stmt_size-returns-in-Block-clause-nodes
stmt_size-returns-in-Block-clause-nodes t c =
    let i = nodes_at c.args.inner in
    let items : stmts_size i (typed_stmts c.deref-in-Block.result.now) ≡ stmts_size i (typed_stmts c.in-Block.items.items) = ap (λ xs. stmts_size i (typed_stmts xs)) c.deref-in-Block.ensures.value in
    let whole : stmt_size i (stmt_node c.args.stmt.now) ≡ stmt_size i (BlockNode (typed_stmts c.in-Block.items.items)) = ap (λ n. stmt_size i (stmt_node n)) c.in-Block.is ∙ ap (stmt_size i) (block_node c.in-Block.items) in
    omega (arith, items, whole, c.stmts_size-in-Block.ensures.nodes)

pub stmt_size-returns-in-For-clause-nodes : goal.stmt_size-returns-in-For-clause-nodes
stmt_size-returns-in-For-clause-nodes t c =
    let i = nodes_at c.args.inner in
    let step : stmts_size i (typed_stmts c.deref-in-For.result.now) ≡ stmts_size i (typed_stmts c.in-For.step.items) = ap (λ xs. stmts_size i (typed_stmts xs)) c.deref-in-For.ensures.value in
    let body : stmt_size i (stmt_node c.deref-in-For-2.result.now) ≡ stmt_size i (stmt_node c.in-For.body.value) = ap (λ b. stmt_size i (stmt_node b)) c.deref-in-For-2.ensures in
    let first : stmts_size i (typed_stmts c.deref-in-For-3.result.now) ≡ stmts_size i (typed_stmts c.in-For.first.items) = ap (λ xs. stmts_size i (typed_stmts xs)) c.deref-in-For-3.ensures.value in
    let whole : stmt_size i (stmt_node c.args.stmt.now) ≡ stmt_size i (ForNode (typed_stmts c.in-For.first.items) (option_map node_of c.in-For.test) (typed_stmts c.in-For.step.items) (stmt_node c.in-For.body.value)) =
    ap (λ n. stmt_size i (stmt_node n)) c.in-For.is ∙ ap (stmt_size i) (for_node c.in-For.first c.in-For.test c.in-For.step c.in-For.body) in
    omega (arith, step, body, first, whole, c.stmts_size.ensures.nodes, c.stmt_size-in-For.ensures.nodes, c.beside-turn.ensures.nodes, c.stmts_size-in-For.ensures.nodes, c.option_size-in-For.ensures.nodes, c.repeated-in-For.ensures.nodes, c.beside.ensures.nodes)

pub stmt_size-returns-in-Block-clause-depth : goal.stmt_size-returns-in-Block-clause-depth
stmt_size-returns-in-Block-clause-depth t c =
    let i = depth_at c.args.inner in
    let items : stmts_depth i (typed_stmts c.deref-in-Block.result.now) ≡ stmts_depth i (typed_stmts c.in-Block.items.items) = ap (λ xs. stmts_depth i (typed_stmts xs)) c.deref-in-Block.ensures.value in
    let whole : stmt_depth i (stmt_node c.args.stmt.now) ≡ stmt_depth i (BlockNode (typed_stmts c.in-Block.items.items)) = ap (λ n. stmt_depth i (stmt_node n)) c.in-Block.is ∙ ap (stmt_depth i) (block_node c.in-Block.items) in
    omega (arith, items, whole, c.stmts_size-in-Block.ensures.depth)

pub stmt_size-returns-in-For-clause-depth : goal.stmt_size-returns-in-For-clause-depth
stmt_size-returns-in-For-clause-depth t c =
    let i = depth_at c.args.inner in
    let step : stmts_depth i (typed_stmts c.deref-in-For.result.now) ≡ stmts_depth i (typed_stmts c.in-For.step.items) = ap (λ xs. stmts_depth i (typed_stmts xs)) c.deref-in-For.ensures.value in
    let body : stmt_depth i (stmt_node c.deref-in-For-2.result.now) ≡ stmt_depth i (stmt_node c.in-For.body.value) = ap (λ b. stmt_depth i (stmt_node b)) c.deref-in-For-2.ensures in
    let first : stmts_depth i (typed_stmts c.deref-in-For-3.result.now) ≡ stmts_depth i (typed_stmts c.in-For.first.items) = ap (λ xs. stmts_depth i (typed_stmts xs)) c.deref-in-For-3.ensures.value in
    let whole : stmt_depth i (stmt_node c.args.stmt.now) ≡ stmt_depth i (ForNode (typed_stmts c.in-For.first.items) (option_map node_of c.in-For.test) (typed_stmts c.in-For.step.items) (stmt_node c.in-For.body.value)) =
    ap (λ n. stmt_depth i (stmt_node n)) c.in-For.is ∙ ap (stmt_depth i) (for_node c.in-For.first c.in-For.test c.in-For.step c.in-For.body) in
    omega (arith, step, body, first, whole, c.stmts_size.ensures.depth, c.stmt_size-in-For.ensures.depth, c.beside-turn.ensures.depth, c.stmts_size-in-For.ensures.depth, c.option_size-in-For.ensures.depth, c.repeated-in-For.ensures.depth, c.beside.ensures.depth)

pub stmt_size-returns-in-Block-clause-control : goal.stmt_size-returns-in-Block-clause-control
stmt_size-returns-in-Block-clause-control t c =
    let i = control_at c.args.inner in
    let items : stmts_control i (typed_stmts c.deref-in-Block.result.now) ≡ stmts_control i (typed_stmts c.in-Block.items.items) = ap (λ xs. stmts_control i (typed_stmts xs)) c.deref-in-Block.ensures.value in
    let whole : stmt_control i (stmt_node c.args.stmt.now) ≡ stmt_control i (BlockNode (typed_stmts c.in-Block.items.items)) = ap (λ n. stmt_control i (stmt_node n)) c.in-Block.is ∙ ap (stmt_control i) (block_node c.in-Block.items) in
    omega (arith, items, whole, c.stmts_size-in-Block.ensures.control)

pub stmt_size-returns-in-For-clause-control : goal.stmt_size-returns-in-For-clause-control
stmt_size-returns-in-For-clause-control t c =
    let i = control_at c.args.inner in
    let step : stmts_control i (typed_stmts c.deref-in-For.result.now) ≡ stmts_control i (typed_stmts c.in-For.step.items) = ap (λ xs. stmts_control i (typed_stmts xs)) c.deref-in-For.ensures.value in
    let body : stmt_control i (stmt_node c.deref-in-For-2.result.now) ≡ stmt_control i (stmt_node c.in-For.body.value) = ap (λ b. stmt_control i (stmt_node b)) c.deref-in-For-2.ensures in
    let first : stmts_control i (typed_stmts c.deref-in-For-3.result.now) ≡ stmts_control i (typed_stmts c.in-For.first.items) = ap (λ xs. stmts_control i (typed_stmts xs)) c.deref-in-For-3.ensures.value in
    let whole : stmt_control i (stmt_node c.args.stmt.now) ≡ stmt_control i (ForNode (typed_stmts c.in-For.first.items) (option_map node_of c.in-For.test) (typed_stmts c.in-For.step.items) (stmt_node c.in-For.body.value)) =
    ap (λ n. stmt_control i (stmt_node n)) c.in-For.is ∙ ap (stmt_control i) (for_node c.in-For.first c.in-For.test c.in-For.step c.in-For.body) in
    omega (arith, step, body, first, whole, c.stmts_size.ensures.control, c.stmt_size-in-For.ensures.control, c.beside-turn.ensures.control, c.stmts_size-in-For.ensures.control, c.option_size-in-For.ensures.control, c.repeated-in-For.ensures.control, c.beside.ensures.control)

pub stmts_size-returns-clause-nodes : goal.stmts_size-returns-clause-nodes
stmts_size-returns-clause-nodes t c =
    let none = all_left c.args.stmts.now c.loop-stmt.stmt-index (omega arith) in
    let rest = ap (λ xs. stmts_size (nodes_at c.args.inner) (typed_stmts (xs))) none in
    omega (arith, rest, c.loop-stmt.invariant)

pub stmts_size-returns-clause-depth : goal.stmts_size-returns-clause-depth
stmts_size-returns-clause-depth t c =
    let none = all_left c.args.stmts.now c.loop-stmt.stmt-index (omega arith) in
    let rest = ap (λ xs. stmts_depth (depth_at c.args.inner) (typed_stmts (xs))) none in
    omega (arith, rest, c.loop-stmt.invariant)

pub stmts_size-returns-clause-control : goal.stmts_size-returns-clause-control
stmts_size-returns-clause-control t c =
    let none = all_left c.args.stmts.now c.loop-stmt.stmt-index (omega arith) in
    let rest = ap (λ xs. stmts_control (control_at c.args.inner) (typed_stmts (xs))) none in
    omega (arith, rest, c.loop-stmt.invariant)
