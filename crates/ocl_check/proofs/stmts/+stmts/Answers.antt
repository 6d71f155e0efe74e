use Rattle.std.proofs.Common.{◌≡◌, ◌+◌, ◌<◌, ap, arith}
use Rattle.ocl_ast.specs.Shapes.{stmt_tree, stmt_trees, tree_of}
use Rattle.ocl_ast.specs.Trees.{BlockTree, ForTree}
use Rattle.std.specs.Option.{option_map}
use Rattle.ocl_types.specs.Answers.{placed_in, standing_of}
use Rattle.ocl_types.specs.Tables.{trees_of}
use Rattle.ocl_types.proofs.Rules.{for_is}
use Rattle.ocl_check.proofs.Parts.{block_is, stmt_along}
use Rattle.ocl_check.proofs.Sizes.{one_smaller, size, sizes}
use Rattle.ocl_check.proofs.stmts.+stmts.Goals as goal

-- the parts of a `for` and of a block are smaller
pub typed_stmt-typed_for-requires : goal.typed_stmt-typed_for-requires
typed_stmt-typed_for-requires t c =
    let first = c.deref-in-For.result.now in let step = c.deref-in-For-2.result.now in let body = c.deref-in-For-3.result.now in
    let whole : size (stmt_tree c.args.stmt.now) ≡ sizes (stmt_trees first) + sizes (stmt_trees step) + size (stmt_tree body) + 2 =
    ap size (for_is c.args.stmt.now c.in-For.first c.in-For.test c.in-For.step c.in-For.body first step body c.in-For.is c.deref-in-For.ensures.value c.deref-in-For-2.ensures.value c.deref-in-For-3.ensures) in
    let smaller : sizes (stmt_trees first) + sizes (stmt_trees step) + size (stmt_tree body) + 1 < t = omega (arith, whole) in
    (smaller, c.requires)

pub typed_stmt-typed_block-requires : goal.typed_stmt-typed_block-requires
typed_stmt-typed_block-requires t c =
    let items = c.deref-in-Block.result.now in
    let whole : size (stmt_tree c.args.stmt.now) ≡ sizes (stmt_trees items) + 2 = ap size (block_is c.args.stmt.now c.in-Block.items items c.in-Block.is c.deref-in-Block.ensures.value) in
    let smaller : sizes (stmt_trees items) + 1 < t = omega (arith, whole) in
    (smaller, c.requires)

pub typed_stmts-typed_stmt-requires : goal.typed_stmts-typed_stmt-requires
typed_stmts-typed_stmt-requires t c =
    let one : size (stmt_tree c.stmt-item.result) < sizes (stmt_trees c.args.stmts.now) = one_smaller c.args.stmts.now c.loop-stmt.stmt-index c.stmt-item.result (omega arith) c.stmt-item.is in
    let smaller : size (stmt_tree c.stmt-item.result) < t = omega (arith, one) in
    (smaller, c.requires)

pub typed_stmt-returns-in-For : goal.typed_stmt-returns-in-For
typed_stmt-returns-in-For t c =
    let first = c.deref-in-For.result.now in let step = c.deref-in-For-2.result.now in let body = c.deref-in-For-3.result.now in
    stmt_along c.typed_for.result (standing_of c.typed_for.new.st) (placed_in (trees_of c.args.functions.now.functions.now) c.args.place) (standing_of c.args.st.now)
    (stmt_tree c.args.stmt.now) (ForTree (stmt_trees first) (option_map tree_of c.in-For.test) (stmt_trees step) (stmt_tree body))
    (for_is c.args.stmt.now c.in-For.first c.in-For.test c.in-For.step c.in-For.body first step body c.in-For.is c.deref-in-For.ensures.value c.deref-in-For-2.ensures.value c.deref-in-For-3.ensures)
    c.typed_for.ensures

pub typed_stmt-returns-in-Block : goal.typed_stmt-returns-in-Block
typed_stmt-returns-in-Block t c =
    let items = c.deref-in-Block.result.now in
    stmt_along c.typed_block.result (standing_of c.typed_block.new.st) (placed_in (trees_of c.args.functions.now.functions.now) c.args.place) (standing_of c.args.st.now)
    (stmt_tree c.args.stmt.now) (BlockTree (stmt_trees items)) (block_is c.args.stmt.now c.in-Block.items items c.in-Block.is c.deref-in-Block.ensures.value) c.typed_block.ensures
