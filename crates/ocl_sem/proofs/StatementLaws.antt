-- Statements as tasks, and a run from the start of an item.
use Rattle.std.proofs.Common.{◌≡◌, ℕ, List, Option, None, Some, Result, Ok, Err, IfOk, Vec, Box, Global, refl, ap, sym, ◌∙◌}
use Rattle.std.specs.Option.{option_map}
use Rattle.item_acts.specs.declared.acts.Asked.{Asked}
use Rattle.item_acts.specs.declared.acts.Bound.{Bound}
use Rattle.item_acts.specs.declared.acts.Range.{Range}
use Rattle.item_acts.specs.Machine.{asked}
use Rattle.item_settings.specs.Settings as settings
use Rattle.ocl_ast.specs.declared.units.Param.{Param}
use Rattle.ocl_program.specs.declared.exprs.TypedExpr.{TypedExpr}
use Rattle.ocl_program.specs.declared.functions.LocalArray.{LocalArray}
use Rattle.ocl_program.specs.declared.stmts.TypedStmt.{TypedStmt, For, Block}
use Rattle.ocl_program.specs.Nodes.{FunctionNode, BlockNode, ForNode}
use Rattle.ocl_program.specs.Shapes.{node_of, stmt_node, typed_stmts}
use Rattle.ocl_program.proofs.Rows.{block_node, for_node}
use Rattle.task_machine.specs.Tasks.{step}
use Rattle.ocl_sem.specs.Items.{ItemState, item_start, kernel_asks}
use Rattle.ocl_sem.specs.Settings.{setting_of}
use Rattle.ocl_sem.specs.Source.{Scope, SourceTask, source_parts, stmt_tasks, stmts_tasks}
use Rattle.ocl_sem.specs.Views.{entered_tasks}

pub node_of_block : (stmt : TypedStmt) (items : Vec TypedStmt Global) (seen : List TypedStmt) → stmt ≡ Block items → seen ≡ items.items → stmt_node stmt ≡ BlockNode (typed_stmts seen)
node_of_block stmt items seen e e' = ap stmt_node e ∙ block_node items ∙ ap (λ xs. BlockNode (typed_stmts xs)) (sym e')

-- the test of a loop, where it is borrowed
pub test_seen : {R : Type 0} (see : R → TypedExpr) (test : Option R) → option_map (λ r. node_of (see r)) test ≡ option_map node_of (option_map see test)
test_seen see None = refl
test_seen see (Some r) = refl

-- what a `for` is
pub for_tasks : (program : List FunctionNode) (scope : Scope) (stmt : TypedStmt) (first : Vec TypedStmt Global) (test : Option TypedExpr) (step : Vec TypedStmt Global) (body : Box TypedStmt Global) (seen seen' : List TypedStmt)
    → stmt ≡ For first test step body → seen ≡ first.items → seen' ≡ step.items → (ts : List SourceTask)
    → stmts_tasks program scope (typed_stmts seen) (entered_tasks scope (option_map node_of test) (typed_stmts seen') (stmt_node body.value) ts) ≡ stmt_tasks program scope (stmt_node stmt) ts
for_tasks program scope stmt first test step body seen seen' is one two ts =
    let node : stmt_node stmt ≡ ForNode (typed_stmts first.items) (option_map node_of test) (typed_stmts step.items) (stmt_node body.value) = ap stmt_node is ∙ for_node first test step body in
    ap (λ xs. stmts_tasks program scope (typed_stmts xs) (entered_tasks scope (option_map node_of test) (typed_stmts seen') (stmt_node body.value) ts)) one
    ∙ ap (λ xs. stmts_tasks program scope (typed_stmts first.items) (entered_tasks scope (option_map node_of test) (typed_stmts xs) (stmt_node body.value) ts)) two
    ∙ sym (ap (λ n. stmt_tasks program scope n ts) node)

-- a run from the start of an item, whose setting has the lists as slices
pub asked_as : {E : Type 0} (r : Result Asked E) (program : List FunctionNode) (kernel : FunctionNode) (range : Range) (bounds : List Bound) (item : ℕ) (answers : List ℕ) (fuel : ℕ)
    (params : List Param) (arrays : List LocalArray) (seen : List Bound) (s : ItemState) → params ≡ kernel.params → arrays ≡ kernel.arrays → seen ≡ bounds → s ≡ item_start program kernel seen
    → IfOk r (λ a. a ≡ asked (step (source_parts program) (settings.setting_of params arrays range seen item)) fuel s answers)
    → IfOk r (λ a. a ≡ kernel_asks program kernel range bounds item answers fuel)
asked_as (Ok a) program kernel range bounds item answers fuel params arrays seen s one two three four h =
    h ∙ ap (λ ps. asked (step (source_parts program) (settings.setting_of ps arrays range seen item)) fuel s answers) one
    ∙ ap (λ xs. asked (step (source_parts program) (settings.setting_of kernel.params xs range seen item)) fuel s answers) two
    ∙ ap (λ t. asked (step (source_parts program) (setting_of kernel range seen item)) fuel t answers) four
    ∙ ap (λ bs. asked (step (source_parts program) (setting_of kernel range bs item)) fuel (item_start program kernel bs) answers) three
asked_as (Err fault) program kernel range bounds item answers fuel params arrays seen s one two three four h = h
