-- Nodes of the flat tree, read as the lists that hold their parts, and a run from the start of an item.
use Rattle.std.proofs.Common.{◌≡◌, ℕ, Bool, List, Option, Result, Ok, Err, IfOk, Vec, Box, Global, ap, sym, ◌∙◌}
use Rattle.std.specs.Option.{option_map}
use Rattle.item_acts.specs.declared.acts.Asked.{Asked}
use Rattle.item_acts.specs.declared.acts.Bound.{Bound}
use Rattle.item_acts.specs.declared.acts.Range.{Range}
use Rattle.item_acts.specs.Machine.{asked}
use Rattle.item_settings.specs.Settings.{setting_of}
use Rattle.ocl_ast.specs.declared.units.Param.{Param}
use Rattle.ocl_program.specs.declared.exprs.Builtin.{Builtin as Which}
use Rattle.ocl_program.specs.declared.functions.LocalArray.{LocalArray}
use Rattle.ocl_inline.specs.declared.trees.FlatArgument.{FlatArgument}
use Rattle.ocl_inline.specs.declared.trees.FlatExpr.{FlatExpr as HeldExpr, Call, Builtin}
use Rattle.ocl_inline.specs.declared.trees.FlatStmt.{FlatStmt as HeldStmt, Block, For}
use Rattle.ocl_inline.specs.FlatItems.{flat_asks, flat_start}
use Rattle.ocl_inline.specs.FlatTasks.{FlatTask, flat_parts, stmt_tasks, stmts_tasks}
use Rattle.ocl_inline.specs.Shapes.{expr_of, flat_arguments, flat_trees, stmt_of}
use Rattle.ocl_inline.specs.Trees.{BlockFlat, BuiltinFlat, CallFlat, FlatExpr, FlatKernel, FlatStmt, written}
use Rattle.ocl_inline.proofs.Rows.{block_flat, builtin_flat, call_flat, for_flat}
use Rattle.task_machine.specs.Tasks.{State, step}
use Rattle.flat_items.specs.Views.{entered_tasks}

pub call_is : (expr : HeldExpr) (args : Vec FlatArgument Global) (body : Vec HeldStmt Global) (seen : List FlatArgument) (seen' : List HeldStmt)
    → expr ≡ Call args body → seen ≡ args.items → seen' ≡ body.items → expr_of expr ≡ CallFlat (flat_arguments seen) (flat_trees seen')
call_is expr args body seen seen' is one two =
    ap expr_of is ∙ call_flat args body ∙ ap (λ xs. CallFlat (flat_arguments xs) (flat_trees body.items)) (sym one) ∙ ap (λ xs. CallFlat (flat_arguments seen) (flat_trees xs)) (sym two)

pub builtin_is : (expr : HeldExpr) (which : Which) (unsigned : Bool) (args : Vec FlatArgument Global) (seen : List FlatArgument)
    → expr ≡ Builtin which unsigned args → seen ≡ args.items → expr_of expr ≡ BuiltinFlat which unsigned (flat_arguments seen)
builtin_is expr which unsigned args seen is one = ap expr_of is ∙ builtin_flat which unsigned args ∙ ap (λ xs. BuiltinFlat which unsigned (flat_arguments xs)) (sym one)

pub block_is : (stmt : HeldStmt) (items : Vec HeldStmt Global) (seen : List HeldStmt) → stmt ≡ Block items → seen ≡ items.items → stmt_of stmt ≡ BlockFlat (flat_trees seen)
block_is stmt items seen is one = ap stmt_of is ∙ block_flat items ∙ ap (λ xs. BlockFlat (flat_trees xs)) (sym one)

-- what a `for` is
pub for_tasks : (stmt : HeldStmt) (first : Vec HeldStmt Global) (test : Option (Box HeldExpr Global)) (step : Vec HeldStmt Global) (body : Box HeldStmt Global) (seen seen' : List HeldStmt)
    → stmt ≡ For first test step body → seen ≡ first.items → seen' ≡ step.items → (ts : List FlatTask)
    → stmts_tasks (flat_trees seen) (entered_tasks (written (option_map (λ b. expr_of b.value) test)) (flat_trees seen') (stmt_of body.value) ts) ≡ stmt_tasks (stmt_of stmt) ts
for_tasks stmt first test step body seen seen' is one two ts =
    ap (λ xs. stmts_tasks (flat_trees xs) (entered_tasks (written (option_map (λ b. expr_of b.value) test)) (flat_trees seen') (stmt_of body.value) ts)) one
    ∙ ap (λ xs. stmts_tasks (flat_trees first.items) (entered_tasks (written (option_map (λ b. expr_of b.value) test)) (flat_trees xs) (stmt_of body.value) ts)) two
    ∙ sym (ap (λ s. stmt_tasks s ts) (ap stmt_of is ∙ for_flat first test step body))

-- a run from the start of an item, whose setting has the lists as slices
pub asked_as : {E : Type 0} (r : Result Asked E) (kernel : FlatKernel) (range : Range) (bounds : List Bound) (item : ℕ) (answers : List ℕ) (fuel : ℕ)
    (params : List Param) (arrays : List LocalArray) (seen : List Bound) (s : State FlatExpr FlatStmt) → params ≡ kernel.params → arrays ≡ kernel.arrays → seen ≡ bounds → s ≡ flat_start kernel seen
    → IfOk r (λ a. a ≡ asked (step flat_parts (setting_of params arrays range seen item)) fuel s answers)
    → IfOk r (λ a. a ≡ flat_asks kernel range bounds item answers fuel)
asked_as (Ok a) kernel range bounds item answers fuel params arrays seen s one two three four h =
    h ∙ ap (λ ps. asked (step flat_parts (setting_of ps arrays range seen item)) fuel s answers) one
    ∙ ap (λ xs. asked (step flat_parts (setting_of kernel.params xs range seen item)) fuel s answers) two
    ∙ ap (λ t. asked (step flat_parts (setting_of kernel.params kernel.arrays range seen item)) fuel t answers) four
    ∙ ap (λ bs. asked (step flat_parts (setting_of kernel.params kernel.arrays range bs item)) fuel (flat_start kernel bs) answers) three
asked_as (Err fault) kernel range bounds item answers fuel params arrays seen s one two three four h = h
