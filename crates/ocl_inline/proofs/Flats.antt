-- The items of a flat kernel do what the items of the program's kernel do.
use Rattle.std.proofs.Common.{◌≡◌, ℕ, List, [], length, Some, slice_get, sym, ap, ◌∙◌}
use Rattle.std.proofs.Math.Logic.{∥∥₁_elim}
use Rattle.std.specs.Option.{option_map}
use Rattle.std.specs.Prelude.{slice_index}
use mathlib.Core.Bool.{Bool-set}
use Rattle.item_acts.specs.declared.acts.Asked.{Asked}
use Rattle.item_acts.specs.declared.acts.Bound.{Bound}
use Rattle.item_acts.specs.Machine.{asked}
use Rattle.ocl_program.specs.Nodes.{FunctionNode}
use Rattle.ocl_sem.specs.Items.{item_start, kernel_scope}
use Rattle.item_settings.specs.Settings.{Setting, bound_values}
use Rattle.ocl_sem.specs.Settings.{setting_of}
use Rattle.task_machine.specs.Tasks.{State, cost, step}
use Rattle.ocl_types.specs.Functions.{IsProgram}
use Rattle.step_machine.specs.Costs.{spent}
use Rattle.ocl_inline.specs.Expansion.{Bodies, expanded, kernel_flat}
use Rattle.ocl_inline.specs.FlatItems.{AsksAs, SpendsAs, flat_at, flat_setting, flat_start}
use Rattle.ocl_inline.specs.FlatTasks.{flat_parts}
use Rattle.program_laws.specs.Laws.{HaveNoRecursion}
use Rattle.ocl_inline.specs.Mapping.{state_at}
use Rattle.ocl_inline.specs.Trees.{FlatExpr, FlatKernel, FlatStmt}
use Rattle.ocl_inline.proofs.Mapped.{stmts_mapped}
use Rattle.ocl_inline.proofs.Ranks.{bodies_expanded}
use Rattle.ocl_inline.proofs.Runs.{asked_alike, spent_alike}

-- its start stands for the kernel's
start_same : (program : List FunctionNode) → HaveNoRecursion program → (number : ℕ) (kernel : FunctionNode) (bounds : List Bound)
    → flat_start (kernel_flat program number kernel) bounds ≡ state_at (expanded (length program) program) program (item_start program kernel bounds)
start_same program none number kernel bounds =
    let bodies : Bodies = expanded (length program) program in
    let with_tasks : List _ → State FlatExpr FlatStmt = λ ts. record { tasks = ts; values = []; variables = slice_index (bound_values kernel.params bounds); turns = [] } in
    ap with_tasks (stmts_mapped bodies program (bodies_expanded program none) (kernel_scope kernel) kernel.body [])

pub asks_as : (program : List FunctionNode) → HaveNoRecursion program → (number : ℕ) (flat : FlatKernel)
    → ((kernel : FunctionNode) → slice_get program number ≡ Some kernel → flat ≡ kernel_flat program number kernel) → AsksAs flat program number
asks_as program none number flat is kernel e range bounds item answers fuel =
    let at : Setting = setting_of kernel range bounds item in
    let asks : FlatKernel → Asked = λ k. asked (step flat_parts (flat_setting k range bounds item)) fuel (flat_start k bounds) answers in
    ap asks (is kernel e)
    ∙ ap (λ s. asked (step flat_parts at) fuel s answers) (start_same program none number kernel bounds)
    ∙ asked_alike (expanded (length program) program) program (bodies_expanded program none) at fuel (item_start program kernel bounds) answers

pub spends_as : (program : List FunctionNode) → HaveNoRecursion program → (number : ℕ) (flat : FlatKernel)
    → ((kernel : FunctionNode) → slice_get program number ≡ Some kernel → flat ≡ kernel_flat program number kernel) → SpendsAs flat program number
spends_as program none number flat is kernel e range bounds item answers fuel =
    let at : Setting = setting_of kernel range bounds item in
    let turns : FlatKernel → ℕ = λ k. spent (step flat_parts (flat_setting k range bounds item)) cost fuel (flat_start k bounds) answers in
    ap turns (is kernel e)
    ∙ ap (λ s. spent (step flat_parts at) cost fuel s answers) (start_same program none number kernel bounds)
    ∙ spent_alike (expanded (length program) program) program (bodies_expanded program none) at fuel (item_start program kernel bounds) answers

some_same : {A : Type 0} (x y : A) → Some x ≡ Some y → x ≡ y
some_same x y h = cc

-- the flat form of a program's kernel is that of the kernel that stands there
pub flat_is : (program : List FunctionNode) (number : ℕ) (flat : FlatKernel) → flat_at program number ≡ Some flat
    → (kernel : FunctionNode) → slice_get program number ≡ Some kernel → flat ≡ kernel_flat program number kernel
flat_is program number flat e kernel e' = some_same flat (kernel_flat program number kernel) (sym e ∙ ap (option_map (kernel_flat program number)) e')

-- what holds of each program of a file holds of one of which no more is known
pub no_recursion : (program : List FunctionNode) → ((functions : List FunctionNode) → IsProgram functions → HaveNoRecursion functions) → ∥ IsProgram program ∥₁ → HaveNoRecursion program
no_recursion program none typed = λ k within. ∥∥₁_elim typed (Bool-set _ _) (λ is. none program is k within)
