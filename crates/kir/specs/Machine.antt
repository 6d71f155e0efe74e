-- The small steps of a work-item of a structured kernel. What is left to do is a list of tasks: single operations, and markers
-- where a loop or a call goes on. A jump drops tasks down to its marker.
use Rattle.std.specs.Prelude.{ℕ, ◌==◌, nat_lt, if◌then◌else◌, List, [], ◌∷◌, reverse, slice_index}
use Rattle.vx_base.specs.Values.{alu_value_of, fitted}
use Rattle.item_acts.specs.declared.acts.Action.TheVariants.{Load as LoadAction, Store as StoreAction, Barrier as BarrierAction, Fault, End}
use Rattle.item_acts.specs.declared.acts.Asked.{Asked}
use Rattle.item_acts.specs.declared.acts.Bound.{Bound}
use Rattle.item_acts.specs.declared.acts.Range.{Range}
use Rattle.item_acts.specs.Launches.{put_at}
use Rattle.item_acts.specs.Machine.{Step, Go, Ask, Stop, asked}
use Rattle.ocl_program.specs.declared.exprs.Builtin.{Builtin}
use Rattle.ocl_program.specs.declared.exprs.Builtin.TheVariants.{WorkDim}
use Rattle.step_machine.specs.Costs.{spent}
use Rattle.step_machine.specs.Stacks.{under}
use Rattle.step_machine.specs.Turns.{risen}
use Rattle.item_settings.specs.Settings.{Setting, setting_of, bound_values, elem_size, low_bytes, place_in}
use Rattle.kir.specs.Trees.{Operand, VariableOf, NumberOf, Op, Set, Calculate, Fit, Id, Load, Store, Check, Barrier, If, Loop, Break, Continue, Return, Call, Ops, NoOps, AndOp, KirCode}

-- a loop, from its head on
pub record Turning : Type 0 where
  pub head : Ops
  pub test : Operand
  pub body : Ops
  pub step : Ops

-- What is left to do: an operation; the test behind the head of a loop; the end of its body; and the end of a call's body.
pub data Task : Type 0 where
  Do : Op → Task
  Decide : Turning → Task
  Again : Turning → Task
  CallEnd : Task

-- A work-item: its tasks, its variables, and the numbers of turns of the loops that it is in, the innermost first.
pub record State : Type 0 where
  pub tasks : List Task
  pub variables : ℕ → ℕ
  pub turns : List ℕ

abbrev pub state : List Task → (ℕ → ℕ) → List ℕ → State
state ts vs ns = record { tasks = ts; variables = vs; turns = ns }

-- operations as tasks in front of others
abbrev pub ops_tasks : Ops → List Task → List Task
ops_tasks NoOps ts = ts
ops_tasks (AndOp op ops) ts = Do op ∷ ops_tasks ops ts

-- a loop before its test, a turn of it, and what runs behind a turn
abbrev pub head_tasks : Turning → List Task → List Task
head_tasks loop ts = ops_tasks loop.head (Decide loop ∷ ts)

abbrev pub turn_tasks : Turning → List Task → List Task
turn_tasks loop ts = ops_tasks loop.body (Again loop ∷ ts)

abbrev pub step_tasks : Turning → List Task → List Task
step_tasks loop ts = ops_tasks loop.step (head_tasks loop ts)

-- a loop is entered
abbrev pub entered : List ℕ → List ℕ
entered ns = 0 ∷ ns

-- ---- jumps

-- `Return`: to the end of the innermost call, out of its loops; outside all calls the kernel is done
abbrev pub returned : List Task → (ℕ → ℕ) → List ℕ → State
returned [] vs ns = state [] vs ns
returned (Do op ∷ ts) vs ns = returned ts vs ns
returned (Decide loop ∷ ts) vs ns = returned ts vs (under ns)
returned (Again loop ∷ ts) vs ns = returned ts vs (under ns)
returned (CallEnd ∷ ts) vs ns = state ts vs ns

-- `Break`: out of the innermost loop. Outside every loop of a call it is a `Return`.
abbrev pub broken : List Task → (ℕ → ℕ) → List ℕ → State
broken [] vs ns = state [] vs ns
broken (Do op ∷ ts) vs ns = broken ts vs ns
broken (Decide loop ∷ ts) vs ns = state ts vs (under ns)
broken (Again loop ∷ ts) vs ns = state ts vs (under ns)
broken (CallEnd ∷ ts) vs ns = state ts vs ns

-- `Continue`: to the end of the body. In a head or a step it leaves that loop; outside every loop of a call it is a `Return`.
abbrev pub continued : List Task → (ℕ → ℕ) → List ℕ → State
continued [] vs ns = state [] vs ns
continued (Do op ∷ ts) vs ns = continued ts vs ns
continued (Decide loop ∷ ts) vs ns = state ts vs (under ns)
continued (Again loop ∷ ts) vs ns = state (Again loop ∷ ts) vs ns
continued (CallEnd ∷ ts) vs ns = state ts vs ns

-- ---- steps

abbrev pub value : (ℕ → ℕ) → Operand → ℕ
value vs (VariableOf k) = vs k
value vs (NumberOf n) = n

-- what a built-in function of a dimension gives, and the number of dimensions
abbrev pub known_of : Setting → Builtin → ℕ → ℕ
known_of at WorkDim d = at.dims
known_of at other d = at.id other d

-- One small step at an operation, with the tasks behind it, the variables and the numbers of turns. Loads and stores ask for the
-- place of the element whether or not the array has it: a `Check` before them sees to that.
abbrev pub op_step : Setting → Op → List Task → (ℕ → ℕ) → List ℕ → Step State
op_step at (Set d a) ts vs ns = Go (state ts (put_at d (value vs a) vs) ns)
op_step at (Calculate d op a b) ts vs ns = Go (state ts (put_at d (alu_value_of op (value vs a) (value vs b)) vs) ns)
op_step at (Fit d elem a) ts vs ns = Go (state ts (put_at d (fitted elem (value vs a)) vs) ns)
op_step at (Id d which a) ts vs ns = Go (state ts (put_at d (known_of at which (value vs a)) vs) ns)
op_step at (Load d array elem a) ts vs ns = Ask (LoadAction (place_in at.group (at.array array) elem (value vs a)) (elem_size elem)) (λ answer. state ts (put_at d (fitted elem answer) vs) ns)
op_step at (Store array elem a b) ts vs ns = Ask (StoreAction (place_in at.group (at.array array) elem (value vs a)) (elem_size elem) (low_bytes elem (value vs b))) (λ answer. state ts vs ns)
op_step at (Check array a pos) ts vs ns = if nat_lt (value vs a) (at.array array).count then Go (state ts vs ns) else Stop (Fault pos)
op_step at (Barrier site) ts vs ns = Ask (BarrierAction (record { site = site; turns = reverse ns })) (λ answer. state ts vs ns)
op_step at (If test one other) ts vs ns = Go (state (if value vs test == 0 then ops_tasks other ts else ops_tasks one ts) vs ns)
op_step at (Loop head test body step) ts vs ns = Go (state (head_tasks (record { head = head; test = test; body = body; step = step }) ts) vs (entered ns))
op_step at Break ts vs ns = Go (broken ts vs ns)
op_step at Continue ts vs ns = Go (continued ts vs ns)
op_step at Return ts vs ns = Go (returned ts vs ns)
op_step at (Call body) ts vs ns = Go (state (ops_tasks body (CallEnd ∷ ts)) vs ns)

-- one small step at a task
abbrev pub task_step : Setting → Task → List Task → (ℕ → ℕ) → List ℕ → Step State
task_step at (Do op) ts vs ns = op_step at op ts vs ns
task_step at (Decide loop) ts vs ns = Go (if value vs loop.test == 0 then state ts vs (under ns) else state (turn_tasks loop ts) vs ns)
task_step at (Again loop) ts vs ns = Go (state (step_tasks loop ts) vs (risen ns))
task_step at CallEnd ts vs ns = Go (state ts vs ns)

-- One small step. An item with nothing left to do asks for its end.
abbrev pub step_from : Setting → List Task → (ℕ → ℕ) → List ℕ → Step State
step_from at [] vs ns = Stop End
step_from at (t ∷ ts) vs ns = task_step at t ts vs ns

abbrev pub step : Setting → State → Step State
step at s = step_from at s.tasks s.variables s.turns

-- ---- the cost of a step: how many turns of loops it begins

abbrev pub task_cost : Task → (ℕ → ℕ) → ℕ
task_cost (Decide loop) vs = if value vs loop.test == 0 then 0 else 1
task_cost other vs = 0

abbrev pub cost_from : List Task → (ℕ → ℕ) → ℕ
cost_from [] vs = 0
cost_from (t ∷ ts) vs = task_cost t vs

abbrev pub cost : State → ℕ
cost s = cost_from s.tasks s.variables

-- ---- the items of a launch

abbrev pub code_setting : KirCode → Range → List Bound → ℕ → Setting
code_setting code range bounds item = setting_of code.params code.arrays range bounds item

-- An item's start: all is left to do, the scalar parameters have the values that they are bound to, and every other variable
-- is 0.
abbrev pub kir_start : KirCode → List Bound → State
kir_start code bounds = state (ops_tasks code.ops []) (slice_index (bound_values code.params bounds)) []

-- what an item asks for once it has taken these answers, if at most so many small steps from its start lead there
abbrev pub kir_asks : KirCode → Range → List Bound → ℕ → List ℕ → ℕ → Asked
kir_asks code range bounds item answers fuel = asked (step (code_setting code range bounds item)) fuel (kir_start code bounds) answers

-- how many turns of loops it begins in its first steps
abbrev pub kir_begun : KirCode → Range → List Bound → ℕ → List ℕ → ℕ → ℕ
kir_begun code range bounds item answers fuel = spent (step (code_setting code range bounds item)) cost fuel (kir_start code bounds) answers
