use Rattle.std.specs.Prelude.{ℕ, ◌*◌, ◌%◌, ◌^◌, List, [], ◌∷◌, replicate, slice_index}
use Rattle.vx_base.specs.Values.{alu_value_of}
use Rattle.vx_base.specs.declared.types.Alu.{Alu}
use Rattle.vx_base.specs.declared.types.Alu.TheVariants as alu
use Rattle.vx_base.specs.declared.types.Size.TheVariants.{Four}
use Rattle.item_acts.specs.declared.acts.Place.TheVariants.{Global}
use Rattle.item_acts.specs.declared.acts.Action.TheVariants.{Load, Store, End}
use Rattle.item_acts.specs.Machine.{Step, Go, Ask, Stop, asked}
use Rattle.item_acts.specs.Launches.{Launch}
use Rattle.first_kernels.specs.declared.tree.Operator.{Operator}
use Rattle.first_kernels.specs.declared.tree.Operator.TheVariants.{Add, Subtract, Multiply}
use Rattle.first_kernels.specs.FirstTree.{Tree, Literal, OwnId, OwnElement, Grouped, Applied, Assigns, Form}

-- What is left for a work-item to do: to take a number or its id, to load the element of a parameter's array at an index
-- that it holds, to operate on the last two values, or to store the last value at the index below it.
pub data Task : Type 0 where
  TakeNumber : ℕ → Task
  TakeId : Task
  LoadFrom : ℕ → Task
  Operate : Operator → Task
  StoreTo : ℕ → Task

-- evaluation from left to right, and then the rest
abbrev pub evaluation : Tree → List Task → List Task
evaluation (Literal n) rest = TakeNumber n ∷ rest
evaluation OwnId rest = TakeId ∷ rest
evaluation (OwnElement p) rest = TakeId ∷ LoadFrom p ∷ rest
evaluation (Grouped t) rest = evaluation t rest
evaluation (Applied op l r) rest = evaluation l (evaluation r (Operate op ∷ rest))

-- each assignment in turn: its index, then its value, then the store
abbrev pub body_tasks : List Assigns → List Task
body_tasks [] = []
body_tasks (a ∷ more) = TakeId ∷ evaluation a.value (StoreTo a.parameter ∷ body_tasks more)

abbrev pub alu_of : Operator → Alu
alu_of Add = alu.Add
alu_of Subtract = alu.Sub
alu_of Multiply = alu.Mul

-- the value of an operator on 32-bit words (OpenCL C 1.2, section 6.3; sums wrap)
abbrev pub operated : Operator → ℕ → ℕ → ℕ
operated op a b = alu_value_of (alu_of op) a b

-- a work-item: what is left to do, and the values that it holds, the last one first
pub record Item : Type 0 where
  pub tasks : List Task
  pub values : List ℕ

-- The task with the values that are held. Where too few are held, which no kernel leads to, the item computes for ever.
abbrev pub task_step : (ℕ → ℕ) → ℕ → Task → List Task → List ℕ → Step Item
task_step arrays item (TakeNumber n) ts vs = Go (record { tasks = ts; values = n ∷ vs })
task_step arrays item TakeId ts vs = Go (record { tasks = ts; values = item ∷ vs })
task_step arrays item (LoadFrom p) ts (i ∷ vs) = Ask (Load (Global (arrays p) (4 * i)) Four) (λ v. record { tasks = ts; values = v % 2 ^ 32 ∷ vs })
task_step arrays item (Operate op) ts (b ∷ a ∷ vs) = Go (record { tasks = ts; values = operated op a b ∷ vs })
task_step arrays item (StoreTo p) ts (v ∷ i ∷ vs) = Ask (Store (Global (arrays p) (4 * i)) Four v) (λ _. record { tasks = ts; values = vs })
task_step arrays item t ts vs = Go (record { tasks = t ∷ ts; values = vs })

-- one small step with these tasks left and these values held; an item with nothing left to do asks for its end
abbrev pub tasks_step : (ℕ → ℕ) → ℕ → List Task → List ℕ → Step Item
tasks_step arrays item [] vs = Stop End
tasks_step arrays item (t ∷ ts) vs = task_step arrays item t ts vs

-- one small step of the item with this number, where arrays has the buffer of each parameter
abbrev pub item_step : (ℕ → ℕ) → ℕ → Item → Step Item
item_step arrays item s = tasks_step arrays item s.tasks s.values

-- the item before its first step
abbrev pub item_start : Form → Item
item_start k = record { tasks = body_tasks k.assignments; values = [] }

-- the buffer of each parameter
abbrev pub array_of : List ℕ → ℕ → ℕ
array_of arguments p = slice_index arguments p

-- the launch of a kernel over some work-items in one group, where each of the buffers has an element of four bytes for
-- each item
abbrev pub launch_of : Form → List ℕ → ℕ → ℕ → Launch
launch_of k arguments items buffers = record {
  items = items;
  local = items;
  asks = λ item answers n. asked (item_step (array_of arguments) item) n (item_start k) answers;
  buffers = replicate buffers (4 * items);
  locals = [];
}
