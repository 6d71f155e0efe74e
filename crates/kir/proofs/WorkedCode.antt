-- Small structured kernels, run by hand: each row is what an item asks for after some answers.
use Rattle.std.proofs.Common.{◌≡◌, refl, ℕ, false, List, [], ◌∷◌}
use Rattle.std.specs.Prelude.{codes}
use Rattle.vx_base.specs.declared.types.Alu.TheVariants.{Add, Sub, Sltu}
use Rattle.vx_base.specs.declared.types.Elem.TheVariants.{Char, Short, Int}
use Rattle.vx_base.specs.declared.types.ParamKind.{ParamKind}
use Rattle.vx_base.specs.declared.types.ParamKind.TheVariants.{Scalar, Pointer}
use Rattle.vx_base.specs.declared.types.Pos.{Pos}
use Rattle.vx_base.specs.declared.types.Size.TheVariants.{Two, Four}
use Rattle.vx_base.specs.declared.types.Space.TheVariants.{Global as GlobalSpace}
use Rattle.item_acts.specs.declared.acts.Action.TheVariants.{Load as LoadAction, Store as StoreAction, Barrier as BarrierAction, Fault, End}
use Rattle.item_acts.specs.declared.acts.Asked.{Asked}
use Rattle.item_acts.specs.declared.acts.Asked.TheVariants.{Act, Running}
use Rattle.item_acts.specs.declared.acts.Bound.TheVariants.{Value, Array}
use Rattle.item_acts.specs.declared.acts.Place.TheVariants.{Global, Local}
use Rattle.item_acts.specs.declared.acts.Range.{Range}
use Rattle.ocl_ast.specs.declared.units.Param.{Param}
use Rattle.ocl_program.specs.declared.exprs.ArrayRef.TheVariants.{Parameter, Declared}
use Rattle.ocl_program.specs.declared.exprs.Builtin.TheVariants.{WorkDim, GlobalId, LocalId, GroupId}
use Rattle.kir.specs.Machine.{kir_asks, kir_begun}
use Rattle.kir.specs.Trees.{Operand, VariableOf, NumberOf, Op, Set, Calculate, Fit, Id, Load, Store, Check, Barrier, If, Loop, Break, Continue, Return, Call, Ops, NoOps, AndOp, KirCode}

abbrev at : ℕ → Pos
at col = record { line = 1; col = col }

-- a parameter with a name that does not matter
abbrev param_of : ParamKind → Param
param_of kind = record { name = record { text = codes "p"; pos = record { line = 1; col = 1 } }; kind = kind; constant = false }

abbrev ops_of : List Op → Ops
ops_of [] = NoOps
ops_of (op ∷ ops) = AndOp op (ops_of ops)

-- a kernel over an array of ints and a char, which is variable 0, with a declared array of three shorts
abbrev kernel_of : List Op → KirCode
kernel_of ops = record {
  params = param_of (Pointer GlobalSpace Int false) ∷ param_of (Scalar Char) ∷ [];
  arrays = record { elem = Short; count = 3 } ∷ [];
  variables = 4;
  ops = ops_of ops;
}

-- items in one dimension, in groups of two
abbrev eight : Range
eight = record { dims = 1; global = 8 ∷ 1 ∷ 1 ∷ []; local = 2 ∷ 1 ∷ 1 ∷ [] }

-- what item 5 asks for, where the array has four elements and the char is 300
abbrev asks : List Op → List ℕ → ℕ → Asked
asks ops answers fuel = kir_asks (kernel_of ops) eight (Array 7 4 ∷ Value 300 ∷ []) 5 answers fuel

abbrev begun : List Op → List ℕ → ℕ → ℕ
begun ops answers fuel = kir_begun (kernel_of ops) eight (Array 7 4 ∷ Value 300 ∷ []) 5 answers fuel

abbrev number : ℕ → Operand
number n = NumberOf n

abbrev x : ℕ → Operand
x k = VariableOf k

-- variable 1 into element 0
abbrev tells : Op
tells = Store (Parameter 0) Int (number 0) (x 1)

abbrev told : ℕ → Asked
told value = Act (StoreAction (Global 7 0) Four value)

-- ---- operations that compute

-- a number takes one step, and a variable is 0 before it is set
set_number : asks (Set 1 (number 9) ∷ tells ∷ []) [] 1 ≡ told 9
set_number = refl

set_runs : asks (Set 1 (number 9) ∷ tells ∷ []) [] 0 ≡ Running
set_runs = refl

unset : asks (tells ∷ []) [] 0 ≡ told 0
unset = refl

-- the scalar parameter is the char 300 - 256
parameter : asks (Set 1 (x 0) ∷ tells ∷ []) [] 1 ≡ told 44
parameter = refl

difference : asks (Calculate 1 Sub (number 3) (x 0) ∷ tells ∷ []) [] 1 ≡ told 4294967255
difference = refl

fit_char : asks (Fit 1 Char (number 200) ∷ tells ∷ []) [] 1 ≡ told 4294967240
fit_char = refl

-- item 5 is item 1 of group 2
own_number : asks (Id 1 GlobalId (number 0) ∷ tells ∷ []) [] 1 ≡ told 5
own_number = refl

number_in_group : asks (Id 1 LocalId (number 0) ∷ tells ∷ []) [] 1 ≡ told 1
number_in_group = refl

own_group : asks (Set 2 (number 0) ∷ Id 1 GroupId (x 2) ∷ tells ∷ []) [] 2 ≡ told 2
own_group = refl

dimensions : asks (Id 1 WorkDim (number 0) ∷ tells ∷ []) [] 1 ≡ told 1
dimensions = refl

-- ---- arrays

-- element 3 begins at byte 12, and a load's answer is cut to the type
load_asks : asks (Load 1 (Parameter 0) Int (number 3) ∷ tells ∷ []) [] 0 ≡ Act (LoadAction (Global 7 12) Four)
load_asks = refl

load_gives : asks (Load 1 (Parameter 0) Int (number 3) ∷ tells ∷ []) (8 ∷ []) 1 ≡ told 8
load_gives = refl

load_char : asks (Load 1 (Parameter 0) Char (number 3) ∷ tells ∷ []) (255 ∷ []) 1 ≡ told 4294967295
load_char = refl

-- an element that is not there has a place too, and bytes are counted modulo 2 ^ 32
load_outside : asks (Load 1 (Parameter 0) Int (number 1073741825) ∷ []) [] 0 ≡ Act (LoadAction (Global 7 4) Four)
load_outside = refl

-- the group's own array
store_local : asks (Store (Declared 0) Short (number 2) (number 65537) ∷ []) [] 0 ≡ Act (StoreAction (Local 2 0 4) Two 1)
store_local = refl

store_then_end : asks (tells ∷ []) (0 ∷ []) 1 ≡ Act End
store_then_end = refl

check_passes : asks (Check (Parameter 0) (number 3) (at 5) ∷ []) [] 1 ≡ Act End
check_passes = refl

check_stops : asks (Check (Parameter 0) (number 4) (at 5) ∷ []) [] 0 ≡ Act (Fault (at 5))
check_stops = refl

check_declared : asks (Check (Declared 0) (number 3) (at 6) ∷ []) [] 0 ≡ Act (Fault (at 6))
check_declared = refl

-- ---- branches; any number but 0 counts

branch_one : asks (If (number 2) (ops_of (Set 1 (number 7) ∷ [])) NoOps ∷ tells ∷ []) [] 2 ≡ told 7
branch_one = refl

branch_other : asks (If (x 1) NoOps (ops_of (Set 1 (number 8) ∷ [])) ∷ tells ∷ []) [] 2 ≡ told 8
branch_other = refl

-- ---- loops

-- counts variable 1 up to a bound: the head puts the test into variable 2
abbrev counts : ℕ → List Op → List Op → Op
counts bound body step = Loop (ops_of (Calculate 2 Sltu (x 1) (number bound) ∷ [])) (x 2) (ops_of body) (ops_of step)

abbrev up : Op
up = Calculate 1 Add (x 1) (number 1)

-- three turns: entering is a step, and each turn has its head, its test, its step and its end
three_turns : asks (counts 3 [] (up ∷ []) ∷ tells ∷ []) [] 15 ≡ told 3
three_turns = refl

three_turns_run : asks (counts 3 [] (up ∷ []) ∷ tells ∷ []) [] 14 ≡ Running
three_turns_run = refl

three_begun : begun (counts 3 [] (up ∷ []) ∷ tells ∷ []) [] 1000 ≡ 3
three_begun = refl

no_turn : begun (counts 0 [] (up ∷ []) ∷ tells ∷ []) [] 1000 ≡ 0
no_turn = refl

-- a loop without a test is left by a break
by_break : asks (Loop NoOps (number 1) (ops_of (up ∷ Calculate 3 Sltu (x 1) (number 4) ∷ If (x 3) NoOps (ops_of (Break ∷ [])) ∷ [])) NoOps ∷ tells ∷ []) [] 100 ≡ told 4
by_break = refl

four_begun : begun (Loop NoOps (number 1) (ops_of (up ∷ Calculate 3 Sltu (x 1) (number 4) ∷ If (x 3) NoOps (ops_of (Break ∷ [])) ∷ [])) NoOps ∷ tells ∷ []) [] 100 ≡ 4
four_begun = refl

-- what stands behind a continue is not done, but the step is
by_continue : asks (counts 3 (Continue ∷ Set 1 (number 50) ∷ []) (up ∷ []) ∷ tells ∷ []) [] 100 ≡ told 3
by_continue = refl

-- in a head or a step both leave the loop
break_in_head : asks (Loop (ops_of (Break ∷ [])) (number 1) (ops_of (Set 1 (number 50) ∷ [])) NoOps ∷ tells ∷ []) [] 100 ≡ told 0
break_in_head = refl

continue_in_head : asks (Loop (ops_of (Continue ∷ [])) (number 1) (ops_of (Set 1 (number 50) ∷ [])) NoOps ∷ tells ∷ []) [] 100 ≡ told 0
continue_in_head = refl

continue_in_step : asks (Loop NoOps (number 1) (ops_of (up ∷ [])) (ops_of (Continue ∷ [])) ∷ tells ∷ []) [] 100 ≡ told 1
continue_in_step = refl

-- a break leaves the inner loop alone
inner_break : asks (counts 3 (Loop NoOps (number 1) (ops_of (Break ∷ [])) NoOps ∷ []) (up ∷ []) ∷ tells ∷ []) [] 100 ≡ told 3
inner_break = refl

-- ---- calls

-- a return inside a loop leaves the call alone
by_return : asks (Call (ops_of (Loop NoOps (number 1) (ops_of (up ∷ Return ∷ [])) NoOps ∷ Set 1 (number 50) ∷ [])) ∷ up ∷ tells ∷ []) [] 100 ≡ told 2
by_return = refl

-- and the loop: a barrier behind the call has no turns
return_leaves_turns : asks (Call (ops_of (Loop NoOps (number 1) (ops_of (Return ∷ [])) NoOps ∷ [])) ∷ Barrier 3 ∷ []) [] 100 ≡ Act (BarrierAction (record { site = 3; turns = [] }))
return_leaves_turns = refl

call_ends : asks (Call (ops_of (up ∷ [])) ∷ tells ∷ []) [] 3 ≡ told 1
call_ends = refl

-- outside all calls a return ends the item
return_ends : asks (Return ∷ tells ∷ []) [] 1 ≡ Act End
return_ends = refl

-- outside every loop of a call a break and a continue are returns
stray_break : asks (counts 2 (Call (ops_of (Break ∷ Set 1 (number 50) ∷ [])) ∷ []) (up ∷ []) ∷ tells ∷ []) [] 100 ≡ told 2
stray_break = refl

stray_continue : asks (counts 2 (Call (ops_of (Continue ∷ Set 1 (number 50) ∷ [])) ∷ []) (up ∷ []) ∷ tells ∷ []) [] 100 ≡ told 2
stray_continue = refl

-- ---- barriers have the turns of the loops round them, the outermost first

abbrev waits : List ℕ → Asked
waits turns = Act (BarrierAction (record { site = 3; turns = turns }))

abbrev nested : List Op
nested = counts 2 (Loop NoOps (number 1) (ops_of (Barrier 3 ∷ [])) NoOps ∷ []) (up ∷ []) ∷ []

first_wait : asks nested [] 100 ≡ waits (0 ∷ 0 ∷ [])
first_wait = refl

third_wait : asks nested (0 ∷ 0 ∷ []) 100 ≡ waits (0 ∷ 2 ∷ [])
third_wait = refl

-- the step has the risen number
step_wait : asks (counts 2 (up ∷ []) (Barrier 3 ∷ []) ∷ []) [] 100 ≡ waits (1 ∷ [])
step_wait = refl

plain_wait : asks (Barrier 3 ∷ []) [] 0 ≡ waits []
plain_wait = refl
