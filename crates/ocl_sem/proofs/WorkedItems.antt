-- Small kernels, run by hand: each row is what an item asks for after some answers.
use Rattle.std.proofs.Common.{◌≡◌, refl, ℕ, ◌*◌, true, false, List, [], ◌∷◌, None, Some}
use Rattle.std.specs.Prelude.{codes}
use Rattle.vx_base.specs.declared.types.Elem.{Elem}
use Rattle.vx_base.specs.declared.types.Elem.TheVariants.{Char, Uchar, Short, Int}
use Rattle.vx_base.specs.declared.types.ParamKind.{ParamKind}
use Rattle.vx_base.specs.declared.types.ParamKind.TheVariants.{Scalar, Pointer}
use Rattle.vx_base.specs.declared.types.Pos.{Pos}
use Rattle.vx_base.specs.declared.types.Size.TheVariants.{One, Two, Four}
use Rattle.vx_base.specs.declared.types.Space.TheVariants.{Global as GlobalSpace, Local as LocalSpace}
use Rattle.item_acts.specs.declared.acts.Action.TheVariants.{Load, Store, Barrier, Fault, End}
use Rattle.item_acts.specs.declared.acts.Asked.{Asked}
use Rattle.item_acts.specs.declared.acts.Asked.TheVariants.{Act, Running}
use Rattle.item_acts.specs.declared.acts.Bound.TheVariants.{Value as BoundValue, Array}
use Rattle.item_acts.specs.declared.acts.Place.TheVariants.{Global, Local}
use Rattle.item_acts.specs.declared.acts.Range.{Range}
use Rattle.ocl_ast.specs.declared.exprs.BinOp.TheVariants.{Mul, Div, Rem, Add, Sub, Shl, Shr, Lt, Gt, Eq, Ne}
use Rattle.ocl_ast.specs.declared.exprs.UnOp.TheVariants.{Minus}
use Rattle.ocl_ast.specs.declared.stmts.AssignOp.TheVariants.{Set, With, Up}
use Rattle.ocl_ast.specs.declared.units.Gives.{Gives}
use Rattle.ocl_ast.specs.declared.units.Gives.TheVariants.{Nothing, Value}
use Rattle.ocl_ast.specs.declared.units.Param.{Param}
use Rattle.ocl_program.specs.declared.exprs.ArrayRef.TheVariants.{Parameter, Declared}
use Rattle.ocl_program.specs.declared.exprs.Builtin.TheVariants.{GlobalId, LocalId, MulHi, Abs}
use Rattle.ocl_program.specs.declared.functions.CallSite.{CallSite}
use Rattle.ocl_program.specs.Nodes.{ExprNode, NumberNode, VariableNode, UnaryNode, BinaryNode, BothNode, EitherNode, ChooseNode, CastNode, LoadNode, CallNode, BuiltinNode, NoArgs, ValueArg, ArrayArg, StmtNode, DeclareNode, SetVariableNode, SetElementNode, CallStmtNode, BarrierNode, IfNode, IfElseNode, WhileNode, DoNode, ForNode, BreakNode, ContinueNode, ReturnNode, BlockNode, EmptyNode, NoStmts, stmt_nodes, FunctionNode}
use Rattle.ocl_sem.specs.Items.{kernel_asks}

abbrev at : ℕ → Pos
at col = record { line = 1; col = col }

-- a parameter with a name that does not matter
abbrev param_of : ParamKind → Param
param_of kind = record { name = record { text = codes "p"; pos = record { line = 1; col = 1 } }; kind = kind; constant = false }

-- `__global int *`, and the same of another type
abbrev array_param : Elem → Param
array_param elem = param_of (Pointer GlobalSpace elem false)

abbrev scalar_param : Elem → Param
scalar_param elem = param_of (Scalar elem)

abbrev kernel_of : List Param → List CallSite → List StmtNode → FunctionNode
kernel_of params calls body = record {
  kernel = true;
  name = record { text = codes "k"; pos = record { line = 1; col = 1 } };
  gives = Nothing;
  params = params;
  variables = 4;
  sites = 1;
  arrays = [];
  calls = calls;
  body = stmt_nodes body;
}

abbrev helper_of : Gives → List Param → List StmtNode → FunctionNode
helper_of gives params body = record {
  kernel = false;
  name = record { text = codes "f"; pos = record { line = 1; col = 1 } };
  gives = gives;
  params = params;
  variables = 2;
  sites = 1;
  arrays = [];
  calls = [];
  body = stmt_nodes body;
}

-- items in one dimension, in groups of two
abbrev eight : Range
eight = record { dims = 1; global = 8 ∷ 1 ∷ 1 ∷ []; local = 2 ∷ 1 ∷ 1 ∷ [] }

abbrev number : ℕ → ExprNode
number n = NumberNode n false

-- `x`, the variable with this number
abbrev x_at : ℕ → ExprNode
x_at k = VariableNode k Int

abbrev own_id : ExprNode
own_id = BuiltinNode GlobalId true (ValueArg (number 0) NoArgs)

-- `a[place]` with its `[` in this column, and `a[place] = value`
abbrev element : ExprNode → ℕ → ExprNode
element place col = LoadNode (Parameter 0) Int place (at col)

abbrev sets : ExprNode → ExprNode → ℕ → StmtNode
sets place value col = SetElementNode (Parameter 0) Int place Set false (Some value) (at col)

abbrev first_is : ExprNode → StmtNode
first_is value = sets (number 0) value 7

-- what item 0 asks for, where the first parameter is an array of ints with four elements
abbrev asks : List FunctionNode → List CallSite → List StmtNode → ℕ → List ℕ → ℕ → Asked
asks helpers calls body item answers fuel =
    kernel_asks (kernel_of (array_param Int ∷ []) calls body ∷ helpers) (kernel_of (array_param Int ∷ []) calls body) eight (Array 0 4 ∷ []) item answers fuel

abbrev value_of : ExprNode → ℕ → Asked
value_of value fuel = asks [] [] (first_is value ∷ []) 0 [] fuel

abbrev stores : ℕ → ℕ → Asked
stores element value = Act (Store (Global 0 (4 * element)) Four value)

-- `a[0] = 9 - 3 - 2;` stores 4, with six steps before it, and then the item ends
difference : value_of (BinaryNode Sub false (BinaryNode Sub false (number 9) (number 3)) (number 2)) 6 ≡ stores 0 4
difference = refl

difference_runs : value_of (BinaryNode Sub false (BinaryNode Sub false (number 9) (number 3)) (number 2)) 5 ≡ Running
difference_runs = refl

difference_ends : asks [] [] (first_is (BinaryNode Sub false (BinaryNode Sub false (number 9) (number 3)) (number 2)) ∷ []) 0 (0 ∷ []) 8 ≡ Act End
difference_ends = refl

-- an item stores to its own element
own_element : asks [] [] (sets own_id (number 1) 7 ∷ []) 3 [] 8 ≡ Act (Store (Global 0 12) Four 1)
own_element = refl

-- ---- operators; division by 0 is RISC-V's

seven_by_zero : value_of (BinaryNode Div false (number 7) (number 0)) 8 ≡ stores 0 4294967295
seven_by_zero = refl

rest_by_zero : value_of (BinaryNode Rem true (number 7) (number 0)) 8 ≡ stores 0 7
rest_by_zero = refl

-- -2^31 / -1 is -2^31
least_by_minus_one : value_of (BinaryNode Div false (number 2147483648) (UnaryNode Minus (number 1))) 8 ≡ stores 0 2147483648
least_by_minus_one = refl

-- -7 / 2 is -3, and -7 % 2 is -1
toward_zero : value_of (BinaryNode Div false (UnaryNode Minus (number 7)) (number 2)) 8 ≡ stores 0 4294967293
toward_zero = refl

rest_of_dividend : value_of (BinaryNode Rem false (UnaryNode Minus (number 7)) (number 2)) 8 ≡ stores 0 4294967295
rest_of_dividend = refl

-- -8 >> 1 is -4 as an int and 2^31 - 4 as a uint; an amount counts by its low five bits
shift_of_int : value_of (BinaryNode Shr false (UnaryNode Minus (number 8)) (number 1)) 8 ≡ stores 0 4294967292
shift_of_int = refl

shift_of_uint : value_of (BinaryNode Shr true (UnaryNode Minus (number 8)) (number 1)) 8 ≡ stores 0 2147483644
shift_of_uint = refl

shift_by_33 : value_of (BinaryNode Shl false (number 1) (number 33)) 8 ≡ stores 0 2
shift_by_33 = refl

-- -1 < 1 as ints, and not as uints
less_as_int : value_of (BinaryNode Lt false (UnaryNode Minus (number 1)) (number 1)) 8 ≡ stores 0 1
less_as_int = refl

less_as_uint : value_of (BinaryNode Lt true (UnaryNode Minus (number 1)) (number 1)) 8 ≡ stores 0 0
less_as_uint = refl

-- abs of the least int, and the high word of a product
magnitude_of_least : value_of (BuiltinNode Abs false (ValueArg (number 2147483648) NoArgs)) 8 ≡ stores 0 2147483648
magnitude_of_least = refl

high_of_product : value_of (BuiltinNode MulHi true (ValueArg (number 4294967295) (ValueArg (number 4294967295) NoArgs))) 8 ≡ stores 0 4294967294
high_of_product = refl

-- (char) 200 is -56, (short) 40000 is -25536, (uchar) 300 is 44
cast_to_char : value_of (CastNode Char (number 200)) 8 ≡ stores 0 4294967240
cast_to_char = refl

cast_to_short : value_of (CastNode Short (number 40000)) 8 ≡ stores 0 4294941760
cast_to_short = refl

cast_to_uchar : value_of (CastNode Uchar (number 300)) 8 ≡ stores 0 44
cast_to_uchar = refl

-- `char c = 200; c += 100; a[0] = c;`: -56 + 100 is 44
char_variable : asks [] []
    (DeclareNode 0 Char (Some (number 200)) ∷ SetVariableNode 0 Char (With Add) false (Some (number 100)) ∷ first_is (VariableNode 0 Char) ∷ []) 0 [] 12 ≡ stores 0 44
char_variable = refl

-- an array of shorts: a store has the low two bytes, and a load extends them
abbrev shorts : List StmtNode → List ℕ → ℕ → Asked
shorts body answers fuel =
    kernel_asks (kernel_of (array_param Short ∷ []) [] body ∷ []) (kernel_of (array_param Short ∷ []) [] body) eight (Array 0 4 ∷ []) 0 answers fuel

short_stored : shorts (SetElementNode (Parameter 0) Short (number 3) Set false (Some (UnaryNode Minus (number 1))) (at 7) ∷ []) [] 8 ≡ Act (Store (Global 0 6) Two 65535)
short_stored = refl

-- `a[0] = a[1] / 2` at 65534, which is -2
short_loaded : shorts (SetElementNode (Parameter 0) Short (number 0) Set false (Some (BinaryNode Div false (LoadNode (Parameter 0) Short (number 1) (at 14)) (number 2))) (at 7) ∷ []) (65534 ∷ []) 12
    ≡ Act (Store (Global 0 0) Two 65535)
short_loaded = refl

-- ---- indexes

-- `a[4] = 1` of four elements, as an unsigned number
past_the_end : asks [] [] (sets (number 4) (number 1) 33 ∷ []) 0 [] 8 ≡ Act (Fault (at 33))
past_the_end = refl

before_the_start : asks [] [] (sets (UnaryNode Minus (number 1)) (number 1) 33 ∷ []) 0 [] 8 ≡ Act (Fault (at 33))
before_the_start = refl

-- `a[4] = a[1]`: the value is evaluated before the index of the store is checked, and a fault has no answer
value_first : asks [] [] (sets (number 4) (element (number 1) 40) 33 ∷ []) 0 [] 8 ≡ Act (Load (Global 0 4) Four)
value_first = refl

then_the_fault : asks [] [] (sets (number 4) (element (number 1) 40) 33 ∷ []) 0 (9 ∷ []) 8 ≡ Act (Fault (at 33))
then_the_fault = refl

after_the_fault : asks [] [] (sets (number 4) (element (number 1) 40) 33 ∷ []) 0 (9 ∷ 0 ∷ []) 80 ≡ Running
after_the_fault = refl

-- `a[4] += a[1]` checks before its value is evaluated
checked_first : asks [] [] (SetElementNode (Parameter 0) Int (number 4) (With Add) false (Some (element (number 1) 40)) (at 33) ∷ []) 0 [] 8 ≡ Act (Fault (at 33))
checked_first = refl

-- `a[a[0]] += a[2]` in parts: the index once, its element, the value, the store
abbrev adds_to : List StmtNode
adds_to = SetElementNode (Parameter 0) Int (element (number 0) 5) (With Add) false (Some (element (number 2) 17)) (at 3) ∷ []

index_once : asks [] [] adds_to 0 [] 20 ≡ Act (Load (Global 0 0) Four)
index_once = refl

its_element : asks [] [] adds_to 0 (3 ∷ []) 20 ≡ Act (Load (Global 0 12) Four)
its_element = refl

the_value : asks [] [] adds_to 0 (3 ∷ 10 ∷ []) 20 ≡ Act (Load (Global 0 8) Four)
the_value = refl

the_sum : asks [] [] adds_to 0 (3 ∷ 10 ∷ 5 ∷ []) 20 ≡ stores 3 15
the_sum = refl

-- `a[1]++` at 4294967295
wraps : asks [] [] (SetElementNode (Parameter 0) Int (number 1) Up false None (at 3) ∷ []) 0 (4294967295 ∷ []) 20 ≡ stores 1 0
wraps = refl

-- `a[0] = 0 && a[9]` and `a[0] = 5 || a[9]` do not load; `1 && 2` is 1
both_stops : value_of (BothNode (number 0) (element (number 9) 20)) 20 ≡ stores 0 0
both_stops = refl

either_stops : value_of (EitherNode (number 5) (element (number 9) 20)) 20 ≡ stores 0 1
either_stops = refl

both_is_one : value_of (BothNode (number 1) (number 2)) 20 ≡ stores 0 1
both_is_one = refl

choose_one : value_of (ChooseNode false (number 0) (element (number 9) 20) (number 8)) 20 ≡ stores 0 8
choose_one = refl

-- ---- loops

-- `int n = a[i]; int c = 0; while (n != 1) { if (n % 2) n = 3 * n + 1; else n = n / 2; c++; } a[i] = c;`
abbrev collatz : List StmtNode
collatz =
    DeclareNode 0 Int (Some (element own_id 20)) ∷
    DeclareNode 1 Int (Some (number 0)) ∷
    WhileNode (BinaryNode Ne false (x_at 0) (number 1)) (BlockNode (stmt_nodes (
    IfElseNode (BinaryNode Rem false (x_at 0) (number 2))
    (SetVariableNode 0 Int Set false (Some (BinaryNode Add false (BinaryNode Mul false (number 3) (x_at 0)) (number 1))))
    (SetVariableNode 0 Int Set false (Some (BinaryNode Div false (x_at 0) (number 2)))) ∷
    SetVariableNode 1 Int Up false None ∷ []))) ∷
    sets own_id (x_at 1) 90 ∷ []

-- 6, 3, 10, 5, 16, 8, 4, 2, 1
collatz_of_six : asks [] [] collatz 2 (6 ∷ []) 1000 ≡ stores 2 8
collatz_of_six = refl

collatz_of_one : asks [] [] collatz 2 (1 ∷ []) 1000 ≡ stores 2 0
collatz_of_one = refl

-- `if (get_global_id(0) > 0) return; a[0] = 1;`
abbrev first_only : List StmtNode
first_only = IfNode (BinaryNode Gt true own_id (number 0)) (ReturnNode None) ∷ first_is (number 1) ∷ []

early_return : asks [] [] first_only 3 [] 20 ≡ Act End
early_return = refl

no_return : asks [] [] first_only 0 [] 20 ≡ stores 0 1
no_return = refl

-- `int i; for (i = 0;; i++) if (i == 3) break; a[0] = i;`
left_by_break : asks [] []
    (DeclareNode 0 Int None ∷
    ForNode (stmt_nodes (SetVariableNode 0 Int Set false (Some (number 0)) ∷ [])) None (stmt_nodes (SetVariableNode 0 Int Up false None ∷ []))
    (IfNode (BinaryNode Eq false (x_at 0) (number 3)) BreakNode) ∷
    first_is (x_at 0) ∷ []) 0 [] 100 ≡ stores 0 3
left_by_break = refl

-- `int s = 0; for (int i = 0; i < 5; i++) { if (i == 1) continue; s += i; } a[0] = s;` runs the step behind `continue`
continued_loop : asks [] []
    (DeclareNode 0 Int (Some (number 0)) ∷
    ForNode (stmt_nodes (DeclareNode 1 Int (Some (number 0)) ∷ [])) (Some (BinaryNode Lt false (x_at 1) (number 5))) (stmt_nodes (SetVariableNode 1 Int Up false None ∷ []))
    (BlockNode (stmt_nodes (IfNode (BinaryNode Eq false (x_at 1) (number 1)) ContinueNode ∷ SetVariableNode 0 Int (With Add) false (Some (x_at 1)) ∷ []))) ∷
    first_is (x_at 0) ∷ []) 0 [] 200 ≡ stores 0 9
continued_loop = refl

-- `while (1) { break; while (0) ; } a[0] = 1;` leaves the outer loop: the other one is not entered yet
left_before_loop : asks [] []
    (WhileNode (number 1) (BlockNode (stmt_nodes (BreakNode ∷ WhileNode (number 0) EmptyNode ∷ []))) ∷ first_is (number 1) ∷ []) 0 [] 40 ≡ stores 0 1
left_before_loop = refl

-- `for (int i = 0; i < 2; i++) { if (i == 0) continue; do barrier(1); while (0); }`: a loop behind the end of a turn has no part in it
continued_before_loop : asks [] []
    (ForNode (stmt_nodes (DeclareNode 0 Int (Some (number 0)) ∷ [])) (Some (BinaryNode Lt false (x_at 0) (number 2))) (stmt_nodes (SetVariableNode 0 Int Up false None ∷ []))
    (BlockNode (stmt_nodes (IfNode (BinaryNode Eq false (x_at 0) (number 0)) ContinueNode ∷ DoNode (BarrierNode 0) (number 0) ∷ []))) ∷ []) 0 [] 60
    ≡ Act (Barrier (record { site = 0; turns = 1 ∷ 0 ∷ [] }))
continued_before_loop = refl

-- `do i++; while (i < 1); a[0] = i;` has one turn at least
do_once : asks [] [] (DeclareNode 0 Int (Some (number 7)) ∷ DoNode (SetVariableNode 0 Int Up false None) (BinaryNode Lt false (x_at 0) (number 1)) ∷ first_is (x_at 0) ∷ []) 0 [] 40 ≡ stores 0 8
do_once = refl

-- a variable is 0 each time its declaration is met: `for (int i = 0; i < 2; i++) { int x; x += 1; a[0] = x; }`
declared_anew : asks [] []
    (ForNode (stmt_nodes (DeclareNode 0 Int (Some (number 0)) ∷ [])) (Some (BinaryNode Lt false (x_at 0) (number 2))) (stmt_nodes (SetVariableNode 0 Int Up false None ∷ []))
    (BlockNode (stmt_nodes (DeclareNode 1 Int None ∷ SetVariableNode 1 Int (With Add) false (Some (number 1)) ∷ first_is (x_at 1) ∷ []))) ∷ []) 0 (0 ∷ []) 100 ≡ stores 0 1
declared_anew = refl

-- ---- barriers

-- `int i = 0; while (i < 2) { int j = 0; do { barrier(..); j++; } while (j < 2); i++; }` with the turns of both loops
abbrev nested : List StmtNode
nested =
    DeclareNode 0 Int None ∷
    WhileNode (BinaryNode Lt false (x_at 0) (number 2)) (BlockNode (stmt_nodes (
    DeclareNode 1 Int None ∷
    DoNode (BlockNode (stmt_nodes (BarrierNode 0 ∷ SetVariableNode 1 Int Up false None ∷ []))) (BinaryNode Lt false (x_at 1) (number 2)) ∷
    SetVariableNode 0 Int Up false None ∷ []))) ∷
    BarrierNode 1 ∷ []

abbrev waits : ℕ → List ℕ → Asked
waits site turns = Act (Barrier (record { site = site; turns = turns }))

first_barrier : asks [] [] nested 0 [] 100 ≡ waits 0 (0 ∷ 0 ∷ [])
first_barrier = refl

second_barrier : asks [] [] nested 0 (0 ∷ []) 100 ≡ waits 0 (0 ∷ 1 ∷ [])
second_barrier = refl

third_barrier : asks [] [] nested 0 (0 ∷ 0 ∷ []) 100 ≡ waits 0 (1 ∷ 0 ∷ [])
third_barrier = refl

last_barrier : asks [] [] nested 0 (0 ∷ 0 ∷ 0 ∷ 0 ∷ []) 200 ≡ waits 1 []
last_barrier = refl

-- `for (; i < 1; w()) ;` with a barrier in the helper: behind the first turn the number has risen
turn_in_step : asks (helper_of Nothing [] (BarrierNode 0 ∷ []) ∷ []) (record { callee = 1; variables = 4; sites = 1 } ∷ [])
    (ForNode NoStmts (Some (BinaryNode Lt false (x_at 0) (number 1))) (stmt_nodes (CallStmtNode (CallNode 0 NoArgs) ∷ [])) (SetVariableNode 0 Int Up false None) ∷ []) 0 [] 50
    ≡ waits 1 (1 ∷ [])
turn_in_step = refl

-- ---- helpers

abbrev call_of : ℕ → CallSite
call_of k = record { callee = k; variables = 4; sites = 1 }

-- `int f(char x) { return x * x; }` and `a[0] = 1 + f(259);`: 259 as a char is 3
square : asks (helper_of (Value Int) (scalar_param Char ∷ []) (ReturnNode (Some (BinaryNode Mul false (VariableNode 0 Char) (VariableNode 0 Char))) ∷ []) ∷ []) (call_of 1 ∷ [])
    (first_is (BinaryNode Add false (number 1) (CallNode 0 (ValueArg (number 259) NoArgs))) ∷ []) 0 [] 30 ≡ stores 0 10
square = refl

-- `char f(int x) { return x; }`: a value is converted as it is given back
given_as_char : asks (helper_of (Value Char) (scalar_param Int ∷ []) (ReturnNode (Some (x_at 0)) ∷ []) ∷ []) (call_of 1 ∷ [])
    (first_is (CallNode 0 (ValueArg (number 200) NoArgs)) ∷ []) 0 [] 30 ≡ stores 0 4294967240
given_as_char = refl

-- a helper without `return` gives 0
no_value : asks (helper_of (Value Int) (scalar_param Int ∷ []) (SetVariableNode 0 Int Set false (Some (number 9)) ∷ []) ∷ []) (call_of 1 ∷ [])
    (first_is (CallNode 0 (ValueArg (number 5) NoArgs)) ∷ []) 0 [] 30 ≡ stores 0 0
no_value = refl

-- `int g(__global int *p, int i) { while (1) { if (i) return p[i]; i++; } }`: a `return` out of a loop, and a pointer argument
abbrev reads : FunctionNode
reads = helper_of (Value Int) (array_param Int ∷ scalar_param Int ∷ [])
    (WhileNode (number 1) (BlockNode (stmt_nodes (IfNode (x_at 0) (ReturnNode (Some (LoadNode (Parameter 0) Int (x_at 0) (at 70)))) ∷ SetVariableNode 0 Int Up false None ∷ []))) ∷ [])

abbrev calls_reads : List StmtNode
calls_reads = sets (number 1) (BinaryNode Add false (number 100) (CallNode 0 (ArrayArg (Parameter 0) (ValueArg (number 0) NoArgs)))) 7 ∷ BarrierNode 0 ∷ []

through_pointer : asks (reads ∷ []) (call_of 1 ∷ []) calls_reads 0 [] 60 ≡ Act (Load (Global 0 4) Four)
through_pointer = refl

out_of_helper : asks (reads ∷ []) (call_of 1 ∷ []) calls_reads 0 (11 ∷ []) 60 ≡ stores 1 111
out_of_helper = refl

-- the loop of the helper is left
loops_left : asks (reads ∷ []) (call_of 1 ∷ []) calls_reads 0 (11 ∷ 0 ∷ []) 60 ≡ waits 0 []
loops_left = refl

-- a fault in a helper is at the helper's `[`
fault_in_helper : asks (reads ∷ []) (call_of 1 ∷ []) (first_is (CallNode 0 (ArrayArg (Parameter 0) (ValueArg (number 4) NoArgs))) ∷ []) 0 [] 60 ≡ Act (Fault (at 70))
fault_in_helper = refl

-- ---- starts

-- a scalar parameter is bound by its type, and its variable stands before those that are declared
bound_by_type : kernel_asks [] (kernel_of (scalar_param Uchar ∷ array_param Int ∷ scalar_param Int ∷ []) []
    (SetElementNode (Parameter 1) Int (x_at 1) Set false (Some (VariableNode 0 Uchar)) (at 3) ∷ [])) eight (BoundValue 300 ∷ Array 6 4 ∷ BoundValue 2 ∷ []) 0 [] 20
    ≡ Act (Store (Global 6 8) Four 44)
bound_by_type = refl

-- `__local` arrays: the parameters' first, then the declared ones
abbrev with_locals : FunctionNode
with_locals = record {
  kernel = true;
  name = record { text = codes "k"; pos = record { line = 1; col = 1 } };
  gives = Nothing;
  params = param_of (Pointer LocalSpace Int false) ∷ [];
  variables = 0;
  sites = 0;
  arrays = record { elem = Char; count = 8 } ∷ [];
  calls = [];
  body = stmt_nodes (SetElementNode (Declared 0) Char (BuiltinNode LocalId true (ValueArg (number 0) NoArgs)) Set false (Some (number 257)) (at 3) ∷ []);
}

declared_array_row : kernel_asks [] with_locals eight (Array 0 16 ∷ []) 5 [] 20 ≡ Act (Store (Local 2 1 1) One 1)
declared_array_row = refl
