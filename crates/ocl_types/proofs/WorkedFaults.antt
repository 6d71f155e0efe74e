-- The first faults of small files, computed. A kernel `k` has the parameter `__global int *a`; its body begins at column 36.
use Rattle.std.proofs.Common.{◌≡◌, refl, ℕ, Bool, true, false, List, [], ◌∷◌, ◌++◌, Option, None, Some, Result, Ok, Err}
use Rattle.std.specs.Prelude.{codes, is_ok}
use Rattle.vx_base.specs.declared.types.Elem.{Elem}
use Rattle.vx_base.specs.declared.types.Elem.TheVariants.{Char, Int, Uint}
use Rattle.vx_base.specs.declared.types.ParamKind.{ParamKind}
use Rattle.vx_base.specs.declared.types.ParamKind.TheVariants.{Scalar, Pointer}
use Rattle.vx_base.specs.declared.types.Pos.{Pos}
use Rattle.vx_base.specs.declared.types.Space.TheVariants.{Global, Constant, Local}
use Rattle.ocl_ast.specs.Trees.{ExprTree, NumberTree, NameTree, UnaryTree, BinaryTree, BothTree, CastTree, IndexTree, CallTree, ParenTree, ArgTrees, NoArgs, AndArg, NameTarget, IndexTarget, StmtTree, DeclareTree, LocalArrayTree, AssignTree, CallStmtTree, IfTree, WhileTree, ForTree, BreakTree, ReturnTree, BlockTree, EmptyTree, StmtTrees, NoStmts, AndStmt, FunctionTree}
use Rattle.ocl_ast.specs.declared.exprs.BinOp.TheVariants.{Add, Sub, Shl, Lt}
use Rattle.ocl_ast.specs.declared.exprs.Ident.{Ident}
use Rattle.ocl_ast.specs.declared.exprs.UnOp.TheVariants.{Minus}
use Rattle.ocl_ast.specs.declared.stmts.AssignOp.TheVariants.{Set, Up}
use Rattle.ocl_ast.specs.declared.units.Gives.{Gives}
use Rattle.ocl_ast.specs.declared.units.Gives.TheVariants.{Nothing, Value}
use Rattle.ocl_ast.specs.declared.units.Param.{Param}
use Rattle.ocl_program.specs.Nodes.{FunctionNode}
use Rattle.ocl_measures.specs.Recursion.{leads}
use Rattle.ocl_program.specs.Measures.{expanded}
use Rattle.ocl_types.specs.declared.faults.TypeFault.{TypeFault}
use Rattle.ocl_types.specs.declared.faults.TypeFault.TheVariants.{Unknown, Twice, Mismatch, Recursive}
use Rattle.ocl_types.specs.Names.{builtin_named}
use Rattle.ocl_types.specs.Functions.{program_of}

abbrev at : ℕ → Pos
at col = record { line = 1; col = col }

abbrev named : ℕ → List ℕ → Ident
named col text = record { text = text; pos = record { line = 1; col = col } }

abbrev number : ℕ → ℕ → ExprTree
number col n = NumberTree n false (record { line = 1; col = col })

abbrev variable : ℕ → List ℕ → ExprTree
variable col text = NameTree (named col text)

abbrev param : List ℕ → ParamKind → Param
param text kind = record { name = named 7 text; kind = kind; constant = false }

abbrev function_of : Bool → ℕ → List ℕ → Gives → List Param → StmtTrees → FunctionTree
function_of kernel col text gives params body = record { kernel = kernel; name = named col text; gives = gives; params = params; body = body }

-- the kernel, and helpers `int f(int x)`, `int g(__global int *p)`, `int h(__local int *q)` and `void n()`
abbrev helpers : List FunctionTree
helpers =
    function_of false 5 (codes "f") (Value Int) (param (codes "x") (Scalar Int) ∷ []) NoStmts ∷
    function_of false 5 (codes "g") (Value Int) (param (codes "p") (Pointer Global Int false) ∷ []) NoStmts ∷
    function_of false 5 (codes "h") (Value Int) (param (codes "q") (Pointer Local Int false) ∷ []) NoStmts ∷
    function_of false 5 (codes "n") Nothing [] NoStmts ∷ []

abbrev kernel : Bool → StmtTrees → List FunctionTree
kernel readonly body = function_of true 15 (codes "k") Nothing (param (codes "a") (Pointer Global Int readonly) ∷ []) body ∷ helpers

abbrev only : StmtTree → StmtTrees
only s = AndStmt s NoStmts

-- the first fault of a kernel with one statement
abbrev fault_of : Result (List FunctionNode) TypeFault → Option TypeFault
fault_of (Ok program) = None
fault_of (Err fault) = Some fault

abbrev judged : StmtTree → Option TypeFault
judged s = fault_of (program_of (kernel false (only s)))

abbrev value : ExprTree → StmtTree
value e = DeclareTree Int false (named 40 (codes "y")) (Some e)

abbrev call : ℕ → List ℕ → ArgTrees → ExprTree
call col text args = CallTree (named col text) args

abbrev one : ExprTree → ArgTrees
one e = AndArg e NoArgs

abbrev two : ExprTree → ExprTree → ArgTrees
two e f = AndArg e (AndArg f NoArgs)

-- a function as a variable, a scalar indexed, a kernel called, an array as a variable
function_as_variable : judged (value (variable 44 (codes "f"))) ≡ Some (Mismatch (at 44))
unfolding builtin_named expanded leads
function_as_variable = refl

kernel_called : judged (value (call 44 (codes "k") NoArgs)) ≡ Some (Mismatch (at 44))
unfolding builtin_named expanded leads
kernel_called = refl

array_as_variable : judged (value (variable 44 (codes "a"))) ≡ Some (Mismatch (at 44))
unfolding builtin_named expanded leads
array_as_variable = refl

builtin_as_variable : judged (value (variable 44 (codes "min"))) ≡ Some (Unknown (at 44))
unfolding builtin_named expanded leads
builtin_as_variable = refl

-- a name in an argument comes before the number of the arguments, and that before their kinds
argument_first : judged (value (call 44 (codes "f") (two (number 46 1) (variable 49 (codes "z"))))) ≡ Some (Unknown (at 49))
unfolding builtin_named expanded leads
argument_first = refl

number_next : judged (value (call 44 (codes "f") (two (number 46 1) (number 49 2)))) ≡ Some (Mismatch (at 44))
unfolding builtin_named expanded leads
number_next = refl

-- an array for a pointer of its space is accepted; for one of another space, a number for a pointer, and an array in parentheses are not
array_given : judged (value (call 44 (codes "g") (one (variable 46 (codes "a"))))) ≡ None
unfolding builtin_named expanded leads
array_given = refl

other_space : judged (value (call 44 (codes "h") (one (variable 46 (codes "a"))))) ≡ Some (Mismatch (at 46))
unfolding builtin_named expanded leads
other_space = refl

number_for_pointer : judged (value (call 44 (codes "g") (one (BinaryTree Add (number 46 1) (number 50 2) (at 48))))) ≡ Some (Mismatch (at 46))
unfolding builtin_named expanded leads
number_for_pointer = refl

in_parentheses : judged (value (call 44 (codes "g") (one (ParenTree (variable 47 (codes "a")) (at 46))))) ≡ Some (Mismatch (at 47))
unfolding builtin_named expanded leads
in_parentheses = refl

-- a readonly array goes to no parameter that is written, and is not assigned
readonly_given : fault_of (program_of (kernel true (only (value (call 44 (codes "g") (one (variable 46 (codes "a")))))))) ≡ Some (Mismatch (at 46))
unfolding builtin_named expanded leads
readonly_given = refl

readonly_assigned : fault_of (program_of (kernel true (only (AssignTree (IndexTarget (named 36 (codes "a")) (variable 38 (codes "z")) (at 37)) Set (Some (number 43 1)) (at 41))))) ≡ Some (Mismatch (at 36))
unfolding builtin_named expanded leads
readonly_assigned = refl

-- a call without value in an expression, and as a statement
no_value : judged (value (call 44 (codes "n") NoArgs)) ≡ Some (Mismatch (at 44))
unfolding builtin_named expanded leads
no_value = refl

as_statement : judged (CallStmtTree (named 36 (codes "n")) NoArgs) ≡ None
unfolding builtin_named expanded leads
as_statement = refl

-- `mul_hi` of a char
char_product : judged (value (call 44 (codes "mul_hi") (two (number 51 1) (CastTree Char (number 60 2) (at 54))))) ≡ Some (Mismatch (at 54))
unfolding builtin_named expanded leads
char_product = refl

-- jumps
no_loop : judged (BreakTree (at 36)) ≡ Some (Mismatch (at 36))
unfolding builtin_named expanded leads
no_loop = refl

in_loop : judged (WhileTree (number 43 1) (BreakTree (at 46))) ≡ None
unfolding builtin_named expanded leads
in_loop = refl

-- `return z;` in a function that gives nothing is a fault of the `return`
value_from_kernel : judged (ReturnTree (Some (variable 43 (codes "z"))) (at 36)) ≡ Some (Mismatch (at 36))
unfolding builtin_named expanded leads
value_from_kernel = refl

-- counts of arrays: 0, 1, 262144 and 262145, `1 && 1`, `2 - 3`, a name, and in an inner block
none_of : judged (LocalArrayTree Int (named 48 (codes "t")) (number 50 0)) ≡ Some (Mismatch (at 48))
unfolding builtin_named expanded leads
none_of = refl

one_of : judged (LocalArrayTree Int (named 48 (codes "t")) (BothTree (number 50 1) (number 55 1) (at 52))) ≡ None
unfolding builtin_named expanded leads
one_of = refl

most_of : judged (LocalArrayTree Int (named 48 (codes "t")) (BinaryTree Shl (number 50 1) (number 55 18) (at 52))) ≡ None
unfolding builtin_named expanded leads
most_of = refl

too_many_of : judged (LocalArrayTree Int (named 48 (codes "t")) (number 50 262145)) ≡ Some (Mismatch (at 48))
unfolding builtin_named expanded leads
too_many_of = refl

below_none_of : judged (LocalArrayTree Int (named 48 (codes "t")) (BinaryTree Sub (number 50 2) (number 55 3) (at 52))) ≡ Some (Mismatch (at 48))
unfolding builtin_named expanded leads
below_none_of = refl

name_in_count : judged (LocalArrayTree Int (named 48 (codes "t")) (variable 50 (codes "z"))) ≡ Some (Mismatch (at 48))
unfolding builtin_named expanded leads
name_in_count = refl

inner_block : judged (BlockTree (only (LocalArrayTree Int (named 48 (codes "t")) (number 50 4)))) ≡ Some (Mismatch (at 48))
unfolding builtin_named expanded leads
inner_block = refl

-- the head of a `for` and its body's block are two scopes; a variable of the head is not known behind it
abbrev counting : StmtTree
counting = ForTree (only (DeclareTree Int false (named 45 (codes "i")) (Some (number 49 0)))) (Some (BinaryTree Lt (variable 52 (codes "i")) (number 56 3) (at 54)))
    (only (AssignTree (NameTarget (named 59 (codes "i"))) Up None (at 60))) (BlockTree (only (DeclareTree Int false (named 70 (codes "i")) None)))

for_scopes : judged counting ≡ None
unfolding builtin_named expanded leads
for_scopes = refl

behind_for : fault_of (program_of (kernel false (AndStmt counting (only (AssignTree (NameTarget (named 80 (codes "i"))) Up None (at 81)))))) ≡ Some (Unknown (at 80))
unfolding builtin_named expanded leads
behind_for = refl

-- two helpers that call each other, the first in the file is named; a function with a built-in function's name
abbrev calling : ℕ → List ℕ → List ℕ → FunctionTree
calling col text callee = function_of false col text (Value Int) [] (only (ReturnTree (Some (call 20 callee NoArgs)) (at 12)))

through_two : fault_of (program_of (calling 5 (codes "e") (codes "c") ∷ calling 6 (codes "c") (codes "d") ∷ calling 7 (codes "d") (codes "c") ∷ [])) ≡ Some (Recursive (at 6))
unfolding builtin_named expanded leads
through_two = refl

builtin_twice : fault_of (program_of (function_of false 5 (codes "max") (Value Int) [] NoStmts ∷ [])) ≡ Some (Twice (at 5))
unfolding builtin_named expanded leads
builtin_twice = refl
