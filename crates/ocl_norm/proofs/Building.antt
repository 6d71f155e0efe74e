-- Parts of the flat tree as the code reads them: how large they are, how many variables they use, and what they come to.
use Rattle.std.proofs.Common.{◌≡◌, ℕ, zero, suc, ◌+◌, ◌<◌, ◌≤◌, max, Bool, true, false, List, [], ◌∷◌, Option, None, Some, Result, Ok, Err, OnOk, Box, Global, length, get_or, refl, sym, ap, ◌∙◌, arith}
use Rattle.std.specs.Option.{option_map}
use Rattle.ocl_ast.specs.declared.stmts.AssignOp.{AssignOp}
use Rattle.ocl_ast.specs.declared.units.Gives.{Gives}
use Rattle.ocl_program.specs.declared.exprs.ArrayRef.{ArrayRef}
use Rattle.ocl_program.specs.declared.exprs.Builtin.{Builtin}
use Rattle.vx_base.specs.declared.types.Elem.{Elem}
use Rattle.vx_base.specs.declared.types.Pos.{Pos}
use Rattle.kir.specs.Trees.{If, Loop, Ops, NoOps, AndOp}
use Rattle.ocl_inline.specs.declared.trees.FlatArgument.{FlatArgument, Array}
use Rattle.ocl_inline.specs.declared.trees.FlatArgument as argument
use Rattle.ocl_inline.specs.declared.trees.FlatExpr.{FlatExpr as HeldExpr}
use Rattle.ocl_inline.specs.declared.trees.FlatStmt.{FlatStmt as HeldStmt, Declare, SetVariable, SetElement, Return}
use Rattle.ocl_inline.specs.declared.trees.FlatStmt as statement
use Rattle.ocl_inline.specs.Shapes.{expr_of, stmt_of, with_arg, flat_arguments, flat_trees}
use Rattle.ocl_inline.specs.Trees.{FlatExpr, FlatValue, NoFlat, SomeFlat, FlatArgs, NoFlatArgs, NumberArg, NamedArg, FlatStmt, DeclareFlat, SetVariableFlat, SetElementFlat, ReturnFlat, if_flat, written}
use Rattle.ocl_norm.specs.Arguments.{Values, NoValue, OneValue, TwoValues, ThreeValues, values_in, function_ops, function_room}
use Rattle.ocl_norm.specs.Normal.{builtin_ops, loop_ops, right_ops, stmt_ops, value_ops}
use Rattle.ocl_norm.specs.Rooms.{args_room, builtin_room, pair_room, stmt_room, stmts_room, value_room}
use Rattle.ocl_norm.specs.Sizes.{arg_size, args_size, else_size, expr_size, stmt_size, stmts_size}
use Rattle.ocl_norm.specs.Standings.{Standing, Fixed, Named, Made, above, operand_at, right_standing, standing}
use Rattle.ocl_norm.specs.Views.{arg_room, else_ops, else_room}

-- what follows where a call is done
pub on_done : {A E P Q : Type 0} (r : Result A E) → (P → Q) → OnOk r P → OnOk r Q
on_done (Ok x) f h = f h
on_done (Err x) f h = h

-- an expression and a statement where one is written
abbrev pub value_held : Option (Box HeldExpr Global) → FlatValue
value_held value = written (option_map (λ b. expr_of b.value) value)

abbrev pub else_held : Option (Box HeldStmt Global) → Option FlatStmt
else_held other = option_map (λ b. stmt_of b.value) other

-- ---- room

pub above_adds : (calls : Bool) (s : Standing) (d n : ℕ) → above calls s d + n ≡ d + above calls s n
above_adds true (Fixed k) d n = refl
above_adds false (Fixed k) d n = refl
above_adds true (Named k) d n = omega arith
above_adds false (Named k) d n = refl
above_adds true Made d n = omega arith
above_adds false Made d n = omega arith

-- the right one of two parts has the room that both have
pub right_fits : (d left right bound : ℕ) (s : Standing) (calls : Bool) → d + pair_room left s right calls < bound → above calls s d + right < bound
right_fits d left right bound s calls h = let e : above calls s d + right ≡ d + above calls s right = above_adds calls s d right in omega (arith, e, h)

-- ---- arguments

pub function_is : (which : Builtin) (unsigned : Bool) (args : FlatArgs) (d : ℕ) (c : Ops) → builtin_ops which unsigned args d c ≡ function_ops which unsigned (values_in args) d c
function_is which unsigned NoFlatArgs d c = refl
function_is which unsigned (NamedArg array more) d c = refl
function_is which unsigned (NumberArg x b NoFlatArgs) d c = refl
function_is which unsigned (NumberArg x b (NamedArg array more)) d c = refl
function_is which unsigned (NumberArg x b (NumberArg y b' NoFlatArgs)) d c = refl
function_is which unsigned (NumberArg x b (NumberArg y b' (NamedArg array more))) d c = refl
function_is which unsigned (NumberArg x b (NumberArg y b' (NumberArg z b'' more))) d c = refl

pub function_room_is : (which : Builtin) (args : FlatArgs) → builtin_room which args ≡ function_room which (values_in args)
function_room_is which NoFlatArgs = refl
function_room_is which (NamedArg array more) = refl
function_room_is which (NumberArg x b NoFlatArgs) = refl
function_room_is which (NumberArg x b (NamedArg array more)) = refl
function_room_is which (NumberArg x b (NumberArg y b' NoFlatArgs)) = refl
function_room_is which (NumberArg x b (NumberArg y b' (NamedArg array more))) = refl
function_room_is which (NumberArg x b (NumberArg y b' (NumberArg z b'' more))) = refl

abbrev pub values_size : Values → ℕ
values_size NoValue = 0
values_size (OneValue x) = expr_size x
values_size (TwoValues x y) = expr_size x + expr_size y
values_size (ThreeValues x y z) = expr_size x + expr_size y + expr_size z

some_args : (args : FlatArgs) → 1 ≤ args_size args
some_args NoFlatArgs = omega arith
some_args (NumberArg e b more) = omega arith
some_args (NamedArg array more) = omega arith

pub values_smaller : (args : FlatArgs) → values_size (values_in args) < args_size args
values_smaller NoFlatArgs = omega arith
values_smaller (NamedArg array more) = omega arith
values_smaller (NumberArg x b NoFlatArgs) = omega arith
values_smaller (NumberArg x b (NamedArg array more)) = omega arith
values_smaller (NumberArg x b (NumberArg y b' NoFlatArgs)) = omega arith
values_smaller (NumberArg x b (NumberArg y b' (NamedArg array more))) = omega arith
values_smaller (NumberArg x b (NumberArg y b' (NumberArg z b'' more))) = omega arith

size_with : (arg : FlatArgument) (more : FlatArgs) → args_size (with_arg arg more) ≡ arg_size arg + 1 + args_size more
size_with (argument.Number value binding) more = omega arith
size_with (Array array) more = omega arith

room_with : (arg : FlatArgument) (more : FlatArgs) → args_room (with_arg arg more) ≡ max (arg_room arg) (args_room more)
room_with (argument.Number value binding) more = refl
room_with (Array array) more = omega arith

pub arg_smaller : (args : List FlatArgument) (k : ℕ) (arg : FlatArgument) → k < length args → arg ≡ get_or args k arg → arg_size arg < args_size (flat_arguments args)
arg_smaller [] k arg within is = absurd (omega arith)
arg_smaller (x ∷ xs) zero arg within is =
    let same : arg_size arg ≡ arg_size x = ap arg_size is in
    let sized : args_size (flat_arguments (x ∷ xs)) ≡ arg_size x + 1 + args_size (flat_arguments xs) = size_with x (flat_arguments xs) in
    omega (arith, same, sized)
arg_smaller (x ∷ xs) (suc k) arg within is =
    let h : arg_size arg < args_size (flat_arguments xs) = arg_smaller xs k arg (omega arith) is in
    let sized : args_size (flat_arguments (x ∷ xs)) ≡ arg_size x + 1 + args_size (flat_arguments xs) = size_with x (flat_arguments xs) in
    omega (arith, h, sized)

pub arg_fits : (args : List FlatArgument) (k : ℕ) (arg : FlatArgument) → k < length args → arg ≡ get_or args k arg → arg_room arg ≤ args_room (flat_arguments args)
arg_fits [] k arg within is = absurd (omega arith)
arg_fits (x ∷ xs) zero arg within is =
    let same : arg_room arg ≡ arg_room x = ap arg_room is in
    let roomy : args_room (flat_arguments (x ∷ xs)) ≡ max (arg_room x) (args_room (flat_arguments xs)) = room_with x (flat_arguments xs) in
    omega (arith, same, roomy)
arg_fits (x ∷ xs) (suc k) arg within is =
    let h : arg_room arg ≤ args_room (flat_arguments xs) = arg_fits xs k arg (omega arith) is in
    let roomy : args_room (flat_arguments (x ∷ xs)) ≡ max (arg_room x) (args_room (flat_arguments xs)) = room_with x (flat_arguments xs) in
    omega (arith, h, roomy)

-- ---- statements

pub stmt_smaller : (stmts : List HeldStmt) (k : ℕ) (s : HeldStmt) → k < length stmts → s ≡ get_or stmts k s → stmt_size (stmt_of s) < stmts_size (flat_trees stmts)
stmt_smaller [] k s within is = absurd (omega arith)
stmt_smaller (x ∷ xs) zero s within is = let same : stmt_size (stmt_of s) ≡ stmt_size (stmt_of x) = ap (λ y. stmt_size (stmt_of y)) is in omega (arith, same)
stmt_smaller (x ∷ xs) (suc k) s within is = let h : stmt_size (stmt_of s) < stmts_size (flat_trees xs) = stmt_smaller xs k s (omega arith) is in omega (arith, h)

pub stmt_fits : (stmts : List HeldStmt) (k : ℕ) (s : HeldStmt) → k < length stmts → s ≡ get_or stmts k s → stmt_room (stmt_of s) ≤ stmts_room (flat_trees stmts)
stmt_fits [] k s within is = absurd (omega arith)
stmt_fits (x ∷ xs) zero s within is = let same : stmt_room (stmt_of s) ≡ stmt_room (stmt_of x) = ap (λ y. stmt_room (stmt_of y)) is in omega (arith, same)
stmt_fits (x ∷ xs) (suc k) s within is = let h : stmt_room (stmt_of s) ≤ stmts_room (flat_trees xs) = stmt_fits xs k s (omega arith) is in omega (arith, h)

-- an `if`, with or without `else`
pub if_size : (test : FlatExpr) (one : FlatStmt) (other : Option FlatStmt) → stmt_size (if_flat test one other) ≡ expr_size test + stmt_size one + else_size other + 4
if_size test one None = omega arith
if_size test one (Some other) = refl

pub if_room : (test : FlatExpr) (one : FlatStmt) (other : Option FlatStmt) → stmt_room (if_flat test one other) ≡ max (suc (value_room test)) (max (stmt_room one) (else_room other))
if_room test one None = omega arith
if_room test one (Some other) = refl

pub if_is : (test : FlatExpr) (one : FlatStmt) (other : Option FlatStmt) (d : ℕ) (c : Ops)
    → stmt_ops (if_flat test one other) d c ≡ value_ops test (suc d) (AndOp (If (operand_at (standing test) (suc d)) (stmt_ops one d NoOps) (else_ops other d)) c)
if_is test one None d c = refl
if_is test one (Some other) d c = refl

-- the same, where the variable behind the result has a name of its own
pub if_at : (test : FlatExpr) (one : FlatStmt) (other : Option FlatStmt) (d first : ℕ) (c : Ops) → first ≡ suc d
    → stmt_ops (if_flat test one other) d c ≡ value_ops test first (AndOp (If (operand_at (standing test) first) (stmt_ops one d NoOps) (else_ops other d)) c)
if_at test one other d first c e = if_is test one other d c ∙ ap (λ n. value_ops test n (AndOp (If (operand_at (standing test) n) (stmt_ops one d NoOps) (else_ops other d)) c)) (sym e)

pub loop_is : (test : FlatValue) (body step : Ops) (d : ℕ) (c : Ops) → loop_ops test body step d c ≡ AndOp (Loop (right_ops test d NoOps) (operand_at (right_standing test) d) body step) c
loop_is NoFlat body step d c = refl
loop_is (SomeFlat test) body step d c = refl

pub loop_at : (test : FlatValue) (body step : Ops) (d first : ℕ) (c : Ops) → first ≡ suc d
    → loop_ops test body step (suc d) c ≡ AndOp (Loop (right_ops test first NoOps) (operand_at (right_standing test) first) body step) c
loop_at test body step d first c e = loop_is test body step (suc d) c ∙ ap (λ n. AndOp (Loop (right_ops test n NoOps) (operand_at (right_standing test) n) body step) c) (sym e)

-- ---- nodes

pub declare_is : (stmt : HeldStmt) (variable : ℕ) (elem : Elem) (value : Option (Box HeldExpr Global)) → stmt ≡ Declare variable elem value → stmt_of stmt ≡ DeclareFlat variable elem (value_held value)
declare_is stmt variable elem None is = ap stmt_of is
declare_is stmt variable elem (Some e) is = ap stmt_of is

pub set_variable_is : (stmt : HeldStmt) (variable : ℕ) (elem : Elem) (op : AssignOp) (unsigned : Bool) (value : Option (Box HeldExpr Global))
    → stmt ≡ SetVariable variable elem op unsigned value → stmt_of stmt ≡ SetVariableFlat variable elem op unsigned (value_held value)
set_variable_is stmt variable elem op unsigned None is = ap stmt_of is
set_variable_is stmt variable elem op unsigned (Some e) is = ap stmt_of is

pub set_element_is : (stmt : HeldStmt) (array : ArrayRef) (elem : Elem) (place : Box HeldExpr Global) (op : AssignOp) (unsigned : Bool) (value : Option (Box HeldExpr Global)) (pos : Pos)
    → stmt ≡ SetElement array elem place op unsigned value pos → stmt_of stmt ≡ SetElementFlat array elem (expr_of place.value) op unsigned (value_held value) pos
set_element_is stmt array elem place op unsigned None pos is = ap stmt_of is
set_element_is stmt array elem place op unsigned (Some e) pos is = ap stmt_of is

pub return_is : (stmt : HeldStmt) (gives : Gives) (value : Option (Box HeldExpr Global)) → stmt ≡ Return gives value → stmt_of stmt ≡ ReturnFlat gives (value_held value)
return_is stmt gives None is = ap stmt_of is
return_is stmt gives (Some e) is = ap stmt_of is

pub branch_is : (stmt : HeldStmt) (test : Box HeldExpr Global) (one : Box HeldStmt Global) (other : Option (Box HeldStmt Global)) → stmt ≡ statement.If test one other
    → stmt_of stmt ≡ if_flat (expr_of test.value) (stmt_of one.value) (else_held other)
branch_is stmt test one None is = ap stmt_of is
branch_is stmt test one (Some other) is = ap stmt_of is
