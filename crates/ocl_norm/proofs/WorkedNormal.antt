-- Small expressions and statements with their operations, and a kernel with what both forms of it ask for.
use Rattle.std.proofs.Common.{◌≡◌, refl, arith, ℕ, true, false, List, [], ◌∷◌}
use Rattle.std.specs.Prelude.{codes}
use Rattle.vx_base.specs.declared.types.Alu.TheVariants as alu
use Rattle.vx_base.specs.declared.types.Elem.TheVariants.{Char, Int}
use Rattle.vx_base.specs.declared.types.ParamKind.TheVariants.{Scalar, Pointer}
use Rattle.vx_base.specs.declared.types.Pos.{Pos}
use Rattle.vx_base.specs.declared.types.Size.TheVariants.{Four}
use Rattle.vx_base.specs.declared.types.Space.TheVariants.{Global as GlobalSpace}
use Rattle.item_acts.specs.declared.acts.Action.TheVariants.{Load as LoadAction, Store as StoreAction, Fault}
use Rattle.item_acts.specs.declared.acts.Asked.{Asked}
use Rattle.item_acts.specs.declared.acts.Asked.TheVariants.{Act}
use Rattle.item_acts.specs.declared.acts.Bound.TheVariants.{Value, Array}
use Rattle.item_acts.specs.declared.acts.Place.TheVariants.{Global}
use Rattle.item_acts.specs.declared.acts.Range.{Range}
use Rattle.ocl_ast.specs.declared.exprs.BinOp.TheVariants as op
use Rattle.ocl_ast.specs.declared.exprs.UnOp.TheVariants.{Minus, Not}
use Rattle.ocl_ast.specs.declared.stmts.AssignOp.TheVariants as assign
use Rattle.ocl_ast.specs.declared.units.Gives.TheVariants.{Value as GivesValue}
use Rattle.ocl_program.specs.declared.exprs.ArrayRef.TheVariants.{Parameter}
use Rattle.ocl_program.specs.declared.exprs.Builtin.TheVariants.{GlobalId, Min, Abs}
use Rattle.kir.specs.Machine.{kir_asks, kir_begun}
use Rattle.kir.specs.Trees.{Operand, VariableOf, NumberOf, Op, Set, Calculate, Fit, Id, Load, Store, Check, Barrier, If, Loop, Break, Return, Call, Ops, NoOps, AndOp}
use Rattle.ocl_inline.specs.declared.trees.Binding.TheVariants.{Variable as ToVariable, Dropped}
use Rattle.ocl_inline.specs.FlatItems.{flat_asks, flat_turns}
use Rattle.ocl_inline.specs.Trees.{NoFlat, SomeFlat, FlatExpr, NumberFlat, VariableFlat, UnaryFlat, BinaryFlat, BothFlat, EitherFlat, ChooseFlat, CastFlat, LoadFlat, CallFlat, BuiltinFlat, ParenFlat, NoFlatArgs, NumberArg, FlatStmt, DeclareFlat, SetVariableFlat, SetElementFlat, BarrierFlat, IfFlat, IfElseFlat, WhileFlat, DoFlat, ForFlat, BreakFlat, ContinueFlat, ReturnFlat, BlockFlat, EmptyFlat, FlatStmts, NoFlats, AndFlat, FlatKernel}
use Rattle.ocl_inline.specs.Proper.{IsProperKernel}
use Rattle.ocl_norm.specs.Normal.{value_ops, stmt_ops, normal_kernel}

abbrev pub here : Pos
here = record { line = 1; col = 1 }

abbrev ops_of : List Op → Ops
ops_of [] = NoOps
ops_of (op ∷ ops) = AndOp op (ops_of ops)

abbrev n : ℕ → Operand
n k = NumberOf k

abbrev v : ℕ → Operand
v k = VariableOf k

-- names and numbers of the source
abbrev pub x : ℕ → FlatExpr
x k = VariableFlat k

abbrev pub number : ℕ → FlatExpr
number k = NumberFlat k false

-- element i of the array
abbrev pub a : FlatExpr → FlatExpr
a i = LoadFlat (Parameter 0) Int i here

abbrev plus : FlatExpr → FlatExpr → FlatExpr
plus left right = BinaryFlat op.Add false left right

abbrev pub items : List FlatStmt → FlatStmts
items [] = NoFlats
items (s ∷ ss) = AndFlat s (items ss)

-- an expression in a kernel of eight variables, and a statement in a call whose result is the variable 8
abbrev value : FlatExpr → Ops
value e = value_ops e 8 NoOps

abbrev statement : FlatStmt → Ops
statement s = stmt_ops s 8 NoOps

-- ---- operators: numbers and names are operands, and a right side begins behind a left one that is no name

sum : value (plus (x 0) (ParenFlat (number 3))) ≡ ops_of (Calculate 8 alu.Add (v 0) (n 3) ∷ [])
sum = refl

sums : value (plus (plus (x 0) (x 1)) (plus (x 2) (x 3))) ≡ ops_of (Calculate 8 alu.Add (v 0) (v 1) ∷ Calculate 9 alu.Add (v 2) (v 3) ∷ Calculate 8 alu.Add (v 8) (v 9) ∷ [])
sums = refl

right_sum : value (plus (x 0) (plus (x 1) (x 2))) ≡ ops_of (Calculate 8 alu.Add (v 1) (v 2) ∷ Calculate 8 alu.Add (v 0) (v 8) ∷ [])
right_sum = refl

negative : value (UnaryFlat Minus (x 0)) ≡ ops_of (Calculate 8 alu.Sub (n 0) (v 0) ∷ [])
negative = refl

opposite : value (UnaryFlat Not (x 0)) ≡ ops_of (Calculate 8 alu.Sltu (v 0) (n 1) ∷ [])
opposite = refl

at_most : value (BinaryFlat op.Le true (x 0) (x 1)) ≡ ops_of (Calculate 8 alu.Sltu (v 1) (v 0) ∷ Calculate 8 alu.Xor (v 8) (n 1) ∷ [])
at_most = refl

equal : value (BinaryFlat op.Eq false (x 0) (x 1)) ≡ ops_of (Calculate 8 alu.Xor (v 0) (v 1) ∷ Calculate 8 alu.Sltu (v 8) (n 1) ∷ [])
equal = refl

small : value (CastFlat Char (x 0)) ≡ ops_of (Fit 8 Char (v 0) ∷ [])
small = refl

-- ---- loads stand from left to right, each behind its check

loads : value (plus (a (x 0)) (a (x 1)))
    ≡ ops_of (Check (Parameter 0) (v 0) here ∷ Load 8 (Parameter 0) Int (v 0) ∷ Check (Parameter 0) (v 1) here ∷ Load 9 (Parameter 0) Int (v 1) ∷ Calculate 8 alu.Add (v 8) (v 9) ∷ [])
loads = refl

load_of_load : value (a (a (x 0)))
    ≡ ops_of (Check (Parameter 0) (v 0) here ∷ Load 8 (Parameter 0) Int (v 0) ∷ Check (Parameter 0) (v 8) here ∷ Load 8 (Parameter 0) Int (v 8) ∷ [])
load_of_load = refl

-- ---- choices

both : value (BothFlat (x 0) (x 1)) ≡ ops_of (Calculate 8 alu.Sltu (n 0) (v 0) ∷ If (v 8) (ops_of (Calculate 8 alu.Sltu (n 0) (v 1) ∷ [])) NoOps ∷ [])
both = refl

either : value (EitherFlat (x 0) (x 1)) ≡ ops_of (Calculate 8 alu.Sltu (n 0) (v 0) ∷ If (v 8) NoOps (ops_of (Calculate 8 alu.Sltu (n 0) (v 1) ∷ [])) ∷ [])
either = refl

chosen : value (ChooseFlat false (x 0) (a (x 1)) (number 3))
    ≡ ops_of (If (v 0) (ops_of (Check (Parameter 0) (v 1) here ∷ Load 8 (Parameter 0) Int (v 1) ∷ [])) (ops_of (Set 8 (n 3) ∷ [])) ∷ [])
chosen = refl

-- ---- built-in functions

id : value (BuiltinFlat GlobalId true (NumberArg (number 0) Dropped NoFlatArgs)) ≡ ops_of (Id 8 GlobalId (n 0) ∷ [])
id = refl

magnitude : value (BuiltinFlat Abs false (NumberArg (x 0) Dropped NoFlatArgs))
    ≡ ops_of (Calculate 9 alu.Sra (v 0) (n 31) ∷ Calculate 8 alu.Xor (v 0) (v 9) ∷ Calculate 8 alu.Sub (v 8) (v 9) ∷ [])
magnitude = refl

least : value (BuiltinFlat Min false (NumberArg (x 0) Dropped (NumberArg (x 1) Dropped NoFlatArgs)))
    ≡ ops_of (Calculate 10 alu.Slt (v 1) (v 0) ∷ Calculate 10 alu.Sub (n 0) (v 10) ∷ Calculate 9 alu.Xor (v 0) (v 1) ∷ Calculate 9 alu.And (v 9) (v 10)
    ∷ Calculate 8 alu.Xor (v 0) (v 9) ∷ [])
least = refl

-- ---- calls: `f(int p) { return p + 1; }` with p in the variable 5

abbrev f : FlatExpr → FlatExpr
f e = CallFlat (NumberArg e (ToVariable 5 Int) NoFlatArgs) (items (ReturnFlat (GivesValue Int) (SomeFlat (plus (x 5) (number 1))) ∷ []))

abbrev f_body : ℕ → ℕ → Ops
f_body result free = ops_of (Calculate free alu.Add (v 5) (n 1) ∷ Fit result Int (v free) ∷ Return ∷ [])

call : value (f (x 0)) ≡ ops_of (Fit 5 Int (v 0) ∷ Set 8 (n 0) ∷ Call (f_body 8 9) ∷ [])
call = refl

-- the body may change the left side, so this is copied
copied_left : value (plus (x 0) (f (x 1))) ≡ ops_of (Set 8 (v 0) ∷ Fit 5 Int (v 1) ∷ Set 9 (n 0) ∷ Call (f_body 9 10) ∷ Calculate 8 alu.Add (v 8) (v 9) ∷ [])
copied_left = refl

-- ---- statements

declared : statement (DeclareFlat 2 Int (SomeFlat (x 0))) ≡ ops_of (Set 2 (n 0) ∷ Fit 2 Int (v 0) ∷ [])
declared = refl

raised : statement (SetVariableFlat 2 Int assign.Up false NoFlat) ≡ ops_of (Calculate 9 alu.Add (v 2) (n 1) ∷ Fit 2 Int (v 9) ∷ [])
raised = refl

stored : statement (SetElementFlat (Parameter 0) Int (x 0) assign.Set false (SomeFlat (x 1)) here)
    ≡ ops_of (Check (Parameter 0) (v 0) here ∷ Store (Parameter 0) Int (v 0) (v 1) ∷ [])
stored = refl

-- with an operator the element is loaded before the right side is evaluated
added : statement (SetElementFlat (Parameter 0) Int (x 0) (assign.With op.Add) false (SomeFlat (a (x 1))) here)
    ≡ ops_of (Check (Parameter 0) (v 0) here ∷ Load 9 (Parameter 0) Int (v 0) ∷ Check (Parameter 0) (v 1) here ∷ Load 10 (Parameter 0) Int (v 1)
    ∷ Calculate 9 alu.Add (v 9) (v 10) ∷ Store (Parameter 0) Int (v 0) (v 9) ∷ [])
added = refl

-- and checked again behind a branch
added_choice : statement (SetElementFlat (Parameter 0) Int (x 0) (assign.With op.Add) false (SomeFlat (BothFlat (x 1) (x 2))) here)
    ≡ ops_of (Check (Parameter 0) (v 0) here ∷ Load 9 (Parameter 0) Int (v 0) ∷ Calculate 10 alu.Sltu (n 0) (v 1)
    ∷ If (v 10) (ops_of (Calculate 10 alu.Sltu (n 0) (v 2) ∷ [])) NoOps ∷ Calculate 9 alu.Add (v 9) (v 10)
    ∷ Check (Parameter 0) (v 0) here ∷ Store (Parameter 0) Int (v 0) (v 9) ∷ [])
added_choice = refl

branch : statement (IfElseFlat (x 0) BreakFlat EmptyFlat) ≡ ops_of (If (v 0) (ops_of (Break ∷ [])) NoOps ∷ [])
branch = refl

endless : statement (ForFlat NoFlats NoFlat NoFlats EmptyFlat) ≡ ops_of (Loop NoOps (n 1) NoOps NoOps ∷ [])
endless = refl

while : statement (WhileFlat (a (x 0)) (BarrierFlat 4)) ≡ ops_of (Loop (ops_of (Check (Parameter 0) (v 0) here ∷ Load 9 (Parameter 0) Int (v 0) ∷ [])) (v 9) (ops_of (Barrier 4 ∷ [])) NoOps ∷ [])
while = refl

-- the test of the turn before
do_while : statement (DoFlat (BarrierFlat 4) (x 0)) ≡ ops_of (Set 9 (n 1) ∷ Loop NoOps (v 9) (ops_of (Barrier 4 ∷ [])) (ops_of (Set 9 (v 0) ∷ [])) ∷ [])
do_while = refl

-- ---- a kernel: `for (int i = 0; i < n; i++) { if (i == 1) continue; p[i] += f(i) && p[i]; }`, with n in the variable 0 and i in the variable 1

abbrev pub kernel : FlatKernel
kernel = record {
  params = record { name = record { text = codes "p"; pos = here }; kind = Pointer GlobalSpace Int false; constant = false }
      ∷ record { name = record { text = codes "n"; pos = here }; kind = Scalar Int; constant = false } ∷ [];
  arrays = [];
  variables = 6;
  sites = 0;
  body = items (ForFlat (items (DeclareFlat 1 Int (SomeFlat (number 0)) ∷ [])) (SomeFlat (BinaryFlat op.Lt false (x 1) (x 0)))
      (items (SetVariableFlat 1 Int assign.Up false NoFlat ∷ []))
      (BlockFlat (items (IfFlat (BinaryFlat op.Eq false (x 1) (number 1)) ContinueFlat
      ∷ SetElementFlat (Parameter 0) Int (x 1) (assign.With op.Add) false (SomeFlat (BothFlat (f (x 1)) (a (x 1)))) here ∷ []))) ∷ []);
}

abbrev eight : Range
eight = record { dims = 1; global = 8 ∷ 1 ∷ 1 ∷ []; local = 2 ∷ 1 ∷ 1 ∷ [] }

-- what item 5 asks for in both, over an array of two elements
abbrev flat_asked : List ℕ → Asked
flat_asked answers = flat_asks kernel eight (Array 7 2 ∷ Value 3 ∷ []) 5 answers 150

abbrev normal_asked : List ℕ → Asked
normal_asked answers = kir_asks (normal_kernel kernel) eight (Array 7 2 ∷ Value 3 ∷ []) 5 answers 150

first_load : flat_asked [] ≡ Act (LoadAction (Global 7 0) Four)
first_load = refl

first_load_too : normal_asked [] ≡ Act (LoadAction (Global 7 0) Four)
first_load_too = refl

-- the sum of 40 and 1
first_store : flat_asked (40 ∷ 9 ∷ []) ≡ Act (StoreAction (Global 7 0) Four 41)
first_store = refl

first_store_too : normal_asked (40 ∷ 9 ∷ []) ≡ Act (StoreAction (Global 7 0) Four 41)
first_store_too = refl

-- turn 1 goes on, and turn 2 meets the end of the array
fault : flat_asked (40 ∷ 9 ∷ 0 ∷ []) ≡ Act (Fault here)
fault = refl

fault_too : normal_asked (40 ∷ 9 ∷ 0 ∷ []) ≡ Act (Fault here)
fault_too = refl

turns : flat_turns kernel eight (Array 7 2 ∷ Value 3 ∷ []) 5 (40 ∷ 9 ∷ 0 ∷ []) 150 ≡ 3
turns = refl

turns_too : kir_begun (normal_kernel kernel) eight (Array 7 2 ∷ Value 3 ∷ []) 5 (40 ∷ 9 ∷ 0 ∷ []) 150 ≡ 3
turns_too = refl

-- it is a proper one
pub kernel_proper : IsProperKernel kernel
kernel_proper = record {
  words = (
    (
      (omega arith, tt),
      (tt, tt),
      (tt, tt),
      (((tt, omega arith), tt), ((tt, (((tt, tt), ((tt, omega arith), tt)), tt)), tt)),
    ),
    tt,
  );
  typed = record {
    scalars = omega arith;
    body = (
      (
        ((omega arith, tt), tt),
        (omega arith, omega arith),
        ((omega arith, tt), tt),
        (
          ((omega arith, tt), tt),
          ((refl, refl, omega arith, (((omega arith, omega arith, tt), ((omega arith, tt), tt)), (refl, omega arith))), tt),
        ),
      ),
      tt,
    );
  };
}
