-- Small structured kernels with their marks, found by hand: each row is what the sweeps leave.
use Rattle.std.proofs.Common.{◌≡◌, refl, ℕ, zero, suc, Bool, true, false, List, [], ◌∷◌, replicate}
use Rattle.std.specs.Prelude.{codes}
use Rattle.std.proofs.lemmas.Bool.{false≢true}
use Rattle.vx_base.specs.declared.types.Alu.TheVariants.{Add, Sltu}
use Rattle.vx_base.specs.declared.types.Elem.TheVariants.{Int, Uint}
use Rattle.vx_base.specs.declared.types.ParamKind.{ParamKind}
use Rattle.vx_base.specs.declared.types.ParamKind.TheVariants.{Scalar, Pointer}
use Rattle.vx_base.specs.declared.types.Space.TheVariants.{Global, Constant}
use Rattle.ocl_ast.specs.declared.units.Param.{Param}
use Rattle.ocl_program.specs.declared.exprs.ArrayRef.TheVariants.{Parameter, Declared}
use Rattle.ocl_program.specs.declared.exprs.Builtin.TheVariants.{GlobalId, GlobalSize, GroupId, LocalId, WorkDim}
use Rattle.kir.specs.Trees.{Operand, VariableOf, NumberOf, Op, Set, Calculate, Id, Load, Store, If, Loop, Ops, NoOps, AndOp, KirCode}
use Rattle.uniformity.specs.Marks.{AreGreatest, IsClosed, marked}
use Rattle.uniformity.specs.Sweeps.{swept}
use Rattle.uniformity.proofs.Sweeping.{AreAbove, all_above, sweep_above, last_sweep}

abbrev param_of : ParamKind → Param
param_of kind = record { name = record { text = codes "p"; pos = record { line = 1; col = 1 } }; kind = kind; constant = false }

abbrev ops_of : List Op → Ops
ops_of [] = NoOps
ops_of (op ∷ ops) = AndOp op (ops_of ops)

-- a kernel over an array of ints, one of constants, and a uint, which is variable 0
abbrev kernel_of : List Op → KirCode
kernel_of ops = record {
  params = param_of (Pointer Global Int false) ∷ param_of (Pointer Constant Int true) ∷ param_of (Scalar Uint) ∷ [];
  arrays = [];
  variables = 4;
  ops = ops_of ops;
}

abbrev x : ℕ → Operand
x k = VariableOf k

abbrev number : ℕ → Operand
number n = NumberOf n

-- the marks after so many sweeps
abbrev after : ℕ → KirCode → List Bool
after zero code = replicate code.variables true
after (suc n) code = swept code.params true code.ops (after n code)

-- counts variable 1 up to a bound: the head puts the test into variable 2
abbrev counts : Operand → List Op → Op
counts bound body = Loop (ops_of (Calculate 2 Sltu (x 1) bound ∷ [])) (x 2) (ops_of body) (ops_of (Calculate 1 Add (x 1) (number 1) ∷ []))

-- ---- single operations

numbers : after 3 (kernel_of (Set 1 (number 7) ∷ Calculate 2 Add (x 0) (x 1) ∷ [])) ≡ true ∷ true ∷ true ∷ true ∷ []
numbers = refl

own_number : after 3 (kernel_of (Id 1 GlobalId (number 0) ∷ Id 2 LocalId (number 0) ∷ Set 3 (x 1) ∷ [])) ≡ true ∷ false ∷ false ∷ false ∷ []
own_number = refl

of_the_group : after 3 (kernel_of (Id 1 GroupId (number 0) ∷ Id 2 GlobalSize (x 1) ∷ Id 3 WorkDim (number 0) ∷ [])) ≡ true ∷ true ∷ true ∷ true ∷ []
of_the_group = refl

-- a group's number in a dimension that differs differs; the number of dimensions is of none
other_dimension : after 3 (kernel_of (Id 1 LocalId (number 0) ∷ Id 2 GroupId (x 1) ∷ Id 3 WorkDim (x 1) ∷ [])) ≡ true ∷ false ∷ false ∷ true ∷ []
other_dimension = refl

loads : after 3 (kernel_of (Load 1 (Parameter 0) Int (x 0) ∷ Load 2 (Parameter 1) Int (x 0) ∷ Load 3 (Parameter 1) Int (x 1) ∷ [])) ≡ true ∷ false ∷ true ∷ false ∷ []
loads = refl

-- ---- branches and loops

-- a variable that is written under a branch on an item's own number is not uniform
divergent_branch : after 3 (kernel_of (Id 1 LocalId (number 0) ∷ If (x 1) (ops_of (Set 2 (number 1) ∷ [])) NoOps ∷ Set 3 (number 2) ∷ [])) ≡ true ∷ false ∷ false ∷ true ∷ []
divergent_branch = refl

uniform_branch : after 3 (kernel_of (If (x 0) (ops_of (Set 2 (number 1) ∷ [])) (ops_of (Set 3 (x 2) ∷ [])) ∷ [])) ≡ true ∷ true ∷ true ∷ true ∷ []
uniform_branch = refl

-- a loop over a parameter: all of it is uniform
over_parameter : after 3 (kernel_of (Set 1 (number 0) ∷ counts (x 0) (Set 3 (x 1) ∷ []) ∷ [])) ≡ true ∷ true ∷ true ∷ true ∷ []
over_parameter = refl

-- a loop over an item's own number: what it writes is not uniform, in it and behind it
abbrev divergent_loop : KirCode
divergent_loop = kernel_of (Id 3 GlobalId (number 0) ∷ Set 1 (number 0) ∷ counts (x 3) [] ∷ [])

over_own_number : after 3 divergent_loop ≡ true ∷ false ∷ false ∷ false ∷ []
over_own_number = refl

-- whatever the marks: a closed set has no variable that such a loop writes
not_behind_it : (others : ℕ → Bool) → IsClosed divergent_loop others → others 1 ≡ true → ⊥
not_behind_it others closed e =
    let above : AreAbove divergent_loop (after 3 divergent_loop) = sweep_above divergent_loop (after 2 divergent_loop)
    (sweep_above divergent_loop (after 1 divergent_loop) (sweep_above divergent_loop (after 0 divergent_loop) (all_above divergent_loop))) in
    false≢true (above.above others closed 1 e)
