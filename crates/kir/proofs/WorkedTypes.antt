-- Small kernels whose accesses are typed and whose are not, loops within loops, and the words of built-in functions.
use Rattle.std.proofs.Common.{◌≡◌, refl, ap, sym, Bool, true, false, true≢false, ℕ, List, [], ◌∷◌, inl}
use Rattle.std.specs.Prelude.{codes}
use Rattle.vx_base.specs.declared.types.Elem.{Elem}
use Rattle.vx_base.specs.declared.types.Elem.TheVariants.{Uchar, Short, Int, Uint}
use Rattle.vx_base.specs.declared.types.ParamKind.{ParamKind}
use Rattle.vx_base.specs.declared.types.ParamKind.TheVariants.{Scalar, Pointer}
use Rattle.vx_base.specs.declared.types.Pos.{Pos}
use Rattle.vx_base.specs.declared.types.Space.TheVariants.{Global as GlobalSpace, Constant}
use Rattle.ocl_ast.specs.declared.units.Param.{Param}
use Rattle.ocl_program.specs.declared.exprs.ArrayRef.TheVariants.{Parameter, Declared}
use Rattle.ocl_program.specs.declared.exprs.Builtin.TheVariants.{GlobalId}
use Rattle.ocl_program.specs.declared.functions.LocalArray.{LocalArray}
use Rattle.kir.specs.Loops.{loop_nesting}
use Rattle.kir.specs.Measures.{IsChecked, nesting}
use Rattle.kir.specs.Trees.{Operand, VariableOf, NumberOf, Op, Id, Load, Store, Check, If, Loop, Call, Ops, NoOps, AndOp}
use Rattle.kir.specs.Typing.{AreTyped}
use Rattle.kir.specs.Weights.{weight}

abbrev here : Pos
here = record { line = 1; col = 1 }

-- a parameter with a name that does not matter
abbrev param_of : ParamKind → Param
param_of kind = record { name = record { text = codes "p"; pos = here }; kind = kind; constant = false }

-- an array of ints, an array of constant bytes, an array of ints that is only read, and an int
abbrev params : List Param
params = param_of (Pointer GlobalSpace Int false) ∷ param_of (Pointer Constant Uchar true) ∷ param_of (Pointer GlobalSpace Int true) ∷ param_of (Scalar Int) ∷ []

-- an array of three shorts
abbrev arrays : List LocalArray
arrays = record { elem = Short; count = 3 } ∷ []

abbrev ops_of : List Op → Ops
ops_of [] = NoOps
ops_of (op ∷ ops) = AndOp op (ops_of ops)

abbrev x : ℕ → Operand
x k = VariableOf k

-- ---- types

typed : AreTyped params arrays (ops_of (Load 1 (Parameter 1) Uchar (x 0) ∷ Store (Parameter 0) Int (x 0) (x 1) ∷ Store (Declared 0) Short (x 0) (x 1) ∷ []))
typed = (refl, ((refl, refl), ((refl, tt), tt)))

abbrev is_uint : Elem → Bool
is_uint Uint = true
is_uint other = false

-- four bytes of an array of bytes, behind a check of the byte alone
abbrev four_bytes : Ops
four_bytes = ops_of (Check (Parameter 1) (x 0) here ∷ Load 1 (Parameter 1) Uint (x 0) ∷ [])

four_bytes_checked : IsChecked four_bytes
four_bytes_checked = (tt, (inl refl, tt))

four_bytes_untyped : AreTyped params arrays four_bytes → ⊥
four_bytes_untyped h = absurd (true≢false (sym (ap is_uint h.1.0)))

-- stores to constants, and to what is only read
constant_store : AreTyped params arrays (ops_of (Store (Parameter 1) Uchar (x 0) (x 1) ∷ [])) → ⊥
constant_store h = absurd (true≢false (sym h.0.1))

fixed_store : AreTyped params arrays (ops_of (Store (Parameter 2) Int (x 0) (x 1) ∷ [])) → ⊥
fixed_store h = absurd (true≢false (sym h.0.1))

-- a parameter that is no array, and one that is not there, have no elements
no_array : AreTyped params arrays (ops_of (Load 1 (Parameter 3) Uint (x 0) ∷ Store (Parameter 9) Short (x 0) (x 1) ∷ []))
no_array = (tt, ((tt, tt), tt))

-- ---- loops

-- two loops, a branch and a call round a loop's body
abbrev turning : Ops
turning = ops_of (
    Loop NoOps (x 0) (ops_of (If (x 1) (ops_of (Call (ops_of (Loop NoOps (x 2) NoOps NoOps ∷ [])) ∷ [])) NoOps ∷ [])) NoOps
    ∷ Loop NoOps (x 0) NoOps NoOps ∷ [])

two_loops : loop_nesting turning ≡ 2
two_loops = refl

three_with_the_branch : nesting turning ≡ 3
three_with_the_branch = refl

-- ---- words of a built-in function

first_dimension : weight (ops_of (Id 1 GlobalId (NumberOf 0) ∷ [])) ≡ 3
first_dimension = refl

third_dimension : weight (ops_of (Id 1 GlobalId (NumberOf 2) ∷ [])) ≡ 12
third_dimension = refl

any_dimension : weight (ops_of (Id 1 GlobalId (x 0) ∷ [])) ≡ 28
any_dimension = refl
