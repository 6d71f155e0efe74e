-- What a name stands for.
use Rattle.std.specs.Prelude.{ℕ, zero, suc, ◌+◌, ◌||◌, Bool, true, false, if◌then◌else◌, List, [], ◌∷◌, Option, None, Some, option_map, codes}
use Rattle.std.specs.Str.{bytes_eq}
use Rattle.vx_base.specs.declared.types.Space.{Space}
use Rattle.vx_base.specs.declared.types.Space.TheVariants.{Global, Constant, Local}
use Rattle.ocl_ast.specs.Trees.{FunctionTree}
use Rattle.ocl_program.specs.declared.exprs.Builtin.{Builtin}
use Rattle.ocl_program.specs.declared.exprs.Builtin.TheVariants.{WorkDim, GlobalId, LocalId, GroupId, GlobalSize, LocalSize, NumGroups, GlobalOffset, Min, Max, Clamp, Abs, MulHi}
use Rattle.ocl_types.specs.declared.names.Binding.{Binding}
use Rattle.ocl_types.specs.declared.names.Meaning.{Meaning}
use Rattle.ocl_types.specs.declared.names.Meaning.TheVariants.{Bound, Function, Builtin as BuiltinMeaning, Unknown}

-- the value that stands with a name, the first of several
abbrev pub entry_named : {A : Type 0} → List ℕ → List (List ℕ × A) → Option A
entry_named name [] = None
entry_named name (entry ∷ more) = if bytes_eq name entry.0 then Some entry.1 else entry_named name more

-- the built-in functions (OpenCL C 1.2, sections 6.12.1 and 6.12.3)
abbrev pub arithmetic_builtins : List (List ℕ × Builtin)
arithmetic_builtins = (codes "min", Min) ∷ (codes "max", Max) ∷ (codes "clamp", Clamp) ∷ (codes "abs", Abs) ∷ (codes "mul_hi", MulHi) ∷ []

abbrev pub builtins : List (List ℕ × Builtin)
builtins =
    (codes "get_work_dim", WorkDim) ∷ (codes "get_global_id", GlobalId) ∷ (codes "get_local_id", LocalId) ∷
    (codes "get_group_id", GroupId) ∷ (codes "get_global_size", GlobalSize) ∷ (codes "get_local_size", LocalSize) ∷
    (codes "get_num_groups", NumGroups) ∷ (codes "get_global_offset", GlobalOffset) ∷ arithmetic_builtins

unfoldable pub builtin_named : List ℕ → Option Builtin
builtin_named name = entry_named name builtins

-- the names of one scope
abbrev pub Scope : Type 0
Scope = List (List ℕ × Binding)

abbrev pub or_outer : Option Binding → Option Binding → Option Binding
or_outer None found = found
or_outer (Some binding) found = Some binding

-- what the scopes have under a name, the innermost first: an inner name hides an outer one
abbrev pub binding_named : List ℕ → List Scope → Option Binding
binding_named name [] = None
binding_named name (scope ∷ outer) = or_outer (entry_named name scope) (binding_named name outer)

-- the number of the function with a name, counted from n
abbrev pub function_from : ℕ → List ℕ → List FunctionTree → Option ℕ
function_from n name [] = None
function_from n name (f ∷ more) = if bytes_eq name f.name.text then Some n else function_from (n + 1) name more

abbrev pub builtin_meaning : Option Builtin → Meaning
builtin_meaning None = Unknown
builtin_meaning (Some b) = BuiltinMeaning b

abbrev pub function_meaning : List ℕ → Option ℕ → Meaning
function_meaning name None = builtin_meaning (builtin_named name)
function_meaning name (Some k) = Function k

abbrev pub bound_meaning : List FunctionTree → List ℕ → Option Binding → Meaning
bound_meaning functions name None = function_meaning name (function_from 0 name functions)
bound_meaning functions name (Some binding) = Bound binding

-- A name of a scope hides a function, and a function hides a built-in function.
abbrev pub meaning_of : List FunctionTree → List Scope → List ℕ → Meaning
meaning_of functions scopes name = bound_meaning functions name (binding_named name scopes)

-- whether no store is accepted: a parameter is marked, or what it points to is constant
abbrev pub is_fixed : Space → Bool → Bool
is_fixed Constant readonly = true
is_fixed Global readonly = readonly
is_fixed Local readonly = readonly
