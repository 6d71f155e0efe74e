-- The typing of the functions of a file: their names, then each function, then that none reaches a call of itself, then the limits.
use Rattle.std.specs.Prelude.{◌≡◌, ℕ, zero, suc, ◌+◌, ◌==◌, nat_lt, Bool, true, false, ◌&&◌, ◌||◌, is_some, if◌then◌else◌, List, [], ◌∷◌, ◌++◌, length, map, slice_get, Option, None, Some, Result, Ok, Err}
use Rattle.std.specs.Str.{bytes_eq}
use Rattle.vx_base.specs.declared.types.ParamKind.{ParamKind}
use Rattle.vx_base.specs.declared.types.ParamKind.TheVariants.{Scalar, Pointer}
use Rattle.vx_base.specs.declared.types.Pos.{Pos}
use Rattle.ocl_ast.specs.Trees.{FunctionTree}
use Rattle.ocl_ast.specs.declared.units.Param.{Param}
use Rattle.ocl_program.specs.declared.exprs.ArrayRef.TheVariants.{Parameter, Declared}
use Rattle.ocl_program.specs.declared.functions.CallSite.{CallSite}
use Rattle.ocl_program.specs.declared.functions.LocalArray.{LocalArray}
use Rattle.ocl_program.specs.Nodes.{FunctionNode, StmtNode, stmt_nodes}
use Rattle.ocl_program.specs.Measures.{cut, callees, measured, own_variables, own_sites, own_nodes, own_depth, own_control, own_calls}
use Rattle.ocl_measures.specs.Recursion.{is_recursive}
use Rattle.ocl_measures.specs.Totals.{variables_of, sites_of}
use Rattle.ocl_measures.specs.declared.sizes.Totals.{Totals}
use Rattle.ocl_types.specs.declared.faults.Counted.{Counted}
use Rattle.ocl_types.specs.declared.faults.Counted.TheVariants.{Params, Variables, Nodes}
use Rattle.ocl_types.specs.declared.faults.TypeFault.{TypeFault}
use Rattle.ocl_types.specs.declared.faults.TypeFault.TheVariants.{Twice, Recursive, TooMany, TooNested}
use Rattle.ocl_types.specs.declared.names.Binding.TheVariants.{Scalar as ScalarBinding, Array as ArrayBinding}
use Rattle.ocl_types.specs.Names.{builtin_named, function_from, is_fixed}
use Rattle.ocl_types.specs.Exprs.{◌>>=◌}
use Rattle.ocl_types.specs.Stmts.{Place, Standing, declared, declared_variable, typed_stmts}

-- ---- names of functions

-- the first name that an earlier function has, or a built-in function
abbrev pub names_from : List FunctionTree → List FunctionTree → Result (Unit {0}) TypeFault
names_from earlier [] = Ok tt
names_from earlier (f ∷ more) =
    if is_some (function_from 0 f.name.text earlier) || is_some (builtin_named f.name.text) then Err (Twice f.name.pos)
    else names_from (earlier ++ f ∷ []) more

-- ---- one function

-- a function that has nothing yet; its parameters and the items of its outermost block share one scope
abbrev pub at_start : Standing
at_start = record { scopes = [] ∷ []; variables = 0; sites = 0; arrays = []; calls = [] }

-- parameter k: a scalar is a variable, a pointer an array
abbrev pub with_param : ℕ → Param → ParamKind → Standing → Result Standing TypeFault
with_param k p (Scalar elem) st = declared_variable p.name (λ variable. ScalarBinding variable elem p.constant) st
with_param k p (Pointer space elem readonly) st = declared p.name (ArrayBinding (Parameter (cut k)) space elem (is_fixed space readonly)) st

abbrev pub with_params : ℕ → Standing → List Param → Result Standing TypeFault
with_params k st [] = Ok st
with_params k st (p ∷ ps) = with_param k p p.kind st >>= λ now. with_params (k + 1) now ps

-- a call without the numbers where its variables and barriers begin
abbrev pub bare_call : ℕ → CallSite
bare_call callee = record { callee = callee; variables = 0; sites = 0 }

abbrev pub made_of : FunctionTree → List StmtNode × Standing → FunctionNode
made_of f d = record {
  kernel = f.kernel;
  name = f.name;
  gives = f.gives;
  params = f.params;
  variables = d.1.variables;
  sites = d.1.sites;
  arrays = d.1.arrays;
  calls = map bare_call d.1.calls;
  body = stmt_nodes d.0;
}

abbrev pub typed_function : List FunctionTree → FunctionTree → Result FunctionNode TypeFault
typed_function functions f = with_params 0 at_start f.params >>= λ st.
    typed_stmts (record { functions = functions; gives = f.gives; in_loop = false; outermost = f.kernel }) [] st f.body >>= λ d.
    Ok (made_of f d)

-- the functions in order, behind those before them
abbrev pub typed_functions : List FunctionTree → List FunctionNode → List FunctionTree → Result (List FunctionNode) TypeFault
typed_functions functions before [] = Ok before
typed_functions functions before (f ∷ more) = typed_function functions f >>= λ node. typed_functions functions (before ++ node ∷ []) more

-- ---- limits

abbrev pub unless_fault : Option TypeFault → Result (Unit {0}) TypeFault → Result (Unit {0}) TypeFault
unless_fault None rest = rest
unless_fault (Some found) rest = Err found

-- the first fault of the functions, counted from k
abbrev pub each_from : (ℕ → FunctionNode → Option TypeFault) → ℕ → List FunctionNode → Result (Unit {0}) TypeFault
each_from fault k [] = Ok tt
each_from fault k (f ∷ more) = unless_fault (fault k f) (each_from fault (k + 1) more)

abbrev pub recursion_of : List FunctionNode → ℕ → FunctionNode → Option TypeFault
recursion_of program k f = if is_recursive program k then Some (Recursive f.name.pos) else None

abbrev pub most_params : ℕ
most_params = 16

abbrev pub params_fault : ℕ → FunctionNode → Option TypeFault
params_fault k f = if nat_lt most_params (length f.params) then Some (TooMany f.name.pos Params (cut (length f.params))) else None

abbrev pub most_variables : ℕ
most_variables = 256

abbrev pub most_arrays : ℕ
most_arrays = 16

abbrev pub most_nodes : ℕ
most_nodes = 16384

abbrev pub most_control : ℕ
most_control = 30

abbrev pub most_calls : ℕ
most_calls = 31

-- a kernel's variables, its arrays, its nodes, and how deep its branches, loops and calls are nested
abbrev pub sized_fault : FunctionNode → ℕ → ℕ → ℕ → ℕ → Option TypeFault
sized_fault f variables nodes control calls =
    if nat_lt most_variables variables then Some (TooMany f.name.pos Variables (cut variables))
    else if nat_lt most_arrays (length f.arrays) then Some (TooMany f.name.pos Variables (cut (length f.arrays)))
    else if nat_lt most_nodes nodes then Some (TooMany f.name.pos Nodes (cut nodes))
    else if nat_lt most_control control || nat_lt most_calls calls then Some (TooNested f.name.pos)
    else None

-- the same with its calls expanded
abbrev pub size_fault : List FunctionNode → ℕ → FunctionNode → Option TypeFault
size_fault program k f =
    sized_fault f (measured own_variables program k) (measured own_nodes program k) (measured own_control program k) (measured own_calls program k)

abbrev pub kernel_fault : List FunctionNode → ℕ → FunctionNode → Option TypeFault
kernel_fault program k f = if f.kernel then size_fault program k f else None

-- ---- where calls begin

-- The table of calls: a call's variables and barriers begin behind the function's own and those of the calls before it.
abbrev pub sites_from : (ℕ → ℕ) → (ℕ → ℕ) → ℕ → ℕ → List ℕ → List CallSite
sites_from variables sites v s [] = []
sites_from variables sites v s (k ∷ ks) =
    record { callee = k; variables = cut v; sites = cut s } ∷ sites_from variables sites (v + variables k) (s + sites k) ks

abbrev pub placed : List FunctionNode → FunctionNode → FunctionNode
placed program f = record f { calls = sites_from (measured own_variables program) (measured own_sites program) f.variables f.sites (callees f) }

-- the same by a table of totals
abbrev pub placed_by : List Totals → FunctionNode → FunctionNode
placed_by totals f = record f { calls = sites_from (variables_of totals) (sites_of totals) f.variables f.sites (callees f) }

-- ---- a file

-- the first fault of typed functions: that one is recursive, then the limits
abbrev pub within_limits : List FunctionNode → Result (Unit {0}) TypeFault
within_limits program =
    each_from (recursion_of program) 0 program >>= λ _.
    each_from params_fault 0 program >>= λ _.
    each_from (kernel_fault program) 0 program

-- the functions of a file, typed
abbrev pub bodies_of : List FunctionTree → Result (List FunctionNode) TypeFault
bodies_of functions = names_from [] functions >>= λ _. typed_functions functions [] functions

-- the program of a file, or the first fault
abbrev pub program_of : List FunctionTree → Result (List FunctionNode) TypeFault
program_of functions = bodies_of functions >>= λ program.
    within_limits program >>= λ _.
    Ok (map (placed program) program)

-- some functions are the program of a file
pub record IsProgram (program : List FunctionNode) : Type 0 where
  pub functions : List FunctionTree
  pub typed : program_of functions ≡ Ok program

-- the number of the kernel with a name, counted from n
abbrev pub kernel_from : ℕ → List ℕ → List FunctionNode → Option ℕ
kernel_from n name [] = None
kernel_from n name (f ∷ more) = if f.kernel && bytes_eq name f.name.text then Some n else kernel_from (n + 1) name more
