-- What a table of names says.
use Rattle.std.specs.Prelude.{◌≡◌, ℕ, List, map}
use Rattle.std.specs.Borrow.{Bor}
use Rattle.std.specs.Map.{lookup}
use Rattle.std.specs.Str.{bytes_eq}
use Rattle.ocl_ast.specs.Shapes.{function_tree}
use Rattle.ocl_ast.specs.Trees.{FunctionTree}
use Rattle.ocl_ast.specs.declared.units.Function.{Function}
use Rattle.ocl_types.specs.declared.names.Binding.{Binding}
use Rattle.ocl_types.specs.Names.{Scope, function_from}

-- the names of a table whose keys are pieces of the source
abbrev pub scope_of : List (Bor (List ℕ) × Binding) → Scope
scope_of entries = map (λ e. (e.0.now, e.1)) entries

-- that a table has the number of each function's name
abbrev pub NumbersOf : List (Bor (List ℕ) × ℕ) → List FunctionTree → Type 0
NumbersOf entries functions = (name : List ℕ) → lookup (λ (k : Bor (List ℕ)). bytes_eq name k.now) entries ≡ function_from 0 name functions

-- the plain trees of functions
abbrev pub trees_of : List Function → List FunctionTree
trees_of functions = map function_tree functions
