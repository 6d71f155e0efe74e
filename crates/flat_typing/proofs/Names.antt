-- What a name stands for, where the arrays of the scopes are of the kinds that they say.
use Rattle.std.proofs.Common.{ℕ, Bool, true, false, if◌then◌else◌, List, [], ◌∷◌, ◌++◌, Option, None, Some}
use Rattle.std.specs.Str.{bytes_eq}
use Rattle.ocl_ast.specs.Trees.{FunctionTree}
use Rattle.ocl_types.specs.declared.names.Binding.{Binding}
use Rattle.ocl_types.specs.declared.names.Meaning.{Meaning}
use Rattle.ocl_types.specs.declared.names.Meaning.TheVariants.{Bound, Function, Builtin as BuiltinMeaning, Unknown as UnknownMeaning}
use Rattle.ocl_types.specs.Names.{Scope, entry_named, or_outer, binding_named, builtin_meaning, builtin_named, function_from, function_meaning, bound_meaning, meaning_of}
use Rattle.ocl_types.specs.Stmts.{with_entry}
use Rattle.flat_typing.specs.Typed.{Frame}
use Rattle.flat_typing.proofs.Gains.{IsBinding, IsScope, AreScopes}

abbrev pub IsFound : Frame → Option Binding → Type 0
IsFound frame None = Unit {0}
IsFound frame (Some binding) = IsBinding frame binding

abbrev pub IsMeaning : Frame → Meaning → Type 0
IsMeaning frame (Bound binding) = IsBinding frame binding
IsMeaning frame (Function k) = Unit {0}
IsMeaning frame (BuiltinMeaning b) = Unit {0}
IsMeaning frame UnknownMeaning = Unit {0}

chosen_is : (frame : Frame) (test : Bool) (binding : Binding) (found : Option Binding) → IsBinding frame binding → IsFound frame found → IsFound frame (if test then Some binding else found)
chosen_is frame true binding found h k = h
chosen_is frame false binding found h k = k

entry_is : (frame : Frame) (name : List ℕ) (scope : Scope) → IsScope frame scope → IsFound frame (entry_named name scope)
entry_is frame name [] h = tt
entry_is frame name (entry ∷ more) h = chosen_is frame (bytes_eq name entry.0) entry.1 (entry_named name more) h.0 (entry_is frame name more h.1)

outer_is : (frame : Frame) (found other : Option Binding) → IsFound frame found → IsFound frame other → IsFound frame (or_outer found other)
outer_is frame None other h k = k
outer_is frame (Some binding) other h k = h

binding_is : (frame : Frame) (name : List ℕ) (scopes : List Scope) → AreScopes frame scopes → IsFound frame (binding_named name scopes)
binding_is frame name [] h = tt
binding_is frame name (scope ∷ outer) h = outer_is frame (entry_named name scope) (binding_named name outer) (entry_is frame name scope h.0) (binding_is frame name outer h.1)

builtin_is : (frame : Frame) (found : _) → IsMeaning frame (builtin_meaning found)
builtin_is frame None = tt
builtin_is frame (Some b) = tt

function_is : (frame : Frame) (name : List ℕ) (found : Option ℕ) → IsMeaning frame (function_meaning name found)
function_is frame name None = builtin_is frame (builtin_named name)
function_is frame name (Some k) = tt

bound_is : (frame : Frame) (fs : List FunctionTree) (name : List ℕ) (found : Option Binding) → IsFound frame found → IsMeaning frame (bound_meaning fs name found)
bound_is frame fs name None h = function_is frame name (function_from 0 name fs)
bound_is frame fs name (Some binding) h = h

pub meaning_is : (frame : Frame) (fs : List FunctionTree) (scopes : List Scope) (name : List ℕ) → AreScopes frame scopes → IsMeaning frame (meaning_of fs scopes name)
meaning_is frame fs scopes name h = bound_is frame fs name (binding_named name scopes) (binding_is frame name scopes h)

-- ---- one more name

scope_behind : (frame : Frame) (scope : Scope) (name : List ℕ) (binding : Binding) → IsScope frame scope → IsBinding frame binding → IsScope frame (scope ++ (name, binding) ∷ [])
scope_behind frame [] name binding h is = (is, tt)
scope_behind frame (entry ∷ more) name binding h is = (h.0, scope_behind frame more name binding h.1 is)

pub entry_behind : (frame : Frame) (scopes : List Scope) (name : List ℕ) (binding : Binding) → AreScopes frame scopes → IsBinding frame binding → AreScopes frame (with_entry name binding scopes)
entry_behind frame [] name binding h is = ((is, tt), tt)
entry_behind frame (scope ∷ outer) name binding h is = (scope_behind frame scope name binding h.0 is, h.1)
