-- Which functions reach a call of themselves.
use Rattle.std.specs.Prelude.{◌≡◌, ℕ, zero, suc, ◌<◌, ◌==◌, Bool, true, false, ◌||◌, List, [], length, slice_get, Option, None, Some}
use Rattle.std.specs.List.{list_any}
use Rattle.ocl_program.specs.declared.functions.CallSite.{CallSite}
use Rattle.ocl_program.specs.Nodes.{FunctionNode}

abbrev pub calls_at : Option FunctionNode → List CallSite
calls_at None = []
calls_at (Some f) = f.calls

-- whether one of some calls is of function `to`, or its callee leads on to it
abbrev pub some_leads : (ℕ → Bool) → ℕ → List CallSite → Bool
some_leads onward to calls = list_any (λ (c : CallSite). (c.callee == to) || onward c.callee) calls

-- whether at most n calls, each in the body of the callee of the one before it, lead from function `from` to a call of function `to`
unfoldable pub leads : List FunctionNode → ℕ → ℕ → ℕ → Bool
leads program to zero from = false
leads program to (suc n) from = some_leads (leads program to n) to (calls_at (slice_get program from))

-- whether a function can reach a call of itself; what is reached at all is reached by as many calls as there are functions
abbrev pub is_recursive : List FunctionNode → ℕ → Bool
is_recursive program k = leads program k (length program) k

-- that no function reaches a call of itself
abbrev pub NoneRecursive : List FunctionNode → Type 0
NoneRecursive program = (k : ℕ) → is_recursive program k ≡ false

-- that a function of the program reaches a call of itself
pub record IsRecursive (program : List FunctionNode) (k : ℕ) : Type 0 where
  pub within : k < length program
  pub calls : is_recursive program k ≡ true

-- that a function is the first that reaches a call of itself
pub record IsFirstRecursive (program : List FunctionNode) (k : ℕ) : Type 0 where
  pub here : IsRecursive program k
  pub none_before : (j : ℕ) → j < k → is_recursive program j ≡ false
