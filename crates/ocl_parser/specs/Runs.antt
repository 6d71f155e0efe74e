-- How the reader goes through all tokens, where no limits are set.
use Rattle.std.specs.Prelude.{List, [], ◌∷◌, ◌++◌, Option, Some, None}
use Rattle.ocl_ast.specs.Trees.{FunctionTree}
use Rattle.ocl_tokens.specs.declared.tokens.Token.{Token}
use Rattle.ocl_parser.specs.UnitSteps.{UnitNext, Reads, Adds, Fails, unit_step}
use Rattle.ocl_parser.specs.declared.states.UnitFocus.{UnitFocus}
use Rattle.ocl_parser.specs.declared.states.UnitFocus.TheVariants.{Outside, AtEnd}

-- the functions of a file that has ended
abbrev pub ended : UnitFocus → List FunctionTree → Option (List FunctionTree)
ended AtEnd functions = Some functions
ended _ functions = None

-- what one token leaves to the tokens behind it
abbrev pub go_on : UnitNext → List FunctionTree → (UnitFocus → List FunctionTree → Option (List FunctionTree)) → Option (List FunctionTree)
go_on (Reads next) functions further = further next functions
go_on (Adds f) functions further = further Outside (functions ++ (f ∷ []))
go_on Fails functions further = None

-- the functions of a file, where the tokens go on with it from this focus and behind these functions
abbrev pub run : UnitFocus → List FunctionTree → List Token → Option (List FunctionTree)
run focus functions [] = ended focus functions
run focus functions (t ∷ ts) = go_on (unit_step t.kind t.pos focus) functions (λ next all. run next all ts)
