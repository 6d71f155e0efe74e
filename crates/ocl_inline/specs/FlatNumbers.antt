-- The numbers that stand in a flat kernel, in the order of the text and through the bodies at its calls.
use Rattle.std.specs.Prelude.{ℕ, ◌==◌, List, [], ◌∷◌, ◌++◌}
use Rattle.std.specs.List.{IsDistinct}
use Rattle.ocl_inline.specs.declared.trees.Binding.{Binding}
use Rattle.ocl_inline.specs.declared.trees.Binding.TheVariants.{Variable as ToVariable, Dropped}
use Rattle.ocl_inline.specs.Trees.{FlatValue, NoFlat, SomeFlat, FlatExpr, NumberFlat, VariableFlat, UnaryFlat, BinaryFlat, BothFlat, EitherFlat, ChooseFlat, CastFlat, LoadFlat, CallFlat, LostFlat, BuiltinFlat, ParenFlat, FlatArgs, NoFlatArgs, NumberArg, NamedArg, FlatStmt, DeclareFlat, LocalArrayFlat, SetVariableFlat, SetElementFlat, CallStmtFlat, BarrierFlat, IfFlat, IfElseFlat, WhileFlat, DoFlat, ForFlat, BreakFlat, ContinueFlat, ReturnFlat, BlockFlat, EmptyFlat, FlatStmts, NoFlats, AndFlat}

-- some numbers differ from one another
abbrev pub AreDifferent : List ℕ → Type 0
AreDifferent ns = IsDistinct (λ (m n : ℕ). m == n) ns

-- the variable that an argument goes into
abbrev pub bound_variables : Binding → List ℕ
bound_variables (ToVariable variable elem) = variable ∷ []
bound_variables Dropped = []

abbrev mutual
  -- the variables that are read, declared or assigned, or that arguments go into
  pub flat_expr_variables : FlatExpr → List ℕ
  flat_expr_variables (NumberFlat value unsigned) = []
  flat_expr_variables (VariableFlat variable) = variable ∷ []
  flat_expr_variables (UnaryFlat op part) = flat_expr_variables part
  flat_expr_variables (BinaryFlat op unsigned left right) = flat_expr_variables left ++ flat_expr_variables right
  flat_expr_variables (BothFlat left right) = flat_expr_variables left ++ flat_expr_variables right
  flat_expr_variables (EitherFlat left right) = flat_expr_variables left ++ flat_expr_variables right
  flat_expr_variables (ChooseFlat unsigned test one other) = flat_expr_variables test ++ (flat_expr_variables one ++ flat_expr_variables other)
  flat_expr_variables (CastFlat elem part) = flat_expr_variables part
  flat_expr_variables (LoadFlat array elem place pos) = flat_expr_variables place
  flat_expr_variables (CallFlat args body) = flat_args_variables args ++ flat_variables body
  flat_expr_variables (LostFlat args) = flat_args_variables args
  flat_expr_variables (BuiltinFlat which unsigned args) = flat_args_variables args
  flat_expr_variables (ParenFlat part) = flat_expr_variables part

  pub flat_value_variables : FlatValue → List ℕ
  flat_value_variables NoFlat = []
  flat_value_variables (SomeFlat e) = flat_expr_variables e

  pub flat_args_variables : FlatArgs → List ℕ
  flat_args_variables NoFlatArgs = []
  flat_args_variables (NumberArg e binding more) = flat_expr_variables e ++ (bound_variables binding ++ flat_args_variables more)
  flat_args_variables (NamedArg array more) = flat_args_variables more

  pub flat_stmt_variables : FlatStmt → List ℕ
  flat_stmt_variables (DeclareFlat variable elem value) = variable ∷ flat_value_variables value
  flat_stmt_variables (LocalArrayFlat array count) = flat_expr_variables count
  flat_stmt_variables (SetVariableFlat variable elem op unsigned value) = variable ∷ flat_value_variables value
  flat_stmt_variables (SetElementFlat array elem place op unsigned value pos) = flat_expr_variables place ++ flat_value_variables value
  flat_stmt_variables (CallStmtFlat call) = flat_expr_variables call
  flat_stmt_variables (BarrierFlat site) = []
  flat_stmt_variables (IfFlat test one) = flat_expr_variables test ++ flat_stmt_variables one
  flat_stmt_variables (IfElseFlat test one other) = flat_expr_variables test ++ (flat_stmt_variables one ++ flat_stmt_variables other)
  flat_stmt_variables (WhileFlat test body) = flat_expr_variables test ++ flat_stmt_variables body
  flat_stmt_variables (DoFlat body test) = flat_stmt_variables body ++ flat_expr_variables test
  flat_stmt_variables (ForFlat first test step body) =
      flat_variables first ++ (flat_value_variables test ++ (flat_variables step ++ flat_stmt_variables body))
  flat_stmt_variables BreakFlat = []
  flat_stmt_variables ContinueFlat = []
  flat_stmt_variables (ReturnFlat gives value) = flat_value_variables value
  flat_stmt_variables (BlockFlat items) = flat_variables items
  flat_stmt_variables EmptyFlat = []

  pub flat_variables : FlatStmts → List ℕ
  flat_variables NoFlats = []
  flat_variables (AndFlat s ss) = flat_stmt_variables s ++ flat_variables ss

abbrev mutual
  -- the numbers of the barriers
  pub flat_expr_sites : FlatExpr → List ℕ
  flat_expr_sites (NumberFlat value unsigned) = []
  flat_expr_sites (VariableFlat variable) = []
  flat_expr_sites (UnaryFlat op part) = flat_expr_sites part
  flat_expr_sites (BinaryFlat op unsigned left right) = flat_expr_sites left ++ flat_expr_sites right
  flat_expr_sites (BothFlat left right) = flat_expr_sites left ++ flat_expr_sites right
  flat_expr_sites (EitherFlat left right) = flat_expr_sites left ++ flat_expr_sites right
  flat_expr_sites (ChooseFlat unsigned test one other) = flat_expr_sites test ++ (flat_expr_sites one ++ flat_expr_sites other)
  flat_expr_sites (CastFlat elem part) = flat_expr_sites part
  flat_expr_sites (LoadFlat array elem place pos) = flat_expr_sites place
  flat_expr_sites (CallFlat args body) = flat_args_sites args ++ flat_sites body
  flat_expr_sites (LostFlat args) = flat_args_sites args
  flat_expr_sites (BuiltinFlat which unsigned args) = flat_args_sites args
  flat_expr_sites (ParenFlat part) = flat_expr_sites part

  pub flat_value_sites : FlatValue → List ℕ
  flat_value_sites NoFlat = []
  flat_value_sites (SomeFlat e) = flat_expr_sites e

  pub flat_args_sites : FlatArgs → List ℕ
  flat_args_sites NoFlatArgs = []
  flat_args_sites (NumberArg e binding more) = flat_expr_sites e ++ flat_args_sites more
  flat_args_sites (NamedArg array more) = flat_args_sites more

  pub flat_stmt_sites : FlatStmt → List ℕ
  flat_stmt_sites (DeclareFlat variable elem value) = flat_value_sites value
  flat_stmt_sites (LocalArrayFlat array count) = flat_expr_sites count
  flat_stmt_sites (SetVariableFlat variable elem op unsigned value) = flat_value_sites value
  flat_stmt_sites (SetElementFlat array elem place op unsigned value pos) = flat_expr_sites place ++ flat_value_sites value
  flat_stmt_sites (CallStmtFlat call) = flat_expr_sites call
  flat_stmt_sites (BarrierFlat site) = site ∷ []
  flat_stmt_sites (IfFlat test one) = flat_expr_sites test ++ flat_stmt_sites one
  flat_stmt_sites (IfElseFlat test one other) = flat_expr_sites test ++ (flat_stmt_sites one ++ flat_stmt_sites other)
  flat_stmt_sites (WhileFlat test body) = flat_expr_sites test ++ flat_stmt_sites body
  flat_stmt_sites (DoFlat body test) = flat_stmt_sites body ++ flat_expr_sites test
  flat_stmt_sites (ForFlat first test step body) = flat_sites first ++ (flat_value_sites test ++ (flat_sites step ++ flat_stmt_sites body))
  flat_stmt_sites BreakFlat = []
  flat_stmt_sites ContinueFlat = []
  flat_stmt_sites (ReturnFlat gives value) = flat_value_sites value
  flat_stmt_sites (BlockFlat items) = flat_sites items
  flat_stmt_sites EmptyFlat = []

  pub flat_sites : FlatStmts → List ℕ
  flat_sites NoFlats = []
  flat_sites (AndFlat s ss) = flat_stmt_sites s ++ flat_sites ss
