-- Whether an expression has calls, and whether it has branches.
use Rattle.std.specs.Prelude.{Bool, true, false, ◌||◌}
use Rattle.ocl_inline.specs.Trees.{FlatValue, NoFlat, SomeFlat, FlatExpr, UnaryFlat, BinaryFlat, BothFlat, EitherFlat, ChooseFlat, CastFlat, LoadFlat, CallFlat, BuiltinFlat, ParenFlat, FlatArgs, NoFlatArgs, NumberArg, NamedArg}

-- whether it has a call, outside the bodies of its calls
abbrev mutual
  pub calls : FlatExpr → Bool
  calls (UnaryFlat op part) = calls part
  calls (BinaryFlat op unsigned left right) = calls left || calls right
  calls (BothFlat left right) = calls left || calls right
  calls (EitherFlat left right) = calls left || calls right
  calls (ChooseFlat unsigned test one other) = calls test || (calls one || calls other)
  calls (CastFlat elem part) = calls part
  calls (LoadFlat array elem place pos) = calls place
  calls (CallFlat args body) = true
  calls (BuiltinFlat which unsigned args) = args_call args
  calls (ParenFlat part) = calls part
  calls other = false

  pub args_call : FlatArgs → Bool
  args_call NoFlatArgs = false
  args_call (NumberArg e binding more) = calls e || args_call more
  args_call (NamedArg array more) = args_call more

abbrev pub right_calls : FlatValue → Bool
right_calls NoFlat = false
right_calls (SomeFlat e) = calls e

-- whether its operations are more than single ones
abbrev mutual
  pub branches : FlatExpr → Bool
  branches (UnaryFlat op part) = branches part
  branches (BinaryFlat op unsigned left right) = branches left || branches right
  branches (BothFlat left right) = true
  branches (EitherFlat left right) = true
  branches (ChooseFlat unsigned test one other) = true
  branches (CastFlat elem part) = branches part
  branches (LoadFlat array elem place pos) = branches place
  branches (CallFlat args body) = true
  branches (BuiltinFlat which unsigned args) = args_branch args
  branches (ParenFlat part) = branches part
  branches other = false

  pub args_branch : FlatArgs → Bool
  args_branch NoFlatArgs = false
  args_branch (NumberArg e binding more) = branches e || args_branch more
  args_branch (NamedArg array more) = args_branch more

abbrev pub right_branches : FlatValue → Bool
right_branches NoFlat = false
right_branches (SomeFlat e) = branches e
