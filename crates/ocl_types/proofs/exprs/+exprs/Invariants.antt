use Rattle.std.proofs.Common.{◌≡◌, [], drop}
use Rattle.ocl_ast.specs.Shapes.{arg_trees}
use Rattle.ocl_types.specs.Answers.{args_sofar, callee_in}
use Rattle.ocl_types.specs.Exprs.{typed_args}
use Rattle.ocl_types.specs.Tables.{trees_of}
use Rattle.ocl_types.proofs.exprs.+exprs.Given as goal

-- what is left of the arguments gives, from here on, what all of them give
abbrev pub invariant-typed_args-loop-arg : goal.invariant-typed_args-loop-arg
invariant-typed_args-loop-arg l =
    typed_args (trees_of l.fn.functions.functions.now) l.fn.scopes (callee_in l.fn.callee) (args_sofar l.sofar l.calls.items) (arg_trees (drop l.arg-index l.fn.args)) ≡
    typed_args (trees_of l.fn.functions.functions.now) l.fn.scopes (callee_in l.fn.callee) (record { args = []; given = []; calls = l.fn.calls.items }) (arg_trees l.fn.args)
