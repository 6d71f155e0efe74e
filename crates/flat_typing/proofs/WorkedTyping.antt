-- A helper that is given arrays by a kernel, and what is refused.
use Rattle.std.proofs.Common.{◌≡◌, refl, ℕ, true, false, List, [], ◌∷◌, Some, codes}
use Rattle.vx_base.specs.declared.types.Elem.TheVariants.{Char, Int}
use Rattle.vx_base.specs.declared.types.ParamKind.{ParamKind}
use Rattle.vx_base.specs.declared.types.ParamKind.TheVariants.{Scalar, Pointer}
use Rattle.vx_base.specs.declared.types.Pos.{Pos}
use Rattle.vx_base.specs.declared.types.Space.TheVariants.{Global}
use Rattle.ocl_ast.specs.declared.exprs.Ident.{Ident}
use Rattle.ocl_ast.specs.declared.stmts.AssignOp.TheVariants.{Set}
use Rattle.ocl_ast.specs.declared.units.Gives.TheVariants.{Nothing}
use Rattle.ocl_ast.specs.declared.units.Param.{Param}
use Rattle.ocl_program.specs.declared.exprs.ArrayRef.{ArrayRef}
use Rattle.ocl_program.specs.declared.exprs.ArrayRef.TheVariants.{Parameter, Declared}
use Rattle.ocl_program.specs.declared.exprs.Builtin.TheVariants.{GlobalId, Min}
use Rattle.ocl_program.specs.Nodes.{ExprNode, NumberNode, VariableNode, LoadNode, CallNode, BuiltinNode, NoArgs, ValueArg, ArrayArg, StmtNode, LocalArrayNode, SetElementNode, CallStmtNode, FunctionNode, stmt_nodes}
use Rattle.flat_typing.specs.Typed.{Frame, IsTypedExpr, IsTypedFunction, IsTypedStmt, frame_of}

abbrev here : Pos
here = record { line = 1; col = 1 }

abbrev name : List ℕ → Ident
name text = record { text = text; pos = here }

abbrev param : List ℕ → ParamKind → Param
param text kind = record { name = name text; kind = kind; constant = false }

-- `void put(global int *to, const global int *from, int i) { to[i] = from[i]; }`
abbrev put : FunctionNode
put = record {
  kernel = false;
  name = name (codes "put");
  gives = Nothing;
  params = param (codes "to") (Pointer Global Int false) ∷ param (codes "from") (Pointer Global Int true) ∷ param (codes "i") (Scalar Int) ∷ [];
  variables = 1;
  sites = 0;
  arrays = [];
  calls = [];
  body = stmt_nodes (SetElementNode (Parameter 0) Int (VariableNode 0 Int) Set false (Some (LoadNode (Parameter 1) Int (VariableNode 0 Int) here)) here ∷ []);
}

-- the number of an item, and a call of it with two arrays
abbrev id : ExprNode
id = BuiltinNode GlobalId true (ValueArg (NumberNode 0 false) NoArgs)

abbrev put_from : ArrayRef → ArrayRef → StmtNode
put_from to from = CallStmtNode (CallNode 0 (ArrayArg to (ArrayArg from (ValueArg id NoArgs))))

-- `kernel void copy(global int *p, const global int *q, global char *c) { local int l[8]; put(p, q, get_global_id(0)); }`
abbrev copy : FunctionNode
copy = record {
  kernel = true;
  name = name (codes "copy");
  gives = Nothing;
  params = param (codes "p") (Pointer Global Int false) ∷ param (codes "q") (Pointer Global Int true) ∷ param (codes "c") (Pointer Global Char false) ∷ [];
  variables = 0;
  sites = 0;
  arrays = record { elem = Int; count = 8 } ∷ [];
  calls = record { callee = 0; variables = 0; sites = 0 } ∷ [];
  body = stmt_nodes (LocalArrayNode 0 (NumberNode 8 false) ∷ put_from (Parameter 0) (Parameter 1) ∷ []);
}

abbrev program : List FunctionNode
program = put ∷ copy ∷ []

abbrev frame : Frame
frame = frame_of program copy

put_typed : IsTypedFunction program put
put_typed = record { body = ((refl, refl, tt, (refl, tt)), tt); arrays = λ helper. refl }

copy_typed : IsTypedFunction program copy
copy_typed = record {
  body = (
    refl,
    (
      (
        (
          refl,
          (record { space = refl; elem = refl; accepts = λ accepting. refl }, (record { space = refl; elem = refl; accepts = λ accepting. accepting }, (refl, tt))),
        ),
        ((tt, (tt, tt)), tt),
      ),
      tt,
    ),
  );
  arrays = λ helper. cc;
}

-- an array that stores are accepted to may be given where none are made
both_open : IsTypedStmt frame (put_from (Parameter 0) (Parameter 0))
both_open = (
  (
    refl,
    (record { space = refl; elem = refl; accepts = λ accepting. refl }, (record { space = refl; elem = refl; accepts = λ accepting. refl }, (refl, tt))),
  ),
  ((tt, (tt, tt)), tt),
)

-- but not the other way round
readonly_given : IsTypedStmt frame (put_from (Parameter 1) (Parameter 1)) → ⊥
readonly_given h = let accepts : true ≡ false = h.0.1.0.accepts refl in cc

-- nor one of another type, nor one of another space
other_elem_given : IsTypedStmt frame (put_from (Parameter 2) (Parameter 1)) → ⊥
other_elem_given h = let same = h.0.1.0.elem in cc

other_space_given : IsTypedStmt frame (put_from (Declared 0) (Parameter 1)) → ⊥
other_space_given h = let same = h.0.1.0.space in cc

readonly_stored : IsTypedStmt frame (SetElementNode (Parameter 1) Int id Set false (Some id) here) → ⊥
readonly_stored h = let accepts : true ≡ false = h.1 in cc

other_elem_loaded : IsTypedExpr frame (LoadNode (Parameter 2) Int id here) → ⊥
other_elem_loaded h = let same = h.0 in cc

-- a built-in function with an argument too few
one_of_two : IsTypedExpr frame (BuiltinNode Min false (ValueArg id NoArgs)) → ⊥
one_of_two h = h.0
