-- Turns of loops that small kernels begin.
use Rattle.std.proofs.Common.{◌≡◌, refl, ℕ, List, [], ◌∷◌, None, true, false}
use Rattle.std.specs.Prelude.{codes}
use Rattle.vx_base.specs.declared.types.Elem.TheVariants.{Int}
use Rattle.vx_base.specs.declared.types.ParamKind.TheVariants.{Scalar}
use Rattle.ocl_ast.specs.declared.exprs.BinOp.TheVariants.{Lt}
use Rattle.ocl_ast.specs.declared.stmts.AssignOp.TheVariants.{Up}
use Rattle.ocl_ast.specs.declared.units.Gives.TheVariants.{Nothing}
use Rattle.item_acts.specs.declared.acts.Bound.TheVariants.{Value}
use Rattle.item_acts.specs.declared.acts.Range.{Range}
use Rattle.ocl_program.specs.Nodes.{BinaryNode, DoNode, FunctionNode, NumberNode, SetVariableNode, StmtNode, VariableNode, WhileNode, stmt_nodes}
use Rattle.ocl_sem.specs.Spending.{turns_begun}

abbrev kernel_of : List StmtNode → FunctionNode
kernel_of body = record {
  kernel = true;
  name = record { text = codes "k"; pos = record { line = 1; col = 1 } };
  gives = Nothing;
  params = record { name = record { text = codes "n"; pos = record { line = 1; col = 1 } }; kind = Scalar Int; constant = false } ∷ [];
  variables = 2;
  sites = 0;
  arrays = [];
  calls = [];
  body = stmt_nodes body;
}

abbrev one_item : Range
one_item = record { dims = 1; global = 1 ∷ 1 ∷ 1 ∷ []; local = 1 ∷ 1 ∷ 1 ∷ [] }

abbrev begun : List StmtNode → ℕ → ℕ → ℕ
begun body n fuel = turns_begun [] (kernel_of body) one_item (Value n ∷ []) 0 [] fuel

abbrev x_less : ℕ → StmtNode → StmtNode
x_less n body = WhileNode (BinaryNode Lt false (VariableNode 0 Int) (NumberNode n false)) body

abbrev x_up : StmtNode
x_up = SetVariableNode 0 Int Up false None

-- `while (n < 5) n++;` from 2 has three turns, and none from 5
three_turns : begun (x_less 5 x_up ∷ []) 2 1000 ≡ 3
three_turns = refl

no_turn : begun (x_less 5 x_up ∷ []) 5 1000 ≡ 0
no_turn = refl

-- `do n++; while (n < 5);` from 5 has one
one_turn : begun (DoNode x_up (BinaryNode Lt false (VariableNode 0 Int) (NumberNode 5 false)) ∷ []) 5 1000 ≡ 1
one_turn = refl
