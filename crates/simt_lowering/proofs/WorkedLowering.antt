-- A kernel that is worked out: each item below 4 puts 7 into the element of its number.
use Rattle.std.proofs.Common.{◌≡◌, ℕ, false, Bool, List, [], ◌∷◌, ◌++◌, length, refl}
use Rattle.vx_base.specs.declared.types.Alu.TheVariants.{Add, Sub, Sll, Srl, Sltu, Mul, Divu, Remu}
use Rattle.vx_base.specs.declared.types.Elem.TheVariants.{Int}
use Rattle.vx_base.specs.declared.types.ParamKind.TheVariants.{Pointer}
use Rattle.vx_base.specs.declared.types.Pos.{Pos}
use Rattle.vx_base.specs.declared.types.Size.TheVariants.{Four}
use Rattle.vx_base.specs.declared.types.Space.TheVariants as space
use Rattle.item_acts.specs.declared.acts.Action.TheVariants.{Store as StoreAction, End}
use Rattle.item_acts.specs.declared.acts.Asked.TheVariants.{Act}
use Rattle.item_acts.specs.declared.acts.Bound.TheVariants.{Array}
use Rattle.item_acts.specs.declared.acts.Place.TheVariants.{Global}
use Rattle.ocl_ast.specs.declared.exprs.Ident.{Ident}
use Rattle.ocl_program.specs.declared.exprs.ArrayRef.TheVariants.{Parameter}
use Rattle.ocl_program.specs.declared.exprs.Builtin.TheVariants.{GlobalId}
use Rattle.kir.specs.Trees.{VariableOf, NumberOf, Id, Calculate, Check, Store, If, NoOps, AndOp, KirCode}
use Rattle.vcode.specs.declared.ops.Csr.TheVariants.{LaneNumber, WarpNumber}
use Rattle.vcode.specs.Code.{VOp, Fresh, Copy, Compute, Word, Learn, Write, IfZero, IfNot, Goto, Split, Join, Tmc, Wspawn, Trap}
use Rattle.vcode.specs.Machine.{lane_asks}
use Rattle.vx_layout.specs.Launching.{Plan}
use Rattle.simt_lowering.specs.Laid.{around_of}
use Rattle.simt_lowering.specs.Lowered.{kernel_code}

abbrev checked_at : Pos
checked_at = record { line = 1; col = 1 }

-- `if (get_global_id(0) < 4) a[get_global_id(0)] = 7;`
abbrev kernel : Ident → KirCode
kernel name = record {
  params = record { name = name; kind = Pointer space.Global Int false; constant = false } ∷ [];
  arrays = [];
  variables = 2;
  ops = AndOp (Id 0 GlobalId (NumberOf 0)) (AndOp (Calculate 1 Sltu (VariableOf 0) (NumberOf 4))
      (AndOp (If (VariableOf 1)
      (AndOp (Check (Parameter 0) (VariableOf 0) checked_at) (AndOp (Store (Parameter 0) Int (VariableOf 0) (NumberOf 7)) NoOps)) NoOps) NoOps));
}

abbrev none_uniform : ℕ → Bool
none_uniform k = false

-- warp 0 starts the others, and each keeps the lanes that have an item
abbrev lanes_code : List VOp
lanes_code =
    Fresh ∷ Word 2 0 ∷ Wspawn (VariableOf 2) 3
    ∷ Fresh ∷ Word 2 1 ∷ Learn 3 WarpNumber ∷ Word 4 15 ∷ Compute 3 Mul (VariableOf 3) (VariableOf 4) ∷ Compute 2 Sub (VariableOf 2) (VariableOf 3)
    ∷ Compute 3 Sltu (VariableOf 2) (NumberOf 32) ∷ Compute 2 Sub (NumberOf 32) (VariableOf 2) ∷ Compute 2 Mul (VariableOf 2) (VariableOf 3)
    ∷ Compute 2 Srl (NumberOf 0xffffffff) (VariableOf 2) ∷ Tmc (VariableOf 2) ∷ []

-- the registers become 0
abbrev zeros_code : List VOp
zeros_code =
    Fresh ∷ Copy 0 (NumberOf 0) ∷ Copy 1 (NumberOf 0) ∷ Copy 2 (NumberOf 0) ∷ Copy 3 (NumberOf 0) ∷ Copy 4 (NumberOf 0)
    ∷ Copy 5 (NumberOf 0) ∷ Copy 6 (NumberOf 0) ∷ Copy 7 (NumberOf 0) ∷ Copy 8 (NumberOf 0) ∷ Copy 9 (NumberOf 0) ∷ []

-- the ids: the local ones in registers 4 to 6, the global ones in 7 to 9
abbrev ids_code : List VOp
ids_code =
    Learn 2 WarpNumber ∷ Word 3 15 ∷ Compute 2 Mul (VariableOf 2) (VariableOf 3) ∷ Learn 3 LaneNumber ∷ Compute 2 Add (VariableOf 2) (VariableOf 3)
    ∷ Word 3 6 ∷ Compute 4 Remu (VariableOf 2) (VariableOf 3) ∷ Compute 2 Divu (VariableOf 2) (VariableOf 3)
    ∷ Word 3 7 ∷ Compute 5 Remu (VariableOf 2) (VariableOf 3) ∷ Compute 6 Divu (VariableOf 2) (VariableOf 3)
    ∷ Word 2 3 ∷ Word 3 6 ∷ Compute 2 Mul (VariableOf 2) (VariableOf 3) ∷ Compute 7 Add (VariableOf 2) (VariableOf 4)
    ∷ Word 2 4 ∷ Word 3 7 ∷ Compute 2 Mul (VariableOf 2) (VariableOf 3) ∷ Compute 8 Add (VariableOf 2) (VariableOf 5)
    ∷ Word 2 5 ∷ Word 3 8 ∷ Compute 2 Mul (VariableOf 2) (VariableOf 3) ∷ Compute 9 Add (VariableOf 2) (VariableOf 6)
    ∷ Compute 6 Sub (VariableOf 6) (VariableOf 5) ∷ Compute 5 Sub (VariableOf 5) (VariableOf 4) ∷ Compute 6 Sub (VariableOf 6) (VariableOf 5)
    ∷ Compute 9 Sub (VariableOf 9) (VariableOf 8) ∷ Compute 8 Sub (VariableOf 8) (VariableOf 7) ∷ Compute 9 Sub (VariableOf 9) (VariableOf 8) ∷ []

-- the body, from place 54 on
abbrev body_code : List VOp
body_code =
    Copy 0 (VariableOf 7) ∷ Compute 1 Sltu (VariableOf 0) (NumberOf 4)
    ∷ Split (VariableOf 1) ∷ IfZero (VariableOf 1) 69
    ∷ Word 2 17 ∷ Compute 2 Sltu (VariableOf 0) (VariableOf 2) ∷ Split (VariableOf 2) ∷ IfNot (VariableOf 2) 63 ∷ Trap checked_at ∷ Join
    ∷ Word 2 16 ∷ Compute 3 Sll (VariableOf 0) (NumberOf 2) ∷ Compute 2 Add (VariableOf 2) (VariableOf 3) ∷ Write Int (VariableOf 2) (NumberOf 7)
    ∷ Goto 69 ∷ Join ∷ Tmc (NumberOf 0) ∷ []

-- it is lowered to these
kernel_lowers : (name : Ident) → kernel_code none_uniform (kernel name) ≡ lanes_code ++ (zeros_code ++ (ids_code ++ body_code))
kernel_lowers name = refl

body_place : length (lanes_code ++ (zeros_code ++ ids_code)) ≡ 54
body_place = refl

-- eight items in groups of four, on two warps of two lanes, with a buffer of eight ints
abbrev launch : Plan
launch = record {
  params = Pointer space.Global Int false ∷ [];
  arrays = [];
  range = record { dims = 1; global = 8 ∷ 1 ∷ 1 ∷ []; local = 4 ∷ 1 ∷ 1 ∷ [] };
  bounds = Array 0 8 ∷ [];
  buffers = record { start = 0; size = 32 } ∷ [];
  shared = 64;
  warps = 2;
  lanes = 2;
  slots = 10;
  code = 200;
}

-- the second lane of the second warp has item 3 in the first group, and item 7 in the second
item_stores : (name : Ident) → lane_asks (around_of launch 0 1 1) (kernel_code none_uniform (kernel name)) [] [] 80 ≡ Act (StoreAction (Global 0 12) Four 7)
item_stores name = refl

item_ends : (name : Ident) → lane_asks (around_of launch 1 1 1) (kernel_code none_uniform (kernel name)) [] [] 80 ≡ Act End
item_ends name = refl
