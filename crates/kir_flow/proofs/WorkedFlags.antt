-- Small kernels with jumps, the same with flags, and what both ask for.
use Rattle.std.proofs.Common.{◌≡◌, refl, ℕ, false, List, [], ◌∷◌}
use Rattle.std.specs.Prelude.{◌+◌, codes}
use Rattle.vx_base.specs.declared.types.Alu.TheVariants.{Add, Sub, Sltu, And, Mul}
use Rattle.vx_base.specs.declared.types.Elem.TheVariants.{Int}
use Rattle.vx_base.specs.declared.types.ParamKind.TheVariants.{Pointer}
use Rattle.vx_base.specs.declared.types.Pos.{Pos}
use Rattle.vx_base.specs.declared.types.Size.TheVariants.{Four}
use Rattle.vx_base.specs.declared.types.Space.TheVariants.{Global as GlobalSpace}
use Rattle.item_acts.specs.declared.acts.Action.TheVariants.{Store as StoreAction, Barrier as BarrierAction, End}
use Rattle.item_acts.specs.declared.acts.Asked.{Asked}
use Rattle.item_acts.specs.declared.acts.Asked.TheVariants.{Act}
use Rattle.item_acts.specs.declared.acts.Bound.TheVariants.{Array}
use Rattle.item_acts.specs.declared.acts.Place.TheVariants.{Global}
use Rattle.item_acts.specs.declared.acts.Range.{Range}
use Rattle.ocl_program.specs.declared.exprs.ArrayRef.TheVariants.{Parameter}
use Rattle.kir.specs.Machine.{kir_asks, kir_begun}
use Rattle.kir.specs.Measures.{jumps}
use Rattle.kir.specs.Trees.{Operand, VariableOf, NumberOf, Op, Set, Calculate, Store, Check, Barrier, If, Loop, Break, Continue, Return, Call, Ops, NoOps, AndOp, KirCode}
use Rattle.kir.specs.Weights.{weight}
use Rattle.kir_flow.specs.Flagging.{flags}

abbrev pub here : Pos
here = record { line = 1; col = 1 }

abbrev pub ops_of : List Op → Ops
ops_of [] = NoOps
ops_of (op ∷ ops) = AndOp op (ops_of ops)

-- a kernel over an array of ints with three variables: its flag is variable 3, and further ones begin with 4
abbrev pub kernel_of : List Op → KirCode
kernel_of ops = record {
  params = record { name = record { text = codes "p"; pos = here }; kind = Pointer GlobalSpace Int false; constant = false } ∷ [];
  arrays = [];
  variables = 3;
  ops = ops_of ops;
}

abbrev flagged_of : List Op → Ops
flagged_of ops = (flags (kernel_of ops)).ops

abbrev pub eight : Range
eight = record { dims = 1; global = 8 ∷ 1 ∷ 1 ∷ []; local = 2 ∷ 1 ∷ 1 ∷ [] }

-- what item 5 asks for with jumps and with flags, and how many turns it begins
abbrev with_jumps : List Op → List ℕ → Asked
with_jumps ops answers = kir_asks (kernel_of ops) eight (Array 7 4 ∷ []) 5 answers 150

abbrev with_flags : List Op → List ℕ → Asked
with_flags ops answers = kir_asks (flags (kernel_of ops)) eight (Array 7 4 ∷ []) 5 answers 300

abbrev jumps_begun : List Op → List ℕ → ℕ
jumps_begun ops answers = kir_begun (kernel_of ops) eight (Array 7 4 ∷ []) 5 answers 150

abbrev flags_begun : List Op → List ℕ → ℕ
flags_begun ops answers = kir_begun (flags (kernel_of ops)) eight (Array 7 4 ∷ []) 5 answers 300

abbrev pub n : ℕ → Operand
n k = NumberOf k

abbrev pub x : ℕ → Operand
x k = VariableOf k

-- variable 1 into element 0
abbrev pub tells : Op
tells = Store (Parameter 0) Int (n 0) (x 1)

abbrev told : ℕ → Asked
told value = Act (StoreAction (Global 7 0) Four value)

abbrev pub up : Op
up = Calculate 1 Add (x 1) (n 1)

abbrev less : ℕ → Op
less bound = Calculate 2 Sltu (x 1) (n bound)

-- the kernel's flag is set first
abbrev begun : List Op → List Op
begun ops = Set 3 (n 1) ∷ ops

-- ---- a loop with a break

abbrev breaks : List Op
breaks = Loop NoOps (n 7) (ops_of (up ∷ less 4 ∷ If (x 2) NoOps (ops_of (Break ∷ [])) ∷ Barrier 5 ∷ [])) NoOps ∷ tells ∷ []

-- Its flags are 4 and 5. What stands behind the break is done only where the turn is alive, and what stands behind the loop in any case.
breaks_flagged : flagged_of breaks ≡ ops_of (begun (
    Set 4 (n 1) ∷ Set 5 (x 4)
    ∷ Loop (ops_of (Calculate 5 Mul (x 5) (n 7) ∷ [])) (x 5)
    (ops_of (Set 5 (x 4) ∷ up ∷ less 4 ∷ If (x 2) NoOps (ops_of (Calculate 4 Sub (x 4) (x 5) ∷ Set 5 (n 0) ∷ [])) ∷ If (x 5) (ops_of (Barrier 5 ∷ [])) NoOps ∷ []))
    (ops_of (Set 5 (x 4) ∷ [])) ∷ tells ∷ []))
breaks_flagged = refl

breaks_first : with_flags breaks [] ≡ with_jumps breaks []
breaks_first = refl

breaks_tell : with_flags breaks (0 ∷ 0 ∷ 0 ∷ []) ≡ told 4
breaks_tell = refl

breaks_told : with_jumps breaks (0 ∷ 0 ∷ 0 ∷ []) ≡ told 4
breaks_told = refl

breaks_begin : flags_begun breaks (0 ∷ 0 ∷ 0 ∷ []) ≡ 4
breaks_begin = refl

breaks_begun : jumps_begun breaks (0 ∷ 0 ∷ 0 ∷ []) ≡ 4
breaks_begun = refl

breaks_variables : (flags (kernel_of breaks)).variables ≡ 6
breaks_variables = refl

-- ---- a loop with a continue alone has a flag in its body, and its test stays

abbrev skips : List Op
skips = Loop (ops_of (less 3 ∷ [])) (x 2) (ops_of (If (x 1) (ops_of (Continue ∷ [])) NoOps ∷ Barrier 5 ∷ up ∷ [])) (ops_of (up ∷ [])) ∷ tells ∷ []

skips_flagged : flagged_of skips ≡ ops_of (begun (
    Loop (ops_of (less 3 ∷ [])) (x 2)
    (ops_of (Set 4 (n 1) ∷ If (x 1) (ops_of (Set 4 (n 0) ∷ [])) NoOps ∷ If (x 4) (ops_of (Barrier 5 ∷ up ∷ [])) NoOps ∷ []))
    (ops_of (up ∷ [])) ∷ tells ∷ []))
skips_flagged = refl

skips_first : with_flags skips [] ≡ with_jumps skips []
skips_first = refl

skips_tell : with_flags skips (0 ∷ []) ≡ told 3
skips_tell = refl

skips_told : with_jumps skips (0 ∷ []) ≡ told 3
skips_told = refl

skips_begin : flags_begun skips (0 ∷ []) ≡ jumps_begun skips (0 ∷ [])
skips_begin = refl

-- ---- a loop without jumps has no flags

abbrev counts : List Op
counts = Loop (ops_of (less 3 ∷ [])) (x 2) (ops_of (If (x 1) (ops_of (Barrier 5 ∷ [])) NoOps ∷ [])) (ops_of (up ∷ [])) ∷ tells ∷ []

counts_flagged : flagged_of counts ≡ ops_of (begun counts)
counts_flagged = refl

counts_variables : (flags (kernel_of counts)).variables ≡ 4
counts_variables = refl

-- but behind a possible return it has: all in it is done only where the item is alive
abbrev late : List Op
late = If (x 1) (ops_of (Return ∷ [])) NoOps ∷ Loop NoOps (x 2) (ops_of (up ∷ [])) NoOps ∷ []

late_flagged : flagged_of late ≡ ops_of (begun (
    If (x 1) (ops_of (Set 3 (n 0) ∷ [])) NoOps ∷ Set 4 (x 3) ∷ Set 5 (x 4)
    ∷ Loop (ops_of (Calculate 5 Mul (x 5) (x 2) ∷ [])) (x 5) (ops_of (Set 5 (x 4) ∷ up ∷ [])) (ops_of (Set 5 (x 4) ∷ [])) ∷ []))
late_flagged = refl

-- ---- a guard round a store behind a possible return

abbrev pub stores : List Op
stores = If (x 1) (ops_of (Return ∷ [])) NoOps ∷ Check (Parameter 0) (n 0) here ∷ tells ∷ []

stores_flagged : flagged_of stores ≡ ops_of (begun (
    If (x 1) (ops_of (Set 3 (n 0) ∷ [])) NoOps ∷ If (x 3) (ops_of (Check (Parameter 0) (n 0) here ∷ tells ∷ [])) NoOps ∷ []))
stores_flagged = refl

stores_tell : with_flags stores [] ≡ told 0
stores_tell = refl

returns_before : with_flags (up ∷ stores) [] ≡ Act End
returns_before = refl

-- ---- a return inside two loops inside a call

abbrev deep : List Op
deep = Call (ops_of (
    Loop NoOps (n 1) (ops_of (
    Loop NoOps (n 1) (ops_of (up ∷ less 3 ∷ If (x 2) (ops_of (Continue ∷ [])) NoOps ∷ Return ∷ tells ∷ [])) NoOps
    ∷ Set 1 (n 50) ∷ [])) NoOps
    ∷ Set 1 (n 60) ∷ []))
    ∷ Barrier 5 ∷ tells ∷ []

-- the flag of the call is 4, those of the loops are 5 and 6, 7 and 8
deep_flagged : flagged_of deep ≡ ops_of (begun (
    Set 4 (n 1) ∷ Set 5 (n 1) ∷ Set 6 (x 5)
    ∷ Loop (ops_of (Calculate 6 Mul (x 6) (n 1) ∷ [])) (x 6)
    (ops_of (
    Set 6 (x 5) ∷ Set 7 (n 1) ∷ Set 8 (x 7)
    ∷ Loop (ops_of (Calculate 8 Mul (x 8) (n 1) ∷ [])) (x 8)
    (ops_of (
    Set 8 (x 7) ∷ up ∷ less 3 ∷ If (x 2) (ops_of (Set 8 (n 0) ∷ [])) NoOps
    ∷ Calculate 4 Sub (x 4) (x 8) ∷ Calculate 7 Sub (x 7) (x 8) ∷ Set 8 (n 0) ∷ If (x 8) (ops_of (tells ∷ [])) NoOps ∷ []))
    (ops_of (Set 8 (x 7) ∷ []))
    ∷ Calculate 6 And (x 6) (x 4) ∷ Calculate 5 And (x 5) (x 4) ∷ If (x 6) (ops_of (Set 1 (n 50) ∷ [])) NoOps ∷ []))
    (ops_of (Set 6 (x 5) ∷ []))
    ∷ If (x 4) (ops_of (Set 1 (n 60) ∷ [])) NoOps ∷ Barrier 5 ∷ tells ∷ []))
deep_flagged = refl

deep_waits : with_flags deep [] ≡ Act (BarrierAction (record { site = 5; turns = [] }))
deep_waits = refl

deep_waited : with_jumps deep [] ≡ Act (BarrierAction (record { site = 5; turns = [] }))
deep_waited = refl

deep_tells : with_flags deep (0 ∷ []) ≡ told 3
deep_tells = refl

deep_told : with_jumps deep (0 ∷ []) ≡ told 3
deep_told = refl

deep_begin : flags_begun deep (0 ∷ 0 ∷ []) ≡ jumps_begun deep (0 ∷ 0 ∷ [])
deep_begin = refl

deep_jumps : jumps (flagged_of deep) ≡ false
deep_jumps = refl

-- ---- jumps in heads and steps leave the loop

abbrev in_head : List Op
in_head = Loop (ops_of (up ∷ less 3 ∷ If (x 2) NoOps (ops_of (Continue ∷ [])) ∷ up ∷ [])) (n 1) (ops_of (Barrier 5 ∷ [])) NoOps ∷ tells ∷ []

in_head_tells : with_flags in_head (0 ∷ []) ≡ told 3
in_head_tells = refl

in_head_told : with_jumps in_head (0 ∷ []) ≡ told 3
in_head_told = refl

in_head_first : with_flags in_head [] ≡ with_jumps in_head []
in_head_first = refl

abbrev in_step : List Op
in_step = Loop (ops_of (up ∷ [])) (n 1) (ops_of (Barrier 5 ∷ [])) (ops_of (up ∷ less 5 ∷ If (x 2) NoOps (ops_of (Break ∷ [])) ∷ up ∷ [])) ∷ tells ∷ []

in_step_tells : with_flags in_step (0 ∷ 0 ∷ []) ≡ told 5
in_step_tells = refl

in_step_told : with_jumps in_step (0 ∷ 0 ∷ []) ≡ told 5
in_step_told = refl

in_step_waits : with_flags in_step (0 ∷ []) ≡ with_jumps in_step (0 ∷ [])
in_step_waits = refl

-- ---- outside every loop of a call jumps are returns

abbrev stray : List Op
stray = Loop (ops_of (less 2 ∷ [])) (x 2) (ops_of (Call (ops_of (Break ∷ Set 1 (n 50) ∷ [])) ∷ [])) (ops_of (up ∷ [])) ∷ tells ∷ Continue ∷ tells ∷ []

stray_tells : with_flags stray [] ≡ told 2
stray_tells = refl

stray_ends : with_flags stray (0 ∷ []) ≡ Act End
stray_ends = refl

stray_ended : with_jumps stray (0 ∷ []) ≡ Act End
stray_ended = refl

stray_begin : flags_begun stray (0 ∷ []) ≡ jumps_begun stray (0 ∷ [])
stray_begin = refl

-- a return in a call inside a loop leaves the call alone
abbrev calls_within : List Op
calls_within = Loop (ops_of (less 2 ∷ [])) (x 2) (ops_of (If (x 1) (ops_of (Break ∷ [])) NoOps ∷ Call (ops_of (up ∷ Return ∷ up ∷ [])) ∷ tells ∷ [])) NoOps ∷ Barrier 5 ∷ []

calls_within_tells : with_flags calls_within [] ≡ told 1
calls_within_tells = refl

calls_within_waits : with_flags calls_within (0 ∷ []) ≡ with_jumps calls_within (0 ∷ [])
calls_within_waits = refl

-- ---- words

-- a loop that needs no flags has the words of its source and of the kernel's own flag
endless_weight : weight (flagged_of (Loop NoOps (n 1) NoOps NoOps ∷ [])) ≡ 16
endless_weight = refl

-- the same behind a possible return, with its two flags
guarded_weight : weight (flagged_of (If (x 1) (ops_of (Return ∷ [])) NoOps ∷ Loop NoOps (n 1) NoOps NoOps ∷ [])) ≡ 3 + (12 + 23)
guarded_weight = refl

-- a return inside a loop clears three flags
cleared_weight : weight (flagged_of (Loop NoOps (x 1) (ops_of (Return ∷ [])) NoOps ∷ [])) ≡ 3 + (23 + 11)
cleared_weight = refl
