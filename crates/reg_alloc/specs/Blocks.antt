-- The words of an operation: some that only compute, then the one that acts, and at most one behind it.
use Rattle.std.specs.Prelude.{ℕ, zero, suc, ◌+◌, ◌-◌, ◌*◌, ◌%◌, ◌^◌, nat_lt, if◌then◌else◌, List, [], ◌∷◌}
use Rattle.vx_base.specs.declared.types.Alu.{Alu}
use Rattle.vx_base.specs.declared.types.Alu.TheVariants as alu
use Rattle.vx_base.specs.declared.types.Elem.{Elem}
use Rattle.vx_base.specs.declared.types.Elem.TheVariants as elem
use Rattle.kir.specs.Trees.{Operand, VariableOf, NumberOf}
use Rattle.vx_isa.specs.declared.instr.Instr.{Instr}
use Rattle.vx_isa.specs.declared.instr.Instr.TheVariants as instr
use Rattle.vcode.specs.declared.ops.Csr.{Csr}
use Rattle.vcode.specs.declared.ops.Csr.TheVariants as csr
use Rattle.vcode.specs.Code.{VOp, Fresh, Copy, Compute, Cut, Word, WordAt, Learn, Fetch, Write, IfZero, IfNot, Goto, Split, Join, Pred, Tmc, Wspawn, Bar, Trap, Enter, Leaves, Again}
use Rattle.reg_alloc.specs.Plain.{Plain, GetSlot, PutSlot, GetBlock, High, AddTo, ShiftLeft, Calculate, GetLane, GetWarp, alu_instr, block_base, frame_base, instr_of, left, lower, made, right, upper}

-- ---- operands

-- a number into a register, in front of others: x0 is 0, a small one is one word, every other one two
abbrev pub pair_before : ℕ → ℕ → List Plain → List Plain
pair_before rd n rest = High rd (upper n) ∷ AddTo rd rd (lower n) ∷ rest

abbrev pub number_before : ℕ → ℕ → List Plain → List Plain
number_before rd zero rest = rest
number_before rd (suc n) rest = if nat_lt n 2047 then AddTo rd 0 (suc n) ∷ rest else pair_before rd (suc n) rest

abbrev pub number_register : ℕ → ℕ → ℕ
number_register rd zero = 0
number_register rd (suc n) = rd

-- the value of an operand, and the register that has it then
abbrev pub operand_before : ℕ → Operand → List Plain → List Plain
operand_before rd (VariableOf r) rest = GetSlot rd r ∷ rest
operand_before rd (NumberOf n) rest = number_before rd n rest

abbrev pub register_of : ℕ → Operand → ℕ
register_of rd (VariableOf r) = rd
register_of rd (NumberOf n) = number_register rd n

-- a number to shift by stands in the instruction where it is below 32
abbrev pub shift_before : ℕ → List Plain → List Plain
shift_before n rest = if nat_lt n 32 then rest else number_before right n rest

abbrev pub right_before : Alu → Operand → List Plain → List Plain
right_before alu.Sll (NumberOf n) rest = shift_before n rest
right_before alu.Srl (NumberOf n) rest = shift_before n rest
right_before alu.Sra (NumberOf n) rest = shift_before n rest
right_before op a rest = operand_before right a rest

-- the word that computes, of the register of the first operand and of the second operand
abbrev pub compute_word : Alu → Operand → ℕ → Instr
compute_word alu.Sll (NumberOf n) a = if nat_lt n 32 then instr.Slli made a n else instr.Sll made a (number_register right n)
compute_word alu.Srl (NumberOf n) a = if nat_lt n 32 then instr.Srli made a n else instr.Srl made a (number_register right n)
compute_word alu.Sra (NumberOf n) a = if nat_lt n 32 then instr.Srai made a n else instr.Sra made a (number_register right n)
compute_word op b a = alu_instr op made a (register_of right b)

-- how far a value is shifted left, and by which word right again, so that it is cut to a type
abbrev pub spare_bits : Elem → ℕ
spare_bits elem.Char = 24
spare_bits elem.Uchar = 24
spare_bits elem.Short = 16
spare_bits elem.Ushort = 16
spare_bits elem.Int = 0
spare_bits elem.Uint = 0

abbrev pub cut_word : Elem → Instr
cut_word elem.Char = instr.Srai made made 24
cut_word elem.Uchar = instr.Srli made made 24
cut_word elem.Short = instr.Srai made made 16
cut_word elem.Ushort = instr.Srli made made 16
cut_word elem.Int = instr.Srli made made 0
cut_word elem.Uint = instr.Srli made made 0

-- the words that load an element from the address in a register, and store one there
abbrev pub load_word : Elem → ℕ → Instr
load_word elem.Char a = instr.Lb made 0 a
load_word elem.Uchar a = instr.Lbu made 0 a
load_word elem.Short a = instr.Lh made 0 a
load_word elem.Ushort a = instr.Lhu made 0 a
load_word elem.Int a = instr.Lw made 0 a
load_word elem.Uint a = instr.Lw made 0 a

abbrev pub store_word : Elem → ℕ → ℕ → Instr
store_word elem.Char a b = instr.Sb b 0 a
store_word elem.Uchar a b = instr.Sb b 0 a
store_word elem.Short a b = instr.Sh b 0 a
store_word elem.Ushort a b = instr.Sh b 0 a
store_word elem.Int a b = instr.Sw b 0 a
store_word elem.Uint a b = instr.Sw b 0 a

abbrev pub csr_number : Csr → ℕ
csr_number csr.LaneNumber = 0xcc0
csr_number csr.WarpNumber = 0xcc1
csr_number csr.CoreNumber = 0xcc2
csr_number csr.MaskNow = 0xcc4

-- ---- the block of an operation

-- the words that compute first; the one that acts, and the one behind it, where there are such
pub record Block : Type 0 where
  pub before : List Plain
  pub acting : List Instr
  pub behind : List Instr

-- a block whose result is stored, one whose last word acts, and one that jumps where its branch does not
abbrev pub stores : ℕ → List Plain → Instr → Block
stores d before acting = record { before = before; acting = acting ∷ []; behind = instr_of (PutSlot made d) ∷ [] }

abbrev pub ends : List Plain → Instr → Block
ends before acting = record { before = before; acting = acting ∷ []; behind = [] }

abbrev pub leads : List Plain → Instr → Instr → Block
leads before acting jump = record { before = before; acting = acting ∷ []; behind = jump ∷ [] }

-- the distance in bytes from a word to another, as a word
abbrev pub distance : ℕ → ℕ → ℕ
distance from to = (2 ^ 32 + 4 * to - 4 * from) % 2 ^ 32

-- the jump that is word `from` of the code, to word `to`
abbrev pub jump : ℕ → ℕ → Instr
jump from to = instr.Jal 0 (distance from to)

-- the address of a word of the code
abbrev pub address_of_word : ℕ → ℕ
address_of_word k = 0x80000000 + 4 * k

-- The frame of a lane with so many words begins at 0x10080000 + (warp * lanes + lane) * (4 * slots); word 15 of the launch block is how many
-- lanes a warp has.
abbrev pub fresh_before : ℕ → List Plain
fresh_before slots =
    High block_base 0x10000
    ∷ GetWarp left
    ∷ GetBlock right 15
    ∷ Calculate alu.Mul left left right
    ∷ GetLane right
    ∷ Calculate alu.Add left left right
    ∷ AddTo right 0 (4 * slots)
    ∷ Calculate alu.Mul left left right
    ∷ High right 0x10080
    ∷ []

-- The block of an operation whose last word is the one before word `end` of the code, where place q begins at word `starts q`.
abbrev pub block : ℕ → (ℕ → ℕ) → ℕ → VOp → Block
block slots starts end Fresh = ends (fresh_before slots) (instr.Add frame_base left right)
block slots starts end (Copy d a) = ends (operand_before left a []) (instr_of (PutSlot (register_of left a) d))
block slots starts end (Compute d op a b) = stores d (operand_before left a (right_before op b [])) (compute_word op b (register_of left a))
block slots starts end (Cut d elem a) = stores d (operand_before left a (ShiftLeft made (register_of left a) (spare_bits elem) ∷ [])) (cut_word elem)
block slots starts end (Word d k) = stores d [] (instr_of (GetBlock made k))
block slots starts end (WordAt d a k) =
    stores d (operand_before left a (ShiftLeft left (register_of left a) 2 ∷ Calculate alu.Add left left block_base ∷ [])) (instr.Lw made (4 * k) left)
block slots starts end (Learn d c) = stores d [] (instr.Csrr made (csr_number c))
block slots starts end (Fetch d elem a) = stores d (operand_before left a []) (load_word elem (register_of left a))
block slots starts end (Write elem a b) = ends (operand_before left a (operand_before right b [])) (store_word elem (register_of left a) (register_of right b))
block slots starts end (IfZero a q) = leads (operand_before left a []) (instr.Bne (register_of left a) 0 8) (jump (end - 1) (starts q))
block slots starts end (IfNot a q) = leads (operand_before left a []) (instr.Beq (register_of left a) 0 8) (jump (end - 1) (starts q))
block slots starts end (Goto q) = ends [] (jump (end - 1) (starts q))
block slots starts end (Split a) = ends (operand_before left a []) (instr.Split (register_of left a))
block slots starts end Join = ends [] instr.Join
block slots starts end (Pred a m) = ends (operand_before left a (GetSlot right m ∷ [])) (instr.Pred (register_of left a) right)
block slots starts end (Tmc a) = ends (operand_before left a []) (instr.Tmc (register_of left a))
block slots starts end (Wspawn a q) =
    ends (operand_before left a (pair_before right (address_of_word (starts q)) [])) (instr.Wspawn (register_of left a) right)
block slots starts end (Bar site) = ends (pair_before left site (GetBlock right 0 ∷ [])) (instr.Bar left right)
block slots starts end (Trap pos) = ends [] instr.Ebreak
block slots starts end Enter = record { before = []; acting = []; behind = [] }
block slots starts end (Leaves a q) = leads (operand_before left a []) (instr.Bne (register_of left a) 0 8) (jump (end - 1) (starts q))
block slots starts end (Again q) = ends [] (jump (end - 1) (starts q))
