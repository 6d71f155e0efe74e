-- Worked blocks, one of each kind of operation, by the definitions.
use Rattle.std.proofs.Common.{◌≡◌, [], ◌∷◌, refl}
use Rattle.vx_base.specs.declared.types.Alu.TheVariants as alu
use Rattle.vx_base.specs.declared.types.Elem.TheVariants as elem
use Rattle.kir.specs.Trees.{VariableOf, NumberOf}
use Rattle.vx_isa.specs.declared.instr.Instr.TheVariants.{Lui, Jal, Beq, Bne, Lw, Lhu, Sb, Sw, Addi, Slli, Srai, Add, Sub, Mul, Ebreak, Csrr, Tmc, Wspawn, Split, Join, Bar, Pred}
use Rattle.vcode.specs.declared.ops.Csr.TheVariants as csr
use Rattle.vcode.specs.Code.{Fresh, Copy, Compute, Cut, Word, WordAt, Learn, Fetch, Write, IfZero, IfNot, Goto, Split as Parts, Join as Meets, Pred as Keeps, Tmc as Leave, Wspawn as Spawns, Bar as Waits, Trap, Enter, Leaves, Again}
use Rattle.reg_alloc.specs.Layout.{instrs_of}

-- the frame of a lane with 20 words: at 0x10080000 + (warp * lanes + lane) * 80
fresh : instrs_of 20 (Fresh ∷ []) ≡ Lui 3 0x10000 ∷ Csrr 5 0xcc1 ∷ Lw 6 60 3 ∷ Mul 5 5 6 ∷ Csrr 6 0xcc0 ∷ Add 5 5 6 ∷ Addi 6 0 80 ∷ Mul 5 5 6 ∷ Lui 6 0x10080 ∷ Add 4 5 6 ∷ []
fresh = refl

copy : instrs_of 20 (Copy 2 (VariableOf 7) ∷ Copy 2 (NumberOf 0) ∷ []) ≡ Lw 5 28 4 ∷ Sw 5 8 4 ∷ Sw 0 8 4 ∷ []
copy = refl

-- 2047 is one word, 2048 and every larger number two: the lower twelve bits are a signed number, and the upper ones are rounded
numbers : instrs_of 20 (Copy 2 (NumberOf 2047) ∷ Copy 2 (NumberOf 2048) ∷ Copy 2 (NumberOf 0xffffffff) ∷ [])
    ≡ Addi 5 0 2047 ∷ Sw 5 8 4 ∷ Lui 5 1 ∷ Addi 5 5 0xfffff800 ∷ Sw 5 8 4 ∷ Lui 5 0 ∷ Addi 5 5 0xffffffff ∷ Sw 5 8 4 ∷ []
numbers = refl

compute : instrs_of 20 (Compute 3 alu.Sub (VariableOf 1) (VariableOf 2) ∷ Compute 3 alu.Sll (VariableOf 1) (NumberOf 31) ∷ [])
    ≡ Lw 5 4 4 ∷ Lw 6 8 4 ∷ Sub 7 5 6 ∷ Sw 7 12 4 ∷ Lw 5 4 4 ∷ Slli 7 5 31 ∷ Sw 7 12 4 ∷ []
compute = refl

cut : instrs_of 20 (Cut 3 elem.Char (VariableOf 1) ∷ []) ≡ Lw 5 4 4 ∷ Slli 7 5 24 ∷ Srai 7 7 24 ∷ Sw 7 12 4 ∷ []
cut = refl

block_words : instrs_of 20 (Word 3 17 ∷ WordAt 3 (VariableOf 1) 6 ∷ []) ≡ Lw 7 68 3 ∷ Sw 7 12 4 ∷ Lw 5 4 4 ∷ Slli 5 5 2 ∷ Add 5 5 3 ∷ Lw 7 24 5 ∷ Sw 7 12 4 ∷ []
block_words = refl

learn : instrs_of 20 (Learn 3 csr.MaskNow ∷ []) ≡ Csrr 7 0xcc4 ∷ Sw 7 12 4 ∷ []
learn = refl

accesses : instrs_of 20 (Fetch 3 elem.Ushort (VariableOf 1) ∷ Write elem.Uchar (VariableOf 1) (NumberOf 0) ∷ []) ≡ Lw 5 4 4 ∷ Lhu 7 0 5 ∷ Sw 7 12 4 ∷ Lw 5 4 4 ∷ Sb 0 0 5 ∷ []
accesses = refl

-- a branch goes over the jump behind it, and the jump goes to the first word of its place, forward or back
branches : instrs_of 20 (Meets ∷ IfZero (VariableOf 1) 3 ∷ IfNot (VariableOf 1) 0 ∷ Goto 3 ∷ [])
    ≡ Join ∷ Lw 5 4 4 ∷ Bne 5 0 8 ∷ Jal 0 16 ∷ Lw 5 4 4 ∷ Beq 5 0 8 ∷ Jal 0 0xffffffe8 ∷ Jal 0 0 ∷ []
branches = refl

loops : instrs_of 20 (Enter ∷ Leaves (VariableOf 1) 3 ∷ Again 1 ∷ []) ≡ Lw 5 4 4 ∷ Bne 5 0 8 ∷ Jal 0 8 ∷ Jal 0 0xfffffff4 ∷ []
loops = refl

warps : instrs_of 20 (Parts (VariableOf 1) ∷ Meets ∷ Keeps (VariableOf 1) 2 ∷ Leave (NumberOf 0) ∷ [])
    ≡ Lw 5 4 4 ∷ Split 5 ∷ Join ∷ Lw 5 4 4 ∷ Lw 6 8 4 ∷ Pred 5 6 ∷ Tmc 0 ∷ []
warps = refl

spawns : instrs_of 20 (Spawns (VariableOf 1) 1 ∷ Waits 3 ∷ Trap (record { line = 1; col = 2 }) ∷ [])
    ≡ Lw 5 4 4 ∷ Lui 6 0x80000 ∷ Addi 6 6 16 ∷ Wspawn 5 6 ∷ Lui 5 0 ∷ Addi 5 5 3 ∷ Lw 6 0 3 ∷ Bar 5 6 ∷ Ebreak ∷ []
spawns = refl
