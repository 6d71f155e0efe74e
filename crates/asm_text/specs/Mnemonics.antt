-- The table of the assembly text: what each mnemonic is called, what stands behind it, and the instruction that it makes.
use Rattle.std.specs.Prelude.{ℕ, List, [], ◌∷◌, codes, Option, Some, None}
use Rattle.vx_isa.specs.declared.instr.Instr.{Instr}
use Rattle.vx_isa.specs.declared.instr.Instr.TheVariants as instr
use Rattle.asm_text.specs.declared.mnemonics.Mnemonic.{Mnemonic}
use Rattle.asm_text.specs.declared.mnemonics.Mnemonic.TheVariants.{Lui, Auipc, Jal, Jalr, Beq, Bne, Blt, Bge, Bltu, Bgeu, Lb, Lh, Lw, Lbu, Lhu, Sb, Sh, Sw, Addi, Slti, Sltiu, Xori, Ori, Andi, Slli, Srli, Srai, Add, Sub, Sll, Slt, Sltu, Xor, Srl, Sra, Or, And, Mul, Mulh, Mulhsu, Mulhu, Div, Divu, Rem, Remu, Fence, Ebreak, Csrr, Tmc, Wspawn, Split, Join, Bar, Pred, Word}
use Rattle.asm_text.specs.declared.mnemonics.Form.{Form}
use Rattle.asm_text.specs.declared.mnemonics.Form.TheVariants as form
use Rattle.asm_text.specs.declared.mnemonics.Field.TheVariants as field
use Rattle.asm_text.specs.declared.mnemonics.Part.{Part}
use Rattle.asm_text.specs.declared.mnemonics.Part.TheVariants.{Register, Number, Place, Comma, Open, Close}
use Rattle.asm_text.specs.declared.mnemonics.Operands.{Operands}

-- how a text writes a mnemonic
abbrev pub name_of : Mnemonic → List ℕ
name_of Lui = codes "lui"
name_of Auipc = codes "auipc"
name_of Jal = codes "jal"
name_of Jalr = codes "jalr"
name_of Beq = codes "beq"
name_of Bne = codes "bne"
name_of Blt = codes "blt"
name_of Bge = codes "bge"
name_of Bltu = codes "bltu"
name_of Bgeu = codes "bgeu"
name_of Lb = codes "lb"
name_of Lh = codes "lh"
name_of Lw = codes "lw"
name_of Lbu = codes "lbu"
name_of Lhu = codes "lhu"
name_of Sb = codes "sb"
name_of Sh = codes "sh"
name_of Sw = codes "sw"
name_of Addi = codes "addi"
name_of Slti = codes "slti"
name_of Sltiu = codes "sltiu"
name_of Xori = codes "xori"
name_of Ori = codes "ori"
name_of Andi = codes "andi"
name_of Slli = codes "slli"
name_of Srli = codes "srli"
name_of Srai = codes "srai"
name_of Add = codes "add"
name_of Sub = codes "sub"
name_of Sll = codes "sll"
name_of Slt = codes "slt"
name_of Sltu = codes "sltu"
name_of Xor = codes "xor"
name_of Srl = codes "srl"
name_of Sra = codes "sra"
name_of Or = codes "or"
name_of And = codes "and"
name_of Mul = codes "mul"
name_of Mulh = codes "mulh"
name_of Mulhsu = codes "mulhsu"
name_of Mulhu = codes "mulhu"
name_of Div = codes "div"
name_of Divu = codes "divu"
name_of Rem = codes "rem"
name_of Remu = codes "remu"
name_of Fence = codes "fence"
name_of Ebreak = codes "ebreak"
name_of Csrr = codes "csrr"
name_of Tmc = codes "tmc"
name_of Wspawn = codes "wspawn"
name_of Split = codes "split"
name_of Join = codes "join"
name_of Bar = codes "bar"
name_of Pred = codes "pred"
name_of Word = codes ".word"

-- what stands behind it
abbrev pub form_of : Mnemonic → Form
form_of Lui = form.Upper
form_of Auipc = form.Upper
form_of Jal = form.Jump
form_of Jalr = form.Memory
form_of Beq = form.Branch
form_of Bne = form.Branch
form_of Blt = form.Branch
form_of Bge = form.Branch
form_of Bltu = form.Branch
form_of Bgeu = form.Branch
form_of Lb = form.Memory
form_of Lh = form.Memory
form_of Lw = form.Memory
form_of Lbu = form.Memory
form_of Lhu = form.Memory
form_of Sb = form.Memory
form_of Sh = form.Memory
form_of Sw = form.Memory
form_of Addi = form.Immediate
form_of Slti = form.Immediate
form_of Sltiu = form.Immediate
form_of Xori = form.Immediate
form_of Ori = form.Immediate
form_of Andi = form.Immediate
form_of Slli = form.Shift
form_of Srli = form.Shift
form_of Srai = form.Shift
form_of Add = form.ThreeRegisters
form_of Sub = form.ThreeRegisters
form_of Sll = form.ThreeRegisters
form_of Slt = form.ThreeRegisters
form_of Sltu = form.ThreeRegisters
form_of Xor = form.ThreeRegisters
form_of Srl = form.ThreeRegisters
form_of Sra = form.ThreeRegisters
form_of Or = form.ThreeRegisters
form_of And = form.ThreeRegisters
form_of Mul = form.ThreeRegisters
form_of Mulh = form.ThreeRegisters
form_of Mulhsu = form.ThreeRegisters
form_of Mulhu = form.ThreeRegisters
form_of Div = form.ThreeRegisters
form_of Divu = form.ThreeRegisters
form_of Rem = form.ThreeRegisters
form_of Remu = form.ThreeRegisters
form_of Fence = form.Fence
form_of Ebreak = form.Bare
form_of Csrr = form.Csr
form_of Tmc = form.OneRegister
form_of Wspawn = form.TwoRegisters
form_of Split = form.OneRegister
form_of Join = form.Bare
form_of Bar = form.TwoRegisters
form_of Pred = form.TwoRegisters
form_of Word = form.Word

-- the parts of a statement of each form, in order
abbrev pub parts_of : Form → List Part
parts_of form.ThreeRegisters = Register ∷ Comma ∷ Register ∷ Comma ∷ Register ∷ []
parts_of form.Immediate = Register ∷ Comma ∷ Register ∷ Comma ∷ Number field.Immediate ∷ []
parts_of form.Shift = Register ∷ Comma ∷ Register ∷ Comma ∷ Number field.Amount ∷ []
parts_of form.Memory = Register ∷ Comma ∷ Number field.Immediate ∷ Open ∷ Register ∷ Close ∷ []
parts_of form.Branch = Register ∷ Comma ∷ Register ∷ Comma ∷ Place field.Branch ∷ []
parts_of form.Upper = Register ∷ Comma ∷ Number field.Upper ∷ []
parts_of form.Jump = Register ∷ Comma ∷ Place field.Jump ∷ []
parts_of form.Fence = Number field.FenceSet ∷ Comma ∷ Number field.FenceSet ∷ []
parts_of form.Csr = Register ∷ Comma ∷ Number field.Csr ∷ []
parts_of form.OneRegister = Register ∷ []
parts_of form.TwoRegisters = Register ∷ Comma ∷ Register ∷ []
parts_of form.Bare = []
parts_of form.Word = Number field.Word ∷ []

-- some operands and one more, of which the last three stay
abbrev pub with_operand : Operands → ℕ → Operands
with_operand o value = record { first = o.second; second = o.third; third = value }

-- the instruction with these operands; `.word` is none
abbrev pub instr_of : Mnemonic → Operands → Option Instr
instr_of Lui o = Some (instr.Lui o.second o.third)
instr_of Auipc o = Some (instr.Auipc o.second o.third)
instr_of Jal o = Some (instr.Jal o.second o.third)
instr_of Jalr o = Some (instr.Jalr o.first o.second o.third)
instr_of Beq o = Some (instr.Beq o.first o.second o.third)
instr_of Bne o = Some (instr.Bne o.first o.second o.third)
instr_of Blt o = Some (instr.Blt o.first o.second o.third)
instr_of Bge o = Some (instr.Bge o.first o.second o.third)
instr_of Bltu o = Some (instr.Bltu o.first o.second o.third)
instr_of Bgeu o = Some (instr.Bgeu o.first o.second o.third)
instr_of Lb o = Some (instr.Lb o.first o.second o.third)
instr_of Lh o = Some (instr.Lh o.first o.second o.third)
instr_of Lw o = Some (instr.Lw o.first o.second o.third)
instr_of Lbu o = Some (instr.Lbu o.first o.second o.third)
instr_of Lhu o = Some (instr.Lhu o.first o.second o.third)
instr_of Sb o = Some (instr.Sb o.first o.second o.third)
instr_of Sh o = Some (instr.Sh o.first o.second o.third)
instr_of Sw o = Some (instr.Sw o.first o.second o.third)
instr_of Addi o = Some (instr.Addi o.first o.second o.third)
instr_of Slti o = Some (instr.Slti o.first o.second o.third)
instr_of Sltiu o = Some (instr.Sltiu o.first o.second o.third)
instr_of Xori o = Some (instr.Xori o.first o.second o.third)
instr_of Ori o = Some (instr.Ori o.first o.second o.third)
instr_of Andi o = Some (instr.Andi o.first o.second o.third)
instr_of Slli o = Some (instr.Slli o.first o.second o.third)
instr_of Srli o = Some (instr.Srli o.first o.second o.third)
instr_of Srai o = Some (instr.Srai o.first o.second o.third)
instr_of Add o = Some (instr.Add o.first o.second o.third)
instr_of Sub o = Some (instr.Sub o.first o.second o.third)
instr_of Sll o = Some (instr.Sll o.first o.second o.third)
instr_of Slt o = Some (instr.Slt o.first o.second o.third)
instr_of Sltu o = Some (instr.Sltu o.first o.second o.third)
instr_of Xor o = Some (instr.Xor o.first o.second o.third)
instr_of Srl o = Some (instr.Srl o.first o.second o.third)
instr_of Sra o = Some (instr.Sra o.first o.second o.third)
instr_of Or o = Some (instr.Or o.first o.second o.third)
instr_of And o = Some (instr.And o.first o.second o.third)
instr_of Mul o = Some (instr.Mul o.first o.second o.third)
instr_of Mulh o = Some (instr.Mulh o.first o.second o.third)
instr_of Mulhsu o = Some (instr.Mulhsu o.first o.second o.third)
instr_of Mulhu o = Some (instr.Mulhu o.first o.second o.third)
instr_of Div o = Some (instr.Div o.first o.second o.third)
instr_of Divu o = Some (instr.Divu o.first o.second o.third)
instr_of Rem o = Some (instr.Rem o.first o.second o.third)
instr_of Remu o = Some (instr.Remu o.first o.second o.third)
instr_of Fence o = Some (instr.Fence o.second o.third)
instr_of Ebreak o = Some instr.Ebreak
instr_of Csrr o = Some (instr.Csrr o.second o.third)
instr_of Tmc o = Some (instr.Tmc o.third)
instr_of Wspawn o = Some (instr.Wspawn o.second o.third)
instr_of Split o = Some (instr.Split o.third)
instr_of Join o = Some instr.Join
instr_of Bar o = Some (instr.Bar o.second o.third)
instr_of Pred o = Some (instr.Pred o.second o.third)
instr_of Word o = None

-- the mnemonic of an instruction, and its operands
abbrev pub mnemonic_of : Instr → Mnemonic
mnemonic_of (instr.Lui rd imm) = Lui
mnemonic_of (instr.Auipc rd imm) = Auipc
mnemonic_of (instr.Jal rd place) = Jal
mnemonic_of (instr.Jalr rd imm rs1) = Jalr
mnemonic_of (instr.Beq rs1 rs2 place) = Beq
mnemonic_of (instr.Bne rs1 rs2 place) = Bne
mnemonic_of (instr.Blt rs1 rs2 place) = Blt
mnemonic_of (instr.Bge rs1 rs2 place) = Bge
mnemonic_of (instr.Bltu rs1 rs2 place) = Bltu
mnemonic_of (instr.Bgeu rs1 rs2 place) = Bgeu
mnemonic_of (instr.Lb rd imm rs1) = Lb
mnemonic_of (instr.Lh rd imm rs1) = Lh
mnemonic_of (instr.Lw rd imm rs1) = Lw
mnemonic_of (instr.Lbu rd imm rs1) = Lbu
mnemonic_of (instr.Lhu rd imm rs1) = Lhu
mnemonic_of (instr.Sb rs2 imm rs1) = Sb
mnemonic_of (instr.Sh rs2 imm rs1) = Sh
mnemonic_of (instr.Sw rs2 imm rs1) = Sw
mnemonic_of (instr.Addi rd rs1 imm) = Addi
mnemonic_of (instr.Slti rd rs1 imm) = Slti
mnemonic_of (instr.Sltiu rd rs1 imm) = Sltiu
mnemonic_of (instr.Xori rd rs1 imm) = Xori
mnemonic_of (instr.Ori rd rs1 imm) = Ori
mnemonic_of (instr.Andi rd rs1 imm) = Andi
mnemonic_of (instr.Slli rd rs1 amount) = Slli
mnemonic_of (instr.Srli rd rs1 amount) = Srli
mnemonic_of (instr.Srai rd rs1 amount) = Srai
mnemonic_of (instr.Add rd rs1 rs2) = Add
mnemonic_of (instr.Sub rd rs1 rs2) = Sub
mnemonic_of (instr.Sll rd rs1 rs2) = Sll
mnemonic_of (instr.Slt rd rs1 rs2) = Slt
mnemonic_of (instr.Sltu rd rs1 rs2) = Sltu
mnemonic_of (instr.Xor rd rs1 rs2) = Xor
mnemonic_of (instr.Srl rd rs1 rs2) = Srl
mnemonic_of (instr.Sra rd rs1 rs2) = Sra
mnemonic_of (instr.Or rd rs1 rs2) = Or
mnemonic_of (instr.And rd rs1 rs2) = And
mnemonic_of (instr.Mul rd rs1 rs2) = Mul
mnemonic_of (instr.Mulh rd rs1 rs2) = Mulh
mnemonic_of (instr.Mulhsu rd rs1 rs2) = Mulhsu
mnemonic_of (instr.Mulhu rd rs1 rs2) = Mulhu
mnemonic_of (instr.Div rd rs1 rs2) = Div
mnemonic_of (instr.Divu rd rs1 rs2) = Divu
mnemonic_of (instr.Rem rd rs1 rs2) = Rem
mnemonic_of (instr.Remu rd rs1 rs2) = Remu
mnemonic_of (instr.Fence before after) = Fence
mnemonic_of instr.Ebreak = Ebreak
mnemonic_of (instr.Csrr rd csr) = Csrr
mnemonic_of (instr.Tmc rs1) = Tmc
mnemonic_of (instr.Wspawn rs1 rs2) = Wspawn
mnemonic_of (instr.Split rs1) = Split
mnemonic_of instr.Join = Join
mnemonic_of (instr.Bar rs1 rs2) = Bar
mnemonic_of (instr.Pred rs1 rs2) = Pred

abbrev pub three : ℕ → ℕ → ℕ → Operands
three first second third = record { first = first; second = second; third = third }

abbrev pub operands_of : Instr → Operands
operands_of (instr.Lui rd imm) = three 0 rd imm
operands_of (instr.Auipc rd imm) = three 0 rd imm
operands_of (instr.Jal rd place) = three 0 rd place
operands_of (instr.Jalr rd imm rs1) = three rd imm rs1
operands_of (instr.Beq rs1 rs2 place) = three rs1 rs2 place
operands_of (instr.Bne rs1 rs2 place) = three rs1 rs2 place
operands_of (instr.Blt rs1 rs2 place) = three rs1 rs2 place
operands_of (instr.Bge rs1 rs2 place) = three rs1 rs2 place
operands_of (instr.Bltu rs1 rs2 place) = three rs1 rs2 place
operands_of (instr.Bgeu rs1 rs2 place) = three rs1 rs2 place
operands_of (instr.Lb rd imm rs1) = three rd imm rs1
operands_of (instr.Lh rd imm rs1) = three rd imm rs1
operands_of (instr.Lw rd imm rs1) = three rd imm rs1
operands_of (instr.Lbu rd imm rs1) = three rd imm rs1
operands_of (instr.Lhu rd imm rs1) = three rd imm rs1
operands_of (instr.Sb rs2 imm rs1) = three rs2 imm rs1
operands_of (instr.Sh rs2 imm rs1) = three rs2 imm rs1
operands_of (instr.Sw rs2 imm rs1) = three rs2 imm rs1
operands_of (instr.Addi rd rs1 imm) = three rd rs1 imm
operands_of (instr.Slti rd rs1 imm) = three rd rs1 imm
operands_of (instr.Sltiu rd rs1 imm) = three rd rs1 imm
operands_of (instr.Xori rd rs1 imm) = three rd rs1 imm
operands_of (instr.Ori rd rs1 imm) = three rd rs1 imm
operands_of (instr.Andi rd rs1 imm) = three rd rs1 imm
operands_of (instr.Slli rd rs1 amount) = three rd rs1 amount
operands_of (instr.Srli rd rs1 amount) = three rd rs1 amount
operands_of (instr.Srai rd rs1 amount) = three rd rs1 amount
operands_of (instr.Add rd rs1 rs2) = three rd rs1 rs2
operands_of (instr.Sub rd rs1 rs2) = three rd rs1 rs2
operands_of (instr.Sll rd rs1 rs2) = three rd rs1 rs2
operands_of (instr.Slt rd rs1 rs2) = three rd rs1 rs2
operands_of (instr.Sltu rd rs1 rs2) = three rd rs1 rs2
operands_of (instr.Xor rd rs1 rs2) = three rd rs1 rs2
operands_of (instr.Srl rd rs1 rs2) = three rd rs1 rs2
operands_of (instr.Sra rd rs1 rs2) = three rd rs1 rs2
operands_of (instr.Or rd rs1 rs2) = three rd rs1 rs2
operands_of (instr.And rd rs1 rs2) = three rd rs1 rs2
operands_of (instr.Mul rd rs1 rs2) = three rd rs1 rs2
operands_of (instr.Mulh rd rs1 rs2) = three rd rs1 rs2
operands_of (instr.Mulhsu rd rs1 rs2) = three rd rs1 rs2
operands_of (instr.Mulhu rd rs1 rs2) = three rd rs1 rs2
operands_of (instr.Div rd rs1 rs2) = three rd rs1 rs2
operands_of (instr.Divu rd rs1 rs2) = three rd rs1 rs2
operands_of (instr.Rem rd rs1 rs2) = three rd rs1 rs2
operands_of (instr.Remu rd rs1 rs2) = three rd rs1 rs2
operands_of (instr.Fence before after) = three 0 before after
operands_of instr.Ebreak = three 0 0 0
operands_of (instr.Csrr rd csr) = three 0 rd csr
operands_of (instr.Tmc rs1) = three 0 0 rs1
operands_of (instr.Wspawn rs1 rs2) = three 0 rs1 rs2
operands_of (instr.Split rs1) = three 0 0 rs1
operands_of instr.Join = three 0 0 0
operands_of (instr.Bar rs1 rs2) = three 0 rs1 rs2
operands_of (instr.Pred rs1 rs2) = three 0 rs1 rs2

-- the mnemonics, in the order of the table
abbrev pub all_mnemonics : List Mnemonic
all_mnemonics = Lui ∷ Auipc ∷ Jal ∷ Jalr ∷ Beq ∷ Bne ∷ Blt ∷ Bge ∷ Bltu ∷ Bgeu ∷ Lb ∷ Lh ∷ Lw ∷ Lbu ∷ Lhu ∷ Sb ∷ Sh ∷ Sw ∷ Addi ∷ Slti ∷ Sltiu ∷ Xori ∷ Ori ∷ Andi ∷ Slli ∷ Srli ∷ Srai ∷ Add ∷ Sub ∷ Sll ∷ Slt ∷ Sltu ∷ Xor ∷ Srl ∷ Sra ∷ Or ∷ And ∷ Mul ∷ Mulh ∷ Mulhsu ∷ Mulhu ∷ Div ∷ Divu ∷ Rem ∷ Remu ∷ Fence ∷ Ebreak ∷ Csrr ∷ Tmc ∷ Wspawn ∷ Split ∷ Join ∷ Bar ∷ Pred ∷ Word ∷ []
