-- What a lane does alone at machine words: each instruction is what it is to the lane by itself, and what a warp does with its lanes together
-- passes it by.
use Rattle.std.specs.Prelude.{ℕ, ◌-◌, ◌*◌, ◌%◌, ◌^◌, Bool, false, nat_eq, if◌then◌else◌, List, [], ◌∷◌, Option, None, Some, Result, Ok, Err}
use Rattle.vx_base.specs.Bytes.{bytes_of}
use Rattle.vx_base.specs.declared.types.Pos.{Pos}
use Rattle.vx_base.specs.declared.types.Size.{Size}
use Rattle.vx_base.specs.declared.types.Size.TheVariants.{Four}
use Rattle.item_acts.specs.declared.acts.Action.TheVariants.{Load, Store, Barrier, Fault, End}
use Rattle.item_acts.specs.Launches.{put_at}
use Rattle.item_acts.specs.Machine.{Step, Go, Ask, Stop}
use Rattle.step_machine.specs.Stacks.{top, under}
use Rattle.vx_layout.specs.Addresses.{Where, Block, Own, Array, Nowhere}
use Rattle.vx_isa.specs.Effects.{address_at, effect_of}
use Rattle.vx_isa.specs.Operands.{rs1_of, rs2_of}
use Rattle.vx_isa.specs.Warps.{Registers, has_lane, loaded, value_in, with_register}
use Rattle.vx_isa.specs.WarpSteps.{code_start, fetched}
use Rattle.vx_isa.specs.declared.image.Site.{Site}
use Rattle.vx_isa.specs.declared.instr.Instr.{Instr}
use Rattle.vx_isa.specs.declared.instr.Instr.TheVariants as instr
use Rattle.vx_isa.specs.declared.instr.LaneEffect.{LaneEffect}
use Rattle.vx_isa.specs.declared.instr.LaneEffect.TheVariants as effect
use Rattle.vx_isa.specs.declared.warps.MachineTrap.{MachineTrap}
use Rattle.vx_isa.specs.declared.warps.MachineTrap.TheVariants as trap

-- What stands around the lane: the code and its checks, the words of its launch block, its warp, its number in the warp, and what an address
-- names to it.
pub record Setting : Type 0 where
  pub words : List ℕ
  pub sites : List Site
  pub block : ℕ → ℕ
  pub warp : ℕ
  pub number : ℕ
  pub at : ℕ → Where

-- A lane: the address of its next instruction, its registers, the words of its frame, and what the control registers of the core and of the
-- mask answer it from now on.
pub record ImageLane : Type 0 where
  pub pc : ℕ
  pub registers : Registers
  pub frame : ℕ → ℕ
  pub numbers : List ℕ

abbrev pub image_lane : ℕ → Registers → (ℕ → ℕ) → List ℕ → ImageLane
image_lane pc xs frame ns = record { pc = pc; registers = xs; frame = frame; numbers = ns }

-- the lane goes on at an address, with a value in a register or a word of its frame, or as it is
abbrev pub goes : ℕ → ImageLane → ImageLane
goes pc s = image_lane pc s.registers s.frame s.numbers

abbrev pub goes_with : ℕ → ℕ → ℕ → ImageLane → ImageLane
goes_with pc rd v s = image_lane pc (with_register rd v s.registers) s.frame s.numbers

abbrev pub next_pc : ImageLane → ℕ
next_pc s = address_at s.pc 4

-- ---- memory. A word of the launch block and a word of the frame are read whole, and the frame is written so; at any other field of them, and
-- at an address that names nothing, the lane stands for ever.

abbrev pub read_word : Size → ℕ → ℕ → ImageLane → Step ImageLane
read_word Four rd v s = Go (goes_with (next_pc s) rd (loaded Four false v) s)
read_word size rd v s = Go s

abbrev pub load_from : Setting → ℕ → Where → Size → Bool → ImageLane → Step ImageLane
load_from k rd (Block w) size signed s = read_word size rd (k.block w) s
load_from k rd (Own r) size signed s = read_word size rd (s.frame r) s
load_from k rd (Array place) size signed s = Ask (Load place size) (λ answer. goes_with (next_pc s) rd (loaded size signed answer) s)
load_from k rd Nowhere size signed s = Go s

abbrev pub write_word : Size → ℕ → ℕ → ImageLane → Step ImageLane
write_word Four r v s = Go (image_lane (next_pc s) s.registers (put_at r v s.frame) s.numbers)
write_word size r v s = Go s

abbrev pub store_to : Where → Size → ℕ → ImageLane → Step ImageLane
store_to (Own r) size v s = write_word size r v s
store_to (Array place) size v s = Ask (Store place size (v % 2 ^ (8 * bytes_of size))) (λ answer. goes (next_pc s) s)
store_to other size v s = Go s

-- ---- the rest

-- where the check at a distance from the first word stands in the source; at an `ebreak` that is no check the lane stands for ever
abbrev pub position : List Site → ℕ → Option Pos
position [] d = None
position (site ∷ sites) d = if nat_eq site.pc d then Some site.pos else position sites d

abbrev pub faults : Option Pos → ImageLane → Step ImageLane
faults None s = Go s
faults (Some pos) s = Stop (Fault pos)

abbrev pub learns : Setting → ℕ → ℕ → ImageLane → ImageLane
learns k rd csr s =
    if nat_eq csr 0xcc0 then goes_with (next_pc s) rd k.number s
    else if nat_eq csr 0xcc1 then goes_with (next_pc s) rd k.warp s
    else image_lane (next_pc s) (with_register rd (top s.numbers) s.registers) s.frame (under s.numbers)

abbrev pub effect_step : Setting → LaneEffect → ImageLane → Step ImageLane
effect_step k (effect.Write rd v) s = Go (goes_with (next_pc s) rd v s)
effect_step k (effect.Load rd address size signed) s = load_from k rd (k.at address) size signed s
effect_step k (effect.Store address size v) s = store_to (k.at address) size v s
effect_step k (effect.Branch taken target) s = Go (goes (if taken then target else next_pc s) s)
effect_step k (effect.Jump rd link target) s = Go (goes_with target rd link s)
effect_step k effect.Break s = faults (position k.sites (s.pc - code_start)) s
effect_step k (effect.Csr rd csr) s = Go (learns k rd csr s)
effect_step k e s = Go (goes (next_pc s) s)

-- A lane ends with a mask that leaves it out. At a barrier it waits for the number in the first register; in which turn of its loops it is there
-- is not in the words.
abbrev pub instr_step : Setting → Instr → ImageLane → Step ImageLane
instr_step k (instr.Tmc rs1) s = if has_lane (value_in s.registers rs1) k.number then Go (goes (next_pc s) s) else Stop End
instr_step k (instr.Bar rs1 rs2) s = Ask (Barrier (record { site = value_in s.registers rs1; turns = [] })) (λ answer. goes (next_pc s) s)
instr_step k i s = effect_step k (effect_of i s.pc (value_in s.registers (rs1_of i)) (value_in s.registers (rs2_of i))) s

-- a lane behind the last word asks for its end; at a word that is no instruction it stands for ever
abbrev pub fetched_step : Setting → Result Instr MachineTrap → ImageLane → Step ImageLane
fetched_step k (Ok i) s = instr_step k i s
fetched_step k (Err trap.Bus) s = Stop End
fetched_step k (Err other) s = Go s

-- one step of the lane
abbrev pub image_step : Setting → ImageLane → Step ImageLane
image_step k s = fetched_step k (fetched k.words s.pc) s
