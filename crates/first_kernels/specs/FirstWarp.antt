use Rattle.std.specs.Prelude.{◌≡◌, ◌≢◌, ℕ, ◌+◌, ◌-◌, ◌*◌, ◌<◌, Bool, true, ◌&&◌, nat_le, nat_eq, if◌then◌else◌, List, length, slice_index, slice_index_or, slice_set, Option, Some, None, Result, Ok, Err, IsOk, replicate}
use Rattle.vx_base.specs.Bytes.{bytes_of, field_of, with_field}
use Rattle.vx_base.specs.Values.{fitted}
use Rattle.vx_base.specs.declared.types.Elem.TheVariants.{Char, Short}
use Rattle.vx_base.specs.declared.types.Size.{Size}
use Rattle.vx_base.specs.declared.types.Size.TheVariants.{One, Two}
use Rattle.vx_isa.specs.declared.instr.Instr.{Instr}
use Rattle.vx_isa.specs.declared.instr.LaneEffect.{LaneEffect}
use Rattle.vx_isa.specs.declared.instr.LaneEffect.TheVariants.{Write, Load, Store, Csr, Nothing}
use Rattle.first_kernels.specs.declared.warp.Lane.{Lane}
use Rattle.first_kernels.specs.declared.warp.WarpFault.{WarpFault}
use Rattle.first_kernels.specs.declared.warp.WarpFault.TheVariants.{OutsideMemory, NotStraight}
use Rattle.first_kernels.specs.FirstMemory.{stride, element_at}
use Rattle.first_kernels.specs.FirstLane.{Alone, memory_start, Steps, Ends}

-- the place in memory of some bytes at an address, where they lie wholly inside it
abbrev pub place_in : ℕ → ℕ → ℕ → Option ℕ
place_in size address bytes =
    if nat_le memory_start address && nat_le (address - memory_start + bytes) size then Some (address - memory_start) else None

-- a field extended to 32 bits by its sign or by zeros
abbrev pub extended : Size → Bool → ℕ → ℕ
extended One true value = fitted Char value
extended Two true value = fitted Short value
extended size signed value = value

-- the registers of a lane, and memory
pub record Held : Type 0 where
  pub registers : List ℕ
  pub memory : List ℕ

abbrev pub held : Lane → List ℕ → Held
held lane memory = record { registers = lane.registers; memory = memory }

-- registers with a value in one of them; x0 keeps 0
abbrev pub set_register : ℕ → ℕ → List ℕ → List ℕ
set_register rd value registers = if nat_eq rd 0 then registers else slice_set registers rd value

abbrev pub with_register : ℕ → ℕ → Held → Held
with_register rd value s = record { registers = set_register rd value s.registers; memory = s.memory }

-- the lane once a field is loaded from a place of memory
abbrev pub loaded : ℕ → Size → Bool → Held → Option ℕ → Result Held WarpFault
loaded rd size signed s (Some at) = Ok (with_register rd (extended size signed (field_of s.memory at (bytes_of size))) s)
loaded rd size signed s None = Err OutsideMemory

-- memory once a field is stored at a place of it
abbrev pub stored : Size → ℕ → List ℕ → Option ℕ → Result (List ℕ) WarpFault
stored size value memory (Some at) = Ok (with_field memory at (bytes_of size) value)
stored size value memory None = Err OutsideMemory

abbrev pub with_memory : List ℕ → Result (List ℕ) WarpFault → Result Held WarpFault
with_memory registers (Ok memory) = Ok (record { registers = registers; memory = memory })
with_memory registers (Err fault) = Err fault

-- what the effect leaves of a lane's registers and of memory, where the lane has this number
abbrev pub carried : ℕ → LaneEffect → Held → Result Held WarpFault
carried lane (Write rd value) s = Ok (with_register rd value s)
carried lane (Load rd address size signed) s = loaded rd size signed s (place_in (length s.memory) address (bytes_of size))
carried lane (Store address size value) s = with_memory s.registers (stored size value s.memory (place_in (length s.memory) address (bytes_of size)))
carried lane (Csr rd csr) s = if nat_eq csr 0xcc0 then Ok (with_register rd lane s) else Err NotStraight
carried lane Nothing s = Ok s
carried lane effect s = Err NotStraight

-- a lane that has done nothing yet
abbrev pub idle : Lane
idle = record { registers = replicate 32 0 }

-- the lane's registers, and its own element of each buffer, are those that it has by itself
pub record StandsAs (items buffers lane : ℕ) (registers memory : List ℕ) (s : Alone) : Type 0 where
  pub values : (r : ℕ) → slice_index registers r ≡ s.registers r
  pub elements : (buffer : ℕ) → buffer < buffers → element_at memory items lane buffer ≡ s.words buffer

-- each of the lanes stands so
abbrev pub AllStandAs : ℕ → ℕ → List Lane → List ℕ → (ℕ → Alone) → Type 0
AllStandAs items buffers lanes memory alone =
    (lane : ℕ) → lane < items → StandsAs items buffers lane (slice_index_or lanes lane idle).registers memory (alone lane)

-- there is a lane for each item, at least one, and memory is that of the buffers
pub record Fits (items buffers : ℕ) (lanes : List Lane) (memory : List ℕ) : Type 0 where
  pub some : 0 < items
  pub one_each : length lanes ≡ items
  pub whole : length memory ≡ buffers * stride items

-- the elements of each other lane are the same
abbrev pub OthersKeep : ℕ → ℕ → ℕ → List ℕ → List ℕ → Type 0
OthersKeep items buffers lane memory memory' =
    (other buffer : ℕ) → other ≢ lane → other < items → buffer < buffers → element_at memory' items other buffer ≡ element_at memory items other buffer

-- where the lane by itself comes from one state to another by the instruction, it does so among the others
abbrev pub StepAmongOthers : Instr → ℕ → Lane → List ℕ → Result Unit WarpFault → Lane → List ℕ → Type 0
StepAmongOthers i number lane memory result lane' memory' =
    (items buffers : ℕ) (s t : Alone) → number < items → length memory ≡ buffers * stride items →
    StandsAs items buffers number lane.registers memory s → Steps items buffers number i s t →
    IsOk result × StandsAs items buffers number lane'.registers memory' t × OthersKeep items buffers number memory memory'

-- Where each lane by itself comes from one state to another by the instruction, all lanes together do.
abbrev pub StepTogether : Instr → List Lane → List ℕ → Result Unit WarpFault → List Lane → List ℕ → Type 0
StepTogether i lanes memory result lanes' memory' =
    (items buffers : ℕ) (before after : ℕ → Alone) → Fits items buffers lanes memory →
    AllStandAs items buffers lanes memory before →
    ((lane : ℕ) → lane < items → Steps items buffers lane i (before lane) (after lane)) →
    IsOk result × AllStandAs items buffers lanes' memory' after

-- Where each lane by itself comes from one state to another up to the end of the warp, all lanes together do.
abbrev pub EndTogether : List Instr → List Lane → List ℕ → Result Unit WarpFault → List Lane → List ℕ → Type 0
EndTogether code lanes memory result lanes' memory' =
    (items buffers : ℕ) (before after : ℕ → Alone) → Fits items buffers lanes memory →
    AllStandAs items buffers lanes memory before →
    ((lane : ℕ) → lane < items → Ends items buffers lane code (before lane) (after lane)) →
    IsOk result × AllStandAs items buffers lanes' memory' after
