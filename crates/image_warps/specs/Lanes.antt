-- What stands around the lanes of a warp at machine words, how a lane's registers and frame stand for the registers of the code, and what the
-- lane's accesses make of its frame.
use Rattle.std.specs.Prelude.{◌≡◌, ℕ, ◌+◌, ◌*◌, ◌%◌, ◌^◌, ◌<◌, ◌≤◌, Bool, true, nat_eq, if◌then◌else◌, List, [], ◌∷◌}
use Rattle.vx_base.specs.declared.types.Size.{Size}
use Rattle.vx_base.specs.declared.types.Size.TheVariants.{Four}
use Rattle.item_acts.specs.declared.acts.Action.TheVariants.{Load, Store}
use Rattle.item_acts.specs.Launches.{put_at}
use Rattle.item_acts.specs.Machine.{Step, Ask}
use Rattle.vx_base.specs.Bytes.{bytes_of}
use Rattle.vx_layout.specs.Addresses.{Where, Block, Own, Array, block_start, block_words, frame_of}
use Rattle.vx_isa.specs.WarpSteps.{Access, Reads, Writes, Fields, LaneAccess}
use Rattle.vcode.specs.Code.{VOp, Fresh}
use Rattle.vcode.specs.Machine.{Lane}
use Rattle.mask_laws.specs.Clean.{wrote}
use Rattle.warp_code.specs.Warps.{Crew}
use Rattle.reg_alloc.specs.Plain.{Held, block_base, frame_base}

-- What stands around the lanes: what stands around the warp, the fields that are in the memory, what an address names to each lane, and how
-- many words a frame has.
pub record Ground : Type 0 where
  pub crew : Crew
  pub has : Fields
  pub at : ℕ → ℕ → Where
  pub slots : ℕ

-- the first byte of the frame of a lane
abbrev pub frame_start : Ground → ℕ → ℕ
frame_start g l = frame_of g.crew.ids.warp g.crew.ids.lanes l g.slots

-- The launch block and the frame of each lane stand where the words look for them, and in the memory. What the warp can be told is words.
pub record Laid (g : Ground) : Type 0 where
  pub slots : g.slots ≤ 256
  pub warp : g.crew.ids.warp < 16
  pub lanes : g.crew.ids.lanes ≤ 32
  pub core : g.crew.ids.core < 2 ^ 32
  pub count : g.crew.block 15 ≡ g.crew.ids.lanes
  pub words : (k : ℕ) → g.crew.block k < 2 ^ 32
  pub block_word : (l k : ℕ) → l < 32 → k < block_words → g.at l (block_start + 4 * k) ≡ Block k
  pub block_in : (k : ℕ) → k < block_words → g.has (block_start + 4 * k) Four ≡ true
  pub own_word : (l r : ℕ) → l < 32 → r < g.slots → g.at l (frame_start g l + 4 * r) ≡ Own r
  pub own_in : (l r : ℕ) → l < 32 → r < g.slots → g.has (frame_start g l + 4 * r) Four ≡ true

-- ---- registers

-- What is known of a lane: the registers that it has written since it began, and whether it has made its base registers since.
pub record Known : Type 0 where
  pub written : ℕ → Bool
  pub based : Bool

abbrev pub makes_base : VOp → Bool → Bool
makes_base Fresh based = true
makes_base op based = based

-- behind an operation
abbrev pub known_behind : VOp → Known → Known
known_behind op k = record { written = wrote op k.written; based = makes_base op k.based }

-- The registers of the code, as far as they were written, are in the frame, a word each; and the base registers have the addresses of the launch
-- block and of the frame.
pub record Same (g : Ground) (l : ℕ) (k : Known) (rs : ℕ → ℕ) (h : Held) : Type 0 where
  pub kept : (r : ℕ) → r < g.slots → k.written r ≡ true → h.frame r ≡ rs r
  pub words : (r : ℕ) → h.frame r < 2 ^ 32
  pub block : k.based ≡ true → h.registers block_base ≡ block_start
  pub frame : k.based ≡ true → h.registers frame_base ≡ frame_start g l

-- ---- accesses

-- what one lane accesses in a step
abbrev pub of_lane : ℕ → List LaneAccess → List Access
of_lane l [] = []
of_lane l (a ∷ rest) = if nat_eq a.lane l then a.access ∷ of_lane l rest else of_lane l rest

-- the frame once the lane's stores to its words are done
abbrev pub stored : Where → Size → ℕ → (ℕ → ℕ) → ℕ → ℕ
stored (Own r) Four v frame = put_at r v frame
stored other size v frame = frame

abbrev pub frame_behind : (ℕ → Where) → List Access → (ℕ → ℕ) → ℕ → ℕ
frame_behind at [] frame = frame
frame_behind at (Reads a size answer ∷ rest) frame = frame_behind at rest frame
frame_behind at (Writes a size v ∷ rest) frame = frame_behind at rest (stored (at a) size v frame)

-- a read of a word of the launch block, or of the lane's frame, is answered what stands there
abbrev pub IsAnswered : (ℕ → ℕ) → (ℕ → ℕ) → Where → Size → ℕ → Type 0
IsAnswered block frame (Block k) Four answer = answer % 2 ^ 32 ≡ block k % 2 ^ 32
IsAnswered block frame (Own r) Four answer = answer % 2 ^ 32 ≡ frame r % 2 ^ 32
IsAnswered block frame other size answer = Unit {0}

abbrev pub AreAnswered : (ℕ → Where) → (ℕ → ℕ) → (ℕ → ℕ) → List Access → Type 0
AreAnswered at block frame [] = Unit {0}
AreAnswered at block frame (Reads a size answer ∷ rest) = IsAnswered block frame (at a) size answer × AreAnswered at block frame rest
AreAnswered at block frame (Writes a size v ∷ rest) = AreAnswered at block frame rest

-- a word of the launch block is read, or a word of the lane's own frame is read or written: the lane asks for nothing
abbrev pub IsRead : Where → Size → Type 0
IsRead (Block k) Four = Unit {0}
IsRead (Own r) Four = Unit {0}
IsRead other size = ⊥

abbrev pub IsWritten : Where → Size → Type 0
IsWritten (Own r) Four = Unit {0}
IsWritten other size = ⊥

abbrev pub AsksNothing : (ℕ → Where) → List Access → Type 0
AsksNothing at [] = Unit {0}
AsksNothing at (Reads a size answer ∷ rest) = IsRead (at a) size × AsksNothing at rest
AsksNothing at (Writes a size v ∷ rest) = IsWritten (at a) size × AsksNothing at rest

-- What a lane accesses in a step is what it asks for in a step alone: a load of a byte's place, a store to it, or nothing.
abbrev pub AsksAlike : (ℕ → Where) → ℕ → Step Lane → List Access → Type 0
AsksAlike at answer (Ask (Load place size) next) accesses = (a : ℕ) × (at a ≡ Array place) × (accesses ≡ Reads a size answer ∷ [])
AsksAlike at answer (Ask (Store place size v) next) accesses =
    (a : ℕ) × ((u : ℕ) × ((at a ≡ Array place) × (u % 2 ^ (8 * bytes_of size) ≡ v) × (accesses ≡ Writes a size u ∷ [])))
AsksAlike at answer other accesses = AsksNothing at accesses
