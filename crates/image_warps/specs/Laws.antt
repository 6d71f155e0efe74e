-- The law of a warp at the words of operations: in one step it makes a word of an operation's block, in which no lane asks for anything; or the
-- word by which the operation is made, exactly one step of the warp of the code, with the same answers; or it traps at a failed check.
use Rattle.std.specs.Prelude.{◌≡◌, ℕ, ◌^◌, ◌<◌, ◌≤◌, true, false, if◌then◌else◌, List, [], ◌∷◌, drop}
use Rattle.vx_base.specs.declared.types.Pos.{Pos}
use Rattle.vx_base.specs.Bytes.{bytes_of}
use Rattle.item_acts.specs.declared.acts.Place.{Place}
use Rattle.vx_layout.specs.Addresses.{frame_of, has_field, where_at}
use Rattle.vx_layout.specs.Blocks.{block_of}
use Rattle.vx_layout.specs.Launching.{Accepted, Plan, group_count, map_of}
use Rattle.vx_layout.specs.Located.{Located}
use Rattle.vx_isa.specs.Warps.{Registers, has_lane, leader, started}
use Rattle.vx_isa.specs.WarpSteps.{Stepped}
use Rattle.vx_isa.specs.declared.warps.MachineTrap.TheVariants as trap
use Rattle.vx_isa.specs.declared.warps.Step.TheVariants as step
use Rattle.vcode.specs.Code.{VOp, Enter, Trap}
use Rattle.vcode.specs.Words.{words}
use Rattle.simt_lowering.specs.Bounds.{AreWithin}
use Rattle.warp_code.specs.Warps as code
use Rattle.warp_code.specs.Warps.{VWarp, warp_start, warp_step}
use Rattle.image_warps.specs.Lanes.{Ground, Laid, Known, known_behind, of_lane, frame_behind, AreAnswered, AsksNothing, AsksAlike}
use Rattle.image_warps.specs.Warps.{Position, Along, Stands, address_of_place, image_step, image_warp, outcome_at, word_at}
use Rattle.image_warps.specs.Premises.{InOrder, TakesWord}

-- the frames of the lanes behind a step
abbrev pub frames_behind : Ground → Stepped → (ℕ → ℕ → ℕ) → ℕ → ℕ → ℕ
frames_behind g s frames l = frame_behind (g.at l) (of_lane l s.accesses) (frames l)

-- reads of the launch block and of frames are answered what stands there
abbrev pub FramesAnswer : Ground → Stepped → (ℕ → ℕ → ℕ) → Type 0
FramesAnswer g s frames = (l : ℕ) → l < 32 → AreAnswered (g.at l) g.crew.block (frames l) (of_lane l s.accesses)

-- what is known of each lane behind an operation
abbrev pub all_known : VOp → VWarp → (ℕ → Known) → ℕ → Known
all_known op w known l = if has_lane w.mask l then known_behind op (known l) else known l

-- It is in a block: no lane asks for anything, and the warp of the code stays.
pub record InBlock (g : Ground) (ops : List VOp) (known : ℕ → Known) (w : VWarp) (frames : ℕ → ℕ → ℕ) (s : Stepped) : Type 0 where
  pub at : Position
  pub warp : s.warp ≡ image_warp ops (word_at ops w at) w s.warp.registers
  pub outcome : s.outcome ≡ step.Next
  pub quiet : (l : ℕ) → l < 32 → AsksNothing (g.at l) (of_lane l s.accesses)
  pub stands : Stands g ops known w at s.warp.registers (frames_behind g s frames)

-- It has made its operation: one step of the warp of the code, with the same answers. Each active lane accesses what it asks for in its step
-- alone, and no other lane anything.
pub record IsOver (g : Ground) (ops : List VOp) (known : ℕ → Known) (w : VWarp) (answers : ℕ → ℕ) (frames : ℕ → ℕ → ℕ) (op : VOp) (s : Stepped) : Type 0 where
  pub at : Position
  pub warp : s.warp ≡ image_warp ops (word_at ops (warp_step g.crew ops answers w).warp at) (warp_step g.crew ops answers w).warp s.warp.registers
  pub outcome : s.outcome ≡ outcome_at ops (warp_step g.crew ops answers w).outcome
  pub asks : (l : ℕ) → l < 32 → has_lane w.mask l ≡ true → AsksAlike (g.at l) (answers l) (code.does g.crew w.mask op l (w.lanes l)) (of_lane l s.accesses)
  pub others : (l : ℕ) → l < 32 → has_lane w.mask l ≡ false → of_lane l s.accesses ≡ []
  pub stands : Stands g ops (all_known op w known) (warp_step g.crew ops answers w).warp at s.warp.registers (frames_behind g s frames)

-- It stands at a failed check, and traps by its least active lane.
pub record IsBroken (ops : List VOp) (w : VWarp) (xs : ℕ → Registers) (op : VOp) (s : Stepped) : Type 0 where
  pub pos : Pos
  pub check : op ≡ Trap pos
  pub warp : s.warp ≡ image_warp ops (word_at ops w (Along [])) w xs
  pub outcome : s.outcome ≡ step.Trap trap.Break (leader w.mask) (address_of_place ops w.place)
  pub quiet : (l : ℕ) → of_lane l s.accesses ≡ []

-- one step at the words
pub data OneStep (g : Ground) (ops : List VOp) (known : ℕ → Known) (w : VWarp) (xs : ℕ → Registers) (answers : ℕ → ℕ) (frames : ℕ → ℕ → ℕ) (op : VOp) (s : Stepped) : Type 0 where
  Inside : InBlock g ops known w frames s → OneStep g ops known w xs answers frames op s
  Over : IsOver g ops known w answers frames op s → OneStep g ops known w xs answers frames op s
  Broken : IsBroken ops w xs op s → OneStep g ops known w xs answers frames op s

-- The law.
abbrev pub ImageLaw : Type 0
ImageLaw = (g : Ground) (ops : List VOp) → Laid g → AreWithin g.slots ops → words ops ≤ 65536
    → (known : ℕ → Known) (w : VWarp) (at : Position) (xs : ℕ → Registers) (frames : ℕ → ℕ → ℕ) (answers : ℕ → ℕ)
    → (order : InOrder g ops known w answers) → TakesWord at order.op → Stands g ops known w at xs frames
    → FramesAnswer g (image_step g ops answers (word_at ops w at) w xs) frames
    → OneStep g ops known w xs answers frames order.op (image_step g ops answers (word_at ops w at) w xs)

-- The step that enters a loop takes no word: the warp at the words is that of the code behind the step, too.
pub record Enters (g : Ground) (ops : List VOp) (known : ℕ → Known) (w : VWarp) (answers : ℕ → ℕ) (xs : ℕ → Registers) (frames : ℕ → ℕ → ℕ) : Type 0 where
  pub outcome : (warp_step g.crew ops answers w).outcome ≡ step.Next
  pub warp : image_warp ops (word_at ops w (Along [])) w xs
      ≡ image_warp ops (word_at ops (warp_step g.crew ops answers w).warp (Along [])) (warp_step g.crew ops answers w).warp xs
  pub stands : Stands g ops (all_known Enter w known) (warp_step g.crew ops answers w).warp (Along []) xs frames

abbrev pub EnterLaw : Type 0
EnterLaw = (g : Ground) (ops rest : List VOp) → Laid g → AreWithin g.slots ops → words ops ≤ 65536
    → (known : ℕ → Known) (w : VWarp) (xs : ℕ → Registers) (frames : ℕ → ℕ → ℕ) (answers : ℕ → ℕ)
    → InOrder g ops known w answers → drop w.place ops ≡ Enter ∷ rest → Stands g ops known w (Along []) xs frames → Enters g ops known w answers xs frames

-- ---- where a run begins, and what stands around it

-- nothing was written, and there are no base registers yet
abbrev pub nothing_known : Known
nothing_known = record { written = λ r. false; based = false }

-- A warp that starts at a place is the warp at the words that starts at its address, whatever words the frames have.
abbrev pub StartLaw : Type 0
StartLaw = (g : Ground) (ops : List VOp) (place : ℕ) (frames : ℕ → ℕ → ℕ) → ((l r : ℕ) → frames l r < 2 ^ 32)
    → (started (address_of_place ops place) 1 ≡ image_warp ops (word_at ops (warp_start place) (Along [])) (warp_start place) (λ l r. 0))
    × Stands g ops (λ l. nothing_known) (warp_start place) (Along []) (λ l r. 0) frames

-- what stands around a warp of a launch
abbrev pub ground_of : Plan → ℕ → ℕ → ℕ → (ℕ → ℕ → Place) → Ground
ground_of p group core warp places = record {
  crew = record { ids = record { core = core; warp = warp; lanes = p.lanes }; block = block_of p group; places = places };
  has = λ a size. has_field p.shared a (bytes_of size);
  at = λ l a. where_at (map_of p) group (frame_of warp p.lanes l p.slots) p.slots a;
  slots = p.slots;
}

-- it is laid so where the launch is accepted
abbrev pub LaunchesAreLaid : Type 0
LaunchesAreLaid = (p : Plan) → Accepted p → Located p → (group core warp : ℕ) (places : ℕ → ℕ → Place)
    → group < group_count p.range → core < 2 ^ 32 → warp < 16 → Laid (ground_of p group core warp places)
