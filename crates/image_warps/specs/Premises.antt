-- What the law asks of the warp of the code before its next operation.
use Rattle.std.specs.Prelude.{◌≡◌, ℕ, ◌+◌, ◌%◌, ◌^◌, ◌<◌, Bool, true, List, ◌∷◌, drop}
use Rattle.vx_base.specs.Bytes.{bytes_of}
use Rattle.vx_base.specs.declared.types.Size.{Size}
use Rattle.item_settings.specs.Settings.{elem_size}
use Rattle.kir.specs.Machine.{value}
use Rattle.vx_layout.specs.Addresses.{Array, block_words}
use Rattle.vx_isa.specs.Warps.{has_lane}
use Rattle.vx_isa.specs.declared.warps.MachineTrap.{MachineTrap}
use Rattle.vx_isa.specs.declared.warps.MachineTrap.TheVariants as trap
use Rattle.vx_isa.specs.declared.warps.Step.TheVariants as step
use Rattle.vcode.specs.Code.{VOp, Fresh, WordAt, Fetch, Write, Enter}
use Rattle.mask_laws.specs.Clean.{ReadsWritten}
use Rattle.warp_code.specs.Warps.{VWarp, warp_step}
use Rattle.image_warps.specs.Lanes.{Ground, Known}
use Rattle.image_warps.specs.Warps.{Position, Along, Storing, Jumping}

-- a field of an array is where the lane's address says, whole, and in the memory
abbrev pub IsThere : Ground → ℕ → ℕ → Size → Type 0
IsThere g l a size = (g.at l a ≡ Array (g.crew.places l a)) × (a % bytes_of size ≡ 0) × (g.has a size ≡ true)

-- what an operation reads and writes is there
abbrev pub Reaches : Ground → ℕ → VOp → (ℕ → ℕ) → Type 0
Reaches g l (WordAt d a k) rs = k + value rs a < block_words
Reaches g l (Fetch d elem a) rs = IsThere g l (value rs a) (elem_size elem)
Reaches g l (Write elem a b) rs = IsThere g l (value rs a) (elem_size elem)
Reaches g l op rs = Unit {0}

-- an operation that does not make the base registers is made with them
abbrev pub IsBased : VOp → Bool → Type 0
IsBased Fresh based = Unit {0}
IsBased op based = based ≡ true

-- The warp has an active lane and an operation, at which all active lanes stand. Each of them reads only registers that it has written, and
-- reaches what it accesses. The only trap is at a failed check: so active lanes agree at a branch, no split finds a full stack, and no join an
-- empty one.
pub record InOrder (g : Ground) (ops : List VOp) (known : ℕ → Known) (w : VWarp) (answers : ℕ → ℕ) : Type 0 where
  pub op : VOp
  pub rest : List VOp
  pub there : drop w.place ops ≡ op ∷ rest
  pub some : (l : ℕ) × ((l < 32) × (has_lane w.mask l ≡ true))
  pub small : w.mask < 2 ^ 32
  pub here : (l : ℕ) → has_lane w.mask l ≡ true → (w.lanes l).place ≡ w.place
  pub clean : (l : ℕ) → has_lane w.mask l ≡ true → ReadsWritten (known l).written op
  pub based : (l : ℕ) → has_lane w.mask l ≡ true → IsBased op (known l).based
  pub reaches : (l : ℕ) → has_lane w.mask l ≡ true → Reaches g l op (w.lanes l).registers
  pub traps : (fault : MachineTrap) (l place : ℕ) → (warp_step g.crew ops answers w).outcome ≡ step.Trap fault l place → fault ≡ trap.Break

-- an operation with a word; the one that enters a loop has none
abbrev pub HasWord : VOp → Type 0
HasWord Enter = ⊥
HasWord op = Unit {0}

-- before an operation, it is one with a word
abbrev pub TakesWord : Position → VOp → Type 0
TakesWord (Along done) op = HasWord op
TakesWord (Storing d) op = Unit {0}
TakesWord (Jumping k) op = Unit {0}
