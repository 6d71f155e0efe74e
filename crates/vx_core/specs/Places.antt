-- Where the fields that lanes read and write lie, and what an access makes of the scratchpad, of the bus behind the cache, and
-- of the counts of its steps.
use Rattle.std.specs.Prelude.{◌≡◌, ℕ, ◌+◌, ◌-◌, ◌*◌, ◌/◌, ◌%◌, ◌^◌, Bool, true, false, ◌&&◌, nat_le, min, if◌then◌else◌, List, [], ◌∷◌, slice_index, slice_set}
use Rattle.vx_base.specs.Bytes.{bytes_of, field_of, with_field}
use Rattle.vx_base.specs.declared.types.Size.{Size}
use Rattle.vx_isa.specs.Warps.{WarpState}
use Rattle.vx_isa.specs.WarpSteps.{Access, Fields, Reads, Takes, Writes, warp_step}
use Rattle.vx_isa.specs.declared.warps.Ids.{Ids}
use Rattle.vx_isa.specs.declared.warps.Step.{Step}
use Rattle.memory_banks.specs.declared.entry.BusEntry.{BusEntry}
use Rattle.l1_cache.specs.Accesses.{DrainsAll, ReadsField, WritesField}
use Rattle.l1_cache.specs.Lines.{Lines}
use Rattle.vx_core.specs.declared.place.Place.{Place}
use Rattle.vx_core.specs.declared.place.Place.TheVariants as place

-- ---- where a field lies

-- the addresses of the first byte of the scratchpad, and of the first byte of the bus's words
abbrev pub scratch_start : ℕ
scratch_start = 0x10000000

abbrev pub global_start : ℕ
global_start = 0x40000000

-- how many bytes a scratchpad has
abbrev pub scratch_bytes : ℕ
scratch_bytes = 1048576

-- whether the field of a size at an address lies wholly in so many bytes from a place on
abbrev pub is_within : ℕ → Size → ℕ → ℕ → Bool
is_within address size start bytes = nat_le start address && nat_le (address + bytes_of size) (start + bytes)

-- where it lies, with a bus of so many words
abbrev pub place_at : ℕ → ℕ → Size → Place
place_at words address size =
    if is_within address size scratch_start scratch_bytes then place.Scratchpad (address - scratch_start)
    else if is_within address size global_start (4 * words) then place.Words (address - global_start)
    else place.Outside

abbrev pub is_inside : Place → Bool
is_inside place.Outside = false
is_inside p = true

-- the fields that the lanes of a core reach
abbrev pub fields : ℕ → Fields
fields words address size = is_inside (place_at words address size)

-- ---- what an access does

-- What the lanes of a core reach: the bytes of its scratchpad, its cache, the bus behind it, the policy by which the cache
-- gives up lines, and how many steps were counted on each bank.
pub record Reach (B E : Type 0) : Type 0 where
  pub scratch : List ℕ
  pub lines : Lines
  pub bus : B
  pub policy : E
  pub steps : List ℕ

-- a count that has reached the last value of its type stays there
abbrev pub more : ℕ → ℕ → ℕ
more count by = min (count + by) (2 ^ 64 - 1)

-- an entry on the bus is counted on the bank of its line: the banks take the lines, of sixteen words each, in turn
abbrev pub bank_at : ℕ → ℕ → ℕ
bank_at banks word = word / 16 % banks

abbrev pub with_word : ℕ → ℕ → List ℕ → List ℕ
with_word banks word steps = slice_set steps (bank_at banks word) (more (slice_index steps (bank_at banks word)) 1)

abbrev pub with_entry : ℕ → BusEntry → List ℕ → List ℕ
with_entry banks e steps = with_word banks e.word steps

abbrev pub with_entries : ℕ → List BusEntry → List ℕ → List ℕ
with_entries banks [] steps = steps
with_entries banks (e ∷ entries) steps = with_entries banks entries (with_entry banks e steps)

-- a read of the bus's words through the cache, of which the entries are counted
pub record ReadsWords {B E : Type 0} (acts : B → BusEntry → B → Type 0) (evicts : E → ℕ → ℕ → ℕ → ℕ → E → Type 0) (number banks : ℕ) (p : Reach B E) (offset : ℕ) (size : Size) (answer : ℕ) (q : Reach B E) : Type 0 where
  pub aligned : offset % bytes_of size ≡ 0
  pub read : ReadsField acts evicts number offset size p.lines p.bus p.policy answer q.lines q.bus q.policy
  pub counted : q.steps ≡ with_entries banks read.entries p.steps
  pub same_scratch : q.scratch ≡ p.scratch

-- a write of them
pub record WritesWords {B E : Type 0} (acts : B → BusEntry → B → Type 0) (number banks : ℕ) (p : Reach B E) (offset : ℕ) (size : Size) (value : ℕ) (q : Reach B E) : Type 0 where
  pub aligned : offset % bytes_of size ≡ 0
  pub written : WritesField acts number offset size value p.lines p.bus q.lines q.bus
  pub counted : q.steps ≡ with_entries banks written.entries p.steps
  pub same_scratch : q.scratch ≡ p.scratch
  pub same_policy : q.policy ≡ p.policy

-- what waits in the cache is carried out
pub record DrainsWords {B E : Type 0} (acts : B → BusEntry → B → Type 0) (number banks : ℕ) (p q : Reach B E) : Type 0 where
  pub drained : DrainsAll acts number p.lines p.bus q.lines q.bus
  pub counted : q.steps ≡ with_entries banks drained.entries p.steps
  pub same_scratch : q.scratch ≡ p.scratch
  pub same_policy : q.policy ≡ p.policy

-- a read of the scratchpad, which changes nothing, and a write of it
pub record ReadsScratch {B E : Type 0} (p : Reach B E) (offset : ℕ) (size : Size) (answer : ℕ) (q : Reach B E) : Type 0 where
  pub answer_is : answer ≡ field_of p.scratch offset (bytes_of size)
  pub same : q ≡ p

abbrev pub WritesScratch : {B E : Type 0} → Reach B E → ℕ → Size → ℕ → Reach B E → Type 0
WritesScratch p offset size value q = q ≡ record p { scratch = with_field p.scratch offset (bytes_of size) value }

-- a read or a write, by where its field lies
abbrev pub ReadsAt : {B E : Type 0} → (B → BusEntry → B → Type 0) → (E → ℕ → ℕ → ℕ → ℕ → E → Type 0) → ℕ → ℕ → Place → Reach B E → Size → ℕ → Reach B E → Type 0
ReadsAt acts evicts number banks (place.Scratchpad offset) p size answer q = ReadsScratch p offset size answer q
ReadsAt acts evicts number banks (place.Words offset) p size answer q = ReadsWords acts evicts number banks p offset size answer q
ReadsAt acts evicts number banks place.Outside p size answer q = ⊥

abbrev pub WritesAt : {B E : Type 0} → (B → BusEntry → B → Type 0) → ℕ → ℕ → Place → Reach B E → Size → ℕ → Reach B E → Type 0
WritesAt acts number banks (place.Scratchpad offset) p size value q = WritesScratch p offset size value q
WritesAt acts number banks (place.Words offset) p size value q = WritesWords acts number banks p offset size value q
WritesAt acts number banks place.Outside p size value q = ⊥

-- An access of a lane, where the bus has so many words, its entries stand under a number, and its steps are counted by banks.
abbrev pub Reaches : {B E : Type 0} → (B → BusEntry → B → Type 0) → (E → ℕ → ℕ → ℕ → ℕ → E → Type 0) → ℕ → ℕ → ℕ → Reach B E → Access → Reach B E → Type 0
Reaches acts evicts words number banks p (Reads address size answer) q = ReadsAt acts evicts number banks (place_at words address size) p size answer q
Reaches acts evicts words number banks p (Writes address size value) q = WritesAt acts number banks (place_at words address size) p size value q

-- A warp takes an instruction of the code, of which the accesses act on what the lanes reach.
abbrev pub TakesInstruction : {B E : Type 0} → (B → BusEntry → B → Type 0) → (E → ℕ → ℕ → ℕ → ℕ → E → Type 0) → ℕ → ℕ → ℕ → Ids → List ℕ → WarpState → Reach B E → Step → WarpState → Reach B E → Type 0
TakesInstruction acts evicts words number banks ids code w p outcome w' q =
    Takes (Reaches acts evicts words number banks) (λ answers. warp_step (fields words) ids code answers w) p outcome w' q
