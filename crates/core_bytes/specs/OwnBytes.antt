-- The law of bytes of one core: what a read answers, and how the words end, where no other core came between. A core knows no
-- more of the others' writes.
use Rattle.std.specs.Prelude.{◌≡◌, ◌≢◌, ℕ, suc, ◌+◌, ◌-◌, ◌*◌, ◌/◌, ◌%◌, ◌<◌, ◌≤◌, Bool, true, false, ◌&&◌, nat_le, nat_lt, if◌then◌else◌, List, [], ◌∷◌, length, take, slice_get, slice_index, Some}
use Rattle.vx_base.specs.Bytes.{byte_of, bytes_of}
use Rattle.vx_base.specs.declared.types.Size.{Size}
use Rattle.memory_banks.specs.declared.entry.BusEntry.{BusEntry}
use Rattle.memory_banks.specs.Entries.{replay}
use Rattle.core_bytes.specs.BusRuns.{places}
use Rattle.core_bytes.specs.Deeds.{Act, Deed, Draining, Reading, Writing}

-- byte b of words, the least significant byte of a word first
abbrev pub byte_in : List ℕ → ℕ → ℕ
byte_in words b = byte_of (slice_index words (b / 4)) (b % 4)

-- whether an act writes a byte, and the byte behind it where it was another before
abbrev pub writes : Act → ℕ → Bool
writes (Writing address size value) b = nat_le address b && nat_lt b (address + bytes_of size)
writes (Reading address size answer) b = false
writes Draining b = false

abbrev pub written : Act → ℕ → ℕ → ℕ
written (Writing address size value) b before = if writes (Writing address size value) b then byte_of value (b - address) else before
written (Reading address size answer) b before = before
written Draining b before = before

-- a byte as deeds of one core leave it
abbrev pub own_byte : List Deed → ℕ → ℕ → ℕ
own_byte [] b before = before
own_byte (d ∷ deeds) b before = own_byte deeds b (written d.act b before)

-- no other core writes the byte at a lesser place
abbrev pub IsClear : ℕ → (ℕ → List Deed) → List BusEntry → ℕ → ℕ → ℕ → Type 0
IsClear cores deeds history core place b = (other : ℕ) → other < cores → other ≢ core → (k : ℕ) (d : Deed) → slice_get (deeds other) k ≡ Some d → writes d.act b ≡ true → place ≤ slice_index (places (suc other) history (deeds other)) k

-- no other core writes the byte at all
abbrev pub IsUnshared : ℕ → (ℕ → List Deed) → ℕ → ℕ → Type 0
IsUnshared cores deeds core b = (other : ℕ) → other < cores → other ≢ core → (k : ℕ) (d : Deed) → slice_get (deeds other) k ≡ Some d → writes d.act b ≡ false

-- Deed k of a core is a read, byte i of its field is one of the words, and no other core wrote it at a lesser place: the answer has there what the
-- core's own deeds before it left, or the opening byte.
abbrev pub AnswersOwn : List ℕ → ℕ → (ℕ → List Deed) → List BusEntry → Type 0
AnswersOwn opening cores deeds history = (core k address : ℕ) (size : Size) (answer i : ℕ) (entries : List BusEntry)
    → core < cores → slice_get (deeds core) k ≡ Some (record { act = Reading address size answer; entries = entries }) → i < bytes_of size
    → address + i < 4 * length opening
    → IsClear cores deeds history core (slice_index (places (suc core) history (deeds core)) k) (address + i)
    → byte_of answer i ≡ own_byte (take k (deeds core)) (address + i) (byte_in opening (address + i))

-- A byte that no other core writes ends as the core's own deeds leave it.
abbrev pub EndsOwn : List ℕ → ℕ → (ℕ → List Deed) → List BusEntry → Type 0
EndsOwn opening cores deeds history = (core b : ℕ) → core < cores → b < 4 * length opening
    → IsUnshared cores deeds core b → byte_in (replay opening history) b ≡ own_byte (deeds core) b (byte_in opening b)
