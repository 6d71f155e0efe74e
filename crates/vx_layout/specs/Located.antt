-- What an accepted launch gives: each array, each word of the launch block and each frame has addresses of its own, in the memory
-- of the machine.
use Rattle.std.specs.Prelude.{◌≡◌, ℕ, ◌+◌, ◌*◌, ◌/◌, ◌%◌, ◌^◌, ◌<◌, ◌≤◌, ◌⊎◌, Bool, true, List, length, map, slice_get, slice_index, Option, None, Some}
use Rattle.vx_base.specs.Values.{elem_bytes, fitted}
use Rattle.vx_base.specs.declared.types.Elem.{Elem}
use Rattle.vx_base.specs.declared.types.ParamKind.TheVariants.{Scalar, Pointer}
use Rattle.vx_base.specs.declared.types.Space.{Space}
use Rattle.vx_base.specs.declared.types.Space.TheVariants as space
use Rattle.item_acts.specs.declared.acts.Bound.TheVariants.{Value, Array as Bounded}
use Rattle.item_acts.specs.declared.acts.Place.{Place}
use Rattle.item_acts.specs.declared.acts.Place.TheVariants.{Global, Local}
use Rattle.vx_layout.specs.Addresses.{Span, Map, IsMap, Block, Own, Array, address_of, block_start, block_words, arrays_start, frames_start, scratch_end, buffers_start, frame_of, has_field, place_at, where_at}
use Rattle.vx_layout.specs.Launching.{Plan, local_sizes, map_of, group_size, group_count, warps_for}
use Rattle.vx_layout.specs.Blocks.{block_of, local_params}

-- byte k of the array with a number, as an item of a group reaches it
abbrev pub byte_in : Space → ℕ → ℕ → ℕ → Place
byte_in space.Local group array k = Local group array k
byte_in other group buffer k = Global buffer k

-- the n bytes from a byte on, of how many an array has
abbrev pub Holds : Option ℕ → ℕ → ℕ → Type 0
Holds None byte n = ⊥
Holds (Some size) byte n = byte + n ≤ size

abbrev pub size_of_span : Option Span → Option ℕ
size_of_span None = None
size_of_span (Some s) = Some s.size

-- the n bytes at a place lie in an array of the launch, for this group
abbrev pub HasBytes : Plan → ℕ → Place → ℕ → Type 0
HasBytes p group (Global buffer byte) n = Holds (size_of_span (slice_get p.buffers buffer)) byte n
HasBytes p group (Local group' array byte) n = (group' ≡ group) × Holds (slice_get (local_sizes p) array) byte n

-- the place k bytes further on
abbrev pub bytes_on : Place → ℕ → Place
bytes_on (Global buffer byte) k = Global buffer (byte + k)
bytes_on (Local group array byte) k = Local group array (byte + k)

-- An array's bytes stand one after another from an address on, at a multiple of 4, for every group.
pub record StandsAt (p : Plan) (space : Space) (number size address : ℕ) : Type 0 where
  pub names : (group k : ℕ) → k < size → place_at (map_of p) group (address + k) ≡ Some (byte_in space group number k)
  pub aligned : address % 4 ≡ 0
  pub small : address + size < 2 ^ 32

-- the words of a scalar parameter in every block
abbrev pub ScalarWords : Plan → ℕ → ℕ → Type 0
ScalarWords p k word = (group : ℕ) → (block_of p group (16 + 2 * k) ≡ word) × (block_of p group (17 + 2 * k) ≡ 0)

-- the words of a parameter that is an array, of so many elements and bytes
pub record ArrayWords (p : Plan) (k : ℕ) (space : Space) (number count size : ℕ) : Type 0 where
  pub address : ℕ
  pub first : (group : ℕ) → block_of p group (16 + 2 * k) ≡ address
  pub second : (group : ℕ) → block_of p group (17 + 2 * k) ≡ count
  pub stands : StandsAt p space number size address

-- the word of a declared array of so many bytes
pub record DeclaredWord (p : Plan) (j size : ℕ) : Type 0 where
  pub address : ℕ
  pub word : (group : ℕ) → block_of p group (48 + j) ≡ address
  pub stands : StandsAt p space.Local (local_params p + j) size address

-- What an accepted launch gives to those that cite it.
pub record Located (p : Plan) : Type 0 where
  -- nothing lies twice
  pub is_map : IsMap (map_of p)
  -- an address names a byte of an array only where the array has the byte, and then the byte has the address
  pub has_place : (group a : ℕ) (q : Place) → place_at (map_of p) group a ≡ Some q → HasBytes p group q 1
  pub has_address : (group a : ℕ) (q : Place) → place_at (map_of p) group a ≡ Some q → address_of (map_of p) q ≡ Some a
  -- and each byte of an array has such an address
  pub is_named : (group : ℕ) (q : Place) → HasBytes p group q 1 → (a : ℕ) × (address_of (map_of p) q ≡ Some a) × (place_at (map_of p) group a ≡ Some q)
  -- the bytes of a field stand one after another
  pub is_run : (group a n k : ℕ) (q : Place) → place_at (map_of p) group a ≡ Some q → HasBytes p group q n → k < n
      → place_at (map_of p) group (a + k) ≡ Some (bytes_on q k)
  -- no array has a byte of the launch block, of the frames, or between the scratchpad and the buffers
  pub below_arrays : (group a : ℕ) → a < arrays_start → place_at (map_of p) group a ≡ None
  pub above_arrays : (group a : ℕ) → frames_start ≤ a → a < buffers_start → place_at (map_of p) group a ≡ None
  -- the words of the launch block
  pub scalar_words : (k value : ℕ) (elem : Elem) → slice_get p.params k ≡ Some (Scalar elem) → slice_get p.bounds k ≡ Some (Value value)
      → ScalarWords p k (fitted elem value)
  pub array_words : (k number count : ℕ) (space : Space) (elem : Elem) (readonly : Bool) → slice_get p.params k ≡ Some (Pointer space elem readonly)
      → slice_get p.bounds k ≡ Some (Bounded number count) → ArrayWords p k space number count (count * elem_bytes elem)
  pub declared_word : (j size : ℕ) → slice_get p.arrays j ≡ Some size → DeclaredWord p j size
  pub block_small : (group k : ℕ) → group < group_count p.range → block_of p group k < 2 ^ 32
  -- what a lane reaches, whether it has an item or not
  pub block_word : (group warp lane k : ℕ) → k < block_words
      → where_at (map_of p) group (frame_of warp p.lanes lane p.slots) p.slots (block_start + 4 * k) ≡ Block k
  pub own_word : (group warp lane r : ℕ) → warp < 16 → lane < 32 → r < p.slots
      → where_at (map_of p) group (frame_of warp p.lanes lane p.slots) p.slots (frame_of warp p.lanes lane p.slots + 4 * r) ≡ Own r
  pub at_array : (group frame slots a : ℕ) (q : Place) → place_at (map_of p) group a ≡ Some q → where_at (map_of p) group frame slots a ≡ Array q
  pub of_array : (group frame slots a : ℕ) (q : Place) → where_at (map_of p) group frame slots a ≡ Array q → place_at (map_of p) group a ≡ Some q
  -- frames of different lanes have no byte together
  pub frames_apart : (warp lane warp' lane' a : ℕ) → lane < p.lanes → lane' < p.lanes → (warp * p.lanes + lane ≡ warp' * p.lanes + lane' → ⊥)
      → frame_of warp p.lanes lane p.slots ≤ a → a < frame_of warp p.lanes lane p.slots + 4 * p.slots
      → (a < frame_of warp' p.lanes lane' p.slots) ⊎ (frame_of warp' p.lanes lane' p.slots + 4 * p.slots ≤ a)
  -- all of it lies in the memory
  pub block_in_memory : (k : ℕ) → k < block_words → has_field p.shared (block_start + 4 * k) 4 ≡ true
  pub own_in_memory : (warp lane r : ℕ) → warp < 16 → lane < 32 → r < p.slots → has_field p.shared (frame_of warp p.lanes lane p.slots + 4 * r) 4 ≡ true
  pub array_in_memory : (group a n : ℕ) (q : Place) → place_at (map_of p) group a ≡ Some q → HasBytes p group q n → has_field p.shared a n ≡ true
  -- the warps of a group fit into a core, each of them has an item, and each item a lane
  pub warps_in_core : warps_for (group_size p.range) p.lanes ≤ p.warps
  pub some_warp : 1 ≤ warps_for (group_size p.range) p.lanes
  pub warp_has_items : (warp : ℕ) → warp < warps_for (group_size p.range) p.lanes → warp * p.lanes < group_size p.range
  pub item_warp : (local : ℕ) → local < group_size p.range → local / p.lanes < warps_for (group_size p.range) p.lanes
  pub item_lane : (local : ℕ) → local < group_size p.range → (local % p.lanes < p.lanes) × (local / p.lanes * p.lanes + local % p.lanes ≡ local)
