-- Where the addresses lie that a lane loads from and stores to: the launch block, the frame of the lane, the `__local` arrays
-- of its group, and the buffers.
use Rattle.std.specs.Prelude.{◌≡◌, ℕ, suc, ◌+◌, ◌-◌, ◌*◌, ◌/◌, ◌%◌, ◌<◌, ◌≤◌, Bool, true, false, ◌&&◌, ◌||◌, nat_eq, nat_le, nat_lt, List, [], ◌∷◌, slice_get, Option, None, Some}
use Rattle.item_acts.specs.declared.acts.Place.{Place}
use Rattle.item_acts.specs.declared.acts.Place.TheVariants.{Global, Local}

-- ---- the map of all cores

-- the first byte of the scratchpad, which is the first of the launch block
abbrev pub block_start : ℕ
block_start = 0x10000000

-- the first byte that a `__local` array may have
abbrev pub arrays_start : ℕ
arrays_start = 0x10001000

-- the first byte of the frame of warp 0, lane 0
abbrev pub frames_start : ℕ
frames_start = 0x10080000

-- the byte behind the scratchpad
abbrev pub scratch_end : ℕ
scratch_end = 0x10100000

-- the first byte that a buffer may have
abbrev pub buffers_start : ℕ
buffers_start = 0x40000000

-- the first byte of the code
abbrev pub code_start : ℕ
code_start = 0x80000000

-- how many words a launch block has
abbrev pub block_words : ℕ
block_words = 64

-- the first byte of the frame of a lane, with so many words a frame
abbrev pub frame_of : ℕ → ℕ → ℕ → ℕ → ℕ
frame_of warp lanes lane slots = frames_start + (warp * lanes + lane) * (4 * slots)

-- ---- bytes that stand together

-- some bytes from an address on
pub record Span : Type 0 where
  pub start : ℕ
  pub size : ℕ

-- the byte is one of them
abbrev pub has : Span → ℕ → Bool
has span a = nat_le span.start a && nat_lt a (span.start + span.size)

-- a number of bytes, rounded up to whole words, and to whole cache lines
abbrev pub in_words : ℕ → ℕ
in_words n = (n + 3) / 4 * 4

abbrev pub in_lines : ℕ → ℕ
in_lines n = (n + 63) / 64 * 64

-- spans of these sizes one after another, each from a multiple of 4
abbrev pub spans_from : ℕ → List ℕ → List Span
spans_from start [] = []
spans_from start (size ∷ sizes) = record { start = start; size = size } ∷ spans_from (start + in_words size) sizes

-- no byte is in two of them
abbrev pub Apart : List Span → Type 0
Apart spans = (i j : ℕ) (s t : Span) (a : ℕ) → slice_get spans i ≡ Some s → slice_get spans j ≡ Some t → has s a ≡ true → has t a ≡ true → i ≡ j

-- each of them lies from one address up to another
abbrev pub Within : ℕ → ℕ → List Span → Type 0
Within low high spans = (i : ℕ) (s : Span) → slice_get spans i ≡ Some s → (low ≤ s.start) × (s.start + s.size ≤ high)

-- a byte of one of the spans: the number of the span, and the number of the byte in it
pub record Hit : Type 0 where
  pub number : ℕ
  pub byte : ℕ

abbrev pub one_further : Option Hit → Option Hit
one_further None = None
one_further (Some hit) = Some (record { number = suc hit.number; byte = hit.byte })

abbrev pub hit_if : Bool → ℕ → Option Hit → Option Hit
hit_if true byte later = Some (record { number = 0; byte = byte })
hit_if false byte later = one_further later

-- the first of the spans that has the byte
abbrev pub found : List Span → ℕ → Option Hit
found [] a = None
found (s ∷ spans) a = hit_if (has s a) (a - s.start) (found spans a)

-- ---- the arrays of a launch

-- where the buffers lie, and the local arrays of the group that runs
pub record Map : Type 0 where
  pub buffers : List Span
  pub locals : List Span

-- nothing lies twice, and the local arrays lie between the launch block and the frames
pub record IsMap (m : Map) : Type 0 where
  pub buffers_apart : Apart m.buffers
  pub locals_apart : Apart m.locals
  pub buffers_in : Within buffers_start code_start m.buffers
  pub locals_in : Within arrays_start frames_start m.locals

abbrev pub place_found : ℕ → Option Hit → Option Hit → Option Place
place_found group (Some hit) other = Some (Global hit.number hit.byte)
place_found group None (Some hit) = Some (Local group hit.number hit.byte)
place_found group None None = None

-- the byte of an array that an address names in a group
abbrev pub place_at : Map → ℕ → ℕ → Option Place
place_at m group a = place_found group (found m.buffers a) (found m.locals a)

abbrev pub span_byte : Option Span → ℕ → Option ℕ
span_byte None byte = None
span_byte (Some s) byte = Some (s.start + byte)

-- the address of a byte of an array
abbrev pub address_of : Map → Place → Option ℕ
address_of m (Global buffer byte) = span_byte (slice_get m.buffers buffer) byte
address_of m (Local group array byte) = span_byte (slice_get m.locals array) byte

-- ---- what a lane reaches

-- a word of the launch block, a word of the lane's own frame, a byte of an array, or nothing of these
pub data Where : Type 0 where
  Block : ℕ → Where
  Own : ℕ → Where
  Array : Place → Where
  Nowhere : Where

-- the address is that of one of so many words from a start on
abbrev pub is_word : ℕ → ℕ → ℕ → Bool
is_word start count a = has (record { start = start; size = 4 * count }) a && nat_eq ((a - start) % 4) 0

abbrev pub word_if : Bool → Where → Where → Where
word_if true word other = word
word_if false word other = other

abbrev pub array_or : Option Place → Where → Where
array_or (Some place) other = Array place
array_or None other = other

-- what an address names for a lane of a group, whose frame has so many words from its first byte on
abbrev pub where_at : Map → ℕ → ℕ → ℕ → ℕ → Where
where_at m group frame slots a =
    array_or (place_at m group a)
    (word_if (is_word block_start block_words a) (Block ((a - block_start) / 4))
    (word_if (is_word frame slots a) (Own ((a - frame) / 4))
    Nowhere))

-- the field of n bytes at an address lies wholly from one address up to another
abbrev pub is_part : ℕ → ℕ → ℕ → ℕ → Bool
is_part low high a n = nat_le low a && nat_le (a + n) high

-- it lies wholly in the scratchpad, or in so many bytes of buffers
abbrev pub has_field : ℕ → ℕ → ℕ → Bool
has_field shared a n = is_part block_start scratch_end a n || is_part buffers_start (buffers_start + shared) a n
