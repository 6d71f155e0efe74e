-- What is said of every accepted launch, and a launch that is worked out.
use Rattle.std.specs.Prelude.{◌≡◌, ℕ, ◌+◌, ◌*◌, List, [], ◌∷◌, map, true, false, None, Some}
use Rattle.vx_base.specs.declared.types.Elem.TheVariants.{Short, Int}
use Rattle.vx_base.specs.declared.types.ParamKind.TheVariants.{Scalar, Pointer}
use Rattle.vx_base.specs.declared.types.Space.TheVariants as space
use Rattle.item_acts.specs.declared.acts.Bound.TheVariants.{Value, Array as Bounded}
use Rattle.item_acts.specs.declared.acts.Place.TheVariants.{Global, Local}
use Rattle.vx_layout.specs.Addresses.{Block, Own, Array, Nowhere, frame_of, place_at, where_at}
use Rattle.vx_layout.specs.Launching.{Plan, Accepted, map_of}
use Rattle.vx_layout.specs.Blocks.{block_of}
use Rattle.vx_layout.specs.Located.{Located}

-- an accepted launch is located
abbrev pub AcceptedIsLocated : Type 0
AcceptedIsLocated = (p : Plan) → Accepted p → Located p

-- Eight items in groups of four, on two warps of two lanes. The kernel takes a buffer of eight ints, a short that is given as
-- 65535, and a `__local` array of four ints, and declares a `__local` array of six bytes.
abbrev pub worked : Plan
worked = record {
  params = Pointer space.Global Int true ∷ Scalar Short ∷ Pointer space.Local Int false ∷ [];
  arrays = 6 ∷ [];
  range = record { dims = 1; global = 8 ∷ 1 ∷ 1 ∷ []; local = 4 ∷ 1 ∷ 1 ∷ [] };
  bounds = Bounded 0 8 ∷ Value 65535 ∷ Bounded 0 4 ∷ [];
  buffers = record { start = 64; size = 32 } ∷ [];
  shared = 128;
  warps = 2;
  lanes = 2;
  slots = 5;
  code = 100;
}

-- the words of the launch block of its second group
pub record WorkedWords : Type 0 where
  pub head : map (block_of worked 1) (0 ∷ 1 ∷ 2 ∷ 3 ∷ 4 ∷ 5 ∷ []) ≡ 2 ∷ 4 ∷ 1 ∷ 1 ∷ 0 ∷ 0 ∷ []
  pub sizes : map (block_of worked 1) (6 ∷ 7 ∷ 8 ∷ 9 ∷ 10 ∷ 11 ∷ []) ≡ 4 ∷ 1 ∷ 1 ∷ 8 ∷ 1 ∷ 1 ∷ []
  pub groups : map (block_of worked 1) (12 ∷ 13 ∷ 14 ∷ 15 ∷ []) ≡ 2 ∷ 1 ∷ 1 ∷ 2 ∷ []
  pub buffer : map (block_of worked 1) (16 ∷ 17 ∷ []) ≡ 0x40000040 ∷ 8 ∷ []
  pub scalar : map (block_of worked 1) (18 ∷ 19 ∷ []) ≡ 0xffffffff ∷ 0 ∷ []
  pub array : map (block_of worked 1) (20 ∷ 21 ∷ []) ≡ 0x10001000 ∷ 4 ∷ []
  pub others : map (block_of worked 1) (22 ∷ 47 ∷ 49 ∷ 63 ∷ []) ≡ 0 ∷ 0 ∷ 0 ∷ 0 ∷ []
  pub declared : block_of worked 1 48 ≡ 0x10001010

-- what some addresses name for that group, and for its last lane
pub record WorkedPlaces : Type 0 where
  pub before_buffer : place_at (map_of worked) 1 0x4000003f ≡ None
  pub first : place_at (map_of worked) 1 0x40000040 ≡ Some (Global 0 0)
  pub last : place_at (map_of worked) 1 0x4000005f ≡ Some (Global 0 31)
  pub behind_buffer : place_at (map_of worked) 1 0x40000060 ≡ None
  pub array : place_at (map_of worked) 1 0x1000100f ≡ Some (Local 1 0 15)
  pub declared : place_at (map_of worked) 1 0x10001012 ≡ Some (Local 1 1 2)
  pub behind_arrays : place_at (map_of worked) 1 0x10001016 ≡ None
  pub frame : frame_of 1 2 1 5 ≡ 0x1008003c
  pub own : where_at (map_of worked) 1 0x1008003c 5 0x10080044 ≡ Own 2
  pub other_frame : where_at (map_of worked) 1 0x1008003c 5 0x10080038 ≡ Nowhere
  pub word : where_at (map_of worked) 1 0x1008003c 5 0x10000008 ≡ Block 2
  pub part_of_word : where_at (map_of worked) 1 0x1008003c 5 0x10000009 ≡ Nowhere
  pub element : where_at (map_of worked) 1 0x1008003c 5 0x40000044 ≡ Array (Global 0 4)
