-- A lane accesses elements that arrays of the launch have.
use Rattle.std.specs.Prelude.{◌≡◌, ℕ, ◌%◌, ◌<◌, Bool, true, List, [], ◌∷◌, Some, drop}
use Rattle.vx_base.specs.Values.{elem_bytes}
use Rattle.vx_base.specs.declared.types.Elem.{Elem}
use Rattle.ocl_program.specs.declared.exprs.ArrayRef.{ArrayRef}
use Rattle.item_settings.specs.Settings.{Setting, elem_size, element_in}
use Rattle.kir.specs.Machine.{value}
use Rattle.kir.specs.Trees.{KirCode}
use Rattle.vcode.specs.Code.{VOp, Fetch, Write}
use Rattle.vcode.specs.Machine.{Lane}
use Rattle.vx_layout.specs.Addresses.{place_at}
use Rattle.vx_layout.specs.Launching.{Plan, Accepted, map_of}
use Rattle.vx_layout.specs.Located.{HasBytes}
use Rattle.simt_lowering.specs.Kept.{CanLower}
use Rattle.simt_lowering.specs.Laid.{HasLane, IsLaunchOf, around_of, setting_for}
use Rattle.simt_lowering.specs.Lowered.{kernel_code}
use Rattle.simt_lowering.specs.Runs.{Begins, Comes, begin}

-- The address is that of an element which an array of the kernel has in this setting. The element is as wide as one of this type, all its bytes
-- lie in the array, and its address is a multiple of their count.
pub record IsElement (p : Plan) (setting : Setting) (group : ℕ) (elem : Elem) (address : ℕ) : Type 0 where
  pub array : ArrayRef
  pub index : ℕ
  pub below : index < (setting.array array).count
  pub wide : elem_size (setting.array array).elem ≡ elem_size elem
  pub names : place_at (map_of p) group address ≡ Some (element_in group (setting.array array) index)
  pub bytes : HasBytes p group (element_in group (setting.array array) index) (elem_bytes elem)
  pub aligned : address % elem_bytes elem ≡ 0

-- and the array may be changed
pub record IsWritable (p : Plan) (setting : Setting) (group : ℕ) (elem : Elem) (address : ℕ) : Type 0 where
  pub element : IsElement p setting group elem address
  pub writable : (setting.array element.array).writable ≡ true

-- what an operation accesses, with these registers
abbrev pub OpInArray : Plan → Setting → ℕ → VOp → (ℕ → ℕ) → Type 0
OpInArray p setting group (Fetch d elem a) rs = IsElement p setting group elem (value rs a)
OpInArray p setting group (Write elem a b) rs = IsWritable p setting group elem (value rs a)
OpInArray p setting group other rs = Unit {0}

abbrev pub FirstInArray : Plan → Setting → ℕ → List VOp → (ℕ → ℕ) → Type 0
FirstInArray p setting group [] rs = Unit {0}
FirstInArray p setting group (op ∷ ops) rs = OpInArray p setting group op rs

-- so it is with these operations of a kernel in an accepted launch, wherever the lane of an item comes to from a place at which it may begin
abbrev pub AccessArrays : KirCode → List VOp → Type 0
AccessArrays code ops = (p : Plan) → Accepted p → IsLaunchOf code p → CanLower code
    → (item group warp number : ℕ) → HasLane p item group warp number → (q : ℕ) (rs : ℕ → ℕ) (ns : List ℕ) → Begins q
    → (n : ℕ) (t : Lane) (us : List ℕ) → Comes (around_of p group warp number) ops n (begin q rs ns) [] t us
    → FirstInArray p (setting_for code p item) group (drop t.place ops) t.registers

-- the law: with those of the kernel
abbrev pub InArrays : Type 0
InArrays = (code : KirCode) (marks : ℕ → Bool) → AccessArrays code (kernel_code marks code)
