-- Where a lane asks that loads an element of a `__constant` array (OpenCL C 1.2, section 6.5.3): in that array, since the index was checked.
use Rattle.std.specs.Prelude.{◌≡◌, ℕ, ◌+◌, ◌*◌, ◌≤◌, Bool, true, false, List, []}
use Rattle.vx_base.specs.Bytes.{bytes_of}
use Rattle.vx_base.specs.Values.{elem_bytes}
use Rattle.vx_base.specs.declared.types.Size.{Size}
use Rattle.item_acts.specs.declared.acts.Bound.{Bound}
use Rattle.item_acts.specs.declared.acts.Place.{Place}
use Rattle.item_acts.specs.declared.acts.Range.{Range}
use Rattle.ocl_program.specs.declared.exprs.ArrayRef.TheVariants.{Parameter}
use Rattle.item_settings.specs.Settings.{array_of, byte_in, elem_size}
use Rattle.kir.specs.Machine.{code_setting, value}
use Rattle.kir.specs.Trees.{KirCode}
use Rattle.uniformity.specs.Marks.{is_constant}
use Rattle.vcode.specs.Code.{VOp, Fetch}
use Rattle.vcode.specs.Machine.{Around, Lane}
use Rattle.simt_lowering.specs.Around.{HasArrays}
use Rattle.simt_lowering.specs.Kept.{CanLower, item_place, known_of_kernel}
use Rattle.simt_lowering.specs.Lowered.{kernel_code}
use Rattle.simt_lowering.specs.Runs.{Comes, begin}
use Rattle.mask_laws.specs.Labels.{kernel_spots, spot_in}

-- All bytes of a field of this size at this place are those of an array that a `__constant` parameter stands for.
pub record IsConstantField (code : KirCode) (bounds : List Bound) (place : Place) (size : Size) : Type 0 where
  pub param : ℕ
  pub constant : is_constant code.params (Parameter param) ≡ true
  pub group : ℕ
  pub byte : ℕ
  pub inside : byte + bytes_of size ≤ (array_of code.params code.arrays bounds (Parameter param)).count * elem_bytes (array_of code.params code.arrays bounds (Parameter param)).elem
  pub there : place ≡ byte_in group (array_of code.params code.arrays bounds (Parameter param)) byte

-- what an operation loads with these registers is so, where it loads an element of a `__constant` array
abbrev pub LoadsConstant : KirCode → List Bound → Around → Bool → VOp → (ℕ → ℕ) → Type 0
LoadsConstant code bounds at false op rs = Unit {0}
LoadsConstant code bounds at true (Fetch d elem a) rs = IsConstantField code bounds (at.place (value rs a)) (elem_size elem)
LoadsConstant code bounds at true op rs = Unit {0}

-- The law: so it is at each place of a kernel that a lane comes to alone, from the place where the items begin, with anything in its registers
-- and whatever is answered. Its launch block and its addresses are those of the arrays that an item knows.
abbrev pub LoadsAreConstant : Type 0
LoadsAreConstant = (marks : ℕ → Bool) (code : KirCode) (range : Range) (bounds : List Bound) (item : ℕ) (at : Around) → CanLower code
    → HasArrays (known_of_kernel marks code) (code_setting code range bounds item) at
    → (rs : ℕ → ℕ) (ns : List ℕ) (n : ℕ) (t : Lane) (us : List ℕ) → Comes at (kernel_code marks code) n (begin item_place rs ns) [] t us
    → LoadsConstant code bounds at (spot_in (kernel_spots marks code) t.place).shared (spot_in (kernel_spots marks code) t.place).op t.registers
