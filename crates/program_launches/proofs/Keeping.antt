-- Items of a launch of a kernel stay within the launch's arrays, and store to no buffer that the kernel may not store to.
use Rattle.std.proofs.Common.{◌≡◌, ℕ, zero, suc, ◌+◌, ◌*◌, ◌/◌, ◌<◌, ◌≤◌, Bool, true, false, not, ◌&&◌, ◌||◌, nat_eq, List, [], ◌∷◌, Option, None, Some, refl, sym, ap, ◌∙◌, subst, arith, eq-eqb}
use Rattle.std.proofs.Math.Nat.{div-mul-le_self, mul-le-mul_right, suc-mul}
use Rattle.std.specs.Prelude.{if◌then◌else◌, slice_get, slice_index}
use Rattle.vx_base.specs.Bytes.{bytes_of}
use Rattle.vx_base.specs.Values.{elem_bytes}
use Rattle.vx_base.specs.declared.types.Elem.{Elem}
use Rattle.vx_base.specs.declared.types.Elem.TheVariants.{Char, Uchar, Short, Ushort, Int, Uint}
use Rattle.vx_base.specs.declared.types.Size.{Size}
use Rattle.item_acts.specs.declared.acts.Action.{Action}
use Rattle.item_acts.specs.declared.acts.Action.TheVariants.{Load, Store, Barrier, Fault, End}
use Rattle.item_acts.specs.declared.acts.Bound.{Bound}
use Rattle.item_acts.specs.declared.acts.Place.{Place}
use Rattle.item_acts.specs.declared.acts.Place.TheVariants.{Global, Local}
use Rattle.item_acts.specs.Launches.{Launch, ItemAsks, IsInside}
use Rattle.item_acts.specs.OneResult.{IsWithin}
use Rattle.ocl_ast.specs.declared.units.Param.{Param}
use Rattle.ocl_program.specs.declared.exprs.ArrayRef.{ArrayRef}
use Rattle.ocl_program.specs.declared.exprs.ArrayRef.TheVariants.{Parameter, Declared}
use Rattle.ocl_program.specs.declared.functions.LocalArray.{LocalArray}
use Rattle.item_settings.specs.declared.arrays.ItemArray.{ItemArray}
use Rattle.item_settings.specs.Settings.{Setting, array_bound, bound_array, declared_array, elem_size, element_in, group_size}
use Rattle.ocl_sem.specs.Items.{IsElement, IsInArrays}
use Rattle.ocl_sem.specs.Launched.{Launched, launched_settles}
use Rattle.ocl_sem.specs.Settings.{setting_of}
use Rattle.ocl_sem.proofs.InArrays.{stays_in_arrays}
use Rattle.program_launches.specs.Launches.{AreConstant, EndsWithin, HasArrays, array_named, is_changeable, is_changed, launch_over}
use Rattle.program_launches.specs.Laws.{LaunchesKeepToArrays, LaunchesSettle, LaunchesStayInBounds, TameAreOrderly, UnchangedAreConstant}

-- ---- bytes of elements

size_is : (elem : Elem) → bytes_of (elem_size elem) ≡ elem_bytes elem
size_is Char = refl
size_is Uchar = refl
size_is Short = refl
size_is Ushort = refl
size_is Int = refl
size_is Uint = refl

-- an element that is there ends within what the whole array ends within
ends_within : (i count bytes room : ℕ) → i < count → count * bytes ≤ room → i * bytes + bytes ≤ room
ends_within i count bytes room h r =
    let more : suc i * bytes ≤ count * bytes = mul-le-mul_right bytes h in
    let step : suc i * bytes ≡ i * bytes + bytes = suc-mul i bytes in
    omega arith

placed_inside : (l : Launch) (local : Bool) (group number k n : ℕ) → group * l.local < l.items
    → k + n ≤ (if local then slice_index l.locals number else slice_index l.buffers number)
    → IsInside l (if local then Local group number k else Global number k) n
placed_inside l true group number k n here h = (here, h)
placed_inside l false group number k n here h = h

element_inside : (l : Launch) (group : ℕ) (array : ItemArray) (i : ℕ) → group * l.local < l.items → i < array.count
    → EndsWithin l.buffers l.locals array → IsInside l (element_in group array i) (bytes_of (elem_size array.elem))
element_inside l group array i here h room =
    subst (IsInside l (element_in group array i)) (sym (size_is array.elem))
    (placed_inside l array.local group array.number (i * elem_bytes array.elem) (elem_bytes array.elem) here
    (ends_within i array.count (elem_bytes array.elem) _ h room))

-- ---- what an item asks for

access_inside : (l : Launch) (at : Setting) (array : ArrayRef) (place : Place) (size : Size) → at.group * l.local < l.items
    → ((a : ArrayRef) → EndsWithin l.buffers l.locals (at.array a)) → IsElement at array place size → IsInside l place (bytes_of size)
access_inside l at array place size here room is =
    subst (λ (p : Place). IsInside l p (bytes_of size)) (sym is.place_is)
    (subst (λ (s : Size). IsInside l (element_in at.group (at.array array) is.index) (bytes_of s)) (sym is.size_is)
    (element_inside l at.group (at.array array) is.index here is.within (room array)))

action_within : (l : Launch) (at : Setting) (a : Action) → at.group * l.local < l.items
    → ((array : ArrayRef) → EndsWithin l.buffers l.locals (at.array array)) → IsInArrays at a → IsWithin l a
action_within l at (Load place size) here room is = access_inside l at is.0 place size here room is.1
action_within l at (Store place size value) here room is = access_inside l at is.0 place size here room is.1.0
action_within l at (Barrier point) here room is = tt
action_within l at (Fault pos) here room is = tt
action_within l at End here room is = tt

group_is_there : (item local items : ℕ) → item < items → item / local * local < items
group_is_there item local items h = let e = div-mul-le_self item local in omega arith

asked_within : (launched : Launched) (buffers locals : List ℕ) → HasArrays launched buffers locals
    → (item : ℕ) (answers : List ℕ) (a : Action) → item < (launch_over launched buffers locals).items
    → ItemAsks (launch_over launched buffers locals) item answers a → IsWithin (launch_over launched buffers locals) a
asked_within launched buffers locals room item answers a exists asks =
    action_within (launch_over launched buffers locals) (setting_of launched.kernel launched.range launched.bounds item) a
    (group_is_there item (group_size launched.range) (launch_over launched buffers locals).items exists) room
    (stays_in_arrays launched item answers asks.steps a asks.asked)

-- ---- what an item stores to

-- a byte of a buffer is one of an array that is a buffer
buffer_of : (constant : ℕ → Bool) (local writable : Bool) (group number k buffer byte : ℕ) → writable ≡ true
    → (writable && not local ≡ true → constant number ≡ false)
    → Global buffer byte ≡ (if local then Local group number k else Global number k) → constant buffer ≡ false
buffer_of constant true writable group number k buffer byte w h e = absurd (cc)
buffer_of constant false writable group number k buffer byte w h e =
    let same : number ≡ buffer = cc in
    subst (λ n. constant n ≡ false) same (h (ap (λ x. x && true) w))

stores_elsewhere : (launched : Launched) (constant : ℕ → Bool) → AreConstant launched constant → (at : Setting) (array : ArrayRef)
    → at.array array ≡ array_named launched array → (buffer byte : ℕ) (size : Size) → IsElement at array (Global buffer byte) size
    → (at.array array).writable ≡ true → constant buffer ≡ false
stores_elsewhere launched constant none at array same buffer byte size is w =
    buffer_of constant (at.array array).local (at.array array).writable at.group (at.array array).number (is.index * elem_bytes (at.array array).elem) buffer byte w
    (subst (λ (a : ItemArray). is_changeable a ≡ true → constant a.number ≡ false) (sym same) (none array)) is.place_is

stored_kept : (launched : Launched) (constant : ℕ → Bool) → AreConstant launched constant → (item : ℕ) (buffer byte : ℕ) (size : Size) (value : ℕ)
    → IsInArrays (setting_of launched.kernel launched.range launched.bounds item) (Store (Global buffer byte) size value) → constant buffer ≡ false
stored_kept launched constant none item buffer byte size value is =
    stores_elsewhere launched constant none (setting_of launched.kernel launched.range launched.bounds item) is.0 refl buffer byte size is.1.0 is.1.1

-- ---- buffers that no parameter changes

or_left : (a b : Bool) → a ≡ true → a || b ≡ true
or_left true b e = refl
or_left false b e = absurd (cc)

or_right : (a b : Bool) → b ≡ true → a || b ≡ true
or_right true b e = refl
or_right false b e = e

changes_own : (array : ItemArray) → is_changeable array ≡ true → is_changeable array && nat_eq array.number array.number ≡ true
changes_own array e = ap (λ x. x && nat_eq array.number array.number) e ∙ eq-eqb array.number array.number refl

no_bound_changes : (param : Option Param) → is_changeable (array_bound param None) ≡ true → ⊥
no_bound_changes None e = absurd (cc)
no_bound_changes (Some p) e = absurd (cc)

changed_at : (params : List Param) (bounds : List Bound) (k : ℕ) → is_changeable (array_bound (slice_get params k) (slice_get bounds k)) ≡ true
    → is_changed params bounds (array_bound (slice_get params k) (slice_get bounds k)).number ≡ true
changed_at [] bounds k e = absurd (cc)
changed_at (p ∷ ps) [] k e = absurd (no_bound_changes (slice_get (p ∷ ps) k) e)
changed_at (p ∷ ps) (b ∷ bs) zero e =
    or_left (is_changeable (bound_array p.kind b) && nat_eq (bound_array p.kind b).number (bound_array p.kind b).number) _ (changes_own (bound_array p.kind b) e)
changed_at (p ∷ ps) (b ∷ bs) (suc k) e = or_right _ _ (changed_at ps bs k e)

declared_local : (params : List Param) (k : ℕ) (array : Option LocalArray) → is_changeable (declared_array params k array) ≡ true → ⊥
declared_local params k None e = absurd (cc)
declared_local params k (Some a) e = absurd (cc)

pub unchanged_are_constant : UnchangedAreConstant
unchanged_are_constant launched (Parameter k) e = ap not (changed_at launched.kernel.params launched.bounds k e)
unchanged_are_constant launched (Declared k) e = absurd (declared_local launched.kernel.params k (slice_get launched.kernel.arrays k) e)

-- ---- the laws

pub launches_settle : LaunchesSettle
launches_settle launched buffers locals = record { more = λ item answers n k a e. launched_settles launched item answers n k a e }

pub launches_stay_in_bounds : LaunchesStayInBounds
launches_stay_in_bounds launched buffers locals room given = record {
  within = λ turns allowed item exists a asks. asked_within launched buffers locals room item _ a exists asks;
}

pub launches_keep_to_arrays : LaunchesKeepToArrays
launches_keep_to_arrays launched buffers locals room constant none = record {
  within = λ item answers a exists asks. asked_within launched buffers locals room item answers a exists asks;
  kept = λ item answers buffer byte size value exists asks.
      stored_kept launched constant none item buffer byte size value (stays_in_arrays launched item answers asks.steps (Store (Global buffer byte) size value) asks.asked);
}

pub tame_are_orderly : TameAreOrderly
tame_are_orderly launched buffers locals room positive given tame = (
  tame.0,
  record {
    settled = launches_settle launched buffers locals;
    positive = positive;
    tame = tame.1;
    bounds = launches_stay_in_bounds launched buffers locals room given;
  },
)
