-- What the typing of a part of a body adds to what the function has so far, and what holds of the part in the whole function.
use Rattle.std.proofs.Common.{◌≡◌, refl, ◌∙◌, ℕ, zero, suc, ◌<◌, Bool, false, List, [], ◌∷◌, ◌++◌, length, slice_get, Option, Some, option_map}
use Rattle.ocl_ast.specs.Trees.{FunctionTree}
use Rattle.ocl_program.specs.declared.functions.LocalArray.{LocalArray}
use Rattle.ocl_types.specs.declared.names.Binding.{Binding}
use Rattle.ocl_types.specs.declared.names.Binding.TheVariants.{Scalar as ScalarBinding, Array as ArrayBinding}
use Rattle.ocl_types.specs.Names.{Scope}
use Rattle.ocl_types.specs.Stmts.{Standing, opened, closed, outer_scopes}
use Rattle.program_laws.proofs.Pieces.{most}
use Rattle.flat_typing.specs.Typed.{Frame, Head, named_kind}

-- ---- lists

pub get_before : {A : Type 0} (xs ys : List A) (k : ℕ) (x : A) → slice_get xs k ≡ Some x → slice_get (xs ++ ys) k ≡ Some x
get_before [] ys k x e = cc
get_before (y ∷ xs) ys zero x e = e
get_before (y ∷ xs) ys (suc k) x e = get_before xs ys k x e

pub get_behind : {A : Type 0} (xs : List A) (y : A) → slice_get (xs ++ y ∷ []) (length xs) ≡ Some y
get_behind [] y = refl
get_behind (x ∷ xs) y = get_behind xs y

-- ---- names

-- an array of a scope is one of the function's, and of the kind that the scope says
abbrev pub IsBinding : Frame → Binding → Type 0
IsBinding frame (ScalarBinding variable elem constant) = Unit {0}
IsBinding frame (ArrayBinding array space elem readonly) = named_kind frame array ≡ Some (record { space = space; elem = elem; fixed = readonly })

abbrev pub IsScope : Frame → Scope → Type 0
IsScope frame [] = Unit {0}
IsScope frame (entry ∷ more) = IsBinding frame entry.1 × IsScope frame more

abbrev pub AreScopes : Frame → List Scope → Type 0
AreScopes frame [] = Unit {0}
AreScopes frame (scope ∷ outer) = IsScope frame scope × AreScopes frame outer

pub outer_are : (frame : Frame) (scopes : List Scope) → AreScopes frame scopes → AreScopes frame (outer_scopes scopes)
outer_are frame [] h = tt
outer_are frame (scope ∷ outer) h = h.1

-- ---- the whole function

abbrev pub tree_head : FunctionTree → Head
tree_head f = record { kernel = f.kernel; params = f.params }

abbrev pub head_at : List FunctionTree → ℕ → Option Head
head_at functions k = option_map tree_head (slice_get functions k)

-- what a function has so far is among what it has in the end
pub record Ends (functions : List FunctionTree) (frame : Frame) (arrays : List LocalArray) (calls : List ℕ) : Type 0 where
  pub same_arrays : (i : ℕ) (array : LocalArray) → slice_get arrays i ≡ Some array → slice_get frame.arrays i ≡ Some array
  pub same_calls : (i k : ℕ) → slice_get calls i ≡ Some k → frame.callees i ≡ head_at functions k
  pub few_arrays : length arrays < most
  pub few_calls : length calls < most

abbrev pub EndsAt : List FunctionTree → Frame → Standing → Type 0
EndsAt functions frame st = Ends functions frame st.arrays st.calls

-- what a part of a body does to what the function has, and what holds of it; `outermost` tells whether it may declare arrays
pub record Gains (functions : List FunctionTree) (outermost : Bool) (st : Standing) (P : Frame → Type 0) (behind : Standing) : Type 0 where
  pub ends : (frame : Frame) → EndsAt functions frame behind → EndsAt functions frame st
  pub scopes : (frame : Frame) → EndsAt functions frame behind → AreScopes frame st.scopes → AreScopes frame behind.scopes
  pub holds : (frame : Frame) → EndsAt functions frame behind → AreScopes frame st.scopes → P frame
  pub arrays : outermost ≡ false → behind.arrays ≡ st.arrays

abbrev pub Always : Frame → Type 0
Always frame = Unit {0}

pub gains_this : {functions : List FunctionTree} {outermost : Bool} {P : Frame → Type 0} (st : Standing) → ((frame : Frame) → AreScopes frame st.scopes → P frame) → Gains functions outermost st P st
gains_this st holds = record { ends = λ frame h. h; scopes = λ frame h scopes. scopes; holds = λ frame h scopes. holds frame scopes; arrays = λ inner. refl }

pub gains_both : {functions : List FunctionTree} {outermost : Bool} {st middle behind : Standing} {P Q : Frame → Type 0} → Gains functions outermost st P middle → Gains functions outermost middle Q behind
    → Gains functions outermost st (λ frame. P frame × Q frame) behind
gains_both h k = record {
  ends = λ frame ends. h.ends frame (k.ends frame ends);
  scopes = λ frame ends scopes. k.scopes frame ends (h.scopes frame (k.ends frame ends) scopes);
  holds = λ frame ends scopes. (h.holds frame (k.ends frame ends) scopes, k.holds frame ends (h.scopes frame (k.ends frame ends) scopes));
  arrays = λ inner. k.arrays inner ∙ h.arrays inner;
}

pub gains_as : {functions : List FunctionTree} {outermost : Bool} {st behind : Standing} {P Q : Frame → Type 0} → ((frame : Frame) → P frame → Q frame) → Gains functions outermost st P behind
    → Gains functions outermost st Q behind
gains_as f h = record { ends = h.ends; scopes = h.scopes; holds = λ frame ends scopes. f frame (h.holds frame ends scopes); arrays = h.arrays }

pub gains_three : {functions : List FunctionTree} {outermost : Bool} {st one two behind : Standing} {P Q R : Frame → Type 0} → Gains functions outermost st P one → Gains functions outermost one Q two
    → Gains functions outermost two R behind → Gains functions outermost st (λ frame. P frame × Q frame × R frame) behind
gains_three h k l = gains_as (λ frame p. (p.0, p.1.0, p.1.1)) (gains_both h (gains_both k l))

-- a part within another statement declares no array
pub gains_within : {functions : List FunctionTree} {outermost : Bool} {st behind : Standing} {P : Frame → Type 0} → Gains functions false st P behind → Gains functions outermost st P behind
gains_within h = record { ends = h.ends; scopes = h.scopes; holds = h.holds; arrays = λ inner. h.arrays refl }

pub gains_opened : {functions : List FunctionTree} {outermost : Bool} {st behind : Standing} {P : Frame → Type 0} → Gains functions outermost (opened st) P behind → Gains functions outermost st P behind
gains_opened h = record {
  ends = h.ends;
  scopes = λ frame ends scopes. h.scopes frame ends (tt, scopes);
  holds = λ frame ends scopes. h.holds frame ends (tt, scopes);
  arrays = h.arrays;
}

pub gains_closed : {functions : List FunctionTree} {outermost : Bool} {st behind : Standing} {P : Frame → Type 0} → Gains functions outermost st P behind → Gains functions outermost st P (closed behind)
gains_closed {behind = behind} h = record {
  ends = h.ends;
  scopes = λ frame ends scopes. outer_are frame behind.scopes (h.scopes frame ends scopes);
  holds = h.holds;
  arrays = h.arrays;
}
