-- Arrays of a kernel that stand for those of an active call.
use Rattle.std.proofs.Common.{◌≡◌, refl, sym, ap, ◌∙◌, subst, ℕ, zero, suc, Bool, true, false, List, [], ◌∷◌, slice_get, Option, None, Some}
use Rattle.std.specs.Prelude.{slice_index_or}
use Rattle.vx_base.specs.declared.types.Elem.{Elem}
use Rattle.vx_base.specs.declared.types.ParamKind.{ParamKind}
use Rattle.vx_base.specs.declared.types.ParamKind.TheVariants.{Scalar, Pointer}
use Rattle.vx_base.specs.declared.types.Space.{Space}
use Rattle.vx_base.specs.declared.types.Space.TheVariants.{Global, Constant, Local}
use Rattle.ocl_ast.specs.declared.units.Param.{Param}
use Rattle.ocl_program.specs.declared.exprs.ArrayRef.{ArrayRef}
use Rattle.ocl_program.specs.declared.exprs.ArrayRef.TheVariants.{Parameter, Declared}
use Rattle.ocl_program.specs.declared.functions.CallSite.{CallSite}
use Rattle.ocl_program.specs.declared.functions.LocalArray.{LocalArray}
use Rattle.ocl_program.specs.Nodes.{ArgNodes, NoArgs, ValueArg, ArrayArg, FunctionNode}
use Rattle.item_settings.specs.Settings.{is_writable}
use Rattle.ocl_sem.specs.Items.{kernel_scope}
use Rattle.ocl_sem.specs.Source.{Scope, array_in, arrays_named, scope_at}
use Rattle.ocl_types.specs.Names.{is_fixed}
use Rattle.ocl_inline.specs.Proper.{DeclaredHas, HasElem, IsWritten, KindHas, KindWritten, ParamHas, ParamWritten}
use Rattle.flat_typing.specs.Typed.{ArrayKind, Fits, Frame, IsOf, IsOpen, MayServe, Serves, array_kind, frame_of, kind_of, local_kind, named_kind, param_kind}

-- ---- arrays that serve

-- each array that the frame has is served by an array of the kernel
abbrev pub Serving : List Param → List LocalArray → Frame → Scope → Type 0
Serving params arrays frame scope = (array : ArrayRef) (kind : ArrayKind) → named_kind frame array ≡ Some kind → MayServe (array_kind params arrays (array_in scope array)) (Some kind)

serves_itself : (kind : ArrayKind) → Serves kind kind
serves_itself kind = record { space = refl; elem = refl; accepts = λ accepting. accepting }

serves_through : (found : Option ArrayKind) (middle wanted : ArrayKind) → MayServe found (Some middle) → Serves middle wanted → MayServe found (Some wanted)
serves_through None middle wanted h k = absurd h
serves_through (Some given) middle wanted h k = record { space = h.space ∙ k.space; elem = h.elem ∙ k.elem; accepts = λ accepting. h.accepts (k.accepts accepting) }

-- a kernel's own arrays serve themselves
pub kernel_serving : (program : List FunctionNode) (kernel : FunctionNode) → Serving kernel.params kernel.arrays (frame_of program kernel) (kernel_scope kernel)
kernel_serving program kernel (Parameter k) kind e = subst (λ (x : Option ArrayKind). MayServe x (Some kind)) (sym e) (serves_itself kind)
kernel_serving program kernel (Declared k) kind e = subst (λ (x : Option ArrayKind). MayServe x (Some kind)) (sym e) (serves_itself kind)

-- ---- what is given in a call

none_is_some : (kind : ArrayKind) → None ≡ Some kind → ⊥
none_is_some kind e = cc

given_serves : (params : List Param) (arrays : List LocalArray) (frame : Frame) (scope : Scope) → Serving params arrays frame scope → (array : ArrayRef) (found : Option ArrayKind) (wanted : ArrayKind)
    → named_kind frame array ≡ found → MayServe found (Some wanted) → MayServe (array_kind params arrays (array_in scope array)) (Some wanted)
given_serves params arrays frame scope serving array None wanted e h = absurd h
given_serves params arrays frame scope serving array (Some given) wanted e h = serves_through (array_kind params arrays (array_in scope array)) given wanted (serving array given e) h

named_serves : (params : List Param) (arrays : List LocalArray) (frame : Frame) (scope : Scope) → Serving params arrays frame scope → (taken : List Param) (args : ArgNodes) (k : ℕ) (wanted : ArrayKind) (other : ArrayRef)
    → Fits frame taken args → param_kind (slice_get taken k) ≡ Some wanted → MayServe (array_kind params arrays (slice_index_or (arrays_named scope args) k other)) (Some wanted)
named_serves params arrays frame scope serving [] NoArgs k wanted other fits e = absurd (none_is_some wanted e)
named_serves params arrays frame scope serving [] (ValueArg a more) k wanted other fits e = absurd fits
named_serves params arrays frame scope serving [] (ArrayArg a more) k wanted other fits e = absurd fits
named_serves params arrays frame scope serving (param ∷ taken) NoArgs k wanted other fits e = absurd fits
named_serves params arrays frame scope serving (param ∷ taken) (ValueArg a more) zero wanted other fits e = absurd (none_is_some wanted (sym fits.0 ∙ e))
named_serves params arrays frame scope serving (param ∷ taken) (ValueArg a more) (suc k) wanted other fits e = named_serves params arrays frame scope serving taken more k wanted other fits.1 e
named_serves params arrays frame scope serving (param ∷ taken) (ArrayArg a more) zero wanted other fits e =
    given_serves params arrays frame scope serving a (named_kind frame a) wanted refl (subst (λ (x : Option ArrayKind). MayServe (named_kind frame a) x) e fits.0)
named_serves params arrays frame scope serving (param ∷ taken) (ArrayArg a more) (suc k) wanted other fits e = named_serves params arrays frame scope serving taken more k wanted other fits.1 e

-- in a call of a helper the arrays that it is given serve
pub call_serving : (program : List FunctionNode) (params : List Param) (arrays : List LocalArray) (scope : Scope) → Serving params arrays (frame_of program scope.function) scope
    → (site : CallSite) (callee : FunctionNode) (args : ArgNodes) → Fits (frame_of program scope.function) callee.params args → callee.arrays ≡ []
    → Serving params arrays (frame_of program callee) (scope_at scope site callee args)
call_serving program params arrays scope serving site callee args fits none (Parameter k) kind e =
    named_serves params arrays (frame_of program scope.function) scope serving callee.params args k kind (Parameter k) fits e
call_serving program params arrays scope serving site callee args fits none (Declared k) kind e =
    absurd (none_is_some kind (ap (λ (xs : List LocalArray). local_kind (slice_get xs k)) (sym none) ∙ e))

-- ---- accesses

kind_has : (given : ParamKind) (kind : ArrayKind) → MayServe (kind_of given) (Some kind) → KindHas given kind.elem
kind_has (Scalar elem) kind h = tt
kind_has (Pointer space elem readonly) kind h = h.elem

param_has : (param : Option Param) (kind : ArrayKind) → MayServe (param_kind param) (Some kind) → ParamHas param kind.elem
param_has None kind h = tt
param_has (Some param) kind h = kind_has param.kind kind h

declared_has : (array : Option LocalArray) (kind : ArrayKind) → MayServe (local_kind array) (Some kind) → DeclaredHas array kind.elem
declared_has None kind h = tt
declared_has (Some array) kind h = h.elem

served_has : (params : List Param) (arrays : List LocalArray) (array : ArrayRef) (kind : ArrayKind) → MayServe (array_kind params arrays array) (Some kind) → HasElem params arrays array kind.elem
served_has params arrays (Parameter k) kind h = param_has (slice_get params k) kind h
served_has params arrays (Declared k) kind h = declared_has (slice_get arrays k) kind h

read_by : (params : List Param) (arrays : List LocalArray) (frame : Frame) (scope : Scope) → Serving params arrays frame scope → (array : ArrayRef) (elem : Elem) (found : Option ArrayKind)
    → named_kind frame array ≡ found → IsOf found elem → HasElem params arrays (array_in scope array) elem
read_by params arrays frame scope serving array elem None e h = absurd h
read_by params arrays frame scope serving array elem (Some kind) e h =
    subst (HasElem params arrays (array_in scope array)) h (served_has params arrays (array_in scope array) kind (serving array kind e))

-- an array of a call is accessed by its elements' type
pub is_read : (params : List Param) (arrays : List LocalArray) (frame : Frame) (scope : Scope) → Serving params arrays frame scope → (array : ArrayRef) (elem : Elem) → IsOf (named_kind frame array) elem
    → HasElem params arrays (array_in scope array) elem
is_read params arrays frame scope serving array elem h = read_by params arrays frame scope serving array elem (named_kind frame array) refl h

open_writable : (space : Space) (readonly : Bool) → is_fixed space readonly ≡ false → is_writable space readonly ≡ true
open_writable Global true h = cc
open_writable Global false h = refl
open_writable Constant readonly h = cc
open_writable Local true h = cc
open_writable Local false h = refl

kind_written : (given : ParamKind) (kind : ArrayKind) → MayServe (kind_of given) (Some kind) → kind.fixed ≡ false → KindWritten given
kind_written (Scalar elem) kind h accepts = tt
kind_written (Pointer space elem readonly) kind h accepts = open_writable space readonly (h.accepts accepts)

param_written : (param : Option Param) (kind : ArrayKind) → MayServe (param_kind param) (Some kind) → kind.fixed ≡ false → ParamWritten param
param_written None kind h accepts = tt
param_written (Some param) kind h accepts = kind_written param.kind kind h accepts

served_written : (params : List Param) (arrays : List LocalArray) (array : ArrayRef) (kind : ArrayKind) → MayServe (array_kind params arrays array) (Some kind) → kind.fixed ≡ false → IsWritten params array
served_written params arrays (Parameter k) kind h accepts = param_written (slice_get params k) kind h accepts
served_written params arrays (Declared k) kind h accepts = tt

written_by : (params : List Param) (arrays : List LocalArray) (frame : Frame) (scope : Scope) → Serving params arrays frame scope → (array : ArrayRef) (found : Option ArrayKind)
    → named_kind frame array ≡ found → IsOpen found → IsWritten params (array_in scope array)
written_by params arrays frame scope serving array None e h = absurd h
written_by params arrays frame scope serving array (Some kind) e h = served_written params arrays (array_in scope array) kind (serving array kind e) h

-- and one that is stored to may be changed
pub is_stored : (params : List Param) (arrays : List LocalArray) (frame : Frame) (scope : Scope) → Serving params arrays frame scope → (array : ArrayRef) → IsOpen (named_kind frame array)
    → IsWritten params (array_in scope array)
is_stored params arrays frame scope serving array h = written_by params arrays frame scope serving array (named_kind frame array) refl h
