-- What parameters stand for, of arguments that they take.
use Rattle.std.proofs.Common.{◌≡◌, ℕ, zero, suc, ◌+◌, ◌*◌, true, List, [], ◌∷◌, length, map, slice_get, Option, None, Some, refl, ap, sym, subst, ◌∙◌, arith}
use Rattle.std.specs.Option.{option_map}
use Rattle.std.proofs.lemmas.Option.{slice_get-map, slice_get_within}
use Rattle.vx_base.specs.Values.{elem_bytes}
use Rattle.vx_base.specs.declared.types.Elem.{Elem}
use Rattle.vx_base.specs.declared.types.Elem.TheVariants as e
use Rattle.vx_base.specs.declared.types.ParamKind.{ParamKind}
use Rattle.vx_base.specs.declared.types.ParamKind.TheVariants.{Scalar, Pointer}
use Rattle.vx_base.specs.declared.types.Space.TheVariants as space
use Rattle.item_acts.specs.declared.acts.Bound.{Bound}
use Rattle.vx_layout.specs.Launching.{IsBuffer, Fits, locals_before}
use Rattle.launch_plans.specs.declared.plans.Arg.{Arg}
use Rattle.launch_plans.specs.declared.plans.Arg.TheVariants as arg
use Rattle.launch_loader.specs.declared.buffers.BufShape.{BufShape}
use Rattle.launch_loader.specs.Conditions.{span_of, count_of, bound_of, bounds_from}
use Rattle.launch_loader.specs.Refusals.{AllFit, same_elem, has_elem, takes, fits_both}
use Rattle.launch_loader.specs.Words.{IsWordArg, IsWordIn, AreWordArgs}

-- ---- what parameter k stands for

pub bounds_at : (kinds : List ParamKind) (buffers : List BufShape) (j : ℕ) (args : List Arg) (k : ℕ)
    → slice_get (bounds_from kinds buffers j args) k ≡ option_map (bound_of kinds buffers (j + k)) (slice_get args k)
bounds_at kinds buffers j [] k = refl
bounds_at kinds buffers j (a ∷ args) zero =
    let at : j ≡ j + 0 = omega arith in ap (λ (n : ℕ). Some (bound_of kinds buffers n a)) at
bounds_at kinds buffers j (a ∷ args) (suc k) =
    let at : suc j + k ≡ j + suc k = omega arith in
    bounds_at kinds buffers (suc j) args k ∙ ap (λ (n : ℕ). option_map (bound_of kinds buffers n) (slice_get args k)) at

pub bounds_here : (kinds : List ParamKind) (buffers : List BufShape) (args : List Arg) (k : ℕ)
    → slice_get (bounds_from kinds buffers 0 args) k ≡ option_map (bound_of kinds buffers k) (slice_get args k)
bounds_here kinds buffers args k =
    let at : 0 + k ≡ k = omega arith in
    bounds_at kinds buffers 0 args k ∙ ap (λ (n : ℕ). option_map (bound_of kinds buffers n) (slice_get args k)) at

pub bounds_each : (kinds : List ParamKind) (buffers : List BufShape) (j : ℕ) (args : List Arg) → length (bounds_from kinds buffers j args) ≡ length args
bounds_each kinds buffers j [] = refl
bounds_each kinds buffers j (a ∷ args) = ap suc (bounds_each kinds buffers (suc j) args)

-- ---- it is what the parameter may stand for

same_is : (one other : Elem) → same_elem one other ≡ true → one ≡ other
same_is e.Char e.Char h = refl
same_is e.Char e.Uchar h = absurd (cc)
same_is e.Char e.Short h = absurd (cc)
same_is e.Char e.Ushort h = absurd (cc)
same_is e.Char e.Int h = absurd (cc)
same_is e.Char e.Uint h = absurd (cc)
same_is e.Uchar e.Char h = absurd (cc)
same_is e.Uchar e.Uchar h = refl
same_is e.Uchar e.Short h = absurd (cc)
same_is e.Uchar e.Ushort h = absurd (cc)
same_is e.Uchar e.Int h = absurd (cc)
same_is e.Uchar e.Uint h = absurd (cc)
same_is e.Short e.Char h = absurd (cc)
same_is e.Short e.Uchar h = absurd (cc)
same_is e.Short e.Short h = refl
same_is e.Short e.Ushort h = absurd (cc)
same_is e.Short e.Int h = absurd (cc)
same_is e.Short e.Uint h = absurd (cc)
same_is e.Ushort e.Char h = absurd (cc)
same_is e.Ushort e.Uchar h = absurd (cc)
same_is e.Ushort e.Short h = absurd (cc)
same_is e.Ushort e.Ushort h = refl
same_is e.Ushort e.Int h = absurd (cc)
same_is e.Ushort e.Uint h = absurd (cc)
same_is e.Int e.Char h = absurd (cc)
same_is e.Int e.Uchar h = absurd (cc)
same_is e.Int e.Short h = absurd (cc)
same_is e.Int e.Ushort h = absurd (cc)
same_is e.Int e.Int h = refl
same_is e.Int e.Uint h = absurd (cc)
same_is e.Uint e.Char h = absurd (cc)
same_is e.Uint e.Uchar h = absurd (cc)
same_is e.Uint e.Short h = absurd (cc)
same_is e.Uint e.Ushort h = absurd (cc)
same_is e.Uint e.Int h = absurd (cc)
same_is e.Uint e.Uint h = refl

-- a buffer that has elements of the type has so many of them
is_buffer : (elem : Elem) (buffers : List BufShape) (b : ℕ) → has_elem elem (slice_get buffers b) ≡ true
    → IsBuffer (map span_of buffers) elem b (count_of (slice_get buffers b))
is_buffer elem buffers b holds = by (slice_get buffers b) refl holds
  where
    by : (o : Option BufShape) → slice_get buffers b ≡ o → has_elem elem o ≡ true → IsBuffer (map span_of buffers) elem b (count_of o)
    by None at h = absurd (cc)
    by (Some s) at h = (span_of s, slice_get-map span_of buffers b ∙ ap (option_map span_of) at, ap (λ (x : Elem). s.count * elem_bytes x) (sym (same_is elem s.elem h)))

pub fits_arg : (kinds : List ParamKind) (buffers : List BufShape) (k : ℕ) (kind : ParamKind) (a : Arg) → takes buffers kind a ≡ true → IsWordArg a
    → Fits (map span_of buffers) (locals_before kinds k) kind (bound_of kinds buffers k a)
fits_arg kinds buffers k (Scalar elem) (arg.Int value) taken small = small
fits_arg kinds buffers k (Scalar elem) (arg.Buffer b) taken small = absurd (cc)
fits_arg kinds buffers k (Scalar elem) (arg.Local count) taken small = absurd (cc)
fits_arg kinds buffers k (Pointer space.Local elem readonly) (arg.Local count) taken small = refl
fits_arg kinds buffers k (Pointer space.Local elem readonly) (arg.Buffer b) taken small = absurd (cc)
fits_arg kinds buffers k (Pointer space.Local elem readonly) (arg.Int value) taken small = absurd (cc)
fits_arg kinds buffers k (Pointer space.Global elem readonly) (arg.Local count) taken small = absurd (cc)
fits_arg kinds buffers k (Pointer space.Global elem readonly) (arg.Buffer b) taken small = is_buffer elem buffers b taken
fits_arg kinds buffers k (Pointer space.Global elem readonly) (arg.Int value) taken small = absurd (cc)
fits_arg kinds buffers k (Pointer space.Constant elem readonly) (arg.Local count) taken small = absurd (cc)
fits_arg kinds buffers k (Pointer space.Constant elem readonly) (arg.Buffer b) taken small = is_buffer elem buffers b taken
fits_arg kinds buffers k (Pointer space.Constant elem readonly) (arg.Int value) taken small = absurd (cc)

pub bound_fits : (kinds : List ParamKind) (buffers : List BufShape) (args : List Arg) → AllFit buffers kinds args → AreWordArgs args
    → (k : ℕ) (kind : ParamKind) (b : Bound) → slice_get kinds k ≡ Some kind → slice_get (bounds_from kinds buffers 0 args) k ≡ Some b
    → Fits (map span_of buffers) (locals_before kinds k) kind b
bound_fits kinds buffers args fit small k kind b at here = by (slice_get args k) refl (sym (bounds_here kinds buffers args k) ∙ here)
  where
    by : (o : Option Arg) → slice_get args k ≡ o → option_map (bound_of kinds buffers k) o ≡ Some b → Fits (map span_of buffers) (locals_before kinds k) kind b
    by None is bound = absurd (cc)
    by (Some a) is bound =
        let same : bound_of kinds buffers k a ≡ b = cc in
        let taken : takes buffers kind a ≡ true =
        ap (λ (o : Option ParamKind). fits_both buffers o (Some a)) (sym at)
        ∙ ap (λ (o : Option Arg). fits_both buffers (slice_get kinds k) o) (sym is)
        ∙ fit k (slice_get_within args k a is) in
        subst (λ (x : Bound). Fits (map span_of buffers) (locals_before kinds k) kind x) same (fits_arg kinds buffers k kind a taken (subst IsWordIn is (small k)))
