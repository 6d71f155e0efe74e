-- No buffer is named in two spaces.
use Rattle.std.proofs.Common.{◌≡◌, ℕ, ◌<◌, Bool, true, false, true≢false, ◌&&◌, nat_eq, List, length, slice_get, Option, None, Some, refl, ap, sym, subst, ◌∙◌, inl, inr, arith, eq-eqb}
use Rattle.std.specs.Option.{option_map}
use Rattle.std.proofs.lemmas.Bool.{cases_lt, cases_eq}
use Rattle.std.proofs.lemmas.Option.{slice_get_within}
use Rattle.vx_base.specs.declared.types.ParamKind.{ParamKind}
use Rattle.vx_base.specs.declared.types.ParamKind.TheVariants.{Scalar, Pointer}
use Rattle.vx_base.specs.declared.types.Space.{Space}
use Rattle.vx_base.specs.declared.types.Space.TheVariants as space
use Rattle.item_acts.specs.declared.acts.Bound.{Bound}
use Rattle.vx_layout.specs.Launching.{NamesIn, is_local}
use Rattle.launch_plans.specs.declared.plans.Arg.{Arg}
use Rattle.launch_plans.specs.declared.plans.Arg.TheVariants as arg
use Rattle.launch_loader.specs.declared.buffers.BufShape.{BufShape}
use Rattle.launch_loader.specs.declared.spaces.BufferUse.{BufferUse}
use Rattle.launch_loader.specs.Conditions.{bound_of, bounds_from}
use Rattle.launch_loader.specs.Refusals.{AllFit, fits_both}
use Rattle.launch_loader.specs.Spaces.{NoneBoth, are_other, clash, clash_at, named, named_at}
use Rattle.launch_loader.proofs.Bounds.{bounds_here}

-- a parameter that stands for a buffer in a space is given this buffer
is_named : (kinds : List ParamKind) (buffers : List BufShape) (k : ℕ) (s : Space) (b : ℕ) (kind : Option ParamKind) (given : Option Arg) → is_local s ≡ false
    → ((a : Arg) → given ≡ Some a → fits_both buffers kind given ≡ true) → NamesIn s b kind (option_map (bound_of kinds buffers k) given)
    → named kind given ≡ Some (record { space = s; buffer = b })
is_named kinds buffers k s b None given apart fit names = absurd names
is_named kinds buffers k s b (Some (Scalar elem)) given apart fit names = absurd names
is_named kinds buffers k s b (Some (Pointer s' elem readonly)) None apart fit names = absurd names
is_named kinds buffers k s b (Some (Pointer s' elem readonly)) (Some (arg.Int value)) apart fit names = absurd names
is_named kinds buffers k s b (Some (Pointer s' elem readonly)) (Some (arg.Buffer b')) apart fit names = let is = names.0 in let at = names.1 in cc
is_named kinds buffers k s b (Some (Pointer s' elem readonly)) (Some (arg.Local count)) apart fit names =
    absurd (true≢false (sym (fit (arg.Local count) refl) ∙ ap is_local names.0 ∙ apart))

is_given : (kind : Option ParamKind) (given : Option Arg) (u : BufferUse) → named kind given ≡ Some u → (a : Arg) × (given ≡ Some a)
is_given kind (Some a) u is = (a, refl)
is_given None None u is = absurd (cc)
is_given (Some (Scalar elem)) None u is = absurd (cc)
is_given (Some (Pointer s elem readonly)) None u is = absurd (cc)

-- two places that name a buffer in the two spaces clash
clashes : (kinds : List ParamKind) (args : List Arg) (j k : ℕ) (s t : Space) (b : ℕ) → are_other s t ≡ true
    → named_at kinds args j ≡ Some (record { space = s; buffer = b }) → named_at kinds args k ≡ Some (record { space = t; buffer = b }) → clash_at kinds args j k ≡ true
clashes kinds args j k s t b other one two =
    let same : nat_eq b b ≡ true = eq-eqb b b refl in
    ap (λ (o : Option BufferUse). clash o (named_at kinds args k)) one
    ∙ ap (λ (o : Option BufferUse). clash (Some (record { space = s; buffer = b })) o) two
    ∙ ap (λ (x : Bool). x && nat_eq b b) other
    ∙ same

-- the place of such a name is one of an argument
within : (kinds : List ParamKind) (args : List Arg) (k : ℕ) (u : BufferUse) → named_at kinds args k ≡ Some u → k < length args
within kinds args k u is = let given = is_given (slice_get kinds k) (slice_get args k) u is in slice_get_within args k given.0 given.1

abbrev space_of : Option BufferUse → Space
space_of None = space.Local
space_of (Some u) = u.space

pub one_space : (kinds : List ParamKind) (buffers : List BufShape) (args : List Arg) → AllFit buffers kinds args → NoneBoth kinds args → (b j k : ℕ)
    → NamesIn space.Constant b (slice_get kinds j) (slice_get (bounds_from kinds buffers 0 args) j)
    → NamesIn space.Global b (slice_get kinds k) (slice_get (bounds_from kinds buffers 0 args) k) → ⊥
one_space kinds buffers args fit none b j k one two =
    let one' = subst (λ (o : Option Bound). NamesIn space.Constant b (slice_get kinds j) o) (bounds_here kinds buffers args j) one in
    let two' = subst (λ (o : Option Bound). NamesIn space.Global b (slice_get kinds k) o) (bounds_here kinds buffers args k) two in
    let at : named_at kinds args j ≡ Some (record { space = space.Constant; buffer = b }) =
    is_named kinds buffers j space.Constant b (slice_get kinds j) (slice_get args j) refl (λ a is. fit j (slice_get_within args j a is)) one' in
    let at' : named_at kinds args k ≡ Some (record { space = space.Global; buffer = b }) =
    is_named kinds buffers k space.Global b (slice_get kinds k) (slice_get args k) refl (λ a is. fit k (slice_get_within args k a is)) two' in
    elim (cases_lt j k) [
      | inl less ↦ true≢false (sym (clashes kinds args j k space.Constant space.Global b refl at at') ∙ none k (within kinds args k _ at') j less)
      | inr more ↦ elim (cases_eq j k) [
        | inl same ↦ both at (subst (λ (n : ℕ). named_at kinds args n ≡ Some (record { space = space.Global; buffer = b })) (sym same) at')
        | inr differ ↦ true≢false (sym (clashes kinds args k j space.Global space.Constant b refl at' at) ∙ none j (within kinds args j _ at) k (omega (arith, more, differ)))
      ]
    ]
  where
    both : {o : Option BufferUse} → o ≡ Some (record { space = space.Constant; buffer = b }) → o ≡ Some (record { space = space.Global; buffer = b }) → ⊥
    both p q = let same : space.Constant ≡ space.Global = ap space_of (sym p ∙ q) in cc
