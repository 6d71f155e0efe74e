-- A launch is refused for one fault alone.
use Rattle.std.proofs.Common.{◌≡◌, ℕ, ◌<◌, ◌≤◌, true≢false, List, refl, ap, sym, ◌∙◌, inl, inr, Result, Ok, Err, arith}
use Rattle.std.specs.Prelude.{slice_index, MatchResult}
use Rattle.std.proofs.lemmas.Bool.{cases_lt, cases_eq}
use Rattle.vx_base.specs.declared.types.ParamKind.{ParamKind}
use Rattle.item_acts.specs.declared.acts.Range.{Range}
use Rattle.vx_layout.specs.Launching.{Accepted}
use Rattle.launch_loader.specs.declared.checked.Checked.{Checked}
use Rattle.launch_plans.specs.declared.plans.Arg.{Arg}
use Rattle.launch_loader.specs.declared.buffers.BufShape.{BufShape}
use Rattle.launch_loader.specs.declared.faults.LaunchFault.{LaunchFault}
use Rattle.launch_loader.specs.declared.faults.LaunchFault.TheVariants.{Arguments, Argument, Both, Divide, GroupSize, Groups, LocalMemory, Memory}
use Rattle.launch_loader.specs.Checking.{IsChecked, IsRefused, IsUnchecked, Passes, RefusesLocals, local_bytes}
use Rattle.launch_loader.specs.Conditions.{Case, layout_of}
use Rattle.launch_loader.specs.Refusals.{AllFit, IsMisfit, IsFirstUneven, RefusesArguments, RefusesRange, TakesArguments, TakesRange}
use Rattle.launch_loader.specs.Spaces.{IsBoth, NoneBoth}

-- two places of which neither is below the other are one
one_place : (j k : ℕ) → ¬ (j < k) → ¬ (k < j) → j ≡ k
one_place j k not_below not_above = elim (cases_lt j k) [
  | inl less ↦ absurd (not_below less)
  | inr more ↦ elim (cases_eq j k) [
    | inl same ↦ same
    | inr differ ↦ absurd (not_above (omega (arith, more, differ)))
  ]
]

-- ---- arguments

misfit_once : (buffers : List BufShape) (kinds : List ParamKind) (args : List Arg) (j k : ℕ) → IsMisfit buffers kinds args j → IsMisfit buffers kinds args k → j ≡ k
misfit_once buffers kinds args j k one two =
    one_place j k (λ less. true≢false (sym (two.first j less) ∙ one.refused)) (λ less. true≢false (sym (one.first k less) ∙ two.refused))

misfit_not : (buffers : List BufShape) (kinds : List ParamKind) (args : List Arg) (k : ℕ) → AllFit buffers kinds args → IsMisfit buffers kinds args k → ⊥
misfit_not buffers kinds args k fit one = true≢false (sym (fit k one.inside) ∙ one.refused)

both_once : (kinds : List ParamKind) (args : List Arg) (j k : ℕ) → IsBoth kinds args j → IsBoth kinds args k → j ≡ k
both_once kinds args j k one two =
    one_place j k
    (λ less. let clash = one.earlier in true≢false (sym clash.2 ∙ two.first j less clash.0 clash.1))
    (λ less. let clash = two.earlier in true≢false (sym clash.2 ∙ one.first k less clash.0 clash.1))

both_not : (kinds : List ParamKind) (args : List Arg) (k : ℕ) → NoneBoth kinds args → IsBoth kinds args k → ⊥
both_not kinds args k none one = let clash = one.earlier in true≢false (sym clash.2 ∙ none k one.inside clash.0 clash.1)

arguments_once : (buffers : List BufShape) (kinds : List ParamKind) (args : List Arg) (f g : LaunchFault)
    → RefusesArguments buffers kinds args f → RefusesArguments buffers kinds args g → f ≡ g
arguments_once buffers kinds args (Arguments given wanted) (Arguments given' wanted') one two = ap (λ (n : ℕ). Arguments n wanted) (one.0 ∙ sym two.0) ∙ ap (λ (n : ℕ). Arguments given' n) (one.1 ∙ sym two.1)
arguments_once buffers kinds args (Arguments given wanted) (Argument place') one two = absurd (one.2 (one.0 ∙ two.0 ∙ sym one.1))
arguments_once buffers kinds args (Arguments given wanted) (Both place') one two = absurd (one.2 (one.0 ∙ two.0 ∙ sym one.1))
arguments_once buffers kinds args (Arguments given wanted) (Divide whole' part') one two = absurd two
arguments_once buffers kinds args (Arguments given wanted) (GroupSize items' most') one two = absurd two
arguments_once buffers kinds args (Arguments given wanted) (Groups count') one two = absurd two
arguments_once buffers kinds args (Arguments given wanted) (LocalMemory bytes') one two = absurd two
arguments_once buffers kinds args (Arguments given wanted) Memory one two = absurd two
arguments_once buffers kinds args (Argument place) (Arguments given' wanted') one two = absurd (two.2 (two.0 ∙ one.0 ∙ sym two.1))
arguments_once buffers kinds args (Argument place) (Argument place') one two = ap Argument (misfit_once buffers kinds args place place' one.1 two.1)
arguments_once buffers kinds args (Argument place) (Both place') one two = absurd (misfit_not buffers kinds args place two.1 one.1)
arguments_once buffers kinds args (Argument place) (Divide whole' part') one two = absurd two
arguments_once buffers kinds args (Argument place) (GroupSize items' most') one two = absurd two
arguments_once buffers kinds args (Argument place) (Groups count') one two = absurd two
arguments_once buffers kinds args (Argument place) (LocalMemory bytes') one two = absurd two
arguments_once buffers kinds args (Argument place) Memory one two = absurd two
arguments_once buffers kinds args (Both place) (Arguments given' wanted') one two = absurd (two.2 (two.0 ∙ one.0 ∙ sym two.1))
arguments_once buffers kinds args (Both place) (Argument place') one two = absurd (misfit_not buffers kinds args place' one.1 two.1)
arguments_once buffers kinds args (Both place) (Both place') one two = ap Both (both_once kinds args place place' one.2 two.2)
arguments_once buffers kinds args (Both place) (Divide whole' part') one two = absurd two
arguments_once buffers kinds args (Both place) (GroupSize items' most') one two = absurd two
arguments_once buffers kinds args (Both place) (Groups count') one two = absurd two
arguments_once buffers kinds args (Both place) (LocalMemory bytes') one two = absurd two
arguments_once buffers kinds args (Both place) Memory one two = absurd two
arguments_once buffers kinds args (Divide whole part) g one two = absurd one
arguments_once buffers kinds args (GroupSize items most) g one two = absurd one
arguments_once buffers kinds args (Groups count) g one two = absurd one
arguments_once buffers kinds args (LocalMemory bytes) g one two = absurd one
arguments_once buffers kinds args Memory g one two = absurd one

arguments_not : (buffers : List BufShape) (kinds : List ParamKind) (args : List Arg) (f : LaunchFault)
    → TakesArguments buffers kinds args → RefusesArguments buffers kinds args f → ⊥
arguments_not buffers kinds args (Arguments given wanted) taken one = one.2 (one.0 ∙ taken.many ∙ sym one.1)
arguments_not buffers kinds args (Argument place) taken one = misfit_not buffers kinds args place taken.fit one.1
arguments_not buffers kinds args (Both place) taken one = both_not kinds args place taken.spaces one.2
arguments_not buffers kinds args (Divide whole part) taken one = one
arguments_not buffers kinds args (GroupSize items most) taken one = one
arguments_not buffers kinds args (Groups count) taken one = one
arguments_not buffers kinds args (LocalMemory bytes) taken one = one
arguments_not buffers kinds args Memory taken one = one

-- ---- ranges

uneven_once : (range : Range) (d e : ℕ) → IsFirstUneven range d → IsFirstUneven range e → d ≡ e
uneven_once range d e one two = one_place d e (λ less. one.uneven (two.first d less)) (λ less. two.uneven (one.first e less))

-- the sizes of one dimension
divide_same : (range : Range) (whole part whole' part' d e : ℕ) → d ≡ e
    → whole ≡ slice_index range.global d → part ≡ slice_index range.local d → whole' ≡ slice_index range.global e → part' ≡ slice_index range.local e
    → Divide whole part ≡ Divide whole' part'
divide_same range whole part whole' part' d e same one two one' two' =
    ap (λ (n : ℕ). Divide n part) (one ∙ ap (λ (n : ℕ). slice_index range.global n) same ∙ sym one')
    ∙ ap (λ (n : ℕ). Divide whole' n) (two ∙ ap (λ (n : ℕ). slice_index range.local n) same ∙ sym two')

too_many : {most size limit : ℕ} → most < size → most ≡ limit → size ≤ limit → ⊥
too_many above is below = omega (arith, above, is, below)

range_once : (range : Range) (warps lanes : ℕ) (f g : LaunchFault) → RefusesRange range warps lanes f → RefusesRange range warps lanes g → f ≡ g
range_once range warps lanes (Arguments given wanted) g one two = absurd one
range_once range warps lanes (Argument place) g one two = absurd one
range_once range warps lanes (Both place) g one two = absurd one
range_once range warps lanes (Divide whole part) (Arguments given' wanted') one two = absurd two
range_once range warps lanes (Divide whole part) (Argument place') one two = absurd two
range_once range warps lanes (Divide whole part) (Both place') one two = absurd two
range_once range warps lanes (Divide whole part) (Divide whole' part') one two = divide_same range whole part whole' part' one.0 two.0 (uneven_once range one.0 two.0 one.1 two.1) one.2 one.3 two.2 two.3
range_once range warps lanes (Divide whole part) (GroupSize items' most') one two = absurd (one.1.uneven (two.0 one.0 one.1.inside))
range_once range warps lanes (Divide whole part) (Groups count') one two = absurd (one.1.uneven (two.0 one.0 one.1.inside))
range_once range warps lanes (Divide whole part) (LocalMemory bytes') one two = absurd two
range_once range warps lanes (Divide whole part) Memory one two = absurd two
range_once range warps lanes (GroupSize items most) (Arguments given' wanted') one two = absurd two
range_once range warps lanes (GroupSize items most) (Argument place') one two = absurd two
range_once range warps lanes (GroupSize items most) (Both place') one two = absurd two
range_once range warps lanes (GroupSize items most) (Divide whole' part') one two = absurd (two.1.uneven (one.0 two.0 two.1.inside))
range_once range warps lanes (GroupSize items most) (GroupSize items' most') one two = ap (λ (n : ℕ). GroupSize n most) (one.2 ∙ sym two.2) ∙ ap (λ (n : ℕ). GroupSize items' n) (one.3 ∙ sym two.3)
range_once range warps lanes (GroupSize items most) (Groups count') one two = absurd (too_many one.1 one.3 two.1)
range_once range warps lanes (GroupSize items most) (LocalMemory bytes') one two = absurd two
range_once range warps lanes (GroupSize items most) Memory one two = absurd two
range_once range warps lanes (Groups count) (Arguments given' wanted') one two = absurd two
range_once range warps lanes (Groups count) (Argument place') one two = absurd two
range_once range warps lanes (Groups count) (Both place') one two = absurd two
range_once range warps lanes (Groups count) (Divide whole' part') one two = absurd (two.1.uneven (one.0 two.0 two.1.inside))
range_once range warps lanes (Groups count) (GroupSize items' most') one two = absurd (too_many two.1 two.3 one.1)
range_once range warps lanes (Groups count) (Groups count') one two = ap Groups (one.3 ∙ sym two.3)
range_once range warps lanes (Groups count) (LocalMemory bytes') one two = absurd two
range_once range warps lanes (Groups count) Memory one two = absurd two
range_once range warps lanes (LocalMemory bytes) g one two = absurd one
range_once range warps lanes Memory g one two = absurd one

range_not : (range : Range) (warps lanes : ℕ) (f : LaunchFault) → TakesRange range warps lanes → RefusesRange range warps lanes f → ⊥
range_not range warps lanes (Arguments given wanted) taken one = one
range_not range warps lanes (Argument place) taken one = one
range_not range warps lanes (Both place) taken one = one
range_not range warps lanes (Divide whole part) taken one = one.1.uneven (taken.divides one.0 one.1.inside)
range_not range warps lanes (GroupSize items most) taken one = too_many one.1 one.3 taken.group
range_not range warps lanes (Groups count) taken one = too_many one.2 refl taken.groups
range_not range warps lanes (LocalMemory bytes) taken one = one
range_not range warps lanes Memory taken one = one

-- ---- `__local` arrays

locals_once : (c : Case) (f g : LaunchFault) → RefusesLocals c f → RefusesLocals c g → f ≡ g
locals_once c (Arguments given wanted) g one two = absurd one
locals_once c (Argument place) g one two = absurd one
locals_once c (Both place) g one two = absurd one
locals_once c (Divide whole part) g one two = absurd one
locals_once c (GroupSize items most) g one two = absurd one
locals_once c (Groups count) g one two = absurd one
locals_once c (LocalMemory bytes) (Arguments given' wanted') one two = absurd two
locals_once c (LocalMemory bytes) (Argument place') one two = absurd two
locals_once c (LocalMemory bytes) (Both place') one two = absurd two
locals_once c (LocalMemory bytes) (Divide whole' part') one two = absurd two
locals_once c (LocalMemory bytes) (GroupSize items' most') one two = absurd two
locals_once c (LocalMemory bytes) (Groups count') one two = absurd two
locals_once c (LocalMemory bytes) (LocalMemory bytes') one two = ap LocalMemory (one.1 ∙ sym two.1)
locals_once c (LocalMemory bytes) Memory one two = absurd two
locals_once c Memory g one two = absurd one

locals_not : (c : Case) (f : LaunchFault) → local_bytes c ≤ 262144 → RefusesLocals c f → ⊥
locals_not c (Arguments given wanted) few one = one
locals_not c (Argument place) few one = one
locals_not c (Both place) few one = one
locals_not c (Divide whole part) few one = one
locals_not c (GroupSize items most) few one = one
locals_not c (Groups count) few one = one
locals_not c (LocalMemory bytes) few one = too_many one.0 refl few
locals_not c Memory few one = one

-- ---- the whole launch

pub refused_once : (c : Case) (f g : LaunchFault) → IsRefused c f → IsRefused c g → f ≡ g
refused_once c f g (inl one) (inl two) = arguments_once c.buffers c.image.params c.plan.args f g one two
refused_once c f g (inl one) (inr (inl two)) = absurd (arguments_not c.buffers c.image.params c.plan.args f two.0 one)
refused_once c f g (inl one) (inr (inr two)) = absurd (arguments_not c.buffers c.image.params c.plan.args f two.0 one)
refused_once c f g (inr (inl one)) (inl two) = absurd (arguments_not c.buffers c.image.params c.plan.args g one.0 two)
refused_once c f g (inr (inl one)) (inr (inl two)) = range_once c.plan.range c.shape.warps c.shape.lanes f g one.1 two.1
refused_once c f g (inr (inl one)) (inr (inr two)) = absurd (range_not c.plan.range c.shape.warps c.shape.lanes f two.1 one.1)
refused_once c f g (inr (inr one)) (inl two) = absurd (arguments_not c.buffers c.image.params c.plan.args g one.0 two)
refused_once c f g (inr (inr one)) (inr (inl two)) = absurd (range_not c.plan.range c.shape.warps c.shape.lanes g one.1 two.1)
refused_once c f g (inr (inr one)) (inr (inr two)) = locals_once c f g one.2 two.2

pub refused_not : (c : Case) (f : LaunchFault) → Passes c → IsRefused c f → ⊥
refused_not c f passes (inl one) = arguments_not c.buffers c.image.params c.plan.args f passes.arguments one
refused_not c f passes (inr (inl one)) = range_not c.plan.range c.shape.warps c.shape.lanes f passes.range one.1
refused_not c f passes (inr (inr one)) = locals_not c f passes.locals one.2

-- a call that answers so answers each refusal
pub exactly : (c : Case) (result : Result Checked LaunchFault) → MatchResult result (IsChecked c) (IsUnchecked c) → (f : LaunchFault) → IsRefused c f → result ≡ Err f
exactly c (Ok checked) answer f one = absurd (refused_not c f answer.passes one)
exactly c (Err g) (inl other) f one = ap Err (refused_once c g f other one)
exactly c (Err g) (inr other) f one = absurd (refused_not c f other.1 one)

-- one that keeps a launch that nothing refuses answers so
pub keeps : (c : Case) (result : Result Checked LaunchFault) → Passes c → Accepted (layout_of c)
    → MatchResult result (λ (k : Checked). (k.plan ≡ c.plan) × (k.buffers ≡ c.buffers)) (λ (f : LaunchFault). f ≡ Memory) → MatchResult result (IsChecked c) (IsUnchecked c)
keeps c (Ok k) passes may kept = record { plan = kept.0; buffers = kept.1; passes = passes; accepted = may }
keeps c (Err f) passes may memory = inr (memory, passes)
