-- The worked launch.
use Rattle.std.proofs.Common.{◌≡◌, ℕ, zero, suc, ◌+◌, ◌%◌, ◌<◌, ◌≤◌, Bool, true, false, List, [], ◌∷◌, slice_get, Option, None, Some, refl, ap, sym, subst, ◌∙◌, arith, lit≤}
use Rattle.std.specs.Prelude.{slice_index}
use Rattle.vx_base.specs.declared.types.Elem.TheVariants.{Short, Int}
use Rattle.vx_base.specs.declared.types.ParamKind.{ParamKind}
use Rattle.vx_base.specs.declared.types.ParamKind.TheVariants.{Scalar, Pointer}
use Rattle.vx_base.specs.declared.types.Space.TheVariants as space
use Rattle.item_acts.specs.declared.acts.Bound.{Bound}
use Rattle.item_acts.specs.declared.acts.Bound.TheVariants.{Value, Array}
use Rattle.vx_layout.specs.Addresses.{Span, has, in_lines}
use Rattle.vx_layout.specs.Launching.{Accepted, ApartByLines, Fits, Names, NamesIn, locals_before}
use Rattle.vx_layout.specs.Laws.{worked, WorkedWords, WorkedPlaces}

pub worked_words : WorkedWords
worked_words = record { head = refl; sizes = refl; groups = refl; buffer = refl; scalar = refl; array = refl; others = refl; declared = refl }

pub worked_places : WorkedPlaces
worked_places = record {
  before_buffer = refl;
  first = refl;
  last = refl;
  behind_buffer = refl;
  array = refl;
  declared = refl;
  behind_arrays = refl;
  frame = refl;
  own = refl;
  other_frame = refl;
  word = refl;
  part_of_word = refl;
  element = refl;
}

-- what holds in the one dimension
one : (P : ℕ → Type 0) → P 0 → (d : ℕ) → d < 1 → P d
one P here zero below = here
one P here (suc d) below = absurd (omega arith)

-- a parameter is bound as it should be
fits : (k : ℕ) (kind : ParamKind) (b : Bound) → slice_get worked.params k ≡ Some kind → slice_get worked.bounds k ≡ Some b
    → Fits worked.buffers (locals_before worked.params k) kind b
fits zero kind b at here =
    let same : Pointer space.Global Int true ≡ kind = cc in
    let same' : Array 0 8 ≡ b = cc in
    subst (λ (k : ParamKind). Fits worked.buffers 0 k b) same
    (subst (λ (b : Bound). Fits worked.buffers 0 (Pointer space.Global Int true) b) same' (record { start = 64; size = 32 }, refl, refl))
fits (suc zero) kind b at here =
    let same : Scalar Short ≡ kind = cc in
    let same' : Value 65535 ≡ b = cc in
    subst (λ (k : ParamKind). Fits worked.buffers 0 k b) same (subst (λ (b : Bound). Fits worked.buffers 0 (Scalar Short) b) same' (omega arith))
fits (suc (suc zero)) kind b at here =
    let same : Pointer space.Local Int false ≡ kind = cc in
    let same' : Array 0 4 ≡ b = cc in
    subst (λ (k : ParamKind). Fits worked.buffers 0 k b) same (subst (λ (b : Bound). Fits worked.buffers 0 (Pointer space.Local Int false) b) same' refl)
fits (suc (suc (suc k))) kind b at here = absurd (cc)

-- no parameter is `__constant`
no_constant : (buffer k : ℕ) → NamesIn space.Constant buffer (slice_get worked.params k) (slice_get worked.bounds k) → ⊥
no_constant buffer zero names = let differ = names.0 in cc
no_constant buffer (suc zero) names = names
no_constant buffer (suc (suc zero)) names = let differ = names.0 in cc
no_constant buffer (suc (suc (suc k))) names = names

-- the one buffer
only : (P : Span → Type 0) → P (record { start = 64; size = 32 }) → (i : ℕ) (s : Span) → slice_get worked.buffers i ≡ Some s → P s
only P here zero s at = let same : record { start = 64; size = 32 } ≡ s = cc in subst P same here
only P here (suc i) s at = absurd (cc)

apart : ApartByLines worked.buffers
apart zero zero s t a b is jt sa tb line = refl
apart zero (suc j) s t a b is jt sa tb line = absurd (cc)
apart (suc i) j s t a b is jt sa tb line = absurd (cc)

pub worked_accepted : Accepted worked
worked_accepted = record {
  some_dims = lit≤ tt;
  dims = lit≤ tt;
  some_local = one (λ d. 1 ≤ slice_index worked.range.local d) (lit≤ tt);
  some_global = one (λ d. 1 ≤ slice_index worked.range.global d) (lit≤ tt);
  globals = one (λ d. slice_index worked.range.global d < 4294967296) (omega arith);
  divides = one (λ d. slice_index worked.range.global d % slice_index worked.range.local d ≡ 0) refl;
  some_lanes = lit≤ tt;
  lanes = lit≤ tt;
  warps = lit≤ tt;
  slots = lit≤ tt;
  code = lit≤ tt;
  group = lit≤ tt;
  room = lit≤ tt;
  groups = lit≤ tt;
  params = lit≤ tt;
  arrays = lit≤ tt;
  local_bytes = lit≤ tt;
  bound_each = refl;
  bound = fits;
  one_space = λ buffer constant global. no_constant buffer constant.0 constant.1;
  buffers_aligned = only (λ s. s.start % 64 ≡ 0) refl;
  buffers_apart = apart;
  buffers_in = only (λ s. s.start + in_lines s.size ≤ 128) (lit≤ tt);
  shared = lit≤ tt;
}
