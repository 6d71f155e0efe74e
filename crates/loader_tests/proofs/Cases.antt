-- The launches that the tests ask for can be checked.
use Rattle.std.proofs.Common.{◌≡◌, ℕ, zero, suc, ◌+◌, ◌*◌, ◌/◌, ◌%◌, ◌<◌, ◌≤◌, true, ltb-true, List, map, slice_get, Option, Some, inl, inr, refl, ap, sym, subst, arith, lit≤}
use Rattle.std.proofs.lemmas.Bool.{cases_eq}
use Rattle.std.proofs.lemmas.Option.{slice_get_within}
use Rattle.vx_base.specs.Values.{elem_bytes}
use Rattle.vx_base.specs.declared.types.Elem.TheVariants.{Int, Uchar}
use Rattle.vx_isa.specs.declared.image.Image.{Image}
use Rattle.vx_layout.specs.Addresses.{Span, has}
use Rattle.vx_layout.specs.Launching.{ApartByLines}
use Rattle.vx_layout.proofs.Spans.{has_from, has_below}
use Rattle.launch_loader.specs.Conditions.{CanCheck, case_of, span_of}
use Rattle.launch_plans.specs.declared.plans.Arg.{Arg}
use Rattle.launch_plans.specs.declared.plans.Arg.TheVariants.{Buffer}
use Rattle.launch_loader.specs.declared.buffers.BufShape.{BufShape}
use Rattle.launch_plans.specs.declared.plans.Plan.{Plan}
use Rattle.launch_plans.specs.declared.shapes.Shape.{Shape}
use Rattle.launch_plans.specs.Shapes.{IsShape}
use Rattle.loader_tests.specs.Launches.{AreKnown, IsPlain, IsSmall, is_known, two_buffers}

-- what holds of all below a number and of the number holds of all below one more
pub one_more : (P : ℕ → Type 0) (n : ℕ) → ((k : ℕ) → k < n → P k) → P n → (k : ℕ) → k < n + 1 → P k
one_more P n before here k less = elim (cases_eq k n) [
  | inl same ↦ subst P (sym same) here
  | inr differ ↦ before k (omega arith)
]

-- what holds of both buffers holds of each
each : (P : BufShape → Type 0) → P (record { elem = Int; count = 16; start = 0 }) → P (record { elem = Uchar; count = 64; start = 64 })
    → (i : ℕ) (b : BufShape) → slice_get two_buffers i ≡ Some b → P b
each P one two zero b at = let same : record { elem = Int; count = 16; start = 0 } ≡ b = cc in subst P same one
each P one two (suc zero) b at = let same : record { elem = Uchar; count = 64; start = 64 } ≡ b = cc in subst P same two
each P one two (suc (suc i)) b at = absurd (cc)

-- a byte of the first and a byte of the second are on two lines
parted : (s t : Span) (a b : ℕ) → record { start = 0; size = 64 } ≡ s → record { start = 64; size = 64 } ≡ t
    → has s a ≡ true → has t b ≡ true → a / 64 ≡ b / 64 → ⊥
parted s t a b first second sa tb line =
    let below : a < 64 = subst (λ (x : Span). a < x.start + x.size) (sym first) (has_below s a sa) in
    let above : 64 ≤ b = subst (λ (x : Span). x.start ≤ b) (sym second) (has_from t b tb) in
    omega (arith, below, above, line)

apart : ApartByLines (map span_of two_buffers)
apart zero zero s t a b is jt sa tb line = refl
apart zero (suc zero) s t a b is jt sa tb line =
    let first : record { start = 0; size = 64 } ≡ s = cc in
    let second : record { start = 64; size = 64 } ≡ t = cc in
    absurd (parted s t a b first second sa tb line)
apart zero (suc (suc j)) s t a b is jt sa tb line = absurd (cc)
apart (suc zero) zero s t a b is jt sa tb line =
    let first : record { start = 0; size = 64 } ≡ t = cc in
    let second : record { start = 64; size = 64 } ≡ s = cc in
    absurd (parted t s b a first second tb sa (sym line))
apart (suc zero) (suc zero) s t a b is jt sa tb line = refl
apart (suc zero) (suc (suc j)) s t a b is jt sa tb line = absurd (cc)
apart (suc (suc i)) j s t a b is jt sa tb line = absurd (cc)

known_below : (args : List Arg) → AreKnown args → (k b : ℕ) → slice_get args k ≡ Some (Buffer b) → b < 2
known_below args known k b at =
    let here : is_known (Some (Buffer b)) ≡ true = subst (λ (o : Option Arg). is_known o ≡ true) at (known k (slice_get_within args k (Buffer b) at)) in
    ltb-true b 2 here

pub can_check : (image : Image) (plan : Plan) (shape : Shape) (buffers : List BufShape) → buffers ≡ two_buffers
    → IsShape shape → IsSmall image → IsPlain plan → CanCheck (case_of image plan shape buffers)
can_check image plan shape buffers same shaped small plain =
    subst (λ (bs : List BufShape). CanCheck (case_of image plan shape bs)) (sym same) (record {
      shape = shaped;
      some_dims = omega (arith, plain.dims);
      dims = omega (arith, plain.dims);
      some_global = plain.global;
      some_local = plain.local;
      past_global = λ d past less. absurd (omega (arith, plain.dims, past, less));
      past_local = λ d past less. absurd (omega (arith, plain.dims, past, less));
      known = known_below plan.args plain.known;
      aligned = each (λ b. b.start % 64 ≡ 0) refl refl;
      inside = each (λ b. b.start + b.count * elem_bytes b.elem ≤ 4194304) (lit≤ tt) (lit≤ tt);
      apart = apart;
      words = small.words;
      slots = small.slots;
      params = small.params;
      locals = small.locals;
      args = plain.args;
    })
