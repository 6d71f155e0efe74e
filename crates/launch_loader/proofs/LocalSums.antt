-- The bytes of the `__local` arrays of a group, summed up.
use Rattle.std.proofs.Common.{◌≡◌, ℕ, zero, suc, ◌+◌, ◌*◌, ◌<◌, true, List, [], ◌∷◌, ◌++◌, length, map, sum, slice_get, refl, ap, sym, ◌∙◌, arith}
use Rattle.std.specs.Prelude.{slice_index}
use Rattle.std.specs.List.{sum_by}
use Rattle.std.proofs.lemmas.List.Sums.{sum-map, sum_by-append, sum_by-cons}
use Rattle.vx_base.specs.Values.{elem_bytes}
use Rattle.vx_base.specs.declared.types.ParamKind.{ParamKind}
use Rattle.vx_base.specs.declared.types.ParamKind.TheVariants.{Scalar, Pointer}
use Rattle.vx_base.specs.declared.types.Space.TheVariants as space
use Rattle.vx_layout.specs.Addresses.{in_words}
use Rattle.vx_layout.specs.Launching.{param_sizes, with_local}
use Rattle.launch_plans.specs.declared.plans.Arg.{Arg}
use Rattle.launch_plans.specs.declared.plans.Arg.TheVariants as arg
use Rattle.launch_loader.specs.declared.buffers.BufShape.{BufShape}
use Rattle.launch_loader.specs.Checking.{local_bytes}
use Rattle.launch_loader.specs.Conditions.{Case, bound_of, bounds_from}
use Rattle.launch_loader.specs.Locals.{given_bytes, given_at, words_below}
use Rattle.launch_loader.specs.Refusals.{TakesArguments, fits_both, takes}

-- the first is taken out
moved : (x a b y : ℕ) → x ≡ a + b → x + y ≡ a + (b + y)
moved x a b y e = omega (arith, e)

first : (size : ℕ → ℕ) (n : ℕ) → words_below size (suc n) ≡ in_words (size 0) + words_below (λ (k : ℕ). size (suc k)) n
first size zero = nothing (in_words (size 0))
  where
    nothing : (x : ℕ) → 0 + x ≡ x + 0
    nothing x = omega arith
first size (suc n) = moved (words_below size (suc n)) (in_words (size 0)) (words_below (λ (k : ℕ). size (suc k)) n) (in_words (size (suc n))) (first size n)

one_sum : (size : ℕ) (sizes : List ℕ) → sum (map in_words (size ∷ sizes)) ≡ in_words size + sum (map in_words sizes)
one_sum size sizes = sum_by-cons (λ (n : ℕ). n) (in_words size) (map in_words sizes)

pub declared_sum : (sizes : List ℕ) → sum (map in_words sizes) ≡ words_below (slice_index sizes) (length sizes)
declared_sum [] = refl
declared_sum (size ∷ sizes) = one_sum size sizes ∙ ap (λ (n : ℕ). in_words size + n) (declared_sum sizes) ∙ sym (first (slice_index (size ∷ sizes)) (length sizes))

none : (x : ℕ) → x ≡ 0 + x
none x = omega arith

one_more : (kinds : List ParamKind) (buffers : List BufShape) (k : ℕ) (kind : ParamKind) (a : Arg) → takes buffers kind a ≡ true → (sizes : List ℕ)
    → sum (map in_words (with_local kind (bound_of kinds buffers k a) sizes)) ≡ in_words (given_bytes kind a) + sum (map in_words sizes)
one_more kinds buffers k (Scalar elem) (arg.Int value) taken sizes = none (sum (map in_words sizes))
one_more kinds buffers k (Scalar elem) (arg.Buffer b) taken sizes = absurd (cc)
one_more kinds buffers k (Scalar elem) (arg.Local count) taken sizes = absurd (cc)
one_more kinds buffers k (Pointer space.Local elem readonly) (arg.Local count) taken sizes = one_sum (count * elem_bytes elem) sizes
one_more kinds buffers k (Pointer space.Local elem readonly) (arg.Buffer b) taken sizes = absurd (cc)
one_more kinds buffers k (Pointer space.Local elem readonly) (arg.Int value) taken sizes = absurd (cc)
one_more kinds buffers k (Pointer space.Global elem readonly) (arg.Local count) taken sizes = absurd (cc)
one_more kinds buffers k (Pointer space.Global elem readonly) (arg.Buffer b) taken sizes = none (sum (map in_words sizes))
one_more kinds buffers k (Pointer space.Global elem readonly) (arg.Int value) taken sizes = absurd (cc)
one_more kinds buffers k (Pointer space.Constant elem readonly) (arg.Local count) taken sizes = absurd (cc)
one_more kinds buffers k (Pointer space.Constant elem readonly) (arg.Buffer b) taken sizes = none (sum (map in_words sizes))
one_more kinds buffers k (Pointer space.Constant elem readonly) (arg.Int value) taken sizes = absurd (cc)

given_sum : (all : List ParamKind) (buffers : List BufShape) (j : ℕ) (kinds : List ParamKind) (args : List Arg) → length args ≡ length kinds
    → ((k : ℕ) → k < length args → fits_both buffers (slice_get kinds k) (slice_get args k) ≡ true)
    → sum (map in_words (param_sizes kinds (bounds_from all buffers j args))) ≡ words_below (given_at kinds args) (length args)
given_sum all buffers j [] [] many fit = refl
given_sum all buffers j [] (a ∷ args) many fit = absurd (omega (arith, many))
given_sum all buffers j (kind ∷ kinds) [] many fit = absurd (omega (arith, many))
given_sum all buffers j (kind ∷ kinds) (a ∷ args) many fit =
    let fewer : length args ≡ length kinds = omega (arith, many) in
    one_more all buffers j kind a (fit 0 (omega arith)) (param_sizes kinds (bounds_from all buffers (suc j) args))
    ∙ ap (λ (n : ℕ). in_words (given_bytes kind a) + n) (given_sum all buffers (suc j) kinds args fewer (λ k less. fit (suc k) (omega (arith, less))))
    ∙ sym (first (given_at (kind ∷ kinds) (a ∷ args)) (length args))

sum_append : (xs ys : List ℕ) → sum (map in_words (xs ++ ys)) ≡ sum (map in_words xs) + sum (map in_words ys)
sum_append xs ys =
    sum-map in_words (xs ++ ys) ∙ sum_by-append in_words xs ys
    ∙ ap (λ (n : ℕ). n + sum_by in_words ys) (sym (sum-map in_words xs)) ∙ ap (λ (n : ℕ). sum (map in_words xs) + n) (sym (sum-map in_words ys))

pub all_sum : (c : Case) → TakesArguments c.buffers c.image.params c.plan.args
    → local_bytes c ≡ words_below (given_at c.image.params c.plan.args) (length c.plan.args) + words_below (slice_index c.image.locals) (length c.image.locals)
all_sum c taken =
    sum_append (param_sizes c.image.params (bounds_from c.image.params c.buffers 0 c.plan.args)) c.image.locals
    ∙ ap (λ (n : ℕ). n + sum (map in_words c.image.locals)) (given_sum c.image.params c.buffers 0 c.image.params c.plan.args taken.many taken.fit)
    ∙ ap (λ (n : ℕ). words_below (given_at c.image.params c.plan.args) (length c.plan.args) + n) (declared_sum c.image.locals)
