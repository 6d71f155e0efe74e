-- Laws of the words of the launch block.
use Rattle.std.proofs.Common.{◌≡◌, ℕ, zero, suc, ◌+◌, ◌-◌, ◌*◌, ◌/◌, ◌%◌, ◌^◌, ◌<◌, ◌≤◌, ◌⊎◌, Bool, true, false, ◌&&◌, cond, nat_eq, nat_lt, List, [], ◌∷◌, ◌++◌, length, map, get_or, slice_get, Option, None, Some, refl, ap, sym, subst, ◌∙◌, inl, inr, arith, eq-eqb, ne_eqb, lt-ltb}
use Rattle.std.specs.Prelude.{slice_index}
use Rattle.std.specs.List.{count_by}
use Rattle.std.proofs.lemmas.Bool.{cases_lt, cases_eq, cond-true, cond-false, le-ltb}
use Rattle.std.proofs.lemmas.Option.{slice_get-map, slice_get_within, slice_get_past}
use Rattle.std.proofs.lemmas.List.Sums.{sum_by-cons}
use Rattle.std.proofs.Math.Nat.{mod-eq_of_lt, div-le_self, mod-le}
use Rattle.vx_base.specs.Values.{elem_bytes, fitted}
use Rattle.vx_base.specs.declared.types.Elem.{Elem}
use Rattle.vx_base.specs.declared.types.Elem.TheVariants.{Char, Uchar, Short, Ushort, Int, Uint}
use Rattle.vx_base.specs.declared.types.ParamKind.{ParamKind}
use Rattle.vx_base.specs.declared.types.ParamKind.TheVariants.{Scalar, Pointer}
use Rattle.vx_base.specs.declared.types.Space.{Space}
use Rattle.vx_base.specs.declared.types.Space.TheVariants as space
use Rattle.vx_base.proofs.ValueLaws.{fitted-lt}
use Rattle.item_acts.specs.declared.acts.Bound.{Bound}
use Rattle.item_acts.specs.declared.acts.Bound.TheVariants.{Value, Array}
use Rattle.item_acts.specs.declared.acts.Place.{Place}
use Rattle.item_acts.specs.declared.acts.Place.TheVariants.{Global, Local}
use Rattle.vx_layout.specs.Addresses.{Span, Map, IsMap, in_words, in_lines, spans_from, arrays_start, frames_start, buffers_start, place_at}
use Rattle.item_acts.specs.declared.acts.Range.{Range}
use Rattle.vx_layout.specs.Launching.{Plan, Accepted, Fits, size_in, group_size, groups_in, group_count, coordinate, warps_for, local_sizes, map_of, buffer_at, param_sizes, with_local, locals_before, is_local, is_local_kind}
use Rattle.vx_layout.specs.Blocks.{head_of, block_of, param_word, declared_word, first_word, second_word, array_start, start_of, local_params}
use Rattle.vx_layout.specs.Located.{byte_in, StandsAt, ScalarWords, ArrayWords, DeclaredWord}
use Rattle.vx_layout.proofs.Spans.{IsSpan, in_all, span_of, span_aligned, span_within}
use Rattle.vx_layout.proofs.Maps.{is_map, at_buffer, at_local, buffer_in_map}

-- ---- lists

slice_get_front : {A : Type 0} (xs ys : List A) (i : ℕ) (x : A) → slice_get xs i ≡ Some x → slice_get (xs ++ ys) i ≡ Some x
slice_get_front [] ys i x at = absurd (cc)
slice_get_front (y ∷ xs) ys zero x at = at
slice_get_front (y ∷ xs) ys (suc i) x at = slice_get_front xs ys i x at

slice_get_behind : {A : Type 0} (xs ys : List A) (i k : ℕ) → i ≡ length xs + k → slice_get (xs ++ ys) i ≡ slice_get ys k
slice_get_behind [] ys i k e = let same : i ≡ k = omega arith in ap (slice_get ys) same
slice_get_behind (x ∷ xs) ys zero k e = absurd (omega arith)
slice_get_behind (x ∷ xs) ys (suc i) k e = slice_get_behind xs ys i k (omega arith)

-- ---- which word is which

-- the two words of a parameter
pub even_word : (p : Plan) (group k : ℕ) → k < 16 → block_of p group (16 + 2 * k) ≡ first_word (map_of p) (slice_get p.params k) (slice_get p.bounds k)
even_word p group k below =
    let small : nat_lt (16 + 2 * k) 16 ≡ false = le-ltb (16 + 2 * k) 16 (omega arith) in
    let large : nat_lt (16 + 2 * k) 48 ≡ true = lt-ltb (16 + 2 * k) 48 (omega arith) in
    let back : 16 + 2 * k - 16 ≡ 2 * k = omega arith in
    let even : nat_eq (2 * k % 2) 0 ≡ true = eq-eqb (2 * k % 2) 0 (omega arith) in
    let half : 2 * k / 2 ≡ k = omega arith in
    cond-false (nat_lt (16 + 2 * k) 16) _ _ small ∙ cond-true (nat_lt (16 + 2 * k) 48) _ _ large ∙ ap (param_word p) back
    ∙ cond-true (nat_eq (2 * k % 2) 0) _ _ even ∙ ap (λ (n : ℕ). first_word (map_of p) (slice_get p.params n) (slice_get p.bounds n)) half

pub odd_word : (p : Plan) (group k : ℕ) → k < 16 → block_of p group (17 + 2 * k) ≡ second_word (slice_get p.params k) (slice_get p.bounds k)
odd_word p group k below =
    let small : nat_lt (17 + 2 * k) 16 ≡ false = le-ltb (17 + 2 * k) 16 (omega arith) in
    let large : nat_lt (17 + 2 * k) 48 ≡ true = lt-ltb (17 + 2 * k) 48 (omega arith) in
    let back : 17 + 2 * k - 16 ≡ 1 + 2 * k = omega arith in
    let odd : nat_eq ((1 + 2 * k) % 2) 0 ≡ false = ne_eqb ((1 + 2 * k) % 2) 0 (λ e. omega arith) in
    let half : (1 + 2 * k) / 2 ≡ k = omega arith in
    cond-false (nat_lt (17 + 2 * k) 16) _ _ small ∙ cond-true (nat_lt (17 + 2 * k) 48) _ _ large ∙ ap (param_word p) back
    ∙ cond-false (nat_eq ((1 + 2 * k) % 2) 0) _ _ odd ∙ ap (λ (n : ℕ). second_word (slice_get p.params n) (slice_get p.bounds n)) half

-- the word of a declared array
pub late_word : (p : Plan) (group j : ℕ) → block_of p group (48 + j) ≡ declared_word p j
late_word p group j =
    let small : nat_lt (48 + j) 16 ≡ false = le-ltb (48 + j) 16 (omega arith) in
    let large : nat_lt (48 + j) 48 ≡ false = le-ltb (48 + j) 48 (omega arith) in
    let back : 48 + j - 48 ≡ j = omega arith in
    cond-false (nat_lt (48 + j) 16) _ _ small ∙ cond-false (nat_lt (48 + j) 48) _ _ large ∙ ap (declared_word p) back

-- ---- local arrays in their order

-- what a parameter adds to the sizes of local arrays
pub data Adds (kind : ParamKind) (b : Bound) : Type 0 where
  One : (size : ℕ) → is_local_kind kind ≡ true → ((sizes : List ℕ) → with_local kind b sizes ≡ size ∷ sizes) → Adds kind b
  None' : is_local_kind kind ≡ false → ((sizes : List ℕ) → with_local kind b sizes ≡ sizes) → Adds kind b

pub adds : (buffers : List Span) (before : ℕ) (kind : ParamKind) (b : Bound) → Fits buffers before kind b → Adds kind b
adds buffers before (Scalar elem) b fits = None' refl (λ sizes. refl)
adds buffers before (Pointer space.Local elem readonly) (Array place count) fits = One (count * elem_bytes elem) refl (λ sizes. refl)
adds buffers before (Pointer space.Local elem readonly) (Value value) fits = absurd fits
adds buffers before (Pointer space.Global elem readonly) b fits = None' refl (λ sizes. refl)
adds buffers before (Pointer space.Constant elem readonly) b fits = None' refl (λ sizes. refl)

-- the size of a `__local` parameter stands at its number
pub param_size_at : (kinds : List ParamKind) (bounds : List Bound) (k : ℕ) (elem : Elem) (readonly : Bool) (place count : ℕ)
    → ((j : ℕ) (kind : ParamKind) (b : Bound) → slice_get kinds j ≡ Some kind → slice_get bounds j ≡ Some b → Adds kind b)
    → slice_get kinds k ≡ Some (Pointer space.Local elem readonly) → slice_get bounds k ≡ Some (Array place count)
    → slice_get (param_sizes kinds bounds) (locals_before kinds k) ≡ Some (count * elem_bytes elem)
param_size_at [] bounds k elem readonly place count each at here = absurd (cc)
param_size_at (kind ∷ kinds) [] k elem readonly place count each at here = absurd (cc)
param_size_at (kind ∷ kinds) (b ∷ bounds) zero elem readonly place count each at here =
    let is_kind : kind ≡ Pointer space.Local elem readonly = cc in
    let is_bound : b ≡ Array place count = cc in
    ap (λ (kd : ParamKind). slice_get (with_local kd b (param_sizes kinds bounds)) 0) is_kind
    ∙ ap (λ (bd : Bound). slice_get (with_local (Pointer space.Local elem readonly) bd (param_sizes kinds bounds)) 0) is_bound
param_size_at (kind ∷ kinds) (b ∷ bounds) (suc k) elem readonly place count each at here =
    by (each 0 kind b refl refl) (param_size_at kinds bounds k elem readonly place count (λ j kd bd ka ba. each (suc j) kd bd ka ba) at here)
  where
    by : Adds kind b → slice_get (param_sizes kinds bounds) (locals_before kinds k) ≡ Some (count * elem_bytes elem)
        → slice_get (with_local kind b (param_sizes kinds bounds)) (locals_before (kind ∷ kinds) (suc k)) ≡ Some (count * elem_bytes elem)
    by (One size local adding) later =
        ap (λ (sizes : List ℕ). slice_get sizes (locals_before (kind ∷ kinds) (suc k))) (adding (param_sizes kinds bounds))
        ∙ ap (slice_get (size ∷ param_sizes kinds bounds)) (cond-true (is_local_kind kind) (suc (locals_before kinds k)) (locals_before kinds k) local) ∙ later
    by (None' other adding) later =
        ap (λ (sizes : List ℕ). slice_get sizes (locals_before (kind ∷ kinds) (suc k))) (adding (param_sizes kinds bounds))
        ∙ ap (slice_get (param_sizes kinds bounds)) (cond-false (is_local_kind kind) (suc (locals_before kinds k)) (locals_before kinds k) other) ∙ later

-- there are as many as `__local` parameters
pub param_sizes_length : (kinds : List ParamKind) (bounds : List Bound) → length bounds ≡ length kinds
    → ((j : ℕ) (kind : ParamKind) (b : Bound) → slice_get kinds j ≡ Some kind → slice_get bounds j ≡ Some b → Adds kind b)
    → length (param_sizes kinds bounds) ≡ count_by is_local_kind kinds
param_sizes_length [] bounds same each = refl
param_sizes_length (kind ∷ kinds) [] same each = absurd (omega arith)
param_sizes_length (kind ∷ kinds) (b ∷ bounds) same each =
    by (each 0 kind b refl refl) (param_sizes_length kinds bounds (omega arith) (λ j kd bd ka ba. each (suc j) kd bd ka ba))
    (sum_by-cons (λ (kd : ParamKind). cond (is_local_kind kd) 1 0) kind kinds)
  where
    by : Adds kind b → length (param_sizes kinds bounds) ≡ count_by is_local_kind kinds
        → count_by is_local_kind (kind ∷ kinds) ≡ cond {A = ℕ} (is_local_kind kind) 1 0 + count_by is_local_kind kinds
        → length (with_local kind b (param_sizes kinds bounds)) ≡ count_by is_local_kind (kind ∷ kinds)
    by (One size local adding) later step =
        let one : cond {A = ℕ} (is_local_kind kind) 1 0 ≡ 1 = cond-true {A = ℕ} (is_local_kind kind) 1 0 local in
        let e : length (with_local kind b (param_sizes kinds bounds)) ≡ suc (length (param_sizes kinds bounds)) = ap length (adding (param_sizes kinds bounds)) in
        omega arith
    by (None' other adding) later step =
        let none : cond {A = ℕ} (is_local_kind kind) 1 0 ≡ 0 = cond-false {A = ℕ} (is_local_kind kind) 1 0 other in
        let e : length (with_local kind b (param_sizes kinds bounds)) ≡ length (param_sizes kinds bounds) = ap length (adding (param_sizes kinds bounds)) in
        omega arith

-- ---- where arrays stand

local_stands : (p : Plan) → Accepted p → (n size : ℕ) (s : Span) → slice_get (map_of p).locals n ≡ Some s → s.size ≡ size → StandsAt p space.Local n size s.start
local_stands p ok n size s at sized = record {
  names = λ group k below. at_local (map_of p) group n k s (is_map p ok) at (omega arith);
  aligned = span_aligned arrays_start (local_sizes p) n s (omega arith) at;
  small = let m = is_map p ok in let within = m.locals_in n s at in omega (arith, within.1);
}

buffer_stands : (p : Plan) → Accepted p → (space : Space) → ((group k i : ℕ) → byte_in space group i k ≡ Global i k) → (i size : ℕ) (s : Span)
    → slice_get p.buffers i ≡ Some s → s.size ≡ size → StandsAt p space i size (buffers_start + s.start)
buffer_stands p ok space is_global i size s at sized = record {
  names = λ group k below. at_buffer (map_of p) group i k (buffer_at s) (is_map p ok) (buffer_in_map p i s at) (omega arith) ∙ ap Some (sym (is_global group k i));
  aligned = let even = ok.buffers_aligned i s at in omega arith;
  small = let end = ok.buffers_in i s at in let all = ok.shared in omega arith;
}

-- ---- the words of parameters and declared arrays

each_adds : (p : Plan) → Accepted p → (j : ℕ) (kind : ParamKind) (b : Bound) → slice_get p.params j ≡ Some kind → slice_get p.bounds j ≡ Some b → Adds kind b
each_adds p ok j kind b at here = adds p.buffers (locals_before p.params j) kind b (ok.bound j kind b at here)

pub scalar_words : (p : Plan) → Accepted p → (k value : ℕ) (elem : Elem) → slice_get p.params k ≡ Some (Scalar elem) → slice_get p.bounds k ≡ Some (Value value)
    → ScalarWords p k (fitted elem value)
scalar_words p ok k value elem at here =
    λ group.
    let below = slice_get_within p.params k (Scalar elem) at in
    let most = ok.params in (
      even_word p group k (omega arith) ∙ ap (λ (o : Option ParamKind). first_word (map_of p) o (slice_get p.bounds k)) at
          ∙ ap (first_word (map_of p) (Some (Scalar elem))) here,
      odd_word p group k (omega arith) ∙ ap (λ (o : Option ParamKind). second_word o (slice_get p.bounds k)) at
          ∙ ap (second_word (Some (Scalar elem))) here,
    )

-- the two words of an array that stands at an address
words_of_array : (p : Plan) → Accepted p → (k number count size address : ℕ) (space : Space) (elem : Elem) (readonly : Bool)
    → slice_get p.params k ≡ Some (Pointer space elem readonly) → slice_get p.bounds k ≡ Some (Array number count)
    → array_start (map_of p) space number ≡ address → StandsAt p space number size address → ArrayWords p k space number count size
words_of_array p ok k number count size address space elem readonly at here start stands =
    let below = slice_get_within p.params k (Pointer space elem readonly) at in
    let most = ok.params in
    record {
      address = address;
      first = λ group. even_word p group k (omega arith) ∙ ap (λ (o : Option ParamKind). first_word (map_of p) o (slice_get p.bounds k)) at
          ∙ ap (first_word (map_of p) (Some (Pointer space elem readonly))) here ∙ start;
      second = λ group. odd_word p group k (omega arith) ∙ ap (λ (o : Option ParamKind). second_word o (slice_get p.bounds k)) at
          ∙ ap (second_word (Some (Pointer space elem readonly))) here;
      stands = stands;
    }

pub array_words : (p : Plan) → Accepted p → (k number count : ℕ) (space : Space) (elem : Elem) (readonly : Bool)
    → slice_get p.params k ≡ Some (Pointer space elem readonly) → slice_get p.bounds k ≡ Some (Array number count)
    → ArrayWords p k space number count (count * elem_bytes elem)
array_words p ok k number count space.Local elem readonly at here =
    let same : number ≡ locals_before p.params k = ok.bound k (Pointer space.Local elem readonly) (Array number count) at here in
    let size = param_size_at p.params p.bounds k elem readonly number count (each_adds p ok) at here in
    let in_all_sizes = slice_get_front (param_sizes p.params p.bounds) p.arrays (locals_before p.params k) (count * elem_bytes elem) size in
    let span = span_of arrays_start (local_sizes p) (locals_before p.params k) (count * elem_bytes elem) in_all_sizes in
    let its_span : slice_get (map_of p).locals number ≡ Some span.span = ap (slice_get (map_of p).locals) same ∙ span.at in
    words_of_array p ok k number count (count * elem_bytes elem) span.span.start space.Local elem readonly at here
    (ap start_of its_span)
    (local_stands p ok number (count * elem_bytes elem) span.span its_span span.sized)
array_words p ok k number count space.Global elem readonly at here =
    let buffer = ok.bound k (Pointer space.Global elem readonly) (Array number count) at here in
    words_of_array p ok k number count (count * elem_bytes elem) (buffers_start + buffer.0.start) space.Global elem readonly at here
    (ap start_of (buffer_in_map p number buffer.0 buffer.1))
    (buffer_stands p ok space.Global (λ group k i. refl) number (count * elem_bytes elem) buffer.0 buffer.1 buffer.2)
array_words p ok k number count space.Constant elem readonly at here =
    let buffer = ok.bound k (Pointer space.Constant elem readonly) (Array number count) at here in
    words_of_array p ok k number count (count * elem_bytes elem) (buffers_start + buffer.0.start) space.Constant elem readonly at here
    (ap start_of (buffer_in_map p number buffer.0 buffer.1))
    (buffer_stands p ok space.Constant (λ group k i. refl) number (count * elem_bytes elem) buffer.0 buffer.1 buffer.2)

pub declared_word_of : (p : Plan) → Accepted p → (j size : ℕ) → slice_get p.arrays j ≡ Some size → DeclaredWord p j size
declared_word_of p ok j size at =
    let many = param_sizes_length p.params p.bounds ok.bound_each (each_adds p ok) in
    let in_all_sizes : slice_get (local_sizes p) (local_params p + j) ≡ Some size
    = slice_get_behind (param_sizes p.params p.bounds) p.arrays (local_params p + j) j (omega arith) ∙ at in
    let span = span_of arrays_start (local_sizes p) (local_params p + j) size in_all_sizes in
    record {
      address = span.span.start;
      word = λ group. late_word p group j ∙ ap start_of span.at;
      stands = local_stands p ok (local_params p + j) size span.span span.at span.sized;
    }

-- ---- every word of the block is a word

-- the numbers are words
abbrev pub AllWords : List ℕ → Type 0
AllWords [] = Unit {0}
AllWords (x ∷ xs) = (x < 2 ^ 32) × AllWords xs

pub words_at : (xs : List ℕ) → AllWords xs → (k : ℕ) → slice_index xs k < 2 ^ 32
words_at [] all k = omega arith
words_at (x ∷ xs) all zero = all.0
words_at (x ∷ xs) all (suc k) = words_at xs all.1 k

-- a size in a dimension is within a bound that the sizes of the range keep
size_most : (range : Range) (sizes : List ℕ) (most d : ℕ) → 1 ≤ most → ((d : ℕ) → d < range.dims → slice_index sizes d ≤ most) → size_in range sizes d ≤ most
size_most range sizes most d one each =
    elim (cases_lt d range.dims) [
      | inl below ↦
          let e : size_in range sizes d ≡ slice_index sizes d = cond-true (nat_lt d range.dims) (slice_index sizes d) 1 (lt-ltb d range.dims below) in
          let bound = each d below in
          omega arith
      | inr past ↦
          let e : size_in range sizes d ≡ 1 = cond-false (nat_lt d range.dims) (slice_index sizes d) 1 (le-ltb d range.dims past) in
          omega arith
    ]

-- and is positive where they are
pub size_some : (range : Range) (sizes : List ℕ) (d : ℕ) → ((d : ℕ) → d < range.dims → 1 ≤ slice_index sizes d) → 1 ≤ size_in range sizes d
size_some range sizes d each =
    elim (cases_lt d range.dims) [
      | inl below ↦
          let e : size_in range sizes d ≡ slice_index sizes d = cond-true (nat_lt d range.dims) (slice_index sizes d) 1 (lt-ltb d range.dims below) in
          let bound = each d below in
          omega arith
      | inr past ↦
          let e : size_in range sizes d ≡ 1 = cond-false (nat_lt d range.dims) (slice_index sizes d) 1 (le-ltb d range.dims past) in
          omega arith
    ]

-- what divides a positive number is at most the number
divides_most : (a b : ℕ) → 1 ≤ b → b % a ≡ 0 → a ≤ b
divides_most a b some whole =
    elim (cases_lt b a) [
      | inl below ↦ let e : b % a ≡ b = mod-eq_of_lt below in absurd (omega arith)
      | inr most ↦ most
    ]

-- words 0 to 15
head_words : (p : Plan) → Accepted p → (group : ℕ) → group < group_count p.range → AllWords (head_of p.range p.lanes group)
head_words p ok group below =
    let size = ok.group in
    let dims = ok.dims in
    let lanes = ok.lanes in
    let some_lanes = ok.some_lanes in
    let count = ok.groups in
    let global : (d : ℕ) → size_in p.range p.range.global d ≤ 2 ^ 32 - 1
    = λ d. size_most p.range p.range.global (2 ^ 32 - 1) d (omega arith) (λ d within. let g = ok.globals d within in omega arith) in
    let local : (d : ℕ) → size_in p.range p.range.local d ≤ 2 ^ 32 - 1
    = λ d. size_most p.range p.range.local (2 ^ 32 - 1) d (omega arith) (λ d within.
    let g = ok.globals d within in
    let most = divides_most (slice_index p.range.local d) (slice_index p.range.global d) (ok.some_global d within) (ok.divides d within) in
    omega arith) in
    let groups : (d : ℕ) → groups_in p.range d ≤ 2 ^ 32 - 1
    = λ d. let g = global d in let q = div-le_self (size_in p.range p.range.global d) (size_in p.range p.range.local d) in omega arith in
    let warps : warps_for (group_size p.range) p.lanes ≤ group_size p.range + p.lanes - 1 = div-le_self (group_size p.range + p.lanes - 1) p.lanes in
    let id_0 : group % groups_in p.range 0 ≤ group = mod-le group (groups_in p.range 0) in
    let id_1 : group / groups_in p.range 0 % groups_in p.range 1 ≤ group / groups_in p.range 0 = mod-le (group / groups_in p.range 0) (groups_in p.range 1) in
    let part_1 : group / groups_in p.range 0 ≤ group = div-le_self group (groups_in p.range 0) in
    let id_2 : group / (groups_in p.range 0 * groups_in p.range 1) ≤ group = div-le_self group (groups_in p.range 0 * groups_in p.range 1) in (
      omega arith,
      (
        omega arith,
        (
          omega arith,
          (
            omega arith,
            (
              omega arith,
              (
                omega arith,
                (
                  omega (arith, local 0),
                  (
                    omega (arith, local 1),
                    (
                      omega (arith, local 2),
                      (
                        omega (arith, global 0),
                        (
                          omega (arith, global 1),
                          (
                            omega (arith, global 2),
                            (
                              omega (arith, groups 0),
                              (
                                omega (arith, groups 1),
                                (
                                  omega (arith, groups 2),
                                  (omega arith, tt),
                                ),
                              ),
                            ),
                          ),
                        ),
                      ),
                    ),
                  ),
                ),
              ),
            ),
          ),
        ),
      ),
    )

local_start : (m : Map) → IsMap m → (o : Option Span) (place : ℕ) → slice_get m.locals place ≡ o → start_of o < 2 ^ 32
local_start m ok None place at = omega arith
local_start m ok (Some s) place at = let within = ok.locals_in place s at in omega (arith, within.1)

buffer_start : (m : Map) → IsMap m → (o : Option Span) (place : ℕ) → slice_get m.buffers place ≡ o → start_of o < 2 ^ 32
buffer_start m ok None place at = omega arith
buffer_start m ok (Some s) place at = let within = ok.buffers_in place s at in omega (arith, within.1)

-- an array has no more elements than bytes
count_most : (elem : Elem) (count : ℕ) → count ≤ count * elem_bytes elem
count_most Char count = omega arith
count_most Uchar count = omega arith
count_most Short count = omega arith
count_most Ushort count = omega arith
count_most Int count = omega arith
count_most Uint count = omega arith

-- the first address of a span of the map
pub start_small : (m : Map) → IsMap m → (space : Space) (place : ℕ) → array_start m space place < 2 ^ 32
start_small m ok space.Local place = local_start m ok (slice_get m.locals place) place refl
start_small m ok space.Global place = buffer_start m ok (slice_get m.buffers place) place refl
start_small m ok space.Constant place = buffer_start m ok (slice_get m.buffers place) place refl

-- the second word of a parameter
second_small : (p : Plan) → Accepted p → (k : ℕ) (kind : Option ParamKind) (b : Option Bound) → slice_get p.params k ≡ kind → slice_get p.bounds k ≡ b → second_word kind b < 2 ^ 32
second_small p ok k (Some (Pointer space elem readonly)) (Some (Array number count)) at here =
    let small = (array_words p ok k number count space elem readonly at here).stands.small in
    let more = count_most elem count in
    omega arith
second_small p ok k None b at here = omega arith
second_small p ok k (Some (Scalar elem)) b at here = omega arith
second_small p ok k (Some (Pointer space elem readonly)) None at here = omega arith
second_small p ok k (Some (Pointer space elem readonly)) (Some (Value value)) at here = omega arith

first_small : (m : Map) → IsMap m → (kind : Option ParamKind) (b : Option Bound) → first_word m kind b < 2 ^ 32
first_small m ok (Some (Pointer space elem readonly)) (Some (Array number count)) = start_small m ok space number
first_small m ok (Some (Scalar elem)) (Some (Value value)) = fitted-lt elem value
first_small m ok None b = omega arith
first_small m ok (Some (Scalar elem)) None = omega arith
first_small m ok (Some (Scalar elem)) (Some (Array number count)) = omega arith
first_small m ok (Some (Pointer space elem readonly)) None = omega arith
first_small m ok (Some (Pointer space elem readonly)) (Some (Value value)) = omega arith

-- one of two words is a word
either_small : (b : Bool) (x y : ℕ) → x < 2 ^ 32 → y < 2 ^ 32 → cond b x y < 2 ^ 32
either_small true x y small small' = small
either_small false x y small small' = small'

pub block_small : (p : Plan) → Accepted p → (group k : ℕ) → group < group_count p.range → block_of p group k < 2 ^ 32
block_small p ok group k below =
    either_small (nat_lt k 16) _ _ (words_at (head_of p.range p.lanes group) (head_words p ok group below) k)
    (either_small (nat_lt k 48) _ _
    (either_small (nat_eq ((k - 16) % 2) 0) _ _
    (first_small (map_of p) (is_map p ok) (slice_get p.params ((k - 16) / 2)) (slice_get p.bounds ((k - 16) / 2)))
    (second_small p ok ((k - 16) / 2) (slice_get p.params ((k - 16) / 2)) (slice_get p.bounds ((k - 16) / 2)) refl refl))
    (start_small (map_of p) (is_map p ok) space.Local (local_params p + (k - 48))))
