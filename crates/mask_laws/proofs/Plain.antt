-- The straight code of single operations may stand where marks are closed.
use Rattle.std.proofs.Common.{◌≡◌, ℕ, zero, suc, ◌<◌, ◌≤◌, Bool, true, false, ◌&&◌, List, [], ◌∷◌, refl, sym, ◌∙◌, subst, nat_eq, arith}
use Rattle.std.specs.Prelude.{Option, None, Some, slice_get, if◌then◌else◌}
use Rattle.std.proofs.lemmas.Bool.{true≢false, and_from}
use Rattle.item_acts.specs.Launches.{put_at}
use Rattle.item_acts.proofs.Launches.{put_at_same}
use Rattle.vx_base.specs.declared.types.Alu.TheVariants.{Add, Sll, Sltu}
use Rattle.vx_base.specs.declared.types.Elem.{Elem}
use Rattle.ocl_ast.specs.declared.units.Param.{Param}
use Rattle.ocl_program.specs.declared.functions.LocalArray.{LocalArray}
use Rattle.ocl_program.specs.declared.exprs.ArrayRef.{ArrayRef}
use Rattle.ocl_program.specs.declared.exprs.ArrayRef.TheVariants.{Parameter, Declared}
use Rattle.ocl_program.specs.declared.exprs.Builtin.{Builtin}
use Rattle.ocl_program.specs.declared.exprs.Builtin.TheVariants.{WorkDim, GlobalId, LocalId, GroupId, GlobalSize, LocalSize, NumGroups, GlobalOffset, Min, Max, Clamp, Abs, MulHi}
use Rattle.kir.specs.Numbered.{OpBelow}
use Rattle.kir.specs.Trees.{Operand, VariableOf, NumberOf, Op, Set, Calculate, Fit, Id, Load, Store}
use Rattle.uniformity.specs.Marks as uniform
use Rattle.uniformity.specs.Marks.{OnlyIf, gives_uniform, is_constant, is_uniform}
use Rattle.vcode.specs.Code.{VOp, Compute, Fetch, Write}
use Rattle.simt_lowering.specs.Lowered.{Known, own, held, kept_id, group_word, size_word, id_code, id_count, id_end, further, started, param_start, declared_start, shift_of, counted, param_count, op_end}
use Rattle.mask_laws.proofs.Sets.{which, both_true}
use Rattle.mask_laws.specs.Spots.{Frame, First, Second, Round, Turning, Spot}
use Rattle.mask_laws.proofs.Frames.{FrameClear, Clear, Whole}
use Rattle.mask_laws.specs.Labels.{agrees}
use Rattle.mask_laws.specs.Labels.{flows, flows_all, load_code, loads_constant}
use Rattle.mask_laws.proofs.Whole.{WriteOk, PlainOk, AllOk, after}

-- registers that keep lanes are from one number on, and below another
abbrev pub FrameMasks : ℕ → ℕ → Frame → Type 0
FrameMasks low high (Turning s p x m t) = (low ≤ m) × (m < high)
FrameMasks low high other = Unit {0}

abbrev pub MasksIn : ℕ → ℕ → List Frame → Type 0
MasksIn low high [] = Unit {0}
MasksIn low high (f ∷ fs) = FrameMasks low high f × MasksIn low high fs

low_clear : (d low high : ℕ) (f : Frame) → d < low → FrameMasks low high f → FrameClear d f
low_clear d low high (First q e j t) less masks = tt
low_clear d low high (Second q e j t) less masks = tt
low_clear d low high (Round s x) less masks = tt
low_clear d low high (Turning s p x m t) less masks = λ e. omega (arith, less, masks.0, e)

pub clear_low : (d low high : ℕ) (fs : List Frame) → d < low → MasksIn low high fs → Clear d fs
clear_low d low high [] less masks = tt
clear_low d low high (f ∷ fs) less masks = (low_clear d low high f less masks.0, clear_low d low high fs less masks.1)

high_clear : (d low high : ℕ) (f : Frame) → high ≤ d → FrameMasks low high f → FrameClear d f
high_clear d low high (First q e j t) more masks = tt
high_clear d low high (Second q e j t) more masks = tt
high_clear d low high (Round s x) more masks = tt
high_clear d low high (Turning s p x m t) more masks = λ e. omega (arith, more, masks.1, e)

pub clear_high : (d low high : ℕ) (fs : List Frame) → high ≤ d → MasksIn low high fs → Clear d fs
clear_high d low high [] more masks = tt
clear_high d low high (f ∷ fs) more masks = (high_clear d low high f more masks.0, clear_high d low high fs more masks.1)

frame_wider : (low high high' : ℕ) (f : Frame) → high ≤ high' → FrameMasks low high f → FrameMasks low high' f
frame_wider low high high' (First q e j t) more masks = tt
frame_wider low high high' (Second q e j t) more masks = tt
frame_wider low high high' (Round s x) more masks = tt
frame_wider low high high' (Turning s p x m t) more masks = (masks.0, omega (arith, more, masks.1))

pub masks_wider : (low high high' : ℕ) (fs : List Frame) → high ≤ high' → MasksIn low high fs → MasksIn low high' fs
masks_wider low high high' [] more masks = tt
masks_wider low high high' (f ∷ fs) more masks = (frame_wider low high high' f more masks.0, masks_wider low high high' fs more masks.1)

-- ---- what flows

put_true : (ag : ℕ → Bool) (d r : ℕ) (s : Bool) → ag r ≡ true → s ≡ true → put_at d s ag r ≡ true
put_true ag d r s e e' = either (nat_eq r d) where
  either : (b : Bool) → (if b then s else ag r) ≡ true
  either true = e'
  either false = e

put_new : (ag : ℕ → Bool) (d : ℕ) (s : Bool) → s ≡ true → put_at d s ag d ≡ true
put_new ag d s e = put_at_same d s ag ∙ e

pub agrees_more : (ag : ℕ → Bool) (d : ℕ) (s : Bool) (a : Operand) → agrees ag a ≡ true → s ≡ true → agrees (put_at d s ag) a ≡ true
agrees_more ag d s (VariableOf r) e e' = put_true ag d r s e e'
agrees_more ag d s (NumberOf n) e e' = refl

pub same_uniform : (ms : ℕ → Bool) (a : Operand) → uniform.is_uniform ms a ≡ is_uniform ms a
same_uniform ms (VariableOf r) = refl
same_uniform ms (NumberOf n) = refl

-- an operation that is straight code
abbrev pub IsSingle : Op → Type 0
IsSingle (Set d a) = Unit {0}
IsSingle (Calculate d op a b) = Unit {0}
IsSingle (Fit d elem a) = Unit {0}
IsSingle (Id d which a) = Unit {0}
IsSingle (Load d array elem a) = Unit {0}
IsSingle (Store array elem a b) = Unit {0}
IsSingle other = ⊥

-- ---- single operations

module _ (whole : List Spot) (k : Known) (marks_low : (r : ℕ) → k.marks r ≡ true → r < k.variables) (fs : List Frame) (high : ℕ) (masks : MasksIn (own k 8) high fs) (same : Bool) (is_whole : same ≡ true → Whole fs) where
  abbrev pub Ok : ℕ → Bool → Type 0
  Ok d s = WriteOk whole k.marks fs d s

  abbrev pub All : Bool → (ℕ → Bool) → List VOp → Type 0
  All shared ag ops = AllOk whole k.marks fs shared ag ops

  scratch : (i : ℕ) (s : Bool) → i < 8 → Ok (own k i) s
  scratch i s less =
      (clear_low (own k i) (own k 8) high fs (omega (arith, less)) masks, λ e. let low : own k i < k.variables = marks_low (own k i) e in absurd (omega (arith, low)))

  -- a variable that is marked is written only where that gives the same to all
  variable : (d : ℕ) (gives s : Bool) → d < k.variables → (k.marks d ≡ true → (same && gives) ≡ true) → (gives ≡ true → s ≡ true) → Ok d s
  variable d gives s less closed more =
      (clear_low d (own k 8) high fs (omega (arith, less)) masks, λ e. (is_whole (both_true same gives (closed e)).0, more (both_true same gives (closed e)).1))

  plain : (a : Operand) → uniform.is_uniform k.marks a ≡ true → agrees k.marks a ≡ true
  plain a e = sym (same_uniform k.marks a) ∙ e

  kept_ok : (i d : ℕ) (a : Operand) → ((s : Bool) → Ok d s) → All false k.marks (kept_id k i d a [])
  kept_ok i d (NumberOf zero) ok = (ok _, tt)
  kept_ok i d (NumberOf (suc zero)) ok = (ok _, tt)
  kept_ok i d (NumberOf (suc (suc zero))) ok = (scratch 0 _ (omega arith), (scratch 0 _ (omega arith), (ok _, tt)))
  kept_ok i d (NumberOf (suc (suc (suc n)))) ok = (ok _, tt)
  kept_ok i d (VariableOf x) ok =
      (scratch 0 _ (omega arith), (scratch 1 _ (omega arith), (scratch 1 _ (omega arith), (scratch 0 _ (omega arith), (scratch 0 _ (omega arith), (scratch 1 _ (omega arith), (ok _, tt)))))))

  abbrev pub o0 : ℕ
  o0 = own k 0

  abbrev pub o1 : ℕ
  o1 = own k 1

  -- which of two registers and a variable agree, where all that was written does
  record Three (ag : ℕ → Bool) (x : ℕ) : Type 0 where
    of_x : ag x ≡ true
    of_first : ag o0 ≡ true

  record Four (ag : ℕ → Bool) : Type 0 where
    of_first : ag o0 ≡ true
    of_second : ag o1 ≡ true

  below_three : (x : ℕ) → k.marks x ≡ true → Three (put_at o0 (k.marks x && true) k.marks) x
  below_three x e = record { of_x = put_true k.marks o0 x _ e (and_from _ _ e refl); of_first = put_new k.marks o0 _ (and_from _ _ e refl) }

  clipped : (ag : ℕ → Bool) (x : ℕ) → Three ag x → Four (put_at o1 (ag x && ag o0) ag)
  clipped ag x h = record { of_first = put_true ag o1 o0 _ h.of_first (and_from _ _ h.of_x h.of_first); of_second = put_new ag o1 _ (and_from _ _ h.of_x h.of_first) }

  second_again : (ag : ℕ → Bool) (s : Bool) → s ≡ true → Four ag → Four (put_at o1 s ag)
  second_again ag s e h = record { of_first = put_true ag o1 o0 s h.of_first e; of_second = put_new ag o1 s e }

  group_ok : (w d : ℕ) (a : Operand) → ((s : Bool) → (agrees k.marks a ≡ true → s ≡ true) → Ok d s) → All false k.marks (group_word k w d a [])
  group_ok w d (NumberOf zero) ok = (ok true (λ e. refl), tt)
  group_ok w d (NumberOf (suc zero)) ok = (ok true (λ e. refl), tt)
  group_ok w d (NumberOf (suc (suc zero))) ok = (ok true (λ e. refl), tt)
  group_ok w d (NumberOf (suc (suc (suc n)))) ok = (ok true (λ e. refl), tt)
  group_ok w d (VariableOf x) ok = (
    scratch 0 _ (omega arith),
    (
      scratch 1 _ (omega arith),
      (
        scratch 1 _ (omega arith),
        (
          ok _ (λ e.
              let two = clipped _ x (below_three x e) in
              let three = second_again _ _ two.of_second two in
              and_from _ _ three.of_second three.of_first),
          tt,
        ),
      ),
    ),
  )

  size_ok : (w d : ℕ) (a : Operand) → ((s : Bool) → (agrees k.marks a ≡ true → s ≡ true) → Ok d s) → All false k.marks (size_word k w d a [])
  size_ok w d (NumberOf zero) ok = (ok true (λ e. refl), tt)
  size_ok w d (NumberOf (suc zero)) ok = (ok true (λ e. refl), tt)
  size_ok w d (NumberOf (suc (suc zero))) ok = (ok true (λ e. refl), tt)
  size_ok w d (NumberOf (suc (suc (suc n)))) ok = (ok true (λ e. refl), tt)
  size_ok w d (VariableOf x) ok = (
    scratch 0 _ (omega arith),
    (
      scratch 1 _ (omega arith),
      (
        scratch 1 _ (omega arith),
        (
          scratch 1 _ (omega arith),
          (
            scratch 1 _ (omega arith),
            (
              ok _ (λ e.
                  let two = clipped _ x (below_three x e) in
                  let three = second_again _ _ two.of_second two in
                  let four = second_again _ _ (and_from _ _ three.of_second refl) three in
                  let five = second_again _ _ (and_from _ _ four.of_second four.of_first) four in
                  and_from _ _ five.of_second refl),
              tt,
            ),
          ),
        ),
      ),
    ),
  )

  -- of an id: whether it is of the group, and its dimension is the same for all
  id_ok : (d : ℕ) (which : Builtin) (a : Operand) → d < k.variables → (k.marks d ≡ true → (same && uniform.is_of_group which (uniform.is_uniform k.marks a)) ≡ true) → All false k.marks (id_code k d which a [])
  id_ok d WorkDim a less closed = (variable d true true less closed (λ e. refl), tt)
  id_ok d GlobalId a less closed = kept_ok 5 d a (λ s. variable d false s less closed (λ e. absurd (true≢false (sym e))))
  id_ok d LocalId a less closed = kept_ok 2 d a (λ s. variable d false s less closed (λ e. absurd (true≢false (sym e))))
  id_ok d GroupId a less closed = group_ok 3 d a (λ s more. variable d (uniform.is_uniform k.marks a) s less closed (λ e. more (plain a e)))
  id_ok d GlobalSize a less closed = size_ok 9 d a (λ s more. variable d (uniform.is_uniform k.marks a) s less closed (λ e. more (plain a e)))
  id_ok d LocalSize a less closed = size_ok 6 d a (λ s more. variable d (uniform.is_uniform k.marks a) s less closed (λ e. more (plain a e)))
  id_ok d NumGroups a less closed = size_ok 12 d a (λ s more. variable d (uniform.is_uniform k.marks a) s less closed (λ e. more (plain a e)))
  id_ok d GlobalOffset a less closed = (variable d (uniform.is_uniform k.marks a) true less closed (λ e. refl), tt)
  id_ok d Min a less closed = (variable d (uniform.is_uniform k.marks a) true less closed (λ e. refl), tt)
  id_ok d Max a less closed = (variable d (uniform.is_uniform k.marks a) true less closed (λ e. refl), tt)
  id_ok d Clamp a less closed = (variable d (uniform.is_uniform k.marks a) true less closed (λ e. refl), tt)
  id_ok d Abs a less closed = (variable d (uniform.is_uniform k.marks a) true less closed (λ e. refl), tt)
  id_ok d MulHi a less closed = (variable d (uniform.is_uniform k.marks a) true less closed (λ e. refl), tt)

  -- ---- addresses and counts

  param_start_ok : (shared : Bool) (ag : ℕ → Bool) (j : ℕ) (o : Option Param) → PlainOk whole k.marks fs shared ag (param_start o0 j o)
  param_start_ok shared ag j None = scratch 0 true (omega arith)
  param_start_ok shared ag j (Some param) = scratch 0 true (omega arith)

  declared_start_ok : (shared : Bool) (ag : ℕ → Bool) (j : ℕ) (o : Option LocalArray) → PlainOk whole k.marks fs shared ag (declared_start o0 j o)
  declared_start_ok shared ag j None = scratch 0 true (omega arith)
  declared_start_ok shared ag j (Some array) = scratch 0 true (omega arith)

  started_ok : (shared : Bool) (ag : ℕ → Bool) (array : ArrayRef) → PlainOk whole k.marks fs shared ag (started k array)
  started_ok shared ag (Parameter j) = param_start_ok shared ag j (slice_get k.params j)
  started_ok shared ag (Declared j) = declared_start_ok shared ag j (slice_get k.arrays j)

  param_start_flows : (shared : Bool) (ag : ℕ → Bool) (j : ℕ) (o : Option Param) → flows shared ag (param_start o0 j o) ≡ put_at o0 true ag
  param_start_flows shared ag j None = refl
  param_start_flows shared ag j (Some param) = refl

  declared_start_flows : (shared : Bool) (ag : ℕ → Bool) (j : ℕ) (o : Option LocalArray) → flows shared ag (declared_start o0 j o) ≡ put_at o0 true ag
  declared_start_flows shared ag j None = refl
  declared_start_flows shared ag j (Some array) = refl

  started_flows : (shared : Bool) (ag : ℕ → Bool) (array : ArrayRef) → flows shared ag (started k array) ≡ put_at o0 true ag
  started_flows shared ag (Parameter j) = param_start_flows shared ag j (slice_get k.params j)
  started_flows shared ag (Declared j) = declared_start_flows shared ag j (slice_get k.arrays j)

  param_count_ok : (ag : ℕ → Bool) (j : ℕ) (o : Option Param) → PlainOk whole k.marks fs false ag (param_count o0 j o)
  param_count_ok ag j None = scratch 0 true (omega arith)
  param_count_ok ag j (Some param) = scratch 0 true (omega arith)

  counted_ok : (ag : ℕ → Bool) (array : ArrayRef) → PlainOk whole k.marks fs false ag (counted k array)
  counted_ok ag (Parameter j) = param_count_ok ag j (slice_get k.params j)
  counted_ok ag (Declared j) = scratch 0 true (omega arith)

  param_count_flows : (ag : ℕ → Bool) (j : ℕ) (o : Option Param) → flows false ag (param_count o0 j o) ≡ put_at o0 true ag
  param_count_flows ag j None = refl
  param_count_flows ag j (Some param) = refl

  counted_flows : (ag : ℕ → Bool) (array : ArrayRef) → flows false ag (counted k array) ≡ put_at o0 true ag
  counted_flows ag (Parameter j) = param_count_flows ag j (slice_get k.params j)
  counted_flows ag (Declared j) = refl

  -- a check's test
  pub test_ok : (array : ArrayRef) (a : Operand) → All false k.marks (counted k array ∷ Compute o0 Sltu a (held k 0) ∷ [])
  test_ok array a = (counted_ok k.marks array, (scratch 0 _ (omega arith), tt))

  pub test_agrees : (array : ArrayRef) (a : Operand) → agrees k.marks a ≡ true → agrees (flows_all false k.marks (counted k array ∷ Compute o0 Sltu a (held k 0) ∷ [])) (held k 0) ≡ true
  test_agrees array a e =
      subst (λ g. put_at o0 (agrees g a && agrees g (held k 0)) g o0 ≡ true) (sym (counted_flows k.marks array))
      (put_new (put_at o0 true k.marks) o0 _ (and_from _ _ (agrees_more k.marks o0 true a e refl) (put_new k.marks o0 true refl)))

  -- the address of an element, and what follows it
  addressed : (shared : Bool) (array : ArrayRef) (elem : Elem) (a : Operand) (last : VOp)
      → ((ag : ℕ → Bool) → (agrees k.marks a ≡ true → ag o0 ≡ true) → PlainOk whole k.marks fs shared ag last)
      → All shared k.marks (started k array ∷ Compute o1 Sll a (NumberOf (shift_of elem)) ∷ Compute o0 Add (held k 0) (held k 1) ∷ last ∷ [])
  addressed shared array elem a last ok = (
    started_ok shared k.marks array,
    subst (λ g. All shared g (Compute o1 Sll a (NumberOf (shift_of elem)) ∷ Compute o0 Add (held k 0) (held k 1) ∷ last ∷ [])) (sym (started_flows shared k.marks array)) (
      scratch 1 _ (omega arith),
      (
        scratch 0 _ (omega arith),
        (
          ok _ (λ e.
              let more = and_from _ _ (agrees_more k.marks o0 true a e refl) refl in
              put_new (put_at o1 (agrees (put_at o0 true k.marks) a && true) (put_at o0 true k.marks)) o0 _ (and_from _ _ (put_true (put_at o0 true k.marks) o1 o0 _ (put_new k.marks o0 true refl) more) (put_new (put_at o0 true k.marks) o1 _ more))),
          tt,
        ),
      ),
    ),
  )

  -- each single operation
  pub single_ok : (op : Op) → IsSingle op → OpBelow k.variables op → OnlyIf (same && gives_uniform k.params k.marks op) k.marks (uniform.target op) → All (loads_constant k op) k.marks (load_code k op)
  single_ok (Set d a) single below closed = (variable d (uniform.is_uniform k.marks a) _ below.0 closed (plain a), tt)
  single_ok (Calculate d op a b) single below closed =
      (variable d (uniform.are_uniform k.marks a b) _ below.0 closed (λ e. let both = both_true (uniform.is_uniform k.marks a) (uniform.is_uniform k.marks b) e in and_from _ _ (plain a both.0) (plain b both.1)), tt)
  single_ok (Fit d elem a) single below closed = (variable d (uniform.is_uniform k.marks a) _ below.0 closed (plain a), tt)
  single_ok (Id d which a) single below closed = id_ok d which a below.0 closed
  single_ok (Load d array elem a) single below closed =
      addressed (is_constant k.params array) array elem a (Fetch d elem (held k 0)) (λ ag more.
      variable d (is_constant k.params array && uniform.is_uniform k.marks a) _ below.0 closed
      (λ e. let both = both_true (is_constant k.params array) (uniform.is_uniform k.marks a) e in and_from _ _ both.0 (more (plain a both.1))))
  single_ok (Store array elem a b) single below closed = addressed false array elem a (Write elem (held k 0) b) (λ ag more. tt)
  single_ok other single below closed = absurd single

-- ---- where they end

kept_after : (whole : List Spot) (k : Known) (i d : ℕ) (a : Operand) (p : ℕ) → after whole k.marks (kept_id k i d a []) p ≡ further (id_count 3 7 a) p
kept_after whole k i d (NumberOf zero) p = refl
kept_after whole k i d (NumberOf (suc zero)) p = refl
kept_after whole k i d (NumberOf (suc (suc zero))) p = refl
kept_after whole k i d (NumberOf (suc (suc (suc n)))) p = refl
kept_after whole k i d (VariableOf x) p = refl

group_after : (whole : List Spot) (k : Known) (w d : ℕ) (a : Operand) (p : ℕ) → after whole k.marks (group_word k w d a []) p ≡ further (id_count 1 4 a) p
group_after whole k w d (NumberOf zero) p = refl
group_after whole k w d (NumberOf (suc zero)) p = refl
group_after whole k w d (NumberOf (suc (suc zero))) p = refl
group_after whole k w d (NumberOf (suc (suc (suc n)))) p = refl
group_after whole k w d (VariableOf x) p = refl

size_after : (whole : List Spot) (k : Known) (w d : ℕ) (a : Operand) (p : ℕ) → after whole k.marks (size_word k w d a []) p ≡ further (id_count 1 6 a) p
size_after whole k w d (NumberOf zero) p = refl
size_after whole k w d (NumberOf (suc zero)) p = refl
size_after whole k w d (NumberOf (suc (suc zero))) p = refl
size_after whole k w d (NumberOf (suc (suc (suc n)))) p = refl
size_after whole k w d (VariableOf x) p = refl

id_after : (whole : List Spot) (k : Known) (d : ℕ) (which : Builtin) (a : Operand) (p : ℕ) → after whole k.marks (id_code k d which a []) p ≡ id_end which a p
id_after whole k d WorkDim a p = refl
id_after whole k d GlobalId a p = kept_after whole k 5 d a p
id_after whole k d LocalId a p = kept_after whole k 2 d a p
id_after whole k d GroupId a p = group_after whole k 3 d a p
id_after whole k d GlobalSize a p = size_after whole k 9 d a p
id_after whole k d LocalSize a p = size_after whole k 6 d a p
id_after whole k d NumGroups a p = size_after whole k 12 d a p
id_after whole k d GlobalOffset a p = refl
id_after whole k d Min a p = refl
id_after whole k d Max a p = refl
id_after whole k d Clamp a p = refl
id_after whole k d Abs a p = refl
id_after whole k d MulHi a p = refl

pub single_after : (whole : List Spot) (k : Known) (op : Op) (p : ℕ) → IsSingle op → after whole k.marks (load_code k op) p ≡ op_end k.marks op p
single_after whole k (Set d a) p single = refl
single_after whole k (Calculate d op a b) p single = refl
single_after whole k (Fit d elem a) p single = refl
single_after whole k (Id d which a) p single = id_after whole k d which a p
single_after whole k (Load d array elem a) p single = refl
single_after whole k (Store array elem a b) p single = refl
single_after whole k other p single = absurd single
