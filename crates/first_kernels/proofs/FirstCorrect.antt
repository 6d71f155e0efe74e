-- The code of a kernel leaves in a lane's own elements what the kernel's assignments do.
use Rattle.std.proofs.Common.{◌≡◌, ℕ, zero, suc, ◌+◌, ◌*◌, ◌%◌, ◌^◌, ◌<◌, ◌≤◌, inl, inr, List, [], ◌∷◌, ◌++◌, length, get_or, map, refl, ap, sym, ◌∙◌, subst, arith, append_assoc}
use Rattle.std.specs.Prelude.{slice_index}
use Rattle.std.specs.List.{All, AllByRecursion}
use Rattle.std.proofs.Math.Nat.{mul-le-mul_left, mod-eq_of_lt}
use Rattle.std.proofs.lemmas.Bool.{cases_eq}
use Rattle.vx_base.specs.Values.{alu_value_of}
use Rattle.vx_base.specs.declared.types.Alu.TheVariants as alu
use Rattle.vx_base.proofs.ValueLaws.{alu_value_of-lt}
use Rattle.item_acts.specs.Launches.{put_at}
use Rattle.vx_isa.specs.declared.instr.Instr.{Instr}
use Rattle.vx_isa.specs.declared.instr.Instr.TheVariants.{Lui, Sw, Tmc}
use Rattle.vx_isa.specs.declared.instr.Instr.TheVariants as instr
use Rattle.vx_isa.specs.Effects.{address_at}
use Rattle.first_kernels.specs.declared.tree.Operator.{Operator}
use Rattle.first_kernels.specs.declared.tree.Operator.TheVariants.{Add, Subtract, Multiply}
use Rattle.first_kernels.specs.FirstTree.{Tree, Literal, OwnId, OwnElement, Grouped, Applied, Assigns, Form, height}
use Rattle.first_kernels.specs.First.{alu_of, operated, array_of}
use Rattle.first_kernels.specs.FirstValues.{value_of, words_after, IsSumOf, IsAssignmentOf, IsLaunchable}
use Rattle.first_kernels.specs.FirstMemory.{stride}
use Rattle.first_kernels.specs.FirstLane.{Alone, memory_start, own_address, IsOwn, Sets, Steps, Goes, Ends}
use Rattle.first_kernels.specs.FirstCode.{number_register, address_register, value_register, high_part, low_part, operator_code, sum_code, assignment_code, body_code, opening_code, kernel_code, places_of, AreLow, starts, IsCodeOf}
use Rattle.first_kernels.proofs.FirstCarries.{put_at-same, put_at-other}

-- one stretch of code after another
pub goes_append : (items buffers lane : ℕ) (code more : List Instr) (s m t : Alone) → Goes items buffers lane code s m →
    Goes items buffers lane more m t → Goes items buffers lane (code ++ more) s t
goes_append items buffers lane [] more s m t same goes = let P : Alone → Type 0 = λ x. Goes items buffers lane more x t in subst P (sym same) goes
goes_append items buffers lane (i ∷ code) more s m t first goes = (first.0, first.1, goes_append items buffers lane code more first.0 m t first.2 goes)

-- code, and then the end of the warp
pub ends_behind : (items buffers lane : ℕ) (code : List Instr) (s t : Alone) → Goes items buffers lane code s t →
    Ends items buffers lane (code ++ Tmc 0 ∷ []) s t
ends_behind items buffers lane [] s t same = inl (refl, same)
ends_behind items buffers lane (i ∷ code) s t goes = inr (goes.0, goes.1, ends_behind items buffers lane code goes.0 t goes.2)

-- the operators are those of the machine
sum_is : (a b : ℕ) → operated Add a b ≡ alu_value_of alu.Add a b
sum_is a b = refl

difference_is : (a b : ℕ) → operated Subtract a b ≡ alu_value_of alu.Sub a b
difference_is a b = refl

product_is : (a b : ℕ) → operated Multiply a b ≡ alu_value_of alu.Mul a b
product_is a b = refl

-- lui and addi make a number of its parts
number_made : (n : ℕ) → n < 2 ^ 31 → (high_part n * 2 ^ 12 % 2 ^ 32 + low_part n) % 2 ^ 32 ≡ n
number_made n small = omega arith

-- what a function has at a place of a mapped list
get_or-map : (f : ℕ → ℕ) (xs : List ℕ) (k : ℕ) → k < length xs → get_or (map f xs) k 0 ≡ f (get_or xs k 0)
get_or-map f [] k below = absurd (omega arith)
get_or-map f (x ∷ xs) zero below = refl
get_or-map f (x ∷ xs) (suc k) below = get_or-map f xs k (omega arith)

-- the values of sums are words
value_of-lt : (own : ℕ → ℕ) (item parameters : ℕ) (t : Tree) → item < 2 ^ 32 → ((p : ℕ) → own p < 2 ^ 32) → IsSumOf parameters t → value_of own item t < 2 ^ 32
value_of-lt own item parameters (Literal n) small words sum = let below : n < 2 ^ 31 = sum in omega arith
value_of-lt own item parameters OwnId small words sum = small
value_of-lt own item parameters (OwnElement p) small words sum = words p
value_of-lt own item parameters (Grouped t) small words sum = value_of-lt own item parameters t small words sum
value_of-lt own item parameters (Applied op l r) small words sum =
    alu_value_of-lt (alu_of op) (value_of own item l) (value_of own item r) (value_of-lt own item parameters l small words sum.0) (value_of-lt own item parameters r small words sum.1)

-- the registers that code of sums reads are set
pub record IsReady (lane : ℕ) (registers : ℕ → ℕ) : Type 0 where
  pub number : registers number_register ≡ lane
  pub address : registers address_register ≡ memory_start + 4 * lane

-- the code leaves a value in the register of a depth, and no register below it nor any word is another
pub record Leaves (items buffers lane depth value : ℕ) (code : List Instr) (s : Alone) : Type 0 where
  pub registers : ℕ → ℕ
  pub goes : Goes items buffers lane code s (record { registers = registers; words = s.words })
  pub has : registers (value_register depth) ≡ value
  pub lower : (r : ℕ) → r < value_register depth → registers r ≡ s.registers r

-- the lane with a value in a register
abbrev with_value : ℕ → ℕ → Alone → Alone
with_value rd value s = record { registers = put_at rd value s.registers; words = s.words }

sets : (rd value : ℕ) (s : Alone) → 0 < rd → rd < 32 → Sets rd value s (with_value rd value s)
sets rd value s above below = record { above_zero = above; is_register = below; then = refl }

-- registers below that of a depth keep their values where a value is put there
kept : (rd value : ℕ) (registers : ℕ → ℕ) (r : ℕ) → r < rd → put_at rd value registers r ≡ registers r
kept rd value registers r less = put_at-other rd value registers r (λ e. omega arith)

still_ready : (lane depth : ℕ) (before after : ℕ → ℕ) → ((r : ℕ) → r < value_register depth → after r ≡ before r) → IsReady lane before → IsReady lane after
still_ready lane depth before after lower ready = record {
  number = lower number_register (omega arith) ∙ ready.number;
  address = lower address_register (omega arith) ∙ ready.address;
}

-- an operator acts on the values at a depth and at the next
operator_steps : (items buffers lane depth : ℕ) (op : Operator) (s t : Alone) →
    Sets (value_register depth) (operated op (s.registers (value_register depth)) (s.registers (value_register (depth + 1)))) s t →
    Steps items buffers lane (operator_code op depth) s t
operator_steps items buffers lane depth Add s t sets pc =
    let P : ℕ → Type 0 = λ v. Sets (value_register depth) v s t in
    subst P (sum_is (s.registers (value_register depth)) (s.registers (value_register (depth + 1)))) sets
operator_steps items buffers lane depth Subtract s t sets pc =
    let P : ℕ → Type 0 = λ v. Sets (value_register depth) v s t in
    subst P (difference_is (s.registers (value_register depth)) (s.registers (value_register (depth + 1)))) sets
operator_steps items buffers lane depth Multiply s t sets pc =
    let P : ℕ → Type 0 = λ v. Sets (value_register depth) v s t in
    subst P (product_is (s.registers (value_register depth)) (s.registers (value_register (depth + 1)))) sets

-- the code of both sides, and then that of their operator
applied_leaves : (items buffers lane : ℕ) (op : Operator) (depth a b : ℕ) (left_code right_code : List Instr) (s : Alone) →
    (left : Leaves items buffers lane depth a left_code s) →
    Leaves items buffers lane (depth + 1) b right_code (record { registers = left.registers; words = s.words }) → depth < 16 →
    Leaves items buffers lane depth (operated op a b) (left_code ++ (right_code ++ operator_code op depth ∷ [])) s
applied_leaves items buffers lane op depth a b left_code right_code s left right low =
    let rd : ℕ = value_register depth in
    let s1 : Alone = record { registers = left.registers; words = s.words } in
    let s2 : Alone = record { registers = right.registers; words = s.words } in
    let first : right.registers rd ≡ a = right.lower rd (omega arith) ∙ left.has in
    let value : ℕ = operated op (right.registers rd) (right.registers (value_register (depth + 1))) in
    let t : Alone = with_value rd value s2 in
    let step : Steps items buffers lane (operator_code op depth) s2 t = operator_steps items buffers lane depth op s2 t (sets rd value s2 (omega arith) (omega arith)) in
    record {
      registers = t.registers;
      goes =
          goes_append items buffers lane left_code (right_code ++ operator_code op depth ∷ []) s s1 t left.goes
          (goes_append items buffers lane right_code (operator_code op depth ∷ []) s1 s2 t right.goes (t, step, refl {a = t}));
      has =
          put_at-same rd value right.registers rd refl
          ∙ ap (λ (x : ℕ). operated op x (right.registers (value_register (depth + 1)))) first
          ∙ ap (λ (y : ℕ). operated op a y) right.has;
      lower = λ r less. kept rd value right.registers r less ∙ right.lower r (omega arith) ∙ left.lower r less;
    }

module _ (items buffers lane : ℕ) (arguments : List ℕ) (few_items : items ≤ 32) (below : lane < items) (few : buffers ≤ 16) (within : All (λ b. b < buffers) arguments) where
  -- the element of a parameter's buffer is the lane's own
  own_place : (p address : ℕ) → p < length arguments → address ≡ memory_start + 4 * lane →
      address_at address (slice_index (places_of arguments items) p) ≡ own_address items lane (array_of arguments p)
  own_place p address is_one at =
      let b : ℕ = array_of arguments p in
      let is_buffer : b < buffers = within p 0 is_one in
      let short : stride items ≤ 128 = omega arith in
      let bound : b * stride items ≤ b * 128 = mul-le-mul_left b short in
      let place : slice_index (places_of arguments items) p ≡ b * stride items = get_or-map (λ x. x * stride items) arguments p is_one in
      let sum : address + slice_index (places_of arguments items) p ≡ own_address items lane b = omega (arith, place) in
      ap (λ (x : ℕ). x % 2 ^ 32) sum ∙ mod-eq_of_lt (omega (arith, bound))

  abbrev is_own : (p address : ℕ) → p < length arguments → address ≡ memory_start + 4 * lane →
      IsOwn items buffers lane (address_at address (slice_index (places_of arguments items) p))
  is_own p address is_one at = record { buffer = array_of arguments p; is_one = within p 0 is_one; place = own_place p address is_one at }

  pub sum_leaves : (t : Tree) (depth : ℕ) (s : Alone) → IsReady lane s.registers → depth + height t ≤ 16 → IsSumOf (length arguments) t →
      Leaves items buffers lane depth (value_of (λ p. s.words (array_of arguments p)) lane t) (sum_code (places_of arguments items) depth t) s
  sum_leaves (Literal n) depth s ready low sum =
      let rd : ℕ = value_register depth in
      let high : ℕ = high_part n * 2 ^ 12 % 2 ^ 32 in
      let m : Alone = with_value rd high s in
      let whole : ℕ = (m.registers rd + low_part n) % 2 ^ 32 in
      let t : Alone = with_value rd whole m in
      record {
        registers = t.registers;
        goes = (m, (λ pc. sets rd high s (omega arith) (omega arith)), (t, (λ pc. sets rd whole m (omega arith) (omega arith)), refl {a = t}));
        has =
            put_at-same rd whole m.registers rd refl
            ∙ ap (λ (x : ℕ). (x + low_part n) % 2 ^ 32) (put_at-same rd high s.registers rd refl)
            ∙ number_made n sum;
        lower = λ r less. kept rd whole m.registers r less ∙ kept rd high s.registers r less;
      }
  sum_leaves OwnId depth s ready low sum =
      let rd : ℕ = value_register depth in
      let value : ℕ = (s.registers number_register + 0) % 2 ^ 32 in
      let t : Alone = with_value rd value s in
      let is_lane : s.registers number_register ≡ lane = ready.number in
      record {
        registers = t.registers;
        goes = (t, (λ pc. sets rd value s (omega arith) (omega arith)), refl {a = t});
        has = put_at-same rd value s.registers rd refl ∙ omega (arith, is_lane);
        lower = kept rd value s.registers;
      }
  sum_leaves (OwnElement p) depth s ready low sum =
      let rd : ℕ = value_register depth in
      let value : ℕ = s.words (array_of arguments p) in
      let t : Alone = with_value rd value s in
      record {
        registers = t.registers;
        goes = (t, (λ pc. (is_own p (s.registers address_register) sum ready.address, sets rd value s (omega arith) (omega arith))), refl {a = t});
        has = put_at-same rd value s.registers rd refl;
        lower = kept rd value s.registers;
      }
  sum_leaves (Grouped t) depth s ready low sum =
      let inner = sum_leaves t depth s ready (omega arith) sum in
      record { registers = inner.registers; goes = inner.goes; has = inner.has; lower = inner.lower }
  sum_leaves (Applied op l r) depth s ready low sum =
      let left = sum_leaves l depth s ready (omega arith) sum.0 in
      let still = still_ready lane depth s.registers left.registers left.lower ready in
      let s1 : Alone = record { registers = left.registers; words = s.words } in
      applied_leaves items buffers lane op depth _ _ _ _ s left (sum_leaves r (depth + 1) s1 still (omega arith) sum.1) (omega arith)

  -- a word put among words
  words_put : (b v : ℕ) (words : ℕ → ℕ) → v < 2 ^ 32 → ((c : ℕ) → words c < 2 ^ 32) → (c : ℕ) → put_at b v words c < 2 ^ 32
  words_put b v words small all c =
      elim (cases_eq c b) [
        | inl same ↦ rw (put_at-same b v words c same) small
        | inr other ↦ rw (put_at-other b v words c other) (all c)
      ]

  pub body_leaves : (assignments : List Assigns) (s : Alone) → IsReady lane s.registers →
      AllByRecursion (IsAssignmentOf (length arguments)) assignments → AllByRecursion (λ a. height a.value ≤ 16) assignments →
      ((b : ℕ) → s.words b < 2 ^ 32) →
      (t : Alone) × Goes items buffers lane (body_code (places_of arguments items) assignments) s t × (t.words ≡ words_after (array_of arguments) lane assignments s.words)
  body_leaves [] s ready of_parameters low words = (s, refl, refl)
  body_leaves (a ∷ more) s ready of_parameters low words =
      let places : List ℕ = places_of arguments items in
      let b : ℕ = array_of arguments a.parameter in
      let own : ℕ → ℕ = λ p. s.words (array_of arguments p) in
      let value : ℕ = value_of own lane a.value in
      let sum = sum_leaves a.value 0 s ready (let h : height a.value ≤ 16 = low.0 in omega arith) of_parameters.0.1 in
      let small : value < 2 ^ 32 = value_of-lt own lane (length arguments) a.value (omega arith) (λ p. words (array_of arguments p)) of_parameters.0.1 in
      let s1 : Alone = record { registers = sum.registers; words = s.words } in
      let s2 : Alone = record { registers = sum.registers; words = put_at b value s.words } in
      let ready1 : IsReady lane sum.registers = still_ready lane 0 s.registers sum.registers sum.lower ready in
      let cut : value ≡ sum.registers (value_register 0) % 2 ^ 32 = sym (ap (λ (x : ℕ). x % 2 ^ 32) sum.has ∙ mod-eq_of_lt small) in
      let store : Steps items buffers lane (Sw (value_register 0) (slice_index places a.parameter) address_register) s1 s2 =
      λ pc. (
        is_own a.parameter (sum.registers address_register) of_parameters.0.0 ready1.address,
        ap (λ (x : ℕ). let after : Alone = record { registers = sum.registers; words = put_at b x s.words } in after) cut,
      ) in
      let rest = body_leaves more s2 ready1 of_parameters.1 low.1 (words_put b value s.words small words) in (
        rest.0,
        goes_append items buffers lane (assignment_code places a) (body_code places more) s s2 rest.0
            (goes_append items buffers lane (sum_code places 0 a.value) (Sw (value_register 0) (slice_index places a.parameter) address_register ∷ []) s s1 s2 sum.goes (s2, store, refl))
            rest.1,
        rest.2,
      )

  -- the code that comes first sets the registers that code of sums reads
  opening_leaves : (words : ℕ → ℕ) → (s : Alone) × Goes items buffers lane opening_code (starts words) s × IsReady lane s.registers × (s.words ≡ words)
  opening_leaves words =
      let s0 : Alone = starts words in
      let s1 : Alone = with_value 5 lane s0 in
      let distance : ℕ = lane * 2 ^ 2 % 2 ^ 32 in
      let s2 : Alone = with_value 7 distance s1 in
      let start : ℕ = 0x40000 * 2 ^ 12 % 2 ^ 32 in
      let s3 : Alone = with_value 6 start s2 in
      let address : ℕ = (start + distance) % 2 ^ 32 in
      let s4 : Alone = with_value 6 address s3 in
      let third : Goes items buffers lane (Lui 6 0x40000 ∷ instr.Add 6 6 7 ∷ []) s2 s4 =
      (s3, (λ pc. sets 6 start s2 (omega arith) (omega arith)), (s4, (λ pc. sets 6 address s3 (omega arith) (omega arith)), refl {a = s4})) in (
        s4,
        (s1, (λ pc. (refl, sets 5 lane s0 (omega arith) (omega arith))), (s2, (λ pc. sets 7 distance s1 (omega arith) (omega arith)), third)),
        record { number = refl; address = omega arith },
        refl {a = words},
      )

-- the code of a kernel does what the kernel says
pub kernel_is : (k : Form) (arguments : List ℕ) (items : ℕ) (code : List Instr) → IsLaunchable k arguments items 16 → AreLow k →
    code ≡ kernel_code (places_of arguments items) k → IsCodeOf k arguments items code
kernel_is k arguments items code launchable low is_code buffers lane words few within below small =
    let places : List ℕ = places_of arguments items in
    let P : ℕ → Type 0 = λ n. AllByRecursion (IsAssignmentOf n) k.assignments in
    let opening = opening_leaves items buffers lane arguments launchable.items_few below few within words in
    let Q : (ℕ → ℕ) → Type 0 = λ f. (b : ℕ) → f b < 2 ^ 32 in
    let body = body_leaves items buffers lane arguments launchable.items_few below few within k.assignments opening.0 opening.2
    (subst P launchable.enough launchable.assignments) low (subst Q (sym opening.3) small) in
    let goes = goes_append items buffers lane opening_code (body_code places k.assignments) (starts words) opening.0 body.0 opening.1 body.1 in
    let E : List Instr → Type 0 = λ is. Ends items buffers lane is (starts words) body.0 in (
      body.0,
      subst E (append_assoc opening_code (body_code places k.assignments) (Tmc 0 ∷ []) ∙ sym is_code)
          (ends_behind items buffers lane (opening_code ++ body_code places k.assignments) (starts words) body.0 goes),
      body.2 ∙ ap (λ (f : ℕ → ℕ). words_after (array_of arguments) lane k.assignments f) opening.3,
    )
