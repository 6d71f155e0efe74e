-- The operations of each operator compute its value.
use Rattle.std.proofs.Common.{◌≡◌, ℕ, suc, ◌<◌, ◌≤◌, ◌^◌, Bool, true, false, List, refl, ap, sym, ◌∙◌, arith, inl, inr, nat_lt, le-ltb}
use Rattle.std.specs.Prelude.{bit_and, bit_xor, ◌==◌, if◌then◌else◌}
use Rattle.std.proofs.lemmas.Bool.{cases_lt, cond-true, cond-false}
use Rattle.std.proofs.lemmas.Nat.{xor_of_32}
use Rattle.std.specs.Int.Bits.{xor_zero_r}
use Rattle.vx_base.specs.Values.{alu_value_of, all_ones}
use Rattle.vx_base.specs.declared.types.Alu.{Alu}
use Rattle.vx_base.specs.declared.types.Alu.TheVariants as alu
use Rattle.item_acts.specs.Launches.{put_at}
use Rattle.item_acts.proofs.Launches.{put_at_same, put_at_other}
use Rattle.item_settings.specs.Settings.{Setting}
use Rattle.ocl_ast.specs.declared.exprs.BinOp.{BinOp}
use Rattle.ocl_ast.specs.declared.exprs.BinOp.TheVariants.{Mul, Div, Rem, Add, Sub, Shl, Shr, Lt, Gt, Le, Ge, Eq, Ne, And, Xor, Or}
use Rattle.ocl_ast.specs.declared.exprs.UnOp.{UnOp}
use Rattle.ocl_ast.specs.declared.exprs.UnOp.TheVariants.{Plus, Minus, Not, Flip}
use Rattle.ocl_program.specs.Values.{binary_value, by_type, truth, unary_value}
use Rattle.task_machine.specs.Operators.{is_less, least_of, greatest_of, magnitude}
use Rattle.kir.specs.Machine.{state, Task, value, ops_tasks}
use Rattle.kir.specs.Trees.{Operand, VariableOf, NumberOf, Ops}
use Rattle.ocl_norm.specs.Operators.{calculated, truth_ops, unary_ops, less_ops, binary_ops, picked_ops, least_ops, greatest_ops, magnitude_ops}
use Rattle.ocl_norm.proofs.WordLaws.{xor_ones, not_less, is_zero, is_some, same_bits, less, less_value, mask, mask_of, picked, sign_low, sign_high, negated, taken_off, is_negative, not_negative}
use Rattle.ocl_norm.proofs.Relations.{FlatState, Along, SameBelow, kept_put, kept_on, IsUnder, under_more, value_kept, sets, calculates}

-- all goes well once the variable d has this value, and those before it are what they were
abbrev pub Holds : Setting → ℕ → FlatState → ℕ → ℕ → (ℕ → ℕ) → List Task → List ℕ → Type 0
Holds at n s d x vs ts ns = (vs1 : ℕ → ℕ) → SameBelow d vs vs1 → vs1 d ≡ x → Along at n s (state ts vs1 ns)

-- one operation
pub once : (at : Setting) (n : ℕ) (s : FlatState) (d : ℕ) (op : Alu) (a b : Operand) (c : Ops) (ts : List Task) (vs : ℕ → ℕ) (ns : List ℕ) (x y z : ℕ)
    → value vs a ≡ x → value vs b ≡ y → alu_value_of op x y ≡ z → Holds at n s d z vs (ops_tasks c ts) ns → Along at n s (state (ops_tasks (calculated d op a b c) ts) vs ns)
once at n s d op a b c ts vs ns x y z e e' e'' next =
    calculates at n s d op a b (ops_tasks c ts) vs ns x y z e e' e'' (next (put_at d z vs) (kept_put d d z vs (omega arith)) (put_at_same d z vs))

-- and one on its value
pub twice : (at : Setting) (n : ℕ) (s : FlatState) (d : ℕ) (op : Alu) (a b : Operand) (op' : Alu) (m : ℕ) (c : Ops) (ts : List Task) (vs : ℕ → ℕ) (ns : List ℕ) (x y z : ℕ)
    → value vs a ≡ x → value vs b ≡ y → alu_value_of op' (alu_value_of op x y) m ≡ z → Holds at n s d z vs (ops_tasks c ts) ns
    → Along at n s (state (ops_tasks (calculated d op a b (calculated d op' (VariableOf d) (NumberOf m) c)) ts) vs ns)
twice at n s d op a b op' m c ts vs ns x y z e e' e'' next =
    once at n s d op a b (calculated d op' (VariableOf d) (NumberOf m) c) ts vs ns x y (alu_value_of op x y) e e' refl
    (λ vs1 kept at1. once at n s d op' (VariableOf d) (NumberOf m) c ts vs1 ns (alu_value_of op x y) m z at1 refl e''
    (λ vs2 kept' at2. next vs2 (kept_on d d vs vs1 vs2 (omega arith) kept kept') at2))

pub unary_holds : (at : Setting) (n : ℕ) (s : FlatState) (op : UnOp) (a : Operand) (d : ℕ) (c : Ops) (ts : List Task) (vs : ℕ → ℕ) (ns : List ℕ) (x : ℕ)
    → value vs a ≡ x → Holds at n s d (unary_value op x) vs (ops_tasks c ts) ns → Along at n s (state (ops_tasks (unary_ops op a d c) ts) vs ns)
unary_holds at n s Plus a d c ts vs ns x e next = sets at n s d a (ops_tasks c ts) vs ns x e (next (put_at d x vs) (kept_put d d x vs (omega arith)) (put_at_same d x vs))
unary_holds at n s Minus a d c ts vs ns x e next = once at n s d alu.Sub (NumberOf 0) a c ts vs ns 0 x (unary_value Minus x) refl e refl next
unary_holds at n s Not a d c ts vs ns x e next = once at n s d alu.Sltu a (NumberOf 1) c ts vs ns x 1 (unary_value Not x) e refl (is_zero x) next
unary_holds at n s Flip a d c ts vs ns x e next = once at n s d alu.Xor a (NumberOf 4294967295) c ts vs ns x 4294967295 (unary_value Flip x) e refl refl next

pub truth_holds : (at : Setting) (n : ℕ) (s : FlatState) (a : Operand) (d : ℕ) (c : Ops) (ts : List Task) (vs : ℕ → ℕ) (ns : List ℕ) (x : ℕ)
    → value vs a ≡ x → Holds at n s d (if x == 0 then 0 else 1) vs (ops_tasks c ts) ns → Along at n s (state (ops_tasks (truth_ops a d c) ts) vs ns)
truth_holds at n s a d c ts vs ns x e next = once at n s d alu.Sltu (NumberOf 0) a c ts vs ns 0 x (if x == 0 then 0 else 1) refl e (is_some x) next

pub binary_holds : (at : Setting) (n : ℕ) (s : FlatState) (op : BinOp) (unsigned : Bool) (a b : Operand) (d : ℕ) (c : Ops) (ts : List Task) (vs : ℕ → ℕ) (ns : List ℕ) (x y : ℕ)
    → value vs a ≡ x → value vs b ≡ y → Holds at n s d (binary_value op unsigned x y) vs (ops_tasks c ts) ns
    → Along at n s (state (ops_tasks (binary_ops op unsigned a b d c) ts) vs ns)
binary_holds at n s Mul unsigned a b d c ts vs ns x y e e' next = once at n s d alu.Mul a b c ts vs ns x y (binary_value Mul unsigned x y) e e' refl next
binary_holds at n s Div unsigned a b d c ts vs ns x y e e' next = once at n s d (by_type unsigned alu.Divu alu.Div) a b c ts vs ns x y (binary_value Div unsigned x y) e e' refl next
binary_holds at n s Rem unsigned a b d c ts vs ns x y e e' next = once at n s d (by_type unsigned alu.Remu alu.Rem) a b c ts vs ns x y (binary_value Rem unsigned x y) e e' refl next
binary_holds at n s Add unsigned a b d c ts vs ns x y e e' next = once at n s d alu.Add a b c ts vs ns x y (binary_value Add unsigned x y) e e' refl next
binary_holds at n s Sub unsigned a b d c ts vs ns x y e e' next = once at n s d alu.Sub a b c ts vs ns x y (binary_value Sub unsigned x y) e e' refl next
binary_holds at n s Shl unsigned a b d c ts vs ns x y e e' next = once at n s d alu.Sll a b c ts vs ns x y (binary_value Shl unsigned x y) e e' refl next
binary_holds at n s Shr unsigned a b d c ts vs ns x y e e' next = once at n s d (by_type unsigned alu.Srl alu.Sra) a b c ts vs ns x y (binary_value Shr unsigned x y) e e' refl next
binary_holds at n s Lt unsigned a b d c ts vs ns x y e e' next = once at n s d (by_type unsigned alu.Sltu alu.Slt) a b c ts vs ns x y (binary_value Lt unsigned x y) e e' refl next
binary_holds at n s Gt unsigned a b d c ts vs ns x y e e' next = once at n s d (by_type unsigned alu.Sltu alu.Slt) b a c ts vs ns y x (binary_value Gt unsigned x y) e' e refl next
binary_holds at n s Le unsigned a b d c ts vs ns x y e e' next =
    twice at n s d (by_type unsigned alu.Sltu alu.Slt) b a alu.Xor 1 c ts vs ns y x (binary_value Le unsigned x y) e' e (not_less unsigned y x) next
binary_holds at n s Ge unsigned a b d c ts vs ns x y e e' next =
    twice at n s d (by_type unsigned alu.Sltu alu.Slt) a b alu.Xor 1 c ts vs ns x y (binary_value Ge unsigned x y) e e' (not_less unsigned x y) next
binary_holds at n s Eq unsigned a b d c ts vs ns x y e e' next =
    twice at n s d alu.Xor a b alu.Sltu 1 c ts vs ns x y (binary_value Eq unsigned x y) e e' (is_zero (bit_xor x y) ∙ ap truth (same_bits x y)) next
binary_holds at n s Ne unsigned a b d c ts vs ns x y e e' next =
    once at n s d alu.Xor a b (truth_ops (VariableOf d) d c) ts vs ns x y (bit_xor x y) e e' refl
    (λ vs1 kept at1. truth_holds at n s (VariableOf d) d c ts vs1 ns (bit_xor x y) at1
    (λ vs2 kept' at2. next vs2 (kept_on d d vs vs1 vs2 (omega arith) kept kept') (at2 ∙ ap (λ (q : Bool). if q then 0 else 1) (same_bits x y))))
binary_holds at n s And unsigned a b d c ts vs ns x y e e' next = once at n s d alu.And a b c ts vs ns x y (binary_value And unsigned x y) e e' refl next
binary_holds at n s Xor unsigned a b d c ts vs ns x y e e' next = once at n s d alu.Xor a b c ts vs ns x y (binary_value Xor unsigned x y) e e' refl next
binary_holds at n s Or unsigned a b d c ts vs ns x y e e' next = once at n s d alu.Or a b c ts vs ns x y (binary_value Or unsigned x y) e e' refl next

-- ---- one of two

value_put : (bound : ℕ) (a : Operand) (d z : ℕ) (vs : ℕ → ℕ) → IsUnder bound a → bound ≤ d → value (put_at d z vs) a ≡ value vs a
value_put bound a d z vs under le = value_kept bound a vs (put_at d z vs) under (kept_put bound d z vs le)

-- where the second variable behind d says which
pub picked_holds : (at : Setting) (n : ℕ) (s : FlatState) (a b : Operand) (d : ℕ) (c : Ops) (ts : List Task) (vs : ℕ → ℕ) (ns : List ℕ) (x y : ℕ) (which : Bool)
    → IsUnder (suc d) a → IsUnder (suc (suc d)) b → x < 2 ^ 32 → y < 2 ^ 32 → value vs a ≡ x → value vs b ≡ y → vs (suc (suc d)) ≡ (if which then 1 else 0)
    → Holds at n s d (if which then y else x) vs (ops_tasks c ts) ns → Along at n s (state (ops_tasks (picked_ops a b d c) ts) vs ns)
picked_holds at n s a b d c ts vs ns x y which under under' word word' e e' at0 next =
    let differing : ℕ = bit_xor x y in
    let under'' : IsUnder (suc (suc d)) a = under_more (suc d) (suc (suc d)) a (omega arith) under in
    let vs1 : ℕ → ℕ = put_at (suc (suc d)) (mask which) vs in
    let vs2 : ℕ → ℕ = put_at (suc d) differing vs1 in
    let vs3 : ℕ → ℕ = put_at (suc d) (bit_and differing (mask which)) vs2 in
    let vs4 : ℕ → ℕ = put_at d (bit_xor x (bit_and differing (mask which))) vs3 in
    let a1 : value vs1 a ≡ x = value_put (suc (suc d)) a (suc (suc d)) (mask which) vs under'' (omega arith) ∙ e in
    let b1 : value vs1 b ≡ y = value_put (suc (suc d)) b (suc (suc d)) (mask which) vs under' (omega arith) ∙ e' in
    let m2 : vs2 (suc (suc d)) ≡ mask which =
    put_at_other (suc d) differing vs1 (suc (suc d)) (λ at. absurd (omega arith)) ∙ put_at_same (suc (suc d)) (mask which) vs in
    let a3 : value vs3 a ≡ x =
    value_put (suc d) a (suc d) (bit_and differing (mask which)) vs2 under (omega arith) ∙ value_put (suc d) a (suc d) differing vs1 under (omega arith) ∙ a1 in
    let kept : SameBelow d vs vs4 =
    kept_on d d vs vs1 vs4 (omega arith) (kept_put d (suc (suc d)) (mask which) vs (omega arith))
    (kept_on d d vs1 vs2 vs4 (omega arith) (kept_put d (suc d) differing vs1 (omega arith))
    (kept_on d d vs2 vs3 vs4 (omega arith) (kept_put d (suc d) (bit_and differing (mask which)) vs2 (omega arith))
    (kept_put d d (bit_xor x (bit_and differing (mask which))) vs3 (omega arith)))) in
    calculates at n s (suc (suc d)) alu.Sub (NumberOf 0) (VariableOf (suc (suc d)))
    (ops_tasks (calculated (suc d) alu.Xor a b (calculated (suc d) alu.And (VariableOf (suc d)) (VariableOf (suc (suc d))) (calculated d alu.Xor a (VariableOf (suc d)) c))) ts)
    vs ns 0 (if which then 1 else 0) (mask which) refl at0 (mask_of which)
    (calculates at n s (suc d) alu.Xor a b
    (ops_tasks (calculated (suc d) alu.And (VariableOf (suc d)) (VariableOf (suc (suc d))) (calculated d alu.Xor a (VariableOf (suc d)) c)) ts)
    vs1 ns x y differing a1 b1 refl
    (calculates at n s (suc d) alu.And (VariableOf (suc d)) (VariableOf (suc (suc d))) (ops_tasks (calculated d alu.Xor a (VariableOf (suc d)) c) ts)
    vs2 ns differing (mask which) (bit_and differing (mask which)) (put_at_same (suc d) differing vs1) m2 refl
    (calculates at n s d alu.Xor a (VariableOf (suc d)) (ops_tasks c ts) vs3 ns x (bit_and differing (mask which)) (bit_xor x (bit_and differing (mask which)))
    a3 (put_at_same (suc d) (bit_and differing (mask which)) vs2) refl
    (next vs4 kept (put_at_same d (bit_xor x (bit_and differing (mask which))) vs3 ∙ picked which x y (xor_of_32 x y word word'))))))

-- less by type
pub less_is : (unsigned : Bool) (x y : ℕ) → less unsigned x y ≡ is_less unsigned x y
less_is true x y = refl
less_is false x y = refl

picked_where : (at : Setting) (n : ℕ) (s : FlatState) (unsigned : Bool) (p q a b : Operand) (d : ℕ) (c : Ops) (ts : List Task) (vs : ℕ → ℕ) (ns : List ℕ) (u v x y : ℕ)
    → IsUnder (suc d) a → IsUnder (suc (suc d)) b → x < 2 ^ 32 → y < 2 ^ 32 → value vs p ≡ u → value vs q ≡ v → value vs a ≡ x → value vs b ≡ y
    → Holds at n s d (if is_less unsigned u v then y else x) vs (ops_tasks c ts) ns
    → Along at n s (state (ops_tasks (less_ops unsigned p q (suc (suc d)) (picked_ops a b d c)) ts) vs ns)
picked_where at n s unsigned p q a b d c ts vs ns u v x y under under' word word' e1 e2 e e' next =
    once at n s (suc (suc d)) (by_type unsigned alu.Sltu alu.Slt) p q (picked_ops a b d c) ts vs ns u v (if is_less unsigned u v then 1 else 0) e1 e2
    (less_value unsigned u v ∙ ap (λ (t : Bool). if t then 1 else 0) (less_is unsigned u v))
    (λ vs1 kept at1.
    picked_holds at n s a b d c ts vs1 ns x y (is_less unsigned u v) under under' word word'
    (value_kept (suc (suc d)) a vs vs1 (under_more (suc d) (suc (suc d)) a (omega arith) under) kept ∙ e) (value_kept (suc (suc d)) b vs vs1 under' kept ∙ e') at1
    (λ vs2 kept' at2. next vs2 (kept_on d d vs vs1 vs2 (omega arith) (λ k below. kept k (omega arith)) kept') at2))

pub least_holds : (at : Setting) (n : ℕ) (s : FlatState) (unsigned : Bool) (a b : Operand) (d : ℕ) (c : Ops) (ts : List Task) (vs : ℕ → ℕ) (ns : List ℕ) (x y : ℕ)
    → IsUnder (suc d) a → IsUnder (suc (suc d)) b → x < 2 ^ 32 → y < 2 ^ 32 → value vs a ≡ x → value vs b ≡ y
    → Holds at n s d (least_of unsigned x y) vs (ops_tasks c ts) ns → Along at n s (state (ops_tasks (least_ops unsigned a b d c) ts) vs ns)
least_holds at n s unsigned a b d c ts vs ns x y under under' word word' e e' next =
    picked_where at n s unsigned b a a b d c ts vs ns y x x y under under' word word' e' e e e' next

pub greatest_holds : (at : Setting) (n : ℕ) (s : FlatState) (unsigned : Bool) (a b : Operand) (d : ℕ) (c : Ops) (ts : List Task) (vs : ℕ → ℕ) (ns : List ℕ) (x y : ℕ)
    → IsUnder (suc d) a → IsUnder (suc (suc d)) b → x < 2 ^ 32 → y < 2 ^ 32 → value vs a ≡ x → value vs b ≡ y
    → Holds at n s d (greatest_of unsigned x y) vs (ops_tasks c ts) ns → Along at n s (state (ops_tasks (greatest_ops unsigned a b d c) ts) vs ns)
greatest_holds at n s unsigned a b d c ts vs ns x y under under' word word' e e' next =
    picked_where at n s unsigned a b a b d c ts vs ns x y x y under under' word word' e e' e e' next

-- ---- the magnitude

not_below_none : (x : ℕ) → nat_lt x 0 ≡ false
not_below_none x = le-ltb x 0 (omega arith)

-- a word's sign taken off it
magnitude_value : (x : ℕ) → x < 2 ^ 32 → alu_value_of alu.Sub (bit_xor x (alu_value_of alu.Sra x 31)) (alu_value_of alu.Sra x 31) ≡ magnitude false x
magnitude_value x word = elim (cases_lt x (2 ^ 31)) [
  | inl low ↦ ap (λ z. alu_value_of alu.Sub (bit_xor x z) z) (sign_low x low) ∙ ap (λ z. alu_value_of alu.Sub z 0) (xor_zero_r x) ∙ taken_off x word
      ∙ sym (cond-false (is_less false x 0) (alu_value_of alu.Sub 0 x) x (not_negative x low))
  | inr high ↦ ap (λ z. alu_value_of alu.Sub (bit_xor x z) z) (sign_high x high word) ∙ ap (λ z. alu_value_of alu.Sub z all_ones) (xor_ones x word) ∙ negated x high word
      ∙ sym (cond-true (is_less false x 0) (alu_value_of alu.Sub 0 x) x (is_negative x high word))
]

pub magnitude_holds : (at : Setting) (n : ℕ) (s : FlatState) (unsigned : Bool) (a : Operand) (d : ℕ) (c : Ops) (ts : List Task) (vs : ℕ → ℕ) (ns : List ℕ) (x : ℕ)
    → IsUnder (suc d) a → x < 2 ^ 32 → value vs a ≡ x → Holds at n s d (magnitude unsigned x) vs (ops_tasks c ts) ns
    → Along at n s (state (ops_tasks (magnitude_ops unsigned a d c) ts) vs ns)
magnitude_holds at n s true a d c ts vs ns x under word e next =
    sets at n s d a (ops_tasks c ts) vs ns x e
    (next (put_at d x vs) (kept_put d d x vs (omega arith)) (put_at_same d x vs ∙ sym (cond-false (nat_lt x 0) (alu_value_of alu.Sub 0 x) x (not_below_none x))))
magnitude_holds at n s false a d c ts vs ns x under word e next =
    let sign : ℕ = alu_value_of alu.Sra x 31 in
    once at n s (suc d) alu.Sra a (NumberOf 31) (calculated d alu.Xor a (VariableOf (suc d)) (calculated d alu.Sub (VariableOf d) (VariableOf (suc d)) c)) ts vs ns x 31 sign e refl refl
    (λ vs1 kept at1.
    let vs2 : ℕ → ℕ = put_at d (bit_xor x sign) vs1 in
    calculates at n s d alu.Xor a (VariableOf (suc d)) (ops_tasks (calculated d alu.Sub (VariableOf d) (VariableOf (suc d)) c) ts) vs1 ns x sign (bit_xor x sign)
    (value_kept (suc d) a vs vs1 under kept ∙ e) at1 refl
    (once at n s d alu.Sub (VariableOf d) (VariableOf (suc d)) c ts vs2 ns (bit_xor x sign) sign (magnitude false x)
    (put_at_same d (bit_xor x sign) vs1) (put_at_other d (bit_xor x sign) vs1 (suc d) (λ at. absurd (omega arith)) ∙ at1) (magnitude_value x word)
    (λ vs3 kept' at3. next vs3
    (kept_on d d vs vs1 vs3 (omega arith) (λ k below. kept k (omega arith))
    (kept_on d d vs1 vs2 vs3 (omega arith) (kept_put d d (bit_xor x sign) vs1 (omega arith)) kept')) at3)))
