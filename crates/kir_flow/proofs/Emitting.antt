-- What the code puts behind what it has put, step by step, and the room that flags have.
use Rattle.std.proofs.Common.{◌≡◌, ℕ, zero, suc, ◌+◌, ◌<◌, ◌≤◌, max, min, Bool, true, false, not, ◌&&◌, List, [], ◌∷◌, Result, Ok, Err, OnOk, ◌^◌, length, drop, get_or, refl, sym, ap, ◌∙◌, arith}
use Rattle.std.specs.Prelude.{if◌then◌else◌}
use Rattle.ocl_program.specs.Measures.{cut}
use Rattle.kir.specs.Measures.{is_single}
use Rattle.kir.specs.Shapes.{op_of, ops_of}
use Rattle.kir.specs.Trees.{Operand, NumberOf, Op, Set, Calculate, Fit, Id, Load, Store, Check, Barrier, If, Loop, Break, Continue, Return, Call, Ops, NoOps, AndOp}
use Rattle.kir.specs.declared.ops.Op.{Op as HeldOp}
use Rattle.kir_flow.specs.declared.scopes.Scope.{Scope}
use Rattle.kir_flow.specs.declared.scopes.Scope.TheVariants.{InCall}
use Rattle.kir_flow.specs.declared.scopes.Jump.TheVariants.{ByContinue}
use Rattle.kir_flow.specs.Flagging.{flagged, flagged_op, guarded, inside, is_flagged, leaves, op_is_left, op_room, room}
use Rattle.kir_flow.specs.Sizes.{op_size, size}
use Rattle.kir.specs.Lists.{Puts, onto}
use Rattle.kir_flow.specs.Views.{turn_of, turn_room}
use Rattle.kir_flow.proofs.Reading.{all_left, next_left}

pub left_max : (a b : ℕ) → a ≤ max a b
left_max a b = omega arith

pub right_max : (a b : ℕ) → b ≤ max a b
right_max a b = omega arith

single_stays : (op : Op) → is_single op ≡ true → op_is_left op ≡ false
single_stays (Set d a) e = refl
single_stays (Calculate d op a b) e = refl
single_stays (Fit d elem a) e = refl
single_stays (Id d which a) e = refl
single_stays (Load d array elem a) e = refl
single_stays (Store array elem a b) e = refl
single_stays (Check array a pos) e = refl
single_stays (Barrier site) e = refl
single_stays (If test one other) e = absurd (cc)
single_stays (Loop head test body step) e = absurd (cc)
single_stays Break e = absurd (cc)
single_stays Continue e = absurd (cc)
single_stays Return e = absurd (cc)
single_stays (Call body) e = absurd (cc)

pub sure_stays : (sure : Bool) (op : Op) → is_single op ≡ true → sure ≡ (sure && not (op_is_left op))
sure_stays true op e = sym (ap not (single_stays op e))
sure_stays false op e = refl

-- a single operation, and one that is none
pub next_single : (f : Scope) (among sure : Bool) (op : Op) (rest : Ops) (old new : List HeldOp) → is_single op ≡ true → Puts old new (guarded among f sure op rest)
    → (c : Ops) → onto new (flagged (not sure) f sure rest c) ≡ onto old (flagged among f sure (AndOp op rest) c)
next_single f among sure op rest old new e puts c =
    puts (flagged (not sure) f sure rest c)
    ∙ ap (onto old) (sym (ap (λ s. if s then guarded among f sure op rest (flagged (not sure) f sure rest c) else flagged_op f sure op (flagged false f (sure && not (op_is_left op)) rest c)) e))

pub next_other : (f : Scope) (among sure behind : Bool) (op : Op) (rest : Ops) (old new : List HeldOp) → is_single op ≡ false → behind ≡ (sure && not (op_is_left op)) → Puts old new (flagged_op f sure op)
    → (c : Ops) → onto new (flagged false f behind rest c) ≡ onto old (flagged among f sure (AndOp op rest) c)
next_other f among sure behind op rest old new e same puts c =
    puts (flagged false f behind rest c)
    ∙ ap (λ b. onto old (flagged_op f sure op (flagged false f b rest c))) same
    ∙ ap (onto old) (sym (ap (λ s. if s then guarded among f sure op rest (flagged (not sure) f sure rest c) else flagged_op f sure op (flagged false f (sure && not (op_is_left op)) rest c)) e))

-- ---- lists

pub first_of : (ops : List HeldOp) (k : ℕ) (op : HeldOp) → k < length ops → op ≡ get_or ops k op → ops_of (drop k ops) ≡ AndOp (op_of op) (ops_of (drop (k + 1) ops))
first_of ops k op within is = ap ops_of (next_left ops k op within is)

pub none_of : (ops : List HeldOp) (k : ℕ) → length ops ≤ k → ops_of (drop k ops) ≡ NoOps
none_of ops k past = ap ops_of (all_left ops k past)

pub some_size : (ops : Ops) → 3 ≤ size ops
some_size NoOps = omega arith
some_size (AndOp op ops) = let h : 3 ≤ size ops = some_size ops in omega arith

pub size_at : (ops : List HeldOp) (k : ℕ) (op : HeldOp) → k < length ops → op ≡ get_or ops k op → op_size (op_of op) + 1 < size (ops_of ops)
size_at [] k op within is = absurd (omega arith)
size_at (x ∷ xs) zero op within is =
    let same : op_size (op_of op) ≡ op_size (op_of x) = ap (λ o. op_size (op_of o)) is in
    let more : 3 ≤ size (ops_of xs) = some_size (ops_of xs) in
    omega arith
size_at (x ∷ xs) (suc k) op within is =
    let h : op_size (op_of op) + 1 < size (ops_of xs) = size_at xs k op (omega arith) is in
    omega arith

-- ---- lists of their own

-- what follows where a call is done
pub on_done : {A E P Q : Type 0} (r : Result A E) → (P → Q) → OnOk r P → OnOk r Q
on_done (Ok x) f h = f h
on_done (Err x) f h = h

-- ---- room

pub room_here : (n : ℕ) (sure : Bool) (op : Op) (rest : Ops) → n + room sure (AndOp op rest) < 2 ^ 32 → n + op_room sure op < 2 ^ 32
room_here n sure op rest h = let part : op_room sure op ≤ room sure (AndOp op rest) = left_max (op_room sure op) (room (sure && not (op_is_left op)) rest) in omega arith

pub room_behind : (n : ℕ) (sure : Bool) (op : Op) (rest : Ops) → n + room sure (AndOp op rest) < 2 ^ 32 → n + room (sure && not (op_is_left op)) rest < 2 ^ 32
room_behind n sure op rest h =
    let part : room (sure && not (op_is_left op)) rest ≤ room sure (AndOp op rest) = right_max (op_room sure op) (room (sure && not (op_is_left op)) rest) in omega arith

-- a loop that no jump leaves: the room that it needs, and what it comes to
whole_room : (f c : Bool) (x a b d : ℕ) → f ≡ false → (if f then x else (if c then max a (max (suc b) d) else max a (max b d))) ≡ max a (max (if c then suc b else b) d)
whole_room true c x a b d e = absurd (cc)
whole_room false true x a b d e = refl
whole_room false false x a b d e = refl

pub loop_room : (sure : Bool) (head : Ops) (test : Operand) (body step : Ops) → is_flagged sure head body step ≡ false
    → op_room sure (Loop head test body step) ≡ max (room true head) (max (turn_room body) (room true step))
loop_room sure head test body step e = whole_room (is_flagged sure head body step) (leaves ByContinue body) _ (room true head) (room true body) (room true step) e

whole_loop : (g c : Bool) (x one other : Ops) (make : Ops → Ops) → g ≡ false → (if g then x else (if c then make one else make other)) ≡ make (if c then one else other)
whole_loop true c x one other make e = absurd (cc)
whole_loop false true x one other make e = refl
whole_loop false false x one other make e = refl

pub loop_is : (f : Scope) (sure : Bool) (head : Ops) (test : Operand) (body step c : Ops) → is_flagged sure head body step ≡ false
    → flagged_op f sure (Loop head test body step) c ≡ AndOp (Loop (flagged false f true head NoOps) test (turn_of f body) (flagged false f true step NoOps)) c
loop_is f sure head test body step c e =
    whole_loop (is_flagged sure head body step) (leaves ByContinue body) _
    (AndOp (Set (inside f) (NumberOf 1)) (flagged false (InCall (inside f)) true body NoOps)) (flagged false f true body NoOps)
    (λ turn. AndOp (Loop (flagged false f true head NoOps) test turn (flagged false f true step NoOps)) c) e

-- ---- counting flags, up to the greatest word

-- the greater of two counts, and one or two more
pub cut_both : (a b m n : ℕ) → a ≡ cut m → b ≡ cut n → max a b ≡ cut (max m n)
cut_both a b m n e e' = omega arith

pub two_more : (a m : ℕ) → a ≡ cut m → min (a + 2) 4294967295 ≡ cut (2 + m)
two_more a m e = omega arith

pub room_more : (most whole next : ℕ) (sure after : Bool) (op : Op) (rest : Ops) → max most (cut (room sure (AndOp op rest))) ≡ whole → next ≡ max most (cut (op_room sure op))
    → after ≡ (sure && not (op_is_left op)) → max next (cut (room after rest)) ≡ whole
room_more most whole next sure after op rest e e' e'' =
    ap (λ b. max next (cut (room b rest))) e'' ∙ ap (λ n. max n (cut (room (sure && not (op_is_left op)) rest))) e'
    ∙ (omega arith) ∙ e

pub cut_room : (sure : Bool) (head : Ops) (test : Operand) (body step : Ops) → is_flagged sure head body step ≡ true
    → op_room sure (Loop head test body step) ≡ 2 + max (room false head) (max (room true body) (room false step))
cut_room sure head test body step e =
    ap (λ s. if s then 2 + max (room false head) (max (room true body) (room false step))
    else (if leaves ByContinue body then max (room true head) (max (suc (room true body)) (room true step)) else max (room true head) (max (room true body) (room true step)))) e

pub room_done : (most whole n : ℕ) → max most n ≡ whole → n ≡ 0 → most ≡ whole
room_done most whole n e none = (omega arith) ∙ ap (max most) (sym none) ∙ e
