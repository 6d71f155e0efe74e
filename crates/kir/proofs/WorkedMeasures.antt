-- Measures of small kernels.
use Rattle.std.proofs.Common.{◌≡◌, refl, ℕ, true, false, List, [], ◌∷◌, inl, inr}
use Rattle.vx_base.specs.declared.types.Alu.TheVariants.{Add}
use Rattle.vx_base.specs.declared.types.Elem.TheVariants.{Int}
use Rattle.vx_base.specs.declared.types.Pos.{Pos}
use Rattle.ocl_program.specs.declared.exprs.ArrayRef.TheVariants.{Parameter}
use Rattle.kir.specs.Measures.{IsChecked, IsPoint, branching, calls, jumps, nesting, runs, sites}
use Rattle.kir.specs.Trees.{Operand, VariableOf, NumberOf, Op, Set, Calculate, Load, Store, Check, Barrier, If, Loop, Break, Return, Call, Ops, NoOps, AndOp}
use Rattle.kir.specs.Weights.{weight}

abbrev here : Pos
here = record { line = 1; col = 1 }

abbrev ops_of : List Op → Ops
ops_of [] = NoOps
ops_of (op ∷ ops) = AndOp op (ops_of ops)

abbrev x : ℕ → Operand
x k = VariableOf k

-- a loop with a barrier in a branch in its body, a break, a call with a barrier in its step, and a barrier behind it
abbrev looped : Ops
looped = ops_of (
    Loop NoOps (x 0) (ops_of (If (x 1) (ops_of (Barrier 0 ∷ [])) NoOps ∷ Break ∷ [])) (ops_of (Call (ops_of (Barrier 1 ∷ Return ∷ [])) ∷ []))
    ∷ Barrier 2 ∷ [])

sites_in_order : sites looped ≡ 0 ∷ 1 ∷ 2 ∷ []
sites_in_order = refl

-- the barrier in the body after three turns of the loop, the one in the step, and the one behind the loop
point_in_body : IsPoint looped [] (record { site = 0; turns = 3 ∷ [] })
point_in_body = inl (3, inr (inl (inl (inl (inl refl)))))

point_in_step : IsPoint looped (5 ∷ []) (record { site = 1; turns = 5 ∷ 1 ∷ [] })
point_in_step = inl (1, inr (inr (inl (inl refl))))

point_behind : IsPoint looped (5 ∷ []) (record { site = 2; turns = 5 ∷ [] })
point_behind = inr (inl refl)

two_nested : nesting looped ≡ 2
two_nested = refl

one_branch : branching looped ≡ 1
one_branch = refl

one_call : calls looped ≡ 1
one_call = refl

has_jumps : jumps looped ≡ true
has_jumps = refl

no_jumps : jumps (ops_of (Loop NoOps (x 0) (ops_of (If (x 1) (ops_of (Barrier 0 ∷ [])) NoOps ∷ [])) NoOps ∷ [])) ≡ false
no_jumps = refl

three_runs : runs false looped ≡ 3
three_runs = refl

one_run : runs false (ops_of (Set 0 (x 1) ∷ Barrier 0 ∷ Set 1 (x 0) ∷ [])) ≡ 1
one_run = refl

-- an element of an array, checked and loaded
abbrev element : List Op → List Op
element more = Check (Parameter 0) (x 1) here ∷ Load 2 (Parameter 0) Int (x 1) ∷ more

element_weight : weight (ops_of (element [])) ≡ 27
element_weight = refl

-- a loop without an end
endless_weight : weight (ops_of (Loop NoOps (NumberOf 1) NoOps NoOps ∷ [])) ≡ 13
endless_weight = refl

-- ---- checks

checked_load : IsChecked (ops_of (element []))
checked_load = (tt, (inl refl, tt))

-- the check holds past a barrier, and for what is stored behind the load
checked_store : IsChecked (ops_of (element (Barrier 0 ∷ Calculate 2 Add (x 2) (NumberOf 1) ∷ Store (Parameter 0) Int (x 1) (x 2) ∷ [])))
checked_store = (tt, (inl refl, (tt, (tt, (inl refl, tt)))))

-- but not where the index is set between
set_between : IsChecked (ops_of (Check (Parameter 0) (x 1) here ∷ Set 1 (NumberOf 9) ∷ Load 2 (Parameter 0) Int (x 1) ∷ [])) → ⊥
set_between h = h.1.1.0

-- and not in a branch behind the check, nor behind a branch
in_branch : IsChecked (ops_of (Check (Parameter 0) (x 1) here ∷ If (x 0) (ops_of (Load 2 (Parameter 0) Int (x 1) ∷ [])) NoOps ∷ [])) → ⊥
in_branch h = h.1.0.0.0

behind_branch : IsChecked (ops_of (Check (Parameter 0) (x 1) here ∷ If (x 0) NoOps NoOps ∷ Load 2 (Parameter 0) Int (x 1) ∷ [])) → ⊥
behind_branch h = h.1.1.0
