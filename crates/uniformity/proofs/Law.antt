-- Two items of one group agree where the same is left to do.
use Rattle.std.proofs.Common.{◌≡◌, ℕ, zero, suc, ◌*◌, ◌%◌, ◌^◌, ◌<◌, ◌≤◌, ◌⊎◌, inl, inr, Bool, true, false, List, [], ◌∷◌, refl, sym, ap, ◌∙◌, subst, arith}
use Rattle.std.specs.Prelude.{slice_index}
use Rattle.std.proofs.lemmas.Bool.{false≢true}
use Rattle.vx_base.specs.Values.{elem_bytes}
use Rattle.item_acts.specs.declared.acts.Bound.{Bound}
use Rattle.item_acts.specs.declared.acts.Place.{Place}
use Rattle.item_acts.specs.declared.acts.Range.{Range}
use Rattle.ocl_program.specs.declared.exprs.ArrayRef.TheVariants.{Parameter, Declared}
use Rattle.ocl_program.specs.declared.exprs.Builtin.{Builtin}
use Rattle.ocl_program.specs.declared.exprs.Builtin.TheVariants as b
use Rattle.item_settings.specs.Settings.{Setting, array_of, bound_values, coordinate, group_number, groups_in, place_in}
use Rattle.kir.specs.Machine.{State, state, code_setting, known_of, ops_tasks, step}
use Rattle.kir.specs.Measures.{jumps}
use Rattle.kir.specs.Trees.{KirCode}
use Rattle.uniformity.specs.Marks.{IsClosed, is_of_group}
use Rattle.uniformity.specs.Pairs.{Agree, ClosedAgree, IsConstantPlace, IsHonest, ItemsAgree, Leads, Reaches}
use Rattle.uniformity.proofs.Visits.{Honesty, Ends, Meets}
use Rattle.uniformity.proofs.Sections.{size, tasks_size, meets_lie}
use Rattle.uniformity.proofs.Agreeing.{OfOneGroup, AreSettled, ends_pair, meets_pair}
use Rattle.uniformity.proofs.Reaching.{Left, ops_run}

known_in_group : (code : KirCode) (range : Range) (bounds : List Bound) (one other : ℕ) → group_number range one ≡ group_number range other
    → (which : Builtin) (d : ℕ) → is_of_group which true ≡ true
    → known_of (code_setting code range bounds one) which d ≡ known_of (code_setting code range bounds other) which d
known_in_group code range bounds one other same b.WorkDim d e = refl
known_in_group code range bounds one other same b.GlobalId d e = absurd (false≢true e)
known_in_group code range bounds one other same b.LocalId d e = absurd (false≢true e)
known_in_group code range bounds one other same b.GroupId d e = ap (λ g. coordinate (groups_in range 0) (groups_in range 1) g d) same
known_in_group code range bounds one other same b.GlobalSize d e = refl
known_in_group code range bounds one other same b.LocalSize d e = refl
known_in_group code range bounds one other same b.NumGroups d e = refl
known_in_group code range bounds one other same b.GlobalOffset d e = refl
known_in_group code range bounds one other same b.Min d e = refl
known_in_group code range bounds one other same b.Max d e = refl
known_in_group code range bounds one other same b.Clamp d e = refl
known_in_group code range bounds one other same b.Abs d e = refl
known_in_group code range bounds one other same b.MulHi d e = refl

of_one_group : (code : KirCode) (range : Range) (bounds : List Bound) (one other : ℕ) → group_number range one ≡ group_number range other
    → OfOneGroup (code_setting code range bounds one) (code_setting code range bounds other)
of_one_group code range bounds one other same = record { group = same; array = refl; known = known_in_group code range bounds one other same }

settled : (code : KirCode) (range : Range) (bounds : List Bound) (opening : Place → ℕ) (item : ℕ)
    → AreSettled code.params (code_setting code range bounds item) (IsHonest code bounds opening)
settled code range bounds opening item (Parameter k) elem i m n e h h' =
    let place : IsConstantPlace code bounds (place_in (group_number range item) (array_of code.params code.arrays bounds (Parameter k)) elem i) = record { param = k; constant = e; group = group_number range item; byte = (i * elem_bytes elem) % 2 ^ 32; there = refl } in
    h place ∙ sym (h' place)
settled code range bounds opening item (Declared k) elem i m n e h h' = absurd (false≢true e)

-- behind the last operation an item stays
pub stays_at_end : (at : Setting) (H : Honesty) (n : ℕ) (ws : ℕ → ℕ) (ns answers : List ℕ) (s : State) → Leads (step at) H n (state [] ws ns) answers s → state [] ws ns ≡ s
stays_at_end at H zero ws ns answers s r = r.0
stays_at_end at H (suc n) ws ns answers s r = absurd r

-- within operations something is left to do, and at the end nothing is
not_both : (at at' : Setting) (H : Honesty) (code : KirCode) (vs vs' : ℕ → ℕ) (n : ℕ) (s t : State) → Meets at H code.ops [] [] vs s
    → Left at' H (Ends at' H code.ops vs') [] [] n t → s.tasks ≡ t.tasks → ⊥
not_both at at' H code vs vs' n s t m left e =
    let more : 0 < tasks_size s.tasks = (meets_lie at H code.ops [] [] vs s m).more in
    let ended : 0 ≡ tasks_size t.tasks =
    ap (λ (x : State). tasks_size x.tasks) (stays_at_end at' H left.steps left.variables [] left.answers t left.runs) in
    let same : tasks_size s.tasks ≡ tasks_size t.tasks = ap tasks_size e in
    omega arith

finish : (code : KirCode) (marks : ℕ → Bool) (at at' : Setting) (H : Honesty) → OfOneGroup at at' → AreSettled code.params at H → IsClosed code marks
    → (vs : ℕ → ℕ) (m n : ℕ) (s t : State) → s.tasks ≡ t.tasks → s.turns ≡ t.turns
    → Meets at H code.ops [] [] vs s ⊎ Left at H (Ends at H code.ops vs) [] [] m s
    → Meets at' H code.ops [] [] vs t ⊎ Left at' H (Ends at' H code.ops vs) [] [] n t
    → Agree marks s.variables t.variables
finish code marks at at' H alike settles closed vs m n s t e q (inl x) (inl y) =
    meets_pair code.params marks at at' H alike settles true code.ops closed.closed [] [] vs vs s t (λ k h. refl) x y e q
finish code marks at at' H alike settles closed vs m n s t e q (inl x) (inr y) = absurd (not_both at at' H code vs vs n s t x y e)
finish code marks at at' H alike settles closed vs m n s t e q (inr x) (inl y) = absurd (not_both at' at H code vs vs m t s y x (sym e))
finish code marks at at' H alike settles closed vs m n s t e q (inr x) (inr y) =
    let agree = ends_pair code.params marks at at' H alike settles true code.ops closed.closed vs vs x.variables y.variables (λ k h. refl) x.ends y.ends in
    λ k h. ap (λ (z : State). z.variables k) (sym (stays_at_end at H x.steps x.variables [] x.answers s x.runs)) ∙ agree k h
    ∙ ap (λ (z : State). z.variables k) (stays_at_end at' H y.steps y.variables [] y.answers t y.runs)

pub closed_agree : ClosedAgree
closed_agree code marks closed none range bounds opening one other s t same r r' e q =
    let at = code_setting code range bounds one in
    let at' = code_setting code range bounds other in
    let H = IsHonest code bounds opening in
    let start = slice_index (bound_values code.params bounds) in
    finish code marks at at' H (of_one_group code range bounds one other same) (settled code range bounds opening one) closed start r.steps r'.steps s t e q
    (ops_run at H code.ops none r.steps [] start [] r.answers s r.leads)
    (ops_run at' H code.ops none r'.steps [] start [] r'.answers t r'.leads)
