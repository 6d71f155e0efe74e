-- Lists of launches: each runs on what the ones before it leave.
use Rattle.std.proofs.Common.{◌≡◌, ℕ, ◌<◌, ◌⊎◌, Bool, List, [], ◌∷◌, ◌++◌, refl, sym, ◌∙◌, subst, inl, inr}
use Rattle.std.proofs.Math.Path.{fun_ext}
use Rattle.std.proofs.lemmas.Bool.{cases_Bool}
use Rattle.vx_base.specs.declared.types.Pos.{Pos}
use Rattle.item_acts.specs.Launches.{Launch, group_of, State}
use Rattle.item_acts.specs.Tame.{LaunchLeaves}
use Rattle.launch_order.specs.Events.{AtFault, Stuck}
use Rattle.launch_order.specs.Cores.{StoodAt, LeftOut, WarpWaits}
use Rattle.launch_order.specs.Lists.{IsOrderly, RanToEnd, RanThrough, LaunchesLeave, AreOrderly, CameTo, FaultComesBehind}
use Rattle.launch_order.proofs.Endings.{done_leaves, fault_comes, never_stuck}

-- a launch that ran to its end left what it leaves
pub ran_leaves : (l : Launch) (given final : ℕ → ℕ → ℕ) → IsOrderly l given → RanToEnd l given final → LaunchLeaves l given final
ran_leaves l given final orderly ran = done_leaves l given final ran.cores ran.events ran.ends ran.known orderly.0 orderly.1 ran.done

-- and so did a list of launches
pub through_leaves : (launches : List Launch) (given final : ℕ → ℕ → ℕ) → AreOrderly launches given → RanThrough launches given final
    → LaunchesLeave launches given final
through_leaves [] given final orderly ran = ran
through_leaves (l ∷ launches) given final orderly (between, one, rest) =
    let leaves = ran_leaves l given between orderly.0 one in
    (between, leaves, through_leaves launches between final (orderly.1 between leaves) rest)

-- bytes that are the same everywhere are the same
same_bytes : (given between : ℕ → ℕ → ℕ) → ((buffer byte : ℕ) → between buffer byte ≡ given buffer byte) → given ≡ between
same_bytes given between same = fun_ext (λ buffer. fun_ext (λ byte. sym (same buffer byte)))

-- the launch behind a list of launches is orderly on what they left
orderly_behind : (before : List Launch) (l : Launch) (behind : List Launch) (given between : ℕ → ℕ → ℕ) → AreOrderly (before ++ l ∷ behind) given
    → RanThrough before given between → IsOrderly l between
orderly_behind [] l behind given between orderly ran = subst (IsOrderly l) (same_bytes given between ran) orderly.0
orderly_behind (m ∷ before) l behind given between orderly (next, one, rest) =
    orderly_behind before l behind next between (orderly.1 next (ran_leaves m given next orderly.0 one)) rest

-- and those before it are orderly
orderly_front : (before : List Launch) (l : Launch) (behind : List Launch) (given : ℕ → ℕ → ℕ) → AreOrderly (before ++ l ∷ behind) given → AreOrderly before given
orderly_front [] l behind given orderly = tt
orderly_front (m ∷ before) l behind given orderly = (orderly.0, λ between leaves. orderly_front before l behind between (orderly.1 between leaves))

-- a fault of a core comes on what the launches before leave
pub fault_behind : (before : List Launch) (l : Launch) (behind : List Launch) (given : ℕ → ℕ → ℕ) → AreOrderly (before ++ l ∷ behind) given
    → (item : ℕ) (pos : Pos) → CameTo before l given (AtFault item pos) → FaultComesBehind before l given item pos
fault_behind before l behind given orderly item pos came =
    let here = orderly_behind before l behind given came.between orderly came.through in
    record {
      between = came.between;
      leave = through_leaves before given came.between (orderly_front before l behind given orderly) came.through;
      comes = fault_comes l came.between came.final came.cores came.events came.ends came.known here.0 here.1 came.core came.exists item pos came.came;
    }

-- and no core is stuck there
pub stuck_behind : (before : List Launch) (l : Launch) (behind : List Launch) (given : ℕ → ℕ → ℕ) → AreOrderly (before ++ l ∷ behind) given
    → CameTo before l given Stuck → ⊥
stuck_behind before l behind given orderly came =
    let here = orderly_behind before l behind given came.between orderly came.through in
    never_stuck l came.between came.final came.cores came.events came.ends came.known here.0 here.1 came.core came.exists came.came

-- a group whose warps wait, each at a point to which its other items never come, is released as the record of it says
pub warps_release : (l : Launch) (own : State) (stood : ℕ → Bool) (group : ℕ) (warp_of : ℕ → ℕ)
    → ((item : ℕ) → item < l.items → group_of l item ≡ group → WarpWaits l own stood group warp_of (warp_of item))
    → (item : ℕ) → item < l.items → group_of l item ≡ group → StoodAt l own stood item ⊎ LeftOut l own stood item
warps_release l own stood group warp_of waits item exists e =
    let warp = waits item exists e in
    elim (cases_Bool (stood item)) [
      | inl present ↦ inl (record { present = present; point = warp.point; waits = warp.waits item exists e refl present })
      | inr absent ↦
          inr (record {
            absent = absent;
            other = warp.some;
            exists = warp.exists;
            together = warp.inside ∙ sym e;
            point = warp.point;
            waits = warp.waits warp.some warp.exists warp.inside warp.carried warp.present;
            never = warp.never item exists e refl absent;
          })
    ]
