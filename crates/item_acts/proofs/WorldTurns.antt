-- What an item of a world asks for and does is a turn of the launch.
use Rattle.std.proofs.Common.{◌≡◌, ℕ, ◌+◌, ◌*◌, ◌/◌, ◌<◌, ◌≤◌, Bool, true, false, List, [], map, get_or, Result, Ok, Err, ap, sym, ◌∙◌, subst, arith}
use Rattle.std.specs.Bool.{MatchBool}
use Rattle.vx_base.specs.declared.types.Memory.{Memory}
use Rattle.item_acts.specs.declared.acts.Point.{Point}
use Rattle.item_acts.specs.declared.acts.Action.TheVariants.{Barrier}
use Rattle.item_acts.specs.Launches.{Launch, State, after, Passes}
use Rattle.std.specs.Result.{IfOk}
use Rattle.item_acts.specs.declared.acts.Action.{Action}
use Rattle.item_acts.specs.declared.acts.Asked.{Asked}
use Rattle.item_acts.specs.declared.acts.Asked.TheVariants.{Act}
use Rattle.item_acts.specs.declared.faults.TurnFault.{TurnFault}
use Rattle.item_acts.specs.declared.held.Held.{Held}
use Rattle.item_acts.specs.declared.held.Progress.TheVariants.{Going as GoesOn}
use Rattle.item_acts.specs.Worlds.{access_from, standing_of, state_of, launch_of, IsHeld, ActsAs, HasTurned, WaitsWithin, AllWaitWithin, HasPassed}
use Rattle.item_acts.proofs.Swaps.{first_in_group}
use Rattle.item_acts.proofs.Answering.{group_within, in_group_by, lies_in_group}

-- an item that goes on and asks for an action that was done has made a turn
pub turned : {A : Type 0} (r : Result A TurnFault) (asks : ℕ → List ℕ → ℕ → Asked) (h h' : Held) (item fuel : ℕ) (a : Action)
    → asks item (get_or h.answers item []) fuel ≡ Act a → item < h.items → get_or h.progress item GoesOn ≡ GoesOn
    → IfOk r (λ done. (any : ℕ → List ℕ → ℕ → Asked) → ActsAs (launch_of any h) h h' item a) → IfOk r (λ done. HasTurned (launch_of asks h) h h' item fuel)
turned (Ok done) asks h h' item fuel a asked exists going acts =
    let act = acts asks in
    record {
      action = a;
      asked = asked;
      may = record { exists = exists; going = ap standing_of going; asks = record { steps = fuel; asked = asked }; turn = act.turn };
      state = act.state;
      log = act.log;
    }
turned (Err fault) asks h h' item fuel a asked exists going acts = tt

-- an item waits at one point
waits_once : (l : Launch) (s : State) (fuel item : ℕ) (p q : Point) → WaitsWithin l s fuel item p → WaitsWithin l s fuel item q → p ≡ q
waits_once l s fuel item p q (going, asked) (going', asked') = let same : Act (Barrier p) ≡ Act (Barrier q) = sym asked ∙ asked' in cc

module _ (h : Held) (asks : ℕ → List ℕ → ℕ → Asked) (fuel g : ℕ) (held : IsHeld h) (begins : g * h.local < h.items) where
  -- where the first item of a group waits at no point, its items do not all wait at one
  pub none_meet : ((point : Point) → WaitsWithin (launch_of asks h) (state_of h) fuel (g * h.local) point → ⊥)
      → (point : Point) → AllWaitWithin (launch_of asks h) (state_of h) fuel g point → ⊥
  none_meet none point all = none point (all (g * h.local) begins (first_in_group (launch_of asks h) held.positive g))

  -- whether they all wait where the first of them waits
  pub meet_by : (r : Result Bool Memory) (first end : ℕ) (point : Point) → first ≡ g * h.local → end ≡ g * h.local + h.local
      → WaitsWithin (launch_of asks h) (state_of h) fuel first point
      → IfOk r (λ all. MatchBool all
      ((item : ℕ) → first ≤ item → item < end → WaitsWithin (launch_of asks h) (state_of h) fuel item point)
      ((item : ℕ) × (first ≤ item) × (item < end) × (WaitsWithin (launch_of asks h) (state_of h) fuel item point → ⊥)))
      → IfOk r (λ meets. MatchBool meets
      ((point : Point) × AllWaitWithin (launch_of asks h) (state_of h) fuel g point)
      ((point : Point) → AllWaitWithin (launch_of asks h) (state_of h) fuel g point → ⊥))
  meet_by (Ok true) first end point e e' waits all = (
    point,
    λ item exists same. let lies = lies_in_group h.local g item held.positive same in all item (omega (arith, lies.0)) (omega (arith, lies.1)),
  )
  meet_by (Ok false) first end point e e' waits (item, from, below, never) = λ other all.
      let within = group_within h.items h.local g held.positive held.whole begins in
      let own = all first (omega arith) (ap (λ (k : ℕ). k / h.local) e ∙ first_in_group (launch_of asks h) held.positive g) in
      let same = waits_once (launch_of asks h) (state_of h) fuel first other point own waits in
      never (subst (WaitsWithin (launch_of asks h) (state_of h) fuel item) same (all item (omega arith) (in_group_by h.local g item held.positive (omega arith) (omega arith))))
  meet_by (Err fault) first end point e e' waits all = tt

  -- a group whose items all wait has passed
  pub has_passed : (h' : Held) → ((point : Point) × AllWaitWithin (launch_of asks h) (state_of h) fuel g point)
      → ((any : ℕ → List ℕ → ℕ → Asked) (point : Point) → state_of h' ≡ after (launch_of any h) (state_of h) (Passes g point)) → h'.log ≡ h.log
      → HasPassed (launch_of asks h) h h' g fuel
  has_passed h' (point, all) state log = record {
    point = point;
    waited = all;
    may = record {
      exists = begins;
      waits = λ item exists own. let waits = all item exists own in record { going = waits.0; asks = record { steps = fuel; asked = waits.1 } };
    };
    state = state asks point;
    log = ap (map access_from) log;
  }
