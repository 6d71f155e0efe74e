-- Each launch of a kernel of assignments is tame and has no fault.
use Rattle.std.proofs.Common.{◌≡◌, ℕ, zero, suc, ◌+◌, ◌*◌, ◌<◌, ◌≤◌, true, List, [], ◌∷◌, ◌++◌, length, slice_get, Some, refl, subst, subst₂, arith}
use Rattle.std.proofs.Math.Nat.{mul-div_cancel}
use Rattle.std.proofs.lemmas.Bool.{false≢true}
use Rattle.vx_base.specs.declared.types.Pos.{Pos}
use Rattle.item_acts.specs.declared.acts.Place.{Place}
use Rattle.item_acts.specs.declared.acts.Place.TheVariants.{Global, Local}
use Rattle.item_acts.specs.declared.acts.Point.{Point}
use Rattle.item_acts.specs.declared.acts.Action.{Action}
use Rattle.item_acts.specs.declared.acts.Action.TheVariants.{Load, Store, Barrier, Fault, End}
use Rattle.item_acts.specs.declared.acts.Asked.TheVariants.{Act}
use Rattle.item_acts.specs.Machine.{asked}
use Rattle.item_acts.specs.Launches.{Launch, ItemAsks, State, start, covers, Turn, Does, Passes, after, MayPass, May, Allowed, run}
use Rattle.item_acts.specs.Tame.{Access, accesses_of, log_of, IsRace, IsTame, HasFault}
use Rattle.item_acts.proofs.Machine.{leads_none, settles_le, asks_along}
use Rattle.item_acts.proofs.Launches.{covers_within}
use Rattle.first_kernels.specs.FirstTree.{Form}
use Rattle.first_kernels.specs.First.{body_tasks, Item, item_step, item_start, array_of, launch_of}
use Rattle.first_kernels.specs.FirstValues.{words_at, IsLaunchable}
use Rattle.first_kernels.proofs.FirstLaunchItem.{NextOf, Loads, Stores, Ends, next_of, makes_body}
use Rattle.first_kernels.proofs.FirstLaunchBytes.{own_words, own_words-word}
use Rattle.first_kernels.proofs.FirstLaunchState.{IsOwn, AllOwn, own_append, Holds, Kept, left, asks_next, kept_next}

-- an own access of a log
own_at : (log : List Access) → AllOwn log → (k : ℕ) (x : Access) → slice_get log k ≡ Some x → IsOwn x
own_at [] own k x e = absurd (cc)
own_at (y ∷ log) own zero x e = let same : y ≡ x = cc in subst IsOwn same own.0
own_at (y ∷ log) own (suc k) x e = own_at log own.1 k x e

-- two items' own elements share no byte
own_apart : (b b' i j : ℕ) (byte : Place) → covers (Global b (4 * i)) 4 byte ≡ true → covers (Global b' (4 * j)) 4 byte ≡ true
    → i ≡ j
own_apart b b' i j (Global buffer byte) h h' =
    let within = covers_within b (4 * i) 4 buffer byte h in
    let within' = covers_within b' (4 * j) 4 buffer byte h' in
    omega arith
own_apart b b' i j (Local group array byte) h h' = absurd (false≢true h)

-- own accesses do not race
own_no_race : (x y : Access) → IsOwn x → IsOwn y → IsRace x y → ⊥
own_no_race x y (b, place, bytes) (b', place', bytes') race =
    race.others (own_apart b b' x.item y.item race.byte
    (subst₂ (λ (p : Place) (n : ℕ). covers p n race.byte ≡ true) place bytes race.shared.0)
    (subst₂ (λ (p : Place) (n : ℕ). covers p n race.byte ≡ true) place' bytes' race.shared.1))

-- an action that is no barrier and no fault
abbrev IsPlain : Action → Type 0
IsPlain (Load place size) = Unit {0}
IsPlain (Store place size value) = Unit {0}
IsPlain (Barrier point) = ⊥
IsPlain (Fault pos) = ⊥
IsPlain End = Unit {0}

-- what an item asks for is plain
next_plain : (arrays : ℕ → ℕ) (item buffers : ℕ) (m : Item) (words final : ℕ → ℕ) (a : Action)
    → NextOf arrays item buffers m words final a → IsPlain a
next_plain arrays item buffers m words final a (Loads b known g some) = tt
next_plain arrays item buffers m words final a (Stores b v known small g some) = tt
next_plain arrays item buffers m words final a (Ends g none) = tt

module _ (k : Form) (arguments : List ℕ) (items buffers : ℕ) (given : ℕ → ℕ → ℕ) where
  -- the launch, and the buffer of each parameter
  abbrev launch : Launch
  launch = launch_of k arguments items buffers

  abbrev arrays : ℕ → ℕ
  arrays = array_of arguments

  -- a state that some turns lead to
  abbrev Sound : State → Type 0
  Sound = Holds k arguments items buffers given

  -- an item asks for plain actions alone
  pub asks_plain : (s : State) → Sound s → (item : ℕ) → item < items → (a : Action)
      → ItemAsks launch item (s.answers item) a → IsPlain a
  asks_plain s h item below a asks =
      next_plain arrays item buffers (h.at item) (own_words s.bytes item) _ a (asks_next k arguments items buffers given s h item below a asks)

  -- so no group passes a barrier
  no_pass : (s : State) → Sound s → (group : ℕ) (point : Point) → MayPass launch s group point → ⊥
  no_pass s h group point m =
      let some : 0 < items = let exists = m.exists in omega arith in
      asks_plain s h (group * items) m.exists (Barrier point) (m.waits (group * items) m.exists (mul-div_cancel group some)).asks

  -- each turn that may come keeps the state
  pub kept_turn : (s : State) (h : Sound s) (turn : Turn) → May launch s turn → Kept k arguments items buffers given s h turn
  kept_turn s h (Does item a) m =
      kept_next k arguments items buffers given s h item m.exists m.going a (asks_next k arguments items buffers given s h item m.exists a m.asks)
  kept_turn s h (Passes group point) m = absurd (no_pass s h group point m)

  -- What some turns leave: such a state, with as many fewer turns left, and own accesses alone.
  pub record KeptAll (s : State) (h : Sound s) (turns : List Turn) : Type 0 where
    pub holds : Sound (run launch s turns)
    pub less : length turns + left k arguments items buffers given (run launch s turns).standing holds.at ≤ left k arguments items buffers given s.standing h.at
    pub own : AllOwn (log_of launch s turns)

  -- an interleaving keeps the state
  pub kept_turns : (s : State) (h : Sound s) (turns : List Turn) → Allowed launch s turns
      → KeptAll s h turns
  kept_turns s h [] allowed = record { holds = h; less = omega arith; own = tt }
  kept_turns s h (turn ∷ turns) (m, allowed) =
      let one = kept_turn s h turn m in
      let rest = kept_turns (after launch s turn) one.holds turns allowed in
      record {
        holds = rest.holds;
        less = let less = one.less in let less' = rest.less in omega arith;
        own = own_append (accesses_of launch s turn) _ one.own rest.own;
      }

  -- the start is such a state
  pub holds_start : IsLaunchable k arguments items buffers → ((buffer byte : ℕ) → given buffer byte < 256) → Sound (start given)
  holds_start launchable small = record {
    at = λ item. item_start k;
    each = λ item below. record {
      steps = 0;
      leads = leads_none (item_step arrays item) (item_start k);
      few = omega arith;
      makes = makes_body arrays item buffers k.parameters
          (λ p known. launchable.within p 0 (let enough = launchable.enough in omega arith))
          (let few = launchable.items_few in omega arith) k.assignments launchable.assignments (words_at given item)
          (λ b. own_words-word (start given).bytes item b small);
      stands = tt;
    };
    small = small;
    outside = λ buffer byte far. refl;
  }

  -- a going item asks within a step for each task of the body
  asks_soon : (s : State) → Sound s → (item : ℕ) → item < items
      → (a : Action) × (asked (item_step arrays item) (length (body_tasks k.assignments)) (item_start k) (s.answers item) ≡ Act a)
  asks_soon s h item below =
      let held = h.each item below in
      let m = h.at item in
      let step = item_step arrays item in
      let next = next_of arrays item buffers m.tasks m.values (own_words s.bytes item) _ (λ b. own_words-word s.bytes item b h.small) held.makes in (
        next.action,
        settles_le step (held.steps + length m.tasks) (length (body_tasks k.assignments)) held.few (item_start k) (s.answers item) next.action
            (asks_along step held.steps (item_start k) m (s.answers item) held.leads (length m.tasks) next.action next.soon),
      )

  -- every launch of a kernel of assignments is tame
  pub tame : IsLaunchable k arguments items buffers → ((buffer byte : ℕ) → given buffer byte < 256)
      → IsTame (launch_of k arguments items buffers) given
  tame launchable small =
      let l = launch in
      let h = holds_start launchable small in
      let turns_left = left k arguments items buffers given (start given).standing h.at in
      let tasks = length (body_tasks k.assignments) in (
        turns_left + tasks,
        record {
          few = λ turns allowed faults. let less = (kept_turns (start given) h turns allowed).less in omega arith;
          no_race = λ turns allowed faults race.
              let own = (kept_turns (start given) h turns allowed).own in
              own_no_race race.first race.second (own_at _ own race.one race.first race.first_is) (own_at _ own race.other race.second race.second_is) race.race;
          meets = λ turns allowed faults apart.
              asks_plain (run l (start given) turns) (kept_turns (start given) h turns allowed).holds apart.waiting apart.exist.0 (Barrier apart.point) apart.waits.asks;
          soon = λ turns allowed faults item below going.
              let asks = asks_soon (run l (start given) turns) (kept_turns (start given) h turns allowed).holds item below in (
                asks.0,
                settles_le (item_step arrays item) tasks (turns_left + tasks) (omega arith) (item_start k)
                    ((run l (start given) turns).answers item) asks.0 asks.1,
              );
        },
      )

  -- no fault comes last in what keeps the state
  no_fault_from : (s : State) → Sound s → (turns : List Turn) (item : ℕ) (pos : Pos)
      → Allowed launch s (turns ++ Does item (Fault pos) ∷ []) → ⊥
  no_fault_from s h [] item pos (m, done) = asks_plain s h item m.exists (Fault pos) m.asks
  no_fault_from s h (turn ∷ turns) item pos (m, allowed) =
      no_fault_from (after launch s turn) (kept_turn s h turn m).holds turns item pos allowed

  -- no interleaving of a launch of a kernel of assignments has a fault
  pub no_fault : IsLaunchable k arguments items buffers → ((buffer byte : ℕ) → given buffer byte < 256)
      → HasFault (launch_of k arguments items buffers) (start given) → ⊥
  no_fault launchable small fault = no_fault_from (start given) (holds_start launchable small) fault.turns fault.item fault.pos fault.allowed
