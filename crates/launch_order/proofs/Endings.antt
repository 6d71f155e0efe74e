-- What follows for the ends of a launch: each front of the one order is followed by turns, and so is the whole of it.
use Rattle.std.proofs.Common.{◌≡◌, ◌≢◌, ℕ, ◌+◌, ◌<◌, ◌≤◌, ◌⊎◌, true, false, List, [], ◌∷◌, ◌++◌, slice_index, refl, ap, sym, ◌∙◌, subst, subst₂, inl, inr, arith, append_assoc, append-nil}
use Rattle.std.proofs.lemmas.Bool.{cases_eq, cases_lt, cases_Bool, cond-false, false_from_ne_true, true≢false}
use Rattle.vx_base.specs.Bytes.{bytes_of}
use Rattle.vx_base.specs.declared.types.Pos.{Pos}
use Rattle.item_acts.specs.declared.acts.Place.{Place}
use Rattle.item_acts.specs.declared.acts.Place.TheVariants.{Global, Local}
use Rattle.item_acts.specs.declared.acts.Action.TheVariants.{Load, Store, Barrier, Fault, End}
use Rattle.item_acts.specs.Launches.{Launch, ItemAsks, group_of, State, start, covers, Turn, Does, Passes, after, IsInside, MayDo, Waits, Allowed, run, IsComplete}
use Rattle.item_acts.specs.declared.acts.Asked.TheVariants.{Act}
use Rattle.item_acts.specs.declared.acts.Point.{Point}
use Rattle.item_acts.specs.Tame.{Access, log_of, HasRace, NeverPasses, LaunchLeaves}
use Rattle.item_acts.proofs.Launches.{covers_within}
use Rattle.item_acts.proofs.Schedules.{complete_leaves}
use Rattle.launch_order.specs.Events.{Loaded, Stored, Finished, Happening, Did, Released, Event, CoreEnd, AllDone, AtFault, Stuck, led, stores}
use Rattle.launch_order.specs.Cores.{StoreNot, IsSound, CoreEvents}
use Rattle.launch_order.specs.Lists.{IsOrderlyWithin, FaultComes, IsReached}
use Rattle.launch_order.proofs.Merged.{Tagged, project, Each, each_with, each_both, project_here, project_past, merged, project_merged}
use Rattle.launch_order.proofs.Seen.{Moves, IsHome, SameItem, seen_byte}
use Rattle.launch_order.proofs.Logged.{allowed_append, free_faults, Among, IsLogged}
use Rattle.launch_order.proofs.Following.{own, Follows, follows_none, other_stores_not, home_all, below_all, sound_at, seen, add_deed}
use Rattle.launch_order.proofs.Released.{none_apart, add_release}

-- a front of some events with these of one core
record FrontOf (core : ℕ) (xs : List Tagged) (before : List Event) : Type 0 where
  front : List Tagged
  rest : List Tagged
  split : xs ≡ front ++ rest
  projects : project core front ≡ before

-- each front of a core's events comes from a front of all
front_with : (core : ℕ) (xs : List Tagged) (before behind : List Event) → project core xs ≡ before ++ behind → FrontOf core xs before
front_with core xs [] behind e = record { front = []; rest = xs; split = refl; projects = refl }
front_with core [] (b ∷ before) behind e = absurd (cc)
front_with core (x ∷ xs) (b ∷ before) behind e =
    elim (cases_eq x.core core) [
      | inl here ↦
          let both : x.event ∷ project core xs ≡ b ∷ (before ++ behind) = sym (project_here core x xs here) ∙ e in
          let first : x.event ≡ b = cc in
          let later : project core xs ≡ before ++ behind = cc in
          let more = front_with core xs before behind later in
          record {
            front = x ∷ more.front;
            rest = more.rest;
            split = ap (λ zs. x ∷ zs) more.split;
            projects = project_here core x more.front here ∙ ap (λ z. z ∷ project core more.front) first ∙ ap (λ zs. b ∷ zs) more.projects;
          }
      | inr differ ↦
          let more = front_with core xs (b ∷ before) behind (sym (project_past core x xs differ) ∙ e) in
          record {
            front = x ∷ more.front;
            rest = more.rest;
            split = ap (λ zs. x ∷ zs) more.split;
            projects = project_past core x more.front differ ∙ more.projects;
          }
    ]

-- an event that stores the byte, with what all events have
record StoresIt (Q : Tagged → Type 0) (byte : Place) : Type 0 where
  event : Tagged
  has : Q event
  stored : stores event.event.what byte ≡ true

-- some event stores the byte, or none does
who_stores : (Q : Tagged → Type 0) (byte : Place) (xs : List Tagged) → Each Q xs → Each (λ y. stores y.event.what byte ≡ false) xs ⊎ StoresIt Q byte
who_stores Q byte [] each = inl tt
who_stores Q byte (x ∷ xs) each =
    elim (cases_Bool (stores x.event.what byte)) [
      | inl stored ↦ inr (record { event = x; has = each.0; stored = stored })
      | inr not ↦ elim (who_stores Q byte xs each.1) [ inl none ↦ inl (not, none) | inr some ↦ inr some ]
    ]

-- which of the events of one core store a byte, by the events of all
store_not_project : (byte : Place) (core : ℕ) (xs : List Tagged) → Each (λ y. y.core ≡ core → stores y.event.what byte ≡ false) xs
    → StoreNot byte (project core xs)
store_not_project byte core [] each = tt
store_not_project byte core (y ∷ ys) each =
    elim (cases_eq y.core core) [
      | inl e ↦ subst (StoreNot byte) (sym (project_here core y ys e)) (each.0 e, store_not_project byte core ys each.1)
      | inr differ ↦ subst (StoreNot byte) (sym (project_past core y ys differ)) (store_not_project byte core ys each.1)
    ]

-- a field within the launch has no byte behind a buffer
not_outside : (l : Launch) (p : Place) (n buffer byte : ℕ) → IsInside l p n → slice_index l.buffers buffer ≤ byte → covers p n (Global buffer byte) ≡ false
not_outside l (Global b at) n buffer byte inside out =
    false_from_ne_true _ (λ e.
    let within = covers_within b at n buffer byte e in
    let last : at + n ≤ slice_index l.buffers buffer = subst (λ k. at + n ≤ slice_index l.buffers k) within.0 inside in
    let below : byte < at + n = within.2 in
    omega (arith, last, below, out))
not_outside l (Local group array at) n buffer byte inside out = refl

-- so turns leave such bytes as they are
run_outside : (l : Launch) (buffer byte : ℕ) → slice_index l.buffers buffer ≤ byte → (turns : List Turn) (s : State) → Allowed l s turns
    → (run l s turns).bytes (Global buffer byte) ≡ s.bytes (Global buffer byte)
run_outside l buffer byte out [] s allowed = refl
run_outside l buffer byte out (Does i (Load p size) ∷ turns) s allowed = run_outside l buffer byte out turns (after l s (Does i (Load p size))) allowed.1
run_outside l buffer byte out (Does i (Store p size v) ∷ turns) s allowed =
    run_outside l buffer byte out turns (after l s (Does i (Store p size v))) allowed.1
    ∙ cond-false _ _ _ (not_outside l p (bytes_of size) buffer byte allowed.0.turn out)
run_outside l buffer byte out (Does i (Barrier p) ∷ turns) s allowed = run_outside l buffer byte out turns (after l s (Does i (Barrier p))) allowed.1
run_outside l buffer byte out (Does i (Fault pos) ∷ turns) s allowed = run_outside l buffer byte out turns (after l s (Does i (Fault pos))) allowed.1
run_outside l buffer byte out (Does i End ∷ turns) s allowed = run_outside l buffer byte out turns (after l s (Does i End)) allowed.1
run_outside l buffer byte out (Passes g p ∷ turns) s allowed = run_outside l buffer byte out turns (after l s (Passes g p)) allowed.1

-- the access of a store in a log
record StoredAccess (l : Launch) (log : List Access) (h : Happening) (byte : Place) : Type 0 where
  access : Access
  among : Among access log
  of_group : access.group ≡ group_of l access.item
  covered : covers access.place access.bytes byte ≡ true
  moves : Moves h access.item

stored_access : (l : Launch) (log : List Access) (h : Happening) (byte : Place) → IsLogged l log h → stores h byte ≡ true → StoredAccess l log h byte
stored_access l log (Did i (Loaded p size answer)) byte logged stored = absurd (true≢false (sym stored))
stored_access l log (Did i (Stored p size v)) byte logged stored = record {
  access = logged.access;
  among = logged.among;
  of_group = logged.of_group ∙ ap (group_of l) (sym logged.of_item);
  covered = ap (λ z. covers z logged.access.bytes byte) logged.at_field ∙ ap (λ z. covers p z byte) logged.of_size ∙ stored;
  moves = sym logged.of_item;
}
stored_access l log (Did i Finished) byte logged stored = absurd (true≢false (sym stored))
stored_access l log (Released group stood) byte logged stored = absurd (true≢false (sym stored))

-- what an event of all has behind the last turn: its core, its items, and its store in the log
record Known (l : Launch) (core_of : ℕ → ℕ) (cores : ℕ) (log : List Access) (x : Tagged) : Type 0 where
  below : x.core < cores
  home : IsHome l core_of x
  logged : IsLogged l log x.event.what

-- where a log has no race, a byte that one core stores no other core stores
two_store_not : (l : Launch) (core_of : ℕ → ℕ) (cores : ℕ) (log : List Access) (byte : Place) → (HasRace log → ⊥)
    → (x y : Tagged) → Known l core_of cores log x → stores x.event.what byte ≡ true → Known l core_of cores log y → y.core ≢ x.core
    → stores y.event.what byte ≡ false
two_store_not l core_of cores log byte never x y has stored has' differ =
    let one = stored_access l log x.event.what byte has.logged stored in
    other_stores_not l log core_of one.access byte never one.among one.of_group one.covered y.event.what y.core has'.home has'.logged
    (λ e. differ (e ∙ has.home one.access.item one.moves))

module _ (l : Launch) (given final : ℕ → ℕ → ℕ) (cores : ℕ) (events : ℕ → List Event) (ends : ℕ → CoreEnd)
    (known : CoreEvents l given final cores events ends) (n : ℕ) (orderly : IsOrderlyWithin l given n) where
  -- each event is added with its turn
  add_what : (done tail : List Tagged) (x : Tagged) → merged events cores ≡ done ++ x ∷ tail → Follows l given done → (h : Happening)
      → x.event.what ≡ h → IsSound l cores events known.core_of x.core (own given x.core done) x.event.place h → Follows l given (done ++ x ∷ [])
  add_what done tail x split f (Did item deed) is did = add_deed l given final cores events ends known n orderly done tail x split f item deed is did
  add_what done tail x split f (Released group stood) is released =
      add_release l given final cores events ends known n orderly done tail x split f group stood is released

  add_event : (done tail : List Tagged) (x : Tagged) → merged events cores ≡ done ++ x ∷ tail → Follows l given done → Follows l given (done ++ x ∷ [])
  add_event done tail x split f =
      add_what done tail x split f x.event.what refl (sound_at l given final cores events ends known n orderly done tail x split)

  add_events : (more done tail : List Tagged) → merged events cores ≡ done ++ (more ++ tail) → Follows l given done → Follows l given (done ++ more)
  add_events [] done tail split f = subst (Follows l given) (sym (append-nil done)) f
  add_events (x ∷ more) done tail split f =
      subst (Follows l given) (append_assoc done (x ∷ []) more)
      (add_events more (done ++ x ∷ []) tail (split ∙ sym (append_assoc done (x ∷ []) (more ++ tail))) (add_event done (more ++ tail) x split f))

  -- turns follow each front of all events
  follows_front : (front tail : List Tagged) → merged events cores ≡ front ++ tail → Follows l given front
  follows_front front tail split = add_events front [] tail split (follows_none l given)

  -- and all of them
  follows_all : Follows l given (merged events cores)
  follows_all = follows_front (merged events cores) [] (sym (append-nil (merged events cores)))

  -- what a core has seen at its end
  own_end : (core : ℕ) → core < cores → own given core (merged events cores) ≡ led (start given) (events core)
  own_end core below = ap (led (start given)) (project_merged events cores core known.rising below)

  seen_end : (core item : ℕ) → core < cores → known.core_of (group_of l item) ≡ core
      → SameItem (led (start given) (events core)) (run l (start given) follows_all.turns) item
  seen_end core item below here =
      subst₂ (λ s t. SameItem s t item) (own_end core below) (sym follows_all.same)
      (seen l given final cores events ends known n orderly (merged events cores) [] (sym (append-nil (merged events cores))) core item here)

  known_all : Each (Known l known.core_of cores (log_of l (start given) follows_all.turns)) (merged events cores)
  known_all =
      each_both (λ x both logged. record { below = both.0; home = both.1; logged = logged }) (merged events cores)
      (each_both {R = λ x. (x.core < cores) × IsHome l known.core_of x} (λ x below home. (below, home)) (merged events cores)
      (below_all l given final cores events ends known n orderly) (home_all l given final cores events ends known n orderly))
      follows_all.logged

  no_race_end : HasRace (log_of l (start given) follows_all.turns) → ⊥
  no_race_end race = orderly.tame.no_race follows_all.turns follows_all.allowed (free_faults follows_all.turns follows_all.free) race

  -- a byte that no other core stores ends as the turns leave it
  byte_of_core : (core : ℕ) → core < cores → (buffer byte : ℕ) → byte < slice_index l.buffers buffer
      → Each (λ y. y.core ≢ core → stores y.event.what (Global buffer byte) ≡ false) (merged events cores)
      → final buffer byte ≡ (run l (start given) follows_all.turns).bytes (Global buffer byte)
  byte_of_core core below buffer byte inside alone =
      known.final_own core below buffer byte inside
      (λ other below' differ. subst (StoreNot (Global buffer byte)) (project_merged events cores other known.rising below')
      (store_not_project (Global buffer byte) other (merged events cores) (each_with (λ y not same. not (λ e. differ (sym same ∙ e))) (merged events cores) alone)))
      ∙ ap (λ s. s.bytes (Global buffer byte)) (sym (own_end core below))
      ∙ seen_byte core (Global buffer byte) (merged events cores) alone (start given) (start given) refl
      ∙ ap (λ s. s.bytes (Global buffer byte)) (sym follows_all.same)

  byte_inside : (buffer byte : ℕ) → byte < slice_index l.buffers buffer
      → final buffer byte ≡ (run l (start given) follows_all.turns).bytes (Global buffer byte)
  byte_inside buffer byte inside =
      elim (who_stores (Known l known.core_of cores (log_of l (start given) follows_all.turns)) (Global buffer byte) (merged events cores) known_all) [
        | inl none ↦ byte_of_core 0 known.some buffer byte inside (each_with (λ y not differ. not) (merged events cores) none)
        | inr one ↦
            byte_of_core one.event.core one.has.below buffer byte inside
            (each_with (λ y has differ. two_store_not l known.core_of cores (log_of l (start given) follows_all.turns) (Global buffer byte) no_race_end one.event y one.has one.stored has differ)
            (merged events cores) known_all)
      ]

  -- the final bytes are those that the turns leave
  final_bytes : (buffer byte : ℕ) → final buffer byte ≡ (run l (start given) follows_all.turns).bytes (Global buffer byte)
  final_bytes buffer byte =
      elim (cases_lt byte (slice_index l.buffers buffer)) [
        | inl inside ↦ byte_inside buffer byte inside
        | inr out ↦
            known.final_outside buffer byte out
            ∙ sym (run_outside l buffer byte out follows_all.turns (start given) follows_all.allowed)
      ]

  -- where every core is done every item has ended
  complete_end : ((core : ℕ) → core < cores → ends core ≡ AllDone) → IsComplete l (run l (start given) follows_all.turns)
  complete_end done item exists =
      let there = known.finished done item exists in
      sym (seen_end (known.core_of (group_of l item)) item there.exists refl).standing ∙ there.ended

  -- and the buffers have what the launch leaves
  pub done_leaves : ((core : ℕ) → core < cores → ends core ≡ AllDone) → LaunchLeaves l given final
  done_leaves done =
      let leaves = complete_leaves l given n orderly.settled orderly.positive orderly.tame follows_all.turns
      (record { allowed = follows_all.allowed; complete = complete_end done }) in
      record {
        turns = leaves.turns;
        first = leaves.first;
        complete = leaves.complete;
        bytes = λ buffer byte. final_bytes buffer byte ∙ leaves.bytes buffer byte;
      }

  -- the fault of a core comes behind these turns
  pub fault_comes : (core : ℕ) → core < cores → (item : ℕ) (pos : Pos) → ends core ≡ AtFault item pos → FaultComes l given item pos
  fault_comes core below item pos e =
      let stop = known.at_fault core below item pos e in
      let see = seen_end core item below stop.here in
      let may : MayDo l (run l (start given) follows_all.turns) item (Fault pos) = record {
        exists = stop.exists;
        going = sym see.standing ∙ stop.going;
        asks = subst (λ answers. ItemAsks l item answers (Fault pos)) see.answers stop.asks;
        turn = tt;
      } in
      record {
        turns = follows_all.turns;
        allowed = allowed_append l follows_all.turns (Does item (Fault pos) ∷ []) (start given) follows_all.allowed (may, tt);
        free = follows_all.free;
      }

  waits_end : (core item : ℕ) (p : Point) → core < cores → known.core_of (group_of l item) ≡ core → Waits l (led (start given) (events core)) item p
      → Waits l (run l (start given) follows_all.turns) item p
  waits_end core item p below here waits =
      let see = seen_end core item below here in
      record { going = sym see.standing ∙ waits.going; asks = subst (λ answers. ItemAsks l item answers (Barrier p)) see.answers waits.asks }

  never_end : (core item : ℕ) (p : Point) → core < cores → known.core_of (group_of l item) ≡ core → NeverPasses l (led (start given) (events core)) item p
      → NeverPasses l (run l (start given) follows_all.turns) item p
  never_end core item p below here (inl ended) = inl (sym (seen_end core item below here).standing ∙ ended)
  never_end core item p below here (inr (inl (q, differ, waits))) = inr (inl (q, differ, waits_end core item q below here waits))
  never_end core item p below here (inr (inr (going, (pos, asks)))) =
      let see = seen_end core item below here in
      inr (inr (sym see.standing ∙ going, (pos, subst (λ answers. ItemAsks l item answers (Fault pos)) see.answers asks)))

  -- no core is stuck
  pub never_stuck : (core : ℕ) → core < cores → ends core ≡ Stuck → ⊥
  never_stuck core below e =
      let here = known.stuck core below e in
      let apart = here.apart in
      none_apart l given final cores events ends known n orderly follows_all.turns follows_all.allowed follows_all.free (record {
        waiting = apart.waiting;
        other = apart.other;
        exist = apart.exist;
        together = apart.together;
        point = apart.point;
        waits = waits_end core apart.waiting apart.point below here.here apart.waits;
        never = never_end core apart.other apart.point below (ap known.core_of (sym apart.together) ∙ here.here) apart.never;
      })

  -- behind each front of a core's events its items stand as behind turns without a fault
  pub reached : (core : ℕ) → core < cores → (before behind : List Event) → events core ≡ before ++ behind
      → IsReached l given n known.core_of core (led (start given) before)
  reached core below before behind e =
      let cut = front_with core (merged events cores) before behind (project_merged events cores core known.rising below ∙ e) in
      let f = follows_front cut.front cut.rest cut.split in
      let see : (item : ℕ) → known.core_of (group_of l item) ≡ core → SameItem (led (start given) before) (run l (start given) f.turns) item =
      λ item here. subst₂ (λ s t. SameItem s t item) (ap (led (start given)) cut.projects) (sym f.same)
      (seen l given final cores events ends known n orderly cut.front cut.rest cut.split core item here) in
      record {
        turns = f.turns;
        allowed = f.allowed;
        free = f.free;
        answers = λ item here. (see item here).answers;
        standing = λ item here. (see item here).standing;
        soon = λ item exists here going.
            let next = orderly.tame.soon f.turns f.allowed (free_faults f.turns f.free) item exists (sym (see item here).standing ∙ going) in
            (next.0, subst (λ answers. l.asks item answers n ≡ Act next.0) (sym (see item here).answers) next.1);
      }
