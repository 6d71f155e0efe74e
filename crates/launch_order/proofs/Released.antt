-- A group that a core has released may pass: no item was left out, and all wait at one point.
use Rattle.std.proofs.Common.{◌≡◌, ◌≢◌, ℕ, ◌*◌, ◌<◌, Bool, cond, nat_eq, nat_lt, List, [], ◌∷◌, ◌++◌, refl, ap, sym, ◌∙◌, subst, inl, inr, append_assoc, append-nil, ltb-true}
use Rattle.std.proofs.Math.Path.{fun_ext}
use Rattle.std.proofs.lemmas.Bool.{cases_Bool, and_parts, false_from_ne_true, both_ways}
use Rattle.vx_base.specs.declared.types.Pos.{Pos}
use Rattle.item_acts.specs.declared.acts.Point.{Point}
use Rattle.item_acts.specs.declared.acts.Action.{Action}
use Rattle.item_acts.specs.declared.acts.Action.TheVariants.{Load, Store, Barrier, Fault, End}
use Rattle.item_acts.specs.Launches.{Launch, ItemAsks, group_of, is_in_group, State, Going, Ended, Faulted, start, answers_to, Turn, Does, Passes, after, Waits, MayPass, Allowed, run}
use Rattle.item_acts.specs.Tame.{NeverPasses, IsApart, IsFault, accesses_of}
use Rattle.item_acts.specs.OneResult.{IsFaultFree, alone, HasStopped}
use Rattle.item_acts.proofs.Launches.{put_at_same}
use Rattle.item_acts.proofs.Swaps.{same_state, still_waits, first_in_group, in_one_group}
use Rattle.item_acts.proofs.Fronts.{stopped_stays}
use Rattle.item_acts.proofs.Schedules.{drive, cases_point}
use Rattle.launch_order.specs.Events.{Released, Event, CoreEnd, happened}
use Rattle.launch_order.specs.Cores.{StoodAt, LeftOut, GroupReleased, CoreEvents}
use Rattle.launch_order.specs.Lists.{IsOrderlyWithin}
use Rattle.launch_order.proofs.Merged.{Tagged, merged}
use Rattle.launch_order.proofs.Logged.{run_append, allowed_append, free_append, free_faults, IsLogged}
use Rattle.launch_order.proofs.Following.{whole, own, Follows, follows_more, seen}

-- what an item is told while it runs alone is added to what it was told
answers_alone : (l : Launch) (item : ℕ) (actions : List Action) (s : State)
    → (more : List ℕ) × ((run l s (alone item actions)).answers item ≡ s.answers item ++ more)
answers_alone l item [] s = ([], sym (append-nil (s.answers item)))
answers_alone l item (a ∷ actions) s =
    let rest = answers_alone l item actions (after l s (Does item a)) in
    let first : (after l s (Does item a)).answers item ≡ s.answers item ++ answers_to s.bytes a = put_at_same item _ s.answers in
    (answers_to s.bytes a ++ rest.0, rest.1 ∙ ap (λ z. z ++ rest.0) first ∙ append_assoc (s.answers item) (answers_to s.bytes a) rest.0)

-- while an item runs alone another one still waits
waits_beside : (l : Launch) (item other : ℕ) (p : Point) → other ≢ item → (actions : List Action) (s : State) → Waits l s other p
    → Waits l (run l s (alone item actions)) other p
waits_beside l item other p differ [] s waits = waits
waits_beside l item other p differ (a ∷ actions) s waits =
    waits_beside l item other p differ actions (after l s (Does item a)) (still_waits l s (Does item a) other p differ waits)

-- who has stopped has not faulted
stopped_unfaulted : (l : Launch) (s : State) (item : ℕ) (pos : Pos) → s.standing item ≡ Faulted pos → HasStopped l s item → ⊥
stopped_unfaulted l s item pos e (inl ended) = let clash : Ended ≡ Faulted pos = sym ended ∙ e in cc
stopped_unfaulted l s item pos e (inr (inl (p, waits))) = let clash : Going ≡ Faulted pos = sym waits.going ∙ e in cc
stopped_unfaulted l s item pos e (inr (inr (going, asks))) = let clash : Going ≡ Faulted pos = sym going ∙ e in cc

-- so an item that runs alone until it stops makes no fault
no_fault_alone : (l : Launch) (item : ℕ) (a : Action) (actions : List Action) (s : State) → Allowed l s (alone item (a ∷ actions))
    → HasStopped l (run l s (alone item (a ∷ actions))) item → ¬ (IsFault (Does item a))
no_fault_alone l item (Load p size) actions s allowed stops fault = fault
no_fault_alone l item (Store p size v) actions s allowed stops fault = fault
no_fault_alone l item (Barrier p) actions s allowed stops fault = fault
no_fault_alone l item (Fault pos) actions s allowed stops fault =
    let faulted : (after l s (Does item (Fault pos))).standing item ≡ Faulted pos = put_at_same item (Faulted pos) s.standing in
    stopped_unfaulted l (run l (after l s (Does item (Fault pos))) (alone item actions)) item pos
    (stopped_stays l (alone item actions) (after l s (Does item (Fault pos))) item (λ going. let clash : Going ≡ Faulted pos = sym going ∙ faulted in cc) allowed.1 ∙ faulted)
    stops
no_fault_alone l item End actions s allowed stops fault = fault

free_alone : (l : Launch) (item : ℕ) (actions : List Action) (s : State) → Allowed l s (alone item actions)
    → HasStopped l (run l s (alone item actions)) item → IsFaultFree (alone item actions)
free_alone l item [] s allowed stops = tt
free_alone l item (a ∷ actions) s allowed stops =
    (no_fault_alone l item a actions s allowed stops, free_alone l item actions (after l s (Does item a)) allowed.1 stops)

-- an item that has stopped and does not wait at a point will never pass there
stopped_never : (l : Launch) (s : State) (item : ℕ) (p : Point) → (Waits l s item p → ⊥) → HasStopped l s item → NeverPasses l s item p
stopped_never l s item p not (inl ended) = inl ended
stopped_never l s item p not (inr (inl (q, waits))) =
    elim (cases_point q p) [
      | inl e ↦ absurd (not (subst (Waits l s item) e waits))
      | inr differ ↦ inr (inl (q, differ, waits))
    ]
stopped_never l s item p not (inr (inr asks)) = inr (inr asks)

module _ (l : Launch) (given final : ℕ → ℕ → ℕ) (cores : ℕ) (events : ℕ → List Event) (ends : ℕ → CoreEnd)
    (known : CoreEvents l given final cores events ends) (n : ℕ) (orderly : IsOrderlyWithin l given n) where
  -- behind fault-free turns no two items are apart
  pub none_apart : (turns : List Turn) → Allowed l (start given) turns → IsFaultFree turns → IsApart l (run l (start given) turns) → ⊥
  none_apart turns allowed free apart = orderly.tame.meets turns allowed (free_faults turns free) apart

  -- who waits by what its core has seen waits
  pub waits_whole : (done tail : List Tagged) → merged events cores ≡ done ++ tail → (core item : ℕ) → known.core_of (group_of l item) ≡ core → (p : Point)
      → Waits l (own given core done) item p → Waits l (whole given done) item p
  waits_whole done tail split core item here p waits =
      let see = seen l given final cores events ends known n orderly done tail split core item here in
      record { going = sym see.standing ∙ waits.going; asks = subst (λ answers. ItemAsks l item answers (Barrier p)) see.answers waits.asks }

  -- no item was left out: alone it would come to where it never passes
  none_left_out : (done tail : List Tagged) → merged events cores ≡ done ++ tail → (f : Follows l given done) → (core item : ℕ) → item < l.items
      → known.core_of (group_of l item) ≡ core → (stood : ℕ → Bool) → LeftOut l (own given core done) stood item → ⊥
  none_left_out done tail split f core item exists here stood left =
      let s = run l (start given) f.turns in
      let see = seen l given final cores events ends known n orderly done tail split core item here in
      let there : known.core_of (group_of l left.other) ≡ core = ap known.core_of left.together ∙ here in
      let waits : Waits l s left.other left.point =
      subst (λ z. Waits l z left.other left.point) (sym f.same) (waits_whole done tail split core left.other there left.point left.waits) in
      let differ : left.other ≢ item =
      λ e. left.never [] (subst (λ answers. ItemAsks l item answers (Barrier left.point)) (sym (append-nil ((own given core done).answers item)))
      (subst (λ k. ItemAsks l k ((own given core done).answers k) (Barrier left.point)) e left.waits.asks)) in
      let stop = drive l given n orderly.tame orderly.bounds f.turns f.allowed f.free item exists in
      let s' = run l s (alone item stop.actions) in
      let more = answers_alone l item stop.actions s in
      let told : (own given core done).answers item ++ more.0 ≡ s'.answers item =
      ap (λ z. z ++ more.0) (see.answers ∙ sym (ap (λ z. z.answers item) f.same)) ∙ sym more.1 in
      let not : Waits l s' item left.point → ⊥ =
      λ w. left.never more.0 (subst (λ answers. ItemAsks l item answers (Barrier left.point)) (sym told) w.asks) in
      let apart : IsApart l s' = record {
        waiting = left.other;
        other = item;
        exist = (left.exists, exists);
        together = left.together;
        point = left.point;
        waits = waits_beside l item left.other left.point differ stop.actions s waits;
        never = stopped_never l s' item left.point not stop.stops;
      } in
      none_apart (f.turns ++ alone item stop.actions) (allowed_append l f.turns (alone item stop.actions) (start given) f.allowed stop.allowed)
      (free_append f.turns (alone item stop.actions) f.free (free_alone l item stop.actions s stop.allowed stop.stops))
      (subst (IsApart l) (sym (run_append l f.turns (alone item stop.actions) (start given))) apart)

  -- two items of one group that wait wait at one point
  at_one_point : (done : List Tagged) → Follows l given done → (i k : ℕ) → i < l.items → k < l.items → group_of l i ≡ group_of l k
      → (p q : Point) → Waits l (whole given done) i p → Waits l (whole given done) k q → q ≡ p
  at_one_point done f i k exists exists' together p q waits waits' =
      elim (cases_point q p) [
        | inl e ↦ e
        | inr differ ↦
            let apart : IsApart l (whole given done) = record {
              waiting = i;
              other = k;
              exist = (exists, exists');
              together = together;
              point = p;
              waits = waits;
              never = inr (inl (q, differ, waits'));
            } in
            absurd (none_apart f.turns f.allowed f.free (subst (IsApart l) (sym f.same) apart))
      ]

  -- each item of a released group stood
  each_stood : (done tail : List Tagged) → merged events cores ≡ done ++ tail → Follows l given done → (core group : ℕ) (stood : ℕ → Bool)
      → GroupReleased l known.core_of core (own given core done) group stood → (item : ℕ) → item < l.items → group_of l item ≡ group
      → StoodAt l (own given core done) stood item
  each_stood done tail split f core group stood released item exists e =
      elim (released.each item exists e) [
        | inl there ↦ there
        | inr left ↦ absurd (none_left_out done tail split f core item exists (ap known.core_of e ∙ released.here) stood left)
      ]

  -- so those that stood are the group
  all_stood : (done tail : List Tagged) → merged events cores ≡ done ++ tail → Follows l given done → (core group : ℕ) (stood : ℕ → Bool)
      → GroupReleased l known.core_of core (own given core done) group stood → (item : ℕ) → is_in_group l group item ≡ stood item
  all_stood done tail split f core group stood released item =
      elim (cases_Bool (is_in_group l group item)) [
        | inl within ↦
            let exists : item < l.items = ltb-true item l.items (and_parts (nat_lt item l.items) (nat_eq (group_of l item) group) within).0 in
            let there = each_stood done tail split f core group stood released item exists (in_one_group l group item within) in
            within ∙ sym there.present
        | inr out ↦ out ∙ sym (false_from_ne_true (stood item) (λ present. both_ways (is_in_group l group item) out (released.inside item present)))
      ]

  -- and the group may pass
  pub add_release : (done tail : List Tagged) (x : Tagged) → merged events cores ≡ done ++ x ∷ tail → Follows l given done → (group : ℕ) (stood : ℕ → Bool)
      → x.event.what ≡ Released group stood
      → GroupReleased l known.core_of x.core (own given x.core done) group stood → Follows l given (done ++ x ∷ [])
  add_release done tail x split f group stood is released =
      let first = group * l.local in
      let first_group : group_of l first ≡ group = first_in_group l orderly.positive group in
      let here : (k : ℕ) → group_of l k ≡ group → known.core_of (group_of l k) ≡ x.core = λ k e. ap known.core_of e ∙ released.here in
      let one = each_stood done (x ∷ tail) split f x.core group stood released first released.exists first_group in
      let one_waits = waits_whole done (x ∷ tail) split x.core first (here first first_group) one.point one.waits in
      let may : MayPass l (whole given done) group one.point = record {
        exists = released.exists;
        waits = λ k exists e.
            let other = each_stood done (x ∷ tail) split f x.core group stood released k exists e in
            let other_waits = waits_whole done (x ∷ tail) split x.core k (here k e) other.point other.waits in
            subst (Waits l (whole given done) k)
            (at_one_point done f first k released.exists exists (first_group ∙ sym e) one.point other.point one_waits other_waits) other_waits;
      } in
      let s = whole given done in
      let leads : after l s (Passes group one.point) ≡ happened s (Released group stood) =
      same_state refl (fun_ext (λ k. ap (λ b. cond b (s.answers k ++ 0 ∷ []) (s.answers k)) (all_stood done (x ∷ tail) split f x.core group stood released k))) refl refl in
      follows_more l given done x (Passes group one.point) f may (λ fault. fault) (leads ∙ ap (happened s) (sym is))
      (subst (IsLogged l (accesses_of l s (Passes group one.point))) (sym is) tt)
