-- Behind each front of the one order, some turns without a fault lead to what its events have led to.
use Rattle.std.proofs.Common.{◌≡◌, ◌≢◌, ℕ, ◌<◌, ◌≤◌, true, false, List, [], ◌∷◌, ◌++◌, refl, ap, sym, ◌∙◌, subst, inl, append_assoc}
use Rattle.std.proofs.lemmas.Bool.{true≢false, false_from_ne_true}
use Rattle.vx_base.specs.Bytes.{bytes_of}
use Rattle.vx_base.specs.declared.types.Size.{Size}
use Rattle.vx_base.proofs.NumberLaws.{number_of-same}
use Rattle.item_acts.specs.declared.acts.Place.{Place}
use Rattle.item_acts.specs.declared.acts.Action.TheVariants.{Load}
use Rattle.item_acts.specs.Launches.{Launch, ItemAsks, group_of, State, start, further, covers, field_at, put_at, answers_to, Turn, Does, after, IsTurn, MayDo, May, Allowed, run}
use Rattle.item_acts.specs.Tame.{Access, access_of, accesses_of, log_of, HasRace, IsFault}
use Rattle.item_acts.specs.OneResult.{IsFaultFree, IsWithin}
use Rattle.item_acts.proofs.Swaps.{same_state, covers_further, in_one_group}
use Rattle.launch_order.specs.Events.{Deed, Loaded, Stored, Finished, action_of, answers_of, Happening, Did, Released, Event, CoreEnd, happened, led, stores}
use Rattle.launch_order.specs.Cores.{StoresFrom, IsClear, ItemDid, IsSound, CoreEvents}
use Rattle.launch_order.specs.Lists.{IsOrderlyWithin}
use Rattle.launch_order.proofs.Merged.{Tagged, project, untagged, Each, EachEvent, each_with, each_both, each_append, each_front, each_back, project_here, project_append, merged, each_merged, Sorted, sorted_merged, sorted_back, project_merged}
use Rattle.launch_order.proofs.Seen.{untagged_append, led_append, Moves, IsHome, SameItem, seen_item, seen_byte, stores_of_project}
use Rattle.launch_order.proofs.Logged.{run_append, allowed_append, free_append, faults_last, log_append, Among, among_back, IsLogged, logged_front, logged_back, store_races}

-- what the events of all cores have led to
abbrev pub whole : (ℕ → ℕ → ℕ) → List Tagged → State
whole given done = led (start given) (untagged done)

-- what one core has seen of it
abbrev pub own : (ℕ → ℕ → ℕ) → ℕ → List Tagged → State
own given core done = led (start given) (project core done)

-- Some turns without a fault that lead to what these events have led to, with their stores in the log.
pub record Follows (l : Launch) (given : ℕ → ℕ → ℕ) (done : List Tagged) : Type 0 where
  pub turns : List Turn
  pub allowed : Allowed l (start given) turns
  pub free : IsFaultFree turns
  pub same : run l (start given) turns ≡ whole given done
  pub logged : Each (λ x. IsLogged l (log_of l (start given) turns) x.event.what) done

-- before the first event no turn is taken
pub follows_none : (l : Launch) (given : ℕ → ℕ → ℕ) → Follows l given []
follows_none l given = record { turns = []; allowed = tt; free = tt; same = refl; logged = tt }

whole_more : (given : ℕ → ℕ → ℕ) (done : List Tagged) (x : Tagged) → whole given (done ++ x ∷ []) ≡ happened (whole given done) x.event.what
whole_more given done x = ap (led (start given)) (untagged_append done (x ∷ [])) ∙ led_append (start given) (untagged done) (x.event ∷ [])

-- one more event with its turn
pub follows_more : (l : Launch) (given : ℕ → ℕ → ℕ) (done : List Tagged) (x : Tagged) (t : Turn) → Follows l given done → May l (whole given done) t
    → ¬ (IsFault t) → after l (whole given done) t ≡ happened (whole given done) x.event.what
    → IsLogged l (accesses_of l (whole given done) t) x.event.what → Follows l given (done ++ x ∷ [])
follows_more l given done x t f may safe leads logged =
    let may' : May l (run l (start given) f.turns) t = subst (λ s. May l s t) (sym f.same) may in
    let log : log_of l (start given) (f.turns ++ t ∷ []) ≡ log_of l (start given) f.turns ++ accesses_of l (whole given done) t =
    log_append l f.turns t (start given) ∙ ap (λ s. log_of l (start given) f.turns ++ accesses_of l s t) f.same in
    record {
      turns = f.turns ++ t ∷ [];
      allowed = allowed_append l f.turns (t ∷ []) (start given) f.allowed (may', tt);
      free = free_append f.turns (t ∷ []) f.free (safe, tt);
      same = run_append l f.turns (t ∷ []) (start given) ∙ ap (λ s. after l s t) f.same ∙ leads ∙ sym (whole_more given done x);
      logged = subst (λ more. Each (λ y. IsLogged l more y.event.what) (done ++ x ∷ [])) (sym log)
          (each_append (λ y. IsLogged l (log_of l (start given) f.turns ++ accesses_of l (whole given done) t) y.event.what) done (x ∷ [])
          (each_with (λ y h. logged_front l (log_of l (start given) f.turns) (accesses_of l (whole given done) t) y.event.what h) done f.logged)
          (logged_back l (log_of l (start given) f.turns) (accesses_of l (whole given done) t) x.event.what logged, tt));
    }

-- what is done within the launch is a turn
turn_of : (l : Launch) (deed : Deed) → IsWithin l (action_of deed) → IsTurn l (action_of deed)
turn_of l (Loaded field size answer) within = within
turn_of l (Stored field size value) within = within
turn_of l Finished within = tt

-- and no fault
safe_deed : (item : ℕ) (deed : Deed) → ¬ (IsFault (Does item (action_of deed)))
safe_deed item (Loaded field size answer) h = h
safe_deed item (Stored field size value) h = h
safe_deed item Finished h = h

-- where the item was told what it would be told, the turn leads where the event leads
leads_deed : (l : Launch) (s : State) (item : ℕ) (deed : Deed) → answers_of deed ≡ answers_to s.bytes (action_of deed)
    → after l s (Does item (action_of deed)) ≡ happened s (Did item deed)
leads_deed l s item deed told = same_state refl (ap (λ z. put_at item (s.answers item ++ z) s.answers) (sym told)) refl refl

logged_deed : (l : Launch) (s : State) (item : ℕ) (deed : Deed) → IsLogged l (accesses_of l s (Does item (action_of deed))) (Did item deed)
logged_deed l s item (Loaded field size answer) = tt
logged_deed l s item (Stored field size value) = record {
  access = access_of l s item field (bytes_of size) true;
  among = inl refl;
  of_item = refl;
  of_group = refl;
  at_field = refl;
  of_size = refl;
  written = refl;
}
logged_deed l s item Finished = tt

-- where a log has no race and an access to a byte, nothing that another core did has stored that byte
pub other_stores_not : (l : Launch) (log : List Access) (core_of : ℕ → ℕ) (b : Access) (byte : Place) → (HasRace log → ⊥) → Among b log
    → b.group ≡ group_of l b.item → covers b.place b.bytes byte ≡ true → (h : Happening) (core : ℕ)
    → ((item : ℕ) → Moves h item → core_of (group_of l item) ≡ core) → IsLogged l log h → core ≢ core_of (group_of l b.item) → stores h byte ≡ false
other_stores_not l log core_of b byte never among of_group covered (Did i (Stored p size v)) core home logged differ =
    false_from_ne_true _ (λ e. never (store_races l log i p size b byte logged among of_group (λ same. differ (sym (home i refl) ∙ ap core_of (sym same))) e covered))
other_stores_not l log core_of b byte never among of_group covered (Did i (Loaded p size answer)) core home logged differ = refl
other_stores_not l log core_of b byte never among of_group covered (Did i Finished) core home logged differ = refl
other_stores_not l log core_of b byte never among of_group covered (Released group stood) core home logged differ = refl

every_event : {P : Event → Type 0} → ((e : Event) → P e) → (events : List Event) → EachEvent P events
every_event f [] = tt
every_event f (e ∷ events) = (f e, every_event f events)

module _ (l : Launch) (given final : ℕ → ℕ → ℕ) (cores : ℕ) (events : ℕ → List Event) (ends : ℕ → CoreEnd)
    (known : CoreEvents l given final cores events ends) (n : ℕ) (orderly : IsOrderlyWithin l given n) where
  -- what happens on a core moves its own items alone
  home_of : (core place : ℕ) (s : State) (h : Happening) → IsSound l cores events known.core_of core s place h → (item : ℕ) → Moves h item
      → known.core_of (group_of l item) ≡ core
  home_of core place s (Did i deed) did item m = subst (λ k. known.core_of (group_of l k) ≡ core) m did.here
  home_of core place s (Released group stood) released item m =
      ap known.core_of (in_one_group l group item (released.inside item m)) ∙ released.here

  home_core : (core : ℕ) → core < cores → (before behind : List Event) → events core ≡ before ++ behind
      → EachEvent (λ e. IsHome l known.core_of (record { core = core; event = e })) behind
  home_core core below before [] e = tt
  home_core core below before (x ∷ behind) e = (
    home_of core x.place (led (start given) before) x.what (known.sound core below before behind x e),
    home_core core below (before ++ x ∷ []) behind (e ∙ sym (append_assoc before (x ∷ []) behind)),
  )

  -- so do all events
  pub home_all : Each (IsHome l known.core_of) (merged events cores)
  home_all = each_merged (IsHome l known.core_of) events cores (λ core below. home_core core below [] (events core) refl)

  pub below_all : Each (λ x. x.core < cores) (merged events cores)
  below_all = each_merged (λ x. x.core < cores) events cores (λ core below. every_event (λ e. below) (events core))

  -- behind a front of all events comes an event of its core that is sound
  pub sound_at : (done tail : List Tagged) (x : Tagged) → merged events cores ≡ done ++ x ∷ tail
      → IsSound l cores events known.core_of x.core (own given x.core done) x.event.place x.event.what
  sound_at done tail x split =
      let below : x.core < cores = (each_back (λ y. y.core < cores) done (x ∷ tail) (subst (Each (λ y. y.core < cores)) split below_all)).0 in
      known.sound x.core below (project x.core done) (project x.core tail) x.event
      (sym (project_merged events cores x.core known.rising below) ∙ ap (project x.core) split ∙ project_append x.core done (x ∷ tail)
      ∙ ap (λ zs. project x.core done ++ zs) (project_here x.core x tail refl))

  home_front : (done tail : List Tagged) → merged events cores ≡ done ++ tail → Each (IsHome l known.core_of) done
  home_front done tail split = each_front (IsHome l known.core_of) done tail (subst (Each (IsHome l known.core_of)) split home_all)

  -- a core has seen its items as they stand
  pub seen : (done tail : List Tagged) → merged events cores ≡ done ++ tail → (core item : ℕ) → known.core_of (group_of l item) ≡ core
      → SameItem (own given core done) (whole given done) item
  seen done tail split core item here =
      seen_item l known.core_of core item here done (home_front done tail split) (start given) (start given) (record { answers = refl; standing = refl })

  -- an item may do next what it did
  may_deed : (done tail : List Tagged) (x : Tagged) → merged events cores ≡ done ++ x ∷ tail → Follows l given done → (item : ℕ) (deed : Deed)
      → ItemDid l cores events known.core_of x.core (own given x.core done) x.event.place item deed → MayDo l (whole given done) item (action_of deed)
  may_deed done tail x split f item deed did =
      let see = seen done (x ∷ tail) split x.core item did.here in
      let asks : ItemAsks l item ((whole given done).answers item) (action_of deed) =
      subst (λ answers. ItemAsks l item answers (action_of deed)) see.answers did.asks in
      record {
        exists = did.exists;
        going = sym see.standing ∙ did.going;
        asks = asks;
        turn = turn_of l deed (orderly.bounds.within f.turns f.allowed item did.exists (action_of deed)
            (subst (λ s. ItemAsks l item (s.answers item) (action_of deed)) (sym f.same) asks));
      }

  -- no other core has stored a byte that is loaded
  alone_front : (done tail : List Tagged) (x : Tagged) → merged events cores ≡ done ++ x ∷ tail → (f : Follows l given done) (item : ℕ) (field : Place) (size : Size)
      → known.core_of (group_of l item) ≡ x.core → MayDo l (whole given done) item (Load field size) → (byte : Place) → covers field (bytes_of size) byte ≡ true
      → Each (λ y. y.core ≢ x.core → stores y.event.what byte ≡ false) done
  alone_front done tail x split f item field size here may byte covered =
      let s = run l (start given) f.turns in
      let t = Does item (Load field size) in
      let b = access_of l s item field (bytes_of size) false in
      let log = log_of l (start given) f.turns ++ accesses_of l s t in
      let allowed : Allowed l (start given) (f.turns ++ t ∷ []) =
      allowed_append l f.turns (t ∷ []) (start given) f.allowed (subst (λ z. MayDo l z item (Load field size)) (sym f.same) may, tt) in
      let never : HasRace log → ⊥ =
      λ race. orderly.tame.no_race (f.turns ++ t ∷ []) allowed (faults_last f.turns t f.free) (subst HasRace (sym (log_append l f.turns t (start given))) race) in
      each_both
      (λ y home logged differ.
      other_stores_not l log known.core_of b byte never (among_back b (log_of l (start given) f.turns) (accesses_of l s t) (inl refl)) refl covered
      y.event.what y.core home (logged_front l (log_of l (start given) f.turns) (accesses_of l s t) y.event.what logged)
      (λ e. differ (e ∙ here)))
      done (home_front done (x ∷ tail) split) f.logged

  -- so each of its bytes is clear
  clear_at : (done tail : List Tagged) (x : Tagged) → merged events cores ≡ done ++ x ∷ tail → (byte : Place)
      → Each (λ y. y.core ≢ x.core → stores y.event.what byte ≡ false) done → IsClear cores events x.core x.event.place byte
  clear_at done tail x split byte alone other below differ =
      let after_x : Each (λ y. x.event.place ≤ y.event.place) tail = (sorted_back done (x ∷ tail) (subst Sorted split (sorted_merged events cores))).0 in
      subst (StoresFrom x.event.place byte) (project_merged events cores other known.rising below)
      (stores_of_project x.event.place byte other (merged events cores)
      (subst (Each (λ y. y.core ≡ other → StoresFrom x.event.place byte (y.event ∷ []))) (sym split)
      (each_append (λ y. y.core ≡ other → StoresFrom x.event.place byte (y.event ∷ [])) done (x ∷ tail)
      (each_with (λ y not same. (λ stored. absurd (true≢false (sym stored ∙ not (λ e. differ (sym same ∙ e)))), tt)) done alone)
      (λ same. absurd (differ (sym same)), each_with (λ y le same. (λ stored. le, tt)) tail after_x))))

  -- and the answer is what the interleaving has
  told_load : (done tail : List Tagged) (x : Tagged) → merged events cores ≡ done ++ x ∷ tail → Follows l given done
      → (item : ℕ) (field : Place) (size : Size) (answer : ℕ)
      → ItemDid l cores events known.core_of x.core (own given x.core done) x.event.place item (Loaded field size answer)
      → MayDo l (whole given done) item (Load field size) → answer ≡ field_at (whole given done).bytes field (bytes_of size)
  told_load done tail x split f item field size answer did may =
      let alone = alone_front done tail x split f item field size did.here may in
      did.answer (λ byte covered. clear_at done tail x split byte (alone byte covered))
      ∙ number_of-same (λ k. (own given x.core done).bytes (further field k)) (λ k. (whole given done).bytes (further field k)) (bytes_of size)
      (λ k below. seen_byte x.core (further field k) done (alone (further field k) (covers_further field (bytes_of size) k below)) (start given) (start given) refl)

  told_deed : (done tail : List Tagged) (x : Tagged) → merged events cores ≡ done ++ x ∷ tail → Follows l given done → (item : ℕ) (deed : Deed)
      → ItemDid l cores events known.core_of x.core (own given x.core done) x.event.place item deed
      → MayDo l (whole given done) item (action_of deed) → answers_of deed ≡ answers_to (whole given done).bytes (action_of deed)
  told_deed done tail x split f item (Loaded field size answer) did may =
      ap (λ (z : ℕ). z ∷ []) (told_load done tail x split f item field size answer did may)
  told_deed done tail x split f item (Stored field size value) did may = refl
  told_deed done tail x split f item Finished did may = refl

  -- an item's deed is added with its turn
  pub add_deed : (done tail : List Tagged) (x : Tagged) → merged events cores ≡ done ++ x ∷ tail → Follows l given done → (item : ℕ) (deed : Deed)
      → x.event.what ≡ Did item deed
      → ItemDid l cores events known.core_of x.core (own given x.core done) x.event.place item deed → Follows l given (done ++ x ∷ [])
  add_deed done tail x split f item deed is did =
      let may = may_deed done tail x split f item deed did in
      let told = told_deed done tail x split f item deed did may in
      follows_more l given done x (Does item (action_of deed)) f may (safe_deed item deed)
      (leads_deed l (whole given done) item deed told ∙ ap (happened (whole given done)) (sym is))
      (subst (IsLogged l (accesses_of l (whole given done) (Does item (action_of deed)))) (sym is) (logged_deed l (whole given done) item deed))
