-- The loop of a core: what stands after so many turns, and how it ends.
use Rattle.std.proofs.Common.{◌≡◌, ℕ, zero, suc, ◌+◌, ◌%◌, ◌<◌, ◌≤◌, List, [], ◌∷◌, ◌++◌, All, Option, Some, None, true, false, length, ap, ◌∙◌, sym, subst, arith, refl, true≢false}
use Rattle.std.proofs.lemmas.List.{length-append}
use Rattle.std.proofs.lemmas.List.Elements.{All-append}
use Rattle.std.specs.Option.{is_some}
use Rattle.std.specs.Vec.{vec_capacity}
use Rattle.group_dispenser.specs.declared.claimer.Claimer.{Claimer}
use Rattle.group_dispenser.specs.Claimers.{IsOf as draws_from, drawn, gathered, groups_of, spare}
use Rattle.group_dispenser.specs.declared.dispenser.Dispenser.{Dispenser}
use Rattle.memory_banks.specs.Buses.{AddsEntry}
use Rattle.memory_banks.specs.declared.entry.BusEntry.{BusEntry}
use Rattle.memory_banks.specs.Ports.{IsOf, number}
use Rattle.vx_isa.specs.declared.image.Image.{Image}
use Rattle.vx_core.specs.Cores.{KeepsNumbers, setting_of}
use Rattle.vx_core.specs.CoreSteps.{CoreState, RunsGroup, Setting}
use Rattle.vx_core.specs.declared.core_run.Core.{Core}
use Rattle.vx_core.specs.declared.end.GroupEnd.{GroupEnd}
use Rattle.vx_core.specs.declared.end.GroupEnd.TheVariants.{Finished, Machine, Stuck, Trapped, Turns}
use Rattle.vx_core.specs.declared.job.GroupJob.{GroupJob}
use Rattle.core_threads.specs.GroupRuns.{AllFinish, FinishAll, LastBreaks, bad_end}
use Rattle.core_threads.specs.Works.{CanRun, HasAll, HasBroken, HasRun, NoneLeft, setting_on, state_of, words_of}
use Rattle.core_threads.specs.declared.work.CoreWork.{CoreWork}

some_is_none : {A : Type 0} {a : A} → Some a ≡ None → ⊥
some_is_none is = true≢false (ap is_some is)

finished : (end : GroupEnd) → bad_end end ≡ None → end ≡ Finished
finished Finished is = refl
finished (Trapped pos item) is = absurd (some_is_none is)
finished (Machine fault warp) is = absurd (some_is_none is)
finished (Stuck waiting ended) is = absurd (some_is_none is)
finished (Turns count) is = absurd (some_is_none is)

abbrev the_some : {A : Type 0} → A → Option A → A
the_some d (Some a) = a
the_some d None = d

broken : (end bad : GroupEnd) → bad_end end ≡ Some bad → end ≡ bad
broken Finished bad is = absurd (some_is_none (sym is))
broken (Trapped pos item) bad is = ap (the_some bad) is
broken (Machine fault warp) bad is = ap (the_some bad) is
broken (Stuck waiting ended) bad is = ap (the_some bad) is
broken (Turns count) bad is = ap (the_some bad) is

-- an end that is there
pub it_is : (end : Option GroupEnd) → is_some end ≡ true → (bad : GroupEnd) × (end ≡ Some bad)
it_is (Some bad) some = (bad, refl)
it_is None some = absurd (true≢false (sym some))

pub it_is_not : (end : Option GroupEnd) → is_some end ≡ false → end ≡ None
it_is_not (Some bad) none = absurd (true≢false none)
it_is_not None none = refl

module _ {B E P : Type 0} (acts : B → BusEntry → B → Type 0) (evicts : E → ℕ → ℕ → ℕ → ℕ → E → Type 0) (begins : P → ℕ → P → Type 0) (picks : P → ℕ → ℕ → P → Type 0) (at : ℕ → Setting) where
  -- one group more
  pub finish_one_more : (groups : List ℕ) (group : ℕ) (s between s' : CoreState B E P) → FinishAll acts evicts begins picks at groups s between → RunsGroup acts evicts begins picks (at group) between Finished s'
      → FinishAll acts evicts begins picks at (groups ++ group ∷ []) s s'
  finish_one_more [] group s between s' all one = (s', subst (λ (t : CoreState B E P). RunsGroup acts evicts begins picks (at group) t Finished s') all one, refl)
  finish_one_more (g ∷ groups) group s between s' all one = (all.0, all.1, finish_one_more groups group all.0 between s' all.2 one)

setting_of-same : (old core : Core) (words port words' port' : ℕ) (image : Image) (job : GroupJob) → KeepsNumbers old core → words' ≡ words → port' ≡ port → setting_of core words' port' image job ≡ setting_of old words port image job
setting_of-same old core words port words' port' image job kept same_words same_port =
    let setting : ℕ → ℕ → ℕ → ℕ → Setting = λ c b w p. record { core = c; banks = b; words = w; port = p; image = image; job = job } in
    ap (λ (c : ℕ). setting c core.banks words' port') kept.number
    ∙ ap (λ (b : ℕ). setting old.number b words' port') kept.banks
    ∙ ap (λ (w : ℕ). setting old.number old.banks w port') same_words
    ∙ ap (λ (p : ℕ). setting old.number old.banks words p) same_port

module _ {P E : Type 0} (evicts : E → ℕ → ℕ → ℕ → ℕ → E → Type 0) (begins : P → ℕ → P → Type 0) (picks : P → ℕ → ℕ → P → Type 0) (image : Image) (job : ℕ → GroupJob) (d : Dispenser) (groups : ℕ) where
  -- so many groups were claimed, and each has finished
  pub record IsRunning (old : CoreWork P E) (turn : ℕ) (w : CoreWork P E) : Type 0 where
    pub goes : FinishAll AddsEntry evicts begins picks (setting_on image job old) w.claimed.items (state_of old) (state_of w)
    pub going : w.end ≡ None
    pub tickets : drawn w.claimer ≡ w.claimed.items
    pub below : All (λ g. g < groups) w.claimed.items
    pub count : length w.claimed.items ≡ turn
    pub room : groups ≤ vec_capacity w.claimed
    pub draws : draws_from d w.claimer
    pub groups_are : groups_of d ≡ groups
    pub gathered_is : gathered w.claimer ≡ gathered old.claimer
    pub spare_is : spare w.claimer ≡ spare old.claimer
    pub sound : IsOf w.bus.banks.now w.bus.port
    pub lines : words_of w % 16 ≡ 0
    pub words : words_of w ≡ words_of old
    pub port : number w.bus.port ≡ number old.bus.port
    pub same_core : KeepsNumbers old.core w.core
    pub same_number : w.number ≡ old.number

  -- a group is claimed and run
  pub record RunsOne (w : CoreWork P E) (group : ℕ) (end : GroupEnd) (w' : CoreWork P E) : Type 0 where
    pub taken : GroupJob
    pub taken_is : taken ≡ job group
    pub ran : RunsGroup AddsEntry evicts begins picks (setting_of w.core (words_of w) (number w.bus.port) image taken) (state_of w) end (state_of w')
    pub end_is : w'.end ≡ bad_end end
    pub ticket : drawn w'.claimer ≡ drawn w.claimer ++ group ∷ []
    pub claimed_is : w'.claimed.items ≡ w.claimed.items ++ group ∷ []
    pub below : group < groups
    pub room : vec_capacity w'.claimed ≡ vec_capacity w.claimed
    pub draws : draws_from d w'.claimer
    pub gathered_is : gathered w'.claimer ≡ gathered w.claimer
    pub spare_is : spare w'.claimer ≡ spare w.claimer
    pub sound : IsOf w'.bus.banks.now w'.bus.port
    pub words : words_of w' ≡ words_of w
    pub port : number w'.bus.port ≡ number w.bus.port
    pub same_core : KeepsNumbers w.core w'.core
    pub same_number : w'.number ≡ w.number

  pub none_claimed : (old : CoreWork P E) → CanRun d groups old → IsRunning old 0 old
  none_claimed old can = record {
    goes = subst (λ (gs : List ℕ). FinishAll AddsEntry evicts begins picks (setting_on image job old) gs (state_of old) (state_of old)) (sym can.none_claimed) refl;
    going = can.no_end;
    tickets = can.none_drawn ∙ sym can.none_claimed;
    below = subst (λ (gs : List ℕ). All (λ g. g < groups) gs) (sym can.none_claimed) (λ k e within. absurd (omega (arith, within)));
    count = ap (λ (gs : List ℕ). length gs) can.none_claimed;
    room = can.room;
    draws = can.draws;
    groups_are = can.groups_are;
    gathered_is = refl;
    spare_is = refl;
    sound = can.sound;
    lines = can.lines;
    words = refl;
    port = refl;
    same_core = record { number = refl; banks = refl };
    same_number = refl;
  }

  -- what stays the same while a group runs is what it was at the beginning
  same_setting : (old w : CoreWork P E) (turn group : ℕ) → IsRunning old turn w → setting_on image job w group ≡ setting_on image job old group
  same_setting old w turn group r = setting_of-same old.core w.core (words_of old) (number old.bus.port) (words_of w) (number w.bus.port) image (job group) r.same_core r.words r.port

  one_all : (group : ℕ) → group < groups → All (λ g. g < groups) (group ∷ [])
  one_all group one zero e within = one
  one_all group one (suc k) e within = absurd (omega (arith, within))

  one_below : (groups' : List ℕ) (group : ℕ) → All (λ g. g < groups) groups' → group < groups → All (λ g. g < groups) (groups' ++ group ∷ [])
  one_below groups' group all one = All-append (λ g. g < groups) groups' (group ∷ []) all (one_all group one)

  claimed_below : (old w w' : CoreWork P E) (turn group : ℕ) (end : GroupEnd) → IsRunning old turn w → RunsOne w group end w' → All (λ g. g < groups) w'.claimed.items
  claimed_below old w w' turn group end r one =
      subst (λ (gs : List ℕ). All (λ g. g < groups) gs) (sym one.claimed_is) (one_below w.claimed.items group r.below one.below)

  its_tickets : (old w w' : CoreWork P E) (turn group : ℕ) (end : GroupEnd) → IsRunning old turn w → RunsOne w group end w' → drawn w'.claimer ≡ w'.claimed.items
  its_tickets old w w' turn group end r one = one.ticket ∙ (ap (λ (gs : List ℕ). gs ++ group ∷ []) r.tickets ∙ sym one.claimed_is)

  ran_so : (old w w' : CoreWork P E) (turn group : ℕ) (end : GroupEnd) → IsRunning old turn w → RunsOne w group end w'
      → RunsGroup AddsEntry evicts begins picks (setting_on image job old group) (state_of w) end (state_of w')
  ran_so old w w' turn group end r one =
      let is : setting_of w.core (words_of w) (number w.bus.port) image one.taken ≡ setting_on image job old group =
      ap (λ (j : GroupJob). setting_of w.core (words_of w) (number w.bus.port) image j) one.taken_is ∙ same_setting old w turn group r in
      subst (λ (s : Setting). RunsGroup AddsEntry evicts begins picks s (state_of w) end (state_of w')) is one.ran

  still_same : (old w w' : CoreWork P E) (turn group : ℕ) (end : GroupEnd) → IsRunning old turn w → RunsOne w group end w' → KeepsNumbers old.core w'.core
  still_same old w w' turn group end r one = record { number = one.same_core.number ∙ r.same_core.number; banks = one.same_core.banks ∙ r.same_core.banks }

  -- The group has finished: the core goes on.
  pub goes_on : (old w w' : CoreWork P E) (turn group : ℕ) (end : GroupEnd) → IsRunning old turn w → RunsOne w group end w' → w'.end ≡ None → IsRunning old (turn + 1) w'
  goes_on old w w' turn group end r one none =
      let is : end ≡ Finished = finished end (sym one.end_is ∙ none) in
      let ran = subst (λ (e : GroupEnd). RunsGroup AddsEntry evicts begins picks (setting_on image job old group) (state_of w) e (state_of w')) is (ran_so old w w' turn group end r one) in
      record {
        goes = subst (λ (gs : List ℕ). FinishAll AddsEntry evicts begins picks (setting_on image job old) gs (state_of old) (state_of w')) (sym one.claimed_is)
            (finish_one_more AddsEntry evicts begins picks (setting_on image job old) w.claimed.items group (state_of old) (state_of w) (state_of w') r.goes ran);
        going = none;
        tickets = its_tickets old w w' turn group end r one;
        below = claimed_below old w w' turn group end r one;
        count =
            let all : length w'.claimed.items ≡ length (w.claimed.items ++ group ∷ []) = ap (λ (gs : List ℕ). length gs) one.claimed_is in
            let c : length w.claimed.items ≡ turn = r.count in
            omega (arith, all, length-append w.claimed.items (group ∷ []), c);
        room = subst (λ (n : ℕ). groups ≤ n) (sym one.room) r.room;
        draws = one.draws;
        groups_are = r.groups_are;
        gathered_is = one.gathered_is ∙ r.gathered_is;
        spare_is = one.spare_is ∙ r.spare_is;
        sound = one.sound;
        lines = ap (λ (n : ℕ). n % 16) one.words ∙ r.lines;
        words = one.words ∙ r.words;
        port = one.port ∙ r.port;
        same_core = still_same old w w' turn group end r one;
        same_number = one.same_number ∙ r.same_number;
      }

  -- The group had a bad end: the core stops.
  pub breaks : (old w w' : CoreWork P E) (turn group : ℕ) (end bad : GroupEnd) → IsRunning old turn w → RunsOne w group end w' → w'.end ≡ Some bad → HasRun evicts begins picks image job d groups old w'
  breaks old w w' turn group end bad r one some =
      let bad_is : bad_end end ≡ Some bad = sym one.end_is ∙ some in
      let is : end ≡ bad = broken end bad bad_is in
      let ran = subst (λ (e : GroupEnd). RunsGroup AddsEntry evicts begins picks (setting_on image job old group) (state_of w) e (state_of w')) is (ran_so old w w' turn group end r one) in
      record {
        runs = LastBreaks w.claimed.items group bad (state_of w) one.claimed_is r.goes ran (subst (λ (e : GroupEnd). bad_end e ≡ Some bad) is bad_is) some;
        stops = HasBroken bad (its_tickets old w w' turn group end r one) some;
        below = claimed_below old w w' turn group end r one;
        draws = one.draws;
        gathered_is = one.gathered_is ∙ r.gathered_is;
        spare_is = one.spare_is ∙ r.spare_is;
        sound = one.sound;
        same_core = still_same old w w' turn group end r one;
        same_number = one.same_number ∙ r.same_number;
      }

  -- It has claimed all groups: the core stops.
  pub has_all : (old w : CoreWork P E) (turn : ℕ) → IsRunning old turn w → turn ≡ groups → HasRun evicts begins picks image job d groups old w
  has_all old w turn r all = record {
    runs = AllFinish r.goes r.going;
    stops = HasAll r.tickets (r.count ∙ all) r.going;
    below = r.below;
    draws = r.draws;
    gathered_is = r.gathered_is;
    spare_is = r.spare_is;
    sound = r.sound;
    same_core = r.same_core;
    same_number = r.same_number;
  }

  -- No group is left, as its last ticket shows: the core stops.
  pub none_left : (old w : CoreWork P E) (turn : ℕ) (claimer : Claimer) → IsRunning old turn w → draws_from d claimer → (ticket : ℕ) → groups_of d ≤ ticket
      → drawn claimer ≡ drawn w.claimer ++ ticket ∷ [] → gathered claimer ≡ gathered w.claimer → spare claimer ≡ spare w.claimer
      → HasRun evicts begins picks image job d groups old (record w { claimer = claimer })
  none_left old w turn claimer r draws ticket past tickets same_gathered same_spare = record {
    runs = AllFinish r.goes r.going;
    stops = NoneLeft ticket (subst (λ (n : ℕ). n ≤ ticket) r.groups_are past) (tickets ∙ ap (λ (gs : List ℕ). gs ++ ticket ∷ []) r.tickets) r.going;
    below = r.below;
    draws = draws;
    gathered_is = same_gathered ∙ r.gathered_is;
    spare_is = same_spare ∙ r.spare_is;
    sound = r.sound;
    same_core = r.same_core;
    same_number = r.same_number;
  }
