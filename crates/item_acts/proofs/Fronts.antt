-- A turn that may come can be moved to the front of a complete interleaving of a tame launch, so all of them have one
-- result, and none has a fault.
use Rattle.std.proofs.Common.{◌≡◌, ℕ, suc, ◌*◌, ◌<◌, List, [], ◌∷◌, ◌++◌, length, refl, ap, sym, ◌∙◌, subst, inl, inr, arith}
use Rattle.vx_base.specs.declared.types.Pos.{Pos}
use Rattle.item_acts.specs.declared.acts.Place.TheVariants.{Global}
use Rattle.item_acts.specs.declared.acts.Action.TheVariants.{Load, Store, Barrier, Fault, End}
use Rattle.item_acts.specs.Launches.{Launch, State, Going, Ended, Faulted, Turn, Does, Passes, after, May, Allowed, run, IsComplete}
use Rattle.item_acts.specs.Tame.{Access, accesses_of, HasRace, IsFault, FaultsAtMostLast, IsTameWithin, HasFault}
use Rattle.item_acts.specs.OneResult.{IsSettled, RunsToEnd, actions_in, actions_of, HaveOneResult, IsFaultFree}
use Rattle.item_acts.proofs.Launches.{put_at_same, put_at_other}
use Rattle.item_acts.proofs.Swaps.{AreOthers, others_turned, TurnsClear, swap, still_may, first_in_group, same_or_others, no_race_clear, actions_swap}

-- a race of a log is a race of each longer log that ends in it
pub race_behind : (front log : List Access) → HasRace log → HasRace (front ++ log)
race_behind [] log race = race
race_behind (access ∷ front) log race =
    let behind = race_behind front log race in
    record {
      one = suc behind.one;
      other = suc behind.other;
      first = behind.first;
      second = behind.second;
      first_is = behind.first_is;
      second_is = behind.second_is;
      race = behind.race;
    }

-- a turn that is no fault may stand before any such list of turns
pub faults_later : (t : Turn) (turns : List Turn) → ¬ (IsFault t) → FaultsAtMostLast turns → FaultsAtMostLast (t ∷ turns)
faults_later t [] safe last = tt
faults_later t (u ∷ turns) safe last = (safe, last)

-- a tame launch is tame behind each turn that is no fault
pub tame_after : (l : Launch) (s : State) (n : ℕ) (t : Turn) → May l s t → ¬ (IsFault t) → IsTameWithin l s n → IsTameWithin l (after l s t) n
tame_after l s n t may safe tame = record {
  few = λ turns allowed last. let longer = tame.few (t ∷ turns) (may, allowed) (faults_later t turns safe last) in omega arith;
  no_race = λ turns allowed last race. tame.no_race (t ∷ turns) (may, allowed) (faults_later t turns safe last) (race_behind (accesses_of l s t) _ race);
  meets = λ turns allowed last apart. tame.meets (t ∷ turns) (may, allowed) (faults_later t turns safe last) apart;
  soon = λ turns allowed last item exists going. tame.soon (t ∷ turns) (may, allowed) (faults_later t turns safe last) item exists going;
}

-- and behind each list of such turns
pub tame_behind : (l : Launch) (turns : List Turn) (s : State) (n : ℕ) → Allowed l s turns → IsFaultFree turns → IsTameWithin l s n → IsTameWithin l (run l s turns) n
tame_behind l [] s n allowed free tame = tame
tame_behind l (t ∷ turns) s n allowed free tame = tame_behind l turns (after l s t) n allowed.1 free.1 (tame_after l s n t allowed.0 free.0 tame)

-- who does not go on stays as it is
pub stopped_stays : (l : Launch) (turns : List Turn) (s : State) (i : ℕ) → (s.standing i ≡ Going → ⊥) → Allowed l s turns → (run l s turns).standing i ≡ s.standing i
stopped_stays l [] s i stopped allowed = refl
stopped_stays l (Passes g p ∷ turns) s i stopped allowed = stopped_stays l turns (after l s (Passes g p)) i stopped allowed.1
stopped_stays l (Does j a ∷ turns) s i stopped allowed =
    let differ : i ≡ j → ⊥ = λ e. stopped (ap s.standing e ∙ allowed.0.going) in
    let kept : (after l s (Does j a)).standing i ≡ s.standing i = put_at_other j _ s.standing i differ in
    stopped_stays l turns (after l s (Does j a)) i (λ e. stopped (sym kept ∙ e)) allowed.1 ∙ kept

-- an item that has faulted never ends
faulted_never_ends : (l : Launch) (turns : List Turn) (s : State) (i : ℕ) (pos : Pos) → s.standing i ≡ Faulted pos → i < l.items → Allowed l s turns
    → IsComplete l (run l s turns) → ⊥
faulted_never_ends l turns s i pos e exists allowed complete =
    let stays : (run l s turns).standing i ≡ s.standing i = stopped_stays l turns s i (λ going. let clash : Going ≡ Faulted pos = sym going ∙ e in cc) allowed in
    let ended : (run l s turns).standing i ≡ Ended = complete i exists in
    let clash : Ended ≡ Faulted pos = sym ended ∙ stays ∙ e in
    cc

-- a complete interleaving begins with no fault
pub complete_no_fault : (l : Launch) (s : State) (t : Turn) (turns : List Turn) → Allowed l s (t ∷ turns) → IsComplete l (run l s (t ∷ turns)) → ¬ (IsFault t)
complete_no_fault l s (Does i (Load p size)) turns allowed complete fault = fault
complete_no_fault l s (Does i (Store p size v)) turns allowed complete fault = fault
complete_no_fault l s (Does i (Barrier p)) turns allowed complete fault = fault
complete_no_fault l s (Does i (Fault pos)) turns allowed complete fault =
    faulted_never_ends l turns (after l s (Does i (Fault pos))) i pos (put_at_same i (Faulted pos) s.standing) allowed.0.exists allowed.1 complete
complete_no_fault l s (Does i End) turns allowed complete fault = fault
complete_no_fault l s (Passes g p) turns allowed complete fault = fault

-- where every item has ended no turn may come
pub nothing_at_end : (l : Launch) → 0 < l.local → (s : State) (t : Turn) → IsComplete l s → May l s t → ⊥
nothing_at_end l positive s (Does i a) complete may =
    let clash : Going ≡ Ended = sym may.going ∙ complete i may.exists in
    cc
nothing_at_end l positive s (Passes g p) complete pass =
    let waits = pass.waits (g * l.local) pass.exists (first_in_group l positive g) in
    let clash : Going ≡ Ended = sym waits.going ∙ complete (g * l.local) pass.exists in
    cc

-- two turns of other items or groups that may come next, the first of them no fault, are clear of each other
may_both_clear : (l : Launch) (s : State) (n : ℕ) (t u : Turn) → IsTameWithin l s n → AreOthers l t u → May l s t → May l s u → ¬ (IsFault t) → TurnsClear t u
may_both_clear l s n t u tame others may may' safe =
    no_race_clear l s t u others (tame.no_race (t ∷ u ∷ []) (may, (still_may l s t u others may', tt)) (safe, tt))

-- Some turns with another turn moved to their front: they lead to the same state by the same actions of each item.
pub record Front (l : Launch) (s : State) (t : Turn) (turns : List Turn) : Type 0 where
  pub rest : List Turn
  pub allowed : Allowed l s (t ∷ rest)
  pub same : run l s (t ∷ rest) ≡ run l s turns
  pub actions : (k : ℕ) → actions_of l k (t ∷ rest) ≡ actions_of l k turns
  pub shorter : length turns ≡ suc (length rest)

-- the turn stands there already
front_here : (l : Launch) (s : State) (t u : Turn) (turns : List Turn) → t ≡ u → Allowed l s (u ∷ turns) → Front l s t (u ∷ turns)
front_here l s t u turns e allowed =
    subst (λ x. Front l s x (u ∷ turns)) (sym e) (record { rest = turns; allowed = allowed; same = refl; actions = λ k. refl; shorter = refl })

-- it is moved over one more turn
front_over : (l : Launch) (s : State) (t u : Turn) (turns : List Turn) → AreOthers l u t → TurnsClear u t → May l s t → May l s u
    → Front l (after l s u) t turns → Front l s t (u ∷ turns)
front_over l s t u turns others clear may may' front =
    let meets : after l (after l s u) t ≡ after l (after l s t) u = swap l s u t others clear in
    record {
      rest = u ∷ front.rest;
      allowed = (may, (still_may l s t u (others_turned l u t others) may', subst (λ x. Allowed l x front.rest) meets front.allowed.1));
      same = ap (λ x. run l x front.rest) (sym meets) ∙ front.same;
      actions = λ k. actions_swap l t u (others_turned l u t others) k (actions_of l k front.rest) ∙ ap (λ more. actions_in l k u ++ more) (front.actions k);
      shorter = ap suc front.shorter;
    }

-- each turn that may come next can be moved to the front of a complete interleaving
pub front_of : (l : Launch) → IsSettled l → 0 < l.local → (n : ℕ) (turns : List Turn) (s : State) → IsTameWithin l s n → Allowed l s turns
    → IsComplete l (run l s turns) → (t : Turn) → May l s t → Front l s t turns
front_of l settled positive n [] s tame allowed complete t may = absurd (nothing_at_end l positive s t complete may)
front_of l settled positive n (u ∷ turns) s tame allowed complete t may =
    let safe = complete_no_fault l s u turns allowed complete in
    elim (same_or_others l settled positive s t u may allowed.0) [
      | inl e ↦ front_here l s t u turns e allowed
      | inr others ↦
          front_over l s t u turns (others_turned l t u others) (may_both_clear l s n u t tame (others_turned l t u others) allowed.0 may safe) may allowed.0
          (front_of l settled positive n turns (after l s u) (tame_after l s n u allowed.0 safe tame) allowed.1 complete t
          (still_may l s u t (others_turned l t u others) may))
    ]

-- two complete interleavings lead to one state, by the same actions of each item
pub record Agree (l : Launch) (s : State) (turns turns' : List Turn) : Type 0 where
  pub same : run l s turns ≡ run l s turns'
  pub actions : (k : ℕ) → actions_of l k turns ≡ actions_of l k turns'

-- at the end no turn is left
pub agree_at_end : (l : Launch) → 0 < l.local → (s : State) (turns : List Turn) → IsComplete l s → Allowed l s turns → Agree l s [] turns
agree_at_end l positive s [] complete allowed = record { same = refl; actions = λ k. refl }
agree_at_end l positive s (t ∷ turns) complete allowed = absurd (nothing_at_end l positive s t complete allowed.0)

-- complete interleavings of a tame launch agree
pub agree : (l : Launch) → IsSettled l → 0 < l.local → (n : ℕ) (turns turns' : List Turn) (s : State) → IsTameWithin l s n
    → Allowed l s turns → IsComplete l (run l s turns) → Allowed l s turns' → IsComplete l (run l s turns') → Agree l s turns turns'
agree l settled positive n [] turns' s tame allowed complete allowed' complete' = agree_at_end l positive s turns' complete allowed'
agree l settled positive n (t ∷ turns) turns' s tame allowed complete allowed' complete' =
    let front = front_of l settled positive n turns' s tame allowed' complete' t allowed.0 in
    let rest = agree l settled positive n turns front.rest (after l s t) (tame_after l s n t allowed.0 (complete_no_fault l s t turns allowed complete) tame) allowed.1 complete front.allowed.1 (subst (IsComplete l) (sym front.same) complete') in
    record {
      same = rest.same ∙ front.same;
      actions = λ k. ap (λ more. actions_in l k t ++ more) (rest.actions k) ∙ front.actions k;
    }

-- where some interleaving has a fault, none is complete
pub never_completes : (l : Launch) → IsSettled l → 0 < l.local → (n : ℕ) (before : List Turn) (s : State) → IsTameWithin l s n
    → (item : ℕ) (pos : Pos) → Allowed l s (before ++ Does item (Fault pos) ∷ []) → (turns : List Turn) → Allowed l s turns → IsComplete l (run l s turns) → ⊥
never_completes l settled positive n [] s tame item pos faults turns allowed complete =
    let front = front_of l settled positive n turns s tame allowed complete (Does item (Fault pos)) faults.0 in
    complete_no_fault l s (Does item (Fault pos)) front.rest front.allowed (subst (IsComplete l) (sym front.same) complete) tt
never_completes l settled positive n (t ∷ before) s tame item pos faults turns allowed complete =
    let front = front_of l settled positive n turns s tame allowed complete t faults.0 in
    let complete' = subst (IsComplete l) (sym front.same) complete in
    never_completes l settled positive n before (after l s t) (tame_after l s n t faults.0 (complete_no_fault l s t front.rest front.allowed complete') tame) item pos faults.1 front.rest front.allowed.1 complete'

-- complete interleavings of a tame launch have one result
pub one_result : (l : Launch) (s : State) (n : ℕ) → IsSettled l → 0 < l.local → IsTameWithin l s n
    → (turns turns' : List Turn) → RunsToEnd l s turns → RunsToEnd l s turns' → HaveOneResult l s turns turns'
one_result l s n settled positive tame turns turns' h h' =
    let both = agree l settled positive n turns turns' s tame h.allowed h.complete h'.allowed h'.complete in
    record { bytes = λ buffer byte. ap (λ x. x.bytes (Global buffer byte)) both.same; actions = both.actions }

-- and where the launch has a fault there are none
pub fault_never_completes : (l : Launch) (s : State) (n : ℕ) → IsSettled l → 0 < l.local → IsTameWithin l s n
    → HasFault l s → (turns : List Turn) → RunsToEnd l s turns → ⊥
fault_never_completes l s n settled positive tame fault turns h =
    never_completes l settled positive n fault.turns s tame fault.item fault.pos fault.allowed turns h.allowed h.complete
