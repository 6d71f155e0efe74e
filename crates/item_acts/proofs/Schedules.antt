-- The schedule by least item: there is at most one, a tame launch without a fault has it, and so has each tame launch with a
-- complete interleaving. And an item that runs alone soon stops.
use Rattle.std.proofs.Common.{◌≡◌, ◌≢◌, ℕ, zero, suc, ◌*◌, ◌<◌, ◌≤◌, ◌⊎◌, List, [], ◌∷◌, length, refl, ap, sym, ◌∙◌, subst, inl, inr, arith}
use Rattle.std.proofs.Math.Nat.{div-le_of_le-mul, div-mul-le_self, mul_comm}
use Rattle.std.proofs.lemmas.Bool.{cases_eq, cases_lt, cases_Bool}
use Rattle.item_acts.specs.declared.acts.Place.TheVariants.{Global}
use Rattle.item_acts.specs.declared.acts.Point.{Point}
use Rattle.item_acts.specs.declared.acts.Action.{Action}
use Rattle.item_acts.specs.declared.acts.Action.TheVariants.{Load, Store, Barrier, Fault, End}
use Rattle.item_acts.specs.Launches.{Launch, ItemAsks, group_of, is_in_group, State, Going, Ended, start, standing_after, Turn, Does, Passes, after, IsTurn, MayDo, Waits, MayPass, May, Allowed, run, IsComplete}
use Rattle.item_acts.specs.Tame.{IsFault, FaultsAtMostLast, IsTameWithin, HasFault, IsFirst, RunsFirst, LaunchLeaves}
use Rattle.item_acts.specs.OneResult.{IsSettled, RunsToEnd, IsFaultFree, IsWithin, InBounds, HasStopped, StopsWithin}
use Rattle.item_acts.proofs.Launches.{put_at_each}
use Rattle.item_acts.proofs.Swaps.{asks_one, standing_kept, asks_kept, first_in_group, in_one_group, passes_one, does_one}
use Rattle.item_acts.proofs.Fronts.{Front, tame_after, tame_behind, complete_no_fault, nothing_at_end, front_of, agree_at_end}

-- the least number below n at which the second of two facts holds, with the first one below it
record Least (P Q : ℕ → Type 0) (n : ℕ) : Type 0 where
  least : ℕ
  below : least < n
  found : Q least
  before : (k : ℕ) → k < least → P k

-- where each number below n has one of two facts, either all have the first, or there is a least with the second
search_least : (P Q : ℕ → Type 0) (n : ℕ) → ((k : ℕ) → k < n → P k ⊎ Q k) → ((k : ℕ) → k < n → P k) ⊎ Least P Q n
search_least P Q zero facts = inl (λ k below. absurd (omega arith))
search_least P Q (suc n) facts =
    elim (search_least P Q n (λ k below. facts k (omega arith))) [
      | inl all ↦
          elim (facts n (omega arith)) [
            | inl here ↦ inl (λ k below. elim (cases_eq k n) [ inl e ↦ subst P (sym e) here | inr differ ↦ all k (omega arith) ])
            | inr found ↦ inr (record { least = n; below = omega arith; found = found; before = all })
          ]
      | inr earlier ↦ inr (record { least = earlier.least; below = omega arith; found = earlier.found; before = earlier.before })
    ]

-- two lists of numbers are the same or not
cases_list : (xs ys : List ℕ) → (xs ≡ ys) ⊎ (xs ≢ ys)
cases_list [] [] = inl refl
cases_list [] (y ∷ ys) = inr (λ e. cc)
cases_list (x ∷ xs) [] = inr (λ e. cc)
cases_list (x ∷ xs) (y ∷ ys) =
    elim (cases_eq x y) [
      | inl e ↦ elim (cases_list xs ys) [ inl e' ↦ inl (cc) | inr differ ↦ inr (λ e'. differ (cc)) ]
      | inr differ ↦ inr (λ e. differ (cc))
    ]

-- and so are two points
pub cases_point : (p q : Point) → (p ≡ q) ⊎ (p ≢ q)
cases_point p q =
    elim (cases_eq p.site q.site) [
      | inl e ↦
          elim (cases_list p.turns q.turns) [
            | inl e' ↦ inl (λ i. record { site = e i; turns = e' i })
            | inr differ ↦ inr (λ same. differ (ap (λ x. x.turns) same))
          ]
      | inr differ ↦ inr (λ same. differ (ap (λ x. x.site) same))
    ]

-- no item has stopped at a fault
abbrev pub IsUnfaulted : State → Type 0
IsUnfaulted s = (item : ℕ) → (s.standing item ≡ Going) ⊎ (s.standing item ≡ Ended)

-- an action that is no fault leaves its item going or at its end
unfaulted_by : (i : ℕ) (a : Action) → ¬ (IsFault (Does i a)) → (standing_after a ≡ Going) ⊎ (standing_after a ≡ Ended)
unfaulted_by i (Load p size) safe = inl refl
unfaulted_by i (Store p size v) safe = inl refl
unfaulted_by i (Barrier p) safe = inl refl
unfaulted_by i (Fault pos) safe = absurd (safe tt)
unfaulted_by i End safe = inr refl

-- so behind a turn that is no fault no item has stopped at one
unfaulted_after : (l : Launch) (s : State) (t : Turn) → ¬ (IsFault t) → IsUnfaulted s → IsUnfaulted (after l s t)
unfaulted_after l s (Does i a) safe unfaulted =
    put_at_each (λ x. (x ≡ Going) ⊎ (x ≡ Ended)) i (standing_after a) s.standing (unfaulted_by i a safe) unfaulted
unfaulted_after l s (Passes g p) safe unfaulted = unfaulted

-- nor behind a list of such turns
unfaulted_behind : (l : Launch) (turns : List Turn) (s : State) → IsFaultFree turns → IsUnfaulted s → IsUnfaulted (run l s turns)
unfaulted_behind l [] s free unfaulted = unfaulted
unfaulted_behind l (t ∷ turns) s free unfaulted = unfaulted_behind l turns (after l s t) free.1 (unfaulted_after l s t free.0 unfaulted)

-- at the start every item goes on
unfaulted_start : (given : ℕ → ℕ → ℕ) → IsUnfaulted (start given)
unfaulted_start given item = inl refl

-- items that ask for bytes of the launch alone do so behind each turn
in_bounds_after : (l : Launch) (s : State) (t : Turn) → May l s t → InBounds l s → InBounds l (after l s t)
in_bounds_after l s t may bounds = record { within = λ turns allowed. bounds.within (t ∷ turns) (may, allowed) }

-- and behind each list of turns
in_bounds_behind : (l : Launch) (turns : List Turn) (s : State) → Allowed l s turns → InBounds l s → InBounds l (run l s turns)
in_bounds_behind l [] s allowed bounds = bounds
in_bounds_behind l (t ∷ turns) s allowed bounds = in_bounds_behind l turns (after l s t) allowed.1 (in_bounds_after l s t allowed.0 bounds)

-- A state of a tame launch in which no item has stopped at a fault, and each asks for bytes of the launch alone.
pub record IsSteady (l : Launch) (s : State) (n : ℕ) : Type 0 where
  pub tame : IsTameWithin l s n
  pub unfaulted : IsUnfaulted s
  pub within : (item : ℕ) → item < l.items → (a : Action) → s.standing item ≡ Going → ItemAsks l item (s.answers item) a → IsWithin l a

-- such is each state that turns without a fault lead to
pub steady_behind : (l : Launch) (given : ℕ → ℕ → ℕ) (n : ℕ) → IsTameWithin l (start given) n → InBounds l (start given)
    → (turns : List Turn) → Allowed l (start given) turns → IsFaultFree turns → IsSteady l (run l (start given) turns) n
steady_behind l given n tame bounds turns allowed free = record {
  tame = tame_behind l turns (start given) n allowed free tame;
  unfaulted = unfaulted_behind l turns (start given) free (unfaulted_start given);
  within = λ item exists a going asks. bounds.within turns allowed item exists a asks;
}

-- what an item does next: it has ended, may do something, or waits
abbrev ItemIs : Launch → State → ℕ → Type 0
ItemIs l s i = (s.standing i ≡ Ended) ⊎ (((a : Action) × MayDo l s i a) ⊎ ((p : Point) × Waits l s i p))

-- an item that goes on may do what it asks for, or waits
asks_is : (l : Launch) (s : State) (i : ℕ) (a : Action) → i < l.items → s.standing i ≡ Going → ItemAsks l i (s.answers i) a → IsWithin l a → ItemIs l s i
asks_is l s i (Load p size) exists going asks within = inr (inl (Load p size, record { exists = exists; going = going; asks = asks; turn = within }))
asks_is l s i (Store p size v) exists going asks within = inr (inl (Store p size v, record { exists = exists; going = going; asks = asks; turn = within }))
asks_is l s i (Barrier p) exists going asks within = inr (inr (p, record { going = going; asks = asks }))
asks_is l s i (Fault pos) exists going asks within = inr (inl (Fault pos, record { exists = exists; going = going; asks = asks; turn = tt }))
asks_is l s i End exists going asks within = inr (inl (End, record { exists = exists; going = going; asks = asks; turn = tt }))

-- each item of a steady state has one of these
item_is : (l : Launch) (s : State) (n : ℕ) → IsSteady l s n → (i : ℕ) → i < l.items → ItemIs l s i
item_is l s n steady i exists =
    elim (steady.unfaulted i) [
      | inl going ↦
          let next = steady.tame.soon [] tt tt i exists going in
          let asks : ItemAsks l i (s.answers i) next.0 = record { steps = n; asked = next.1 } in
          asks_is l s i next.0 exists going asks (steady.within i exists next.0 going asks)
      | inr ended ↦ inl ended
    ]

-- no item may do anything
abbrev NoneMayDo : Launch → State → Type 0
NoneMayDo l s = (item : ℕ) (a : Action) → MayDo l s item a → ⊥

-- who has ended or waits may do nothing
cannot_do : (l : Launch) → IsSettled l → (s : State) (i : ℕ) → ItemIs l s i → ((a : Action) → MayDo l s i a → ⊥) ⊎ ((a : Action) × MayDo l s i a)
cannot_do l settled s i (inl ended) = inl (λ a may. let clash : Going ≡ Ended = sym may.going ∙ ended in cc)
cannot_do l settled s i (inr (inl may)) = inr may
cannot_do l settled s i (inr (inr (p, waits))) =
    inl (λ a may. subst (IsTurn l) (asks_one l settled i (s.answers i) a (Barrier p) may.asks waits.asks) may.turn)

-- where no item may do anything each has ended or waits
ended_or_waits : (l : Launch) (s : State) (i : ℕ) → NoneMayDo l s → ItemIs l s i → (s.standing i ≡ Ended) ⊎ ((p : Point) × Waits l s i p)
ended_or_waits l s i none (inl ended) = inl ended
ended_or_waits l s i none (inr (inl (a, may))) = absurd (none i a may)
ended_or_waits l s i none (inr (inr waits)) = inr waits

-- and then an item waits where the others of its group wait
waits_together : (l : Launch) (s : State) (n : ℕ) → IsTameWithin l s n → (i k : ℕ) (p : Point) → i < l.items → k < l.items → group_of l i ≡ group_of l k → Waits l s i p
    → (s.standing k ≡ Ended) ⊎ ((q : Point) × Waits l s k q) → Waits l s k p
waits_together l s n tame i k p exists exists' together waits (inl ended) =
    absurd (tame.meets [] tt tt (record { waiting = i; other = k; exist = (exists, exists'); together = together; point = p; waits = waits; never = inl ended }))
waits_together l s n tame i k p exists exists' together waits (inr (q, waits')) =
    elim (cases_point q p) [
      | inl e ↦ subst (Waits l s k) e waits'
      | inr differ ↦
          absurd (tame.meets [] tt tt (record { waiting = i; other = k; exist = (exists, exists'); together = together; point = p; waits = waits; never = inr (inl (q, differ, waits')) }))
    ]

-- the group of an item is no later than the group of no earlier item
group_order : (l : Launch) (i g : ℕ) → i ≤ g * l.local → group_of l i ≤ g
group_order l i g h = div-le_of_le-mul l.local (let e = mul_comm g l.local in omega arith)

-- where no item may do anything the group of the least that waits is the first to pass
first_pass : (l : Launch) (s : State) (n : ℕ) → 0 < l.local → IsSteady l s n → NoneMayDo l s
    → Least (λ i. s.standing i ≡ Ended) (λ i. (p : Point) × Waits l s i p) l.items → (t : Turn) × May l s t × IsFirst l s t
first_pass l s n positive steady none found =
    let i = found.least in
    let p = found.found.0 in (
      Passes (group_of l i) p,
      record {
        exists = let e = div-mul-le_self i l.local in let below = found.below in omega arith;
        waits = λ k exists e.
            waits_together l s n steady.tame i k p found.below exists (sym e) found.found.1 (ended_or_waits l s k none (item_is l s n steady k exists));
      },
      (
        none,
        λ g q pass.
            elim (cases_lt (g * l.local) i) [
              | inl before ↦
                  let waits = pass.waits (g * l.local) pass.exists (first_in_group l positive g) in
                  let clash : Going ≡ Ended = sym waits.going ∙ found.before (g * l.local) before in
                  absurd (cc)
              | inr behind ↦ group_order l i g behind
            ],
      ),
    )

-- where no item may do anything all have ended, or a group is the first to pass
first_group : (l : Launch) (s : State) (n : ℕ) → 0 < l.local → IsSteady l s n → NoneMayDo l s → IsComplete l s ⊎ ((t : Turn) × May l s t × IsFirst l s t)
first_group l s n positive steady none =
    elim (search_least (λ i. s.standing i ≡ Ended) (λ i. (p : Point) × Waits l s i p) l.items (λ i exists. ended_or_waits l s i none (item_is l s n steady i exists))) [
      | inl complete ↦ inl complete
      | inr found ↦ inr (first_pass l s n positive steady none found)
    ]

-- the least item that may do something is first
first_item : (l : Launch) (s : State) → Least (λ i. (a : Action) → MayDo l s i a → ⊥) (λ i. (a : Action) × MayDo l s i a) l.items → (t : Turn) × May l s t × IsFirst l s t
first_item l s found = (
  Does found.least found.found.0,
  found.found.1,
  λ i a may. elim (cases_lt i found.least) [ inl before ↦ absurd (found.before i before a may) | inr behind ↦ behind ],
)

-- a steady state is complete, or some turn is the first that may come
pub first_turn : (l : Launch) → IsSettled l → 0 < l.local → (s : State) (n : ℕ) → IsSteady l s n → IsComplete l s ⊎ ((t : Turn) × May l s t × IsFirst l s t)
first_turn l settled positive s n steady =
    elim (search_least (λ i. (a : Action) → MayDo l s i a → ⊥) (λ i. (a : Action) × MayDo l s i a) l.items (λ i exists. cannot_do l settled s i (item_is l s n steady i exists))) [
      | inl none ↦ first_group l s n positive steady (λ i a may. none i may.exists a may)
      | inr found ↦ inr (first_item l s found)
    ]

-- a steady state that is not complete has a next turn
pub some_turn : (l : Launch) → IsSettled l → 0 < l.local → (s : State) (n : ℕ) → IsSteady l s n → (IsComplete l s → ⊥) → (t : Turn) × May l s t
some_turn l settled positive s n steady incomplete =
    elim (first_turn l settled positive s n steady) [
      | inl complete ↦ absurd (incomplete complete)
      | inr (t, may, first) ↦ (t, may)
    ]

-- so a tame launch never stands still
pub progress : (l : Launch) (given : ℕ → ℕ → ℕ) (n : ℕ) → IsSettled l → 0 < l.local → IsTameWithin l (start given) n → InBounds l (start given)
    → (turns : List Turn) → Allowed l (start given) turns → IsFaultFree turns → (IsComplete l (run l (start given) turns) → ⊥)
    → (next : Turn) × May l (run l (start given) turns) next
progress l given n settled positive tame bounds turns allowed free incomplete =
    some_turn l settled positive (run l (start given) turns) n (steady_behind l given n tame bounds turns allowed free) incomplete

-- the schedule by least item from a state to the end
pub record Schedule (l : Launch) (s : State) : Type 0 where
  pub turns : List Turn
  pub first : RunsFirst l s turns
  pub complete : IsComplete l (run l s turns)

-- one turn before it
schedule_before : (l : Launch) (s : State) (t : Turn) → May l s t → IsFirst l s t → Schedule l (after l s t) → Schedule l s
schedule_before l s t may first rest = record { turns = t ∷ rest.turns; first = (may, first, rest.first); complete = rest.complete }

-- a turn of a launch without faults is no fault
no_fault_safe : (l : Launch) (s : State) (t : Turn) → (HasFault l s → ⊥) → May l s t → ¬ (IsFault t)
no_fault_safe l s (Does i (Load p size)) faultless may fault = fault
no_fault_safe l s (Does i (Store p size v)) faultless may fault = fault
no_fault_safe l s (Does i (Barrier p)) faultless may fault = fault
no_fault_safe l s (Does i (Fault pos)) faultless may fault = faultless (record { turns = []; item = i; pos = pos; allowed = (may, tt) })
no_fault_safe l s (Does i End) faultless may fault = fault
no_fault_safe l s (Passes g p) faultless may fault = fault

-- and behind it the launch has none
no_fault_after : (l : Launch) (s : State) (t : Turn) → (HasFault l s → ⊥) → May l s t → HasFault l (after l s t) → ⊥
no_fault_after l s t faultless may fault =
    faultless (record { turns = t ∷ fault.turns; item = fault.item; pos = fault.pos; allowed = (may, fault.allowed) })

-- at most k turns are left
abbrev AtMost : Launch → State → ℕ → Type 0
AtMost l s k = (turns : List Turn) → Allowed l s turns → FaultsAtMostLast turns → length turns ≤ k

-- fewer are left behind a turn that is no fault
fewer_after : (l : Launch) (s : State) (t : Turn) (k : ℕ) → May l s t → ¬ (IsFault t) → AtMost l s (suc k) → AtMost l (after l s t) k
fewer_after l s t k may safe few [] allowed last = omega arith
fewer_after l s t k may safe few (u ∷ turns) allowed last =
    let longer = few (t ∷ u ∷ turns) (may, allowed) (safe, last) in
    omega arith

-- where none is left none may come
none_left : (l : Launch) (s : State) (t : Turn) → AtMost l s zero → May l s t → ⊥
none_left l s t few may = let one = few (t ∷ []) (may, tt) tt in omega arith

-- where items ask for bytes of the launch alone a tame state is steady
steady_in_bounds : (l : Launch) (s : State) (n : ℕ) → IsTameWithin l s n → IsUnfaulted s → InBounds l s → IsSteady l s n
steady_in_bounds l s n tame unfaulted bounds = record { tame = tame; unfaulted = unfaulted; within = λ item exists a going asks. bounds.within [] tt item exists a asks }

-- a tame launch without faults has a schedule by least item that comes to the end
has_schedule : (l : Launch) → IsSettled l → 0 < l.local → (n k : ℕ) (s : State) → AtMost l s k → IsTameWithin l s n → IsUnfaulted s → InBounds l s
    → (HasFault l s → ⊥) → Schedule l s
has_schedule l settled positive n zero s few tame unfaulted bounds faultless =
    elim (first_turn l settled positive s n (steady_in_bounds l s n tame unfaulted bounds)) [
      | inl complete ↦ record { turns = []; first = tt; complete = complete }
      | inr (t, may, first) ↦ absurd (none_left l s t few may)
    ]
has_schedule l settled positive n (suc k) s few tame unfaulted bounds faultless =
    elim (first_turn l settled positive s n (steady_in_bounds l s n tame unfaulted bounds)) [
      | inl complete ↦ record { turns = []; first = tt; complete = complete }
      | inr (t, may, first) ↦
          let safe = no_fault_safe l s t faultless may in
          schedule_before l s t may first
          (has_schedule l settled positive n k (after l s t) (fewer_after l s t k may safe few) (tame_after l s n t may safe tame)
          (unfaulted_after l s t safe unfaulted) (in_bounds_after l s t may bounds) (no_fault_after l s t faultless may))
    ]

-- a tame launch without faults leaves something
pub some_left : (l : Launch) (given : ℕ → ℕ → ℕ) (n : ℕ) → IsSettled l → 0 < l.local → IsTameWithin l (start given) n → InBounds l (start given)
    → (HasFault l (start given) → ⊥) → (left : ℕ → ℕ → ℕ) × LaunchLeaves l given left
some_left l given n settled positive tame bounds faultless =
    let schedule = has_schedule l settled positive n n (start given) tame.few tame (unfaulted_start given) bounds faultless in (
      λ buffer byte. (run l (start given) schedule.turns).bytes (Global buffer byte),
      record { turns = schedule.turns; first = schedule.first; complete = schedule.complete; bytes = λ buffer byte. refl },
    )

-- one turn is the first that may come
first_once : (l : Launch) → IsSettled l → 0 < l.local → (s : State) (t u : Turn) → May l s t → IsFirst l s t → May l s u → IsFirst l s u → t ≡ u
first_once l settled positive s (Does i a) (Does j b) may first may' first' =
    let one = first j b may' in
    let other = first' i a may in
    let e : i ≡ j = omega arith in
    let same : a ≡ b = does_one l settled s j a b (subst (λ k. MayDo l s k a) e may) may' in
    cc
first_once l settled positive s (Does i a) (Passes g p) may first may' first' = absurd (first'.0 i a may)
first_once l settled positive s (Passes g p) (Does i a) may first may' first' = absurd (first.0 i a may')
first_once l settled positive s (Passes g p) (Passes h q) may first may' first' =
    let one = first.1 h q may' in
    let other = first'.1 g p may in
    let e : g ≡ h = omega arith in
    let same : p ≡ q = passes_one l settled positive s h p q (subst (λ k. MayPass l s k p) e may) may' in
    cc

-- there is one schedule by least item that comes to the end
pub schedule_once : (l : Launch) → IsSettled l → 0 < l.local → (turns turns' : List Turn) (s : State)
    → RunsFirst l s turns → IsComplete l (run l s turns) → RunsFirst l s turns' → IsComplete l (run l s turns') → turns ≡ turns'
schedule_once l settled positive [] [] s runs complete runs' complete' = refl
schedule_once l settled positive [] (u ∷ turns') s runs complete runs' complete' = absurd (nothing_at_end l positive s u complete runs'.0)
schedule_once l settled positive (t ∷ turns) [] s runs complete runs' complete' = absurd (nothing_at_end l positive s t complete' runs.0)
schedule_once l settled positive (t ∷ turns) (u ∷ turns') s runs complete runs' complete' =
    let e : u ≡ t = first_once l settled positive s u t runs'.0 runs'.1 runs.0 runs.1 in
    let rest : turns ≡ turns' =
    schedule_once l settled positive turns turns' (after l s t) runs.2 complete
    (subst (λ x. RunsFirst l (after l s x) turns') e runs'.2)
    (subst (λ x. IsComplete l (run l (after l s x) turns')) e complete') in
    cc

-- what a launch leaves is one thing
pub left_once : (l : Launch) (given left left' : ℕ → ℕ → ℕ) → IsSettled l → 0 < l.local
    → LaunchLeaves l given left → LaunchLeaves l given left' → (buffer byte : ℕ) → left buffer byte ≡ left' buffer byte
left_once l given left left' settled positive h h' buffer byte =
    let same : h.turns ≡ h'.turns = schedule_once l settled positive h.turns h'.turns (start given) h.first h.complete h'.first h'.complete in
    h.bytes buffer byte ∙ ap (λ turns. (run l (start given) turns).bytes (Global buffer byte)) same ∙ sym (h'.bytes buffer byte)

-- an action that is done is a turn of the launch
turn_is_within : (l : Launch) (a : Action) → IsTurn l a → IsWithin l a
turn_is_within l (Load p size) turn = turn
turn_is_within l (Store p size v) turn = turn
turn_is_within l (Barrier p) turn = tt
turn_is_within l (Fault pos) turn = tt
turn_is_within l End turn = tt

-- in a complete interleaving an item asks for bytes of the launch alone
complete_within : (l : Launch) → IsSettled l → (turns : List Turn) (s : State) → Allowed l s turns → IsComplete l (run l s turns)
    → (i : ℕ) → i < l.items → (a : Action) → s.standing i ≡ Going → ItemAsks l i (s.answers i) a → IsWithin l a
complete_within l settled [] s allowed complete i exists a going asks =
    let clash : Going ≡ Ended = sym going ∙ complete i exists in
    absurd (cc)
complete_within l settled (Does j b ∷ turns) s allowed complete i exists a going asks =
    elim (cases_eq i j) [
      | inl e ↦
          let there : MayDo l s i b = subst (λ k. MayDo l s k b) (sym e) allowed.0 in
          subst (IsWithin l) (asks_one l settled i (s.answers i) b a there.asks asks) (turn_is_within l b there.turn)
      | inr differ ↦
          complete_within l settled turns (after l s (Does j b)) allowed.1 complete i exists a
          (standing_kept l s (Does j b) i differ ∙ going) (asks_kept l s (Does j b) i a differ asks)
    ]
complete_within l settled (Passes g p ∷ turns) s allowed complete i exists a going asks =
    elim (cases_Bool (is_in_group l g i)) [
      | inl within ↦
          let waits = allowed.0.waits i exists (in_one_group l g i within) in
          subst (IsWithin l) (asks_one l settled i (s.answers i) (Barrier p) a waits.asks asks) tt
      | inr out ↦
          complete_within l settled turns (after l s (Passes g p)) allowed.1 complete i exists a
          (standing_kept l s (Passes g p) i out ∙ going) (asks_kept l s (Passes g p) i a out asks)
    ]

-- the schedule by least item that leads where some turns lead
record Sorted (l : Launch) (s : State) (turns : List Turn) : Type 0 where
  sorted : List Turn
  first : RunsFirst l s sorted
  same : run l s sorted ≡ run l s turns

-- one turn before it
sorted_before : (l : Launch) (s : State) (t : Turn) (turns : List Turn) → IsFirst l s t → (front : Front l s t turns) → Sorted l (after l s t) front.rest
    → Sorted l s turns
sorted_before l s t turns first front rest =
    record { sorted = t ∷ rest.sorted; first = (front.allowed.0, first, rest.first); same = rest.same ∙ front.same }

-- a complete interleaving of a tame launch leads where the schedule by least item leads
sorted_of : (l : Launch) → IsSettled l → 0 < l.local → (n k : ℕ) (turns : List Turn) (s : State) → length turns ≤ k → IsTameWithin l s n → IsUnfaulted s
    → Allowed l s turns → IsComplete l (run l s turns) → Sorted l s turns
sorted_of l settled positive n zero [] s short tame unfaulted allowed complete = record { sorted = []; first = tt; same = refl }
sorted_of l settled positive n zero (t ∷ turns) s short tame unfaulted allowed complete = absurd (omega arith)
sorted_of l settled positive n (suc k) turns s short tame unfaulted allowed complete =
    let steady : IsSteady l s n = record { tame = tame; unfaulted = unfaulted; within = complete_within l settled turns s allowed complete } in
    elim (first_turn l settled positive s n steady) [
      | inl ended ↦ record { sorted = []; first = tt; same = (agree_at_end l positive s turns ended allowed).same }
      | inr (t, may, first) ↦
          let front = front_of l settled positive n turns s tame allowed complete t may in
          let complete' = subst (IsComplete l) (sym front.same) complete in
          let safe = complete_no_fault l s t front.rest front.allowed complete' in
          let shorter = front.shorter in
          let rest = sorted_of l settled positive n k front.rest (after l s t) (omega arith) (tame_after l s n t may safe tame) (unfaulted_after l s t safe unfaulted) front.allowed.1 complete' in
          sorted_before l s t turns first front rest
    ]

-- so it leaves what the launch leaves
pub complete_leaves : (l : Launch) (given : ℕ → ℕ → ℕ) (n : ℕ) → IsSettled l → 0 < l.local → IsTameWithin l (start given) n
    → (turns : List Turn) → RunsToEnd l (start given) turns → LaunchLeaves l given (λ buffer byte. (run l (start given) turns).bytes (Global buffer byte))
complete_leaves l given n settled positive tame turns h =
    let sorted = sorted_of l settled positive n (length turns) turns (start given) (omega arith) tame (unfaulted_start given) h.allowed h.complete in
    record {
      turns = sorted.sorted;
      first = sorted.first;
      complete = subst (IsComplete l) (sym sorted.same) h.complete;
      bytes = λ buffer byte. ap (λ x. x.bytes (Global buffer byte)) (sym sorted.same);
    }

-- an item that goes on has stopped, or may do something that is no fault
stops_or_does : (l : Launch) (s : State) (i : ℕ) (a : Action) → i < l.items → s.standing i ≡ Going → ItemAsks l i (s.answers i) a → IsWithin l a
    → HasStopped l s i ⊎ ((b : Action) × MayDo l s i b × (¬ (IsFault (Does i b))))
stops_or_does l s i (Load p size) exists going asks within = inr (Load p size, record { exists = exists; going = going; asks = asks; turn = within }, λ h. h)
stops_or_does l s i (Store p size v) exists going asks within = inr (Store p size v, record { exists = exists; going = going; asks = asks; turn = within }, λ h. h)
stops_or_does l s i (Barrier p) exists going asks within = inl (inr (inl (p, record { going = going; asks = asks })))
stops_or_does l s i (Fault pos) exists going asks within = inl (inr (inr (going, (pos, asks))))
stops_or_does l s i End exists going asks within = inr (End, record { exists = exists; going = going; asks = asks; turn = tt }, λ h. h)

-- and so has each item of a steady state
steady_stops_or_does : (l : Launch) (s : State) (n : ℕ) → IsSteady l s n → (i : ℕ) → i < l.items
    → HasStopped l s i ⊎ ((b : Action) × MayDo l s i b × (¬ (IsFault (Does i b))))
steady_stops_or_does l s n steady i exists =
    elim (steady.unfaulted i) [
      | inl going ↦
          let next = steady.tame.soon [] tt tt i exists going in
          let asks : ItemAsks l i (s.answers i) next.0 = record { steps = n; asked = next.1 } in
          stops_or_does l s i next.0 exists going asks (steady.within i exists next.0 going asks)
      | inr ended ↦ inl (inl ended)
    ]

-- an item that has stopped makes no turn more
stops_here : (l : Launch) (s : State) (i n : ℕ) → HasStopped l s i → StopsWithin l s i n
stops_here l s i n stops = record { actions = []; few = omega arith; allowed = tt; stops = stops }

-- an item alone stops within the turns that are left
alone_stops : (l : Launch) (n k : ℕ) (s : State) (i : ℕ) → AtMost l s k → IsTameWithin l s n → IsUnfaulted s → InBounds l s → i < l.items → StopsWithin l s i k
alone_stops l n zero s i few tame unfaulted bounds exists =
    elim (steady_stops_or_does l s n (steady_in_bounds l s n tame unfaulted bounds) i exists) [
      | inl stops ↦ stops_here l s i zero stops
      | inr (b, may, safe) ↦ absurd (none_left l s (Does i b) few may)
    ]
alone_stops l n (suc k) s i few tame unfaulted bounds exists =
    elim (steady_stops_or_does l s n (steady_in_bounds l s n tame unfaulted bounds) i exists) [
      | inl stops ↦ stops_here l s i (suc k) stops
      | inr (b, may, safe) ↦
          let t = Does i b in
          let rest = alone_stops l n k (after l s t) i (fewer_after l s t k may safe few) (tame_after l s n t may safe tame) (unfaulted_after l s t safe unfaulted) (in_bounds_after l s t may bounds) exists in
          record { actions = b ∷ rest.actions; few = let few' = rest.few in omega arith; allowed = (may, rest.allowed); stops = rest.stops }
    ]

-- from each state that a tame launch reaches without a fault an item alone stops within n turns
pub drive : (l : Launch) (given : ℕ → ℕ → ℕ) (n : ℕ) → IsTameWithin l (start given) n → InBounds l (start given)
    → (turns : List Turn) → Allowed l (start given) turns → IsFaultFree turns → (item : ℕ) → item < l.items → StopsWithin l (run l (start given) turns) item n
drive l given n tame bounds turns allowed free item exists =
    let behind = tame_behind l turns (start given) n allowed free tame in
    alone_stops l n n (run l (start given) turns) item behind.few behind (unfaulted_behind l turns (start given) free (unfaulted_start given))
    (in_bounds_behind l turns (start given) allowed bounds) exists
