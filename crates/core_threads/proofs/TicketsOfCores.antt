-- What the cores claimed, by the tickets that their claimers drew.
use Rattle.std.proofs.Common.{◌≡◌, ℕ, zero, suc, ◌<◌, ◌≤◌, ◌⊎◌, inl, inr, List, [], ◌∷◌, ◌++◌, Bool, true, false, Option, Some, None, is_some, if◌then◌else◌, nat_lt, le-ltb, lt-ltb, true≢false, length, map, ap, refl, sym, subst, ◌∙◌, All, arith, flat_map, slice_get, slice_index_or}
use Rattle.std.specs.List.{concat}
use Rattle.std.specs.List.Sorted.{IsStrictlyIncreasing}
use Rattle.std.proofs.lemmas.List.Elements.{All-head, All-tail, All-nil, All-cons}
use Rattle.std.proofs.lemmas.Bool.{cases_lt}
use Rattle.vx_core.specs.declared.end.GroupEnd.{GroupEnd}
use Rattle.group_dispenser.specs.Claimers.{drawn, gathered, lists}
use Rattle.group_dispenser.specs.Tickets.{AreBelow, first_of, rest_of}
use Rattle.group_dispenser.specs.declared.claimer.Claimer.{Claimer}
use Rattle.core_threads.proofs.TicketLists.{AreTickets, all_there, as_often, claimed_ascend, no_more, often, often_in_less, often_in_one, often_in_same, often_last}
use Rattle.core_threads.specs.Joins.{claimer_in, record_of}
use Rattle.core_threads.specs.MachineRuns.{AreClaimed, times}
use Rattle.core_threads.specs.Works.{HasAll, HasBroken, NoneLeft, Stops}
use Rattle.core_threads.specs.declared.record.CoreRecord.{CoreRecord}
use Rattle.core_threads.specs.declared.work.CoreWork.{CoreWork}

are_tickets : {groups : ℕ} {tickets claimed : List ℕ} {end : _} → Stops groups tickets claimed end → AreTickets groups tickets claimed
are_tickets (NoneLeft ticket past is none) = inr (ticket, past, is)
are_tickets (HasAll is full none) = inl is
are_tickets (HasBroken bad is some) = inl is

-- a claimer that took in no other has one list
one_list : (p : Claimer) → gathered p ≡ [] → lists p ≡ drawn p ∷ []
one_list p none = alone (lists p) p.draws none where
  alone : (xss : List (List ℕ)) → 0 < length xss → rest_of xss ≡ [] → xss ≡ first_of xss ∷ []
  alone [] live is = absurd (omega arith)
  alone (xs ∷ xss) live is = ap (λ (yss : List (List ℕ)). xs ∷ yss) is

some_is_none : {A : Type 0} {a : A} → Some a ≡ None → ⊥
some_is_none is = true≢false (ap is_some is)

abbrev the_some : {A : Type 0} → A → Option A → A
the_some d (Some a) = a
the_some d None = d

module _ {P E : Type 0} where
  abbrev pub tickets_of : CoreWork P E → List ℕ
  tickets_of w = drawn w.claimer

  abbrev pub groups_in : CoreWork P E → List ℕ
  groups_in w = w.claimed.items

  -- what each core stands to its tickets
  pub record Behind (groups : ℕ) (w : CoreWork P E) : Type 0 where
    pub stops : Stops groups (tickets_of w) (groups_in w) w.end
    pub below : All (λ g. g < groups) (groups_in w)
    pub none_gathered : gathered w.claimer ≡ []

  claimed_are : (ws : List (CoreWork P E)) → flat_map (λ (r : CoreRecord). r.claimed) (map record_of ws) ≡ flat_map groups_in ws
  claimed_are [] = refl
  claimed_are (w ∷ ws) = ap (λ (xs : List ℕ). groups_in w ++ xs) (claimed_are ws)

  all_lists : (ws : List (CoreWork P E)) → All (λ w. gathered w.claimer ≡ []) ws → flat_map lists (map claimer_in ws) ≡ map tickets_of ws
  all_lists [] none = refl
  all_lists (w ∷ ws) none =
      ap (λ (xss : List (List ℕ)). xss ++ flat_map lists (map claimer_in ws)) (one_list w.claimer (All-head (λ (v : CoreWork P E). gathered v.claimer ≡ []) w ws none))
      ∙ ap (λ (xss : List (List ℕ)). tickets_of w ∷ xss) (all_lists ws (All-tail (λ (v : CoreWork P E). gathered v.claimer ≡ []) w ws none))

  together : (ws : List (CoreWork P E)) → concat (map tickets_of ws) ≡ flat_map tickets_of ws
  together [] = refl
  together (w ∷ ws) = ap (λ (xs : List ℕ). tickets_of w ++ xs) (together ws)

  -- a core's record, in the records
  pub found : (ws : List (CoreWork P E)) (core : ℕ) (r : CoreRecord) → slice_get (map record_of ws) core ≡ Some r → (core < length ws) × ((d : CoreWork P E) → r ≡ record_of (slice_index_or ws core d))
  found [] core r is = absurd (some_is_none (sym is))
  found (w ∷ ws) zero r is = (omega arith, λ d. sym (ap (the_some (record_of w)) is))
  found (w ∷ ws) (suc core) r is = let rest = found ws core r is in (omega (arith, rest.0), rest.1)

all_of_map : {A B : Type 0} (f : A → B) (Q : B → Type 0) (xs : List A) → All Q (map f xs) → All (λ x. Q (f x)) xs
all_of_map f Q [] all = All-nil (λ x. Q (f x))
all_of_map f Q (x ∷ xs) all = All-cons (λ x. Q (f x)) x xs (All-head Q (f x) (map f xs) all) (all_of_map f Q xs (All-tail Q (f x) (map f xs) all))

pub all_in_map : {A B : Type 0} (f : A → B) (Q : B → Type 0) (xs : List A) → All (λ x. Q (f x)) xs → All Q (map f xs)
all_in_map f Q [] all = All-nil Q
all_in_map f Q (x ∷ xs) all = All-cons Q (f x) (map f xs) (All-head (λ x. Q (f x)) x xs all) (all_in_map f Q xs (All-tail (λ x. Q (f x)) x xs all))

at_most_one : (b : Bool) → (if b then 1 else 0) ≤ 1
at_most_one true = omega arith
at_most_one false = omega arith

some_below : (x n : ℕ) → 1 ≤ (if nat_lt x n then 1 else 0) → x < n
some_below x n one =
    elim (cases_lt x n) [
      | inl below ↦ below
      | inr above ↦
          let none : ◌≡◌ {A = ℕ} (if nat_lt x n then 1 else 0) 0 = ap (λ (b : Bool). if b then 1 else 0) (le-ltb x n above) in
          absurd (omega (arith, one, none))
    ]

one_below : (x n : ℕ) → x < n → ◌≡◌ {A = ℕ} (if nat_lt x n then 1 else 0) 1
one_below x n below = ap (λ (b : Bool). if b then 1 else 0) (lt-ltb x n below)

-- A core without a bad end has drawn a ticket that is no group's, or has claimed each group.
stopped : (groups : ℕ) (tickets claimed : List ℕ) (end : Option GroupEnd) → Stops groups tickets claimed end → end ≡ None → IsStrictlyIncreasing claimed → All (λ g. g < groups) claimed
    → ((ticket : ℕ) × (groups ≤ ticket) × (1 ≤ often ticket tickets)) ⊎ ((group : ℕ) → group < groups → 1 ≤ often group claimed)
stopped groups tickets claimed end (NoneLeft ticket past is none) ends up below =
    inl (ticket, past, subst (λ (xs : List ℕ). 1 ≤ often ticket xs) (sym is) (often_last ticket claimed))
stopped groups tickets claimed end (HasAll is full none) ends up below = inr (all_there claimed groups up below full)
stopped groups tickets claimed end (HasBroken bad is some) ends up below = absurd (some_is_none (sym some ∙ ends))

pub some_of : {A : Type 0} (xs : List A) (k : ℕ) → k < length xs → A
some_of [] k within = absurd (omega arith)
some_of (x ∷ xs) k within = x

module _ {P E : Type 0} (groups tickets : ℕ) (ws : List (CoreWork P E)) (all : All (Behind groups) ws) (kept : List (List ℕ)) (kept_are : kept ≡ ([] ∷ []) ++ flat_map lists (map claimer_in ws)) (drawn_are : AreBelow tickets (concat kept)) (ascend : All IsStrictlyIncreasing kept) where
  kept_is : kept ≡ [] ∷ map tickets_of ws
  kept_is = kept_are ∙ ap (λ (xss : List (List ℕ)). [] ∷ xss) (all_lists ws (λ k d within. (all k d within).none_gathered))

  total_of : (x : ℕ) → often x (flat_map tickets_of ws) ≡ (if nat_lt x tickets then 1 else 0)
  total_of x = ap (λ (xs : List ℕ). often x xs) (sym (ap concat kept_is ∙ together ws)) ∙ drawn_are x

  tickets_ascend : All (λ w. IsStrictlyIncreasing (tickets_of w)) ws
  tickets_ascend = all_of_map tickets_of IsStrictlyIncreasing ws (All-tail IsStrictlyIncreasing [] (map tickets_of ws) (subst (λ (xss : List (List ℕ)). All IsStrictlyIncreasing xss) kept_is ascend))

  groups_ascend : All (λ w. IsStrictlyIncreasing (groups_in w)) ws
  groups_ascend k d within =
      let b : Behind groups (slice_index_or ws k d) = all k d within in
      claimed_ascend groups (tickets_of (slice_index_or ws k d)) (groups_in (slice_index_or ws k d)) (are_tickets b.stops) (tickets_ascend k d within)

  times_are : (x : ℕ) → times x (map record_of ws) ≡ often x (flat_map groups_in ws)
  times_are x = ap (λ (xs : List ℕ). often x xs) (claimed_are ws)

  at_most : (x : ℕ) → times x (map record_of ws) ≤ 1
  at_most x =
      let less = often_in_less groups_in tickets_of x ws (λ k d within. no_more groups (tickets_of (slice_index_or ws k d)) (groups_in (slice_index_or ws k d)) x (are_tickets (all k d within).stops)) in
      omega (arith, times_are x, less, total_of x, at_most_one (nat_lt x tickets))

  -- where a ticket that is no group's was drawn, each group was claimed
  each_drawn : (ticket group : ℕ) → groups ≤ ticket → 1 ≤ often ticket (flat_map tickets_of ws) → group < groups → times group (map record_of ws) ≡ 1
  each_drawn ticket group past one below =
      let low : ticket < tickets = some_below ticket tickets (omega (arith, total_of ticket, one)) in
      let same = often_in_same groups_in tickets_of group ws (λ k d within. as_often groups (tickets_of (slice_index_or ws k d)) (groups_in (slice_index_or ws k d)) group below (are_tickets (all k d within).stops)) in
      times_are group ∙ same ∙ total_of group ∙ one_below group tickets (omega (arith, low, past, below))

  claimed_by : (core : ℕ) (r : CoreRecord) → slice_get (map record_of ws) core ≡ Some r → r.end ≡ None → (group : ℕ) → group < groups → times group (map record_of ws) ≡ 1
  claimed_by core r at none group below =
      let f = found ws core r at in
      let d : CoreWork P E = some_of ws core f.0 in
      let b : Behind groups (slice_index_or ws core d) = all core d f.0 in
      let ends : (slice_index_or ws core d).end ≡ None = sym (ap (λ (x : CoreRecord). x.end) (f.1 d)) ∙ none in
      elim (stopped groups (tickets_of (slice_index_or ws core d)) (groups_in (slice_index_or ws core d)) (slice_index_or ws core d).end b.stops ends (groups_ascend core d f.0) b.below) [
        | inl past ↦ each_drawn past.0 group past.1 (omega (arith, past.2, often_in_one tickets_of past.0 ws core d f.0)) below
        | inr has ↦ omega (arith, has group below, often_in_one groups_in group ws core d f.0, times_are group, at_most group)
      ]

  pub are_claimed : AreClaimed groups (map record_of ws)
  are_claimed = record {
    ascending = all_in_map record_of (λ (r : CoreRecord). IsStrictlyIncreasing r.claimed) ws groups_ascend;
    below = all_in_map record_of (λ (r : CoreRecord). All (λ g. g < groups) r.claimed) ws (λ k d within. (all k d within).below);
    once = at_most;
    all = claimed_by;
  }
