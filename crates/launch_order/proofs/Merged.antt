-- One order of the events of all cores: a core's events are put in one by one, each before the first event that has no
-- lesser place.
use Rattle.std.proofs.Common.{◌≡◌, ◌≢◌, ℕ, zero, suc, ◌<◌, ◌≤◌, cond, nat_eq, nat_le, List, [], ◌∷◌, ◌++◌, if◌then◌else◌, refl, ap, sym, ◌∙◌, subst, inl, inr, arith, eq-eqb, ne_eqb, leb-true, leb-false}
use Rattle.std.proofs.lemmas.Bool.{cases_eq, cond-true, cond-false, cond_both}
use Rattle.launch_order.specs.Events.{Event, NeverFall}

-- an event with its core
pub record Tagged : Type 0 where
  pub core : ℕ
  pub event : Event

-- the events of one core
abbrev pub project : ℕ → List Tagged → List Event
project core [] = []
project core (x ∷ xs) = if nat_eq x.core core then x.event ∷ project core xs else project core xs

-- the events without their cores
abbrev pub untagged : List Tagged → List Event
untagged [] = []
untagged (x ∷ xs) = x.event ∷ untagged xs

-- each event of some cores has this
abbrev pub Each : (Tagged → Type 0) → List Tagged → Type 0
Each P [] = Unit {0}
Each P (x ∷ xs) = P x × Each P xs

-- each event of one core has this
abbrev pub EachEvent : (Event → Type 0) → List Event → Type 0
EachEvent P [] = Unit {0}
EachEvent P (e ∷ events) = P e × EachEvent P events

-- what each has that has this
pub each_with : {P Q : Tagged → Type 0} → ((x : Tagged) → P x → Q x) → (xs : List Tagged) → Each P xs → Each Q xs
each_with f [] each = tt
each_with f (x ∷ xs) each = (f x each.0, each_with f xs each.1)

-- or that has both of these
pub each_both : {P Q R : Tagged → Type 0} → ((x : Tagged) → P x → Q x → R x) → (xs : List Tagged) → Each P xs → Each Q xs → Each R xs
each_both f [] each each' = tt
each_both f (x ∷ xs) each each' = (f x each.0 each'.0, each_both f xs each.1 each'.1)

-- the same of two lists, one behind the other
pub each_append : (P : Tagged → Type 0) (xs ys : List Tagged) → Each P xs → Each P ys → Each P (xs ++ ys)
each_append P [] ys each each' = each'
each_append P (x ∷ xs) ys each each' = (each.0, each_append P xs ys each.1 each')

pub each_front : (P : Tagged → Type 0) (xs ys : List Tagged) → Each P (xs ++ ys) → Each P xs
each_front P [] ys each = tt
each_front P (x ∷ xs) ys each = (each.0, each_front P xs ys each.1)

pub each_back : (P : Tagged → Type 0) (xs ys : List Tagged) → Each P (xs ++ ys) → Each P ys
each_back P [] ys each = each
each_back P (x ∷ xs) ys each = each_back P xs ys each.1

-- an event of the core stands first in what is left of the list
pub project_here : (core : ℕ) (x : Tagged) (xs : List Tagged) → x.core ≡ core → project core (x ∷ xs) ≡ x.event ∷ project core xs
project_here core x xs e = cond-true _ _ _ (eq-eqb x.core core e)

-- an event of another core does not
pub project_past : (core : ℕ) (x : Tagged) (xs : List Tagged) → x.core ≢ core → project core (x ∷ xs) ≡ project core xs
project_past core x xs differ = cond-false _ _ _ (ne_eqb x.core core differ)

-- a core's events of two lists, one behind the other
pub project_append : (core : ℕ) (xs ys : List Tagged) → project core (xs ++ ys) ≡ project core xs ++ project core ys
project_append core [] ys = refl
project_append core (x ∷ xs) ys =
    let rest : project core (xs ++ ys) ≡ project core xs ++ project core ys = project_append core xs ys in
    elim (cases_eq x.core core) [
      | inl e ↦
          project_here core x (xs ++ ys) e ∙ ap (λ zs. x.event ∷ zs) rest
          ∙ ap (λ zs. zs ++ project core ys) (sym (project_here core x xs e))
      | inr differ ↦
          project_past core x (xs ++ ys) differ ∙ rest
          ∙ ap (λ zs. zs ++ project core ys) (sym (project_past core x xs differ))
    ]

-- an event put in before the first one that has no lesser place
abbrev pub put_in : Tagged → List Tagged → List Tagged
put_in x [] = x ∷ []
put_in x (y ∷ ys) = if nat_le x.event.place y.event.place then x ∷ y ∷ ys else y ∷ put_in x ys

-- a core's events put in
abbrev pub with_core : ℕ → List Event → List Tagged → List Tagged
with_core core [] xs = xs
with_core core (e ∷ events) xs = put_in (record { core = core; event = e }) (with_core core events xs)

-- the events of the first n cores in one order
abbrev pub merged : (ℕ → List Event) → ℕ → List Tagged
merged events zero = []
merged events (suc n) = with_core n (events n) (merged events n)

each_put_in : (P : Tagged → Type 0) (x : Tagged) (xs : List Tagged) → P x → Each P xs → Each P (put_in x xs)
each_put_in P x [] p each = (p, tt)
each_put_in P x (y ∷ ys) p each =
    cond_both (nat_le x.event.place y.event.place) (x ∷ y ∷ ys) (y ∷ put_in x ys) (Each P) (λ _. (p, each)) (λ _. (each.0, each_put_in P x ys p each.1))

each_with_core : (P : Tagged → Type 0) (core : ℕ) (events : List Event) (xs : List Tagged)
    → EachEvent (λ e. P (record { core = core; event = e })) events → Each P xs → Each P (with_core core events xs)
each_with_core P core [] xs each rest = rest
each_with_core P core (e ∷ events) xs each rest =
    each_put_in P (record { core = core; event = e }) (with_core core events xs) each.0 (each_with_core P core events xs each.1 rest)

-- what each core's events have, all events have
pub each_merged : (P : Tagged → Type 0) (events : ℕ → List Event) (n : ℕ)
    → ((core : ℕ) → core < n → EachEvent (λ e. P (record { core = core; event = e })) (events core)) → Each P (merged events n)
each_merged P events zero each = tt
each_merged P events (suc n) each =
    each_with_core P n (events n) (merged events n) (each n (omega arith)) (each_merged P events n (λ core below. each core (omega arith)))

-- no event has a lesser place than one before it
abbrev pub Sorted : List Tagged → Type 0
Sorted [] = Unit {0}
Sorted (x ∷ xs) = Each (λ y. x.event.place ≤ y.event.place) xs × Sorted xs

sorted_put_in : (x : Tagged) (xs : List Tagged) → Sorted xs → Sorted (put_in x xs)
sorted_put_in x [] sorted = (tt, tt)
sorted_put_in x (y ∷ ys) sorted =
    cond_both (nat_le x.event.place y.event.place) (x ∷ y ∷ ys) (y ∷ put_in x ys) Sorted
    (λ e.
    let le : x.event.place ≤ y.event.place = leb-true x.event.place y.event.place e in
    ((le, each_with (λ z le'. omega (arith, le, le')) ys sorted.0), sorted))
    (λ e.
    let lt : y.event.place < x.event.place = leb-false x.event.place y.event.place e in
    (each_put_in (λ z. y.event.place ≤ z.event.place) x ys (omega (arith, lt)) sorted.0, sorted_put_in x ys sorted.1))

sorted_with_core : (core : ℕ) (events : List Event) (xs : List Tagged) → Sorted xs → Sorted (with_core core events xs)
sorted_with_core core [] xs sorted = sorted
sorted_with_core core (e ∷ events) xs sorted = sorted_put_in (record { core = core; event = e }) (with_core core events xs) (sorted_with_core core events xs sorted)

-- the order is by place
pub sorted_merged : (events : ℕ → List Event) (n : ℕ) → Sorted (merged events n)
sorted_merged events zero = tt
sorted_merged events (suc n) = sorted_with_core n (events n) (merged events n) (sorted_merged events n)

-- and so is what stands behind
pub sorted_back : (xs ys : List Tagged) → Sorted (xs ++ ys) → Sorted ys
sorted_back [] ys sorted = sorted
sorted_back (x ∷ xs) ys sorted = sorted_back xs ys sorted.1

-- where places never fall none is lesser than the first
never_fall_from : (low place : ℕ) (events : List Event) → low ≤ place → NeverFall place events → EachEvent (λ e. low ≤ e.place) events
never_fall_from low place [] le rising = tt
never_fall_from low place (e ∷ events) le rising =
    let next : place ≤ e.place = rising.0 in
    (omega (arith, le, next), never_fall_from low e.place events (omega (arith, le, next)) rising.1)

-- what a core's events have its events among others have
pub each_of_project : (P : Event → Type 0) (core : ℕ) (xs : List Tagged) → EachEvent P (project core xs) → Each (λ y. y.core ≡ core → P y.event) xs
each_of_project P core [] each = tt
each_of_project P core (y ∷ ys) each =
    elim (cases_eq y.core core) [
      | inl e ↦
          let here : EachEvent P (y.event ∷ project core ys) = subst (EachEvent P) (project_here core y ys e) each in
          (λ _. here.0, each_of_project P core ys here.1)
      | inr differ ↦
          let past : EachEvent P (project core ys) = subst (EachEvent P) (project_past core y ys differ) each in
          (λ e. absurd (differ e), each_of_project P core ys past)
    ]

project_put_in_other : (core : ℕ) (x : Tagged) (xs : List Tagged) → x.core ≢ core → project core (put_in x xs) ≡ project core xs
project_put_in_other core x [] differ = project_past core x [] differ
project_put_in_other core x (y ∷ ys) differ =
    cond_both (nat_le x.event.place y.event.place) (x ∷ y ∷ ys) (y ∷ put_in x ys) (λ zs. project core zs ≡ project core (y ∷ ys))
    (λ _. project_past core x (y ∷ ys) differ)
    (λ _. ap (λ zs. cond (nat_eq y.core core) (y.event ∷ zs) zs) (project_put_in_other core x ys differ))

project_put_in_own : (x : Tagged) (xs : List Tagged) → Each (λ y. y.core ≡ x.core → x.event.place ≤ y.event.place) xs
    → project x.core (put_in x xs) ≡ x.event ∷ project x.core xs
project_put_in_own x [] each = project_here x.core x [] refl
project_put_in_own x (y ∷ ys) each =
    cond_both (nat_le x.event.place y.event.place) (x ∷ y ∷ ys) (y ∷ put_in x ys) (λ zs. project x.core zs ≡ x.event ∷ project x.core (y ∷ ys))
    (λ _. project_here x.core x (y ∷ ys) refl)
    (λ e.
    let lt : y.event.place < x.event.place = leb-false x.event.place y.event.place e in
    let differ : y.core ≢ x.core = λ same. let le : x.event.place ≤ y.event.place = each.0 same in omega (arith, lt, le) in
    project_past x.core y (put_in x ys) differ ∙ project_put_in_own x ys each.1 ∙ ap (λ zs. x.event ∷ zs) (sym (project_past x.core y ys differ)))

project_with_core_other : (core other : ℕ) (events : List Event) (xs : List Tagged) → other ≢ core → project core (with_core other events xs) ≡ project core xs
project_with_core_other core other [] xs differ = refl
project_with_core_other core other (e ∷ events) xs differ =
    project_put_in_other core (record { core = other; event = e }) (with_core other events xs) differ ∙ project_with_core_other core other events xs differ

project_with_core_own : (core place : ℕ) (events : List Event) (xs : List Tagged) → NeverFall place events → project core xs ≡ []
    → project core (with_core core events xs) ≡ events
project_with_core_own core place [] xs rising none = none
project_with_core_own core place (e ∷ events) xs rising none =
    let rest : project core (with_core core events xs) ≡ events = project_with_core_own core e.place events xs rising.1 none in
    let from : EachEvent (λ z. e.place ≤ z.place) events = never_fall_from e.place e.place events (omega arith) rising.1 in
    project_put_in_own (record { core = core; event = e }) (with_core core events xs)
    (each_of_project (λ z. e.place ≤ z.place) core (with_core core events xs) (subst (EachEvent (λ z. e.place ≤ z.place)) (sym rest) from))
    ∙ ap (λ zs. e ∷ zs) rest

-- a core that is not among the first n has no events there
project_merged_none : (events : ℕ → List Event) (n core : ℕ) → n ≤ core → project core (merged events n) ≡ []
project_merged_none events zero core le = refl
project_merged_none events (suc n) core le =
    project_with_core_other core n (events n) (merged events n) (λ e. omega (arith, e, le)) ∙ project_merged_none events n core (omega (arith, le))

-- each core's events stand there in their order
pub project_merged : (events : ℕ → List Event) (n core : ℕ) → ((c : ℕ) → c < n → NeverFall 0 (events c)) → core < n
    → project core (merged events n) ≡ events core
project_merged events zero core rising below = absurd (omega (arith, below))
project_merged events (suc n) core rising below =
    elim (cases_eq n core) [
      | inl e ↦
          subst (λ c. project c (with_core n (events n) (merged events n)) ≡ events c) e
          (project_with_core_own n 0 (events n) (merged events n) (rising n (omega arith)) (project_merged_none events n n (omega arith)))
      | inr differ ↦
          project_with_core_other core n (events n) (merged events n) differ
          ∙ project_merged events n core (λ c lt. rising c (omega (arith, lt))) (omega (arith, below, differ))
    ]
