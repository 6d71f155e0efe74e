-- The bytes that moves leave at the cells of arrays are those that their events lead to.
use Rattle.std.proofs.Common.{◌≡◌, ◌≢◌, ℕ, ◌+◌, ◌-◌, ◌<◌, ◌≤◌, ◌⊎◌, Bool, true, false, cond, nat_eq, List, [], ◌∷◌, ◌++◌, refl, ap, sym, ◌∙◌, subst, inl, inr, arith, ne_eqb, eq-eqb, le-leb, lt-ltb}
use Rattle.std.proofs.lemmas.Bool.{true≢false, cases_eq, cases_Bool, and_from, and_left, cond-true, cond-false, false_from_ne_true}
use Rattle.vx_base.specs.Bytes.{bytes_of, byte_of}
use Rattle.vx_base.specs.declared.types.Size.{Size}
use Rattle.vx_base.specs.declared.types.Size.TheVariants.{One, Two, Four}
use Rattle.item_acts.specs.declared.acts.Place.{Place}
use Rattle.item_acts.specs.declared.acts.Place.TheVariants.{Global, Local}
use Rattle.item_acts.specs.declared.acts.Action.TheVariants.{Store}
use Rattle.item_acts.specs.Launches.{Launch, group_of, State, covers, byte_at, IsInside}
use Rattle.launch_order.specs.Events.{Loaded, Stored, Did, Event, led}
use Rattle.launch_order.specs.Cores.{StoresFrom, StoreNot}
use Rattle.launch_order.specs.Moves.{Cell, Shared, Scratch, Move, Reads, Writes, Leaves, Frees, Moved, address_of, spans, writes_to, written, left_by, mover, moves_of, Held, Byte, NoByte, event_if, events_in, events_of, IsGlobal, IsLocalOf, SeeOne, IsMap, KeepsToArrays, WritesFrom, WriteNot, IsSafe}
use Rattle.launch_order.proofs.Seen.{led_append}

-- what a safe write does, apart from who asks for it: it touches no array, or writes a field of one
abbrev pub Placed : Launch → (ℕ → Cell → Held) → Move → Type 0
Placed l holds (Reads item cell size n) = Unit {0}
Placed l holds (Writes item cell size n) =
    ((other : ℕ) (c : Cell) → spans cell (bytes_of size) c ≡ true → holds other c ≡ NoByte)
    ⊎ ((p : Place) × (holds item cell ≡ Byte p) × IsInside l p (bytes_of size))
Placed l holds (Leaves item) = Unit {0}
Placed l holds (Frees group stood) = Unit {0}

abbrev pub AllPlaced : Launch → (ℕ → Cell → Held) → List Moved → Type 0
AllPlaced l holds [] = Unit {0}
AllPlaced l holds (m ∷ moves) = Placed l holds m.what × AllPlaced l holds moves

pub placed_of_safe : (l : Launch) (holds : ℕ → Cell → Held) (constant : ℕ → Bool) → KeepsToArrays l constant → (core_of : ℕ → ℕ) (core : ℕ) (own : State) (m : Move)
    → IsSafe l holds core_of core own m → Placed l holds m
placed_of_safe l holds constant keeps core_of core own (Reads item cell size n) safe = tt
placed_of_safe l holds constant keeps core_of core own (Writes item cell size n) (inl aside) = inl aside
placed_of_safe l holds constant keeps core_of core own (Writes item cell size n) (inr (p, is, asks)) =
    inr (p, is, keeps.within item (own.answers item) (Store p size n) asks.exists asks.asks)
placed_of_safe l holds constant keeps core_of core own (Leaves item) safe = tt
placed_of_safe l holds constant keeps core_of core own (Frees group stood) safe = tt

pub placed_front : (l : Launch) (holds : ℕ → Cell → Held) (before behind : List Moved) → AllPlaced l holds (before ++ behind) → AllPlaced l holds before
placed_front l holds [] behind placed = tt
placed_front l holds (m ∷ before) behind placed = (placed.0, placed_front l holds before behind placed.1)

size_pos : (size : Size) → 0 < bytes_of size
size_pos One = omega arith
size_pos Two = omega arith
size_pos Four = omega arith

-- a field has its first cell
pub spans_self : (cell : Cell) (size : Size) → spans cell (bytes_of size) cell ≡ true
spans_self (Shared a) size = let pos = size_pos size in and_from _ _ (le-leb a a (omega arith)) (lt-ltb a (a + bytes_of size) (omega (arith, pos)))
spans_self (Scratch a) size = let pos = size_pos size in and_from _ _ (le-leb a a (omega arith)) (lt-ltb a (a + bytes_of size) (omega (arith, pos)))

-- a write that touches no array writes no cell of one
pub aside_not : (holds : ℕ → Cell → Held) (cell c : Cell) (n other : ℕ) (q : Place) → ((z : ℕ) (d : Cell) → spans cell n d ≡ true → holds z d ≡ NoByte)
    → holds other c ≡ Byte q → spans cell n c ≡ false
aside_not holds cell c n other q aside is =
    false_from_ne_true _ (λ e. let clash : NoByte ≡ Byte q = sym (aside other c e) ∙ is in cc)

loads_keep : (s : State) (h : Held) (place item : ℕ) (size : Size) (n : ℕ) (q : Place)
    → (led s (event_if h (λ p. record { place = place; what = Did item (Loaded p size n) }))).bytes q ≡ s.bytes q
loads_keep s (Byte p) place item size n q = refl
loads_keep s NoByte place item size n q = refl

-- two memories that agree at a cell of an array agree there behind a move
step_same : (l : Launch) (holds : ℕ → Cell → Held) (address : ℕ → ℕ → ℕ) → IsMap l holds address → (place : ℕ) (m : Move) → Placed l holds m
    → (bytes : Cell → ℕ) (s : State) (other : ℕ) (c : Cell) (q : Place) → holds other c ≡ Byte q
    → ((item : ℕ) → group_of l item ≡ mover l m → SeeOne l item other c)
    → bytes c ≡ s.bytes q → written bytes m c ≡ (led s (events_in holds place m)).bytes q
step_same l holds address map place (Reads item cell size n) placed bytes s other c q is see same = same ∙ sym (loads_keep s (holds item cell) place item size n q)
step_same l holds address map place (Writes item cell size n) (inl aside) bytes s other c q is see same =
    let f : Place → Event = λ p. record { place = place; what = Did item (Stored p size n) } in
    let none : holds item cell ≡ NoByte = aside item cell (spans_self cell size) in
    cond-false _ _ _ (aside_not holds cell c (bytes_of size) other q aside is) ∙ same
    ∙ sym (ap (λ h. (led s (event_if h f)).bytes q) none)
step_same l holds address map place (Writes item cell size n) (inr (p, here, inside)) bytes s other c q is see same =
    let f : Place → Event = λ p. record { place = place; what = Did item (Stored p size n) } in
    let exact : covers p (bytes_of size) q ≡ spans cell (bytes_of size) c = map.exact item other cell c p q (bytes_of size) here inside is (see item refl) in
    let stored : cond (spans cell (bytes_of size) c) (byte_of n (address_of c - address_of cell)) (bytes c)
    ≡ cond (covers p (bytes_of size) q) (byte_of n (byte_at q - byte_at p)) (s.bytes q) =
    elim (cases_Bool (spans cell (bytes_of size) c)) [
      | inl e ↦
          cond-true _ _ _ e
          ∙ ap (byte_of n) (sym (map.along item other cell c p q (bytes_of size) here inside is (see item refl) e))
          ∙ sym (cond-true _ _ _ (exact ∙ e))
      | inr e ↦ cond-false _ _ _ e ∙ same ∙ sym (cond-false _ _ _ (exact ∙ e))
    ] in
    stored ∙ sym (ap (λ h. (led s (event_if h f)).bytes q) here)
step_same l holds address map place (Leaves item) placed bytes s other c q is see same = same
step_same l holds address map place (Frees group stood) placed bytes s other c q is see same = same

-- so do they behind some moves, in the shared memory
pub left_shared : (l : Launch) (holds : ℕ → Cell → Held) (address : ℕ → ℕ → ℕ) → IsMap l holds address → (moves : List Moved) → AllPlaced l holds moves
    → (bytes : Cell → ℕ) (s : State) (other a : ℕ) (q : Place) → holds other (Shared a) ≡ Byte q
    → bytes (Shared a) ≡ s.bytes q → left_by bytes moves (Shared a) ≡ (led s (events_of holds moves)).bytes q
left_shared l holds address map [] placed bytes s other a q is same = same
left_shared l holds address map (m ∷ moves) placed bytes s other a q is same =
    left_shared l holds address map moves placed.1 (written bytes m.what) (led s (events_in holds m.place m.what)) other a q is
    (step_same l holds address map m.place m.what placed.0 bytes s other (Shared a) q is (λ item e. tt) same)
    ∙ sym (ap (λ t. t.bytes q) (led_append s (events_in holds m.place m.what) (events_of holds moves)))

-- a buffer has no byte of a local array
global_apart : (p q : Place) (own n : ℕ) → IsGlobal p → IsLocalOf own q → covers p n q ≡ false
global_apart (Global buffer byte) (Local group array byte') own n global in_group = refl
global_apart (Global buffer byte) (Global buffer' byte') own n global in_group = absurd in_group
global_apart (Local group array byte) q own n global in_group = absurd global

-- nor have local arrays of two groups a byte in common
locals_apart : (p q : Place) (one other n : ℕ) → IsLocalOf one p → IsLocalOf other q → one ≢ other → covers p n q ≡ false
locals_apart (Local group array byte) (Local group' array' byte') one other n e e' differ =
    and_left _ _ (and_left _ _ (ne_eqb group group' (λ same. differ (sym e ∙ same ∙ e'))))
locals_apart (Local group array byte) (Global buffer byte') one other n e e' differ = absurd e'
locals_apart (Global buffer byte) q one other n e e' differ = absurd e

-- so what items of another group store is none of the group's arrays
others_apart : (l : Launch) (holds : ℕ → Cell → Held) (address : ℕ → ℕ → ℕ) → IsMap l holds address → (item : ℕ) (cell : Cell) (p q : Place) (own n : ℕ)
    → holds item cell ≡ Byte p → IsLocalOf own q → group_of l item ≢ own → covers p n q ≡ false
others_apart l holds address map item (Shared a) p q own n is in_group differ = global_apart p q own n (map.shared_is item a p is) in_group
others_apart l holds address map item (Scratch a) p q own n is in_group differ = locals_apart p q (group_of l item) own n (map.scratch_is item a p is) in_group differ

step_other : (l : Launch) (holds : ℕ → Cell → Held) (address : ℕ → ℕ → ℕ) → IsMap l holds address → (place : ℕ) (m : Move) → Placed l holds m
    → (s : State) (own : ℕ) (q : Place) → IsLocalOf own q → mover l m ≢ own → s.bytes q ≡ (led s (events_in holds place m)).bytes q
step_other l holds address map place (Reads item cell size n) placed s own q in_group differ = sym (loads_keep s (holds item cell) place item size n q)
step_other l holds address map place (Writes item cell size n) (inl aside) s own q in_group differ =
    let f : Place → Event = λ p. record { place = place; what = Did item (Stored p size n) } in
    sym (ap (λ h. (led s (event_if h f)).bytes q) (aside item cell (spans_self cell size)))
step_other l holds address map place (Writes item cell size n) (inr (p, here, inside)) s own q in_group differ =
    let f : Place → Event = λ p. record { place = place; what = Did item (Stored p size n) } in
    sym (cond-false _ _ _ (others_apart l holds address map item cell p q own (bytes_of size) here in_group differ))
    ∙ sym (ap (λ h. (led s (event_if h f)).bytes q) here)
step_other l holds address map place (Leaves item) placed s own q in_group differ = refl
step_other l holds address map place (Frees group stood) placed s own q in_group differ = refl

-- in the scratch memory they agree behind the moves of the array's group
pub left_scratch : (l : Launch) (holds : ℕ → Cell → Held) (address : ℕ → ℕ → ℕ) → IsMap l holds address → (moves : List Moved) → AllPlaced l holds moves
    → (bytes : Cell → ℕ) (s : State) (other a : ℕ) (q : Place) → holds other (Scratch a) ≡ Byte q
    → bytes (Scratch a) ≡ s.bytes q → left_by bytes (moves_of l (group_of l other) moves) (Scratch a) ≡ (led s (events_of holds moves)).bytes q
left_scratch l holds address map [] placed bytes s other a q is same = same
left_scratch l holds address map (m ∷ moves) placed bytes s other a q is same =
    let own = group_of l other in
    let t = led s (events_in holds m.place m.what) in
    let joined : (led t (events_of holds moves)).bytes q ≡ (led s (events_of holds (m ∷ moves))).bytes q =
    sym (ap (λ z. z.bytes q) (led_append s (events_in holds m.place m.what) (events_of holds moves))) in
    elim (cases_eq (mover l m.what) own) [
      | inl e ↦
          ap (λ zs. left_by bytes zs (Scratch a)) (cond-true (nat_eq (mover l m.what) own) (m ∷ moves_of l own moves) (moves_of l own moves) (eq-eqb (mover l m.what) own e))
          ∙ left_scratch l holds address map moves placed.1 (written bytes m.what) t other a q is
          (step_same l holds address map m.place m.what placed.0 bytes s other (Scratch a) q is (λ item of_item. of_item ∙ e) same)
          ∙ joined
      | inr differ ↦
          ap (λ zs. left_by bytes zs (Scratch a)) (cond-false (nat_eq (mover l m.what) own) (m ∷ moves_of l own moves) (moves_of l own moves) (ne_eqb (mover l m.what) own differ))
          ∙ left_scratch l holds address map moves placed.1 bytes t other a q is
          (same ∙ step_other l holds address map m.place m.what placed.0 s own q (map.scratch_is other a q is) differ)
          ∙ joined
    ]

stores_from_parts : (place : ℕ) (q : Place) (xs ys : List Event) → StoresFrom place q (xs ++ ys) → StoresFrom place q xs × StoresFrom place q ys
stores_from_parts place q [] ys from = (tt, from)
stores_from_parts place q (x ∷ xs) ys from = let rest = stores_from_parts place q xs ys from.1 in ((from.0, rest.0), rest.1)

store_not_parts : (q : Place) (xs ys : List Event) → StoreNot q (xs ++ ys) → StoreNot q xs × StoreNot q ys
store_not_parts q [] ys not = (tt, not)
store_not_parts q (x ∷ xs) ys not = let rest = store_not_parts q xs ys not.1 in ((not.0, rest.0), rest.1)

write_from : (l : Launch) (holds : ℕ → Cell → Held) (address : ℕ → ℕ → ℕ) → IsMap l holds address → (low place : ℕ) (m : Move) → Placed l holds m
    → (other a : ℕ) (q : Place) → holds other (Shared a) ≡ Byte q → StoresFrom low q (events_in holds place m) → writes_to m (Shared a) ≡ true → low ≤ place
write_from l holds address map low place (Reads item cell size n) placed other a q is from e = absurd (true≢false (sym e))
write_from l holds address map low place (Writes item cell size n) (inl aside) other a q is from e =
    absurd (true≢false (sym e ∙ aside_not holds cell (Shared a) (bytes_of size) other q aside is))
write_from l holds address map low place (Writes item cell size n) (inr (p, here, inside)) other a q is from e =
    let f : Place → Event = λ p. record { place = place; what = Did item (Stored p size n) } in
    let from' : StoresFrom low q (event_if (Byte p) f) = subst (λ h. StoresFrom low q (event_if h f)) here from in
    from'.0 (map.exact item other cell (Shared a) p q (bytes_of size) here inside is tt ∙ e)
write_from l holds address map low place (Leaves item) placed other a q is from e = absurd (true≢false (sym e))
write_from l holds address map low place (Frees group stood) placed other a q is from e = absurd (true≢false (sym e))

-- a byte whose stores all have at least a place is at a cell whose writes all have
pub writes_from : (l : Launch) (holds : ℕ → Cell → Held) (address : ℕ → ℕ → ℕ) → IsMap l holds address → (low : ℕ) (moves : List Moved) → AllPlaced l holds moves
    → (other a : ℕ) (q : Place) → holds other (Shared a) ≡ Byte q → StoresFrom low q (events_of holds moves) → WritesFrom low (Shared a) moves
writes_from l holds address map low [] placed other a q is from = tt
writes_from l holds address map low (m ∷ moves) placed other a q is from =
    let parts = stores_from_parts low q (events_in holds m.place m.what) (events_of holds moves) from in
    (write_from l holds address map low m.place m.what placed.0 other a q is parts.0, writes_from l holds address map low moves placed.1 other a q is parts.1)

store_not_of : (l : Launch) (holds : ℕ → Cell → Held) (address : ℕ → ℕ → ℕ) → IsMap l holds address → (place : ℕ) (m : Move) → Placed l holds m
    → (other a : ℕ) (q : Place) → holds other (Shared a) ≡ Byte q → StoreNot q (events_in holds place m) → writes_to m (Shared a) ≡ false
store_not_of l holds address map place (Reads item cell size n) placed other a q is not = refl
store_not_of l holds address map place (Writes item cell size n) (inl aside) other a q is not = aside_not holds cell (Shared a) (bytes_of size) other q aside is
store_not_of l holds address map place (Writes item cell size n) (inr (p, here, inside)) other a q is not =
    let f : Place → Event = λ p. record { place = place; what = Did item (Stored p size n) } in
    let not' : StoreNot q (event_if (Byte p) f) = subst (λ h. StoreNot q (event_if h f)) here not in
    sym (map.exact item other cell (Shared a) p q (bytes_of size) here inside is tt) ∙ not'.0
store_not_of l holds address map place (Leaves item) placed other a q is not = refl
store_not_of l holds address map place (Frees group stood) placed other a q is not = refl

-- a byte that is not stored is at a cell that is not written
pub write_not : (l : Launch) (holds : ℕ → Cell → Held) (address : ℕ → ℕ → ℕ) → IsMap l holds address → (moves : List Moved) → AllPlaced l holds moves
    → (other a : ℕ) (q : Place) → holds other (Shared a) ≡ Byte q → StoreNot q (events_of holds moves) → WriteNot (Shared a) moves
write_not l holds address map [] placed other a q is not = tt
write_not l holds address map (m ∷ moves) placed other a q is not =
    let parts = store_not_parts q (events_in holds m.place m.what) (events_of holds moves) not in
    (store_not_of l holds address map m.place m.what placed.0 other a q is parts.0, write_not l holds address map moves placed.1 other a q is parts.1)
