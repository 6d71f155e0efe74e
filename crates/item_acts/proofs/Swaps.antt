-- Two turns of other items or groups: each may still come behind the other, and where they do not race their order makes
-- no difference.
use Rattle.std.proofs.Common.{◌≡◌, ◌≢◌, ℕ, suc, ◌+◌, ◌*◌, ◌<◌, ◌⊎◌, Bool, true, false, ◌||◌, cond, nat_eq, nat_lt, List, [], ◌∷◌, ◌++◌, refl, ap, sym, ◌∙◌, subst, inl, inr, arith, eq-eqb, ne_eqb, eqb-true, lt-ltb, le-leb}
use Rattle.std.proofs.Math.Path.{fun_ext}
use Rattle.std.proofs.Math.Nat.{mul-div_left}
use Rattle.std.proofs.lemmas.Bool.{cases_eq, cases_Bool, and_from, and_parts, cond-false, false_from_ne_true, both_ways}
use Rattle.vx_base.specs.Bytes.{bytes_of}
use Rattle.vx_base.proofs.NumberLaws.{number_of-same}
use Rattle.item_acts.specs.declared.acts.Place.{Place}
use Rattle.item_acts.specs.declared.acts.Place.TheVariants.{Global, Local}
use Rattle.item_acts.specs.declared.acts.Point.{Point}
use Rattle.item_acts.specs.declared.acts.Action.{Action}
use Rattle.item_acts.specs.declared.acts.Action.TheVariants.{Load, Store, Barrier, Fault, End}
use Rattle.item_acts.specs.declared.acts.Asked.TheVariants.{Act}
use Rattle.item_acts.specs.Launches.{Launch, ItemAsks, group_of, is_in_group, State, further, covers, field_at, with_field_at, put_at, bytes_after, answers_to, standing_after, Turn, Does, Passes, after, IsTurn, MayDo, Waits, MayPass, May}
use Rattle.item_acts.specs.Tame.{access_of, log_of, HasRace}
use Rattle.item_acts.specs.OneResult.{IsSettled, actions_in}
use Rattle.item_acts.proofs.Launches.{put_at_other}

-- what an item asks for after its answers is one action
pub asks_one : (l : Launch) → IsSettled l → (item : ℕ) (answers : List ℕ) (a b : Action) → ItemAsks l item answers a → ItemAsks l item answers b → a ≡ b
asks_one l settled item answers a b h h' =
    let one : l.asks item answers (h.steps + h'.steps) ≡ Act a = settled.more item answers h.steps h'.steps a h.asked in
    let other : l.asks item answers (h'.steps + h.steps) ≡ Act b = settled.more item answers h'.steps h.steps b h'.asked in
    let sum : h.steps + h'.steps ≡ h'.steps + h.steps = omega arith in
    cc

-- states with the same bytes, answers, standings and epochs are the same
pub same_state : {s t : State} → s.bytes ≡ t.bytes → s.answers ≡ t.answers → s.standing ≡ t.standing → s.epochs ≡ t.epochs → s ≡ t
same_state p q r u = λ i. record { bytes = p i; answers = q i; standing = r i; epochs = u i }

-- two choices of which at most one is taken may stand in either order
conds_swap : {A : Type 0} (b c : Bool) (v w x : A) → (b ≡ true → c ≡ true → ⊥) → cond c w (cond b v x) ≡ cond b v (cond c w x)
conds_swap true true v w x never = absurd (never refl refl)
conds_swap true false v w x never = refl
conds_swap false true v w x never = refl
conds_swap false false v w x never = refl

-- new values at two numbers may be put in either order
put_at_swap : {A : Type 0} (i j : ℕ) (v w : A) (f : ℕ → A) → i ≢ j → put_at j w (put_at i v f) ≡ put_at i v (put_at j w f)
put_at_swap i j v w f differ = fun_ext (λ k. conds_swap (nat_eq k i) (nat_eq k j) v w (f k) (λ e e'. differ (sym (eqb-true k i e) ∙ eqb-true k j e')))

-- stores to fields with no common byte may come in either order
fields_swap : (m : Place → ℕ) (p : Place) (n v : ℕ) (q : Place) (k w : ℕ) → ((b : Place) → covers p n b ≡ true → covers q k b ≡ true → ⊥)
    → with_field_at (with_field_at m p n v) q k w ≡ with_field_at (with_field_at m q k w) p n v
fields_swap m p n v q k w never = fun_ext (λ b. conds_swap (covers p n b) (covers q k b) _ _ (m b) (never b))

-- a field has each of its bytes
pub covers_further : (p : Place) (n k : ℕ) → k < n → covers p n (further p k) ≡ true
covers_further (Global buffer byte) n k below =
    and_from _ _ (eq-eqb buffer buffer refl) (and_from _ _ (le-leb byte (byte + k) (omega arith)) (lt-ltb (byte + k) (byte + n) (omega arith)))
covers_further (Local group array byte) n k below =
    and_from _ _ (and_from _ _ (eq-eqb group group refl) (eq-eqb array array refl)) (and_from _ _ (le-leb byte (byte + k) (omega arith)) (lt-ltb (byte + k) (byte + n) (omega arith)))

-- a store to a field changes no number in a field with no common byte
field_kept : (m : Place → ℕ) (p : Place) (n : ℕ) (q : Place) (k w : ℕ) → ((b : Place) → covers p n b ≡ true → covers q k b ≡ true → ⊥)
    → field_at (with_field_at m q k w) p n ≡ field_at m p n
field_kept m p n q k w never =
    number_of-same (λ j. with_field_at m q k w (further p j)) (λ j. m (further p j)) n
    (λ j below. cond-false (covers q k (further p j)) _ _ (false_from_ne_true _ (never (further p j) (covers_further p n j below))))

-- the bytes that an action loads or stores
abbrev pub touches : Action → Place → Bool
touches (Load place size) byte = covers place (bytes_of size) byte
touches (Store place size value) byte = covers place (bytes_of size) byte
touches (Barrier point) byte = false
touches (Fault pos) byte = false
touches End byte = false

-- the bytes that it stores
abbrev pub writes : Action → Place → Bool
writes (Load place size) byte = false
writes (Store place size value) byte = covers place (bytes_of size) byte
writes (Barrier point) byte = false
writes (Fault pos) byte = false
writes End byte = false

-- neither action stores a byte that the other touches
pub record AreClear (a b : Action) : Type 0 where
  pub first : (byte : Place) → touches a byte ≡ true → writes b byte ≡ true → ⊥
  pub second : (byte : Place) → writes a byte ≡ true → touches b byte ≡ true → ⊥

-- such actions leave the same bytes in either order
bytes_swap : (m : Place → ℕ) (a b : Action) → AreClear a b → bytes_after (bytes_after m a) b ≡ bytes_after (bytes_after m b) a
bytes_swap m (Store p size v) (Store q size' w) clear = fields_swap m p (bytes_of size) v q (bytes_of size') w clear.first
bytes_swap m (Store p size v) (Load q size') clear = refl
bytes_swap m (Store p size v) (Barrier point) clear = refl
bytes_swap m (Store p size v) (Fault pos) clear = refl
bytes_swap m (Store p size v) End clear = refl
bytes_swap m (Load p size) b clear = refl
bytes_swap m (Barrier point) b clear = refl
bytes_swap m (Fault pos) b clear = refl
bytes_swap m End b clear = refl

-- and the second is told what it would be told without the first
told_same : (m : Place → ℕ) (a b : Action) → AreClear a b → answers_to (bytes_after m a) b ≡ answers_to m b
told_same m (Store p size v) (Load q size') clear =
    ap (λ (x : ℕ). x ∷ []) (field_kept m q (bytes_of size') p (bytes_of size) v (λ byte e e'. clear.second byte e' e))
told_same m (Store p size v) (Store q size' w) clear = refl
told_same m (Store p size v) (Barrier point) clear = refl
told_same m (Store p size v) (Fault pos) clear = refl
told_same m (Store p size v) End clear = refl
told_same m (Load p size) b clear = refl
told_same m (Barrier point) b clear = refl
told_same m (Fault pos) b clear = refl
told_same m End b clear = refl

-- clear one way is clear the other way
clear_turned : {a b : Action} → AreClear a b → AreClear b a
clear_turned clear = record { first = λ byte e e'. clear.second byte e' e; second = λ byte e e'. clear.first byte e' e }

-- the turns are of other items or groups: no item moves in both
abbrev pub AreOthers : Launch → Turn → Turn → Type 0
AreOthers l (Does i a) (Does j b) = i ≢ j
AreOthers l (Does i a) (Passes g p) = is_in_group l g i ≡ false
AreOthers l (Passes g p) (Does i a) = is_in_group l g i ≡ false
AreOthers l (Passes g p) (Passes h q) = g ≢ h

-- and the other way round
pub others_turned : (l : Launch) (t u : Turn) → AreOthers l t u → AreOthers l u t
others_turned l (Does i a) (Does j b) others = λ e. others (sym e)
others_turned l (Does i a) (Passes g p) others = others
others_turned l (Passes g p) (Does i a) others = others
others_turned l (Passes g p) (Passes h q) others = λ e. others (sym e)

-- the actions of two turns are clear of each other
abbrev pub TurnsClear : Turn → Turn → Type 0
TurnsClear (Does i a) (Does j b) = AreClear a b
TurnsClear (Does i a) (Passes g p) = Unit {0}
TurnsClear (Passes g p) (Does i a) = Unit {0}
TurnsClear (Passes g p) (Passes h q) = Unit {0}

-- who is in a group is in no other
pub in_one_group : (l : Launch) (g k : ℕ) → is_in_group l g k ≡ true → group_of l k ≡ g
in_one_group l g k e = eqb-true (group_of l k) g (and_parts (nat_lt k l.items) (nat_eq (group_of l k) g) e).1

-- an item of the launch is in its group
pub in_own_group : (l : Launch) (g k : ℕ) → k < l.items → group_of l k ≡ g → is_in_group l g k ≡ true
in_own_group l g k below e = and_from _ _ (lt-ltb k l.items below) (eq-eqb (group_of l k) g e)

-- the answers behind an item's action and a pass of another group
answers_does_pass : (within : ℕ → Bool) (f : ℕ → List ℕ) (i : ℕ) (z : List ℕ) (k : ℕ) → within i ≡ false
    → cond (within k) (put_at i (f i ++ z) f k ++ 0 ∷ []) (put_at i (f i ++ z) f k)
    ≡ put_at i (cond (within i) (f i ++ 0 ∷ []) (f i) ++ z) (λ m. cond (within m) (f m ++ 0 ∷ []) (f m)) k
answers_does_pass within f i z k out =
    elim (cases_eq k i) [
      | inl e ↦
          let same : nat_eq k i ≡ true = eq-eqb k i e in
          let out' : within k ≡ false = ap within e ∙ out in
          simp (same, out', out)
      | inr differ ↦
          let other : nat_eq k i ≡ false = ne_eqb k i differ in
          simp other
    ]

-- the answers behind passes of two groups
answers_pass_pass : (b c : Bool) (x : List ℕ) → (b ≡ true → c ≡ true → ⊥)
    → cond c (cond b (x ++ 0 ∷ []) x ++ 0 ∷ []) (cond b (x ++ 0 ∷ []) x) ≡ cond b (cond c (x ++ 0 ∷ []) x ++ 0 ∷ []) (cond c (x ++ 0 ∷ []) x)
answers_pass_pass true true x never = absurd (never refl refl)
answers_pass_pass true false x never = refl
answers_pass_pass false true x never = refl
answers_pass_pass false false x never = refl

-- new values at two numbers, each made from the old one there
puts_swap : {A : Type 0} (i j : ℕ) (v w w' v' : A) (f : ℕ → A) → i ≢ j → w' ≡ w → v' ≡ v → put_at j w' (put_at i v f) ≡ put_at i v' (put_at j w f)
puts_swap i j v w w' v' f differ e e' =
    ap (λ x. put_at j x (put_at i v f)) e ∙ put_at_swap i j v w f differ ∙ ap (λ x. put_at i x (put_at j w f)) (sym e')

-- two items' actions
swap_does : (l : Launch) (s : State) (i j : ℕ) (a b : Action) → i ≢ j → AreClear a b
    → after l (after l s (Does i a)) (Does j b) ≡ after l (after l s (Does j b)) (Does i a)
swap_does l s i j a b differ clear =
    same_state
    (bytes_swap s.bytes a b clear)
    (puts_swap i j (s.answers i ++ answers_to s.bytes a) (s.answers j ++ answers_to s.bytes b) _ _ s.answers differ
    (let kept : put_at i (s.answers i ++ answers_to s.bytes a) s.answers j ≡ s.answers j = put_at_other i _ s.answers j (λ e. differ (sym e)) in
    let told : answers_to (bytes_after s.bytes a) b ≡ answers_to s.bytes b = told_same s.bytes a b clear in
    cc)
    (let kept : put_at j (s.answers j ++ answers_to s.bytes b) s.answers i ≡ s.answers i = put_at_other j _ s.answers i differ in
    let told : answers_to (bytes_after s.bytes b) a ≡ answers_to s.bytes a = told_same s.bytes b a (clear_turned clear) in
    cc))
    (put_at_swap i j (standing_after a) (standing_after b) s.standing differ)
    refl

-- an item's action and a pass of another group
swap_does_pass : (l : Launch) (s : State) (i : ℕ) (a : Action) (g : ℕ) (p : Point) → is_in_group l g i ≡ false
    → after l (after l s (Does i a)) (Passes g p) ≡ after l (after l s (Passes g p)) (Does i a)
swap_does_pass l s i a g p out =
    same_state refl (fun_ext (λ k. answers_does_pass (is_in_group l g) s.answers i (answers_to s.bytes a) k out)) refl refl

-- passes of two groups
swap_passes : (l : Launch) (s : State) (g : ℕ) (p : Point) (h : ℕ) (q : Point) → g ≢ h
    → after l (after l s (Passes g p)) (Passes h q) ≡ after l (after l s (Passes h q)) (Passes g p)
swap_passes l s g p h q differ =
    same_state
    refl
    (fun_ext (λ k. answers_pass_pass (is_in_group l g k) (is_in_group l h k) (s.answers k) (λ e e'. differ (sym (in_one_group l g k e) ∙ in_one_group l h k e'))))
    refl
    (puts_swap g h (suc (s.epochs g)) (suc (s.epochs h)) _ _ s.epochs differ
    (ap suc (put_at_other g _ s.epochs h (λ e. differ (sym e))))
    (ap suc (put_at_other h _ s.epochs g differ)))

-- turns of other items or groups that are clear of each other lead to one state in either order
pub swap : (l : Launch) (s : State) (t u : Turn) → AreOthers l t u → TurnsClear t u → after l (after l s t) u ≡ after l (after l s u) t
swap l s (Does i a) (Does j b) others clear = swap_does l s i j a b others clear
swap l s (Does i a) (Passes g p) others clear = swap_does_pass l s i a g p others
swap l s (Passes g p) (Does i a) others clear = sym (swap_does_pass l s i a g p others)
swap l s (Passes g p) (Passes h q) others clear = swap_passes l s g p h q others

-- a turn leaves an item as it is
abbrev pub LeavesItem : Launch → Turn → ℕ → Type 0
LeavesItem l (Does i a) k = k ≢ i
LeavesItem l (Passes g p) k = is_in_group l g k ≡ false

-- its standing stays
pub standing_kept : (l : Launch) (s : State) (t : Turn) (k : ℕ) → LeavesItem l t k → (after l s t).standing k ≡ s.standing k
standing_kept l s (Does i a) k leaves = put_at_other i _ s.standing k leaves
standing_kept l s (Passes g p) k leaves = refl

-- and its answers
pub answers_kept : (l : Launch) (s : State) (t : Turn) (k : ℕ) → LeavesItem l t k → (after l s t).answers k ≡ s.answers k
answers_kept l s (Does i a) k leaves = put_at_other i _ s.answers k leaves
answers_kept l s (Passes g p) k leaves = cond-false (is_in_group l g k) _ _ leaves

-- what it asks for behind the turn is what it asked for before
pub asks_kept : (l : Launch) (s : State) (t : Turn) (k : ℕ) (a : Action) → LeavesItem l t k → ItemAsks l k (s.answers k) a → ItemAsks l k ((after l s t).answers k) a
asks_kept l s t k a leaves asks = subst (λ x. ItemAsks l k x a) (sym (answers_kept l s t k leaves)) asks

-- it still waits
pub still_waits : (l : Launch) (s : State) (t : Turn) (k : ℕ) (p : Point) → LeavesItem l t k → Waits l s k p → Waits l (after l s t) k p
still_waits l s t k p leaves waits = record { going = standing_kept l s t k leaves ∙ waits.going; asks = asks_kept l s t k (Barrier p) leaves waits.asks }

-- what an item may do it may still do
still_may_do : (l : Launch) (s : State) (t : Turn) (k : ℕ) (a : Action) → LeavesItem l t k → MayDo l s k a → MayDo l (after l s t) k a
still_may_do l s t k a leaves may = record {
  exists = may.exists;
  going = standing_kept l s t k leaves ∙ may.going;
  asks = asks_kept l s t k a leaves may.asks;
  turn = may.turn;
}

-- a turn of another item or group leaves the items of a turn
leaves_does : (l : Launch) (t : Turn) (i : ℕ) (a : Action) → AreOthers l t (Does i a) → LeavesItem l t i
leaves_does l (Does j b) i a others = λ e. others (sym e)
leaves_does l (Passes g p) i a others = others

leaves_pass : (l : Launch) (t : Turn) (g : ℕ) (p : Point) → AreOthers l t (Passes g p) → (k : ℕ) → k < l.items → group_of l k ≡ g → LeavesItem l t k
leaves_pass l (Does i a) g p others k below e = λ same. both_ways (is_in_group l g k) (ap (is_in_group l g) same ∙ others) (in_own_group l g k below e)
leaves_pass l (Passes h q) g p others k below e = false_from_ne_true _ (λ within. others (sym (in_one_group l h k within) ∙ e))

-- what may come may still come behind a turn of another item or group
pub still_may : (l : Launch) (s : State) (t u : Turn) → AreOthers l t u → May l s u → May l (after l s t) u
still_may l s t (Does i a) others may = still_may_do l s t i a (leaves_does l t i a others) may
still_may l s t (Passes g p) others may = record {
  exists = may.exists;
  waits = λ k below e. still_waits l s t k p (leaves_pass l t g p others k below e) (may.waits k below e);
}

-- the first item of a group is in it
pub first_in_group : (l : Launch) → 0 < l.local → (g : ℕ) → group_of l (g * l.local) ≡ g
first_in_group l positive g = mul-div_left g positive

-- who may do something does not wait
does_not_wait : (l : Launch) → IsSettled l → (s : State) (i : ℕ) (a : Action) (p : Point) → MayDo l s i a → Waits l s i p → ⊥
does_not_wait l settled s i a p may waits =
    let same : a ≡ Barrier p = asks_one l settled i (s.answers i) a (Barrier p) may.asks waits.asks in
    subst (IsTurn l) same may.turn

-- an item that may do something is in no group that may pass
does_not_pass : (l : Launch) → IsSettled l → (s : State) (i : ℕ) (a : Action) (g : ℕ) (p : Point) → MayDo l s i a → MayPass l s g p → is_in_group l g i ≡ false
does_not_pass l settled s i a g p may pass =
    false_from_ne_true _ (λ within. does_not_wait l settled s i a p may (pass.waits i may.exists (in_one_group l g i within)))

-- a group passes at one point
pub passes_one : (l : Launch) → IsSettled l → 0 < l.local → (s : State) (g : ℕ) (p q : Point) → MayPass l s g p → MayPass l s g q → p ≡ q
passes_one l settled positive s g p q pass pass' =
    let one : Waits l s (g * l.local) p = pass.waits (g * l.local) pass.exists (first_in_group l positive g) in
    let other : Waits l s (g * l.local) q = pass'.waits (g * l.local) pass'.exists (first_in_group l positive g) in
    let same : Barrier p ≡ Barrier q = asks_one l settled (g * l.local) (s.answers (g * l.local)) (Barrier p) (Barrier q) one.asks other.asks in
    cc

-- an item may do one action
pub does_one : (l : Launch) → IsSettled l → (s : State) (i : ℕ) (a b : Action) → MayDo l s i a → MayDo l s i b → a ≡ b
does_one l settled s i a b may may' = asks_one l settled i (s.answers i) a b may.asks may'.asks

-- two turns that may come are one, or of other items or groups
pub same_or_others : (l : Launch) → IsSettled l → 0 < l.local → (s : State) (t u : Turn) → May l s t → May l s u → (t ≡ u) ⊎ AreOthers l t u
same_or_others l settled positive s (Does i a) (Does j b) may may' =
    elim (cases_eq i j) [
      | inl e ↦
          let there : MayDo l s j a = subst (λ k. MayDo l s k a) e may in
          let same : a ≡ b = does_one l settled s j a b there may' in
          inl (cc)
      | inr differ ↦ inr differ
    ]
same_or_others l settled positive s (Does i a) (Passes g p) may pass = inr (does_not_pass l settled s i a g p may pass)
same_or_others l settled positive s (Passes g p) (Does i a) pass may = inr (does_not_pass l settled s i a g p may pass)
same_or_others l settled positive s (Passes g p) (Passes h q) pass pass' =
    elim (cases_eq g h) [
      | inl e ↦
          let there : MayPass l s h p = subst (λ k. MayPass l s k p) e pass in
          let same : p ≡ q = passes_one l settled positive s h p q there pass' in
          inl (cc)
      | inr differ ↦ inr differ
    ]

-- two accesses of a log of two with other items, a common byte and a store race
raced : (l : Launch) (s s' : State) (i j : ℕ) (p : Place) (n : ℕ) (w : Bool) (q : Place) (m : ℕ) (w' : Bool) (byte : Place) → i ≢ j → s'.epochs ≡ s.epochs
    → covers p n byte ≡ true → covers q m byte ≡ true → (w || w') ≡ true → HasRace (access_of l s i p n w ∷ access_of l s' j q m w' ∷ [])
raced l s s' i j p n w q m w' byte differ epochs e e' stores = record {
  one = 0;
  other = 1;
  first = _;
  second = _;
  first_is = refl;
  second_is = refl;
  race = record {
    others = differ;
    byte = byte;
    shared = (e, e');
    writes = stores;
    unordered = elim (cases_eq (group_of l i) (group_of l j)) [
      | inl same ↦ inr (ap s.epochs same ∙ sym (ap (λ f. f (group_of l j)) epochs))
      | inr apart ↦ inl apart
    ];
  };
}

-- where two items' actions do not race, the second stores no byte that the first touches
no_race_first : (l : Launch) (s : State) (i j : ℕ) (a b : Action) → i ≢ j → (HasRace (log_of l s (Does i a ∷ Does j b ∷ [])) → ⊥)
    → (byte : Place) → touches a byte ≡ true → writes b byte ≡ true → ⊥
no_race_first l s i j (Load p size) (Store q size' w) differ never byte e e' = never (raced l s (after l s (Does i (Load p size))) i j p (bytes_of size) false q (bytes_of size') true byte differ refl e e' refl)
no_race_first l s i j (Store p size v) (Store q size' w) differ never byte e e' = never (raced l s (after l s (Does i (Store p size v))) i j p (bytes_of size) true q (bytes_of size') true byte differ refl e e' refl)
no_race_first l s i j a b differ never byte e e' = cc

-- nor does the first store one that the second touches
no_race_second : (l : Launch) (s : State) (i j : ℕ) (a b : Action) → i ≢ j → (HasRace (log_of l s (Does i a ∷ Does j b ∷ [])) → ⊥)
    → (byte : Place) → writes a byte ≡ true → touches b byte ≡ true → ⊥
no_race_second l s i j (Store p size v) (Load q size') differ never byte e e' = never (raced l s (after l s (Does i (Store p size v))) i j p (bytes_of size) true q (bytes_of size') false byte differ refl e e' refl)
no_race_second l s i j (Store p size v) (Store q size' w) differ never byte e e' = never (raced l s (after l s (Does i (Store p size v))) i j p (bytes_of size) true q (bytes_of size') true byte differ refl e e' refl)
no_race_second l s i j a b differ never byte e e' = cc

-- turns of other items that do not race are clear of each other
pub no_race_clear : (l : Launch) (s : State) (t u : Turn) → AreOthers l t u → (HasRace (log_of l s (t ∷ u ∷ [])) → ⊥) → TurnsClear t u
no_race_clear l s (Does i a) (Does j b) others never = record { first = no_race_first l s i j a b others never; second = no_race_second l s i j a b others never }
no_race_clear l s (Does i a) (Passes g p) others never = tt
no_race_clear l s (Passes g p) (Does i a) others never = tt
no_race_clear l s (Passes g p) (Passes h q) others never = tt

-- an item has an action in at most one of them
pub one_acts : (l : Launch) (t u : Turn) → AreOthers l t u → (k : ℕ) → (actions_in l k t ≡ []) ⊎ (actions_in l k u ≡ [])
one_acts l (Does i a) (Does j b) others k =
    elim (cases_eq k i) [
      | inl e ↦ inr (cond-false _ _ _ (ne_eqb k j (λ e'. others (sym e ∙ e'))))
      | inr differ ↦ inl (cond-false _ _ _ (ne_eqb k i differ))
    ]
one_acts l (Does i a) (Passes g p) others k =
    elim (cases_eq k i) [
      | inl e ↦ inr (cond-false _ _ _ (ap (is_in_group l g) e ∙ others))
      | inr differ ↦ inl (cond-false _ _ _ (ne_eqb k i differ))
    ]
one_acts l (Passes g p) (Does i a) others k =
    elim (cases_eq k i) [
      | inl e ↦ inl (cond-false _ _ _ (ap (is_in_group l g) e ∙ others))
      | inr differ ↦ inr (cond-false _ _ _ (ne_eqb k i differ))
    ]
one_acts l (Passes g p) (Passes h q) others k =
    elim (cases_Bool (is_in_group l g k)) [
      | inl within ↦ inr (cond-false _ _ _ (false_from_ne_true _ (λ within'. others (sym (in_one_group l g k within) ∙ in_one_group l h k within'))))
      | inr out ↦ inl (cond-false _ _ _ out)
    ]

-- so their order makes no difference to what it has asked for
pub actions_swap : (l : Launch) (t u : Turn) → AreOthers l t u → (k : ℕ) (more : List Action)
    → actions_in l k t ++ (actions_in l k u ++ more) ≡ actions_in l k u ++ (actions_in l k t ++ more)
actions_swap l t u others k more =
    elim (one_acts l t u others k) [
      | inl e ↦ simp e
      | inr e ↦ simp e
    ]
