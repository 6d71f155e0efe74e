-- What holds after any turns of a launch of a kernel of assignments.
use Rattle.std.proofs.Common.{◌≡◌, ◌≢◌, ℕ, suc, ◌+◌, ◌*◌, ◌<◌, ◌≤◌, Bool, true, false, nat_eq, if◌then◌else◌, List, [], ◌∷◌, ◌++◌, length, refl, ap, ap₂, sym, subst, ◌∙◌, inr, arith, eqb-true}
use Rattle.std.proofs.lemmas.Bool.{eqb-false}
use Rattle.vx_base.specs.declared.types.Size.TheVariants.{Four}
use Rattle.item_acts.specs.declared.acts.Place.TheVariants.{Global}
use Rattle.item_acts.specs.declared.acts.Action.{Action}
use Rattle.item_acts.specs.declared.acts.Action.TheVariants.{Load, Store, End}
use Rattle.item_acts.specs.declared.acts.Asked.TheVariants.{Act}
use Rattle.item_acts.specs.Machine.{asked}
use Rattle.item_acts.specs.Launches.{Launch, ItemAsks, State, Standing, Going, Ended, Faulted, put_at, bytes_after, answers_to, standing_after, Turn, Does, after}
use Rattle.item_acts.specs.Tame.{Access, accesses_of}
use Rattle.item_acts.proofs.Machine.{Leads, leads_on, asked_once, asks_there}
use Rattle.item_acts.proofs.Launches.{put_at_same, put_at_other}
use Rattle.first_kernels.specs.FirstTree.{Form}
use Rattle.first_kernels.specs.First.{Task, body_tasks, Item, item_step, item_start, array_of, launch_of}
use Rattle.first_kernels.specs.FirstValues.{words_after, words_at}
use Rattle.first_kernels.proofs.FirstLaunchItem.{Makes, GoesOn, NextOf, Loads, Stores, Ends, next_of}
use Rattle.first_kernels.proofs.FirstLaunchBytes.{own_words, AreBytes, own_words-word, stored, stored_out, stored-lt, own_words-other, own_words-own, total, total_less}

-- an item goes on, or has ended with no task left
abbrev pub Stands : Standing → List Task → Type 0
Stands Going ts = Unit {0}
Stands Ended ts = ts ≡ []
Stands (Faulted pos) ts = ⊥

-- how many turns an item can still make: one for each task, and its end
abbrev pub left_of : Standing → List Task → ℕ
left_of Going ts = suc (length ts)
left_of Ended ts = 0
left_of (Faulted pos) ts = 0

-- an access is to the item's own element of a buffer
abbrev pub IsOwn : Access → Type 0
IsOwn x = (buffer : ℕ) × (x.place ≡ Global buffer (4 * x.item)) × (x.bytes ≡ 4)

-- all accesses are
abbrev pub AllOwn : List Access → Type 0
AllOwn [] = Unit {0}
AllOwn (x ∷ xs) = IsOwn x × AllOwn xs

-- also of one log after another
pub own_append : (xs ys : List Access) → AllOwn xs → AllOwn ys → AllOwn (xs ++ ys)
own_append [] ys h h' = h'
own_append (x ∷ xs) ys h h' = (h.0, own_append xs ys h.1 h')

-- what holds of an item with new values, and of each other with its old ones, holds of all items
put_at_items : {A B C : Type 0} (P : ℕ → A → B → C → Type 0) (n i : ℕ) (a : A) (b : B) (c : C) (f : ℕ → A) (g : ℕ → B) (h : ℕ → C)
    → P i a b c → ((j : ℕ) → j ≢ i → j < n → P j (f j) (g j) (h j)) → (j : ℕ) → j < n
    → P j (put_at i a f j) (put_at i b g j) (put_at i c h j)
put_at_items P n i a b c f g h new old j below = go (nat_eq j i) refl
  where
    go : (t : Bool) → nat_eq j i ≡ t → P j (if t then a else f j) (if t then b else g j) (if t then c else h j)
    go true e = subst (λ (m : ℕ). P m a b c) (sym (eqb-true j i e)) new
    go false e = old j (eqb-false j i e) below

module _ (k : Form) (arguments : List ℕ) (items buffers : ℕ) (given : ℕ → ℕ → ℕ) where
  -- the launch, and the buffer of each parameter
  abbrev pub launch : Launch
  launch = launch_of k arguments items buffers

  abbrev pub arrays : ℕ → ℕ
  arrays = array_of arguments

  -- the words that an item leaves in its own elements
  abbrev pub final : ℕ → ℕ → ℕ
  final item = words_after arrays item k.assignments (words_at given item)

  -- An item after its answers: the machine has come to this state, and from it comes to its end with its final words.
  pub record ItemHolds (item : ℕ) (m : Item) (answers : List ℕ) (standing : Standing) (words : ℕ → ℕ) : Type 0 where
    pub steps : ℕ
    pub leads : Leads (item_step arrays item) steps (item_start k) answers m
    pub few : steps + length m.tasks ≤ length (body_tasks k.assignments)
    pub makes : Makes arrays item buffers m.tasks m.values words (final item)
    pub stands : Stands standing m.tasks

  -- a state of the launch, where the items have come to these states of the machine
  pub record Holds (s : State) : Type 0 where
    pub at : ℕ → Item
    pub each : (item : ℕ) → item < items → ItemHolds item (at item) (s.answers item) (s.standing item) (own_words s.bytes item)
    pub small : AreBytes s.bytes
    pub outside : (buffer byte : ℕ) → 4 * items ≤ byte → s.bytes (Global buffer byte) ≡ given buffer byte

  -- how many turns are left at most
  abbrev pub left : (ℕ → Standing) → (ℕ → Item) → ℕ
  left standing at = total (λ item. left_of (standing item) (at item).tasks) items

  -- A turn from such a state leads to such a state, with fewer turns left, and touches own elements alone.
  pub record Kept (s : State) (h : Holds s) (turn : Turn) : Type 0 where
    pub holds : Holds (after launch s turn)
    pub less : left (after launch s turn).standing holds.at < left s.standing h.at
    pub own : AllOwn (accesses_of launch s turn)

  -- what an item asks for in such a state
  pub asks_next : (s : State) (h : Holds s) (item : ℕ) → item < items → (a : Action) → ItemAsks launch item (s.answers item) a
      → NextOf arrays item buffers (h.at item) (own_words s.bytes item) (final item) a
  asks_next s h item below a asks =
      let held = h.each item below in
      let m = h.at item in
      let step = item_step arrays item in
      let next = next_of arrays item buffers m.tasks m.values (own_words s.bytes item) (final item) (λ b. own_words-word s.bytes item b h.small) held.makes in
      let there : asked step asks.steps m [] ≡ Act a = asks_there step held.steps (item_start k) m (s.answers item) held.leads asks.steps a asks.asked in
      let same : next.action ≡ a = asked_once step (length m.tasks) asks.steps m [] next.action a next.soon there in
      subst (NextOf arrays item buffers m (own_words s.bytes item) (final item)) same next.next

  -- an item that takes answers and goes on holds as before
  item_goes : (item : ℕ) (m : Item) (answers new : List ℕ) (standing standing' : Standing) (words words' : ℕ → ℕ)
      → ItemHolds item m answers standing words → (g : GoesOn arrays item buffers m new words' (final item))
      → Stands standing' g.to.tasks → ItemHolds item g.to (answers ++ new) standing' words'
  item_goes item m answers new standing standing' words words' held g stands = record {
    steps = held.steps + g.steps;
    leads = leads_on (item_step arrays item) held.steps g.steps (item_start k) m g.to answers new held.leads g.leads;
    few = let few = held.few in let fewer = g.fewer in omega arith;
    makes = g.makes;
    stands = stands;
  }

  -- an action keeps the state where it keeps the others' words and the bytes outside, and the item has fewer turns left
  kept_by : (s : State) (h : Holds s) (item : ℕ) → item < items → s.standing item ≡ Going → (a : Action)
      → (g : GoesOn arrays item buffers (h.at item) (answers_to s.bytes a) (own_words (bytes_after s.bytes a) item) (final item))
      → Stands (standing_after a) g.to.tasks → left_of (standing_after a) g.to.tasks < suc (length (h.at item).tasks)
      → ((j : ℕ) → j ≢ item → own_words (bytes_after s.bytes a) j ≡ own_words s.bytes j)
      → AreBytes (bytes_after s.bytes a)
      → ((buffer byte : ℕ) → 4 * items ≤ byte → bytes_after s.bytes a (Global buffer byte) ≡ s.bytes (Global buffer byte))
      → AllOwn (accesses_of launch s (Does item a))
      → Kept s h (Does item a)
  kept_by s h item below going a g stands less others small outside own = record {
    holds = record {
      at = put_at item g.to h.at;
      each = put_at_items (λ j m answers standing. ItemHolds j m answers standing (own_words (bytes_after s.bytes a) j)) items item
          g.to (s.answers item ++ answers_to s.bytes a) (standing_after a) h.at s.answers s.standing
          (item_goes item (h.at item) (s.answers item) (answers_to s.bytes a) (s.standing item) (standing_after a) (own_words s.bytes item)
          (own_words (bytes_after s.bytes a) item)
          (h.each item below) g stands)
          (λ j differ lower. subst (λ (w : ℕ → ℕ). ItemHolds j (h.at j) (s.answers j) (s.standing j) w) (sym (others j differ)) (h.each j lower));
      small = small;
      outside = λ buffer byte far. outside buffer byte far ∙ h.outside buffer byte far;
    };
    less = total_less (λ j. left_of (s.standing j) (h.at j).tasks)
        (λ j. left_of (put_at item (standing_after a) s.standing j) (put_at item g.to h.at j).tasks) items item below
        (let now : left_of (put_at item (standing_after a) s.standing item) (put_at item g.to h.at item).tasks ≡ left_of (standing_after a) g.to.tasks
        = ap₂ (λ (st : Standing) (m : Item). left_of st m.tasks) (put_at_same item (standing_after a) s.standing) (put_at_same item g.to h.at) in
        let before : left_of (s.standing item) (h.at item).tasks ≡ suc (length (h.at item).tasks) = ap (λ st. left_of st (h.at item).tasks) going in
        omega arith)
        (λ j differ. ap₂ (λ (st : Standing) (m : Item). left_of st m.tasks)
        (put_at_other item (standing_after a) s.standing j differ) (put_at_other item g.to h.at j differ));
    own = own;
  }

  -- what an item asks for in such a state keeps it
  pub kept_next : (s : State) (h : Holds s) (item : ℕ) → item < items → s.standing item ≡ Going → (a : Action)
      → NextOf arrays item buffers (h.at item) (own_words s.bytes item) (final item) a → Kept s h (Does item a)
  kept_next s h item below going a (Loads b known g some) =
      kept_by s h item below going (Load (Global b (4 * item)) Four) g tt (let fewer = g.fewer in omega arith) (λ j differ. refl) h.small (λ buffer byte far. refl)
      ((b, refl, refl), tt)
  kept_next s h item below going a (Stores b v known small g some) =
      let words : own_words (stored s.bytes item b v) item ≡ put_at b v (own_words s.bytes item) = own_words-own s.bytes item b v small in
      let moved = subst (λ (w : ℕ → ℕ). (g : GoesOn arrays item buffers (h.at item) (0 ∷ []) w (final item)) × (0 < g.steps)) (sym words) (g, some) in
      kept_by s h item below going (Store (Global b (4 * item)) Four v) moved.0 tt (let fewer = moved.0.fewer in let some = moved.1 in omega arith)
      (own_words-other s.bytes item b v) (stored-lt s.bytes item b v h.small)
      (λ buffer byte far. stored_out s.bytes item b v buffer byte (inr (omega arith)))
      ((b, refl, refl), tt)
  kept_next s h item below going a (Ends g none) =
      kept_by s h item below going End g none (omega arith) (λ j differ. refl) h.small (λ buffer byte far. refl) tt
