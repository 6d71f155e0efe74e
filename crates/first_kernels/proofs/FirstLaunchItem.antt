-- What one work-item of a kernel of assignments asks for, from its own words on to those that it leaves.
use Rattle.std.proofs.Common.{◌≡◌, ℕ, suc, ◌+◌, ◌*◌, ◌%◌, ◌^◌, ◌<◌, List, [], ◌∷◌, length, refl, ap, sym, subst, ◌∙◌, arith}
use Rattle.std.proofs.Math.Nat.{mod-eq_of_lt}
use Rattle.std.specs.List.{AllByRecursion}
use Rattle.vx_base.specs.declared.types.Size.TheVariants.{Four}
use Rattle.item_acts.specs.declared.acts.Place.TheVariants.{Global}
use Rattle.item_acts.specs.declared.acts.Action.{Action}
use Rattle.item_acts.specs.declared.acts.Action.TheVariants.{Load, Store, End}
use Rattle.item_acts.specs.declared.acts.Asked.TheVariants.{Act}
use Rattle.item_acts.specs.Machine.{Go, asked_behind, asked}
use Rattle.item_acts.specs.Launches.{put_at}
use Rattle.item_acts.proofs.Machine.{Leads, leads_none, leads_go, leads_answer}
use Rattle.item_acts.proofs.Launches.{put_at_each}
use Rattle.first_kernels.specs.declared.tree.Operator.{Operator}
use Rattle.first_kernels.specs.FirstTree.{Tree, Literal, OwnId, OwnElement, Grouped, Applied, Assigns}
use Rattle.first_kernels.specs.First.{alu_of, Task, TakeNumber, TakeId, LoadFrom, Operate, StoreTo, evaluation, body_tasks, operated, Item, item_step}
use Rattle.vx_base.proofs.ValueLaws.{alu_value_of-lt}
use Rattle.first_kernels.specs.FirstValues.{value_of, words_after, IsSumOf, IsAssignmentOf}

-- an operator on words gives a word
pub operated-word : (op : Operator) (a b : ℕ) → a < 2 ^ 32 → b < 2 ^ 32 → operated op a b < 2 ^ 32
operated-word op a b small small' = alu_value_of-lt (alu_of op) a b small small'

module _ (arrays : ℕ → ℕ) (item buffers : ℕ) where
  -- From these tasks and values, over these words of the item's own elements, the item comes to its end with the final
  -- words: each index is its own, each buffer is one of the launch, and each stored value is a word.
  abbrev pub Makes : List Task → List ℕ → (ℕ → ℕ) → (ℕ → ℕ) → Type 0
  Makes [] vs words final = words ≡ final
  Makes (TakeNumber n ∷ ts) vs words final = Makes ts (n ∷ vs) words final
  Makes (TakeId ∷ ts) vs words final = Makes ts (item ∷ vs) words final
  Makes (LoadFrom p ∷ ts) [] words final = ⊥
  Makes (LoadFrom p ∷ ts) (i ∷ vs) words final = (i ≡ item) × (arrays p < buffers) × Makes ts (words (arrays p) ∷ vs) words final
  Makes (Operate op ∷ ts) [] words final = ⊥
  Makes (Operate op ∷ ts) (b ∷ []) words final = ⊥
  Makes (Operate op ∷ ts) (b ∷ a ∷ vs) words final = Makes ts (operated op a b ∷ vs) words final
  Makes (StoreTo p ∷ ts) [] words final = ⊥
  Makes (StoreTo p ∷ ts) (v ∷ []) words final = ⊥
  Makes (StoreTo p ∷ ts) (v ∷ i ∷ vs) words final =
      (i ≡ item) × (arrays p < buffers) × (v < 2 ^ 32) × Makes ts vs (put_at (arrays p) v words) final

  -- The item takes these answers, task by task, and goes on from another state over these words.
  pub record GoesOn (m : Item) (answers : List ℕ) (words final : ℕ → ℕ) : Type 0 where
    pub steps : ℕ
    pub to : Item
    pub leads : Leads (item_step arrays item) steps m answers to
    pub makes : Makes to.tasks to.values words final
    pub fewer : steps + length to.tasks ≡ length m.tasks

  -- What the item asks for: the word of its own element in a buffer, to put a word there, or its end.
  pub data NextOf (m : Item) (words final : ℕ → ℕ) : Action → Type 0 where
    Loads : (b : ℕ) → b < buffers → (g : GoesOn m (words b ∷ []) words final) → 0 < g.steps
        → NextOf m words final (Load (Global b (4 * item)) Four)
    Stores : (b v : ℕ) → b < buffers → v < 2 ^ 32 → (g : GoesOn m (0 ∷ []) (put_at b v words) final) → 0 < g.steps
        → NextOf m words final (Store (Global b (4 * item)) Four v)
    Ends : (g : GoesOn m [] words final) → g.to.tasks ≡ [] → NextOf m words final End

  -- the action that the item asks for within a step for each task
  pub record Next (m : Item) (words final : ℕ → ℕ) : Type 0 where
    pub action : Action
    pub soon : asked (item_step arrays item) (length m.tasks) m [] ≡ Act action
    pub next : NextOf m words final action

  -- an inner step leads where the state behind it leads
  abbrev pub goes_on_go : (m m' : Item) (answers : List ℕ) (words final : ℕ → ℕ) → item_step arrays item m ≡ Go m'
      → suc (length m'.tasks) ≡ length m.tasks
      → GoesOn m' answers words final → GoesOn m answers words final
  goes_on_go m m' answers words final e shorter g = record {
    steps = suc g.steps;
    to = g.to;
    leads = leads_go (item_step arrays item) g.steps m m' g.to answers e g.leads;
    makes = g.makes;
    fewer = let fewer = g.fewer in omega arith;
  }

  -- and asks for what that state asks for
  next_of_go : (m m' : Item) (words final : ℕ → ℕ) → item_step arrays item m ≡ Go m' → suc (length m'.tasks) ≡ length m.tasks
      → (a : Action) → NextOf m' words final a → NextOf m words final a
  next_of_go m m' words final e shorter a (Loads b known g some) =
      Loads b known (goes_on_go m m' (words b ∷ []) words final e shorter g) (omega arith)
  next_of_go m m' words final e shorter a (Stores b v known small g some) =
      Stores b v known small (goes_on_go m m' (0 ∷ []) (put_at b v words) final e shorter g) (omega arith)
  next_of_go m m' words final e shorter a (Ends g none) = Ends (goes_on_go m m' [] words final e shorter g) none

  -- the same with the whole of what is asked for
  next_go : (t : Task) (ts : List Task) (vs vs' : List ℕ) (words final : ℕ → ℕ)
      → item_step arrays item (record { tasks = t ∷ ts; values = vs }) ≡ Go (record { tasks = ts; values = vs' })
      → Next (record { tasks = ts; values = vs' }) words final → Next (record { tasks = t ∷ ts; values = vs }) words final
  next_go t ts vs vs' words final e n = record {
    action = n.action;
    soon = ap (λ x. asked_behind (asked (item_step arrays item) (length ts)) x []) e ∙ n.soon;
    next = next_of_go (record { tasks = t ∷ ts; values = vs }) (record { tasks = ts; values = vs' }) words final e refl n.action n.next;
  }

  -- a task that loads asks for the word of the item's own element
  next_load : (p : ℕ) (ts : List Task) (i : ℕ) (vs : List ℕ) (words final : ℕ → ℕ) → ((b : ℕ) → words b < 2 ^ 32) → i ≡ item
      → arrays p < buffers
      → Makes ts (words (arrays p) ∷ vs) words final → Next (record { tasks = LoadFrom p ∷ ts; values = i ∷ vs }) words final
  next_load p ts i vs words final small own known h =
      let b = arrays p in
      let to : Item = record { tasks = ts; values = words b % 2 ^ 32 ∷ vs } in
      let whole : words b % 2 ^ 32 ≡ words b = mod-eq_of_lt (small b) in
      record {
        action = Load (Global b (4 * item)) Four;
        soon = ap (λ (j : ℕ). Act (Load (Global b (4 * j)) Four)) own;
        next = Loads b known (record {
          steps = 1;
          to = to;
          leads = leads_answer (item_step arrays item) 0 (record { tasks = LoadFrom p ∷ ts; values = i ∷ vs }) to (Load (Global b (4 * i)) Four)
              (λ v. record { tasks = ts; values = v % 2 ^ 32 ∷ vs }) (words b) [] refl (leads_none (item_step arrays item) to);
          makes = subst (λ (x : ℕ). Makes ts (x ∷ vs) words final) (sym whole) h;
          fewer = omega arith;
        }) (omega arith);
      }

  -- a task that stores asks to put its word there
  next_store : (p : ℕ) (ts : List Task) (v i : ℕ) (vs : List ℕ) (words final : ℕ → ℕ) → i ≡ item → arrays p < buffers → v < 2 ^ 32
      → Makes ts vs (put_at (arrays p) v words) final → Next (record { tasks = StoreTo p ∷ ts; values = v ∷ i ∷ vs }) words final
  next_store p ts v i vs words final own known small h =
      let b = arrays p in
      let to : Item = record { tasks = ts; values = vs } in
      record {
        action = Store (Global b (4 * item)) Four v;
        soon = ap (λ (j : ℕ). Act (Store (Global b (4 * j)) Four v)) own;
        next = Stores b v known small (record {
          steps = 1;
          to = to;
          leads = leads_answer (item_step arrays item) 0 (record { tasks = StoreTo p ∷ ts; values = v ∷ i ∷ vs }) to (Store (Global b (4 * i)) Four v)
              (λ _. to) 0 [] refl (leads_none (item_step arrays item) to);
          makes = h;
          fewer = omega arith;
        }) (omega arith);
      }

  -- what the item asks for, by its tasks
  pub next_of : (ts : List Task) (vs : List ℕ) (words final : ℕ → ℕ) → ((b : ℕ) → words b < 2 ^ 32) → Makes ts vs words final
      → Next (record { tasks = ts; values = vs }) words final
  next_of [] vs words final small h = record {
    action = End;
    soon = refl;
    next = Ends (record {
      steps = 0;
      to = record { tasks = []; values = vs };
      leads = leads_none (item_step arrays item) (record { tasks = []; values = vs });
      makes = h;
      fewer = refl;
    }) refl;
  }
  next_of (TakeNumber n ∷ ts) vs words final small h =
      next_go (TakeNumber n) ts vs (n ∷ vs) words final refl (next_of ts (n ∷ vs) words final small h)
  next_of (TakeId ∷ ts) vs words final small h = next_go TakeId ts vs (item ∷ vs) words final refl (next_of ts (item ∷ vs) words final small h)
  next_of (LoadFrom p ∷ ts) [] words final small h = absurd h
  next_of (LoadFrom p ∷ ts) (i ∷ vs) words final small h = next_load p ts i vs words final small h.0 h.1 h.2
  next_of (Operate op ∷ ts) [] words final small h = absurd h
  next_of (Operate op ∷ ts) (b ∷ []) words final small h = absurd h
  next_of (Operate op ∷ ts) (b ∷ a ∷ vs) words final small h =
      next_go (Operate op) ts (b ∷ a ∷ vs) (operated op a b ∷ vs) words final refl (next_of ts (operated op a b ∷ vs) words final small h)
  next_of (StoreTo p ∷ ts) [] words final small h = absurd h
  next_of (StoreTo p ∷ ts) (v ∷ []) words final small h = absurd h
  next_of (StoreTo p ∷ ts) (v ∷ i ∷ vs) words final small h = next_store p ts v i vs words final h.0 h.1 h.2 h.3

  -- a sum is worked out, and what follows has its value
  makes_sum : (parameters : ℕ) → ((p : ℕ) → p < parameters → arrays p < buffers) → (t : Tree) → IsSumOf parameters t
      → (rest : List Task) (vs : List ℕ) (words final : ℕ → ℕ)
      → Makes rest (value_of (λ p. words (arrays p)) item t ∷ vs) words final → Makes (evaluation t rest) vs words final
  makes_sum parameters known (Literal n) sum rest vs words final h = h
  makes_sum parameters known OwnId sum rest vs words final h = h
  makes_sum parameters known (OwnElement p) sum rest vs words final h = (refl, known p sum, h)
  makes_sum parameters known (Grouped t) sum rest vs words final h = makes_sum parameters known t sum rest vs words final h
  makes_sum parameters known (Applied op l r) sum rest vs words final h =
      makes_sum parameters known l sum.0 (evaluation r (Operate op ∷ rest)) vs words final
      (makes_sum parameters known r sum.1 (Operate op ∷ rest) (value_of (λ p. words (arrays p)) item l ∷ vs) words final h)

  -- the value of a sum is a word
  value-word : (parameters : ℕ) (own : ℕ → ℕ) → ((p : ℕ) → own p < 2 ^ 32) → item < 2 ^ 32 → (t : Tree) → IsSumOf parameters t
      → value_of own item t < 2 ^ 32
  value-word parameters own small few (Literal n) sum = omega (arith, sum)
  value-word parameters own small few OwnId sum = few
  value-word parameters own small few (OwnElement p) sum = small p
  value-word parameters own small few (Grouped t) sum = value-word parameters own small few t sum
  value-word parameters own small few (Applied op l r) sum =
      operated-word op (value_of own item l) (value_of own item r) (value-word parameters own small few l sum.0) (value-word parameters own small few r sum.1)

  -- the assignments lead from any words to the words after them
  pub makes_body : (parameters : ℕ) → ((p : ℕ) → p < parameters → arrays p < buffers) → item < 2 ^ 32
      → (assignments : List Assigns) → AllByRecursion (IsAssignmentOf parameters) assignments → (words : ℕ → ℕ)
      → ((b : ℕ) → words b < 2 ^ 32)
      → Makes (body_tasks assignments) [] words (words_after arrays item assignments words)
  makes_body parameters known few [] all words small = refl
  makes_body parameters known few (a ∷ more) all words small =
      let value = value_of (λ p. words (arrays p)) item a.value in
      let word : value < 2 ^ 32 = value-word parameters (λ p. words (arrays p)) (λ p. small (arrays p)) few a.value all.0.1 in
      let later = put_at (arrays a.parameter) value words in
      makes_sum parameters known a.value all.0.1 (StoreTo a.parameter ∷ body_tasks more) (item ∷ []) words (words_after arrays item more later) (
        refl,
        known a.parameter all.0.0,
        word,
        makes_body parameters known few more all.1 later (put_at_each (λ x. x < 2 ^ 32) (arrays a.parameter) value words word small),
      )
