-- Each step on the word keeps the rule.
use Rattle.std.proofs.Common.{◌≡◌, ℕ, cond, leb, ⊎_elim, ◌+◌, ◌%◌, ◌^◌, ◌<◌, ◌≤◌, List, [], ◌∷◌, ◌++◌, length, get_or, set, sym, ap, refl, ◌∙◌, subst, All, arith, length-append}
use Rattle.std.specs.List.{concat, sum_by, range_with_len}
use Rattle.std.proofs.lemmas.List.Elements.{All-cons, All-nil, All-append}
use Rattle.std.proofs.lemmas.List.Folds.{concat-append}
use Rattle.std.proofs.lemmas.List.Sums.{sum_by-append}
use mathlib.Core.Option.{some, some-injective}
use lib.ListN.{get_elem?}
use Rattle.atomic_table.specs.Table.{State, Me, keeps, Allows, Splits, Joins, Final, Seen}
use Rattle.atomic_table.proofs.Lists.{at_set, at_snoc, set_else}
use Rattle.group_dispenser.specs.declared.rule.Share.{Share}
use Rattle.group_dispenser.specs.Tickets.{AreDrawn, AreBelow, past, first_of, rest_of}
use Rattle.group_dispenser.specs.Rule.{DispenserHolds, Draws, share, parts, total, weight, maker_left, newcomer, both, nothing}
use Rattle.group_dispenser.proofs.Totals.{total_set, total_snoc, total_le, alone}
use Rattle.group_dispenser.proofs.TicketLaws.{AreDrawn-wider, AreDrawn-nil, all_drawn, first_below, few_past, longer_weight, no_list, range_weight, range_past, AreBelow-range}

abbrev pub Drawers : Type 0
Drawers = State (Unit {0}) Share

-- the word is at most nine past the group count
pub next_few : (groups : ℕ) (s : Drawers) → (k : DispenserHolds groups s) → k.next ≤ groups + 9
next_few groups s k =
    let range = range_past groups 0 k.next in
    let counted : total (λ v. past groups (concat v.lists)) s.views ≡ past groups (range_with_len 0 k.next) = k.once (λ t. cond (leb groups t) 1 0) in
    let each : total (λ v. past groups (concat v.lists)) s.views ≤ total parts s.views =
    total_le (λ v. past groups (concat v.lists)) parts s.views (λ id v at. omega (arith, few_past groups k.next v.lists (k.each id v at))) in
    let nine = k.nine in
    omega arith

-- the view after a ticket is drawn
abbrev pub longer : ℕ → Share → Share
longer n v = share v.spare ((first_of v.lists ++ n ∷ []) ∷ rest_of v.lists)

longer_length : (xss : List (List ℕ)) → 0 < length xss → (n : ℕ) → length ((first_of xss ++ n ∷ []) ∷ rest_of xss) ≡ length xss
longer_length [] live n = absurd (omega arith)
longer_length (xs ∷ xss) live n = refl

wider : (groups n : ℕ) (xss : List (List ℕ)) → All (AreDrawn groups n) xss → All (AreDrawn groups (n + 1)) xss
wider groups n xss all k d within = AreDrawn-wider groups n (get_or xss k d) (all k d within)

draws_keeps : (groups id : ℕ) (s : Drawers) (v : Share) → past groups (first_of v.lists) ≡ 0 → 0 < length v.lists → (k : DispenserHolds groups s) → get_elem? s.views id ≡ some v
    → (ws : List ℕ) → ws ≡ (k.next + 1) ∷ [] → DispenserHolds groups record { words = ws; homes = s.homes; views = set s.views id (longer k.next v) }
draws_keeps groups id s v none live k at ws is =
    let n : ℕ = k.next in
    let w : Share = longer n v in
    record {
      next = n + 1;
      word = is;
      few = k.few;
      nine =
          let change = total_set parts s.views id v w at in
          let old = k.nine in
          let same : length w.lists ≡ length v.lists = longer_length v.lists live n in
          omega arith;
      once = λ h.
          let change = total_set (weight h) s.views id v w at in
          let old = k.once h in
          let more = longer_weight h n v.lists live in
          let range = range_weight h n in
          omega arith;
      each = λ j u there. ⊎_elim
          (λ same. subst (λ (x : Share). All (AreDrawn groups (n + 1)) x.lists) same.1 (all_drawn groups n v.lists live none (k.each id v at)))
          (λ other. wider groups n u.lists (k.each j u other.1))
          (at_set s.views id j w u there);
    }

pub draws : (groups slots id : ℕ) (me : Me (Unit {0}) Share) → past groups (first_of me.0.lists) ≡ 0 → 0 < length me.0.lists
    → Allows (DispenserHolds groups) slots id me 0 (λ n. (n + 1) % 2 ^ 64) (λ ticket after. Draws me.0 ticket after.0 × (after.1 ≡ me.1))
draws groups slots id me none live s k count at small =
    let v : Share = me.0 in
    let n : ℕ = k.next in
    let few = next_few groups s k in
    let groups_few = k.few in
    let found : get_or s.words 0 0 ≡ n = ap (λ (ws : List ℕ). get_or ws 0 0) k.word in
    let wrapped : (n + 1) % 18446744073709551616 ≡ n + 1 = omega arith in
    let word : set s.words 0 ((get_or s.words 0 0 + 1) % 18446744073709551616) ≡ (n + 1) ∷ [] =
    ap (λ (ws : List ℕ). set ws 0 ((get_or ws 0 0 + 1) % 18446744073709551616)) k.word ∙ ap (λ (x : ℕ). x ∷ []) wrapped in (
      longer n v,
      keeps,
      tt,
      draws_keeps groups id s v none live k at _ word,
      (subst (λ (x : ℕ). Draws v x (longer n v)) (sym found) (record { spare = refl; lists = refl; above = first_below groups n v.lists (k.each id v at) }), refl),
    )

pub makes : (groups id : ℕ) (v : Share) → 0 < v.spare → Splits (DispenserHolds groups) id v (maker_left v) newcomer
makes groups id v able s k at =
    let n : ℕ = k.next in
    let left : Share = maker_left v in
    record {
      next = n;
      word = k.word;
      few = k.few;
      nine =
          let change = total_set parts s.views id v left at in
          let snoc = total_snoc parts (set s.views id left) newcomer in
          let old = k.nine in
          omega arith;
      once = λ h.
          let change = total_set (weight h) s.views id v left at in
          let snoc = total_snoc (weight h) (set s.views id left) newcomer in
          let old = k.once h in
          omega arith;
      each = λ j u there. ⊎_elim
          (λ before. ⊎_elim
          (λ same. subst (λ (x : Share). All (AreDrawn groups n) x.lists) same.1 (k.each id v at))
          (λ other. k.each j u other.1)
          (at_set s.views id j left u before))
          (λ new. subst (λ (x : Share). All (AreDrawn groups n) x.lists) new (All-cons (AreDrawn groups n) [] [] (AreDrawn-nil groups n) (All-nil (AreDrawn groups n))))
          (at_snoc (set s.views id left) newcomer u j there);
    }

pub takes : (groups id : ℕ) (v : Share) (other : ℕ) (w : Share) → Joins (DispenserHolds groups) id v other w (both v w) nothing
takes groups id v other w s k at apart there =
    let n : ℕ = k.next in
    let b : Share = both v w in
    let was : get_elem? s.views other ≡ some w = sym (set_else s.views id other b apart) ∙ there in
    record {
      next = n;
      word = k.word;
      few = k.few;
      nine =
          let first = total_set parts s.views id v b at in
          let second = total_set parts (set s.views id b) other w nothing there in
          let old = k.nine in
          omega (arith, length-append v.lists w.lists);
      once = λ h.
          let first = total_set (weight h) s.views id v b at in
          let second = total_set (weight h) (set s.views id b) other w nothing there in
          let sums : weight h b ≡ weight h v + weight h w = ap (sum_by h) (concat-append v.lists w.lists) ∙ sum_by-append h (concat v.lists) (concat w.lists) in
          let old = k.once h in
          omega arith;
      each = λ j u now. ⊎_elim
          (λ same. subst (λ (x : Share). All (AreDrawn groups n) x.lists) same.1 (All-nil (AreDrawn groups n)))
          (λ before. ⊎_elim
          (λ same. subst (λ (x : Share). All (AreDrawn groups n) x.lists) same.1
          (All-append (AreDrawn groups n) v.lists w.lists (k.each id v at) (k.each other w was)))
          (λ else. k.each j u else.1)
          (at_set s.views id j b u before.1))
          (at_set (set s.views id b) other j nothing u now);
    }

-- who has all parts has all tickets
pub settles : (groups id : ℕ) (v : Share) (s : Drawers) → (k : DispenserHolds groups s) → get_elem? s.views id ≡ some v → parts v ≡ 9
    → (h : ℕ → ℕ) → sum_by h (concat v.lists) ≡ sum_by h (range_with_len 0 k.next)
settles groups id v s k at all h =
    sym (alone (weight h) (λ u none. no_list h u.lists (omega arith)) s.views id v at (k.nine ∙ sym all)) ∙ k.once h

-- what the last word is, where one has all parts
pub closes : (groups id : ℕ) (v : Share) (ws : List ℕ) (xs : List (Unit {0})) → Final (Seen (DispenserHolds groups) id v) ws xs → (r : ℕ) → get_elem? ws 0 ≡ some r → parts v ≡ 9
    → AreBelow r (concat v.lists) × (r ≤ groups + 9) × (r ≤ 65545)
closes groups id v ws xs f r there all =
    let s : Drawers = f.0 in
    let k : DispenserHolds groups s = f.1.0 in
    let n : ℕ = k.next in
    let same : n ≡ r = some-injective n r (ap (λ (zs : List ℕ). get_elem? zs 0) (sym k.word ∙ f.2) ∙ there) in
    let few = next_few groups s k in
    let groups_few = k.few in (
      subst (λ (x : ℕ). AreBelow x (concat v.lists)) same (AreBelow-range n (concat v.lists) (settles groups id v s k f.1.1 all)),
      omega arith,
      omega arith,
    )
