-- What the steps ask and tell, for ports.
use Rattle.std.proofs.Common.{refl, suc, All, ◌≡◌, ℕ, ◌^◌, ◌<◌, List, [], ◌∷◌, ◌++◌, length, map, get_or, ap, sym, ◌∙◌, subst, arith, bit_or}
use Rattle.std.specs.List.{range_with_len}
use Rattle.std.specs.Int.{trailing_zeros, w32}
use Rattle.std.proofs.lemmas.List.{append-nil, map_push}
use Rattle.std.proofs.lemmas.List.Sums.{fold_push}
use mathlib.Core.List.{IsPrefix}
use Rattle.atomic_table.specs.Table.{Allows, Splits}
use Rattle.memory_banks.specs.declared.entry.BusKind.{BusKind}
use Rattle.memory_banks.specs.declared.entry.BusEntry.{BusEntry}
use Rattle.memory_banks.specs.declared.rule.View.{View}
use Rattle.memory_banks.specs.declared.port.Port.{Port}
use Rattle.memory_banks.specs.declared.banks.Banks.{Banks}
use Rattle.memory_banks.specs.Entries.{answer_to, changed, entries_of, Adds}
use Rattle.memory_banks.specs.Rule.{Among, Kept, Makes, Looks, entry_by, both, giver, given, handed, held_of, keeper, least_of, note, one_of, teller, without}
use Rattle.memory_banks.specs.Ports.{AreRenewed, HasAll, IsOf, Steps, StandsAs, KeptIn, held, in_order, held_set, number, numbers, seen, opening_of, union}
use Rattle.memory_banks.proofs.Prefixes.{entries-append, entries-own, prefix_trans}
use Rattle.memory_banks.proofs.Sets.{among_below, without_below}
use Rattle.memory_banks.proofs.SetOrder.{least_below, some_in_order}
use Rattle.memory_banks.proofs.Steps.{steps}
use Rattle.memory_banks.proofs.Seats.{gives, hands_over, notes}

-- the port's own number is among its view's
pub own_among : (p : Port) → Among p.seat.me.0.numbers p.seat.me.0.number
own_among p = subst (λ (z : ℕ × ℕ). Among z.0 z.1) (λ i. (sym p.numbers_are i, sym p.number_is i)) p.own

pub few_numbers : (p : Port) → p.seat.me.0.numbers < 2 ^ 16
few_numbers p = subst (λ (n : ℕ). n < 2 ^ 16) (sym p.numbers_are) p.few

-- a port may make each kind of step on each word
pub may_step : (banks : Banks) (p : Port) (kind : BusKind) (i operand : ℕ) → IsOf banks p → i < length (opening_of banks) → operand < 2 ^ 32
    → (p.seat.table_id ≡ banks.table.shared.table_id) × (i < banks.table.shared.table_id.words)
    × Allows (Kept banks.table.shared.key) banks.table.shared.table_id.slots p.seat.id p.seat.me i (λ n. changed kind n operand)
    (λ found after. Makes p.seat.me.0 (entry_by p.seat.me.0 kind i operand (answer_to kind found)) after.0 × (after.1 ≡ p.seat.me.1) × (found < 2 ^ 32))
may_step banks p kind i operand of within fits = (
  of.table,
  omega (arith, banks.one_more),
  steps banks.table.shared.key banks.table.shared.table_id.slots p.seat.id p.seat.me kind i operand (own_among p) p.settled (few_numbers p) within fits,
)

-- the entry under the port's own number
abbrev pub entry_of : Port → BusKind → ℕ → ℕ → ℕ → BusEntry
entry_of p kind i operand answer = record { port = number p; kind = kind; word = i; operand = operand; answer = answer }

-- the entries of the port itself after a step
longer_list : (opening : List ℕ) (before : List BusEntry) (e : BusEntry) (now : List BusEntry) → Adds opening before e now → entries_of e.port now ≡ entries_of e.port before ++ e ∷ []
longer_list opening before e now adds =
    ap (entries_of e.port) adds.all
    ∙ (entries-own (before ++ adds.between) e
    ∙ ap (λ (es : List BusEntry). es ++ e ∷ [])
    (entries-append e.port before adds.between ∙ (ap (λ (es : List BusEntry). entries_of e.port before ++ es) adds.none_own ∙ append-nil (entries_of e.port before))))

-- what a step tells a port
pub stepped : (banks : Banks) (p q : Port) (kind : BusKind) (i operand answer : ℕ) → IsOf banks p → q.number ≡ p.number → q.numbers ≡ p.numbers
    → q.seat.table_id ≡ p.seat.table_id → Makes p.seat.me.0 (entry_by p.seat.me.0 kind i operand answer) q.seat.me.0
    → Steps banks p (entry_of p kind i operand answer) q
stepped banks p q kind i operand answer of same_number same_numbers same_table makes =
    let e : BusEntry = entry_of p kind i operand answer in
    let adds' : Adds p.seat.me.0.opening (seen p) e (seen q) =
    subst (λ (n : ℕ). Adds p.seat.me.0.opening (seen p) (record { port = n; kind = kind; word = i; operand = operand; answer = answer }) (seen q)) p.number_is makes.adds in
    let adds : Adds (opening_of banks) (seen p) e (seen q) = subst (λ (ws : List ℕ). Adds ws (seen p) e (seen q)) of.opening_is adds' in
    record {
      of = record { table = same_table ∙ of.table; opening_is = ap (λ (v : View). v.opening) makes.rest ∙ of.opening_is };
      number_is = same_number;
      numbers_are = same_numbers;
      adds = adds;
      list = ap (λ (n : ℕ). entries_of n (seen q)) same_number ∙ longer_list (opening_of banks) (seen p) e (seen q) adds;
    }

-- a view that only saw more
pub makes_number : (v w : View) (e : BusEntry) → Makes v e w → w.number ≡ v.number
makes_number v w e makes = ap (λ (u : View). u.number) makes.rest

pub makes_numbers : (v w : View) (e : BusEntry) → Makes v e w → w.numbers ≡ v.numbers
makes_numbers v w e makes = ap (λ (u : View). u.numbers) makes.rest

pub makes_settled : (v w : View) (e : BusEntry) → Makes v e w → w.told_numbers ≡ v.told_numbers
makes_settled v w e makes = ap (λ (u : View). u.told_numbers) makes.rest

pub number_below : (p : Port) → p.number < 16
number_below p = among_below p.numbers p.number p.few p.own

-- the view's sets are the port's
held_is : (p : Port) → held_of p.seat.me.0 ≡ held_set p
held_is p i = without (p.numbers_are i) (p.number_is i)

module _ (p : Port) (longer : 0 < length (held p)) where
  pub more : 0 < held_set p
  more = some_in_order (held_set p) longer

  abbrev pub least_held : ℕ
  least_held = trailing_zeros w32 (held_set p)

  pub least_is : least_of p.seat.me.0 ≡ least_held
  least_is = ap (λ (n : ℕ). trailing_zeros w32 n) (held_is p)

  pub least_held_below : least_held < 16
  least_held_below = least_below p.numbers p.number p.few p.own more

  pub left_is : without p.seat.me.0.numbers (least_of p.seat.me.0) ≡ without p.numbers least_held
  left_is i = without (p.numbers_are i) (least_is i)

  pub one_given : one_of (least_of p.seat.me.0) ≡ one_of least_held
  one_given = ap one_of least_is

  pub may_give : (banks : Banks) → IsOf banks p
      → (p.seat.table_id ≡ banks.table.shared.table_id) × (0 < banks.table.shared.table_id.words) × Splits (Kept banks.table.shared.key) p.seat.id p.seat.me.0 (giver p.seat.me.0) (given p.seat.me.0)
  may_give banks of = (
    of.table,
    omega (arith, banks.one_more),
    gives banks.table.shared.key p.seat.id p.seat.me.0 (few_numbers p)
        (subst (λ (n : ℕ). 0 < n) (sym (held_is p)) more)
        (subst (λ (n : ℕ). n < 2 ^ 16) (sym (held_is p)) (without_below p.numbers p.number p.few)),
  )

pub may_hand_over : (banks : Banks) (p : Port) → IsOf banks p
    → (p.seat.table_id ≡ banks.table.shared.table_id) × (0 < banks.table.shared.table_id.words) × Splits (Kept banks.table.shared.key) p.seat.id p.seat.me.0 (keeper p.seat.me.0) (handed p.seat.me.0)
may_hand_over banks p of = (of.table, omega (arith, banks.one_more), hands_over banks.table.shared.key p.seat.id p.seat.me.0 (few_numbers p) (own_among p))

pub may_note : (banks : Banks) (p : Port) → IsOf banks p
    → (p.seat.table_id ≡ banks.table.shared.table_id) × (0 < banks.table.shared.table_id.words) × Splits (Kept banks.table.shared.key) p.seat.id p.seat.me.0 (teller p.seat.me.0) (note p.seat.me.0)
may_note banks p of = (of.table, omega (arith, banks.one_more), notes banks.table.shared.key p.seat.id p.seat.me.0)

-- what a look after a join tells
pub looked : (v w x y : View) → x ≡ both v w → Looks x y → Looks (both v w) y
looked v w x y same looks = subst (λ (u : View). Looks u y) same looks

-- what was kept through two steps
pub KeptIn-trans : (set : ℕ) (p q r : Port) → KeptIn set p q → KeptIn (numbers q) q r → KeptIn set p r
KeptIn-trans set p q r first second = record {
  has = λ k among. second.has k (first.has k among);
  begins = prefix_trans (seen p) (seen q) (seen r) first.begins second.begins;
  lists = λ k among. second.lists k (first.has k among) ∙ first.lists k among;
}

-- one set more
pub union-push : {A : Type 0} (f : A → ℕ) (set : ℕ) (xs : List A) (x : A) (sum : ℕ) → sum ≡ union set (map f xs) → bit_or sum (f x) ≡ union set (map f (xs ++ x ∷ []))
union-push f set xs x sum is =
    ap (λ (n : ℕ). bit_or n (f x)) is ∙ sym (ap (union set) (map_push f xs x) ∙ fold_push bit_or set (map f xs) (f x))

-- what was kept in a port that then stays
pub KeptIn-same : (set : ℕ) (p q r : Port) → KeptIn set p q → seen r ≡ seen q → numbers r ≡ numbers q → KeptIn set p r
KeptIn-same set p q r kept same same' = record {
  has = λ k among. subst (λ (n : ℕ). Among n k) (sym same') (kept.has k among);
  begins = subst (λ (es : List BusEntry). IsPrefix (seen p) es) (sym same) kept.begins;
  lists = λ k among. ap (entries_of k) same ∙ kept.lists k among;
}

-- renewed ports that then stand
pub AreRenewed-stand : (banks : Banks) (ps qs rs : List Port) → AreRenewed banks ps qs → length rs ≡ length qs
    → ((k : ℕ) (d : Port) → k < length qs → StandsAs banks (get_or qs k d) (get_or rs k d)) → AreRenewed banks ps rs
AreRenewed-stand banks ps qs rs renewed same stand = record {
  count = same ∙ renewed.count;
  each = λ k d within.
      let n = renewed.count in
      let first = renewed.each k d within in
      let then = stand k d (omega arith) in
      record {
        of = then.of;
        number_is = then.number_is ∙ first.number_is;
        alone = then.numbers_are ∙ (first.alone ∙ ap one_of (sym then.number_is));
        holds_none = (λ i. in_order (without (then.numbers_are i) (then.number_is i))) ∙ first.holds_none;
        list = then.list ∙ first.list;
      };
}

-- renewed ports are of the banks
pub AreRenewed-of : (banks : Banks) (ps qs : List Port) → AreRenewed banks ps qs → All (λ q. IsOf banks q) qs
AreRenewed-of banks ps qs renewed k d within = let n = renewed.count in (renewed.each k d (omega arith)).of

-- and have the same numbers
pub AreRenewed-numbers : (banks : Banks) (ps qs : List Port) → AreRenewed banks ps qs → map number qs ≡ map number ps
AreRenewed-numbers banks [] [] renewed = refl
AreRenewed-numbers banks [] (q ∷ qs) renewed = let n = renewed.count in absurd (omega arith)
AreRenewed-numbers banks (p ∷ ps) [] renewed = let n = renewed.count in absurd (omega arith)
AreRenewed-numbers banks (p ∷ ps) (q ∷ qs) renewed =
    let n = renewed.count in
    let rest = AreRenewed-numbers banks ps qs (record { count = omega arith; each = λ k d within. renewed.each (suc k) d (omega arith) }) in
    λ i. (renewed.each 0 q (omega arith)).number_is i ∷ rest i

-- the first port holds the numbers from 1 to 15
pub first_held : in_order (without 65535 0) ≡ range_with_len 1 15
unfolding in_order
first_held = refl

pub HasAll-held : (p : Port) → HasAll p → held p ≡ range_with_len 1 15
HasAll-held p all = (λ i. in_order (without (all.others i) (all.first i))) ∙ first_held
