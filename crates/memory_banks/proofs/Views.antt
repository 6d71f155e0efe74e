-- What one view knows of a history, and that no number stands in two views.
use Rattle.std.proofs.Common.{◌≡◌, ℕ, zero, suc, ◌<◌, ◌⊎◌, ⊎_elim, inl, inr, List, [], ◌∷◌, ◌++◌, length, set, refl, sym, ◌∙◌, subst, arith}
use mathlib.Core.List.{IsPrefix}
use mathlib.Core.Option.{some, some-injective, some-ne-none}
use lib.ListN.{get_elem?}
use Rattle.atomic_table.proofs.Lists.{at_set}
use Rattle.memory_banks.specs.declared.entry.BusEntry.{BusEntry}
use Rattle.memory_banks.specs.declared.rule.View.{View}
use Rattle.memory_banks.specs.Rule.{Among, Knows, Has, Fits}
use Rattle.memory_banks.proofs.Prefixes.{prefix_self, prefix_longer, entries-other}
use Rattle.memory_banks.proofs.Sets.{none_among}

-- one entry more of a port that the view does not stand for
pub Knows-longer : (log : List BusEntry) (numbers : ℕ) (seen : List BusEntry) (e : BusEntry) → ¬ (Among numbers e.port) → Knows log numbers seen → Knows (log ++ e ∷ []) numbers seen
Knows-longer log numbers seen e foreign knows = record {
  begins = prefix_longer seen log (e ∷ []) knows.begins;
  whole = λ k among. knows.whole k among ∙ sym (entries-other k log e (λ same. foreign (subst (Among numbers) (sym same) among)));
}

pub Knows-all : (log : List BusEntry) (numbers : ℕ) → Knows log numbers log
Knows-all log numbers = record { begins = prefix_self log; whole = λ k among. refl }

-- of no number
pub Knows-none : (log seen : List BusEntry) → IsPrefix seen log → Knows log 0 seen
Knows-none log seen begins = record { begins = begins; whole = λ k among. absurd (none_among k among) }

pub Knows-nothing : (log : List BusEntry) → Knows log 0 []
Knows-nothing log = Knows-none log [] (log, refl)

-- of fewer numbers
pub Knows-fewer : (log : List BusEntry) (numbers fewer : ℕ) (seen : List BusEntry) → ((k : ℕ) → Among fewer k → Among numbers k) → Knows log numbers seen → Knows log fewer seen
Knows-fewer log numbers fewer seen within knows = record { begins = knows.begins; whole = λ k among. knows.whole k (within k among) }

pub Fits-longer : (opening : List ℕ) (log : List BusEntry) (v : View) (e : BusEntry) → ¬ (Has v e.port) → Fits opening log v → Fits opening (log ++ e ∷ []) v
Fits-longer opening log v e foreign fits = record {
  own = Knows-longer log v.numbers v.seen e (λ among. foreign (inl among)) fits.own;
  told = Knows-longer log v.told_numbers v.told e (λ among. foreign (inr among)) fits.told;
  opening_is = fits.opening_is;
}

abbrev pub Apart : List View → Type 0
Apart vs = (id other : ℕ) (v w : View) (k : ℕ) → get_elem? vs id ≡ some v → get_elem? vs other ≡ some w → Has v k → Has w k → id ≡ other

-- where the number stands after one view changed into another of no more numbers
came_from : (vs : List View) (id : ℕ) (v w : View) → get_elem? vs id ≡ some v → ((k : ℕ) → Has w k → Has v k)
    → (j : ℕ) (u : View) (k : ℕ) → get_elem? (set vs id w) j ≡ some u → Has u k → (x : View) × (get_elem? vs j ≡ some x) × Has x k
came_from vs id v w at fewer j u k there has = ⊎_elim
    (λ same. (v, subst (λ (i : ℕ). get_elem? vs i ≡ some v) (sym same.0) at, fewer k (subst (λ (x : View). Has x k) (sym same.1) has)))
    (λ other. (u, other.1, has))
    (at_set vs id j w u there)

pub apart_set : (vs : List View) (id : ℕ) (v w : View) → get_elem? vs id ≡ some v → ((k : ℕ) → Has w k → Has v k) → Apart vs → Apart (set vs id w)
apart_set vs id v w at fewer apart i j x y k there there' has has' =
    let a = came_from vs id v w at fewer i x k there has in
    let b = came_from vs id v w at fewer j y k there' has' in
    apart i j a.0 b.0 k a.1 b.1 a.2 b.2

-- an element of a list with one more
pub at_end : {A : Type 0} (l : List A) (a b : A) (j : ℕ) → get_elem? (l ++ a ∷ []) j ≡ some b → ((j < length l) × (get_elem? l j ≡ some b)) ⊎ ((j ≡ length l) × (a ≡ b))
at_end [] a b zero e = inr (refl, some-injective a b e)
at_end [] a b (suc j) e = absurd (some-ne-none b (sym e))
at_end (x ∷ xs) a b zero e = inl (omega arith, e)
at_end (x ∷ xs) a b (suc j) e = ⊎_elim (λ t. let n = t.0 in inl (omega arith, t.1)) (λ t. let n = t.0 in inr (omega arith, t.1)) (at_end xs a b j e)

pub at_within : {A : Type 0} (l : List A) (j : ℕ) (a : A) → get_elem? l j ≡ some a → j < length l
at_within [] j a e = absurd (some-ne-none a (sym e))
at_within (x ∷ xs) zero a e = omega arith
at_within (x ∷ xs) (suc j) a e = let n = at_within xs j a e in omega arith

module _ (vs : List View) (id : ℕ) (v left right : View) (at : get_elem? vs id ≡ some v) (lefts : (k : ℕ) → Has left k → Has v k) (rights : (k : ℕ) → Has right k → Has v k) (parts : (k : ℕ) → Has left k → Has right k → ⊥) (apart : Apart vs) where
  -- an old view beside the new one
  beside : (j : ℕ) (u : View) (k : ℕ) → get_elem? (set vs id left) j ≡ some u → Has u k → Has right k → ⊥
  beside j u k there has new = ⊎_elim
      (λ same. parts k (subst (λ (x : View). Has x k) (sym same.1) has) new)
      (λ other. other.0 (apart j id u v k other.1 at has (rights k new)))
      (at_set vs id j left u there)

  -- a view is cut in two
  pub apart_split : Apart (set vs id left ++ right ∷ [])
  apart_split i j x y k there there' has has' = ⊎_elim
      (λ old. ⊎_elim
      (λ old'. apart_set vs id v left at lefts apart i j x y k old.1 old'.1 has has')
      (λ new'. absurd (beside i x k old.1 has (subst (λ (z : View). Has z k) (sym new'.1) has')))
      (at_end (set vs id left) right y j there'))
      (λ new. ⊎_elim
      (λ old'. absurd (beside j y k old'.1 has' (subst (λ (z : View). Has z k) (sym new.1) has)))
      (λ new'. new.0 ∙ sym new'.0)
      (at_end (set vs id left) right y j there'))
      (at_end (set vs id left) right x i there)

module _ (vs : List View) (id : ℕ) (v : View) (other : ℕ) (w both spent : View) (at : get_elem? vs id ≡ some v) (at' : get_elem? vs other ≡ some w) (sums : (k : ℕ) → Has both k → Has v k ⊎ Has w k) (empty : (k : ℕ) → Has spent k → ⊥) (apart : Apart vs) where
  -- who has the number now had it before, or the joined view has it
  came : (j : ℕ) (u : View) (k : ℕ) → get_elem? (set (set vs id both) other spent) j ≡ some u → Has u k
      → ((j ≡ id) × (Has v k ⊎ Has w k)) ⊎ ((¬ (j ≡ other)) × ((¬ (j ≡ id)) × ((get_elem? vs j ≡ some u) × Has u k)))
  came j u k there has = ⊎_elim
      (λ same. absurd (empty k (subst (λ (x : View). Has x k) (sym same.1) has)))
      (λ old. ⊎_elim
      (λ same. inl (same.0, sums k (subst (λ (x : View). Has x k) (sym same.1) has)))
      (λ elsewhere. inr (old.0, (elsewhere.0, (elsewhere.1, has))))
      (at_set vs id j both u old.1))
      (at_set (set vs id both) other j spent u there)

  -- an untouched view shares no number with the joined one
  clear : (j : ℕ) (u : View) (k : ℕ) → ¬ (j ≡ other) → ¬ (j ≡ id) → get_elem? vs j ≡ some u → Has u k → Has v k ⊎ Has w k → ⊥
  clear j u k far far' there has joined = ⊎_elim (λ in_v. far' (apart j id u v k there at has in_v)) (λ in_w. far (apart j other u w k there at' has in_w)) joined

  -- two views are made one
  pub apart_join : Apart (set (set vs id both) other spent)
  apart_join i j x y k there there' has has' = ⊎_elim
      (λ joined. ⊎_elim
      (λ joined'. joined.0 ∙ sym joined'.0)
      (λ old'. absurd (clear j y k old'.0 old'.1.0 old'.1.1.0 old'.1.1.1 joined.1))
      (came j y k there' has'))
      (λ old. ⊎_elim
      (λ joined'. absurd (clear i x k old.0 old.1.0 old.1.1.0 old.1.1.1 joined'.1))
      (λ old'. apart i j x y k old.1.1.0 old'.1.1.0 old.1.1.1 old'.1.1.1)
      (came j y k there' has'))
      (came i x k there has)
