-- The one history, once all ports are gathered: its entries are those of the cores, and those of each core are its port's.
use Rattle.std.proofs.Common.{◌≡◌, ℕ, zero, suc, ◌<◌, ◌⊎◌, Bool, cond, true, false, eqb, inl, inr, List, [], ◌∷◌, length, ap, refl, sym, subst, ◌∙◌, All, arith, eq-eqb, bit_or, slice_index_or}
use Rattle.memory_banks.specs.Entries.{entries_of}
use Rattle.memory_banks.specs.Ports.{union}
use Rattle.memory_banks.specs.Rule.{Among}
use Rattle.memory_banks.specs.declared.entry.BusEntry.{BusEntry}
use Rattle.memory_banks.proofs.Sets.{either_among}

-- a number of a union is in one of the sets
pub among_union : (k set : ℕ) (sets : List ℕ) → Among (union set sets) k → Among set k ⊎ ((j : ℕ) × (j < length sets) × Among (slice_index_or sets j 0) k)
among_union k set [] is = inl is
among_union k set (s ∷ sets) is =
    elim (among_union k (bit_or set s) sets is) [
      | inl here ↦ elim (either_among set s k here) [
        | inl first ↦ inl first
        | inr head ↦ inr (0, omega arith, head)
      ]
      | inr behind ↦ inr (suc behind.0, omega (arith, behind.1), behind.2)
    ]

-- what stands in a history is one of the entries of its port
entry_counts : (e : BusEntry) (es : List BusEntry) → entries_of e.port (e ∷ es) ≡ e ∷ entries_of e.port es
entry_counts e es = ap (λ (b : Bool). cond b (e ∷ entries_of e.port es) (entries_of e.port es)) (eq-eqb e.port e.port refl)

is_front : {A : Type 0} (x : A) (xs : List A) → x ∷ xs ≡ [] → ⊥
is_front x xs is = let n = ap (λ l. length l) is in absurd (omega arith)

behind_front : (port : ℕ) (e : BusEntry) (es : List BusEntry) → entries_of port (e ∷ es) ≡ [] → entries_of port es ≡ []
behind_front port e es none = by_test (eqb e.port port) none where
  by_test : (b : Bool) → cond b (e ∷ entries_of port es) (entries_of port es) ≡ [] → entries_of port es ≡ []
  by_test true is = absurd (is_front e (entries_of port es) is)
  by_test false is = is

-- no entry is of a port that has none
pub none_is_of : (port : ℕ) (es : List BusEntry) → entries_of port es ≡ [] → All (λ e. ¬ (e.port ≡ port)) es
none_is_of port [] none k e within same = absurd (omega (arith, within))
none_is_of port (e ∷ es) none zero d within same =
    let is : entries_of e.port (e ∷ es) ≡ [] = subst (λ (p : ℕ). entries_of p (e ∷ es) ≡ []) (sym same) none in
    is_front e (entries_of e.port es) (sym (entry_counts e es) ∙ is)
none_is_of port (e ∷ es) none (suc k) d within same = none_is_of port es (behind_front port e es none) k d (omega (arith, within)) same
