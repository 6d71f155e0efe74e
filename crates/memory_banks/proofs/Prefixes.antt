-- Beginnings of a history, and the entries of one port in it.
use Rattle.std.proofs.Common.{◌≡◌, ℕ, eqb, Bool, cond, List, [], ◌∷◌, ◌++◌, refl, ap, sym, ◌∙◌, append_assoc, eq-eqb, ne_eqb}
use Rattle.std.proofs.lemmas.List.{append-nil, append_cancel_left}
use Rattle.std.proofs.lemmas.List.Elements.{filter-append}
use mathlib.Core.List.{IsPrefix}
use Rattle.memory_banks.specs.declared.entry.BusEntry.{BusEntry}
use Rattle.memory_banks.specs.Entries.{entries_of}

pub prefix_self : {A : Type 0} (xs : List A) → IsPrefix xs xs
prefix_self xs = ([], append-nil xs)

pub prefix_trans : {A : Type 0} (xs ys zs : List A) → IsPrefix xs ys → IsPrefix ys zs → IsPrefix xs zs
prefix_trans xs ys zs p q = (p.0 ++ q.0, sym (append_assoc xs p.0 q.0) ∙ (ap (λ w. w ++ q.0) p.1 ∙ q.1))

-- what begins a list begins a longer one
pub prefix_longer : {A : Type 0} (xs ys zs : List A) → IsPrefix xs ys → IsPrefix xs (ys ++ zs)
prefix_longer xs ys zs p = prefix_trans xs ys (ys ++ zs) p (zs, refl)

-- what is added to a list where nothing changes is nothing
pub nothing_added : {A : Type 0} (xs ys : List A) → xs ≡ xs ++ ys → ys ≡ []
nothing_added xs ys same = sym (append_cancel_left xs [] ys (append-nil xs ∙ same))

pub entries-append : (port : ℕ) (xs ys : List BusEntry) → entries_of port (xs ++ ys) ≡ entries_of port xs ++ entries_of port ys
entries-append port xs ys = filter-append (λ e. eqb e.port port) xs ys

pub own_entry : (e : BusEntry) → entries_of e.port (e ∷ []) ≡ e ∷ []
own_entry e = ap (λ (b : Bool). cond b (e ∷ []) []) (eq-eqb e.port e.port refl)

pub other_entry : (port : ℕ) (e : BusEntry) → ¬ (e.port ≡ port) → entries_of port (e ∷ []) ≡ []
other_entry port e apart = ap (λ (b : Bool). cond b (e ∷ []) []) (ne_eqb e.port port apart)

-- one entry more of the port itself, and of another
pub entries-own : (xs : List BusEntry) (e : BusEntry) → entries_of e.port (xs ++ e ∷ []) ≡ entries_of e.port xs ++ e ∷ []
entries-own xs e = entries-append e.port xs (e ∷ []) ∙ ap (λ (ys : List BusEntry). entries_of e.port xs ++ ys) (own_entry e)

pub entries-other : (port : ℕ) (xs : List BusEntry) (e : BusEntry) → ¬ (e.port ≡ port) → entries_of port (xs ++ e ∷ []) ≡ entries_of port xs
entries-other port xs e apart = entries-append port xs (e ∷ []) ∙ (ap (λ (ys : List BusEntry). entries_of port xs ++ ys) (other_entry port e apart) ∙ append-nil (entries_of port xs))

-- a beginning with every entry of a port leaves none of it behind
pub none_behind : (port : ℕ) (xs ys log : List BusEntry) → xs ++ ys ≡ log → entries_of port xs ≡ entries_of port log → entries_of port ys ≡ []
none_behind port xs ys log is whole = nothing_added (entries_of port xs) (entries_of port ys) (whole ∙ (sym (ap (entries_of port) is) ∙ entries-append port xs ys))
