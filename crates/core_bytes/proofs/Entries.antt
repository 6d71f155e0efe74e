-- Entries and deeds in order, one list behind another.
use Rattle.std.proofs.Common.{◌≡◌, ℕ, List, [], ◌∷◌, ◌++◌, ap, ◌∙◌, sym, subst, refl, append_assoc}
use Rattle.memory_banks.specs.declared.entry.BusEntry.{BusEntry}
use Rattle.memory_banks.specs.Buses.{MakesAll}
use Rattle.core_bytes.specs.Deeds.{Deed, DoesAll, CacheWithPolicy, entries_in}

pub MakesAll-append : {B : Type 0} (acts : B → BusEntry → B → Type 0) (b : B) (es : List BusEntry) (m : B) (fs : List BusEntry) (c : B) → MakesAll acts b es m → MakesAll acts m fs c → MakesAll acts b (es ++ fs) c
MakesAll-append acts b [] m fs c same more = subst (λ x. MakesAll acts x fs c) same more
MakesAll-append acts b (e ∷ es) m fs c made more = (made.0, made.1, MakesAll-append acts made.0 es m fs c made.2 more)

-- a map of buses that keeps each entry keeps all
pub MakesAll-map : {B C : Type 0} (acts : B → BusEntry → B → Type 0) (acts' : C → BusEntry → C → Type 0) (f : B → C) → ((b : B) (e : BusEntry) (c : B) → acts b e c → acts' (f b) e (f c)) → (b : B) (es : List BusEntry) (c : B) → MakesAll acts b es c → MakesAll acts' (f b) es (f c)
MakesAll-map acts acts' f keeps b [] c same = ap f same
MakesAll-map acts acts' f keeps b (e ∷ es) c made = (f made.0, keeps b e made.0 made.1, MakesAll-map acts acts' f keeps made.0 es c made.2)

pub DoesAll-append : {E : Type 0} (evicts : E → ℕ → ℕ → ℕ → ℕ → E → Type 0) (port : ℕ) (ds : List Deed) (es : List Deed) (k m n : CacheWithPolicy E) → DoesAll evicts port ds k m → DoesAll evicts port es m n → DoesAll evicts port (ds ++ es) k n
DoesAll-append evicts port [] es k m n same more = subst (λ x. DoesAll evicts port es x n) same more
DoesAll-append evicts port (d ∷ ds) es k m n done more = (done.0, done.1, DoesAll-append evicts port ds es done.0 m n done.2 more)

pub entries_in-append : (ds es : List Deed) → entries_in (ds ++ es) ≡ entries_in ds ++ entries_in es
entries_in-append [] es = refl
entries_in-append (d ∷ ds) es = ap (λ (l : List BusEntry). d.entries ++ l) (entries_in-append ds es) ∙ sym (append_assoc d.entries (entries_in ds) (entries_in es))
