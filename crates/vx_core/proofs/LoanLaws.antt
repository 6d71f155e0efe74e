-- Accesses through the loans of a core.
use Rattle.std.proofs.Common.{◌≡◌, ℕ, ◌+◌, ◌*◌, ◌/◌, ◌%◌, ◌≤◌, List, [], ◌∷◌, ap, ◌∙◌, subst, arith}
use Rattle.vx_base.specs.Bytes.{bytes_of}
use Rattle.vx_base.specs.declared.types.Size.{Size}
use Rattle.vx_base.specs.declared.types.Size.TheVariants.{One, Two, Four}
use Rattle.vx_isa.specs.WarpSteps.{Access, LaneAccess, Makes}
use Rattle.memory_banks.specs.declared.entry.BusEntry.{BusEntry}
use Rattle.vx_core.specs.CoreMemory.{ActsThrough, KeepsLoans, reach_of}
use Rattle.vx_core.specs.Places.{Reach, Reaches}
use Rattle.vx_core.specs.declared.memory.CoreMemory.{CoreMemory}

-- the line of a field that lies in whole lines
pub line_inside : (offset count : ℕ) (size : Size) → count % 16 ≡ 0 → offset + bytes_of size ≤ 4 * count → offset / 64 * 16 + 16 ≤ count
line_inside offset count One whole inside = omega arith
line_inside offset count Two whole inside = omega arith
line_inside offset count Four whole inside = omega arith

-- an access in another's terms
same_terms : {B E : Type 0} (acts : B → BusEntry → B → Type 0) (evicts : E → ℕ → ℕ → ℕ → ℕ → E → Type 0) (p q : Reach B E) (a : Access) (words port banks words' port' banks' : ℕ) → words ≡ words' → port ≡ port' → banks ≡ banks' → Reaches acts evicts words port banks p a q → Reaches acts evicts words' port' banks' p a q
same_terms acts evicts p q a words port banks words' port' banks' words_are port_is banks_are reached =
    subst (λ (n : ℕ). Reaches acts evicts n port' banks' p a q) words_are
    (subst (λ (n : ℕ). Reaches acts evicts words n banks' p a q) port_is
    (subst (λ (n : ℕ). Reaches acts evicts words port n p a q) banks_are reached))

-- accesses through the loans are accesses of what they lend
pub Makes-reach : {B E : Type 0} (acts : B → BusEntry → B → Type 0) (evicts : E → ℕ → ℕ → ℕ → ℕ → E → Type 0) (count number : B → ℕ) (words port banks : ℕ) (accesses : List LaneAccess) (m n : CoreMemory B E) → count m.bus.now ≡ words → number m.bus.now ≡ port → m.banks ≡ banks → Makes (ActsThrough acts evicts count number) m accesses n → Makes (Reaches acts evicts words port banks) (reach_of m) accesses (reach_of n)
Makes-reach acts evicts count number words port banks [] m n words_are port_is banks_are same = ap reach_of same
Makes-reach acts evicts count number words port banks (a ∷ rest) m n words_are port_is banks_are made =
    let kept = made.1.kept in (
      reach_of made.0,
      same_terms acts evicts (reach_of m) (reach_of made.0) a.access (count m.bus.now) (number m.bus.now) m.banks words port banks words_are port_is banks_are made.1.reaches,
      Makes-reach acts evicts count number words port banks rest made.0 n (kept.words ∙ words_are) (kept.port ∙ port_is) (kept.banks ∙ banks_are) made.2,
    )

-- and keep the loans
pub KeepsLoans-refl : {B E : Type 0} (count number : B → ℕ) (m n : CoreMemory B E) → n ≡ m → KeepsLoans count number m n
KeepsLoans-refl {B} {E} count number m n same = record {
  banks = ap (λ (k : CoreMemory B E). k.banks) same;
  words = ap (λ (k : CoreMemory B E). count k.bus.now) same;
  port = ap (λ (k : CoreMemory B E). number k.bus.now) same;
  scratch = ap (λ (k : CoreMemory B E). k.scratch.ghost_name) same;
  cache = ap (λ (k : CoreMemory B E). k.cache.ghost_name) same;
  bus = ap (λ (k : CoreMemory B E). k.bus.ghost_name) same;
  evict = ap (λ (k : CoreMemory B E). k.evict.ghost_name) same;
  steps = ap (λ (k : CoreMemory B E). k.steps.ghost_name) same;
}

pub KeepsLoans-more : {B E : Type 0} (count number : B → ℕ) (m between n : CoreMemory B E) → KeepsLoans count number m between → KeepsLoans count number between n → KeepsLoans count number m n
KeepsLoans-more count number m between n first later = record {
  banks = later.banks ∙ first.banks;
  words = later.words ∙ first.words;
  port = later.port ∙ first.port;
  scratch = later.scratch ∙ first.scratch;
  cache = later.cache ∙ first.cache;
  bus = later.bus ∙ first.bus;
  evict = later.evict ∙ first.evict;
  steps = later.steps ∙ first.steps;
}

pub Makes-kept : {B E : Type 0} (acts : B → BusEntry → B → Type 0) (evicts : E → ℕ → ℕ → ℕ → ℕ → E → Type 0) (count number : B → ℕ) (accesses : List LaneAccess) (m n : CoreMemory B E) → Makes (ActsThrough acts evicts count number) m accesses n → KeepsLoans count number m n
Makes-kept acts evicts count number [] m n same = KeepsLoans-refl count number m n same
Makes-kept acts evicts count number (a ∷ rest) m n made =
    KeepsLoans-more count number m made.0 n made.1.kept (Makes-kept acts evicts count number rest made.0 n made.2)
