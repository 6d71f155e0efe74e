-- One byte of the words, by the entries of one port, where those of the others leave it alone.
use Rattle.std.proofs.Common.{◌≡◌, ◌≢◌, ◌⊎◌, inl, inr, ℕ, zero, suc, ◌*◌, ◌/◌, ◌%◌, ◌^◌, ◌<◌, ◌≤◌, Bool, true, false, nat_eq, if◌then◌else◌, cond, List, [], ◌∷◌, length, All, get_or, refl, ap, sym, ◌∙◌, subst, arith, true≢false}
use Rattle.std.specs.Prelude.{slice_index, slice_set}
use Rattle.std.proofs.Math.ListN.{length-set}
use Rattle.std.proofs.lemmas.Bool.{cases_eq, cond_both, eq-eqb, eqb-false, eqb-true}
use Rattle.std.proofs.lemmas.List.{get_or-set_same, get_or-set_other}
use Rattle.std.proofs.lemmas.Nat.{mod_below}
use Rattle.vx_base.specs.Bytes.{byte_of}
use Rattle.memory_banks.specs.declared.entry.BusKind.{BusKind}
use Rattle.memory_banks.specs.declared.entry.BusKind.TheVariants.{Load, Store, FetchAnd, FetchOr}
use Rattle.memory_banks.specs.declared.entry.BusEntry.{BusEntry}
use Rattle.memory_banks.specs.Entries.{IsLegal, after, answer_to, changed, entries_of, replay}
use Rattle.core_bytes.specs.BusRuns.{IsOfCore, place_after}
use Rattle.core_bytes.specs.OwnBytes.{byte_in}
use Rattle.core_bytes.proofs.ByteChanges.{byte_and, byte_or}

-- what an entry makes of byte b, and what entries make of it in their order
abbrev pub entry_byte : ℕ → BusEntry → ℕ → ℕ
entry_byte b e x = if nat_eq e.word (b / 4) then changed e.kind x (byte_of e.operand (b % 4)) else x

abbrev pub run_byte : ℕ → List BusEntry → ℕ → ℕ
run_byte b [] x = x
run_byte b (e ∷ entries) x = run_byte b entries (entry_byte b e x)

-- an entry leaves a byte as it is
abbrev pub IsQuiet : ℕ → BusEntry → Type 0
IsQuiet b e = (x : ℕ) → x < 256 → entry_byte b e x ≡ x

changed_byte : (kind : BusKind) (before operand k : ℕ) → k < 4 → byte_of (changed kind before operand) k ≡ changed kind (byte_of before k) (byte_of operand k)
changed_byte Load before operand k below = refl
changed_byte Store before operand k below = refl
changed_byte FetchAnd before operand k below = byte_and before operand k below
changed_byte FetchOr before operand k below = byte_or before operand k below

-- a byte of the words behind an entry
pub byte_after : (words : List ℕ) (e : BusEntry) (b : ℕ) → b < 4 * length words → byte_in (after words e) b ≡ entry_byte b e (byte_in words b)
byte_after words e b within =
    cond_both (nat_eq e.word (b / 4)) (changed e.kind (byte_in words b) (byte_of e.operand (b % 4))) (byte_in words b) (λ x. byte_in (after words e) b ≡ x)
    (λ here. at e.word (eqb-true e.word (b / 4) here))
    (λ there. ap (λ (x : ℕ). byte_of x (b % 4)) (get_or-set_other words e.word (b / 4) (changed e.kind (slice_index words e.word) e.operand) 0 (λ same. eqb-false e.word (b / 4) there (sym same))))
  where
    at : (word : ℕ) → word ≡ b / 4 → byte_of (get_or (slice_set words word (changed e.kind (slice_index words word) e.operand)) (b / 4) 0) (b % 4) ≡ changed e.kind (byte_in words b) (byte_of e.operand (b % 4))
    at word is =
        let below : b / 4 < length words = omega (arith, within) in
        subst (λ (w : ℕ). byte_of (get_or (slice_set words w (changed e.kind (slice_index words w) e.operand)) (b / 4) 0) (b % 4) ≡ changed e.kind (byte_in words b) (byte_of e.operand (b % 4))) (sym is)
        (ap (λ (x : ℕ). byte_of x (b % 4)) (get_or-set_same words (b / 4) (changed e.kind (slice_index words (b / 4)) e.operand) 0 below)
        ∙ changed_byte e.kind (slice_index words (b / 4)) e.operand (b % 4) (omega arith))

-- ---- counting

-- how many of the first n entries of a history are of a port
abbrev pub count : ℕ → ℕ → List BusEntry → ℕ
count port zero history = 0
count port (suc n) [] = 0
count port (suc n) (e ∷ history) = if nat_eq e.port port then suc (count port n history) else count port n history

-- no more stand before a place than the place is behind
pub few : (port : ℕ) (history : List BusEntry) (n m : ℕ) → n ≤ place_after port history m → count port n history ≤ m
few port history zero m le = omega arith
few port [] (suc n) m le = omega arith
few port (e ∷ history) (suc n) zero le = let none : ⊥ = omega (arith, le) in absurd none
few port (e ∷ history) (suc n) (suc m) le = by_port (nat_eq e.port port) (few port history n m) (few port history n (suc m)) le
  where
    by_port : (own : Bool) → (n ≤ place_after port history m → count port n history ≤ m) → (n ≤ place_after port history (suc m) → count port n history ≤ suc m)
        → suc n ≤ suc (if own then place_after port history m else place_after port history (suc m)) → (if own then suc (count port n history) else count port n history) ≤ suc m
    by_port true here other le = let h : count port n history ≤ m = here (omega (arith, le)) in omega (arith, h)
    by_port false here other le = other (omega (arith, le))

-- and so many do stand there
pub enough : (port : ℕ) (history : List BusEntry) (m : ℕ) → m ≤ length (entries_of port history) → m ≤ count port (place_after port history m) history
enough port history zero le = omega arith
enough port [] (suc m) le = let none : ⊥ = omega (arith, le) in absurd none
enough port (e ∷ history) (suc m) le = by_port (nat_eq e.port port) (enough port history m) (enough port history (suc m)) le
  where
    by_port : (own : Bool) → (m ≤ length (entries_of port history) → m ≤ count port (place_after port history m) history) → (suc m ≤ length (entries_of port history) → suc m ≤ count port (place_after port history (suc m)) history)
        → suc m ≤ length (cond own (e ∷ entries_of port history) (entries_of port history))
        → suc m ≤ (if own then suc (count port (if own then place_after port history m else place_after port history (suc m)) history) else count port (if own then place_after port history m else place_after port history (suc m)) history)
    by_port true here other le = let h : m ≤ count port (place_after port history m) history = here (omega (arith, le)) in omega (arith, h)
    by_port false here other le = other le

-- ---- where other ports are quiet

-- the first n entries of a list are quiet
abbrev pub QuietTo : ℕ → ℕ → List BusEntry → Type 0
QuietTo b zero entries = Unit {0}
QuietTo b (suc n) [] = Unit {0}
QuietTo b (suc n) (e ∷ entries) = IsQuiet b e × QuietTo b n entries

-- the first n entries of a history are quiet or of a port
abbrev pub OthersQuiet : ℕ → ℕ → ℕ → List BusEntry → Type 0
OthersQuiet port b zero history = Unit {0}
OthersQuiet port b (suc n) [] = Unit {0}
OthersQuiet port b (suc n) (e ∷ history) = ((e.port ≡ port) ⊎ IsQuiet b e) × OthersQuiet port b n history

first_quiet : (b n : ℕ) (e : BusEntry) (entries : List BusEntry) (own : Bool) → own ≡ true → QuietTo b (if own then suc n else n) (cond own (e ∷ entries) entries) → IsQuiet b e
first_quiet b n e entries true is quiet = quiet.0
first_quiet b n e entries false is quiet = absurd (true≢false (sym is))

rest_quiet : (b n : ℕ) (e : BusEntry) (entries : List BusEntry) (own : Bool) → QuietTo b (if own then suc n else n) (cond own (e ∷ entries) entries) → QuietTo b n entries
rest_quiet b n e entries true quiet = quiet.1
rest_quiet b n e entries false quiet = quiet

pub others_quiet : (cores core b n : ℕ) (history : List BusEntry) → All (IsOfCore cores) history
    → ((other : ℕ) → other < cores → other ≢ core → QuietTo b (count (suc other) n history) (entries_of (suc other) history))
    → OthersQuiet (suc core) b n history
others_quiet cores core b zero history of_cores quiet = tt
others_quiet cores core b (suc n) [] of_cores quiet = tt
others_quiet cores core b (suc n) (e ∷ history) of_cores quiet = (
  one (of_cores zero e (omega arith)),
  others_quiet cores core b n history (λ k d within. of_cores (suc k) d (omega (arith, within)))
      (λ other within apart. rest_quiet b (count (suc other) n history) e (entries_of (suc other) history) (nat_eq e.port (suc other)) (quiet other within apart)),
)
  where
    one : IsOfCore cores e → (e.port ≡ suc core) ⊎ IsQuiet b e
    one of = elim (cases_eq of.core core) [
      | inl same ↦ inl (of.port_is ∙ ap suc same)
      | inr apart ↦ inr (first_quiet b (count (suc of.core) n history) e (entries_of (suc of.core) history) (nat_eq e.port (suc of.core)) (eq-eqb e.port (suc of.core) of.port_is) (quiet of.core of.exists apart))
    ]

-- the loads among the first n entries of a port are answered by what the entries before them made of a byte
abbrev pub AnsweredTo : ℕ → ℕ → ℕ → List BusEntry → Type 0
AnsweredTo b x zero entries = Unit {0}
AnsweredTo b x (suc n) [] = Unit {0}
AnsweredTo b x (suc n) (e ∷ entries) = (e.kind ≡ Load → e.word ≡ b / 4 → byte_of e.answer (b % 4) ≡ x) × AnsweredTo b (entry_byte b e x) n entries

load_answer : (words : List ℕ) (b : ℕ) (kind : BusKind) (word answer : ℕ) → answer ≡ answer_to kind (slice_index words word) → kind ≡ Load → word ≡ b / 4 → byte_of answer (b % 4) ≡ byte_in words b
load_answer words b kind word answer is load here =
    ap (λ (x : ℕ). byte_of x (b % 4)) (is ∙ (ap (λ (x : BusKind). answer_to x (slice_index words word)) load ∙ ap (slice_index words) here))

pub byte_below : (words : List ℕ) (b : ℕ) → byte_in words b < 256
byte_below words b = mod_below (slice_index words (b / 4) / 256 ^ (b % 4)) 256 (omega arith)

quiet_one : (port b : ℕ) (words : List ℕ) (e : BusEntry) → nat_eq e.port port ≡ false → (e.port ≡ port) ⊎ IsQuiet b e → entry_byte b e (byte_in words b) ≡ byte_in words b
quiet_one port b words e apart one = elim one [
  | inl own ↦ absurd (eqb-false e.port port apart own)
  | inr quiet ↦ quiet (byte_in words b) (byte_below words b)
]

within_after : (words : List ℕ) (e : BusEntry) (b : ℕ) → b < 4 * length words → b < 4 * length (after words e)
within_after words e b within = let same : length (after words e) ≡ length words = length-set words e.word (changed e.kind (slice_index words e.word) e.operand) in omega (arith, same, within)

pub answered : (port b n : ℕ) (words : List ℕ) (history : List BusEntry) → b < 4 * length words → IsLegal words history → OthersQuiet port b n history
    → AnsweredTo b (byte_in words b) (count port n history) (entries_of port history)
answered port b zero words history within legal quiet = tt
answered port b (suc n) words [] within legal quiet = tt
answered port b (suc n) words (e ∷ history) within legal quiet =
    by_port (nat_eq e.port port) (quiet_one port b words e) (subst (λ (x : ℕ). AnsweredTo b x (count port n history) (entries_of port history)) (byte_after words e b within) (answered port b n (after words e) history (within_after words e b within) legal.1 quiet.1)) refl
  where
    by_port : (own : Bool) → (nat_eq e.port port ≡ false → (e.port ≡ port) ⊎ IsQuiet b e → entry_byte b e (byte_in words b) ≡ byte_in words b) → AnsweredTo b (entry_byte b e (byte_in words b)) (count port n history) (entries_of port history) → nat_eq e.port port ≡ own
        → AnsweredTo b (byte_in words b) (if own then suc (count port n history) else count port n history) (cond own (e ∷ entries_of port history) (entries_of port history))
    by_port true silent rest is = (load_answer words b e.kind e.word e.answer legal.0, rest)
    by_port false silent rest is = subst (λ (x : ℕ). AnsweredTo b x (count port n history) (entries_of port history)) (silent is quiet.0) rest

-- where all entries of other ports are quiet, the replay's byte is what the port's own leave
pub settled : (port b : ℕ) (words : List ℕ) (history : List BusEntry) → b < 4 * length words → OthersQuiet port b (length history) history
    → byte_in (replay words history) b ≡ run_byte b (entries_of port history) (byte_in words b)
settled port b words [] within quiet = refl
settled port b words (e ∷ history) within quiet =
    settled port b (after words e) history (within_after words e b within) quiet.1
    ∙ (ap (run_byte b (entries_of port history)) (byte_after words e b within) ∙ by_port (nat_eq e.port port) refl)
  where
    by_port : (own : Bool) → nat_eq e.port port ≡ own → run_byte b (entries_of port history) (entry_byte b e (byte_in words b)) ≡ run_byte b (cond own (e ∷ entries_of port history) (entries_of port history)) (byte_in words b)
    by_port true is = refl
    by_port false is = ap (run_byte b (entries_of port history)) (quiet_one port b words e is quiet.0)
