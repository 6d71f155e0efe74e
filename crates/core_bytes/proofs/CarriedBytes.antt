-- One byte, by changes of words and by the entries that carry them out.
use Rattle.std.proofs.Common.{◌≡◌, inl, inr, ℕ, zero, suc, ◌+◌, ◌-◌, ◌/◌, ◌%◌, ◌<◌, ◌≤◌, Bool, true, false, nat_eq, if◌then◌else◌, List, [], ◌∷◌, ◌++◌, refl, ap, sym, ◌∙◌, arith}
use Rattle.std.specs.Prelude.{bit_and, bit_or, nat_le, nat_lt, ◌&&◌}
use Rattle.std.proofs.lemmas.Bool.{and_parts, cases_lt, cond_both, eqb-false, eqb-true, le-leb, le-ltb, leb-true, lt-leb, lt-ltb, ltb-true}
use Rattle.std.proofs.lemmas.Nat.{and_comm, or_disjoint}
use Rattle.vx_base.specs.Bytes.{byte_of, bytes_of}
use Rattle.vx_base.specs.declared.types.Size.{Size}
use Rattle.vx_base.specs.declared.types.Size.TheVariants.{One, Two, Four}
use Rattle.memory_banks.specs.declared.entry.BusEntry.{BusEntry}
use Rattle.memory_banks.specs.Entries.{and_entry, or_entry, store_entry}
use Rattle.l1_cache.specs.Accesses.{CarriesOut, carried}
use Rattle.l1_cache.specs.Lines.{Change, change_of, part_of}
use Rattle.core_bytes.specs.Deeds.{Writing}
use Rattle.core_bytes.specs.OwnBytes.{writes, written}
use Rattle.core_bytes.proofs.ByteChanges.{IsFieldByte, and_all, and_none, below_4, field_byte, inside}
use Rattle.core_bytes.proofs.QuietEntries.{run_byte}

-- what a change makes of byte b, and what changes make of it in their order
abbrev pub change_byte : ℕ → Change → ℕ → ℕ
change_byte b c x = if nat_eq c.word (b / 4) then bit_or (bit_and x (byte_of c.keep (b % 4))) (byte_of c.value (b % 4)) else x

abbrev pub changes_byte : ℕ → List Change → ℕ → ℕ
changes_byte b [] x = x
changes_byte b (c ∷ changes) x = changes_byte b changes (change_byte b c x)

-- a change leaves byte b as it is
abbrev pub IsQuietChange : ℕ → Change → Type 0
IsQuietChange b c = c.word ≡ b / 4 → (byte_of c.keep (b % 4) ≡ 255) × (byte_of c.value (b % 4) ≡ 0)

none_or : (v : ℕ) → bit_or 0 v ≡ v
none_or v = or_disjoint 0 v (and_comm 0 v ∙ and_none v) ∙ omega arith

pub or_none : (x : ℕ) → bit_or x 0 ≡ x
or_none x = or_disjoint x 0 (and_none x) ∙ omega arith

-- ---- the change of a write

word_is : (address : ℕ) (size : Size) (v : ℕ) → (change_of address size v).word ≡ address / 4
word_is address One v = refl
word_is address Two v = refl
word_is address Four v = refl

le_same : (a b : ℕ) → a / 4 ≡ b / 4 → nat_le a b ≡ nat_le (a % 4) (b % 4)
le_same a b same = elim (cases_lt (b % 4) (a % 4)) [
  | inl above ↦ lt-leb a b (omega (arith, above, same)) ∙ sym (lt-leb (a % 4) (b % 4) above)
  | inr within ↦ le-leb a b (omega (arith, within, same)) ∙ sym (le-leb (a % 4) (b % 4) within)
]

lt_same : (a b n : ℕ) → a / 4 ≡ b / 4 → nat_lt b (a + n) ≡ nat_lt (b % 4) (a % 4 + n)
lt_same a b n same = elim (cases_lt (b % 4) (a % 4 + n)) [
  | inl below ↦ lt-ltb b (a + n) (omega (arith, below, same)) ∙ sym (lt-ltb (b % 4) (a % 4 + n) below)
  | inr above ↦ le-ltb b (a + n) (omega (arith, above, same)) ∙ sym (le-ltb (b % 4) (a % 4 + n) above)
]

writes_inside : (a : ℕ) (size : Size) (v b : ℕ) → a / 4 ≡ b / 4 → writes (Writing a size v) b ≡ inside (a % 4) size (b % 4)
writes_inside a size v b same =
    ap (λ (t : Bool). t && nat_lt b (a + bytes_of size)) (le_same a b same) ∙ ap (λ (t : Bool). nat_le (a % 4) (b % 4) && t) (lt_same a b (bytes_of size) same)

same_word : (a : ℕ) (size : Size) (b : ℕ) → a % bytes_of size ≡ 0 → a ≤ b → b < a + bytes_of size → a / 4 ≡ b / 4
same_word a One b aligned from below = omega (arith, from, below)
same_word a Two b aligned from below = omega (arith, aligned, from, below)
same_word a Four b aligned from below = omega (arith, aligned, from, below)

by_field : (t : Bool) (x keep value byte : ℕ) → x < 256 → keep ≡ (if t then 0 else 255) → value ≡ (if t then byte else 0) → bit_or (bit_and x keep) value ≡ (if t then byte else x)
by_field true x keep value byte small k v = ap (λ (q : ℕ). bit_or (bit_and x q) value) k ∙ (ap (λ (q : ℕ). bit_or q value) (and_none x) ∙ (none_or value ∙ v))
by_field false x keep value byte small k v =
    let all : bit_and x 255 ≡ x = and_all x ∙ omega (arith, small) in
    ap (λ (q : ℕ). bit_or (bit_and x q) value) k ∙ (ap (λ (q : ℕ). bit_or q value) all ∙ (ap (bit_or x) v ∙ or_none x))

-- the change of a write makes of each byte what the write makes of it
pub write_byte : (a : ℕ) (size : Size) (v b x : ℕ) → a % bytes_of size ≡ 0 → x < 256 → change_byte b (change_of a size v) x ≡ written (Writing a size v) b x
write_byte a size v b x aligned small =
    cond_both (nat_eq (change_of a size v).word (b / 4)) (bit_or (bit_and x (byte_of (change_of a size v).keep (b % 4))) (byte_of (change_of a size v).value (b % 4))) x (λ y. y ≡ written (Writing a size v) b x)
    (λ here.
    let same : a / 4 ≡ b / 4 = sym (word_is a size v) ∙ eqb-true (change_of a size v).word (b / 4) here in
    let f : IsFieldByte a size v (b % 4) = field_byte a size v (b % 4) aligned (omega arith) in
    let at : b % 4 - a % 4 ≡ b - a = omega (arith, same) in
    by_field (inside (a % 4) size (b % 4)) x (byte_of (change_of a size v).keep (b % 4)) (byte_of (change_of a size v).value (b % 4)) (byte_of v (b % 4 - a % 4)) small f.keep f.value
    ∙ (ap (λ (i : ℕ). if inside (a % 4) size (b % 4) then byte_of v i else x) at
    ∙ ap (λ (t : Bool). if t then byte_of v (b - a) else x) (sym (writes_inside a size v b same))))
    (λ there. cond_both (writes (Writing a size v) b) (byte_of v (b - a)) x (λ y. x ≡ y)
    (λ into. let parts : (nat_le a b ≡ true) × (nat_lt b (a + bytes_of size) ≡ true) = and_parts (nat_le a b) (nat_lt b (a + bytes_of size)) into in
    absurd (eqb-false (change_of a size v).word (b / 4) there (word_is a size v ∙ same_word a size b aligned (leb-true a b parts.0) (ltb-true b (a + bytes_of size) parts.1))))
    (λ out. refl))

-- a write elsewhere is a change that leaves the byte alone
pub write_quiet : (a : ℕ) (size : Size) (v b : ℕ) → a % bytes_of size ≡ 0 → writes (Writing a size v) b ≡ false → IsQuietChange b (change_of a size v)
write_quiet a size v b aligned out here =
    let same : a / 4 ≡ b / 4 = sym (word_is a size v) ∙ here in
    let f : IsFieldByte a size v (b % 4) = field_byte a size v (b % 4) aligned (omega arith) in
    let outside : inside (a % 4) size (b % 4) ≡ false = sym (writes_inside a size v b same) ∙ out in
    (f.keep ∙ ap (λ (t : Bool). if t then 0 else 255) outside, f.value ∙ ap (λ (t : Bool). if t then byte_of v (b % 4 - a % 4) else 0) outside)

-- ---- the byte of a field that is read

one_part : (word at : ℕ) → at < 4 → byte_of (part_of word at One) 0 ≡ byte_of word (at + 0)
one_part word = below_4 (λ at. byte_of (part_of word at One) 0 ≡ byte_of word (at + 0)) (omega arith) (omega arith) (omega arith) (omega arith)

two_parts : (word at : ℕ) → at < 4 → at % 2 ≡ 0 → (byte_of (part_of word at Two) 0 ≡ byte_of word (at + 0)) × (byte_of (part_of word at Two) 1 ≡ byte_of word (at + 1))
two_parts word = below_4 (λ at. at % 2 ≡ 0 → (byte_of (part_of word at Two) 0 ≡ byte_of word (at + 0)) × (byte_of (part_of word at Two) 1 ≡ byte_of word (at + 1)))
    (λ even. (omega arith, omega arith)) (λ even. let none : ⊥ = omega (arith, even) in absurd none) (λ even. (omega arith, omega arith)) (λ even. let none : ⊥ = omega (arith, even) in absurd none)

pub part_byte : (word : ℕ) (size : Size) (at i : ℕ) → at < 4 → at % bytes_of size ≡ 0 → i < bytes_of size → byte_of (part_of word at size) i ≡ byte_of word (at + i)
part_byte word One at zero below aligned within = one_part word at below
part_byte word One at (suc i) below aligned within = let none : ⊥ = omega (arith, within) in absurd none
part_byte word Two at zero below aligned within = (two_parts word at below aligned).0
part_byte word Two at (suc zero) below aligned within = (two_parts word at below aligned).1
part_byte word Two at (suc (suc i)) below aligned within = let none : ⊥ = omega (arith, within) in absurd none
part_byte word Four at i below aligned within = let same : i ≡ at + i = omega (arith, below, aligned) in ap (byte_of word) same

-- ---- entries that carry changes out

pub run_append : (b : ℕ) (xs ys : List BusEntry) (x : ℕ) → run_byte b (xs ++ ys) x ≡ run_byte b ys (run_byte b xs x)
run_append b [] ys x = refl
run_append b (e ∷ xs) ys x = run_append b xs ys _

pub changes_append : (b : ℕ) (xs ys : List Change) (x : ℕ) → changes_byte b (xs ++ ys) x ≡ changes_byte b ys (changes_byte b xs x)
changes_append b [] ys x = refl
changes_append b (c ∷ xs) ys x = changes_append b xs ys (change_byte b c x)

pub no_byte : (k : ℕ) → k < 4 → byte_of 0 k ≡ 0
no_byte = below_4 (λ k. byte_of 0 k ≡ 0) refl refl refl refl

pair_run : (t : Bool) (x keep value : ℕ) → (if t then bit_or (if t then bit_and x keep else x) value else (if t then bit_and x keep else x)) ≡ (if t then bit_or (bit_and x keep) value else x)
pair_run true x keep value = refl
pair_run false x keep value = refl

carried_run : (port : ℕ) (c : Change) (before_keep before_set b x : ℕ) → run_byte b (carried port c before_keep before_set) x ≡ change_byte b c x
carried_run port c before_keep before_set b x =
    cond_both (nat_eq c.keep 0) (store_entry port c.word c.value ∷ []) (and_entry port c.word c.keep before_keep ∷ or_entry port c.word c.value before_set ∷ []) (λ es. run_byte b es x ≡ change_byte b c x)
    (λ none.
    let keep : byte_of c.keep (b % 4) ≡ 0 = ap (λ (k : ℕ). byte_of k (b % 4)) (eqb-true c.keep 0 none) ∙ no_byte (b % 4) (omega arith) in
    ap (λ (y : ℕ). if nat_eq c.word (b / 4) then y else x) (sym (ap (λ (k : ℕ). bit_or (bit_and x k) (byte_of c.value (b % 4))) keep ∙ (ap (λ (q : ℕ). bit_or q (byte_of c.value (b % 4))) (and_none x) ∙ none_or (byte_of c.value (b % 4))))))
    (λ some. pair_run (nat_eq c.word (b / 4)) x (byte_of c.keep (b % 4)) (byte_of c.value (b % 4)))

-- entries that carry changes out make of a byte what the changes make of it
pub carries_run : (port b : ℕ) (changes : List Change) (entries : List BusEntry) (x : ℕ) → CarriesOut port changes entries → run_byte b entries x ≡ changes_byte b changes x
carries_run port b [] entries x none = ap (λ (es : List BusEntry). run_byte b es x) none
carries_run port b (c ∷ changes) entries x h =
    ap (λ (es : List BusEntry). run_byte b es x) h.1.entries_are
    ∙ (run_append b (carried port c h.1.before_keep h.1.before_set) h.0 x
    ∙ (ap (run_byte b h.0) (carried_run port c h.1.before_keep h.1.before_set b x)
    ∙ carries_run port b changes h.0 (change_byte b c x) h.2))
