-- A core's reads answer what its own writes left, where its loads are answered by its own entries.
use Rattle.std.proofs.Common.{◌≡◌, ℕ, zero, suc, ◌+◌, ◌-◌, ◌*◌, ◌/◌, ◌%◌, ◌<◌, ◌≤◌, Bool, nat_eq, if◌then◌else◌, List, [], ◌∷◌, ◌++◌, length, refl, ap, sym, ◌∙◌, subst, arith}
use Rattle.std.specs.Prelude.{nat_lt, not, slice_index, Option, Some, None}
use Rattle.std.specs.List.{AllByRecursion}
use Rattle.std.proofs.lemmas.Bool.{lt-ltb}
use Rattle.vx_base.specs.Bytes.{byte_of, bytes_of}
use Rattle.vx_base.specs.declared.types.Size.{Size}
use Rattle.vx_base.specs.declared.types.Size.TheVariants.{One, Two, Four}
use Rattle.memory_banks.specs.declared.entry.BusEntry.{BusEntry}
use Rattle.memory_banks.specs.Entries.{load_entry}
use Rattle.l1_cache.specs.Accesses.{ReadsBy, loads_from}
use Rattle.l1_cache.specs.Lines.{Change, Line, Lines, all_changed, line_in, part_of, set_of, with_changes}
use Rattle.core_bytes.specs.BusRuns.{loads}
use Rattle.core_bytes.proofs.CarriedBytes.{changes_byte, part_byte}
use Rattle.core_bytes.proofs.QuietEntries.{AnsweredTo}
use Rattle.core_bytes.proofs.RightLines.{AreRight, IsRight, all_changed_at, all_changed_length, finds_right, found_right, front_right, load_at, loads_length, with_byte}

-- a byte of a field lies in the field's word
pub field_within : (a : ℕ) (size : Size) (i b : ℕ) → a % bytes_of size ≡ 0 → i < bytes_of size → a + i ≡ b → (a / 4 ≡ b / 4) × (a % 4 + i ≡ b % 4)
field_within a One i b aligned within is = (omega (arith, within, is), omega (arith, within, is))
field_within a Two i b aligned within is = (omega (arith, aligned, within, is), omega (arith, aligned, within, is))
field_within a Four i b aligned within is = (omega (arith, aligned, within, is), omega (arith, aligned, within, is))

aligned_part : (a : ℕ) (size : Size) → a % bytes_of size ≡ 0 → a % 4 % bytes_of size ≡ 0
aligned_part a One aligned = omega arith
aligned_part a Two aligned = omega (arith, aligned)
aligned_part a Four aligned = omega (arith, aligned)

-- a byte of a field that is read from a word
pub answer_byte : (word a : ℕ) (size : Size) (i b : ℕ) → a % bytes_of size ≡ 0 → i < bytes_of size → a + i ≡ b → byte_of (part_of word (a % 4) size) i ≡ byte_of word (b % 4)
answer_byte word a size i b aligned within is =
    part_byte word size (a % 4) i (omega arith) (aligned_part a size aligned) within ∙ ap (byte_of word) (field_within a size i b aligned within is).1

-- What a read leaves, where x is the byte, n entries are answered, and made of them come before: its set is right, and so is the
-- answer.
pub record ReadsRight (b n x mark : ℕ) (a : ℕ) (size : Size) (answer : ℕ) (lines' : Lines) : Type 0 where
  pub right : mark ≤ n → AreRight b x (set_of lines' (b / 64))
  pub answers : mark ≤ n → (i : ℕ) → i < bytes_of size → a + i ≡ b → byte_of answer i ≡ x

abbrev pub read_mark : ℕ → ℕ → List BusEntry → ℕ
read_mark made mark entries = if nat_lt 0 (length entries) then made + length entries else mark

mark_some : (made mark n : ℕ) (entries : List BusEntry) (l : ℕ) → length entries ≡ suc l → read_mark made mark entries ≤ n → made + suc l ≤ n
mark_some made mark n entries l some le =
    let positive : 0 < length entries = omega (arith, some) in
    let is : read_mark made mark entries ≡ made + length entries = ap (λ (t : Bool). if t then made + length entries else mark) (lt-ltb 0 (length entries) positive) in
    omega (arith, le, is, some)

mark_none : (made mark n : ℕ) (entries : List BusEntry) → entries ≡ [] → read_mark made mark entries ≤ n → mark ≤ n
mark_none made mark n entries none le = subst (λ (es : List BusEntry). read_mark made mark es ≤ n) none le

first_answer : (b y n : ℕ) (port word answer : ℕ) (rest : List BusEntry) → 0 < n → AnsweredTo b y n (load_entry port word answer ∷ rest) → word ≡ b / 4 → byte_of answer (b % 4) ≡ y
first_answer b y zero port word answer rest some h here = let none : ⊥ = omega (arith, some) in absurd none
first_answer b y (suc n) port word answer rest some h here = h.0 refl here

any_line : (lines : List Line) → AllByRecursion (λ (l : Line). Unit {0}) lines
any_line [] = tt
any_line (l ∷ lines) = (tt, any_line lines)

-- the line that is found has the number that is looked for
line_number : (lines : Lines) (number : ℕ) (line : Line) → line_in lines number ≡ Some line → line.number ≡ number
line_number lines number line is = (found_right (λ (l : Line). Unit {0}) number (set_of lines number) line is (any_line (set_of lines number))).1

line_right : (a b x : ℕ) (lines : Lines) (line : Line) → line_in lines (a / 64) ≡ Some line → AreRight b x (set_of lines (b / 64)) → IsRight b x line
line_right a b x lines line is all number =
    let same : b / 64 ≡ a / 64 = sym number ∙ line_number lines (a / 64) line is in
    finds_right b x (a / 64) (set_of lines (a / 64)) line is (subst (λ (m : ℕ). AreRight b x (set_of lines m)) same all) number

line_answer : (a b x : ℕ) (size : Size) (i : ℕ) (line : Line) (answer : ℕ) → a % bytes_of size ≡ 0 → i < bytes_of size → a + i ≡ b → line.number ≡ a / 64 → IsRight b x line
    → answer ≡ part_of (slice_index line.words (a / 4 % 16)) (a % 4) size → byte_of answer i ≡ x
line_answer a b x size i line answer aligned inside at number right is =
    let word_at : a / 4 ≡ b / 4 = (field_within a size i b aligned inside at).0 in
    let same : a / 64 ≡ b / 64 = omega (arith, word_at) in
    ap (λ (w : ℕ). byte_of w i) is
    ∙ (answer_byte (slice_index line.words (a / 4 % 16)) a size i b aligned inside at
    ∙ (ap (λ (w : ℕ). byte_of (slice_index line.words (w % 16)) (b % 4)) word_at
    ∙ (right (number ∙ same)).1))

filled_right : (a b x y n port : ℕ) (waiting : List Change) (words : List ℕ) (rest : List BusEntry) (line : Line) → length words ≡ 16 → line.number ≡ a / 64
    → line.words ≡ all_changed waiting (a / 64 * 16) words → x ≡ changes_byte b waiting y → 16 ≤ n → AnsweredTo b y n (loads_from port (a / 64 * 16) words ++ rest) → IsRight b x line
filled_right a b x y n port waiting words rest line sixteen number_is words_are is long loads number =
    let q : ℕ = b / 4 % 16 in
    let within : b / 4 % 16 < length words = omega (arith, sixteen) in
    let before : b / 4 % 16 < n = omega (arith, long) in
    let number' : line.number ≡ b / 64 = number in
    let place : a / 64 * 16 + b / 4 % 16 ≡ b / 4 = omega (arith, number', number_is) in (
      ap length words_are ∙ (all_changed_length waiting (a / 64 * 16) words ∙ sixteen),
      ap (λ (ws : List ℕ). byte_of (slice_index ws (b / 4 % 16)) (b % 4)) words_are
          ∙ (ap (λ (w : ℕ). byte_of w (b % 4)) (all_changed_at waiting (a / 64 * 16) words (b / 4 % 16) within)
          ∙ (with_byte waiting (a / 64 * 16 + b / 4 % 16) (slice_index words (b / 4 % 16)) b place
          ∙ (ap (changes_byte b waiting) (load_at b port (a / 64 * 16) n words rest y (b / 4 % 16) loads within before place) ∙ sym is))),
    )

pub read_right : {E : Type 0} (evicts : E → ℕ → ℕ → ℕ → ℕ → E → Type 0) (b n made mark port ways : ℕ) (a : ℕ) (size : Size) (lines : Lines) (policy : E) (entries rest : List BusEntry) (answer : ℕ) (lines' : Lines) (policy' : E) (x y : ℕ)
    → mark ≤ made → a % bytes_of size ≡ 0 → x ≡ changes_byte b lines.waiting y → (mark ≤ n → AreRight b x (set_of lines (b / 64))) → AnsweredTo b y (n - made) (entries ++ rest)
    → (found : Option Line) → line_in lines (a / 64) ≡ found → ReadsBy evicts ways found port a size lines policy entries answer lines' policy'
    → ReadsRight b n x (read_mark made mark entries) a size answer lines'
read_right evicts b n made mark port zero a size lines policy entries rest answer lines' policy' x y le aligned is right loads found found_is r = record {
  right = λ within. subst (λ (l : Lines). AreRight b x (set_of l (b / 64))) (sym r.same_lines) (right (let one : made + 1 ≤ n = mark_some made mark n entries 0 (ap length r.entries_are) within in omega (arith, one, le)));
  answers = λ within i inside at.
      let one : made + 1 ≤ n = mark_some made mark n entries 0 (ap length r.entries_are) within in
      let word_at : a / 4 ≡ b / 4 = (field_within a size i b aligned inside at).0 in
      ap (λ (w : ℕ). byte_of w i) r.answer_is
      ∙ (answer_byte (with_changes lines.waiting (a / 4) r.word) a size i b aligned inside at
      ∙ (with_byte lines.waiting (a / 4) r.word b word_at
      ∙ (ap (changes_byte b lines.waiting) (first_answer b y (n - made) port (a / 4) r.word rest (omega (arith, one)) (subst (λ (es : List BusEntry). AnsweredTo b y (n - made) (es ++ rest)) r.entries_are loads) word_at)
      ∙ sym is)));
}
read_right evicts b n made mark port (suc ways) a size lines policy entries rest answer lines' policy' x y le aligned is right loads (Some line) found_is r =
    let number : line.number ≡ a / 64 = line_number lines (a / 64) line found_is in
    record {
      right = λ within.
          let all : AreRight b x (set_of lines (b / 64)) = right (mark_none made mark n entries r.no_entry within) in
          subst (λ (l : Lines). AreRight b x (set_of l (b / 64))) (sym r.lines_are) (front_right b x (a / 64) line (λ other. not (nat_eq other.number line.number)) lines (line_right a b x lines line found_is all) all);
      answers = λ within i inside at.
          line_answer a b x size i line answer aligned inside at number (line_right a b x lines line found_is (right (mark_none made mark n entries r.no_entry within))) r.answer_is;
    }
read_right evicts b n made mark port (suc ways) a size lines policy entries rest answer lines' policy' x y le aligned is right loads None found_is r =
    let count : length entries ≡ 16 = ap length r.entries_are ∙ (loads_length port (a / 64 * 16) r.words ∙ r.sixteen) in
    let line_is : read_mark made mark entries ≤ n → IsRight b x r.line = λ within.
    let some : made + 16 ≤ n = mark_some made mark n entries 15 count within in
    filled_right a b x y (n - made) port lines.waiting r.words rest r.line r.sixteen r.number_is r.words_are is (omega (arith, some)) (subst (λ (es : List BusEntry). AnsweredTo b y (n - made) (es ++ rest)) r.entries_are loads) in
    record {
      right = λ within.
          let some : made + 16 ≤ n = mark_some made mark n entries 15 count within in
          subst (λ (l : Lines). AreRight b x (set_of l (b / 64))) (sym r.lines_are) (front_right b x (a / 64) r.line (λ other. not (nat_eq other.way r.line.way)) lines (line_is within) (right (omega (arith, some, le))));
      answers = λ within i inside at. line_answer a b x size i r.line answer aligned inside at r.number_is (line_is within) r.answer_is;
    }
