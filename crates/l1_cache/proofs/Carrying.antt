-- Changes carried out on a bus, one by one, and a write to a cache without room, which carries out its change at once.
use Rattle.std.proofs.Common.{◌≡◌, ℕ, ◌/◌, ◌%◌, ◌<◌, [], ◌∷◌, refl, sym, ne_eqb}
use Rattle.vx_base.specs.declared.types.Size.{Size}
use Rattle.vx_base.specs.declared.types.Size.TheVariants.{One, Two, Four}
use Rattle.memory_banks.specs.declared.entry.BusEntry.{BusEntry}
use Rattle.memory_banks.specs.Buses.{ActsTwice}
use Rattle.memory_banks.specs.Entries.{load_entry, store_entry, and_entry, or_entry}
use Rattle.l1_cache.specs.Accesses.{CarriesChange, ReadsField, WritesField}
use Rattle.l1_cache.specs.Lines.{bare_lines, change_of, kept_bits, part_of, written_bits}
use Rattle.l1_cache.proofs.Apart.{keeps_some}
use Rattle.l1_cache.proofs.BareLines.{bare-change}

-- two entries that change a part of a word carry out its change
part : {B : Type 0} (acts : B → BusEntry → B → Type 0) (number word keep value : ℕ) (b c : B) → (keep ≡ 0 → ⊥) → ActsTwice acts number word keep value b c → CarriesChange acts number (record { word = word; keep = keep; value = value }) b c
part acts number word keep value b c some twice = record {
  entries = and_entry number word keep twice.before_keep ∷ or_entry number word value twice.before_set ∷ [];
  made = (twice.between, twice.keeps, (c, twice.sets, refl));
  carries = ([], record { before_keep = twice.before_keep; before_set = twice.before_set; entries_are = rw (ne_eqb keep 0 some) refl }, refl);
}

pub carries_byte : {B : Type 0} (acts : B → BusEntry → B → Type 0) (number address value : ℕ) (b c : B) → address % 4 < 4 → ActsTwice acts number (address / 4) (kept_bits (address % 4) One) (written_bits value (address % 4) One) b c → CarriesChange acts number (change_of address One value) b c
carries_byte acts number address value b c below twice = part acts number (address / 4) (kept_bits (address % 4) One) (written_bits value (address % 4) One) b c (keeps_some (address % 4) below).0 twice

pub carries_half : {B : Type 0} (acts : B → BusEntry → B → Type 0) (number address value : ℕ) (b c : B) → address % 4 < 4 → ActsTwice acts number (address / 4) (kept_bits (address % 4) Two) (written_bits value (address % 4) Two) b c → CarriesChange acts number (change_of address Two value) b c
carries_half acts number address value b c below twice = part acts number (address / 4) (kept_bits (address % 4) Two) (written_bits value (address % 4) Two) b c (keeps_some (address % 4) below).1 twice

-- a store carries out the change of a whole word
pub carries_word : {B : Type 0} (acts : B → BusEntry → B → Type 0) (number address value : ℕ) (b c : B) → acts b (store_entry number (address / 4) value) c → CarriesChange acts number (change_of address Four value) b c
carries_word acts number address value b c stored = record {
  entries = store_entry number (address / 4) value ∷ [];
  made = (c, stored, refl);
  carries = ([], record { before_keep = 0; before_set = 0; entries_are = refl }, refl);
}

-- a read of a cache without ways is one load
pub reads_bare : {B E : Type 0} (acts : B → BusEntry → B → Type 0) (evicts : E → ℕ → ℕ → ℕ → ℕ → E → Type 0) (number address : ℕ) (size : Size) (sets hits misses : ℕ) (b c : B) (policy policy' : E) (word answer : ℕ) → acts b (load_entry number (address / 4) word) c → answer ≡ part_of word (address % 4) size → policy' ≡ policy → ReadsField acts evicts number address size (bare_lines sets hits misses) b policy answer (bare_lines sets hits misses) c policy'
reads_bare acts evicts number address size sets hits misses b c policy policy' word answer loaded is same = record {
  entries = load_entry number (address / 4) word ∷ [];
  made = (c, loaded, refl);
  read = record { word = word; entries_are = refl; answer_is = is; same_lines = refl; same_policy = same };
}

-- a write of a cache without room carries out its change
pub writes_bare : {B : Type 0} (acts : B → BusEntry → B → Type 0) (number address : ℕ) (size : Size) (value sets hits misses : ℕ) (b c : B) → CarriesChange acts number (change_of address size value) b c → WritesField acts number address size value (bare_lines sets hits misses) b (bare_lines sets hits misses) c
writes_bare acts number address size value sets hits misses b c done = record {
  entries = done.entries;
  made = done.made;
  written = record { carries = done.carries; lines_are = sym (bare-change sets hits misses (change_of address size value)) };
}
