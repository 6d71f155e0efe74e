-- Worked runs of one core, computed from the definitions.
use Rattle.std.proofs.Common.{◌≡◌, ℕ, zero, suc, ◌<◌, List, [], ◌∷◌, ◌++◌, replicate, refl, arith, All}
use Rattle.std.specs.List.{AllByRecursion}
use Rattle.vx_base.specs.declared.types.Size.TheVariants.{One, Four}
use Rattle.memory_banks.specs.declared.entry.BusEntry.{BusEntry}
use Rattle.memory_banks.specs.Entries.{and_entry, entries_of, load_entry, or_entry, replay}
use Rattle.l1_cache.specs.Accesses.{loads_from}
use Rattle.l1_cache.specs.Lines.{Line, Lines, change_of, no_lines}
use Rattle.core_bytes.specs.BusRuns.{BusRun, CoreDid, IsOfCore, places}
use Rattle.core_bytes.specs.ByteLaws.{gives_oldest}
use Rattle.core_bytes.specs.Deeds.{Deed, Draining, CacheWithPolicy, Reading, Writing, entries_in}
use Rattle.core_bytes.specs.OwnBytes.{byte_in, own_byte}

-- one line of zeros
abbrev pub line_of_zeros : List ℕ
line_of_zeros = replicate 16 0

-- the two entries of a write of 42 to byte 1, by the port of core 0
abbrev pub byte_entries : List BusEntry
byte_entries = and_entry 1 0 0xffff00ff 0 ∷ or_entry 1 0 0x2a00 0 ∷ []

-- A byte is written and waits, its line is filled while it waits, the answer is forwarded from there, the byte is found in the
-- line, and what waits is carried out.
abbrev pub waits_then_drains : List Deed
waits_then_drains =
    record { act = Writing 1 One 42; entries = [] }
    ∷ record { act = Reading 0 Four 0x2a00; entries = loads_from 1 0 line_of_zeros }
    ∷ record { act = Reading 1 One 42; entries = [] }
    ∷ record { act = Draining; entries = byte_entries }
    ∷ []

abbrev pub its_history : List BusEntry
its_history = loads_from 1 0 line_of_zeros ++ byte_entries

-- the line once it is filled, with the change that waits
abbrev the_line : Line
the_line = record { way = 0; number = 0; words = 0x2a00 ∷ replicate 15 0 }

-- the cache behind each deed
abbrev behind_write : Lines
behind_write = record (no_lines 1 1 8) { waiting = change_of 1 One 42 ∷ [] }

abbrev behind_fill : Lines
behind_fill = record behind_write { sets = (the_line ∷ []) ∷ []; misses = 1 }

abbrev behind_find : Lines
behind_find = record behind_fill { hits = 1 }

abbrev behind_drain : Lines
behind_drain = record behind_find { waiting = [] }

abbrev with_lines : Lines → CacheWithPolicy (Unit {0})
with_lines lines = record { lines = lines; policy = tt }

pub waits_then_drains_did : CoreDid gives_oldest 1 1 8 tt 1 waits_then_drains
waits_then_drains_did = record {
  last = with_lines behind_drain;
  does = (
    with_lines behind_write,
    (refl, record { carries = refl; lines_are = refl }, refl),
    (
      with_lines behind_fill,
      (refl, record { line = the_line; words = line_of_zeros; sixteen = refl; entries_are = refl; chosen = (refl, refl); number_is = refl; words_are = refl; answer_is = refl; lines_are = refl }),
      (
        with_lines behind_find,
        (refl, record { no_entry = refl; answer_is = refl; lines_are = refl; same_policy = refl }),
        (
          with_lines behind_drain,
          (record { carries = ([], record { before_keep = 0; before_set = 0; entries_are = refl }, refl); lines_are = refl }, refl),
          refl,
        ),
      ),
    ),
  );
  none_waits = refl;
}

all_more : {A : Type 0} (p : A → Type 0) (x : A) (xs : List A) → p x → All p xs → All p (x ∷ xs)
all_more p x xs here rest zero d within = here
all_more p x xs here rest (suc k) d within = rest k d (omega (arith, within))

of_core_0 : (entries : List BusEntry) → AllByRecursion (λ e. e.port ≡ 1) entries → All (IsOfCore 1) entries
of_core_0 [] all = λ k d within. absurd (omega (arith, within))
of_core_0 (e ∷ entries) all = all_more (IsOfCore 1) e entries (record { core = 0; exists = omega arith; port_is = all.0 }) (of_core_0 entries all.1)

-- With its history it is a run of one core.
pub waits_then_drains_runs : BusRun gives_oldest 1 1 8 (λ core. tt) line_of_zeros 1 (λ core. waits_then_drains) its_history
waits_then_drains_runs = record {
  legal = (refl, (refl, (refl, (refl, (refl, (refl, (refl, (refl, (refl, (refl, (refl, (refl, (refl, (refl, (refl, (refl, (refl, (refl, tt))))))))))))))))));
  of_cores = of_core_0 its_history (refl, (refl, (refl, (refl, (refl, (refl, (refl, (refl, (refl, (refl, (refl, (refl, (refl, (refl, (refl, (refl, (refl, (refl, tt))))))))))))))))));
  projected = one_core;
  did = did_one;
} where
  one_core : (core : ℕ) → core < 1 → entries_of (suc core) its_history ≡ entries_in waits_then_drains
  one_core zero within = refl
  one_core (suc core) within = absurd (omega (arith, within))

  did_one : (core : ℕ) → core < 1 → CoreDid gives_oldest 1 1 8 tt (suc core) waits_then_drains
  did_one zero within = waits_then_drains_did
  did_one (suc core) within = absurd (omega (arith, within))

-- The read that fills its line stands behind its sixteen loads, the write before it at 0, and all behind it where it stands.
pub its_places : places 1 its_history waits_then_drains ≡ 0 ∷ 16 ∷ 16 ∷ 16 ∷ []
its_places = refl

-- The bytes end as the core's own deeds leave them.
pub its_byte : byte_in (replay line_of_zeros its_history) 1 ≡ own_byte waits_then_drains 1 0
its_byte = refl

-- A cache without ways and without room makes the two entries of a part at once, and one load for a read.
abbrev pub writes_and_reads : List Deed
writes_and_reads =
    record { act = Writing 1 One 42; entries = byte_entries }
    ∷ record { act = Reading 0 Four 0x2a00; entries = load_entry 1 0 0x2a00 ∷ [] }
    ∷ []

pub writes_and_reads_did : CoreDid gives_oldest 1 0 0 tt 1 writes_and_reads
writes_and_reads_did = record {
  last = with_lines (no_lines 1 0 0);
  does = (
    with_lines (no_lines 1 0 0),
    (refl, record { carries = ([], record { before_keep = 0; before_set = 0; entries_are = refl }, refl); lines_are = refl }, refl),
    (
      with_lines (no_lines 1 0 0),
      (refl, record { word = 0x2a00; entries_are = refl; answer_is = refl; same_lines = refl; same_policy = refl }),
      refl,
    ),
  );
  none_waits = refl;
}
