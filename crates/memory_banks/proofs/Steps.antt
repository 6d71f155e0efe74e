-- Each step on a word keeps the rule, and adds one entry; a look adds none.
use Rattle.std.proofs.Common.{◌≡◌, ℕ, ◌^◌, ◌<◌, ⊎_elim, inl, List, [], ◌∷◌, ◌++◌, length, set, get_or, refl, ap, sym, ◌∙◌, subst, All, arith, bit_or}
use Rattle.std.proofs.lemmas.List.{set-append_left, get_or_append_left, set-get_or}
use Rattle.std.proofs.lemmas.List.Elements.{All-push, All-set}
use mathlib.Core.Option.{some}
use lib.ListN.{get_elem?}
use Rattle.atomic_table.specs.Table.{State, Me, keeps, Allows}
use Rattle.atomic_table.proofs.Lists.{at_set}
use Rattle.memory_banks.specs.declared.entry.BusKind.{BusKind}
use Rattle.memory_banks.specs.declared.entry.BusEntry.{BusEntry}
use Rattle.memory_banks.specs.declared.rule.View.{View}
use Rattle.memory_banks.specs.Entries.{answer_to, changed, entries_of, replay, IsAnswered}
use Rattle.memory_banks.specs.Rule.{Among, Has, Fits, Kept, Makes, Looks, with_seen, entry_by}
use Rattle.memory_banks.proofs.Prefixes.{prefix_self, none_behind}
use Rattle.memory_banks.proofs.Histories.{replay-append, length-replay, IsLegal-push, changed-lt}
use Rattle.memory_banks.proofs.Sets.{none_among, among_below, either_among}
use Rattle.memory_banks.proofs.Views.{Knows-all, Knows-nothing, Fits-longer, apart_set}

abbrev pub Shared : Type 0
Shared = State (Unit {0}) View

abbrev pub Seated : Type 0
Seated = Me (Unit {0}) View

-- the view knows what is told to it of no number
abbrev pub IsSettled : View → Type 0
IsSettled v = v.told_numbers ≡ 0

no_told : (v : View) → IsSettled v → (k : ℕ) → ¬ (Among v.told_numbers k)
no_told v settled k among = none_among k (subst (λ (n : ℕ). Among n k) settled among)

-- the word before, as the history has it
found_is : (opening : List ℕ) (s : Shared) → (k : Kept opening s) → (i : ℕ) → i < length opening → get_or s.words i 0 ≡ get_or (replay opening k.log) i 0
found_is opening s k i within =
    let len = length-replay opening k.log in
    ap (λ (ws : List ℕ). get_or ws i 0) k.words ∙ get_or_append_left (replay opening k.log) (0 ∷ []) 0 i (omega arith)

-- one entry more keeps the rule
appends : (opening : List ℕ) (s : Shared) (id : ℕ) (v : View) (e : BusEntry) → (k : Kept opening s) → get_elem? s.views id ≡ some v
    → e.port ≡ v.number → Among v.numbers v.number → IsSettled v → v.numbers < 2 ^ 16 → e.word < length opening → e.operand < 2 ^ 32 → IsAnswered (replay opening k.log) e
    → (x : ℕ) → x ≡ changed e.kind (get_or (replay opening k.log) e.word 0) e.operand
    → Kept opening record { words = set s.words e.word x; homes = s.homes; views = set s.views id (with_seen v (k.log ++ e ∷ [])) }
appends opening s id v e k at by own settled few within fits answered x is =
    let log : List BusEntry = k.log ++ e ∷ [] in
    let row : List ℕ = replay opening k.log in
    let len = length-replay opening k.log in
    let w : View = with_seen v log in
    let small : x < 2 ^ 32 = subst (λ (y : ℕ). y < 2 ^ 32) (sym is) (changed-lt e.kind (get_or row e.word 0) e.operand (k.small e.word 0 (omega arith)) fits) in
    let replayed : replay opening log ≡ set row e.word x = replay-append opening k.log (e ∷ []) ∙ ap (λ (y : ℕ). set row e.word y) (sym is) in
    let below : v.number < 16 = among_below v.numbers v.number few own in
    record {
      log = log;
      legal = IsLegal-push opening k.log e k.legal answered;
      words = ap (λ (ws : List ℕ). set ws e.word x) k.words ∙ (set-append_left row (0 ∷ []) e.word x (omega arith) ∙ ap (λ (ws : List ℕ). ws ++ 0 ∷ []) (sym replayed));
      small = subst (All (λ y. y < 2 ^ 32)) (sym replayed) (All-set (λ y. y < 2 ^ 32) row e.word x small k.small);
      ports = All-push (λ f. f.port < 16) k.log e k.ports (omega arith);
      fits = λ j u there. ⊎_elim
          (λ same. subst (Fits opening log) same.1 (record {
            own = Knows-all log v.numbers;
            told = record {
              begins = Rattle.memory_banks.proofs.Prefixes.prefix_longer v.told k.log (e ∷ []) (k.fits id v at).told.begins;
              whole = λ j among. absurd (no_told v settled j among);
            };
            opening_is = (k.fits id v at).opening_is;
          }))
          (λ other. Fits-longer opening k.log u e
          (λ has. other.0 (k.apart j id u v v.number other.1 at (subst (Has u) by has) (inl own)))
          (k.fits j u other.1))
          (at_set s.views id j w u there);
      apart = apart_set s.views id v w at (λ j has. has) k.apart;
    }

-- what the port is told of its entry
tells : (opening : List ℕ) (s : Shared) (id : ℕ) (v : View) (e : BusEntry) → (k : Kept opening s) → get_elem? s.views id ≡ some v
    → e.port ≡ v.number → Among v.numbers v.number → IsAnswered (replay opening k.log) e → Makes v e (with_seen v (k.log ++ e ∷ []))
tells opening s id v e k at by own answered =
    let fits = k.fits id v at in
    let rest : List BusEntry = fits.own.begins.0 in
    let front : v.seen ++ rest ≡ k.log = fits.own.begins.1 in
    let none : entries_of v.number rest ≡ [] = none_behind v.number v.seen rest k.log front (fits.own.whole v.number own) in
    let same : v.opening ≡ opening = fits.opening_is v.number (inl own) in
    record {
      adds = record {
        between = rest;
        all = ap (λ (es : List BusEntry). es ++ e ∷ []) (sym front);
        none_own = ap (λ (port : ℕ). entries_of port rest) by ∙ none;
        answered = subst (λ (z : List ℕ × List BusEntry). IsAnswered (replay z.0 z.1) e) (λ i. (sym same i, sym front i)) answered;
      };
      rest = refl;
    }

-- a step of any kind
pub steps : (opening : List ℕ) (slots id : ℕ) (me : Seated) (kind : BusKind) (i operand : ℕ)
    → Among me.0.numbers me.0.number → IsSettled me.0 → me.0.numbers < 2 ^ 16 → i < length opening → operand < 2 ^ 32
    → Allows (Kept opening) slots id me i (λ n. changed kind n operand)
    (λ found after. Makes me.0 (entry_by me.0 kind i operand (answer_to kind found)) after.0 × (after.1 ≡ me.1) × (found < 2 ^ 32))
steps opening slots id me kind i operand own settled few within fits s k count at wide =
    let v : View = me.0 in
    let n : ℕ = get_or s.words i 0 in
    let found : n ≡ get_or (replay opening k.log) i 0 = found_is opening s k i within in
    let len = length-replay opening k.log in
    let small : get_or (replay opening k.log) i 0 < 2 ^ 32 = k.small i 0 (omega arith) in
    let e : BusEntry = entry_by v kind i operand (answer_to kind n) in
    let answered : IsAnswered (replay opening k.log) e = ap (answer_to kind) found in (
      with_seen v (k.log ++ e ∷ []),
      keeps,
      tt,
      appends opening s id v e k at refl own settled few within fits answered (changed kind n operand) (ap (λ (y : ℕ). changed kind y operand) found),
      (tells opening s id v e k at refl own answered, refl, omega arith),
    )

-- a load that makes no entry
pub looks : (opening : List ℕ) (slots id : ℕ) (me : Seated) → Allows (Kept opening) slots id me 0 (λ n. n) (λ found after. Looks me.0 after.0 × (after.1 ≡ me.1))
looks opening slots id me s k count at wide =
    let v : View = me.0 in
    let fits = k.fits id v at in
    let w : View = record { opening = v.opening; number = v.number; numbers = bit_or v.numbers v.told_numbers; seen = k.log; told_numbers = 0; told = [] } in
    let fewer : (j : ℕ) → Has w j → Has v j = λ j has. ⊎_elim (λ among. either_among v.numbers v.told_numbers j among) (λ among. absurd (none_among j among)) has in (
      w,
      keeps,
      tt,
      record {
        log = k.log;
        legal = k.legal;
        words = set-get_or s.words 0 0 ∙ k.words;
        small = k.small;
        ports = k.ports;
        fits = λ j u there. ⊎_elim
            (λ same. subst (Fits opening k.log) same.1 (record {
              own = Knows-all k.log w.numbers;
              told = Knows-nothing k.log;
              opening_is = λ i has. fits.opening_is i (fewer i has);
            }))
            (λ other. k.fits j u other.1)
            (at_set s.views id j w u there);
        apart = apart_set s.views id v w at fewer k.apart;
      },
      (
        record {
          begins = fits.own.begins;
          told_begins = fits.told.begins;
          own = λ j among. sym (fits.own.whole j among);
          told = λ j among. sym (fits.told.whole j among);
          rest = refl;
        },
        refl,
      ),
    )
