-- Views that are cut, joined and closed keep the rule.
use Rattle.std.proofs.Common.{◌≡◌, ℕ, zero, suc, ◌^◌, ◌<◌, ⊎_elim, inl, inr, List, [], ◌∷◌, ◌++◌, length, set, refl, ap, sym, ◌∙◌, subst, All, arith, length-append}
use Rattle.std.proofs.lemmas.List.{append-nil, get_or_append_left}
use Rattle.std.proofs.Math.Seq.{get_or-append_seam}
use mathlib.Core.Option.{some, some-injective, some-ne-none}
use lib.ListN.{get_elem?}
use Rattle.atomic_table.specs.Table.{Splits, Joins, Final, Seen, opening}
use Rattle.atomic_table.proofs.Lists.{at_set, set_else}
use Rattle.memory_banks.specs.declared.entry.BusEntry.{BusEntry}
use Rattle.memory_banks.specs.declared.rule.View.{View}
use Rattle.memory_banks.specs.Entries.{entries_of, replay, IsLegal}
use Rattle.memory_banks.specs.Rule.{Among, Has, Fits, Kept, seat_of, one_of, without, held_of, least_of, giver, given, keeper, handed, teller, note, both, nothing, all_numbers, first_view}
use Rattle.memory_banks.specs.Ports.{EndsAs}
use Rattle.memory_banks.proofs.Histories.{IsLegal-front, length-replay}
use Rattle.memory_banks.proofs.Prefixes.{none_behind, own_entry, entries-append}
use Rattle.memory_banks.proofs.Sets.{none_among, among_below, only_one, without_among, not_without, least_among, among_all}
use Rattle.memory_banks.proofs.Steps.{Shared}
use Rattle.memory_banks.proofs.Views.{Knows-all, Knows-fewer, Knows-nothing, apart_split, apart_join, at_end}

-- a view with some of the numbers fits
Fits-fewer : (opening : List ℕ) (log : List BusEntry) (v : View) (number fewer : ℕ) → ((k : ℕ) → Among fewer k → Among v.numbers k) → Fits opening log v → Fits opening log (seat_of v number fewer)
Fits-fewer opening log v number fewer within fits = record {
  own = Knows-fewer log v.numbers fewer v.seen within fits.own;
  told = Knows-nothing log;
  opening_is = λ k has. ⊎_elim (λ among. fits.opening_is k (inl (within k among))) (λ among. absurd (none_among k among)) has;
}

fewer_has : (v : View) (number fewer : ℕ) → ((k : ℕ) → Among fewer k → Among v.numbers k) → (k : ℕ) → Has (seat_of v number fewer) k → Has v k
fewer_has v number fewer within k has = ⊎_elim (λ among. inl (within k among)) (λ among. absurd (none_among k among)) has

-- a view is cut into two with some of its numbers each, and none in both
cuts : (opening : List ℕ) (id : ℕ) (v : View) (a b left right : ℕ) → ((k : ℕ) → Among left k → Among v.numbers k) → ((k : ℕ) → Among right k → Among v.numbers k)
    → ((k : ℕ) → Among left k → Among right k → ⊥) → Splits (Kept opening) id v (seat_of v a left) (seat_of v b right)
cuts opening id v a b left right lefts rights parts s k at =
    let l : View = seat_of v a left in
    let r : View = seat_of v b right in
    let fits = k.fits id v at in
    record {
      log = k.log;
      legal = k.legal;
      words = k.words;
      small = k.small;
      ports = k.ports;
      fits = λ j u there. ⊎_elim
          (λ old. ⊎_elim
          (λ same. subst (Fits opening k.log) same.1 (Fits-fewer opening k.log v a left lefts fits))
          (λ other. k.fits j u other.1)
          (at_set s.views id j l u old.1))
          (λ new. subst (Fits opening k.log) new.1 (Fits-fewer opening k.log v b right rights fits))
          (at_end (set s.views id l) r u j there);
      apart = apart_split s.views id v l r at (fewer_has v a left lefts) (fewer_has v b right rights)
          (λ j has has'. ⊎_elim
          (λ among. ⊎_elim (λ among'. parts j among among') (λ among'. none_among j among') has')
          (λ among. none_among j among)
          has)
          k.apart;
    }

-- a port gives the least number that it holds
pub gives : (opening : List ℕ) (id : ℕ) (v : View) → v.numbers < 2 ^ 16 → 0 < held_of v → held_of v < 2 ^ 16 → Splits (Kept opening) id v (giver v) (given v)
gives opening id v few some_held few_held =
    let least = least_among (held_of v) some_held (omega arith) in
    let below : least_of v < 16 = among_below (held_of v) (least_of v) few_held least in
    cuts opening id v v.number (least_of v) (without v.numbers (least_of v)) (one_of (least_of v))
    (λ j among. without_among v.numbers (least_of v) j among)
    (λ j among. subst (Among v.numbers) (sym (only_one (least_of v) j (omega arith) among)) (without_among v.numbers v.number (least_of v) least))
    (λ j among among'. not_without v.numbers (least_of v) (omega arith) (subst (Among (without v.numbers (least_of v))) (only_one (least_of v) j (omega arith) among') among))

-- a port keeps its own number alone
pub hands_over : (opening : List ℕ) (id : ℕ) (v : View) → v.numbers < 2 ^ 16 → Among v.numbers v.number → Splits (Kept opening) id v (keeper v) (handed v)
hands_over opening id v few own =
    let below : v.number < 16 = among_below v.numbers v.number few own in
    cuts opening id v v.number v.number (one_of v.number) (held_of v)
    (λ j among. subst (Among v.numbers) (sym (only_one v.number j (omega arith) among)) own)
    (λ j among. without_among v.numbers v.number j among)
    (λ j among among'. not_without v.numbers v.number (omega arith) (subst (Among (held_of v)) (only_one v.number j (omega arith) among) among'))

-- a note has no number
pub notes : (opening : List ℕ) (id : ℕ) (v : View) → Splits (Kept opening) id v (teller v) (note v)
notes opening id v = cuts opening id v v.number 0 v.numbers 0 (λ j among. among) (λ j among. absurd (none_among j among)) (λ j among among'. none_among j among')

-- a port takes in what another knows
pub takes : (opening : List ℕ) (id : ℕ) (v : View) (other : ℕ) (w : View) → Among v.numbers v.number → Joins (Kept opening) id v other w (both v w) nothing
takes opening id v other w own s k at apart there =
    let b : View = both v w in
    let was : get_elem? s.views other ≡ some w = sym (set_else s.views id other b apart) ∙ there in
    let fits = k.fits id v at in
    let fits' = k.fits other w was in
    record {
      log = k.log;
      legal = k.legal;
      words = k.words;
      small = k.small;
      ports = k.ports;
      fits = λ j u now. ⊎_elim
          (λ same. subst (Fits opening k.log) same.1 (record {
            own = Knows-nothing k.log;
            told = Knows-nothing k.log;
            opening_is = λ i has. absurd (⊎_elim (none_among i) (none_among i) has);
          }))
          (λ old. ⊎_elim
          (λ same. subst (Fits opening k.log) same.1 (record {
            own = fits.own;
            told = fits'.own;
            opening_is = λ i has. fits.opening_is v.number (inl own);
          }))
          (λ elsewhere. k.fits j u elsewhere.1)
          (at_set s.views id j b u old.1))
          (at_set (set s.views id b) other j nothing u now);
      apart = apart_join s.views id v other w b nothing at was
          (λ j has. ⊎_elim (λ among. inl (inl among)) (λ among. inr (inl among)) has)
          (λ j has. ⊎_elim (none_among j) (none_among j) has)
          k.apart;
    }

-- who has every number has seen the whole history
settled_end : (log seen rest : List BusEntry) → seen ++ rest ≡ log → All (λ e. e.port < 16) log → ((k : ℕ) → k < 16 → entries_of k seen ≡ entries_of k log) → rest ≡ []
settled_end log seen [] front ports whole = refl
settled_end log seen (e ∷ rest) front ports whole =
    let here : All (λ f. f.port < 16) (seen ++ e ∷ rest) = subst (All (λ f. f.port < 16)) (sym front) ports in
    let within : length seen < length (seen ++ e ∷ rest) = omega (arith, length-append seen (e ∷ rest)) in
    let below : e.port < 16 = subst (λ (f : BusEntry). f.port < 16) (get_or-append_seam seen e rest e) (here (length seen) e within) in
    let none : entries_of e.port (e ∷ rest) ≡ [] = none_behind e.port seen (e ∷ rest) log front (whole e.port below) in
    let own : entries_of e.port (e ∷ rest) ≡ (e ∷ []) ++ entries_of e.port rest = entries-append e.port (e ∷ []) rest ∙ ap (λ (es : List BusEntry). es ++ entries_of e.port rest) (own_entry e) in
    let longer = ap (λ (es : List BusEntry). length es) (sym own ∙ none) in
    absurd (omega (arith, longer))

-- at the end there is a history behind what a view has seen, and the words are those that it leaves
pub closes : (opening : List ℕ) (id : ℕ) (v : View) (ws : List ℕ) (xs : List (Unit {0})) → Final (Seen (Kept opening) id v) ws xs
    → (words : List ℕ) × EndsAs opening v.numbers v.seen words × (ws ≡ words ++ 0 ∷ []) × All (λ w. w < 2 ^ 32) words × (length words ≡ length opening)
closes opening id v ws xs f =
    let s : Shared = f.0 in
    let k : Kept opening s = f.1.0 in
    let fits = k.fits id v f.1.1 in
    let rest : List BusEntry = fits.own.begins.0 in
    let front : v.seen ++ rest ≡ k.log = fits.own.begins.1 in (
      replay opening k.log,
      record {
        behind = rest;
        none_own = λ j among. none_behind j v.seen rest k.log front (fits.own.whole j among);
        legal = subst (IsLegal opening) (sym front) k.legal;
        ports = subst (λ (es : List BusEntry). All (λ e. e.port < 16) es) (sym front) k.ports;
        words_are = ap (replay opening) (sym front);
      },
      sym f.2 ∙ k.words,
      k.small,
      length-replay opening k.log,
    )

-- what a port has seen of it
pub seen_legal : (opening : List ℕ) (numbers : ℕ) (seen : List BusEntry) (words : List ℕ) → EndsAs opening numbers seen words → IsLegal opening seen
seen_legal opening numbers seen words e = IsLegal-front opening seen e.behind e.legal

pub seen_ports : (opening : List ℕ) (numbers : ℕ) (seen : List BusEntry) (words : List ℕ) → EndsAs opening numbers seen words → All (λ e. e.port < 16) seen
seen_ports opening numbers seen words e k d within =
    let longer : k < length (seen ++ e.behind) = omega (arith, within, length-append seen e.behind) in
    subst (λ (f : BusEntry). f.port < 16) (get_or_append_left seen e.behind d k within) (e.ports k d longer)

pub seen_all : (opening : List ℕ) (numbers : ℕ) (seen : List BusEntry) (words : List ℕ) → numbers ≡ 65535 → EndsAs opening numbers seen words → words ≡ replay opening seen
seen_all opening numbers seen words all e =
    let none : e.behind ≡ [] = settled_end (seen ++ e.behind) seen e.behind refl e.ports (λ j within.
    sym (append-nil (entries_of j seen))
    ∙ (ap (λ (es : List BusEntry). entries_of j seen ++ es) (sym (e.none_own j (subst (λ (n : ℕ). Among n j) (sym all) (among_all j within))))
    ∙ sym (entries-append j seen e.behind))) in
    e.words_are ∙ ap (replay opening) (ap (λ (es : List BusEntry). seen ++ es) none ∙ append-nil seen)

-- a list of one
alone : {A : Type 0} {x : A} (id : ℕ) (v : A) → get_elem? (x ∷ []) id ≡ some v → (id ≡ 0) × (x ≡ v)
alone {x = x} zero v at = (refl, some-injective x v at)
alone (suc id) v at = absurd (some-ne-none v (sym at))

-- the words and the first view at the start
pub opens : (first : List ℕ) (ws : List ℕ) → ws ≡ first ++ 0 ∷ [] → All (λ w. w < 2 ^ 32) first → Kept first (opening ws [] (first_view first))
opens first ws is small = record {
  log = [];
  legal = tt;
  words = is;
  small = small;
  ports = λ k d within. absurd (omega arith);
  fits = λ id v at. subst (Fits first []) (alone id v at).1 (record { own = Knows-all [] all_numbers; told = Knows-nothing []; opening_is = λ k has. refl });
  apart = λ id other v w k at at' has has'. (alone id v at).0 ∙ sym (alone other w at').0;
}
