-- The words of `run`, from the words behind the file and what they say.
use Rattle.std.proofs.Common.{◌≡◌, ℕ, zero, suc, ◌+◌, ◌≤◌, ◌⊎◌, inl, inr, Result, Ok, Err, List, [], ◌∷◌, length, get_or, drop, map, Some, refl, sym, ap, ◌∙◌, subst, arith}
use Rattle.std.specs.Prelude.{codes, slice_get}
use Rattle.std.specs.List.{AllByRecursion, filter_map}
use Rattle.std.proofs.lemmas.List.{length-map}
use Rattle.std.proofs.lemmas.Option.{same_Some}
use Rattle.std.proofs.lemmas.List.Elements.{All-from_recursion, recursion_from_All}
use Rattle.vx_words.specs.declared.run_words.BufWord.{BufWord}
use Rattle.vx_words.specs.declared.run_words.RunWords.{RunWords}
use Rattle.vx_words.specs.declared.form.Parts.{Parts}
use Rattle.vx_words.specs.declared.further.DoWord.{DoWord}
use Rattle.vx_words.specs.declared.usage.UsageKind.TheVariants.{Form}
use Rattle.vx_words.specs.declared.usage.UsageFault.{UsageFault}
use Rattle.vx_words.specs.declared.usage.UsageFault.TheVariants.{Usage, Memory}
use Rattle.vx_words.specs.Names.{IsName}
use Rattle.vx_words.specs.Words.{Further, Buffer, Launch, Show, LaunchWord, word_text, buffer_of, launch_of_word, show_of, IsOrigin, AreNumbersOf, IsRun}
use Rattle.vx_words.specs.WordForms.{BeginsRun, Finds, IsFurther, Spells, IsParts, IsMeaning, launch_word}
use Rattle.vx_words.proofs.NumberedNames.{names_of, AreNumbersOf-length, AreNumbersOf-same}
use Rattle.vx_words.proofs.FurtherTexts.{word_same}

abbrev IsBuffer : BufWord → Type 0
IsBuffer b = IsName b.name × IsOrigin b.from

abbrev IsLaunch : LaunchWord → Type 0
IsLaunch d = IsName d.entry × (1 ≤ d.items) × (d.items ≤ 32) × AllByRecursion IsName d.names

-- words that spell words behind the file spell one list of them
texts_same : (f g : List Further) → AllByRecursion IsFurther f → AllByRecursion IsFurther g → map word_text f ≡ map word_text g → f ≡ g
texts_same [] [] h k e = refl
texts_same [] (y ∷ g) h k e = cc
texts_same (x ∷ f) [] h k e = cc
texts_same (x ∷ f) (y ∷ g) h k e =
    let heads : word_text x ≡ word_text y = ap (λ (l : List (List ℕ)). get_or l 0 []) e in
    let tails : map word_text f ≡ map word_text g = ap (drop 1) e in
    let one : x ≡ y = word_same x y h.0 k.0 heads in
    let rest : f ≡ g = texts_same f g h.1 k.1 tails in
    cc

Spells-same : (words : List (List ℕ)) (f g : List Further) → Spells f words → Spells g words → f ≡ g
Spells-same words f g h k = texts_same f g h.each k.each (sym h.texts ∙ k.texts)

-- how many words there are of each kind
length-kinds : (f : List Further) → length f ≡ length (filter_map buffer_of f) + length (filter_map launch_of_word f) + length (filter_map show_of f)
length-kinds [] = refl
length-kinds (Buffer b ∷ f) = omega (arith, length-kinds f)
length-kinds (Launch entry items names ∷ f) = omega (arith, length-kinds f)
length-kinds (Show name ∷ f) = omega (arith, length-kinds f)

-- each word is one that may stand behind the file where each kind of them is so
each_from_kinds : (f : List Further) → AllByRecursion IsBuffer (filter_map buffer_of f) → AllByRecursion IsLaunch (filter_map launch_of_word f) → AllByRecursion IsName (filter_map show_of f) → AllByRecursion IsFurther f
each_from_kinds [] b l s = tt
each_from_kinds (Buffer x ∷ f) b l s = (b.0, each_from_kinds f b.1 l s)
each_from_kinds (Launch entry items names ∷ f) b l s = (l.0, each_from_kinds f b l.1 s)
each_from_kinds (Show name ∷ f) b l s = (s.0, each_from_kinds f b l s.1)

buffers_from_each : (f : List Further) → AllByRecursion IsFurther f → AllByRecursion IsBuffer (filter_map buffer_of f)
buffers_from_each [] h = tt
buffers_from_each (Buffer x ∷ f) h = (h.0, buffers_from_each f h.1)
buffers_from_each (Launch entry items names ∷ f) h = buffers_from_each f h.1
buffers_from_each (Show name ∷ f) h = buffers_from_each f h.1

launches_from_each : (f : List Further) → AllByRecursion IsFurther f → AllByRecursion IsLaunch (filter_map launch_of_word f)
launches_from_each [] h = tt
launches_from_each (Buffer x ∷ f) h = launches_from_each f h.1
launches_from_each (Launch entry items names ∷ f) h = (h.0, launches_from_each f h.1)
launches_from_each (Show name ∷ f) h = launches_from_each f h.1

-- what numbers name is a name
name_of_buffer : (bs : List BufWord) (n : ℕ) (name : List ℕ) → AllByRecursion IsBuffer bs → slice_get (names_of bs) n ≡ Some name → IsName name
name_of_buffer [] n name h e = cc
name_of_buffer (b ∷ bs) zero name h e = subst IsName (same_Some b.name name e) h.0.0
name_of_buffer (b ∷ bs) (suc n) name h e = name_of_buffer bs n name h.1 e

names_from_numbers : (bs : List BufWord) (ns : List ℕ) (names : List (List ℕ)) → AllByRecursion IsBuffer bs → AreNumbersOf bs ns names → AllByRecursion IsName names
names_from_numbers bs [] [] b h = tt
names_from_numbers bs (n ∷ ns) (name ∷ names) b h = (name_of_buffer bs n name b h.1, names_from_numbers bs ns names b h.2)
names_from_numbers bs [] (name ∷ names) b h = absurd h
names_from_numbers bs (n ∷ ns) [] b h = absurd h

-- the words behind the file are each as they may be
pub run_each : (ws : List (List ℕ)) (c : RunWords) (h : IsRun ws c) → AllByRecursion IsFurther h.further
run_each ws c h =
    let bs : AllByRecursion IsBuffer c.buffers = recursion_from_All IsBuffer c.buffers h.buffer_names in
    let names = names_from_numbers c.buffers c.arguments h.names bs h.arguments in
    each_from_kinds h.further
    (subst (AllByRecursion IsBuffer) (sym h.buffers) bs)
    (subst (AllByRecursion IsLaunch) (sym h.launch) ((h.entry_name, h.items_some, h.items_few, names), tt))
    (names_from_numbers c.buffers c.shows (filter_map show_of h.further) bs h.shows)

launches_one : (ls : List DoWord) (l : LaunchWord) → map launch_word ls ≡ l ∷ [] → ls ≡ record { entry = l.entry; items = l.items; names = l.names } ∷ []
launches_one [] l e = cc
launches_one (d ∷ []) l e =
    let back : LaunchWord → List DoWord = λ (x : LaunchWord). record { entry = x.entry; items = x.items; names = x.names } ∷ [] in
    ap back (ap (λ (x : List LaunchWord). get_or x 0 l) e)
launches_one (d ∷ x ∷ ls) l e = cc

module _ (file : List ℕ) (words : List (List ℕ)) where
  -- the words behind the file, where the words are those of `run`
  pub run_spells : (c : RunWords) (h : IsRun (codes "run" ∷ file ∷ words) c) → Spells h.further words
  run_spells c h = record { texts = ap (drop 2) h.spelled; each = run_each (codes "run" ∷ file ∷ words) c h }

  pub run_file : (c : RunWords) (h : IsRun (codes "run" ∷ file ∷ words) c) → c.file ≡ file
  run_file c h = sym (ap (λ (l : List (List ℕ)). get_or l 1 []) h.spelled)

  pub run_short : (c : RunWords) (h : IsRun (codes "run" ∷ file ∷ words) c) → length words ≤ 33
  run_short c h =
      let texts : length words ≡ length (map word_text h.further) = ap (λ (l : List (List ℕ)). length l) (ap (drop 2) h.spelled) in
      let same : length (map word_text h.further) ≡ length h.further = length-map h.further word_text in
      let buffers : length (filter_map buffer_of h.further) ≡ length c.buffers = ap (λ (l : List BufWord). length l) h.buffers in
      let launches : length (filter_map launch_of_word h.further) ≡ 1 = ap (λ (l : List LaunchWord). length l) h.launch in
      let shows = AreNumbersOf-length c.buffers c.shows (filter_map show_of h.further) h.shows in
      let few_buffers = h.few_buffers in
      let few_shows = h.few_shows in
      omega (arith, length-kinds h.further)

  module _ (further : List Further) (parts : Parts) (spells : Spells further words) (is : IsParts further parts) where
    -- what the parts ask for is what the words of `run` ask for
    pub run_from_meaning : (c : RunWords) → c.file ≡ file → IsMeaning parts c → IsRun (codes "run" ∷ file ∷ words) c
    run_from_meaning c same m =
        let bs : AllByRecursion IsBuffer c.buffers = subst (AllByRecursion IsBuffer) (is.buffers ∙ m.buffers) (buffers_from_each further spells.each) in
        let launch : filter_map launch_of_word further ≡ record { entry = c.entry; items = c.items; names = m.names } ∷ [] = is.launches ∙ ap (map launch_word) m.launch in
        let one = subst (AllByRecursion IsLaunch) launch (launches_from_each further spells.each) in
        record {
          further = further;
          spelled = ap (λ (l : List (List ℕ)). codes "run" ∷ file ∷ l) spells.texts ∙ ap (λ (f : List ℕ). codes "run" ∷ f ∷ map word_text further) (sym same);
          buffers = is.buffers ∙ m.buffers;
          names = m.names;
          launch = launch;
          arguments = m.arguments;
          shows = subst (AreNumbersOf c.buffers c.shows) (sym is.shows) m.shows;
          few_buffers = m.few_buffers;
          few_shows = m.few_shows;
          items_some = one.0.1;
          items_few = one.0.2;
          entry_name = one.0.0;
          buffer_names = All-from_recursion IsBuffer c.buffers bs;
          distinct = m.distinct;
        }

    -- and the other way
    pub meaning_from_run : (c : RunWords) (h : IsRun (codes "run" ∷ file ∷ words) c) → (c.file ≡ file) × IsMeaning parts c
    meaning_from_run c h =
        let same : h.further ≡ further = Spells-same words h.further further (run_spells c h) spells in
        let launches = sym is.launches ∙ ap (filter_map launch_of_word) (sym same) ∙ h.launch in
        let shows : filter_map show_of h.further ≡ parts.shows = ap (filter_map show_of) same ∙ is.shows in (
          run_file c h,
          record {
            buffers = sym is.buffers ∙ ap (filter_map buffer_of) (sym same) ∙ h.buffers;
            names = h.names;
            launch = launches_one parts.launches _ launches;
            arguments = h.arguments;
            shows = subst (AreNumbersOf c.buffers c.shows) shows h.shows;
            few_buffers = h.few_buffers;
            few_shows = h.few_shows;
            distinct = h.distinct;
          },
        )

-- the words of `run` from their fields
run_record : List ℕ → List BufWord → List ℕ → ℕ → List ℕ → List ℕ → RunWords
run_record file buffers entry items arguments shows = record { file = file; buffers = buffers; entry = entry; items = items; arguments = arguments; shows = shows }

same_fields : (c d : RunWords) → c.file ≡ d.file → c.buffers ≡ d.buffers → c.entry ≡ d.entry → c.items ≡ d.items → c.arguments ≡ d.arguments → c.shows ≡ d.shows → c ≡ d
unfolding run_record
same_fields c d file buffers entry items arguments shows =
    let one : c ≡ run_record c.file c.buffers c.entry c.items c.arguments c.shows = refl in
    let two : run_record d.file d.buffers d.entry d.items d.arguments d.shows ≡ d = refl in
    one ∙ same_record ∙ two
  where
    same_record : run_record c.file c.buffers c.entry c.items c.arguments c.shows ≡ run_record d.file d.buffers d.entry d.items d.arguments d.shows
    same_record = cc

-- words ask for one thing
pub IsRun-same : (ws : List (List ℕ)) (c d : RunWords) → IsRun ws c → IsRun ws d → c ≡ d
IsRun-same ws c d h k =
    let texts : codes "run" ∷ c.file ∷ map word_text h.further ≡ codes "run" ∷ d.file ∷ map word_text k.further = sym h.spelled ∙ k.spelled in
    let further : h.further ≡ k.further = texts_same h.further k.further (run_each ws c h) (run_each ws d k) (ap (drop 2) texts) in
    let files : c.file ≡ d.file = ap (λ (l : List (List ℕ)). get_or l 1 []) texts in
    let buffers : c.buffers ≡ d.buffers = sym h.buffers ∙ ap (filter_map buffer_of) further ∙ k.buffers in
    let launches = sym h.launch ∙ ap (filter_map launch_of_word) further ∙ k.launch in
    let past : LaunchWord = record { entry = []; items = 0; names = [] } in
    let launch = ap (λ (l : List LaunchWord). get_or l 0 past) launches in
    let entries : c.entry ≡ d.entry = ap (λ (l : LaunchWord). l.entry) launch in
    let items : c.items ≡ d.items = ap (λ (l : LaunchWord). l.items) launch in
    let names : h.names ≡ k.names = ap (λ (l : LaunchWord). l.names) launch in
    let arguments' : AreNumbersOf d.buffers c.arguments k.names = subst (AreNumbersOf d.buffers c.arguments) names (subst (λ (l : List BufWord). AreNumbersOf l c.arguments h.names) buffers h.arguments) in
    let shows' : AreNumbersOf d.buffers c.shows (filter_map show_of k.further) = subst (AreNumbersOf d.buffers c.shows) (ap (filter_map show_of) further) (subst (λ (l : List BufWord). AreNumbersOf l c.shows (filter_map show_of h.further)) buffers h.shows) in
    same_fields c d files buffers entries items
    (AreNumbersOf-same d.buffers c.arguments d.arguments k.names k.distinct arguments' k.arguments)
    (AreNumbersOf-same d.buffers c.shows d.shows (filter_map show_of k.further) k.distinct shows' k.shows)

-- what is found is the only thing that there is to find
pub only_from_finds : (ws : List (List ℕ)) (r : Result RunWords UsageFault) → Finds r (IsRun ws) → (c : RunWords) → IsRun ws c → (r ≡ Ok c) ⊎ (r ≡ Err Memory)
only_from_finds ws (Ok d) f c h = inl (ap (λ (x : RunWords). Ok x) (IsRun-same ws d c f h))
only_from_finds ws (Err (Usage word kind)) f c h = absurd (f.2 c h)
only_from_finds ws (Err Memory) f c h = inr refl

pub form_from_finds : (ws : List (List ℕ)) (r : Result RunWords UsageFault) → Finds r (IsRun ws) → BeginsRun ws → (word : ℕ) → r ≡ Err (Usage word Form) → (word ≡ 0) × BeginsRun ws × ((c : RunWords) → IsRun ws c → ⊥)
form_from_finds ws r f begins word e =
    let P : Result RunWords UsageFault → Type 0 = λ (x : Result RunWords UsageFault). Finds x (IsRun ws) in
    let g : Finds (Err (Usage word Form)) (IsRun ws) = subst P e f in
    (g.0, begins, g.2)
