-- What a launch leaves is what is printed from its memory.
use Rattle.std.proofs.Common.{◌≡◌, ℕ, zero, suc, ◌+◌, ◌*◌, ◌/◌, ◌%◌, ◌^◌, ◌<◌, List, [], ◌∷◌, ◌++◌, length, get_or, map, refl, ap, sym, ◌∙◌, arith, cond}
use Rattle.std.proofs.Math.Path.{fun_ext}
use Rattle.std.proofs.lemmas.Bool.{lt-ltb}
use Rattle.std.specs.List.{AllByRecursion, flat_map, range_with_len}
use Rattle.vx_base.specs.Bytes.{byte_of, field_of}
use Rattle.vx_base.proofs.NumberLaws.{number_of-same, number_of-whole}
use Rattle.vx_base.proofs.FieldLaws.{field_of-word}
use Rattle.item_acts.specs.Tame.{LaunchLeaves}
use Rattle.vx_run.specs.Answers.{bytes_in}
use Rattle.first_kernels.specs.First.{array_of, launch_of}
use Rattle.first_kernels.specs.FirstMemory.{stride, element_at, HasRun}
use Rattle.first_kernels.specs.FirstTree.{Form}
use Rattle.first_kernels.specs.FirstValues.{bytes_left, words_after, words_at, IsLaunchable}
use Rattle.vx_run.specs.Layout.{padded, shown_text}
use Rattle.vx_run.specs.Output.{buffer_text, name_of, words_of}
use Rattle.vx_words.specs.declared.run_words.BufWord.{BufWord}
use Rattle.first_kernels.proofs.FirstLaunchLeaves.{leaves}
use Rattle.vx_run.proofs.MemoryLaws.{AreWhole, element_of, contents_are_bytes}

-- functions that agree on numbers below a bound agree on a range below it
same_on_range : {X : Type 0} (f g : ℕ → X) (a n : ℕ) → ((k : ℕ) → k < a + n → f k ≡ g k) → map f (range_with_len a n) ≡ map g (range_with_len a n)
same_on_range f g a zero same = refl
same_on_range f g a (suc n) same =
    ap (λ x. x ∷ map f (range_with_len (a + 1) n)) (same a (omega arith))
    ∙ ap (λ xs. g a ∷ xs) (same_on_range f g (a + 1) n (λ k below. same k (omega arith)))

-- what is made of each element of a list that agrees on them
same_parts : (f g : ℕ → List ℕ) (n : ℕ) → ((b : ℕ) → b < n → f b ≡ g b) → (bs : List ℕ) → AllByRecursion (λ b. b < n) bs → flat_map f bs ≡ flat_map g bs
same_parts f g n same [] all = refl
same_parts f g n same (b ∷ bs) all = ap (λ x. x ++ flat_map f bs) (same b all.0) ∙ ap (λ x. g b ++ x) (same_parts f g n same bs all.1)

module _ (k : Form) (arguments : List ℕ) (items : ℕ) (buffers : List BufWord) (contents : List (List ℕ)) (after : List ℕ) where
  -- the bytes that the launch leaves
  abbrev pub left_by : ℕ → ℕ → ℕ
  left_by = bytes_left arguments items k.assignments (bytes_in contents)

  -- an item's element of a buffer, as the launch leaves it, is its element in the memory behind the run
  pub word_left : AreWhole items contents → ((i : ℕ) → get_or after i 0 < 256) →
      HasRun k arguments items (length buffers) (flat_map (padded items) contents) after →
      (b item : ℕ) → b < length buffers → item < items → words_at left_by item b ≡ element_at after items item b
  word_left whole fits run b item within inside =
      let before = flat_map (padded items) contents in
      let word = words_after (array_of arguments) item k.assignments (words_at (bytes_in contents) item) b in
      let opening : element_at before items item ≡ words_at (bytes_in contents) item = fun_ext (λ c. element_of items contents item c whole inside) in
      let same : element_at after items item b ≡ word =
      run.elements b item within inside ∙ ap (λ ws. words_after (array_of arguments) item k.assignments ws b) opening in
      let small : element_at after items item b < 2 ^ 32 = field_of-word after (b * stride items + 4 * item) 4 (omega arith) fits in
      let few : word < 256 ^ 4 = omega (arith, small, same) in
      let each : (j : ℕ) → j < 4 → left_by b (4 * item + j) ≡ byte_of word j = λ j below.
      let there : 4 * item + j < 4 * items = omega arith in
      let owner : (4 * item + j) / 4 ≡ item = omega arith in
      let place : (4 * item + j) % 4 ≡ j = omega arith in
      ap (λ t. cond t (byte_of (words_after (array_of arguments) ((4 * item + j) / 4) k.assignments (words_at (bytes_in contents) ((4 * item + j) / 4)) b) ((4 * item + j) % 4)) (bytes_in contents b (4 * item + j)))
      (lt-ltb (4 * item + j) (4 * items) there)
      ∙ ap (λ m. byte_of (words_after (array_of arguments) m k.assignments (words_at (bytes_in contents) m) b) ((4 * item + j) % 4)) owner
      ∙ ap (byte_of word) place in
      number_of-same (λ j. left_by b (4 * item + j)) (byte_of word) 4 each ∙ number_of-whole word 4 few ∙ sym same

  -- what is printed is the text of the bytes that the launch leaves
  pub printed : AreWhole items contents → ((i : ℕ) → get_or after i 0 < 256) →
      HasRun k arguments items (length buffers) (flat_map (padded items) contents) after →
      (shows : List ℕ) → AllByRecursion (λ b. b < length buffers) shows →
      flat_map (shown_text buffers items after) shows ≡ flat_map (λ b. buffer_text (name_of buffers b) (words_of items left_by b)) shows
  printed whole fits run shows all =
      same_parts (shown_text buffers items after) (λ b. buffer_text (name_of buffers b) (words_of items left_by b)) (length buffers)
      (λ b within. ap (buffer_text (name_of buffers b))
      (same_on_range (λ item. field_of after (b * stride items + 4 * item) 4) (λ item. words_at left_by item b) 0 items
      (λ item below. sym (word_left whole fits run b item within (omega arith))))) shows all

  -- and the launch does leave them
  pub left_bytes : IsLaunchable k arguments items (length buffers) → AreWhole items contents →
      ((i : ℕ) → get_or (flat_map (padded items) contents) i 0 < 256) →
      LaunchLeaves (launch_of k arguments items (length buffers)) (bytes_in contents) left_by
  left_bytes launchable whole fits = leaves k arguments items (length buffers) (bytes_in contents) launchable (contents_are_bytes items contents whole fits)
