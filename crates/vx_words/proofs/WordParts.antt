-- The words behind the file, by what they say.
use Rattle.std.proofs.Common.{◌≡◌, ℕ, List, [], ◌∷◌, ◌++◌, map, sym, ap, ◌∙◌, append-nil}
use Rattle.std.specs.Prelude.{Option}
use Rattle.std.specs.List.{filter_map}
use Rattle.std.proofs.lemmas.List.{map-append}
use Rattle.std.proofs.lemmas.List.Elements.{filter_map-append}
use Rattle.vx_words.specs.declared.run_words.BufWord.{BufWord}
use Rattle.vx_words.specs.declared.further.DoWord.{DoWord}
use Rattle.vx_words.specs.declared.further.FurtherWord.{FurtherWord}
use Rattle.vx_words.specs.declared.further.FurtherWord.TheVariants.{Buf, Do, Print}
use Rattle.vx_words.specs.Words.{Further, buffer_of, launch_of_word, show_of}
use Rattle.vx_words.specs.WordForms.{further_of, IsParts, launch_word}

-- what a function of one more word gives
filter_map_more : {Y : Type 0} (h : Further → Option Y) (ys : List FurtherWord) (y : FurtherWord) → filter_map h (map further_of (ys ++ y ∷ [])) ≡ filter_map h (map further_of ys) ++ filter_map h (further_of y ∷ [])
filter_map_more h ys y = ap (filter_map h) (map-append further_of ys (y ∷ [])) ∙ filter_map-append h (map further_of ys) (further_of y ∷ [])

module _ (ys : List FurtherWord) (bs : List BufWord) (ls : List DoWord) (ss : List (List ℕ)) (h : IsParts (map further_of ys) (record { buffers = bs; launches = ls; shows = ss })) where
  pub IsParts-buffer : (b : BufWord) → IsParts (map further_of (ys ++ Buf b ∷ [])) (record { buffers = bs ++ b ∷ []; launches = ls; shows = ss })
  IsParts-buffer b = record {
    buffers = filter_map_more buffer_of ys (Buf b) ∙ ap (λ (l : List BufWord). l ++ b ∷ []) h.buffers;
    launches = filter_map_more launch_of_word ys (Buf b) ∙ simp append-nil h.launches;
    shows = filter_map_more show_of ys (Buf b) ∙ simp append-nil h.shows;
  }

  pub IsParts-launch : (d : DoWord) → IsParts (map further_of (ys ++ Do d ∷ [])) (record { buffers = bs; launches = ls ++ d ∷ []; shows = ss })
  IsParts-launch d = record {
    buffers = filter_map_more buffer_of ys (Do d) ∙ simp append-nil h.buffers;
    launches = filter_map_more launch_of_word ys (Do d) ∙ ap (λ l. l ++ launch_word d ∷ []) h.launches ∙ sym (map-append launch_word ls (d ∷ []));
    shows = filter_map_more show_of ys (Do d) ∙ simp append-nil h.shows;
  }

  pub IsParts-show : (name : List ℕ) → IsParts (map further_of (ys ++ Print name ∷ [])) (record { buffers = bs; launches = ls; shows = ss ++ name ∷ [] })
  IsParts-show name = record {
    buffers = filter_map_more buffer_of ys (Print name) ∙ simp append-nil h.buffers;
    launches = filter_map_more launch_of_word ys (Print name) ∙ simp append-nil h.launches;
    shows = filter_map_more show_of ys (Print name) ∙ ap (λ (l : List (List ℕ)). l ++ name ∷ []) h.shows;
  }
