-- What the words behind `run FILE` ask for, from its parts.
use Rattle.std.proofs.Common.{◌≡◌, ℕ, Bool, true, cond, Some, None, List, sym, ap, ◌∙◌}
use Rattle.std.specs.List.{list_any}
use Rattle.launch_plans.specs.declared.shapes.Shape.{Shape}
use Rattle.command_words.specs.declared.commands.BufWord.{BufWord}
use Rattle.command_words.specs.declared.commands.DoWord.{DoWord}
use Rattle.command_words.specs.declared.commands.Command.TheVariants.{Run}
use Rattle.command_words.specs.declared.entries.Entry.{Entry}
use Rattle.command_words.specs.Meaning.{buffers_of, launches_of, shows_of, shaped, usual, stats_of, is_launch}
use Rattle.command_words.specs.Commands.{run_of}

pub run_again : (file : List ℕ) (words : List Entry) (copy : List ℕ) (buffers first second : List BufWord) (launches : List DoWord) (shows : List ℕ) (shape : Shape) (stats : Bool) →
    list_any is_launch words ≡ true → copy ≡ file → buffers ≡ buffers_of words → first ≡ buffers → launches ≡ launches_of first words → second ≡ buffers → shows ≡ shows_of second words → shape ≡ shaped usual words → stats ≡ stats_of words →
    Some (Run copy buffers launches shows shape stats) ≡ run_of file words
run_again file words copy buffers first second launches shows shape stats some is-copy is-buffers is-first is-launches is-second is-shows is-shape is-stats =
    let launched : launches ≡ launches_of (buffers_of words) words = is-launches ∙ ap (λ (l : List BufWord). launches_of l words) (is-first ∙ is-buffers) in
    let shown : shows ≡ shows_of (buffers_of words) words = is-shows ∙ ap (λ (l : List BufWord). shows_of l words) (is-second ∙ is-buffers) in
    let one : Some (Run copy buffers launches shows shape stats) ≡ Some (Run file (buffers_of words) (launches_of (buffers_of words) words) (shows_of (buffers_of words) words) (shaped usual words) (stats_of words)) = cc in
    one ∙ ap (λ (b : Bool). cond b (Some (Run file (buffers_of words) (launches_of (buffers_of words) words) (shows_of (buffers_of words) words) (shaped usual words) (stats_of words))) None) (sym some)
