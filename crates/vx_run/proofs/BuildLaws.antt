-- A call of `build` whose words, file, text and entry are right is refused for nothing, and its answer is that of an image of the entry.
use Rattle.std.proofs.Common.{◌≡◌, ℕ, ◌≤◌, List, [], ◌∷◌, length, Some, refl, subst, arith}
use Rattle.std.specs.Prelude.{Ok, Err, codes}
use Rattle.ocl_program.specs.Nodes.{FunctionNode}
use Rattle.ocl_types.specs.Functions.{kernel_from}
use Rattle.kernel_images.specs.Images.{IsImageNamed}
use Rattle.kernel_images.specs.Refusals.{IsSmallNamed}
use Rattle.vx_isa.specs.declared.image.Image.{Image}
use Rattle.vx_cc.specs.Fronts.{FrontOf}
use Rattle.vx_cc.proofs.OneFront.{one_front}
use Rattle.vx_world.specs.declared.reading.Entry.{Entry}
use Rattle.vx_world.specs.Reading.{bytes_named}
use Rattle.vx_words.specs.Names.{IsName}
use Rattle.vx_words.specs.Commands.{Builds}
use Rattle.vx_words.specs.declared.command.Command.TheVariants.{Build}
use Rattle.vx_words.proofs.OneReading.{command_same, command_usage}
use Rattle.vx_run.specs.declared.report.Cause.{Cause}
use Rattle.vx_run.specs.declared.stages.Answer.{Answer}
use Rattle.vx_run.specs.Answers.{Outcome, Refuses, Gives, built, most_source, FromEntry, NoKernel, ManySlots, ManyWords, HasImage, FromSource, LongSource, BadSource, HasProgram, FromFile, NoFile, HasFile, FromCommand, FromWords, WrongWords, RightWords}
use Rattle.vx_run.specs.Meets.{IsRefused}
use Rattle.vx_run.proofs.ImageLaws.{many_slots_small, many_words_small, some_none, some_same}
use Rattle.vx_run.proofs.OneOutcome.{error_ok, oks_same}

-- the answer is that of an image of the entry
pub record IsBuilt (program : List FunctionNode) (entry : List ℕ) (a : Answer) : Type 0 where
  pub image : Image
  pub named : IsImageNamed program entry image
  pub is : a ≡ built image

module _ (entries : List Entry) (file entry bytes : List ℕ) (program : List FunctionNode) (name : IsName entry) (there : bytes_named entries file ≡ Some bytes)
    (few : length bytes ≤ most_source) (front : FrontOf bytes (Ok program)) where
  -- what a text or a file comes to, its program comes to
  of_source : (o : Outcome) → FromSource (FromEntry entry) bytes o → FromEntry entry program o
  of_source o (LongSource long) = absurd (omega (arith, long, few))
  of_source o (BadSource fault few' is) = absurd (error_ok fault program (one_front bytes (Err fault) (Ok program) is front))
  of_source o (HasProgram program' q few' is h) = subst (λ x. FromEntry entry x o) (oks_same program' program (one_front bytes (Ok program') (Ok program) is front)) h

  of_file : (o : Outcome) → FromFile (Some entries) file (FromEntry entry) o → FromEntry entry program o
  of_file o (NoFile none) = absurd (some_none (bytes_named entries file) bytes there none)
  of_file o (HasFile bytes' q there' h) = of_source o (subst (λ x. FromSource (FromEntry entry) x o) (some_same (bytes_named entries file) bytes' bytes there' there) h)

  of_words : (words : List (List ℕ)) (o : Outcome) → words ≡ codes "build" ∷ file ∷ entry ∷ [] → FromWords (Some entries) words o → FromEntry entry program o
  of_words words o spelled (WrongWords word kind is) = absurd (command_usage words (Build file entry) word kind (Builds file entry name spelled) is)
  of_words words o spelled (RightWords c q is h) =
      of_file o (subst (λ x. FromCommand (Some entries) x o) (command_same words c (Build file entry) is (Builds file entry name spelled)) h)

  -- an entry that is small enough is refused for nothing
  not_refused : IsSmallNamed program entry → (c : Cause) → FromEntry entry program (Refuses c) → ⊥
  not_refused small c (NoKernel none) = some_none (kernel_from 0 entry program) small.0 small.1.0 none
  not_refused small c (ManySlots number pos slots stands many) = many_slots_small entry program number pos slots stands many small
  not_refused small c (ManyWords number pos words stands many) = many_words_small entry program number pos words stands many small

  is_built : (a : Answer) → FromEntry entry program (Gives a) → IsBuilt program entry a
  is_built a (HasImage image small named) = record { image = image; named = named; is = refl }

  pub build_not_refused : (words : List (List ℕ)) → words ≡ codes "build" ∷ file ∷ entry ∷ [] → IsSmallNamed program entry → (c : Cause) → IsRefused (Some entries) words c → ⊥
  build_not_refused words spelled small c h = not_refused small c (of_words words (Refuses c) spelled h)

  pub build_answers : (words : List (List ℕ)) → words ≡ codes "build" ∷ file ∷ entry ∷ [] → (a : Answer) → FromWords (Some entries) words (Gives a) → IsBuilt program entry a
  build_answers words spelled a h = is_built a (of_words words (Gives a) spelled h)
