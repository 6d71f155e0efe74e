-- From the bytes of a text's file to what the call comes to.
use Rattle.std.proofs.Common.{◌≡◌, ℕ, ◌+◌, ◌<◌, ◌≤◌, ◌⊎◌, inl, inr, min, List, length, take, ap, sym, ◌∙◌, subst, arith, Ok, Err, length-take}
use Rattle.std.specs.Prelude.{Option}
use Rattle.std.proofs.lemmas.List.{take_all}
use Rattle.vx_world.specs.declared.reading.Entry.{Entry}
use Rattle.asm_text.specs.declared.hexadecimal.HexFault.{HexFault}
use Rattle.asm_text.specs.declared.hexadecimal.HexFault.TheVariants as hex
use Rattle.asm_text.specs.declared.statements.AsmFault.{AsmFault}
use Rattle.asm_text.specs.declared.statements.AsmFault.TheVariants as asm
use Rattle.asm_text.specs.AsmTexts.{assembled}
use Rattle.asm_text.specs.HexLines.{hex_lines, hex_words_of}
use Rattle.vx_disasm.specs.Texts.{lines_text}
use Rattle.vx_run.specs.declared.report.Cause.TheVariants.{Source, ReadFault, Missing}
use Rattle.vx_cc.specs.Faults.{first_place}
use Rattle.vx_cc.specs.declared.faults.SourceKind.TheVariants as kind
use Rattle.vx_run.specs.declared.stages.Stop.{Stop}
use Rattle.vx_run.specs.declared.stages.Stop.TheVariants as stop
use Rattle.vx_run.specs.Answers.{assembly_text_outcome, word_text_outcome, Outcome, Refuses, Prints, FromBytes, TooLong, BadText, GoodText, FromText, NoText, HasText, assembly_outcome, disassembly_outcome}
use Rattle.vx_run.specs.Stages.{StopsAt, StopsReading, ReadsFront, StopsForAsm, StopsForHex}

-- what stops the read of a text's file stops the call
pub unread_text : (held : Option (List Entry)) (file : List ℕ) (limit : ℕ) (outcome : List ℕ → Outcome) (s : Stop) → StopsReading held file s →
    StopsAt (FromText held file limit outcome) s
unread_text held file limit outcome (stop.Refused (Missing missing)) h = subst (λ m. FromText held file limit outcome (Refuses (Missing m))) (sym h.0) (NoText h.1)
unread_text held file limit outcome (stop.Refused (ReadFault faults)) h = h
unread_text held file limit outcome (stop.Refused other) h = absurd h
unread_text held file limit outcome stop.Memory h = tt

front_length : (most : ℕ) (whole bytes : List ℕ) → take most whole ≡ bytes → length bytes ≡ min most (length whole)
front_length most whole bytes front = ap length (sym front) ∙ length-take most whole

-- a front that is short enough is all of it
short_front : (limit most : ℕ) (whole bytes : List ℕ) → most ≡ limit + 1 → take most whole ≡ bytes → length bytes ≤ limit → whole ≡ bytes
short_front limit most whole bytes more front few =
    let cut = front_length most whole bytes front in
    let short : length whole ≤ limit = omega (arith, cut, few, more) in
    sym (take_all most whole (omega (arith, short, more))) ∙ front

-- what the front of a file comes to, its whole comes to, where one byte more than the limit was asked for
pub text_comes : (held : Option (List Entry)) (file : List ℕ) (limit most : ℕ) (outcome : List ℕ → Outcome) (bytes : List ℕ) → most ≡ limit + 1 →
    ReadsFront held file most bytes → (o : Outcome) → FromBytes limit outcome bytes o → FromText held file limit outcome o
text_comes held file limit most outcome bytes more front o (TooLong long) =
    let cut = front_length most front.whole bytes front.front in
    HasText front.whole _ front.holds (TooLong (omega (arith, cut, long)))
text_comes held file limit most outcome bytes more front o (BadText pos kind few e) =
    HasText front.whole _ front.holds (subst (λ x. FromBytes limit outcome x _) (sym (short_front limit most front.whole bytes more front.front few)) (BadText pos kind few e))
text_comes held file limit most outcome bytes more front o (GoodText text few e) =
    HasText front.whole _ front.holds (subst (λ x. FromBytes limit outcome x _) (sym (short_front limit most front.whole bytes more front.front few)) (GoodText text few e))

pub assembly_stops : (limit : ℕ) (bytes : List ℕ) (fault : AsmFault) (s : Stop) → length bytes ≤ limit → StopsForAsm fault s → (fault ≡ asm.Memory) ⊎ (assembled bytes ≡ Err fault) →
    StopsAt (FromBytes limit assembly_text_outcome bytes) s
assembly_stops limit bytes asm.Memory s few is why = subst (StopsAt (FromBytes limit assembly_text_outcome bytes)) (sym is) tt
assembly_stops limit bytes (asm.Syntax pos) s few is (inl e) = absurd (cc)
assembly_stops limit bytes (asm.Syntax pos) s few is (inr e) =
    subst (StopsAt (FromBytes limit assembly_text_outcome bytes)) (sym is) (BadText pos _ few (ap assembly_outcome e))
assembly_stops limit bytes (asm.Range pos) s few is (inl e) = absurd (cc)
assembly_stops limit bytes (asm.Range pos) s few is (inr e) =
    subst (StopsAt (FromBytes limit assembly_text_outcome bytes)) (sym is) (BadText pos _ few (ap assembly_outcome e))
assembly_stops limit bytes (asm.NoLabel pos) s few is (inl e) = absurd (cc)
assembly_stops limit bytes (asm.NoLabel pos) s few is (inr e) =
    subst (StopsAt (FromBytes limit assembly_text_outcome bytes)) (sym is) (BadText pos _ few (ap assembly_outcome e))
assembly_stops limit bytes (asm.LabelTwice pos) s few is (inl e) = absurd (cc)
assembly_stops limit bytes (asm.LabelTwice pos) s few is (inr e) =
    subst (StopsAt (FromBytes limit assembly_text_outcome bytes)) (sym is) (BadText pos _ few (ap assembly_outcome e))
assembly_stops limit bytes (asm.TooLarge pos words) s few is (inl e) = absurd (cc)
assembly_stops limit bytes (asm.TooLarge pos words) s few is (inr e) =
    subst (StopsAt (FromBytes limit assembly_text_outcome bytes)) (sym is) (BadText pos _ few (ap assembly_outcome e))

pub word_text_stops : (limit : ℕ) (bytes : List ℕ) (fault : HexFault) (s : Stop) → length bytes ≤ limit → StopsForHex fault s → (fault ≡ hex.Memory) ⊎ (hex_words_of bytes ≡ Err fault) →
    StopsAt (FromBytes limit word_text_outcome bytes) s
word_text_stops limit bytes hex.Memory s few is why = subst (StopsAt (FromBytes limit word_text_outcome bytes)) (sym is) tt
word_text_stops limit bytes (hex.Syntax pos) s few is (inl e) = absurd (cc)
word_text_stops limit bytes (hex.Syntax pos) s few is (inr e) =
    subst (StopsAt (FromBytes limit word_text_outcome bytes)) (sym is) (BadText pos _ few (ap disassembly_outcome e))
word_text_stops limit bytes (hex.TooLarge pos words) s few is (inl e) = absurd (cc)
word_text_stops limit bytes (hex.TooLarge pos words) s few is (inr e) =
    subst (StopsAt (FromBytes limit word_text_outcome bytes)) (sym is) (BadText pos _ few (ap disassembly_outcome e))

-- too many bytes stop the call
pub long_stops : (limit : ℕ) (outcome : List ℕ → Outcome) (bytes : List ℕ) (s : Stop) → s ≡ stop.Refused (Source first_place kind.TooLong) → limit < length bytes →
    StopsAt (FromBytes limit outcome bytes) s
long_stops limit outcome bytes s is long = subst (StopsAt (FromBytes limit outcome bytes)) (sym is) (TooLong long)

-- the words of an assembly text are printed in lines
pub assembly_prints : (limit : ℕ) (bytes words seen text : List ℕ) → length bytes ≤ limit → assembled bytes ≡ Ok words → seen ≡ words → text ≡ hex_lines seen →
    FromBytes limit assembly_text_outcome bytes (Prints text)
assembly_prints limit bytes words seen text few e same is =
    GoodText text few (ap assembly_outcome e ∙ ap Prints (ap hex_lines (sym same) ∙ sym is))

-- the words of a text are printed as an assembly text
pub words_print : (limit : ℕ) (bytes words seen text : List ℕ) → length bytes ≤ limit → hex_words_of bytes ≡ Ok words → seen ≡ words → text ≡ lines_text seen →
    FromBytes limit word_text_outcome bytes (Prints text)
words_print limit bytes words seen text few e same is =
    GoodText text few (ap disassembly_outcome e ∙ ap Prints (ap lines_text (sym same) ∙ sym is))
