-- The texts of the faults of source files, and which fault of a kernel file is which.
use Rattle.std.specs.Prelude.{ℕ, List, ◌++◌, codes}
use Rattle.std.specs.Fmt.{decimal}
use Rattle.vx_base.specs.declared.types.Pos.{Pos}
use Rattle.ocl_lex.specs.declared.faults.LexFault.{LexFault}
use Rattle.ocl_lex.specs.declared.faults.LexFault.TheVariants as lex
use Rattle.ocl_parser.specs.declared.parsing.ParseFault.{ParseFault}
use Rattle.ocl_parser.specs.declared.parsing.ParseFault.TheVariants as parse
use Rattle.ocl_types.specs.declared.faults.TypeFault.{TypeFault}
use Rattle.ocl_types.specs.declared.faults.TypeFault.TheVariants as types
use Rattle.vx_cc.specs.declared.faults.SourceFault.{SourceFault}
use Rattle.vx_cc.specs.declared.faults.SourceKind.{SourceKind}
use Rattle.vx_cc.specs.declared.faults.SourceKind.TheVariants.{TooLong, BadByte, BadNumber, BadDirective, OpenComment, TooManyTokens, Unexpected, Subset, TooDeep, Unknown, Twice, Mismatch, Recursive, TooMany, TooNested, Syntax, Range, NoLabel, LabelTwice, Slots, Words, Memory}

abbrev pub source_kind_text : SourceKind → List ℕ
source_kind_text TooLong = codes "TooLong"
source_kind_text BadByte = codes "BadByte"
source_kind_text BadNumber = codes "BadNumber"
source_kind_text BadDirective = codes "BadDirective"
source_kind_text OpenComment = codes "OpenComment"
source_kind_text TooManyTokens = codes "TooManyTokens"
source_kind_text Unexpected = codes "Unexpected"
source_kind_text Subset = codes "Subset"
source_kind_text TooDeep = codes "TooDeep"
source_kind_text Unknown = codes "Unknown"
source_kind_text Twice = codes "Twice"
source_kind_text Mismatch = codes "Mismatch"
source_kind_text Recursive = codes "Recursive"
source_kind_text (TooMany what count) = codes "TooMany " ++ decimal count
source_kind_text TooNested = codes "TooNested"
source_kind_text Syntax = codes "Syntax"
source_kind_text Range = codes "Range"
source_kind_text NoLabel = codes "NoLabel"
source_kind_text LabelTwice = codes "LabelTwice"
source_kind_text (Slots slots) = codes "Slots " ++ decimal slots
source_kind_text (Words words) = codes "Words " ++ decimal words
source_kind_text Memory = codes "Memory"

-- the first place of a file
abbrev pub first_place : Pos
first_place = record { line = 1; col = 1 }

abbrev pub fault_at : Pos → SourceKind → SourceFault
fault_at pos kind = record { pos = pos; kind = kind }

-- want of memory
abbrev pub no_memory : SourceFault
no_memory = fault_at first_place Memory

abbrev pub lex_fault : LexFault → SourceFault
lex_fault (lex.BadByte pos) = fault_at pos BadByte
lex_fault (lex.BadNumber pos) = fault_at pos BadNumber
lex_fault (lex.BadDirective pos) = fault_at pos BadDirective
lex_fault (lex.OpenComment pos) = fault_at pos OpenComment
lex_fault (lex.TooManyTokens pos) = fault_at pos TooManyTokens
lex_fault lex.Memory = no_memory

abbrev pub parse_fault : ParseFault → SourceFault
parse_fault (parse.Unexpected pos) = fault_at pos Unexpected
parse_fault (parse.Subset pos) = fault_at pos Subset
parse_fault (parse.TooDeep pos) = fault_at pos TooDeep
parse_fault parse.Memory = no_memory

abbrev pub type_fault : TypeFault → SourceFault
type_fault (types.Unknown pos) = fault_at pos Unknown
type_fault (types.Twice pos) = fault_at pos Twice
type_fault (types.Mismatch pos) = fault_at pos Mismatch
type_fault (types.Recursive pos) = fault_at pos Recursive
type_fault (types.TooMany pos what count) = fault_at pos (TooMany what count)
type_fault (types.TooNested pos) = fault_at pos TooNested
type_fault types.Memory = no_memory
