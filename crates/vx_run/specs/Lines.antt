use Rattle.std.specs.Prelude.{ℕ, List, [], ◌∷◌, ◌++◌, codes}
use Rattle.std.specs.Fmt.{decimal}
use Rattle.vx_base.specs.Texts.{pos_text}
use Rattle.vx_words.specs.Commands.{usage_kind_text}
use Rattle.vx_cc.specs.Faults.{source_kind_text}
use Rattle.vx_run.specs.declared.report.LaunchKind.{LaunchKind}
use Rattle.vx_run.specs.declared.report.LaunchKind.TheVariants.{NoEntry, NotBuilt, Arguments}
use Rattle.vx_run.specs.declared.report.BufferKind.{BufferKind}
use Rattle.vx_run.specs.declared.report.BufferKind.TheVariants.{Length}
use Rattle.vx_run.specs.declared.report.Cause.{Cause}
use Rattle.vx_run.specs.declared.report.Cause.TheVariants.{Done, Usage, Source, Launch, Buffer, Trap, Stuck, Turns, ReadFault, WriteFault, Memory, Missing}

-- the line feed that ends a line
abbrev pub newline : List ℕ
newline = 10 ∷ []

abbrev pub launch_kind_text : LaunchKind → List ℕ
launch_kind_text NoEntry = codes "NoEntry"
launch_kind_text NotBuilt = codes "NotBuilt"
launch_kind_text (Arguments given wanted) = codes "Arguments " ++ decimal given ++ codes " " ++ decimal wanted

abbrev pub buffer_kind_text : BufferKind → List ℕ
buffer_kind_text (Length bytes size) = codes "Length " ++ decimal bytes ++ codes " " ++ decimal size

-- what a cause is called
abbrev pub message_of : Cause → List ℕ
message_of Done = codes "done"
message_of (Usage word kind) = codes "usage word " ++ decimal word ++ codes " " ++ usage_kind_text kind
message_of (Source pos kind) = codes "source " ++ pos_text pos ++ codes " " ++ source_kind_text kind
message_of (Launch index kind) = codes "launch " ++ decimal index ++ codes " " ++ launch_kind_text kind
message_of (Buffer index kind) = codes "buffer " ++ decimal index ++ codes " " ++ buffer_kind_text kind
message_of (Trap launch pos item) = codes "trap launch " ++ decimal launch ++ codes " " ++ pos_text pos ++ codes " item " ++ decimal item
message_of (Stuck launch core waiting ended) = codes "stuck launch " ++ decimal launch ++ codes " core " ++ decimal core ++ codes " waiting " ++ decimal waiting ++ codes " ended " ++ decimal ended
message_of (Turns launch core group count) = codes "turns launch " ++ decimal launch ++ codes " core " ++ decimal core ++ codes " group " ++ decimal group
message_of (ReadFault faults) = codes "read fault"
message_of (WriteFault faults) = codes "write fault"
message_of Memory = codes "out of memory"
message_of (Missing name) = codes "missing " ++ name

-- the line that says so
abbrev pub line_of : Cause → List ℕ
line_of cause = message_of cause ++ newline

-- the status of a cause
abbrev pub status_of : Cause → ℕ
status_of Done = 0
status_of (Usage word kind) = 1
status_of (Source pos kind) = 2
status_of (Launch index kind) = 3
status_of (Buffer index kind) = 3
status_of (Trap launch pos item) = 4
status_of (Stuck launch core waiting ended) = 5
status_of (Turns launch core group count) = 6
status_of (ReadFault faults) = 7
status_of (WriteFault faults) = 8
status_of Memory = 9
status_of (Missing name) = 10
