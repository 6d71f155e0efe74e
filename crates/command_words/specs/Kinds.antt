use Rattle.std.specs.Prelude.{ℕ, List, codes}
use Rattle.command_words.specs.declared.usage.UsageKind.{UsageKind}
use Rattle.command_words.specs.declared.usage.UsageKind.TheVariants as kind

-- what is wrong, in a word
abbrev pub usage_kind_text : UsageKind → List ℕ
usage_kind_text kind.Command = codes "Command"
usage_kind_text kind.Form = codes "Form"
usage_kind_text kind.Number = codes "Number"
usage_kind_text kind.Repeated = codes "Repeated"
usage_kind_text kind.Unknown = codes "Unknown"
usage_kind_text kind.Missing = codes "Missing"
