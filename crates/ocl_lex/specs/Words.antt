-- The reserved words: those that the grammar uses, and those of OpenCL C 1.2 (section 6.9 and the tables of types) that the
-- language leaves out.
use Rattle.std.specs.Prelude.{ℕ, List, [], ◌∷◌, codes, length, drop, nat_eq, Option, None, Some}
use Rattle.std.specs.List.{find, starts_with}
use Rattle.std.specs.Option.{option_map, option_and_then}
use Rattle.std.specs.Str.{bytes_eq}
use Rattle.ocl_tokens.specs.declared.tokens.TokenKind.{TokenKind}
use Rattle.ocl_tokens.specs.declared.tokens.TokenKind.TheVariants as token
use Rattle.ocl_tokens.specs.declared.words.Word.{Word}
use Rattle.ocl_tokens.specs.declared.words.Word.TheVariants as word
use Rattle.ocl_tokens.specs.declared.words.LeftOut.{LeftOut}
use Rattle.ocl_tokens.specs.declared.words.LeftOut.TheVariants as left_out
use Rattle.ocl_tokens.specs.declared.words.Component.{Component}
use Rattle.ocl_tokens.specs.declared.words.Component.TheVariants as component
use Rattle.ocl_tokens.specs.declared.words.Width.{Width}
use Rattle.ocl_tokens.specs.declared.words.Width.TheVariants as width

abbrev pub component_name : Component → List ℕ
component_name component.Char = codes "char"
component_name component.Uchar = codes "uchar"
component_name component.Short = codes "short"
component_name component.Ushort = codes "ushort"
component_name component.Int = codes "int"
component_name component.Uint = codes "uint"
component_name component.Long = codes "long"
component_name component.Ulong = codes "ulong"
component_name component.Float = codes "float"
component_name component.Double = codes "double"

abbrev pub width_name : Width → List ℕ
width_name width.Two = codes "2"
width_name width.Three = codes "3"
width_name width.Four = codes "4"
width_name width.Eight = codes "8"
width_name width.Sixteen = codes "16"

-- the bytes of a word that is no vector type
abbrev pub left_out_name : LeftOut → List ℕ
left_out_name left_out.Float = codes "float"
left_out_name left_out.Double = codes "double"
left_out_name left_out.Half = codes "half"
left_out_name left_out.Long = codes "long"
left_out_name left_out.Ulong = codes "ulong"
left_out_name left_out.Bool = codes "bool"
left_out_name left_out.Struct = codes "struct"
left_out_name left_out.Union = codes "union"
left_out_name left_out.Enum = codes "enum"
left_out_name left_out.Typedef = codes "typedef"
left_out_name left_out.Switch = codes "switch"
left_out_name left_out.Case = codes "case"
left_out_name left_out.Default = codes "default"
left_out_name left_out.Goto = codes "goto"
left_out_name left_out.Sizeof = codes "sizeof"
left_out_name left_out.Extern = codes "extern"
left_out_name left_out.Register = codes "register"
left_out_name left_out.Auto = codes "auto"
left_out_name left_out.Image2d = codes "image2d_t"
left_out_name left_out.Image3d = codes "image3d_t"
left_out_name left_out.Sampler = codes "sampler_t"
left_out_name left_out.Event = codes "event_t"
left_out_name left_out.Attribute = codes "__attribute__"
left_out_name left_out.UnderscorePrivate = codes "__private"
left_out_name left_out.Private = codes "private"
left_out_name left_out.UnderscoreReadOnly = codes "__read_only"
left_out_name left_out.UnderscoreWriteOnly = codes "__write_only"
left_out_name left_out.ReadOnly = codes "read_only"
left_out_name left_out.WriteOnly = codes "write_only"
left_out_name (left_out.Vector c w) = []

abbrev pub word_name : Word → List ℕ
word_name word.UnderscoreKernel = codes "__kernel"
word_name word.Kernel = codes "kernel"
word_name word.UnderscoreGlobal = codes "__global"
word_name word.Global = codes "global"
word_name word.UnderscoreConstant = codes "__constant"
word_name word.Constant = codes "constant"
word_name word.UnderscoreLocal = codes "__local"
word_name word.Local = codes "local"
word_name word.Const = codes "const"
word_name word.Volatile = codes "volatile"
word_name word.Restrict = codes "restrict"
word_name word.Inline = codes "inline"
word_name word.Static = codes "static"
word_name word.Void = codes "void"
word_name word.Char = codes "char"
word_name word.Uchar = codes "uchar"
word_name word.Short = codes "short"
word_name word.Ushort = codes "ushort"
word_name word.Int = codes "int"
word_name word.Uint = codes "uint"
word_name word.SizeT = codes "size_t"
word_name word.Signed = codes "signed"
word_name word.Unsigned = codes "unsigned"
word_name word.If = codes "if"
word_name word.Else = codes "else"
word_name word.While = codes "while"
word_name word.Do = codes "do"
word_name word.For = codes "for"
word_name word.Break = codes "break"
word_name word.Continue = codes "continue"
word_name word.Return = codes "return"
word_name word.Barrier = codes "barrier"
word_name (word.LeftOut w) = left_out_name w

abbrev pub all_components : List Component
all_components = component.Char ∷ component.Uchar ∷ component.Short ∷ component.Ushort ∷ component.Int ∷ component.Uint ∷ component.Long ∷ component.Ulong ∷ component.Float ∷ component.Double ∷ []

abbrev pub all_widths : List Width
all_widths = width.Two ∷ width.Three ∷ width.Four ∷ width.Eight ∷ width.Sixteen ∷ []

-- the words that are no vector types
abbrev pub all_words : List Word
all_words = word.UnderscoreKernel ∷ word.Kernel ∷ word.UnderscoreGlobal ∷ word.Global ∷ word.UnderscoreConstant ∷ word.Constant ∷ word.UnderscoreLocal ∷ word.Local ∷ word.Const ∷ word.Volatile ∷ word.Restrict ∷ word.Inline ∷ word.Static ∷ word.Void ∷ word.Char ∷ word.Uchar ∷ word.Short ∷ word.Ushort ∷ word.Int ∷ word.Uint ∷ word.SizeT ∷ word.Signed ∷ word.Unsigned ∷ word.If ∷ word.Else ∷ word.While ∷ word.Do ∷ word.For ∷ word.Break ∷ word.Continue ∷ word.Return ∷ word.Barrier ∷ word.LeftOut left_out.Float ∷ word.LeftOut left_out.Double ∷ word.LeftOut left_out.Half ∷ word.LeftOut left_out.Long ∷ word.LeftOut left_out.Ulong ∷ word.LeftOut left_out.Bool ∷ word.LeftOut left_out.Struct ∷ word.LeftOut left_out.Union ∷ word.LeftOut left_out.Enum ∷ word.LeftOut left_out.Typedef ∷ word.LeftOut left_out.Switch ∷ word.LeftOut left_out.Case ∷ word.LeftOut left_out.Default ∷ word.LeftOut left_out.Goto ∷ word.LeftOut left_out.Sizeof ∷ word.LeftOut left_out.Extern ∷ word.LeftOut left_out.Register ∷ word.LeftOut left_out.Auto ∷ word.LeftOut left_out.Image2d ∷ word.LeftOut left_out.Image3d ∷ word.LeftOut left_out.Sampler ∷ word.LeftOut left_out.Event ∷ word.LeftOut left_out.Attribute ∷ word.LeftOut left_out.UnderscorePrivate ∷ word.LeftOut left_out.Private ∷ word.LeftOut left_out.UnderscoreReadOnly ∷ word.LeftOut left_out.UnderscoreWriteOnly ∷ word.LeftOut left_out.ReadOnly ∷ word.LeftOut left_out.WriteOnly ∷ []

-- a width that is all of some bytes
unfoldable pub width_named : List ℕ → Option Width
width_named text = find (λ w. bytes_eq (width_name w) text) all_widths

abbrev pub vector_of : Component → Width → Word
vector_of c w = word.LeftOut (left_out.Vector c w)

-- a vector type: the name of a component, and a width
unfoldable pub vector_named : List ℕ → Option Word
vector_named text =
    option_and_then (λ c. option_map (vector_of c) (width_named (drop (length (component_name c)) text)))
    (find (λ c. starts_with nat_eq text (component_name c)) all_components)

abbrev pub first_of : Option Word → Option Word → Option Word
first_of (Some w) later = Some w
first_of None later = later

-- the reserved word that some bytes are
unfoldable pub word_named : List ℕ → Option Word
word_named text = first_of (find (λ w. bytes_eq (word_name w) text) all_words) (vector_named text)

-- the token of a name that no macro replaces
abbrev pub word_or_name : Option Word → List ℕ → TokenKind
word_or_name (Some w) text = token.Word w
word_or_name None text = token.Name text

abbrev pub name_kind : List ℕ → TokenKind
name_kind text = word_or_name (word_named text) text
