-- The tokens that the code makes, as the definitions see them.
use Rattle.std.specs.Prelude.{List, map}
use Rattle.ir_core.specs.Tokens as meaning
use Rattle.ir_lex.specs.declared.token.TokenKind.{TokenKind}
use Rattle.ir_lex.specs.declared.token.TokenKind.TheVariants.{Word, Local, Global, Label, Number, Float, Text, CText, Group, Meta, Mark, Passive, Bad, Past}
use Rattle.ir_lex.specs.declared.token.Token.{Token}

abbrev pub kind_seen : TokenKind → meaning.TokenKind
kind_seen Word = meaning.Word
kind_seen Local = meaning.Local
kind_seen Global = meaning.Global
kind_seen Label = meaning.Label
kind_seen Number = meaning.Number
kind_seen Float = meaning.Float
kind_seen Text = meaning.Text
kind_seen CText = meaning.CText
kind_seen Group = meaning.Group
kind_seen Meta = meaning.Meta
kind_seen (Mark m) = meaning.Mark m
kind_seen Passive = meaning.Passive
kind_seen Bad = meaning.Bad
kind_seen Past = meaning.Past

abbrev pub token_seen : Token → meaning.Token
token_seen t = record { kind = kind_seen t.kind; start = t.start; end = t.end; line = t.line }

abbrev pub tokens_seen : List Token → List meaning.Token
tokens_seen ts = map token_seen ts
