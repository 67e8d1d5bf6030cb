-- What stands behind an instruction: attachments, and before them an alignment that shares their comma.
use Rattle.std.specs.Prelude.{ℕ, List, codes, Bool, true, false, not, if◌then◌else◌}
use Rattle.std.specs.Prelude.{Option, Some as Present, None as Absent}
use Rattle.std.specs.Str.{bytes_eq}
use Rattle.ir_core.specs.Tokens.{Lexeme, TokenKind, Meta, Group, Text}
use Rattle.ir_core.specs.Spell.{Spell}
use Rattle.ir_core.specs.Spell as spell
use Rattle.ir_core.specs.Instructions.{attachments, plain_function_words, TrailerForm, GroupTrailer, WordTrailer}
use Rattle.read_forms.specs.Read.{Read, ◌>>=◌, done, one_at, pick, goes, maybe_at, dropped_at, either_at, after_comma_at, at_mark, as_one_of, all_for, as_table}
use Rattle.read_forms.specs.Forms.{alignment_at, space_goes}

-- a form and the attachments behind it
abbrev pub closed : {X : Type 0} → Spell X → Spell X
closed S = spell.◌>>=◌ S (λ x. spell.◌>>=◌ attachments (λ behind. spell.done x))

-- ---- single tokens

abbrev pub is_meta : TokenKind → Bool
is_meta Meta = true
is_meta _ = false

abbrev pub is_group : TokenKind → Bool
is_group Group = true
is_group _ = false

abbrev pub is_text : TokenKind → Bool
is_text Text = true
is_text _ = false

abbrev pub is_meta_name : Lexeme → Bool
is_meta_name t = if is_meta t.kind then not (bytes_eq t.bytes (codes "!{")) else false

abbrev pub as_meta_name : Lexeme → Option (Unit {0})
as_meta_name t = if is_meta_name t then Present (tt {0}) else Absent

abbrev pub as_group : Lexeme → Option (Unit {0})
as_group t = if is_group t.kind then Present (tt {0}) else Absent

abbrev pub as_text : Lexeme → Option (Unit {0})
as_text t = if is_text t.kind then Present (tt {0}) else Absent

-- ---- attachments and alignments

unfoldable pub attachment_at : Read (Unit {0})
attachment_at = do
  name ← one_at as_meta_name
  one_at as_meta_name

unfoldable pub attachments_at : Read (Unit {0})
attachments_at = dropped_at (at_mark 44) (after_comma_at attachment_at)

unfoldable pub next_alignment_at : Read ℕ
next_alignment_at = maybe_at 0 (at_mark 44) (after_comma_at alignment_at)

abbrev pub meta_goes : Option Lexeme → Bool
meta_goes Absent = false
meta_goes (Present t) = is_meta_name t

unfoldable pub attached_at : {X : Type 0} → X → Read X
attached_at v = do
  first ← attachment_at
  behind ← attachments_at
  done v

unfoldable pub aligned_at : Read ℕ
aligned_at = do
  n ← alignment_at
  behind ← attachments_at
  done n

-- an attachment, or what else stands behind the comma
unfoldable pub behind_comma_at : {X : Type 0} → X → Read X → Read X
behind_comma_at v f = after_comma_at (either_at meta_goes (attached_at v) f)

-- , align n and the attachments
unfoldable pub tail_at : Read ℕ
tail_at = maybe_at 0 (at_mark 44) (behind_comma_at 0 aligned_at)

-- ---- trailers of calls

abbrev pub trailer_words : List (List ℕ × TrailerForm)
trailer_words = all_for WordTrailer plain_function_words

abbrev pub trailer_at_form : TrailerForm → Read (Unit {0})
trailer_at_form GroupTrailer = one_at as_group
trailer_at_form WordTrailer = one_at (as_one_of plain_function_words)

abbrev pub trailer_form_of : Lexeme → Option TrailerForm
trailer_form_of t = if is_group t.kind then Present GroupTrailer else as_table trailer_words t

abbrev pub trailer_ahead : Option Lexeme → Option TrailerForm
trailer_ahead Absent = Absent
trailer_ahead (Present t) = trailer_form_of t

abbrev pub trailer_goes : Option Lexeme → Bool
trailer_goes t = goes (trailer_ahead t)

unfoldable pub trailer_at : Read (Unit {0})
trailer_at = pick trailer_ahead trailer_at_form

unfoldable pub trailers_at : Read (Unit {0})
trailers_at = dropped_at trailer_goes trailer_at

-- trailers, and then attachments
unfoldable pub call_end_at : Read (Unit {0})
call_end_at = do
  behind ← trailers_at
  attached ← attachments_at
  done tt

-- what an instruction can go on with
abbrev pub goes_on : Option Lexeme → Bool
goes_on t = if at_mark 44 t then true else if trailer_goes t then true else space_goes t
