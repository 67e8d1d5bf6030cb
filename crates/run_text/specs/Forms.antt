-- Forms of arguments, as they are held while a launch is read.
use Rattle.std.specs.Prelude.{◌≡◌, ℕ, ◌<◌, ◌∷◌, length, ◌+◌, ◌*◌, ◌≤◌, List, codes, Option, Some, None, option_map, option_and_then}
use Rattle.ir_core.specs.declared.types.Ty.{Ty}
use Rattle.ir_core.specs.declared.types.Ty.TheVariants.{Int}
use Rattle.run_text.specs.declared.arguments.Form.{Form}
use Rattle.run_text.specs.declared.arguments.Form.TheVariants.{Zeros as HeldZeros, Bytes as HeldBytes, Null, Number}
use Rattle.run_text.specs.declared.launch.LaunchFaultKind.{LaunchFaultKind}
use Rattle.run_text.specs.declared.launch.LaunchFaultKind.TheVariants.{LineForm, ArgumentCount}
use Rattle.run_text.specs.Capped.{capped}
use Rattle.run_text.specs.Lines.{behind, numeral, hex_bytes}
use Rattle.run_text.specs.LaunchText.{ArgForm, Zeros, Bytes, NullForm, NumberForm, positive, some_bytes}

-- a type has no width, or one from 1 to 64
abbrev pub HasWidth : Ty → Type 0
HasWidth (Int width) = (1 ≤ width) × (width ≤ 64)
HasWidth _ = Unit {0}

-- a form as it is held, where 2^64 stands for all numbers above it
abbrev pub held : ArgForm → Form
held (Zeros n) = HeldZeros (capped n)
held (Bytes bytes) = HeldBytes bytes
held NullForm = Null
held (NumberForm is_negative n) = Number is_negative (capped n)

-- what a held form says
abbrev pub spelled : Form → ArgForm
spelled (HeldZeros n) = Zeros n
spelled (HeldBytes bytes) = Bytes bytes
spelled Null = NullForm
spelled (Number is_negative n) = NumberForm is_negative n

-- the byte of two digits
abbrev pub pair_byte : Option ℕ → Option ℕ → Option ℕ
pair_byte (Some high) (Some low) = Some (16 * high + low)
pair_byte _ _ = None

abbrev pub zeros_text : List ℕ → Option ArgForm
zeros_text line = option_map Zeros (positive (option_and_then numeral (behind (codes "arg zeros ") line)))

abbrev pub bytes_text : List ℕ → Option ArgForm
bytes_text line = option_map Bytes (some_bytes (option_and_then hex_bytes (behind (codes "arg bytes ") line)))

abbrev pub and_byte : ℕ → Option (List ℕ) → Option (List ℕ)
and_byte byte None = None
and_byte byte (Some bytes) = Some (byte ∷ bytes)

-- digits begin with those of a byte
pub record IsNextByte (digits : List ℕ) (byte : ℕ) (rest : List ℕ) : Type 0 where
  pub is : hex_bytes digits ≡ and_byte byte (hex_bytes rest)
  pub fewer : length rest < length digits

-- a held form on a line that is one too many
abbrev pub held_surplus : Option Form → LaunchFaultKind
held_surplus None = LineForm
held_surplus (Some form) = ArgumentCount
