-- Tokens that are tried behind those before a refused one, to tell what can stand there.
use Rattle.std.specs.Prelude.{◌≡◌, ℕ, ◌<◌, ◌≤◌, ◌-◌, ◌^◌, List, [], ◌∷◌, ◌++◌, nat_lt, if◌then◌else◌, length, map, take, codes, Bool, true, false, All}
use Rattle.std.specs.Borrow.{Bor}
use Rattle.ir_core.specs.Tokens.{Lexeme}
use Rattle.ir_core.specs.declared.refusal.Construct.{Construct}
use Rattle.ir_core.specs.declared.refusal.Construct.TheVariants.{FloatType, VectorType, WideInteger, AddressSpace, UndefValue, AggregateValue, VolatileAccess, InlineAsm, Invoke, MetadataOperand, Limit, ConstantExpression}
use Rattle.ir_core.specs.TextRefusals.{a_word, a_number}
use Rattle.ir_lex.specs.declared.token.Token.{Token}
use Rattle.ir_read.specs.declared.stopped.Probe.{Probe}
use Rattle.ir_read.specs.declared.stopped.Probe.TheVariants.{Pointer, Null, Zeros, Zero, One}
use Rattle.ir_read.specs.declared.stopped.Stopped.TheInside.{Inside}

abbrev pub probe_bytes : List ℕ
probe_bytes = codes "ptr null zeroinitializer 0 1"

abbrev pub probe_seen : Probe → Lexeme
probe_seen Pointer = a_word (codes "ptr")
probe_seen Null = a_word (codes "null")
probe_seen Zeros = a_word (codes "zeroinitializer")
probe_seen Zero = a_number (codes "0")
probe_seen One = a_number (codes "1")

-- what a test answers of a fact
abbrev pub Tells : Type 0 → Bool → Type 0
Tells fact true = fact
Tells fact false = fact → ⊥

-- a refused token, and the tokens before it
pub record Place : Type 0 where
  pub front : List Lexeme
  pub token : Lexeme

-- the bytes of the probes stand behind those of the text
abbrev pub HasProbes : Inside → Type 0
HasProbes s = (text : List ℕ) × (s.text.items ≡ text ++ probe_bytes) × (length text ≡ s.base) × (s.base < 2 ^ 31)

-- tokens end within a text
abbrev pub AreWithin : List ℕ → List Token → Type 0
AreWithin text ts = All (λ t. t.end ≤ length text) ts

-- the words that a list of slices has
abbrev pub words_seen : List (Bor (List ℕ)) → List (List ℕ)
words_seen words = map (λ (w : Bor (List ℕ)). w.now) words

abbrev pub has_digit_above_zero : List ℕ → Bool
has_digit_above_zero [] = false
has_digit_above_zero (c ∷ cs) = if nat_lt 48 c then true else has_digit_above_zero cs

-- the constructs beside syntax, in the order of their numbers
abbrev pub constructs : List Construct
constructs = FloatType ∷ VectorType ∷ WideInteger ∷ AddressSpace ∷ UndefValue ∷ AggregateValue ∷ VolatileAccess ∷ InlineAsm ∷ Invoke ∷ MetadataOperand ∷ Limit ∷ ConstantExpression ∷ []
