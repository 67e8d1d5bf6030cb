-- Where a search for a byte stops.
use Rattle.std.proofs.Common.{◌≡◌, ℕ, ◌+◌, ◌<◌, List, length, drop, get_or, nat_lt, sym, ◌∙◌, Bool, true, false, cond, Some, None, refl, ap, arith, ◌==◌, if◌then◌else◌}
use Rattle.memchr.specs.Find.{IsFirstByte, is_byte}
use Rattle.std.proofs.lemmas.Bool.{lt-ltb, le-ltb}
use Rattle.ir_core.specs.Bytes.{Class, no_quote}
use Rattle.ir_core.specs.Tokens.{Text}
use Rattle.ir_core.specs.Scan.{run, class_at, quoted_size, by_colon, bad_piece, quote_piece}
use Rattle.ir_core.proofs.Runs.{if_true, if_false, run_whole, run_up_to}
use Rattle.ir_core.proofs.Below.{quoted_made}

-- a byte other than b
abbrev pub other : ℕ → ℕ → Bool
other b c = if c == b then false else true

no_stop : (b c : ℕ) → (is_byte b c ≡ true → ⊥) → other b c ≡ true
no_stop b c n = by (c == b) refl
  where
    by : (t : Bool) → (c == b) ≡ t → cond t false true ≡ true
    by true k = absurd (n k)
    by false k = refl

pub run_at_end : (b : ℕ) (text : List ℕ) → IsFirstByte (is_byte b) text None → run (other b) text ≡ length text
run_at_end b text h = run_whole (other b) text (λ k l. no_stop b (get_or text k 0) (h k (omega arith) l))

pub run_at_byte : (b : ℕ) (text : List ℕ) (n : ℕ) → IsFirstByte (is_byte b) text (Some n) → run (other b) text ≡ n
run_at_byte b text n h = run_up_to (other b) n text h.0.high (λ k l. no_stop b (get_or text k 0) (h.0.before k (omega arith) l)) (ap (λ (t : Bool). cond t false true) h.1)

-- ---- quoted strings

-- the quote that closes one
closed : (rest : List ℕ) (n : ℕ) → IsFirstByte (is_byte 34) rest (Some n) → (run no_quote rest ≡ n) × (n < length rest)
closed rest n h = (run_at_byte 34 rest n h, h.0.high)

pub closed_size : (rest : List ℕ) (n : ℕ) → IsFirstByte (is_byte 34) rest (Some n) → quoted_size rest ≡ n + 2
closed_size rest n h =
    let k = closed rest n h in
    let k1 = k.1 in
    let k0 = k.0 in
    quoted_made rest (omega arith) ∙ ap (λ m. m + 2) k.0

no_close : (rest : List ℕ) → IsFirstByte (is_byte 34) rest None → nat_lt (run no_quote rest) (length rest) ≡ false
no_close rest h =
    let k = run_at_end 34 rest h in
    le-ltb (run no_quote rest) (length rest) (omega arith)

pub open_size : (rest : List ℕ) → IsFirstByte (is_byte 34) rest None → quoted_size rest ≡ 0
open_size rest h = if_false (nat_lt (run no_quote rest) (length rest)) (run no_quote rest + 2) 0 (no_close rest h)

pub closed_piece : (rest : List ℕ) (n : ℕ) (a : Class) → IsFirstByte (is_byte 34) rest (Some n) → a ≡ class_at (drop (n + 1) rest) → by_colon Text a (n + 2) ≡ quote_piece rest
closed_piece rest n a h e =
    let k = closed rest n h in
    let k0 = k.0 in
    let k1 = k.1 in
    let z : n + 2 ≡ n + 1 + 1 = omega arith in
    ap (λ m. by_colon Text a m) z ∙ ap (λ x. by_colon Text x (n + 1 + 1)) e
    ∙ ap (λ m. by_colon Text (class_at (drop (m + 1) rest)) (m + 1 + 1)) (sym k.0)
    ∙ sym (if_true (nat_lt (run no_quote rest) (length rest)) (by_colon Text (class_at (drop (run no_quote rest + 1) rest)) (run no_quote rest + 1 + 1)) bad_piece (lt-ltb (run no_quote rest) (length rest) (omega arith)))

pub open_piece : (rest : List ℕ) → IsFirstByte (is_byte 34) rest None → bad_piece ≡ quote_piece rest
open_piece rest h = sym (if_false (nat_lt (run no_quote rest) (length rest)) (by_colon Text (class_at (drop (run no_quote rest + 1) rest)) (run no_quote rest + 1 + 1)) bad_piece (no_close rest h))
