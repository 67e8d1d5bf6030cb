-- Words, numbers, marks and names are written in bytes.
use Rattle.std.proofs.Common.{◌≡◌, ℕ, List, [], ◌∷◌, Bool, true, false, cond, ◌==◌, refl, sym, ap, ◌∙◌, subst, arith}
use Rattle.std.proofs.lemmas.Bool.{eqb-true, lt-ltb, ltb-true}
use Rattle.ir_core.specs.Bytes.{Class, Blank, Semicolon, Bracket, Digit, Dash, Letter, Percent, AtSign, Colon, Quote, Hash, Bang, Other, blanks, marks, letter_signs, between, class_of, is_one_of, is_word_class, word_byte, digit_byte, every}
use Rattle.ir_core.specs.Formed.{is_byte}
use Rattle.ir_core.specs.Tokens.{Led, IsDigits}
use Rattle.ir_core.specs.Text.{is_word, is_word_from, is_numeral}
use Rattle.ir_core.proofs.Runs.{one_of, every_first, every_more, digit_class, digits_every}
use Rattle.text_laws.specs.Spelling.{AreBytes}
use Rattle.text_laws.proofs.Escaped.{between_is, neither}

-- ---- bytes that stand for something

abbrev is_other : Class → Bool
is_other Other = true
is_other _ = false

-- a number that only a byte passes, or what the rest of the tests says
passes : (c : ℕ) (b : Bool) (k a : Class) → (b ≡ true → is_byte c ≡ true) → (is_other a ≡ false → is_byte c ≡ true) → is_other (cond b k a) ≡ false → is_byte c ≡ true
passes c true k a h r e = h refl
passes c false k a h r e = r e

in_range : (low high c : ℕ) → is_byte high ≡ true → between low high c ≡ true → is_byte c ≡ true
in_range low high c h e = let b = (between_is low high c e).1 in let l = ltb-true high 256 h in lt-ltb c 256 (omega arith)

same_byte : (c n : ℕ) → is_byte n ≡ true → (c == n) ≡ true → is_byte c ≡ true
same_byte c n h e = ap is_byte (eqb-true c n e) ∙ h

pub class_byte : (c : ℕ) → is_other (class_of c) ≡ false → is_byte c ≡ true
class_byte c =
    passes c (is_one_of blanks c) Blank _ (one_of is_byte blanks c refl)
    (passes c (is_one_of marks c) Bracket _ (one_of is_byte marks c refl)
    (passes c (between 48 57 c) Digit _ (in_range 48 57 c refl)
    (passes c (between 97 122 c) Letter _ (in_range 97 122 c refl)
    (passes c (between 65 90 c) Letter _ (in_range 65 90 c refl)
    (passes c (is_one_of letter_signs c) Letter _ (one_of is_byte letter_signs c refl)
    (passes c (c == 45) Dash _ (same_byte c 45 refl)
    (passes c (c == 37) Percent _ (same_byte c 37 refl)
    (passes c (c == 64) AtSign _ (same_byte c 64 refl)
    (passes c (c == 58) Colon _ (same_byte c 58 refl)
    (passes c (c == 59) Semicolon _ (same_byte c 59 refl)
    (passes c (c == 34) Quote _ (same_byte c 34 refl)
    (passes c (c == 35) Hash _ (same_byte c 35 refl)
    (passes c (c == 33) Bang Other (same_byte c 33 refl) (λ e. absurd (let f : true ≡ false = e in cc)))))))))))))))

of_class : (c : ℕ) (k : Class) → is_other k ≡ false → class_of c ≡ k → is_byte c ≡ true
of_class c k h e = class_byte c (ap is_other e ∙ h)

pub mark_byte : (m : ℕ) → class_of m ≡ Bracket → is_byte m ≡ true
mark_byte m e = of_class m Bracket refl e

-- ---- words and numbers

word_class : (a : Class) → is_word_class a ≡ true → is_other a ≡ false
word_class Other e = absurd (let f : false ≡ true = e in cc)
word_class _ e = refl

behind_bytes : (cs : List ℕ) → every word_byte cs ≡ true → AreBytes cs
behind_bytes [] h = refl
behind_bytes (c ∷ cs) h =
    let e = every_first word_byte c cs h in
    every_more is_byte c cs (class_byte c (word_class (class_of c) e.0)) (behind_bytes cs e.1)

pub word_bytes : (w : List ℕ) → is_word w ≡ true → AreBytes w
word_bytes [] h = refl
word_bytes (c ∷ cs) h = by (class_of c) refl h
  where
    by : (a : Class) → class_of c ≡ a → is_word_from a cs ≡ true → AreBytes (c ∷ cs)
    by Letter e k = every_more is_byte c cs (of_class c Letter refl e) (behind_bytes cs k)
    by Dash e k = every_more is_byte c cs (of_class c Dash refl e) (behind_bytes cs (neither (is_numeral cs) (every word_byte cs) k).1)
    by _ e k = absurd (let f : false ≡ true = k in cc)

pub digits_bytes : (ds : List ℕ) → every digit_byte ds ≡ true → AreBytes ds
digits_bytes [] h = refl
digits_bytes (d ∷ ds) h =
    let e = every_first digit_byte d ds h in
    every_more is_byte d ds (of_class d Digit refl (digit_class (class_of d) e.0)) (digits_bytes ds e.1)

-- an attribute group
pub group_bytes : (g : List ℕ) → Led Hash IsDigits g → AreBytes g
group_bytes g (c, cs, e, k, d) = subst AreBytes (sym e) (every_more is_byte c cs (of_class c Hash refl k) (digits_bytes cs (digits_every cs d)))
