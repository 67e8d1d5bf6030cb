-- What comes behind a word, a number or a name: a blank or a mark.
use Rattle.std.proofs.Common.{◌≡◌, ℕ, suc, ◌+◌, List, [], ◌∷◌, ◌++◌, length, drop, Some, Bool, true, false, not, ◌==◌, refl, ap, ◌∙◌, arith}
use Rattle.ir_core.specs.Bytes.{Class, Colon, blanks, marks, class_of, is_one_of, word_byte, digit_byte, every}
use Rattle.ir_core.specs.Tokens.{TokenKind}
use Rattle.ir_core.specs.Scan.{Literal, Minus, Zero, Whole, Point, Exponent, Sign, Power, Prefix, Format, Hexadecimal, Neither, literal_step, run, class_at, piece, by_colon}
use Rattle.ir_core.proofs.Runs.{one_of, run_ended}

-- ---- what comes behind a word, a number or a name: a blank or a mark

abbrev pub end_bytes : List ℕ
end_bytes = blanks ++ marks

abbrev pub ends : List ℕ → Bool
ends [] = false
ends (c ∷ cs) = is_one_of end_bytes c

abbrev pub Ends : List ℕ → Type 0
Ends rest = ends rest ≡ true

pub not_false : (b : Bool) → not b ≡ true → b ≡ false
not_false true e = absurd (let f : false ≡ true = e in cc)
not_false false e = refl

-- such a byte is in no word and in no number
pub ends_word : (c : ℕ) → is_one_of end_bytes c ≡ true → (word_byte c ≡ false) × (digit_byte c ≡ false)
ends_word c e = (not_false (word_byte c) (one_of (λ x. not (word_byte x)) end_bytes c refl e), not_false (digit_byte c) (one_of (λ x. not (digit_byte x)) end_bytes c refl e))

pub is_colon : Class → Bool
is_colon Colon = true
is_colon _ = false

-- no label
pub no_colon_by : (kind : TokenKind) (a : Class) (n : ℕ) → is_colon a ≡ false → by_colon kind a n ≡ piece (Some kind) n
unfolding is_colon
no_colon_by kind Colon n e = absurd (let f : true ≡ false = e in cc)
no_colon_by kind _ n e = refl

pub no_colon : (kind : TokenKind) (c n : ℕ) → is_one_of end_bytes c ≡ true → by_colon kind (class_of c) n ≡ piece (Some kind) n
unfolding is_colon
no_colon kind c n e = no_colon_by kind (class_of c) n (not_false (is_colon (class_of c)) (one_of (λ x. not (is_colon (class_of x))) end_bytes c refl e))

-- no string
pub no_string : (c : ℕ) → is_one_of end_bytes c ≡ true → (c == 34) ≡ false
no_string c e = not_false (c == 34) (one_of (λ x. not (x == 34)) end_bytes c refl e)

-- and no literal goes on with it
pub is_lost : Literal → Bool
is_lost Neither = true
is_lost _ = false

pub lost_is : (q : Literal) → is_lost q ≡ true → q ≡ Neither
unfolding is_lost
lost_is Neither e = refl
lost_is _ e = absurd (let f : false ≡ true = e in cc)

pub stopped : (q : Literal) (c : ℕ) → every (λ x. is_lost (literal_step q x)) end_bytes ≡ true → is_one_of end_bytes c ≡ true → literal_step q c ≡ Neither
stopped q c h e = lost_is (literal_step q c) (one_of (λ x. is_lost (literal_step q x)) end_bytes c h e)

pub stops : (c : ℕ) → is_one_of end_bytes c ≡ true → (q : Literal) → literal_step q c ≡ Neither
unfolding is_lost
stops c e Minus = stopped Minus c refl e
stops c e Zero = stopped Zero c refl e
stops c e Whole = stopped Whole c refl e
stops c e Point = stopped Point c refl e
stops c e Exponent = stopped Exponent c refl e
stops c e Sign = stopped Sign c refl e
stops c e Power = stopped Power c refl e
stops c e Prefix = stopped Prefix c refl e
stops c e Format = stopped Format c refl e
stops c e Hexadecimal = stopped Hexadecimal c refl e
stops c e Neither = refl

pub more : (n : ℕ) → n + 1 ≡ suc n
more n = omega arith

-- a run of bytes that the rest ends, with the class of the byte behind it
pub run_to : (p : ℕ → Bool) (ws : List ℕ) (c : ℕ) (rest : List ℕ) (kind : TokenKind) → every p ws ≡ true → p c ≡ false → (m : ℕ) (q : TokenKind) → by_colon kind (class_of c) (suc (length ws)) ≡ piece (Some q) m → by_colon kind (class_at (drop (run p (ws ++ c ∷ rest)) (ws ++ c ∷ rest))) (run p (ws ++ c ∷ rest) + 1) ≡ piece (Some q) m
run_to p ws c rest kind h k m q g =
    let r = run_ended p c ws rest h k in
    ap (λ x. by_colon kind x (run p (ws ++ c ∷ rest) + 1)) r.1 ∙ ap (λ x. by_colon kind (class_of c) (x + 1)) r.0 ∙ ap (by_colon kind (class_of c)) (more (length ws)) ∙ g
