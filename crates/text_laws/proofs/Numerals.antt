-- A word behind its - is no literal.
use Rattle.std.proofs.Common.{◌≡◌, ℕ, ◌≤◌, ◌<◌, List, [], ◌∷◌, ◌++◌, length, take, Bool, true, false, cond, not, ◌==◌, refl, sym, ap, ◌∙◌, subst, inl, inr, ◌⊎◌, arith, take_at, codes, nat_lt}
use Rattle.std.proofs.lemmas.Bool.{eqb-true, lt-ltb}
use Rattle.ir_core.specs.Bytes.{class_of, is_one_of, word_byte, digit_byte, every}
use Rattle.ir_core.specs.Tokens.{Float}
use Rattle.ir_core.specs.Scan.{Literal, Minus, Whole, Point, Exponent, Sign, Power, Neither, literal_step, is_whole, is_float, is_no_literal, longest, run, is_number_tail, c_text_size, quoted_size, by_size, by_tail, word_piece, dash_piece}
use Rattle.ir_core.specs.Text.{is_numeral, is_numeral_from, is_behind_point, is_exponent, is_digits}
use Rattle.ir_core.proofs.Runs.{by_test, if_true, if_false, run_ended, run_front, every_first, digit_class, tail_true}
use Rattle.ir_core.proofs.Literals.{after, neither, number_course, longest_is, longest_stops}
use Rattle.ir_core.proofs.Below.{size_none, some_or_none}

-- ---- a word behind its - is no literal

-- a test that holds, and of which the first answer would not
pub if_not : (b x : Bool) → cond b false x ≡ true → (b ≡ false) × (x ≡ true)
if_not true x e = absurd (let f : false ≡ true = e in cc)
if_not false x e = (refl, e)

-- no literal
abbrev pub numeral : Literal → Bool
numeral q = not (is_no_literal q)

pub numeral_lost : (ws : List ℕ) → numeral (after Neither ws) ≡ false
numeral_lost ws = ap numeral (neither ws)

pub power_numeral : (ws : List ℕ) → every digit_byte ws ≡ numeral (after Power ws)
power_numeral [] = refl
power_numeral (c ∷ ws) = by (digit_byte c) (power_numeral ws)
  where
    by : (b : Bool) → every digit_byte ws ≡ numeral (after Power ws) → cond b (every digit_byte ws) false ≡ numeral (after (cond b Power Neither) ws)
    by true h = h
    by false h = sym (numeral_lost ws)

pub digits_numeral : (q : Literal) (ws : List ℕ) → ((c : ℕ) (cs : List ℕ) → cond (digit_byte c) (every digit_byte cs) false ≡ numeral (after q (c ∷ cs))) → numeral q ≡ false → is_digits ws ≡ numeral (after q ws)
digits_numeral q [] f n = sym n
digits_numeral q (c ∷ cs) f n = f c cs

pub sign_numeral : (ws : List ℕ) → is_digits ws ≡ numeral (after Sign ws)
sign_numeral ws = digits_numeral Sign ws by refl
  where
    by : (c : ℕ) (cs : List ℕ) → cond (digit_byte c) (every digit_byte cs) false ≡ numeral (after Sign (c ∷ cs))
    by c cs = two (digit_byte c)
      where
        two : (b : Bool) → cond b (every digit_byte cs) false ≡ numeral (after (cond b Power Neither) cs)
        two true = power_numeral cs
        two false = sym (numeral_lost cs)

-- a byte of a word is no +
pub no_plus : (c : ℕ) → word_byte c ≡ true → (c == 43) ≡ false
no_plus c e = by_test (c == 43) (λ h. let f : true ≡ false = sym e ∙ ap word_byte (eqb-true c 43 h) in absurd (cc)) (λ h. h)

pub exponent_numeral : (ws : List ℕ) → every word_byte ws ≡ true → is_exponent ws ≡ numeral (after Exponent ws)
exponent_numeral [] h = refl
exponent_numeral (c ∷ ws) h = by_test (c == 45) (λ e. dash e) (λ e. other e)
  where
    dash : (c == 45) ≡ true → cond (c == 45) (is_digits ws) (is_digits (c ∷ ws)) ≡ numeral (after Exponent (c ∷ ws))
    dash e = subst (λ v. cond (v == 45) (is_digits ws) (is_digits (v ∷ ws)) ≡ numeral (after Exponent (v ∷ ws))) (sym (eqb-true c 45 e)) (sign_numeral ws)

    two : (b : Bool) → cond b (every digit_byte ws) false ≡ numeral (after (cond b Power Neither) ws)
    two true = power_numeral ws
    two false = sym (numeral_lost ws)

    plus : is_one_of (codes "+-") c ≡ (c == 45)
    plus = if_false (c == 43) true (cond (c == 45) true false) (no_plus c (every_first word_byte c ws h).0) ∙ same (c == 45)
      where
        same : (b : Bool) → cond b true false ≡ b
        same true = refl
        same false = refl

    other : (c == 45) ≡ false → cond (c == 45) (is_digits ws) (is_digits (c ∷ ws)) ≡ numeral (after Exponent (c ∷ ws))
    other e = if_false (c == 45) (is_digits ws) (is_digits (c ∷ ws)) e ∙ two (digit_byte c) ∙ ap (λ b. numeral (after (cond (digit_byte c) Power (cond b Sign Neither)) ws)) (sym (plus ∙ e))

pub point_numeral : (ws : List ℕ) → every word_byte ws ≡ true → is_behind_point ws ≡ numeral (after Point ws)
point_numeral [] h = refl
point_numeral (c ∷ ws) h = let k = (every_first word_byte c ws h).1 in by (digit_byte c) (c == 101) (c == 69) (point_numeral ws k) (exponent_numeral ws k)
  where
    by : (b d e : Bool) → is_behind_point ws ≡ numeral (after Point ws) → is_exponent ws ≡ numeral (after Exponent ws) → cond b (is_behind_point ws) (cond d (is_exponent ws) (cond e (is_exponent ws) false)) ≡ numeral (after (cond b Point (cond (cond d true (cond e true false)) Exponent Neither)) ws)
    by true d e p x = p
    by false true e p x = x
    by false false true p x = x
    by false false false p x = sym (numeral_lost ws)

pub whole_numeral : (ws : List ℕ) → every word_byte ws ≡ true → is_numeral_from true ws ≡ numeral (after Whole ws)
whole_numeral [] h = refl
whole_numeral (c ∷ ws) h = let k = (every_first word_byte c ws h).1 in by (digit_byte c) (c == 46) (whole_numeral ws k) (point_numeral ws k)
  where
    by : (b d : Bool) → is_numeral_from true ws ≡ numeral (after Whole ws) → is_behind_point ws ≡ numeral (after Point ws) → cond b (is_numeral_from true ws) (cond d (is_behind_point ws) false) ≡ numeral (after (cond b Whole (cond d Point Neither)) ws)
    by true d w p = w
    by false true w p = p
    by false false w p = sym (numeral_lost ws)

-- the printer's test and the literal's course agree
pub minus_numeral : (ws : List ℕ) → every word_byte ws ≡ true → is_numeral ws ≡ numeral (after Minus ws)
minus_numeral [] h = refl
minus_numeral (c ∷ ws) h = by (digit_byte c) (c == 46) (whole_numeral ws (every_first word_byte c ws h).1)
  where
    by : (b d : Bool) → is_numeral_from true ws ≡ numeral (after Whole ws) → cond b (is_numeral_from true ws) (cond d false false) ≡ numeral (after (cond b Whole Neither) ws)
    by true d w = w
    by false true w = sym (numeral_lost ws)
    by false false w = sym (numeral_lost ws)

pub no_literal_of : (q : Literal) → false ≡ numeral q → is_no_literal q ≡ true
no_literal_of q e = by (is_no_literal q) e
  where
    by : (b : Bool) → false ≡ not b → b ≡ true
    by true e = refl
    by false e = let f : false ≡ true = e in absurd (cc)

pub no_literal_parts : (q : Literal) → is_no_literal q ≡ true → (is_whole q ≡ false) × (is_float q ≡ false)
no_literal_parts q e = let a = if_not (is_whole q) (cond (is_float q) false true) e in (a.0, (if_not (is_float q) true a.1).0)

-- what a - begins, where its bytes are a word
pub dash_by : (ws : List ℕ) (c : ℕ) (rest : List ℕ) → every word_byte ws ≡ true → is_numeral ws ≡ false → word_byte c ≡ false → ((q : Literal) → literal_step q c ≡ Neither) → (is_number_tail (ws ++ c ∷ rest) ≡ false) × ((longest is_float Minus (ws ++ c ∷ rest) < run word_byte (ws ++ c ∷ rest)) ⊎ (longest is_float Minus (ws ++ c ∷ rest) ≡ 0))
dash_by ws c rest h n k s =
    let a = no_literal_parts (after Minus ws) (no_literal_of (after Minus ws) (sym n ∙ minus_numeral ws h)) in
    let r = (run_ended word_byte c ws rest h k).0 in
    let b = longest_stops is_float refl Minus ws c rest s in
    (tail a.0 (is_number_tail (ws ++ c ∷ rest)) refl, float a.1 b r (some_or_none (longest is_float Minus (ws ++ c ∷ rest))))
  where
    tail : is_whole (after Minus ws) ≡ false → (b : Bool) → is_number_tail (ws ++ c ∷ rest) ≡ b → is_number_tail (ws ++ c ∷ rest) ≡ false
    tail a false e = e
    tail a true e =
        let t = tail_true (ws ++ c ∷ rest) e in
        let r = (run_ended word_byte c ws rest h k).0 in
        let t0 = t.0 in
        let t1 = t.1 in
        let w : is_whole (after Minus ws) ≡ true = digits ws (omega arith) (run_front digit_byte ws (c ∷ rest) (omega arith)) in
        let f : true ≡ false = sym w ∙ a in
        absurd (cc)
      where
        digits : (ds : List ℕ) → 0 < length ds → every digit_byte ds ≡ true → is_whole (after Minus ds) ≡ true
        digits [] l g = absurd (omega arith)
        digits (d ∷ ds) l g = let e = every_first digit_byte d ds g in number_course 45 (d ∷ ds) (inr (45, d ∷ ds, refl, refl, (d, ds, refl, digit_class (class_of d) e.0, e.1)))

    float : is_float (after Minus ws) ≡ false → longest is_float Minus (ws ++ c ∷ rest) ≤ length ws → run word_byte (ws ++ c ∷ rest) ≡ length ws → (longest is_float Minus (ws ++ c ∷ rest) ≡ 0) ⊎ (0 < longest is_float Minus (ws ++ c ∷ rest)) → (longest is_float Minus (ws ++ c ∷ rest) < run word_byte (ws ++ c ∷ rest)) ⊎ (longest is_float Minus (ws ++ c ∷ rest) ≡ 0)
    float a b r (inl z) = inr z
    float a b r (inr l) =
        let n = longest is_float Minus (ws ++ c ∷ rest) in
        let no : n ≡ length ws → ⊥ = λ e. let f : true ≡ false = sym (ap (λ (x : List ℕ). is_float (after Minus x)) (sym (take_at ws (c ∷ rest) (length ws) refl) ∙ ap (λ m. take m (ws ++ c ∷ rest)) (sym e)) ∙ longest_is is_float Minus (ws ++ c ∷ rest) l) ∙ a in cc in
        inl (omega arith)

pub dash_is_word : (f : ℕ) (cs : List ℕ) → is_number_tail cs ≡ false → (f < run word_byte cs) ⊎ (f ≡ 0) → dash_piece f cs ≡ word_piece cs
dash_is_word f cs t (inl l) = if_true (nat_lt f (run word_byte cs)) (by_tail (is_number_tail cs) cs) (by_size Float f (by_tail (is_number_tail cs) cs)) (lt-ltb f (run word_byte cs) l) ∙ ap (λ b. by_tail b cs) t
dash_is_word f cs t (inr z) = by (nat_lt f (run word_byte cs)) ∙ ap (λ b. by_tail b cs) t
  where
    by : (b : Bool) → cond b (by_tail (is_number_tail cs) cs) (by_size Float f (by_tail (is_number_tail cs) cs)) ≡ by_tail (is_number_tail cs) cs
    by true = refl
    by false = size_none Float f (by_tail (is_number_tail cs) cs) z

pub no_string_by : (x y : Bool) (n : ℕ) → y ≡ false → cond x (cond y n 0) 0 ≡ 0
no_string_by true true n e = let f : true ≡ false = e in absurd (cc)
no_string_by true false n e = refl
no_string_by false y n e = refl

-- no string behind a word
pub no_c_text : (b : ℕ) (ws : List ℕ) (c : ℕ) (rest : List ℕ) → every word_byte ws ≡ true → (c == 34) ≡ false → c_text_size b (ws ++ c ∷ rest) ≡ 0
no_c_text b [] c rest h e = no_string_by (b == 99) (c == 34) (quoted_size rest) e
no_c_text b (w ∷ ws) c rest h e = no_string_by (b == 99) (w == 34) (quoted_size (ws ++ c ∷ rest)) (quote w (every_first word_byte w ws h).0)
  where
    quote : (w : ℕ) → word_byte w ≡ true → (w == 34) ≡ false
    quote w k = by_test (w == 34) (λ g. let f : true ≡ false = sym k ∙ ap word_byte (eqb-true w 34 g) in absurd (cc)) (λ g. g)
