-- Numbers and float literals are what the literal's course comes to.
use Rattle.std.proofs.Common.{◌≡◌, ℕ, suc, ◌+◌, ◌≤◌, ◌<◌, List, [], ◌∷◌, ◌++◌, length, take, Bool, true, false, cond, not, refl, sym, ap, ◌∙◌, subst, inl, inr, ◌⊎◌, arith, codes, ◌==◌, nat_lt, append_assoc}
use Rattle.std.proofs.lemmas.Bool.{eqb-true, ltb-true, lt-ltb}
use Rattle.ir_core.specs.Bytes.{Class, Digit, Dash, class_of, is_one_of, is_digit_class, digit_byte, hex_byte, every}
use Rattle.ir_core.specs.Tokens.{Led, Nothing, Each, OneOf, IsDigits, IsNumber, IsExponent, IsPointed, IsFloat}
use Rattle.ir_core.specs.Scan.{Literal, Minus, Zero, Whole, Point, Exponent, Sign, Power, Prefix, Format, Hexadecimal, Neither, literal_start, literal_step, is_whole, is_float, is_no_literal, longest}
use Rattle.ir_core.proofs.Runs.{by_test, if_true, if_false, every_first, every_more, one_of, digit_class, led_class, led_rest}

-- behind some bytes
abbrev pub after : Literal → List ℕ → Literal
after q [] = q
after q (c ∷ cs) = after (literal_step q c) cs

pub after_append : (q : Literal) (xs ys : List ℕ) → after q (xs ++ ys) ≡ after (after q xs) ys
after_append q [] ys = refl
after_append q (x ∷ xs) ys = after_append (literal_step q x) xs ys

-- the course of the bytes of a text
abbrev pub course : ℕ → List ℕ → Literal
course c cs = after (literal_start (class_of c) c) cs

pub neither : (cs : List ℕ) → after Neither cs ≡ Neither
neither [] = refl
neither (c ∷ cs) = neither cs

pub lost : (p : Literal → Bool) → p Neither ≡ false → (cs : List ℕ) → p (after Neither cs) ≡ true → ⊥
lost p n cs h = let f : true ≡ false = sym h ∙ ap p (neither cs) ∙ n in cc

-- by the tests of one step
step1 : {A : Type 0} (p : Literal → Bool) → p Neither ≡ false → (b : Bool) (q : Literal) (cs : List ℕ) → p (after (cond b q Neither) cs) ≡ true → (b ≡ true → p (after q cs) ≡ true → A) → A
step1 p n true q cs h f = f refl h
step1 p n false q cs h f = absurd (lost p n cs h)

step2 : {A : Type 0} (p : Literal → Bool) → p Neither ≡ false → (b d : Bool) (q r : Literal) (cs : List ℕ) → p (after (cond b q (cond d r Neither)) cs) ≡ true → (b ≡ true → p (after q cs) ≡ true → A) → (d ≡ true → p (after r cs) ≡ true → A) → A
step2 p n true d q r cs h f g = f refl h
step2 p n false d q r cs h f g = step1 p n d r cs h g

step3 : {A : Type 0} (p : Literal → Bool) → p Neither ≡ false → (b d e : Bool) (q r s : Literal) (cs : List ℕ) → p (after (cond b q (cond d r (cond e s Neither))) cs) ≡ true → (b ≡ true → p (after q cs) ≡ true → A) → (d ≡ true → p (after r cs) ≡ true → A) → (e ≡ true → p (after s cs) ≡ true → A) → A
step3 p n true d e q r s cs h f g k = f refl h
step3 p n false d e q r s cs h f g k = step2 p n d e r s cs h g k

-- ---- what comes to a float literal is one

power_is : (xs : List ℕ) → is_float (after Power xs) ≡ true → every digit_byte xs ≡ true
power_is [] h = refl
power_is (c ∷ cs) h = step1 is_float refl (digit_byte c) Power cs h (λ e k. every_more digit_byte c cs e (power_is cs k))

digits_led : (c : ℕ) (cs : List ℕ) → digit_byte c ≡ true → every digit_byte cs ≡ true → IsDigits (c ∷ cs)
digits_led c cs e h = (c, cs, refl, digit_class (class_of c) e, h)

sign_is : (xs : List ℕ) → is_float (after Sign xs) ≡ true → IsDigits xs
sign_is [] h = absurd (let f : false ≡ true = h in cc)
sign_is (c ∷ cs) h = step1 is_float refl (digit_byte c) Power cs h (λ e k. digits_led c cs e (power_is cs k))

-- what stands behind the letter of an exponent
abbrev Signed : List ℕ → Type 0
Signed xs = (sign digits : List ℕ) × (Nothing sign ⊎ OneOf (codes "+-") sign) × IsDigits digits × (xs ≡ sign ++ digits)

exponent_is : (xs : List ℕ) → is_float (after Exponent xs) ≡ true → Signed xs
exponent_is [] h = absurd (let f : false ≡ true = h in cc)
exponent_is (c ∷ cs) h = step2 is_float refl (digit_byte c) (is_one_of (codes "+-") c) Power Sign cs h (λ e k. ([], c ∷ cs, inl refl, digits_led c cs e (power_is cs k), refl)) (λ e k. (c ∷ [], cs, inr (c, e, refl), sign_is cs k, refl))

-- what stands behind the point
abbrev Fraction : List ℕ → Type 0
Fraction xs = (digits exponent : List ℕ) × Each digit_byte digits × (Nothing exponent ⊎ IsExponent exponent) × (xs ≡ digits ++ exponent)

point_is : (xs : List ℕ) → is_float (after Point xs) ≡ true → Fraction xs
point_is [] h = ([], [], refl, inl refl, refl)
point_is (c ∷ cs) h = step2 is_float refl (digit_byte c) (is_one_of (codes "eE") c) Point Exponent cs h
    (λ e k. let r = point_is cs k in (c ∷ r.0, r.1, every_more digit_byte c r.0 e r.2, r.3, ap (λ (l : List ℕ). c ∷ l) r.4))
    (λ e k. let r = exponent_is cs k in ([], c ∷ cs, refl, inr (c ∷ [], r.0, r.1, (c, e, refl), r.2, r.3, ap (λ (l : List ℕ). c ∷ l) r.4), refl))

-- what stands behind the first digit
abbrev Digits : List ℕ → Type 0
Digits xs = (digits tail : List ℕ) × Each digit_byte digits × Fraction tail × (xs ≡ digits ++ 46 ∷ tail)

whole_is : (xs : List ℕ) → is_float (after Whole xs) ≡ true → Digits xs
whole_is [] h = absurd (let f : false ≡ true = h in cc)
whole_is (c ∷ cs) h = step2 is_float refl (digit_byte c) (c == 46) Whole Point cs h (more c cs (whole_is cs)) (dot c cs)
  where
    more : (c : ℕ) (cs : List ℕ) → (is_float (after Whole cs) ≡ true → Digits cs) → digit_byte c ≡ true → is_float (after Whole cs) ≡ true → Digits (c ∷ cs)
    more c cs f e k = let r = f k in (c ∷ r.0, r.1, every_more digit_byte c r.0 e r.2, r.3, ap (λ (l : List ℕ). c ∷ l) r.4)

    dot : (c : ℕ) (cs : List ℕ) → (c == 46) ≡ true → is_float (after Point cs) ≡ true → Digits (c ∷ cs)
    dot c cs e k = ([], cs, refl, point_is cs k, ap (λ x. x ∷ cs) (eqb-true c 46 e))

minus_is : (xs : List ℕ) → is_float (after Minus xs) ≡ true → Led Digit Digits xs
minus_is [] h = absurd (let f : false ≡ true = h in cc)
minus_is (c ∷ cs) h = step1 is_float refl (digit_byte c) Whole cs h (λ e k. (c, cs, refl, digit_class (class_of c) e, whole_is cs k))

hexadecimal_is : (xs : List ℕ) → is_float (after Hexadecimal xs) ≡ true → every hex_byte xs ≡ true
hexadecimal_is [] h = refl
hexadecimal_is (c ∷ cs) h = step1 is_float refl (hex_byte c) Hexadecimal cs h (λ e k. every_more hex_byte c cs e (hexadecimal_is cs k))

-- what stands behind 0x
abbrev Coded : List ℕ → Type 0
Coded xs = (letter digits : List ℕ) × (Nothing letter ⊎ OneOf (codes "KLMHR") letter) × (1 ≤ length digits) × Each hex_byte digits × (xs ≡ letter ++ digits)

format_is : (xs : List ℕ) → is_float (after Format xs) ≡ true → (1 ≤ length xs) × (every hex_byte xs ≡ true)
format_is [] h = absurd (let f : false ≡ true = h in cc)
format_is (c ∷ cs) h = step1 is_float refl (hex_byte c) Hexadecimal cs h (λ e k. (omega arith, every_more hex_byte c cs e (hexadecimal_is cs k)))

prefix_is : (xs : List ℕ) → is_float (after Prefix xs) ≡ true → Coded xs
prefix_is [] h = absurd (let f : false ≡ true = h in cc)
prefix_is (c ∷ cs) h = step2 is_float refl (hex_byte c) (is_one_of (codes "KLMHR") c) Hexadecimal Format cs h
    (λ e k. ([], c ∷ cs, inl refl, omega arith, every_more hex_byte c cs e (hexadecimal_is cs k), refl))
    (λ e k. let r = format_is cs k in (c ∷ [], cs, inr (c, e, refl), r.0, r.1, refl))

abbrev DigitsOrCode : List ℕ → Type 0
DigitsOrCode xs = Digits xs ⊎ ((tail : List ℕ) × Coded tail × (xs ≡ 120 ∷ tail))

zero_is : (xs : List ℕ) → is_float (after Zero xs) ≡ true → DigitsOrCode xs
zero_is [] h = absurd (let f : false ≡ true = h in cc)
zero_is (c ∷ cs) h = step3 is_float refl (digit_byte c) (c == 46) (c == 120) Whole Point Prefix cs h (λ e k. inl (more e (whole_is cs k))) (λ e k. inl ([], cs, refl, point_is cs k, ap (λ x. x ∷ cs) (eqb-true c 46 e))) (λ e k. inr (cs, prefix_is cs k, ap (λ x. x ∷ cs) (eqb-true c 120 e)))
  where
    more : digit_byte c ≡ true → Digits cs → Digits (c ∷ cs)
    more e r = (c ∷ r.0, r.1, every_more digit_byte c r.0 e r.2, r.3, ap (λ (l : List ℕ). c ∷ l) r.4)

-- how a number with a point is put together
pointed_row : (whole digits exponent : List ℕ) → whole ++ codes "." ++ digits ++ exponent ≡ whole ++ 46 ∷ (digits ++ exponent)
pointed_row whole digits exponent = simp append_assoc

digits_pointed : (c : ℕ) (cs : List ℕ) → class_of c ≡ Digit → Digits cs → IsPointed (c ∷ cs)
digits_pointed c cs e (digits, tail, h, (fraction, exponent, f, x, q), s) =
    (c ∷ digits, fraction, exponent, inl (c, digits, refl, e, h), f, x, ap (λ (l : List ℕ). c ∷ l) (s ∙ ap (λ (l : List ℕ). digits ++ 46 ∷ l) q) ∙ sym (pointed_row (c ∷ digits) fraction exponent))

minus_pointed : (c d : ℕ) (ds : List ℕ) → class_of c ≡ Dash → class_of d ≡ Digit → Digits ds → IsPointed (c ∷ d ∷ ds)
minus_pointed c d ds e k (digits, tail, h, (fraction, exponent, f, x, q), s) =
    (c ∷ d ∷ digits, fraction, exponent, inr (c, d ∷ digits, refl, e, (d, digits, refl, k, h)), f, x, ap (λ (l : List ℕ). c ∷ d ∷ l) (s ∙ ap (λ (l : List ℕ). digits ++ 46 ∷ l) q) ∙ sym (pointed_row (c ∷ d ∷ digits) fraction exponent))

float_by_zero : (c : ℕ) (cs : List ℕ) → class_of c ≡ Digit → (c == 48) ≡ true → DigitsOrCode cs → IsFloat (c ∷ cs)
float_by_zero c cs e z (inl r) = inl (digits_pointed c cs e r)
float_by_zero c cs e z (inr (tail, (letter, digits, l, n, h, q), s)) = inr (letter, digits, l, n, h, ap (λ x. x ∷ cs) (eqb-true c 48 z) ∙ ap (λ (x : List ℕ). 48 ∷ x) (s ∙ ap (λ (x : List ℕ). 120 ∷ x) q))

float_by : (c : ℕ) (cs : List ℕ) (a : Class) → class_of c ≡ a → is_float (after (literal_start a c) cs) ≡ true → IsFloat (c ∷ cs)
float_by c cs Dash e h = let r = minus_is cs h in subst (λ (l : List ℕ). IsFloat (c ∷ l)) (sym r.2) (inl (minus_pointed c r.0 r.1 e r.3 r.4))
float_by c cs Digit e h = by_test (c == 48)
    (λ z. float_by_zero c cs e z (zero_is cs (subst (λ b. is_float (after (cond b Zero Whole) cs) ≡ true) z h)))
    (λ z. inl (digits_pointed c cs e (whole_is cs (subst (λ b. is_float (after (cond b Zero Whole) cs) ≡ true) z h))))
float_by c cs _ e h = absurd (lost is_float refl cs h)

pub course_float : (c : ℕ) (cs : List ℕ) → is_float (course c cs) ≡ true → IsFloat (c ∷ cs)
course_float c cs h = float_by c cs (class_of c) refl h

-- ---- what comes to digits is a number

-- behind the point and behind 0x nothing leads back to digits
abbrev late : Literal → Bool
late Minus = false
late Zero = false
late Whole = false
late _ = true

late_two : (b d : Bool) (x y : Literal) → late x ≡ true → late y ≡ true → late (cond b x (cond d y Neither)) ≡ true
late_two true d x y e f = e
late_two false true x y e f = f
late_two false false x y e f = refl

late_step : (q : Literal) (c : ℕ) → late q ≡ true → late (literal_step q c) ≡ true
late_step Minus c e = absurd (let f : false ≡ true = e in cc)
late_step Zero c e = absurd (let f : false ≡ true = e in cc)
late_step Whole c e = absurd (let f : false ≡ true = e in cc)
late_step Point c e = late_two (digit_byte c) (is_one_of (codes "eE") c) Point Exponent refl refl
late_step Exponent c e = late_two (digit_byte c) (is_one_of (codes "+-") c) Power Sign refl refl
late_step Sign c e = late_two (digit_byte c) false Power Neither refl refl
late_step Power c e = late_two (digit_byte c) false Power Neither refl refl
late_step Prefix c e = late_two (hex_byte c) (is_one_of (codes "KLMHR") c) Hexadecimal Format refl refl
late_step Format c e = late_two (hex_byte c) false Hexadecimal Neither refl refl
late_step Hexadecimal c e = late_two (hex_byte c) false Hexadecimal Neither refl refl
late_step Neither c e = refl

late_no_whole : (q : Literal) → late q ≡ true → is_whole q ≡ true → ⊥
late_no_whole Zero e h = let f : false ≡ true = e in cc
late_no_whole Whole e h = let f : false ≡ true = e in cc
late_no_whole _ e h = let f : false ≡ true = h in cc

late_after : (q : Literal) (cs : List ℕ) → late q ≡ true → is_whole (after q cs) ≡ true → ⊥
late_after q [] e h = late_no_whole q e h
late_after q (c ∷ cs) e h = late_after (literal_step q c) cs (late_step q c e) h

whole_digits : (xs : List ℕ) → is_whole (after Whole xs) ≡ true → every digit_byte xs ≡ true
whole_digits [] h = refl
whole_digits (c ∷ cs) h = step2 is_whole refl (digit_byte c) (c == 46) Whole Point cs h (λ e k. every_more digit_byte c cs e (whole_digits cs k)) (λ e k. absurd (late_after Point cs refl k))

zero_digits : (xs : List ℕ) → is_whole (after Zero xs) ≡ true → every digit_byte xs ≡ true
zero_digits [] h = refl
zero_digits (c ∷ cs) h = step3 is_whole refl (digit_byte c) (c == 46) (c == 120) Whole Point Prefix cs h (λ e k. every_more digit_byte c cs e (whole_digits cs k)) (λ e k. absurd (late_after Point cs refl k)) (λ e k. absurd (late_after Prefix cs refl k))

minus_digits : (xs : List ℕ) → is_whole (after Minus xs) ≡ true → IsDigits xs
minus_digits [] h = absurd (let f : false ≡ true = h in cc)
minus_digits (c ∷ cs) h = step1 is_whole refl (digit_byte c) Whole cs h (λ e k. digits_led c cs e (whole_digits cs k))

number_by : (c : ℕ) (cs : List ℕ) (a : Class) → class_of c ≡ a → is_whole (after (literal_start a c) cs) ≡ true → IsNumber (c ∷ cs)
number_by c cs Dash e h = inr (c, cs, refl, e, minus_digits cs h)
number_by c cs Digit e h = by_test (c == 48)
    (λ z. inl (c, cs, refl, e, zero_digits cs (subst (λ b. is_whole (after (cond b Zero Whole) cs) ≡ true) z h)))
    (λ z. inl (c, cs, refl, e, whole_digits cs (subst (λ b. is_whole (after (cond b Zero Whole) cs) ≡ true) z h)))
number_by c cs _ e h = absurd (lost is_whole refl cs h)

pub course_number : (c : ℕ) (cs : List ℕ) → is_whole (course c cs) ≡ true → IsNumber (c ∷ cs)
course_number c cs h = number_by c cs (class_of c) refl h

-- ---- a number comes to digits

whole_step : (q : Literal) (d : ℕ) → is_whole q ≡ true → digit_byte d ≡ true → is_whole (literal_step q d) ≡ true
whole_step Zero d e h = ap is_whole (if_true (digit_byte d) Whole _ h)
whole_step Whole d e h = ap is_whole (if_true (digit_byte d) Whole _ h)
whole_step _ d e h = absurd (let f : false ≡ true = e in cc)

whole_more : (q : Literal) (ds : List ℕ) → is_whole q ≡ true → every digit_byte ds ≡ true → is_whole (after q ds) ≡ true
whole_more q [] e h = e
whole_more q (d ∷ ds) e h = let k = every_first digit_byte d ds h in whole_more (literal_step q d) ds (whole_step q d e k.0) k.1

start_whole : (c : ℕ) → class_of c ≡ Digit → is_whole (literal_start (class_of c) c) ≡ true
start_whole c e = ap (λ a. is_whole (literal_start a c)) e ∙ by_test (c == 48) (λ z. ap (λ b. is_whole (cond b Zero Whole)) z) (λ z. ap (λ b. is_whole (cond b Zero Whole)) z)

minus_whole : (cs : List ℕ) → IsDigits cs → is_whole (after Minus cs) ≡ true
minus_whole cs (d, ds, q, e, h) = ap (λ (l : List ℕ). is_whole (after Minus l)) q ∙ ap (λ a. is_whole (after (cond (is_digit_class a) Whole Neither) ds)) e ∙ whole_more Whole ds refl h

pub number_course : (c : ℕ) (cs : List ℕ) → IsNumber (c ∷ cs) → is_whole (course c cs) ≡ true
number_course c cs (inl r) = whole_more (literal_start (class_of c) c) cs (start_whole c (led_class Digit (Each digit_byte) c cs (c ∷ cs) r refl)) (led_rest Digit (Each digit_byte) c cs (c ∷ cs) r refl)
number_course c cs (inr r) = ap (λ a. is_whole (after (literal_start a c) cs)) (led_class Dash IsDigits c cs (c ∷ cs) r refl) ∙ minus_whole cs (led_rest Dash IsDigits c cs (c ∷ cs) r refl)

-- ---- a float literal comes to one

point_step : (q : Literal) → is_whole q ≡ true → literal_step q 46 ≡ Point
point_step Zero e = refl
point_step Whole e = refl
point_step _ e = absurd (let f : false ≡ true = e in cc)

points : (ds : List ℕ) → every digit_byte ds ≡ true → after Point ds ≡ Point
points [] h = refl
points (d ∷ ds) h = let k = every_first digit_byte d ds h in ap (λ q. after q ds) (if_true (digit_byte d) Point _ k.0) ∙ points ds k.1

powers : (ds : List ℕ) → every digit_byte ds ≡ true → after Power ds ≡ Power
powers [] h = refl
powers (d ∷ ds) h = let k = every_first digit_byte d ds h in ap (λ q. after q ds) (if_true (digit_byte d) Power _ k.0) ∙ powers ds k.1

-- the first digit of an exponent
first_power : (q : Literal) (ds : List ℕ) → ((d : ℕ) → digit_byte d ≡ true → literal_step q d ≡ Power) → IsDigits ds → is_float (after q ds) ≡ true
first_power q ds f (d, es, s, e, h) = ap (λ (l : List ℕ). is_float (after q l)) s ∙ ap (λ r. is_float (after r es)) (f d (ap is_digit_class e)) ∙ ap is_float (powers es h)

not_false : (b : Bool) → not b ≡ true → b ≡ false
not_false true e = absurd (let f : false ≡ true = e in cc)
not_false false e = refl

no_digit : (bs : List ℕ) (c : ℕ) → every (λ x. not (digit_byte x)) bs ≡ true → is_one_of bs c ≡ true → digit_byte c ≡ false
no_digit bs c h e = not_false (digit_byte c) (one_of (λ x. not (digit_byte x)) bs c h e)

signed_float : (sign digits : List ℕ) → Nothing sign ⊎ OneOf (codes "+-") sign → IsDigits digits → is_float (after Exponent (sign ++ digits)) ≡ true
signed_float sign digits (inl s) r = ap (λ (l : List ℕ). is_float (after Exponent (l ++ digits))) s ∙ first_power Exponent digits (λ d e. if_true (digit_byte d) Power _ e) r
signed_float sign digits (inr (c, e, s)) r =
    ap (λ (l : List ℕ). is_float (after Exponent (l ++ digits))) s
    ∙ ap (λ q. is_float (after q digits)) (if_false (digit_byte c) Power _ (no_digit (codes "+-") c refl e) ∙ if_true (is_one_of (codes "+-") c) Sign Neither e)
    ∙ first_power Sign digits (λ d k. if_true (digit_byte d) Power _ k) r

exponent_float : (xs : List ℕ) → Nothing xs ⊎ IsExponent xs → is_float (after Point xs) ≡ true
exponent_float xs (inl s) = ap (λ (l : List ℕ). is_float (after Point l)) s
exponent_float xs (inr (letter, sign, digits, (c, e, l), g, r, s)) =
    ap (λ (x : List ℕ). is_float (after Point x)) (s ∙ ap (λ (x : List ℕ). x ++ sign ++ digits) l)
    ∙ ap (λ q. is_float (after q (sign ++ digits))) (if_false (digit_byte c) Point _ (no_digit (codes "eE") c refl e) ∙ if_true (is_one_of (codes "eE") c) Exponent Neither e)
    ∙ signed_float sign digits g r

pub no_number : IsNumber [] → ⊥
no_number (inl r) = let f = r.2 in cc
no_number (inr r) = let f = r.2 in cc

pointed_by : (c : ℕ) (cs whole digits exponent : List ℕ) → IsNumber whole → every digit_byte digits ≡ true → Nothing exponent ⊎ IsExponent exponent → c ∷ cs ≡ whole ++ codes "." ++ digits ++ exponent → is_float (course c cs) ≡ true
pointed_by c cs [] digits exponent n h x s = absurd (no_number n)
pointed_by c cs (w ∷ ws) digits exponent n h x s =
    let f : c ∷ cs ≡ w ∷ (ws ++ 46 ∷ (digits ++ exponent)) = s ∙ pointed_row (w ∷ ws) digits exponent in
    let e : c ≡ w = cc in
    let t : cs ≡ ws ++ 46 ∷ (digits ++ exponent) = cc in
    ap (λ v. is_float (course v cs)) e
    ∙ ap (λ (l : List ℕ). is_float (course w l)) t
    ∙ ap is_float (after_append (literal_start (class_of w) w) ws (46 ∷ (digits ++ exponent)))
    ∙ ap (λ q. is_float (after q (digits ++ exponent))) (point_step (course w ws) (number_course w ws n))
    ∙ ap is_float (after_append Point digits exponent)
    ∙ ap (λ q. is_float (after q exponent)) (points digits h)
    ∙ exponent_float exponent x

codes_more : (ds : List ℕ) → every hex_byte ds ≡ true → after Hexadecimal ds ≡ Hexadecimal
codes_more [] h = refl
codes_more (d ∷ ds) h = let k = every_first hex_byte d ds h in ap (λ q. after q ds) (if_true (hex_byte d) Hexadecimal _ k.0) ∙ codes_more ds k.1

first_code : (q : Literal) (ds : List ℕ) → ((d : ℕ) → hex_byte d ≡ true → literal_step q d ≡ Hexadecimal) → 1 ≤ length ds → every hex_byte ds ≡ true → is_float (after q ds) ≡ true
first_code q [] f l h = absurd (omega arith)
first_code q (d ∷ ds) f l h = let k = every_first hex_byte d ds h in ap (λ r. is_float (after r ds)) (f d k.0) ∙ ap is_float (codes_more ds k.1)

coded_float : (letter digits : List ℕ) → Nothing letter ⊎ OneOf (codes "KLMHR") letter → 1 ≤ length digits → every hex_byte digits ≡ true → is_float (after Prefix (letter ++ digits)) ≡ true
coded_float letter digits (inl s) l h = ap (λ (x : List ℕ). is_float (after Prefix (x ++ digits))) s ∙ first_code Prefix digits (λ d e. if_true (hex_byte d) Hexadecimal _ e) l h
coded_float letter digits (inr (c, e, s)) l h =
    ap (λ (x : List ℕ). is_float (after Prefix (x ++ digits))) s
    ∙ ap (λ q. is_float (after q digits)) (if_false (hex_byte c) Hexadecimal _ (not_false (hex_byte c) (one_of (λ x. not (hex_byte x)) (codes "KLMHR") c refl e)) ∙ if_true (is_one_of (codes "KLMHR") c) Format Neither e)
    ∙ first_code Format digits (λ d k. if_true (hex_byte d) Hexadecimal _ k) l h

pub float_course : (c : ℕ) (cs : List ℕ) → IsFloat (c ∷ cs) → is_float (course c cs) ≡ true
float_course c cs (inl (whole, digits, exponent, n, h, x, s)) = pointed_by c cs whole digits exponent n h x s
float_course c cs (inr (letter, digits, g, l, h, s)) =
    let f : c ∷ cs ≡ 48 ∷ 120 ∷ (letter ++ digits) = s in
    let e : c ≡ 48 = cc in
    let t : cs ≡ 120 ∷ (letter ++ digits) = cc in
    ap (λ v. is_float (course v cs)) e ∙ ap (λ (x : List ℕ). is_float (course 48 x)) t ∙ coded_float letter digits g l h

-- ---- the longest front

emptied : (p : Literal → Bool) (q : Literal) (ys : List ℕ) → length ys ≡ 0 → p (after q ys) ≡ true → p q ≡ true
emptied p q [] l h = h
emptied p q (y ∷ ys) l h = absurd (omega arith)

long_by : (n k : ℕ) (h : Bool) → k ≤ n → (k ≡ 0 → h ≡ true) → (b : Bool) → nat_lt 0 n ≡ b → suc k ≤ cond b (n + 1) (cond h 1 0)
long_by n k h l f true e = omega arith
long_by n k h l f false e =
    let z : 0 < n → ⊥ = λ m. let g : true ≡ false = sym (lt-ltb 0 n m) ∙ e in cc in
    let t = f (omega arith) in
    subst (λ x. suc k ≤ cond x 1 0) (sym t) (omega arith)

pub longest_bound : (p : Literal → Bool) (q : Literal) (ys rest : List ℕ) → p (after q ys) ≡ true → length ys ≤ longest p q (ys ++ rest)
longest_bound p q [] rest h = omega arith
longest_bound p q (c ∷ ys) rest h = long_by (longest p (literal_step q c) (ys ++ rest)) (length ys) (p (literal_step q c)) (longest_bound p (literal_step q c) ys rest h) (λ l. emptied p (literal_step q c) ys l h) (nat_lt 0 (longest p (literal_step q c) (ys ++ rest))) refl

long_is_by : (p : Literal → Bool) (q : Literal) (c : ℕ) (cs : List ℕ) (n : ℕ) → (0 < n → p (after (literal_step q c) (take n cs)) ≡ true) → (h : Bool) → p (literal_step q c) ≡ h → (b : Bool) → nat_lt 0 n ≡ b → 0 < cond b (n + 1) (cond h 1 0) → p (after q (take (cond b (n + 1) (cond h 1 0)) (c ∷ cs))) ≡ true
long_is_by p q c cs n k h f true e l = subst (λ m. p (after q (take m (c ∷ cs))) ≡ true) (let z : suc n ≡ n + 1 = omega arith in z) (k (ltb-true 0 n e))
long_is_by p q c cs n k true f false e l = f
long_is_by p q c cs n k false f false e l = absurd (omega arith)

pub longest_is : (p : Literal → Bool) (q : Literal) (cs : List ℕ) → 0 < longest p q cs → p (after q (take (longest p q cs) cs)) ≡ true
longest_is p q [] l = absurd (omega arith)
longest_is p q (c ∷ cs) l = long_is_by p q c cs (longest p (literal_step q c) cs) (longest_is p (literal_step q c) cs) (p (literal_step q c)) refl (nat_lt 0 (longest p (literal_step q c) cs)) refl l

long_fits_by : (n m : ℕ) → n ≤ m → (h b : Bool) → cond b (n + 1) (cond h 1 0) ≤ suc m
long_fits_by n m l h true = omega arith
long_fits_by n m l true false = omega arith
long_fits_by n m l false false = omega arith

pub longest_fits : (p : Literal → Bool) (q : Literal) (cs : List ℕ) → longest p q cs ≤ length cs
longest_fits p q [] = omega arith
longest_fits p q (c ∷ cs) = long_fits_by (longest p (literal_step q c) cs) (length cs) (longest_fits p (literal_step q c) cs) (p (literal_step q c)) (nat_lt 0 (longest p (literal_step q c) cs))

pub longest_lost : (p : Literal → Bool) → p Neither ≡ false → (cs : List ℕ) → longest p Neither cs ≡ 0
longest_lost p n [] = refl
longest_lost p n (c ∷ cs) = ap (λ m. cond (nat_lt 0 m) (m + 1) (cond (p Neither) 1 0)) (longest_lost p n cs) ∙ ap (λ h. cond h 1 0) n

-- a byte behind which nothing goes on
pub longest_stops : (p : Literal → Bool) → p Neither ≡ false → (q : Literal) (ys : List ℕ) (c : ℕ) (rest : List ℕ) → ((r : Literal) → literal_step r c ≡ Neither) → longest p q (ys ++ c ∷ rest) ≤ length ys
longest_stops p n q [] c rest f =
    let e : longest p q (c ∷ rest) ≡ 0 = ap (λ r. cond (nat_lt 0 (longest p r rest)) (longest p r rest + 1) (cond (p r) 1 0)) (f q) ∙ longest_lost p n (c ∷ rest) in
    omega arith
longest_stops p n q (y ∷ ys) c rest f = long_fits_by (longest p (literal_step q y) (ys ++ c ∷ rest)) (length ys) (longest_stops p n (literal_step q y) ys c rest f) (p (literal_step q y)) (nat_lt 0 (longest p (literal_step q y) (ys ++ c ∷ rest)))

pub colon_stops : (q : Literal) → literal_step q 58 ≡ Neither
colon_stops Minus = refl
colon_stops Zero = refl
colon_stops Whole = refl
colon_stops Point = refl
colon_stops Exponent = refl
colon_stops Sign = refl
colon_stops Power = refl
colon_stops Prefix = refl
colon_stops Format = refl
colon_stops Hexadecimal = refl
colon_stops Neither = refl

pub whole_no_float : (q : Literal) → is_whole q ≡ true → is_float q ≡ true → ⊥
whole_no_float Zero e h = let f : false ≡ true = h in cc
whole_no_float Whole e h = let f : false ≡ true = h in cc
whole_no_float _ e h = let f : false ≡ true = e in cc

-- a word behind a - comes to no literal
pub no_literal : (d : ℕ) (ds : List ℕ) → class_of d ≡ Dash → (IsNumber (d ∷ ds) → ⊥) → (IsFloat (d ∷ ds) → ⊥) → is_no_literal (after Minus ds) ≡ true
no_literal d ds e n f =
    let s : course d ds ≡ after Minus ds = ap (λ a. after (literal_start a d) ds) e in
    by_test (is_whole (after Minus ds)) (λ h. absurd (n (course_number d ds (ap is_whole s ∙ h)))) (λ h.
    by_test (is_float (after Minus ds)) (λ k. absurd (f (course_float d ds (ap is_float s ∙ k)))) (λ k.
    if_false (is_whole (after Minus ds)) false _ h ∙ if_false (is_float (after Minus ds)) false true k))

-- and what comes to no literal is neither a number nor a float literal
pub no_literal_number : (d : ℕ) (ds : List ℕ) → class_of d ≡ Dash → is_no_literal (after Minus ds) ≡ true → IsNumber (d ∷ ds) → ⊥
no_literal_number d ds e h n =
    let w : is_whole (after Minus ds) ≡ true = sym (ap (λ a. is_whole (after (literal_start a d) ds)) e) ∙ number_course d ds n in
    let f : false ≡ true = sym (ap (λ b. cond b false (cond (is_float (after Minus ds)) false true)) w) ∙ h in
    cc

pub no_literal_float : (d : ℕ) (ds : List ℕ) → class_of d ≡ Dash → is_no_literal (after Minus ds) ≡ true → IsFloat (d ∷ ds) → ⊥
no_literal_float d ds e h n = none (after Minus ds) h (sym (ap (λ a. is_float (after (literal_start a d) ds)) e) ∙ float_course d ds n)
  where
    none : (q : Literal) → is_no_literal q ≡ true → is_float q ≡ true → ⊥
    none Point h k = let f : false ≡ true = h in cc
    none Power h k = let f : false ≡ true = h in cc
    none Hexadecimal h k = let f : false ≡ true = h in cc
    none _ h k = let f : false ≡ true = k in cc

-- what begins a float literal
start_class : (a : Class) (c : ℕ) (cs : List ℕ) → is_float (after (literal_start a c) cs) ≡ true → (a ≡ Digit) ⊎ (a ≡ Dash)
start_class Digit c cs h = inl refl
start_class Dash c cs h = inr refl
start_class _ c cs h = absurd (lost is_float refl cs h)

pub no_float : IsFloat [] → ⊥
no_float (inl (whole, digits, exponent, n, h, x, s)) = by whole (s ∙ pointed_row whole digits exponent)
  where
    by : (w : List ℕ) → [] ≡ w ++ 46 ∷ (digits ++ exponent) → ⊥
    by [] e = cc
    by (v ∷ w) e = cc
no_float (inr (letter, digits, g, l, h, s)) = let f : [] ≡ 48 ∷ 120 ∷ (letter ++ digits) = s in cc

start_no_float : (a : Class) (c : ℕ) → is_float (literal_start a c) ≡ true → ⊥
start_no_float Digit c h = by (c == 48) h
  where
    by : (b : Bool) → is_float (cond b Zero Whole) ≡ true → ⊥
    by true h = let f : false ≡ true = h in cc
    by false h = let f : false ≡ true = h in cc
start_no_float _ c h = let f : false ≡ true = h in cc

-- a float literal at the front of a text
pub float_front : (c : ℕ) (cs ys rest : List ℕ) → IsFloat ys → c ∷ cs ≡ ys ++ rest → ((class_of c ≡ Digit) ⊎ (class_of c ≡ Dash)) × (0 < longest is_float (literal_start (class_of c) c) cs) × (length ys ≤ longest is_float (literal_start (class_of c) c) cs + 1)
float_front c cs [] rest r e = absurd (no_float r)
float_front c cs (y ∷ ys) rest r e =
    let f : c ∷ cs ≡ y ∷ (ys ++ rest) = e in
    let h : c ≡ y = cc in
    let t : cs ≡ ys ++ rest = cc in
    let k : is_float (course c ys) ≡ true = float_course c ys (subst (λ v. IsFloat (v ∷ ys)) (sym h) r) in
    let b : length ys ≤ longest is_float (literal_start (class_of c) c) cs = subst (λ (l : List ℕ). length ys ≤ longest is_float (literal_start (class_of c) c) l) (sym t) (longest_bound is_float (literal_start (class_of c) c) ys rest k) in
    let s : 0 < length ys = some ys k in
    (start_class (class_of c) c ys k, omega arith, omega arith)
  where
    some : (xs : List ℕ) → is_float (course c xs) ≡ true → 0 < length xs
    some [] k = absurd (start_no_float (class_of c) c k)
    some (x ∷ xs) k = omega arith
