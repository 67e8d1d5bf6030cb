-- But for passive lines, what scanning finds at the front of a text is a piece, or a byte that it calls bad.
use Rattle.std.proofs.Common.{◌≡◌, ℕ, zero, suc, ◌+◌, ◌≤◌, ◌<◌, List, [], ◌∷◌, ◌++◌, length, take, drop, Option, Some, None, Bool, true, false, cond, refl, sym, ap, ◌∙◌, subst, inl, inr, ◌⊎◌, arith, length-append, ◌==◌, nat_lt, codes}
use Rattle.std.proofs.lemmas.List.{take-append-drop, length-take-le, take-take}
use Rattle.std.proofs.lemmas.Bool.{eqb-true, ltb-true}
use Rattle.ir_core.specs.Bytes.{Class, Blank, Semicolon, Bracket, Digit, Dash, Letter, Percent, AtSign, Colon, Quote, Hash, Bang, Other, class_of, is_digit_class, word_byte, digit_byte, no_line_end, no_quote, every}
use Rattle.ir_core.specs.Tokens.{TokenKind, Word, Local, Global, Label, Number, Float, Text, CText, Group, Meta, Mark, Passive, Bad, Past, Each, IsDigits, IsNumber, IsFloat, IsWord, IsQuoted, IsStem, IsMeta, IsPlain, Piece}
use Rattle.ir_core.specs.Scan.{Minus, literal_start, is_whole, is_float, is_no_literal, longest, run, class_at, bad_piece, is_number_tail, stem_size, name_size, meta_size, c_text_size, by_colon, by_size, by_name, by_tail, word_piece, digits_piece, by_class}
use Rattle.ir_core.proofs.Runs.{by_test, if_false, quote_byte, colon_byte, run_fits, run_bound, run_every, run_next, every_taken, digits_begin, digits_some, digits_every, digits_in_word, tail_true, tail_made, take_one, run_led, led_class, led_rest}
use Rattle.ir_core.proofs.Literals.{after, lost, course_float, course_number, number_course, float_course, longest_bound, longest_is, longest_fits, no_literal_number, no_literal_float, no_float, no_number}
use Rattle.ir_core.proofs.Below.{quoted_made, c_text_parts, size_made, size_none, some_or_none, stem_some}

abbrev pub Stands : List ℕ → Piece → Type 0
Stands text p = ((p.size ≤ length text) × IsPlain p.kind (take p.size text)) ⊎ (p ≡ bad_piece)

-- ---- words

-- what a letter begins is no literal
letter_no_number : (c : ℕ) (cs : List ℕ) → class_of c ≡ Letter → IsNumber (c ∷ cs) → ⊥
letter_no_number c cs e r = lost is_whole refl cs (sym (ap (λ a. is_whole (after (literal_start a c) cs)) e) ∙ number_course c cs r)

letter_no_float : (c : ℕ) (cs : List ℕ) → class_of c ≡ Letter → IsFloat (c ∷ cs) → ⊥
letter_no_float c cs e r = lost is_float refl cs (sym (ap (λ a. is_float (after (literal_start a c) cs)) e) ∙ float_course c cs r)

letter_word : (c : ℕ) (cs : List ℕ) → class_of c ≡ Letter → IsWord (take (run word_byte cs + 1) (c ∷ cs))
letter_word c cs e = (
  inl (run_led Letter word_byte c cs e),
  (λ r. letter_no_number c (take (run word_byte cs) cs) e (subst IsNumber (take_one (run word_byte cs) c cs) r)),
  (λ r. letter_no_float c (take (run word_byte cs) cs) e (subst IsFloat (take_one (run word_byte cs) c cs) r)),
)

-- bytes of words behind a - that come to no literal
dash_word : (c : ℕ) (ds : List ℕ) → class_of c ≡ Dash → every word_byte ds ≡ true → is_no_literal (after Minus ds) ≡ true → IsWord (c ∷ ds)
dash_word c ds e h n = (inr (c, ds, refl, e, h), no_literal_number c ds e n, no_literal_float c ds e n)

-- - and digits alone would be a number
all_digits : (cs : List ℕ) → IsDigits (take (run word_byte cs) cs) → is_number_tail cs ≡ true
all_digits cs r =
    let k = digits_some (take (run word_byte cs) cs) r in
    let t = length-take-le (run word_byte cs) cs (run_fits word_byte cs) in
    let b = run_bound digit_byte (take (run word_byte cs) cs) (drop (run word_byte cs) cs) (digits_every (take (run word_byte cs) cs) r) in
    let s = ap (run digit_byte) (take-append-drop (run word_byte cs) cs) in
    let w = digits_in_word cs in
    tail_made cs (omega arith) (omega arith)

-- digits at the front, by their first byte
front_digits : (cs : List ℕ) → class_at cs ≡ Digit → IsDigits (take (run digit_byte cs) cs)
front_digits [] e = absurd (let f : Other ≡ Digit = e in cc)
front_digits (d ∷ ds) e = (d, take (run digit_byte ds) ds, ap (λ n. take n (d ∷ ds)) (ap (λ a. cond (is_digit_class a) (run digit_byte ds + 1) 0) e ∙ (let z : run digit_byte ds + 1 ≡ suc (run digit_byte ds) = omega arith in z)), e, run_every digit_byte ds)

-- the whole run of bytes of words behind a - , where no literal is as long
whole_run : (c : ℕ) (cs : List ℕ) → class_of c ≡ Dash → is_number_tail cs ≡ false → (longest is_float Minus cs < run word_byte cs) ⊎ (longest is_float Minus cs ≡ 0) → is_no_literal (after Minus (take (run word_byte cs) cs)) ≡ true
whole_run c cs e h m =
    let ds = take (run word_byte cs) cs in
    by_test (is_whole (after Minus ds)) (λ w. absurd (number w)) (λ w.
    by_test (is_float (after Minus ds)) (λ f. absurd (float m f)) (λ f.
    if_false (is_whole (after Minus ds)) false _ w ∙ if_false (is_float (after Minus ds)) false true f))
  where
    number : is_whole (after Minus (take (run word_byte cs) cs)) ≡ true → ⊥
    number w =
        let n = course_number c (take (run word_byte cs) cs) (ap (λ a. is_whole (after (literal_start a c) (take (run word_byte cs) cs))) e ∙ w) in
        by n
      where
        by : IsNumber (c ∷ take (run word_byte cs) cs) → ⊥
        by (inl r) = let f : Dash ≡ Digit = sym e ∙ led_class Digit (Each digit_byte) c (take (run word_byte cs) cs) (c ∷ take (run word_byte cs) cs) r refl in cc
        by (inr r) = let f : true ≡ false = sym (all_digits cs (led_rest Dash IsDigits c (take (run word_byte cs) cs) (c ∷ take (run word_byte cs) cs) r refl)) ∙ h in cc

    float : (longest is_float Minus cs < run word_byte cs) ⊎ (longest is_float Minus cs ≡ 0) → is_float (after Minus (take (run word_byte cs) cs)) ≡ true → ⊥
    float (inl l) f =
        let b = longest_bound is_float Minus (take (run word_byte cs) cs) (drop (run word_byte cs) cs) f in
        let s = ap (longest is_float Minus) (take-append-drop (run word_byte cs) cs) in
        let t = length-take-le (run word_byte cs) cs (run_fits word_byte cs) in
        omega arith
    float (inr z) f =
        let b = longest_bound is_float Minus (take (run word_byte cs) cs) (drop (run word_byte cs) cs) f in
        let s = ap (longest is_float Minus) (take-append-drop (run word_byte cs) cs) in
        none (take (run word_byte cs) cs) (omega arith) f
      where
        none : (xs : List ℕ) → length xs ≤ 0 → is_float (after Minus xs) ≡ true → ⊥
        none [] l g = let k : false ≡ true = g in cc
        none (x ∷ xs) l g = omega arith

-- ---- quoted strings

no_quote_is : (d : ℕ) → no_quote d ≡ false → d ≡ 34
no_quote_is d e = by_test (d == 34) (λ h. eqb-true d 34 h) (λ h. let f : true ≡ false = sym (ap (λ b. cond b false true) h) ∙ e in absurd (cc))

pub quoted_is : (cs : List ℕ) → run no_quote cs < length cs → IsQuoted (take (run no_quote cs + 1 + 1) (34 ∷ cs))
quoted_is cs l =
    let q = run_next no_quote cs l in
    (take (run no_quote cs) cs, run_every no_quote cs, take_one (run no_quote cs + 1) 34 cs ∙ ap (λ (x : List ℕ). 34 ∷ x) (q.2 ∙ ap (λ d. take (run no_quote cs) cs ++ d ∷ []) (no_quote_is q.0 q.1)))

-- ---- labels, where a colon comes behind

-- the byte behind the run
behind : (n : ℕ) (cs : List ℕ) → n ≤ length cs → class_at (drop n cs) ≡ Colon → (take (n + 1) cs ≡ take n cs ++ codes ":") × (n < length cs)
behind n [] l e = absurd (no_colon n e)
  where
    no_colon : (n : ℕ) → class_at (drop n []) ≡ Colon → ⊥
    no_colon zero e = let f : Other ≡ Colon = e in cc
    no_colon (suc n) e = let f : Other ≡ Colon = e in cc
behind zero (c ∷ cs) l e = (ap (λ x. x ∷ []) (colon_byte c e), omega arith)
behind (suc n) (c ∷ cs) l e =
    let q = behind n cs (omega arith) e in
    (ap (λ m. take m (c ∷ cs)) (let z : suc n + 1 ≡ suc (n + 1) = omega arith in z) ∙ ap (λ (x : List ℕ). c ∷ x) q.0, let q1 = q.1 in omega arith)

colon_stands : (kind : TokenKind) (n c : ℕ) (cs : List ℕ) → n ≤ length cs → IsStem (take (n + 1) (c ∷ cs)) → IsPlain (Some kind) (take (n + 1) (c ∷ cs)) → (a : Class) → class_at (drop n cs) ≡ a → Stands (c ∷ cs) (by_colon kind a (n + 1))
colon_stands kind n c cs l w k Colon h =
    let q = behind n cs l h in
    inl (let q1 = q.1 in omega arith, (take (n + 1) (c ∷ cs), w, take_one (n + 1) c cs ∙ ap (λ (x : List ℕ). c ∷ x) q.0 ∙ sym (ap (λ (x : List ℕ). x ++ codes ":") (take_one n c cs))))
colon_stands kind n c cs l w k _ h = inl (omega arith, k)

-- ---- pieces with a size behind their first byte

size_stands : (kind : TokenKind) (c : ℕ) (cs : List ℕ) (n : ℕ) (other : Piece) → (n ≡ 0 → Stands (c ∷ cs) other) → (0 < n → (n ≤ length cs) × IsPlain (Some kind) (c ∷ take n cs)) → Stands (c ∷ cs) (by_size kind n other)
size_stands kind c cs n other f g = elim (some_or_none n) [
  | inl z ↦ subst (Stands (c ∷ cs)) (sym (size_none kind n other z)) (f z)
  | inr s ↦ let k = g s in let k0 = k.0 in subst (Stands (c ∷ cs)) (sym (size_made kind n other s)) (inl (omega arith, subst (IsPlain (Some kind)) (sym (take_one n c cs)) k.1))
]

float_stands : (c : ℕ) (cs : List ℕ) (a : Class) (other : Piece) → class_of c ≡ a → (longest is_float (literal_start a c) cs ≡ 0 → Stands (c ∷ cs) other) → Stands (c ∷ cs) (by_size Float (longest is_float (literal_start a c) cs) other)
float_stands c cs a other e f =
    let n = longest is_float (literal_start a c) cs in
    size_stands Float c cs n other f (λ s. (longest_fits is_float (literal_start a c) cs, course_float c (take n cs) (ap (λ x. is_float (after (literal_start x c) (take n cs))) e ∙ longest_is is_float (literal_start a c) cs s)))

digits_stands : (c : ℕ) (cs : List ℕ) → class_of c ≡ Digit → Stands (c ∷ cs) (digits_piece cs)
digits_stands c cs e = let d = run_led Digit digit_byte c cs e in colon_stands Number (run digit_byte cs) c cs (run_fits digit_byte cs) (inr (inl d)) (inl d) (class_at (drop (run digit_byte cs) cs)) refl

tail_stands : (c : ℕ) (cs : List ℕ) → class_of c ≡ Dash → (longest is_float Minus cs < run word_byte cs) ⊎ (longest is_float Minus cs ≡ 0) → (b : Bool) → is_number_tail cs ≡ b → Stands (c ∷ cs) (by_tail b cs)
tail_stands c cs e m true h =
    let t = tail_true cs h in
    inl (let k = run_fits digit_byte cs in omega arith, inr (c, take (run digit_byte cs) cs, take_one (run digit_byte cs) c cs, e, front_digits cs (digits_begin cs t.0)))
tail_stands c cs e m false h =
    let w : IsWord (take (run word_byte cs + 1) (c ∷ cs)) = subst IsWord (sym (take_one (run word_byte cs) c cs)) (dash_word c (take (run word_byte cs) cs) e (run_every word_byte cs) (whole_run c cs e h m)) in
    colon_stands Word (run word_byte cs) c cs (run_fits word_byte cs) (inl w) w (class_at (drop (run word_byte cs) cs)) refl

dash_stands : (c : ℕ) (cs : List ℕ) → class_of c ≡ Dash → (b : Bool) → nat_lt (longest is_float Minus cs) (run word_byte cs) ≡ b → Stands (c ∷ cs) (cond b (by_tail (is_number_tail cs) cs) (by_size Float (longest is_float Minus cs) (by_tail (is_number_tail cs) cs)))
dash_stands c cs e true h = tail_stands c cs e (inl (ltb-true (longest is_float Minus cs) (run word_byte cs) h)) (is_number_tail cs) refl
dash_stands c cs e false h = float_stands c cs Dash (by_tail (is_number_tail cs) cs) e (λ z. tail_stands c cs e (inr z) (is_number_tail cs) refl)

letter_stands : (c : ℕ) (cs : List ℕ) → class_of c ≡ Letter → Stands (c ∷ cs) (by_size CText (c_text_size c cs) (word_piece cs))
letter_stands c cs e = size_stands CText c cs (c_text_size c cs) (word_piece cs) (λ z. let w = letter_word c cs e in colon_stands Word (run word_byte cs) c cs (run_fits word_byte cs) (inl w) w (class_at (drop (run word_byte cs) cs)) refl) text
  where
    text : 0 < c_text_size c cs → (c_text_size c cs ≤ length cs) × IsPlain (Some CText) (c ∷ take (c_text_size c cs) cs)
    text s =
        let q = c_text_parts c cs s in
        let n : c_text_size c cs ≡ run no_quote q.1 + 1 + 1 = ap (λ v. c_text_size v cs) q.0 ∙ ap (c_text_size 99) q.2 ∙ quoted_made q.1 q.3 ∙ (let z : run no_quote q.1 + 2 ≡ run no_quote q.1 + 1 + 1 = omega arith in z) in
        let l = ap length q.2 in
        let q3 = q.3 in
        (omega arith, (take (c_text_size c cs) cs, subst IsQuoted (sym (ap (λ m. take m cs) n ∙ ap (take (run no_quote q.1 + 1 + 1)) q.2)) (quoted_is q.1 q.3), ap (λ x. x ∷ take (c_text_size c cs) cs) q.0))

quote_stands : (c : ℕ) (cs : List ℕ) → class_of c ≡ Quote → (b : Bool) → nat_lt (run no_quote cs) (length cs) ≡ b → Stands (c ∷ cs) (cond b (by_colon Text (class_at (drop (run no_quote cs + 1) cs)) (run no_quote cs + 1 + 1)) bad_piece)
quote_stands c cs e true h =
    let l = ltb-true (run no_quote cs) (length cs) h in
    let q : IsQuoted (take (run no_quote cs + 1 + 1) (c ∷ cs)) = subst (λ v. IsQuoted (take (run no_quote cs + 1 + 1) (v ∷ cs))) (sym (quote_byte c e)) (quoted_is cs l) in
    colon_stands Text (run no_quote cs + 1) c cs (omega arith) (inr (inr q)) q (class_at (drop (run no_quote cs + 1) cs)) refl
quote_stands c cs e false h = inr refl

-- ---- names

-- a name's size is 0, or that of a word, of digits or of a string
abbrev Named : List ℕ → ℕ → Type 0
Named text n = (n ≡ 0) ⊎ ((0 < n) × (n ≤ length text) × IsStem (take n text))

dash_named : (c : ℕ) (cs : List ℕ) → class_of c ≡ Dash → Named (c ∷ cs) (longest is_no_literal Minus (take (run word_byte cs) cs) + 1)
dash_named c cs e =
    let ws = take (run word_byte cs) cs in
    let n = longest is_no_literal Minus ws in
    let f = longest_fits is_no_literal Minus ws in
    let t = length-take-le (run word_byte cs) cs (run_fits word_byte cs) in
    let k = run_fits word_byte cs in
    let s : take n ws ≡ take n cs = take-take n (run word_byte cs) cs (omega arith) in
    let w = dash_word c (take n ws) e (every_taken word_byte n ws (run_every word_byte cs)) (no n ws (some_or_none n) refl) in
    inr (omega arith, omega arith, inl (subst IsWord (ap (λ (x : List ℕ). c ∷ x) s ∙ sym (take_one n c cs)) w))
  where
    no : (n : ℕ) (ws : List ℕ) → (n ≡ 0) ⊎ (0 < n) → n ≡ longest is_no_literal Minus ws → is_no_literal (after Minus (take n ws)) ≡ true
    no n ws (inl z) h = ap (λ m. is_no_literal (after Minus (take m ws))) z
    no n ws (inr s) h = subst (λ m. is_no_literal (after Minus (take m ws)) ≡ true) (sym h) (longest_is is_no_literal Minus ws (omega arith))

quoted_named : (c : ℕ) (cs : List ℕ) → class_of c ≡ Quote → (b : Bool) → nat_lt (run no_quote cs) (length cs) ≡ b → Named (c ∷ cs) (cond b (run no_quote cs + 2) 0)
quoted_named c cs e true h =
    let l = ltb-true (run no_quote cs) (length cs) h in
    let z : run no_quote cs + 1 + 1 ≡ run no_quote cs + 2 = omega arith in
    inr (omega arith, omega arith, inr (inr (subst (λ n. IsQuoted (take n (c ∷ cs))) z (subst (λ v. IsQuoted (take (run no_quote cs + 1 + 1) (v ∷ cs))) (sym (quote_byte c e)) (quoted_is cs l)))))
quoted_named c cs e false h = inl refl

stem_named : (c : ℕ) (cs : List ℕ) (a : Class) → class_of c ≡ a → Named (c ∷ cs) (stem_size a cs)
stem_named c cs Letter e = inr (omega arith, let k = run_fits word_byte cs in omega arith, inl (letter_word c cs e))
stem_named c cs Digit e = inr (omega arith, let k = run_fits digit_byte cs in omega arith, inr (inl (run_led Digit digit_byte c cs e)))
stem_named c cs Dash e = dash_named c cs e
stem_named c cs Quote e = quoted_named c cs e (nat_lt (run no_quote cs) (length cs)) refl
stem_named c cs _ e = inl refl

named : (cs : List ℕ) → Named cs (name_size cs)
named [] = inl refl
named (c ∷ cs) = stem_named c cs (class_of c) refl

name_stands : (kind : TokenKind) (c : ℕ) (cs : List ℕ) (n : ℕ) → ((ds : List ℕ) → IsStem ds → IsPlain (Some kind) (c ∷ ds)) → Named cs n → Stands (c ∷ cs) (by_name kind n)
name_stands kind c cs n led (inl z) = inr (ap (by_name kind) z)
name_stands kind c cs n led (inr (s, l, w)) = size_stands kind c cs n bad_piece (λ z. inr refl) (λ k. (l, led (take n cs) w))

-- what stands behind a !
meta_named : (cs : List ℕ) → 0 < meta_size cs → (meta_size cs ≤ length cs) × (IsStem (take (meta_size cs) cs) ⊎ (take (meta_size cs) cs ≡ codes "{"))
meta_named [] l = absurd (omega arith)
meta_named (c ∷ cs) l = by (c == 123) refl l
  where
    stem : Named (c ∷ cs) (stem_size (class_of c) cs) → 0 < stem_size (class_of c) cs → (stem_size (class_of c) cs ≤ length (c ∷ cs)) × (IsStem (take (stem_size (class_of c) cs) (c ∷ cs)) ⊎ (take (stem_size (class_of c) cs) (c ∷ cs) ≡ codes "{"))
    stem (inl z) s = absurd (omega arith)
    stem (inr (s, f, w)) k = (f, inl w)

    by : (b : Bool) → (c == 123) ≡ b → 0 < cond b 1 (stem_size (class_of c) cs) → (cond b 1 (stem_size (class_of c) cs) ≤ length (c ∷ cs)) × (IsStem (take (cond b 1 (stem_size (class_of c) cs)) (c ∷ cs)) ⊎ (take (cond b 1 (stem_size (class_of c) cs)) (c ∷ cs) ≡ codes "{"))
    by true e s = (omega arith, inr (ap (λ x. x ∷ []) (eqb-true c 123 e)))
    by false e s = stem (stem_named c cs (class_of c) refl) s

pub meta_is : (c : ℕ) (cs : List ℕ) → class_of c ≡ Bang → 0 < meta_size cs → (meta_size cs ≤ length cs) × IsMeta (c ∷ take (meta_size cs) cs)
meta_is c cs e s = let q = meta_named cs s in (q.0, (c, take (meta_size cs) cs, refl, e, q.1))

group_stands : (c : ℕ) (cs : List ℕ) → class_of c ≡ Hash → Stands (c ∷ cs) (by_name Group (run digit_byte cs))
group_stands c cs e = size_stands Group c cs (run digit_byte cs) bad_piece (λ z. inr refl) (λ s. (run_fits digit_byte cs, (c, take (run digit_byte cs) cs, refl, e, front_digits cs (digits_begin cs s))))

-- ---- every class

pub stands : (c : ℕ) (cs : List ℕ) (a : Class) → class_of c ≡ a → Stands (c ∷ cs) (by_class a c cs)
stands c cs Blank e = inl (omega arith, inl (c, [], refl, e, refl))
stands c cs Semicolon e = inl (let k = run_fits no_line_end cs in omega arith, inr (run_led Semicolon no_line_end c cs e))
stands c cs Bracket e = inl (omega arith, (refl, e))
stands c cs Digit e = float_stands c cs Digit (digits_piece cs) e (λ z. digits_stands c cs e)
stands c cs Dash e = dash_stands c cs e (nat_lt (longest is_float Minus cs) (run word_byte cs)) refl
stands c cs Letter e = letter_stands c cs e
stands c cs Percent e = name_stands Local c cs (name_size cs) (λ ds w. (c, ds, refl, e, w)) (named cs)
stands c cs AtSign e = name_stands Global c cs (name_size cs) (λ ds w. (c, ds, refl, e, w)) (named cs)
stands c cs Quote e = quote_stands c cs e (nat_lt (run no_quote cs) (length cs)) refl
stands c cs Hash e = group_stands c cs e
stands c cs Bang e = size_stands Meta c cs (meta_size cs) bad_piece (λ z. inr refl) (λ s. meta_is c cs e s)
stands c cs Colon e = inr refl
stands c cs Other e = inr refl

-- no piece is empty
pub empty_is_none : (kind : Option TokenKind) → IsPlain kind [] → ⊥
empty_is_none None (inl r) = let f = r.2 in cc
empty_is_none None (inr r) = let f = r.2 in cc
empty_is_none (Some Word) r = let k = stem_some [] (inl r) in omega arith
empty_is_none (Some Local) r = let f = r.2 in cc
empty_is_none (Some Global) r = let f = r.2 in cc
empty_is_none (Some Number) r = no_number r
empty_is_none (Some Float) r = no_float r
empty_is_none (Some Label) (w, r, s) = let f = ap length s in let k = length-append w (codes ":") in omega arith
empty_is_none (Some Text) r = let k = stem_some [] (inr (inr r)) in omega arith
empty_is_none (Some CText) (text, r, s) = let f : [] ≡ 99 ∷ text = s in cc
empty_is_none (Some Group) r = let f = r.2 in cc
empty_is_none (Some Meta) r = let f = r.2 in cc
empty_is_none (Some (Mark m)) r = let f = r.0 in cc
empty_is_none (Some Passive) r = r
empty_is_none (Some Bad) r = r
empty_is_none (Some Past) r = r
