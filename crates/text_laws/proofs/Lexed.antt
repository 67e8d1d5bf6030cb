-- Words, names, numbers, marks and blanks at the front of a text.
use Rattle.std.proofs.Common.{◌≡◌, ℕ, zero, suc, ◌+◌, ◌-◌, ◌≤◌, ◌<◌, List, [], ◌∷◌, ◌++◌, length, take, Some, None, Bool, true, false, cond, ◌||◌, ◌==◌, refl, sym, ap, ◌∙◌, subst, inl, inr, ◌⊎◌, arith, append_assoc, length-append, take_at, nat_lt}
use Rattle.std.proofs.lemmas.List.{append-nil}
use Rattle.std.proofs.lemmas.Bool.{eqb-true, lt-ltb}
use Rattle.ir_core.specs.Bytes.{Class, Bracket, Digit, Dash, Letter, class_of, is_word_class, is_digit_class, word_byte, digit_byte, every}
use Rattle.ir_core.specs.Tokens.{TokenKind, Word, Label, Number, Float, CText, Mark, Spot, is_outside, behind}
use Rattle.ir_core.specs.Scan.{Literal, Minus, Whole, Neither, literal_start, literal_step, is_float, is_no_literal, longest, run, piece, is_number_tail, name_size, stem_size, c_text_size, by_colon, by_size, by_name, by_tail, word_piece, digits_piece, by_class, plain_at, line_size, passive_size, begins_passive}
use Rattle.ir_core.specs.Text.{is_word, is_word_from, is_numeral}
use Rattle.ir_core.proofs.Runs.{by_test, if_true, if_false, run_ended, every_first, every_more, every_append, digit_class, tail_made}
use Rattle.ir_core.proofs.Literals.{after, longest_fits, longest_bound, longest_stops, colon_stops}
use Rattle.ir_core.proofs.Below.{name_made, size_none, some_or_none, float_longer}
use Rattle.ir_core.proofs.Lexing.{piece_no_passive}
use Rattle.ir_core.specs.Formed.{is_byte}
use Rattle.text_laws.proofs.TextBytes.{word_bytes, digits_bytes, mark_byte}
use Rattle.text_laws.proofs.Rows.{Bare, Lexed, NoBrace, Outer, bare, one_more, plain_more, token_more}
use Rattle.text_laws.proofs.Endings.{Ends, ends_word, more, no_colon, no_string, run_to, stops}
use Rattle.text_laws.proofs.Numerals.{dash_by, dash_is_word, if_not, minus_numeral, no_c_text, no_literal_of}

-- ---- words

-- the piece that a word begins, by the byte behind it
pub word_by : (a : Class) (b : ℕ) (ws : List ℕ) (c : ℕ) (rest : List ℕ) → is_word_from a ws ≡ true → word_byte c ≡ false → (c == 34) ≡ false → ((q : Literal) → literal_step q c ≡ Neither) → (m : ℕ) (q : TokenKind) → by_colon Word (class_of c) (suc (length ws)) ≡ piece (Some q) m → by_class a b (ws ++ c ∷ rest) ≡ piece (Some q) m
word_by Letter b ws c rest h k t s m q g = size_none CText (c_text_size b (ws ++ c ∷ rest)) (word_piece (ws ++ c ∷ rest)) (no_c_text b ws c rest h t) ∙ run_to word_byte ws c rest Word h k m q g
word_by Dash b ws c rest h k t s m q g =
    let e = if_not (is_numeral ws) (every word_byte ws) h in
    let d = dash_by ws c rest e.1 e.0 k s in
    dash_is_word (longest is_float Minus (ws ++ c ∷ rest)) (ws ++ c ∷ rest) d.0 d.1 ∙ run_to word_byte ws c rest Word e.1 k m q g
word_by _ b ws c rest h k t s m q g = absurd (let f : false ≡ true = h in cc)

-- the size of a name that is a word
pub name_by_class : (a : Class) (ws : List ℕ) (c : ℕ) (rest : List ℕ) → is_word_from a ws ≡ true → word_byte c ≡ false → stem_size a (ws ++ c ∷ rest) ≡ suc (length ws)
name_by_class Letter ws c rest h k = ap (λ x. x + 1) (run_ended word_byte c ws rest h k).0 ∙ more (length ws)
name_by_class Dash ws c rest h k =
    let e = if_not (is_numeral ws) (every word_byte ws) h in
    let r = (run_ended word_byte c ws rest e.1 k).0 in
    let t : take (run word_byte (ws ++ c ∷ rest)) (ws ++ c ∷ rest) ≡ ws = ap (λ n. take n (ws ++ c ∷ rest)) r ∙ take_at ws (c ∷ rest) (length ws) refl in
    let l = longest_fits is_no_literal Minus ws in
    let b : length ws ≤ longest is_no_literal Minus ws = subst (λ (x : List ℕ). length ws ≤ longest is_no_literal Minus x) (append-nil ws) (longest_bound is_no_literal Minus ws [] (no_literal_of (after Minus ws) (sym e.0 ∙ minus_numeral ws e.1))) in
    ap (λ (x : List ℕ). longest is_no_literal Minus x + 1) t ∙ (let z : longest is_no_literal Minus ws + 1 ≡ suc (length ws) = omega arith in z)
name_by_class _ ws c rest h k = absurd (let f : false ≡ true = h in cc)

pub word_size : (w : List ℕ) (c : ℕ) (rest : List ℕ) → is_word w ≡ true → word_byte c ≡ false → name_size (w ++ c ∷ rest) ≡ length w
word_size [] c rest h k = absurd (let f : false ≡ true = h in cc)
word_size (b ∷ ws) c rest h k = name_by_class (class_of b) ws c rest h k

pub word_some : (w : List ℕ) → is_word w ≡ true → 0 < length w
word_some [] h = absurd (let f : false ≡ true = h in cc)
word_some (b ∷ ws) h = omega arith

-- ---- tokens, by what comes behind them

-- a word
pub word_piece_is : (w rest : List ℕ) → is_word w ≡ true → Ends rest → plain_at (w ++ rest) ≡ piece (Some Word) (length w)
word_piece_is [] rest h e = absurd (let f : false ≡ true = h in cc)
word_piece_is (b ∷ ws) [] h e = absurd (let f : false ≡ true = e in cc)
word_piece_is (b ∷ ws) (c ∷ rest) h e = word_by (class_of b) b ws c rest h (ends_word c e).0 (no_string c e) (stops c e) (suc (length ws)) Word (no_colon Word c (suc (length ws)) e)

pub word_lexed : (d : ℕ) (w rest : List ℕ) (ls : List Bare) → is_word w ≡ true → Ends rest → Lexed d rest ls → Lexed d (w ++ rest) (bare Word w ∷ ls)
word_lexed d w rest ls h e r = token_more d Word w rest ls (λ s. refl) (word_bytes w h) (word_some w h) (word_piece_is w rest h e) (λ f. cc) r

-- a word with its colon
pub label_piece : (w : List ℕ) (rest : List ℕ) → is_word w ≡ true → plain_at (w ++ 58 ∷ rest) ≡ piece (Some Label) (length w + 1)
label_piece [] rest h = absurd (let f : false ≡ true = h in cc)
label_piece (b ∷ ws) rest h = word_by (class_of b) b ws 58 rest h refl refl colon_stops (suc (length ws) + 1) Label refl

pub label_lexed : (d : ℕ) (w rest : List ℕ) (ls : List Bare) → is_word w ≡ true → Lexed d rest ls → Lexed d (w ++ 58 ∷ rest) (bare Label (w ++ 58 ∷ []) ∷ ls)
label_lexed d w rest ls h r =
    let l : length (w ++ 58 ∷ []) ≡ length w + 1 = length-append w (58 ∷ []) in
    let a : (w ++ 58 ∷ []) ++ rest ≡ w ++ 58 ∷ rest = append_assoc w (58 ∷ []) rest in
    subst (λ t. Lexed d t (bare Label (w ++ 58 ∷ []) ∷ ls)) a (token_more d Label (w ++ 58 ∷ []) rest ls (λ s. refl) (every_append is_byte w (58 ∷ []) (word_bytes w h) refl) (omega arith) (ap plain_at a ∙ label_piece w rest h ∙ ap (piece (Some Label)) (sym l)) (λ f. cc) r)

-- a name behind its sign
pub sign_piece : (kind : TokenKind) (w rest : List ℕ) → is_word w ≡ true → Ends rest → by_name kind (name_size (w ++ rest)) ≡ piece (Some kind) (suc (length w))
sign_piece kind w [] h e = absurd (let f : false ≡ true = e in cc)
sign_piece kind w (c ∷ rest) h e = ap (by_name kind) (word_size w c rest h (ends_word c e).0) ∙ name_made kind (length w) (word_some w h) ∙ ap (piece (Some kind)) (more (length w))

-- digits, and digits behind a -
pub word_digit : (c : ℕ) → digit_byte c ≡ true → word_byte c ≡ true
word_digit c e = ap is_word_class (digit_class (class_of c) e)

pub every_word : (ds : List ℕ) → every digit_byte ds ≡ true → every word_byte ds ≡ true
every_word [] h = refl
every_word (d ∷ ds) h = let e = every_first digit_byte d ds h in every_more word_byte d ds (word_digit d e.0) (every_word ds e.1)

-- digits are no float literal
pub digits_no_float : (d : ℕ) (ds : List ℕ) (c : ℕ) (rest : List ℕ) → class_of d ≡ Digit → every digit_byte ds ≡ true → digit_byte c ≡ false → ((q : Literal) → literal_step q c ≡ Neither) → longest is_float (literal_start Digit d) (ds ++ c ∷ rest) ≡ 0
digits_no_float d ds c rest e h k s = by (some_or_none (longest is_float (literal_start Digit d) (ds ++ c ∷ rest)))
  where
    by : (longest is_float (literal_start Digit d) (ds ++ c ∷ rest) ≡ 0) ⊎ (0 < longest is_float (literal_start Digit d) (ds ++ c ∷ rest)) → longest is_float (literal_start Digit d) (ds ++ c ∷ rest) ≡ 0
    by (inl z) = z
    by (inr l) =
        let a = float_longer d (ds ++ c ∷ rest) e l in
        let b = longest_stops is_float refl (literal_start Digit d) ds c rest s in
        let r = (run_ended digit_byte c ds rest h k).0 in
        absurd (omega arith)

pub number_piece : (ds rest : List ℕ) → 0 < length ds → every digit_byte ds ≡ true → Ends rest → plain_at (ds ++ rest) ≡ piece (Some Number) (length ds)
number_piece [] rest l h e = absurd (omega arith)
number_piece (d ∷ ds) [] l h e = absurd (let f : false ≡ true = e in cc)
number_piece (d ∷ ds) (c ∷ rest) l h e =
    let k = every_first digit_byte d ds h in
    let a = digit_class (class_of d) k.0 in
    ap (λ x. by_class x d (ds ++ c ∷ rest)) a
    ∙ size_none Float (longest is_float (literal_start Digit d) (ds ++ c ∷ rest)) (digits_piece (ds ++ c ∷ rest)) (digits_no_float d ds c rest a k.1 (ends_word c e).1 (stops c e))
    ∙ run_to digit_byte ds c rest Number k.1 (ends_word c e).1 (suc (length ds)) Number (no_colon Number c (suc (length ds)) e)

-- digits as a number
pub number_lexed : (n : ℕ) (ds rest : List ℕ) (ls : List Bare) → 0 < length ds → every digit_byte ds ≡ true → Ends rest → Lexed n rest ls → Lexed n (ds ++ rest) (bare Number ds ∷ ls)
number_lexed n ds rest ls l h e r = token_more n Number ds rest ls (λ s. refl) (digits_bytes ds h) l (number_piece ds rest l h e) (λ f. cc) r

-- nor are they behind a -
pub minus_no_float : (ds : List ℕ) (c : ℕ) (rest : List ℕ) → every digit_byte ds ≡ true → ((q : Literal) → literal_step q c ≡ Neither) → longest is_float Minus (ds ++ c ∷ rest) ≡ 0
minus_no_float [] c rest h s = let b = longest_stops is_float refl Minus [] c rest s in omega arith
minus_no_float (d ∷ ds) c rest h s =
    let k = every_first digit_byte d ds h in
    let a = digit_class (class_of d) k.0 in
    by (longest is_float Whole (ds ++ c ∷ rest)) refl (ap (λ x. cond (is_digit_class x) Whole Neither) a)
  where
    whole : (es : List ℕ) → every digit_byte es ≡ true → longest is_float Whole (es ++ c ∷ rest) ≡ 0
    whole [] g = let b = longest_stops is_float refl Whole [] c rest s in omega arith
    whole (x ∷ es) g =
        let k = every_first digit_byte x es g in
        ap (λ q. cond (nat_lt 0 (longest is_float q (es ++ c ∷ rest))) (longest is_float q (es ++ c ∷ rest) + 1) (cond (is_float q) 1 0)) (if_true (digit_byte x) Whole _ k.0)
        ∙ ap (λ n. cond (nat_lt 0 n) (n + 1) 0) (whole es k.1)

    by : (n : ℕ) → longest is_float Whole (ds ++ c ∷ rest) ≡ n → literal_step Minus d ≡ Whole → longest is_float Minus ((d ∷ ds) ++ c ∷ rest) ≡ 0
    by n z e =
        ap (λ q. cond (nat_lt 0 (longest is_float q (ds ++ c ∷ rest))) (longest is_float q (ds ++ c ∷ rest) + 1) (cond (is_float q) 1 0)) e
        ∙ ap (λ n. cond (nat_lt 0 n) (n + 1) 0) (whole ds (every_first digit_byte d ds h).1)

-- digits behind a - as a number
pub minus_piece : (ds rest : List ℕ) → 0 < length ds → every digit_byte ds ≡ true → Ends rest → plain_at (45 ∷ (ds ++ rest)) ≡ piece (Some Number) (suc (length ds))
minus_piece ds [] l h e = absurd (let f : false ≡ true = e in cc)
minus_piece ds (c ∷ rest) l h e =
    let n = ends_word c e in
    let d = (run_ended digit_byte c ds rest h n.1).0 in
    let w = (run_ended word_byte c ds rest (every_word ds h) n.0).0 in
    let f = longest is_float Minus (ds ++ c ∷ rest) in
    let z = minus_no_float ds c rest h (stops c e) in
    let t : is_number_tail (ds ++ c ∷ rest) ≡ true = tail_made (ds ++ c ∷ rest) (omega arith) (d ∙ sym w) in
    if_true (nat_lt f (run word_byte (ds ++ c ∷ rest))) (by_tail (is_number_tail (ds ++ c ∷ rest)) (ds ++ c ∷ rest)) (by_size Float f (by_tail (is_number_tail (ds ++ c ∷ rest)) (ds ++ c ∷ rest))) (lt-ltb f (run word_byte (ds ++ c ∷ rest)) (omega arith))
    ∙ ap (λ b. by_tail b (ds ++ c ∷ rest)) t
    ∙ ap (λ n. piece (Some Number) (n + 1)) d ∙ ap (piece (Some Number)) (more (length ds))

pub minus_lexed : (n : ℕ) (ds rest : List ℕ) (ls : List Bare) → 0 < length ds → every digit_byte ds ≡ true → Ends rest → Lexed n rest ls → Lexed n (45 ∷ (ds ++ rest)) (bare Number (45 ∷ ds) ∷ ls)
minus_lexed n ds rest ls l h e r = token_more n Number (45 ∷ ds) rest ls (λ s. refl) (every_more is_byte 45 ds refl (digits_bytes ds h)) (omega arith) (minus_piece ds rest l h e) (λ f. cc) r

-- ---- marks and blanks

pub mark_piece : (m : ℕ) (rest : List ℕ) → class_of m ≡ Bracket → plain_at (m ∷ rest) ≡ piece (Some (Mark m)) 1
mark_piece m rest e = ap (λ a. by_class a m rest) e

abbrev pub is_brace : ℕ → Bool
is_brace m = (m == 123) || (m == 125)

pub no_brace : (m : ℕ) → is_brace m ≡ false → NoBrace (Mark m) (m ∷ [])
no_brace m e spot = by (m == 123) (m == 125) e
  where
    by : (a b : Bool) → (a || b) ≡ false → cond a (spot.depth + 1) (cond b (spot.depth - 1) spot.depth) ≡ spot.depth
    by true b e = absurd (let f : true ≡ false = e in cc)
    by false true e = absurd (let f : true ≡ false = e in cc)
    by false false e = refl

-- a mark that is no brace
pub mark_lexed : (d m : ℕ) (rest : List ℕ) (ls : List Bare) → class_of m ≡ Bracket → is_brace m ≡ false → Lexed d rest ls → Lexed d (m ∷ rest) (bare (Mark m) (m ∷ []) ∷ ls)
mark_lexed d m rest ls e n r = token_more d (Mark m) (m ∷ []) rest ls (no_brace m n) (every_more is_byte m [] (mark_byte m e) refl) (omega arith) (mark_piece m rest e) (λ f. cc) r

-- a brace that opens, and one that closes
pub open_lexed : (d : ℕ) (rest : List ℕ) (ls : List Bare) → Lexed (d + 1) rest ls → Lexed d (123 ∷ rest) (bare (Mark 123) (123 ∷ []) ∷ ls)
open_lexed d rest ls r = record { at = λ spot k o. plain_more spot (Some (Mark 123)) (123 ∷ []) rest ls o refl (omega arith) refl (λ f. cc) (r.at (behind spot (Some (Mark 123)) (123 ∷ [])) (ap (λ n. n + 1) k) refl) }

pub close_lexed : (d : ℕ) (rest : List ℕ) (ls : List Bare) → Lexed d rest ls → Lexed (d + 1) (125 ∷ rest) (bare (Mark 125) (125 ∷ []) ∷ ls)
close_lexed d rest ls r = record { at = λ spot k o. plain_more spot (Some (Mark 125)) (125 ∷ []) rest ls o refl (omega arith) refl (λ f. cc) (r.at (behind spot (Some (Mark 125)) (125 ∷ [])) (let z : spot.depth - 1 ≡ d = omega arith in z) refl) }

-- a space
pub space_lexed : (d : ℕ) (rest : List ℕ) (ls : List Bare) → Lexed d rest ls → Lexed d (32 ∷ rest) ls
space_lexed d rest ls r = record { at = λ spot k o. plain_more spot None (32 ∷ []) rest ls o refl (omega arith) refl (λ f. cc) (r.at (behind spot None (32 ∷ [])) k o) }

pub inside : (d : ℕ) (spot : Spot) → spot.depth ≡ d + 1 → is_outside (record { depth = spot.depth; first = true }) ≡ false
inside d spot e = by_test (spot.depth == 0) (λ h. let k = eqb-true spot.depth 0 h in absurd (omega arith)) (λ h. h)

-- a line end inside braces, and one outside
pub line_lexed : (d : ℕ) (rest : List ℕ) (ls : List Bare) → Lexed (d + 1) rest ls → Lexed (d + 1) (10 ∷ rest) ls
line_lexed d rest ls r = record { at = λ spot k o. plain_more spot None (10 ∷ []) rest ls o refl (omega arith) refl (λ f. cc) (r.at (behind spot None (10 ∷ [])) k (inside d spot k)) }

pub outer_line : (rest : List ℕ) (ls : List Bare) → Outer rest ls → Lexed 0 (10 ∷ rest) ls
outer_line rest ls r = record { at = λ spot k o. plain_more spot None (10 ∷ []) rest ls o refl (omega arith) refl (λ f. cc) (r.at (behind spot None (10 ∷ [])) k refl) }

-- a word at the front of a line, which begins no passive line
pub outer_word : (w rest : List ℕ) (ls : List Bare) → is_word w ≡ true → Ends rest → passive_size (w ++ rest) ≡ 0 → Lexed 0 rest ls → Outer (w ++ rest) (bare Word w ∷ ls)
outer_word w rest ls h e z r = record { at = λ spot k f. one_more spot (Some Word) w rest ls (word_bytes w h) (word_some w h) (piece_no_passive spot (w ++ rest) z ∙ word_piece_is w rest h e) (λ f. cc) (r.at (behind spot (Some Word) w) k refl) }

-- what begins with a d is no passive line
pub no_passive_d : (rest : List ℕ) → passive_size (100 ∷ rest) ≡ 0
no_passive_d rest = if_false (begins_passive (take (line_size (100 ∷ rest)) (100 ∷ rest))) (line_size (100 ∷ rest)) 0 (by (line_size (100 ∷ rest)))
  where
    by : (n : ℕ) → begins_passive (take n (100 ∷ rest)) ≡ false
    by zero = refl
    by (suc n) = refl
