-- But for passive lines, no piece at the front of a text is longer than the one that scanning finds there.
use Rattle.std.proofs.Common.{◌≡◌, ℕ, zero, suc, ◌+◌, ◌≤◌, ◌<◌, List, [], ◌∷◌, ◌++◌, length, take, drop, Option, Some, None, Bool, true, false, cond, refl, sym, ap, ◌∙◌, subst, inl, inr, ◌⊎◌, arith, append_assoc, length-append, ◌==◌, nat_lt, codes, take_at, drop_at}
use Rattle.std.proofs.lemmas.List.{take-append-drop, length-take-le}
use Rattle.std.proofs.lemmas.Bool.{eqb-true, ltb-true, lt-ltb}
use Rattle.ir_core.specs.Bytes.{Class, Blank, Semicolon, Bracket, Digit, Dash, Letter, Percent, AtSign, Colon, Quote, Hash, Bang, class_of, word_byte, digit_byte, no_line_end, no_quote, every}
use Rattle.ir_core.specs.Tokens.{TokenKind, Word, Local, Global, Label, Number, Float, Text, CText, Group, Meta, Mark, Passive, Bad, Past, Led, Each, IsDigits, IsNumber, IsFloat, IsWord, IsQuoted, IsStem, IsLabel, IsMeta, IsPlain, Piece}
use Rattle.ir_core.specs.Scan.{Minus, literal_start, is_whole, is_float, is_no_literal, longest, run, class_at, piece, bad_piece, is_number_tail, quoted_size, stem_size, name_size, meta_size, c_text_size, by_colon, by_size, by_name, by_tail, word_piece, digits_piece, dash_piece, quote_piece, by_class, plain_at}
use Rattle.ir_core.proofs.Runs.{by_test, if_true, if_false, run_bound, run_front, run_ended, run_taken, is_digits, digits_some, digits_every, digits_in_word, tail_true, tail_less, led_tail, single, led_bound, led_ended}
use Rattle.ir_core.proofs.Literals.{after, course_float, number_course, longest_bound, longest_is, longest_fits, longest_stops, colon_stops, whole_no_float, no_literal, float_front}

-- ---- quoted strings

-- a quoted string at the front: its first byte, its size, and what comes behind it
pub quoted_front : (c : ℕ) (cs w rest : List ℕ) → IsQuoted w → c ∷ cs ≡ w ++ rest → (c ≡ 34) × (run no_quote cs < length cs) × (length w ≡ run no_quote cs + 2) × (drop (run no_quote cs + 1) cs ≡ rest)
quoted_front c cs w rest (inner, h, s) e =
    let f : c ∷ cs ≡ 34 ∷ ((inner ++ 34 ∷ []) ++ rest) = e ∙ ap (λ (l : List ℕ). l ++ rest) s in
    let k : c ≡ 34 = cc in
    let t : cs ≡ (inner ++ 34 ∷ []) ++ rest = cc in
    let u : cs ≡ inner ++ 34 ∷ rest = t ∙ append_assoc inner (34 ∷ []) rest in
    let r : run no_quote cs ≡ length inner = ap (run no_quote) u ∙ (run_ended no_quote 34 inner rest h refl).0 in
    let m = ap length s in
    let n : length (inner ++ 34 ∷ []) ≡ length inner + 1 = length-append inner (34 ∷ []) in
    let a : length cs ≡ length inner + suc (length rest) = ap length u ∙ length-append inner (34 ∷ rest) in
    let z : run no_quote cs + 1 ≡ length (inner ++ 34 ∷ []) = omega arith in
    (k, omega arith, omega arith, ap (λ i. drop i cs) z ∙ ap (drop (length (inner ++ 34 ∷ []))) t ∙ drop_at (inner ++ 34 ∷ []) rest (length (inner ++ 34 ∷ [])) refl)

pub quoted_made : (cs : List ℕ) → run no_quote cs < length cs → quoted_size cs ≡ run no_quote cs + 2
quoted_made cs l = if_true (nat_lt (run no_quote cs) (length cs)) (run no_quote cs + 2) 0 (lt-ltb (run no_quote cs) (length cs) l)

-- ---- words, digits and strings

-- a word behind a - comes to no literal
dash_stem : (c : ℕ) (cs w rest : List ℕ) → Led Dash (Each word_byte) w → (IsNumber w → ⊥) → (IsFloat w → ⊥) → c ∷ cs ≡ w ++ rest → (class_of c ≡ Dash) × (length w ≤ longest is_no_literal Minus (take (run word_byte cs) cs) + 1)
dash_stem c cs w rest r n f e =
    let t = led_tail Dash (Each word_byte) c cs w rest r e in
    let q = run_taken word_byte r.1 rest r.4 in
    let a : take (run word_byte cs) cs ≡ r.1 ++ q.0 = ap (λ (l : List ℕ). take (run word_byte l) l) t.1 ∙ q.1 in
    let k = no_literal r.0 r.1 r.3 (λ m. n (subst IsNumber (sym r.2) m)) (λ m. f (subst IsFloat (sym r.2) m)) in
    let b : length r.1 ≤ longest is_no_literal Minus (take (run word_byte cs) cs) = subst (λ (l : List ℕ). length r.1 ≤ longest is_no_literal Minus l) (sym a) (longest_bound is_no_literal Minus r.1 q.0 k) in
    let t2 = t.2 in
    (t.0, omega arith)

-- no word, digits or string at the front are longer than this
pub stem_bound : (c : ℕ) (cs w rest : List ℕ) → IsStem w → c ∷ cs ≡ w ++ rest → length w ≤ stem_size (class_of c) cs
stem_bound c cs w rest (inl (inl r, n, f)) e = let b = led_bound Letter word_byte c cs w rest r e in subst (λ a. length w ≤ stem_size a cs) (sym b.0) b.1
stem_bound c cs w rest (inl (inr r, n, f)) e = let b = dash_stem c cs w rest r n f e in subst (λ a. length w ≤ stem_size a cs) (sym b.0) b.1
stem_bound c cs w rest (inr (inl r)) e = let b = led_bound Digit digit_byte c cs w rest r e in subst (λ a. length w ≤ stem_size a cs) (sym b.0) b.1
stem_bound c cs w rest (inr (inr r)) e =
    let q = quoted_front c cs w rest r e in
    let q2 = q.2 in
    let m = quoted_made cs q.1 in
    subst (λ v. length w ≤ stem_size (class_of v) cs) (sym q.0) (omega arith)

word_some : (w : List ℕ) → IsWord w → 0 < length w
word_some w (inl r, n, f) = let l = ap length r.2 in omega arith
word_some w (inr r, n, f) = let l = ap length r.2 in omega arith

quoted_some : (w : List ℕ) → IsQuoted w → 0 < length w
quoted_some w (inner, h, s) = let l = ap length s in omega arith

pub stem_some : (w : List ℕ) → IsStem w → 0 < length w
stem_some w (inl r) = word_some w r
stem_some w (inr (inl r)) = digits_some w r
stem_some w (inr (inr r)) = quoted_some w r

no_front : {A : Type 0} (w rest : List ℕ) → 0 < length w → [] ≡ w ++ rest → A
no_front w rest l e = let m : 0 ≡ length (w ++ rest) = ap length e in let k = length-append w rest in absurd (omega arith)

name_bound : (cs w rest : List ℕ) → IsStem w → cs ≡ w ++ rest → (0 < length w) × (length w ≤ name_size cs)
name_bound [] w rest r e = no_front w rest (stem_some w r) e
name_bound (c ∷ cs) w rest r e = (stem_some w r, stem_bound c cs w rest r e)

-- ---- a piece that is no longer than the one found

pub record Below (p : Piece) (kind : Option TokenKind) (n : ℕ) : Type 0 where
  pub fits : n ≤ p.size
  pub same : n ≡ p.size → p.kind ≡ kind
  pub good : p.kind ≡ Some Bad → ⊥

pub below_piece : (kind : Option TokenKind) (n m : ℕ) → n ≤ m → (kind ≡ Some Bad → ⊥) → Below (piece kind m) kind n
below_piece kind n m l g = record { fits = l; same = λ e. refl; good = g }

-- a piece that is too short
pub below_longer : (kind : Option TokenKind) (other : Option TokenKind) (n m : ℕ) → n < m → (other ≡ Some Bad → ⊥) → Below (piece other m) kind n
below_longer kind other n m l g = record { fits = omega arith; same = λ e. absurd (omega arith); good = g }

-- a piece that cannot be as long
below_other : (kind : Option TokenKind) (other : Option TokenKind) (n m : ℕ) → n ≤ m → (n ≡ m → ⊥) → (other ≡ Some Bad → ⊥) → Below (piece other m) kind n
below_other kind other n m l d g = record { fits = l; same = λ e. absurd (d e); good = g }

no_bad_label : Some Label ≡ Some Bad → ⊥
no_bad_label e = cc

no_bad_word : Some Word ≡ Some Bad → ⊥
no_bad_word e = cc

no_bad_number : Some Number ≡ Some Bad → ⊥
no_bad_number e = cc

no_bad_float : Some Float ≡ Some Bad → ⊥
no_bad_float e = cc

no_bad_c_text : Some CText ≡ Some Bad → ⊥
no_bad_c_text e = cc

below_colon : (kind : TokenKind) (a : Class) (n m : ℕ) → n ≤ m → (Some kind ≡ Some Bad → ⊥) → Below (by_colon kind a m) (Some kind) n
below_colon kind Colon n m l g = below_longer (Some kind) (Some Label) n (m + 1) (omega arith) no_bad_label
below_colon kind _ n m l g = below_piece (Some kind) n m l g

longer_colon : (other : TokenKind) (kind : Option TokenKind) (a : Class) (n m : ℕ) → n < m → (Some other ≡ Some Bad → ⊥) → Below (by_colon other a m) kind n
longer_colon other kind Colon n m l g = below_longer kind (Some Label) n (m + 1) (omega arith) no_bad_label
longer_colon other kind _ n m l g = below_longer kind (Some other) n m l g

label_colon : (kind : TokenKind) (a : Class) (n m : ℕ) → n ≡ m + 1 → a ≡ Colon → Below (by_colon kind a m) (Some Label) n
label_colon kind a n m l e = subst (λ x. Below (by_colon kind x m) (Some Label) n) (sym e) (below_piece (Some Label) n (m + 1) (omega arith) no_bad_label)

-- what has a size, and what has none
pub size_made : (kind : TokenKind) (m : ℕ) (other : Piece) → 0 < m → by_size kind m other ≡ piece (Some kind) (m + 1)
size_made kind m other s = by_test (m == 0) (λ e. let k = eqb-true m 0 e in absurd (omega arith)) (λ e. if_false (m == 0) other (piece (Some kind) (m + 1)) e)

pub size_none : (kind : TokenKind) (m : ℕ) (other : Piece) → m ≡ 0 → by_size kind m other ≡ other
size_none kind m other z = ap (λ n. by_size kind n other) z

pub name_made : (kind : TokenKind) (m : ℕ) → 0 < m → by_name kind m ≡ piece (Some kind) (m + 1)
name_made kind m s = size_made kind m bad_piece s

pub some_or_none : (m : ℕ) → (m ≡ 0) ⊎ (0 < m)
some_or_none zero = inl refl
some_or_none (suc m) = inr (omega arith)

below_size : (own : TokenKind) (m : ℕ) (other : Piece) (kind : Option TokenKind) (n : ℕ) → (m ≡ 0 → Below other kind n) → (0 < m → Below (piece (Some own) (m + 1)) kind n) → Below (by_size own m other) kind n
below_size own m other kind n f g = elim (some_or_none m) [
  | inl z ↦ subst (λ p. Below p kind n) (sym (size_none own m other z)) (f z)
  | inr s ↦ subst (λ p. Below p kind n) (sym (size_made own m other s)) (g s)
]

below_name : (kind : TokenKind) (n m : ℕ) → 0 < m → n ≤ m + 1 → (Some kind ≡ Some Bad → ⊥) → Below (by_name kind m) (Some kind) n
below_name kind n m s l g = subst (λ p. Below p (Some kind) n) (sym (name_made kind m s)) (below_piece (Some kind) n (m + 1) l g)

below_at : (a b : Class) (c : ℕ) (cs : List ℕ) (kind : Option TokenKind) (n : ℕ) → a ≡ b → Below (by_class b c cs) kind n → Below (by_class a c cs) kind n
below_at a b c cs kind n e h = subst (λ x. Below (by_class x c cs) kind n) (sym e) h

-- ---- blanks, comments and marks

below_gap : (c : ℕ) (cs ys rest : List ℕ) → IsPlain None ys → c ∷ cs ≡ ys ++ rest → Below (plain_at (c ∷ cs)) None (length ys)
below_gap c cs ys rest (inl r) e =
    let s = single Blank c cs ys rest r e in
    below_at (class_of c) Blank c cs None (length ys) s.0 (below_piece None (length ys) 1 (let k = s.1 in omega arith) (λ f. cc))
below_gap c cs ys rest (inr r) e =
    let s = led_bound Semicolon no_line_end c cs ys rest r e in
    below_at (class_of c) Semicolon c cs None (length ys) s.0 (below_piece None (length ys) (run no_line_end cs + 1) s.1 (λ f. cc))

below_mark : (m c : ℕ) (cs ys rest : List ℕ) → IsPlain (Some (Mark m)) ys → c ∷ cs ≡ ys ++ rest → Below (plain_at (c ∷ cs)) (Some (Mark m)) (length ys)
below_mark m c cs ys rest (s, k) e =
    let f : c ∷ cs ≡ m ∷ rest = e ∙ ap (λ (l : List ℕ). l ++ rest) s in
    let h : c ≡ m = cc in
    below_at (class_of c) Bracket c cs (Some (Mark m)) (length ys) (ap class_of h ∙ k) (subst (λ x. Below (piece (Some (Mark x)) 1) (Some (Mark m)) (length ys)) (sym h) (below_piece (Some (Mark m)) (length ys) 1 (let l = ap length s in omega arith) (λ g. cc)))

-- ---- digits

-- a float literal that digits begin is longer than the digits
pub float_longer : (c : ℕ) (cs : List ℕ) → class_of c ≡ Digit → 0 < longest is_float (literal_start Digit c) cs → run digit_byte cs < longest is_float (literal_start Digit c) cs
float_longer c cs e s =
    let f = longest is_float (literal_start Digit c) cs in
    let front = take f cs in
    let k = longest_is is_float (literal_start Digit c) cs s in
    let t = length-take-le f cs (longest_fits is_float (literal_start Digit c) cs) in
    let no : f ≤ run digit_byte cs → ⊥ = λ l.
    let d = run_front digit_byte front (drop f cs) (subst (λ (x : List ℕ). length front ≤ run digit_byte x) (sym (take-append-drop f cs)) (omega arith)) in
    whole_no_float (after (literal_start Digit c) front) (sym (ap (λ a. is_whole (after (literal_start a c) front)) e) ∙ number_course c front (inl (c, front, refl, e, d))) k in
    omega arith

below_digits : (c : ℕ) (cs ys rest : List ℕ) → IsDigits ys → c ∷ cs ≡ ys ++ rest → Below (plain_at (c ∷ cs)) (Some Number) (length ys)
below_digits c cs ys rest r e =
    let s = led_bound Digit digit_byte c cs ys rest r e in
    let s1 = s.1 in
    below_at (class_of c) Digit c cs (Some Number) (length ys) s.0 (below_size Float (longest is_float (literal_start Digit c) cs) (digits_piece cs) (Some Number) (length ys)
    (λ z. below_colon Number (class_at (drop (run digit_byte cs) cs)) (length ys) (run digit_byte cs + 1) s.1 no_bad_number)
    (λ l. let m = float_longer c cs s.0 l in below_longer (Some Number) (Some Float) (length ys) (longest is_float (literal_start Digit c) cs + 1) (omega arith) no_bad_float))

digits_label : (c : ℕ) (cs w rest : List ℕ) (n : ℕ) → IsDigits w → c ∷ cs ≡ w ++ 58 ∷ rest → n ≡ length w + 1 → Below (plain_at (c ∷ cs)) (Some Label) n
digits_label c cs w rest n r e l =
    let t = led_ended Digit digit_byte c 58 cs w rest r e refl in
    let u = led_tail Digit (Each digit_byte) c cs w (58 ∷ rest) r e in
    let b : longest is_float (literal_start Digit c) cs ≤ length r.1 = subst (λ (x : List ℕ). longest is_float (literal_start Digit c) x ≤ length r.1) (sym u.1) (longest_stops is_float refl (literal_start Digit c) r.1 58 rest colon_stops) in
    let t1 = t.1 in
    let u2 = u.2 in
    below_at (class_of c) Digit c cs (Some Label) n t.0 (below_size Float (longest is_float (literal_start Digit c) cs) (digits_piece cs) (Some Label) n
    (λ z. label_colon Number (class_at (drop (run digit_byte cs) cs)) n (run digit_byte cs + 1) (omega arith) t.2)
    (λ s. let m = float_longer c cs t.0 s in absurd (omega arith)))

digit_float : (c : ℕ) (cs : List ℕ) (n : ℕ) → class_of c ≡ Digit → 0 < longest is_float (literal_start (class_of c) c) cs → n ≤ longest is_float (literal_start (class_of c) c) cs + 1 → Below (plain_at (c ∷ cs)) (Some Float) n
digit_float c cs n e s l =
    below_at (class_of c) Digit c cs (Some Float) n e (subst (λ a. Below (by_size Float (longest is_float (literal_start a c) cs) (digits_piece cs)) (Some Float) n) e (subst (λ p. Below p (Some Float) n) (sym (size_made Float (longest is_float (literal_start (class_of c) c) cs) (digits_piece cs) s)) (below_piece (Some Float) n (longest is_float (literal_start (class_of c) c) cs + 1) l no_bad_float)))

-- ---- what a - begins

-- by the float literal there, which is it unless a word is longer
below_dash : (f : ℕ) (cs : List ℕ) (kind : Option TokenKind) (n : ℕ) → ((f < run word_byte cs) ⊎ (f ≡ 0) → Below (by_tail (is_number_tail cs) cs) kind n) → (run word_byte cs ≤ f → 0 < f → Below (piece (Some Float) (f + 1)) kind n) → Below (dash_piece f cs) kind n
below_dash f cs kind n g h = by_test (nat_lt f (run word_byte cs))
    (λ e. subst (λ p. Below p kind n) (sym (if_true (nat_lt f (run word_byte cs)) (by_tail (is_number_tail cs) cs) (by_size Float f (by_tail (is_number_tail cs) cs)) e)) (g (inl (ltb-true f (run word_byte cs) e))))
    (λ e.
    let l : f < run word_byte cs → ⊥ = λ m. let k : true ≡ false = sym (lt-ltb f (run word_byte cs) m) ∙ e in cc in
    subst (λ p. Below p kind n) (sym (if_false (nat_lt f (run word_byte cs)) (by_tail (is_number_tail cs) cs) (by_size Float f (by_tail (is_number_tail cs) cs)) e)) (below_size Float f (by_tail (is_number_tail cs) cs) kind n (λ z. g (inr z)) (λ s. h (omega arith) s)))

-- what is as long as the float literal there is one
same_float : (cs ds rest : List ℕ) → cs ≡ ds ++ rest → 0 < longest is_float Minus cs → length ds ≡ longest is_float Minus cs → is_float (after Minus ds) ≡ true
same_float cs ds rest e s l = ap (λ (x : List ℕ). is_float (after Minus x)) (sym (take_at ds rest (length ds) refl) ∙ ap (take (length ds)) (sym e) ∙ ap (λ n. take n cs) l) ∙ longest_is is_float Minus cs s

-- a word that begins with - where its bytes would go on as a number: the - alone
dash_alone : (ds rest : List ℕ) → every word_byte ds ≡ true → (IsDigits ds → ⊥) → is_number_tail (ds ++ rest) ≡ true → length ds ≡ 0
dash_alone [] rest h n t = refl
dash_alone (d ∷ ds) rest h n t =
    let k = tail_true ((d ∷ ds) ++ rest) t in
    let b = run_bound word_byte (d ∷ ds) rest h in
    let k1 = k.1 in
    absurd (n (is_digits (d ∷ ds) (omega arith) (run_front digit_byte (d ∷ ds) rest (omega arith))))

dash_bound_by : (c : ℕ) (cs w rest : List ℕ) → Led Dash (Each word_byte) w → (IsNumber w → ⊥) → c ∷ cs ≡ w ++ rest → (b : Bool) → is_number_tail cs ≡ b → length w ≤ cond b 1 (run word_byte cs + 1)
dash_bound_by c cs w rest r n e true h =
    let t = led_tail Dash (Each word_byte) c cs w rest r e in
    let k = dash_alone r.1 rest r.4 (λ d. n (inr (r.0, r.1, r.2, r.3, d))) (subst (λ x. is_number_tail x ≡ true) t.1 h) in
    let t2 = t.2 in
    omega arith
dash_bound_by c cs w rest r n e false h = let b = led_bound Dash word_byte c cs w rest r e in b.1

dash_word_by : (cs : List ℕ) (n : ℕ) (b : Bool) → is_number_tail cs ≡ b → n ≤ cond b 1 (run word_byte cs + 1) → Below (by_tail b cs) (Some Word) n
dash_word_by cs n true e l = let k = tail_true cs e in let k0 = k.0 in below_longer (Some Word) (Some Number) n (run digit_byte cs + 1) (omega arith) no_bad_number
dash_word_by cs n false e l = below_colon Word (class_at (drop (run word_byte cs) cs)) n (run word_byte cs + 1) l no_bad_word

dash_word : (c : ℕ) (cs ys rest : List ℕ) → Led Dash (Each word_byte) ys → (IsNumber ys → ⊥) → (IsFloat ys → ⊥) → c ∷ cs ≡ ys ++ rest → Below (plain_at (c ∷ cs)) (Some Word) (length ys)
dash_word c cs ys rest r n f e =
    let t = led_tail Dash (Each word_byte) c cs ys rest r e in
    let b = led_bound Dash word_byte c cs ys rest r e in
    let b1 = b.1 in
    let t2 = t.2 in
    below_at (class_of c) Dash c cs (Some Word) (length ys) t.0 (below_dash (longest is_float Minus cs) cs (Some Word) (length ys)
    (λ m. dash_word_by cs (length ys) (is_number_tail cs) refl (dash_bound_by c cs ys rest r n e (is_number_tail cs) refl))
    (λ l s. below_other (Some Word) (Some Float) (length ys) (longest is_float Minus cs + 1) (omega arith)
    (λ q. f (subst IsFloat (sym r.2) (course_float r.0 r.1 (ap (λ a. is_float (after (literal_start a r.0) r.1)) r.3 ∙ same_float cs r.1 rest t.1 s (omega arith)))))
    no_bad_float))

dash_number_by : (cs : List ℕ) (n : ℕ) → 0 < run digit_byte cs → n ≤ run digit_byte cs + 1 → (b : Bool) → is_number_tail cs ≡ b → Below (by_tail b cs) (Some Number) n
dash_number_by cs n s l true e = below_piece (Some Number) n (run digit_byte cs + 1) l no_bad_number
dash_number_by cs n s l false e = longer_colon Word (Some Number) (class_at (drop (run word_byte cs) cs)) n (run word_byte cs + 1) (let k = tail_less cs s e in omega arith) no_bad_word

dash_number : (c : ℕ) (cs ys rest : List ℕ) → Led Dash IsDigits ys → c ∷ cs ≡ ys ++ rest → Below (plain_at (c ∷ cs)) (Some Number) (length ys)
dash_number c cs ys rest r e =
    let t = led_tail Dash IsDigits c cs ys rest r e in
    let b = subst (λ x. length r.1 ≤ run digit_byte x) (sym t.1) (run_bound digit_byte r.1 rest (digits_every r.1 r.4)) in
    let k = digits_some r.1 r.4 in
    let w = digits_in_word cs in
    let t2 = t.2 in
    below_at (class_of c) Dash c cs (Some Number) (length ys) t.0 (below_dash (longest is_float Minus cs) cs (Some Number) (length ys)
    (λ m. dash_number_by cs (length ys) (omega arith) (omega arith) (is_number_tail cs) refl)
    (λ l s. below_other (Some Number) (Some Float) (length ys) (longest is_float Minus cs + 1) (omega arith)
    (λ q. whole_no_float (after Minus r.1) (sym (ap (λ a. is_whole (after (literal_start a r.0) r.1)) r.3) ∙ number_course r.0 r.1 (inr (r.0, r.1, refl, r.3, r.4))) (same_float cs r.1 rest t.1 s (omega arith)))
    no_bad_float))

dash_float_by : (cs : List ℕ) (n : ℕ) → n < run word_byte cs + 1 → (b : Bool) → is_number_tail cs ≡ b → Below (by_tail b cs) (Some Float) n
dash_float_by cs n l true e = let k = tail_true cs e in let k1 = k.1 in below_longer (Some Float) (Some Number) n (run digit_byte cs + 1) (omega arith) no_bad_number
dash_float_by cs n l false e = longer_colon Word (Some Float) (class_at (drop (run word_byte cs) cs)) n (run word_byte cs + 1) l no_bad_word

dash_float : (c : ℕ) (cs : List ℕ) (n : ℕ) → class_of c ≡ Dash → 0 < longest is_float (literal_start (class_of c) c) cs → n ≤ longest is_float (literal_start (class_of c) c) cs + 1 → Below (plain_at (c ∷ cs)) (Some Float) n
dash_float c cs n e s l =
    let g : longest is_float (literal_start (class_of c) c) cs ≡ longest is_float Minus cs = ap (λ a. longest is_float (literal_start a c) cs) e in
    below_at (class_of c) Dash c cs (Some Float) n e (below_dash (longest is_float Minus cs) cs (Some Float) n (short g) (λ k m. below_piece (Some Float) n (longest is_float Minus cs + 1) (omega arith) no_bad_float))
  where
    short : longest is_float (literal_start (class_of c) c) cs ≡ longest is_float Minus cs → (longest is_float Minus cs < run word_byte cs) ⊎ (longest is_float Minus cs ≡ 0) → Below (by_tail (is_number_tail cs) cs) (Some Float) n
    short g (inl k) = dash_float_by cs n (omega arith) (is_number_tail cs) refl
    short g (inr z) = absurd (omega arith)

dash_label_by : (c : ℕ) (cs w rest : List ℕ) (n : ℕ) → Led Dash (Each word_byte) w → (IsNumber w → ⊥) → c ∷ cs ≡ w ++ 58 ∷ rest → n ≡ length w + 1 → (b : Bool) → is_number_tail cs ≡ b → Below (by_tail b cs) (Some Label) n
dash_label_by c cs w rest n r m e l true h =
    let t = led_ended Dash word_byte c 58 cs w rest r e refl in
    let b = dash_bound_by c cs w (58 ∷ rest) r m e true h in
    let q = tail_true cs h in
    let t1 = t.1 in
    let q0 = q.0 in
    let q1 = q.1 in
    absurd (omega arith)
dash_label_by c cs w rest n r m e l false h =
    let t = led_ended Dash word_byte c 58 cs w rest r e refl in
    label_colon Word (class_at (drop (run word_byte cs) cs)) n (run word_byte cs + 1) (let t1 = t.1 in omega arith) t.2

dash_label : (c : ℕ) (cs w rest : List ℕ) (n : ℕ) → Led Dash (Each word_byte) w → (IsNumber w → ⊥) → (IsFloat w → ⊥) → c ∷ cs ≡ w ++ 58 ∷ rest → n ≡ length w + 1 → Below (plain_at (c ∷ cs)) (Some Label) n
dash_label c cs w rest n r m f e l =
    let t = led_ended Dash word_byte c 58 cs w rest r e refl in
    let u = led_tail Dash (Each word_byte) c cs w (58 ∷ rest) r e in
    let b : longest is_float Minus cs ≤ length r.1 = subst (λ (x : List ℕ). longest is_float Minus x ≤ length r.1) (sym u.1) (longest_stops is_float refl Minus r.1 58 rest colon_stops) in
    let t1 = t.1 in
    let u2 = u.2 in
    below_at (class_of c) Dash c cs (Some Label) n t.0 (below_dash (longest is_float Minus cs) cs (Some Label) n
    (λ k. dash_label_by c cs w rest n r m e l (is_number_tail cs) refl)
    (λ k s. absurd (f (subst IsFloat (sym r.2) (course_float r.0 r.1 (ap (λ a. is_float (after (literal_start a r.0) r.1)) r.3 ∙ same_float cs r.1 (58 ∷ rest) u.1 s (omega arith)))))))

below_float : (c : ℕ) (cs ys rest : List ℕ) → IsFloat ys → c ∷ cs ≡ ys ++ rest → Below (plain_at (c ∷ cs)) (Some Float) (length ys)
below_float c cs ys rest r e = let q = float_front c cs ys rest r e in by q.0 q.1 q.2
  where
    by : (class_of c ≡ Digit) ⊎ (class_of c ≡ Dash) → 0 < longest is_float (literal_start (class_of c) c) cs → length ys ≤ longest is_float (literal_start (class_of c) c) cs + 1 → Below (plain_at (c ∷ cs)) (Some Float) (length ys)
    by (inl k) s l = digit_float c cs (length ys) k s l
    by (inr k) s l = dash_float c cs (length ys) k s l

-- ---- what a letter begins

-- a string behind a c
pub quoted_closed : (cs : List ℕ) → 0 < quoted_size cs → run no_quote cs < length cs
quoted_closed cs l = by_test (nat_lt (run no_quote cs) (length cs)) (λ e. ltb-true (run no_quote cs) (length cs) e) (λ e. let z = if_false (nat_lt (run no_quote cs) (length cs)) (run no_quote cs + 2) 0 e in absurd (omega arith))

pub c_text_parts : (c : ℕ) (cs : List ℕ) → 0 < c_text_size c cs → (c ≡ 99) × (ds : List ℕ) × (cs ≡ 34 ∷ ds) × (run no_quote ds < length ds)
c_text_parts c [] l = absurd (omega arith)
c_text_parts c (d ∷ ds) l = by (c == 99) (d == 34) refl refl l
  where
    by : (b k : Bool) → (c == 99) ≡ b → (d == 34) ≡ k → 0 < cond b (cond k (quoted_size ds) 0) 0 → (c ≡ 99) × (es : List ℕ) × (d ∷ ds ≡ 34 ∷ es) × (run no_quote es < length es)
    by true true f e l = (eqb-true c 99 f, ds, ap (λ x. x ∷ ds) (eqb-true d 34 e), quoted_closed ds l)
    by true false f e l = absurd (omega arith)
    by false k f e l = absurd (omega arith)

-- so the c has no byte of a word behind it, and no colon
c_text_alone : (c : ℕ) (cs : List ℕ) → 0 < c_text_size c cs → (run word_byte cs ≡ 0) × (class_at (drop (run word_byte cs) cs) ≡ Quote)
c_text_alone c cs l = let q = c_text_parts c cs l in (ap (run word_byte) q.2, ap (λ (x : List ℕ). class_at (drop (run word_byte x) x)) q.2)

letter_word : (c : ℕ) (cs ys rest : List ℕ) → Led Letter (Each word_byte) ys → c ∷ cs ≡ ys ++ rest → Below (plain_at (c ∷ cs)) (Some Word) (length ys)
letter_word c cs ys rest r e =
    let s = led_bound Letter word_byte c cs ys rest r e in
    let s1 = s.1 in
    below_at (class_of c) Letter c cs (Some Word) (length ys) s.0 (below_size CText (c_text_size c cs) (word_piece cs) (Some Word) (length ys)
    (λ z. below_colon Word (class_at (drop (run word_byte cs) cs)) (length ys) (run word_byte cs + 1) s.1 no_bad_word)
    (λ l. let a = c_text_alone c cs l in let a0 = a.0 in below_longer (Some Word) (Some CText) (length ys) (c_text_size c cs + 1) (omega arith) no_bad_c_text))

letter_label : (c : ℕ) (cs w rest : List ℕ) (n : ℕ) → Led Letter (Each word_byte) w → c ∷ cs ≡ w ++ 58 ∷ rest → n ≡ length w + 1 → Below (plain_at (c ∷ cs)) (Some Label) n
letter_label c cs w rest n r e k =
    let t = led_ended Letter word_byte c 58 cs w rest r e refl in
    let t1 = t.1 in
    below_at (class_of c) Letter c cs (Some Label) n t.0 (below_size CText (c_text_size c cs) (word_piece cs) (Some Label) n
    (λ z. label_colon Word (class_at (drop (run word_byte cs) cs)) n (run word_byte cs + 1) (omega arith) t.2)
    (λ l. let a = c_text_alone c cs l in let f : Colon ≡ Quote = sym t.2 ∙ a.1 in absurd (cc)))

below_c_text : (c : ℕ) (cs ys rest : List ℕ) → IsPlain (Some CText) ys → c ∷ cs ≡ ys ++ rest → Below (plain_at (c ∷ cs)) (Some CText) (length ys)
below_c_text c cs ys rest (text, (inner, h, s), k) e =
    let f : c ∷ cs ≡ 99 ∷ (text ++ rest) = e ∙ ap (λ (l : List ℕ). l ++ rest) k in
    let g : c ≡ 99 = cc in
    let t : cs ≡ text ++ rest = cc in
    let u : cs ≡ 34 ∷ ((inner ++ 34 ∷ []) ++ rest) = t ∙ ap (λ (l : List ℕ). l ++ rest) s in
    let q = quoted_front 34 ((inner ++ 34 ∷ []) ++ rest) text rest (inner, h, s) (ap (λ (l : List ℕ). l ++ rest) (sym s)) in
    let z : c_text_size c cs ≡ quoted_size ((inner ++ 34 ∷ []) ++ rest) = ap (λ v. c_text_size v cs) g ∙ ap (c_text_size 99) u in
    let m = quoted_made ((inner ++ 34 ∷ []) ++ rest) q.1 in
    let q2 = q.2 in
    let l = ap length k in
    below_at (class_of c) Letter c cs (Some CText) (length ys) (ap class_of g) (subst (λ p. Below p (Some CText) (length ys)) (sym (size_made CText (c_text_size c cs) (word_piece cs) (omega arith))) (below_piece (Some CText) (length ys) (c_text_size c cs + 1) (omega arith) no_bad_c_text))

below_word : (c : ℕ) (cs ys rest : List ℕ) → IsWord ys → c ∷ cs ≡ ys ++ rest → Below (plain_at (c ∷ cs)) (Some Word) (length ys)
below_word c cs ys rest (inl r, n, f) e = letter_word c cs ys rest r e
below_word c cs ys rest (inr r, n, f) e = dash_word c cs ys rest r n f e

below_number : (c : ℕ) (cs ys rest : List ℕ) → IsNumber ys → c ∷ cs ≡ ys ++ rest → Below (plain_at (c ∷ cs)) (Some Number) (length ys)
below_number c cs ys rest (inl r) e = below_digits c cs ys rest r e
below_number c cs ys rest (inr r) e = dash_number c cs ys rest r e

-- ---- strings and labels

quote_made : (cs : List ℕ) → run no_quote cs < length cs → quote_piece cs ≡ by_colon Text (class_at (drop (run no_quote cs + 1) cs)) (run no_quote cs + 1 + 1)
quote_made cs l = if_true (nat_lt (run no_quote cs) (length cs)) (by_colon Text (class_at (drop (run no_quote cs + 1) cs)) (run no_quote cs + 1 + 1)) bad_piece (lt-ltb (run no_quote cs) (length cs) l)

below_text : (c : ℕ) (cs ys rest : List ℕ) → IsQuoted ys → c ∷ cs ≡ ys ++ rest → Below (plain_at (c ∷ cs)) (Some Text) (length ys)
below_text c cs ys rest r e =
    let q = quoted_front c cs ys rest r e in
    let q2 = q.2 in
    below_at (class_of c) Quote c cs (Some Text) (length ys) (ap class_of q.0) (subst (λ p. Below p (Some Text) (length ys)) (sym (quote_made cs q.1)) (below_colon Text (class_at (drop (run no_quote cs + 1) cs)) (length ys) (run no_quote cs + 1 + 1) (omega arith) (λ f. cc)))

text_label : (c : ℕ) (cs w rest : List ℕ) (n : ℕ) → IsQuoted w → c ∷ cs ≡ w ++ 58 ∷ rest → n ≡ length w + 1 → Below (plain_at (c ∷ cs)) (Some Label) n
text_label c cs w rest n r e l =
    let q = quoted_front c cs w (58 ∷ rest) r e in
    let q2 = q.2 in
    below_at (class_of c) Quote c cs (Some Label) n (ap class_of q.0) (subst (λ p. Below p (Some Label) n) (sym (quote_made cs q.1)) (label_colon Text (class_at (drop (run no_quote cs + 1) cs)) n (run no_quote cs + 1 + 1) (omega arith) (ap class_at q.3)))

below_stem : (c : ℕ) (cs w rest : List ℕ) (n : ℕ) → IsStem w → c ∷ cs ≡ w ++ 58 ∷ rest → n ≡ length w + 1 → Below (plain_at (c ∷ cs)) (Some Label) n
below_stem c cs w rest n (inl (inl r, m, f)) e l = letter_label c cs w rest n r e l
below_stem c cs w rest n (inl (inr r, m, f)) e l = dash_label c cs w rest n r m f e l
below_stem c cs w rest n (inr (inl r)) e l = digits_label c cs w rest n r e l
below_stem c cs w rest n (inr (inr r)) e l = text_label c cs w rest n r e l

below_label : (c : ℕ) (cs ys rest : List ℕ) → IsLabel ys → c ∷ cs ≡ ys ++ rest → Below (plain_at (c ∷ cs)) (Some Label) (length ys)
below_label c cs ys rest (w, r, s) e =
    let m : length (w ++ codes ":") ≡ length w + 1 = length-append w (codes ":") in
    below_stem c cs w rest (length ys) r (e ∙ ap (λ (l : List ℕ). l ++ rest) s ∙ append_assoc w (codes ":") rest) (ap length s ∙ m)

-- ---- what a sign begins

-- what comes behind the sign of a name
name_behind : (sign : Class) (c : ℕ) (cs ys rest : List ℕ) → Led sign IsStem ys → c ∷ cs ≡ ys ++ rest → (class_of c ≡ sign) × (0 < name_size cs) × (length ys ≤ name_size cs + 1)
name_behind sign c cs ys rest r e =
    let t = led_tail sign IsStem c cs ys rest r e in
    let b = name_bound cs r.1 rest r.4 t.1 in
    let b0 = b.0 in
    let b1 = b.1 in
    let t2 = t.2 in
    (t.0, omega arith, omega arith)

below_group : (c : ℕ) (cs ys rest : List ℕ) → Led Hash IsDigits ys → c ∷ cs ≡ ys ++ rest → Below (plain_at (c ∷ cs)) (Some Group) (length ys)
below_group c cs ys rest r e =
    let t = led_tail Hash IsDigits c cs ys rest r e in
    let b = subst (λ x. length r.1 ≤ run digit_byte x) (sym t.1) (run_bound digit_byte r.1 rest (digits_every r.1 r.4)) in
    let k = digits_some r.1 r.4 in
    let t2 = t.2 in
    below_at (class_of c) Hash c cs (Some Group) (length ys) t.0 (below_name Group (length ys) (run digit_byte cs) (omega arith) (omega arith) (λ f. cc))

-- what comes behind a !
meta_behind : (cs w rest : List ℕ) → IsStem w ⊎ (w ≡ codes "{") → cs ≡ w ++ rest → (0 < length w) × (length w ≤ meta_size cs)
meta_behind cs w rest (inr s) e =
    let f : cs ≡ 123 ∷ rest = e ∙ ap (λ (l : List ℕ). l ++ rest) s in
    let l = ap length s in
    (omega arith, subst (λ (x : List ℕ). length w ≤ meta_size x) (sym f) (omega arith))
meta_behind [] w rest (inl r) e = no_front w rest (stem_some w r) e
meta_behind (c ∷ cs) w rest (inl r) e =
    let b = stem_bound c cs w rest r e in
    let s = stem_some w r in (
      s,
      by_test (c == 123)
          (λ h. let z : stem_size (class_of c) cs ≡ 0 = ap (λ v. stem_size (class_of v) cs) (eqb-true c 123 h) in absurd (omega arith))
          (λ h. subst (λ n. length w ≤ n) (sym (if_false (c == 123) 1 (stem_size (class_of c) cs) h)) b),
    )

pub meta_front : (c : ℕ) (cs ys rest : List ℕ) → IsMeta ys → c ∷ cs ≡ ys ++ rest → (class_of c ≡ Bang) × (0 < meta_size cs) × (length ys ≤ meta_size cs + 1)
meta_front c cs ys rest r e =
    let t = led_tail Bang (λ xs. IsStem xs ⊎ (xs ≡ codes "{")) c cs ys rest r e in
    let b = meta_behind cs r.1 rest r.4 t.1 in
    let b0 = b.0 in
    let b1 = b.1 in
    let t2 = t.2 in
    (t.0, omega arith, omega arith)

-- ---- every kind

pub below : (kind : Option TokenKind) (c : ℕ) (cs ys rest : List ℕ) → IsPlain kind ys → c ∷ cs ≡ ys ++ rest → Below (plain_at (c ∷ cs)) kind (length ys)
below None c cs ys rest r e = below_gap c cs ys rest r e
below (Some Word) c cs ys rest r e = below_word c cs ys rest r e
below (Some Local) c cs ys rest r e =
    let b = name_behind Percent c cs ys rest r e in
    below_at (class_of c) Percent c cs (Some Local) (length ys) b.0 (below_name Local (length ys) (name_size cs) b.1 b.2 (λ f. cc))
below (Some Global) c cs ys rest r e =
    let b = name_behind AtSign c cs ys rest r e in
    below_at (class_of c) AtSign c cs (Some Global) (length ys) b.0 (below_name Global (length ys) (name_size cs) b.1 b.2 (λ f. cc))
below (Some Label) c cs ys rest r e = below_label c cs ys rest r e
below (Some Number) c cs ys rest r e = below_number c cs ys rest r e
below (Some Float) c cs ys rest r e = below_float c cs ys rest r e
below (Some Text) c cs ys rest r e = below_text c cs ys rest r e
below (Some CText) c cs ys rest r e = below_c_text c cs ys rest r e
below (Some Group) c cs ys rest r e = below_group c cs ys rest r e
below (Some Meta) c cs ys rest r e =
    let b = meta_front c cs ys rest r e in
    below_at (class_of c) Bang c cs (Some Meta) (length ys) b.0 (below_name Meta (length ys) (meta_size cs) b.1 b.2 (λ f. cc))
below (Some (Mark m)) c cs ys rest r e = below_mark m c cs ys rest r e
below (Some Passive) c cs ys rest r e = absurd r
below (Some Bad) c cs ys rest r e = absurd r
below (Some Past) c cs ys rest r e = absurd r
