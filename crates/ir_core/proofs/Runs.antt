-- Runs of bytes, and the classes of bytes.
use Rattle.std.proofs.Common.{◌≡◌, ℕ, zero, suc, ◌+◌, ◌≤◌, ◌<◌, List, [], ◌∷◌, ◌++◌, length, take, drop, Bool, true, false, cond, refl, sym, ap, ◌∙◌, subst, arith, get_or, ◌==◌, nat_lt, drop-cons, if◌then◌else◌}
use Rattle.std.proofs.lemmas.List.{drop_all}
use Rattle.std.proofs.lemmas.Bool.{eqb-true, eq-eqb, ltb-true, lt-ltb}
use Rattle.ir_core.specs.Bytes.{Class, Blank, Semicolon, Bracket, Digit, Dash, Letter, Percent, AtSign, Colon, Quote, Hash, Bang, Other, blanks, marks, letter_signs, between, class_of, is_one_of, is_word_class, is_digit_class, word_byte, digit_byte, every}
use Rattle.ir_core.specs.Tokens.{Led, Nothing, Each, IsDigits}
use Rattle.ir_core.specs.Scan.{run, class_at, is_number_tail}

-- ---- tests

-- by the outcome of a test
pub by_test : {A : Type 0} (b : Bool) → (b ≡ true → A) → (b ≡ false → A) → A
by_test true f g = f refl
by_test false f g = g refl

-- a test that is known
pub if_true : {A : Type 0} (b : Bool) (x y : A) → b ≡ true → cond b x y ≡ x
if_true b x y e = ap (λ t. cond t x y) e

pub if_false : {A : Type 0} (b : Bool) (x y : A) → b ≡ false → cond b x y ≡ y
if_false b x y e = ap (λ t. cond t x y) e

-- ---- single bytes

-- a class that is not the first of two is the second, and one that is not the second is the first
peel : (b : Bool) (x y a : Class) → (x ≡ a → ⊥) → cond b x y ≡ a → y ≡ a
peel true x y a n e = absurd (n e)
peel false x y a n e = e

peeled : (b : Bool) (x y a : Class) → (y ≡ a → ⊥) → cond b x y ≡ a → b ≡ true
peeled true x y a n e = refl
peeled false x y a n e = absurd (n e)

no_quote_behind : (b d : Bool) → cond b Hash (cond d Bang Other) ≡ Quote → ⊥
no_quote_behind true d e = cc
no_quote_behind false true e = cc
no_quote_behind false false e = cc

no_colon_behind : (a b c d : Bool) → cond a Semicolon (cond b Quote (cond c Hash (cond d Bang Other))) ≡ Colon → ⊥
no_colon_behind true b c d e = cc
no_colon_behind false true c d e = cc
no_colon_behind false false true d e = cc
no_colon_behind false false false true e = cc
no_colon_behind false false false false e = cc

-- the bytes before the signs of names
to_signs : (c : ℕ) (a : Class) → (Blank ≡ a → ⊥) → (Bracket ≡ a → ⊥) → (Digit ≡ a → ⊥) → (Letter ≡ a → ⊥) → (Dash ≡ a → ⊥) → (Percent ≡ a → ⊥) → (AtSign ≡ a → ⊥) → class_of c ≡ a → (if c == 58 then Colon else if c == 59 then Semicolon else if c == 34 then Quote else if c == 35 then Hash else if c == 33 then Bang else Other) ≡ a
to_signs c a n1 n2 n3 n4 n5 n6 n7 e =
    peel (c == 64) AtSign _ a n7 (peel (c == 37) Percent _ a n6 (peel (c == 45) Dash _ a n5 (peel (is_one_of letter_signs c) Letter _ a n4 (peel (between 65 90 c) Letter _ a n4 (peel (between 97 122 c) Letter _ a n4 (peel (between 48 57 c) Digit _ a n3 (peel (is_one_of marks c) Bracket _ a n2 (peel (is_one_of blanks c) Blank _ a n1 e))))))))

pub quote_byte : (c : ℕ) → class_of c ≡ Quote → c ≡ 34
quote_byte c e =
    let s = to_signs c Quote (λ f. cc) (λ f. cc) (λ f. cc) (λ f. cc) (λ f. cc) (λ f. cc) (λ f. cc) e in
    eqb-true c 34 (peeled _ Quote _ Quote (no_quote_behind (c == 35) (c == 33)) (peel _ Semicolon _ Quote (λ f. cc) (peel _ Colon _ Quote (λ f. cc) s)))

pub colon_byte : (c : ℕ) → class_of c ≡ Colon → c ≡ 58
colon_byte c e =
    let s = to_signs c Colon (λ f. cc) (λ f. cc) (λ f. cc) (λ f. cc) (λ f. cc) (λ f. cc) (λ f. cc) e in
    eqb-true c 58 (peeled _ Colon _ Colon (no_colon_behind (c == 59) (c == 34) (c == 35) (c == 33)) s)

-- one of some bytes of which all pass a test
one_by : (p : ℕ → Bool) (b c : ℕ) (bs : List ℕ) → p b ≡ true → (is_one_of bs c ≡ true → p c ≡ true) → (t : Bool) → (c == b) ≡ t → cond t true (is_one_of bs c) ≡ true → p c ≡ true
one_by p b c bs h k true e g = ap p (eqb-true c b e) ∙ h
one_by p b c bs h k false e g = k g

-- ---- runs of bytes

fits_by : (n m : ℕ) → n ≤ m → (b : Bool) → cond b (n + 1) 0 ≤ suc m
fits_by n m h true = omega arith
fits_by n m h false = omega arith

pub run_fits : (p : ℕ → Bool) (cs : List ℕ) → run p cs ≤ length cs
run_fits p [] = omega arith
run_fits p (c ∷ cs) = fits_by (run p cs) (length cs) (run_fits p cs) (p c)

-- a byte that goes on with the run, and one that ends it
pub run_in : (p : ℕ → Bool) (c : ℕ) (cs : List ℕ) → p c ≡ true → run p (c ∷ cs) ≡ suc (run p cs)
run_in p c cs e = ap (λ (b : Bool). cond b (run p cs + 1) 0) e ∙ (let z : run p cs + 1 ≡ suc (run p cs) = omega arith in z)

pub run_out : (p : ℕ → Bool) (c : ℕ) (cs : List ℕ) → p c ≡ false → run p (c ∷ cs) ≡ 0
run_out p c cs e = ap (λ (b : Bool). cond b (run p cs + 1) 0) e

every_by : (p : ℕ → Bool) (c : ℕ) (cs : List ℕ) → every p (take (run p cs) cs) ≡ true → (b : Bool) → p c ≡ b → every p (take (cond b (run p cs + 1) 0) (c ∷ cs)) ≡ true
every_by p c cs h true e = subst (λ n. every p (take n (c ∷ cs)) ≡ true) (let k : suc (run p cs) ≡ run p cs + 1 = omega arith in k) (ap (λ (b : Bool). cond b (every p (take (run p cs) cs)) false) e ∙ h)
every_by p c cs h false e = refl

-- the run is of such bytes
pub run_every : (p : ℕ → Bool) (cs : List ℕ) → every p (take (run p cs) cs) ≡ true
run_every p [] = refl
run_every p (c ∷ cs) = every_by p c cs (run_every p cs) (p c) refl

-- each of a list is each of its parts
every_parts : (p : ℕ → Bool) (c : ℕ) (cs : List ℕ) (b : Bool) → p c ≡ b → every p (c ∷ cs) ≡ true → (p c ≡ true) × (every p cs ≡ true)
every_parts p c cs true e h = (e, sym (ap (λ (b : Bool). cond b (every p cs) false) e) ∙ h)
every_parts p c cs false e h = let f : false ≡ true = sym (ap (λ (b : Bool). cond b (every p cs) false) e) ∙ h in absurd (cc)

pub every_first : (p : ℕ → Bool) (c : ℕ) (cs : List ℕ) → every p (c ∷ cs) ≡ true → (p c ≡ true) × (every p cs ≡ true)
every_first p c cs h = every_parts p c cs (p c) refl h

pub every_more : (p : ℕ → Bool) (c : ℕ) (cs : List ℕ) → p c ≡ true → every p cs ≡ true → every p (c ∷ cs) ≡ true
every_more p c cs e h = ap (λ (b : Bool). cond b (every p cs) false) e ∙ h

pub one_of : (p : ℕ → Bool) (bs : List ℕ) (c : ℕ) → every p bs ≡ true → is_one_of bs c ≡ true → p c ≡ true
one_of p [] c h e = absurd (let f : false ≡ true = e in cc)
one_of p (b ∷ bs) c h e = let k = every_first p b bs h in one_by p b c bs k.0 (one_of p bs c k.1) (c == b) refl e

-- a front of such bytes is no longer than the run
pub run_bound : (p : ℕ → Bool) (ys rest : List ℕ) → every p ys ≡ true → length ys ≤ run p (ys ++ rest)
run_bound p [] rest h = omega arith
run_bound p (c ∷ ys) rest h =
    let e = every_first p c ys h in
    let k = run_bound p ys rest e.1 in
    let r = run_in p c (ys ++ rest) e.0 in
    omega arith

-- and a front that is no longer than the run is of such bytes
front_by : (p : ℕ → Bool) (c : ℕ) (ys rest : List ℕ) → suc (length ys) ≤ run p (c ∷ (ys ++ rest)) → (length ys ≤ run p (ys ++ rest) → every p ys ≡ true) → (b : Bool) → p c ≡ b → every p (c ∷ ys) ≡ true
front_by p c ys rest l k true e = let r = run_in p c (ys ++ rest) e in every_more p c ys e (k (omega arith))
front_by p c ys rest l k false e = let r = run_out p c (ys ++ rest) e in absurd (omega arith)

pub run_front : (p : ℕ → Bool) (ys rest : List ℕ) → length ys ≤ run p (ys ++ rest) → every p ys ≡ true
run_front p [] rest l = refl
run_front p (c ∷ ys) rest l = front_by p c ys rest l (run_front p ys rest) (p c) refl

-- a run that a byte of another kind ends
pub run_ended : (p : ℕ → Bool) (c : ℕ) (ws rest : List ℕ) → every p ws ≡ true → p c ≡ false → (run p (ws ++ c ∷ rest) ≡ length ws) × (class_at (drop (run p (ws ++ c ∷ rest)) (ws ++ c ∷ rest)) ≡ class_of c)
run_ended p c [] rest h k = let r = run_out p c rest k in (r, ap (λ n. class_at (drop n (c ∷ rest))) r)
run_ended p c (d ∷ ws) rest h k =
    let e = every_first p d ws h in
    let q = run_ended p c ws rest e.1 k in
    let r = run_in p d (ws ++ c ∷ rest) e.0 in
    (r ∙ ap suc q.0, ap (λ n. class_at (drop n (d ∷ (ws ++ c ∷ rest)))) r ∙ q.1)

-- the more bytes pass, the longer the run
wider_by : (p q : ℕ → Bool) (c : ℕ) (cs : List ℕ) → (p c ≡ true → q c ≡ true) → run p cs ≤ run q cs → (b : Bool) → p c ≡ b → run p (c ∷ cs) ≤ run q (c ∷ cs)
wider_by p q c cs w k true e = let r = run_in p c cs e in let s = run_in q c cs (w e) in omega arith
wider_by p q c cs w k false e = let r = run_out p c cs e in omega arith

pub run_wider : (p q : ℕ → Bool) → ((c : ℕ) → p c ≡ true → q c ≡ true) → (cs : List ℕ) → run p cs ≤ run q cs
run_wider p q w [] = omega arith
run_wider p q w (c ∷ cs) = wider_by p q c cs (w c) (run_wider p q w cs) (p c) refl

-- a front of such bytes is a front of the run
pub run_taken : (p : ℕ → Bool) (ys rest : List ℕ) → every p ys ≡ true → (more : List ℕ) × (take (run p (ys ++ rest)) (ys ++ rest) ≡ ys ++ more)
run_taken p [] rest h = (take (run p rest) rest, refl)
run_taken p (y ∷ ys) rest h =
    let e = every_first p y ys h in
    let q = run_taken p ys rest e.1 in
    (q.0, ap (λ n. take n (y ∷ (ys ++ rest))) (run_in p y (ys ++ rest) e.0) ∙ ap (λ (l : List ℕ). y ∷ l) q.1)

pub every_taken : (p : ℕ → Bool) (n : ℕ) (xs : List ℕ) → every p xs ≡ true → every p (take n xs) ≡ true
every_taken p zero xs h = refl
every_taken p (suc n) [] h = refl
every_taken p (suc n) (x ∷ xs) h = let e = every_first p x xs h in every_more p x (take n xs) e.0 (every_taken p n xs e.1)

pub every_append : (p : ℕ → Bool) (xs ys : List ℕ) → every p xs ≡ true → every p ys ≡ true → every p (xs ++ ys) ≡ true
every_append p [] ys h k = k
every_append p (x ∷ xs) ys h k = let e = every_first p x xs h in every_more p x (xs ++ ys) e.0 (every_append p xs ys e.1 k)

-- the byte that ends a run
next_by : (p : ℕ → Bool) (c : ℕ) (cs : List ℕ) → run p (c ∷ cs) < length (c ∷ cs) → (run p cs < length cs → (d : ℕ) × (p d ≡ false) × (take (run p cs + 1) cs ≡ take (run p cs) cs ++ d ∷ [])) → (b : Bool) → p c ≡ b → (d : ℕ) × (p d ≡ false) × (take (run p (c ∷ cs) + 1) (c ∷ cs) ≡ take (run p (c ∷ cs)) (c ∷ cs) ++ d ∷ [])
next_by p c cs l f true e =
    let r = run_in p c cs e in
    let q = f (omega arith) in
    (q.0, q.1, ap (λ n. take n (c ∷ cs)) (let z : run p (c ∷ cs) + 1 ≡ suc (run p cs + 1) = omega arith in z) ∙ ap (λ (x : List ℕ). c ∷ x) q.2 ∙ ap (λ n. take n (c ∷ cs) ++ q.0 ∷ []) (sym r))
next_by p c cs l f false e =
    let r = run_out p c cs e in
    (c, e, ap (λ n. take (n + 1) (c ∷ cs)) r ∙ ap (λ n. take n (c ∷ cs) ++ c ∷ []) (sym r))

pub run_next : (p : ℕ → Bool) (cs : List ℕ) → run p cs < length cs → (d : ℕ) × (p d ≡ false) × (take (run p cs + 1) cs ≡ take (run p cs) cs ++ d ∷ [])
run_next p [] l = absurd (omega arith)
run_next p (c ∷ cs) l = next_by p c cs l (run_next p cs) (p c) refl

-- ---- digits are bytes of words

pub digit_class : (a : Class) → is_digit_class a ≡ true → a ≡ Digit
digit_class Digit e = refl
digit_class Blank e = cc
digit_class Semicolon e = cc
digit_class Bracket e = cc
digit_class Dash e = cc
digit_class Letter e = cc
digit_class Percent e = cc
digit_class AtSign e = cc
digit_class Colon e = cc
digit_class Quote e = cc
digit_class Hash e = cc
digit_class Bang e = cc
digit_class Other e = cc

pub digits_in_word : (cs : List ℕ) → run digit_byte cs ≤ run word_byte cs
digits_in_word = run_wider digit_byte word_byte (λ c e. ap is_word_class (digit_class (class_of c) e))

digits_begin_by : (c : ℕ) (cs : List ℕ) → 0 < run digit_byte (c ∷ cs) → (b : Bool) → digit_byte c ≡ b → class_of c ≡ Digit
digits_begin_by c cs l true e = digit_class (class_of c) e
digits_begin_by c cs l false e = let r = run_out digit_byte c cs e in absurd (omega arith)

pub digits_begin : (cs : List ℕ) → 0 < run digit_byte cs → class_at cs ≡ Digit
digits_begin [] l = absurd (omega arith)
digits_begin (c ∷ cs) l = digits_begin_by c cs l (digit_byte c) refl

pub is_digits : (ds : List ℕ) → 0 < length ds → every digit_byte ds ≡ true → IsDigits ds
is_digits [] l h = absurd (omega arith)
is_digits (d ∷ ds) l h = let e = every_first digit_byte d ds h in (d, ds, refl, digit_class (class_of d) e.0, e.1)

pub digits_some : (ds : List ℕ) → IsDigits ds → 0 < length ds
digits_some ds r = let l = ap length r.2 in omega arith

pub digits_every : (w : List ℕ) → IsDigits w → every digit_byte w ≡ true
digits_every w r = ap (every digit_byte) r.2 ∙ every_more digit_byte r.0 r.1 (ap is_digit_class r.3) r.4

-- what a number's tail is
tail_by : (cs : List ℕ) (b : Bool) → nat_lt 0 (run digit_byte cs) ≡ b → is_number_tail cs ≡ true → (0 < run digit_byte cs) × (run digit_byte cs ≡ run word_byte cs)
tail_by cs true e h = (ltb-true 0 (run digit_byte cs) e, eqb-true (run digit_byte cs) (run word_byte cs) (sym (ap (λ (b : Bool). cond b (run digit_byte cs == run word_byte cs) false) e) ∙ h))
tail_by cs false e h = let f : false ≡ true = sym (ap (λ (b : Bool). cond b (run digit_byte cs == run word_byte cs) false) e) ∙ h in absurd (cc)

pub tail_true : (cs : List ℕ) → is_number_tail cs ≡ true → (0 < run digit_byte cs) × (run digit_byte cs ≡ run word_byte cs)
tail_true cs h = tail_by cs (nat_lt 0 (run digit_byte cs)) refl h

pub tail_made : (cs : List ℕ) → 0 < run digit_byte cs → run digit_byte cs ≡ run word_byte cs → is_number_tail cs ≡ true
tail_made cs l e = ap (λ (b : Bool). cond b (run digit_byte cs == run word_byte cs) false) (lt-ltb 0 (run digit_byte cs) l) ∙ eq-eqb (run digit_byte cs) (run word_byte cs) e

pub tail_less : (cs : List ℕ) → 0 < run digit_byte cs → is_number_tail cs ≡ false → run digit_byte cs < run word_byte cs
tail_less cs l e =
    let w = digits_in_word cs in
    let n : run digit_byte cs ≡ run word_byte cs → ⊥ = λ h. let f : true ≡ false = sym (tail_made cs l h) ∙ e in cc in
    omega arith

-- ---- the first byte of a piece, and what comes behind it

pub led_tail : (first : Class) (Shape : List ℕ → Type 0) (c : ℕ) (cs ys rest : List ℕ) (r : Led first Shape ys) → c ∷ cs ≡ ys ++ rest → (class_of c ≡ first) × (cs ≡ r.1 ++ rest) × (length ys ≡ suc (length r.1))
led_tail first Shape c cs ys rest r e =
    let f : c ∷ cs ≡ r.0 ∷ (r.1 ++ rest) = e ∙ ap (λ (l : List ℕ). l ++ rest) r.2 in
    let h : c ≡ r.0 = cc in
    let t : cs ≡ r.1 ++ rest = cc in
    (ap class_of h ∙ r.3, t, ap length r.2)

pub single : (first : Class) (c : ℕ) (cs ys rest : List ℕ) → Led first Nothing ys → c ∷ cs ≡ ys ++ rest → (class_of c ≡ first) × (length ys ≡ 1)
single first c cs ys rest r e = let t = led_tail first Nothing c cs ys rest r e in (t.0, t.2 ∙ ap (λ l. suc (length l)) r.4)

pub led_bound : (first : Class) (p : ℕ → Bool) (c : ℕ) (cs ys rest : List ℕ) → Led first (Each p) ys → c ∷ cs ≡ ys ++ rest → (class_of c ≡ first) × (length ys ≤ run p cs + 1)
led_bound first p c cs ys rest r e =
    let t = led_tail first (Each p) c cs ys rest r e in
    let b = run_bound p r.1 rest r.4 in
    let t2 = t.2 in
    (t.0, subst (λ l. length ys ≤ run p l + 1) (sym t.1) (omega arith))

-- a run that a colon ends
pub led_ended : (first : Class) (p : ℕ → Bool) (c d : ℕ) (cs w rest : List ℕ) → Led first (Each p) w → c ∷ cs ≡ w ++ d ∷ rest → p d ≡ false → (class_of c ≡ first) × (length w ≡ run p cs + 1) × (class_at (drop (run p cs) cs) ≡ class_of d)
led_ended first p c d cs w rest r e k =
    let t = led_tail first (Each p) c cs w (d ∷ rest) r e in
    let q = run_ended p d r.1 rest r.4 k in
    (t.0, subst (λ x. length w ≡ run p x + 1) (sym t.1) (let t2 = t.2 in let q0 = q.0 in omega arith), ap (λ x. class_at (drop (run p x) x)) t.1 ∙ q.1)

pub take_one : (m : ℕ) (c : ℕ) (cs : List ℕ) → take (m + 1) (c ∷ cs) ≡ c ∷ take m cs
take_one m c cs = ap (λ n. take n (c ∷ cs)) (let k : m + 1 ≡ suc m = omega arith in k)

pub run_led : (first : Class) (p : ℕ → Bool) (c : ℕ) (cs : List ℕ) → class_of c ≡ first → Led first (Each p) (take (run p cs + 1) (c ∷ cs))
run_led first p c cs e = (c, take (run p cs) cs, take_one (run p cs) c cs, e, run_every p cs)

pub led_class : (first : Class) (Shape : List ℕ → Type 0) (c : ℕ) (cs xs : List ℕ) → Led first Shape xs → xs ≡ c ∷ cs → class_of c ≡ first
led_class first Shape c cs xs r e = let f : c ∷ cs ≡ r.0 ∷ r.1 = sym e ∙ r.2 in let h : c ≡ r.0 = cc in ap class_of h ∙ r.3

pub led_rest : (first : Class) (Shape : List ℕ → Type 0) (c : ℕ) (cs xs : List ℕ) → Led first Shape xs → xs ≡ c ∷ cs → Shape cs
led_rest first Shape c cs xs r e = let f : c ∷ cs ≡ r.0 ∷ r.1 = sym e ∙ r.2 in let h : r.1 ≡ cs = cc in subst Shape h r.4

-- ---- a run, byte by byte

pub run_more : (p : ℕ → Bool) (n : ℕ) (text : List ℕ) → n < length text → p (get_or text n 0) ≡ true → run p (drop n text) ≡ 1 + run p (drop (n + 1) text)
run_more p n text l e =
    let s : suc n ≡ n + 1 = omega arith in
    ap (run p) (drop-cons text n 0 l) ∙ run_in p (get_or text n 0) (drop (suc n) text) e ∙ (let z : suc (run p (drop (suc n) text)) ≡ 1 + run p (drop (suc n) text) = omega arith in z) ∙ ap (λ m. 1 + run p (drop m text)) s

pub run_done : (p : ℕ → Bool) (n : ℕ) (text : List ℕ) → n < length text → p (get_or text n 0) ≡ false → run p (drop n text) ≡ 0
run_done p n text l e = ap (run p) (drop-cons text n 0 l) ∙ run_out p (get_or text n 0) (drop (suc n) text) e

pub run_past : (p : ℕ → Bool) (n : ℕ) (text : List ℕ) → length text ≤ n → run p (drop n text) ≡ 0
run_past p n text l = ap (run p) (drop_all n text l)

pub run_whole : (p : ℕ → Bool) (text : List ℕ) → ((k : ℕ) → k < length text → p (get_or text k 0) ≡ true) → run p text ≡ length text
run_whole p [] h = refl
run_whole p (c ∷ cs) h = run_in p c cs (h 0 (omega arith)) ∙ ap suc (run_whole p cs (λ k l. h (suc k) (omega arith)))

pub run_up_to : (p : ℕ → Bool) (n : ℕ) (text : List ℕ) → n < length text → ((k : ℕ) → k < n → p (get_or text k 0) ≡ true) → p (get_or text n 0) ≡ false → run p text ≡ n
run_up_to p n [] l h e = absurd (omega arith)
run_up_to p zero (c ∷ cs) l h e = run_out p c cs e
run_up_to p (suc n) (c ∷ cs) l h e = run_in p c cs (h 0 (omega arith)) ∙ ap suc (run_up_to p n cs (omega arith) (λ k m. h (suc k) (omega arith)) e)

pub class_here : (n : ℕ) (text : List ℕ) → n < length text → class_at (drop n text) ≡ class_of (get_or text n 0)
class_here n text l = ap class_at (drop-cons text n 0 l)
