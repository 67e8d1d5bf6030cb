-- Quoted names and strings: the escapes of a string of bytes spell the string.
use Rattle.std.proofs.Common.{◌≡◌, ℕ, zero, suc, ◌+◌, ◌-◌, ◌*◌, ◌/◌, ◌%◌, ◌≤◌, ◌<◌, List, [], ◌∷◌, ◌++◌, length, take, drop, Bool, true, false, cond, ◌&&◌, ◌==◌, nat_lt, if◌then◌else◌, refl, sym, ap, ◌∙◌, subst, arith, length-append, take_at}
use Rattle.std.specs.List.{flat_map}
use Rattle.std.proofs.lemmas.Bool.{eqb-true, ltb-true, ltb-false, lt-ltb}
use Rattle.ir_core.specs.Bytes.{between, hex_byte, no_quote, every}
use Rattle.ir_core.specs.Escapes.{hex_value, unescaped, quoted_bytes, stem_name}
use Rattle.ir_core.specs.Formed.{is_byte}
use Rattle.ir_core.specs.Numbers.{begins_with}
use Rattle.ir_core.specs.Text.{hex_digit, is_plain_byte, escaped, quoted, name_text, is_word}
use Rattle.ir_core.proofs.Runs.{by_test, if_true, if_false, every_first, every_more, every_append, every_taken}
use Rattle.text_laws.specs.Spelling.{AreBytes}

-- ---- hexadecimal digits

abbrev is_fine_digit : ℕ → ℕ → Bool
is_fine_digit n d = if hex_byte d then (if hex_value d == n then (if d == 92 then false else if no_quote d then is_byte d else false) else false) else false

digit_fine : (n : ℕ) → n < 16 → is_fine_digit n (hex_digit n) ≡ true
digit_fine zero h = refl
digit_fine (suc zero) h = refl
digit_fine (suc (suc zero)) h = refl
digit_fine (suc (suc (suc zero))) h = refl
digit_fine (suc (suc (suc (suc zero)))) h = refl
digit_fine (suc (suc (suc (suc (suc zero))))) h = refl
digit_fine (suc (suc (suc (suc (suc (suc zero)))))) h = refl
digit_fine (suc (suc (suc (suc (suc (suc (suc zero))))))) h = refl
digit_fine (suc (suc (suc (suc (suc (suc (suc (suc zero)))))))) h = refl
digit_fine (suc (suc (suc (suc (suc (suc (suc (suc (suc zero))))))))) h = refl
digit_fine (suc (suc (suc (suc (suc (suc (suc (suc (suc (suc zero)))))))))) h = refl
digit_fine (suc (suc (suc (suc (suc (suc (suc (suc (suc (suc (suc zero))))))))))) h = refl
digit_fine (suc (suc (suc (suc (suc (suc (suc (suc (suc (suc (suc (suc zero)))))))))))) h = refl
digit_fine (suc (suc (suc (suc (suc (suc (suc (suc (suc (suc (suc (suc (suc zero))))))))))))) h = refl
digit_fine (suc (suc (suc (suc (suc (suc (suc (suc (suc (suc (suc (suc (suc (suc zero)))))))))))))) h = refl
digit_fine (suc (suc (suc (suc (suc (suc (suc (suc (suc (suc (suc (suc (suc (suc (suc zero))))))))))))))) h = refl
digit_fine (suc (suc (suc (suc (suc (suc (suc (suc (suc (suc (suc (suc (suc (suc (suc (suc n)))))))))))))))) h = absurd (omega arith)

-- a test of which the second answer is false
pub both : (b x : Bool) → cond b x false ≡ true → (b ≡ true) × (x ≡ true)
both true x e = (refl, e)
both false x e = absurd (let f : false ≡ true = e in cc)

-- a test of which the first answer is false
pub neither : (b x : Bool) → cond b false x ≡ true → (b ≡ false) × (x ≡ true)
neither true x e = absurd (let f : false ≡ true = e in cc)
neither false x e = (refl, e)

pub record HexDigit (n d : ℕ) : Type 0 where
  pub hex : hex_byte d ≡ true
  pub value : hex_value d ≡ n
  pub plain : (d == 92) ≡ false
  pub inner : no_quote d ≡ true
  pub byte : is_byte d ≡ true

hex_of : (n : ℕ) → n < 16 → HexDigit n (hex_digit n)
hex_of n h =
    let d = hex_digit n in
    let a = both (hex_byte d) _ (digit_fine n h) in
    let b = both (hex_value d == n) _ a.1 in
    let c = neither (d == 92) _ b.1 in
    let e = both (no_quote d) _ c.1 in
    record { hex = a.0; value = eqb-true (hex_value d) n b.0; plain = c.0; inner = e.0; byte = e.1 }

-- ---- what the escapes spell

-- a byte that is no backslash stands for itself
unescaped_plain : (c : ℕ) (ys : List ℕ) → (c == 92) ≡ false → unescaped (c ∷ ys) ≡ c ∷ unescaped ys
unescaped_plain c [] e = refl
unescaped_plain c (d ∷ []) e = ap (λ b. cond (b && (d == 92)) (92 ∷ []) (c ∷ d ∷ [])) e
unescaped_plain c (d ∷ f ∷ rest) e = if_false (c == 92) _ _ e

unescaped_hex : (n m d e : ℕ) (rest : List ℕ) → HexDigit n d → HexDigit m e → unescaped (92 ∷ d ∷ e ∷ rest) ≡ (16 * n + m) ∷ unescaped rest
unescaped_hex n m d e rest h k =
    if_false (d == 92) _ _ h.plain
    ∙ ap (λ b. cond (b && hex_byte e) ((16 * hex_value d + hex_value e) ∷ unescaped rest) (92 ∷ unescaped (d ∷ e ∷ rest))) h.hex
    ∙ ap (λ b. cond b ((16 * hex_value d + hex_value e) ∷ unescaped rest) (92 ∷ unescaped (d ∷ e ∷ rest))) k.hex
    ∙ ap (λ x. (16 * x + hex_value e) ∷ unescaped rest) h.value
    ∙ ap (λ x. (16 * n + x) ∷ unescaped rest) k.value

-- what the text of one byte shows
pub record Escapes (c : ℕ) (ys : List ℕ) : Type 0 where
  pub back : (rest : List ℕ) → unescaped (ys ++ rest) ≡ c ∷ unescaped rest
  pub inner : every no_quote ys ≡ true
  pub bytes : AreBytes ys

escapes : (c : ℕ) → c < 256 → Escapes c (escaped c)
escapes c l = by_test (is_plain_byte c) (λ e. subst (Escapes c) (sym (if_true _ _ _ e)) (plain e)) (λ e. subst (Escapes c) (sym (if_false _ _ _ e)) hexed)
  where
    plain : is_plain_byte c ≡ true → Escapes c (c ∷ [])
    plain e =
        let a = neither (c == 34) _ e in
        let b = neither (c == 92) _ a.1 in
        record { back = λ rest. unescaped_plain c rest b.0; inner = every_more no_quote c [] (if_false (c == 34) false true a.0) refl; bytes = every_more is_byte c [] (lt-ltb c 256 l) refl }

    hexed : Escapes c (92 ∷ hex_digit (c / 16) ∷ hex_digit (c % 16) ∷ [])
    hexed =
        let h = hex_of (c / 16) (omega arith) in
        let k = hex_of (c % 16) (omega arith) in
        let d = hex_digit (c / 16) in
        let e = hex_digit (c % 16) in
        record {
          back = λ rest. unescaped_hex (c / 16) (c % 16) d e rest h k ∙ ap (λ x. x ∷ unescaped rest) (let z : 16 * (c / 16) + c % 16 ≡ c = omega arith in z);
          inner = every_more no_quote d (e ∷ []) h.inner (every_more no_quote e [] k.inner refl);
          bytes = every_more is_byte d (e ∷ []) h.byte (every_more is_byte e [] k.byte refl);
        }

is_below : (c : ℕ) → is_byte c ≡ true → c < 256
is_below c h = ltb-true c 256 h

pub escaped_back : (x : List ℕ) → every is_byte x ≡ true → unescaped (flat_map escaped x) ≡ x
escaped_back [] h = refl
escaped_back (c ∷ cs) h =
    let e = every_first is_byte c cs h in
    (escapes c (is_below c e.0)).back (flat_map escaped cs) ∙ ap (λ (l : List ℕ). c ∷ l) (escaped_back cs e.1)

pub escaped_inner : (x : List ℕ) → every is_byte x ≡ true → every no_quote (flat_map escaped x) ≡ true
escaped_inner [] h = refl
escaped_inner (c ∷ cs) h =
    let e = every_first is_byte c cs h in
    every_append no_quote (escaped c) (flat_map escaped cs) (escapes c (is_below c e.0)).inner (escaped_inner cs e.1)

-- so does the text in quotes
pub quoted_text_bytes : (x : List ℕ) → AreBytes x → AreBytes (quoted x)
quoted_text_bytes x h = every_append is_byte (flat_map escaped x) (34 ∷ []) (inner x h) refl
  where
    inner : (x : List ℕ) → AreBytes x → AreBytes (flat_map escaped x)
    inner [] h = refl
    inner (c ∷ cs) h =
        let e = every_first is_byte c cs h in
        every_append is_byte (escaped c) (flat_map escaped cs) (escapes c (is_below c e.0)).bytes (inner cs e.1)

pub name_text_bytes : (x : List ℕ) → AreBytes x → AreBytes (name_text x)
name_text_bytes x h = by (is_word x)
  where
    by : (b : Bool) → AreBytes (cond b x (quoted x))
    by true = h
    by false = quoted_text_bytes x h

pub quoted_back : (x : List ℕ) → every is_byte x ≡ true → quoted_bytes (quoted x) ≡ x
quoted_back x h =
    let q = flat_map escaped x in
    let l : length (q ++ 34 ∷ []) ≡ length q + 1 = length-append q (34 ∷ []) in
    ap (λ n. unescaped (take n (q ++ 34 ∷ []))) (let z : suc (length (q ++ 34 ∷ [])) - 2 ≡ length q = omega arith in z)
    ∙ ap unescaped (take_at q (34 ∷ []) (length q) refl)
    ∙ escaped_back x h

-- ---- names are bytes

pub between_is : (low high c : ℕ) → between low high c ≡ true → (low ≤ c) × (c ≤ high)
between_is low high c h =
    let e = neither (nat_lt c low) (nat_lt c (high + 1)) h in
    let k = ltb-true c (high + 1) e.1 in
    (by_test (nat_lt c low) (λ f. let g : true ≡ false = sym f ∙ e.0 in absurd (cc)) (λ f. not_less f), omega arith)
  where
    not_less : nat_lt c low ≡ false → low ≤ c
    not_less f = ltb-false c low f

hex_small : (c : ℕ) → hex_byte c ≡ true → hex_value c ≤ 15
hex_small c h = by_test (between 48 57 c) (λ e. subst (λ n. n ≤ 15) (sym (if_true _ (c - 48) _ e)) (let b = between_is 48 57 c e in let b1 = b.1 in omega arith))
    (λ e. subst (λ n. n ≤ 15) (sym (if_false _ (c - 48) _ e)) (two (sym (if_false (between 48 57 c) true _ e) ∙ h)))
  where
    two : cond (between 97 102 c) true (between 65 70 c) ≡ true → cond (between 97 102 c) (c - 87) (c - 55) ≤ 15
    two k = by_test (between 97 102 c) (λ e. subst (λ n. n ≤ 15) (sym (if_true _ (c - 87) _ e)) (let b = between_is 97 102 c e in let b1 = b.1 in omega arith))
        (λ e. subst (λ n. n ≤ 15) (sym (if_false _ (c - 87) _ e)) (let b = between_is 65 70 c (sym (if_false (between 97 102 c) true _ e) ∙ k) in let b1 = b.1 in omega arith))

-- by the tests of one step
step_bytes : (b c d : Bool) (x y z w : List ℕ) → AreBytes x → (c ≡ false → d ≡ true → AreBytes y) → AreBytes z → AreBytes w → AreBytes (cond b (cond c x (cond d y z)) w)
step_bytes true true d x y z w h k l m = h
step_bytes true false true x y z w h k l m = k refl refl
step_bytes true false false x y z w h k l m = l
step_bytes false c d x y z w h k l m = m

and_both : (a b : Bool) → (a && b) ≡ true → (a ≡ true) × (b ≡ true)
and_both true b e = (refl, e)
and_both false b e = absurd (let f : false ≡ true = e in cc)

pub unescaped_bytes : (xs : List ℕ) → AreBytes xs → AreBytes (unescaped xs)
unescaped_bytes [] h = refl
unescaped_bytes (c ∷ []) h = h
unescaped_bytes (c ∷ d ∷ []) h = by ((c == 92) && (d == 92))
  where
    by : (b : Bool) → AreBytes (cond b (92 ∷ []) (c ∷ d ∷ []))
    by true = refl
    by false = h
unescaped_bytes (c ∷ d ∷ e ∷ rest) h =
    let h1 = every_first is_byte c (d ∷ e ∷ rest) h in
    let h2 = every_first is_byte d (e ∷ rest) h1.1 in
    let h3 = every_first is_byte e rest h2.1 in
    let r1 = unescaped_bytes rest h3.1 in
    let r2 = unescaped_bytes (e ∷ rest) h2.1 in
    let r3 = unescaped_bytes (d ∷ e ∷ rest) h1.1 in
    step_bytes (c == 92) (d == 92) (hex_byte d && hex_byte e) (92 ∷ unescaped (e ∷ rest)) ((16 * hex_value d + hex_value e) ∷ unescaped rest) (92 ∷ unescaped (d ∷ e ∷ rest)) (c ∷ unescaped (d ∷ e ∷ rest))
    (every_more is_byte 92 (unescaped (e ∷ rest)) refl r2)
    (λ f g. every_more is_byte (16 * hex_value d + hex_value e) (unescaped rest) (small (and_both (hex_byte d) (hex_byte e) g)) r1)
    (every_more is_byte 92 (unescaped (d ∷ e ∷ rest)) refl r3)
    (every_more is_byte c (unescaped (d ∷ e ∷ rest)) h1.0 r3)
  where
    small : (hex_byte d ≡ true) × (hex_byte e ≡ true) → is_byte (16 * hex_value d + hex_value e) ≡ true
    small g = let a = hex_small d g.0 in let b = hex_small e g.1 in lt-ltb (16 * hex_value d + hex_value e) 256 (omega arith)

every_dropped_one : (xs : List ℕ) → AreBytes xs → AreBytes (drop 1 xs)
every_dropped_one [] h = refl
every_dropped_one (x ∷ xs) h = (every_first is_byte x xs h).1

pub quoted_are_bytes : (xs : List ℕ) → AreBytes xs → AreBytes (quoted_bytes xs)
quoted_are_bytes xs h = unescaped_bytes (take (length xs - 2) (drop 1 xs)) (every_taken is_byte (length xs - 2) (drop 1 xs) (every_dropped_one xs h))

pub stem_bytes : (stem : List ℕ) → AreBytes stem → AreBytes (stem_name stem)
stem_bytes stem h = by (begins_with 34 stem)
  where
    by : (b : Bool) → AreBytes (cond b (quoted_bytes stem) stem)
    by true = quoted_are_bytes stem h
    by false = h
