-- The longest front so far, and with what comes behind it.
use Rattle.std.proofs.Common.{◌≡◌, ℕ, zero, suc, ◌+◌, ◌≤◌, ◌<◌, List, length, drop, get_or, Bool, true, false, cond, refl, sym, ap, ◌∙◌, arith, ◌==◌, nat_lt, drop-cons}
use Rattle.std.proofs.lemmas.List.{drop_all}
use Rattle.std.proofs.lemmas.Bool.{eqb-true, lt-ltb}
use Rattle.ir_core.specs.Scan.{Literal, Neither, literal_step, longest}
use Rattle.ir_core.proofs.Runs.{by_test, if_false}
use Rattle.ir_core.proofs.Literals.{longest_lost}

-- size is that of the longest of the first n bytes, and m is what comes behind them
abbrev pub with_rest : ℕ → ℕ → ℕ → ℕ
with_rest n size m = cond (m == 0) size (n + m)

not_zero : (m : ℕ) → 0 < m → (m == 0) ≡ false
not_zero m l = by_test (m == 0) (λ e. let k = eqb-true m 0 e in absurd (omega arith)) (λ e. e)

one_byte : (n size m : ℕ) (h : Bool) → with_rest n size (cond (nat_lt 0 m) (m + 1) (cond h 1 0)) ≡ with_rest (n + 1) (cond h (n + 1) size) m
one_byte n size zero true = refl
one_byte n size zero false = refl
one_byte n size (suc m) h =
    ap (λ b. with_rest n size (cond b (suc m + 1) (cond h 1 0))) (lt-ltb 0 (suc m) (omega arith))
    ∙ if_false (suc m + 1 == 0) size (n + (suc m + 1)) (not_zero (suc m + 1) (omega arith))
    ∙ (let z : n + (suc m + 1) ≡ n + 1 + suc m = omega arith in z)
    ∙ sym (if_false (suc m == 0) (cond h (n + 1) size) (n + 1 + suc m) (not_zero (suc m) (omega arith)))

pub longest_more : (p : Literal → Bool) (q : Literal) (n size : ℕ) (text : List ℕ) → n < length text → with_rest n size (longest p q (drop n text)) ≡ with_rest (n + 1) (cond (p (literal_step q (get_or text n 0))) (n + 1) size) (longest p (literal_step q (get_or text n 0)) (drop (n + 1) text))
longest_more p q n size text l =
    let s : suc n ≡ n + 1 = omega arith in
    ap (λ (x : List ℕ). with_rest n size (longest p q x)) (drop-cons text n 0 l)
    ∙ one_byte n size (longest p (literal_step q (get_or text n 0)) (drop (suc n) text)) (p (literal_step q (get_or text n 0)))
    ∙ ap (λ m. with_rest (n + 1) (cond (p (literal_step q (get_or text n 0))) (n + 1) size) (longest p (literal_step q (get_or text n 0)) (drop m text))) s

-- nothing more, since the text ends or the literal does
pub longest_end : (p : Literal → Bool) (q : Literal) (n size : ℕ) (text : List ℕ) → length text ≤ n → with_rest n size (longest p q (drop n text)) ≡ size
longest_end p q n size text l = ap (λ (x : List ℕ). with_rest n size (longest p q x)) (drop_all n text l)

pub longest_over : (p : Literal → Bool) (q : Literal) (n size : ℕ) (text : List ℕ) → p Neither ≡ false → q ≡ Neither → with_rest n size (longest p q (drop n text)) ≡ size
longest_over p q n size text f e = ap (λ r. with_rest n size (longest p r (drop n text))) e ∙ ap (with_rest n size) (longest_lost p f (drop n text))
