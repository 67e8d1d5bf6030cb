-- Blanks at the end, from the end on.
use Rattle.std.proofs.Common.{◌≡◌, ℕ, suc, ◌+◌, ◌≤◌, ◌<◌, List, [], ◌∷◌, ◌++◌, length, take, get_or, true, false, cond, ap, ◌∙◌, arith, nat_lt, drop-cons, take-add}
use Rattle.std.proofs.lemmas.List.{length-take-le}
use Rattle.std.proofs.lemmas.Bool.{lt-ltb}
use Rattle.ir_core.specs.Bytes.{class_of}
use Rattle.ir_core.specs.Scan.{is_blank, trimmed}
use Rattle.ir_core.proofs.Runs.{if_true}

-- a blank more at the end changes nothing
blank_last : (xs : List ℕ) (c : ℕ) → is_blank (class_of c) ≡ true → trimmed (xs ++ c ∷ []) ≡ trimmed xs
blank_last [] c e = ap (λ h. cond h 0 1) e
blank_last (x ∷ xs) c e = ap (λ n. cond (nat_lt 0 n) (n + 1) (cond (is_blank (class_of x)) 0 1)) (blank_last xs c e)

-- another byte there keeps all
other_last : (xs : List ℕ) (c : ℕ) → is_blank (class_of c) ≡ false → trimmed (xs ++ c ∷ []) ≡ length xs + 1
other_last [] c e = ap (λ h. cond h 0 1) e ∙ (let z : 1 ≡ 0 + 1 = omega arith in z)
other_last (x ∷ xs) c e =
    ap (λ n. cond (nat_lt 0 n) (n + 1) (cond (is_blank (class_of x)) 0 1)) (other_last xs c e)
    ∙ if_true (nat_lt 0 (length xs + 1)) (length xs + 1 + 1) (cond (is_blank (class_of x)) 0 1) (lt-ltb 0 (length xs + 1) (omega arith))
    ∙ (let z : length xs + 1 + 1 ≡ suc (length xs) + 1 = omega arith in z)

-- the last of the first bytes
last_taken : (n : ℕ) (xs : List ℕ) → n < length xs → take (n + 1) xs ≡ take n xs ++ get_or xs n 0 ∷ []
last_taken n xs l = take-add n 1 xs ∙ ap (λ (y : List ℕ). take n xs ++ take 1 y) (drop-cons xs n 0 l)

pub trim_blank : (n m : ℕ) (xs : List ℕ) → n ≡ m + 1 → n ≤ length xs → is_blank (class_of (get_or xs m 0)) ≡ true → trimmed (take n xs) ≡ trimmed (take m xs)
trim_blank n m xs e l h = ap (λ k. trimmed (take k xs)) e ∙ ap trimmed (last_taken m xs (omega arith)) ∙ blank_last (take m xs) (get_or xs m 0) h

pub trim_other : (n m : ℕ) (xs : List ℕ) → n ≡ m + 1 → n ≤ length xs → is_blank (class_of (get_or xs m 0)) ≡ false → trimmed (take n xs) ≡ n
trim_other n m xs e l h =
    let t = length-take-le m xs (omega arith) in
    ap (λ k. trimmed (take k xs)) e ∙ ap trimmed (last_taken m xs (omega arith)) ∙ other_last (take m xs) (get_or xs m 0) h ∙ (let z : length (take m xs) + 1 ≡ n = omega arith in z)
