-- Operands: what spells an operand of a type is spelled by its canonical text.
use Rattle.std.proofs.Common.{◌≡◌, append_assoc, ℕ, zero, suc, ◌+◌, ◌-◌, ◌^◌, ◌≤◌, ◌<◌, List, [], ◌∷◌, Bool, true, false, cond, refl, sym, ap, ◌∙◌, subst, inl, inr, arith, codes, decimal, nat_lt, ◌==◌}
use Rattle.std.proofs.lemmas.Bool.{ltb-true, ltb-false, le-ltb, eqb-true}
use Rattle.std.proofs.lemmas.Fmt.{decimal_nonempty}
use Rattle.std.proofs.Math.Nat.{pow-le-pow_right, two-pow-succ}
use Rattle.ir_core.specs.declared.types.Ty.{Ty}
use Rattle.ir_core.specs.declared.types.Ty.TheVariants.{Int as IntTy}
use Rattle.ir_core.specs.declared.instructions.Value.{Value}
use Rattle.ir_core.specs.declared.instructions.Value.TheVariants.{Int as IntValue, Null, Local as Register, Global as GlobalValue}
use Rattle.ir_core.specs.declared.instructions.Typed.{Typed}
use Rattle.ir_core.specs.Tokens.{Word, Number, Lexeme}
use Rattle.ir_core.specs.Numbers.{is_negative, magnitude, fits, modulo, is_number_in_range, kept_at}
use Rattle.ir_core.specs.Spell.{one, IsWordIn, InTable}
use Rattle.ir_core.specs.Forms.{IsValue, truth_words, typed, target}
use Rattle.ir_core.specs.Text.{type_text, truth_text, signed_text, integer_text, number_text, value_text, typed_text, target_text}
use Rattle.ir_core.proofs.Runs.{by_test, if_true, if_false}
use Rattle.text_laws.specs.Spelling.{IsSpelled}
use Rattle.text_laws.proofs.Rows.{Bare, bare}
use Rattle.text_laws.proofs.Joined.{Gives, gives_word}
use Rattle.text_laws.proofs.Lexed.{minus_lexed}
use Rattle.text_laws.proofs.NumberTokens.{decimal_digits, plain_in_range, plain_fits, plain_kept, minus_in_range, minus_kept, small_mod}
use Rattle.text_laws.proofs.Spelled.{shows_in}
use Rattle.text_laws.proofs.Good.{good_then, good_done, good_one}
use Rattle.text_laws.proofs.Back.{Says, says_as, says_at, says_then, says_last, says_space, says_word}
use Rattle.text_laws.proofs.Names.{says_token, gives_local, gives_global, shows_local, shows_global, local_bytes, global_bytes, local_says}
use Rattle.text_laws.proofs.Types.{gives_decimal, Width, IsSized, int_sized, type_says, type_sized}

-- ---- powers

pow_some : (width : ℕ) → 0 < 2 ^ width
pow_some width = let two : 0 < 2 = omega arith in let l : 0 ≤ width = omega arith in let p : 2 ^ 0 ≤ 2 ^ width = pow-le-pow_right two l in omega arith

pow_most : (width : ℕ) → width ≤ 64 → 2 ^ width ≤ 2 ^ 64
pow_most width h = let two : 0 < 2 = omega arith in pow-le-pow_right two h

pow_half : (width : ℕ) → width ≤ 64 → 2 ^ (width - 1) ≤ 2 ^ 63
pow_half width h = let two : 0 < 2 = omega arith in let less : width - 1 ≤ 63 = omega arith in pow-le-pow_right two less

-- half of all the numbers of a width
pub half_of : (width : ℕ) → 0 < width → 2 ^ width ≡ 2 ^ (width - 1) + 2 ^ (width - 1)
half_of zero h = omega arith
half_of (suc k) h = let e : suc k - 1 ≡ k = omega arith in rw e (two-pow-succ k)

-- ---- how numbers are printed

-- a word for a truth value, or a number token that is kept as the number
pub data Shown (ty : Ty) (n : ℕ) : Type 0 where
  truth : (w : List ℕ) → number_text ty n ≡ w → Gives w (bare Word w ∷ []) → InTable truth_words w n → Shown ty n
  digits : (bytes : List ℕ) → number_text ty n ≡ bytes → Gives bytes (bare Number bytes ∷ []) → is_number_in_range bytes ≡ true → kept_at ty bytes ≡ n → Shown ty n

truth_shown : (width n : ℕ) → width ≡ 1 → n < 2 ^ width → integer_text width n ≡ truth_text n → Shown (IntTy width) n
truth_shown width n e l k = by n (subst (λ w. n < 2 ^ w) e l) k refl
  where
    by : (m : ℕ) → m < 2 → integer_text width n ≡ truth_text m → n ≡ m → Shown (IntTy width) n
    by zero h k q = truth (codes "false") k (gives_word (codes "false") refl) (inr (inl (refl, q)))
    by (suc zero) h k q = truth (codes "true") k (gives_word (codes "true") refl) (inl (refl, q))
    by (suc (suc m)) h k q = absurd (omega arith)

-- a number of its width other than i1
wide_shown : (width n : ℕ) → Width width → integer_text width n ≡ signed_text width n → n < 2 ^ width → Shown (IntTy width) n
wide_shown width n w k l = by_test (nat_lt n (2 ^ (width - 1))) low high
  where
    low : nat_lt n (2 ^ (width - 1)) ≡ true → Shown (IntTy width) n
    low e =
        let m = w.most in
        let p = pow_most width m in
        let s : n < 2 ^ 64 = omega arith in
        digits (decimal n) (k ∙ if_true _ _ _ e) (gives_decimal n s) (plain_in_range n s) (plain_kept width n s l)

    high : nat_lt n (2 ^ (width - 1)) ≡ false → Shown (IntTy width) n
    high e =
        let m = w.most in
        let s = w.some in
        let p = pow_half width m in
        let half = half_of width s in
        let above = ltb-false n (2 ^ (width - 1)) e in
        let d = 2 ^ width - n in
        let small : d < 2 ^ 64 = omega arith in
        digits (45 ∷ decimal d) (k ∙ if_false _ _ _ e) (record { before = λ q rest ms f r. minus_lexed q (decimal d) rest ms (decimal_nonempty d small) (decimal_digits d small) f r }) (minus_in_range d (omega arith))
        (minus_kept width d small (omega arith) (omega arith) (pow_some width) ∙ (let z : 2 ^ width - d ≡ n = omega arith in z))

-- a number that is not of its width
large_shown : (width n : ℕ) → 2 ^ width ≤ n → n < 2 ^ 64 → Shown (IntTy width) n
large_shown width n h s =
    let e = plain_fits n s in
    let f : fits width (is_negative (decimal n)) (magnitude (decimal n)) ≡ false = ap (λ b. fits width b (magnitude (decimal n))) e.0 ∙ ap (fits width false) e.1 ∙ le-ltb n (2 ^ width) h in
    digits (decimal n) (if_false _ _ _ (le-ltb n (2 ^ width) h)) (gives_decimal n s) (plain_in_range n s)
    (if_false _ _ _ f ∙ ap (λ b. modulo 64 b (magnitude (decimal n))) e.0 ∙ ap (modulo 64 false) e.1 ∙ small_mod n (2 ^ 64) s)

-- a number where no integer stands
other_kept : (n : ℕ) → n < 2 ^ 64 → modulo 64 (is_negative (decimal n)) (magnitude (decimal n)) ≡ n
other_kept n s = let e = plain_fits n s in ap (λ b. modulo 64 b (magnitude (decimal n))) e.0 ∙ ap (modulo 64 false) e.1 ∙ small_mod n (2 ^ 64) s

integer_shown : (width n : ℕ) → Width width → n < 2 ^ 64 → Shown (IntTy width) n
integer_shown width n w s = by_test (nat_lt n (2 ^ width)) inside (λ e. large_shown width n (ltb-false n (2 ^ width) e) s)
  where
    inside : nat_lt n (2 ^ width) ≡ true → Shown (IntTy width) n
    inside e =
        let l = ltb-true n (2 ^ width) e in
        by_test (width == 1)
        (λ f. truth_shown width n (eqb-true width 1 f) l (if_true _ _ _ e ∙ if_true _ _ _ f))
        (λ f. wide_shown width n w (if_true _ _ _ e ∙ if_false _ _ _ f) l)

shown : (ty : Ty) (n : ℕ) → IsSized ty → n < 2 ^ 64 → Shown ty n
shown (IntTy width) n h s = integer_shown width n (int_sized width h) s
shown _ n h s = digits (decimal n) refl (gives_decimal n s) (plain_in_range n s) (other_kept n s)

number_by : (ty : Ty) (n : ℕ) → Shown ty n → Says (number_text ty n) (one (IsValue ty)) (IntValue n)
number_by ty n (truth w e g h) = subst (λ x. Says x (one (IsValue ty)) (IntValue n)) (sym e) (says_token g (λ t k. let r = shows_in truth_words w n h t k in (IntValue n, inr (subst (IsWordIn truth_words t) r.2 r.1), refl)))
number_by ty n (digits bytes e g r k) = subst (λ x. Says x (one (IsValue ty)) (IntValue n)) (sym e) (says_token g (λ t f.
    let b = ap (λ (b : Bare). b.bytes) f in
    (IntValue n, inl (ap (λ (b : Bare). b.kind) f, ap is_number_in_range b ∙ r, ap (kept_at ty) b ∙ k), refl)))

pub number_says : (ty : Ty) (n : ℕ) → IsSized ty → n < 2 ^ 64 → Says (number_text ty n) (one (IsValue ty)) (IntValue n)
number_says ty n h s = number_by ty n (shown ty n h s)

-- ---- numbers are below 2 ^ 64

modulo_small : (width : ℕ) (negative : Bool) (m : ℕ) → width ≤ 64 → modulo width negative m < 2 ^ 64
modulo_small width true m h = let p = pow_most width h in let s = pow_some width in omega arith
modulo_small width false m h = let p = pow_most width h in let s = pow_some width in omega arith

kept_by : (width : ℕ) (b negative : Bool) (m : ℕ) → width ≤ 64 → cond b (modulo width negative m) (modulo 64 negative m) < 2 ^ 64
kept_by width true negative m h = modulo_small width negative m h
kept_by width false negative m h = modulo_small 64 negative m (omega arith)

kept_small : (ty : Ty) (bytes : List ℕ) → IsSized ty → kept_at ty bytes < 2 ^ 64
kept_small (IntTy width) bytes h = kept_by width (fits width (is_negative bytes) (magnitude bytes)) (is_negative bytes) (magnitude bytes) (int_sized width h).most
kept_small _ bytes h = modulo_small 64 (is_negative bytes) (magnitude bytes) (omega arith)

truth_small : (w : List ℕ) (n : ℕ) → InTable truth_words w n → n < 2 ^ 64
truth_small w n (inl h) = let e = h.1 in omega arith
truth_small w n (inr (inl h)) = let e = h.1 in omega arith
truth_small w n (inr (inr h)) = absurd h

pub number_small : (ty : Ty) (t : Lexeme) (n : ℕ) → IsSized ty → IsValue ty t (IntValue n) → n < 2 ^ 64
number_small ty t n s (inl h) = subst (λ x. x < 2 ^ 64) h.2 (kept_small ty t.bytes s)
number_small ty t n s (inr h) = truth_small t.bytes n h.1

-- ---- operands

pub value_says : (ty : Ty) (v : Value) → IsSized ty → IsSpelled (one (IsValue ty)) v → Says (value_text ty v) (one (IsValue ty)) v
value_says ty (IntValue n) s g = let t = good_one g in number_says ty n s (number_small ty t.token n s t.is)
value_says ty Null s g = says_token (gives_word (codes "null") refl) (λ t e. (Null, (ap (λ (b : Bare). b.kind) e, ap (λ (b : Bare). b.bytes) e, refl), refl))
value_says ty (Register x) s g =
    let t = good_one g in
    let b = local_bytes (record { token = t.token; fine = t.fine; is = t.is }) in
    says_token (gives_local x b) (λ u e. let r = shows_local x b u e in (Register r.0, r.1, ap Register r.2))
value_says ty (GlobalValue x) s g =
    let t = good_one g in
    let b = global_bytes (record { token = t.token; fine = t.fine; is = t.is }) in
    says_token (gives_global x b) (λ u e. let r = shows_global x b u e in (GlobalValue r.0, r.1, ap GlobalValue r.2))

pub typed_says : (v : Typed) → IsSpelled typed v → Says (typed_text v) typed v
typed_says v g =
    let a = good_then g in
    let b = good_then a.rest in
    says_at typed_text typed (good_done b.rest)
    (says_as typed (record { ty = a.value; value = b.value }) (sym (append_assoc (type_text a.value) (codes " ") (value_text a.value b.value)))
    (says_then a (type_says a.value a.front) (λ rest e. refl) (says_space (says_last (λ x. record { ty = a.value; value = x }) (value_says a.value b.value (type_sized a.value a.front) b.front)))))

pub target_says : (b : List ℕ) → IsSpelled target b → Says (target_text b) target b
target_says b g = let a = good_then g in says_word (codes "label") refl (λ rest e. refl) (says_space (local_says b a.rest))
