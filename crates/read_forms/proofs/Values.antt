-- The tests of an operand are exact.
use Rattle.std.proofs.Common.{◌≡◌, ℕ, List, [], drop, Option, Some, None, cond, refl, sym, ap, ◌∙◌, subst, inl, inr}
use Rattle.ir_core.specs.declared.types.Ty.{Ty}
use Rattle.ir_core.specs.declared.instructions.Value.{Value}
use Rattle.ir_core.specs.declared.instructions.Value.TheVariants.{Int as IntValue, Null, Local as Register, Global as GlobalValue}
use Rattle.ir_core.specs.Tokens.{Lexeme, TokenKind, Word, Local, Global, Number}
use Rattle.ir_core.specs.Spell.{InTable, IsWordIn, one}
use Rattle.ir_core.specs.Escapes.{stem_name}
use Rattle.ir_core.specs.Numbers.{is_number_in_range, kept_at}
use Rattle.ir_core.specs.Forms.{IsValue, truth_words}
use Rattle.read_forms.specs.Operands.{literals, as_number, value_by, as_value}
use Rattle.read_forms.proofs.Readers.{Tests, Begins, one_begins}
use Rattle.read_forms.proofs.TokenTests.{chosen_some, some_is, look_found, look_only}

-- a literal is spelled by its word
literal_is : (ty : Ty) (t : Lexeme) (v : Value) → t.kind ≡ Word → InTable literals t.bytes v → IsValue ty t v
literal_is ty t v k (inl p) = subst (IsValue ty t) (sym p.1) (inr (k, inl (p.0, refl)))
literal_is ty t v k (inr (inl p)) = subst (IsValue ty t) (sym p.1) (inr (k, inr (inl (p.0, refl))))
literal_is ty t v k (inr (inr (inl p))) = subst (IsValue ty t) (sym p.1) (k, p.0, refl)
literal_is ty t v k (inr (inr (inr p))) = absurd p

truth_is_literal : (word : List ℕ) (n : ℕ) → InTable truth_words word n → InTable literals word (IntValue n)
truth_is_literal word n (inl p) = inl (p.0, ap IntValue p.1)
truth_is_literal word n (inr (inl p)) = inr (inl (p.0, ap IntValue p.1))
truth_is_literal word n (inr (inr p)) = absurd p

number_found : (ty : Ty) (t : Lexeme) (v : Value) → t.kind ≡ Number → as_number ty t.bytes ≡ Some v → IsValue ty t v
number_found ty t v k e =
    let c = chosen_some (is_number_in_range t.bytes) (Some (IntValue (kept_at ty t.bytes))) v e in
    subst (IsValue ty t) (some_is (IntValue (kept_at ty t.bytes)) v c.1) (inl (k, c.0, refl))

value_found_by : (ty : Ty) (t : Lexeme) (v : Value) (kind : TokenKind) → t.kind ≡ kind → value_by ty t.bytes kind ≡ Some v → IsValue ty t v
value_found_by ty t v Number k e = number_found ty t v k e
value_found_by ty t v Word k e = literal_is ty t v k (look_found literals t.bytes v e)
value_found_by ty t v Local k e = subst (IsValue ty t) (some_is (Register (stem_name (drop 1 t.bytes))) v e) (k, refl)
value_found_by ty t v Global k e = subst (IsValue ty t) (some_is (GlobalValue (stem_name (drop 1 t.bytes))) v e) (k, refl)
value_found_by ty t v _ k e = absurd (let f : ◌≡◌ {A = Option Value} None (Some v) = e in cc)

by_kind : (ty : Ty) (t : Lexeme) (kind : TokenKind) → t.kind ≡ kind → as_value ty t ≡ value_by ty t.bytes kind
by_kind ty t kind k = ap (value_by ty t.bytes) k

value_only : (ty : Ty) (t : Lexeme) (v : Value) → IsValue ty t v → as_value ty t ≡ Some v
value_only ty t (IntValue n) (inl h) = by_kind ty t Number h.0 ∙ ap (λ c. cond c (Some (IntValue (kept_at ty t.bytes))) None) h.1 ∙ ap (λ (m : ℕ). Some (IntValue m)) h.2
value_only ty t (IntValue n) (inr h) = by_kind ty t Word h.0 ∙ look_only literals t.bytes (IntValue n) refl (truth_is_literal t.bytes n h.1)
value_only ty t Null h = by_kind ty t Word h.0 ∙ look_only literals t.bytes Null refl (inr (inr (inl (h.1, refl))))
value_only ty t (Register x) h = by_kind ty t Local h.0 ∙ ap (λ (l : List ℕ). Some (Register l)) h.1
value_only ty t (GlobalValue x) h = by_kind ty t Global h.0 ∙ ap (λ (l : List ℕ). Some (GlobalValue l)) h.1

pub value_tests : (ty : Ty) → Tests (as_value ty) (IsValue ty)
value_tests ty = record {
  found = λ t v e. value_found_by ty t v t.kind refl e;
  only = value_only ty;
  some = record { kind = Local; bytes = []; line = 0 };
  value = Register [];
  holds = (refl, refl);
}

-- what an operand begins with
pub value_begins : (ty : Ty) (P : Lexeme → Type 0) → ((t : Lexeme) → t.kind ≡ Number → P t) → ((t : Lexeme) → t.kind ≡ Local → P t) → ((t : Lexeme) → t.kind ≡ Global → P t) → ((t : Lexeme) (v : Value) → IsWordIn literals t v → P t) → Begins (one (IsValue ty)) P
value_begins ty P number register address word = one_begins (IsValue ty) P first
  where
    first : (t : Lexeme) (v : Value) → IsValue ty t v → P t
    first t (IntValue n) (inl h) = number t h.0
    first t (IntValue n) (inr h) = word t (IntValue n) (h.0, truth_is_literal t.bytes n h.1)
    first t Null h = word t Null (h.0, inr (inr (inl (h.1, refl))))
    first t (Register x) h = register t h.0
    first t (GlobalValue x) h = address t h.0
