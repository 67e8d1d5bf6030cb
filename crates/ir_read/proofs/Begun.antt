-- What reading tells of the texts that begin with some tokens.
use Rattle.std.proofs.Common.{◌≡◌, ℕ, zero, suc, List, [], ◌∷◌, ◌++◌, length, cond, Bool, true, false, refl, sym, ap, ◌∙◌, subst, append_assoc, arith, ◌⊎◌, inl, inr}
use Rattle.std.specs.Prelude.{◌==◌, not}
use Rattle.std.proofs.lemmas.Bool.Decides.{Decides-eqb}
use Rattle.std.proofs.lemmas.List.{append-nil}
use Rattle.ir_core.specs.declared.module.Module.{Module}
use Rattle.ir_core.specs.Tokens.{Lexeme}
use Rattle.ir_core.specs.Spell.{IsFirstRefused, SameNext}
use Rattle.ir_core.specs.Language.{module_to_end}
use Rattle.ir_core.specs.TextRefusals.{Begins, InitStands, ValueStands, OperandStands, a_word}
use Rattle.ir_read.specs.declared.stopped.Probe.TheVariants.{Pointer, Null, Zeros}
use Rattle.ir_read.specs.Probes.{Tells, probe_seen}

-- what is spelled begins itself
pub spelled_begins : (ts : List Lexeme) (m : Module) → module_to_end ts m → Begins ts
spelled_begins ts m s = ([], m, subst (λ l. module_to_end l m) (sym (append-nil ts)) s)

at_end : (ts front rest : List Lexeme) → ts ≡ front ++ rest → length rest ≡ 0 → (more : List Lexeme) (m : Module) → module_to_end (front ++ more) m → Begins ts
at_end ts front [] is h more m s = (more, m, subst (λ l. module_to_end (l ++ more) m) (sym (is ∙ append-nil front)) s)
at_end ts front (t ∷ rest) is h more m s = absurd (omega arith)

before_end : (ts : List Lexeme) (left : ℕ) → (r : IsFirstRefused module_to_end ts left) → (rest : List Lexeme) → r.rest ≡ rest → (length rest ≡ 0 → ⊥) → Begins ts → ⊥
before_end ts left r [] e h b = h refl
before_end ts left r (t ∷ rest) e h b =
    r.no_text ((t ∷ rest) ++ b.0) b.1 (subst (λ l. SameNext l ((t ∷ rest) ++ b.0)) (sym e) refl) (subst (λ l. module_to_end l b.1) (ap (λ (l : List Lexeme). l ++ b.0) (r.is ∙ ap (λ (l : List Lexeme). r.front ++ l) e) ∙ append_assoc r.front (t ∷ rest) b.0) b.2)

pub refused_begins : (ts : List Lexeme) (left : ℕ) → IsFirstRefused module_to_end ts left → Tells (Begins ts) (left == 0)
refused_begins ts left r = by_test (left == 0) refl
  where
    by_test : (b : Bool) → (left == 0) ≡ b → Tells (Begins ts) b
    by_test true e = at_end ts r.front r.rest r.is (r.place ∙ (Decides-eqb left 0).0 e) r.more r.value r.goes_on
    by_test false e = before_end ts left r r.rest refl (λ h. let l : true ≡ false = sym ((Decides-eqb left 0).1 (sym r.place ∙ h)) ∙ e in absurd (cc))

-- ---- tests of two facts

both : (A B : Type 0) (a b : Bool) → Tells A a → Tells B b → Tells (A × (B → ⊥)) (cond a (not b) false)
both A B true true x y = λ p. p.1 y
both A B true false x y = (x, y)
both A B false b x y = λ p. x p.0

tells_same : (A B : Type 0) (a : Bool) → (A → B) → (B → A) → Tells A a → Tells B a
tells_same A B true f g x = f x
tells_same A B false f g x = λ y. x (g y)

one_behind : (front : List Lexeme) (t u : Lexeme) → front ++ t ∷ u ∷ [] ≡ (front ++ t ∷ []) ++ u ∷ []
one_behind front t u = sym (append_assoc front (t ∷ []) (u ∷ []))

pub pointer_operand : (front : List Lexeme) (a b : Bool) → Tells (Begins (front ++ probe_seen Pointer ∷ probe_seen Null ∷ [])) a → Tells (Begins (front ++ probe_seen Pointer ∷ probe_seen Zeros ∷ [])) b → Tells (ValueStands (front ++ probe_seen Pointer ∷ [])) (cond a (not b) false)
pointer_operand front a b x y =
    both (Begins ((front ++ probe_seen Pointer ∷ []) ++ probe_seen Null ∷ [])) (InitStands (front ++ probe_seen Pointer ∷ [])) a b
    (subst (λ l. Tells (Begins l) a) (one_behind front (probe_seen Pointer) (probe_seen Null)) x)
    (subst (λ l. Tells (Begins l) b) (one_behind front (probe_seen Pointer) (probe_seen Zeros)) y)

pub either_operand : (front : List Lexeme) (a b : Bool) → Tells (ValueStands (front ++ probe_seen Pointer ∷ [])) a → Tells (ValueStands front) b → Tells (OperandStands front) (cond a true b)
either_operand front true b x y = inl x
either_operand front false true x y = inr y
either_operand front false false x y = λ s. elim s [ inl w ↦ x w | inr w ↦ y w ]
