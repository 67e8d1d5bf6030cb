-- The first construct that fits, in the order of their numbers, is the least.
use Rattle.std.proofs.Common.{◌≡◌, ℕ, suc, ◌≤◌, ◌<◌, ◌+◌, List, [], ◌∷◌, drop, get_or, add-one, drop-cons, length, Bool, true, false, cond, refl, sym, ap, ◌∙◌, subst, ◌⊎◌, inl, inr, arith}
use Rattle.std.specs.Prelude.{nat_le, ◌&&◌}
use Rattle.std.specs.List.{list_all}
use Rattle.std.proofs.lemmas.Bool.Decides.{nat_tests}
use Rattle.ir_core.specs.declared.refusal.Construct.{Construct}
use Rattle.ir_core.specs.declared.refusal.Construct.TheVariants.{Syntax, DuplicateName, MissingName, TypeMismatch, FloatType, VectorType, WideInteger, AddressSpace, UndefValue, AggregateValue, VolatileAccess, InlineAsm, IndirectCall, UnknownCallee, Invoke, PointerOrder, MetadataOperand, Signature, KernelShape, SpmdInput, WrapperShape, ClauseArgument, NestedParallel, Limit, ModeIntrinsic, ConstantExpression, NotBuilt}
use Rattle.ir_core.specs.Tokens.{Lexeme}
use Rattle.ir_core.specs.Notes.{construct_number}
use Rattle.ir_core.specs.TextRefusals.{Fits, IsConstruct}
use Rattle.ir_read.specs.Probes.{constructs, Tells}

abbrev pub Among : List Construct → Construct → Type 0
Among [] c = ⊥
Among (d ∷ ds) c = (c ≡ d) ⊎ Among ds c

abbrev pub rising : List Construct → Bool
rising [] = true
rising (d ∷ ds) = list_all (λ c. nat_le (construct_number d) (construct_number c)) ds && rising ds

-- what is left has every construct that fits, the least first
pub record AreLeft (front : List Lexeme) (t : Lexeme) (left : List Construct) : Type 0 where
  pub all : (c : Construct) → Fits front t c → Among left c
  pub rises : rising left ≡ true

both_true : (a b : Bool) → a && b ≡ true → (a ≡ true) × (b ≡ true)
both_true true true e = (refl, refl)
both_true true false e = absurd (cc)
both_true false b e = absurd (cc)

at_least : (n : ℕ) (ds : List Construct) → list_all (λ c. nat_le n (construct_number c)) ds ≡ true → (c : Construct) → Among ds c → n ≤ construct_number c
at_least n [] e c a = absurd a
at_least n (d ∷ ds) e c a =
    let p = both_true (nat_le n (construct_number d)) (list_all (λ c. nat_le n (construct_number c)) ds) e in
    let first : n ≤ construct_number d = (let q = p.0 in grind (arith, nat_tests)) in
    elim a [ inl q ↦ subst (λ k. n ≤ construct_number k) (sym q) first | inr q ↦ at_least n ds p.1 c q ]

pub all_constructs : (front : List Lexeme) (t : Lexeme) (c : Construct) → Fits front t c → Among constructs c
all_constructs front t Syntax f = absurd f
all_constructs front t DuplicateName f = absurd f
all_constructs front t MissingName f = absurd f
all_constructs front t TypeMismatch f = absurd f
all_constructs front t FloatType f = inl refl
all_constructs front t VectorType f = inr (inl refl)
all_constructs front t WideInteger f = inr (inr (inl refl))
all_constructs front t AddressSpace f = inr (inr (inr (inl refl)))
all_constructs front t UndefValue f = inr (inr (inr (inr (inl refl))))
all_constructs front t AggregateValue f = inr (inr (inr (inr (inr (inl refl)))))
all_constructs front t VolatileAccess f = inr (inr (inr (inr (inr (inr (inl refl))))))
all_constructs front t InlineAsm f = inr (inr (inr (inr (inr (inr (inr (inl refl)))))))
all_constructs front t IndirectCall f = absurd f
all_constructs front t UnknownCallee f = absurd f
all_constructs front t Invoke f = inr (inr (inr (inr (inr (inr (inr (inr (inl refl))))))))
all_constructs front t PointerOrder f = absurd f
all_constructs front t MetadataOperand f = inr (inr (inr (inr (inr (inr (inr (inr (inr (inl refl)))))))))
all_constructs front t Signature f = absurd f
all_constructs front t KernelShape f = absurd f
all_constructs front t SpmdInput f = absurd f
all_constructs front t WrapperShape f = absurd f
all_constructs front t ClauseArgument f = absurd f
all_constructs front t NestedParallel f = absurd f
all_constructs front t Limit f = inr (inr (inr (inr (inr (inr (inr (inr (inr (inr (inl refl))))))))))
all_constructs front t ModeIntrinsic f = absurd f
all_constructs front t ConstantExpression f = inr (inr (inr (inr (inr (inr (inr (inr (inr (inr (inr (inl refl)))))))))))
all_constructs front t NotBuilt f = absurd f

pub at_first : (front : List Lexeme) (t : Lexeme) → AreLeft front t constructs
at_first front t = record { all = all_constructs front t; rises = refl }

by_least : (front : List Lexeme) (t : Lexeme) (c : Construct) → Fits front t c → ((other : Construct) → Fits front t other → construct_number c ≤ construct_number other) → IsConstruct front t c
by_least front t Syntax f least = absurd f
by_least front t DuplicateName f least = (f, least)
by_least front t MissingName f least = (f, least)
by_least front t TypeMismatch f least = (f, least)
by_least front t FloatType f least = (f, least)
by_least front t VectorType f least = (f, least)
by_least front t WideInteger f least = (f, least)
by_least front t AddressSpace f least = (f, least)
by_least front t UndefValue f least = (f, least)
by_least front t AggregateValue f least = (f, least)
by_least front t VolatileAccess f least = (f, least)
by_least front t InlineAsm f least = (f, least)
by_least front t IndirectCall f least = (f, least)
by_least front t UnknownCallee f least = (f, least)
by_least front t Invoke f least = (f, least)
by_least front t PointerOrder f least = (f, least)
by_least front t MetadataOperand f least = (f, least)
by_least front t Signature f least = (f, least)
by_least front t KernelShape f least = (f, least)
by_least front t SpmdInput f least = (f, least)
by_least front t WrapperShape f least = (f, least)
by_least front t ClauseArgument f least = (f, least)
by_least front t NestedParallel f least = (f, least)
by_least front t Limit f least = (f, least)
by_least front t ModeIntrinsic f least = (f, least)
by_least front t ConstantExpression f least = (f, least)
by_least front t NotBuilt f least = (f, least)

-- the first that is left fits
pub first_fits : (front : List Lexeme) (t : Lexeme) (d : Construct) (ds : List Construct) → AreLeft front t (d ∷ ds) → Fits front t d → IsConstruct front t d
first_fits front t d ds h f =
    let p = both_true (list_all (λ c. nat_le (construct_number d) (construct_number c)) ds) (rising ds) h.rises in
    by_least front t d f (λ other g. elim (h.all other g) [ inl q ↦ (let r = ap construct_number q in omega arith) | inr q ↦ at_least (construct_number d) ds p.0 other q ])

-- the first that is left doesn't fit
pub without_first : (front : List Lexeme) (t : Lexeme) (d : Construct) (ds : List Construct) → AreLeft front t (d ∷ ds) → (Fits front t d → ⊥) → AreLeft front t ds
without_first front t d ds h f =
    let p = both_true (list_all (λ c. nat_le (construct_number d) (construct_number c)) ds) (rising ds) h.rises in
    record { all = λ c g. elim (h.all c g) [ inl q ↦ absurd (f (subst (λ k. Fits front t k) q g)) | inr q ↦ q ]; rises = p.1 }

-- none is left
pub none_fits : (front : List Lexeme) (t : Lexeme) → AreLeft front t [] → IsConstruct front t Syntax
none_fits front t h = λ other g. h.all other g

-- goes on behind the one at a place, which doesn't fit
pub without_next : (front : List Lexeme) (t : Lexeme) (i : ℕ) (d : Construct) → i < length constructs → AreLeft front t (drop i constructs) → (Fits front t (get_or constructs i d) → ⊥) → AreLeft front t (drop (i + 1) constructs)
without_next front t i d low h f =
    subst (λ n. AreLeft front t (drop n constructs)) (sym (add-one i))
    (without_first front t (get_or constructs i d) (drop (suc i) constructs) (subst (AreLeft front t) (drop-cons constructs i d low) h) f)

pub told_false : (A : Type 0) (b : Bool) → b ≡ false → Tells A b → A → ⊥
told_false A true e t = let f : ⊥ = cc in absurd f
told_false A false e t = t
