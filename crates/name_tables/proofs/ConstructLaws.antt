-- The construct of least number of two lists is the lesser of theirs; no two constructs have one number.
use Rattle.std.proofs.Common.{◌≡◌, ℕ, ◌<◌, List, [], ◌∷◌, ◌++◌, Option, Some, None, Bool, true, false, refl, sym, ap, ◌∙◌, if◌then◌else◌, nat_lt, arith, ◌+◌, length, take, get_or, add-one}
use Rattle.std.specs.List.{flat_map}
use Rattle.std.proofs.Math.Seq.{take-suc}
use Rattle.std.proofs.lemmas.List.{append-nil}
use Rattle.std.proofs.lemmas.Bool.Decides.{nat_tests}
use Rattle.ir_core.specs.declared.refusal.Construct.{Construct}
use Rattle.ir_core.specs.declared.refusal.Construct.TheVariants.{Syntax, DuplicateName, MissingName, TypeMismatch, FloatType, VectorType, WideInteger, AddressSpace, UndefValue, AggregateValue, VolatileAccess, InlineAsm, IndirectCall, UnknownCallee, Invoke, PointerOrder, MetadataOperand, Signature, KernelShape, SpmdInput, WrapperShape, ClauseArgument, NestedParallel, Limit, ModeIntrinsic, ConstantExpression, NotBuilt}
use Rattle.ir_core.specs.Notes.{construct_number}
use Rattle.name_tables.specs.Least.{lesser_of, or_lesser, least_of}

both_before : (p q r : ℕ) → nat_lt q p ≡ true → nat_lt r q ≡ true → nat_lt r p ≡ true
both_before p q r a b = grind (arith, nat_tests)

none_before : (p q r : ℕ) → nat_lt q p ≡ false → nat_lt r q ≡ false → nat_lt r p ≡ false
none_before p q r a b = grind (arith, nat_tests)

three : (x y z : Construct) → or_lesser (lesser_of x (Some y)) (Some z) ≡ lesser_of x (lesser_of y (Some z))
three x y z =
    by (nat_lt (construct_number y) (construct_number x)) (nat_lt (construct_number z) (construct_number y)) (nat_lt (construct_number z) (construct_number x)) refl refl refl
    (both_before (construct_number x) (construct_number y) (construct_number z)) (none_before (construct_number x) (construct_number y) (construct_number z))
  where
    by : (b1 b2 b3 : Bool) → nat_lt (construct_number y) (construct_number x) ≡ b1 → nat_lt (construct_number z) (construct_number y) ≡ b2 → nat_lt (construct_number z) (construct_number x) ≡ b3 →
        (nat_lt (construct_number y) (construct_number x) ≡ true → nat_lt (construct_number z) (construct_number y) ≡ true → nat_lt (construct_number z) (construct_number x) ≡ true) →
        (nat_lt (construct_number y) (construct_number x) ≡ false → nat_lt (construct_number z) (construct_number y) ≡ false → nat_lt (construct_number z) (construct_number x) ≡ false) →
        or_lesser (lesser_of x (Some y)) (Some z) ≡ lesser_of x (lesser_of y (Some z))
    by true true b3 e1 e2 e3 all none = rw (e1, e2, all e1 e2) refl
    by true false b3 e1 e2 e3 all none = rw (e1, e2) (rw e1 refl)
    by false true b3 e1 e2 e3 all none = rw (e1, e2) refl
    by false false b3 e1 e2 e3 all none = rw (e1, e2, none e1 e2) (rw e1 refl)

lesser_or : (c : Construct) (a b : Option Construct) → or_lesser (lesser_of c a) b ≡ lesser_of c (or_lesser a b)
lesser_or c None b = refl
lesser_or c (Some d) None = elim (nat_lt (construct_number d) (construct_number c)) as (λ t. or_lesser (if t then Some d else Some c) None ≡ (if t then Some d else Some c)) [ true ↦ refl | false ↦ refl ]
lesser_or c (Some d) (Some e) = three c d e

or_assoc : (a b c : Option Construct) → or_lesser (or_lesser a b) c ≡ or_lesser a (or_lesser b c)
or_assoc None b c = refl
or_assoc (Some x) b c = lesser_or x b c

pub least_append : (a b : List Construct) → least_of (a ++ b) ≡ or_lesser (least_of a) (least_of b)
least_append [] b = refl
least_append (c ∷ a) b = ap (lesser_of c) (least_append a b) ∙ sym (lesser_or c (least_of a) (least_of b))

module _ {A : Type 0} (f : A → List Construct) where
  least_push : (xs : List A) (x : A) → least_of (flat_map f (xs ++ x ∷ [])) ≡ or_lesser (least_of (flat_map f xs)) (least_of (f x))
  least_push [] x = ap least_of (append-nil (f x))
  least_push (y ∷ xs) x =
      least_append (f y) (flat_map f (xs ++ x ∷ []))
      ∙ ap (or_lesser (least_of (f y))) (least_push xs x)
      ∙ sym (or_assoc (least_of (f y)) (least_of (flat_map f xs)) (least_of (f x)))
      ∙ ap (λ o. or_lesser o (least_of (f x))) (sym (least_append (f y) (flat_map f xs)))

  -- the least of the items so far, with one more
  pub least_more : (xs : List A) (i : ℕ) (d x : A) → i < length xs → x ≡ get_or xs i d → least_of (flat_map f (take (i + 1) xs)) ≡ or_lesser (least_of (flat_map f (take i xs))) (least_of (f x))
  least_more xs i d x low is =
      ap (λ n. least_of (flat_map f (take n xs))) (add-one i)
      ∙ ap (λ ys. least_of (flat_map f ys)) (take-suc xs i d low)
      ∙ least_push (take i xs) (get_or xs i d)
      ∙ ap (λ y. or_lesser (least_of (flat_map f (take i xs))) (least_of (f y))) (sym is)

-- ---- constructs by their numbers

abbrev constructs : List Construct
constructs =
    Syntax ∷ Syntax ∷ DuplicateName ∷ MissingName ∷ TypeMismatch ∷ FloatType ∷ VectorType ∷ WideInteger ∷ AddressSpace ∷ UndefValue
    ∷ AggregateValue ∷ VolatileAccess ∷ InlineAsm ∷ IndirectCall ∷ UnknownCallee ∷ Invoke ∷ PointerOrder ∷ MetadataOperand ∷ Signature
    ∷ KernelShape ∷ SpmdInput ∷ WrapperShape ∷ ClauseArgument ∷ NestedParallel ∷ Limit ∷ ModeIntrinsic ∷ ConstantExpression ∷ NotBuilt ∷ []

by_number : (c : Construct) → get_or constructs (construct_number c) Syntax ≡ c
by_number Syntax = refl
by_number _ = refl

pub one_of_a_number : (c d : Construct) → construct_number c ≡ construct_number d → c ≡ d
one_of_a_number c d e = sym (by_number c) ∙ ap (λ n. get_or constructs n Syntax) e ∙ by_number d
