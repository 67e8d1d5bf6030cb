-- The least refusal of two lists is the first of theirs, in whichever order, and on one line it is that of the least construct.
use Rattle.std.proofs.Common.{◌≡◌, ℕ, ◌+◌, ◌<◌, length, take, get_or, add-one, List, [], ◌∷◌, ◌++◌, Option, Some, None, Bool, true, false, refl, sym, ap, ◌∙◌, if◌then◌else◌, nat_lt, ◌==◌, ◌&&◌, arith}
use Rattle.std.specs.List.{flat_map}
use Rattle.std.proofs.Math.Seq.{take-suc}
use Rattle.std.proofs.lemmas.List.{append-nil}
use Rattle.std.proofs.lemmas.Bool.Decides.{nat_tests}
use Rattle.ir_core.specs.declared.refusal.Construct.{Construct}
use Rattle.ir_core.specs.declared.refusal.Refusal.{Refusal}
use Rattle.ir_core.specs.Notes.{construct_number}
use Rattle.ir_core.specs.NameRefusals.{is_before, lesser, least, at}
use Rattle.name_tables.specs.Least.{lesser_of, least_of, or_first, at_line}
use Rattle.name_tables.proofs.ConstructLaws.{one_of_a_number}

both_before : (a b c m n k : ℕ) → (if nat_lt b a then true else ((b == a) && nat_lt n m)) ≡ true → (if nat_lt c b then true else ((c == b) && nat_lt k n)) ≡ true → (if nat_lt c a then true else ((c == a) && nat_lt k m)) ≡ true
both_before a b c m n k p q = grind (arith, nat_tests)

none_before : (a b c m n k : ℕ) → (if nat_lt b a then true else ((b == a) && nat_lt n m)) ≡ false → (if nat_lt c b then true else ((c == b) && nat_lt k n)) ≡ false → (if nat_lt c a then true else ((c == a) && nat_lt k m)) ≡ false
none_before a b c m n k p q = grind (arith, nat_tests)

chosen : (x y z : Refusal) (b1 b2 b3 : Bool) → (b1 ≡ true → b2 ≡ true → b3 ≡ true) → (b1 ≡ false → b2 ≡ false → b3 ≡ false) → is_before y x ≡ b1 → is_before z y ≡ b2 → is_before z x ≡ b3 →
    or_first (if b1 then Some y else Some x) (Some z) ≡ lesser x (if b2 then Some z else Some y)
chosen x y z true true b3 all none e1 e2 e3 = ap (λ b. if b then Some z else Some y) e2 ∙ sym (ap (λ b. if b then Some z else Some x) (e3 ∙ all refl refl))
chosen x y z true false b3 all none e1 e2 e3 = ap (λ b. if b then Some z else Some y) e2 ∙ sym (ap (λ b. if b then Some y else Some x) e1)
chosen x y z false true b3 all none e1 e2 e3 = refl
chosen x y z false false b3 all none e1 e2 e3 = ap (λ b. if b then Some z else Some x) (e3 ∙ none refl refl) ∙ sym (ap (λ b. if b then Some y else Some x) e1)

three : (x y z : Refusal) → or_first (lesser x (Some y)) (Some z) ≡ lesser x (lesser y (Some z))
three x y z =
    chosen x y z (is_before y x) (is_before z y) (is_before z x)
    (both_before x.line y.line z.line (construct_number x.construct) (construct_number y.construct) (construct_number z.construct))
    (none_before x.line y.line z.line (construct_number x.construct) (construct_number y.construct) (construct_number z.construct))
    refl refl refl

lesser_or : (r : Refusal) (a b : Option Refusal) → or_first (lesser r a) b ≡ lesser r (or_first a b)
lesser_or r None b = refl
lesser_or r (Some s) None = elim (is_before s r) as (λ t. or_first (if t then Some s else Some r) None ≡ (if t then Some s else Some r)) [ true ↦ refl | false ↦ refl ]
lesser_or r (Some s) (Some q) = three r s q

pub or_first-assoc : (a b c : Option Refusal) → or_first (or_first a b) c ≡ or_first a (or_first b c)
or_first-assoc None b c = refl
or_first-assoc (Some r) b c = lesser_or r b c

pub first_append : (a b : List Refusal) → least (a ++ b) ≡ or_first (least a) (least b)
first_append [] b = refl
first_append (r ∷ a) b = ap (lesser r) (first_append a b) ∙ sym (lesser_or r (least a) (least b))

same_line : (line n k : ℕ) → (if nat_lt line line then true else ((line == line) && nat_lt n k)) ≡ nat_lt n k
same_line line n k = grind (arith, nat_tests)

one_line : (line : ℕ) (c : Construct) (o : Option Construct) → lesser (record { construct = c; line = line }) (at_line line o) ≡ at_line line (lesser_of c o)
one_line line c None = refl
one_line line c (Some d) =
    ap (λ b. if b then Some (record { construct = d; line = line }) else Some (record { construct = c; line = line })) (same_line line (construct_number d) (construct_number c))
    ∙ elim (nat_lt (construct_number d) (construct_number c)) as (λ b. (if b then at_line line (Some d) else at_line line (Some c)) ≡ at_line line (if b then Some d else Some c)) [ true ↦ refl | false ↦ refl ]

-- what is told of the refusals at one line
pub first_at : (line : ℕ) (cs : List Construct) → least (at line cs) ≡ at_line line (least_of cs)
first_at line [] = refl
first_at line (c ∷ cs) = ap (lesser (record { construct = c; line = line })) (first_at line cs) ∙ one_line line c (least_of cs)

-- ---- the least of many parts

module _ {A : Type 0} (f : A → List Refusal) where
  first_push : (xs : List A) (x : A) → least (flat_map f (xs ++ x ∷ [])) ≡ or_first (least (flat_map f xs)) (least (f x))
  first_push [] x = ap least (append-nil (f x))
  first_push (y ∷ xs) x =
      first_append (f y) (flat_map f (xs ++ x ∷ []))
      ∙ ap (or_first (least (f y))) (first_push xs x)
      ∙ sym (or_first-assoc (least (f y)) (least (flat_map f xs)) (least (f x)))
      ∙ ap (λ o. or_first o (least (f x))) (sym (first_append (f y) (flat_map f xs)))

  -- the least of the items so far, with one more
  pub first_more : (xs : List A) (i : ℕ) (d x : A) → i < length xs → x ≡ get_or xs i d → least (flat_map f (take (i + 1) xs)) ≡ or_first (least (flat_map f (take i xs))) (least (f x))
  first_more xs i d x low is =
      ap (λ n. least (flat_map f (take n xs))) (add-one i)
      ∙ ap (λ ys. least (flat_map f ys)) (take-suc xs i d low)
      ∙ first_push (take i xs) (get_or xs i d)
      ∙ ap (λ y. or_first (least (flat_map f (take i xs))) (least (f y))) (sym is)

-- ---- the order in which refusals are listed

not_both : (a b m n : ℕ) → (if nat_lt a b then true else ((a == b) && nat_lt m n)) ≡ true → (if nat_lt b a then true else ((b == a) && nat_lt n m)) ≡ true → ⊥
not_both a b m n p q = grind (arith, nat_tests)

neither : (a b m n : ℕ) → (if nat_lt a b then true else ((a == b) && nat_lt m n)) ≡ false → (if nat_lt b a then true else ((b == a) && nat_lt n m)) ≡ false → (a ≡ b) × (m ≡ n)
neither a b m n p q = (grind (arith, nat_tests), grind (arith, nat_tests))

same_refusal : (r s : Refusal) → (r.line ≡ s.line) × (construct_number r.construct ≡ construct_number s.construct) → r ≡ s
same_refusal r s e =
    ap (λ n. record { construct = r.construct; line = n }) e.0
    ∙ ap (λ c. record { construct = c; line = s.line }) (one_of_a_number r.construct s.construct e.1)

either : (r s : Refusal) (b1 b2 : Bool) → is_before s r ≡ b1 → is_before r s ≡ b2 → (if b1 then Some s else Some r) ≡ (if b2 then Some r else Some s)
either r s true true e1 e2 = absurd (not_both s.line r.line (construct_number s.construct) (construct_number r.construct) e1 e2)
either r s true false e1 e2 = refl
either r s false true e1 e2 = refl
either r s false false e1 e2 = ap Some (same_refusal r s (neither r.line s.line (construct_number r.construct) (construct_number s.construct) e2 e1))

pub or_first-turned : (a b : Option Refusal) → or_first a b ≡ or_first b a
or_first-turned None None = refl
or_first-turned None (Some s) = refl
or_first-turned (Some r) None = refl
or_first-turned (Some r) (Some s) = either r s (is_before s r) (is_before r s) refl refl

pub in_any_order : (a b : List Refusal) → least (a ++ b) ≡ least (b ++ a)
in_any_order a b = first_append a b ∙ or_first-turned (least a) (least b) ∙ sym (first_append b a)
