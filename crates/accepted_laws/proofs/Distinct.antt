-- Names that are all apart are no more than those among which they are.
use Rattle.std.proofs.Common.{◌≡◌, suc, ◌≤◌, List, [], ◌∷◌, ◌++◌, length, Bool, true, false, ◌||◌, refl, sym, ap, ◌∙◌, if◌then◌else◌, arith}
use Rattle.std.specs.List.{list_any}
use Rattle.std.specs.Str.{bytes_eq}
use Rattle.std.proofs.lemmas.Slice.Eq.{bytes_eq-Decides}
use Rattle.ir_core.specs.Places.{Name}
use Rattle.ir_core.specs.Wrappers.{is_in}
use Rattle.accepted_laws.proofs.Nothing.{not_both}

-- ---- names in a list

pub in_first : (x : Name) (xs : List Name) → is_in (x ∷ xs) x ≡ true
in_first x xs = ap (λ b. if b then true else is_in xs x) ((bytes_eq-Decides x x).1 refl)

pub in_more : (y : Name) (xs : List Name) (x : Name) → is_in xs x ≡ true → is_in (y ∷ xs) x ≡ true
in_more y xs x e = by (bytes_eq x y)
  where
    by : (b : Bool) → (if b then true else is_in xs x) ≡ true
    by true = refl
    by false = e

pub in_left : (xs ys : List Name) (x : Name) → is_in xs x ≡ true → is_in (xs ++ ys) x ≡ true
in_left [] ys x e = not_both false e refl
in_left (y ∷ xs) ys x e = by (bytes_eq x y) e (in_left xs ys x)
  where
    by : (b : Bool) → (if b then true else is_in xs x) ≡ true → (is_in xs x ≡ true → is_in (xs ++ ys) x ≡ true) → (if b then true else is_in (xs ++ ys) x) ≡ true
    by true h rest = refl
    by false h rest = rest h

pub in_right : (xs ys : List Name) (x : Name) → is_in ys x ≡ true → is_in (xs ++ ys) x ≡ true
in_right [] ys x e = e
in_right (y ∷ xs) ys x e = in_more y (xs ++ ys) x (in_right xs ys x e)

pub any_in : (test : Name → Bool) (xs : List Name) (x : Name) → is_in xs x ≡ true → test x ≡ true → list_any test xs ≡ true
any_in test [] x e h = not_both false e refl
any_in test (y ∷ xs) x e h = by (bytes_eq x y) refl e (λ i. any_in test xs x i h)
  where
    behind : (c : Bool) → list_any test xs ≡ true → (c || list_any test xs) ≡ true
    behind true i = refl
    behind false i = i

    by : (b : Bool) → bytes_eq x y ≡ b → (if b then true else is_in xs x) ≡ true → (is_in xs x ≡ true → list_any test xs ≡ true) → list_any test (y ∷ xs) ≡ true
    by true s i rest = ap (λ c. c || list_any test xs) (ap test (sym ((bytes_eq-Decides x y).0 s)) ∙ h)
    by false s i rest = behind (test y) (rest i)

-- ---- names that are apart

abbrev pub AllApart : List Name → Type 0
AllApart [] = Unit {0}
AllApart (x ∷ xs) = (is_in xs x ≡ false) × AllApart xs

-- one less of a name
abbrev without : Name → List Name → List Name
without x [] = []
without x (y ∷ ys) = if bytes_eq x y then ys else y ∷ without x ys

length-without : (x : Name) (ys : List Name) → is_in ys x ≡ true → suc (length (without x ys)) ≡ length ys
length-without x [] e = not_both false e refl
length-without x (y ∷ ys) e = by (bytes_eq x y) e (length-without x ys)
  where
    by : (b : Bool) → (if b then true else is_in ys x) ≡ true → (is_in ys x ≡ true → suc (length (without x ys)) ≡ length ys) → suc (length (if b then ys else y ∷ without x ys)) ≡ suc (length ys)
    by true h rest = refl
    by false h rest = ap suc (rest h)

in_without : (x z : Name) (ys : List Name) → is_in ys z ≡ true → bytes_eq z x ≡ false → is_in (without x ys) z ≡ true
in_without x z [] e h = e
in_without x z (y ∷ ys) e h = by (bytes_eq x y) refl (in_without x z ys)
  where
    behind : (c : Bool) → (if c then true else is_in ys z) ≡ true → (is_in ys z ≡ true → bytes_eq z x ≡ false → is_in (without x ys) z ≡ true) → (if c then true else is_in (without x ys) z) ≡ true
    behind true i rest = refl
    behind false i rest = rest i h

    by : (b : Bool) → bytes_eq x y ≡ b → (is_in ys z ≡ true → bytes_eq z x ≡ false → is_in (without x ys) z ≡ true) → is_in (if b then ys else y ∷ without x ys) z ≡ true
    by true s rest = sym (ap (λ b. if b then true else is_in ys z) (ap (bytes_eq z) (sym ((bytes_eq-Decides x y).0 s)) ∙ h)) ∙ e
    by false s rest = behind (bytes_eq z y) e rest

pub no_more : (xs ys : List Name) → AllApart xs → ((x : Name) → is_in xs x ≡ true → is_in ys x ≡ true) → length xs ≤ length ys
no_more [] ys a in_ = omega arith
no_more (x ∷ xs) ys a in_ =
    let less = length-without x ys (in_ x (in_first x xs)) in
    let rest = no_more xs (without x ys) a.1 (λ z e. in_without x z ys (in_ z (in_more x xs z e)) (other z e (bytes_eq z x) refl)) in
    omega arith
  where
    other : (z : Name) → is_in xs z ≡ true → (b : Bool) → bytes_eq z x ≡ b → bytes_eq z x ≡ false
    other z e true s = not_both (is_in xs x) (ap (is_in xs) (sym ((bytes_eq-Decides z x).0 s)) ∙ e) a.0
    other z e false s = s
