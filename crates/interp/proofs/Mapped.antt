-- A list whose first items are changed, one after another.
use Rattle.std.proofs.Common.{◌≡◌, ℕ, zero, suc, ◌+◌, ◌≤◌, List, [], ◌∷◌, length, map, Some, None, refl, sym, ap, ◌∙◌, arith, slice_get, slice_set}
use Rattle.mem_model.proofs.Runs.{some_injective, none_is_not_some}

-- so many first items are changed
abbrev pub mapped : {A : Type 0} → (A → A) → ℕ → List A → List A
mapped g zero xs = xs
mapped g (suc n) [] = []
mapped g (suc n) (x ∷ xs) = g x ∷ mapped g n xs

pub mapped_all : {A : Type 0} (g : A → A) (n : ℕ) (xs : List A) → length xs ≤ n → mapped g n xs ≡ map g xs
mapped_all g zero [] all = refl
mapped_all g zero (x ∷ xs) all = absurd (omega arith)
mapped_all g (suc n) [] all = refl
mapped_all g (suc n) (x ∷ xs) all = ap (λ ys. g x ∷ ys) (mapped_all g n xs (omega arith))

pub mapped_length : {A : Type 0} (g : A → A) (n : ℕ) (xs : List A) → length (mapped g n xs) ≡ length xs
mapped_length g zero xs = refl
mapped_length g (suc n) [] = refl
mapped_length g (suc n) (x ∷ xs) = ap suc (mapped_length g n xs)

pub mapped_next : {A : Type 0} (g : A → A) (n : ℕ) (xs : List A) (x : A) → slice_get (mapped g n xs) n ≡ Some x → slice_set (mapped g n xs) n (g x) ≡ mapped g (suc n) xs
mapped_next g zero [] x e = none_is_not_some e
mapped_next g zero (y ∷ ys) x e = ap (λ z. g z ∷ ys) (sym (some_injective e))
mapped_next g (suc n) [] x e = none_is_not_some e
mapped_next g (suc n) (y ∷ ys) x e = ap (λ zs. g y ∷ zs) (mapped_next g n ys x e)

pub mapped_none : {A : Type 0} (g : A → A) (n : ℕ) (xs : List A) → slice_get (mapped g n xs) n ≡ None → mapped g n xs ≡ mapped g (suc n) xs
mapped_none g zero [] e = refl
mapped_none g zero (y ∷ ys) e = none_is_not_some (sym e)
mapped_none g (suc n) [] e = refl
mapped_none g (suc n) (y ∷ ys) e = ap (λ zs. g y ∷ zs) (mapped_none g n ys e)

-- one more item is changed, or there is none
pub one_more : {A : Type 0} (g : A → A) (n : ℕ) (xs now next : List A) (x y : A) → now ≡ mapped g n xs → slice_get now n ≡ Some x → y ≡ g x → next ≡ slice_set now n y → next ≡ mapped g (n + 1) xs
one_more g n xs now next x y is at y_is set =
    let more : suc n ≡ n + 1 = omega arith in
    set ∙ (λ i. slice_set (is i) n (y_is i)) ∙ mapped_next g n xs x (sym (ap (λ zs. slice_get zs n) is) ∙ at) ∙ ap (λ k. mapped g k xs) more

pub no_more : {A : Type 0} (g : A → A) (n : ℕ) (xs now next : List A) → now ≡ mapped g n xs → slice_get now n ≡ None → next ≡ now → next ≡ mapped g (n + 1) xs
no_more g n xs now next is at same =
    let more : suc n ≡ n + 1 = omega arith in
    same ∙ is ∙ mapped_none g n xs (sym (ap (λ zs. slice_get zs n) is) ∙ at) ∙ ap (λ k. mapped g k xs) more
