-- Values that some tokens of a text spell, and their parts.
use Rattle.std.proofs.Common.{◌≡◌, ℕ, List, [], ◌∷◌, ◌++◌, refl, sym, subst, inl, inr, ◌⊎◌, true}
use Rattle.std.specs.List.{AllByRecursion}
use Rattle.ir_core.specs.Tokens.{Lexeme, Word, Mark}
use Rattle.ir_core.specs.Spell.{done, one, ◌>>=◌, any, many, Items, AtEnd, OneMore, items, after_comma, list_to, word, mark}
use Rattle.ir_core.specs.Forms.{maybe}
use Rattle.text_laws.specs.Spelling.{IsFine, AllFine, IsSpelled, AreBytes}
use Rattle.ir_core.proofs.Runs.{every_more}
use Rattle.ir_core.specs.Formed.{is_byte}
use Rattle.text_laws.proofs.Fine.{both_fine, fine_parts}
use Rattle.text_laws.proofs.Each.{each_as}

pub record Parts {X Y : Type 0} (S : List Lexeme → X → Type 0) (T : X → List Lexeme → Y → Type 0) (y : Y) : Type 0 where
  pub value : X
  pub front : IsSpelled S value
  pub rest : IsSpelled (T value) y

pub record Stands {X : Type 0} (Is : Lexeme → X → Type 0) (x : X) : Type 0 where
  pub token : Lexeme
  pub fine : IsFine token.kind token.bytes
  pub is : Is token x

pub good_then : {X Y : Type 0} {S : List Lexeme → X → Type 0} {T : X → List Lexeme → Y → Type 0} {y : Y} → IsSpelled (S >>= T) y → Parts S T y
good_then g =
    let f = fine_parts g.tokens g.is.1 g.is.2 g.is.5 g.fine in
    record { value = g.is.0; front = record { tokens = g.is.1; fine = f.0; is = g.is.3 }; rest = record { tokens = g.is.2; fine = f.1; is = g.is.4 } }

pub good_done : {X : Type 0} {v x : X} → IsSpelled (done v) x → x ≡ v
good_done g = g.is.1

pub good_one : {X : Type 0} {Is : Lexeme → X → Type 0} {x : X} → IsSpelled (one Is) x → Stands Is x
good_one g = record { token = g.is.0; fine = (subst AllFine g.is.2 g.fine).0; is = g.is.1 }

pub good_any : {K X : Type 0} {S : K → List Lexeme → X → Type 0} {x : X} → IsSpelled (any S) x → (form : K) × IsSpelled (S form) x
good_any g = (g.is.0, record { tokens = g.tokens; fine = g.fine; is = g.is.1 })

-- ---- parts put together

pub done_spelled : {X : Type 0} (v : X) → IsSpelled (done v) v
done_spelled v = record { tokens = []; fine = tt; is = (refl, refl) }

pub one_spelled : {X : Type 0} {Is : Lexeme → X → Type 0} {x : X} → Stands Is x → IsSpelled (one Is) x
one_spelled s = record { tokens = s.token ∷ []; fine = (s.fine, tt); is = (s.token, s.is, refl) }

pub then_spelled : {X Y : Type 0} {S : List Lexeme → X → Type 0} {T : X → List Lexeme → Y → Type 0} {x : X} {y : Y} → IsSpelled S x → IsSpelled (T x) y → IsSpelled (S >>= T) y
then_spelled {x = x} s t = record { tokens = s.tokens ++ t.tokens; fine = both_fine s.tokens t.tokens s.fine t.fine; is = (x, s.tokens, t.tokens, s.is, t.is, refl) }

pub any_spelled : {K X : Type 0} {S : K → List Lexeme → X → Type 0} {x : X} (form : K) → IsSpelled (S form) x → IsSpelled (any S) x
any_spelled form s = record { tokens = s.tokens; fine = s.fine; is = (form, s.is) }

pub left_spelled : {X : Type 0} {S : List Lexeme → X → Type 0} (T : List Lexeme → X → Type 0) {x : X} → IsSpelled S x → IsSpelled (λ ts y. S ts y ⊎ T ts y) x
left_spelled T s = record { tokens = s.tokens; fine = s.fine; is = inl s.is }

pub right_spelled : {X : Type 0} (S : List Lexeme → X → Type 0) {T : List Lexeme → X → Type 0} {x : X} → IsSpelled T x → IsSpelled (λ ts y. S ts y ⊎ T ts y) x
right_spelled S t = record { tokens = t.tokens; fine = t.fine; is = inr t.is }

-- a mark and a word, on any line
pub mark_spelled : (m : ℕ) → is_byte m ≡ true → (line : ℕ) → IsSpelled (mark m) line
mark_spelled m h line = one_spelled (record { token = record { kind = Mark m; bytes = m ∷ []; line = line }; fine = record { bytes = every_more is_byte m [] h refl; shape = tt }; is = (refl, refl) })

pub word_spelled : (w : List ℕ) → AreBytes w → (line : ℕ) → IsSpelled (word w) line
word_spelled w h line = one_spelled (record { token = record { kind = Word; bytes = w; line = line }; fine = record { bytes = h; shape = tt }; is = (refl, refl, refl) })

-- ---- one of two forms

pub good_either : {X : Type 0} (S T : List Lexeme → X → Type 0) {x : X} → IsSpelled (λ ts y. S ts y ⊎ T ts y) x → IsSpelled S x ⊎ IsSpelled T x
good_either S T {x} g = by g.is
  where
    by : S g.tokens x ⊎ T g.tokens x → IsSpelled S x ⊎ IsSpelled T x
    by (inl h) = inl (record { tokens = g.tokens; fine = g.fine; is = h })
    by (inr h) = inr (record { tokens = g.tokens; fine = g.fine; is = h })

pub good_maybe : {X : Type 0} (none : X) (S : List Lexeme → X → Type 0) {x : X} → IsSpelled (maybe none S) x → (x ≡ none) ⊎ IsSpelled S x
good_maybe none S {x} g = by (good_either (done none) S g)
  where
    by : IsSpelled (done none) x ⊎ IsSpelled S x → (x ≡ none) ⊎ IsSpelled S x
    by (inl h) = inl (good_done h)
    by (inr h) = inr h

-- ---- lists

abbrev pub AllGood : {X : Type 0} → (List Lexeme → X → Type 0) → List X → Type 0
AllGood S = AllByRecursion (IsSpelled S)

pub good_many : {X : Type 0} (S : List Lexeme → X → Type 0) (xs : List X) → IsSpelled (many S) xs → AllGood S xs
good_many S [] g = tt
good_many S (x ∷ xs) g =
    let f = fine_parts g.tokens g.is.0 g.is.1 g.is.4 g.fine in
    (record { tokens = g.is.0; fine = f.0; is = g.is.2 }, good_many S xs (record { tokens = g.is.1; fine = f.1; is = g.is.3 }))

-- behind a comma
pub good_behind : {X : Type 0} (S : List Lexeme → X → Type 0) {x : X} → IsSpelled (after_comma S) x → IsSpelled S x
good_behind S g = (good_then g).rest

pub all_behind : {X : Type 0} (S : List Lexeme → X → Type 0) (xs : List X) → AllGood (after_comma S) xs → AllGood S xs
all_behind S [] g = tt
all_behind S (x ∷ xs) g = (good_behind S g.0, all_behind S xs g.1)

pub good_list : {X : Type 0} (close : ℕ) (S : List Lexeme → X → Type 0) (xs : List X) → IsSpelled (list_to close S) xs → AllGood S xs
good_list close S xs g = let f = good_any g in by f.0 f.1
  where
    by : (form : Items) → IsSpelled (items close S form) xs → AllGood S xs
    by AtEnd h = subst (AllGood S) (sym (good_done (good_then h).rest)) tt
    by OneMore h =
        let a = good_then h in
        let b = good_then a.rest in
        let c = good_then b.rest in
        subst (AllGood S) (sym (good_done c.rest)) (a.front, all_behind S b.value (good_many (after_comma S) b.value b.front))

pub many_spelled : {X : Type 0} (S : List Lexeme → X → Type 0) (xs : List X) → AllGood S xs → IsSpelled (many S) xs
many_spelled S [] g = record { tokens = []; fine = tt; is = refl }
many_spelled S (x ∷ xs) g =
    let s = g.0 in
    let t = many_spelled S xs g.1 in
    record { tokens = s.tokens ++ t.tokens; fine = both_fine s.tokens t.tokens s.fine t.fine; is = (s.tokens, t.tokens, s.is, t.is, refl) }

pub behind_spelled : {X : Type 0} (S : List Lexeme → X → Type 0) (x : X) → IsSpelled S x → IsSpelled (after_comma S) x
behind_spelled S x s = then_spelled (mark_spelled 44 refl 0) s

pub list_spelled : {X : Type 0} (close : ℕ) (S : List Lexeme → X → Type 0) → is_byte close ≡ true → (xs : List X) → AllGood S xs → IsSpelled (list_to close S) xs
list_spelled close S h [] g = any_spelled AtEnd (then_spelled (mark_spelled close h 0) (done_spelled []))
list_spelled close S h (x ∷ xs) g = any_spelled OneMore (then_spelled g.0 (then_spelled (many_spelled (after_comma S) xs (each_as (behind_spelled S) xs g.1)) (then_spelled (mark_spelled close h 0) (done_spelled (x ∷ xs)))))
