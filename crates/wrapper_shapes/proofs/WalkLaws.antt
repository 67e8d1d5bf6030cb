-- One more entry, one more read word, and one more instruction of a walk.
use Rattle.std.proofs.Common.{nat_eq, Vec, Global, Bool, if◌then◌else◌, ◌≡◌, ℕ, zero, suc, ◌+◌, ◌<◌, ◌≤◌, arith, List, [], ◌∷◌, ◌++◌, length, drop, get_or, Bool, true, false, ◌||◌, ◌==◌, Option, Some, None, option_map, refl, sym, ap, ◌∙◌, if◌then◌else◌}
use Rattle.std.specs.List.{list_any}
use Rattle.std.specs.Prelude.{option_and_then}
use Rattle.std.proofs.lemmas.List.{drop_more}
use Rattle.ir_core.specs.declared.instructions.Typed.{Typed}
use Rattle.wrapper_shapes.specs.declared.slots.Form.{Form}
use Rattle.std.specs.Str.{bytes_eq}
use Rattle.std.specs.Map.{lookup}
use Rattle.indexmap.specs.IndexMap.{insert_entry}
use Rattle.indexmap.specs.IndexSet.{insert_key}
use Rattle.std.proofs.lemmas.Bool.Decides.{nat_tests}
use Rattle.ir_tables.proofs.Places.{lookup-insert, same_turned}
use Rattle.ir_core.specs.Places.{Name}
use Rattle.shapes.specs.Walk as walk
use Rattle.wrapper_shapes.specs.declared.slots.Known.{Known}
use Rattle.wrapper_shapes.specs.Seen.{known_seen, read_after, form_seen, forms_seen}

-- ---- words that were read

pub read_more : (read ks : List ℕ) (k : ℕ) → read_after read (ks ++ k ∷ []) ≡ k ∷ read_after read ks
read_more read [] k = refl
read_more read (j ∷ ks) k = read_more (j ∷ read) ks k

pub among_after : (read ks : List ℕ) (k : ℕ) → walk.is_among (read_after read ks) k ≡ list_any (λ n. n == k) ks || walk.is_among read k
among_after read [] k = refl
among_after read (j ∷ ks) k = among_after (j ∷ read) ks k ∙ swap (list_any (λ n. n == k) ks) (j == k) (walk.is_among read k)
  where
    swap : (a b c : Bool) → a || (if b then true else c) ≡ (b || a) || c
    swap true true c = refl
    swap true false c = refl
    swap false true c = refl
    swap false false c = refl

-- ---- look-ups

abbrev items : Vec ℕ Global → Name
items k = k.items

abbrev same_key : Vec ℕ Global → Vec ℕ Global → Bool
same_key a b = bytes_eq a.items b.items

abbrev found : List (Vec ℕ Global × Known) → Name → Option Known
found es y = lookup (λ (k : Vec ℕ Global). bytes_eq y k.items) es

seen_if : (b : Bool) (k : Known) (o : Option Known) → option_map known_seen (if b then Some k else o) ≡ (if b then Some (known_seen k) else option_map known_seen o)
seen_if true k o = refl
seen_if false k o = refl

next_at : (es after : List (Vec ℕ Global × Known)) (key : Vec ℕ Global) (k : Known) (x : Name) → after ≡ insert_entry same_key es key k → key.items ≡ x → (y : Name) →
    option_map known_seen (found after y) ≡ (if bytes_eq x y then Some (known_seen k) else option_map known_seen (found es y))
next_at es after key k x is name y =
    ap (λ ds. option_map known_seen (found ds y)) is
    ∙ ap (option_map known_seen) (lookup-insert items key k y es)
    ∙ ap (λ (z : Name). option_map known_seen (if bytes_eq y z then Some k else found es y)) name
    ∙ ap (λ (b : Bool). option_map known_seen (if b then Some k else found es y)) (same_turned y x)
    ∙ seen_if (bytes_eq x y) k (found es y)

-- one more entry for a name
pub set_next : (es after : List (Vec ℕ Global × Known)) (key : Vec ℕ Global) (k : Known) (x : Name) → after ≡ insert_entry same_key es key k → key.items ≡ x →
    ◌≡◌ {A = Name → Option walk.Known} (λ y. option_map known_seen (found after y)) (λ y. if bytes_eq x y then Some (known_seen k) else option_map known_seen (found es y))
set_next es after key k x is name = λ i y. next_at es after key k x is name y i

same_number : (k n : ℕ) → nat_eq k n ≡ (n == k)
same_number k n = grind (arith, nat_tests)

any_same : (ks : List ℕ) (k : ℕ) → list_any (nat_eq k) ks ≡ list_any (λ n. n == k) ks
any_same [] k = refl
any_same (n ∷ ks) k = ap (λ b. b || list_any (nat_eq k) ks) (same_number k n) ∙ ap (λ b. (n == k) || b) (any_same ks k)

pub read_is : (ks : List ℕ) (k : ℕ) → list_any (nat_eq k) ks ≡ walk.is_among (read_after [] ks) k
read_is ks k = any_same ks k ∙ or_none (list_any (λ n. n == k) ks) ∙ sym (among_after [] ks k)
  where
    or_none : (b : Bool) → b ≡ (b || false)
    or_none true = refl
    or_none false = refl

-- a word that wasn't read before
pub word_next : (ks after : List ℕ) (k : ℕ) → walk.is_among (read_after [] ks) k ≡ false → after ≡ insert_key nat_eq ks k → read_after [] after ≡ k ∷ read_after [] ks
word_next ks after k new is = ap (read_after []) (is ∙ ap (λ (b : Bool). if b then ks else ks ++ k ∷ []) (read_is ks k ∙ new)) ∙ read_more [] ks k

-- ---- forms

abbrev ahead : List Form → List walk.Form → List walk.Form
ahead forms fs = forms_seen forms ++ fs

appended : (forms : List Form) (f : Form) (fs : List walk.Form) → forms_seen forms ++ form_seen f ∷ fs ≡ forms_seen (forms ++ f ∷ []) ++ fs
appended [] f fs = refl
appended (g ∷ forms) f fs = ap (λ gs. form_seen g ∷ gs) (appended forms f fs)

one_ahead : (forms : List Form) (f : Form) (o : Option (List walk.Form)) → option_map (ahead forms) (option_map (λ fs. form_seen f ∷ fs) o) ≡ option_map (ahead (forms ++ f ∷ [])) o
one_ahead forms f None = refl
one_ahead forms f (Some fs) = ap Some (appended forms f fs)

module _ (w : walk.Walk) (words : List Typed) (n : ℕ) (d : Typed) (low : n < length words) where
  abbrev here : Option walk.Form
  here = walk.form_at n (walk.known_of w (get_or words n d).value)

  opened : walk.forms_from w n (drop n words) ≡ option_and_then (λ f. option_map (λ fs. f ∷ fs) (walk.forms_from w (n + 1) (drop (n + 1) words))) here
  opened = ap (walk.forms_from w n) (drop_more words n d low)

  pub form_next : (all : Option (List walk.Form)) (forms after : List Form) (o : Option Form) (f : Form) → all ≡ option_map (ahead forms) (walk.forms_from w n (drop n words)) → o ≡ Some f → option_map form_seen o ≡ here → after ≡ forms ++ f ∷ [] →
      all ≡ option_map (ahead after) (walk.forms_from w (n + 1) (drop (n + 1) words))
  form_next all forms after o f so there is more =
      let behind = walk.forms_from w (n + 1) (drop (n + 1) words) in
      let found : here ≡ Some (form_seen f) = sym is ∙ ap (option_map form_seen) there in
      so ∙ ap (option_map (ahead forms)) (opened ∙ ap (option_and_then (λ g. option_map (λ fs. g ∷ fs) behind)) found) ∙ one_ahead forms f behind ∙ ap (λ gs. option_map (ahead gs) behind) (sym more)

  pub form_none : (all : Option (List walk.Form)) (forms : List Form) (o : Option Form) → all ≡ option_map (ahead forms) (walk.forms_from w n (drop n words)) → o ≡ None → option_map form_seen o ≡ here → all ≡ None
  form_none all forms o so there is =
      let behind = walk.forms_from w (n + 1) (drop (n + 1) words) in
      let found : here ≡ None = sym is ∙ ap (option_map form_seen) there in
      so ∙ ap (option_map (ahead forms)) (opened ∙ ap (option_and_then (λ g. option_map (λ fs. g ∷ fs) behind)) found)

all_ahead : (fs : List walk.Form) → fs ++ [] ≡ fs
all_ahead [] = refl
all_ahead (f ∷ fs) = ap (λ gs. f ∷ gs) (all_ahead fs)

pub form_end : (w : walk.Walk) (words : List Typed) (n : ℕ) (all : Option (List walk.Form)) (forms : List Form) → length words ≤ n → all ≡ option_map (ahead forms) (walk.forms_from w n (drop n words)) → Some (forms_seen forms) ≡ all
form_end w words n all forms full so = sym (so ∙ ap (λ vs. option_map (ahead forms) (walk.forms_from w n vs)) (none_left words n full) ∙ ap Some (all_ahead (forms_seen forms)))
  where
    none_left : (vs : List Typed) (k : ℕ) → length vs ≤ k → drop k vs ≡ []
    none_left [] zero low = refl
    none_left [] (suc k) low = refl
    none_left (v ∷ vs) zero low = let f : ⊥ = omega arith in absurd f
    none_left (v ∷ vs) (suc k) low = none_left vs k (omega arith)
