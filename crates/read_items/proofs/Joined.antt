-- A loop that puts items behind one another.
use Rattle.std.proofs.Common.{◌≡◌, ℕ, ◌<◌, length, List, [], ◌∷◌, ◌++◌, Bool, true, false, not, Option, Some, None, Result, Ok, Err, refl, sym, ap, ◌∙◌, append_assoc}
use Rattle.std.proofs.lemmas.List.{append-nil}
use Rattle.std.specs.List.{filter, flat_map}
use Rattle.ir_core.specs.declared.answers.Or.{Or}
use Rattle.ir_core.specs.declared.answers.Or.TheVariants.{Refused, Memory}
use Rattle.ir_core.specs.declared.module.Module.{Module}
use Rattle.ir_core.specs.Tokens.{Lexeme}
use Rattle.ir_core.specs.Language.{Item, module_of, item_lines, item_types, item_globals, item_functions, is_prelude_line}
use Rattle.read_forms.specs.Read.{then_read, done, head, Fails}
use Rattle.read_items.specs.Linked.{linked_at, link_goes}
use Rattle.read_items.specs.Globals.{Named}
use Rattle.read_items.specs.Items.{item_goes, item_at, items_module_at}
use Rattle.read_items.specs.Joined.{joined, with_item, module_behind}
use Rattle.read_items.proofs.Linked.{put, linked_stops, linked_step, linked_fails}
use Rattle.read_items.proofs.Spelled.{step_shrinks}

by_test : {X : Type 0} (p : X → Bool) (x : X) (xs ys : List X) → filter p (xs ++ ys) ≡ filter p xs ++ filter p ys → (b : Bool) → p x ≡ b → filter p (x ∷ xs ++ ys) ≡ filter p (x ∷ xs) ++ filter p ys
by_test p x xs ys h true e = rw e (ap (λ (l : List _). x ∷ l) h)
by_test p x xs ys h false e = rw e h

filter_append : {X : Type 0} (p : X → Bool) (xs ys : List X) → filter p (xs ++ ys) ≡ filter p xs ++ filter p ys
filter_append p [] ys = refl
filter_append p (x ∷ xs) ys = by_test p x xs ys (filter_append p xs ys) (p x) refl

-- what is behind one item, behind it
one_more : {X : Type 0} (before : List X) (f : Item → List X) (x : Item) (xs : List Item) → before ++ flat_map f (x ∷ xs) ≡ (before ++ flat_map f (x ∷ [])) ++ flat_map f xs
one_more before f x xs = ap (λ (l : List _). before ++ (l ++ flat_map f xs)) (sym (append-nil (f x))) ∙ sym (append_assoc before (f x ++ []) (flat_map f xs))

one_more_line : (before : List (List ℕ)) (p : List ℕ → Bool) (x : Item) (xs : List Item) → before ++ filter p (flat_map item_lines (x ∷ xs)) ≡ (before ++ filter p (flat_map item_lines (x ∷ []))) ++ filter p (flat_map item_lines xs)
one_more_line before p x xs =
    ap (λ (l : List (List ℕ)). before ++ l) (filter_append p (item_lines x) (flat_map item_lines xs) ∙ ap (λ (l : List (List ℕ)). filter p l ++ filter p (flat_map item_lines xs)) (sym (append-nil (item_lines x))))
    ∙ sym (append_assoc before (filter p (item_lines x ++ [])) (filter p (flat_map item_lines xs)))

joined_more : (m : Module) (x : Item) (xs : List Item) → joined m (module_of (x ∷ xs)) ≡ joined (with_item m x) (module_of xs)
joined_more m x xs =
    let a = one_more_line m.prelude is_prelude_line x xs in
    let b = one_more m.types item_types x xs in
    let c = one_more m.globals item_globals x xs in
    let d = one_more m.functions item_functions x xs in
    let e = one_more_line m.tail (λ line. not (is_prelude_line line)) x xs in
    cc (a, b, c, d, e)

joined_none : (m : Module) → joined m (module_of []) ≡ m
joined_none m =
    let a = append-nil m.prelude in
    let b = append-nil m.types in
    let c = append-nil m.globals in
    let d = append-nil m.functions in
    let e = append-nil m.tail in
    rw (a, b, c, d, e) refl

abbrev behind : Module → Result (List Item × List Lexeme) ℕ → Result (Module × List Lexeme) ℕ
behind m a = then_read a (λ xs. done (joined m (module_of xs)))

behind_put : (m : Module) (x : Item) (a : Result (List Item × List Lexeme) ℕ) → behind m (put x a) ≡ behind (with_item m x) a
behind_put m x (Ok q) = ap (λ (n : Module). Ok (n, q.1)) (joined_more m x q.0)
behind_put m x (Err n) = refl

module _ (a : Result (Module × List Lexeme) ℕ) (m : Module) (pending : Option Named) (rest : List Lexeme) (so_far : a ≡ module_behind m (linked_at item_goes item_at pending) rest) where
  pub items_more : (b : Option Named) (after : List Lexeme) (x : Item) → link_goes item_goes pending (head rest) ≡ true → item_at pending rest ≡ Ok ((x, b), after) → a ≡ module_behind (with_item m x) (linked_at item_goes item_at b) after
  items_more b after x g e = so_far ∙ ap (behind m) (linked_step item_goes item_at step_shrinks pending b rest x after g e) ∙ behind_put m x (linked_at item_goes item_at b after)

  pub items_fail : (e : Or ℕ) → link_goes item_goes pending (head rest) ≡ true → Fails e (item_at pending rest) → Fails e a
  items_fail Memory g k = tt
  items_fail (Refused n) g k = so_far ∙ ap (behind m) (linked_fails item_goes item_at step_shrinks pending rest n g k)

-- nothing is begun, and no item begins
pub items_end : (a : Result (Module × List Lexeme) ℕ) (m : Module) (pending : Option Named) (rest : List Lexeme) → a ≡ module_behind m (linked_at item_goes item_at pending) rest → link_goes item_goes pending (head rest) ≡ false → a ≡ Ok (m, rest)
items_end a m None rest h g = h ∙ ap (behind m) (linked_stops item_goes item_at step_shrinks rest g) ∙ ap (λ (n : Module). Ok (n, rest)) (joined_none m)
items_end a m (Some x) rest h g = let l : true ≡ false = g in absurd (cc)

pub items_first : (ts : List Lexeme) → items_module_at ts ≡ module_behind (record { prelude = []; types = []; globals = []; functions = []; tail = [] }) (linked_at item_goes item_at None) ts
unfolding items_module_at
items_first ts = refl

pub items_smaller : (pending : Option Named) (rest : List Lexeme) (x : Item × Option Named) (after : List Lexeme) → item_at pending rest ≡ Ok (x, after) → length after < length rest
items_smaller pending rest x after e = step_shrinks pending rest x after e
