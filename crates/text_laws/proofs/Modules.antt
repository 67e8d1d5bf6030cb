-- Modules: the canonical text of a module that some text spells is spelled by it, but for lines.
use Rattle.std.proofs.Common.{◌≡◌, ℕ, ◌≤◌, take, List, [], ◌∷◌, ◌++◌, append_assoc, length, map, Bool, true, false, cond, not, refl, sym, ap, ◌∙◌, subst, All}
use Rattle.std.specs.List.{flat_map, filter, AllByRecursion}
use Rattle.std.proofs.lemmas.List.{append-nil}
use Rattle.std.proofs.lemmas.List.Elements.{All-from_recursion, recursion_from_All}
use Rattle.ir_core.specs.declared.module.Module.{Module}
use Rattle.ir_core.specs.Tokens.{text_start, text_limit, lexemes, tokens_from}
use Rattle.ir_core.specs.Spell.{done}
use Rattle.ir_core.specs.Language.{Item, TypeItem, VariableItem, FunctionItem, LineItem, item, item_types, item_globals, item_functions, item_lines, is_prelude_line, module_of, module_to_end}
use Rattle.ir_core.specs.Text.{Text, line_text, type_def_text, global_text, function_text}
use Rattle.ir_core.specs.Lines.{type_unlined, global_unlined, function_unlined, unlined, SameButLines}
use Rattle.ir_core.specs.Formed.{Formed, ReadsBack}
use Rattle.ir_core.proofs.Runs.{if_true, if_false}
use Rattle.text_laws.specs.Spelling.{IsSpelled}
use Rattle.text_laws.specs.Parts.{FormedFunction, FormedType, FormedGlobal, FormedLine, FormedParts}
use Rattle.text_laws.proofs.Rows.{Outer, outer_end, lexed_whole}
use Rattle.text_laws.proofs.Joined.{OnLines}
use Rattle.text_laws.proofs.Spelled.{spelled_done, spelled_then, spelled_as}
use Rattle.text_laws.proofs.Fine.{tokens_fine}
use Rattle.text_laws.proofs.Good.{good_then, good_done, good_many}
use Rattle.text_laws.proofs.Back.{Back, flat}
use Rattle.text_laws.proofs.Blocks.{all_like}
use Rattle.text_laws.proofs.Items.{item_text, item_unlined, lines_like, item_parts, item_back, IsItem}
use Rattle.text_laws.proofs.Lines.{parts_same}
use Rattle.text_laws.proofs.Each.{each_as, each_append, each_mapped}

-- ---- rows of items of one kind

flat_append : {X Y : Type 0} (f : X → List Y) (xs ys : List X) → flat_map f (xs ++ ys) ≡ flat_map f xs ++ flat_map f ys
flat_append f [] ys = refl
flat_append f (x ∷ xs) ys = ap (λ l. f x ++ l) (flat_append f xs ys) ∙ sym (append_assoc (f x) (flat_map f xs) (flat_map f ys))

flat_same : {X Y Z : Type 0} (f : Y → List Z) (h : X → List Z) (g : X → Y) → ((x : X) → f (g x) ≡ h x) → (xs : List X) → flat_map f (map g xs) ≡ flat_map h xs
flat_same f h g e [] = refl
flat_same f h g e (x ∷ xs) = ap (λ l. f (g x) ++ l) (flat_same f h g e xs) ∙ ap (λ l. l ++ flat_map h xs) (e x)

-- what a kind gives none of, and what it gives itself
flat_none : {X Y : Type 0} (f : Item → List Y) (g : X → Item) → ((x : X) → f (g x) ≡ []) → (xs : List X) → flat_map f (map g xs) ≡ []
flat_none f g e [] = refl
flat_none f g e (x ∷ xs) = ap (λ l. l ++ flat_map f (map g xs)) (e x) ∙ flat_none f g e xs

flat_one : {X : Type 0} (f : Item → List X) (g : X → Item) → ((x : X) → f (g x) ≡ x ∷ []) → (xs : List X) → flat_map f (map g xs) ≡ xs
flat_one f g e [] = refl
flat_one f g e (x ∷ xs) = ap (λ l. l ++ flat_map f (map g xs)) (e x) ∙ ap (λ l. x ∷ l) (flat_one f g e xs)

-- the items of a module in their order
abbrev in_order : Module → List Item
in_order m = map LineItem m.prelude ++ (map TypeItem m.types ++ (map VariableItem m.globals ++ (map FunctionItem m.functions ++ map LineItem m.tail)))

-- what the five rows give
five : {Y : Type 0} (f : Item → List Y) (a b c d e : List Item) → flat_map f (a ++ (b ++ (c ++ (d ++ e)))) ≡ flat_map f a ++ (flat_map f b ++ (flat_map f c ++ (flat_map f d ++ flat_map f e)))
five f a b c d e =
    flat_append f a (b ++ (c ++ (d ++ e)))
    ∙ ap (λ l. flat_map f a ++ l) (flat_append f b (c ++ (d ++ e))
    ∙ ap (λ l. flat_map f b ++ l) (flat_append f c (d ++ e)
    ∙ ap (λ l. flat_map f c ++ l) (flat_append f d e)))

rows : {Y : Type 0} (f : Item → List Y) (m : Module) (p t g fs l : List Y) → flat_map f (map LineItem m.prelude) ≡ p → flat_map f (map TypeItem m.types) ≡ t → flat_map f (map VariableItem m.globals) ≡ g → flat_map f (map FunctionItem m.functions) ≡ fs → flat_map f (map LineItem m.tail) ≡ l → flat_map f (in_order m) ≡ p ++ (t ++ (g ++ (fs ++ l)))
rows f m p t g fs l ep et eg ef el =
    five f (map LineItem m.prelude) (map TypeItem m.types) (map VariableItem m.globals) (map FunctionItem m.functions) (map LineItem m.tail)
    ∙ (λ i. ep i ++ (et i ++ (eg i ++ (ef i ++ el i))))

order_types : (m : Module) → flat_map item_types (in_order m) ≡ m.types
order_types m = rows item_types m [] m.types [] [] [] (flat_none item_types LineItem (λ x. refl) m.prelude) (flat_one item_types TypeItem (λ x. refl) m.types) (flat_none item_types VariableItem (λ x. refl) m.globals) (flat_none item_types FunctionItem (λ x. refl) m.functions) (flat_none item_types LineItem (λ x. refl) m.tail) ∙ append-nil m.types

order_globals : (m : Module) → flat_map item_globals (in_order m) ≡ m.globals
order_globals m = rows item_globals m [] [] m.globals [] [] (flat_none item_globals LineItem (λ x. refl) m.prelude) (flat_none item_globals TypeItem (λ x. refl) m.types) (flat_one item_globals VariableItem (λ x. refl) m.globals) (flat_none item_globals FunctionItem (λ x. refl) m.functions) (flat_none item_globals LineItem (λ x. refl) m.tail) ∙ append-nil m.globals

order_functions : (m : Module) → flat_map item_functions (in_order m) ≡ m.functions
order_functions m = rows item_functions m [] [] [] m.functions [] (flat_none item_functions LineItem (λ x. refl) m.prelude) (flat_none item_functions TypeItem (λ x. refl) m.types) (flat_none item_functions VariableItem (λ x. refl) m.globals) (flat_one item_functions FunctionItem (λ x. refl) m.functions) (flat_none item_functions LineItem (λ x. refl) m.tail) ∙ append-nil m.functions

order_lines : (m : Module) → flat_map item_lines (in_order m) ≡ m.prelude ++ m.tail
order_lines m = rows item_lines m m.prelude [] [] [] m.tail (flat_one item_lines LineItem (λ x. refl) m.prelude) (flat_none item_lines TypeItem (λ x. refl) m.types) (flat_none item_lines VariableItem (λ x. refl) m.globals) (flat_none item_lines FunctionItem (λ x. refl) m.functions) (flat_one item_lines LineItem (λ x. refl) m.tail)

order_text : (m : Module) → flat_map item_text (in_order m) ≡ Text m
order_text m =
    rows item_text m (flat_map line_text m.prelude) (flat_map type_def_text m.types) (flat_map global_text m.globals) (flat_map function_text m.functions) (flat_map line_text m.tail)
    (flat_same item_text line_text LineItem (λ x. refl) m.prelude) (flat_same item_text type_def_text TypeItem (λ x. refl) m.types) (flat_same item_text global_text VariableItem (λ x. refl) m.globals) (flat_same item_text function_text FunctionItem (λ x. refl) m.functions) (flat_same item_text line_text LineItem (λ x. refl) m.tail)
    ∙ sym (flat (flat_map line_text m.prelude) (flat_map type_def_text m.types) (flat_map global_text m.globals ∷ flat_map function_text m.functions ∷ flat_map line_text m.tail ∷ []))

-- ---- lines of the prelude and of the tail

filter_append : {X : Type 0} (p : X → Bool) (xs ys : List X) → filter p (xs ++ ys) ≡ filter p xs ++ filter p ys
filter_append p [] ys = refl
filter_append p (x ∷ xs) ys = by (p x) (filter_append p xs ys)
  where
    by : (b : Bool) → filter p (xs ++ ys) ≡ filter p xs ++ filter p ys → cond b (x ∷ filter p (xs ++ ys)) (filter p (xs ++ ys)) ≡ cond b (x ∷ filter p xs) (filter p xs) ++ filter p ys
    by true e = ap (λ l. x ∷ l) e
    by false e = e

filter_all : {X : Type 0} (p : X → Bool) (xs : List X) → AllByRecursion (λ x. p x ≡ true) xs → filter p xs ≡ xs
filter_all p [] h = refl
filter_all p (x ∷ xs) h = if_true (p x) (x ∷ filter p xs) (filter p xs) h.0 ∙ ap (λ l. x ∷ l) (filter_all p xs h.1)

filter_none : {X : Type 0} (p : X → Bool) (xs : List X) → AllByRecursion (λ x. p x ≡ false) xs → filter p xs ≡ []
filter_none p [] h = refl
filter_none p (x ∷ xs) h = if_false (p x) (x ∷ filter p xs) (filter p xs) h.0 ∙ filter_none p xs h.1

abbrev is_tail_line : List ℕ → Bool
is_tail_line line = not (is_prelude_line line)

-- lines of the prelude and of the tail are told apart
prelude_kept : (ls ms : List (List ℕ)) → AllByRecursion (FormedLine true) ls → AllByRecursion (FormedLine false) ms → filter is_prelude_line (ls ++ ms) ≡ ls
prelude_kept ls ms h k =
    filter_append is_prelude_line ls ms
    ∙ ap (λ l. l ++ filter is_prelude_line ms) (filter_all is_prelude_line ls (each_as (λ x p. p.place) ls h))
    ∙ ap (λ l. ls ++ l) (filter_none is_prelude_line ms (each_as (λ x p. p.place) ms k))
    ∙ append-nil ls

tail_kept : (ls ms : List (List ℕ)) → AllByRecursion (FormedLine true) ls → AllByRecursion (FormedLine false) ms → filter is_tail_line (ls ++ ms) ≡ ms
tail_kept ls ms h k =
    filter_append is_tail_line ls ms
    ∙ ap (λ l. l ++ filter is_tail_line ms) (filter_none is_tail_line ls (each_as (λ x p. ap not p.place) ls h))
    ∙ filter_all is_tail_line ms (each_as (λ x p. ap not p.place) ms k)

-- the items of a module in their order make up the module
ordered : (m : Module) → FormedParts m → module_of (in_order m) ≡ m
ordered m h =
    let p = recursion_from_All (FormedLine true) m.prelude h.prelude in
    let t = recursion_from_All (FormedLine false) m.tail h.tail in
    let before = ap (filter is_prelude_line) (order_lines m) ∙ prelude_kept m.prelude m.tail p t in
    let behind = ap (filter is_tail_line) (order_lines m) ∙ tail_kept m.prelude m.tail p t in
    λ i. record { prelude = before i; types = order_types m i; globals = order_globals m i; functions = order_functions m i; tail = behind i }

-- ---- modules but for lines

map_append : {X Y : Type 0} (f : X → Y) (xs ys : List X) → map f (xs ++ ys) ≡ map f xs ++ map f ys
map_append f [] ys = refl
map_append f (x ∷ xs) ys = ap (λ l. f x ∷ l) (map_append f xs ys)

-- the module of items without lines
unlined_of : {X : Type 0} (f : Item → List X) (u : X → X) → ((x : Item) → f (item_unlined x) ≡ map u (f x)) → (xs : List Item) → map u (flat_map f xs) ≡ flat_map f (map item_unlined xs)
unlined_of f u e [] = refl
unlined_of f u e (x ∷ xs) = map_append u (f x) (flat_map f xs) ∙ ap (λ l. l ++ map u (flat_map f xs)) (sym (e x)) ∙ ap (λ l. f (item_unlined x) ++ l) (unlined_of f u e xs)

types_unlined : (x : Item) → item_types (item_unlined x) ≡ map type_unlined (item_types x)
types_unlined (TypeItem d) = refl
types_unlined _ = refl

globals_unlined : (x : Item) → item_globals (item_unlined x) ≡ map global_unlined (item_globals x)
globals_unlined (VariableItem d) = refl
globals_unlined _ = refl

functions_unlined : (x : Item) → item_functions (item_unlined x) ≡ map function_unlined (item_functions x)
functions_unlined (FunctionItem d) = refl
functions_unlined _ = refl

lines_unlined : (xs : List Item) → flat_map item_lines xs ≡ flat_map item_lines (map item_unlined xs)
lines_unlined [] = refl
lines_unlined (x ∷ xs) = ap (λ l. item_lines x ++ l) (lines_unlined xs) ∙ ap (λ l. l ++ flat_map item_lines (map item_unlined xs)) (by x)
  where
    by : (x : Item) → item_lines x ≡ item_lines (item_unlined x)
    by (LineItem l) = refl
    by _ = refl

module_unlined : (xs : List Item) → unlined (module_of xs) ≡ module_of (map item_unlined xs)
module_unlined xs =
    let p = ap (filter is_prelude_line) (lines_unlined xs) in
    let t = ap (filter is_tail_line) (lines_unlined xs) in
    let a = unlined_of item_types type_unlined types_unlined xs in
    let b = unlined_of item_globals global_unlined globals_unlined xs in
    let c = unlined_of item_functions function_unlined functions_unlined xs in
    λ i. record { prelude = p i; types = a i; globals = b i; functions = c i; tail = t i }

-- ---- the parts of a module

-- those of one kind
rows_parts : {X : Type 0} (P : X → Type 0) (f : Item → List X) → ((x : Item) → IsItem x → AllByRecursion P (f x)) → (xs : List Item) → AllByRecursion IsItem xs → AllByRecursion P (flat_map f xs)
rows_parts P f law [] h = tt
rows_parts P f law (x ∷ xs) h = each_append P (f x) (flat_map f xs) (law x h.0) (rows_parts P f law xs h.1)

of_types : (x : Item) → IsItem x → AllByRecursion FormedType (item_types x)
of_types (TypeItem d) p = (p, tt)
of_types _ p = tt

of_globals : (x : Item) → IsItem x → AllByRecursion FormedGlobal (item_globals x)
of_globals (VariableItem d) p = (p, tt)
of_globals _ p = tt

of_functions : (x : Item) → IsItem x → AllByRecursion FormedFunction (item_functions x)
of_functions (FunctionItem d) p = (p, tt)
of_functions _ p = tt

abbrev IsSomeLine : List ℕ → Type 0
IsSomeLine line = FormedLine (is_prelude_line line) line

of_lines : (x : Item) → IsItem x → AllByRecursion IsSomeLine (item_lines x)
of_lines (LineItem line) p = (p, tt)
of_lines _ p = tt

-- lines that pass a test which tells where they stand
lines_filtered : (before : Bool) (p : List ℕ → Bool) → ((line : List ℕ) → p line ≡ true → is_prelude_line line ≡ before) → (ls : List (List ℕ)) → AllByRecursion IsSomeLine ls → AllByRecursion (FormedLine before) (filter p ls)
lines_filtered before p law [] h = tt
lines_filtered before p law (l ∷ ls) h = by (p l) refl (lines_filtered before p law ls h.1)
  where
    by : (b : Bool) → p l ≡ b → AllByRecursion (FormedLine before) (filter p ls) → AllByRecursion (FormedLine before) (cond b (l ∷ filter p ls) (filter p ls))
    by true e r = (record { bytes = h.0.bytes; passive = h.0.passive; place = law l e }, r)
    by false e r = r

not_true : (b : Bool) → not b ≡ true → b ≡ false
not_true true e = sym e
not_true false e = refl

pub module_parts : (m : Module) → IsSpelled module_to_end m → FormedParts m
module_parts m g =
    let a = good_then g in
    let xs = a.value in
    let h = each_as item_parts xs (good_many item xs a.front) in
    let ls = rows_parts IsSomeLine item_lines of_lines xs h in
    subst FormedParts (sym (good_done a.rest)) (record {
      prelude = All-from_recursion (FormedLine true) _ (lines_filtered true is_prelude_line (λ l e. e) (flat_map item_lines xs) ls);
      types = All-from_recursion FormedType _ (rows_parts FormedType item_types of_types xs h);
      globals = All-from_recursion FormedGlobal _ (rows_parts FormedGlobal item_globals of_globals xs h);
      functions = All-from_recursion FormedFunction _ (rows_parts FormedFunction item_functions of_functions xs h);
      tail = All-from_recursion (FormedLine false) _ (lines_filtered false is_tail_line (λ l e. not_true (is_prelude_line l) e) (flat_map item_lines xs) ls);
    })

-- ---- what is made of parts is spelled by its canonical text

all_items : {X : Type 0} (P : X → Type 0) (g : X → Item) → ((x : X) → P x → IsItem (g x)) → (xs : List X) → All P xs → AllByRecursion IsItem (map g xs)
all_items P g law xs h = each_mapped IsItem g law xs (recursion_from_All P xs h)

-- a line is of the prelude or of the tail by itself
line_item_is : (before : Bool) (line : List ℕ) → FormedLine before line → IsItem (LineItem line)
line_item_is before line p = record { bytes = p.bytes; passive = p.passive; place = refl }

order_items : (m : Module) → FormedParts m → AllByRecursion IsItem (in_order m)
order_items m h =
    each_append IsItem (map LineItem m.prelude) _ (all_items (FormedLine true) LineItem (line_item_is true) m.prelude h.prelude)
    (each_append IsItem (map TypeItem m.types) _ (all_items FormedType TypeItem (λ x p. p) m.types h.types)
    (each_append IsItem (map VariableItem m.globals) _ (all_items FormedGlobal VariableItem (λ x p. p) m.globals h.globals)
    (each_append IsItem (map FunctionItem m.functions) (map LineItem m.tail) (all_items FormedFunction FunctionItem (λ x p. p) m.functions h.functions)
    (all_items (FormedLine false) LineItem (line_item_is false) m.tail h.tail))))

pub module_back : (m : Module) → FormedParts m → Back OnLines (Text m) module_to_end (SameButLines m)
module_back m h =
    let xs = in_order m in
    let s = lines_like item_text item item_unlined xs (all_like OnLines item_text item item_unlined IsItem item_back xs (order_items m h)) in
    let known : unlined m ≡ module_of (map item_unlined xs) = ap unlined (sym (ordered m h)) ∙ module_unlined xs in
    record {
      tokens = s.tokens;
      lexed = subst (λ t. OnLines t s.tokens) (order_text m) s.lexed;
      spelled = spelled_as (append-nil s.tokens) (spelled_then {T = λ ys. done (module_of ys)} {ls = s.tokens} {ms = []} {Q = SameButLines m} s.spelled (λ ys p.
          spelled_done (module_of ys) (SameButLines m) (known ∙ ap module_of p ∙ sym (module_unlined ys))));
    }

-- the whole text
pub whole_text : (m : Module) (b : Back OnLines (Text m) module_to_end (SameButLines m)) → Outer (Text m) b.tokens
whole_text m b = subst (λ t. Outer t b.tokens) (append-nil (Text m)) (subst (Outer (Text m ++ [])) (append-nil b.tokens) (b.lexed.before [] [] outer_end))

-- a text within the limit that is lexed so spells the module
read_back : (m : Module) → Back OnLines (Text m) module_to_end (SameButLines m) → length (Text m) ≤ text_limit → ReadsBack (Text m) m
read_back m b l =
    let r = lexed_whole (Text m) b.tokens l (whole_text m b) in
    let a = b.spelled.all (lexemes (take text_limit (Text m)) r.0) r.2 in
    (a.0, (r.0, r.1, a.1), a.2)

-- ---- the laws

pub parts_of_formed : (m : Module) → Formed m → FormedParts m
parts_of_formed m f = parts_same m f.spelled f.same (module_parts f.spelled (record { tokens = lexemes f.text (tokens_from f.text 0 f.pieces); fine = tokens_fine text_start f.text f.pieces f.bytes f.whole; is = f.spells }))

pub canonical_text_spells : (m : Module) → Formed m → length (Text m) ≤ text_limit → ReadsBack (Text m) m
canonical_text_spells m f l = read_back m (module_back m (parts_of_formed m f)) l
