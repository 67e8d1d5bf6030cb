-- Items that are read one after another are items of the grammar.
use Rattle.std.proofs.Common.{◌≡◌, ℕ, List, [], ◌∷◌, ◌++◌, Option, Some, None, Ok, Err, refl, sym, ap, ◌∙◌, subst, inl, inr, append_assoc}
use Rattle.std.proofs.lemmas.List.{append-nil}
use Rattle.ir_core.specs.declared.module.Global.{Global as GlobalItem}
use Rattle.ir_core.specs.Tokens.{Lexeme}
use Rattle.ir_core.specs.Spell.{any, many, one, IsWordIn, IsMark, with_line, mark}
use Rattle.ir_core.specs.Spell as spell
use Rattle.ir_core.specs.Forms.{IsItemName}
use Rattle.ir_core.specs.Language.{global_of, Item, TypeItem, VariableItem, FunctionItem, LineItem, item}
use Rattle.read_forms.specs.Read.{Shrinks}
use Rattle.read_forms.proofs.Readers.{Taken, Halted, Begins}
use Rattle.read_forms.proofs.Many.{shrinks_by}
use Rattle.read_items.specs.Linked.{Linked}
use Rattle.read_items.specs.Globals.{Named, global_item}
use Rattle.read_items.specs.Items.{TypeForm, VariableForm, DefinitionForm, DeclarationForm, LineForm, item_at}
use Rattle.read_items.proofs.Modules.{EndsOr, holds_ends}
use Rattle.read_items.proofs.ItemLaws.{Next, BegunOf, begun_reads, ItemOf, item_begins, StepOf, item_reads, global_first}

-- ---- a global, and what is begun of the next

-- a global that is ended, or one without contents and what is begun of the next
abbrev Ended : Named → List Lexeme → Next → Type 0
Ended name ts (v, None) = (g : GlobalItem) × (v ≡ VariableItem g) × global_of name ts g
Ended name ts (v, Some b) = (g : GlobalItem) × (front : List Lexeme) × (t u : Lexeme) × (line : ℕ) × (v ≡ VariableItem g) × global_of name front g × (with_line IsItemName t b) × IsMark 61 u line × (ts ≡ front ++ t ∷ u ∷ [])

behind_four : (a b c d : List Lexeme) → a ++ (b ++ (c ++ d)) ≡ (a ++ (b ++ (c ++ []))) ++ d
behind_four a b c d =
    ap (λ (l : List Lexeme). a ++ (b ++ (l ++ d))) (sym (append-nil c)) ∙ ap (λ (l : List Lexeme). a ++ l) (sym (append_assoc b (c ++ []) d)) ∙ sym (append_assoc a (b ++ (c ++ [])) d)

begun_ended : (name : Named) (ts : List Lexeme) (v : Item) (b : Option Named) → BegunOf name ts (v, b) → Ended name ts (v, b)
begun_ended name ts v b (g, f, r, (words, f0, r0, W, (constant, f1, r1, C, (ty, f2, r2, T, (c, f3, r3, H, (end, w), e3), e2), e1), e0), (nil, x), e) =
    let whole : ts ≡ f0 ++ (f1 ++ (f2 ++ f3)) = e ∙ ap (λ (l : List Lexeme). f ++ l) nil ∙ append-nil f ∙ e0 ∙ ap (λ (l : List Lexeme). f0 ++ l) (e1 ∙ ap (λ (l : List Lexeme). f1 ++ l) (e2 ∙ ap (λ (l : List Lexeme). f2 ++ l) (e3 ∙ ap (λ (l : List Lexeme). f3 ++ l) end ∙ append-nil f3))) in
    let item_is : v ≡ VariableItem g.0 = ap (λ (n : Next). n.0) x in
    let next_is : b ≡ c.next = ap (λ (n : Next). n.1) x ∙ ap (λ (h : GlobalItem × Option Named). h.1) w in
    let global_is : g.0 ≡ global_item name words constant ty c = ap (λ (h : GlobalItem × Option Named). h.0) w in
    by_end b whole (item_is ∙ ap VariableItem global_is) next_is (holds_ends name words constant ty f3 c H)
  where
    by_end : (b : Option Named) → ts ≡ f0 ++ (f1 ++ (f2 ++ f3)) → v ≡ VariableItem (global_item name words constant ty c) → b ≡ c.next → EndsOr name words constant ty f3 c → Ended name ts (v, b)
    by_end None whole i n (inl (k, s)) = (global_item name words constant ty c, i, (words, f0, f1 ++ (f2 ++ f3), W, (constant, f1, f2 ++ f3, C, (ty, f2, f3, T, s, refl), refl), whole))
    by_end (Some b) whole i n (inl (k, s)) = absurd (let z : ◌≡◌ {A = Option Named} (Some b) None = n ∙ k in cc)
    by_end None whole i n (inr (d, k, h, s)) = absurd (let z : ◌≡◌ {A = Option Named} None (Some d) = n ∙ k in cc)
    by_end (Some b) whole i n (inr (d, k, (t, u, line, h, m, q), s)) =
        let same : d ≡ b = (let z : ◌≡◌ {A = Option Named} (Some b) (Some d) = n ∙ k in cc) in (
          global_item name words constant ty c,
          f0 ++ (f1 ++ (f2 ++ [])),
          t,
          u,
          line,
          i,
          (words, f0, f1 ++ (f2 ++ []), W, (constant, f1, f2 ++ [], C, (ty, f2, [], T, s, refl), refl), refl),
          subst (λ z. with_line IsItemName t z) same h,
          m,
          whole ∙ ap (λ (l : List Lexeme). f0 ++ (f1 ++ (f2 ++ l))) q ∙ behind_four f0 f1 f2 (t ∷ u ∷ []),
        )

-- ---- all items

-- where the name of the next item is read already, that and the = behind it stand before
abbrev Spelled : Option Named → List Lexeme → List Item → Type 0
Spelled None ts xs = many item ts xs
Spelled (Some name) ts xs = (t u : Lexeme) (line : ℕ) → with_line IsItemName t name → IsMark 61 u line → many item (t ∷ u ∷ ts) xs

global_is : (name : Named) (t u : Lexeme) (line : ℕ) (ts : List Lexeme) (g : GlobalItem) → with_line IsItemName t name → IsMark 61 u line → global_of name ts g → item (t ∷ u ∷ ts) (VariableItem g)
global_is name t u line ts g h m s = (name, t ∷ [], u ∷ ts, (t, h, refl), (line, u ∷ [], ts, (u, m, refl), s, refl), refl)

begun_then : (name : Named) (front rest ts : List Lexeme) (v : Item) (b : Option Named) (xs : List Item) → Ended name front (v, b) → Spelled b rest xs → ts ≡ front ++ rest → Spelled (Some name) ts (v ∷ xs)
begun_then name front rest ts v None xs (g, i, s) more e =
    λ t u line h m. (t ∷ u ∷ front, rest, subst (item (t ∷ u ∷ front)) (sym i) (global_is name t u line front g h m s), more, ap (λ (l : List Lexeme). t ∷ u ∷ l) e)
begun_then name front rest ts v (Some b) xs (g, f, t', u', line', i, s, h', m', q) more e =
    λ t u line h m. (t ∷ u ∷ f, t' ∷ u' ∷ rest, subst (item (t ∷ u ∷ f)) (sym i) (global_is name t u line f g h m s), more t' u' line' h' m', ap (λ (l : List Lexeme). t ∷ u ∷ l) (e ∙ ap (λ (l : List Lexeme). l ++ rest) q ∙ append_assoc f (t' ∷ u' ∷ []) rest))

-- an item that begins nothing
made_of : {X : Type 0} (S : List Lexeme → X → Type 0) (make : X → Item) (front : List Lexeme) (n : Next) → spell.◌>>=◌ S (λ x. spell.done (make x, None)) front n → (x : X) × S front x × (n ≡ (make x, None))
made_of S make front n (x, a, z, s, (end, v), e) = (x, subst (λ l. S l x) (sym (e ∙ ap (λ (l : List Lexeme). a ++ l) end ∙ append-nil a)) s, v)

then_items : (front rest ts : List Lexeme) (v w : Item) (b : Option Named) (xs : List Item) → item front w → ◌≡◌ {A = Next} (v, b) (w, None) → Spelled b rest xs → ts ≡ front ++ rest → many item ts (v ∷ xs)
then_items front rest ts v w b xs s n more e =
    let i : v ≡ w = ap (λ (p : Next). p.0) n in
    let k : b ≡ None = ap (λ (p : Next). p.1) n in
    (front, rest, subst (item front) (sym i) s, subst (λ d. Spelled d rest xs) k more, e)

pub linked_spelled : (a : Option Named) (ts : List Lexeme) (xs : List Item) → Linked StepOf a ts xs → Spelled a ts xs
linked_spelled None ts [] (a, e) = e
linked_spelled (Some name) ts [] (a, e) = absurd (let z : ◌≡◌ {A = Option Named} (Some name) None = a in cc)
linked_spelled (Some name) ts (v ∷ xs) (b, front, rest, s, more, e) = begun_then name front rest ts v b xs (begun_ended name front v b s) (linked_spelled b rest xs more) e
linked_spelled None ts (v ∷ xs) (b, front, rest, (TypeForm, s), more, e) = let m = made_of _ TypeItem front (v, b) s in then_items front rest ts v (TypeItem m.0) b xs m.1 m.2 (linked_spelled b rest xs more) e
linked_spelled None ts (v ∷ xs) (b, front, rest, (DefinitionForm, s), more, e) = let m = made_of _ FunctionItem front (v, b) s in then_items front rest ts v (FunctionItem m.0) b xs (inl m.1) m.2 (linked_spelled b rest xs more) e
linked_spelled None ts (v ∷ xs) (b, front, rest, (DeclarationForm, s), more, e) = let m = made_of _ FunctionItem front (v, b) s in then_items front rest ts v (FunctionItem m.0) b xs (inr m.1) m.2 (linked_spelled b rest xs more) e
linked_spelled None ts (v ∷ xs) (b, front, rest, (LineForm, s), more, e) = let m = made_of _ LineItem front (v, b) s in then_items front rest ts v (LineItem m.0) b xs m.1 m.2 (linked_spelled b rest xs more) e
linked_spelled None ts (v ∷ xs) (b, front, rest, (VariableForm, (name, f, r, (t, h, k), (line, f', r', (u, m, k'), s, e2), e1)), more, e) =
    subst (λ l. many item l (v ∷ xs)) (sym (e ∙ ap (λ (l : List Lexeme). l ++ rest) (e1 ∙ ap (λ (l : List Lexeme). l ++ r) k ∙ ap (λ (l : List Lexeme). t ∷ l) (e2 ∙ ap (λ (l : List Lexeme). l ++ r') k'))))
    (begun_then name r' rest (r' ++ rest) v b xs (begun_ended name r' v b s) (linked_spelled b rest xs more) refl t u line h m)

-- ---- the laws of linked reading, for items

pub step_takes : (a : Option Named) (ts : List Lexeme) (x : Next) (rest : List Lexeme) → item_at a ts ≡ Ok (x, rest) → Taken (item_at a) (StepOf a) ts x rest
step_takes None ts x rest e = item_reads.takes ts x rest e
step_takes (Some name) ts x rest e = (begun_reads name).takes ts x rest e

pub step_halts : (a : Option Named) (ts : List Lexeme) (n : ℕ) → item_at a ts ≡ Err n → Halted (item_at a) (StepOf a) ts n
step_halts None ts n e = item_reads.halts ts n e
step_halts (Some name) ts n e = (begun_reads name).halts ts n e

item_first : Begins (any ItemOf) (λ t. Unit {0})
item_first front x s = let u = item_begins s.0 front x s.1 in (u.0, u.1, tt, u.3)

pub step_shrinks : (a : Option Named) → Shrinks (item_at a)
step_shrinks None = shrinks_by _ _ _ _ item_reads item_first
step_shrinks (Some name) = shrinks_by _ _ _ _ (begun_reads name) (global_first name)
