-- Items of a module: what spells one is spelled by its canonical text, but for lines.
use Rattle.std.proofs.Common.{◌≡◌, ℕ, List, [], ◌∷◌, ◌++◌, append_assoc, map, refl, sym, ap, subst, inl, inr, ◌⊎◌, codes}
use Rattle.std.specs.List.{flat_map}
use Rattle.ir_core.specs.declared.module.TypeDef.{TypeDef}
use Rattle.ir_core.specs.declared.module.Global.{Global as GlobalItem}
use Rattle.ir_core.specs.declared.module.Function.{Function}
use Rattle.ir_core.specs.Tokens.{Passive, Lexeme, IsPassive}
use Rattle.ir_core.specs.Spell.{one, many}
use Rattle.ir_core.specs.Language.{definition, declaration, Item, TypeItem, VariableItem, FunctionItem, LineItem, IsPassiveLine, item, is_prelude_line}
use Rattle.ir_core.specs.Text.{line_text, type_def_text, global_text, function_text}
use Rattle.ir_core.specs.Lines.{type_unlined, global_unlined, function_unlined}
use Rattle.text_laws.specs.Parts.{FormedFunction, FormedType, FormedGlobal, FormedLine}
use Rattle.text_laws.proofs.Rows.{Bare, bare, bare_of, Outer}
use Rattle.text_laws.proofs.Joined.{OnLines, regroup_outer}
use Rattle.text_laws.proofs.Spelled.{Shows, no_tokens, spelled_one}
use Rattle.text_laws.proofs.LineFronts.{passive_outer}
use Rattle.text_laws.specs.Spelling.{Shaped, AreBytes, IsSpelled}
use Rattle.text_laws.proofs.Good.{good_one, good_either}
use Rattle.text_laws.proofs.Back.{Back}
use Rattle.text_laws.proofs.Blocks.{Like, AllLike, like_cons}
use Rattle.text_laws.proofs.Definitions.{FunctionLike, definition_parts, declaration_parts, function_back}
use Rattle.text_laws.proofs.Globals.{TypeLike, type_back, GlobalLike, global_back, type_parts, global_parts}

-- ---- one item behind the other

pub lines_then : {a b : List ℕ} {la lb : List Bare} → OnLines a la → OnLines b lb → OnLines (a ++ b) (la ++ lb)
lines_then {a} {b} {la} {lb} x y = record { before = λ rest ms o. regroup_outer a b rest la lb ms (x.before (b ++ rest) (lb ++ ms) (y.before rest ms o)) }

pub lines_like : {X Y : Type 0} (show : X → List ℕ) (S : List Lexeme → X → Type 0) (f : X → Y) (xs : List X) → AllLike OnLines show S f xs → Back OnLines (flat_map show xs) (many S) (λ ys. map f xs ≡ map f ys)
lines_like show S f [] h = record { tokens = []; lexed = record { before = λ rest ms r. r }; spelled = record { all = λ ts e. ([], no_tokens ts e, refl) } }
lines_like show S f (x ∷ xs) h =
    let s = h.0 in
    let t = lines_like show S f xs h.1 in
    record { tokens = s.tokens ++ t.tokens; lexed = lines_then s.lexed t.lexed; spelled = like_cons S f x xs s.tokens t.tokens s.spelled t.spelled }

-- ---- items

abbrev pub item_text : Item → List ℕ
item_text (TypeItem d) = type_def_text d
item_text (VariableItem g) = global_text g
item_text (FunctionItem f) = function_text f
item_text (LineItem line) = line_text line

abbrev pub item_unlined : Item → Item
item_unlined (TypeItem d) = TypeItem (type_unlined d)
item_unlined (VariableItem g) = VariableItem (global_unlined g)
item_unlined (FunctionItem f) = FunctionItem (function_unlined f)
item_unlined (LineItem line) = LineItem line

abbrev pub ItemLike : Item → Type 0
ItemLike x = Like OnLines item_text item item_unlined x

type_item : (d : TypeDef) → TypeLike d → ItemLike (TypeItem d)
type_item d s = record { tokens = s.tokens; lexed = s.lexed; spelled = record { all = λ ts e. let a = s.spelled.all ts e in (TypeItem a.0, a.1, ap TypeItem a.2) } }

variable_item : (d : GlobalItem) → GlobalLike d → ItemLike (VariableItem d)
variable_item d s = record { tokens = s.tokens; lexed = s.lexed; spelled = record { all = λ ts e. let a = s.spelled.all ts e in (VariableItem a.0, a.1, ap VariableItem a.2) } }

defined_item : (f : Function) → FunctionLike f definition → ItemLike (FunctionItem f)
defined_item f s = record { tokens = s.tokens; lexed = s.lexed; spelled = record { all = λ ts e. let a = s.spelled.all ts e in (FunctionItem a.0, inl a.1, ap FunctionItem a.2) } }

declared_item : (f : Function) → FunctionLike f declaration → ItemLike (FunctionItem f)
declared_item f s = record { tokens = s.tokens; lexed = s.lexed; spelled = record { all = λ ts e. let a = s.spelled.all ts e in (FunctionItem a.0, inr a.1, ap FunctionItem a.2) } }

line_item : (line : List ℕ) → AreBytes line → IsPassive line → ItemLike (LineItem line)
line_item line n h = record {
  tokens = bare Passive line ∷ [];
  lexed = record { before = λ rest ms o. subst (λ t. Outer t (bare Passive line ∷ ms)) (sym (append_assoc line (codes "\n") rest)) (passive_outer line rest ms n h o) };
  spelled = record { all = λ ts e. by ts e };
}
  where
    shows : Shows IsPassiveLine (bare Passive line) (λ x. line ≡ x)
    shows t e = (line, (ap (λ (b : Bare). b.kind) e, ap (λ (b : Bare). b.bytes) e), refl)

    by : (ts : List Lexeme) → map bare_of ts ≡ bare Passive line ∷ [] → (x : Item) × item ts x × (LineItem line ≡ item_unlined x)
    by ts e = let a = (spelled_one {Is = IsPassiveLine} {P = λ x. line ≡ x} shows).all ts e in (LineItem a.0, a.1, ap LineItem a.2)

-- ---- what an item is by its parts

abbrev pub IsItem : Item → Type 0
IsItem (TypeItem d) = FormedType d
IsItem (VariableItem g) = FormedGlobal g
IsItem (FunctionItem f) = FormedFunction f
IsItem (LineItem line) = FormedLine (is_prelude_line line) line

pub item_parts : (x : Item) → IsSpelled item x → IsItem x
item_parts (TypeItem d) g = type_parts d (record { tokens = g.tokens; fine = g.fine; is = g.is })
item_parts (VariableItem d) g = global_parts d (record { tokens = g.tokens; fine = g.fine; is = g.is })
item_parts (FunctionItem f) g = by (good_either definition declaration (record { tokens = g.tokens; fine = g.fine; is = g.is }))
  where
    by : IsSpelled definition f ⊎ IsSpelled declaration f → FormedFunction f
    by (inl h) = definition_parts f h
    by (inr h) = declaration_parts f h
item_parts (LineItem line) g =
    let k : IsSpelled (one IsPassiveLine) line = record { tokens = g.tokens; fine = g.fine; is = g.is } in
    let s = good_one k in
    record { bytes = subst AreBytes s.is.1 s.fine.bytes; passive = subst IsPassive s.is.1 (subst (λ k. Shaped k s.token.bytes) s.is.0 s.fine.shape); place = refl }

pub item_back : (x : Item) → IsItem x → ItemLike x
item_back (TypeItem d) p = type_item d (type_back d p)
item_back (VariableItem d) p = variable_item d (global_back d p)
item_back (FunctionItem f) p = by (function_back f p)
  where
    by : FunctionLike f definition ⊎ FunctionLike f declaration → ItemLike (FunctionItem f)
    by (inl s) = defined_item f s
    by (inr s) = declared_item f s
item_back (LineItem line) p = line_item line p.bytes p.passive
