-- What stands behind an item: nothing, or another item.
use Rattle.std.proofs.Common.{◌≡◌, ℕ, List, [], ◌∷◌, ◌++◌, codes, Option, Some, None, Bool, true, false, cond, refl, ap, ◌∙◌, inl, inr}
use Rattle.ir_core.specs.declared.module.Init.{Init}
use Rattle.ir_core.specs.declared.module.Global.{Global as GlobalItem}
use Rattle.ir_core.specs.declared.module.TypeDef.{TypeDef}
use Rattle.ir_core.specs.declared.module.Function.{Function}
use Rattle.ir_core.specs.Tokens.{Lexeme, TokenKind, Local, Global, Passive}
use Rattle.ir_core.specs.Spell.{many, one, IsWordIn, with_line}
use Rattle.ir_core.specs.Forms.{IsLocal, IsItemName}
use Rattle.ir_core.specs.Language.{Item, TypeItem, VariableItem, FunctionItem, LineItem, item, IsPassiveLine, type_def, global, definition, declaration}
use Rattle.read_forms.specs.Read.{head, goes, at_mark, is_mark}
use Rattle.read_forms.specs.Forms.{space_goes}
use Rattle.read_forms.proofs.Readers.{Begins, one_begins, then_begins}
use Rattle.read_forms.proofs.Many.{Stops}
use Rattle.read_forms.proofs.TokenTests.{not_in, not_spelled, no_word_spelled}
use Rattle.read_forms.proofs.Laws.{word_begins}
use Rattle.read_items.specs.Inits.{init_words}
use Rattle.read_items.specs.Globals.{init_starts_by, init_goes}
use Rattle.read_items.specs.Functions.{function_words, function_word_goes}
use Rattle.read_items.specs.Items.{ItemForm, DefinitionForm, DeclarationForm, item_form_words}
use Rattle.read_items.proofs.Contents.{Weak, by_kind_starts}
use Rattle.read_items.proofs.FunctionLaws.{Behind, kind_no_word, word_no_word}

-- what an item begins with
module _ (q : Option Lexeme → Bool) (local : (t : Lexeme) → t.kind ≡ Local → q (Some t) ≡ false) (word : (t : Lexeme) (form : ItemForm) → IsWordIn item_form_words t form → q (Some t) ≡ false) (passive : (t : Lexeme) → t.kind ≡ Passive → q (Some t) ≡ false) where
  type_first : Begins type_def (λ t. q (Some t) ≡ false)
  type_first = then_begins _ _ _ (one_begins (with_line IsLocal) _ (λ t x h. local t h.0.0))

  definition_first : Begins definition (λ t. q (Some t) ≡ false)
  definition_first = then_begins _ _ _ (word_begins _ _ (λ t line h. word t DefinitionForm (h.0, inl (h.1, refl))))

  declaration_first : Begins declaration (λ t. q (Some t) ≡ false)
  declaration_first = then_begins _ _ _ (word_begins _ _ (λ t line h. word t DeclarationForm (h.0, inr (inl (h.1, refl)))))

  line_first : Begins (one IsPassiveLine) (λ t. q (Some t) ≡ false)
  line_first = one_begins _ _ (λ t x h. passive t h.0)

  abbrev FirstFails : List Lexeme → Type 0
  FirstFails front = (t : Lexeme) × (more : List Lexeme) × (q (Some t) ≡ false) × (front ≡ t ∷ more)

  pub type_fails : (front : List Lexeme) (x : TypeDef) → type_def front x → FirstFails front
  type_fails front x s = type_first front x s

  pub function_fails : (front : List Lexeme) (f : Function) → item front (FunctionItem f) → FirstFails front
  function_fails front f (inl s) = definition_first front f s
  function_fails front f (inr s) = declaration_first front f s

  pub line_fails : (front : List Lexeme) (x : List ℕ) → one IsPassiveLine front x → FirstFails front
  line_fails front x s = line_first front x s

  module _ (name : (t : Lexeme) → t.kind ≡ Global → q (Some t) ≡ false) where
    global_fails : (front : List Lexeme) (g : GlobalItem) → global front g → FirstFails front
    global_fails front g s = global_first front g s
      where
        global_first : Begins global (λ t. q (Some t) ≡ false)
        global_first = then_begins _ _ _ (one_begins (with_line IsItemName) _ (λ t x h. name t h.0.0.0))

    item_fails : (front : List Lexeme) (x : Item) → item front x → FirstFails front
    item_fails front (TypeItem d) s = type_fails front d s
    item_fails front (VariableItem g) s = global_fails front g s
    item_fails front (FunctionItem f) s = function_fails front f s
    item_fails front (LineItem x) s = line_fails front x s

    pub items_stop : q None ≡ false → (rest : List Lexeme) (xs : List Item) → many item rest xs → Stops q rest
    items_stop none rest [] s = ap (λ (l : List Lexeme). q (head l)) s ∙ none
    items_stop none rest (x ∷ xs) s = let u = item_fails s.0 x s.2 in ap (λ (l : List Lexeme). q (head l)) (s.4 ∙ ap (λ (l : List Lexeme). l ++ s.1) u.3) ∙ u.2

mark_stops : (m : ℕ) (rest : List Lexeme) (xs : List Item) → many item rest xs → Stops (at_mark m) rest
mark_stops m rest xs s = items_stop (at_mark m) (λ t k. ap (is_mark m) k) (λ t form h. ap (is_mark m) h.0) (λ t k. ap (is_mark m) k) (λ t k. ap (is_mark m) k) refl rest xs s

pub weak_rest : (rest : List Lexeme) (xs : List Item) → many item rest xs → Weak rest
weak_rest rest xs s = (mark_stops 44 rest xs s, mark_stops 61 rest xs s)

pub space_rest : (rest : List Lexeme) (xs : List Item) → many item rest xs → Stops space_goes rest
space_rest rest xs s =
    items_stop space_goes (λ t k. no_word_spelled (codes "addrspace") t Local k refl) (λ t form h. not_spelled item_form_words (codes "addrspace") refl t form h)
    (λ t k. no_word_spelled (codes "addrspace") t Passive k refl) (λ t k. no_word_spelled (codes "addrspace") t Global k refl) refl rest xs s

pub behind_rest : (rest : List Lexeme) (xs : List Item) → many item rest xs → Behind rest
behind_rest rest xs s = (
  items_stop function_word_goes (λ t k. kind_no_word t Local k refl refl refl refl) (λ t form h. word_no_word t h.0 (not_in item_form_words function_words refl t form h))
      (λ t k. kind_no_word t Passive k refl refl refl refl) (λ t k. kind_no_word t Global k refl refl refl refl) refl rest xs s,
  (mark_stops 61 rest xs s, mark_stops 40 rest xs s),
)

-- ---- an item that isn't a global begins no initializer

word_starts_none : (t : Lexeme) (form : ItemForm) → IsWordIn item_form_words t form → init_goes (Some t) ≡ false
word_starts_none t form h = ap (λ (o : Option Init). cond (goes o) true (init_starts_by t.kind t.bytes)) (not_in item_form_words init_words refl t form h) ∙ ap (λ (k : TokenKind). init_starts_by k t.bytes) h.0

abbrev StartsNone : List Lexeme → List Lexeme → Type 0
StartsNone front rest = init_goes (head (front ++ rest)) ≡ false

stops_by : (front rest : List Lexeme) → ((t : Lexeme) × (more : List Lexeme) × (init_goes (Some t) ≡ false) × (front ≡ t ∷ more)) → StartsNone front rest
stops_by front rest u = ap (λ (l : List Lexeme). init_goes (head (l ++ rest))) u.3 ∙ u.2

pub type_starts_none : (front rest : List Lexeme) (x : TypeDef) → type_def front x → StartsNone front rest
type_starts_none front rest x s = stops_by front rest (type_fails init_goes (λ t k. by_kind_starts t Local k refl) word_starts_none (λ t k. by_kind_starts t Passive k refl) front x s)

pub function_starts_none : (front rest : List Lexeme) (f : Function) → item front (FunctionItem f) → StartsNone front rest
function_starts_none front rest f s = stops_by front rest (function_fails init_goes (λ t k. by_kind_starts t Local k refl) word_starts_none (λ t k. by_kind_starts t Passive k refl) front f s)

pub line_starts_none : (front rest : List Lexeme) (x : List ℕ) → one IsPassiveLine front x → StartsNone front rest
line_starts_none front rest x s = stops_by front rest (line_fails init_goes (λ t k. by_kind_starts t Local k refl) word_starts_none (λ t k. by_kind_starts t Passive k refl) front x s)
