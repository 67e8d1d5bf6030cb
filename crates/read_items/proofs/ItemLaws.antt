-- The items of a module are read as they are spelled, and nothing else is.
use Rattle.std.proofs.Common.{◌≡◌, ℕ, List, [], ◌∷◌, ◌++◌, codes, drop, Option, Some, None, Bool, true, false, cond, refl, ap, ◌∙◌, subst}
use Rattle.ir_core.specs.Tokens.{Lexeme, TokenKind, Word, Global, Passive}
use Rattle.ir_core.specs.Spell.{any, many, one, IsWord, IsWordIn, with_line, mark}
use Rattle.ir_core.specs.Spell as spell
use Rattle.ir_core.specs.Escapes.{stem_name}
use Rattle.ir_core.specs.Forms.{IsLocal, IsItemName, begins_with_llvm}
use Rattle.ir_core.specs.Language.{Item, TypeItem, VariableItem, FunctionItem, LineItem, IsPassiveLine, type_def, definition, declaration}
use Rattle.read_forms.specs.Read.{goes, as_global, as_table, is_local, is_global}
use Rattle.read_forms.proofs.Readers.{Reads, Begins, Tests, one_reads, then_reads, pick_reads, one_begins, then_begins, reads_before}
use Rattle.read_forms.proofs.TokenTests.{global_tests, lined_tests, some_is, chosen_some}
use Rattle.read_forms.proofs.Lists.{mark_reads}
use Rattle.read_forms.proofs.Laws.{word_begins, word_form, made_reads}
use Rattle.read_items.specs.Globals.{Named}
use Rattle.read_items.specs.Items.{item_name_by, no_llvm, as_item_name, is_passive, as_line, ItemForm, TypeForm, VariableForm, DefinitionForm, DeclarationForm, LineForm, item_form_words, word_or_line, item_form_of, item_ahead, begun_at, type_item_at, variable_item_at, definition_item_at, declaration_item_at, line_item_at, item_at_form, item_at}
use Rattle.read_items.proofs.Contents.{Strong}
use Rattle.read_items.proofs.GlobalLaws.{GlobalOf, global_reads, type_def_reads}
use Rattle.read_items.proofs.FunctionLaws.{Behind}
use Rattle.read_items.proofs.Definitions.{definition_reads, declaration_reads}

-- ---- single tokens

name_found : (t : Lexeme) (o : Option (List ℕ)) (b : Bool) (x : List ℕ) → as_global t ≡ o → (y : List ℕ) → o ≡ Some y → begins_with_llvm y ≡ b → item_name_by b y ≡ Some x → IsItemName t x
name_found t o true x e y f h k = absurd (let n : ◌≡◌ {A = Option (List ℕ)} None (Some x) = k in cc)
name_found t o false x e y f h k = let p = some_is y x k in subst (IsItemName t) p (global_tests.found t y (e ∙ f), h)

item_name_found : (t : Lexeme) (o : Option (List ℕ)) (x : List ℕ) → as_global t ≡ o → no_llvm o ≡ Some x → IsItemName t x
item_name_found t None x e h = absurd (let n : ◌≡◌ {A = Option (List ℕ)} None (Some x) = h in cc)
item_name_found t (Some y) x e h = name_found t (Some y) (begins_with_llvm y) x e y refl refl h

item_name_only : (t : Lexeme) (x : List ℕ) → IsItemName t x → as_item_name t ≡ Some x
item_name_only t x h = ap no_llvm (global_tests.only t x h.0) ∙ ap (λ (b : Bool). item_name_by b x) h.1

pub item_name_tests : Tests as_item_name IsItemName
item_name_tests = record {
  found = λ t x h. item_name_found t (as_global t) x refl h;
  only = item_name_only;
  some = record { kind = Global; bytes = codes "@x"; line = 0 };
  value = codes "x";
  holds = ((refl, refl), refl);
}

passive_kind : (k : TokenKind) → is_passive k ≡ true → k ≡ Passive
passive_kind Passive e = refl
passive_kind _ e = absurd (let f : ◌≡◌ {A = Bool} false true = e in cc)

line_found : (t : Lexeme) (x : List ℕ) → as_line t ≡ Some x → IsPassiveLine t x
line_found t x h = let c = chosen_some (is_passive t.kind) (Some t.bytes) x h in (passive_kind t.kind c.0, some_is t.bytes x c.1)

pub line_tests : Tests as_line IsPassiveLine
line_tests = record {
  found = line_found;
  only = λ t x h. ap (λ (k : TokenKind). cond (is_passive k) (Some t.bytes) None) h.0 ∙ ap Some h.1;
  some = record { kind = Passive; bytes = []; line = 0 };
  value = [];
  holds = (refl, refl);
}

-- ---- an item, and what is begun of the next

abbrev pub Next : Type 0
Next = Item × Option Named

abbrev pub BegunOf : Named → List Lexeme → Next → Type 0
BegunOf name = spell.◌>>=◌ (GlobalOf name) (λ g. spell.done (VariableItem g.0, g.1))

pub begun_reads : (name : Named) → Reads (begun_at name) (BegunOf name) Strong
unfolding begun_at
begun_reads name = made_reads (λ g. (VariableItem g.0, g.1)) (global_reads name)

abbrev pub ItemOf : ItemForm → List Lexeme → Next → Type 0
ItemOf TypeForm = spell.◌>>=◌ type_def (λ d. spell.done (TypeItem d, None))
ItemOf VariableForm = spell.◌>>=◌ (one (with_line IsItemName)) (λ name. spell.◌>>=◌ (mark 61) (λ equals. BegunOf name))
ItemOf DefinitionForm = spell.◌>>=◌ definition (λ f. spell.done (FunctionItem f, None))
ItemOf DeclarationForm = spell.◌>>=◌ declaration (λ f. spell.done (FunctionItem f, None))
ItemOf LineForm = spell.◌>>=◌ (one IsPassiveLine) (λ line. spell.done (LineItem line, None))

-- what stands behind any item
pub record EndsItem (ts : List Lexeme) : Type 0 where
  pub strong : Strong ts
  pub behind : Behind ts

pub item_form_reads : (form : ItemForm) → Reads (item_at_form form) (ItemOf form) EndsItem
unfolding type_item_at variable_item_at definition_item_at declaration_item_at line_item_at
item_form_reads TypeForm = reads_before EndsItem (λ ts h. h.strong.3) (made_reads (λ d. (TypeItem d, None)) type_def_reads)
item_form_reads VariableForm = reads_before EndsItem (λ ts h. h.strong) (then_reads (one_reads _ _ (lined_tests _ _ item_name_tests)) (λ name. then_reads (mark_reads 61) (λ equals. begun_reads name)))
item_form_reads DefinitionForm = reads_before EndsItem (λ ts h. tt) (made_reads (λ f. (FunctionItem f, None)) definition_reads)
item_form_reads DeclarationForm = reads_before EndsItem (λ ts h. h.behind) (made_reads (λ f. (FunctionItem f, None)) declaration_reads)
item_form_reads LineForm = reads_before EndsItem (λ ts h. tt) (made_reads (λ line. (LineItem line, None)) (one_reads _ _ line_tests))

by_word : (t : Lexeme) (form : ItemForm) → t.kind ≡ Word → as_table item_form_words t ≡ Some form → item_form_of t ≡ Some form
by_word t form k e = ap (λ (j : TokenKind). cond (is_local j) (Some TypeForm) (cond (goes (no_llvm (cond (is_global j) (Some (stem_name (drop 1 t.bytes))) None))) (Some VariableForm) (cond (is_passive j) (Some LineForm) (as_table item_form_words t)))) k ∙ e

pub variable_ahead : (t : Lexeme) (x : List ℕ) → IsItemName t x → item_ahead (Some t) ≡ Some VariableForm
variable_ahead t x h = ap (λ (k : TokenKind). cond (is_local k) (Some TypeForm) (cond (goes (as_item_name t)) (Some VariableForm) (word_or_line t))) h.0.0 ∙ ap (λ (o : Option (List ℕ)). cond (goes o) (Some VariableForm) (word_or_line t)) (item_name_only t x h)

pub item_begins : (form : ItemForm) → Begins (ItemOf form) (λ t. item_ahead (Some t) ≡ Some form)
item_begins TypeForm = then_begins _ _ _ (then_begins _ _ _ (one_begins (with_line IsLocal) _ (λ t x h. ap (λ (k : TokenKind). cond (is_local k) (Some TypeForm) (cond (goes (as_item_name t)) (Some VariableForm) (word_or_line t))) h.0.0)))
item_begins VariableForm = then_begins _ _ _ (one_begins _ _ (λ t x h. variable_ahead t x.0 h.0))
item_begins DefinitionForm = then_begins _ _ _ (then_begins _ _ _ (word_begins _ _ (λ t line h. by_word t DefinitionForm h.0 (word_form item_form_words (codes "define") t line h))))
item_begins DeclarationForm = then_begins _ _ _ (then_begins _ _ _ (word_begins _ _ (λ t line h. by_word t DeclarationForm h.0 (word_form item_form_words (codes "declare") t line h))))
item_begins LineForm = then_begins _ _ _ (one_begins _ _ (λ t x h. ap (λ (k : TokenKind). cond (is_local k) (Some TypeForm) (cond (goes (no_llvm (cond (is_global k) (Some (stem_name (drop 1 t.bytes))) None))) (Some VariableForm) (cond (is_passive k) (Some LineForm) (as_table item_form_words t)))) h.0))

abbrev pub StepOf : Option Named → List Lexeme → Next → Type 0
StepOf None = any ItemOf
StepOf (Some name) = BegunOf name

pub item_reads : Reads (item_at None) (any ItemOf) EndsItem
item_reads = pick_reads item_ahead item_at_form ItemOf EndsItem item_form_reads item_begins LineForm

-- a global that is begun has one more token
first_of : (f r : List Lexeme) (t : Lexeme) (more : List Lexeme) → r ≡ t ∷ more → (u : Lexeme) × (m : List Lexeme) × (f ++ r ≡ u ∷ m)
first_of [] r t more e = (t, more, e)
first_of (u ∷ us) r t more e = (u, us ++ r, refl)

pub global_first : (name : Named) → Begins (BegunOf name) (λ t. Unit {0})
global_first name front n (g, f, r, (words, f0, r0, W, (constant, f1, r1, (t, h, k), s, e1), e0), d, e) =
    let u = first_of f0 r0 t r1 (e1 ∙ ap (λ (l : List Lexeme). l ++ r1) k) in
    (u.0, u.1 ++ r, tt, e ∙ ap (λ (l : List Lexeme). l ++ r) (e0 ∙ u.2))
