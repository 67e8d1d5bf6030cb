-- Items and modules: none of their tokens stands for bytes behind the limit of a text.
use Rattle.std.proofs.Common.{ℕ, zero, suc, List, inl, inr}
use Rattle.ir_core.specs.declared.types.Ty.{Ty}
use Rattle.ir_core.specs.declared.instructions.Value.TheVariants.{Int as IntValue}
use Rattle.ir_core.specs.declared.module.Init.{Init}
use Rattle.ir_core.specs.declared.module.Element.{Element}
use Rattle.ir_core.specs.Tokens.{Lexeme}
use Rattle.ir_core.specs.Spell.{one, with_line}
use Rattle.ir_core.specs.Language.{IsItemWord, kept_words, comdat_name, text_value, FunctionWordForm, KeptGroup, PlainWord, TextWord, Section, Comdat, Aligned, Attached, function_word, groups, some_local, param, param_type, heading, unlabelled, first_block, blocks, definition, declaration, IsPlainInit, InitForm, PlainInit, SquareInit, BracesInit, element_of, init_form, init_in, some_init, section_word, comdat_word, global_of, global, type_def, Item, TypeItem, VariableItem, FunctionItem, LineItem, IsPassiveLine, item, module_to_end}
use Rattle.ir_core.specs.Forms.{IsItemName, nesting_limit}
use Rattle.formed_laws.proofs.Within.{IsWithin, AllWithin, Within, within_done, within_one, of_kind, within_kind, within_then, within_any, within_either, within_list, within_laws}
use Rattle.formed_laws.proofs.FormsWithin.{value_kind, within_forms}
use Rattle.formed_laws.proofs.KindsWithin.{within_next_alignment, within_attachment}
use Rattle.formed_laws.proofs.InstsWithin.{within_body, within_block}

-- ---- headings

item_word_kind : (t : Lexeme) (words : List (List ℕ)) → IsItemWord t words → IsWithin t.kind
item_word_kind t words (inl h) = of_kind h.0.0 tt
item_word_kind t words (inr h) = of_kind h.0.0 tt

within_item_word : Within (one IsItemWord)
within_item_word = within_one item_word_kind

within_kept_words : Within kept_words
within_kept_words = search (within_laws, within_item_word)

within_heading : Within heading
within_heading = search (within_laws, within_forms, within_kept_words) depth 20

within_comdat_name : Within comdat_name
within_comdat_name = search within_laws

within_text_value : Within text_value
within_text_value = search within_laws

within_function_word : (form : FunctionWordForm) → Within (function_word form)
within_function_word KeptGroup = search within_laws
within_function_word PlainWord = search within_laws
within_function_word TextWord = search (within_laws, within_text_value)
within_function_word Section = search within_laws
within_function_word Comdat = search (within_laws, within_comdat_name)
within_function_word Aligned = search within_laws
within_function_word Attached = search (within_laws, within_attachment)

within_groups : Within groups
within_groups = search (within_laws, within_function_word)

within_some_local : Within some_local
within_some_local = search within_laws

within_param : Within param
within_param = search (within_laws, within_forms, within_some_local) depth 20

within_param_type : Within param_type
within_param_type = search (within_laws, within_forms)

-- ---- functions

within_unlabelled : (number : List ℕ) → Within (unlabelled number)
within_unlabelled number = record { all = λ ts b h. (within_body (number, h.0)).all ts b h.1 }

within_first_block : (number : List ℕ) → Within (first_block number)
within_first_block number = within_either within_block (within_unlabelled number)

within_blocks : (number : List ℕ) → Within (blocks number)
within_blocks number = search (within_laws, within_first_block, within_block) depth 20

within_definition : Within definition
within_definition = search (within_laws, within_heading, within_param, within_groups, within_blocks) depth 20

within_declaration : Within declaration
within_declaration = search (within_laws, within_heading, within_param_type, within_groups)

-- ---- initializers

plain_init_kind : (ty : Ty) (t : Lexeme) (init : Init) → IsPlainInit ty t init → IsWithin t.kind
plain_init_kind ty t init (inl h) = of_kind h.0.0 tt
plain_init_kind ty t init (inr (inl h)) = of_kind h.0.0 tt
plain_init_kind ty t init (inr (inr (inl h))) = value_kind ty t (IntValue h.0) h.1
plain_init_kind ty t init (inr (inr (inr (inl h)))) = of_kind h.1.0 tt
plain_init_kind ty t init (inr (inr (inr (inr h)))) = of_kind h.0 tt

within_plain_init : (ty : Ty) → Within (one (IsPlainInit ty))
within_plain_init ty = within_one (plain_init_kind ty)

within_element : (I : Ty → List Lexeme → Init → Type 0) → ((ty : Ty) → Within (I ty)) → Within (element_of I)
within_element I h = search (within_laws, within_forms, h)

within_init_form : (E : List Lexeme → Element → Type 0) → Within E → (ty : Ty) (form : InitForm) → Within (init_form E ty form)
within_init_form E h ty PlainInit = within_plain_init ty
within_init_form E h ty SquareInit = within_then (within_kind tt) (λ open_. within_then (within_list h) (λ elements. within_done))
within_init_form E h ty BracesInit = within_then (within_kind tt) (λ open_. within_then (within_list h) (λ elements. within_done))

within_init_in : (depth : ℕ) (ty : Ty) → Within (init_in depth ty)
within_init_in zero ty = within_plain_init ty
within_init_in (suc depth) ty = within_any (within_init_form (element_of (init_in depth)) (within_element (init_in depth) (within_init_in depth)) ty)

within_some_init : (ty : Ty) → Within (some_init ty)
within_some_init ty = search (within_laws, within_init_in nesting_limit ty)

-- ---- globals and types

within_section_word : Within section_word
within_section_word = search within_laws

within_comdat_word : Within comdat_word
within_comdat_word = search within_laws

within_global_of : (name : List ℕ × ℕ) → Within (global_of name)
within_global_of name = search (within_laws, within_forms, within_kept_words, within_some_init, within_section_word, within_comdat_word, within_next_alignment) depth 20

within_item_name : Within (one (with_line IsItemName))
within_item_name = within_one (λ t x h. of_kind h.0.0.0 tt)

within_global : Within global
within_global = search (within_laws, within_item_name, within_global_of)

within_type_def : Within type_def
within_type_def = search (within_laws, within_forms)

-- ---- modules

within_line : Within (one IsPassiveLine)
within_line = search within_laws

item_all : (ts : List Lexeme) (x : Item) → item ts x → AllWithin ts
item_all ts (TypeItem d) h = within_type_def.all ts d h
item_all ts (VariableItem g) h = within_global.all ts g h
item_all ts (FunctionItem f) (inl h) = within_definition.all ts f h
item_all ts (FunctionItem f) (inr h) = within_declaration.all ts f h
item_all ts (LineItem line) h = within_line.all ts line h

within_item : Within item
within_item = record { all = item_all }

pub within_module : Within module_to_end
within_module = search (within_laws, within_item)
