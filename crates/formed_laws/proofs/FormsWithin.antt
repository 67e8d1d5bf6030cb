-- Forms that stand in many places: none of their tokens stands for bytes behind the limit of a text.
use Rattle.std.proofs.Common.{inl, inr, ℕ, zero, suc, List}
use Rattle.ir_core.specs.declared.types.Ty.{Ty}
use Rattle.ir_core.specs.declared.instructions.Value.{Value}
use Rattle.ir_core.specs.declared.instructions.Value.TheVariants.{Int as IntValue, Null, Local as Register, Global as GlobalValue}
use Rattle.ir_core.specs.Tokens.{Lexeme}
use Rattle.ir_core.specs.Spell.{one}
use Rattle.ir_core.specs.Forms.{alignment, default_space, FlatForm, Integer, Pointer, NamedForm, flat_form, TypeForm, Flat, ArrayForm, StructForm, type_form, type_in, nesting_limit, type_, result_type, AttributeForm, PlainAttribute, AlignAttribute, SizedAttribute, attribute_form, attributes, IsValue, typed, target}
use Rattle.formed_laws.proofs.Within.{IsWithin, Within, within_done, within_one, of_kind, within_kind, within_word, within_natural, within_then, within_any, within_either, within_list, within_laws}

pub within_alignment : Within alignment
within_alignment = search within_laws

-- ---- types

within_space : Within default_space
within_space = search within_laws depth 20

within_flat : (form : FlatForm) → Within (flat_form form)
within_flat Integer = search within_laws
within_flat Pointer = search (within_laws, within_space)
within_flat NamedForm = search within_laws

within_type_form : (T : List Lexeme → Ty → Type 0) → Within T → (form : TypeForm) → Within (type_form T form)
within_type_form T h Flat = within_any within_flat
within_type_form T h ArrayForm = within_then (within_kind tt) (λ open_. within_then within_natural (λ n. within_then within_word (λ times. within_then h (λ item. within_then (within_kind tt) (λ close. within_done)))))
within_type_form T h StructForm = within_then (within_kind tt) (λ open_. within_then (within_list h) (λ fields. within_done))

within_type_in : (depth : ℕ) → Within (type_in depth)
within_type_in zero = within_any within_flat
within_type_in (suc depth) = within_any (within_type_form (type_in depth) (within_type_in depth))

pub within_type : Within type_
within_type = within_type_in nesting_limit

pub within_result : Within result_type
within_result = within_either within_type (search within_laws)

-- ---- attributes

within_attribute : (form : AttributeForm) → Within (attribute_form form)
within_attribute PlainAttribute = search within_laws
within_attribute AlignAttribute = search within_laws
within_attribute SizedAttribute = search within_laws

pub within_attributes : Within attributes
within_attributes = search (within_laws, within_attribute)

-- ---- operands

pub value_kind : (ty : Ty) (t : Lexeme) (x : Value) → IsValue ty t x → IsWithin t.kind
value_kind ty t (IntValue n) (inl h) = of_kind h.0 tt
value_kind ty t (IntValue n) (inr h) = of_kind h.0 tt
value_kind ty t Null h = of_kind h.0 tt
value_kind ty t (Register x) h = of_kind h.0 tt
value_kind ty t (GlobalValue x) h = of_kind h.0 tt

pub within_value : (ty : Ty) → Within (one (IsValue ty))
within_value ty = within_one (value_kind ty)

pub within_typed : Within typed
within_typed = search (within_laws, within_type, within_value)

pub within_target : Within target
within_target = search within_laws

pub ruleset within_forms = (within_alignment, within_type, within_result, within_attributes, within_value, within_typed, within_target)
