-- What instructions do: none of the tokens that tell it stands for bytes behind the limit of a text.
use Rattle.std.proofs.Common.{ℕ, List, Bool, true, false}
use Rattle.ir_core.specs.declared.types.Ty.{Ty}
use Rattle.ir_core.specs.declared.instructions.Flags.{Flags}
use Rattle.ir_core.specs.declared.instructions.BinOp.{BinOp}
use Rattle.ir_core.specs.declared.instructions.TailWord.{TailWord}
use Rattle.ir_core.specs.declared.instructions.Value.{Value}
use Rattle.ir_core.specs.declared.instructions.Value.TheVariants.{Int as IntValue, Null, Local as Register, Global as GlobalValue}
use Rattle.ir_core.specs.Tokens.{Lexeme}
use Rattle.ir_core.specs.Spell.{one}
use Rattle.ir_core.specs.Instructions.{next_alignment, attachment, attachments, flag, wrap_flags, exact_flag, binary, scope, order, order_if, edge, ValueForm, Wraps, Divides, Mixes, Compares, Casts, Selects, Phis, Allocas, Loads, Changes, Steps, value_form, value, argument, IsCallee, TrailerForm, GroupTrailer, WordTrailer, trailer_form, called, CallForm, Bare, Led, call_form, call, stored, fenced}
use Rattle.formed_laws.proofs.Within.{IsWithin, Within, within_one, of_kind, within_then, within_any, within_laws}
use Rattle.formed_laws.proofs.FormsWithin.{within_forms}

-- ---- parts

pub within_next_alignment : Within next_alignment
within_next_alignment = search (within_laws, within_forms)

pub within_attachment : Within attachment
within_attachment = search within_laws

pub within_attachments : Within attachments
within_attachments = search (within_laws, within_attachment)

within_flag : (w : List ℕ) → Within (flag w)
within_flag w = search within_laws

within_wrap_flags : Within wrap_flags
within_wrap_flags = search (within_laws, within_flag)

within_exact_flag : Within exact_flag
within_exact_flag = search (within_laws, within_flag)

within_scope : Within scope
within_scope = search within_laws

within_order : Within order
within_order = search (within_laws, within_scope)

within_order_if : (atomic : Bool) → Within (order_if atomic)
within_order_if true = search (within_laws, within_order)
within_order_if false = search within_laws

within_edge : (ty : Ty) → Within (edge ty)
within_edge ty = search (within_laws, within_forms) depth 20

-- ---- instructions with a value

within_binary : (op : BinOp) (flags : List Lexeme → Flags → Type 0) → Within flags → Within (binary op flags)
within_binary op flags h = within_then h (λ f. search (within_laws, within_forms))

within_value_form : (form : ValueForm) → Within (value_form form)
within_value_form (Wraps op) = search (within_binary, within_wrap_flags)
within_value_form (Divides op) = search (within_binary, within_exact_flag)
within_value_form (Mixes op) = search (within_binary, within_laws)
within_value_form Compares = search (within_laws, within_forms) depth 20
within_value_form (Casts op) = search (within_laws, within_forms)
within_value_form Selects = search (within_laws, within_forms)
within_value_form Phis = search (within_laws, within_forms, within_edge) depth 20
within_value_form Allocas = search (within_laws, within_forms, within_next_alignment)
within_value_form Loads = search (within_laws, within_forms, within_flag, within_order_if, within_next_alignment) depth 20
within_value_form Changes = search (within_laws, within_forms, within_order, within_next_alignment) depth 20
within_value_form Steps = search (within_laws, within_forms, within_flag) depth 20

pub within_valued : Within value
within_valued = search (within_laws, within_value_form)

-- ---- calls

within_argument : Within argument
within_argument = search (within_laws, within_forms)

callee_kind : (t : Lexeme) (x : Value) → IsCallee t x → IsWithin t.kind
callee_kind t (GlobalValue x) h = of_kind h.0 tt
callee_kind t (Register x) h = of_kind h.0 tt
callee_kind t (IntValue n) h = absurd h
callee_kind t Null h = absurd h

within_callee : Within (one IsCallee)
within_callee = within_one callee_kind

within_trailer : (form : TrailerForm) → Within (trailer_form form)
within_trailer GroupTrailer = search within_laws
within_trailer WordTrailer = search within_laws

pub within_called : (tail_word : TailWord) → Within (called tail_word)
within_called tail_word = search (within_laws, within_forms, within_callee, within_argument, within_trailer) depth 20

within_call_form : (form : CallForm) → Within (call_form form)
within_call_form Bare = search (within_laws, within_called)
within_call_form Led = search (within_laws, within_called)

pub within_call : Within call
within_call = within_any within_call_form

-- ---- instructions without one

pub within_stored : Within stored
within_stored = search (within_laws, within_forms, within_flag, within_order_if, within_next_alignment) depth 20

pub within_fenced : Within fenced
within_fenced = search (within_laws, within_order)
