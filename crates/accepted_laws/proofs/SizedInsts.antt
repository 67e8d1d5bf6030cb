-- The types that instructions make room for or go through, in what a text can spell, have parts with sizes.
use Rattle.std.proofs.Common.{◌≡◌, ℕ, List, [], ◌∷◌, Bool, true, false, ◌&&◌, refl, ap, ◌∙◌, inl, inr, filter, cond}
use Rattle.std.specs.List.{list_all}
use Rattle.std.proofs.lemmas.Bool.{and_parts}
use Rattle.std.proofs.lemmas.List.Folds.{list_all-append}
use Rattle.ir_core.specs.declared.instructions.BinOp.{BinOp}
use Rattle.ir_core.specs.declared.instructions.Flags.{Flags}
use Rattle.ir_core.specs.declared.instructions.TailWord.{TailWord}
use Rattle.ir_core.specs.declared.instructions.TailWord.TheVariants.{Absent as NoTailWord}
use Rattle.ir_core.specs.declared.instructions.Kind.{Kind}
use Rattle.ir_core.specs.declared.instructions.Inst.{Inst}
use Rattle.ir_core.specs.declared.module.Block.{Block}
use Rattle.ir_core.specs.declared.module.Function.{Function}
use Rattle.ir_core.specs.Tokens.{Lexeme}
use Rattle.ir_core.specs.Instructions.{wrap_flags, exact_flag, no_flags, ValueForm, Wraps, Divides, Mixes, Compares, Casts, Selects, Phis, Allocas, Loads, Changes, Steps, binary, value_form, value, called, CallForm, Bare, Led, call_form, stored, fenced, assigned, PlainForm, Assigns, Stores, Fences, Calls, TailCalls, plain_form, plain, BranchForm, Straight, Tested, branch_form, returned, LastForm, Branches, Switches, Returns, Stops, last_form, last, is_kept, body_of, block}
use Rattle.ir_core.specs.Spell.{done}
use Rattle.shapes.specs.Limits.{kind_types}
use Rattle.accepted_laws.specs.Sized.{are_parts_sized}
use Rattle.accepted_laws.proofs.Nothing.{both_hold}
use Rattle.accepted_laws.proofs.SizedTypes.{Passes, all_many, type_sized}

abbrev pub kind_sized : Kind → Bool
kind_sized kind = list_all are_parts_sized (kind_types kind)

abbrev pub inst_sized : Inst → Bool
inst_sized i = kind_sized i.kind

abbrev pub block_sized : Block → Bool
block_sized b = list_all inst_sized b.insts

abbrev pub function_sized : Function → Bool
function_sized f = list_all block_sized f.blocks

-- ---- instructions that end no block

binary_sized : (op : BinOp) (flags_of : List Lexeme → Flags → Type 0) → Passes kind_sized (binary op flags_of)
binary_sized op flags_of ts kind h = ap kind_sized h.4.4.4.4.1

value_form_sized : (form : ValueForm) → Passes kind_sized (value_form form)
value_form_sized (Wraps op) ts kind h = binary_sized op wrap_flags ts kind h
value_form_sized (Divides op) ts kind h = binary_sized op exact_flag ts kind h
value_form_sized (Mixes op) ts kind h = binary_sized op (done no_flags) ts kind h
value_form_sized Compares ts kind h = ap kind_sized h.4.4.4.4.1
value_form_sized (Casts op) ts kind h = ap kind_sized h.4.4.4.1
value_form_sized Selects ts kind h = ap kind_sized h.4.4.4.1
value_form_sized Phis ts kind h = ap kind_sized h.4.4.4.1
value_form_sized Allocas ts kind h = ap kind_sized h.4.4.1 ∙ both_hold (are_parts_sized h.0) true (type_sized h.1 h.0 h.3) refl
value_form_sized Loads ts kind h = ap kind_sized h.4.4.4.4.4.1
value_form_sized Changes ts kind h = ap kind_sized h.4.4.4.4.4.1
value_form_sized Steps ts kind h = let a = h.4 in ap kind_sized a.4.4.4.4.1 ∙ both_hold (are_parts_sized a.0) true (type_sized a.1 a.0 a.3) refl

value_sized : Passes kind_sized value
value_sized ts kind h = value_form_sized h.0 h.2 kind h.4

called_sized : (tail_word : TailWord) → Passes kind_sized (called tail_word)
called_sized tail_word ts kind h = ap kind_sized h.4.4.4.4.4.4.4.1

call_form_sized : (form : CallForm) → Passes kind_sized (call_form form)
call_form_sized Bare ts kind h = called_sized NoTailWord h.2 kind h.4
call_form_sized Led ts kind h = called_sized h.0 h.4.2 kind h.4.4

assigned_sized : Passes kind_sized assigned
assigned_sized ts kind (inl h) = value_sized ts kind h
assigned_sized ts kind (inr h) = call_form_sized h.0 ts kind h.1

stored_sized : Passes kind_sized stored
stored_sized ts kind h = ap kind_sized h.4.4.4.4.4.1

fenced_sized : Passes kind_sized fenced
fenced_sized ts kind h = ap kind_sized h.4.1

plain_form_sized : (form : PlainForm) → Passes inst_sized (plain_form form)
plain_form_sized Assigns ts i h = let k = h.4.4 in ap inst_sized k.4.1 ∙ assigned_sized k.1 k.0 k.3
plain_form_sized Stores ts i h = let k = h.4 in ap inst_sized k.4.1 ∙ stored_sized k.1 k.0 k.3
plain_form_sized Fences ts i h = let k = h.4 in ap inst_sized k.4.1 ∙ fenced_sized k.1 k.0 k.3
plain_form_sized Calls ts i h = let k = h.4 in ap inst_sized k.4.1 ∙ called_sized NoTailWord k.1 k.0 k.3
plain_form_sized TailCalls ts i h = let k = h.4.4 in ap inst_sized k.4.1 ∙ called_sized h.0.0 k.1 k.0 k.3

plain_sized : Passes inst_sized plain
plain_sized ts i h = ap inst_sized h.4.4.1 ∙ plain_form_sized h.3.0 h.1 h.0 h.3.1

-- ---- instructions that end a block

branch_sized : (form : BranchForm) → Passes kind_sized (branch_form form)
branch_sized Straight ts kind h = ap kind_sized h.4.1
branch_sized Tested ts kind h = ap kind_sized h.4.4.4.1

returned_sized : Passes kind_sized returned
returned_sized ts kind (inl h) = ap kind_sized h.4.1
returned_sized ts kind (inr h) = ap kind_sized h.4.1

last_form_sized : (form : LastForm) → Passes kind_sized (last_form form)
last_form_sized Branches ts kind h = branch_sized h.0 ts kind h.1
last_form_sized Switches ts kind h = ap kind_sized h.4.4.4.4.4.1
last_form_sized Returns ts kind h = returned_sized ts kind h
last_form_sized Stops ts kind h = ap kind_sized h.1

last_sized : Passes inst_sized last
last_sized ts i h = let k = h.4 in ap inst_sized k.4.4.1 ∙ last_form_sized h.0.0 k.1 k.0 k.3

-- ---- blocks

kept_sized : (is : List Inst) → list_all inst_sized is ≡ true → list_all inst_sized (filter is_kept is) ≡ true
kept_sized [] e = refl
kept_sized (i ∷ is) e = let p = and_parts (inst_sized i) (list_all inst_sized is) e in by (is_kept i) p.0 (kept_sized is p.1)
  where
    by : (b : Bool) → inst_sized i ≡ true → list_all inst_sized (filter is_kept is) ≡ true → list_all inst_sized (cond b (i ∷ filter is_kept is) (filter is_kept is)) ≡ true
    by true e f = both_hold (inst_sized i) (list_all inst_sized (filter is_kept is)) e f
    by false e f = f

pub body_sized : (label : List ℕ × ℕ) → Passes block_sized (body_of label)
body_sized label ts b h =
    let l = h.4 in
    ap block_sized l.4.1
    ∙ list_all-append inst_sized (filter is_kept h.0) (l.0 ∷ [])
    ∙ both_hold (list_all inst_sized (filter is_kept h.0)) (inst_sized l.0 && true) (kept_sized h.0 (all_many inst_sized plain plain_sized h.1 h.0 h.3)) (both_hold (inst_sized l.0) true (last_sized l.1 l.0 l.3) refl)

pub one_block_sized : Passes block_sized block
one_block_sized ts b h = body_sized h.0 h.2 b h.4
