-- The names of a module stand for the same where instructions are replaced by others that give the same names.
use Rattle.std.proofs.Common.{◌≡◌, ℕ, ◌+◌, List, [], ◌∷◌, ◌++◌, map, Bool, true, false, cond, Option, Some, None, option_map, nat_lt, refl, sym, ap, ◌∙◌, if◌then◌else◌}
use Rattle.std.specs.List.{flat_map, find}
use Rattle.std.specs.Str.{bytes_eq}
use Rattle.ir_core.specs.declared.types.Ty.{Ty}
use Rattle.ir_core.specs.declared.instructions.Typed.{Typed}
use Rattle.ir_core.specs.declared.instructions.Inst.{Inst}
use Rattle.ir_core.specs.declared.module.Module.{Module}
use Rattle.ir_core.specs.declared.module.Function.{Function}
use Rattle.ir_core.specs.declared.module.Block.{Block}
use Rattle.ir_core.specs.declared.module.Global.{Global}
use Rattle.ir_core.specs.Places.{Name}
use Rattle.ir_core.specs.Wrappers.{is_in}
use Rattle.ir_core.specs.Given.{Symbol, Variable, Routine, first_symbol, symbol_given, Register, Label, result_type, result_name, inst_names, block_names, param_name, local_names}
use Rattle.ir_core.specs.Typing.{scope_of, as_symbol, calls_symbol, targets_of, goes_to}
use Rattle.formed_parts.specs.Edits.{block_edited, function_edited, module_edited}
use Rattle.output_laws.specs.Names.{KeepsNames}
use Rattle.output_laws.proofs.Agree.{Agrees}

-- ---- globals and functions

abbrev edited_symbol : (Inst → Inst) → Symbol → Symbol
edited_symbol edit Variable = Variable
edited_symbol edit (Routine f) = Routine (function_edited edit f)

pub found_edited : (edit : Inst → Inst) (x : Name) (fs : List Function) → find (λ f. bytes_eq f.name x) (map (function_edited edit) fs) ≡ option_map (function_edited edit) (find (λ f. bytes_eq f.name x) fs)
found_edited edit x [] = refl
found_edited edit x (f ∷ fs) = by (bytes_eq f.name x) (found_edited edit x fs)
  where
    by : (b : Bool) → find (λ f. bytes_eq f.name x) (map (function_edited edit) fs) ≡ option_map (function_edited edit) (find (λ f. bytes_eq f.name x) fs) → cond b (Some (function_edited edit f)) (find (λ f. bytes_eq f.name x) (map (function_edited edit) fs)) ≡ option_map (function_edited edit) (cond b (Some f) (find (λ f. bytes_eq f.name x) fs))
    by true e = refl
    by false e = e

first_edited : (edit : Inst → Inst) (g : Option Global) (f : Option Function) → first_symbol g (option_map (function_edited edit) f) ≡ option_map (edited_symbol edit) (first_symbol g f)
first_edited edit None None = refl
first_edited edit (Some g) None = refl
first_edited edit None (Some f) = refl
first_edited edit (Some g) (Some f) = by (nat_lt f.line g.line)
  where
    by : (b : Bool) → (if b then Some (Routine (function_edited edit f)) else Some Variable) ≡ option_map (edited_symbol edit) (if b then Some (Routine f) else Some Variable)
    by true = refl
    by false = refl

pub symbol_edited : (edit : Inst → Inst) (m : Module) (x : Name) → symbol_given (module_edited edit m) x ≡ option_map (edited_symbol edit) (symbol_given m x)
symbol_edited edit m x = ap (first_symbol (find (λ g. bytes_eq g.name x) m.globals)) (found_edited edit x m.functions) ∙ first_edited edit (find (λ g. bytes_eq g.name x) m.globals) (find (λ f. bytes_eq f.name x) m.functions)

as_edited : (edit : Inst → Inst) (in_fork : Bool) (ty : Ty) (o : Option Symbol) → as_symbol in_fork ty (option_map (edited_symbol edit) o) ≡ as_symbol in_fork ty o
as_edited edit in_fork ty None = refl
as_edited edit in_fork ty (Some Variable) = refl
as_edited edit in_fork ty (Some (Routine f)) = refl

calls_edited : (edit : Inst → Inst) (x : Name) (ret : Ty) (operands : List Typed) (o : Option Symbol) → calls_symbol x ret operands (option_map (edited_symbol edit) o) ≡ calls_symbol x ret operands o
calls_edited edit x ret operands None = refl
calls_edited edit x ret operands (Some Variable) = refl
calls_edited edit x ret operands (Some (Routine f)) = by f f.blocks refl
  where
    by : (f : Function) (bs : List Block) → f.blocks ≡ bs → calls_symbol x ret operands (Some (Routine (function_edited edit f))) ≡ calls_symbol x ret operands (Some (Routine f))
    by f [] e = ap (λ bs. calls_symbol x ret operands (Some (Routine (function_edited edit (record f { blocks = bs }))))) e ∙ ap (λ bs. calls_symbol x ret operands (Some (Routine (record f { blocks = bs })))) (sym e)
    by f (b ∷ bs) e = ap (λ bs. calls_symbol x ret operands (Some (Routine (function_edited edit (record f { blocks = bs }))))) e ∙ ap (λ bs. calls_symbol x ret operands (Some (Routine (record f { blocks = bs })))) (sym e)

pub value_edited : (edit : Inst → Inst) (m : Module) (in_fork : Bool) (ty : Ty) (x : Name) → as_symbol in_fork ty (symbol_given (module_edited edit m) x) ≡ as_symbol in_fork ty (symbol_given m x)
value_edited edit m in_fork ty x = ap (as_symbol in_fork ty) (symbol_edited edit m x) ∙ as_edited edit in_fork ty (symbol_given m x)

callee_edited : (edit : Inst → Inst) (m : Module) (x : Name) (ret : Ty) (operands : List Typed) → calls_symbol x ret operands (symbol_given (module_edited edit m) x) ≡ calls_symbol x ret operands (symbol_given m x)
callee_edited edit m x ret operands = ap (calls_symbol x ret operands) (symbol_edited edit m x) ∙ calls_edited edit x ret operands (symbol_given m x)

-- ---- the names of a function

same_result_name : (i j : Inst) (x : Option Name) → i.line ≡ j.line → result_type i.kind ≡ result_type j.kind → result_name i x ≡ result_name j x
same_result_name i j None l e = refl
same_result_name i j (Some x) l e = λ k. record { name = x; line = l k; given = Register (e k) } ∷ []

inst_names_edited : (edit : Inst → Inst) → KeepsNames edit → (is : List Inst) → flat_map inst_names (map edit is) ≡ flat_map inst_names is
inst_names_edited edit keeps [] = refl
inst_names_edited edit keeps (i ∷ is) =
    let here = ap (result_name (edit i)) (keeps.result i) ∙ same_result_name (edit i) i i.result (keeps.line i) (keeps.ty i) in
    let more = inst_names_edited edit keeps is in
    λ k. here k ++ more k

block_names_edited : (edit : Inst → Inst) → KeepsNames edit → (at : ℕ) (bs : List Block) → block_names at (map (block_edited edit) bs) ≡ block_names at bs
block_names_edited edit keeps at [] = refl
block_names_edited edit keeps at (b ∷ bs) =
    let here = inst_names_edited edit keeps b.insts in
    let more = block_names_edited edit keeps (at + 1) bs in
    λ k. record { name = b.name; line = b.line; given = Label at } ∷ here k ++ more k

pub local_names_edited : (edit : Inst → Inst) → KeepsNames edit → (f : Function) → local_names (function_edited edit f) ≡ local_names f
local_names_edited edit keeps f = ap (λ names. map (param_name f.line) f.params ++ names) (block_names_edited edit keeps 0 f.blocks)

-- ---- branches

targets_edited : (edit : Inst → Inst) → KeepsNames edit → (is : List Inst) → flat_map (λ i. targets_of i.kind) (map edit is) ≡ flat_map (λ i. targets_of i.kind) is
targets_edited edit keeps [] = refl
targets_edited edit keeps (i ∷ is) = λ k. keeps.targets i k ++ targets_edited edit keeps is k

sources_edited : (edit : Inst → Inst) → KeepsNames edit → (x : Name) (bs : List Block) → flat_map (goes_to x) (map (block_edited edit) bs) ≡ flat_map (goes_to x) bs
sources_edited edit keeps x [] = refl
sources_edited edit keeps x (b ∷ bs) =
    let here = targets_edited edit keeps b.insts in
    let more = sources_edited edit keeps x bs in
    λ k. (if is_in (here k) x then b.name ∷ [] else []) ++ more k

-- ---- scopes

pub scope_edited : (edit : Inst → Inst) → KeepsNames edit → (m : Module) (f : Function) → Agrees (scope_of (module_edited edit m) (function_edited edit f)) (scope_of m f)
scope_edited edit keeps m f = record {
  types = refl;
  values = value_edited edit m;
  callees = callee_edited edit m;
  names = local_names_edited edit keeps f;
  result = refl;
  sources = λ x. sources_edited edit keeps x f.blocks;
}
