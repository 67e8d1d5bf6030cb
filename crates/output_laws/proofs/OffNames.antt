-- The names in the operands of a module are the same where its machine is switched off and the flags of its init calls are numbers.
use Rattle.std.proofs.Common.{◌≡◌, List, [], ◌∷◌, ◌++◌, map, Bool, true, false, refl, sym, ap, ◌∙◌, if◌then◌else◌}
use Rattle.std.specs.Prelude.{slice_get}
use Rattle.std.specs.List.{flat_map, list_all}
use Rattle.std.specs.Str.{bytes_eq}
use Rattle.std.proofs.lemmas.Bool.{and_parts}
use Rattle.ir_core.specs.declared.instructions.Value.{Value}
use Rattle.ir_core.specs.declared.instructions.Value.TheVariants.{Int as IntValue, Null, Local as LocalValue, Global as GlobalValue}
use Rattle.ir_core.specs.declared.instructions.Typed.{Typed}
use Rattle.ir_core.specs.declared.instructions.Kind.{Kind}
use Rattle.ir_core.specs.declared.instructions.Kind.TheVariants.{Call}
use Rattle.ir_core.specs.declared.module.Module.{Module}
use Rattle.ir_core.specs.EntryPoints.{target_init}
use Rattle.ir_core.specs.FirstForm.{is_number}
use Rattle.ir_core.specs.MachineOff.{operands_off, kind_off, inst_off, machine_off}
use Rattle.ir_core.specs.Typing.{is_fork}
use Rattle.ir_core.specs.Wrappers.{value_names}
use Rattle.shapes.specs.Facts.{insts_in, is_constant}
use Rattle.shapes.specs.Uses.{operand_names, kind_names, inst_names, names_in_contents, names_used, without_wrapper, kind_names_elsewhere, inst_names_elsewhere, names_elsewhere}
use Rattle.accepted_laws.proofs.Nothing.{not_both}
use Rattle.output_laws.proofs.NumberFlags.{has_flag, is_flagged, are_flagged, insts_flagged}
use Rattle.output_laws.proofs.SwitchedOff.{insts_in_off}

-- what is said of each item that passes a test is said of the list
pub flat_where : {X Y Z : Type 0} (test : X → Bool) (f : X → List Z) (g : Y → List Z) (h : X → Y) → ((x : X) → test x ≡ true → g (h x) ≡ f x) → (xs : List X) → list_all test xs ≡ true → flat_map g (map h xs) ≡ flat_map f xs
flat_where test f g h same [] e = refl
flat_where test f g h same (x ∷ xs) e =
    let parts = and_parts (test x) (list_all test xs) e in
    let here = same x parts.0 in
    let more = flat_where test f g h same xs parts.1 in
    λ k. here k ++ more k

-- ---- operands

number_names : (v : Value) → is_number 1 v ≡ true → value_names v ≡ []
number_names (IntValue n) e = refl
number_names Null e = refl
number_names (LocalValue x) e = refl
number_names (GlobalValue x) e = not_both false e refl

operand_names_off : (vs : List Typed) → is_constant 1 (slice_get vs 2) ≡ true → flat_map operand_names (operands_off vs) ≡ flat_map operand_names vs
operand_names_off [] e = refl
operand_names_off (a ∷ []) e = refl
operand_names_off (a ∷ b ∷ []) e = refl
operand_names_off (a ∷ b ∷ c ∷ []) e = ap (λ names. operand_names a ++ (operand_names b ++ (names ++ []))) (sym (number_names c.value e))
operand_names_off (a ∷ b ∷ c ∷ d ∷ vs) e = refl

-- of three operands none is left out
all_but_wrapper : (vs : List Typed) → is_constant 1 (slice_get vs 2) ≡ true → flat_map operand_names (without_wrapper (operands_off vs)) ≡ flat_map operand_names (without_wrapper vs)
all_but_wrapper [] e = refl
all_but_wrapper (a ∷ []) e = refl
all_but_wrapper (a ∷ b ∷ []) e = refl
all_but_wrapper (a ∷ b ∷ c ∷ []) e = ap (λ names. operand_names a ++ (operand_names b ++ (names ++ []))) (sym (number_names c.value e))
all_but_wrapper (a ∷ b ∷ c ∷ d ∷ vs) e = refl

elsewhere_off : (fork : Bool) (vs : List Typed) → is_constant 1 (slice_get vs 2) ≡ true → flat_map operand_names (if fork then without_wrapper (operands_off vs) else operands_off vs) ≡ flat_map operand_names (if fork then without_wrapper vs else vs)
elsewhere_off true vs e = all_but_wrapper vs e
elsewhere_off false vs e = operand_names_off vs e

-- ---- instructions

call_names : (init : Bool) (vs : List Typed) → (if init then is_constant 1 (slice_get vs 2) else true) ≡ true → flat_map operand_names (if init then operands_off vs else vs) ≡ flat_map operand_names vs
call_names true vs e = operand_names_off vs e
call_names false vs e = refl

kind_names_off : (k : Kind) → has_flag k ≡ true → kind_names (kind_off k) ≡ kind_names k
kind_names_off (Call tail_word ret (GlobalValue x) operands) e = ap (λ names. (x ∷ []) ++ names) (call_names (bytes_eq x target_init) operands e)
kind_names_off (Call tail_word ret (LocalValue x) operands) e = refl
kind_names_off (Call tail_word ret (IntValue n) operands) e = refl
kind_names_off (Call tail_word ret Null operands) e = refl
kind_names_off _ e = refl

call_elsewhere : (init fork : Bool) (vs : List Typed) → (if init then is_constant 1 (slice_get vs 2) else true) ≡ true → flat_map operand_names (if fork then without_wrapper (if init then operands_off vs else vs) else (if init then operands_off vs else vs)) ≡ flat_map operand_names (if fork then without_wrapper vs else vs)
call_elsewhere true fork vs e = elsewhere_off fork vs e
call_elsewhere false fork vs e = refl

kind_elsewhere_off : (k : Kind) → has_flag k ≡ true → kind_names_elsewhere (kind_off k) ≡ kind_names_elsewhere k
kind_elsewhere_off (Call tail_word ret (GlobalValue x) operands) e = ap (λ names. (x ∷ []) ++ names) (call_elsewhere (bytes_eq x target_init) (is_fork (GlobalValue x)) operands e)
kind_elsewhere_off (Call tail_word ret (LocalValue x) operands) e = refl
kind_elsewhere_off (Call tail_word ret (IntValue n) operands) e = refl
kind_elsewhere_off (Call tail_word ret Null operands) e = refl
kind_elsewhere_off _ e = refl

-- ---- the module

pub names_used_off : (m : Module) → list_all are_flagged m.functions ≡ true → names_used (machine_off m) ≡ names_used m
names_used_off m e =
    let insts = ap (flat_map inst_names) (insts_in_off m) ∙ flat_where is_flagged inst_names inst_names inst_off (λ i flag. kind_names_off i.kind flag) (insts_in m) (insts_flagged m e) in
    ap (λ names. names ++ names_in_contents m) insts

pub names_elsewhere_off : (m : Module) → list_all are_flagged m.functions ≡ true → names_elsewhere (machine_off m) ≡ names_elsewhere m
names_elsewhere_off m e =
    let insts = ap (flat_map inst_names_elsewhere) (insts_in_off m) ∙ flat_where is_flagged inst_names_elsewhere inst_names_elsewhere inst_off (λ i flag. kind_elsewhere_off i.kind flag) (insts_in m) (insts_flagged m e) in
    ap (λ names. names ++ names_in_contents m) insts
