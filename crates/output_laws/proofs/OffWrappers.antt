-- The same is refused of wrappers and forks where the machine is switched off and the flags of the init calls are numbers.
use Rattle.std.proofs.Common.{◌≡◌, [], ◌++◌, length, true, false, not, nat_le, ◌==◌, ◌&&◌, Option, Some, None, option_map, refl, ap, ◌∙◌, if◌then◌else◌}
use Rattle.std.specs.List.{flat_map, list_all}
use Rattle.std.proofs.lemmas.List.{length-map}
use Rattle.ir_core.specs.declared.instructions.Value.{Value}
use Rattle.ir_core.specs.declared.instructions.Value.TheVariants.{Int as IntValue, Null, Local as LocalValue, Global as GlobalValue}
use Rattle.ir_core.specs.declared.instructions.Typed.{Typed}
use Rattle.ir_core.specs.declared.instructions.Inst.{Inst}
use Rattle.ir_core.specs.declared.module.Module.{Module}
use Rattle.ir_core.specs.declared.module.Function.{Function}
use Rattle.ir_core.specs.declared.refusal.Construct.TheVariants.{WrapperShape}
use Rattle.ir_core.specs.declared.rtl.Rtl.TheVariants.{Parallel}
use Rattle.ir_core.specs.FirstForm.{is_void}
use Rattle.ir_core.specs.MachineOff.{inst_off, block_off, function_off, machine_off}
use Rattle.ir_core.specs.Places.{Name}
use Rattle.ir_core.specs.Wrappers.{is_in, region_function}
use Rattle.shapes.specs.Facts.{rule, insts_of, insts_in, function_given, operand_of, is_constant}
use Rattle.shapes.specs.KernelShape.{kernel_refusals}
use Rattle.shapes.specs.Wrappers.{is_region, are_wrapper_params, most_insts, has_wrapper_form, of_wrapper, of_function, names_function, forks_by, wrapper_given, of_fork, wrapper_refusals}
use Rattle.output_laws.proofs.Given.{found_edited}
use Rattle.output_laws.proofs.NumberFlags.{are_flagged, module_flagged}
use Rattle.output_laws.proofs.OffNames.{flat_where, names_elsewhere_off}
use Rattle.output_laws.proofs.OffPaths.{is_wrapper_off, is_defined_off}
use Rattle.output_laws.proofs.OffWalks.{region_off, captures_off, walk_off}
use Rattle.output_laws.proofs.SwitchedOff.{flat_same, insts_of_off, insts_in_off, is_call_off, operand_off}

-- ---- wrappers

is_region_off : (o : Option Function) → is_region (option_map function_off o) ≡ is_region o
is_region_off None = refl
is_region_off (Some f) = refl

form_off : (m : Module) (f : Function) → list_all are_flagged m.functions ≡ true → has_wrapper_form (machine_off m) (function_off f) ≡ has_wrapper_form m f
form_off m f e =
    let blocks = length-map f.blocks block_off in
    let region = ap is_region (region_off m f) ∙ is_region_off (region_function m f) in
    let insts = ap length (insts_of_off f) ∙ length-map (insts_of f) inst_off in
    let captured = captures_off m f in
    let names = names_elsewhere_off m e in
    λ k. is_void f.ret && are_wrapper_params f.params && (blocks k == 1) && region k && nat_le (insts k) (most_insts (captured k)) && not (is_in (names k) f.name)

wrapper_off : (m : Module) (f : Function) → list_all are_flagged m.functions ≡ true → are_flagged f ≡ true → of_wrapper (machine_off m) (function_off f) ≡ of_wrapper m f
wrapper_off m f e flags =
    let form = form_off m f e in
    let walk = walk_off m f flags in
    λ k. if form k then walk k else rule WrapperShape false f.line

function_rules_off : (m : Module) (f : Function) → list_all are_flagged m.functions ≡ true → are_flagged f ≡ true → of_function (machine_off m) (function_off f) ≡ of_function m f
function_rules_off m f e flags =
    let wrapper = is_wrapper_off m f in
    let rules = wrapper_off m f e flags in
    λ k. if wrapper k then rules k else []

-- ---- forks

function_given_off : (m : Module) (x : Name) → function_given (machine_off m) x ≡ option_map function_off (function_given m x)
function_given_off m x = found_edited inst_off x m.functions

value_given_off : (m : Module) (v : Typed) (value : Value) → wrapper_given (machine_off m) (Some (record v { value = value })) ≡ option_map function_off (wrapper_given m (Some (record v { value = value })))
value_given_off m v (GlobalValue x) = function_given_off m x
value_given_off m v (LocalValue x) = refl
value_given_off m v (IntValue n) = refl
value_given_off m v Null = refl

wrapper_given_off : (m : Module) (v : Option Typed) → wrapper_given (machine_off m) v ≡ option_map function_off (wrapper_given m v)
wrapper_given_off m None = refl
wrapper_given_off m (Some v) = value_given_off m v v.value

names_function_off : (o : Option Function) (v : Option Typed) → names_function (option_map function_off o) v ≡ names_function o v
names_function_off None v = refl
names_function_off (Some f) None = refl
names_function_off (Some f) (Some v) = refl

forks_by_off : (m : Module) (o : Option Function) (i : Inst) → forks_by (machine_off m) (option_map function_off o) (inst_off i) ≡ forks_by m o i
forks_by_off m None i = refl
forks_by_off m (Some f) i =
    let has_blocks = is_defined_off f in
    let region = operand_off i 5 refl in
    let named = (λ k. names_function (region_off m f k) (region k)) ∙ names_function_off (region_function m f) (operand_of i 5) in
    let captured = captures_off m f in
    let count = operand_off i 8 refl in
    λ k. has_blocks k && named k && is_constant (captured k) (count k)

fork_off : (m : Module) (i : Inst) → of_fork (machine_off m) (inst_off i) ≡ of_fork m i
fork_off m i =
    let call = is_call_off Parallel i in
    let wrapper = ap (wrapper_given (machine_off m)) (operand_off i 6 refl) ∙ wrapper_given_off m (operand_of i 6) in
    let forks = ap (λ o. forks_by (machine_off m) o (inst_off i)) wrapper ∙ forks_by_off m (wrapper_given m (operand_of i 6)) i in
    λ k. rule WrapperShape (if call k then forks k else true) i.line

-- ---- the whole

pub wrappers_off : (m : Module) → list_all are_flagged m.functions ≡ true → wrapper_refusals (machine_off m) ≡ wrapper_refusals m
wrappers_off m e =
    let functions = flat_where are_flagged (of_function m) (of_function (machine_off m)) function_off (λ f flags. function_rules_off m f e flags) m.functions e in
    let forks = ap (flat_map (of_fork (machine_off m))) (insts_in_off m) ∙ flat_same (of_fork m) (of_fork (machine_off m)) inst_off (fork_off m) (insts_in m) in
    λ k. functions k ++ forks k

pub off_keeps_wrappers : (m : Module) → kernel_refusals m ≡ [] → wrapper_refusals (machine_off m) ≡ wrapper_refusals m
off_keeps_wrappers m e = wrappers_off m (module_flagged m e)
