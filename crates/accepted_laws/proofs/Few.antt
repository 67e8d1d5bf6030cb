-- No more instructions than there may be, and parameters of scalar types.
use Rattle.std.proofs.Common.{◌≡◌, ℕ, zero, suc, ◌≤◌, List, [], ◌∷◌, ◌++◌, map, length, drop, true, subst, refl, arith}
use Rattle.std.specs.List.{flat_map, list_all}
use Rattle.std.proofs.lemmas.List.{length-map}
use Rattle.ir_core.specs.declared.instructions.Inst.{Inst}
use Rattle.ir_core.specs.declared.module.Module.{Module}
use Rattle.ir_core.specs.declared.module.Param.{Param}
use Rattle.ir_core.specs.FirstForm.{is_scalar, is_scalar_param}
use Rattle.ir_core.specs.Typing.{in_type, expects}
use Rattle.ir_core.specs.NameRefusals.{in_param, is_result, in_signature}
use Rattle.shapes.specs.Facts.{insts_in}
use Rattle.shapes.specs.Limits.{first_line, beyond, of_counts, of_size, of_global, of_inst, function_limit, block_limit, instruction_limit}
use Rattle.accepted_laws.specs.Accepted.{InstructionsAreFew, ParametersAreScalars}
use Rattle.accepted_laws.proofs.Nothing.{something, front_none, back_none, holds, both_hold}
use Rattle.accepted_laws.proofs.Clean.{clean, clean_function}

few : (limit : ℕ) (lines : List ℕ) → first_line (drop limit lines) ≡ [] → length lines ≤ limit
few zero [] e = omega arith
few zero (l ∷ ls) e = something _ _ e
few (suc n) [] e = omega arith
few (suc n) (l ∷ ls) e = let h = few n ls e in omega arith

pub instructions_are_few : InstructionsAreFew
instructions_are_few m e =
    let a = beyond function_limit (map (λ f. f.line) m.functions) in
    let b = beyond block_limit (flat_map (λ f. map (λ b. b.line) f.blocks) m.functions) in
    let c = beyond instruction_limit (map (λ i. i.line) (insts_in m)) in
    let d = flat_map (λ d. of_size m d.line d.body) m.types in
    let g = flat_map (of_global m) m.globals in
    let i = flat_map (of_inst m) (insts_in m) in
    let counts = front_none (of_counts m) d (front_none (of_counts m ++ d) g (front_none ((of_counts m ++ d) ++ g) i e)) in
    let lines = few instruction_limit (map (λ i. i.line) (insts_in m)) (back_none (a ++ b) c counts) in
    subst (λ n. n ≤ instruction_limit) (length-map (insts_in m) (λ (i : Inst). i.line)) lines

params_scalar : (m : Module) (ps : List Param) → flat_map (in_param m) ps ≡ [] → list_all is_scalar_param ps ≡ true
params_scalar m [] e = refl
params_scalar m (p ∷ ps) e =
    let own = front_none (in_param m p) (flat_map (in_param m) ps) e in
    both_hold (is_scalar p.ty) (list_all is_scalar_param ps) (holds (is_scalar p.ty) (back_none (in_type m p.ty) (expects (is_scalar p.ty)) own)) (params_scalar m ps (back_none (in_param m p) (flat_map (in_param m) ps) e))

pub parameters_are_scalars : ParametersAreScalars
parameters_are_scalars m e place f is =
    let h = (clean_function m (clean m e) place f is).heading in
    let a = in_type m f.ret ++ expects (is_result f.ret) in
    let b = flat_map (in_param m) f.params in
    params_scalar m f.params (back_none a b (front_none (a ++ b) (in_signature f) h))
