-- The registers of a module with few instructions can be counted.
use Rattle.std.proofs.Common.{◌≡◌, ℕ, zero, suc, ◌+◌, ◌<◌, ◌≤◌, ◌^◌, List, [], ◌∷◌, map, length, length-append, Option, Some, None, refl, ap, ◌∙◌, subst, arith, slice_get}
use Rattle.std.specs.List.{flat_map}
use Rattle.std.proofs.lemmas.List.{length-map}
use Rattle.std.proofs.lemmas.Option.{none-some, same_Some}
use Rattle.ir_core.specs.declared.instructions.Inst.{Inst}
use Rattle.ir_core.specs.declared.module.Block.{Block}
use Rattle.ir_core.specs.declared.module.Function.{Function}
use Rattle.ir_core.specs.declared.module.Module.{Module}
use Rattle.ir_core.specs.Places.{param_name, inst_results, block_results, register_names_of, result_names}
use Rattle.ir_tables.specs.Indexed.{CanBeCounted}
use Rattle.shapes.specs.Facts.{insts_of, insts_in}
use Rattle.shapes.specs.Limits.{instruction_limit}

pub within : {A : Type 0} (xs : List A) (at : ℕ) (x : A) → slice_get xs at ≡ Some x → at < length xs
within [] at x is = absurd (none-some x is)
within (y ∷ xs) zero x is = omega arith
within (y ∷ xs) (suc at) x is = let more = within xs at x is in omega arith

one_result : (x : Option (List ℕ)) → length (result_names x) ≤ 1
one_result None = omega arith
one_result (Some x) = omega arith

few_results : (is : List Inst) → length (flat_map inst_results is) ≤ length is
few_results [] = omega arith
few_results (i ∷ is) =
    let one = one_result i.result in
    let more = few_results is in
    let long = length-append (inst_results i) (flat_map inst_results is) in
    omega arith

few_block_results : (bs : List Block) → length (flat_map block_results bs) ≤ length (flat_map (λ (b : Block). b.insts) bs)
few_block_results [] = omega arith
few_block_results (b ∷ bs) =
    let one = few_results b.insts in
    let more = few_block_results bs in
    let long : length (flat_map block_results (b ∷ bs)) ≡ length (block_results b) + length (flat_map block_results bs) = length-append (block_results b) (flat_map block_results bs) in
    let all = length-append b.insts (flat_map (λ (b : Block). b.insts) bs) in
    omega arith

registers_length : (f : Function) → length (register_names_of (Some f)) ≡ length f.params + length (flat_map block_results f.blocks)
registers_length f = length-append (map param_name f.params) (flat_map block_results f.blocks) ∙ ap (λ n. n + length (flat_map block_results f.blocks)) (length-map f.params param_name)

-- a function has no more instructions than its module
few_of : (fs : List Function) (at : ℕ) (f : Function) → slice_get fs at ≡ Some f → length (insts_of f) ≤ length (flat_map insts_of fs)
few_of [] at f is = absurd (none-some f is)
few_of (g ∷ fs) zero f is =
    let all = length-append (insts_of g) (flat_map insts_of fs) in
    subst (λ (h : Function). length (insts_of h) ≤ length (flat_map insts_of (g ∷ fs))) (same_Some g f is) (omega arith)
few_of (g ∷ fs) (suc at) f is =
    let all = length-append (insts_of g) (flat_map insts_of fs) in
    let more = few_of fs at f is in
    omega arith

limited : (n : ℕ) → n ≤ instruction_limit → n ≤ 200000
unfolding instruction_limit
limited n few = few

-- where the parameters of functions stand in memory
pub counted : (m : Module) → length (insts_in m) ≤ instruction_limit → ((at : ℕ) (f : Function) → slice_get m.functions at ≡ Some f → length f.params < 2 ^ 63) → CanBeCounted m
counted m few params at = by (slice_get m.functions at) refl
  where
    by : (o : Option Function) → slice_get m.functions at ≡ o → length (register_names_of o) < 2 ^ 64
    by None is = omega arith
    by (Some f) is =
        let all = limited (length (insts_in m)) few in
        let own = few_of m.functions at f is in
        let results = few_block_results f.blocks in
        let own_params = params at f is in
        let registers = registers_length f in
        omega arith
