-- A module of the first form keeps it when its machine is switched off.
use Rattle.std.proofs.Common.{◌≡◌, ℕ, ◌+◌, ◌-◌, List, [], ◌∷◌, ◌++◌, length, take, drop, map, Option, Some, None, Bool, true, false, ◌&&◌, refl, ap, ◌∙◌, if◌then◌else◌, nat_le}
use Rattle.std.specs.List.{flat_map, list_all, fold}
use Rattle.std.specs.Str.{bytes_eq}
use Rattle.std.proofs.lemmas.Slice.Eq.{bytes_eq-Decides}
use Rattle.std.proofs.lemmas.Bool.{and_parts, and_from}
use Rattle.std.proofs.lemmas.List.{take-map, drop-map, length-map}
use Rattle.ir_core.specs.declared.types.Ty.{Ty}
use Rattle.ir_core.specs.declared.instructions.Value.{Value}
use Rattle.ir_core.specs.declared.instructions.Value.TheVariants.{Int as IntValue, Null, Local as Register, Global as GlobalValue}
use Rattle.ir_core.specs.declared.instructions.Typed.{Typed}
use Rattle.ir_core.specs.declared.instructions.TailWord.TheVariants.{Absent}
use Rattle.ir_core.specs.declared.instructions.Kind.{Kind}
use Rattle.ir_core.specs.declared.instructions.Kind.TheVariants.{Call}
use Rattle.ir_core.specs.declared.instructions.Inst.{Inst}
use Rattle.ir_core.specs.declared.module.Module.{Module}
use Rattle.ir_core.specs.declared.module.Function.{Function}
use Rattle.ir_core.specs.declared.module.Block.{Block}
use Rattle.ir_core.specs.Text.{is_word}
use Rattle.ir_core.specs.EntryPoints.{target_init, target_deinit}
use Rattle.ir_core.specs.FirstForm
use Rattle.ir_core.specs.FirstForm.{is_function, is_int_of, is_void, is_null_ptr, is_constant, is_init_operands, is_init_kind, is_test_kind, is_branch_kind, is_branch, by_test, by_init, is_entry, is_user_kind, is_user_inst, is_deinit_operands, is_deinit_kind, is_deinit, is_return_kind, is_return, is_end, user_code, is_user, is_exit, are_kernel_blocks, is_kernel, result_type, result_given, inst_given, block_given, label_given, given, name_of, all_apart, has_good_names, is_given, uses_well_typed, inst_well_typed, block_well_typed, block_length, instruction_count, instruction_limit, is_well_formed, are_functions, is_first_form, HasFirstForm, HasOutForm}
use Rattle.ir_core.specs.MachineOff.{calls_init, operands_off, kind_off, inst_off, block_off, function_off, machine_off}

-- ---- what no instruction loses

uses_same : (has : Ty → List ℕ → Bool) (k : Kind) → uses_well_typed has (kind_off k) ≡ uses_well_typed has k
uses_same has (Call tail_word ret callee operands) = refl
uses_same has _ = refl

result_type_same : (k : Kind) → result_type (kind_off k) ≡ result_type k
result_type_same (Call tail_word ret callee operands) = refl
result_type_same _ = refl

result_given_same : (x : Option (List ℕ)) (k : Kind) → result_given x (kind_off k) ≡ result_given x k
result_given_same None k = refl
result_given_same (Some x) k = ap (λ ty. (x, ty) ∷ []) (result_type_same k)

insts_given_same : (is : List Inst) → flat_map inst_given (map inst_off is) ≡ flat_map inst_given is
insts_given_same [] = refl
insts_given_same (i ∷ is) = ap (λ g. g ++ flat_map inst_given (map inst_off is)) (result_given_same i.result i.kind) ∙ ap (λ g. inst_given i ++ g) (insts_given_same is)

blocks_given_same : (bs : List Block) → flat_map block_given (map block_off bs) ≡ flat_map block_given bs
blocks_given_same [] = refl
blocks_given_same (b ∷ bs) = ap (λ g. g ++ flat_map block_given (map block_off bs)) (insts_given_same b.insts) ∙ ap (λ g. block_given b ++ g) (blocks_given_same bs)

labels_given_same : (bs : List Block) → map label_given (map block_off bs) ≡ map label_given bs
labels_given_same [] = refl
labels_given_same (b ∷ bs) = ap (λ g. label_given b ∷ g) (labels_given_same bs)

pub given_same : (f : Function) → given (function_off f) ≡ given f
given_same f = ap (λ g. map FirstForm.param_given f.params ++ g ++ map label_given (map block_off f.blocks)) (blocks_given_same f.blocks) ∙ ap (λ g. map FirstForm.param_given f.params ++ flat_map block_given f.blocks ++ g) (labels_given_same f.blocks)

insts_typed_same : (has : Ty → List ℕ → Bool) (is : List Inst) → list_all (inst_well_typed has) (map inst_off is) ≡ list_all (inst_well_typed has) is
insts_typed_same has [] = refl
insts_typed_same has (i ∷ is) = ap (λ b. b && list_all (inst_well_typed has) (map inst_off is)) (uses_same has i.kind) ∙ ap (λ b. inst_well_typed has i && b) (insts_typed_same has is)

blocks_typed_same : (has : Ty → List ℕ → Bool) (bs : List Block) → list_all (block_well_typed has) (map block_off bs) ≡ list_all (block_well_typed has) bs
blocks_typed_same has [] = refl
blocks_typed_same has (b ∷ bs) = ap (λ t. t && list_all (block_well_typed has) (map block_off bs)) (insts_typed_same has b.insts) ∙ ap (λ t. block_well_typed has b && t) (blocks_typed_same has bs)

length_same : (b : Block) → block_length (block_off b) ≡ block_length b
length_same b = length-map b.insts inst_off

abbrev with_length : ℕ → Block → ℕ
with_length n b = n + block_length b

counts_from : (n : ℕ) (bs : List Block) → fold with_length n (map block_off bs) ≡ fold with_length n bs
counts_from n [] = refl
counts_from n (b ∷ bs) = ap (λ k. fold with_length (n + k) (map block_off bs)) (length_same b) ∙ counts_from (n + block_length b) bs

count_same : (bs : List Block) → instruction_count (map block_off bs) ≡ instruction_count bs
count_same bs = counts_from 0 bs

pub well_formed_same : (f : Function) → is_well_formed (function_off f) ≡ is_well_formed f
well_formed_same f =
    ap (λ g. (is_word f.name && list_all is_word (map name_of g) && all_apart (map name_of g)) && list_all (block_well_typed (is_given g)) (map block_off f.blocks) && nat_le (instruction_count (map block_off f.blocks)) instruction_limit) (given_same f)
    ∙ ap (λ t. has_good_names f && t && nat_le (instruction_count (map block_off f.blocks)) instruction_limit) (blocks_typed_same (is_given (given f)) f.blocks)
    ∙ ap (λ n. has_good_names f && list_all (block_well_typed (is_given (given f))) f.blocks && nat_le n instruction_limit) (count_same f.blocks)

-- ---- the parts of a kernel

-- what calls the one entry point doesn't call the other
apart_calls : (v : Value) → is_function target_deinit v ≡ true → calls_init v ≡ false
apart_calls (GlobalValue x) e = ap (λ y. bytes_eq y target_init) ((bytes_eq-Decides x target_deinit).0 e)
apart_calls (IntValue n) e = refl
apart_calls Null e = refl
apart_calls (Register x) e = refl

same_calls : (v : Value) → is_function target_init v ≡ true → calls_init v ≡ true
same_calls (GlobalValue x) e = e
same_calls (IntValue n) e = let f : ⊥ = cc in absurd f
same_calls Null e = let f : ⊥ = cc in absurd f
same_calls (Register x) e = let f : ⊥ = cc in absurd f

init_operands_off : (operands : List Typed) → is_init_operands true operands ≡ true → is_init_operands false (operands_off operands) ≡ true
init_operands_off (a ∷ b ∷ c ∷ []) e =
    let front = and_parts (is_null_ptr a && is_constant 8 1 b) (is_constant 1 1 c) e in
    let width = and_parts (is_int_of 1 c.ty) (FirstForm.is_number 1 c.value) front.1 in
    and_from (is_null_ptr a && is_constant 8 1 b) (is_int_of 1 c.ty && true) front.0 (and_from (is_int_of 1 c.ty) true width.0 refl)
init_operands_off [] e = let f : ⊥ = cc in absurd f
init_operands_off (a ∷ []) e = let f : ⊥ = cc in absurd f
init_operands_off (a ∷ b ∷ []) e = let f : ⊥ = cc in absurd f
init_operands_off (a ∷ b ∷ c ∷ d ∷ more) e = let f : ⊥ = cc in absurd f

init_off : (k : Kind) → is_init_kind true k ≡ true → is_init_kind false (kind_off k) ≡ true
init_off (Call Absent ret callee operands) e =
    let p = and_parts (is_int_of 32 ret && is_function target_init callee) (is_init_operands true operands) e in
    let q = and_parts (is_int_of 32 ret) (is_function target_init callee) p.0 in
    let c = same_calls callee q.1 in
    let o : is_init_operands false (if calls_init callee then operands_off operands else operands) ≡ true = ap (λ b. is_init_operands false (if b then operands_off operands else operands)) c ∙ init_operands_off operands p.1 in
    and_from (is_int_of 32 ret && is_function target_init callee) _ p.0 o
init_off _ e = let f : ⊥ = cc in absurd f

deinit_stays : (k : Kind) → is_deinit_kind k ≡ true → kind_off k ≡ k
deinit_stays (Call Absent ret callee operands) e =
    let p = and_parts (is_void ret && is_function target_deinit callee) (is_deinit_operands operands) e in
    let q = and_parts (is_void ret) (is_function target_deinit callee) p.0 in
    ap (λ b. Call Absent ret callee (if b then operands_off operands else operands)) (apart_calls callee q.1)
deinit_stays _ e = let f : ⊥ = cc in absurd f

user_same : (x : Option (List ℕ)) (k : Kind) → is_user_kind x (kind_off k) ≡ is_user_kind x k
user_same None (Call tail_word ret callee operands) = refl
user_same (Some x) (Call tail_word ret callee operands) = refl
user_same x _ = refl

users_same : (is : List Inst) → list_all is_user_inst (map inst_off is) ≡ list_all is_user_inst is
users_same [] = refl
users_same (i ∷ is) = ap (λ b. b && list_all is_user_inst (map inst_off is)) (user_same i.result i.kind) ∙ ap (λ b. is_user_inst i && b) (users_same is)

-- what is no call stays as it is
return_stays : (k : Kind) → is_return_kind k ≡ true → kind_off k ≡ k
return_stays (Call tail_word ret callee operands) e = let f : ⊥ = cc in absurd f
return_stays _ e = refl

test_stays : (x : List ℕ) (k : Kind) → is_test_kind x k ≡ true → kind_off k ≡ k
test_stays x (Call tail_word ret callee operands) e = let f : ⊥ = cc in absurd f
test_stays x _ e = refl

branch_stays : (x user exit : List ℕ) (k : Kind) → is_branch_kind x user exit k ≡ true → kind_off k ≡ k
branch_stays x user exit (Call tail_word ret callee operands) e = let f : ⊥ = cc in absurd f
branch_stays x user exit _ e = refl

kept_by : (test : Kind → Bool) (k : Kind) → kind_off k ≡ k → test k ≡ true → test (kind_off k) ≡ true
kept_by test k same e = ap test same ∙ e

return_off : (i : Inst) → is_return i ≡ true → is_return (inst_off i) ≡ true
return_off i e =
    let p = and_parts (FirstForm.no_result i.result) (is_return_kind i.kind) e in
    and_from (FirstForm.no_result i.result) _ p.0 (kept_by is_return_kind i.kind (return_stays i.kind p.1) p.1)

deinit_off : (i : Inst) → is_deinit i ≡ true → is_deinit (inst_off i) ≡ true
deinit_off i e =
    let p = and_parts (FirstForm.no_result i.result) (is_deinit_kind i.kind) e in
    and_from (FirstForm.no_result i.result) _ p.0 (kept_by is_deinit_kind i.kind (deinit_stays i.kind p.1) p.1)

branch_off : (x user exit : List ℕ) (i : Inst) → is_branch x user exit i ≡ true → is_branch x user exit (inst_off i) ≡ true
branch_off x user exit i e =
    let p = and_parts (FirstForm.no_result i.result) (is_branch_kind x user exit i.kind) e in
    and_from (FirstForm.no_result i.result) _ p.0 (kept_by (is_branch_kind x user exit) i.kind (branch_stays x user exit i.kind p.1) p.1)

by_test_off : (x : List ℕ) (y : Option (List ℕ)) (user exit : List ℕ) (test branch : Inst) → by_test x y user exit test branch ≡ true → by_test x y user exit (inst_off test) (inst_off branch) ≡ true
by_test_off x None user exit test branch e = let f : ⊥ = cc in absurd f
by_test_off x (Some y) user exit test branch e =
    let p = and_parts (is_test_kind x test.kind) (is_branch y user exit branch) e in
    and_from _ _ (kept_by (is_test_kind x) test.kind (test_stays x test.kind p.0) p.0) (branch_off y user exit branch p.1)

by_init_off : (x : Option (List ℕ)) (user exit : List ℕ) (init test branch : Inst) → by_init true x user exit init test branch ≡ true → by_init false x user exit (inst_off init) (inst_off test) (inst_off branch) ≡ true
by_init_off None user exit init test branch e = let f : ⊥ = cc in absurd f
by_init_off (Some x) user exit init test branch e =
    let p = and_parts (is_init_kind true init.kind) (by_test x test.result user exit test branch) e in
    and_from _ _ (init_off init.kind p.0) (by_test_off x test.result user exit test branch p.1)

entry_off : (user exit : List ℕ) (is : List Inst) → is_entry true user exit is ≡ true → is_entry false user exit (map inst_off is) ≡ true
entry_off user exit (a ∷ b ∷ c ∷ []) e = by_init_off a.result user exit a b c e
entry_off user exit [] e = let f : ⊥ = cc in absurd f
entry_off user exit (a ∷ []) e = let f : ⊥ = cc in absurd f
entry_off user exit (a ∷ b ∷ []) e = let f : ⊥ = cc in absurd f
entry_off user exit (a ∷ b ∷ c ∷ d ∷ more) e = let f : ⊥ = cc in absurd f

end_off : (is : List Inst) → is_end is ≡ true → is_end (map inst_off is) ≡ true
end_off (a ∷ b ∷ []) e =
    let p = and_parts (is_deinit a) (is_return b) e in
    and_from _ _ (deinit_off a p.0) (return_off b p.1)
end_off [] e = let f : ⊥ = cc in absurd f
end_off (a ∷ []) e = let f : ⊥ = cc in absurd f
end_off (a ∷ b ∷ c ∷ more) e = let f : ⊥ = cc in absurd f

user_off : (is : List Inst) → is_user is ≡ true → is_user (map inst_off is) ≡ true
user_off is e =
    let p = and_parts (list_all is_user_inst (user_code is)) (is_end (drop (length is - 2) is)) e in
    let n : length (map inst_off is) - 2 ≡ length is - 2 = ap (λ n. n - 2) (length-map is inst_off) in
    and_from _ _
    (ap (λ n. list_all is_user_inst (take n (map inst_off is))) n ∙ ap (list_all is_user_inst) (take-map inst_off (length is - 2) is) ∙ users_same (user_code is) ∙ p.0)
    (ap (λ n. is_end (drop n (map inst_off is))) n ∙ ap is_end (drop-map inst_off (length is - 2) is) ∙ end_off (drop (length is - 2) is) p.1)

exit_off : (is : List Inst) → is_exit is ≡ true → is_exit (map inst_off is) ≡ true
exit_off (a ∷ []) e = return_off a e
exit_off [] e = let f : ⊥ = cc in absurd f
exit_off (a ∷ b ∷ more) e = let f : ⊥ = cc in absurd f

blocks_off : (bs : List Block) → are_kernel_blocks true bs ≡ true → are_kernel_blocks false (map block_off bs) ≡ true
blocks_off (a ∷ b ∷ c ∷ []) e =
    let p = and_parts (is_entry true b.name c.name a.insts && is_user b.insts) (is_exit c.insts) e in
    let q = and_parts (is_entry true b.name c.name a.insts) (is_user b.insts) p.0 in
    and_from _ _ (and_from _ _ (entry_off b.name c.name a.insts q.0) (user_off b.insts q.1)) (exit_off c.insts p.1)
blocks_off [] e = let f : ⊥ = cc in absurd f
blocks_off (a ∷ []) e = let f : ⊥ = cc in absurd f
blocks_off (a ∷ b ∷ []) e = let f : ⊥ = cc in absurd f
blocks_off (a ∷ b ∷ c ∷ d ∷ more) e = let f : ⊥ = cc in absurd f

kernel_off : (f : Function) → is_kernel true f ≡ true → is_kernel false (function_off f) ≡ true
kernel_off f e =
    let p = and_parts _ (are_kernel_blocks true f.blocks) e in
    and_from _ _ p.0 (blocks_off f.blocks p.1)

-- ---- the whole

no_blocks : (bs : List Block) → FirstForm.empty bs ≡ true → map block_off bs ≡ bs
no_blocks [] e = refl
no_blocks (b ∷ bs) e = let f : ⊥ = cc in absurd f

bare_stays : (name : List ℕ) (f : Function) → FirstForm.is_bare_declaration name f ≡ true → function_off f ≡ f
bare_stays name f e =
    let p = and_parts _ (FirstForm.empty f.blocks) e in
    ap (λ bs. record f { blocks = bs }) (no_blocks f.blocks p.1)

functions_off : (fs : List Function) → are_functions true fs ≡ true → are_functions false (map function_off fs) ≡ true
functions_off (k ∷ i ∷ d ∷ []) e =
    let p = and_parts (is_kernel true k && is_well_formed k && FirstForm.declares_init i) (FirstForm.declares_deinit d) e in
    let q = and_parts (is_kernel true k && is_well_formed k) (FirstForm.declares_init i) p.0 in
    let r = and_parts (is_kernel true k) (is_well_formed k) q.0 in
    let bare_i = and_parts (FirstForm.is_bare_declaration target_init i && is_int_of 32 i.ret) _ q.1 in
    let bare_d = and_parts (FirstForm.is_bare_declaration target_deinit d && is_void d.ret) _ p.1 in
    let same_i = bare_stays target_init i (and_parts _ (is_int_of 32 i.ret) bare_i.0).0 in
    let same_d = bare_stays target_deinit d (and_parts _ (is_void d.ret) bare_d.0).0 in
    and_from _ _ (and_from _ _ (and_from _ _ (kernel_off k r.0) (well_formed_same k ∙ r.1)) (ap FirstForm.declares_init same_i ∙ q.1)) (ap FirstForm.declares_deinit same_d ∙ p.1)
functions_off [] e = let f : ⊥ = cc in absurd f
functions_off (a ∷ []) e = let f : ⊥ = cc in absurd f
functions_off (a ∷ b ∷ []) e = let f : ⊥ = cc in absurd f
functions_off (a ∷ b ∷ c ∷ d ∷ more) e = let f : ⊥ = cc in absurd f

-- the module with its machine off has the form of an optimised module
pub has_out_form : (m : Module) → HasFirstForm m → HasOutForm (machine_off m)
has_out_form m e =
    let p = and_parts (FirstForm.only_functions m) (are_functions true m.functions) e in
    (false, and_from _ _ p.0 (functions_off m.functions p.1))
