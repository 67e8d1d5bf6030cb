-- A module of the first form calls quietly.
use Rattle.std.proofs.Common.{◌≡◌, ℕ, zero, suc, ◌-◌, List, [], ◌∷◌, ◌++◌, length, take, drop, Bool, true, ◌&&◌, Option, Some, None, refl, ap, ◌∙◌}
use Rattle.std.specs.List.{flat_map, list_all}
use Rattle.std.proofs.lemmas.Bool.{and_parts, and_from}
use Rattle.std.proofs.lemmas.Slice.Eq.{bytes_eq-Decides}
use Rattle.ir_core.specs.declared.instructions.Value.{Value}
use Rattle.ir_core.specs.declared.instructions.Value.TheVariants.{Int as IntValue, Null, Local as Register, Global as GlobalValue}
use Rattle.ir_core.specs.declared.instructions.TailWord.TheVariants.{Absent}
use Rattle.ir_core.specs.declared.instructions.Kind.{Kind}
use Rattle.ir_core.specs.declared.instructions.Kind.TheVariants.{Call}
use Rattle.ir_core.specs.declared.instructions.Inst.{Inst}
use Rattle.ir_core.specs.declared.module.Module.{Module}
use Rattle.ir_core.specs.declared.module.Function.{Function}
use Rattle.ir_core.specs.declared.module.Block.{Block}
use Rattle.ir_core.specs.EntryPoints.{target_init, target_deinit}
use Rattle.ir_core.specs.Places.{Name}
use Rattle.ir_core.specs.Wrappers.{value_names, kind_callees, inst_callees, block_callees, callees}
use Rattle.ir_core.specs.FirstForm
use Rattle.ir_core.specs.FirstForm.{is_function, is_int_of, is_init_operands, is_init_kind, is_test_kind, is_branch_kind, is_branch, by_test, by_init, is_entry, is_user_kind, is_user_inst, is_deinit_operands, is_deinit_kind, is_deinit, is_return_kind, is_return, is_end, user_code, is_user, is_exit, are_kernel_blocks, is_kernel, is_void, is_well_formed, are_functions, is_first_form}
use Rattle.refine_laws.specs.Quiet.{is_quiet_name, AllQuiet, CallsQuietly}
use Rattle.refine_laws.proofs.QuietSteps.{all_parts}

all_quiet_both : (xs ys : List Name) → AllQuiet xs → AllQuiet ys → AllQuiet (xs ++ ys)
all_quiet_both [] ys p q = q
all_quiet_both (x ∷ xs) ys p q =
    let r = and_parts (is_quiet_name x) (list_all is_quiet_name xs) p in
    and_from (is_quiet_name x) (list_all is_quiet_name (xs ++ ys)) r.0 (all_quiet_both xs ys r.1 q)

-- ---- each instruction

function_quiet : (x : Name) → is_quiet_name x ≡ true → (v : Value) → is_function x v ≡ true → AllQuiet (value_names v)
function_quiet x q (GlobalValue y) e = and_from (is_quiet_name y) true (ap is_quiet_name ((bytes_eq-Decides y x).0 e) ∙ q) refl
function_quiet x q (IntValue n) e = let f : ⊥ = cc in absurd f
function_quiet x q Null e = let f : ⊥ = cc in absurd f
function_quiet x q (Register y) e = let f : ⊥ = cc in absurd f

init_quiet : (flag : Bool) (k : Kind) → is_init_kind flag k ≡ true → AllQuiet (kind_callees k)
init_quiet flag (Call Absent ret callee operands) e =
    let p = and_parts (is_int_of 32 ret && is_function target_init callee) (is_init_operands flag operands) e in
    function_quiet target_init refl callee (and_parts (is_int_of 32 ret) (is_function target_init callee) p.0).1
init_quiet flag _ e = let f : ⊥ = cc in absurd f

deinit_quiet : (k : Kind) → is_deinit_kind k ≡ true → AllQuiet (kind_callees k)
deinit_quiet (Call Absent ret callee operands) e =
    let p = and_parts (is_void ret && is_function target_deinit callee) (is_deinit_operands operands) e in
    function_quiet target_deinit refl callee (and_parts (is_void ret) (is_function target_deinit callee) p.0).1
deinit_quiet _ e = let f : ⊥ = cc in absurd f

test_quiet : (x : Name) (k : Kind) → is_test_kind x k ≡ true → AllQuiet (kind_callees k)
test_quiet x (Call tail_word ret callee operands) e = let f : ⊥ = cc in absurd f
test_quiet x _ e = refl

branch_quiet : (y user exit : Name) (k : Kind) → is_branch_kind y user exit k ≡ true → AllQuiet (kind_callees k)
branch_quiet y user exit (Call tail_word ret callee operands) e = let f : ⊥ = cc in absurd f
branch_quiet y user exit _ e = refl

return_quiet : (k : Kind) → is_return_kind k ≡ true → AllQuiet (kind_callees k)
return_quiet (Call tail_word ret callee operands) e = let f : ⊥ = cc in absurd f
return_quiet _ e = refl

user_quiet : (x : Option Name) (k : Kind) → is_user_kind x k ≡ true → AllQuiet (kind_callees k)
user_quiet (Some x) (Call tail_word ret callee operands) e = let f : ⊥ = cc in absurd f
user_quiet None (Call tail_word ret callee operands) e = let f : ⊥ = cc in absurd f
user_quiet x _ e = refl

-- ---- each block

abbrev insts_callees : List Inst → List Name
insts_callees is = flat_map inst_callees is

entry_by_test : (flag : Bool) (user exit : Name) (init test branch : Inst) (x : Name) (o : Option Name) → is_init_kind flag init.kind ≡ true → by_test x o user exit test branch ≡ true → AllQuiet (insts_callees (init ∷ test ∷ branch ∷ []))
entry_by_test flag user exit init test branch x None k e = let f : ⊥ = cc in absurd f
entry_by_test flag user exit init test branch x (Some y) k e =
    let p = and_parts (is_test_kind x test.kind) (is_branch y user exit branch) e in
    let b = and_parts (FirstForm.no_result branch.result) (is_branch_kind y user exit branch.kind) p.1 in
    all_quiet_both (inst_callees init) _ (init_quiet flag init.kind k) (all_quiet_both (inst_callees test) _ (test_quiet x test.kind p.0) (all_quiet_both (inst_callees branch) [] (branch_quiet y user exit branch.kind b.1) refl))

entry_by_init : (flag : Bool) (user exit : Name) (init test branch : Inst) (o : Option Name) → by_init flag o user exit init test branch ≡ true → AllQuiet (insts_callees (init ∷ test ∷ branch ∷ []))
entry_by_init flag user exit init test branch None e = let f : ⊥ = cc in absurd f
entry_by_init flag user exit init test branch (Some x) e =
    let p = and_parts (is_init_kind flag init.kind) (by_test x test.result user exit test branch) e in
    entry_by_test flag user exit init test branch x test.result p.0 p.1

entry_quiet : (flag : Bool) (user exit : Name) (is : List Inst) → is_entry flag user exit is ≡ true → AllQuiet (insts_callees is)
entry_quiet flag user exit (a ∷ b ∷ c ∷ []) e = entry_by_init flag user exit a b c a.result e
entry_quiet flag user exit [] e = refl
entry_quiet flag user exit (a ∷ []) e = let f : ⊥ = cc in absurd f
entry_quiet flag user exit (a ∷ b ∷ []) e = let f : ⊥ = cc in absurd f
entry_quiet flag user exit (a ∷ b ∷ c ∷ d ∷ more) e = let f : ⊥ = cc in absurd f

return_inst : (i : Inst) → is_return i ≡ true → AllQuiet (inst_callees i)
return_inst i e = return_quiet i.kind (and_parts (FirstForm.no_result i.result) (is_return_kind i.kind) e).1

end_quiet : (is : List Inst) → is_end is ≡ true → AllQuiet (insts_callees is)
end_quiet (a ∷ b ∷ []) e =
    let p = and_parts (is_deinit a) (is_return b) e in
    let q = and_parts (FirstForm.no_result a.result) (is_deinit_kind a.kind) p.0 in
    all_quiet_both (inst_callees a) _ (deinit_quiet a.kind q.1) (all_quiet_both (inst_callees b) [] (return_inst b p.1) refl)
end_quiet [] e = refl
end_quiet (a ∷ []) e = let f : ⊥ = cc in absurd f
end_quiet (a ∷ b ∷ c ∷ more) e = let f : ⊥ = cc in absurd f

users_quiet : (is : List Inst) → list_all is_user_inst is ≡ true → AllQuiet (insts_callees is)
users_quiet [] e = refl
users_quiet (i ∷ is) e =
    let p = and_parts (is_user_inst i) (list_all is_user_inst is) e in
    all_quiet_both (inst_callees i) (insts_callees is) (user_quiet i.result i.kind p.0) (users_quiet is p.1)

-- a list cut in two
both_parts : (k : ℕ) (is : List Inst) → AllQuiet (insts_callees (take k is)) → AllQuiet (insts_callees (drop k is)) → AllQuiet (insts_callees is)
both_parts zero is p q = q
both_parts (suc k) [] p q = q
both_parts (suc k) (i ∷ is) p q =
    let r = all_parts (inst_callees i) (insts_callees (take k is)) p in
    all_quiet_both (inst_callees i) (insts_callees is) r.0 (both_parts k is r.1 q)

user_block : (is : List Inst) → is_user is ≡ true → AllQuiet (insts_callees is)
user_block is e =
    let p = and_parts (list_all is_user_inst (user_code is)) (is_end (drop (length is - 2) is)) e in
    both_parts (length is - 2) is (users_quiet (user_code is) p.0) (end_quiet (drop (length is - 2) is) p.1)

exit_quiet : (is : List Inst) → is_exit is ≡ true → AllQuiet (insts_callees is)
exit_quiet (a ∷ []) e = all_quiet_both (inst_callees a) [] (return_inst a e) refl
exit_quiet [] e = refl
exit_quiet (a ∷ b ∷ more) e = let f : ⊥ = cc in absurd f

-- ---- the functions

blocks_quiet : (flag : Bool) (bs : List Block) → are_kernel_blocks flag bs ≡ true → AllQuiet (flat_map block_callees bs)
blocks_quiet flag (a ∷ b ∷ c ∷ []) e =
    let p = and_parts (is_entry flag b.name c.name a.insts && is_user b.insts) (is_exit c.insts) e in
    let q = and_parts (is_entry flag b.name c.name a.insts) (is_user b.insts) p.0 in
    all_quiet_both (block_callees a) _ (entry_quiet flag b.name c.name a.insts q.0) (all_quiet_both (block_callees b) _ (user_block b.insts q.1) (all_quiet_both (block_callees c) [] (exit_quiet c.insts p.1) refl))
blocks_quiet flag [] e = refl
blocks_quiet flag (a ∷ []) e = let f : ⊥ = cc in absurd f
blocks_quiet flag (a ∷ b ∷ []) e = let f : ⊥ = cc in absurd f
blocks_quiet flag (a ∷ b ∷ c ∷ d ∷ more) e = let f : ⊥ = cc in absurd f

empty_quiet : (bs : List Block) → FirstForm.empty bs ≡ true → AllQuiet (flat_map block_callees bs)
empty_quiet [] e = refl
empty_quiet (b ∷ bs) e = let f : ⊥ = cc in absurd f

bare_quiet : (name : Name) (f : Function) → FirstForm.is_bare_declaration name f ≡ true → AllQuiet (callees f)
bare_quiet name f e = empty_quiet f.blocks (and_parts _ (FirstForm.empty f.blocks) e).1

functions_quiet : (flag : Bool) (fs : List Function) → are_functions flag fs ≡ true → AllQuiet (flat_map callees fs)
functions_quiet flag (a ∷ i ∷ d ∷ []) e =
    let p = and_parts (is_kernel flag a && is_well_formed a && FirstForm.declares_init i) (FirstForm.declares_deinit d) e in
    let q = and_parts (is_kernel flag a && is_well_formed a) (FirstForm.declares_init i) p.0 in
    let r = and_parts (is_kernel flag a) (is_well_formed a) q.0 in
    let init = and_parts (FirstForm.is_bare_declaration target_init i && is_int_of 32 i.ret) _ q.1 in
    let deinit = and_parts (FirstForm.is_bare_declaration target_deinit d && is_void d.ret) _ p.1 in
    all_quiet_both (callees a) _ (blocks_quiet flag a.blocks (and_parts _ (are_kernel_blocks flag a.blocks) r.0).1) (
    all_quiet_both (callees i) _ (bare_quiet target_init i (and_parts _ (is_int_of 32 i.ret) init.0).0) (
    all_quiet_both (callees d) [] (bare_quiet target_deinit d (and_parts _ (is_void d.ret) deinit.0).0) refl
    )
    )
functions_quiet flag [] e = refl
functions_quiet flag (a ∷ []) e = let f : ⊥ = cc in absurd f
functions_quiet flag (a ∷ b ∷ []) e = let f : ⊥ = cc in absurd f
functions_quiet flag (a ∷ b ∷ c ∷ d ∷ more) e = let f : ⊥ = cc in absurd f

pub quiet_first : (flag : Bool) (m : Module) → is_first_form flag m ≡ true → CallsQuietly m
quiet_first flag m e = functions_quiet flag m.functions (and_parts (FirstForm.only_functions m) (are_functions flag m.functions) e).1
