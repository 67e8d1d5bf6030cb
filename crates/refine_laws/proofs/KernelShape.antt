-- What the kernel of a module of the first form does in its first block and in its third, with its machine off.
use Rattle.std.proofs.Common.{◌≡◌, ◌≢◌, ℕ, zero, suc, ◌-◌, ◌<◌, ◌^◌, List, [], ◌∷◌, ◌++◌, map, Bool, true, false, ◌&&◌, not, Option, Some, None, Result, Ok, Err, refl, sym, ap, ◌∙◌, subst, arith, ◌⊎◌, inl, inr}
use Rattle.std.specs.Prelude.{slice_get, option_map, nat_lt, ◌==◌, if◌then◌else◌}
use Rattle.std.specs.List.{flat_map}
use Rattle.std.specs.Str.{bytes_eq}
use Rattle.std.proofs.lemmas.Slice.Eq.{bytes_eq-Decides}
use Rattle.std.proofs.lemmas.Bool.{and_parts, false_from_ne_true, eqb-true}
use Rattle.std.proofs.lemmas.Bool.Decides.{nat_tests}
use Rattle.ir_core.specs.declared.types.Ty.{Ty}
use Rattle.ir_core.specs.declared.types.Ty.TheVariants.{Int as IntTy}
use Rattle.ir_core.specs.declared.instructions.Value.{Value}
use Rattle.ir_core.specs.declared.instructions.Value.TheVariants.{Int as IntValue, Null, Local as Register, Global as GlobalValue}
use Rattle.ir_core.specs.declared.instructions.Typed.{Typed}
use Rattle.ir_core.specs.declared.instructions.Pred.TheVariants.{Eq}
use Rattle.ir_core.specs.declared.instructions.TailWord.TheVariants.{Absent}
use Rattle.ir_core.specs.declared.instructions.Kind.{Kind}
use Rattle.ir_core.specs.declared.instructions.Kind.TheVariants.{ICmp, Call, CondBr, Ret}
use Rattle.ir_core.specs.declared.instructions.Inst.{Inst}
use Rattle.ir_core.specs.declared.module.Module.{Module}
use Rattle.ir_core.specs.declared.module.Function.{Function}
use Rattle.ir_core.specs.declared.module.Block.{Block}
use Rattle.ir_core.specs.declared.rtl.Rtl.TheVariants.{TargetInit}
use Rattle.ir_core.specs.EntryPoints.{target_init, target_deinit}
use Rattle.ir_core.specs.MachineOff.{calls_init, operands_off, kind_off, inst_off}
use Rattle.ir_core.specs.Wrappers.{block_callees, is_in}
use Rattle.ir_core.specs.FirstForm
use Rattle.ir_core.specs.FirstForm.{is_function, is_int_of, is_number, is_register, is_null_ptr, is_constant, is_init_operands, is_init_kind, is_minus_one, are_compared, is_test_kind, is_branch_kind, is_branch, by_test, by_init, is_entry, is_user, is_return_kind, is_return, is_exit, are_kernel_blocks, is_kernel, given, name_of, label_given, block_given, holds, all_apart, has_good_names, is_well_formed, are_functions, is_first_form}
use Rattle.mem_model.specs.declared.memory.Word.{Word}
use Rattle.mem_model.specs.declared.memory.Word.TheVariants.{Int}
use Rattle.mem_model.specs.declared.step.Trap.{Trap}
use Rattle.mem_model.specs.declared.step.Trap.TheVariants.{Unreachable}
use Rattle.mem_model.specs.Eval.{truth, compared}
use Rattle.mem_model.specs.Thread.{Name, Frame, ThreadState}
use Rattle.ir_core.specs.Places.{inst_in, block_name, function_place, place_in, PhiNode, with_phi, leading_phis, phis_in}
use Rattle.mem_model.specs.Values.{width_of, register_word, value_word, and_then, of_type}
use Rattle.mem_model.specs.Next.{NextStep, Local, Pending, Leaves, with_found, with_number, with_result, goes_on, goes_in, to_label, CallsEntry, defined_at, entry_or, callee_of, next_call, next_kind, next_inst}
use Rattle.mem_model.specs.declared.phase.LoopPoint.TheVariants.{Sleeps}
use Rattle.mem_model.specs.declared.phase.Phase.TheVariants.{Loops}
use Rattle.mem_model.specs.Entries.{is_worker, begins_kernel}
use Rattle.mem_model.specs.Launching.{is_kernel as is_launched}
use Rattle.mem_model.proofs.Runs.{some_injective, none_is_not_some}
use Rattle.team_model.specs.Team.{kind_modes, mode_operand, mode_number, inst_modes, block_modes, is_spmd_mode}
use Rattle.refine_laws.proofs.SameNext.{later_entry}

abbrev pub minus_one : ℕ
minus_one = 2 ^ 32 - 1

-- ---- each instruction

-- the init call answers the thread's number to it
abbrev pub Asks : Option Inst → Name → Type 0
Asks i x = (m : Module) (t : ThreadState) (f : Frame) (rest : List Frame) → next_inst m t f rest (option_map inst_off i) ≡ Local (goes_on t f rest (Some x) (Int t.answers.init))

-- a lower number than -1 is told from it
abbrev pub Tests : Option Inst → Name → Name → Type 0
Tests i x y = (m : Module) (t : ThreadState) (f : Frame) (rest : List Frame) (n : ℕ) → n < minus_one → f.code.registers x ≡ Some (Int n) → next_inst m t f rest (option_map inst_off i) ≡ Local (goes_on t f rest (Some y) (Int 0))

-- the branch goes to the block with this name
abbrev pub Branches : Option Inst → Name → Name → Type 0
Branches i y exit = (m : Module) (t : ThreadState) (f : Frame) (rest : List Frame) → f.code.registers y ≡ Some (Int 0) → next_inst m t f rest (option_map inst_off i) ≡ to_label m t f rest exit

-- the return of the outermost call ends the thread
abbrev pub Returns : Option Inst → Type 0
Returns i = (m : Module) (t : ThreadState) (f : Frame) → next_inst m t f [] (option_map inst_off i) ≡ Pending Leaves

is_init_callee : (m : Module) (v : Value) → is_function target_init v ≡ true → callee_of m v ≡ CallsEntry TargetInit
is_init_callee m (GlobalValue x) e = ap (λ b. entry_or (if b then Some TargetInit else later_entry x) (defined_at m (function_place m x))) e
is_init_callee m (IntValue n) e = let f : ⊥ = cc in absurd f
is_init_callee m Null e = let f : ⊥ = cc in absurd f
is_init_callee m (Register x) e = let f : ⊥ = cc in absurd f

init_calls : (v : Value) → is_function target_init v ≡ true → calls_init v ≡ true
init_calls (GlobalValue x) e = e
init_calls (IntValue n) e = let f : ⊥ = cc in absurd f
init_calls Null e = let f : ⊥ = cc in absurd f
init_calls (Register x) e = let f : ⊥ = cc in absurd f

-- with the flag off no thread enters the runtime's own loop
goes_on_off : (t : ThreadState) (f : Frame) (rest : List Frame) (x : Name) (worker : Bool) → (if worker && false then Local (goes_in t f rest (Loops Sleeps)) else Local (goes_on t f rest (Some x) (Int t.answers.init))) ≡ Local (goes_on t f rest (Some x) (Int t.answers.init))
goes_on_off t f rest x true = refl
goes_on_off t f rest x false = refl

begins_off : (flag : Bool) (operands : List Typed) → is_init_operands flag operands ≡ true → (t : ThreadState) (f : Frame) (rest : List Frame) (x : Name) → begins_kernel t f rest (Some x) (operands_off operands) ≡ Local (goes_on t f rest (Some x) (Int t.answers.init))
begins_off flag (a ∷ b ∷ c ∷ []) e t f rest x = goes_on_off t f rest x (is_worker t)
begins_off flag [] e t f rest x = let g : ⊥ = cc in absurd g
begins_off flag (a ∷ []) e t f rest x = let g : ⊥ = cc in absurd g
begins_off flag (a ∷ b ∷ []) e t f rest x = let g : ⊥ = cc in absurd g
begins_off flag (a ∷ b ∷ c ∷ d ∷ more) e t f rest x = let g : ⊥ = cc in absurd g

asks : (flag : Bool) (x : Name) (k : Kind) → is_init_kind flag k ≡ true → (m : Module) (t : ThreadState) (f : Frame) (rest : List Frame) → next_kind m t f rest (Some x) (kind_off k) ≡ Local (goes_on t f rest (Some x) (Int t.answers.init))
asks flag x (Call Absent ret callee operands) e m t f rest =
    let p = and_parts (is_int_of 32 ret && is_function target_init callee) (is_init_operands flag operands) e in
    let q = and_parts (is_int_of 32 ret) (is_function target_init callee) p.0 in
    ap (λ init. next_call m t f rest (Some x) (if init then operands_off operands else operands) (callee_of m callee)) (init_calls callee q.1)
    ∙ ap (next_call m t f rest (Some x) (operands_off operands)) (is_init_callee m callee q.1)
    ∙ begins_off flag operands p.1 t f rest x
asks flag x _ e m t f rest = let g : ⊥ = cc in absurd g

not_same : (n k : ℕ) → n ≢ k → (n == k) ≡ false
not_same n k apart = false_from_ne_true (n == k) (λ e. apart (grind (arith, nat_tests)))

register_is : (x : Name) (v : Value) → is_register x v ≡ true → v ≡ Register x
register_is x (Register y) e = ap Register ((bytes_eq-Decides y x).0 e)
register_is x (IntValue n) e = let f : ⊥ = cc in absurd f
register_is x Null e = let f : ⊥ = cc in absurd f
register_is x (GlobalValue y) e = let f : ⊥ = cc in absurd f

number_is : (n : ℕ) (v : Value) → is_number n v ≡ true → v ≡ IntValue n
number_is n (IntValue k) e = ap IntValue (grind (arith, nat_tests))
number_is n (Register y) e = let f : ⊥ = cc in absurd f
number_is n Null e = let f : ⊥ = cc in absurd f
number_is n (GlobalValue y) e = let f : ⊥ = cc in absurd f

-- the register and -1, in one of the two orders
sides : (x : Name) (a b : Value) (first : Bool) → is_register x a ≡ first → are_compared x a b ≡ true → ((a ≡ Register x) × (b ≡ IntValue minus_one)) ⊎ ((a ≡ IntValue minus_one) × (b ≡ Register x))
sides x a b true h e = inl (register_is x a h, number_is minus_one b (sym (ap (λ t. if t then is_minus_one b else (is_minus_one a && is_register x b)) h) ∙ e))
sides x a b false h e =
    let p = and_parts (is_minus_one a) (is_register x b) (sym (ap (λ t. if t then is_minus_one b else (is_minus_one a && is_register x b)) h) ∙ e) in
    inr (number_is minus_one a p.0, register_is x b p.1)

int_type : (width : ℕ) (ty : Ty) → is_int_of width ty ≡ true → ty ≡ IntTy width
int_type width (IntTy w) e = ap IntTy (eqb-true w width e)
int_type width _ e = let f : ⊥ = cc in absurd f

abbrev compares : ThreadState → Frame → List Frame → Name → Ty → Result Word Trap → Result Word Trap → NextStep
compares t f rest y ty a b =
    with_found (and_then a (of_type ty)) (λ v. with_found (and_then b (of_type ty)) (λ w. with_result (compared Eq (width_of ty) v w) (λ n. Local (goes_on t f rest (Some y) (Int n)))))

-- a number and -1, both of 32 bits
abbrev compares_small : ThreadState → Frame → List Frame → Name → Bool → ℕ → NextStep
compares_small t f rest y small n = with_found (if small then Ok (Int n) else Err Unreachable) (λ v. with_result (compared Eq 32 v (Int minus_one)) (λ k. Local (goes_on t f rest (Some y) (Int k))))

abbrev compares_with_small : ThreadState → Frame → List Frame → Name → Bool → ℕ → NextStep
compares_with_small t f rest y small n = with_found (if small then Ok (Int n) else Err Unreachable) (λ w. with_result (compared Eq 32 (Int minus_one) w) (λ k. Local (goes_on t f rest (Some y) (Int k))))

is_small : (n : ℕ) → n < minus_one → nat_lt n (2 ^ 32) ≡ true
is_small n low = grind (arith, nat_tests)

tests_by : (x y : Name) (ty : Ty) (a b : Value) → ty ≡ IntTy 32 → ((a ≡ Register x) × (b ≡ IntValue minus_one)) ⊎ ((a ≡ IntValue minus_one) × (b ≡ Register x)) → (m : Module) (t : ThreadState) (f : Frame) (rest : List Frame) (n : ℕ) → n < minus_one → f.code.registers x ≡ Some (Int n) →
    compares t f rest y ty (value_word m f.code.registers a) (value_word m f.code.registers b) ≡ Local (goes_on t f rest (Some y) (Int 0))
tests_by x y ty a b is (inl p) m t f rest n low h =
    ap (λ ty. compares t f rest y ty (value_word m f.code.registers a) (value_word m f.code.registers b)) is
    ∙ ap (λ v. compares t f rest y (IntTy 32) (value_word m f.code.registers v) (value_word m f.code.registers b)) p.0
    ∙ ap (λ v. compares t f rest y (IntTy 32) (register_word (f.code.registers x)) (value_word m f.code.registers v)) p.1
    ∙ ap (λ o. compares t f rest y (IntTy 32) (register_word o) (Ok (Int minus_one))) h
    ∙ ap (λ small. compares_small t f rest y small n) (is_small n low)
    ∙ ap (λ e. Local (goes_on t f rest (Some y) (Int (truth e)))) (not_same n minus_one (λ e. omega arith))
tests_by x y ty a b is (inr p) m t f rest n low h =
    ap (λ ty. compares t f rest y ty (value_word m f.code.registers a) (value_word m f.code.registers b)) is
    ∙ ap (λ v. compares t f rest y (IntTy 32) (value_word m f.code.registers v) (value_word m f.code.registers b)) p.0
    ∙ ap (λ v. compares t f rest y (IntTy 32) (Ok (Int minus_one)) (value_word m f.code.registers v)) p.1
    ∙ ap (λ o. compares t f rest y (IntTy 32) (Ok (Int minus_one)) (register_word o)) h
    ∙ ap (λ small. compares_with_small t f rest y small n) (is_small n low)
    ∙ ap (λ e. Local (goes_on t f rest (Some y) (Int (truth e)))) (not_same minus_one n (λ e. omega arith))

tests : (x y : Name) (k : Kind) → is_test_kind x k ≡ true → (m : Module) (t : ThreadState) (f : Frame) (rest : List Frame) (n : ℕ) → n < minus_one → f.code.registers x ≡ Some (Int n) → next_kind m t f rest (Some y) (kind_off k) ≡ Local (goes_on t f rest (Some y) (Int 0))
tests x y (ICmp Eq ty a b) e m t f rest n low h =
    let p = and_parts (is_int_of 32 ty) (are_compared x a b) e in
    tests_by x y ty a b (int_type 32 ty p.0) (sides x a b (is_register x a) refl p.1) m t f rest n low h
tests x y _ e m t f rest n low h = let g : ⊥ = cc in absurd g

branches : (y user exit : Name) (x : Option Name) (k : Kind) → is_branch_kind y user exit k ≡ true → (m : Module) (t : ThreadState) (f : Frame) (rest : List Frame) → f.code.registers y ≡ Some (Int 0) → next_kind m t f rest x (kind_off k) ≡ to_label m t f rest exit
branches y user exit x (CondBr c then_to else_to) e m t f rest h =
    let p = and_parts (is_int_of 1 c.ty && is_register y c.value && bytes_eq then_to user) (bytes_eq else_to exit) e in
    let q = and_parts (is_int_of 1 c.ty && is_register y c.value) (bytes_eq then_to user) p.0 in
    let r = and_parts (is_int_of 1 c.ty) (is_register y c.value) q.0 in
    ap (λ v. goes_by c.ty (value_word m f.code.registers v)) (register_is y c.value r.1) ∙ ap (λ o. goes_by c.ty (register_word o)) h ∙ ap (λ ty. goes_by ty (Ok (Int 0))) (int_type 1 c.ty r.0) ∙ ap (to_label m t f rest) ((bytes_eq-Decides else_to exit).0 p.1)
  where
    goes_by : Ty → Result Word Trap → NextStep
    goes_by ty found = with_found (and_then found (of_type ty)) (λ w. with_number w (λ n. to_label m t f rest (if n == 0 then else_to else then_to)))
branches y user exit x _ e m t f rest h = let g : ⊥ = cc in absurd g

returns : (x : Option Name) (k : Kind) → is_return_kind k ≡ true → (m : Module) (t : ThreadState) (f : Frame) → next_kind m t f [] x (kind_off k) ≡ Pending Leaves
returns x (Ret None) e m t f = refl
returns x _ e m t f = let g : ⊥ = cc in absurd g

-- ---- the mode

modes_of : (flag : Bool) (operands : List Typed) → is_init_operands flag operands ≡ true → mode_operand operands ≡ 1 ∷ []
modes_of flag (a ∷ b ∷ c ∷ []) e =
    let p = and_parts (is_null_ptr a && is_constant 8 1 b) (is_constant 1 (if flag then 1 else 0) c) e in
    let q = and_parts (is_null_ptr a) (is_constant 8 1 b) p.0 in
    ap mode_number (number_is 1 b.value (and_parts (is_int_of 8 b.ty) (is_number 1 b.value) q.1).1)
modes_of flag [] e = let f : ⊥ = cc in absurd f
modes_of flag (a ∷ []) e = let f : ⊥ = cc in absurd f
modes_of flag (a ∷ b ∷ []) e = let f : ⊥ = cc in absurd f
modes_of flag (a ∷ b ∷ c ∷ d ∷ more) e = let f : ⊥ = cc in absurd f

init_modes : (flag : Bool) (k : Kind) → is_init_kind flag k ≡ true → kind_modes k ≡ 1 ∷ []
init_modes flag (Call Absent ret callee operands) e =
    let p = and_parts (is_int_of 32 ret && is_function target_init callee) (is_init_operands flag operands) e in
    let q = and_parts (is_int_of 32 ret) (is_function target_init callee) p.0 in
    ap (λ b. if b then mode_operand operands else []) (init_calls callee q.1) ∙ modes_of flag operands p.1
init_modes flag _ e = let f : ⊥ = cc in absurd f

-- ---- the first block

pub record EntryShape (user exit : Name) (is : List Inst) : Type 0 where
  pub x : Name
  pub y : Name
  pub asks : Asks (slice_get is 0) x
  pub tests : Tests (slice_get is 1) x y
  pub branches : Branches (slice_get is 2) y exit
  pub generic : (more : List ℕ) → is_spmd_mode (flat_map inst_modes is ++ more) ≡ false

entry_by_test : (flag : Bool) (user exit : Name) (init test branch : Inst) (x : Name) (o : Option Name) → init.result ≡ Some x → test.result ≡ o → is_init_kind flag init.kind ≡ true → by_test x o user exit test branch ≡ true → EntryShape user exit (init ∷ test ∷ branch ∷ [])
entry_by_test flag user exit init test branch x None hx ho k e = let f : ⊥ = cc in absurd f
entry_by_test flag user exit init test branch x (Some y) hx ho k e =
    let p = and_parts (is_test_kind x test.kind) (is_branch y user exit branch) e in
    let b = and_parts (FirstForm.no_result branch.result) (is_branch_kind y user exit branch.kind) p.1 in
    record {
      x = x;
      y = y;
      asks = λ m t f rest. ap (λ r. next_kind m t f rest r (kind_off init.kind)) hx ∙ asks flag x init.kind k m t f rest;
      tests = λ m t f rest n low h. ap (λ r. next_kind m t f rest r (kind_off test.kind)) ho ∙ tests x y test.kind p.0 m t f rest n low h;
      branches = λ m t f rest h. branches y user exit branch.result branch.kind b.1 m t f rest h;
      generic = λ more. ap (λ ms. is_spmd_mode ((ms ++ flat_map inst_modes (test ∷ branch ∷ [])) ++ more)) (init_modes flag init.kind k);
    }

entry_by_init : (flag : Bool) (user exit : Name) (init test branch : Inst) (o : Option Name) → init.result ≡ o → by_init flag o user exit init test branch ≡ true → EntryShape user exit (init ∷ test ∷ branch ∷ [])
entry_by_init flag user exit init test branch None h e = let f : ⊥ = cc in absurd f
entry_by_init flag user exit init test branch (Some x) h e =
    let p = and_parts (is_init_kind flag init.kind) (by_test x test.result user exit test branch) e in
    entry_by_test flag user exit init test branch x test.result h refl p.0 p.1

entry_shape : (flag : Bool) (user exit : Name) (is : List Inst) → is_entry flag user exit is ≡ true → EntryShape user exit is
entry_shape flag user exit (a ∷ b ∷ c ∷ []) e = entry_by_init flag user exit a b c a.result refl e
entry_shape flag user exit [] e = let f : ⊥ = cc in absurd f
entry_shape flag user exit (a ∷ []) e = let f : ⊥ = cc in absurd f
entry_shape flag user exit (a ∷ b ∷ []) e = let f : ⊥ = cc in absurd f
entry_shape flag user exit (a ∷ b ∷ c ∷ d ∷ more) e = let f : ⊥ = cc in absurd f

exit_returns : (is : List Inst) → is_exit is ≡ true → Returns (slice_get is 0)
exit_returns (a ∷ []) e = returns a.result a.kind (and_parts (FirstForm.no_result a.result) (is_return_kind a.kind) e).1
exit_returns [] e = let f : ⊥ = cc in absurd f
exit_returns (a ∷ b ∷ more) e = let f : ⊥ = cc in absurd f

is_no_phi : (x : Option Name) (k : Kind) (phis : List PhiNode) → is_return_kind k ≡ true → with_phi x k phis ≡ []
is_no_phi x (Ret None) phis e = refl
is_no_phi x _ phis e = let f : ⊥ = cc in absurd f

exit_begins : (is : List Inst) → is_exit is ≡ true → leading_phis is ≡ []
exit_begins (a ∷ []) e = is_no_phi a.result a.kind [] (and_parts (FirstForm.no_result a.result) (is_return_kind a.kind) e).1
exit_begins [] e = let f : ⊥ = cc in absurd f
exit_begins (a ∷ b ∷ more) e = let f : ⊥ = cc in absurd f

-- ---- the names of the blocks

apart_behind : (xs ys : List (List ℕ × Ty)) → all_apart (map name_of (xs ++ ys)) ≡ true → all_apart (map name_of ys) ≡ true
apart_behind [] ys e = e
apart_behind (x ∷ xs) ys e = apart_behind xs ys (and_parts _ (all_apart (map name_of (xs ++ ys))) e).1

labels_apart : (f : Function) → is_well_formed f ≡ true → all_apart (map name_of (map label_given f.blocks)) ≡ true
labels_apart f e =
    let p = and_parts (has_good_names f && _) _ e in
    let q = and_parts (has_good_names f) _ p.0 in
    let r = and_parts _ (all_apart (map name_of (given f))) q.0 in
    apart_behind (map FirstForm.param_given f.params ++ flat_map block_given f.blocks) (map label_given f.blocks) r.1

third_by : (ab ac bc self more : Bool) → (not (if ab then true else if ac then true else false) && (not (if bc then true else false) && more)) ≡ true → self ≡ true → ◌≡◌ {A = Option ℕ} (if ac then Some 0 else if bc then Some 1 else if self then Some 2 else None) (Some 2)
third_by true ac bc self more e h = let f : ⊥ = cc in absurd f
third_by false true bc self more e h = let f : ⊥ = cc in absurd f
third_by false false true self more e h = let f : ⊥ = cc in absurd f
third_by false false false true more e h = refl
third_by false false false false more e h = let f : ⊥ = cc in absurd f

third_place : (a b c : Name) → all_apart (a ∷ b ∷ c ∷ []) ≡ true → place_in (a ∷ b ∷ c ∷ []) c ≡ Some 2
third_place a b c e = third_by (bytes_eq a b) (bytes_eq a c) (bytes_eq b c) (bytes_eq c c) _ e ((bytes_eq-Decides c c).1 refl)

-- ---- the kernel

pub record KernelShape (bs : List Block) : Type 0 where
  pub x : Name
  pub y : Name
  pub exit : Name
  pub asks : Asks (inst_in (slice_get bs 0) 0) x
  pub tests : Tests (inst_in (slice_get bs 0) 1) x y
  pub branches : Branches (inst_in (slice_get bs 0) 2) y exit
  pub exit_place : place_in (map block_name bs) exit ≡ Some 2
  pub no_phis : phis_in (slice_get bs 2) ≡ []
  pub returns : Returns (inst_in (slice_get bs 2) 0)
  pub generic : is_spmd_mode (flat_map block_modes bs) ≡ false

blocks_shape : (flag : Bool) (bs : List Block) → are_kernel_blocks flag bs ≡ true → all_apart (map name_of (map label_given bs)) ≡ true → KernelShape bs
blocks_shape flag (a ∷ b ∷ c ∷ []) e apart =
    let p = and_parts (is_entry flag b.name c.name a.insts && is_user b.insts) (is_exit c.insts) e in
    let q = and_parts (is_entry flag b.name c.name a.insts) (is_user b.insts) p.0 in
    let s = entry_shape flag b.name c.name a.insts q.0 in
    record {
      x = s.x;
      y = s.y;
      exit = c.name;
      asks = s.asks;
      tests = s.tests;
      branches = s.branches;
      exit_place = third_place a.name b.name c.name apart;
      no_phis = exit_begins c.insts p.1;
      returns = exit_returns c.insts p.1;
      generic = s.generic (flat_map block_modes (b ∷ c ∷ []));
    }
blocks_shape flag [] e apart = let f : ⊥ = cc in absurd f
blocks_shape flag (a ∷ []) e apart = let f : ⊥ = cc in absurd f
blocks_shape flag (a ∷ b ∷ []) e apart = let f : ⊥ = cc in absurd f
blocks_shape flag (a ∷ b ∷ c ∷ d ∷ more) e apart = let f : ⊥ = cc in absurd f

no_calls : (f : Function) (bs : List Block) → f.blocks ≡ bs → FirstForm.empty bs ≡ true → is_launched f ≡ true → ⊥
no_calls f [] h e c = let g : is_in (flat_map block_callees []) target_init ≡ true = sym (ap (λ bs. is_in (flat_map block_callees bs) target_init) h) ∙ c in cc
no_calls f (b ∷ bs) h e c = let g : ⊥ = cc in g

same_function : (f g : Function) → Some f ≡ Some g → is_launched g ≡ true → is_launched f ≡ true
same_function f g e c = ap is_launched (some_injective e) ∙ c

bare_calls : (name : Name) (f : Function) → FirstForm.is_bare_declaration name f ≡ true → is_launched f ≡ true → ⊥
bare_calls name f e c = no_calls f f.blocks refl (and_parts _ (FirstForm.empty f.blocks) e).1 c

functions_shape : (flag : Bool) (fs : List Function) → are_functions flag fs ≡ true → (k : ℕ) (f : Function) → slice_get fs k ≡ Some f → is_launched f ≡ true → KernelShape f.blocks
functions_shape flag (a ∷ i ∷ d ∷ []) e k f h c = by_place k h
  where
    p : (is_kernel flag a && is_well_formed a && FirstForm.declares_init i ≡ true) × (FirstForm.declares_deinit d ≡ true)
    p = and_parts (is_kernel flag a && is_well_formed a && FirstForm.declares_init i) (FirstForm.declares_deinit d) e

    q : (is_kernel flag a && is_well_formed a ≡ true) × (FirstForm.declares_init i ≡ true)
    q = and_parts (is_kernel flag a && is_well_formed a) (FirstForm.declares_init i) p.0

    r : (is_kernel flag a ≡ true) × (is_well_formed a ≡ true)
    r = and_parts (is_kernel flag a) (is_well_formed a) q.0

    by_place : (k : ℕ) → slice_get (a ∷ i ∷ d ∷ []) k ≡ Some f → KernelShape f.blocks
    by_place zero h = subst (λ (f : Function). KernelShape f.blocks) (some_injective h) (blocks_shape flag a.blocks (and_parts _ (are_kernel_blocks flag a.blocks) r.0).1 (labels_apart a r.1))
    by_place (suc zero) h =
        let bare = and_parts (FirstForm.is_bare_declaration target_init i && is_int_of 32 i.ret) _ q.1 in
        absurd (bare_calls target_init i (and_parts _ (is_int_of 32 i.ret) bare.0).0 (same_function i f h c))
    by_place (suc (suc zero)) h =
        let bare = and_parts (FirstForm.is_bare_declaration target_deinit d && FirstForm.is_void d.ret) _ p.1 in
        absurd (bare_calls target_deinit d (and_parts _ (FirstForm.is_void d.ret) bare.0).0 (same_function d f h c))
    by_place (suc (suc (suc n))) h = none_is_not_some h
functions_shape flag [] e k f h c = let g : ⊥ = cc in absurd g
functions_shape flag (a ∷ []) e k f h c = let g : ⊥ = cc in absurd g
functions_shape flag (a ∷ b ∷ []) e k f h c = let g : ⊥ = cc in absurd g
functions_shape flag (a ∷ b ∷ x ∷ d ∷ more) e k f h c = let g : ⊥ = cc in absurd g

-- each function of the module that calls init is its kernel
pub kernel_shape : (flag : Bool) (m : Module) → is_first_form flag m ≡ true → (k : ℕ) (f : Function) → slice_get m.functions k ≡ Some f → is_launched f ≡ true → KernelShape f.blocks
kernel_shape flag m e k f h c = functions_shape flag m.functions (and_parts (FirstForm.only_functions m) (are_functions flag m.functions) e).1 k f h c
