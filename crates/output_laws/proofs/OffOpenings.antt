-- The first block of a kernel is the same where the machine is switched off, but for the flag of the init call.
use Rattle.std.proofs.Common.{◌≡◌, ℕ, List, [], ◌∷◌, ◌++◌, map, Bool, true, false, ◌||◌, ◌&&◌, Option, Some, None, option_map, refl, ap, ◌∙◌, if◌then◌else◌}
use Rattle.std.specs.List.{list_all, list_any}
use Rattle.std.proofs.lemmas.Bool.{and_parts}
use Rattle.ir_core.specs.declared.instructions.Value.{Value}
use Rattle.ir_core.specs.declared.instructions.Value.TheVariants.{Int as IntValue, Null, Local as LocalValue, Global as GlobalValue}
use Rattle.ir_core.specs.declared.instructions.Kind.{Kind}
use Rattle.ir_core.specs.declared.instructions.Kind.TheVariants.{Load, Store, Gep, Call, CondBr}
use Rattle.ir_core.specs.declared.instructions.Inst.{Inst}
use Rattle.ir_core.specs.declared.module.Function.{Function}
use Rattle.ir_core.specs.declared.module.Block.{Block}
use Rattle.ir_core.specs.declared.rtl.Rtl.TheVariants.{TargetInit}
use Rattle.ir_core.specs.FirstForm.{is_register}
use Rattle.ir_core.specs.MachineOff.{kind_off, inst_off, block_off, function_off}
use Rattle.ir_core.specs.Places.{Name}
use Rattle.shapes.specs.Facts.{first_insts, is_call_of, gives}
use Rattle.shapes.specs.KernelShape.{shaped, Opening, behind_inst, opening, makes_block, is_alloca_in, goes_into_alloca, makes_own, is_own_pointer, may_open, of_opener, compares, is_test, Ways, ways_by, ways_on, ways, two_ways, of_branch, of_behind, ways_behind, ways_of, kernel_ways}
use Rattle.accepted_laws.proofs.Nothing.{both_hold}
use Rattle.out_modules.specs.OutputKernels.{of_opening_by}
use Rattle.output_laws.proofs.SwitchedOff.{flat_same, is_call_off}

-- ---- where the init call stands

first_insts_off : (bs : List Block) → first_insts (map block_off bs) ≡ map inst_off (first_insts bs)
first_insts_off [] = refl
first_insts_off (b ∷ bs) = refl

abbrev pub opening_off : Opening → Opening
opening_off o = record { before = map inst_off o.before; init = inst_off o.init; behind = map inst_off o.behind }

behind_off : (i : Inst) (o : Option Opening) → option_map (behind_inst (inst_off i)) (option_map opening_off o) ≡ option_map opening_off (option_map (behind_inst i) o)
behind_off i None = refl
behind_off i (Some o) = refl

pub opens_off : (is : List Inst) → opening (map inst_off is) ≡ option_map opening_off (opening is)
opens_off [] = refl
opens_off (i ∷ is) = ap (λ b. if b then Some (record { before = []; init = inst_off i; behind = map inst_off is }) else option_map (behind_inst (inst_off i)) (opening (map inst_off is))) (is_call_off TargetInit i) ∙ by (is_call_of TargetInit i) (opens_off is)
  where
    by : (b : Bool) → opening (map inst_off is) ≡ option_map opening_off (opening is) → (if b then Some (record { before = []; init = inst_off i; behind = map inst_off is }) else option_map (behind_inst (inst_off i)) (opening (map inst_off is))) ≡ option_map opening_off (if b then Some (record { before = []; init = i; behind = is }) else option_map (behind_inst i) (opening is))
    by true more = refl
    by false more = ap (option_map (behind_inst (inst_off i))) more ∙ behind_off i (opening is)

-- ---- the instructions before the init call

pub any_off : (test new : Inst → Bool) → ((i : Inst) → new (inst_off i) ≡ test i) → (is : List Inst) → list_any new (map inst_off is) ≡ list_any test is
any_off test new same [] = refl
any_off test new same (i ∷ is) = let more = any_off test new same is in λ k. same i k || more k

makes_block_off : (k : Kind) → makes_block (kind_off k) ≡ makes_block k
makes_block_off (Call tail_word ret callee operands) = refl
makes_block_off _ = refl

alloca_off : (insts : List Inst) (v : Value) → is_alloca_in (map inst_off insts) v ≡ is_alloca_in insts v
alloca_off insts (LocalValue x) = any_off (λ i. gives x i && makes_block i.kind) (λ i. gives x i && makes_block i.kind) (λ i. ap (λ b. gives x i && b) (makes_block_off i.kind)) insts
alloca_off insts (GlobalValue x) = refl
alloca_off insts (IntValue n) = refl
alloca_off insts Null = refl

into_alloca_off : (insts : List Inst) (k : Kind) → goes_into_alloca (map inst_off insts) (kind_off k) ≡ goes_into_alloca insts k
into_alloca_off insts (Gep inbounds ty base path) = alloca_off insts base.value
into_alloca_off insts (Call tail_word ret callee operands) = refl
into_alloca_off insts _ = refl

makes_own_off : (insts : List Inst) (k : Kind) → makes_own (map inst_off insts) (kind_off k) ≡ makes_own insts k
makes_own_off insts k =
    let block = makes_block_off k in
    let into = into_alloca_off insts k in
    λ j. if block j then true else into j

own_pointer_off : (insts : List Inst) (v : Value) → is_own_pointer (map inst_off insts) v ≡ is_own_pointer insts v
own_pointer_off insts (LocalValue x) = any_off (λ i. gives x i && makes_own insts i.kind) (λ i. gives x i && makes_own (map inst_off insts) i.kind) (λ i. ap (λ b. gives x i && b) (makes_own_off insts i.kind)) insts
own_pointer_off insts (GlobalValue x) = refl
own_pointer_off insts (IntValue n) = refl
own_pointer_off insts Null = refl

may_open_off : (insts : List Inst) (k : Kind) → may_open (map inst_off insts) (kind_off k) ≡ may_open insts k
may_open_off insts (Load ty at order align) = own_pointer_off insts at.value
may_open_off insts (Store value at order align) = own_pointer_off insts at.value
may_open_off insts (Call tail_word ret callee operands) = refl
may_open_off insts _ = refl

opener_off : (insts : List Inst) (i : Inst) → of_opener (map inst_off insts) (inst_off i) ≡ of_opener insts i
opener_off insts i = ap (λ b. shaped b i.line) (may_open_off insts i.kind)

-- ---- the comparison and the branch behind it

compares_off : (x : Name) (k : Kind) → compares x (kind_off k) ≡ compares x k
compares_off x (Call tail_word ret callee operands) = refl
compares_off x _ = refl

is_test_off : (x : Option Name) (i : Inst) → is_test x (inst_off i) ≡ is_test x i
is_test_off None i = refl
is_test_off (Some x) i = compares_off x i.kind

ways_by_off : (k : Kind) (then_to else_to : Name) → ways_by (kind_off k) then_to else_to ≡ ways_by k then_to else_to
ways_by_off (Call tail_word ret callee operands) then_to else_to = refl
ways_by_off _ then_to else_to = refl

ways_on_off : (test : Inst) (x : Option Name) (k : Kind) → ways_on (inst_off test) x (kind_off k) ≡ ways_on test x k
ways_on_off test None (Call tail_word ret callee operands) = refl
ways_on_off test None _ = refl
ways_on_off test (Some x) (CondBr c then_to else_to) = ap (λ (w : Option Ways). if is_register x c.value then w else None) (ways_by_off test.kind then_to else_to)
ways_on_off test (Some x) (Call tail_word ret callee operands) = refl
ways_on_off test (Some x) _ = refl

ways_off : (test branch : Inst) → ways (inst_off test) (inst_off branch) ≡ ways test branch
ways_off test branch = ways_on_off test test.result branch.kind

branch_off : (line : ℕ) (test : Inst) (is : List Inst) → of_branch line (inst_off test) (map inst_off is) ≡ of_branch line test is
branch_off line test [] = refl
branch_off line test (branch ∷ more) = ap (λ w. shaped (two_ways w) branch.line) (ways_off test branch)

of_behind_off : (line : ℕ) (x : Option Name) (is : List Inst) → of_behind line x (map inst_off is) ≡ of_behind line x is
of_behind_off line x [] = refl
of_behind_off line x (test ∷ more) =
    let compared = is_test_off x test in
    let branch = branch_off line test more in
    λ k. if compared k then branch k else shaped false test.line

ways_behind_off : (is : List Inst) → ways_behind (map inst_off is) ≡ ways_behind is
ways_behind_off [] = refl
ways_behind_off (test ∷ []) = refl
ways_behind_off (test ∷ branch ∷ more) = ways_off test branch

ways_of_off : (o : Option Opening) → ways_of (option_map opening_off o) ≡ ways_of o
ways_of_off None = refl
ways_of_off (Some o) = ways_behind_off o.behind

-- the main thread and the workers go where they went
pub kernel_ways_off : (f : Function) → kernel_ways (function_off f) ≡ kernel_ways f
kernel_ways_off f = ap (λ is. ways_of (opening is)) (first_insts_off f.blocks) ∙ ap ways_of (opens_off (first_insts f.blocks)) ∙ ways_of_off (opening (first_insts f.blocks))

-- ---- the rules on the first block

-- the init call that was found passes a test
abbrev pub is_opened_by : (Inst → Bool) → Option Opening → Bool
is_opened_by plain None = true
is_opened_by plain (Some o) = is_call_of TargetInit o.init && plain o.init

opened_behind : (plain : Inst → Bool) (i : Inst) (o : Option Opening) → is_opened_by plain (option_map (behind_inst i) o) ≡ is_opened_by plain o
opened_behind plain i None = refl
opened_behind plain i (Some o) = refl

init_found : (plain : Inst → Bool) (is : List Inst) → list_all plain is ≡ true → is_opened_by plain (opening is) ≡ true
init_found plain [] e = refl
init_found plain (i ∷ is) e = let parts = and_parts (plain i) (list_all plain is) e in by (is_call_of TargetInit i) refl parts.0 (init_found plain is parts.1)
  where
    by : (b : Bool) → is_call_of TargetInit i ≡ b → plain i ≡ true → is_opened_by plain (opening is) ≡ true → is_opened_by plain (if b then Some (record { before = []; init = i; behind = is }) else option_map (behind_inst i) (opening is)) ≡ true
    by true call here more = both_hold (is_call_of TargetInit i) (plain i) call here
    by false call here more = opened_behind plain i (opening is) ∙ more

module _ (test new plain : Inst → Bool) (same : (i : Inst) → is_call_of TargetInit i ≡ true → plain i ≡ true → new (inst_off i) ≡ test i) where
  -- a test that the new init call passes where the old one passes the other
  opening_rules : (line : ℕ) (insts : List Inst) (o : Option Opening) → is_opened_by plain o ≡ true → of_opening_by new line (map inst_off insts) (option_map opening_off o) ≡ of_opening_by test line insts o
  opening_rules line insts None e = refl
  opening_rules line insts (Some o) e =
      let parts = and_parts (is_call_of TargetInit o.init) (plain o.init) e in
      let before = flat_same (of_opener insts) (of_opener (map inst_off insts)) inst_off (opener_off insts) o.before in
      let init = same o.init parts.0 parts.1 in
      let behind = of_behind_off line o.init.result o.behind in
      λ k. before k ++ shaped (init k) o.init.line ++ behind k

  pub first_block_off : (line : ℕ) (bs : List Block) → list_all plain (first_insts bs) ≡ true → of_opening_by new line (first_insts (map block_off bs)) (opening (first_insts (map block_off bs))) ≡ of_opening_by test line (first_insts bs) (opening (first_insts bs))
  first_block_off line bs e =
      (λ k. of_opening_by new line (first_insts_off bs k) (opening (first_insts_off bs k)))
      ∙ ap (of_opening_by new line (map inst_off (first_insts bs))) (opens_off (first_insts bs))
      ∙ opening_rules line (first_insts bs) (opening (first_insts bs)) (init_found plain (first_insts bs) e)
