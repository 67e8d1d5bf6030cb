-- Where nothing is refused of kernels, the flag of each init call is a number.
use Rattle.std.proofs.Common.{◌≡◌, ℕ, List, [], ◌∷◌, ◌++◌, length, Bool, true, false, not, cond, ◌||◌, ◌&&◌, ◌==◌, Option, Some, None, option_map, arith, refl, sym, ap, ◌∙◌, if◌then◌else◌}
use Rattle.std.specs.Prelude.{slice_get}
use Rattle.std.specs.List.{flat_map, filter, list_all, list_any}
use Rattle.std.proofs.lemmas.Bool.{and_parts, eqb-true}
use Rattle.std.proofs.lemmas.List.Folds.{list_all-append}
use Rattle.ir_core.specs.declared.instructions.Kind.{Kind}
use Rattle.ir_core.specs.declared.instructions.Inst.{Inst}
use Rattle.ir_core.specs.declared.module.Module.{Module}
use Rattle.ir_core.specs.declared.module.Function.{Function}
use Rattle.ir_core.specs.declared.module.Block.{Block}
use Rattle.ir_core.specs.declared.refusal.Refusal.{Refusal}
use Rattle.ir_core.specs.declared.rtl.Rtl.TheVariants.{TargetInit}
use Rattle.ir_core.specs.FirstForm.{is_void}
use Rattle.ir_core.specs.Wrappers.{is_in}
use Rattle.shapes.specs.Insts.{block_insts}
use Rattle.shapes.specs.Facts.{insts_of, insts_in, first_insts, calls, is_call_of, operands_of, operand_of, is_constant}
use Rattle.shapes.specs.Uses.{names_called, names_forked}
use Rattle.shapes.specs.KernelShape.{shaped, is_kernel, spmd_inputs, has_heading, exec_mode, of_exec_mode, Opening, behind_inst, opening, of_opener, is_generic_init, of_behind, of_opening, kernel_ways, of_exit, of_block, of_code, of_generic, of_modes, deinit_outside, of_function, kernel_refusals}
use Rattle.accepted_laws.proofs.Nothing.{not_both, something, front_none, back_none, both_hold}

-- the flag of an init call is 1
abbrev pub has_flag : Kind → Bool
has_flag k = if calls TargetInit k then is_constant 1 (slice_get (operands_of k) 2) else true

abbrev pub is_flagged : Inst → Bool
is_flagged i = has_flag i.kind

abbrev pub are_flagged : Function → Bool
are_flagged f = list_all is_flagged (insts_of f)

-- ---- lists of instructions

-- one that is no init call
other_inst : (i : Inst) → is_call_of TargetInit i ≡ false → is_flagged i ≡ true
other_inst i e = ap (λ b. if b then is_constant 1 (operand_of i 2) else true) e

-- no init call is among them
no_init : (is : List Inst) → list_any (is_call_of TargetInit) is ≡ false → list_all is_flagged is ≡ true
no_init [] e = refl
no_init (i ∷ is) e = by (is_call_of TargetInit i) refl e (no_init is)
  where
    by : (b : Bool) → is_call_of TargetInit i ≡ b → (b || list_any (is_call_of TargetInit) is) ≡ false → (list_any (is_call_of TargetInit) is ≡ false → list_all is_flagged is ≡ true) → list_all is_flagged (i ∷ is) ≡ true
    by true c e more = not_both true refl e
    by false c e more = both_hold _ _ (other_inst i c) (more e)

one_at_least : (i : Inst) (is : List Inst) → length (i ∷ is) ≡ 0 → ⊥
one_at_least i is e = omega (arith, e)

-- of their init calls none is left
none_left : (is : List Inst) → length (filter (is_call_of TargetInit) is) ≡ 0 → list_all is_flagged is ≡ true
none_left [] e = refl
none_left (i ∷ is) e = by (is_call_of TargetInit i) refl e (none_left is)
  where
    by : (b : Bool) → is_call_of TargetInit i ≡ b → length (cond b (i ∷ filter (is_call_of TargetInit) is) (filter (is_call_of TargetInit) is)) ≡ 0 → (length (filter (is_call_of TargetInit) is) ≡ 0 → list_all is_flagged is ≡ true) → list_all is_flagged (i ∷ is) ≡ true
    by true c e more = absurd (one_at_least i (filter (is_call_of TargetInit) is) e)
    by false c e more = both_hold _ _ (other_inst i c) (more e)

-- ---- the first block

-- the flag of the init call of a first block is 1
abbrev opens_flagged : Option Opening → Bool
opens_flagged None = false
opens_flagged (Some o) = is_constant 1 (operand_of o.init 2)

flag_behind : (i : Inst) (o : Option Opening) → opens_flagged (option_map (behind_inst i) o) ≡ opens_flagged o
flag_behind i None = refl
flag_behind i (Some o) = refl

-- of one instruction and others there is but one, so the others are none
only_one : (i : Inst) (is : List Inst) → length (i ∷ is) ≡ 1 → length is ≡ 0
only_one i is e = omega (arith, e)

-- the one init call stands in the first block
one_init : (is rest : List Inst) → opens_flagged (opening is) ≡ true → length (filter (is_call_of TargetInit) (is ++ rest)) ≡ 1 → list_all is_flagged (is ++ rest) ≡ true
one_init [] rest o n = not_both false o refl
one_init (i ∷ is) rest o n = by (is_call_of TargetInit i) refl o n (one_init is rest)
  where
    by : (b : Bool) → is_call_of TargetInit i ≡ b → opens_flagged (if b then Some (record { before = []; init = i; behind = is }) else option_map (behind_inst i) (opening is)) ≡ true → length (cond b (i ∷ filter (is_call_of TargetInit) (is ++ rest)) (filter (is_call_of TargetInit) (is ++ rest))) ≡ 1 → (opens_flagged (opening is) ≡ true → length (filter (is_call_of TargetInit) (is ++ rest)) ≡ 1 → list_all is_flagged (is ++ rest) ≡ true) → list_all is_flagged (i ∷ (is ++ rest)) ≡ true
    by true c o n more = both_hold _ _ (ap (λ b. if b then is_constant 1 (operand_of i 2) else true) c ∙ o) (none_left (is ++ rest) (only_one i (filter (is_call_of TargetInit) (is ++ rest)) n))
    by false c o n more = both_hold _ _ (other_inst i c) (more (sym (flag_behind i (opening is)) ∙ o) n)

blocks_flagged : (bs : List Block) → opens_flagged (opening (first_insts bs)) ≡ true → length (filter (is_call_of TargetInit) (flat_map block_insts bs)) ≡ 1 → list_all is_flagged (flat_map block_insts bs) ≡ true
blocks_flagged [] o n = refl
blocks_flagged (b ∷ bs) o n = one_init b.insts (flat_map block_insts bs) o n

-- ---- what isn't refused

pub shape_holds : (b : Bool) (line : ℕ) → shaped b line ≡ [] → b ≡ true
shape_holds true line e = refl
shape_holds false line e = something _ _ e

pub no_generic : (spmd generic : List Refusal) → of_modes spmd generic ≡ [] → generic ≡ []
no_generic [] generic e = e
no_generic (r ∷ rs) generic e = something r rs e

opening_flagged : (line : ℕ) (insts : List Inst) (o : Option Opening) → of_opening line insts o ≡ [] → opens_flagged o ≡ true
opening_flagged line insts None e = something _ _ e
opening_flagged line insts (Some o) e =
    let before = flat_map (of_opener insts) o.before in
    let init = shaped (is_generic_init o.init) o.init.line in
    let behind = of_behind line o.init.result o.behind in
    let generic = shape_holds (is_generic_init o.init) o.init.line (back_none before init (front_none (before ++ init) behind e)) in
    (and_parts (is_constant 1 (operand_of o.init 1)) (is_constant 1 (operand_of o.init 2)) generic).1

-- a kernel of which nothing is refused calls __kmpc_target_init once
heading_once : (m : Module) (f : Function) → has_heading m f ≡ true → length (filter (is_call_of TargetInit) (insts_of f)) ≡ 1
heading_once m f e = eqb-true (length (filter (is_call_of TargetInit) (insts_of f))) 1 (and_parts (is_void f.ret && not (is_in (names_called m) f.name) && not (is_in (names_forked m) f.name)) (length (filter (is_call_of TargetInit) (insts_of f)) == 1) e).1

code_flagged : (m : Module) (f : Function) → of_code m f ≡ [] → are_flagged f ≡ true
code_flagged m f e =
    let heading = shaped (has_heading m f) f.line in
    let first = of_opening f.line (first_insts f.blocks) (opening (first_insts f.blocks)) in
    let exit = of_exit f (kernel_ways f) in
    let blocks = flat_map (of_block (kernel_ways f)) f.blocks in
    let front = front_none (heading ++ first) exit (front_none (heading ++ first ++ exit) blocks e) in
    let once = heading_once m f (shape_holds (has_heading m f) f.line (front_none heading first front)) in
    blocks_flagged f.blocks (opening_flagged f.line (first_insts f.blocks) (opening (first_insts f.blocks)) (back_none heading first front)) once

pub function_flagged : (m : Module) (f : Function) → of_function m f ≡ [] → are_flagged f ≡ true
function_flagged m f e = by (is_kernel f) refl e
  where
    by : (b : Bool) → is_kernel f ≡ b → (if b then of_modes (spmd_inputs m f) (of_generic m f) else flat_map deinit_outside (insts_of f)) ≡ [] → are_flagged f ≡ true
    by true k e = code_flagged m f (back_none (of_exec_mode m (exec_mode m f)) (of_code m f) (no_generic (spmd_inputs m f) (of_generic m f) e))
    by false k e = no_init (insts_of f) k

-- ---- the module

functions_flagged : (m : Module) (fs : List Function) → flat_map (of_function m) fs ≡ [] → list_all are_flagged fs ≡ true
functions_flagged m [] e = refl
functions_flagged m (f ∷ fs) e =
    both_hold _ _
    (function_flagged m f (front_none (of_function m f) (flat_map (of_function m) fs) e))
    (functions_flagged m fs (back_none (of_function m f) (flat_map (of_function m) fs) e))

pub module_flagged : (m : Module) → kernel_refusals m ≡ [] → list_all are_flagged m.functions ≡ true
module_flagged m e = functions_flagged m m.functions (back_none (shaped (list_any is_kernel m.functions) 1) (flat_map (of_function m) m.functions) e)

all_flat : {X Y : Type 0} (test : Y → Bool) (f : X → List Y) (xs : List X) → list_all (λ x. list_all test (f x)) xs ≡ true → list_all test (flat_map f xs) ≡ true
all_flat test f [] e = refl
all_flat test f (x ∷ xs) e =
    let parts = and_parts (list_all test (f x)) (list_all (λ x. list_all test (f x)) xs) e in
    list_all-append test (f x) (flat_map f xs) ∙ both_hold _ _ parts.0 (all_flat test f xs parts.1)

pub insts_flagged : (m : Module) → list_all are_flagged m.functions ≡ true → list_all is_flagged (insts_in m) ≡ true
insts_flagged m e = all_flat is_flagged insts_of m.functions e
