-- The modules that the program takes by now: one kernel without a region, and the two entry points that it calls.
use Rattle.std.specs.Prelude.{◌≡◌, ℕ, ◌-◌, ◌^◌, List, [], ◌∷◌, ◌++◌, length, take, drop, map, codes, Bool, true, false, ◌==◌, ◌&&◌, not, nat_lt, nat_le, if◌then◌else◌, Option, Some, None}
use Rattle.std.specs.List.{flat_map, list_all, sum_by}
use Rattle.std.specs.Str.{bytes_eq}
use Rattle.ir_core.specs.declared.types.Ty.{Ty}
use Rattle.ir_core.specs.declared.types.Ty.TheVariants.{Void, Int as IntTy, Ptr}
use Rattle.ir_core.specs.declared.instructions.Value.{Value}
use Rattle.ir_core.specs.declared.instructions.Value.TheVariants.{Int as IntValue, Null, Local as Register, Global as GlobalValue}
use Rattle.ir_core.specs.declared.instructions.Typed.{Typed}
use Rattle.ir_core.specs.declared.instructions.BinOp.{BinOp}
use Rattle.ir_core.specs.declared.instructions.BinOp.TheVariants.{Add, Sub, Mul}
use Rattle.ir_core.specs.declared.instructions.Flags.{Flags}
use Rattle.ir_core.specs.declared.instructions.Order.{Order}
use Rattle.ir_core.specs.declared.instructions.Pred.TheVariants.{Eq}
use Rattle.ir_core.specs.declared.instructions.TailWord.TheVariants.{Absent}
use Rattle.ir_core.specs.declared.instructions.Kind.{Kind}
use Rattle.ir_core.specs.declared.instructions.Kind.TheVariants.{Bin, ICmp, Load, Store, Call, CondBr, Ret}
use Rattle.ir_core.specs.declared.instructions.Inst.{Inst}
use Rattle.ir_core.specs.declared.module.Module.{Module}
use Rattle.ir_core.specs.declared.module.Function.{Function}
use Rattle.ir_core.specs.declared.module.Param.{Param}
use Rattle.ir_core.specs.declared.module.Block.{Block}
use Rattle.ir_core.specs.EntryPoints.{target_init, target_deinit, is_entry_point}
use Rattle.ir_core.specs.Text.{is_word}
pub use Rattle.ir_core.specs.Layout.{is_width}

-- ---- types and operands

-- a type that a register can have
abbrev pub is_scalar : Ty → Bool
is_scalar (IntTy width) = is_width width
is_scalar Ptr = true
is_scalar _ = false

abbrev pub is_int_of : ℕ → Ty → Bool
is_int_of width (IntTy w) = w == width
is_int_of width _ = false

abbrev pub is_integer : Ty → Bool
is_integer (IntTy width) = is_width width
is_integer _ = false

abbrev pub is_ptr : Ty → Bool
is_ptr Ptr = true
is_ptr _ = false

abbrev pub is_void : Ty → Bool
is_void Void = true
is_void _ = false

-- the same scalar type
abbrev pub same_scalar : Ty → Ty → Bool
same_scalar (IntTy width) ty = is_int_of width ty
same_scalar Ptr ty = is_ptr ty
same_scalar _ ty = false

abbrev pub is_number : ℕ → Value → Bool
is_number n (IntValue k) = k == n
is_number n _ = false

abbrev pub is_null : Value → Bool
is_null Null = true
is_null _ = false

abbrev pub is_register : List ℕ → Value → Bool
is_register x (Register y) = bytes_eq y x
is_register x _ = false

abbrev pub is_function : List ℕ → Value → Bool
is_function x (GlobalValue y) = bytes_eq y x
is_function x _ = false

abbrev pub is_null_ptr : Typed → Bool
is_null_ptr v = is_ptr v.ty && is_null v.value

-- the number of an integer type
abbrev pub is_constant : ℕ → ℕ → Typed → Bool
is_constant width n v = is_int_of width v.ty && is_number n v.value

abbrev pub no_result : Option (List ℕ) → Bool
no_result None = true
no_result (Some x) = false

abbrev pub empty : {A : Type 0} → List A → Bool
empty [] = true
empty (x ∷ xs) = false

-- ---- the first block: the init call, its comparison with -1, and the branch on that

-- ptr null, i8 1, i1 true or false
abbrev pub is_init_operands : Bool → List Typed → Bool
is_init_operands flag (place ∷ mode ∷ last ∷ []) = is_null_ptr place && is_constant 8 1 mode && is_constant 1 (if flag then 1 else 0) last
is_init_operands flag _ = false

abbrev pub is_init_kind : Bool → Kind → Bool
is_init_kind flag (Call Absent ret callee operands) = is_int_of 32 ret && is_function target_init callee && is_init_operands flag operands
is_init_kind flag _ = false

-- the register and the number -1, in either order
abbrev pub is_minus_one : Value → Bool
is_minus_one v = is_number (2 ^ 32 - 1) v

abbrev pub are_compared : List ℕ → Value → Value → Bool
are_compared x a b = if is_register x a then is_minus_one b else (is_minus_one a && is_register x b)

abbrev pub is_test_kind : List ℕ → Kind → Bool
is_test_kind x (ICmp Eq ty a b) = is_int_of 32 ty && are_compared x a b
is_test_kind x _ = false

abbrev pub is_branch_kind : List ℕ → List ℕ → List ℕ → Kind → Bool
is_branch_kind x user exit (CondBr cond then_to else_to) = is_int_of 1 cond.ty && is_register x cond.value && bytes_eq then_to user && bytes_eq else_to exit
is_branch_kind x user exit _ = false

abbrev pub is_branch : List ℕ → List ℕ → List ℕ → Inst → Bool
is_branch x user exit i = no_result i.result && is_branch_kind x user exit i.kind

abbrev pub by_test : List ℕ → Option (List ℕ) → List ℕ → List ℕ → Inst → Inst → Bool
by_test x None user exit test branch = false
by_test x (Some y) user exit test branch = is_test_kind x test.kind && is_branch y user exit branch

abbrev pub by_init : Bool → Option (List ℕ) → List ℕ → List ℕ → Inst → Inst → Inst → Bool
by_init flag None user exit init test branch = false
by_init flag (Some x) user exit init test branch = is_init_kind flag init.kind && by_test x test.result user exit test branch

abbrev pub is_entry : Bool → List ℕ → List ℕ → List Inst → Bool
is_entry flag user exit (init ∷ test ∷ branch ∷ []) = by_init flag init.result user exit init test branch
is_entry flag user exit _ = false

-- ---- the second block: the user code, the deinit call and the return

abbrev pub is_add_sub_or_mul : BinOp → Bool
is_add_sub_or_mul Add = true
is_add_sub_or_mul Sub = true
is_add_sub_or_mul Mul = true
is_add_sub_or_mul _ = false

abbrev pub no_flags : Flags → Bool
no_flags f = not f.nsw && not f.nuw && not f.exact

abbrev pub is_plain_access : Option Order → ℕ → Bool
is_plain_access None align = align == 0
is_plain_access (Some order) align = false

-- a load, a store, or an addition, subtraction or multiplication without flags
abbrev pub is_user_kind : Option (List ℕ) → Kind → Bool
is_user_kind (Some x) (Bin op flags ty a b) = is_add_sub_or_mul op && no_flags flags && is_integer ty
is_user_kind (Some x) (Load ty at order align) = is_scalar ty && is_ptr at.ty && is_plain_access order align
is_user_kind None (Store value at order align) = is_scalar value.ty && is_ptr at.ty && is_plain_access order align
is_user_kind _ _ = false

abbrev pub is_user_inst : Inst → Bool
is_user_inst i = is_user_kind i.result i.kind

-- ptr null, i8 1
abbrev pub is_deinit_operands : List Typed → Bool
is_deinit_operands (place ∷ mode ∷ []) = is_null_ptr place && is_constant 8 1 mode
is_deinit_operands _ = false

abbrev pub is_deinit_kind : Kind → Bool
is_deinit_kind (Call Absent ret callee operands) = is_void ret && is_function target_deinit callee && is_deinit_operands operands
is_deinit_kind _ = false

abbrev pub is_deinit : Inst → Bool
is_deinit i = no_result i.result && is_deinit_kind i.kind

abbrev pub is_return_kind : Kind → Bool
is_return_kind (Ret None) = true
is_return_kind _ = false

abbrev pub is_return : Inst → Bool
is_return i = no_result i.result && is_return_kind i.kind

abbrev pub is_end : List Inst → Bool
is_end (deinit ∷ leave ∷ []) = is_deinit deinit && is_return leave
is_end _ = false

-- the instructions before the last two
abbrev pub user_code : List Inst → List Inst
user_code insts = take (length insts - 2) insts

abbrev pub is_user : List Inst → Bool
is_user insts = list_all is_user_inst (user_code insts) && is_end (drop (length insts - 2) insts)

-- ---- the third block: the return

abbrev pub is_exit : List Inst → Bool
is_exit (leave ∷ []) = is_return leave
is_exit _ = false

-- ---- functions

abbrev pub are_kernel_blocks : Bool → List Block → Bool
are_kernel_blocks flag (entry ∷ user ∷ exit ∷ []) = is_entry flag user.name exit.name entry.insts && is_user user.insts && is_exit exit.insts
are_kernel_blocks flag _ = false

abbrev pub is_scalar_param : Param → Bool
is_scalar_param p = is_scalar p.ty

abbrev pub begins_with_llvm : List ℕ → Bool
begins_with_llvm x = bytes_eq (take 5 x) (codes "llvm.")

-- a name that the kernel may have
abbrev pub is_kernel_name : List ℕ → Bool
is_kernel_name x = not (is_entry_point x) && not (begins_with_llvm x)

abbrev pub is_kernel : Bool → Function → Bool
is_kernel flag f = is_kernel_name f.name && empty f.words && is_void f.ret && list_all is_scalar_param f.params && empty f.groups && are_kernel_blocks flag f.blocks

-- the parameters of a declaration are named by their places
abbrev pub are_init_params : List Param → Bool
are_init_params (a ∷ b ∷ c ∷ []) = bytes_eq a.name (codes "0") && is_ptr a.ty && bytes_eq b.name (codes "1") && is_int_of 8 b.ty && bytes_eq c.name (codes "2") && is_int_of 1 c.ty
are_init_params _ = false

abbrev pub are_deinit_params : List Param → Bool
are_deinit_params (a ∷ b ∷ []) = bytes_eq a.name (codes "0") && is_ptr a.ty && bytes_eq b.name (codes "1") && is_int_of 8 b.ty
are_deinit_params _ = false

abbrev pub is_bare_declaration : List ℕ → Function → Bool
is_bare_declaration name f = bytes_eq f.name name && empty f.words && empty f.groups && empty f.blocks

abbrev pub declares_init : Function → Bool
declares_init f = is_bare_declaration target_init f && is_int_of 32 f.ret && are_init_params f.params

abbrev pub declares_deinit : Function → Bool
declares_deinit f = is_bare_declaration target_deinit f && is_void f.ret && are_deinit_params f.params

-- ---- names and their types

-- the type of an instruction's result
abbrev pub result_type : Kind → Ty
result_type (Bin op flags ty a b) = ty
result_type (ICmp pred ty a b) = IntTy 1
result_type (Load ty at order align) = ty
result_type (Call tail_word ret callee operands) = ret
result_type _ = Void

abbrev pub result_given : Option (List ℕ) → Kind → List (List ℕ × Ty)
result_given None kind = []
result_given (Some x) kind = (x, result_type kind) ∷ []

abbrev pub inst_given : Inst → List (List ℕ × Ty)
inst_given i = result_given i.result i.kind

abbrev pub block_given : Block → List (List ℕ × Ty)
block_given b = flat_map inst_given b.insts

abbrev pub param_given : Param → List ℕ × Ty
param_given p = (p.name, p.ty)

-- a block's name is no operand, which the type void says
abbrev pub label_given : Block → List ℕ × Ty
label_given b = (b.name, Void)

-- the parameters, results and blocks of a function, with their types
abbrev pub given : Function → List (List ℕ × Ty)
given f = map param_given f.params ++ flat_map block_given f.blocks ++ map label_given f.blocks

abbrev pub name_of : List ℕ × Ty → List ℕ
name_of p = p.0

abbrev pub local_names : Function → List (List ℕ)
local_names f = map name_of (given f)

abbrev pub holds : List (List ℕ) → List ℕ → Bool
holds [] x = false
holds (y ∷ ys) x = if bytes_eq x y then true else holds ys x

-- each name is given once
abbrev pub all_apart : List (List ℕ) → Bool
all_apart [] = true
all_apart (x ∷ xs) = not (holds xs x) && all_apart xs

-- the type with which a name is given
abbrev pub type_in : List (List ℕ × Ty) → List ℕ → Option Ty
type_in [] x = None
type_in (p ∷ ps) x = if bytes_eq x p.0 then Some p.1 else type_in ps x

abbrev pub is_type : Ty → Option Ty → Bool
is_type ty None = false
is_type ty (Some other) = same_scalar other ty

-- whether a name is given with a type
abbrev pub is_given : List (List ℕ × Ty) → Ty → List ℕ → Bool
is_given names ty x = is_type ty (type_in names x)

abbrev pub is_number_of : ℕ → Ty → Bool
is_number_of n (IntTy width) = nat_lt n (2 ^ width)
is_number_of n _ = false

-- an operand that is of its type, where this tells the types of names; a function's name is none
abbrev pub is_value_of : (Ty → List ℕ → Bool) → Ty → Value → Bool
is_value_of has ty (IntValue n) = is_number_of n ty
is_value_of has ty Null = is_ptr ty
is_value_of has ty (Register x) = has ty x
is_value_of has ty (GlobalValue x) = false

abbrev pub is_well_typed : (Ty → List ℕ → Bool) → Typed → Bool
is_well_typed has v = is_value_of has v.ty v.value

-- the operands of the user code
abbrev pub uses_well_typed : (Ty → List ℕ → Bool) → Kind → Bool
uses_well_typed has (Bin op flags ty a b) = is_value_of has ty a && is_value_of has ty b
uses_well_typed has (Load ty at order align) = is_well_typed has at
uses_well_typed has (Store value at order align) = is_well_typed has value && is_well_typed has at
uses_well_typed has _ = true

abbrev pub inst_well_typed : (Ty → List ℕ → Bool) → Inst → Bool
inst_well_typed has i = uses_well_typed has i.kind

abbrev pub block_well_typed : (Ty → List ℕ → Bool) → Block → Bool
block_well_typed has b = list_all (inst_well_typed has) b.insts

abbrev pub has_good_names : Function → Bool
has_good_names f = is_word f.name && list_all is_word (local_names f) && all_apart (local_names f)

abbrev pub block_length : Block → ℕ
block_length b = length b.insts

abbrev pub instruction_count : List Block → ℕ
instruction_count = sum_by block_length

unfoldable pub instruction_limit : ℕ
instruction_limit = 200000

-- what a kernel's names and operands keep
abbrev pub is_well_formed : Function → Bool
is_well_formed f = has_good_names f && list_all (block_well_typed (is_given (given f))) f.blocks && nat_le (instruction_count f.blocks) instruction_limit

-- ---- modules

abbrev pub are_functions : Bool → List Function → Bool
are_functions flag (kernel ∷ init ∷ deinit ∷ []) = is_kernel flag kernel && is_well_formed kernel && declares_init init && declares_deinit deinit
are_functions flag _ = false

abbrev pub only_functions : Module → Bool
only_functions m = empty m.prelude && empty m.types && empty m.globals && empty m.tail

abbrev pub is_first_form : Bool → Module → Bool
is_first_form flag m = only_functions m && are_functions flag m.functions

-- a kernel and the declarations of init and deinit; init is told to run the state machine of its workers
abbrev pub HasFirstForm : Module → Type 0
HasFirstForm m = is_first_form true m ≡ true

-- the same, and init is told to run it or not to
abbrev pub HasOutForm : Module → Type 0
HasOutForm m = (flag : Bool) × (is_first_form flag m ≡ true)
