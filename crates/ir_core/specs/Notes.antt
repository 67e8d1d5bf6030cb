-- The lines that are written on the notes for a module: its refusal, or the remarks on it.
use Rattle.std.specs.Prelude.{ℕ, List, ◌++◌, codes, decimal}
use Rattle.std.specs.List.{flat_map}
use Rattle.ir_core.specs.declared.refusal.Construct.{Construct}
use Rattle.ir_core.specs.declared.refusal.Construct.TheVariants.{Syntax, DuplicateName, MissingName, TypeMismatch, FloatType, VectorType, WideInteger, AddressSpace, UndefValue, AggregateValue, VolatileAccess, InlineAsm, IndirectCall, UnknownCallee, Invoke, PointerOrder, MetadataOperand, Signature, KernelShape, SpmdInput, WrapperShape, ClauseArgument, NestedParallel, Limit, ModeIntrinsic, ConstantExpression, NotBuilt}
use Rattle.ir_core.specs.declared.refusal.Refusal.{Refusal}
use Rattle.ir_core.specs.declared.remark.Remark.{Remark}

-- ---- refusals

abbrev pub construct_text : Construct → List ℕ
construct_text Syntax = codes "syntax"
construct_text DuplicateName = codes "duplicate_name"
construct_text MissingName = codes "missing_name"
construct_text TypeMismatch = codes "type_mismatch"
construct_text FloatType = codes "float_type"
construct_text VectorType = codes "vector_type"
construct_text WideInteger = codes "wide_integer"
construct_text AddressSpace = codes "address_space"
construct_text UndefValue = codes "undef_value"
construct_text AggregateValue = codes "aggregate_value"
construct_text VolatileAccess = codes "volatile_access"
construct_text InlineAsm = codes "inline_asm"
construct_text IndirectCall = codes "indirect_call"
construct_text UnknownCallee = codes "unknown_callee"
construct_text Invoke = codes "invoke"
construct_text PointerOrder = codes "pointer_order"
construct_text MetadataOperand = codes "metadata_operand"
construct_text Signature = codes "signature"
construct_text KernelShape = codes "kernel_shape"
construct_text SpmdInput = codes "spmd_input"
construct_text WrapperShape = codes "wrapper_shape"
construct_text ClauseArgument = codes "clause_argument"
construct_text NestedParallel = codes "nested_parallel"
construct_text Limit = codes "limit"
construct_text ModeIntrinsic = codes "mode_intrinsic"
construct_text ConstantExpression = codes "constant_expression"
construct_text NotBuilt = codes "not_built"

-- of refusals on one line the one with the least number is told
abbrev pub construct_number : Construct → ℕ
construct_number Syntax = 1
construct_number DuplicateName = 2
construct_number MissingName = 3
construct_number TypeMismatch = 4
construct_number FloatType = 5
construct_number VectorType = 6
construct_number WideInteger = 7
construct_number AddressSpace = 8
construct_number UndefValue = 9
construct_number AggregateValue = 10
construct_number VolatileAccess = 11
construct_number InlineAsm = 12
construct_number IndirectCall = 13
construct_number UnknownCallee = 14
construct_number Invoke = 15
construct_number PointerOrder = 16
construct_number MetadataOperand = 17
construct_number Signature = 18
construct_number KernelShape = 19
construct_number SpmdInput = 20
construct_number WrapperShape = 21
construct_number ClauseArgument = 22
construct_number NestedParallel = 23
construct_number Limit = 24
construct_number ModeIntrinsic = 25
construct_number ConstantExpression = 26
construct_number NotBuilt = 27

-- without its line end
abbrev pub refusal_text : Refusal → List ℕ
refusal_text r = codes "ompopt: refused: " ++ construct_text r.construct ++ codes " at line " ++ decimal r.line

-- ---- remarks

unfoldable pub remark_word : List ℕ
remark_word = codes "remark: line "

unfoldable pub remark_start : ℕ → List ℕ
remark_start line = remark_word ++ decimal line ++ codes ": "

unfoldable pub remark_end : ℕ → List ℕ
remark_end number = codes " [OMP" ++ decimal number ++ codes "]\n"

abbrev pub remark_text : Remark → List ℕ
remark_text r = remark_start r.line ++ r.text ++ remark_end r.number

abbrev pub remarks_text : List Remark → List ℕ
remarks_text = flat_map remark_text

-- a kernel without a region has no use for its state machine
abbrev pub machine_removed : ℕ → Remark
machine_removed line = record { line = line; number = 130; text = codes "Removing unused state machine from generic-mode kernel." }
