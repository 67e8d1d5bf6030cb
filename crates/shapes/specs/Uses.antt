-- Where the names of globals and functions stand.
use Rattle.std.specs.Prelude.{List, [], ◌∷◌, ◌++◌, take, drop, Option, Some, None, if◌then◌else◌}
use Rattle.std.specs.List.{flat_map}
use Rattle.ir_core.specs.declared.instructions.Typed.{Typed}
use Rattle.ir_core.specs.declared.instructions.Edge.{Edge}
use Rattle.ir_core.specs.declared.instructions.Case.{Case}
use Rattle.ir_core.specs.declared.instructions.Kind.{Kind}
use Rattle.ir_core.specs.declared.instructions.Kind.TheVariants.{Bin, ICmp, Cast, Select, Phi, Load, Store, Rmw, Gep, Call, CondBr, Switch, Ret}
use Rattle.ir_core.specs.declared.instructions.Inst.{Inst}
use Rattle.ir_core.specs.declared.module.Module.{Module}
use Rattle.ir_core.specs.declared.module.Init.{Init, fold-Init}
use Rattle.ir_core.specs.declared.module.Init.TheOpen.{Init-F, Element-F}
use Rattle.ir_core.specs.Places.{Name}
use Rattle.ir_core.specs.Typing.{is_fork}
use Rattle.ir_core.specs.Wrappers.{value_names, callees}
use Rattle.shapes.specs.Facts.{insts_in, is_call_of, operand_of}
use Rattle.ir_core.specs.declared.rtl.Rtl.TheVariants.{Parallel}

-- ---- all places

abbrev pub operand_names : Typed → List Name
operand_names v = value_names v.value

abbrev pub edge_names : Edge → List Name
edge_names e = value_names e.value

abbrev pub case_names : Case → List Name
case_names c = operand_names c.value

abbrev pub typed_names : Option Typed → List Name
typed_names None = []
typed_names (Some v) = operand_names v

-- the names in the operands of an instruction, and the callee of a call
abbrev pub kind_names : Kind → List Name
kind_names (Bin op flags ty a b) = value_names a ++ value_names b
kind_names (ICmp pred ty a b) = value_names a ++ value_names b
kind_names (Cast op from to) = operand_names from
kind_names (Select c a b) = operand_names c ++ (operand_names a ++ operand_names b)
kind_names (Phi ty edges) = flat_map edge_names edges
kind_names (Load ty at order align) = operand_names at
kind_names (Store value at order align) = operand_names value ++ operand_names at
kind_names (Rmw op at value order align) = operand_names at ++ operand_names value
kind_names (Gep inbounds ty base path) = operand_names base ++ flat_map operand_names path
kind_names (Call tail_word ret callee operands) = value_names callee ++ flat_map operand_names operands
kind_names (CondBr c then_to else_to) = operand_names c
kind_names (Switch on other cases) = operand_names on ++ flat_map case_names cases
kind_names (Ret v) = typed_names v
kind_names _ = []

abbrev pub init_names_layer : Init-F (List Name) (List Name) → List Name
init_names_layer (Init-F.Addr x) = x ∷ []
init_names_layer (Init-F.Square parts) = flat_map (λ names. names) parts
init_names_layer (Init-F.Braces parts) = flat_map (λ names. names) parts
init_names_layer _ = []

abbrev pub element_names_layer : Element-F (List Name) (List Name) → List Name
element_names_layer e = e.init

-- the names in an initializer
abbrev pub init_names : Init → List Name
init_names init = fold-Init (List Name) (List Name) init_names_layer element_names_layer init

abbrev pub contents_names : Option Init → List Name
contents_names None = []
contents_names (Some init) = init_names init

abbrev pub names_in_contents : Module → List Name
names_in_contents m = flat_map (λ g. contents_names g.init) m.globals

abbrev pub inst_names : Inst → List Name
inst_names i = kind_names i.kind

-- the names in operands, callees and initializers
abbrev pub names_used : Module → List Name
names_used m = flat_map inst_names (insts_in m) ++ names_in_contents m

-- ---- some places

-- the functions that are called
abbrev pub names_called : Module → List Name
names_called m = flat_map callees m.functions

abbrev pub fork_names : Inst → List Name
fork_names i = if is_call_of Parallel i then typed_names (operand_of i 5) else []

-- the region functions of forks
abbrev pub names_forked : Module → List Name
names_forked m = flat_map fork_names (insts_in m)

-- the operands of a fork but its wrapper
abbrev pub without_wrapper : List Typed → List Typed
without_wrapper operands = take 6 operands ++ drop 7 operands

abbrev pub kind_names_elsewhere : Kind → List Name
kind_names_elsewhere (Call tail_word ret callee operands) = value_names callee ++ flat_map operand_names (if is_fork callee then without_wrapper operands else operands)
kind_names_elsewhere kind = kind_names kind

abbrev pub inst_names_elsewhere : Inst → List Name
inst_names_elsewhere i = kind_names_elsewhere i.kind

-- the names that stand anywhere but as a fork's wrapper
abbrev pub names_elsewhere : Module → List Name
names_elsewhere m = flat_map inst_names_elsewhere (insts_in m) ++ names_in_contents m
