-- What is kept of a module, and how it tells whether an allocation is used plainly.
use Rattle.std.specs.Prelude.{◌==◌, ◌&&◌, ℕ, List, Bool, true, false, not, Option, Some, None, slice_get}
use Rattle.ir_core.specs.declared.instructions.Value.{Value}
use Rattle.ir_core.specs.declared.instructions.Value.TheVariants.{Int as IntValue}
use Rattle.ir_core.specs.declared.instructions.Typed.{Typed}
use Rattle.ir_core.specs.declared.instructions.Inst.{Inst}
use Rattle.ir_core.specs.declared.module.Module.{Module}
use Rattle.ir_core.specs.declared.rtl.Rtl.TheVariants.{AllocShared}
use Rattle.ir_core.specs.Places.{Name}
use Rattle.checked_modules.specs.Checked.{HasNoRefusal}
use Rattle.shapes.specs.Facts.{is_call_of, operand_of}
use Rattle.register_numbers.specs.Numbers.{number_of, register_count}
use Rattle.register_hops.specs.Numbered.{AreReachedRegisters}
use Rattle.plain_facts.specs.declared.own.Own.{Own}
use Rattle.plain_facts.specs.declared.own.Own.TheVariants.{Unused, Released}
use Rattle.plain_facts.specs.Uses.{all_uses, AreOwn}
use Rattle.plain_facts.specs.Backs.{all_backs, all_roots}

-- the rows: how each register is used otherwise itself, and whether others that it leads to are
pub record AreRows (m : Module) (own : List Own) (beyond : List Bool) : Type 0 where
  pub rules : HasNoRefusal m
  pub own_row : AreOwn (register_count m) (all_uses m) own
  pub beyond_row : AreReachedRegisters m (all_backs m) (all_roots own (all_backs m)) beyond

-- ---- what is read

-- how a register is used itself is plain for an allocation of the size
abbrev pub allows : Own → Value → Bool
allows Unused size = true
allows (Released n) (IntValue size) = n == size
allows _ size = false

abbrev pub is_allowed : Option Own → Value → Bool
is_allowed None size = false
is_allowed (Some own) size = allows own size

abbrev pub is_true : Option Bool → Bool
is_true None = false
is_true (Some b) = b

abbrev pub is_plain_number : List Own → List Bool → Value → Option ℕ → Bool
is_plain_number own beyond size None = false
is_plain_number own beyond size (Some n) = is_allowed (slice_get own n) size && not (is_true (slice_get beyond n))

abbrev pub is_plain_result : Module → List Own → List Bool → ℕ → Option Name → Option Typed → Bool
is_plain_result m own beyond at None size = false
is_plain_result m own beyond at (Some x) None = false
is_plain_result m own beyond at (Some x) (Some size) = is_plain_number own beyond size.value (number_of m at x)

-- the instruction is an allocation that is used plainly, by the rows
abbrev pub is_plain_inst : Module → List Own → List Bool → ℕ → Inst → Bool
is_plain_inst m own beyond at i = is_call_of AllocShared i && is_plain_result m own beyond at i.result (operand_of i 0)
