use Rattle.std.proofs.Common.{◌≡◌, ℕ, List, Option, false, sym, ap, ◌∙◌}
use Rattle.ir_core.specs.declared.instructions.Kind.{Kind}
use Rattle.ir_core.specs.declared.module.Module.{Module}
use Rattle.ir_core.specs.declared.module.Function.{Function}
use Rattle.ir_core.specs.declared.refusal.Construct.{Construct}
use Rattle.ir_core.specs.NameRefusals.{is_phi}
use Rattle.ir_core.specs.Typing.{in_kind, scope_of}
use Rattle.name_tables.specs.Least.{least_of}
use Rattle.ir_names.proofs.blocks.in_other_kind.Goals as goal

-- what is refused of an instruction of this kind
of_kind : (s : Module × Function) (c : Option Construct) (kind known : Kind) → kind ≡ known → ((block : List ℕ) → c ≡ least_of (in_kind (scope_of s.0 s.1) block known)) → (block : List ℕ) → is_phi kind ≡ false → c ≡ least_of (in_kind (scope_of s.0 s.1) block kind)
of_kind s c kind known is found block other = found block ∙ ap (λ k. least_of (in_kind (scope_of s.0 s.1) block k)) (sym is)

pub returns-in-Bin : goal.returns-in-Bin
returns-in-Bin c = of_kind c.args.s.now c.binary.result c.args.kind.now _ c.in-Bin.is c.binary.ensures

pub returns-in-ICmp : goal.returns-in-ICmp
returns-in-ICmp c = of_kind c.args.s.now c.comparison.result c.args.kind.now _ c.in-ICmp.is c.comparison.ensures

pub returns-in-Cast : goal.returns-in-Cast
returns-in-Cast c = of_kind c.args.s.now c.conversion.result c.args.kind.now _ c.in-Cast.is c.conversion.ensures

pub returns-in-Select : goal.returns-in-Select
returns-in-Select c = of_kind c.args.s.now c.selection.result c.args.kind.now _ c.in-Select.is c.selection.ensures

pub returns-in-Load : goal.returns-in-Load
returns-in-Load c = of_kind c.args.s.now c.loaded.result c.args.kind.now _ c.in-Load.is c.loaded.ensures

pub returns-in-Store : goal.returns-in-Store
returns-in-Store c = of_kind c.args.s.now c.stored.result c.args.kind.now _ c.in-Store.is c.stored.ensures

pub returns-in-Rmw : goal.returns-in-Rmw
returns-in-Rmw c = of_kind c.args.s.now c.rmw.result c.args.kind.now _ c.in-Rmw.is c.rmw.ensures

pub returns-in-Gep : goal.returns-in-Gep
returns-in-Gep c = of_kind c.args.s.now c.address.result c.args.kind.now _ c.in-Gep.is c.address.ensures

pub returns-in-Call : goal.returns-in-Call
returns-in-Call c = of_kind c.args.s.now c.call.result c.args.kind.now _ c.in-Call.is c.call.ensures

pub returns-in-CondBr : goal.returns-in-CondBr
returns-in-CondBr c = of_kind c.args.s.now c.conditional_branch.result c.args.kind.now _ c.in-CondBr.is c.conditional_branch.ensures

pub returns-in-Switch : goal.returns-in-Switch
returns-in-Switch c = of_kind c.args.s.now c.switch.result c.args.kind.now _ c.in-Switch.is c.switch.ensures
