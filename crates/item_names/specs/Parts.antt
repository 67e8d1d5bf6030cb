-- Parts of an initializer.
use Rattle.std.specs.Prelude.{List, ◌++◌}
use Rattle.ir_core.specs.declared.types.Ty.{Ty}
use Rattle.ir_core.specs.declared.module.Module.{Module}
use Rattle.ir_core.specs.declared.module.Element.{Element}
use Rattle.ir_core.specs.declared.refusal.Construct.{Construct}
use Rattle.ir_core.specs.Typing.{in_type}
use Rattle.ir_core.specs.NameRefusals.{in_init}

abbrev pub part_type : Element → Ty
part_type e = e.ty

abbrev pub in_element : Module → Element → List Construct
in_element m e = in_type m e.ty ++ in_init m e.ty e.init
