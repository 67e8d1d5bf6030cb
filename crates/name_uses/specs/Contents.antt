-- The names in initializers and functions, as the code takes them.
use Rattle.std.specs.Prelude.{List}
use Rattle.std.specs.List.{flat_map}
use Rattle.ir_core.specs.declared.module.Element.{Element}
use Rattle.ir_core.specs.declared.module.Global.{Global}
use Rattle.ir_core.specs.Places.{Name}
use Rattle.shapes.specs.Uses.{init_names, contents_names}

abbrev pub element_names : Element → List Name
element_names e = init_names e.init

abbrev pub global_names : Global → List Name
global_names g = contents_names g.init
