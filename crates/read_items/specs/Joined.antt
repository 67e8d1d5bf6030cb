-- Items of a module, one put behind another.
use Rattle.std.specs.Prelude.{List, [], ◌∷◌, ◌++◌, Option}
use Rattle.ir_core.specs.declared.module.Module.{Module}
use Rattle.ir_core.specs.Language as grammar
use Rattle.read_forms.specs.Read.{Read, then_read, done}
use Rattle.read_items.specs.declared.items.Item.{Item}
use Rattle.read_items.specs.declared.items.Item.TheVariants.{NamedType, Variable, Function, Line}
use Rattle.read_items.specs.declared.items.ItemForm.{ItemForm}
use Rattle.read_items.specs.declared.items.ItemForm.TheVariants.{Types, Variables, Definitions, Declarations, Lines}
use Rattle.read_items.specs.Globals.{Named}
use Rattle.read_items.specs.Items as items

abbrev pub form_seen : ItemForm → items.ItemForm
form_seen Types = items.TypeForm
form_seen Variables = items.VariableForm
form_seen Definitions = items.DefinitionForm
form_seen Declarations = items.DeclarationForm
form_seen Lines = items.LineForm

abbrev pub item_seen : Item → grammar.Item
item_seen (NamedType d) = grammar.TypeItem d
item_seen (Variable g) = grammar.VariableItem g
item_seen (Function f) = grammar.FunctionItem f
item_seen (Line x) = grammar.LineItem x

abbrev pub step_seen : Item × Option Named → grammar.Item × Option Named
step_seen s = (item_seen s.0, s.1)

abbrev pub joined : Module → Module → Module
joined a b = record { prelude = a.prelude ++ b.prelude; types = a.types ++ b.types; globals = a.globals ++ b.globals; functions = a.functions ++ b.functions; tail = a.tail ++ b.tail }

abbrev pub with_item : Module → grammar.Item → Module
with_item m x = joined m (grammar.module_of (x ∷ []))

-- the module before, and the items behind it
abbrev pub module_behind : Module → Read (List grammar.Item) → Read Module
module_behind m f ts = then_read (f ts) (λ xs. done (joined m (grammar.module_of xs)))
