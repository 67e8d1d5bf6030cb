-- The forms that the code tells apart, as the grammar has them.
use Rattle.ir_core.specs.Instructions as grammar
use Rattle.read_body.specs.declared.forms.ValueForm.{ValueForm}
use Rattle.read_body.specs.declared.forms.ValueForm.TheVariants.{Wraps, Divides, Mixes, Compares, Casts, Selects, Phis, Allocas, Loads, Changes, Steps}
use Rattle.read_body.specs.Body as body
use Rattle.read_body.specs.declared.forms.FlagForm.{FlagForm}
use Rattle.read_body.specs.declared.forms.FlagForm.TheVariants.{Wrap, Exact, None}
use Rattle.read_body.specs.declared.forms.CallForm.{CallForm}
use Rattle.read_body.specs.declared.forms.CallForm.TheVariants.{Bare, Led}
use Rattle.read_body.specs.declared.forms.PlainForm.{PlainForm}
use Rattle.read_body.specs.declared.forms.PlainForm.TheVariants.{Assigns, Stores, Fences, Calls, TailCalls}
use Rattle.read_body.specs.declared.forms.LastForm.{LastForm}
use Rattle.read_body.specs.declared.forms.LastForm.TheVariants.{Branches, Switches, Returns, Stops}

abbrev pub value_seen : ValueForm → grammar.ValueForm
value_seen (Wraps op) = grammar.Wraps op
value_seen (Divides op) = grammar.Divides op
value_seen (Mixes op) = grammar.Mixes op
value_seen Compares = grammar.Compares
value_seen (Casts op) = grammar.Casts op
value_seen Selects = grammar.Selects
value_seen Phis = grammar.Phis
value_seen Allocas = grammar.Allocas
value_seen Loads = grammar.Loads
value_seen Changes = grammar.Changes
value_seen Steps = grammar.Steps

abbrev pub flags_seen : FlagForm → body.FlagForm
flags_seen Wrap = body.WrapFlags
flags_seen Exact = body.ExactFlag
flags_seen None = body.NoFlags

abbrev pub call_seen : CallForm → grammar.CallForm
call_seen Bare = grammar.Bare
call_seen Led = grammar.Led

abbrev pub plain_seen : PlainForm → grammar.PlainForm
plain_seen Assigns = grammar.Assigns
plain_seen Stores = grammar.Stores
plain_seen Fences = grammar.Fences
plain_seen Calls = grammar.Calls
plain_seen TailCalls = grammar.TailCalls

abbrev pub last_seen : LastForm → grammar.LastForm
last_seen Branches = grammar.Branches
last_seen Switches = grammar.Switches
last_seen Returns = grammar.Returns
last_seen Stops = grammar.Stops
