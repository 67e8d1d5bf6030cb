-- The forms that the code tells apart, as the grammar has them.
use Rattle.std.specs.Prelude.{Option, Some, None}
use Rattle.ir_core.specs.Forms as grammar
use Rattle.read_forms.specs.declared.attributes.AttributeForm.{AttributeForm}
use Rattle.read_forms.specs.declared.attributes.AttributeForm.TheVariants.{Plain, Align, Sized}

-- of a form that there may be
abbrev pub if_some : {A B : Type 0} → (A → B) → Option A → Option B
if_some f None = None
if_some f (Some x) = Some (f x)

abbrev pub attribute_form_seen : AttributeForm → grammar.AttributeForm
attribute_form_seen Plain = grammar.PlainAttribute
attribute_form_seen Align = grammar.AlignAttribute
attribute_form_seen Sized = grammar.SizedAttribute
