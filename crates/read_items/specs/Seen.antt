-- The forms that the code tells apart, as the grammar has them.
use Rattle.ir_core.specs.Language as grammar
use Rattle.read_items.specs.declared.functions.Heading.{Heading}
use Rattle.read_items.specs.declared.function_words.FunctionWord.{FunctionWord}
use Rattle.read_items.specs.declared.function_words.FunctionWord.TheVariants.{Group, Plain, Text, Section, Comdat, Aligned, Attached}

abbrev pub function_word_seen : FunctionWord → grammar.FunctionWordForm
function_word_seen Group = grammar.KeptGroup
function_word_seen Plain = grammar.PlainWord
function_word_seen Text = grammar.TextWord
function_word_seen Section = grammar.Section
function_word_seen Comdat = grammar.Comdat
function_word_seen Aligned = grammar.Aligned
function_word_seen Attached = grammar.Attached

abbrev pub heading_seen : Heading → grammar.Heading
heading_seen h = record { words = h.words; result = h.ret; name = h.name }
