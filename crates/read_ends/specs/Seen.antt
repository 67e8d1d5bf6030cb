-- The forms that the code tells apart, as the grammar has them.
use Rattle.ir_core.specs.Instructions.{TrailerForm, GroupTrailer, WordTrailer}
use Rattle.read_ends.specs.declared.ends.Trailer.{Trailer}
use Rattle.read_ends.specs.declared.ends.Trailer.TheVariants.{Group, Word}

abbrev pub trailer_seen : Trailer → TrailerForm
trailer_seen Group = GroupTrailer
trailer_seen Word = WordTrailer
