use Rattle.std.proofs.Common.{◌≡◌, ◌+◌, ◌*◌, drop, map}
use Rattle.ir_tables.specs.Laid.{laid_of, with_fields, fields_laid}
use Rattle.ir_tables.specs.Named.{name_laid}
use Rattle.ir_tables.proofs.Ranks.{rank}
use Rattle.ir_tables.proofs.named.+laid_of.Given as goal

-- the answer for the rest is the answer for all
abbrev pub invariant-laid_fields-loop-field : goal.invariant-laid_fields-loop-field
invariant-laid_fields-loop-field l = with_fields l.whole (map (laid_of (name_laid l.named)) (drop l.field-index l.fields)) ≡ fields_laid (name_laid l.named) l.fields

abbrev pub decreases-laid_fields : goal.decreases-laid_fields
decreases-laid_fields l = rank l.named + 2 * goal.size-laid_fields l + 2

abbrev pub decreases-laid_of : goal.decreases-laid_of
decreases-laid_of l = rank l.named + 2 * goal.size-laid_of l + 1

abbrev pub decreases-name_laid : goal.decreases-name_laid
decreases-name_laid l = rank l.named
