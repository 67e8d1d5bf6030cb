use Rattle.std.proofs.Common.{◌≡◌, ◌+◌, ◌*◌, length}
use Rattle.read_forms.specs.Read.{more_at}
use Rattle.read_forms.specs.Forms.{type_in_at}
use Rattle.read_forms.proofs.types.+read_type.Given as goal

abbrev pub decreases-read_type_in : goal.decreases-read_type_in
decreases-read_type_in l = 5 * l.depth

abbrev pub decreases-read_array : goal.decreases-read_array
decreases-read_array l = 5 * l.depth + 1

abbrev pub decreases-read_next_field : goal.decreases-read_next_field
decreases-read_next_field l = 5 * l.depth + 1

abbrev pub decreases-read_more_fields : goal.decreases-read_more_fields
decreases-read_more_fields l = 5 * l.depth + 2

abbrev pub decreases-read_fields : goal.decreases-read_fields
decreases-read_fields l = 5 * l.depth + 3

abbrev pub decreases-read_struct : goal.decreases-read_struct
decreases-read_struct l = 5 * l.depth + 4

abbrev pub invariant-read_more_fields-loop-alloc : goal.invariant-read_more_fields-loop-alloc
invariant-read_more_fields-loop-alloc l = more_at (type_in_at l.fn.depth) l.fn.before l.fn.ahead ≡ more_at (type_in_at l.fn.depth) l.fields l.rest

abbrev pub decreases-read_more_fields-loop-alloc : goal.decreases-read_more_fields-loop-alloc
decreases-read_more_fields-loop-alloc l = length l.rest
