use Rattle.std.proofs.Common.{◌≡◌, ◌+◌, ◌*◌, length}
use Rattle.read_forms.specs.Read.{more_at}
use Rattle.read_items.specs.Inits.{element_at, init_in_at}
use Rattle.read_items.proofs.inits.+read_init.Given as goal

abbrev pub decreases-read_init_in : goal.decreases-read_init_in
decreases-read_init_in l = 6 * l.depth

abbrev pub decreases-read_element : goal.decreases-read_element
decreases-read_element l = 6 * l.depth + 1

abbrev pub decreases-read_next_element : goal.decreases-read_next_element
decreases-read_next_element l = 6 * l.depth + 2

abbrev pub decreases-read_more_elements : goal.decreases-read_more_elements
decreases-read_more_elements l = 6 * l.depth + 3

abbrev pub decreases-read_elements : goal.decreases-read_elements
decreases-read_elements l = 6 * l.depth + 4

abbrev pub decreases-read_square : goal.decreases-read_square
decreases-read_square l = 6 * l.depth + 5

abbrev pub decreases-read_braces : goal.decreases-read_braces
decreases-read_braces l = 6 * l.depth + 5

abbrev pub invariant-read_more_elements-loop-alloc : goal.invariant-read_more_elements-loop-alloc
invariant-read_more_elements-loop-alloc l = more_at (element_at (init_in_at l.fn.depth)) l.fn.before l.fn.ahead ≡ more_at (element_at (init_in_at l.fn.depth)) l.elements l.rest

abbrev pub decreases-read_more_elements-loop-alloc : goal.decreases-read_more_elements-loop-alloc
decreases-read_more_elements-loop-alloc l = length l.rest
