use Rattle.std.proofs.Common.{◌≡◌, ◌++◌, [], length, take}
use Rattle.std.specs.List.{flat_map, fold}
use Rattle.first_memory.specs.Contents.{element_bytes, with_element}
use Rattle.first_memory.proofs.contents.+add_value.Given as goal

abbrev pub invariant-add_items-loop-element : goal.invariant-add_items-loop-element
invariant-add_items-loop-element l = l.out.items ≡ l.initial.out.items ++ flat_map (element_bytes l.m) (take l.element-index l.elements)

abbrev pub invariant-add_fields-loop-element : goal.invariant-add_fields-loop-element
invariant-add_fields-loop-element l = record {
  base : l.base ≡ length l.initial.out.items;
  fields : l.out.items ≡ l.initial.out.items ++ fold (with_element l.m) [] (take l.element-index l.elements);
}
