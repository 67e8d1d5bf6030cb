use Rattle.std.proofs.Common.{◌≡◌, ◌+◌, ◌<◌, Some, None, List, drop, length, ap, sym, ◌∙◌, arith}
use Rattle.std.specs.List.{flat_map}
use Rattle.ir_core.specs.Places.{place_from, place_in, block_results, inst_results}
use Rattle.ir_core.specs.declared.instructions.Inst.{Inst}
use Rattle.ir_tables.proofs.Scans.{place_from-within, count_more, found_here, found_behind}
use Rattle.ir_tables.proofs.scan.place_behind.Goals as goal

pub overflow_add-result : goal.overflow_add-result
overflow_add-result c =
    let block = c.block-item.result in
    let found = ap (λ (is : List Inst). place_in (flat_map inst_results is) c.args.name.now) (sym c.as_slice.ensures) ∙ sym c.result_place.ensures ∙ c.in-Some.is in
    let within = place_from-within 0 c.in-Some.at (block_results block) c.args.name.now found in
    let more = count_more block_results c.args.blocks.now c.loop-block.block-index _ block c.loop-block-test.true c.block-item.is c.loop-block.from in
    let all = c.loop-block.invariant.count in
    let fits = c.requires in
    omega arith

pub returns-in-Some : goal.returns-in-Some
returns-in-Some c =
    let block = c.block-item.result in
    let found = ap (λ (is : List Inst). place_in (flat_map inst_results is) c.args.name.now) (sym c.as_slice.ensures) ∙ sym c.result_place.ensures ∙ c.in-Some.is in
    sym (found_here block_results c.args.blocks.now c.loop-block.block-index _ block c.loop-block-test.true c.block-item.is c.loop-block.from c.in-Some.at c.args.name.now found)
    ∙ c.loop-block.invariant.rest

pub loop-block-preserved : goal.loop-block-preserved
loop-block-preserved c =
    let block = c.block-item.result in
    let none = ap (λ (is : List Inst). place_in (flat_map inst_results is) c.args.name.now) (sym c.as_slice.ensures) ∙ sym c.result_place.ensures ∙ c.in_default.is in
    let count : c.result_count-from.result ≡ length (block_results block) = c.result_count-from.ensures ∙ ap (λ (is : List Inst). length (flat_map inst_results is)) c.as_slice-in-loop-block.ensures in
    let more = count_more block_results c.args.blocks.now c.loop-block.block-index _ block c.loop-block-test.true c.block-item.is c.loop-block.from in
    record {
      count = ap (λ n. c.loop-block.from + n + length (flat_map block_results (drop (c.loop-block.block-index + 1) c.args.blocks.now))) count ∙ more ∙ c.loop-block.invariant.count;
      rest = ap (λ n. place_from (c.loop-block.from + n) (flat_map block_results (drop (c.loop-block.block-index + 1) c.args.blocks.now)) c.args.name.now) count ∙ found_behind block_results c.args.blocks.now c.loop-block.block-index _ block c.loop-block-test.true c.block-item.is c.loop-block.from c.args.name.now none ∙ c.loop-block.invariant.rest;
    }
