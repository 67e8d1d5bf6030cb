use Rattle.std.proofs.Common.{◌≡◌, ◌+◌, None, Some, Option, List, map, length, ap, sym, ◌∙◌, arith}
use Rattle.std.specs.List.{flat_map}
use Rattle.std.proofs.lemmas.List.{length-map}
use Rattle.ir_core.specs.declared.module.Block.{Block}
use Rattle.ir_core.specs.declared.module.Param.{Param}
use Rattle.ir_core.specs.Places.{place_from, place_in, param_name, block_results}
use Rattle.ir_tables.proofs.Scans.{place_from-append, found_before}
use Rattle.ir_tables.proofs.scan.register_place.Goals as goal

pub returns-in-None : goal.returns-in-None
returns-in-None c =
    let f = c.args.f.now in
    let none = ap (λ (ps : List Param). place_in (map param_name ps) c.args.name.now) (sym c.as_slice.ensures) ∙ sym c.place_of.ensures ∙ c.in-None.is in
    let same = length-map f.params param_name in
    let before = c.len.ensures in
    let start : c.len.result ≡ 0 + length (map param_name f.params) = omega arith in
    c.place_behind.ensures
    ∙ ap (λ (bs : List Block). place_from c.len.result (flat_map block_results bs) c.args.name.now) c.as_slice-in-None.ensures
    ∙ ap (λ n. place_from n (flat_map block_results f.blocks) c.args.name.now) start
    ∙ place_from-append 0 (map param_name f.params) (flat_map block_results f.blocks) c.args.name.now none

pub returns-in_default : goal.returns-in_default
returns-in_default c =
    let here = c.place_of.ensures ∙ ap (λ (ps : List Param). place_in (map param_name ps) c.args.name.now) c.as_slice.ensures in
    found_before (map param_name c.args.f.now.params) (flat_map block_results c.args.f.now.blocks) c.args.name.now c.place_of.result c.in_default.not-None here
