use Rattle.std.proofs.Common.{◌≡◌, ◌<◌, ◌+◌, length, drop, drop-cons, suc, ap, sym, ◌∷◌, ◌∙◌, arith}
use Rattle.run_text.specs.Kept.{kept_lines}
use Rattle.run_text.proofs.Launches.{arg_read}
use Rattle.run_text.proofs.launch.read_args.Goals as goal

pub loop-param-preserved : goal.loop-param-preserved
loop-param-preserved c =
    let i = c.loop-param.param-index in
    let inside : i < length c.args.params.now = omega arith in
    let next : i + 1 ≡ suc i = omega arith in
    let first : drop i c.args.params.now ≡ c.param-item.result ∷ drop (i + 1) c.args.params.now =
    drop-cons c.args.params.now i c.param-item.result inside
    ∙ ap (λ p. p ∷ drop (suc i) c.args.params.now) (sym c.param-item.is)
    ∙ ap (λ k. c.param-item.result ∷ drop k c.args.params.now) (sym next) in
    let read = arg_read _ c.args.end c.loop-param.left c.loop-param.args (kept_lines c.loop-param.at c.loop-param.rest.now) (drop i c.args.params.now) (drop (i + 1) c.args.params.now) c.param-item.result first c.loop-param.invariant.all _ (kept_lines (c.in-Some.line.number + 1) c.in-Some.line.rest.now) c.in-Ok.arg c.in-Some.ensures.is c.in-Ok.ensures in
    record {
      all = rw (c.in_ok-push-in-Ok.ensures.ok, c.left_behind-left.ensures) read;
      within = let a = c.in-Some.ensures.within in let b = c.loop-param.invariant.within in omega arith;
    }
