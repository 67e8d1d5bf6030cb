use Rattle.std.proofs.Common.{sym, ◌∙◌, ◌-◌, arith}
use Rattle.ir_lex.proofs.Trims.{trim_blank, trim_other}
use Rattle.ir_lex.proofs.passive.trimmed.Goals as goal

pub blanks-preserved : goal.blanks-preserved
blanks-preserved c =
    let n = c.blanks.size in
    let l = c.blanks-test.true in
    record {
      inside = let i = c.blanks.invariant.inside in omega arith;
      value = sym (trim_blank n (n - 1) c.args.line.now (omega arith) c.blanks.invariant.inside (sym c.is_blank.ensures ∙ c.if-is_blank.true)) ∙ c.blanks.invariant.value;
    }

pub returns-else-is_blank-clause-value : goal.returns-else-is_blank-clause-value
returns-else-is_blank-clause-value c =
    let n = c.blanks.size in
    let l = c.blanks-test.true in
    sym (trim_other n (n - 1) c.args.line.now (omega arith) c.blanks.invariant.inside (sym c.is_blank.ensures ∙ c.if-is_blank.false)) ∙ c.blanks.invariant.value
