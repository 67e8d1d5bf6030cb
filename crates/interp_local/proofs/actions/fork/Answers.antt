use Rattle.std.proofs.Common.{◌≡◌, Err, sym, ap, ◌∙◌, rules}
use Rattle.std.specs.Prelude.{option_map}
use Rattle.mem_model.specs.Values.{operand_words}
use Rattle.mem_model.specs.Regions.{fork_of}
use Rattle.captures.specs.Forks.{fork_seen}
use Rattle.interp_local.specs.Operands.{registers}
use Rattle.interp_local.proofs.Forks.{forked, not_forked, unread, fork_fits}
use Rattle.interp_local.proofs.actions.fork.Goals as goal

pub returns-in_err-words-clause-value : goal.returns-in_err-words-clause-value
returns-in_err-words-clause-value c =
    let m = c.args.m.now in
    let is : c.from_residual.result ≡ Err c.in_err-words.field-0.0 = search rules in
    is ∙ unread (operand_words m (registers m c.args.s.now) c.args.args.now) (fork_of m c.args.args.now) c.in_err-words.field-0.0 (sym c.in_err-words.was ∙ c.word_at.ensures)

pub returns-in-Some-clause-value : goal.returns-in-Some-clause-value
returns-in-Some-clause-value c =
    let m = c.args.m.now in
    forked (operand_words m (registers m c.args.s.now) c.args.args.now) (fork_of m c.args.args.now) c.in_ok-words.words c.in-Some.fork (sym c.in_ok-words.was ∙ c.word_at.ensures) (sym (ap (option_map fork_seen) c.in-Some.is) ∙ c.fork_of.ensures)

pub returns-in-Some-clause-is : goal.returns-in-Some-clause-is
returns-in-Some-clause-is c = fork_fits c.args.m.now c.args.args.now c.in-Some.fork c.requires.few c.requires.served (sym (ap (option_map fork_seen) c.in-Some.is) ∙ c.fork_of.ensures)

pub returns-in-None-clause-value : goal.returns-in-None-clause-value
returns-in-None-clause-value c =
    let m = c.args.m.now in
    not_forked (operand_words m (registers m c.args.s.now) c.args.args.now) (fork_of m c.args.args.now) c.in_ok-words.words (sym c.in_ok-words.was ∙ c.word_at.ensures) (sym (ap (option_map fork_seen) c.in-None.is) ∙ c.fork_of.ensures)
