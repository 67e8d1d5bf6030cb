use Rattle.std.proofs.Common.{◌≡◌, length, Some, true, refl, rules}
use Rattle.std.specs.Prelude.{slice_get}
use Rattle.std.specs.Vec.{with_item}
use Rattle.std.proofs.lemmas.Option.{slice_get_read}
use Rattle.interp.specs.Teams.{is_running}
use Rattle.interp.proofs.Advance.{stepped}
use Rattle.interp.proofs.team.step.Goals as goal

pub advance-requires-clause-state : goal.advance-requires-clause-state
advance-requires-clause-state c =
    let items = c.args.t.now.threads.items in
    let s = c.index_mut.result.now in
    let there : slice_get items c.args.thread ≡ Some s = slice_get_read items (length items) c.args.thread s refl (search rules) (search rules) in
    c.requires.team.0 c.args.thread s there

pub returns : goal.returns
returns c =
    let t = c.args.t.now in
    let s = c.index_mut.result.now in
    let there : slice_get t.threads.items c.args.thread ≡ Some s = slice_get_read t.threads.items (length t.threads.items) c.args.thread s refl (search rules) (search rules) in
    let running : is_running t.shared c.args.thread ≡ true = search rules in
    stepped c.args.m.now c.args.thread t (record { shared = c.advance.new.sh; threads = with_item t.threads c.args.thread c.advance.new.s }) s c.advance.new.s c.advance.new.sh c.advance.result refl refl c.requires.team there running c.advance.ensures
