use Rattle.state_machine.proofs.Joins.{same_names}
use Rattle.state_machine.proofs.names.names_of.Goals as goal

pub returns : goal.returns
returns c = λ names is.
    same_names _ _ _ _ _ _ _ _ _ _ _ _ _ _ _ _ _ _
    (c.in_ok-fresh.ensures names is) (c.in_ok-fresh-2.ensures names is) (c.in_ok-fresh-3.ensures names is)
    (c.in_ok-fresh-4.ensures names is) (c.in_ok-fresh-5.ensures names is) (c.in_ok-fresh-6.ensures names is)
    (c.in_ok-fresh-7.ensures names is) (c.in_ok-fresh-8.ensures names is) (c.in_ok-fresh-9.ensures names is)
