-- What a fork names, as the code has it.
use Rattle.captures.specs.declared.forks.Fork.{Fork as ForkData}
use Rattle.mem_model.specs.Regions.{Fork}

abbrev pub fork_seen : ForkData → Fork
fork_seen f = record { function = f.function; wrapper = f.wrapper; count = f.count }

abbrev pub fork_data : Fork → ForkData
fork_data f = record { function = f.function; wrapper = f.wrapper; count = f.count }
