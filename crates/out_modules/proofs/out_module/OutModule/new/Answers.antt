use Rattle.out_modules.proofs.Outputs.{output_few}
use Rattle.out_modules.proofs.out_module.OutModule.new.Goals as goal

pub can_be_counted-requires : goal.can_be_counted-requires
can_be_counted-requires c = output_few c.args.m c.requires
