use Rattle.std.proofs.Common.{Option, length, ap, sym}
use Rattle.ir_core.specs.Places.{register_names_of}
use Rattle.ir_core.specs.declared.module.Function.{Function}
use Rattle.ir_tables.proofs.Naming.{no_function, function_locals, count_is}
use Rattle.ir_tables.proofs.indexed.Indexed.register_count.Goals as goal

pub returns-in-None-get-2 : goal.returns-in-None-get-2
returns-in-None-get-2 c = sym (ap (λ (o : Option Function). length (register_names_of o)) (no_function c.self.inside.module c.args.self.now c.self.inside.tables c.in-Some.tables c.self.invariant c.in-Some.is c.self.view_is c.args.function c.in-None-get-2.ensures.value))

pub returns-in-Some-get-2 : goal.returns-in-Some-get-2
returns-in-Some-get-2 c =
    let locals = c.in-Some-get-2.locals.now in
    count_is _ locals (function_locals c.self.inside.module c.args.self.now c.self.inside.tables c.in-Some.tables c.self.invariant c.in-Some.is c.self.view_is c.args.function locals c.in-Some-get-2.ensures.value)
