use Rattle.std.proofs.Common.{◌<◌, ap, sym, subst, ◌∙◌, rules, arith}
use Rattle.mem_model.specs.Memory.{header_size}
use Rattle.mem_model.specs.Answers.{with_byte, IsInside}
use Rattle.mem_model.specs.Kept.{memory_of}
use Rattle.mem_model.specs.Rows.{entries_of}
use Rattle.mem_model.proofs.Changes.{Replaced}
use Rattle.mem_model.proofs.Calls.{kept_set, header_is, no_header}
use Rattle.mem_model.proofs.RowLaws.{found_in, where_found, replaced}
use Rattle.mem_model.proofs.shared.Memory.set.Goals as goal
use Rattle.mem_model.proofs.shared.Memory.set.Goals.{in-Some, in_default}

pub set-requires : goal.set-requires
set-requires c =
    subst (λ h. c.args.at < header_size h) (header_is _ c.args.name c.in-Some.block.now (found_in c.self.inside.blocks c.args.name ∙ sym c.in-Some.ensures.value))
    (subst (λ m. IsInside m c.args.name c.args.at) (sym c.self.view_is) c.requires)

pub returns : goal.returns
returns c =
    elim c.match-get_mut.branch [
      | in-Some w ↦
          let es = entries_of c.self.inside.blocks in
          let new_b = c.get_mut.follows.lender w.set.new.self in
          let new_es = entries_of new_b in
          let r : Replaced es new_es c.args.name w.in-Some.block.now w.set.new.self = replaced c.self.inside.blocks new_b c.args.name w.set.new.self (where_found c.get_mut.result _ (search rules) (c.get_mut.follows.holds w.set.new.self)) w.in-Some.block.now (sym w.in-Some.ensures.value) in
          let within = subst (λ h. c.args.at < header_size h) (header_is es c.args.name w.in-Some.block.now (found_in c.self.inside.blocks c.args.name ∙ sym w.in-Some.ensures.value)) (subst (λ m. IsInside m c.args.name c.args.at) (sym c.self.view_is) c.requires) in
          ap (λ m. memory_of (entries_of m.blocks)) w.self-inside-is
          ∙ kept_set es new_es c.args.name w.in-Some.block.now w.set.new.self r c.args.at c.args.byte within w.set.ensures
          ∙ ap (λ m. with_byte m c.args.name c.args.at c.args.byte) c.self.view_is
      | in_default w ↦
          let nothing : c.args.at < 0 = subst (λ h. c.args.at < header_size h) (no_header (entries_of c.self.inside.blocks) c.args.name (found_in c.self.inside.blocks c.args.name ∙ sym w.in_default.ensures.value)) (subst (λ m. IsInside m c.args.name c.args.at) (sym c.self.view_is) c.requires) in
          absurd (omega arith)
    ]
