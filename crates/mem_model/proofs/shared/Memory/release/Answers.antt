use Rattle.std.proofs.Common.{ap, sym, refl, subst, ◌∙◌, rules}
use Rattle.std.specs.Int.{w64}
use Rattle.std.specs.Int.RustNames.{FitsSigned}
use Rattle.std.proofs.lemmas.Int.{to_z-of_z}
use Rattle.mem_model.specs.declared.step.Trap.TheVariants.{NoBlock}
use Rattle.mem_model.specs.Memory.{Release}
use Rattle.mem_model.specs.Kept.{memory_of, IsReleased}
use Rattle.mem_model.specs.Rows.{entries_of}
use Rattle.mem_model.proofs.Changes.{Replaced}
use Rattle.mem_model.proofs.Calls.{kept_release, release_none, done_along, refused}
use Rattle.mem_model.proofs.RowLaws.{found_in, where_found, replaced, same_shown}
use Rattle.mem_model.proofs.shared.Memory.release.Goals as goal
use Rattle.mem_model.proofs.shared.Memory.release.Goals.{in-Some, in-None}

pub returns : goal.returns
returns c =
    elim c.match-get_mut.branch [
      | in-Some w ↦
          let es = entries_of c.self.inside.blocks in
          let new_b = c.get_mut.follows.lender w.release.new.self in
          let new_es = entries_of new_b in
          let r : Replaced es new_es c.in-At.name w.in-Some.block.now w.release.new.self = replaced c.self.inside.blocks new_b c.in-At.name w.release.new.self (where_found c.get_mut.result _ (search rules) (c.get_mut.follows.holds w.release.new.self)) w.in-Some.block.now (sym w.in-Some.ensures.value) in
          let fits : FitsSigned w64 c.in-At.offset = search rules in
          done_along (λ m p. Release m p c.args.len) c.self.view_is (sym c.in-At.is) (sym (ap (λ m. memory_of (entries_of m.blocks)) w.self-inside-is)) (sym w.result-is)
          (kept_release es new_es c.in-At.name w.in-Some.block.now w.release.new.self r _ c.in-Heap.is c.in-At.offset c.args.len w.release.result
          (subst (λ z. IsReleased c.args.len z w.in-Some.block.now w.release.new.self w.release.result) (to_z-of_z w64 c.in-At.offset fits) w.release.ensures))
      | in-None w ↦
          let es = entries_of c.self.inside.blocks in
          let same = ap (λ m. memory_of (entries_of m.blocks)) w.self-inside-is ∙ same_shown c.self.inside.blocks _ c.get_mut.follows.holds-at-none in
          done_along (λ m p. Release m p c.args.len) c.self.view_is (sym c.in-At.is) refl refl
          (refused _ NoBlock (memory_of es) _ _ (release_none es c.in-At.name _ c.in-Heap.is c.in-At.offset c.args.len (found_in c.self.inside.blocks c.in-At.name ∙ sym w.in-None.ensures.value)) w.result-is same)
    ]
