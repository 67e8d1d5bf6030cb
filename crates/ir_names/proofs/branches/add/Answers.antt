use Rattle.std.proofs.Common.{ℕ, List, [], ◌∷◌, ◌++◌, Some, None, refl, ap, sym, ◌∙◌, if◌then◌else◌, rules}
use Rattle.std.specs.Borrow.{Bor}
use Rattle.std.specs.Map.{lookup}
use Rattle.std.specs.Str.{bytes_eq}
use Rattle.std.proofs.lemmas.Result.{on_ok_weaker}
use Rattle.std.proofs.lemmas.Slice.Eq.{bytes_eq-Decides}
use Rattle.indexmap.specs.IndexMap.{get_by}
use Rattle.ir_core.specs.Wrappers.{is_in}
use Rattle.ir_tables.proofs.Places.{same_turned, lookup-insert}
use Rattle.ir_tables.specs.Names.{names_seen}
use Rattle.ir_names.proofs.BranchLaws.{added}
use Rattle.ir_names.proofs.branches.add.Goals as goal

pub returns-in-Some : goal.returns-in-Some
returns-in-Some c =
    on_ok_weaker c.add_block.result (λ grown. λ x y.
    let held = c.get_mut.follows.holds c.add_block.new.blocks in
    let key : Bor (List ℕ) = record { ref_ptr = c.args.target.ref_ptr; now = x } in
    let old = get_by (λ (k : Bor (List ℕ)). bytes_eq x k.now) c.args.sources.now in
    added c.args.target.now c.args.block.now x y (Some c.in-Some.blocks.now) (Some c.add_block.new.blocks) (grown y) old
    (get_by (λ (k : Bor (List ℕ)). bytes_eq x k.now) (c.get_mut.follows.lender c.add_block.new.blocks))
    (bytes_eq x c.args.target.now) refl
    (λ e. ap (λ z. get_by (λ (k : Bor (List ℕ)). bytes_eq z k.now) c.args.sources.now) ((bytes_eq-Decides x c.args.target.now).0 e) ∙ sym c.in-Some.ensures.value)
    ((held.3 (search rules)).0 key ∙ ap (λ b. if b then Some c.add_block.new.blocks else old) (same_turned c.args.target.now x))
    ) c.add_block.ensures

pub returns-in-Ok : goal.returns-in-Ok
returns-in-Ok c = λ x y.
    let before = c.get_mut.follows.lender-at-none in
    let set = c.add_block-in-None.new.blocks in
    added c.args.target.now c.args.block.now x y None (Some set)
    (c.in_ok-add_block-in-None.ensures y ∙ ap (λ ks. is_in (names_seen ks ++ c.args.block.now ∷ []) y) c.new-blocks.ensures.empty)
    (get_by (λ (k : Bor (List ℕ)). bytes_eq x k.now) c.args.sources.now)
    (get_by (λ (k : Bor (List ℕ)). bytes_eq x k.now) c.insert.new.self)
    (bytes_eq x c.args.target.now) refl
    (λ e. ap (λ z. get_by (λ (k : Bor (List ℕ)). bytes_eq z k.now) c.args.sources.now) ((bytes_eq-Decides x c.args.target.now).0 e) ∙ sym c.in-None.ensures.value)
    (ap (lookup (λ (k : Bor (List ℕ)). bytes_eq x k.now)) c.in-Ok.ensures.entries
    ∙ lookup-insert (λ (k : Bor (List ℕ)). k.now) c.args.target set x before.entries
    ∙ ap (λ m. if bytes_eq x c.args.target.now then Some set else get_by (λ (k : Bor (List ℕ)). bytes_eq x k.now) m) c.get_mut.follows.holds-at-none)
