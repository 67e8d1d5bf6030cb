-- The parts of a machine put together.
use Rattle.std.proofs.Common.{◌≡◌, ℕ, ◌+◌, List, [], ◌∷◌, ◌++◌, ap, ◌∙◌, append_assoc, codes}
use Rattle.ir_core.specs.declared.module.Block.{Block}
use Rattle.ir_core.specs.Places.{Name}
use Rattle.state_machine.specs.declared.names.Names.{Names}
use Rattle.state_machine.specs.Machine.{numbered_name, check_or_none, compares, runs, comparison}

pub same_names : (a b c d e f g h i a' b' c' d' e' f' g' h' i' : Name) → a ≡ a' → b ≡ b' → c ≡ c' → d ≡ d' → e ≡ e' → f ≡ f' → g ≡ g' → h ≡ h' → i ≡ i'
    → ◌≡◌ {A = Names} (record { begin = a; activity = b; none = c; end = d; wait = e; address = f; active = g; work = h; done = i }) (record { begin = a'; activity = b'; none = c'; end = d'; wait = e'; address = f'; active = g'; work = h'; done = i' })
same_names a b c d e f g h i a' b' c' d' e' f' g' h' i' p q r s t u v w x = cc

pub two_blocks : (line : ℕ) (all : List Name) (names : Names) (thread : Name) (count n : ℕ) (wrapper : Name) (a b : Block) (check same run other : Name)
    → a ≡ compares line names.work check same wrapper run other → b ≡ runs line thread run wrapper names.end
    → check ≡ numbered_name all (codes "worker.check") n → same ≡ numbered_name all (codes "worker.is") n → run ≡ numbered_name all (codes "worker.run") n → other ≡ check_or_none all names count (n + 1)
    → (a ∷ b ∷ []) ≡ comparison line all names thread count n wrapper
two_blocks line all names thread count n wrapper a b check same run other p q r s t u =
    ap (λ x. x ∷ b ∷ []) p
    ∙ ap (λ x. compares line names.work check same wrapper run other ∷ x ∷ []) q
    ∙ ap (λ x. compares line names.work x same wrapper run other ∷ runs line thread run wrapper names.end ∷ []) r
    ∙ ap (λ x. compares line names.work (numbered_name all (codes "worker.check") n) x wrapper run other ∷ runs line thread run wrapper names.end ∷ []) s
    ∙ ap (λ x. compares line names.work (numbered_name all (codes "worker.check") n) (numbered_name all (codes "worker.is") n) wrapper x other ∷ runs line thread x wrapper names.end ∷ []) t
    ∙ ap (λ x. compares line names.work (numbered_name all (codes "worker.check") n) (numbered_name all (codes "worker.is") n) wrapper (numbered_name all (codes "worker.run") n) x ∷ runs line thread (numbered_name all (codes "worker.run") n) wrapper names.end ∷ []) u

pub joined : (blocks comps : List Block) (b t n e w : Block) (x1 x2 x3 x4 x5 x6 : List Block)
    → x1 ≡ blocks ++ b ∷ [] → x2 ≡ x1 ++ t ∷ [] → x3 ≡ x2 ++ comps → x4 ≡ x3 ++ n ∷ [] → x5 ≡ x4 ++ e ∷ [] → x6 ≡ x5 ++ w ∷ []
    → x6 ≡ blocks ++ (b ∷ t ∷ comps ++ (n ∷ e ∷ w ∷ []))
joined blocks comps b t n e w x1 x2 x3 x4 x5 x6 p1 p2 p3 p4 p5 p6 =
    p6
    ∙ ap (λ x. x ++ w ∷ []) p5 ∙ append_assoc x4 (e ∷ []) (w ∷ [])
    ∙ ap (λ x. x ++ (e ∷ w ∷ [])) p4 ∙ append_assoc x3 (n ∷ []) (e ∷ w ∷ [])
    ∙ ap (λ x. x ++ (n ∷ e ∷ w ∷ [])) p3 ∙ append_assoc x2 comps (n ∷ e ∷ w ∷ [])
    ∙ ap (λ x. x ++ (comps ++ (n ∷ e ∷ w ∷ []))) p2 ∙ append_assoc x1 (t ∷ []) (comps ++ (n ∷ e ∷ w ∷ []))
    ∙ ap (λ x. x ++ (t ∷ comps ++ (n ∷ e ∷ w ∷ []))) p1 ∙ append_assoc blocks (b ∷ []) (t ∷ comps ++ (n ∷ e ∷ w ∷ []))
