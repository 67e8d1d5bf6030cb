-- The names of a function's blocks, and what is kept of them.
use Rattle.std.proofs.Common.{◌≡◌, ℕ, zero, suc, ◌+◌, ◌<◌, List, [], ◌∷◌, ◌++◌, map, length, take, get_or, Option, Some, None, option_map, refl, sym, ap, ◌∙◌, add-one, append_assoc, arith}
use Rattle.std.proofs.Math.Seq.{take-suc}
use Rattle.std.proofs.lemmas.List.{map-append, length-take-le, append-nil}
use Rattle.std.specs.Prelude.{option_and_then, slice_get}
use Rattle.ir_core.specs.declared.module.Block.{Block}
use Rattle.ir_core.specs.Given.{LocalName, block_names, local_given}
use Rattle.ir_core.specs.Places.{place_in}
use Rattle.name_tables.specs.Kept.{Kept, local_kept, name_kept, all_kept, kept_name, kept_local, one_block}
use Rattle.name_tables.specs.Repeated.{kept_entry}
use Rattle.name_tables.specs.Tables.{local_name}
use Rattle.name_tables.proofs.First.{found_at}

block_names-push : (n : ℕ) (bs : List Block) (b : Block) → block_names n (bs ++ b ∷ []) ≡ block_names n bs ++ one_block (n + length bs) b
block_names-push n [] b = append-nil (one_block n b) ∙ ap (λ k. one_block k b) (omega arith)
block_names-push n (c ∷ bs) b =
    ap (λ ns. one_block n c ++ ns) (block_names-push (n + 1) bs b)
    ∙ sym (append_assoc (one_block n c) (block_names (n + 1) bs) (one_block (n + 1 + length bs) b))
    ∙ ap (λ k. (one_block n c ++ block_names (n + 1) bs) ++ one_block k b) (omega arith)

-- the names of the blocks with one more
pub one_block_more : (bs : List Block) (at : ℕ) (d : Block) → at < length bs → all_kept (block_names 0 (take (at + 1) bs)) ≡ all_kept (block_names 0 (take at bs)) ++ all_kept (one_block at (get_or bs at d))
one_block_more bs at d low =
    ap (λ n. all_kept (block_names 0 (take n bs))) (add-one at)
    ∙ ap (λ cs. all_kept (block_names 0 cs)) (take-suc bs at d low)
    ∙ ap all_kept (block_names-push 0 (take at bs) (get_or bs at d))
    ∙ ap (λ k. all_kept (block_names 0 (take at bs) ++ one_block k (get_or bs at d))) (omega (arith, length-take-le at bs (omega arith)))
    ∙ map-append name_kept (block_names 0 (take at bs)) (one_block at (get_or bs at d))

pub same_names : (ns : List LocalName) → map kept_name (all_kept ns) ≡ map local_name ns
same_names [] = refl
same_names (n ∷ ns) = ap (λ xs. n.name ∷ xs) (same_names ns)

pub same_entries : (ns : List LocalName) → map kept_entry (all_kept ns) ≡ map (λ (n : LocalName). (n.name, n.line)) ns
same_entries [] = refl
same_entries (n ∷ ns) = ap (λ es. (n.name, n.line) ∷ es) (same_entries ns)

kept_at : (ns : List LocalName) (at : ℕ) → option_map kept_local (slice_get (all_kept ns) at) ≡ option_map local_kept (option_map (λ (n : LocalName). n.given) (slice_get ns at))
kept_at [] at = refl
kept_at (n ∷ ns) zero = refl
kept_at (n ∷ ns) (suc at) = kept_at ns at

none_or_kept : (ns : List LocalName) (o : Option ℕ) → option_and_then (λ at. option_map kept_local (slice_get (all_kept ns) at)) o ≡ option_map local_kept (option_map (λ (n : LocalName). n.given) (option_and_then (slice_get ns) o))
none_or_kept ns None = refl
none_or_kept ns (Some at) = kept_at ns at

-- what is kept at a name's place is what the name is given as
pub local_found : (ns : List LocalName) (ks : List Kept) (x : List ℕ) (o : Option ℕ) → ks ≡ all_kept ns → o ≡ place_in (map local_name ns) x → option_and_then (λ at. option_map kept_local (slice_get ks at)) o ≡ option_map local_kept (local_given ns x)
local_found ns ks x o same is =
    ap (λ ls. option_and_then (λ at. option_map kept_local (slice_get ls at)) o) same
    ∙ none_or_kept ns o
    ∙ ap (λ f. option_map local_kept (option_map (λ (n : LocalName). n.given) f)) (found_at local_name ns x o is)
