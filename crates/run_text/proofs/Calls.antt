-- Functions that call another.
use Rattle.std.proofs.Common.{◌≡◌, List, ℕ, [], ◌∷◌, ◌++◌, Bool, true, false, cond, refl, sym, ap, ◌∙◌}
use Rattle.std.specs.Str.{bytes_eq}
use Rattle.std.specs.List.{flat_map}
use Rattle.ir_core.specs.declared.module.Block.{Block}
use Rattle.ir_core.specs.EntryPoints.{target_init}
use Rattle.ir_core.specs.Wrappers.{is_in, block_callees}
use Rattle.run_text.specs.Calls.{block_calls, any_block}

put_first : (b : Bool) (whole rest more : Bool) → whole ≡ cond rest true more → cond b true whole ≡ cond (cond b true rest) true more
put_first true whole rest more e = refl
put_first false whole rest more e = e

pub is_in_either : (xs ys : List (List ℕ)) (x : List ℕ) → is_in (xs ++ ys) x ≡ cond (is_in xs x) true (is_in ys x)
is_in_either [] ys x = refl
is_in_either (z ∷ zs) ys x = put_first (bytes_eq x z) (is_in (zs ++ ys) x) (is_in zs x) (is_in ys x) (is_in_either zs ys x)

pub any_block_is : (bs : List Block) → any_block block_calls bs ≡ is_in (flat_map block_callees bs) target_init
any_block_is [] = refl
any_block_is (b ∷ bs) = ap (λ t. cond (block_calls b) true t) (any_block_is bs) ∙ sym (is_in_either (block_callees b) (flat_map block_callees bs) target_init)
