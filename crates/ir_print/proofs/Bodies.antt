-- The text of a function is that of a declaration or of a definition.
use Rattle.std.proofs.Common.{◌≡◌, [], ◌∷◌, ◌++◌, List, codes, map, refl, ◌⊎◌, inl, inr, ap, sym}
use Rattle.std.specs.List.{flat_map}
use Rattle.ir_core.specs.declared.module.Function.{Function}
use Rattle.ir_core.specs.declared.module.Block.{Block}
use Rattle.ir_core.specs.Text.{function_text, body_text, heading_text, param_text, block_text}
use Rattle.ir_print.specs.Parts.{declaration_text, definition_heading, definition_text}

by_blocks : (f : Function) (bs : List Block) → f.blocks ≡ bs → ((bs ≡ []) × (body_text f bs ≡ declaration_text f)) ⊎ ((bs ≡ [] → ⊥) × (body_text f bs ≡ definition_text f))
unfolding definition_heading
by_blocks f [] e = inl (refl, refl)
by_blocks f (b ∷ bs) e = inr ((λ h. let no : ⊥ = cc in no), ap (λ (x : List Block). codes "define " ++ heading_text f (map param_text f.params) ++ codes " {\n" ++ flat_map block_text x ++ codes "}\n") (sym e))

pub of_function : (f : Function) → ((f.blocks ≡ []) × (function_text f ≡ declaration_text f)) ⊎ ((f.blocks ≡ [] → ⊥) × (function_text f ≡ definition_text f))
of_function f = by_blocks f f.blocks refl
