-- What is told of a list of instructions, one by one.
use Rattle.std.proofs.Common.{◌≡◌, ℕ, ◌+◌, ◌<◌, List, Option, [], ◌∷◌, ◌++◌, length, take, get_or, refl, sym, ap, ◌∙◌}
use Rattle.std.specs.List.{flat_map}
use Rattle.std.specs.Borrow.{Bor}
use Rattle.ir_core.specs.declared.instructions.Inst.{Inst}
use Rattle.ir_core.specs.declared.refusal.Refusal.{Refusal}
use Rattle.ir_core.specs.NameRefusals.{least}
use Rattle.name_tables.specs.Least.{or_first}
use Rattle.name_tables.proofs.RefusalLaws.{or_first-assoc, first_append, first_more}
use Rattle.shapes.specs.Insts.{inst_seen, insts_seen}

abbrev of_seen : (Inst → List Refusal) → Bor Inst → List Refusal
of_seen of i = of (inst_seen i)

seen : (of : Inst → List Refusal) (insts : List (Bor Inst)) → flat_map of (insts_seen insts) ≡ flat_map (of_seen of) insts
seen of [] = refl
seen of (i ∷ is) = ap (λ rs. of (inst_seen i) ++ rs) (seen of is)

-- one more instruction
pub inst_more : (of : Inst → List Refusal) (insts : List (Bor Inst)) (n : ℕ) (d i : Bor Inst) → n < length insts → i ≡ get_or insts n d →
    least (flat_map of (insts_seen (take (n + 1) insts))) ≡ or_first (least (flat_map of (insts_seen (take n insts)))) (least (of (inst_seen i)))
inst_more of insts n d i below is =
    ap least (seen of (take (n + 1) insts)) ∙ first_more (of_seen of) insts n d i below is ∙ ap (λ rs. or_first (least rs) (least (of (inst_seen i)))) (sym (seen of (take n insts)))

-- ---- what is told of several lists

pub two_told : (a b : List Refusal) (x y : Option Refusal) → x ≡ least a → y ≡ least b → or_first x y ≡ least (a ++ b)
two_told a b x y p q = ap (λ o. or_first o y) p ∙ ap (or_first (least a)) q ∙ sym (first_append a b)

pub three_told : (a b c : List Refusal) (x y z : Option Refusal) → x ≡ least a → y ≡ least b → z ≡ least c → or_first x (or_first y z) ≡ least (a ++ b ++ c)
three_told a b c x y z p q r = sym (or_first-assoc x y z) ∙ two_told (a ++ b) c (or_first x y) z (two_told a b x y p q) r

pub four_told : (a b c d : List Refusal) (x y z w : Option Refusal) → x ≡ least a → y ≡ least b → z ≡ least c → w ≡ least d → or_first x (or_first y (or_first z w)) ≡ least (a ++ b ++ c ++ d)
four_told a b c d x y z w p q r t = sym (or_first-assoc x y (or_first z w)) ∙ three_told (a ++ b) c d (or_first x y) z w (two_told a b x y p q) r t
