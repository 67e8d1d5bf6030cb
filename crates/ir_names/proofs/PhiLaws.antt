-- The entries of a phi from one block have one value where each has that of the first.
use Rattle.std.proofs.Common.{◌≡◌, ◌⊎◌, inl, inr, List, [], ◌∷◌, Option, Some, None, option_map, Bool, true, false, cond, refl, sym, ap, ◌∙◌, if◌then◌else◌}
use Rattle.std.specs.List.{list_all, find}
use Rattle.std.specs.Bool.{Decides}
use Rattle.std.specs.Str.{bytes_eq}
use Rattle.std.proofs.lemmas.Bool.{both_ways, and_parts, and_from, eqb-true, eq-eqb}
use Rattle.std.proofs.lemmas.Bool.Decides.{same_from_decides}
use Rattle.std.proofs.lemmas.Slice.Eq.{bytes_eq-Decides}
use Rattle.ir_core.specs.declared.instructions.Edge.{Edge}
use Rattle.ir_core.specs.declared.instructions.Value.{Value}
use Rattle.ir_core.specs.declared.instructions.Value.TheVariants.{Int, Null, Local as LocalValue, Global as GlobalValue}
use Rattle.ir_tables.proofs.Places.{same_turned}
use Rattle.ir_core.specs.Given.{Local as LocalGiven, Register as RegisterGiven, Label as LabelGiven}
use Rattle.ir_core.specs.Typing.{same_value, agrees_with, as_block}
use Rattle.name_tables.specs.Kept.{local_kept}
use Rattle.name_tables.specs.Least.{least_of}
use Rattle.ir_names.specs.Phis.{edge_block, has_value_of, agrees_with_first, kept_block}

pub least_block : (o : Option LocalGiven) → least_of (kept_block (option_map local_kept o)) ≡ least_of (as_block o)
least_block None = refl
least_block (Some (RegisterGiven given)) = refl
least_block (Some (LabelGiven place)) = refl

-- ---- values

is_same : (a b : Value) → same_value a b ≡ true → a ≡ b
is_same (Int n) (Int k) e = ap Int (eqb-true n k e)
is_same Null Null e = refl
is_same (LocalValue x) (LocalValue y) e = ap LocalValue ((bytes_eq-Decides x y).0 e)
is_same (GlobalValue x) (GlobalValue y) e = ap GlobalValue ((bytes_eq-Decides x y).0 e)
is_same _ _ e = absurd (both_ways false refl e)

is_itself : (a : Value) → same_value a a ≡ true
is_itself (Int n) = eq-eqb n n refl
is_itself Null = refl
is_itself (LocalValue x) = (bytes_eq-Decides x x).1 refl
is_itself (GlobalValue x) = (bytes_eq-Decides x x).1 refl

same_of : (a b : Value) → a ≡ b → same_value a b ≡ true
same_of a b e = ap (same_value a) (sym e) ∙ is_itself a

-- ---- entries from one block

abbrev Among : List Edge → Edge → Type 0
Among [] e = ⊥
Among (d ∷ ds) e = (d ≡ e) ⊎ Among ds e

all_at : (p : Edge → Bool) (ds : List Edge) (e : Edge) → list_all p ds ≡ true → Among ds e → p e ≡ true
all_at p [] e all m = absurd m
all_at p (d ∷ ds) e all m = let q = and_parts (p d) (list_all p ds) all in elim m [ inl is ↦ ap p (sym is) ∙ q.0 | inr n ↦ all_at p ds e q.1 n ]

all_from : (p : Edge → Bool) (ds : List Edge) → ((e : Edge) → Among ds e → p e ≡ true) → list_all p ds ≡ true
all_from p [] each = refl
all_from p (d ∷ ds) each = and_from (p d) (list_all p ds) (each d (inl refl)) (all_from p ds (λ e m. each e (inr m)))

-- an entry's block has a first entry
has_first : (ds : List Edge) (e : Edge) → Among ds e → find (λ d. bytes_eq (edge_block d) e.block) ds ≡ None → ⊥
has_first [] e m none = m
has_first (d ∷ ds) e m none = at (bytes_eq (edge_block d) e.block) refl none m (has_first ds e)
  where
    at : (b : Bool) → bytes_eq (edge_block d) e.block ≡ b → cond b (Some d) (find (λ c. bytes_eq (edge_block c) e.block) ds) ≡ None → (d ≡ e) ⊎ Among ds e → (Among ds e → find (λ c. bytes_eq (edge_block c) e.block) ds ≡ None → ⊥) → ⊥
    at true is none m rest = cc
    at false is none (inl same) rest = both_ways (bytes_eq (edge_block d) e.block) is (ap (λ (c : Edge). bytes_eq c.block e.block) same ∙ (bytes_eq-Decides e.block e.block).1 refl)
    at false is none (inr n) rest = rest n none

-- where an entry agrees with all, it has the value of the first one
first_has_value : (e : Edge) (ds : List Edge) → list_all (agrees_with e) ds ≡ true → has_value_of e (find (λ d. bytes_eq (edge_block d) e.block) ds) ≡ true
first_has_value e [] all = refl
first_has_value e (d ∷ ds) all =
    let q = and_parts (agrees_with e d) (list_all (agrees_with e) ds) all in
    at (bytes_eq d.block e.block) refl q.0 (first_has_value e ds q.1)
  where
    at : (b : Bool) → bytes_eq d.block e.block ≡ b → agrees_with e d ≡ true → has_value_of e (find (λ c. bytes_eq (edge_block c) e.block) ds) ≡ true → has_value_of e (cond b (Some d) (find (λ c. bytes_eq (edge_block c) e.block) ds)) ≡ true
    at true is one rest = ap (λ b. if b then same_value e.value d.value else true) (sym is ∙ same_turned d.block e.block) ∙ one
    at false is one rest = rest

-- two entries that have the value of the same first one
both_have_value : (e d : Edge) (o : Option Edge) → has_value_of e o ≡ true → has_value_of d o ≡ true → (o ≡ None → ⊥) → same_value e.value d.value ≡ true
both_have_value e d None one two some = absurd (some refl)
both_have_value e d (Some f) one two some = same_of e.value d.value (is_same e.value f.value one ∙ sym (is_same d.value f.value two))

pub one_value : (edges : List Edge) → list_all (agrees_with_first edges) edges ≡ list_all (λ e. list_all (agrees_with e) edges) edges
one_value edges = same_from_decides (list_all (agrees_with_first edges) edges) (list_all (λ e. list_all (agrees_with e) edges) edges) here (firsts, pairs)
  where
    here : Decides (list_all (agrees_with_first edges) edges) (list_all (agrees_with_first edges) edges ≡ true)
    here = ((λ e. e), (λ e. e))

    agree : (e d : Edge) (b : Bool) → bytes_eq e.block d.block ≡ b → Among edges e → agrees_with_first edges e ≡ true → agrees_with_first edges d ≡ true → (if b then same_value e.value d.value else true) ≡ true
    agree e d true is m one two =
        both_have_value e d (find (λ c. bytes_eq (edge_block c) e.block) edges) one
        (ap (λ x. has_value_of d (find (λ c. bytes_eq (edge_block c) x) edges)) ((bytes_eq-Decides e.block d.block).0 is) ∙ two) (has_first edges e m)
    agree e d false is m one two = refl

    pairs : list_all (agrees_with_first edges) edges ≡ true → list_all (λ e. list_all (agrees_with e) edges) edges ≡ true
    pairs all =
        all_from (λ e. list_all (agrees_with e) edges) edges (λ e m.
        all_from (agrees_with e) edges (λ d n. agree e d (bytes_eq e.block d.block) refl m (all_at (agrees_with_first edges) edges e all m) (all_at (agrees_with_first edges) edges d all n)))

    firsts : list_all (λ e. list_all (agrees_with e) edges) edges ≡ true → list_all (agrees_with_first edges) edges ≡ true
    firsts all = all_from (agrees_with_first edges) edges (λ e m. first_has_value e edges (all_at (λ c. list_all (agrees_with c) edges) edges e all m))
