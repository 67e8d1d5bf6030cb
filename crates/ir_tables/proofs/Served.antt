-- A whole table serves for the types, and so does their list.
use Rattle.std.proofs.Common.{◌≡◌, ℕ, zero, suc, ◌+◌, ◌-◌, ◌<◌, List, length, Option, Some, None, option_map, refl, sym, ap, ◌∙◌, subst, arith}
use Rattle.std.specs.Prelude.{IsSome, option_and_then}
use Rattle.std.specs.Borrow.{Bor}
use Rattle.std.proofs.lemmas.Option.{none-some}
use Rattle.ir_core.specs.declared.types.Ty.{Ty, out-Ty, out-roll-Ty}
use Rattle.ir_core.specs.declared.types.Ty.TheOpen.{Ty-F}
use Rattle.ir_core.specs.declared.types.Ty.TheVariants.{Named as NamedTy, rolls-Named}
use Rattle.ir_core.specs.declared.module.TypeDef.{TypeDef}
use Rattle.ir_core.specs.Layout.{Layout, named_layout, named_parts, layer_parts, body_parts, body_of}
use Rattle.ir_tables.specs.declared.named.Named.TheVariants.{InTable, InList}
use Rattle.ir_tables.specs.declared.table.Known.{Known}
use Rattle.ir_tables.specs.declared.table.Table.{Table}
use Rattle.ir_tables.specs.Laid.{AreKept, laid_of}
use Rattle.ir_tables.specs.Named.{listed_laid, Serves}
use Rattle.ir_tables.specs.Table.{known_of, end_parts, KnowsAll, IsTable}
use Rattle.ir_tables.proofs.Deeper.{layout_by}
use Rattle.ir_tables.proofs.Kept.{kept}

-- ---- the table

module _ (types : List TypeDef) (x : List ℕ) where
  name_kept : (o : Option Known) → KnowsAll types (length types) x o → AreKept (option_map (λ (k : Known). k.laid) o) (named_layout (length types) types x)
  name_kept None none = subst (AreKept None) (sym none) tt
  name_kept (Some k) w = subst (AreKept (Some k.laid)) (sym w.1) w.2

  no_parts : (o : Option Layout) → None ≡ o → IsSome o → ⊥
  no_parts None e some = let f : ⊥ = cc in f
  no_parts (Some l) e some = none-some l e

  name_parts_are : (o : Option Known) → KnowsAll types (length types) x o → IsSome (named_layout (length types) types x) → end_parts types o ≡ named_parts (length types) types x
  name_parts_are None none some = absurd (no_parts (named_layout (length types) types x) (sym none) some)
  name_parts_are (Some k) w some = sym w.3

pub table_serves : (types : Bor (List TypeDef)) (table : Bor Table) → IsTable types.now table.now → Serves types.now (InTable types table)
table_serves types table right = record {
  laid = λ x. name_kept types.now x (known_of table.now x) (right x);
  parts = λ x. name_parts_are types.now x (known_of table.now x) (right x);
}

-- ---- the list

module _ (types : List TypeDef) where
  body_kept : (depth : ℕ) → ((x : List ℕ) → AreKept (listed_laid depth types x) (named_layout depth types x)) → (o : Option Ty) → AreKept (option_and_then (laid_of (listed_laid depth types)) o) (option_and_then (layout_by (named_layout depth types)) o)
  body_kept depth all None = tt
  body_kept depth all (Some ty) = kept (listed_laid depth types) (named_layout depth types) all ty

  pub listed_kept : (depth : ℕ) (x : List ℕ) → AreKept (listed_laid depth types x) (named_layout depth types x)
  listed_kept zero x = tt
  listed_kept (suc depth) x = body_kept depth (listed_kept depth) (body_of types x)

pub list_serves : (types : Bor (List TypeDef)) → Serves types.now (InList types (length types.now))
list_serves types = record {
  laid = listed_kept types.now (length types.now);
  parts = λ x some. refl;
}

-- a name that stands for another one has its parts, with a depth less
pub named_further : (types : List TypeDef) (depth counter : ℕ) (x y : List ℕ) (t : Ty) → counter < depth → Some t ≡ body_of types x → t ≡ NamedTy y → named_parts (depth - (counter + 1)) types y ≡ named_parts (depth - counter) types x
named_further types depth counter x y t low body is =
    let more : suc (depth - (counter + 1)) ≡ depth - counter = omega arith in
    sym (ap (layer_parts (named_parts (depth - (counter + 1)) types)) (ap out-Ty (is ∙ sym (rolls-Named y)) ∙ out-roll-Ty (Ty-F.Named y)))
    ∙ ap (body_parts (named_parts (depth - (counter + 1)) types)) body
    ∙ ap (λ n. named_parts n types x) more
